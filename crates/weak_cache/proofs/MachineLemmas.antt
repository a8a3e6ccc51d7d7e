-- What was promised of a machine before its numbers were seen to be the same.
use Rattle.std.proofs.Common.{◌≡◌, ℕ, Bool, List, Option, subst}
use Rattle.model_core.specs.declared.label.Label.{Label}
use Rattle.model_core.specs.declared.entry.Entry.{Entry}
use Rattle.model_core.specs.declared.reply.Reply.{Reply}
use Rattle.model_core.specs.declared.state.Sizes.{Sizes}
use Rattle.weak_cache.specs.Passes.{Begun, Cleared, CutsOut, Draws, DrawsBehind, FindsLeaf, MovesFirst, Passes, Tells}

pub tells_at : (z now : Sizes) (d e : ℕ) (old new : List Entry) (slot : ℕ) (shows : Reply) (k : Label) (mine : Bool) → now ≡ z → e ≡ d → Tells now e old new slot shows k mine → Tells z d old new slot shows k mine
tells_at z now d e old new slot shows k mine sizes domain x = subst (λ (w : Sizes × ℕ). Tells w.0 w.1 old new slot shows k mine) (λ i. (sizes i, domain i)) x

pub passes_at : (z now : Sizes) (d e : ℕ) (old new : List Entry) (k : Label) (n : ℕ) (a b : Bool) → now ≡ z → e ≡ d → b ≡ a → Passes now e old new k n b → Passes z d old new k n a
passes_at z now d e old new k n a b sizes domain is x = subst (λ (w : Sizes × ℕ × Bool). Passes w.0 w.1 old new k n w.2) (λ i. (sizes i, domain i, is i)) x

pub moves_at : (z now : Sizes) (d e : ℕ) (old new : List Entry) (k : Label) (size : ℕ) → now ≡ z → e ≡ d → MovesFirst now e old new k size → MovesFirst z d old new k size
moves_at z now d e old new k size sizes domain x = subst (λ (w : Sizes × ℕ). MovesFirst w.0 w.1 old new k size) (λ i. (sizes i, domain i)) x

pub finds_at : (z now : Sizes) (d e : ℕ) (old new : List Entry) (k : Label) (size : ℕ) (a b : Option ℕ) → now ≡ z → e ≡ d → b ≡ a → FindsLeaf now e old new k size b → FindsLeaf z d old new k size a
finds_at z now d e old new k size a b sizes domain is x = subst (λ (w : Sizes × ℕ × Option ℕ). FindsLeaf w.0 w.1 old new k size w.2) (λ i. (sizes i, domain i, is i)) x

pub begun_at : (z now : Sizes) (d e : ℕ) (old first new : List Entry) (cache key : ℕ) → now ≡ z → e ≡ d → first ≡ old → Begun now e first new cache key → Begun z d old new cache key
begun_at z now d e old first new cache key sizes domain front x = subst (λ (w : Sizes × ℕ × List Entry). Begun w.0 w.1 w.2 new cache key) (λ i. (sizes i, domain i, front i)) x

pub cleared_at : (z now : Sizes) (d e : ℕ) (old new : List Entry) → now ≡ z → e ≡ d → Cleared now e old new → Cleared z d old new
cleared_at z now d e old new sizes domain x = subst (λ (w : Sizes × ℕ). Cleared w.0 w.1 old new) (λ i. (sizes i, domain i)) x

pub draws_at : (z now : Sizes) (d e : ℕ) (old new : List Entry) (j : ℕ) → now ≡ z → e ≡ d → Draws now e old new j → Draws z d old new j
draws_at z now d e old new j sizes domain x = subst (λ (w : Sizes × ℕ). Draws w.0 w.1 old new j) (λ i. (sizes i, domain i)) x

pub draws_behind_at : (z now : Sizes) (d e : ℕ) (old new : List Entry) (from size : ℕ) → now ≡ z → e ≡ d → DrawsBehind now e old new from size → DrawsBehind z d old new from size
draws_behind_at z now d e old new from size sizes domain x = subst (λ (w : Sizes × ℕ). DrawsBehind w.0 w.1 old new from size) (λ i. (sizes i, domain i)) x

pub cuts_at : (z now : Sizes) (d e : ℕ) (old new : List Entry) (from size : ℕ) → now ≡ z → e ≡ d → CutsOut now e old new from size → CutsOut z d old new from size
cuts_at z now d e old new from size sizes domain x = subst (λ (w : Sizes × ℕ). CutsOut w.0 w.1 old new from size) (λ i. (sizes i, domain i)) x
