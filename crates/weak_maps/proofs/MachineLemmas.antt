-- What a machine promised before one of its numbers was seen to be the same.
use Rattle.std.proofs.Common.{◌≡◌, ℕ, ◌+◌, List, ap, subst}
use Rattle.std.proofs.Common.{Bool, true, false, not, refl, sym, ◌∙◌, ◌≢◌, Option}
use Rattle.model_core.specs.declared.label.Label.{Label}
use Rattle.model_core.specs.declared.graph.Value.{Value}
use Rattle.model_core.specs.declared.graph.Value.TheVariants.{Block, Int, Nothing}
use Rattle.model_core.specs.declared.command.Command.{Command}
use Rattle.model_core.specs.declared.entry.Entry.{Entry}
use Rattle.model_core.specs.declared.reply.Reply.{Reply}
use Rattle.model_core.specs.declared.reply.Reply.TheVariants as reply
use Rattle.model_core.specs.Commands.{shown}
use Rattle.model_core.specs.declared.state.Sizes.{Sizes}
use Rattle.weak_laws.specs.Tables.Stages.{graph_of}
use Rattle.weak_laws.specs.Maps.Tries.{IsInPlace}
use Rattle.weak_laws.specs.Maps.Calls.{PerformedBy, PutsOrFull}
use Rattle.weak_maps.specs.Walks.{Descended, Emptied}
use Rattle.weak_maps.specs.Fields.{Cleared, Finds}
use Rattle.weak_maps.specs.Beside.{held_by}
use Rattle.weak_maps.specs.declared.putting.Try.{Try}
use Rattle.weak_maps.specs.Puts.{FillsLeaf, FindsField, KeepsLeaf, MakesLeaf}
use Rattle.weak_maps.specs.Settles.{Settles, SettlesAlone}
use Rattle.weak_maps.specs.Returns.{GetReturns, PutReturns, TakeLeaves, TakeReturns}

pub at_machine : (z now : Sizes) (d e : ℕ) (old new : List Entry) (c : Command) (r : Reply) → now ≡ z → e ≡ d → PerformedBy now e old new c r → PerformedBy z d old new c r
at_machine z now d e old new c r sizes domain p = subst (λ (w : Sizes × ℕ). PerformedBy w.0 w.1 old new c r) (λ i. (sizes i, domain i)) p

-- so with what is counted of the domain's entries
pub counted_by : (f : ℕ → List Entry → ℕ) (d e n : ℕ) (old new : List Entry) → e ≡ d → f e new ≡ f e old + n → f d new ≡ f d old + n
counted_by f d e n old new same is = subst (λ (m : ℕ). f m new ≡ f m old + n) same is

-- and a count that a later call leaves
pub same_count : (f : ℕ → List Entry → ℕ) (d d2 : ℕ) (mid new : List Entry) → d2 ≡ d → f d2 new ≡ f d2 mid → f d new ≡ f d mid
same_count f d d2 mid new same told = subst (λ (x : ℕ). f x new ≡ f x mid) same told

-- a walk that began at this front, and what it met
pub descended_at : (z now : Sizes) (d e : ℕ) (old first new : List Entry) (map key : ℕ) (k : Label) (a b : Bool) → now ≡ z → e ≡ d → first ≡ old → b ≡ a → Descended now e first new map key k b → Descended z d old new map key k a
descended_at z now d e old first new map key k a b sizes domain front is x =
    subst (λ (w : Sizes × ℕ × List Entry × Bool). Descended w.0 w.1 w.2 new map key k w.3) (λ i. (sizes i, domain i, front i, is i)) x

pub emptied_at : (z now : Sizes) (d e : ℕ) (old new : List Entry) (dst : ℕ) → now ≡ z → e ≡ d → Emptied now e old new dst → Emptied z d old new dst
emptied_at z now d e old new dst sizes domain x = subst (λ (w : Sizes × ℕ). Emptied w.0 w.1 old new dst) (λ i. (sizes i, domain i)) x

-- what is answered of the key that a register holds
pub returned_at : (z : Sizes) (d : ℕ) (old new : List Entry) (root : Label) (dst : ℕ) (v : Value) (k : Label) (r answer : Reply) → v ≡ Block k → r ≡ answer → GetReturns z d old new root dst (Block k) answer → GetReturns z d old new root dst v r
returned_at z d old new root dst v k r answer held is x = subst (λ (w : Value × Reply). GetReturns z d old new root dst w.0 w.1) (λ i. (sym held i, sym is i)) x

-- so with what a take is made of
pub performed_from : (z now : Sizes) (d e : ℕ) (old first new : List Entry) (c : Command) (r : Reply) → now ≡ z → e ≡ d → first ≡ old → PerformedBy now e first new c r → PerformedBy z d old new c r
performed_from z now d e old first new c r sizes domain front p = subst (λ (w : Sizes × ℕ × List Entry). PerformedBy w.0 w.1 w.2 new c r) (λ i. (sizes i, domain i, front i)) p

pub cleared_at : (z now : Sizes) (d e : ℕ) (old new : List Entry) → now ≡ z → e ≡ d → Cleared now e old new → Cleared z d old new
cleared_at z now d e old new sizes domain x = subst (λ (w : Sizes × ℕ). Cleared w.0 w.1 old new) (λ i. (sizes i, domain i)) x

pub finds_at : (z now : Sizes) (d e : ℕ) (old new : List Entry) (kr : ℕ) (k : Label) (i rest : ℕ) (s : Reply) (i2 rest2 : ℕ) (a b : Bool) → now ≡ z → e ≡ d → b ≡ a → Finds now e old new kr k i rest s i2 rest2 b → Finds z d old new kr k i rest s i2 rest2 a
finds_at z now d e old new kr k i rest s i2 rest2 a b sizes domain is x = subst (λ (w : Sizes × ℕ × Bool). Finds w.0 w.1 old new kr k i rest s i2 rest2 w.2) (λ j. (sizes j, domain j, is j)) x

pub taken_at : (z : Sizes) (d : ℕ) (old new : List Entry) (root : Label) (v : Value) (k : Label) (r : Reply) → v ≡ Block k → TakeReturns z d old new root (Block k) r → TakeReturns z d old new root v r
taken_at z d old new root v k r held x = subst (λ (w : Value). TakeReturns z d old new root w r) (sym held) x

-- and with what a put is made of
pub filled_at : (z now : Sizes) (d e : ℕ) (old first new : List Entry) (key item : ℕ) (a b : Bool) → now ≡ z → e ≡ d → first ≡ old → b ≡ a → FillsLeaf now e first new key item b → FillsLeaf z d old new key item a
filled_at z now d e old first new key item a b sizes domain front is x = subst (λ (w : Sizes × ℕ × List Entry × Bool). FillsLeaf w.0 w.1 w.2 new key item w.3) (λ i. (sizes i, domain i, front i, is i)) x

pub leaf_at : (z now : Sizes) (d e : ℕ) (old first new : List Entry) (kr item : ℕ) (a b : Bool) → now ≡ z → e ≡ d → first ≡ old → b ≡ a → MakesLeaf now e first new kr item b → MakesLeaf z d old new kr item a
leaf_at z now d e old first new kr item a b sizes domain front is x = subst (λ (w : Sizes × ℕ × List Entry × Bool). MakesLeaf w.0 w.1 w.2 new kr item w.3) (λ i. (sizes i, domain i, front i, is i)) x

pub field_at : (z now : Sizes) (d e : ℕ) (old new : List Entry) (kr : ℕ) (k : Label) (i rest : ℕ) (s : Reply) (i2 rest2 steps : ℕ) (other : Option Label) → now ≡ z → e ≡ d → FindsField now e old new kr k i rest s i2 rest2 steps other → FindsField z d old new kr k i rest s i2 rest2 steps other
field_at z now d e old new kr k i rest s i2 rest2 steps other sizes domain x = subst (λ (w : Sizes × ℕ). FindsField w.0 w.1 old new kr k i rest s i2 rest2 steps other) (λ j. (sizes j, domain j)) x

pub keeps_at : (z now : Sizes) (d e : ℕ) (old new : List Entry) (kr : ℕ) (k : Label) (i rest : ℕ) (s : Reply) → now ≡ z → e ≡ d → KeepsLeaf now e old new kr k i rest s → KeepsLeaf z d old new kr k i rest s
keeps_at z now d e old new kr k i rest s sizes domain x = subst (λ (w : Sizes × ℕ). KeepsLeaf w.0 w.1 old new kr k i rest s) (λ j. (sizes j, domain j)) x

pub settles_at : (z now : Sizes) (d e : ℕ) (old new : List Entry) (k : Label) (i rest level : ℕ) (other : Option Label) (a b : Try) → now ≡ z → e ≡ d → b ≡ a → Settles now e old new k i rest level other b → Settles z d old new k i rest level other a
settles_at z now d e old new k i rest level other a b sizes domain is x = subst (λ (w : Sizes × ℕ × Try). Settles w.0 w.1 old new k i rest level other w.2) (λ j. (sizes j, domain j, is j)) x

pub alone_at : (z now : Sizes) (d e : ℕ) (old new : List Entry) (k : Label) (i rest level : ℕ) (other : Option Label) (rooms : ℕ) (a b : Try) → now ≡ z → e ≡ d → b ≡ a → SettlesAlone now e old new k i rest level other rooms b → SettlesAlone z d old new k i rest level other rooms a
alone_at z now d e old new k i rest level other rooms a b sizes domain is x = subst (λ (w : Sizes × ℕ × Try). SettlesAlone w.0 w.1 old new k i rest level other rooms w.2) (λ j. (sizes j, domain j, is j)) x

pub put_at : (z : Sizes) (d : ℕ) (old new : List Entry) (root : Label) (v w : Value) (k : Label) (r : Reply) → v ≡ Block k → w ≢ Nothing → PutsOrFull z root d old new k w r × TakeLeaves z d old new root → IsInPlace z.domains (graph_of z new) root → PutReturns z d old new root v w r
put_at z d old new root v w k r held some x placed = subst (λ (u : Value). PutReturns z d old new root u w r) (sym held) (of w some x)
  where
    of : (u : Value) → u ≢ Nothing → PutsOrFull z root d old new k u r × TakeLeaves z d old new root → PutReturns z d old new root (Block k) u r
    of (Int a) is y = (y.0, y.1, placed)
    of (Block l) is y = (y.0, y.1, placed)
    of Nothing is y = absurd (is refl)

-- a register whose reply isn't empty holds something
pub shows_some : (z now : Sizes) (d e : ℕ) (old first : List Entry) (item : ℕ) (r : Reply) → now ≡ z → e ≡ d → first ≡ old → r ≡ shown (held_by now e first item) → (r ≡ reply.Empty → ⊥) → held_by z d old item ≢ Nothing
shows_some z now d e old first item r sizes domain front is some holds = some (is ∙ (ap (λ (w : Sizes × ℕ × List Entry). shown (held_by w.0 w.1 w.2 item)) (λ i. (sizes i, domain i, front i)) ∙ ap shown holds))

-- what isn't so
pub not_so : (b : Bool) → not b ≡ true → b ≡ false
not_so true is = let clash : false ≡ true = is in cc
not_so false is = refl

pub so_then : (b : Bool) → not b ≡ false → b ≡ true
so_then true is = refl
so_then false is = let clash : true ≡ false = is in cc
