-- What stays of the two structures where no block of theirs is written, and what may have gone.
use Rattle.std.proofs.Common.{◌≡◌, inl, inr, ℕ, zero, suc, ◌+◌, ◌-◌, ◌<◌, ◌≤◌, List, [], ◌∷◌, length, get_or, Option, Some, None, refl, ap, sym, ◌∙◌, subst, arith, append-nil}
use Rattle.model_core.specs.declared.label.Label.{Label}
use Rattle.model_core.specs.declared.entry.Entry.{Entry}
use Rattle.model_core.specs.declared.graph.Value.TheVariants.{Block, Nothing}
use Rattle.model_core.specs.declared.state.Mode.TheVariants.{Open}
use Rattle.model_core.specs.declared.state.Sizes.{Sizes}
use Rattle.model_core.specs.Graph.{node_at}
use Rattle.model_core.specs.Commands.{key_value}
use Rattle.model_core.specs.History.{IsPrefix, Legal}
use Rattle.model_laws.proofs.OfHistories.ApartLemmas.{IsKnownOut}
use Rattle.weak_laws.specs.Tables.Structures.{Apart, Binding, IsWeakArray, slot_keys}
use Rattle.weak_laws.specs.Tables.Thinning.{ThinnedBy, EmptiedBy, WasOutside, Went, Changes, state_of}
use Rattle.weak_laws.specs.Tables.Performing.{refusals, writings}
use Rattle.weak_laws.specs.Tables.Stages.{graph_of, held_in}
use Rattle.weak_laws.proofs.OfTables.BindingLemmas.{thinned_keys}
use Rattle.weak_laws.proofs.OfTables.ChangeLemmas.{array_kept}
use Rattle.weak_laws.proofs.OfTables.CollectorLemmas.{outside_unheld}
use Rattle.weak_laws.proofs.OfTables.LawLemmas.{keys_emptied}
use Rattle.weak_laws.proofs.OfTables.StageLemmas.{prefix_trans}
use Rattle.weak_tables.specs.Held.{IsBare, KeepsOthers, IsClean}
use Rattle.weak_tables.proofs.TidyLemmas.{all_kept, bare_lasts}
use Rattle.table_text.specs.declared.version.Version.{Version}
use Rattle.table_text.specs.declared.line.TableLine.{TableLine}
use Rattle.table_text.specs.declared.machine.reply.LineReply.{LineReply}
use Rattle.table_text.specs.Machine.Machine.{LineStep, TableState, MayGo, IsLost, IsThere, Holds}
use Rattle.table_run.specs.Keepers.Keepers.{Shape, kept_bindings}
use Rattle.table_run.specs.Standing.{Places, Stands, IsKnown, key_node, AreInts}
use Rattle.table_text.specs.Machine.Said.{full_in}
use Rattle.table_run.specs.Running.{LineDone, MakesNew, WasCounted}
use Rattle.table_run.proofs.FreshLemmas.{counted_before, makes_before}
use Rattle.table_run.proofs.KeeperLemmas.{Kept, keeper_kept}
use Rattle.table_run.proofs.MachineLemmas.{emptied_holds, goes_of, may_same, may_twice, thinned_ints, holds_place}
use Rattle.table_run.proofs.RegisterLemmas.{register_at}
use Rattle.table_run.proofs.TakenLemmas.{labelled, out_unbound, out_unset, taken_out}

-- a register that holds a key of the machine
pub register_of : (version : Version) (z : Sizes) (p : Places) (s : TableState) (h : List Entry) (i : ℕ) (k : Label) → Stands version z p s h → get_or s.registers i None ≡ Some k → i < 5 → held_in z h (i + 1) ≡ Block k
register_of version z p s h i k x is below =
    let same : i + 1 - 1 ≡ i = omega arith in
    x.shown.registers (i + 1) (omega arith) (omega arith) ∙ ap key_value (ap (λ (n : ℕ). get_or s.registers n None) same ∙ is)

-- what may go at one command is held by none
pub went_lost : (version : Version) (z : Sizes) (p : Places) (s : TableState) (old new : List Entry) → Stands version z p s old → (k : Label) → Went z old new k → IsLost s k
went_lost version z p s old new x k w (i, at) = let t = holds_place s.registers i k at in w.unheld 0 (i + 1) (register_of version z p s old i k x t.0 (let five = x.five in let below = t.1 in omega arith))

-- and so is what may go in a call that writes none of the registers
pub outside_lost : (version : Version) (z : Sizes) (p : Places) (s : TableState) (old new : List Entry) → Stands version z p s old → writings new ≤ writings old → (k : Label) → WasOutside z old new k → IsLost s k
outside_lost version z p s old new x quiet k w (i, at) =
    let t = holds_place s.registers i k at in
    let below : i < 5 = (let five = x.five in let few = t.1 in omega arith) in
    let there : held_in z w.front (i + 1) ≡ Block k = register_at z old w.front new (i + 1) (omega arith) (omega arith) w.since w.until quiet ∙ register_of version z p s old i k x t.0 below in
    outside_unheld (state_of z w.front) k w.outside 0 (i + 1) there

-- a register from 8 on holds nothing after a call
pub others_clean : (z : Sizes) (old new : List Entry) → ((r : ℕ) → 8 ≤ r → held_in z old r ≡ Nothing) → ((r : ℕ) → 11 ≤ r → held_in z new r ≡ held_in z old r) → IsClean z new → (r : ℕ) → 8 ≤ r → held_in z new r ≡ Nothing
others_clean z old new before keeps clean r high = go (r - 8) (omega arith)
  where
    go : (n : ℕ) → r ≡ 8 + n → held_in z new r ≡ Nothing
    go zero is = ap (held_in z new) is ∙ clean.eight
    go (suc zero) is = (let nine : r ≡ 9 = omega arith in ap (held_in z new) nine) ∙ clean.nine
    go (suc (suc zero)) is = (let ten : r ≡ 10 = omega arith in ap (held_in z new) ten) ∙ clean.ten
    go (suc (suc (suc n))) is = keeps r (omega arith) ∙ before r high

pub keeps_high : (z : Sizes) (old new : List Entry) → KeepsOthers z old new → (r : ℕ) → 11 ≤ r → held_in z new r ≡ held_in z old r
keeps_high z old new keeps r high = keeps r (λ e. absurd (omega arith)) (λ e. absurd (omega arith)) (λ e. absurd (omega arith))

-- no block of the two structures was written: they are what they were, and what went was lost
module _ (version : Version) (z : Sizes) (p : Places) (s : TableState) (old new : List Entry) (x : Stands version z p s old) (P : Label → Type 0) (changes : Changes P [] (graph_of z old) (graph_of z new)) (lost : (k : Label) → P k → IsLost s k) where
  abbrev shape : Shape version
  shape = x.shown.shape

  kept : Kept P version shape z.domains (graph_of z old) (graph_of z new) p.keeper
  kept = keeper_kept P [] (graph_of z old) (graph_of z new) changes version shape z.domains p.keeper (λ l h. refl) x.shown.keeper

  array_new : IsWeakArray (graph_of z new) p.array p.slots
  array_new = array_kept P [] (graph_of z old) (graph_of z new) changes p.array p.slots (λ l h. refl) x.shown.array

  emptied : EmptiedBy P (slot_keys (graph_of z old) p.slots) (slot_keys (graph_of z new) p.slots)
  emptied = keys_emptied P [] (graph_of z old) (graph_of z new) changes p.slots (λ l h. refl) x.shown.array.weak

  -- the machine with what is left, and these keys in its registers
  abbrev pub left_with : List (Option Label) → TableState
  left_with rs = record { registers = rs; bindings = kept_bindings version shape (graph_of z new) p.keeper; slots = slot_keys (graph_of z new) p.slots }

  thin_s : ThinnedBy P s.bindings (kept_bindings version shape (graph_of z new) p.keeper)
  thin_s = subst (λ (bs : List Binding). ThinnedBy P bs (kept_bindings version shape (graph_of z new) p.keeper)) x.shown.bindings_are kept.thinned

  emptied_s : EmptiedBy P s.slots (slot_keys (graph_of z new) p.slots)
  emptied_s = subst (λ (ks : List (Option Label)). EmptiedBy P ks (slot_keys (graph_of z new) p.slots)) x.shown.slots_are emptied

  -- what is left was known before
  known_left : (rs : List (Option Label)) (k : Label) → IsThere (left_with rs) k → IsKnown s k
  known_left rs k (inl bound) = inr (inl (thinned_keys P _ _ k thin_s bound))
  known_left rs k (inr slot) = inr (inr (emptied_holds P _ _ k emptied_s slot))

  -- where what went is nowhere afterwards it went from everywhere at once
  pub frame_goes_by : ((k : Label) → P k → IsThere (left_with s.registers) k → ⊥) → MayGo s (left_with s.registers)
  frame_goes_by nowhere = goes_of P s (kept_bindings version shape (graph_of z new) p.keeper) (slot_keys (graph_of z new) p.slots) lost thin_s emptied_s nowhere

  -- and so it is where no collection is under way
  pub frame_goes : (rs : List (Option Label)) → Stands version z p (left_with rs) new → Legal z new → (state_of z new).mode ≡ Open → ((k : Label) → P k → WasOutside z old new k) → MayGo s (left_with s.registers)
  frame_goes rs y legal calm was = frame_goes_by nowhere
    where
      known : (k : Label) → P k → IsThere (left_with s.registers) k → IsKnownOut k (state_of z new)
      known k gone there = taken_out z old new k legal calm (labelled (graph_of z old) k key_node (x.keys k (known_left s.registers k there))) (was k gone)

      nowhere : (k : Label) → P k → IsThere (left_with s.registers) k → ⊥
      nowhere k gone (inl bound) = out_unbound z new k (known k gone (inl bound)) 6 version shape z.domains p.keeper y.keeper_held kept.keeper bound
      nowhere k gone (inr slot) = out_unset z new k (known k gone (inr slot)) 7 p.array p.slots y.array_held array_new slot

  pub frame_key : (k : Label) → IsKnown s k → node_at (graph_of z new) k ≡ Some key_node
  frame_key k known = changes k key_node (x.keys k known) refl

  pub frame_stands : (rs : List (Option Label)) → length rs ≡ 5 → ((r : ℕ) → 1 ≤ r → r ≤ 5 → held_in z new r ≡ key_value (get_or rs (r - 1) None)) → held_in z new 6 ≡ Block p.keeper → held_in z new 7 ≡ Block p.array
      → ((r : ℕ) → 8 ≤ r → held_in z new r ≡ Nothing) → ((k : Label) → Holds rs k → node_at (graph_of z new) k ≡ Some key_node) → Stands version z p (left_with rs) new
  frame_stands rs five registers keeper_held array_held others keys = record {
    shown = record { shape = shape; keeper = kept.keeper; array = array_new; registers = registers; bindings_are = refl; slots_are = refl };
    five = five;
    sixteen = x.sixteen;
    keeper_held = keeper_held;
    array_held = array_held;
    apart = subst (Apart (p.array ∷ p.slots)) (sym kept.labels) x.apart;
    keys = λ k known. known_key k known;
    ints = thinned_ints P _ _ kept.thinned (subst AreInts (sym x.shown.bindings_are) x.ints);
    bare = all_kept IsBare bare_lasts P (graph_of z old) (graph_of z new) changes p.slots x.bare;
    others = others;
  } where
    known_key : (k : Label) → IsKnown (left_with rs) k → node_at (graph_of z new) k ≡ Some key_node
    known_key k (inl held) = keys k held
    known_key k (inr there) = frame_key k (known_left rs k there)

  -- with the same keys in the registers
  pub frame_same : ((r : ℕ) → 1 ≤ r → r ≤ 7 → held_in z new r ≡ held_in z old r) → ((r : ℕ) → 8 ≤ r → held_in z new r ≡ Nothing) → Stands version z p (left_with s.registers) new
  frame_same same others = frame_stands s.registers x.five (λ r low high. same r low (omega arith) ∙ x.shown.registers r low high) (same 6 (omega arith) (omega arith) ∙ x.keeper_held) (same 7 (omega arith) (omega arith) ∙ x.array_held) others
      (λ k held. frame_key k (inl held))

pub prefix_self : (h : List Entry) → IsPrefix h h
prefix_self h = record { rest = []; appends = sym (append-nil h) }

-- a line that is over with the last front of its call
pub line_ends : (version : Version) (z : Sizes) (p : Places) (lines : List TableLine) (l : TableLine) (s : TableState) (old : List Entry) (a : LineReply) (t : TableState) (new : List Entry) → LineStep version z lines l s a t → MakesNew z old l a t → WasCounted version z p old l a new → IsPrefix old new → refusals new ≡ refusals old + full_in a
    → Stands version z p t new → LineDone version z p lines l s old a new
line_ends version z p lines l s old a t new step fresh counted grows refused x = record {
  after = t;
  front = new;
  runs = record { step = step; fresh = fresh; counted = counted; grows = grows; shown = x.shown; refused = refused };
  until = prefix_self new;
  given = refl;
  left = t;
  goes = may_same t;
  stands = x;
}

-- something was done before a line
pub line_later : (version : Version) (z : Sizes) (p : Places) (lines : List TableLine) (l : TableLine) (s t : TableState) (old mid : List Entry) (a : LineReply) (new : List Entry) → MayGo s t → IsPrefix old mid → refusals mid ≡ refusals old → LineDone version z p lines l t mid a new
    → LineDone version z p lines l s old a new
line_later version z p lines l s t old mid a new goes grows none x = record {
  after = x.after;
  front = x.front;
  runs = record {
    step = record { left = x.runs.step.left; goes = may_twice s t x.runs.step.left goes x.runs.step.goes; does = x.runs.step.does };
    fresh = makes_before z old mid l a x.after grows x.runs.fresh;
    counted = counted_before version z p old mid l a x.front grows x.runs.counted;
    grows = prefix_trans old mid x.front grows x.runs.grows;
    shown = x.runs.shown;
    refused = x.runs.refused ∙ ap (λ (n : ℕ). n + full_in a) none;
  };
  until = x.until;
  given = x.given;
  left = x.left;
  goes = x.goes;
  stands = x.stands;
}
