-- The lines of one command: a key is made, forgotten or copied, and a register that isn't the machine's is written.
use Rattle.std.proofs.Common.{◌≡◌, ◌≢◌, ◌⊎◌, inl, inr, ⊎_elim, ℕ, zero, suc, ◌+◌, ◌-◌, ◌≤◌, List, [], ◌∷◌, get_or, set, Option, Some, None, refl, ap, sym, ◌∙◌, subst, arith, length-set, get_or-set_same, get_or-set_other}
use Rattle.model_core.specs.declared.label.Label.{Label}
use Rattle.model_core.specs.declared.entry.Entry.{Entry}
use Rattle.model_core.specs.declared.graph.Value.{Value}
use Rattle.model_core.specs.declared.graph.Value.TheVariants.{Block, Nothing}
use Rattle.model_core.specs.declared.graph.Node.{Node}
use Rattle.model_core.specs.declared.state.Mode.TheVariants.{Open}
use Rattle.model_core.specs.declared.state.Sizes.{Sizes}
use Rattle.model_core.specs.Graph.{node_at}
use Rattle.model_core.specs.Domains.{IsWithinLimits}
use Rattle.model_core.specs.Commands.{key_value}
use Rattle.weak_laws.specs.Tables.Structures.{keys_of}
use Rattle.weak_laws.specs.Tables.Thinning.{Went, state_of}
use Rattle.weak_laws.specs.Tables.Performing.{After, refusals, registers_of}
use Rattle.weak_laws.specs.Tables.Stages.{graph_of, held_in}
use Rattle.weak_laws.proofs.OfTables.OnceLemmas.{lacks}
use Rattle.weak_tables.proofs.SearchLemmas.{set_here, set_other}
use Rattle.table_text.specs.declared.version.Version.{Version}
use Rattle.table_text.specs.declared.line.TableLine.{TableLine}
use Rattle.table_text.specs.declared.line.TableLine.TheVariants as line
use Rattle.table_text.specs.declared.machine.reply.LineReply.TheVariants as reply
use Rattle.table_text.specs.Machine.Machine.{TableState, MayGo, IsThere, Holds, with_key, MayBeRefused}
use Rattle.table_run.specs.Standing.{Places, Stands, IsKnown, key_node}
use Rattle.table_run.specs.Running.{LineDone, WasCounted}
use Rattle.table_run.proofs.FreshLemmas.{full_makes_none}
use Rattle.table_run.proofs.MachineLemmas.{known_before}
use Rattle.table_run.proofs.StandLemmas.{went_lost, left_with, frame_goes, frame_goes_by, frame_key, frame_stands, frame_same, line_ends}

pub same_or_other : (a b : ℕ) → (a ≡ b) ⊎ (a ≢ b)
same_or_other zero zero = inl refl
same_or_other zero (suc b) = inr (λ e. absurd (omega arith))
same_or_other (suc a) zero = inr (λ e. absurd (omega arith))
same_or_other (suc a) (suc b) = ⊎_elim (λ same. inl (ap suc same)) (λ other. inr (λ e. other (omega arith))) (same_or_other a b)

pub holds_set : (ps : List (Option Label)) (j : ℕ) (key : Option Label) (k : Label) → Holds (set ps j key) k → (key ≡ Some k) ⊎ Holds ps k
holds_set [] j key k held = inr held
holds_set (p ∷ ps) zero key k (zero, at) = inl cc
holds_set (p ∷ ps) zero key k (suc i, at) = inr (suc i, at)
holds_set (p ∷ ps) (suc j) key k (zero, at) = inr (0, at)
holds_set (p ∷ ps) (suc j) key k (suc i, at) = ⊎_elim (λ same. inl same) (λ held. inr (suc held.0, held.1)) (holds_set ps j key k (i, at))

module _ (version : Version) (z : Sizes) (limits : IsWithinLimits z) (p : Places) (s : TableState) (old new : List Entry) (x : Stands version z p s old) where
  -- after a command that changes no block
  module _ (rs : List Value) (after : After z old new [] rs) where
    abbrev pub after_with : List (Option Label) → TableState
    after_with keys = left_with version z p s old new x (Went z old new) after.changes (went_lost version z p s old new x) keys

    pub after_goes : (keys : List (Option Label)) → Stands version z p (after_with keys) new → (state_of z new).mode ≡ Open → MayGo s (after_with s.registers)
    after_goes keys y calm = frame_goes version z p s old new x (Went z old new) after.changes (went_lost version z p s old new x) keys y after.legal calm (λ k w. w.was)

    pub after_goes_by : ((k : Label) → IsThere (after_with s.registers) k → Holds s.registers k) → MayGo s (after_with s.registers)
    after_goes_by held = frame_goes_by version z p s old new x (Went z old new) after.changes (went_lost version z p s old new x) (λ k w there. went_lost version z p s old new x k w (held k there))

    pub after_key : (k : Label) → IsKnown s k → node_at (graph_of z new) k ≡ Some key_node
    after_key = frame_key version z p s old new x (Went z old new) after.changes (went_lost version z p s old new x)

    pub after_same : ((r : ℕ) → 1 ≤ r → r ≤ 7 → held_in z new r ≡ held_in z old r) → ((r : ℕ) → 8 ≤ r → held_in z new r ≡ Nothing) → Stands version z p (after_with s.registers) new
    after_same = frame_same version z p s old new x (Went z old new) after.changes (went_lost version z p s old new x)

  -- no register was written
  pub stands_reading : (after : After z old new [] (registers_of z old)) → Stands version z p (after_with (registers_of z old) after s.registers) new
  stands_reading after =
      let same : (r : ℕ) → held_in z new r ≡ held_in z old r = λ r. ap (λ (rs : List Value). get_or rs r Nothing) after.registers_are in
      after_same (registers_of z old) after (λ r low high. same r) (λ r high. same r ∙ x.others r high)

  -- register 0 was
  pub stands_zero : (v : Value) (after : After z old new [] (set (registers_of z old) 0 v)) → Stands version z p (after_with (set (registers_of z old) 0 v) after s.registers) new
  stands_zero v after =
      after_same (set (registers_of z old) 0 v) after
      (λ r low high. set_other z limits old old new 0 v after.registers_are r (λ e. absurd (omega arith)))
      (λ r high. set_other z limits old old new 0 v after.registers_are r (λ e. absurd (omega arith)) ∙ x.others r high)

  -- one of registers 1 to 5 was, and holds a key or nothing
  module _ (r : ℕ) (low : 1 ≤ r) (high : r ≤ 5) (key : Option Label) (after : After z old new [] (set (registers_of z old) r (key_value key))) where
    abbrev v : Value
    v = key_value key

    here : held_in z new r ≡ v
    here = set_here z limits old old new r v after.registers_are (omega arith)

    other : (q : ℕ) → q ≢ r → held_in z new q ≡ held_in z old q
    other q differs = set_other z limits old old new r v after.registers_are q differs

    registers : (q : ℕ) → 1 ≤ q → q ≤ 5 → held_in z new q ≡ key_value (get_or (set s.registers (r - 1) key) (q - 1) None)
    registers q some few = ⊎_elim
        (λ same. ap (held_in z new) same ∙ here ∙ ap key_value (sym (ap (λ (n : ℕ). get_or (set s.registers (r - 1) key) (n - 1) None) same
        ∙ get_or-set_same s.registers (r - 1) key None (let five = x.five in omega arith))))
        (λ differs. other q differs ∙ x.shown.registers q some few ∙ ap key_value (sym (get_or-set_other s.registers (r - 1) (q - 1) key None (λ e. differs (omega arith)))))
        (same_or_other q r)

    pub stands_set : ((k : Label) → key ≡ Some k → node_at (graph_of z new) k ≡ Some key_node) → Stands version z p (after_with (set (registers_of z old) r v) after (set s.registers (r - 1) key)) new
    stands_set node =
        frame_stands version z p s old new x (Went z old new) after.changes (went_lost version z p s old new x) (set s.registers (r - 1) key) (length-set s.registers (r - 1) key ∙ x.five) registers
        (other 6 (λ e. absurd (omega arith)) ∙ x.keeper_held) (other 7 (λ e. absurd (omega arith)) ∙ x.array_held) (λ q many. other q (λ e. absurd (omega arith)) ∙ x.others q many)
        (λ k held. ⊎_elim (λ same. node k same) (λ before. after_key (set (registers_of z old) r v) after k (inl before)) (holds_set s.registers (r - 1) key k held))

  -- `forget R`
  pub forget_line : (lines : List TableLine) (r : ℕ) → 1 ≤ r → r ≤ 5 → After z old new [] (set (registers_of z old) r Nothing) → (state_of z new).mode ≡ Open → refusals new ≡ refusals old → LineDone version z p lines (line.Forget r) s old reply.Done new
  forget_line lines r low high after calm none =
      let y = stands_set r low high None after (λ k is. cc) in
      line_ends version z p lines (line.Forget r) s old reply.Done (with_key (after_with _ after s.registers) r None) new
      (record { left = after_with _ after s.registers; goes = after_goes _ after _ y calm; does = inl (refl, refl) }) tt tt after.grows (omega arith) y

  -- `key R`
  pub key_line : (lines : List TableLine) (r : ℕ) (l : Label) → 1 ≤ r → r ≤ 5 → After z old new [] (set (registers_of z old) r (Block l)) → (state_of z new).mode ≡ Open → node_at (graph_of z old) l ≡ None → node_at (graph_of z new) l ≡ Some key_node → refusals new ≡ refusals old
      → LineDone version z p lines (line.Key r) s old reply.Done new
  key_line lines r l low high after calm fresh made none =
      let left = after_with _ after s.registers in
      let unknown : IsKnown s l → ⊥ = λ known. (let clash : ◌≡◌ {A = Option Node} None (Some key_node) = sym fresh ∙ x.keys l known in cc) in
      let y = stands_set r low high (Some l) after (λ k is. let same : l ≡ k = cc in subst (λ (m : Label). node_at (graph_of z new) m ≡ Some key_node) same made) in
      let goes : MayGo s left = after_goes _ after _ y calm in
      let before : IsKnown left l → IsKnown s l = λ known. known_before s left l goes known in
      line_ends version z p lines (line.Key r) s old reply.Done (with_key left r (Some l)) new
      (record {
        left = left;
        goes = goes;
        does = inl (refl, (l, record { lost = λ held. unknown (inl held); unbound = lacks (keys_of left.bindings) l (λ bound. unknown (before (inr (inl bound)))); unset = λ held. unknown (before (inr (inr held))) }, refl));
      })
      (λ done. (l, get_or-set_same s.registers (r - 1) (Some l) None (let five = x.five in omega arith), fresh)) tt after.grows (omega arith) y

  -- a line whose one command is answered `full`
  pub full_line : (lines : List TableLine) (l : TableLine) → WasCounted version z p old l reply.Full new → (after : After z old new [] (registers_of z old)) → (state_of z new).mode ≡ Open → MayBeRefused version z lines l (after_with (registers_of z old) after s.registers) → refusals new ≡ refusals old + 1 → LineDone version z p lines l s old reply.Full new
  full_line lines l counted after calm may one =
      let left = after_with (registers_of z old) after s.registers in
      let y = stands_reading after in
      line_ends version z p lines l s old reply.Full left new (record { left = left; goes = after_goes _ after _ y calm; does = inr (refl, refl, may) }) (full_makes_none z old l left) counted after.grows one y
