-- The lines of one call that writes no block: a look-up, a key that isn't bound, a slot that is read, and a count.
use Rattle.std.proofs.Common.{◌≡◌, inl, ℕ, ◌+◌, ◌-◌, ◌≤◌, ℤ, List, [], ◌∷◌, ◌++◌, length, Option, Some, None, refl, ap, sym, ◌∙◌, subst, arith}
use Rattle.model_core.specs.declared.label.Label.{Label}
use Rattle.model_core.specs.declared.entry.Entry.{Entry}
use Rattle.model_core.specs.declared.reply.Reply.{Reply}
use Rattle.model_core.specs.declared.graph.Value.{Value}
use Rattle.model_core.specs.declared.graph.Value.TheVariants.{Int, Block, Nothing}
use Rattle.model_core.specs.declared.state.Mode.TheVariants.{Open}
use Rattle.model_core.specs.declared.state.Sizes.{Sizes}
use Rattle.model_core.specs.Graph.{label_of}
use Rattle.model_core.specs.Domains.{IsWithinLimits}
use Rattle.model_core.specs.Commands.{key_value, shown}
use Rattle.model_core.specs.History.{IsPrefix}
use Rattle.weak_laws.specs.Tables.Structures.{Binding, datum_at}
use Rattle.weak_laws.specs.Tables.Thinning.{WasOutside, state_of}
use Rattle.weak_laws.specs.Tables.Performing.{refusals, writings}
use Rattle.weak_laws.specs.Tables.Stages.{Goes, graph_of, held_in}
use Rattle.weak_laws.proofs.OfTables.BindingLemmas.{thinned_datum}
use Rattle.weak_laws.proofs.OfTables.StageLemmas.{since_outside}
use Rattle.weak_laws.specs.Maps.Calls.{value_of}
use Rattle.table_text.specs.declared.version.Version.{Version}
use Rattle.table_text.specs.declared.line.TableLine.{TableLine}
use Rattle.table_text.specs.declared.line.TableLine.TheVariants as line
use Rattle.table_text.specs.declared.machine.reply.LineReply.{LineReply}
use Rattle.table_text.specs.declared.machine.reply.LineReply.TheVariants as reply
use Rattle.table_text.specs.Machine.Machine.{Effect, TableState, Tallies, MayGo, key_in, WithKey, Shows}
use Rattle.table_run.specs.Keepers.Answers.{Gets, GetAnswers, Counts, bound_in}
use Rattle.table_run.specs.Standing.{Places, Stands}
use Rattle.table_text.specs.Machine.Said.{full_in, said}
use Rattle.table_run.specs.Running.{LineDone, MakesNew, WasCounted}
use Rattle.table_run.proofs.KeeperLemmas.{keeper_kept}
use Rattle.table_run.proofs.MachineLemmas.{may_same, datum_int, place_holds}
use Rattle.table_run.proofs.RegisterLemmas.{register_at}
use Rattle.table_run.proofs.StandLemmas.{outside_lost, left_with, frame_goes, frame_same, line_ends}

label_key : (o : Option Label) → label_of (key_value o) ≡ o
label_key None = refl
label_key (Some k) = refl

-- the key in a register, by what the register holds
pub held_key : (version : Version) (z : Sizes) (p : Places) (s : TableState) (old : List Entry) → Stands version z p s old → (r : ℕ) → 1 ≤ r → r ≤ 5 → label_of (held_in z old r) ≡ key_in s r
held_key version z p s old x r low high = ap label_of (x.shown.registers r low high) ∙ label_key (key_in s r)

-- a call that did nothing
pub nothing_done : (version : Version) (z : Sizes) (p : Places) (s : TableState) (old new : List Entry) → Stands version z p s old → (lines : List TableLine) (l : TableLine) (a : LineReply) → Effect s l a s → MakesNew z old l a s → WasCounted version z p old l a old → refusals new ≡ refusals old + full_in a → new ≡ old → LineDone version z p lines l s old a new
nothing_done version z p s old new x lines l a effect fresh counted refused same =
    subst (λ (h : List Entry). LineDone version z p lines l s old a h) (sym same)
    (line_ends version z p lines l s old a s old (record { left = s; goes = may_same s; does = inl effect }) fresh counted (record { rest = []; appends = sym (end old) }) (sym (ap refusals same) ∙ refused) x)
  where
    end : (h : List Entry) → h ++ [] ≡ h
    end [] = refl
    end (e ∷ h) = ap (λ (t : List Entry). e ∷ t) (end h)

-- what a look-up shows
shows_found : (o : Option Value) → ((v : Value) → o ≡ Some v → (w : ℤ) × (v ≡ Int w)) → Shows o (said (shown (value_of o)))
shows_found None int = refl
shows_found (Some (Int w)) int = refl
shows_found (Some (Block l)) int = let t = int (Block l) refl in cc
shows_found (Some Nothing) int = let t = int Nothing refl in cc

module _ (version : Version) (z : Sizes) (limits : IsWithinLimits z) (p : Places) (s : TableState) (old new : List Entry) (x : Stands version z p s old) (goes : Goes z old new []) (quiet : writings new ≤ writings old) where
  abbrev pub left : TableState
  left = left_with version z p s old new x (WasOutside z old new) goes.changes (outside_lost version z p s old new x quiet) s.registers

  pub read_stands : ((r : ℕ) → 8 ≤ r → held_in z new r ≡ Nothing) → Stands version z p left new
  read_stands others = frame_same version z p s old new x (WasOutside z old new) goes.changes (outside_lost version z p s old new x quiet)
      (λ r low high. register_at z old new new r low high goes.grows (record { rest = []; appends = sym (end new) }) quiet) others
    where
      end : (h : List Entry) → h ++ [] ≡ h
      end [] = refl
      end (e ∷ h) = ap (λ (t : List Entry). e ∷ t) (end h)

  pub read_goes : ((r : ℕ) → 8 ≤ r → held_in z new r ≡ Nothing) → (state_of z new).mode ≡ Open → MayGo s left
  read_goes others calm = frame_goes version z p s old new x (WasOutside z old new) goes.changes (outside_lost version z p s old new x quiet) s.registers (read_stands others) goes.legal calm (λ k w. w)

  -- a line whose effect is what the machine shows of what is left
  pub read_line : (lines : List TableLine) (l : TableLine) (a : LineReply) → Effect left l a left → MakesNew z old l a left → WasCounted version z p old l a new → refusals new ≡ refusals old + full_in a → ((r : ℕ) → 8 ≤ r → held_in z new r ≡ Nothing) → (state_of z new).mode ≡ Open → LineDone version z p lines l s old a new
  read_line lines l a effect fresh counted refused others calm =
      line_ends version z p lines l s old a left new (record { left = left; goes = read_goes others calm; does = inl effect }) fresh counted goes.grows refused (read_stands others)

  -- a key that a register holds isn't taken from a front of the call on
  pub not_taken : (r : ℕ) (k : Label) (front : List Entry) → key_in s r ≡ Some k → IsPrefix old front → WasOutside z front new k → ⊥
  not_taken r k front key since w = outside_lost version z p s old new x quiet k (since_outside z old front new k since w) (r - 1, place_holds s.registers (r - 1) k key)

-- `get R`
get_found : (version : Version) (z : Sizes) (limits : IsWithinLimits z) (p : Places) (s : TableState) (old new : List Entry) (x : Stands version z p s old) (lines : List TableLine) (r : ℕ) (k : Label) (rep : Reply) → key_in s r ≡ Some k → Gets version z old new p.keeper x.shown.shape k 0 rep
    → writings new ≤ writings old → refusals new ≡ refusals old + full_in (said rep) → LineDone version z p lines (line.Get r) s old (said rep) new
get_found version z limits p s old new x lines r k rep key g quiet refused =
    let goes = g.goes in
    let t = left version z limits p s old new x goes quiet in
    let stands = read_stands version z limits p s old new x goes quiet (λ q high. g.settled.high q high (x.others q high)) in
    let datum : datum_at (bound_in version x.shown.shape z new p.keeper) k ≡ g.found = thinned_datum (WasOutside z g.front new) k (not_taken version z limits p s old new x goes quiet r k g.front key g.since) _ _ g.thinned ∙ g.bound in
    let shows : Shows (datum_at t.bindings k) (said rep) =
    subst (λ (o : Option Value). Shows o (said rep)) (sym datum) (subst (λ (a : Reply). Shows g.found (said a)) (sym g.answers) (shows_found g.found (λ v is. datum_int k t.bindings v stands.ints (datum ∙ is)))) in
    read_line version z limits p s old new x goes quiet lines (line.Get r) (said rep) (subst (λ (o : Option Label). WithKey o t (said rep) t (λ j. Shows (datum_at t.bindings j) (said rep) × (t ≡ t))) (sym key) (shows, refl)) tt tt refused stands.others g.settled.calm

pub get_line : (version : Version) (z : Sizes) (limits : IsWithinLimits z) (p : Places) (s : TableState) (old new : List Entry) (x : Stands version z p s old) (lines : List TableLine) (r : ℕ) (rep : Reply) → (o : Option Label) → key_in s r ≡ o → GetAnswers version z old new p.keeper x.shown.shape 0 o rep
    → writings new ≤ writings old → refusals new ≡ refusals old + full_in (said rep) → LineDone version z p lines (line.Get r) s old (said rep) new
get_line version z limits p s old new x lines r rep None key (bad, same) quiet refused =
    nothing_done version z p s old new x lines (line.Get r) (said rep) (subst (λ (o : Option Label). WithKey o s (said rep) s (λ j. Shows (datum_at s.bindings j) (said rep) × (s ≡ s))) (sym key) (ap said bad, refl)) tt tt refused same
get_line version z limits p s old new x lines r rep (Some k) key g quiet refused = get_found version z limits p s old new x lines r k rep key g quiet refused

-- `count`
pub count_line : (version : Version) (z : Sizes) (limits : IsWithinLimits z) (p : Places) (s : TableState) (old new : List Entry) (x : Stands version z p s old) (lines : List TableLine) (n : ℕ) → Counts version z old new p.keeper x.shown.shape n → writings new ≡ writings old → refusals new ≡ refusals old
    → LineDone version z p lines line.Count s old (reply.Counted n) new
count_line version z limits p s old new x lines n c quiet none =
    let shape = x.shown.shape in
    let few : writings new ≤ writings old = omega (arith, quiet) in
    let t : TableState = left version z limits p s old new x c.goes few in
    let others : (r : ℕ) → 8 ≤ r → held_in z new r ≡ Nothing = λ r high. c.settled.high r high (x.others r high) in
    let kept = keeper_kept (WasOutside z old c.front) [] (graph_of z old) (graph_of z c.front) c.before.changes version shape z.domains p.keeper (λ l h. refl) x.shown.keeper in
    let tallies : Tallies s (reply.Counted n) t = record {
      goes = read_goes version z limits p s old new x c.goes few others c.settled.calm;
      number = n;
      answers = refl;
      most = subst (λ (bs : List Binding). n ≤ length bs) x.shown.bindings_are c.many;
      least = c.few;
    } in
    line_ends version z p lines line.Count s old (reply.Counted n) t new (record { left = s; goes = may_same s; does = inl tallies }) tt
    (record { shape = shape; front = c.front; since = c.before.grows; until = c.behind.grows; keeper = kept.keeper; answers = ap reply.Counted (sym c.number) })
    c.goes.grows (omega (arith, none)) (read_stands version z limits p s old new x c.goes few others)
