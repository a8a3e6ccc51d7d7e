use Rattle.std.proofs.Common.{◌≡◌, ℕ, List, [], ◌∷◌, ◌++◌, slice_get, sym, subst}
use Rattle.model_core.specs.declared.entry.Entry.{Entry}
use Rattle.model_core.specs.declared.state.Sizes.{Sizes}
use Rattle.table_text.specs.declared.line.TableLine.TheVariants as line_of
use Rattle.model_core.specs.declared.label.Label.{Label}
use Rattle.model_core.specs.declared.graph.Value.TheVariants.{Block}
use Rattle.weak_laws.specs.Tables.Structures.{IsWeakArray}
use Rattle.weak_laws.specs.Tables.Stages.{graph_of, held_in}
use Rattle.table_text.specs.declared.machine.reply.LineReply.{LineReply}
use Rattle.table_run.specs.Running.{LineDone}
use Rattle.weak_tables.specs.Arrays.{SlotAnswers}
use Rattle.weak_tables.proofs.TakeLemmas.{at_sizes}
use Rattle.table_run.proofs.LinesLemmas.{slot_got}
use Rattle.table_run.proofs.line.get_slot.Goals as goal

pub returns-clause-runs : goal.returns-clause-runs
returns-clause-runs g c =
    let z : Sizes = g.M.Machine.sizes c.args.m.now.machine in
    let old : List Entry = g.M.Machine.front c.args.m.now.machine in
    let mid : List Entry = g.M.Machine.front c.weak_get-reply.new.m in
    let new : List Entry = g.M.Machine.front c.perform-copied.new.self in
    let answer : (root : Label) (slots : List Label) → held_in z old 7 ≡ Block root → IsWeakArray (graph_of z old) root slots → SlotAnswers z old mid root slots 0 c.args.slot (slice_get slots c.args.slot) c.weak_get-reply.result =
    subst (λ (i : ℕ). (root : Label) (slots : List Label) → held_in z old 7 ≡ Block root → IsWeakArray (graph_of z old) root slots → SlotAnswers z old mid root slots 0 i (slice_get slots i) c.weak_get-reply.result) c.from.ensures c.weak_get-reply.ensures.answer in
    λ p s before x few. subst (λ (a : LineReply). LineDone c.args.version z p (before ++ line_of.GetWeak c.args.dst c.args.slot ∷ []) (line_of.GetWeak c.args.dst c.args.slot) s old a new) (sym c.said.ensures)
    (slot_got c.args.version z c.shows_legal.ensures.limits old mid new c.args.dst c.args.slot c.weak_get-reply.result c.perform-copied.result c.requires.slot c.requires.register.0 c.requires.register.1 c.weak_get-reply.ensures.written c.weak_get-reply.ensures.refused
    (at_sizes z _ _ _ _ _ c.weak_get-reply.ensures.keeps.sizes c.perform-copied.ensures.performed) answer p s (before ++ line_of.GetWeak c.args.dst c.args.slot ∷ []) x)
