use Rattle.std.proofs.Common.{◌≡◌, ℕ, List, [], ◌∷◌, ◌++◌, slice_get, sym, subst}
use Rattle.model_core.specs.declared.entry.Entry.{Entry}
use Rattle.model_core.specs.declared.state.Sizes.{Sizes}
use Rattle.table_text.specs.declared.line.TableLine.TheVariants as line_of
use Rattle.model_core.specs.declared.label.Label.{Label}
use Rattle.model_core.specs.declared.graph.Value.TheVariants.{Block}
use Rattle.model_core.specs.Graph.{label_of}
use Rattle.weak_laws.specs.Tables.Structures.{IsWeakArray}
use Rattle.weak_laws.specs.Tables.Stages.{graph_of, held_in}
use Rattle.table_text.specs.declared.machine.reply.LineReply.{LineReply}
use Rattle.table_run.specs.Running.{LineDone}
use Rattle.weak_tables.specs.Arrays.{SetAnswers}
use Rattle.table_run.proofs.LinesLemmas.{slot_set}
use Rattle.table_run.proofs.line.set_slot.Goals as goal

pub returns-clause-runs : goal.returns-clause-runs
returns-clause-runs g c =
    let z : Sizes = g.M.Machine.sizes c.args.m.now.machine in
    let old : List Entry = g.M.Machine.front c.args.m.now.machine in
    let new : List Entry = g.M.Machine.front c.weak_set-reply.new.m in
    let answer : (root : Label) (slots : List Label) → held_in z old 7 ≡ Block root → IsWeakArray (graph_of z old) root slots → SetAnswers z old new root slots c.args.slot (slice_get slots c.args.slot) (label_of (held_in z old c.args.reg)) c.weak_set-reply.result =
    subst (λ (i : ℕ). (root : Label) (slots : List Label) → held_in z old 7 ≡ Block root → IsWeakArray (graph_of z old) root slots → SetAnswers z old new root slots i (slice_get slots i) (label_of (held_in z old c.args.reg)) c.weak_set-reply.result)
    c.from.ensures c.weak_set-reply.ensures.answer in
    λ p s before x few. subst (λ (a : LineReply). LineDone c.args.version z p (before ++ line_of.SetWeak c.args.slot c.args.reg ∷ []) (line_of.SetWeak c.args.slot c.args.reg) s old a new) (sym c.said.ensures)
    (slot_set c.args.version z c.shows_legal.ensures.limits old new c.args.slot c.args.reg c.weak_set-reply.result c.requires.slot c.requires.register.0 c.requires.register.1 c.weak_set-reply.ensures.written c.weak_set-reply.ensures.refused answer p s (before ++ line_of.SetWeak c.args.slot c.args.reg ∷ []) x)
