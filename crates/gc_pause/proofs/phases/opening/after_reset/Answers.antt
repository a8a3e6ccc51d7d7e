use Rattle.std.proofs.Common.{◌∙◌}
use Rattle.heap_rule.specs.declared.phase.Kind.TheVariants.{Reset}
use Rattle.gc_pause.specs.Phases.Leading.{kind_after_reset}
use Rattle.gc_pause.proofs.OfPhases.Opens.{leads_list, reset_opens, reset_frees}
use Rattle.gc_pause.proofs.phases.opening.after_reset.Goals as goal

pub list_free-free-requires-clause-leader : goal.list_free-free-requires-clause-leader
list_free-free-requires-clause-leader c = leads_list c.args.dom.now.view Reset c.requires.first c.requires.odd ((λ e. cc), λ e. cc)

pub returns-in-Sweep-clause-opens : goal.returns-in-Sweep-clause-opens
returns-in-Sweep-clause-opens c =
    reset_frees c.args.heap.now.config c.args.decider c.args.dom.now.view c.list_free-free.new.dom.view c.wants-found.new.dom.view c.wants-found.result.bits c.list_free-free.result
    c.list_free-free.ensures.lists c.list_free-free.ensures.list c.wants-found.ensures.view c.clear_counts.new.dom.view c.kind_after_reset-next.result c.clear_counts.ensures.cleared
    (c.kind_after_reset-next.ensures ∙ λ i. kind_after_reset (c.config.ensures.value i) c.args.decider c.wants-found.result.bits c.list_free-free.result (c.requires.knows i))

pub returns-in_default : goal.returns-in_default
returns-in_default c = record {
  here = c.wants-found.ensures.here;
  opens = reset_opens c.args.heap.now.config c.args.decider c.args.dom.now.view c.list_free-free.new.dom.view c.wants-found.new.dom.view c.wants-found.result.bits c.list_free-free.result
      c.list_free-free.ensures.lists c.list_free-free.ensures.list c.wants-found.ensures.view c.kind_after_reset-next.result
      (c.kind_after_reset-next.ensures ∙ λ i. kind_after_reset (c.config.ensures.value i) c.args.decider c.wants-found.result.bits c.list_free-free.result (c.requires.knows i)) c.in_default.not-Sweep;
}
