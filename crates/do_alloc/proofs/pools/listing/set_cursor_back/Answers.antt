use Rattle.std.proofs.Common.{◌∙◌, ◌≤◌, ◌<◌, ℕ, subst}
use Rattle.heap_rule.specs.declared.phase.Kind.TheVariants.{Run}
use Rattle.step_pools.specs.Listings.{with_cursor}
use Rattle.do_alloc.proofs.OfPools.ListWriting.{counted_ready, above_ready, notes_back}
use Rattle.do_alloc.proofs.pools.listing.set_cursor_back.Goals as goal

pub listed_look-count-requires-clause-looker : goal.listed_look-count-requires-clause-looker
listed_look-count-requires-clause-looker c = record { kind = Run; leads = c.requires.opener }

pub cursor_look-requires-clause-counted : goal.cursor_look-requires-clause-counted
cursor_look-requires-clause-counted c = counted_ready c.args.heap.now.config Run c.args.dom.now.view c.listed_look-count.new.dom.view c.listed_look-count.result c.requires.opener c.listed_look-count.ensures.told

pub cursor_cut-requires-clause-above : goal.cursor_cut-requires-clause-above
cursor_cut-requires-clause-above c = above_ready c.args.heap.now.config c.listed_look-count.new.dom.view c.cursor_look.new.dom.view c.listed_look-count.result c.cursor_look.result
    (counted_ready c.args.heap.now.config Run c.args.dom.now.view c.listed_look-count.new.dom.view c.listed_look-count.result c.requires.opener c.listed_look-count.ensures.told)
    c.cursor_look.ensures.told (subst (λ (n : ℕ). n < c.cursor_look.result) (c.from-limit.ensures ∙ c.draw_limit.ensures.value) c.if-cursor_look-limit.true)

pub returns-then-cursor_look-limit-clause-noted : goal.returns-then-cursor_look-limit-clause-noted
returns-then-cursor_look-limit-clause-noted c = notes_back (with_cursor c.cursor_look.new.dom.view c.from-limit.result) c.cursor_cut.new.dom.view c.cursor_cut.ensures.told

pub returns-else-cursor_look-limit-clause-noted : goal.returns-else-cursor_look-limit-clause-noted
returns-else-cursor_look-limit-clause-noted c = notes_back (with_cursor c.listed_look-count.new.dom.view c.cursor_look.result) c.cursor_look.new.dom.view
    (c.cursor_look.ensures.told.low (subst (λ (n : ℕ). c.cursor_look.result ≤ n) (c.from-limit.ensures ∙ c.draw_limit.ensures.value) c.if-cursor_look-limit.false))
