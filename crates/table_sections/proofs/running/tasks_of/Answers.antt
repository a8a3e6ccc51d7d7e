use Rattle.std.proofs.Common.{◌≡◌, List, [], map, Vec, Global, sym, ◌∙◌, subst, append-nil}
use Rattle.std.specs.Vec.Iter.{into_iter_items}
use Rattle.run_seats.specs.Seating.{SeatView}
use Rattle.table_text.specs.declared.line.TableLine.{TableLine}
use Rattle.table_sections.specs.Preparing.{AllTasks}
use Rattle.table_sections.specs.declared.running.Task.{Task}
use Rattle.table_sections.proofs.Jobs.{nothing_left}
use Rattle.table_sections.proofs.running.tasks_of.Goals as goal

abbrev lines_of : List (Vec TableLine Global) → List (List TableLine)
lines_of lss = map (λ ls. ls.items) lss

pub returns : goal.returns
returns c =
    let none = c.in-None.ensures.steps in
    let no_lines : into_iter_items c.sections.lines-iterator ≡ [] = nothing_left (into_iter_items c.sections.lines-iterator) (sym c.sections.invariant.len ∙ none.0) in
    let no_seats : c.sections.ready.items ≡ [] = nothing_left c.sections.ready.items (c.sections.invariant.many ∙ (sym c.sections.invariant.len ∙ none.0)) in
    let last : AllTasks c.sections.ready.items (lines_of (into_iter_items c.sections.lines-iterator)) [] = subst (λ (w : List SeatView × List (Vec TableLine Global)). AllTasks w.0 (lines_of w.1) []) (λ i. (sym no_seats i, sym no_lines i)) tt in
    let all : into_iter_items c.into_iter-lines-iterator.result ≡ c.args.sections.items = c.into_iter-lines-iterator.ensures.into_iter_gives.0 in
    record {
      tasks = subst (λ (w : List (Vec TableLine Global) × List Task). AllTasks c.args.ready.items (lines_of w.0) w.1) (λ i. (all i, append-nil c.sections.tasks.items i)) (c.sections.invariant.gathered [] last);
    }
