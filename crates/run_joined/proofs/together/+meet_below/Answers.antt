use Rattle.std.proofs.Common.{◌≡◌, ◌∙◌, ◌+◌, ◌<◌, ◌≤◌, ℕ, List, [], ◌∷◌, ◌++◌, length, length-append, take, Option, Some, sym, ap, subst, arith}
use Rattle.heap_rule.specs.Token.{IsIn, SharedHeap}
use Rattle.run_turns.specs.Meeting.{AllRunsMet, AreHere, slot_seeing}
use Rattle.run_turns.specs.Runs.{IsRun, RunView}
use Rattle.run_seats.specs.Shared.Sharing.{SharedView}
use Rattle.run_joined.specs.Together.{MetBelow, OfHeap}
use Rattle.run_joined.proofs.Meetings.{map_count, met_at_once, met_one, more_here, nothing, taken_here, written_back}
use Rattle.run_joined.proofs.together.+meet_below.Goals as goal

pub meet_all-requires-clause-others : goal.meet_all-requires-clause-others
meet_all-requires-clause-others t c = subst (AreHere c.args.heap.now) (sym c.as_mut_slice.ensures.value) c.requires.others

pub returns-in_default-clause-met : goal.returns-in_default-clause-met
returns-in_default-clause-met t c =
    let met : AllRunsMet c.args.heap.now c.args.first c.meet_all.result c.args.others.now.items c.meet_all.new.others = subst (λ (rs : List (Option RunView)). AllRunsMet c.args.heap.now c.args.first c.meet_all.result rs c.meet_all.new.others) c.as_mut_slice.ensures.value c.meet_all.ensures.met in
    let n = ap length met.each_is ∙ map_count (slot_seeing met.history) c.args.others.now.items in
    let o = c.args.others.now.ok.0 in
    let count : c.args.others.now.len ≡ length c.meet_all.new.others = omega (arith, n, o) in
    let none : c.args.runs.now.items ≡ [] = (let cases = c.in_default.ensures.cases in let long = c.args.runs.now.ok.0 in nothing c.args.runs.now.items (omega arith)) in
    let left : c.pop.new.self.items ≡ [] = (let m = ap length c.in_default.ensures.items ∙ length-append c.pop.new.self.items [] in let z = ap length none in nothing c.pop.new.self.items (omega (arith, m, z))) in
    subst (λ (rs : List (Option RunView)). MetBelow c.args.heap.now c.args.first c.meet_all.result c.args.runs.now.items c.pop.new.self.items c.args.others.now.items rs)
    (sym (written_back c.args.others.now.len c.meet_all.new.others c.args.others.now.items count))
    (met_at_once c.args.heap.now c.args.first c.meet_all.result c.args.runs.now.items c.pop.new.self.items c.args.others.now.items c.meet_all.new.others none left met)

pub meet_below-first-requires : goal.meet_below-first-requires
meet_below-first-requires t c =
    let here = taken_here c.args.heap.now c.args.runs.now.items c.pop.new.self.items c.in-Some.last c.in-Some.ensures.items c.requires.here in
    let many = ap length c.in-Some.ensures.items ∙ length-append c.pop.new.self.items (c.in-Some.last ∷ []) in
    let more = ap length c.push_reserved.ensures.items ∙ length-append c.args.others.now.items (Some c.into_parts-share.result.1 ∷ []) in
    let capacity = c.push_reserved.ensures.capacity in
    let space = c.requires.space in
    let fits = c.requires.fits in
    let one : IsIn c.into_parts-share.result.1.token c.args.heap.now = subst (λ (w : RunView × SharedHeap). IsIn w.0.token w.1) (λ i. (sym c.into_parts-share.ensures.run i, here.1 i)) c.into_parts-share.ensures.here in (
      omega (arith, many),
      (
        c.requires.first,
        (
          here.0,
          (
            more_here c.args.heap.now c.args.others.now.items c.push_reserved.new.self.items c.into_parts-share.result.1 c.push_reserved.ensures.items c.requires.others one,
            (c.requires.empty, (omega (arith, many, more, capacity, space), omega (arith, many, more, fits))),
          ),
        ),
      ),
    )

pub returns-clause-met : goal.returns-clause-met
returns-clause-met t c =
    met_one c.args.heap.now c.args.first c.meet_below-first.result c.args.runs.now.items c.pop.new.self.items c.meet_below-first.new.runs.items c.push_reserved-2.new.self.items c.in-Some.last c.in-Some-slot.run' c.args.others.now.items c.push_reserved.new.self.items c.meet_below-first.new.others.items c.pop-2.new.self.items
    c.into_parts-share.result.0.value c.meet_below-first.ensures.met c.in-Some.ensures.items
    (c.push_reserved.ensures.items ∙ ap (λ (r : RunView). c.args.others.now.items ++ Some r ∷ []) c.into_parts-share.ensures.run)
    (c.in-Some-pop.ensures.items ∙ ap (λ (o : Option RunView). c.pop-2.new.self.items ++ o ∷ []) c.in-Some-slot.is)
    c.into_parts-share.ensures.heap
    (c.push_reserved-2.ensures.items ∙ ap (λ (s : SharedView). c.meet_below-first.new.runs.items ++ s ∷ []) c.of.ensures)
    (subst IsRun c.into_parts-share.ensures.run c.shows_faithful.ensures)
