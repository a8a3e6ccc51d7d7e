use Rattle.std.proofs.Common.{◌≡◌, ◌∙◌, ◌∷◌, ◌+◌, ◌<◌, [], List, Option, None, length, length-append, length-set, sym, ap, subst, arith}
use Rattle.heap_rule.specs.Ending.{AllIn}
use Rattle.heap_rule.specs.Token.{Token, IsIn}
use Rattle.heap_rule.proofs.Ends.{popped}
use Rattle.heap_rule.proofs.Joined.{all_in_snoc}
use Rattle.run_turns.specs.Meeting.{AreHere, Brought, HasRun, MayLook}
use Rattle.run_turns.specs.Runs.{RunView, IsRun}
use Rattle.run_turns.proofs.Bringing.{brought_last, brought_past, came_back, here_else, may_look_snoc, some_length, unset}
use Rattle.run_turns.proofs.MeetingLemmas.{seeing_is_run}
use Rattle.run_turns.proofs.meeting.+bring.Goals as goal

pub returns-then-from-others-clause-brought : goal.returns-then-from-others-clause-brought
returns-then-from-others-clause-brought t c = let last = c.if-from-others.true in brought_last c.args.heap.now.config c.args.room.now.items c.meet_at_once.new.domains.items c.args.from c.args.others.now c.meet_at_once.result (omega (arith, last)) c.meet_at_once.ensures.brought

pub bring-requires : goal.bring-requires
bring-requires t c =
    let long : length c.take_run.new.runs ≡ length c.args.others.now = ap length c.take_run.ensures.rest ∙ length-set c.args.others.now c.args.from None in
    let more = c.if-from-others.false in
    let inside = c.requires.inside in
    let fits = c.requires.fits in (
      omega arith,
      (c.requires.here, (c.requires.some, (subst (AreHere c.args.heap.now) (sym c.take_run.ensures.rest) (here_else c.args.heap.now c.args.others.now c.args.from c.requires.others), (omega arith, (omega arith, c.requires.may))))),
    )

pub returns-in_default-clause-brought : goal.returns-in_default-clause-brought
returns-in_default-clause-brought t c =
    let runs = c.take_run.ensures.rest ∙ unset c.args.others.now c.args.from c.in_default.ensures.taken in
    brought_past c.args.heap.now.config c.args.room.now.items c.bring.new.room.items c.args.from c.args.others.now c.bring.new.others c.bring.result c.in_default.ensures.taken
    (subst (λ (rs : List (Option RunView)). Brought c.args.heap.now.config c.args.room.now.items c.bring.new.room.items (c.args.from + 1) rs c.bring.new.others c.bring.result) runs c.bring.ensures.brought)

pub bring-found-requires : goal.bring-found-requires
bring-found-requires t c =
    let long : length c.take_run.new.runs ≡ length c.args.others.now = ap length c.take_run.ensures.rest ∙ length-set c.args.others.now c.args.from None in
    let more = c.if-from-others.false in
    let inside = c.requires.inside in
    let fits = c.requires.fits in
    let token : Token = c.run.inside.domain in
    let one_more = ap length c.push_reserved.ensures.items ∙ length-append c.args.room.now.items (token ∷ []) in
    let here : IsIn token c.args.heap.now = subst (λ (z : Token). IsIn z c.args.heap.now) (sym (ap (λ (r : RunView). r.token) c.run.view_is)) (c.requires.others c.args.from c.in-Some.run' c.in-Some.ensures.taken) in (
      omega arith,
      (
        subst (AllIn c.args.heap.now) (sym c.push_reserved.ensures.items) (all_in_snoc c.args.heap.now c.args.room.now.items token c.requires.here here),
        (
          subst (λ (ts : List Token). 0 < length ts) (sym c.push_reserved.ensures.items) (some_length c.args.room.now.items token),
          (
            subst (AreHere c.args.heap.now) (sym c.take_run.ensures.rest) (here_else c.args.heap.now c.args.others.now c.args.from c.requires.others),
            (omega arith, (omega arith, λ e. subst MayLook (sym c.push_reserved.ensures.items) (may_look_snoc c.args.room.now.items token c.requires.some (c.requires.may e)))),
          ),
        ),
      ),
    )

pub invariant_of-put_run : goal.invariant_of-put_run
invariant_of-put_run t c =
    let r : RunView = record { token = c.run.inside.domain; commands = c.run.inside.commands.items; next = c.run.inside.next; replies = c.run.inside.replies.items; ended = c.run.inside.ended; left = c.run.inside.left; asked = c.run.inside.asked; collected = c.run.inside.collected; progress = c.run.inside.progress; due = c.run.inside.due; hints = c.run.inside.hints; supply = c.run.inside.supply; place = c.run.inside.place; spare = c.run.inside.spare; ran = c.run.inside.ran.items } in
    let there : HasRun c.args.others.now c.args.from r = subst (HasRun c.args.others.now c.args.from) (sym c.run.view_is) c.in-Some.ensures.taken in
    let here : IsIn r.token c.args.heap.now = c.requires.others c.args.from r there in
    let brought = subst (λ (p : List Token × List (Option RunView)). Brought c.args.heap.now.config p.0 c.bring-found.new.room.items (c.args.from + 1) p.1 c.bring-found.new.others c.bring-found.result) (λ i. (c.push_reserved.ensures.items i, c.take_run.ensures.rest i)) c.bring-found.ensures.brought in
    let back = came_back c.args.heap.now.config c.args.room.now.items c.bring-found.new.room.items c.pop.new.self.items c.args.from c.args.others.now c.bring-found.new.others c.bring-found.result r c.in-Some-pop.domain c.requires.some there brought c.in-Some-pop.ensures.items in (
      subst (λ (z : Token). IsRun (record r { token = z })) (sym back.token) (seeing_is_run c.args.heap.now r back.history here c.run.invariant.0 back.part.trails.begins),
      c.run.invariant.1,
    )

pub returns-clause-here : goal.returns-clause-here
returns-clause-here t c = (popped c.args.heap.now c.bring-found.new.room.items c.pop.new.self.items c.in-Some-pop.domain c.in-Some-pop.ensures.items c.bring-found.ensures.here).0

pub returns-clause-brought : goal.returns-clause-brought
returns-clause-brought t c =
    let r : RunView = record { token = c.run.inside.domain; commands = c.run.inside.commands.items; next = c.run.inside.next; replies = c.run.inside.replies.items; ended = c.run.inside.ended; left = c.run.inside.left; asked = c.run.inside.asked; collected = c.run.inside.collected; progress = c.run.inside.progress; due = c.run.inside.due; hints = c.run.inside.hints; supply = c.run.inside.supply; place = c.run.inside.place; spare = c.run.inside.spare; ran = c.run.inside.ran.items } in
    let there : HasRun c.args.others.now c.args.from r = subst (HasRun c.args.others.now c.args.from) (sym c.run.view_is) c.in-Some.ensures.taken in
    let brought = subst (λ (p : List Token × List (Option RunView)). Brought c.args.heap.now.config p.0 c.bring-found.new.room.items (c.args.from + 1) p.1 c.bring-found.new.others c.bring-found.result) (λ i. (c.push_reserved.ensures.items i, c.take_run.ensures.rest i)) c.bring-found.ensures.brought in
    let back = came_back c.args.heap.now.config c.args.room.now.items c.bring-found.new.room.items c.pop.new.self.items c.args.from c.args.others.now c.bring-found.new.others c.bring-found.result r c.in-Some-pop.domain c.requires.some there brought c.in-Some-pop.ensures.items in
    subst (λ (rs : List (Option RunView)). Brought c.args.heap.now.config c.args.room.now.items c.pop.new.self.items c.args.from c.args.others.now rs c.bring-found.result) (sym c.put_run.ensures) back.brought
