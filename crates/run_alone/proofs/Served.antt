-- The pause for which a heap's only domain has asked.
use Rattle.std.proofs.Common.{true≢false, ◌==◌, ◌≡◌, ◌≢◌, ◌∙◌, ◌⊎◌, ◌+◌, inl, inr, ⊎_elim, ℕ, Bool, true, false, Option, Some, None, length, arith, refl, sym, ap, subst, lt-ltb}
use Rattle.std.proofs.lemmas.Bool.{eqb-false, eqb-true}
use Rattle.model_core.specs.Domains.{IsWithinLimits, domain_at}
use Rattle.heap_rule.specs.declared.config.Config.{Config}
use Rattle.heap_rule.specs.declared.phase.Kind.{Kind}
use Rattle.heap_rule.specs.declared.phase.Kind.TheVariants.{Run, Answer}
use Rattle.heap_rule.specs.Limits.{sizes_in}
use Rattle.heap_rule.specs.Phases.{IsOdd}
use Rattle.heap_rule.specs.Rule.{state_of}
use Rattle.heap_rule.specs.Token.{SharedHeap, IsIn}
use Rattle.gc_pause.proofs.OfLaws.Blocks.{owes_few}
use Rattle.run_turns.specs.declared.supply.Supply.TheVariants.{Open}
use Rattle.run_turns.specs.Runs.{IsRun, KnowsQueue, RunView, halted, is_asked, served_since}
use Rattle.run_turns.proofs.PauseLemmas.{even_next, not_both}
use Rattle.run_alone.specs.Lone.{ComesBack, IsBehindAnswer, IsLone, IsPausing, IsServed, ServesOn, Wants}
use Rattle.run_alone.proofs.Idling.{going, idles_now}
use Rattle.run_alone.proofs.Keeping.{asks_none, lone_halted, wants_none}
use Rattle.run_alone.proofs.Paces.{halted_last, halted_paced}
use Rattle.run_alone.proofs.Walking.{zeroth}
use Rattle.run_alone.proofs.Telling.{tells_halted, tells_itself, tells_on}

some_none : (a : Kind) → ◌≡◌ {A = Option Kind} (Some a) None → ⊥
some_none a is = cc

run_answer : ◌≡◌ {A = Option Kind} (Some Run) (Some Answer) → ⊥
run_answer is = cc

-- as it arrives from its commands
pub begins : (h : SharedHeap) (complete : Bool) (r : RunView) → IsLone h r → r.left ≡ None → IsIn (halted r).token h → IsRun (halted r) → IsPausing h complete (halted r) (halted r)
begins h complete r l runs here is = record {
  lone = lone_halted h r l here is;
  commands = refl;
  tells = tells_itself h (halted r);
  idles = λ front idle. idle;
  within = omega arith;
  more = omega arith;
  stays = λ _. refl;
  asked = λ other. absurd (other refl);
  owes = λ _. refl;
  served = λ full same behind. absurd (never behind);
}
  where
    odd : IsOdd (r.token.view.own.arrivals + 1)
    odd = even_next r.token.view.own.arrivals (l.is.between.even runs)

    never : IsBehindAnswer (r.token.view.own.arrivals + 1) (Some Run) → ⊥
    never (inl none) = some_none Run none
    never (inr (inl at)) = run_answer at.0
    never (inr (inr at)) = not_both (r.token.view.own.arrivals + 1) at.1 odd

-- it owes no finaliser, where it has asked for a pause
pub owes_none : (h : SharedHeap) (r : RunView) → IsLone h r → r.left ≡ None → Wants r → KnowsQueue h.config r.token → r.due ≡ 0
owes_none h r l runs w knows =
    let empty : length r.token.view.own.finalisers.queue.items ≡ 0 = ap length (l.unqueued runs w) in
    let few = owes_few (sizes_in h.config) r.token.view.seen.front r.token.view.own.number in
    let owed : (domain_at (state_of h.config r.token.view.seen.front) r.token.view.own.number).due ≡ r.due = subst (λ (k : Config). (domain_at (state_of k r.token.view.seen.front) r.token.view.own.number).due ≡ r.due) l.here.1 (l.is.owes (going r l.is l.more)) in
    omega (arith, knows, empty, few, owed)

-- and as the pause is over
module _ (h : SharedHeap) (complete : Bool) (r s : RunView) (limits : IsWithinLimits (sizes_in h.config)) (l : IsLone h r) (runs : r.left ≡ None) (w : Wants r) (here : IsIn (halted r).token h) (knows : KnowsQueue h.config r.token) (i : IsPausing h complete (halted r) s) (ends : (s.next ≢ r.next) ⊎ (s.left ≡ None)) where
  back : s.next ≡ r.next → s.left ≡ None
  back same = ⊎_elim (λ other. absurd (other same)) (λ none. none) ends

  asked : s.next ≡ r.next → is_asked s.asked ≡ true
  asked same = ap is_asked (i.stays same) ∙ w.0

  told : complete ≡ true → s.next ≡ r.next → IsServed s
  told full same = i.served full same (inl (back same))

  came : (o : Option ℕ) → r.asked ≡ o → s.next ≡ r.next → served_since s.asked s.token.view.own.arrivals ≡ true
  came None none same = absurd (true≢false (sym w.0 ∙ ap is_asked none))
  came (Some n) at same =
      let few = l.asks.before n at in
      let more = i.more in
      ap (λ (o : Option ℕ). served_since o s.token.view.own.arrivals) (i.stays same ∙ at) ∙ lt-ltb n s.token.view.own.arrivals (omega (arith, few, more))

  pub serves_on : ServesOn h complete r s
  serves_on = record {
    lone = i.lone;
    commands = i.commands;
    tells = tells_on h r (halted r) s refl refl (tells_halted h r here) i.tells;
    spends = let within = i.within in let more = halted_last h.config r limits.pools runs (l.is.between.even runs) in omega (arith, within, more);
    paced = let within = i.within in let more = i.more in let few = halted_paced h.config r limits.pools (l.is.between.even runs) in omega (arith, within, more, few);
    runs = back;
    served = λ same. came r.asked refl same;
    full = λ full same at. (told full same).answered (record { next = at; paid = i.owes same ∙ owes_none h r l runs w knows; wished = asked same });
    counts = λ full same. (told full same).counts (asked same);
  }

-- a pause for which nothing was asked
pub begins_wishes : (h : SharedHeap) (r : RunView) → IsLone h r → IsPausing h false r r
begins_wishes h r l = record {
  lone = l;
  commands = refl;
  tells = tells_itself h r;
  idles = λ front idle. idle;
  within = omega arith;
  more = omega arith;
  stays = λ _. refl;
  asked = λ other. absurd (other refl);
  owes = λ _. refl;
  served = λ full. absurd (true≢false (sym full));
}

-- it comes back from one to where it runs
pub comes_back : (h : SharedHeap) (r s : RunView) → IsLone h r → (r.asked ≡ None) ⊎ (r.next ≡ length r.commands) → IsPausing h false r s → (s.next ≢ r.next) ⊎ (s.left ≡ None) → ComesBack h r s
comes_back h r s l calm i ends = record {
  lone = i.lone;
  runs = ⊎_elim (λ other. absurd (stays other)) (λ none. none) ends;
  commands = i.commands;
  next = same;
  asked = i.stays same;
  tells = i.tells;
  idles = i.idles;
  spends = i.within;
}
  where
    never : is_asked r.asked ≡ true → r.asked ≡ None → ⊥
    never wished none = true≢false (sym wished ∙ ap is_asked none)

    stays : s.next ≢ r.next → ⊥
    stays other = ⊎_elim
        (λ (none : r.asked ≡ None). never (i.asked other) none)
        (λ (done : r.next ≡ length r.commands).
        let idle = i.idles r.token.view.seen.front (idles_now h r l.here (zeroth h r l) l.is l.more done) in
        other (idle.done ∙ (ap length i.commands ∙ sym done)))
        calm

    same : s.next ≡ r.next
    same = by (s.next == r.next) refl where
      by : (b : Bool) → (s.next == r.next) ≡ b → s.next ≡ r.next
      by true is = eqb-true s.next r.next is
      by false other = absurd (stays (eqb-false s.next r.next other))

-- a command that was handed in
pub lone_submitted : (h : SharedHeap) (r : RunView) → IsIn r.token h → IsRun r → h.config.domains ≡ 1 → r.supply ≡ Open → r.asked ≡ None → IsLone h r
lone_submitted h r here is alone more none = record { here = here; is = is; alone = alone; more = more; asks = asks_none r none; unqueued = λ runs w. absurd (wants_none r none w) }
