-- No command of a replay asks twice for a pause without a complete collection.
use Rattle.std.proofs.Common.{true≢false, ◌≡◌, ◌≢◌, ◌∙◌, ◌+◌, ◌<◌, ◌≤◌, ℕ, Bool, true, false, List, [], ◌∷◌, ◌++◌, Option, Some, None, length, length-append, slice_get, drop, arith, refl, sym, ap, subst, ⊎_elim, ltb-true, lt-ltb}
use Rattle.std.proofs.lemmas.Bool.Decides.{nat_tests}
use Rattle.model_core.specs.declared.command.Command as model
use Rattle.model_core.specs.declared.command.Command.TheVariants.{Alloc, Store, SetKey, SetData, Minor, Major, FullMajor, Raw, Cas, Spawn, PutResult}
use Rattle.model_core.specs.declared.entry.Entry.{Entry}
use Rattle.model_core.specs.Domains.{IsWithinLimits}
use Rattle.heap_rule.specs.declared.config.Config.{Config}
use Rattle.heap_rule.specs.declared.phase.Kind.{Kind}
use Rattle.heap_rule.specs.declared.view.DomainView.{DomainView}
use Rattle.heap_rule.specs.declared.view.Hunt.TheVariants.{Rests as AtRest}
use Rattle.heap_rule.specs.declared.view.Own.{Own}
use Rattle.heap_rule.specs.Limits.{sizes_in}
use Rattle.heap_rule.specs.Places.{class_words}
use Rattle.heap_rule.specs.Standing.{with_front}
use Rattle.heap_rule.specs.Token.{SharedHeap}
use Rattle.do_alloc.proofs.OfPools.Seeking.{sought_view}
use Rattle.do_finalisers.specs.Running.{reply_of}
use Rattle.gc_pause.specs.declared.phases.decider.Decider.{Decider}
use Rattle.run_turns.specs.declared.supply.Supply.{Supply}
use Rattle.run_turns.specs.declared.supply.Supply.TheVariants.{Listed, Open, Section}
use Rattle.run_turns.specs.declared.turned.Turned.{Turned}
use Rattle.run_turns.specs.declared.turned.Turned.TheVariants.{Did, Waiting, Hungry, Held, Idle}
use Rattle.run_turns.specs.declared.turned.Turned.TheVariants.{Ended as Over}
use Rattle.run_turns.specs.Runs.{RunView, AsksFull, CalmAnswers, CalmDid, GoesBy, IsAnswered, IsRun, PassesOn, Resumes, SeesAnswer, run_seeing, said_with, served_since}
use Rattle.run_turns.specs.Runs.CalmDid.{Finalises, Wishes, Refuses, Tries, Works, Ends, Sees, Makes, Tells, WishesToTell}
use Rattle.run_turns.specs.Tries.{NeedsPause}
use Rattle.run_turns.proofs.LeavingLemmas.{passes_leaves}
use Rattle.text_script.specs.declared.schedule.drive.together.Stepped.TheVariants.{Needs}
use Rattle.text_script.specs.Schedule.Drive.Together.{IsRested, halted}
use Rattle.run_replay.specs.Asking.{AsksOnce}
use Rattle.run_replay.specs.Gathered.{asked_for, one_run, paused_for}
use Rattle.run_replay.specs.Moves.{CameTo, halted_run}
use Rattle.run_replay.proofs.CalmLemmas.{asking_asked, asking_next, calm_keeps, works_run}

-- a run that stands as it stood
asks_kept : (r s : RunView) → AsksOnce r → r.left ≡ None → s.left ≡ None → s.asked ≡ r.asked → s.token.view.own.arrivals ≡ r.token.view.own.arrivals → s.token.view.own.remembered.items ≡ r.token.view.own.remembered.items → AsksOnce s
asks_kept r s a was now asked arrivals remembered = record {
  before = λ n is. subst (λ (m : ℕ). n ≤ m) (sym arrivals) (a.before n (sym asked ∙ is));
  arrived = λ gone. absurd (gone now);
  forgotten = λ none served. remembered ∙ a.forgotten was ((λ i. served_since (sym asked i) (sym arrivals i)) ∙ served);
}

-- one that asks now
asks_anew : (s : RunView) (n : ℕ) → s.left ≡ None → s.asked ≡ Some n → s.token.view.own.arrivals ≡ n → AsksOnce s
asks_anew s n now asked arrivals = record {
  before = λ m is. let same : n ≡ m = (let e : Some n ≡ Some m = sym asked ∙ is in cc) in omega (arith, same, arrivals);
  arrived = λ gone. absurd (gone now);
  forgotten = λ none served. let less = ltb-true n s.token.view.own.arrivals (ap (λ (o : Option ℕ). served_since o s.token.view.own.arrivals) (sym asked) ∙ served) in absurd (omega (arith, less, arrivals));
}

-- one that has asked for nothing
pub asks_none : (s : RunView) → s.asked ≡ None → AsksOnce s
asks_none s asked = record {
  before = λ n is. absurd (let e : None ≡ Some n = sym asked ∙ is in cc);
  arrived = λ gone n is. absurd (let e : None ≡ Some n = sym asked ∙ is in cc);
  forgotten = λ none served. absurd (true≢false (sym served ∙ ap (λ (o : Option ℕ). served_since o s.token.view.own.arrivals) asked));
}

-- and one whose domain has arrived once more
asks_gone : (r s : RunView) → AsksOnce r → r.left ≢ None → (kind : Kind) → s.left ≡ Some kind → s.asked ≡ r.asked → s.token.view.own.arrivals ≡ r.token.view.own.arrivals + 1 → AsksOnce s
asks_gone r s a was kind now asked arrivals = record {
  before = λ n is. let less = a.arrived was n (sym asked ∙ is) in omega (arith, less, arrivals);
  arrived = λ gone n is. let less = a.arrived was n (sym asked ∙ is) in omega (arith, less, arrivals);
  forgotten = λ none. absurd (let e : None ≡ Some kind = sym none ∙ now in cc);
}

-- a domain that has seen more of the history
pub seeing_asks : (r : RunView) (history : List Entry) → AsksOnce r → AsksOnce (run_seeing r history)
seeing_asks r history a = record { before = a.before; arrived = a.arrived; forgotten = a.forgotten }

-- one that arrives
pub halted_asks : (r : RunView) → AsksOnce r → AsksOnce (halted_run r)
halted_asks r a = record {
  before = λ n is. let up = a.before n is in omega (arith, up);
  arrived = λ gone n is. let up = a.before n is in omega (arith, up);
  forgotten = λ none. cc;
}

-- a pause begins for all that have asked
pauses_all : (cs : List model.Command) (asked : Option ℕ) (arrivals : ℕ) → ((n : ℕ) → asked ≡ Some n → n ≤ arrivals) → paused_for cs asked (arrivals + 1) ≡ asked_for cs asked
pauses_all [] asked arrivals before = refl
pauses_all (c ∷ cs) None arrivals before = refl
pauses_all (c ∷ cs) (Some n) arrivals before = let up = before n refl in lt-ltb n (arrivals + 1) (omega (arith, up))

pub halted_seen_run : (r : RunView) → AsksOnce r → one_run (halted_run r) ≡ halted (one_run r)
halted_seen_run r a = λ i. record (one_run r) { runs = false; paused = pauses_all (drop r.next r.commands) r.asked r.token.view.own.arrivals a.before i }

-- a step of a running domain
module _ (h : SharedHeap) (r s : RunView) (listed : r.supply ≡ Listed) (left : r.left ≡ None) (asks : AsksOnce r) where
  other : r.supply ≡ Section → ⊥
  other section = let e : Listed ≡ Section = sym listed ∙ section in cc

  did : s.left ≡ None → CalmDid h r s → AsksOnce s
  did now (Finalises f) = asks_kept r s asks left now (ap (λ (v : RunView). v.asked) f.run) (ap (λ (x : DomainView). x.own.arrivals) f.first.view) (ap (λ (x : DomainView). x.own.remembered.items) f.first.view)
  did now (Wishes a) = asks_anew s r.token.view.own.arrivals now (ap (λ (v : RunView). v.asked) a.run) (ap (λ (v : RunView). v.token.view.own.arrivals) a.run)
  did now (Refuses a) =
      let view = sought_view h.config r.token.view (with_front a.searched.view r.token.view.seen.front) AtRest a.refused.view in
      asks_anew s r.token.view.own.arrivals now (ap (λ (v : RunView). v.asked) a.run) (ap (λ (v : RunView). v.token.view.own.arrivals) a.run ∙ ap (λ (x : DomainView). x.own.arrivals) view)
  did now (Tries c another t) = asks_none s (ap (λ (v : RunView). v.asked) t.run)
  did now (Works p) = asks_none s (ap (λ (v : RunView). v.asked) p.run ∙ (asking_asked p.spent p.made ∙ ap (λ (v : RunView). v.asked) p.tried.run))
  did now (Ends e) = asks_kept r s asks left now (ap (λ (v : RunView). v.asked) e.run) (ap (λ (x : DomainView). x.own.arrivals) e.ended.view) (ap (λ (x : DomainView). x.own.remembered.items) e.ended.view)
  did now (Sees t) = absurd (other t.sectioned)
  did now (Makes c t) = absurd (other t.sectioned)
  did now (Tells t) = absurd (other t.sectioned)
  did now (WishesToTell a) = absurd (other a.sectioned)

  pub calm_asks : (a : Turned) → CalmAnswers h r s a → AsksOnce s
  calm_asks a says = by a ((calm_keeps h r s a says).left ∙ left) says where
    by : (b : Turned) → s.left ≡ None → CalmAnswers h r s b → AsksOnce s
    by Did now c = did now c
    by (Waiting n) now c = absurd c
    by Hungry now c = absurd (let e : Open ≡ Listed = sym c.more ∙ listed in cc)
    by (Held section) now c = absurd (other c.sectioned)
    by (Idle n) now c = asks_kept r s asks left now (ap (λ (v : RunView). v.asked) c.0.run) (ap (λ (v : RunView). v.token.view.own.arrivals) c.0.run) (ap (λ (v : RunView). v.token.view.own.remembered.items) c.0.run)
    by Over now c = asks_kept r s asks left now (ap (λ (v : RunView). v.asked) c.run) (ap (λ (v : RunView). v.token.view.own.arrivals) c.run) (ap (λ (v : RunView). v.token.view.own.remembered.items) c.run)

-- who makes a step in a pause had arrived
gone_from : (o : Option Kind) (kind : Kind) → o ≡ Some kind → o ≢ None
gone_from o kind is none = let e : None ≡ Some kind = sym none ∙ is in cc

pub passes_gone : (decider : Decider) (h : SharedHeap) (r s : RunView) (a : Turned) → PassesOn h decider r s a → r.left ≢ None
passes_gone decider h r s Did = ⊎_elim (λ g. gone_from r.left g.last g.arrived) (⊎_elim (λ a. gone_from r.left a.last a.arrived) (⊎_elim (λ a. gone_from r.left a.last a.arrived) (λ a. gone_from r.left a.arrived.0 a.arrived.1)))
passes_gone decider h r s (Waiting b) = λ w. gone_from r.left w.arrived.0 w.arrived.1
passes_gone decider h r s Hungry = absurd
passes_gone decider h r s (Held section) = absurd
passes_gone decider h r s (Idle n) = absurd
passes_gone decider h r s Over = absurd

-- and asks for nothing
pub passed_asks : (decider : Decider) (h : SharedHeap) (r s : RunView) (a : Turned) → AsksOnce r → r.left ≢ None → PassesOn h decider r s a → AsksOnce s
passed_asks decider h r s (Waiting b) asks gone = λ w. record {
  before = λ n is. let same : r.token.view.own.arrivals ≡ s.token.view.own.arrivals = sym (ap (λ (v : RunView). v.token.view.own.arrivals) w.run) in let up = asks.before n (sym (ap (λ (v : RunView). v.asked) w.run) ∙ is) in omega (arith, up, same);
  arrived = λ left n is. let same : r.token.view.own.arrivals ≡ s.token.view.own.arrivals = sym (ap (λ (v : RunView). v.token.view.own.arrivals) w.run) in let less = asks.arrived gone n (sym (ap (λ (v : RunView). v.asked) w.run) ∙ is) in omega (arith, less, same);
  forgotten = λ none. absurd (gone (sym (ap (λ (v : RunView). v.left) w.run) ∙ none));
}
passed_asks decider h r s Hungry asks gone = absurd
passed_asks decider h r s (Held section) asks gone = absurd
passed_asks decider h r s (Idle n) asks gone = absurd
passed_asks decider h r s Over asks gone = absurd
passed_asks decider h r s Did asks gone = ⊎_elim
    (λ (g : GoesBy h decider r s).
    asks_gone r s asks gone g.kind (ap (λ (v : RunView). v.left) g.run) (ap (λ (v : RunView). v.asked) g.run) (passes_leaves decider h.config r.token.view s.token.view g.last g.kind g.passes).arrivals)
    (⊎_elim
    (λ (a : IsAnswered h r s). asks_none s (ap (λ (v : RunView). v.asked) a.run))
    (⊎_elim
    (λ (a : SeesAnswer h r s).
    asks_gone r s asks gone _ (ap (λ (v : RunView). v.left) a.run) (ap (λ (v : RunView). v.asked) a.run) (ap (λ (x : DomainView). x.own.arrivals) a.gives.view ∙ ap (λ (x : DomainView). x.own.arrivals + 1) a.gives.comes.passed.view))
    (λ (a : Resumes h r s).
    let arrivals : s.token.view.own.arrivals ≡ r.token.view.own.arrivals = ap (λ (x : DomainView). x.own.arrivals) a.passed.view in
    let asked : s.asked ≡ r.asked = ap (λ (v : RunView). v.asked) a.run in record {
      before = λ n is. let less = asks.before n (sym asked ∙ is) in omega (arith, less, arrivals);
      arrived = λ left. absurd (left (ap (λ (v : RunView). v.left) a.run));
      forgotten = λ none served. a.collected.forgotten;
    })))

-- no class is larger than a pool
class_small : (words : ℕ) → class_words words ≤ 1024
unfolding class_words
class_small words = grind (arith, nat_tests)

-- a command needs no pause where the minor area is empty, a domain remembers nothing, and a pause has come for it, unless it is a `full_major`
module _ (k : Config) (own : Own) (limits : IsWithinLimits (sizes_in k)) (used : own.used ≡ 0) (items : own.remembered.items ≡ []) (whole : own.remembered.room + length own.remembered.items ≡ k.minor_words) where
  room : 4096 ≤ own.remembered.room
  room = let none : length own.remembered.items ≡ 0 = ap length items in let many = limits.some_minor in omega (arith, whole, none, many)

  fits : (fields : ℕ) → k.minor_words < own.used + class_words (fields + 2) → ⊥
  fits fields more = let few = class_small (fields + 2) in let many = limits.some_minor in omega (arith, more, few, many, used)

  pub needs_none : (c : model.Command) → c ≢ FullMajor → NeedsPause k own true c → ⊥
  needs_none Minor other needs = true≢false needs
  needs_none Major other needs = true≢false needs
  needs_none FullMajor other needs = other refl
  needs_none (Alloc dst tag fields) other needs = fits fields needs
  needs_none (Raw dst tag fields) other needs = fits fields needs
  needs_none (Store block index item) other needs = let full = room in omega (arith, needs, full)
  needs_none (Cas block index expected item) other needs = let full = room in omega (arith, needs, full)
  needs_none (SetKey ephe index item) other needs = let full = room in omega (arith, needs, full)
  needs_none (SetData ephe item) other needs = let full = room in omega (arith, needs, full)
  needs_none (Spawn section item) other needs = let full = room in omega (arith, needs, full)
  needs_none (PutResult item) other needs = let full = room in omega (arith, needs, full)
  needs_none _ other needs = needs

-- once a pause has come for it a command asks for none but a complete collection, unless an allocation is refused
module _ (h : SharedHeap) (r s : RunView) (limits : IsWithinLimits (sizes_in h.config)) (is : IsRun r) (listed : r.supply ≡ Listed) (left : r.left ≡ None) (goes_on : r.ended ≡ false) (asks : AsksOnce r)
    (whole : r.token.view.own.remembered.room + length r.token.view.own.remembered.items ≡ h.config.minor_words) (served : served_since r.asked r.token.view.own.arrivals ≡ true) (came : CameTo h.config s r.next (length r.replies) (Needs false)) (never : AsksFull h r.token r s → ⊥) where
  other_supply : r.supply ≡ Section → ⊥
  other_supply section = let e : Listed ≡ Section = sym listed ∙ section in cc

  more_next : (n : ℕ) → n ≡ r.next + 1 → n ≡ r.next → ⊥
  more_next n more same = omega (arith, more, same)

  again : CalmDid h r s → ⊥
  again (Finalises f) =
      let kept : s.replies ≡ r.replies ++ reply_of f.ran ∷ [] = ap (λ (v : RunView). v.replies) f.run ∙ ap (λ (t : Supply). said_with t r.replies (reply_of f.ran)) listed in
      let one = length-append r.replies (reply_of f.ran ∷ []) in
      let same : length (r.replies ++ reply_of f.ran ∷ []) ≡ length r.replies = ap length (sym kept) ∙ came.2 in omega (arith, one, same)
  again (Wishes a) =
      let next : slice_get s.commands s.next ≡ Some a.command = (λ i. slice_get (ap (λ (v : RunView). v.commands) a.run i) (came.0 i)) ∙ a.next in
      needs_none h.config r.token.view.own limits (is.between.emptied left served) (asks.forgotten left served) whole a.command
      (λ full. came.4 refl (next ∙ ap Some full)) (subst (λ (b : Bool). NeedsPause h.config r.token.view.own b a.command) served a.needs)
  again (Refuses a) = never a
  again (Tries c another t) = more_next s.next (ap (λ (v : RunView). v.next) t.run) came.0
  again (Works p) =
      more_next s.next
      (ap (λ (v : RunView). v.next) p.run ∙ (asking_next p.spent p.made ∙ (ap (λ (v : RunView). v.next) p.tried.run ∙ ap (λ (v : RunView). v.next + 1) (works_run h r p.worked p.spent p.works))))
      came.0
  again (Ends e) = true≢false (sym (ap (λ (v : RunView). v.ended) e.run) ∙ came.1)
  again (Sees t) = other_supply t.sectioned
  again (Makes c t) = other_supply t.sectioned
  again (Tells t) = other_supply t.sectioned
  again (WishesToTell a) = other_supply a.sectioned

  pub asks_no_more : (a : Turned) → CalmAnswers h r s a → ⊥
  asks_no_more Did c = again c
  asks_no_more (Waiting n) c = c
  asks_no_more Hungry c = let e : Open ≡ Listed = sym c.more ∙ listed in cc
  asks_no_more (Held section) c = other_supply c.sectioned
  asks_no_more (Idle n) c = true≢false (sym c.0.over ∙ goes_on)
  asks_no_more Over c = true≢false (sym c.over ∙ goes_on)

-- where a pause has come for which it asked
pub once_paused : (r : RunView) (paused : Bool) → paused ≡ served_since r.asked r.token.view.own.arrivals → paused ≡ false → IsRested (one_run r) → (one_run r).asked ≡ false
once_paused r paused is none rested = by (drop r.next r.commands) r.asked (sym is ∙ none) rested where
  by : (cs : List model.Command) (asked : Option ℕ) → served_since asked r.token.view.own.arrivals ≡ false → (asked_for cs asked ≡ true → paused_for cs asked r.token.view.own.arrivals ≡ true) → asked_for cs asked ≡ false
  by [] asked none rests = refl
  by (c ∷ cs) None none rests = refl
  by (c ∷ cs) (Some n) none rests = absurd (true≢false (sym (rests refl) ∙ none))
