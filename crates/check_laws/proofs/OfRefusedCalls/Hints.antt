-- What the clauses of turns refuse of hints.
use Rattle.std.proofs.Common.{◌≡◌, ◌≢◌, ◌∙◌, ℕ, ◌+◌, ◌<◌, ◌≤◌, Bool, true, false, length, refl, sym, ap, ⊎_elim, subst, arith}
use Rattle.heap_rule.specs.declared.phase.Kind.{Kind}
use Rattle.heap_rule.specs.declared.phase.Kind.TheVariants.{Run, Promote, Reset, Roots, Mark, Rounds, Decide, Queued, Clean, Lasts, Sweep, Answer}
use Rattle.heap_rule.specs.declared.view.DomainView.{DomainView}
use Rattle.heap_rule.specs.declared.view.Share.{Share}
use Rattle.heap_rule.specs.Phases.{IsEven, IsOdd}
use Rattle.heap_rule.specs.Token.{SharedHeap}
use Rattle.do_fields.specs.Darkening.Aware.{scanned_in, vain_in}
use Rattle.gc_pause.specs.declared.phases.decider.Decider.{Decider}
use Rattle.gc_pause.specs.Phases.Sharing.{HintsIn}
use Rattle.gc_mark.specs.Decks.{DeckCounts, NotesAlone, NotesAtMost, NotesNoMore, NotesOn, Rises, TakesOwn, last_count}
use Rattle.run_turns.proofs.Refused.{asked_hints, asked_share}
use Rattle.run_turns.specs.Runs.{GoesBy, IsAnswered, MarksBeside, MayGoOn, Polls, Resumes, RunView, SeesAnswer, SweepsBeside, Waits, asking_end}

-- a domain that waits lets no hint go, and takes and notes none
pub a_wait_lets_no_hint_go : (h : SharedHeap) (old new : RunView) (b : ℕ) → Waits h old new b → new.hints ≡ old.hints
a_wait_lets_no_hint_go h old new b w = ap (λ (r : RunView). r.hints) w.run

-- nor does one that runs again after a pause, or one that has come to the answer of a collection
pub the_end_of_a_pause_lets_no_hint_go : (h : SharedHeap) (old start : RunView) → Resumes h old start → start.hints ≡ old.hints
the_end_of_a_pause_lets_no_hint_go h old start r = ap (λ (r : RunView). r.hints) r.run

pub a_seen_answer_lets_no_hint_go : (h : SharedHeap) (old new : RunView) → SeesAnswer h old new → new.hints ≡ old.hints
a_seen_answer_lets_no_hint_go h old new s = ap (λ (r : RunView). r.hints) s.run

pub an_answer_lets_no_hint_go : (h : SharedHeap) (old new : RunView) → IsAnswered h old new → new.hints ≡ old.hints
an_answer_lets_no_hint_go h old new a = ap (λ (r : RunView). r.hints) a.run

-- how many finalisers wait in the queue of a run's domain
abbrev queued_in : RunView → ℕ
queued_in r = length r.token.view.own.finalisers.queue.items

-- nor one that goes through a phase of any kind but Roots and Mark
unmarked : (kind : Kind) (queued : ℕ) (l m : DeckCounts) → kind ≢ Roots → kind ≢ Mark → HintsIn kind queued l m → m ≡ l
unmarked Roots queued l m roots mark hints = absurd (roots refl)
unmarked Mark queued l m roots mark hints = absurd (mark refl)
unmarked Run queued l m roots mark hints = hints
unmarked Promote queued l m roots mark hints = hints
unmarked Reset queued l m roots mark hints = hints
unmarked Rounds queued l m roots mark hints = hints
unmarked Decide queued l m roots mark hints = hints
unmarked Queued queued l m roots mark hints = hints
unmarked Clean queued l m roots mark hints = hints
unmarked Lasts queued l m roots mark hints = hints
unmarked Sweep queued l m roots mark hints = hints
unmarked Answer queued l m roots mark hints = hints

pub no_hint_goes_but_in_roots_and_mark : (h : SharedHeap) (who : Decider) (old new : RunView) (g : GoesBy h who old new) → g.kind ≢ Roots → g.kind ≢ Mark → new.hints ≡ old.hints
no_hint_goes_but_in_roots_and_mark h who old new g roots mark = ⊎_elim
    (λ (e : IsEven old.token.view.own.arrivals × HintsIn g.kind (queued_in old) old.hints new.hints). unmarked g.kind _ old.hints new.hints roots mark e.1)
    (λ (o : IsOdd old.token.view.own.arrivals × (new.hints ≡ old.hints)). o.1)
    g.hints

-- in Roots none is taken, and in Mark none is noted
pub no_hint_is_taken_in_roots : (h : SharedHeap) (who : Decider) (old new : RunView) (g : GoesBy h who old new) → g.kind ≡ Roots → new.hints.taken ≡ old.hints.taken
no_hint_is_taken_in_roots h who old new g roots = ⊎_elim
    (λ (e : IsEven old.token.view.own.arrivals × HintsIn g.kind (queued_in old) old.hints new.hints).
    let hints : NotesOn old.hints new.hints × NotesAlone old.hints new.hints × NotesAtMost (16 + queued_in old) old.hints new.hints = subst (λ (k : Kind). HintsIn k (queued_in old) old.hints new.hints) roots e.1 in ap (λ (l : DeckCounts). l.taken) hints.1)
    (λ (o : IsOdd old.token.view.own.arrivals × (new.hints ≡ old.hints)). ap (λ (l : DeckCounts). l.taken) o.1)
    g.hints

pub no_hint_is_noted_in_mark : (h : SharedHeap) (who : Decider) (old new : RunView) (g : GoesBy h who old new) → g.kind ≡ Mark → new.hints.pushes ≡ old.hints.pushes
no_hint_is_noted_in_mark h who old new g mark = ⊎_elim
    (λ (e : IsEven old.token.view.own.arrivals × HintsIn g.kind (queued_in old) old.hints new.hints).
    let hints : NotesOn old.hints new.hints × TakesOwn old.hints new.hints = subst (λ (k : Kind). HintsIn k (queued_in old) old.hints new.hints) mark e.1 in ap (λ (l : DeckCounts). l.pushes) hints.1.same)
    (λ (o : IsOdd old.token.view.own.arrivals × (new.hints ≡ old.hints)). ap (λ (l : DeckCounts). l.pushes) o.1)
    g.hints

-- in Roots no more are noted than one for each register and one for each place of the queue
pub no_hints_are_invented_in_roots : (h : SharedHeap) (who : Decider) (old new : RunView) (g : GoesBy h who old new) → g.kind ≡ Roots → old.hints.pushes + (16 + queued_in old) < new.hints.pushes → ⊥
no_hints_are_invented_in_roots h who old new g roots more = ⊎_elim
    (λ (e : IsEven old.token.view.own.arrivals × HintsIn g.kind (queued_in old) old.hints new.hints).
    let hints : NotesOn old.hints new.hints × NotesAlone old.hints new.hints × NotesAtMost (16 + queued_in old) old.hints new.hints = subst (λ (k : Kind). HintsIn k (queued_in old) old.hints new.hints) roots e.1 in
    let few = hints.2 in omega (arith, few, more))
    (λ (o : IsOdd old.token.view.own.arrivals × (new.hints ≡ old.hints)). let same : new.hints.pushes ≡ old.hints.pushes = ap (λ (l : DeckCounts). l.pushes) o.1 in omega (arith, same, more))
    g.hints

-- a domain doesn't ask another for a hint while it may have one of its own: no count falls, and this would count as early
pub no_hint_of_others_comes_first : (old before after new : ℕ) → old ≤ before → before < last_count → Rises 1 before after → after ≤ new → new ≡ old → ⊥
no_hint_of_others_comes_first old before after new first few asked last same =
    let grows = asked.grows in ⊎_elim (λ (e : before + 1 ≤ after). omega (arith, e, first, last, same)) (λ (e : last_count ≤ after). omega (arith, e, few, first, last, same)) asked.least

-- no hint is noted but those of blocks that were darkened: only a darkening makes one
pub no_hint_is_noted_without_a_block : (before after : ℕ) (l m : DeckCounts) → NotesNoMore before after l m → after ≡ before → l.pushes < m.pushes → ⊥
no_hint_is_noted_without_a_block before after l m none same more =
    let a : ℕ = l.pushes in
    let b : ℕ = m.pushes in
    let few : b + before ≤ a + after = none in omega (arith, few, same, more)

-- a poll asks for the end of the collection only where it may go on marking and has found no hint, and then it does
pub no_end_is_asked_for_early : (h : SharedHeap) (old new : RunView) → MarksBeside h old new true → (MayGoOn old.token.view new.token.view → ⊥) → ⊥
no_end_is_asked_for_early h old new m enough = enough (m.ends.0 refl)

pub no_poll_stops_early : (h : SharedHeap) (old new : RunView) → MarksBeside h old new false → MayGoOn old.token.view new.token.view → ⊥
no_poll_stops_early h old new m may = let e : false ≡ true = m.ends.1 may in cc

-- how often the domain has looked at a hint
abbrev looks_of : Share → ℕ
looks_of s = scanned_in s.known + vain_in s.known

-- a poll pops no hint unlooked: it has taken no more than it has looked at, in vain or not, and each look uses up the hint at whose address it is
pub each_hint_taken_is_looked_at : (h : SharedHeap) (old new : RunView) → Polls h old new → looks_of new.token.view.seen.share ≡ looks_of old.token.view.seen.share → new.hints.taken ≤ old.hints.taken
each_hint_taken_is_looked_at h old new p still =
    let share : new.token.view.seen.share ≡ p.worked.token.view.seen.share = ap (λ (r : RunView). r.token.view.seen.share) p.run ∙ (asked_share p.spent p.made ∙ ap (λ (x : DomainView). x.seen.share) p.view) in
    let hints : new.hints ≡ p.worked.hints = ap (λ (r : RunView). r.hints) p.run ∙ (asked_hints p.spent p.made ∙ ap (λ (r : RunView). r.hints) p.tried.run) in
    let a : ℕ = old.hints.taken in
    let b : ℕ = p.worked.hints.taken in
    let few : b ≤ a = ⊎_elim
    (λ (m : MarksBeside h old p.worked p.spent).
    let looks : looks_of p.worked.token.view.seen.share ≡ looks_of old.token.view.seen.share = sym (ap looks_of share) ∙ still in
    let c : ℕ = looks_of old.token.view.seen.share in
    let d : ℕ = looks_of p.worked.token.view.seen.share in
    let same : d ≡ c = looks in
    let all : b + c ≤ a + d = m.looked in omega (arith, same, all))
    (λ (s : ((count : ℕ) × SweepsBeside h old p.worked count) × (p.spent ≡ false)). let same : b ≡ a = ap (λ (r : RunView). r.hints.taken) s.0.1.run in omega (arith, same))
    p.works in
    subst (λ (l : DeckCounts). l.taken ≤ a) (sym hints) few

-- and it looks at no more than it has taken, unless their count stands still
pub no_look_without_a_hint : (h : SharedHeap) (old new : RunView) (spent : Bool) → MarksBeside h old new spent → new.hints.taken ≡ old.hints.taken → new.hints.taken < last_count → looks_of new.token.view.seen.share ≤ looks_of old.token.view.seen.share
no_look_without_a_hint h old new spent m still goes_on =
    let a : ℕ = old.hints.taken in
    let b : ℕ = new.hints.taken in
    let c : ℕ = looks_of old.token.view.seen.share in
    let d : ℕ = looks_of new.token.view.seen.share in
    let same : b ≡ a = still in
    ⊎_elim (λ (e : a + d ≤ b + c). omega (arith, e, same)) (λ (e : last_count ≤ b). omega (arith, e, goes_on)) m.took
