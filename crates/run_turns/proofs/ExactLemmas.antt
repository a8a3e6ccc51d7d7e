-- The answer of a turn is determined by what it did: each answer comes exactly where its cause holds.
use Rattle.std.proofs.Common.{◌≡◌, ◌∙◌, ◌⊎◌, ℕ, Bool, true, false, ◌+◌, ◌<◌, ◌≤◌, List, [], ◌∷◌, ◌++◌, length, slice_get, refl, sym, ap, subst, length-append, inl, inr, ⊎_elim, arith, Option, None, Some}
use Rattle.model_core.specs.declared.command.Command as model
use Rattle.model_core.specs.declared.command.Command.TheVariants.{Poll}
use Rattle.heap_rule.specs.declared.phase.Note.{Note}
use Rattle.heap_rule.specs.declared.phase.Note.TheVariants.{Want, Asked, Barrier, Ended, Cleared}
use Rattle.heap_rule.specs.declared.view.DomainView.{DomainView}
use Rattle.heap_rule.specs.declared.view.Waiting.{Waiting as Waited}
use Rattle.heap_rule.specs.Token.{SharedHeap}
use Rattle.run_turns.specs.declared.turned.Turned.{Turned}
use Rattle.run_turns.specs.declared.turned.Turned.TheVariants.{Did, Waiting, Hungry, Held, Idle}
use Rattle.run_turns.specs.declared.turned.Turned.TheVariants.{Ended as Over}
use Rattle.heap_rule.specs.declared.view.Hunt.TheVariants.{Rests as AtRest}
use Rattle.do_alloc.proofs.OfPools.Seeking.{sought_view}
use Rattle.run_turns.proofs.Turning.{inside}
use Rattle.run_turns.proofs.Working.{works_keeps}
use Rattle.run_turns.specs.declared.supply.Supply.TheVariants.{Open, Section}
use Rattle.run_turns.specs.Runs.{RunView, CalmDid, RunAnswers, TurnAnswers, Starts, Stops, Resumes, GoesBy, IsAnswered, IsUnqueued, SeesAnswer, wanting, asking_end, ran_with, said_with}
use Rattle.run_turns.specs.Pausing.{ComesToAnswer}
use Rattle.run_turns.specs.Tries.{wish_of}
use Rattle.heap_rule.specs.declared.config.Config.{Config}
use Rattle.heap_rule.specs.Standing.{with_front}
use Rattle.step_pauses.specs.Pauses.{arrived_view}
use Rattle.gc_sweep.specs.Emptiness.{sunk}
use Rattle.gc_pause.specs.Stops.Looks.{bit_of}
use Rattle.gc_pause.specs.declared.stops.answer.Want.TheVariants.{Finish, Full}
use Rattle.gc_pause.specs.declared.stops.answer.Want.TheVariants.{Minor as Young}
use Rattle.model_core.specs.declared.reply.Reply.{Reply}
use Rattle.do_finalisers.specs.Running.{reply_of}
use Rattle.run_turns.specs.declared.place.Place.{Place}
use Rattle.run_turns.specs.declared.place.Place.TheVariants.{Before, Within, Behind}
use Rattle.run_turns.specs.Sections.{awaited}
use Rattle.run_turns.proofs.SectionTurns.{makes_steps}
use Rattle.run_turns.proofs.Kept.{keeps_one}
use Rattle.run_turns.specs.Runs.CalmDid.{Finalises, Wishes, Refuses, Tries, Works, Ends, Sees, Makes, Tells, WishesToTell}
use Rattle.gc_pause.specs.declared.phases.decider.Decider.TheVariants.{Wishes as ByWishes}
use Rattle.run_turns.proofs.LeavingLemmas.{passes_leaves}

abbrev notes : RunView → List Note
notes r = r.token.view.seen.notes

abbrev arrivals : RunView → ℕ
arrivals r = r.token.view.own.arrivals

-- the last note of a list, or this one
abbrev last_of : List Note → Note → Note
last_of [] d = d
last_of (x ∷ xs) d = last_of xs x

last_snoc : (xs : List Note) (x d : Note) → last_of (xs ++ x ∷ []) d ≡ x
last_snoc [] x d = refl
last_snoc (y ∷ xs) x d = last_snoc xs x y

-- what a turn left: it arrived, or its last note is this one
abbrev Left : RunView → RunView → (Note → Type 0) → Type 0
Left old new P = (arrivals new ≡ arrivals old) × ((n : Note) × (ns : List Note) × (notes new ≡ ns ++ n ∷ []) × P n)

abbrev IsBarrier : ℕ → Note → Type 0
IsBarrier b n = n ≡ Barrier b

abbrev IsEnded : ℕ → Note → Type 0
IsEnded c n = n ≡ Ended c

-- neither a barrier word nor a count of ended traces
abbrev IsOther : Note → Type 0
IsOther (Want w) = Unit {0}
IsOther (Asked w) = Unit {0}
IsOther _ = ⊥

-- nothing is left to do for an open run
record IsOut (r : RunView) : Type 0 where
  more : r.supply ≡ Open
  past : length r.commands ≤ r.next
  unqueued : IsUnqueued r.token

-- the last note is a want word
abbrev IsWant : Note → Type 0
IsWant (Want w) = Unit {0}
IsWant _ = ⊥

-- the run is where it was, and its trace goes on
record StaysThere (old new : RunView) : Type 0 where
  left : Left old new IsWant
  goes_on : new.ended ≡ false
  next : new.next ≡ old.next
  replies : new.replies ≡ old.replies
  ran : new.ran ≡ old.ran
  place : new.place ≡ old.place

-- it looked at the flag of this section
record IsHeldAt (old new : RunView) (section : ℕ) : Type 0 where
  there : StaysThere old new
  waits : awaited old.place old.token.view.own.number (slice_get old.commands old.next) ≡ Some section
  sectioned : old.supply ≡ Section

none_first : (xs : List Waited) (first : Waited) → xs ≡ [] → slice_get xs 0 ≡ Some first → ⊥
none_first xs first none at = let clash : ◌≡◌ {A = Option Waited} None (Some first) = sym (ap (λ (l : List Waited). slice_get l 0) none) ∙ at in cc

-- the sign that a turn with this answer leaves
abbrev Sign : SharedHeap → RunView → RunView → Turned → Type 0
Sign h old new Did = (arrivals new ≡ arrivals old + 1) ⊎ (Left old new IsOther × (IsOut old → ⊥) × (StaysThere old new → ⊥))
Sign h old new Hungry = Left old new IsOther × IsOut old
Sign h old new (Held section) = IsHeldAt old new section
Sign h old new (Waiting b) = Left old new (IsBarrier b)
Sign h old new (Idle n) = Left old new (IsEnded n) × (n < h.config.domains)
Sign h old new Over = Left old new (IsEnded h.config.domains)

keeps_replies : (spent : Bool) (made : RunView) → (asking_end spent made).replies ≡ made.replies
keeps_replies false made = refl
keeps_replies true made = refl

run_sign : (h : SharedHeap) (old new : RunView) (a : Turned) → RunAnswers h old new a → Sign h old new a
run_sign h old new Did says = ⊎_elim
    (λ (s : Stops old new). inl (ap arrivals s.run))
    (λ (c : CalmDid h (wanting old 0) new). inr (did c, busy c, moved c)) says
  where
    asked : (spent : Bool) (made : RunView) → Left old made IsOther → Left old (asking_end spent made) IsOther
    asked false made l = l
    asked true made l = (l.0, (Asked (bit_of Finish), notes made, refl, tt))

    next_left : (c : model.Command) → slice_get old.commands old.next ≡ Some c → IsOut old → ⊥
    next_left c at out = let below = inside old.commands old.next c at in let past = out.past in omega arith

    busy : CalmDid h (wanting old 0) new → IsOut old → ⊥
    busy (Finalises f) out = let first = f.first.is_first in none_first old.token.view.own.finalisers.queue.items f.first.first out.unqueued first
    busy (Wishes a) out = next_left a.command a.next out
    busy (Refuses a) out = next_left a.command a.next out
    busy (Tries c other t) out = next_left c t.next out
    busy (Works p) out =
        let kept = works_keeps h (wanting old 0) p.worked p.spent p.works in
        next_left Poll (subst (λ (w : List model.Command × ℕ). slice_get w.0 w.1 ≡ Some Poll) (λ i. (kept.commands i, kept.next i)) p.tried.next) out
    busy (Ends t) out = t.shut out.more
    busy (Sees t) out = let clash : Section ≡ Open = sym t.sectioned ∙ out.more in cc
    busy (Makes c t) out = let clash : Section ≡ Open = sym t.sectioned ∙ out.more in cc
    busy (Tells t) out = let clash : Section ≡ Open = sym t.sectioned ∙ out.more in cc
    busy (WishesToTell a) out = let clash : Section ≡ Open = sym a.sectioned ∙ out.more in cc

    -- a wish is noted last
    wished : (n : Note) (ns : List Note) → notes new ≡ ns ++ n ∷ [] → (IsWant n → ⊥) → StaysThere old new → ⊥
    wished n ns are other s = other (subst IsWant (sym (last_snoc s.left.1.1 s.left.1.0 Cleared) ∙ (ap (λ (l : List Note). last_of l Cleared) (sym s.left.1.2 ∙ are) ∙ last_snoc ns n Cleared)) s.left.1.3)

    -- a reply was kept
    replied : (r : Reply) → new.replies ≡ old.replies ++ r ∷ [] → StaysThere old new → ⊥
    replied r are s = let longer = length-append old.replies (r ∷ []) in let same : length new.replies ≡ length old.replies = ap (λ (rs : List Reply). length rs) s.replies in let grown : length new.replies ≡ length (old.replies ++ r ∷ []) = ap (λ (rs : List Reply). length rs) are in omega arith

    moved : CalmDid h (wanting old 0) new → StaysThere old new → ⊥
    moved (Finalises f) s =
        let more = keeps_one old.supply old.replies old.ran (reply_of f.ran) in
        let grown : length new.replies + length new.ran ≡ length (said_with old.supply old.replies (reply_of f.ran)) + length (ran_with old.supply old.ran (reply_of f.ran)) = ap (λ (r : RunView). length r.replies + length r.ran) f.run in
        let same : length new.replies + length new.ran ≡ length old.replies + length old.ran = λ i. length (s.replies i) + length (s.ran i) in
        omega (arith, more, grown, same)
    moved (Wishes a) s = wished (Asked (bit_of (wish_of a.command))) _ (ap notes a.run) (λ w. w) s
    moved (Refuses a) s = wished (Asked (bit_of Full)) _ (ap notes a.run) (λ w. w) s
    moved (Tries c other t) s = replied t.reply (ap (λ (r : RunView). r.replies) t.run) s
    moved (Works p) s =
        let kept = works_keeps h (wanting old 0) p.worked p.spent p.works in
        replied p.tried.reply (ap (λ (r : RunView). r.replies) p.run ∙ (keeps_replies p.spent p.made ∙ (ap (λ (r : RunView). r.replies) p.tried.run ∙ ap (λ (rs : List Reply). rs ++ p.tried.reply ∷ []) kept.replies))) s
    moved (Ends t) s = let clash : true ≡ false = sym (ap (λ (r : RunView). r.ended) t.run) ∙ s.goes_on in cc
    moved (Sees t) s = let clash : Within ≡ Before = sym (ap (λ (r : RunView). r.place) t.run) ∙ (s.place ∙ t.was) in cc
    moved (Makes c t) s = replied t.reply (ap (λ (r : RunView). r.replies) t.run) s
    moved (Tells t) s = let clash : Behind ≡ Within = sym (ap (λ (r : RunView). r.place) t.run) ∙ (s.place ∙ t.was) in cc
    moved (WishesToTell a) s = wished (Asked (bit_of Young)) _ (ap notes a.run) (λ w. w) s

    did : CalmDid h (wanting old 0) new → Left old new IsOther
    did (Finalises f) = (ap (λ (x : DomainView). x.own.arrivals) f.first.view, (Want 0, notes old, ap (λ (x : DomainView). x.seen.notes) f.first.view, tt))
    did (Wishes a) = (ap arrivals a.run, (Asked (bit_of (wish_of a.command)), (notes old ++ Want 0 ∷ []), ap notes a.run, tt))
    did (Refuses a) = (
      ap arrivals a.run ∙ ap (λ (x : DomainView). x.own.arrivals) (sought_view h.config (wanting old 0).token.view (with_front a.searched.view old.token.view.seen.front) AtRest a.refused.view),
      (Asked (bit_of Full), a.searched.view.seen.notes, ap notes a.run, tt),
    )
    did (Tries c other t) = (t.tried.stays.arrivals, (Want 0, notes old, t.tried.stays.notes, tt))
    did (Works p) =
        let t = p.tried in
        let kept = works_keeps h (wanting old 0) p.worked p.spent p.works in
        let seen : notes p.worked ≡ notes old ++ Want 0 ∷ [] = kept.notes in
        let here : arrivals p.worked ≡ arrivals old = kept.arrivals in
        subst (λ (r : RunView). Left old r IsOther) (sym p.run) (asked p.spent p.made (t.tried.stays.arrivals ∙ here, (Want 0, notes old, t.tried.stays.notes ∙ seen, tt)))
    did (Sees t) = (t.looked.makes.stays.arrivals, (Want 0, notes old, t.looked.makes.stays.notes, tt))
    did (Makes c t) = let m = (makes_steps h (wanting old 0) new c t).makes in (m.stays.arrivals, (Want 0, notes old, m.stays.notes, tt))
    did (Tells t) = (t.makes.makes.stays.arrivals, (Want 0, notes old, t.makes.makes.stays.notes, tt))
    did (WishesToTell a) = (ap arrivals a.run, (Asked (bit_of Young), (notes old ++ Want 0 ∷ []), ap notes a.run, tt))
    did (Ends t) = (ap (λ (x : DomainView). x.own.arrivals) t.ended.view, (Want 0, notes old, ap (λ (x : DomainView). x.seen.notes) t.ended.view, tt))
run_sign h old new (Waiting b) says = absurd says
run_sign h old new Hungry says = ((ap arrivals says.run, (Want 0, notes old, ap notes says.run, tt)), record { more = says.more; past = says.past; unqueued = says.unqueued })
run_sign h old new (Held section) says =
    let stays = says.looked.makes.stays in record {
      there = record {
        left = (stays.arrivals, (Want 0, notes old, stays.notes, tt));
        goes_on = ap (λ (r : RunView). r.ended) says.run ∙ says.goes_on;
        next = ap (λ (r : RunView). r.next) says.run;
        replies = ap (λ (r : RunView). r.replies) says.run;
        ran = ap (λ (r : RunView). r.ran) says.run;
        place = ap (λ (r : RunView). r.place) says.run;
      };
      waits = says.waits;
      sectioned = says.sectioned;
    }
run_sign h old new (Idle n) says = ((ap arrivals says.0.run, (Ended n, (notes old ++ Want 0 ∷ []), ap notes says.0.run, refl)), says.1)
run_sign h old new Over says = (ap arrivals says.run, (Ended h.config.domains, (notes old ++ Want 0 ∷ []), ap notes says.run, refl))

starts_same : (h : SharedHeap) (old start : RunView) → Starts h old start → arrivals start ≡ arrivals old
starts_same h old start s = ⊎_elim (λ (t : (old.left ≡ None) × (start ≡ old)). ap arrivals t.1) (λ (t : Resumes h old start). ap (λ (x : DomainView). x.own.arrivals) t.passed.view) s

-- what is left to do is the same where a turn starts
starts_out : (h : SharedHeap) (old start : RunView) → Starts h old start → (IsOut start → IsOut old) × (IsOut old → IsOut start)
starts_out h old start s = ⊎_elim
    (λ (t : (old.left ≡ None) × (start ≡ old)). (λ out. subst IsOut t.1 out, λ out. subst IsOut (sym t.1) out))
    (λ (t : Resumes h old start).
    let supply : start.supply ≡ old.supply = ap (λ (r : RunView). r.supply) t.run in
    let commands : start.commands ≡ old.commands = ap (λ (r : RunView). r.commands) t.run in
    let next : start.next ≡ old.next = ap (λ (r : RunView). r.next) t.run in
    let queue : start.token.view.own.finalisers.queue.items ≡ old.token.view.own.finalisers.queue.items = ap (λ (x : DomainView). x.own.finalisers.queue.items) t.passed.view in (
      λ out. record { more = sym supply ∙ out.more; past = subst (λ (w : List model.Command × ℕ). length w.0 ≤ w.1) (λ i. (commands i, next i)) out.past; unqueued = sym queue ∙ out.unqueued },
      λ out. record { more = supply ∙ out.more; past = subst (λ (w : List model.Command × ℕ). length w.0 ≤ w.1) (λ i. (sym commands i, sym next i)) out.past; unqueued = queue ∙ out.unqueued },
    ))
    s

-- and so is what the run is
starts_there : (h : SharedHeap) (old start new : RunView) → Starts h old start → (StaysThere start new → StaysThere old new) × (StaysThere old new → StaysThere start new)
starts_there h old start new s = ⊎_elim
    (λ (t : (old.left ≡ None) × (start ≡ old)). (λ there. subst (λ (r : RunView). StaysThere r new) t.1 there, λ there. subst (λ (r : RunView). StaysThere r new) (sym t.1) there))
    (λ (t : Resumes h old start).
    let next : start.next ≡ old.next = ap (λ (r : RunView). r.next) t.run in
    let replies : start.replies ≡ old.replies = ap (λ (r : RunView). r.replies) t.run in
    let ran : start.ran ≡ old.ran = ap (λ (r : RunView). r.ran) t.run in
    let place : start.place ≡ old.place = ap (λ (r : RunView). r.place) t.run in
    let same : arrivals start ≡ arrivals old = ap (λ (x : DomainView). x.own.arrivals) t.passed.view in (
      λ there. record { left = (there.left.0 ∙ same, there.left.1); goes_on = there.goes_on; next = there.next ∙ next; replies = there.replies ∙ replies; ran = there.ran ∙ ran; place = there.place ∙ place },
      λ there. record { left = (there.left.0 ∙ sym same, there.left.1); goes_on = there.goes_on; next = there.next ∙ sym next; replies = there.replies ∙ sym replies; ran = there.ran ∙ sym ran; place = there.place ∙ sym place },
    ))
    s

starts_held : (h : SharedHeap) (old start new : RunView) (section : ℕ) → Starts h old start → IsHeldAt start new section → IsHeldAt old new section
starts_held h old start new section s held = ⊎_elim
    (λ (t : (old.left ≡ None) × (start ≡ old)). subst (λ (r : RunView). IsHeldAt r new section) t.1 held)
    (λ (t : Resumes h old start). record {
      there = (starts_there h old start new s).0 held.there;
      waits = subst (λ (w : (Place × ℕ) × (List model.Command × ℕ)). awaited w.0.0 w.0.1 (slice_get w.1.0 w.1.1) ≡ Some section)
          (λ i. (((ap (λ (r : RunView). r.place) t.run) i, (ap (λ (x : DomainView). x.own.number) t.passed.view) i), ((ap (λ (r : RunView). r.commands) t.run) i, (ap (λ (r : RunView). r.next) t.run) i))) held.waits;
      sectioned = sym (ap (λ (r : RunView). r.supply) t.run) ∙ held.sectioned;
    })
    s

from_start : (h : SharedHeap) (old start new : RunView) (a : Turned) → Starts h old start → Sign h start new a → Sign h old new a
from_start h old start new a started s = by a s
  where
    same : arrivals start ≡ arrivals old
    same = starts_same h old start started

    by : (b : Turned) → Sign h start new b → Sign h old new b
    by Did t = ⊎_elim
        (λ (e : arrivals new ≡ arrivals start + 1). inl (e ∙ ap (λ (n : ℕ). n + 1) same))
        (λ (l : Left start new IsOther × (IsOut start → ⊥) × (StaysThere start new → ⊥)). inr ((l.0.0 ∙ same, l.0.1), λ out. l.1 ((starts_out h old start started).1 out), λ there. l.2 ((starts_there h old start new started).1 there))) t
    by (Waiting b) t = (t.0 ∙ same, t.1)
    by Hungry t = ((t.0.0 ∙ same, t.0.1), (starts_out h old start started).0 t.1)
    by (Held section) t = starts_held h old start new section started t
    by (Idle n) t = ((t.0.0 ∙ same, t.0.1), t.1)
    by Over t = (t.0 ∙ same, t.1)

-- a domain that came to a phase in which a collection is answered has arrived once more
answer_arrives : (k : Config) (x begun y z : DomainView) → ComesToAnswer k x begun → y ≡ arrived_view z → z.own.arrivals ≡ begun.own.arrivals → y.own.arrivals ≡ x.own.arrivals + 1
answer_arrives k x begun y z c is same = ap (λ (v : DomainView). v.own.arrivals) is ∙ ap (λ (n : ℕ). n + 1) (same ∙ ap (λ (v : DomainView). v.own.arrivals) c.passed.view)

sign : (h : SharedHeap) (old new : RunView) (a : Turned) → TurnAnswers h old new a → Sign h old new a
sign h old new Did says = ⊎_elim
    (λ (g : GoesBy h ByWishes old new). inl (passes_leaves ByWishes h.config old.token.view new.token.view g.last g.kind g.passes).arrivals)
    (⊎_elim
    (λ (a : IsAnswered h old new). inl (answer_arrives h.config old.token.view a.answers.begun new.token.view (sunk (with_front a.answers.begun a.answers.front) new.token.view) a.answers.comes a.answers.view refl))
    (⊎_elim
    (λ (s : SeesAnswer h old new). let g = s.gives in inl (answer_arrives h.config old.token.view g.begun new.token.view (sunk (with_front g.begun new.token.view.seen.front) new.token.view) g.comes g.view refl))
    (λ (t : (start : RunView) × Starts h old start × RunAnswers h start new Did). from_start h old t.0 new Did t.1 (run_sign h t.0 new Did t.2))))
    says
sign h old new (Waiting b) w = (ap arrivals w.run, (Barrier b, notes old, ap notes w.run, refl))
sign h old new Hungry t = from_start h old t.0 new Hungry t.1 (run_sign h t.0 new Hungry t.2)
sign h old new (Held section) t = from_start h old t.0 new (Held section) t.1 (run_sign h t.0 new (Held section) t.2)
sign h old new (Idle n) t = from_start h old t.0 new (Idle n) t.1 (run_sign h t.0 new (Idle n) t.2)
sign h old new Over t = from_start h old t.0 new Over t.1 (run_sign h t.0 new Over t.2)

-- two signs have one last note
one_note : (old new : RunView) (P Q : Note → Type 0) → Left old new P → Left old new Q → (n : Note) × P n × Q n
one_note old new P Q p q =
    let n : Note = p.1.0 in
    let m : Note = q.1.0 in
    let same : m ≡ n = sym (last_snoc q.1.1 m Cleared) ∙ (ap (λ (l : List Note). last_of l Cleared) (sym q.1.2 ∙ p.1.2) ∙ last_snoc p.1.1 n Cleared) in
    (n, p.1.3, subst Q same q.1.3)

same_barrier : (b c : ℕ) → Barrier b ≡ Barrier c → b ≡ c
same_barrier b c e = cc

ends : (b c : ℕ) → Ended b ≡ Ended c → b ≡ c
ends b c e = cc

apart : (b c : ℕ) → Barrier b ≡ Ended c → ⊥
apart b c e = cc

no_other : (h : SharedHeap) (old new : RunView) (P : Note → Type 0) → ((n : Note) → P n → IsOther n → ⊥) → Left old new P → Left old new IsOther → ⊥
no_other h old new P none l o = let t = one_note old new P IsOther l o in none t.0 t.1 t.2

-- a turn that leaves what is to be done as it was did something else
no_hungry : (h : SharedHeap) (old new : RunView) → Sign h old new Did → Sign h old new Hungry → ⊥
no_hungry h old new s t = ⊎_elim (λ (e : arrivals new ≡ arrivals old + 1). let f = t.0.0 in omega arith) (λ (o : Left old new IsOther × (IsOut old → ⊥) × (StaysThere old new → ⊥)). o.1 t.1) s

no_did : (h : SharedHeap) (old new : RunView) (P : Note → Type 0) → ((n : Note) → P n → IsOther n → ⊥) → Left old new P → Sign h old new Did → ⊥
no_did h old new P none l s = ⊎_elim (λ (e : arrivals new ≡ arrivals old + 1). let f = l.0 in omega arith) (λ (o : Left old new IsOther × (IsOut old → ⊥) × (StaysThere old new → ⊥)). no_other h old new P none l o.0) s

no_held : (h : SharedHeap) (old new : RunView) → StaysThere old new → Sign h old new Did → ⊥
no_held h old new there s = ⊎_elim (λ (e : arrivals new ≡ arrivals old + 1). let f = there.left.0 in omega arith) (λ (o : Left old new IsOther × (IsOut old → ⊥) × (StaysThere old new → ⊥)). o.2 there) s

-- a want word is another note
want_other : (n : Note) → IsWant n → IsOther n
want_other (Want w) is = tt
want_other (Asked w) is = absurd is
want_other (Barrier w) is = absurd is
want_other n is = absurd is

held_other : (old new : RunView) → StaysThere old new → Left old new IsOther
held_other old new s = (s.left.0, (s.left.1.0, s.left.1.1, s.left.1.2, want_other s.left.1.0 s.left.1.3))

out_held : (old new : RunView) (section : ℕ) → IsHeldAt old new section → IsOut old → ⊥
out_held old new section s out = let clash : Section ≡ Open = sym s.sectioned ∙ out.more in cc

one_held : (o : Option ℕ) (b c : ℕ) → o ≡ Some b → o ≡ Some c → b ≡ c
one_held o b c p q = let same : Some b ≡ Some c = sym p ∙ q in cc

not_barrier : (b : ℕ) (n : Note) → IsBarrier b n → IsOther n → ⊥
not_barrier b n is other = subst IsOther is other

not_ended : (c : ℕ) (n : Note) → IsEnded c n → IsOther n → ⊥
not_ended c n is other = subst IsOther is other

one_sign : (h : SharedHeap) (old new : RunView) (a b : Turned) → Sign h old new a → Sign h old new b → a ≡ b
one_sign h old new Did Did p q = refl
one_sign h old new Did (Waiting c) p q = absurd (no_did h old new (IsBarrier c) (not_barrier c) q p)
one_sign h old new Did Hungry p q = absurd (no_hungry h old new p q)
one_sign h old new Did (Held c) p q = absurd (no_held h old new q.there p)
one_sign h old new Did (Idle c) p q = absurd (no_did h old new (IsEnded c) (not_ended c) q.0 p)
one_sign h old new Did Over p q = absurd (no_did h old new (IsEnded h.config.domains) (not_ended h.config.domains) q p)
one_sign h old new (Waiting b) Did p q = absurd (no_did h old new (IsBarrier b) (not_barrier b) p q)
one_sign h old new (Waiting b) (Waiting c) p q = let t = one_note old new (IsBarrier b) (IsBarrier c) p q in ap Waiting (same_barrier b c (sym t.1 ∙ t.2))
one_sign h old new (Waiting b) Hungry p q = absurd (no_other h old new (IsBarrier b) (not_barrier b) p q.0)
one_sign h old new (Waiting b) (Held c) p q = absurd (no_other h old new (IsBarrier b) (not_barrier b) p (held_other old new q.there))
one_sign h old new (Waiting b) (Idle c) p q = let t = one_note old new (IsBarrier b) (IsEnded c) p q.0 in absurd (apart b c (sym t.1 ∙ t.2))
one_sign h old new (Waiting b) Over p q = let t = one_note old new (IsBarrier b) (IsEnded h.config.domains) p q in absurd (apart b h.config.domains (sym t.1 ∙ t.2))
one_sign h old new Hungry Did p q = absurd (no_hungry h old new q p)
one_sign h old new Hungry (Waiting c) p q = absurd (no_other h old new (IsBarrier c) (not_barrier c) q p.0)
one_sign h old new Hungry Hungry p q = refl
one_sign h old new Hungry (Held c) p q = absurd (out_held old new c q p.1)
one_sign h old new Hungry (Idle c) p q = absurd (no_other h old new (IsEnded c) (not_ended c) q.0 p.0)
one_sign h old new Hungry Over p q = absurd (no_other h old new (IsEnded h.config.domains) (not_ended h.config.domains) q p.0)
one_sign h old new (Held b) Did p q = absurd (no_held h old new p.there q)
one_sign h old new (Held b) (Waiting c) p q = absurd (no_other h old new (IsBarrier c) (not_barrier c) q (held_other old new p.there))
one_sign h old new (Held b) Hungry p q = absurd (out_held old new b p q.1)
one_sign h old new (Held b) (Held c) p q = ap Held (one_held _ b c p.waits q.waits)
one_sign h old new (Held b) (Idle c) p q = absurd (no_other h old new (IsEnded c) (not_ended c) q.0 (held_other old new p.there))
one_sign h old new (Held b) Over p q = absurd (no_other h old new (IsEnded h.config.domains) (not_ended h.config.domains) q (held_other old new p.there))
one_sign h old new (Idle b) Did p q = absurd (no_did h old new (IsEnded b) (not_ended b) p.0 q)
one_sign h old new (Idle b) (Waiting c) p q = let t = one_note old new (IsBarrier c) (IsEnded b) q p.0 in absurd (apart c b (sym t.1 ∙ t.2))
one_sign h old new (Idle b) Hungry p q = absurd (no_other h old new (IsEnded b) (not_ended b) p.0 q.0)
one_sign h old new (Idle b) (Held c) p q = absurd (no_other h old new (IsEnded b) (not_ended b) p.0 (held_other old new q.there))
one_sign h old new (Idle b) (Idle c) p q = let t = one_note old new (IsEnded b) (IsEnded c) p.0 q.0 in ap Idle (ends b c (sym t.1 ∙ t.2))
one_sign h old new (Idle b) Over p q = let t = one_note old new (IsEnded b) (IsEnded h.config.domains) p.0 q in absurd (let e : b ≡ h.config.domains = ends b h.config.domains (sym t.1 ∙ t.2) in let f = p.1 in omega arith)
one_sign h old new Over Did p q = absurd (no_did h old new (IsEnded h.config.domains) (not_ended h.config.domains) p q)
one_sign h old new Over (Waiting c) p q = let t = one_note old new (IsBarrier c) (IsEnded h.config.domains) q p in absurd (apart c h.config.domains (sym t.1 ∙ t.2))
one_sign h old new Over Hungry p q = absurd (no_other h old new (IsEnded h.config.domains) (not_ended h.config.domains) p q.0)
one_sign h old new Over (Held c) p q = absurd (no_other h old new (IsEnded h.config.domains) (not_ended h.config.domains) p (held_other old new q.there))
one_sign h old new Over (Idle c) p q = let t = one_note old new (IsEnded c) (IsEnded h.config.domains) q.0 p in absurd (let e : c ≡ h.config.domains = ends c h.config.domains (sym t.1 ∙ t.2) in let f = q.1 in omega arith)
one_sign h old new Over Over p q = refl

-- what a turn did determines its answer
pub one_answer : (h : SharedHeap) (old new : RunView) (a b : Turned) → TurnAnswers h old new a → TurnAnswers h old new b → b ≡ a
one_answer h old new a b p q = sym (one_sign h old new a b (sign h old new a p) (sign h old new b q))
