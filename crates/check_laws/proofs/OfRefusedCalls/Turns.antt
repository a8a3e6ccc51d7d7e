-- What the clauses of `turn` refuse.
use Rattle.std.proofs.Common.{◌≡◌, ◌≢◌, ◌∙◌, ℕ, ◌+◌, ◌*◌, ◌<◌, ◌≤◌, Bool, true, false, None, List, [], ◌∷◌, ◌++◌, ◌&&◌, ◌||◌, ◌==◌, length, Option, refl, sym, ap, ⊎_elim, arith}
use Rattle.model_core.specs.declared.command.Command.TheVariants.{AllocMaj, Minor}
use Rattle.model_core.specs.declared.reply.Reply.{Reply}
use Rattle.heap_rule.specs.declared.config.Config.{Config}
use Rattle.heap_rule.specs.declared.phase.Kind.{Kind}
use Rattle.heap_rule.specs.declared.phase.Note.TheVariants.{Asked}
use Rattle.heap_rule.specs.declared.view.DomainView.{DomainView}
use Rattle.heap_rule.specs.declared.view.Waiting.{Waiting}
use Rattle.heap_rule.specs.Token.{Token, SharedHeap}
use Rattle.gc_pause.specs.Stops.Looks.{bit_of}
use Rattle.gc_pause.specs.declared.stops.answer.Want.TheVariants.{Finish}
use Rattle.model_core.specs.Domains.{class_count, reserve}
use Rattle.heap_rule.specs.Rule.{state_of}
use Rattle.heap_rule.specs.Limits.{sizes_in}
use Rattle.std.proofs.lemmas.Bool.{eq-eqb, le-leb, lt-leb, ne_eqb}
use Rattle.gc_pause.specs.declared.phases.decider.Decider.{Decider}
use Rattle.run_turns.specs.Pausing.{LeavesOdd, blocks_left}
use Rattle.run_turns.specs.Runs.{CalmDid, EndsTrace, IsAnswered, IsHandedIn, Polls, RunView, RunsFinaliser, SeesAnswer, Stops, TriesCommand, WorksBeside, answer_of, asking_end, first_reply, is_asked, lets_refuse, may_use_up, ran_with, served_since}
use Rattle.run_turns.specs.Runs.CalmDid.{Finalises, Wishes, Refuses, Tries, Works, Ends, Sees, Makes, Tells, WishesToTell}
use Rattle.run_turns.specs.declared.supply.Supply.{Supply}
use Rattle.run_turns.specs.declared.supply.Supply.TheVariants.{Listed, Section, Open, Closed}
use Rattle.run_turns.specs.Tries.{HasPool, Refused, Stands}
use Rattle.run_turns.proofs.Kept.{said_apart}
use Rattle.do_finalisers.specs.Running.{reply_of}
use Rattle.model_core.specs.declared.command.Command as model

few_refuse : (pools made : ℕ) → made < pools → pools ≤ made → ⊥
few_refuse pools made few many = omega (arith, few, many)

-- the domain's queue of finalisers
abbrev queue_of : RunView → List Waiting
queue_of r = r.token.view.own.finalisers.queue.items

-- work for the collector leaves the queue as it is
work_keeps_queue : (h : SharedHeap) (old worked : RunView) (spent : Bool) → WorksBeside h old worked spent → queue_of worked ≡ queue_of old
work_keeps_queue h old worked spent work = ⊎_elim
    (λ m. ap (λ (x : DomainView). x.own.finalisers.queue.items) m.learnt.view)
    (λ s. ap (λ (x : DomainView). x.own.finalisers.queue.items) s.0.1.swept.view)
    work

-- while a finaliser waits a turn tries no command, asks for no pause and ends no trace: it runs one
pub waiting_finalisers_come_first : (h : SharedHeap) (old new : RunView) (first : Waiting) (rest : List Waiting) → queue_of old ≡ first ∷ rest → CalmDid h old new → RunsFinaliser h old.token old new
waiting_finalisers_come_first h old new first rest waits (Finalises r) = r
waiting_finalisers_come_first h old new first rest waits (Wishes a) = let e : first ∷ rest ≡ [] = sym waits ∙ a.unqueued in cc
waiting_finalisers_come_first h old new first rest waits (Refuses a) = let e : first ∷ rest ≡ [] = sym waits ∙ a.unqueued in cc
waiting_finalisers_come_first h old new first rest waits (Tries c other t) = let e : first ∷ rest ≡ [] = sym waits ∙ t.unqueued in cc
waiting_finalisers_come_first h old new first rest waits (Works p) = let e : first ∷ rest ≡ [] = sym waits ∙ (sym (work_keeps_queue h old p.worked p.spent p.works) ∙ p.tried.unqueued) in cc
waiting_finalisers_come_first h old new first rest waits (Ends e) = let clash : first ∷ rest ≡ [] = sym waits ∙ e.unqueued in cc
waiting_finalisers_come_first h old new first rest waits (Sees t) = let clash : first ∷ rest ≡ [] = sym waits ∙ t.unqueued in cc
waiting_finalisers_come_first h old new first rest waits (Makes c t) = let clash : first ∷ rest ≡ [] = sym waits ∙ t.unqueued in cc
waiting_finalisers_come_first h old new first rest waits (Tells t) = let clash : first ∷ rest ≡ [] = sym waits ∙ t.unqueued in cc
waiting_finalisers_come_first h old new first rest waits (WishesToTell a) = let clash : first ∷ rest ≡ [] = sym waits ∙ a.unqueued in cc

-- a `minor` isn't made before a pause has served it
pub minor_waits_for_its_pause : (h : SharedHeap) (start : Token) (old new : RunView) → TriesCommand h start old new Minor → served_since old.asked old.token.view.own.arrivals ≡ false → ⊥
minor_waits_for_its_pause h start old new t unserved = t.ready unserved

-- no allocation is refused while few blocks were made
pub few_blocks_refuse_nothing : (h : SharedHeap) (old new : Token) (c : model.Command) (collected : Bool) → Refused h old new c collected → length (state_of h.config new.view.seen.front).graph + reserve (sizes_in h.config) + class_count * h.config.domains < h.config.pools → ⊥
few_blocks_refuse_nothing h old new c collected refused few = few_refuse h.config.pools (length (state_of h.config new.view.seen.front).graph + reserve (sizes_in h.config) + class_count * h.config.domains) few refused.many

-- an allocation in the major heap is answered `full` only after a complete collection for it, and with no own pool left to be swept
pub full_comes_after_a_collection : (h : SharedHeap) (old new : Token) (dst tag fields : ℕ) (r : Reply) → Stands h old new (AllocMaj dst tag fields) false r → HasPool h.config (fields + 2) old.view new.view
full_comes_after_a_collection h old new dst tag fields r s = ⊎_elim (λ f. f.1) (λ f. let e : false ≡ true = f.2 in cc) s

-- the pause at which a domain arrives takes away what it knew of an earlier complete collection
pub a_later_pause_takes_the_collection : (old new : RunView) → Stops old new → new.collected ≡ false
a_later_pause_takes_the_collection old new s = ap (λ (r : RunView). r.collected) s.run

-- whether a complete collection counts for the domain's next command is told by whether it had asked, and by how many blocks live where its front has come
counted : (h : SharedHeap) (old new : RunView) → SeesAnswer h old new → new.collected ≡ (is_asked old.asked && lets_refuse h.config (blocks_left h.config new.token.view))
counted h old new s = ap (λ (r : RunView). r.collected) s.run

-- a complete collection for which the domain hadn't asked doesn't count for its next command
pub the_collection_of_others_counts_nothing : (h : SharedHeap) (old new : RunView) → old.asked ≡ None → SeesAnswer h old new → new.collected ≡ false
the_collection_of_others_counts_nothing h old new unasked s = counted h old new s ∙ ap (λ (o : Option ℕ). is_asked o && lets_refuse h.config (blocks_left h.config new.token.view)) unasked

-- nor does one that left so few blocks that more pools are free than the reserve, where the heap has several domains: a body that counts every complete collection is refused
pub a_collection_that_left_little_counts_nothing : (h : SharedHeap) (old new : RunView) → SeesAnswer h old new → h.config.domains ≢ 1 → blocks_left h.config new.token.view + reserve (sizes_in h.config) < h.config.pools → new.collected ≡ false
a_collection_that_left_little_counts_nothing h old new s several little =
    let no : may_use_up h.config (blocks_left h.config new.token.view) ≡ false = lt-leb h.config.pools (blocks_left h.config new.token.view + reserve (sizes_in h.config)) little in
    let apart : (h.config.domains == 1) ≡ false = ne_eqb h.config.domains 1 several in
    counted h old new s ∙ ((λ i. is_asked old.asked && (apart i || no i)) ∙ none (is_asked old.asked))
  where
    none : (b : Bool) → (b && false) ≡ false
    none true = refl
    none false = refl

-- one for which it had asked, and that left so many that they may use up the pools, does: a body that counts none is refused
pub a_collection_that_left_much_counts : (h : SharedHeap) (old new : RunView) → SeesAnswer h old new → is_asked old.asked ≡ true → h.config.pools ≤ blocks_left h.config new.token.view + reserve (sizes_in h.config) → new.collected ≡ true
a_collection_that_left_much_counts h old new s asked much =
    let yes : may_use_up h.config (blocks_left h.config new.token.view) ≡ true = le-leb h.config.pools (blocks_left h.config new.token.view + reserve (sizes_in h.config)) much in
    counted h old new s ∙ ((λ i. asked i && ((h.config.domains == 1) || yes i)) ∙ either (h.config.domains == 1))
  where
    either : (b : Bool) → (b || true) ≡ true
    either true = refl
    either false = refl

-- so does one that came for it in a heap of one domain, however much it left: a domain alone asks for one complete collection at most for an allocation
pub alone_a_collection_counts : (h : SharedHeap) (old new : RunView) → SeesAnswer h old new → is_asked old.asked ≡ true → h.config.domains ≡ 1 → new.collected ≡ true
alone_a_collection_counts h old new s asked alone =
    let one : (h.config.domains == 1) ≡ true = eq-eqb h.config.domains 1 alone in
    counted h old new s ∙ (λ i. asked i && (one i || may_use_up h.config (blocks_left h.config new.token.view)))

-- a poll that marked and found no hint more asks for the end of the cycle
pub a_spent_poll_asks_for_the_end : (h : SharedHeap) (old new : RunView) (p : Polls h old new) → p.spent ≡ true → new.token.view.seen.notes ≡ p.made.token.view.seen.notes ++ Asked (bit_of Finish) ∷ []
a_spent_poll_asks_for_the_end h old new p spent = ap (λ (r : RunView). r.token.view.seen.notes) (p.run ∙ ap (λ (b : Bool). asking_end b p.made) spent)

-- a trace ends only behind its last command
pub a_trace_ends_behind_its_commands : (h : SharedHeap) (start : Token) (old new : RunView) → EndsTrace h start old new → old.next < length old.commands → ⊥
a_trace_ends_behind_its_commands h start old new e left = let past = e.past in omega (arith, past, left)

-- a domain other than 0 names no kind of its own
pub domain_0_alone_leads : (k : Config) (who : Decider) (x y : DomainView) (last kind : Kind) → x.own.number ≢ 0 → LeavesOdd k who x y last kind → kind ≡ last
domain_0_alone_leads k who x y before kind other l = ⊎_elim (λ a. absurd (other a.0)) (λ a. a.1) l

-- a domain isn't answered that has asked for no pause
pub nobody_is_answered_unasked : (h : SharedHeap) (old new : RunView) → IsAnswered h old new → old.asked ≡ None → ⊥
nobody_is_answered_unasked h old new a none = let e : false ≡ true = sym (ap is_asked none) ∙ a.waited.wished in cc

-- where commands are handed in the reply of a finaliser isn't taken for the command's: a body that keeps it among them is refused
pub a_finaliser_answers_no_command : (h : SharedHeap) (start : Token) (old new : RunView) → IsHandedIn old.supply → RunsFinaliser h start old new → answer_of new ≡ answer_of old
a_finaliser_answers_no_command h start old new handed f = ap answer_of f.run ∙ ap (λ (rs : List Reply). first_reply old.supply rs) (said_apart old.supply old.replies (reply_of f.ran) handed)

-- nor is it dropped
pub a_finaliser_is_told : (h : SharedHeap) (start : Token) (old new : RunView) → IsHandedIn old.supply → (f : RunsFinaliser h start old new) → new.ran ≡ old.ran ++ reply_of f.ran ∷ []
a_finaliser_is_told h start old new handed f = ap (λ (r : RunView). r.ran) f.run ∙ apart old.supply handed
  where
    apart : (s : Supply) → IsHandedIn s → ran_with s old.ran (reply_of f.ran) ≡ old.ran ++ reply_of f.ran ∷ []
    apart Listed handed = absurd handed
    apart Section handed = absurd handed
    apart Open handed = refl
    apart Closed handed = refl

-- and a command doesn't tell one again
pub a_command_tells_no_finaliser : (h : SharedHeap) (start : Token) (old new : RunView) (c : model.Command) → TriesCommand h start old new c → new.ran ≡ old.ran
a_command_tells_no_finaliser h start old new c t = ap (λ (r : RunView). r.ran) t.run

pub a_full_major_tells_no_finaliser : (h : SharedHeap) (old new : RunView) → IsAnswered h old new → new.ran ≡ old.ran
a_full_major_tells_no_finaliser h old new a = ap (λ (r : RunView). r.ran) a.run
