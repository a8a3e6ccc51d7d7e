-- In the history of one domain the entries of others are the collector's.
use Rattle.std.proofs.Common.{◌≡◌, ◌≢◌, ◌∙◌, true≢false, ℕ, zero, suc, Bool, true, false, List, [], ◌∷◌, ◌++◌, length, refl, sym, ap, subst, arith}
use Rattle.std.specs.Prelude.{cond, not, slice_index_or, IsTrue, ◌==◌, ◌||◌}
use Rattle.model_core.specs.declared.command.Command as model
use Rattle.model_core.specs.declared.entry.Entry.{Entry}
use Rattle.model_core.specs.declared.entry.Entry.TheVariants.{Command, End, Cut, Queue, Seal, Wipe, Last, Collected, Done, Ran}
use Rattle.model_core.specs.declared.reply.Reply.{Reply}
use Rattle.model_core.specs.declared.reply.Reply.TheVariants.{Fin as FinReply, Last as LastReply}
use Rattle.model_core.specs.declared.reply.Applied.{Applied}
use Rattle.model_core.specs.declared.reply.Applied.TheVariants.{Replied}
use Rattle.model_core.specs.declared.state.Pending.{Pending}
use Rattle.model_core.specs.declared.state.Pending.TheVariants.{Fin, Last as LastPending}
use Rattle.model_core.specs.declared.state.DomainState.{DomainState}
use Rattle.model_core.specs.declared.state.Sizes.{Sizes}
use Rattle.model_core.specs.declared.state.State.{State}
use Rattle.model_core.specs.Domains.{IsWithinLimits, domain_at, no_domain, opening}
use Rattle.model_core.specs.Entries.{Allowed, next, reply, run_reply}
use Rattle.model_core.specs.Fronts.{IsFrontOf, NoneOf}
use Rattle.model_core.specs.History.{Legal, LegalFrom, is_entry_of, replies_from, reply_list, state_after}
use Rattle.model_core.proofs.Graphs.GraphLemmas.{and_parts}
use Rattle.model_core.proofs.Histories.FrontLemmas.{none_cons}
use Rattle.model_core.proofs.Histories.HistoryLemmas.{state_after-push}
use Rattle.model_core.proofs.Histories.ShapeAfterLemmas.{shaped-history}
use Rattle.model_core.proofs.Histories.SizesLemmas.{sizes_after}
use Rattle.run_turns.specs.Handed.{Finalised, OnlyRuns, PerformedOn}
use Rattle.run_turns.specs.Kept.{is_run_of}
use Rattle.weak_laws.specs.Tables.Performing.{Performed}
use Rattle.weak_laws.specs.Tables.Thinning.{AllCollector, is_collector}
use Rattle.weak_laws.proofs.OfTables.StepLemmas.{legal_parts}
use Rattle.run_session.specs.Stopping.{EndedView, EndsAfter, EndsIn, Follows, StopsAfter}
use Rattle.run_session.specs.Sessions.{SessionView}
use Rattle.heap_rule.specs.declared.config.Config.{Config}
use Rattle.heap_rule.specs.Limits.{sizes_in}

-- of one domain there is no other
no_other : (xs : List DomainState) (d : ℕ) → length xs ≡ 1 → (slice_index_or xs (suc d) no_domain).ended ≡ true
no_other [] d one = refl
no_other (x ∷ []) d one = refl
no_other (x ∷ y ∷ xs) d one = absurd (omega arith)

goes_on : (s : State) (d : ℕ) → length s.domains ≡ 1 → (domain_at s d).ended ≡ false → d ≡ 0
goes_on s zero one goes = refl
goes_on s (suc d) one goes = absurd (true≢false (sym (no_other s.domains d one) ∙ goes))

-- so an allowed entry that isn't domain 0's is the collector's
is_alone : (s : State) (e : Entry) → length s.domains ≡ 1 → Allowed s e → is_entry_of 0 e ≡ false → is_collector e ≡ true
is_alone s (Command d c full) one allowed other = absurd (let same : d ≡ 0 = goes_on s d one allowed.running in let is : is_entry_of 0 (Command 0 c full) ≡ false = subst (λ (n : ℕ). is_entry_of 0 (Command n c full) ≡ false) same other in cc)
is_alone s (End d) one allowed other = absurd (let same : d ≡ 0 = goes_on s d one allowed.running in let is : is_entry_of 0 (End 0) ≡ false = subst (λ (n : ℕ). is_entry_of 0 (End n) ≡ false) same other in cc)
is_alone s (Ran d) one allowed other = absurd (let same : d ≡ 0 = goes_on s d one allowed.running in let is : is_entry_of 0 (Ran 0) ≡ false = subst (λ (n : ℕ). is_entry_of 0 (Ran n) ≡ false) same other in cc)
is_alone s Cut one allowed other = refl
is_alone s (Queue d places) one allowed other = refl
is_alone s Seal one allowed other = refl
is_alone s (Wipe l keys) one allowed other = refl
is_alone s (Last d place) one allowed other = refl
is_alone s Collected one allowed other = refl
is_alone s Done one allowed other = refl

one_domain : (z : Sizes) (h : List Entry) → IsWithinLimits z → z.domains ≡ 1 → length (state_after (opening z) h).domains ≡ 1
one_domain z h limits one = (shaped-history z h limits).domain_count ∙ (ap (λ (y : Sizes). y.domains) (sizes_after (opening z) h) ∙ one)

pub alone_after : (z : Sizes) (h more : List Entry) → IsWithinLimits z → z.domains ≡ 1 → LegalFrom (state_after (opening z) h) more → NoneOf 0 more → AllCollector more
alone_after z h [] limits one legal none = refl
alone_after z h (e ∷ more) limits one legal none =
    let parts = none_cons 0 e more none in
    let first : is_collector e ≡ true = is_alone (state_after (opening z) h) e (one_domain z h limits one) legal.0 parts.0 in
    let rest : AllCollector more = alone_after z (h ++ e ∷ []) more limits one (subst (λ (s : State). LegalFrom s more) (sym (state_after-push (opening z) h e)) legal.1) parts.1 in
    rw first rest

-- a run of a finaliser has a reply, so where there is none no finaliser ran
ran_replies : (queue : List Pending) → queue ≢ [] → (r : Reply) × (run_reply queue ≡ Replied r)
ran_replies [] some = absurd (some refl)
ran_replies (Fin number l r ∷ rest) some = (FinReply number l, refl)
ran_replies (LastPending number ∷ rest) some = (LastReply number, refl)

own_none : (b : Bool) (a : Applied) (r : Reply) (rest : List Reply) → a ≡ Replied r → cond b (reply_list a) [] ++ rest ≡ [] → b ≡ false
own_none false a r rest is none = refl
own_none true a r rest is none = absurd (let one : r ∷ rest ≡ [] = sym (ap (λ (x : Applied). reply_list x ++ rest) is) ∙ none in cc)

not_own : (s : State) (e : Entry) (rest : List Reply) → Allowed s e → IsTrue (not (is_entry_of 0 e) || is_run_of 0 e) → cond (is_entry_of 0 e) (reply_list (reply s e)) [] ++ rest ≡ [] → is_entry_of 0 e ≡ false
not_own s (Ran k) rest allowed runs none = let ran = ran_replies (domain_at s k).queue allowed.queue in own_none (k == 0) (reply s (Ran k)) ran.0 rest ran.1 none
not_own s (Command k c full) rest allowed runs none = by (k == 0) runs
  where
    by : (b : Bool) → IsTrue (not b || false) → b ≡ false
    by true is = cc
    by false is = refl
not_own s (End k) rest allowed runs none = by (k == 0) runs
  where
    by : (b : Bool) → IsTrue (not b || false) → b ≡ false
    by true is = cc
    by false is = refl
not_own s e rest allowed runs none = refl

none_ran : (s : State) (h : List Entry) → LegalFrom s h → OnlyRuns 0 h → replies_from s h 0 ≡ [] → NoneOf 0 h
none_ran s [] legal runs none = refl
none_ran s (e ∷ h) legal runs none =
    let parts = and_parts (not (is_entry_of 0 e) || is_run_of 0 e) _ runs in
    let other : is_entry_of 0 e ≡ false = not_own s e (replies_from (next s e) h 0) legal.0 parts.0 none in
    let rest : replies_from (next s e) h 0 ≡ [] = sym (ap (λ (b : Bool). cond b (reply_list (reply s e)) [] ++ replies_from (next s e) h 0) other) ∙ none in
    rw other (none_ran (next s e) h legal.1 parts.1 rest)

-- where no finaliser ran the entries are the collector's
pub collectors : (z : Sizes) (old new : List Entry) → IsWithinLimits z → z.domains ≡ 1 → Legal z new → (f : Finalised z 0 old new []) → AllCollector f.rest
collectors z old new limits one legal f =
    let parts = legal_parts (opening z) old f.rest (subst (Legal z) f.appends legal) in
    alone_after z old f.rest limits one parts.1 (none_ran (state_after (opening z) old) f.rest parts.1 f.runs f.ran_are)

-- what was performed where none ran
pub performs : (z : Sizes) (old new : List Entry) (c : model.Command) (ran : List Reply) (r : Reply) → IsWithinLimits z → z.domains ≡ 1 → ran ≡ [] → PerformedOn z 0 old new c ran r → Performed z old new c r
performs z old new c ran r limits one none p =
    let f : Finalised z 0 old p.before [] = subst (Finalised z 0 old p.before) none p.finalised in
    let legal : Legal z p.before = (legal_parts (opening z) p.before (Command 0 c p.full ∷ []) (subst (Legal z) p.appends p.legal)).0 in
    record {
      between = f.rest;
      collector = collectors z old p.before limits one legal f;
      full = p.full;
      appends = p.appends ∙ ap (λ (h : List Entry). h ++ Command 0 c p.full ∷ []) f.appends;
      legal = p.legal;
      replies = ap (λ (h : List Entry). reply (state_after (opening z) h) (Command 0 c p.full)) (sym f.appends) ∙ p.replies;
    }

-- and at the end
pub follows : (z : Sizes) (front history : List Entry) → IsWithinLimits z → z.domains ≡ 1 → IsFrontOf 0 history front → Legal z history → Follows z front history
follows z front history limits one f legal =
    let whole : LegalFrom (opening z) front × LegalFrom (state_after (opening z) front) f.rest = legal_parts (opening z) front f.rest (subst (Legal z) f.appends legal) in record {
      after = f.rest;
      last = alone_after z front f.rest limits one whole.1 f.others;
      appends = f.appends;
      legal = legal;
    }

pub ends : (old : SessionView) (new : EndedView) (history : List Entry) → EndsIn old new → Follows (sizes_in new.config) new.front history → EndsAfter (sizes_in old.config) old.front history
ends old new history e f = record {
  before = e.before;
  ran = e.ran;
  finalised = e.finalised;
  after = f.after;
  last = f.last;
  appends = f.appends ∙ ap (λ (l : List Entry). l ++ f.after) e.front;
  legal = subst (λ (k : Config). Legal (sizes_in k) history) e.config f.legal;
}

-- where none ran by then
pub stops : (old : SessionView) (new : EndedView) (history : List Entry) → IsWithinLimits (sizes_in old.config) → old.config.domains ≡ 1 → old.config.finals ≡ 0 → EndsIn old new → Follows (sizes_in new.config) new.front history → StopsAfter (sizes_in old.config) old.front history
stops old new history limits one none e f =
    let z : Sizes = sizes_in old.config in
    let legal : Legal z history = subst (λ (k : Config). Legal (sizes_in k) history) e.config f.legal in
    let whole : Legal z new.front = (legal_parts (opening z) new.front f.after (subst (Legal z) f.appends legal)).0 in
    let plain : Finalised z 0 old.front e.before [] = subst (Finalised z 0 old.front e.before) (e.none none) e.finalised in
    let first : Legal z e.before = (legal_parts (opening z) e.before (End 0 ∷ []) (subst (Legal z) e.front whole)).0 in
    record {
      before = plain.rest;
      after = f.after;
      collector = collectors z old.front e.before limits one first plain;
      last = f.last;
      appends = f.appends ∙ (ap (λ (l : List Entry). l ++ f.after) e.front ∙ ap (λ (h : List Entry). (h ++ End 0 ∷ []) ++ f.after) plain.appends);
      legal = legal;
    }
