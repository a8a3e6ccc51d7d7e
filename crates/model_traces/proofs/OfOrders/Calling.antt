-- A history of calls alone is made of its turns.
use Rattle.std.proofs.Common.{◌≡◌, ◌≢◌, inl, inr, ⊎_elim, ℕ, zero, suc, Bool, true, false, IsTrue, List, [], ◌∷◌, ◌++◌, get_or, length, replicate, refl, ap, sym, ◌∙◌, subst}
use Rattle.std.specs.List.{list_all}
use Rattle.std.proofs.lemmas.Bool.{and_parts, cases_eq}
use Rattle.model_core.specs.declared.command.Command as declared_command
use Rattle.model_core.specs.declared.command.Command.TheVariants.{FullMajor}
use Rattle.model_core.specs.declared.entry.Entry.{Entry}
use Rattle.model_core.specs.declared.entry.Entry.TheVariants.{Command as CommandOf, End, Cut, Queue, Seal, Wipe, Last as LastOf, Collected, Done, Ran}
use Rattle.model_core.specs.declared.state.DomainState.{DomainState}
use Rattle.model_core.specs.declared.state.Pending.{Pending}
use Rattle.model_core.specs.declared.state.State.{State}
use Rattle.model_core.specs.Domains.{no_domain, opening_domain, domain_at, opening}
use Rattle.model_core.specs.Entries.{ended, next}
use Rattle.model_core.specs.History.{state_after}
use Rattle.model_core.proofs.Commands.FrameLemmas.{frame_command, part_set}
use Rattle.model_traces.specs.declared.schedules.items.Item.{Item}
use Rattle.model_traces.specs.Orders.Turns.{EachInterleavingIsScheduled, IsMadeIn, IsOwnTurn, is_call, runs_queue, turns_of}
use Rattle.model_traces.proofs.OfOrders.Scheduling.{turns_law}

-- no queue holds anything
abbrev NoneWait : State → Type 0
NoneWait s = (d : ℕ) → (domain_at s d).queue ≡ []

command_queues : (s : State) (d : ℕ) (c : declared_command.Command) (full : Bool) → NoneWait s → NoneWait (next s (CommandOf d c full))
command_queues s d c full none k = ⊎_elim
    (λ (here : k ≡ d). subst (λ (n : ℕ). (domain_at (next s (CommandOf d c full)) n).queue ≡ []) (sym here) ((frame_command s d c full).queue ∙ none d))
    (λ (apart : k ≢ d). ap (λ (x : DomainState). x.queue) ((frame_command s d c full).elsewhere k apart) ∙ none k)
    (cases_eq k d)

end_queues : (s : State) (d : ℕ) → NoneWait s → NoneWait (next s (End d))
end_queues s d none k = part_set (λ x. x.queue) s.domains d (ended (domain_at s d)) refl k ∙ none k

runs_none : (s : State) (d : ℕ) → NoneWait s → runs_queue s d ≡ []
runs_none s d none = ap (λ (q : List Pending). replicate (length q) (Ran d)) (none d)

-- one turn
one_more : (s : State) (d : ℕ) (e : Entry) (items : List Item) (h : List Entry) → NoneWait s → IsOwnTurn d (e ∷ []) → IsMadeIn (next s e) items h
    → (own : List Entry) × (rest : List Entry) × (e ∷ h ≡ runs_queue s d ++ (own ++ rest)) × IsOwnTurn d own × IsMadeIn (state_after s (runs_queue s d ++ own)) items rest
one_more s d e items h none turn more = (
  e ∷ [],
  h,
  sym (ap (λ (k : List Entry). k ++ (e ∷ h)) (runs_none s d none)),
  turn,
  subst (λ (k : List Entry). IsMadeIn (state_after s (k ++ e ∷ [])) items h) (sym (runs_none s d none)) more,
)

-- a call is a command that isn't `full_major` and isn't answered `full`
call_is : (d : ℕ) (c : declared_command.Command) (full : Bool) → IsTrue (is_call (CommandOf d c full)) → (c ≢ FullMajor) × (full ≡ false)
call_is d FullMajor full is = absurd (let clash : false ≡ true = is in cc)
call_is d c true is = absurd (let clash : false ≡ true = is in cc)
call_is d c false is = ((λ same. cc), refl)

calls_made : (s : State) (h : List Entry) → NoneWait s → IsTrue (list_all is_call h) → IsMadeIn s (turns_of h) h
calls_made s [] none all = refl
calls_made s (CommandOf d c full ∷ h) none all =
    let both = and_parts (is_call (CommandOf d c full)) (list_all is_call h) all in
    let is = call_is d c full both.0 in
    one_more s d (CommandOf d c full) (turns_of h) h none (inr (inl (c, is.0, ap (λ (b : Bool). CommandOf d c b ∷ []) is.1))) (calls_made (next s (CommandOf d c full)) h (command_queues s d c full none) both.1)
calls_made s (End d ∷ h) none all = one_more s d (End d) (turns_of h) h none (inl refl) (calls_made (next s (End d)) h (end_queues s d none) all)
calls_made s (Cut ∷ h) none all = let clash : false ≡ true = all in cc
calls_made s (Queue d places ∷ h) none all = let clash : false ≡ true = all in cc
calls_made s (Seal ∷ h) none all = let clash : false ≡ true = all in cc
calls_made s (Wipe l keys ∷ h) none all = let clash : false ≡ true = all in cc
calls_made s (LastOf d place ∷ h) none all = let clash : false ≡ true = all in cc
calls_made s (Collected ∷ h) none all = let clash : false ≡ true = all in cc
calls_made s (Done ∷ h) none all = let clash : false ≡ true = all in cc
calls_made s (Ran d ∷ h) none all = let clash : false ≡ true = all in cc

none_opening : (n d : ℕ) → (get_or (replicate n opening_domain) d no_domain).queue ≡ []
none_opening zero d = refl
none_opening (suc n) zero = refl
none_opening (suc n) (suc d) = none_opening n d

pub interleaving_law : EachInterleavingIsScheduled
interleaving_law z script h made all d = turns_law z script (turns_of h) h made (calls_made (opening z) h (none_opening z.domains) all) d
