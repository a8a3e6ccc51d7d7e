-- Of two histories with the same calls the replies are the same, but where the collector is looked at.
use Rattle.std.proofs.Common.{◌≡◌, Bool, true, false, cond, not, IsTrue, List, [], ◌∷◌, ◌++◌, refl, ap, sym, ◌∙◌}
use Rattle.std.specs.List.{list_all}
use Rattle.model_core.specs.declared.entry.Entry.{Entry}
use Rattle.model_core.specs.declared.entry.Entry.TheVariants.{Command as CommandOf, End, Cut, Queue, Seal, Wipe, Last as LastOf, Collected, Done, Ran}
use Rattle.model_core.specs.declared.reply.Applied.{Applied}
use Rattle.model_core.specs.declared.state.State.{State}
use Rattle.model_core.specs.Domains.{opening}
use Rattle.model_core.specs.Entries.{next, reply}
use Rattle.model_laws.specs.Collector.Blindness.{is_made, made, is_run, takes_out, only_looks, is_taking, is_blind, replies_where, CollectorIsUnseen}
use Rattle.model_laws.proofs.OfCollector.Alike.{IsAlike, alike_itself, alike_on, collector_alike, skipped, ended_alike, command_alike}

-- the next entry that a domain makes, behind some of the collector
record Reaches (t : State) (k : List Entry) (e : Entry) (rest : List Entry) : Type 0 where
  state : State
  behind : List Entry
  alike : IsAlike t state
  made_are : made behind ≡ rest
  taking : replies_where is_taking t k ≡ cond (is_taking e) (reply state e ∷ []) [] ++ replies_where is_taking (next state e) behind
  blind : replies_where is_blind t k ≡ cond (is_blind e) (reply state e ∷ []) [] ++ replies_where is_blind (next state e) behind

reach_here : (t : State) (x : Entry) (k : List Entry) (e : Entry) (rest : List Entry) → x ∷ made k ≡ e ∷ rest → Reaches t (x ∷ k) e rest
reach_here t x k e rest are = record {
  state = t;
  behind = k;
  alike = alike_itself t;
  made_are = (let more : made k ≡ rest = cc in more);
  taking = ap (λ (y : Entry). cond (is_taking y) (reply t y ∷ []) [] ++ replies_where is_taking (next t y) k) same;
  blind = ap (λ (y : Entry). cond (is_blind y) (reply t y ∷ []) [] ++ replies_where is_blind (next t y) k) same;
}
  where
    same : x ≡ e
    same = cc

reach_later : (t : State) (x : Entry) (k : List Entry) (e : Entry) (rest : List Entry) → is_made x ≡ false → is_taking x ≡ false → is_blind x ≡ false → Reaches (next t x) k e rest → Reaches t (x ∷ k) e rest
reach_later t x k e rest none takes blind was = record {
  state = was.state;
  behind = was.behind;
  alike = alike_on t (next t x) was.state (collector_alike t x none) was.alike;
  made_are = was.made_are;
  taking = ap (λ (b : Bool). cond b (reply t x ∷ []) [] ++ replies_where is_taking (next t x) k) takes ∙ was.taking;
  blind = ap (λ (b : Bool). cond b (reply t x ∷ []) [] ++ replies_where is_blind (next t x) k) blind ∙ was.blind;
}

reaches : (t : State) (k : List Entry) (e : Entry) (rest : List Entry) → made k ≡ e ∷ rest → Reaches t k e rest
reaches t [] e rest are = cc
reaches t (CommandOf d c full ∷ k) e rest are = reach_here t (CommandOf d c full) k e rest are
reaches t (End d ∷ k) e rest are = reach_here t (End d) k e rest are
reaches t (Ran d ∷ k) e rest are = reach_here t (Ran d) k e rest are
reaches t (Cut ∷ k) e rest are = reach_later t Cut k e rest refl refl refl (reaches (next t Cut) k e rest are)
reaches t (Queue d places ∷ k) e rest are = reach_later t (Queue d places) k e rest refl refl refl (reaches (next t (Queue d places)) k e rest are)
reaches t (Seal ∷ k) e rest are = reach_later t Seal k e rest refl refl refl (reaches (next t Seal) k e rest are)
reaches t (Wipe l keys ∷ k) e rest are = reach_later t (Wipe l keys) k e rest refl refl refl (reaches (next t (Wipe l keys)) k e rest are)
reaches t (LastOf d place ∷ k) e rest are = reach_later t (LastOf d place) k e rest refl refl refl (reaches (next t (LastOf d place)) k e rest are)
reaches t (Collected ∷ k) e rest are = reach_later t Collected k e rest refl refl refl (reaches (next t Collected) k e rest are)
reaches t (Done ∷ k) e rest are = reach_later t Done k e rest refl refl refl (reaches (next t Done) k e rest are)

none_left : (t : State) (k : List Entry) → made k ≡ [] → replies_where is_blind t k ≡ []
none_left t [] none = refl
none_left t (CommandOf d c full ∷ k) none = cc
none_left t (End d ∷ k) none = cc
none_left t (Ran d ∷ k) none = cc
none_left t (Cut ∷ k) none = none_left (next t Cut) k none
none_left t (Queue d places ∷ k) none = none_left (next t (Queue d places)) k none
none_left t (Seal ∷ k) none = none_left (next t Seal) k none
none_left t (Wipe l keys ∷ k) none = none_left (next t (Wipe l keys)) k none
none_left t (LastOf d place ∷ k) none = none_left (next t (LastOf d place)) k none
none_left t (Collected ∷ k) none = none_left (next t Collected) k none
none_left t (Done ∷ k) none = none_left (next t Done) k none

-- two lists that begin with a reply, or both with none
split : (b : Bool) (x y : Applied) (xs ys : List Applied) → cond b (x ∷ []) [] ++ xs ≡ cond b (y ∷ []) [] ++ ys → (b ≡ true → x ≡ y) × (xs ≡ ys)
split true x y xs ys e = ((λ is. let same : x ≡ y = cc in same), (let rest : xs ≡ ys = cc in rest))
split false x y xs ys e = ((λ is. absurd (let clash : false ≡ true = is in cc)), e)

joined : (b : Bool) (x y : Applied) (xs ys : List Applied) → (b ≡ true → x ≡ y) → xs ≡ ys → cond b (x ∷ []) [] ++ xs ≡ cond b (y ∷ []) [] ++ ys
joined true x y xs ys first rest = (λ i. first refl i ∷ rest i)
joined false x y xs ys first rest = rest

blind_from : (h k : List Entry) (s t : State) → IsAlike s t → made k ≡ made h → IsTrue (list_all (λ e. not (is_run e)) h) → replies_where is_taking t k ≡ replies_where is_taking s h → replies_where is_blind t k ≡ replies_where is_blind s h
blind_from [] k s t r same none taken = none_left t k same
blind_from (CommandOf d c full ∷ h) k s t r same none taken =
    let e : Entry = CommandOf d c full in
    let there = reaches t k (CommandOf d c full) (made h) same in
    let parts = split (takes_out c) (reply there.state (CommandOf d c full)) (reply s (CommandOf d c full)) (replies_where is_taking (next there.state (CommandOf d c full)) there.behind) (replies_where is_taking (next s (CommandOf d c full)) h)
    (sym there.taking ∙ taken) in
    let step = command_alike s there.state (alike_on s t there.state r there.alike) d c full parts.0 in
    let rest = blind_from h there.behind (next s (CommandOf d c full)) (next there.state (CommandOf d c full)) step.states there.made_are none parts.1 in
    there.blind ∙ joined (not (only_looks c)) (reply there.state (CommandOf d c full)) (reply s (CommandOf d c full)) _ _ (λ unseen. step.replies (turned (only_looks c) unseen)) rest
  where
    turned : (b : Bool) → not b ≡ true → b ≡ false
    turned true is = cc
    turned false is = refl
blind_from (End d ∷ h) k s t r same none taken =
    let there = reaches t k (End d) (made h) same in
    let rest = blind_from h there.behind (next s (End d)) (next there.state (End d)) (ended_alike s there.state (alike_on s t there.state r there.alike) d) there.made_are none (sym there.taking ∙ taken) in
    there.blind ∙ joined true (reply there.state (End d)) (reply s (End d)) _ _ (λ is. refl) rest
blind_from (Ran d ∷ h) k s t r same none taken = absurd (let clash : false ≡ true = none in cc)
blind_from (Cut ∷ h) k s t r same none taken = blind_from h k (next s Cut) t (skipped s t Cut refl r) same none taken
blind_from (Queue d places ∷ h) k s t r same none taken = blind_from h k (next s (Queue d places)) t (skipped s t (Queue d places) refl r) same none taken
blind_from (Seal ∷ h) k s t r same none taken = blind_from h k (next s Seal) t (skipped s t Seal refl r) same none taken
blind_from (Wipe l keys ∷ h) k s t r same none taken = blind_from h k (next s (Wipe l keys)) t (skipped s t (Wipe l keys) refl r) same none taken
blind_from (LastOf d place ∷ h) k s t r same none taken = blind_from h k (next s (LastOf d place)) t (skipped s t (LastOf d place) refl r) same none taken
blind_from (Collected ∷ h) k s t r same none taken = blind_from h k (next s Collected) t (skipped s t Collected refl r) same none taken
blind_from (Done ∷ h) k s t r same none taken = blind_from h k (next s Done) t (skipped s t Done refl r) same none taken

pub unseen : CollectorIsUnseen
unseen z h k same none taken = blind_from h k (opening z) (opening z) (alike_itself (opening z)) same none taken
