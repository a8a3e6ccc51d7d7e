-- Items, rounds, and the scheduled history as a whole.
use Rattle.std.proofs.Common.{◌≡◌, ℕ, zero, suc, ◌+◌, ◌<◌, ◌≤◌, Bool, true, false, ◌&&◌, if◌then◌else◌, List, [], ◌∷◌, ◌++◌, length, fold, get_or, set, Some, refl, sym, ap, ◌∙◌, subst, ⊎_elim, Option, None, replicate, add-one, add-zero, zero-add, arith}
use Rattle.std.specs.List.{list_all, range_with_len}
use Rattle.std.proofs.lemmas.Bool.{and_parts, cases_lt, false≢true}
use Rattle.std.proofs.lemmas.List.{get_or_past, length-map, length-replicate, length-set}
use Rattle.model_core.specs.declared.label.Label.{Label}
use Rattle.model_core.specs.declared.entry.Entry.{Entry}
use Rattle.model_core.specs.declared.entry.Entry.TheVariants.{Command as CommandOf, End, Cut, Queue, Seal, Wipe, Last, Collected, Done, Ran}
use Rattle.model_core.specs.declared.graph.Node.{Node}
use Rattle.model_core.specs.declared.state.DomainState.{DomainState}
use Rattle.model_core.specs.declared.state.Pending.{Pending}
use Rattle.model_core.specs.declared.state.Pending.TheVariants.{Fin, Last as LastPending}
use Rattle.model_core.specs.declared.state.Sizes.{Sizes}
use Rattle.model_core.specs.declared.state.State.{State}
use Rattle.model_core.specs.Graph.{node_at}
use Rattle.model_core.specs.Domains.{domain_at, no_domain, opening, opening_domain, queues, settled_roots}
use Rattle.model_core.specs.Entries.{after_run, next, wiped, with_finals_open, with_lasts_open, with_wiped, freshened}
use Rattle.model_core.specs.History.{Legal, state_after}
use Rattle.model_core.specs.WellFormed.{names_of}
use Rattle.model_core.specs.Commands.{outcome}
use Rattle.model_core.proofs.Histories.HistoryLemmas.{state_after-append}
use Rattle.model_core.proofs.Histories.SizesLemmas.{count_begun}
use Rattle.model_traces.specs.declared.schedules.items.Item.{Item}
use Rattle.model_traces.specs.declared.schedules.items.Item.TheVariants.{Collect, Turn}
use Rattle.model_traces.specs.Schedules.Sameness.{AllAlive, AreSameDomains, IsCollection, IsSameBut}
use Rattle.model_traces.specs.Schedules.Scheduled.{Played, all_ended, begun, complete, domains_of, left_of, next_entries, take_item, take_round, take_turn, turn_on, with_entries}
use Rattle.model_traces.proofs.OfOrders.Scheduling.{same_itself}
use Rattle.model_traces.proofs.OfSchedules.Sealing.{many_same}
use Rattle.text_script.specs.Schedule.Drive.Together.{AllHave, AllRuns, Has, IsShared, OneRun, Rests, Stands}
use Rattle.text_script.specs.Schedule.Drive.Pausing.{Answered, NotYet, Paused, Walked, lefts}
use Rattle.text_script.specs.Schedule.Drive.Following.{Agrees, AllFollow, Follows, IsCalm, IsPlayed}
use Rattle.text_script.specs.Schedule.Drive.Ending.{turns_at}
use Rattle.text_script.proofs.OfSchedule.OfDrive.Agreeing.{agrees_collection}
use Rattle.text_script.proofs.OfSchedule.OfDrive.Ending.{turns_by}
use Rattle.text_script.proofs.OfSchedule.OfDrive.Turns.{ended_is}

-- a fold over numbers, one by one
fold_last : {A : Type 0} (f : A → ℕ → A) (x : A) (a n : ℕ) → fold f x (range_with_len a (suc n)) ≡ f (fold f x (range_with_len a n)) (a + n)
fold_last f x a zero = ap (f x) (sym (add-zero a))
fold_last f x a (suc n) = fold_last f (f x a) (a + 1) n ∙ ap (f (fold f (f x a) (range_with_len (a + 1) n))) (omega arith)

pub one_more_number : {A : Type 0} (f : A → ℕ → A) (x : A) (n : ℕ) → fold f x (range_with_len 0 (n + 1)) ≡ f (fold f x (range_with_len 0 n)) n
one_more_number f x n = ap (λ k. fold f x (range_with_len 0 k)) (add-one n) ∙ fold_last f x 0 n ∙ ap (f (fold f x (range_with_len 0 n))) (zero-add n)

-- the state of the scheduled history, through turns and items
entries_played : (z : Sizes) (p : Played) (es : List Entry) → IsPlayed z p → IsPlayed z (with_entries p es)
entries_played z p es is = state_after-append (opening z) p.history es ∙ ap (λ (t : State). state_after t es) is

turn_played : (z : Sizes) (p : Played) (d : ℕ) → IsPlayed z p → IsPlayed z (take_turn p d)
turn_played z p d is = by_end (domain_at p.state d).ended
  where
    by_end : (b : Bool) → IsPlayed z (turn_on p d b)
    by_end true = is
    by_end false =
        let queue : List Entry = replicate (length (domain_at p.state d).queue) (Ran d) in
        let q : Played = with_entries p queue in
        entries_played z q (next_entries q.state d (left_of q d)) (entries_played z p queue is)

pub turns_played : (z : Sizes) (p : Played) (ds : List ℕ) → IsPlayed z p → IsPlayed z (fold take_turn p ds)
turns_played z p [] is = is
turns_played z p (d ∷ ds) is = turns_played z (take_turn p d) ds (turn_played z p d is)

item_played : (z : Sizes) (p : Played) (i : Item) → IsPlayed z p → IsPlayed z (take_item p i)
item_played z p (Turn d) is = turn_played z p d is
item_played z p Collect is = by_end (all_ended p.state)
  where
    by_end : (b : Bool) → IsPlayed z (if b then p else with_entries p (complete p.state []))
    by_end true = is
    by_end false = entries_played z p (complete p.state []) is

pub items_played : (z : Sizes) (p : Played) (items : List Item) → IsPlayed z p → IsPlayed z (fold take_item p items)
items_played z p [] is = is
items_played z p (i ∷ items) is = items_played z (take_item p i) items (item_played z p i is)

pub rounds_played : (z : Sizes) (p : Played) (ns : List ℕ) → IsPlayed z p → IsPlayed z (fold (λ q n. take_round q) p ns)
rounds_played z p [] is = is
rounds_played z p (n ∷ ns) is = rounds_played z (take_round p) ns (turns_played z p (domains_of p.state) is)

-- a round is a turn of so many domains
pub round_is : (z : Sizes) (p : Played) → IsPlayed z p → fold take_turn p (range_with_len 0 z.domains) ≡ take_round p
round_is z p is = ap (λ n. fold take_turn p (range_with_len 0 n)) (sym (count_begun z p.history) ∙ ap (λ (s : State). length s.domains) is)

-- whether all traces have ended
all_by_place : (xs : List DomainState) → ((k : ℕ) → (get_or xs k no_domain).ended ≡ true) → list_all (λ (x : DomainState). x.ended) xs ≡ true
all_by_place [] each = refl
all_by_place (x ∷ xs) each = ap (λ b. b && list_all (λ (y : DomainState). y.ended) xs) (each 0) ∙ all_by_place xs (λ k. each (suc k))

place_of_all : (xs : List DomainState) → list_all (λ (x : DomainState). x.ended) xs ≡ true → (k : ℕ) → (get_or xs k no_domain).ended ≡ true
place_of_all [] all k = refl
place_of_all (x ∷ xs) all zero = (and_parts x.ended (list_all (λ (y : DomainState). y.ended) xs) all).0
place_of_all (x ∷ xs) all (suc k) = place_of_all xs (and_parts x.ended (list_all (λ (y : DomainState). y.ended) xs) all).1 k

not_all : (xs : List DomainState) (b : Bool) → list_all (λ (x : DomainState). x.ended) xs ≡ b → (k : ℕ) → (get_or xs k no_domain).ended ≡ false → b ≡ false
not_all xs true is k going = absurd (false≢true (sym going ∙ place_of_all xs is k))
not_all xs false is k going = refl

module _ (v : AllRuns) (p : Played) (h : List Entry) (stands : Stands v) (shared : IsShared v h) (agrees : Agrees v.sizes p h) where
  pub all_have_ended : AllHave (λ (x : OneRun). x.ended) true v → all_ended p.state ≡ true
  all_have_ended all = all_by_place p.state.domains (λ k.
      ⊎_elim (λ few. ended_is v p k true h few (all k) shared agrees)
      (λ past. ap (λ (x : DomainState). x.ended) (get_or_past p.state.domains k no_domain
      (subst (λ n. n ≤ k) (stands.count ∙ sym (count_begun v.sizes h) ∙ sym (many_same (state_after (opening v.sizes) h) p.state agrees.same)) past)))
      (cases_lt k (length v.runs)))

  pub some_goes_on : (d : ℕ) → d < length v.runs → Has (λ (x : OneRun). x.ended) false v d → all_ended p.state ≡ false
  some_goes_on d few has = not_all p.state.domains (all_ended p.state) refl d (ended_is v p d false h few has shared agrees)

-- a complete collection that no command asks for
pub none_collected : (shares : List Entry → Type 0) (v : AllRuns) (p : Played) → Stands v → ((h : List Entry) → shares h → IsShared v h) → AllHave (λ (x : OneRun). x.ended) true v → AllFollow v shares p → AllFollow v shares (take_item p Collect)
none_collected shares v p stands shared all follow h here =
    let f = follow h here in
    subst (λ q. Follows v q h) (sym (ap (λ b. if b then p else with_entries p (complete p.state [])) (all_have_ended v p h stands (shared h here) f.agrees all))) f

module _ (shares_old shares_new : List Entry → Type 0) (v w : AllRuns) (calm : IsCalm v) (paused : Paused true shares_old shares_new v w) (run : AllHave (λ (r : OneRun). r.runs) true w) (over : w.lead ≡ Rests) where
  not_asked : (d : ℕ) (answered : List Entry) → Answered d v w answered → ⊥
  not_asked d answered a = false≢true (sym (calm.none d) ∙ a.asked)

  -- leaves all calm
  pub collected_calm : IsCalm w
  collected_calm =
      let t = paused.told 0 (λ e other. calm.none e) in
      record {
        run = run;
        none = λ d. ⊎_elim (λ (n : NotYet v w t.0). ap (λ (bs : List Bool). get_or bs d false) n.asked ∙ calm.none d) (λ a. absurd (not_asked 0 t.0 a)) t.1;
      }

  -- and no trace with more or fewer turns
  pub collected_stays : (d : ℕ) → turns_at w d ≡ turns_at v d
  collected_stays d =
      let t = paused.told 0 (λ e other. calm.none e) in
      ⊎_elim (λ (n : NotYet v w t.0). turns_by v w d paused.ended n.left) (λ a. absurd (not_asked 0 t.0 a)) t.1

  -- and is that of the schedule
  pub one_collected : (p : Played) → Stands v → ((h : List Entry) → shares_old h → IsShared v h) → ((h : List Entry) → shares_new h → IsShared w h) → (d : ℕ) → d < length v.runs → Has (λ (x : OneRun). x.ended) false v d
      → AllFollow v shares_old p → AllFollow w shares_new (take_item p Collect)
  one_collected p stands shared_old shared d few going follow g new =
      let t = paused.told 0 (λ e other. calm.none e) in
      let n : NotYet v w t.0 = ⊎_elim (λ (n : NotYet v w t.0). n) (λ a. absurd (not_asked 0 t.0 a)) t.1 in
      let from = t.2 g new in
      let f = follow from.start from.was in
      let a = f.agrees in
      let walked : IsCollection from.made [] = subst (λ k. IsCollection from.made k) n.none (subst (λ l. Walked true l from.made t.0) over (from.walked a.mode)) in
      let legal : Legal v.sizes (from.start ++ from.made) = subst (λ k. Legal v.sizes k) from.is (subst (λ z. Legal z g) paused.sizes (shared g new).legal) in
      let q : Played = with_entries p (complete p.state []) in
      let is : q ≡ take_item p Collect = sym (ap (λ b. if b then p else q) (some_goes_on v p from.start stands (shared_old from.start from.was) a d few going)) in
      let after : Agrees v.sizes q (from.start ++ from.made) = agrees_collection v.sizes p from.start from.made [] a legal walked in
      subst (λ r. Follows w r g) is
      (record { agrees = subst (λ z. Agrees z q g) (sym paused.sizes) (subst (λ k. Agrees v.sizes q k) (sym from.is) after); left = n.left ∙ f.left })

-- the start
pub begins : (shares : List Entry → Type 0) (v : AllRuns) → ((h : List Entry) → shares h → h ≡ []) → AllFollow v shares (begun v.sizes (lefts v))
begins shares v fresh h here =
    subst (λ k. Follows v (begun v.sizes (lefts v)) k) (sym (fresh h here))
    (record { agrees = record { legal = tt; mode = refl; same = same_itself (opening v.sizes); replies = λ d. refl; state = refl }; left = refl })
