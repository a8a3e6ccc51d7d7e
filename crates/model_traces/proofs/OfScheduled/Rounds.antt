-- As many rounds as the longest section has commands, and one, end every trace. So each domain has made all its commands, each once and in order.
use Rattle.std.proofs.Common.{◌≡◌, ◌≢◌, ℕ, zero, suc, ◌+◌, ◌<◌, ◌≤◌, max, Bool, true, false, List, [], ◌∷◌, ◌++◌, map, length, fold, get_or, replicate, refl, sym, ap, ◌∙◌, subst, ⊎_elim, arith, append-nil}
use Rattle.std.specs.Prelude.{if◌then◌else◌, slice_index_or}
use Rattle.std.specs.List.{range_with_len}
use Rattle.std.proofs.Math.ListN.{get_or-eq_default}
use Rattle.std.proofs.Math.Nat.{le-max_left, le-max_right}
use Rattle.std.proofs.lemmas.Bool.{cases_eq, cases_lt}
use Rattle.model_core.specs.declared.command.Command.{Command}
use Rattle.model_core.specs.declared.state.DomainState.{DomainState}
use Rattle.model_core.specs.declared.state.Sizes.{Sizes}
use Rattle.model_core.specs.declared.state.State.{State}
use Rattle.model_core.specs.Domains.{domain_at, no_domain, opening, opening_domain}
use Rattle.model_core.specs.History.{commands, state_after}
use Rattle.model_core.proofs.Histories.HistoryLemmas.{commands-append, state_after-append}
use Rattle.model_traces.specs.declared.schedules.items.Item.{Item}
use Rattle.model_traces.specs.declared.schedules.items.Item.TheVariants.{Turn, Collect}
use Rattle.model_traces.specs.Schedules.Scheduled.{Played, all_ended, begun, behind, complete, domains_of, left_of, next_entries, played, rounds_of, scheduled, take_item, take_round, take_turn, turn_on, with_entries}
use Rattle.model_traces.specs.Scheduled.Runs.{MakesEach, ScheduledMakesEachCommand}
use Rattle.model_traces.proofs.OfScheduled.Sections.{IsTurn, collect_commands, complete_ended, ends_stand, runs_of, turn_taken}

-- a trace that hasn't ended has a turn left for each command, and one for its end
abbrev turns_of : Bool → List Command → ℕ
turns_of true left = 0
turns_of false left = length left + 1

abbrev turns_at : Played → ℕ → ℕ
turns_at p d = turns_of (domain_at p.state d).ended (left_of p d)

turns_ended : (b : Bool) (left : List Command) → b ≡ true → turns_of b left ≡ 0
turns_ended true left e = refl
turns_ended false left e = cc

-- a turn takes one of its domain's
turn_fewer : (p : Played) (d n : ℕ) → turns_at p d ≤ n + 1 → turns_at (take_turn p d) d ≤ n
turn_fewer p d n few = go (domain_at p.state d).ended refl
  where
    made : (q : Played) (left : List Command) → IsTurn p q d → (domain_at p.state d).ended ≡ false → left_of p d ≡ left → turns_at q d ≤ n
    made q [] turn e is = let none : turns_at q d ≡ 0 = turns_ended (domain_at q.state d).ended (left_of q d) (turn.ends is) in omega (arith, none)
    made q (c ∷ left) turn e is =
        let some : left_of p d ≢ [] = λ none. let clash : c ∷ left ≡ [] = sym is ∙ none in cc in
        let after : turns_at q d ≡ length left + 1 = ap (λ b. turns_of b (left_of q d)) (turn.runs some ∙ e) ∙ ap (λ ls. length ls + 1) (turn.left ∙ ap behind is) in
        let before : turns_at p d ≡ suc (length left) + 1 = ap (λ b. turns_of b (left_of p d)) e ∙ ap (λ ls. length ls + 1) is in
        omega (arith, few, after, before)

    go : (b : Bool) → (domain_at p.state d).ended ≡ b → turns_at (turn_on p d b) d ≤ n
    go true e = let none : turns_at p d ≡ 0 = turns_ended (domain_at p.state d).ended (left_of p d) e in omega (arith, none)
    go false e = made (turn_on p d false) (left_of p d) (turn_taken p d) e refl

-- and none of another's
turn_others : (p : Played) (d k : ℕ) → k ≢ d → turns_at (take_turn p d) k ≡ turns_at p k
turn_others p d k apart = go (domain_at p.state d).ended
  where
    go : (b : Bool) → turns_at (turn_on p d b) k ≡ turns_at p k
    go true = refl
    go false =
        let turn : IsTurn p (turn_on p d false) d = turn_taken p d in
        ap (λ b. turns_of b (left_of (turn_on p d false) k)) (turn.others_ended k apart) ∙ ap (turns_of (domain_at p.state k).ended) (turn.others_left k apart)

turn_none_more : (p : Played) (d k : ℕ) → turns_at (take_turn p d) k ≤ turns_at p k
turn_none_more p d k = ⊎_elim
    (λ (is : k ≡ d). subst (λ n. turns_at (take_turn p d) n ≤ turns_at p n) (sym is) (own (turns_at p d) refl))
    (λ (apart : k ≢ d). let same = turn_others p d k apart in omega (arith, same))
    (cases_eq k d)
  where
    own : (n : ℕ) → turns_at p d ≡ n → turns_at (take_turn p d) d ≤ turns_at p d
    own zero is = let none = turn_fewer p d 0 (omega (arith, is)) in omega (arith, none)
    own (suc n) is = let fewer = turn_fewer p d n (omega (arith, is)) in omega (arith, fewer, is)

-- a turn of each domain from one on
round_from : (n a m : ℕ) (p : Played) → ((k : ℕ) → turns_at p k ≤ m + 1) → ((k : ℕ) → k < a → turns_at p k ≤ m)
    → ((k : ℕ) → turns_at (fold take_turn p (range_with_len a n)) k ≤ turns_at p k) × ((k : ℕ) → k < a + n → turns_at (fold take_turn p (range_with_len a n)) k ≤ m)
round_from zero a m p most below = (λ k. omega arith, λ k less. below k (omega (arith, less)))
round_from (suc n) a m p most below =
    let q : Played = take_turn p a in
    let rest = round_from n (a + 1) m q
    (λ k. let more = turn_none_more p a k in let bound = most k in omega (arith, more, bound))
    (λ k less. ⊎_elim
    (λ (is : k ≡ a). subst (λ i. turns_at q i ≤ m) (sym is) (turn_fewer p a m (most a)))
    (λ (apart : k ≢ a). let same = turn_others p a k apart in let was = below k (omega (arith, less, apart)) in omega (arith, same, was))
    (cases_eq k a)) in
    (λ k. let more = turn_none_more p a k in let later = rest.0 k in omega (arith, more, later), λ k less. rest.1 k (omega (arith, less)))

round_fewer : (p : Played) (m : ℕ) → ((k : ℕ) → turns_at p k ≤ m + 1) → (k : ℕ) → turns_at (take_round p) k ≤ m
round_fewer p m most k =
    let whole = round_from (length p.state.domains) 0 m p most (λ i less. absurd (omega (arith, less))) in
    ⊎_elim
    (λ (inside : k < length p.state.domains). whole.1 k (omega (arith, inside)))
    (λ (past : length p.state.domains ≤ k).
    let none : turns_at p k ≡ 0 = turns_ended (domain_at p.state k).ended (left_of p k) (ap (λ (x : DomainState). x.ended) (get_or-eq_default p.state.domains no_domain past)) in
    let later = whole.0 k in omega (arith, none, later))
    (cases_lt k (length p.state.domains))

rounds_end : (n a : ℕ) (p : Played) → ((k : ℕ) → turns_at p k ≤ n) → (k : ℕ) → turns_at (fold (λ q i. take_round q) p (range_with_len a n)) k ≤ 0
rounds_end zero a p most k = most k
rounds_end (suc n) a p most k = rounds_end n (a + 1) (take_round p) (round_fewer p n (λ i. let bound = most i in omega (arith, bound))) k

-- no item leaves more
item_none_more : (p : Played) (i : Item) (k : ℕ) → turns_at (take_item p i) k ≤ turns_at p k
item_none_more p (Turn d) k = turn_none_more p d k
item_none_more p Collect k = go (all_ended p.state)
  where
    go : (b : Bool) → turns_at (if b then p else with_entries p (complete p.state [])) k ≤ turns_at p k
    go true = omega arith
    go false = let same : turns_at (with_entries p (complete p.state [])) k ≡ turns_at p k = ap (λ b. turns_of b (left_of p k)) (complete_ended p.state [] k refl) in omega (arith, same)

items_none_more : (items : List Item) (p : Played) (k : ℕ) → turns_at (fold take_item p items) k ≤ turns_at p k
items_none_more [] p k = omega arith
items_none_more (i ∷ items) p k = let first = item_none_more p i k in let rest = items_none_more items (take_item p i) k in omega (arith, first, rest)

-- no section is longer than the longest
max_least : (ns : List ℕ) (a : ℕ) → a ≤ fold max a ns
max_least [] a = omega arith
max_least (n ∷ ns) a = let first = le-max_left a n in let rest = max_least ns (max a n) in omega (arith, first, rest)

longest : (script : List (List Command)) (a d : ℕ) → length (get_or script d []) ≤ fold max a (map length script)
longest [] a d = omega arith
longest (cs ∷ script) a zero = let first = le-max_right a (length cs) in let rest = max_least (map length script) (max a (length cs)) in omega (arith, first, rest)
longest (cs ∷ script) a (suc d) = longest script (max a (length cs)) d

few_turns : (b : Bool) (left : List Command) (n : ℕ) → length left ≤ n → turns_of b left ≤ n + 1
few_turns true left n few = omega arith
few_turns false left n few = omega (arith, few)

opening_runs : (n d : ℕ) → d < n → (get_or (replicate n opening_domain) d no_domain).ended ≡ false
opening_runs zero d less = absurd (omega (arith, less))
opening_runs (suc n) zero less = refl
opening_runs (suc n) (suc d) less = opening_runs n d (omega (arith, less))

module _ (z : Sizes) (script : List (List Command)) where
  -- what is made and what is left is the section, and nothing is left once the trace has ended
  record Goes (p : Played) : Type 0 where
    state : p.state ≡ state_after (opening z) p.history
    made : (k : ℕ) → commands p.history k ++ left_of p k ≡ slice_index_or script k []
    done : (k : ℕ) → k < z.domains → (domain_at p.state k).ended ≡ true → left_of p k ≡ []

  turn_goes : (p : Played) (d : ℕ) → Goes p → Goes (take_turn p d)
  turn_goes p d is = go (domain_at p.state d).ended refl
    where
      own_done : (q : Played) (left : List Command) → IsTurn p q d → (domain_at p.state d).ended ≡ false → left_of p d ≡ left → (domain_at q.state d).ended ≡ true → left_of q d ≡ []
      own_done q [] turn e none ends = turn.left ∙ ap behind none
      own_done q (c ∷ left) turn e some ends =
          let runs : left_of p d ≢ [] = λ none. let clash : c ∷ left ≡ [] = sym some ∙ none in cc in
          let clash : true ≡ false = sym ends ∙ turn.runs runs ∙ e in cc

      go : (b : Bool) → (domain_at p.state d).ended ≡ b → Goes (turn_on p d b)
      go true e = is
      go false e =
          let q : Played = turn_on p d false in
          let turn : IsTurn p q d = turn_taken p d in
          let runs = runs_of p d in
          let makes = next_entries (state_after p.state runs) d (left_of p d) in
          record {
            state = ap (λ s. state_after (state_after s runs) makes) is.state ∙ ap (λ s. state_after s makes) (sym (state_after-append (opening z) p.history runs)) ∙ sym (state_after-append (opening z) (p.history ++ runs) makes);
            made = λ k. ⊎_elim
                (λ (here : k ≡ d). subst (λ n. commands q.history n ++ left_of q n ≡ slice_index_or script n []) (sym here) (turn.made ∙ is.made d))
                (λ (apart : k ≢ d). ap (λ cs. cs ++ left_of q k) (turn.others_made k apart) ∙ ap (λ cs. commands p.history k ++ cs) (turn.others_left k apart) ∙ is.made k)
                (cases_eq k d);
            done = λ k inside ends. ⊎_elim
                (λ (here : k ≡ d). subst (λ n. (domain_at q.state n).ended ≡ true → left_of q n ≡ []) (sym here) (own_done q (left_of p d) turn e refl) ends)
                (λ (apart : k ≢ d). turn.others_left k apart ∙ is.done k inside (sym (turn.others_ended k apart) ∙ ends))
                (cases_eq k d);
          }

  item_goes : (p : Played) (i : Item) → Goes p → Goes (take_item p i)
  item_goes p (Turn d) is = turn_goes p d is
  item_goes p Collect is = go (all_ended p.state)
    where
      go : (b : Bool) → Goes (if b then p else with_entries p (complete p.state []))
      go true = is
      go false =
          let es = complete p.state [] in record {
            state = ap (λ s. state_after s es) is.state ∙ sym (state_after-append (opening z) p.history es);
            made = λ k. ap (λ cs. cs ++ left_of p k) (commands-append p.history es k ∙ ap (λ cs. commands p.history k ++ cs) (collect_commands p.state k) ∙ append-nil (commands p.history k)) ∙ is.made k;
            done = λ k inside ends. is.done k inside (sym (complete_ended p.state [] k refl) ∙ ends);
          }

  items_go : (items : List Item) (p : Played) → Goes p → Goes (fold take_item p items)
  items_go [] p is = is
  items_go (i ∷ items) p is = items_go items (take_item p i) (item_goes p i is)

  turns_go : (ds : List ℕ) (p : Played) → Goes p → Goes (fold take_turn p ds)
  turns_go [] p is = is
  turns_go (d ∷ ds) p is = turns_go ds (take_turn p d) (turn_goes p d is)

  rounds_go : (ns : List ℕ) (p : Played) → Goes p → Goes (fold (λ q n. take_round q) p ns)
  rounds_go [] p is = is
  rounds_go (n ∷ ns) p is = rounds_go ns (take_round p) (turns_go (domains_of p.state) p is)

  begins : Goes (begun z script)
  begins = record {
    state = refl;
    made = λ k. refl;
    done = λ k inside ends. let clash : true ≡ false = sym ends ∙ opening_runs z.domains k inside in cc;
  }

  ended_by : (b : Bool) (left : List Command) → turns_of b left ≤ 0 → b ≡ true
  ended_by true left none = refl
  ended_by false left none = absurd (omega (arith, none))

  pub makes_each : (items : List Item) → MakesEach z script (scheduled z script items)
  makes_each items =
      let start : Played = fold take_item (begun z script) items in
      let end : Played = played z script items in
      let goes : Goes end = rounds_go (range_with_len 0 (rounds_of script)) start (items_go items (begun z script) begins) in
      let ends : (d : ℕ) → (domain_at end.state d).ended ≡ true = λ d. ended_by (domain_at end.state d).ended (left_of end d) (rounds_end (rounds_of script) 0 start (λ k.
      let first = items_none_more items (begun z script) k in
      let few = few_turns (domain_at (opening z) k).ended (slice_index_or script k []) (fold max 0 (map length script)) (longest script 0 k) in omega (arith, first, few)) d) in
      let ended : (d : ℕ) → (domain_at (state_after (opening z) end.history) d).ended ≡ true = λ d. ap (λ (s : State). (domain_at s d).ended) (sym goes.state) ∙ ends d in
      record {
        commands_are = λ d inside. sym (append-nil (commands end.history d)) ∙ ap (λ cs. commands end.history d ++ cs) (sym (goes.done d inside (ends d))) ∙ goes.made d;
        ends = λ d inside. ends_stand (opening z) end.history d (opening_runs z.domains d inside) (ended d);
        ended = λ d inside. ended d;
      }

pub makes_law : ScheduledMakesEachCommand
makes_law z script items = makes_each z script items
