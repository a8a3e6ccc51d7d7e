-- The table at the start meets the rule.
use Rattle.heap_rule.specs.Copies.{Owes, IsEmptying}
use Rattle.std.proofs.Common.{◌≡◌, ◌≢◌, ℕ, zero, suc, ◌+◌, ◌*◌, ◌<◌, ◌≤◌, lit<, false, List, [], ◌∷◌, get_or, replicate, slice_get, pos, Option, Some, None, sym, refl, ap, ◌∙◌, subst, inl, arith, unwrap_or, ◌-◌, inr, ⊎_elim, true, IsTrue, cond, Bool}
use Rattle.std.proofs.lemmas.Int.{ints}
use mathlib.Core.Logic.{dite}
use native.Mathlib.Decide.{ℕ_discrete}
use mathlib.Core.Option.{some-injective, some-ne-none}
use Rattle.atomic_table.specs.Table.{opening}
use Rattle.model_core.specs.declared.graph.Value.{Value}
use Rattle.model_core.specs.declared.graph.Value.TheVariants.{Int, Block, Nothing}
use Rattle.model_core.specs.declared.state.DomainState.{DomainState}
use Rattle.model_core.specs.declared.state.State as model
use Rattle.model_core.specs.Domains.{class_count, IsWithinLimits, domain_at, register, no_domain, opening_domain, shared_label, shared_node}
use Rattle.model_core.specs.Domains as states
use Rattle.model_core.specs.Fronts.{PlainShape, EpheShape}
use Rattle.heap_words.specs.declared.value.Value.TheVariants.{Int as IntWord, Ref, Nothing as NothingWord}
use Rattle.heap_rule.specs.declared.config.Config.{Config}
use Rattle.heap_rule.specs.declared.view.DomainView.{DomainView}
use Rattle.heap_rule.specs.declared.view.Spare.{Spare}
use Rattle.heap_rule.specs.declared.view.View.{View}
use Rattle.heap_rule.specs.Limits.{sizes_in}
use Rattle.heap_rule.specs.Layout.{heap_words, listed_pool, owner_of, listed, cursor}
use Rattle.heap_rule.specs.Places.{Place, Live, extent, Stands, Found, Fits, Placed, IsBare, Settled, IsOldWord, Debt}
use Rattle.heap_rule.specs.Changes.{value_at}
use Rattle.heap_rule.specs.declared.phase.Kind.TheVariants.{Run, Promote}
use Rattle.heap_rule.specs.Phases.{Pause, sum_of, is_over, flag}
use Rattle.heap_rule.proofs.Looks.{nowhere_at}
use Rattle.heap_rule.proofs.Searches.{none_passed}
use Rattle.heap_rule.proofs.Growing.{grows_none}
use Rattle.heap_rule.proofs.FinaliserLemmas.{enrolled_none, deciding_none}
use Rattle.heap_rule.proofs.Keeps.{sum_same, run_leads, copies_settled, room_unused}
use Rattle.heap_rule.specs.Views.{no_finalisers, EachView, AllDomains, Distinct, IsSeated, Knows, opening_view, opening_views, first_spare, first_view}
use Rattle.heap_rule.specs.Rule.{Stood, Area, Account, Good, Whole, Rule}
use Rattle.heap_rule.specs.Pools.{no_stock, IsPlace, IsFree, Holder, nobody, drawn, owned, owner_word, Tenancy, Pools, Lot, Grid, place_in, size_of, blocks_of, IsPassed}
use Rattle.heap_rule.proofs.OwnPlaces.{owned_same}
use Rattle.heap_rule.specs.Opening.{IsOpening, first_colours}
use Rattle.heap_rule.proofs.Update.{over, over_here, over_else}
use Rattle.heap_rule.proofs.Sizes.{heap_large}
use Rattle.heap_rule.specs.Cycles.{Cycling}
use Rattle.model_cycle.specs.Cycle.{First}
use Rattle.model_cycle.specs.Shares.{no_shares}
use Rattle.model_core.specs.Graph.{has_label, same_label, node_at}
use Rattle.model_core.proofs.Graphs.GraphLemmas.{same_label-true}
use Rattle.heap_rule.specs.Fullness.{Homes}
use Rattle.model_core.specs.declared.label.Label.{Label}
use Rattle.heap_rule.proofs.Holders.{drawn_owned, nobody_drawn, nobody_owned}
use Rattle.std.proofs.lemmas.Option.{none-some, same_Some}

abbrev shared_place : Place
shared_place = record { label = shared_label; shape = PlainShape 16 0; forward = None; owed = None; named = λ _. None }

only : Live
only = over 1 (Some shared_place) (λ _. None)

only_is : only 1 ≡ Some shared_place
unfolding only
only_is = over_here 1 (Some shared_place) (λ _. None)

only_at : (a : ℕ) (p : Place) → only a ≡ Some p → (a ≡ 1) × (shared_place ≡ p)
unfolding only
only_at a p e = dite (ℕ_discrete a 1)
    (λ here. (here, ap (λ (o : Option Place). unwrap_or o shared_place) (sym (over_here 1 (Some shared_place) (λ _. None)) ∙ (ap (over 1 (Some shared_place) (λ _. None)) (sym here) ∙ e))))
    (λ other. absurd (let f : ◌≡◌ {A = Option Place} None (Some p) = sym (over_else 1 (Some shared_place) (λ _. None) a other) ∙ e in cc))

-- domain 0 owns pool 0 for blocks of 32 words, and nobody has another
first_holders : ℕ → Holder
first_holders = over 0 (owned 0 3) (λ _. nobody)

abbrev first_tenancy : Tenancy
first_tenancy = record { holder = first_holders; asking = λ _. 0; prepared = λ _. None; garbage = λ _. false; fresh = λ _ _. None; stock = no_stock }

holder_first : first_holders 0 ≡ owned 0 3
unfolding first_holders
holder_first = over_here 0 (owned 0 3) (λ _. nobody)

holder_else : (q : ℕ) → q ≢ 0 → first_holders q ≡ nobody
unfolding first_holders
holder_else q other = over_else 0 (owned 0 3) (λ _. nobody) q other

holder_at : (q d c : ℕ) → first_holders q ≡ owned d c → (q ≡ 0) × (0 ≡ d) × (3 ≡ c)
holder_at q d c e = dite (ℕ_discrete q 0)
    (λ same. let o = owned_same 0 d 3 c (sym holder_first ∙ (ap first_holders (sym same) ∙ e)) in (same, o.0, o.1))
    (λ other. absurd (nobody_owned d c (sym (holder_else q other) ∙ e)))

none_drawn : (q d : ℕ) → first_holders q ≡ drawn d → ⊥
none_drawn q d e = dite (ℕ_discrete q 0)
    (λ same. drawn_owned d 0 3 (sym e ∙ (ap first_holders same ∙ holder_first)))
    (λ other. nobody_drawn d (sym (holder_else q other) ∙ e))

sum_zero : (n : ℕ) → sum_of (λ _. 0) n ≡ 0
sum_zero zero = refl
sum_zero (suc n) = let e = sum_zero n in omega arith

views_later : (k : Config) (P : DomainView → Type 0) (d n : ℕ) → ((i : ℕ) → d ≤ i → i < d + n → P (opening_view k i)) → AllDomains P (opening_views k d n)
views_later k P d zero f = tt
views_later k P d (suc n) f = (f d (omega arith) (omega arith), views_later k P (d + 1) n (λ x a b. f x (omega arith) (omega arith)))

distinct_later : (k : Config) (d n : ℕ) → Distinct (opening_views k d n)
distinct_later k d zero = tt
distinct_later k d (suc n) = (views_later k (λ y. y.own.number ≢ d) (d + 1) n (λ x a b e. omega arith), distinct_later k (d + 1) n)

no_spare : (a d : ℕ) → ◌≡◌ {A = Option ℕ} None (Some d) → ⊥
no_spare a d e = cc

abbrev no_place : Option ℕ
no_place = None

prepared_first : (n c : ℕ) → get_or (replicate n no_place) c no_place ≡ no_place
prepared_first zero c = refl
prepared_first (suc n) zero = refl
prepared_first (suc n) (suc c) = prepared_first n c

-- each domain of the opening state
replicated : (n d : ℕ) → d < n → get_or (replicate n opening_domain) d no_domain ≡ opening_domain
replicated zero d h = absurd (omega arith)
replicated (suc n) zero h = refl
replicated (suc n) (suc d) h = replicated n d (omega arith)

zero_field : (n i : ℕ) (v : Value) → slice_get (replicate n (Int (pos 0))) i ≡ Some v → (i < n) × (v ≡ Int (pos 0))
zero_field zero i v e = cc
zero_field (suc n) zero v e = (omega arith, cc)
zero_field (suc n) (suc i) v e = let t = zero_field n i v e in (omega arith, t.1)

sole : (P : ℕ → View → Type 0) (v : View) → P 0 v → EachView P (v ∷ [])
sole P v mine zero u e = subst (P 0) (some-injective v u e) mine
sole P v mine (suc j) u e = absurd (some-ne-none u (sym e))

-- all run, and none has arrived anywhere
abbrev first_pause : Pause
first_pause = record { arrived = λ _. 0; phase = 0; kinds = λ _. Run; led = false }

-- the shared block lies in pool 0
first_homes : Homes
first_homes l = cond (same_label shared_label l) (Some 0) None

first_home : first_homes shared_label ≡ Some 0
unfolding first_homes
first_home = refl

first_made : (l : Label) (q : ℕ) → first_homes l ≡ Some q → shared_label ≡ l
unfolding first_homes
first_made l q e = same_label-true shared_label l (go (same_label shared_label l) refl) where
  go : (b : Bool) → same_label shared_label l ≡ b → same_label shared_label l ≡ true
  go true is = is
  go false is = absurd (let f : ◌≡◌ {A = Option ℕ} None (Some q) = sym (ap (λ (b : Bool). cond b (Some 0) None) is) ∙ e in cc)

-- no collection has begun
abbrev first_cycle : Cycling
first_cycle = record { kind = Run; pass = First; paint = record { colours = first_colours; marks = record { marked = λ _. false; scanned = λ _. false }; emptied = λ _. [] }; shares = no_shares; before = λ _. false; unmarked = 0; left = λ _. 0; rotated = false; counts = record { own = λ _. []; blocks = λ _. false; words = λ _. false }; whole = true; armed = false; past = record { old = []; held = λ _. false; overwritten = λ _ _. false; owed = λ _ _. false }; unswept = false }

module _ (k : Config) (limits : IsWithinLimits (sizes_in k)) (words : List ℕ) (opens : IsOpening k words) where
  abbrev s0 : model.State
  s0 = states.opening (sizes_in k)

  found : Found k first_cycle.paint only s0.graph words 1 shared_place
  found = record {
    node = shared_node;
    there = refl;
    shape = refl;
    head = record { scanned = false; packs = opens.head; tells = λ is _. cc };
    blank = λ _. refl;
    label = opens.label;
    values = λ i v _ e. let t = zero_field 16 i v e in record {
      value = IntWord (pos 0);
      packs = ap (λ j. get_or words j 0) (let g : 10 + 2 * k.pools + (1 + 2 + i) ≡ 10 + 2 * k.pools + (3 + i) = omega arith in g) ∙ opens.fields i t.0;
      stands = subst (Stands only (IntWord (pos 0))) (sym t.1) (refl, (omega (arith, ints), omega (arith, ints)));
    };
    old = λ _ i inside _ _. subst (IsOldWord k) (sym (ap (λ j. get_or words j 0) (let g : 10 + 2 * k.pools + (1 + 2 + i) ≡ 10 + 2 * k.pools + (3 + i) = omega arith in g) ∙ opens.fields i (let h : i + 2 < 18 = inside in omega arith))) (inl refl);
  }

  fits : Fits k 1 shared_place
  fits = record { classed = (3, omega arith, omega arith); low = omega arith; high = (let h = heap_large k limits in let x : ℕ = heap_words k in let y : 4096 ≤ x = h in let z : 1 + 18 ≤ x + 1 = omega arith in z); head = (omega arith, omega arith, omega arith); label = (omega arith, lit< tt); pooled = λ keys e. absurd (let h : PlainShape 16 0 ≡ EpheShape keys = e in cc) }

  placed : Placed k only
  placed = record {
    fits = λ a p e. let t = only_at a p e in subst (λ (x : ℕ × Place). Fits k x.0 x.1) (λ i. (sym t.0 i, t.1 i)) fits;
    once = λ a b p q e f same _ _. (only_at a p e).0 ∙ sym (only_at b q f).0;
    apart = λ a b p q e f ne. absurd (ne ((only_at a p e).0 ∙ sym (only_at b q f).0));
  }

  -- the shared block lies in a pool
  only_old : (a : ℕ) (p : Place) → only a ≡ Some p → k.pools * 4096 < a → ⊥
  only_old a p e young = let one : a ≡ 1 = (only_at a p e).0 in let h = limits.some_pools in omega arith

  only_settled : Settled only
  only_settled a p e = subst IsBare (only_at a p e).1 record { no_forward = refl; no_debt = refl }

  not_named : (b : ℕ) (p : Place) (i d : ℕ) → only b ≡ Some p → p.named i ≡ Some d → ⊥
  not_named b p i d lives named = let e : ◌≡◌ {A = Option ℕ} None (Some d) = ap (λ (z : Place). z.named i) (only_at b p lives).1 ∙ named in cc

  first_owes : (d : ℕ) → Owes k only (opening_view k d)
  first_owes d = record {
    quiet = inl refl;
    knows = λ a p e. let f : ◌≡◌ {A = Option Place} None (Some p) = e in cc;
    copied = λ a c has. absurd has;
    owed = λ i o e. cc;
    once = λ i j o q e f g. cc;
    listed = λ c p debt lives owed _. absurd (let e : ◌≡◌ {A = Option Debt} None (Some debt) = sym (only_settled c p lives).no_debt ∙ owed in cc);
    recalled = λ b p i lives named. absurd (let e : ◌≡◌ {A = Option ℕ} None (Some d) = ap (λ (z : Place). z.named i) (only_at b p lives).1 ∙ named in cc);
    fields = λ j a e. cc;
  }

  stood : (d : ℕ) → d < k.domains → Stood only s0 (opening_view k d)
  stood d below = let is = replicated k.domains d below in record {
    wide = refl;
    each = λ r few. subst (λ (x : DomainState). Stands only (value_at (Ref 1 ∷ replicate 15 NothingWord) r) (get_or x.registers r Nothing)) (sym is) (each r);
    serial = ap (λ (x : DomainState). x.serial) (sym is);
    enrolled = enrolled_none only s0 d (no_finalisers k.finals) refl refl refl (ap (λ (x : DomainState). x.finals) is) (ap (λ (x : DomainState). x.lasts) is) (ap (λ (x : DomainState). x.queue) is);
  } where
    nothings : (n r : ℕ) → Stands only (value_at (replicate n NothingWord) r) (get_or (replicate n Nothing) r Nothing)
    nothings zero r = tt
    nothings (suc n) zero = tt
    nothings (suc n) (suc r) = nothings n r

    each : (r : ℕ) → Stands only (value_at (Ref 1 ∷ replicate 15 NothingWord) r) (get_or (Block shared_label ∷ replicate 15 Nothing) r Nothing)
    each zero = (shared_place, only_is, refl)
    each (suc r) = nothings 15 r

  area : (d : ℕ) → Area k only (opening_view k d)
  area d = record {
    room = omega arith;
    free = λ a p e. let t = only_at a p e in let one : a ≡ 1 = t.0 in let size : extent p.shape ≡ 18 = ap (λ (x : Place). extent x.shape) (sym t.1) in
        let h = limits.some_pools in let y : ℕ = d * k.minor_words in let z : ℕ = extent p.shape in let w : z ≡ 18 = size in
        inl (let g : a + z ≤ k.pools * 4096 + y + 1 + 0 = omega arith in g);
    classes = λ a p e young. absurd (only_old a p e young);
  }

  first_pools : Pools k first_tenancy words
  first_pools =
      let p = opens.pools in
      let n : ℕ = listed words in
      let P : ℕ = k.pools in
      let count : n ≡ P - 1 = p.count in
      let some : 1 ≤ P = (let h = limits.some_pools in omega arith) in
      let at : (i : ℕ) → i < n → listed_pool words i ≡ i + 1 = (λ i h. let g : i < n = h in p.list i (omega arith)) in record {
        few = let e : n ≤ P = omega arith in e;
        inside = λ i h. subst (λ (m : ℕ). m < P) (sym (at i h)) (let g : i < n = h in let e : i + 1 < P = omega arith in e);
        once = λ i j h g e. let f : i + 1 ≡ j + 1 = sym (at i h) ∙ (e ∙ at j g) in omega arith;
        untaken = λ i h g. ap first_holders (at i h) ∙ holder_else (i + 1) (λ e. omega arith);
        owners = λ q h. dite (ℕ_discrete q 0)
            (λ same. ap (owner_of k words) same ∙ (p.shared ∙ (sym (ap owner_word holder_first) ∙ ap (λ (m : ℕ). owner_word (first_holders m)) (sym same))))
            (λ other. p.free q (let o : q ≢ 0 = other in omega arith) h ∙ sym (ap owner_word (holder_else q other)));
        owned_by = λ q d c e. let o = holder_at q d c e in let a : q ≡ 0 = o.0 in let b : 0 ≡ d = o.1 in let f : 3 ≡ c = o.2 in ((let g : q < P = omega arith in g), (let l = limits.some_domain in let g : d < k.domains = omega arith in g), (let g : c < class_count = omega arith in g));
        drawn_by = λ q d e. absurd (none_drawn q d e);
        one_each = λ d. omega arith;
        asked = let e : cursor words ≡ 0 = p.asked in let z : sum_of (λ _. 0) k.domains ≡ 0 = sum_zero k.domains in let c : ℕ = cursor words in let m : ℕ = sum_of (λ _. 0) k.domains in let y : c ≡ 0 = e in let x : m ≡ 0 = z in let g : c + m ≤ P + k.domains = omega arith in g;
      }

  large_places : (slot : ℕ) → 1 ≤ slot → 19 ≤ place_in 0 3 slot
  unfolding size_of
  large_places slot h = let g : 19 ≤ 0 * 4096 + slot * 32 + 1 = omega arith in g

  shared_fits : 18 ≤ size_of 3
  unfolding size_of
  shared_fits = omega arith

  shared_inside : 0 < blocks_of 3
  unfolding size_of blocks_of
  shared_inside = omega arith

  spare_inside : 1 < blocks_of 3
  unfolding size_of blocks_of
  spare_inside = omega arith

  -- the place behind the shared block is free
  first_free : (d : ℕ) (z : Spare) → first_spare d ≡ Some z → IsFree k first_holders words d z
  first_free zero z e = subst (IsFree k first_holders words 0) (same_Some (record { pool = 0; class = 3; slot = 1 }) z e) record { own_is = holder_first; inside = spare_inside; free = opens.rest (place_in 0 3 1) (large_places 1 (omega arith)) }
  first_free (suc d) z e = absurd (none-some z e)

  first_place : place_in 0 3 0 ≡ 1
  first_place = let z : ℕ = size_of 3 in let o : 0 * 4096 + 0 * z + 1 ≡ 1 = omega arith in o

  first_grid : Grid k first_tenancy only words
  first_grid = record {
    lots = λ a p e low. let t = only_at a p e in subst (λ (x : ℕ × Place). Lot first_holders x.0 x.1) (λ i. (sym t.0 i, t.1 i))
        record { pool = 0; domain = 0; class = 3; slot = 0; owned_is = holder_first; inside = shared_inside; begins = (let z : ℕ = size_of 3 in let o : 1 ≡ 0 * 4096 + 0 * z + 1 = omega arith in o); fits = shared_fits };
    places = λ q d c slot e inside. let o = holder_at q d c e in
        subst (λ (x : ℕ × ℕ). IsPlace k first_tenancy only words d (place_in x.0 x.1 slot)) (λ i. (sym o.0 i, o.2 i))
        (dite (ℕ_discrete slot 0)
        (λ same. inr (inl (shared_place, ap only (ap (place_in 0 3) same ∙ first_place) ∙ only_is)))
        (λ other. inl (opens.rest (place_in 0 3 slot) (large_places slot (let n : slot ≢ 0 = other in omega arith)))));
    spares = λ a d e. absurd (no_spare a d e);
  }

  abbrev first_account : Account
  first_account = record { log = []; live = only; pause = first_pause; tenancy = first_tenancy; cycling = first_cycle; homes = first_homes }

  whole : Whole k first_account words
  whole = record {
    wide = opens.wide;
    legal = tt;
    full = record {
      kept = λ a p e. let t = only_at a p e in subst (λ (l : Label). IsTrue (has_label (shared_label ∷ []) l)) (ap (λ (q : Place). q.label) t.1) refl;
      low = λ q d c slot p is inside e. let t = only_at (place_in q c slot) p e in let o = holder_at q d c is in subst (λ (l : Label). first_homes l ≡ Some q) (ap (λ (z : Place). z.label) t.1) (first_home ∙ ap Some (sym o.0));
      young = λ a p e young _. absurd (only_old a p e young);
      made = λ l q e. (shared_node, subst (λ (x : Label). node_at s0.graph x ≡ Some shared_node) (first_made l q e) refl);
      owned = λ _ q d c is. let o = holder_at q d c is in inr (shared_label, refl, first_home ∙ ap Some (sym o.0));
      drawn = λ q d e. absurd (none_drawn q d e);
      left = λ q d c slot is inside dead. absurd (let e : false ≡ true = dead in cc);
    };
    found = λ a p e. let t = only_at a p e in subst (λ (x : ℕ × Place). Found k first_cycle.paint only s0.graph words x.0 x.1) (λ i. (sym t.0 i, t.1 i)) found;
    placed = placed;
    spread = record { apart = λ a b p q e f young. absurd (only_old a p e young); inside = λ a p e young. absurd (only_old a p e young) };
    settled = inl only_settled;
    copies = copies_settled k only only_settled (λ b p i d lives named. absurd (not_named b p i d lives named));
    cleared = λ h. absurd (let e : Run ≡ Promote = h.2 in cc);
    emptied = λ h. absurd (⊎_elim (λ (t : (j : ℕ) × (0 ≡ j * 2 + 1) × (Run ≢ Run)). t.2 refl) (λ (t : (j : ℕ) × (0 ≡ j * 2) × IsEmptying Run). t.2.0 refl) h);
    phases = record {
      sum = opens.rested.arrivals ∙ sym (sum_zero k.domains);
      begun = omega arith;
      unfinished = subst (λ (b : ℕ). b < (0 + 1) * k.domains) (sym opens.rested.arrivals) (let some = limits.some_domain in omega arith);
      each = λ d below. (omega arith, omega arith);
      even_plan = λ j e. opens.rested.runs;
      next_plan = λ j e l. absurd (let h : 0 ≡ j * 2 + 1 = e in omega arith);
      followed = λ j e. absurd (let h : 0 ≡ j * 2 + 2 = e in omega arith);
      leader = λ j e a. absurd (let h : 0 ≡ j * 2 + 1 = e in omega arith);
    };
    unwished = λ j odd led runs. absurd (let h : 0 ≡ j * 2 + 1 = odd in omega arith);
    endings = opens.rested.nobody_ended ∙ sym (sum_same (λ _. 0) (is_over s0) k.domains (λ d below. ap (λ (x : DomainState). flag x.ended) (replicated k.domains d below)) ∙ sum_zero k.domains);
    pools = first_pools;
    grid = first_grid;
    reserved = λ _ i h above. let n : ℕ = listed words in let P : ℕ = k.pools in let count : n ≡ P - 1 = opens.pools.count in
        ap first_holders (opens.pools.list i (let g : i < n = h in omega arith)) ∙ holder_else (i + 1) (λ e. omega arith);
    covered = λ _ q inside free. let n : ℕ = listed words in let P : ℕ = k.pools in let count : n ≡ P - 1 = opens.pools.count in
        let below : q < P = inside in
        let other : q ≢ 0 = (λ e. nobody_owned 0 3 (sym free ∙ (ap first_holders e ∙ holder_first))) in
        let c : ℕ = cursor words in
        let start : c ≡ 0 = opens.pools.asked in
        (q - 1, (let g : q - 1 < n = omega arith in g), opens.pools.list (q - 1) (omega arith) ∙ (let g : q - 1 + 1 ≡ q = omega arith in g), inl (let g : c ≤ q - 1 = omega arith in g));
    drawers = record { drawn = λ q d e. absurd (none_drawn q d e); prepared = λ a d e. absurd (no_spare a d e); claims = λ d some. absurd (let h : 0 < 0 = some in omega arith) };
    room = room_unused k only first_pause no_stock words (λ h. let e : Run ≡ Promote = h.2 in cc);
    unused = λ _. refl;
    opened = λ a q e young. absurd (only_old a q e young);
    drawable = record { to_run = λ j odd _ _. absurd (let h : 0 ≡ j * 2 + 1 = odd in omega arith); to_copy = λ j odd _ _. absurd (let h : 0 ≡ j * 2 + 1 = odd in omega arith) };
    cycle = record {
      armed_is = opens.cycle.armed_is;
      meanings = record { marked_fits = omega arith; unmarked_fits = omega arith; garbage_fits = omega arith; marked_differs = λ e. omega arith; unmarked_differs = λ e. omega arith; garbage_differs = λ e. omega arith };
      colours_are = opens.cycle.colours_are;
      changed_is = opens.rested.unchanged;
      facts = record { mode = refl; unmarked = λ _ l. refl; beside = λ is. absurd (let e : false ≡ true = is in cc); unchanged = refl; unrotated = refl };
      told = record {
        even = λ j e. (refl, λ d below. record { waits = λ f. refl; gone = λ f. absurd (let g : 0 ≡ 0 + 1 = f in omega arith) });
        odd = λ j e f. absurd (let h : 0 ≡ j * 2 + 1 = e in omega arith);
        led = λ j e f. absurd (let h : 0 ≡ j * 2 + 1 = e in omega arith);
      };
      leaves = record {
        none = λ _ _ a. refl;
        dead = λ a is. absurd (let e : false ≡ true = is in cc);
        head = λ a is. absurd (let e : false ≡ true = is in cc);
        unprepared = λ a is. absurd (let e : false ≡ true = is in cc);
        owned = λ a is. absurd (let e : false ≡ true = is in cc);
      };
      unswept = λ is. absurd (let e : false ≡ true = is in cc);
      whole = λ l. inl refl;
      grows = grows_none k only first_pause first_cycle (λ is. is);
    };
  }

  pub starts : Rule k (opening words [] (first_view k))
  unfolding first_view
  starts =
      let v : View = record { config = k; history = []; domains = opening_views k 0 k.domains } in record {
        account = first_account;
        seat = λ _. 0;
        limits = limits;
        whole = whole;
        seats = λ d. lit< tt;
        views = sole (Knows k [] (λ _. 0)) v record {
          config = views_later k (λ _. k ≡ k) 0 k.domains (λ x a b. refl);
          history = record { rest = []; appends = refl };
          domains = views_later k (IsSeated k [] (λ _. 0) 0) 0 k.domains (λ x a b. record { inside = omega arith; here = refl; front = record { rest = []; appends = refl; others = refl }; led = λ _. refl });
          distinct = distinct_later k 0 k.domains;
        };
        good = sole (λ _ u. AllDomains (Good k first_account words) u.domains) v (views_later k (Good k first_account words) 0 k.domains (λ x a b. record {
          stood = stood x (omega arith);
          area = area x;
          making = record { fits = λ j w e. cc; written = λ j w e. cc };
          staged = record { arrivals = refl; stage = (refl, (0, refl, refl)) };
          still = (λ paused. absurd paused, λ _. refl);
          owes = first_owes x;
          rooted = (
            λ h. absurd (let e : Run ≡ Promote = h.2 in cc),
            ⊎_elim (λ h. absurd (let e : Run ≡ Promote = h.0.2 in cc)) (λ h. absurd (⊎_elim (λ (odd : (j : ℕ) × (0 ≡ j * 2 + 1) × _). let e = odd.1 in omega arith) (λ even. even.2.0 refl) h)),
          );
          hunter = record {
            hunt = tt;
            free = λ f e. absurd (none-some f e);
            spare = first_free x;
            drawn_alone = λ q e. absurd (none_drawn q x e);
            holds = λ c a few e. absurd (no_spare a a (sym (prepared_first class_count c) ∙ e));
            prepared = λ q c slot is inside e. absurd (no_spare (place_in q c slot) x e);
            claims = refl;
            supply = λ c few some. absurd (let h : 0 < 0 = some in omega arith);
            taken = λ q c slot e inside low. absurd (none_passed q slot (subst (IsPassed q slot) (nowhere_at class_count c) low));
          };
          resting = record { hunt = λ n. refl; free = λ n. refl; spare = λ n. absurd (n refl); lists = λ l e. cc };
          took_back = λ kind leads last. absurd (run_leads kind leads);
          set_back = λ h. absurd (run_leads Run h.0);
          sharing = record {
            telling = record { owes = λ _. record { owes = refl; follows = λ a is. is }; seen = λ _. refl; fresh = λ e. cc; forgotten = λ e. cc; colours = λ c e. cc };
            leading = record { changed = λ v e. cc; found_blocks = λ v e. cc; found_words = λ v e. cc; rotated = λ _ e. refl; turned = λ e. cc; pass = λ _. refl; whole = λ _. refl; armed = λ b e. cc; unswept = λ _. refl; under_way = λ _ _. refl; unmarked = λ _. refl };
            knows = inl refl;
            adds = record { blocks = λ e _. refl; words = λ e _. refl; own = λ e _ f. cc };
            looks = record { at_own = λ a e. cc; cleans = λ w e. cc; emptied_is = λ a p own lives. refl };
            running = record { knows = inl (refl, refl); owes = λ is. absurd (let e : false ≡ true = is in cc) };
            deciding = deciding_none only Run (λ _. 0) (λ _. false) (λ _. false) x (no_finalisers k.finals) 0 [] tt;
          };
          listed = record {
            all = λ q c slot is inside e. absurd (let t = only_at (place_in q c slot) e.place e.lives in let h : PlainShape 16 0 ≡ EpheShape e.keys = ap (λ (p : Place). p.shape) t.1 ∙ e.shape in cc);
            own = λ a is. absurd (let e : false ≡ true = is in cc);
            lives = λ a is. absurd (let e : false ≡ true = is in cc);
          };
          sweeps = record { listed = λ i a low got. refl; places = λ q c slot is inside before. refl; anew = λ kind. cc; reaps = tt; below = λ q c is. let o = holder_at q x c is in let e : q ≡ 0 = o.0 in omega arith };
        }));
      }
