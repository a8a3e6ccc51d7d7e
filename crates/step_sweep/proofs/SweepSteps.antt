-- A step by which a domain gets further in sweeping its own pools, and frees nothing, keeps the rule.
use Rattle.std.proofs.Common.{◌≡◌, ℕ, ◌+◌, ◌<◌, ◌≤◌, true, false, true≢false, IsTrue, List, ◌∷◌, get_or, set, sym, refl, ap, ◌∙◌, subst, inl, inr, ⊎_elim, arith, lt_of_not-le, ◌*◌}
use Rattle.std.proofs.lemmas.Bool.{cases_Bool}
use mathlib.Core.Logic.{dite}
use native.Mathlib.Decide.{ℕ_discrete, dec_le}
use mathlib.Core.Option.{some}
use lib.ListN.{get_elem?}
use Rattle.atomic_table.specs.Table.{keeps}
use Rattle.model_core.specs.declared.entry.Entry.{Entry}
use Rattle.model_core.specs.declared.state.State as model
use Rattle.heap_rule.specs.declared.config.Config.{Config}
use Rattle.heap_rule.specs.declared.view.DomainView.{DomainView}
use Rattle.heap_rule.specs.declared.view.Reaping.{Reaping}
use Rattle.heap_rule.specs.declared.view.Reaping.TheVariants.{Inside, AtGarbage}
use Rattle.heap_rule.specs.declared.view.Share.{Share}
use Rattle.heap_rule.specs.declared.view.Spot.{Spot}
use Rattle.heap_rule.specs.declared.view.Swept.{Swept}
use Rattle.heap_rule.specs.Layout.{at_address, before_heap, owner_of}
use Rattle.heap_rule.specs.Pools.{IsBefore, blocks_of, owned, owner_word, place_in}
use Rattle.heap_rule.specs.Raw.{MayStep}
use Rattle.heap_rule.specs.Rule.{Rule, Sharing, state_of}
use Rattle.step_pools.specs.Writes.{pool_after}
use Rattle.step_pools.proofs.Tops.{before_after}
use Rattle.heap_rule.specs.Sweeping.{Reaps, SweepsIn, nothing_swept}
use Rattle.heap_rule.specs.Views.{one}
use Rattle.heap_rule.proofs.Keeps.{Words, control_same, controls_kept, hunter_as, my_good, unmoved, writes}
use Rattle.heap_rule.proofs.Lots.{none_before}
use Rattle.heap_rule.proofs.OwnPlaces.{owned_same}
use Rattle.step_marks.specs.Marking.Looks.{with_share}
use Rattle.step_marks.specs.Marking.Marking.{behind}
use Rattle.step_marks.proofs.OfMarking.Layouts.{whose}
use Rattle.step_marks.proofs.OfMarking.Learning.{load_may, sharing_learnt}
use Rattle.step_marks.proofs.OfMarking.WalkSteps.{before_behind}
use Rattle.step_sweep.specs.Freeing.{AnewMay, AnewTold, Frees, IsColoured, SweepMay, SweepOwnMay, SweepOwnTold, SweepTold, passed, sweeping_from, unswept}
use Rattle.step_sweep.proofs.Finding.{clean_place, colour_of_dead, waits}

-- the domain with another share of its sweeping
abbrev pub sweeping_on : Share → Reaping → List Spot → Share
sweeping_on share reaping places = record share { reaping = reaping; swept = places }

module _ (k : Config) (s : Words) (r : Rule k s) (id : ℕ) (hist : List Entry) (x : DomainView) (at : get_elem? s.views id ≡ some (one k hist x)) where
  open r.account use {tenancy.{holder, garbage}}
  open x use {own.{number as d}, seen.{share as sh}}

  abbrev now : model.State
  now = state_of k r.account.log

  abbrev After : DomainView → Type 0
  After y = Rule k record { words = s.words; homes = s.homes; views = set s.views id (one k hist y) }

  -- what else it knows of the phase stays
  sharing_on : (reaping : Reaping) (places : List Spot) → Sharing k r.account s.words d x.own.registers x.own.finalisers x.own.ephemerons.items x.seen.stage (sweeping_on sh reaping places)
  sharing_on reaping places = let g = (my_good k s r id hist x at).sharing in sharing_learnt k s r id hist x at sh.colours sh.armed sh.changed sh.blocks reaping places
      g.telling.forgotten g.telling.colours g.leading.armed g.leading.changed g.leading.found_blocks

  -- a step after which the domain has swept so far
  pub sweeps_rule : (swept : Swept) (reaping : Reaping) (places : List Spot) → let y : DomainView = record { own = record x.own { swept = swept }; seen = record x.seen { share = sweeping_on sh reaping places } } in SweepsIn r.account.tenancy r.account.cycling y → After y
  sweeps_rule swept reaping places sweeps =
      let g = my_good k s r id hist x at in
      let y : DomainView = record { own = record x.own { swept = swept }; seen = record x.seen { share = sweeping_on sh reaping places } } in writes k s r id hist x at y s.words r.account.cycling record {
        same = refl;
        kind = refl;
        front = inl refl;
        still = g.still;
        wide = refl;
        controls = controls_kept k s r id hist x at s.words (control_same k s.words);
        found = r.whole.found;
        stood = record { wide = g.stood.wide; each = g.stood.each; serial = g.stood.serial; enrolled = g.stood.enrolled };
        area = record { room = g.area.room; free = g.area.free; classes = g.area.classes };
        making = record { fits = g.making.fits; written = g.making.written };
        makings = λ z _ _ p. p;
        grid = r.whole.grid;
        hunter = hunter_as k r.account.tenancy s.words x y refl refl refl refl refl refl refl g.hunter;
        hunters = λ z _ h. h.hunter;
        cycle = r.whole.cycle;
        sharing = sharing_on reaping places;
        sharings = λ z _ h. h.sharing;
        sweeps = sweeps;
        others_sweep = λ z h. h.sweeps;
      }

  -- in Lasts it is to sweep everything
  pub anew_rule : After (record x { own = unswept x.own })
  anew_rule = let w = (my_good k s r id hist x at).sweeps in sweeps_rule (nothing_swept x.own.swept.top) sh.reaping sh.swept record {
    listed = λ i a low got. absurd (let l : i < 0 = low in omega arith);
    places = λ q c slot is inside before. absurd (none_before q slot before);
    anew = λ _ _. refl;
    reaps = w.reaps;
    below = w.below;
  }

  -- a domain that may free garbage hasn't arrived
  not_up : Frees x.seen.stage → r.account.cycling.shares.arrived d ≡ true → ⊥
  not_up stage up = true≢false (sym up ∙ waits k s r id hist x at stage)

  -- the owner of the next pool
  module _ (word pool : ℕ) (may : SweepOwnMay k x word pool) where
    abbrev owner : ℕ
    owner = owner_of k s.words pool

    abbrev slot : ℕ
    slot = x.own.swept.spot.slot

    abbrev next : ℕ
    next = pool_after k.pools x.own.swept.top pool

    -- no place is left in the pool
    passes : ((class : ℕ) → holder pool ≡ owned d class → slot < blocks_of class → ⊥) → After (record x { own = sweeping_from x.own (record { pool = next; slot = 0 }) })
    passes none = let w = (my_good k s r id hist x at).sweeps in sweeps_rule (record x.own.swept { spot = record { pool = next; slot = 0 } }) sh.reaping sh.swept record {
      listed = w.listed;
      places = λ q c i is inside before. w.places q c i is inside (⊎_elim
          (λ (h : q < next). dite (ℕ_discrete q pool)
          (λ same. inr (
            same ∙ sym may.next,
            dite (dec_le (blocks_of c) slot)
                (λ far. let b : ℕ = blocks_of c in let n : ℕ = slot in let f : b ≤ n = far in let l : i < b = inside in let g : i < n = omega arith in g)
                (λ near. absurd (none c (ap holder (sym same) ∙ is) (lt_of_not-le near))),
          ))
          (λ other. inl (let p : ℕ = x.own.swept.spot.pool in let e : p ≡ pool = may.next in let l : q < pool = before_after k.pools x.own.swept.top pool q h (w.below q c is) other in let g : q < p = omega arith in g)))
          (λ (h : (q ≡ next) × (i < 0)). absurd (let l = h.1 in omega arith))
          before);
      anew = λ _ up. absurd (not_up may.stage up);
      reaps = w.reaps;
      below = w.below;
    }

    enters : (class : ℕ) → holder pool ≡ owned d class → After (with_share x (record sh { reaping = Inside pool class }))
    enters class is = let w = (my_good k s r id hist x at).sweeps in sweeps_rule x.own.swept (Inside pool class) sh.swept record { listed = w.listed; places = w.places; anew = w.anew; reaps = is; below = w.below }

    pub owner_swept : (y : DomainView) × After y × SweepOwnTold k pool x owner y
    owner_swept = ⊎_elim
        (λ u. dite (dec_le (blocks_of u.0) slot)
        (λ far. (
          record x { own = sweeping_from x.own (record { pool = next; slot = 0 }) },
          passes (λ c is low. too_far u.0 c u.1 is far low),
          record { told = inr (λ c among. too_far u.0 c u.1 (own_again u.0 c u.1 u.3 among.1) far among.2, refl) },
        ))
        (λ near. (with_share x (record sh { reaping = Inside pool u.0 }), enters u.0 u.1, record { told = inl (u.0, (u.2, u.3, lt_of_not-le near), refl) })))
        (λ u. (record x { own = sweeping_from x.own (record { pool = next; slot = 0 }) }, passes (λ c is low. u.0 c is), record { told = inr (λ c among. u.1 c among.0 among.1, refl) }))
        (whose k s r d pool may.inside (holder pool) refl)
      where
        too_far : (b c : ℕ) → holder pool ≡ owned d b → holder pool ≡ owned d c → blocks_of b ≤ slot → slot < blocks_of c → ⊥
        too_far b c one other far low =
            let same : b ≡ c = (owned_same d d b c (sym one ∙ other)).1 in
            let n : ℕ = blocks_of b in let m : ℕ = blocks_of c in let e : n ≡ m = ap blocks_of same in let f : n ≤ slot = far in let l : slot < m = low in omega arith

        own_again : (b c : ℕ) → holder pool ≡ owned d b → owner ≡ owner_word (owned d b) → owner ≡ owner_word (owned d c) → holder pool ≡ owned d c
        own_again b c one is other = let w : ℕ = owner in let f : w ≡ 16 * d + b + 1 = is in let g : w ≡ 16 * d + c + 1 = other in let same : b ≡ c = omega arith in one ∙ ap (owned d) same

  -- the head at the next place
  module _ (a pool class slot colour : ℕ) (may : SweepMay x a pool class slot colour) where
    abbrev found : ℕ
    found = at_address k s.words a

    own : holder pool ≡ owned d class
    own = subst (λ (z : Reaping). Reaps holder garbage d z) may.own (my_good k s r id hist x at).sweeps.reaps

    -- no garbage is there
    goes_on : garbage a ≡ false → After (passed pool class slot x)
    goes_on clean = let w = (my_good k s r id hist x at).sweeps in sweeps_rule (record x.own.swept { spot = behind pool class slot }) (Inside pool class) (record { pool = pool; slot = slot } ∷ sh.swept) record {
      listed = w.listed;
      places = λ q c i is inside before.
          let class_is : q ≡ pool → c ≡ class = (λ same. (owned_same d d c class (sym is ∙ (ap holder same ∙ own))).1) in ⊎_elim
          (λ (h : (q ≡ pool) × (i ≡ slot)). ap (λ (z : ℕ × ℕ × ℕ). garbage (place_in z.0 z.1 z.2)) (λ j. (h.0 j, class_is h.0 j, h.1 j)) ∙ (ap garbage (sym may.word) ∙ clean))
          (λ (h : IsBefore q i (record { pool = pool; slot = slot })). w.places q c i is inside (subst (IsBefore q i) (sym may.next) h))
          (before_behind pool class slot q i (λ same. subst (λ (z : ℕ). i < blocks_of z) (class_is same) inside) before);
      anew = λ _ up. absurd (not_up may.stage up);
      reaps = own;
      below = w.below;
    }

    finds : IsTrue (garbage a) → After (with_share x (record sh { reaping = AtGarbage pool class slot }))
    finds is = let w = (my_good k s r id hist x at).sweeps in sweeps_rule x.own.swept (AtGarbage pool class slot) sh.swept record { listed = w.listed; places = w.places; anew = w.anew; reaps = (own, may.inside, ap garbage (sym may.word) ∙ is); below = w.below }

    pub head_swept : (y : DomainView) × After y × SweepTold pool class slot colour x found y
    head_swept = ⊎_elim
        (λ (is : IsTrue (garbage a)). (
          with_share x (record sh { reaping = AtGarbage pool class slot }),
          finds is,
          record { told = inr (subst (λ (n : ℕ). IsColoured n found) (sym may.means) (colour_of_dead k s r id hist x at may.stage may.colours may.known a is), refl) },
        ))
        (λ (clean : garbage a ≡ false). (
          passed pool class slot x,
          goes_on clean,
          record {
            told = inl (
              λ dead. clean_place k s r id hist x at may.stage may.colours may.known pool class slot own may.inside (ap garbage (sym may.word) ∙ clean) (subst (λ (z : ℕ × ℕ). IsColoured z.0 (at_address k s.words z.1)) (λ i. (may.means i, may.word i)) dead),
              refl,
            );
          },
        ))
        (cases_Bool (garbage a))

pub anew_may : (k : Config) (x : DomainView) → AnewMay x → MayStep k x 5 (λ n. n) AnewTold
anew_may k x may fits slots id hist s r _ at _ = let y : DomainView = record x { own = unswept x.own } in (one k hist y, keeps, tt, unmoved k s 5 (set s.views id (one k hist y)) (anew_rule k s r id hist x at), (refl, refl))

pub sweep_own_may : (k : Config) (x : DomainView) (word pool : ℕ) → SweepOwnMay k x word pool → MayStep k x word (λ n. n) (SweepOwnTold k pool)
sweep_own_may k x word pool may fits slots id hist s r _ at _ =
    let o = owner_swept k s r id hist x at word pool may in
    (one k hist o.0, keeps, tt, unmoved k s word (set s.views id (one k hist o.0)) o.1, (subst (λ (n : ℕ). SweepOwnTold k pool x (get_or s.words n 0) o.0) (sym may.word) o.2, refl))

pub sweep_may : (k : Config) (x : DomainView) (word a pool class slot garbage : ℕ) → word ≡ before_heap k + a → SweepMay x a pool class slot garbage → MayStep k x word (λ n. n) (SweepTold pool class slot garbage)
sweep_may k x word a pool class slot garbage place may = load_may k x word a (SweepTold pool class slot garbage) place (λ s r id hist at. head_swept k s r id hist x at a pool class slot garbage may)
