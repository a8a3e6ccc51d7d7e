-- Looks at addresses that may be grey blocks' keep the rule.
use Rattle.std.proofs.Common.{◌≡◌, ◌≢◌, ℕ, zero, suc, arith, ◌+◌, ◌<◌, ◌⊎◌, true, false, true≢false, IsTrue, List, get_or, set, Some, sym, refl, ap, ◌∙◌, subst, inl, inr, ⊎_elim}
use Rattle.std.proofs.lemmas.Bool.{cases_Bool}
use mathlib.Core.Logic.{dite}
use mathlib.Core.Option.{some}
use native.Mathlib.Decide.{ℕ_discrete}
use lib.ListN.{get_elem?}
use Rattle.atomic_table.specs.Table.{keeps}
use Rattle.model_core.specs.declared.entry.Entry.{Entry}
use Rattle.heap_words.specs.declared.colours.Colours.{Colours}
use Rattle.heap_rule.specs.declared.config.Config.{Config}
use Rattle.heap_rule.specs.declared.view.DomainView.{DomainView}
use Rattle.heap_rule.specs.declared.view.Known.TheVariants.{Pool, Shape as Shaped, Vain}
use Rattle.heap_rule.specs.Layout.{before_heap, at_address, owner_of}
use Rattle.heap_rule.specs.Places.{Place}
use Rattle.heap_rule.specs.Pools.{Holder, blocks_of, nobody, drawn, owned, owner_word, place_in}
use Rattle.heap_rule.specs.Raw.{MayStep}
use Rattle.heap_rule.specs.Rule.{Rule}
use Rattle.heap_rule.specs.Views.{one}
use Rattle.heap_rule.proofs.BesideLemmas.{known_among}
use Rattle.heap_rule.proofs.PauseFacts.{run_promoting}
use Rattle.heap_rule.proofs.Keeps.{Words, my_good, run_settled, unmoved}
use Rattle.heap_rule.specs.declared.phase.Kind.TheVariants.{Run}
use Rattle.heap_rule.specs.declared.phase.Stage.TheVariants.{In}
use Rattle.step_marks.proofs.OfMarking.Learning.{load_may}
use Rattle.step_marks.specs.Marking.Marking.{IsMarked, IsScanned, IsUnmarked}
use Rattle.step_marks.proofs.OfMarking.Colouring.{BareHead, bare_head, marked_colour, unmarked_colour}
use Rattle.step_marks.specs.Beside.Marking.{Begins, PlaceMay, PlaceTold, PoolMay, PoolTold, learning}
use Rattle.step_marks.proofs.OfBeside.Besides.{all_known, learns_one, no_garbage}

-- one of so many numbers is this one, or none is
among : (f : ℕ → ℕ) (a n : ℕ) → ((i : ℕ) × (i < n) × (a ≡ f i)) ⊎ ((i : ℕ) → i < n → a ≡ f i → ⊥)
among f a zero = inr (λ i below e. omega (arith, below))
among f a (suc n) = ⊎_elim
    (λ (t : (i : ℕ) × (i < n) × (a ≡ f i)). inl (t.0, (let h = t.1 in omega (arith, h)), t.2))
    (λ (none : (i : ℕ) → i < n → a ≡ f i → ⊥). dite (ℕ_discrete a (f n))
    (λ (e : a ≡ f n). inl (n, omega arith, e))
    (λ (d : a ≢ f n). inr (λ i below e. dite (ℕ_discrete i n)
    (λ (last : i ≡ n). d (e ∙ ap f last))
    (λ (less : i ≢ n). none i (omega (arith, below, less)) e))))
    (among f a n)

begins_or_not : (a pool class : ℕ) → Begins a pool class ⊎ (Begins a pool class → ⊥)
begins_or_not a pool class = ⊎_elim
    (λ (t : (i : ℕ) × (i < blocks_of class) × (a ≡ place_in pool class i)). inl (record { slot = t.0; inside = t.1; begins = t.2 }))
    (λ (none : (i : ℕ) → i < blocks_of class → a ≡ place_in pool class i → ⊥). inr (λ b. none b.slot b.inside b.begins))
    (among (place_in pool class) a (blocks_of class))

module _ (k : Config) (s : Words) (r : Rule k s) (id : ℕ) (hist : List Entry) (x : DomainView) (at : get_elem? s.views id ≡ some (one k hist x)) where
  abbrev After : DomainView → Type 0
  After y = Rule k record { words = s.words; homes = s.homes; views = set s.views id (one k hist y) }

  module _ (a word pool : ℕ) (may : PoolMay k x a word pool) where
    is_owner : owner_of k s.words pool ≡ owner_word (r.account.tenancy.holder pool)
    is_owner = r.whole.pools.owners pool may.inside

    owner_cases : (h : Holder) → r.account.tenancy.holder pool ≡ h → (y : DomainView) × After y × PoolTold a pool x (owner_of k s.words pool) y
    owner_cases nobody is = (
      learning x (Vain a),
      learns_one k s r id hist x at may.beside.runs may.beside.armed (Vain a) (tt, all_known k s r id hist x at may.beside.runs may.beside.armed),
      record { told = inr (inl (is_owner ∙ ap owner_word is), refl) },
    )
    owner_cases (drawn d) is = (
      learning x (Vain a),
      learns_one k s r id hist x at may.beside.runs may.beside.armed (Vain a) (tt, all_known k s r id hist x at may.beside.runs may.beside.armed),
      record { told = inr (inl (is_owner ∙ ap owner_word is), refl) },
    )
    owner_cases (owned d class) is =
        let below = (r.whole.pools.owned_by pool d class is).2 in ⊎_elim
        (λ (b : Begins a pool class). (
          learning x (Pool pool class),
          learns_one k s r id hist x at may.beside.runs may.beside.armed (Pool pool class) ((d, is), all_known k s r id hist x at may.beside.runs may.beside.armed),
          record { told = inl (d, class, below, is_owner ∙ ap owner_word is, b, refl) },
        ))
        (λ (n : Begins a pool class → ⊥). (
          learning x (Vain a),
          learns_one k s r id hist x at may.beside.runs may.beside.armed (Vain a) (tt, all_known k s r id hist x at may.beside.runs may.beside.armed),
          record { told = inr (inr (d, class, below, is_owner ∙ ap owner_word is, n), refl) },
        ))
        (begins_or_not a pool class)

  -- what the head of a block that lives tells of it
  module _ (runs : x.seen.stage ≡ In Run) (colours : Colours) (known : x.seen.share.colours ≡ Some colours) (a : ℕ) (p : Place) (lives : r.account.live a ≡ Some p) where
    pub there : BareHead r.account.cycling.paint p (at_address k s.words a)
    there = bare_head r.account.cycling.paint p (at_address k s.words a) (run_settled k s r id hist x at runs a p lives) r.whole.cycle.meanings (r.whole.placed.fits a p lives).head (r.whole.found a p lives).head

    pub means : colours ≡ r.account.cycling.paint.colours
    means = (my_good k s r id hist x at).sharing.telling.colours colours known

    pub is_marked : r.account.cycling.paint.marks.marked p.label ≡ true → IsMarked colours (at_address k s.words a)
    is_marked e = record { shape = p.shape; head = there.head; colour = marked_colour r.account.cycling.paint p (at_address k s.words a) colours means there e }

    pub is_unmarked : r.account.cycling.paint.marks.marked p.label ≡ false → IsUnmarked colours (at_address k s.words a)
    is_unmarked e = record { shape = p.shape; head = there.head; colour = unmarked_colour r.account.cycling.paint p (at_address k s.words a) colours means there e }

  module _ (a pool class slot : ℕ) (may : PlaceMay x a pool class slot) where
    abbrev found : ℕ
    found = at_address k s.words a

    vain : ((found ≡ 0) ⊎ (IsUnmarked may.knows.colours found ⊎ IsScanned may.knows.colours found)) → (y : DomainView) × After y × PlaceTold a x found y
    vain why = (
      learning x (Vain a),
      learns_one k s r id hist x at may.knows.beside.runs may.knows.beside.armed (Vain a) (tt, all_known k s r id hist x at may.knows.beside.runs may.knows.beside.armed),
      record { colours = may.knows.colours; known = may.knows.known; told = inl (why, refl) },
    )

    block_told : (p : Place) → r.account.live a ≡ Some p → (y : DomainView) × After y × PlaceTold a x found y
    unfolding is_marked
    block_told p lives =
        let head = there may.knows.beside.runs may.knows.colours may.knows.known a p lives in ⊎_elim
        (λ (e : r.account.cycling.paint.marks.marked p.label ≡ true).
        let marked = is_marked may.knows.beside.runs may.knows.colours may.knows.known a p lives e in ⊎_elim
        (λ (bit : head.head.scanned ≡ true). vain (inr (inr (record { block = marked; scanned = bit }))))
        (λ (bit : head.head.scanned ≡ false). (
          learning x (Shaped a found),
          learns_one k s r id hist x at may.knows.beside.runs may.knows.beside.armed (Shaped a found) (record { place = p; lives = lives; is_marked = e; head = head.head }, all_known k s r id hist x at may.knows.beside.runs may.knows.beside.armed),
          record { colours = may.knows.colours; known = may.knows.known; told = inr (record { block = marked; unscanned = bit }, refl) },
        ))
        (cases_Bool head.head.scanned))
        (λ (e : r.account.cycling.paint.marks.marked p.label ≡ false). vain (inr (inl (is_unmarked may.knows.beside.runs may.knows.colours may.knows.known a p lives e))))
        (cases_Bool (r.account.cycling.paint.marks.marked p.label))

    pub place_told : (y : DomainView) × After y × PlaceTold a x found y
    place_told =
        let h = known_among k r.account.live r.account.tenancy.holder r.account.cycling.past.old r.account.cycling.paint.marks.marked s.words x.seen.share.known (Pool pool class) (all_known k s r id hist x at may.knows.beside.runs may.knows.beside.armed) may.owned in ⊎_elim
        (λ (e : at_address k s.words (place_in pool class slot) ≡ 0). vain (inl (ap (at_address k s.words) may.begins ∙ e)))
        (λ t. ⊎_elim
        (λ (b : (p : Place) × (r.account.live (place_in pool class slot) ≡ Some p)). block_told b.0 (ap r.account.live may.begins ∙ b.1))
        (λ v. ⊎_elim
        (λ (e : r.account.tenancy.prepared (place_in pool class slot) ≡ Some h.0). absurd (run_promoting r.account.pause x may.knows.beside.runs (my_good k s r id hist x at).staged (r.whole.drawers.prepared (place_in pool class slot) h.0 e).1))
        (λ (is : IsTrue (r.account.tenancy.garbage (place_in pool class slot))). absurd (true≢false (sym is ∙ no_garbage k s r id hist x at may.knows.beside.runs may.knows.beside.armed (place_in pool class slot)))) v) t)
        (r.whole.grid.places pool h.0 class slot h.1 may.inside)

pub pool_may : (k : Config) (x : DomainView) (a word pool : ℕ) → PoolMay k x a word pool → MayStep k x word (λ n. n) (PoolTold a pool)
pool_may k x a word pool may fits slots id hist s r _ at _ =
    let o = owner_cases k s r id hist x at a word pool may (r.account.tenancy.holder pool) refl in
    (one k hist o.0, keeps, tt, unmoved k s word (set s.views id (one k hist o.0)) o.1, (subst (λ (n : ℕ). PoolTold a pool x (get_or s.words n 0) o.0) (sym may.word_is) o.2, refl))

pub place_may : (k : Config) (x : DomainView) (word a pool class slot : ℕ) → word ≡ before_heap k + a → PlaceMay x a pool class slot → MayStep k x word (λ n. n) (PlaceTold a)
place_may k x word a pool class slot place may = load_may k x word a (PlaceTold a) place (λ s r id hist at. place_told k s r id hist x at a pool class slot may)
