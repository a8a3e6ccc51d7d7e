-- The making of a plain block, and of an ephemeron, at a free place of an own pool keeps the rule.
use Rattle.std.proofs.Common.{◌≡◌, ℕ, zero, suc, ◌+◌, ◌^◌, ◌<◌, ◌≤◌, ◌⊎◌, ◌==◌, ◌||◌, Bool, true, false, IsTrue, List, [], ◌∷◌, ◌++◌, map, set, replicate, slice_get, pos, Some, None, sym, refl, ap, ◌∙◌, subst, inl, inr, ⊎_elim, arith, zero-le, eq-eqb, eqb-true, length}
use Rattle.std.proofs.lemmas.List.{length-replicate}
use Rattle.std.proofs.lemmas.Int.{ints}
use Rattle.std.proofs.lemmas.Bool.{or_left, or_right}
use Rattle.atomic_table.specs.Table.{keeps, Allows}
use Rattle.model_core.specs.declared.command.Command.TheVariants.{AllocMaj, Ephe as NewEphe}
use Rattle.model_core.specs.declared.entry.Entry.{Entry}
use Rattle.model_core.specs.declared.entry.Entry.TheVariants.{Command as CommandOf}
use Rattle.model_core.specs.declared.graph.Value as graph_value
use Rattle.model_core.specs.declared.graph.Value.TheVariants.{Int, Nothing}
use Rattle.model_core.specs.declared.graph.Node.{Node}
use Rattle.model_core.specs.declared.graph.Node.TheVariants.{Ephe}
use Rattle.model_core.specs.Commands.{new_plain, key_value}
use Rattle.model_core.specs.Fronts.{PlainShape, EpheShape}
use Rattle.heap_words.specs.declared.value.Value.TheVariants.{Int as IntWord, Nothing as NothingWord}
use Rattle.heap_rule.specs.declared.change.Change.{Change}
use Rattle.heap_rule.specs.declared.config.Config.{Config}
use Rattle.heap_rule.specs.declared.view.DomainView.{DomainView}
use Rattle.heap_rule.specs.Layout.{before_heap}
use Rattle.heap_rule.specs.Cycles.{seen_by}
use Rattle.heap_rule.specs.Places.{Stands}
use Rattle.heap_rule.specs.Changes.{FitChanges}
use Rattle.heap_rule.specs.Views.{one, Tells}
use Rattle.heap_rule.specs.Raw.{MayStore}
use Rattle.heap_rule.specs.Rule.{Rule}
use Rattle.step_pools.specs.Takes.{MajorMay, MajorEntry, MajorTold}
use Rattle.step_pools.specs.Ephemerons.{empty_word, with_ephemeron, EpheMay, EpheEntry, EpheTold, CanList}
use Rattle.heap_rule.proofs.ChangeLemmas.{changed_only}
use Rattle.heap_rule.proofs.Born.{zero_word, zero_values}
use Rattle.step_pools.proofs.NewBlocks.{IsNewBlock, MakesNode, ListsNew, MakesMay, after, makes_rule, makes_answers, makes_holds}
use Rattle.heap_rule.proofs.Lists.{got_end}

zero_there : (n i : ℕ) → i < n → slice_get (replicate n zero_word) i ≡ Some zero_word
zero_there zero i h = absurd (omega arith)
zero_there (suc n) zero h = refl
zero_there (suc n) (suc i) h = zero_there n i (omega arith)

-- a new plain block
new_block : (n tag : ℕ) → 1 ≤ n → n ≤ 1022 → tag < 251 → IsNewBlock (PlainShape n tag) (new_plain tag n) (replicate n zero_word)
new_block n tag one_field few fits = record {
  shape_is = ap (λ (m : ℕ). PlainShape m tag) (length-replicate n (Int (pos 0)));
  packable = (one_field, (omega arith), fits);
  long = let l = length-replicate n zero_word in omega arith;
  values = λ i v got. let t = zero_values n i v got in (IntWord (pos 0), t.1, λ live. subst (Stands live (IntWord (pos 0))) (sym t.0) (refl, (omega (arith, ints), omega (arith, ints))));
  old = λ k i below. (zero_word, zero_there n i (let l = length-replicate n zero_word in omega arith), inl refl);
}

-- an allocation in the major heap makes one
major_makes : (dst tag n : ℕ) → MakesNode (AllocMaj dst tag n) dst (new_plain tag n)
major_makes dst tag n = record { makes = λ s d. refl; allocates = refl; unregistering = refl; quiet = λ owed d. refl; overwrites = λ past m s d. tt; fits = λ s d mode queue. (mode, queue) }

-- it isn't listed
lists_none : (n tag a : ℕ) (items : List ℕ) → ListsNew (PlainShape n tag) a items items
lists_none n tag a items = record { all = λ b h. h; only = λ b h. inl h; new = λ keys is. absurd (let e : PlainShape n tag ≡ EpheShape keys = is in cc); same = λ i b got. inl got }

-- each key of a new ephemeron has this word
empty_keys : (n i : ℕ) (v : graph_value.Value) → slice_get (map key_value (replicate n None)) i ≡ Some v → (v ≡ Nothing) × (slice_get (replicate n empty_word) i ≡ Some empty_word)
empty_keys zero i v e = cc
empty_keys (suc n) zero v e = (cc, refl)
empty_keys (suc n) (suc i) v e = empty_keys n i v e

empty_there : (n i : ℕ) → i < n → slice_get (replicate n empty_word) i ≡ Some empty_word
empty_there zero i h = absurd (omega arith)
empty_there (suc n) zero h = refl
empty_there (suc n) (suc i) h = empty_there n i (omega arith)

-- and so has its datum
empty_values : (n i : ℕ) (v : graph_value.Value) → slice_get (Nothing ∷ map key_value (replicate n None)) i ≡ Some v → (v ≡ Nothing) × (slice_get (replicate (suc n) empty_word) i ≡ Some empty_word)
empty_values n zero v e = (cc, refl)
empty_values n (suc i) v e = empty_keys n i v e

abbrev new_ephe : ℕ → Node
new_ephe keys = Ephe (replicate keys None) Nothing

-- a new ephemeron
new_ephemeron : (keys : ℕ) → 1 ≤ keys → keys ≤ 8 → IsNewBlock (EpheShape keys) (new_ephe keys) (replicate (keys + 1) empty_word)
new_ephemeron keys one_key few = record {
  shape_is = ap EpheShape (length-replicate keys None);
  packable = (one_key, few);
  long = let l = length-replicate (keys + 1) empty_word in omega arith;
  values = λ i v got. let t = empty_values keys i v got in (NothingWord, ap (λ (m : ℕ). slice_get (replicate m empty_word) i) (let o : keys + 1 ≡ suc keys = omega arith in o) ∙ t.1, λ live. subst (Stands live NothingWord) (sym t.0) tt);
  old = λ k i below. (empty_word, empty_there (keys + 1) i (let l = length-replicate (keys + 1) empty_word in omega arith), inr zero-le);
}

ephe_makes : (dst keys : ℕ) → MakesNode (NewEphe dst keys) dst (new_ephe keys)
ephe_makes dst keys = record { makes = λ s d. refl; allocates = refl; unregistering = refl; quiet = λ owed d. refl; overwrites = λ past m s d. tt; fits = λ s d mode queue. (mode, queue) }

-- it is listed
seen_last : (l : List ℕ) (a : ℕ) → IsTrue (seen_by (l ++ a ∷ []) a)
seen_last [] a = or_left (a == a) false (eq-eqb a a refl)
seen_last (b ∷ l) a = or_right (a == b) (seen_by (l ++ a ∷ []) a) (seen_last l a)

seen_more : (l : List ℕ) (a b : ℕ) → IsTrue (seen_by l b) → IsTrue (seen_by (l ++ a ∷ []) b)
seen_more [] a b h = absurd (let e : false ≡ true = h in cc)
seen_more (c ∷ l) a b h = go (b == c) h (seen_more l a b) where
  go : (t : Bool) → IsTrue (t || seen_by l b) → (IsTrue (seen_by l b) → IsTrue (seen_by (l ++ a ∷ []) b)) → IsTrue (t || seen_by (l ++ a ∷ []) b)
  go true e later = refl
  go false e later = later e

seen_only : (l : List ℕ) (a b : ℕ) → IsTrue (seen_by (l ++ a ∷ []) b) → IsTrue (seen_by l b) ⊎ (b ≡ a)
seen_only [] a b h = go (b == a) refl h where
  go : (t : Bool) → (b == a) ≡ t → IsTrue (t || false) → IsTrue false ⊎ (b ≡ a)
  go true is e = inr (eqb-true b a is)
  go false is e = absurd (let f : false ≡ true = e in cc)
seen_only (c ∷ l) a b h = go (b == c) h (seen_only l a b) where
  go : (t : Bool) → IsTrue (t || seen_by (l ++ a ∷ []) b) → (IsTrue (seen_by (l ++ a ∷ []) b) → IsTrue (seen_by l b) ⊎ (b ≡ a)) → IsTrue (t || seen_by l b) ⊎ (b ≡ a)
  go true e later = inl refl
  go false e later = later e

lists_one : (keys a : ℕ) (items : List ℕ) → ListsNew (EpheShape keys) a items (items ++ a ∷ [])
lists_one keys a items = record {
  all = λ b h. seen_more items a b h;
  only = λ b h. ⊎_elim (λ (t : IsTrue (seen_by items b)). inl t) (λ (t : b ≡ a). inr (t, keys, refl)) (seen_only items a b h);
  new = λ _ _. seen_last items a;
  same = λ i b got. ⊎_elim (λ (h : slice_get items i ≡ Some b). inl h) (λ (h : (i ≡ length items) × (a ≡ b)). inr (sym h.1)) (got_end items a b i got);
}

-- what the two stores owe
abbrev plain_may : (k : Config) (x : DomainView) (a new : ℕ) (changes : List Change) (dst tag n : ℕ) → MajorMay k x a new changes x.own.number dst tag n
    → MakesMay k x a new changes (AllocMaj dst tag n) dst (PlainShape n tag) (new_plain tag n) (replicate n zero_word) x.own.ephemerons
plain_may k x a new changes dst tag n may = record {
  pool = may.pool;
  class = may.class;
  slot = may.slot;
  block = new_block n tag may.some_field may.few_fields may.tag_fits;
  command = major_makes dst tag n;
  lists = lists_none n tag a x.own.ephemerons.items;
  acts = may.acts;
  hunt = may.hunt;
  word = may.word;
  head = may.head;
  serial = may.serial;
  goes = may.goes;
  written = may.written;
}

abbrev ephemeron_may : (k : Config) (x : DomainView) (a new : ℕ) (changes : List Change) (dst keys : ℕ) → EpheMay k x a new changes x.own.number dst keys
    → MakesMay k x a new changes (NewEphe dst keys) dst (EpheShape keys) (new_ephe keys) (replicate (keys + 1) empty_word) (with_ephemeron a x.own.ephemerons)
ephemeron_may k x a new changes dst keys may = record {
  pool = may.pool;
  class = may.class;
  slot = may.slot;
  block = new_ephemeron keys may.some_key may.few_keys;
  command = ephe_makes dst keys;
  lists = lists_one keys a x.own.ephemerons.items;
  acts = may.acts;
  hunt = may.hunt;
  word = may.word;
  head = may.head;
  serial = may.serial;
  goes = may.goes;
  written = may.written;
}

majors : (k : Config) (slots id word : ℕ) (hist : List Entry) (x : DomainView) (a new : ℕ) (changes : List Change) (dst tag n : ℕ) → word ≡ before_heap k + a → MajorMay k x a new changes x.own.number dst tag n
    → Allows (Rule k) slots id (one k hist x, []) word (λ _. new) (λ _. Tells (λ y _ z. MajorTold k (CommandOf x.own.number (AllocMaj dst tag n) false) changes y z) (one k hist x, []) new)
majors k slots id word hist x a new changes dst tag n place may s r _ at _ =
    let m = plain_may k x a new changes dst tag n may in
    let y : DomainView = after k s r id hist x at a new changes (AllocMaj dst tag n) dst (PlainShape n tag) (new_plain tag n) (replicate n zero_word) x.own.ephemerons m in (
      one k hist y,
      keeps,
      tt,
      subst (λ (w : ℕ). Rule k record { words = set s.words w new; homes = s.homes; views = set s.views id (one k hist y) }) (sym (place ∙ ap (λ (w : ℕ). before_heap k + w) may.word))
          (makes_rule k s r id hist x at a new changes (AllocMaj dst tag n) dst (PlainShape n tag) (new_plain tag n) (replicate n zero_word) x.own.ephemerons m),
      (
        record {
          answers = makes_answers k s r id hist x at a new changes (AllocMaj dst tag n) dst (PlainShape n tag) (new_plain tag n) (replicate n zero_word) x.own.ephemerons m;
          view = λ i. record { own = record (sym (changed_only NothingWord changes x.own) i) { serial = x.own.serial + 1 }; seen = y.seen };
          holds = makes_holds k s r id hist x at a new changes (AllocMaj dst tag n) dst (PlainShape n tag) (new_plain tag n) (replicate n zero_word) x.own.ephemerons m;
        },
        refl,
      ),
    )

pub major_may : (k : Config) (word : ℕ) (x : DomainView) (a new : ℕ) (e : Entry) (changes : List Change) → word ≡ before_heap k + a → MajorEntry k x a new changes e
    → MayStore k x word new (λ y _ z. MajorTold k e changes y z)
major_may k word x a new (CommandOf j (AllocMaj dst tag n) false) changes place may fits slots id h =
    subst (λ (i : ℕ). Allows (Rule k) slots id (one k h x, []) word (λ _. new) (λ _. Tells (λ y _ z. MajorTold k (CommandOf i (AllocMaj dst tag n) false) changes y z) (one k h x, []) new)) (sym may.own)
    (majors k slots id word h x a new changes dst tag n place (subst (λ (i : ℕ). MajorMay k x a new changes i dst tag n) may.own may))
major_may k word x a new _ changes place may fits slots id h = absurd may

pub major_fits : (k : Config) (x : DomainView) (a new : ℕ) (changes : List Change) (e : Entry) → MajorEntry k x a new changes e → FitChanges changes
major_fits k x a new changes (CommandOf j (AllocMaj dst tag n) false) may = may.fits
major_fits k x a new changes _ may = absurd may

pub major_serial : (k : Config) (x : DomainView) (a new : ℕ) (changes : List Change) (e : Entry) → MajorEntry k x a new changes e → x.own.serial + 1 < 2 ^ 32
major_serial k x a new changes (CommandOf j (AllocMaj dst tag n) false) may = may.serial
major_serial k x a new changes _ may = absurd may

ephes : (k : Config) (slots id word : ℕ) (hist : List Entry) (x : DomainView) (a new : ℕ) (changes : List Change) (dst keys : ℕ) → word ≡ before_heap k + a → EpheMay k x a new changes x.own.number dst keys
    → Allows (Rule k) slots id (one k hist x, []) word (λ _. new) (λ _. Tells (λ y _ z. EpheTold k (CommandOf x.own.number (NewEphe dst keys) false) a changes y z) (one k hist x, []) new)
ephes k slots id word hist x a new changes dst keys place may s r _ at _ =
    let m = ephemeron_may k x a new changes dst keys may in
    let y : DomainView = after k s r id hist x at a new changes (NewEphe dst keys) dst (EpheShape keys) (new_ephe keys) (replicate (keys + 1) empty_word) (with_ephemeron a x.own.ephemerons) m in (
      one k hist y,
      keeps,
      tt,
      subst (λ (w : ℕ). Rule k record { words = set s.words w new; homes = s.homes; views = set s.views id (one k hist y) }) (sym (place ∙ ap (λ (w : ℕ). before_heap k + w) may.word))
          (makes_rule k s r id hist x at a new changes (NewEphe dst keys) dst (EpheShape keys) (new_ephe keys) (replicate (keys + 1) empty_word) (with_ephemeron a x.own.ephemerons) m),
      (
        record {
          answers = makes_answers k s r id hist x at a new changes (NewEphe dst keys) dst (EpheShape keys) (new_ephe keys) (replicate (keys + 1) empty_word) (with_ephemeron a x.own.ephemerons) m;
          view = λ i. record { own = record (sym (changed_only NothingWord changes x.own) i) { serial = x.own.serial + 1; ephemerons = with_ephemeron a x.own.ephemerons }; seen = y.seen };
          holds = makes_holds k s r id hist x at a new changes (NewEphe dst keys) dst (EpheShape keys) (new_ephe keys) (replicate (keys + 1) empty_word) (with_ephemeron a x.own.ephemerons) m;
        },
        refl,
      ),
    )

pub ephe_may : (k : Config) (word : ℕ) (x : DomainView) (a new : ℕ) (e : Entry) (changes : List Change) → word ≡ before_heap k + a → EpheEntry k x a new changes e
    → MayStore k x word new (λ y _ z. EpheTold k e a changes y z)
ephe_may k word x a new (CommandOf j (NewEphe dst keys) false) changes place may fits slots id h =
    subst (λ (i : ℕ). Allows (Rule k) slots id (one k h x, []) word (λ _. new) (λ _. Tells (λ y _ z. EpheTold k (CommandOf i (NewEphe dst keys) false) a changes y z) (one k h x, []) new)) (sym may.own)
    (ephes k slots id word h x a new changes dst keys place (subst (λ (i : ℕ). EpheMay k x a new changes i dst keys) may.own may))
ephe_may k word x a new _ changes place may fits slots id h = absurd may

pub ephe_can : (k : Config) (x : DomainView) (a new : ℕ) (changes : List Change) (e : Entry) → EpheEntry k x a new changes e → CanList changes x.own
ephe_can k x a new changes (CommandOf j (NewEphe dst keys) false) may = (may.fits, may.serial, may.room)
ephe_can k x a new changes _ may = absurd may
