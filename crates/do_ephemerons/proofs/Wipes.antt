-- The cleaning of an ephemeron: its keys and its datum.
use Rattle.std.proofs.Common.{◌≡◌, ◌≢◌, ℕ, ◌+◌, ◌<◌, ◌≤◌, ◌⊎◌, ◌||◌, Bool, true, false, cond, MatchBool, List, [], ◌∷◌, ◌++◌, Option, Some, None, ⊎_elim, sym, refl, ap, subst, ◌∙◌}
use Rattle.std.proofs.lemmas.Option.{same_Some}
use Rattle.heap_words.specs.declared.colours.Colours.{Colours}
use Rattle.heap_words.specs.declared.value.Value.{Value}
use Rattle.heap_words.specs.declared.value.Value.TheVariants.{Int, Ref, Nothing}
use Rattle.heap_words.specs.ColourWords.{IsPermutation}
use Rattle.heap_words.specs.Values.{IsPackable, value_word}
use Rattle.model_core.specs.declared.entry.Entry.{Entry}
use Rattle.model_core.specs.declared.entry.Entry.TheVariants.{Wipe}
use Rattle.model_core.specs.Fronts.{IsFrontOf}
use Rattle.model_core.proofs.Histories.FrontLemmas.{front_push}
use Rattle.model_core.specs.Controls.Led.{IsLed}
use Rattle.model_core.proofs.OfControls.Led.{led_push, led_whole}
use Rattle.heap_rule.specs.declared.config.Config.{Config}
use Rattle.heap_rule.specs.declared.view.Cleaning.{Cleaning}
use Rattle.heap_rule.specs.declared.view.DomainView.{DomainView}
use Rattle.heap_rule.specs.declared.view.NextKey.TheVariants.{Unknown, Refers, Dead}
use Rattle.heap_rule.specs.declared.view.Scan.TheVariants.{Idle}
use Rattle.heap_rule.specs.Layout.{heap_words}
use Rattle.heap_rule.specs.Standing.{with_front}
use Rattle.heap_rule.specs.Token.{IsAddress}
use Rattle.heap_rule.proofs.Closes.{front_same}
use Rattle.step_marks.specs.Marking.Looks.{with_share}
use Rattle.step_marks.specs.Marking.Marking.{IsMarked, IsUnmarked}
use Rattle.step_ephemerons.specs.Looks.Rounding.{IsMarkedEphemeron, place_seen}
use Rattle.step_ephemerons.specs.Looks.Emptying.{CleanEndMay, CleanKeyMay, CleanKeyTold, CleanLookMay, CleanLookTold, CleanTold, cleaning_from, cleaning_on, key_passed, key_read, CleanLabelMay, CleanLabelTold, labelled}
use Rattle.step_ephemerons.specs.Wipes.Wiping.{WipeDataMay, WipeDataTold, WipeKeyMay, WipeKeyTold, key_wiped, wiped_through}
use Rattle.do_fields.proofs.OfDarkening.Exchanges.{not_both, one_meaning}
use Rattle.do_ephemerons.specs.Emptied.{Cleaned, KeyCleaned, KeysCleaned}
use Rattle.do_ephemerons.proofs.Keys.{one_value}

-- the domain cleans an ephemeron
abbrev pub with_cleaning : DomainView → Cleaning → DomainView
with_cleaning x w = with_share x (cleaning_on w x.seen.share)

-- it cleans one ephemeron
one_cleaning : (o : Option Cleaning) (v w : Cleaning) → o ≡ Some v → o ≡ Some w → w ≡ v
one_cleaning o v w a b = same_Some w v (sym b ∙ a)

-- the next key
module _ (k : Config) (x y : DomainView) (at word : ℕ) (v : Value) (may : CleanKeyMay x at) (t : CleanKeyTold k x word y) (r : IsPackable v × (value_word v ≡ word)) where
  abbrev w : Cleaning
  w = may.cleaning

  same : t.value ≡ v
  same = one_value word t.value v t.packable t.word r

  w_is : t.cleaning ≡ w
  w_is = one_cleaning x.seen.share.cleaning w t.cleaning may.cleans t.cleans

  -- it is empty
  pub key_stays : ((a : ℕ) → v ≡ Ref a → ⊥) → KeyCleaned false x y
  key_stays other = record { cleaning = t.cleaning; cleans = t.cleans; view = t.view ∙ ap (with_cleaning x) (ap (λ (u : Value). key_read u t.cleaning) same ∙ go v other) }
    where
      go : (u : Value) → ((a : ℕ) → u ≡ Ref a → ⊥) → key_read u t.cleaning ≡ key_passed t.cleaning
      go (Ref a) other = absurd (other a refl)
      go (Int z) other = refl
      go Nothing other = refl

  -- it refers to a block, whose head is to be looked at
  module _ (a : ℕ) (is : v ≡ Ref a) where
    refers : t.value ≡ Ref a
    refers = same ∙ is

    refers_view : y ≡ with_cleaning x (record w { next = Refers a })
    refers_view = t.view ∙ (λ i. with_cleaning x (key_read (refers i) (w_is i)))

    pub clean_inside : IsAddress k a
    clean_inside = t.inside a refers

    pub clean_look_may : (colours : Colours) → x.seen.share.colours ≡ Some colours → CleanLookMay y a
    clean_look_may colours known = subst (λ (u : DomainView). CleanLookMay u a) (sym refers_view) record { cleaning = record w { next = Refers a }; cleans = refl; refers = refl; colours = colours; known = known }

    module _ (z : DomainView) (head : ℕ) (colours : Colours) (known : x.seen.share.colours ≡ Some colours) (told : CleanLookTold y head z) where
      abbrev Marked : Colours → Type 0
      Marked c = IsMarked c head × (z ≡ with_cleaning x (key_passed w))

      abbrev Unmarked : Colours → Type 0
      Unmarked c = IsUnmarked c head × (z ≡ with_cleaning x (record w { next = Dead }))

      looked : Marked colours ⊎ Unmarked colours
      looked = go (subst (λ (u : DomainView). CleanLookTold u head z) refers_view told)
        where
          go : CleanLookTold (with_cleaning x (record w { next = Refers a })) head z → Marked colours ⊎ Unmarked colours
          go l = subst (λ (n : Cleaning). (IsMarked colours head × (z ≡ with_cleaning x (key_passed n))) ⊎ (IsUnmarked colours head × (z ≡ with_cleaning x (record n { next = Dead }))))
              (one_cleaning (Some (record w { next = Refers a })) (record w { next = Refers a }) l.cleaning refl l.cleans)
              (subst (λ (c : Colours). (IsMarked c head × (z ≡ with_cleaning x (key_passed l.cleaning))) ⊎ (IsUnmarked c head × (z ≡ with_cleaning x (record l.cleaning { next = Dead }))))
              (one_meaning x.seen.share.colours colours l.colours known l.known) l.told)

      -- the block is marked
      pub marked_stays : IsPermutation colours → IsMarked colours head → KeyCleaned false x z
      marked_stays p m = ⊎_elim
          (λ (q : Marked colours). record { cleaning = w; cleans = may.cleans; view = q.1 })
          (λ (q : Unmarked colours). absurd (not_both colours head p q.0 m))
          looked

      -- or it isn't, and the key is emptied
      module _ (not_marked : IsMarked colours head → ⊥) where
        dead_view : z ≡ with_cleaning x (record w { next = Dead })
        dead_view = ⊎_elim (λ (q : Marked colours). absurd (not_marked q.0)) (λ (q : Unmarked colours). q.1) looked

        pub wipe_may : WipeKeyMay z at
        wipe_may = subst (λ (u : DomainView). WipeKeyMay u at) (sym dead_view) record { cleaning = record w { next = Dead }; cleans = refl; dead = refl; word = may.word }

        pub dead_emptied : (u : DomainView) → WipeKeyTold z 0 u → KeyCleaned true x u
        dead_emptied u wiped = go (subst (λ (q : DomainView). WipeKeyTold q 0 u) dead_view wiped)
          where
            go : WipeKeyTold (with_cleaning x (record w { next = Dead })) 0 u → KeyCleaned true x u
            go s = record { cleaning = w; cleans = may.cleans; view = s.view ∙ ap (λ (n : Cleaning). with_cleaning x (key_wiped n)) (one_cleaning (Some (record w { next = Dead })) (record w { next = Dead }) s.cleaning refl s.cleans) }

-- the cleaning of an ephemeron begins
pub keys_begin : (x : DomainView) (at keys : ℕ) → x.seen.share.cleaning ≡ Some (cleaning_from at keys) → KeysCleaned at keys 0 false x x
keys_begin x at keys begins = record { emptied = []; some = refl; view = ap (λ (o : Option Cleaning). with_share x (record x.seen.share { cleaning = o })) begins }

-- some keys are done
module _ (x y : DomainView) (at keys i : ℕ) (before : Bool) (t : KeysCleaned at keys i before x y) where
  abbrev so_far : Cleaning
  so_far = record { block = at; label = None; done = i; count = keys; emptied = t.emptied; next = Unknown }

  pub next_may : i < keys → CleanKeyMay y (at + 3 + i)
  next_may more = record { cleaning = so_far; cleans = ap (λ (u : DomainView). u.seen.share.cleaning) t.view; unknown = refl; more = more; word = refl }

  pub next_known : (colours : Colours) → x.seen.share.colours ≡ Some colours → y.seen.share.colours ≡ Some colours
  next_known colours known = ap (λ (u : DomainView). u.seen.share.colours) t.view ∙ known

  some_left : (l : List ℕ) (n : ℕ) → l ++ n ∷ [] ≢ []
  some_left [] n e = cc
  some_left (m ∷ l) n e = cc

  -- and one more
  pub next_cleaned : (won : Bool) (z : DomainView) → KeyCleaned won y z → KeysCleaned at keys (i + 1) (before || won) x z
  next_cleaned won z n = record { emptied = cond won (t.emptied ++ i ∷ []) t.emptied; some = some_on before won t.some; view = whole }
    where
      some_on : (b c : Bool) → MatchBool b (t.emptied ≢ []) (t.emptied ≡ []) → MatchBool (b || c) (cond c (t.emptied ++ i ∷ []) t.emptied ≢ []) (cond c (t.emptied ++ i ∷ []) t.emptied ≡ [])
      some_on true true s = some_left t.emptied i
      some_on true false s = s
      some_on false true s = some_left t.emptied i
      some_on false false s = s

      done_on : (c : Bool) → cond c (key_wiped so_far) (key_passed so_far) ≡ record so_far { done = i + 1; emptied = cond c (t.emptied ++ i ∷ []) t.emptied }
      done_on true = refl
      done_on false = refl

      is : n.cleaning ≡ so_far
      is = one_cleaning y.seen.share.cleaning so_far n.cleaning (ap (λ (u : DomainView). u.seen.share.cleaning) t.view) n.cleans

      whole : z ≡ with_cleaning x (record so_far { done = i + 1; emptied = cond won (t.emptied ++ i ∷ []) t.emptied })
      whole = n.view ∙ ap (λ (m : Cleaning). with_cleaning y (cond won (key_wiped m) (key_passed m))) is ∙ ap (with_cleaning y) (done_on won)
          ∙ ap (λ (u : DomainView). with_cleaning u (record so_far { done = i + 1; emptied = cond won (t.emptied ++ i ∷ []) t.emptied })) t.view

-- the head of a listed ephemeron
module _ (k : Config) (x y : DomainView) (at word : ℕ) (colours : Colours) (known : x.seen.share.colours ≡ Some colours) (t : CleanTold k at x word y) where
  abbrev Passed : Colours → Type 0
  Passed c = IsUnmarked c word × (y ≡ with_share x (place_seen at x.seen.share))

  abbrev Begins : Colours → Type 0
  Begins c = (keys : ℕ) × IsMarkedEphemeron c word keys × (at + keys + 2 ≤ heap_words k) × (y ≡ with_cleaning x (cleaning_from at keys))

  begins : Passed colours ⊎ Begins colours
  begins = subst (λ (c : Colours). Passed c ⊎ Begins c) (one_meaning x.seen.share.colours colours t.colours known t.known) t.told

  -- it isn't marked
  pub not_cleaned : ((keys : ℕ) → IsMarkedEphemeron colours word keys → ⊥) → Cleaned at x y
  not_cleaned other = ⊎_elim
      (λ (u : Passed colours). subst (Cleaned at x) (sym u.1) record { seen = front_same x (with_share x (place_seen at x.seen.share)) refl; led = led_whole x.own.number x.seen.front x.seen.front refl; view = refl })
      (λ (b : Begins colours). absurd (other b.0 b.1))
      begins

  -- it is
  pub cleaning_begun : IsPermutation colours → (keys : ℕ) → IsMarkedEphemeron colours word keys → (w : Cleaning) × (y ≡ with_cleaning x w)
  cleaning_begun p keys m = ⊎_elim
      (λ (u : Passed colours). absurd (not_both colours word p u.0 m.block))
      (λ (b : Begins colours). (cleaning_from at b.0, b.3))
      begins

-- the keys of an ephemeron are done, of which some were emptied
module _ (y z : DomainView) (at keys : ℕ) (t : KeysCleaned at keys keys true y z) where
  abbrev all_done : Cleaning
  all_done = record { block = at; label = None; done = keys; count = keys; emptied = t.emptied; next = Unknown }

  pub label_may : CleanLabelMay z (at + 1)
  label_may = record { cleaning = all_done; cleans = ap (λ (u : DomainView). u.seen.share.cleaning) t.view; word = refl }

  -- and its label was loaded
  module _ (v : DomainView) (found : ℕ) (l : CleanLabelTold z found v) where
    abbrev named : Cleaning
    named = labelled l.label all_done

    same_cleaning : l.cleaning ≡ all_done
    same_cleaning = one_cleaning z.seen.share.cleaning all_done l.cleaning (ap (λ (u : DomainView). u.seen.share.cleaning) t.view) l.cleans

    named_view : v ≡ with_cleaning y named
    named_view = l.view ∙ (λ i. with_cleaning (t.view i) (labelled l.label (same_cleaning i)))

    pub wipe_data_may : WipeDataMay v (at + 2)
    wipe_data_may = record { cleaning = named; cleans = ap (λ (u : DomainView). u.seen.share.cleaning) named_view; all = refl; some = t.some; label = l.label; labelled = refl; word = refl }

    pub datum_wiped : (k : Config) (x u : DomainView) → x.seen.share.scan ≡ Idle → x.seen.share.cleaning ≡ None → (w : Cleaning) × (y ≡ with_cleaning x w) → WipeDataTold k v 0 u → Cleaned at x u
    datum_wiped k x u idle none begun told = go (subst (λ (q : DomainView). WipeDataTold k q 0 u) (named_view ∙ ap (λ (q : DomainView). with_cleaning q named) begun.1) told) where
      go : WipeDataTold k (with_cleaning x named) 0 u → Cleaned at x u
      go s = record {
        seen = subst (λ (h : List Entry). IsFrontOf x.own.number h x.seen.front) (sym s.front) (front_push x.own.number s.before x.seen.front (Wipe s.label s.cleaning.emptied) refl s.seen);
        led = subst (λ (h : List Entry). IsLed x.own.number h x.seen.front) (sym s.front) (led_push x.own.number s.before x.seen.front (Wipe s.label s.cleaning.emptied) refl s.led);
        view = s.view ∙ ap (λ (n : Cleaning). with_front (with_share x (record (wiped_through n.block x.seen.share) { cleaning = None })) u.seen.front) (one_cleaning (Some named) named s.cleaning refl s.cleans)
            ∙ (λ i. with_front (with_share x (record x.seen.share { places_seen = at ∷ x.seen.share.places_seen; scan = sym idle i; cleaning = sym none i })) u.seen.front);
      }

-- or none was
pub clean_end_may : (y z : DomainView) (at keys : ℕ) → KeysCleaned at keys keys false y z → CleanEndMay z (at + 2)
clean_end_may y z at keys t = record { cleaning = record { block = at; label = None; done = keys; count = keys; emptied = t.emptied; next = Unknown }; cleans = ap (λ (u : DomainView). u.seen.share.cleaning) t.view; all = refl; none = t.some; word = refl }
