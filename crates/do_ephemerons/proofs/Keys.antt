-- A look at an ephemeron: its keys and its datum.
use Rattle.std.proofs.Common.{◌≡◌, ℕ, ◌+◌, ◌<◌, ◌≤◌, ◌⊎◌, Bool, true, false, MatchBool, cond, ◌∷◌, ◌==◌, eq-eqb, IsTrue, inr, ⊎_elim, sym, refl, ap, subst, ◌∙◌}
use Rattle.heap_words.specs.declared.colours.Colours.{Colours}
use Rattle.heap_words.specs.declared.value.Value.{Value}
use Rattle.heap_words.specs.declared.value.Value.TheVariants.{Int, Ref, Nothing}
use Rattle.heap_words.specs.ColourWords.{IsPermutation}
use Rattle.heap_words.specs.Values.{IsPackable, value_word}
use Rattle.heap_words.proofs.WordLemmas.{value_word-injective}
use Rattle.model_core.proofs.Reach.ReachLemmas.{or_left}
use Rattle.heap_rule.specs.Cycles.{seen_by}
use Rattle.heap_rule.specs.declared.config.Config.{Config}
use Rattle.heap_rule.specs.declared.phase.Kind.TheVariants.{Rounds}
use Rattle.heap_rule.specs.declared.phase.Stage.{Stage}
use Rattle.heap_rule.specs.declared.view.DomainView.{DomainView}
use Rattle.heap_rule.specs.declared.view.Scan.{Scan}
use Rattle.heap_rule.specs.declared.view.Scan.TheVariants.{Idle, Keys, Key, Datum}
use Rattle.heap_rule.specs.Layout.{heap_words}
use Rattle.heap_rule.specs.Token.{IsAddress}
use Rattle.step_marks.specs.Marking.Looks.{with_share}
use Rattle.step_marks.specs.Marking.Marking.{IsMarked, IsUnmarked, OfDatum, seen_through}
use Rattle.step_ephemerons.specs.Looks.Rounding.{DatumTold, EphemeronTold, IsMarkedEphemeron, place_seen, KeyLookMay, KeyLookTold, KeyMay, KeyTold, datum_on, key_on}
use Rattle.gc_mark.specs.Shares.{Darkens, Followed, Scans, darkened, owes_after, scanning}
use Rattle.do_fields.proofs.OfDarkening.Exchanges.{not_both, one_meaning}
use Rattle.do_ephemerons.specs.Looking.{Darkening, Through, after_key, after_keys, ended_at, key_past}

-- the domain with another scan
abbrev pub with_scan : DomainView → Scan → DomainView
with_scan x scan = with_share x (record x.seen.share { scan = scan })

-- the value that was read is the one that was told
pub one_value : (word : ℕ) (u v : Value) → IsPackable u → word ≡ value_word u → IsPackable v × (value_word v ≡ word) → u ≡ v
one_value word u v p e r = value_word-injective u v p r.0 (sym e ∙ sym r.1)

-- the next key
module _ (k : Config) (x y : DomainView) (at word : ℕ) (v : Value) (may : KeyMay x at) (t : KeyTold k x word y) (r : IsPackable v × (value_word v ≡ word)) where
  same : t.value ≡ v
  same = one_value word t.value v t.packable t.word r

  -- it refers to a block, whose head is to be looked at
  module _ (a : ℕ) (is : v ≡ Ref a) where
    refers : t.value ≡ Ref a
    refers = same ∙ is

    pub key_view : y ≡ with_scan x (Key may.block may.done may.count a)
    key_view = t.view ∙ ap (with_scan x) (λ i. key_on (may.scan i) (refers i))

    pub key_inside : IsAddress k a
    key_inside = t.inside a refers

    pub look_may : (colours : Colours) → Darkening colours x → KeyLookMay y a
    look_may colours d = subst (λ (u : DomainView). KeyLookMay u a) (sym key_view) record {
      stage = d.stage;
      block = may.block;
      done = may.done;
      count = may.count;
      scan = refl;
      colours = colours;
      known = d.known;
    }

    past : key_past x.seen.share.scan ≡ Keys may.block (may.done + 1) may.count
    past = ap key_past may.scan

    -- and it is marked or it isn't
    pub key_looked : (z : DomainView) (head : ℕ) (colours : Colours) (won : Bool) → IsPermutation colours → Darkening colours x → KeyLookTold y head z → MatchBool won (IsMarked colours head) (IsMarked colours head → ⊥) → z ≡ with_share x (after_key won x.seen.share)
    key_looked z head colours won p d told found = go won (subst (λ (u : DomainView). KeyLookTold u head z) key_view told) found
      where
        go : (won : Bool) → KeyLookTold (with_scan x (Key may.block may.done may.count a)) head z → MatchBool won (IsMarked colours head) (IsMarked colours head → ⊥) → z ≡ with_share x (after_key won x.seen.share)
        go true l m = let c : l.colours ≡ colours = one_meaning x.seen.share.colours colours l.colours d.known l.known in ⊎_elim
            (λ (q : IsMarked l.colours head × (z ≡ with_scan x (Keys may.block (may.done + 1) may.count))). q.1 ∙ ap (with_scan x) (sym past))
            (λ (q : IsUnmarked l.colours head × (z ≡ with_share x (record x.seen.share { scan = Idle; places_seen = may.block ∷ x.seen.share.places_seen }))). absurd (not_both colours head p (subst (λ (c : Colours). IsUnmarked c head) c q.0) m))
            l.told
        go false l m = let c : l.colours ≡ colours = one_meaning x.seen.share.colours colours l.colours d.known l.known in ⊎_elim
            (λ (q : IsMarked l.colours head × (z ≡ with_scan x (Keys may.block (may.done + 1) may.count))). absurd (m (subst (λ (c : Colours). IsMarked c head) c q.0)))
            (λ (q : IsUnmarked l.colours head × (z ≡ with_share x (record x.seen.share { scan = Idle; places_seen = may.block ∷ x.seen.share.places_seen }))).
            q.1 ∙ ap (λ l. with_share x (record x.seen.share { scan = Idle; places_seen = l })) (sym (ap (λ s. seen_through s x.seen.share.places_seen) may.scan)))
            l.told

  -- it is empty
  pub key_passed : ((a : ℕ) → v ≡ Ref a → ⊥) → y ≡ with_share x (after_key true x.seen.share)
  key_passed other = t.view ∙ ap (with_scan x) (ap (key_on x.seen.share.scan) same ∙ go v other)
    where
      go : (v : Value) → ((a : ℕ) → v ≡ Ref a → ⊥) → key_on x.seen.share.scan v ≡ key_past x.seen.share.scan
      go (Ref a) other = absurd (other a refl)
      go (Int z) other = (λ i. key_on (may.scan i) (Int z)) ∙ sym (ap key_past may.scan)
      go Nothing other = (λ i. key_on (may.scan i) Nothing) ∙ sym (ap key_past may.scan)

-- after some keys
module _ (x y : DomainView) (at keys i : ℕ) (view : y ≡ with_scan x (Keys at i keys)) where
  pub keys_may : (colours : Colours) → Darkening colours x → i < keys → Darkening colours y × KeyMay y (at + 3 + i)
  keys_may colours d more = subst (λ (u : DomainView). Darkening colours u × KeyMay u (at + 3 + i)) (sym view) (record { stage = d.stage; known = d.known }, record { stage = d.stage; block = at; done = i; count = keys; scan = refl; more = more; word = refl })

  -- one more is done
  pub keys_on : (z : DomainView) → z ≡ with_share y (after_key true y.seen.share) → z ≡ with_scan x (Keys at (i + 1) keys)
  keys_on z e = e ∙ ap (λ (u : DomainView). with_share u (after_key true u.seen.share)) view

  -- or one isn't marked
  pub keys_ended : (z : DomainView) → z ≡ with_share y (after_key false y.seen.share) → z ≡ with_share x (after_keys false at keys x.seen.share)
  keys_ended z e = e ∙ ap (λ (u : DomainView). with_share u (after_key false u.seen.share)) view

-- the datum of an ephemeron all of whose keys are done
module _ (k : Config) (x y : DomainView) (at count word : ℕ) (v : Value) (scan : x.seen.share.scan ≡ Keys at count count) (t : DatumTold k x word y) (r : IsPackable v × (value_word v ≡ word)) where
  one : t.value ≡ v
  one = one_value word t.value v t.packable t.word r

  -- it refers to a block, which is to be marked
  module _ (a : ℕ) (is : v ≡ Ref a) where
    datum_is : t.value ≡ Ref a
    datum_is = one ∙ is

    datum_view : y ≡ with_scan x (Datum at a)
    datum_view = t.view ∙ (λ i. with_share x (datum_on (record x.seen.share { scan = scan i }) (datum_is i)))

    pub datum_inside : IsAddress k a
    datum_inside = t.inside a datum_is

    pub datum_darkens : (colours : Colours) → Darkening colours x → Darkens colours a OfDatum y
    datum_darkens colours d = subst (Darkens colours a OfDatum) (sym datum_view) record { kind = Rounds; stage = d.stage; darkening = tt; known = d.known; reason_is = (at, d.stage, refl) }

    pub datum_darkened : (z : DomainView) (won : Bool) (colours : Colours) → Darkening colours x → z ≡ darkened OfDatum a won y → Through at won x z
    datum_darkened z won colours d e = subst (Through at won x) (sym (e ∙ ap (darkened OfDatum a won) datum_view ∙ ap (λ (o : Bool). with_share x (record (ended_at at x.seen.share) { found_head = (darkened OfDatum a won (with_scan x (Datum at a))).seen.share.found_head; marked = a ∷ x.seen.share.marked; darkenings = x.seen.share.darkenings + cond won 1 0; owes = o; account = (darkened OfDatum a won (with_scan x (Datum at a))).seen.share.account })) (ap (λ (s : Stage). owes_after s won x.seen.share.owes) d.stage))) record { view = refl }

  -- it refers to none
  pub datum_passed : ((a : ℕ) → v ≡ Ref a → ⊥) → Through at false x y
  datum_passed other = subst (Through at false x) (sym (t.view ∙ go t.value (λ a e. other a (sym one ∙ e)))) record { view = refl }
    where
      go : (v : Value) → ((a : ℕ) → v ≡ Ref a → ⊥) → with_share x (datum_on x.seen.share v) ≡ with_share x (ended_at at x.seen.share)
      go (Ref a) other = absurd (other a refl)
      go (Int z) other = ap (λ s. with_share x (record x.seen.share { scan = Idle; places_seen = seen_through s x.seen.share.places_seen })) scan
      go Nothing other = ap (λ s. with_share x (record x.seen.share { scan = Idle; places_seen = seen_through s x.seen.share.places_seen })) scan

-- the head of a listed ephemeron
module _ (k : Config) (x y : DomainView) (at word : ℕ) (colours : Colours) (d : Darkening colours x) (t : EphemeronTold k at x word y) where
  abbrev Unmarked : Colours → Type 0
  Unmarked c = IsUnmarked c word × (y ≡ with_share x (place_seen at x.seen.share))

  abbrev Begins : Colours → Type 0
  Begins c = (keys : ℕ) × IsMarkedEphemeron c word keys × (at + keys + 2 ≤ heap_words k) × (y ≡ with_scan x (Keys at 0 keys))

  told : Unmarked colours ⊎ Begins colours
  told = subst (λ (c : Colours). Unmarked c ⊎ Begins c) (one_meaning x.seen.share.colours colours t.colours d.known t.known) t.told

  -- it isn't marked
  pub head_passed : x.seen.share.scan ≡ Idle → ((keys : ℕ) → IsMarkedEphemeron colours word keys → ⊥) → Through at false x y
  head_passed idle other = ⊎_elim
      (λ (u : Unmarked colours). subst (Through at false x) (sym (u.1 ∙ ap (λ (s : Scan). with_share x (record (ended_at at x.seen.share) { scan = s })) idle)) record { view = refl })
      (λ (b : Begins colours). absurd (other b.0 b.1))
      told

-- the domain has marked the block of a datum, which it scans next
module _ (x y : DomainView) (at : ℕ) (t : Through at true x y) where
  pub datum_scans : (colours : Colours) → Darkening colours x → Scans colours y
  datum_scans colours d = record { stage = inr (ap (λ (u : DomainView). u.seen.stage) t.view ∙ d.stage); known = ap (λ (u : DomainView). u.seen.share.colours) t.view ∙ d.known; idle = ap (λ (u : DomainView). u.seen.share.scan) t.view }

  pub datum_owes : y.seen.share.owes ≡ true
  datum_owes = ap (λ (u : DomainView). u.seen.share.owes) t.view

  pub datum_scanned : (z : DomainView) → Followed true y z → Through at true x z
  datum_scanned z f = record { view = f ∙ ap (λ (u : DomainView). with_share u (scanning u.seen.share z.seen.share u.seen.share.scan true)) t.view }

-- and knows to be marked
pub datum_marked : (x y : DomainView) (a : ℕ) (won : Bool) → y ≡ darkened OfDatum a won x → IsTrue (seen_by y.seen.share.marked a)
datum_marked x y a won e = subst (λ (u : DomainView). IsTrue (seen_by u.seen.share.marked a)) (sym e) (or_left (a == a) (seen_by x.seen.share.marked a) (eq-eqb a a refl))
