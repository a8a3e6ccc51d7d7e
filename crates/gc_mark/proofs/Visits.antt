-- A place of the walk, and those behind it.
use Rattle.std.proofs.Common.{◌≡◌, ◌≢◌, ℕ, ◌⊎◌, Bool, false, true≢false, ◌∷◌, Some, None, ⊎_elim, inr, inl, sym, refl, ap, subst, ◌∙◌}
use Rattle.model_core.specs.Fronts.{Shape, PlainShape, RawShape, EpheShape}
use Rattle.heap_words.specs.declared.colours.Colours.{Colours}
use Rattle.heap_words.specs.declared.head.Head.{Head}
use Rattle.heap_words.specs.declared.head.Head.TheVariants.{Free, Plain, Ephe}
use Rattle.heap_words.specs.ColourWords.{IsPermutation}
use Rattle.heap_words.proofs.WordLemmas.{head_word-injective}
use Rattle.heap_rule.specs.declared.phase.Kind.TheVariants.{Mark, Rounds}
use Rattle.heap_rule.specs.declared.phase.Stage.TheVariants.{In}
use Rattle.heap_rule.specs.declared.view.DomainView.{DomainView}
use Rattle.heap_rule.specs.declared.view.Scan.{Scan}
use Rattle.heap_rule.specs.declared.view.Scan.TheVariants.{Idle, Reads}
use Rattle.heap_rule.specs.Places.{head_of}
use Rattle.step_marks.proofs.OfMarking.Colouring.{words_same}
use Rattle.step_marks.specs.Marking.Looks.{with_share}
use Rattle.step_marks.specs.Marking.Marking.{Anywhere, GreyTold, IsGrey, IsScanned, IsUnmarked, LiesAt, MarkTold, Next, ScannedMay, ScannedTold, Site, begun, behind, fields_in, places_seen_on, settled, walk_on}
use Rattle.do_fields.specs.Darkening.Heads.{IsScanOf}
use Rattle.gc_mark.specs.Shares.{Begun, Followed, Marks, ScannedAt, Scans, ScansBlocks, Walked, block_in, fields_to, scanning}
use Rattle.gc_mark.proofs.Fields.{scanning_kind}
use Rattle.gc_mark.proofs.Notes.{SameNotes}
use Rattle.do_fields.proofs.OfDarkening.Exchanges.{not_both, one_head, one_meaning}

-- the fields of a grey block are as many, whatever its shape is said to be
one_count : (colours : Colours) (word : ℕ) (a b : IsGrey colours word) → fields_in a.block.shape ≡ fields_in b.block.shape
one_count colours word a b = ap fields_in (words_same a.block.shape b.block.shape word a.block.head b.block.head).shape

abbrev scanned_in : Head → Bool
scanned_in (Plain size tag colour scanned) = scanned
scanned_in (Ephe keys colour scanned) = scanned
scanned_in _ = false

scanned_is : (s : Shape) (colour : ℕ) (scanned : Bool) → scanned_in (head_of None s colour scanned) ≡ scanned
scanned_is (PlainShape size tag) colour scanned = refl
scanned_is (RawShape size tag) colour scanned = refl
scanned_is (EpheShape keys) colour scanned = refl

not_free : (s : Shape) (colour : ℕ) (scanned : Bool) → head_of None s colour scanned ≡ Free → ⊥
not_free (PlainShape size tag) colour scanned e = cc
not_free (RawShape size tag) colour scanned e = cc
not_free (EpheShape keys) colour scanned e = cc

-- a grey block is neither scanned nor unmarked, nor is its head Free
pub not_passed : (colours : Colours) (word : ℕ) → IsPermutation colours → IsGrey colours word → (word ≡ 0) ⊎ (IsUnmarked colours word ⊎ IsScanned colours word) → ⊥
not_passed colours word p g o =
    let h = g.block.head in
    let s = g.block.shape in
    ⊎_elim
    (λ (e : word ≡ 0). not_free s h.colour h.scanned (head_word-injective (head_of None s h.colour h.scanned) Free h.packable tt (sym h.packs ∙ e)))
    (λ (q : IsUnmarked colours word ⊎ IsScanned colours word). ⊎_elim
    (λ (u : IsUnmarked colours word). not_both colours word p u g.block)
    (λ (d : IsScanned colours word). true≢false (sym d.scanned ∙ sym (scanned_is d.block.shape d.block.head.colour d.block.head.scanned) ∙ ap scanned_in (one_head word d.block.shape s d.block.head h) ∙ scanned_is s h.colour h.scanned ∙ g.unscanned))
    q)
    o

-- the scan of a grey block begins
begins_of : (x y : DomainView) (colours c : Colours) (at word fields new : ℕ) → IsScanOf colours word fields new → c ≡ colours → (grey : IsGrey c word) × (y ≡ with_share x (begun at grey.block.shape word x.seen.share)) → y ≡ with_share x (record x.seen.share { scan = Reads at 0 fields word })
begins_of x y colours c at word fields new s same q =
    q.1 ∙ ap (λ (n : ℕ). with_share x (record x.seen.share { scan = Reads at 0 n word })) (one_count c word q.0 (subst (λ (d : Colours). IsGrey d word) (sym same) s.grey) ∙ carried ∙ sym s.count)
  where
    carried : fields_in (subst (λ (d : Colours). IsGrey d word) (sym same) s.grey).block.shape ≡ fields_in s.grey.block.shape
    carried = refl

-- who walks through its pools scans blocks, and isn't in Rounds
pub walker_scans : (x : DomainView) (colours : Colours) → Marks colours x → Scans colours x
walker_scans x colours m = record { stage = inl m.stage; known = m.known; idle = m.idle }

pub no_round : (x : DomainView) (colours : Colours) → Marks colours x → x.seen.stage ≢ In Rounds
no_round x colours m rounds = let e : In Mark ≡ In Rounds = sym m.stage ∙ rounds in cc

-- at the next place of the walk
pub mark_begins : (x y : DomainView) (colours : Colours) (at pool class slot word fields new : ℕ) → IsPermutation colours → Marks colours x → MarkTold at pool class slot x word y → IsScanOf colours word fields new → y ≡ with_share x (record x.seen.share { scan = Reads at 0 fields word })
mark_begins x y colours at pool class slot word fields new p m t s =
    let same : t.colours ≡ colours = one_meaning x.seen.share.colours colours t.colours m.known t.known in
    ⊎_elim
    (λ (q : ((word ≡ 0) ⊎ (IsUnmarked t.colours word ⊎ IsScanned t.colours word)) × (y ≡ with_share x (record x.seen.share { places_seen = at ∷ x.seen.share.places_seen; walk = behind pool class slot }))).
    absurd (not_passed colours word p s.grey (subst (λ (c : Colours). (word ≡ 0) ⊎ (IsUnmarked c word ⊎ IsScanned c word)) same q.0)))
    (λ (q : (grey : IsGrey t.colours word) × (y ≡ with_share x (begun at grey.block.shape word x.seen.share))). begins_of x y colours t.colours at word fields new s same q)
    t.told

-- and anywhere
pub grey_begins : (x y : DomainView) (colours : Colours) (at word fields new : ℕ) → IsPermutation colours → Scans colours x → GreyTold at x word y → IsScanOf colours word fields new → y ≡ with_share x (record x.seen.share { scan = Reads at 0 fields word })
grey_begins x y colours at word fields new p m t s =
    let same : t.colours ≡ colours = one_meaning x.seen.share.colours colours t.colours m.known t.known in
    ⊎_elim
    (λ (q : IsScanned t.colours word × (y ≡ with_share x (record x.seen.share { account = settled at x.seen.share.account }))). absurd (not_passed colours word p s.grey (inr (inr (subst (λ (c : Colours). IsScanned c word) same q.0)))))
    (λ (q : (grey : IsGrey t.colours word) × (y ≡ with_share x (begun at grey.block.shape word x.seen.share))). begins_of x y colours t.colours at word fields new s same q)
    t.told

-- the block still lies where it lay when its fields are scanned
lies_still : (site : Site) (y v : DomainView) (at : ℕ) → v.seen.share.own_pool ≡ y.seen.share.own_pool → v.seen.share.walk ≡ y.seen.share.walk → LiesAt site y at → LiesAt site v at
lies_still Anywhere y v at own next l = tt
lies_still (Next pool class slot) y v at own next l = record { own = own ∙ l.own; inside = l.inside; begins = l.begins; next = next ∙ l.next }

-- its fields are scanned, and its head may be stored
module _ (y v : DomainView) (at fields new : ℕ) (won : Bool) (site : Site) (e : v ≡ with_share y (scanning y.seen.share v.seen.share (fields_to fields y.seen.share.scan) won)) where
  pub block_may : (colours : Colours) → ScansBlocks y.seen.stage → (y.seen.stage ≡ In Rounds → site ≡ Anywhere) → y.seen.share.colours ≡ Some colours → Begun colours at fields new y → LiesAt site y at → ScannedMay v at new site
  block_may colours phase anywhere known b l = let n = scanning_kind y.seen.stage phase in record {
    kind = n.0;
    stage = ap (λ (u : DomainView). u.seen.stage) e ∙ n.1;
    scanning = n.2;
    anywhere = λ (r : n.0 ≡ Rounds). anywhere (n.1 ∙ ap In r);
    size = fields;
    word = b.word;
    scan = ap (λ (u : DomainView). u.seen.share.scan) e ∙ ap (fields_to fields) b.scan;
    colours = colours;
    known = ap (λ (u : DomainView). u.seen.share.colours) e ∙ known;
    shape = b.grey.grey.block.shape;
    head = b.grey.grey.block.head;
    marks = b.grey.marks;
    lies = lies_still site y v at (ap (λ (u : DomainView). u.seen.share.own_pool) e) (ap (λ (u : DomainView). u.seen.share.walk) e) l;
  }

  pub block_done : (z : DomainView) → ScannedTold at site v new z → ScannedAt site at won y z
  block_done z told = subst (ScannedAt site at won y) (sym (told ∙ ap (λ (u : DomainView). with_share u (record u.seen.share { scan = Idle; account = settled at u.seen.share.account; places_seen = places_seen_on site at u.seen.share.places_seen; walk = walk_on site u.seen.share.walk })) e)) refl

-- the block was grey, and is scanned
module _ (x y : DomainView) (colours : Colours) (at word fields new : ℕ) (m : Scans colours x) (s : IsScanOf colours word fields new) (e : y ≡ with_share x (record x.seen.share { scan = Reads at 0 fields word })) where
  pub ready : (site : Site) → LiesAt site x at → ScansBlocks y.seen.stage × (y.seen.share.colours ≡ Some colours) × Begun colours at fields new y × LiesAt site y at
  ready site l = (
    subst ScansBlocks (sym (ap (λ (u : DomainView). u.seen.stage) e)) m.stage,
    ap (λ (u : DomainView). u.seen.share.colours) e ∙ m.known,
    record { word = word; scan = ap (λ (u : DomainView). u.seen.share.scan) e; grey = s },
    lies_still site x y at (ap (λ (u : DomainView). u.seen.share.own_pool) e) (ap (λ (u : DomainView). u.seen.share.walk) e) l,
  )

  -- what is noted is still
  pub begun_notes : SameNotes x y
  begun_notes = record { stage = ap (λ (u : DomainView). u.seen.stage) e; marked = ap (λ (u : DomainView). u.seen.share.marked) e; owes = ap (λ (u : DomainView). u.seen.share.owes) e; account = ap (λ (u : DomainView). u.seen.share.account) e }

  pub begun_block : block_in y.seen.share.scan ≡ Some at
  begun_block = ap (λ (u : DomainView). block_in u.seen.share.scan) e

  pub was_idle : block_in x.seen.share.scan ≡ None
  was_idle = ap block_in m.idle

  module _ (z : DomainView) (won : Bool) (site : Site) (d : ScannedAt site at won y z) where
    scanned_view : z ≡ with_share x (record (scanning x.seen.share z.seen.share x.seen.share.scan won) { places_seen = places_seen_on site at x.seen.share.places_seen; walk = walk_on site x.seen.share.walk })
    scanned_view = d ∙ ap (λ (u : DomainView). with_share u (record (scanning u.seen.share z.seen.share Idle won) { places_seen = places_seen_on site at u.seen.share.places_seen; walk = walk_on site u.seen.share.walk })) e
        ∙ ap (λ (n : Scan). with_share x (record (scanning x.seen.share z.seen.share n won) { places_seen = places_seen_on site at x.seen.share.places_seen; walk = walk_on site x.seen.share.walk })) (sym m.idle)

    pub site_walked : Walked (walk_on site x.seen.share.walk) x z
    site_walked = subst (Walked (walk_on site x.seen.share.walk) x) (sym scanned_view) record { view = refl }

    pub site_followed : site ≡ Anywhere → Followed won x z
    site_followed anywhere = subst (λ (t : Site). z ≡ with_share x (record (scanning x.seen.share z.seen.share x.seen.share.scan won) { places_seen = places_seen_on t at x.seen.share.places_seen; walk = walk_on t x.seen.share.walk })) anywhere scanned_view

    pub own_pool_stays : z.seen.share.own_pool ≡ x.seen.share.own_pool
    own_pool_stays = ap (λ (u : DomainView). u.seen.share.own_pool) scanned_view

-- where no block is grey there the walk goes on
pub mark_passes : (x y : DomainView) (colours : Colours) (at pool class slot word : ℕ) → Marks colours x → MarkTold at pool class slot x word y → (IsGrey colours word → ⊥) → y ≡ with_share x (record x.seen.share { places_seen = at ∷ x.seen.share.places_seen; walk = behind pool class slot })
mark_passes x y colours at pool class slot word m t none = ⊎_elim
    (λ (q : ((word ≡ 0) ⊎ (IsUnmarked t.colours word ⊎ IsScanned t.colours word)) × (y ≡ with_share x (record x.seen.share { places_seen = at ∷ x.seen.share.places_seen; walk = behind pool class slot }))). q.1)
    (λ (q : (grey : IsGrey t.colours word) × (y ≡ with_share x (begun at grey.block.shape word x.seen.share))). absurd (none (subst (λ (c : Colours). IsGrey c word) (one_meaning x.seen.share.colours colours t.colours m.known t.known) q.0)))
    t.told

-- and a block that was followed is on the account no more
pub grey_settles : (x y : DomainView) (colours : Colours) (at word : ℕ) → Scans colours x → GreyTold at x word y → (IsGrey colours word → ⊥) → y ≡ with_share x (record x.seen.share { account = settled at x.seen.share.account })
grey_settles x y colours at word m t none = ⊎_elim
    (λ (q : IsScanned t.colours word × (y ≡ with_share x (record x.seen.share { account = settled at x.seen.share.account }))). q.1)
    (λ (q : (grey : IsGrey t.colours word) × (y ≡ with_share x (begun at grey.block.shape word x.seen.share))). absurd (none (subst (λ (c : Colours). IsGrey c word) (one_meaning x.seen.share.colours colours t.colours m.known t.known) q.0)))
    t.told
