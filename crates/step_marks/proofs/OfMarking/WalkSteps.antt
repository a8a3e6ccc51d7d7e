-- A domain walks through its own pools, and looks at the heads there.
use Rattle.std.proofs.Common.{◌≡◌, ◌≢◌, ℕ, ◌+◌, ◌<◌, ◌≤◌, ◌⊎◌, ◌==◌, ◌||◌, Bool, true, false, true≢false, ◌&&◌, not, cond, IsTrue, eq-eqb, eqb-true, unwrap_or, List, [], ◌∷◌, length, get_or, set, Some, Option, None, sym, refl, ap, ◌∙◌, subst, inl, inr, ⊎_elim, arith, lt_of_not-le}
use Rattle.std.proofs.lemmas.Bool.{le-leb, lt-leb, cases_Bool}
use mathlib.Core.Logic.{dite}
use native.Mathlib.Decide.{ℕ_discrete, dec_le}
use mathlib.Core.Option.{some}
use lib.ListN.{get_elem?}
use Rattle.atomic_table.specs.Table.{keeps}
use Rattle.model_core.specs.declared.entry.Entry.{Entry}
use Rattle.model_core.specs.declared.label.Label.{Label}
use Rattle.model_core.specs.declared.graph.Value.{Value}
use Rattle.model_core.specs.declared.graph.Node.{Node}
use Rattle.model_core.specs.declared.graph.Node.TheVariants.{Plain, Raw, Ephe}
use Rattle.model_core.specs.declared.state.State as model
use Rattle.model_core.specs.Domains.{class_count}
use Rattle.model_core.specs.Fronts.{Shape, PlainShape, RawShape, EpheShape, shape_of}
use Rattle.model_core.proofs.Reach.ReachLemmas.{and_left, and_right, not_true, or_left, or_right}
use Rattle.heap_words.specs.declared.colours.Colours.{Colours}
use Rattle.model_cycle.specs.Marks.{fields_of}
use Rattle.model_cycle.specs.Shares.{at_domain}
use Rattle.model_cycle.proofs.Cycling.{darkening_steps}
use Rattle.model_cycle.proofs.Progressing.{fields_start}
use Rattle.heap_rule.specs.declared.config.Config.{Config}
use Rattle.heap_rule.specs.declared.phase.Kind.{Kind}
use Rattle.heap_rule.specs.declared.phase.Kind.TheVariants.{Run, Promote, Reset, Roots, Mark, Rounds, Decide, Queued, Clean, Lasts, Sweep, Answer}
use Rattle.heap_rule.specs.declared.view.DomainView.{DomainView}
use Rattle.heap_rule.specs.declared.view.Share.{Share}
use Rattle.heap_rule.specs.declared.view.OwnPool.{OwnPool}
use Rattle.heap_rule.specs.Layout.{before_heap, at_address, owner_of}
use Rattle.heap_rule.specs.Places.{Place, needs_no_scan}
use Rattle.heap_rule.specs.Pools.{IsBefore, IsPlace, blocks_of, owned, owner_word, place_in}
use Rattle.heap_rule.specs.Cycles.{HasNoCycle, Facts, IsCollecting, Knowing, OwesAs, Scanned, cycle_of, seen_by}
use Rattle.heap_rule.specs.Raw.{MayStep}
use Rattle.heap_rule.specs.Rule.{Rule, state_of}
use Rattle.heap_rule.specs.Views.{one}
use Rattle.heap_rule.proofs.Controls.{untouched_same}
use Rattle.heap_rule.proofs.Keeps.{Words, my_good, unmoved}
use Rattle.heap_rule.proofs.OwnPlaces.{owned_same}
use Rattle.step_marks.specs.Marking.Looks.{with_share}
use Rattle.step_marks.specs.Marking.Marking.{IsScanning, GreyMay, GreyTold, IsGrey, IsMarked, IsScanned, IsUnmarked, IsNext, MarkMay, MarkTold, OwnMay, OwnTold, begun, behind, fields_in, settled}
use Rattle.step_marks.proofs.OfMarking.Colouring.{BareHead, bare_head, marked_colour, no_fields, unmarked_colour}
use Rattle.step_marks.proofs.OfMarking.Layouts.{labelled, owner_of_place, whose}
use Rattle.step_marks.proofs.OfMarking.Learning.{load_may, at_other, at_same, bare, held, kind_here, knows_more, known, looks_same, looks_still, not_promoting, shifts_more, grows_still}
use Rattle.step_marks.proofs.OfMarking.Unswept.{none_unswept}
use Rattle.std.proofs.lemmas.Option.{none-some, same_Some}
use Rattle.heap_rule.proofs.Stages.{waits_in}

-- the place behind the one looked at
pub last_behind : (pool class slot : ℕ) → blocks_of class ≤ slot + 1 → behind pool class slot ≡ record { pool = pool + 1; slot = 0 }
last_behind pool class slot last = ap (λ (b : Bool). cond b (record { pool = pool + 1; slot = 0 }) (record { pool = pool; slot = slot + 1 })) (le-leb (blocks_of class) (slot + 1) last)

pub next_behind : (pool class slot : ℕ) → slot + 1 < blocks_of class → behind pool class slot ≡ record { pool = pool; slot = slot + 1 }
next_behind pool class slot more = ap (λ (b : Bool). cond b (record { pool = pool + 1; slot = 0 }) (record { pool = pool; slot = slot + 1 })) (lt-leb (blocks_of class) (slot + 1) more)

-- a place before it is this one, or was before this one
pub before_behind : (pool class slot q i : ℕ) → (q ≡ pool → i < blocks_of class) → IsBefore q i (behind pool class slot) → ((q ≡ pool) × (i ≡ slot)) ⊎ IsBefore q i (record { pool = pool; slot = slot })
before_behind pool class slot q i inside before =
    let here : q ≡ pool → i < slot + 1 → ((q ≡ pool) × (i ≡ slot)) ⊎ IsBefore q i (record { pool = pool; slot = slot }) =
    (λ same low. dite (ℕ_discrete i slot) (λ eq. inl (same, eq)) (λ other. inr (inr (same, (let n : i ≢ slot = other in let l : i < slot + 1 = low in let z : i < slot = omega arith in z))))) in
    dite (dec_le (blocks_of class) (slot + 1))
    (λ last. ⊎_elim
    (λ (h : q < pool + 1). dite (ℕ_discrete q pool)
    (λ same. here same (let b : ℕ = blocks_of class in let l : b ≤ slot + 1 = last in let g : i < b = inside same in omega arith))
    (λ other. inr (inl (let n : q ≢ pool = other in let z : q < pool = omega arith in z))))
    (λ (h : (q ≡ pool + 1) × (i < 0)). absurd (let l = h.1 in omega arith))
    (subst (IsBefore q i) (last_behind pool class slot last) before))
    (λ more. ⊎_elim
    (λ (h : q < pool). inr (inl h))
    (λ (h : (q ≡ pool) × (i < slot + 1)). here h.0 h.1)
    (subst (IsBefore q i) (next_behind pool class slot (lt_of_not-le more)) before))

-- an address that is taken off an account takes no other off
settled_still : (a : ℕ) (account : List ℕ) (b : ℕ) → (IsTrue (b == a) → ⊥) → IsTrue (seen_by account b) → IsTrue (seen_by (settled a account) b)
settled_still a [] b other is = is
settled_still a (e ∷ rest) b other is = go (settled_still a rest b other) (e == a) refl (b == e) refl is
  where
    go : (IsTrue (seen_by rest b) → IsTrue (seen_by (settled a rest) b)) → (off : Bool) → (e == a) ≡ off → (here : Bool) → (b == e) ≡ here → IsTrue (here || seen_by rest b) → IsTrue (seen_by (cond off (settled a rest) (e ∷ settled a rest)) b)
    go later true is_off true is_here is = absurd (other (eq-eqb b a (eqb-true b e is_here ∙ eqb-true e a is_off)))
    go later true is_off false is_here is = later is
    go later false is_off true is_here is = or_left (b == e) (seen_by (settled a rest) b) is_here
    go later false is_off false is_here is = or_right (b == e) (seen_by (settled a rest) b) (later is)

-- in these kinds a collection is under way
pub scanning_cycle : (kind : Kind) → IsScanning kind → HasNoCycle kind → ⊥
scanning_cycle Run n none = n
scanning_cycle Promote n none = n
scanning_cycle Reset n none = n
scanning_cycle Roots n none = n
scanning_cycle Mark n none = none
scanning_cycle Rounds n none = none
scanning_cycle Decide n none = n
scanning_cycle Queued n none = n
scanning_cycle Clean n none = n
scanning_cycle Lasts n none = n
scanning_cycle Sweep n none = n
scanning_cycle Answer n none = n

module _ (k : Config) (s : Words) (r : Rule k s) (id : ℕ) (hist : List Entry) (x : DomainView) (at : get_elem? s.views id ≡ some (one k hist x)) where
  open r.account use {live, tenancy.{holder}, cycling as c, cycling.{paint.{marks as m}}}
  open x use {own.{number as d}, seen.{share as sh}}

  abbrev now : model.State
  now = state_of k r.account.log

  abbrev After : DomainView → Type 0
  After y = Rule k record { words = s.words; homes = s.homes; views = set s.views id (one k hist y) }

  kn : Knowing k live holder now.graph m s.words d x.own.registers sh
  kn = known k s r id hist x at

  -- the owner of the next pool
  module _ (word pool : ℕ) (may : OwnMay k x word pool) where
    abbrev owner : ℕ
    owner = owner_of k s.words pool

    is_owner : owner ≡ owner_word (holder pool)
    is_owner = r.whole.pools.owners pool may.inside

    abbrev passed : Share
    passed = record sh { walk = record { pool = pool + 1; slot = 0 } }

    -- where the pool isn't its own there is nothing to see in it
    passes : ((class : ℕ) → holder pool ≢ owned d class) → ((class : ℕ) → class < class_count → owner ≢ owner_word (owned d class)) → (y : DomainView) × After y × OwnTold pool x owner y
    passes none differs = (
      with_share x passed,
      knows_more k s r id hist x at may.collects (held passed) refl refl record {
        found_head = kn.found_head;
        scan = kn.scan;
        walked = λ q e slot is inside before. dite (ℕ_discrete q pool)
            (λ same. absurd (none e (ap holder (sym same) ∙ is)))
            (λ other. kn.walked q e slot is inside (subst (IsBefore q slot) (sym may.next) (⊎_elim (λ (h : q < pool + 1). inl (let n : q ≢ pool = other in let g : q < pool = omega arith in g)) (λ (h : (q ≡ pool + 1) × (slot < 0)). absurd (let l = h.1 in omega arith)) before)));
        own_pool = kn.own_pool;
        rooted = kn.rooted;
        marked = kn.marked;
        looking = looks_same k s r id hist x at may.collects (held passed) refl refl;
      },
      record { told = inr (differs, refl) },
    )

    owns : (class : ℕ) → holder pool ≡ owned d class → (y : DomainView) × After y × OwnTold pool x owner y
    owns class is = let share' : Share = record sh { own_pool = Some (record { pool = pool; class = class }) } in (
      with_share x share',
      knows_more k s r id hist x at may.collects (held share') refl refl record {
        found_head = kn.found_head;
        scan = kn.scan;
        walked = kn.walked;
        own_pool = λ u e. subst (λ (z : OwnPool). holder z.pool ≡ owned d z.class) (same_Some (record { pool = pool; class = class }) u e) is;
        rooted = kn.rooted;
        marked = kn.marked;
        looking = looks_same k s r id hist x at may.collects (held share') refl refl;
      },
      record { told = inl (class, (r.whole.pools.owned_by pool d class is).2, is_owner ∙ ap owner_word is, refl) },
    )

    pub owner_told : (y : DomainView) × After y × OwnTold pool x owner y
    owner_told = ⊎_elim (λ u. owns u.0 u.1) (λ u. passes u.0 u.1) (whose k s r d pool may.inside (holder pool) refl)

  -- a look at the head of a block
  module _ (colours : Colours) (knows : sh.colours ≡ Some colours) (collecting : IsCollecting x.seen.stage) (a : ℕ) (p : Place) (lives : live a ≡ Some p) where
    abbrev head : ℕ
    head = at_address k s.words a

    pub there : BareHead c.paint p head
    there = bare_head c.paint p head (bare k s r id hist x at collecting a p lives) r.whole.cycle.meanings (r.whole.placed.fits a p lives).head (r.whole.found a p lives).head

    pub means : colours ≡ c.paint.colours
    means = (my_good k s r id hist x at).sharing.telling.colours colours knows

    -- a marked block is scanned, or grey
    pub marked_cases : m.marked p.label ≡ true → (IsScanned colours head × (m.scanned p.label ≡ true)) ⊎ ((grey : IsGrey colours head) × (grey.block.shape ≡ p.shape))
    marked_cases is = ⊎_elim
        (λ (done : there.head.scanned ≡ true). inl (record { block = record { shape = p.shape; head = there.head; colour = marked_colour c.paint p head colours means there is }; scanned = done }, there.tells is done))
        (λ (left : there.head.scanned ≡ false). inr (record { block = record { shape = p.shape; head = there.head; colour = marked_colour c.paint p head colours means there is }; unscanned = left }, refl))
        (cases_Bool there.head.scanned)

    pub marked_case : m.marked p.label ≡ true → (b : IsMarked colours head) × (b.shape ≡ p.shape)
    marked_case is = (record { shape = p.shape; head = there.head; colour = marked_colour c.paint p head colours means there is }, refl)

    pub unmarked_case : m.marked p.label ≡ false → IsUnmarked colours head
    unmarked_case e = record { shape = p.shape; head = there.head; colour = unmarked_colour c.paint p head colours means there e }

    -- the scan of a grey block begins
    begins : IsTrue (m.marked p.label) → (shape : Shape) → p.shape ≡ shape → Scanned live now.graph m a 0 (fields_in shape) head
    begins marked (PlainShape size tag) is =
        let f = r.whole.found a p lives in
        let n = plain_node f.node size tag (f.shape ∙ is) in
        record { place = p; lives = lives; marked = marked; tag = tag; fields = n.0; head_is = there.head; node = inl (f.there ∙ ap Some n.1); size_is = n.2; through = fields_start m.marked n.0 }
      where
        plain_node : (u : Node) (size tag : ℕ) → shape_of u ≡ PlainShape size tag → (fields : List Value) × (u ≡ Plain tag fields) × (length fields ≡ size)
        plain_node (Plain t fields) size tag e = let same : t ≡ tag = cc in let many : length fields ≡ size = cc in (fields, ap (λ (z : ℕ). Plain z fields) same, many)
        plain_node (Raw t fields) size tag e = cc
        plain_node (Ephe keys datum) size tag e = cc
    begins marked (RawShape size tag) is =
        let f = r.whole.found a p lives in
        record { place = p; lives = lives; marked = marked; tag = 0; fields = []; head_is = there.head; node = inr (refl, ap fields_of f.there ∙ no_fields f.node (ap needs_no_scan (f.shape ∙ is))); size_is = refl; through = fields_start m.marked [] }
    begins marked (EpheShape keys) is =
        let f = r.whole.found a p lives in
        record { place = p; lives = lives; marked = marked; tag = 0; fields = []; head_is = there.head; node = inr (refl, ap fields_of f.there ∙ ephe_fields f.node keys (f.shape ∙ is)); size_is = refl; through = fields_start m.marked [] }
      where
        ephe_fields : (u : Node) (keys : ℕ) → shape_of u ≡ EpheShape keys → fields_of (Some u) ≡ []
        ephe_fields (Plain t fields) keys e = cc
        ephe_fields (Raw t fields) keys e = cc
        ephe_fields (Ephe ks datum) keys e = refl

    pub begins_rule : IsTrue (m.marked p.label) → After (with_share x (begun a p.shape head sh))
    begins_rule marked = knows_more k s r id hist x at collecting (held (begun a p.shape head sh)) refl refl record {
      found_head = kn.found_head;
      scan = begins marked p.shape refl;
      walked = kn.walked;
      own_pool = kn.own_pool;
      rooted = kn.rooted;
      marked = kn.marked;
      looking = looks_still k s r id hist x at collecting m (held (begun a p.shape head sh)) (λ _. refl) refl (λ b e. absurd (none-some b e));
    }

  -- the next place of the walk, in an own pool
  module _ (a pool class slot : ℕ) (place : IsNext x a pool class slot) where
    pool_is_own : holder pool ≡ owned d class
    pool_is_own = kn.own_pool (record { pool = pool; class = class }) place.own

    pub own_place : (cycle_of k live holder c).layout.owner a ≡ Some d
    own_place = ap (λ (b : ℕ). (cycle_of k live holder c).layout.owner b) place.begins ∙ owner_of_place holder pool d class slot (r.whole.pools.owned_by pool d class pool_is_own).2 pool_is_own place.inside

    -- what is there
    pub place_there : IsPlace k r.account.tenancy live s.words d a
    place_there = subst (IsPlace k r.account.tenancy live s.words d) (sym place.begins) (r.whole.grid.places pool d class slot pool_is_own place.inside)

    -- once it is seen, the walk goes on
    abbrev pub seen_next : ℕ → ℕ → Bool
    seen_next = at_domain c.shares.seen d (λ b. b == a || c.shares.seen d b)

    pub next_is : c.shares.arrived d ≡ false → seen_next d ≡ seen_by (a ∷ sh.places_seen)
    next_is waits = at_same c.shares.seen d (λ b. b == a || c.shares.seen d b) ∙ ap (λ (f : ℕ → Bool). λ (b : ℕ). b == a || f b) ((my_good k s r id hist x at).sharing.telling.seen waits)

    pub next_other : (z : ℕ) → z ≢ d → seen_next z ≡ c.shares.seen z
    next_other z other = at_other c.shares.seen d (λ b. b == a || c.shares.seen d b) z other

    pub next_walked : (q e i : ℕ) → holder q ≡ owned d e → i < blocks_of e → IsBefore q i (behind pool class slot) → IsTrue (seen_by (a ∷ sh.places_seen) (place_in q e i))
    next_walked q e i is inside before =
        let class_is : q ≡ pool → e ≡ class = (λ same. (owned_same d d e class (sym is ∙ (ap holder same ∙ pool_is_own))).1) in ⊎_elim
        (λ (h : (q ≡ pool) × (i ≡ slot)). or_left (place_in q e i == a) (seen_by sh.places_seen (place_in q e i)) (eq-eqb (place_in q e i) a (ap (λ (z : ℕ × ℕ × ℕ). place_in z.0 z.1 z.2) (λ j. (h.0 j, class_is h.0 j, h.1 j)) ∙ sym place.begins)))
        (λ (h : IsBefore q i (record { pool = pool; slot = slot })). or_right (place_in q e i == a) (seen_by sh.places_seen (place_in q e i)) (kn.walked q e i is inside (subst (IsBefore q i) (sym place.next) h)))
        (before_behind pool class slot q i (λ same. subst (λ (z : ℕ). i < blocks_of z) (class_is same) inside) before)

  -- the head there
  module _ (a pool class slot : ℕ) (may : MarkMay x a pool class slot) where
    abbrev found : ℕ
    found = at_address k s.words a

    collecting : IsCollecting x.seen.stage
    collecting = subst IsCollecting (sym may.stage) (λ none. none)

    kind_is : c.kind ≡ Mark
    kind_is = kind_here k s r id hist x at Mark may.stage

    facts : Facts Mark k now live r.account.tenancy c s.words
    facts = subst (λ (kind : Kind). Facts kind k now live r.account.tenancy c s.words) kind_is r.whole.cycle.facts

    abbrev saw : Share
    saw = record sh { places_seen = a ∷ sh.places_seen; walk = behind pool class slot }

    -- no block there is grey
    saw_rule : ((p : Place) → live a ≡ Some p → IsTrue (m.marked p.label) → IsTrue (m.scanned p.label)) → After (with_share x saw)
    saw_rule quiet =
        let t = (my_good k s r id hist x at).sharing.telling in
        let waits : c.shares.arrived d ≡ false = waits_in k s r id hist x at Mark may.stage in
        shifts_more k s r id hist x at collecting c.shares.changed c.shares.owes c.shares.follows (seen_next a pool class slot may.place) (held saw) s.words (untouched_same s.words) refl refl refl r.whole.cycle.changed_is
        (subst (λ (kind : Kind). Facts kind k now live r.account.tenancy (record c { shares = record c.shares { seen = seen_next a pool class slot may.place } }) s.words) (sym kind_is) (
          darkening_steps.mark_looks c.pass k.domains now (cycle_of k live holder c) facts.0 d a (own_place a pool class slot may.place)
              (λ l e is. let u = labelled k live a l e in subst (λ (z : Label). IsTrue (m.scanned z)) u.label (quiet u.place u.lives (subst (λ (z : Label). IsTrue (m.marked z)) (sym u.label) is))),
          facts.1,
        ))
        (grows_still k s r id hist x at collecting)
        (λ z other. (refl, refl, next_other a pool class slot may.place z other))
        (t.owes waits)
        (next_is a pool class slot may.place waits)
        record { found_head = kn.found_head; scan = kn.scan; walked = next_walked a pool class slot may.place; own_pool = kn.own_pool; rooted = kn.rooted; marked = kn.marked; looking = looks_same k s r id hist x at collecting (held saw) refl refl }
        refl

    abbrev Looked : DomainView → Type 0
    Looked y = After y × MarkTold a pool class slot x found y

    seen_live : (p : Place) → live a ≡ Some p → (IsTrue (m.marked p.label) → IsTrue (m.scanned p.label)) → IsUnmarked may.colours found ⊎ IsScanned may.colours found → (y : DomainView) × Looked y
    seen_live p lives quiet why = (
      with_share x saw,
      (
        saw_rule (λ q e. let same : Some q ≡ Some p = sym e ∙ lives in let is : q ≡ p = cc in subst (λ (z : Place). IsTrue (m.marked z.label) → IsTrue (m.scanned z.label)) (sym is) quiet),
        record { colours = may.colours; known = may.known; told = inl (inr why, refl) },
      ),
    )

    look_live : (p : Place) → live a ≡ Some p → (y : DomainView) × Looked y
    look_live p lives = ⊎_elim
        (λ (is : m.marked p.label ≡ true). ⊎_elim
        (λ h. seen_live p lives (λ _. h.1) (inr h.0))
        (λ h. (
          with_share x (begun a p.shape found sh),
          (
            begins_rule may.colours may.known collecting a p lives is,
            record { colours = may.colours; known = may.known; told = inr (h.0, ap (λ (z : Shape). with_share x (begun a z found sh)) (sym h.1)) },
          ),
        ))
        (marked_cases may.colours may.known collecting a p lives is))
        (λ (e : m.marked p.label ≡ false). seen_live p lives (λ is. absurd (true≢false (sym is ∙ e))) (inl (unmarked_case may.colours may.known collecting a p lives e)))
        (cases_Bool (m.marked p.label))

    pub looks_at : (o : Option Place) → live a ≡ o → (y : DomainView) × Looked y
    looks_at (Some p) e = look_live p e
    looks_at None e =
        let free : found ≡ 0 = ⊎_elim
        (λ (z : found ≡ 0). z)
        (λ z. absurd (⊎_elim
        (λ (u : (p : Place) × (live a ≡ Some p)). none-some u.0 (sym e ∙ u.1))
        (λ u. ⊎_elim
        (λ (f : r.account.tenancy.prepared a ≡ Some d). not_promoting k s r id hist x at collecting (r.whole.drawers.prepared a d f).1)
        (λ (f : IsTrue (r.account.tenancy.garbage a)). true≢false (sym f ∙ none_unswept k now live r.account.pause r.account.tenancy c s.words r.whole.cycle Mark tt kind_is facts.1 a))
        u)
        z))
        (place_there a pool class slot may.place) in (
          with_share x saw,
          (saw_rule (λ q f. absurd (none-some q (sym e ∙ f))), record { colours = may.colours; known = may.known; told = inl (inl free, refl) }),
        )

  -- where a block is scanned the domain follows it no more
  abbrev pub settles_at : ℕ → ℕ → ℕ → Bool
  settles_at a = at_domain c.shares.follows d (λ b. c.shares.follows d b && not (b == a))

  pub settles_own : (a : ℕ) → ((b : ℕ) → IsTrue (c.shares.follows d b) → IsTrue (seen_by sh.account b)) → (b : ℕ) → IsTrue (settles_at a d b) → IsTrue (seen_by (settled a sh.account) b)
  settles_own a f b is =
      let both : IsTrue (c.shares.follows d b && not (b == a)) = subst (λ (g : ℕ → Bool). IsTrue (g b)) (at_same c.shares.follows d (λ e. c.shares.follows d e && not (e == a))) is in
      settled_still a sh.account b (not_true (b == a) (and_right (c.shares.follows d b) (not (b == a)) both)) (f b (and_left (c.shares.follows d b) (not (b == a)) both))

  pub settles_other : (a z : ℕ) → z ≢ d → settles_at a z ≡ c.shares.follows z
  settles_other a z other = at_other c.shares.follows d (λ b. c.shares.follows d b && not (b == a)) z other

  -- the head of a block that is known to be marked
  module _ (a : ℕ) (may : GreyMay x a) where
    -- the block is scanned
    settled_facts : (p : Place) → live a ≡ Some p → m.scanned p.label ≡ true → (kind : Kind) → IsScanning kind → Facts kind k now live r.account.tenancy c s.words → Facts kind k now live r.account.tenancy (record c { shares = record c.shares { follows = settles_at a } }) s.words
    settled_facts p lives done Run n f = absurd n
    settled_facts p lives done Promote n f = absurd n
    settled_facts p lives done Reset n f = absurd n
    settled_facts p lives done Roots n f = absurd n
    settled_facts p lives done Mark n f = (
      darkening_steps.mark_settles c.pass k.domains now (cycle_of k live holder c) f.0 d a
          (λ l e _. let u = labelled k live a l e in let same : p ≡ u.place = ap (λ (o : Option Place). unwrap_or o p) (sym lives ∙ u.lives) in
          subst (λ (z : Label). IsTrue (m.scanned z)) (ap (λ (z : Place). z.label) same ∙ u.label) done),
      f.1,
    )
    settled_facts p lives done Rounds n f = (darkening_steps.rounds_settles c.pass k.domains now (cycle_of k live holder c) f.0 d a, f.1)
    settled_facts p lives done Decide n f = absurd n
    settled_facts p lives done Queued n f = absurd n
    settled_facts p lives done Clean n f = absurd n
    settled_facts p lives done Lasts n f = absurd n
    settled_facts p lives done Sweep n f = absurd n
    settled_facts p lives done Answer n f = absurd n

    abbrev less : Share
    less = record sh { account = settled a sh.account }

    settled_rule : (p : Place) → live a ≡ Some p → m.scanned p.label ≡ true → After (with_share x less)
    settled_rule p lives done =
        let t = (my_good k s r id hist x at).sharing.telling in
        let waits : c.shares.arrived d ≡ false = waits_in k s r id hist x at may.kind may.stage in
        let kind_is : c.kind ≡ may.kind = kind_here k s r id hist x at may.kind may.stage in
        let collecting : IsCollecting x.seen.stage = subst IsCollecting (sym may.stage) (scanning_cycle may.kind may.scanning) in
        let o : OwesAs (c.shares.owes d) (c.shares.follows d) sh.owes sh.account = t.owes waits in
        shifts_more k s r id hist x at collecting c.shares.changed c.shares.owes (settles_at a) c.shares.seen (held less) s.words (untouched_same s.words) refl refl refl r.whole.cycle.changed_is
        (subst (λ (kind : Kind). Facts kind k now live r.account.tenancy (record c { shares = record c.shares { follows = settles_at a } }) s.words) (sym kind_is)
        (settled_facts p lives done may.kind may.scanning (subst (λ (kind : Kind). Facts kind k now live r.account.tenancy c s.words) kind_is r.whole.cycle.facts)))
        (grows_still k s r id hist x at collecting)
        (λ z other. (refl, settles_other a z other, refl))
        (record { owes = o.owes; follows = settles_own a o.follows })
        (t.seen waits)
        record { found_head = kn.found_head; scan = kn.scan; walked = kn.walked; own_pool = kn.own_pool; rooted = kn.rooted; marked = kn.marked; looking = looks_same k s r id hist x at collecting (held less) refl refl }
        refl

    pub grey_looks : (y : DomainView) × After y × GreyTold a x (at_address k s.words a) y
    grey_looks =
        let t = kn.marked a may.marked in
        let collecting : IsCollecting x.seen.stage = subst IsCollecting (sym may.stage) (scanning_cycle may.kind may.scanning) in ⊎_elim
        (λ h. (
          with_share x less,
          settled_rule t.0 t.1 h.1,
          record { colours = may.colours; known = may.known; told = inl (h.0, refl) },
        ))
        (λ h. (
          with_share x (begun a t.0.shape (at_address k s.words a) sh),
          begins_rule may.colours may.known collecting a t.0 t.1 t.2,
          record { colours = may.colours; known = may.known; told = inr (h.0, ap (λ (z : Shape). with_share x (begun a z (at_address k s.words a) sh)) (sym h.1)) },
        ))
        (marked_cases may.colours may.known collecting a t.0 t.1 t.2)

pub own_may : (k : Config) (x : DomainView) (word pool : ℕ) → OwnMay k x word pool → MayStep k x word (λ n. n) (OwnTold pool)
own_may k x word pool may fits slots id hist s r _ at _ =
    let o = owner_told k s r id hist x at word pool may in
    (one k hist o.0, keeps, tt, unmoved k s word (set s.views id (one k hist o.0)) o.1, (subst (λ (n : ℕ). OwnTold pool x (get_or s.words n 0) o.0) (sym may.word) o.2, refl))

pub mark_may : (k : Config) (x : DomainView) (word a pool class slot : ℕ) → word ≡ before_heap k + a → MarkMay x a pool class slot → MayStep k x word (λ n. n) (MarkTold a pool class slot)
mark_may k x word a pool class slot place may fits slots id hist s r _ at _ =
    let o = looks_at k s r id hist x at a pool class slot may (r.account.live a) refl in
    (one k hist o.0, keeps, tt, unmoved k s word (set s.views id (one k hist o.0)) o.1.0, (subst (λ (n : ℕ). MarkTold a pool class slot x (get_or s.words n 0) o.0) (sym place) o.1.1, refl))

pub grey_may : (k : Config) (x : DomainView) (word a : ℕ) → word ≡ before_heap k + a → GreyMay x a → MayStep k x word (λ n. n) (GreyTold a)
grey_may k x word a place may = load_may k x word a (GreyTold a) place (λ s r id hist at. grey_looks k s r id hist x at a may)
