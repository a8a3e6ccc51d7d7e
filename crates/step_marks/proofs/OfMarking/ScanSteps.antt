-- A marked block is scanned, and the changed word is stored.
use Rattle.std.proofs.Common.{◌≡◌, ◌≢◌, ℕ, ◌+◌, ◌<◌, ◌≤◌, ◌||◌, Bool, true, false, cond, List, [], length, get_or, set, slice_get, Some, Option, None, sym, refl, ap, ◌∙◌, subst, inl, inr, ⊎_elim, arith, add-one, length-set, get_or-set_same, get_or-set_other, unwrap_or, IsTrue}
use mathlib.Core.Option.{some}
use lib.ListN.{get_elem?}
use Rattle.atomic_table.specs.Table.{keeps}
use Rattle.model_core.specs.declared.entry.Entry.{Entry}
use Rattle.model_core.specs.declared.label.Label.{Label}
use Rattle.model_core.specs.declared.graph.Value.{Value}
use Rattle.model_core.specs.declared.graph.Value.TheVariants.{Int, Block, Nothing}
use Rattle.model_core.specs.declared.graph.Node.{Node}
use Rattle.model_core.specs.declared.graph.Node.TheVariants.{Plain}
use Rattle.model_core.specs.declared.state.State as model
use Rattle.model_core.specs.Fronts.{Shape}
use Rattle.model_core.specs.Graph.{Graph, node_at}
use Rattle.model_core.specs.Reach.{HoldsRoots}
use Rattle.model_core.proofs.Graphs.GraphLemmas.{same_label_refl, same_label-false}
use Rattle.heap_words.specs.declared.colours.Colours.{Colours}
use Rattle.heap_words.specs.declared.value.Value as held_value
use Rattle.heap_words.specs.declared.value.Value.TheVariants.{Int as IntWord, Ref, Nothing as NothingWord}
use Rattle.heap_words.specs.Heads.{head_word}
use Rattle.model_cycle.specs.Cycle as laws
use Rattle.model_cycle.specs.Cycle.{InPhase}
use Rattle.model_cycle.specs.Marks.{Marks, with_scanned, fields_of, FieldsMarked}
use Rattle.model_cycle.specs.Progress.{FieldsDone}
use Rattle.model_cycle.specs.Shares.{at_domain}
use Rattle.model_cycle.proofs.Cycling.{darkening_steps}
use Rattle.model_cycle.proofs.Progressing.{fields_next, fields_end}
use Rattle.model_cycle.proofs.Ending.{stored_grows}
use Rattle.heap_rule.specs.declared.config.Config.{Config}
use Rattle.heap_rule.specs.declared.phase.Kind.{Kind}
use Rattle.heap_rule.specs.declared.phase.Kind.TheVariants.{Run, Promote, Reset, Roots, Mark, Rounds, Decide, Queued, Clean, Lasts, Sweep, Answer}
use Rattle.heap_rule.specs.declared.view.DomainView.{DomainView}
use Rattle.heap_rule.specs.declared.view.Scan.{Scan}
use Rattle.heap_rule.specs.declared.view.Scan.TheVariants.{Idle, Reads}
use Rattle.heap_rule.specs.declared.view.Share.{Share}
use Rattle.heap_rule.specs.Layout.{before_heap, heap_words, at_address}
use Rattle.heap_rule.specs.Places.{Debt, HasValue, Live, Place, Stands, WordStands, colour_in, head_of, values_of}
use Rattle.heap_rule.specs.Cycles.{Cycling, Facts, HasNoCycle, IsCollecting, Knowing, Refers, Scanned, Scans, cycle_of, seen_by, OwesAs, pool_labels}
use Rattle.heap_rule.specs.Raw.{MayStep, MayStore}
use Rattle.heap_rule.specs.Rule.{Rule, state_of}
use Rattle.heap_rule.specs.Views.{one}
use Rattle.heap_rule.proofs.Controls.{Untouched}
use Rattle.heap_rule.proofs.Keeps.{Words, my_good, unmoved}
use Rattle.heap_rule.proofs.Lists.{got_there}
use Rattle.heap_rule.proofs.Values.{address_of, packable, stands_block}
use Rattle.step_marks.specs.Marking.Looks.{with_share}
use Rattle.step_marks.specs.Marking.Marking.{ChangedMay, ChangedTold, IsChanging, IsScanning, ScanMay, ScanTold, ScannedMay, ScannedTold, scanned_on, Site, Anywhere, Next, LiesAt, places_seen_on, walk_on, settled}
use Rattle.step_marks.proofs.OfMarking.Colouring.{words_same, Recolourable}
use Rattle.step_marks.proofs.OfMarking.Learning.{at_other, at_same, bare, held, kind_here, knows_more, known, looks_same, looks_still, queue_still, shifts_more, whole_in, grows_still, unnamed}
use Rattle.step_marks.proofs.OfMarking.Recolouring.{Recolours, known_still, recolours}
use Rattle.heap_rule.specs.declared.phase.Stage.TheVariants.{In}
use Rattle.step_marks.proofs.OfMarking.WalkSteps.{scanning_cycle, own_place, seen_next, next_is, next_other, next_walked, settles_at, settles_other, settles_own}
use Rattle.step_marks.proofs.OfMarking.Layouts.{labelled}
use Rattle.heap_rule.specs.Pools.{owned, blocks_of, IsBefore, place_in}
use Rattle.std.proofs.lemmas.Option.{none-some, same_Some}
use Rattle.heap_rule.proofs.Stages.{waits_in}
use Rattle.heap_rule.specs.Ephemerons.{ephemeron_of}
use Rattle.heap_rule.proofs.EphemeronLemmas.{found_value}

-- where the changed word is stored a collection is under way
changing_cycle : (kind : Kind) → IsChanging kind → HasNoCycle kind → ⊥
changing_cycle Run n none = n
changing_cycle Promote n none = n
changing_cycle Reset n none = n
changing_cycle Roots n none = n
changing_cycle Mark n none = none
changing_cycle Rounds n none = none
changing_cycle Decide n none = n
changing_cycle Queued n none = none
changing_cycle Clean n none = n
changing_cycle Lasts n none = n
changing_cycle Sweep n none = n
changing_cycle Answer n none = n

-- the value in the next field was read
module _ (live : Live) (graph : Graph) (m : Marks) (block done size head : ℕ) (f : Scanned live graph m block done size head) (v : Value) (there : slice_get f.fields done ≡ Some v) where
  -- a value that is no reference is no block
  further : ((x : Label) → v ≡ Block x → ⊥) → Scanned live graph m block (done + 1) size head
  further no_block = record {
    place = f.place;
    lives = f.lives;
    marked = f.marked;
    tag = f.tag;
    fields = f.fields;
    node = f.node;
    head_is = f.head_is;
    size_is = f.size_is;
    through = subst (FieldsDone m.marked f.fields) (sym (add-one done)) (fields_next m.marked f.fields done f.through (λ x e. absurd (no_block x (let same : Some v ≡ Some (Block x) = sym there ∙ e in cc))));
  }

  read_on : (w : held_value.Value) → Stands live w v → Scans live graph m (scanned_on (Reads block done size head) w)
  read_on (IntWord z) st = further (λ x e. subst (Stands live (IntWord z)) e st)
  read_on NothingWord st = further (λ x e. subst (Stands live NothingWord) e st)
  read_on (Ref a) st = go v refl st
    where
      go : (u : Value) → v ≡ u → Stands live (Ref a) u → Refers live graph m block done size head a
      go (Int z) e s = absurd s
      go Nothing e s = absurd s
      go (Block l) e s = record { reads = f; target = s.0; there = s.1; holds = there ∙ ap Some (e ∙ ap Block (sym s.2)) }

-- a scan comes to no ephemeron's keys
no_ephemeron : (scan : Scan) (block done size head : ℕ) (w : held_value.Value) → scan ≡ Reads block done size head → ephemeron_of (scanned_on scan w) ≡ None
no_ephemeron scan block done size head w is = ap (λ (z : Scan). ephemeron_of (scanned_on z w)) is ∙ go w
  where
    go : (v : held_value.Value) → ephemeron_of (scanned_on (Reads block done size head) v) ≡ None
    go (IntWord z) = refl
    go (Ref a) = refl
    go NothingWord = refl

module _ (k : Config) (s : Words) (r : Rule k s) (id : ℕ) (hist : List Entry) (x : DomainView) (at : get_elem? s.views id ≡ some (one k hist x)) where
  open r.account use {live, cycling as c, cycling.{paint.{marks as m}}}
  open x use {own.{number as d}, seen.{share as sh}}

  abbrev now : model.State
  now = state_of k r.account.log

  kn : Knowing k live r.account.tenancy.holder now.graph m s.words d x.own.registers sh
  kn = known k s r id hist x at

  in_mark : (kind : Kind) → x.seen.stage ≡ In kind → IsScanning kind → IsCollecting x.seen.stage
  in_mark kind is scanning = subst IsCollecting (sym is) (scanning_cycle kind scanning)

  -- the next field
  module _ (a : ℕ) (may : ScanMay x a) where
    f : Scanned live now.graph m may.block may.done may.size may.head
    f = subst (Scans live now.graph m) may.scan kn.scan

    field : (v : Value) × (slice_get f.fields may.done ≡ Some v)
    field = got_there f.fields may.done (let n : ℕ = length f.fields in let e : n ≡ may.size = f.size_is in let h = may.more in omega arith)

    not_clean : c.kind ≡ Clean → ⊥
    not_clean e = subst IsScanning (sym (kind_here k s r id hist x at may.kind may.stage) ∙ e) may.scanning

    stands : WordStands live (at_address k s.words (may.block + 2 + may.done)) field.0
    stands =
        let found = r.whole.found may.block f.place f.lives in
        let plain : node_at now.graph f.place.label ≡ Some (Plain f.tag f.fields) = ⊎_elim
        (λ (e : node_at now.graph f.place.label ≡ Some (Plain f.tag f.fields)). e)
        (λ (e : (f.fields ≡ []) × (fields_of (node_at now.graph f.place.label) ≡ [])). absurd (let none : length f.fields ≡ 0 = ap (λ (z : List Value). length z) e.0 in let n : ℕ = length f.fields in let z : n ≡ 0 = none in let y : n ≡ may.size = f.size_is in let h = may.more in omega arith))
        f.node in
        let is : found.node ≡ Plain f.tag f.fields = same_Some found.node (Plain f.tag f.fields) (sym found.there ∙ plain) in
        found_value k c.paint live now.graph s.words may.block f.place found (whole_in k s r id hist x at not_clean f.place.label) may.done field.0 (subst (λ (o : Option Debt). HasValue o may.done) (sym (bare k s r id hist x at (in_mark may.kind may.stage may.scanning) may.block f.place f.lives).no_debt) tt) (ap (λ (n : Node). slice_get (values_of n) may.done) is ∙ field.1)

    share' : Share
    share' = record sh { scan = scanned_on sh.scan stands.value }

    scan_rule : Rule k record { words = s.words; homes = s.homes; views = set s.views id (one k hist (with_share x share')) }
    unfolding share'
    scan_rule = knows_more k s r id hist x at (in_mark may.kind may.stage may.scanning) (held share') refl refl record {
      found_head = kn.found_head;
      scan = subst (λ (z : Scan). Scans live now.graph m (scanned_on z stands.value)) (sym may.scan) (read_on live now.graph m may.block may.done may.size may.head f field.0 field.1 stands.value stands.stands);
      walked = kn.walked;
      own_pool = kn.own_pool;
      rooted = kn.rooted;
      marked = kn.marked;
      looking = looks_still k s r id hist x at (in_mark may.kind may.stage may.scanning) m (held share') (λ _. refl) refl (λ b e. absurd (none-some b (sym (no_ephemeron sh.scan may.block may.done may.size may.head stands.value may.scan) ∙ e)));
    }

    scan_told : ScanTold k x (at_address k s.words a) (with_share x share')
    unfolding share'
    scan_told = record {
      value = stands.value;
      packable = packable k r.limits live r.whole.placed stands.value field.0 stands.stands;
      word = ap (at_address k s.words) may.word ∙ stands.packs;
      inside = λ b is. let t = stands_block live b field.0 (subst (λ (z : held_value.Value). Stands live z field.0) is stands.stands) in address_of k b t.1 (r.whole.placed.fits b t.1 t.3);
      view = refl;
    }

  -- all fields are done
  module _ (a new : ℕ) (site : Site) (may : ScannedMay x a new site) where
    g : Scanned live now.graph m a may.size may.size may.word
    g = subst (Scans live now.graph m) may.scan kn.scan

    abbrev p : Place
    p = g.place

    abbrev m' : Marks
    m' = with_scanned m p.label

    means : may.colours ≡ c.paint.colours
    means = (my_good k s r id hist x at).sharing.telling.colours may.colours may.known

    same : Recolourable p.shape may.shape g.head_is.colour may.head.colour g.head_is.scanned may.head.scanned
    same = words_same p.shape may.shape may.word g.head_is may.head

    fields_marked : FieldsMarked now.graph m.marked p.label
    fields_marked = ⊎_elim
        (λ (q : node_at now.graph p.label ≡ Some (Plain g.tag g.fields)). fields_end now.graph m.marked p.label g.tag g.fields may.size q g.through (let n : ℕ = length g.fields in let h : n ≡ may.size = g.size_is in omega arith))
        (λ (q : (g.fields ≡ []) × (fields_of (node_at now.graph p.label) ≡ [])). subst (λ (z : List Label). HoldsRoots z m.marked) (sym q.1) (λ l h. cc))
        g.node

    waits : c.shares.arrived d ≡ false
    waits = waits_in k s r id hist x at may.kind may.stage

    kind_is : c.kind ≡ may.kind
    kind_is = kind_here k s r id hist x at may.kind may.stage

    unclean : c.kind ≡ Clean → ⊥
    unclean e = subst IsScanning (sym kind_is ∙ e) may.scanning

    abbrev scanned_words : List ℕ
    scanned_words = set s.words (before_heap k + a) new

    abbrev done : Share
    done = record sh { scan = Idle; account = settled a sh.account; places_seen = places_seen_on site a sh.places_seen; walk = walk_on site sh.walk }

    abbrev seen_on : (t : Site) → LiesAt t x a → ℕ → ℕ → Bool
    seen_on Anywhere lies = c.shares.seen
    seen_on (Next pool class slot) lies = seen_next k s r id hist x at a pool class slot lies

    is_scanned : m'.scanned p.label ≡ true
    is_scanned = ap (λ (b : Bool). b || m.scanned p.label) (same_label_refl p.label)

    abbrev follows' : ℕ → ℕ → Bool
    follows' = settles_at k s r id hist x at a

    abbrev scanned_cycle : (t : Site) → LiesAt t x a → Cycling
    scanned_cycle t lies = record c { paint = record c.paint { marks = m' }; shares = record c.shares { follows = follows'; seen = seen_on t lies } }

    abbrev settled_cycle : Cycling
    settled_cycle = record c { paint = record c.paint { marks = m' }; shares = record c.shares { follows = follows' } }

    abbrev IsMarking : Cycling → Type 0
    IsMarking z = InPhase (laws.Mark c.pass) k.domains now (cycle_of k live r.account.tenancy.holder z)

    scanned_there : (l : Label) → (cycle_of k live r.account.tenancy.holder c).layout.live a ≡ Some l → IsTrue (m'.scanned l)
    scanned_there l e = let u = labelled k live a l e in let same : p ≡ u.place = ap (λ (o : Option Place). unwrap_or o p) (sym g.lives ∙ u.lives) in
        subst (λ (z : Label). IsTrue (m'.scanned z)) (ap (λ (z : Place). z.label) same ∙ u.label) is_scanned

    -- the domain follows the block no more; where the place is the next of the walk, no block is grey there any more
    mark_facts : (t : Site) (lies : LiesAt t x a) → Facts Mark k now live r.account.tenancy c s.words → Facts Mark k now live r.account.tenancy (scanned_cycle t lies) scanned_words
    mark_facts t lies f =
        let c1 : Cycling = record c { paint = record c.paint { marks = m' } } in
        let after = darkening_steps.mark_scans c.pass k.domains now (cycle_of k live r.account.tenancy.holder c) f.0 p.label fields_marked in
        (looked t lies (darkening_steps.mark_settles c.pass k.domains now (cycle_of k live r.account.tenancy.holder c1) after d a (λ l e _. scanned_there l e)), f.1)
      where
        looked : (u : Site) (v : LiesAt u x a) → IsMarking settled_cycle → IsMarking (scanned_cycle u v)
        looked Anywhere v i = i
        looked (Next pool class slot) v i = darkening_steps.mark_looks c.pass k.domains now (cycle_of k live r.account.tenancy.holder settled_cycle) i d a (own_place k s r id hist x at a pool class slot v) (λ l e _. scanned_there l e)

    rounds_facts : (t : Site) (lies : LiesAt t x a) → t ≡ Anywhere → Facts Rounds k now live r.account.tenancy c s.words
        → Facts Rounds k now live r.account.tenancy (scanned_cycle t lies) scanned_words
    rounds_facts Anywhere lies is f =
        let c1 : Cycling = record c { paint = record c.paint { marks = m' } } in
        (darkening_steps.rounds_settles c.pass k.domains now (cycle_of k live r.account.tenancy.holder c1) (darkening_steps.rounds_scans c.pass k.domains now (cycle_of k live r.account.tenancy.holder c) f.0 p.label fields_marked) d a, f.1)
    rounds_facts (Next pool class slot) lies is f = cc

    scanned_facts : (kind : Kind) → IsScanning kind → (t : Site) (lies : LiesAt t x a) → (kind ≡ Rounds → t ≡ Anywhere) → Facts kind k now live r.account.tenancy c s.words
        → Facts kind k now live r.account.tenancy (scanned_cycle t lies) scanned_words
    scanned_facts Run n t lies is f = absurd n
    scanned_facts Promote n t lies is f = absurd n
    scanned_facts Reset n t lies is f = absurd n
    scanned_facts Roots n t lies is f = absurd n
    scanned_facts Mark n t lies is f = mark_facts t lies f
    scanned_facts Rounds n t lies is f = rounds_facts t lies (is refl) f
    scanned_facts Decide n t lies is f = absurd n
    scanned_facts Queued n t lies is f = absurd n
    scanned_facts Clean n t lies is f = absurd n
    scanned_facts Lasts n t lies is f = absurd n
    scanned_facts Sweep n t lies is f = absurd n
    scanned_facts Answer n t lies is f = absurd n

    seen_others : (t : Site) (lies : LiesAt t x a) (z : ℕ) → z ≢ d → seen_on t lies z ≡ c.shares.seen z
    seen_others Anywhere lies z other = refl
    seen_others (Next pool class slot) lies z other = next_other k s r id hist x at a pool class slot lies z other

    seen_here : (t : Site) (lies : LiesAt t x a) → seen_on t lies d ≡ seen_by (places_seen_on t a sh.places_seen)
    seen_here Anywhere lies = (my_good k s r id hist x at).sharing.telling.seen waits
    seen_here (Next pool class slot) lies = next_is k s r id hist x at a pool class slot lies waits

    walked_on : (t : Site) (lies : LiesAt t x a) (q e i : ℕ) → r.account.tenancy.holder q ≡ owned d e → i < blocks_of e → IsBefore q i (walk_on t sh.walk) → IsTrue (seen_by (places_seen_on t a sh.places_seen) (place_in q e i))
    walked_on Anywhere lies = kn.walked
    walked_on (Next pool class slot) lies = next_walked k s r id hist x at a pool class slot lies

    recoloured : Recolours k s r id hist x at (in_mark may.kind may.stage may.scanning) a p new m' c.shares.owes follows' (seen_on site may.lies) (held done) sh.waiting
    recoloured =
        let cs : Colours = c.paint.colours in
        let is : m.marked p.label ≡ true = g.marked in
        let n = known_still k s r id hist x at (in_mark may.kind may.stage may.scanning) a p new m' g.lives g.marked (λ l h. h) in record {
          lives = g.lives;
          here = record {
            scanned = true;
            packs = may.marks ∙ (ap (λ (z : Colours). head_word (head_of None may.shape z.marked true)) means ∙ (ap (λ (z : Shape). head_word (head_of None z cs.marked true)) (sym same.shape)
                ∙ (sym (ap (λ (b : Bool). head_word (head_of None p.shape (cond b cs.marked cs.unmarked) true)) is)
                ∙ sym (ap (λ (o : Option ℕ). head_word (head_of o p.shape (colour_in (record c.paint { marks = m' }) p.label) true)) (bare k s r id hist x at (in_mark may.kind may.stage may.scanning) a p g.lives).no_forward))));
            tells = λ _ _. is_scanned;
          };
          elsewhere = λ l differ. (refl, ap (λ (b : Bool). b || m.scanned l) (same_label-false p.label l differ));
          marked = g.marked;
          more = λ l h. h;
          still = λ e. absurd (unclean e);
          facts = subst (λ (kind : Kind). Facts kind k now live r.account.tenancy (scanned_cycle site may.lies) scanned_words) (sym kind_is)
              (scanned_facts may.kind may.scanning site may.lies may.anywhere (subst (λ (kind : Kind). Facts kind k now live r.account.tenancy c s.words) kind_is r.whole.cycle.facts));
          others = λ z other. (refl, settles_other k s r id hist x at a z other, seen_others site may.lies z other);
          owes_is = let o : OwesAs (c.shares.owes d) (c.shares.follows d) sh.owes sh.account = (my_good k s r id hist x at).sharing.telling.owes waits in record { owes = o.owes; follows = settles_own k s r id hist x at a o.follows };
          seen_is = seen_here site may.lies;
          knows = record { found_head = n.found_head; scan = tt; walked = walked_on site may.lies; own_pool = n.own_pool; rooted = n.rooted; marked = n.marked; looking = looks_still k s r id hist x at (in_mark may.kind may.stage may.scanning) m' (held done) (λ e. absurd (unclean e)) refl (λ b e. absurd (none-some b e)) };
          queued = queue_still k s r id hist x at (in_mark may.kind may.stage may.scanning) m' (λ l h. h);
          grows = grows_still k s r id hist x at (in_mark may.kind may.stage may.scanning);
        }

    scanned_rule : Rule k record { words = scanned_words; homes = s.homes; views = set s.views id (one k hist (with_share x done)) }
    scanned_rule = recolours k s r id hist x at (in_mark may.kind may.stage may.scanning) a p new m' c.shares.owes follows' (seen_on site may.lies) (held done) sh.waiting recoloured

  -- the changed word
  module _ (may : ChangedMay x) where
    abbrev words1 : List ℕ
    words1 = set s.words 3 1

    abbrev owes1 : ℕ → Bool
    owes1 = at_domain c.shares.owes d false

    abbrev follows1 : ℕ → ℕ → Bool
    follows1 = at_domain c.shares.follows d (λ b. false)

    stored_facts : (kind : Kind) → IsChanging kind → Facts kind k now live r.account.tenancy c s.words → Facts kind k now live r.account.tenancy (record c { shares = record c.shares { changed = true; owes = owes1; follows = follows1 } }) words1
    stored_facts Run n f = absurd n
    stored_facts Promote n f = absurd n
    stored_facts Reset n f = absurd n
    stored_facts Roots n f = absurd n
    stored_facts Mark n f = (darkening_steps.mark_stores c.pass k.domains now (cycle_of k live r.account.tenancy.holder c) f.0 d, f.1)
    stored_facts Rounds n f = (darkening_steps.rounds_stores c.pass k.domains now (cycle_of k live r.account.tenancy.holder c) f.0 d, f.1)
    stored_facts Decide n f = absurd n
    stored_facts Queued n f = (darkening_steps.queued_stores k.domains now (cycle_of k live r.account.tenancy.holder c) f.0 d, f.1)
    stored_facts Clean n f = absurd n
    stored_facts Lasts n f = absurd n
    stored_facts Sweep n f = absurd n
    stored_facts Answer n f = absurd n

    abbrev paid : Share
    paid = record sh { owes = false; account = [] }

    stored_rule : Rule k record { words = words1; homes = s.homes; views = set s.views id (one k hist (with_share x paid)) }
    stored_rule =
        let kind_is : c.kind ≡ may.kind = kind_here k s r id hist x at may.kind may.stage in
        let collecting : IsCollecting x.seen.stage = subst IsCollecting (sym may.stage) (changing_cycle may.kind may.changing) in
        let other : (i : ℕ) → i ≢ 3 → get_or words1 i 0 ≡ get_or s.words i 0 = (λ i differ. get_or-set_other s.words 3 i 1 0 differ) in
        let spot : 3 < length s.words = (let w : ℕ = heap_words k in let b : ℕ = before_heap k in let e : length s.words ≡ 1 + b + w = r.whole.wide in let o : 10 ≤ b = omega arith in omega arith) in
        let u : Untouched s.words words1 = (length-set s.words 3 1, λ i low not_ended. other i (λ e. omega arith)) in
        shifts_more k s r id hist x at collecting true owes1 follows1 c.shares.seen (held paid) words1 u (other 0 (λ e. omega arith)) (other 1 (λ e. omega arith)) (other 2 (λ e. omega arith))
        (get_or-set_same s.words 3 1 0 spot)
        (subst (λ (kind : Kind). Facts kind k now live r.account.tenancy (record c { shares = record c.shares { changed = true; owes = owes1; follows = follows1 } }) words1) (sym kind_is) (stored_facts may.kind may.changing (subst (λ (kind : Kind). Facts kind k now live r.account.tenancy c s.words) kind_is r.whole.cycle.facts)))
        (λ marking. let g = stored_grows (pool_labels k live) c.before m c.shares (r.whole.cycle.grows.since marking (unnamed k s r id hist x at collecting)) d (((my_good k s r id hist x at).sharing.telling.owes (waits_in k s r id hist x at may.kind may.stage)).owes ∙ may.owes) in record { stays = g.stays; changed = g.changed; owing = g.owing })
        (λ z differ. (at_other c.shares.owes d false z differ, at_other c.shares.follows d (λ b. false) z differ, refl))
        (record { owes = at_same c.shares.owes d false; follows = λ b is. subst (λ (g : ℕ → Bool). IsTrue (g b)) (at_same c.shares.follows d (λ b. false)) is })
        ((my_good k s r id hist x at).sharing.telling.seen (waits_in k s r id hist x at may.kind may.stage))
        record {
          found_head = λ g q e lives. ⊎_elim (λ (same : at_address k s.words g.address ≡ g.word). inl (other (before_heap k + g.address) (λ e. omega arith) ∙ same)) (λ is. inr is) (kn.found_head g q e lives);
          scan = kn.scan;
          walked = kn.walked;
          own_pool = kn.own_pool;
          rooted = kn.rooted;
          marked = kn.marked;
          looking = looks_same k s r id hist x at collecting (held paid) refl refl;
        }
        (other 8 (λ e. omega arith))

pub scan_may : (k : Config) (x : DomainView) (word a : ℕ) → word ≡ before_heap k + a → ScanMay x a → MayStep k x word (λ n. n) (ScanTold k)
scan_may k x word a place may fits slots id hist s r _ at _ =
    let y : DomainView = with_share x (share' k s r id hist x at a may) in
    (one k hist y, keeps, tt, unmoved k s word (set s.views id (one k hist y)) (scan_rule k s r id hist x at a may), (subst (λ (n : ℕ). ScanTold k x (get_or s.words n 0) y) (sym place) (scan_told k s r id hist x at a may), refl))

pub scanned_may : (k : Config) (x : DomainView) (word a new : ℕ) (site : Site) → word ≡ before_heap k + a → ScannedMay x a new site → MayStore k x word new (ScannedTold a site)
scanned_may k x word a new site place may fits slots id hist s r _ at _ =
    let y : DomainView = with_share x (record x.seen.share { scan = Idle; account = settled a x.seen.share.account; places_seen = places_seen_on site a x.seen.share.places_seen; walk = walk_on site x.seen.share.walk }) in
    (one k hist y, keeps, tt, subst (λ (n : ℕ). Rule k record { words = set s.words n new; homes = s.homes; views = set s.views id (one k hist y) }) (sym place) (scanned_rule k s r id hist x at a new site may), (refl, refl))

pub changed_may : (k : Config) (x : DomainView) → ChangedMay x → MayStore k x 3 1 ChangedTold
changed_may k x may fits slots id hist s r _ at _ =
    let y : DomainView = with_share x (record x.seen.share { owes = false; account = [] }) in
    (one k hist y, keeps, tt, stored_rule k s r id hist x at may, (refl, refl))
