-- The looks at an ephemeron in Rounds keep the rule.
use Rattle.std.proofs.Common.{◌≡◌, ℕ, Bool, IsTrue, ◌+◌, List, true, false, length, get_or, set, slice_get, Some, Option, None, sym, refl, ap, ◌∙◌, subst, inl, inr, ⊎_elim, arith, add-one, true≢false, ◌∷◌, suc, option_to_list, not}
use mathlib.Core.Option.{some}
use lib.ListN.{get_elem?}
use Rattle.heap_rule.specs.declared.config.Config.{Config}
use Rattle.heap_rule.specs.declared.view.DomainView.{DomainView}
use Rattle.heap_rule.proofs.Keeps.{Words, my_good, unmoved}
use Rattle.heap_rule.specs.Rule.{Rule, state_of}
use Rattle.heap_rule.specs.Layout.{before_heap, at_address}
use Rattle.step_ephemerons.specs.Looks.Rounding.{DatumMay, EphemeronMay, KeyLookMay, KeyMay, DatumTold, EphemeronTold, KeyLookTold, KeyTold, datum_on, key_on, looked_through, datum_of, next_key, place_seen}
use Rattle.model_core.specs.declared.entry.Entry.{Entry}
use Rattle.heap_rule.specs.Raw.{MayStep}
use Rattle.heap_rule.specs.Views.{one}
use Rattle.atomic_table.specs.Table.{keeps}
use Rattle.model_core.specs.declared.label.Label.{Label}
use Rattle.model_core.specs.declared.graph.Value.TheVariants.{Block}
use Rattle.model_core.specs.declared.graph.Node.{Node}
use Rattle.model_core.specs.declared.graph.Node.TheVariants.{Ephe}
use Rattle.model_core.specs.Reach.{HoldsRoots}
use Rattle.heap_words.specs.declared.value.Value.TheVariants.{Int as IntWord, Ref, Nothing as NothingWord}
use Rattle.model_cycle.specs.Marks.{DataMarked, data_of, KeysMarked}
use Rattle.model_cycle.proofs.Cycling.{darkening_steps}
use Rattle.heap_rule.specs.declared.phase.Kind.{Kind}
use Rattle.heap_rule.specs.declared.phase.Kind.TheVariants.{Rounds, Clean}
use Rattle.heap_rule.specs.declared.view.Scan.{Scan}
use Rattle.heap_rule.specs.declared.view.Share.{Share}
use Rattle.heap_rule.specs.Places.{Place, Stands, WordStands, IsNoBlock}
use Rattle.heap_rule.specs.Cycles.{Facts, IsCollecting, Knowing, Scans, cycle_of, seen_by, KeysAt, KeyAt}
use Rattle.heap_rule.proofs.Lists.{got_there}
use Rattle.heap_rule.proofs.Values.{address_of, packable, stands_block, no_label}
use Rattle.step_marks.specs.Marking.Looks.{with_share}
use Rattle.step_marks.proofs.OfMarking.Learning.{load_may, bare, held, kind_here, knows_more, known, looks_still, whole_in, Held}
use Rattle.heap_rule.specs.declared.phase.Stage.TheVariants.{In}
use Rattle.heap_rule.specs.Pools.{place_in}
use Rattle.std.proofs.lemmas.Option.{none-some, same_Some}
use Rattle.heap_rule.specs.Ephemerons.{ephemeron_of, IsEpheAt}
use Rattle.std.proofs.lemmas.Bool.{cases_Bool}
use Rattle.step_marks.specs.Marking.Marking.{seen_through}
use Rattle.step_marks.proofs.OfMarking.WalkSteps.{marked_case, unmarked_case}
use Rattle.heap_rule.specs.declared.view.Scan.TheVariants.{Keys}
use Rattle.model_core.specs.Commands.{key_value}
use Rattle.model_core.specs.declared.state.State as model
use Rattle.heap_words.specs.declared.value.Value as words
use Rattle.model_cycle.specs.Progress.{KeysDone}
use Rattle.step_ephemerons.proofs.OfLooks.Listings.{inside_listed, node_listed, only_saw, StandsForKey, lives_listed, value_word_at, key_at, saw_place, sees_at, stands_for_key, owner_listed, walked_seen, one_label}
use Rattle.model_cycle.proofs.Progressing.{keys_start, keys_next, keys_fail}

module _ (k : Config) (s : Words) (r : Rule k s) (id : ℕ) (hist : List Entry) (x : DomainView) (at : get_elem? s.views id ≡ some (one k hist x)) (stage : x.seen.stage ≡ In Rounds) where
  open r.account use {live, tenancy.{holder}, cycling as c, cycling.{paint.{marks as m}}}
  open x use {own.{number as d}, seen.{share as sh}}

  abbrev now : model.State
  now = state_of k r.account.log

  abbrev After : DomainView → Type 0
  After y = Rule k record { words = s.words; homes = s.homes; views = set s.views id (one k hist y) }

  kn : Knowing k live holder now.graph m s.words d x.own.registers sh
  kn = known k s r id hist x at

  collecting : IsCollecting x.seen.stage
  collecting = subst IsCollecting (sym stage) (λ none. none)

  kind_is : c.kind ≡ Rounds
  kind_is = kind_here k s r id hist x at Rounds stage

  facts : Facts Rounds k now live r.account.tenancy c s.words
  facts = subst (λ (kind : Kind). Facts kind k now live r.account.tenancy c s.words) kind_is r.whole.cycle.facts

  not_clean : c.kind ≡ Clean → ⊥
  not_clean e = let clash : Rounds ≡ Clean = sym kind_is ∙ e in cc

  -- what was marked when the phase began is marked
  stays : (l : Label) → IsTrue (c.before l) → IsTrue (m.marked l)
  stays l = facts.0.rounds.stays l

  -- a listed ephemeron is seen whose datum is marked if it and its full keys were marked before
  seen_facts : (a : ℕ) (p : Place) → IsTrue (seen_by x.own.ephemerons.items a) → live a ≡ Some p → (IsTrue (c.before p.label) → KeysMarked now.graph c.before p.label → DataMarked now.graph m.marked p.label)
      → Facts c.kind k now live r.account.tenancy (record c { shares = record c.shares { seen = sees_at k s r id hist x at a } }) s.words
  seen_facts a p listed lives follows = subst (λ (kind : Kind). Facts kind k now live r.account.tenancy (record c { shares = record c.shares { seen = sees_at k s r id hist x at a } }) s.words) (sym kind_is) (
    darkening_steps.rounds_looks c.pass k.domains now (cycle_of k live holder c) facts.0 d a (owner_listed k s r id hist x at a listed)
        (λ l there. subst (λ (z : Label). IsTrue (c.before z) → KeysMarked now.graph c.before z → DataMarked now.graph m.marked z) (one_label k s r id hist x at a p l lives there) follows),
    facts.1,
  )

  -- it is at an ephemeron of its list
  listed_of : (a : ℕ) → ephemeron_of sh.scan ≡ Some a → IsTrue (seen_by x.own.ephemerons.items a)
  listed_of a is = (my_good k s r id hist x at).sharing.looks.at_own a is

  -- the look at an ephemeron ends
  ends_rule : (block : ℕ) (p : Place) (h : Held) → h ≡ held (looked_through sh) → ephemeron_of sh.scan ≡ Some block → seen_through sh.scan sh.places_seen ≡ block ∷ sh.places_seen → live block ≡ Some p
      → (IsTrue (c.before p.label) → KeysMarked now.graph c.before p.label → DataMarked now.graph m.marked p.label) → After (with_share x (looked_through sh))
  ends_rule block p h is_ended is through lives follows = saw_place k s r id hist x at collecting block (held (looked_through sh)) refl (sym through) (seen_facts block p (listed_of block is) lives follows) record {
    found_head = kn.found_head;
    scan = tt;
    walked = λ q e slot own inside low. subst (λ (l : List ℕ). IsTrue (seen_by l (place_in q e slot))) (sym through) (walked_seen k s r id hist x at block q e slot own inside low);
    own_pool = kn.own_pool;
    rooted = kn.rooted;
    marked = kn.marked;
    looking = looks_still k s r id hist x at collecting m (held (looked_through sh)) (λ _. refl) refl (λ b e. absurd (none-some b e));
  }

  -- and one that goes on with it
  goes_rule : (scan : Scan) → Scans live now.graph m scan → ((a : ℕ) → ephemeron_of scan ≡ Some a → IsTrue (seen_by x.own.ephemerons.items a)) → After (with_share x (record sh { scan = scan }))
  goes_rule scan scans own = knows_more k s r id hist x at collecting (held (record sh { scan = scan })) refl refl record {
    found_head = kn.found_head;
    scan = scans;
    walked = kn.walked;
    own_pool = kn.own_pool;
    rooted = kn.rooted;
    marked = kn.marked;
    looking = looks_still k s r id hist x at collecting m (held (record sh { scan = scan })) (λ _. refl) refl own;
  }

  -- the head of a listed ephemeron
  module _ (a : ℕ) (may : EphemeronMay x a) where
    ephe : IsEpheAt live a
    ephe = lives_listed k s r id hist x at a may.listed Rounds tt kind_is facts.1

    abbrev p : Place
    p = ephe.place

    begins : IsTrue (m.marked p.label) → KeysAt live now.graph m a 0 ephe.keys
    begins marked = let n = node_listed k s r id hist x at a ephe in record {
      place = p;
      lives = ephe.lives;
      marked = marked;
      keys = n.0;
      datum = n.1;
      node = n.2;
      count_is = n.3;
      through = keys_start m.marked n.0;
    }

    pub ephemeron_told : (y : DomainView) × After y × EphemeronTold k a x (at_address k s.words a) y
    ephemeron_told = ⊎_elim
        (λ (e : m.marked p.label ≡ true). let b = marked_case k s r id hist x at may.colours may.known collecting a p ephe.lives e in (
          with_share x (record sh { scan = Keys a 0 ephe.keys }),
          goes_rule (Keys a 0 ephe.keys) (begins e) (λ b is. let same : a ≡ b = same_Some a b is in subst (λ (z : ℕ). IsTrue (seen_by x.own.ephemerons.items z)) same may.listed),
          record { colours = may.colours; known = may.known; told = inr (ephe.keys, record { block = b.0; shape = b.1 ∙ ephe.shape }, inside_listed k s r id hist x at a ephe, refl) },
        ))
        (λ (e : m.marked p.label ≡ false). (
          with_share x (place_seen a sh),
          only_saw k s r id hist x at collecting a (seen_facts a p may.listed ephe.lives (λ before _. absurd (true≢false (sym (stays p.label before) ∙ e)))),
          record { colours = may.colours; known = may.known; told = inl (unmarked_case k s r id hist x at may.colours may.known collecting a p ephe.lives e, refl) },
        ))
        (cases_Bool (m.marked p.label))

  -- the next key
  module _ (a : ℕ) (may : KeyMay x a) where
    f : KeysAt live now.graph m may.block may.done may.count
    f = subst (Scans live now.graph m) may.scan kn.scan

    key : (o : Option Label) × (slice_get f.keys may.done ≡ Some o)
    key = got_there f.keys may.done (let n : ℕ = length f.keys in let e : n ≡ may.count = f.count_is in let h = may.more in omega arith)

    address_is : a ≡ may.block + 2 + suc may.done
    address_is = let e : a ≡ may.block + 3 + may.done = may.word in omega arith

    stands : WordStands live (at_address k s.words (may.block + 2 + suc may.done)) (key_value key.0)
    stands = value_word_at k s r id hist x at may.block f.place f.lives (bare k s r id hist x at collecting may.block f.place f.lives) (whole_in k s r id hist x at not_clean f.place.label) (Ephe f.keys f.datum) f.node (suc may.done) (key_value key.0) (key_at f.keys f.datum may.done key.0 key.1)

    says : StandsForKey live stands.value key.0
    says = stands_for_key live stands.value key.0 stands.stands

    -- an empty key is done
    passes : key.0 ≡ None → KeysAt live now.graph m may.block (may.done + 1) may.count
    passes none = record {
      place = f.place;
      lives = f.lives;
      marked = f.marked;
      keys = f.keys;
      datum = f.datum;
      node = f.node;
      count_is = f.count_is;
      through = subst (KeysDone m.marked f.keys) (sym (add-one may.done)) (keys_next m.marked f.keys may.done f.through (λ l e. absurd (none-some l (sym none ∙ same_Some key.0 (Some l) (sym key.1 ∙ e)))));
    }

    on : (w : words.Value) → stands.value ≡ w → Scans live now.graph m (key_on (Keys may.block may.done may.count) w)
    on (IntWord z) e = absurd (says.no_integer z e)
    on NothingWord e = passes (says.empty e)
    on (Ref b) e = let t = says.full b e in record { reads = f; target = t.0; there = t.1; holds = key.1 ∙ ap Some t.2 }

    own_on : (w : words.Value) (b : ℕ) → ephemeron_of (key_on (Keys may.block may.done may.count) w) ≡ Some b → ephemeron_of (Keys may.block may.done may.count) ≡ Some b
    own_on (IntWord z) b e = e
    own_on NothingWord b e = e
    own_on (Ref c) b e = e

    share' : Share
    share' = record sh { scan = key_on sh.scan stands.value }

    key_rule : After (with_share x share')
    unfolding share'
    key_rule = goes_rule (key_on sh.scan stands.value) (subst (λ (z : Scan). Scans live now.graph m (key_on z stands.value)) (sym may.scan) (on stands.value refl))
        (λ b e. listed_of b (ap ephemeron_of may.scan ∙ own_on stands.value b (ap (λ (z : Scan). ephemeron_of (key_on z stands.value)) (sym may.scan) ∙ e)))

    key_told : KeyTold k x (at_address k s.words a) (with_share x share')
    unfolding share'
    key_told = record {
      value = stands.value;
      packable = packable k r.limits live r.whole.placed stands.value (key_value key.0) stands.stands;
      word = ap (at_address k s.words) address_is ∙ stands.packs;
      inside = λ b is. let t = says.full b is in address_of k b t.0 (r.whole.placed.fits b t.0 t.1);
      view = refl;
    }

  -- the head of the block to which the next key refers
  module _ (a : ℕ) (may : KeyLookMay x a) where
    g : KeyAt live now.graph m may.block may.done may.count a
    g = subst (Scans live now.graph m) may.scan kn.scan

    marked_on : m.marked g.target.label ≡ true → KeysAt live now.graph m may.block (may.done + 1) may.count
    marked_on is = record {
      place = g.reads.place;
      lives = g.reads.lives;
      marked = g.reads.marked;
      keys = g.reads.keys;
      datum = g.reads.datum;
      node = g.reads.node;
      count_is = g.reads.count_is;
      through = subst (KeysDone m.marked g.reads.keys) (sym (add-one may.done)) (keys_next m.marked g.reads.keys may.done g.reads.through
          (λ l e. let one_key : Some (Some g.target.label) ≡ Some (Some l) = sym g.holds ∙ e in let label : g.target.label ≡ l = cc in subst (λ (z : Label). IsTrue (m.marked z)) label is));
    }

    -- an unmarked key wasn't marked before either
    not_before : m.marked g.target.label ≡ false → IsTrue (not (c.before g.target.label))
    not_before e = go (c.before g.target.label) refl
      where
        go : (b : Bool) → c.before g.target.label ≡ b → IsTrue (not b)
        go true is = absurd (true≢false (sym (stays g.target.label is) ∙ e))
        go false is = refl

    pub key_look_told : (y : DomainView) × After y × KeyLookTold x (at_address k s.words a) y
    key_look_told = ⊎_elim
        (λ (e : m.marked g.target.label ≡ true). (
          with_share x (record sh { scan = next_key sh.scan }),
          goes_rule (next_key sh.scan) (subst (λ (z : Scan). Scans live now.graph m (next_key z)) (sym may.scan) (marked_on e))
              (λ b is. listed_of b (ap ephemeron_of may.scan ∙ (ap (λ (z : Scan). ephemeron_of (next_key z)) (sym may.scan) ∙ is))),
          record { colours = may.colours; known = may.known; told = inl ((marked_case k s r id hist x at may.colours may.known collecting a g.target g.there e).0, refl) },
        ))
        (λ (e : m.marked g.target.label ≡ false). (
          with_share x (looked_through sh),
          ends_rule may.block g.reads.place (held (looked_through sh)) refl (ap ephemeron_of may.scan) (ap (λ (z : Scan). seen_through z sh.places_seen) may.scan) g.reads.lives
              (λ _ full. absurd (keys_fail now.graph c.before g.reads.place.label g.reads.keys g.reads.datum may.done g.target.label g.reads.node g.holds (not_before e) full)),
          record { colours = may.colours; known = may.known; told = inr (unmarked_case k s r id hist x at may.colours may.known collecting a g.target g.there e, refl) },
        ))
        (cases_Bool (m.marked g.target.label))

  -- the datum
  module _ (a : ℕ) (may : DatumMay x a) where
    e : KeysAt live now.graph m may.block may.count may.count
    e = subst (Scans live now.graph m) may.scan kn.scan

    datum_stands : WordStands live (at_address k s.words (may.block + 2 + 0)) e.datum
    datum_stands = value_word_at k s r id hist x at may.block e.place e.lives (bare k s r id hist x at collecting may.block e.place e.lives) (whole_in k s r id hist x at not_clean e.place.label) (Ephe e.keys e.datum) e.node 0 e.datum refl

    share'' : Share
    share'' = datum_on sh datum_stands.value

    -- it is no block
    no_block : IsNoBlock datum_stands.value → After (with_share x (looked_through sh))
    no_block none = ends_rule may.block e.place (held (looked_through sh)) refl (ap ephemeron_of may.scan) (ap (λ (z : Scan). seen_through z sh.places_seen) may.scan) e.lives
        (λ _ _. subst (λ (z : Option Node). HoldsRoots (data_of z) m.marked) (sym e.node) (subst (λ (z : Option Label). HoldsRoots (option_to_list z) m.marked) (sym (no_label live datum_stands.value e.datum none datum_stands.stands)) (λ l has. cc)))

    datum_rule : After (with_share x share'')
    unfolding share''
    datum_rule = go datum_stands.value refl
      where
        go : (w : words.Value) → datum_stands.value ≡ w → After (with_share x (datum_on sh w))
        go (IntWord z) is = no_block (subst IsNoBlock (sym is) tt)
        go NothingWord is = no_block (subst IsNoBlock (sym is) tt)
        go (Ref b) is =
            let t = stands_block live b e.datum (subst (λ (z : words.Value). Stands live z e.datum) is datum_stands.stands) in
            goes_rule (datum_of sh.scan b) (subst (λ (z : Scan). Scans live now.graph m (datum_of z b)) (sym may.scan) record {
              place = e.place;
              lives = e.lives;
              marked = e.marked;
              keys = e.keys;
              datum = e.datum;
              node = e.node;
              through = subst (KeysDone m.marked e.keys) (sym e.count_is) e.through;
              target = t.1;
              there = t.3;
              holds = t.2 ∙ ap Block (sym t.4);
            }) (λ q f. listed_of q (ap ephemeron_of may.scan ∙ (ap (λ (z : Scan). ephemeron_of (datum_of z b)) (sym may.scan) ∙ f)))

    datum_told : DatumTold k x (at_address k s.words a) (with_share x share'')
    unfolding share''
    datum_told = record {
      value = datum_stands.value;
      packable = packable k r.limits live r.whole.placed datum_stands.value e.datum datum_stands.stands;
      word = ap (at_address k s.words) (let q : a ≡ may.block + 2 = may.word in let z : a ≡ may.block + 2 + 0 = omega arith in z) ∙ datum_stands.packs;
      inside = λ b is. let t = stands_block live b e.datum (subst (λ (z : words.Value). Stands live z e.datum) is datum_stands.stands) in address_of k b t.1 (r.whole.placed.fits b t.1 t.3);
      view = refl;
    }

pub ephemeron_may : (k : Config) (x : DomainView) (word a : ℕ) → word ≡ before_heap k + a → EphemeronMay x a → MayStep k x word (λ n. n) (EphemeronTold k a)
ephemeron_may k x word a place may = load_may k x word a (EphemeronTold k a) place (λ s r id hist at. ephemeron_told k s r id hist x at may.stage a may)

pub key_may : (k : Config) (x : DomainView) (word a : ℕ) → word ≡ before_heap k + a → KeyMay x a → MayStep k x word (λ n. n) (KeyTold k)
key_may k x word a place may fits slots id hist s r _ at _ =
    let y : DomainView = with_share x (share' k s r id hist x at may.stage a may) in
    (one k hist y, keeps, tt, unmoved k s word (set s.views id (one k hist y)) (key_rule k s r id hist x at may.stage a may), (subst (λ (n : ℕ). KeyTold k x (get_or s.words n 0) y) (sym place) (key_told k s r id hist x at may.stage a may), refl))

pub key_look_may : (k : Config) (x : DomainView) (word a : ℕ) → word ≡ before_heap k + a → KeyLookMay x a → MayStep k x word (λ n. n) KeyLookTold
key_look_may k x word a place may = load_may k x word a KeyLookTold place (λ s r id hist at. key_look_told k s r id hist x at may.stage a may)

pub datum_may : (k : Config) (x : DomainView) (word a : ℕ) → word ≡ before_heap k + a → DatumMay x a → MayStep k x word (λ n. n) (DatumTold k)
datum_may k x word a place may fits slots id hist s r _ at _ =
    let y : DomainView = with_share x (share'' k s r id hist x at may.stage a may) in
    (one k hist y, keeps, tt, unmoved k s word (set s.views id (one k hist y)) (datum_rule k s r id hist x at may.stage a may), (subst (λ (n : ℕ). DatumTold k x (get_or s.words n 0) y) (sym place) (datum_told k s r id hist x at may.stage a may), refl))
