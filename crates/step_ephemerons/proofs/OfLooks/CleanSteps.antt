-- The loads by which a domain cleans its ephemerons keep the rule.
use Rattle.std.proofs.Common.{◌≡◌, ℕ, Bool, IsTrue, ◌+◌, List, true, false, length, set, slice_get, Some, Option, sym, refl, ap, ◌∙◌, subst, inl, inr, ⊎_elim, arith, add-one, true≢false, suc, not, cond, ◌==◌, eq-eqb}
use mathlib.Core.Option.{some}
use Rattle.model_cycle.proofs.Cycling.{taking_steps}
use lib.ListN.{get_elem?}
use Rattle.heap_rule.specs.declared.config.Config.{Config}
use Rattle.heap_rule.specs.declared.view.DomainView.{DomainView}
use Rattle.heap_rule.proofs.Keeps.{Words, my_good, unmoved}
use Rattle.heap_rule.specs.Rule.{Rule, state_of}
use Rattle.heap_rule.specs.Layout.{before_heap, at_address}
use Rattle.step_ephemerons.specs.Looks.Rounding.{place_seen}
use Rattle.model_core.specs.declared.entry.Entry.{Entry}
use Rattle.heap_rule.specs.Raw.{MayStep}
use Rattle.heap_rule.specs.Views.{one}
use Rattle.atomic_table.specs.Table.{keeps}
use Rattle.model_core.specs.declared.label.Label.{Label}
use Rattle.model_core.specs.declared.graph.Value.{Value}
use Rattle.model_core.specs.declared.graph.Node.{Node}
use Rattle.model_core.specs.declared.graph.Node.TheVariants.{Ephe}
use Rattle.heap_words.specs.declared.value.Value.TheVariants.{Int as IntWord, Ref, Nothing as NothingWord}
use Rattle.model_cycle.specs.Marks.{KeysMarked}
use Rattle.heap_rule.specs.declared.phase.Kind.{Kind}
use Rattle.heap_rule.specs.declared.phase.Kind.TheVariants.{Clean}
use Rattle.heap_rule.specs.Places.{Place, WordStands, Debt, HasValue, values_of, without_keys}
use Rattle.heap_rule.specs.Cycles.{Facts, IsCollecting, Knowing, cycle_of, seen_by}
use Rattle.heap_rule.proofs.Lists.{got_there}
use Rattle.heap_rule.proofs.Values.{address_of, packable}
use Rattle.step_marks.specs.Marking.Looks.{with_share}
use Rattle.step_marks.proofs.OfMarking.Learning.{load_may, bare, held, kind_here, knows_more, known}
use Rattle.heap_rule.specs.declared.phase.Stage.TheVariants.{In}
use Rattle.std.proofs.lemmas.Option.{none-some, same_Some}
use Rattle.heap_rule.specs.Ephemerons.{IsEpheAt, emptied_at, Cleans, NextIs}
use Rattle.std.proofs.lemmas.Bool.{cases_Bool}
use Rattle.model_core.specs.Commands.{key_value}
use Rattle.step_ephemerons.proofs.OfLooks.Listings.{inside_listed, node_listed, only_saw, StandsForKey, lives_listed, key_at, saw_place, sees_at, stands_for_key, owner_listed, walked_seen, one_label, own_listed}
use Rattle.step_marks.proofs.OfMarking.WalkSteps.{marked_case, unmarked_case}
use Rattle.std.specs.List.{list_any}
use Rattle.model_cycle.proofs.Progressing.{keys_end, found_passes, found_start}
use Rattle.heap_rule.specs.declared.view.Cleaning.{Cleaning}
use Rattle.model_core.specs.Entries.{wiped_keys}
use Rattle.model_core.specs.declared.state.State as model
use Rattle.heap_words.specs.declared.value.Value as words
use Rattle.step_ephemerons.specs.Looks.Emptying.{CleanEndMay, CleanKeyMay, CleanLabelMay, CleanLookMay, CleanMay, cleaning_on, CleanEndTold, CleanKeyTold, CleanLabelTold, CleanLookTold, CleanTold, cleaned, labelled, cleaning_from, key_read, key_passed}
use Rattle.model_cycle.specs.Progress.{KeysFound}
use Rattle.heap_rule.specs.declared.view.NextKey.{NextKey}
use Rattle.step_ephemerons.proofs.OfLooks.Keys.{without_ephe, no_places, wiped_other, not_emptied}
use Rattle.heap_rule.specs.declared.view.NextKey.TheVariants.{Unknown, Dead, Refers}
use Rattle.step_ephemerons.proofs.OfLooks.Cleaning.{cleans_on}

module _ (k : Config) (s : Words) (r : Rule k s) (id : ℕ) (hist : List Entry) (x : DomainView) (at : get_elem? s.views id ≡ some (one k hist x)) where
  open r.account use {live, tenancy.{holder}, cycling as c, cycling.{paint.{marks as m}}}
  open x use {own.{number as d}, seen.{share as sh}}

  abbrev now : model.State
  now = state_of k r.account.log

  abbrev After : DomainView → Type 0
  After y = Rule k record { words = s.words; homes = s.homes; views = set s.views id (one k hist y) }

  kn : Knowing k live holder now.graph m s.words d x.own.registers sh
  kn = known k s r id hist x at

  module _ (stage : x.seen.stage ≡ In Clean) where
    pub in_clean : IsCollecting x.seen.stage
    in_clean = subst IsCollecting (sym stage) (λ none. none)

    pub clean_kind : c.kind ≡ Clean
    clean_kind = kind_here k s r id hist x at Clean stage

    pub clean_facts : Facts Clean k now live r.account.tenancy c s.words
    clean_facts = subst (λ (kind : Kind). Facts kind k now live r.account.tenancy c s.words) clean_kind r.whole.cycle.facts

    -- a listed ephemeron is seen that has no unmarked key if it is marked
    seen_facts : (a : ℕ) (p : Place) → IsTrue (seen_by x.own.ephemerons.items a) → live a ≡ Some p → (IsTrue (m.marked p.label) → KeysMarked now.graph m.marked p.label)
        → Facts c.kind k now live r.account.tenancy (record c { shares = record c.shares { seen = sees_at k s r id hist x at a } }) s.words
    seen_facts a p listed lives follows = subst (λ (kind : Kind). Facts kind k now live r.account.tenancy (record c { shares = record c.shares { seen = sees_at k s r id hist x at a } }) s.words) (sym clean_kind) (
      taking_steps.clean_looks k.domains now (cycle_of k live holder c) clean_facts.0 d a (owner_listed k s r id hist x at a listed)
          (λ l there. subst (λ (z : Label). IsTrue (m.marked z) → KeysMarked now.graph m.marked z) (one_label k s r id hist x at a p l lives there) follows),
      record { unchanged = clean_facts.1.unchanged; unrotated = clean_facts.1.unrotated },
    )

    -- the domain cleans on
    cleans_rule : (w : Cleaning) → Cleans live now.graph m x.seen.stage x.own.ephemerons.items w → ((a : ℕ) → emptied_at (Some w) a ≡ emptied_at sh.cleaning a) → After (with_share x (cleaning_on w sh))
    cleans_rule w cleans same = let l = (my_good k s r id hist x at).sharing.looks in knows_more k s r id hist x at in_clean (held (cleaning_on w sh)) refl refl record {
      found_head = kn.found_head;
      scan = kn.scan;
      walked = kn.walked;
      own_pool = kn.own_pool;
      rooted = kn.rooted;
      marked = kn.marked;
      looking = record {
        at_own = l.at_own;
        cleans = λ v e. subst (Cleans live now.graph m x.seen.stage x.own.ephemerons.items) (same_Some w v e) cleans;
        emptied_is = λ a p own lives. l.emptied_is a p own lives ∙ sym (same a);
      };
    }

  -- the head of a listed ephemeron
  module _ (a : ℕ) (may : CleanMay x a) where
    ephe : IsEpheAt live a
    ephe = lives_listed k s r id hist x at a may.listed Clean tt (clean_kind may.stage) (clean_facts may.stage).1.unrotated

    abbrev p : Place
    p = ephe.place

    begins : IsTrue (m.marked p.label) → Cleans live now.graph m x.seen.stage x.own.ephemerons.items (cleaning_from a ephe.keys)
    begins marked = let n = node_listed k s r id hist x at a ephe in record {
      stage_is = may.stage;
      listed = may.listed;
      place = p;
      lives = ephe.lives;
      label = λ l e. absurd (none-some l e);
      marked = marked;
      keys = n.0;
      datum = n.1;
      node = n.2;
      count_is = n.3;
      through = found_start m.marked n.0;
      next = tt;
    }

    no_keys : (b : Bool) → cond b no_places no_places ≡ no_places
    no_keys true = refl
    no_keys false = refl

    pub clean_told : (y : DomainView) × After y × CleanTold k a x (at_address k s.words a) y
    clean_told = ⊎_elim
        (λ (e : m.marked p.label ≡ true). let b = marked_case k s r id hist x at may.colours may.known (in_clean may.stage) a p ephe.lives e in (
          with_share x (cleaning_on (cleaning_from a ephe.keys) sh),
          cleans_rule may.stage (cleaning_from a ephe.keys) (begins e) (λ q. no_keys (q == a) ∙ sym (ap (λ (o : Option Cleaning). emptied_at o q) may.none)),
          record { colours = may.colours; known = may.known; told = inr (ephe.keys, record { block = b.0; shape = b.1 ∙ ephe.shape }, inside_listed k s r id hist x at a ephe, refl) },
        ))
        (λ (e : m.marked p.label ≡ false). (
          with_share x (place_seen a sh),
          only_saw k s r id hist x at (in_clean may.stage) a (seen_facts may.stage a p may.listed ephe.lives (λ marked. absurd (true≢false (sym marked ∙ e)))),
          record { colours = may.colours; known = may.known; told = inl (unmarked_case k s r id hist x at may.colours may.known (in_clean may.stage) a p ephe.lives e, refl) },
        ))
        (cases_Bool (m.marked p.label))

  -- the ephemeron that it cleans
  module _ (w : Cleaning) (is : sh.cleaning ≡ Some w) where
    pub cl : Cleans live now.graph m x.seen.stage x.own.ephemerons.items w
    cl = (my_good k s r id hist x at).sharing.looks.cleans w is

    -- the keys that it has emptied are those that the words miss
    pub misses : c.paint.emptied cl.place.label ≡ w.emptied
    misses = (my_good k s r id hist x at).sharing.looks.emptied_is w.block cl.place (own_listed k s r id hist x at w.block cl.listed) cl.lives
        ∙ (ap (λ (o : Option Cleaning). emptied_at o w.block) is ∙ ap (λ (b : Bool). cond b w.emptied no_places) (eq-eqb w.block w.block refl))

    -- so these are the values in the words
    pub value_there : (i : ℕ) (v : Value) → slice_get (values_of (Ephe (wiped_keys w.emptied cl.keys) cl.datum)) i ≡ Some v → WordStands live (at_address k s.words (w.block + 2 + i)) v
    value_there i v got =
        let f = r.whole.found w.block cl.place cl.lives in
        let node : f.node ≡ Ephe cl.keys cl.datum = same_Some f.node (Ephe cl.keys cl.datum) (sym f.there ∙ cl.node) in
        let whole : without_keys (c.paint.emptied cl.place.label) f.node ≡ Ephe (wiped_keys w.emptied cl.keys) cl.datum = (λ j. without_keys (misses j) (node j)) ∙ without_ephe w.emptied cl.keys cl.datum in
        f.values i v (subst (λ (o : Option Debt). HasValue o i) (sym (bare k s r id hist x at (in_clean cl.stage_is) w.block cl.place cl.lives).no_debt) tt) (ap (λ (n : Node). slice_get (values_of n) i) whole ∙ got)

    -- further in it
    pub cleans_with : (done : ℕ) (emptied : List ℕ) (next : NextKey) → KeysFound m.marked cl.keys done emptied → NextIs live m cl.keys done next → Cleans live now.graph m x.seen.stage x.own.ephemerons.items (record w { done = done; emptied = emptied; next = next })
    cleans_with done emptied next through next_is = cleans_on live now.graph m x.seen.stage x.own.ephemerons.items w cl done emptied next through next_is

    further : (done : ℕ) (next : NextKey) → KeysFound m.marked cl.keys done w.emptied → NextIs live m cl.keys done next → After (with_share x (cleaning_on (record w { done = done; next = next }) sh))
    further done next through next_is = cleans_rule cl.stage_is (record w { done = done; next = next }) (cleans_with done w.emptied next through next_is) (λ a. sym (ap (λ (o : Option Cleaning). emptied_at o a) is))

    passes : ((l : Label) → slice_get cl.keys w.done ≡ Some (Some l) → IsTrue (m.marked l)) → KeysFound m.marked cl.keys (w.done + 1) w.emptied
    passes here = subst (λ (i : ℕ). KeysFound m.marked cl.keys i w.emptied) (sym (add-one w.done)) (found_passes m.marked cl.keys w.done w.emptied cl.through here)

  -- the next key
  module _ (a : ℕ) (may : CleanKeyMay x a) where
    abbrev w : Cleaning
    w = may.cleaning

    e : Cleans live now.graph m x.seen.stage x.own.ephemerons.items w
    e = cl w may.cleans

    key : (o : Option Label) × (slice_get e.keys w.done ≡ Some o)
    key = got_there e.keys w.done (let n : ℕ = length e.keys in let f : n ≡ w.count = e.count_is in let h = may.more in omega arith)

    address_is : a ≡ w.block + 2 + suc w.done
    address_is = let f : a ≡ w.block + 3 + w.done = may.word in omega arith

    stands : WordStands live (at_address k s.words (w.block + 2 + suc w.done)) (key_value key.0)
    unfolding e
    stands = value_there w may.cleans (suc w.done) (key_value key.0) (key_at (wiped_keys w.emptied e.keys) e.datum w.done key.0 (wiped_other w.emptied e.keys w.done (not_emptied m.marked e.keys w.done w.emptied e.through) ∙ key.1))

    says : StandsForKey live stands.value key.0
    says = stands_for_key live stands.value key.0 stands.stands

    key_rule : After (with_share x (cleaning_on (key_read stands.value w) sh))
    unfolding e
    key_rule = go stands.value refl
      where
        go : (v : words.Value) → stands.value ≡ v → After (with_share x (cleaning_on (key_read v w) sh))
        go (IntWord z) is = absurd (says.no_integer z is)
        go NothingWord is = further w may.cleans (w.done + 1) Unknown (passes w may.cleans (λ l f. absurd (none-some l (sym (says.empty is) ∙ same_Some key.0 (Some l) (sym key.1 ∙ f))))) tt
        go (Ref b) is = let t = says.full b is in further w may.cleans w.done (Refers b) e.through (t.0, t.1, key.1 ∙ ap Some t.2)

    key_says : CleanKeyTold k x (at_address k s.words a) (with_share x (cleaning_on (key_read stands.value w) sh))
    key_says = record {
      cleaning = w;
      cleans = may.cleans;
      value = stands.value;
      packable = packable k r.limits live r.whole.placed stands.value (key_value key.0) stands.stands;
      word = ap (at_address k s.words) address_is ∙ stands.packs;
      inside = λ b is. let t = says.full b is in address_of k b t.0 (r.whole.placed.fits b t.0 t.1);
      view = refl;
    }

    pub key_told : (y : DomainView) × After y × CleanKeyTold k x (at_address k s.words a) y
    key_told = (with_share x (cleaning_on (key_read stands.value w) sh), key_rule, key_says)

  -- the head of the block to which the next key refers
  module _ (a : ℕ) (may : CleanLookMay x a) where
    abbrev v : Cleaning
    v = may.cleaning

    g : Cleans live now.graph m x.seen.stage x.own.ephemerons.items v
    g = cl v may.cleans

    target : (q : Place) × (live a ≡ Some q) × (slice_get g.keys v.done ≡ Some (Some q.label))
    target = subst (NextIs live m g.keys v.done) may.refers g.next

    pub look_told : (y : DomainView) × After y × CleanLookTold x (at_address k s.words a) y
    unfolding g
    look_told = ⊎_elim
        (λ (f : m.marked target.0.label ≡ true). (
          with_share x (cleaning_on (key_passed v) sh),
          further v may.cleans (v.done + 1) Unknown (passes v may.cleans (λ l got. let one_key : Some (Some target.0.label) ≡ Some (Some l) = sym target.2 ∙ got in let label : target.0.label ≡ l = cc in subst (λ (z : Label). IsTrue (m.marked z)) label f)) tt,
          record { cleaning = v; cleans = may.cleans; colours = may.colours; known = may.known; told = inl ((marked_case k s r id hist x at may.colours may.known (in_clean g.stage_is) a target.0 target.1 f).0, refl) },
        ))
        (λ (f : m.marked target.0.label ≡ false). (
          with_share x (cleaning_on (record v { next = Dead }) sh),
          further v may.cleans v.done Dead g.through (target.0.label, target.2, ap not f),
          record { cleaning = v; cleans = may.cleans; colours = may.colours; known = may.known; told = inr (unmarked_case k s r id hist x at may.colours may.known (in_clean g.stage_is) a target.0 target.1 f, refl) },
        ))
        (cases_Bool (m.marked target.0.label))

  -- the label
  module _ (a : ℕ) (may : CleanLabelMay x a) where
    abbrev z : Cleaning
    z = may.cleaning

    h : Cleans live now.graph m x.seen.stage x.own.ephemerons.items z
    h = cl z may.cleans

    known_now : Cleans live now.graph m x.seen.stage x.own.ephemerons.items (labelled h.place.label z)
    known_now = record {
      stage_is = h.stage_is;
      listed = h.listed;
      place = h.place;
      lives = h.lives;
      label = λ l e. same_Some h.place.label l e;
      marked = h.marked;
      keys = h.keys;
      datum = h.datum;
      node = h.node;
      count_is = h.count_is;
      through = h.through;
      next = h.next;
    }

    pub label_told : (y : DomainView) × After y × CleanLabelTold x (at_address k s.words a) y
    label_told = (
      with_share x (cleaning_on (labelled h.place.label z) sh),
      cleans_rule h.stage_is (labelled h.place.label z) known_now (λ q. sym (ap (λ (o : Option Cleaning). emptied_at o q) may.cleans)),
      record {
        cleaning = z;
        cleans = may.cleans;
        label = h.place.label;
        packable = (r.whole.placed.fits z.block h.place h.lives).label;
        word = ap (at_address k s.words) may.word ∙ (r.whole.found z.block h.place h.lives).label;
        view = refl;
      },
    )

  -- no key was emptied
  module _ (a : ℕ) (may : CleanEndMay x a) where
    abbrev u : Cleaning
    u = may.cleaning

    f : Cleans live now.graph m x.seen.stage x.own.ephemerons.items u
    f = cl u may.cleans

    all_marked : KeysMarked now.graph m.marked f.place.label
    all_marked = keys_end now.graph m.marked f.place.label f.keys f.datum u.done f.node
        (λ p l low got. f.through.others p l low got (ap (list_any (λ q. q == p)) may.none))
        (let n : ℕ = length f.keys in let many : n ≡ u.count = f.count_is in let all : u.done ≡ u.count = may.all in omega arith)

    no_more : (b : Bool) → cond b u.emptied no_places ≡ no_places
    no_more true = may.none
    no_more false = refl

    pub end_rule : After (with_share x (cleaned u.block sh))
    end_rule = let l = (my_good k s r id hist x at).sharing.looks in saw_place k s r id hist x at (in_clean f.stage_is) u.block (held (cleaned u.block sh)) refl refl (seen_facts f.stage_is u.block f.place f.listed f.lives (λ _. all_marked)) record {
      found_head = kn.found_head;
      scan = kn.scan;
      walked = walked_seen k s r id hist x at u.block;
      own_pool = kn.own_pool;
      rooted = kn.rooted;
      marked = kn.marked;
      looking = record {
        at_own = l.at_own;
        cleans = λ v e. absurd (none-some v e);
        emptied_is = λ b p own lives. l.emptied_is b p own lives ∙ (ap (λ (o : Option Cleaning). emptied_at o b) may.cleans ∙ no_more (b == u.block));
      };
    }

pub clean_may : (k : Config) (x : DomainView) (word a : ℕ) → word ≡ before_heap k + a → CleanMay x a → MayStep k x word (λ n. n) (CleanTold k a)
clean_may k x word a place may = load_may k x word a (CleanTold k a) place (λ s r id hist at. clean_told k s r id hist x at a may)

pub clean_key_may : (k : Config) (x : DomainView) (word a : ℕ) → word ≡ before_heap k + a → CleanKeyMay x a → MayStep k x word (λ n. n) (CleanKeyTold k)
clean_key_may k x word a place may = load_may k x word a (CleanKeyTold k) place (λ s r id hist at. key_told k s r id hist x at a may)

pub clean_look_may : (k : Config) (x : DomainView) (word a : ℕ) → word ≡ before_heap k + a → CleanLookMay x a → MayStep k x word (λ n. n) CleanLookTold
clean_look_may k x word a place may = load_may k x word a CleanLookTold place (λ s r id hist at. look_told k s r id hist x at a may)

pub clean_label_may : (k : Config) (x : DomainView) (word a : ℕ) → word ≡ before_heap k + a → CleanLabelMay x a → MayStep k x word (λ n. n) CleanLabelTold
clean_label_may k x word a place may = load_may k x word a CleanLabelTold place (λ s r id hist at. label_told k s r id hist x at a may)

pub clean_end_may : (k : Config) (x : DomainView) (word a : ℕ) → word ≡ before_heap k + a → CleanEndMay x a → MayStep k x word (λ n. n) CleanEndTold
clean_end_may k x word a place may fits slots id hist s r _ at _ =
    let y : DomainView = with_share x (cleaned may.cleaning.block x.seen.share) in
    (one k hist y, keeps, tt, unmoved k s word (set s.views id (one k hist y)) (end_rule k s r id hist x at a may), (record { cleaning = may.cleaning; cleans = may.cleans; view = refl }, refl))
