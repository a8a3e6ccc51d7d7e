-- A block is darkened.
use Rattle.std.proofs.Common.{[], ◌≡◌, ◌≢◌, ℕ, ◌+◌, ◌==◌, ◌||◌, Bool, true, false, cond, IsTrue, eq-eqb, ne_eqb, List, get_or, set, Option, None, sym, refl, ap, ◌∙◌, subst, ⊎_elim}
use mathlib.Core.Logic.{dite}
use native.Mathlib.Decide.{ℕ_discrete}
use mathlib.Core.Option.{some}
use lib.ListN.{get_elem?}
use prog.Atomic.{either}
use Rattle.atomic_table.specs.Table.{keeps}
use Rattle.model_core.specs.declared.entry.Entry.{Entry}
use Rattle.model_core.specs.declared.state.State as model
use Rattle.model_core.specs.declared.label.Label.{Label}
use Rattle.model_core.specs.Fronts.{Shape}
use Rattle.model_core.specs.Graph.{same_label, node_at}
use Rattle.model_core.specs.Reach.{HoldsRoots, IsClosedGraph}
use Rattle.model_core.specs.Domains.{queues, roots, opening}
use Rattle.model_core.specs.WellFormed.{IsWellFormed}
use Rattle.model_core.proofs.Graphs.GraphLemmas.{same_label_refl, same_label-false}
use Rattle.model_core.proofs.Reach.ReachLemmas.{or_cases, or_left, or_right}
use Rattle.model_core.proofs.Histories.WellFormedLemmas.{wf_after, wf_opening, closed_graph, queues_named}
use Rattle.heap_words.specs.declared.colours.Colours.{Colours}
use Rattle.heap_words.specs.Heads.{head_word}
use Rattle.model_cycle.specs.Cycle as laws
use Rattle.model_cycle.specs.Cycle.{InPhase, with_marks, with_shares}
use Rattle.model_cycle.specs.Marks.{FieldsMarked, Marks, darkened, darkened_as, fields_of}
use Rattle.model_cycle.specs.Shares.{at_domain, following, owing}
use Rattle.model_cycle.specs.CycleLaws.{Darkens}
use Rattle.model_cycle.proofs.Tracing.{darkened_more, darkens_as, scanned_else, scanned_here}
use Rattle.model_cycle.proofs.Cycling.{darkening_steps}
use Rattle.model_cycle.specs.Ending.{IsGrowing}
use Rattle.model_cycle.proofs.Ending.{owing_grows}
use Rattle.heap_rule.proofs.Growing.{pooled}
use Rattle.heap_rule.specs.declared.config.Config.{Config}
use Rattle.heap_rule.specs.declared.phase.Kind.{Kind}
use Rattle.heap_rule.specs.declared.phase.Kind.TheVariants.{Run, Promote, Reset, Roots, Mark, Rounds, Decide, Queued, Clean, Lasts, Sweep, Answer}
use Rattle.heap_rule.specs.declared.view.DomainView.{DomainView}
use Rattle.heap_rule.specs.declared.view.Share.{Share}
use Rattle.heap_rule.specs.Limits.{sizes_in}
use Rattle.heap_rule.specs.Layout.{before_heap, at_address}
use Rattle.heap_rule.specs.Places.{IsHeadOf, IsOldAt, Place, colour_in, head_of, needs_no_scan}
use Rattle.heap_rule.specs.Cycles.{Cycling, Facts, HasNoCycle, IsCollecting, OwesAs, cycle_of, seen_by, IsMarking, pool_labels}
use Rattle.heap_rule.specs.Raw.{MayStep}
use Rattle.heap_rule.specs.Rule.{Rule, state_of}
use Rattle.heap_rule.specs.Views.{one}
use Rattle.heap_rule.proofs.Keeps.{Words, mine, my_good, unmoved}
use Rattle.step_marks.specs.Marking.Looks.{with_share}
use Rattle.step_marks.specs.Marking.Marking.{DarkenMay, DarkenTold, IsDarkening, darkening, Reason, Register, Field, OfDatum, OfQueue, Warrants, account_on, moved_on, owes_on, waiting_on}
use Rattle.step_marks.proofs.OfMarking.Colouring.{BareHead, Recolourable, bare_head, no_fields, unmarked_by, words_same}
use Rattle.step_marks.proofs.OfMarking.TargetSteps.{goes_on}
use Rattle.step_marks.proofs.OfMarking.Layouts.{label_there, owner_of_place}
use Rattle.step_marks.proofs.OfMarking.Learning.{at_other, at_same, bare, held, kind_here, known, lies_old, one_place, unnamed}
use Rattle.step_marks.proofs.OfMarking.Recolouring.{Recolours, known_still, recolours}
use Rattle.step_marks.proofs.OfMarking.Targets.{Target, datum_facts, moved_knows, sees_on, sees_others, sees_own, target, waiting_moved}
use Rattle.heap_rule.proofs.Stages.{waits_in}
use Rattle.heap_rule.specs.declared.phase.Stage.TheVariants.{In}

-- blocks are darkened in phases of a collection
collects : (kind : Kind) → IsDarkening kind → HasNoCycle kind → ⊥
collects Run n none = n
collects Promote n none = n
collects Reset n none = n
collects Roots n none = none
collects Mark n none = none
collects Rounds n none = none
collects Decide n none = n
collects Queued n none = none
collects Clean n none = n
collects Lasts n none = n
collects Sweep n none = n
collects Answer n none = n

-- who owes a store of the changed word then
abbrev owing_on : Kind → (ℕ → Bool) → ℕ → ℕ → Bool
owing_on Mark owes d = at_domain owes d true
owing_on Rounds owes d = at_domain owes d true
owing_on Queued owes d = at_domain owes d true
owing_on _ owes d = owes

owing_others : (kind : Kind) (owes : ℕ → Bool) (d z : ℕ) → z ≢ d → owing_on kind owes d z ≡ owes z
owing_others Run owes d z other = refl
owing_others Promote owes d z other = refl
owing_others Reset owes d z other = refl
owing_others Roots owes d z other = refl
owing_others Mark owes d z other = at_other owes d true z other
owing_others Rounds owes d z other = at_other owes d true z other
owing_others Decide owes d z other = refl
owing_others Queued owes d z other = at_other owes d true z other
owing_others Clean owes d z other = refl
owing_others Lasts owes d z other = refl
owing_others Sweep owes d z other = refl
owing_others Answer owes d z other = refl

owing_own : (kind : Kind) (owes : ℕ → Bool) (d : ℕ) (own : Bool) → owes d ≡ own → owing_on kind owes d d ≡ owes_on kind own
owing_own Run owes d own e = e
owing_own Promote owes d own e = e
owing_own Reset owes d own e = e
owing_own Roots owes d own e = e
owing_own Mark owes d own e = at_same owes d true
owing_own Rounds owes d own e = at_same owes d true
owing_own Decide owes d own e = e
owing_own Queued owes d own e = at_same owes d true
owing_own Clean owes d own e = e
owing_own Lasts owes d own e = e
owing_own Sweep owes d own e = e
owing_own Answer owes d own e = e

-- and which places each domain follows
abbrev following_on : Kind → (ℕ → ℕ → Bool) → ℕ → ℕ → ℕ → ℕ → Bool
following_on Mark follows d a = at_domain follows d (λ b. b == a || follows d b)
following_on _ follows d a = follows

following_others : (kind : Kind) (follows : ℕ → ℕ → Bool) (d a z : ℕ) → z ≢ d → following_on kind follows d a z ≡ follows z
following_others Run follows d a z other = refl
following_others Promote follows d a z other = refl
following_others Reset follows d a z other = refl
following_others Roots follows d a z other = refl
following_others Mark follows d a z other = at_other follows d (λ b. b == a || follows d b) z other
following_others Rounds follows d a z other = refl
following_others Decide follows d a z other = refl
following_others Queued follows d a z other = refl
following_others Clean follows d a z other = refl
following_others Lasts follows d a z other = refl
following_others Sweep follows d a z other = refl
following_others Answer follows d a z other = refl

following_own : (kind : Kind) (follows : ℕ → ℕ → Bool) (d a : ℕ) (account : List ℕ) → ((b : ℕ) → IsTrue (follows d b) → IsTrue (seen_by account b)) → (b : ℕ) → IsTrue (following_on kind follows d a d b) → IsTrue (seen_by (account_on kind a account) b)
following_own Run follows d a account f b is = f b is
following_own Promote follows d a account f b is = f b is
following_own Reset follows d a account f b is = f b is
following_own Roots follows d a account f b is = f b is
following_own Mark follows d a account f b is = ⊎_elim
    (λ (here : IsTrue (b == a)). or_left (b == a) (seen_by account b) here)
    (λ (old : IsTrue (follows d b)). or_right (b == a) (seen_by account b) (f b old))
    (or_cases (b == a) (follows d b) (subst (λ (g : ℕ → Bool). IsTrue (g b)) (at_same follows d (λ e. e == a || follows d e)) is))
following_own Rounds follows d a account f b is = f b is
following_own Decide follows d a account f b is = f b is
following_own Queued follows d a account f b is = f b is
following_own Clean follows d a account f b is = f b is
following_own Lasts follows d a account f b is = f b is
following_own Sweep follows d a account f b is = f b is
following_own Answer follows d a account f b is = f b is

module _ (k : Config) (s : Words) (r : Rule k s) (id : ℕ) (hist : List Entry) (x : DomainView) (at : get_elem? s.views id ≡ some (one k hist x)) (a old new : ℕ) (reason : Reason) (may : DarkenMay x a old new reason) where
  open r.account use {cycling as c, cycling.{paint.{marks as m}}}
  open x use {own.{number as d}}

  abbrev now : model.State
  now = state_of k r.account.log

  abbrev cyc : laws.Cycle
  cyc = cycle_of k r.account.live r.account.tenancy.holder c

  collecting : IsCollecting x.seen.stage
  collecting = subst IsCollecting (sym may.stage) (collects may.kind may.darkening)

  aim : Target k s r id hist x at a
  aim = target k s r id hist x at reason a may.reason_is

  abbrev p : Place
  p = aim.place

  means : may.colours ≡ c.paint.colours
  means = (my_good k s r id hist x at).sharing.telling.colours may.colours may.known

  there : BareHead c.paint p (at_address k s.words a)
  there = bare_head c.paint p (at_address k s.words a) (bare k s r id hist x at collecting a p aim.lives) r.whole.cycle.meanings (r.whole.placed.fits a p aim.lives).head (r.whole.found a p aim.lives).head

  old_at : IsOldAt k a
  old_at = lies_old k s r id hist x at collecting a p aim.lives

  -- where another head is found somebody has darkened the block
  lost_rule : at_address k s.words a ≢ old → Rule k record { words = s.words; homes = s.homes; views = set s.views id (one k hist (with_share x (moved_on reason a x.seen.share))) }
  lost_rule differ = goes_on k s r id hist x at collecting reason a may.reason_is p aim.lives
      (⊎_elim (λ (e : at_address k s.words a ≡ old). absurd (differ e)) (λ (e : IsTrue (m.marked p.label)). e) ((known k s r id hist x at).found_head (record { address = a; word = old }) p may.found aim.lives))

  -- the head that was found is that of an unmarked block
  module _ (won : at_address k s.words a ≡ old) where
    same : Recolourable p.shape may.unmarked.shape there.head.colour may.unmarked.head.colour there.head.scanned may.unmarked.head.scanned
    same = words_same p.shape may.unmarked.shape (at_address k s.words a) there.head (subst (IsHeadOf may.unmarked.shape) (sym won) may.unmarked.head)

    unmarked : m.marked p.label ≡ false
    unmarked = unmarked_by c.paint.colours (m.marked p.label) r.whole.cycle.meanings (sym there.colour ∙ (same.colour ∙ (may.unmarked.colour ∙ ap (λ (z : Colours). z.unmarked) means)))

    closed : IsClosedGraph now.graph (roots now (queues now))
    closed = let wf : IsWellFormed now = wf_after (opening (sizes_in k)) r.account.log (wf_opening (sizes_in k)) in closed_graph now wf (queues now) (queues_named now.graph now.domains (λ j. (wf.domains j).queue))

    darkens : (owner : ℕ) × Darkens k.domains now cyc d owner a p.label
    darkens =
        let l = r.whole.grid.lots a p aim.lives old_at in
        let by = r.whole.pools.owned_by l.pool l.domain l.class l.owned_is in (
          l.domain,
          record {
            graph = closed;
            inside = (mine k s r id hist x at).inside;
            acts = waits_in k s r id hist x at may.kind may.stage;
            owner_inside = by.1;
            lives = label_there k r.account.live a p aim.lives old_at;
            owned = ap (λ (b : ℕ). cyc.layout.owner b) l.begins ∙ owner_of_place r.account.tenancy.holder l.pool l.domain l.class l.slot by.2 l.owned_is l.inside;
            unmarked = unmarked;
            may = λ _. aim.may;
          },
        )

    -- a raw block is scanned at once
    abbrev done : Bool
    done = needs_no_scan p.shape

    abbrev m' : Marks
    m' = darkened_as done m p.label

    no_field : done ≡ true → fields_of (node_at now.graph p.label) ≡ []
    no_field e = let f = r.whole.found a p aim.lives in ap fields_of f.there ∙ no_fields f.node (ap needs_no_scan f.shape ∙ e)

    nothing_unmarked : done ≡ true → FieldsMarked now.graph (darkened m p.label).marked p.label
    nothing_unmarked e = subst (λ (ls : List Label). HoldsRoots ls (darkened m p.label).marked) (sym (no_field e)) (λ l h. cc)

    abbrev c' : Kind → Cycling
    c' kind = record c { paint = record c.paint { marks = m' }; shares = record c.shares { owes = owing_on kind c.shares.owes d; follows = following_on kind c.shares.follows d a } }

    abbrev words' : List ℕ
    words' = set s.words (before_heap k + a) new

    dark_facts : (kind : Kind) → IsDarkening kind → Facts kind k now r.account.live r.account.tenancy c s.words → Facts kind k now r.account.live r.account.tenancy (c' kind) words'
    dark_facts Run n f = absurd n
    dark_facts Promote n f = absurd n
    dark_facts Reset n f = absurd n
    dark_facts Roots n f =
        let after = darkening_steps.roots_darkens k.domains now cyc f.0 d darkens.0 a p.label darkens.1 in
        (darkens_as (λ z. InPhase (laws.Roots laws.First) k.domains now (with_marks cyc z)) m p.label done (λ e. darkening_steps.roots_scans laws.First k.domains now _ after p.label (nothing_unmarked e)) after, record { unchanged = f.1.unchanged; unrotated = f.1.unrotated })
    dark_facts Mark n f =
        let after = darkening_steps.mark_darkens c.pass k.domains now cyc f.0 (one_place k s r id hist x at collecting) d darkens.0 a p.label darkens.1 in
        (darkens_as (λ z. InPhase (laws.Mark c.pass) k.domains now (with_shares (with_marks cyc z) (following cyc.shares d a))) m p.label done (λ e. darkening_steps.mark_scans c.pass k.domains now _ after p.label (nothing_unmarked e)) after, f.1)
    dark_facts Rounds n f =
        let after = darkening_steps.rounds_darkens c.pass k.domains now cyc f.0 d darkens.0 a p.label darkens.1 in
        (darkens_as (λ z. InPhase (laws.Rounds c.pass) k.domains now (with_shares (with_marks cyc z) (owing cyc.shares d))) m p.label done (λ e. darkening_steps.rounds_scans c.pass k.domains now _ after p.label (nothing_unmarked e)) after, f.1)
    dark_facts Decide n f = absurd n
    dark_facts Queued n f =
        let after = darkening_steps.queued_darkens k.domains now cyc f.0 d darkens.0 a p.label darkens.1 in
        (darkens_as (λ z. InPhase (laws.Roots laws.Second) k.domains now (with_shares (with_marks cyc z) (owing cyc.shares d))) m p.label done (λ e. darkening_steps.roots_scans laws.Second k.domains now _ after p.label (nothing_unmarked e)) after, f.1)
    dark_facts Clean n f = absurd n
    dark_facts Lasts n f = absurd n
    dark_facts Sweep n f = absurd n
    dark_facts Answer n f = absurd n

    is_dark : m'.marked p.label ≡ true
    is_dark = ap (λ (b : Bool). b || m.marked p.label) (same_label_refl p.label)

    kind_is : c.kind ≡ may.kind
    kind_is = kind_here k s r id hist x at may.kind may.stage

    -- and where the datum of an ephemeron is marked the domain has seen that
    abbrev saw : (u : Reason) → Warrants u x a → Cycling
    saw u w = record c { paint = record c.paint { marks = m' }; shares = record c.shares { owes = owing_on may.kind c.shares.owes d; follows = following_on may.kind c.shares.follows d a; seen = sees_on k s r id hist x at u a w } }

    seen_facts : (u : Reason) (w : Warrants u x a) → Facts may.kind k now r.account.live r.account.tenancy (c' may.kind) words' → Facts may.kind k now r.account.live r.account.tenancy (saw u w) words'
    seen_facts (Register n) w f = f
    seen_facts Field w f = f
    seen_facts (OfQueue i) w f = f
    seen_facts OfDatum w f =
        let one_stage : In may.kind ≡ In Rounds = sym may.stage ∙ w.1 in
        let in_rounds : may.kind ≡ Rounds = cc in
        subst (λ (kind : Kind). Facts kind k now r.account.live r.account.tenancy (saw OfDatum w) words') (sym in_rounds)
        (datum_facts k s r id hist x at a w p aim.lives (c' may.kind) words' is_dark (subst (λ (kind : Kind). Facts kind k now r.account.live r.account.tenancy (c' may.kind) words') in_rounds f) w.0 w.2)

    not_clean : c.kind ≡ Clean → m' ≡ m
    not_clean e = absurd (subst IsDarkening (sym kind_is ∙ e) may.darkening)

    abbrev share' : Share
    share' = darkening may.kind reason a x.seen.share

    -- in the marking the block that is darkened was unmarked, and lies in a pool
    grown : (kind : Kind) → IsMarking c.kind → IsMarking kind → IsGrowing (pool_labels k r.account.live) c.before m'.marked (record c.shares { owes = owing_on kind c.shares.owes d })
    grown kind now_marking = go kind
      where
        owed : IsGrowing (pool_labels k r.account.live) c.before (darkened m p.label).marked (owing c.shares d)
        owed = owing_grows (pool_labels k r.account.live) c.before m c.shares (r.whole.cycle.grows.since now_marking (unnamed k s r id hist x at collecting)) d p.label unmarked
            (pooled k r.account.tenancy s.words r.account.live r.whole.pools r.whole.grid a p aim.lives old_at)

        go : (kind : Kind) → IsMarking kind → IsGrowing (pool_labels k r.account.live) c.before m'.marked (record c.shares { owes = owing_on kind c.shares.owes d })
        go Mark marking = record { stays = owed.stays; changed = owed.changed; owing = owed.owing }
        go Rounds marking = record { stays = owed.stays; changed = owed.changed; owing = owed.owing }
        go Run marking = absurd marking
        go Promote marking = absurd marking
        go Reset marking = absurd marking
        go Roots marking = absurd marking
        go Decide marking = absurd marking
        go Queued marking = absurd marking
        go Clean marking = absurd marking
        go Lasts marking = absurd marking
        go Sweep marking = absurd marking
        go Answer marking = absurd marking

    recoloured : Recolours k s r id hist x at collecting a p new m' (owing_on may.kind c.shares.owes d) (following_on may.kind c.shares.follows d a) (sees_on k s r id hist x at reason a may.reason_is) (held share') (waiting_on reason x.seen.share.waiting)
    recoloured = let cs : Colours = c.paint.colours in record {
      lives = aim.lives;
      here = record {
        scanned = done;
        packs = may.marks ∙ (ap (λ (z : Colours). head_word (head_of None may.unmarked.shape z.marked (needs_no_scan may.unmarked.shape))) means ∙ (ap (λ (z : Shape). head_word (head_of None z cs.marked (needs_no_scan z))) (sym same.shape)
            ∙ (sym (ap (λ (b : Bool). head_word (head_of None p.shape (cond b cs.marked cs.unmarked) done)) is_dark)
            ∙ sym (ap (λ (o : Option ℕ). head_word (head_of o p.shape (colour_in (record c.paint { marks = m' }) p.label) done)) (bare k s r id hist x at collecting a p aim.lives).no_forward))));
        tells = λ _ up. scanned_here done m p.label up;
      };
      elsewhere = λ l differ. let e : same_label p.label l ≡ false = same_label-false p.label l differ in (ap (λ (b : Bool). b || m.marked l) e, scanned_else done m p.label l differ);
      marked = is_dark;
      more = darkened_more m p.label;
      still = not_clean;
      facts = subst (λ (kind : Kind). Facts kind k now r.account.live r.account.tenancy (saw reason may.reason_is) words') (sym kind_is)
          (seen_facts reason may.reason_is (dark_facts may.kind may.darkening (subst (λ (kind : Kind). Facts kind k now r.account.live r.account.tenancy c s.words) kind_is r.whole.cycle.facts)));
      others = λ z other. (owing_others may.kind c.shares.owes d z other, following_others may.kind c.shares.follows d a z other, sees_others k s r id hist x at reason a may.reason_is z other);
      owes_is = let o : OwesAs (c.shares.owes d) (c.shares.follows d) x.seen.share.owes x.seen.share.account = (my_good k s r id hist x at).sharing.telling.owes (waits_in k s r id hist x at may.kind may.stage) in record {
        owes = owing_own may.kind c.shares.owes d x.seen.share.owes o.owes;
        follows = following_own may.kind c.shares.follows d a x.seen.share.account o.follows;
      };
      seen_is = sees_own k s r id hist x at reason a may.reason_is ((my_good k s r id hist x at).sharing.telling.seen (waits_in k s r id hist x at may.kind may.stage));
      knows = moved_knows k s r id hist x at collecting a p aim.lives m' words' is_dark not_clean (known_still k s r id hist x at collecting a p new m' aim.lives is_dark (darkened_more m p.label)) reason may.reason_is (owes_on may.kind x.seen.share.owes) (account_on may.kind a x.seen.share.account) (x.seen.share.darkenings + 1);
      queued = waiting_moved k s r id hist x at collecting a p aim.lives m' is_dark (darkened_more m p.label) reason may.reason_is;
      grows = λ marking. let g = grown may.kind marking (subst IsMarking kind_is marking) in record { stays = g.stays; changed = g.changed; owing = g.owing };
    }

    won_rule : Rule k record { words = words'; homes = s.homes; views = set s.views id (one k hist (with_share x share')) }
    won_rule = recolours k s r id hist x at collecting a p new m' (owing_on may.kind c.shares.owes d) (following_on may.kind c.shares.follows d a) (sees_on k s r id hist x at reason a may.reason_is) (held share') (waiting_on reason x.seen.share.waiting) recoloured

pub darken_may : (k : Config) (x : DomainView) (word a old new : ℕ) (reason : Reason) → word ≡ before_heap k + a → DarkenMay x a old new reason → MayStep k x word (λ n. either (n == old) new n) (DarkenTold k old a reason)
darken_may k x word a old new reason place may fits slots id hist s r _ at _ =
    let found : ℕ = get_or s.words word 0 in
    let found_is : found ≡ at_address k s.words a = ap (λ (n : ℕ). get_or s.words n 0) place in
    let lies : IsOldAt k a = old_at k s r id hist x at a old new reason may in
    dite (ℕ_discrete found old)
    (λ won.
    let y : DomainView = with_share x (darkening may.kind reason a x.seen.share) in
    let becomes : new ≡ either (found == old) new found = sym (ap (λ (b : Bool). either b new found) (eq-eqb found old won)) in (
      one k hist y,
      keeps,
      tt,
      subst (λ (n : ℕ × ℕ). Rule k record { words = set s.words n.0 n.1; homes = s.homes; views = set s.views id (one k hist y) }) (λ i. (sym place i, becomes i)) (won_rule k s r id hist x at a old new reason may (sym found_is ∙ won)),
      (record { kind = may.kind; stage = may.stage; lies = lies; won = λ _. refl; lost = λ e. absurd (e won) }, refl),
    ))
    (λ lost.
    let y : DomainView = with_share x (moved_on reason a x.seen.share) in
    let stays : found ≡ either (found == old) new found = sym (ap (λ (b : Bool). either b new found) (ne_eqb found old lost)) in (
      one k hist y,
      keeps,
      tt,
      subst (λ (n : ℕ). Rule k record { words = set s.words word n; homes = s.homes; views = set s.views id (one k hist y) }) stays (unmoved k s word (set s.views id (one k hist y)) (lost_rule k s r id hist x at a old new reason may (λ e. lost (found_is ∙ e)))),
      (record { kind = may.kind; stage = may.stage; lies = lies; won = λ e. absurd (lost e); lost = λ _. refl }, refl),
    ))
