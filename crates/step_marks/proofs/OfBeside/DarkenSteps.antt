-- Blocks are darkened and scanned while domains run.
use Rattle.std.proofs.Common.{◌≡◌, ◌≢◌, ℕ, ◌+◌, ◌<◌, ◌==◌, ◌&&◌, ◌||◌, not, Bool, true, false, cond, IsTrue, eq-eqb, ne_eqb, List, ◌∷◌, get_or, set, Option, Some, None, sym, refl, ap, ◌∙◌, subst, inl, inr, ⊎_elim}
use Rattle.std.proofs.lemmas.Bool.{cases_Bool}
use mathlib.Core.Logic.{dite}
use native.Mathlib.Decide.{ℕ_discrete}
use mathlib.Core.Option.{some}
use lib.ListN.{get_elem?}
use prog.Atomic.{either}
use Rattle.atomic_table.specs.Table.{keeps}
use Rattle.model_core.specs.declared.entry.Entry.{Entry}
use Rattle.model_core.specs.declared.label.Label.{Label}
use Rattle.model_core.specs.declared.graph.Value.TheVariants.{Block}
use Rattle.model_core.specs.Domains.{register}
use Rattle.model_core.specs.Fronts.{Shape}
use Rattle.model_core.specs.declared.graph.Node.{Node}
use Rattle.model_core.specs.Graph.{same_label}
use Rattle.model_core.proofs.Graphs.GraphLemmas.{same_label_refl, same_label-false, same_label-true}
use Rattle.heap_words.specs.declared.colours.Colours.{Colours}
use Rattle.heap_words.specs.Heads.{head_word}
use Rattle.model_cycle.specs.Beside.{IsBeside, Later}
use Rattle.model_cycle.specs.Cover.{field_at, field_in, is_new}
use Rattle.model_cycle.specs.Marks.{Marks, darkened, darkened_as, with_scanned}
use Rattle.model_cycle.proofs.Beside.{beside_law}
use Rattle.model_cycle.proofs.Tracing.{darkened_more, darkens_as, scanned_else, scanned_here}
use Rattle.heap_rule.specs.declared.config.Config.{Config}
use Rattle.heap_rule.specs.declared.phase.Kind.TheVariants.{Run}
use Rattle.heap_rule.specs.declared.phase.Stage.TheVariants.{In}
use Rattle.heap_rule.specs.declared.view.DomainView.{DomainView}
use Rattle.heap_rule.specs.declared.view.Known.TheVariants.{Marked, Found, Shape as Shaped, Refers, Darkened, Scanned}
use Rattle.heap_rule.specs.Beside.{AllKnown, IsShaped, IsPooled, Underway, is_weak}
use Rattle.heap_rule.specs.Layout.{before_heap, at_address}
use Rattle.heap_rule.specs.Places.{IsHeadOf, Place, colour_in, head_of, needs_no_scan}
use Rattle.heap_rule.specs.Raw.{MayStep, MayStore}
use Rattle.heap_rule.specs.Rule.{Rule}
use Rattle.heap_rule.specs.Views.{one}
use Rattle.heap_rule.proofs.BesideLemmas.{all_known_on, known_among, paid_marks}
use Rattle.heap_rule.proofs.Blocks as blocks
use Rattle.heap_rule.proofs.Keeps.{Words, now, my_good, run_settled, unmoved}
use Rattle.step_marks.proofs.OfMarking.Learning.{load_may}
use Rattle.step_marks.specs.Marking.Marking.{fields_in}
use Rattle.step_marks.proofs.OfMarking.Colouring.{BareHead, Recolourable, unmarked_by, words_same}
use Rattle.step_marks.specs.Beside.Marking.{DarkenMay, DarkenTold, Field, Reason, Expected, ScannedMay, ScannedTold, TargetMay, TargetTold, Warrants, Weak, darkened_at, learning, marked_at, weak_on}
use Rattle.step_marks.proofs.OfBeside.Besides.{all_known, is_armed, learns, learns_one, reads_rule, under}
use Rattle.step_marks.proofs.OfBeside.LookSteps as looks
use Rattle.step_marks.proofs.OfBeside.ReadSteps.{field_inside, no_field}
use Rattle.step_marks.proofs.OfBeside.Rewriting as rewriting

module _ (k : Config) (s : Words) (r : Rule k s) (id : ℕ) (hist : List Entry) (x : DomainView) (at : get_elem? s.views id ≡ some (one k hist x)) where
  open r.account use {live, cycling.{paint.{marks as m}, past}}
  open x use {own.{number as d}}

  abbrev After : DomainView → Type 0
  After y = Rule k record { words = s.words; homes = s.homes; views = set s.views id (one k hist y) }

  module _ (runs : x.seen.stage ≡ In Run) (armed : x.seen.share.armed ≡ Some true) where
    knows_now : AllKnown k live r.account.tenancy.holder past.old m.marked s.words x.seen.share.known
    knows_now = all_known k s r id hist x at runs armed

    u : Underway k (now k s r id hist x at) live r.account.cycling.kind past m r.account.cycling.shares
    u = under k s r id hist x at runs armed

    owes_now : (q : ℕ) → past.owed d q ≡ is_weak x.seen.share.weak q
    owes_now q = (my_good k s r id hist x at).sharing.running.owes (is_armed k s r id hist x at runs armed) q

    -- the block that is to be darkened
    pub record Aim (a : ℕ) (reason : Reason) : Type 0 where
      pub place : Place
      pub lives : live a ≡ Some place
      pub held : (register_at : ℕ) → reason ≡ Weak register_at → register (now k s r id hist x at) d register_at ≡ Block place.label

    pub aim : (a : ℕ) (reason : Reason) → Warrants x a reason → Aim a reason
    aim a (Field block field) w = let h = known_among k live r.account.tenancy.holder past.old m.marked s.words x.seen.share.known (Refers block field a) knows_now w in record { place = h.target; lives = h.there; held = λ q e. absurd cc }
    aim a (Weak q) w = let b = blocks.lives_at k s r id hist x at q a w.0 in record { place = b.place; lives = b.lives; held = λ n e. let same : q ≡ n = cc in subst (λ (z : ℕ). register (now k s r id hist x at) d z ≡ Block b.place.label) same b.held }
    aim a (Expected q) w = let b = blocks.lives_at k s r id hist x at q a w in record { place = b.place; lives = b.lives; held = λ n e. absurd cc }

    -- what is owed once the block is marked: by this domain nothing, where it was a weak read that brought it
    abbrev owed_on : Reason → ℕ → ℕ → Bool
    owed_on (Field block field) = past.owed
    owed_on (Weak q) = λ n j. not (n == d) && past.owed n j
    owed_on (Expected q) = past.owed

    owed_others : (reason : Reason) (n j : ℕ) → n ≢ d → owed_on reason n j ≡ past.owed n j
    owed_others (Field block field) n j other = refl
    owed_others (Weak q) n j other = ap (λ (b : Bool). not b && past.owed n j) (ne_eqb n d other)
    owed_others (Expected q) n j other = refl

    owed_own : (reason : Reason) (j : ℕ) → owed_on reason d j ≡ is_weak (weak_on reason x.seen.share.weak) j
    owed_own (Field block field) j = owes_now j
    owed_own (Weak q) j = ap (λ (b : Bool). not b && past.owed d j) (eq-eqb d d refl)
    owed_own (Expected q) j = owes_now j

    -- and the laws of the cycle hold with that
    pays : (reason : Reason) (a : ℕ) (w : Warrants x a reason) (m' : Marks) → IsBeside past m' (now k s r id hist x at) → IsTrue (m'.marked (aim a reason w).place.label) → Later past m' (now k s r id hist x at) (owed_on reason)
    pays (Field block field) a w m' b marked = (past.held, past.overwritten, b)
    pays (Expected q) a w m' b marked = (past.held, past.overwritten, b)
    pays (Weak q) a w m' b marked = beside_law.pays past m' (now k s r id hist x at) b (owed_on (Weak q)) (λ n j none. dite (ℕ_discrete n d)
        (λ (same : n ≡ d). dite (ℕ_discrete q j)
        (λ (one : q ≡ j). inr (λ l e. subst (λ (z : Label). IsTrue (m'.marked z))
        (blocks.block_same (aim a (Weak q) w).place.label l (sym ((aim a (Weak q) w).held q refl) ∙ (ap (λ (z : ℕ × ℕ). register (now k s r id hist x at) z.0 z.1) (λ i. (sym same i, one i)) ∙ e))) marked))
        (λ (differ : q ≢ j). inl (ap (λ (z : ℕ). past.owed z j) same ∙ (owes_now j ∙ (ap (λ (o : Option ℕ). is_weak o j) w.1 ∙ ne_eqb q j differ)))))
        (λ (other : n ≢ d). inl (sym (owed_others (Weak q) n j other) ∙ none)))

    settled_on : (reason : Reason) (n j : ℕ) → past.owed n j ≡ false → owed_on reason n j ≡ false
    settled_on (Field block field) n j e = e
    settled_on (Expected q) n j e = e
    settled_on (Weak q) n j e = ap (λ (b : Bool). not (n == d) && b) e ∙ both (not (n == d)) where
      both : (b : Bool) → b && false ≡ false
      both true = refl
      both false = refl

    -- the cycle goes on where more is marked
    underway_on : (reason : Reason) (m' : Marks) (l : Later past m' (now k s r id hist x at) (owed_on reason)) → ((z : Label) → IsTrue (m.marked z) → IsTrue (m'.marked z)) → ((z : Label) → is_new past.old z ≡ false → IsTrue (m'.marked z) → IsPooled k live z)
        → Underway k (now k s r id hist x at) live r.account.cycling.kind (record past { held = l.0; overwritten = l.1; owed = owed_on reason }) m' r.account.cycling.shares
    underway_on reason m' l more pooled = record {
      covered = l.2;
      young = λ b q lives high. more q.label (u.young b q lives high);
      pooled = pooled;
      settled = λ n j gone. settled_on reason n j (u.settled n j gone);
      rooted = u.rooted;
    }

    -- a block that is marked: the domain knows it, and owes its darkening no more
    pub marked_rule : (a : ℕ) (reason : Reason) (w : Warrants x a reason) → IsTrue (m.marked (aim a reason w).place.label) → After (marked_at x a reason)
    marked_rule a reason w is =
        let t = aim a reason w in
        let l = pays reason a w m u.covered is in
        reads_rule k s r id hist x at runs armed (Marked a ∷ x.seen.share.known) (weak_on reason x.seen.share.weak) (record past { held = l.0; overwritten = l.1; owed = owed_on reason }) refl (λ n q other. owed_others reason n q other) (owed_own reason)
        (underway_on reason m l (λ z h. h) u.pooled) (record { place = t.place; lives = t.lives; is_marked = is }, knows_now)

  module _ (a : ℕ) (reason : Reason) (may : TargetMay k x a reason) where
    abbrev found : ℕ
    found = at_address k s.words a

    abbrev t : Aim may.knows.beside.runs may.knows.beside.armed a reason
    t = aim may.knows.beside.runs may.knows.beside.armed a reason may.reason_is

    pub target_told : (y : DomainView) × After y × TargetTold a reason x found y
    target_told = ⊎_elim
        (λ (e : m.marked t.place.label ≡ true). (
          marked_at x a reason,
          marked_rule may.knows.beside.runs may.knows.beside.armed a reason may.reason_is e,
          record { colours = may.knows.colours; known = may.knows.known; told = inr (looks.is_marked k s r id hist x at may.knows.beside.runs may.knows.colours may.knows.known a t.place t.lives e, refl) },
        ))
        (λ (e : m.marked t.place.label ≡ false). (
          learning x (Found a found),
          learns_one k s r id hist x at may.knows.beside.runs may.knows.beside.armed (Found a found) (record { place = t.place; lives = t.lives; head = inl refl }, all_known k s r id hist x at may.knows.beside.runs may.knows.beside.armed),
          record { colours = may.knows.colours; known = may.knows.known; told = inl (looks.is_unmarked k s r id hist x at may.knows.beside.runs may.knows.colours may.knows.known a t.place t.lives e, refl) },
        ))
        (cases_Bool (m.marked t.place.label))

  module _ (a old new : ℕ) (reason : Reason) (may : DarkenMay k x a old new reason) where
    abbrev aimed : Aim may.knows.beside.runs may.knows.beside.armed a reason
    aimed = aim may.knows.beside.runs may.knows.beside.armed a reason may.reason_is

    open aimed use {place as p}
    open r.account use {cycling.{paint.{colours as cs}}}

    means : may.knows.colours ≡ cs
    means = looks.means k s r id hist x at may.knows.beside.runs may.knows.colours may.knows.known a p aimed.lives

    one_place : (q : Place) → live a ≡ Some q → q ≡ p
    one_place q e = let g : Some q ≡ Some p = sym e ∙ aimed.lives in cc

    -- where another head is found somebody has darkened the block
    lost_rule : at_address k s.words a ≢ old → After (marked_at x a reason)
    lost_rule differ =
        let h = known_among k live r.account.tenancy.holder past.old m.marked s.words x.seen.share.known (Found a old) (all_known k s r id hist x at may.knows.beside.runs may.knows.beside.armed) may.found in
        marked_rule may.knows.beside.runs may.knows.beside.armed a reason may.reason_is (⊎_elim (λ (e : at_address k s.words a ≡ old). absurd (differ e)) (λ (is : IsTrue (m.marked h.place.label)). subst (λ (q : Place). IsTrue (m.marked q.label)) (one_place h.place h.lives) is) h.head)

    module _ (won : at_address k s.words a ≡ old) where
      there : BareHead r.account.cycling.paint p (at_address k s.words a)
      there = looks.there k s r id hist x at may.knows.beside.runs may.knows.colours may.knows.known a p aimed.lives

      same : Recolourable p.shape may.unmarked.shape there.head.colour may.unmarked.head.colour there.head.scanned may.unmarked.head.scanned
      same = words_same p.shape may.unmarked.shape (at_address k s.words a) there.head (subst (IsHeadOf may.unmarked.shape) (sym won) may.unmarked.head)

      unmarked : m.marked p.label ≡ false
      unmarked = unmarked_by cs (m.marked p.label) r.whole.cycle.meanings (sym there.colour ∙ (same.colour ∙ (may.unmarked.colour ∙ ap (λ (z : Colours). z.unmarked) means)))

      -- a raw block is scanned at once
      abbrev done_at_once : Bool
      done_at_once = needs_no_scan p.shape

      abbrev m' : Marks
      m' = darkened_as done_at_once m p.label

      covered : IsBeside past m' (now k s r id hist x at)
      covered =
          let v = u may.knows.beside.runs may.knows.beside.armed in
          let f = r.whole.found a p aimed.lives in
          let dark : IsBeside past (darkened m p.label) (now k s r id hist x at) = beside_law.darkens past m (now k s r id hist x at) v.covered p.label unmarked in
          darkens_as (λ z. IsBeside past z (now k s r id hist x at)) m p.label done_at_once
          (λ (e : done_at_once ≡ true). beside_law.scans past (darkened m p.label) (now k s r id hist x at) dark p.label (λ i y was. ⊎_elim
          (λ (is : IsTrue (m.marked y)). darkened_more m p.label y is)
          (λ (h : field_at (now k s r id hist x at).graph p.label i ≡ Some (Block y)). absurd (no_field f.node (ap needs_no_scan f.shape ∙ e) i y (sym (ap (λ (o : Option Node). field_in o i) f.there) ∙ h)))
          (beside_law.reads past m (now k s r id hist x at) v.covered p.label y i was)))
          dark

      is_dark : m'.marked p.label ≡ true
      is_dark = ap (λ (b : Bool). b || m.marked p.label) (same_label_refl p.label)

      rewrites : rewriting.Rewrites k s r id hist x at may.knows.beside.runs a p new m'
      rewrites = record {
        lives = aimed.lives;
        old_at = may.low;
        here = record {
          scanned = done_at_once;
          packs = may.marks ∙ (ap (λ (z : Colours). head_word (head_of None may.unmarked.shape z.marked (needs_no_scan may.unmarked.shape))) means ∙ (ap (λ (z : Shape). head_word (head_of None z cs.marked (needs_no_scan z))) (sym same.shape)
              ∙ (sym (ap (λ (b : Bool). head_word (head_of None p.shape (cond b cs.marked cs.unmarked) done_at_once)) is_dark)
              ∙ sym (ap (λ (o : Option ℕ). head_word (head_of o p.shape (colour_in (record r.account.cycling.paint { marks = m' }) p.label) done_at_once)) (run_settled k s r id hist x at may.knows.beside.runs a p aimed.lives).no_forward))));
          tells = λ _ bit. scanned_here done_at_once m p.label bit;
        };
        elsewhere = λ l differ. let e : same_label p.label l ≡ false = same_label-false p.label l differ in (ap (λ (b : Bool). b || m.marked l) e, scanned_else done_at_once m p.label l differ);
        is_marked = is_dark;
        more = darkened_more m p.label;
      }

      pooled_on : (z : Label) → is_new past.old z ≡ false → IsTrue (m'.marked z) → IsPooled k live z
      pooled_on z old_label is = ⊎_elim
          (λ (e : same_label p.label z ≡ true). record { address = a; place = p; lives = aimed.lives; old = may.low; label = same_label-true p.label z e })
          (λ (e : same_label p.label z ≡ false). (u may.knows.beside.runs may.knows.beside.armed).pooled z old_label (sym (ap (λ (b : Bool). b || m.marked z) e) ∙ is))
          (cases_Bool (same_label p.label z))

      abbrev words' : List ℕ
      words' = set s.words (before_heap k + a) new

      won_rule : Rule k record { words = words'; homes = s.homes; views = set s.views id (one k hist (darkened_at x a reason)) }
      won_rule =
          let f = may.knows.beside.runs in
          let g = may.knows.beside.armed in
          let l = pays f g reason a may.reason_is m' covered is_dark in
          let o = rewriting.endures' k s r id hist x at f a p new m' rewrites in
          learns k s r id hist x at f g m' (record past { held = l.0; overwritten = l.1; owed = owed_on f g reason }) (Darkened a ∷ Marked a ∷ x.seen.share.known) (weak_on reason x.seen.share.weak) words' record {
            wide = rewriting.wide k s r id hist x at f a p new m' rewrites;
            control = rewriting.controls k s r id hist x at f a p new m' rewrites;
            found = rewriting.found' k s r id hist x at f a p new m' rewrites;
            grid = rewriting.grid' k s r id hist x at f a p new m' rewrites;
            hunters = rewriting.hunters' k s r id hist x at f a p new m' rewrites;
            makings = rewriting.makings' k s r id hist x at f a p new m' rewrites;
            endures = o;
            same_old = refl;
            others = λ n q other. owed_others f g reason n q other;
            own = owed_own f g reason;
            underway = underway_on f g reason m' l (darkened_more m p.label) pooled_on;
            knows = (record { place = p; lives = aimed.lives; is_marked = is_dark }, (record { place = p; lives = aimed.lives; is_marked = is_dark }, all_known_on k live live r.account.tenancy.holder r.account.tenancy.holder past.old m.marked m'.marked s.words words' o x.seen.share.known (knows_now f g)));
          }

  -- the head of a block whose fields are done gets the scanned mark
  module _ (a new : ℕ) (may : ScannedMay k x a new) where
    h : IsShaped live m.marked a may.head
    h = known_among k live r.account.tenancy.holder past.old m.marked s.words x.seen.share.known (Shaped a may.head) (all_known k s r id hist x at may.knows.beside.runs may.knows.beside.armed) may.shaped

    abbrev q : Place
    q = h.place

    abbrev m1 : Marks
    m1 = with_scanned m q.label

    abbrev cs1 : Colours
    cs1 = r.account.cycling.paint.colours

    means1 : may.knows.colours ≡ cs1
    means1 = looks.means k s r id hist x at may.knows.beside.runs may.knows.colours may.knows.known a q h.lives

    same1 : Recolourable q.shape may.shape h.head.colour may.is.colour h.head.scanned may.is.scanned
    same1 = words_same q.shape may.shape may.head h.head may.is

    -- all its fields are paid, and a field behind them is none
    done : (i : ℕ) (l : Label) → field_at past.old q.label i ≡ Some (Block l) → IsTrue (m.marked l)
    done i l e = ⊎_elim (λ (is : IsTrue (m.marked l)). is)
        (λ (now_is : field_at (now k s r id hist x at).graph q.label i ≡ Some (Block l)).
        paid_marks k live r.account.tenancy.holder past.old m.marked s.words x.seen.share.known a i q (all_known k s r id hist x at may.knows.beside.runs may.knows.beside.armed) (may.fields i (inside i l now_is)) h.lives l e)
        (beside_law.reads past m (now k s r id hist x at) (u may.knows.beside.runs may.knows.beside.armed).covered q.label l i e)
      where
        inside : (j : ℕ) (z : Label) → field_at (now k s r id hist x at).graph q.label j ≡ Some (Block z) → j < fields_in may.shape
        inside j z g =
            let found = r.whole.found a q h.lives in
            subst (λ (n : ℕ). j < n) (ap fields_in same1.shape) (subst (λ (sh : Shape). j < fields_in sh) found.shape (field_inside found.node j z (sym (ap (λ (o : Option Node). field_in o j) found.there) ∙ g)))

    abbrev words1 : List ℕ
    words1 = set s.words (before_heap k + a) new

    rewrites1 : rewriting.Rewrites k s r id hist x at may.knows.beside.runs a q new m1
    rewrites1 = record {
      lives = h.lives;
      old_at = may.low;
      here = record {
        scanned = true;
        packs = may.marks ∙ (ap (λ (z : Colours). head_word (head_of None may.shape z.marked true)) means1 ∙ (ap (λ (z : Shape). head_word (head_of None z cs1.marked true)) (sym same1.shape)
            ∙ (sym (ap (λ (b : Bool). head_word (head_of None q.shape (cond b cs1.marked cs1.unmarked) true)) h.is_marked)
            ∙ sym (ap (λ (o : Option ℕ). head_word (head_of o q.shape (colour_in r.account.cycling.paint q.label) true)) (run_settled k s r id hist x at may.knows.beside.runs a q h.lives).no_forward))));
        tells = λ _ _. ap (λ (b : Bool). b || m.scanned q.label) (same_label_refl q.label);
      };
      elsewhere = λ l differ. (refl, ap (λ (b : Bool). b || m.scanned l) (same_label-false q.label l differ));
      is_marked = h.is_marked;
      more = λ l is. is;
    }

    pub scanned_rule : Rule k record { words = words1; homes = s.homes; views = set s.views id (one k hist (learning x (Scanned a))) }
    scanned_rule =
        let f = may.knows.beside.runs in
        let g = may.knows.beside.armed in
        let v = u f g in
        let o = rewriting.endures' k s r id hist x at f a q new m1 rewrites1 in
        learns k s r id hist x at f g m1 past (Scanned a ∷ x.seen.share.known) x.seen.share.weak words1 record {
          wide = rewriting.wide k s r id hist x at f a q new m1 rewrites1;
          control = rewriting.controls k s r id hist x at f a q new m1 rewrites1;
          found = rewriting.found' k s r id hist x at f a q new m1 rewrites1;
          grid = rewriting.grid' k s r id hist x at f a q new m1 rewrites1;
          hunters = rewriting.hunters' k s r id hist x at f a q new m1 rewrites1;
          makings = rewriting.makings' k s r id hist x at f a q new m1 rewrites1;
          endures = o;
          same_old = refl;
          others = λ n j other. refl;
          own = owes_now f g;
          underway = record { covered = beside_law.scans past m (now k s r id hist x at) v.covered q.label done; young = v.young; pooled = v.pooled; settled = v.settled; rooted = v.rooted };
          knows = (record { place = q; lives = h.lives; is_marked = h.is_marked }, all_known_on k live live r.account.tenancy.holder r.account.tenancy.holder past.old m.marked m1.marked s.words words1 o x.seen.share.known (knows_now f g));
        }

pub target_may : (k : Config) (x : DomainView) (word a : ℕ) (reason : Reason) → word ≡ before_heap k + a → TargetMay k x a reason → MayStep k x word (λ n. n) (TargetTold a reason)
target_may k x word a reason place may = load_may k x word a (TargetTold a reason) place (λ s r id hist at. target_told k s r id hist x at a reason may)

pub darken_may : (k : Config) (x : DomainView) (word a old new : ℕ) (reason : Reason) → word ≡ before_heap k + a → DarkenMay k x a old new reason → MayStep k x word (λ n. either (n == old) new n) (DarkenTold old a reason)
darken_may k x word a old new reason place may fits slots id hist s r _ at _ =
    let found : ℕ = get_or s.words word 0 in
    let found_is : found ≡ at_address k s.words a = ap (λ (n : ℕ). get_or s.words n 0) place in
    dite (ℕ_discrete found old)
    (λ (won : found ≡ old).
    let y : DomainView = darkened_at x a reason in
    let becomes : new ≡ either (found == old) new found = sym (ap (λ (b : Bool). either b new found) (eq-eqb found old won)) in (
      one k hist y,
      keeps,
      tt,
      subst (λ (n : ℕ × ℕ). Rule k record { words = set s.words n.0 n.1; homes = s.homes; views = set s.views id (one k hist y) }) (λ i. (sym place i, becomes i)) (won_rule k s r id hist x at a old new reason may (sym found_is ∙ won)),
      (record { won = λ _. refl; lost = λ e. absurd (e won) }, refl),
    ))
    (λ (lost : found ≢ old).
    let y : DomainView = marked_at x a reason in
    let becomes : found ≡ either (found == old) new found = sym (ap (λ (b : Bool). either b new found) (ne_eqb found old lost)) in (
      one k hist y,
      keeps,
      tt,
      subst (λ (n : ℕ). Rule k record { words = set s.words word n; homes = s.homes; views = set s.views id (one k hist y) }) becomes
          (unmoved k s word (set s.views id (one k hist y)) (lost_rule k s r id hist x at a old new reason may (λ e. lost (found_is ∙ e)))),
      (record { won = λ e. absurd (lost e); lost = λ _. refl }, refl),
    ))

pub scanned_may : (k : Config) (x : DomainView) (word a new : ℕ) → word ≡ before_heap k + a → ScannedMay k x a new → MayStore k x word new (ScannedTold a)
scanned_may k x word a new place may fits slots id hist s r _ at _ =
    let y : DomainView = learning x (Scanned a) in
    (one k hist y, keeps, tt, subst (λ (n : ℕ). Rule k record { words = set s.words n new; homes = s.homes; views = set s.views id (one k hist y) }) (sym place) (scanned_rule k s r id hist x at a new may), (refl, refl))
