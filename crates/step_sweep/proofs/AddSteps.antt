-- What a domain has counted is added to the live blocks and to the live words.
use Rattle.std.proofs.Common.{◌≡◌, ◌≢◌, ℕ, ◌+◌, ◌*◌, ◌%◌, ◌^◌, ◌<◌, ◌≤◌, ◌⊎◌, Bool, true, false, true≢false, IsTrue, List, length, set, sum_by, Some, sym, refl, ap, ◌∙◌, subst, inl, inr, ⊎_elim, arith, mod-eq_of_lt, mul-le-mul_right}
use mathlib.Core.Logic.{dite}
use native.Mathlib.Decide.{ℕ_discrete}
use mathlib.Core.Option.{some}
use lib.ListN.{get_elem?}
use Rattle.atomic_table.specs.Table.{keeps}
use Rattle.model_core.specs.declared.entry.Entry.{Entry}
use Rattle.model_core.specs.declared.label.Label.{Label}
use Rattle.model_core.specs.declared.state.State as model
use Rattle.model_core.specs.Graph.{has_label, has_no_repeats, words_at, words_of}
use Rattle.model_cycle.specs.Counting.{added_up}
use Rattle.model_cycle.specs.Shares.{at_domain}
use Rattle.model_cycle.proofs.Counting.{adds}
use Rattle.heap_rule.specs.declared.config.Config.{Config}
use Rattle.heap_rule.specs.declared.phase.Kind.{Kind}
use Rattle.heap_rule.specs.declared.phase.Kind.TheVariants.{Sweep, Clean, Answer}
use Rattle.heap_rule.specs.declared.phase.Stage.TheVariants.{In}
use Rattle.heap_rule.specs.declared.view.DomainView.{DomainView}
use Rattle.heap_rule.specs.declared.view.Share.{Share}
use Rattle.heap_rule.specs.Beside.{RunsBeside}
use Rattle.heap_rule.specs.Cycles.{Counted, Counts, Cycled, Cycling, Facts, IsCollecting, IsIdle, Knowing, Sweeping, labels_in, layout_of, seen_by, Leading}
use Rattle.heap_rule.specs.Layout.{live_blocks, live_words}
use Rattle.heap_rule.specs.Phases.{AtStage}
use Rattle.heap_rule.specs.Places.{Place, extent}
use Rattle.heap_rule.specs.Pools.{IsLeading, place_in}
use Rattle.heap_rule.specs.Raw.{CanLeave, Closes, Leaves, MayStep}
use Rattle.heap_rule.specs.Rule.{Good, Rule, state_of}
use Rattle.heap_rule.specs.Views.{one}
use Rattle.heap_rule.proofs.Keeps.{Words, mine, my_good}
use Rattle.heap_rule.proofs.OwnPlaces.{own_place}
use Rattle.heap_rule.proofs.PauseFacts.{kind_differs}
use Rattle.heap_rule.proofs.Sharings.{knowing_words, leading_loads}
use Rattle.step_marks.specs.Marking.Looks.{with_share}
use Rattle.step_marks.proofs.OfMarking.Layouts.{labelled, owner_of_place, label_there}
use Rattle.step_marks.proofs.OfMarking.Learning.{at_other, at_same, bare, even, known, kind_here, leads_odd, lies_old, none_runs, not_promoting, whole_in}
use Rattle.step_marks.proofs.OfMarking.Pausing.{paused_on}
use Rattle.step_marks.proofs.OfMarking.Plain.{share_closes}
use Rattle.step_sweep.specs.Counting.{BlocksAddMay, BlocksAdded, WordsAddMay, WordsAdded}
use Rattle.step_sweep.proofs.Recounting.{IsCount, heap, here, low, other, recounted, recounts}
use Rattle.step_sweep.proofs.Swept.{sweep_facts, sweeping}
use Rattle.step_sweep.proofs.CountedPlaces.{AllLive, added_few, added_same, as_heavy, as_many, label_among, label_from, no_twice, words_of_shape}
use Rattle.std.specs.Option.{option_map_or}
use Rattle.heap_rule.proofs.Stages.{waits_in}

-- so few are added that the sum doesn't wrap
no_wrap : (n w amount : ℕ) → n ≤ 8 → w ≤ n * 2 ^ 40 → amount < 2 ^ 40 → w + amount < 2 ^ 64
no_wrap n w amount few low small =
    let m : ℕ = 2 ^ 40 in
    let top : n * m ≤ 8 * m = mul-le-mul_right m few in
    let z : ℕ = n * m in
    let a : w ≤ z = low in
    let b : amount < m = small in
    let large : 9 * m ≤ 2 ^ 64 = omega arith in omega arith

module _ (k : Config) (s : Words) (r : Rule k s) (id : ℕ) (hist : List Entry) (x : DomainView) (at : get_elem? s.views id ≡ some (one k hist x)) (stage : x.seen.stage ≡ In Sweep) where
  open r.account use {live, cycling as c, tenancy.{holder}}
  open x use {own.{number as d}, seen.{share as sh}}

  abbrev now : model.State
  now = state_of k r.account.log

  good : Good k r.account s.words x
  good = my_good k s r id hist x at

  collecting : IsCollecting x.seen.stage
  collecting = sweeping k s r id hist x at stage

  kn : Knowing k live holder now.graph c.paint.marks s.words d x.own.registers sh
  kn = known k s r id hist x at

  f : Sweeping k now live r.account.tenancy c s.words
  f = sweep_facts k s r id hist x at stage

  waits : c.shares.arrived d ≡ false
  waits = waits_in k s r id hist x at Sweep stage

  kind_is : c.kind ≡ Sweep
  kind_is = kind_here k s r id hist x at Sweep stage

  below : d < k.domains
  below = (mine k s r id hist x at).inside

  -- what a step owes that adds to the counts
  module _ (i v : ℕ) (is : IsCount i) (counts' : Counts) (blocks words : Bool) where
    abbrev words' : List ℕ
    words' = recounted k s r id hist x at i v is

    abbrev c' : Cycling
    c' = record c { counts = counts' }

    abbrev share' : Share
    share' = record sh { added_blocks = blocks; added_words = words }

    record Adding : Type 0 where
      counted : Counted k.domains (layout_of k live holder) now.graph c.before counts' words'
      grows : (e : ℕ) → IsTrue (c.counts.words e) → IsTrue (counts'.words e)
      mine_blocks : counts'.blocks d ≡ blocks
      mine_words : counts'.words d ≡ words
      mine_own : blocks ≡ true → counts'.own d ≡ labels_in live sh.counted
      others : (e : ℕ) → e ≢ d → (counts'.blocks e ≡ c.counts.blocks e) × (counts'.words e ≡ c.counts.words e) × (counts'.own e ≡ c.counts.own e)

    no_leader : (z : DomainView) → Good k r.account s.words z → ((z.own.number ≡ 0) × IsLeading z.seen.stage) ⊎ (z.seen.stage ≡ In Answer) → ⊥
    no_leader z g h = ⊎_elim
        (λ (l : (z.own.number ≡ 0) × IsLeading z.seen.stage). leads_odd r.account.pause z.own.number z.own.arrivals z.seen.stage (even k s r id hist x at collecting) g.staged.stage l.1)
        (λ (e : z.seen.stage ≡ In Answer).
        let a = subst (AtStage r.account.pause z.own.number z.own.arrivals) e g.staged.stage in
        let b = subst (AtStage r.account.pause d x.own.arrivals) stage good.staged.stage in
        let same : Answer ≡ Sweep = kind_differs r.account.pause a.1.0 b.1.0 r.account.pause.phase Answer Sweep a.1.1 b.1.1 a.1.2 b.1.2 in cc)
        h

    swept' : Adding → Sweeping k now live r.account.tenancy c' words'
    swept' o = let w = f.swept in record {
      since = ⊎_elim (λ u. inl (u.0, (let g = u.1.facts in record { facts = record { sealed = g.sealed; owned = g.owned; whole = g.whole; waiting = g.waiting; kept = g.kept }; rotated = u.1.rotated }), u.2)) (λ u. inr u) f.since;
      swept = record {
        all_marked = w.all_marked;
        unmarked = w.unmarked;
        unchanged = w.unchanged;
        counted = o.counted;
      };
      clear = f.clear;
      all_counted = λ e gone. o.grows e (f.all_counted e gone);
    }

    cycle' : Adding → Cycled k now live r.account.pause r.account.tenancy c' words'
    cycle' o = let y = r.whole.cycle in record {
      armed_is = low k s r id hist x at i v is 4 (omega arith) ∙ y.armed_is;
      meanings = y.meanings;
      colours_are = low k s r id hist x at i v is 5 (omega arith) ∙ y.colours_are;
      changed_is = low k s r id hist x at i v is 3 (omega arith) ∙ y.changed_is;
      facts = subst (λ (kind : Kind). Facts kind k now live r.account.tenancy c' words') (sym kind_is) (swept' o);
      told = y.told;
      leaves = record { none = y.leaves.none; dead = y.leaves.dead; head = λ a dead. let h = y.leaves.head a dead in (h.0, h.1, heap k s r id hist x at i v is a ∙ h.2); unprepared = y.leaves.unprepared; owned = y.leaves.owned };
      unswept = y.unswept;
      whole = λ l. inl (whole_in k s r id hist x at (λ e. let same : Sweep ≡ Clean = sym kind_is ∙ e in cc) l);
      grows = record { few = y.grows.few; since = y.grows.since; named = y.grows.named; cleared = y.grows.cleared };
    }

    -- nobody runs
    running' : (z : DomainView) → Good k r.account s.words z → RunsBeside k live holder c.armed c.past c.paint.marks.marked words' z.own.number z.seen.stage z.seen.share
    running' z h = paused_on k r.account.pause c r.whole.cycle.told (none_runs k s r id hist x at collecting) live live holder holder c.paint.marks.marked c.paint.marks.marked s.words words' z h.staged h.sharing.running

    -- nobody leads, so nobody has loaded what is counted
    leading_on : (z : DomainView) → Good k r.account s.words z → Leading c' words' z.own.number z.seen.stage z.seen.share
    leading_on z h = let l = h.sharing.leading in leading_loads c c' s.words words' z.own.number z.seen.stage z.seen.share z.seen.share refl refl record {
      changed = l.changed;
      found_blocks = λ w e. absurd (no_leader z h (l.found_blocks w e).0);
      found_words = λ w e. absurd (no_leader z h (l.found_words w e).0);
    } l

    adding_rule : Adding → Rule k record { words = words'; homes = s.homes; views = set s.views id (one k hist (with_share x share')) }
    adding_rule o = let g = good.sharing in let n = knowing_words k live holder now.graph c.paint.marks s.words words' d x.own.registers sh (heap k s r id hist x at i v is) kn in let t = n.counted in recounts k s r id hist x at i v is share' c' record {
      calm = not_promoting k s r id hist x at collecting;
      kind = refl;
      paint = refl;
      cycle = cycle' o;
      sharing = record {
        telling = record { owes = g.telling.owes; seen = g.telling.seen; fresh = λ up. absurd (true≢false (sym up ∙ waits)); forgotten = λ up. absurd (true≢false (sym up ∙ waits)); colours = g.telling.colours };
        leading = let l = leading_on x good in record { changed = l.changed; found_blocks = l.found_blocks; found_words = l.found_words; rotated = l.rotated; turned = l.turned; pass = l.pass; whole = l.whole; armed = l.armed; unswept = l.unswept; under_way = l.under_way; unmarked = l.unmarked };
        knows = inr (
          collecting,
          record { found_head = n.found_head; scan = n.scan; walked = n.walked; own_pool = n.own_pool; rooted = n.rooted; marked = n.marked; counted = record { once = t.once; own = t.own; lives = t.lives; all = t.all; words = t.words }; held = n.held; vacant = n.vacant },
        );
        adds = record { blocks = λ _ _. o.mine_blocks; words = λ _ _. o.mine_words; own = λ _ _. o.mine_own };
        looks = record { at_own = g.looks.at_own; cleans = g.looks.cleans; emptied_is = g.looks.emptied_is };
        running = let u = running' x good in record { knows = u.knows; owes = u.owes };
        deciding = g.deciding;
      };
      sharings = λ z _ differs h. let q = h.sharing in let e = o.others z.own.number differs in record {
        telling = q.telling;
        leading = leading_on z h;
        knows = ⊎_elim
            (λ (u : IsIdle z.seen.share). inl u)
            (λ (u : IsCollecting z.seen.stage × Knowing k live holder now.graph c.paint.marks s.words z.own.number z.own.registers z.seen.share). inr (u.0, knowing_words k live holder now.graph c.paint.marks s.words words' z.own.number z.own.registers z.seen.share (heap k s r id hist x at i v is) u.1))
            q.knows;
        adds = record { blocks = λ a b. e.0 ∙ q.adds.blocks a b; words = λ a b. e.1 ∙ q.adds.words a b; own = λ a b y. e.2 ∙ q.adds.own a b y };
        looks = q.looks;
        running = running' z h;
        deciding = q.deciding;
      };
      sweeps = good.sweeps;
      others_sweep = λ z h. h.sweeps;
    }

  -- the sums of others stay, where they don't count what the domain counts
  n : Counted k.domains (layout_of k live holder) now.graph c.before c.counts s.words
  n = f.swept.counted

  abbrev tl : List Label
  tl = labels_in live sh.counted

  lives : AllLive live sh.counted
  lives = kn.counted.lives

  -- the words of what it has counted
  weigh : (a : ℕ) (p : Place) → live a ≡ Some p → words_at now.graph p.label ≡ extent p.shape
  weigh a p there = let g = r.whole.found a p there in ap (λ o. option_map_or words_of o 0) g.there ∙ (words_of_shape g.node ∙ ap extent g.shape)

  -- the blocks
  module _ (amount : ℕ) (may : BlocksAddMay x amount) where
    abbrev own' : ℕ → List Label
    own' = at_domain c.counts.own d tl

    abbrev blocks' : ℕ → Bool
    blocks' = at_domain c.counts.blocks d true

    abbrev counts1 : Counts
    counts1 = record { own = own'; blocks = blocks'; words = c.counts.words }

    not_yet : c.counts.blocks d ≡ false
    not_yet = good.sharing.adds.blocks kind_is waits ∙ may.once

    added : (e : ℕ) → IsTrue (c.counts.blocks e) → e ≢ d
    added e is same = true≢false (sym is ∙ (ap c.counts.blocks same ∙ not_yet))

    same_own : (e : ℕ) → e ≢ d → own' e ≡ c.counts.own e
    same_own e differs = at_other c.counts.own d tl e differs

    own_here : own' d ≡ tl
    own_here = at_same c.counts.own d tl

    was : (e : ℕ) → e ≢ d → IsTrue (blocks' e) → IsTrue (c.counts.blocks e)
    was e differs is = sym (at_other c.counts.blocks d true e differs) ∙ is

    amount_is : length tl ≡ amount
    amount_is = as_many live sh.counted lives ∙ sym may.counted

    sum_was : added_up c.counts.blocks (λ e. length (own' e)) k.domains ≡ live_blocks s.words
    sum_was = added_same c.counts.blocks (λ e. length (own' e)) (λ e. length (c.counts.own e)) (λ e is. ap (λ (l : List Label). length l) (same_own e (added e is))) k.domains ∙ sym n.blocks_are

    few_before : live_blocks s.words ≤ k.domains * 2 ^ 40
    few_before = subst (λ (m : ℕ). m ≤ k.domains * 2 ^ 40) (sym n.blocks_are) (added_few c.counts.blocks (λ e. length (c.counts.own e)) (2 ^ 40) n.few k.domains)

    abbrev sum : ℕ
    sum = (live_blocks s.words + amount) % 2 ^ 64

    no_more : sum ≡ live_blocks s.words + amount
    no_more = mod-eq_of_lt (no_wrap k.domains (live_blocks s.words) amount r.limits.domains few_before may.few)

    nine : IsCount 9
    nine = inl refl

    counted1 : Counted k.domains (layout_of k live holder) now.graph c.before counts1 (recounted k s r id hist x at 9 sum nine)
    counted1 = record {
      first = λ e is. dite (ℕ_discrete e d)
          (λ same. ap blocks' same ∙ at_same c.counts.blocks d true)
          (λ differs. at_other c.counts.blocks d true e differs ∙ n.first e is);
      once = λ e is. dite (ℕ_discrete e d)
          (λ same. subst (λ (l : List Label). IsTrue (has_no_repeats l)) (sym (ap own' same ∙ own_here)) (no_twice live apart sh.counted kn.counted.once lives))
          (λ differs. subst (λ (l : List Label). IsTrue (has_no_repeats l)) (sym (same_own e differs)) (n.once e (was e differs is)));
      owned = λ e l is has. dite (ℕ_discrete e d)
          (λ same. own_owned e same l (subst (λ (o : List Label). IsTrue (has_label o l)) (ap own' same ∙ own_here) has))
          (λ differs. n.owned e l (was e differs is) (subst (λ (o : List Label). IsTrue (has_label o l)) (same_own e differs) has));
      all = λ e a l is there owner marked. dite (ℕ_discrete e d)
          (λ same. subst (λ (o : List Label). IsTrue (has_label o l)) (sym (ap own' same ∙ own_here)) (own_all a l there (owner ∙ ap Some same)))
          (λ differs. subst (λ (o : List Label). IsTrue (has_label o l)) (sym (same_own e differs)) (n.all e a l (was e differs is) there owner marked));
      few = λ e is. dite (ℕ_discrete e d)
          (λ same. subst (λ (m : ℕ). m < 2 ^ 40) (sym (ap (λ (l : List Label). length l) (ap own' same ∙ own_here) ∙ amount_is)) may.few)
          (λ differs. subst (λ (l : List Label). length l < 2 ^ 40) (sym (same_own e differs)) (n.few e (was e differs is)));
      light = λ e is. subst (λ (l : List Label). sum_by (words_at now.graph) l < 2 ^ 40) (sym (same_own e (added e (n.first e is)))) (n.light e is);
      blocks_are = here k s r id hist x at 9 sum nine ∙ (no_more ∙ (sums ∙ sym (adds c.counts.blocks (λ e. length (own' e)) d k.domains below not_yet)));
      words_are = other k s r id hist x at 9 sum nine 10 (λ e. omega arith) ∙ (n.words_are ∙ sym (added_same c.counts.words (λ e. sum_by (words_at now.graph) (own' e)) (λ e. sum_by (words_at now.graph) (c.counts.own e)) (λ e is. ap (sum_by (words_at now.graph)) (same_own e (added e (n.first e is)))) k.domains));
    } where
      apart : (a b : ℕ) (p q : Place) → live a ≡ Some p → live b ≡ Some q → p.label ≡ q.label → a ≡ b
      apart a b p q e g same = r.whole.placed.once a b p q e g same (bare k s r id hist x at collecting a p e).no_forward (bare k s r id hist x at collecting b q g).no_forward

      own_owned : (e : ℕ) → e ≡ d → (l : Label) → IsTrue (has_label tl l) → (a : ℕ) × ((layout_of k live holder).live a ≡ Some l) × ((layout_of k live holder).owner a ≡ Some e) × IsTrue (c.before l)
      own_owned e same l has =
          let u = label_from live sh.counted l has in
          let o = kn.counted.own u.0 u.2 in (
            u.0,
            label_there k live u.0 u.1 u.3 (lies_old k s r id hist x at collecting u.0 u.1 u.3) ∙ ap Some u.4,
            ap (layout_of k live holder).owner o.6 ∙ (owner_of_place holder o.0 d o.1 o.2 (r.whole.pools.owned_by o.0 d o.1 o.3).2 o.3 o.4 ∙ ap Some (sym same)),
            subst (λ (z : Label). IsTrue (c.before z)) u.4 (f.swept.all_marked u.0 u.1 u.3),
          )

      own_all : (a : ℕ) (l : Label) → (layout_of k live holder).live a ≡ Some l → (layout_of k live holder).owner a ≡ Some d → IsTrue (has_label tl l)
      own_all a l there owner =
          let u = labelled k live a l there in
          let o = own_place holder (λ q e b h. (r.whole.pools.owned_by q e b h).2) d a owner in
          let low : o.pool < x.own.swept.top = (my_good k s r id hist x at).sweeps.below o.pool o.class o.owned_is in
          let before : o.pool < sh.counted_to.pool = (let q : ℕ = o.pool in let m : ℕ = x.own.swept.top in let w : ℕ = sh.counted_to.pool in let g : q < m = low in let h : m ≤ w = may.whole in omega arith) in
          let is_counted : IsTrue (seen_by sh.counted (place_in o.pool o.class o.slot)) = kn.counted.all o.pool o.class o.slot u.place o.owned_is o.inside (inl before) (ap live (sym o.begins) ∙ u.lives) in
          subst (λ (z : Label). IsTrue (has_label tl z)) u.label (label_among live sh.counted a u.place (subst (λ (b : ℕ). IsTrue (seen_by sh.counted b)) (sym o.begins) is_counted) u.lives)

      sums : live_blocks s.words + amount ≡ added_up c.counts.blocks (λ e. length (own' e)) k.domains + length (own' d)
      sums =
          let a : ℕ = live_blocks s.words in
          let b : ℕ = added_up c.counts.blocks (λ e. length (own' e)) k.domains in
          let e : b ≡ a = sum_was in
          let m : ℕ = length (own' d) in
          let g : m ≡ amount = ap (λ (l : List Label). length l) own_here ∙ amount_is in
          let h : a + amount ≡ b + m = omega arith in h

    pub blocks_rule : Rule k record { words = set s.words 9 sum; homes = s.homes; views = set s.views id (one k hist (with_share x (record sh { added_blocks = true }))) }
    blocks_rule = adding_rule 9 sum nine counts1 true sh.added_words record {
      counted = counted1;
      grows = λ e is. is;
      mine_blocks = at_same c.counts.blocks d true;
      mine_words = good.sharing.adds.words kind_is waits;
      mine_own = λ _. own_here;
      others = λ e differs. (at_other c.counts.blocks d true e differs, refl, same_own e differs);
    }

  -- and the words
  module _ (amount : ℕ) (may : WordsAddMay x amount) where
    abbrev wrote : ℕ → Bool
    wrote = at_domain c.counts.words d true

    abbrev counts2 : Counts
    counts2 = record { own = c.counts.own; blocks = c.counts.blocks; words = wrote }

    unwritten : c.counts.words d ≡ false
    unwritten = good.sharing.adds.words kind_is waits ∙ may.once

    own_is : c.counts.own d ≡ tl
    own_is = good.sharing.adds.own kind_is waits may.blocks

    heavy : sum_by (words_at now.graph) (c.counts.own d) ≡ amount
    heavy = ap (sum_by (words_at now.graph)) own_is ∙ (as_heavy live now.graph weigh sh.counted lives ∙ (sym kn.counted.words ∙ sym may.counted))

    abbrev total : ℕ
    total = (live_words s.words + amount) % 2 ^ 64

    light_before : live_words s.words ≤ k.domains * 2 ^ 40
    light_before = subst (λ (m : ℕ). m ≤ k.domains * 2 ^ 40) (sym n.words_are) (added_few c.counts.words (λ e. sum_by (words_at now.graph) (c.counts.own e)) (2 ^ 40) n.light k.domains)

    no_more_words : total ≡ live_words s.words + amount
    no_more_words = mod-eq_of_lt (no_wrap k.domains (live_words s.words) amount r.limits.domains light_before may.few)

    ten : IsCount 10
    ten = inr refl

    was_written : (e : ℕ) → e ≢ d → IsTrue (wrote e) → IsTrue (c.counts.words e)
    was_written e differs is = sym (at_other c.counts.words d true e differs) ∙ is

    counted2 : Counted k.domains (layout_of k live holder) now.graph c.before counts2 (recounted k s r id hist x at 10 total ten)
    counted2 = record {
      first = λ e is. dite (ℕ_discrete e d)
          (λ same. ap c.counts.blocks same ∙ (good.sharing.adds.blocks kind_is waits ∙ may.blocks))
          (λ differs. n.first e (was_written e differs is));
      once = n.once;
      owned = n.owned;
      all = n.all;
      few = n.few;
      light = λ e is. dite (ℕ_discrete e d)
          (λ same. subst (λ (m : ℕ). m < 2 ^ 40) (sym (ap (λ (i : ℕ). sum_by (words_at now.graph) (c.counts.own i)) same ∙ heavy)) may.few)
          (λ differs. n.light e (was_written e differs is));
      blocks_are = other k s r id hist x at 10 total ten 9 (λ e. omega arith) ∙ n.blocks_are;
      words_are = here k s r id hist x at 10 total ten ∙ (no_more_words ∙ ((let e = n.words_are in let g = sym heavy in (λ i. e i + g i)) ∙ sym (adds c.counts.words (λ e. sum_by (words_at now.graph) (c.counts.own e)) d k.domains below unwritten)));
    }

    pub words_rule : Rule k record { words = set s.words 10 total; homes = s.homes; views = set s.views id (one k hist (with_share x (record sh { added_words = true }))) }
    words_rule = adding_rule 10 total ten counts2 sh.added_blocks true record {
      counted = counted2;
      grows = λ e is. dite (ℕ_discrete e d) (λ same. ap wrote same ∙ at_same c.counts.words d true) (λ differs. at_other c.counts.words d true e differs ∙ is);
      mine_blocks = good.sharing.adds.blocks kind_is waits;
      mine_words = at_same c.counts.words d true;
      mine_own = λ _. own_is;
      others = λ e differs. (refl, at_other c.counts.words d true e differs, refl);
    }

pub blocks_add_may : (k : Config) (x : DomainView) (amount : ℕ) → BlocksAddMay x amount → MayStep k x 9 (λ n. (n + amount) % 2 ^ 64) BlocksAdded
blocks_add_may k x amount may fits slots id hist s r _ at _ = (one k hist (with_share x (record x.seen.share { added_blocks = true })), keeps, tt, blocks_rule k s r id hist x at may.stage amount may, (refl, refl))

pub blocks_add_closes : (k : Config) (x : DomainView) (found : ℕ) → Closes k x found BlocksAdded CanLeave Leaves
blocks_add_closes k x found = share_closes k x found BlocksAdded (λ y t. (record x.seen.share { added_blocks = true }, t))

pub words_add_may : (k : Config) (x : DomainView) (amount : ℕ) → WordsAddMay x amount → MayStep k x 10 (λ n. (n + amount) % 2 ^ 64) WordsAdded
words_add_may k x amount may fits slots id hist s r _ at _ = (one k hist (with_share x (record x.seen.share { added_words = true })), keeps, tt, words_rule k s r id hist x at may.stage amount may, (refl, refl))

pub words_add_closes : (k : Config) (x : DomainView) (found : ℕ) → Closes k x found WordsAdded CanLeave Leaves
words_add_closes k x found = share_closes k x found WordsAdded (λ y t. (record x.seen.share { added_words = true }, t))
