-- Where a collection is answered, the live blocks and the live words are those that are reachable.
use Rattle.std.proofs.Common.{◌≡◌, ℕ, ◌<◌, Bool, true, false, cond, IsTrue, List, [], length, sum_by, sym, refl, ap, ◌∙◌, subst, ⊎_elim}
use Rattle.std.proofs.lemmas.Bool.{cases_Bool}
use mathlib.Core.Option.{some}
use lib.ListN.{get_elem?}
use Rattle.model_core.specs.declared.entry.Entry.{Entry}
use Rattle.model_core.specs.declared.label.Label.{Label}
use Rattle.model_core.specs.declared.state.State as model
use Rattle.model_core.specs.Domains.{reach}
use Rattle.model_core.specs.Graph.{has_label, has_no_repeats, words_at}
use Rattle.model_cycle.specs.Counting.{IsShareOut, added_up}
use Rattle.model_cycle.specs.Shares.{Layout, OnePlaceEach}
use Rattle.model_cycle.proofs.Counting.{count_law}
use Rattle.heap_rule.specs.declared.config.Config.{Config}
use Rattle.heap_rule.specs.declared.phase.Kind.{Kind}
use Rattle.heap_rule.specs.declared.phase.Kind.TheVariants.{Answer}
use Rattle.heap_rule.specs.declared.phase.Stage.TheVariants.{In}
use Rattle.heap_rule.specs.declared.view.DomainView.{DomainView}
use Rattle.heap_rule.specs.Cycles.{Answering, Facts, IsCollecting, layout_of}
use Rattle.heap_rule.specs.Layout.{live_blocks, live_words}
use Rattle.heap_rule.specs.Rule.{Rule, state_of}
use Rattle.heap_rule.specs.Views.{one}
use Rattle.heap_rule.proofs.Keeps.{Words}
use Rattle.heap_rule.proofs.OwnPlaces.{own_place}
use Rattle.step_marks.proofs.OfMarking.Layouts.{labelled}
use Rattle.step_marks.proofs.OfMarking.Learning.{bare, kind_here}
use Rattle.step_sweep.proofs.CountedPlaces.{added_same}

module _ (k : Config) (s : Words) (r : Rule k s) (id : ℕ) (hist : List Entry) (x : DomainView) (at : get_elem? s.views id ≡ some (one k hist x)) (stage : x.seen.stage ≡ In Answer) where
  open r.account use {live, tenancy as T, cycling as c}

  abbrev now : model.State
  now = state_of k r.account.log

  pub answers : IsCollecting x.seen.stage
  answers = subst IsCollecting (sym stage) (λ none. none)

  pub answer_kind : c.kind ≡ Answer
  answer_kind = kind_here k s r id hist x at Answer stage

  pub answer_facts : Answering k now live T c s.words
  answer_facts = subst (λ (kind : Kind). Facts kind k now live T c s.words) answer_kind r.whole.cycle.facts

  abbrev layout : Layout
  layout = layout_of k live T.holder

  -- what the domains have counted
  abbrev own : ℕ → List Label
  own e = cond (c.counts.blocks e) (c.counts.own e) []

  own_is : (e : ℕ) → IsTrue (c.counts.blocks e) → own e ≡ c.counts.own e
  own_is e is = ap (λ (b : Bool). cond b (c.counts.own e) []) is

  own_none : (e : ℕ) → c.counts.blocks e ≡ false → own e ≡ []
  own_none e is = ap (λ (b : Bool). cond b (c.counts.own e) []) is

  all_blocks : (e : ℕ) → e < k.domains → IsTrue (c.counts.blocks e)
  all_blocks e below = answer_facts.swept.counted.first e (answer_facts.all_counted e below)

  -- each counts its own, once
  share_out : IsShareOut layout c.before own
  share_out = let n = answer_facts.swept.counted in record {
    once = λ e. ⊎_elim
        (λ (is : c.counts.blocks e ≡ true). subst (λ (l : List Label). IsTrue (has_no_repeats l)) (sym (own_is e is)) (n.once e is))
        (λ (is : c.counts.blocks e ≡ false). subst (λ (l : List Label). IsTrue (has_no_repeats l)) (sym (own_none e is)) refl)
        (cases_Bool (c.counts.blocks e));
    owned = λ e l has. ⊎_elim
        (λ (is : c.counts.blocks e ≡ true). n.owned e l is (subst (λ (o : List Label). IsTrue (has_label o l)) (own_is e is) has))
        (λ (is : c.counts.blocks e ≡ false). absurd (let clash : false ≡ true = subst (λ (o : List Label). IsTrue (has_label o l)) (own_none e is) has in cc))
        (cases_Bool (c.counts.blocks e));
    all = λ e a l there owner marked.
        let P = r.whole.pools in
        let place = own_place T.holder (λ q d class h. (P.owned_by q d class h).2) e a owner in
        let is = all_blocks e (P.owned_by place.pool e place.class place.owned_is).1 in
        subst (λ (o : List Label). IsTrue (has_label o l)) (sym (own_is e is)) (n.all e a l is there owner marked);
  }

  one_place : OnePlaceEach layout
  one_place a b l e f =
      let p = labelled k live a l e in
      let q = labelled k live b l f in
      r.whole.placed.once a b p.place q.place p.lives q.lives (p.label ∙ sym q.label) (bare k s r id hist x at answers a p.place p.lives).no_forward (bare k s r id hist x at answers b q.place q.lives).no_forward

  pub blocks_reach : live_blocks s.words ≡ length (reach now)
  blocks_reach =
      let g = answer_facts.ends.facts in
      let n = answer_facts.swept.counted in
      (count_law.end k.domains layout now c.before own c.counts.blocks (live_blocks s.words) (added_up c.counts.blocks (λ e. sum_by (words_at now.graph) (own e)) k.domains)
      record { out = share_out; blocks_are = n.blocks_are ∙ added_same c.counts.blocks (λ e. length (c.counts.own e)) (λ e. length (own e)) (λ e is. ap (λ (l : List Label). length l) (sym (own_is e is))) k.domains; words_are = refl }
      one_place all_blocks g.owned g.kept (g.whole answer_facts.whole)).0

  pub words_reach : live_words s.words ≡ sum_by (words_at now.graph) (reach now)
  words_reach =
      let g = answer_facts.ends.facts in
      let n = answer_facts.swept.counted in
      (count_law.end k.domains layout now c.before own c.counts.words (added_up c.counts.words (λ e. length (own e)) k.domains) (live_words s.words)
      record { out = share_out; blocks_are = refl; words_are = n.words_are ∙ added_same c.counts.words (λ e. sum_by (words_at now.graph) (c.counts.own e)) (λ e. sum_by (words_at now.graph) (own e)) (λ e is. ap (sum_by (words_at now.graph)) (sym (own_is e (n.first e is)))) k.domains }
      one_place answer_facts.all_counted g.owned g.kept (g.whole answer_facts.whole)).1
