-- Fullness through the steps: as entries come, as blocks cease to live, and from phase to phase.
use Rattle.std.proofs.Common.{◌≡◌, ℕ, false, IsTrue, List, [], ◌∷◌, ◌++◌, Option, Some, sym, ap, ◌∙◌, subst, inl, inr, ⊎_elim, refl, ◌≢◌, ◌≤◌, ◌||◌, cond, arith, ◌⊎◌, true, None, ◌*◌, ◌+◌, ◌<◌, Bool}
use Rattle.model_core.specs.declared.entry.Entry.{Entry}
use Rattle.model_core.specs.declared.entry.Entry.TheVariants.{Command as CommandOf, Ran}
use Rattle.model_core.specs.declared.graph.Node.{Node}
use Rattle.model_core.specs.declared.label.Label.{Label}
use Rattle.model_core.specs.declared.state.State as model
use Rattle.model_core.specs.Graph.{has_label, node_at, same_label}
use Rattle.model_core.specs.Domains.{opening}
use Rattle.model_core.specs.History.{state_after}
use Rattle.model_core.proofs.Commands.FrameLemmas.{grew_next}
use Rattle.model_core.proofs.Histories.HistoryLemmas.{state_after-push}
use Rattle.model_cycle.specs.Fullness.{kept_labels, is_collected, HoldsKept, new_label}
use Rattle.model_cycle.proofs.Keeping.{all_kept_stays, kept_push, makes_label}
use Rattle.heap_rule.specs.declared.config.Config.{Config}
use Rattle.heap_rule.specs.declared.phase.Kind.{Kind}
use Rattle.heap_rule.specs.declared.phase.Kind.TheVariants.{Answer}
use Rattle.heap_rule.specs.Limits.{sizes_in}
use Rattle.heap_rule.specs.Places.{Live, Place}
use Rattle.heap_rule.specs.Pools.{Holder, place_in, Tenancy, Pools, OwnPlace, size_of}
use Rattle.heap_rule.specs.Fullness.{Homes, Fullness}
use Rattle.heap_rule.proofs.Keeps.{IsOfTrace}
use Rattle.heap_rule.proofs.Again.{Back}
use mathlib.Core.Logic.{dite}
use native.Mathlib.Decide.{ℕ_discrete}
use Rattle.model_core.specs.declared.command.Command.{Command}
use Rattle.model_core.specs.Commands.{is_allocation}
use Rattle.model_cycle.specs.Pools.{with_pool}
use Rattle.model_core.proofs.Reach.ReachLemmas.{has-append_right}
use Rattle.model_core.proofs.Graphs.GraphLemmas.{same_label_refl, same_label-true, same_label-false}
use Rattle.heap_rule.proofs.Lots.{number_cases, place_low}
use Rattle.heap_rule.proofs.Classes.{slot_inside, size_least}

-- a kept label stays kept
pub kept_stays : (k : Config) (log : List Entry) (e : Entry) (l : Label) → is_collected e ≡ false → IsTrue (has_label (kept_labels (sizes_in k) log) l) → IsTrue (has_label (kept_labels (sizes_in k) (log ++ e ∷ [])) l)
kept_stays k log e l other is = let s : model.State = state_after (opening (sizes_in k)) log in
    subst (λ (kept : List Label). IsTrue (has_label kept l)) (sym (kept_push (sizes_in k) log e)) (all_kept_stays s e (λ x. has_label (kept_labels (sizes_in k) log) x) (kept_labels (sizes_in k) log) other (λ x h. h) l is)

-- and so does a block of the graph
pub made_stays : (k : Config) (log : List Entry) (e : Entry) (homes : Homes) → ((l : Label) (q : ℕ) → homes l ≡ Some q → (n : Node) × (node_at (state_after (opening (sizes_in k)) log).graph l ≡ Some n))
    → (l : Label) (q : ℕ) → homes l ≡ Some q → (n : Node) × (node_at (state_after (opening (sizes_in k)) (log ++ e ∷ [])).graph l ≡ Some n)
made_stays k log e homes made l q is =
    let m = made l q is in
    let g = grew_next (state_after (opening (sizes_in k)) log) e l m.0 m.1 in
    (g.0, ap (λ (s : model.State). node_at s.graph l) (state_after-push (opening (sizes_in k)) log e) ∙ g.1)

-- one more entry that makes no block
pub full_stays : (k : Config) (log : List Entry) (live : Live) (holder : ℕ → Holder) (fresh : ℕ → ℕ → Option ℕ) (garbage : ℕ → Bool) (homes : Homes) (kind : Kind) (e : Entry) → is_collected e ≡ false
    → Fullness k log live holder fresh garbage homes kind → Fullness k (log ++ e ∷ []) live holder fresh garbage homes kind
full_stays k log live holder fresh garbage homes kind e other f = record {
  kept = λ a p lives. kept_stays k log e p.label other (f.kept a p lives);
  low = f.low;
  young = f.young;
  made = made_stays k log e homes f.made;
  owned = λ goes q d c is. ⊎_elim (λ (h : fresh d c ≡ Some q). inl h) (λ (h : HoldsKept (kept_labels (sizes_in k) log) homes q). inr (h.0, kept_stays k log e h.0 other h.1, h.2)) (f.owned goes q d c is);
  drawn = f.drawn;
  left = λ q d c slot is inside dead. let h = f.left q d c slot is inside dead in (h.0, kept_stays k log e h.0 other h.1, h.2);
}

-- what lives lived before, as the same block
pub full_back : (k : Config) (log : List Entry) (live live' : Live) (holder : ℕ → Holder) (fresh : ℕ → ℕ → Option ℕ) (garbage : ℕ → Bool) (homes : Homes) (kind : Kind) → Back live live'
    → Fullness k log live holder fresh garbage homes kind → Fullness k log live' holder fresh garbage homes kind
full_back k log live live' holder fresh garbage homes kind back f = record {
  kept = λ a p lives. let w = back a p lives in subst (λ (l : Label). IsTrue (has_label (kept_labels (sizes_in k) log) l)) w.label (f.kept a w.place w.lives);
  low = λ q d c slot p is inside lives. let w = back (place_in q c slot) p lives in ap homes (sym w.label) ∙ f.low q d c slot w.place is inside w.lives;
  young = λ a p lives young bare. let w = back a p lives in ap homes (sym w.label) ∙ f.young a w.place w.lives young (w.forward ∙ bare);
  made = f.made;
  owned = f.owned;
  drawn = f.drawn;
  left = f.left;
}

-- from phase to phase, but from that in which a collection is answered
pub full_kind : (k : Config) (log : List Entry) (live : Live) (holder : ℕ → Holder) (fresh : ℕ → ℕ → Option ℕ) (garbage : ℕ → Bool) (homes : Homes) (kind kind' : Kind) → ((kind' ≡ Answer → ⊥) → kind ≡ Answer → ⊥)
    → Fullness k log live holder fresh garbage homes kind → Fullness k log live holder fresh garbage homes kind'
full_kind k log live holder fresh garbage homes kind kind' goes f = record { kept = f.kept; low = f.low; young = f.young; made = f.made; owned = λ h. f.owned (goes h); drawn = f.drawn; left = f.left }

-- neither a command nor the run of a finaliser collects anything
pub trace_collects : (e : Entry) → IsOfTrace e → is_collected e ≡ false
trace_collects (CommandOf d c full) is = refl
trace_collects (Ran d) is = refl
trace_collects _ is = absurd is

label_discrete : (l x : Label) → (l ≡ x) ⊎ (l ≡ x → ⊥)
label_discrete l x = go (same_label l x) refl where
  go : (b : Bool) → same_label l x ≡ b → (l ≡ x) ⊎ (l ≡ x → ⊥)
  go true e = inl (same_label-true l x e)
  go false e = inr (λ same. let f : false ≡ true = sym e ∙ (ap (same_label l) (sym same) ∙ same_label_refl l) in cc)

-- the label that an allocation gives is kept
pub new_kept : (k : Config) (log : List Entry) (d : ℕ) (c : Command) → is_allocation c ≡ true → IsTrue (has_label (kept_labels (sizes_in k) (log ++ CommandOf d c false ∷ [])) (new_label (state_after (opening (sizes_in k)) log) d))
new_kept k log d c makes =
    let s : model.State = state_after (opening (sizes_in k)) log in
    let l : Label = new_label s d in
    let kept : List Label = kept_labels (sizes_in k) log in
    subst (λ (all : List Label). IsTrue (has_label all l)) (sym (kept_push (sizes_in k) log (CommandOf d c false) ∙ makes_label s d c kept makes)) (has-append_right kept (l ∷ []) l (ap (λ (b : Bool). b || false) (same_label_refl l)))

-- a label without a block has no home
pub homeless : (k : Config) (log : List Entry) (live : Live) (holder : ℕ → Holder) (fresh : ℕ → ℕ → Option ℕ) (garbage : ℕ → Bool) (homes : Homes) (kind : Kind) (l : Label) → node_at (state_after (opening (sizes_in k)) log).graph l ≡ None
    → Fullness k log live holder fresh garbage homes kind → homes l ≡ None
homeless k log live holder fresh garbage homes kind l unknown f = ⊎_elim (λ (e : homes l ≡ None). e) (λ (t : (q : ℕ) × (homes l ≡ Some q)). let n = f.made l t.0 t.1 in absurd (let e : ◌≡◌ {A = Option Node} None (Some n.0) = sym unknown ∙ n.1 in cc)) (number_cases (homes l))

-- a young block comes to live, whose label is kept and has no home
pub full_young : (k : Config) (t : Tenancy) (words : List ℕ) (log : List Entry) (live live' : Live) (homes : Homes) (kind : Kind) (A : ℕ) (l : Label) → Pools k t words → k.pools * 4096 < A
    → ((b : ℕ) (q : Place) → b ≢ A → live' b ≡ Some q → live b ≡ Some q) → ((q : Place) → live' A ≡ Some q → q.label ≡ l) → homes l ≡ None → IsTrue (has_label (kept_labels (sizes_in k) log) l)
    → Fullness k log live t.holder t.fresh t.garbage homes kind → Fullness k log live' t.holder t.fresh t.garbage homes kind
full_young k t words log live live' homes kind A l pools high old here none is_kept f = record {
  kept = λ b q lives. dite (ℕ_discrete b A)
      (λ same. subst (λ (z : Label). IsTrue (has_label (kept_labels (sizes_in k) log) z)) (sym (here q (ap live' (sym same) ∙ lives))) is_kept)
      (λ other. f.kept b q (old b q other lives));
  low = λ q d c slot p is inside lives. f.low q d c slot p is inside (old (place_in q c slot) p (λ same.
      let below : place_in q c slot ≤ k.pools * 4096 = place_low k t words (place_in q c slot) d pools record { pool = q; class = c; slot = slot; owned_is = is; inside = inside; begins = refl } in
      let e : place_in q c slot ≡ A = same in omega arith) lives);
  young = λ b q lives young bare. dite (ℕ_discrete b A)
      (λ same. ap homes (here q (ap live' (sym same) ∙ lives)) ∙ none)
      (λ other. f.young b q (old b q other lives) young bare);
  made = f.made;
  owned = f.owned;
  drawn = f.drawn;
  left = f.left;
}

-- a block is there, or was there under this label, and if it doesn't forward it didn't
pub record Came (live : Live) (b : ℕ) (q : Place) : Type 0 where
  pub place : Place
  pub lives : live b ≡ Some place
  pub label : place.label ≡ q.label
  pub bare : q.forward ≡ None → place.forward ≡ None

-- a block comes to live at a place of an owned pool, whose label is kept and had no home
pub full_filled : (k : Config) (t : Tenancy) (words : List ℕ) (log : List Entry) (live live' : Live) (homes : Homes) (kind : Kind) (A : ℕ) (l : Label) → Pools k t words → (own : (d : ℕ) × OwnPlace t.holder A d)
    → ((b : ℕ) (q : Place) → b ≢ A → live' b ≡ Some q → Came live b q) → ((q : Place) → live' A ≡ Some q → q.label ≡ l)
    → ((b : ℕ) (q : Place) → b ≢ A → live' b ≡ Some q → q.forward ≡ None → q.label ≡ l → ⊥) → ((b : ℕ) (q : Place) → live' b ≡ Some q → b ≤ k.pools * 4096 → q.forward ≡ None)
    → homes l ≡ None → (n : Node) → node_at (state_after (opening (sizes_in k)) log).graph l ≡ Some n → IsTrue (has_label (kept_labels (sizes_in k) log) l)
    → Fullness k log live t.holder t.fresh t.garbage homes kind → Fullness k log live' t.holder t.fresh t.garbage (with_pool homes l (own.1).pool) kind
full_filled k t words log live live' homes kind A l pools own came here alone bare none n node is_kept f =
    let o = own.1 in record {
      kept = λ b q lives. dite (ℕ_discrete b A)
          (λ same. subst (λ (z : Label). IsTrue (has_label (kept_labels (sizes_in k) log) z)) (sym (here q (ap live' (sym same) ∙ lives))) is_kept)
          (λ other. let w = came b q other lives in subst (λ (z : Label). IsTrue (has_label (kept_labels (sizes_in k) log) z)) w.label (f.kept b w.place w.lives));
      low = λ q d c slot p is inside lives. let at : ℕ = place_in q c slot in
          let below : at ≤ k.pools * 4096 = place_low k t words at d pools record { pool = q; class = c; slot = slot; owned_is = is; inside = inside; begins = refl } in dite (ℕ_discrete at A)
          (λ same.
          let s : ℕ = slot * size_of c in let z : ℕ = size_of c in let s0 : ℕ = o.slot * size_of o.class in let z0 : ℕ = size_of o.class in
          let top : s + z ≤ 4096 = slot_inside c slot (pools.owned_by q d c is).2 inside in
          let top0 : s0 + z0 ≤ 4096 = slot_inside o.class o.slot (pools.owned_by o.pool own.0 o.class o.owned_is).2 o.inside in
          let large : 4 ≤ z = size_least c (pools.owned_by q d c is).2 in
          let large0 : 4 ≤ z0 = size_least o.class (pools.owned_by o.pool own.0 o.class o.owned_is).2 in
          let places : q * 4096 + s + 1 ≡ o.pool * 4096 + s0 + 1 = same ∙ o.begins in
          let p0 : ℕ = o.pool in
          let e : p0 ≡ q = omega arith in
          ap (with_pool homes l o.pool) (here p (ap live' (sym same) ∙ lives)) ∙ (home_here ∙ ap Some e))
          (λ other. let w = came at p other lives in home_else p.label (λ e. alone at p other lives (bare at p lives below) (sym e)) ∙ (ap homes (sym w.label) ∙ f.low q d c slot w.place is inside w.lives));
      young = λ b q lives young plain. dite (ℕ_discrete b A)
          (λ same. absurd (let below : A ≤ k.pools * 4096 = place_low k t words A own.0 pools o in let e : b ≡ A = same in omega arith))
          (λ other. let w = came b q other lives in home_else q.label (λ e. alone b q other lives plain (sym e)) ∙ (ap homes (sym w.label) ∙ f.young b w.place w.lives young (w.bare plain)));
      made = λ x q is. ⊎_elim
          (λ (same : l ≡ x). (n, ap (λ (z : Label). node_at (state_after (opening (sizes_in k)) log).graph z) (sym same) ∙ node))
          (λ (other : l ≡ x → ⊥). f.made x q (sym (home_else x other) ∙ is)) (label_discrete l x);
      owned = λ goes q d c is. ⊎_elim (λ (h : t.fresh d c ≡ Some q). inl h) (λ (h : HoldsKept (kept_labels (sizes_in k) log) homes q). inr (h.0, h.1, home_else h.0 (λ e. let bad : ◌≡◌ {A = Option ℕ} None (Some q) = sym none ∙ (ap homes e ∙ h.2) in cc) ∙ h.2)) (f.owned goes q d c is);
      drawn = f.drawn;
      left = λ q d c slot is inside dead. let h = f.left q d c slot is inside dead in (h.0, h.1, home_else h.0 (λ e. let bad : ◌≡◌ {A = Option ℕ} None (Some q) = sym none ∙ (ap homes e ∙ h.2) in cc) ∙ h.2);
    } where
      home_here : with_pool homes l (own.1).pool l ≡ Some (own.1).pool
      home_here = ap (λ (b : Bool). cond b (Some (own.1).pool) (homes l)) (same_label_refl l)

      home_else : (x : Label) → (l ≡ x → ⊥) → with_pool homes l (own.1).pool x ≡ homes x
      home_else x other = ap (λ (b : Bool). cond b (Some (own.1).pool) (homes x)) (same_label-false l x other)
