-- The claim of a block that was met.
use Rattle.std.proofs.Common.{◌≡◌, ◌≢◌, ℕ, ◌+◌, ◌*◌, ◌<◌, ◌≤◌, List, [], ◌∷◌, ◌++◌, length, append-nil, set, slice_get, Option, Some, None, inl, inr, refl, sym, ap, ◌∙◌, subst, ⊎_elim, arith, get_or-set_other}
use mathlib.Core.Logic.{dite}
use native.Mathlib.Decide.{ℕ_discrete}
use Rattle.model_core.specs.Domains.{class_count, IsWithinLimits}
use Rattle.heap_words.specs.Labels.{label_word}
use Rattle.heap_words.specs.declared.head.Head.TheVariants.{Forward}
use Rattle.heap_words.specs.Heads.{IsPackableHead, head_word}
use Rattle.heap_words.specs.Unpacked.{IsWordOf, Unpacks}
use Rattle.heap_rule.specs.declared.config.Config.{Config}
use Rattle.heap_rule.specs.declared.view.Copied.{Copied}
use Rattle.heap_rule.specs.declared.view.Copying.{Copying}
use Rattle.heap_rule.specs.declared.view.Hunt.TheVariants.{Rests, Heads}
use Rattle.heap_rule.specs.declared.view.DomainView.{DomainView}
use Rattle.heap_rule.specs.Copies.{ListsCopy, HasCopy, met_place, known}
use Rattle.heap_rule.specs.Limits.{sizes_in}
use Rattle.heap_rule.specs.Places.{Place, Live, IsOldAt, More}
use Rattle.heap_rule.specs.Pools.{prepared_at}
use Rattle.heap_rule.proofs.Lists.{got_end}
use Rattle.step_promote.specs.Promotion.{met_of, Knows}
use Rattle.step_promote.specs.Claims.{with_hunt, preparing, pushed, ClaimTold}
use Rattle.gc_copy.specs.Heads.{IsForward, forward_word}
use Rattle.gc_copy.specs.Working.{SameBlock, IsPair, Works, with_claims, IsMetWith, Claimed, Prepared, Written}
use Rattle.step_promote.proofs.Meets.{form_shape}
use Rattle.gc_copy.proofs.Meeting.{known_here, same_lasts, pair_more, old_small, forward_same}
use Rattle.gc_copy.proofs.Preparing.{place_old, set_none}

some_same : (p q : Place) → Some p ≡ Some q → p ≡ q
some_same p q e = cc

-- a place was prepared, and has the block's label and head
module _ (k : Config) (young word class copy : ℕ) (x p y : DomainView) (few : class < class_count) (m : IsMetWith x young word) (is_young : k.pools * 4096 < young)
    (ready : Prepared k class x p copy) (wrote : Written young word copy p y) where
  place_is : wrote.place ≡ m.place
  place_is = some_same wrote.place m.place (sym wrote.met ∙ (ap (λ (c : Copying). known c.met young) ready.copying ∙ m.met))

  known_same : Knows y ≡ Knows x
  known_same = ap (λ (z : DomainView). Knows z) wrote.view ∙ ap (λ (c : Copying). known c.met) ready.copying

  module _ (z : DomainView) (found : ℕ) (told : ClaimTold k young word class copy y found z) (w : Works k x) (limits : IsWithinLimits (sizes_in k)) where
    told_place : told.place ≡ m.place
    told_place = some_same told.place m.place (sym told.met ∙ (ap (λ (l : Live). l young) known_same ∙ m.met))

    more_now : More (Knows x) (Knows z)
    more_now = subst (λ (l : Live). More l (Knows z)) known_same told.more

    -- the block was met at its copy
    met_at : (c : ℕ) → (rest : Knows z c ≡ Some (met_place (met_of c told.place))) → SameBlock (Knows z) young c
    met_at c rest = same_lasts (Knows z) young c m.place (more_now young m.place m.met) record {
      place = met_place (met_of c told.place);
      lives = rest;
      label = ap (λ (q : Place). q.label) told_place;
      shape = form_shape told.place.shape ∙ ap (λ (q : Place). q.shape) told_place;
    }

    -- one copy more is known
    now_copied : (c : ℕ) → z.seen.copying.copied ≡ record { copy = c; source = young } ∷ x.seen.copying.copied → (a d : ℕ) → ListsCopy (record { copy = c; source = young } ∷ x.seen.copying.copied) a d → HasCopy z a d
    now_copied c e a d has = subst (λ (l : List Copied). ListsCopy l a d) (sym e) has

    pub claim_lost : (c : ℕ) → found ≢ word → IsForward c × (forward_word c ≡ found) → Claimed k young x z c
    claim_lost c miss leads =
        let l = told.lost miss in
        let same : l.copy ≡ c = forward_same l.copy c (sym l.word ∙ sym leads.1) in
        let e = l.view ∙ ap (λ (v : DomainView). record v { seen = record v.seen { hunt = Rests; copying = record v.seen.copying { met = met_of l.copy told.place ∷ v.seen.copying.met; copied = record { copy = l.copy; source = young } ∷ v.seen.copying.copied } } }) (wrote.view ∙ ap (λ (v : DomainView). with_hunt v (Heads copy (label_word wrote.place.label.domain wrote.place.label.serial) word)) ready.view) in
        let copying = ap (λ (v : DomainView). v.seen.copying) e in
        let pending : z.seen.copying.pending ≡ x.seen.copying.pending = ap (λ (c : Copying). c.pending) copying ∙ ap (λ (c : Copying). c.pending) ready.copying in
        let items : z.own.pending.items ≡ x.own.pending.items = ap (λ (v : DomainView). v.own.pending.items) e ∙ ap (λ b. b.items) ready.pending in
        let hunt : z.seen.hunt ≡ Rests = ap (λ (v : DomainView). v.seen.hunt) e in
        let found_copies : z.seen.copying.copied ≡ record { copy = l.copy; source = young } ∷ x.seen.copying.copied = ap (λ (c : Copying). c.copied) copying ∙ ap (λ (c : Copying). record { copy = l.copy; source = young } ∷ c.copied) ready.copying in
        subst (Claimed k young x z) same record {
          grown = record {
            view = e ∙ ap (with_claims x) (sym e);
            works = record {
              stage = ap (λ (v : DomainView). v.seen.stage) e ∙ w.stage;
              at_rest = hunt;
              fit = told.fit;
              placed = λ b a below is. ready.works.placed b a below (sym (ap (λ (v : DomainView). prepared_at v.own.prepared b) e) ∙ is);
              pairs = λ i b got. pair_more k x z b more_now (w.pairs i b (ap (λ (l : List Copied). slice_get l i) (sym items) ∙ got));
            };
            learns = record { more = more_now; copies = λ a d has. now_copied l.copy found_copies a d (inr has) };
            made = [];
            items = items ∙ sym (append-nil x.own.pending.items);
            owed = pending ∙ sym (append-nil x.seen.copying.pending);
          };
          old = l.old;
          copied = now_copied l.copy found_copies young l.copy (inl (refl, refl));
          same = met_at l.copy (ap (λ (v : DomainView). Knows v l.copy) l.view ∙ known_here (met_of l.copy told.place) y.seen.copying.met);
          made = inl items;
        }

    -- the lost claim's head forwards
    pub lost_known : found ≢ word → IsWordOf IsPackableHead head_word found
    lost_known miss = let l = told.lost miss in (Forward l.copy, (l.inside.0, old_small k l.copy limits l.old), sym l.word)

    -- the lost claim's copy is that to which the head forwards
    pub lost_leads : found ≢ word → Unpacks IsForward forward_word found None → ⊥
    lost_leads miss none = let l = told.lost miss in let e : ◌≡◌ {A = Option ℕ} None (Some l.copy) = none.only l.copy (l.inside.0, old_small k l.copy limits l.old) (sym l.word) in cc

    pub claim_won : found ≡ word → Claimed k young x z copy
    claim_won hit =
        let l = told.won hit in
        let owing : Copied = record { copy = copy; source = young } in
        let e = l.view ∙ ap (λ (v : DomainView). record { own = preparing (pushed v.own copy young) class None; seen = record v.seen { hunt = Rests; copying = record { met = met_of copy told.place ∷ v.seen.copying.met; pending = v.seen.copying.pending ++ record { copy = copy; source = young; filled = 0 } ∷ []; copied = record { copy = copy; source = young } ∷ v.seen.copying.copied } } })
        (wrote.view ∙ ap (λ (v : DomainView). with_hunt v (Heads copy (label_word wrote.place.label.domain wrote.place.label.serial) word)) ready.view) in
        let items : z.own.pending.items ≡ x.own.pending.items ++ owing ∷ [] = ap (λ (v : DomainView). v.own.pending.items) e ∙ ap (λ b. b.items ++ owing ∷ []) ready.pending in
        let pending : z.seen.copying.pending ≡ x.seen.copying.pending ++ record { copy = copy; source = young; filled = 0 } ∷ [] = ap (λ (v : DomainView). v.seen.copying.pending) e ∙ ap (λ (c : Copying). c.pending ++ record { copy = copy; source = young; filled = 0 } ∷ []) ready.copying in
        let made_copies : z.seen.copying.copied ≡ owing ∷ x.seen.copying.copied = ap (λ (v : DomainView). v.seen.copying.copied) e ∙ ap (λ (c : Copying). owing ∷ c.copied) ready.copying in
        let same : SameBlock (Knows z) young copy = met_at copy (ap (λ (v : DomainView). Knows v copy) l.view ∙ known_here (met_of copy told.place) y.seen.copying.met) in
        let is_old : IsOldAt k copy = (let h = (place_old k class copy few (ready.works.placed class copy few ready.here)).1 in let g : copy + 3 ≤ k.pools * 4096 = h in let f : copy ≤ k.pools * 4096 = omega arith in f) in record {
          grown = record {
            view = e ∙ ap (with_claims x) (sym e);
            works = record {
              stage = ap (λ (v : DomainView). v.seen.stage) e ∙ w.stage;
              at_rest = ap (λ (v : DomainView). v.seen.hunt) e;
              fit = told.fit;
              placed = λ b a below is. let was : prepared_at (set p.own.prepared class None) b ≡ Some a = sym (ap (λ (v : DomainView). prepared_at v.own.prepared b) e) ∙ is in dite (ℕ_discrete b class)
                  (λ here. absurd (let f : ◌≡◌ {A = Option ℕ} None (Some a) = sym (set_none p.own.prepared class) ∙ (ap (prepared_at (set p.own.prepared class None)) (sym here) ∙ was) in cc))
                  (λ other. ready.works.placed b a below (sym (get_or-set_other p.own.prepared class b None None other) ∙ was));
              pairs = λ i b got. ⊎_elim
                  (λ (t : slice_get x.own.pending.items i ≡ Some b). pair_more k x z b more_now (w.pairs i b t))
                  (λ (t : (i ≡ length x.own.pending.items) × (owing ≡ b)). subst (IsPair k z) t.1 record { young = is_young; old = is_old; same = same })
                  (got_end x.own.pending.items owing b i (ap (λ (l : List Copied). slice_get l i) (sym items) ∙ got));
            };
            learns = record { more = more_now; copies = λ a d has. now_copied copy made_copies a d (inr has) };
            made = owing ∷ [];
            items = items;
            owed = pending;
          };
          old = is_old;
          copied = now_copied copy made_copies young copy (inl (refl, refl));
          same = same;
          made = inr items;
        }
