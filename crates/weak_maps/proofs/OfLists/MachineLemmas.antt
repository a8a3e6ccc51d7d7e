-- What a call of a map tells of its machine, told of the one domain of the heap.
use Rattle.std.proofs.Common.{◌≡◌, inl, inr, ℕ, ◌+◌, ◌<◌, ◌≤◌, Bool, true, false, cond, IsTrue, List, [], ◌∷◌, ◌++◌, refl, sym, ◌∙◌, subst, arith}
use Rattle.model_core.specs.declared.label.Label.{Label}
use Rattle.model_core.specs.declared.entry.Entry.{Entry}
use Rattle.model_core.specs.declared.entry.Entry.TheVariants as entry
use Rattle.model_core.specs.declared.graph.Value.{Value}
use Rattle.model_core.specs.declared.graph.Value.TheVariants.{Int, Block, Nothing}
use Rattle.model_core.specs.declared.reply.Reply.{Reply}
use Rattle.model_core.specs.declared.reply.Reply.TheVariants as reply
use Rattle.model_core.specs.declared.state.Sizes.{Sizes}
use Rattle.model_core.specs.Graph.{label_of}
use Rattle.model_core.specs.Domains.{IsWithinLimits, domain_at}
use Rattle.model_core.specs.Commands.{shown}
use Rattle.model_core.specs.History.{IsPrefix, Legal, is_entry_of}
use Rattle.weak_laws.specs.Tables.Performing.{full_of, refused, refusals, written, writings}
use Rattle.weak_laws.specs.Tables.Thinning.{is_collector, state_of}
use Rattle.weak_laws.specs.Tables.Stages.{graph_of, held_in}
use Rattle.weak_laws.specs.Maps.Tries.{IsMap, IsInPlace}
use Rattle.weak_laws.specs.Maps.Steps.{OthersLeave, OthersRespect}
use Rattle.weak_laws.specs.Maps.Calls.{CleanAnswers, PutsOrFull, TakeAnswers, value_of}
use Rattle.weak_laws.proofs.OfMaps.FrontLemmas.{prefix_same, walk_along}
use Rattle.weak_laws.proofs.OfMaps.RespectLemmas.{allowed_at, alone_leaves, alone_respects}
use Rattle.weak_maps.specs.Beside.{held_by, refusals_by, writings_by}
use Rattle.weak_maps.specs.Cleans.{CleanLeaves}
use Rattle.weak_maps.specs.Crowds.{PutCounts}
use Rattle.weak_maps.specs.Returns.{GetReturns, PutReturns, TakeReturns}
use Rattle.weak_maps.specs.Lists.Stretches.{Forgets, IsListed}
use Rattle.weak_maps.specs.Lists.Answers.{ListCleansAt, ListGetAnswers, ListGetsAt, ListPutAnswers, ListPutsAt, ListTakeAnswers, ListTakesAt}
use Rattle.weak_maps.specs.Lists.Counts.{CountsBlock, CountsField}
use Rattle.weak_maps.proofs.OfLists.AloneLemmas.{collects, legal_before}
use Rattle.weak_maps.proofs.OfLists.CallLemmas.{clean_list, get_list, of_clean, of_take, put_list, take_list}

-- the domain is the first
pub first_domain : (z : Sizes) (d : ℕ) → z.domains ≡ 1 → d < z.domains → d ≡ 0
first_domain z d one below = omega (arith, one, below)

-- what is told of the numbers of a later machine
pub forgets_at : (z z2 : Sizes) (d d2 : ℕ) (old new : List Entry) → z2 ≡ z → d2 ≡ d → Forgets z2 d2 old new → Forgets z d old new
forgets_at z z2 d d2 old new same_z same_d x = subst (λ (w : Sizes × ℕ). Forgets w.0 w.1 old new) (λ i. (same_z i, same_d i)) x

pub legal_at : (z z2 : Sizes) (h : List Entry) → z2 ≡ z → Legal z2 h → Legal z h
legal_at z z2 h same legal = subst (λ (w : Sizes). Legal w h) same legal

-- the domain's entries are all that may be refused, or write a register
module _ (z : Sizes) (one : z.domains ≡ 1) where
  collector_counts : (e : Entry) → IsTrue (is_collector e) → (refused e ≡ 0) × (written e ≡ 0)
  collector_counts (entry.Command d c full) mine = cc
  collector_counts (entry.End d) mine = cc
  collector_counts entry.Cut mine = (refl, refl)
  collector_counts (entry.Queue d places) mine = (refl, refl)
  collector_counts entry.Seal mine = (refl, refl)
  collector_counts (entry.Wipe l keys) mine = (refl, refl)
  collector_counts (entry.Last d place) mine = (refl, refl)
  collector_counts entry.Collected mine = (refl, refl)
  collector_counts entry.Done mine = (refl, refl)
  collector_counts (entry.Ran d) mine = cc

  refused_behind : (h k : List Entry) → (refusals_by 0 (h ++ k) ≡ refusals_by 0 h + refusals_by 0 k) × (refusals (h ++ k) ≡ refusals h + refusals k)
  refused_behind [] k = (omega arith, omega arith)
  refused_behind (e ∷ h) k = let rest = refused_behind h k in let a = rest.0 in let b = rest.1 in (omega (arith, a), omega (arith, b))

  written_behind : (h k : List Entry) → (writings_by 0 (h ++ k) ≡ writings_by 0 h + writings_by 0 k) × (writings (h ++ k) ≡ writings h + writings k)
  written_behind [] k = (omega arith, omega arith)
  written_behind (e ∷ h) k = let rest = written_behind h k in let a = rest.0 in let b = rest.1 in (omega (arith, a), omega (arith, b))

  one_counts : (f : List Entry) (e : Entry) → Legal z (f ++ e ∷ []) → (cond (is_entry_of 0 e) (refused e) 0 ≡ refused e) × (cond (is_entry_of 0 e) (written e) 0 ≡ written e)
  one_counts f e legal = go (is_entry_of 0 e) refl
    where
      go : (b : Bool) → is_entry_of 0 e ≡ b → (cond b (refused e) 0 ≡ refused e) × (cond b (written e) 0 ≡ written e)
      go true own = (refl, refl)
      go false other =
          let none = collector_counts e (collects z one f e (allowed_at z f (f ++ e ∷ []) e legal (prefix_same (f ++ e ∷ []))) other) in
          (sym none.0, sym none.1)

  pub all_counts : (h : List Entry) → Legal z h → (refusals_by 0 h ≡ refusals h) × (writings_by 0 h ≡ writings h)
  all_counts h legal = walk_along (λ f. (refusals_by 0 f ≡ refusals f) × (writings_by 0 f ≡ writings f)) [] h (record { rest = h; appends = refl })
      (λ f e since until was.
      let here = one_counts f e (legal_before z (f ++ e ∷ []) h until legal) in
      let r = refused_behind f (e ∷ []) in
      let w = written_behind f (e ∷ []) in
      let h0 = here.0 in let h1 = here.1 in let w0 = was.0 in let w1 = was.1 in let r0 = r.0 in let r1 = r.1 in let x0 = w.0 in let x1 = w.1 in
      (omega (arith, h0, w0, r0, r1), omega (arith, h1, w1, x0, x1)))
      (refl, refl)

  pub refusals_told : (d : ℕ) → d ≡ 0 → (old new : List Entry) → Legal z old → Legal z new → (n : ℕ) → refusals_by d new ≡ refusals_by d old + n → refusals new ≡ refusals old + n
  refusals_told d first old new legal_old legal_new n told =
      let a = (all_counts old legal_old).0 in
      let b = (all_counts new legal_new).0 in
      let c : refusals_by 0 new ≡ refusals_by 0 old + n = subst (λ (x : ℕ). refusals_by x new ≡ refusals_by x old + n) first told in
      omega (arith, a, b, c)

  pub writings_told : (d : ℕ) → d ≡ 0 → (old new : List Entry) → Legal z old → Legal z new → (n : ℕ) → writings_by d new ≡ writings_by d old + n → writings new ≡ writings old + n
  writings_told d first old new legal_old legal_new n told =
      let a = (all_counts old legal_old).1 in
      let b = (all_counts new legal_new).1 in
      let c : writings_by 0 new ≡ writings_by 0 old + n = subst (λ (x : ℕ). writings_by x new ≡ writings_by x old + n) first told in
      omega (arith, a, b, c)

  pub writings_below : (d : ℕ) → d ≡ 0 → (old new : List Entry) → Legal z old → Legal z new → (n : ℕ) → writings_by d new ≤ writings_by d old + n → writings new ≤ writings old + n
  writings_below d first old new legal_old legal_new n told =
      let a = (all_counts old legal_old).1 in
      let b = (all_counts new legal_new).1 in
      let c : writings_by 0 new ≤ writings_by 0 old + n = subst (λ (x : ℕ). writings_by x new ≤ writings_by x old + n) first told in
      omega (arith, a, b, c)

  pub refusals_same : (d : ℕ) → d ≡ 0 → (old new : List Entry) → Legal z old → Legal z new → refusals_by d new ≡ refusals_by d old → refusals new ≡ refusals old
  refusals_same d first old new legal_old legal_new told = let sum = refusals_told d first old new legal_old legal_new 0 (omega (arith, told)) in omega (arith, sum)

  pub writings_same : (d : ℕ) → d ≡ 0 → (old new : List Entry) → Legal z old → Legal z new → writings_by d new ≡ writings_by d old → writings new ≡ writings old
  writings_same d first old new legal_old legal_new told = let sum = writings_told d first old new legal_old legal_new 0 (omega (arith, told)) in omega (arith, sum)

-- what a put counts, in a heap of one domain
pub put_refused : (labels left was now : ℕ) (r : Reply) → PutCounts labels left was now r → (r ≡ reply.Full → now ≡ was + 1) → now ≡ was + full_of r
put_refused labels left was now reply.Done c full = omega (arith, c)
put_refused labels left was now reply.Full c full = full refl
put_refused labels left was now reply.BadType c full = omega (arith, c)
put_refused labels left was now (reply.Int v) c full = absurd c
put_refused labels left was now (reply.Block l) c full = absurd c
put_refused labels left was now reply.BadIndex c full = absurd c
put_refused labels left was now reply.Empty c full = absurd c
put_refused labels left was now reply.Yes c full = absurd c
put_refused labels left was now reply.No c full = absurd c
put_refused labels left was now (reply.Live blocks words) c full = absurd c
put_refused labels left was now (reply.Fin number l) c full = absurd c
put_refused labels left was now (reply.Last number) c full = absurd c

pub put_labels : (labels left was now : ℕ) (r : Reply) → PutCounts labels left was now r → labels ≤ left + 7
put_labels labels left was now reply.Done c = omega (arith, c)
put_labels labels left was now reply.Full (inl c) = omega (arith, c)
put_labels labels left was now reply.Full (inr c) = omega (arith, c)
put_labels labels left was now reply.BadType c = omega (arith, c)
put_labels labels left was now (reply.Int v) c = absurd c
put_labels labels left was now (reply.Block l) c = absurd c
put_labels labels left was now reply.BadIndex c = absurd c
put_labels labels left was now reply.Empty c = absurd c
put_labels labels left was now reply.Yes c = absurd c
put_labels labels left was now reply.No c = absurd c
put_labels labels left was now (reply.Live blocks words) c = absurd c
put_labels labels left was now (reply.Fin number l) c = absurd c
put_labels labels left was now (reply.Last number) c = absurd c

-- what the calls of a map tell
abbrev pub PutTold : Sizes → ℕ → List Entry → List Entry → ℕ → ℕ → ℕ → Reply → Type 0
PutTold z d old mid map key item r = (root : Label) → held_by z d old map ≡ Block root → IsMap (graph_of z old) root → IsInPlace z.domains (graph_of z old) root → OthersRespect z root d old mid
    → PutReturns z d old mid root (held_by z d old key) (held_by z d old item) r

abbrev pub GetTold : Sizes → ℕ → List Entry → List Entry → ℕ → ℕ → ℕ → Reply → Type 0
GetTold z d old mid dst map key r = (root : Label) → held_by z d old map ≡ Block root → IsMap (graph_of z old) root → OthersRespect z root d old mid → GetReturns z d old mid root dst (held_by z d old key) r

abbrev pub TakeTold : Sizes → ℕ → List Entry → List Entry → ℕ → ℕ → Reply → Type 0
TakeTold z d old mid map key r = (root : Label) → held_by z d old map ≡ Block root → IsMap (graph_of z old) root → OthersRespect z root d old mid → TakeReturns z d old mid root (held_by z d old key) r

abbrev pub Follows : Sizes → ℕ → List Entry → List Entry → ℕ → Type 0
Follows z d old mid map = (root : Label) → held_by z d old map ≡ Block root → IsMap (graph_of z old) root → IsInPlace z.domains (graph_of z old) root → OthersRespect z root d old mid
    → IsMap (graph_of z mid) root × IsInPlace z.domains (graph_of z mid) root

abbrev pub CleanTold : Sizes → ℕ → List Entry → List Entry → ℕ → Bool → Type 0
CleanTold z d old mid map empty = (root : Label) → held_by z d old map ≡ Block root → IsMap (graph_of z old) root → IsInPlace z.domains (graph_of z old) root → OthersLeave z root d old mid
    → CleanAnswers z root d old mid empty × CleanLeaves z d old mid root

-- a call that was answered `type` did nothing
module _ (z : Sizes) (one : z.domains ≡ 1) (old mid : List Entry) (legal : Legal z mid) (r : Reply) (bad : r ≡ reply.BadType) where
  not_put : (root k : Label) (v : Value) → PutsOrFull z root 0 old mid k v r → ⊥
  not_put root k v (inl done) = let clash : reply.Done ≡ reply.BadType = sym done.0 ∙ bad in cc
  not_put root k v (inr full) = let clash : reply.Full ≡ reply.BadType = sym full.0 ∙ bad in cc

  type_put : (map key item : ℕ) → PutTold z 0 old mid map key item r → ListPutsAt z old mid map key item r
  type_put map key item told root held listed = go (held_in z old key) (held_in z old item) (told root held listed.map listed.placed (alone_respects z root old mid one legal))
    where
      go : (kv iv : Value) → PutReturns z 0 old mid root kv iv r → ListPutAnswers z old mid root (label_of kv) iv r
      go (Block k) (Int i) ret = absurd (not_put root k (Int i) ret.0)
      go (Block k) (Block l) ret = absurd (not_put root k (Block l) ret.0)
      go (Block k) Nothing ret = ret
      go (Int i) iv ret = ret
      go Nothing iv ret = ret

  type_take : (map key : ℕ) → TakeTold z 0 old mid map key r → ListTakesAt z old mid map key r
  type_take map key told root held listed = go (held_in z old key) (told root held listed.map (alone_respects z root old mid one legal))
    where
      not_taken : (k : Label) → TakeAnswers z root 0 old mid (Block k) r → ⊥
      not_taken k (inl done) = let clash : reply.Done ≡ reply.BadType = sym done.0 ∙ bad in cc
      not_taken k (inr none) = let clash : reply.Empty ≡ reply.BadType = sym none.0 ∙ bad in cc

      go : (kv : Value) → TakeReturns z 0 old mid root kv r → ListTakeAnswers z old mid root (label_of kv) r
      go (Block k) ret = absurd (not_taken k ret.0)
      go (Int i) ret = ret
      go Nothing ret = ret

  type_get : (dst map key : ℕ) → GetTold z 0 old mid dst map key r → ListGetsAt z old mid dst map key r
  type_get dst map key told root held listed = go (held_in z old key) (told root held listed.map (alone_respects z root old mid one legal))
    where
      not_shown : (v : Value) → r ≡ shown v → ⊥
      not_shown (Int i) is = let clash : reply.Int i ≡ reply.BadType = sym is ∙ bad in cc
      not_shown (Block l) is = let clash : reply.Block l ≡ reply.BadType = sym is ∙ bad in cc
      not_shown Nothing is = let clash : reply.Empty ≡ reply.BadType = sym is ∙ bad in cc

      go : (kv : Value) → GetReturns z 0 old mid root dst kv r → ListGetAnswers z old mid root dst (label_of kv) r
      go (Block k) ret = absurd (not_shown (value_of ret.0.0) ret.0.2)
      go (Int i) ret = ret
      go Nothing ret = ret

-- and one that wasn't ends with a register that is emptied
module _ (z : Sizes) (limits : IsWithinLimits z) (one : z.domains ≡ 1) (old mid new : List Entry) (grows : IsPrefix old mid) (legal : Legal z mid) (f : Forgets z 0 mid new) where
  full_put : (map key item : ℕ) (r : Reply) → (r ≡ reply.BadType → ⊥) → PutTold z 0 old mid map key item r → ListPutsAt z old new map key item r
  full_put map key item r apart told root held listed = go (held_in z old key) (held_in z old item) (told root held listed.map listed.placed (alone_respects z root old mid one legal))
    where
      go : (kv iv : Value) → PutReturns z 0 old mid root kv iv r → ListPutAnswers z old new root (label_of kv) iv r
      go (Block k) (Int i) ret = put_list z limits one root old mid new grows listed f.reply f.performed k (Int i) r ret.0 (of_take z old mid root ret.1) ret.2
      go (Block k) (Block l) ret = put_list z limits one root old mid new grows listed f.reply f.performed k (Block l) r ret.0 (of_take z old mid root ret.1) ret.2
      go (Block k) Nothing ret = absurd (apart ret.0)
      go (Int i) iv ret = absurd (apart ret.0)
      go Nothing iv ret = absurd (apart ret.0)

  full_take : (map key : ℕ) (r : Reply) → (r ≡ reply.BadType → ⊥) → TakeTold z 0 old mid map key r → Follows z 0 old mid map → ListTakesAt z old new map key r
  full_take map key r apart told follows root held listed = go (held_in z old key) (told root held listed.map (alone_respects z root old mid one legal))
    where
      go : (kv : Value) → TakeReturns z 0 old mid root kv r → ListTakeAnswers z old new root (label_of kv) r
      go (Block k) ret = take_list z limits one root old mid new grows listed f.reply f.performed k r ret.0 (of_take z old mid root ret.1) (follows root held listed.map listed.placed (alone_respects z root old mid one legal)).1
      go (Int i) ret = absurd (apart ret.0)
      go Nothing ret = absurd (apart ret.0)

  full_get : (dst map key : ℕ) (r : Reply) → dst < 8 → (r ≡ reply.BadType → ⊥) → GetTold z 0 old mid dst map key r → ListGetsAt z old new dst map key r
  full_get dst map key r low apart told root held listed = go (held_in z old key) (told root held listed.map (alone_respects z root old mid one legal))
    where
      go : (kv : Value) → GetReturns z 0 old mid root dst kv r → ListGetAnswers z old new root dst (label_of kv) r
      go (Block k) ret = get_list z limits one root old mid new grows listed f.reply f.performed k dst r low ret.0.0 ret.0.1 ret.0.2 ret.1
      go (Int i) ret = absurd (apart ret.0)
      go Nothing ret = absurd (apart ret.0)

  full_clean : (map : ℕ) (empty : Bool) → CleanTold z 0 old mid map empty → ListCleansAt z old new map
  full_clean map empty told root held listed =
      let ret = told root held listed.map listed.placed (alone_leaves z root old mid one legal) in
      clean_list z limits one root old mid new grows listed f.reply f.performed (of_clean z limits one old mid root legal ret.1) ret.1.placed empty ret.0

-- of whichever domain it is told, it is the first
module _ (z : Sizes) (limits : IsWithinLimits z) (one : z.domains ≡ 1) (d : ℕ) (first : d ≡ 0) (old mid : List Entry) (grows : IsPrefix old mid) (legal : Legal z mid) where
  pub typed_put : (map key item : ℕ) (r : Reply) → r ≡ reply.BadType → PutTold z d old mid map key item r → ListPutsAt z old mid map key item r
  typed_put map key item r bad told = type_put z one old mid legal r bad map key item (subst (λ (x : ℕ). PutTold z x old mid map key item r) first told)

  pub typed_take : (map key : ℕ) (r : Reply) → r ≡ reply.BadType → TakeTold z d old mid map key r → ListTakesAt z old mid map key r
  typed_take map key r bad told = type_take z one old mid legal r bad map key (subst (λ (x : ℕ). TakeTold z x old mid map key r) first told)

  pub typed_get : (dst map key : ℕ) (r : Reply) → r ≡ reply.BadType → GetTold z d old mid dst map key r → ListGetsAt z old mid dst map key r
  typed_get dst map key r bad told = type_get z one old mid legal r bad dst map key (subst (λ (x : ℕ). GetTold z x old mid dst map key r) first told)

  module _ (new : List Entry) (f : Forgets z d mid new) where
    at_first : Forgets z 0 mid new
    at_first = subst (λ (x : ℕ). Forgets z x mid new) first f

    pub put_told : (map key item : ℕ) (r : Reply) → (r ≡ reply.BadType → ⊥) → PutTold z d old mid map key item r → ListPutsAt z old new map key item r
    put_told map key item r apart told = full_put z limits one old mid new grows legal at_first map key item r apart (subst (λ (x : ℕ). PutTold z x old mid map key item r) first told)

    pub take_told : (map key : ℕ) (r : Reply) → (r ≡ reply.BadType → ⊥) → TakeTold z d old mid map key r → Follows z d old mid map → ListTakesAt z old new map key r
    take_told map key r apart told follows = full_take z limits one old mid new grows legal at_first map key r apart (subst (λ (x : ℕ). TakeTold z x old mid map key r) first told) (subst (λ (x : ℕ). Follows z x old mid map) first follows)

    pub get_told : (dst map key : ℕ) (r : Reply) → dst < 8 → (r ≡ reply.BadType → ⊥) → GetTold z d old mid dst map key r → ListGetsAt z old new dst map key r
    get_told dst map key r low apart told = full_get z limits one old mid new grows legal at_first dst map key r low apart (subst (λ (x : ℕ). GetTold z x old mid dst map key r) first told)

    pub clean_told : (map : ℕ) (empty : Bool) → CleanTold z d old mid map empty → ListCleansAt z old new map
    clean_told map empty told = full_clean z limits one old mid new grows legal at_first map empty (subst (λ (x : ℕ). CleanTold z x old mid map empty) first told)

  -- a put is refused exactly where it is answered `full`
  pub put_counted : (root : Label) (map key item : ℕ) (labels left : ℕ) (r : Reply) → held_in z old map ≡ Block root → IsListed z old root → PutTold z d old mid map key item r
      → ((k : Label) → held_by z d old map ≡ Block root → held_by z d old key ≡ Block k → OthersRespect z root d old mid → OthersLeave z root d old mid → r ≡ reply.Full → refusals_by d mid ≡ refusals_by d old + 1)
      → PutCounts labels left (refusals_by d old) (refusals_by d mid) r → refusals_by d mid ≡ refusals_by d old + full_of r
  put_counted root map key item labels left r held listed told alone counts = put_refused labels left (refusals_by d old) (refusals_by d mid) r counts full
    where
      respects : OthersRespect z root d old mid
      respects = subst (λ (x : ℕ). OthersRespect z root x old mid) (sym first) (alone_respects z root old mid one legal)

      there : held_by z d old map ≡ Block root
      there = subst (λ (x : ℕ). held_by z x old map ≡ Block root) (sym first) held

      full : r ≡ reply.Full → refusals_by d mid ≡ refusals_by d old + 1
      full is = go (held_by z d old key) refl (told root there listed.map listed.placed respects)
        where
          bad : r ≡ reply.BadType → ⊥
          bad type = let clash : reply.Full ≡ reply.BadType = sym is ∙ type in cc

          go : (kv : Value) → held_by z d old key ≡ kv → PutReturns z d old mid root kv (held_by z d old item) r → refusals_by d mid ≡ refusals_by d old + 1
          go (Block k) e ret = alone k there e respects (subst (λ (x : ℕ). OthersLeave z root x old mid) (sym first) (alone_leaves z root old mid one legal)) is
          go (Int i) e ret = absurd (bad ret.0)
          go Nothing e ret = absurd (bad ret.0)

-- what is told of a count by a later machine
pub counts_field_at : (z z2 : Sizes) (old new : List Entry) (block left i count : ℕ) → z2 ≡ z → CountsField z2 old new block left i count → CountsField z old new block left i count
counts_field_at z z2 old new block left i count same x = subst (λ (w : Sizes). CountsField w old new block left i count) same x

pub counts_block_at : (z z2 : Sizes) (old new : List Entry) (block left n count : ℕ) → z2 ≡ z → CountsBlock z2 old new block left n count → CountsBlock z old new block left n count
counts_block_at z z2 old new block left n count same x = subst (λ (w : Sizes). CountsBlock w old new block left n count) same x

pub forgets_first : (z z2 : Sizes) (d : ℕ) (old new : List Entry) → z2 ≡ z → d ≡ 0 → Forgets z2 d old new → Forgets z 0 old new
forgets_first z z2 d old new same first x = forgets_at z z2 0 d old new same first x

pub serials_first : (z : Sizes) (d : ℕ) (h : List Entry) (left : ℕ) → d ≡ 0 → (domain_at (state_of z h) d).serial + left ≡ 4294967295 → (domain_at (state_of z h) 0).serial + left ≡ 4294967295
serials_first z d h left first told = subst (λ (x : ℕ). (domain_at (state_of z h) x).serial + left ≡ 4294967295) first told
