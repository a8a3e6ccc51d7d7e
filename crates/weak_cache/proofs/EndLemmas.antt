-- How the calls on a cache begin and end.
use Rattle.std.proofs.Common.{◌≡◌, ◌≢◌, inl, ⊎_elim, true, ℕ, ◌<◌, ◌≤◌, List, [], ◌∷◌, ◌++◌, length, map, get_or, set, Option, Some, refl, ap, sym, ◌∙◌, subst, arith}
use Rattle.model_core.specs.declared.label.Label.{Label}
use Rattle.model_core.specs.declared.command.Command.TheVariants.{Copy, Forget}
use Rattle.model_core.specs.declared.entry.Entry.{Entry}
use Rattle.model_core.specs.declared.reply.Reply.{Reply}
use Rattle.model_core.specs.declared.graph.Value.{Value}
use Rattle.model_core.specs.declared.graph.Value.TheVariants.{Int, Block, Nothing}
use Rattle.model_core.specs.declared.graph.Node.TheVariants.{Plain, Ephe}
use Rattle.model_core.specs.declared.state.Sizes.{Sizes}
use Rattle.model_core.specs.Graph.{node_at}
use Rattle.model_core.specs.Domains.{IsWithinLimits}
use Rattle.model_core.specs.History.{IsPrefix}
use Rattle.weak_laws.specs.Tables.Structures.{Binding}
use Rattle.weak_laws.specs.Tables.Stages.{graph_of}
use Rattle.weak_laws.specs.Maps.Tries.{fields_of, is_leaf}
use Rattle.weak_laws.specs.Maps.Calls.{PerformedBy, registers_after}
use Rattle.weak_laws.proofs.OfMaps.CallLemmas.{copy_step, forget_step}
use Rattle.weak_laws.proofs.OfMaps.FrontLemmas.{prefix_same, prefix_trans}
use Rattle.weak_maps.specs.Beside.{held_by}
use Rattle.weak_maps.proofs.BesideLemmas.{set_here, set_other, sixteen}
use Rattle.weak_maps.proofs.CleanedLemmas.{less_or}
use Rattle.weak_maps.proofs.GetLemmas.{grows_by}
use Rattle.weak_cache.specs.Uses.{SlotLeft, SlotsLeft, put_first, taken}
use Rattle.weak_cache.specs.Caches.{Gone, IsBeside, IsCache, IsUse, OthersSpare, OwnSpare, fields_or_none, slot_in, slot_of, slots_after}
use Rattle.weak_cache.specs.Calls.{LeavesCache}
use Rattle.weak_cache.specs.Passes.{Begun, Cleared, Core, Keeping, KeepsBeside, NoneIsOf, StoodIn, UseLeft, cut_out, moved_by, was_of}
use Rattle.weak_cache.proofs.CoreLemmas.{core_quiet, leaf_quiet, spared_none, spared_quiet, spares_within, use_first}
use Rattle.weak_cache.proofs.ListLemmas.{all_left, cut_each, cut_left, cut_long, moved_by_long, moved_each, moved_left}
use Rattle.weak_cache.proofs.OnceLemmas.{once_left, once_put, once_taken}

-- a register below 8 is one that the calls don't use
pub low_beside : (r : ℕ) → r < 8 → IsBeside r
low_beside r low = ((λ e. absurd (omega (arith, low, e))), (λ e. absurd (omega (arith, low, e))), (λ e. absurd (omega (arith, low, e))), (λ e. absurd (omega (arith, low, e))), (λ e. absurd (omega (arith, low, e))))

-- what a field held is what a cache may hold
use_is : (z : Sizes) (c k : Label) (first now : List Entry) (v : Value) → UseLeft z c k first now v → IsUse (graph_of z now) v
use_is z c k first now (Int a) x = x
use_is z c k first now (Block l) x = x.1
use_is z c k first now Nothing x = x

use_left : (z : Sizes) (c k : Label) (first now : List Entry) (v : Value) → UseLeft z c k first now v → SlotLeft (Gone z k first now) (slot_of (graph_of z first) v) (slot_of (graph_of z now) v)
use_left z c k first now (Int a) x = inl refl
use_left z c k first now (Block l) x = x.2
use_left z c k first now Nothing x = absurd x

pub slots_are : (z : Sizes) (h : List Entry) (c : Label) (tag : ℕ) (fs : List Value) → node_at (graph_of z h) c ≡ Some (Plain tag fs) → slots_after z h c ≡ map (slot_of (graph_of z h)) fs
slots_are z h c tag fs node = ap (λ (o : Option (List Value)). map (slot_of (graph_of z h)) (fields_or_none o)) (ap fields_of node)

module _ (z : Sizes) (limits : IsWithinLimits z) (d : ℕ) (c k : Label) (first : List Entry) (size : ℕ) (cache_is : IsCache (graph_of z first) c size) where
  abbrev fs : List Value
  fs = cache_is.fields

  -- the cache as it was, but for keys that are gone
  pub left_alone : (new : List Entry) → OwnSpare z c d first new → Core z first new c k fs fs → LeavesCache z d k first new c size (slots_after z first c)
  left_alone new spared x = record {
    spared = spared;
    cache = record {
      some = cache_is.some;
      tag = x.tag;
      fields = fs;
      node = x.block;
      many = cache_is.many;
      uses = λ i small. use_is z c k first new (get_or fs i Nothing) (x.uses i (let many = cache_is.many in omega (arith, small, many)));
      once = once_left (Gone z k first new) (map (slot_of (graph_of z first)) fs) (map (slot_of (graph_of z new)) fs) slots cache_is.once;
    };
    left = subst (λ (w : List (Option Binding) × List (Option Binding)). SlotsLeft (Gone z k first new) w.0 w.1) (λ i. (sym (slots_are z first c cache_is.tag fs cache_is.node) i, sym (slots_are z new c x.tag fs x.block) i)) slots;
  }
    where
      slots : SlotsLeft (Gone z k first new) (map (slot_of (graph_of z first)) fs) (map (slot_of (graph_of z new)) fs)
      slots = all_left (Gone z k first new) (graph_of z first) (graph_of z new) fs (λ j small. use_left z c k first new (get_or fs j Nothing) (x.uses j small))

  -- and with a leaf first
  pub left_first : (new : List Entry) (l : Label) (v : Value) → OwnSpare z c d first new → Core z first new c k fs (moved_by (was_of z first k) (Block l) fs) → node_at (graph_of z new) l ≡ Some (Ephe (Some k ∷ []) v) → LeavesCache z d k first new c size (put_first k v (slots_after z first c))
  left_first new l v spared x node = record {
    spared = spared;
    cache = record {
      some = cache_is.some;
      tag = x.tag;
      fields = gs;
      node = x.block;
      many = long ∙ cache_is.many;
      uses = λ i small. moved_each (IsUse (graph_of z new)) (was_of z first k) (Block l) fs (subst is_leaf (sym node) tt) (λ j less. use_is z c k first new (get_or fs j Nothing) (x.uses j less)) i (let many = cache_is.many in omega (arith, small, many));
      once = once_left (Gone z k first new) (put_first k v (map (slot_of (graph_of z first)) fs)) (map (slot_of (graph_of z new)) gs) slots (once_put k v (map (slot_of (graph_of z first)) fs) cache_is.once);
    };
    left = subst (λ (w : List (Option Binding) × List (Option Binding)). SlotsLeft (Gone z k first new) (put_first k v w.0) w.1) (λ i. (sym (slots_are z first c cache_is.tag fs cache_is.node) i, sym (slots_are z new c x.tag gs x.block) i)) slots;
  }
    where
      gs : List Value
      gs = moved_by (was_of z first k) (Block l) fs

      long : length gs ≡ length fs
      long = moved_by_long (was_of z first k) (Block l) fs

      slots : SlotsLeft (Gone z k first new) (put_first k v (map (slot_of (graph_of z first)) fs)) (map (slot_of (graph_of z new)) gs)
      slots = moved_left (Gone z k first new) (graph_of z first) (graph_of z new) k (Block l) (Some (k, v)) fs (inl (ap slot_in node)) (λ j small. use_left z c k first new (get_or fs j Nothing) (x.uses j small))

  -- and with one taken out
  pub left_taken : (new : List Entry) (n : ℕ) → n < length fs → NoneIsOf z first k fs n → was_of z first k (get_or fs n Nothing) ≡ true → OwnSpare z c d first new → Core z first new c k fs (cut_out n fs) → LeavesCache z d k first new c size (taken k (slots_after z first c))
  left_taken new n inner none own spared x = record {
    spared = spared;
    cache = record {
      some = cache_is.some;
      tag = x.tag;
      fields = cut_out n fs;
      node = x.block;
      many = cut_long n fs ∙ cache_is.many;
      uses = λ i small. cut_each (IsUse (graph_of z new)) n fs refl (λ j less. use_is z c k first new (get_or fs j Nothing) (x.uses j less)) i (let many = cache_is.many in omega (arith, small, many));
      once = once_left (Gone z k first new) (taken k (map (slot_of (graph_of z first)) fs)) (map (slot_of (graph_of z new)) (cut_out n fs)) slots (once_taken k (map (slot_of (graph_of z first)) fs) cache_is.once);
    };
    left = subst (λ (w : List (Option Binding) × List (Option Binding)). SlotsLeft (Gone z k first new) (taken k w.0) w.1) (λ i. (sym (slots_are z first c cache_is.tag fs cache_is.node) i, sym (slots_are z new c x.tag (cut_out n fs) x.block) i)) slots;
  }
    where
      slots : SlotsLeft (Gone z k first new) (taken k (map (slot_of (graph_of z first)) fs)) (map (slot_of (graph_of z new)) (cut_out n fs))
      slots = cut_left (Gone z k first new) (graph_of z first) (graph_of z new) k n fs inner none own (λ j small. use_left z c k first new (get_or fs j Nothing) (x.uses j small))

  -- the key and the cache are copied
  module _ (cr kr : ℕ) (few_c : cr < 8) (few_k : kr < 8) (holds : held_by z d first cr ≡ Block c) (key : held_by z d first kr ≡ Block k) (new : List Entry) (b : Begun z d first new cr kr) (spares : OthersSpare z c d first new) where
    grown1 : IsPrefix b.one new
    grown1 = grows_by z d b.one new (Copy 13 cr) b.cache_reply b.caches

    keys_taken : (graph_of z b.one ≡ graph_of z (first ++ b.keys.between)) × (registers_after z d b.one ≡ set (registers_after z d first) 12 (held_by z d first kr))
    keys_taken = let all = copy_step z d first b.one b.key_reply 12 kr b.keys in (all.0, all.1)

    caches_taken : (graph_of z new ≡ graph_of z (b.one ++ b.caches.between)) × (registers_after z d new ≡ set (registers_after z d b.one) 13 (held_by z d b.one cr))
    caches_taken = let all = copy_step z d b.one new b.cache_reply 13 cr b.caches in (all.0, all.1)

    others1 : (j : ℕ) → j ≢ 12 → held_by z d b.one j ≡ held_by z d first j
    others1 = set_other z d first b.one 12 (held_by z d first kr) keys_taken.1

    others2 : (j : ℕ) → j ≢ 13 → held_by z d new j ≡ held_by z d b.one j
    others2 = set_other z d b.one new 13 (held_by z d b.one cr) caches_taken.1

    key1 : held_by z d b.one 12 ≡ Block k
    key1 = set_here z d first b.one 12 (held_by z d first kr) keys_taken.1 (sixteen z d first b.one (Copy 12 kr) b.key_reply b.keys limits) (omega arith) ∙ key

    core0 : Core z first first c k fs fs
    core0 = record { grows = prefix_same first; tag = cache_is.tag; block = cache_is.node; uses = λ j small. use_first z c k first fs cache_is.tag j cache_is.node small (cache_is.uses j (let many = cache_is.many in omega (arith, small, many))) }

    core1 : Core z first b.one c k fs fs
    core1 = core_quiet z c k d first first b.one (Copy 12 kr) b.key_reply b.keys (spares_within z c d first new first b.one (prefix_same first) grown1 spares) (prefix_same first) kr key keys_taken.0 fs fs core0

    pub begun : Keeping z d first new c k fs fs
    begun = record {
      core = core_quiet z c k d first b.one new (Copy 13 cr) b.cache_reply b.caches spares core1.grows 12 key1 caches_taken.0 fs fs core1;
      key = others2 12 (λ e. absurd (omega (arith, e))) ∙ key1;
      cache = set_here z d b.one new 13 (held_by z d b.one cr) caches_taken.1 (sixteen z d b.one new (Copy 13 cr) b.cache_reply b.caches limits) (omega arith) ∙ (others1 cr (λ e. absurd (omega (arith, few_c, e))) ∙ holds);
      spared = spared_quiet z c d first b.one new (Copy 13 cr) b.cache_reply b.caches caches_taken.0 (spared_quiet z c d first first b.one (Copy 12 kr) b.key_reply b.keys keys_taken.0 (spared_none z c d first));
    }

    pub begun_low : KeepsBeside z d first new
    begun_low j beside = others2 j beside.4 ∙ others1 j beside.3

  -- a register is emptied
  module _ (now new : List Entry) (r : Reply) (n : ℕ) (p : PerformedBy z d now new (Forget n) r) where
    forgotten : (graph_of z new ≡ graph_of z (now ++ p.between)) × (registers_after z d new ≡ set (registers_after z d now) n Nothing)
    forgotten = let all = forget_step z d now new r n p in (all.0, all.1)

    pub forgot_others : (j : ℕ) → j ≢ n → held_by z d new j ≡ held_by z d now j
    forgot_others = set_other z d now new n Nothing forgotten.1

    pub forgot_here : n < 16 → held_by z d new n ≡ Nothing
    forgot_here few = set_here z d now new n Nothing forgotten.1 (sixteen z d now new (Forget n) r p limits) few

    pub forgot_core : (gs : List Value) → OthersSpare z c d first new → held_by z d now 12 ≡ Block k → Core z first now c k fs gs → Core z first new c k fs gs
    forgot_core gs spares key x = core_quiet z c k d first now new (Forget n) r p spares x.grows 12 key forgotten.0 fs gs x

    pub forgot_spared : OwnSpare z c d first now → OwnSpare z c d first new
    forgot_spared = spared_quiet z c d first now new (Forget n) r p forgotten.0

    pub forgot_leaf : (l : Label) (v : Value) → IsPrefix first now → OthersSpare z c d first new → held_by z d now 12 ≡ Block k → StoodIn z c now l → node_at (graph_of z now) l ≡ Some (Ephe (Some k ∷ []) v) → StoodIn z c new l × (node_at (graph_of z new) l ≡ Some (Ephe (Some k ∷ []) v))
    forgot_leaf l v grows spares key stood node = leaf_quiet z c k d first now new (Forget n) r p spares grows 12 key forgotten.0 l v stood node

  -- all that the call used between
  module _ (now new : List Entry) (e : Cleared z d now new) (spares : OthersSpare z c d first new) (gs : List Value) (x : Keeping z d first now c k fs gs) where
    g5 : IsPrefix e.four new
    g5 = grows_by z d e.four new (Forget 12) e.twelve_reply e.twelve

    g4 : IsPrefix e.three new
    g4 = prefix_trans e.three e.four new (grows_by z d e.three e.four (Forget 13) e.thirteen_reply e.thirteen) g5

    g3 : IsPrefix e.two new
    g3 = prefix_trans e.two e.three new (grows_by z d e.two e.three (Forget 11) e.eleven_reply e.eleven) g4

    g2 : IsPrefix e.one new
    g2 = prefix_trans e.one e.two new (grows_by z d e.one e.two (Forget 10) e.ten_reply e.ten) g3

    upto : (h : List Entry) → IsPrefix h new → OthersSpare z c d first h
    upto h until = spares_within z c d first new first h (prefix_same first) until spares

    nine : (j : ℕ) → j ≢ 9 → held_by z d e.one j ≡ held_by z d now j
    nine = forgot_others now e.one e.nine_reply 9 e.nine

    ten : (j : ℕ) → j ≢ 10 → held_by z d e.two j ≡ held_by z d e.one j
    ten = forgot_others e.one e.two e.ten_reply 10 e.ten

    eleven : (j : ℕ) → j ≢ 11 → held_by z d e.three j ≡ held_by z d e.two j
    eleven = forgot_others e.two e.three e.eleven_reply 11 e.eleven

    thirteen : (j : ℕ) → j ≢ 13 → held_by z d e.four j ≡ held_by z d e.three j
    thirteen = forgot_others e.three e.four e.thirteen_reply 13 e.thirteen

    twelve : (j : ℕ) → j ≢ 12 → held_by z d new j ≡ held_by z d e.four j
    twelve = forgot_others e.four new e.twelve_reply 12 e.twelve

    key_nine : held_by z d e.one 12 ≡ Block k
    key_nine = nine 12 (λ s. absurd (omega (arith, s))) ∙ x.key

    key_ten : held_by z d e.two 12 ≡ Block k
    key_ten = ten 12 (λ s. absurd (omega (arith, s))) ∙ key_nine

    key_eleven : held_by z d e.three 12 ≡ Block k
    key_eleven = eleven 12 (λ s. absurd (omega (arith, s))) ∙ key_ten

    key_thirteen : held_by z d e.four 12 ≡ Block k
    key_thirteen = thirteen 12 (λ s. absurd (omega (arith, s))) ∙ key_eleven

    core_nine : Core z first e.one c k fs gs
    core_nine = forgot_core now e.one e.nine_reply 9 e.nine gs (upto e.one g2) x.key x.core

    core_ten : Core z first e.two c k fs gs
    core_ten = forgot_core e.one e.two e.ten_reply 10 e.ten gs (upto e.two g3) key_nine core_nine

    core_eleven : Core z first e.three c k fs gs
    core_eleven = forgot_core e.two e.three e.eleven_reply 11 e.eleven gs (upto e.three g4) key_ten core_ten

    core_thirteen : Core z first e.four c k fs gs
    core_thirteen = forgot_core e.three e.four e.thirteen_reply 13 e.thirteen gs (upto e.four g5) key_eleven core_eleven

    pub cleared_core : Core z first new c k fs gs
    cleared_core = forgot_core e.four new e.twelve_reply 12 e.twelve gs spares key_thirteen core_thirteen

    pub cleared_spared : OwnSpare z c d first new
    cleared_spared =
        let a = forgot_spared now e.one e.nine_reply 9 e.nine x.spared in
        let b = forgot_spared e.one e.two e.ten_reply 10 e.ten a in
        let f = forgot_spared e.two e.three e.eleven_reply 11 e.eleven b in
        let g = forgot_spared e.three e.four e.thirteen_reply 13 e.thirteen f in
        forgot_spared e.four new e.twelve_reply 12 e.twelve g

    pub cleared_leaf : (l : Label) (v : Value) → StoodIn z c now l → node_at (graph_of z now) l ≡ Some (Ephe (Some k ∷ []) v) → node_at (graph_of z new) l ≡ Some (Ephe (Some k ∷ []) v)
    cleared_leaf l v stood node =
        let a = forgot_leaf now e.one e.nine_reply 9 e.nine l v x.core.grows (upto e.one g2) x.key stood node in
        let b = forgot_leaf e.one e.two e.ten_reply 10 e.ten l v core_nine.grows (upto e.two g3) key_nine a.0 a.1 in
        let f = forgot_leaf e.two e.three e.eleven_reply 11 e.eleven l v core_ten.grows (upto e.three g4) key_ten b.0 b.1 in
        let g = forgot_leaf e.three e.four e.thirteen_reply 13 e.thirteen l v core_eleven.grows (upto e.four g5) key_eleven f.0 f.1 in
        (forgot_leaf e.four new e.twelve_reply 12 e.twelve l v core_thirteen.grows spares key_thirteen g.0 g.1).1

    pub cleared_low : KeepsBeside z d now new
    cleared_low j beside = twelve j beside.3 ∙ (thirteen j beside.4 ∙ (eleven j beside.2 ∙ (ten j beside.1 ∙ nine j beside.0)))

    pub cleared_clean : (i : ℕ) → 9 ≤ i → i ≤ 13 → held_by z d new i ≡ Nothing
    cleared_clean i high few = ⊎_elim (λ small. ⊎_elim (λ small2. ⊎_elim (λ small3. ⊎_elim
        (λ small4. at 9 (omega (arith, small4, high)) (twelve 9 (λ s. absurd (omega (arith, s))) ∙ (thirteen 9 (λ s. absurd (omega (arith, s))) ∙ (eleven 9 (λ s. absurd (omega (arith, s))) ∙ (ten 9 (λ s. absurd (omega (arith, s))) ∙ forgot_here now e.one e.nine_reply 9 e.nine (omega arith))))))
        (λ far. at 10 (omega (arith, small3, far)) (twelve 10 (λ s. absurd (omega (arith, s))) ∙ (thirteen 10 (λ s. absurd (omega (arith, s))) ∙ (eleven 10 (λ s. absurd (omega (arith, s))) ∙ forgot_here e.one e.two e.ten_reply 10 e.ten (omega arith)))))
        (less_or i 10))
        (λ far. at 11 (omega (arith, small2, far)) (twelve 11 (λ s. absurd (omega (arith, s))) ∙ (thirteen 11 (λ s. absurd (omega (arith, s))) ∙ forgot_here e.two e.three e.eleven_reply 11 e.eleven (omega arith))))
        (less_or i 11))
        (λ far. at 12 (omega (arith, small, far)) (forgot_here e.four new e.twelve_reply 12 e.twelve (omega arith)))
        (less_or i 12))
        (λ far. at 13 (omega (arith, few, far)) (twelve 13 (λ s. absurd (omega (arith, s))) ∙ forgot_here e.three e.four e.thirteen_reply 13 e.thirteen (omega arith)))
        (less_or i 13)
      where
        at : (n : ℕ) → n ≡ i → held_by z d new n ≡ Nothing → held_by z d new i ≡ Nothing
        at n same is = subst (λ (m : ℕ). held_by z d new m ≡ Nothing) same is
