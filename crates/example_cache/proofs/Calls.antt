-- What each call of a cache answers and leaves.
use Rattle.std.proofs.Common.{◌≡◌, ◌≢◌, ◌∙◌, ◌⊎◌, ◌-◌, ◌≤◌, inl, inr, ⊎_elim, ℕ, ◌+◌, ◌<◌, true, false, List, replicate, Option, Some, None, refl, ap, sym, subst, arith}
use Rattle.model_core.specs.declared.label.Label.{Label}
use Rattle.model_core.specs.Counts.Counts.{labels_of}
use Rattle.model_core.specs.declared.command.Command.{Command}
use Rattle.model_core.specs.declared.command.Command.TheVariants.{Alloc, Forget, FullMajor}
use Rattle.model_core.specs.declared.entry.Entry.{Entry}
use Rattle.model_core.specs.declared.graph.Value.{Value}
use Rattle.model_core.specs.declared.graph.Value.TheVariants.{Int, Block, Nothing}
use Rattle.model_core.specs.declared.reply.Reply.{Reply}
use Rattle.model_core.specs.declared.reply.Reply.TheVariants as reply
use Rattle.model_core.specs.declared.state.Sizes.{Sizes}
use Rattle.model_core.specs.Commands.{shown}
use Rattle.model_core.specs.Domains.{IsWithinLimits}
use Rattle.model_core.specs.Graph.{label_of}
use Rattle.model_core.specs.History.{IsPrefix, Legal}
use Rattle.heap_rule.specs.Limits.{sizes_in}
use Rattle.run_turns.specs.Singly.Refusing.{Takes}
use Rattle.run_session.specs.Sessions.{SessionView}
use Rattle.weak_laws.specs.Tables.Structures.{Binding}
use Rattle.weak_laws.specs.Tables.Stages.{held_in}
use Rattle.weak_laws.specs.Tables.Performing.{Performed, full_of}
use Rattle.weak_maps.proofs.OfLists.PerformLemmas.{performs}
use Rattle.weak_laws.proofs.OfMaps.CallLemmas.{alloc_step, forget_step, made as new_label}
use Rattle.weak_maps.proofs.BesideLemmas.{set_here, sixteen}
use Rattle.weak_laws.specs.Maps.Calls.{value_of}
use Rattle.weak_cache.specs.Uses.{cached_in, put_first, taken, touched}
use Rattle.weak_cache.specs.Caches.{Gone, OthersSpare, slots_after}
use Rattle.weak_maps.specs.Beside.{refusals_by}
use Rattle.weak_cache.specs.Counts.{PutCounts}
use Rattle.weak_cache.specs.Calls.{GetReturns, LeavesCache, LeavesRegisters, MakeReturns, PutReturns, PutsOrFull, TakeReturns}
use Rattle.weak_cache.proofs.EndLemmas.{low_beside}
use Rattle.weak_cache.proofs.LawLemmas.{alone_spares}
use Rattle.example_cache.specs.declared.cache.Inserted.{Inserted}
use Rattle.example_cache.specs.Caching.{CacheView, GetAnswers, HasCache, InsertAnswers, IsCache, KeepsRegisters, KeyAnswers, Leaves, NoCache, RoomAnswers, SparesCache, TakeAnswers, WasGone, entry_of, holds, inserted_of, places_in}
use Rattle.example_cache.proofs.Entries.{here, holds_on, is_on, is_same, keeps_same, leaves, left_wider}

shown_same : (v w : Value) → shown v ≡ shown w → v ≡ w
shown_same (Int a) (Int b) e = cc
shown_same (Int a) (Block b) e = cc
shown_same (Int a) Nothing e = cc
shown_same (Block a) (Int b) e = cc
shown_same (Block a) (Block b) e = let same : a ≡ b = cc in ap Block same
shown_same (Block a) Nothing e = cc
shown_same Nothing (Int b) e = cc
shown_same Nothing (Block b) e = cc
shown_same Nothing Nothing e = refl

-- from one view of a cache to a later one, by what the call on the cache says
module _ (old new : CacheView) (sizes : sizes_in new.heap.config ≡ sizes_in old.heap.config) (most : new.most ≡ old.most) (has : IsCache old) (grows : IsPrefix old.heap.front new.heap.front) where
  abbrev z : Sizes
  z = sizes_in old.heap.config

  abbrev slots : List (Option Binding)
  slots = slots_after z old.heap.front has.root

  at_home : (but : ℕ) → 7 ≢ but → LeavesRegisters z 0 old.heap.front new.heap.front but → held_in z new.heap.front 7 ≡ Block has.root
  at_home but other low = low.1 7 (low_beside 7 (omega arith)) other ∙ has.held

  keep_registers : (but : ℕ) → LeavesRegisters z 0 old.heap.front new.heap.front but → KeepsRegisters old new but
  keep_registers but low r small other = holds_on old new sizes most has r ∙ low.1 r (low_beside r (omega (arith, small))) other

  keep_all : new.heap.front ≡ old.heap.front → (but : ℕ) → KeepsRegisters old new but
  keep_all same but r small other = holds_on old new sizes most has r ∙ ap (λ (h : List Entry). held_in z h r) same

  -- a call about a key
  module _ (k : Label) (but : ℕ) (other : 7 ≢ but) (low : LeavesRegisters z 0 old.heap.front new.heap.front but) (left : List (Option Binding)) (x : LeavesCache z 0 k old.heap.front new.heap.front has.root old.most left) where
    call_leaves : Leaves old new (Some k) left
    call_leaves = leaves old new sizes most has grows (at_home but other low) (Some k) left
        (left_wider (Gone z k old.heap.front new.heap.front) (WasGone old new (Some k)) (λ l gone. (gone.0, (λ e. gone.1 (let same : l ≡ k = cc in same)))) left (slots_after z new.heap.front has.root) x.left)

    call_is : IsCache new
    call_is = is_on old new sizes most has grows (at_home but other low) x.cache

  abbrev pub GetSays : ℕ → Value → Reply → Type 0
  GetSays dst v r = GetAnswers old new dst (label_of v) (entry_of r) × KeepsRegisters old new dst × IsCache new

  pub get_says : (dst : ℕ) → dst < 7 → (v : Value) (r : Reply) → GetReturns z 0 old.heap.front new.heap.front has.root old.most dst v r → GetSays dst v r
  get_says dst few (Block k) r x =
      let apart : 7 ≢ dst = λ e. absurd (omega (arith, few, e)) in (
        subst (λ (ps : List (Option Binding)). (entry_of r ≡ entry_of (shown (value_of (cached_in k ps)))) × (holds new dst ≡ value_of (cached_in k ps)) × Leaves old new (Some k) (touched k (cached_in k ps) ps)) (sym (here old new sizes most has)) (
          ap entry_of x.0,
          holds_on old new sizes most has dst ∙ shown_same _ (value_of (cached_in k slots)) (x.1 ∙ x.0),
          call_leaves k dst apart x.3 (touched k (cached_in k slots) slots) x.2,
        ),
        keep_registers dst x.3,
        call_is k dst apart x.3 (touched k (cached_in k slots) slots) x.2,
      )
  get_says dst few (Int i) r x = ((ap entry_of x.0, keeps_same old new sizes most has x.1 None), keep_all x.1 dst, is_same old new sizes most has x.1)
  get_says dst few Nothing r x = ((ap entry_of x.0, keeps_same old new sizes most has x.1 None), keep_all x.1 dst, is_same old new sizes most has x.1)

  abbrev pub TakeSays : ℕ → Value → Reply → Type 0
  TakeSays dst v r = TakeAnswers old new dst (label_of v) (entry_of r) × KeepsRegisters old new dst × IsCache new

  pub take_says : (dst : ℕ) → dst < 7 → (v : Value) (r : Reply) → TakeReturns z 0 old.heap.front new.heap.front has.root old.most dst v r → TakeSays dst v r
  take_says dst few (Block k) r x =
      let apart : 7 ≢ dst = λ e. absurd (omega (arith, few, e)) in (
        subst (λ (ps : List (Option Binding)). (entry_of r ≡ entry_of (shown (value_of (cached_in k ps)))) × (holds new dst ≡ value_of (cached_in k ps)) × Leaves old new (Some k) (taken k ps)) (sym (here old new sizes most has)) (
          ap entry_of x.0,
          holds_on old new sizes most has dst ∙ shown_same _ (value_of (cached_in k slots)) (x.1 ∙ x.0),
          call_leaves k dst apart x.3 (taken k slots) x.2,
        ),
        keep_registers dst x.3,
        call_is k dst apart x.3 (taken k slots) x.2,
      )
  take_says dst few (Int i) r x = ((ap entry_of x.0, keeps_same old new sizes most has x.1 None), keep_all x.1 dst, is_same old new sizes most has x.1)
  take_says dst few Nothing r x = ((ap entry_of x.0, keeps_same old new sizes most has x.1 None), keep_all x.1 dst, is_same old new sizes most has x.1)

  abbrev pub PutSays : Value → Value → Reply → Type 0
  PutSays key item r = InsertAnswers old new (label_of key) item (inserted_of r) × KeepsRegisters old new 7 × IsCache new

  put_stores : (k : Label) (item : Value) (r : Reply) → item ≢ Nothing → PutsOrFull z 0 old.heap.front new.heap.front has.root old.most k item r → PutSays (Block k) item r
  put_stores k item r some (low, stored) =
      let apart : 7 ≢ 9 = λ e. absurd (omega (arith, e)) in
      let registers : KeepsRegisters old new 7 = λ i small other. keep_registers 9 low i small (λ e. absurd (omega (arith, small, e))) in
      ⊎_elim
      (λ done. (
        subst (λ (a : Inserted). InsertAnswers old new (Some k) item a) (sym (ap inserted_of done.0))
            (k, refl, some, subst (λ (ps : List (Option Binding)). Leaves old new (Some k) (put_first k item ps)) (sym (here old new sizes most has)) (call_leaves k 9 apart low (put_first k item slots) done.1)),
        registers,
        call_is k 9 apart low (put_first k item slots) done.1,
      ))
      (λ full. (
        subst (λ (a : Inserted). InsertAnswers old new (Some k) item a) (sym (ap inserted_of full.0))
            (subst (λ (ps : List (Option Binding)). Leaves old new (Some k) ps) (sym (here old new sizes most has)) (call_leaves k 9 apart low slots full.1)),
        registers,
        call_is k 9 apart low slots full.1,
      ))
      stored

  put_none : (key item : Value) (r : Reply) → (label_of key ≡ None) ⊎ (item ≡ Nothing) → (r ≡ reply.BadType) × (new.heap.front ≡ old.heap.front) → PutSays key item r
  put_none key item r none x = (
    subst (λ (a : Inserted). InsertAnswers old new (label_of key) item a) (sym (ap inserted_of x.0)) (none, keeps_same old new sizes most has x.1 (label_of key)),
    keep_all x.1 7,
    is_same old new sizes most has x.1,
  )

  pub put_says : (key item : Value) (r : Reply) → PutReturns z 0 old.heap.front new.heap.front has.root old.most key item r → PutSays key item r
  put_says (Block k) (Int i) r x = put_stores k (Int i) r (λ e. cc) x
  put_says (Block k) (Block l) r x = put_stores k (Block l) r (λ e. cc) x
  put_says (Block k) Nothing r x = put_none (Block k) Nothing r (inr refl) x
  put_says (Int a) item r x = put_none (Int a) item r (inl refl) x
  put_says Nothing item r x = put_none Nothing item r (inl refl) x

-- nobody else uses a cache on a session
pub alone : (old new : CacheView) (root : Label) (first last : SessionView) → sizes_in new.heap.config ≡ sizes_in old.heap.config → first ≡ old.heap → last ≡ new.heap → first.config.domains ≡ 1 → Legal (sizes_in last.config) last.front
    → OthersSpare (sizes_in old.heap.config) root 0 old.heap.front new.heap.front
alone old new root first last sizes is_first is_last one legal = alone_spares (sizes_in old.heap.config) root old.heap.front new.heap.front (subst (λ (s : SessionView). s.config.domains ≡ 1) is_first one)
    (subst (λ (w : Sizes). Legal w new.heap.front) sizes (subst (λ (s : SessionView). Legal (sizes_in s.config) s.front) is_last legal))

-- what a session and the most entries make of a cache
abbrev pub cache_at : SessionView → ℕ → CacheView
cache_at heap most = record { heap = heap; most = most }

-- what a call says then
pub get_alone : (heap after : SessionView) (most : ℕ) (first last : SessionView) (has : IsCache (cache_at heap most)) (sizes : sizes_in after.config ≡ sizes_in heap.config) (grows : IsPrefix heap.front after.front)
    → first ≡ heap → last ≡ after → first.config.domains ≡ 1 → Legal (sizes_in last.config) last.front → (dst : ℕ) → dst < 7 → (v : Value) (r : Reply)
    → (OthersSpare (sizes_in heap.config) has.root 0 heap.front after.front → GetReturns (sizes_in heap.config) 0 heap.front after.front has.root most dst v r) → GetSays (cache_at heap most) (cache_at after most) sizes refl has grows dst v r
get_alone heap after most first last has sizes grows is_first is_last one legal dst few v r answer =
    get_says (cache_at heap most) (cache_at after most) sizes refl has grows dst few v r (answer (alone (cache_at heap most) (cache_at after most) has.root first last sizes is_first is_last one legal))

pub take_alone : (heap after : SessionView) (most : ℕ) (first last : SessionView) (has : IsCache (cache_at heap most)) (sizes : sizes_in after.config ≡ sizes_in heap.config) (grows : IsPrefix heap.front after.front)
    → first ≡ heap → last ≡ after → first.config.domains ≡ 1 → Legal (sizes_in last.config) last.front → (dst : ℕ) → dst < 7 → (v : Value) (r : Reply)
    → (OthersSpare (sizes_in heap.config) has.root 0 heap.front after.front → TakeReturns (sizes_in heap.config) 0 heap.front after.front has.root most dst v r) → TakeSays (cache_at heap most) (cache_at after most) sizes refl has grows dst v r
take_alone heap after most first last has sizes grows is_first is_last one legal dst few v r answer =
    take_says (cache_at heap most) (cache_at after most) sizes refl has grows dst few v r (answer (alone (cache_at heap most) (cache_at after most) has.root first last sizes is_first is_last one legal))

pub put_alone : (heap after : SessionView) (most : ℕ) (first last : SessionView) (has : IsCache (cache_at heap most)) (sizes : sizes_in after.config ≡ sizes_in heap.config) (grows : IsPrefix heap.front after.front)
    → first ≡ heap → last ≡ after → first.config.domains ≡ 1 → Legal (sizes_in last.config) last.front → (key item : Value) (r : Reply)
    → (OthersSpare (sizes_in heap.config) has.root 0 heap.front after.front → PutReturns (sizes_in heap.config) 0 heap.front after.front has.root most key item r) → PutSays (cache_at heap most) (cache_at after most) sizes refl has grows key item r
put_alone heap after most first last has sizes grows is_first is_last one legal key item r answer =
    put_says (cache_at heap most) (cache_at after most) sizes refl has grows key item r (answer (alone (cache_at heap most) (cache_at after most) has.root first last sizes is_first is_last one legal))

-- a new cache
pub made : (z y : Sizes) (old new : List Entry) (size : ℕ) (r : Reply) (l : Label) → y ≡ z → r ≡ reply.Block l → MakeReturns z 0 old new 7 size r → HasCache y new size × (places_in y new (held_in y new 7) ≡ replicate size None)
made z y old new size r l same is x = ⊎_elim
    (λ m. subst (λ (w : Sizes). HasCache w new size × (places_in w new (held_in w new 7) ≡ replicate size None)) (sym same) (
      record { root = m.0; held = m.2.holds; cache = m.2.cache },
      ap (places_in z new) m.2.holds ∙ m.2.empty,
    ))
    (λ full. absurd (let clash : reply.Block l ≡ reply.Full = sym is ∙ full.0 in cc))
    x

-- or none is
pub none_made : (z : Sizes) (old new : SessionView) (size : ℕ) (r : Reply) → new.config ≡ old.config → ((l : Label) → r ≡ reply.Block l → ⊥) → MakeReturns z 0 old.front new.front 7 size r → refusals_by 0 new.front ≡ refusals_by 0 old.front + full_of r → NoCache old new
none_made z old new size r config none x refused = ⊎_elim
    (λ m. absurd (none m.0 m.1))
    (λ full. (config, inr (refused ∙ ap (λ (a : Reply). refusals_by 0 old.front + full_of a) full.0)))
    x

-- a register that a command writes
module _ (old new : CacheView) (limits : IsWithinLimits (sizes_in old.heap.config)) (sizes : sizes_in new.heap.config ≡ sizes_in old.heap.config) (r : ℕ) (few : r < 7) (a : Reply) where
  abbrev o : Sizes
  o = sizes_in old.heap.config

  pub forgotten : Performed o old.heap.front new.heap.front (Forget r) a → holds new r ≡ Nothing
  forgotten p =
      let q = performs o old.heap.front new.heap.front (Forget r) a p in
      subst (λ (w : Sizes). held_in w new.heap.front r ≡ Nothing) (sym sizes)
      (set_here o 0 old.heap.front new.heap.front r Nothing (forget_step o 0 old.heap.front new.heap.front a r q).1 (sixteen o 0 old.heap.front new.heap.front (Forget r) a q limits) (omega (arith, few)))

  abbrev Made : Reply → Type 0
  Made b = Performed o old.heap.front new.heap.front (Alloc r 0 1) b

  pub key_made : (l : Label) → a ≡ reply.Block l → Made a → KeyAnswers old new r true
  key_made l is p =
      let q = performs o old.heap.front new.heap.front (Alloc r 0 1) a p in
      ⊎_elim
      (λ refused. absurd (let clash : reply.Block l ≡ reply.Full = sym is ∙ refused.1.2 in cc))
      (λ granted.
      let k : Label = new_label o 0 old.heap.front new.heap.front (Alloc r 0 1) a q in (
        k,
        subst Made granted.2.2 p,
        subst (λ (w : Sizes). held_in w new.heap.front r ≡ Block k) (sym sizes)
            (set_here o 0 old.heap.front new.heap.front r (Block k) granted.2.1 (sixteen o 0 old.heap.front new.heap.front (Alloc r 0 1) a q limits) (omega (arith, few))),
      ))
      (alloc_step o 0 old.heap.front new.heap.front a r 0 1 q)

  pub key_refused : ((l : Label) → a ≡ reply.Block l → ⊥) → Made a → KeyAnswers old new r false
  key_refused none p =
      let q = performs o old.heap.front new.heap.front (Alloc r 0 1) a p in
      ⊎_elim
      (λ refused. inr (subst Made refused.1.2 p))
      (λ granted. absurd (none (new_label o 0 old.heap.front new.heap.front (Alloc r 0 1) a q) granted.2.2))
      (alloc_step o 0 old.heap.front new.heap.front a r 0 1 q)

-- what a put counts
pub room_says : (old new : CacheView) (r : Reply) (labels left : ℕ) → old.heap.labels < 4294967295 → 0 < old.heap.room → PutCounts labels left (refusals_by 0 old.heap.front) (refusals_by 0 new.heap.front) r → RoomAnswers old new (inserted_of r)
room_says old new reply.Done labels left some fits x = (some, fits, x.0)
room_says old new reply.Full labels left some fits x = inr (inr x.0)
room_says old new reply.BadType labels left some fits x = (some, fits, x.0)
room_says old new r labels left some fits x = absurd x

-- a command that spares the cache may be made where its label is left
pub may_spare : (s : SessionView) (c : Command) → SparesCache c → labels_of c ≤ 4294967295 - s.labels → Takes s.room s.finals (4294967295 - s.labels) c
may_spare s (Alloc dst tag fields) spares few = record { fits = (let below = spares.0 in omega (arith, below), spares.1, spares.2, spares.3); enlists = omega arith; room = omega arith; labels = few }
may_spare s (Forget dst) spares few = record { fits = omega (arith, spares); enlists = omega arith; room = omega arith; labels = few }
may_spare s FullMajor spares few = record { fits = tt; enlists = omega arith; room = omega arith; labels = few }
may_spare s c spares few = absurd spares
