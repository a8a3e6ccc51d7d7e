-- What a call leaves of the places of a cache.
use Rattle.std.proofs.Common.{◌≡◌, ◌∙◌, inl, inr, ⊎_elim, ℕ, List, [], ◌∷◌, get_or, set, get_or-set_other, append-nil, Option, None, refl, ap, sym, subst, arith}
use Rattle.model_core.specs.declared.label.Label.{Label}
use Rattle.model_core.specs.declared.command.Command.{Command}
use Rattle.model_core.specs.declared.command.Command.TheVariants.{Alloc, Forget, FullMajor}
use Rattle.model_core.specs.declared.entry.Entry.{Entry}
use Rattle.model_core.specs.declared.graph.Value.{Value}
use Rattle.model_core.specs.declared.graph.Value.TheVariants.{Block, Nothing}
use Rattle.model_core.specs.declared.reply.Reply.{Reply}
use Rattle.model_core.specs.declared.state.Sizes.{Sizes}
use Rattle.model_core.specs.Domains.{IsWithinLimits}
use Rattle.model_core.specs.History.{IsPrefix}
use Rattle.heap_rule.specs.Limits.{sizes_in}
use Rattle.weak_laws.specs.Tables.Structures.{Binding}
use Rattle.weak_laws.specs.Tables.Stages.{graph_of, held_in}
use Rattle.weak_laws.specs.Tables.Performing.{After, Performed, registers_of}
use Rattle.weak_laws.proofs.OfTables.StepLemmas.{alloc_step, forget_step, full_major_step}
use Rattle.weak_laws.proofs.OfTables.StageLemmas.{register_is}
use Rattle.weak_cache.specs.Uses.{SlotLeft, SlotsLeft}
use Rattle.weak_cache.specs.Caches.{slots_after}
use Rattle.weak_cache.specs.Caches as weak
use Rattle.weak_cache.specs.Laws.{LosesOnly}
use Rattle.weak_cache.proofs.AfterLemmas.{commands_spare}
use Rattle.example_cache.specs.Caching.{CacheView, HasCache, IsCache, IsKept, KeepsAll, Leaves, SparesCache, WasGone, holds, places, places_in}

prefix_same : (h : List Entry) → IsPrefix h h
prefix_same h = record { rest = []; appends = sym (append-nil h) }

pub left_same : (P : Label → Type 0) (ss : List (Option Binding)) → SlotsLeft P ss ss
left_same P [] = tt
left_same P (s ∷ ss) = (inl refl, left_same P ss)

pub left_wider : (P Q : Label → Type 0) → ((l : Label) → P l → Q l) → (ss ts : List (Option Binding)) → SlotsLeft P ss ts → SlotsLeft Q ss ts
left_wider P Q wider [] [] left = tt
left_wider P Q wider [] (t ∷ ts) left = absurd left
left_wider P Q wider (s ∷ ss) [] left = absurd left
left_wider P Q wider (s ∷ ss) (t ∷ ts) (one, rest) = (by one, left_wider P Q wider ss ts rest)
  where
    by : SlotLeft P s t → SlotLeft Q s t
    by (inl same) = inl same
    by (inr (k, v, was, gone, none)) = inr (k, v, was, wider k gone, none)

-- what a command that spares the cache leaves in the registers
pub spared : (z : Sizes) → IsWithinLimits z → (old new : List Entry) (r : Reply) (c : Command) → SparesCache c → Performed z old new c r → (rs : List Value) × After z old new [] rs × ((i : ℕ) → IsKept c i → get_or rs i Nothing ≡ held_in z old i)
spared z limits old new r (Alloc dst tag fields) spares p = ⊎_elim
    (λ refused. (registers_of z old, refused.0, (λ i kept. refl)))
    (λ made. (set (registers_of z old) dst (Block made.0), made.1, (λ i kept. get_or-set_other (registers_of z old) dst i (Block made.0) Nothing kept)))
    (alloc_step z limits old new r dst tag fields p)
spared z limits old new r (Forget dst) spares p = (set (registers_of z old) dst Nothing, (forget_step z limits old new r dst p).0, (λ i kept. get_or-set_other (registers_of z old) dst i Nothing Nothing kept))
spared z limits old new r FullMajor spares p = (registers_of z old, (full_major_step z limits old new r p).0, (λ i kept. refl))
spared z limits old new r c spares p = absurd spares

-- and it leaves register 7
pub seven_kept : (c : Command) → SparesCache c → IsKept c 7
seven_kept (Alloc dst tag fields) spares = λ e. let below = spares.0 in absurd (omega (arith, e, below))
seven_kept (Forget dst) spares = λ e. absurd (omega (arith, e, spares))
seven_kept FullMajor spares = tt
seven_kept c spares = absurd spares

-- from one view of a cache to a later one
module _ (old new : CacheView) (sizes : sizes_in new.heap.config ≡ sizes_in old.heap.config) (most : new.most ≡ old.most) (has : IsCache old) where
  abbrev z : Sizes
  z = sizes_in old.heap.config

  pub here : places old ≡ slots_after z old.heap.front has.root
  here = ap (places_in z old.heap.front) has.held

  pub holds_on : (r : ℕ) → holds new r ≡ held_in z new.heap.front r
  holds_on r = ap (λ (w : Sizes). held_in w new.heap.front r) sizes

  module _ (grows : IsPrefix old.heap.front new.heap.front) (held : held_in z new.heap.front 7 ≡ Block has.root) where
    there : places new ≡ slots_after z new.heap.front has.root
    there = λ i. places_in (sizes i) new.heap.front ((holds_on 7 ∙ held) i)

    pub leaves : (key : Option Label) (left : List (Option Binding)) → SlotsLeft (WasGone old new key) left (slots_after z new.heap.front has.root) → Leaves old new key left
    leaves key left x = record { most = most; sizes = sizes; grows = grows; places = subst (λ (ps : List (Option Binding)). SlotsLeft (WasGone old new key) left ps) (sym there) x }

    pub is_on : weak.IsCache (graph_of z new.heap.front) has.root old.most → IsCache new
    is_on cache = subst (λ (w : Sizes × ℕ). HasCache w.0 new.heap.front w.1) (λ i. (sym sizes i, sym most i)) (record { root = has.root; held = held; cache = cache })

  -- nothing was done
  module _ (same : new.heap.front ≡ old.heap.front) where
    held_still : (r : ℕ) → held_in z new.heap.front r ≡ held_in z old.heap.front r
    held_still r = ap (λ (h : List Entry). held_in z h r) same

    grows_none : IsPrefix old.heap.front new.heap.front
    grows_none = subst (IsPrefix old.heap.front) (sym same) (prefix_same old.heap.front)

    pub keeps_same : (key : Option Label) → Leaves old new key (places old)
    keeps_same key = leaves grows_none (held_still 7 ∙ has.held) key (places old)
        (subst (λ (ps : List (Option Binding)). SlotsLeft (WasGone old new key) (places old) ps) (here ∙ ap (λ (h : List Entry). slots_after z h has.root) (sym same)) (left_same (WasGone old new key) (places old)))

    pub is_same : IsCache new
    is_same = is_on grows_none (held_still 7 ∙ has.held) (subst (λ (h : List Entry). weak.IsCache (graph_of z h) has.root old.most) (sym same) has.cache)

  -- a command that spares the cache
  module _ (limits : IsWithinLimits z) (c : Command) (r : Reply) (spares : SparesCache c) (p : Performed z old.heap.front new.heap.front c r) where
    step : (rs : List Value) × After z old.heap.front new.heap.front [] rs × ((i : ℕ) → IsKept c i → get_or rs i Nothing ≡ held_in z old.heap.front i)
    step = spared z limits old.heap.front new.heap.front r c spares p

    kept : (i : ℕ) → IsKept c i → held_in z new.heap.front i ≡ held_in z old.heap.front i
    kept i is = register_is z old.heap.front new.heap.front step.0 step.1 i (held_in z old.heap.front i) (step.2 i is)

    all : weak.IsCache (graph_of z new.heap.front) has.root old.most × LosesOnly z has.root old.heap.front new.heap.front
    all = commands_spare z old.heap.front new.heap.front [] step.0 has.root old.most step.1 (λ l mine. cc) has.cache

    pub spare_is : IsCache new
    spare_is = is_on step.1.grows (kept 7 (seven_kept c spares) ∙ has.held) all.0

    pub spare_keeps : KeepsAll old new
    spare_keeps = leaves step.1.grows (kept 7 (seven_kept c spares) ∙ has.held) None (places old)
        (subst (λ (ps : List (Option Binding)). SlotsLeft (WasGone old new None) ps (slots_after z new.heap.front has.root)) (sym here)
        (left_wider _ (WasGone old new None) (λ l gone. (gone, (λ e. cc))) (slots_after z old.heap.front has.root) (slots_after z new.heap.front has.root) all.1.1))

    pub spare_registers : (i : ℕ) → IsKept c i → holds new i ≡ holds old i
    spare_registers i is = holds_on i ∙ kept i is
