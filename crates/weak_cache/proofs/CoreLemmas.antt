-- What a call on a cache finds again behind a command: the block, and what the leaves had.
use Rattle.std.proofs.Common.{◌≡◌, ◌≢◌, inl, inr, ⊎_elim, ℕ, ◌<◌, List, [], ◌∷◌, ◌++◌, length, get_or, Option, Some, None, refl, ap, sym, ◌∙◌, subst}
use Rattle.model_core.specs.declared.label.Label.{Label}
use Rattle.model_core.specs.declared.command.Command.{Command}
use Rattle.model_core.specs.declared.entry.Entry.{Entry}
use Rattle.model_core.specs.declared.entry.Entry.TheVariants.{Command as CommandOf}
use Rattle.model_core.specs.declared.reply.Reply.{Reply}
use Rattle.model_core.specs.declared.graph.Value.{Value}
use Rattle.model_core.specs.declared.graph.Value.TheVariants.{Int, Block, Nothing}
use Rattle.model_core.specs.declared.graph.Node.{Node}
use Rattle.model_core.specs.declared.graph.Node.TheVariants.{Plain, Ephe}
use Rattle.model_core.specs.declared.state.Sizes.{Sizes}
use Rattle.model_core.specs.Graph.{Graph, node_at}
use Rattle.model_core.specs.Fronts.{NoneOf}
use Rattle.model_core.specs.History.{IsPrefix}
use Rattle.weak_laws.specs.Tables.Structures.{Binding}
use Rattle.weak_laws.specs.Tables.Thinning.{IsOutside, Thin, state_of}
use Rattle.weak_laws.specs.Tables.Stages.{graph_of}
use Rattle.weak_laws.proofs.OfTables.ChangeLemmas.{thin_is, thin_more, thin_twice}
use Rattle.weak_laws.specs.Maps.Tries.{fields_of, is_leaf}
use Rattle.weak_laws.specs.Maps.Steps.{WasUnreached}
use Rattle.weak_laws.specs.Maps.Calls.{PerformedBy}
use Rattle.weak_laws.proofs.OfMaps.FieldLemmas.{at_field}
use Rattle.weak_laws.proofs.OfMaps.FrontLemmas.{other_between, prefix_more, prefix_same, prefix_trans, walk_along}
use Rattle.weak_laws.proofs.OfMaps.RespectLemmas.{graph_push, outside_wider}
use Rattle.weak_maps.specs.Beside.{held_by}
use Rattle.weak_maps.proofs.BesideLemmas.{since_old, until_new}
use Rattle.weak_maps.proofs.DescendLemmas.{leaf_node}
use Rattle.weak_maps.proofs.EntryLemmas.{own_entry}
use Rattle.weak_maps.proofs.FreshLemmas.{held_not_outside, thin_held}
use Rattle.weak_maps.proofs.GetLemmas.{grows_by}
use Rattle.weak_maps.proofs.StayLemmas.{no_entry}
use Rattle.weak_cache.specs.Uses.{SlotLeft}
use Rattle.weak_cache.specs.Caches.{Gone, IsUse, OthersSpare, OwnSpare, slot_in, slot_of}
use Rattle.weak_cache.specs.Passes.{Core, StoodIn, UseLeft}

pub spares_within : (z : Sizes) (c : Label) (d : ℕ) (old new later earlier : List Entry) → IsPrefix old later → IsPrefix earlier new → OthersSpare z c d old new → OthersSpare z c d later earlier
spares_within z c d old new later earlier after before spares front e since until other = spares front e (prefix_trans old later front after since) (prefix_trans (front ++ e ∷ []) earlier new until before) other

pub stood_more : (z : Sizes) (c l : Label) (now new : List Entry) → IsPrefix now new → StoodIn z c now l → StoodIn z c new l
stood_more z c l now new grows x = record { former = x.former; before = prefix_trans x.former now new x.before grows; place = x.place; there = x.there; leaf = x.leaf }

-- what a leaf has that is left
pub slot_thin : (P : Label → Type 0) (key : Option Label) (datum : Value) (o : Option Node) → Thin P (Ephe (key ∷ []) datum) o → is_leaf o × SlotLeft P (slot_in (Some (Ephe (key ∷ []) datum))) (slot_in o)
slot_thin P key datum o (inl same) = (subst is_leaf (sym same) tt, inl (ap slot_in same))
slot_thin P key datum o (inr (k, is, gone, left)) = (
  subst is_leaf (sym left) tt,
  inr (k, datum, ap (λ (y : Option Label). slot_in (Some (Ephe (y ∷ []) datum))) is, gone, ap slot_in left),
)

pub left_twice : (P Q R : Label → Type 0) → ((l : Label) → P l → R l) → ((l : Label) → Q l → R l) → (a b e : Option Binding) → SlotLeft P a b → SlotLeft Q b e → SlotLeft R a e
left_twice P Q R first last a b e (inl same) (inl again) = inl (again ∙ same)
left_twice P Q R first last a b e (inl same) (inr (k, v, was, gone, none)) = inr (k, v, sym same ∙ was, last k gone, none)
left_twice P Q R first last a b e (inr (k, v, was, gone, none)) (inl again) = inr (k, v, was, first k gone, again ∙ none)
left_twice P Q R first last a b e (inr (k, v, was, gone, none)) (inr (j, w, had, more, empty)) = let clash : None ≡ Some (j, w) = sym none ∙ had in cc

-- over entries of others
module _ (z : Sizes) (c : Label) (d : ℕ) (now between : List Entry) (none : NoneOf d between) (spares : OthersSpare z c d now (now ++ between)) where
  block_still : (tag : ℕ) (fields : List Value) → node_at (graph_of z now) c ≡ Some (Plain tag fields) → node_at (graph_of z (now ++ between)) c ≡ Some (Plain tag fields)
  block_still tag fields = walk_along (λ h. node_at (graph_of z h) c ≡ Some (Plain tag fields)) now (now ++ between) (prefix_more now between)
      (λ f e a b here. ap (λ (g : Graph). node_at g c) (graph_push z f e) ∙ (spares f e a b (other_between d now between f e none a b)).block tag fields here)

  leaf_thin : (l : Label) (n : Node) → StoodIn z c now l → node_at (graph_of z now) l ≡ Some n → Thin (WasUnreached z now (now ++ between)) n (node_at (graph_of z (now ++ between)) l)
  leaf_thin l n x node = go (now ++ between) (prefix_more now between) (prefix_same (now ++ between))
    where
      go : (h : List Entry) → IsPrefix now h → IsPrefix h (now ++ between) → Thin (WasUnreached z now h) n (node_at (graph_of z h) l)
      go h since until = walk_along (λ f. Thin (WasUnreached z now f) n (node_at (graph_of z f) l)) now h since
          (λ f e a b thin.
          thin_twice (WasUnreached z now (f ++ e ∷ [])) n (node_at (graph_of z f) l) (node_at (graph_of z (f ++ e ∷ [])) l)
          (thin_more (WasUnreached z now f) (WasUnreached z now (f ++ e ∷ [])) (λ k w. outside_wider z now now f (f ++ e ∷ []) k (prefix_same now) (prefix_more f (e ∷ [])) w) n (node_at (graph_of z f) l) thin)
          (λ m here. subst (λ (g : Graph). Thin (WasUnreached z now (f ++ e ∷ [])) m (node_at g l)) (sym (graph_push z f e))
          (thin_more (IsOutside (state_of z f)) (WasUnreached z now (f ++ e ∷ []))
          (λ k outside. record { front = f; since = a; until = prefix_more f (e ∷ []); outside = outside }) m _
          ((spares f e a (prefix_trans (f ++ e ∷ []) h (now ++ between) b until) (other_between d now between f e none a (prefix_trans (f ++ e ∷ []) h (now ++ between) b until))).leaves x.former x.place l m (prefix_trans x.former now f x.before a) x.there x.leaf here))))
          (thin_is (WasUnreached z now now) n (node_at (graph_of z now) l) node)

-- up to a command of the domain, and behind it
module _ (z : Sizes) (c k : Label) (d : ℕ) (first now new : List Entry) (cmd : Command) (r : Reply) (p : PerformedBy z d now new cmd r) (spares : OthersSpare z c d first new) (grows : IsPrefix first now) (i : ℕ) (key : held_by z d now i ≡ Block k) where
  abbrev mid : List Entry
  mid = now ++ p.between

  spares_mid : OthersSpare z c d now mid
  spares_mid = spares_within z c d first new now mid grows (until_new z d now new cmd r p) spares

  since : IsPrefix first mid
  since = prefix_trans first now mid grows (since_old z d now new cmd r p)

  stays : WasUnreached z now mid k → ⊥
  stays = held_not_outside z d now p.between k i p.others key

  -- the leaf of the key in hand has what it had
  pub leaf_mid : (l : Label) (v : Value) → StoodIn z c now l → node_at (graph_of z now) l ≡ Some (Ephe (Some k ∷ []) v) → node_at (graph_of z mid) l ≡ Some (Ephe (Some k ∷ []) v)
  leaf_mid l v stood node = thin_held (WasUnreached z now mid) k v (node_at (graph_of z mid) l) stays (leaf_thin z c d now p.between p.others spares_mid l (Ephe (Some k ∷ []) v) stood node)

  pub use_mid : (v : Value) → UseLeft z c k first now v → UseLeft z c k first mid v
  use_mid (Int a) x = x
  use_mid (Block l) x =
      let n = leaf_node (node_at (graph_of z now) l) x.1 in
      let thin = slot_thin (WasUnreached z now mid) n.0 n.1 (node_at (graph_of z mid) l) (leaf_thin z c d now p.between p.others spares_mid l (Ephe (n.0 ∷ []) n.1) x.0 n.2) in (
        stood_more z c l now mid (since_old z d now new cmd r p) x.0,
        thin.0,
        left_twice (Gone z k first now) (WasUnreached z now mid) (Gone z k first mid)
            (λ m gone. (outside_wider z first first now mid m (prefix_same first) (since_old z d now new cmd r p) gone.0, gone.1))
            (λ m gone. (outside_wider z first now mid mid m grows (prefix_same mid) gone, (λ same. stays (subst (WasUnreached z now mid) same gone))))
            (slot_of (graph_of z first) (Block l)) (slot_of (graph_of z now) (Block l)) (slot_of (graph_of z mid) (Block l)) x.2 (subst (λ (o : Option Node). SlotLeft (WasUnreached z now mid) (slot_in o) (slot_of (graph_of z mid) (Block l))) (sym n.2) thin.1),
      )
  use_mid Nothing x = x

  pub core_mid : (fs gs : List Value) → Core z first now c k fs gs → Core z first mid c k fs gs
  core_mid fs gs x = record { grows = since; tag = x.tag; block = block_still z c d now p.between p.others spares_mid x.tag gs x.block; uses = λ j small. use_mid (get_or fs j Nothing) (x.uses j small) }

  -- a command that leaves each leaf of the cache
  module _ (same : (l : Label) (o : Option Label) (v : Value) → StoodIn z c mid l → node_at (graph_of z mid) l ≡ Some (Ephe (o ∷ []) v) → node_at (graph_of z new) l ≡ Some (Ephe (o ∷ []) v)) where
    use_own : (v : Value) → UseLeft z c k first mid v → UseLeft z c k first new v
    use_own (Int a) x = x
    use_own (Block l) x =
        let n = leaf_node (node_at (graph_of z mid) l) x.1 in
        let is = same l n.0 n.1 x.0 n.2 in (
          stood_more z c l mid new (until_new z d now new cmd r p) x.0,
          subst is_leaf (sym is) tt,
          left_twice (Gone z k first mid) (Gone z k first mid) (Gone z k first new) (λ m gone. wider m gone) (λ m gone. wider m gone) (slot_of (graph_of z first) (Block l)) (slot_of (graph_of z mid) (Block l)) (slot_of (graph_of z new) (Block l)) x.2 (inl (ap slot_in (is ∙ sym n.2))),
        )
      where
        wider : (m : Label) → Gone z k first mid m → Gone z k first new m
        wider m gone = (outside_wider z first first mid new m (prefix_same first) (until_new z d now new cmd r p) gone.0, gone.1)
    use_own Nothing x = x

    pub core_own : (fs gs hs : List Value) (tag : ℕ) → Core z first mid c k fs gs → node_at (graph_of z new) c ≡ Some (Plain tag hs) → Core z first new c k fs hs
    core_own fs gs hs tag x block = record { grows = prefix_trans first mid new since (until_new z d now new cmd r p); tag = tag; block = block; uses = λ j small. use_own (get_or fs j Nothing) (x.uses j small) }

  -- one that leaves the graph
  module _ (quiet : graph_of z new ≡ graph_of z mid) where
    pub core_quiet : (fs gs : List Value) → Core z first now c k fs gs → Core z first new c k fs gs
    core_quiet fs gs x =
        let y = core_mid fs gs x in
        core_own (λ l o v stood node. ap (λ (g : Graph). node_at g l) quiet ∙ node) fs gs gs y.tag y (ap (λ (g : Graph). node_at g c) quiet ∙ y.block)

    pub leaf_quiet : (l : Label) (v : Value) → StoodIn z c now l → node_at (graph_of z now) l ≡ Some (Ephe (Some k ∷ []) v) → StoodIn z c new l × (node_at (graph_of z new) l ≡ Some (Ephe (Some k ∷ []) v))
    leaf_quiet l v stood node = (stood_more z c l now new (grows_by z d now new cmd r p) stood, ap (λ (g : Graph). node_at g l) quiet ∙ leaf_mid l v stood node)

-- a command that writes no block that was there but the cache's
module _ (z : Sizes) (c : Label) (d : ℕ) (first now new : List Entry) (cmd : Command) (r : Reply) (p : PerformedBy z d now new cmd r) where
  pub spared_on : ((l : Label) (n : Node) → node_at (graph_of z first) l ≡ Some n → l ≢ c → node_at (graph_of z new) l ≡ node_at (graph_of z (now ++ p.between)) l) → OwnSpare z c d first now → OwnSpare z c d first new
  spared_on same spared front e since until mine l n there other = ⊎_elim
      (λ early. spared front e since early mine l n there other)
      (λ is. subst (λ (w : List Entry × Entry). node_at (graph_of z (w.0 ++ w.1 ∷ [])) l ≡ node_at (graph_of z w.0) l) (λ i. (sym is.0 i, sym is.1 i)) (ap (λ (h : List Entry). node_at (graph_of z h) l) (sym p.appends) ∙ same l n there other))
      (own_entry d now p.between (CommandOf d cmd p.full) front e p.others (subst (IsPrefix (front ++ e ∷ [])) p.appends until) mine)

  pub spared_quiet : graph_of z new ≡ graph_of z (now ++ p.between) → OwnSpare z c d first now → OwnSpare z c d first new
  spared_quiet same = spared_on (λ l n there other. ap (λ (g : Graph). node_at g l) same)

pub spared_none : (z : Sizes) (c : Label) (d : ℕ) (h : List Entry) → OwnSpare z c d h h
spared_none z c d h front e since until mine l n there other = absurd (no_entry h front e since until)

-- what the fields of a cache hold when a call begins
pub use_first : (z : Sizes) (c k : Label) (h : List Entry) (fs : List Value) (tag i : ℕ) → node_at (graph_of z h) c ≡ Some (Plain tag fs) → i < length fs → IsUse (graph_of z h) (get_or fs i Nothing) → UseLeft z c k h h (get_or fs i Nothing)
use_first z c k h fs tag i node small use_it = go (get_or fs i Nothing) refl use_it
  where
    go : (v : Value) → get_or fs i Nothing ≡ v → IsUse (graph_of z h) v → UseLeft z c k h h v
    go (Int a) is x = x
    go (Block l) is x = (record { former = h; before = prefix_same h; place = i ∷ []; there = at_field (graph_of z h) [] (Block c) c fs i refl (ap fields_of node) ∙ ap Some is; leaf = x }, x, inl refl)
    go Nothing is x = x
