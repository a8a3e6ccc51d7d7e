-- One try of a put.
use Rattle.std.proofs.Common.{◌≡◌, ◌≢◌, inl, inr, ℕ, ◌+◌, ◌<◌, ◌^◌, ◌%◌, Bool, true, false, cond, List, [], ◌∷◌, Option, Some, None, refl, ap, ◌∙◌, subst, arith, min}
use Rattle.model_core.specs.declared.label.Label.{Label}
use Rattle.model_core.specs.declared.command.Command.TheVariants.{Cas, Load}
use Rattle.model_core.specs.declared.entry.Entry.{Entry}
use Rattle.model_core.specs.declared.reply.Reply.{Reply}
use Rattle.model_core.specs.declared.reply.Reply.TheVariants as reply
use Rattle.model_core.specs.declared.graph.Value.{Value}
use Rattle.model_core.specs.declared.graph.Value.TheVariants.{Int, Block, Nothing}
use Rattle.model_core.specs.declared.graph.Node.{Node}
use Rattle.model_core.specs.declared.graph.Node.TheVariants.{Plain, Raw, Ephe}
use Rattle.model_core.specs.declared.state.Sizes.{Sizes}
use Rattle.model_core.specs.Graph.{same_label, node_at}
use Rattle.model_core.specs.Domains.{IsWithinLimits, opening}
use Rattle.model_core.specs.History.{IsPrefix, Legal}
use Rattle.model_core.proofs.Graphs.GraphLemmas.{same_label-true}
use Rattle.weak_laws.specs.Tables.Stages.{graph_of}
use Rattle.weak_laws.proofs.OfTables.StepLemmas.{legal_parts}
use Rattle.weak_laws.specs.Maps.Tries.{bound_by, bound_in, node_width, number_of, IsLabelOf, IsMap, IsInPlace}
use Rattle.weak_laws.specs.Maps.Steps.{OthersRespect, OwnRespect}
use Rattle.weak_laws.specs.Maps.Calls.{PerformedBy, PutsOrFull}
use Rattle.weak_laws.proofs.OfMaps.FrontLemmas.{prefix_same}
use Rattle.weak_laws.proofs.OfMaps.RespectLemmas.{respect_both}
use Rattle.weak_laws.proofs.OfMaps.LabelLemmas.{held_below, key_below}
use Rattle.weak_maps.specs.Beside.{held_by}
use Rattle.weak_maps.specs.Fields.{AtField, Cleared}
use Rattle.weak_maps.specs.Guards.{Guards, RoomGuards, SettleGuards}
use Rattle.weak_maps.specs.Puts.{Arrived, FindsField, KeepsLeaf, MakesRoom, Publishes, PublishesBy, Putting, rest_of}
use Rattle.weak_maps.specs.declared.putting.Try.{Try}
use Rattle.weak_maps.specs.Settles.{SettledBy, Settles}
use Rattle.weak_maps.specs.Returns.{TakeLeaves}
use Rattle.weak_maps.proofs.BesideLemmas.{low_beside}
use Rattle.weak_maps.proofs.GetLemmas.{grows_by}
use Rattle.weak_maps.proofs.GuardLemmas.{guards_by, guards_later, guards_then}
use Rattle.weak_maps.proofs.PlaceLemmas.{place_after}
use Rattle.weak_maps.proofs.PutLemmas.{goes_twice}
use Rattle.weak_maps.proofs.RoomLemmas.{goes_all, stays_all}
use Rattle.weak_maps.proofs.StayLemmas.{respects_within, stays_twice}
use Rattle.weak_maps.proofs.TakeLemmas.{cleared_grows}
use Rattle.weak_maps.proofs.TryLemmas.{put_arrives, put_digit, put_done, put_ended, put_read}

-- a leaf that binds a key is one of it
pub bound_node : (o : Option Node) (j : Label) → bound_in j o ≢ None → (datum : Value) × (o ≡ Some (Ephe (Some j ∷ []) datum))
bound_node None j some = absurd (some refl)
bound_node (Some (Plain tag fields)) j some = absurd (some refl)
bound_node (Some (Raw tag fields)) j some = absurd (some refl)
bound_node (Some (Ephe [] datum)) j some = absurd (some refl)
bound_node (Some (Ephe (None ∷ []) datum)) j some = absurd (some refl)
bound_node (Some (Ephe (Some m ∷ []) datum)) j some = go (same_label m j) refl
  where
    go : (b : Bool) → same_label m j ≡ b → (found : Value) × (Some (Ephe (Some m ∷ []) datum) ≡ Some (Ephe (Some j ∷ []) found))
    go true e = (datum, ap (λ (x : Label). Some (Ephe (Some x ∷ []) datum)) (same_label-true m j e))
    go false e = absurd (some (ap (λ (b : Bool). cond b (Some datum) None) e))
bound_node (Some (Ephe (None ∷ other ∷ keys) datum)) j some = absurd (some refl)
bound_node (Some (Ephe (Some m ∷ other ∷ keys) datum)) j some = absurd (some refl)

module _ (z : Sizes) (limits : IsWithinLimits z) (root : Label) (d : ℕ) (old now : List Entry) (k : Label) (v : Value) (kr : ℕ) (few : kr < 8) (key : held_by z d old kr ≡ Block k) (legal : Legal z now) (i rest level : ℕ) where
  -- the labels are labels of the heap
  pub key_label : (other : Option Label) → Arrived z d old now root k v i rest level other → k.serial < 2 ^ 32 → IsLabelOf z.domains k
  key_label other t serial = (held_below z now limits.some_domain legal d kr k (t.keeps kr (low_beside kr few) ∙ key), serial)

  pub other_label : (j : Label) → Arrived z d old now root k v i rest level (Some j) → j.serial < 2 ^ 32 → IsLabelOf z.domains j
  other_label j t serial = (of t.found.field.v (t.found.alive j refl), serial)
    where
      legal_front : Legal z t.found.front
      legal_front = (legal_parts (opening z) t.found.front t.found.field.until.rest (subst (Legal z) t.found.field.until.appends legal)).0

      of : (w : Value) → bound_by (graph_of z t.found.front) j w ≢ None → j.domain < z.domains
      of (Int a) some = absurd (some refl)
      of Nothing some = absurd (some refl)
      of (Block m) some = let n = bound_node (node_at (graph_of z t.found.front) m) j some in key_below z t.found.front limits.some_domain legal_front m j n.0 n.1

  pub settle_done : (n1 new : List Entry) → Arrived z d old now root k v i rest level None → Publishes z d now n1 i true → IsPrefix now n1 → Cleared z d n1 new → OthersRespect z root d old new → PutsOrFull z root d old new k v reply.Done × TakeLeaves z d old new root
  settle_done n1 new t publishes grows c respects =
      let x = publishes t.first t.found.front root k t.l v rest kr t.found.shows (t.keeps kr (low_beside kr few) ∙ key) t.found.field t.found.binds t.leaf t.on.map (respects_within z root d old new now n1 t.on.grows (cleared_grows z d n1 new c) respects) in
      let y = put_done z limits root d old k v kr few key now n1 new t.l t.made t.on t.keeps x c respects in
      (inl (refl, y.0), y.1)

  pub settle_lost : (n1 new : List Entry) (r : Reply) → Arrived z d old now root k v i rest level None → Publishes z d now n1 i false → IsPrefix now n1 → PerformedBy z d n1 new (Load 9 8 i) r → OthersRespect z root d old new → Putting z d old new root k v i rest r level
  settle_lost n1 new r t publishes grows p respects =
      let g = grows_by z d n1 new (Load 9 8 i) r p in
      let others = respects_within z root d old new now n1 t.on.grows g respects in
      let x = publishes t.first t.found.front root k t.l v rest kr t.found.shows (t.keeps kr (low_beside kr few) ∙ key) t.found.field t.found.binds t.leaf t.on.map others in
      put_read z limits root d old k v kr few key t.found.front now n1 new t.first r i rest t.found.shows level t.found.field t.found.deep (goes_twice z root d old now n1 t.on x.on)
      (stays_twice z root t.found.front now n1 t.found.field.stays (stays_all z root now n1 grows (goes_all z root d now n1 others x.on) t.on.map)) (x.keeps 8) (λ j small. x.keeps j ∙ t.keeps j small) t.l t.made x.leaf p respects

  -- what an exchange does to the map
  published_respects : (n1 : List Entry) (front first : List Entry) (rest : ℕ) (s : Reply) (field : AtField z d first front now root k i rest s) (l : Label) (won : Bool) → PublishesBy z d first front now n1 root k i rest s field l v won → OwnRespect z root d now n1
  published_respects n1 front first rest s field l true x = x.changes.respects
  published_respects n1 front first rest s field l false x = x.on.looks.respects

  -- it respects the map, if others did up to it
  pub settle_publishes : (n1 : List Entry) (r : Reply) (won : Bool) → Arrived z d old now root k v i rest level None → Publishes z d now n1 i won → PerformedBy z d now n1 (Cas 8 i 9 10) r → Guards z root d old now n1
  settle_publishes n1 r won t publishes p =
      guards_by z root d old now n1 (Cas 8 i 9 10) r p
      (λ respects. published_respects n1 t.found.front t.first rest t.found.shows t.found.field t.l won
      (publishes t.first t.found.front root k t.l v rest kr t.found.shows (t.keeps kr (low_beside kr few) ∙ key) t.found.field t.found.binds t.leaf t.on.map (respects_within z root d old n1 now n1 t.on.grows (prefix_same n1) respects)))

  -- and so does the making of room
  pub settle_rooms : (n1 : List Entry) (j : Label) → Arrived z d old now root k v i rest level (Some j) → k.serial < 2 ^ 32 → j.serial < 2 ^ 32 → IsMap (graph_of z old) root → IsInPlace z.domains (graph_of z old) root → RoomGuards z d now n1 i (rest_of (number_of z.domains j) level % node_width) → Guards z root d old now n1
  settle_rooms n1 j t serial_k serial_j map placed rooms =
      guards_then z root d old now n1
      (λ before.
      let way = put_digit z limits root d old k v kr few key now i rest level (Some j) t map placed before j refl (key_label (Some j) t serial_k) (other_label j t serial_j) in
      guards_later z root d old now now n1 t.on.grows (rooms t.first t.found.front root k j t.l v rest kr t.found.shows few (t.keeps kr (low_beside kr few) ∙ key) t.found.field t.found.binds way t.leaf t.on.map))

  -- no room is made
  pub settle_full : (n1 new : List Entry) (j : Label) → Arrived z d old now root k v i rest level (Some j) → k.serial < 2 ^ 32 → j.serial < 2 ^ 32 → IsMap (graph_of z old) root → IsInPlace z.domains (graph_of z old) root → MakesRoom z d now n1 i (rest_of (number_of z.domains j) level % node_width) false
      → IsPrefix now n1 → Cleared z d n1 new → OthersRespect z root d old new → PutsOrFull z root d old new k v reply.Full × TakeLeaves z d old new root
  settle_full n1 new j t serial_k serial_j map placed makes grows c respects =
      let later = cleared_grows z d n1 new c in
      let others = respects_within z root d old new now n1 t.on.grows later respects in
      let before = respects_within z root d old n1 old now (prefix_same old) grows (respects_within z root d old new old n1 (prefix_same old) later respects) in
      let way = put_digit z limits root d old k v kr few key now i rest level (Some j) t map placed before j refl (key_label (Some j) t serial_k) (other_label j t serial_j) in
      let x = makes t.first t.found.front root k j t.l v rest kr t.found.shows few (t.keeps kr (low_beside kr few) ∙ key) t.found.field t.found.binds way t.leaf t.on.map others in
      let y = put_ended z limits root d old k v kr few key n1 new (goes_twice z root d old now n1 t.on x.on) (λ m small. x.keeps m ∙ t.keeps m small) c respects in
      (inr (refl, y.0), y.1)

  -- nor is more allowed
  pub settle_spent : (new : List Entry) (other : Option Label) → Arrived z d old now root k v i rest level other → Cleared z d now new → OthersRespect z root d old new → PutsOrFull z root d old new k v reply.Full × TakeLeaves z d old new root
  settle_spent new other t c respects = let y = put_ended z limits root d old k v kr few key now new t.on t.keeps c respects in (inr (refl, y.0), y.1)

  -- room is made
  pub settle_again : (n1 new : List Entry) (r : Reply) (j : Label) → Arrived z d old now root k v i rest level (Some j) → k.serial < 2 ^ 32 → j.serial < 2 ^ 32 → IsMap (graph_of z old) root → IsInPlace z.domains (graph_of z old) root → MakesRoom z d now n1 i (rest_of (number_of z.domains j) level % node_width) true
      → IsPrefix now n1 → PerformedBy z d n1 new (Load 9 8 i) r → OthersRespect z root d old new → Putting z d old new root k v i rest r level
  settle_again n1 new r j t serial_k serial_j map placed makes grows p respects =
      let g = grows_by z d n1 new (Load 9 8 i) r p in
      let others = respects_within z root d old new now n1 t.on.grows g respects in
      let before = respects_within z root d old n1 old now (prefix_same old) grows (respects_within z root d old new old n1 (prefix_same old) g respects) in
      let way = put_digit z limits root d old k v kr few key now i rest level (Some j) t map placed before j refl (key_label (Some j) t serial_k) (other_label j t serial_j) in
      let x = makes t.first t.found.front root k j t.l v rest kr t.found.shows few (t.keeps kr (low_beside kr few) ∙ key) t.found.field t.found.binds way t.leaf t.on.map others in
      put_read z limits root d old k v kr few key t.found.front now n1 new t.first r i rest t.found.shows level t.found.field t.found.deep (goes_twice z root d old now n1 t.on x.on) x.stays (x.keeps 8 (λ e. absurd (omega (arith, e))))
      (λ m beside. x.keeps m beside.3 ∙ t.keeps m beside) t.l t.made x.leaf p respects

-- a search from a field that was read
pub put_searched : (z : Sizes) (limits : IsWithinLimits z) (root : Label) (d : ℕ) (old : List Entry) (k : Label) (v : Value) (kr : ℕ) → kr < 8 → held_by z d old kr ≡ Block k → (now n0 : List Entry) (i rest i2 rest2 level steps sum : ℕ) (s : Reply) (other : Option Label) → sum ≡ min (level + steps) 255
    → (OthersRespect z root d old now → Putting z d old now root k v i rest s level) → FindsField z d now n0 kr k i rest s i2 rest2 steps other → KeepsLeaf z d now n0 kr k i rest s → IsPrefix now n0 → OthersRespect z root d old n0 → Arrived z d old n0 root k v i2 rest2 sum other
put_searched z limits root d old k v kr few key now n0 i rest i2 rest2 level steps sum s other is putting finds own grows respects =
    let e1 = respects_within z root d old n0 old now (prefix_same old) grows respects in
    let t = put_arrives z limits root d old k v kr few key now n0 i rest i2 rest2 level steps s other (putting e1) finds own grows respects in
    let deep = t.found.deep in
    let all = t.found.field.all in
    let exact : level + steps ≡ sum = omega (arith, is, deep, all) in
    subst (λ (n : ℕ). Arrived z d old n0 root k v i2 rest2 n other) exact t

-- and what the try there leads to
pub put_settles : (z : Sizes) (limits : IsWithinLimits z) (root : Label) (d : ℕ) (old : List Entry) (k : Label) (v : Value) (kr : ℕ) → kr < 8 → held_by z d old kr ≡ Block k → (now n0 new : List Entry) (i rest i2 rest2 level steps sum : ℕ) (s : Reply) (other : Option Label) (try : Try) → sum ≡ min (level + steps) 255
    → (OthersRespect z root d old now → Putting z d old now root k v i rest s level) → FindsField z d now n0 kr k i rest s i2 rest2 steps other → KeepsLeaf z d now n0 kr k i rest s → IsPrefix now n0 → Settles z d n0 new k i2 rest2 sum other try → IsPrefix n0 new
    → IsMap (graph_of z old) root → IsInPlace z.domains (graph_of z old) root → OthersRespect z root d old new → SettledBy z d old new root k v i2 rest2 sum try
put_settles z limits root d old k v kr few key now n0 new i rest i2 rest2 level steps sum s other try is putting finds own grows settles later map placed respects =
    settles old root v kr few key map placed
    (put_searched z limits root d old k v kr few key now n0 i rest i2 rest2 level steps sum s other is putting finds own grows (respects_within z root d old new old n0 (prefix_same old) later respects)) respects

-- which respects the map, if others did up to each of its entries
pub put_guards : (z : Sizes) (limits : IsWithinLimits z) (root : Label) (d : ℕ) (old : List Entry) (k : Label) (v : Value) (kr : ℕ) → kr < 8 → held_by z d old kr ≡ Block k → (now n0 new : List Entry) (i rest i2 rest2 level steps sum : ℕ) (s : Reply) (other : Option Label) → sum ≡ min (level + steps) 255
    → (OthersRespect z root d old now → Putting z d old now root k v i rest s level) → FindsField z d now n0 kr k i rest s i2 rest2 steps other → KeepsLeaf z d now n0 kr k i rest s → IsPrefix now n0 → SettleGuards z d n0 new k i2 rest2 sum other
    → IsMap (graph_of z old) root → IsInPlace z.domains (graph_of z old) root → Guards z root d old n0 new
put_guards z limits root d old k v kr few key now n0 new i rest i2 rest2 level steps sum s other is putting finds own grows guards map placed =
    guards_then z root d old n0 new (λ before. guards old root v kr few key map placed (put_searched z limits root d old k v kr few key now n0 i rest i2 rest2 level steps sum s other is putting finds own grows before))

-- whatever is answered, each leaf stands on its key's way still
pub put_placed : (z : Sizes) (root : Label) (d : ℕ) (old new : List Entry) (k : Label) (v : Value) (r : Reply) → IsPrefix old new → IsMap (graph_of z old) root → IsInPlace z.domains (graph_of z old) root → OthersRespect z root d old new → PutsOrFull z root d old new k v r
    → IsInPlace z.domains (graph_of z new) root
put_placed z root d old new k v r grows map placed respects (inl (is, (before, x))) = place_after z root old new grows (respect_both z root d old new respects x.respects) map placed
put_placed z root d old new k v r grows map placed respects (inr (is, x)) = place_after z root old new grows (respect_both z root d old new respects x.respects) map placed
