-- Where no other domain uses the map, a put comes one block deeper with each room that it makes.
use Rattle.std.proofs.Common.{◌≡◌, ⊎_elim, ℕ, ◌+◌, ◌<◌, ◌≤◌, ◌^◌, ◌%◌, true, false, List, [], ◌∷◌, ◌++◌, length, Option, Some, None, refl, ap, sym, ◌∙◌, min, arith, append_assoc, length-append}
use Rattle.model_core.specs.declared.label.Label.{Label}
use Rattle.model_core.specs.declared.command.Command.TheVariants.{Load}
use Rattle.model_core.specs.declared.entry.Entry.{Entry}
use Rattle.model_core.specs.declared.reply.Reply.{Reply}
use Rattle.model_core.specs.declared.graph.Value.{Value}
use Rattle.model_core.specs.declared.graph.Value.TheVariants.{Block}
use Rattle.model_core.specs.declared.state.Sizes.{Sizes}
use Rattle.model_core.specs.Domains.{IsWithinLimits}
use Rattle.model_core.specs.History.{IsPrefix, Legal}
use Rattle.weak_laws.specs.Tables.Stages.{graph_of}
use Rattle.weak_laws.specs.Maps.Tries.{at, inside, low_digits, node_width, number_of, way_to, IsMap, IsInPlace}
use Rattle.weak_laws.specs.Maps.Steps.{OthersLeave, OthersRespect}
use Rattle.weak_laws.specs.Maps.Calls.{PerformedBy}
use Rattle.weak_laws.proofs.OfMaps.FrontLemmas.{prefix_same, prefix_trans}
use Rattle.weak_laws.proofs.OfMaps.RespectLemmas.{respect_within}
use Rattle.weak_maps.specs.Beside.{held_by}
use Rattle.weak_maps.specs.Fields.{MapStays}
use Rattle.weak_maps.specs.Puts.{Arrived, FindsField, GoesOn, KeepsLeaf, MakesRoom, Publishes, Putting, rest_of}
use Rattle.weak_maps.specs.declared.putting.Try.{Try}
use Rattle.weak_maps.specs.Settles.{AloneBy, IsDeep, SettlesAlone}
use Rattle.weak_maps.proofs.BesideLemmas.{low_beside}
use Rattle.weak_maps.proofs.CleanLemmas.{leaves_within}
use Rattle.weak_maps.proofs.CleanedLemmas.{less_or, nothing_there}
use Rattle.weak_maps.proofs.GetLemmas.{grows_by}
use Rattle.weak_maps.proofs.PublishLemmas.{binds_end}
use Rattle.weak_maps.proofs.RoomLemmas.{goes_all, stays_all, two_left}
use Rattle.weak_maps.proofs.SettleLemmas.{key_label, other_label, put_searched, settle_again, settle_lost}
use Rattle.weak_maps.proofs.StayLemmas.{respects_within}
use Rattle.weak_maps.proofs.StillLemmas.{still_quiet}
use Rattle.weak_maps.proofs.TryLemmas.{put_digit, quiet_later}

-- the root stands there at least
pub deep_root : (z : Sizes) (h : List Entry) (root k : Label) → IsMap (graph_of z h) root → IsDeep z h root k 6
deep_root z h root k map = record { p = []; rest = way_to z.domains k; way = refl; block = (root, map.own.0, refl, map.own.1); deep = omega arith }

deep_on : (z : Sizes) (root k : Label) (now later : List Entry) (rooms : ℕ) → MapStays z root now later → IsDeep z now root k rooms → IsDeep z later root k rooms
deep_on z root k now later rooms stays x =
    let y = stays.block x.p (Block x.block.0) x.block.1 x.block.2 x.block.3 in
    record { p = x.p; rest = x.rest; way = x.way; block = (x.block.0, y.1.0, y.0, y.1.1); deep = x.deep }

pub deep_goes : (z : Sizes) (root k : Label) (d : ℕ) (old now new : List Entry) (rooms : ℕ) → GoesOn z root d old new → IsPrefix old now → IsPrefix now new → IsMap (graph_of z now) root → OthersRespect z root d old new → IsDeep z now root k rooms → IsDeep z new root k rooms
deep_goes z root k d old now new rooms on since grows map respects x = deep_on z root k now new rooms (stays_all z root now new grows (respect_within z root old now new new since (prefix_same new) (goes_all z root d old new respects on)) map) x

-- of two ways that begin one the longer goes on from the shorter
longer_way : (a b c e : List ℕ) → a ++ b ≡ c ++ e → length c ≤ length a → (s : List ℕ) × (a ≡ c ++ s)
longer_way a b [] e is long = (a, refl)
longer_way [] b (x ∷ c) e is long = absurd (omega (arith, long))
longer_way (y ∷ a) b (x ∷ c) e is long =
    let head : y ≡ x = cc in
    let rest = longer_way a b c e (let tail : a ++ b ≡ c ++ e = cc in tail) (omega (arith, long)) in
    (rest.0, (λ i. head i ∷ rest.1 i))

module _ (z : Sizes) (limits : IsWithinLimits z) (root : Label) (d : ℕ) (old now : List Entry) (k : Label) (v : Value) (kr : ℕ) (few : kr < 8) (key : held_by z d old kr ≡ Block k) (legal : Legal z now) (i rest level : ℕ) (j : Label)
    (t : Arrived z d old now root k v i rest level (Some j)) (leaves : OthersLeave z root d old now) (rooms : ℕ) (x : IsDeep z now root k rooms) where
  abbrev here : List ℕ
  here = t.found.field.p ++ i ∷ []

  -- the field holds what it held when it was read
  at_field_now : at (inside (graph_of z now)) here (Block root) ≡ Some t.found.field.v
  at_field_now =
      let f = t.found.field in
      still_quiet z root d t.found.front now f.until (quiet_later z d t.first t.found.front now f.since t.looking.quiet) (leaves_within z root d old now t.found.front now (prefix_trans old t.first t.found.front t.since f.since) (prefix_same now) leaves) f.map here ∙ f.was

  way_here : way_to z.domains k ≡ here ++ low_digits t.found.field.left rest
  way_here = t.found.field.way ∙ sym (append_assoc t.found.field.p (i ∷ []) (low_digits t.found.field.left rest))

  long_here : length here ≡ level + 1
  long_here = let long = length-append t.found.field.p (i ∷ []) in let deep = t.found.deep in omega (arith, long, deep)

  -- so the block stands above it
  above : length x.p ≤ level
  above = ⊎_elim
      (λ below.
      let s = longer_way x.p x.rest here (low_digits t.found.field.left rest) (sym x.way ∙ way_here) (omega (arith, below, long_here)) in
      absurd (nothing_there (graph_of z now) root here s.0 t.found.field.v (Block x.block.0) x.block.1 at_field_now (binds_end (graph_of z now) j t.found.field.v t.found.binds.binds)
      (ap (λ (w : List ℕ). at (inside (graph_of z now)) w (Block root)) (sym s.1) ∙ x.block.2) x.block.3))
      (λ low. low)
      (less_or level (length x.p))

  module _ (serial_k : k.serial < 2 ^ 32) (serial_j : j.serial < 2 ^ 32) (map : IsMap (graph_of z old) root) (placed : IsInPlace z.domains (graph_of z old) root) where
    digit_of : OthersRespect z root d old now → (q : List ℕ) × (way_to z.domains j ≡ t.found.field.p ++ i ∷ (rest_of (number_of z.domains j) level % node_width) ∷ q)
    digit_of respects = put_digit z limits root d old k v kr few key now i rest level (Some j) t map placed respects j refl
        (key_label z limits root d old now k v kr few key legal i rest level (Some j) t serial_k) (other_label z limits root d old now k v kr few key legal i rest level j t serial_j)

    -- another key's leaf isn't in the way where no block more may be made
    pub never_spent : OthersRespect z root d old now → rooms ≡ 0 → ⊥
    never_spent respects spent =
        let way = digit_of respects in
        let two = two_left z.domains j t.found.field.p i (rest_of (number_of z.domains j) level % node_width) way.0 way.1 in
        let deep = x.deep in
        let is = t.found.deep in
        omega (arith, two, deep, above, is, spent)

    -- and with room it goes deeper
    pub room_deeper : (n1 new : List Entry) (r : Reply) (left : ℕ) → left + 1 ≡ rooms → MakesRoom z d now n1 i (rest_of (number_of z.domains j) level % node_width) true → IsPrefix now n1 → PerformedBy z d n1 new (Load 9 8 i) r → OthersRespect z root d old new → OthersLeave z root d old new → IsDeep z new root k left
    room_deeper n1 new r left one makes grows p respects leave =
        let g = grows_by z d n1 new (Load 9 8 i) r p in
        let early = respects_within z root d old new old n1 (prefix_same old) g respects in
        let y = makes t.first t.found.front root k j t.l v rest kr t.found.shows few (t.keeps kr (low_beside kr few) ∙ key) t.found.field t.found.binds (digit_of (respects_within z root d old n1 old now (prefix_same old) grows early)) t.leaf t.on.map
        (respects_within z root d old n1 now n1 t.on.grows (prefix_same n1) early) in
        let down = y.deeper at_field_now (leaves_within z root d old new now n1 t.on.grows g leave) in
        let deep = x.deep in
        let there : IsDeep z n1 root k left = record { p = here; rest = low_digits t.found.field.left rest; way = way_here; block = down; deep = omega (arith, deep, above, long_here, one) } in
        let after = settle_again z limits root d old now k v kr few key legal i rest level n1 new r j t serial_k serial_j map placed makes grows p respects in
        deep_goes z root k d old n1 new left after.on (prefix_trans old now n1 t.on.grows grows) g y.on.map respects there

-- where the field was lost it stays so deep
pub lost_deep : (z : Sizes) (limits : IsWithinLimits z) (root : Label) (d : ℕ) (old now : List Entry) (k : Label) (v : Value) (kr : ℕ) (few : kr < 8) (key : held_by z d old kr ≡ Block k) (legal : Legal z now) (i rest level rooms : ℕ) (n1 new : List Entry) (r : Reply) → Arrived z d old now root k v i rest level None
    → Publishes z d now n1 i false → IsPrefix now n1 → PerformedBy z d n1 new (Load 9 8 i) r → OthersRespect z root d old new → IsDeep z now root k rooms → IsDeep z new root k rooms
lost_deep z limits root d old now k v kr few key legal i rest level rooms n1 new r t publishes grows p respects x =
    let after = settle_lost z limits root d old now k v kr few key legal i rest level n1 new r t publishes grows p respects in
    deep_goes z root k d old now new rooms after.on t.on.grows (prefix_trans now n1 new grows (grows_by z d n1 new (Load 9 8 i) r p)) t.on.map respects x

-- a search from a field that was read, and what the try there leads to
pub put_alone : (z : Sizes) (limits : IsWithinLimits z) (root : Label) (d : ℕ) (old : List Entry) (k : Label) (v : Value) (kr : ℕ) → kr < 8 → held_by z d old kr ≡ Block k → (now n0 new : List Entry) (i rest i2 rest2 level steps sum rooms : ℕ) (s : Reply) (other : Option Label) (try : Try) → sum ≡ min (level + steps) 255
    → (OthersRespect z root d old now → Putting z d old now root k v i rest s level) → (OthersRespect z root d old now → OthersLeave z root d old now → IsDeep z now root k rooms) → FindsField z d now n0 kr k i rest s i2 rest2 steps other → KeepsLeaf z d now n0 kr k i rest s → IsPrefix now n0
    → SettlesAlone z d n0 new k i2 rest2 sum other rooms try → IsPrefix n0 new → IsMap (graph_of z old) root → IsInPlace z.domains (graph_of z old) root → OthersRespect z root d old new → OthersLeave z root d old new → AloneBy z d n0 new root k try
put_alone z limits root d old k v kr few key now n0 new i rest i2 rest2 level steps sum rooms s other try is putting deep finds own grows settles later map placed respects leaves =
    let e0 = respects_within z root d old new old n0 (prefix_same old) later respects in
    let e1 = respects_within z root d old n0 old now (prefix_same old) grows e0 in
    let before = leaves_within z root d old new old now (prefix_same old) (prefix_trans now n0 new grows later) leaves in
    let p = putting e1 in
    let t = put_searched z limits root d old k v kr few key now n0 i rest i2 rest2 level steps sum s other is putting finds own grows e0 in
    settles old root v kr few key map placed t (deep_goes z root k d old now n0 rooms t.on p.on.grows grows p.on.map e0 (deep e1 before)) respects leaves
