-- What a look at a key finds, and what a call ends with.
use Rattle.std.proofs.Common.{◌≡◌, ◌≢◌, ℕ, ◌<◌, Bool, true, false, List, [], ◌∷◌, ◌++◌, Option, Some, None, refl, ap, sym, ◌∙◌, subst, arith}
use Rattle.model_core.specs.declared.label.Label.{Label}
use Rattle.model_core.specs.declared.command.Command.{Command}
use Rattle.model_core.specs.declared.command.Command.TheVariants.{Forget, GetData, GetKey}
use Rattle.model_core.specs.declared.entry.Entry.{Entry}
use Rattle.model_core.specs.declared.reply.Reply.{Reply}
use Rattle.model_core.specs.declared.reply.Reply.TheVariants as reply
use Rattle.model_core.specs.declared.graph.Value.{Value}
use Rattle.model_core.specs.declared.graph.Value.TheVariants.{Int, Block, Nothing}
use Rattle.model_core.specs.declared.graph.Node.TheVariants.{Ephe}
use Rattle.model_core.specs.declared.state.Sizes.{Sizes}
use Rattle.model_core.specs.Graph.{Graph, node_at}
use Rattle.model_core.specs.Domains.{IsWithinLimits}
use Rattle.model_core.specs.Commands.{shown, key_value}
use Rattle.model_core.specs.History.{IsPrefix}
use Rattle.weak_laws.specs.Tables.Stages.{graph_of}
use Rattle.weak_laws.proofs.OfTables.StageLemmas.{prefix_trans}
use Rattle.weak_laws.specs.Maps.Tries.{IsInPlace, IsMap}
use Rattle.weak_laws.specs.Maps.Steps.{OthersRespect, OwnRespect}
use Rattle.weak_laws.specs.Maps.Calls.{PerformedBy, value_of}
use Rattle.weak_laws.proofs.OfMaps.CallLemmas.{forget_step, get_key_step, get_data_step}
use Rattle.weak_laws.proofs.OfMaps.RespectLemmas.{map_after, respect_both}
use Rattle.weak_maps.specs.Beside.{held_by}
use Rattle.weak_maps.specs.Guards.{Guards}
use Rattle.weak_maps.specs.Walks.{HoldsLeaf, LeafTells, Looking, Meets, Met, OwnQuiet}
use Rattle.weak_maps.proofs.BesideLemmas.{low_beside, sixteen, set_here, set_other}
use Rattle.weak_maps.proofs.GetLemmas.{grows_by}
use Rattle.weak_maps.proofs.GuardLemmas.{quiet_twice}
use Rattle.weak_maps.proofs.PlaceLemmas.{place_after}
use Rattle.weak_maps.proofs.StayLemmas.{leaf_middle, looking_on, prefix_same, quiet_looks, respects_within}
use Rattle.weak_direct.specs.Leaves.{FoundBy, GetReturns, LookedBy, LooksUp}
use Rattle.weak_direct.specs.Tries.{EndsBy, KeepsBeside}

-- a map is one still behind a stretch whose own entries respect it, as the others' do, and its leaves stand on their keys' ways
pub respect_follows : (z : Sizes) (root : Label) (d : ℕ) (old new : List Entry) → IsPrefix old new → OwnRespect z root d old new → OthersRespect z root d old new → IsMap (graph_of z old) root → IsInPlace z.domains (graph_of z old) root → IsMap (graph_of z new) root × IsInPlace z.domains (graph_of z new) root
respect_follows z root d old new grows own respects map placed =
    let all = respect_both z root d old new respects own in
    (map_after z root old new grows all map, place_after z root old new grows all map placed)

pub quiet_follows : (z : Sizes) (root : Label) (d : ℕ) (old new : List Entry) → IsPrefix old new → OwnQuiet z d old new → OthersRespect z root d old new → IsMap (graph_of z old) root → IsInPlace z.domains (graph_of z old) root → IsMap (graph_of z new) root × IsInPlace z.domains (graph_of z new) root
quiet_follows z root d old new grows quiet respects map placed = respect_follows z root d old new grows (quiet_looks z root d old new quiet).respects respects map placed

pub guards_follow : (z : Sizes) (root : Label) (d : ℕ) (old new : List Entry) → IsPrefix old new → Guards z root d old old new → OthersRespect z root d old new → IsMap (graph_of z old) root → IsInPlace z.domains (graph_of z old) root → IsMap (graph_of z new) root × IsInPlace z.domains (graph_of z new) root
guards_follow z root d old new grows guards respects map placed =
    respect_follows z root d old new grows (λ front e since until own. guards front e since until own (respects_within z root d old new old front (prefix_same old) (prefix_trans front (front ++ e ∷ []) new (record { rest = e ∷ []; appends = refl }) until) respects)) respects map placed

-- a look goes on over a stretch that changes no block
pub looking_over : (z : Sizes) (root : Label) (d : ℕ) (old now new : List Entry) → IsPrefix now new → OwnQuiet z d now new → OthersRespect z root d old new → Looking z root d old now → Looking z root d old new
looking_over z root d old now new grows quiet respects x = record {
  quiet = quiet_twice z d old now new grows x.quiet quiet;
  grows = prefix_trans old now new x.grows grows;
  map = map_after z root now new grows (respect_both z root d now new (respects_within z root d old new now new x.grows (prefix_same new) respects) (quiet_looks z root d now new quiet).respects) x.map;
}

-- what was kept behind the last command of a call
pub ends_grows : (z : Sizes) (d : ℕ) (old new : List Entry) (c : Command) (r : Reply) → EndsBy z d old new c r → IsPrefix old new
ends_grows z d old new c r x = prefix_trans old x.made new (grows_by z d old x.made c r x.performed) x.passes.grows

module _ (z : Sizes) (root : Label) (d : ℕ) (old : List Entry) (k : Label) where
  -- what a key that was read is, where the leaf tells this
  abbrev KeyTells : Option Value → Option Label → Type 0
  KeyTells (Some datum) key = key ≡ Some k
  KeyTells None key = key ≢ Some k

  leaf_key : (g : Graph) (l : Label) (o : Option Value) → LeafTells g l k o → (key : Option Label) × (datum : Value) × (node_at g l ≡ Some (Ephe (key ∷ []) datum)) × KeyTells o key
  leaf_key g l (Some datum) is = (Some k, datum, is, refl)
  leaf_key g l None (key, datum, other, is) = (key, datum, is, other)

  key_shown : (key : Option Label) → shown (key_value key) ≡ reply.Block k → key ≡ Some k
  key_shown None is = cc
  key_shown (Some l) is = let same : l ≡ k = cc in ap Some same

  -- a leaf that register 8 holds, once register 9 has got its key
  module _ (now new : List Entry) (r : Reply) (kr : ℕ) (p : PerformedBy z d now new (GetKey 9 8 0) r) (respects : OthersRespect z root d old new) (key : held_by z d now kr ≡ Block k) where
    key_read : (o : Option Value) → Meets z d old now root k o → HoldsLeaf z d now root k o 8 → (j : Option Label) × LookedBy z d old new root k o × (r ≡ shown (key_value j)) × KeyTells o j × HoldsLeaf z d new root k o 8
    key_read o m x =
        let c = GetKey 9 8 0 in
        let grows = grows_by z d now new c r p in
        let tells : LeafTells (graph_of z (now ++ p.between)) x.l k o = leaf_middle z root d old now new c r p respects m.looking.grows k o kr x.l x.former x.p x.before x.there x.leaf key x.tells in
        let n = leaf_key (graph_of z (now ++ p.between)) x.l o tells in
        let all = get_key_step z d now new r 9 8 p x.l n.0 n.1 x.held n.2 in (
          n.0,
          record { looking = looking_on z root d old now new c r p all.0 respects m.looking; front = m.front; since = m.since; until = prefix_trans m.front now new m.until grows; bound = m.bound },
          all.2,
          n.3,
          record {
            l = x.l;
            held = set_other z d now new 9 (key_value n.0) all.1 8 (λ e. absurd (omega (arith, e))) ∙ x.held;
            tells = subst (λ (g : Graph). LeafTells g x.l k o) (sym all.0) tells;
            former = x.former;
            before = prefix_trans x.former now new x.before grows;
            p = x.p;
            there = x.there;
            leaf = x.leaf;
          },
        )

    -- it is one of another key, or of this one
    pub found_other : Met z d old now root k true → (r ≡ reply.Block k → ⊥) → FoundBy z d old new root k false
    found_other (None, m, x) other = (key_read None m x).1
    found_other (Some datum, m, x) other = let y = key_read (Some datum) m x in absurd (other (y.2 ∙ ap (λ (j : Option Label). shown (key_value j)) y.3))

    pub found_mine : Met z d old now root k true → r ≡ reply.Block k → FoundBy z d old new root k true
    found_mine (None, m, x) is = let y = key_read None m x in absurd (y.3 (key_shown y.0 (sym y.2 ∙ is)))
    found_mine (Some datum, m, x) is = let y = key_read (Some datum) m x in (datum, y.1, y.4)

    -- by what the key that was read shows
    pub found_by_key : Met z d old now root k true → (b : Bool) → (b ≡ true → r ≡ reply.Block k) → (r ≡ reply.Block k → b ≡ true) → FoundBy z d old new root k b
    found_by_key m true shows is = found_mine m (shows refl)
    found_by_key m false shows is = found_other m (λ e. let clash : false ≡ true = is e in cc)

  -- a walk that met no leaf
  pub found_missed : (now : List Entry) → Met z d old now root k false → FoundBy z d old now root k false
  found_missed now m = record { looking = m.looking; front = m.front; since = m.since; until = m.until; bound = m.bound }

module _ (z : Sizes) (limits : IsWithinLimits z) (root : Label) (d : ℕ) (old : List Entry) (k : Label) where
  -- the register of the answer is written, and those between are emptied
  module _ (now new : List Entry) (dst kr : ℕ) (few : dst < 8) (respects : OthersRespect z root d old new) (keeps : KeepsBeside z d old now) where
    up_to : (h : List Entry) → IsPrefix h new → OthersRespect z root d old h
    up_to h before = respects_within z root d old new old h (prefix_same old) before respects

    returns : (c : Command) (r answer : Reply) (x : EndsBy z d now new c r) (datum : Option Value) → LookedBy z d old now root k datum → Looking z root d old x.made → shown (held_by z d x.made dst) ≡ answer → ((i : ℕ) → i ≢ dst → held_by z d x.made i ≡ held_by z d now i) → answer ≡ shown (value_of datum)
        → GetReturns z d old new root dst (Block k) answer
    returns c r answer x datum y made holds same is =
        let after = looking_over z root d old x.made new x.passes.grows x.quiet respects made in (
          (datum, record { looks = quiet_looks z root d old new after.quiet; front = y.front; since = y.since; until = prefix_trans y.front now new y.until (ends_grows z d now new c r x); bound = y.bound }, is),
          record {
            map = after.map;
            quiet = after.quiet;
            holds = ap shown (x.passes.keeps dst (low_beside dst few)) ∙ holds;
            keeps = λ i beside apart. x.passes.keeps i beside ∙ (same i apart ∙ keeps i beside);
          },
        )

    -- the key wasn't bound
    pub gets_none : (r : Reply) → EndsBy z d now new (Forget dst) r → (OthersRespect z root d old now → FoundBy z d old now root k false) → GetReturns z d old new root dst (Block k) reply.Empty
    gets_none r x found =
        let p = x.performed in
        let y = found (up_to now (ends_grows z d now new (Forget dst) r x)) in
        let all = forget_step z d now x.made r dst p in
        returns (Forget dst) r reply.Empty x None y (looking_on z root d old now x.made (Forget dst) r p all.0 (up_to x.made x.passes.grows) y.looking)
        (ap shown (set_here z d now x.made dst Nothing all.1 (sixteen z d now x.made (Forget dst) r p limits) (omega (arith, few))))
        (λ i apart. set_other z d now x.made dst Nothing all.1 i apart) refl

    -- or it was
    pub gets_datum : (r : Reply) → kr < 8 → held_by z d old kr ≡ Block k → EndsBy z d now new (GetData dst 8) r → (OthersRespect z root d old now → FoundBy z d old now root k true) → GetReturns z d old new root dst (Block k) r
    gets_datum r low key x found =
        let c = GetData dst 8 in
        let p = x.performed in
        let y = found (up_to now (ends_grows z d now new c r x)) in
        let leaf = y.2 in
        let later = up_to x.made x.passes.grows in
        let tells : LeafTells (graph_of z (now ++ p.between)) leaf.l k (Some y.0) = leaf_middle z root d old now x.made c r p later y.1.looking.grows k (Some y.0) kr leaf.l leaf.former leaf.p leaf.before leaf.there leaf.leaf (keeps kr (low_beside kr low) ∙ key) leaf.tells in
        let all = get_data_step z d now x.made r dst 8 p leaf.l (Some k) y.0 leaf.held tells in
        returns c r r x (Some y.0) y.1 (looking_on z root d old now x.made c r p all.0 later y.1.looking)
        (ap shown (set_here z d now x.made dst y.0 all.1 (sixteen z d now x.made c r p limits) (omega (arith, few))) ∙ sym all.2)
        (λ i apart. set_other z d now x.made dst y.0 all.1 i apart) all.2

-- a key's register that holds no label
pub not_got : (z : Sizes) (d : ℕ) (old new : List Entry) (root : Label) (dst : ℕ) (v : Value) → new ≡ old → ((k : Label) → shown v ≡ reply.Block k → ⊥) → GetReturns z d old new root dst v reply.BadType
not_got z d old new root dst (Int i) same none = (refl, same)
not_got z d old new root dst (Block l) same none = absurd (none l refl)
not_got z d old new root dst Nothing same none = (refl, same)

-- what is answered of the key that a register holds
pub got_at : (z : Sizes) (d : ℕ) (old new : List Entry) (root : Label) (dst : ℕ) (v : Value) (k : Label) (r : Reply) → v ≡ Block k → GetReturns z d old new root dst (Block k) r → GetReturns z d old new root dst v r
got_at z d old new root dst v k r held x = subst (λ (w : Value). GetReturns z d old new root dst w r) (sym held) x

-- as a domain tells it before one of its numbers was seen to be the same
pub looks_at : (z now : Sizes) (d e : ℕ) (old first new : List Entry) (map key : ℕ) (k : Label) (a b : Bool) → now ≡ z → e ≡ d → first ≡ old → b ≡ a → LooksUp now e first new map key k b → LooksUp z d old new map key k a
looks_at z now d e old first new map key k a b sizes domain front is x = subst (λ (w : Sizes × ℕ × List Entry × Bool). LooksUp w.0 w.1 w.2 new map key k w.3) (λ i. (sizes i, domain i, front i, is i)) x

pub ends_at : (z now : Sizes) (d e : ℕ) (old new : List Entry) (c : Command) (r : Reply) → now ≡ z → e ≡ d → EndsBy now e old new c r → EndsBy z d old new c r
ends_at z now d e old new c r sizes domain x = subst (λ (w : Sizes × ℕ). EndsBy w.0 w.1 old new c r) (λ i. (sizes i, domain i)) x
