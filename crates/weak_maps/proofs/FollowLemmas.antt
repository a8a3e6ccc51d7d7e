-- Calls may follow one another: a map is one still, and its leaves stand on their keys' ways.
use Rattle.std.proofs.Common.{◌≡◌, inl, inr, ℕ, List, subst, sym}
use Rattle.model_core.specs.declared.label.Label.{Label}
use Rattle.model_core.specs.declared.entry.Entry.{Entry}
use Rattle.model_core.specs.declared.graph.Value.{Value}
use Rattle.model_core.specs.declared.graph.Value.TheVariants.{Int, Block, Nothing}
use Rattle.model_core.specs.declared.reply.Reply.{Reply}
use Rattle.model_core.specs.declared.state.Sizes.{Sizes}
use Rattle.model_core.specs.History.{IsPrefix}
use Rattle.weak_laws.specs.Tables.Stages.{graph_of}
use Rattle.weak_laws.specs.Maps.Tries.{IsMap, IsInPlace}
use Rattle.weak_laws.specs.Maps.Steps.{OthersRespect, OwnRespect}
use Rattle.weak_laws.proofs.OfMaps.FrontLemmas.{prefix_same}
use Rattle.weak_laws.proofs.OfMaps.RespectLemmas.{respect_both}
use Rattle.weak_maps.specs.Returns.{GetReturns, PutReturns, TakeReturns}
use Rattle.weak_maps.proofs.PlaceLemmas.{place_after}

-- the same front, or what has grown of it
pub grown_from : (old first new : List Entry) → first ≡ old → IsPrefix first new → IsPrefix old new
grown_from old first new is x = subst (λ (h : List Entry). IsPrefix h new) is x

-- where no entry was made
pub none_grows : (old new : List Entry) → new ≡ old → IsPrefix old new
none_grows old new same = subst (IsPrefix old) (sym same) (prefix_same old)

pub none_follows : (z : Sizes) (old new : List Entry) (root : Label) → new ≡ old → IsMap (graph_of z old) root → IsInPlace z.domains (graph_of z old) root → IsMap (graph_of z new) root × IsInPlace z.domains (graph_of z new) root
none_follows z old new root same map placed = subst (λ (h : List Entry). IsMap (graph_of z h) root × IsInPlace z.domains (graph_of z h) root) (sym same) (map, placed)

module _ (z : Sizes) (d : ℕ) (old new : List Entry) (root : Label) (grows : IsPrefix old new) (map : IsMap (graph_of z old) root) (placed : IsInPlace z.domains (graph_of z old) root) (respects : OthersRespect z root d old new) where
  abbrev pub Follows : List Entry → Type 0
  Follows h = IsMap (graph_of z h) root × IsInPlace z.domains (graph_of z h) root

  placed_by : OwnRespect z root d old new → IsInPlace z.domains (graph_of z new) root
  placed_by own = place_after z root old new grows (respect_both z root d old new respects own) map placed

  still : new ≡ old → Follows new
  still same = none_follows z old new root same map placed

  pub get_follows : (dst : ℕ) (v : Value) (r : Reply) → GetReturns z d old new root dst v r → Follows new
  get_follows dst (Int i) r (is, same) = still same
  get_follows dst (Block k) r ((datum, gets, is), leaves) = (leaves.map, placed_by gets.looks.respects)
  get_follows dst Nothing r (is, same) = still same

  pub take_follows : (v : Value) (r : Reply) → TakeReturns z d old new root v r → Follows new
  take_follows (Int i) r (is, same) = still same
  take_follows (Block k) r (inl (is, (was, x)), leaves) = (leaves.map, placed_by x.respects)
  take_follows (Block k) r (inr (is, x), leaves) = (leaves.map, placed_by x.looks.respects)
  take_follows Nothing r (is, same) = still same

  pub put_follows : (v w : Value) (r : Reply) → PutReturns z d old new root v w r → Follows new
  put_follows (Int i) (Int a) r (is, same) = still same
  put_follows (Int i) (Block l) r (is, same) = still same
  put_follows (Int i) Nothing r (is, same) = still same
  put_follows (Block k) (Int a) r (x, leaves, after) = (leaves.map, after)
  put_follows (Block k) (Block l) r (x, leaves, after) = (leaves.map, after)
  put_follows (Block k) Nothing r (is, same) = still same
  put_follows Nothing (Int a) r (is, same) = still same
  put_follows Nothing (Block l) r (is, same) = still same
  put_follows Nothing Nothing r (is, same) = still same
