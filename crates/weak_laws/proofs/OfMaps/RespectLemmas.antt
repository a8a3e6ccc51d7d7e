-- Entries that respect a map, and what they leave of it from one front to a later one.
use Rattle.std.proofs.Common.{◌≡◌, inl, inr, ⊎_elim, ℕ, Bool, true, false, eq-eqb, IsTrue, List, [], ◌∷◌, ◌++◌, length, Option, Some, None, refl, ap, sym, ◌∙◌, subst, arith, append_assoc, length-set}
use Rattle.std.proofs.lemmas.List.{length-map, length-replicate}
use Rattle.model_core.specs.declared.label.Label.{Label}
use Rattle.model_core.specs.declared.entry.Entry.{Entry}
use Rattle.model_core.specs.declared.entry.Entry.TheVariants.{Command as CommandOf, End, Cut, Queue, Seal, Wipe, Last as LastOf, Collected, Done, Ran}
use Rattle.model_core.specs.declared.graph.Value.{Value}
use Rattle.model_core.specs.declared.graph.Value.TheVariants.{Block}
use Rattle.model_core.specs.declared.graph.Node.{Node}
use Rattle.model_core.specs.declared.state.DomainState.{DomainState}
use Rattle.model_core.specs.declared.state.Pending.{Pending}
use Rattle.model_core.specs.declared.state.Pending.TheVariants.{Fin, Last}
use Rattle.model_core.specs.declared.state.Sizes.{Sizes}
use Rattle.model_core.specs.declared.state.State.{State}
use Rattle.model_core.specs.Graph.{Graph, has_label, node_at}
use Rattle.model_core.specs.Domains.{domain_at, with_domain, opening, opening_domain, reach}
use Rattle.model_core.specs.Commands.{outcome}
use Rattle.model_core.specs.Entries.{Allowed, with_wiped, without_first, after_run, next}
use Rattle.model_core.specs.History.{IsPrefix, Legal, state_after, is_entry_of}
use Rattle.model_core.proofs.Commands.FrameLemmas.{inside_running}
use Rattle.model_core.proofs.Commands.MoveLemmas.{keeps_outcome}
use Rattle.model_core.proofs.Histories.HistoryLemmas.{state_after-push}
use Rattle.model_core.proofs.Reach.ReachLemmas.{is_false}
use Rattle.weak_laws.specs.Tables.Thinning.{IsTakenBy, is_collector, state_of, IsOutside, Thin}
use Rattle.weak_laws.specs.Tables.Stages.{graph_of}
use Rattle.weak_laws.proofs.OfTables.ChangeLemmas.{thin_is, thin_twice, thin_more}
use Rattle.weak_laws.proofs.OfTables.CollectorLemmas.{collector_thins}
use Rattle.weak_laws.proofs.OfTables.StepLemmas.{legal_parts}
use Rattle.weak_laws.specs.Maps.Tries.{inside, at, found, bound_by, is_leaf, IsMap}
use Rattle.weak_laws.specs.Maps.Steps.{WasUnreached, Sets, MapStep, Untouched, SetsKey, GoesDeeper, ClearsField, TakesKeys, LeavesBinding, RespectsMap, AllRespect, OthersRespect, OwnRespect}
use Rattle.weak_laws.specs.Maps.Calls.{bound_after}
use Rattle.weak_laws.specs.Maps.MapLaws.{AloneRespects, AloneLeaves, NoneSets, BoundOrTaken, LookupAnswersLastPut, HeldBindingIsFound, PutIsFound, RespectedMapStays}
use Rattle.weak_laws.proofs.OfMaps.SetLemmas.{set_binds}
use Rattle.weak_laws.proofs.OfMaps.MapLemmas.{map_stays, places_stay, plain_stays, step_tells}
use Rattle.weak_laws.proofs.OfMaps.FrontLemmas.{prefix_same, prefix_more, prefix_trans, prefix_before, walk_along, before_or_behind}

-- an entry behind a front is allowed where it stands
pub allowed_at : (z : Sizes) (front new : List Entry) (e : Entry) → Legal z new → IsPrefix (front ++ e ∷ []) new → Allowed (state_of z front) e
allowed_at z front new e legal until =
    let whole : new ≡ front ++ e ∷ until.rest = until.appends ∙ append_assoc front (e ∷ []) until.rest in
    (legal_parts (opening z) front (e ∷ until.rest) (subst (Legal z) whole legal)).1.0

-- what an entry of the collector takes is outside reach
pub collector_spares : (s : State) (e : Entry) → IsTrue (is_collector e) → Allowed s e → (l : Label) (n : Node) → node_at s.graph l ≡ Some n → Thin (IsOutside s) n (node_at (next s e).graph l)
collector_spares s e mine allowed l n node = thin_more (IsTakenBy s e) (IsOutside s) (λ k taken. taken.outside) n (node_at (next s e).graph l) (collector_thins s e mine allowed l n node refl)

-- an entry of the collector respects each map
pub collector_respects : (z : Sizes) (root : Label) (front : List Entry) (e : Entry) → IsTrue (is_collector e) → Allowed (state_of z front) e → RespectsMap z root front e
collector_respects z root front e mine allowed = record {
  step = TakesKeys (λ p l n there node. collector_spares (state_of z front) e mine allowed l n node);
  leaves = λ former p l n before there leaf node. collector_spares (state_of z front) e mine allowed l n node;
}

-- how many domains a heap has never changes
module _ (s : State) where
  count_with : (d : ℕ) (x : DomainState) → length (with_domain s d x).domains ≡ length s.domains
  count_with d x = length-set s.domains d x

  count_wiped : (l : Label) (o : Option Node) → length (with_wiped s l o).domains ≡ length s.domains
  count_wiped l None = refl
  count_wiped l (Some n) = refl

  count_run : (d : ℕ) (queue : List Pending) → length (after_run s d queue).domains ≡ length s.domains
  count_run d [] = refl
  count_run d (Fin number l r ∷ rest) =
      let t : State = with_domain s d (without_first (domain_at s d) rest) in
      length-set t.domains d _ ∙ length-set s.domains d _
  count_run d (Last number ∷ rest) = length-set s.domains d _

pub count_next : (s : State) (e : Entry) → length (next s e).domains ≡ length s.domains
count_next s (CommandOf d c true) = count_with s d _
count_next s (CommandOf d c false) = length-set (outcome s d c).state.domains d _
    ∙ keeps_outcome (λ t. length t.domains ≡ length s.domains) (λ t d x q. length-set t.domains d x ∙ q) (λ t g n q. q) s refl d c
count_next s (End d) = count_with s d _
count_next s Cut = length-map s.domains _
count_next s (Queue d places) = count_with s d _
count_next s Seal = length-map s.domains _
count_next s (Wipe l keys) = count_wiped s l _
count_next s (LastOf d place) = count_with s d _
count_next s Collected = length-map s.domains _
count_next s Done = refl
count_next s (Ran d) = count_run s d _

count_after : (s : State) (h : List Entry) → length (state_after s h).domains ≡ length s.domains
count_after s [] = refl
count_after s (e ∷ h) = count_after (next s e) h ∙ count_next s e

-- the only domain is the first
only_domain : (z : Sizes) (front : List Entry) (d : ℕ) → z.domains ≡ 1 → (domain_at (state_of z front) d).ended ≡ false → 0 ≡ d
only_domain z front d one running =
    let below = inside_running (state_of z front).domains d running in
    let count : length (state_of z front).domains ≡ z.domains = count_after (opening z) front ∙ length-replicate z.domains opening_domain in
    omega (arith, below, count, one)

-- in a heap of one domain each entry that isn't its own is the collector's
alone_collects : (z : Sizes) (front : List Entry) (e : Entry) → z.domains ≡ 1 → Allowed (state_of z front) e → is_entry_of 0 e ≡ false → IsTrue (is_collector e)
alone_collects z front (CommandOf d c full) one allowed other = let same = only_domain z front d one allowed.running in let clash : true ≡ false = sym (eq-eqb d 0 (sym same)) ∙ other in cc
alone_collects z front (End d) one allowed other = let same = only_domain z front d one allowed.running in let clash : true ≡ false = sym (eq-eqb d 0 (sym same)) ∙ other in cc
alone_collects z front (Ran d) one allowed other = let same = only_domain z front d one allowed.running in let clash : true ≡ false = sym (eq-eqb d 0 (sym same)) ∙ other in cc
alone_collects z front Cut one allowed other = refl
alone_collects z front (Queue d places) one allowed other = refl
alone_collects z front Seal one allowed other = refl
alone_collects z front (Wipe l keys) one allowed other = refl
alone_collects z front (LastOf d place) one allowed other = refl
alone_collects z front Collected one allowed other = refl
alone_collects z front Done one allowed other = refl

pub alone_respects : AloneRespects
alone_respects z root old new one legal front e since until other =
    let allowed = allowed_at z front new e legal until in
    collector_respects z root front e (alone_collects z front e one allowed other) allowed

pub alone_leaves : AloneLeaves
alone_leaves z root old new one legal front e since until other p l n there node =
    let allowed = allowed_at z front new e legal until in
    collector_spares (state_of z front) e (alone_collects z front e one allowed other) allowed l n node

-- a label that was outside reach from one front to a later one, seen from a wider stretch
pub outside_wider : (z : Sizes) (a b c d : List Entry) (k : Label) → IsPrefix a b → IsPrefix c d → WasUnreached z b c k → WasUnreached z a d k
outside_wider z a b c d k first last w = record { front = w.front; since = prefix_trans a b w.front first w.since; until = prefix_trans w.front c d w.until last; outside = w.outside }

-- the state behind one entry more
pub state_push : (z : Sizes) (front : List Entry) (e : Entry) → state_of z (front ++ e ∷ []) ≡ next (state_of z front) e
state_push z front e = state_after-push (opening z) front e

pub graph_push : (z : Sizes) (front : List Entry) (e : Entry) → graph_of z (front ++ e ∷ []) ≡ (next (state_of z front) e).graph
graph_push z front e = ap (λ (s : State). s.graph) (state_push z front e)

-- over entries each of which respects a map
module _ (z : Sizes) (root : Label) (old new : List Entry) (grows : IsPrefix old new) (all : AllRespect z root old new) (map : IsMap (graph_of z old) root) where
  -- at each front between it is a map
  pub map_between : (front : List Entry) → IsPrefix old front → IsPrefix front new → IsMap (graph_of z front) root
  map_between front since until = walk_along (λ h. IsMap (graph_of z h) root) old front since
      (λ f e a b m. subst (λ (g : Graph). IsMap g root) (sym (graph_push z f e)) (map_stays z.domains root (state_of z f) e m (all f e a (prefix_trans (f ++ e ∷ []) front new b until)).step)) map

  pub map_after : IsMap (graph_of z new) root
  map_after = map_between new grows (prefix_same new)

  -- each block of the map stands where it stood, and is a block
  pub place_after : (q : List ℕ) (u : Value) (fields : List Value) → at (inside (graph_of z old)) q (Block root) ≡ Some u → inside (graph_of z old) u ≡ Some fields
      → (at (inside (graph_of z new)) q (Block root) ≡ Some u) × ((now : List Value) × (inside (graph_of z new) u ≡ Some now))
  place_after q u fields there plain = both.1
    where
      P : List Entry → Type 0
      P h = IsMap (graph_of z h) root × ((at (inside (graph_of z h)) q (Block root) ≡ Some u) × ((now : List Value) × (inside (graph_of z h) u ≡ Some now)))

      both : P new
      both = walk_along P old new grows
          (λ f e a b m.
          let step = (all f e a b).step in
          let s : State = state_of z f in
          let there : at (inside (next s e).graph) q (Block root) ≡ Some u = places_stay z.domains root s e m.0 step q u m.1.1.0 m.1.0 m.1.1.1 in
          let plain : (now : List Value) × (inside (next s e).graph u ≡ Some now) = plain_stays z.domains root s e m.0 step q u m.1.1.0 m.1.0 m.1.1.1 in (
            subst (λ (g : Graph). IsMap g root) (sym (graph_push z f e)) (map_stays z.domains root s e m.0 step),
            (
              subst (λ (g : Graph). at (inside g) q (Block root) ≡ Some u) (sym (graph_push z f e)) there,
              subst (λ (g : Graph). (now : List Value) × (inside g u ≡ Some now)) (sym (graph_push z f e)) plain,
            ),
          ))
          (map, (there, (fields, plain)))

  -- a leaf that the map had is as it was, or has lost its key where that was outside reach
  pub leaf_after : (former : List Entry) (p : List ℕ) (l : Label) (n : Node) → IsPrefix former old → at (inside (graph_of z former)) p (Block root) ≡ Some (Block l) → is_leaf (node_at (graph_of z former) l)
      → node_at (graph_of z old) l ≡ Some n → Thin (WasUnreached z old new) n (node_at (graph_of z new) l)
  leaf_after former p l n before there leaf node = go new grows (prefix_same new)
    where
      go : (h : List Entry) → IsPrefix old h → IsPrefix h new → Thin (WasUnreached z old h) n (node_at (graph_of z h) l)
      go h since until = walk_along (λ f. Thin (WasUnreached z old f) n (node_at (graph_of z f) l)) old h since
          (λ f e a b thin.
          thin_twice (WasUnreached z old (f ++ e ∷ [])) n (node_at (graph_of z f) l) (node_at (graph_of z (f ++ e ∷ [])) l)
          (thin_more (WasUnreached z old f) (WasUnreached z old (f ++ e ∷ [])) (λ k w. outside_wider z old old f (f ++ e ∷ []) k (prefix_same old) (prefix_more f (e ∷ [])) w) n (node_at (graph_of z f) l) thin)
          (λ m here. subst (λ (g : Graph). Thin (WasUnreached z old (f ++ e ∷ [])) m (node_at g l)) (sym (graph_push z f e))
          (thin_more (IsOutside (state_of z f)) (WasUnreached z old (f ++ e ∷ []))
          (λ k outside. record { front = f; since = a; until = prefix_more f (e ∷ []); outside = outside }) m (node_at (next (state_of z f) e).graph l)
          ((all f e a (prefix_trans (f ++ e ∷ []) h new b until)).leaves former p l m (prefix_trans former old f before a) there leaf here))))
          (thin_is (WasUnreached z old old) n (node_at (graph_of z old) l) node)

  -- a key that no entry sets is bound as it was, or was taken
  pub unset_stays : (k : Label) → NoneSets z root old new k → BoundOrTaken z root old new k (bound_after z root old k)
  unset_stays k none = go new grows (prefix_same new)
    where
      P : List Entry → Type 0
      P h = BoundOrTaken z root old h k (bound_after z root old k)

      later : (f : List Entry) (e : Entry) → P f → bound_after z root (f ++ e ∷ []) k ≡ bound_after z root f k → P (f ++ e ∷ [])
      later f e (inl is) same = inl (same ∙ is)
      later f e (inr (was, gone)) same = inr (outside_wider z old old f (f ++ e ∷ []) k (prefix_same old) (prefix_more f (e ∷ [])) was, same ∙ gone)

      here : (f : List Entry) (e : Entry) → found z.domains (next (state_of z f) e).graph root k ≡ bound_after z root f k → bound_after z root (f ++ e ∷ []) k ≡ bound_after z root f k
      here f e same = ap (λ (g : Graph). found z.domains g root k) (graph_push z f e) ∙ same

      step : (f : List Entry) (e : Entry) → IsPrefix old f → IsPrefix (f ++ e ∷ []) new → P f → (s : MapStep z.domains root (state_of z f) e) → LeavesBinding z.domains root (state_of z f) e s k → P (f ++ e ∷ [])
      step f e a b p (Untouched u) same = later f e p (here f e same)
      step f e a b p (SetsKey j v set) (inl (is, now)) = absurd (none f e a b v (subst (λ (x : Label). Sets z.domains (graph_of z f) (next (state_of z f) e).graph root x v) (sym is) set))
      step f e a b p (SetsKey j v set) (inr (other, same)) = later f e p (here f e same)
      step f e a b p (GoesDeeper u) same = later f e p (here f e same)
      step f e a b p (ClearsField u) same = later f e p (here f e same)
      step f e a b p (TakesKeys u) (inl same) = later f e p (here f e same)
      step f e a b p (TakesKeys u) (inr (outside, gone)) =
          inr (record { front = f; since = a; until = prefix_more f (e ∷ []); outside = outside }, ap (λ (g : Graph). found z.domains g root k) (graph_push z f e) ∙ gone)

      go : (h : List Entry) → IsPrefix old h → IsPrefix h new → P h
      go h since until = walk_along P old h since
          (λ f e a b p.
          let there = prefix_trans (f ++ e ∷ []) h new b until in
          let s = (all f e a there).step in
          step f e a there p s (step_tells z.domains root (state_of z f) e (map_between f a (prefix_before f e new there)) s k))
          (inl refl)

-- a stretch of a stretch
pub respect_within : (z : Sizes) (root : Label) (old a b new : List Entry) → IsPrefix old a → IsPrefix b new → AllRespect z root old new → AllRespect z root a b
respect_within z root old a b new first last all front e since until = all front e (prefix_trans old a front first since) (prefix_trans (front ++ e ∷ []) b new until last)

-- two stretches
pub respect_append : (z : Sizes) (root : Label) (old now new : List Entry) → IsPrefix now new → AllRespect z root old now → AllRespect z root now new → AllRespect z root old new
respect_append z root old now new grows first last front e since until =
    ⊎_elim (λ before. first front e since before) (λ behind. last front e behind until) (before_or_behind now new front e grows until)

-- those of others and the own ones are all
pub respect_both : (z : Sizes) (root : Label) (d : ℕ) (old new : List Entry) → OthersRespect z root d old new → OwnRespect z root d old new → AllRespect z root old new
respect_both z root d old new others own front e since until = go (is_entry_of d e) refl
  where
    go : (b : Bool) → is_entry_of d e ≡ b → RespectsMap z root front e
    go true is = own front e since until is
    go false is = others front e since until is

pub last_put : LookupAnswersLastPut
last_put z root old new all map k front e v since until sets none =
    let front_map = map_between z root old new (prefix_trans old (front ++ e ∷ []) new (prefix_trans old front (front ++ e ∷ []) since (prefix_more front (e ∷ []))) until) all map in
    let after : List Entry = front ++ e ∷ [] in
    let up = prefix_trans old front after since (prefix_more front (e ∷ [])) in
    let bound : bound_after z root after k ≡ bound_by (graph_of z front) k v =
    ap (λ (g : Graph). found z.domains g root k) (graph_push z front e) ∙ (set_binds z.domains (graph_of z front) (next (state_of z front) e).graph root k v (front_map front since (prefix_before front e new until)) sets).0 in
    subst (λ (o : Option Value). BoundOrTaken z root after new k o) bound
    (unset_stays z root after new until (respect_within z root old after new new up (prefix_same new) all) (front_map after up until) k none)

pub held_found : HeldBindingIsFound
held_found z root old new grows all map k v bound none reached = go (unset_stays z root old new grows all map k none)
  where
    go : BoundOrTaken z root old new k (bound_after z root old k) → bound_after z root new k ≡ Some v
    go (inl same) = same ∙ bound
    go (inr (was, gone)) = let clash : true ≡ false = sym (reached was.front was.since was.until) ∙ is_false (has_label (reach (state_of z was.front)) k) was.outside in cc

pub respected_map : RespectedMapStays
respected_map z root old new grows all map = map_after z root old new grows all map

pub put_found : PutIsFound
put_found z root d reader old mid new k v before datum all map first behind x gets none reached =
    let after : List Entry = x.front ++ x.entry ∷ [] in
    let since : IsPrefix old after = prefix_trans old x.front after x.since (prefix_more x.front (x.entry ∷ [])) in
    let until : IsPrefix after gets.front = prefix_trans after mid gets.front x.until gets.since in
    let to_new : IsPrefix after new = prefix_trans after gets.front new until gets.until in
    let there : IsMap (graph_of z after) root = map_between z root old new (prefix_trans old after new since to_new) all map after since to_new in
    sym gets.bound
    ∙ held_found z root after gets.front until (respect_within z root old after gets.front new since gets.until all) there k v x.binds
    (λ f e a b w. none f e a (prefix_trans (f ++ e ∷ []) gets.front new b gets.until) w) (λ f a b. reached f a (prefix_trans f gets.front new b gets.until))
