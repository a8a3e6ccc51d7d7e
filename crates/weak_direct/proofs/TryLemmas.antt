-- A put that makes one try: what it answers, and what it has done where it stops.
use Rattle.std.proofs.Common.{◌≡◌, ◌≢◌, ℕ, ◌+◌, ◌<◌, ◌/◌, ◌%◌, List, Option, Some, None, inr, refl, sym, ap, ◌∙◌, subst, arith}
use Rattle.std.specs.Option.{IfSome}
use Rattle.model_core.specs.declared.label.Label.{Label}
use Rattle.model_core.specs.declared.command.Command.TheVariants.{Copy, Load}
use Rattle.model_core.specs.declared.entry.Entry.{Entry}
use Rattle.model_core.specs.declared.graph.Value.{Value}
use Rattle.model_core.specs.declared.graph.Value.TheVariants.{Int, Block, Nothing}
use Rattle.model_core.specs.declared.reply.Reply.{Reply}
use Rattle.model_core.specs.declared.reply.Reply.TheVariants as reply
use Rattle.model_core.specs.declared.state.Sizes.{Sizes}
use Rattle.model_core.specs.Commands.{shown}
use Rattle.model_core.specs.Domains.{IsWithinLimits}
use Rattle.model_core.specs.History.{IsPrefix}
use Rattle.weak_laws.specs.Tables.Stages.{graph_of}
use Rattle.weak_laws.proofs.OfTables.StageLemmas.{prefix_trans}
use Rattle.weak_laws.specs.Maps.Tries.{IsInPlace, IsMap, number_of, root_width}
use Rattle.weak_laws.specs.Maps.Steps.{OthersRespect}
use Rattle.weak_laws.specs.Maps.Calls.{PerformedBy, PutsOrFull}
use Rattle.weak_maps.specs.Beside.{held_by}
use Rattle.weak_maps.specs.Guards.{Guards, SettleGuards}
use Rattle.weak_maps.specs.Puts.{Arrived, FindsField, GoesOn, KeepsLeaf, LeafMade, LeafRefused, Putting}
use Rattle.weak_maps.specs.Walks.{OwnQuiet}
use Rattle.weak_maps.proofs.GetLemmas.{grows_by}
use Rattle.weak_maps.proofs.GuardLemmas.{guards_quiet, guards_then, guards_twice}
use Rattle.weak_maps.specs.Frames.{Stays}
use Rattle.weak_maps.proofs.MachineLemmas.{field_at, keeps_at}
use Rattle.weak_maps.proofs.StayLemmas.{prefix_same, respects_within}
use Rattle.weak_maps.proofs.TryLemmas.{put_arrives, put_begins}
use Rattle.weak_direct.specs.Leaves.{StopLeaves, TakeLeaves}
use Rattle.weak_direct.specs.Frames.{Looks}
use Rattle.weak_direct.specs.Puts.{LeafStops, PutReturns, SettleCounts, Settles, SettleStops, TryCounts}
use Rattle.weak_direct.specs.Tries.{KeepsBeside, ReadsRoot}
use Rattle.weak_direct.proofs.FrameLemmas.{performed_on, stays_on}
use Rattle.weak_direct.proofs.PutLemmas.{goes_over, goes_stops}

-- no label is in the register of the key
pub not_put : (z : Sizes) (d : ℕ) (old new : List Entry) (root : Label) (v w : Value) → new ≡ old → ((k : Label) → shown v ≡ reply.Block k → ⊥) → PutReturns z d old new root v w reply.BadType
not_put z d old new root (Int i) (Int a) same none = (refl, same)
not_put z d old new root (Int i) (Block l) same none = (refl, same)
not_put z d old new root (Int i) Nothing same none = (refl, same)
not_put z d old new root (Block l) w same none = absurd (none l refl)
not_put z d old new root Nothing (Int a) same none = (refl, same)
not_put z d old new root Nothing (Block l) same none = (refl, same)
not_put z d old new root Nothing Nothing same none = (refl, same)

-- or nothing in that of the datum
pub none_put : (z : Sizes) (d : ℕ) (old new : List Entry) (root : Label) (v w : Value) → new ≡ old → shown w ≡ reply.Empty → PutReturns z d old new root v w reply.BadType
none_put z d old new root v (Int a) same none = cc
none_put z d old new root v (Block l) same none = cc
none_put z d old new root (Int i) Nothing same none = (refl, same)
none_put z d old new root (Block k) Nothing same none = (refl, same)
none_put z d old new root Nothing Nothing same none = (refl, same)

pub put_held : (z : Sizes) (d : ℕ) (old new : List Entry) (root : Label) (v w : Value) (k : Label) (r : Reply) → v ≡ Block k → w ≢ Nothing → PutsOrFull z root d old new k w r × TakeLeaves z d old new root → IsInPlace z.domains (graph_of z new) root → PutReturns z d old new root v w r
put_held z d old new root v w k r held some x placed = subst (λ (u : Value). PutReturns z d old new root u w r) (sym held) (of w some x)
  where
    of : (u : Value) → u ≢ Nothing → PutsOrFull z root d old new k u r × TakeLeaves z d old new root → PutReturns z d old new root (Block k) u r
    of (Int a) is y = (y.0, y.1, placed)
    of (Block l) is y = (y.0, y.1, placed)
    of Nothing is y = absurd (is refl)

-- what is known of a reply, where there is one
pub some_with : (P Q R S : Reply → Type 0) (o : Option Reply) → ((r : Reply) → P r → Q r → R r → S r) → IfSome o P → IfSome o Q → IfSome o R → IfSome o S
some_with P Q R S None then x y w = tt
some_with P Q R S (Some r) then x y w = then r x y w

-- the counts of the end of a try that is done, and of one that was refused room
pub done_counts : (labels left refused now : ℕ) (r : Reply) → r ≡ reply.Done → now ≡ refused → left ≡ labels → SettleCounts labels left refused now r
done_counts labels left refused now r is none same = subst (SettleCounts labels left refused now) (sym is) (none, sym same)

pub full_counts : (labels left refused now : ℕ) (r : Reply) → r ≡ reply.Full → now ≡ refused + 1 → labels ≡ left → SettleCounts labels left refused now r
full_counts labels left refused now r is more same = subst (SettleCounts labels left refused now) (sym is) (more, same)

-- and of the whole try, for which one leaf was made
pub try_counts : (labels given left refused then now : ℕ) (r : Reply) → labels ≡ given + 1 → then ≡ refused → SettleCounts given left then now r → TryCounts labels left refused now r
try_counts labels given left refused then now reply.Done one same x = (omega (arith, same, x.0), omega (arith, one, x.1))
try_counts labels given left refused then now reply.Full one same x = (omega (arith, same, x.0), omega (arith, one, x.1), omega (arith, one, x.1))
try_counts labels given left refused then now _ one same x = absurd x

-- as a domain tells it before one of its numbers was seen to be the same
pub leaf_stops_at : (z now : Sizes) (d e : ℕ) (old first new : List Entry) (key item : ℕ) → now ≡ z → e ≡ d → first ≡ old → LeafStops now e first new key item → LeafStops z d old new key item
leaf_stops_at z now d e old first new key item sizes domain front x = subst (λ (w : Sizes × ℕ × List Entry). LeafStops w.0 w.1 w.2 new key item) (λ i. (sizes i, domain i, front i)) x

pub settled_at : (z now : Sizes) (d e : ℕ) (old new : List Entry) (k : Label) (i rest level : ℕ) (other : Option Label) (r : Reply) → now ≡ z → e ≡ d → Settles now e old new k i rest level other r → Settles z d old new k i rest level other r
settled_at z now d e old new k i rest level other r sizes domain x = subst (λ (w : Sizes × ℕ). Settles w.0 w.1 old new k i rest level other r) (λ j. (sizes j, domain j)) x

pub settle_stops_at : (z now : Sizes) (d e : ℕ) (old new : List Entry) (k : Label) (i rest level : ℕ) (other : Option Label) → now ≡ z → e ≡ d → SettleStops now e old new k i rest level other → SettleStops z d old new k i rest level other
settle_stops_at z now d e old new k i rest level other sizes domain x = subst (λ (w : Sizes × ℕ). SettleStops w.0 w.1 old new k i rest level other) (λ j. (sizes j, domain j)) x

module _ (z : Sizes) (root : Label) (d : ℕ) (old n0 new : List Entry) (grows : IsPrefix n0 new) (quiet : OwnQuiet z d n0 new) where
  -- behind a stretch that has changed no binding, no block is changed
  over_leaf : (OthersRespect z root d old n0 → GoesOn z root d old n0) → OthersRespect z root d old new → GoesOn z root d old new
  over_leaf on respects = goes_over z root d old n0 new (on (respects_within z root d old new old n0 (prefix_same old) grows respects)) grows quiet respects

  -- the leaf was refused
  pub refused_answer : (k : Label) (v : Value) → (OthersRespect z root d old n0 → LeafRefused z d old n0 root) → KeepsBeside z d old new → OthersRespect z root d old new → PutsOrFull z root d old new k v reply.Full × TakeLeaves z d old new root
  refused_answer k v refused keeps respects = let x = over_leaf (λ e. (refused e).on) respects in (inr (refl, x.looks), record { map = x.map; within = x.within; keeps = keeps })

  -- it was made
  pub leaf_stops : (k : Label) (v : Value) → (OthersRespect z root d old n0 → LeafMade z d old n0 root k v) → OthersRespect z root d old new → StopLeaves z d old new root
  leaf_stops k v leaf respects = goes_stops z root d old new (over_leaf (λ e. (leaf e).on) respects)

  pub tail_guards : Guards z root d old old n0 → Guards z root d old old new
  tail_guards guards = guards_twice z root d old old n0 new grows guards (guards_quiet z root d old n0 new quiet)

module _ (z : Sizes) (limits : IsWithinLimits z) (root : Label) (d : ℕ) (old : List Entry) (k : Label) (v : Value) (kr : ℕ) (few : kr < 8) (key : held_by z d old kr ≡ Block k) (map : IsMap (graph_of z old) root) (placed : IsInPlace z.domains (graph_of z old) root)
    (n0 n1 n2 n3 : List Entry) (leaf : OthersRespect z root d old n0 → LeafMade z d old n0 root k v) (r1 r2 : Reply) (mr : ℕ) (few_map : mr < 8) (held : held_by z d old mr ≡ Block root) (i rest : ℕ) (first : i ≡ number_of z.domains k % root_width) (left : rest ≡ number_of z.domains k / root_width)
    (p1 : PerformedBy z d n0 n1 (Copy 8 mr) r1) (p2 : PerformedBy z d n1 n2 (Load 9 8 i) r2) (i2 rest2 steps : ℕ) (found other : Option Label) (is : found ≡ other) (finds : FindsField z d n2 n3 kr k i rest r2 i2 rest2 steps found) (own : KeepsLeaf z d n2 n3 kr k i rest r2) (grows : IsPrefix n2 n3) where
  -- the root's field was read
  putting : OthersRespect z root d old n2 → Putting z d old n2 root k v i rest r2 0
  putting respects =
      let begins = respects_within z root d old n2 old n0 (prefix_same old) (prefix_trans n0 n1 n2 (grows_by z d n0 n1 (Copy 8 mr) r1 p1) (grows_by z d n1 n2 (Load 9 8 i) r2 p2)) respects in
      subst (λ (w : ℕ × ℕ). Putting z d old n2 root k v w.0 w.1 r2 0) (λ j. (sym first j, sym left j))
      (put_begins z limits root d old k v kr few key n0 n1 n2 r1 r2 mr few_map held (leaf begins) p1 (subst (λ (n : ℕ). PerformedBy z d n1 n2 (Load 9 8 n) r2) first p2) respects)

  -- the search has come to the field at which the key's way ends
  arrived : OthersRespect z root d old n3 → Arrived z d old n3 root k v i2 rest2 steps other
  arrived respects =
      let exact : 0 + steps ≡ steps = omega arith in
      subst (λ (w : ℕ × Option Label). Arrived z d old n3 root k v i2 rest2 w.0 w.1) (λ j. (exact j, is j))
      (put_arrives z limits root d old k v kr few key n2 n3 i rest i2 rest2 0 steps r2 found (putting (respects_within z root d old n3 old n2 (prefix_same old) grows respects)) finds own grows respects)

-- a put that has made a leaf, has read the root's field and has searched has come to the field at which its key's way ends
pub arrived_by : {M H : Type 0} {z : M → Sizes} {d : M → ℕ} {of : M → H} {front : M → List Entry} {labels_left ephes_room : M → ℕ} {m a b e : M}
    → Stays z d of m a → Looks z d of front labels_left ephes_room a b → Looks z d of front labels_left ephes_room b e → IsWithinLimits (z m) → (root k : Label) (v : Value) (kr : ℕ) → kr < 8 → held_by (z m) (d m) (front m) kr ≡ Block k → IsMap (graph_of (z m) (front m)) root → IsInPlace (z m).domains (graph_of (z m) (front m)) root
    → (OthersRespect (z m) root (d m) (front m) (front a) → LeafMade (z m) (d m) (front m) (front a) root k v) → (mr : ℕ) → mr < 8 → held_by (z m) (d m) (front m) mr ≡ Block root
    → (domains number i rest : ℕ) → domains ≡ (z a).domains → number ≡ number_of domains k → i ≡ number % root_width → rest ≡ number / root_width → (r : Reply) → ReadsRoot (z a) (d a) (front a) (front b) mr i r → (i2 rest2 steps : ℕ) (other : Option Label) → FindsField (z b) (d b) (front b) (front e) kr k i rest r i2 rest2 steps other → KeepsLeaf (z b) (d b) (front b) (front e) kr k i rest r
    → OthersRespect (z m) root (d m) (front m) (front e) → Arrived (z m) (d m) (front m) (front e) root k v i2 rest2 steps other
arrived_by {z = z} {d = d} {front = front} {m = m} {a = a} {b = b} {e = e} stays read search limits root k v kr few key map placed leaf mr few_map held domains number i rest domains_is number_is index_is rest_is r reads i2 rest2 steps other finds own =
    let same = number_is ∙ ap (λ (n : ℕ). number_of n k) (domains_is ∙ ap (λ (y : Sizes). y.domains) stays.sizes) in
    let there = stays_on stays read.goes.keeps.stays in
    arrived (z m) limits root (d m) (front m) k v kr few key map placed (front a) reads.brought (front b) (front e) leaf reads.reply r mr few_map held i rest (index_is ∙ ap (λ (n : ℕ). n % root_width) same) (rest_is ∙ ap (λ (n : ℕ). n / root_width) same)
    (performed_on stays reads.root) (performed_on stays reads.field) i2 rest2 steps other other refl (field_at (z m) (z b) (d m) (d b) (front b) (front e) kr k i rest r i2 rest2 steps other there.sizes there.domain finds)
    (keeps_at (z m) (z b) (d m) (d b) (front b) (front e) kr k i rest r there.sizes there.domain own) search.goes.passes.grows

-- behind a stretch in which a map was guarded, it is while a put tries a field, if it has come there
pub settled_guards : (z : Sizes) (root : Label) (d : ℕ) (old now new : List Entry) → IsPrefix now new → Guards z root d old old now → (OthersRespect z root d old now → Guards z root d old now new) → Guards z root d old old new
settled_guards z root d old now new grows begun then = guards_twice z root d old old now new grows begun (guards_then z root d old now new then)
