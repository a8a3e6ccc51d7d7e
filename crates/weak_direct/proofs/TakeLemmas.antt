-- What `map_take` answers and leaves, and what it leaves where it stops.
use Rattle.std.proofs.Common.{◌≡◌, ℕ, ◌<◌, Bool, true, false, List, inl, inr, refl, sym, subst, ◌∙◌}
use Rattle.model_core.specs.declared.label.Label.{Label}
use Rattle.model_core.specs.declared.command.Command.TheVariants.{Cas}
use Rattle.model_core.specs.declared.entry.Entry.{Entry}
use Rattle.model_core.specs.declared.reply.Reply.{Reply}
use Rattle.model_core.specs.declared.reply.Reply.TheVariants as reply
use Rattle.model_core.specs.declared.graph.Value.{Value}
use Rattle.model_core.specs.declared.graph.Value.TheVariants.{Int, Block, Nothing}
use Rattle.model_core.specs.declared.state.Sizes.{Sizes}
use Rattle.model_core.specs.Domains.{IsWithinLimits}
use Rattle.model_core.specs.Commands.{shown}
use Rattle.model_core.specs.History.{IsPrefix}
use Rattle.weak_laws.proofs.OfTables.StageLemmas.{prefix_trans}
use Rattle.weak_laws.specs.Maps.Steps.{OthersRespect}
use Rattle.weak_laws.specs.Maps.Calls.{PerformedBy}
use Rattle.weak_laws.proofs.OfMaps.WithinLemmas.{within_twice}
use Rattle.weak_maps.specs.Beside.{held_by}
use Rattle.weak_maps.specs.Fields.{Finds, Taking}
use Rattle.weak_maps.specs.Guards.{Guards}
use Rattle.weak_maps.specs.Walks.{Looking, OwnQuiet}
use Rattle.weak_maps.proofs.BesideLemmas.{low_beside}
use Rattle.weak_maps.proofs.GetLemmas.{grows_by}
use Rattle.weak_maps.proofs.GuardLemmas.{guards_since, guards_twice, quiet_twice}
use Rattle.weak_maps.proofs.MachineLemmas.{finds_at}
use Rattle.weak_maps.proofs.StayLemmas.{looking_from, prefix_same, quiet_looks, respects_within, within_quiet}
use Rattle.weak_maps.proofs.TakeLemmas.{cas_lost, cas_won, found_from, take_guards}
use Rattle.weak_direct.specs.Leaves.{StopLeaves, StopsAt, TakeReturns}
use Rattle.weak_direct.specs.Frames.{Goes, Looks}
use Rattle.weak_direct.specs.Tries.{KeepsBeside}
use Rattle.weak_direct.proofs.FrameLemmas.{goes_on, guards_on, performed_on}
use Rattle.weak_direct.proofs.LookLemmas.{looking_over}

-- a call that changed no block has changed no binding, and has written none
quiet_leaves : (z : Sizes) (root : Label) (d : ℕ) (old new : List Entry) → OwnQuiet z d old new → StopLeaves z d old new root
quiet_leaves z root d old new quiet = record { keeps = (quiet_looks z root d old new quiet).keeps; within = within_quiet z root d old old new quiet }

pub quiet_stops : (z : Sizes) (d : ℕ) (old new : List Entry) (map : ℕ) → OwnQuiet z d old new → StopsAt z d old new map
quiet_stops z d old new map quiet root held is_map respects = quiet_leaves z root d old new quiet

-- nor has one that had changed none when it came to a stretch that changes no block
pub looking_stops : (z : Sizes) (root : Label) (d : ℕ) (old now new : List Entry) → (OthersRespect z root d old now → Looking z root d old now) → IsPrefix now new → OwnQuiet z d now new → OthersRespect z root d old new → StopLeaves z d old new root
looking_stops z root d old now new looking grows quiet respects =
    let x = looking (respects_within z root d old new old now (prefix_same old) grows respects) in
    quiet_leaves z root d old new (quiet_twice z d old now new grows x.quiet quiet)

pub not_taken : (z : Sizes) (d : ℕ) (old new : List Entry) (root : Label) (v : Value) → new ≡ old → ((k : Label) → shown v ≡ reply.Block k → ⊥) → TakeReturns z d old new root v reply.BadType
not_taken z d old new root (Int i) same none = (refl, same)
not_taken z d old new root (Block l) same none = absurd (none l refl)
not_taken z d old new root Nothing same none = (refl, same)

pub taken_at : (z : Sizes) (d : ℕ) (old new : List Entry) (root : Label) (v : Value) (k : Label) (r : Reply) → v ≡ Block k → TakeReturns z d old new root (Block k) r → TakeReturns z d old new root v r
taken_at z d old new root v k r held x = subst (λ (w : Value). TakeReturns z d old new root w r) (sym held) x

module _ (z : Sizes) (limits : IsWithinLimits z) (root : Label) (d : ℕ) (old : List Entry) (k : Label) (kr : ℕ) (few : kr < 8) (key : held_by z d old kr ≡ Block k) where
  -- the key wasn't bound
  pub take_missed : (now n0 new : List Entry) (i rest i2 rest2 : ℕ) (s : Reply) → Finds z d now n0 kr k i rest s i2 rest2 false → (OthersRespect z root d old now → Taking z d old now root k i rest s) → IsPrefix now n0 → IsPrefix n0 new → OwnQuiet z d n0 new → KeepsBeside z d old new
      → OthersRespect z root d old new → TakeReturns z d old new root (Block k) reply.Empty
  take_missed now n0 new i rest i2 rest2 s finds taking grows later quiet keeps respects =
      let f = found_from z limits root d old k kr few key now n0 i rest i2 rest2 s false finds taking grows (respects_within z root d old new old n0 (prefix_same old) later respects) in
      let looking = looking_over z root d old n0 new later quiet respects f.0 in (
        inr (refl, record { looks = quiet_looks z root d old new looking.quiet; front = f.3.front; since = f.3.since; until = prefix_trans f.3.front n0 new f.3.until later; bound = f.3.bound }),
        record { map = looking.map; within = within_quiet z root d old old new looking.quiet; keeps = keeps },
      )

  -- the exchange was made
  pub take_done : (now n0 n1 new : List Entry) (i rest i2 rest2 : ℕ) (s r : Reply) → Finds z d now n0 kr k i rest s i2 rest2 true → (OthersRespect z root d old now → Taking z d old now root k i rest s) → IsPrefix now n0 → PerformedBy z d n0 n1 (Cas 8 i2 9 10) r → r ≡ reply.Yes
      → IsPrefix n1 new → OwnQuiet z d n1 new → KeepsBeside z d old new → OthersRespect z root d old new → TakeReturns z d old new root (Block k) reply.Done
  take_done now n0 n1 new i rest i2 rest2 s r finds taking grows p is later quiet keeps respects =
      let g1 = grows_by z d n0 n1 (Cas 8 i2 9 10) r p in
      let e1 = respects_within z root d old new old n1 (prefix_same old) later respects in
      let f = found_from z limits root d old k kr few key now n0 i rest i2 rest2 s true finds taking grows (respects_within z root d old new old n0 (prefix_same old) (prefix_trans n0 n1 new g1 later) respects) in
      let m = f.3 in
      let won = cas_won z limits root d old k m.front n0 n1 r i2 rest2 m.shows m.datum kr p e1 f.0 m.field m.leaf (f.1 kr (low_beside kr few) ∙ key) f.2 is in
      let tail = respects_within z root d old new n1 new (prefix_trans old n0 n1 f.0.grows g1) (prefix_same new) respects in
      let looking = looking_over z root d n1 n1 new later quiet tail (looking_from z root d n1 won.0) in (
        inl (refl, (m.datum, won.1 new looking)),
        record { map = looking.map; within = within_twice z root d old old n0 new (prefix_trans n0 n1 new g1 later) (within_quiet z root d old old n0 f.0.quiet) (within_twice z root d old n0 n1 new later (won.3 old) (within_quiet z root d old n1 new looking.quiet)); keeps = keeps },
      )

  -- or it wasn't: no block was changed
  pub lost_looking : (now n0 n1 : List Entry) (i rest i2 rest2 : ℕ) (s r : Reply) → Finds z d now n0 kr k i rest s i2 rest2 true → (OthersRespect z root d old now → Taking z d old now root k i rest s) → IsPrefix now n0 → PerformedBy z d n0 n1 (Cas 8 i2 9 10) r → (r ≡ reply.Yes → ⊥)
      → OthersRespect z root d old n1 → Looking z root d old n1
  lost_looking now n0 n1 i rest i2 rest2 s r finds taking grows p other e1 =
      let g1 = grows_by z d n0 n1 (Cas 8 i2 9 10) r p in
      let f = found_from z limits root d old k kr few key now n0 i rest i2 rest2 s true finds taking grows (respects_within z root d old n1 old n0 (prefix_same old) g1 e1) in
      let m = f.3 in
      (cas_lost z limits root d old k m.front n0 n1 r i2 rest2 m.shows m.datum kr p e1 f.0 m.field m.leaf (f.1 kr (low_beside kr few) ∙ key) f.2 other).0

-- a field was found that held the key, and was written or not, as the first domain tells it
pub exchanged : {M H : Type 0} {z : M → Sizes} {d : M → ℕ} {of : M → H} {front : M → List Entry} {labels_left ephes_room : M → ℕ} {a b c e : M} → Goes z d of front labels_left ephes_room a b → Looks z d of front labels_left ephes_room b c → Goes z d of front labels_left ephes_room c e
    → (kr : ℕ) (k : Label) (i rest i2 rest2 : ℕ) (s r : Reply) (mine : Bool) → mine ≡ true → Finds (z b) (d b) (front b) (front c) kr k i rest s i2 rest2 mine → PerformedBy (z c) (d c) (front c) (front e) (Cas 8 i2 9 10) r
    → Finds (z a) (d a) (front b) (front c) kr k i rest s i2 rest2 true × PerformedBy (z a) (d a) (front c) (front e) (Cas 8 i2 9 10) r
exchanged {z = z} {d = d} {front = front} {a = a} {b = b} {c = c} goes looks cas kr k i rest i2 rest2 s r mine is finds performed =
    let stays = goes.keeps.stays in
    (finds_at (z a) (z b) (d a) (d b) (front b) (front c) kr k i rest s i2 rest2 true mine stays.sizes stays.domain is finds, performed_on (goes_on goes looks.goes).keeps.stays performed)

-- a try of a take: a field was found that held the key, it was written or not, and no block was written behind
pub guards_tried : {M H : Type 0} {z : M → Sizes} {d : M → ℕ} {of : M → H} {front : M → List Entry} {labels_left ephes_room : M → ℕ} {a b c e f : M} → Goes z d of front labels_left ephes_room a b
    → Looks z d of front labels_left ephes_room b c → Goes z d of front labels_left ephes_room c e → Looks z d of front labels_left ephes_room e f → IsWithinLimits (z a) → (root k : Label) (kr : ℕ) → kr < 8 → held_by (z a) (d a) (front a) kr ≡ Block k → (i rest i2 rest2 : ℕ) (s r : Reply) (mine : Bool)
    → mine ≡ true → Finds (z b) (d b) (front b) (front c) kr k i rest s i2 rest2 mine → PerformedBy (z c) (d c) (front c) (front e) (Cas 8 i2 9 10) r
    → Guards (z a) root (d a) (front a) (front a) (front b) → (OthersRespect (z a) root (d a) (front a) (front b) → Taking (z a) (d a) (front a) (front b) root k i rest s) → Guards (z a) root (d a) (front a) (front a) (front f)
guards_tried {z = z} {d = d} {front = front} {a = a} {b = b} {c = c} {e = e} goes looks cas last limits root k kr few key i rest i2 rest2 s r mine is finds performed guards taking =
    let stays = goes.keeps.stays in
    let found = goes_on goes looks.goes in
    let t = exchanged goes looks cas kr k i rest i2 rest2 s r mine is finds performed in
    let own = take_guards (z a) limits root (d a) (front a) k kr few key (front b) (front c) (front e) i rest i2 rest2 s r t.0 taking looks.goes.passes.grows t.1 in
    let tried = guards_since (z a) root (d a) (front a) (front c) (front e) (Cas 8 i2 9 10) r t.1 found.passes.grows own in
    guards_on (goes_on found cas).keeps.stays (guards_twice (z a) root (d a) (front a) (front a) (front c) (front e) cas.passes.grows (guards_on stays guards looks) tried) last
