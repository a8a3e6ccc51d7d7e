-- While others respect a map it is a map still, its blocks stand where they stood, and a leaf that was met tells of a key what it told.
use Rattle.std.proofs.Common.{◌≡◌, inl, inr, ⊎_elim, ℕ, List, [], ◌∷◌, ◌++◌, length, get_or, Option, Some, None, refl, ap, sym, ◌∙◌, subst, append_assoc, append-nil, length-append, arith}
use Rattle.model_core.specs.declared.label.Label.{Label}
use Rattle.model_core.specs.declared.command.Command.{Command}
use Rattle.model_core.specs.declared.entry.Entry.{Entry}
use Rattle.model_core.specs.declared.entry.Entry.TheVariants.{Command as CommandOf}
use Rattle.model_core.specs.declared.reply.Reply.{Reply}
use Rattle.model_core.specs.declared.graph.Value.{Value}
use Rattle.model_core.specs.declared.graph.Value.TheVariants.{Block, Nothing}
use Rattle.model_core.specs.declared.graph.Node.{Node}
use Rattle.model_core.specs.declared.graph.Node.TheVariants.{Ephe}
use Rattle.model_core.specs.declared.state.Sizes.{Sizes}
use Rattle.model_core.specs.declared.state.State.{State}
use Rattle.model_core.specs.Graph.{Graph, node_at}
use Rattle.model_core.specs.Domains.{register, opening}
use Rattle.model_core.specs.Entries.{next}
use Rattle.model_core.specs.Fronts.{NoneOf}
use Rattle.model_core.specs.History.{IsPrefix}
use Rattle.model_core.proofs.Commands.FrameLemmas.{keeps_next}
use Rattle.model_core.proofs.Histories.FrontLemmas.{none_cons}
use Rattle.model_core.proofs.Histories.HistoryLemmas.{state_after-push}
use Rattle.weak_laws.specs.Tables.Thinning.{IsOutside, Thin, state_of}
use Rattle.weak_laws.specs.Tables.Stages.{graph_of}
use Rattle.weak_laws.proofs.OfTables.ChangeLemmas.{thin_is}
use Rattle.weak_laws.proofs.OfTables.CollectorLemmas.{outside_unheld}
use Rattle.weak_laws.proofs.OfTables.StageLemmas.{prefix_trans}
use Rattle.weak_laws.specs.Maps.Tries.{at, inside, found, is_leaf, IsMap}
use Rattle.weak_laws.specs.Maps.Steps.{MapStep, Untouched, OthersRespect, RespectsMap, SparesLeaves}
use Rattle.weak_laws.specs.Maps.Calls.{Looks, PerformedBy}
use Rattle.weak_laws.specs.Maps.Within.{IsMadeBehind, OwnWithin}
use Rattle.weak_laws.proofs.OfMaps.MapLemmas.{map_stays, places_stay, plain_stays}
use Rattle.weak_laws.proofs.OfMaps.WithinLemmas.{within_same}
use Rattle.weak_maps.specs.Beside.{held_by}
use Rattle.weak_maps.specs.Fields.{AtField, MapStays}
use Rattle.weak_maps.specs.Walks.{LeafTells, Looking, OwnQuiet}
use Rattle.weak_maps.proofs.BesideLemmas.{since_old, until_new}
use Rattle.weak_maps.proofs.EntryLemmas.{own_entry}

pub prefix_same : (h : List Entry) → IsPrefix h h
prefix_same h = record { rest = []; appends = sym (append-nil h) }

pub respects_within : (z : Sizes) (root : Label) (d : ℕ) (old new later earlier : List Entry) → IsPrefix old later → IsPrefix earlier new → OthersRespect z root d old new → OthersRespect z root d later earlier
respects_within z root d old new later earlier after before respects front e since until other = respects front e (prefix_trans old later front after since) (prefix_trans (front ++ e ∷ []) earlier new until before) other

pub others_stay : (z : Sizes) (root : Label) (d : ℕ) (now between : List Entry) → NoneOf d between → IsMap (graph_of z now) root → OthersRespect z root d now (now ++ between) → MapStays z root now (now ++ between)
others_stay z root d now [] none map respects = subst (λ (h : List Entry). MapStays z root now h) (sym (append-nil now)) (record { map = map; block = λ q u fields there plain. (there, (fields, plain)) })
others_stay z root d now (e ∷ more) none map respects =
    let parts = none_cons d e more none in
    let whole : (now ++ e ∷ []) ++ more ≡ now ++ e ∷ more = append_assoc now (e ∷ []) more in
    let step : MapStep z.domains root (state_of z now) e = (respects now e (prefix_same now) (record { rest = more; appends = sym whole }) parts.0).step in
    let there : state_of z (now ++ e ∷ []) ≡ next (state_of z now) e = state_after-push (opening z) now e in
    let map_next : IsMap (graph_of z (now ++ e ∷ [])) root = subst (λ (t : State). IsMap t.graph root) (sym there) (map_stays z.domains root (state_of z now) e map step) in
    let rest : MapStays z root (now ++ e ∷ []) ((now ++ e ∷ []) ++ more) = others_stay z root d (now ++ e ∷ []) more parts.1 map_next
    (respects_within z root d now (now ++ e ∷ more) (now ++ e ∷ []) ((now ++ e ∷ []) ++ more) (record { rest = e ∷ []; appends = refl }) (record { rest = []; appends = sym whole ∙ sym (append-nil ((now ++ e ∷ []) ++ more)) }) respects) in
    subst (λ (h : List Entry). MapStays z root now h) whole
    (record {
      map = rest.map;
      block = λ q u fields at_now plain.
          let place = places_stay z.domains root (state_of z now) e map step q u fields at_now plain in
          let left = plain_stays z.domains root (state_of z now) e map step q u fields at_now plain in
          rest.block q u left.0 (subst (λ (t : State). at (inside t.graph) q (Block root) ≡ Some u) (sym there) place) (subst (λ (t : State). inside t.graph u ≡ Some left.0) (sym there) left.1);
    })

-- what a leaf tells of a key that isn't taken
tells_on : (P : Label → Type 0) (g h : Graph) (l k : Label) (o : Option Value) → (P k → ⊥) → ((n : Node) → node_at g l ≡ Some n → Thin P n (node_at h l)) → LeafTells g l k o → LeafTells h l k o
tells_on P g h l k (Some datum) stays thins tells = go (thins _ tells)
  where
    go : Thin P (Ephe (Some k ∷ []) datum) (node_at h l) → node_at h l ≡ Some (Ephe (Some k ∷ []) datum)
    go (inl same) = same
    go (inr (j, is, gone, empty)) = absurd (stays (let same : k ≡ j = cc in subst P (sym same) gone))
tells_on P g h l k None stays thins (key, datum, other, is) = go (thins _ is)
  where
    go : Thin P (Ephe (key ∷ []) datum) (node_at h l) → LeafTells h l k None
    go (inl same) = (key, datum, other, same)
    go (inr (j, full, gone, empty)) = (None, Nothing, (λ e. cc), empty)

pub leaf_stays : (z : Sizes) (root : Label) (d : ℕ) (now between : List Entry) → NoneOf d between → OthersRespect z root d now (now ++ between) → (former : List Entry) (p : List ℕ) (l k : Label) (o : Option Value) (r : ℕ) → IsPrefix former now
    → at (inside (graph_of z former)) p (Block root) ≡ Some (Block l) → is_leaf (node_at (graph_of z former) l) → held_by z d now r ≡ Block k → LeafTells (graph_of z now) l k o → LeafTells (graph_of z (now ++ between)) l k o
leaf_stays z root d now [] none respects former p l k o r before there leaf held tells = subst (λ (h : List Entry). LeafTells (graph_of z h) l k o) (sym (append-nil now)) tells
leaf_stays z root d now (e ∷ more) none respects former p l k o r before there leaf held tells =
    let parts = none_cons d e more none in
    let whole : (now ++ e ∷ []) ++ more ≡ now ++ e ∷ more = append_assoc now (e ∷ []) more in
    let spares : SparesLeaves z root now e = (respects now e (prefix_same now) (record { rest = more; appends = sym whole }) parts.0).leaves in
    let next_is : state_of z (now ++ e ∷ []) ≡ next (state_of z now) e = state_after-push (opening z) now e in
    let held_next : held_by z d (now ++ e ∷ []) r ≡ Block k = ap (λ (t : State). register t d r) next_is ∙ (ap (λ (rs : List Value). get_or rs r Nothing) (keeps_next (state_of z now) e d parts.0).registers ∙ held) in
    let tells_next : LeafTells (graph_of z (now ++ e ∷ [])) l k o = subst (λ (t : State). LeafTells t.graph l k o) (sym next_is)
    (tells_on (IsOutside (state_of z now)) (graph_of z now) (next (state_of z now) e).graph l k o (λ gone. outside_unheld (state_of z now) k gone d r held) (λ n is. spares former p l n before there leaf is) tells) in
    subst (λ (h : List Entry). LeafTells (graph_of z h) l k o) whole
    (leaf_stays z root d (now ++ e ∷ []) more parts.1
    (respects_within z root d now (now ++ e ∷ more) (now ++ e ∷ []) ((now ++ e ∷ []) ++ more) (record { rest = e ∷ []; appends = refl }) (record { rest = []; appends = sym whole ∙ sym (append-nil ((now ++ e ∷ []) ++ more)) }) respects)
    former p l k o r (prefix_trans former now (now ++ e ∷ []) before (record { rest = e ∷ []; appends = refl })) there leaf held_next tells_next)

-- an entry that leaves the graph respects each map
pub quiet_respects : (z : Sizes) (root : Label) (front : List Entry) (e : Entry) → (next (state_of z front) e).graph ≡ graph_of z front → RespectsMap z root front e
quiet_respects z root front e same = record {
  step = Untouched (λ p l there. ap (λ (g : Graph). node_at g l) same);
  leaves = λ former p l n before there leaf is. thin_is (IsOutside (state_of z front)) n (node_at (next (state_of z front) e).graph l) (ap (λ (g : Graph). node_at g l) same ∙ is);
}

-- up to a command of the domain
pub stays_middle : (z : Sizes) (root : Label) (d : ℕ) (first now new : List Entry) (c : Command) (r : Reply) (p : PerformedBy z d now new c r) → OthersRespect z root d first new → IsPrefix first now → IsMap (graph_of z now) root → MapStays z root now (now ++ p.between)
stays_middle z root d first now new c r p respects grows map = others_stay z root d now p.between p.others map (respects_within z root d first new now (now ++ p.between) grows (until_new z d now new c r p) respects)

pub leaf_middle : (z : Sizes) (root : Label) (d : ℕ) (first now new : List Entry) (c : Command) (r : Reply) (p : PerformedBy z d now new c r) → OthersRespect z root d first new → IsPrefix first now → (k : Label) (o : Option Value) (i : ℕ) (l : Label) (former : List Entry) (way : List ℕ)
    → IsPrefix former now → at (inside (graph_of z former)) way (Block root) ≡ Some (Block l) → is_leaf (node_at (graph_of z former) l) → held_by z d now i ≡ Block k → LeafTells (graph_of z now) l k o → LeafTells (graph_of z (now ++ p.between)) l k o
leaf_middle z root d first now new c r p respects grows k o i l former way before there leaf held tells =
    leaf_stays z root d now p.between p.others (respects_within z root d first new now (now ++ p.between) grows (until_new z d now new c r p) respects) former way l k o i before there leaf held tells

-- a command of the domain's own that changes no block, behind others' entries
module _ (z : Sizes) (root : Label) (d : ℕ) (first now new : List Entry) (c : Command) (r : Reply) (p : PerformedBy z d now new c r) (same : graph_of z new ≡ graph_of z (now ++ p.between)) where
  pub quiet_on : OwnQuiet z d first now → OwnQuiet z d first new
  quiet_on quiet front e since until mine = ⊎_elim (λ early. quiet front e since early mine)
      (λ is. subst (λ (w : List Entry × Entry). graph_of z (w.0 ++ w.1 ∷ []) ≡ graph_of z w.0) (λ i. (sym is.0 i, sym is.1 i)) (ap (graph_of z) (sym p.appends) ∙ same))
      (own_entry d now p.between (CommandOf d c p.full) front e p.others (subst (IsPrefix (front ++ e ∷ [])) p.appends until) mine)

  pub looking_on : OthersRespect z root d first new → Looking z root d first now → Looking z root d first new
  looking_on respects x = record {
    quiet = quiet_on x.quiet;
    grows = prefix_trans first now new x.grows (prefix_trans now (now ++ p.between) new (since_old z d now new c r p) (until_new z d now new c r p));
    map = subst (λ (g : Graph). IsMap g root) (sym same) (stays_middle z root d first now new c r p respects x.grows x.map).map;
  }

-- before the first command
pub no_entry : (first front : List Entry) (e : Entry) → IsPrefix first front → IsPrefix (front ++ e ∷ []) first → ⊥
no_entry first front e since until =
    let one = length-append front (e ∷ []) in
    let more = length-append (front ++ e ∷ []) until.rest in
    let some = length-append first since.rest in
    let a = ap length since.appends in
    let b = ap length until.appends in
    omega (arith, one, more, some, a, b)

pub looking_from : (z : Sizes) (root : Label) (d : ℕ) (first : List Entry) → IsMap (graph_of z first) root → Looking z root d first first
looking_from z root d first map = record { quiet = λ front e since until mine. absurd (no_entry first front e since until); grows = prefix_same first; map = map }

-- a call whose entries change no block keeps each binding, and respects each map
pub quiet_looks : (z : Sizes) (root : Label) (d : ℕ) (old new : List Entry) → OwnQuiet z d old new → Looks z root d old new
quiet_looks z root d old new quiet = record {
  keeps = λ front e since until mine l. ap (λ (g : Graph). found z.domains g root l) (quiet front e since until mine);
  respects = λ front e since until mine. quiet_respects z root front e (ap (λ (t : State). t.graph) (sym (state_after-push (opening z) front e)) ∙ quiet front e since until mine);
}

-- and writes nothing
pub within_quiet : (z : Sizes) (root : Label) (d : ℕ) (first old new : List Entry) → OwnQuiet z d old new → OwnWithin z root d first old new
within_quiet z root d first old new quiet front e since until mine = within_same (IsMadeBehind z d first) (graph_of z front) (graph_of z (front ++ e ∷ [])) root (quiet front e since until mine)

pub stays_twice : (z : Sizes) (root : Label) (a b c : List Entry) → MapStays z root a b → MapStays z root b c → MapStays z root a c
stays_twice z root a b c x y = record {
  map = y.map;
  block = λ q u fields there plain. let one = x.block q u fields there plain in y.block q u one.1.0 one.0 one.1.1;
}

pub stays_same : (z : Sizes) (root : Label) (a b c : List Entry) → graph_of z c ≡ graph_of z b → MapStays z root a b → MapStays z root a c
stays_same z root a b c same x = record {
  map = subst (λ (g : Graph). IsMap g root) (sym same) x.map;
  block = λ q u fields there plain.
      let one = x.block q u fields there plain in
      (subst (λ (g : Graph). at (inside g) q (Block root) ≡ Some u) (sym same) one.0, (one.1.0, subst (λ (g : Graph). inside g u ≡ Some one.1.0) (sym same) one.1.1));
}

-- a field at which a search stands, at a later front
abbrev pub field_as : (z : Sizes) (d : ℕ) (first since_first front now new : List Entry) (root k : Label) (i rest : ℕ) (s : Reply) → AtField z d first front now root k i rest s → held_by z d new 8 ≡ held_by z d now 8 → held_by z d new 9 ≡ held_by z d now 9
    → IsPrefix since_first front → IsPrefix front new → MapStays z root front new → AtField z d since_first front new root k i rest s
field_as z d first since_first front now new root k i rest s x eight nine since until stays = record {
  p = x.p;
  left = x.left;
  all = x.all;
  way = x.way;
  l = x.l;
  held = eight ∙ x.held;
  v = x.v;
  holds = nine ∙ x.holds;
  shows = x.shows;
  since = since;
  until = until;
  there = x.there;
  fields = x.fields;
  plain = x.plain;
  was = x.was;
  narrow = x.narrow;
  map = x.map;
  stays = stays;
}
