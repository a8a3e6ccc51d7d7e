-- Guarded entries respect the map, each because all before it do.
use Rattle.std.proofs.Common.{◌≡◌, inl, inr, ⊎_elim, ℕ, true, List, [], ◌∷◌, ◌++◌, sym, subst}
use Rattle.model_core.specs.declared.label.Label.{Label}
use Rattle.model_core.specs.declared.entry.Entry.{Entry}
use Rattle.model_core.specs.declared.state.Sizes.{Sizes}
use Rattle.model_core.specs.History.{IsPrefix, is_entry_of}
use Rattle.weak_laws.specs.Tables.Stages.{graph_of}
use Rattle.weak_laws.specs.Maps.Tries.{IsInPlace, IsMap}
use Rattle.weak_laws.specs.Maps.Steps.{AllRespect, RespectsMap}
use Rattle.weak_laws.proofs.OfMaps.FrontLemmas.{before_or_behind, last_or_before, prefix_same, prefix_trans, walk_along}
use Rattle.weak_laws.proofs.OfMaps.OwnLemmas.{nothing_between}
use Rattle.weak_laws.proofs.OfMaps.RespectLemmas.{allowed_at, collector_respects, map_after, respect_within}
use Rattle.weak_maps.specs.Walks.{OwnQuiet}
use Rattle.weak_maps.proofs.GuardLemmas.{guards_quiet}
use Rattle.weak_maps.proofs.PlaceLemmas.{place_after}
use Rattle.weak_maps.proofs.TryLemmas.{quiet_later}
use Rattle.weak_maps.specs.Shared.Sharing.{CallsAreGuarded, GuardedEntriesRespect, IsGuarded, IsShared, LookupsAreGuarded, OthersMayBeReliedOn, StretchesAdd}

pub calls_are_guarded : CallsAreGuarded
calls_are_guarded z root d register base old new behind held (inl put) front e here since until own = record { own = own; first = old; last = new; behind = behind; since = since; until = until; guards = λ before map placed. put root (held before) map placed }
calls_are_guarded z root d register base old new behind held (inr take) front e here since until own = record { own = own; first = old; last = new; behind = behind; since = since; until = until; guards = λ before map placed. take root (held before) map }

-- an entry that changes no block, wherever its call began
pub quiet_entry_is_guarded : (z : Sizes) (root : Label) (d : ℕ) (base front last : List Entry) (e : Entry) → IsPrefix base front → IsPrefix (front ++ e ∷ []) last → is_entry_of d e ≡ true → OwnQuiet z d front last → IsGuarded z root base front e d
quiet_entry_is_guarded z root d base front last e here until own quiet = record { own = own; first = front; last = last; behind = here; since = prefix_same front; until = until; guards = λ before map placed. guards_quiet z root d front front last quiet }

pub lookups_are_guarded : LookupsAreGuarded
lookups_are_guarded z root d base old new quiet front e here since until own = quiet_entry_is_guarded z root d base front new e here until own (quiet_later z d old front new since quiet)

pub stretches_add : StretchesAdd
stretches_add z root d base old now new grows first last front e here since until own = ⊎_elim (λ early. first front e here since early own) (λ late. last front e here late until own) (before_or_behind now new front e grows until)

module _ (z : Sizes) (root : Label) (base h : List Entry) (x : IsShared z root base h) where
  -- the map at a front up to which all respect it
  map_at : (front : List Entry) → IsPrefix base front → AllRespect z root base front → IsMap (graph_of z front) root × IsInPlace z.domains (graph_of z front) root
  map_at front since all = (map_after z root base front since all x.map, place_after z root base front since all x.map x.placed)

  -- an entry that is guarded respects it there
  guarded_respects : (front : List Entry) (e : Entry) (d : ℕ) → AllRespect z root base front → IsGuarded z root base front e d → RespectsMap z root front e
  guarded_respects front e d all g =
      let before = respect_within z root base base g.first front (prefix_same base) g.since all in
      let there = map_at g.first g.behind before in
      g.guards before there.0 there.1 front e g.since g.until g.own (λ f y a b other. all f y (prefix_trans base g.first f g.behind a) b)

  pub all_respect : AllRespect z root base h
  all_respect = walk_along (λ f. AllRespect z root base f) base h x.grows
      (λ front e since until all f y a b. ⊎_elim (λ early. all f y a early)
      (λ is. subst (λ (w : List Entry × Entry). RespectsMap z root w.0 w.1) (λ i. (sym is.0 i, sym is.1 i))
      (⊎_elim (λ mine. collector_respects z root front e mine (allowed_at z front h e x.legal until)) (λ own. guarded_respects front e own.0 all own.1) (x.guarded front e since until)))
      (last_or_before front e f y b))
      (λ f y a b. absurd (nothing_between base f y a b))

  pub map_there : (front : List Entry) → IsPrefix base front → IsPrefix front h → IsMap (graph_of z front) root × IsInPlace z.domains (graph_of z front) root
  map_there front since until = map_at front since (respect_within z root base base front h (prefix_same base) until all_respect)

pub guarded_entries_respect : GuardedEntriesRespect
guarded_entries_respect z root base h x = all_respect z root base h x

pub others_may_be_relied_on : OthersMayBeReliedOn
others_may_be_relied_on z root base h x d old new since grows until =
    let there = map_there z root base h x old since (prefix_trans old new h grows until) in
    (there.0, there.1, (λ front e a b other. all_respect z root base h x front e (prefix_trans base old front since a) (prefix_trans (front ++ e ∷ []) new h b until)))
