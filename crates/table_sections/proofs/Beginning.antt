-- As its section begins, a domain's registers hold no key.
use Rattle.std.proofs.Common.{◌≡◌, ◌≢◌, ℕ, zero, suc, ◌≤◌, List, [], get_or, replicate, refl, ap, ◌∙◌, arith}
use Rattle.model_core.specs.declared.command.Command.TheVariants.{Poll}
use Rattle.model_core.specs.declared.entry.Entry.{Entry}
use Rattle.model_core.specs.declared.graph.Value.TheVariants.{Nothing}
use Rattle.model_core.specs.declared.reply.Reply.{Reply}
use Rattle.model_core.specs.declared.state.Sizes.{Sizes}
use Rattle.model_core.specs.Domains.{IsWithinLimits, no_domain, opening_domain}
use Rattle.weak_laws.specs.Maps.Calls.{PerformedBy}
use Rattle.weak_maps.specs.Beside.{held_by}
use Rattle.table_sections.specs.Places.{HoldsNoKey, MakesEach, loading}
use Rattle.table_sections.specs.Prepared.{IsPrepared}
use Rattle.table_sections.specs.declared.laying.Places.{Places}
use Rattle.table_sections.proofs.LaidSlots.{laid_keeps}
use Rattle.table_sections.proofs.RegisterLemmas.{get_key_keeps, load_keeps, poll_keeps}

-- at the start no register holds anything but the first
none_in : (n i : ℕ) → get_or (replicate n Nothing) i Nothing ≡ Nothing
none_in zero i = refl
none_in (suc n) zero = refl
none_in (suc n) (suc i) = none_in n i

none_at_first : (z : Sizes) (d i : ℕ) → 1 ≤ i → held_by z d [] i ≡ Nothing
none_at_first z d zero some = absurd (omega (arith, some))
none_at_first z d (suc i) some = by z.domains d
  where
    by : (n e : ℕ) → get_or (get_or (replicate n opening_domain) e no_domain).registers (suc i) Nothing ≡ Nothing
    by zero e = refl
    by (suc n) zero = none_in 15 i
    by (suc n) (suc e) = by n e

-- to load what all share writes its registers alone
loading_keeps : (z : Sizes) (d : ℕ) (old new : List Entry) → MakesEach z d old loading new → (i : ℕ) → i ≢ 6 → i ≢ 7 → i ≢ 12 → i ≢ 13 → held_by z d new i ≡ held_by z d old i
loading_keeps z d old new (one, a, first, (two, b, second, (three, c, third, (four, e, map, last)))) i six seven twelve thirteen =
    ap (λ (h : List Entry). held_by z d h i) last
    ∙ (get_key_keeps z d three four e 6 7 7 map i six ∙ (load_keeps z d two three c 13 0 2 third i thirteen ∙ (load_keeps z d one two b 12 0 1 second i twelve ∙ load_keeps z d old one a 7 0 0 first i seven)))

module _ (z : Sizes) (limits : IsWithinLimits z) (p : Places) where
  prepared_keeps : (d : ℕ) (ready : List Entry) (x : IsPrepared z p d ready) (i : ℕ) → i ≢ 6 → i ≢ 7 → i ≢ 12 → i ≢ 13 → held_by z d ready i ≡ held_by z d x.begun i
  prepared_keeps zero ready x i six seven twelve thirteen = laid_keeps z limits p 0 x.begun ready x.prepares i six seven twelve thirteen
  prepared_keeps (suc d) ready x i six seven twelve thirteen = loading_keeps z (suc d) x.begun ready x.prepares.loaded i six seven twelve thirteen

  pub begins_empty : (d : ℕ) (ready old : List Entry) (r : Reply) → IsPrepared z p d ready → PerformedBy z d ready old Poll r → HoldsNoKey z d old
  begins_empty d ready old r x polled i some six seven twelve thirteen =
      poll_keeps z d ready old r polled i ∙ (prepared_keeps d ready x i six seven twelve thirteen ∙ (poll_keeps z d [] x.begun _ x.polled i ∙ none_at_first z d i some))
