-- Registers are emptied one after the other.
use Rattle.std.proofs.Common.{◌≡◌, ◌≢◌, ⊎_elim, ℕ, ◌+◌, ◌<◌, ◌≤◌, List, refl, ap, ◌∙◌, subst, arith}
use Rattle.model_core.specs.declared.label.Label.{Label}
use Rattle.model_core.specs.declared.command.Command.TheVariants.{Forget}
use Rattle.model_core.specs.declared.entry.Entry.{Entry}
use Rattle.model_core.specs.declared.reply.Reply.{Reply}
use Rattle.model_core.specs.declared.graph.Value.TheVariants.{Nothing}
use Rattle.model_core.specs.declared.state.Sizes.{Sizes}
use Rattle.model_core.specs.Domains.{IsWithinLimits}
use Rattle.weak_laws.specs.Maps.Calls.{PerformedBy}
use Rattle.weak_laws.proofs.OfMaps.CallLemmas.{forget_step}
use Rattle.weak_laws.proofs.OfMaps.WalkLemmas.{same_number}
use Rattle.weak_maps.specs.Beside.{held_by}
use Rattle.weak_maps.specs.Cleans.{EmptiedHigh}
use Rattle.weak_maps.proofs.BesideLemmas.{set_here, set_other, sixteen}
use Rattle.weak_maps.proofs.CleanedLemmas.{less_or}
use Rattle.weak_maps.proofs.StayLemmas.{no_entry, quiet_on}

pub emptied_at : (z now : Sizes) (d e : ℕ) (old new : List Entry) (n : ℕ) → now ≡ z → e ≡ d → EmptiedHigh now e old new n → EmptiedHigh z d old new n
emptied_at z now d e old new n sizes domain x = subst (λ (w : Sizes × ℕ). EmptiedHigh w.0 w.1 old new n) (λ j. (sizes j, domain j)) x

module _ (z : Sizes) (limits : IsWithinLimits z) (d : ℕ) (old : List Entry) where
  -- no register was emptied so far
  pub emptied_none : EmptiedHigh z d old old 8
  emptied_none = record { clean = λ r high small. absurd (omega (arith, high, small)); low = λ r small. refl; quiet = λ front e since until mine. absurd (no_entry old front e since until) }

  -- one register more is
  pub emptied_more : (now new : List Entry) (n : ℕ) (r : Reply) → 8 ≤ n → n < 16 → EmptiedHigh z d old now n → PerformedBy z d now new (Forget n) r → EmptiedHigh z d old new (n + 1)
  emptied_more now new n r high few x p =
      let all = forget_step z d now new r n p in
      let keeps : (j : ℕ) → j ≢ n → held_by z d new j ≡ held_by z d now j = set_other z d now new n Nothing all.1 in
      let gone : held_by z d new n ≡ Nothing = set_here z d now new n Nothing all.1 (sixteen z d now new (Forget n) r p limits) few in record {
        clean = λ i above below. ⊎_elim
            (λ same. ap (held_by z d new) same ∙ gone)
            (λ other. keeps i other ∙ x.clean i above (⊎_elim (λ less. less) (λ far. absurd (other (omega (arith, below, far)))) (less_or i n)))
            (same_number i n);
        low = λ i small. keeps i (λ same. absurd (omega (arith, small, high, same))) ∙ x.low i small;
        quiet = quiet_on z any_root d old now new (Forget n) r p all.0 x.quiet;
      }
    where
      any_root : Label
      any_root = record { domain = 0; serial = 0 }
