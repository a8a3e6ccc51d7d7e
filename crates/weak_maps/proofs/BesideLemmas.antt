-- What the registers of a domain hold after one of its commands.
use Rattle.std.proofs.Common.{◌≡◌, ◌≢◌, ℕ, ◌<◌, List, ◌∷◌, [], ◌++◌, length, get_or, set, refl, ap, sym, ◌∙◌, arith, get_or-set_same, get_or-set_other}
use Rattle.model_core.specs.declared.command.Command.{Command}
use Rattle.model_core.specs.declared.entry.Entry.{Entry}
use Rattle.model_core.specs.declared.entry.Entry.TheVariants.{Command as CommandOf}
use Rattle.model_core.specs.declared.reply.Reply.{Reply}
use Rattle.model_core.specs.declared.graph.Value.{Value}
use Rattle.model_core.specs.declared.graph.Value.TheVariants.{Nothing}
use Rattle.model_core.specs.declared.state.Sizes.{Sizes}
use Rattle.model_core.specs.declared.state.State.{State}
use Rattle.model_core.specs.Domains.{IsWithinLimits, opening}
use Rattle.model_core.specs.Entries.{next}
use Rattle.model_core.specs.Fronts.{KeepsDomain}
use Rattle.model_core.specs.History.{IsPrefix}
use Rattle.model_core.proofs.Commands.FrameLemmas.{inside_running}
use Rattle.model_core.proofs.Histories.FrontLemmas.{keeps_front}
use Rattle.model_core.proofs.Histories.HistoryLemmas.{state_after-push}
use Rattle.model_core.proofs.Histories.ShapeAfterLemmas.{shaped-history}
use Rattle.weak_laws.specs.Tables.Thinning.{state_of}
use Rattle.weak_laws.specs.Maps.Calls.{PerformedBy, registers_after}
use Rattle.weak_maps.specs.Beside.{held_by}
use Rattle.weak_maps.specs.Fields.{IsBeside}
use Rattle.weak_maps.proofs.CountLemmas.{legal_both}

-- one below 8 is none that a put or a take uses
pub low_beside : (r : ℕ) → r < 8 → IsBeside r
low_beside r low = ((λ e. absurd (omega (arith, low, e))), (λ e. absurd (omega (arith, low, e))), (λ e. absurd (omega (arith, low, e))), (λ e. absurd (omega (arith, low, e))))

-- registers after a command that changes one of them
module _ (z : Sizes) (d : ℕ) (now new : List Entry) (dst : ℕ) (v : Value) (is : registers_after z d new ≡ set (registers_after z d now) dst v) where
  pub set_here : length (registers_after z d now) ≡ 16 → dst < 16 → held_by z d new dst ≡ v
  set_here all few = ap (λ (rs : List Value). get_or rs dst Nothing) is ∙ get_or-set_same (registers_after z d now) dst v Nothing (omega (arith, all, few))

  pub set_other : (r : ℕ) → r ≢ dst → held_by z d new r ≡ held_by z d now r
  set_other r other = ap (λ (rs : List Value). get_or rs r Nothing) is ∙ get_or-set_other (registers_after z d now) dst r v Nothing other

pub same_held : (z : Sizes) (d : ℕ) (now new : List Entry) → registers_after z d new ≡ registers_after z d now → (r : ℕ) → held_by z d new r ≡ held_by z d now r
same_held z d now new is r = ap (λ (rs : List Value). get_or rs r Nothing) is

module _ (z : Sizes) (d : ℕ) (old new : List Entry) (c : Command) (r : Reply) (p : PerformedBy z d old new c r) where
  abbrev front : List Entry
  front = old ++ p.between

  abbrev here : State
  here = state_of z front

  pub since_old : IsPrefix old front
  since_old = record { rest = p.between; appends = refl }

  pub until_new : IsPrefix front new
  until_new = record { rest = CommandOf d c p.full ∷ []; appends = p.appends }

  pub left_is : state_of z new ≡ next here (CommandOf d c p.full)
  left_is = ap (state_of z) p.appends ∙ state_after-push (opening z) front _

  inside_here : d < length here.domains
  inside_here = inside_running here.domains d (legal_both z d old new c r p).1.0.running

  kept : KeepsDomain (state_of z old) here d
  kept = keeps_front (opening z) d front old (record { rest = p.between; appends = refl; others = p.others })

  -- there are sixteen
  pub sixteen : IsWithinLimits z → length (registers_after z d old) ≡ 16
  sixteen limits = ap length (sym kept.registers) ∙ (shaped-history z front limits).register_count d inside_here
