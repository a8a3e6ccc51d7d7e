-- A session without room for finalisers.
use Rattle.std.proofs.Common.{◌≡◌, ◌+◌, ◌≤◌, List, [], ◌∷◌, length, refl, sym, ap, subst, arith, length-append, ◌∙◌}
use Rattle.model_core.specs.declared.command.Command as model
use Rattle.model_core.specs.declared.command.Command.TheVariants.{Finalise, FinaliseLast}
use Rattle.model_core.specs.declared.reply.Reply.{Reply}
use Rattle.model_core.specs.declared.state.State.{State}
use Rattle.model_core.specs.Domains.{IsWithinLimits, opening}
use Rattle.model_core.specs.Registrations.{all_registered, registered_by}
use Rattle.heap_rule.specs.declared.config.Config.{Config}
use Rattle.heap_rule.specs.Limits.{sizes_in}
use Rattle.run_turns.specs.Tries.{registrations_of}
use Rattle.weak_laws.specs.Tables.Performing.{Performed}
use Rattle.weak_tables.proofs.RegisteredLemmas.{none_performed}
use Rattle.run_session.specs.Sessions.{MayPerform, PerformsIn, SessionView, ran_since}
use Rattle.run_session.proofs.Collectors.{performs}

none_left : (rs : List Reply) → length rs ≤ 0 → rs ≡ []
none_left [] few = refl
none_left (r ∷ rs) few = absurd (omega (arith, few))

-- a command that registers no finaliser
registers_none : (s : State) (c : model.Command) → registrations_of c ≤ 0 → registered_by s 0 c ≡ []
registers_none s (Finalise item number dst) quiet = absurd (omega (arith, quiet))
registers_none s (FinaliseLast item number) quiet = absurd (omega (arith, quiet))
registers_none s _ quiet = refl

-- what a session without room for finalisers performs
module _ (old new : SessionView) (c : model.Command) (r : Reply) (limits : IsWithinLimits (sizes_in old.config)) (one : old.config.domains ≡ 1) (none : old.config.finals ≡ 0) (few : old.finals + length old.ran ≤ old.config.finals) (later : new.finals + length new.ran ≤ new.config.finals) (same : new.config ≡ old.config) (may : MayPerform old c)
    (p : PerformsIn old new c r) where
  quiet : registrations_of c ≤ 0
  quiet = let enlists = may.takes.enlists in omega (arith, enlists, few, none)

  pub no_run : new.ran ≡ []
  no_run = none_left new.ran (let equal : new.config.finals ≡ old.config.finals = ap (λ (k : Config). k.finals) same in omega (arith, later, equal, none))

  none_since : ran_since old new ≡ []
  none_since = none_left (ran_since old new) (let whole : length new.ran ≡ length old.ran + length (ran_since old new) = ap length p.waits ∙ length-append old.ran (ran_since old new) in let no : length new.ran ≡ 0 = ap length no_run in omega (arith, whole, no))

  pub plainly : Performed (sizes_in old.config) old.front new.front c r
  plainly = performs (sizes_in old.config) old.front new.front c (ran_since old new) r limits one none_since p.performed

  pub unregistered : all_registered 0 (opening (sizes_in old.config)) old.front ≡ [] → all_registered 0 (opening (sizes_in new.config)) new.front ≡ []
  unregistered before = subst (λ (k : Config). all_registered 0 (opening (sizes_in k)) new.front ≡ []) (sym same) (none_performed (sizes_in old.config) old.front new.front c r (λ s. registers_none s c quiet) plainly before)
