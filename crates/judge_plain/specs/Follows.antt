-- What a call that follows an entry promises.
use Rattle.std.specs.Prelude.{◌≡◌, Result, Err, IfOk, OnOk, OnErr}
use Rattle.model_core.specs.declared.entry.Entry.{Entry}
use Rattle.model_core.specs.declared.reply.Applied.{Applied}
use Rattle.model_core.specs.declared.reply.ApplyFault.{ApplyFault}
use Rattle.model_core.specs.declared.reply.ApplyFault.TheVariants.{NotLegal}
use Rattle.model_core.specs.declared.state.State.{State}
use Rattle.model_core.specs.Entries.{Allowed, next, reply}

-- the entry is followed only where it is allowed, with its reply and its next state; it is refused as not legal only where it isn't allowed, and a refusal or want of memory leaves the state
pub record Follows (old new : State) (e : Entry) (result : Result Applied ApplyFault) : Type 0 where
  pub allowed : OnOk result (Allowed old e)
  pub answer : IfOk result (λ a. a ≡ reply old e)
  pub state : OnOk result (new ≡ next old e)
  pub not_legal : result ≡ Err NotLegal → Allowed old e → ⊥
  pub err : OnErr result (new ≡ old)
