-- What the steps ask and tell by which a running domain registers finalisers (the OCaml manual's module `Gc`).
use Rattle.std.specs.Prelude.{◌≡◌, ℕ, ◌+◌, ◌-◌, ◌<◌, ◌≤◌, false, [], ◌∷◌, ◌++◌, length}
use Rattle.model_core.specs.declared.command.Command.TheVariants.{Finalise, FinaliseLast}
use Rattle.model_core.specs.declared.entry.Entry.TheVariants.{Command}
use Rattle.model_core.specs.declared.reply.Applied.TheVariants.{Replied}
use Rattle.model_core.specs.declared.reply.Reply.TheVariants.{Done}
use Rattle.model_core.specs.Fronts.{Answers}
use Rattle.heap_rule.specs.declared.config.Config.{Config}
use Rattle.heap_rule.specs.declared.view.DomainView.{DomainView}
use Rattle.heap_rule.specs.declared.view.Finalisers.{Finalisers}
use Rattle.heap_rule.specs.declared.view.Own.{Own}
use Rattle.heap_rule.specs.declared.view.Registered.{Registered}
use Rattle.heap_rule.specs.declared.view.RegisteredLast.{RegisteredLast}
use Rattle.heap_rule.specs.Limits.{sizes_in}
use Rattle.heap_rule.specs.Standing.{Acts, IsAt, with_front, with_own}
use Rattle.heap_rule.specs.Token.{Holds}

-- how many registrations a domain has, those included that wait in its queue
abbrev pub count_of : Finalisers → ℕ
count_of fs = length fs.finals.items + length fs.lasts.items + length fs.queue.items

-- the lists have room for one more
abbrev pub HasRoom : Config → Finalisers → Type 0
HasRoom k fs = count_of fs < k.finals

-- the token's own data with other lists of finalisers
abbrev pub with_finalisers : Finalisers → Own → Own
with_finalisers fs own = record own { finalisers = fs }

-- and with one more registration, the newest
abbrev pub with_final : Registered → Own → Own
with_final r own = with_finalisers (record own.finalisers { finals = record { items = own.finalisers.finals.items ++ r ∷ []; room = own.finalisers.finals.room - 1 } }) own

abbrev pub with_last : RegisteredLast → Own → Own
with_last r own = with_finalisers (record own.finalisers { lasts = record { items = own.finalisers.lasts.items ++ r ∷ []; room = own.finalisers.lasts.room - 1 } }) own

-- a register holds the block that is to be registered
pub record FinalMay (k : Config) (x : DomainView) (item : ℕ) (r : Registered) : Type 0 where
  pub acts : Acts k x
  pub block : IsAt x item r.address
  pub few : r.register < 16
  pub room : HasRoom k x.own.finalisers

pub record LastMay (k : Config) (x : DomainView) (item : ℕ) (r : RegisteredLast) : Type 0 where
  pub acts : Acts k x
  pub block : IsAt x item r.address
  pub room : HasRoom k x.own.finalisers

-- the entry stands, and the registration is the domain's newest
pub record FinalTold (k : Config) (item : ℕ) (r : Registered) (x y : DomainView) : Type 0 where
  pub answers : Answers (sizes_in k) x.own.number x.seen.front y.seen.front (Command x.own.number (Finalise item r.number r.register) false) (Replied Done)
  pub view : y ≡ with_front (with_own x (with_final r x.own)) y.seen.front
  pub holds : Holds k y.own.registers

pub record LastTold (k : Config) (item : ℕ) (r : RegisteredLast) (x y : DomainView) : Type 0 where
  pub answers : Answers (sizes_in k) x.own.number x.seen.front y.seen.front (Command x.own.number (FinaliseLast item r.number) false) (Replied Done)
  pub view : y ≡ with_front (with_own x (with_last r x.own)) y.seen.front
  pub holds : Holds k y.own.registers

-- one more registration can be added, and is
abbrev pub CanAddFinal : Own → Type 0
CanAddFinal own = 1 ≤ own.finalisers.finals.room

abbrev pub CanAddLast : Own → Type 0
CanAddLast own = 1 ≤ own.finalisers.lasts.room

abbrev pub Finals : Registered → Own → Own → Type 0
Finals r own after = after ≡ with_final r own

abbrev pub Lasts : RegisteredLast → Own → Own → Type 0
Lasts r own after = after ≡ with_last r own
