-- A step answers the same in states that are the same but for garbage, and leaves the same but for garbage.
use Rattle.std.proofs.Common.{◌≡◌, ℕ, ◌+◌, Bool, true, false, List, [], ◌∷◌, length, filter_map, replicate, None, refl, sym, ap, subst}
use Rattle.model_core.specs.declared.command.Command.{Command as CommandType}
use Rattle.model_core.specs.declared.entry.Entry.{Entry}
use Rattle.model_core.specs.declared.entry.Entry.TheVariants.{Command as CommandOf, End, Cut, Queue, Seal, Wipe, Last, Collected, Done, Ran}
use Rattle.model_core.specs.declared.graph.Value.{Value}
use Rattle.model_core.specs.declared.graph.Value.TheVariants.{Block, Nothing}
use Rattle.model_core.specs.declared.reply.Applied.TheVariants.{Replied}
use Rattle.model_core.specs.declared.state.Pending.{Pending}
use Rattle.model_core.specs.declared.state.Pending.TheVariants.{Fin, Last as LastPending}
use Rattle.model_core.specs.declared.state.State.{State}
use Rattle.model_core.specs.Graph.{label_of, node_at}
use Rattle.model_core.specs.Domains.{domain_at, opening, pending_label, with_domain}
use Rattle.model_core.specs.Commands.{after_command, command_outcome}
use Rattle.model_core.specs.Entries.{after_run, ended, next, reply, run_reply, without_first}
use Rattle.model_core.specs.History.{state_after}
use Rattle.model_core.proofs.Histories.NumberLemmas.{next_label_after}
use Rattle.model_traces.specs.Schedules.Sameness.{AllAlive, IsSameBut, StepLaw, is_step}
use Rattle.model_traces.proofs.OfSchedules.Alive.{all_replicate}
use Rattle.model_traces.proofs.OfSchedules.Sameness.{same_live}
use Rattle.model_traces.proofs.OfSchedules.Holding.{with_domains}
use Rattle.model_traces.proofs.OfSchedules.Moving.{AreSame, held_domain, put_same, same_domain}
use Rattle.model_traces.proofs.OfSchedules.Commanding.{outcome_same}

-- what an entry answers and leaves is the same in both
pub record IsSameStep (s t : State) (e : Entry) : Type 0 where
  pub replies : reply t e ≡ reply s e
  pub states : IsSameBut (next s e) (next t e)

-- a domain has made the entry of a command
pub after_same : (s t : State) (same : IsSameBut s t) (d : ℕ) → IsSameBut (after_command s d) (after_command t d)
after_same s t same d =
    let held = held_domain s t same d in
    let is = same_domain s t same d in
    with_domains s t same d (record (domain_at s d) { fresh = false; due = length (domain_at s d).queue }) (record (domain_at t d) { fresh = false; due = length (domain_at t d).queue })
    (record { registers = held.registers; queue = held.queue; finals = held.finals })
    (record { registers = is.registers; serial = is.serial; ended = is.ended; finals = is.finals; lasts = is.lasts; queue = is.queue; fresh = refl; due = ap length is.queue })

module _ (s t : State) (same : IsSameBut s t) (d : ℕ) where
  module _ (new : node_at s.graph (record { domain = d; serial = (domain_at s d).serial + 1 }) ≡ None) where
    answered : (c : CommandType) (full : Bool) → AreSame (command_outcome s d c full) (command_outcome t d c full)
    answered c true = record { replies = refl; states = same }
    answered c false = outcome_same s t same d new (same_live s t same) c

    -- a command
    pub command_same : (c : CommandType) (full : Bool) → IsSameStep s t (CommandOf d c full)
    command_same c full =
        let a = answered c full in
        record { replies = ap Replied a.replies; states = after_same (command_outcome s d c full).state (command_outcome t d c full).state a.states d }

  -- the end of a trace
  pub end_same : IsSameStep s t (End d)
  end_same =
      let held = held_domain s t same d in
      let is = same_domain s t same d in
      record {
        replies = refl;
        states = with_domains s t same d (ended (domain_at s d)) (ended (domain_at t d))
            (record { registers = all_replicate same.alive label_of (length (domain_at s d).registers) Nothing refl; queue = held.queue; finals = tt })
            (record { registers = ap (λ (vs : List Value). replicate (length vs) Nothing) is.registers; serial = is.serial; ended = refl; finals = refl; lasts = refl; queue = is.queue; fresh = is.fresh; due = is.due });
      }

  -- the first finaliser of a queue
  without_same : (rest : List Pending) → AllAlive same.alive (filter_map pending_label rest) → IsSameBut (with_domain s d (without_first (domain_at s d) rest)) (with_domain t d (without_first (domain_at t d) rest))
  without_same rest a =
      let held = held_domain s t same d in
      let is = same_domain s t same d in
      with_domains s t same d (without_first (domain_at s d) rest) (without_first (domain_at t d) rest) (record { registers = held.registers; queue = a; finals = held.finals })
      (record { registers = is.registers; serial = is.serial; ended = is.ended; finals = is.finals; lasts = is.lasts; queue = refl; fresh = is.fresh; due = refl })

  run_same : (q : List Pending) → AllAlive same.alive (filter_map pending_label q) → IsSameBut (after_run s d q) (after_run t d q)
  unfolding without_same
  run_same [] a = same
  run_same (Fin number l r ∷ rest) a =
      put_same (with_domain s d (without_first (domain_at s d) rest)) (with_domain t d (without_first (domain_at t d) rest)) (without_same rest a.1) d r (Block l) (a.0, tt)
  run_same (LastPending number ∷ rest) a = without_same rest a

  pub ran_same : IsSameStep s t (Ran d)
  ran_same =
      let queues : (domain_at t d).queue ≡ (domain_at s d).queue = (same_domain s t same d).queue in
      record {
        replies = ap run_reply queues;
        states = subst (λ (q : List Pending). IsSameBut (after_run s d (domain_at s d).queue) (after_run t d q)) (sym queues) (run_same (domain_at s d).queue (held_domain s t same d).queue);
      }

pub step_same : (s t : State) → IsSameBut s t → ((d : ℕ) → node_at s.graph (record { domain = d; serial = (domain_at s d).serial + 1 }) ≡ None) → (e : Entry) → is_step e ≡ true → IsSameStep s t e
step_same s t same new (CommandOf d c full) is = command_same s t same d (new d) c full
step_same s t same new (End d) is = end_same s t same d
step_same s t same new (Ran d) is = ran_same s t same d
step_same s t same new Cut is = cc
step_same s t same new (Queue d places) is = cc
step_same s t same new Seal is = cc
step_same s t same new (Wipe l keys) is = cc
step_same s t same new (Last d place) is = cc
step_same s t same new Collected is = cc
step_same s t same new Done is = cc

pub step_law : StepLaw
step_law z h t e legal same is allowed =
    let step = step_same (state_after (opening z) h) t same (next_label_after z h legal) e is in
    (step.replies, step.states)
