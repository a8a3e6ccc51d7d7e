-- A run that has no command to make, and a domain that rests.
use Rattle.std.specs.Prelude.{◌≡◌, ℕ, ◌+◌, ◌-◌, List, [], ◌++◌, length, refl, None, Some}
use Rattle.std.proofs.Common.{◌∙◌, sym, ap, subst, append-nil, append_assoc}
use Rattle.model_core.specs.declared.reply.Reply.{Reply}
use Rattle.heap_rule.specs.declared.config.Config.{Config}
use Rattle.heap_rule.specs.Limits.{sizes_in}
use Rattle.heap_rule.specs.Token.{SharedHeap, IsIn}
use Rattle.run_turns.specs.declared.supply.Supply.TheVariants.{Open}
use Rattle.run_turns.specs.Runs.{RunView, Takes}
use Rattle.run_turns.specs.Handed.{Finalised}
use Rattle.run_turns.proofs.Handed.{finalised_none}
use Rattle.run_turns.proofs.Taking.{takes_none, takes_on}
use Rattle.run_turns.specs.Singly.Driving.{registered}
use Rattle.run_seats.specs.Beds.Bedding.{BedView}
use Rattle.run_seats.specs.declared.shared.bed.NotRested.{NotRested}
use Rattle.run_seats.specs.declared.shared.bed.NotRested.TheVariants.{Refused, Taken, Blocked}
use Rattle.run_seats.specs.Shared.Sharing.{IsUnclosedBy, MayClose, SharedView}
use Rattle.run_turns.proofs.OfSingly.Finalising.{finalised_on}

-- it is one of this heap's, and waits for its next command
pub record IsIdleIn (h : SharedHeap) (r : RunView) : Type 0 where
  pub here : IsIn r.token h
  pub more : r.supply ≡ Open
  pub done : r.next ≡ length r.commands

-- how many more finalisers can be registered: each takes room until it ran and its reply was taken
abbrev pub finals_of : RunView → ℕ
finals_of r = r.token.config.finals - (registered r + length r.ran)

-- it has made no command since: it has the same commands, place and replies, and takes the next one as it did. Its front has grown by entries of others and by runs of its finalisers, whose replies wait behind those that did, and it has room for no fewer ephemerons, and for as many finalisers
pub record StaysIdle (old new : RunView) : Type 0 where
  pub config : new.token.config ≡ old.token.config
  pub number : new.token.view.own.number ≡ old.token.view.own.number
  pub supply : new.supply ≡ old.supply
  pub commands : new.commands ≡ old.commands
  pub next : new.next ≡ old.next
  pub replies : new.replies ≡ old.replies
  pub more : List Reply
  pub ran : new.ran ≡ old.ran ++ more
  pub finalised : Finalised (sizes_in old.token.config) old.token.view.own.number old.token.view.seen.front new.token.view.seen.front more
  pub finals : finals_of new ≡ finals_of old
  pub takes : Takes 0 0 old.token.view new.token.view

pub still_idle : (r : RunView) → StaysIdle r r
still_idle r = record {
  config = refl;
  number = refl;
  supply = refl;
  commands = refl;
  next = refl;
  replies = refl;
  more = [];
  ran = sym (append-nil r.ran);
  finalised = finalised_none (sizes_in r.token.config) r.token.view.own.number r.token.view.seen.front;
  finals = refl;
  takes = takes_none r.token.view r.token.view refl refl;
}

pub stays_on : (a b c : RunView) → StaysIdle a b → StaysIdle b c → StaysIdle a c
stays_on a b c p q = record {
  config = q.config ∙ p.config;
  number = q.number ∙ p.number;
  supply = q.supply ∙ p.supply;
  commands = q.commands ∙ p.commands;
  next = q.next ∙ p.next;
  replies = q.replies ∙ p.replies;
  more = p.more ++ q.more;
  ran = q.ran ∙ (ap (λ (rs : List Reply). rs ++ q.more) p.ran ∙ append_assoc a.ran p.more q.more);
  finalised = finalised_on (sizes_in a.token.config) a.token.view.own.number a.token.view.seen.front b.token.view.seen.front c.token.view.seen.front p.more q.more p.finalised
      (subst (λ (w : Config × ℕ). Finalised (sizes_in w.0) w.1 b.token.view.seen.front c.token.view.seen.front q.more) (λ i. (p.config i, p.number i)) q.finalised);
  finals = q.finals ∙ p.finals;
  takes = takes_on 0 0 a.token.view b.token.view c.token.view p.takes q.takes;
}

-- two runs of one heap are in each heap together
pub same_idle : (s z : SharedHeap) (t u : RunView) → IsIdleIn s t → IsIdleIn s u → IsIdleIn z t → IsIdleIn z u
same_idle s z t u a b c = record { here = (b.here.0 ∙ (sym a.here.0 ∙ c.here.0), b.here.1 ∙ (sym a.here.1 ∙ c.here.1)); more = b.more; done = b.done }

-- a domain stays idle with its share of the heap
abbrev pub StaysAlong : SharedView → SharedView → Type 0
StaysAlong a b = (b.heap ≡ a.heap) × StaysIdle a.run b.run

pub still_along : (a : SharedView) → StaysAlong a a
still_along a = (refl, still_idle a.run)

pub stays_along : (a b c : SharedView) → StaysAlong a b → StaysAlong b c → StaysAlong a c
stays_along a b c p q = (q.0 ∙ p.0, stays_on a.run b.run c.run p.1 q.1)

-- why a domain isn't put to rest in a bed: it can't be closed either; something rests there; or another thread is in the way
abbrev pub IsKeptOut : BedView SharedView → SharedView → NotRested → Type 0
IsKeptOut b s (Refused why) = IsUnclosedBy s why
IsKeptOut b s Taken = MayClose s × (y : SharedView) × (b.rests ≡ Some y)
IsKeptOut b s Blocked = MayClose s × (b.rests ≡ None)
