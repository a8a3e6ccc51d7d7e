-- A turn of a run that has no command to make.
use Rattle.std.proofs.Common.{◌≡◌, ◌∙◌, ℕ, ◌+◌, ◌-◌, ◌<◌, [], ◌∷◌, append-nil, length, length-append, sym, ap, subst, arith}
use Rattle.std.proofs.lemmas.Option.{slice_get_within}
use Rattle.model_core.specs.declared.state.Sizes.{Sizes}
use Rattle.heap_rule.specs.Limits.{sizes_in}
use Rattle.heap_rule.specs.Token.{SharedHeap, IsIn}
use Rattle.run_turns.specs.declared.supply.Supply.{Supply}
use Rattle.run_turns.specs.declared.supply.Supply.TheVariants.{Section, Open}
use Rattle.run_turns.specs.Runs.{Appended, RunView, GoesOn, Stretches, ran_with, said_with}
use Rattle.run_turns.specs.Runs.Stretches.{ByOthers, ByCommand, ByFinaliser, ByEnd, BySection}
use Rattle.run_turns.proofs.Handed.{finalised_more, finalised_none, finalised_others}
use Rattle.run_turns.specs.Singly.Driving.{registered}
use Rattle.heap_rule.specs.declared.config.Config.{Config}
use Rattle.model_core.specs.declared.entry.Entry.TheVariants.{Ran}
use Rattle.model_core.specs.declared.reply.Applied.TheVariants.{Replied}
use Rattle.run_seats.specs.Shared.Idling.{IsIdleIn, StaysIdle, finals_of}

module _ (h : SharedHeap) (old new : RunView) (idle : IsIdleIn h old) (here : IsIn new.token h) (g : GoesOn old new) where
  abbrev z : Sizes
  z = sizes_in old.token.config

  abbrev d : ℕ
  d = old.token.view.own.number

  more : new.supply ≡ Open
  more = g.supply ∙ idle.more

  config : new.token.config ≡ old.token.config
  config = here.1 ∙ sym idle.here.1

  idle_as : new.next ≡ old.next → IsIdleIn h new
  idle_as same = record { here = here; more = more; done = same ∙ (idle.done ∙ sym (ap (λ cs. length cs) g.commands)) }

  room_after : registered new + length new.ran ≡ registered old + length old.ran → finals_of new ≡ finals_of old
  room_after listed = (λ i. (config i).finals - listed i)

  pub idle_turn : Stretches (sizes_in h.config) old new → IsIdleIn h new × StaysIdle old new
  idle_turn (ByOthers m) = (
    idle_as m.next,
    record {
      config = config;
      number = g.number;
      supply = g.supply;
      commands = g.commands;
      next = m.next;
      replies = m.replies;
      more = [];
      ran = m.ran ∙ sym (append-nil old.ran);
      finalised = finalised_others z d old.token.view.seen.front old.token.view.seen.front new.token.view.seen.front [] (finalised_none z d old.token.view.seen.front) m.front;
      finals = room_after (λ i. m.listed i + length (m.ran i));
      takes = m.takes;
    },
  )
  idle_turn (ByCommand m) = absurd (let below : old.next < length old.commands = slice_get_within old.commands old.next m.command m.here in let done : old.next ≡ length old.commands = idle.done in omega (arith, below, done))
  idle_turn (ByFinaliser m) = (
    idle_as m.next,
    record {
      config = config;
      number = g.number;
      supply = g.supply;
      commands = g.commands;
      next = m.next;
      replies = m.replies ∙ ap (λ (s : Supply). said_with s old.replies m.reply) idle.more;
      more = m.reply ∷ [];
      ran = m.ran ∙ ap (λ (s : Supply). ran_with s old.ran m.reply) idle.more;
      finalised = finalised_more z d old.token.view.seen.front old.token.view.seen.front new.token.view.seen.front [] m.reply (finalised_none z d old.token.view.seen.front) (subst (λ (k : Config). Appended (sizes_in k) d old.token.view.seen.front new.token.view.seen.front (Ran d) (Replied m.reply)) (sym idle.here.1) m.front);
      finals = room_after (let less = m.listed in let grown : length new.ran ≡ length old.ran + 1 = ap (λ rs. length rs) (m.ran ∙ ap (λ (s : Supply). ran_with s old.ran m.reply) idle.more) ∙ length-append old.ran (m.reply ∷ []) in omega (arith, less, grown));
      takes = m.takes;
    },
  )
  idle_turn (ByEnd m) = absurd (m.shut idle.more)
  idle_turn (BySection m) = absurd (let clash : Open ≡ Section = sym idle.more ∙ m.sectioned in cc)
