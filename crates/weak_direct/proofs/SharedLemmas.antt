-- A command of a domain with a share of its heap that is made at once, or put off.
use Rattle.std.proofs.Common.{◌≡◌, ℕ, List, Option, Some, None, ap, subst, false}
use Rattle.model_core.specs.declared.command.Command.{Command}
use Rattle.model_core.specs.declared.entry.Entry.{Entry}
use Rattle.model_core.specs.declared.entry.Entry.TheVariants.{Command as CommandOf}
use Rattle.model_core.specs.declared.reply.Reply.{Reply}
use Rattle.model_core.specs.declared.reply.Applied.TheVariants.{Replied}
use Rattle.model_core.specs.Fronts.{Answers}
use Rattle.heap_rule.specs.declared.config.Config.{Config}
use Rattle.heap_rule.specs.declared.view.Own.{Own}
use Rattle.heap_rule.specs.Limits.{sizes_in}
use Rattle.heap_rule.specs.Token.{SharedHeap, IsIn}
use Rattle.run_turns.specs.Runs.{MakesNow, NowAnswers, RunView, Takes, wanting}
use Rattle.run_turns.proofs.AtOnce.{has_waited}
use Rattle.run_turns.proofs.Taking.{tried_takes}
use Rattle.run_turns.proofs.Turning.{stood}
use Rattle.weak_laws.specs.Maps.Calls.{PerformedBy}
use Rattle.weak_direct.specs.Tries.{TriedBy, ephemerons_by, labels_by}

module _ (h : SharedHeap) (old new : RunView) (c : Command) (here : IsIn old.token h) where
  abbrev d : ℕ
  d = old.token.view.own.number

  abbrev front : List Entry
  front = old.token.view.seen.front

  abbrev later : List Entry
  later = new.token.view.seen.front

  made_by : (r : Reply) → MakesNow h old new c r → PerformedBy (sizes_in h.config) d front later c r
  made_by r m =
      let tried = m.made.1 in
      let st = stood h (wanting old 0).token new.token c false r tried.stands in
      let a : Answers (sizes_in h.config) d front later (CommandOf d c st.0) (Replied r) = subst (λ (k : Config). Answers (sizes_in k) d front later (CommandOf d c st.0) (Replied r)) here.1 st.1 in
      record { between = a.between; others = a.others; full = st.0; appends = a.appends; legal = a.legal; replies = a.replies }

  -- the front has grown by the command, or it was put off
  pub now_tried : (o : Option Reply) → NowAnswers h old new c o → TriedBy (sizes_in h.config) d front later c o
  now_tried None off = (has_waited h old new c off).front
  now_tried (Some r) m = made_by r m

  pub now_number : (o : Option Reply) → NowAnswers h old new c o → new.token.view.own.number ≡ d
  now_number None off = (has_waited h old new c off).number
  now_number (Some r) m = ap (λ (o : Own). o.number) m.made.1.own

  -- and it has taken its label and its room
  pub now_takes : (o : Option Reply) → NowAnswers h old new c o → Takes (labels_by c o) (ephemerons_by c o) old.token.view new.token.view
  now_takes None off = (has_waited h old new c off).takes
  now_takes (Some r) m = let t = tried_takes h (wanting old 0).token new.token c false r m.made.1 in record { labels_are = t.labels_are; room = t.room }
