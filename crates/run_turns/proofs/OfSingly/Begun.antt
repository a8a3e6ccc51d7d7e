-- A command that is made at once, or handed in.
use Rattle.std.proofs.Common.{◌≡◌, ◌∙◌, ℕ, ◌+◌, [], ◌∷◌, List, length, refl, sym, ap, subst, arith, None, false}
use Rattle.model_core.specs.declared.command.Command as model
use Rattle.model_core.specs.declared.entry.Entry.TheVariants.{Command}
use Rattle.model_core.specs.declared.reply.Reply.{Reply}
use Rattle.model_core.specs.declared.reply.Applied.TheVariants.{Replied}
use Rattle.model_core.specs.Fronts.{Answers}
use Rattle.model_core.specs.declared.entry.Entry.{Entry}
use Rattle.heap_rule.specs.declared.config.Config.{Config}
use Rattle.heap_rule.specs.declared.view.Own.{Own}
use Rattle.heap_rule.specs.Limits.{sizes_in}
use Rattle.heap_rule.specs.Token.{SharedHeap, IsIn}
use Rattle.run_turns.specs.declared.supply.Supply.TheVariants.{Open}
use Rattle.run_turns.specs.Runs.{MakesNow, MaySubmit, RunView, cleared, wanting}
use Rattle.run_turns.proofs.AtOnce.{HasWaited}
use Rattle.run_turns.proofs.Handed.{finalised_none, finalised_others, performed_on}
use Rattle.run_turns.proofs.Taking.{tried_takes}
use Rattle.run_turns.proofs.Turning.{stood, tried_count}
use Rattle.run_turns.specs.Singly.Driving.{Answered, Awaits}

-- a command that was made at once
pub now_answered : (h : SharedHeap) (old new : RunView) (c : model.Command) (reply : Reply) → IsIn old.token h → IsIn new.token h → old.supply ≡ Open → MakesNow h old new c reply → Answered h old.token.view c reply new
now_answered h old new c reply was here more m =
    let start : RunView = wanting old 0 in
    let run : new ≡ cleared old new.token = m.made.0 in
    let tried = m.made.1 in
    let d : ℕ = old.token.view.own.number in
    let front : List Entry = old.token.view.seen.front in
    let st = stood h start.token new.token c false reply tried.stands in
    let a : Answers (sizes_in h.config) d front new.token.view.seen.front (Command d c st.0) (Replied reply) = subst (λ (k : Config). Answers (sizes_in k) d front new.token.view.seen.front (Command d c st.0) (Replied reply)) was.1 st.1 in
    record {
      here = here;
      number = ap (λ (o : Own). o.number) tried.own;
      more = ap (λ (r : RunView). r.supply) run ∙ more;
      done = ap (λ (r : RunView). r.next) run ∙ sym (ap (λ (r : RunView). length r.commands) run);
      ran = [];
      performed = performed_on (sizes_in h.config) d front front new.token.view.seen.front c st.0 [] reply (finalised_none (sizes_in h.config) d front) (record { between = a.between; others = a.others; appends = a.appends; legal = a.legal; replies = a.replies });
      listed = let grew = tried_count h start.token new.token c false reply tried in omega (arith, grew);
      takes = let t = tried_takes h start.token new.token c false reply tried in record { labels_are = t.labels_are; room = t.room };
    }

-- a run whose command was put off may be given it still
pub may_still : (old new : RunView) (c : model.Command) → MaySubmit old c → HasWaited old new → MaySubmit new c
may_still old new c may w =
    let spare : new.spare ≡ old.spare = ap (λ (r : RunView). r.spare) w.run in
    let waits : length new.ran ≡ length old.ran = ap (λ (r : RunView). length r.ran) w.run in
    let labels : new.token.view.own.serial ≡ old.token.view.own.serial + 0 = w.takes.labels_are in
    let more = w.takes.room in
    record {
      more = ap (λ (r : RunView). r.supply) w.run ∙ may.more;
      done = ap (λ (r : RunView). r.next) w.run ∙ (may.done ∙ sym (ap (λ (r : RunView). length r.commands) w.run));
      fits = may.fits;
      enlists = let few = may.enlists in let same = w.listed in omega (arith, spare, waits, few, same);
      room = let enough = may.room in omega (arith, more, enough);
      labels = let few = may.labels in omega (arith, labels, few);
    }

-- and has been
pub handed_in : (h : SharedHeap) (old between new : RunView) (c : model.Command) → IsIn between.token h → old.supply ≡ Open → HasWaited old between → new ≡ record between { commands = c ∷ []; next = 0; replies = []; asked = None; collected = false } → Awaits h old.token.view c new
handed_in h old between new c here more w is = subst (λ (r : RunView). Awaits h old.token.view c r) (sym is) (record {
  here = here;
  number = w.number;
  more = ap (λ (r : RunView). r.supply) w.run ∙ more;
  commands = refl;
  next = refl;
  replies = refl;
  ran = [];
  finalised = finalised_others (sizes_in h.config) old.token.view.own.number old.token.view.seen.front old.token.view.seen.front between.token.view.seen.front [] (finalised_none (sizes_in h.config) old.token.view.own.number old.token.view.seen.front) w.front;
  listed = let same = w.listed in omega (arith, same);
  takes = w.takes;
})
