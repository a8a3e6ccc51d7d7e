-- Call by call, and the end.
use Rattle.std.proofs.Common.{◌≡◌, List, [], ◌∷◌, ◌++◌, map, ap, sym, ◌∙◌, append_assoc, append-nil}
use Rattle.std.specs.Prelude.{flat_map}
use Rattle.model_core.specs.declared.command.Command.{Command}
use Rattle.model_core.specs.declared.entry.Entry.{Entry}
use Rattle.model_core.specs.declared.entry.Entry.TheVariants.{End}
use Rattle.model_core.specs.declared.reply.Reply.{Reply}
use Rattle.model_core.specs.declared.state.Sizes.{Sizes}
use Rattle.model_core.specs.Domains.{opening}
use Rattle.model_core.specs.History.{commands, replies, state_after}
use Rattle.model_core.proofs.Histories.HistoryLemmas.{commands-append, commands-others, commands-push, replies_from-append, replies_from-others, replies-push}
use Rattle.run_turns.proofs.Handed.{finalised_commands, finalised_replies, performed_commands, performed_replies}
use Rattle.weak_laws.proofs.OfTables.StepLemmas.{collector_none}
use Rattle.run_session.specs.Stopping.{EndsAfter}
use Rattle.check_laws.specs.Sessions.Sessions.{AreCalled, Call, SessionsMakeTheirCalls, answers_of}

called_commands : (z : Sizes) (old : List Entry) (calls : List Call) (new : List Entry) → AreCalled z old calls new → commands new 0 ≡ commands old 0 ++ map (λ c. c.command) calls
called_commands z old [] new is = ap (λ (h : List Entry). commands h 0) is ∙ sym (append-nil (commands old 0))
called_commands z old (c ∷ calls) new (mid, performed, more) =
    called_commands z mid calls new more
    ∙ (ap (λ (cs : List Command). cs ++ map (λ c. c.command) calls) (performed_commands z 0 old mid c.command c.ran c.reply performed) ∙ append_assoc (commands old 0) (c.command ∷ []) (map (λ c. c.command) calls))

called_replies : (z : Sizes) (old : List Entry) (calls : List Call) (new : List Entry) → AreCalled z old calls new → replies z new 0 ≡ replies z old 0 ++ flat_map answers_of calls
called_replies z old [] new is = ap (λ (h : List Entry). replies z h 0) is ∙ sym (append-nil (replies z old 0))
called_replies z old (c ∷ calls) new (mid, performed, more) =
    called_replies z mid calls new more
    ∙ (ap (λ (rs : List Reply). rs ++ flat_map answers_of calls) (performed_replies z 0 old mid c.command c.ran c.reply performed) ∙ append_assoc (replies z old 0) (c.ran ++ c.reply ∷ []) (flat_map answers_of calls))

-- the end adds no command, and no reply but those of the finalisers
ended_commands : (z : Sizes) (front history : List Entry) → EndsAfter z front history → commands history 0 ≡ commands front 0
ended_commands z front history e =
    ap (λ (h : List Entry). commands h 0) e.appends
    ∙ (commands-append (e.before ++ End 0 ∷ []) e.after 0
    ∙ ((λ i. commands-push e.before (End 0) 0 i ++ commands-others e.after 0 (collector_none e.after 0 e.last) i)
    ∙ (append-nil (commands e.before 0 ++ []) ∙ (append-nil (commands e.before 0) ∙ finalised_commands z 0 front e.before e.ran e.finalised))))

ended_replies : (z : Sizes) (front history : List Entry) → (e : EndsAfter z front history) → replies z history 0 ≡ replies z front 0 ++ e.ran
ended_replies z front history e =
    ap (λ (h : List Entry). replies z h 0) e.appends
    ∙ (replies_from-append (opening z) (e.before ++ End 0 ∷ []) e.after 0
    ∙ ((λ i. replies-push z e.before (End 0) 0 i ++ replies_from-others (state_after (opening z) (e.before ++ End 0 ∷ [])) e.after 0 (collector_none e.after 0 e.last) i)
    ∙ (append-nil (replies z e.before 0 ++ []) ∙ (append-nil (replies z e.before 0) ∙ finalised_replies z 0 front e.before e.ran e.finalised))))

pub session_law : SessionsMakeTheirCalls
session_law z calls front history called ends = record {
  commands_are = ended_commands z front history ends ∙ called_commands z [] calls front called;
  last_ran = ends.ran;
  replies_are = ended_replies z front history ends ∙ ap (λ (rs : List Reply). rs ++ ends.ran) (called_replies z [] calls front called);
}
