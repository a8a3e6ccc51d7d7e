-- The turns of a history of calls, and what their schedule prints.
use Rattle.std.proofs.Common.{◌≡◌, ◌≢◌, ℕ, true, false, eqb-true, IsTrue, inl, inr, ⊎_elim, List, [], ◌∷◌, ◌++◌, flat_map, map, Some, None, refl, ap, ap₂, sym, ◌∙◌, append_assoc, append-nil}
use Rattle.std.specs.Prelude.{codes, decimal}
use Rattle.std.specs.List.{list_all, list_any, range_with_len}
use Rattle.model_core.specs.declared.command.Command.{Command}
use Rattle.model_core.specs.declared.command.Command.TheVariants.{FullMajor}
use Rattle.model_core.specs.declared.entry.Entry.{Entry}
use Rattle.model_core.specs.declared.entry.Entry.TheVariants as entry
use Rattle.model_core.specs.declared.reply.Reply.{Reply}
use Rattle.model_core.specs.declared.state.Sizes.{Sizes}
use Rattle.model_core.specs.History.{replies}
use Rattle.model_core.specs.Output.{line, printed, section_text}
use Rattle.model_core.proofs.Reach.ReachLemmas.{and_right, or_cases}
use Rattle.text_script.specs.Forms.{version_number}
use Rattle.text_script.specs.Script.{Scripted}
use Rattle.text_script.specs.declared.version.Version.{Version}
use Rattle.text_script.specs.declared.version.Version.TheVariants.{One, Two, Three}
use Rattle.judge_plain.specs.History.Explains.{Explains}
use Rattle.judge_plain.specs.History.Steps.{is_end_of}
use Rattle.model_traces.specs.Orders.Turns.{IsScriptMade, is_call, turns_of}
use Rattle.model_traces.proofs.OfOrders.Calling.{interleaving_law}
use Rattle.model_traces.specs.Scheduled.Runs.{EndsIn}
use Rattle.model_traces.specs.declared.schedules.items.Item.{Item}
use Rattle.model_traces.specs.declared.schedules.items.Item.TheVariants.{Turn}
use Rattle.model_traces.specs.Schedules.Scheduled.{scheduled}
use Rattle.text_script.specs.Schedule.Text.Spelling.{item_text, spelling}
use Rattle.judge_outputs.specs.declared.turns.Phase.TheVariants.{Between}
use Rattle.judge_outputs.specs.Answer.{ExplainsScript, explains_by}
use Rattle.judge_outputs.specs.Judging.{IsInput}
use Rattle.judge_outputs.specs.Scheduling.{HasNoSchedule, PrintedTurns, PrintsTurns, turns_output}
use Rattle.judge_outputs.specs.Turns.{schedule_written, turns_from, turns_in}

-- a history of calls has their turns
calls_from : (items : List Item) (h : List Entry) → IsTrue (list_all is_call h) → turns_from items Between h ≡ Some (items ++ turns_of h)
calls_from items [] all = ap Some (sym (append-nil items))
calls_from items (entry.End d ∷ h) all = calls_from (items ++ Turn d ∷ []) h (and_right true (list_all is_call h) all) ∙ ap Some (append_assoc items (Turn d ∷ []) (turns_of h))
calls_from items (entry.Command d FullMajor full ∷ h) all = let clash : false ≡ true = all in cc
calls_from items (entry.Command d c true ∷ h) all = let clash : false ≡ true = all in cc
calls_from items (entry.Command d c false ∷ h) all = calls_from (items ++ Turn d ∷ []) h (and_right true (list_all is_call h) all) ∙ ap Some (append_assoc items (Turn d ∷ []) (turns_of h))
calls_from items (entry.Cut ∷ h) all = let clash : false ≡ true = all in cc
calls_from items (entry.Queue d places ∷ h) all = let clash : false ≡ true = all in cc
calls_from items (entry.Seal ∷ h) all = let clash : false ≡ true = all in cc
calls_from items (entry.Wipe l keys ∷ h) all = let clash : false ≡ true = all in cc
calls_from items (entry.Last d place ∷ h) all = let clash : false ≡ true = all in cc
calls_from items (entry.Collected ∷ h) all = let clash : false ≡ true = all in cc
calls_from items (entry.Done ∷ h) all = let clash : false ≡ true = all in cc
calls_from items (entry.Ran d ∷ h) all = let clash : false ≡ true = all in cc

-- an end that is among the entries
is_end : (d : ℕ) (e : Entry) → is_end_of d e ≡ true → e ≡ entry.End d
is_end d (entry.End k) is = ap (λ (n : ℕ). entry.End n) (eqb-true k d is)
is_end d (entry.Command k c full) is = cc
is_end d entry.Cut is = cc
is_end d (entry.Queue k places) is = cc
is_end d entry.Seal is = cc
is_end d (entry.Wipe l keys) is = cc
is_end d (entry.Last k place) is = cc
is_end d entry.Collected is = cc
is_end d entry.Done is = cc
is_end d (entry.Ran k) is = cc

ends_in : (d : ℕ) (h : List Entry) → IsTrue (list_any (is_end_of d) h) → EndsIn d h
ends_in d [] any = let clash : false ≡ true = any in cc
ends_in d (e ∷ h) any = ⊎_elim
    (λ here. record { before = []; after = h; is = ap (λ (x : Entry). x ∷ h) (is_end d e here) })
    (λ later. (let t = ends_in d h later in record { before = e ∷ t.before; after = t.after; is = ap (λ (k : List Entry). e ∷ k) t.is }))
    (or_cases (is_end_of d e) (list_any (is_end_of d) h) any)

-- where each domain has the same replies, the same is printed
sections_same : (z : Sizes) (h k : List Entry) (ds : List ℕ) → ((d : ℕ) → replies z h d ≡ replies z k d) → flat_map (section_text z h) ds ≡ flat_map (section_text z k) ds
sections_same z h k [] same = refl
sections_same z h k (d ∷ ds) same = ap₂ (λ (a b : List ℕ). a ++ b) (ap (λ (rs : List Reply). line (codes "domain " ++ decimal d) ++ printed rs) (same d)) (sections_same z h k ds same)

are_turns : (h : List Entry) (items : List Item) → turns_in h ≡ Some items → IsTrue (list_all is_call h) → items ≡ turns_of h
are_turns h items turns all = let both : Some items ≡ Some (turns_of h) = sym turns ∙ calls_from [] h all in cc

-- the schedule of the turns of a history of calls prints what it prints
calls_print : (z : Sizes) (sections : List (List Command)) (bytes : List ℕ) (h : List Entry) → Explains z sections bytes h → IsTrue (list_all is_call h) → turns_output z sections (turns_of h) ≡ bytes
calls_print z sections bytes h x all =
    let made : IsScriptMade z sections h = record { legal = x.run.legal; commands_are = x.run.each_command; ends = λ d below. ends_in d h (x.run.each_ends d below) } in
    sections_same z (scheduled z sections (turns_of h)) h (range_with_len 0 z.domains) (interleaving_law z sections h made all) ∙ x.prints

by_version : (v : Version) (z : Sizes) (sections : List (List Command)) (bytes : List ℕ) (h : List Entry) → version_number v ≢ 3 → explains_by v z sections bytes h → Explains z sections bytes h
by_version One z sections bytes h other x = x
by_version Two z sections bytes h other x = x
by_version Three z sections bytes h other x = absurd (other refl)

-- a schedule is written as it is spelled
lines_mapped : (items : List Item) → flat_map (λ i. line (item_text i)) items ≡ flat_map line (map item_text items)
lines_mapped [] = refl
lines_mapped (i ∷ items) = ap (λ (rest : List ℕ). line (item_text i) ++ rest) (lines_mapped items)

written_spelling : (items : List Item) → schedule_written items ≡ spelling items
written_spelling items = ap (λ (rest : List ℕ). line (codes "schedule 1") ++ rest ++ line (codes "end")) (lines_mapped items)

-- a history of calls has a schedule
not_calls : (z : Sizes) (script : Scripted) (shown : List ℕ) (h : List Entry) → ExplainsScript z script shown h → PrintedTurns z script shown h None → version_number script.version ≢ 3 → IsTrue (list_all is_call h) → ⊥
not_calls z script shown h x (inl (inl third)) older all = older third
not_calls z script shown h x (inl (inr none)) older all = let clash : None ≡ Some (turns_of h) = sym none ∙ calls_from [] h all in cc
not_calls z script shown h x (inr (items, found, other)) older all =
    let is = are_turns h items found.1 all in
    other (ap (λ (t : List Item). turns_output z script.sections t) is ∙ calls_print z script.sections shown h (by_version script.version z script.sections shown h older x) all)

-- where none were found nothing is written
pub no_turns : (z : Sizes) (bytes out text : List ℕ) (script : Scripted) (h : List Entry) → IsInput z.domains bytes script out → ExplainsScript z script out h → PrintedTurns z script out h None → text ≡ [] → HasNoSchedule z bytes text
no_turns z bytes out text script h input x none is = record { script = script; output = out; input = input; history = h; explains = x; none = none; no_calls = not_calls z script out h x none; text_is = is }

-- the turns that were found are written
pub printed_turns : (z : Sizes) (bytes out text : List ℕ) (script : Scripted) (h : List Entry) (items : List Item) → IsInput z.domains bytes script out → ExplainsScript z script out h → PrintedTurns z script out h (Some items) → text ≡ schedule_written items → PrintsTurns z bytes text
printed_turns z bytes out text script h items input x (found, prints) is = record {
  script = script;
  output = out;
  input = input;
  history = h;
  explains = by_version script.version z script.sections out h found.0 x;
  items = items;
  turns = found.1;
  prints = prints;
  text_is = is ∙ written_spelling items;
  calls = are_turns h items found.1;
}
