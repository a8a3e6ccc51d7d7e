-- How many labels a domain has given out once its command is made.
use Rattle.std.proofs.Common.{◌≡◌, ◌∙◌, ℕ, ◌+◌, Bool, true, false, IsTrue, not, List, [], ◌∷◌, ◌++◌, append-nil, refl, sym, ap, subst}
use Rattle.std.specs.Prelude.{◌==◌, ◌||◌}
use Rattle.model_core.specs.declared.command.Command as model
use Rattle.model_core.specs.declared.entry.Entry.{Entry}
use Rattle.model_core.specs.declared.entry.Entry.TheVariants.{Command, End, Cut, Queue, Seal, Wipe, Last, Collected, Done, Ran}
use Rattle.model_core.specs.declared.reply.Reply.{Reply}
use Rattle.model_core.specs.declared.reply.Applied.TheVariants.{Replied}
use Rattle.model_core.specs.declared.state.Pending.{Pending}
use Rattle.model_core.specs.declared.state.Pending.TheVariants.{Fin, Last as LastPending}
use Rattle.model_core.specs.declared.state.Sizes.{Sizes}
use Rattle.model_core.specs.declared.state.State.{State}
use Rattle.model_core.specs.Domains.{IsWithinLimits, domain_at, opening, with_domain}
use Rattle.model_core.specs.Entries.{after_run, next, reply, without_first}
use Rattle.model_core.specs.History.{is_entry_of, state_after}
use Rattle.model_core.proofs.Commands.FrameLemmas.{keeps_next, part_set}
use Rattle.model_core.proofs.Graphs.GraphLemmas.{and_parts}
use Rattle.model_core.proofs.Histories.HistoryLemmas.{state_after-append}
use Rattle.model_core.specs.Counts.Counts.{labels_given}
use Rattle.run_turns.specs.Handed.{OnlyRuns, PerformedOn}
use Rattle.run_turns.specs.Kept.{is_run_of}
use Rattle.weak_laws.proofs.OfTables.LabelLemmas.{performed_labels}

abbrev serial_of : State → ℕ
serial_of s = (domain_at s 0).serial

run_serial : (s : State) (d : ℕ) (queue : List Pending) → serial_of (after_run s d queue) ≡ serial_of s
run_serial s d [] = refl
run_serial s d (Fin number l r ∷ rest) =
    let first : State = with_domain s d (without_first (domain_at s d) rest) in
    part_set (λ y. y.serial) first.domains d _ refl 0 ∙ part_set (λ y. y.serial) s.domains d (without_first (domain_at s d) rest) refl 0
run_serial s d (LastPending number ∷ rest) = part_set (λ y. y.serial) s.domains d (without_first (domain_at s d) rest) refl 0

not_own : (b : Bool) → IsTrue (not b || false) → b ≡ false
not_own true is = cc
not_own false is = refl

-- an entry of another and the run of a finaliser give out none
one_serial : (s : State) (e : Entry) → IsTrue (not (is_entry_of 0 e) || is_run_of 0 e) → serial_of (next s e) ≡ serial_of s
one_serial s (Ran d) runs = run_serial s d (domain_at s d).queue
one_serial s (Command d c full) runs = (keeps_next s (Command d c full) 0 (not_own (d == 0) runs)).serial
one_serial s (End d) runs = (keeps_next s (End d) 0 (not_own (d == 0) runs)).serial
one_serial s Cut runs = (keeps_next s Cut 0 refl).serial
one_serial s (Queue d places) runs = (keeps_next s (Queue d places) 0 refl).serial
one_serial s Seal runs = (keeps_next s Seal 0 refl).serial
one_serial s (Wipe l keys) runs = (keeps_next s (Wipe l keys) 0 refl).serial
one_serial s (Last d place) runs = (keeps_next s (Last d place) 0 refl).serial
one_serial s Collected runs = (keeps_next s Collected 0 refl).serial
one_serial s Done runs = (keeps_next s Done 0 refl).serial

runs_serial : (s : State) (h : List Entry) → OnlyRuns 0 h → serial_of (state_after s h) ≡ serial_of s
runs_serial s [] runs = refl
runs_serial s (e ∷ h) runs =
    let parts = and_parts (not (is_entry_of 0 e) || is_run_of 0 e) _ runs in
    runs_serial (next s e) h parts.1 ∙ one_serial s e parts.0

-- a command that is performed gives out its label, and nothing before it any
pub made_labels : (z : Sizes) → IsWithinLimits z → (old new : List Entry) (c : model.Command) (ran : List Reply) (r : Reply) → PerformedOn z 0 old new c ran r
    → serial_of (state_after (opening z) new) ≡ serial_of (state_after (opening z) old) + labels_given c r
made_labels z limits old new c ran r p =
    let b : List Entry = p.before in
    let same : b ++ [] ≡ b = append-nil b in
    let before : serial_of (state_after (opening z) b) ≡ serial_of (state_after (opening z) old) =
    ap (λ (h : List Entry). serial_of (state_after (opening z) h)) p.finalised.appends ∙ (ap serial_of (state_after-append (opening z) old p.finalised.rest) ∙ runs_serial (state_after (opening z) old) p.finalised.rest p.finalised.runs) in
    performed_labels z limits b new c r (record {
      between = [];
      collector = refl;
      full = p.full;
      appends = p.appends ∙ ap (λ (h : List Entry). h ++ Command 0 c p.full ∷ []) (sym same);
      legal = p.legal;
      replies = subst (λ (h : List Entry). reply (state_after (opening z) h) (Command 0 c p.full) ≡ Replied r) (sym same) p.replies;
    }) ∙ ap (λ (n : ℕ). n + labels_given c r) before
