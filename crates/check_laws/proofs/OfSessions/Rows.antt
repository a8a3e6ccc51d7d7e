-- Worked rows: a session whose finaliser runs before a call, and calls that such a history doesn't have.
use Rattle.std.proofs.Common.{◌≡◌, false, List, [], ◌∷◌, ◌++◌, pos, refl, sym, append-nil, rules}
use Rattle.model_core.specs.declared.label.Label.{Label}
use Rattle.model_core.specs.declared.command.Command as declared_command
use Rattle.model_core.specs.declared.command.Command.TheVariants.{Alloc, Finalise, Forget, FullMajor, PutInt}
use Rattle.model_core.specs.declared.entry.Entry.{Entry}
use Rattle.model_core.specs.declared.entry.Entry.TheVariants.{Command, End, Cut, Queue, Seal, Collected, Done, Ran}
use Rattle.model_core.specs.declared.reply.Reply.{Reply}
use Rattle.model_core.specs.declared.reply.Reply.TheVariants.{Done as Ok, Block, Fin, Live}
use Rattle.model_core.specs.declared.state.Sizes.{Sizes}
use Rattle.model_core.specs.Domains.{opening}
use Rattle.model_core.specs.Reach.{reachable}
use Rattle.model_core.specs.History.{Legal, commands, replies, replies_from, state_after}
use Rattle.run_turns.specs.Handed.{Finalised, OnlyRuns}
use Rattle.run_session.specs.Stopping.{EndsAfter}
use Rattle.check_laws.specs.Sessions.Sessions.{AreCalled, Call, IsSessionOf}
use Rattle.check_laws.proofs.OfSessions.Calling.{session_law}

abbrev sizes : Sizes
sizes = record { domains = 1; pools = 512; minor_words = 32768; classes = 6 }

abbrev label : Label
label = record { domain = 0; serial = 1 }

abbrev call : declared_command.Command → List Reply → Reply → Call
call c ran r = record { command = c; ran = ran; reply = r }

-- the block that waits in the queue
abbrev live : Reply
live = Live 1 3

-- alloc 0 0 1, finalise 0 7 1, forget 0, full_major, int 0 5: the finaliser runs before the last
abbrev calls : List Call
calls = call (Alloc 0 0 1) [] (Block label) ∷ call (Finalise 0 7 1) [] Ok ∷ call (Forget 0) [] Ok ∷ call FullMajor [] live ∷ call (PutInt 0 (pos 5)) (Fin 7 label ∷ []) Ok ∷ []

abbrev asked : List Entry
asked = Command 0 (Alloc 0 0 1) false ∷ Command 0 (Finalise 0 7 1) false ∷ Command 0 (Forget 0) false ∷ []

abbrev collected : List Entry
collected = asked ++ Cut ∷ Queue 0 (0 ∷ []) ∷ Seal ∷ Collected ∷ Command 0 FullMajor false ∷ []

abbrev front : List Entry
front = collected ++ Done ∷ Ran 0 ∷ Command 0 (PutInt 0 (pos 5)) false ∷ []

abbrev history : List Entry
history = front ++ End 0 ∷ []

abbrev made : List Entry
made = Command 0 (Alloc 0 0 1) false ∷ []

abbrev registered : List Entry
registered = Command 0 (Alloc 0 0 1) false ∷ Command 0 (Finalise 0 7 1) false ∷ []

-- a front that grows by these entries, among which these finalisers run, and by a command
grown : (old rest : List Entry) (ran : List Reply) → OnlyRuns 0 rest → replies_from (state_after (opening sizes) old) rest 0 ≡ ran → Finalised sizes 0 old (old ++ rest) ran
grown old rest ran runs are = record { rest = rest; appends = refl; runs = runs; ran_are = are }

none_ran : (old : List Entry) → Finalised sizes 0 old old []
none_ran old = record { rest = []; appends = sym (append-nil old); runs = refl; ran_are = refl }

called : AreCalled sizes [] calls front
unfolding reachable
called = (
  made,
  record { before = []; finalised = none_ran []; full = false; appends = refl; legal = search rules; replies = refl },
  (
    registered,
    record { before = made; finalised = none_ran made; full = false; appends = refl; legal = search rules; replies = refl },
    (
      asked,
      record { before = registered; finalised = none_ran registered; full = false; appends = refl; legal = search rules; replies = refl },
      (
        collected,
        record { before = asked ++ Cut ∷ Queue 0 (0 ∷ []) ∷ Seal ∷ Collected ∷ []; finalised = grown asked (Cut ∷ Queue 0 (0 ∷ []) ∷ Seal ∷ Collected ∷ []) [] refl refl; full = false; appends = refl; legal = search rules; replies = refl },
        (front, record { before = collected ++ Done ∷ Ran 0 ∷ []; finalised = grown collected (Done ∷ Ran 0 ∷ []) (Fin 7 label ∷ []) refl refl; full = false; appends = refl; legal = search rules; replies = refl }, refl),
      ),
    ),
  ),
)

ends : EndsAfter sizes front history
unfolding reachable
ends = record { before = front; ran = []; finalised = none_ran front; after = []; last = refl; appends = refl; legal = search rules }

-- so the history is the session of these calls
is_session : IsSessionOf sizes calls history
is_session = session_law sizes calls front history called ends

-- and not of the same calls without what the finaliser answered, wherever it would have run
abbrev unheard : List Call
unheard = call (Alloc 0 0 1) [] (Block label) ∷ call (Finalise 0 7 1) [] Ok ∷ call (Forget 0) [] Ok ∷ call FullMajor [] live ∷ call (PutInt 0 (pos 5)) [] Ok ∷ []

not_unheard : IsSessionOf sizes unheard history → ⊥
unfolding reachable
not_unheard is = let clash : replies sizes history 0 ≡ (Block label ∷ Ok ∷ Ok ∷ live ∷ Ok ∷ []) ++ is.last_ran = is.replies_are in cc

-- nor of fewer calls
not_fewer : IsSessionOf sizes (call (Alloc 0 0 1) [] (Block label) ∷ []) history → ⊥
not_fewer is = let clash : commands history 0 ≡ Alloc 0 0 1 ∷ [] = is.commands_are in cc
