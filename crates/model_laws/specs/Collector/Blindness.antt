-- What a program sees of the collector: of two histories in which it makes the same calls, no more than weak reads, refusals, finalisers and the counts of live blocks.
use Rattle.std.specs.Prelude.{◌≡◌, Bool, true, false, not, cond, IsTrue, List, [], ◌∷◌, ◌++◌, flat_map}
use Rattle.std.specs.List.{list_all}
use Rattle.model_core.specs.declared.command.Command as declared_command
use Rattle.model_core.specs.declared.command.Command.TheVariants.{GetKey, CheckKey, GetData, CheckData, FullMajor}
use Rattle.model_core.specs.declared.entry.Entry.{Entry}
use Rattle.model_core.specs.declared.entry.Entry.TheVariants.{Command, End, Ran}
use Rattle.model_core.specs.declared.reply.Applied.{Applied}
use Rattle.model_core.specs.declared.state.Sizes.{Sizes}
use Rattle.model_core.specs.declared.state.State.{State}
use Rattle.model_core.specs.Domains.{opening}
use Rattle.model_core.specs.Entries.{next, reply}

-- whether a domain makes an entry: all others are the collector's
abbrev pub is_made : Entry → Bool
is_made (Command d c full) = true
is_made (End d) = true
is_made (Ran d) = true
is_made _ = false

-- the entries that domains make, in order
abbrev pub made : List Entry → List Entry
made h = flat_map (λ e. cond (is_made e) (e ∷ []) []) h

-- whether an entry runs a finaliser
abbrev pub is_run : Entry → Bool
is_run (Ran d) = true
is_run _ = false

-- whether a command takes something out of an ephemeron
abbrev pub takes_out : declared_command.Command → Bool
takes_out (GetKey dst ephe index) = true
takes_out (GetData dst ephe) = true
takes_out _ = false

-- whether a command only looks at what the collector may have done
abbrev pub only_looks : declared_command.Command → Bool
only_looks (CheckKey ephe index) = true
only_looks (CheckData ephe) = true
only_looks FullMajor = true
only_looks _ = false

-- whether an entry is one of these
abbrev pub is_taking : Entry → Bool
is_taking (Command d c full) = takes_out c
is_taking _ = false

-- whether an entry is a call that doesn't look
abbrev pub is_blind : Entry → Bool
is_blind (Command d c full) = not (only_looks c)
is_blind (End d) = true
is_blind _ = false

-- the replies to the entries that pass a test, in order
abbrev pub replies_where : (Entry → Bool) → State → List Entry → List Applied
replies_where test s [] = []
replies_where test s (e ∷ h) = cond (test e) (reply s e ∷ []) [] ++ replies_where test (next s e) h

-- Two histories in which domains make the same entries in the same order, none of them the run of a finaliser. If what is taken out of ephemerons is the same, all replies are but those of `check_key`, `check_data` and `full_major`
abbrev pub CollectorIsUnseen : Type 0
CollectorIsUnseen = (z : Sizes) (h k : List Entry) → made k ≡ made h → IsTrue (list_all (λ e. not (is_run e)) h)
    → replies_where is_taking (opening z) k ≡ replies_where is_taking (opening z) h → replies_where is_blind (opening z) k ≡ replies_where is_blind (opening z) h
