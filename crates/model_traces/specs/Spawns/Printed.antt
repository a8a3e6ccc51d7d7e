-- Which replies of a run with the hidden block are printed: those of commands that a script has, and for each of the four that stand for several others that of one entry.
use Rattle.std.specs.Prelude.{◌≡◌, ◌<◌, ℕ, Bool, true, false, not, cond, ◌==◌, ◌&&◌, nat_lt, if◌then◌else◌, List, [], ◌∷◌, ◌++◌, codes, decimal, flat_map}
use Rattle.std.specs.List.{range_with_len}
use Rattle.model_core.specs.declared.command.Command as declared_command
use Rattle.model_core.specs.declared.command.Command.TheVariants.{PutInt, Forget, AllocMaj, Load, Store}
use Rattle.model_core.specs.declared.entry.Entry.{Entry}
use Rattle.model_core.specs.declared.entry.Entry.TheVariants.{Command, Ran}
use Rattle.model_core.specs.declared.reply.Reply.{Reply}
use Rattle.model_core.specs.declared.state.Sizes.{Sizes}
use Rattle.model_core.specs.declared.state.State.{State}
use Rattle.model_core.specs.Domains.{opening}
use Rattle.model_core.specs.Entries.{next, reply}
use Rattle.model_core.specs.History.{reply_list}
use Rattle.model_core.specs.Output.{line, printed}
use Rattle.model_traces.specs.Spawns.Hidden.{hidden, scratch, flag_of, argument_of, result_of}
use Rattle.model_traces.specs.Spawns.Expansion.{Step, IsExpansion, IsSection, AreFitting}

-- whether the reply of a store into the hidden block is printed: of a spawn the last store is, which writes another section's flag, and of a `result` its own
abbrev pub is_hidden_store_printed : ℕ → ℕ → Bool
is_hidden_store_printed d index = if nat_lt index (argument_of 0) then not (index == flag_of d) else not (nat_lt index (result_of 0))

-- whether the reply of domain d's command is printed
abbrev pub is_printed : ℕ → declared_command.Command → Bool
is_printed d (PutInt dst value) = nat_lt dst scratch
is_printed d (Forget dst) = nat_lt dst scratch
is_printed d (AllocMaj dst tag fields) = nat_lt dst scratch
is_printed d (Load dst src index) = nat_lt dst scratch
is_printed d (Store block index item) = if block == hidden then is_hidden_store_printed d index else nat_lt item scratch
is_printed d _ = true

-- the replies that steps of domain d print
abbrev pub printed_of : ℕ → List Step → List Reply
printed_of d xs = flat_map (λ x. cond (is_printed d x.command) (x.answer ∷ []) []) xs

-- each command of section d prints one reply, that of the last of its steps
abbrev pub PrintLasts : ℕ → List declared_command.Command → List Step → List Reply → Type 0
PrintLasts d [] xs rs = rs ≡ []
PrintLasts d (c ∷ cs) xs rs =
    (early : List Step) × (last : Step) × (later : List Step) × (more : List Reply)
    × (xs ≡ (early ++ last ∷ []) ++ later) × IsExpansion d c (early ++ last ∷ []) × (rs ≡ last.answer ∷ more) × PrintLasts d cs later more

-- so a section prints one reply for each of its commands, and none at its start and at its end
abbrev pub PrintLaw : Type 0
PrintLaw = (d : ℕ) (spawned : Bool) (cs : List declared_command.Command) (xs : List Step) → d < 8 → AreFitting d cs → (is : IsSection d spawned cs xs) → PrintLasts d cs is.middle (printed_of d xs)

-- whether an entry's reply is printed in domain d's section
abbrev pub is_printed_entry : ℕ → Entry → Bool
is_printed_entry d (Command k c full) = k == d && is_printed d c
is_printed_entry d (Ran k) = k == d
is_printed_entry d _ = false

-- the replies of domain d that are printed, in order
abbrev pub printed_replies_from : State → List Entry → ℕ → List Reply
printed_replies_from s [] d = []
printed_replies_from s (e ∷ h) d = cond (is_printed_entry d e) (reply_list (reply s e)) [] ++ printed_replies_from (next s e) h d

-- in a history
abbrev pub printed_replies : Sizes → List Entry → ℕ → List Reply
printed_replies z h d = printed_replies_from (opening z) h d

-- the heading and the lines of domain d
abbrev pub spawning_section_text : Sizes → List Entry → ℕ → List ℕ
spawning_section_text z h d = line (codes "domain " ++ decimal d) ++ printed (printed_replies z h d)

-- what a run of a script with spawns prints
abbrev pub spawning_output : Sizes → List Entry → List ℕ
spawning_output z h = flat_map (spawning_section_text z h) (range_with_len 0 z.domains)
