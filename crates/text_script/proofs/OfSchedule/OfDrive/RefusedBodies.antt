-- What the clauses of the calls on the runs refuse.
use Rattle.std.proofs.Common.{true≢false, ◌≡◌, ◌∙◌, ℕ, true, false, List, ◌∷◌, sym}
use Rattle.model_core.specs.declared.command.Command.{Command}
use Rattle.model_core.specs.declared.command.Command.TheVariants.{FullMajor}
use Rattle.model_core.specs.declared.entry.Entry.{Entry}
use Rattle.model_core.specs.declared.state.Sizes.{Sizes}
use Rattle.text_script.specs.declared.schedule.drive.together.Stepped.TheVariants.{Needs}
use Rattle.text_script.specs.Schedule.Drive.Together.{AllRuns, OneRun, Passed, TurnTells}

-- once a pause has begun for it no command asks for another one that isn't complete
pub no_command_asks_again : (z : Sizes) (shares : List Entry → Type 0) (d : ℕ) (x y : OneRun) (own : List Entry) → TurnTells z shares d x y own (Needs false) → x.asked ≡ true → x.paused ≡ true → ⊥
no_command_asks_again z shares d x y own tells asked paused = true≢false (sym asked ∙ tells.2 (λ once. paused))

-- no domain runs again behind a complete collection whose `full_major` has asked for it and wasn't answered
pub no_full_major_is_left_waiting : (old_shares new_shares : List Entry → Type 0) (old new : AllRuns) (d : ℕ) (p : Passed old_shares new_shares old new d) (others : List Command)
    → old.complete ≡ true → p.becomes.runs ≡ true → p.becomes.left ≡ FullMajor ∷ others → p.becomes.asked ≡ true → ⊥
no_full_major_is_left_waiting old_shares new_shares old new d p others complete runs left asked = true≢false (sym asked ∙ p.served complete runs others left)
