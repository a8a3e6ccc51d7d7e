-- What is known of a script that was read: its sections, and the numbers of its commands.
use Rattle.text_script.specs.declared.version.Version.{Version}
use Rattle.text_script.specs.Script.{Scripted}
use Rattle.std.proofs.Common.{◌≡◌, ℕ, ◌-◌, ◌≤◌, List, [], length, length-append, take, replicate, refl, ap, sym, ◌∙◌, arith}
use Rattle.std.proofs.lemmas.List.{take_at, length-replicate}
use Rattle.model_core.specs.declared.command.Command.{Command}
use Rattle.text_script.specs.Spelling.{spelling, Spells}

-- a script has a section for each domain
pub length-script : (newest : Version) (domains : ℕ) (script : Scripted) (bytes : List ℕ) → Spells newest domains script bytes → length script.sections ≡ domains
length-script newest domains script bytes w =
    omega (arith, ap length w.script_is, length-append w.written (replicate (domains - length w.written) []), length-replicate {A = List Command} (domains - length w.written) [], w.is_written.few_sections)

-- a script prints as its bytes, up to the last section that is written
pub printed_again : (newest : Version) (domains : ℕ) (script : Scripted) (bytes : List ℕ) → Spells newest domains script bytes → (written : ℕ) × (written ≤ length script.sections) × (bytes ≡ spelling script.version (take written script.sections))
printed_again newest domains script bytes w =
    let front = take_at w.written (replicate (domains - length w.written) []) (length w.written) refl in (
      length w.written,
      omega (arith, length-script newest domains script bytes w, w.is_written.few_sections),
      w.bytes_are ∙ ap (spelling script.version) (sym front) ∙ ap (λ s. spelling script.version (take (length w.written) s)) (sym w.script_is),
    )
