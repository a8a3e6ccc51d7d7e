use Rattle.std.proofs.Common.{◌∙◌, ap, sym, Some, None}
use Rattle.std.specs.Prelude.{option_map}
use Rattle.text_script.specs.declared.words.options.Given.{Given}
use Rattle.text_script.specs.declared.words.options.Read.{Read}
use Rattle.text_script.specs.Words.Options.{settled}
use Rattle.text_script.proofs.words.words.read_text.Goals as goal

pub returns : goal.returns
returns c =
    let read : Given → Read = λ g. record { given = g; waiting = None } in
    ap (λ (g : Given). Some (read g)) c.with.ensures ∙ ap (option_map (settled c.args.read c.args.setting)) (sym c.in_ok-number.was ∙ c.number.ensures)
