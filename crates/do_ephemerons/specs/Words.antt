-- Where the words of an ephemeron lie.
use Rattle.std.specs.Prelude.{ℕ, Option}
use Rattle.model_core.specs.declared.reply.Reply.{Reply}
use Rattle.heap_words.specs.declared.value.Value.{Value}
use Rattle.heap_words.specs.declared.value.Value.TheVariants.{Ref}
use Rattle.heap_rule.specs.declared.config.Config.{Config}
use Rattle.heap_rule.specs.Changes.{value_at}
use Rattle.heap_rule.specs.Token.{Token}
use Rattle.do_fields.specs.Fields.Remembered.{PutsYoung, Remembers}
use Rattle.step_ephemerons.specs.Commands.Loads.{word_of}
use Rattle.do_ephemerons.specs.Items.{value_of}

-- the address of a key or of the datum of the ephemeron that the value is
abbrev pub word_in : Value → Option ℕ → ℕ
word_in (Ref a) key = word_of key a
word_in _ key = 0

-- of what the domain owns only the fields that it remembers may change, where a word of the ephemeron in a register is set to what another holds, or to nothing
abbrev pub WordRemembers : Config → Reply → ℕ → Option ℕ → Option ℕ → Token → Token → Type 0
WordRemembers k reply ephe key item old new = Remembers
    (PutsYoung k reply (value_at old.view.own.registers ephe) (value_of old.view.own.registers item))
    (word_in (value_at old.view.own.registers ephe) key) old new
