-- A row tells its command.
use Rattle.std.proofs.Common.{◌≡◌, ℕ, Bool, List, [], ◌∷◌, refl, ap, sym, ◌∙◌}
use Rattle.std.specs.Prelude.{◌↔◌, IsTrue, ℤ, pos}
use Rattle.model_core.specs.declared.command.Command.{Command}
use Rattle.model_core.specs.declared.command.Command.TheVariants.{PutInt}
use Rattle.text_script.specs.declared.form.Word.TheVariants as word
use Rattle.text_script.specs.declared.form.Word.{Word}
use Rattle.text_script.proofs.FormLemmas.{whole}
use Rattle.judge_plain.specs.declared.history.command.Row.{Row}
use Rattle.judge_plain.specs.History.Rows.{row_of}

-- the numbers of a row as those of a line
abbrev numbers_of : Word → Row → List ℤ
numbers_of word.Int r = pos r.a ∷ r.value ∷ []
numbers_of w r = pos r.a ∷ pos r.b ∷ pos r.c ∷ pos r.d ∷ []

-- the command of a row
abbrev told_by : Row → Command
told_by r = whole r.word (numbers_of r.word r)

told_by-row : (c : Command) → told_by (row_of c) ≡ c
told_by-row (PutInt dst value) = refl
told_by-row _ = refl

-- a row of six parts
abbrev row_with : Word → ℤ → ℕ → ℕ → ℕ → ℕ → Row
row_with w z a b c d = record { word = w; value = z; a = a; b = b; c = c; d = d }

-- rows with the same parts are the same
pub same_parts : (r s : Row) → r.word ≡ s.word → r.value ≡ s.value → r.a ≡ s.a → r.b ≡ s.b → r.c ≡ s.c → r.d ≡ s.d → r ≡ s
same_parts r s w z a b c d =
    ap (λ x. row_with x r.value r.a r.b r.c r.d) w ∙ ap (λ x. row_with s.word x r.a r.b r.c r.d) z
    ∙ ap (λ x. row_with s.word s.value x r.b r.c r.d) a ∙ ap (λ x. row_with s.word s.value s.a x r.c r.d) b
    ∙ ap (λ x. row_with s.word s.value s.a s.b x r.d) c ∙ ap (λ x. row_with s.word s.value s.a s.b s.c x) d

-- commands with one row are the same, and one command has one row
pub rows_tell : (x y : Command) (r s : Row) (b : Bool) → r ≡ row_of x → s ≡ row_of y → (IsTrue b ↔ (r ≡ s)) → (IsTrue b ↔ (x ≡ y))
rows_tell x y r s b is other same = (
  (λ t. sym (told_by-row x) ∙ ap told_by (sym is ∙ same.0 t ∙ other) ∙ told_by-row y),
  (λ e. same.1 (is ∙ ap row_of e ∙ sym other)),
)
