-- Which replies a step of the machine refuses.
use Rattle.std.proofs.Common.{◌≡◌, ⊎_elim, ℕ, ℤ, List, Option, Some, None, ap, sym, ◌∙◌, subst}
use Rattle.model_core.specs.declared.label.Label.{Label}
use Rattle.model_core.specs.declared.state.Sizes.{Sizes}
use Rattle.table_text.specs.declared.version.Version.{Version}
use Rattle.table_text.specs.declared.line.TableLine.{TableLine}
use Rattle.table_text.specs.declared.line.TableLine.TheVariants.{Put}
use Rattle.table_text.specs.declared.machine.reply.LineReply.{LineReply}
use Rattle.table_text.specs.declared.machine.reply.LineReply.TheVariants as reply
use Rattle.table_text.specs.Machine.Machine.{TableState, Binds, WithKey, LineStep, key_in}
use Rattle.model_core.specs.declared.graph.Value.TheVariants.{Int}

-- `put` of a register that holds nothing is answered `type`, however few blocks are free
pub no_full_without_a_key : (version : Version) (z : Sizes) (lines : List TableLine) (r : ℕ) (v : ℤ) (s : TableState) (a : LineReply) (t : TableState) → LineStep version z lines (Put r v) s a t → key_in s r ≡ None → a ≡ reply.BadType
no_full_without_a_key version z lines r v s a t x none = ⊎_elim
    (λ done. (subst (λ (o : Option Label). WithKey o x.left a t (λ k. (a ≡ reply.Done) × (t.registers ≡ x.left.registers) × (t.slots ≡ x.left.slots) × Binds k (Int v) x.left.bindings t.bindings)) here done).0)
    (λ full. absurd (let clash : Some full.2.key.0 ≡ None = sym full.2.key.1 ∙ here in cc)) x.does
  where
    here : key_in x.left r ≡ None
    here = ap (λ (ks : List (Option Label)). key_in (record s { registers = ks }) r) x.goes.registers ∙ none
