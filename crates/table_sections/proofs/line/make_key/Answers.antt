use Rattle.std.proofs.Common.{◌≡◌, true, false, refl, sym, ap, ◌∙◌}
use Rattle.model_core.specs.declared.reply.Reply.{Reply}
use Rattle.model_core.specs.declared.reply.Reply.TheVariants as given
use Rattle.table_text.specs.declared.machine.reply.LineReply.TheVariants as reply
use Rattle.table_sections.specs.Lines.{made_said}
use Rattle.table_sections.proofs.CommandLemmas.{key_done}
use Rattle.table_sections.proofs.line.make_key.Goals as goal

-- what is written where a block was made
made_done : (r : Reply) → (r ≡ given.Full → ⊥) → reply.Done ≡ made_said r
made_done given.Full other = absurd (other refl)
made_done _ other = refl

pub returns-then-is_full-clause-done : goal.returns-then-is_full-clause-done
returns-then-is_full-clause-done g c =
    key_done (g.M.Machine.sizes c.args.m.now) (g.M.Machine.domain c.args.m.now) _ _ c.args.reg c.perform-made.result c.requires.register c.perform-made.ensures.performed reply.Full
    (sym (ap made_said (c.is_full.ensures.full.0 c.if-is_full.true)))

pub returns-clause-done : goal.returns-clause-done
returns-clause-done g c =
    key_done (g.M.Machine.sizes c.args.m.now) (g.M.Machine.domain c.args.m.now) _ _ c.args.reg c.perform-made.result c.requires.register c.perform-made.ensures.performed reply.Done
    (made_done c.perform-made.result (λ full. let clash : true ≡ false = sym (c.is_full.ensures.full.1 full) ∙ c.if-is_full.false in cc))
