-- What a field load leaves: the register holds the field, and the call has the definition's reply.
use Rattle.std.proofs.Common.{◌≡◌, ◌∙◌, ℕ, ℤ, ◌<◌, false, List, [], ◌∷◌, length, set, refl, length-set, sym, ap, subst, arith, get_or-set_same}
use Rattle.model_core.specs.declared.command.Command.TheVariants.{Load}
use Rattle.model_core.specs.declared.entry.Entry.{Entry}
use Rattle.model_core.specs.declared.entry.Entry.TheVariants.{Command}
use Rattle.model_core.specs.declared.graph.Value as model
use Rattle.model_core.specs.declared.graph.Value.TheVariants.{Int as IntValue, Block, Nothing as NothingValue}
use Rattle.model_core.specs.declared.reply.Reply.{Reply}
use Rattle.model_core.specs.declared.reply.Applied.TheVariants.{Replied}
use Rattle.model_core.specs.Commands.{shown}
use Rattle.model_core.specs.Domains.{domain_at, register, IsWithinLimits}
use Rattle.model_core.specs.Fronts.{Answers}
use Rattle.heap_rule.specs.Standing.{Acts, Entered}
use Rattle.heap_rule.proofs.Acting.{looked_acts}
use Rattle.heap_words.specs.declared.value.Value.{Value}
use Rattle.heap_words.specs.declared.value.Value.TheVariants.{Int, Ref, Nothing}
use Rattle.heap_rule.specs.declared.change.Change.TheVariants.{Read}
use Rattle.heap_rule.specs.declared.config.Config.{Config}
use Rattle.heap_rule.specs.declared.view.DomainView.{DomainView}
use Rattle.heap_rule.specs.Changes.{value_at}
use Rattle.heap_rule.specs.Limits.{sizes_in}
use Rattle.heap_rule.specs.Rule.{state_of}
use Rattle.step_run.specs.Fields.Loads.{FieldRead, Measured}
use Rattle.heap_rule.specs.Places.{Shows}
use Rattle.heap_rule.specs.Token.{Token, SharedHeap, IsIn, IsAddress}
use Rattle.heap_rule.specs.Running.{Runs, Did, own_entry}
use Rattle.do_fields.proofs.OfFields.Doing.{looked_did}
use Rattle.do_fields.specs.Fields.Registers.{LoadsInto}
use Rattle.do_fields.proofs.OfFields.Loading.{loaded}
use Rattle.heap_rule.proofs.Plain.{entered_rest}

-- the register holds what the reply shows
pub shown_into : (k : Config) (dst : ℕ) (before after : List Value) (v : Value) (held : model.Value) → Shows v held → ((a : ℕ) → v ≡ Ref a → IsAddress k a) → after ≡ set before dst v → LoadsInto k dst (shown held) before after
shown_into k dst before after (Int z) (IntValue n) shows there written = written ∙ ap (λ (i : ℤ). set before dst (Int i)) shows
shown_into k dst before after (Ref a) (Block l) shows there written = (a, there a refl, written)
shown_into k dst before after Nothing NothingValue shows there written = written
shown_into k dst before after v held shows there written = absurd shows

module _ (h : SharedHeap) (old : Token) (y z : DomainView) (e : Entry) (dst src i size a found : ℕ) (limits : IsWithinLimits (sizes_in h.config)) (is : e ≡ own_entry old (Load dst src i)) (runs : Runs h old) (goes : dst < 16)
    (m : Measured h.config a src size old.view y) (below : i < size) (read : FieldRead h.config e (Read dst ∷ []) y found z) where
  -- the same domain, before the entry
  number_is : y.own.number ≡ old.view.own.number
  number_is = ap (λ (x : DomainView). x.own.number) m.looked.view

  runs_on : (domain_at (state_of h.config y.seen.front) old.view.own.number).ended ≡ false
  runs_on =
      let before : Acts h.config old.view = subst (λ (k : Config). Acts k old.view) runs.here.1 runs.acts in
      subst (λ (n : ℕ). (domain_at (state_of h.config y.seen.front) n).ended ≡ false) number_is (looked_acts h.config old.view y m.looked before).goes_on

  answers_is : Answers (sizes_in h.config) old.view.own.number y.seen.front z.seen.front (Command old.view.own.number (Load dst src i) false) (Replied (shown read.held))
  answers_is =
      subst (λ (x : Entry). Answers (sizes_in h.config) old.view.own.number y.seen.front z.seen.front x (Replied (shown read.held))) is
      (subst (λ (n : ℕ). Answers (sizes_in h.config) n y.seen.front z.seen.front e (Replied (shown read.held))) number_is read.entered.answers)

  -- the model's register holds what the load read
  pub held_after : register (state_of h.config z.seen.front) old.view.own.number dst ≡ read.held
  held_after = loaded (sizes_in h.config) old.view.own.number y.seen.front z.seen.front dst src i size read.held limits runs_on goes m.knows below answers_is

  after_number : z.own.number ≡ old.view.own.number
  after_number = ap (λ (x : DomainView). x.own.number) (entered_rest _ _ _ _ _ _ _ read.entered) ∙ number_is

  -- and so does the token's
  pub value_after : value_at z.own.registers dst ≡ read.value
  value_after =
      let wide : length (set y.own.registers dst read.value) ≡ 16 = ap (λ (x : DomainView). length x.own.registers) (sym (entered_rest _ _ _ _ _ _ _ read.entered)) ∙ read.entered.holds.wide in
      let inside : dst < length y.own.registers = omega (arith, goes, wide, length-set {A = Value}) in
      ap (λ (x : DomainView). value_at x.own.registers dst) (entered_rest _ _ _ _ _ _ _ read.entered) ∙ get_or-set_same y.own.registers dst read.value Nothing inside

  pub register_loaded : Shows (value_at z.own.registers dst) (register (state_of h.config z.seen.front) z.own.number dst)
  register_loaded =
      subst (λ (v : Value). Shows v (register (state_of h.config z.seen.front) z.own.number dst)) (sym value_after)
      (subst (λ (n : ℕ). Shows read.value (register (state_of h.config z.seen.front) n dst)) (sym after_number)
      (subst (λ (v : model.Value). Shows read.value v) (sym held_after) read.shows))

  -- the whole call is the load
  pub load_did : (w : Token) (r : Reply) → IsIn w h → w.view ≡ z → r ≡ shown (register (state_of h.config z.seen.front) z.own.number dst) → Did h old w (Load dst src i) r
  load_did w r here same reply =
      let replies : r ≡ shown read.held = reply ∙ ap (λ (n : ℕ). shown (register (state_of h.config z.seen.front) n dst)) after_number ∙ ap shown held_after in
      subst (λ (q : Reply). Did h old w (Load dst src i) q) (sym replies)
      (looked_did h old w y (Load dst src i) e (shown read.held) read.value (Read dst ∷ []) is runs here m.looked (subst (λ (x : DomainView). Entered h.config e (Replied (shown read.held)) read.value (Read dst ∷ []) y x) (sym same) read.entered))

  pub loads_into : (w : Token) (r : Reply) → w.view ≡ z → r ≡ shown (register (state_of h.config z.seen.front) z.own.number dst) → LoadsInto h.config dst r old.view.own.registers w.view.own.registers
  loads_into w r same reply =
      let replies : r ≡ shown read.held = reply ∙ ap (λ (n : ℕ). shown (register (state_of h.config z.seen.front) n dst)) after_number ∙ ap shown held_after in
      let written : w.view.own.registers ≡ set old.view.own.registers dst read.value =
      ap (λ (x : DomainView). x.own.registers) same ∙ ap (λ (x : DomainView). x.own.registers) (entered_rest _ _ _ _ _ _ _ read.entered) ∙ ap (λ (x : DomainView). set x.own.registers dst read.value) m.looked.view in
      subst (λ (q : Reply). LoadsInto h.config dst q old.view.own.registers w.view.own.registers) (sym replies)
      (shown_into h.config dst old.view.own.registers w.view.own.registers read.value read.held read.shows (λ a is_at. read.entered.holds.inside dst a goes (value_after ∙ is_at)) written)
