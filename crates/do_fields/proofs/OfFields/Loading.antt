-- A load of a field whose block was looked at before.
use Rattle.std.proofs.Common.{◌≡◌, ◌∙◌, ℕ, zero, suc, ◌<◌, false, List, [], ◌∷◌, ◌++◌, length, get_or, set, slice_get, Some, refl, sym, ap, arith, get_or-set_same, ⊎_elim}
use Rattle.model_core.specs.declared.command.Command.TheVariants.{Load}
use Rattle.model_core.specs.declared.entry.Entry.{Entry}
use Rattle.model_core.specs.declared.entry.Entry.TheVariants.{Command}
use Rattle.model_core.specs.declared.graph.Value.{Value}
use Rattle.model_core.specs.declared.graph.Value.TheVariants.{Int, Block, Nothing}
use Rattle.model_core.specs.declared.reply.Reply.{Reply}
use Rattle.model_core.specs.declared.reply.Applied.TheVariants.{Replied}
use Rattle.model_core.specs.declared.state.Sizes.{Sizes}
use Rattle.model_core.specs.declared.state.State.{State}
use Rattle.model_core.specs.Commands.{shown}
use Rattle.model_core.specs.declared.graph.Node.TheVariants.{Plain, Raw}
use Rattle.model_core.specs.Graph.{node_at}
use Rattle.model_core.specs.Domains.{domain_at, register, opening, IsWithinLimits}
use Rattle.model_core.specs.Entries.{next}
use Rattle.model_core.specs.History.{state_after}
use Rattle.model_core.specs.Fronts.{Answers, HoldsFields}
use Rattle.model_core.proofs.Histories.AnswerLemmas.{before_entry}
use Rattle.model_core.proofs.Commands.FrameLemmas.{inside_running}
use Rattle.model_core.proofs.Histories.FrontLemmas.{keeps_front, holds_later}
use Rattle.model_core.proofs.Histories.HistoryLemmas.{state_after-push}
use Rattle.model_core.proofs.Commands.LeavesLemmas.{Leaves, leaves_load, leaves_load_raw}
use Rattle.model_core.proofs.Histories.ShapeAfterLemmas.{shaped-history}

-- the values that a reply shows
shown_same : (v w : Value) → shown v ≡ shown w → v ≡ w
shown_same (Int a) (Int b) e = cc
shown_same (Int a) (Block b) e = cc
shown_same (Int a) Nothing e = cc
shown_same (Block a) (Int b) e = cc
shown_same (Block a) (Block b) e = cc
shown_same (Block a) Nothing e = cc
shown_same Nothing (Int b) e = cc
shown_same Nothing (Block b) e = cc
shown_same Nothing Nothing e = refl

field_there : (fields : List Value) (i : ℕ) → i < length fields → (v : Value) × (slice_get fields i ≡ Some v)
field_there [] i inside = absurd (omega arith)
field_there (x ∷ xs) zero inside = (x, refl)
field_there (x ∷ xs) (suc i) inside = field_there xs i (omega arith)

replied_same : (r s : Reply) → Replied r ≡ Replied s → r ≡ s
replied_same r s e = cc

-- after a load its register holds what the reply shows
pub loaded : (z : Sizes) (d : ℕ) (mid new : List Entry) (dst src i size : ℕ) (held : Value) → IsWithinLimits z → (domain_at (state_after (opening z) mid) d).ended ≡ false → dst < 16
    → HoldsFields (state_after (opening z) mid) d src size → i < size → Answers z d mid new (Command d (Load dst src i) false) (Replied (shown held))
    → register (state_after (opening z) new) d dst ≡ held
loaded z d mid new dst src i size held limits acts goes holds inside x =
    let s : State = state_after (opening z) (mid ++ x.between) in
    let front = before_entry z d mid new _ _ x in
    let there = holds_later (opening z) d src size (mid ++ x.between) mid front holds in
    let running : (domain_at s d).ended ≡ false = (keeps_front (opening z) d (mid ++ x.between) mid front).ended ∙ acts in
    let part : d < length s.domains = inside_running s.domains d running in
    let wide : length (domain_at s d).registers ≡ 16 = (shaped-history z (mid ++ x.between) limits).register_count d part in
    let field = field_there there.fields i (omega (arith, there.size)) in
    let leaves : Leaves s (Command d (Load dst src i) false) d s.graph (set (domain_at s d).registers dst field.0) (domain_at s d).serial (Replied (shown field.0)) =
    ⊎_elim (λ (plain : node_at s.graph there.label ≡ Some (Plain there.tag there.fields)). leaves_load s d part dst src i there.label there.tag there.fields field.0 there.held plain field.1)
    (λ (raw : node_at s.graph there.label ≡ Some (Raw there.tag there.fields)). leaves_load_raw s d part dst src i there.label there.tag there.fields field.0 there.held raw field.1) there.node in
    let same : field.0 ≡ held = shown_same field.0 held (replied_same _ _ (sym leaves.replies ∙ x.replies)) in
    let here : state_after (opening z) new ≡ next s (Command d (Load dst src i) false) = ap (state_after (opening z)) x.appends ∙ state_after-push (opening z) (mid ++ x.between) _ in
    ap (λ (t : State). register t d dst) here ∙ ap (λ (xs : List Value). get_or xs dst Nothing) leaves.registers_are ∙ get_or-set_same (domain_at s d).registers dst field.0 Nothing (omega (arith, wide)) ∙ same
