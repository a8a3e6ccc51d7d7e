-- Two runs of one text that part.
use Rattle.std.proofs.Common.{◌≡◌, inl, inr, ⊎_elim, zero, suc, pos, false, true, List, [], ◌∷◌, replicate, slice_set, slice_get, Some, None, refl}
use Rattle.model_core.specs.declared.label.Label.{Label}
use Rattle.model_core.specs.declared.graph.Value.TheVariants.{Int}
use Rattle.model_core.specs.declared.state.Sizes.{Sizes}
use Rattle.weak_laws.specs.Tables.Thinning.{EmptiedBy}
use Rattle.weak_laws.proofs.OfTables.ChangeLemmas.{emptied_same}
use Rattle.table_text.specs.declared.version.Version.{Version}
use Rattle.table_text.specs.declared.line.TableLine.{TableLine}
use Rattle.table_text.specs.declared.machine.reply.LineReply.{LineReply}
use Rattle.table_text.specs.declared.machine.reply.LineReply.TheVariants as reply
use Rattle.table_text.specs.Machine.Machine.{Effect, IsLost, LineStep, MachineAnswers, MachineRuns, MayGo, TableState, opened, with_key}
use Rattle.check_laws.specs.Texts.Agreeing.{NoneRefused, apart_replies, back_lines, found_replies, gone_replies, kept_replies, parting_lines}
use Rattle.check_laws.proofs.OfTexts.Alike.{may_same}
use Rattle.check_laws.proofs.OfTexts.Lines.{texts_law}

abbrev key : Label
key = record { domain = 0; serial = 20 }

-- no place holds a key
pub lone_held : (n : _) (k : Label) (i : _) → slice_get (replicate n None) i ≡ Some (Some k) → ⊥
lone_held zero k zero e = cc
lone_held zero k (suc i) e = cc
lone_held (suc n) k zero e = cc
lone_held (suc n) k (suc i) e = lone_held n k i e

-- a line before which nothing goes
pub stays : (version : Version) (z : Sizes) (lines : List TableLine) (l : TableLine) (s : TableState) (a : LineReply) (t : TableState) → Effect s l a t → LineStep version z lines l s a t
stays version z lines l s a t e = record { left = s; goes = may_same s; does = inl e }

abbrev made : TableState
made = with_key opened 1 (Some key)

abbrev set : TableState
set = record made { slots = slice_set made.slots 3 (Some key) }

abbrev let_go : TableState
let_go = with_key set 1 None

is_lost : IsLost let_go key
is_lost (i, at) = lone_held 5 key i at

pub found : (version : Version) (z : Sizes) → MachineAnswers version z parting_lines found_replies
found version z = record {
  states = made ∷ set ∷ let_go ∷ with_key let_go 2 (Some key) ∷ [];
  runs = (
    stays version z _ _ _ _ _ (refl, (key, record { lost = λ h. lone_held 5 key h.0 h.1; unbound = refl; unset = λ h. lone_held 16 key h.0 h.1 }, refl)),
    (stays version z _ _ _ _ _ (refl, refl), (stays version z _ _ _ _ _ (refl, refl), (stays version z _ _ _ _ _ (refl, refl), tt))),
  );
}

abbrev emptied : TableState
emptied = record let_go { slots = replicate 16 None }

one_emptied : EmptiedBy (IsLost let_go) (Some key ∷ replicate 12 None) (replicate 13 None)
one_emptied = (None, replicate 12 None, refl, inr (refl, (key, refl, is_lost)), emptied_same (IsLost let_go) (replicate 12 None))

-- before the last line the collector empties the slot
goes : MayGo let_go emptied
goes = record { registers = refl; bindings = refl; slots = (None, replicate 15 None, refl, inl refl, (None, replicate 14 None, refl, inl refl, (None, replicate 13 None, refl, inl refl, one_emptied))); together = λ k there. absurd (⊎_elim (λ h. let clash : false ≡ true = h in cc) (λ h. lone_held 16 k h.0 h.1) there) }

pub gone : (version : Version) (z : Sizes) → MachineAnswers version z parting_lines gone_replies
gone version z = record {
  states = made ∷ set ∷ let_go ∷ emptied ∷ [];
  runs = (
    stays version z _ _ _ _ _ (refl, (key, record { lost = λ h. lone_held 5 key h.0 h.1; unbound = refl; unset = λ h. lone_held 16 key h.0 h.1 }, refl)),
    (stays version z _ _ _ _ _ (refl, refl), (stays version z _ _ _ _ _ (refl, refl), (record { left = emptied; goes = goes; does = inl (refl, refl) }, tt))),
  );
}

-- A slot gives back a key with its binding.
abbrev bound : TableState
bound = record made { bindings = (key, Int (pos 7)) ∷ [] }

abbrev bound_set : TableState
bound_set = record bound { slots = slice_set bound.slots 3 (Some key) }

abbrev bound_let_go : TableState
bound_let_go = with_key bound_set 1 None

abbrev given_back : TableState
given_back = with_key bound_let_go 2 (Some key)

abbrev kept_states : List TableState
kept_states = made ∷ bound ∷ bound_set ∷ bound_let_go ∷ given_back ∷ given_back ∷ []

kept_runs : (version : Version) (z : Sizes) → MachineRuns version z [] opened back_lines kept_replies kept_states
kept_runs version z = (
  stays version z _ _ _ _ _ (refl, (key, record { lost = λ h. lone_held 5 key h.0 h.1; unbound = refl; unset = λ h. lone_held 16 key h.0 h.1 }, refl)),
  (stays version z _ _ _ _ _ (refl, refl, refl, record { rest = refl; bound = refl }), (stays version z _ _ _ _ _ (refl, refl), (stays version z _ _ _ _ _ (refl, refl), (stays version z _ _ _ _ _ (refl, refl), (stays version z _ _ _ _ _ (refl, refl), tt))))),
)

pub kept : (version : Version) (z : Sizes) → MachineAnswers version z back_lines kept_replies
kept version z = record { states = kept_states; runs = kept_runs version z }

none_full : NoneRefused kept_replies
none_full zero e = cc
none_full (suc zero) e = cc
none_full (suc (suc zero)) e = cc
none_full (suc (suc (suc zero))) e = cc
none_full (suc (suc (suc (suc zero)))) e = cc
none_full (suc (suc (suc (suc (suc zero))))) e = cc
none_full (suc (suc (suc (suc (suc (suc zero)))))) e = cc
none_full (suc (suc (suc (suc (suc (suc (suc i))))))) e = cc

none_refused : NoneRefused apart_replies
none_refused zero e = cc
none_refused (suc zero) e = cc
none_refused (suc (suc zero)) e = cc
none_refused (suc (suc (suc zero))) e = cc
none_refused (suc (suc (suc (suc zero)))) e = cc
none_refused (suc (suc (suc (suc (suc zero))))) e = cc
none_refused (suc (suc (suc (suc (suc (suc zero)))))) e = cc
none_refused (suc (suc (suc (suc (suc (suc (suc i))))))) e = cc

-- and never without it, since the law holds of the two runs
never_apart : (version : Version) (z : Sizes) (vs : List TableState) → MachineRuns version z [] opened back_lines apart_replies vs → ⊥
never_apart version z [] runs = absurd runs
never_apart version z (a ∷ []) runs = absurd runs.1
never_apart version z (a ∷ b ∷ []) runs = absurd runs.1.1
never_apart version z (a ∷ b ∷ c ∷ []) runs = absurd runs.1.1.1
never_apart version z (a ∷ b ∷ c ∷ d ∷ []) runs = absurd runs.1.1.1.1
never_apart version z (a ∷ b ∷ c ∷ d ∷ e ∷ []) runs = absurd runs.1.1.1.1.1
never_apart version z (a ∷ b ∷ c ∷ d ∷ e ∷ f ∷ vs) runs =
    let together = texts_law version version z z back_lines kept_replies apart_replies kept_states (a ∷ b ∷ c ∷ d ∷ e ∷ f ∷ vs) (kept_runs version z) runs none_full none_refused in
    let look = (((together.1 tt).1 tt).1 tt).1 tt in
    let clash : reply.Number (pos 7) ≡ reply.Empty = (look.1 refl).0 in cc

pub apart : (version : Version) (z : Sizes) → MachineAnswers version z back_lines apart_replies → ⊥
apart version z m = never_apart version z m.states m.runs
