-- Two runs of one text of a table.
use Rattle.std.specs.Prelude.{◌≡◌, ◌⊎◌, ℕ, ◌+◌, ◌≤◌, Bool, cond, IsTrue, List, [], ◌∷◌, length, pos, slice_get, Some}
use Rattle.std.specs.List.{list_any}
use Rattle.model_core.specs.declared.label.Label.{Label}
use Rattle.model_core.specs.declared.state.Sizes.{Sizes}
use Rattle.model_core.specs.Entries.{is_label}
use Rattle.model_core.specs.Graph.{has_no_repeats}
use Rattle.weak_laws.specs.Tables.Structures.{Binding, keys_of}
use Rattle.table_text.specs.declared.version.Version.{Version}
use Rattle.table_text.specs.declared.line.TableLine.{TableLine}
use Rattle.table_text.specs.declared.line.TableLine.TheVariants.{Count, Forget, Get, GetWeak, Key, Put, SetWeak}
use Rattle.table_text.specs.declared.machine.reply.LineReply.{LineReply}
use Rattle.table_text.specs.declared.machine.reply.LineReply.TheVariants as reply
use Rattle.table_text.specs.Machine.Machine.{IsLost, MachineRuns, TableState, opened}

-- no allocation was refused
abbrev pub NoneRefused : List LineReply → Type 0
NoneRefused replies = (i : ℕ) → slice_get replies i ≡ Some reply.Full → ⊥

-- a look at a slot, from the first state to the second, gives back a key that no register held
pub record GivesBack (s : TableState) (slot : ℕ) (t : TableState) : Type 0 where
  pub key : Label
  pub found : slice_get t.slots slot ≡ Some (Some key)
  pub lost : IsLost s key

-- whether a register holds the key
abbrev pub is_held : TableState → Label → Bool
is_held s k = list_any (is_label k) s.registers

-- the bindings whose key no register holds, which the collector may take
abbrev pub loose : TableState → List Binding → List Binding
loose s [] = []
loose s (b ∷ bs) = cond (is_held s b.0) (loose s bs) (b ∷ loose s bs)

-- two counts, from these states: where no key is bound twice, as in each table, the one is no greater than the other but by bindings whose key no register holds
pub record Counts (s t : TableState) (a b : LineReply) : Type 0 where
  pub first : ℕ
  pub second : ℕ
  pub first_is : a ≡ reply.Counted first
  pub second_is : b ≡ reply.Counted second
  pub first_few : IsTrue (has_no_repeats (keys_of s.bindings)) → first ≤ second + length (loose s s.bindings)
  pub second_few : IsTrue (has_no_repeats (keys_of t.bindings)) → second ≤ first + length (loose t t.bindings)

-- how a line is answered in two runs, from s to u in the one and from t to v in the other: the same; a count but for bindings that may go; and a look at a slot the same, but where one of them gives back a key that no register held
abbrev pub Agree : TableState → TableState → TableLine → LineReply → LineReply → TableState → TableState → Type 0
Agree s t Count a b u v = Counts s t a b
Agree s t (GetWeak d slot) a b u v = (a ≡ b) ⊎ (GivesBack s slot u ⊎ GivesBack t slot v)
Agree s t _ a b u v = a ≡ b

-- no look at a slot tells the runs apart
abbrev pub GoesOn : TableLine → LineReply → LineReply → Type 0
GoesOn (GetWeak d slot) a b = a ≡ b
GoesOn _ a b = Unit {0}

-- each line is answered so, as long as that goes on
abbrev pub Parallel : TableState → TableState → List TableLine → List LineReply → List LineReply → List TableState → List TableState → Type 0
Parallel s t (l ∷ lines) (a ∷ answers) (b ∷ others) (u ∷ us) (v ∷ vs) = Agree s t l a b u v × (GoesOn l a b → Parallel u v lines answers others us vs)
Parallel s t _ _ _ _ _ = Unit {0}

-- two runs of the same lines, whatever the version and the sizes of the heap of each
abbrev pub TextsAgree : Type 0
TextsAgree = (v w : Version) (y z : Sizes) (lines : List TableLine) (answers others : List LineReply) (us vs : List TableState)
    → MachineRuns v y [] opened lines answers us → MachineRuns w z [] opened lines others vs → NoneRefused answers → NoneRefused others
    → Parallel opened opened lines answers others us vs

-- Where it ends: a slot has a key that no register holds, and in one run the collector has emptied it.
abbrev pub parting_lines : List TableLine
parting_lines = Key 1 ∷ SetWeak 3 1 ∷ Forget 1 ∷ GetWeak 2 3 ∷ []

abbrev pub found_replies : List LineReply
found_replies = reply.Done ∷ reply.Done ∷ reply.Done ∷ reply.Yes ∷ []

abbrev pub gone_replies : List LineReply
gone_replies = reply.Done ∷ reply.Done ∷ reply.Done ∷ reply.Empty ∷ []

-- A slot gives back a key that no register held, with its binding
abbrev pub back_lines : List TableLine
back_lines = Key 1 ∷ Put 1 (pos 7) ∷ SetWeak 3 1 ∷ Forget 1 ∷ GetWeak 2 3 ∷ Get 2 ∷ []

abbrev pub kept_replies : List LineReply
kept_replies = reply.Done ∷ reply.Done ∷ reply.Done ∷ reply.Done ∷ reply.Yes ∷ reply.Number (pos 7) ∷ []

-- and never without it
abbrev pub apart_replies : List LineReply
apart_replies = reply.Done ∷ reply.Done ∷ reply.Done ∷ reply.Done ∷ reply.Yes ∷ reply.Empty ∷ []
