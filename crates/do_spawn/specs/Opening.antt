-- How the hidden block is made and handed to all domains, before any section begins.
use Rattle.std.specs.Prelude.{◌≡◌, ◌⊎◌, ◌<◌, ◌≤◌, ◌+◌, cond, ℕ, false, List, [], ◌∷◌, ◌++◌, map, pos, slice_get, slice_set, IsTrue, Some}
use Rattle.std.specs.List.{range_with_len}
use Rattle.model_core.specs.declared.command.Command.TheVariants.{AllocMaj, Forget, Load, PutInt, Store}
use Rattle.model_core.specs.declared.entry.Entry.{Entry}
use Rattle.model_core.specs.declared.entry.Entry.TheVariants.{Command as CommandOf}
use Rattle.model_core.specs.declared.reply.Reply.{Reply}
use Rattle.model_core.specs.Fronts.{AreCalls, NoneOf, is_call}
use Rattle.model_core.specs.History.{IsPrefix, Legal, is_entry_of}
use Rattle.heap_rule.specs.declared.view.Own.{Own}
use Rattle.heap_rule.specs.Limits.{sizes_in}
use Rattle.heap_rule.specs.Meeting.{Met}
use Rattle.heap_rule.specs.Opening.{opening_token}
use Rattle.heap_rule.specs.Running.{ChangesRegisters, Did, Runs, Stays}
use Rattle.heap_rule.specs.Token.{SharedHeap, Token}
use Rattle.heap_rule.specs.Views.{opening_view}
use Rattle.model_traces.specs.Spawns.Hidden.{hidden, hidden_fields, prelude, scratch}

-- how many entries of a list are calls of domain d
abbrev pub made_by : ℕ → List Entry → ℕ
made_by d [] = 0
made_by d (e ∷ h) = cond (is_entry_of d e) 1 0 + made_by d h

-- these entries stand in the history in this order, and else calls
abbrev pub Has : List Entry → List Entry → Type 0
Has p [] = p ≡ []
Has p (e ∷ h) = (IsTrue (is_call e) × Has p h) ⊎ ((q : List Entry) × (p ≡ e ∷ q) × Has q h)

-- the entry by which a domain takes the block
abbrev pub taking : ℕ → Entry
taking d = CommandOf d (Load hidden 0 15) false

-- the entries of the first so many domains behind domain 0
abbrev pub takings : ℕ → List Entry
takings n = map taking (range_with_len 1 n)

-- those before and those behind
abbrev pub making : List Entry
making = CommandOf 0 (AllocMaj hidden 0 hidden_fields) false ∷ CommandOf 0 (Store 0 15 hidden) false ∷ []

abbrev pub clearing : List Entry
clearing = CommandOf 0 (PutInt scratch (pos 0)) false ∷ CommandOf 0 (Store 0 15 scratch) false ∷ CommandOf 0 (Forget scratch) false ∷ []

-- the domain owns what it owned at the start, but for its registers, what it remembers, and the label that it gave out
pub record Keeps (x y : Own) : Type 0 where
  pub number : y.number ≡ x.number
  pub used : y.used ≡ x.used
  pub serial : y.serial ≤ x.serial + 1
  pub arrivals : y.arrivals ≡ x.arrivals
  pub prepared : y.prepared ≡ x.prepared
  pub pending : y.pending ≡ x.pending
  pub ephemerons : x.ephemerons.room ≤ y.ephemerons.room
  pub finalisers : y.finalisers ≡ x.finalisers

-- the domain met another one, took the block, and they met again
pub record HandedOver (h : SharedHeap) (a b new_a new_b : Token) : Type 0 where
  pub met_a : Token
  pub met_b : Token
  pub met : Met h.config a b met_a met_b
  pub took : Token
  pub reply : Reply
  pub did : Did h met_b took (Load hidden 0 15) reply
  pub rest : ChangesRegisters met_b took
  pub again : Met h.config met_a took new_a new_b

-- the same at a place of the others
pub record HandedAt (h : SharedHeap) (a new_a : Token) (old new : List Token) (at : ℕ) : Type 0 where
  pub other : Token
  pub was : slice_get old at ≡ Some other
  pub other_now : Token
  pub handed : HandedOver h a other new_a other_now
  pub others : new ≡ slice_set old at other_now

-- a domain that runs, from its start on
pub record Began (h : SharedHeap) (d : ℕ) (t : Token) : Type 0 where
  pub runs : Runs h t
  pub keeps : Keeps (opening_view h.config d).own t.view.own
  pub stays : Stays (opening_view h.config d) t.view
  pub legal : Legal (sizes_in h.config) t.view.seen.front

-- the block is made, and the first so many of the others have it
pub record HandedUpto (h : SharedHeap) (first : Token) (others : List Token) (upto : ℕ) : Type 0 where
  pub began : Began h 0 first
  pub room : 1 ≤ first.view.own.remembered.room
  pub has : Has (making ++ takings upto) first.view.seen.front
  pub mine : made_by 0 first.view.seen.front ≡ 2
  pub done : (e : ℕ) (t : Token) → e < upto → slice_get others e ≡ Some t → Began h (e + 1) t × (made_by (e + 1) t.view.seen.front ≡ 1) × IsPrefix t.view.seen.front first.view.seen.front
  pub waits : (e : ℕ) (t : Token) → (e < upto → ⊥) → slice_get others e ≡ Some t → t ≡ opening_token h.table h.config (e + 1)

-- the domain has the prelude in its front, and behind it only calls of others
pub record IsOpened (h : SharedHeap) (d : ℕ) (t : Token) : Type 0 where
  pub began : Began h d t
  pub behind : List Entry
  pub front : t.view.seen.front ≡ prelude h.config.domains ++ behind
  pub others : NoneOf d behind
  pub calls : AreCalls behind

-- the front grew by calls of others alone
pub record Grew (d : ℕ) (old new : List Entry) : Type 0 where
  pub rest : List Entry
  pub appends : new ≡ old ++ rest
  pub others : NoneOf d rest
  pub calls : AreCalls rest

-- domain 0 has made the block, and laid it into the shared one
pub record MadeHidden (h : SharedHeap) (t : Token) : Type 0 where
  pub began : Began h 0 t
  pub room : 1 ≤ t.view.own.remembered.room
  pub has : Has making t.view.seen.front
  pub mine : made_by 0 t.view.seen.front ≡ 2

-- and it has emptied that field again
pub record Cleared (h : SharedHeap) (old new : Token) : Type 0 where
  pub began : Began h 0 new
  pub has : (p : List Entry) → Has p old.view.seen.front → Has (p ++ clearing) new.view.seen.front
  pub mine : made_by 0 new.view.seen.front ≡ made_by 0 old.view.seen.front + 3
  pub part : IsPrefix old.view.seen.front new.view.seen.front

-- it met the domain at a place of the others
pub record MetAt (h : SharedHeap) (a new_a : Token) (old new : List Token) (at : ℕ) : Type 0 where
  pub other : Token
  pub was : slice_get old at ≡ Some other
  pub other_now : Token
  pub met : Met h.config a other new_a other_now
  pub others : new ≡ slice_set old at other_now

-- it met the first so many of the others, once this was its front
pub record MetUpto (h : SharedHeap) (part : List Entry) (first : Token) (others : List Token) (upto : ℕ) : Type 0 where
  pub began : Began h 0 first
  pub grew : Grew 0 part first.view.seen.front
  pub done : (e : ℕ) (t : Token) → e < upto → slice_get others e ≡ Some t → Began h (e + 1) t × Grew (e + 1) part t.view.seen.front × (made_by (e + 1) part ≤ 1)
  pub waits : (e : ℕ) (t : Token) → (e < upto → ⊥) → slice_get others e ≡ Some t → Began h (e + 1) t × (made_by (e + 1) t.view.seen.front ≡ 1) × IsPrefix t.view.seen.front part
