-- A heap at its start: the words of its table, and the tokens of its domains.
use Rattle.std.specs.Prelude.{◌≡◌, ℕ, zero, suc, ◌+◌, ◌-◌, ◌<◌, ◌≤◌, false, List, [], ◌∷◌, length, slice_index, None}
use Rattle.atomic_table.specs.Seated.{TableId}
use Rattle.model_core.specs.Fronts.{PlainShape}
use Rattle.heap_words.specs.declared.colours.Colours.{Colours}
use Rattle.heap_words.specs.ColourWords.{colours_word}
use Rattle.heap_rule.specs.declared.config.Config.{Config}
use Rattle.heap_rule.specs.Layout.{table_words, at_address, listed_pool, owner_of, listed, cursor, armed, colours}
use Rattle.heap_rule.specs.Places.{HeadIs}
use Rattle.heap_rule.specs.Rule.{Rested}
use Rattle.heap_rule.specs.Token.{Token}
use Rattle.heap_rule.specs.Views.{opening_view}

-- the meanings of the colours at the start
abbrev pub first_colours : Colours
first_colours = record { marked = 0; unmarked = 1; garbage = 2 }

-- no cycle is under way, and the colours are those of the start
pub record NoCycle (words : List ℕ) : Type 0 where
  pub armed_is : armed words ≡ 0
  pub colours_are : colours words ≡ colours_word first_colours

-- all pools but the shared block's are listed and free, and none was asked for
pub record AllListed (k : Config) (words : List ℕ) : Type 0 where
  pub count : listed words ≡ k.pools - 1
  pub asked : cursor words ≡ 0
  pub list : (i : ℕ) → i < k.pools - 1 → listed_pool words i ≡ i + 1
  pub shared : owner_of k words 0 ≡ 4
  pub free : (i : ℕ) → 1 ≤ i → i < k.pools → owner_of k words i ≡ 0

-- the words at the start: the control words, and at the address 1 the shared block of 16 fields, each the integer 0
pub record IsOpening (k : Config) (words : List ℕ) : Type 0 where
  pub wide : length words ≡ table_words k
  pub rested : Rested words
  pub pools : AllListed k words
  pub cycle : NoCycle words
  pub head : HeadIs None (PlainShape 16 0) first_colours.unmarked false (at_address k words 1)
  pub label : at_address k words 2 ≡ 0
  pub fields : (i : ℕ) → i < 16 → at_address k words (3 + i) ≡ 1
  pub rest : (a : ℕ) → 19 ≤ a → at_address k words a ≡ 0

-- so many words from an index on are given by their place, and the others stay
pub record Fills (old new : List ℕ) (from count : ℕ) (f : ℕ → ℕ) : Type 0 where
  pub same_length : length new ≡ length old
  pub filled : (i : ℕ) → i < count → slice_index new (from + i) ≡ f i
  pub below : (j : ℕ) → j < from → slice_index new j ≡ slice_index old j
  pub above : (j : ℕ) → from + count ≤ j → slice_index new j ≡ slice_index old j

-- the token of domain d at the start
abbrev pub opening_token : TableId → Config → ℕ → Token
opening_token table k d = record { table = table; config = k; view = opening_view k d }

-- those of n domains from d on
abbrev pub opening_tokens : TableId → Config → ℕ → ℕ → List Token
opening_tokens table k d zero = []
opening_tokens table k d (suc n) = opening_token table k d ∷ opening_tokens table k (d + 1) n
