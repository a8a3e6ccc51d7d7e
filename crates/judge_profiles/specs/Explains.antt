-- What it is that a history explains an output under a profile.
use Rattle.std.specs.Prelude.{◌≡◌, ℕ, ◌<◌, List, [], ◌++◌, flat_map, slice_index_or, Some}
use Rattle.std.specs.List.{range_with_len}
use Rattle.model_core.specs.declared.command.Command.{Command}
use Rattle.model_core.specs.declared.entry.Entry.{Entry}
use Rattle.model_core.specs.declared.state.Sizes.{Sizes}
use Rattle.judge_plain.specs.History.Explains.{Explains, section_lines}
use Rattle.judge_profiles.specs.declared.act.Act.{Act}
use Rattle.judge_profiles.specs.declared.act.Change.{Change}
use Rattle.judge_profiles.specs.declared.profile.Profile.{Profile}
use Rattle.judge_profiles.specs.Shown.{commands_of, replies_of, changed_all, shown_of}

-- what a domain does makes one section, and what is shown of it the other
pub record Reads (p : Profile) (made section : List Command) (acts : List Act) (changes : List Change) : Type 0 where
  pub makes : commands_of acts ≡ made
  pub allowed : changed_all p acts changes ≡ Some (shown_of p acts changes)
  pub shows : commands_of (shown_of p acts changes) ≡ section

-- the lines of domain d, as it does them and as they are shown
abbrev pub own_lines : List (List Act) → ℕ → List ℕ
own_lines acts d = section_lines d (replies_of (slice_index_or acts d []))

abbrev pub shown_lines : Profile → List (List Act) → List (List Change) → ℕ → List ℕ
shown_lines p acts changes d = section_lines d (replies_of (shown_of p (slice_index_or acts d []) (slice_index_or changes d [])))

-- so the first n domains, whose lines stand before the rests of two outputs
pub record ReadsFront (p : Profile) (n : ℕ) (made sections : List (List Command)) (own shown : List ℕ) (acts : List (List Act)) (changes : List (List Change)) (own_rest rest : List ℕ) : Type 0 where
  pub reads : (d : ℕ) → d < n → Reads p (slice_index_or made d []) (slice_index_or sections d []) (slice_index_or acts d []) (slice_index_or changes d [])
  pub own_is : own ≡ flat_map (own_lines acts) (range_with_len 0 n) ++ own_rest
  pub shown_is : shown ≡ flat_map (shown_lines p acts changes) (range_with_len 0 n) ++ rest

-- and all n
pub record ReadsAll (p : Profile) (n : ℕ) (made sections : List (List Command)) (own shown : List ℕ) (acts : List (List Act)) (changes : List (List Change)) : Type 0 where
  pub reads : (d : ℕ) → d < n → Reads p (slice_index_or made d []) (slice_index_or sections d []) (slice_index_or acts d []) (slice_index_or changes d [])
  pub own_is : own ≡ flat_map (own_lines acts) (range_with_len 0 n)
  pub shown_is : shown ≡ flat_map (shown_lines p acts changes) (range_with_len 0 n)

-- a legal history explains an output of some script, and the profile allows that it is shown as this output of this script
pub record ExplainsUnder (p : Profile) (z : Sizes) (sections : List (List Command)) (bytes : List ℕ) : Type 0 where
  pub made : List (List Command)
  pub own : List ℕ
  pub history : List Entry
  pub explains : Explains z made own history
  pub acts : List (List Act)
  pub changes : List (List Change)
  pub reads : ReadsAll p z.domains made sections own bytes acts changes
