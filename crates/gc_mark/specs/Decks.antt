-- What a deck of hints counts.
use Rattle.std.specs.Prelude.{◌≡◌, ◌≢◌, ℕ, ◌+◌, ◌<◌, ◌≤◌, ◌⊎◌, Bool, false, List, replicate, slice_index, slice_index_or}

-- its domain's number, how many domains there are, how often each was found without a hint, how many hints were taken, how many were noted or let go, whether the domain has found no hint of its own since it last noted or took one, and how often it asked another domain for a hint before it had found none of its own
pub record DeckCounts : Type 0 where
  pub number : ℕ
  pub domains : ℕ
  pub misses : List ℕ
  pub taken : ℕ
  pub pushes : ℕ
  pub is_dry : Bool
  pub early : ℕ

-- a domain's deck that has counted nothing so far
abbrev pub uncounted : ℕ → ℕ → DeckCounts
uncounted number domains = record { number = number; domains = domains; misses = replicate 8 0; taken = 0; pushes = 0; is_dry = false; early = 0 }

-- so many domains' decks, in order
abbrev pub AreUncounted : ℕ → List DeckCounts → Type 0
AreUncounted domains decks = (k : ℕ) (d : DeckCounts) → k < domains → slice_index_or decks k d ≡ uncounted k domains

-- an address that lies in the pools of the largest heap
abbrev pub IsPooled : ℕ → Type 0
IsPooled a = (1 ≤ a) × (a ≤ 8388608)

-- where a count stands still
abbrev pub last_count : ℕ
last_count = 18446744073709551615

-- a count has risen by so many, or by fewer where it now stands still
pub record Rises (more count after : ℕ) : Type 0 where
  pub grows : count ≤ after
  pub most : after ≤ count + more
  pub least : (count + more ≤ after) ⊎ (last_count ≤ after)

-- how often a domain was found without a hint
abbrev pub missed_at : DeckCounts → ℕ → ℕ
missed_at l d = slice_index l.misses d

-- one hint of the domain's own was noted or let go
pub record Pushed (l m : DeckCounts) : Type 0 where
  pub same : m ≡ record l { pushes = m.pushes; is_dry = false }
  pub pushes : Rises 1 l.pushes m.pushes

-- one hint was taken, and then the domain was known to have none of its own, or not
pub record Took (is_dry : Bool) (l m : DeckCounts) : Type 0 where
  pub same : m ≡ record l { taken = m.taken; is_dry = is_dry; early = m.early }
  pub taken : Rises 1 l.taken m.taken

-- a domain was found without a hint, and then the deck's domain was known to have none of its own, or not
pub record Missed (from : ℕ) (is_dry : Bool) (l m : DeckCounts) : Type 0 where
  pub same : m ≡ record l { misses = m.misses; is_dry = is_dry; early = m.early }
  pub missed : Rises 1 (missed_at l from) (missed_at m from)
  pub others : (d : ℕ) → d ≢ from → missed_at m d ≡ missed_at l d

-- it is the same domain's deck, no count of misses has fallen, and no other domain was asked for a hint early
pub record StaysDeck (l m : DeckCounts) : Type 0 where
  pub number : m.number ≡ l.number
  pub domains : m.domains ≡ l.domains
  pub misses : (d : ℕ) → missed_at l d ≤ missed_at m d
  pub own_first : m.early ≡ l.early

-- nor has any other
pub record NotesOn (l m : DeckCounts) : Type 0 where
  pub deck : StaysDeck l m
  pub taken : l.taken ≤ m.taken
  pub pushes : l.pushes ≤ m.pushes

-- a domain was found without a hint at least once, or its count stands still
abbrev pub HasMissed : DeckCounts → DeckCounts → ℕ → Type 0
HasMissed l m d = (missed_at l d < missed_at m d) ⊎ (last_count ≤ missed_at m d)

-- so was each domain
abbrev pub AllMissed : DeckCounts → DeckCounts → Type 0
AllMissed l m = (d : ℕ) → d < l.domains → HasMissed l m d

-- of so many blocks that were darkened, counted from a number on, each was noted, unless the count of what is noted stands still
abbrev pub HasNoted : ℕ → ℕ → DeckCounts → DeckCounts → Type 0
HasNoted before after l m = (l.pushes + after ≤ m.pushes + before) ⊎ (last_count ≤ m.pushes)

-- and no more was noted
abbrev pub NotesNoMore : ℕ → ℕ → DeckCounts → DeckCounts → Type 0
NotesNoMore before after l m = m.pushes + before ≤ l.pushes + after

-- both
pub record NotesEach (before after : ℕ) (l m : DeckCounts) : Type 0 where
  pub noted : HasNoted before after l m
  pub no_more : NotesNoMore before after l m

-- no more than so many were noted
abbrev pub NotesAtMost : ℕ → DeckCounts → DeckCounts → Type 0
NotesAtMost most l m = m.pushes ≤ l.pushes + most

-- nothing was counted but hints that were noted
abbrev pub NotesAlone : DeckCounts → DeckCounts → Type 0
NotesAlone l m = m ≡ record l { pushes = m.pushes; is_dry = m.is_dry }

-- nothing was counted but hints of the domain's own that were taken, and that it was found without one
pub record TakesOwn (l m : DeckCounts) : Type 0 where
  pub same : m ≡ record l { misses = m.misses; taken = m.taken; is_dry = m.is_dry }
  pub others : (d : ℕ) → d ≢ l.number → missed_at m d ≡ missed_at l d

-- at least so many hints were taken, unless their count stands still
abbrev pub HasTaken : ℕ → DeckCounts → DeckCounts → Type 0
HasTaken takes l m = (l.taken + takes ≤ m.taken) ⊎ (last_count ≤ m.taken)
