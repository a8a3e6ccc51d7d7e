-- The text of an answer.
use Rattle.std.specs.Prelude.{ℕ, Bool, cond, List, [], ◌∷◌, ◌++◌, codes, decimal, flat_map}
use Rattle.model_core.specs.declared.entry.Entry.{Entry}
use Rattle.model_core.specs.declared.entry.Entry.TheVariants.{Command, End, Cut, Queue, Seal, Wipe, Last, Collected, Done, Ran}
use Rattle.model_core.specs.Output.{line}
use Rattle.text_script.specs.Spelling.{command_text}

-- the end of a line
abbrev pub line_feed : List ℕ
line_feed = 10 ∷ []

-- each place behind a space
abbrev pub places_text : List ℕ → List ℕ
places_text places = flat_map (λ p. 32 ∷ decimal p) places

-- what stands behind the number of the domain in the line of a command
abbrev pub answered_text : Bool → List ℕ
answered_text full = cond full (codes ", answered full: ") (codes ": ")

-- the line of an entry; what a collection does is set in
abbrev pub entry_text : Entry → List ℕ
entry_text (Command d c full) = codes "domain " ++ decimal d ++ answered_text full ++ line (command_text c)
entry_text (End d) = codes "domain " ++ decimal d ++ line (codes " ends")
entry_text (Ran d) = codes "domain " ++ decimal d ++ line (codes " runs a finaliser")
entry_text Cut = line (codes "a collection begins")
entry_text (Queue d places) = codes "  it queues the finalise of domain " ++ decimal d ++ codes " at" ++ places_text places ++ line_feed
entry_text Seal = line (codes "  it turns to keys")
entry_text (Wipe l keys) = codes "  it empties the keys" ++ places_text keys ++ codes " of " ++ decimal l.domain ++ codes ":" ++ decimal l.serial ++ line (codes ", and its data")
entry_text (Last d place) = codes "  it queues the finalise_last of domain " ++ decimal d ++ codes " at " ++ decimal place ++ line_feed
entry_text Collected = line (codes "  it is complete")
entry_text Done = line (codes "the collection ends")

-- the answer `legal`, and the history
abbrev pub legal_text : List Entry → List ℕ
legal_text history = line (codes "legal") ++ flat_map entry_text history

-- that none was found in so many states
abbrev pub none_text : ℕ → List ℕ
none_text states = codes "no history found in " ++ decimal states ++ line (codes " states, which are all; tests alone show that there is none then")

-- that the search was given up
abbrev pub gave_up_text : ℕ → List ℕ
gave_up_text states = codes "gave up after " ++ decimal states ++ line (codes " states")

-- a legal output near the judged one, and the first line of the judged one that isn't as in it
abbrev pub near_text : ℕ → List ℕ → List ℕ
near_text n near = codes "line " ++ decimal n ++ line (codes " is the first that isn't as in this output, which is legal:") ++ near
