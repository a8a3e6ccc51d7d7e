-- What contracts see of the sources and sinks in memory.
use Rattle.std.specs.Prelude.{ℕ, ◌<◌, ◌≤◌, List, [], length}

-- the bytes left, the most that a read gives, the numbers of the reads that fail, the reads so far and the faults
pub record SourceState : Type 0 where
  pub left : List ℕ
  pub piece : ℕ
  pub fails : List ℕ
  pub calls : ℕ
  pub faults : ℕ

-- the bytes left and the most that a read gives, of a source that never fails
pub record SureState : Type 0 where
  pub left : List ℕ
  pub piece : ℕ

-- the bytes written, the room for all of them, the most that a write takes, the numbers of the writes that fail, the writes so far and the faults
pub record SinkState : Type 0 where
  pub written : List ℕ
  pub room : ℕ
  pub piece : ℕ
  pub fails : List ℕ
  pub calls : ℕ
  pub faults : ℕ

-- a sink to which nothing was written
abbrev pub empty_sink : ℕ → ℕ → List ℕ → SinkState
empty_sink room piece fails = record { written = []; room = room; piece = piece; fails = fails; calls = 0; faults = 0 }

-- a piece of that length isn't empty, and no room is left
abbrev pub IsFull : SinkState → ℕ → Type 0
IsFull sink len = (0 < len) × (sink.room ≤ length sink.written)
