-- What stands behind the adapters over readers and writers of std.
use Rattle.std.specs.Prelude.{ℕ}
use Rattle.text_ends.specs.declared.std_source.StdSource.{StdSource}
use Rattle.text_ends.specs.declared.std_sink.StdSink.{StdSink}

-- the reader, and how often it has failed
abbrev pub reader_of : {R : Type 0} → StdSource R → R
reader_of s = s.inner

abbrev pub read_faults : {R : Type 0} → StdSource R → ℕ
read_faults s = s.faults

-- the writer, and how often it has failed
abbrev pub writer_of : {W : Type 0} → StdSink W → W
writer_of s = s.inner

abbrev pub write_faults : {W : Type 0} → StdSink W → ℕ
write_faults s = s.faults
