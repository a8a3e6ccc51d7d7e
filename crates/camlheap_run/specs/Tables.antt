-- A run of a text of a table by the program: of one domain's lines, or of a section for each of several.
use Rattle.std.specs.Prelude.{◌≡◌, ℕ, ◌+◌, ◌≤◌, ◌==◌, max, List, [], ◌∷◌, ◌++◌, length, vec_capacity, Option, Some}
use Rattle.std.specs.Io.KnownBytes.{Appends}
use Rattle.model_core.specs.declared.state.Sizes.{Sizes}
use Rattle.model_core.specs.Domains.{class_count}
use Rattle.model_core.specs.Output.{line}
use Rattle.model_core.specs.History.{Legal}
use Rattle.heap_rule.specs.Ending.{EndedHeap}
use Rattle.run_session.specs.Sessions.{alone, fresh}
use Rattle.table_text.specs.Texts.{Text}
use Rattle.table_text.specs.declared.machine.reply.LineReply.{LineReply}
use Rattle.table_text.specs.Machine.Texts.{replies_text}
use Rattle.table_text.specs.Sections.Spelling.{Sections, SpellsSections}
use Rattle.table_run.specs.Running.{TextRuns}
use Rattle.table_sections.specs.Together.{TogetherRuns}
use Rattle.text_script.specs.Spelling.{heading_text}
use Rattle.text_script.specs.Words.Jobs.{AreTableSizes}
use Rattle.camlheap_run.specs.declared.table.alone.Opened.{Opened}
use Rattle.camlheap_run.specs.Reading.{OneOrMore, ReadsSections, ReadsTable}
use Rattle.text_ends.specs.Writing.{AppendsFront}

-- sizes of a heap with all classes on which a text of a table may be run
abbrev pub MayHoldTable : Sizes → Type 0
MayHoldTable z = AreTableSizes z × (z.classes ≡ class_count)

-- and that are those of one domain
abbrev pub MayRunAlone : Sizes → Type 0
MayRunAlone z = MayHoldTable z × (z.domains ≡ 1)

-- for how many ephemerons there is room: those of the sixteen slots, and one for each line
abbrev pub ephemerons_for : Text → ℕ
ephemerons_for text = 16 + length text.lines

-- a session of such a heap that has made no command, and room for a reply to each line
pub record IsOpened (z : Sizes) (text : Text) (o : Opened) : Type 0 where
  pub session : o.session ≡ fresh (alone z.minor_words z.pools 0 (ephemerons_for text))
  pub empty : o.room.items ≡ []
  pub capacity : length text.lines ≤ vec_capacity o.room

-- the heap that has ended is one of these sizes, its history is legal, and this text was run in it, with these replies
pub record HasRunTable (z : Sizes) (text : Text) (replies : List LineReply) (ended : Option EndedHeap) : Type 0 where
  pub past : EndedHeap
  pub is_past : ended ≡ Some past
  pub sizes : past.sizes ≡ z
  pub legal : Legal z past.history
  pub runs : TextRuns text.version z text.lines replies past.history

-- such a run, and its replies were written
pub record WritesTable (z : Sizes) (text : Text) (ended : Option EndedHeap) (before after : Option (List ℕ)) : Type 0 where
  pub replies : List LineReply
  pub ran : HasRunTable z text replies ended
  pub written : Appends before after (replies_text replies)

-- such a run, and a front part of the text of its replies was written
pub record WritesFrontOfTable (z : Sizes) (text : Text) (ended : Option EndedHeap) (before after : Option (List ℕ)) : Type 0 where
  pub replies : List LineReply
  pub ran : HasRunTable z text replies ended
  pub written : AppendsFront before after (replies_text replies)

-- the most lines that a section has
abbrev pub most_lines_of : Sections → ℕ
most_lines_of [] = 0
most_lines_of (ls ∷ sections) = max (length ls) (most_lines_of sections)

-- the sections of a text for a heap of these sizes
abbrev pub AreSpelled : Sizes → Sections → Type 0
AreSpelled z sections = (bytes : List ℕ) × SpellsSections z.domains sections bytes

-- what is written for sections, the first of which is that of domain d: each heading, and the lines of its replies
abbrev pub section_text : ℕ → List LineReply → List ℕ
section_text d replies = line (heading_text d) ++ replies_text replies

abbrev pub sections_text : ℕ → List (List LineReply) → List ℕ
sections_text d [] = []
sections_text d (replies ∷ sections) = section_text d replies ++ sections_text (d + 1) sections

-- the heap that has ended is one of these sizes, and these sections were run in it, each by its domain, with these replies
pub record HasRunSections (z : Sizes) (sections : Sections) (replies : List (List LineReply)) (ended : Option EndedHeap) : Type 0 where
  pub past : EndedHeap
  pub is_past : ended ≡ Some past
  pub sizes : past.sizes ≡ z
  pub runs : TogetherRuns z sections replies past.history

-- such a run, and its replies were written
pub record WritesSections (z : Sizes) (sections : Sections) (ended : Option EndedHeap) (before after : Option (List ℕ)) : Type 0 where
  pub replies : List (List LineReply)
  pub ran : HasRunSections z sections replies ended
  pub written : Appends before after (sections_text 0 replies)

-- such a run, and a front part of the text of its replies was written
pub record WritesFrontOfSections (z : Sizes) (sections : Sections) (ended : Option EndedHeap) (before after : Option (List ℕ)) : Type 0 where
  pub replies : List (List LineReply)
  pub ran : HasRunSections z sections replies ended
  pub written : AppendsFront before after (sections_text 0 replies)

-- a text of this grammar was read to the end of the source, and this holds of it
pub record ReadsAndDoes {T : Type 0} (Reads Does : T → Type 0) : Type 0 where
  pub text : T
  pub reads : Reads text
  pub does : Does text

-- Done: the source was read to its end, its bytes spell a text of a table, a heap made a run of it, and its replies were written. Of several domains each ran its section, all on one map
abbrev pub TableRunsToEnd : Sizes → Option EndedHeap → Option (List ℕ) → Option (List ℕ) → Option (List ℕ) → Option (List ℕ) → Type 0
TableRunsToEnd z ended left_before left_after written_before written_after =
    OneOrMore (z.domains == 1) (ReadsAndDoes (ReadsTable left_before left_after) (λ text. WritesTable z text ended written_before written_after))
    (ReadsAndDoes (ReadsSections z.domains left_before left_after) (λ sections. WritesSections z sections ended written_before written_after))

-- WriteFault: the same, and a front part was written
abbrev pub TableStopsWriting : Sizes → Option EndedHeap → Option (List ℕ) → Option (List ℕ) → Option (List ℕ) → Option (List ℕ) → Type 0
TableStopsWriting z ended left_before left_after written_before written_after =
    OneOrMore (z.domains == 1) (ReadsAndDoes (ReadsTable left_before left_after) (λ text. WritesFrontOfTable z text ended written_before written_after))
    (ReadsAndDoes (ReadsSections z.domains left_before left_after) (λ sections. WritesFrontOfSections z sections ended written_before written_after))
