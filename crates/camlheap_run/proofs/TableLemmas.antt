-- A text of a table that was read has a heap, and its history goes on to the end of that heap.
use Rattle.std.proofs.Common.{◌≡◌, ◌∙◌, ℕ, ◌*◌, ◌≤◌, List, [], ◌∷◌, ◌++◌, length, append_assoc, refl, sym, ap, subst, arith, Some, None}
use Rattle.std.specs.Prelude.{Option}
use Rattle.std.specs.Io.KnownBytes.{Appends}
use Rattle.model_core.specs.declared.entry.Entry.{Entry}
use Rattle.model_core.specs.declared.entry.Entry.TheVariants.{End}
use Rattle.model_core.specs.declared.state.Sizes.{Sizes}
use Rattle.model_core.specs.Domains.{class_count, sizes_of, first_outside as outside_sizes}
use Rattle.model_core.specs.History.{Legal}
use Rattle.heap_rule.specs.Ending.{EndedHeap}
use Rattle.heap_rule.specs.Limits.{first_outside, sizes_in}
use Rattle.run_session.specs.Sessions.{SessionView, alone}
use Rattle.run_session.specs.Stopping.{StopsAfter}
use Rattle.table_text.specs.Texts.{Text, most_lines}
use Rattle.table_text.specs.declared.version.Version.{Version}
use Rattle.table_text.specs.declared.version.Version.TheVariants.{One, Two}
use Rattle.table_text.specs.declared.line.TableLine.{TableLine}
use Rattle.table_text.specs.declared.line.TableLine.TheVariants.{Key, Forget, Put, Get, Del, SetWeak, GetWeak, Count, FullMajor}
use Rattle.table_text.specs.declared.machine.reply.LineReply.{LineReply}
use Rattle.table_text.specs.Machine.Machine.{all_made, made_by}
use Rattle.table_text.specs.Machine.Texts.{replies_text}
use Rattle.table_run.specs.Running.{TextRuns, all_rooms, rooms_of}
use Rattle.camlheap_run.specs.declared.table.alone.Opened.{Opened}
use Rattle.camlheap_run.specs.Tables.{HasRunTable, IsOpened, MayRunAlone, ephemerons_for, WritesFrontOfTable, WritesTable}
use Rattle.text_ends.specs.Writing.{AppendsFront}
use Rattle.camlheap_run.proofs.SectionLemmas.{rooms_fit}

-- the heap that is started is one of the sizes asked for
pub table_sizes_are : (z : Sizes) (n : ℕ) → MayRunAlone z → sizes_in (alone z.minor_words z.pools 0 n) ≡ z
table_sizes_are z n may =
    let same : sizes_of z.domains z.pools z.minor_words z.classes ≡ z = refl in
    ap (λ (d : ℕ). sizes_of d z.pools z.minor_words class_count) (sym may.1) ∙ (ap (λ (c : ℕ). sizes_of z.domains z.pools z.minor_words c) (sym may.0.1) ∙ same)

pub opened_sizes : (z : Sizes) (ls : Text) (o : Opened) → MayRunAlone z → IsOpened z ls o → sizes_in o.session.config ≡ z
opened_sizes z ls o may opened = ap (λ (s : SessionView). sizes_in s.config) opened.session ∙ table_sizes_are z (ephemerons_for ls) may

-- no label was given out
pub opened_labels : (z : Sizes) (ls : Text) (o : Opened) → IsOpened z ls o → o.session.labels ≡ 0
opened_labels z ls o opened = ap (λ (s : SessionView). s.labels) opened.session

pub opened_room : (z : Sizes) (ls : Text) (o : Opened) → IsOpened z ls o → o.session.room ≡ ephemerons_for ls
opened_room z ls o opened = ap (λ (s : SessionView). s.room) opened.session

-- and within the limits
pub table_fits : (z : Sizes) (n : ℕ) → MayRunAlone z → n ≤ 200000 → first_outside (alone z.minor_words z.pools 0 n) ≡ None
table_fits z n may few =
    let none : 0 ≤ 200000 = omega arith in
    rooms_fit (alone z.minor_words z.pools 0 n) (ap outside_sizes (table_sizes_are z n may) ∙ may.0.0.limits) none few

-- there are few lines
pub few_lines : (version : Version) → most_lines version ≤ 199984
few_lines One = omega arith
few_lines Two = omega arith

pub few_ephemerons : (text : Text) → length text.lines ≤ most_lines text.version → ephemerons_for text ≤ 200000
few_ephemerons text few = let most = few_lines text.version in omega (arith, few, most)

line_rooms : (l : TableLine) → rooms_of l ≤ 1
line_rooms (Key r) = omega arith
line_rooms (Forget r) = omega arith
line_rooms (Put r v) = omega arith
line_rooms (Get r) = omega arith
line_rooms (Del r) = omega arith
line_rooms (SetWeak i r) = omega arith
line_rooms (GetWeak d i) = omega arith
line_rooms Count = omega arith
line_rooms FullMajor = omega arith

-- no line needs room for more than one ephemeron
pub few_rooms : (ls : List TableLine) → all_rooms ls ≤ length ls
few_rooms [] = omega arith
few_rooms (l ∷ ls) = let one = line_rooms l in let rest = few_rooms ls in omega (arith, one, rest)

line_makes : (version : Version) (l : TableLine) → made_by version l ≤ 7
line_makes version (Key r) = omega arith
line_makes version (Forget r) = omega arith
line_makes One (Put r v) = omega arith
line_makes Two (Put r v) = omega arith
line_makes version (Get r) = omega arith
line_makes version (Del r) = omega arith
line_makes version (SetWeak i r) = omega arith
line_makes version (GetWeak d i) = omega arith
line_makes version Count = omega arith
line_makes version FullMajor = omega arith

-- or makes more than seven labels
pub few_labels : (version : Version) (ls : List TableLine) → all_made version ls ≤ 7 * length ls
few_labels version [] = omega arith
few_labels version (l ∷ ls) = let seven = line_makes version l in let rest = few_labels version ls in omega (arith, seven, rest)

-- what was run in a history was run in each that goes on from it
runs_further : (z : Sizes) (ls : Text) (rs : List LineReply) (old more : List Entry) → TextRuns ls.version z ls.lines rs old → TextRuns ls.version z ls.lines rs (old ++ more)
runs_further z ls rs old more runs = record {
  places = runs.places;
  first = runs.first;
  begins = runs.begins;
  none = runs.none;
  state = runs.state;
  last = runs.last;
  lines_run = runs.lines_run;
  within = record { rest = runs.within.rest ++ more; appends = ap (λ (h : List Entry). h ++ more) runs.within.appends ∙ append_assoc runs.last runs.within.rest more };
}

stopped_runs : (z : Sizes) (ls : Text) (rs : List LineReply) (front history : List Entry) → StopsAfter z front history → TextRuns ls.version z ls.lines rs front → TextRuns ls.version z ls.lines rs history
stopped_runs z ls rs front history stops runs =
    let on = append_assoc (front ++ stops.before) (End 0 ∷ []) stops.after ∙ append_assoc front stops.before (End 0 ∷ stops.after) in
    subst (λ (h : List Entry). TextRuns ls.version z ls.lines rs h) (sym (stops.appends ∙ on)) (runs_further z ls rs front (stops.before ++ End 0 ∷ stops.after) runs)

-- a session was stopped after it had run the text: the sizes asked for, those with which it began, and those as it ended
pub record RanTable (z began ends : Sizes) (ls : Text) (rs : List LineReply) (front : List Entry) (past : EndedHeap) : Type 0 where
  pub heap : began ≡ z
  pub same : ends ≡ began
  pub runs : TextRuns ls.version began ls.lines rs front
  pub sizes : past.sizes ≡ ends
  pub stops : StopsAfter ends front past.history

has_run_table : (z began ends : Sizes) (ls : Text) (rs : List LineReply) (front : List Entry) (past : EndedHeap) (ended : Option EndedHeap) → RanTable z began ends ls rs front past → Some past ≡ ended → HasRunTable z ls rs ended
has_run_table z began ends ls rs front past ended ran is =
    let stops : StopsAfter began front past.history = subst (λ (y : Sizes). StopsAfter y front past.history) ran.same ran.stops in
    record {
      past = past;
      is_past = sym is;
      sizes = ran.sizes ∙ (ran.same ∙ ran.heap);
      legal = subst (λ (y : Sizes). Legal y past.history) ran.heap stops.legal;
      runs = subst (λ (y : Sizes). TextRuns ls.version y ls.lines rs past.history) ran.heap (stopped_runs began ls rs front past.history stops ran.runs);
    }

pub writes_table : (z began ends : Sizes) (ls : Text) (rs shown : List LineReply) (front : List Entry) (past : EndedHeap) (ended : Option EndedHeap) (before after : Option (List ℕ))
    → RanTable z began ends ls rs front past → shown ≡ rs → Some past ≡ ended → Appends before after (replies_text shown) → WritesTable z ls ended before after
writes_table z began ends ls rs shown front past ended before after ran is last bytes = record {
  replies = rs;
  ran = has_run_table z began ends ls rs front past ended ran last;
  written = subst (λ (xs : List LineReply). Appends before after (replies_text xs)) is bytes;
}

pub writes_table_front : (z began ends : Sizes) (ls : Text) (rs shown : List LineReply) (front : List Entry) (past : EndedHeap) (ended : Option EndedHeap) (before after : Option (List ℕ))
    → RanTable z began ends ls rs front past → shown ≡ rs → Some past ≡ ended → AppendsFront before after (replies_text shown) → WritesFrontOfTable z ls ended before after
writes_table_front z began ends ls rs shown front past ended before after ran is last bytes = record {
  replies = rs;
  ran = has_run_table z began ends ls rs front past ended ran last;
  written = subst (λ (xs : List LineReply). AppendsFront before after (replies_text xs)) is bytes;
}
