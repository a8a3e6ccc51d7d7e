-- Sections, line by line.
use Rattle.std.proofs.Common.{ℕ, List, [], ◌∷◌, sym, subst}
use Rattle.model_core.specs.declared.entry.Entry.{Entry}
use Rattle.model_core.specs.declared.state.Sizes.{Sizes}
use Rattle.model_core.specs.History.{IsPrefix}
use Rattle.table_text.specs.declared.line.TableLine.{TableLine}
use Rattle.table_text.specs.declared.machine.reply.LineReply.{LineReply}
use Rattle.weak_laws.proofs.OfMaps.FrontLemmas.{prefix_same, prefix_trans}
use Rattle.weak_maps.proofs.OfShared.SharingLemmas.{others_may_be_relied_on}
use Rattle.weak_maps.proofs.StayLemmas.{respects_within}
use Rattle.table_sections.specs.Sections.{SectionRuns, SectionsAreAnswered, SectionsAreBeside, SectionsAreGuarded}

pub sections_are_guarded : SectionsAreGuarded
sections_are_guarded z root d base old new behind held guards front e here since until own = record {
  own = own;
  first = old;
  last = new;
  behind = behind;
  since = since;
  until = until;
  guards = λ before map placed. guards root (record { holds = held before; map = map; placed = placed });
}

pub section_grows : (z : Sizes) (d : ℕ) (old new : List Entry) (lines : List TableLine) (replies : List LineReply) → SectionRuns z d old lines replies new → IsPrefix old new
section_grows z d old new [] [] same = subst (IsPrefix old) (sym same) (prefix_same old)
section_grows z d old new [] (a ∷ replies) runs = absurd runs
section_grows z d old new (l ∷ lines) [] runs = absurd runs
section_grows z d old new (l ∷ lines) (a ∷ replies) (mid, line, rest) = prefix_trans old mid new line.grows (section_grows z d mid new lines replies rest)

pub sections_are_beside : SectionsAreBeside
sections_are_beside z root d old new [] [] same on others = same
sections_are_beside z root d old new [] (a ∷ replies) runs on others = absurd runs
sections_are_beside z root d old new (l ∷ lines) [] runs on others = absurd runs
sections_are_beside z root d old new (l ∷ lines) (a ∷ replies) (mid, line, rest) on others =
    let until = section_grows z d mid new lines replies rest in
    let here = line.beside root on (respects_within z root d old new old mid (prefix_same old) until others) in
    (mid, here, sections_are_beside z root d mid new lines replies rest here.after (respects_within z root d old new mid new line.grows (prefix_same new) others))

pub sections_are_answered : SectionsAreAnswered
sections_are_answered z root base h x d old new lines replies behind grows until held runs =
    let there = others_may_be_relied_on z root base h x d old new behind grows until in
    sections_are_beside z root d old new lines replies runs (record { holds = held; map = there.0; placed = there.1 }) there.2
