-- The sections of a table's text fit a heap, and what is written for them.
use Rattle.std.proofs.Math.Nat.{le-max_left, le-max_right}
use Rattle.std.proofs.Common.{◌≡◌, ℕ, zero, suc, ◌+◌, ◌<◌, ◌≤◌, List, [], ◌∷◌, ◌++◌, map, length, get_or, take, drop, true, refl, sym, ap, ◌∙◌, arith, append_assoc, append-nil, add-one, sum_by, None}
use Rattle.std.specs.List.{AllByRecursion, list_all}
use Rattle.std.proofs.lemmas.Bool.{and_parts}
use Rattle.model_core.specs.declared.entry.Entry.{Entry}
use Rattle.model_core.specs.declared.state.Sizes.{Sizes}
use Rattle.model_core.specs.Domains.{sizes_of, first_outside as outside_sizes}
use Rattle.heap_rule.specs.declared.config.Config.{Config}
use Rattle.heap_rule.specs.Limits.{sizes_in, first_outside}
use Rattle.text_script.proofs.ScriptLemmas.{total-cons}
use Rattle.table_text.specs.declared.line.TableLine.{TableLine}
use Rattle.table_text.specs.declared.line.TableLine.TheVariants.{Key, Forget, Put, Get, Del, SetWeak, GetWeak, Count, FullMajor}
use Rattle.table_text.specs.declared.machine.reply.LineReply.{LineReply}
use Rattle.table_text.specs.Sections.Spelling.{Sections, may_stand}
use Rattle.table_sections.specs.Lines.{IsSharedLine}
use Rattle.table_sections.specs.Together.{SectionFits, SectionsFit, SectionsStand, TogetherRuns}
use Rattle.camlheap_run.specs.Tables.{AreSpelled, MayHoldTable, most_lines_of, section_text, sections_text}
use Rattle.camlheap_run.proofs.SectionLemmas.{rooms_fit}
use Rattle.camlheap_run.proofs.ReplayLemmas.{few_domains}

-- no section has more lines than all
pub few_most : (sections : Sections) → most_lines_of sections ≤ sum_by length sections
few_most [] = omega arith
few_most (ls ∷ sections) = omega (arith, few_most sections, total-cons ls sections)

-- a line of the grammar is one that a section may have
shared_line : (l : TableLine) → may_stand l ≡ true → IsSharedLine l
shared_line (Key r) e = e
shared_line (Forget r) e = e
shared_line (Put r v) e = e
shared_line (Get r) e = e
shared_line (Del r) e = e
shared_line (SetWeak i r) e = e
shared_line (GetWeak d i) e = e
shared_line Count e = cc
shared_line FullMajor e = e

shared_lines : (ls : List TableLine) → list_all may_stand ls ≡ true → AllByRecursion IsSharedLine ls
shared_lines [] e = tt
shared_lines (l ∷ ls) e =
    let p = and_parts (may_stand l) (list_all may_stand ls) e in
    (shared_line l p.0, shared_lines ls p.1)

each_fits : (k : Config) (sections : Sections) → list_all (list_all may_stand) sections ≡ true → most_lines_of sections + 3 ≤ k.ephes → AllByRecursion (SectionFits k) sections
each_fits k [] e room = tt
each_fits k (ls ∷ sections) e room =
    let p = and_parts (list_all may_stand ls) (list_all (list_all may_stand) sections) e in
    let own = le-max_left (length ls) (most_lines_of sections) in
    let others = le-max_right (length ls) (most_lines_of sections) in
    (record { lines_fit = shared_lines ls p.0; room = omega (arith, room, own) }, each_fits k sections p.1 (omega (arith, room, others)))

pub sections_fit : (z : Sizes) (k : Config) (sections : Sections) → AreSpelled z sections → sizes_in k ≡ z → k.ephes ≡ most_lines_of sections + 3 → SectionsFit k sections
sections_fit z k sections text sizes room = record {
  each = each_fits k sections text.1.writable (omega (arith, room));
  domains = ap (λ (y : Sizes). y.domains) sizes ∙ sym text.1.one_each;
}

-- the heap has room for them
pub room_within : (z : Sizes) (sections : Sections) (n : ℕ) → MayHoldTable z → AreSpelled z sections → n ≡ most_lines_of sections + 3
    → first_outside (record { domains = z.domains; minor_words = z.minor_words; pools = z.pools; finals = 0; ephes = n }) ≡ None
room_within z sections n may text is =
    let few = few_most sections in
    let same : sizes_of z.domains z.pools z.minor_words z.classes ≡ z = refl in
    let sizes = ap (λ (c : ℕ). outside_sizes (sizes_of z.domains z.pools z.minor_words c)) (sym may.1) ∙ ap outside_sizes same ∙ may.0.limits in
    let k : Config = record { domains = z.domains; minor_words = z.minor_words; pools = z.pools; finals = 0; ephes = n } in
    rooms_fit k sizes (omega arith) (omega (arith, few, is, text.1.few_lines))

-- each section has its replies
as_many : (z : Sizes) (all : Sections) (given : List (List LineReply)) (h : List Entry) (t : TogetherRuns z all given h) (d : ℕ) (sections : Sections) (replies : List (List LineReply))
    → SectionsStand z t.places t.base h d sections replies → length replies ≡ length sections
as_many z all given h t d [] [] stand = refl
as_many z all given h t d [] (rs ∷ rss) stand = absurd stand
as_many z all given h t d (ls ∷ lss) [] stand = absurd stand
as_many z all given h t d (ls ∷ lss) (rs ∷ rss) stand = let rest = as_many z all given h t (suc d) lss rss stand.1 in omega (arith, rest)

-- there are no more than eight
pub few_replies : (z y : Sizes) (sections : Sections) (replies : List (List LineReply)) (h : List Entry) → MayHoldTable z → AreSpelled z sections → TogetherRuns y sections replies h → length replies ≤ 8
few_replies z y sections replies h may text runs =
    let same = as_many y sections replies h runs 0 sections replies runs.stand in
    let few = few_domains z may.0.limits in
    omega (arith, same, few, text.1.one_each)

-- what is written for the sections before one, and for it
module _ {V : Type 0} (view : V → List LineReply) where
  written_on : (d : ℕ) (xs : List V) (i : ℕ) (x : V) → i < length xs → sections_text d (map view (take (suc i) xs)) ≡ sections_text d (map view (take i xs)) ++ section_text (d + i) (view (get_or xs i x))
  written_on d [] i x below = absurd (omega arith)
  written_on d (y ∷ xs) zero x below = append-nil (section_text d (view y)) ∙ ap (λ n. section_text n (view y)) (omega arith)
  written_on d (y ∷ xs) (suc i) x below =
      ap (λ l. section_text d (view y) ++ l) (written_on (d + 1) xs i x (omega arith)) ∙ sym (append_assoc (section_text d (view y)) (sections_text (d + 1) (map view (take i xs))) _)
      ∙ ap (λ n. (section_text d (view y) ++ sections_text (d + 1) (map view (take i xs))) ++ section_text n (view (get_or xs i x))) (omega arith)

  written_cut : (d : ℕ) (xs : List V) (i : ℕ) → sections_text d (map view xs) ≡ sections_text d (map view (take i xs)) ++ sections_text (d + i) (map view (drop i xs))
  written_cut d [] zero = refl
  written_cut d [] (suc i) = refl
  written_cut d (y ∷ xs) zero = ap (λ n. sections_text n (map view (y ∷ xs))) (omega arith)
  written_cut d (y ∷ xs) (suc i) =
      ap (λ l. section_text d (view y) ++ l) (written_cut (d + 1) xs i) ∙ sym (append_assoc (section_text d (view y)) (sections_text (d + 1) (map view (take i xs))) _)
      ∙ ap (λ n. (section_text d (view y) ++ sections_text (d + 1) (map view (take i xs))) ++ sections_text n (map view (drop i xs))) (omega arith)

  -- one more, by what is shown of it
  pub written_more : (xs : List V) (i : ℕ) (x : V) (shown : List LineReply) → i < length xs → x ≡ get_or xs i x → shown ≡ view x
      → sections_text 0 (map view (take (i + 1) xs)) ≡ sections_text 0 (map view (take i xs)) ++ section_text i shown
  written_more xs i x shown below at is =
      let here : 0 + i ≡ i = omega arith in
      ap (λ n. sections_text 0 (map view (take n xs))) (add-one i) ∙ written_on 0 xs i x below
      ∙ ap (λ n. sections_text 0 (map view (take i xs)) ++ section_text n (view (get_or xs i x))) here
      ∙ ap (λ rs. sections_text 0 (map view (take i xs)) ++ section_text i rs) (ap view (sym at) ∙ sym is)

  -- all of them by one: what is before it, it, and what is behind
  pub written_at : (xs : List V) (i : ℕ) (x : V) (shown : List LineReply) → i < length xs → x ≡ get_or xs i x → shown ≡ view x
      → sections_text 0 (map view xs) ≡ sections_text 0 (map view (take i xs)) ++ (section_text i shown ++ sections_text (i + 1) (map view (drop (i + 1) xs)))
  written_at xs i x shown below at is =
      let next : 0 + (i + 1) ≡ i + 1 = omega arith in
      written_cut 0 xs (i + 1) ∙ ap (λ n. sections_text 0 (map view (take (i + 1) xs)) ++ sections_text n (map view (drop (i + 1) xs))) next
      ∙ ap (λ l. l ++ sections_text (i + 1) (map view (drop (i + 1) xs))) (written_more xs i x shown below at is)
      ∙ append_assoc (sections_text 0 (map view (take i xs))) (section_text i shown) (sections_text (i + 1) (map view (drop (i + 1) xs)))
