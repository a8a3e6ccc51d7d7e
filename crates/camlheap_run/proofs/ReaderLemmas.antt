-- Sections that were read in threads, and the script that they make.
use Rattle.std.proofs.Common.{◌≡◌, ℕ, suc, ◌+◌, ◌-◌, ◌<◌, ◌≤◌, List, [], ◌∷◌, ◌++◌, map, length, take, drop, get_or, refl, ap, sym, ◌∙◌, subst, arith, append_assoc, append-nil, sum_by, Some, Vec, Global}
use Rattle.std.specs.Prelude.{slice_get}
use Rattle.std.specs.List.{AllByRecursion}
use Rattle.std.proofs.lemmas.List.{take-append-drop, append-nil}
use Rattle.std.proofs.lemmas.Option.{slice_get-get_or, slice_get_within}
use Rattle.model_core.specs.declared.command.Command.{Command}
use Rattle.model_core.specs.Output.{line}
use Rattle.text_script.specs.declared.version.Version.{Version}
use Rattle.text_script.specs.declared.version.Version.TheVariants.{One, Two, Three}
use Rattle.text_script.specs.Forms.{version_number}
use Rattle.text_script.specs.Script.{Scripted}
use Rattle.text_script.specs.Sections.{AreSectionTexts, IsSectionText, headed, text_with}
use Rattle.text_script.specs.Spelling.{Spells, heading_text, with_empty}
use Rattle.text_script.proofs.SoleLemmas.{sections_join}
use Rattle.text_script.proofs.FrontLemmas.{drop_on}
use Rattle.camlheap_run.specs.declared.read.cut.Cut.{Cut}
use Rattle.camlheap_run.specs.declared.read.reader.Reader.{Reader}
use Rattle.camlheap_run.specs.Readers.{AreReadersDriven, IsCut, IsReaderOf, SameSection, SaysLines, lines_of, read_of, whole}
use Rattle.camlheap_run.proofs.RunLemmas.{all_from_each, each_from_all}

-- where a part stands in a text, the rest stands behind it
pub part_behind : (text part : List ℕ) (at k : ℕ) → k ≡ length part → take k (drop at text) ≡ part → drop at text ≡ part ++ drop (at + length part) text
part_behind text part at k same there =
    sym (take-append-drop k (drop at text)) ∙ ap (λ x. x ++ drop k (drop at text)) there ∙ ap (λ x. part ++ x) (sym (drop_on at k text) ∙ ap (λ n. drop (at + n) text) same)

-- one section more behind its heading
headed_more : (n : ℕ) (texts : List (List ℕ)) (t : List ℕ) → headed n (texts ++ t ∷ []) ≡ headed n texts ++ (line (heading_text (n + length texts)) ++ t)
headed_more n [] t =
    let same : n ≡ n + 0 = omega arith in
    ap (λ x. line (heading_text n) ++ x) (append-nil t) ∙ ap (λ k. line (heading_text k) ++ t) same
headed_more n (u ∷ texts) t =
    let same : n + 1 + length texts ≡ n + suc (length texts) = omega arith in
    ap (λ x. line (heading_text n) ++ (u ++ x)) (headed_more (n + 1) texts t ∙ ap (λ k. headed (n + 1) texts ++ (line (heading_text k) ++ t)) same)
    ∙ ap (λ x. line (heading_text n) ++ x) (sym (append_assoc u (headed (n + 1) texts) _))
    ∙ sym (append_assoc (line (heading_text n)) (u ++ headed (n + 1) texts) _)

map_more : {A B : Type 0} (f : A → B) (xs : List A) (x : A) → map f (xs ++ x ∷ []) ≡ map f xs ++ f x ∷ []
map_more f [] x = refl
map_more f (y ∷ xs) x = ap (λ l. f y ∷ l) (map_more f xs x)

pub one_longer : {A : Type 0} (xs : List A) (x : A) → length (xs ++ x ∷ []) ≡ length xs + 1
one_longer [] x = refl
one_longer (y ∷ xs) x = omega (arith, one_longer xs x)

length_mapped : {A B : Type 0} (f : A → B) (xs : List A) → length (map f xs) ≡ length xs
length_mapped f [] = refl
length_mapped f (x ∷ xs) = ap suc (length_mapped f xs)

-- the text is cut as far as the end of a section
pub cut_further : (text from : List ℕ) (at number : ℕ) (readers : List Reader) (r : Reader) → length readers ≡ number → from ≡ headed 0 (map (lines_of text) readers) ++ drop at text → drop at text ≡ line (heading_text number) ++ drop r.start text → r.start ≤ r.end
    → from ≡ headed 0 (map (lines_of text) (readers ++ r ∷ [])) ++ drop r.end text
cut_further text from at number readers r many said heading further =
    let place : r.end ≡ r.start + (r.end - r.start) = omega arith in
    let rest : drop r.start text ≡ lines_of text r ++ drop r.end text = sym (take-append-drop (r.end - r.start) (drop r.start text)) ∙ ap (λ x. lines_of text r ++ x) (sym (drop_on r.start (r.end - r.start) text) ∙ ap (λ k. drop k text) (sym place)) in
    let count : number ≡ 0 + length (map (lines_of text) readers) = omega (arith, length_mapped (lines_of text) readers) in
    let before = headed 0 (map (lines_of text) readers) in
    said ∙ ap (λ x. before ++ x) (heading ∙ ap (λ x. line (heading_text number) ++ x) rest ∙ ap (λ k. line (heading_text k) ++ (lines_of text r ++ drop r.end text)) count ∙ sym (append_assoc (line (heading_text (0 + length (map (lines_of text) readers)))) (lines_of text r) (drop r.end text)))
    ∙ sym (append_assoc before _ (drop r.end text))
    ∙ ap (λ x. x ++ drop r.end text) (sym (ap (headed 0) (map_more (lines_of text) readers r) ∙ headed_more 0 (map (lines_of text) readers) (lines_of text r)))

-- lists whose items are the same for a function
mapped_same : {A B : Type 0} (f : A → B) (old new : List A) → length new ≡ length old → ((i : ℕ) (r q : A) → slice_get old i ≡ Some r → slice_get new i ≡ Some q → f q ≡ f r) → map f new ≡ map f old
mapped_same f [] [] count same = refl
mapped_same f [] (q ∷ new) count same = absurd (omega (arith, count))
mapped_same f (r ∷ old) [] count same = absurd (omega (arith, count))
mapped_same f (r ∷ old) (q ∷ new) count same =
    ap (λ x. x ∷ map f new) (same 0 r q refl refl) ∙ ap (λ l. f r ∷ l) (mapped_same f old new (omega (arith, count)) (λ i a b from to. same (suc i) a b from to))

lines_same : (text : List ℕ) (r q : Reader) → SameSection r q → lines_of text q ≡ lines_of text r
lines_same text r q same = ap (λ n. take (n - q.start) (drop q.start text)) same.end ∙ ap (λ n. take (r.end - n) (drop n text)) same.start

-- readers that were driven to their ends are those of the same sections
still_of : (ver : Version) (domains : ℕ) (text : List ℕ) (old new : List Reader) → AllByRecursion (IsReaderOf ver domains text) old → AreReadersDriven text old new → AllByRecursion (IsReaderOf ver domains text) new
still_of ver domains text old new each driven = all_from_each (IsReaderOf ver domains text) new (λ i q at.
    let within : i < length old = subst (λ (n : ℕ). i < n) driven.count (slice_get_within new i q at) in
    let r : Reader = get_or old i q in
    let there : slice_get old i ≡ Some r = slice_get-get_or old i q within in
    let was = each_from_all (IsReaderOf ver domains text) old i r each there in
    let same = driven.further i r q there at in
    record { reads = driven.here i q at; version = same.version ∙ was.version; domains = same.domains ∙ was.domains })

-- what they have read are the sections with these lines
section_read : (ver : Version) (domains : ℕ) (text : List ℕ) (r : Reader) (v : Vec Command Global) → IsReaderOf ver domains text r → read_of r ≡ whole v → IsSectionText ver domains (lines_of text r) v.items
section_read ver domains text r v is said =
    let told : IsSectionText r.version r.domains (lines_of text r) v.items = subst (SaysLines (lines_of text r) r) said is.reads.tells in
    subst (λ (d : ℕ). IsSectionText ver d (lines_of text r) v.items) is.domains (subst (λ (u : Version). IsSectionText u r.domains (lines_of text r) v.items) is.version told)

sections_read : (ver : Version) (domains : ℕ) (text : List ℕ) (readers : List Reader) (sections : List (Vec Command Global)) → AllByRecursion (IsReaderOf ver domains text) readers → map read_of readers ≡ map whole sections
    → AreSectionTexts ver domains (map (lines_of text) readers) (map (λ v. v.items) sections)
sections_read ver domains text [] [] each said = tt
sections_read ver domains text [] (v ∷ sections) each said = cc
sections_read ver domains text (r ∷ readers) [] each said = cc
sections_read ver domains text (r ∷ readers) (v ∷ sections) each said =
    let own : read_of r ≡ whole v = cc in
    let others : map read_of readers ≡ map whole sections = cc in (
      section_read ver domains text r v each.0 own,
      sections_read ver domains text readers sections each.1 others,
    )

at_most_three : (ver : Version) → version_number ver ≤ version_number Three
at_most_three One = omega arith
at_most_three Two = omega arith
at_most_three Three = omega arith

-- the script that they make is the one that the text spells
pub together_spelled : (domains : ℕ) (text : List ℕ) (c : Cut) (new : List Reader) (sections : List (Vec Command Global)) (s : Scripted) → IsCut domains text c → AreReadersDriven text c.readers.items new → map whole sections ≡ map read_of new
    → s.version ≡ c.version → s.sections ≡ with_empty domains (map (λ v. v.items) sections) → sum_by length (map (λ v. v.items) sections) ≤ 200000 → Spells Three domains s text
together_spelled domains text c new sections s cut driven said ver joined few =
    let lines = mapped_same (lines_of text) c.readers.items new driven.count (λ i r q from to. lines_same text r q (driven.further i r q from to)) in
    let is : text ≡ text_with c.version (map (lines_of text) new) = cut.is_text ∙ ap (text_with c.version) (sym lines) in
    let are = sections_read c.version domains text new sections (still_of c.version domains text c.readers.items new cut.each driven) (sym said) in
    let count : length (map (λ v. v.items) sections) ≤ domains = omega (arith, length_mapped (λ (v : Vec Command Global). v.items) sections, ap length said, length_mapped read_of new, length_mapped whole sections, driven.count, cut.few) in
    let spelled = sections_join Three c.version domains (map (lines_of text) new) (map (λ v. v.items) sections) cut.unspawned (at_most_three c.version) are count few (omega (arith, ap length is, cut.short)) in
    let same : record { version = c.version; sections = with_empty domains (map (λ v. v.items) sections) } ≡ s = λ i. record { version = sym ver i; sections = sym joined i } in
    subst (λ (t : Scripted). Spells Three domains t text) same (subst (Spells Three domains _) (sym is) spelled)
