-- The text of a schedule: how it grows, how it is split into lines, and that none of them is wrong.
use Rattle.std.proofs.Common.{◌≡◌, ℕ, ◌+◌, ◌<◌, ◌≤◌, ◌^◌, List, [], ◌∷◌, ◌++◌, map, length, length-append, true, false, cond, ◌&&◌, refl, ap, ◌∙◌, arith, append_assoc, None, Some}
use Rattle.std.specs.Prelude.{Option, flat_map, codes, bytes_eq, nat_lt, ◌==◌}
use Rattle.std.specs.List.{list_all, slice_split}
use Rattle.std.proofs.lemmas.Bool.{and_parts}
use Rattle.std.proofs.lemmas.Bool.Decides.{nat_tests}
use Rattle.std.proofs.lemmas.List.{append-nil}
use Rattle.std.proofs.lemmas.List.Concat.{flat_map-append}
use Rattle.std.proofs.lemmas.List.Splits.{length-slice_split}
use Rattle.model_core.specs.Output.{line}
use Rattle.text_script.proofs.DecimalLemmas.{is_free}
use Rattle.text_script.proofs.OfSchedule.OfText.Cutting.{cut_lines}
use Rattle.model_traces.specs.declared.schedules.items.Item.{Item}
use Rattle.text_script.specs.Schedule.Drive.Following.{is_for}
use Rattle.text_script.specs.Schedule.Text.Spelling.{item_text, front_lines, front_text, spelling, Spells}
use Rattle.text_script.specs.Schedule.Text.Faults.{item_of, or_wrong, wrong_from, wrong_in, first_wrong}
use Rattle.text_script.proofs.OfSchedule.OfText.LineLemmas.{item_said, item_no_end, item_free}

map-push : (items : List Item) (i : Item) → map item_text (items ++ i ∷ []) ≡ map item_text items ++ item_text i ∷ []
map-push [] i = refl
map-push (x ∷ items) i = ap (λ ls. item_text x ∷ ls) (map-push items i)

-- an item more
pub front_grows : (items : List Item) (i : Item) → front_text (items ++ i ∷ []) ≡ front_text items ++ line (item_text i)
front_grows items i =
    ap (λ ls. flat_map line (codes "schedule 1" ∷ ls)) (map-push items i)
    ∙ flat_map-append line (front_lines items) (item_text i ∷ []) ∙ ap (λ x. front_text items ++ x) (append-nil (line (item_text i)))

pub all_more : (domains : ℕ) (items : List Item) (i : Item) → list_all (is_for domains) items ≡ true → is_for domains i ≡ true → list_all (is_for domains) (items ++ i ∷ []) ≡ true
all_more domains [] i e f = ap (λ b. b && true) f
all_more domains (x ∷ items) i e f =
    let p = and_parts (is_for domains x) (list_all (is_for domains) items) e in
    ap (λ b. b && list_all (is_for domains) (items ++ i ∷ [])) p.0 ∙ all_more domains items i p.1 f

items_free : (domains : ℕ) (items : List Item) → domains < 2 ^ 32 → list_all (is_for domains) items ≡ true → list_all (is_free 10) (map item_text items) ≡ true
items_free domains [] small e = refl
items_free domains (x ∷ items) small e =
    let p = and_parts (is_for domains x) (list_all (is_for domains) items) e in
    ap (λ b. b && list_all (is_free 10) (map item_text items)) (item_free domains x small p.0) ∙ items_free domains items small p.1

-- the text in front of the last line, and what stands behind it, by lines
pub cut_front : (domains : ℕ) (items : List Item) (rest : List ℕ) → domains < 2 ^ 32 → list_all (is_for domains) items ≡ true
    → slice_split (λ b. b == 10) (front_text items ++ rest) ≡ front_lines items ++ slice_split (λ b. b == 10) rest
cut_front domains items rest small e = cut_lines (front_lines items) rest (items_free domains items small e)

-- and the whole of it
pub cut_spelling : (domains : ℕ) (items : List Item) (rest : List ℕ) → domains < 2 ^ 32 → list_all (is_for domains) items ≡ true
    → slice_split (λ b. b == 10) (spelling items ++ rest) ≡ front_lines items ++ codes "end" ∷ slice_split (λ b. b == 10) rest
cut_spelling domains items rest small e =
    ap (slice_split (λ b. b == 10)) (append_assoc (front_text items) (line (codes "end")) rest)
    ∙ cut_front domains items (line (codes "end") ++ rest) small e
    ∙ ap (λ ls. front_lines items ++ ls) (cut_lines (codes "end" ∷ []) rest refl)

-- a line that says an item isn't wrong where there is room for it
pub passed_item : (domains count : ℕ) (text : List ℕ) (i : Item) (parts : List (List ℕ)) → 0 < length parts → bytes_eq text (codes "end") ≡ false → count < 200000 → item_of domains text ≡ Some i
    → wrong_from domains count (text ∷ parts) ≡ wrong_from domains (count + 1) parts
passed_item domains count text i [] some other room said = absurd (omega arith)
passed_item domains count text i (next ∷ more) some other room said =
    let test : nat_lt count 200000 ≡ true = grind (arith, nat_tests) in
    ap (λ b. cond b None (or_wrong (count + 2) (cond (nat_lt count 200000) (item_of domains text) None) (wrong_from domains (count + 1) (next ∷ more)))) other
    ∙ ap (λ b. or_wrong (count + 2) (cond b (item_of domains text) None) (wrong_from domains (count + 1) (next ∷ more))) test
    ∙ ap (λ (o : Option Item). or_wrong (count + 2) o (wrong_from domains (count + 1) (next ∷ more))) said

-- one that says none, or for which there is no room, is wrong
pub stopped_at : (domains count : ℕ) (text : List ℕ) (parts : List (List ℕ)) → 0 < length parts → bytes_eq text (codes "end") ≡ false → cond (nat_lt count 200000) (item_of domains text) None ≡ None
    → wrong_from domains count (text ∷ parts) ≡ Some (count + 2)
stopped_at domains count text [] some other none = absurd (omega arith)
stopped_at domains count text (next ∷ more) some other none =
    ap (λ b. cond b None (or_wrong (count + 2) (cond (nat_lt count 200000) (item_of domains text) None) (wrong_from domains (count + 1) (next ∷ more)))) other
    ∙ ap (λ (o : Option Item). or_wrong (count + 2) o (wrong_from domains (count + 1) (next ∷ more))) none

passed_all : (domains count : ℕ) (items : List Item) (parts : List (List ℕ)) → domains < 2 ^ 32 → 0 < length parts → count + length items ≤ 200000 → list_all (is_for domains) items ≡ true
    → wrong_from domains count (map item_text items ++ codes "end" ∷ parts) ≡ None
passed_all domains count [] [] small some room e = absurd (omega arith)
passed_all domains count [] (next ∷ more) small some room e = refl
passed_all domains count (i ∷ items) parts small some room e =
    let p = and_parts (is_for domains i) (list_all (is_for domains) items) e in
    passed_item domains count (item_text i) i (map item_text items ++ codes "end" ∷ parts) (omega (arith, length-append (map item_text items) (codes "end" ∷ parts))) (item_no_end i) (omega arith) (item_said domains i small p.0)
    ∙ passed_all domains (count + 1) items parts small some (omega arith) p.1

-- what stands behind the first line
pub behind_first : (domains : ℕ) (parts : List (List ℕ)) → 0 < length parts → wrong_in domains (codes "schedule 1" ∷ parts) ≡ wrong_from domains 0 parts
behind_first domains [] some = absurd (omega arith)
behind_first domains (next ∷ more) some = refl

-- no line of a schedule is wrong
pub none_wrong : (domains : ℕ) (items : List Item) (place : ℕ) (bytes : List ℕ) → domains < 2 ^ 32 → Spells domains items place bytes → first_wrong domains bytes ≡ None
none_wrong domains items place bytes small s =
    let parts : List (List ℕ) = slice_split (λ b. b == 10) s.rest in
    ap (λ x. wrong_in domains (slice_split (λ b. b == 10) x)) s.bytes_are
    ∙ ap (wrong_in domains) (cut_spelling domains items s.rest small s.for_domains)
    ∙ behind_first domains (map item_text items ++ codes "end" ∷ parts) (omega (arith, length-append (map item_text items) (codes "end" ∷ parts)))
    ∙ passed_all domains 0 items parts small (omega (arith, length-slice_split (λ b. b == 10) s.rest)) (omega (arith, s.few)) s.for_domains
