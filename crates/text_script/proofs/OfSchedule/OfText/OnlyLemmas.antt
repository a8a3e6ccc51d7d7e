-- Bytes spell one schedule at most, and then none of its lines is wrong.
use Rattle.std.proofs.Common.{◌≡◌, ℕ, ◌<◌, ◌^◌, List, [], ◌∷◌, ◌++◌, map, length, true, cond, refl, ap, sym, ◌∙◌, None, Some, Ok, Err, IfOk, IfErr}
use Rattle.std.specs.Prelude.{Option, Result, codes, bytes_eq, ◌==◌}
use Rattle.std.specs.List.{list_all, slice_split}
use Rattle.std.proofs.lemmas.Bool.{and_parts}
use Rattle.model_traces.specs.declared.schedules.items.Item.{Item}
use Rattle.text_script.specs.declared.schedule.text.fault.ScheduleFault.{ScheduleFault}
use Rattle.text_script.specs.declared.schedule.text.fault.ScheduleFault.TheVariants.{Line, Memory}
use Rattle.text_script.specs.Schedule.Drive.Following.{is_for}
use Rattle.text_script.specs.Schedule.Text.Spelling.{item_text, spelling, Spells, IsUnlessMemory}
use Rattle.text_script.specs.Schedule.Text.Faults.{item_of, first_wrong, IsFaultUnlessMemory}
use Rattle.text_script.proofs.OfSchedule.OfText.LineLemmas.{item_said, item_no_end}
use Rattle.text_script.proofs.OfSchedule.OfText.TextLemmas.{cut_spelling, none_wrong}

-- the items of lines, up to the line `end`
abbrev with_item : Option Item → List Item → List Item
with_item None items = items
with_item (Some i) items = i ∷ items

abbrev decoded : ℕ → List (List ℕ) → List Item
decoded domains [] = []
decoded domains (l ∷ ls) = cond (bytes_eq l (codes "end")) [] (with_item (item_of domains l) (decoded domains ls))

abbrev behind_head : List (List ℕ) → List (List ℕ)
behind_head [] = []
behind_head (l ∷ ls) = ls

decoded-items : (domains : ℕ) (items : List Item) (parts : List (List ℕ)) → domains < 2 ^ 32 → list_all (is_for domains) items ≡ true → decoded domains (map item_text items ++ codes "end" ∷ parts) ≡ items
decoded-items domains [] parts small e = refl
decoded-items domains (i ∷ items) parts small e =
    let p = and_parts (is_for domains i) (list_all (is_for domains) items) e in
    let later : List Item = decoded domains (map item_text items ++ codes "end" ∷ parts) in
    ap (λ b. cond b [] (with_item (item_of domains (item_text i)) later)) (item_no_end i)
    ∙ ap (λ (o : Option Item). with_item o later) (item_said domains i small p.0)
    ∙ ap (λ (is : List Item). i ∷ is) (decoded-items domains items parts small p.1)

items_of : (domains : ℕ) (items : List Item) (place : ℕ) (bytes : List ℕ) → domains < 2 ^ 32 → Spells domains items place bytes → decoded domains (behind_head (slice_split (λ b. b == 10) bytes)) ≡ items
items_of domains items place bytes small s =
    ap (λ x. decoded domains (behind_head (slice_split (λ b. b == 10) x))) s.bytes_are
    ∙ ap (λ ls. decoded domains (behind_head ls)) (cut_spelling domains items s.rest small s.for_domains)
    ∙ decoded-items domains items (slice_split (λ b. b == 10) s.rest) small s.for_domains

pub one_schedule : (domains : ℕ) (r s : List Item × ℕ) (bytes : List ℕ) → domains < 2 ^ 32 → Spells domains r.0 r.1 bytes → Spells domains s.0 s.1 bytes → r ≡ s
one_schedule domains r s bytes small v w =
    let items : r.0 ≡ s.0 = sym (items_of domains r.0 r.1 bytes small v) ∙ items_of domains s.0 s.1 bytes small w in
    let place : r.1 ≡ s.1 = v.place_is ∙ ap (λ (is : List Item). length (spelling is)) items ∙ sym w.place_is in
    ap (λ (is : List Item). (is, r.1)) items ∙ ap (λ (n : ℕ). (s.0, n)) place

pub no_other : (domains : ℕ) (items : List Item) (place : ℕ) (bytes : List ℕ) (k : ℕ) → domains < 2 ^ 32 → Spells domains items place bytes → first_wrong domains bytes ≡ Some k → ⊥
no_other domains items place bytes k small s e =
    let none = none_wrong domains items place bytes small s in
    cc

pub only_read : (domains : ℕ) (bytes : List ℕ) (result : Result (List Item × ℕ) ScheduleFault) → domains < 2 ^ 32 → IfOk result (λ r. Spells domains r.0 r.1 bytes) → IfErr result (λ e. IsFaultUnlessMemory e (first_wrong domains bytes))
    → (items : List Item) (place : ℕ) → Spells domains items place bytes → IsUnlessMemory result (Ok (items, place))
only_read domains bytes (Ok r) small found fault items place s = ap Ok (one_schedule domains r (items, place) bytes small found s)
only_read domains bytes (Err Memory) small found fault items place s = tt
only_read domains bytes (Err (Line k)) small found fault items place s = absurd (no_other domains items place bytes k small s fault)

pub refused_by : (domains : ℕ) (bytes : List ℕ) (result : Result (List Item × ℕ) ScheduleFault) → domains < 2 ^ 32 → IfOk result (λ r. Spells domains r.0 r.1 bytes) → IfErr result (λ e. IsFaultUnlessMemory e (first_wrong domains bytes))
    → (k : ℕ) → first_wrong domains bytes ≡ Some k → IsUnlessMemory result (Err (Line k))
refused_by domains bytes (Ok r) small found fault k first = absurd (no_other domains r.0 r.1 bytes k small found first)
refused_by domains bytes (Err Memory) small found fault k first = tt
refused_by domains bytes (Err (Line j)) small found fault k first = cc
