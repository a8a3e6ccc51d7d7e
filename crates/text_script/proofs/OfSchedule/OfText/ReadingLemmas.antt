-- What a line that is read says of the whole text.
use Rattle.std.proofs.Common.{◌≡◌, ℕ, ◌+◌, ◌-◌, ◌<◌, ◌≤◌, ◌^◌, List, [], ◌∷◌, ◌++◌, length, length-append, Bool, true, false, cond, refl, ap, sym, ◌∙◌, arith, append_assoc, None, Some}
use Rattle.std.specs.Prelude.{Option, codes, bytes_eq, nat_lt, ◌==◌}
use Rattle.std.specs.List.{list_all, slice_split}
use Rattle.std.proofs.lemmas.Bool.Decides.{nat_tests}
use Rattle.std.proofs.lemmas.List.Splits.{length-slice_split}
use Rattle.std.proofs.lemmas.Slice.Eq.{bytes_eq-Decides}
use Rattle.model_core.specs.Output.{line}
use Rattle.text_script.specs.Split.{split_at_mark}
use Rattle.text_script.proofs.SplitLemmas.{split_found, split_whole}
use Rattle.text_script.proofs.ReadLemmas.{split_joined}
use Rattle.model_traces.specs.declared.schedules.items.Item.{Item}
use Rattle.text_script.specs.Schedule.Drive.Following.{is_for}
use Rattle.text_script.specs.Schedule.Text.Spelling.{item_text, front_text, spelling, Spells}
use Rattle.text_script.specs.Schedule.Text.Faults.{item_of, wrong_from, wrong_in, first_wrong}
use Rattle.text_script.proofs.OfSchedule.OfText.LineLemmas.{item_read}
use Rattle.text_script.proofs.OfSchedule.OfText.TextLemmas.{front_grows, all_more, passed_item, stopped_at, behind_first}

-- what is known where so many items were read, and the rest is left
pub record ReadTo (domains : ℕ) (bytes behind : List ℕ) (items : List Item) (rest : List ℕ) : Type 0 where
  pub spelled : bytes ≡ front_text items ++ rest
  pub few : length items ≤ 200000
  pub for_domains : list_all (is_for domains) items ≡ true
  pub wrong : wrong_from domains 0 (slice_split (λ b. b == 10) behind) ≡ wrong_from domains (length items) (slice_split (λ b. b == 10) rest)

-- the line `end`
pub all_read : (domains : ℕ) (bytes behind : List ℕ) (items : List Item) (rest text tail : List ℕ) → ReadTo domains bytes behind items rest → Some (text, tail) ≡ split_at_mark 10 rest → bytes_eq text (codes "end") ≡ true
    → Spells domains items (length bytes - length tail) bytes
all_read domains bytes behind items rest text tail r cutting is =
    let word : text ≡ codes "end" = (bytes_eq-Decides text (codes "end")).0 is in
    let joined : rest ≡ line (codes "end") ++ tail = split_joined 10 rest (text, tail) (sym cutting) ∙ ap (λ x. x ++ 10 ∷ tail) word in
    let all : bytes ≡ spelling items ++ tail = r.spelled ∙ ap (λ x. front_text items ++ x) joined ∙ sym (append_assoc (front_text items) (line (codes "end")) tail) in
    record {
      few = r.few;
      for_domains = r.for_domains;
      rest = tail;
      bytes_are = all;
      place_is = omega (arith, ap length all, length-append (spelling items) tail);
    }

parts_left : (rest : List ℕ) → 0 < length (slice_split (λ b. b == 10) rest)
parts_left rest = omega (arith, length-slice_split (λ b. b == 10) rest)

-- a line that says no item, or for which there is no room
pub line_wrong : (domains : ℕ) (bytes behind : List ℕ) (items : List Item) (rest text tail : List ℕ) → ReadTo domains bytes behind items rest → Some (text, tail) ≡ split_at_mark 10 rest → bytes_eq text (codes "end") ≡ false
    → cond (nat_lt (length items) 200000) (item_of domains text) None ≡ None → wrong_from domains 0 (slice_split (λ b. b == 10) behind) ≡ Some (length items + 2)
line_wrong domains bytes behind items rest text tail r cutting other none =
    r.wrong ∙ ap (wrong_from domains (length items)) (split_found 10 rest text tail cutting) ∙ stopped_at domains (length items) text (slice_split (λ b. b == 10) tail) (parts_left tail) other none

-- no line feed is left
pub line_missing : (domains : ℕ) (bytes behind : List ℕ) (items : List Item) (rest : List ℕ) → ReadTo domains bytes behind items rest → None ≡ split_at_mark 10 rest → wrong_from domains 0 (slice_split (λ b. b == 10) behind) ≡ Some (length items + 2)
line_missing domains bytes behind items rest r cutting = r.wrong ∙ ap (wrong_from domains (length items)) (split_whole 10 rest cutting)

roomy : (t : Bool) (o : Option Item) (i : Item) → cond t o None ≡ Some i → (t ≡ true) × (o ≡ Some i)
roomy true o i e = (refl, e)
roomy false o i e = cc

-- a line that says an item
pub item_taken : (domains : ℕ) (bytes behind : List ℕ) (items new : List Item) (i : Item) (rest text tail : List ℕ) → domains < 2 ^ 32 → ReadTo domains bytes behind items rest → Some (text, tail) ≡ split_at_mark 10 rest → bytes_eq text (codes "end") ≡ false
    → cond (nat_lt (length items) 200000) (item_of domains text) None ≡ Some i → new ≡ items ++ i ∷ [] → ReadTo domains bytes behind new tail
item_taken domains bytes behind items new i rest text tail small r cutting other said grown =
    let said_is = roomy (nat_lt (length items) 200000) (item_of domains text) i said in
    let room : length items < 200000 = let t : nat_lt (length items) 200000 ≡ true = said_is.0 in grind (arith, nat_tests) in
    let l = item_read domains text i small said_is.1 in
    let joined : rest ≡ line (item_text i) ++ tail =
    split_joined 10 rest (text, tail) (sym cutting) ∙ ap (λ x. x ++ 10 ∷ tail) l.text_is ∙ sym (append_assoc (item_text i) (10 ∷ []) tail) in
    let count : length items + 1 ≡ length new = omega (arith, ap length grown, length-append items (i ∷ [])) in
    record {
      spelled = r.spelled ∙ ap (λ x. front_text items ++ x) joined ∙ sym (append_assoc (front_text items) (line (item_text i)) tail)
          ∙ ap (λ x. x ++ tail) (sym (front_grows items i)) ∙ ap (λ (is : List Item). front_text is ++ tail) (sym grown);
      few = omega arith;
      for_domains = ap (list_all (is_for domains)) grown ∙ all_more domains items i r.for_domains l.is_one;
      wrong = r.wrong ∙ ap (wrong_from domains (length items)) (split_found 10 rest text tail cutting)
          ∙ passed_item domains (length items) text i (slice_split (λ b. b == 10) tail) (parts_left tail) other room said_is.1 ∙ ap (λ n. wrong_from domains n (slice_split (λ b. b == 10) tail)) count;
    }

-- a text without a line feed
pub no_line : (domains : ℕ) (bytes : List ℕ) → None ≡ split_at_mark 10 bytes → first_wrong domains bytes ≡ Some 1
no_line domains bytes cutting = ap (wrong_in domains) (split_whole 10 bytes cutting)

wrong_first : (domains : ℕ) (first : List ℕ) (parts : List (List ℕ)) → bytes_eq first (codes "schedule 1") ≡ false → wrong_in domains (first ∷ parts) ≡ Some 1
wrong_first domains first [] other = refl
wrong_first domains first (next ∷ more) other = ap (λ b. cond b (wrong_from domains 0 (next ∷ more)) (Some 1)) other

-- a text with another first line
pub other_first : (domains : ℕ) (bytes first behind : List ℕ) → Some (first, behind) ≡ split_at_mark 10 bytes → bytes_eq first (codes "schedule 1") ≡ false → first_wrong domains bytes ≡ Some 1
other_first domains bytes first behind cutting other = ap (wrong_in domains) (split_found 10 bytes first behind cutting) ∙ wrong_first domains first (slice_split (λ b. b == 10) behind) other

-- a text with that first line
pub right_first : (domains : ℕ) (bytes first behind : List ℕ) → Some (first, behind) ≡ split_at_mark 10 bytes → bytes_eq first (codes "schedule 1") ≡ true
    → (bytes ≡ line (codes "schedule 1") ++ behind) × (first_wrong domains bytes ≡ wrong_from domains 0 (slice_split (λ b. b == 10) behind))
right_first domains bytes first behind cutting same =
    let is : first ≡ codes "schedule 1" = (bytes_eq-Decides first (codes "schedule 1")).0 same in (
      split_joined 10 bytes (first, behind) (sym cutting) ∙ ap (λ x. x ++ 10 ∷ behind) is,
      ap (wrong_in domains) (split_found 10 bytes first behind cutting ∙ ap (λ x. x ∷ slice_split (λ b. b == 10) behind) is)
          ∙ behind_first domains (slice_split (λ b. b == 10) behind) (parts_left behind),
    )
