-- What a line says, and that the line of an item says it.
use Rattle.std.proofs.Common.{◌≡◌, ℕ, ◌<◌, ◌^◌, pos, List, ◌∷◌, ◌++◌, Bool, true, false, cond, refl, ap, ◌∙◌, subst, arith, None, Some, decimal}
use Rattle.std.specs.Prelude.{Option, codes, bytes_eq, nat_lt}
use Rattle.std.proofs.lemmas.Bool.Decides.{nat_tests}
use Rattle.std.proofs.lemmas.Slice.Eq.{bytes_eq-Decides}
use Rattle.text_script.specs.Decimals.Natural.{natural}
use Rattle.text_script.proofs.OfDecimals.NaturalLemmas.{natural-decimal, natural_read}
use Rattle.text_script.specs.Split.{split_at_mark}
use Rattle.text_script.proofs.ReadLemmas.{split_joined}
use Rattle.text_script.proofs.DecimalLemmas.{is_free, signed_decimal_free}
use Rattle.model_traces.specs.declared.schedules.items.Item.{Item}
use Rattle.model_traces.specs.declared.schedules.items.Item.TheVariants.{Turn, Collect}
use Rattle.text_script.specs.Schedule.Drive.Following.{is_for}
use Rattle.text_script.specs.Schedule.Text.Spelling.{item_text}
use Rattle.text_script.specs.Schedule.Text.Faults.{turn_in, turn_of, item_of}

-- a line is the text of an item for so many domains
pub record IsLineOf (domains : ℕ) (text : List ℕ) (i : Item) : Type 0 where
  pub text_is : text ≡ item_text i
  pub is_one : is_for domains i ≡ true

numbered : (t : Bool) (domains d : ℕ) (text : List ℕ) (i : Item) → nat_lt d domains ≡ t → text ≡ codes "turn " ++ decimal d → cond t (Some (Turn d)) None ≡ Some i → IsLineOf domains text i
numbered true domains d text i test e said =
    let is : Turn d ≡ i = cc in
    subst (λ (x : Item). IsLineOf domains text x) is (record { text_is = e; is_one = test })
numbered false domains d text i test e said = cc

chosen : (t : Bool) (o : Option Item) (i : Item) → cond t o None ≡ Some i → (t ≡ true) × (o ≡ Some i)
chosen true o i e = (refl, e)
chosen false o i e = cc

digits_read : (domains : ℕ) (digits text : List ℕ) (o : Option ℕ) (i : Item) → domains < 2 ^ 32 → natural digits ≡ o → text ≡ codes "turn " ++ digits → turn_in domains o ≡ Some i → IsLineOf domains text i
digits_read domains digits text None i small read e said = cc
digits_read domains digits text (Some d) i small read e said =
    let below : nat_lt d domains ≡ true = (chosen (nat_lt d domains) (Some (Turn d)) i said).0 in
    let less : d < domains = grind (arith, nat_tests) in
    let text_is : text ≡ codes "turn " ++ decimal d = e ∙ ap (λ x. codes "turn " ++ x) (natural_read digits d read (omega arith)) in
    numbered (nat_lt d domains) domains d text i refl text_is said

turn_read : (domains : ℕ) (text : List ℕ) (o : Option (List ℕ × List ℕ)) (i : Item) → domains < 2 ^ 32 → split_at_mark 32 text ≡ o → turn_of domains o ≡ Some i → IsLineOf domains text i
turn_read domains text None i small cutting said = cc
turn_read domains text (Some p) i small cutting said =
    let word = chosen (bytes_eq p.0 (codes "turn")) (turn_in domains (natural p.1)) i said in
    let is : p.0 ≡ codes "turn" = (bytes_eq-Decides p.0 (codes "turn")).0 word.0 in
    digits_read domains p.1 text (natural p.1) i small refl (split_joined 32 text p cutting ∙ ap (λ x. x ++ 32 ∷ p.1) is) word.1

line_read : (t : Bool) (domains : ℕ) (text : List ℕ) (i : Item) → domains < 2 ^ 32 → bytes_eq text (codes "collect") ≡ t → cond t (Some Collect) (turn_of domains (split_at_mark 32 text)) ≡ Some i → IsLineOf domains text i
line_read true domains text i small test said =
    let is : Collect ≡ i = cc in
    subst (λ (x : Item). IsLineOf domains text x) is (record { text_is = (bytes_eq-Decides text (codes "collect")).0 test; is_one = refl })
line_read false domains text i small test said = turn_read domains text (split_at_mark 32 text) i small refl said

-- a line that says an item is its text
pub item_read : (domains : ℕ) (text : List ℕ) (i : Item) → domains < 2 ^ 32 → item_of domains text ≡ Some i → IsLineOf domains text i
item_read domains text i small said = line_read (bytes_eq text (codes "collect")) domains text i small refl said

-- the text of an item says it
pub item_said : (domains : ℕ) (i : Item) → domains < 2 ^ 32 → is_for domains i ≡ true → item_of domains (item_text i) ≡ Some i
item_said domains Collect small e = refl
item_said domains (Turn d) small e =
    let less : d < domains = grind (arith, nat_tests) in
    ap (turn_in domains) (natural-decimal d (omega arith)) ∙ ap (λ t. cond t (Some (Turn d)) None) e

-- it isn't the last line
pub item_no_end : (i : Item) → bytes_eq (item_text i) (codes "end") ≡ false
item_no_end Collect = refl
item_no_end (Turn d) = refl

-- no line feed stands in it
pub item_free : (domains : ℕ) (i : Item) → domains < 2 ^ 32 → is_for domains i ≡ true → is_free 10 (item_text i) ≡ true
item_free domains Collect small e = refl
item_free domains (Turn d) small e =
    let less : d < domains = grind (arith, nat_tests) in
    signed_decimal_free 10 (pos d) (omega arith) (omega arith)
