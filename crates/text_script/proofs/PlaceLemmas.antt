-- What stands before a line: how it grows by a heading and by a command, and in which order spawns, joins and headings stand then.
use Rattle.std.proofs.Common.{◌≡◌, ℕ, zero, suc, ◌+◌, ◌<◌, ℤ, pos, negsuc, List, [], ◌∷◌, ◌++◌, length, Bool, true, false, ◌&&◌, ◌||◌, eqb-true, refl, ap, sym, ◌∙◌, subst, arith, append_assoc, sum_by, fold, get_or, set, None}
use Rattle.std.specs.Prelude.{flat_map, ◌==◌}
use Rattle.std.specs.List.{list_any}
use Rattle.std.proofs.lemmas.Bool.Decides.{nat_tests}
use Rattle.std.proofs.lemmas.Bool.{and_parts}
use Rattle.std.proofs.lemmas.Int.{ints}
use Rattle.std.proofs.lemmas.List.{append-nil, get_or-set_same, get_or-set_other}
use Rattle.std.proofs.lemmas.List.Sums.{fold-append}
use Rattle.std.proofs.lemmas.List.Folds.{list_any-append}
use Rattle.model_core.specs.declared.command.Command.{Command}
use Rattle.text_script.specs.declared.form.Operand.TheVariants.{Section}
use Rattle.text_script.specs.declared.form.Word.{Word}
use Rattle.text_script.specs.declared.form.Word.TheVariants as word
use Rattle.text_script.specs.declared.version.Version.{Version}
use Rattle.text_script.specs.declared.version.Version.TheVariants.{One, Two, Three}
use Rattle.text_script.specs.Forms.{form, fits, made, wide}
use Rattle.text_script.specs.Script.{with_command}
use Rattle.text_script.specs.Spawning.{Place, start, spawned_by, opened, called, place_in, has, may_begin, may_follow, follow, sections_follow}
use Rattle.text_script.specs.Faults.{first_out_of_range}
use Rattle.text_script.specs.Steps.{stands_anywhere, AreMarks, Knows, IsInside}
use Rattle.text_script.proofs.ScriptLemmas.{total-cons}
use Rattle.text_script.proofs.RangeLemmas.{passed}

-- what stands behind some sections, one after the other
abbrev pub places : Place → List (List Command) → Place
places p [] = p
places p (cs ∷ sections) = places (fold called (opened p) cs) sections

-- the commands of a section
pub headings_kept : (p : Place) (cs : List Command) → (fold called p cs).headings ≡ p.headings
headings_kept p [] = refl
headings_kept p (c ∷ cs) = headings_kept (called p c) cs

pub commands_grow : (p : Place) (cs : List Command) → (fold called p cs).commands ≡ p.commands + length cs
commands_grow p [] = omega arith
commands_grow p (c ∷ cs) = omega (arith, commands_grow (called p c) cs)

named_grow : (p : Place) (cs : List Command) → (fold called p cs).named ≡ p.named ++ flat_map spawned_by cs
named_grow p [] = sym (append-nil p.named)
named_grow p (c ∷ cs) = named_grow (called p c) cs ∙ append_assoc p.named (spawned_by c) (flat_map spawned_by cs)

own_grow : (p : Place) (cs : List Command) → (fold called p cs).own ≡ p.own ++ flat_map spawned_by cs
own_grow p [] = sym (append-nil p.own)
own_grow p (c ∷ cs) = own_grow (called p c) cs ∙ append_assoc p.own (spawned_by c) (flat_map spawned_by cs)

-- all sections
headings-places : (p : Place) (sections : List (List Command)) → (places p sections).headings ≡ p.headings + length sections
headings-places p [] = omega arith
headings-places p (cs ∷ sections) = omega (arith, headings-places (fold called (opened p) cs) sections, headings_kept (opened p) cs)

commands-places : (p : Place) (sections : List (List Command)) → (places p sections).commands ≡ p.commands + sum_by length sections
commands-places p [] = omega arith
commands-places p (cs ∷ sections) = omega (arith, commands-places (fold called (opened p) cs) sections, commands_grow (opened p) cs, total-cons cs sections)

named-places : (p : Place) (sections : List (List Command)) → (places p sections).named ≡ p.named ++ flat_map (flat_map spawned_by) sections
named-places p [] = sym (append-nil p.named)
named-places p (cs ∷ sections) =
    named-places (fold called (opened p) cs) sections ∙ ap (λ ns. ns ++ flat_map (flat_map spawned_by) sections) (named_grow (opened p) cs)
    ∙ append_assoc p.named (flat_map spawned_by cs) (flat_map (flat_map spawned_by) sections)

own-places : (p : Place) (last : List Command) (sections : List (List Command)) → p.own ≡ flat_map spawned_by last → (places p sections).own ≡ flat_map spawned_by (fold (λ (last cs : List Command). cs) last sections)
own-places p last [] e = e
own-places p last (cs ∷ sections) e = own-places (fold called (opened p) cs) cs sections (own_grow (opened p) cs)

pub places_in : (sections : List (List Command)) → places start sections ≡ place_in sections
places_in sections =
    let headings : (places start sections).headings ≡ length sections = omega (arith, headings-places start sections) in
    let commands : (places start sections).commands ≡ sum_by length sections = omega (arith, commands-places start sections) in
    λ i. record {
      headings = headings i;
      commands = commands i;
      named = named-places start sections i;
      own = own-places start [] sections refl i;
    }

-- one section more, and one command more
places-opened : (p : Place) (sections : List (List Command)) → places p (sections ++ [] ∷ []) ≡ opened (places p sections)
places-opened p [] = refl
places-opened p (cs ∷ sections) = places-opened (fold called (opened p) cs) sections

places-called : (p : Place) (sections : List (List Command)) (c : Command) → 0 < length sections → places p (with_command sections c) ≡ called (places p sections) c
places-called p [] c some = absurd (omega arith)
places-called p (cs ∷ []) c some = fold-append called (opened p) cs (c ∷ [])
places-called p (cs ∷ next ∷ sections) c some = places-called (fold called (opened p) cs) (next ∷ sections) c (omega arith)

pub place-opened : (sections : List (List Command)) → opened (place_in sections) ≡ place_in (sections ++ [] ∷ [])
place-opened sections = ap opened (sym (places_in sections)) ∙ sym (places-opened start sections) ∙ places_in (sections ++ [] ∷ [])

pub place-called : (sections : List (List Command)) (c : Command) → 0 < length sections → called (place_in sections) c ≡ place_in (with_command sections c)
place-called sections c some = ap (λ p. called p c) (sym (places_in sections)) ∙ sym (places-called start sections c some) ∙ places_in (with_command sections c)

-- what may begin or follow may do so at the end of some sections
both_true : (a b : Bool) → a ≡ true → b ≡ true → (a && b) ≡ true
both_true a b e f = ap (λ x. x && b) e ∙ f

follow-opened : (ver : Version) (p : Place) (sections : List (List Command)) → sections_follow ver p sections ≡ true → may_begin ver (places p sections) ≡ true → sections_follow ver p (sections ++ [] ∷ []) ≡ true
follow-opened ver p [] e may = both_true (may_begin ver p) true may refl
follow-opened ver p (cs ∷ sections) e may =
    let first = and_parts (may_begin ver p) (follow ver (opened p) cs && sections_follow ver (fold called (opened p) cs) sections) e in
    let second = and_parts (follow ver (opened p) cs) (sections_follow ver (fold called (opened p) cs) sections) first.1 in
    both_true (may_begin ver p) _ first.0 (both_true (follow ver (opened p) cs) _ second.0 (follow-opened ver (fold called (opened p) cs) sections second.1 may))

follow-push : (ver : Version) (p : Place) (cs : List Command) (c : Command) → follow ver p cs ≡ true → may_follow ver (fold called p cs) c ≡ true → follow ver p (cs ++ c ∷ []) ≡ true
follow-push ver p [] c e may = both_true (may_follow ver p c) true may refl
follow-push ver p (x ∷ cs) c e may =
    let first = and_parts (may_follow ver p x) (follow ver (called p x) cs) e in
    both_true (may_follow ver p x) _ first.0 (follow-push ver (called p x) cs c first.1 may)

follow-called : (ver : Version) (p : Place) (sections : List (List Command)) (c : Command) → 0 < length sections → sections_follow ver p sections ≡ true → may_follow ver (places p sections) c ≡ true → sections_follow ver p (with_command sections c) ≡ true
follow-called ver p [] c some e may = absurd (omega arith)
follow-called ver p (cs ∷ []) c some e may =
    let first = and_parts (may_begin ver p) (follow ver (opened p) cs && true) e in
    let second = and_parts (follow ver (opened p) cs) true first.1 in
    both_true (may_begin ver p) _ first.0 (both_true (follow ver (opened p) (cs ++ c ∷ [])) true (follow-push ver (opened p) cs c second.0 may) refl)
follow-called ver p (cs ∷ next ∷ sections) c some e may =
    let first = and_parts (may_begin ver p) (follow ver (opened p) cs && sections_follow ver (fold called (opened p) cs) (next ∷ sections)) e in
    let second = and_parts (follow ver (opened p) cs) (sections_follow ver (fold called (opened p) cs) (next ∷ sections)) first.1 in
    both_true (may_begin ver p) _ first.0 (both_true (follow ver (opened p) cs) _ second.0 (follow-called ver (fold called (opened p) cs) (next ∷ sections) c (omega arith) second.1 may))

pub opened_in_order : (ver : Version) (sections : List (List Command)) → sections_follow ver start sections ≡ true → may_begin ver (place_in sections) ≡ true → sections_follow ver start (sections ++ [] ∷ []) ≡ true
opened_in_order ver sections e may = follow-opened ver start sections e (ap (may_begin ver) (places_in sections) ∙ may)

pub called_in_order : (ver : Version) (sections : List (List Command)) (c : Command) → 0 < length sections → sections_follow ver start sections ≡ true → may_follow ver (place_in sections) c ≡ true → sections_follow ver start (with_command sections c) ≡ true
called_in_order ver sections c some e may = follow-called ver start sections c some e (ap (λ p. may_follow ver p c) (places_in sections) ∙ may)

-- the order of spawns is looked at in version 3 alone
first_follow : (p : Place) (cs : List Command) → follow One p cs ≡ true
first_follow p [] = refl
first_follow p (c ∷ cs) = first_follow (called p c) cs

pub first_in_order : (p : Place) (sections : List (List Command)) → sections_follow One p sections ≡ true
first_in_order p [] = refl
first_in_order p (cs ∷ sections) = both_true (follow One (opened p) cs) _ (first_follow (opened p) cs) (first_in_order (fold called (opened p) cs) sections)

second_follow : (p : Place) (cs : List Command) → follow Two p cs ≡ true
second_follow p [] = refl
second_follow p (c ∷ cs) = second_follow (called p c) cs

pub second_in_order : (p : Place) (sections : List (List Command)) → sections_follow Two p sections ≡ true
second_in_order p [] = refl
second_in_order p (cs ∷ sections) = both_true (follow Two (opened p) cs) _ (second_follow (opened p) cs) (second_in_order (fold called (opened p) cs) sections)

-- a command of a row that may stand anywhere
stands_well : (p : Place) (w : Word) (zs : List ℤ) → stands_anywhere w ≡ true → may_follow Three p (made w zs) ≡ true
stands_well p word.Spawn zs e = cc
stands_well p word.Join zs e = cc
stands_well p _ zs e = refl

pub anywhere_follows : (ver : Version) (p : Place) (w : Word) (zs : List ℤ) → stands_anywhere w ≡ true → may_follow ver p (made w zs) ≡ true
anywhere_follows One p w zs e = refl
anywhere_follows Two p w zs e = refl
anywhere_follows Three p w zs e = stands_well p w zs e

anywhere_spawns : (w : Word) (zs : List ℤ) → stands_anywhere w ≡ true → spawned_by (made w zs) ≡ []
anywhere_spawns word.Spawn zs e = cc
anywhere_spawns word.Int zs e = refl
anywhere_spawns _ zs e = refl

-- what is known of spawns stays so with it
knows_on : (named own : List Bool) (p : Place) (c : Command) → spawned_by c ≡ [] → Knows named own p → Knows named own (called p c)
knows_on named own p c none k = record {
  all_named = λ n. k.all_named n ∙ ap (λ ns. has ns n) (sym (append-nil p.named) ∙ ap (λ ns. p.named ++ ns) (sym none));
  own_named = λ n. k.own_named n ∙ ap (λ ns. has ns n) (sym (append-nil p.own) ∙ ap (λ ns. p.own ++ ns) (sym none));
}

pub anywhere_known : (named own : List Bool) (old : List (List Command)) (w : Word) (zs : List ℤ) (c : Command) → stands_anywhere w ≡ true → c ≡ made w zs → 0 < length old → Knows named own (place_in old) → Knows named own (place_in (with_command old c))
anywhere_known named own old w zs c e is some k =
    subst (Knows named own) (place-called old c some) (knows_on named own (place_in old) c (ap spawned_by is ∙ anywhere_spawns w zs e) k)

-- no section is spawned before the first
none_marked : (n : ℕ) → get_or (false ∷ false ∷ false ∷ false ∷ false ∷ false ∷ false ∷ false ∷ []) n false ≡ false
none_marked zero = refl
none_marked (suc zero) = refl
none_marked (suc (suc zero)) = refl
none_marked (suc (suc (suc zero))) = refl
none_marked (suc (suc (suc (suc zero)))) = refl
none_marked (suc (suc (suc (suc (suc zero))))) = refl
none_marked (suc (suc (suc (suc (suc (suc zero)))))) = refl
none_marked (suc (suc (suc (suc (suc (suc (suc zero))))))) = refl
none_marked (suc (suc (suc (suc (suc (suc (suc (suc n)))))))) = refl

pub none_known : AreMarks (false ∷ false ∷ false ∷ false ∷ false ∷ false ∷ false ∷ false ∷ []) []
none_known n = none_marked n

-- a section is marked
marked_at : (marks : List Bool) (ns : List ℕ) (section n : ℕ) (b : Bool) → (section == n) ≡ b → section < length marks → AreMarks marks ns → get_or (set marks section true) n false ≡ has (ns ++ section ∷ []) n
marked_at marks ns section n true e inside known =
    let same = eqb-true section n e in
    subst (λ (k : ℕ). get_or (set marks section true) k false ≡ true) same (get_or-set_same marks section true false inside)
    ∙ sym (list_any-append (λ m. m == n) ns (section ∷ []) ∙ ap (λ b. list_any (λ m. m == n) ns || (b || false)) e ∙ or_true (has ns n))
  where
    or_true : (a : Bool) → (a || true) ≡ true
    or_true true = refl
    or_true false = refl
marked_at marks ns section n false e inside known =
    get_or-set_other marks section n true false (λ same. differs same)
    ∙ known n ∙ sym (list_any-append (λ m. m == n) ns (section ∷ []) ∙ ap (λ b. list_any (λ m. m == n) ns || (b || false)) e ∙ or_false (has ns n))
  where
    or_false : (a : Bool) → (a || false) ≡ a
    or_false true = refl
    or_false false = refl

    differs : n ≡ section → ⊥
    differs same = let test : (section == n) ≡ true = grind (arith, nat_tests) in cc

pub marked_more : (marks : List Bool) (ns : List ℕ) (section : ℕ) → section < length marks → AreMarks marks ns → AreMarks (set marks section true) (ns ++ section ∷ [])
marked_more marks ns section inside known n = marked_at marks ns section n (section == n) refl inside known

-- a spawn in its ranges names one of the first eight sections
few_sections : (ver : Version) (domains : ℕ) (z : ℤ) → fits ver domains Section z ≡ true → wide z < 8
few_sections ver domains (pos n) e = grind (arith, ints, nat_tests)
few_sections ver domains (negsuc n) e = grind (arith, ints, nat_tests)

pub spawn_inside : (ver : Version) (domains : ℕ) (w : Word) (zs : List ℤ) → first_out_of_range ver domains 1 (form w).operands zs ≡ None → IsInside (made w zs)
spawn_inside ver domains word.Spawn [] e = omega arith
spawn_inside ver domains word.Spawn (z ∷ zs) e = few_sections ver domains z (passed (fits ver domains Section z) _ 1 e).0
spawn_inside ver domains word.Int zs e = tt
spawn_inside ver domains _ zs e = tt
