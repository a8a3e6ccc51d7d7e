-- In each script of version 3 that is read a spawn names a later section, each section once, and a join one that its own section has spawned.
use Rattle.std.proofs.Common.{◌≡◌, ℕ, zero, suc, ◌+◌, ◌-◌, ◌<◌, ◌≤◌, Bool, true, false, not, cond, ◌&&◌, ◌||◌, ◌==◌, eqb-true, IsTrue, pos, List, [], ◌∷◌, ◌++◌, length, get_or, replicate, fold, refl, ap, sym, ◌∙◌, subst, arith}
use Rattle.std.specs.Prelude.{nat_le}
use Rattle.std.specs.List.{list_all, list_any}
use Rattle.std.proofs.lemmas.Int.{ints}
use Rattle.std.proofs.lemmas.List.{length-append, length-replicate}
use Rattle.std.proofs.lemmas.Bool.Decides.{nat_tests}
use Rattle.std.proofs.lemmas.Bool.{and_parts}
use Rattle.model_core.specs.declared.command.Command.{Command}
use Rattle.model_core.specs.declared.command.Command.TheVariants.{Spawn, Join}
use Rattle.model_core.proofs.Histories.TallyLemmas.{tally, tally-append, counted}
use Rattle.text_script.specs.declared.version.Version.{Version}
use Rattle.text_script.specs.declared.version.Version.TheVariants.{Three}
use Rattle.text_script.specs.declared.form.Operand.TheVariants.{Section}
use Rattle.text_script.specs.Forms.{form, parts, fits, is_built, all_fit, is_writable}
use Rattle.text_script.specs.Spawning.{Place, start, spawned_by, opened, called, has, may_begin, spawns_well, follow, sections_follow}
use Rattle.text_script.specs.Spelling.{IsWritten, with_empty}
use Rattle.text_script.proofs.PlaceLemmas.{headings_kept}
use Rattle.model_traces.specs.Spawns.Expansion.{is_spawn_of}
use Rattle.check_laws.specs.Sections.Orders.{IsOrderly, ScriptsAreOrderly}
use Rattle.check_laws.proofs.OfSections.Counting.{spawns, script_spawns}

-- whether a section is among those that are spawned, once a command more stands there
has_append : (ns ms : List ℕ) (t : ℕ) → has (ns ++ ms) t ≡ (has ns t || has ms t)
has_append [] ms t = refl
has_append (n ∷ ns) ms t = go (n == t) (has_append ns ms t)
  where
    go : (b : Bool) → has (ns ++ ms) t ≡ (has ns t || has ms t) → (b || has (ns ++ ms) t) ≡ ((b || has ns t) || has ms t)
    go true rest = refl
    go false rest = rest

or_false : (b : Bool) → (b || false) ≡ b
or_false true = refl
or_false false = refl

has_spawned : (c : Command) (t : ℕ) → has (spawned_by c) t ≡ is_spawn_of t c
has_spawned (Spawn section item) t = or_false (section == t)
has_spawned c t = refl

has_called : (ns : List ℕ) (c : Command) (t : ℕ) → has (ns ++ spawned_by c) t ≡ (has ns t || is_spawn_of t c)
has_called ns c t = has_append ns (spawned_by c) t ∙ ap (λ (b : Bool). has ns t || b) (has_spawned c t)

-- each section is spawned once
one_more : (p : Place) (c : Command) (t : ℕ) → IsTrue (spawns_well p c) → cond (has p.named t) 1 0 + counted (is_spawn_of t) c ≡ cond (has (p.named ++ spawned_by c) t) 1 0
one_more p (Spawn section item) t well = go (section == t) (has p.named t) refl refl ∙ sym (ap (λ (b : Bool). cond b 1 0) (has_called p.named (Spawn section item) t))
  where
    new : IsTrue (not (has p.named section))
    new = (and_parts (nat_le p.headings section) (not (has p.named section)) well).1

    go : (b h : Bool) → (section == t) ≡ b → has p.named t ≡ h → cond (has p.named t) 1 0 + cond (section == t) 1 0 ≡ cond (has p.named t || (section == t)) 1 0
    go true true e named = absurd (let clash : IsTrue (not true) = subst (λ (b : Bool). IsTrue (not b)) (ap (has p.named) (eqb-true section t e) ∙ named) new in let twice : false ≡ true = clash in cc)
    go true false e named = (λ j. cond (named j) 1 0 + cond (e j) 1 0) ∙ sym (ap (λ (b : Bool). cond b 1 0) (λ j. named j || e j))
    go false true e named = (λ j. cond (named j) 1 0 + cond (e j) 1 0) ∙ sym (ap (λ (b : Bool). cond b 1 0) (λ j. named j || e j))
    go false false e named = (λ j. cond (named j) 1 0 + cond (e j) 1 0) ∙ sym (ap (λ (b : Bool). cond b 1 0) (λ j. named j || e j))
one_more p c t well = let same : cond (has (p.named ++ spawned_by c) t) 1 0 ≡ cond (has p.named t) 1 0 = ap {B = ℕ} (λ (b : Bool). cond b 1 0) (has_called p.named c t ∙ or_false (has p.named t)) in omega (arith, same)

commands_once : (p : Place) (cs : List Command) (t : ℕ) → IsTrue (follow Three p cs) → cond (has p.named t) 1 0 + spawns t cs ≡ cond (has (fold called p cs).named t) 1 0
commands_once p [] t follows = omega arith
commands_once p (c ∷ cs) t follows =
    let both = and_parts (spawns_well p c) (follow Three (called p c) cs) follows in
    let first = one_more p c t both.0 in
    let rest = commands_once (called p c) cs t both.1 in
    omega (arith, first, rest)

-- what a section and those behind it may be
module _ (p : Place) (cs : List Command) (sections : List (List Command)) (follows : IsTrue (sections_follow Three p (cs ∷ sections))) where
  both_parts : IsTrue (follow Three (opened p) cs) × IsTrue (sections_follow Three (fold called (opened p) cs) sections)
  both_parts =
      let f = and_parts (may_begin Three p) (follow Three (opened p) cs && sections_follow Three (fold called (opened p) cs) sections) follows in
      and_parts (follow Three (opened p) cs) (sections_follow Three (fold called (opened p) cs) sections) f.1

sections_once : (p : Place) (sections : List (List Command)) (t : ℕ) → IsTrue (sections_follow Three p sections) → cond (has p.named t) 1 0 + tally (spawns t) sections ≤ 1
sections_once p [] t follows = at_most (has p.named t)
  where
    at_most : (b : Bool) → cond b 1 0 + 0 ≤ 1
    at_most true = omega arith
    at_most false = omega arith
sections_once p (cs ∷ sections) t follows =
    let parts = both_parts p cs sections follows in
    let first = commands_once (opened p) cs t parts.0 in
    let rest = sections_once (fold called (opened p) cs) sections t parts.1 in
    omega (arith, first, rest)

-- a spawn names a later section
commands_later : (p : Place) (cs : List Command) (section item : ℕ) (before behind : List Command) → IsTrue (follow Three p cs) → cs ≡ before ++ Spawn section item ∷ behind → p.headings ≤ section
commands_later p [] section item [] behind follows is = cc
commands_later p [] section item (b ∷ before) behind follows is = cc
commands_later p (c ∷ cs) section item [] behind follows is =
    let same : c ≡ Spawn section item = cc in
    let well : IsTrue (spawns_well p (Spawn section item)) = subst (λ (x : Command). IsTrue (spawns_well p x)) same (and_parts (spawns_well p c) (follow Three (called p c) cs) follows).0 in
    let le : IsTrue (nat_le p.headings section) = (and_parts (nat_le p.headings section) (not (has p.named section)) well).0 in
    grind (arith, nat_tests)
commands_later p (c ∷ cs) section item (b ∷ before) behind follows is =
    let rest : cs ≡ before ++ Spawn section item ∷ behind = cc in
    commands_later (called p c) cs section item before behind (and_parts (spawns_well p c) (follow Three (called p c) cs) follows).1 rest

sections_later : (n : ℕ) (p : Place) (sections : List (List Command)) → p.headings ≡ n → IsTrue (sections_follow Three p sections) → (d section item : ℕ) (before behind : List Command) → get_or sections d [] ≡ before ++ Spawn section item ∷ behind → n + d < section
sections_later n p [] at follows d section item [] behind is = cc
sections_later n p [] at follows d section item (b ∷ before) behind is = cc
sections_later n p (cs ∷ sections) at follows zero section item before behind is =
    let parts = both_parts p cs sections follows in
    let le = commands_later (opened p) cs section item before behind parts.0 is in
    omega (arith, le, at)
sections_later n p (cs ∷ sections) at follows (suc d) section item before behind is =
    let parts = both_parts p cs sections follows in
    let rest = sections_later (n + 1) (fold called (opened p) cs) sections (headings_kept (opened p) cs ∙ ap (λ k. k + 1) at) parts.1 d section item before behind is in
    omega (arith, rest)

-- a join names a section that stands in a spawn before it
commands_own : (p : Place) (cs : List Command) (dst section : ℕ) (before behind : List Command) → IsTrue (follow Three p cs) → cs ≡ before ++ Join dst section ∷ behind → IsTrue (has p.own section || list_any (is_spawn_of section) before)
commands_own p [] dst section [] behind follows is = cc
commands_own p [] dst section (b ∷ before) behind follows is = cc
commands_own p (c ∷ cs) dst section [] behind follows is =
    let same : c ≡ Join dst section = cc in
    let well : IsTrue (spawns_well p (Join dst section)) = subst (λ (x : Command). IsTrue (spawns_well p x)) same (and_parts (spawns_well p c) (follow Three (called p c) cs) follows).0 in
    or_false (has p.own section) ∙ well
commands_own p (c ∷ cs) dst section (b ∷ before) behind follows is =
    let same : c ≡ b = cc in
    let rest : cs ≡ before ++ Join dst section ∷ behind = cc in
    let later = commands_own (called p c) cs dst section before behind (and_parts (spawns_well p c) (follow Three (called p c) cs) follows).1 rest in
    regroup (has p.own section) (is_spawn_of section b) (list_any (is_spawn_of section) before)
    ∙ (ap (λ (x : Command). (has p.own section || is_spawn_of section x) || list_any (is_spawn_of section) before) (sym same)
    ∙ (ap (λ (b : Bool). b || list_any (is_spawn_of section) before) (sym (has_called p.own c section)) ∙ later))
  where
    regroup : (a b c : Bool) → (a || (b || c)) ≡ ((a || b) || c)
    regroup true b c = refl
    regroup false b c = refl

sections_own : (p : Place) (sections : List (List Command)) → IsTrue (sections_follow Three p sections) → (d dst section : ℕ) (before behind : List Command) → get_or sections d [] ≡ before ++ Join dst section ∷ behind → IsTrue (list_any (is_spawn_of section) before)
sections_own p [] follows d dst section [] behind is = cc
sections_own p [] follows d dst section (b ∷ before) behind is = cc
sections_own p (cs ∷ sections) follows zero dst section before behind is = commands_own (opened p) cs dst section before behind (both_parts p cs sections follows).0 is
sections_own p (cs ∷ sections) follows (suc d) dst section before behind is = sections_own (fold called (opened p) cs) sections (both_parts p cs sections follows).1 d dst section before behind is

-- a spawn names a section that has a domain
nonempty : (sections : List (List Command)) (d : ℕ) (before : List Command) (c : Command) (behind : List Command) → get_or sections d [] ≡ before ++ c ∷ behind → 0 < length sections
nonempty [] d [] c behind is = cc
nonempty [] d (b ∷ before) c behind is = cc
nonempty (cs ∷ sections) d before c behind is = omega arith

all_first : {A : Type 0} (test : A → Bool) (before : List A) (c : A) (behind : List A) → IsTrue (list_all test (before ++ c ∷ behind)) → IsTrue (test c)
all_first test [] c behind all = (and_parts (test c) (list_all test behind) all).0
all_first test (b ∷ before) c behind all = all_first test before c behind (and_parts (test b) (list_all test (before ++ c ∷ behind)) all).1

section_written : (domains : ℕ) (sections : List (List Command)) (d : ℕ) → IsTrue (list_all (list_all (is_writable Three domains)) sections) → IsTrue (list_all (is_writable Three domains) (get_or sections d []))
section_written domains [] d all = refl
section_written domains (cs ∷ sections) zero all = (and_parts (list_all (is_writable Three domains) cs) (list_all (list_all (is_writable Three domains)) sections) all).0
section_written domains (cs ∷ sections) (suc d) all = section_written domains sections d (and_parts (list_all (is_writable Three domains) cs) (list_all (list_all (is_writable Three domains)) sections) all).1

section_below : (domains section : ℕ) → 0 < domains → IsTrue (fits Three domains Section (pos section)) → section < domains
section_below domains section some fit = grind (arith, ints, nat_tests)

spawn_inside : (domains : ℕ) (sections : List (List Command)) (d section item : ℕ) (before behind : List Command) → IsTrue (list_all (list_all (is_writable Three domains)) sections) → 0 < domains → get_or sections d [] ≡ before ++ Spawn section item ∷ behind → section < domains
spawn_inside domains sections d section item before behind written some is =
    let own : IsTrue (is_writable Three domains (Spawn section item)) = all_first (is_writable Three domains) before (Spawn section item) behind (subst (λ (cs : List Command). IsTrue (list_all (is_writable Three domains) cs)) is (section_written domains sections d written)) in
    let numbers = (and_parts (is_built Three (parts (Spawn section item)).word) (all_fit Three domains (form (parts (Spawn section item)).word).operands (parts (Spawn section item)).numbers) own).1 in
    section_below domains section some (and_parts (fits Three domains Section (pos section)) _ numbers).0

-- the sections that are left empty change nothing of this
none_further : (k d : ℕ) → ◌≡◌ {A = List Command} (get_or (replicate k []) d []) []
none_further zero d = refl
none_further (suc k) zero = refl
none_further (suc k) (suc d) = none_further k d

with_further : (sections : List (List Command)) (k d : ℕ) → get_or (sections ++ replicate k []) d [] ≡ get_or sections d []
with_further [] k d = none_further k d
with_further (cs ∷ sections) k zero = refl
with_further (cs ∷ sections) k (suc d) = with_further sections k d

none_spawn : (t k : ℕ) → tally (spawns t) (replicate k []) ≡ 0
none_spawn t zero = refl
none_spawn t (suc k) = let rest = none_spawn t k in omega (arith, rest)

written_orderly : (domains : ℕ) (sections : List (List Command)) → IsWritten Three domains sections → IsOrderly domains (with_empty domains sections)
written_orderly domains sections w =
    let k : ℕ = domains - length sections in
    record {
      few = let all = length-append sections (replicate k []) in let more = length-replicate {A = List Command} k [] in let few = w.few_sections in omega (arith, all, more, few);
      inside = λ d section item before behind is.
          let own = sym (with_further sections k d) ∙ is in
          spawn_inside domains sections d section item before behind w.writable (let few = w.few_sections in let some = nonempty sections d before (Spawn section item) behind own in omega (arith, few, some)) own;
      once = λ t.
          let all = script_spawns t (sections ++ replicate k []) in
          let parts = tally-append (spawns t) sections (replicate k []) in
          let none = none_spawn t k in
          let few = sections_once start sections t w.in_order in
          omega (arith, all, parts, none, few);
      later = λ d section item before behind is.
          let lt = sections_later 0 start sections refl w.in_order d section item before behind (sym (with_further sections k d) ∙ is) in
          omega (arith, lt);
      own = λ d dst section before behind is. sections_own start sections w.in_order d dst section before behind (sym (with_further sections k d) ∙ is);
    }

pub read_orderly : ScriptsAreOrderly
read_orderly domains script read =
    let s = read.spelled in
    subst (λ (sections : List (List Command)). IsOrderly domains sections) (sym s.script_is) (written_orderly domains s.written (subst (λ (v : Version). IsWritten v domains s.written) read.third s.is_written))
