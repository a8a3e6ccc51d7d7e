-- A script of version 3 names registers below 14 alone, and each of its spawns and joins names another section.
use Rattle.std.proofs.Common.{◌≡◌, ◌≢◌, ℕ, zero, suc, ◌+◌, ◌-◌, ◌<◌, ◌≤◌, Bool, true, false, not, ◌&&◌, ◌||◌, eqb, eqb-true, nat_lt, IsTrue, ℤ, pos, List, [], ◌∷◌, ◌++◌, map, length, get_or, replicate, fold, refl, ap, sym, ◌∙◌, subst, arith}
use Rattle.std.specs.Prelude.{is_some, nat_le}
use Rattle.std.specs.List.{list_all, list_any}
use Rattle.std.proofs.lemmas.Int.{ints}
use Rattle.std.proofs.lemmas.Bool.Decides.{nat_tests}
use Rattle.std.proofs.lemmas.Bool.{and_parts}
use Rattle.model_core.specs.declared.command.Command.{Command}
use Rattle.model_core.specs.declared.command.Command.TheVariants.{PutInt, Spawn, Join}
use Rattle.text_script.specs.declared.form.Operand.{Operand}
use Rattle.text_script.specs.declared.form.Operand.TheVariants.{Register, Section}
use Rattle.text_script.specs.declared.version.Version.{Version}
use Rattle.text_script.specs.declared.version.Version.TheVariants.{Three}
use Rattle.text_script.specs.Forms.{form, parts, fits, is_built, all_fit, is_writable}
use Rattle.text_script.specs.Script.{Scripted}
use Rattle.text_script.specs.Spawning.{Place, start, spawned_by, opened, called, has, may_begin, spawns_well, follow, sections_follow, spawns, is_spawned}
use Rattle.text_script.specs.Spelling.{IsWritten, Spells, with_empty}
use Rattle.text_script.proofs.PlaceLemmas.{headings_kept}
use Rattle.model_traces.specs.Spawns.Hidden.{scratch, registers_of, is_plain}
use Rattle.model_traces.specs.Spawns.Expansion.{IsFitting, AreFitting, IsFittingScript, is_spawn_of, is_spawned as is_spawned_in_law}

-- the numbers that are registers
abbrev register_numbers : List Operand → List ℤ → List ℤ
register_numbers (Register ∷ kinds) (z ∷ zs) = z ∷ register_numbers kinds zs
register_numbers (kind ∷ kinds) (z ∷ zs) = register_numbers kinds zs
register_numbers _ _ = []

module _ (domains : ℕ) where
  numbers_fit : (kinds : List Operand) (zs : List ℤ) → IsTrue (all_fit Three domains kinds zs) → IsTrue (list_all (fits Three domains Register) (register_numbers kinds zs))
  numbers_fit [] zs fit = refl
  numbers_fit (kind ∷ kinds) [] fit = none kind
    where
      none : (k : Operand) → IsTrue (list_all (fits Three domains Register) (register_numbers (k ∷ kinds) []))
      none Register = refl
      none k = refl
  numbers_fit (kind ∷ kinds) (z ∷ zs) fit =
      let both = and_parts (fits Three domains kind z) (all_fit Three domains kinds zs) fit in
      more kind both.0 (numbers_fit kinds zs both.1)
    where
      more : (k : Operand) → IsTrue (fits Three domains k z) → IsTrue (list_all (fits Three domains Register) (register_numbers kinds zs)) → IsTrue (list_all (fits Three domains Register) (register_numbers (k ∷ kinds) (z ∷ zs)))
      more Register first rest = ap (λ (b : Bool). b && list_all (fits Three domains Register) (register_numbers kinds zs)) first ∙ rest
      more k first rest = rest

  register_below : (r : ℕ) → IsTrue (fits Three domains Register (pos r)) → IsTrue (nat_lt r scratch)
  register_below r fit = grind (arith, ints, nat_tests)

  registers_below : (rs : List ℕ) → IsTrue (list_all (fits Three domains Register) (map pos rs)) → IsTrue (list_all (λ r. nat_lt r scratch) rs)
  registers_below [] all = refl
  registers_below (r ∷ rs) all =
      let both = and_parts (fits Three domains Register (pos r)) (list_all (fits Three domains Register) (map pos rs)) all in
      ap (λ (b : Bool). b && list_all (λ r. nat_lt r scratch) rs) (register_below r both.0) ∙ registers_below rs both.1

  -- the registers of a command are the numbers of its line that are registers
  registers_are : (c : Command) → register_numbers (form (parts c).word).operands (parts c).numbers ≡ map pos (registers_of c)
  registers_are (PutInt dst value) = refl
  registers_are c = refl

  numbers_of : (c : Command) → IsTrue (is_writable Three domains c) → IsTrue (all_fit Three domains (form (parts c).word).operands (parts c).numbers)
  numbers_of c writable = (and_parts (is_built Three (parts c).word) (all_fit Three domains (form (parts c).word).operands (parts c).numbers) writable).1

  plain_if_written : (c : Command) → IsTrue (is_writable Three domains c) → IsTrue (is_plain c)
  plain_if_written c writable =
      registers_below (registers_of c) (subst (λ (zs : List ℤ). IsTrue (list_all (fits Three domains Register) zs)) (registers_are c)
      (numbers_fit (form (parts c).word).operands (parts c).numbers (numbers_of c writable)))

  section_below : (section : ℕ) → IsTrue (fits Three domains Section (pos section)) → section < 8
  section_below section fit = grind (arith, ints, nat_tests)

  above : (n h t : ℕ) → h ≡ n + 1 → IsTrue (nat_le h t) → t ≢ n
  above n h t next le same = let more : h ≤ t = grind (arith, nat_tests) in omega arith

  -- one of some later sections is later
  later_one : (h : ℕ) (own : List ℕ) (t : ℕ) → IsTrue (list_all (nat_le h) own) → IsTrue (has own t) → IsTrue (nat_le h t)
  later_one h [] t all is = let clash : false ≡ true = is in cc
  later_one h (m ∷ own) t all is =
      let both = and_parts (nat_le h m) (list_all (nat_le h) own) all in
      later_by h m t (has own t) (eqb m t) refl both.0 (λ e. later_one h own t both.1 e) is
    where
      later_by : (h m t : ℕ) (others b : Bool) → eqb m t ≡ b → IsTrue (nat_le h m) → (IsTrue others → IsTrue (nat_le h t)) → IsTrue (b || others) → IsTrue (nat_le h t)
      later_by h m t others true e first rest is = subst (λ (k : ℕ). IsTrue (nat_le h k)) (eqb-true m t e) first
      later_by h m t others false e first rest is = rest is

  later_more : (p : Place) (c : Command) → IsTrue (list_all (nat_le p.headings) p.own) → IsTrue (spawns_well p c) → IsTrue (list_all (nat_le p.headings) (p.own ++ spawned_by c))
  later_more p c all well = append p.own (spawned_by c) all (new c well)
    where
      append : (xs ys : List ℕ) → IsTrue (list_all (nat_le p.headings) xs) → IsTrue (list_all (nat_le p.headings) ys) → IsTrue (list_all (nat_le p.headings) (xs ++ ys))
      append [] ys a b = b
      append (x ∷ xs) ys a b =
          let both = and_parts (nat_le p.headings x) (list_all (nat_le p.headings) xs) a in
          ap (λ (t : Bool). t && list_all (nat_le p.headings) (xs ++ ys)) both.0 ∙ append xs ys both.1 b

      new : (x : Command) → IsTrue (spawns_well p x) → IsTrue (list_all (nat_le p.headings) (spawned_by x))
      new (Spawn section item) well = ap (λ (t : Bool). t && true) (and_parts (nat_le p.headings section) (not (has p.named section)) well).0
      new x well = refl

  -- one command
  fits_command : (n : ℕ) (p : Place) (c : Command) → p.headings ≡ n + 1 → IsTrue (is_writable Three domains c) → IsTrue (spawns_well p c) → IsTrue (list_all (nat_le p.headings) p.own) → IsFitting n c
  fits_command n p (Spawn section item) next writable well all = (
    plain_if_written (Spawn section item) writable,
    above n p.headings section next (and_parts (nat_le p.headings section) (not (has p.named section)) well).0,
    section_below section (and_parts (fits Three domains Section (pos section)) _ (numbers_of (Spawn section item) writable)).0,
  )
  fits_command n p (Join dst section) next writable well all = (
    plain_if_written (Join dst section) writable,
    above n p.headings section next (later_one p.headings p.own section all well),
    section_below section (and_parts (fits Three domains Section (pos section)) true (and_parts (fits Three domains Register (pos dst)) _ (numbers_of (Join dst section) writable)).1).0,
  )
  fits_command n p c next writable well all = plain_if_written c writable

  -- the commands of a section
  fits_commands : (n : ℕ) (p : Place) (cs : List Command) → p.headings ≡ n + 1 → IsTrue (list_all (is_writable Three domains) cs) → IsTrue (follow Three p cs) → IsTrue (list_all (nat_le p.headings) p.own) → AreFitting n cs
  fits_commands n p [] next writable follows all = tt
  fits_commands n p (c ∷ cs) next writable follows all =
      let w = and_parts (is_writable Three domains c) (list_all (is_writable Three domains) cs) writable in
      let f = and_parts (spawns_well p c) (follow Three (called p c) cs) follows in
      (fits_command n p c next w.0 f.0 all, fits_commands n (called p c) cs next w.1 f.1 (later_more p c all f.0))

  -- the sections
  fits_sections : (n : ℕ) (p : Place) (sections : List (List Command)) → p.headings ≡ n → IsTrue (list_all (list_all (is_writable Three domains)) sections) → IsTrue (sections_follow Three p sections)
      → (d : ℕ) → AreFitting (n + d) (get_or sections d [])
  fits_sections n p [] is writable follows d = tt
  fits_sections n p (cs ∷ sections) is writable follows zero =
      let w = and_parts (list_all (is_writable Three domains) cs) (list_all (list_all (is_writable Three domains)) sections) writable in
      let f = and_parts (may_begin Three p) (follow Three (opened p) cs && sections_follow Three (fold called (opened p) cs) sections) follows in
      let g = and_parts (follow Three (opened p) cs) (sections_follow Three (fold called (opened p) cs) sections) f.1 in
      let same : n ≡ n + 0 = omega arith in
      subst (λ (k : ℕ). AreFitting k cs) same (fits_commands n (opened p) cs (ap (λ k. k + 1) is) w.0 g.0 refl)
  fits_sections n p (cs ∷ sections) is writable follows (suc d) =
      let w = and_parts (list_all (is_writable Three domains) cs) (list_all (list_all (is_writable Three domains)) sections) writable in
      let f = and_parts (may_begin Three p) (follow Three (opened p) cs && sections_follow Three (fold called (opened p) cs) sections) follows in
      let g = and_parts (follow Three (opened p) cs) (sections_follow Three (fold called (opened p) cs) sections) f.1 in
      let same : n + 1 + d ≡ n + suc d = omega arith in
      subst (λ (k : ℕ). AreFitting k (get_or sections d [])) same
      (fits_sections (n + 1) (fold called (opened p) cs) sections (headings_kept (opened p) cs ∙ ap (λ k. k + 1) is) w.1 g.1 d)

-- the sections that are left empty change nothing of this
none_further : (k d : ℕ) → ◌≡◌ {A = List Command} (get_or (replicate k []) d []) []
none_further zero d = refl
none_further (suc k) zero = refl
none_further (suc k) (suc d) = none_further k d

pub with_further : (sections : List (List Command)) (k d : ℕ) → get_or (sections ++ replicate k []) d [] ≡ get_or sections d []
with_further [] k d = none_further k d
with_further (cs ∷ sections) k zero = refl
with_further (cs ∷ sections) k (suc d) = with_further sections k d

written_fits : (domains : ℕ) (sections : List (List Command)) → IsWritten Three domains sections → IsFittingScript (with_empty domains sections)
written_fits domains sections w d =
    let same : 0 + d ≡ d = omega arith in
    subst (λ (cs : List Command). AreFitting d cs) (sym (with_further sections (domains - length sections) d))
    (subst (λ (k : ℕ). AreFitting k (get_or sections d [])) same (fits_sections domains 0 start sections refl w.writable w.in_order d))

pub spelled_fits : (newest : Version) (domains : ℕ) (script : Scripted) (bytes : List ℕ) → Spells newest domains script bytes → script.version ≡ Three → IsFittingScript script.sections
spelled_fits newest domains script bytes s third =
    subst IsFittingScript (sym s.script_is) (written_fits domains s.written (subst (λ (v : Version). IsWritten v domains s.written) third s.is_written))

-- one question, asked in two crates
same_command : (d : ℕ) (c : Command) → spawns d c ≡ is_spawn_of d c
same_command d (Spawn section item) = refl
same_command d c = refl

pub same_spawned : (sections : List (List Command)) (d : ℕ) → is_spawned sections d ≡ is_spawned_in_law sections d
same_spawned sections d = ap (λ (f : Command → Bool). list_any (list_any f) sections) (λ i c. same_command d c i)
