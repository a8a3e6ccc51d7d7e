-- Each command of a section prints one reply, that of the last of its steps.
use Rattle.std.proofs.Common.{◌≡◌, ◌≢◌, ℕ, ◌<◌, Bool, true, false, not, cond, ◌==◌, eqb-true, eq-eqb, nat_lt, IsTrue, ℤ, pos, List, [], ◌∷◌, ◌++◌, refl, ap, sym, ◌∙◌, subst, arith, append-nil}
use Rattle.std.specs.Prelude.{if◌then◌else◌}
use Rattle.std.specs.List.{list_all}
use Rattle.std.proofs.lemmas.Bool.Decides.{nat_tests}
use Rattle.std.proofs.lemmas.List.Concat.{flat_map-append}
use Rattle.model_core.specs.declared.command.Command.{Command}
use Rattle.model_core.specs.declared.command.Command.TheVariants.{PutInt, Forget, AllocMaj, Load, Store, Spawn, Argument, PutResult, Join}
use Rattle.model_core.specs.declared.reply.Reply.{Reply}
use Rattle.model_core.proofs.Graphs.GraphLemmas.{and_parts}
use Rattle.model_traces.specs.Spawns.Hidden.{hidden, scratch, flag_of, argument_of, result_of, is_plain}
use Rattle.model_traces.specs.Spawns.Expansion.{Step, Each, is_int, flag_load, Waits, IsStart, IsJoin, Make, spawn_commands, finish_commands, IsExpansion, AreExpansions, IsFitting, AreFitting}
use Rattle.model_traces.specs.Spawns.Printed.{is_hidden_store_printed, is_printed, printed_of, PrintLasts, PrintLaw}

printed_append : (d : ℕ) (xs ys : List Step) → printed_of d (xs ++ ys) ≡ printed_of d xs ++ printed_of d ys
printed_append d xs ys = flat_map-append (λ (s : Step). cond (is_printed d s.command) (s.answer ∷ []) []) xs ys

-- a step that prints, and one that doesn't
pub prints_one : (d : ℕ) (x : Step) (c : Command) → x.command ≡ c → is_printed d c ≡ true → printed_of d (x ∷ []) ≡ x.answer ∷ []
prints_one d x c is shows = ap (λ (b : Bool). cond b (x.answer ∷ []) [] ++ []) (ap (is_printed d) is ∙ shows)

pub prints_none : (d : ℕ) (x : Step) (xs : List Step) (c : Command) → x.command ≡ c → is_printed d c ≡ false → printed_of d xs ≡ [] → printed_of d (x ∷ xs) ≡ []
prints_none d x xs c is silent rest = ap (λ (b : Bool). cond b (x.answer ∷ []) [] ++ printed_of d xs) (ap (is_printed d) is ∙ silent) ∙ rest

-- which commands print
pub below_scratch : (r : ℕ) (rs : List ℕ) → IsTrue (list_all (λ k. nat_lt k scratch) (r ∷ rs)) → nat_lt r scratch ≡ true
below_scratch r rs all = (and_parts (nat_lt r scratch) (list_all (λ k. nat_lt k scratch) rs) all).0

not_hidden : (r : ℕ) → nat_lt r scratch ≡ true → (r == hidden) ≡ false
not_hidden r h = grind (arith, nat_tests)

store_printed : (d block index item : ℕ) → nat_lt block scratch ≡ true → nat_lt item scratch ≡ true → is_printed d (Store block index item) ≡ true
store_printed d block index item a b = ap (λ (t : Bool). if t then is_hidden_store_printed d index else nat_lt item scratch) (not_hidden block a) ∙ b

pub plain_printed : (d : ℕ) (c : Command) → IsTrue (is_plain c) → is_printed d c ≡ true
plain_printed d (PutInt dst value) all = below_scratch dst [] all
plain_printed d (Forget dst) all = below_scratch dst [] all
plain_printed d (AllocMaj dst tag fields) all = below_scratch dst [] all
plain_printed d (Load dst src index) all = below_scratch dst (src ∷ []) all
plain_printed d (Store block index item) all =
    store_printed d block index item (below_scratch block (item ∷ []) all) (below_scratch item [] (and_parts (nat_lt block scratch) (list_all (λ k. nat_lt k scratch) (item ∷ [])) all).1)
plain_printed d c all = refl

-- two numbers that differ
pub differ : (a b : ℕ) → a ≢ b → (a == b) ≡ false
differ a b other = go (a == b) refl
  where
    go : (c : Bool) → (a == b) ≡ c → c ≡ false
    go true e = absurd (other (eqb-true a b e))
    go false e = refl

argument_silent : (d section item : ℕ) → section < 8 → is_printed d (Store hidden (argument_of section) item) ≡ false
argument_silent d section item lt =
    let first : nat_lt (argument_of section) (argument_of 0) ≡ false = grind (arith, nat_tests) in
    let second : nat_lt (argument_of section) (result_of 0) ≡ true = grind (arith, nat_tests) in
    ap (λ (b : Bool). if b then not (argument_of section == flag_of d) else not (nat_lt (argument_of section) (result_of 0))) first ∙ ap not second

flag_printed : (d section : ℕ) → section < 8 → section ≢ d → is_printed d (Store hidden (flag_of section) scratch) ≡ true
flag_printed d section lt other =
    let first : nat_lt section (argument_of 0) ≡ true = grind (arith, nat_tests) in
    ap (λ (b : Bool). if b then not (section == flag_of d) else not (nat_lt section (result_of 0))) first ∙ ap not (differ section d other)

finish_silent : (d : ℕ) → d < 8 → is_printed d (Store hidden (flag_of d) scratch) ≡ false
finish_silent d lt =
    let first : nat_lt d (argument_of 0) ≡ true = grind (arith, nat_tests) in
    ap (λ (b : Bool). if b then not (d == flag_of d) else not (nat_lt d (result_of 0))) first ∙ ap not (eq-eqb d d refl)

result_printed : (d item : ℕ) → is_printed d (Store hidden (result_of d) item) ≡ true
result_printed d item =
    let first : nat_lt (result_of d) (argument_of 0) ≡ false = grind (arith, nat_tests) in
    let second : nat_lt (result_of d) (result_of 0) ≡ false = grind (arith, nat_tests) in
    ap (λ (b : Bool). if b then not (result_of d == flag_of d) else not (nat_lt (result_of d) (result_of 0))) first ∙ ap not second

-- the steps of one command: the last prints, and those before it don't
pub record PrintsLast (d : ℕ) (xs : List Step) : Type 0 where
  pub early : List Step
  pub last : Step
  pub are : xs ≡ early ++ last ∷ []
  pub prints : printed_of d xs ≡ last.answer ∷ []

one_prints : (d : ℕ) (xs : List Step) (c : Command) → Make (c ∷ []) xs → is_printed d c ≡ true → PrintsLast d xs
one_prints d [] c make shows = cc
one_prints d (x ∷ []) c make shows = let is : x.command ≡ c = cc in record { early = []; last = x; are = refl; prints = prints_one d x c is shows }
one_prints d (x ∷ y ∷ xs) c make shows = cc

more_prints : (d : ℕ) (x : Step) (xs : List Step) (c : Command) → x.command ≡ c → is_printed d c ≡ false → PrintsLast d xs → PrintsLast d (x ∷ xs)
more_prints d x xs c is silent rest = record {
  early = x ∷ rest.early;
  last = rest.last;
  are = ap (λ (ys : List Step). x ∷ ys) rest.are;
  prints = ap (λ (b : Bool). cond b (x.answer ∷ []) [] ++ printed_of d xs) (ap (is_printed d) is ∙ silent) ∙ rest.prints;
}

spawn_prints : (d : ℕ) (b : Bool) (xs : List Step) (section item : ℕ) → section < 8 → section ≢ d → Make (spawn_commands b section item) xs → PrintsLast d xs
spawn_prints d true [] section item lt other make = cc
spawn_prints d true (x ∷ []) section item lt other make = cc
spawn_prints d true (x ∷ y ∷ xs) section item lt other make =
    let first : x.command ≡ Store hidden (argument_of section) item = cc in
    let second : y.command ≡ PutInt scratch (pos 1) = cc in
    let rest : Make (Store hidden (flag_of section) scratch ∷ []) xs = cc in
    more_prints d x (y ∷ xs) _ first (argument_silent d section item lt) (more_prints d y xs _ second refl (one_prints d xs _ rest (flag_printed d section lt other)))
spawn_prints d false [] section item lt other make = cc
spawn_prints d false (x ∷ []) section item lt other make = cc
spawn_prints d false (x ∷ y ∷ []) section item lt other make = cc
spawn_prints d false (x ∷ y ∷ z ∷ xs) section item lt other make =
    let first : x.command ≡ PutInt scratch (pos 0) = cc in
    let second : y.command ≡ Store hidden (argument_of section) scratch = cc in
    let third : z.command ≡ PutInt scratch (pos 1) = cc in
    let rest : Make (Store hidden (flag_of section) scratch ∷ []) xs = cc in
    more_prints d x (y ∷ z ∷ xs) _ first refl (more_prints d y (z ∷ xs) _ second (argument_silent d section scratch lt)
    (more_prints d z xs _ third refl (one_prints d xs _ rest (flag_printed d section lt other))))

-- loads of a flag print nothing
each_silent : (d section : ℕ) (until : ℤ) (xs : List Step) → Each (λ x. (x.command ≡ flag_load section) × (is_int until x.answer ≡ false)) xs → printed_of d xs ≡ []
each_silent d section until [] each = refl
each_silent d section until (x ∷ xs) each = prints_none d x xs (flag_load section) each.0.0 refl (each_silent d section until xs each.1)

waits_silent : (d section : ℕ) (until : ℤ) (xs : List Step) → Waits section until xs → printed_of d xs ≡ []
waits_silent d section until xs w =
    ap (printed_of d) w.are ∙ printed_append d w.early (w.last ∷ [])
    ∙ (λ i. each_silent d section until w.early w.early_loads i ++ prints_none d w.last [] (flag_load section) w.last_load refl refl i)

join_prints : (d : ℕ) (xs : List Step) (dst section : ℕ) → nat_lt dst scratch ≡ true → IsJoin dst section xs → PrintsLast d xs
join_prints d xs dst section below join = record {
  early = join.waits;
  last = join.last;
  are = join.are;
  prints = ap (printed_of d) join.are ∙ printed_append d join.waits (join.last ∷ [])
      ∙ (λ i. waits_silent d section (pos 2) join.waits join.waited i ++ prints_one d join.last _ join.loads below i);
}

pub command_prints : (d : ℕ) (c : Command) (xs : List Step) → IsFitting d c → IsExpansion d c xs → PrintsLast d xs
command_prints d (Spawn section item) xs fits is = spawn_prints d _ xs section item fits.2 fits.1 is.commands_are
command_prints d (Argument dst) xs fits is = one_prints d xs _ is (below_scratch dst [] fits)
command_prints d (PutResult item) xs fits is = one_prints d xs _ is (result_printed d item)
command_prints d (Join dst section) xs fits is = join_prints d xs dst section (below_scratch dst [] fits.0) is
command_prints d c xs fits is = one_prints d xs c is (plain_printed d c fits)

commands_print : (d : ℕ) (cs : List Command) (xs : List Step) → AreFitting d cs → AreExpansions d cs xs → PrintLasts d cs xs (printed_of d xs)
commands_print d [] xs fits are = ap (printed_of d) are
commands_print d (c ∷ cs) xs fits are =
    let ys = are.0 in
    let zs = are.1 in
    let one = command_prints d c ys fits.0 are.3 in
    let rest = commands_print d cs zs fits.1 are.4 in (
      one.early,
      one.last,
      zs,
      printed_of d zs,
      are.2 ∙ ap (λ (vs : List Step). vs ++ zs) one.are,
      subst (λ (vs : List Step). IsExpansion d c vs) one.are are.3,
      ap (printed_of d) are.2 ∙ printed_append d ys zs ∙ ap (λ (rs : List Reply). rs ++ printed_of d zs) one.prints,
      rest,
    )

start_silent : (d : ℕ) (spawned : Bool) (xs : List Step) → cond spawned (IsStart d xs) (xs ≡ []) → printed_of d xs ≡ []
start_silent d true xs is = waits_silent d d (pos 1) xs is
start_silent d false xs is = ap (printed_of d) is

pub end_silent : (d : ℕ) → d < 8 → (spawned : Bool) (xs : List Step) → cond spawned (Make (finish_commands d) xs) (xs ≡ []) → printed_of d xs ≡ []
end_silent d lt true [] is = cc
end_silent d lt true (x ∷ []) is = cc
end_silent d lt true (x ∷ y ∷ []) is =
    let first : x.command ≡ PutInt scratch (pos 2) = cc in
    let second : y.command ≡ Store hidden (flag_of d) scratch = cc in
    prints_none d x (y ∷ []) _ first refl (prints_none d y [] _ second (finish_silent d lt) refl)
end_silent d lt true (x ∷ y ∷ z ∷ xs) is = cc
end_silent d lt false xs is = ap (printed_of d) is

pub print_law : PrintLaw
print_law d spawned cs xs lt fits is =
    let whole : printed_of d xs ≡ printed_of d is.middle =
    ap (printed_of d) is.are ∙ printed_append d is.start (is.middle ++ is.finish)
    ∙ (λ i. start_silent d spawned is.start is.starts i ++ printed_append d is.middle is.finish i)
    ∙ ap (λ (rs : List Reply). printed_of d is.middle ++ rs) (end_silent d lt spawned is.finish is.finishes) ∙ append-nil (printed_of d is.middle) in
    subst (λ (rs : List Reply). PrintLasts d cs is.middle rs) (sym whole) (commands_print d cs is.middle fits is.makes)
