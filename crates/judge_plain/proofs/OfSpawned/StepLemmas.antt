-- Steps that stand in front of others, one after the other.
use Rattle.std.proofs.Common.{◌≡◌, ◌≢◌, ℕ, suc, zero, ◌+◌, ◌-◌, ◌<◌, ◌≤◌, Bool, true, false, IsTrue, ℤ, List, [], ◌∷◌, ◌++◌, length, take, get_or, map, refl, ap, sym, ◌∙◌, subst, arith, append_assoc, append-nil}
use Rattle.std.proofs.lemmas.List.{map-append, take_more}
use Rattle.std.specs.Prelude.{cond, pos, slice_get, slice_index_or, IfSome, Option, None, Some}
use Rattle.model_core.specs.declared.graph.Value.{Value}
use Rattle.model_core.specs.declared.command.Command.{Command}
use Rattle.model_core.specs.declared.command.Command.TheVariants.{Argument, Join, Load, PutResult, Spawn}
use Rattle.model_core.specs.declared.graph.Value.TheVariants.{Nothing}
use Rattle.model_core.specs.Commands.{is_full_value}
use Rattle.model_traces.specs.Spawns.Hidden.{hidden, result_of}
use Rattle.model_traces.specs.Spawns.Expansion.{AreExpansions, Each, IsExpansion, IsJoin, IsSection, IsSpawn, IsStart, Make, Step, Waits, finish_commands, flag_load, is_int, spawn_commands}
use Rattle.model_traces.proofs.OfSpawns.Growing.{expansions_push}
use Rattle.judge_plain.specs.Spawned.Parts.{BeginsWith, IsEarly, StandsIf}

-- nothing stands in front
pub begins_nothing : (P : List Step → Type 0) (steps : List Step) → P [] → BeginsWith P steps steps
begins_nothing P steps holds = record { front = []; holds = holds; are = refl }

-- and then more
pub begins_then : (P Q R : List Step → Type 0) (steps middle rest : List Step) → ((xs ys : List Step) → P xs → Q ys → R (xs ++ ys)) → BeginsWith P steps middle → BeginsWith Q middle rest → BeginsWith R steps rest
begins_then P Q R steps middle rest both a b = record {
  front = a.front ++ b.front;
  holds = both a.front b.front a.holds b.holds;
  are = a.are ∙ ap (λ (t : List Step). a.front ++ t) b.are ∙ sym (append_assoc a.front b.front rest);
}

-- one more command
pub makes_more : (cs : List Command) (i : ℕ) (c : Command) (steps rest behind : List Step) (x : Step) → i < length cs → get_or cs i c ≡ c → BeginsWith (Make (take i cs)) steps rest → rest ≡ x ∷ behind → x.command ≡ c
    → BeginsWith (Make (take (i + 1) cs)) steps behind
makes_more cs i c steps rest behind x below at before is same = record {
  front = before.front ++ x ∷ [];
  holds = map-append (λ (s : Step). s.command) before.front (x ∷ []) ∙ ap (λ (ds : List Command). ds ++ x.command ∷ []) before.holds
      ∙ ap (λ (d : Command). take i cs ++ d ∷ []) (same ∙ sym at) ∙ sym (take_more cs i c below);
  are = before.are ∙ ap (λ (t : List Step). before.front ++ t) is ∙ sym (append_assoc before.front (x ∷ []) behind);
}

each_more : (P : Step → Type 0) (xs : List Step) (x : Step) → Each P xs → P x → Each P (xs ++ x ∷ [])
each_more P [] x each holds = (holds, tt)
each_more P (y ∷ xs) x each holds = (each.0, each_more P xs x each.1 holds)

-- one more load by which a section waits
pub early_more : (section : ℕ) (until : ℤ) (steps rest behind : List Step) (x : Step) → BeginsWith (IsEarly section until) steps rest → rest ≡ x ∷ behind → x.command ≡ flag_load section → is_int until x.answer ≡ false
    → BeginsWith (IsEarly section until) steps behind
early_more section until steps rest behind x before is load other = record {
  front = before.front ++ x ∷ [];
  holds = each_more (λ y. (y.command ≡ flag_load section) × (is_int until y.answer ≡ false)) before.front x before.holds (load, other);
  are = before.are ∙ ap (λ (t : List Step). before.front ++ t) is ∙ sym (append_assoc before.front (x ∷ []) behind);
}

-- and the last
pub early_last : (section : ℕ) (until : ℤ) (steps rest behind : List Step) (x : Step) → BeginsWith (IsEarly section until) steps rest → rest ≡ x ∷ behind → x.command ≡ flag_load section → is_int until x.answer ≡ true
    → BeginsWith (Waits section until) steps behind
early_last section until steps rest behind x before is load answer = record {
  front = before.front ++ x ∷ [];
  holds = record { early = before.front; last = x; are = refl; early_loads = before.holds; last_load = load; last_answer = answer };
  are = before.are ∙ ap (λ (t : List Step). before.front ++ t) is ∙ sym (append_assoc before.front (x ∷ []) behind);
}

pub if_some_to : {A : Type 0} (P Q : A → Type 0) (r : Option A) → ((x : A) → P x → Q x) → IfSome r P → IfSome r Q
if_some_to P Q None to some = tt
if_some_to P Q (Some x) to some = to x some

-- the same commands by another name
pub begins_as : (P Q : List Step → Type 0) (steps rest : List Step) → ((xs : List Step) → P xs → Q xs) → BeginsWith P steps rest → BeginsWith Q steps rest
begins_as P Q steps rest to begins = record { front = begins.front; holds = to begins.front begins.holds; are = begins.are }

pub makes_as : (cs ds : List Command) (steps rest : List Step) → cs ≡ ds → BeginsWith (Make cs) steps rest → BeginsWith (Make ds) steps rest
makes_as cs ds steps rest is begins = subst (λ (bs : List Command). BeginsWith (Make bs) steps rest) is begins

-- a command that stands for itself
pub makes_itself : (d : ℕ) (c : Command) (steps rest : List Step) → ((section item : ℕ) → c ≡ Spawn section item → ⊥) → ((dst section : ℕ) → c ≡ Join dst section → ⊥) → ((dst : ℕ) → c ≡ Argument dst → ⊥) → ((item : ℕ) → c ≡ PutResult item → ⊥)
    → BeginsWith (Make (c ∷ [])) steps rest → BeginsWith (IsExpansion d c) steps rest
makes_itself d (Spawn section item) steps rest spawn join argument result begins = absurd (spawn section item refl)
makes_itself d (Join dst section) steps rest spawn join argument result begins = absurd (join dst section refl)
makes_itself d (Argument dst) steps rest spawn join argument result begins = absurd (argument dst refl)
makes_itself d (PutResult item) steps rest spawn join argument result begins = absurd (result item refl)
makes_itself d c steps rest spawn join argument result begins = begins

-- a register that isn't there holds nothing
pub holds_nothing : (xs : List Value) (i : ℕ) → slice_get xs i ≡ None → is_full_value (slice_index_or xs i Nothing) ≡ false
holds_nothing [] i none = refl
holds_nothing (x ∷ xs) zero none = cc
holds_nothing (x ∷ xs) (suc i) none = holds_nothing xs i none

pub holds_value : (xs : List Value) (i : ℕ) (v : Value) → slice_get xs i ≡ Some v → slice_index_or xs i Nothing ≡ v
holds_value [] i v some = cc
holds_value (x ∷ xs) zero v some = cc
holds_value (x ∷ xs) (suc i) v some = holds_value xs i v some

-- the loads of a join, and then that of the result
pub joins : (dst section : ℕ) (cs : List Command) (steps middle rest : List Step) → BeginsWith (Waits section (pos 2)) steps middle → cs ≡ Load dst hidden (result_of section) ∷ [] → BeginsWith (Make cs) middle rest
    → BeginsWith (IsJoin dst section) steps rest
joins dst section cs steps middle rest waits is loads =
    begins_then (Waits section (pos 2)) (Make (Load dst hidden (result_of section) ∷ [])) (IsJoin dst section) steps middle rest both waits (makes_as cs (Load dst hidden (result_of section) ∷ []) middle rest is loads)
  where
    both : (xs ys : List Step) → Waits section (pos 2) xs → Make (Load dst hidden (result_of section) ∷ []) ys → IsJoin dst section (xs ++ ys)
    both xs [] waits makes = cc
    both xs (y ∷ []) waits makes = record { waits = xs; last = y; are = refl; waited = waits; loads = cc }
    both xs (y ∷ z ∷ ys) waits makes = cc

-- a spawn, from its first step on
pub spawns : (section item : ℕ) (cs : List Command) (steps rest more : List Step) (x : Step) → steps ≡ x ∷ more → BeginsWith (Make cs) steps rest → cs ≡ spawn_commands (is_full_value (slice_index_or x.held item Nothing)) section item
    → BeginsWith (IsSpawn section item) steps rest
spawns section item cs steps rest more x first begins is = record { front = begins.front; holds = from begins.front begins.holds begins.are; are = begins.are }
  where
    some : (b : Bool) → spawn_commands b section item ≢ []
    some true e = cc
    some false e = cc

    from : (ys : List Step) → Make cs ys → steps ≡ ys ++ rest → IsSpawn section item ys
    from [] makes are = absurd (some (is_full_value (slice_index_or x.held item Nothing)) (sym is ∙ sym makes))
    from (y ∷ ys) makes are =
        let same : y ≡ x = let both : y ∷ (ys ++ rest) ≡ x ∷ more = sym are ∙ first in cc in
        record { first = y; more = ys; are = refl; commands_are = makes ∙ is ∙ ap (λ (s : Step). spawn_commands (is_full_value (slice_index_or s.held item Nothing)) section item) (sym same) }

-- one more command of a section
pub expands_more : (d : ℕ) (cs : List Command) (i : ℕ) (c : Command) (steps middle rest : List Step) → i < length cs → get_or cs i c ≡ c → BeginsWith (AreExpansions d (take i cs)) steps middle → BeginsWith (IsExpansion d c) middle rest
    → BeginsWith (AreExpansions d (take (i + 1) cs)) steps rest
expands_more d cs i c steps middle rest below at before more =
    begins_then (AreExpansions d (take i cs)) (IsExpansion d c) (AreExpansions d (take (i + 1) cs)) steps middle rest
    (λ xs ys are is. subst (λ (ds : List Command). AreExpansions d ds (xs ++ ys)) (ap (λ (b : Command). take i cs ++ b ∷ []) (sym at) ∙ sym (take_more cs i c below)) (expansions_push d (take i cs) xs c ys are is))
    before more

-- a whole section
pub sections : (d : ℕ) (spawned : Bool) (cs : List Command) (steps first second rest : List Step) → BeginsWith (StandsIf spawned (IsStart d)) steps first → BeginsWith (AreExpansions d cs) first second
    → BeginsWith (StandsIf spawned (Make (finish_commands d))) second rest → BeginsWith (IsSection d spawned cs) steps rest
sections d spawned cs steps first second rest start middle finish = record {
  front = start.front ++ (middle.front ++ finish.front);
  holds = record { start = start.front; middle = middle.front; finish = finish.front; are = refl; starts = stands spawned (IsStart d) start.front start.holds; makes = middle.holds; finishes = stands spawned (Make (finish_commands d)) finish.front finish.holds };
  are = start.are ∙ ap (λ (t : List Step). start.front ++ t) (middle.are ∙ ap (λ (t : List Step). middle.front ++ t) finish.are ∙ sym (append_assoc middle.front finish.front rest))
      ∙ sym (append_assoc start.front (middle.front ++ finish.front) rest);
}
  where
    stands : (b : Bool) (P : List Step → Type 0) (xs : List Step) → StandsIf b P xs → cond b (P xs) (xs ≡ [])
    stands true P xs holds = holds
    stands false P xs holds = holds

-- all steps
pub whole_section : (d : ℕ) (spawned : Bool) (cs : List Command) (steps rest : List Step) → BeginsWith (IsSection d spawned cs) steps rest → rest ≡ [] → IsSection d spawned cs steps
whole_section d spawned cs steps rest begins none =
    let all : steps ≡ begins.front = begins.are ∙ ap (λ (t : List Step). begins.front ++ t) none ∙ append-nil begins.front in
    subst (IsSection d spawned cs) (sym all) begins.holds
