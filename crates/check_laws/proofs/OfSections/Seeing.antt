-- What was written before a spawn its section sees, and what a section wrote who joined it sees.
use Rattle.std.proofs.Common.{◌≡◌, ◌≢◌, ◌⊎◌, inl, inr, ⊎_elim, ℕ, ◌+◌, ◌<◌, ◌≤◌, Bool, true, false, eqb, eqb-true, cond, eq-eqb, IsTrue, List, [], ◌∷◌, ◌++◌, Some, refl, ap, sym, ◌∙◌, subst, arith, append_assoc}
use Rattle.std.proofs.lemmas.List.Concat.{flat_map-append}
use Rattle.model_core.specs.declared.label.Label.{Label}
use Rattle.model_core.specs.declared.command.Command as declared_command
use Rattle.model_core.specs.declared.command.Command.TheVariants.{Load, Store}
use Rattle.model_core.specs.declared.entry.Entry.{Entry}
use Rattle.model_core.specs.declared.entry.Entry.TheVariants.{Command as CommandOf}
use Rattle.model_core.specs.declared.graph.Value.{Value}
use Rattle.model_core.specs.declared.state.Sizes.{Sizes}
use Rattle.model_core.specs.declared.state.State.{State}
use Rattle.model_core.specs.Domains.{opening, IsWithinLimits}
use Rattle.model_core.specs.Commands.{CommandAllowed}
use Rattle.model_core.specs.Entries.{next}
use Rattle.model_core.specs.History.{state_after, LegalFrom, Legal, commands, command_of}
use Rattle.model_laws.specs.Histories.Cells.{Cell, content, writes}
use Rattle.model_laws.specs.Histories.Reads.{IsWrittenIn}
use Rattle.model_laws.proofs.OfHistories.ReadLemmas.{seen_law}
use Rattle.model_laws.proofs.OfHistories.SplitLemmas.{legal_first}
use Rattle.model_core.proofs.Histories.HistoryLemmas.{state_after-append}
use Rattle.model_traces.specs.Spawns.Hidden.{hidden, scratch, flag_of, result_of, prelude}
use Rattle.model_traces.specs.Spawns.Expansion.{steps_from, flag_load, is_spawned, section_at, IsScriptRun, IsFittingScript}
use Rattle.model_traces.specs.Spawns.Joined.{IsSpawnedIn}
use Rattle.model_traces.proofs.OfSpawns.JoinLaws.{join_law}
use Rattle.check_laws.specs.Sections.Orders.{IsOrderly}
use Rattle.check_laws.specs.Sections.Seen.{IsWriteIn, IsSeen, SpawnsAreSeen, JoinsAreSeen}
use Rattle.check_laws.proofs.OfSections.Walking.{IsStage, stage_after, first_stage}
use Rattle.check_laws.proofs.OfSections.Counting.{stores, spawns, IsMark, section_spawns, two_sections, section_spawned}
use Rattle.check_laws.proofs.OfSections.Passing.{stores_append, stores_one, run_stores}

-- one of two entries of a list stands before the other, or they are one
pub record StandsBefore (a : List Entry) (x : Entry) (b c : List Entry) (y : Entry) (d : List Entry) : Type 0 where
  pub between : List Entry
  pub before : c ≡ a ++ x ∷ between
  pub behind : b ≡ between ++ y ∷ d

later_too : (w : Entry) (a : List Entry) (x : Entry) (b c : List Entry) (y : Entry) (d : List Entry) → StandsBefore a x b c y d → StandsBefore (w ∷ a) x b (w ∷ c) y d
later_too w a x b c y d was = record { between = was.between; before = ap (λ (k : List Entry). w ∷ k) was.before; behind = was.behind }

abbrev InOrder : List Entry → Entry → List Entry → List Entry → Entry → List Entry → Type 0
InOrder a x b c y d = StandsBefore a x b c y d ⊎ (((a ≡ c) × (x ≡ y)) ⊎ StandsBefore c y d a x b)

in_order : (a : List Entry) (x : Entry) (b c : List Entry) (y : Entry) (d : List Entry) → a ++ x ∷ b ≡ c ++ y ∷ d → InOrder a x b c y d
in_order [] x b [] y d e = inr (inl (refl, let same : x ≡ y = cc in same))
in_order [] x b (v ∷ c) y d e = let first : v ≡ x = cc in let rest : b ≡ c ++ y ∷ d = cc in inl (record { between = c; before = ap (λ (w : Entry). w ∷ c) first; behind = rest })
in_order (w ∷ a) x b [] y d e = let first : w ≡ y = cc in let rest : d ≡ a ++ x ∷ b = cc in inr (inr (record { between = a; before = ap (λ (v : Entry). v ∷ a) first; behind = rest }))
in_order (w ∷ a) x b (v ∷ c) y d e =
    let first : w ≡ v = cc in
    let rest : a ++ x ∷ b ≡ c ++ y ∷ d = cc in
    subst (λ (u : Entry). InOrder (w ∷ a) x b (u ∷ c) y d) first (⊎_elim
    (λ before. inl (later_too w a x b c y d before))
    (λ other. ⊎_elim
    (λ same. inr (inl (ap (λ (k : List Entry). w ∷ k) same.0, same.1)))
    (λ after. inr (inr (later_too w c y d a x b after)))
    other)
    (in_order a x b c y d rest))

abbrev domain_in : Entry → ℕ
domain_in (CommandOf d c full) = d
domain_in _ = 0

module _ (z : Sizes) (script : List (List declared_command.Command)) (h : List Entry) (limits : IsWithinLimits z) (legal : Legal z h) (fitting : IsFittingScript script) (run : IsScriptRun z script h) where
  abbrev s1 : State
  s1 = state_after (opening z) (prelude z.domains)

  -- a write that stands in a front of the run is seen at its end
  seen_at : (front left : List Entry) → run.behind ≡ front ++ left → (l : Label) (cell : Cell) (v : Value) (old : List Entry) (e : Entry) (k : List Entry) → front ≡ old ++ e ∷ k → writes (state_after s1 old) e l cell ≡ Some v → IsSeen s1 front l cell v
  seen_at front left is l cell v old e k stands wrote =
      let whole : h ≡ (prelude z.domains ++ (old ++ e ∷ k)) ++ left = run.begins ∙ (ap (λ (b : List Entry). prelude z.domains ++ b) (is ∙ ap (λ (f : List Entry). f ++ left) stands) ∙ sym (append_assoc (prelude z.domains) (old ++ e ∷ k) left)) in
      let part : Legal z ((prelude z.domains ++ old) ++ e ∷ k) = subst (λ (b : List Entry). LegalFrom (opening z) b) (sym (append_assoc (prelude z.domains) old (e ∷ k)))
      (legal_first (opening z) (prelude z.domains ++ (old ++ e ∷ k)) left (subst (λ (b : List Entry). LegalFrom (opening z) b) whole legal)) in
      let law = subst (λ (t : State). writes t e l cell ≡ Some v → (content (state_after (next t e) k).graph l cell ≡ v) ⊎ IsWrittenIn (next t e) k l cell (content (state_after (next t e) k).graph l cell))
      (state_after-append (opening z) (prelude z.domains) old) (seen_law z (prelude z.domains ++ old) k e l cell v part) in (
        record { before = old; entry = e; behind = k; stands = stands; writes = wrote },
        subst (λ (t : State). (content t.graph l cell ≡ v) ⊎ IsWrittenIn (next (state_after s1 old) e) k l cell (content t.graph l cell)) (sym (ap (state_after s1) stands ∙ state_after-append s1 old (e ∷ k))) (law wrote),
      )

  module _ (t : ℕ) (within : t < z.domains) where
    few : t < 8
    few = let all = limits.domains in omega (arith, all, within)

    -- the domain of a store of the flag runs
    inside_at : (d : ℕ) (c : declared_command.Command) (full : Bool) (a b : List Entry) → run.behind ≡ a ++ CommandOf d c full ∷ b → d < z.domains
    inside_at d c full a b is =
        let here = stage_after z.domains s1 a (CommandOf d c full ∷ b) (subst (λ (k : List Entry). IsStage z.domains s1 k) is (first_stage z script h limits legal fitting run)) in
        let allowed : CommandAllowed (state_after s1 a) d c full = here.legal.0 in
        here.inside d allowed.running

    mark : (d : ℕ) → d ≢ t → IsMark d t (flag_of t)
    mark d other = record { few = few; other = other; kind = inr refl }

    -- such a store counts
    one_counts : (d : ℕ) → d ≢ t → (full : Bool) (a b : List Entry) → run.behind ≡ a ++ CommandOf d (Store hidden (flag_of t) scratch) full ∷ b → 1 + stores (flag_of t) (steps_from s1 a d) ≤ spawns t (section_at script d)
    one_counts d other full a b is =
        let count = run_stores z script h limits legal fitting run d t (flag_of t) (inside_at d _ full a b is) (mark d other) in
        let parts = ap (λ (k : List Entry). stores (flag_of t) (steps_from s1 k d)) is ∙ stores_append (flag_of t) d s1 a (CommandOf d (Store hidden (flag_of t) scratch) full ∷ b) in
        let one = stores_one (flag_of t) d scratch (state_after s1 a) full b in
        omega (arith, count, parts, one)

    -- so there is one alone
    not_twice : IsOrderly z.domains script → (d e : ℕ) → d ≢ t → e ≢ t → (full own : Bool) (a b : List Entry) → run.behind ≡ a ++ CommandOf d (Store hidden (flag_of t) scratch) full ∷ b → (c k : List Entry) → a ≡ c ++ CommandOf e (Store hidden (flag_of t) scratch) own ∷ k → ⊥
    not_twice orderly d e other different full own a b is c k stands = go (eqb d e) refl
      where
        there : run.behind ≡ c ++ CommandOf e (Store hidden (flag_of t) scratch) own ∷ (k ++ CommandOf d (Store hidden (flag_of t) scratch) full ∷ b)
        there = is ∙ (ap (λ (f : List Entry). f ++ CommandOf d (Store hidden (flag_of t) scratch) full ∷ b) stands ∙ append_assoc c (CommandOf e (Store hidden (flag_of t) scratch) own ∷ k) (CommandOf d (Store hidden (flag_of t) scratch) full ∷ b))

        go : (b : Bool) → eqb d e ≡ b → ⊥
        go true same =
            let first = one_counts d other full a b is in
            let most = section_spawns t d script in
            let once = orderly.once t in
            let is_e : e ≡ d = sym (eqb-true d e same) in
            let parts = ap (λ (f : List Entry). stores (flag_of t) (steps_from s1 f d)) stands ∙ stores_append (flag_of t) d s1 c (CommandOf e (Store hidden (flag_of t) scratch) own ∷ k) in
            let one = subst (λ (n : ℕ). stores (flag_of t) (steps_from (state_after s1 c) (CommandOf n (Store hidden (flag_of t) scratch) own ∷ k) d) ≡ 1 + stores (flag_of t) (steps_from (next (state_after s1 c) (CommandOf n (Store hidden (flag_of t) scratch) own)) k d)) (sym is_e)
            (stores_one (flag_of t) d scratch (state_after s1 c) own k) in
            omega (arith, first, most, once, parts, one)
        go false differ =
            let first = one_counts d other full a b is in
            let second = one_counts e different own c _ there in
            let two = two_sections t d e script (λ same. let twice : true ≡ false = sym (eq-eqb d e same) ∙ differ in cc) in
            let once = orderly.once t in
            omega (arith, first, second, two, once)

    spawn_seen : IsOrderly z.domains script → (parent : ℕ) (old rest : List Entry) (full : Bool) → parent ≢ t → run.behind ≡ old ++ CommandOf parent (Store hidden (flag_of t) scratch) full ∷ rest
        → (l : Label) (cell : Cell) (v : Value) → IsWriteIn s1 old l cell v
        → (before behind : List Entry) (c : declared_command.Command) (own : Bool) → run.behind ≡ before ++ CommandOf t c own ∷ behind → c ≢ flag_load t → IsSeen s1 before l cell v
    spawn_seen orderly parent old rest full other is l cell v w before behind c own stands not = ⊎_elim
        (λ first. seen_at before (CommandOf t c own ∷ behind) stands l cell v w.before w.entry (w.behind ++ CommandOf parent (Store hidden (flag_of t) scratch) full ∷ first.between)
        (first.before ∙ (ap (λ (k : List Entry). k ++ CommandOf parent (Store hidden (flag_of t) scratch) full ∷ first.between) w.stands ∙ append_assoc w.before (w.entry ∷ w.behind) (CommandOf parent (Store hidden (flag_of t) scratch) full ∷ first.between))) w.writes)
        (λ rest_of. absurd (⊎_elim
        (λ same. other (ap domain_in same.1))
        (λ late.
        let spawned : IsTrue (is_spawned script t) = section_spawned t parent script (let one = one_counts parent other full old rest is in omega (arith, one)) in
        let begun : IsSpawnedIn script t before = (join_law z script h limits legal fitting run t within spawned).begun before behind c own stands not in
        not_twice orderly parent begun.parent other begun.other full begun.full old rest is begun.before (begun.behind ++ CommandOf t c own ∷ late.between)
        (late.before ∙ (ap (λ (k : List Entry). k ++ CommandOf t c own ∷ late.between) begun.stands ∙ append_assoc begun.before (CommandOf begun.parent (Store hidden (flag_of t) scratch) begun.full ∷ begun.behind) (CommandOf t c own ∷ late.between))))
        rest_of))
        (in_order old (CommandOf parent (Store hidden (flag_of t) scratch) full) rest before (CommandOf t c own) behind (sym is ∙ stands))

    -- a load writes nothing
    load_writes : (s : State) (d dst i : ℕ) (full : Bool) (l : Label) (cell : Cell) (v : Value) → writes s (CommandOf d (Load dst hidden i) full) l cell ≡ Some v → ⊥
    load_writes s d dst i true l cell v is = cc
    load_writes s d dst i false l cell v is = cc

    some_command : (a : List Entry) (c : declared_command.Command) (own : Bool) (b : List Entry) → commands (a ++ CommandOf t c own ∷ b) t ≡ [] → ⊥
    some_command a c own b none = go (commands a t) (sym (flat_map-append (command_of t) a (CommandOf t c own ∷ b)) ∙ none)
      where
        here : commands (CommandOf t c own ∷ b) t ≡ c ∷ commands b t
        here = ap (λ (k : Bool). cond k (c ∷ []) [] ++ commands b t) (eq-eqb t t refl)

        go : (cs : List declared_command.Command) → cs ++ commands (CommandOf t c own ∷ b) t ≡ [] → ⊥
        go [] is = let clash : c ∷ commands b t ≡ [] = sym here ∙ is in cc
        go (x ∷ cs) is = cc

    join_seen : IsTrue (is_spawned script t) → (d dst : ℕ) (old rest : List Entry) (full : Bool) → run.behind ≡ old ++ CommandOf d (Load dst hidden (result_of t)) full ∷ rest
        → (l : Label) (cell : Cell) (v : Value) (before behind : List Entry) (c : declared_command.Command) (own : Bool)
        → run.behind ≡ before ++ CommandOf t c own ∷ behind → writes (state_after s1 before) (CommandOf t c own) l cell ≡ Some v
        → (more left : List Entry) → rest ≡ more ++ left → IsSeen s1 (old ++ CommandOf d (Load dst hidden (result_of t)) full ∷ more) l cell v
    join_seen spawned d dst old rest full is l cell v before behind c own stands wrote more left rest_is = ⊎_elim
        (λ first. seen_at (old ++ CommandOf d (Load dst hidden (result_of t)) full ∷ more) left
        (is ∙ (ap (λ (k : List Entry). old ++ CommandOf d (Load dst hidden (result_of t)) full ∷ k) rest_is ∙ sym (append_assoc old (CommandOf d (Load dst hidden (result_of t)) full ∷ more) left)))
        l cell v before (CommandOf t c own) (first.between ++ CommandOf d (Load dst hidden (result_of t)) full ∷ more)
        (ap (λ (k : List Entry). k ++ CommandOf d (Load dst hidden (result_of t)) full ∷ more) first.before ∙ append_assoc before (CommandOf t c own ∷ first.between) (CommandOf d (Load dst hidden (result_of t)) full ∷ more)) wrote)
        (λ rest_of. absurd (⊎_elim
        (λ same. load_writes (state_after s1 before) d dst (result_of t) full l cell v (subst (λ (e : Entry). writes (state_after s1 before) e l cell ≡ Some v) same.1 wrote))
        (λ late. some_command late.between c own behind (sym (ap (λ (k : List Entry). commands k t) late.behind) ∙ (join_law z script h limits legal fitting run t within spawned).ended old rest d dst full is))
        rest_of))
        (in_order before (CommandOf t c own) behind old (CommandOf d (Load dst hidden (result_of t)) full) rest (sym stands ∙ is))

pub spawns_seen : SpawnsAreSeen
spawns_seen z script h limits legal fitting orderly run t within parent old rest full other is l cell v w before behind c own stands not =
    spawn_seen z script h limits legal fitting run t within orderly parent old rest full other is l cell v w before behind c own stands not

pub joins_seen : JoinsAreSeen
joins_seen z script h limits legal fitting run t within spawned d dst old rest full is l cell v before behind c own stands wrote more left rest_is =
    join_seen z script h limits legal fitting run t within spawned d dst old rest full is l cell v before behind c own stands wrote more left rest_is
