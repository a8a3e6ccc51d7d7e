-- A spawn prints `ok`, and an argument and a join never `type`.
use Rattle.std.proofs.Common.{◌≡◌, ℕ, zero, suc, ◌<◌, Bool, true, false, IsTrue, pos, List, [], ◌∷◌, ◌++◌, length, get_or, refl, ap, sym, ◌∙◌, subst, arith, append_assoc}
use Rattle.std.specs.List.{list_all}
use Rattle.std.proofs.lemmas.Option.{slice_get-get_or}
use Rattle.model_core.specs.declared.command.Command as declared_command
use Rattle.model_core.specs.declared.command.Command.TheVariants.{PutInt, Load, Store, Spawn, Argument, Join}
use Rattle.model_core.specs.declared.entry.Entry.{Entry}
use Rattle.model_core.specs.declared.reply.Reply.{Reply}
use Rattle.model_core.specs.declared.graph.Value.{Value}
use Rattle.model_core.specs.declared.graph.Value.TheVariants.{Int, Block, Nothing}
use Rattle.model_core.specs.declared.graph.Node.TheVariants.{Plain}
use Rattle.model_core.specs.declared.state.Sizes.{Sizes}
use Rattle.model_core.specs.declared.state.State.{State}
use Rattle.model_core.specs.Graph.{node_at}
use Rattle.model_core.specs.Domains.{opening, IsWithinLimits}
use Rattle.model_core.specs.Commands.{shown, is_full_value, command_outcome}
use Rattle.model_core.specs.History.{state_after, Legal}
use Rattle.model_core.proofs.Graphs.GraphLemmas.{and_parts}
use Rattle.model_core.proofs.Commands.FrameLemmas.{inside_running}
use Rattle.model_core.proofs.Commands.LeavesLemmas.{leaves_load}
use Rattle.model_core.proofs.Histories.FieldLemmas.{fields_law}
use Rattle.model_core.proofs.Histories.HistoryLemmas.{state_after-append}
use Rattle.model_traces.specs.Spawns.Hidden.{hidden, scratch, flag_of, argument_of, result_of, hidden_fields, hidden_label, prelude}
use Rattle.model_traces.specs.Spawns.Expansion.{Step, steps_from, Make, spawn_commands, IsExpansion, section_at, IsScriptRun, IsFittingScript, IsFitting, AreFitting}
use Rattle.model_traces.specs.Spawns.Printed.{PrintLasts}
use Rattle.model_traces.proofs.OfSpawns.Printing.{print_law}
use Rattle.check_laws.specs.Sections.Printing.{is_value, MayPrint, MayPrintEach, SpawnsPrintOk}
use Rattle.check_laws.proofs.OfSections.Walking.{replied_is, split_step, IsStage, put_store, stage_at, running_at, never_full, first_stage}

full_at : (xs : List Value) (i : ℕ) → i < length xs → IsTrue (list_all is_full_value xs) → IsTrue (is_full_value (get_or xs i Nothing))
full_at [] i lt all = absurd (omega (arith, lt))
full_at (x ∷ xs) zero lt all = (and_parts (is_full_value x) (list_all is_full_value xs) all).0
full_at (x ∷ xs) (suc i) lt all = full_at xs i (omega (arith, lt)) (and_parts (is_full_value x) (list_all is_full_value xs) all).1

full_shows : (v : Value) → IsTrue (is_full_value v) → IsTrue (is_value (shown v))
full_shows (Int n) full = refl
full_shows (Block l) full = refl
full_shows Nothing full = full

-- the last step of one command's
make_last : (c : declared_command.Command) (early : List Step) (last : Step) → Make (c ∷ []) (early ++ last ∷ []) → last.command ≡ c
make_last c [] last make = cc
make_last c (x ∷ []) last make = cc
make_last c (x ∷ y ∷ xs) last make = cc

last_same : (xs ys : List Step) (x y : Step) → xs ++ x ∷ [] ≡ ys ++ y ∷ [] → x ≡ y
last_same [] [] x y e = cc
last_same [] (b ∷ []) x y e = cc
last_same [] (b ∷ c ∷ ys) x y e = cc
last_same (a ∷ []) [] x y e = cc
last_same (a ∷ c ∷ xs) [] x y e = cc
last_same (a ∷ xs) (b ∷ ys) x y e = let rest : xs ++ x ∷ [] ≡ ys ++ y ∷ [] = cc in last_same xs ys x y rest

-- the last two steps of a spawn
record IsSpawnEnd (section : ℕ) (early : List Step) (last : Step) : Type 0 where
  first : List Step
  put : Step
  are : early ≡ first ++ put ∷ []
  puts : put.command ≡ PutInt scratch (pos 1)
  flags : last.command ≡ Store hidden (flag_of section) scratch

spawn_end : (b : Bool) (section item : ℕ) (early : List Step) (last : Step) → Make (spawn_commands b section item) (early ++ last ∷ []) → IsSpawnEnd section early last
spawn_end true section item (x ∷ y ∷ []) last make = record { first = x ∷ []; put = y; are = refl; puts = cc; flags = cc }
spawn_end false section item (o ∷ x ∷ y ∷ []) last make = record { first = o ∷ (x ∷ []); put = y; are = refl; puts = cc; flags = cc }
spawn_end true section item [] last make = cc
spawn_end true section item (x ∷ []) last make = cc
spawn_end true section item (x ∷ y ∷ z ∷ []) last make = cc
spawn_end true section item (x ∷ y ∷ z ∷ w ∷ xs) last make = cc
spawn_end false section item [] last make = cc
spawn_end false section item (x ∷ []) last make = cc
spawn_end false section item (x ∷ y ∷ []) last make = cc
spawn_end false section item (x ∷ y ∷ z ∷ w ∷ []) last make = cc
spawn_end false section item (x ∷ y ∷ z ∷ w ∷ v ∷ xs) last make = cc

shifted : (us early : List Step) (last : Step) (ys : List Step) → us ++ ((early ++ last ∷ []) ++ ys) ≡ (us ++ early) ++ last ∷ ys
shifted us early last ys = ap (λ (xs : List Step). us ++ xs) (append_assoc early (last ∷ []) ys) ∙ sym (append_assoc us early (last ∷ ys))

module _ (z : Sizes) (script : List (List declared_command.Command)) (h : List Entry) (limits : IsWithinLimits z) (legal : Legal z h) (fitting : IsFittingScript script) (run : IsScriptRun z script h) (d : ℕ) (lt : d < z.domains) where
  abbrev s1 : State
  s1 = state_after (opening z) (prelude z.domains)

  stage : IsStage z.domains s1 run.behind
  stage = first_stage z script h limits legal fitting run

  few : d < 8
  few = let all = limits.domains in omega (arith, all, lt)

  -- a load of a field of the hidden block shows a value
  load_shows : (us : List Step) (x : Step) (ys : List Step) → steps_from s1 run.behind d ≡ us ++ x ∷ ys → (dst i : ℕ) → i < hidden_fields → x.command ≡ Load dst hidden i → IsTrue (is_value x.answer)
  load_shows us x ys are dst i low loads =
      let at = split_step s1 d run.behind us x ys are in
      let here = stage_at z.domains s1 run.behind stage d us x ys at in
      let s : State = state_after s1 at.before in
      let kept = here.kept in
      let never = never_full z.domains s1 run.behind stage d us x ys at (Load dst hidden i) loads refl in
      let running = running_at z.domains s1 run.behind stage d us x ys at in
      let within : i < length kept.fields = let size = kept.size in omega (arith, size, low) in
      let full : IsTrue (list_all is_full_value kept.fields) = fields_law z (prelude z.domains ++ at.before) hidden_label (Plain 0 kept.fields)
      (ap (λ (t : State). node_at t.graph hidden_label) (state_after-append (opening z) (prelude z.domains) at.before) ∙ kept.there) in
      let says = (leaves_load s d (inside_running s.domains d running) dst hidden i hidden_label 0 kept.fields (get_or kept.fields i Nothing) (kept.holds d running) kept.there (slice_get-get_or kept.fields i Nothing within)).replies in
      let answer : x.answer ≡ shown (get_or kept.fields i Nothing) =
      ap (λ (w : Step). w.answer) at.is ∙ ((λ j. (command_outcome s d (loads j) (never j)).reply) ∙ replied_is _ _ says) in
      subst (λ (r : Reply). IsTrue (is_value r)) (sym answer) (full_shows (get_or kept.fields i Nothing) (full_at kept.fields i within full))

  -- what one command prints
  command_prints : (us : List Step) (c : declared_command.Command) (early : List Step) (last : Step) (ys : List Step) → steps_from s1 run.behind d ≡ us ++ ((early ++ last ∷ []) ++ ys) → IsFitting d c → IsExpansion d c (early ++ last ∷ [])
      → MayPrint c last.answer
  command_prints us (Spawn section item) early last ys are fits is =
      let end = spawn_end _ section item early last is.commands_are in
      let there : steps_from s1 run.behind d ≡ (us ++ end.first) ++ end.put ∷ (last ∷ ys) =
      are ∙ (ap (λ (xs : List Step). us ++ ((xs ++ last ∷ []) ++ ys)) end.are
      ∙ (ap (λ (xs : List Step). us ++ (xs ++ ys)) (append_assoc end.first (end.put ∷ []) (last ∷ []))
      ∙ (ap (λ (xs : List Step). us ++ xs) (append_assoc end.first (end.put ∷ (last ∷ [])) ys) ∙ sym (append_assoc us end.first (end.put ∷ (last ∷ ys)))))) in
      (put_store z.domains s1 run.behind stage d (us ++ end.first) end.put last ys (flag_of section) (pos 1) (let low = fits.2 in omega (arith, low)) there end.puts end.flags).answers
  command_prints us (Argument dst) early last ys are fits is = load_shows (us ++ early) last ys (are ∙ shifted us early last ys) dst (argument_of d) (let low = few in omega (arith, low)) (make_last _ early last is)
  command_prints us (Join dst section) early last ys are fits is =
      load_shows (us ++ early) last ys (are ∙ shifted us early last ys) dst (result_of section) (let low = fits.2 in omega (arith, low)) (ap (λ (x : Step). x.command) (last_same early is.waits last is.last is.are) ∙ is.loads)
  command_prints us c early last ys are fits is = tt

  -- what a section prints
  commands_print : (us : List Step) (cs : List declared_command.Command) (xs ys : List Step) (rs : List Reply) → steps_from s1 run.behind d ≡ us ++ (xs ++ ys) → AreFitting d cs → PrintLasts d cs xs rs → MayPrintEach cs rs
  commands_print us [] xs ys rs are fits prints = prints
  commands_print us (c ∷ cs) xs ys rs are fits (early, last, later, more, xs_are, is, rs_are, rest) =
      let here : steps_from s1 run.behind d ≡ us ++ ((early ++ last ∷ []) ++ (later ++ ys)) = are ∙ (ap (λ (t : List Step). us ++ (t ++ ys)) xs_are ∙ ap (λ (t : List Step). us ++ t) (append_assoc (early ++ last ∷ []) later ys)) in (
        last.answer,
        more,
        rs_are,
        command_prints us c early last (later ++ ys) here fits.0 is,
        commands_print (us ++ (early ++ last ∷ [])) cs later ys more (here ∙ sym (append_assoc us (early ++ last ∷ []) (later ++ ys))) fits.1 rest,
      )

pub prints_ok : SpawnsPrintOk
prints_ok z script h limits legal fitting run d lt =
    let all = limits.domains in
    let section = run.sections d lt in
    commands_print z script h limits legal fitting run d lt section.start (section_at script d) section.middle section.finish _ section.are (fitting d)
    (print_law d _ (section_at script d) _ (omega (arith, all, lt)) (fitting d) section)
