-- What the slots hold goes from front to front in one order: each domain's entries make steps, and so do the collector's.
use Rattle.std.proofs.Common.{◌≡◌, ⊎_elim, ℕ, ◌<◌, Bool, true, false, cond, List, [], ◌∷◌, ◌++◌, length, None, refl, ap, ◌∙◌, arith, eq-eqb, length-append}
use Rattle.std.proofs.lemmas.List.{length-replicate}
use Rattle.std.specs.List.{AllByRecursion}
use Rattle.model_core.specs.declared.command.Command.{Command}
use Rattle.model_core.specs.declared.command.Command.TheVariants.{SetKey}
use Rattle.model_core.specs.declared.entry.Entry.{Entry}
use Rattle.model_core.specs.declared.entry.Entry.TheVariants.{Command as CommandOf, End, Cut, Queue, Seal, Wipe, Last as LastOf, Collected, Done, Ran}
use Rattle.model_core.specs.declared.reply.Reply.{Reply}
use Rattle.model_core.specs.declared.state.Sizes.{Sizes}
use Rattle.model_core.specs.declared.state.State.{State}
use Rattle.model_core.specs.Commands.{is_allocation}
use Rattle.model_core.specs.Domains.{opening_domain}
use Rattle.model_core.specs.History.{IsPrefix, Legal, commands, is_entry_of}
use Rattle.model_core.specs.Laws.{written_by}
use Rattle.model_core.proofs.Commands.FrameLemmas.{inside_running}
use Rattle.model_core.proofs.Histories.HistoryLemmas.{commands-append, commands-push}
use Rattle.weak_laws.specs.Maps.Calls.{PerformedBy}
use Rattle.weak_laws.specs.Tables.Stages.{graph_of}
use Rattle.weak_laws.specs.Tables.Thinning.{state_of}
use Rattle.weak_laws.proofs.OfMaps.FrontLemmas.{before_or_behind, walk_along}
use Rattle.weak_laws.proofs.OfMaps.OwnLemmas.{nothing_between}
use Rattle.weak_laws.proofs.OfMaps.RespectLemmas.{allowed_at, count_next, state_push}
use Rattle.weak_maps.specs.Walks.{OwnQuiet}
use Rattle.weak_maps.proofs.GuardLemmas.{quiet_by, quiet_same, quiet_twice}
use Rattle.table_sections.specs.Orders.{SlotStep, SlotsGoInOrder}
use Rattle.table_sections.specs.Places.{HasSlots, MakesEach}
use Rattle.table_sections.specs.declared.laying.Places.{Places}
use Rattle.table_sections.proofs.Laid.{each_grows}
use Rattle.table_sections.proofs.OrderLemmas.{collector_loses, has_on, keeps_graph, sharing_keeps, unwritten_keeps}

-- each entry of domain d behind the base, from one front to a later one, makes a step
abbrev pub OwnSteps : Sizes → Places → List Entry → ℕ → List Entry → List Entry → Type 0
OwnSteps z p base d old new = (front : List Entry) (e : Entry) → IsPrefix base front → IsPrefix old front → IsPrefix (front ++ e ∷ []) new → is_entry_of d e ≡ true → SlotStep z p front e

-- a command that writes no block and makes none
abbrev pub ReadsOnly : ℕ → Command → Type 0
ReadsOnly d c = ((s : State) → written_by s d c ≡ None) × (is_allocation c ≡ false)

each_quiet : (z : Sizes) (d : ℕ) (old : List Entry) (cs : List Command) (new : List Entry) → AllByRecursion (ReadsOnly d) cs → MakesEach z d old cs new → OwnQuiet z d old new
each_quiet z d old [] new all same = quiet_same z d old new same
each_quiet z d old (c ∷ cs) new all (mid, r, made, rest) = quiet_twice z d old mid new (each_grows z d mid cs new rest) (quiet_by z d old mid c r made all.0.0 all.0.1) (each_quiet z d mid cs new all.1 rest)

module _ (z : Sizes) (p : Places) (base : List Entry) (d : ℕ) where
  pub steps_twice : (old now new : List Entry) → IsPrefix now new → OwnSteps z p base d old now → OwnSteps z p base d now new → OwnSteps z p base d old new
  steps_twice old now new grows first last front e here since until own =
      ⊎_elim (λ early. first front e here since early own) (λ late. last front e here late until own) (before_or_behind now new front e grows until)

  pub each_steps : (old : List Entry) (cs : List Command) (new : List Entry) → AllByRecursion (ReadsOnly d) cs → MakesEach z d old cs new → OwnSteps z p base d old new
  each_steps old cs new all made front e here since until own = keeps_graph z p front e (each_quiet z d old cs new all made front e since until own)

  -- to make the map a key of the first ephemeron sets no slot
  pub sharing_steps : (new : List Entry) (r : Reply) → IsPrefix base new → HasSlots (graph_of z base) p → PerformedBy z d base new (SetKey 7 7 6) r → OwnSteps z p base d [] new
  sharing_steps new r grows has made =
      steps_twice [] base new grows (λ front e here since until own. absurd (nothing_between base front e here until)) (λ front e here since until own. sharing_keeps z p d base new r made has front e since until own)

-- how many domains there are at a front
count_at : (z : Sizes) (front : List Entry) → length (state_of z front).domains ≡ z.domains
count_at z front = walk_along (λ f. length (state_of z f).domains ≡ z.domains) [] front (record { rest = front; appends = refl }) (λ f e a b is. ap (λ (s : State). length s.domains) (state_push z f e) ∙ (count_next (state_of z f) e ∙ is)) (length-replicate z.domains opening_domain)

-- behind the front behind which a domain makes no command, there is none of it
none_behind : (h fr front rest : List Entry) (d : ℕ) (c : Command) (full : Bool) → IsPrefix fr front → h ≡ (front ++ CommandOf d c full ∷ []) ++ rest → commands h d ≡ commands fr d → ⊥
none_behind h fr front rest d c full late whole same =
    let e : Entry = CommandOf d c full in
    let all = ap length (ap (λ (y : List Entry). commands y d) whole ∙ commands-append (front ++ e ∷ []) rest d) in
    let one = ap length (commands-push front e d ∙ ap (λ (y : Bool). commands front d ++ cond y (c ∷ []) []) (eq-eqb d d refl)) in
    let before = ap length (ap (λ (y : List Entry). commands y d) late.appends ∙ commands-append fr late.rest d) in
    let none = ap length same in
    let all_is = length-append (commands (front ++ e ∷ []) d) (commands rest d) in
    let one_is = length-append (commands front d) (c ∷ []) in
    let before_is = length-append (commands fr d) (commands late.rest d) in
    omega (arith, all, one, before, none, all_is, one_is, before_is)

-- where each domain makes steps up to a front behind which it makes no command, all entries do
module _ (z : Sizes) (p : Places) (base h : List Entry) (legal : Legal z h) (has : HasSlots (graph_of z base) p)
    (each : (d : ℕ) → d < z.domains → (front : List Entry) × IsPrefix front h × (commands h d ≡ commands front d) × OwnSteps z p base d [] front) where
  of_command : (front : List Entry) (d : ℕ) (c : Command) (full : Bool) → IsPrefix base front → IsPrefix (front ++ CommandOf d c full ∷ []) h → SlotStep z p front (CommandOf d c full)
  of_command front d c full since until =
      let inside = inside_running (state_of z front).domains d (allowed_at z front h (CommandOf d c full) legal until).running in
      let count = count_at z front in
      let seat = each d (omega (arith, inside, count)) in
      ⊎_elim (λ early. seat.3 front (CommandOf d c full) since (record { rest = front; appends = refl }) early (eq-eqb d d refl)) (λ late. absurd (none_behind h seat.0 front until.rest d c full late until.appends seat.2))
      (before_or_behind seat.0 h front (CommandOf d c full) seat.1 until)

  there : (front : List Entry) → IsPrefix base front → HasSlots (graph_of z front) p
  there front since = has_on z p base front since has

  pub slots_in_order : SlotsGoInOrder z p base h
  slots_in_order front (CommandOf d c full) since until = of_command front d c full since until
  slots_in_order front (End d) since until = unwritten_keeps z p front (End d) (there front since) refl
  slots_in_order front (Ran d) since until = unwritten_keeps z p front (Ran d) (there front since) refl
  slots_in_order front Cut since until = unwritten_keeps z p front Cut (there front since) refl
  slots_in_order front (Queue d places) since until = unwritten_keeps z p front (Queue d places) (there front since) refl
  slots_in_order front Seal since until = unwritten_keeps z p front Seal (there front since) refl
  slots_in_order front (Wipe l keys) since until = collector_loses z p front (Wipe l keys) (there front since) refl (allowed_at z front h (Wipe l keys) legal until)
  slots_in_order front (LastOf d place) since until = unwritten_keeps z p front (LastOf d place) (there front since) refl
  slots_in_order front Collected since until = unwritten_keeps z p front Collected (there front since) refl
  slots_in_order front Done since until = unwritten_keeps z p front Done (there front since) refl
