-- Where each domain was prepared and made its section, and the history has no command of it behind, the sections stand in it on one shared map.
use Rattle.std.proofs.Common.{◌≡◌, ⊎_elim, ℕ, zero, suc, ◌+◌, ◌≤◌, ◌<◌, List, [], ◌∷◌, ◌++◌, length, refl, ap, ◌∙◌, subst, arith}
use Rattle.std.proofs.lemmas.Bool.Decides.{eqb_tells}
use Rattle.std.specs.List.{AllByRecursion}
use Rattle.model_core.specs.declared.command.Command.{Command}
use Rattle.model_core.specs.declared.command.Command.TheVariants.{Poll, Ephe, Alloc, Load, Store, SetKey, GetKey}
use Rattle.model_core.specs.declared.entry.Entry.{Entry}
use Rattle.model_core.specs.declared.reply.Reply.{Reply}
use Rattle.model_core.specs.declared.reply.Reply.TheVariants as reply
use Rattle.model_core.specs.declared.state.Sizes.{Sizes}
use Rattle.model_core.specs.Domains.{IsWithinLimits}
use Rattle.model_core.specs.History.{IsPrefix, Legal, commands}
use Rattle.table_text.specs.declared.line.TableLine.{TableLine}
use Rattle.table_text.specs.declared.machine.reply.LineReply.{LineReply}
use Rattle.weak_laws.specs.Maps.Calls.{PerformedBy}
use Rattle.weak_laws.proofs.OfMaps.FrontLemmas.{prefix_trans}
use Rattle.weak_maps.specs.Shared.Sharing.{IsShared, OwnGuarded}
use Rattle.weak_maps.proofs.GetLemmas.{grows_by}
use Rattle.weak_maps.proofs.OfShared.CommandLemmas.{seats_share_the_map}
use Rattle.weak_maps.proofs.OfShared.OrderLemmas.{bindings_are_of_one_order}
use Rattle.weak_maps.proofs.OfShared.SharingLemmas.{stretches_add}
use Rattle.table_sections.specs.Lines.{IsSharedLine}
use Rattle.table_sections.specs.Places.{HoldsPlaces, LaysOut, MakesEach, loading, preparation}
use Rattle.table_sections.specs.Sections.{SectionBeside}
use Rattle.table_sections.specs.Prepared.{HasRun, IsPrepared}
use Rattle.table_sections.specs.Together.{SectionStands, SectionsStand, TogetherRuns}
use Rattle.table_sections.specs.declared.laying.Places.{Places}
use Rattle.table_sections.proofs.SectionLemmas.{sections_are_answered, sections_are_guarded}
use Rattle.table_sections.proofs.Beginning.{begins_empty}
use Rattle.table_sections.proofs.LaidSlots.{on_slots, slots_laid}
use Rattle.table_sections.proofs.OrderLemmas.{has_on, section_steps}
use Rattle.table_sections.proofs.Stepping.{OwnSteps, each_steps, sharing_steps, slots_in_order, steps_twice}
use Rattle.table_sections.proofs.Laid.{FirstLaid, behind_base, each_grows, each_more, first_laid, loaded_guarded, one_more, places_kept, reads_guarded}
use Rattle.table_sections.proofs.RegisterLemmas.{poll_keeps}

-- all that the first domain does behind its first `poll`
laid_commands : (z : Sizes) (d : ℕ) (old new : List Entry) (p : Places) → LaysOut z d old new p
    → MakesEach z d old (Ephe 7 8 ∷ Ephe 12 8 ∷ Ephe 13 8 ∷ Store 0 0 7 ∷ Store 0 1 12 ∷ Store 0 2 13 ∷ Alloc 6 0 512 ∷ SetKey 7 7 6 ∷ []) new
laid_commands z d old new p x =
    let a = x.published in
    let b = a.3 in
    let e = b.3 in
    let map : PerformedBy z d e.0 x.base (Alloc 6 0 512) (reply.Block x.labels.3) = subst (λ (h : List Entry). PerformedBy z d h x.base (Alloc 6 0 512) (reply.Block x.labels.3)) e.3 x.map in (
      x.one,
      reply.Block x.labels.0,
      x.first,
      (
        x.two,
        reply.Block x.labels.1,
        x.second,
        (
          x.three,
          reply.Block x.labels.2,
          x.third,
          (a.0, a.1, a.2, (b.0, b.1, b.2, (e.0, e.1, e.2, (x.base, reply.Block x.labels.3, map, x.shared)))),
        ),
      ),
    )

-- what a domain has done once it is prepared, and polled again
prepared_commands : (z : Sizes) (p : Places) (d : ℕ) (ready old : List Entry) (r : Reply) → IsPrepared z p d ready → PerformedBy z d ready old Poll r → commands old d ≡ preparation d
prepared_commands z p zero ready old r x polled =
    let cs : List Command = Poll ∷ Ephe 7 8 ∷ Ephe 12 8 ∷ Ephe 13 8 ∷ Store 0 0 7 ∷ Store 0 1 12 ∷ Store 0 2 13 ∷ Alloc 6 0 512 ∷ SetKey 7 7 6 ∷ [] in
    let each : MakesEach z 0 [] cs ready = (x.begun, reply.Done, x.polled, laid_commands z 0 x.begun ready p x.prepares) in
    one_more z 0 ready old Poll r polled ∙ ap (λ (ds : List Command). ds ++ Poll ∷ []) (each_more z 0 [] cs ready each)
prepared_commands z p (suc d) ready old r x polled =
    let cs : List Command = Poll ∷ Load 7 0 0 ∷ Load 12 0 1 ∷ Load 13 0 2 ∷ GetKey 6 7 7 ∷ [] in
    let each : MakesEach z (suc d) [] cs ready = (x.begun, reply.Done, x.polled, x.prepares.loaded) in
    one_more z (suc d) ready old Poll r polled ∙ ap (λ (ds : List Command). ds ++ Poll ∷ []) (each_more z (suc d) [] cs ready each)

prepared_holds : (z : Sizes) (p : Places) (d : ℕ) (ready : List Entry) → IsPrepared z p d ready → HoldsPlaces z p d ready
prepared_holds z p zero ready x = x.prepares.holds
prepared_holds z p (suc d) ready x = x.prepares.holds

-- the run of a domain, which is over in this history
pub record IsOver (z : Sizes) (p : Places) (h : List Entry) (d : ℕ) (lines : List TableLine) (replies : List LineReply) : Type 0 where
  pub fits : AllByRecursion IsSharedLine lines
  pub new : List Entry
  pub run : HasRun z p d lines replies new
  pub until : IsPrefix new h
  pub last : commands h d ≡ commands new d

abbrev pub AllOver : Sizes → Places → List Entry → ℕ → List (List TableLine) → List (List LineReply) → Type 0
AllOver z p h d [] [] = Unit {0}
AllOver z p h d (ls ∷ lss) (rs ∷ rss) = IsOver z p h d ls rs × AllOver z p h (suc d) lss rss
AllOver z p h d _ _ = ⊥

-- what it did before its section is guarded
abbrev PreparationGuards : Sizes → Places → List Entry → ℕ → Type 0
PreparationGuards z p base d = (ready : List Entry) → IsPrepared z p d ready → OwnGuarded z p.map base d [] ready

other_guards : (z : Sizes) (p : Places) (base : List Entry) (d : ℕ) → PreparationGuards z p base (suc d)
other_guards z p base d ready x =
    stretches_add z p.map (suc d) base [] x.begun ready (each_grows z (suc d) x.begun loading ready x.prepares.loaded)
    (reads_guarded z p.map (suc d) base [] x.begun Poll reply.Done (λ s. refl) x.polled) (loaded_guarded z p.map (suc d) base x.begun ready x.prepares.loaded)

-- and makes steps of the slots
other_steps : (z : Sizes) (p : Places) (base : List Entry) (d : ℕ) (ready : List Entry) → IsPrepared z p (suc d) ready → OwnSteps z p base (suc d) [] ready
other_steps z p base d ready x =
    each_steps z p base (suc d) [] (Poll ∷ loading) ready (((λ s. refl), refl), (((λ s. refl), refl), (((λ s. refl), refl), (((λ s. refl), refl), (((λ s. refl), refl), tt))))) (x.begun, reply.Done, x.polled, x.prepares.loaded)

-- the history, and the first domain's preparation
module _ (z : Sizes) (limits : IsWithinLimits z) (p : Places) (h : List Entry) (ready : List Entry) (laid : FirstLaid z p ready) (ready_h : IsPrefix ready h) where
  abbrev base : List Entry
  base = laid.base

  base_h : IsPrefix base h
  base_h = prefix_trans base ready h laid.grows ready_h

  module _ (d : ℕ) (lines : List TableLine) (replies : List LineReply) (x : IsOver z p h d lines replies) where
    old_h : IsPrefix x.run.old h
    old_h = prefix_trans x.run.old x.new h x.run.done.grows x.until

    holds : HoldsPlaces z p d x.run.old
    holds = places_kept z p d x.run.ready x.run.old (poll_keeps z d x.run.ready x.run.old reply.Done x.run.polled) (prepared_holds z p d x.run.ready x.run.prepared)

    behind : IsPrefix base x.run.old
    behind = behind_base z p.map base h x.run.old d laid.at.made base_h old_h holds.map

    guarded : OwnGuarded z p.map base d [] x.run.ready → OwnGuarded z p.map base d [] x.new
    guarded before =
        stretches_add z p.map d base [] x.run.old x.new x.run.done.grows
        (stretches_add z p.map d base [] x.run.ready x.run.old (grows_by z d x.run.ready x.run.old Poll reply.Done x.run.polled) before
        (reads_guarded z p.map d base x.run.ready x.run.old Poll reply.Done (λ s. refl) x.run.polled))
        (sections_are_guarded z p.map d base x.run.old x.new behind (λ all. holds.map) x.run.done.guards)

    answered : IsShared z p.map base h → SectionBeside z p.map d x.run.old lines replies x.new
    answered shared = sections_are_answered z p.map base h shared d x.run.old x.new lines replies behind x.run.done.grows x.until holds.map x.run.done.runs

    stands : IsShared z p.map base h → SectionStands z p base h d lines replies
    stands shared = record {
      old = x.run.old;
      new = x.new;
      behind = behind;
      grows = x.run.done.grows;
      until = x.until;
      before = prepared_commands z p d x.run.ready x.run.old reply.Done x.run.prepared x.run.polled;
      last = x.last;
      holds = holds;
      slots = on_slots z p d base x.run.old behind laid.slots holds;
      empty = begins_empty z limits p d x.run.ready x.run.old reply.Done x.run.prepared x.run.polled;
      answered = answered shared;
    }

    -- what it did makes steps of the slots, once the map is shared
    stepped : IsShared z p.map base h → OwnSteps z p base d [] x.run.ready → OwnSteps z p base d [] x.new
    stepped shared before =
        steps_twice z p base d [] x.run.old x.new x.run.done.grows
        (steps_twice z p base d [] x.run.ready x.run.old (grows_by z d x.run.ready x.run.old Poll reply.Done x.run.polled) before
        (each_steps z p base d x.run.ready (Poll ∷ []) x.run.old (((λ s. refl), refl), tt) (x.run.old, reply.Done, x.run.polled, refl)))
        (λ front e here since until own.
        section_steps z p p.map d x.run.old x.new lines replies x.fits (has_on z p base x.run.old behind laid.slots) holds (answered shared) front e since until own)

  -- a front behind which a domain makes no command, and of which this is so
  abbrev Seated : (ℕ → List Entry → Type 0) → ℕ → Type 0
  Seated Q d = (front : List Entry) × IsPrefix front h × (commands h d ≡ commands front d) × Q d front

  module _ (Q : ℕ → List Entry → Type 0) (others : (d : ℕ) (lines : List TableLine) (replies : List LineReply) (x : IsOver z p h (suc d) lines replies) → Q (suc d) x.new) where
    -- each domain behind the first
    others_seated : (from : ℕ) (sections : List (List TableLine)) (replies : List (List LineReply)) → AllOver z p h (suc from) sections replies → (d : ℕ) → suc from ≤ d → d < suc from + length sections → Seated Q d
    others_seated from [] [] all d low high = absurd (omega (arith, low, high))
    others_seated from [] (rs ∷ rss) all d low high = absurd all
    others_seated from (ls ∷ lss) [] all d low high = absurd all
    others_seated from (ls ∷ lss) (rs ∷ rss) all d low high =
        ⊎_elim (λ here. subst (Seated Q) here.1 (all.0.new, all.0.until, all.0.last, others from ls rs all.0))
        (λ later. others_seated (suc from) lss rss all.1 d (let other = later.1 in omega (arith, low, other)) (omega (arith, high)))
        (eqb_tells (suc from) d)

    -- and the first
    all_seated : (lines : List TableLine) (replies : List LineReply) (x : IsOver z p h 0 lines replies) → Q 0 x.new → (sections : List (List TableLine)) (more : List (List LineReply)) → AllOver z p h 1 sections more
        → z.domains ≡ suc (length sections) → (d : ℕ) → d < z.domains → Seated Q d
    all_seated lines replies x first sections more all many d below =
        ⊎_elim (λ here. subst (Seated Q) here.1 (x.new, x.until, x.last, first)) (λ later. others_seated 0 sections more all d (let other = later.1 in omega (arith, other)) (omega (arith, below, many))) (eqb_tells 0 d)

  all_stand : IsShared z p.map base h → (from : ℕ) (sections : List (List TableLine)) (replies : List (List LineReply)) → AllOver z p h from sections replies → SectionsStand z p base h from sections replies
  all_stand shared from [] [] all = tt
  all_stand shared from [] (rs ∷ rss) all = absurd all
  all_stand shared from (ls ∷ lss) [] all = absurd all
  all_stand shared from (ls ∷ lss) (rs ∷ rss) all = (stands from ls rs all.0 shared, all_stand shared (suc from) lss rss all.1)

-- so all sections were made on one map
pub run_together : (z : Sizes) → IsWithinLimits z → (p : Places) (h : List Entry) (sections : List (List TableLine)) (replies : List (List LineReply)) → Legal z h → z.domains ≡ length sections → 0 < length sections → AllOver z p h 0 sections replies
    → TogetherRuns z sections replies h
run_together z limits p h [] replies legal domains some all = absurd (omega (arith, some))
run_together z limits p h (ls ∷ lss) [] legal domains some all = absurd all
run_together z limits p h (ls ∷ lss) (rs ∷ rss) legal domains some all =
    let x : IsOver z p h 0 ls rs = all.0 in
    let ready : List Entry = x.run.ready in
    let laid : FirstLaid z p ready = first_laid z limits p x.run.prepared.begun ready x.run.prepared.prepares (slots_laid z limits p 0 x.run.prepared.begun ready x.run.prepared.prepares) in
    let ready_h : IsPrefix ready h = prefix_trans ready x.run.old h (grows_by z 0 ready x.run.old Poll reply.Done x.run.polled) (prefix_trans x.run.old x.new h x.run.done.grows x.until) in
    let seats_guarded = all_seated z limits p h ready laid ready_h (λ d front. OwnGuarded z p.map laid.base d [] front)
    (λ d lines answers y. guarded z limits p h ready laid ready_h (suc d) lines answers y (other_guards z p laid.base d y.run.ready y.run.prepared)) ls rs x (guarded z limits p h ready laid ready_h 0 ls rs x laid.guarded) lss rss all.1 domains in
    let shared : IsShared z p.map laid.base h = seats_share_the_map z p.map laid.base h legal (base_h z limits p h ready laid ready_h) laid.at.map laid.at.placed seats_guarded in
    let seats_step = all_seated z limits p h ready laid ready_h (λ d front. OwnSteps z p laid.base d [] front)
    (λ d lines answers y. stepped z limits p h ready laid ready_h (suc d) lines answers y shared (other_steps z p laid.base d y.run.ready y.run.prepared)) ls rs x
    (stepped z limits p h ready laid ready_h 0 ls rs x shared (sharing_steps z p laid.base 0 ready laid.reply laid.grows laid.slots laid.shares)) lss rss all.1 domains in
    record {
      legal = legal;
      places = p;
      base = laid.base;
      made = laid.at.made;
      laid = laid.slots;
      shared = shared;
      bindings = bindings_are_of_one_order z p.map laid.base h shared;
      keys = slots_in_order z p laid.base h legal laid.slots seats_step;
      stand = all_stand z limits p h ready laid ready_h shared 0 (ls ∷ lss) (rs ∷ rss) all;
    }
