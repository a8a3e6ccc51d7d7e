-- The next key of the ephemeron that a domain cleans is emptied, or its datum, and then the Wipe of the keys stands there.
use Rattle.std.proofs.Common.{◌≡◌, ◌≢◌, ℕ, ◌+◌, ◌||◌, ◌==◌, Bool, false, IsTrue, List, [], ◌∷◌, ◌++◌, length, set, slice_get, Option, Some, None, sym, refl, ap, ◌∙◌, subst, arith, inl, ◌<◌, not, map, suc, add-one}
use Rattle.std.proofs.lemmas.Option.{none-some, same_Some}
use Rattle.std.specs.List.{list_any}
use mathlib.Core.Option.{some}
use lib.ListN.{get_elem?}
use Rattle.atomic_table.specs.Table.{keeps}
use Rattle.model_core.specs.declared.entry.Entry.{Entry}
use Rattle.model_core.specs.declared.entry.Entry.TheVariants.{Wipe}
use Rattle.model_core.specs.declared.label.Label.{Label}
use Rattle.model_core.specs.declared.graph.Value.{Value}
use Rattle.model_core.specs.declared.graph.Value.TheVariants.{Nothing}
use Rattle.model_core.specs.declared.graph.Node.{Node}
use Rattle.model_core.specs.declared.graph.Node.TheVariants.{Ephe}
use Rattle.model_core.specs.declared.state.State as model
use Rattle.model_core.specs.Graph.{Graph, node_at, with_node}
use Rattle.model_core.specs.Entries.{Allowed, is_rising, next, wiped, wiped_keys, with_wiped}
use Rattle.model_core.specs.Fronts.{KeepsDomain}
use Rattle.model_core.proofs.Commands.FrameLemmas.{keeps_next}
use Rattle.model_core.proofs.Graphs.GraphLemmas.{node_at-with_node_other, node_at-with_node_same}
use Rattle.model_core.proofs.Reach.ReachLemmas.{or_right}
use Rattle.model_cycle.specs.Marks.{KeysMarked, Marks}
use Rattle.model_cycle.specs.Cycle as laws
use Rattle.model_cycle.proofs.Cycling.{taking_steps}
use Rattle.model_cycle.proofs.Progressing.{found_end, found_takes}
use Rattle.heap_rule.specs.declared.config.Config.{Config}
use Rattle.heap_rule.specs.declared.phase.Kind.TheVariants.{Clean}
use Rattle.heap_rule.specs.declared.phase.Stage.TheVariants.{In}
use Rattle.heap_rule.specs.declared.view.Cleaning.{Cleaning}
use Rattle.heap_rule.specs.declared.view.DomainView.{DomainView}
use Rattle.heap_rule.specs.declared.view.Scan.TheVariants.{Idle}
use Rattle.heap_rule.specs.Cycles.{Cycling, Facts, cycle_of, seen_by}
use Rattle.heap_rule.specs.Ephemerons.{Cleans, emptied_at, NextIs}
use Rattle.heap_rule.specs.Layout.{before_heap}
use Rattle.heap_rule.specs.Places.{Live, values_of, without_keys}
use Rattle.heap_rule.specs.Raw.{MayStore}
use Rattle.heap_rule.specs.Rule.{Rule, state_of}
use Rattle.heap_rule.specs.Standing.{with_front}
use Rattle.heap_rule.specs.Views.{one}
use Rattle.heap_rule.proofs.FullnessLemmas.{full_stays}
use Rattle.heap_rule.proofs.FinaliserLemmas.{KeepsWork, work_next}
use Rattle.heap_rule.proofs.Keeps.{Words, after_entry, knows_entry, legal_entry, mine, my_good, knows_front}
use Rattle.step_marks.specs.Marking.Looks.{with_share}
use Rattle.step_marks.proofs.OfMarking.Learning.{at_other, at_same, waits, known}
use Rattle.step_ephemerons.proofs.OfLooks.Listings.{one_label, owner_listed, sees_at}
use Rattle.step_ephemerons.specs.Wipes.Wiping.{WipeDataMay, WipeDataTold, wiped_through, WipeKeyMay, WipeKeyTold, key_wiped}
use Rattle.step_ephemerons.proofs.OfWipes.Emptying.{Empties, cleans, collecting, empties, emptied_is, facts}
use Rattle.step_ephemerons.proofs.OfWipes.EmptiedKeys.{at_label, emptied_none, label_else, label_here, values_are, wiped_length, emptied_beside, emptied_there, values_more}
use Rattle.std.proofs.lemmas.List.{length-map}
use Rattle.model_core.specs.Commands.{key_value}
use Rattle.model_cycle.specs.Progress.{KeysFound}
use Rattle.heap_rule.specs.declared.view.NextKey.{NextKey}
use Rattle.heap_rule.specs.declared.view.NextKey.TheVariants.{Dead, Unknown}
use Rattle.heap_rule.proofs.Lists.{got_below}
use Rattle.step_ephemerons.specs.Looks.Emptying.{cleaning_on}
use Rattle.step_ephemerons.proofs.OfLooks.Cleaning.{cleans_on}

-- the next key refers to a block that isn't marked
pub record IsDead (marks : Marks) (keys : List (Option Label)) (done : ℕ) : Type 0 where
  pub label : Label
  pub full : slice_get keys done ≡ Some (Some label)
  pub unmarked : IsTrue (not (marks.marked label))

is_dead : (live : Live) (marks : Marks) (keys : List (Option Label)) (done : ℕ) (n : NextKey) → n ≡ Dead → NextIs live marks keys done n → IsDead marks keys done
is_dead live marks keys done n is h = let t = subst (NextIs live marks keys done) is h in record { label = t.0; full = t.1; unmarked = t.2 }

pub rises : (places : List ℕ) → places ≢ [] → ((p : ℕ) (ps : List ℕ) → places ≡ p ∷ ps → IsTrue (is_rising places)) → IsTrue (is_rising places)
rises [] many each = absurd (many refl)
rises (p ∷ ps) many each = each p ps refl

module _ (k : Config) (s : Words) (r : Rule k s) (id : ℕ) (hist : List Entry) (x : DomainView) (at : get_elem? s.views id ≡ some (one k hist x)) where
  open r.account use {live, tenancy as T, cycling as c, cycling.{paint.{marks as m}}}
  open x use {own.{number as d}, seen.{share as sh}}

  abbrev now : model.State
  now = state_of k r.account.log

  -- the ephemeron that it cleans, and the keys that miss
  module _ (w : Cleaning) (is : sh.cleaning ≡ Some w) where
    in_clean : x.seen.stage ≡ In Clean
    in_clean = ((my_good k s r id hist x at).sharing.looks.cleans w is).stage_is

    abbrev e : Cleans live now.graph m x.seen.stage x.own.ephemerons.items w
    e = cleans k s r id hist x at in_clean w is

    abbrev l : Label
    l = e.place.label

    missing : c.paint.emptied l ≡ w.emptied
    missing = emptied_is k s r id hist x at in_clean w is

    -- its next key is emptied
    module _ (next_is : w.next ≡ Dead) where
      dead : IsDead m e.keys w.done
      dead = is_dead live m e.keys w.done w.next next_is e.next

      abbrev emptied_more : Label → List ℕ
      emptied_more = at_label c.paint.emptied l (w.emptied ++ w.done ∷ [])

      found_more : KeysFound m.marked e.keys (w.done + 1) (w.emptied ++ w.done ∷ [])
      found_more = subst (λ (n : ℕ). KeysFound m.marked e.keys n (w.emptied ++ w.done ∷ [])) (sym (add-one w.done)) (found_takes m.marked e.keys w.done w.emptied e.through dead.label dead.full dead.unmarked)

      cleans_more : (v : Cleaning) → Some (key_wiped w) ≡ Some v → Cleans live now.graph m x.seen.stage x.own.ephemerons.items v
      cleans_more v same = subst (Cleans live now.graph m x.seen.stage x.own.ephemerons.items) (same_Some (key_wiped w) v same) (cleans_on live now.graph m x.seen.stage x.own.ephemerons.items w e (w.done + 1) (w.emptied ++ w.done ∷ []) Unknown found_more tt)

      emptied_key : Empties k s r id hist x at in_clean w is (suc w.done) e.keys e.datum r.account.log emptied_more c.shares.seen x.seen.front (Some (key_wiped w)) sh.places_seen sh.scan
      emptied_key = let f = facts k s r id hist x at in_clean w is in let t = (my_good k s r id hist x at).sharing in record {
        below = let n : ℕ = length e.keys in let i : w.done < n = got_below e.keys w.done (Some dead.label) dead.full in let h : length (map key_value e.keys) ≡ n = length-map e.keys key_value in omega arith;
        there = e.node;
        elsewhere = λ z other. refl;
        same_length = refl;
        values = ap (λ (ks : List ℕ). values_of (without_keys ks (Ephe e.keys e.datum))) (label_here c.paint.emptied l (w.emptied ++ w.done ∷ []))
            ∙ (values_more w.emptied w.done e.keys e.datum ∙ sym (ap (λ (ks : List ℕ). set (values_of (without_keys ks (Ephe e.keys e.datum))) (suc w.done) Nothing) missing));
        emptied_else = λ z other. label_else c.paint.emptied l (w.emptied ++ w.done ∷ []) z other;
        legal = r.whole.legal;
        full = r.whole.full;
        keeps = λ z. record { registers = refl; serial = refl; ended = refl };
        work = λ z. record { finals = refl; lasts = refl; queue = refl };
        facts = (f.0, record { unchanged = f.1.unchanged; unrotated = f.1.unrotated });
        seen_others = λ z other. refl;
        seen_is = t.telling.seen (waits k s r id hist x at (collecting k s r id hist x at in_clean w is));
        walked = λ b seen. seen;
        scans = (known k s r id hist x at).scan;
        at_own = t.looks.at_own;
        cleans_on = cleans_more;
        emptied_here = label_here c.paint.emptied l (w.emptied ++ w.done ∷ []) ∙ sym (emptied_there (key_wiped w));
        emptied_there = λ b other. emptied_beside w (key_wiped w) b refl other ∙ sym (ap (λ (o : Option Cleaning). emptied_at o b) is);
        knows = knows_front k s r id hist x at (with_front (with_share x (cleaning_on (key_wiped w) sh)) x.seen.front) refl (inl refl);
      }

      key_rule : Rule k record { words = set s.words (before_heap k + (w.block + 2 + suc w.done)) 0; homes = s.homes; views = set s.views id (one k hist (with_share x (cleaning_on (key_wiped w) sh))) }
      key_rule = empties k s r id hist x at in_clean w is (suc w.done) e.keys e.datum r.account.log emptied_more c.shares.seen x.seen.front (Some (key_wiped w)) sh.places_seen sh.scan emptied_key

    -- its datum is emptied
    module _ (all : w.done ≡ w.count) (some_missing : w.emptied ≢ []) (label_read : Label) (labelled : w.label ≡ Some label_read) where
      abbrev wipe : Entry
      wipe = Wipe l w.emptied

      abbrev log' : List Entry
      log' = r.account.log ++ wipe ∷ []

      abbrev wiped_node : Node
      wiped_node = Ephe (wiped_keys w.emptied e.keys) Nothing

      f : Facts Clean k now live T c s.words
      f = facts k s r id hist x at in_clean w is

      rising : IsTrue (is_rising w.emptied)
      rising = rises w.emptied some_missing e.through.rising

      others : (p : ℕ) (z : Label) → slice_get e.keys p ≡ Some (Some z) → list_any (λ q. q == p) w.emptied ≡ false → IsTrue (m.marked z)
      others = found_end m.marked e.keys w.done w.emptied e.through (let n : ℕ = length e.keys in let b : n ≡ w.count = e.count_is in let h : w.done ≡ w.count = all in omega arith)

      abbrev cycle : laws.Cycle
      cycle = cycle_of k live T.holder c

      allowed : Allowed now wipe × laws.InPhase laws.Clean k.domains (next now wipe) cycle
      allowed = taking_steps.clean_wipes k.domains now cycle f.0 l w.emptied e.keys e.datum e.node rising e.through.unmarked

      keys_marked : KeysMarked (next now wipe).graph m.marked l
      keys_marked = taking_steps.clean_wiped k.domains now cycle f.0 l w.emptied e.keys e.datum e.node rising e.through.unmarked others

      after : state_of k log' ≡ next now wipe
      after = after_entry k s r id hist x at wipe

      graph_after : (state_of k log').graph ≡ with_node now.graph l wiped_node
      graph_after = ap (λ (z : model.State). z.graph) after ∙ ap (λ (o : Option Node). (with_wiped now l (wiped w.emptied o)).graph) e.node

      there : node_at (state_of k log').graph l ≡ Some wiped_node
      there = ap (λ (g : Graph). node_at g l) graph_after ∙ node_at-with_node_same now.graph l wiped_node (Ephe e.keys e.datum) e.node

      elsewhere : (z : Label) → (l ≡ z → ⊥) → node_at (state_of k log').graph z ≡ node_at now.graph z
      elsewhere z other = ap (λ (g : Graph). node_at g z) graph_after ∙ node_at-with_node_other now.graph l z wiped_node (λ same. other (sym same))

      abbrev emptied' : Label → List ℕ
      emptied' = at_label c.paint.emptied l []

      abbrev seen' : ℕ → ℕ → Bool
      seen' = sees_at k s r id hist x at w.block

      abbrev c' : Cycling
      c' = record c { paint = record c.paint { emptied = emptied' }; shares = record c.shares { seen = seen' } }

      abbrev words' : List ℕ
      words' = set s.words (before_heap k + (w.block + 2 + 0)) 0

      facts_after : Facts Clean k (state_of k log') live T c' words'
      facts_after = subst (λ (z : model.State). Facts Clean k z live T c' words') (sym after) (
        taking_steps.clean_looks k.domains (next now wipe) cycle allowed.1 d w.block (owner_listed k s r id hist x at w.block e.listed)
            (λ z lives _. subst (λ (n : Label). KeysMarked (next now wipe).graph m.marked n) (one_label k s r id hist x at w.block e.place z e.lives lives) keys_marked),
        record { unchanged = f.1.unchanged; unrotated = f.1.unrotated },
      )

      values_wiped : values_of (without_keys (emptied' l) wiped_node) ≡ set (values_of (without_keys (c.paint.emptied l) (Ephe e.keys e.datum))) 0 Nothing
      values_wiped = ap (λ (ks : List ℕ). values_of (without_keys ks wiped_node)) (label_here c.paint.emptied l [])
          ∙ sym (ap (λ (ks : List ℕ). set (values_of (without_keys ks (Ephe e.keys e.datum))) 0 Nothing) missing ∙ ap (λ (vs : List Value). set vs 0 Nothing) (values_are w.emptied e.keys e.datum))

      abbrev y : DomainView
      y = with_front (with_share x (wiped_through w.block sh)) log'

      emptied_datum : Empties k s r id hist x at in_clean w is 0 (wiped_keys w.emptied e.keys) Nothing log' emptied' seen' log' None (w.block ∷ sh.places_seen) Idle
      emptied_datum =
          let t = (my_good k s r id hist x at).sharing in
          let up : c.shares.arrived d ≡ false = waits k s r id hist x at (collecting k s r id hist x at in_clean w is) in record {
            below = omega arith;
            there = there;
            elsewhere = elsewhere;
            same_length = wiped_length w.emptied e.keys;
            values = values_wiped;
            emptied_else = λ z other. label_else c.paint.emptied l [] z other;
            legal = legal_entry k s r id hist x at wipe allowed.0;
            full = full_stays k r.account.log live T.holder T.fresh T.garbage r.account.homes c.kind wipe refl r.whole.full;
            keeps = λ z. subst (λ (v : model.State). KeepsDomain now v z) (sym after) (keeps_next now wipe z refl);
            work = λ z. subst (λ (v : model.State). KeepsWork now v z) (sym after) (work_next now wipe z refl tt);
            facts = facts_after;
            seen_others = λ z other. at_other c.shares.seen d (λ b. b == w.block || c.shares.seen d b) z other;
            seen_is = at_same c.shares.seen d (λ b. b == w.block || c.shares.seen d b) ∙ ap (λ (g : ℕ → Bool). λ (b : ℕ). b == w.block || g b) (t.telling.seen up);
            walked = λ b seen. or_right (b == w.block) (seen_by sh.places_seen b) seen;
            scans = tt;
            at_own = λ b none. absurd (none-some b none);
            cleans_on = λ v none. absurd (none-some v none);
            emptied_here = label_here c.paint.emptied l [];
            emptied_there = λ b other. emptied_none w b other ∙ sym (ap (λ (o : Option Cleaning). emptied_at o b) is);
            knows = knows_entry k s r id hist x at y wipe (λ z _. refl) (λ _. refl) refl refl;
          }

      datum_rule : Rule k record { words = words'; homes = s.homes; views = set s.views id (one k hist y) }
      datum_rule = empties k s r id hist x at in_clean w is 0 (wiped_keys w.emptied e.keys) Nothing log' emptied' seen' log' None (w.block ∷ sh.places_seen) Idle emptied_datum

      datum_told : WipeDataTold k x 0 y
      datum_told = record {
        cleaning = w;
        cleans = is;
        label = label_read;
        labelled = labelled;
        before = r.account.log;
        front = ap (λ (q : Label). r.account.log ++ Wipe q w.emptied ∷ []) (e.label label_read labelled);
        seen = (mine k s r id hist x at).front;
        led = (mine k s r id hist x at).led;
        legal = legal_entry k s r id hist x at wipe allowed.0;
        view = refl;
      }

pub key_may : (k : Config) (x : DomainView) (word a : ℕ) → word ≡ before_heap k + a → WipeKeyMay x a → MayStore k x word 0 WipeKeyTold
key_may k x word a place may fits slots id hist s r _ at _ =
    let w : Cleaning = may.cleaning in
    let y : DomainView = with_share x (cleaning_on (key_wiped w) x.seen.share) in
    let n : ℕ = before_heap k + (w.block + 2 + suc w.done) in
    let is : a ≡ w.block + 3 + w.done = may.word in
    let here : n ≡ word = (let e : word ≡ before_heap k + a = place in omega arith) in (
      one k hist y,
      keeps,
      tt,
      subst (λ (i : ℕ). Rule k record { words = set s.words i 0; homes = s.homes; views = set s.views id (one k hist y) }) here (key_rule k s r id hist x at w may.cleans may.dead),
      (record { cleaning = w; cleans = may.cleans; view = refl }, refl),
    )

pub datum_may : (k : Config) (x : DomainView) (word a : ℕ) → word ≡ before_heap k + a → WipeDataMay x a → MayStore k x word 0 (WipeDataTold k)
datum_may k x word a place may fits slots id hist s r _ at _ =
    let w : Cleaning = may.cleaning in
    let n : ℕ = before_heap k + (w.block + 2 + 0) in
    let is : a ≡ w.block + 2 = may.word in
    let here : n ≡ word = (let e : word ≡ before_heap k + a = place in omega arith) in
    let z : DomainView = y k s r id hist x at w may.cleans may.all may.some may.label may.labelled in
    (one k hist z, keeps, tt, subst (λ (i : ℕ). Rule k record { words = set s.words i 0; homes = s.homes; views = set s.views id (one k hist z) }) here (datum_rule k s r id hist x at w may.cleans may.all may.some may.label may.labelled), (datum_told k s r id hist x at w may.cleans may.all may.some may.label may.labelled, refl))
