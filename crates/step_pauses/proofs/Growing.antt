-- A phase of the marking that asks for another one has marked a block: so it stays where a domain arrives, where a phase begins, and where the next kind is named.
use Rattle.std.proofs.Common.{◌≡◌, ◌≢◌, ℕ, ◌+◌, ◌*◌, ◌<◌, ◌≤◌, ◌⊎◌, Bool, true, false, IsTrue, List, Option, Some, None, inl, inr, ⊎_elim, refl, sym, ap, ◌∙◌, subst, arith}
use Rattle.std.proofs.lemmas.Bool.{false≢true}
use Rattle.model_core.specs.declared.label.Label.{Label}
use Rattle.model_core.specs.declared.state.State as model
use Rattle.model_core.specs.declared.state.Mode.TheVariants.{Sealed}
use Rattle.model_cycle.specs.Ending.{IsGrowing, unmarked_of}
use Rattle.model_cycle.specs.Shares.{Shares}
use Rattle.model_cycle.proofs.Ending.{fewer_unmarked, none_unmarked}
use Rattle.heap_rule.specs.declared.config.Config.{Config}
use Rattle.heap_rule.specs.declared.phase.Kind.{Kind}
use Rattle.heap_rule.specs.declared.phase.Kind.TheVariants.{Run, Promote, Reset, Roots, Mark, Rounds, Decide, Queued, Clean, Lasts, Sweep, Answer}
use Rattle.heap_rule.specs.declared.phase.Stage.{Stage}
use Rattle.heap_rule.specs.declared.phase.Stage.TheVariants.{In, Leads, Led, Gone}
use Rattle.heap_rule.specs.Cycles.{Cycling, EndsCycle, Facts, FreesFor, IsBetween, IsPlain, IsSwept, Grows, IsMarking, IsNamed, Told, owner_at, pool_labels}
use Rattle.heap_rule.specs.Phases.{AtStage, Pause, flag}
use Rattle.heap_rule.specs.Places.{Live}
use Rattle.heap_rule.specs.Pools.{Holder, Tenancy}
use Rattle.heap_rule.proofs.Growing.{few_pooled}
use Rattle.step_pauses.specs.Pauses.{ArrivesFrom, asks_again, unmarked_after}
use Rattle.step_pauses.proofs.Arriving.{arrived_cycle, arrived_in, same_changed}
use Rattle.step_pauses.proofs.BesideRows.{marks_in}
use Rattle.step_pauses.proofs.Naming.{led_cycle}

-- an arrival leaves the changed word and what is owed
arrived_grows : (all : List Label) (before marked : Label → Bool) (st : Stage) (owner : ℕ → Option ℕ) (w : Shares) (d : ℕ) → IsGrowing all before marked w → IsGrowing all before marked (arrived_in st owner w d)
arrived_grows all before marked (In kind) owner w d g = record { stays = g.stays; changed = g.changed; owing = g.owing }
arrived_grows all before marked (Leads kind) owner w d g = g
arrived_grows all before marked (Led kind) owner w d g = g
arrived_grows all before marked (Gone kind) owner w d g = g

module _ (k : Config) (live : Live) (holder : ℕ → Holder) (t : Pause) (c : Cycling) (d arrivals : ℕ) (below : d < k.domains) (told : Told k t c.kind c.shares) (g : Grows k live t c) (arrived' : ℕ → ℕ) (else_is : (j : ℕ) → j ≢ d → arrived' j ≡ t.arrived j) where
  even_named : (i : ℕ) → t.phase ≡ i * 2 → IsNamed t → ⊥
  even_named i even named = let j : ℕ = named.0 in let odd : t.phase ≡ j * 2 + 1 = named.1 in omega arith

  -- the phase goes on. Where domain 0 leaves an odd one the changed word is 0
  module _ (st : Stage) (from : ArrivesFrom d st) (at : AtStage t d arrivals st) (cleared : (kind : Kind) → st ≡ Led kind → IsMarking c.kind → c.shares.changed ≡ false) where
    abbrev c' : Cycling
    c' = arrived_cycle st holder c d

    changed_same : c'.shares.changed ≡ c.shares.changed
    changed_same = same_changed st (owner_at holder) c.shares d

    clears : (s : Stage) → st ≡ s → AtStage t d arrivals s → ArrivesFrom d s → IsMarking c.kind → IsNamed t → (arrived' 0 ≡ t.phase + 1) ⊎ (c.kind ≡ Rounds) → c.shares.changed ≡ false
    clears (In kind) is at from marking named here = absurd (even_named at.1.0 at.1.1 named)
    clears (Leads kind) is at from marking named here = g.cleared marking named (⊎_elim (λ up. inl (sym (else_is 0 (λ e. from (sym e))) ∙ up)) (λ rounds. inr rounds) here)
    clears (Led kind) is at from marking named here = cleared kind is marking
    clears (Gone kind) is at from marking named here = absurd from

    pub grows_arrived : Grows k live (record t { arrived = arrived' }) c'
    grows_arrived = record {
      few = g.few;
      since = λ marking unnamed. arrived_grows (pool_labels k live) c.before c.paint.marks.marked st (owner_at holder) c.shares d (g.since marking unnamed);
      named = g.named;
      cleared = λ marking named here. changed_same ∙ clears st refl at from marking named here;
    }

    -- the next phase begins
    module _ (ups : (j : ℕ) → j < k.domains → arrived' j ≡ t.phase + 1) (led_is : (i : ℕ) → t.phase ≡ i * 2 + 1 → t.led ≡ true) where
      abbrev turned : Pause
      turned = record { arrived = arrived'; phase = t.phase + 1; kinds = t.kinds; led = false }

      unnamed_turned : IsNamed turned → ⊥
      unnamed_turned named = false≢true named.2

      -- an odd phase has ended
      anew : (i : ℕ) → t.phase ≡ i * 2 + 1 → IsMarking c.kind → c.shares.changed ≡ false → IsGrowing (pool_labels k live) c.before c.paint.marks.marked c.shares
      anew i odd marking zero_now = record {
        stays = g.named marking (i, odd, led_is i odd);
        changed = λ is. absurd (false≢true (sym zero_now ∙ is));
        owing = λ e is. absurd (false≢true (sym ((told.led i odd (led_is i odd)).1 e).paid ∙ is));
      }

      all_up : arrived' 0 ≡ t.phase + 1
      all_up = ups 0 (omega (below, arith))

      growing : (s : Stage) → st ≡ s → AtStage t d arrivals s → ArrivesFrom d s → IsMarking c.kind → IsGrowing (pool_labels k live) c.before c.paint.marks.marked c.shares
      growing (In kind) is at from marking = g.since marking (even_named at.1.0 at.1.1)
      growing (Leads kind) is at from marking = anew at.1.0 at.1.1 marking (clears st refl (subst (AtStage t d arrivals) (sym is) at) (subst (ArrivesFrom d) (sym is) from) marking (at.1.0, at.1.1, led_is at.1.0 at.1.1) (inl all_up))
      growing (Led kind) is at from marking = anew at.1.0 at.1.1 marking (cleared kind is marking)
      growing (Gone kind) is at from marking = absurd from

      pub grows_turned : Grows k live turned c'
      grows_turned = record {
        few = g.few;
        since = λ marking _. arrived_grows (pool_labels k live) c.before c.paint.marks.marked st (owner_at holder) c.shares d (growing st refl at from marking);
        named = λ _ named. absurd (unnamed_turned named);
        cleared = λ _ named _. absurd (unnamed_turned named);
      }

-- how many blocks aren't marked is no matter of the facts
abbrev with_unmarked : Cycling → ℕ → Cycling
with_unmarked c n = record c { unmarked = n }

ends_unmarked : (k : Config) (s : model.State) (live : Live) (holder : ℕ → Holder) (c : Cycling) (n : ℕ) → EndsCycle k s live holder c → EndsCycle k s live holder (with_unmarked c n)
ends_unmarked k s live holder c n e = record { facts = e.facts; rotated = e.rotated }

swept_unmarked : (k : Config) (s : model.State) (live : Live) (holder : ℕ → Holder) (c : Cycling) (words : List ℕ) (n : ℕ) → IsSwept k s live holder c words → IsSwept k s live holder (with_unmarked c n) words
swept_unmarked k s live holder c words n f = record { all_marked = f.all_marked; unmarked = f.unmarked; unchanged = f.unchanged; counted = f.counted }

frees_unmarked : (k : Config) (s : model.State) (live : Live) (holder : ℕ → Holder) (c : Cycling) (n : ℕ) → FreesFor k s live holder c → FreesFor k s live holder (with_unmarked c n)
frees_unmarked k s live holder c n f = ⊎_elim (λ (h : (s.mode ≡ Sealed) × EndsCycle k s live holder c × (c.unswept ≡ false)). inl (h.0, ends_unmarked k s live holder c n h.1, h.2)) (λ h. inr h) f

between_unmarked : (k : Config) (s : model.State) (live : Live) (c : Cycling) (n : ℕ) → IsBetween k s live c → IsBetween k s live (with_unmarked c n)
between_unmarked k s live c n b = record { mode = b.mode; unmarked = b.unmarked; beside = b.beside; unchanged = b.unchanged; unrotated = b.unrotated }

plain_unmarked : (c : Cycling) (n : ℕ) → IsPlain c → IsPlain (with_unmarked c n)
plain_unmarked c n p = record { unchanged = p.unchanged; unrotated = p.unrotated }

pub facts_unmarked : (kind : Kind) (k : Config) (s : model.State) (live : Live) (t : Tenancy) (c : Cycling) (words : List ℕ) (n : ℕ) → Facts kind k s live t c words → Facts kind k s live t (with_unmarked c n) words
facts_unmarked Run k s live t c words n f = between_unmarked k s live c n f
facts_unmarked Promote k s live t c words n f = between_unmarked k s live c n f
facts_unmarked Reset k s live t c words n f = between_unmarked k s live c n f
facts_unmarked Roots k s live t c words n f = (f.0, plain_unmarked c n f.1)
facts_unmarked Mark k s live t c words n f = f
facts_unmarked Rounds k s live t c words n f = f
facts_unmarked Decide k s live t c words n f = (f.0, plain_unmarked c n f.1)
facts_unmarked Queued k s live t c words n f = f
facts_unmarked Clean k s live t c words n f = (f.0, plain_unmarked c n f.1)
facts_unmarked Lasts k s live t c words n f = record { facts = f.facts; unchanged = f.unchanged; stays = f.stays; turned = λ is. let r = f.turned is in record { all_marked = r.all_marked; unmarked = r.unmarked; gone = r.gone } }
facts_unmarked Sweep k s live t c words n f = record { since = frees_unmarked k s live t.holder c n f.since; swept = swept_unmarked k s live t.holder c words n f.swept; clear = f.clear; all_counted = f.all_counted }
facts_unmarked Answer k s live t c words n f = record { mode = f.mode; whole = f.whole; ends = ends_unmarked k s live t.holder c n f.ends; swept = swept_unmarked k s live t.holder c words n f.swept; clean = f.clean; all_counted = f.all_counted; held = f.held }

-- a word that asks for another phase is 1
asks_flag : (b : Bool) (v : ℕ) → v ≡ flag b → (b ≡ true) × (asks_again (Some v) ≡ 1) ⊎ (asks_again (Some v) ≡ 0)
asks_flag true v is = inl (refl, ap (λ (n : ℕ). asks_again (Some n)) is)
asks_flag false v is = inr (ap (λ (n : ℕ). asks_again (Some n)) is)

-- the next kind is named
module _ (k : Config) (live : Live) (t : Pause) (c : Cycling) (g : Grows k live t c) (unnamed : IsNamed t → ⊥) (changed : Option ℕ) (unmarked : ℕ) (knows : (v : ℕ) → changed ≡ Some v → v ≡ flag c.shares.changed) (same : c.unmarked ≡ unmarked) where
  abbrev left : ℕ
  left = unmarked_of (pool_labels k live) c.paint.marks.marked

  -- behind a phase of the marking at most so many are left
  fewer : IsMarking c.kind → left + asks_again changed ≤ unmarked
  fewer marking = go changed refl
    where
      grown : IsGrowing (pool_labels k live) c.before c.paint.marks.marked c.shares
      grown = g.since marking unnamed

      was : unmarked_of (pool_labels k live) c.before ≤ unmarked
      was = subst (λ (n : ℕ). unmarked_of (pool_labels k live) c.before ≤ n) same (g.few marking)

      no_more : left ≤ unmarked
      no_more = let h = none_unmarked (pool_labels k live) c.before c.paint.marks c.shares grown in omega (h, was, arith)

      go : (o : Option ℕ) → changed ≡ o → left + asks_again o ≤ unmarked
      go None is = omega (no_more, arith)
      go (Some v) is = ⊎_elim
          (λ (asks : (c.shares.changed ≡ true) × (asks_again (Some v) ≡ 1)). let h = fewer_unmarked (pool_labels k live) c.before c.paint.marks c.shares grown asks.0 in let a : ℕ = asks_again (Some v) in let one : a ≡ 1 = asks.1 in let z : left + a ≤ unmarked = omega (h, was, one, arith) in z)
          (λ (not : asks_again (Some v) ≡ 0). let a : ℕ = asks_again (Some v) in let none : a ≡ 0 = not in let z : left + a ≤ unmarked = omega (no_more, none, arith) in z)
          (asks_flag c.shares.changed v (knows v is))

  pub grown_by : IsMarking c.kind → asks_again changed ≤ unmarked
  grown_by marking = let h = fewer marking in omega (h, arith)

  -- and behind another, as many as there are places
  pub led_few : (last next : Kind) (s : model.State) → c.kind ≡ last → unmarked_of (pool_labels k live) (marks_in k live last next s c.paint.marks).marked ≤ unmarked_after k last changed unmarked
  led_few Mark next s is = let h = fewer (subst IsMarking (sym is) tt) in omega (h, arith)
  led_few Rounds next s is = let h = fewer (subst IsMarking (sym is) tt) in omega (h, arith)
  led_few Run next s is = few_pooled k live (marks_in k live Run next s c.paint.marks).marked
  led_few Promote next s is = few_pooled k live (marks_in k live Promote next s c.paint.marks).marked
  led_few Reset next s is = few_pooled k live (marks_in k live Reset next s c.paint.marks).marked
  led_few Roots next s is = few_pooled k live (marks_in k live Roots next s c.paint.marks).marked
  led_few Decide next s is = few_pooled k live (marks_in k live Decide next s c.paint.marks).marked
  led_few Queued next s is = few_pooled k live (marks_in k live Queued next s c.paint.marks).marked
  led_few Clean next s is = few_pooled k live (marks_in k live Clean next s c.paint.marks).marked
  led_few Lasts next s is = few_pooled k live (marks_in k live Lasts next s c.paint.marks).marked
  led_few Sweep next s is = few_pooled k live (marks_in k live Sweep next s c.paint.marks).marked
  led_few Answer next s is = few_pooled k live (marks_in k live Answer next s c.paint.marks).marked

  -- what was marked as a phase of the marking begins is what is marked as it is named
  module _ (last next : Kind) (s : model.State) (is : c.kind ≡ last) (j : ℕ) (odd : t.phase ≡ j * 2 + 1) (stands : t.arrived 0 ≡ t.phase) (quiet : next ≡ Rounds → c.shares.changed ≡ false) (kinds' : ℕ → Kind) where
    abbrev named_cycle : Cycling
    named_cycle = record (led_cycle k live last next s c) { unmarked = unmarked_after k last changed unmarked }

    abbrev named_pause : Pause
    named_pause = record t { kinds = kinds'; led = true }

    marking_led : (kind : Kind) → next ≡ kind → IsMarking kind → (unmarked_of (pool_labels k live) named_cycle.before ≤ named_cycle.unmarked) × ((l : Label) → IsTrue (named_cycle.before l) → IsTrue (named_cycle.paint.marks.marked l))
    marking_led Mark e marking = subst (λ (n : Kind). (unmarked_of (pool_labels k live) (led_cycle k live last n s c).before ≤ unmarked_after k last changed unmarked) × ((l : Label) → IsTrue ((led_cycle k live last n s c).before l) → IsTrue ((led_cycle k live last n s c).paint.marks.marked l))) (sym e) (led_few last Mark s is, λ l m. m)
    marking_led Rounds e marking = subst (λ (n : Kind). (unmarked_of (pool_labels k live) (led_cycle k live last n s c).before ≤ unmarked_after k last changed unmarked) × ((l : Label) → IsTrue ((led_cycle k live last n s c).before l) → IsTrue ((led_cycle k live last n s c).paint.marks.marked l))) (sym e) (led_few last Rounds s is, λ l m. m)
    marking_led Run e marking = absurd marking
    marking_led Promote e marking = absurd marking
    marking_led Reset e marking = absurd marking
    marking_led Roots e marking = absurd marking
    marking_led Decide e marking = absurd marking
    marking_led Queued e marking = absurd marking
    marking_led Clean e marking = absurd marking
    marking_led Lasts e marking = absurd marking
    marking_led Sweep e marking = absurd marking
    marking_led Answer e marking = absurd marking

    pub grows_led : Grows k live named_pause named_cycle
    grows_led = record {
      few = λ marking. (marking_led next refl marking).0;
      since = λ _ unnamed. absurd (unnamed (j, odd, refl));
      named = λ marking _. (marking_led next refl marking).1;
      cleared = λ _ _ here. ⊎_elim (λ (up : t.arrived 0 ≡ t.phase + 1). absurd (let a : ℕ = t.arrived 0 in let p : ℕ = t.phase in let u : a ≡ p + 1 = up in let v : a ≡ p = stands in omega arith)) quiet here;
    }
