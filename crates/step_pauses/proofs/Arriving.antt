-- A collection of the major heap where a domain arrives.
use Rattle.std.proofs.Common.{◌≡◌, ◌≢◌, ℕ, ◌+◌, ◌*◌, ◌<◌, ◌≤◌, ◌⊎◌, Bool, true, false, true≢false, IsTrue, List, [], sym, refl, ap, ◌∙◌, subst, inl, inr, ⊎_elim, arith, ◌==◌, Option, Some, None}
use mathlib.Core.Logic.{dite}
use native.Mathlib.Decide.{ℕ_discrete}
use Rattle.model_core.specs.declared.state.State as model
use Rattle.heap_words.specs.declared.colours.Colours.{Colours}
use Rattle.model_cycle.specs.Shares.{Shares, at_domain, arrives}
use Rattle.model_cycle.specs.Beside.{Snapshot}
use Rattle.model_cycle.specs.Marks.{Marks}
use Rattle.model_cycle.proofs.Sharing.{at_same, at_cases}
use Rattle.heap_rule.specs.Beside.{Underway, is_weak}
use Rattle.std.proofs.lemmas.Option.{none-some}
use Rattle.heap_rule.proofs.Growing.{grows_none, no_marking}
use Rattle.heap_rule.proofs.Lots.{place_cases}
use Rattle.heap_rule.proofs.Garbage.{KeepsGarbage}
use Rattle.heap_rule.specs.Sweeping.{Sweeps, SweepsIn, nothing_swept}
use Rattle.heap_rule.specs.declared.view.Reaping.TheVariants.{Outside}
use Rattle.heap_rule.proofs.BesideLemmas.{endures_words, runs_on, runs_unaware, unaware_of}
use Rattle.heap_rule.proofs.Drops.{dropped, kept_low, was_low}
use Rattle.heap_rule.proofs.PauseFacts.{agree}
use Rattle.heap_rule.specs.declared.config.Config.{Config}
use Rattle.heap_rule.specs.declared.phase.Kind.{Kind}
use Rattle.heap_rule.specs.declared.phase.Kind.TheVariants.{Run, Promote, Reset, Roots, Mark, Rounds, Decide, Queued, Clean, Lasts, Sweep, Answer}
use Rattle.heap_rule.specs.declared.phase.Stage.{Stage}
use Rattle.heap_rule.specs.declared.phase.Stage.TheVariants.{In, Leads, Led, Gone}
use Rattle.heap_rule.specs.declared.view.DomainView.{DomainView}
use Rattle.heap_rule.specs.declared.view.Share.{Share}
use Rattle.heap_rule.specs.declared.view.Cleaning.{Cleaning}
use Rattle.heap_rule.specs.Ephemerons.{emptied_at}
use Rattle.heap_rule.proofs.EphemeronLemmas.{looks_idle, none_misses}
use Rattle.heap_rule.proofs.FinaliserLemmas.{deciding_none, deciding_gone}
use Rattle.heap_rule.specs.Deciding.{Deciding}
use Rattle.heap_rule.specs.declared.view.Finalisers.{Finalisers}
use Rattle.model_core.specs.declared.label.Label.{Label}
use Rattle.heap_rule.specs.Cycles.{Grows, AllWhole, MissesKeys, Cycling, Cycled, Facts, ArrivedAs, Told, Telling, Leading, IsCollecting, IsIdle, Adds, HasNoCycle, Knowing, owner_at}
use Rattle.heap_rule.specs.Layout.{at_address}
use Rattle.heap_rule.specs.Phases.{Agree, Pause, AtStage, flag}
use Rattle.heap_rule.specs.Places.{Place, Live}
use Rattle.heap_rule.specs.Pools.{OwnPlace, Stock, Tenancy, Holder, owned}
use Rattle.heap_rule.specs.Rule.{Account, Good, Sharing, state_of}
use Rattle.heap_rule.specs.Views.{voided}
use Rattle.heap_rule.proofs.Sharings.{SameCycle, facts_between, between_facts, facts_words, leading_words, idle_beside, adds_nothing, cycle_between, knows_words}
use Rattle.step_pauses.specs.Pauses.{ArrivesFrom}

-- a function with another value at one domain is as it was elsewhere
at_other : {A : Type 0} → (f : ℕ → A) (d : ℕ) (v : A) (k : ℕ) → k ≢ d → at_domain f d v k ≡ f k
at_other f d v k other = ⊎_elim (λ h. absurd (other h.0)) (λ h. h.1) (at_cases f d v k)

-- whether a place is the domain's
abbrev pub is_owner : Option ℕ → ℕ → Bool
is_owner None d = false
is_owner (Some e) d = e == d

-- a domain that had to look at ephemerons alone has then been at each own place
abbrev pub looks_at : Kind → (ℕ → Option ℕ) → (ℕ → ℕ → Bool) → ℕ → ℕ → ℕ → Bool
looks_at Rounds owner seen d = at_domain seen d (λ a. is_owner (owner a) d)
looks_at Clean owner seen d = at_domain seen d (λ a. is_owner (owner a) d)
looks_at _ owner seen d = seen

-- who arrives in an even phase has done its share of it. In an odd one that changes nothing
abbrev pub arrived_in : Stage → (ℕ → Option ℕ) → Shares → ℕ → Shares
arrived_in (In kind) owner w d = arrives (record w { seen = looks_at kind owner w.seen d }) d
arrived_in _ owner w d = w

-- the collection then
abbrev pub arrived_cycle : Stage → (ℕ → Holder) → Cycling → ℕ → Cycling
arrived_cycle st holder c d = record c { shares = arrived_in st (owner_at holder) c.shares d }

looks_else : (kind : Kind) (owner : ℕ → Option ℕ) (seen : ℕ → ℕ → Bool) (d z : ℕ) → z ≢ d → looks_at kind owner seen d z ≡ seen z
looks_else Rounds owner seen d z other = at_other seen d (λ a. is_owner (owner a) d) z other
looks_else Clean owner seen d z other = at_other seen d (λ a. is_owner (owner a) d) z other
looks_else _ owner seen d z other = refl

pub same_changed : (st : Stage) (owner : ℕ → Option ℕ) (w : Shares) (d : ℕ) → (arrived_in st owner w d).changed ≡ w.changed
same_changed (In kind) owner w d = refl
same_changed (Leads kind) owner w d = refl
same_changed (Led kind) owner w d = refl
same_changed (Gone kind) owner w d = refl

pub either_bool : (b : Bool) → (b ≡ true) ⊎ (b ≡ false)
either_bool true = inl refl
either_bool false = inr refl

clash : (b : Bool) → b ≡ true → b ≡ false → ⊥
clash b e f = true≢false (sym e ∙ f)

-- others tell as before
pub telling_else : (st : Stage) (owner : ℕ → Option ℕ) (means : Colours) (w : Shares) (d z : ℕ) (share : Share) → z ≢ d → Telling means w z share → Telling means (arrived_in st owner w d) z share
telling_else (In kind) owner means w d z share other t = let same = at_other w.arrived d true z other in record { owes = λ e. t.owes (sym same ∙ e); seen = λ e. looks_else kind owner w.seen d z other ∙ t.seen (sym same ∙ e); fresh = λ e. t.fresh (sym same ∙ e); forgotten = λ e. t.forgotten (sym same ∙ e); colours = t.colours }
telling_else (Leads kind) owner means w d z share other t = t
telling_else (Led kind) owner means w d z share other t = t
telling_else (Gone kind) owner means w d z share other t = t

deciding_else : (st : Stage) (owner : ℕ → Option ℕ) (live : Live) (c : Cycling) (d z : ℕ) (fs : Finalisers) (share : Share) → z ≢ d → Deciding live c.kind c.left c.shares.arrived c.paint.marks.marked z fs share.kept share.waiting
    → Deciding live c.kind c.left (arrived_in st owner c.shares d).arrived c.paint.marks.marked z fs share.kept share.waiting
deciding_else (In kind) owner live c d z fs share other h = let same = at_other c.shares.arrived d true z other in record { finals = λ e f. h.finals e (sym same ∙ f); lasts = λ e f. h.lasts e (sym same ∙ f); rooted = λ e f. h.rooted e (sym same ∙ f) }
deciding_else (Leads kind) owner live c d z fs share other h = h
deciding_else (Led kind) owner live c d z fs share other h = h
deciding_else (Gone kind) owner live c d z fs share other h = h

adds_else : (st : Stage) (holder : ℕ → Holder) (live : Live) (c : Cycling) (d z : ℕ) (share : Share) → z ≢ d → Adds live c z share → Adds live (arrived_cycle st holder c d) z share
adds_else (In kind) holder live c d z share other a = let same = at_other c.shares.arrived d true z other in record { blocks = λ e f. a.blocks e (sym same ∙ f); words = λ e f. a.words e (sym same ∙ f); own = λ e f. a.own e (sym same ∙ f) }
adds_else (Leads kind) holder live c d z share other a = a
adds_else (Led kind) holder live c d z share other a = a
adds_else (Gone kind) holder live c d z share other a = a

-- whoever else has arrived had before
arrived_else : (st : Stage) (owner : ℕ → Option ℕ) (w : Shares) (d z : ℕ) → z ≢ d → (arrived_in st owner w d).arrived z ≡ true → w.arrived z ≡ true
arrived_else (In kind) owner w d z other up = sym (at_other w.arrived d true z other) ∙ up
arrived_else (Leads kind) owner w d z other up = up
arrived_else (Led kind) owner w d z other up = up
arrived_else (Gone kind) owner w d z other up = up

-- so it knows of garbage what it knew
pub sweeps_else : (st : Stage) (t : Tenancy) (c : Cycling) (d : ℕ) (z : DomainView) → z.own.number ≢ d → SweepsIn t c z → SweepsIn t (arrived_cycle st t.holder c d) z
sweeps_else st t c d z other h = record { listed = h.listed; places = h.places; anew = λ lasts up. h.anew lasts (arrived_else st (owner_at t.holder) c.shares d z.own.number other up); reaps = h.reaps; below = h.below }

-- and so does who arrives. In Lasts it is to sweep everything
arrived_own : (st : Stage) (owner : ℕ → Option ℕ) (w : Shares) (d : ℕ) → (arrived_in st owner w d).arrived d ≡ true → (w.arrived d ≡ true) ⊎ ((kind : Kind) × (st ≡ In kind))
arrived_own (In kind) owner w d up = inr (kind, refl)
arrived_own (Leads kind) owner w d up = inl up
arrived_own (Led kind) owner w d up = inl up
arrived_own (Gone kind) owner w d up = inl up

pub sweeps_gone : (t : Tenancy) (c : Cycling) (x : DomainView) → ((kind : Kind) → x.seen.stage ≡ In kind → c.kind ≡ kind) → (x.seen.stage ≡ In Lasts → x.own.swept ≡ nothing_swept x.own.swept.top) → SweepsIn t c x
    → Sweeps t.holder t.garbage c.kind (arrived_in x.seen.stage (owner_at t.holder) c.shares x.own.number).arrived x.own.number x.own.ephemerons.items x.own.swept Outside
sweeps_gone t c x now anew h = record {
  listed = h.listed;
  places = h.places;
  anew = λ lasts up. ⊎_elim
      (λ (gone : c.shares.arrived x.own.number ≡ true). h.anew lasts gone)
      (λ (here : (kind : Kind) × (x.seen.stage ≡ In kind)). anew (here.1 ∙ ap In (sym (now here.0 here.1) ∙ lasts)))
      (arrived_own x.seen.stage (owner_at t.holder) c.shares x.own.number up);
  reaps = tt;
  below = h.below;
}

leading_gone : (st : Stage) (holder : ℕ → Holder) (c : Cycling) (words : List ℕ) (d z : ℕ) (stage : Stage) (share : Share) → Leading c words z stage share → Leading (arrived_cycle st holder c d) words z stage share
leading_gone (In kind) holder c words d z stage share l = record { changed = l.changed; found_blocks = l.found_blocks; found_words = l.found_words; rotated = l.rotated; turned = l.turned; pass = l.pass; whole = l.whole; armed = l.armed; unswept = l.unswept; under_way = l.under_way; unmarked = l.unmarked }
leading_gone (Leads kind) holder c words d z stage share l = l
leading_gone (Led kind) holder c words d z stage share l = l
leading_gone (Gone kind) holder c words d z stage share l = l

module _ (k : Config) (t : Pause) (kind : Kind) (owner : ℕ → Option ℕ) (means : Colours) (w : Shares) (d arrivals : ℕ) (told : Told k t kind w) (below : d < k.domains) where
  -- in an odd phase the domain has either arrived in the one before, or has done nothing in the next
  odd_telling : (share : Share) (j : ℕ) → t.phase ≡ j * 2 + 1 → Telling means w d (voided share)
  odd_telling share j odd = ⊎_elim
      (λ (e : t.led ≡ true). let start = (told.led j odd e).1 d in record { owes = λ _. record { owes = start.paid; follows = λ a is. subst (λ (f : ℕ → Bool). IsTrue (f a)) start.settled is }; seen = λ _. start.blind; fresh = λ _. refl; forgotten = λ _ _. refl; colours = λ c f. cc })
      (λ (e : t.led ≡ false). let gone : w.arrived d ≡ true = (told.odd j odd e).1 d below in record { owes = λ f. absurd (clash (w.arrived d) gone f); seen = λ f. absurd (clash (w.arrived d) gone f); fresh = λ _. refl; forgotten = λ _ _. refl; colours = λ c f. cc })
      (either_bool t.led)

  pub telling_gone : (share : Share) (st : Stage) → ArrivesFrom d st → AtStage t d arrivals st → Telling means (arrived_in st owner w d) d (voided share)
  telling_gone share (In kd) from at = let gone : (arrives w d).arrived d ≡ true = at_same w.arrived d true in record { owes = λ f. absurd (clash ((arrives w d).arrived d) gone f); seen = λ f. absurd (clash ((arrives w d).arrived d) gone f); fresh = λ _. refl; forgotten = λ _ _. refl; colours = λ c f. cc }
  telling_gone share (Leads kd) from at = odd_telling share at.1.0 at.1.1
  telling_gone share (Led kd) from at = odd_telling share at.1.0 at.1.1
  telling_gone share (Gone kd) from at = absurd from

  module _ (arrived' : ℕ → ℕ) (up : arrived' d ≡ t.phase + 1) (else_is : (j : ℕ) → j ≢ d → arrived' j ≡ t.arrived j) where
    even_not_odd : (i j : ℕ) → t.phase ≡ i * 2 → t.phase ≡ j * 2 + 1 → ⊥
    even_not_odd i j e f = omega arith

    even_part : (kd : Kind) (j : ℕ) → t.phase ≡ j * 2 → (i : ℕ) → i < k.domains → ArrivedAs (record t { arrived = arrived' }) (arrived_in (In kd) owner w d) i
    even_part kd j e i inside = dite (ℕ_discrete i d)
        (λ same. record {
          waits = λ f. absurd (let u : arrived' d ≡ t.phase + 1 = up in let v : arrived' d ≡ t.phase = ap arrived' (sym same) ∙ f in omega arith);
          gone = λ f. ap (arrives w d).arrived same ∙ at_same w.arrived d true;
        })
        (λ other. let o = (told.even j e).1 i inside in let keeps = at_other w.arrived d true i other in record {
          waits = λ f. keeps ∙ o.waits (sym (else_is i other) ∙ f);
          gone = λ f. keeps ∙ o.gone (sym (else_is i other) ∙ f);
        })

    -- the phase goes on
    pub told_arrived : (st : Stage) → ArrivesFrom d st → AtStage t d arrivals st → Told k (record t { arrived = arrived' }) kind (arrived_in st owner w d)
    told_arrived (In kd) from at = record {
      even = λ j e. ((told.even j e).0, even_part kd j e);
      odd = λ j e f. absurd (even_not_odd at.1.0 j at.1.1 e);
      led = λ j e f. absurd (even_not_odd at.1.0 j at.1.1 e);
    }
    told_arrived (Leads kd) from at = record { even = λ j e. absurd (even_not_odd j at.1.0 e at.1.1); odd = told.odd; led = told.led }
    told_arrived (Led kd) from at = record { even = λ j e. absurd (even_not_odd j at.1.0 e at.1.1); odd = told.odd; led = told.led }
    told_arrived (Gone kd) from at = absurd from

    -- the next phase begins
    module _ (ups : (j : ℕ) → j < k.domains → arrived' j ≡ t.phase + 1) (named : (i : ℕ) → t.phase ≡ i * 2 + 1 → t.led ≡ true) where
      abbrev next_phase : Pause
      next_phase = record { arrived = arrived'; phase = t.phase + 1; kinds = t.kinds; led = false }

      odd_turned : (i : ℕ) → t.phase ≡ i * 2 + 1 → Told k next_phase kind w
      odd_turned i odd = let o = told.led i odd (named i odd) in record {
        even = λ j e.
            let same : i + 1 ≡ j = (let f : t.phase + 1 ≡ j * 2 = e in omega arith) in (
              ap t.kinds (sym same) ∙ o.0,
              λ n inside. record { waits = λ f. (o.1 n).waits; gone = λ f. absurd (let u : arrived' n ≡ t.phase + 1 = ups n inside in let v : arrived' n ≡ t.phase + 1 + 1 = f in omega arith) },
            );
        odd = λ j e f. absurd (let g : t.phase + 1 ≡ j * 2 + 1 = e in omega arith);
        led = λ j e f. absurd (true≢false (sym f));
      }

      pub told_turned : (st : Stage) → ArrivesFrom d st → AtStage t d arrivals st → Told k next_phase kind (arrived_in st owner w d)
      told_turned (In kd) from at = record {
        even = λ j e. absurd (let i : ℕ = at.1.0 in let h : t.phase ≡ i * 2 = at.1.1 in let g : t.phase + 1 ≡ j * 2 = e in omega arith);
        odd = λ j e f.
            let half : t.phase ≡ j * 2 = (let g : t.phase + 1 ≡ j * 2 + 1 = e in omega arith) in (
              (told.even j half).0,
              λ n inside. dite (ℕ_discrete n d)
                  (λ same. ap (arrives w d).arrived same ∙ at_same w.arrived d true)
                  (λ other. at_other w.arrived d true n other ∙ ((told.even j half).1 n inside).gone (sym (else_is n other) ∙ ups n inside)),
            );
        led = λ j e f. absurd (true≢false (sym f));
      }
      told_turned (Leads kd) from at = odd_turned at.1.0 at.1.1
      told_turned (Led kd) from at = odd_turned at.1.0 at.1.1
      told_turned (Gone kd) from at = absurd from

-- in an even phase the facts of its kind hold
pub kind_acts : (k : Config) (t : Pause) (kind : Kind) (w : Shares) (d arrivals : ℕ) (kd : Kind) → AtStage t d arrivals (In kd) → Told k t kind w → kind ≡ kd
kind_acts k t kind w d arrivals kd at told = sym (told.even at.1.0 at.1.1).0 ∙ at.1.2

-- what a domain has used of the pools is no matter of a collection
facts_stock : (kind : Kind) (k : Config) (s : model.State) (live : Live) (t : Tenancy) (stock : Stock) (c : Cycling) (words : List ℕ) → Facts kind k s live t c words → Facts kind k s live (record t { stock = stock }) c words
facts_stock Run k s live t stock c words f = f
facts_stock Promote k s live t stock c words f = f
facts_stock Reset k s live t stock c words f = f
facts_stock Roots k s live t stock c words f = f
facts_stock Mark k s live t stock c words f = f
facts_stock Rounds k s live t stock c words f = f
facts_stock Decide k s live t stock c words f = f
facts_stock Queued k s live t stock c words f = f
facts_stock Clean k s live t stock c words f = f
facts_stock Lasts k s live t stock c words f = record { facts = f.facts; unchanged = f.unchanged; stays = f.stays; turned = λ is. let r = f.turned is in record { all_marked = r.all_marked; unmarked = r.unmarked; gone = r.gone } }
facts_stock Sweep k s live t stock c words f = record { since = f.since; swept = f.swept; clear = f.clear; all_counted = f.all_counted }
facts_stock Answer k s live t stock c words f = record { mode = f.mode; whole = f.whole; ends = f.ends; swept = f.swept; clean = f.clean; all_counted = f.all_counted; held = f.held }

-- all that the rule says of the collection holds where the facts do
pub cycle_gone : (st : Stage) (holder : ℕ → Holder) (k : Config) (s : model.State) (live : Live) (p p' : Pause) (t : Tenancy) (stock : Stock) (c : Cycling) (words words' : List ℕ) (d : ℕ) → SameCycle words words' → ((a : ℕ) → at_address k words' a ≡ at_address k words a)
    → Facts c.kind k s live t (arrived_cycle st holder c d) words → Told k p' c.kind (arrived_in st (owner_at holder) c.shares d) → AllWhole live t.holder (arrived_cycle st holder c d) → Grows k live p' (arrived_cycle st holder c d) → Cycled k s live p t c words → Cycled k s live p' (record t { stock = stock }) (arrived_cycle st holder c d) words'
cycle_gone st holder k s live p p' t stock c words words' d same heap facts told whole grows y = let c' : Cycling = arrived_cycle st holder c d in record {
  armed_is = same.armed_same ∙ y.armed_is;
  meanings = y.meanings;
  colours_are = same.colours_same ∙ y.colours_are;
  changed_is = same.changed_same ∙ (y.changed_is ∙ ap flag (sym (same_changed st (owner_at holder) c.shares d)));
  facts = facts_words c.kind k s live (record t { stock = stock }) c' words words' same (facts_stock c.kind k s live t stock c' words facts);
  told = told;
  leaves = record { none = y.leaves.none; dead = y.leaves.dead; head = λ a is. let h = y.leaves.head a is in (h.0, h.1, heap a ∙ h.2); unprepared = y.leaves.unprepared; owned = y.leaves.owned };
  unswept = y.unswept;
  whole = whole;
  grows = grows;
}

-- no block misses keys for good: whoever has arrived has emptied what it looked at
pub whole_gone : (st : Stage) (holder : ℕ → Holder) (live : Live) (c : Cycling) (d : ℕ) → ((a : ℕ) (p : Place) → OwnPlace holder a d → live a ≡ Some p → c.paint.emptied p.label ≡ []) → AllWhole live holder c → AllWhole live holder (arrived_cycle st holder c d)
whole_gone (In kind) holder live c d none whole l = ⊎_elim (λ (h : c.paint.emptied l ≡ []). inl h)
    (λ (m : MissesKeys live holder c l). dite (ℕ_discrete m.domain d)
    (λ same. inl (sym (ap c.paint.emptied m.label) ∙ none m.address m.place (subst (OwnPlace holder m.address) same m.own) m.lives))
    (λ other. inr (record { clean = m.clean; domain = m.domain; waits = at_other c.shares.arrived d true m.domain other ∙ m.waits; address = m.address; own = m.own; place = m.place; lives = m.lives; label = m.label })))
    (whole l)
whole_gone (Leads kind) holder live c d none whole l = whole l
whole_gone (Led kind) holder live c d none whole l = whole l
whole_gone (Gone kind) holder live c d none whole l = whole l

-- where all have arrived no block misses keys
pub whole_all : (live : Live) (holder : ℕ → Holder) (c : Cycling) → ((q d class : ℕ) → holder q ≡ owned d class → c.shares.arrived d ≡ true) → AllWhole live holder c → (l : Label) → c.paint.emptied l ≡ []
whole_all live holder c gone whole l = ⊎_elim (λ (h : c.paint.emptied l ≡ []). h)
    (λ (m : MissesKeys live holder c l). absurd (clash (c.shares.arrived m.domain) (gone m.own.pool m.domain m.own.class m.own.owned_is) m.waits))
    (whole l)

-- who arrives empties the keys of no ephemeron, so that no block of its pools misses keys
module _ (k : Config) (all : Account) (words : List ℕ) (x : DomainView) (cleaned : x.seen.stage ≡ In Clean → x.seen.share.cleaning ≡ None) (g : Good k all words x) where
  none_cleaned : x.seen.share.cleaning ≡ None
  none_cleaned = go x.seen.share.cleaning refl
    where
      go : (o : Option Cleaning) → x.seen.share.cleaning ≡ o → x.seen.share.cleaning ≡ None
      go None e = e
      go (Some w) e = cleaned (g.sharing.looks.cleans w e).stage_is

  pub own_whole : (a : ℕ) (p : Place) → OwnPlace all.tenancy.holder a x.own.number → all.live a ≡ Some p → all.cycling.paint.emptied p.label ≡ []
  own_whole a p own lives = g.sharing.looks.emptied_is a p own lives ∙ ap (λ (o : Option Cleaning). emptied_at o a) none_cleaned

-- in an odd phase nobody is at a block
idle_odd : (st : Stage) (share : Share) (Known : Type 0) → (IsCollecting st → ⊥) → IsIdle share ⊎ (IsCollecting st × Known) → IsIdle share
idle_odd st share Known odd n = ⊎_elim (λ (h : IsIdle share). h) (λ (h : IsCollecting st × Known). absurd (odd h.0)) n

-- who has arrived has nothing to add
nothing_more : (live : Live) (c : Cycling) (d : ℕ) (share : Share) → ((c.kind ≡ Sweep) → c.shares.arrived d ≡ false → (c.counts.blocks d ≡ false) × (c.counts.words d ≡ false)) → Adds live c d (voided share)
nothing_more live c d share none = record { blocks = λ e f. (none e f).0; words = λ e f. (none e f).1; own = λ e f g. cc }

idle_adds : (live : Live) (c : Cycling) (d : ℕ) (share : Share) → IsIdle share → Adds live c d share → Adds live c d (voided share)
idle_adds live c d share idle a = nothing_more live c d share (λ e f. (a.blocks e f ∙ ap (λ (z : Share). z.added_blocks) idle, a.words e f ∙ ap (λ (z : Share). z.added_words) idle))

adds_gone : (st : Stage) (holder : ℕ → Holder) (live : Live) (c : Cycling) (d : ℕ) (share : Share) (Known : Type 0) → IsIdle share ⊎ (IsCollecting st × Known) → Adds live c d share → Adds live (arrived_cycle st holder c d) d (voided share)
adds_gone (In kind) holder live c d share Known n a = nothing_more live (arrived_cycle (In kind) holder c d) d share (λ e f. absurd (clash ((arrives c.shares d).arrived d) (at_same c.shares.arrived d true) f))
adds_gone (Leads kind) holder live c d share Known n a = idle_adds live c d share (idle_odd (Leads kind) share Known (λ l. l) n) a
adds_gone (Led kind) holder live c d share Known n a = idle_adds live c d share (idle_odd (Led kind) share Known (λ l. l) n) a
adds_gone (Gone kind) holder live c d share Known n a = idle_adds live c d share (idle_odd (Gone kind) share Known (λ l. l) n) a

-- nor has it to look at a registration. In an odd phase it has looked at none
idle_decides : (live live' : Live) (c : Cycling) (d : ℕ) (fs : Finalisers) (share : Share) → IsIdle share → Deciding live c.kind c.left c.shares.arrived c.paint.marks.marked d fs share.kept share.waiting → Deciding live' c.kind c.left c.shares.arrived c.paint.marks.marked d fs 0 []
idle_decides live live' c d fs share idle h = let none : share.kept ≡ 0 = ap (λ (z : Share). z.kept) idle in record {
  finals = λ e f. ap (λ (n : ℕ). c.left d + n) (sym none) ∙ h.finals e f;
  lasts = λ e f. ap (λ (n : ℕ). c.left d + n) (sym none) ∙ h.lasts e f;
  rooted = λ _ _ i a p among. cc;
}

deciding_arrived : (st : Stage) (owner : ℕ → Option ℕ) (live live' : Live) (c : Cycling) (d : ℕ) (fs : Finalisers) (share : Share) (Known : Type 0) → IsIdle share ⊎ (IsCollecting st × Known) → Deciding live c.kind c.left c.shares.arrived c.paint.marks.marked d fs share.kept share.waiting
    → Deciding live' c.kind c.left (arrived_in st owner c.shares d).arrived c.paint.marks.marked d fs 0 []
deciding_arrived (In kind) owner live live' c d fs share Known n h = deciding_gone live' c.kind c.left (arrived_in (In kind) owner c.shares d).arrived c.paint.marks.marked d fs 0 [] (at_same c.shares.arrived d true)
deciding_arrived (Leads kind) owner live live' c d fs share Known n h = idle_decides live live' c d fs share (idle_odd (Leads kind) share Known (λ l. l) n) h
deciding_arrived (Led kind) owner live live' c d fs share Known n h = idle_decides live live' c d fs share (idle_odd (Led kind) share Known (λ l. l) n) h
deciding_arrived (Gone kind) owner live live' c d fs share Known n h = idle_decides live live' c d fs share (idle_odd (Gone kind) share Known (λ l. l) n) h

-- nor has it loaded a control word
leading_fresh : (st stage : Stage) (holder : ℕ → Holder) (c : Cycling) (words words' : List ℕ) (d : ℕ) (share : Share) → ArrivesFrom d st → Leading c words d st share → Leading (arrived_cycle st holder c d) words' d stage (voided share)
leading_fresh st stage holder c words words' d share from l = record {
  changed = λ v e. cc;
  found_blocks = λ v e. cc;
  found_words = λ v e. cc;
  rotated = λ first lasts. l.rotated first lasts ∙ ⊎_elim (λ (e : share.rotated ≡ true). absurd ((subst (ArrivesFrom d) (l.turned e) from) first)) (λ e. e) (either_bool share.rotated);
  turned = λ e. cc;
  pass = l.pass;
  whole = l.whole;
  armed = λ b e. cc;
  unswept = l.unswept;
  under_way = l.under_way;
  unmarked = l.unmarked;
}

-- what the rule says of the share of the domain that has arrived
pub sharing_gone : (k : Config) (all : Account) (words words' : List ℕ) (x : DomainView) (p' : Pause) (live' : Live) (t' : Tenancy) (stage : Stage) → x.own.number < k.domains → ArrivesFrom x.own.number x.seen.stage → AtStage all.pause x.own.number x.own.arrivals x.seen.stage
    → Told k all.pause all.cycling.kind all.cycling.shares → ((a : ℕ) (p : Place) → OwnPlace t'.holder a x.own.number → live' a ≡ Some p → all.cycling.paint.emptied p.label ≡ []) → x.seen.share.weak ≡ None → Good k all words x
    → Sharing k (record all { pause = p'; live = live'; tenancy = t'; cycling = arrived_cycle x.seen.stage all.tenancy.holder all.cycling x.own.number }) words' x.own.number x.own.registers x.own.finalisers x.own.ephemerons.items stage (voided x.seen.share)
sharing_gone k all words words' x p' live' t' stage below from at told whole paid g = let a = adds_gone x.seen.stage all.tenancy.holder all.live all.cycling x.own.number x.seen.share (Knowing k all.live all.tenancy.holder (state_of k all.log).graph all.cycling.paint.marks words x.own.number x.own.registers x.seen.share) g.sharing.knows g.sharing.adds in record {
  telling = telling_gone k all.pause all.cycling.kind (owner_at all.tenancy.holder) all.cycling.paint.colours all.cycling.shares x.own.number x.own.arrivals told below x.seen.share x.seen.stage from at;
  leading = leading_fresh x.seen.stage stage all.tenancy.holder all.cycling words words' x.own.number x.seen.share from g.sharing.leading;
  knows = inl refl;
  adds = record { blocks = a.blocks; words = a.words; own = λ e f h. cc };
  looks = record { at_own = λ b e. cc; cleans = λ w e. cc; emptied_is = whole };
  running = runs_unaware k live' t'.holder all.cycling.armed all.cycling.past all.cycling.paint.marks.marked words' x.own.number stage (voided x.seen.share) (refl, refl) (λ is q. g.sharing.running.owes is q ∙ ap (λ (w : Option ℕ). is_weak w q) paid);
  deciding = deciding_arrived x.seen.stage (owner_at all.tenancy.holder) all.live live' all.cycling x.own.number x.own.finalisers x.seen.share (Knowing k all.live all.tenancy.holder (state_of k all.log).graph all.cycling.paint.marks words x.own.number x.own.registers x.seen.share) g.sharing.knows g.sharing.deciding;
}

-- and of another's
pub sharing_else : (k : Config) (all : Account) (words words' : List ℕ) (st : Stage) (d : ℕ) (z : DomainView) (p' : Pause) (stock : Stock) → z.own.number ≢ d → SameCycle words words' → ((a : ℕ) → at_address k words' a ≡ at_address k words a) → Good k all words z
    → Sharing k (record all { pause = p'; tenancy = record all.tenancy { stock = stock }; cycling = arrived_cycle st all.tenancy.holder all.cycling d }) words' z.own.number z.own.registers z.own.finalisers z.own.ephemerons.items z.seen.stage z.seen.share
sharing_else k all words words' st d z p' stock other same heap g = record {
  telling = telling_else st (owner_at all.tenancy.holder) all.cycling.paint.colours all.cycling.shares d z.own.number z.seen.share other g.sharing.telling;
  leading = leading_gone st all.tenancy.holder all.cycling words' d z.own.number z.seen.stage z.seen.share (leading_words all.cycling words words' z.own.number z.seen.stage z.seen.share same g.sharing.leading);
  knows = knows_words k all.live all.tenancy.holder (state_of k all.log).graph all.cycling.paint.marks words words' z.own.number z.own.registers z.seen.stage z.seen.share heap g.sharing.knows;
  adds = adds_else st all.tenancy.holder all.live all.cycling d z.own.number z.seen.share other g.sharing.adds;
  looks = g.sharing.looks;
  running = runs_on k all.live all.live all.tenancy.holder all.tenancy.holder all.cycling.armed all.cycling.past all.cycling.past all.cycling.paint.marks.marked all.cycling.paint.marks.marked words words' z.own.number z.seen.stage z.seen.share (λ _. endures_words k all.live all.tenancy.holder all.cycling.paint.marks.marked words words' heap) refl (λ q. refl) g.sharing.running;
  deciding = deciding_else st (owner_at all.tenancy.holder) all.live all.cycling d z.own.number z.own.finalisers z.seen.share other g.sharing.deciding;
}

-- also where blocks cease to live, outside a collection
pub sharing_between : (k : Config) (all : Account) (words words' : List ℕ) (x z : DomainView) (kind : Kind) (p' : Pause) (live' : Live) (t' : Tenancy) → HasNoCycle kind → kind ≢ Run → x.seen.stage ≡ In kind → HasNoCycle all.cycling.kind → ((l : Label) → all.cycling.paint.emptied l ≡ []) → z.own.number ≢ x.own.number → SameCycle words words' → Good k all words x → Good k all words z
    → Sharing k (record all { pause = p'; live = live'; tenancy = t'; cycling = arrived_cycle x.seen.stage all.tenancy.holder all.cycling x.own.number }) words' z.own.number z.own.registers z.own.finalisers z.own.ephemerons.items z.seen.stage z.seen.share
sharing_between k all words words' x z kind p' live' t' none still is none' whole other same gx g = let idle = idle_beside k all.live all.tenancy.holder (state_of k all.log).graph all.cycling.paint.marks words all.pause x z kind none is gx.staged g.staged g.sharing.knows in record {
  telling = telling_else x.seen.stage (owner_at all.tenancy.holder) all.cycling.paint.colours all.cycling.shares x.own.number z.own.number z.seen.share other g.sharing.telling;
  leading = leading_gone x.seen.stage all.tenancy.holder all.cycling words' x.own.number z.own.number z.seen.stage z.seen.share (leading_words all.cycling words words' z.own.number z.seen.stage z.seen.share same g.sharing.leading);
  knows = inl idle;
  adds = adds_nothing live' (arrived_cycle x.seen.stage all.tenancy.holder all.cycling x.own.number) z.own.number z.seen.share none';
  looks = looks_idle live' t'.holder (state_of k all.log).graph all.cycling.paint.marks all.cycling.paint.emptied z.own.number z.own.ephemerons.items z.seen.stage z.seen.share idle whole;
  running = runs_on k all.live live' all.tenancy.holder t'.holder all.cycling.armed all.cycling.past all.cycling.past all.cycling.paint.marks.marked all.cycling.paint.marks.marked words words' z.own.number z.seen.stage z.seen.share
      (λ runs. absurd (still (subst (Agree (In kind)) runs (subst (λ (st : Stage). Agree st z.seen.stage) is (agree all.pause x.own.number z.own.number x.own.arrivals z.own.arrivals x.seen.stage z.seen.stage gx.staged.stage g.staged.stage))))) refl (λ q. refl) g.sharing.running;
  deciding = deciding_none live' all.cycling.kind all.cycling.left (arrived_in x.seen.stage (owner_at all.tenancy.holder) all.cycling.shares x.own.number).arrived all.cycling.paint.marks.marked z.own.number z.own.finalisers z.seen.share.kept z.seen.share.waiting none';
}

-- where nothing lives nothing does then
pub dropped_none : (k : Config) (live : Live) (a : ℕ) → live a ≡ None → dropped k live a ≡ None
dropped_none k live a none = ⊎_elim
    (λ (e : dropped k live a ≡ None). e)
    (λ (h : (q : Place) × (dropped k live a ≡ Some q)). absurd (none-some h.0 (sym none ∙ (was_low k live a h.0 h.1).1)))
    (place_cases (dropped k live a))

-- a cycle goes on beside the pause in which the blocks of minor areas cease to live
drop_underway : (k : Config) (s : model.State) (live : Live) (kind : Kind) (past : Snapshot) (marks : Marks) (w : Shares) → kind ≡ Promote → Underway k s live kind past marks w → Underway k s (dropped k live) kind past marks w
drop_underway k s live kind past marks w copies u = record {
  covered = u.covered;
  young = λ a p lives high. absurd (let low : a ≤ k.pools * 4096 = (was_low k live a p lives).0 in omega arith);
  pooled = λ l known is. let h = u.pooled l known is in record { address = h.address; place = h.place; lives = kept_low k live h.address h.place h.lives h.old; old = h.old; label = h.label };
  settled = u.settled;
  rooted = λ e. absurd (let clash : Promote ≡ Reset = sym copies ∙ e in cc);
}

-- whoever has arrived from it
shares_underway : (k : Config) (s : model.State) (live : Live) (kind : Kind) (past : Snapshot) (marks : Marks) (w w' : Shares) → kind ≡ Promote → Underway k s live kind past marks w → Underway k s live kind past marks w'
shares_underway k s live kind past marks w w' copies u = record {
  covered = u.covered;
  young = u.young;
  pooled = u.pooled;
  settled = λ d r _. u.settled d r (λ e. absurd (let clash : Promote ≡ Run = sym copies ∙ e in cc));
  rooted = λ e. absurd (let clash : Promote ≡ Reset = sym copies ∙ e in cc);
}

-- and what it says of the collection
pub cycle_dropped : (st : Stage) (holder : ℕ → Holder) (k : Config) (s : model.State) (live : Live) (p p' : Pause) (t t' : Tenancy) (c : Cycling) (words words' : List ℕ) (d : ℕ) → c.kind ≡ Promote → KeepsGarbage k (dropped k live) t t' words words' → SameCycle words words'
    → Told k p' c.kind (arrived_in st (owner_at holder) c.shares d) → Cycled k s live p t c words → Cycled k s (dropped k live) p' t' (arrived_cycle st holder c d) words'
cycle_dropped st holder k s live p p' t t' c words words' d copies garbage same told y =
    let live' : Live = dropped k live in
    let none : HasNoCycle c.kind = subst HasNoCycle (sym copies) tt in
    let z = cycle_between k s s live live' p t t' c c.past words words' none refl garbage same (λ _ u. drop_underway k s live c.kind c.past c.paint.marks c.shares copies u) y in
    let b = facts_between c.kind k s live' t' c words' none z.facts in
    let c' : Cycling = arrived_cycle st holder c d in record {
      armed_is = z.armed_is;
      meanings = z.meanings;
      colours_are = z.colours_are;
      changed_is = z.changed_is ∙ ap flag (sym (same_changed st (owner_at holder) c.shares d));
      facts = between_facts c.kind k s live' t' c' words' none record { mode = b.mode; unmarked = b.unmarked; beside = λ is. shares_underway k s live' c.kind c.past c.paint.marks c.shares (arrived_in st (owner_at holder) c.shares d) copies (b.beside is); unchanged = same_changed st (owner_at holder) c.shares d ∙ b.unchanged; unrotated = b.unrotated };
      told = told;
      leaves = record { none = z.leaves.none; dead = z.leaves.dead; head = z.leaves.head; unprepared = z.leaves.unprepared; owned = z.leaves.owned };
      unswept = z.unswept;
      whole = λ l. inl (none_misses live' t'.holder c none z.whole l);
      grows = grows_none k live' p' c' (no_marking c.kind none);
    }

-- a look at the barrier leaves what a domain knows that has arrived
pub sharing_looked : (k : Config) (all : Account) (words : List ℕ) (x : DomainView) (last : Kind) (stage : Stage) → x.seen.stage ≡ Gone last → Good k all words x → Sharing k all words x.own.number x.own.registers x.own.finalisers x.own.ephemerons.items stage x.seen.share
sharing_looked k all words x last stage gone g = let l = subst (λ (st : Stage). Leading all.cycling words x.own.number st x.seen.share) gone g.sharing.leading in record {
  telling = g.sharing.telling;
  leading = record {
    changed = λ v e. absurd (l.changed v e).1;
    found_blocks = λ v e. absurd (apart (l.found_blocks v e).0);
    found_words = λ v e. absurd (apart (l.found_words v e).0);
    rotated = l.rotated;
    turned = λ e. absurd (let h : Gone last ≡ Leads Lasts = l.turned e in cc);
    pass = l.pass;
    whole = l.whole;
    armed = λ b e. absurd (l.armed b e).0;
    unswept = l.unswept;
    under_way = l.under_way;
    unmarked = l.unmarked;
  };
  knows = inl (⊎_elim (λ (h : IsIdle x.seen.share). h) (λ (h : IsCollecting x.seen.stage × Knowing k all.live all.tenancy.holder (state_of k all.log).graph all.cycling.paint.marks words x.own.number x.own.registers x.seen.share). absurd (subst IsCollecting gone h.0)) g.sharing.knows);
  adds = g.sharing.adds;
  looks = record {
    at_own = g.sharing.looks.at_own;
    cleans = λ w e. absurd (let h : Gone last ≡ In Clean = sym gone ∙ (g.sharing.looks.cleans w e).stage_is in cc);
    emptied_is = g.sharing.looks.emptied_is;
  };
  running = record {
    knows = inl (unaware_of k all.live all.tenancy.holder all.cycling.armed all.cycling.past all.cycling.paint.marks.marked words x.own.number x.seen.stage x.seen.share (λ runs. let h : Gone last ≡ In Run = sym gone ∙ runs in cc) g.sharing.running);
    owes = g.sharing.running.owes;
  };
  deciding = g.sharing.deciding;
} where
  apart : (((x.own.number ≡ 0) × ⊥) ⊎ (Gone last ≡ In Answer)) → ⊥
  apart h = ⊎_elim (λ (a : (x.own.number ≡ 0) × ⊥). a.1) (λ (e : Gone last ≡ In Answer). let f : Gone last ≡ In Answer = e in cc) h
