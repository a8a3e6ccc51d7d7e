-- In Reset a domain's minor area is free again.
use Rattle.std.proofs.Common.{◌≡◌, ℕ, ◌+◌, ◌*◌, ◌<◌, ◌≤◌, List, [], length, set, slice_get, Some, None, Option, sym, refl, ap, ◌∙◌, inl, inr, subst, arith, length-set}
use Rattle.std.proofs.lemmas.Int.{ints}
use mathlib.Core.Option.{some}
use lib.ListN.{get_elem?}
use Rattle.model_core.specs.declared.entry.Entry.{Entry}
use Rattle.model_core.specs.declared.graph.Value as graph_value
use Rattle.model_core.specs.declared.graph.Value.TheVariants.{Int as IntOf, Block, Nothing as NothingOf}
use Rattle.model_core.specs.Domains.{register}
use Rattle.heap_words.specs.declared.value.Value.{Value}
use Rattle.heap_words.specs.declared.value.Value.TheVariants.{Int, Ref, Nothing}
use Rattle.heap_words.specs.Values.{IsPackable, value_word}
use Rattle.atomic_table.specs.Table.{keeps}
use Rattle.heap_rule.specs.declared.config.Config.{Config}
use Rattle.heap_rule.specs.declared.view.DomainView.{DomainView}
use Rattle.heap_rule.specs.declared.phase.Kind.TheVariants.{Run, Reset, Promote}
use Rattle.heap_rule.specs.declared.phase.Stage.{Stage}
use Rattle.heap_rule.specs.declared.phase.Stage.TheVariants.{In}
use Rattle.heap_rule.specs.Layout.{before_heap, base_of}
use Rattle.heap_rule.specs.Places.{Place, Live, extent, Stands, IsOldAt, IsOldWord}
use Rattle.heap_rule.specs.Phases.{Pause, AtStage, Staged}
use Rattle.heap_rule.specs.Changes.{value_at}
use Rattle.heap_rule.specs.Copies.{HoldsOld, Resetting, IsOldValue}
use Rattle.heap_rule.specs.Raw.{MayStore, CanLeave, Closes}
use Rattle.heap_rule.specs.Rule.{state_of, Good, Rule}
use Rattle.heap_rule.specs.Token.{OwnFits}
use Rattle.heap_rule.specs.Views.{one}
use Rattle.step_promote.proofs.HeldPlaces.{held_lives}
use Rattle.step_promote.specs.Promotion.{ResetMay, reset_view, ResetTold}
use Rattle.step_promote.specs.Writes.{Resets}
use Rattle.heap_rule.proofs.Fits.{fits_held}
use Rattle.heap_rule.proofs.Again.{ends_low}
use Rattle.heap_rule.proofs.Beside.{found_beside, making_beside, area_word_far}
use Rattle.heap_rule.proofs.Garbage.{KeepsGarbage}
use Rattle.heap_rule.proofs.Lots.{Beside, area_beside, garbage_beside, grid_beside, hunter_beside}
use Rattle.heap_rule.proofs.Keeps.{my_good, control_set, controls_kept, hunter_as, more_same, writes, cycle_here, runs_here, sharing_here, sharings_here, cycle_control, Words, garbage_here}
use Rattle.heap_rule.proofs.PauseFacts.{run_resetting}
use Rattle.heap_rule.proofs.Sharings.{SameCycle}

reset_now : (t : Pause) (x : DomainView) → x.seen.stage ≡ In Reset → Staged t x → Resetting t
reset_now t x is s = let a = (subst (AtStage t x.own.number x.own.arrivals) is s.stage).1 in inr (a.0, a.1, ((λ e. let h : Reset ≡ Run = sym a.2 ∙ e in cc), (λ e. let h : Reset ≡ Promote = sym a.2 ∙ e in cc)))

none_made : (l : List ℕ) (j w : ℕ) → l ≡ [] → slice_get l j ≡ Some w → ⊥
none_made l j w none got = let e : ◌≡◌ {A = Option ℕ} None (Some w) = sym (ap (λ (z : List ℕ). slice_get z j) none) ∙ got in cc

-- the word of a value that is no address of a minor area
pub old_word : (k : Config) (v : Value) → IsPackable v → IsOldValue k v → IsOldWord k (value_word v)
old_word k (Int z) fits old = inl (omega (arith, ints))
old_word k (Ref a) fits old = inr (let o : a ≤ k.pools * 4096 = old in let g : 2 * a ≤ 2 * (k.pools * 4096) = omega arith in g)
old_word k Nothing fits old = inr (omega arith)

-- where all that lives is in the pools, what stands for a value is no address of a minor area
all_old : (k : Config) (live : Live) (v : Value) (g : graph_value.Value) → ((a : ℕ) (p : Place) → live a ≡ Some p → IsOldAt k a) → Stands live v g → IsOldValue k v
all_old k live (Int z) g pools stands = tt
all_old k live Nothing g pools stands = tt
all_old k live (Ref a) (IntOf n) pools stands = absurd stands
all_old k live (Ref a) (Block l) pools stands = pools a stands.0 stands.1
all_old k live (Ref a) NothingOf pools stands = absurd stands

-- in Reset no young block is left, and a domain refers to none
refers_old : (k : Config) (s : Words) (r : Rule k s) (id : ℕ) (hist : List Entry) (x : DomainView) → get_elem? s.views id ≡ some (one k hist x) → x.seen.stage ≡ In Reset → HoldsOld k x
refers_old k s r id hist x at resets =
    let g = my_good k s r id hist x at in
    let live : Live = r.account.live in
    let pools : (a : ℕ) (p : Place) → live a ≡ Some p → IsOldAt k a = r.whole.emptied (reset_now r.account.pause x resets g.staged) in (
      λ q few. all_old k live (value_at x.own.registers q) (register (state_of k r.account.log) x.own.number q) pools (g.stood.each q few),
      λ h a is. let l = held_lives live (state_of k r.account.log) x.own.number x.own.finalisers g.stood.enrolled h a is in pools a l.lives.0 l.lives.1,
    )

pub reset_may : (k : Config) (x : DomainView) (word a new : ℕ) → word ≡ before_heap k + a → ResetMay k x a → MayStore k x word new (ResetTold k)
reset_may k x word a new place may fits slots id hist s r _ at _ =
    let g = my_good k s r id hist x at in
    let base : ℕ = base_of k x.own.number in
    let minor : ℕ = k.minor_words in
    let here : a ≡ base = may.word in
    let m : ℕ = x.own.number * minor in
    let high : k.pools * 4096 < a = (let e : a ≡ k.pools * 4096 + m + 1 = here in let o : k.pools * 4096 < a = omega arith in o) in
    let emptied = r.whole.emptied (reset_now r.account.pause x may.stage g.staged) in
    let below : (b : ℕ) (q : Place) → r.account.live b ≡ Some q → b + extent q.shape ≤ base = (λ b q lives. let low : b ≤ k.pools * 4096 = emptied b q lives in
    let h = ends_low k r.account.tenancy r.account.live s.words b q r.whole.pools r.whole.grid lives low in let n : ℕ = extent q.shape in let y : b + n ≤ k.pools * 4096 + 1 = h in let o : b + n ≤ k.pools * 4096 + m + 1 = omega arith in o) in
    let ws : List ℕ = set s.words (before_heap k + a) new in
    let y : DomainView = reset_view x in
    let beside : (d : ℕ) → Beside k r.account.tenancy s.words d a = area_beside k r.account.tenancy s.words a new r.whole.pools high in
    let garbage : KeepsGarbage k r.account.live r.account.tenancy r.account.tenancy s.words ws =
    garbage_here k s r id hist x at r.account.live ws r.whole.cycle.leaves.dead (garbage_beside k r.account.live r.account.tenancy r.account.cycling s.words r.whole.cycle.leaves a new r.whole.pools beside) in
    let same : SameCycle s.words ws = cycle_control k s.words ws (control_set k s.words a new (omega arith)) in
    let not_run : (z : DomainView) → Good k r.account s.words z → z.seen.stage ≡ In Run → ⊥ = (λ z h runs. run_resetting r.account.pause z runs h.staged (reset_now r.account.pause x may.stage g.staged)) in
    let rule : Rule k record { words = ws; homes = s.homes; views = set s.views id (one k hist y) } = writes k s r id hist x at y ws r.account.cycling record {
      same = refl;
      kind = refl;
      front = inl refl;
      still = g.still;
      wide = length-set s.words (before_heap k + a) new;
      controls = controls_kept k s r id hist x at ws (control_set k s.words a new (omega arith));
      found = λ b q lives. let f = r.whole.found b q lives in found_beside k r.account.cycling.paint r.account.live r.account.live (state_of k r.account.log).graph (state_of k r.account.log).graph s.words a new b q (more_same r.account.live) f f.there
          (λ z inside e. let n : ℕ = extent q.shape in let h : b + n ≤ base = below b q lives in let i : z < n = inside in let o : b + z ≡ a = e in omega arith);
      stood = record { wide = g.stood.wide; each = g.stood.each; serial = g.stood.serial; enrolled = g.stood.enrolled };
      area = record { room = (let o : 0 ≤ minor = omega arith in o); free = λ b q lives. inl (let n : ℕ = extent q.shape in let h : b + n ≤ base = below b q lives in let o : b + n ≤ base + 0 = omega arith in o); classes = λ b q lives young. absurd (let low : b ≤ k.pools * 4096 = emptied b q lives in omega arith) };
      making = record { fits = λ j w got. absurd (none_made x.seen.made j w may.blank got); written = λ j w got. absurd (none_made x.seen.made j w may.blank got) };
      makings = λ z other _ p. making_beside k s.words a new z (area_word_far k x.own.number a z (let o : base ≤ a = omega arith in o) (let h : 0 < minor = may.some in let o : a < base + minor = omega arith in o) other) p;
      grid = grid_beside k r.account.tenancy s.words a new r.account.live r.account.live r.whole.pools beside (more_same r.account.live) (λ b q h _. h) r.whole.grid;
      hunter = hunter_as k r.account.tenancy ws x y refl refl refl refl refl refl refl (hunter_beside k r.account.tenancy s.words a new r.whole.pools x (beside x.own.number) g.hunter);
      hunters = λ z _ h. hunter_beside k r.account.tenancy s.words a new r.whole.pools z (beside z.own.number) h.hunter;
      cycle = cycle_here k s r id hist x at Reset tt may.stage (state_of k r.account.log) r.account.live r.account.tenancy r.account.cycling.past ws refl garbage same (λ is u. u);
      sharing = sharing_here k s r id hist x at Reset tt may.stage r.account ws r.account.cycling.past x.seen.share.weak y refl same refl refl refl (runs_here k s r id hist x at r.account ws refl x (λ runs. absurd (not_run x g runs)) g);
      sharings = λ z _ h. sharings_here k s r id hist x at Reset tt may.stage r.account ws r.account.cycling.past refl same z h (runs_here k s r id hist x at r.account ws refl z (λ runs. absurd (not_run z h runs)) h);
      sweeps = g.sweeps;
      others_sweep = λ z h. h.sweeps;
    } in (
      one k hist y,
      keeps,
      tt,
      subst (λ (n : ℕ). Rule k record { words = set s.words n new; homes = s.homes; views = set s.views id (one k hist y) }) (sym place) rule,
      (record { view = refl; holds_old = refers_old k s r id hist x at may.stage }, refl),
    )

no_more : (n : ℕ) → n + 0 ≡ n
no_more n = omega arith

-- it closes where the area's use and the list were set back
pub reset_closes : (k : Config) (x : DomainView) (found a : ℕ) → ResetMay k x a → Closes k x found (ResetTold k) CanLeave Resets
reset_closes k x found a may y fits told = let own = ap (λ (z : DomainView). z.own) told.view in record {
  can_write = tt;
  written = λ after wrote. own ∙ sym wrote;
  fits = subst (λ (z : DomainView). OwnFits k z.own) (sym told.view) (fits_held k x.own 0 x.own.serial x.own.registers (reset_view x).own.remembered x.own.finalisers (omega arith) fits.registers (λ i b e. cc) (no_more (x.own.remembered.room + length x.own.remembered.items) ∙ fits.remembered_room) fits.finalisers fits);
  once = λ runs. absurd (let e : ◌≡◌ {A = Stage} (In Reset) (In Run) = sym may.stage ∙ runs in cc);
}
