-- What the try of an allocation in the major heap leaves.
use Rattle.std.proofs.Common.{◌≡◌, ◌∙◌, ℕ, ◌+◌, Bool, List, true, false, inl, inr, sym, ap, subst, slice_get, arith}
use Rattle.model_core.specs.declared.command.Command.{Command}
use Rattle.model_core.specs.declared.command.Command.TheVariants.{AllocMaj, Ephe}
use Rattle.model_core.specs.declared.entry.Entry.TheVariants.{Command as CommandOf}
use Rattle.model_core.specs.declared.label.Label.{Label}
use Rattle.model_core.specs.declared.reply.Reply.{Reply}
use Rattle.model_core.specs.declared.reply.Reply.TheVariants.{Block, Full}
use Rattle.model_core.specs.declared.reply.Applied.TheVariants.{Replied}
use Rattle.model_core.specs.Fronts.{Answers}
use Rattle.heap_rule.specs.declared.config.Config.{Config}
use Rattle.heap_rule.specs.declared.view.DomainView.{DomainView}
use Rattle.heap_rule.specs.declared.view.Hunt.TheVariants.{Rests}
use Rattle.heap_rule.specs.declared.view.Own.{Own}
use Rattle.heap_rule.specs.Limits.{sizes_in}
use Rattle.heap_rule.specs.Running.{Runs, Did, Stays}
use Rattle.heap_rule.specs.Token.{Token, SharedHeap, IsIn}
use Rattle.heap_rule.proofs.Calls.{stays_trans}
use Rattle.do_alloc.specs.Pools.Created.{ListsHeld}
use Rattle.do_alloc.specs.Pools.Taken.{GrowsBy, MaySweep, Reserved, Searched, Sought}
use Rattle.do_alloc.proofs.OfPools.Seeking.{may_still, sought_sweep, sought_view}
use Rattle.step_pools.specs.Ephemerons.{with_ephemeron}
use Rattle.run_turns.specs.declared.command.Attempt.{Attempt}
use Rattle.run_turns.specs.declared.command.Attempt.TheVariants.{Made, Needs, NoRoom}
use Rattle.run_turns.specs.Tries.{AttemptAnswers, Enters, HasFew, HasNoPool, HasPool, IsFresh, RefusesAs, RefusesFull, address_of}
use Rattle.run_turns.proofs.Shortages.{none_still, refused_then}

-- a search leaves the domain where it stood
searched_stays : (x y : DomainView) → Searched x y Rests → Stays x y
searched_stays x y is = record {
  arrivals = ap (λ (z : DomainView). z.own.arrivals) is;
  stage = ap (λ (z : DomainView). z.seen.stage) is;
  notes = ap (λ (z : DomainView). z.seen.notes) is;
  copying = ap (λ (z : DomainView). z.seen.copying) is;
  queue = ap (λ (z : DomainView). z.own.finalisers.queue) is;
  weak = ap (λ (z : DomainView). z.seen.share.weak) is;
  progress = ap (λ (z : DomainView). z.seen.share.progress) is;
  remembers = λ all. ap (λ (z : DomainView). z.seen.remembered) is ∙ (all ∙ ap (λ (z : DomainView). z.own.remembered.items) (sym is));
}

module _ (h : SharedHeap) (old mid : Token) (runs : Runs h old) (here : IsIn mid h) (sought : Sought h.config old.view mid.view Rests) where
  view : Searched old.view mid.view Rests
  view = sought_view h.config old.view mid.view Rests sought

  config : mid.config ≡ old.config
  config = here.1 ∙ sym runs.here.1

  -- it runs on
  pub sought_runs : Runs h mid
  sought_runs = record {
    here = here;
    acts = let a = runs.acts in record {
      goes_on = subst (λ (z : Config × DomainView). (Rattle.model_core.specs.Domains.domain_at (Rattle.heap_rule.specs.Rule.state_of z.0 z.1.seen.front) z.1.own.number).ended ≡ false) (λ i. (sym config i, sym view i)) a.goes_on;
      runs = ap (λ (z : DomainView). z.seen.stage) view ∙ a.runs;
      paid = ap (λ (z : DomainView). z.seen.share.weak) view ∙ a.paid;
      unqueued = ap (λ (z : DomainView). z.own.finalisers.queue.items) view ∙ a.unqueued;
    };
    idle = ap (λ (z : DomainView). z.seen.made) view ∙ runs.idle;
    at_rest = ap (λ (z : DomainView). z.seen.hunt) view;
    remembers = (searched_stays old.view mid.view view).remembers runs.remembers;
  }

  -- and has made no entry
  pub sought_fresh : IsFresh h.config old.view → IsFresh h.config mid.view
  sought_fresh fresh = subst (IsFresh h.config) (sym view) fresh

  -- the entry `full` was made
  module _ (new : Token) (c : Command) (r : Reply) (f : RefusesFull h mid new c r) (same : new.view.own ≡ record mid.view.own { registers = new.view.own.registers }) where
    full_enters : Enters old new c true r
    full_enters = subst (λ (z : Config × DomainView). Answers (sizes_in z.0) z.1.own.number z.1.seen.front new.view.seen.front (CommandOf z.1.own.number c true) (Replied r)) (λ i. (config i, view i)) f.answers

    full_heap : (new.table ≡ old.table) × (new.config ≡ old.config)
    full_heap = (f.heap.0 ∙ (here.0 ∙ sym runs.here.0), f.heap.1 ∙ config)

    full_stays : Stays old.view new.view
    full_stays = stays_trans old.view mid.view new.view (searched_stays old.view mid.view view) f.stays

    same_looked : new.view.own.looked ≡ mid.view.own.looked
    same_looked = ap (λ (o : Own). o.looked) same

    same_swept : new.view.own.swept ≡ mid.view.own.swept
    same_swept = ap (λ (o : Own). o.swept) same

    same_list : new.view.own.ephemerons ≡ mid.view.own.ephemerons
    same_list = ap (λ (o : Own). o.ephemerons) same

    full_own : new.view.own ≡ record old.view.own { registers = new.view.own.registers; used = old.view.own.used + 0; serial = old.view.own.serial + 0; looked = new.view.own.looked; swept = new.view.own.swept; ephemerons = new.view.own.ephemerons }
    full_own =
        let used : ℕ = old.view.own.used in
        let serial : ℕ = old.view.own.serial in
        let same_used : used ≡ used + 0 = omega arith in
        let same_serial : serial ≡ serial + 0 = omega arith in
        same ∙ (ap (λ (z : DomainView). record z.own { registers = new.view.own.registers }) view
        ∙ (λ i. record old.view.own { registers = new.view.own.registers; used = same_used i; serial = same_serial i; looked = sym same_looked i; swept = sym same_swept i; ephemerons = sym same_list i }))

    full_remembers : new.view.own.remembered ≡ old.view.own.remembered
    full_remembers = ap (λ (o : Own). o.remembered) same ∙ ap (λ (z : DomainView). z.own.remembered) view

    full_sweep : MaySweep h.config old.view new.view
    full_sweep = may_still h.config old.view mid.view new.view (sym same_list) (sym same_swept) (sought_sweep h.config old.view mid.view Rests sought)

    full_none : (words : ℕ) → HasNoPool h.config words old.view mid.view → HasNoPool h.config words old.view new.view
    full_none words n = none_still h.config words old.view mid.view new.view f.free same_looked same_swept n

  -- an allocation was answered `full`, or refused
  major_full : (new : Token) (dst tag fields : ℕ) (served collected : Bool) → HasNoPool h.config (fields + 2) old.view mid.view → RefusesAs h mid new (AllocMaj dst tag fields) collected (Made Full) → AttemptAnswers h old new (AllocMaj dst tag fields) served collected (Made Full)
  major_full new dst tag fields served collected none says =
      let c = AllocMaj dst tag fields in
      let f = says.1 in
      let same = says.2 in (
        record {
          runs = f.runs;
          stands = inr (full_enters new c Full f same, full_none new c Full f same (fields + 2) none, says.0);
          heap = full_heap new c Full f same;
          stays = full_stays new c Full f same;
          own = full_own new c Full f same;
          remembers = full_remembers new c Full f same;
          lists = full_sweep new c Full f same;
        },
        λ needs. needs,
      )

  pub major_refused : (new : Token) (dst tag fields : ℕ) (served collected : Bool) (a : Attempt) → HasNoPool h.config (fields + 2) old.view mid.view → RefusesAs h mid new (AllocMaj dst tag fields) collected a → AttemptAnswers h old new (AllocMaj dst tag fields) served collected a
  major_refused new dst tag fields served collected (Made r) none says =
      let replies = says.1.answers.replies in
      let is : r ≡ Full = cc in
      subst (λ (q : Reply). AttemptAnswers h old new (AllocMaj dst tag fields) served collected (Made q)) (sym is) (major_full new dst tag fields served collected none (subst (λ (q : Reply). RefusesAs h mid new (AllocMaj dst tag fields) collected (Made q)) is says))
  major_refused new dst tag fields served collected (Needs want) none says = absurd says
  major_refused new dst tag fields served collected NoRoom none says = (refused_then h old mid new sought says.1 (AllocMaj dst tag fields) collected none says.0, λ needs. needs)

  -- and so was an ephemeron
  create_full : (new : Token) (dst keys : ℕ) (served collected : Bool) → HasNoPool h.config (keys + 3) old.view mid.view → RefusesAs h mid new (Ephe dst keys) collected (Made Full) → AttemptAnswers h old new (Ephe dst keys) served collected (Made Full)
  create_full new dst keys served collected none says =
      let c = Ephe dst keys in
      let f = says.1 in
      let same = says.2 in (
        record {
          runs = f.runs;
          stands = inr (full_enters new c Full f same, full_none new c Full f same (keys + 3) none, says.0);
          heap = full_heap new c Full f same;
          stays = full_stays new c Full f same;
          own = full_own new c Full f same;
          remembers = full_remembers new c Full f same;
          lists = full_sweep new c Full f same;
        },
        λ needs. needs,
      )

  pub create_refused : (new : Token) (dst keys : ℕ) (served collected : Bool) (a : Attempt) → HasNoPool h.config (keys + 3) old.view mid.view → RefusesAs h mid new (Ephe dst keys) collected a → AttemptAnswers h old new (Ephe dst keys) served collected a
  create_refused new dst keys served collected (Made r) none says =
      let replies = says.1.answers.replies in
      let is : r ≡ Full = cc in
      subst (λ (q : Reply). AttemptAnswers h old new (Ephe dst keys) served collected (Made q)) (sym is) (create_full new dst keys served collected none (subst (λ (q : Reply). RefusesAs h mid new (Ephe dst keys) collected (Made q)) is says))
  create_refused new dst keys served collected (Needs want) none says = absurd says
  create_refused new dst keys served collected NoRoom none says = (refused_then h old mid new sought says.1 (Ephe dst keys) collected none says.0, λ needs. needs)

-- a block was made
pub major_made : (h : SharedHeap) (old new : Token) (dst tag fields : ℕ) (served collected : Bool) (l : Label) → IsIn old h → Did h old new (AllocMaj dst tag fields) (Block l) → GrowsBy old new → HasPool h.config (fields + 2) old.view new.view → AttemptAnswers h old new (AllocMaj dst tag fields) served collected (Made (Block l))
major_made h old new dst tag fields served collected l was did g pool =
    let used : ℕ = old.view.own.used in
    let same_used : used ≡ used + 0 = omega arith in (
      record {
        runs = did.runs;
        stands = inl (did.answers, pool);
        heap = did.heap;
        stays = did.stays;
        own = g.own ∙ (λ i. record old.view.own { registers = new.view.own.registers; used = same_used i; serial = old.view.own.serial + 1; looked = new.view.own.looked; swept = new.view.own.swept; ephemerons = new.view.own.ephemerons });
        remembers = ap (λ (o : Own). o.remembered) g.own;
        lists = subst (λ (k : Config). MaySweep k old.view new.view) was.1 g.sweep;
      },
      λ needs. needs,
    )

-- and so was an ephemeron
pub create_made : (h : SharedHeap) (old new : Token) (dst keys : ℕ) (served collected : Bool) (l : Label) → IsIn old h → Did h old new (Ephe dst keys) (Block l) → ListsHeld dst old new → HasPool h.config (keys + 3) old.view new.view → AttemptAnswers h old new (Ephe dst keys) served collected (Made (Block l))
create_made h old new dst keys served collected l was did g pool =
    let used : ℕ = old.view.own.used in
    let same_used : used ≡ used + 0 = omega arith in
    let listed : new.view.own.ephemerons ≡ with_ephemeron g.at g.list = ap (λ (o : Own). o.ephemerons) g.own in (
      record {
        runs = did.runs;
        stands = inl (did.answers, pool);
        heap = did.heap;
        stays = did.stays;
        own = g.own ∙ (λ i. record old.view.own { registers = new.view.own.registers; used = same_used i; serial = old.view.own.serial + 1; looked = new.view.own.looked; swept = new.view.own.swept; ephemerons = sym listed i });
        remembers = ap (λ (o : Own). o.remembered) g.own;
        lists = (g.list, listed ∙ ap (λ v. with_ephemeron (address_of v) g.list) (sym g.held), subst (λ (k : Config). MaySweep k old.view (Rattle.do_alloc.specs.Pools.Created.with_list new.view g.list)) was.1 g.sweep);
      },
      λ needs. needs,
    )

-- no more pools were found free at the last look than the reserve
pub few_found : (k : Config) (free : ℕ) (x y : DomainView) → Reserved k free x y → HasFew k y
few_found k free x y r = (free, ap (λ (l : List ℕ). slice_get l 0) r.found.1, r.few)
