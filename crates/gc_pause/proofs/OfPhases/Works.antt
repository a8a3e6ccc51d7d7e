-- What a domain has done that has decided its registrations, and what a share has made of its view.
use Rattle.std.proofs.Common.{◌≡◌, ◌≢◌, ◌⊎◌, inl, inr, ⊎_elim, ℕ, ◌≤◌, List, Option, None, length, refl, sym, ap, subst, ◌∙◌, arith}
use Rattle.model_core.specs.declared.entry.Entry.{Entry}
use Rattle.model_core.specs.Fronts.{IsFrontOf}
use Rattle.model_core.specs.History.{Legal}
use Rattle.model_core.specs.Controls.Led.{IsLed}
use Rattle.model_core.proofs.OfControls.Led.{led_whole}
use Rattle.heap_words.specs.Remembered.Bounded.{Bounded}
use Rattle.heap_rule.specs.declared.config.Config.{Config}
use Rattle.heap_rule.specs.declared.phase.Kind.{Kind}
use Rattle.heap_rule.specs.declared.phase.Kind.TheVariants.{Decide, Lasts, Sweep}
use Rattle.heap_rule.specs.declared.phase.Stage.TheVariants.{In}
use Rattle.heap_rule.specs.declared.view.DomainView.{DomainView}
use Rattle.heap_rule.specs.declared.view.Finalisers.{Finalisers}
use Rattle.heap_rule.specs.declared.view.Listing.{Listing}
use Rattle.heap_rule.specs.declared.view.Share.{Share}
use Rattle.heap_rule.specs.declared.view.Search.{Search}
use Rattle.heap_rule.specs.declared.view.Swept.{Swept}
use Rattle.heap_rule.specs.Finalisers.{RefersOld}
use Rattle.heap_rule.specs.Limits.{sizes_in}
use Rattle.heap_rule.specs.Pools.{place_of, search_at}
use Rattle.heap_rule.specs.Sweeping.{nothing_swept}
use Rattle.heap_rule.proofs.Closes.{front_same}
use Rattle.step_sweep.specs.Freeing.{AnewTold, IsNoLater, unswept}
use Rattle.step_sweep.specs.Holding.{Returns}
use Rattle.gc_sweep.specs.Counting.{CountedLive, adding, with_count}
use Rattle.gc_sweep.specs.Emptiness.{with_returns}
use Rattle.gc_sweep.specs.Sweeping.{LooksAgain, SweptAll, with_sweep}
use Rattle.step_pauses.specs.Pauses.{HasDone, arrived_view}
use Rattle.step_finalisers.specs.Registering.{count_of}
use Rattle.do_finalisers.specs.Deciding.{AllDecided, AllLastsDecided}
use Rattle.gc_pause.specs.Phases.Sharing.{Decided, LastsDecided, SharesIn, Works, with_work}
use Rattle.gc_pause.proofs.OfPhases.Sorted.{Sorted, sorted_finals, sorted_lasts}

-- the domain with these parts
abbrev built : DomainView → List Search → Bounded ℕ → Swept → Finalisers → List Entry → Option Listing → Share → DomainView
built x looked ephemerons swept finalisers front listing share = record { own = record x.own { looked = looked; ephemerons = ephemerons; swept = swept; finalisers = finalisers }; seen = record x.seen { front = front; listing = listing; share = share } }

-- where the places looked at are the same, so is where the next search begins
again_same : (x y : DomainView) → y.own.looked ≡ x.own.looked → LooksAgain x y
again_same x y same class = inr (ap (λ (l : List Search). (search_at l class).pool) same, (let e : (search_at y.own.looked class).slot ≡ (search_at x.own.looked class).slot = ap (λ (l : List Search). (search_at l class).slot) same in omega arith))

built_as : (x y : DomainView) (looked : List Search) (ephemerons : Bounded ℕ) (swept : Swept) (finalisers : Finalisers) (front : List Entry) (listing : Option Listing) (share : Share) → y ≡ built x looked ephemerons swept finalisers front listing share → y ≡ with_work x y
built_as x y looked ephemerons swept finalisers front listing share is = is
    ∙ λ i. built x (sym (ap (λ (z : DomainView). z.own.looked) is) i) (sym (ap (λ (z : DomainView). z.own.ephemerons) is) i) (sym (ap (λ (z : DomainView). z.own.swept) is) i) (sym (ap (λ (z : DomainView). z.own.finalisers) is) i) (sym (ap (λ (z : DomainView). z.seen.front) is) i) (sym (ap (λ (z : DomainView). z.seen.listing) is) i) (sym (ap (λ (z : DomainView). z.seen.share) is) i)

-- where registrations are decided the domain keeps its other lists, and has done what is asked of it
module _ (k : Config) (kind : Kind) (x y : DomainView) (swept : Swept) (finalisers : Finalisers) (front : List Entry) (share : Share) (one_of : (kind ≡ Decide) ⊎ (kind ≡ Lasts)) (is : y ≡ built x x.own.looked x.own.ephemerons swept finalisers front x.seen.listing share) where
  decides : (kind ≢ Lasts → swept ≡ x.own.swept) → (kind ≡ Lasts → swept ≡ nothing_swept x.own.swept.top) → share.progress ≡ x.seen.share.progress → share.unmarked ≡ x.seen.share.unmarked → share.weak ≡ x.seen.share.weak → IsFrontOf x.own.number y.seen.front x.seen.front → IsLed x.own.number y.seen.front x.seen.front → (Legal (sizes_in k) x.seen.front → Legal (sizes_in k) y.seen.front) → Sorted kind x.own.finalisers y.own.finalisers → HasDone k y → Works k kind x y
  decides kept anew progress unmarked weak seen led legal sorted done =
      let looked : y.own.looked ≡ x.own.looked = ap (λ (z : DomainView). z.own.looked) is in
      let listed : y.own.ephemerons ≡ x.own.ephemerons = ap (λ (z : DomainView). z.own.ephemerons) is in
      let room : y.own.ephemerons.room ≡ x.own.ephemerons.room = ap (λ (l : Bounded ℕ). l.room) listed in
      let sweeps : y.own.swept ≡ swept = ap (λ (z : DomainView). z.own.swept) is in record {
        view = built_as x y x.own.looked x.own.ephemerons swept finalisers front x.seen.listing share is;
        progress_is = ap (λ (z : DomainView). z.seen.share.progress) is ∙ progress;
        unmarked_is = ap (λ (z : DomainView). z.seen.share.unmarked) is ∙ unmarked;
        weak_is = ap (λ (z : DomainView). z.seen.share.weak) is ∙ weak;
        looked = λ _. looked;
        again = again_same x y looked;
        listed = λ _. listed;
        room = omega arith;
        swept = λ other _. sweeps ∙ kept other;
        anew = λ e. sweeps ∙ anew e;
        all_swept = λ (e : kind ≡ Sweep). ⊎_elim (λ (f : kind ≡ Decide). cc) (λ (f : kind ≡ Lasts). cc) one_of;
        finalisers = sorted.same;
        decided = sorted.decided;
        last_decided = sorted.last_decided;
        registered = sorted.registered;
        held = sorted.held;
        front = seen;
        led = led;
        legal = legal;
        stays = λ _ undecided unsettled. absurd (⊎_elim undecided unsettled one_of);
        done = done;
      }

module _ (k : Config) (kind : Kind) (x : DomainView) (stage : x.seen.stage ≡ In kind) where
  -- those of `finalise`
  pub decide_works : (y : DomainView) → kind ≡ Decide → AllDecided k x y → Works k kind x y
  decide_works y is d =
      let lists : Decided x.own.finalisers y.own.finalisers = record { lasts = ap (λ (z : DomainView). z.own.finalisers.lasts) d.view; queued = d.queued; queue = d.queue; splits = d.splits } in
      let here : y.seen.stage ≡ In Decide = ap (λ (z : DomainView). z.seen.stage) d.view ∙ (stage ∙ ap In is) in
      let done : HasDone k y = record { rooted = λ e. cc; queued = λ e. ⊎_elim (λ u. cc) (λ u. cc) e; followed = λ e. cc; told = λ e. ⊎_elim (λ u. cc) (λ u. cc) e; walked = λ e. cc; swept = λ e. cc; anew = λ e. cc; looked = λ e. ⊎_elim (λ u. cc) (λ u. cc) e; cleaned = λ e. cc; decided = λ _. d.done; settled = λ e. cc; held = λ e. ⊎_elim (λ u. cc) (λ u. cc) e; added = λ e. cc } in
      decides k kind x y x.own.swept _ _ _ (inl is) d.view (λ _. refl) (λ (e : kind ≡ Lasts). cc) refl refl refl d.seen d.led d.legal (sorted_finals kind x.own.finalisers y.own.finalisers is lists) done

  -- and those of `finalise_last`, after which the domain notes that it has swept nothing
  pub lasts_works : (v y : DomainView) → kind ≡ Lasts → AllLastsDecided k x v → AnewTold v 0 y → Works k kind x y
  lasts_works v y is d told =
      let lists : LastsDecided x.own.finalisers v.own.finalisers = record { finals = ap (λ (z : DomainView). z.own.finalisers.finals) d.view; queued = d.queued; queue = d.queue; splits = d.splits } in
      let same : y.own.finalisers ≡ v.own.finalisers = ap (λ (z : DomainView). z.own.finalisers) told in
      let here : y.seen.stage ≡ In Lasts = ap (λ (z : DomainView). z.seen.stage) told ∙ (ap (λ (z : DomainView). z.seen.stage) d.view ∙ (stage ∙ ap In is)) in
      let anew : y.own.swept ≡ nothing_swept y.own.swept.top = ap (λ (z : DomainView). z.own.swept) told ∙ ap nothing_swept (sym (ap (λ (z : DomainView). z.own.swept.top) told)) in
      let settled : y.seen.share.kept ≡ length y.own.finalisers.lasts.items = ap (λ (z : DomainView). z.seen.share.kept) told ∙ (d.done ∙ ap (λ (f : Finalisers). length f.lasts.items) (sym same)) in
      let done : HasDone k y = record { rooted = λ e. cc; queued = λ e. ⊎_elim (λ u. cc) (λ u. cc) e; followed = λ e. cc; told = λ e. ⊎_elim (λ u. cc) (λ u. cc) e; walked = λ e. cc; swept = λ e. cc; anew = λ _. anew; looked = λ e. ⊎_elim (λ u. cc) (λ u. cc) e; cleaned = λ e. cc; decided = λ e. cc; settled = λ _. settled; held = λ e. ⊎_elim (λ u. cc) (λ u. cc) e; added = λ e. cc } in
      let seen : IsFrontOf x.own.number y.seen.front x.seen.front = subst (λ (f : List Entry). IsFrontOf x.own.number f x.seen.front) (sym (ap (λ (z : DomainView). z.seen.front) told)) d.seen in
      let led : IsLed x.own.number y.seen.front x.seen.front = subst (λ (f : List Entry). IsLed x.own.number f x.seen.front) (sym (ap (λ (z : DomainView). z.seen.front) told)) d.led in
      let path = told ∙ ap (λ (z : DomainView). record z { own = unswept z.own }) d.view in
      decides k kind x y (nothing_swept x.own.swept.top) _ _ _ (inr is) path (λ (e : kind ≢ Lasts). absurd (e is)) (λ _. refl) refl refl refl seen led (λ legal. subst (λ (f : List Entry). Legal (sizes_in k) f) (sym (ap (λ (z : DomainView). z.seen.front) told)) (d.legal legal)) (subst (Sorted kind x.own.finalisers) (sym same) (sorted_lasts kind x.own.finalisers v.own.finalisers is lists)) done

-- the domain has swept all its pools, and counts on
pub swept_returns : (k : Config) (x v w : DomainView) → x.seen.stage ≡ In Sweep → SweptAll k x v → CountedLive v w → Returns k w
swept_returns k x v w stage s counted = inl (
  ap (λ (z : DomainView). z.seen.stage) counted.view ∙ (ap (λ (z : DomainView). z.seen.stage) s.view ∙ stage),
  subst (λ (z : Swept). k.pools ≤ z.spot.pool) (sym (ap (λ (z : DomainView). z.own.swept) counted.view)) s.done,
)

-- it has swept, counted what lives, and given the pools back in which nothing is left
pub sweep_works : (k : Config) (x v w y : DomainView) → x.seen.stage ≡ In Sweep → SweptAll k x v → CountedLive v w → y ≡ with_returns w y → y.own.swept.top ≤ y.seen.share.held → Works k Sweep x y
sweep_works k x v w y stage s counted looks held =
    let path : y ≡ with_returns (adding (with_count (with_sweep x v) w)) y = looks ∙ ap (λ (z : DomainView). with_returns z y) (counted.view ∙ ap (λ (z : DomainView). adding (with_count z w)) s.view) in
    let looked : y.own.looked ≡ v.own.looked = ap (λ (z : DomainView). z.own.looked) path in
    let listed : y.own.ephemerons ≡ v.own.ephemerons = ap (λ (z : DomainView). z.own.ephemerons) path in
    let swept : y.own.swept ≡ record v.own.swept { top = y.own.swept.top } = ap (λ (z : DomainView). z.own.swept) path in
    let all : k.pools ≤ y.own.swept.spot.pool = subst (λ (w : Swept). k.pools ≤ w.spot.pool) (sym swept) s.done in
    let here : y.seen.stage ≡ In Sweep = ap (λ (z : DomainView). z.seen.stage) path ∙ stage in
    let finalisers : y.own.finalisers ≡ x.own.finalisers = ap (λ (z : DomainView). z.own.finalisers) path in
    let front : y.seen.front ≡ x.seen.front = ap (λ (z : DomainView). z.seen.front) path in record {
      view = built_as x y v.own.looked v.own.ephemerons (record v.own.swept { top = y.own.swept.top }) x.own.finalisers x.seen.front y.seen.listing _ path;
      progress_is = ap (λ (z : DomainView). z.seen.share.progress) path;
      unmarked_is = ap (λ (z : DomainView). z.seen.share.unmarked) path;
      weak_is = ap (λ (z : DomainView). z.seen.share.weak) path;
      looked = λ other. absurd (other refl);
      again = subst (λ (l : List Search). (class : ℕ) → IsNoLater (place_of (search_at l class)) (place_of (search_at x.own.looked class))) (sym looked) s.looked;
      listed = λ other. absurd (other refl);
      room = subst (λ (l : Bounded ℕ). x.own.ephemerons.room ≤ l.room) (sym listed) s.shortens.no_less;
      swept = λ _ other. absurd (other refl);
      anew = λ e. cc;
      all_swept = λ _. all;
      finalisers = λ _ _. finalisers;
      decided = λ e. cc;
      last_decided = λ e. cc;
      registered = ap count_of finalisers;
      held = λ c old. subst (RefersOld c) (sym finalisers) old;
      front = front_same x y front;
      led = led_whole x.own.number y.seen.front x.seen.front (sym front);
      legal = λ legal. subst (λ (f : List Entry). Legal (sizes_in k) f) (sym front) legal;
      stays = λ _ _ _. front;
      done = record { rooted = λ e. cc; queued = λ e. ⊎_elim (λ u. cc) (λ u. cc) e; followed = λ e. cc; told = λ e. ⊎_elim (λ u. cc) (λ u. cc) e; walked = λ e. cc; swept = λ _. all; anew = λ e. cc; looked = λ e. ⊎_elim (λ u. cc) (λ u. cc) e; cleaned = λ e. cc; decided = λ e. cc; settled = λ e. cc; held = λ _. held; added = λ _. (ap (λ (z : DomainView). z.seen.share.added_blocks) path, ap (λ (z : DomainView). z.seen.share.added_words) path) };
    }

-- the domain has arrived
pub shares_in : (k : Config) (kind : Kind) (x y z : DomainView) → Works k kind x y → z ≡ arrived_view y → SharesIn k kind x z
shares_in k kind x y z w is =
    let looked : y.own.looked ≡ z.own.looked = sym (ap (λ (v : DomainView). v.own.looked) is) in
    let ephemerons : y.own.ephemerons ≡ z.own.ephemerons = sym (ap (λ (v : DomainView). v.own.ephemerons) is) in
    let swept : y.own.swept ≡ z.own.swept = sym (ap (λ (v : DomainView). v.own.swept) is) in
    let finalisers : y.own.finalisers ≡ z.own.finalisers = sym (ap (λ (v : DomainView). v.own.finalisers) is) in
    let front : y.seen.front ≡ z.seen.front = sym (ap (λ (v : DomainView). v.seen.front) is) in record {
      view = is ∙ (ap arrived_view w.view ∙ λ i. arrived_view (built x (looked i) (ephemerons i) (swept i) (finalisers i) (front i) None (record x.seen.share { progress = w.progress_is i; unmarked = w.unmarked_is i })));
      looked = λ other. sym looked ∙ w.looked other;
      again = λ class. subst (λ (l : List Search). IsNoLater (place_of (search_at l class)) (place_of (search_at x.own.looked class))) looked (w.again class);
      listed = λ other. sym ephemerons ∙ w.listed other;
      room = subst (λ (l : Bounded ℕ). x.own.ephemerons.room ≤ l.room) ephemerons w.room;
      swept = λ unsettled unswept. sym swept ∙ w.swept unsettled unswept;
      anew = λ e. sym swept ∙ w.anew e;
      all_swept = λ e. subst (λ (s : Swept). k.pools ≤ s.spot.pool) swept (w.all_swept e);
      finalisers = λ undecided unsettled. sym finalisers ∙ w.finalisers undecided unsettled;
      decided = λ e. subst (Decided x.own.finalisers) finalisers (w.decided e);
      last_decided = λ e. subst (LastsDecided x.own.finalisers) finalisers (w.last_decided e);
      registered = ap count_of (sym finalisers) ∙ w.registered;
      held = λ c old. subst (RefersOld c) finalisers (w.held c old);
      front = subst (λ (f : List Entry). IsFrontOf x.own.number f x.seen.front) front w.front;
      led = subst (λ (f : List Entry). IsLed x.own.number f x.seen.front) front w.led;
      legal = λ legal. subst (λ (f : List Entry). Legal (sizes_in k) f) front (w.legal legal);
      stays = λ other undecided unsettled. sym front ∙ w.stays other undecided unsettled;
    }
