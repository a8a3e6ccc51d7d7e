-- What all steps of copying share: the rule holds again where the places, the pools and each domain meet it.
use Rattle.std.proofs.Common.{Option, ◌≤◌, ◌≡◌, ◌≢◌, ℕ, ◌+◌, ◌*◌, ◌<◌, Bool, false, cond, IsTrue, List, length, set, Some, sym, ap, ◌∙◌, subst, inl, inr, ⊎_elim, arith, refl}
use Rattle.std.proofs.lemmas.Option.{none-some}
use Rattle.heap_rule.specs.declared.view.Spare.{Spare}
use mathlib.Core.Option.{some}
use lib.ListN.{get_elem?}
use Rattle.model_core.specs.declared.entry.Entry.{Entry}
use Rattle.model_core.specs.declared.label.Label.{Label}
use Rattle.model_core.specs.declared.state.State as model
use Rattle.model_core.proofs.Reach.ReachLemmas.{true_or_false}
use Rattle.model_core.specs.Domains.{register, domain_at}
use Rattle.heap_words.specs.declared.colours.Colours.{Colours}
use Rattle.heap_words.specs.declared.value.Value as words
use Rattle.heap_rule.specs.declared.config.Config.{Config}
use Rattle.heap_rule.specs.declared.view.Copying.{Copying}
use Rattle.heap_rule.specs.declared.view.DomainView.{DomainView}
use Rattle.heap_rule.specs.declared.view.Finalisers.{Finalisers}
use Rattle.heap_rule.specs.declared.view.Hunt.{Hunt}
use Rattle.heap_rule.specs.declared.view.Share.{Share}
use Rattle.heap_rule.specs.declared.view.Search.{Search}
use Rattle.heap_rule.specs.Layout.{cursor, listed}
use Rattle.heap_rule.specs.declared.view.Swept.{Swept}
use Rattle.heap_rule.specs.declared.phase.Kind.TheVariants.{Run, Promote, Reset}
use Rattle.heap_rule.specs.declared.phase.Stage.TheVariants.{In}
use Rattle.heap_rule.specs.Changes.{value_at}
use Rattle.heap_rule.specs.Finalisers.{Enrolled}
use Rattle.heap_rule.specs.Copies.{Owes, Copies, Promoting, AllCleared}
use Rattle.heap_rule.specs.Cycles.{Cycling}
use Rattle.heap_rule.specs.Places.{Place, Live, Stands, Placed, Spread, More, colour_in, new_colour}
use Rattle.heap_rule.specs.Pools.{Tenancy, Pools, Grid, Drawers, Hunter, Takes, IsLeading}
use Rattle.heap_rule.specs.Room.{Room, Opened}
use Rattle.heap_rule.specs.Rule.{Account, state_of, AllFound, Stood, Area, Making, Rule}
use Rattle.heap_rule.specs.Views.{one}
use Rattle.heap_rule.proofs.Keeps.{control_same, more_same, opened_words, pools_same, room_words, still_as, Words, Control, my_good, remakes, knows_front, phases_same, cycle_control, covered_words, stands_more, nobody_leads, takes_drawable, resting_takes, resting_other, between_here, cycle_here, runs_here, sharing_here, sharings_here}
use Rattle.heap_rule.proofs.Advancing.{pooled_more}
use Rattle.heap_rule.proofs.BesideLemmas.{runs_as}
use Rattle.heap_rule.proofs.FinaliserLemmas.{enrolled_more}
use Rattle.heap_rule.proofs.PauseFacts.{run_promoting, staged_as, promote_now, promote_here, promote_rests}
use Rattle.heap_rule.specs.Ephemerons.{IsEpheAt, Listed}
use Rattle.heap_rule.specs.Rule.{Good}
use Rattle.heap_rule.specs.Sweeping.{Sweeps, SweepsIn}
use Rattle.heap_rule.proofs.Garbage.{KeepsGarbage, garbage_same, sweeps_on}
use Rattle.heap_rule.proofs.EphemeronLemmas.{listed_as, listed_on, ephe_more}
use Rattle.heap_rule.proofs.Sharings.{KeepsUnderway, SameCycle, kind_now}
use Rattle.heap_rule.specs.Fullness.{Homes, Fullness}
use Rattle.heap_rule.proofs.Stages.{copying_keeps}

module _ (k : Config) (s : Words) (r : Rule k s) (id : ℕ) (hist : List Entry) (x : DomainView) (at : get_elem? s.views id ≡ some (one k hist x)) (promotes : x.seen.stage ≡ In Promote) where
  abbrev pub now : model.State
  now = state_of k r.account.log

  pub promoting : Promoting r.account.pause
  promoting = promote_now r.account.pause x promotes (my_good k s r id hist x at).staged

  takes : Takes x.seen.stage
  takes = inr promotes

  -- it knows of no place that was free from the start
  pub no_spare : (z : Spare) → x.seen.spare ≡ Some z → ⊥
  no_spare z e = none-some z (sym ((my_good k s r id hist x at).resting.spare (λ runs. let clash : In Promote ≡ In Run = sym promotes ∙ runs in cc)) ∙ e)

  -- blocks of minor areas are marked exactly where a cycle goes on beside running domains
  pub young_marked : (a : ℕ) (p : Place) → r.account.live a ≡ Some p → k.pools * 4096 < a → r.account.cycling.paint.marks.marked p.label ≡ r.account.cycling.armed
  young_marked a p lives young = let b = between_here k s r id hist x at Promote tt promotes in
      ⊎_elim (λ (is : IsTrue r.account.cycling.armed). (b.beside is).young a p lives young ∙ sym is) (λ (none : r.account.cycling.armed ≡ false). b.unmarked none p.label ∙ sym none) (true_or_false r.account.cycling.armed)

  -- so they have the colour of new blocks, as far as the domain knows it
  pub young_colour : (a : ℕ) (p : Place) → r.account.live a ≡ Some p → k.pools * 4096 < a → (c : Colours) → x.seen.share.colours ≡ Some c → (b : Bool) → x.seen.share.armed ≡ Some b → colour_in r.account.cycling.paint p.label ≡ new_colour b c
  young_colour a p lives young c known b tells =
      let paint = r.account.cycling.paint in
      let sh = (my_good k s r id hist x at).sharing in
      ap (λ (m : Bool). cond m paint.colours.marked paint.colours.unmarked) (young_marked a p lives young ∙ sym (sh.leading.armed b tells).1) ∙ ap (λ (z : Colours). new_colour b z) (sym (sh.telling.colours c known))

  -- the domain with what of another view a step of a domain that copies may change
  abbrev pub copying_as : DomainView → DomainView
  copying_as y = record {
    own = record y.own { number = x.own.number; arrivals = x.own.arrivals; ephemerons = x.own.ephemerons; swept = x.own.swept };
    seen = record x.seen { made = y.seen.made; notes = y.seen.notes; hunt = y.seen.hunt; copying = y.seen.copying; remembered = y.seen.remembered };
  }

  -- what a step of a domain that copies owes: no entry stands, its phase and its front stay
  pub record Promotes (y : DomainView) (words' : List ℕ) (live' : Live) (t' : Tenancy) (homes' : Homes) : Type 0 where
    pub same : y ≡ copying_as y
    pub wide : length words' ≡ length s.words
    pub control : Control k s.words words'
    pub found : AllFound k r.account.cycling.paint live' now.graph words'
    pub full : Fullness k r.account.log live' t'.holder t'.fresh t'.garbage homes' r.account.cycling.kind
    pub garbage : KeepsGarbage k live' r.account.tenancy t' s.words words'
    pub holders : (q : ℕ) → t'.holder q ≡ r.account.tenancy.holder q
    pub no_more : (a : ℕ) → IsEpheAt live' a → IsEpheAt r.account.live a
    pub placed : Placed k live'
    pub spread : Spread k live'
    pub more : More r.account.live live'
    pub young : (a : ℕ) (p : Place) → live' a ≡ Some p → k.pools * 4096 < a → (q : Place) × (r.account.live a ≡ Some q) × (q.label ≡ p.label)
    pub copies : Copies k live'
    pub cleared : AllCleared k live' r.account.pause
    pub pools : Pools k t' words'
    pub grid : Grid k t' live' words'
    pub drawers : Drawers r.account.pause t'
    pub room : Room k live' r.account.pause t'.stock words'
    pub opened : Opened k live' words'
    pub stood : Stood live' now y
    pub area : Area k live' y
    pub making : Making k words' y
    pub hunter : Hunter k t' words' y
    pub owes : Owes k live' y
    pub areas : (z : DomainView) → z.own.number ≢ x.own.number → Area k r.account.live z → Area k live' z
    pub makings : (z : DomainView) → z.own.number ≢ x.own.number → Area k r.account.live z → Making k s.words z → Making k words' z
    pub hunters : (z : DomainView) → z.own.number ≢ x.own.number → Hunter k r.account.tenancy s.words z → Hunter k t' words' z
    pub owe : (z : DomainView) → z.own.number ≢ x.own.number → Owes k r.account.live z → Owes k live' z

  pub promotes_again : (y : DomainView) (words' : List ℕ) (live' : Live) (t' : Tenancy) (homes' : Homes) → Promotes y words' live' t' homes' → Rule k record { words = words'; homes = s.homes; views = set s.views id (one k hist y) }
  promotes_again y words' live' t' homes' o =
      let number_same = ap (λ (z : DomainView). z.own.number) o.same in
      let arrivals_same = ap (λ (z : DomainView). z.own.arrivals) o.same in
      let stage_same = ap (λ (z : DomainView). z.seen.stage) o.same in
      let front_same = ap (λ (z : DomainView). z.seen.front) o.same in
      let free_same = ap (λ (z : DomainView). z.seen.free) o.same in
      let spare_same = ap (λ (z : DomainView). z.seen.spare) o.same in
      let listing_same = ap (λ (z : DomainView). z.seen.listing) o.same in
      let share_same = ap (λ (z : DomainView). z.seen.share) o.same in
      let ephemerons_same = ap (λ (z : DomainView). z.own.ephemerons.items) o.same in
      let swept_same = ap (λ (z : DomainView). z.own.swept) o.same in
      let g = my_good k s r id hist x at in
      let same : SameCycle s.words words' = cycle_control k s.words words' o.control in
      let here = promote_here r.account.pause x promotes g.staged in
      let waits : y.own.arrivals ≡ r.account.pause.phase + 1 → ⊥ = (λ up. let e : y.own.arrivals ≡ r.account.pause.phase + 1 = up in let f : x.own.arrivals ≡ r.account.pause.phase = here in let h : y.own.arrivals ≡ x.own.arrivals = arrivals_same in omega arith) in
      let listeds : (z : DomainView) → Good k r.account s.words z → Listed live' t'.holder t'.garbage z.own.number z.own.ephemerons.items =
      (λ z h. listed_on r.account.live live' r.account.tenancy.holder t'.holder r.account.tenancy.garbage t'.garbage z.own.number z.own.ephemerons.items (λ q c e. sym (o.holders q) ∙ e) (λ q c e. o.holders q ∙ e) o.no_more
      (λ a e. inl (ephe_more r.account.live live' o.more a e)) (λ a e. o.garbage.same a ∙ e) h.listed) in
      let all' : Account = record r.account { live = live'; tenancy = t'; homes = homes' } in
      let c : Cycling = r.account.cycling in
      let sweeps_then : (z : DomainView) → SweepsIn r.account.tenancy c z → SweepsIn t' c z =
      (λ z. sweeps_on k r.account.live r.account.tenancy c s.words r.whole.cycle.leaves live' t' words' o.garbage r.whole.pools (λ q d b e. (o.pools.owned_by q d b e).2) c.kind c.shares.arrived z.own.number z.own.ephemerons.items z.own.swept z.seen.share.reaping z.own.swept.top (let n : ℕ = z.own.swept.top in let same : n ≤ n = omega arith in same) (λ q c e. inl (sym (o.holders q) ∙ e))) in
      let marked : Label → Bool = c.paint.marks.marked in
      let copies_now : c.kind ≡ Promote = kind_now k r.account.pause c x Promote promotes g.staged r.whole.cycle.told in
      let keeps : KeepsUnderway k now now r.account.live live' c c.past = (λ is u. record {
        covered = u.covered;
        young = λ a p e high. let q = o.young a p e high in subst (λ (l : Label). IsTrue (marked l)) q.2 (u.young a q.0 q.1 high);
        pooled = λ l new is_marked. pooled_more k r.account.live live' l o.more (u.pooled l new is_marked);
        settled = u.settled;
        rooted = λ (resets : c.kind ≡ Reset). absurd (let clash : Promote ≡ Reset = sym copies_now ∙ resets in cc);
      }) in
      let not_run : (z : DomainView) → Good k r.account s.words z → z.seen.stage ≡ In Run → ⊥ = (λ z h runs. run_promoting r.account.pause z runs h.staged promoting) in
      remakes k s r id hist x at y all' words'
      record {
        wide = o.wide ∙ r.whole.wide;
        legal = r.whole.legal;
        full = o.full;
        found = o.found;
        placed = o.placed;
        spread = o.spread;
        settled = inr promoting;
        copies = o.copies;
        cleared = o.cleared;
        emptied = λ h. absurd (promote_rests r.account.pause promoting h);
        phases = phases_same k r.account.pause s.words words' o.control r.whole.phases;
        unwished = λ j odd led runs. o.control 0 (omega arith) ∙ r.whole.unwished j odd led runs;
        endings = o.control 8 (omega arith) ∙ r.whole.endings;
        pools = o.pools;
        reserved = λ keeps. absurd (copying_keeps r.account.pause promoting keeps);
        covered = λ goes q inside free. covered_words k r.account.pause r.account.tenancy s.words words' (o.control 6 (omega arith)) (o.control 7 (omega arith)) (λ i h. let g : i < k.pools = h in o.control (11 + i) (omega arith)) r.whole.pools.few r.whole.covered goes q inside (sym (o.holders q) ∙ free);
        grid = o.grid;
        drawers = o.drawers;
        room = o.room;
        unused = λ rests. absurd (rests promoting);
        opened = o.opened;
        drawable = takes_drawable k r.account.pause words' x takes g.staged;
        cycle = cycle_here k s r id hist x at Promote tt promotes now live' t' c.past words' refl o.garbage same keeps;
      }
      (knows_front k s r id hist x at y number_same (inl front_same))
      record {
        stood = o.stood;
        area = o.area;
        making = o.making;
        staged = staged_as r.account.pause x y number_same arrivals_same stage_same g.staged;
        still = still_as r.account.log x y front_same stage_same g.still;
        hunter = o.hunter;
        resting = resting_takes k s.words words' x y takes (subst Takes (sym stage_same) takes) (λ n. free_same ∙ g.resting.free (λ e. n (stage_same ∙ e))) (λ n. spare_same ∙ g.resting.spare (λ e. n (stage_same ∙ e))) listing_same g.resting;
        took_back = λ kind leads last. absurd (nobody_leads r.account.pause x x takes g.staged g.staged (subst IsLeading (sym (sym stage_same ∙ leads)) tt));
        owes = o.owes;
        rooted = (λ _ up. absurd (waits up), ⊎_elim (λ h. absurd (waits h.1)) (λ h. absurd (promote_rests r.account.pause promoting h)));
        set_back = λ h. absurd (nobody_leads r.account.pause x x takes g.staged g.staged (subst IsLeading (sym (sym stage_same ∙ h.0)) tt));
        sharing = sharing_here k s r id hist x at Promote tt promotes all' words' c.past x.seen.share.weak y refl same number_same stage_same share_same
            (runs_as k live' t'.holder c.armed c.past marked words' x.own.number y.own.number x.seen.stage y.seen.stage x.seen.share y.seen.share number_same stage_same share_same (runs_here k s r id hist x at all' words' refl x (λ runs. absurd (not_run x g runs)) g));
        listed = listed_as live' t'.holder t'.garbage x.own.number y.own.number x.own.ephemerons.items y.own.ephemerons.items number_same ephemerons_same (listeds x g);
        sweeps = subst (λ (z : ℕ × List ℕ × Swept × Share). Sweeps t'.holder t'.garbage c.kind c.shares.arrived z.0 z.1 z.2 z.3.reaping) (λ i. (sym number_same i, sym ephemerons_same i, sym swept_same i, sym share_same i)) (sweeps_then x g.sweeps);
      }
      (λ z _ other h. record {
        stood = record { wide = h.stood.wide; each = λ q few. stands_more r.account.live live' (value_at z.own.registers q) (register now z.own.number q) o.more (h.stood.each q few); serial = h.stood.serial; enrolled = enrolled_more r.account.live live' now z.own.number z.own.finalisers o.more h.stood.enrolled };
        area = o.areas z other h.area;
        making = o.makings z other h.area h.making;
        staged = h.staged;
        still = h.still;
        hunter = o.hunters z other h.hunter;
        resting = resting_other k r.account.pause s.words words' x z takes g.staged h.staged h.resting;
        took_back = λ kind leads last. absurd (nobody_leads r.account.pause x z takes g.staged h.staged (subst IsLeading (sym leads) tt));
        owes = o.owe z other h.owes;
        rooted = h.rooted;
        set_back = λ b. absurd (nobody_leads r.account.pause x z takes g.staged h.staged (subst IsLeading (sym b.0) tt));
        sharing = sharings_here k s r id hist x at Promote tt promotes all' words' c.past refl same z h (runs_here k s r id hist x at all' words' refl z (λ runs. absurd (not_run z h runs)) h);
        listed = listeds z h;
        sweeps = sweeps_then z h.sweeps;
      })

  -- nothing lives elsewhere, and no word changes
  pub stood_same : (y : DomainView) → y.own.number ≡ x.own.number → y.own.registers ≡ x.own.registers → y.own.serial ≡ x.own.serial → y.own.finalisers ≡ x.own.finalisers → (live' : Live) → More r.account.live live' → Stood live' now y
  stood_same y number registers serial finalisers live' more = let st = (my_good k s r id hist x at).stood in record {
    wide = ap (λ (l : List words.Value). length l) registers ∙ st.wide;
    each = λ q few. subst (λ (z : List words.Value × ℕ). Stands live' (value_at z.0 q) (register now z.1 q)) (λ i. (sym registers i, sym number i)) (stands_more r.account.live live' (value_at x.own.registers q) (register now x.own.number q) more (st.each q few));
    serial = serial ∙ (st.serial ∙ ap (λ (d : ℕ). (domain_at now d).serial) (sym number));
    enrolled = subst (λ (z : Finalisers × ℕ). Enrolled live' now z.1 z.0) (λ i. (sym finalisers i, sym number i)) (enrolled_more r.account.live live' now x.own.number x.own.finalisers more st.enrolled);
  }

  -- What a step owes at which no block comes, goes or moves: registers, registrations, prepared places and what it has met may differ, and words where no block lives
  module _ (registers : List words.Value) (finalisers : Finalisers) (prepared : List (Option ℕ)) (looked : List Search) (hunt : Hunt) (copying : Copying) where
    abbrev then : DomainView
    then = record { own = record x.own { registers = registers; finalisers = finalisers; prepared = prepared; looked = looked }; seen = record x.seen { hunt = hunt; copying = copying } }

    module _ (words' : List ℕ) (places : ℕ → Option ℕ) where
      abbrev t' : Tenancy
      t' = record r.account.tenancy { prepared = places }

      pub record KeepsBlocks : Type 0 where
        pub wide : length words' ≡ length s.words
        pub control : Control k s.words words'
        pub found : AllFound k r.account.cycling.paint r.account.live now.graph words'
        pub garbage : KeepsGarbage k r.account.live r.account.tenancy t' s.words words'
        pub grid : Grid k t' r.account.live words'
        pub drawers : Drawers r.account.pause t'
        pub stood : Stood r.account.live now then
        pub making : Making k words' x
        pub hunter : Hunter k t' words' then
        pub owes : Owes k r.account.live then
        pub makings : (z : DomainView) → Making k s.words z → Making k words' z
        pub hunters : (z : DomainView) → z.own.number ≢ x.own.number → Hunter k r.account.tenancy s.words z → Hunter k t' words' z

      pub keeps_blocks : KeepsBlocks → Rule k record { words = words'; homes = s.homes; views = set s.views id (one k hist then) }
      keeps_blocks o =
          let area = (my_good k s r id hist x at).area in
          let live = r.account.live in
          let t = r.account.tenancy in
          let counts : (listed words' ≡ listed s.words) × (cursor words' ≡ cursor s.words) = (o.control 6 (omega arith), o.control 7 (omega arith)) in
          let pools = pools_same k t s.words words' o.control r.whole.pools in
          promotes_again then words' live t' r.account.homes record {
            same = refl;
            wide = o.wide;
            control = o.control;
            found = o.found;
            full = r.whole.full;
            garbage = o.garbage;
            holders = λ q. refl;
            no_more = λ a e. e;
            placed = r.whole.placed;
            spread = r.whole.spread;
            more = more_same live;
            young = λ b q e _. (q, e, refl);
            copies = r.whole.copies;
            cleared = r.whole.cleared;
            pools = record { few = pools.few; inside = pools.inside; once = pools.once; untaken = pools.untaken; owners = pools.owners; owned_by = pools.owned_by; drawn_by = pools.drawn_by; one_each = pools.one_each; asked = pools.asked };
            grid = o.grid;
            drawers = o.drawers;
            room = room_words k live r.account.pause t.stock s.words words' (λ _. counts) r.whole.room;
            opened = opened_words k live s.words words' (λ _ _ _ _. counts.0) r.whole.opened;
            stood = o.stood;
            area = record { room = area.room; free = area.free; classes = area.classes };
            making = record { fits = o.making.fits; written = o.making.written };
            hunter = o.hunter;
            owes = o.owes;
            areas = λ z _ h. h;
            makings = λ z _ _ m. o.makings z m;
            hunters = o.hunters;
            owe = λ z _ w. w;
          }

    -- and where it writes no word
    pub keeps_words : Stood r.account.live now then → Hunter k r.account.tenancy s.words then → Owes k r.account.live then → Rule k record { words = s.words; homes = s.homes; views = set s.views id (one k hist then) }
    keeps_words stood hunter owes = keeps_blocks s.words r.account.tenancy.prepared record {
      wide = refl;
      control = control_same k s.words;
      found = r.whole.found;
      garbage = garbage_same k r.account.live r.account.tenancy r.account.cycling s.words r.whole.cycle.leaves;
      grid = r.whole.grid;
      drawers = r.whole.drawers;
      stood = stood;
      making = (my_good k s r id hist x at).making;
      hunter = hunter;
      owes = owes;
      makings = λ z m. m;
      hunters = λ z _ h. h;
    }
