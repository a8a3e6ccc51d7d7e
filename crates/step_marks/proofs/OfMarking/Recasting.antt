-- A step that changes what a domain knows of its phase, and maybe what is marked and words in the heap: blocks and pools stay.
use Rattle.std.proofs.Common.{◌≡◌, ◌≢◌, ℕ, List, length, set, refl, inl}
use mathlib.Core.Option.{some}
use lib.ListN.{get_elem?}
use Rattle.model_core.specs.declared.entry.Entry.{Entry}
use Rattle.model_cycle.specs.Beside.{Snapshot}
use Rattle.model_cycle.specs.Shares.{Shares}
use Rattle.heap_rule.specs.declared.config.Config.{Config}
use Rattle.heap_rule.specs.declared.view.DomainView.{DomainView}
use Rattle.heap_rule.specs.declared.view.Share.{Share}
use Rattle.heap_rule.specs.Cycles.{Cycled, Cycling}
use Rattle.heap_rule.specs.Places.{Paint}
use Rattle.heap_rule.specs.Pools.{Grid, Hunter}
use Rattle.heap_rule.specs.Rule.{Account, AllFound, Area, Good, Making, Rule, Sharing, state_of}
use Rattle.heap_rule.specs.Sweeping.{SweepsIn}
use Rattle.heap_rule.specs.Views.{one}
use Rattle.heap_rule.proofs.Keeps.{Control, Words, controls_kept, hunter_as, my_good, writes}
use Rattle.step_marks.specs.Marking.Looks.{with_share}

module _ (k : Config) (s : Words) (r : Rule k s) (id : ℕ) (hist : List Entry) (x : DomainView) (at : get_elem? s.views id ≡ some (one k hist x)) (share' : Share) (paint' : Paint) (shares' : Shares) (past' : Snapshot) (words' : List ℕ) where
  open r.account use {live, pause, tenancy as t}

  abbrev c' : Cycling
  c' = record r.account.cycling { paint = paint'; shares = shares'; past = past' }

  abbrev all' : Account
  all' = record r.account { cycling = c' }

  abbrev y : DomainView
  y = with_share x share'

  -- What it owes
  pub record Recasts : Type 0 where
    pub wide : length words' ≡ length s.words
    pub control : Control k s.words words'
    pub found : AllFound k paint' live (state_of k r.account.log).graph words'
    pub grid : Grid k t live words'
    pub cycle : Cycled k (state_of k r.account.log) live pause t c' words'
    pub makings : (z : DomainView) → Area k live z → Making k s.words z → Making k words' z
    pub hunters : (z : DomainView) → Good k r.account s.words z → Hunter k t words' z
    pub sharing : Sharing k all' words' x.own.number x.own.registers x.own.finalisers x.own.ephemerons.items x.seen.stage share'
    pub sharings : (z : DomainView) → z.own.number ≢ x.own.number → Good k r.account s.words z → Sharing k all' words' z.own.number z.own.registers z.own.finalisers z.own.ephemerons.items z.seen.stage z.seen.share
    pub sweeps : SweepsIn t c' y
    pub others_sweep : (z : DomainView) → Good k r.account s.words z → SweepsIn t c' z

  pub recasts : Recasts → Rule k record { words = words'; homes = s.homes; views = set s.views id (one k hist y) }
  recasts o =
      let g = my_good k s r id hist x at in
      let making = o.makings x g.area g.making in
      writes k s r id hist x at y words' c' record {
        same = refl;
        kind = refl;
        front = inl refl;
        still = g.still;
        wide = o.wide;
        controls = controls_kept k s r id hist x at words' o.control;
        found = o.found;
        stood = record { wide = g.stood.wide; each = g.stood.each; serial = g.stood.serial; enrolled = g.stood.enrolled };
        area = record { room = g.area.room; free = g.area.free; classes = g.area.classes };
        making = record { fits = making.fits; written = making.written };
        makings = λ z _ area m. o.makings z area m;
        grid = o.grid;
        hunter = hunter_as k t words' x y refl refl refl refl refl refl refl (o.hunters x g);
        hunters = λ z _ h. o.hunters z h;
        cycle = o.cycle;
        sharing = o.sharing;
        sharings = o.sharings;
        sweeps = o.sweeps;
        others_sweep = o.others_sweep;
      }
