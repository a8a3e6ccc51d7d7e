-- An own entry of a running domain at which no word of the heap changes.
use Rattle.std.proofs.Common.{◌≡◌, ◌≢◌, ℕ, false, List, [], ◌∷◌, ◌++◌, set, sym, refl, subst, Option}
use mathlib.Core.Option.{some}
use lib.ListN.{get_elem?}
use Rattle.model_core.specs.declared.entry.Entry.{Entry}
use Rattle.model_core.specs.declared.state.Mode.TheVariants.{Open}
use Rattle.model_core.specs.declared.state.State as model
use Rattle.model_core.specs.Entries.{Allowed, next}
use Rattle.model_core.specs.Graph.{Graph}
use Rattle.model_core.specs.History.{is_entry_of}
use Rattle.heap_words.specs.declared.value.Value.{Value}
use Rattle.heap_rule.specs.declared.config.Config.{Config}
use Rattle.heap_rule.specs.declared.phase.Kind.TheVariants.{Run}
use Rattle.heap_rule.specs.declared.phase.Stage.TheVariants.{In}
use Rattle.heap_rule.specs.declared.view.DomainView.{DomainView}
use Rattle.heap_rule.specs.declared.view.Finalisers.{Finalisers}
use Rattle.heap_rule.specs.declared.view.Share.{Share}
use Rattle.heap_rule.specs.Rule.{AllFound, Rule, Stood, state_of}
use Rattle.heap_rule.specs.Sweeping.{SweepsIn}
use Rattle.heap_rule.specs.Views.{one}
use Rattle.heap_rule.proofs.Advancing.{Advance}
use Rattle.heap_rule.proofs.FullnessLemmas.{full_stays, trace_collects}
use Rattle.heap_rule.proofs.Garbage.{garbage_same}
use Rattle.heap_rule.proofs.Keeps.{IsOfTrace, Words, appends, control_same, controls_kept, hunter_as, more_same, my_good, owes_as, recalls_same, run_settled}
use Rattle.heap_rule.proofs.Sharings.{with_weak}

module _ (k : Config) (s : Words) (r : Rule k s) (id : ℕ) (hist : List Entry) (x : DomainView) (at : get_elem? s.views id ≡ some (one k hist x)) (runs : x.seen.stage ≡ In Run) where
  abbrev now : model.State
  now = state_of k r.account.log

  -- the view behind the entry
  abbrev pub entry_view : Entry → List Value → Finalisers → Share → DomainView
  entry_view e registers fs share = record {
    own = record x.own { registers = registers; finalisers = fs };
    seen = record x.seen { front = r.account.log ++ e ∷ []; share = share };
  }

  -- What the entry owes
  pub record Unwritten (e : Entry) (weak : Option ℕ) (y : DomainView) : Type 0 where
    pub alone : (d : ℕ) → d ≢ x.own.number → is_entry_of d e ≡ false
    pub of_trace : IsOfTrace e
    pub allowed : Allowed now e
    pub is_open : (next now e).mode ≡ Open
    pub graph : (next now e).graph ≡ now.graph
    pub stood : Stood r.account.live (next now e) y
    pub advance : Advance k s r id hist x at e weak r.account.live

  pub unwritten_rule : (e : Entry) (registers : List Value) (fs : Finalisers) (share' : Share) (weak : Option ℕ) → share' ≡ with_weak x.seen.share weak → Unwritten e weak (entry_view e registers fs share')
      → Rule k record { words = s.words; homes = s.homes; views = set s.views id (one k hist (entry_view e registers fs share')) }
  unwritten_rule e registers fs share' weak shares o = let g = my_good k s r id hist x at in let y : DomainView = entry_view e registers fs share' in appends k s r id hist x at e y s.words r.account.live r.account.homes o.advance.past record {
    full = full_stays k r.account.log r.account.live r.account.tenancy.holder r.account.tenancy.fresh r.account.tenancy.garbage r.account.homes r.account.cycling.kind e (trace_collects e o.of_trace) r.whole.full;
    alone = o.alone;
    of_trace = o.of_trace;
    runs = runs;
    stage = refl;
    listing = refl;
    weak = weak;
    share = shares;
    advances = o.advance.advances;
    heads = λ a p e. refl;
    allowed = o.allowed;
    is_open = o.is_open;
    number = refl;
    front = refl;
    arrivals = refl;
    wide = refl;
    controls = controls_kept k s r id hist x at s.words (control_same k s.words);
    found = subst (λ (graph : Graph). AllFound k r.account.cycling.paint r.account.live graph s.words) (sym o.graph) r.whole.found;
    placed = r.whole.placed;
    spread = r.whole.spread;
    opened = r.whole.opened;
    settled = run_settled k s r id hist x at runs;
    owes = owes_as k r.account.live x y refl refl refl refl g.owes;
    recalls = λ d _. recalls_same d r.account.live;
    naming = r.whole.copies.naming;
    more = more_same r.account.live;
    stood = o.stood;
    area = record { room = g.area.room; free = g.area.free; classes = g.area.classes };
    making = record { fits = g.making.fits; written = g.making.written };
    areas = λ z _ h. h;
    makings = λ z _ _ h. h;
    grid = r.whole.grid;
    hunter = hunter_as k r.account.tenancy s.words x y refl refl refl refl refl refl refl g.hunter;
    hunters = λ z _ h. h.hunter;
    listed = record { all = g.listed.all; own = g.listed.own; lives = g.listed.lives };
    listeds = λ z _ h. h.listed;
    garbage = garbage_same k r.account.live r.account.tenancy r.account.cycling s.words r.whole.cycle.leaves;
    sweeps = subst (λ (share : Share). SweepsIn r.account.tenancy r.account.cycling (entry_view e registers fs share)) (sym shares) g.sweeps;
  }
