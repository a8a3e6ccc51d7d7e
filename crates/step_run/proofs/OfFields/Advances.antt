-- What the own entries of a running domain leave of a cycle beside it.
use Rattle.std.proofs.Common.{◌≡◌, ℕ, Bool, IsTrue, false, ne_eqb, List, set, sym, refl, None}
use mathlib.Core.Option.{some}
use lib.ListN.{get_elem?}
use Rattle.model_core.specs.declared.command.Command.{Command}
use Rattle.model_core.specs.declared.entry.Entry.{Entry}
use Rattle.model_core.specs.declared.entry.Entry.TheVariants.{Command as CommandOf}
use Rattle.model_core.specs.declared.reply.Applied.{Applied}
use Rattle.model_core.specs.declared.graph.Value as model_value
use Rattle.model_core.specs.declared.state.State as model
use Rattle.model_core.specs.Graph.{Graph}
use Rattle.model_core.specs.Commands.{FitsMode}
use Rattle.model_core.specs.Domains.{domain_at}
use Rattle.model_core.specs.Entries.{next}
use Rattle.model_core.proofs.Commands.LeavesLemmas.{Leaves}
use Rattle.model_core.proofs.Commands.MoveLemmas.{registers_one}
use Rattle.model_cycle.specs.Beside.{WriteBarrier, owed_after}
use Rattle.heap_words.specs.declared.value.Value.{Value}
use Rattle.heap_rule.specs.declared.config.Config.{Config}
use Rattle.heap_rule.specs.declared.view.DomainView.{DomainView}
use Rattle.heap_rule.specs.Rule.{state_of, Rule}
use Rattle.heap_rule.specs.Standing.{Acts}
use Rattle.heap_rule.specs.Views.{one}
use Rattle.heap_rule.proofs.Advancing.{Advance, underway_here, advances_command, advances_stays}
use Rattle.heap_rule.proofs.Entering.{EntersTo, running, open_after, enters_rule, entered_view}
use Rattle.heap_rule.proofs.FinaliserLemmas.{work_command}
use Rattle.heap_rule.proofs.Keeps.{Words, IsOfTrace, more_same}
use Rattle.heap_rule.proofs.Values.{AllStand}

module _ (k : Config) (s : Words) (r : Rule k s) (id : ℕ) (hist : List Entry) (x : DomainView) (at : get_elem? s.views id ≡ some (one k hist x)) (acts : Acts k x) where
  abbrev now : model.State
  now = state_of k r.account.log

  abbrev d : ℕ
  d = x.own.number

  -- a command that is no weak read, and overwrites nothing that must be darkened first
  pub advance_command : (c : Command) → owed_after r.account.cycling.past.owed d c ≡ r.account.cycling.past.owed
      → (IsTrue r.account.cycling.armed → WriteBarrier r.account.cycling.past r.account.cycling.paint.marks now d c) → Advance k s r id hist x at (CommandOf d c false) None r.account.live
  advance_command c quiet barrier = advances_command k s r id hist x at acts.runs acts.paid c r.account.live quiet (more_same r.account.live) (λ is. (underway_here k s r id hist x at acts.runs is).young) barrier

  -- an own command that leaves graph, registers and queue
  pub advance_quiet : (c : Command) (full : Bool) (serial : ℕ) (answer : Applied) → (domain_at (next now (CommandOf d c full)) d).queue ≡ (domain_at now d).queue
      → Leaves now (CommandOf d c full) d now.graph (domain_at now d).registers serial answer → Advance k s r id hist x at (CommandOf d c full) None r.account.live
  advance_quiet c full serial answer queue leaves = advances_stays k s r id hist x at acts.runs acts.paid (CommandOf d c full) (λ m other. ne_eqb d m (λ e. other (sym e))) tt leaves.graph_is leaves.registers_are queue

  -- a command that is refused
  pub advance_refused : (c : Command) (answer : Applied) → registers_one c ≡ false → Leaves now (CommandOf d c false) d now.graph (domain_at now d).registers (domain_at now d).serial answer
      → Advance k s r id hist x at (CommandOf d c false) None r.account.live
  advance_refused c answer unregistering leaves = advance_quiet c false (domain_at now d).serial answer (work_command now d c false unregistering).queue leaves

  -- an entry after which the domain owes nothing
  pub record EntersPaid (graph : Graph) (e : Entry) (registers : List Value) (answer : Applied) : Type 0 where
    pub enters : EntersTo k s r id hist x at acts graph e registers answer
    pub none : enters.weak ≡ None

  pub paid_command : (graph : Graph) (c : Command) → registers_one c ≡ false → FitsMode now d c → (registers : List Value) (answer : Applied) (theirs : List model_value.Value) → AllStand r.account.live registers theirs
      → Advance k s r id hist x at (CommandOf d c false) None r.account.live → Leaves now (CommandOf d c false) d graph theirs (domain_at now d).serial answer → EntersPaid graph (CommandOf d c false) registers answer
  paid_command graph c unregistering fits registers answer theirs stand advance leaves = record {
    enters = record {
      alone = λ m other. ne_eqb d m (λ e. other (sym e));
      allowed = record { running = running k s r id hist x at acts; fits = fits; full_fits = tt };
      is_open = open_after k s r id hist x at acts c false;
      work = work_command now d c false unregistering;
      theirs = theirs;
      stand = stand;
      weak = None;
      advance = advance;
      leaves = leaves;
    };
    none = refl;
  }

  -- a command that is refused
  pub paid_refused : (c : Command) → registers_one c ≡ false → FitsMode now d c → (registers : List Value) (answer : Applied) → AllStand r.account.live registers (domain_at now d).registers
      → Leaves now (CommandOf d c false) d now.graph (domain_at now d).registers (domain_at now d).serial answer → EntersPaid now.graph (CommandOf d c false) registers answer
  paid_refused c unregistering fits registers answer stand leaves = paid_command now.graph c unregistering fits registers answer (domain_at now d).registers stand (advance_refused c answer unregistering leaves) leaves

  pub paid_rule : (e : Entry) (registers : List Value) (answer : Applied) → EntersPaid now.graph e registers answer → IsOfTrace e
      → Rule k record { words = s.words; homes = s.homes; views = set s.views id (one k hist (entered_view k s r id hist x at acts e registers)) }
  paid_rule e registers answer o of_trace = enters_rule k s r id hist x at acts e registers answer o.enters of_trace o.none
