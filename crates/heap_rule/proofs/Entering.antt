-- An own entry that changes registers and no word of the heap.
use Rattle.std.proofs.Common.{◌≡◌, ◌≢◌, ℕ, ◌+◌, ◌<◌, Bool, false, List, [], ◌∷◌, ◌++◌, length, get_or, set, sym, refl, ap, ◌∙◌, subst, ne_eqb, Option, None}
use mathlib.Core.Option.{some}
use lib.ListN.{get_elem?}
use Rattle.model_core.specs.declared.command.Command.{Command}
use Rattle.model_core.specs.declared.entry.Entry.{Entry}
use Rattle.model_core.specs.declared.entry.Entry.TheVariants.{Command as CommandOf}
use Rattle.model_core.specs.declared.reply.Applied.{Applied}
use Rattle.model_core.specs.declared.graph.Value as model_value
use Rattle.model_core.specs.declared.graph.Value.TheVariants.{Block, Nothing}
use Rattle.model_core.specs.declared.graph.Node.{Node}
use Rattle.model_core.specs.declared.label.Label.{Label}
use Rattle.model_core.specs.declared.reply.Applied.TheVariants.{Replied}
use Rattle.model_core.specs.declared.reply.Reply.TheVariants.{Block as BlockReply}
use Rattle.model_core.specs.declared.state.State as model
use Rattle.model_core.specs.Graph.{Graph}
use Rattle.model_core.specs.declared.state.Mode.TheVariants.{Open}
use Rattle.model_core.specs.Commands.{FitsMode, allocated, outcome}
use Rattle.model_core.specs.Domains.{domain_at, IsShaped}
use Rattle.model_core.specs.Entries.{Allowed, next}
use Rattle.model_core.specs.History.{is_entry_of}
use Rattle.model_core.proofs.Histories.ShapeAfterLemmas.{shaped-history}
use Rattle.model_core.proofs.Commands.FrameLemmas.{inside_running, frame_command}
use Rattle.model_core.proofs.Histories.FrontLemmas.{answers_push}
use Rattle.model_core.proofs.Commands.LeavesLemmas.{Leaves, leaves_allocation}
use Rattle.heap_words.specs.Remembered.Bounded.{Bounded}
use Rattle.heap_words.specs.declared.value.Value.{Value}
use Rattle.heap_words.specs.declared.value.Value.TheVariants.{Ref}
use Rattle.heap_rule.specs.declared.change.Change.{Change}
use Rattle.heap_rule.specs.declared.config.Config.{Config}
use Rattle.heap_rule.specs.declared.view.DomainView.{DomainView}
use Rattle.heap_rule.specs.declared.view.Own.{Own}
use Rattle.heap_rule.specs.declared.view.Seen.{Seen}
use Rattle.heap_rule.specs.Limits.{sizes_in}
use Rattle.heap_rule.specs.Places.{Live, More, Stands}
use Rattle.heap_rule.specs.Changes.{value_at, changed}
use Rattle.heap_rule.specs.Views.{one}
use Rattle.heap_rule.specs.Rule.{state_of, Stood, Rule}
use Rattle.heap_rule.specs.Standing.{Acts, Entered, with_front, with_own, with_registers}
use Rattle.heap_rule.proofs.ChangeLemmas.{changed_only}
use Rattle.heap_rule.specs.Token.{next_label}
use Rattle.heap_rule.proofs.Born.{all_more}
use Rattle.heap_rule.proofs.Values.{AllStand, holds, stand_set}
use Rattle.heap_rule.specs.declared.view.Share.{Share}
use Rattle.heap_rule.proofs.Sharings.{with_weak}
use Rattle.heap_rule.proofs.Advancing.{Advance}
use Rattle.heap_rule.proofs.Keeps.{Words, IsOfTrace, mine, my_good, own, legal_entry, run_open}
use Rattle.model_core.proofs.Commands.MoveLemmas.{registers_one}
use Rattle.heap_rule.specs.declared.view.Finalisers.{Finalisers}
use Rattle.heap_rule.specs.Finalisers.{Enrolled, StandsWaiting}
use Rattle.heap_rule.proofs.FinaliserLemmas.{KeepsWork, enrolled_as, enrolled_more, paired_none, work_command}
use Rattle.heap_rule.proofs.Unwritten.{unwritten_rule}

module _ (k : Config) (s : Words) (r : Rule k s) (id : ℕ) (hist : List Entry) (x : DomainView) (at : get_elem? s.views id ≡ some (one k hist x)) (acts : Acts k x) where
  abbrev now : model.State
  now = state_of k r.account.log

  shaped : IsShaped now
  shaped = shaped-history (sizes_in k) r.account.log r.limits

  -- a domain that acts runs on in the state after the whole history
  pub running : (domain_at now x.own.number).ended ≡ false
  running = (own k s r id hist x at).ended ∙ acts.goes_on

  -- and is one of that state's
  pub inside_state : x.own.number < length now.domains
  inside_state = inside_running now.domains x.own.number running

  -- the registers of the token stand for those of the state
  pub registers_stand : AllStand r.account.live x.own.registers (domain_at now x.own.number).registers
  registers_stand = record {
    wide = (my_good k s r id hist x at).stood.wide;
    long = shaped.register_count x.own.number inside_state;
    each = (my_good k s r id hist x at).stood.each;
  }

  -- What an own entry owes that leaves this graph: the registers then stand for those that it leaves
  pub record EntersTo (graph : Graph) (e : Entry) (registers : List Value) (answer : Applied) : Type 0 where
    pub alone : (d : ℕ) → d ≢ x.own.number → is_entry_of d e ≡ false
    pub allowed : Allowed now e
    pub is_open : (next now e).mode ≡ Open
    pub work : KeepsWork now (next now e) x.own.number
    pub theirs : List model_value.Value
    pub stand : AllStand r.account.live registers theirs
    pub weak : Option ℕ
    pub advance : Advance k s r id hist x at e weak r.account.live
    pub leaves : Leaves now e x.own.number graph theirs (domain_at now x.own.number).serial answer

  -- and one that leaves the graph as it is
  abbrev pub Enters : Entry → List Value → Applied → Type 0
  Enters e registers answer = EntersTo now.graph e registers answer

  -- no collector's entry is open
  pub now_open : now.mode ≡ Open
  now_open = run_open k s r id hist x at acts.runs

  -- the mode is open, and the own queue is empty: what every command but `full_major` waits for
  pub may_begin : (now.mode ≡ Open) × ((domain_at now x.own.number).queue ≡ [])
  may_begin = (now_open, paired_none (StandsWaiting r.account.live) x.own.finalisers.queue.items (domain_at now x.own.number).queue acts.unqueued (my_good k s r id hist x at).stood.enrolled.queue)

  -- a command leaves the mode as it was
  pub open_after : (c : Command) (full : Bool) → (next now (CommandOf x.own.number c full)).mode ≡ Open
  open_after c full = (frame_command now x.own.number c full).mode ∙ now_open

  -- the entry of a command that may begin
  pub enters_command : (graph : Graph) (c : Command) → registers_one c ≡ false → FitsMode now x.own.number c → (registers : List Value) (answer : Applied) (theirs : List model_value.Value) → AllStand r.account.live registers theirs
      → (weak : Option ℕ) → Advance k s r id hist x at (CommandOf x.own.number c false) weak r.account.live → Leaves now (CommandOf x.own.number c false) x.own.number graph theirs (domain_at now x.own.number).serial answer → EntersTo graph (CommandOf x.own.number c false) registers answer
  enters_command graph c unregistering fits registers answer theirs stand weak advance leaves = record {
    alone = λ m other. ne_eqb x.own.number m (λ e. other (sym e));
    allowed = record { running = running; fits = fits; full_fits = tt };
    is_open = open_after c false;
    work = work_command now x.own.number c false unregistering;
    theirs = theirs;
    stand = stand;
    weak = weak;
    advance = advance;
    leaves = leaves;
  }

  pub stood_after : (graph : Graph) (e : Entry) (registers : List Value) (answer : Applied) (y : DomainView) → y.own.number ≡ x.own.number → y.own.registers ≡ registers → y.own.serial ≡ x.own.serial → y.own.finalisers ≡ x.own.finalisers → EntersTo graph e registers answer
      → Stood r.account.live (next now e) y
  stood_after graph e registers answer y number regs serial finalisers o = record {
    wide = ap length regs ∙ o.stand.wide;
    each = λ q few. subst (λ (z : List Value × ℕ). Stands r.account.live (value_at z.0 q) (get_or (domain_at (next now e) z.1).registers q Nothing)) (λ i. (sym regs i, sym number i))
        (subst (λ (l : List model_value.Value). Stands r.account.live (value_at registers q) (get_or l q Nothing)) (sym o.leaves.registers_are) (o.stand.each q few));
    serial = serial ∙ ((my_good k s r id hist x at).stood.serial ∙ (sym o.leaves.serial_is ∙ ap (λ (n : ℕ). (domain_at (next now e) n).serial) (sym number)));
    enrolled = subst (λ (z : ℕ × Finalisers). Enrolled r.account.live (next now e) z.0 z.1) (λ i. (sym number i, sym finalisers i))
        (enrolled_as r.account.live now (next now e) x.own.number x.own.finalisers o.work (my_good k s r id hist x at).stood.enrolled);
  }

  abbrev pub entered_view : Entry → List Value → DomainView
  entered_view e registers = with_front (with_registers x registers) (r.account.log ++ e ∷ [])

  -- the same, where the domain then owes the darkening of what a register holds
  abbrev pub owing_view : Entry → List Value → Option ℕ → DomainView
  owing_view e registers weak = let y : DomainView = entered_view e registers in record y { seen = record y.seen { share = with_weak x.seen.share weak } }

  pub owing_rule : (e : Entry) (registers : List Value) (answer : Applied) (o : Enters e registers answer) → IsOfTrace e → Rule k record { words = s.words; homes = s.homes; views = set s.views id (one k hist (owing_view e registers o.weak)) }
  owing_rule e registers answer o of_trace = unwritten_rule k s r id hist x at acts.runs e registers x.own.finalisers (with_weak x.seen.share o.weak) o.weak refl record {
    alone = o.alone;
    of_trace = of_trace;
    allowed = o.allowed;
    is_open = o.is_open;
    graph = o.leaves.graph_is;
    stood = stood_after now.graph e registers answer (owing_view e registers o.weak) refl refl refl refl o;
    advance = o.advance;
  }

  -- a domain that owed nothing, and owes nothing
  pub enters_rule : (e : Entry) (registers : List Value) (answer : Applied) (o : Enters e registers answer) → IsOfTrace e → o.weak ≡ None → Rule k record { words = s.words; homes = s.homes; views = set s.views id (one k hist (entered_view e registers)) }
  enters_rule e registers answer o of_trace none = subst (λ (share : Share). let y : DomainView = entered_view e registers in Rule k record { words = s.words; homes = s.homes; views = set s.views id (one k hist (record y { seen = record y.seen { share = share } })) })
      (ap (with_weak x.seen.share) (none ∙ sym acts.paid)) (owing_rule e registers answer o of_trace)

  pub enters : (graph : Graph) (e : Entry) (answer : Applied) (read : Value) (changes : List Change) → EntersTo graph e ((changed read changes x.own).registers) answer → Entered k e answer read changes x (entered_view e ((changed read changes x.own).registers))
  enters graph e answer read changes o = let y : DomainView = entered_view e ((changed read changes x.own).registers) in record {
    answers = answers_push (sizes_in k) x.own.number r.account.log x.seen.front e answer (mine k s r id hist x at).front (λ _. (my_good k s r id hist x at).still.1 acts.runs) (legal_entry k s r id hist x at e o.allowed) o.leaves.replies;
    view = ap (λ (own : Own). with_front (with_own x own) y.seen.front) (sym (changed_only read changes x.own));
    holds = holds k r.limits r.account.live r.whole.placed (next now e) y (stood_after graph e ((changed read changes x.own).registers) answer y refl refl refl refl o);
  }

  -- the own data of a domain that has made a block
  abbrev pub made_own : List Value → ℕ → Bounded ℕ → Own
  made_own registers used ephemerons = record x.own { registers = registers; used = used; serial = x.own.serial + 1; ephemerons = ephemerons }

  -- the block's label is the one that the entry gives
  pub label_is : next_label x ≡ record { domain = x.own.number; serial = (domain_at now x.own.number).serial + 1 }
  label_is = ap (λ (m : ℕ). record { domain = x.own.number; serial = m + 1 }) (my_good k s r id hist x at).stood.serial

  pub leaves_made : (c : Command) (dst : ℕ) (node : Node) → outcome now x.own.number c ≡ allocated now x.own.number dst node
      → Leaves now (CommandOf x.own.number c false) x.own.number (now.graph ++ (next_label x, node) ∷ []) (set (domain_at now x.own.number).registers dst (Block (next_label x))) ((domain_at now x.own.number).serial + 1) (Replied (BlockReply (next_label x)))
  leaves_made c dst node makes = subst (λ (l : Label). Leaves now (CommandOf x.own.number c false) x.own.number (now.graph ++ (l, node) ∷ []) (set (domain_at now x.own.number).registers dst (Block l)) ((domain_at now x.own.number).serial + 1) (Replied (BlockReply l))) (sym label_is)
      (leaves_allocation now x.own.number inside_state c dst node makes)

  -- and a register refers to the block then
  pub stood_made : (c : Command) (dst a : ℕ) (graph : Graph) (answer : Applied) (live' : Live) (registers : List Value) (used : ℕ) (ephemerons : Bounded ℕ) (seen : Seen) → registers_one c ≡ false → dst < 16 → More r.account.live live' → Stands live' (Ref a) (Block (next_label x))
      → registers ≡ set x.own.registers dst (Ref a) → Leaves now (CommandOf x.own.number c false) x.own.number graph (set (domain_at now x.own.number).registers dst (Block (next_label x))) ((domain_at now x.own.number).serial + 1) answer
      → Stood live' (next now (CommandOf x.own.number c false)) (record { own = made_own registers used ephemerons; seen = seen })
  stood_made c dst a graph answer live' registers used ephemerons seen unregistering few grows stands is leaves =
      let g = my_good k s r id hist x at in
      let theirs : List model_value.Value = (domain_at now x.own.number).registers in
      let stand : AllStand live' registers (set theirs dst (Block (next_label x))) = subst (λ (l : List Value). AllStand live' l (set theirs dst (Block (next_label x)))) (sym is)
      (stand_set live' x.own.registers theirs dst (Ref a) (Block (next_label x)) few stands (all_more r.account.live live' x.own.registers theirs grows registers_stand)) in record {
        wide = stand.wide;
        each = λ q low. subst (λ (l : List model_value.Value). Stands live' (value_at registers q) (get_or l q Nothing)) (sym leaves.registers_are) (stand.each q low);
        serial = ap (λ (m : ℕ). m + 1) g.stood.serial ∙ sym leaves.serial_is;
        enrolled = enrolled_more r.account.live live' (next now (CommandOf x.own.number c false)) x.own.number x.own.finalisers grows (enrolled_as r.account.live now (next now (CommandOf x.own.number c false)) x.own.number x.own.finalisers (work_command now x.own.number c false unregistering) g.stood.enrolled);
      }
