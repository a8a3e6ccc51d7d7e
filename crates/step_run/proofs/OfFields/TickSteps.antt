-- A tick keeps the rule.
use Rattle.std.proofs.Common.{◌≡◌, ◌≢◌, ◌⊎◌, inl, inr, ℕ, ◌<◌, true, false, ne_eqb, List, [], length, set, slice_get, is_some, Option, None, sym, ap, refl, subst, ⊎_elim}
use Rattle.model_core.specs.declared.label.Label.{Label}
use mathlib.Core.Option.{some}
use lib.ListN.{get_elem?}
use Rattle.atomic_table.specs.Table.{keeps, Allows}
use Rattle.model_core.specs.declared.command.Command as model_command
use Rattle.model_core.specs.declared.command.Command.TheVariants.{PutInt, Copy, Forget, Alloc, AllocMaj, Load, Store, Cas, Raw as NewRaw, Ephe as NewEphe, SetKey, UnsetKey, GetKey, CheckKey, SetData, UnsetData, GetData, CheckData, Finalise, FinaliseLast, Poll, Minor, Major}
use Rattle.model_core.specs.declared.entry.Entry.{Entry}
use Rattle.model_core.specs.declared.entry.Entry.TheVariants.{Command}
use Rattle.model_core.specs.declared.reply.Applied.TheVariants.{Replied}
use Rattle.model_core.specs.declared.reply.Reply.TheVariants.{Done, BadType, Full}
use Rattle.model_core.specs.declared.graph.Value as model_value
use Rattle.model_core.specs.declared.graph.Value.TheVariants.{Int, Nothing}
use Rattle.model_core.specs.declared.state.Mode.TheVariants.{Open}
use Rattle.model_core.specs.declared.state.State as model
use Rattle.model_core.specs.Domains.{domain_at, register, label_in}
use Rattle.model_core.specs.Commands.{Outcome, FitsMode, is_allocation, outcome, only_replies, after_command, finalised, finalised_last, block_in, at_ephe, key_set, key_stored, datum_set, datum_stored, in_bounds, read_into, tells, key_value, is_full_value}
use Rattle.model_core.proofs.Commands.LeavesLemmas.{leaves_put, leaves_copy, leaves_forget, leaves_poll, leaves_full, leaves_load_type, leaves_store_type, leaves_store_nothing, leaves_cas_type, leaves_cas_nothing, leaves_cas_unexpected, Leaves, leaves_minor, leaves_major, no_block, leaves_reply}
use Rattle.heap_words.specs.declared.value.Value.{Value}
use Rattle.heap_words.specs.declared.value.Value.TheVariants.{Int as IntWord, Ref, Nothing as NothingWord}
use Rattle.heap_rule.specs.declared.change.Change.{Change}
use Rattle.heap_rule.specs.declared.config.Config.{Config}
use Rattle.heap_rule.specs.declared.view.DomainView.{DomainView}
use Rattle.heap_rule.specs.Places.{Stands, IsNoBlock}
use Rattle.heap_rule.specs.Changes.{value_at, changed}
use Rattle.heap_rule.specs.Views.{one, Tells}
use Rattle.heap_rule.specs.Raw.{MayStep}
use Rattle.heap_rule.specs.Rule.{state_of, Rule}
use Rattle.heap_rule.specs.Standing.{Acts}
use Rattle.step_run.specs.Fields.Ticks.{is_quiet, TickCommand, TickEntry, TickMay, command_answer, tick_answer, TickTold}
use Rattle.step_run.proofs.OfFields.FullSteps.{may_be_full}
use Rattle.step_run.proofs.OfFields.EphemeronEntries.{no_key_stored, no_datum_stored}
use Rattle.heap_rule.proofs.ChangeLemmas.{registers_of}
use Rattle.heap_rule.proofs.Values.{AllStand, stand_set, no_label, not_nothing, stands_nothing}
use Rattle.heap_rule.proofs.Keeps.{Words, IsOfTrace, unmoved}
use Rattle.model_core.specs.Entries.{next}
use Rattle.step_run.proofs.OfFields.Advances.{advance_command, advance_quiet, EntersPaid, paid_command, paid_refused, paid_rule}
use Rattle.heap_rule.proofs.Entering.{running, inside_state, registers_stand, entered_view, enters, may_begin, open_after}
use Rattle.heap_rule.proofs.FinaliserLemmas.{KeepsWork, work_with}

-- the mode and the queue fit an allocation
fits_allocation : (s : model.State) (d : ℕ) (c : model_command.Command) → is_allocation c ≡ true → s.mode ≡ Open → (domain_at s d).queue ≡ [] → FitsMode s d c
fits_allocation s d (Alloc dst tag fields) is mode queue = (mode, queue)
fits_allocation s d (AllocMaj dst tag fields) is mode queue = (mode, queue)
fits_allocation s d (NewRaw dst tag fields) is mode queue = (mode, queue)
fits_allocation s d (NewEphe dst keys) is mode queue = (mode, queue)
fits_allocation s d _ is mode queue = absurd (let clash : false ≡ true = is in cc)

module _ (k : Config) (s : Words) (r : Rule k s) (id : ℕ) (hist : List Entry) (x : DomainView) (at : get_elem? s.views id ≡ some (one k hist x)) (acts : Acts k x) (changes : List Change) where
  abbrev now : model.State
  now = state_of k r.account.log

  abbrev d : ℕ
  d = x.own.number

  abbrev regs : List Value
  regs = (changed NothingWord changes x.own).registers

  -- the model's registers
  abbrev theirs : List model_value.Value
  theirs = (domain_at now d).registers

  stand : AllStand r.account.live x.own.registers theirs
  stand = registers_stand k s r id hist x at acts

  inside : d < length now.domains
  inside = inside_state k s r id hist x at acts

  -- a register that holds no block
  empty : (q : ℕ) → q < 16 → IsNoBlock (value_at x.own.registers q) → label_in now d q ≡ None
  empty q few none = no_label r.account.live (value_at x.own.registers q) (register now d q) none (stand.each q few)

  -- a command that is refused as there is no block to look into
  refused : (c : model_command.Command) → FitsMode now d c → changed NothingWord changes x.own ≡ x.own → outcome now d c ≡ only_replies now BadType → EntersPaid k s r id hist x at acts now.graph (Command d c false) regs (Replied BadType)
  refused c fits same is =
      let work : KeepsWork now (next now (Command d c false)) d = subst (λ (o : Outcome). KeepsWork now (after_command o.state d) d) (sym is) (work_with now d _ refl refl refl d) in
      let leaves = leaves_reply now d c BadType is in record {
        enters = record {
          alone = λ i other. ne_eqb d i (λ e. other (sym e));
          allowed = record { running = running k s r id hist x at acts; fits = fits; full_fits = tt };
          is_open = open_after k s r id hist x at acts c false;
          work = work;
          theirs = theirs;
          stand = subst (λ (l : List Value). AllStand r.account.live l theirs) (sym (ap registers_of same)) stand;
          weak = None;
          advance = advance_quiet k s r id hist x at acts c false (domain_at now d).serial (Replied BadType) work.queue leaves;
          leaves = leaves;
        };
        none = refl;
      }

  -- a register command: the changed registers stand for those that it leaves
  commands : (c : model_command.Command) → TickCommand x changes c → EntersPaid k s r id hist x at acts now.graph (Command d c false) regs (Replied (command_answer c))
  commands (PutInt dst z) may = paid_command k s r id hist x at acts now.graph (PutInt dst z) refl (may_begin k s r id hist x at acts) regs _ (set theirs dst (Int z))
      (subst (λ (l : List Value). AllStand r.account.live l (set theirs dst (Int z))) (sym (ap registers_of may.2)) (stand_set r.account.live x.own.registers theirs dst (IntWord z) (Int z) may.0 (refl, may.1) stand))
      (advance_command k s r id hist x at acts (PutInt dst z) refl (λ _. tt)) (leaves_put now d inside dst z)
  commands (Copy dst src) may = paid_command k s r id hist x at acts now.graph (Copy dst src) refl (may_begin k s r id hist x at acts) regs _ (set theirs dst (register now d src))
      (subst (λ (l : List Value). AllStand r.account.live l (set theirs dst (register now d src))) (sym (ap registers_of may.2))
      (stand_set r.account.live x.own.registers theirs dst (value_at x.own.registers src) (register now d src) may.0 (stand.each src may.1) stand))
      (advance_command k s r id hist x at acts (Copy dst src) refl (λ _. tt)) (leaves_copy now d inside dst src)
  commands (Forget dst) may = paid_command k s r id hist x at acts now.graph (Forget dst) refl (may_begin k s r id hist x at acts) regs _ (set theirs dst Nothing)
      (subst (λ (l : List Value). AllStand r.account.live l (set theirs dst Nothing)) (sym (ap registers_of may.1)) (stand_set r.account.live x.own.registers theirs dst NothingWord Nothing may.0 tt stand))
      (advance_command k s r id hist x at acts (Forget dst) refl (λ _. tt)) (leaves_forget now d inside dst)
  commands Poll may = paid_refused k s r id hist x at acts Poll refl (may_begin k s r id hist x at acts) regs _
      (subst (λ (l : List Value). AllStand r.account.live l theirs) (sym (ap registers_of may)) stand)
      (leaves_poll now d)
  commands Minor may = paid_refused k s r id hist x at acts Minor refl (may_begin k s r id hist x at acts) regs _
      (subst (λ (l : List Value). AllStand r.account.live l theirs) (sym (ap registers_of may)) stand)
      (leaves_minor now d)
  commands Major may = paid_refused k s r id hist x at acts Major refl (may_begin k s r id hist x at acts) regs _
      (subst (λ (l : List Value). AllStand r.account.live l theirs) (sym (ap registers_of may)) stand)
      (leaves_major now d)
  commands (Load dst src i) may = paid_refused k s r id hist x at acts (Load dst src i) refl (may_begin k s r id hist x at acts) regs _
      (subst (λ (l : List Value). AllStand r.account.live l theirs) (sym (ap registers_of may.2)) stand)
      (leaves_load_type now d dst src i (no_label r.account.live (value_at x.own.registers src) (register now d src) may.1 (stand.each src may.0)))
  commands (Store block i item) may = paid_refused k s r id hist x at acts (Store block i item) refl (may_begin k s r id hist x at acts) regs _
      (subst (λ (l : List Value). AllStand r.account.live l theirs) (sym (ap registers_of may.3)) stand)
      (⊎_elim
      (λ (n : IsNoBlock (value_at x.own.registers block)). leaves_store_type now d block i item (no_label r.account.live (value_at x.own.registers block) (register now d block) n (stand.each block may.0)))
      (λ (e : value_at x.own.registers item ≡ NothingWord). leaves_store_nothing now d block i item (stands_nothing r.account.live (register now d item) (subst (λ (v : Value). Stands r.account.live v (register now d item)) e (stand.each item may.1))))
      may.2)
  commands (Cas block i expected item) may = paid_refused k s r id hist x at acts (Cas block i expected item) refl (may_begin k s r id hist x at acts) regs _
      (subst (λ (l : List Value). AllStand r.account.live l theirs) (sym (ap registers_of may.4)) stand)
      (cas_refused (cases_nothing (value_at x.own.registers expected)))
    where
      holds_nothing : (q : ℕ) → q < 16 → value_at x.own.registers q ≡ NothingWord → register now d q ≡ Nothing
      holds_nothing q few e = stands_nothing r.account.live (register now d q) (subst (λ (v : Value). Stands r.account.live v (register now d q)) e (stand.each q few))

      cases_nothing : (w : Value) → (w ≡ NothingWord) ⊎ (w ≢ NothingWord)
      cases_nothing (IntWord z) = inr (λ e. cc)
      cases_nothing (Ref a) = inr (λ e. cc)
      cases_nothing NothingWord = inl refl

      cas_refused : (value_at x.own.registers expected ≡ NothingWord) ⊎ (value_at x.own.registers expected ≢ NothingWord) → Leaves now (Command d (Cas block i expected item) false) d now.graph theirs (domain_at now d).serial (Replied BadType)
      cas_refused = ⊎_elim
          (λ (e : value_at x.own.registers expected ≡ NothingWord). leaves_cas_unexpected now d block i expected item (holds_nothing expected may.1 e))
          (λ (some : value_at x.own.registers expected ≢ NothingWord).
          let full = not_nothing r.account.live (value_at x.own.registers expected) (register now d expected) some (stand.each expected may.1) in ⊎_elim
          (λ (n : IsNoBlock (value_at x.own.registers block)). leaves_cas_type now d block i expected item (register now d expected) refl full (no_label r.account.live (value_at x.own.registers block) (register now d block) n (stand.each block may.0)))
          (λ (u : (value_at x.own.registers expected ≡ NothingWord) ⊎ (value_at x.own.registers item ≡ NothingWord)). ⊎_elim
          (λ (e : value_at x.own.registers expected ≡ NothingWord). absurd (some e))
          (λ (e : value_at x.own.registers item ≡ NothingWord). leaves_cas_nothing now d block i expected item (register now d expected) refl full (holds_nothing item may.2 e))
          u)
          may.3)
  commands (SetKey ephe i item) may = refused (SetKey ephe i item) (may_begin k s r id hist x at acts) may.3 (⊎_elim
      (λ (n : IsNoBlock (value_at x.own.registers ephe)). no_key_stored now i (label_in now d item) (block_in now d ephe) (no_block now d ephe (empty ephe may.0 n)))
      (λ (n : IsNoBlock (value_at x.own.registers item)). ap (λ (o : Option Label). key_stored now i o (block_in now d ephe)) (empty item may.1 n))
      may.2)
  commands (UnsetKey ephe i) may = refused (UnsetKey ephe i) (may_begin k s r id hist x at acts) may.1 (ap (λ b. at_ephe now b (key_set now i None)) (no_block now d ephe (empty ephe may.0.0 may.0.1)))
  commands (GetKey dst ephe i) may = refused (GetKey dst ephe i) (may_begin k s r id hist x at acts) may.1
      (ap (λ b. at_ephe now b (λ l keys datum. in_bounds now (slice_get keys i) (λ o. read_into now d dst (key_value o)))) (no_block now d ephe (empty ephe may.0.0 may.0.1)))
  commands (CheckKey ephe i) may = refused (CheckKey ephe i) (may_begin k s r id hist x at acts) may.1
      (ap (λ b. at_ephe now b (λ l keys datum. in_bounds now (slice_get keys i) (λ o. tells now (is_some o)))) (no_block now d ephe (empty ephe may.0.0 may.0.1)))
  commands (SetData ephe item) may = refused (SetData ephe item) (may_begin k s r id hist x at acts) may.3 (⊎_elim
      (λ (n : IsNoBlock (value_at x.own.registers ephe)). no_datum_stored now (register now d item) (block_in now d ephe) (no_block now d ephe (empty ephe may.0 n)))
      (λ (e : value_at x.own.registers item ≡ NothingWord). ap (datum_stored now (block_in now d ephe)) (stands_nothing r.account.live (register now d item) (subst (λ (v : Value). Stands r.account.live v (register now d item)) e (stand.each item may.1))))
      may.2)
  commands (UnsetData ephe) may = refused (UnsetData ephe) (may_begin k s r id hist x at acts) may.1 (ap (λ b. at_ephe now b (datum_set now Nothing)) (no_block now d ephe (empty ephe may.0.0 may.0.1)))
  commands (GetData dst ephe) may = refused (GetData dst ephe) (may_begin k s r id hist x at acts) may.1 (ap (λ b. at_ephe now b (λ l keys datum. read_into now d dst datum)) (no_block now d ephe (empty ephe may.0.0 may.0.1)))
  commands (CheckData ephe) may = refused (CheckData ephe) (may_begin k s r id hist x at acts) may.1 (ap (λ b. at_ephe now b (λ l keys datum. tells now (is_full_value datum))) (no_block now d ephe (empty ephe may.0.0 may.0.1)))
  commands (Finalise item number dst) may = refused (Finalise item number dst) (may_begin k s r id hist x at acts) may.1 (ap (finalised now d number dst) (empty item may.0.0 may.0.1))
  commands (FinaliseLast item number) may = refused (FinaliseLast item number) (may_begin k s r id hist x at acts) may.1 (ap (finalised_last now d number) (empty item may.0.0 may.0.1))
  commands _ may = absurd may

  entries : (e : Entry) → TickEntry k x changes e → EntersPaid k s r id hist x at acts now.graph e regs (tick_answer e)
  entries (Command j c false) may = subst (λ (n : ℕ). EntersPaid k s r id hist x at acts now.graph (Command n c false) regs (Replied (command_answer c))) (sym may.0) (commands c may.1)
  entries (Command j c true) may = subst (λ (n : ℕ). EntersPaid k s r id hist x at acts now.graph (Command n c true) regs (tick_answer (Command n c true))) (sym may.0) record {
    enters = record {
      alone = λ i other. ne_eqb d i (λ e. other (sym e));
      allowed = record { running = running k s r id hist x at acts; fits = let m = may_begin k s r id hist x at acts in fits_allocation now d c may.1 m.0 m.1; full_fits = may_be_full k s r id hist x at acts may.2 c may.1 };
      is_open = open_after k s r id hist x at acts c true;
      work = work_with now d _ refl refl refl d;
      theirs = theirs;
      stand = subst (λ (l : List Value). AllStand r.account.live l theirs) (sym (ap registers_of may.3)) stand;
      weak = None;
      advance = advance_quiet k s r id hist x at acts c true (domain_at now d).serial (Replied Full) (work_with now d _ refl refl refl d).queue (leaves_full now d c);
      leaves = leaves_full now d c;
    };
    none = refl;
  }
  entries _ may = absurd may

tick_command : (k : Config) (x : DomainView) (changes : List Change) (e : Entry) → TickEntry k x changes e → IsOfTrace e
tick_command k x changes (Command j c false) may = tt
tick_command k x changes (Command j c true) may = tt
tick_command k x changes _ may = absurd may

ticks : (k : Config) (slots id word : ℕ) (hist : List Entry) (x : DomainView) (e : Entry) (changes : List Change) → TickMay k x changes e
    → Allows (Rule k) slots id (one k hist x, []) word (λ n. n) (Tells (TickTold k e changes) (one k hist x, []))
ticks k slots id word hist x e changes may s r _ at _ =
    let o = entries k s r id hist x at may.acts changes e may.entry in
    let regs : List Value = (changed NothingWord changes x.own).registers in (
      one k hist (entered_view k s r id hist x at may.acts e regs),
      keeps,
      tt,
      unmoved k s word (set s.views id (one k hist (entered_view k s r id hist x at may.acts e regs))) (paid_rule k s r id hist x at may.acts e regs (tick_answer e) o (tick_command k x changes e may.entry)),
      (enters k s r id hist x at may.acts (state_of k r.account.log).graph e (tick_answer e) NothingWord changes o.enters, refl),
    )

pub tick_may : (k : Config) (word : ℕ) (x : DomainView) (e : Entry) (changes : List Change) → TickMay k x changes e → MayStep k x word (λ n. n) (TickTold k e changes)
tick_may k word x e changes may fits slots id h = ticks k slots id word h x e changes may

-- a command that changes nothing may stand at a tick that has no changes, and is answered so
pub quiet_may : (x : DomainView) (c : model_command.Command) → is_quiet c ≡ true → TickCommand x [] c
quiet_may x Poll quiet = refl
quiet_may x Minor quiet = refl
quiet_may x Major quiet = refl
quiet_may x _ quiet = cc

pub quiet_answer : (c : model_command.Command) → is_quiet c ≡ true → command_answer c ≡ Done
quiet_answer Poll quiet = refl
quiet_answer Minor quiet = refl
quiet_answer Major quiet = refl
quiet_answer _ quiet = cc
