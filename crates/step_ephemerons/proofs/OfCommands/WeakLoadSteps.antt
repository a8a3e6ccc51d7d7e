-- Loads of keys and data keep the rule.
use Rattle.std.proofs.Common.{◌≡◌, ℕ, ◌+◌, Bool, false, IsTrue, ne_eqb, List, [], ◌∷◌, ◌++◌, length, get_or, set, Option, Some, None, sym, refl, ap, ◌∙◌, subst, arith, get_or-set_same}
use mathlib.Core.Option.{some}
use lib.ListN.{get_elem?}
use Rattle.atomic_table.specs.Table.{keeps, Allows}
use Rattle.model_core.specs.declared.label.Label.{Label}
use Rattle.model_core.specs.declared.command.Command as command
use Rattle.model_core.specs.declared.command.Command.TheVariants.{GetKey, CheckKey, GetData, CheckData}
use Rattle.model_core.specs.declared.entry.Entry.{Entry}
use Rattle.model_core.specs.declared.entry.Entry.TheVariants.{Command}
use Rattle.model_core.specs.declared.reply.Applied.TheVariants.{Replied}
use Rattle.model_core.specs.declared.graph.Value as graph_value
use Rattle.model_core.specs.declared.graph.Value.TheVariants.{Nothing}
use Rattle.model_core.specs.declared.graph.Node.TheVariants.{Ephe}
use Rattle.model_core.specs.declared.state.State as model
use Rattle.model_core.specs.Domains.{domain_at}
use Rattle.model_core.specs.Entries.{next}
use Rattle.model_core.proofs.Commands.LeavesLemmas.{Leaves}
use Rattle.model_cycle.specs.Beside.{WriteBarrier, owed_after, owing_register}
use Rattle.heap_words.specs.declared.value.Value.{Value}
use Rattle.heap_rule.specs.declared.change.Change.{Change}
use Rattle.heap_rule.specs.declared.config.Config.{Config}
use Rattle.heap_rule.specs.declared.phase.Kind.TheVariants.{Run}
use Rattle.heap_rule.specs.declared.view.DomainView.{DomainView}
use Rattle.heap_rule.specs.declared.view.Own.{Own}
use Rattle.heap_rule.specs.Layout.{before_heap}
use Rattle.heap_rule.specs.Places.{Live, Stands}
use Rattle.heap_rule.specs.Changes.{changed, FitChanges}
use Rattle.heap_rule.specs.Views.{one, Tells}
use Rattle.heap_rule.specs.Raw.{MayStep}
use Rattle.heap_rule.specs.Rule.{state_of, Rule}
use Rattle.heap_rule.specs.Standing.{Acts, Entered, with_front, with_own}
use Rattle.heap_rule.proofs.ChangeLemmas.{changed_only, registers_of}
use Rattle.heap_rule.proofs.Values.{AllStand, stand_set, packable, shows}
use Rattle.heap_rule.proofs.Keeps.{after_entry, Words, my_good, unmoved, run_settled, whole_here}
use Rattle.heap_rule.proofs.Advancing.{Advance}
use Rattle.heap_rule.proofs.Entering.{running, inside_state, registers_stand, Enters, owing_view, owing_rule, enters, may_begin, open_after}
use Rattle.heap_rule.proofs.FinaliserLemmas.{work_command}
use Rattle.step_run.proofs.OfFields.Advances.{advance_command}
use Rattle.step_run.proofs.OfFields.EphemeronEntries.{block_is}
use Rattle.step_ephemerons.specs.Commands.Heads.{ephemeron_in, key_in}
use Rattle.step_ephemerons.specs.Commands.Loads.{IsLook, target_in, look_reply, Puts, KnowsArmed, weak_on, is_armed, weak_after, owing_after, MayHold, Gets, WeakLoadMay, WeakLoadEntry, WeakRead}
use Rattle.step_ephemerons.proofs.OfCommands.Outcomes.{Held, put_in, unregistering_item, look_item, fits_item, leaves_look}
use Rattle.step_ephemerons.proofs.OfCommands.WeakAdvances.{weak_advance}
use Rattle.step_ephemerons.proofs.OfCommands.Finding.{WeakFound, weak_at, index_of}

-- what was read is put into the register that is named, and stands for what the model's gets
stand_puts : (live : Live) (x : DomainView) (changes : List Change) (target : Option ℕ) (theirs : List graph_value.Value) (w : Value) (v : graph_value.Value) → Puts x changes target → Stands live w v → AllStand live x.own.registers theirs
    → AllStand live ((changed w changes x.own).registers) (put_in target v theirs)
stand_puts live x changes None theirs w v puts stands all = subst (λ (l : List Value). AllStand live l theirs) (sym (ap registers_of (puts w))) all
stand_puts live x changes (Some dst) theirs w v puts stands all = subst (λ (l : List Value). AllStand live l (set theirs dst v)) (sym (ap registers_of (puts.1 w))) (stand_set live x.own.registers theirs dst w v puts.0 stands all)

-- the register that is named then holds the value
put_gets : (t : model.State) (d : ℕ) (x : DomainView) (changes : List Change) (target : Option ℕ) (theirs : List graph_value.Value) (v : graph_value.Value) → Puts x changes target → length theirs ≡ 16 → (domain_at t d).registers ≡ put_in target v theirs → Gets t d target v
put_gets t d x changes None theirs v puts long is = tt
put_gets t d x changes (Some dst) theirs v puts long is = ap (λ (l : List graph_value.Value). get_or l dst Nothing) is ∙ get_or-set_same theirs dst v Nothing (let w = long in let l = puts.0 in omega arith)

-- a key is a block or empty
may_hold : (key : Option ℕ) (keys : List (Option Label)) (datum v : graph_value.Value) → Held key keys datum v → MayHold key v
may_hold None keys datum v held = tt
may_hold (Some i) keys datum v held = (held.0, held.2)

-- a command that writes no register leaves what is owed as it was
unwritten_advance : (k : Config) (s : Words) (r : Rule k s) (id : ℕ) (hist : List Entry) (x : DomainView) (at : get_elem? s.views id ≡ some (one k hist x)) (acts : Acts k x) (c : command.Command) → owed_after r.account.cycling.past.owed x.own.number c ≡ r.account.cycling.past.owed
    → (IsTrue r.account.cycling.armed → WriteBarrier r.account.cycling.past r.account.cycling.paint.marks (state_of k r.account.log) x.own.number c) → Advance k s r id hist x at (Command x.own.number c false) x.seen.share.weak r.account.live
unwritten_advance k s r id hist x at acts c quiet barrier =
    subst (λ (weak : Option ℕ). Advance k s r id hist x at (Command x.own.number c false) weak r.account.live) (sym acts.paid) (advance_command k s r id hist x at acts c quiet barrier)

-- and one that writes one owes its darkening where it has to
written_advance : (k : Config) (s : Words) (r : Rule k s) (id : ℕ) (hist : List Entry) (x : DomainView) (at : get_elem? s.views id ≡ some (one k hist x)) (acts : Acts k x) (changes : List Change) (c : command.Command) (dst : ℕ)
    → owed_after r.account.cycling.past.owed x.own.number c ≡ owing_register r.account.cycling.past.owed x.own.number dst
    → (IsTrue r.account.cycling.armed → WriteBarrier r.account.cycling.past r.account.cycling.paint.marks (state_of k r.account.log) x.own.number c)
    → (armed : Bool) → x.seen.share.armed ≡ Some armed → Puts x changes (Some dst) → (w : Value) (v : graph_value.Value) → Stands r.account.live w v
    → (domain_at (next (state_of k r.account.log) (Command x.own.number c false)) x.own.number).registers ≡ set (domain_at (state_of k r.account.log) x.own.number).registers dst v
    → Advance k s r id hist x at (Command x.own.number c false) (weak_on k (is_armed x.seen.share.armed) dst w) r.account.live
written_advance k s r id hist x at acts changes c dst owing barrier armed known puts w v stands registers =
    let theirs : List graph_value.Value = (domain_at (state_of k r.account.log) x.own.number).registers in
    let gets = put_gets (next (state_of k r.account.log) (Command x.own.number c false)) x.own.number x changes (Some dst) theirs v puts (registers_stand k s r id hist x at acts).long registers in
    subst (λ (o : Option Bool). Advance k s r id hist x at (Command x.own.number c false) (weak_on k (is_armed o) dst w) r.account.live) (sym known)
    (weak_advance k s r id hist x at acts c dst owing barrier v gets armed ((my_good k s r id hist x at).sharing.leading.armed armed known).1 w stands)

-- what the entry of a command that looks leaves of the cycle
look_advance : (k : Config) (s : Words) (r : Rule k s) (id : ℕ) (hist : List Entry) (x : DomainView) (at : get_elem? s.views id ≡ some (one k hist x)) (acts : Acts k x) (changes : List Change) (c : command.Command) → IsLook c
    → (armed : Bool) → KnowsArmed x (target_in c) armed → Puts x changes (target_in c) → (w : Value) (v : graph_value.Value) → Stands r.account.live w v
    → (domain_at (next (state_of k r.account.log) (Command x.own.number c false)) x.own.number).registers ≡ put_in (target_in c) v (domain_at (state_of k r.account.log) x.own.number).registers
    → Advance k s r id hist x at (Command x.own.number c false) (weak_after k x.seen.share (target_in c) w) r.account.live
look_advance k s r id hist x at acts changes (CheckKey ephe i) looks armed known puts w v stands registers = unwritten_advance k s r id hist x at acts (CheckKey ephe i) refl (λ _. tt)
look_advance k s r id hist x at acts changes (CheckData ephe) looks armed known puts w v stands registers = unwritten_advance k s r id hist x at acts (CheckData ephe) refl (λ _. tt)
look_advance k s r id hist x at acts changes (GetKey dst ephe i) looks armed known puts w v stands registers = written_advance k s r id hist x at acts changes (GetKey dst ephe i) dst refl (λ _. tt) armed known puts w v stands registers
look_advance k s r id hist x at acts changes (GetData dst ephe) looks armed known puts w v stands registers = written_advance k s r id hist x at acts changes (GetData dst ephe) dst refl (λ _. tt) armed known puts w v stands registers
look_advance k s r id hist x at acts changes _ looks armed known puts w v stands registers = absurd looks

module _ (k : Config) (s : Words) (r : Rule k s) (id : ℕ) (hist : List Entry) (x : DomainView) (at : get_elem? s.views id ≡ some (one k hist x)) (a : ℕ) (changes : List Change) (c : command.Command) (may : WeakLoadMay k x a changes x.own.number c) where
  abbrev now : model.State
  now = state_of k r.account.log

  abbrev d : ℕ
  d = x.own.number

  abbrev theirs : List graph_value.Value
  theirs = (domain_at now d).registers

  pub found : WeakFound k s r id hist x at a (ephemeron_in c) (key_in c)
  found = weak_at k s r id hist x at (run_settled k s r id hist x at may.acts.runs) (whole_here k s r id hist x at Run tt may.acts.runs) a (ephemeron_in c) (key_in c) may.reads

  abbrev weak1 : Option ℕ
  weak1 = weak_after k x.seen.share (target_in c) found.stands.value

  leaves : Leaves now (Command d c false) d now.graph (put_in (target_in c) found.value theirs) (domain_at now d).serial (Replied (look_reply c found.value))
  leaves = leaves_look now d (inside_state k s r id hist x at may.acts) c found.place.label found.keys found.datum found.value may.looks
      (block_is now d (ephemeron_in c) found.place.label (Ephe found.keys found.datum) found.held found.node) found.is

  -- the entry of a command that finds its word, and what the domain owes then
  record WeakEnters : Type 0 where
    enters : Enters k s r id hist x at may.acts (Command d c false) ((changed found.stands.value changes x.own).registers) (Replied (look_reply c found.value))
    weak_is : enters.weak ≡ weak1

  weak_entry : WeakEnters
  weak_entry = record {
    enters = record {
      alone = λ m other. ne_eqb d m (λ e. other (sym e));
      allowed = record { running = running k s r id hist x at may.acts; fits = fits_item now d x c (look_item x c may.looks) (may_begin k s r id hist x at may.acts); full_fits = tt };
      is_open = open_after k s r id hist x at may.acts c false;
      work = work_command now d c false (unregistering_item x c (look_item x c may.looks));
      theirs = put_in (target_in c) found.value theirs;
      stand = stand_puts r.account.live x changes (target_in c) theirs found.stands.value found.value may.puts found.stands.stands (registers_stand k s r id hist x at may.acts);
      weak = weak1;
      advance = look_advance k s r id hist x at may.acts changes c may.looks may.armed may.known_armed may.puts found.stands.value found.value found.stands.stands leaves.registers_are;
      leaves = leaves;
    };
    weak_is = refl;
  }

  -- the view after the entry
  abbrev after : DomainView
  after = owing_view k s r id hist x at may.acts (Command d c false) ((changed found.stands.value changes x.own).registers) weak1

  weak_rule : Rule k record { words = s.words; homes = s.homes; views = set s.views id (one k hist after) }
  weak_rule =
      let e : Entry = Command d c false in
      let regs : List Value = (changed found.stands.value changes x.own).registers in
      let o = weak_entry in
      subst (λ (weak : Option ℕ). Rule k record { words = s.words; homes = s.homes; views = set s.views id (one k hist (owing_view k s r id hist x at may.acts e regs weak)) }) o.weak_is
      (owing_rule k s r id hist x at may.acts e regs (Replied (look_reply c found.value)) o.enters tt)

  weak_entered : Entered k (Command d c false) (Replied (look_reply c found.value)) found.stands.value changes (owing_after k (target_in c) found.stands.value x) after
  weak_entered =
      let told = enters k s r id hist x at may.acts now.graph (Command d c false) (Replied (look_reply c found.value)) found.stands.value changes weak_entry.enters in record {
        answers = told.answers;
        view = ap (λ (own : Own). with_front (with_own (owing_after k (target_in c) found.stands.value x) own) after.seen.front) (sym (changed_only found.stands.value changes x.own));
        holds = told.holds;
      }

  -- and its register then
  pub weak_gets : Gets (state_of k (r.account.log ++ Command d c false ∷ [])) d (target_in c) found.value
  weak_gets =
      let e : Entry = Command d c false in
      put_gets (state_of k (r.account.log ++ e ∷ [])) d x changes (target_in c) theirs found.value may.puts (registers_stand k s r id hist x at may.acts).long
      (ap (λ (t : model.State). (domain_at t d).registers) (after_entry k s r id hist x at e) ∙ leaves.registers_are)

weak_loads : (k : Config) (slots id word : ℕ) (hist : List Entry) (x : DomainView) (a : ℕ) (changes : List Change) (c : command.Command) → word ≡ before_heap k + a → WeakLoadMay k x a changes x.own.number c
    → let e : Entry = Command x.own.number c false in Allows (Rule k) slots id (one k hist x, []) word (λ n. n) (Tells (WeakRead k e changes) (one k hist x, []))
weak_loads k slots id word hist x a changes c place may s r _ at _ =
    let e : Entry = Command x.own.number c false in
    let f = found k s r id hist x at a changes c may in
    let y : DomainView = after k s r id hist x at a changes c may in
    let here : word ≡ before_heap k + (f.address + 2 + index_of (key_in c)) = place ∙ ap (λ (n : ℕ). before_heap k + n) f.at_is in (
      one k hist y,
      keeps,
      tt,
      unmoved k s word (set s.views id (one k hist y)) (weak_rule k s r id hist x at a changes c may),
      (
        record {
          value = f.stands.value;
          packable = packable k r.limits r.account.live r.whole.placed f.stands.value f.value f.stands.stands;
          word = ap (λ (n : ℕ). get_or s.words n 0) here ∙ f.stands.packs;
          held = f.value;
          shows = shows r.account.live f.stands.value f.value f.stands.stands;
          key = may_hold (key_in c) f.keys f.datum f.value f.is;
          register_is = weak_gets k s r id hist x at a changes c may;
          entered = weak_entered k s r id hist x at a changes c may;
        },
        refl,
      ),
    )

pub weak_load_may : (k : Config) (word : ℕ) (x : DomainView) (a : ℕ) (e : Entry) (changes : List Change) → word ≡ before_heap k + a → WeakLoadEntry k x a changes e → MayStep k x word (λ n. n) (WeakRead k e changes)
weak_load_may k word x a (Command j c false) changes place may fits slots id h =
    subst (λ (n : ℕ). Allows (Rule k) slots id (one k h x, []) word (λ q. q) (Tells (WeakRead k (Command n c false) changes) (one k h x, []))) (sym may.own)
    (weak_loads k slots id word h x a changes c place (subst (λ (n : ℕ). WeakLoadMay k x a changes n c) may.own may))
weak_load_may k word x a _ changes place may fits slots id h = absurd may

pub weak_load_fits : (k : Config) (x : DomainView) (a : ℕ) (changes : List Change) (e : Entry) → WeakLoadEntry k x a changes e → FitChanges changes
weak_load_fits k x a changes (Command j c false) may = may.fits
weak_load_fits k x a changes _ may = absurd may
