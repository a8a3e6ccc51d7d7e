-- Stores to keys and data keep the rule.
use Rattle.std.proofs.Common.{◌≡◌, ℕ, ◌+◌, Bool, false, IsTrue, List, [], Option, Some, None, sym, refl, ap, ◌∙◌, subst}
use mathlib.Core.Option.{some}
use lib.ListN.{get_elem?}
use Rattle.atomic_table.specs.Table.{Allows}
use Rattle.model_core.specs.declared.reply.Reply.TheVariants.{Done as Stored}
use Rattle.model_core.specs.declared.label.Label.{Label}
use Rattle.model_core.specs.declared.command.Command as command
use Rattle.model_core.specs.declared.command.Command.TheVariants.{SetKey, UnsetKey, SetData, UnsetData}
use Rattle.model_core.specs.declared.entry.Entry.{Entry}
use Rattle.model_core.specs.declared.entry.Entry.TheVariants.{Command}
use Rattle.model_core.specs.declared.graph.Value as graph_value
use Rattle.model_core.specs.declared.graph.Value.TheVariants.{Nothing}
use Rattle.model_core.specs.declared.graph.Node.TheVariants.{Ephe}
use Rattle.model_core.specs.declared.state.State as model
use Rattle.model_core.specs.Graph.{label_of}
use Rattle.model_core.specs.Commands.{key_value, outcome, done_with, block_in}
use Rattle.model_core.specs.Domains.{register, with_block, label_in}
use Rattle.model_cycle.specs.Beside.{WriteBarrier, owed_after}
use Rattle.heap_rule.specs.declared.change.Change.{Change}
use Rattle.heap_rule.specs.declared.config.Config.{Config}
use Rattle.heap_rule.specs.declared.phase.Kind.TheVariants.{Run}
use Rattle.heap_rule.specs.declared.view.DomainView.{DomainView}
use Rattle.heap_rule.specs.Layout.{before_heap}
use Rattle.heap_rule.specs.Places.{Stands}
use Rattle.heap_rule.specs.Views.{one, Tells}
use Rattle.heap_rule.specs.Raw.{MayStore}
use Rattle.heap_rule.specs.Rule.{state_of, Rule}
use Rattle.heap_rule.specs.Standing.{Acts}
use Rattle.heap_rule.proofs.Keeps.{Words, run_settled, whole_here}
use Rattle.heap_rule.proofs.Entering.{registers_stand, may_begin}
use Rattle.step_run.specs.Fields.Stores.{StoreTold, CanStore}
use Rattle.model_core.proofs.Commands.LeavesLemmas.{leaves_block}
use Rattle.step_run.proofs.OfFields.EphemeronEntries.{block_is}
use Rattle.step_run.proofs.OfFields.ValueSteps.{ValueStore, value_stores}
use Rattle.step_ephemerons.specs.Commands.Heads.{ephemeron_in, key_in, HasItem}
use Rattle.step_ephemerons.specs.Commands.Stores.{stored_value, WeakStoreMay, KeyStoreEntry, DataStoreEntry}
use Rattle.step_ephemerons.proofs.OfCommands.Outcomes.{Held, stored_node, unregistering_item, fits_item, set_outcome, datum_outcome}
use Rattle.step_ephemerons.proofs.OfCommands.Finding.{weak_at, index_of, FitsKey, stored_values, stored_shape, value_below}
use Rattle.step_ephemerons.proofs.OfCommands.HeadSteps.{brings}

-- a command that stores to an ephemeron
abbrev Stores : command.Command → Type 0
Stores (SetKey ephe i item) = Unit {0}
Stores (UnsetKey ephe i) = Unit {0}
Stores (SetData ephe item) = Unit {0}
Stores (UnsetData ephe) = Unit {0}
Stores _ = ⊥

module _ (k : Config) (s : Words) (r : Rule k s) (id : ℕ) (hist : List Entry) (x : DomainView) (at : get_elem? s.views id ≡ some (one k hist x)) where
  abbrev now : model.State
  now = state_of k r.account.log

  -- what a command stores of the graph, and that it leaves the ephemeron with it
  record Sets (c : command.Command) : Type 0 where
    quiet : owed_after r.account.cycling.past.owed x.own.number c ≡ r.account.cycling.past.owed
    barrier : IsTrue r.account.cycling.armed → WriteBarrier r.account.cycling.past r.account.cycling.paint.marks now x.own.number c
    value : graph_value.Value
    fits : FitsKey (key_in c) value
    stands : Stands r.account.live (stored_value x c) value
    leaves : (l : Label) (keys : List (Option Label)) (datum old : graph_value.Value) → Held (key_in c) keys datum old → block_in now x.own.number (ephemeron_in c) ≡ Some (l, Ephe keys datum)
        → outcome now x.own.number c ≡ done_with (with_block now l (stored_node (key_in c) keys datum value))

  sets : (acts : Acts k x) (c : command.Command) → HasItem x c → Stores c → Sets c
  sets acts (SetKey ephe i item) has stores = let b = brings k s r id hist x at acts (SetKey ephe i item) has in record {
    quiet = refl;
    barrier = λ _. tt;
    value = register now x.own.number item;
    fits = ap (λ (v : graph_value.Value). key_value (label_of v)) b.1 ∙ sym b.1;
    stands = (registers_stand k s r id hist x at acts).each item has.0;
    leaves = λ l keys datum old held block. set_outcome now x.own.number (SetKey ephe i item) l keys datum i (label_in now x.own.number item) held.0 b refl held.1 block;
  }
  sets acts (UnsetKey ephe i) has stores = record {
    quiet = refl;
    barrier = λ _. tt;
    value = Nothing;
    fits = refl;
    stands = tt;
    leaves = λ l keys datum old held block. set_outcome now x.own.number (UnsetKey ephe i) l keys datum i None held.0 tt refl held.1 block;
  }
  sets acts (SetData ephe item) has stores = record {
    quiet = refl;
    barrier = λ _. tt;
    value = register now x.own.number item;
    fits = tt;
    stands = (registers_stand k s r id hist x at acts).each item has.0;
    leaves = λ l keys datum old held block. datum_outcome now x.own.number (SetData ephe item) l keys datum (register now x.own.number item) (brings k s r id hist x at acts (SetData ephe item) has) refl block;
  }
  sets acts (UnsetData ephe) has stores = record {
    quiet = refl;
    barrier = λ _. tt;
    value = Nothing;
    fits = tt;
    stands = tt;
    leaves = λ l keys datum old held block. datum_outcome now x.own.number (UnsetData ephe) l keys datum Nothing tt refl block;
  }
  sets acts _ has stores = absurd stores

  weak_value : (a new : ℕ) (remembers : Bool) (changes : List Change) (c : command.Command) → Stores c → WeakStoreMay k x a new remembers changes x.own.number c → ValueStore k s r id hist x at a new remembers changes c Stored
  weak_value a new remembers changes c stores may =
      let f = weak_at k s r id hist x at (run_settled k s r id hist x at may.acts.runs) (whole_here k s r id hist x at Run tt may.acts.runs) a (ephemeron_in c) (key_in c) may.target in
      let z = sets may.acts c may.item stores in record {
        block = ephemeron_in c;
        index = index_of (key_in c);
        address = f.address;
        place = f.place;
        node = Ephe f.keys f.datum;
        after = stored_node (key_in c) f.keys f.datum z.value;
        word = stored_value x c;
        value = z.value;
        holds = f.block.holds;
        lives = f.lives;
        there = f.node;
        spot = f.at_is;
        same_shape = stored_shape (key_in c) f.keys f.datum z.value;
        values = stored_values (key_in c) f.keys f.datum z.value z.fits;
        below = value_below (key_in c) f.keys f.datum f.has;
        stands = z.stands;
        packs = may.word;
        exact = may.exact;
        same = may.same;
        unregistering = unregistering_item x c may.item;
        fits = fits_item now x.own.number x c may.item (may_begin k s r id hist x at may.acts);
        quiet = z.quiet;
        barrier = z.barrier;
        leaves = leaves_block now x.own.number c f.place.label (stored_node (key_in c) f.keys f.datum z.value)
            (z.leaves f.place.label f.keys f.datum f.value f.is (block_is now x.own.number (ephemeron_in c) f.place.label (Ephe f.keys f.datum) f.held f.node));
      }

weak_stores : (k : Config) (word : ℕ) (x : DomainView) (a new : ℕ) (remembers : Bool) (changes : List Change) (j : ℕ) (c : command.Command) → Stores c → word ≡ before_heap k + a → WeakStoreMay k x a new remembers changes j c
    → MayStore k x word new (λ y _ z. StoreTold k (Command j c false) a remembers changes y z)
weak_stores k word x a new remembers changes j c stores place may fits slots id h =
    let mine : WeakStoreMay k x a new remembers changes x.own.number c = subst (λ (n : ℕ). WeakStoreMay k x a new remembers changes n c) may.own may in
    subst (λ (n : ℕ). Allows (Rule k) slots id (one k h x, []) word (λ _. new) (λ _. Tells (λ y _ z. StoreTold k (Command n c false) a remembers changes y z) (one k h x, []) new)) (sym may.own)
    (value_stores k slots id word h x a new remembers changes c may.acts place (λ s r at. weak_value k s r id h x at a new remembers changes c stores mine))

pub key_store_may : (k : Config) (word : ℕ) (x : DomainView) (a new : ℕ) (remembers : Bool) (e : Entry) (changes : List Change) → word ≡ before_heap k + a → KeyStoreEntry k x a new remembers changes e
    → MayStore k x word new (λ y _ z. StoreTold k e a remembers changes y z)
key_store_may k word x a new remembers (Command j (SetKey ephe i item) false) changes place may = weak_stores k word x a new remembers changes j (SetKey ephe i item) tt place may
key_store_may k word x a new remembers (Command j (UnsetKey ephe i) false) changes place may = weak_stores k word x a new remembers changes j (UnsetKey ephe i) tt place may
key_store_may k word x a new remembers _ changes place may = absurd may

pub data_store_may : (k : Config) (word : ℕ) (x : DomainView) (a new : ℕ) (remembers : Bool) (e : Entry) (changes : List Change) → word ≡ before_heap k + a → DataStoreEntry k x a new remembers changes e
    → MayStore k x word new (λ y _ z. StoreTold k e a remembers changes y z)
data_store_may k word x a new remembers (Command j (SetData ephe item) false) changes place may = weak_stores k word x a new remembers changes j (SetData ephe item) tt place may
data_store_may k word x a new remembers (Command j (UnsetData ephe) false) changes place may = weak_stores k word x a new remembers changes j (UnsetData ephe) tt place may
data_store_may k word x a new remembers _ changes place may = absurd may

pub key_store_fits : (k : Config) (x : DomainView) (a new : ℕ) (remembers : Bool) (changes : List Change) (e : Entry) → KeyStoreEntry k x a new remembers changes e → CanStore remembers changes x.own
key_store_fits k x a new remembers changes (Command j (SetKey ephe i item) false) may = (may.fits, may.room)
key_store_fits k x a new remembers changes (Command j (UnsetKey ephe i) false) may = (may.fits, may.room)
key_store_fits k x a new remembers changes _ may = absurd may

pub data_store_fits : (k : Config) (x : DomainView) (a new : ℕ) (remembers : Bool) (changes : List Change) (e : Entry) → DataStoreEntry k x a new remembers changes e → CanStore remembers changes x.own
data_store_fits k x a new remembers changes (Command j (SetData ephe item) false) may = (may.fits, may.room)
data_store_fits k x a new remembers changes (Command j (UnsetData ephe) false) may = (may.fits, may.room)
data_store_fits k x a new remembers changes _ may = absurd may
