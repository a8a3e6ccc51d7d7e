-- The steps on a field of a block whose size was read.
use Rattle.std.proofs.Common.{◌≡◌, ◌≢◌, ◌↔◌, ◌∙◌, ℕ, ◌+◌, ◌<◌, ◌≤◌, Bool, true, [], ◌∷◌, refl, sym, ap, subst, arith}
use Rattle.model_core.specs.declared.command.Command.TheVariants.{Load, Store, Cas}
use Rattle.model_core.specs.declared.entry.Entry.{Entry}
use Rattle.model_core.specs.Fronts.{HoldsFields}
use Rattle.heap_rule.proofs.Acting.{looked_acts}
use Rattle.heap_words.specs.declared.value.Value.{Value}
use Rattle.heap_words.specs.declared.value.Value.TheVariants.{Ref, Nothing}
use Rattle.heap_rule.specs.declared.change.Change.TheVariants.{Read}
use Rattle.heap_rule.specs.declared.config.Config.{Config}
use Rattle.heap_rule.specs.declared.view.DomainView.{DomainView}
use Rattle.heap_rule.specs.Changes.{value_at}
use Rattle.heap_rule.specs.declared.view.Own.{Own}
use Rattle.step_run.specs.Fields.Stores.{MustRemember, FieldStoreEntry, SuitsField}
use Rattle.step_run.specs.Exchange.Exchanges.{ExchangeEntry, ExpectedMarked}
use Rattle.heap_words.specs.Values.{value_word}
use Rattle.heap_rule.specs.Rule.{state_of}
use Rattle.step_run.specs.Fields.Loads.{FieldLoadEntry, Measured}
use Rattle.do_fields.specs.Darkening.Aware.{Learnt}
use Rattle.heap_rule.specs.Beside.{Barrier}
use Rattle.heap_rule.specs.Standing.{FieldMay}
use Rattle.heap_rule.specs.Standing.{Acts, IsInHeap}
use Rattle.heap_rule.specs.Token.{Token, SharedHeap}
use Rattle.heap_rule.specs.Running.{Runs}
use Rattle.heap_rule.specs.Running.{own_entry}

-- what is known of the block after the look: it has so many fields, and its field lies in the heap
pub record Field (k : Config) (y : DomainView) (r i a n : ℕ) : Type 0 where
  pub may : FieldMay k y (a + 2 + i) r i
  pub counts : may.size ≡ n
  pub acts : Acts k y
  pub inside : IsInHeap k (a + 2 + i)

-- the block is at the address
pub at_address : {n : ℕ} (k : Config) (y : DomainView) (r i a : ℕ) (f : Field k y r i a n) → f.may.address ≡ a
at_address k y r i a f = let n : ℕ = f.may.address in let e : a + 2 + i ≡ n + 2 + i = f.may.field in omega arith

-- the register's block was looked at, and the place is one of its fields
pub field_known : (h : SharedHeap) (old : Token) (y : DomainView) (r i size a : ℕ) → Runs h old → r < 16 → value_at old.view.own.registers r ≡ Ref a → Measured h.config a r size old.view y → i < size → Field h.config y r i a size
field_known h old y r i size a runs few held m below =
    let own : y.own ≡ old.view.own = ap (λ (x : DomainView). x.own) m.looked.view in
    let number : y.own.number ≡ old.view.own.number = ap (λ (x : DomainView). x.own.number) m.looked.view in
    let before : Acts h.config old.view = subst (λ (k : Config). Acts k old.view) runs.here.1 runs.acts in
    record {
      may = record {
        address = a;
        size = size;
        block = record { few = few; holds = ap (λ (x : DomainView). value_at x.own.registers r) m.looked.view ∙ held };
        field = refl;
        known = subst (λ (n : ℕ). HoldsFields (state_of h.config y.seen.front) n r size) (sym number) m.knows;
        inside = below;
      };
      counts = refl;
      acts = looked_acts h.config old.view y m.looked before;
      inside = (omega arith, omega (arith, m.inside));
    }

-- and so it is once what the field refers to is marked
pub field_after : {n : ℕ} (k : Config) (y z : DomainView) (r i a : ℕ) → Learnt y z → z.seen.share.weak ≡ y.seen.share.weak → Field k y r i a n → Field k z r i a n
field_after {n = n} k y z r i a learnt weak f = subst (λ (v : DomainView). Field k v r i a n) (sym learnt.view) (let m = f.may in record {
  may = record { address = m.address; size = m.size; block = record { few = m.block.few; holds = m.block.holds }; field = m.field; known = m.known; inside = m.inside };
  counts = f.counts;
  acts = record { goes_on = f.acts.goes_on; runs = f.acts.runs; paid = weak ∙ f.acts.paid; unqueued = f.acts.unqueued };
  inside = f.inside;
})

-- the block takes what it took
pub suits_after : (k : Config) (y z : DomainView) (r size : ℕ) (v : Value) → Learnt y z → SuitsField k y r size v → SuitsField k z r size v
suits_after k y z r size v learnt s = subst (λ (x : DomainView). SuitsField k x r size v) (sym learnt.view) s

-- the step of a load may be made
pub load_may : {n : ℕ} (h : SharedHeap) (old : Token) (y : DomainView) (e : Entry) (dst src i a : ℕ) → e ≡ own_entry old (Load dst src i) → y.own.number ≡ old.view.own.number → dst < 16 → Field h.config y src i a n
    → FieldLoadEntry h.config y (a + 2 + i) (Read dst ∷ []) e
load_may h old y e dst src i a is number goes f =
    subst (λ (x : Entry). FieldLoadEntry h.config y (a + 2 + i) (Read dst ∷ []) x) (sym is)
    (record { own = sym number; acts = f.acts; reads = f.may; goes = goes; written = λ v. refl; fits = (goes, tt) })

-- the step of a store may be made
pub store_may : {n : ℕ} (h : SharedHeap) (old : Token) (y : DomainView) (e : Entry) (block i item a new : ℕ) (remembers : Bool) → e ≡ own_entry old (Store block i item) → y.own ≡ old.view.own → value_at old.view.own.registers block ≡ Ref a → item < 16 → value_at old.view.own.registers item ≢ Nothing
    → new ≡ value_word (value_at old.view.own.registers item) → (remembers ≡ true) ↔ MustRemember h.config (Ref a) (value_at old.view.own.registers item) → 1 ≤ old.view.own.remembered.room → (f : Field h.config y block i a n) → SuitsField h.config y block n (value_at old.view.own.registers item) → Barrier y.seen.share f.may.address i → FieldStoreEntry h.config y (a + 2 + i) new remembers [] e
store_may {n = n} h old y e block i item a new remembers is own held from full word exact room f suits barrier =
    subst (λ (x : Entry). FieldStoreEntry h.config y (a + 2 + i) new remembers [] x) (sym is)
    (record {
      own = sym (ap (λ (o : Own). o.number) own);
      acts = f.acts;
      target = f.may;
      barrier = barrier;
      from = from;
      full = λ empty. full (sym (ap (λ (o : Own). value_at o.registers item) own) ∙ empty);
      suits = subst (λ (v : ℕ × Value). SuitsField h.config y block v.0 v.1) (λ j. (sym f.counts j, sym (ap (λ (o : Own). value_at o.registers item) own) j)) suits;
      word = word ∙ sym (ap (λ (o : Own). value_word (value_at o.registers item)) own);
      exact = subst (λ (v : Value × Value). (remembers ≡ true) ↔ MustRemember h.config v.0 v.1) (λ j. (sym (ap (λ (o : Own). value_at o.registers block) own ∙ held) j, value_at (sym own j).registers item)) exact;
      room = λ _. subst (λ (o : Own). 1 ≤ o.remembered.room) (sym own) room;
      same = refl;
      fits = tt;
    })

-- the step of a compare-and-set may be made
pub exchange_may : {n : ℕ} (h : SharedHeap) (old : Token) (y : DomainView) (e : Entry) (block i expected item a was new : ℕ) (remembers : Bool) → e ≡ own_entry old (Cas block i expected item) → y.own ≡ old.view.own → value_at old.view.own.registers block ≡ Ref a
    → expected < 16 → value_at old.view.own.registers expected ≢ Nothing → was ≡ value_word (value_at old.view.own.registers expected)
    → item < 16 → value_at old.view.own.registers item ≢ Nothing → new ≡ value_word (value_at old.view.own.registers item)
    → (remembers ≡ true) ↔ MustRemember h.config (Ref a) (value_at old.view.own.registers item) → 1 ≤ old.view.own.remembered.room → (f : Field h.config y block i a n) → SuitsField h.config y block n (value_at old.view.own.registers item)
    → ExpectedMarked h.config y.seen.share (value_at old.view.own.registers expected) → ExchangeEntry h.config y (a + 2 + i) was new remembers [] e
exchange_may {n = n} h old y e block i expected item a was new remembers is own held expects expected_full was_is from full new_is exact room f suits barrier =
    subst (λ (x : Entry). ExchangeEntry h.config y (a + 2 + i) was new remembers [] x) (sym is)
    (record {
      own = sym (ap (λ (o : Own). o.number) own);
      acts = f.acts;
      target = f.may;
      expects = expects;
      expected_full = λ empty. expected_full (sym (ap (λ (o : Own). value_at o.registers expected) own) ∙ empty);
      old_is = was_is ∙ sym (ap (λ (o : Own). value_word (value_at o.registers expected)) own);
      from = from;
      full = λ empty. full (sym (ap (λ (o : Own). value_at o.registers item) own) ∙ empty);
      new_is = new_is ∙ sym (ap (λ (o : Own). value_word (value_at o.registers item)) own);
      suits = subst (λ (v : ℕ × Value). SuitsField h.config y block v.0 v.1) (λ j. (sym f.counts j, sym (ap (λ (o : Own). value_at o.registers item) own) j)) suits;
      exact = subst (λ (v : Value × Value). (remembers ≡ true) ↔ MustRemember h.config v.0 v.1) (λ j. (sym (ap (λ (o : Own). value_at o.registers block) own ∙ held) j, value_at (sym own j).registers item)) exact;
      room = λ _. subst (λ (o : Own). 1 ≤ o.remembered.room) (sym own) room;
      same = refl;
      fits = tt;
      barrier = subst (λ (v : Value). ExpectedMarked h.config y.seen.share v) (sym (ap (λ (o : Own). value_at o.registers expected) own)) barrier;
    })
