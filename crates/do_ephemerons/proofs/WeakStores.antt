-- Stores to the words of an ephemeron that was found.
use Rattle.std.proofs.Common.{◌≡◌, ◌≢◌, ◌↔◌, ◌∙◌, ℕ, ◌≤◌, Bool, true, List, [], Option, Some, None, IfSome, refl, sym, ap, subst}
use Rattle.model_core.specs.declared.command.Command.{Command}
use Rattle.model_core.specs.declared.command.Command.TheVariants.{SetKey, UnsetKey, SetData, UnsetData}
use Rattle.model_core.specs.declared.reply.Reply.TheVariants.{Done}
use Rattle.heap_words.specs.declared.value.Value.{Value}
use Rattle.heap_words.specs.declared.value.Value.TheVariants.{Ref, Nothing}
use Rattle.heap_words.specs.Values.{value_word}
use Rattle.heap_rule.specs.declared.config.Config.{Config}
use Rattle.heap_rule.specs.declared.view.DomainView.{DomainView}
use Rattle.heap_rule.specs.declared.view.Own.{Own}
use Rattle.heap_rule.specs.Changes.{value_at}
use Rattle.heap_rule.specs.Running.{Runs, Did, own_entry}
use Rattle.heap_rule.specs.Token.{Token, SharedHeap, IsIn}
use Rattle.step_run.specs.Fields.Stores.{IsYoungBlock, MustRemember, StoreTold}
use Rattle.step_ephemerons.specs.Commands.Heads.{ephemeron_in, key_in, IsBlockValue, HasItem}
use Rattle.step_ephemerons.specs.Commands.Loads.{word_of}
use Rattle.step_ephemerons.specs.Commands.Stores.{stored_value, WeakStoreMay, KeyStoreEntry, DataStoreEntry}
use Rattle.do_fields.proofs.OfFields.FieldStores.{stored_did}
use Rattle.do_ephemerons.specs.Found.{Found}
use Rattle.do_ephemerons.specs.Items.{IsChange, item_in, value_of}
use Rattle.do_ephemerons.proofs.WeakLoads.{found_own, found_entry, found_acts, found_may}

-- a command that names a key sets one
pub key_entry : (k : Config) (t : Token) (at new : ℕ) (remembers : Bool) (c : Command) (i : ℕ) → IsChange c → key_in c ≡ Some i → WeakStoreMay k t.view at new remembers [] t.view.own.number c → KeyStoreEntry k t.view at new remembers [] (own_entry t c)
key_entry k t at new remembers (SetKey ephe n item) i changes key may = may
key_entry k t at new remembers (UnsetKey ephe n) i changes key may = may
key_entry k t at new remembers (SetData ephe item) i changes key may = cc
key_entry k t at new remembers (UnsetData ephe) i changes key may = cc
key_entry k t at new remembers _ i changes key may = absurd changes

-- and one that names none sets the datum
pub data_entry : (k : Config) (t : Token) (at new : ℕ) (remembers : Bool) (c : Command) → IsChange c → key_in c ≡ None → WeakStoreMay k t.view at new remembers [] t.view.own.number c → DataStoreEntry k t.view at new remembers [] (own_entry t c)
data_entry k t at new remembers (SetKey ephe n item) changes key may = cc
data_entry k t at new remembers (UnsetKey ephe n) changes key may = cc
data_entry k t at new remembers (SetData ephe item) changes key may = may
data_entry k t at new remembers (UnsetData ephe) changes key may = may
data_entry k t at new remembers _ changes key may = absurd changes

-- what a command stores is what its item's register holds
pub stored_item : (x : DomainView) (c : Command) → IsChange c → stored_value x c ≡ value_of x.own.registers (item_in c)
stored_item x (SetKey ephe i item) changes = refl
stored_item x (UnsetKey ephe i) changes = refl
stored_item x (SetData ephe item) changes = refl
stored_item x (UnsetData ephe) changes = refl
stored_item x _ changes = absurd changes

-- nothing is remembered where nothing is set
pub room_there : (k : Config) (block value : Value) (registers : List Value) (item : Option ℕ) (room : ℕ) → value ≡ value_of registers item → IfSome item (λ r. 1 ≤ room) → MustRemember k block value → 1 ≤ room
room_there k block value registers None room is there must = absurd (subst (λ (v : Value). IsYoungBlock k v) is must.1)
room_there k block value registers (Some r) room is there must = there

-- a look leaves the item
item_stays : (x y : DomainView) (c : Command) → y.own ≡ x.own → IsChange c → HasItem x c → HasItem y c
item_stays x y (SetKey ephe i item) same changes has = (has.0, subst (λ (o : Own). IsBlockValue (value_at o.registers item)) (sym same) has.1)
item_stays x y (UnsetKey ephe i) same changes has = tt
item_stays x y (SetData ephe item) same changes has = (has.0, subst (λ (o : Own). value_at o.registers item ≢ Nothing) (sym same) has.1)
item_stays x y (UnsetData ephe) same changes has = tt
item_stays x y _ same changes has = absurd changes

module _ (h : SharedHeap) (old y : Token) (c : Command) (a : ℕ) (runs : Runs h old) (f : Found h old y c a) (changes : IsChange c) (value : Value) (is : value ≡ value_of old.view.own.registers (item_in c))
    (remembers : Bool) (exact : (remembers ≡ true) ↔ MustRemember h.config (Ref a) value) where
  stored_is : stored_value y.view c ≡ value
  stored_is = stored_item y.view c changes ∙ ap (λ (o : Own). value_of o.registers (item_in c)) (found_own h old y c a runs f) ∙ sym is

  -- a store of it may be made
  pub store_may : (new : ℕ) → new ≡ value_word value → (remembers ≡ true → 1 ≤ old.view.own.remembered.room) → WeakStoreMay h.config y.view (word_of (key_in c) a) new remembers [] y.view.own.number c
  store_may new word room = record {
    own = refl;
    acts = found_acts h old y c a runs f;
    target = found_may h old y c a runs f;
    item = item_stays old.view y.view c (found_own h old y c a runs f) changes f.item;
    word = word ∙ ap value_word (sym stored_is);
    exact = subst (λ (v : Value). (remembers ≡ true) ↔ MustRemember h.config (value_at y.view.own.registers (ephemeron_in c)) v) (sym stored_is)
        (subst (λ (v : Value). (remembers ≡ true) ↔ MustRemember h.config v value) (sym (ap (λ (o : Own). value_at o.registers (ephemeron_in c)) (found_own h old y c a runs f) ∙ f.block.holds)) exact);
    room = λ yes. subst (λ (o : Own). 1 ≤ o.remembered.room) (sym (found_own h old y c a runs f)) (room yes);
    same = refl;
    fits = tt;
  }

  -- and makes the call of its command
  pub store_did : (z : Token) → IsIn z h → StoreTold h.config (own_entry y c) (word_of (key_in c) a) remembers [] y.view z.view → Did h old z c Done
  store_did z here told = stored_did h old z y.view y.view c (own_entry y c) (word_of (key_in c) a) remembers [] Done (found_entry h old y c a runs f) runs here f.counted.looked (record { view = refl; grows = λ _ m. m }) refl told
