-- What the step calls tell of a token's plain data: it is what their changes make of it.
use Rattle.std.proofs.Common.{true, false, zero, suc, ◌∷◌, ◌++◌, inl, inr, ◌≡◌, ◌+◌, ◌-◌, ◌<◌, ◌≤◌, ℕ, Bool, List, [], length, length-append, refl, sym, ap, ◌∙◌, subst, lt_of_not-le, arith}
use mathlib.Core.Logic.{dite}
use native.Mathlib.Decide.{dec_le}
use Rattle.model_core.specs.declared.entry.Entry.{Entry}
use Rattle.model_core.specs.declared.reply.Applied.TheVariants.{Replied}
use Rattle.model_core.specs.declared.reply.Reply.{Reply}
use Rattle.model_core.specs.declared.reply.Reply.TheVariants.{Done, BadType, BadIndex}
use Rattle.model_core.specs.Commands.{shown}
use Rattle.model_core.specs.Fronts.{Shape, PlainShape, RawShape, EpheShape}
use Rattle.heap_words.specs.declared.value.Value.{Value}
use Rattle.heap_words.specs.declared.value.Value.TheVariants.{Nothing}
use Rattle.heap_words.proofs.WordLemmas.{value_word-injective}
use Rattle.heap_rule.specs.declared.change.Change.{Change}
use Rattle.heap_rule.specs.declared.change.Reading.TheVariants.{Unread, AsValue}
use Rattle.heap_rule.specs.declared.config.Config.{Config}
use Rattle.heap_rule.specs.declared.view.Own.{Own}
use Rattle.heap_rule.specs.declared.view.DomainView.{DomainView}
use Rattle.heap_rule.specs.Changes.{changed, FitChanges}
use Rattle.heap_rule.specs.Raw.{StepsOnce, CanChange, Changes, Written, Closes}
use Rattle.heap_rule.proofs.Plain.{fits_changed, entered_own, enters_once, changed_unread, entered_closes}
use Rattle.heap_rule.proofs.Closes.{front_same}
use Rattle.heap_rule.proofs.ChangeLemmas.{changed_only}
use Rattle.step_run.specs.Fields.Stores.{room_left, with_field, remembering_own, StoreTold, WroteTold, CanStore, Stores}
use Rattle.heap_rule.specs.Token.{AllInHeap, Holds, OwnFits}
use Rattle.heap_rule.specs.Standing.{IsInHeap}
use Rattle.step_run.specs.Fields.Loads.{place_of, puts_block, HeadCase, HeadTold, LabelTold, FieldRead, RawCase, SizeTold}
use Rattle.step_run.specs.Fields.Shortage.{ShortTold}
use Rattle.step_run.specs.Fields.Ticks.{tick_answer, TickTold}
use Rattle.heap_rule.proofs.Fits.{fits_held}

-- a load that leaves the plain data, and has no changes
pub kept : (k : Config) (x y : DomainView) (found : ℕ) (changes : List Change) → changes ≡ [] → OwnFits k x.own → y.own ≡ x.own → StepsOnce k x y → Written k x y (λ own. CanChange Unread found changes) (λ own after. Changes Unread found changes own after)
kept k x y found changes empty p same once =
    let fits : FitChanges changes = subst FitChanges (sym empty) tt in
    let own : y.own ≡ changed Nothing changes x.own = same ∙ ap (λ (cs : List Change). changed Nothing cs x.own) (sym empty) in
    changed_unread k x y found changes fits p own (subst (λ (o : Own). Holds k o.registers) (sym same) p.registers) once

-- what a step that reads no value closes
abbrev pub ClosesUnread : Config → DomainView → List Change → (DomainView → ℕ → DomainView → Type 0) → Type 0
ClosesUnread k x changes tells = (found : ℕ) → Closes k x found tells (λ own. CanChange Unread found changes) (λ own after. Changes Unread found changes own after)

pub tick_closes : (k : Config) (x : DomainView) (e : Entry) (changes : List Change) → FitChanges changes → ClosesUnread k x changes (TickTold k e changes)
tick_closes k x e changes fits found = entered_closes k x found e (tick_answer e) changes fits

-- a store makes the changes, and remembers the field where it is to
field_in_heap : (k : Config) (remembers : Bool) (at : ℕ) (l : List ℕ) → IsInHeap k at → AllInHeap k l → AllInHeap k (with_field remembers at l)
field_in_heap k false at l inside all i a e = all i a e
field_in_heap k true at [] inside all zero a e = subst (IsInHeap k) (let same : at ≡ a = cc in same) inside
field_in_heap k true at [] inside all (suc i) a e = cc
field_in_heap k true at (x ∷ l) inside all zero a e = all 0 a e
field_in_heap k true at (x ∷ l) inside all (suc i) a e = field_in_heap k true at l inside (λ j b got. all (suc j) b got) i a e

-- and what room is left with it is that which was
field_room : (remembers : Bool) (at : ℕ) (l : List ℕ) (room : ℕ) → (remembers ≡ true → 1 ≤ room) → room_left remembers room + length (with_field remembers at l) ≡ room + length l
field_room false at l room some = refl
field_room true at l room some =
    let n : ℕ = length l in
    let more : length (l ++ at ∷ []) ≡ n + 1 = length-append l (at ∷ []) in
    let least : 1 ≤ room = some refl in
    ap (λ (m : ℕ). room - 1 + m) more ∙ (let e : room - 1 + (n + 1) ≡ room + n = omega (least, arith) in e)

pub wrote_closes : (k : Config) (x : DomainView) (at new : ℕ) (remembers : Bool) (e : Entry) (changes : List Change) (reply : Reply) → IsInHeap k at → CanStore remembers changes x.own
    → Closes k x new (λ y _ z. WroteTold k e at remembers changes reply y z) (CanStore remembers changes) (Stores at remembers changes)
wrote_closes k x at new remembers e changes reply inside can y p told =
    let own : y.own ≡ remembering_own remembers at (changed Nothing changes x.own) = ap (λ (z : DomainView). z.own) told.view in
    let rest : y.own ≡ remembering_own remembers at (record x.own { registers = (changed Nothing changes x.own).registers }) = own ∙ ap (remembering_own remembers at) (changed_only Nothing changes x.own) in record {
      can_write = can;
      written = λ after wrote. own ∙ sym wrote;
      fits = subst (OwnFits k) (sym rest) (fits_held k x.own x.own.used x.own.serial (changed Nothing changes x.own).registers (remembering_own remembers at x.own).remembered x.own.finalisers p.used (subst (λ (o : Own). Holds k o.registers) rest told.holds)
          (field_in_heap k remembers at x.own.remembered.items inside p.remembered) (field_room remembers at x.own.remembered.items x.own.remembered.room can.1 ∙ p.remembered_room) p.finalisers p);
      once = λ _. inr (record { entry = e; answer = Replied reply; answers = told.answers });
    }

pub store_closes : (k : Config) (x : DomainView) (at new : ℕ) (remembers : Bool) (e : Entry) (changes : List Change) → IsInHeap k at → CanStore remembers changes x.own
    → Closes k x new (λ y _ z. StoreTold k e at remembers changes y z) (CanStore remembers changes) (Stores at remembers changes)
store_closes k x at new remembers e changes inside can = wrote_closes k x at new remembers e changes Done inside can

-- a look at a block with fields leaves the plain data
size_own : (k : Config) (a : ℕ) (e : Entry) (size : ℕ) (shape : Shape) (x y : DomainView) → SizeTold k a e size shape x y → y.own ≡ x.own
size_own k a e size shape x y told = dite (dec_le size (place_of e))
    (λ past. ap (λ (z : DomainView). z.own) (told.past past).view)
    (λ not_past. ap (λ (z : DomainView). z.own) (told.below (lt_of_not-le not_past)).looked.view)

size_once : (k : Config) (a : ℕ) (e : Entry) (size : ℕ) (shape : Shape) (x y : DomainView) → SizeTold k a e size shape x y → StepsOnce k x y
size_once k a e size shape x y told = dite (dec_le size (place_of e))
    (λ past. enters_once k e (Replied BadIndex) Nothing [] x y (told.past past))
    (λ not_past _. let m = told.below (lt_of_not-le not_past) in let own = ap (λ (z : DomainView). z.own) m.looked.view in
    inl (record { front = m.looked.seen; registers = ap (λ (o : Own). o.registers) own; used = ap (λ (o : Own). o.used) own; serial = ap (λ (o : Own). o.serial) own }))

-- a head load leaves the plain data
head_own : (k : Config) (a : ℕ) (e : Entry) (x y : DomainView) (shape : Shape) → HeadCase k a e shape x y → y.own ≡ x.own
head_own k a e x y (RawShape size tag) told = go (puts_block x e) told where
  go : (b : Bool) → RawCase b k a e size tag x y → y.own ≡ x.own
  go true t = ap (λ (z : DomainView). z.own) t.view
  go false t = size_own k a e size (RawShape size tag) x y t
head_own k a e x y (EpheShape keys) told = ap (λ (z : DomainView). z.own) told.view
head_own k a e x y (PlainShape size tag) told = size_own k a e size (PlainShape size tag) x y told

-- and its entry stands there, or none does
head_once : (k : Config) (a : ℕ) (e : Entry) (x y : DomainView) (shape : Shape) → HeadCase k a e shape x y → StepsOnce k x y
head_once k a e x y (EpheShape keys) told = enters_once k e (Replied BadType) Nothing [] x y told
head_once k a e x y (RawShape size tag) told = go (puts_block x e) told where
  go : (b : Bool) → RawCase b k a e size tag x y → StepsOnce k x y
  go true t = enters_once k e (Replied BadType) Nothing [] x y t
  go false t = size_once k a e size (RawShape size tag) x y t
head_once k a e x y (PlainShape size tag) told = size_once k a e size (PlainShape size tag) x y told

pub head_closes : (k : Config) (x : DomainView) (a : ℕ) (e : Entry) (changes : List Change) → changes ≡ [] → ClosesUnread k x changes (HeadTold k a e)
head_closes k x a e changes empty found y p told = kept k x y found changes empty p (head_own k a e x y told.shape told.told) (head_once k a e x y told.shape told.told)

pub label_closes : (k : Config) (x : DomainView) (r : ℕ) (changes : List Change) → changes ≡ [] → ClosesUnread k x changes (LabelTold k r)
label_closes k x r changes empty found y p told = let own = ap (λ (z : DomainView). z.own) told.view in
    kept k x y found changes empty p own (λ _. inl (record { front = front_same x y (ap (λ (z : DomainView). z.seen.front) told.view); registers = ap (λ (o : Own). o.registers) own; used = ap (λ (o : Own). o.used) own; serial = ap (λ (o : Own). o.serial) own }))

pub short_closes : (k : Config) (x : DomainView) (changes : List Change) → changes ≡ [] → ClosesUnread k x changes (ShortTold k)
short_closes k x changes empty found y p told = let own = ap (λ (z : DomainView). z.own) told.looked.view in
    kept k x y found changes empty p own (λ _. inl (record { front = told.looked.seen; registers = ap (λ (o : Own). o.registers) own; used = ap (λ (o : Own). o.used) own; serial = ap (λ (o : Own). o.serial) own }))

pub field_load_closes : (k : Config) (x : DomainView) (e : Entry) (changes : List Change) → FitChanges changes → (found : ℕ) → Closes k x found (FieldRead k e changes) (λ own. CanChange AsValue found changes) (λ own after. Changes AsValue found changes own after)
field_load_closes k x e changes fits found y p told =
    let own = entered_own k e (Replied (shown told.held)) told.value changes x y told.entered in record {
      can_write = (fits, (told.value, (told.packable, sym told.word)));
      written = λ after wrote. own ∙ (ap (λ (u : Value). changed u changes x.own) (sym (value_word-injective wrote.0 told.value wrote.1.0 told.packable (wrote.1.1 ∙ told.word))) ∙ sym wrote.2);
      fits = fits_changed k x.own y.own told.value changes own p told.entered.holds;
      once = enters_once k e (Replied (shown told.held)) told.value changes x y told.entered;
    }
