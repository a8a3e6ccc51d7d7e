-- What the step calls tell of a token's plain data: it is what their changes make of it.
use Rattle.std.proofs.Common.{◌≡◌, ⊎_elim, inl, inr, ℕ, List, [], sym, ap, ◌∙◌}
use Rattle.model_core.specs.declared.entry.Entry.{Entry}
use Rattle.model_core.specs.declared.reply.Applied.TheVariants.{Replied}
use Rattle.model_core.specs.declared.reply.Reply.TheVariants.{BadType, BadIndex}
use Rattle.model_core.specs.Fronts.{Shape, PlainShape, RawShape, EpheShape}
use Rattle.heap_words.specs.declared.value.Value.{Value}
use Rattle.heap_words.specs.declared.value.Value.TheVariants.{Nothing}
use Rattle.heap_words.proofs.WordLemmas.{value_word-injective}
use Rattle.heap_rule.specs.declared.change.Change.{Change}
use Rattle.heap_rule.specs.declared.change.Reading.TheVariants.{AsValue}
use Rattle.heap_rule.specs.declared.config.Config.{Config}
use Rattle.heap_rule.specs.declared.view.Own.{Own}
use Rattle.heap_rule.specs.declared.view.DomainView.{DomainView}
use Rattle.heap_rule.specs.Changes.{changed, FitChanges}
use Rattle.heap_rule.specs.Raw.{StepsOnce, CanChange, Changes, Closes}
use Rattle.heap_rule.proofs.Plain.{fits_changed, entered_own, enters_once}
use Rattle.step_run.proofs.OfFields.Plain.{ClosesUnread, kept}
use Rattle.step_ephemerons.specs.Commands.Heads.{key_of, HasKey, LacksKey, EpheHeadCase, EpheHeadTold}
use Rattle.step_ephemerons.specs.Commands.Loads.{owing_after, target_of, weak_reply, WeakRead}
use Rattle.step_ephemerons.proofs.OfCommands.HeadSteps.{key_cases}

-- a head load leaves the plain data
head_own : (k : Config) (a : ℕ) (e : Entry) (x y : DomainView) (shape : Shape) → EpheHeadCase k a e shape x y → y.own ≡ x.own
head_own k a e x y (PlainShape size tag) told = ap (λ (z : DomainView). z.own) told.view
head_own k a e x y (RawShape size tag) told = ap (λ (z : DomainView). z.own) told.view
head_own k a e x y (EpheShape keys) told = ⊎_elim
    (λ (has : HasKey (key_of e) keys). ap (λ (z : DomainView). z.own) (told.below has).looked.view)
    (λ (lacks : LacksKey (key_of e) keys). ap (λ (z : DomainView). z.own) (told.past lacks).view)
    (key_cases (key_of e) keys)

-- and its entry stands there, or none does
head_once : (k : Config) (a : ℕ) (e : Entry) (x y : DomainView) (shape : Shape) → EpheHeadCase k a e shape x y → StepsOnce k x y
head_once k a e x y (PlainShape size tag) told = enters_once k e (Replied BadType) Nothing [] x y told
head_once k a e x y (RawShape size tag) told = enters_once k e (Replied BadType) Nothing [] x y told
head_once k a e x y (EpheShape keys) told = ⊎_elim
    (λ (has : HasKey (key_of e) keys) _. let m = told.below has in let own = ap (λ (z : DomainView). z.own) m.looked.view in
    inl (record { front = m.looked.seen; registers = ap (λ (o : Own). o.registers) own; used = ap (λ (o : Own). o.used) own; serial = ap (λ (o : Own). o.serial) own }))
    (λ (lacks : LacksKey (key_of e) keys). enters_once k e (Replied BadIndex) Nothing [] x y (told.past lacks))
    (key_cases (key_of e) keys)

pub head_closes : (k : Config) (x : DomainView) (a : ℕ) (e : Entry) (changes : List Change) → changes ≡ [] → ClosesUnread k x changes (EpheHeadTold k a e)
head_closes k x a e changes empty found y p told = kept k x y found changes empty p (head_own k a e x y told.shape told.told) (head_once k a e x y told.shape told.told)

pub weak_load_closes : (k : Config) (x : DomainView) (e : Entry) (changes : List Change) → FitChanges changes → (found : ℕ) → Closes k x found (WeakRead k e changes) (λ own. CanChange AsValue found changes) (λ own after. Changes AsValue found changes own after)
weak_load_closes k x e changes fits found y p told =
    let own = entered_own k e (Replied (weak_reply e told.held)) told.value changes (owing_after k (target_of e) told.value x) y told.entered in record {
      can_write = (fits, (told.value, (told.packable, sym told.word)));
      written = λ after wrote. own ∙ (ap (λ (u : Value). changed u changes x.own) (sym (value_word-injective wrote.0 told.value wrote.1.0 told.packable (wrote.1.1 ∙ told.word))) ∙ sym wrote.2);
      fits = fits_changed k x.own y.own told.value changes own p told.entered.holds;
      once = λ _. inr (record { entry = e; answer = Replied (weak_reply e told.held); answers = told.entered.answers });
    }
