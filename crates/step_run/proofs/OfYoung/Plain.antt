-- What the step calls tell of a token's plain data: it is what their changes and counts make of it.
use Rattle.std.proofs.Common.{◌≡◌, ◌+◌, ◌≤◌, ◌<◌, ◌^◌, ℕ, List, [], length, refl, sym, ap, ◌∙◌, subst, arith, inl, inr}
use Rattle.model_core.specs.declared.entry.Entry.{Entry}
use Rattle.heap_words.specs.declared.value.Value.{Value}
use Rattle.heap_words.specs.declared.value.Value.TheVariants.{Nothing}
use Rattle.heap_rule.specs.declared.change.Change.{Change}
use Rattle.heap_rule.specs.declared.config.Config.{Config}
use Rattle.heap_rule.specs.declared.change.Reading.TheVariants.{Unread}
use Rattle.heap_rule.specs.declared.view.Own.{Own}
use Rattle.heap_rule.specs.declared.view.DomainView.{DomainView}
use Rattle.heap_rule.specs.Changes.{changed, FitChanges}
use Rattle.heap_rule.specs.Raw.{CanChange, Changes, Closes}
use Rattle.heap_rule.specs.Standing.{LeavesOwn}
use Rattle.heap_rule.specs.Places.{class_words}
use Rattle.heap_rule.specs.Token.{Holds, OwnFits, next_label}
use Rattle.heap_rule.proofs.ChangeLemmas.{changed_only}
use Rattle.step_run.specs.Young.Inits.{fields_of, WordTold, AllocTold, CanCount, CountsWords}
use Rattle.heap_rule.proofs.Closes.{front_same}
use Rattle.model_core.specs.declared.reply.Applied.TheVariants.{Replied}
use Rattle.model_core.specs.declared.reply.Reply.TheVariants.{Block}
use Rattle.heap_rule.proofs.Fits.{fits_held}

-- a word behind the head leaves the plain data
pub word_closes : (k : Config) (x : DomainView) (new : ℕ) (changes : List Change) → FitChanges changes → LeavesOwn changes x
    → Closes k x new (λ y _ z. WordTold new y z) (λ own. CanChange Unread new changes) (λ own after. Changes Unread new changes own after)
word_closes k x new changes fits leaves y p told =
    let same : y.own ≡ x.own = ap (λ (z : DomainView). z.own) told.view in record {
      can_write = (fits, (Nothing, refl));
      written = λ after wrote. same ∙ (sym leaves ∙ (ap (λ (u : Value). changed u changes x.own) (sym wrote.1) ∙ sym wrote.2));
      fits = subst (OwnFits k) (sym same) p;
      once = λ _. inl (record { front = front_same x y (ap (λ (z : DomainView). z.seen.front) told.view); registers = ap (λ (o : Own). o.registers) same; used = ap (λ (o : Own). o.used) same; serial = ap (λ (o : Own). o.serial) same });
    }

-- the domain after the head, by its registers
pub alloc_rest : (k : Config) (e : Entry) (changes : List Change) (x y : DomainView) → AllocTold k e changes x y → y ≡ record {
  own = record x.own { registers = (changed Nothing changes x.own).registers; used = x.own.used + class_words (fields_of e + 2); serial = x.own.serial + 1 };
  seen = record x.seen { front = y.seen.front; made = [] };
}
alloc_rest k e changes x y told = told.view ∙ ap (λ (own : Own). record { own = record own { used = x.own.used + class_words (fields_of e + 2); serial = x.own.serial + 1 }; seen = record x.seen { front = y.seen.front; made = [] } }) (changed_only Nothing changes x.own)

-- the head makes the changes, counts the class's words, and the label
pub alloc_closes : (k : Config) (x : DomainView) (new words : ℕ) (e : Entry) (changes : List Change) → FitChanges changes → words ≡ class_words (fields_of e + 2) → x.own.used + class_words (fields_of e + 2) ≤ k.minor_words → k.minor_words ≤ 65536 → x.own.serial + 1 < 2 ^ 32
    → Closes k x new (λ y _ z. AllocTold k e changes y z) (CanCount words changes) (CountsWords words changes)
alloc_closes k x new words e changes fits class room small serial y p told =
    let own = ap (λ (z : DomainView). z.own) told.view in
    let rest = ap (λ (z : DomainView). z.own) (alloc_rest k e changes x y told) in
    let used : ℕ = x.own.used in
    let n : ℕ = class_words (fields_of e + 2) in
    let minor : ℕ = k.minor_words in
    let r : used + n ≤ minor = room in let m : minor ≤ 65536 = small in let w : words ≡ n = class in record {
      can_write = (fits, let b : used + words < 2 ^ 32 = omega arith in b, serial);
      written = λ after wrote. own ∙ ((λ i. record (changed Nothing changes x.own) { used = x.own.used + sym class i; serial = x.own.serial + 1 }) ∙ sym wrote);
      fits = subst (OwnFits k) (sym rest) (fits_held k x.own (x.own.used + class_words (fields_of e + 2)) (x.own.serial + 1) (changed Nothing changes x.own).registers x.own.remembered x.own.finalisers room (subst (λ (o : Own). Holds k o.registers) rest told.holds) p.remembered p.remembered_room p.finalisers p);
      once = λ _. inr (record { entry = e; answer = Replied (Block (next_label x)); answers = told.answers });
    }
