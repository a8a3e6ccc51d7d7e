-- The writing of an ephemeron at a free place of an own pool.
use Rattle.std.proofs.Common.{◌≡◌, ◌∙◌, ℕ, ◌+◌, ◌^◌, ◌<◌, ◌≤◌, List, [], ◌∷◌, replicate, true, refl, ap, sym, subst, arith, get_or-set_same, length, slice_set, length-set}
use Rattle.model_core.specs.declared.label.Label.{Label}
use Rattle.model_core.specs.declared.command.Command.TheVariants.{Ephe}
use Rattle.model_core.specs.declared.entry.Entry.{Entry}
use Rattle.model_core.specs.declared.reply.Reply.TheVariants.{Block}
use Rattle.model_core.specs.Fronts.{EpheShape}
use Rattle.heap_words.specs.declared.value.Value.{Value}
use Rattle.heap_words.specs.declared.value.Value.TheVariants.{Ref, Nothing}
use Rattle.heap_words.specs.Labels.{label_word}
use Rattle.heap_rule.specs.declared.change.Part.TheVariants.{Register}
use Rattle.heap_rule.specs.declared.change.Change.{Change}
use Rattle.heap_rule.specs.declared.change.Change.TheVariants.{Set}
use Rattle.heap_rule.specs.declared.config.Config.{Config}
use Rattle.heap_rule.specs.declared.view.DomainView.{DomainView}
use Rattle.heap_rule.specs.declared.view.Hunt.{Hunt}
use Rattle.heap_rule.specs.declared.view.Hunt.TheVariants.{Fills}
use Rattle.heap_rule.specs.declared.view.Own.{Own}
use Rattle.heap_rule.specs.Changes.{value_at}
use Rattle.heap_rule.specs.Places.{IsNewHead}
use Rattle.heap_rule.specs.Running.{Did, own_entry}
use Rattle.heap_rule.specs.Token.{Token, SharedHeap, Holds, IsIn, next_label}
use Rattle.step_pools.specs.Takes.{with_hunt}
use Rattle.step_pools.specs.Ephemerons.{empty_word, with_ephemeron, EpheMay, EpheTold}
use Rattle.step_pools.proofs.Plain.{ephe_rest}
use Rattle.do_alloc.specs.Pools.Created.{ListsCreated, ListsHeld, with_list}
use Rattle.do_alloc.specs.Pools.Taken.{IsBusy, IsRoom, MaySweep, Searched, SoughtBelow}
use Rattle.do_alloc.proofs.OfPools.Seeking.{may_still, below_sweep, below_view}
use Rattle.do_alloc.proofs.OfPools.Writing.{busy_acts, made_did}

-- a place with room for so many words has room for as many
pub same_room : (k : Config) (x : DomainView) (a n m : ℕ) → m ≡ n → IsRoom k x a n → IsRoom k x a m
same_room k x a n m same r = subst (IsRoom k x a) (sym same) r

pub ephe_may : (h : SharedHeap) (old : Token) (x : DomainView) (a new dst place keys : ℕ) (runs : IsBusy h old) (r : IsRoom h.config old.view a (keys + 3))
    → x ≡ with_hunt old.view (Fills r.pool r.class r.slot (label_word old.view.own.number (old.view.own.serial + 1) ∷ replicate (keys + 1) empty_word)) → place ≡ dst → dst < 16 → 1 ≤ keys → keys ≤ 8 → 1 ≤ old.view.own.ephemerons.room → old.view.own.serial + 1 < 2 ^ 32
    → IsNewHead old.view.seen.share.colours old.view.seen.share.armed true (EpheShape keys) new → EpheMay h.config x a new (Set Register place (record { value = Ref a; number = 0; more = 0 }) ∷ []) old.view.own.number dst keys
ephe_may h old x a new dst place keys runs r is same few one_key fits list serial head =
    subst (λ (z : DomainView × ℕ). EpheMay h.config z.0 a new (Set Register z.1 (record { value = Ref a; number = 0; more = 0 }) ∷ []) old.view.own.number dst keys) (λ i. (sym is i, sym same i)) record {
      pool = r.pool;
      class = r.class;
      slot = r.slot;
      own = refl;
      acts = let a = busy_acts h old runs in record { goes_on = a.goes_on; runs = a.runs; paid = a.paid; unqueued = a.unqueued };
      hunt = refl;
      word = r.address;
      some_key = one_key;
      few_keys = fits;
      head = head;
      serial = serial;
      room = list;
      goes = few;
      written = refl;
      fits = (few, tt);
    }

pub ephe_did : (h : SharedHeap) (old new : Token) (mid : DomainView) (e : Entry) (at dst keys : ℕ) (l : Label) (hunt : Hunt) (changes : List Change) → e ≡ own_entry old (Ephe dst keys) → IsBusy h old → IsIn new h
    → mid ≡ with_hunt old.view hunt → EpheTold h.config e at changes mid new.view → l ≡ next_label old.view → Did h old new (Ephe dst keys) (Block l)
ephe_did h old new mid e at dst keys l hunt changes is runs here view told label =
    made_did h old new mid e (Ephe dst keys) l hunt _ _ _ is runs here view (ephe_rest _ _ _ _ _ _ told) told.answers label

-- the ephemeron is listed, and the register holds its address
pub taken_lists : (h : SharedHeap) (a dst : ℕ) (old mid new : Token) (hunt : Hunt) → dst < 16 → IsIn old h → SoughtBelow h.config old.view mid.view hunt → ListsCreated a mid new → new.view.own.registers ≡ slice_set mid.view.own.registers dst (Ref a) → Holds h.config new.view.own.registers → ListsHeld dst old new
taken_lists h a dst old mid new hunt few here sought l registers holds =
    let before : List Value = mid.view.own.registers in
    let wide : length before ≡ 16 = sym (length-set before dst (Ref a)) ∙ (sym (ap (λ (r : List Value). length r) registers) ∙ holds.wide) in record {
      at = a;
      held = ap (λ (r : List Value). value_at r dst) registers ∙ get_or-set_same before dst (Ref a) Nothing (let n : ℕ = length before in let w : n ≡ 16 = wide in let f : dst < 16 = few in let o : dst < n = omega arith in o);
      list = mid.view.own.ephemerons;
      own = l.own ∙ (λ i. record (view i).own { registers = new.view.own.registers; serial = (view i).own.serial + 1; looked = looks i; ephemerons = with_ephemeron a mid.view.own.ephemerons; swept = next i });
      sweep = subst (λ (k : Config). MaySweep k old.view (with_list new.view mid.view.own.ephemerons)) (sym here.1) (may_still h.config old.view mid.view (with_list new.view mid.view.own.ephemerons) refl next (below_sweep h.config old.view mid.view hunt sought));
      at_rest = l.at_rest;
    } where
      view : Searched old.view mid.view hunt
      view = below_view h.config old.view mid.view hunt sought

      looks : mid.view.own.looked ≡ new.view.own.looked
      looks = sym (ap (λ (o : Own). o.looked) l.own)

      next : mid.view.own.swept ≡ new.view.own.swept
      next = sym (ap (λ (o : Own). o.swept) l.own)
