-- The writing of a block at a free place of an own pool.
use Rattle.heap_words.specs.Remembered.Bounded.{Bounded}
use Rattle.model_core.specs.Domains.{class_count, IsWithinLimits}
use Rattle.std.proofs.Common.{◌≡◌, ◌≢◌, ◌∙◌, ℕ, ◌+◌, ◌*◌, ◌^◌, ◌<◌, ◌≤◌, List, [], ◌∷◌, Bool, true, false, None, replicate, slice_set, inl, inr, ◌⊎◌, ⊎_elim, refl, ap, sym, subst, arith, lt_of_not-le}
use Rattle.model_core.specs.declared.label.Label.{Label}
use Rattle.model_core.specs.declared.command.Command.{Command as CommandType}
use Rattle.model_core.specs.declared.command.Command.TheVariants.{AllocMaj}
use Rattle.model_core.specs.declared.entry.Entry.{Entry}
use Rattle.model_core.specs.declared.entry.Entry.TheVariants.{Command}
use mathlib.Core.Logic.{dite}
use native.Mathlib.Decide.{ℕ_discrete, dec_le}
use Rattle.heap_rule.specs.declared.view.Own.{Own}
use Rattle.heap_rule.specs.declared.view.Swept.{Swept}
use Rattle.model_core.specs.declared.reply.Reply.{Reply}
use Rattle.model_core.specs.declared.reply.Reply.TheVariants.{Block}
use Rattle.model_core.specs.declared.reply.Applied.TheVariants.{Replied}
use Rattle.model_core.specs.Fronts.{Shape, PlainShape, Answers}
use Rattle.heap_words.specs.declared.value.Value.{Value}
use Rattle.heap_words.specs.declared.value.Value.TheVariants.{Ref}
use Rattle.heap_words.specs.Labels.{label_word}
use Rattle.heap_rule.specs.declared.change.Part.TheVariants.{Register}
use Rattle.heap_rule.specs.declared.change.Change.{Change}
use Rattle.heap_rule.specs.declared.change.Change.TheVariants.{Set}
use Rattle.heap_rule.specs.declared.config.Config.{Config}
use Rattle.heap_rule.specs.declared.view.DomainView.{DomainView}
use Rattle.heap_rule.specs.declared.view.Hunt.{Hunt}
use Rattle.heap_rule.specs.declared.view.Hunt.TheVariants.{Rests, Fills}
use Rattle.heap_rule.specs.Token.{next_label}
use Rattle.heap_rule.specs.Limits.{sizes_in}
use Rattle.heap_rule.specs.Places.{HeadIs, IsNewHead}
use Rattle.heap_rule.specs.Pools.{size_of, hunting_free}
use Rattle.heap_rule.specs.Running.{RemembersAll, Runs, Did, own_entry}
use Rattle.heap_rule.specs.Standing.{Acts, IsInHeap}
use Rattle.step_pools.specs.Takes.{with_hunt, MajorMay, MajorTold}
use Rattle.heap_rule.specs.Token.{Token, SharedHeap, IsIn}
use Rattle.heap_rule.proofs.Calls.{acting_did}
use Rattle.heap_rule.proofs.Classes.{slot_inside, size_is}
use Rattle.do_alloc.specs.Pools.NewMarks.{AreNewMarks}
use Rattle.do_alloc.specs.Pools.Taken.{FoundOwn, FoundSwept, Grows, GrowsBy, HasPlace, IsBusy, IsRoom, KnowsNone, MaySweep, PutsPlace, Searched, SoughtBelow, Taken, Unreserved}
use Rattle.heap_words.specs.Classes.Table.{IsLeastFor}
use Rattle.heap_words.specs.declared.classes.TheConstants.{SIZES}
use Rattle.step_pools.proofs.Plain.{major_rest}
use Rattle.gc_sweep.specs.Sweeping.{with_sweep}
use Rattle.do_alloc.proofs.OfPools.Seeking.{may_still, below_sweep, below_view}

-- the block's words lie in the pools
pub room_inside : (k : Config) (x : DomainView) (a n : ℕ) → IsRoom k x a n → (1 ≤ a) × (a + n ≤ k.pools * 4096 + 1)
room_inside k x a n r =
    let z : ℕ = size_of r.class in
    let s : ℕ = r.slot * size_of r.class in
    let top : s + z ≤ 4096 = slot_inside r.class r.slot r.of_class r.below in
    let room : n ≤ z = r.room in
    let is : a ≡ r.pool * 4096 + s + 1 = r.address in
    let i : r.pool < k.pools = r.inside in (omega arith, omega arith)

-- each of them in the heap, at an address of 32 bits
pub word_inside : (k : Config) (x : DomainView) (a n i : ℕ) → IsWithinLimits (sizes_in k) → IsRoom k x a n → i < n → IsInHeap k (a + i) × (a + i < 2 ^ 32)
word_inside k x a n i limits r below =
    let b = room_inside k x a n r in
    let p : ℕ = k.pools in
    let w : ℕ = k.domains * k.minor_words in
    let few : p ≤ 2048 = limits.pools in
    let low : 1 ≤ a = b.0 in
    let high : a + n ≤ p * 4096 + 1 = b.1 in
    let under : i < n = below in
    ((omega arith, (let h : a + i ≤ p * 4096 + w = omega arith in h)), (let h : a + i < 2 ^ 32 = omega arith in h))

-- and so is the head
pub head_inside : (k : Config) (x : DomainView) (a n : ℕ) → 1 ≤ n → IsRoom k x a n → IsInHeap k a
head_inside k x a n some_word r =
    let b = room_inside k x a n r in
    let p : ℕ = k.pools in
    let w : ℕ = k.domains * k.minor_words in
    let l : 1 ≤ n = some_word in
    let high : a + n ≤ p * 4096 + 1 = b.1 in (b.0, (let h : a ≤ p * 4096 + w = omega arith in h))

-- a busy domain acts by the heap's numbers
pub busy_acts : (h : SharedHeap) (old : Token) → IsBusy h old → Acts h.config old.view
busy_acts h old runs = let a : Acts h.config old.view = subst (λ (k : Config). Acts k old.view) runs.here.1 runs.acts in record { goes_on = a.goes_on; runs = a.runs; paid = a.paid; unqueued = a.unqueued }

-- the head of a new block of the pools, with the marks of one
pub pooled_head : (x : DomainView) (shape : Shape) (word colour : ℕ) (scanned : Bool) → AreNewMarks x colour scanned → HeadIs None shape colour scanned word → IsNewHead x.seen.share.colours x.seen.share.armed true shape word
pooled_head x shape word colour scanned m packs = record {
  colours = m.colours;
  known_is = m.known_is;
  beside = scanned;
  armed_is = m.armed_is;
  fits = subst (λ (n : ℕ). n < 3) m.colour_is m.fits;
  packs = subst (λ (n : ℕ). HeadIs None shape n scanned word) m.colour_is packs;
}

pub major_may : (h : SharedHeap) (old : Token) (x : DomainView) (a new dst place tag n : ℕ) (runs : IsBusy h old) (r : IsRoom h.config old.view a (n + 2))
    → x ≡ with_hunt old.view (Fills r.pool r.class r.slot (label_word old.view.own.number (old.view.own.serial + 1) ∷ replicate n 1)) → place ≡ dst → dst < 16 → tag ≤ 245 → 1 ≤ n → n ≤ 1022 → old.view.own.serial + 1 < 2 ^ 32
    → IsNewHead old.view.seen.share.colours old.view.seen.share.armed true (PlainShape n tag) new → MajorMay h.config x a new (Set Register place (record { value = Ref a; number = 0; more = 0 }) ∷ []) old.view.own.number dst tag n
major_may h old x a new dst place tag n runs r is same few small some fits serial head =
    subst (λ (z : DomainView × ℕ). MajorMay h.config z.0 a new (Set Register z.1 (record { value = Ref a; number = 0; more = 0 }) ∷ []) old.view.own.number dst tag n) (λ i. (sym is i, sym same i)) record {
      pool = r.pool;
      class = r.class;
      slot = r.slot;
      own = refl;
      acts = let a = busy_acts h old runs in record { goes_on = a.goes_on; runs = a.runs; paid = a.paid; unqueued = a.unqueued };
      hunt = refl;
      word = r.address;
      tag_fits = omega arith;
      some_field = some;
      few_fields = fits;
      head = head;
      serial = serial;
      goes = few;
      written = refl;
      fits = (few, tt);
    }

-- the store of the head of a new block makes the command
pub made_did : (h : SharedHeap) (old new : Token) (mid : DomainView) (e : Entry) (c : CommandType) (l : Label) (hunt : Hunt) (registers : List Value) (serial : ℕ) (ephemerons : Bounded ℕ) → e ≡ own_entry old c → IsBusy h old → IsIn new h
    → mid ≡ with_hunt old.view hunt
    → new.view ≡ record { own = record mid.own { registers = registers; serial = serial; ephemerons = ephemerons }; seen = record mid.seen { front = new.view.seen.front; hunt = Rests; spare = None } }
    → Answers (sizes_in h.config) mid.own.number mid.seen.front new.view.seen.front e (Replied (Block (next_label mid))) → l ≡ next_label old.view → Did h old new c (Block l)
made_did h old new mid e c l hunt registers serial ephemerons is runs here view rest answers label =
    let mine = subst (λ (x : DomainView). Answers (sizes_in h.config) x.own.number x.seen.front new.view.seen.front e (Replied (Block (next_label x)))) view answers in
    acting_did h old new c (Block l) runs.here runs.acts runs.remembers here (ap (λ (x : DomainView). x.own.number) rest ∙ ap (λ (x : DomainView). x.own.number) view) (ap (λ (x : DomainView). x.seen.hunt) rest) (ap (λ (x : DomainView). x.seen.made) rest ∙ (ap (λ (x : DomainView). x.seen.made) view ∙ runs.idle))
    (record {
      arrivals = ap (λ (x : DomainView). x.own.arrivals) rest ∙ ap (λ (x : DomainView). x.own.arrivals) view;
      stage = ap (λ (x : DomainView). x.seen.stage) rest ∙ ap (λ (x : DomainView). x.seen.stage) view;
      notes = ap (λ (x : DomainView). x.seen.notes) rest ∙ ap (λ (x : DomainView). x.seen.notes) view;
      copying = ap (λ (x : DomainView). x.seen.copying) rest ∙ ap (λ (x : DomainView). x.seen.copying) view;
      queue = ap (λ (x : DomainView). x.own.finalisers.queue) rest ∙ ap (λ (x : DomainView). x.own.finalisers.queue) view;
      weak = ap (λ (x : DomainView). x.seen.share.weak) rest ∙ ap (λ (x : DomainView). x.seen.share.weak) view;
      progress = ap (λ (x : DomainView). x.seen.share.progress) rest ∙ ap (λ (x : DomainView). x.seen.share.progress) view;
      remembers = λ all. ap (λ (x : DomainView). x.seen.remembered) rest ∙ (ap (λ (x : DomainView). x.seen.remembered) view ∙ (all ∙ sym (ap (λ (x : DomainView). x.own.remembered.items) rest ∙ ap (λ (x : DomainView). x.own.remembered.items) view)));
    })
    (subst (λ (x : Entry). Answers (sizes_in h.config) old.view.own.number old.view.seen.front new.view.seen.front x (Replied (Block l))) is
    (subst (λ (m : Label). Answers (sizes_in h.config) old.view.own.number old.view.seen.front new.view.seen.front e (Replied (Block m))) (sym label) mine))

pub major_did : (h : SharedHeap) (old new : Token) (mid : DomainView) (e : Entry) (dst tag n : ℕ) (l : Label) (hunt : Hunt) (changes : List Change) → e ≡ own_entry old (AllocMaj dst tag n) → IsBusy h old → IsIn new h
    → mid ≡ with_hunt old.view hunt → MajorTold h.config e changes mid new.view → l ≡ next_label old.view → Did h old new (AllocMaj dst tag n) (Block l)
major_did h old new mid e dst tag n l hunt changes is runs here view told label =
    made_did h old new mid e (AllocMaj dst tag n) l hunt _ _ _ is runs here view (major_rest _ _ _ _ _ told) told.answers label

-- a search leaves the remembered fields, and so does a sweep
searched_remembers : (x y : DomainView) (hunt : Hunt) → Searched x y hunt → RemembersAll x → RemembersAll y
searched_remembers x y hunt view all = ap (λ (z : DomainView). z.seen.remembered) view ∙ (all ∙ sym (ap (λ (z : DomainView). z.own.remembered.items) view))

-- after a search the domain runs on
pub searched_runs : (h : SharedHeap) (old new : Token) (hunt : Hunt) → Runs h old → IsIn new h → Searched old.view new.view hunt → IsBusy h new
searched_runs h old new hunt runs here view = record {
  here = here;
  acts = subst (λ (z : Config × DomainView). Acts z.0 z.1) (λ i. (sym (here.1 ∙ sym runs.here.1) i, sym view i)) (let a : Acts old.config (hunting_free (with_sweep old.view new.view) new.view.own.looked hunt new.view.seen.free) = record { goes_on = runs.acts.goes_on; runs = runs.acts.runs; paid = runs.acts.paid; unqueued = runs.acts.unqueued } in a);
  idle = ap (λ (x : DomainView). x.seen.made) view ∙ runs.idle;
  remembers = searched_remembers old.view new.view hunt view runs.remembers;
}

pub searched_did : (h : SharedHeap) (old mid new : Token) (hunt : Hunt) (c : CommandType) (r : Reply) → Runs h old → IsIn mid h → Searched old.view mid.view hunt → Did h mid new c r → Did h old new c r
searched_did h old mid new hunt c r runs here view did =
    let config : mid.config ≡ old.config = here.1 ∙ sym runs.here.1 in record {
      runs = did.runs;
      answers = subst (λ (z : Config × DomainView). Answers (sizes_in z.0) z.1.own.number z.1.seen.front new.view.seen.front (Command z.1.own.number c false) (Replied r)) (λ i. (config i, view i)) did.answers;
      heap = (did.heap.0 ∙ (here.0 ∙ sym runs.here.0), did.heap.1 ∙ config);
      stays = record {
        arrivals = did.stays.arrivals ∙ ap (λ (x : DomainView). x.own.arrivals) view;
        stage = did.stays.stage ∙ ap (λ (x : DomainView). x.seen.stage) view;
        notes = did.stays.notes ∙ ap (λ (x : DomainView). x.seen.notes) view;
        copying = did.stays.copying ∙ ap (λ (x : DomainView). x.seen.copying) view;
        queue = did.stays.queue ∙ ap (λ (x : DomainView). x.own.finalisers.queue) view;
        weak = did.stays.weak ∙ ap (λ (x : DomainView). x.seen.share.weak) view;
        progress = did.stays.progress ∙ ap (λ (x : DomainView). x.seen.share.progress) view;
        remembers = λ all. did.stays.remembers (searched_remembers old.view mid.view hunt view all);
      };
    }

pub searched_grows : (h : SharedHeap) (old mid new : Token) (hunt : Hunt) → IsIn old h → SoughtBelow h.config old.view mid.view hunt → Grows mid new → GrowsBy old new
searched_grows h old mid new hunt here sought g = record {
  own = g.own ∙ (λ i. record (view i).own { registers = new.view.own.registers; serial = (view i).own.serial + 1; looked = looks i; ephemerons = listed i; swept = next i });
  sweep = subst (λ (k : Config). MaySweep k old.view new.view) (sym here.1) (may_still h.config old.view mid.view new.view listed next (below_sweep h.config old.view mid.view hunt sought));
  at_rest = g.at_rest;
} where
  view : Searched old.view mid.view hunt
  view = below_view h.config old.view mid.view hunt sought

  looks : mid.view.own.looked ≡ new.view.own.looked
  looks = sym (ap (λ (o : Own). o.looked) g.own)

  listed : mid.view.own.ephemerons ≡ new.view.own.ephemerons
  listed = sym (ap (λ (o : Own). o.ephemerons) g.own)

  next : mid.view.own.swept ≡ new.view.own.swept
  next = sym (ap (λ (o : Own). o.swept) g.own)

-- the place taken has room
pub taken_room : (k : Config) (class a n : ℕ) (x y : DomainView) → class < class_count → IsLeastFor SIZES n class → Taken k class a x y → IsRoom k y a n
taken_room k class a n x y few least t = record {
  pool = t.pool;
  class = class;
  slot = t.slot;
  hunt = ap (λ (z : DomainView). z.seen.hunt) (below_view k x y (Fills t.pool class t.slot []) t.view);
  inside = t.inside;
  of_class = few;
  below = t.below;
  address = t.address;
  room = subst (λ (m : ℕ). n ≤ m) (size_is class) least.fits;
}

-- the register holds its address
pub taken_puts : (k : Config) (class a n dst : ℕ) (old mid new : Token) → IsLeastFor SIZES n class → Taken k class a old.view mid.view → new.view.own.registers ≡ slice_set mid.view.own.registers dst (Ref a) → PutsPlace k dst n old new
taken_puts k class a n dst old mid new least t registers = record {
  pool = t.pool;
  class = class;
  slot = t.slot;
  inside = t.inside;
  least = least;
  below = t.below;
  registers = registers ∙ (λ i. slice_set (ap (λ (z : DomainView). z.own.registers) (below_view k old.view mid.view (Fills t.pool class t.slot []) t.view) i) dst (Ref (t.address i)));
}

-- what was found of free pools is still known
pub has_still : (k : Config) (class : ℕ) (x y z : DomainView) → HasPlace k class x y → z.seen.free ≡ y.seen.free → z.own.swept ≡ y.own.swept → HasPlace k class x z
has_still k class x y z has same next = ⊎_elim
    (λ (o : FoundOwn k class x y). inl (record { left = o.left; unseen = same ∙ o.unseen }))
    (λ (u : (KnowsNone class x × Unreserved k x y) ⊎ FoundSwept k class x y). inr (⊎_elim
    (λ (u : KnowsNone class x × Unreserved k x y). inl (u.0, record { free = u.1.free; found = (u.1.found.0, same ∙ u.1.found.1); more = u.1.more }))
    (λ (f : FoundSwept k class x y). inr (record { known = f.known; left = f.left; done = subst (λ (s : Swept). k.pools ≤ s.spot.pool) (sym next) f.done; free = f.free; reserved = record { found = (f.reserved.found.0, same ∙ f.reserved.found.1); few = f.reserved.few } }))
    u))
    has

-- the least class is one
pub least_one : (words c d : ℕ) → IsLeastFor SIZES words c → IsLeastFor SIZES words d → c ≡ d
least_one words c d a b = dite (dec_le c d)
    (λ le. dite (ℕ_discrete c d)
    (λ same. same)
    (λ other. absurd (let h = b.least c (let n : c ≢ d = other in let l : c ≤ d = le in omega arith) in let f = a.fits in omega arith)))
    (λ gt. absurd (let h = a.least d (lt_of_not-le gt) in let f = b.fits in omega arith))
