-- The store of a block's head makes the call of its allocation.
use Rattle.std.proofs.Common.{◌≡◌, ◌∙◌, ℕ, ◌+◌, ◌^◌, ◌<◌, ◌≤◌, ⊎_elim, Bool, true, false, nat_le, if◌then◌else◌, List, [], ◌∷◌, None, replicate, refl, sym, ap, subst, arith}
use Rattle.std.proofs.lemmas.Bool.{le-leb, lt-leb}
use Rattle.model_core.specs.declared.label.Label.{Label}
use Rattle.model_core.specs.declared.command.Command.{Command}
use Rattle.model_core.specs.declared.command.Command.TheVariants.{Alloc, Raw as NewRaw}
use Rattle.model_core.specs.declared.entry.Entry.{Entry}
use Rattle.model_core.specs.declared.entry.Entry.TheVariants.{Command as CommandOf}
use Rattle.model_core.specs.declared.reply.Reply.TheVariants.{Block}
use Rattle.model_core.specs.declared.reply.Applied.TheVariants.{Replied}
use Rattle.model_core.specs.Fronts.{Answers, Shape, PlainShape, RawShape}
use Rattle.heap_rule.specs.declared.change.Change.{Change}
use Rattle.heap_rule.specs.declared.view.DomainView.{DomainView}
use Rattle.heap_rule.specs.declared.view.Own.{Own}
use Rattle.step_run.specs.Young.Inits.{IsOpen, AllocMay, AllocEntry, AllocTold, fields_of}
use Rattle.heap_rule.specs.declared.config.Config.{Config}
use Rattle.heap_rule.specs.Limits.{sizes_in}
use Rattle.heap_rule.specs.Standing.{Acts, IsInHeap}
use Rattle.heap_rule.specs.Running.{Runs, Did, own_entry}
use Rattle.heap_rule.specs.Token.{Token, SharedHeap, IsIn, next_address, next_label}
use Rattle.heap_rule.specs.declared.change.Change.TheVariants.{Set}
use Rattle.heap_rule.specs.declared.change.Part.TheVariants.{Register}
use Rattle.heap_rule.specs.Layout.{base_of, heap_words}
use Rattle.heap_rule.specs.Places.{HeadIs, IsNewHead, IsPackableShape, class_words, tagged}
use Rattle.heap_rule.proofs.HeadLemmas.{tagged_head}
use Rattle.heap_words.specs.declared.head.Head.TheVariants.{Plain as PlainHead}
use Rattle.heap_words.specs.Heads.{head_word}
use Rattle.heap_words.specs.declared.value.Value.TheVariants.{Ref}
use Rattle.heap_words.specs.Labels.{label_word}
use Rattle.heap_rule.proofs.Sizes.{area_inside}
use Rattle.step_run.proofs.OfYoung.MakeSteps.{class_fits}
use Rattle.heap_rule.proofs.Calls.{answered_did}
use Rattle.step_run.proofs.OfYoung.Plain.{alloc_rest}
use Rattle.do_alloc.specs.Young.Area.{IsBlockTag, young_command, IsNewColour, Grows}

-- the address of the head lies in the heap
pub head_inside : (k : Config) (d used n at : ℕ) → d < k.domains → n ≤ 1022 → 1 ≤ n → used + class_words (n + 2) ≤ k.minor_words → at ≡ base_of k d + used → IsInHeap k at
head_inside k d used n at inside few some room is =
    let minor : ℕ = k.minor_words in
    let base : ℕ = base_of k d in
    let words : ℕ = class_words (n + 2) in
    let fits : n + 2 ≤ words = class_fits (n + 2) (omega arith) in
    let low : 1 ≤ base = omega arith in
    let high : base + minor ≤ heap_words k + 1 = area_inside k d inside in
    let r : used + words ≤ minor = room in
    let e : at ≡ base + used = is in (omega arith, omega arith)

-- the command and the shape of a block, by its tag
pub plain_command : (dst tag n : ℕ) → tag ≤ 245 → young_command dst tag n ≡ Alloc dst tag n
plain_command dst tag n low = ap (λ (b : Bool). if b then NewRaw dst tag n else Alloc dst tag n) (lt-leb 251 tag (omega arith))

pub raw_command : (dst tag n : ℕ) → 251 ≤ tag → young_command dst tag n ≡ NewRaw dst tag n
raw_command dst tag n high = ap (λ (b : Bool). if b then NewRaw dst tag n else Alloc dst tag n) (le-leb 251 tag high)

plain_shape : (n tag : ℕ) → tag ≤ 245 → tagged n tag ≡ PlainShape n tag
plain_shape n tag low = ap (λ (b : Bool). if b then RawShape n tag else PlainShape n tag) (lt-leb 251 tag (omega arith))

raw_shape : (n tag : ℕ) → 251 ≤ tag → tagged n tag ≡ RawShape n tag
raw_shape n tag high = ap (λ (b : Bool). if b then RawShape n tag else PlainShape n tag) (le-leb 251 tag high)

pub young_fields : (d dst tag n : ℕ) → fields_of (CommandOf d (young_command dst tag n) false) ≡ n
young_fields d dst tag n = pick (nat_le 251 tag) where
  pick : (b : Bool) → fields_of (CommandOf d (if b then NewRaw dst tag n else Alloc dst tag n) false) ≡ n
  pick true = refl
  pick false = refl

-- the head of a new block of a minor area, with the colour of one
pub coloured_head : (x : DomainView) (n tag word colour : ℕ) → IsNewColour x colour → word ≡ head_word (PlainHead n tag colour false) → IsNewHead x.seen.share.colours x.seen.share.armed false (tagged n tag) word
coloured_head x n tag word colour c packs = record {
  colours = c.colours;
  known_is = c.known_is;
  beside = c.beside;
  armed_is = c.armed_is;
  fits = subst (λ (m : ℕ). m < 3) c.colour_is c.fits;
  packs = subst (λ (m : ℕ). HeadIs None (tagged n tag) m false word) c.colour_is (packs ∙ ap head_word (sym (tagged_head n tag colour false)));
}

-- once the other words of a block are written, its head may be stored
head_as : (h : SharedHeap) (old : Token) (mid : DomainView) (e : Entry) (at new dst place n : ℕ) (c : Command) (shape : Shape) → ((x : DomainView) (changes : List Change) → AllocMay h.config x at new changes old.view.own.number dst n shape → AllocEntry h.config x at new changes (own_entry old c))
    → e ≡ own_entry old c → Runs h old
    → mid ≡ record old.view { seen = record old.view.seen { made = label_word old.view.own.number (old.view.own.serial + 1) ∷ replicate n 1 } } → at ≡ next_address h.config old.view → place ≡ dst → dst < 16 → IsPackableShape shape → n ≤ 1022
    → old.view.own.serial + 1 < 2 ^ 32 → old.view.own.used + class_words (n + 2) ≤ h.config.minor_words → IsOpen h.config old.view → IsNewHead old.view.seen.share.colours old.view.seen.share.armed false shape new
    → AllocEntry h.config mid at new (Set Register place (record { value = Ref at; number = 0; more = 0 }) ∷ []) e
head_as h old mid e at new dst place n c shape enters entry runs view is same few packable fits serial room open_is head =
    subst (λ (z : DomainView × ℕ × Entry). AllocEntry h.config z.0 at new (Set Register z.1 (record { value = Ref at; number = 0; more = 0 }) ∷ []) z.2) (λ i. (sym view i, sym same i, sym entry i)) (enters _ _ (record {
      own = refl;
      acts = let a : Acts h.config old.view = subst (λ (k : Config). Acts k old.view) runs.here.1 runs.acts in record { goes_on = a.goes_on; runs = a.runs; paid = a.paid; unqueued = a.unqueued };
      word = is;
      packable = packable;
      few_fields = fits;
      head = head;
      made = refl;
      room = room;
      opened = record { free = open_is.free; found = open_is.found; enough = open_is.enough };
      serial = serial;
      goes = few;
      written = refl;
      fits = (few, tt);
    }))

pub head_may : (h : SharedHeap) (old : Token) (mid : DomainView) (e : Entry) (at new dst place tag n : ℕ) → e ≡ own_entry old (young_command dst tag n) → Runs h old
    → mid ≡ record old.view { seen = record old.view.seen { made = label_word old.view.own.number (old.view.own.serial + 1) ∷ replicate n 1 } } → at ≡ next_address h.config old.view → place ≡ dst → dst < 16 → IsBlockTag tag → 1 ≤ n → n ≤ 1022
    → old.view.own.serial + 1 < 2 ^ 32 → old.view.own.used + class_words (n + 2) ≤ h.config.minor_words → IsOpen h.config old.view → IsNewHead old.view.seen.share.colours old.view.seen.share.armed false (tagged n tag) new
    → AllocEntry h.config mid at new (Set Register place (record { value = Ref at; number = 0; more = 0 }) ∷ []) e
head_may h old mid e at new dst place tag n entry runs view is same few kind some fits serial room open_is head = ⊎_elim
    (λ (low : tag ≤ 245). head_as h old mid e at new dst place n (Alloc dst tag n) (PlainShape n tag) (λ x changes m. m) (entry ∙ ap (own_entry old) (plain_command dst tag n low)) runs view is same few (some, fits, (omega arith)) fits serial room open_is
    (subst (λ (z : Shape). IsNewHead old.view.seen.share.colours old.view.seen.share.armed false z new) (plain_shape n tag low) head))
    (λ (t : (251 ≤ tag) × (tag < 256)). head_as h old mid e at new dst place n (NewRaw dst tag n) (RawShape n tag) (λ x changes m. m) (entry ∙ ap (own_entry old) (raw_command dst tag n t.0)) runs view is same few (some, fits, t.0, t.1) fits serial room open_is
    (subst (λ (z : Shape). IsNewHead old.view.seen.share.colours old.view.seen.share.armed false z new) (raw_shape n tag t.0) head))
    kind

-- besides its registers the token has used the words of the block's class, and given out its label
pub alloc_grows : (k : Config) (old new : Token) (mid : DomainView) (e : Entry) (fields : ℕ) (made : List ℕ) (changes : List Change) → fields_of e ≡ fields → mid ≡ record old.view { seen = record old.view.seen { made = made } }
    → AllocTold k e changes mid new.view → Grows old new (class_words (fields + 2))
alloc_grows k old new mid e fields made changes count view told =
    let rest = ap (λ (x : DomainView). x.own) (alloc_rest _ _ _ _ _ told) in
    let own : mid.own ≡ old.view.own = ap (λ (x : DomainView). x.own) view in
    let registers = ap (λ (o : Own). o.registers) rest in record {
      own = rest ∙ (λ i. record (own i) { registers = sym registers i; used = (own i).used + class_words (count i + 2); serial = (own i).serial + 1 });
    }

pub alloc_did : (h : SharedHeap) (old new : Token) (mid : DomainView) (e : Entry) (c : Command) (l : Label) (made : List ℕ) (changes : List Change) → e ≡ own_entry old c → Runs h old → IsIn new h
    → mid ≡ record old.view { seen = record old.view.seen { made = made } } → AllocTold h.config e changes mid new.view → l ≡ next_label old.view → Did h old new c (Block l)
alloc_did h old new mid e c l made changes is runs here view told label =
    let answers = subst (λ (x : DomainView). Answers (sizes_in h.config) x.own.number x.seen.front new.view.seen.front e (Replied (Block (next_label x)))) view told.answers in
    let number : new.view.own.number ≡ old.view.own.number = ap (λ (x : DomainView). x.own.number) (alloc_rest _ _ _ _ _ told) ∙ ap (λ (x : DomainView). x.own.number) view in
    answered_did h old new c (Block l) runs here number (ap (λ (x : DomainView). x.seen.hunt) (alloc_rest _ _ _ _ _ told) ∙ (ap (λ (x : DomainView). x.seen.hunt) view ∙ runs.at_rest)) (ap (λ (x : DomainView). x.seen.made) (alloc_rest _ _ _ _ _ told))
    (record {
      arrivals = ap (λ (x : DomainView). x.own.arrivals) (alloc_rest _ _ _ _ _ told) ∙ ap (λ (x : DomainView). x.own.arrivals) view;
      stage = ap (λ (x : DomainView). x.seen.stage) (alloc_rest _ _ _ _ _ told) ∙ ap (λ (x : DomainView). x.seen.stage) view;
      notes = ap (λ (x : DomainView). x.seen.notes) (alloc_rest _ _ _ _ _ told) ∙ ap (λ (x : DomainView). x.seen.notes) view;
      copying = ap (λ (x : DomainView). x.seen.copying) (alloc_rest _ _ _ _ _ told) ∙ ap (λ (x : DomainView). x.seen.copying) view;
      queue = ap (λ (x : DomainView). x.own.finalisers.queue) (alloc_rest _ _ _ _ _ told) ∙ ap (λ (x : DomainView). x.own.finalisers.queue) view;
      weak = ap (λ (x : DomainView). x.seen.share.weak) (alloc_rest _ _ _ _ _ told) ∙ ap (λ (x : DomainView). x.seen.share.weak) view;
      progress = ap (λ (x : DomainView). x.seen.share.progress) (alloc_rest _ _ _ _ _ told) ∙ ap (λ (x : DomainView). x.seen.share.progress) view;
      remembers = λ all. ap (λ (x : DomainView). x.seen.remembered) (alloc_rest _ _ _ _ _ told) ∙ (ap (λ (x : DomainView). x.seen.remembered) view ∙ (all
          ∙ (ap (λ (x : DomainView). x.own.remembered.items) (sym view) ∙ ap (λ (x : DomainView). x.own.remembered.items) (sym (alloc_rest _ _ _ _ _ told)))));
    })
    (subst (λ (x : Entry). Answers (sizes_in h.config) old.view.own.number old.view.seen.front new.view.seen.front x (Replied (Block l))) is
    (subst (λ (m : Label). Answers (sizes_in h.config) old.view.own.number old.view.seen.front new.view.seen.front e (Replied (Block m))) (sym label) answers))
