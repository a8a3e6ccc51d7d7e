-- A stretch of a history in which no register from 1 to 7 is written leaves them at each of its fronts.
use Rattle.std.proofs.Common.{◌≡◌, ◌≢◌, ℕ, zero, suc, ◌+◌, ◌≤◌, Bool, true, false, List, [], ◌∷◌, get_or, slice_get, replicate, is_some, Option, Some, None, refl, ap, ◌∙◌, arith, get_or-set_other}
use Rattle.std.proofs.lemmas.Bool.Decides.{nat_tests}
use Rattle.model_core.specs.declared.label.Label.{Label}
use Rattle.model_core.specs.declared.command.Command as declared_command
use Rattle.model_core.specs.declared.command.Command.TheVariants.{PutInt, Copy, Forget, Alloc, AllocMaj, Load, Store, Raw as NewRaw, Cas, Ephe as NewEphe, SetKey, UnsetKey, GetKey, CheckKey, SetData, UnsetData, GetData, CheckData, Finalise, FinaliseLast, Poll, Minor, Major, FullMajor, Spawn, Argument, PutResult, Join}
use Rattle.model_core.specs.declared.entry.Entry.{Entry}
use Rattle.model_core.specs.declared.entry.Entry.TheVariants.{Command, End, Cut, Queue, Seal, Wipe, Last as LastOf, Collected, Done as DoneOf, Ran}
use Rattle.model_core.specs.declared.graph.Value.{Value}
use Rattle.model_core.specs.declared.graph.Value.TheVariants.{Int, Block, Nothing}
use Rattle.model_core.specs.declared.graph.Node.{Node}
use Rattle.model_core.specs.declared.graph.Node.TheVariants.{Plain, Raw, Ephe}
use Rattle.model_core.specs.declared.state.Sizes.{Sizes}
use Rattle.model_core.specs.declared.state.State.{State}
use Rattle.model_core.specs.declared.state.DomainState.{DomainState}
use Rattle.model_core.specs.Domains.{domain_at, with_domain, with_register, register, label_in, opening}
use Rattle.model_core.specs.Commands.{Outcome, in_bounds, read_into, tells, loaded, at_field, written_where, same_value, exchanged, at_ephe, key_set, key_stored, key_value, datum_stored, is_full_value, finalised, finalised_last, block_in, allocated, new_plain, new_raw, outcome}
use Rattle.model_core.specs.Entries.{next}
use Rattle.model_core.specs.History.{IsPrefix, is_entry_of, state_after}
use Rattle.model_core.proofs.Commands.FrameLemmas.{part_set, keeps_next}
use Rattle.model_core.proofs.Histories.HistoryLemmas.{state_after-append}
use Rattle.weak_laws.specs.Tables.Thinning.{state_of}
use Rattle.weak_laws.specs.Tables.Performing.{is_spared, writes, written, writings}
use Rattle.weak_laws.specs.Tables.Stages.{held_in}
use Rattle.weak_laws.proofs.OfTables.WritingLemmas.{writings-append}

-- a register that isn't spared isn't this one
other_register : (dst r : ℕ) → 1 ≤ r → r ≤ 7 → is_spared dst ≡ 0 → dst ≢ r
other_register dst r low high none same = grind (arith, nat_tests)

module _ (s : State) (r : ℕ) (low : 1 ≤ r) (high : r ≤ 7) where
  abbrev held_here : DomainState → Value
  held_here x = get_or x.registers r Nothing

  abbrev Keeps : Outcome → Type 0
  Keeps o = register o.state 0 r ≡ register s 0 r

  into : (t : State) (dst : ℕ) (v : Value) → is_spared dst ≡ 0 → register (with_register t 0 dst v) 0 r ≡ register t 0 r
  into t dst v none = part_set held_here t.domains 0 _ (get_or-set_other (domain_at t 0).registers dst r v Nothing (λ e. let same : dst ≡ r = omega arith in other_register dst r low high none same)) 0

  read_keeps : (dst : ℕ) (v : Value) → is_spared dst ≡ 0 → Keeps (read_into s 0 dst v)
  read_keeps dst v none = into s dst v none

  made_keeps : (dst : ℕ) (n : Node) → is_spared dst ≡ 0 → Keeps (allocated s 0 dst n)
  made_keeps dst n none =
      let made : State = with_domain s 0 (record (domain_at s 0) { serial = (domain_at s 0).serial + 1 }) in
      into (record made { graph = (allocated s 0 dst n).state.graph; kept = s.kept + 1 }) dst _ none ∙ part_set held_here s.domains 0 _ refl 0

  bounds_keeps : {A : Type 0} (o : Option A) (f : A → Outcome) → ((a : A) → Keeps (f a)) → Keeps (in_bounds s o f)
  bounds_keeps None f each = refl
  bounds_keeps (Some a) f each = each a

  loaded_keeps : (dst i : ℕ) (b : Option (Label × Node)) → is_spared dst ≡ 0 → Keeps (loaded s 0 dst i b)
  loaded_keeps dst i None none = refl
  loaded_keeps dst i (Some (l, Plain tag fields)) none = bounds_keeps (slice_get fields i) _ (λ v. read_keeps dst v none)
  loaded_keeps dst i (Some (l, Raw tag fields)) none = bounds_keeps (slice_get fields i) _ (λ v. read_keeps dst v none)
  loaded_keeps dst i (Some (l, Ephe keys datum)) none = refl

  field_keeps : (i : ℕ) (b : Option (Label × Node)) (v : Value) (f : Label → Node → Value → Outcome) → ((l : Label) (n : Node) (held : Value) → Keeps (f l n held)) → Keeps (at_field s i b v f)
  field_keeps i None v f each = refl
  field_keeps i (Some (l, Ephe keys datum)) v f each = refl
  field_keeps i (Some (l, Plain tag fields)) Nothing f each = refl
  field_keeps i (Some (l, Plain tag fields)) (Int z) f each = bounds_keeps (slice_get fields i) _ (λ held. each l _ held)
  field_keeps i (Some (l, Plain tag fields)) (Block k) f each = bounds_keeps (slice_get fields i) _ (λ held. each l _ held)
  field_keeps i (Some (l, Raw tag fields)) Nothing f each = refl
  field_keeps i (Some (l, Raw tag fields)) (Int z) f each = bounds_keeps (slice_get fields i) _ (λ held. each l _ held)
  field_keeps i (Some (l, Raw tag fields)) (Block k) f each = refl

  where_keeps : (l : Label) (n : Node) (b : Bool) → Keeps (written_where s l n b)
  where_keeps l n true = refl
  where_keeps l n false = refl

  exchanged_keeps : (i : ℕ) (b : Option (Label × Node)) (expected v : Value) → Keeps (exchanged s i b expected v)
  exchanged_keeps i b Nothing v = refl
  exchanged_keeps i b (Int z) v = field_keeps i b v _ (λ l n held. where_keeps l n (same_value held (Int z)))
  exchanged_keeps i b (Block k) v = field_keeps i b v _ (λ l n held. where_keeps l n (same_value held (Block k)))

  ephe_keeps : (b : Option (Label × Node)) (f : Label → List (Option Label) → Value → Outcome) → ((l : Label) (keys : List (Option Label)) (datum : Value) → Keeps (f l keys datum)) → Keeps (at_ephe s b f)
  ephe_keeps None f each = refl
  ephe_keeps (Some (l, Plain tag fields)) f each = refl
  ephe_keeps (Some (l, Raw tag fields)) f each = refl
  ephe_keeps (Some (l, Ephe keys datum)) f each = each l keys datum

  key_keeps : (i : ℕ) (key : Option Label) (b : Option (Label × Node)) → Keeps (at_ephe s b (key_set s i key))
  key_keeps i key b = ephe_keeps b _ (λ l keys datum. bounds_keeps (slice_get keys i) _ (λ _. refl))

  stored_keeps : (i : ℕ) (key : Option Label) (b : Option (Label × Node)) → Keeps (key_stored s i key b)
  stored_keeps i None b = refl
  stored_keeps i (Some k) b = key_keeps i (Some k) b

  datum_keeps : (b : Option (Label × Node)) (v : Value) → Keeps (datum_stored s b v)
  datum_keeps b Nothing = refl
  datum_keeps b (Int z) = ephe_keeps b _ (λ l keys datum. refl)
  datum_keeps b (Block k) = ephe_keeps b _ (λ l keys datum. refl)

  told_keeps : (b : Bool) → Keeps (tells s b)
  told_keeps true = refl
  told_keeps false = refl

  final_keeps : (number dst : ℕ) (o : Option Label) → Keeps (finalised s 0 number dst o)
  final_keeps number dst None = refl
  final_keeps number dst (Some l) = part_set held_here s.domains 0 _ refl 0

  last_keeps : (number : ℕ) (o : Option Label) → Keeps (finalised_last s 0 number o)
  last_keeps number None = refl
  last_keeps number (Some l) = part_set held_here s.domains 0 _ refl 0

  outcome_keeps : (c : declared_command.Command) → writes c ≡ 0 → Keeps (outcome s 0 c)
  outcome_keeps (PutInt dst value) none = into s dst _ none
  outcome_keeps (Copy dst src) none = into s dst _ none
  outcome_keeps (Forget dst) none = into s dst _ none
  outcome_keeps (Alloc dst tag fields) none = made_keeps dst (new_plain tag fields) none
  outcome_keeps (AllocMaj dst tag fields) none = made_keeps dst (new_plain tag fields) none
  outcome_keeps (Load dst src index) none = loaded_keeps dst index (block_in s 0 src) none
  outcome_keeps (Store block index item) none = field_keeps index (block_in s 0 block) (register s 0 item) _ (λ l n held. refl)
  outcome_keeps (NewRaw dst tag fields) none = made_keeps dst (new_raw tag fields) none
  outcome_keeps (Cas block index expected item) none = exchanged_keeps index (block_in s 0 block) (register s 0 expected) (register s 0 item)
  outcome_keeps (NewEphe dst keys) none = made_keeps dst (Ephe (replicate keys None) Nothing) none
  outcome_keeps (SetKey ephe index item) none = stored_keeps index (label_in s 0 item) (block_in s 0 ephe)
  outcome_keeps (UnsetKey ephe index) none = key_keeps index None (block_in s 0 ephe)
  outcome_keeps (GetKey dst ephe index) none = ephe_keeps (block_in s 0 ephe) _ (λ l keys datum. bounds_keeps (slice_get keys index) _ (λ k. read_keeps dst (key_value k) none))
  outcome_keeps (CheckKey ephe index) none = ephe_keeps (block_in s 0 ephe) _ (λ l keys datum. bounds_keeps (slice_get keys index) _ (λ k. told_keeps (is_some k)))
  outcome_keeps (SetData ephe item) none = datum_keeps (block_in s 0 ephe) (register s 0 item)
  outcome_keeps (UnsetData ephe) none = ephe_keeps (block_in s 0 ephe) _ (λ l keys datum. refl)
  outcome_keeps (GetData dst ephe) none = ephe_keeps (block_in s 0 ephe) _ (λ l keys datum. read_keeps dst datum none)
  outcome_keeps (CheckData ephe) none = ephe_keeps (block_in s 0 ephe) _ (λ l keys datum. told_keeps (is_full_value datum))
  outcome_keeps (Finalise item number dst) none = final_keeps number dst (label_in s 0 item)
  outcome_keeps (FinaliseLast item number) none = last_keeps number (label_in s 0 item)
  outcome_keeps Poll none = refl
  outcome_keeps Minor none = refl
  outcome_keeps Major none = refl
  outcome_keeps FullMajor none = refl
  outcome_keeps (Spawn section item) none = refl
  outcome_keeps (Argument dst) none = refl
  outcome_keeps (PutResult item) none = refl
  outcome_keeps (Join dst section) none = refl

  command_keeps : (c : declared_command.Command) (full : Bool) → writes c ≡ 0 → register (next s (Command 0 c full)) 0 r ≡ register s 0 r
  command_keeps c true none = part_set held_here s.domains 0 _ refl 0
  command_keeps c false none = part_set held_here (outcome s 0 c).state.domains 0 _ refl 0 ∙ outcome_keeps c none

  other_keeps : (e : Entry) → is_entry_of 0 e ≡ false → register (next s e) 0 r ≡ register s 0 r
  other_keeps e other = ap (λ (rs : List Value). get_or rs r Nothing) (keeps_next s e 0 other).registers

  own_keeps : (d : ℕ) (c : declared_command.Command) (full : Bool) → writes c ≡ 0 → register (next s (Command d c full)) 0 r ≡ register s 0 r
  own_keeps zero c full none = command_keeps c full none
  own_keeps (suc d) c full none = let other : is_entry_of 0 (Command (suc d) c full) ≡ false = grind (arith, nat_tests) in other_keeps (Command (suc d) c full) other

  pub entry_keeps : (e : Entry) → written e ≡ 0 → register (next s e) 0 r ≡ register s 0 r
  entry_keeps (Command d c full) none = own_keeps d c full none
  entry_keeps (End d) none = absurd (omega arith)
  entry_keeps Cut none = other_keeps Cut refl
  entry_keeps (Queue d places) none = other_keeps (Queue d places) refl
  entry_keeps Seal none = other_keeps Seal refl
  entry_keeps (Wipe l keys) none = other_keeps (Wipe l keys) refl
  entry_keeps (LastOf d place) none = other_keeps (LastOf d place) refl
  entry_keeps Collected none = other_keeps Collected refl
  entry_keeps DoneOf none = other_keeps DoneOf refl
  entry_keeps (Ran d) none = absurd (omega arith)

stretch_keeps : (s : State) (r : ℕ) → 1 ≤ r → r ≤ 7 → (h : List Entry) → writings h ≡ 0 → register (state_after s h) 0 r ≡ register s 0 r
stretch_keeps s r low high [] none = refl
stretch_keeps s r low high (e ∷ h) none = stretch_keeps (next s e) r low high h (omega arith) ∙ entry_keeps s r low high e (omega arith)

-- at each front of a call that writes none of them
pub register_at : (z : Sizes) (old front new : List Entry) (r : ℕ) → 1 ≤ r → r ≤ 7 → IsPrefix old front → IsPrefix front new → writings new ≤ writings old → held_in z front r ≡ held_in z old r
register_at z old front new r low high since until none =
    let early : writings front ≡ writings old + writings since.rest = ap writings since.appends ∙ writings-append old since.rest in
    let late : writings new ≡ writings front + writings until.rest = ap writings until.appends ∙ writings-append front until.rest in
    ap (λ (h : List Entry). held_in z h r) since.appends ∙ ap (λ (t : State). register t 0 r) (state_after-append (opening z) old since.rest)
    ∙ stretch_keeps (state_of z old) r low high since.rest (omega arith)
