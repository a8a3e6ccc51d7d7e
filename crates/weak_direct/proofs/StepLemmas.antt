-- What a command leaves that writes no register but 8 to 11, and one that is put off.
use Rattle.std.specs.Option.{IfSome}
use Rattle.std.proofs.lemmas.Bool.{lt-leb}
use Rattle.std.proofs.Common.{◌≡◌, ◌≢◌, ℕ, ◌+◌, ◌≤◌, ◌&&◌, nat_le, Bool, true, false, cond, List, [], ◌∷◌, ◌++◌, get_or, set, slice_get, ⊎_elim, Option, Some, None, refl, ap, sym, ◌∙◌, subst, arith, get_or-set_other}
use Rattle.model_core.specs.declared.label.Label.{Label}
use Rattle.model_core.specs.declared.command.Command.{Command}
use Rattle.model_core.specs.declared.command.Command.TheVariants.{PutInt, Copy, Forget, Load, Store, Cas, SetKey, GetKey, SetData, GetData}
use Rattle.model_core.specs.declared.entry.Entry.{Entry}
use Rattle.model_core.specs.declared.entry.Entry.TheVariants.{Command as CommandOf}
use Rattle.model_core.specs.declared.graph.Value.{Value}
use Rattle.model_core.specs.declared.graph.Value.TheVariants.{Int, Block, Nothing}
use Rattle.model_core.specs.declared.graph.Node.{Node}
use Rattle.model_core.specs.declared.graph.Node.TheVariants.{Plain, Raw, Ephe}
use Rattle.model_core.specs.declared.reply.Reply.{Reply}
use Rattle.model_core.specs.declared.state.DomainState.{DomainState}
use Rattle.model_core.specs.declared.state.Sizes.{Sizes}
use Rattle.model_core.specs.declared.state.State.{State}
use Rattle.model_core.specs.Commands.{at_ephe, at_field, Outcome, block_in, datum_set, done_with, datum_stored, exchanged, in_bounds, is_allocation, key_set, key_stored, key_value, loaded, outcome, read_into, same_value, stored, written_over, written_where}
use Rattle.model_core.specs.Counts.Counts.{blocks_of, ephemerons_of, labels_of}
use Rattle.model_core.specs.Domains.{domain_at, label_in, opening, register, with_block, with_register}
use Rattle.model_core.specs.Entries.{next}
use Rattle.model_core.specs.Fronts.{IsFrontOf}
use Rattle.model_core.specs.History.{IsPrefix}
use Rattle.model_core.specs.Laws.{written_by}
use Rattle.model_core.proofs.Commands.FrameLemmas.{part_set}
use Rattle.model_core.proofs.Histories.FrontLemmas.{keeps_front}
use Rattle.model_core.proofs.OfCounts.Few.{ephemerons_few}
use Rattle.weak_laws.specs.Tables.Thinning.{state_of}
use Rattle.weak_laws.specs.Tables.Performing.{full_of, is_spared, writes}
use Rattle.weak_laws.specs.Maps.Calls.{PerformedBy}
use Rattle.weak_maps.specs.Beside.{held_by, refusals_by, writings_by}
use Rattle.weak_maps.specs.Fields.{IsBeside}
use Rattle.weak_maps.specs.Walks.{OwnQuiet}
use Rattle.weak_maps.proofs.BesideLemmas.{left_is}
use Rattle.weak_maps.proofs.CountLemmas.{gives_one, not_refused, refusals_append, refusals_none, refuses_one, writes_one, writings_append, writings_none}
use Rattle.weak_maps.proofs.EntryLemmas.{own_entry}
use Rattle.weak_maps.proofs.StayLemmas.{no_entry, prefix_same}
use Rattle.weak_laws.proofs.OfTables.StageLemmas.{prefix_trans}
use Rattle.weak_maps.proofs.GetLemmas.{grows_by}
use Rattle.weak_maps.proofs.GuardLemmas.{quiet_at, quiet_by, quiet_twice}
use Rattle.weak_direct.specs.Tries.{IsBetween, IsLast, IsHand, Passes, TriedBy, ephemerons_by, labels_by}

-- a register that is beside is none of those between
pub beside_other : (i r : ℕ) → IsBeside i → IsHand r → i ≢ r
beside_other i r beside hand same =
    let low = hand.0 in
    let high = hand.1 in
    let eight : i ≢ 8 = beside.0 in
    let nine : i ≢ 9 = beside.1 in
    let ten : i ≢ 10 = beside.2 in
    let eleven : i ≢ 11 = beside.3 in
    grind (arith, low, high, same, eight, nine, ten, eleven)

pub held_other : (s : State) (d r : ℕ) (v : Value) (i : ℕ) → i ≢ r → register (with_register s d r v) d i ≡ register s d i
held_other s d r v i other = part_set (λ (x : DomainState). get_or x.registers i Nothing) s.domains d _ (get_or-set_other (domain_at s d).registers r i v Nothing other) d

-- such a command writes no other register
module _ (s : State) (d i : ℕ) (beside : IsBeside i) where
  abbrev Same : State → Type 0
  Same t = register t d i ≡ register s d i

  into : (dst : ℕ) (v : Value) → IsHand dst → Same (with_register s d dst v)
  into dst v hand = held_other s d dst v i (beside_other i dst beside hand)

  reads : (dst : ℕ) → IsHand dst → (o : Option Value) → Same (in_bounds s o (read_into s d dst)).state
  reads dst hand None = refl
  reads dst hand (Some v) = into dst v hand

  loads : (dst index : ℕ) → IsHand dst → (b : Option (Label × Node)) → Same (loaded s d dst index b).state
  loads dst index hand None = refl
  loads dst index hand (Some (l, Plain tag fields)) = reads dst hand (slice_get fields index)
  loads dst index hand (Some (l, Raw tag fields)) = reads dst hand (slice_get fields index)
  loads dst index hand (Some (l, Ephe keys datum)) = refl

  over : (l : Label) (n : Node) (o : Option Value) → Same (in_bounds s o (written_over s l n)).state
  over l n None = refl
  over l n (Some v) = refl

  stores : (index : ℕ) (b : Option (Label × Node)) (v : Value) → Same (stored s index b v).state
  stores index None v = refl
  stores index (Some (l, Ephe keys datum)) v = refl
  stores index (Some (l, Plain tag fields)) Nothing = refl
  stores index (Some (l, Plain tag fields)) (Int a) = over l _ (slice_get fields index)
  stores index (Some (l, Plain tag fields)) (Block k) = over l _ (slice_get fields index)
  stores index (Some (l, Raw tag fields)) Nothing = refl
  stores index (Some (l, Raw tag fields)) (Int a) = over l _ (slice_get fields index)
  stores index (Some (l, Raw tag fields)) (Block k) = refl

  where_same : (l : Label) (n : Node) (b : Bool) → Same (written_where s l n b).state
  where_same l n true = refl
  where_same l n false = refl

  swaps : (l : Label) (n : Node) (expected : Value) (o : Option Value) → Same (in_bounds s o (λ held. written_where s l n (same_value held expected))).state
  swaps l n expected None = refl
  swaps l n expected (Some held) = where_same l n (same_value held expected)

  exchanges_at : (index : ℕ) (b : Option (Label × Node)) (expected v : Value) → Same (at_field s index b v (λ l new held. written_where s l new (same_value held expected))).state
  exchanges_at index None expected v = refl
  exchanges_at index (Some (l, Ephe keys datum)) expected v = refl
  exchanges_at index (Some (l, Plain tag fields)) expected Nothing = refl
  exchanges_at index (Some (l, Plain tag fields)) expected (Int a) = swaps l _ expected (slice_get fields index)
  exchanges_at index (Some (l, Plain tag fields)) expected (Block k) = swaps l _ expected (slice_get fields index)
  exchanges_at index (Some (l, Raw tag fields)) expected Nothing = refl
  exchanges_at index (Some (l, Raw tag fields)) expected (Int a) = swaps l _ expected (slice_get fields index)
  exchanges_at index (Some (l, Raw tag fields)) expected (Block k) = refl

  exchanges : (index : ℕ) (b : Option (Label × Node)) (expected v : Value) → Same (exchanged s index b expected v).state
  exchanges index b Nothing v = refl
  exchanges index b (Int a) v = exchanges_at index b (Int a) v
  exchanges index b (Block k) v = exchanges_at index b (Block k) v

  keys_set : (index : ℕ) (key : Option Label) (l : Label) (keys : List (Option Label)) (datum : Value) → Same (key_set s index key l keys datum).state
  keys_set index key l keys datum = go (slice_get keys index)
    where
      go : (o : Option (Option Label)) → Same (in_bounds s o (λ _. done_with (with_block s l (Ephe (set keys index key) datum)))).state
      go None = refl
      go (Some k) = refl

  at_leaf : (b : Option (Label × Node)) (f : Label → List (Option Label) → Value → Outcome) → ((l : Label) (keys : List (Option Label)) (datum : Value) → Same (f l keys datum).state) → Same (at_ephe s b f).state
  at_leaf None f each = refl
  at_leaf (Some (l, Plain tag fields)) f each = refl
  at_leaf (Some (l, Raw tag fields)) f each = refl
  at_leaf (Some (l, Ephe keys datum)) f each = each l keys datum

  sets_key : (index : ℕ) (o : Option Label) (b : Option (Label × Node)) → Same (key_stored s index o b).state
  sets_key index None b = refl
  sets_key index (Some k) b = at_leaf b (key_set s index (Some k)) (λ l keys datum. keys_set index (Some k) l keys datum)

  sets_datum : (b : Option (Label × Node)) (v : Value) → Same (datum_stored s b v).state
  sets_datum b Nothing = refl
  sets_datum b (Int a) = at_leaf b (datum_set s (Int a)) (λ l keys datum. refl)
  sets_datum b (Block k) = at_leaf b (datum_set s (Block k)) (λ l keys datum. refl)

  gets_key : (dst : ℕ) → IsHand dst → (o : Option (Option Label)) → Same (in_bounds s o (λ k. read_into s d dst (key_value k))).state
  gets_key dst hand None = refl
  gets_key dst hand (Some k) = into dst (key_value k) hand

  same_outcome : (c : Command) → IsBetween c → Same (outcome s d c).state
  same_outcome (PutInt dst value) hand = into dst (Int value) hand
  same_outcome (Copy dst src) hand = into dst (register s d src) hand
  same_outcome (Forget dst) hand = into dst Nothing hand
  same_outcome (Load dst src index) hand = loads dst index hand (block_in s d src)
  same_outcome (Store block index item) hand = stores index (block_in s d block) (register s d item)
  same_outcome (Cas block index expected item) hand = exchanges index (block_in s d block) (register s d expected) (register s d item)
  same_outcome (SetKey ephe index item) hand = sets_key index (label_in s d item) (block_in s d ephe)
  same_outcome (GetKey dst ephe index) hand = at_leaf (block_in s d ephe) _ (λ l keys datum. gets_key dst hand (slice_get keys index))
  same_outcome (SetData ephe item) hand = sets_datum (block_in s d ephe) (register s d item)
  same_outcome (GetData dst ephe) hand = at_leaf (block_in s d ephe) _ (λ l keys datum. into dst datum hand)
  same_outcome _ hand = absurd hand

-- it makes no block and no ephemeron
none_made : (c : Command) → IsBetween c → (is_allocation c ≡ false) × (ephemerons_of c ≡ 0)
none_made (PutInt dst value) hand = (refl, refl)
none_made (Copy dst src) hand = (refl, refl)
none_made (Forget dst) hand = (refl, refl)
none_made (Load dst src index) hand = (refl, refl)
none_made (Store block index item) hand = (refl, refl)
none_made (Cas block index expected item) hand = (refl, refl)
none_made (SetKey ephe index item) hand = (refl, refl)
none_made (GetKey dst ephe index) hand = (refl, refl)
none_made (SetData ephe item) hand = (refl, refl)
none_made (GetData dst ephe) hand = (refl, refl)
none_made _ hand = absurd hand

pub makes_none : (c : Command) → IsBetween c → is_allocation c ≡ false
makes_none c hand = (none_made c hand).0

pub room_none : (c : Command) → IsBetween c → ephemerons_of c ≡ 0
room_none c hand = (none_made c hand).1

-- and writes none of the registers that are counted
unspared : (r : ℕ) → IsHand r → is_spared r ≡ 0
unspared r hand = go (nat_le 1 r)
  where
    above : nat_le r 7 ≡ false
    above = lt-leb r 7 (let low = hand.0 in omega (arith, low))

    go : (a : Bool) → ◌≡◌ {A = ℕ} (cond (a && nat_le r 7) 1 0) 0
    go true = ap (λ (b : Bool). cond {A = ℕ} b 1 0) above
    go false = refl

pub writes_none : (c : Command) → IsBetween c → writes c ≡ 0
writes_none (PutInt dst value) hand = unspared dst hand
writes_none (Copy dst src) hand = unspared dst hand
writes_none (Forget dst) hand = unspared dst hand
writes_none (Load dst src index) hand = unspared dst hand
writes_none (Store block index item) hand = refl
writes_none (Cas block index expected item) hand = refl
writes_none (SetKey ephe index item) hand = refl
writes_none (GetKey dst ephe index) hand = unspared dst hand
writes_none (SetData ephe item) hand = refl
writes_none (GetData dst ephe) hand = unspared dst hand
writes_none _ hand = absurd hand

-- nor does it give out a label or make an ephemeron
pub labels_none : (c : Command) → IsBetween c → (o : Option Reply) → labels_by c o ≡ 0
labels_none c hand None = refl
labels_none c hand (Some r) = ap (λ (b : Bool). cond b (blocks_of r) 0) (makes_none c hand)

pub ephemerons_none : (c : Command) → IsBetween c → (o : Option Reply) → ephemerons_by c o ≡ 0
ephemerons_none c hand None = refl
ephemerons_none c hand (Some r) = let few = ephemerons_few c r in let none = room_none c hand in omega (arith, few, none)

module _ (z : Sizes) (d : ℕ) (old new : List Entry) where
  -- where a command is put off the domain's registers hold what they held
  pub off_held : IsFrontOf d new old → (i : ℕ) → held_by z d new i ≡ held_by z d old i
  off_held f i = ap (λ (rs : List Value). get_or rs i Nothing) (keeps_front (opening z) d new old f).registers

  pub off_passes : IsFrontOf d new old → Passes z d old new
  off_passes f = record {
    grows = record { rest = f.rest; appends = f.appends };
    keeps = λ i beside. off_held f i;
    given = let whole : refusals_by d new ≡ refusals_by d old + refusals_by d f.rest = ap (refusals_by d) f.appends ∙ refusals_append d old f.rest in let none = refusals_none d f.rest f.others in omega (arith, whole, none);
    written = let whole : writings_by d new ≡ writings_by d old + writings_by d f.rest = ap (writings_by d) f.appends ∙ writings_append d old f.rest in let none = writings_none d f.rest f.others in omega (arith, whole, none);
  }

  -- and it has made no entry
  pub off_quiet : IsFrontOf d new old → OwnQuiet z d old new
  off_quiet f front e since until mine = ⊎_elim
      (λ early. absurd (no_entry old front e since early))
      (λ is. absurd (no_entry new front e (subst (IsPrefix new) (sym (is.0 ∙ sym f.appends)) (prefix_same new)) until))
      (own_entry d old f.rest e front e f.others (prefix_trans (front ++ e ∷ []) new ((old ++ f.rest) ++ e ∷ []) until (record { rest = e ∷ []; appends = ap (λ (h : List Entry). h ++ e ∷ []) (sym f.appends) })) mine)

  module _ (c : Command) (r : Reply) (p : PerformedBy z d old new c r) where
    -- a command that was made, of which each state that it may be made in leaves a register
    made_held : is_allocation c ≡ false → (i : ℕ) → ((s : State) → register (outcome s d c).state d i ≡ register s d i) → held_by z d new i ≡ held_by z d old i
    made_held none i same =
        let s : State = state_of z (old ++ p.between) in
        let here : state_of z new ≡ next s (CommandOf d c false) = left_is z d old new c r p ∙ ap (λ b. next s (CommandOf d c b)) (not_refused z d old new c r p none) in
        let after : held_by z d new i ≡ register (outcome s d c).state d i = ap (λ (t : State). register t d i) here ∙ part_set (λ (x : DomainState). get_or x.registers i Nothing) (outcome s d c).state.domains d _ refl d in
        after ∙ (same s ∙ ap (λ (rs : List Value). get_or rs i Nothing) (keeps_front (opening z) d (old ++ p.between) old (record { rest = p.between; appends = refl; others = p.others })).registers)

    pub made_passes : IsBetween c → Passes z d old new
    made_passes hand = record {
      grows = grows_by z d old new c r p;
      keeps = λ i beside. made_held (makes_none c hand) i (λ s. same_outcome s d i beside c hand);
      given = let one = refuses_one z d old new c r p in let gives = gives_one z d old new c r p in let none : labels_of c ≡ 0 = ap (λ (b : Bool). cond b 1 0) (makes_none c hand) in omega (arith, one, gives, none);
      written = let one = writes_one z d old new c r p in let none = writes_none c hand in omega (arith, one, none);
    }

  pub tried_passes : (c : Command) (o : Option Reply) → IsBetween c → TriedBy z d old new c o → Passes z d old new
  tried_passes c None hand f = off_passes f
  tried_passes c (Some r) hand p = made_passes c r p hand

  pub tried_quiet : (c : Command) (o : Option Reply) → is_allocation c ≡ false → TriedBy z d old new c o → ((s : State) → written_by s d c ≡ None) → OwnQuiet z d old new
  tried_quiet c None none f looks = off_quiet f
  tried_quiet c (Some r) none p looks = quiet_by z d old new c r p looks none

  pub tried_stopped : (c : Command) (o : Option Reply) → TriedBy z d old new c o → o ≡ None → OwnQuiet z d old new
  tried_stopped c None f none = off_quiet f
  tried_stopped c (Some r) p none = cc

  pub tried_grows : (c : Command) (o : Option Reply) → TriedBy z d old new c o → IsPrefix old new
  tried_grows c None f = record { rest = f.rest; appends = f.appends }
  tried_grows c (Some r) p = grows_by z d old new c r p

  pub tried_made : (c : Command) (o : Option Reply) → TriedBy z d old new c o → IfSome o (PerformedBy z d old new c)
  tried_made c None f = tt
  tried_made c (Some r) p = p

-- one stretch behind another
pub passes_twice : (z : Sizes) (d : ℕ) (a b c : List Entry) → Passes z d a b → Passes z d b c → Passes z d a c
passes_twice z d a b c x y = record {
  grows = prefix_trans a b c x.grows y.grows;
  keeps = λ i beside. y.keeps i beside ∙ x.keeps i beside;
  given = y.given ∙ x.given;
  written = y.written ∙ x.written;
}

pub passes_same : (z : Sizes) (d : ℕ) (a b : List Entry) → b ≡ a → Passes z d a b
passes_same z d a b same = subst (Passes z d a) (sym same) (record { grows = prefix_same a; keeps = λ i beside. refl; given = refl; written = refl })

-- as a domain tells it before one of its numbers was seen to be the same
pub passes_from : (z now : Sizes) (d e : ℕ) (old first new : List Entry) → now ≡ z → e ≡ d → first ≡ old → Passes now e first new → Passes z d old new
passes_from z now d e old first new sizes domain front x = subst (λ (w : Sizes × ℕ × List Entry). Passes w.0 w.1 w.2 new) (λ i. (sizes i, domain i, front i)) x

-- a command that reads into a register, or empties it, makes no block and writes none
pub last_makes : (c : Command) → IsLast c → is_allocation c ≡ false
last_makes (Forget dst) last = refl
last_makes (GetData dst ephe) last = refl
last_makes _ last = absurd last

pub last_writes : (s : State) (d : ℕ) (c : Command) → IsLast c → written_by s d c ≡ None
last_writes s d (Forget dst) last = refl
last_writes s d (GetData dst ephe) last = refl
last_writes s d _ last = absurd last

pub none_full : (z : Sizes) (d : ℕ) (old made : List Entry) (c : Command) → IsLast c → (r : Reply) → PerformedBy z d old made c r → full_of r ≡ 0
none_full z d old made c last r p = let gives = gives_one z d old made c r p in let none : labels_of c ≡ 0 = ap (λ (b : Bool). cond b 1 0) (last_makes c last) in omega (arith, gives, none)

module _ (z : Sizes) (d : ℕ) (old made new : List Entry) (c : Command) (last : IsLast c) (passes : Passes z d made new) (quiet : OwnQuiet z d made new) where
  pub last_given : (o : Option Reply) → TriedBy z d old made c o → refusals_by d new ≡ refusals_by d old
  last_given None f = passes.given ∙ (off_passes z d old made f).given
  last_given (Some r) p = passes.given ∙ (let one = refuses_one z d old made c r p in let none = none_full z d old made c last r p in omega (arith, one, none))

  pub last_written : (o : Option Reply) → TriedBy z d old made c o → writings_by d new ≤ writings_by d old + writes c
  last_written None f = let same = passes.written in let off = (off_passes z d old made f).written in omega (arith, same, off)
  last_written (Some r) p = let same = passes.written in let one = writes_one z d old made c r p in omega (arith, same, one)

  pub last_quiet : (o : Option Reply) → TriedBy z d old made c o → OwnQuiet z d old new
  last_quiet o t = quiet_twice z d old made new passes.grows (tried_quiet z d old made c o (last_makes c last) t (λ s. last_writes s d c last)) quiet

pub quiet_after : (z now : Sizes) (d e : ℕ) (a b c : List Entry) → now ≡ z → e ≡ d → IsPrefix b c → OwnQuiet z d a b → OwnQuiet now e b c → OwnQuiet z d a c
quiet_after z now d e a b c sizes domain grows x y = quiet_twice z d a b c grows x (quiet_at z now d e b c sizes domain y)

pub passes_after : (z now : Sizes) (d e : ℕ) (a b c : List Entry) → now ≡ z → e ≡ d → Passes z d a b → Passes now e b c → Passes z d a c
passes_after z now d e a b c sizes domain x y = passes_twice z d a b c x (passes_from z now d e b b c sizes domain refl y)
