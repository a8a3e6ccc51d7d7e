-- What a head load tells, by the shape of the block.
use Rattle.std.proofs.Common.{◌≡◌, ◌∙◌, ℕ, ◌<◌, ◌≤◌, ◌&&◌, Bool, true, false, if◌then◌else◌, [], Option, Some, None, refl, sym, ap, subst, ◌⊎◌, ⊎_elim, inl, inr}
use Rattle.model_core.specs.declared.entry.Entry.{Entry}
use Rattle.model_core.specs.declared.reply.Applied.TheVariants.{Replied}
use Rattle.model_core.specs.declared.reply.Reply.TheVariants.{BadType, BadIndex}
use Rattle.model_core.specs.Fronts.{Shape, PlainShape, RawShape, EpheShape, HoldsShape}
use Rattle.heap_words.specs.declared.value.Value.TheVariants.{Nothing}
use Rattle.heap_rule.specs.declared.config.Config.{Config}
use Rattle.heap_rule.specs.declared.view.DomainView.{DomainView}
use Rattle.heap_rule.specs.Rule.{state_of}
use Rattle.heap_words.specs.declared.value.Value.{Value}
use Rattle.heap_rule.specs.Places.{needs_no_scan}
use Rattle.step_run.specs.Fields.Loads.{HeadCase, RawCase, HeadTold, SizeTold, Measured, place_of, subject, puts_block, is_block}
use Rattle.step_run.specs.Fields.Stores.{SuitsField}
use Rattle.heap_rule.specs.Standing.{Entered}
use Rattle.do_fields.specs.Fields.Shapes.{size_of, fields_for, refuses}

-- the block is an ephemeron: the entry stands there, and answers `type`
no_fields : (k : Config) (a : ℕ) (e : Entry) (s : Shape) (x y : DomainView) → HeadCase k a e s x y → size_of s ≡ None → Entered k e (Replied BadType) Nothing [] x y
no_fields k a e (PlainShape size tag) x y told is = cc
no_fields k a e (RawShape size tag) x y told is = cc
no_fields k a e (EpheShape keys) x y told is = told

pub ephemeron_found : (k : Config) (a : ℕ) (e : Entry) (x y : DomainView) (found : ℕ) (r : Option ℕ) (t : HeadTold k a e x found y) → r ≡ size_of t.shape → r ≡ None → Entered k e (Replied BadType) Nothing [] x y
ephemeron_found k a e x y found r t size none = no_fields k a e t.shape x y t.told (sym size ∙ none)

-- the block is a raw one, and would get a block: the entry stands there too
raw_refused : (b : Bool) (k : Config) (a : ℕ) (e : Entry) (size tag : ℕ) (x y : DomainView) → RawCase b k a e size tag x y → b ≡ true → Entered k e (Replied BadType) Nothing [] x y
raw_refused true k a e size tag x y told is = told
raw_refused false k a e size tag x y told is = cc

refused_by : (k : Config) (a : ℕ) (e : Entry) (s : Shape) (x y : DomainView) → HeadCase k a e s x y → (needs_no_scan s && puts_block x e) ≡ true → Entered k e (Replied BadType) Nothing [] x y
refused_by k a e (PlainShape size tag) x y told is = cc
refused_by k a e (RawShape size tag) x y told is = raw_refused (puts_block x e) k a e size tag x y told is
refused_by k a e (EpheShape keys) x y told is = told

pub refused_found : (k : Config) (a : ℕ) (e : Entry) (x y : DomainView) (found : ℕ) (t : HeadTold k a e x found y) → (needs_no_scan t.shape && puts_block x e) ≡ true → Entered k e (Replied BadType) Nothing [] x y
refused_found k a e x y found t is = refused_by k a e t.shape x y t.told is

-- by the fields for a value: there are some exactly where the value is taken, and the block is no ephemeron
pub fields_taken : (s : Shape) (v : Value) (n : ℕ) → fields_for s v ≡ Some n → ((needs_no_scan s && is_block v) ≡ false) × (size_of s ≡ Some n)
fields_taken s v n = pick (refuses s v) where
  pick : (b : Bool) → (if b then None else size_of s) ≡ Some n → (b ≡ false) × (size_of s ≡ Some n)
  pick true e = cc
  pick false e = (refl, e)

fields_none : (s : Shape) (v : Value) → fields_for s v ≡ None → ((needs_no_scan s && is_block v) ≡ true) ⊎ (size_of s ≡ None)
fields_none s v = pick (refuses s v) where
  pick : (b : Bool) → (if b then None else size_of s) ≡ None → (b ≡ true) ⊎ (size_of s ≡ None)
  pick true e = inl refl
  pick false e = inr e

pub none_found : (k : Config) (a : ℕ) (e : Entry) (x y : DomainView) (found : ℕ) (v : Value) (r : Option ℕ) (t : HeadTold k a e x found y) → (needs_no_scan t.shape && puts_block x e) ≡ (needs_no_scan t.shape && is_block v) → r ≡ fields_for t.shape v → r ≡ None → Entered k e (Replied BadType) Nothing [] x y
none_found k a e x y found v r t same is none = ⊎_elim (λ (full : (needs_no_scan t.shape && is_block v) ≡ true). refused_found k a e x y found t (same ∙ full)) (λ (empty : size_of t.shape ≡ None). ephemeron_found k a e x y found None t (sym empty) refl) (fields_none t.shape v (sym is ∙ none))

-- else its size is known
raw_sized : (b : Bool) (k : Config) (a : ℕ) (e : Entry) (size tag : ℕ) (x y : DomainView) → RawCase b k a e size tag x y → b ≡ false → SizeTold k a e size (RawShape size tag) x y
raw_sized true k a e size tag x y told is = cc
raw_sized false k a e size tag x y told is = told

sized_by : (k : Config) (a : ℕ) (e : Entry) (s : Shape) (x y : DomainView) (n : ℕ) → HeadCase k a e s x y → (needs_no_scan s && puts_block x e) ≡ false → size_of s ≡ Some n → SizeTold k a e n s x y
sized_by k a e (PlainShape size tag) x y n told takes is = let same : size ≡ n = cc in subst (λ (m : ℕ). SizeTold k a e m (PlainShape size tag) x y) same told
sized_by k a e (RawShape size tag) x y n told takes is = let same : size ≡ n = cc in subst (λ (m : ℕ). SizeTold k a e m (RawShape size tag) x y) same (raw_sized (puts_block x e) k a e size tag x y told takes)
sized_by k a e (EpheShape keys) x y n told takes is = cc

pub sized_found : (k : Config) (a : ℕ) (e : Entry) (x y : DomainView) (found : ℕ) (r : Option ℕ) (n : ℕ) (t : HeadTold k a e x found y) → (needs_no_scan t.shape && puts_block x e) ≡ false → r ≡ size_of t.shape → r ≡ Some n → SizeTold k a e n t.shape x y
sized_found k a e x y found r n t takes size some = sized_by k a e t.shape x y n t.told takes (sym size ∙ some)

pub past_found : (k : Config) (a : ℕ) (e : Entry) (x y : DomainView) (found : ℕ) (r : Option ℕ) (n : ℕ) (t : HeadTold k a e x found y) → (needs_no_scan t.shape && puts_block x e) ≡ false → r ≡ size_of t.shape → r ≡ Some n → n ≤ place_of e
    → Entered k e (Replied BadIndex) Nothing [] x y
past_found k a e x y found r n t takes size some past = (sized_found k a e x y found r n t takes size some).past past

-- the same of the entry that the call is told
pub measured_at : (k : Config) (a : ℕ) (e own : Entry) (x y : DomainView) (found : ℕ) (r : Option ℕ) (n : ℕ) → e ≡ own → (t : HeadTold k a e x found y) → (needs_no_scan t.shape && puts_block x e) ≡ false → r ≡ size_of t.shape → r ≡ Some n → place_of own < n
    → Measured k a (subject own) n x y
measured_at k a e own x y found r n is t takes size some below =
    subst (λ (z : Entry). Measured k a (subject z) n x y) is ((sized_found k a e x y found r n t takes size some).below (subst (λ (z : Entry). place_of z < n) (sym is) below))

-- the block takes what the entry puts into its field
suits_shape : (k : Config) (s : Shape) (n : ℕ) (v : Value) (r : ℕ) (y : DomainView) → size_of s ≡ Some n → (needs_no_scan s && is_block v) ≡ false → HoldsShape (state_of k y.seen.front) y.own.number r s → SuitsField k y r n v
suits_shape k (PlainShape size tag) n v r y is takes there = let same : size ≡ n = cc in inl (tag, subst (λ (m : ℕ). HoldsShape (state_of k y.seen.front) y.own.number r (PlainShape m tag)) same there)
suits_shape k (RawShape size tag) n v r y is takes there = inr takes
suits_shape k (EpheShape keys) n v r y is takes there = cc

pub suits_at : (k : Config) (a : ℕ) (e own : Entry) (x y : DomainView) (found : ℕ) (r : Option ℕ) (n : ℕ) (v : Value) → e ≡ own → y.own.number ≡ x.own.number → (t : HeadTold k a e x found y) → (needs_no_scan t.shape && puts_block x e) ≡ false → (needs_no_scan t.shape && is_block v) ≡ false
    → r ≡ size_of t.shape → r ≡ Some n → place_of own < n → SuitsField k y (subject own) n v
suits_at k a e own x y found r n v is number t takes holds_out size some below =
    suits_shape k t.shape n v (subject own) y (sym size ∙ some) holds_out
    (subst (λ (z : ℕ × Entry). HoldsShape (state_of k y.seen.front) z.0 (subject z.1) t.shape) (λ i. (sym number i, is i)) ((sized_found k a e x y found r n t takes size some).of_shape (subst (λ (z : Entry). place_of z < n) (sym is) below)))

-- a load puts no block into a field
pub takes_none : (b c : Bool) → c ≡ false → (b && c) ≡ false
takes_none true c none = none
takes_none false c none = refl

-- a command that brings a value into a field: the entry is told, and the head's fields for the value are known
module _ (k : Config) (a : ℕ) (e own : Entry) (x y : DomainView) (found : ℕ) (v : Value) (r : Option ℕ) (is : e ≡ own) (t : HeadTold k a e x found y) (puts : puts_block x own ≡ is_block v) (fields : r ≡ fields_for t.shape v) where
  refused_same : (needs_no_scan t.shape && puts_block x e) ≡ (needs_no_scan t.shape && is_block v)
  refused_same = ap (λ (z : Entry). needs_no_scan t.shape && puts_block x z) is ∙ ap (λ (b : Bool). needs_no_scan t.shape && b) puts

  pub none_for : r ≡ None → Entered k e (Replied BadType) Nothing [] x y
  none_for none = none_found k a e x y found v r t refused_same fields none

  module _ (n : ℕ) (some : r ≡ Some n) where
    taken : ((needs_no_scan t.shape && is_block v) ≡ false) × (size_of t.shape ≡ Some n)
    taken = fields_taken t.shape v n (sym fields ∙ some)

    pub past_for : n ≤ place_of own → Entered k e (Replied BadIndex) Nothing [] x y
    past_for past = past_found k a e x y found (Some n) n t (refused_same ∙ taken.0) (sym taken.1) refl (subst (λ (z : Entry). n ≤ place_of z) (sym is) past)

    pub measured_for : place_of own < n → Measured k a (subject own) n x y
    measured_for below = measured_at k a e own x y found (Some n) n is t (refused_same ∙ taken.0) (sym taken.1) refl below

    pub suits_for : y.own.number ≡ x.own.number → (w : Value) → w ≡ v → place_of own < n → SuitsField k y (subject own) n w
    suits_for number w same below = suits_at k a e own x y found (Some n) n w is number t (refused_same ∙ taken.0) (ap (λ (z : Value). needs_no_scan t.shape && is_block z) same ∙ taken.0) (sym taken.1) refl below
