-- What words and registers stand for.
use Rattle.std.proofs.Common.{◌≡◌, ◌≢◌, ℕ, ◌+◌, ◌^◌, ◌<◌, ◌≤◌, List, length, get_or, set, Some, None, sym, refl, ◌∙◌, subst, arith, length-set, get_or-set_same, get_or-set_other}
use mathlib.Core.Logic.{dite}
use native.Mathlib.Decide.{ℕ_discrete}
use Rattle.model_core.specs.declared.label.Label.{Label}
use Rattle.model_core.specs.declared.graph.Value.{Value}
use Rattle.model_core.specs.declared.graph.Value.TheVariants.{Int, Block, Nothing}
use Rattle.model_core.specs.declared.state.State as model
use Rattle.model_core.specs.Graph.{label_of}
use Rattle.model_core.specs.Domains.{IsWithinLimits, domain_at}
use Rattle.model_core.specs.Fronts.{Shape, PlainShape, RawShape, EpheShape}
use Rattle.heap_words.specs.declared.value.Value as words
use Rattle.heap_words.specs.declared.value.Value.TheVariants.{Int as IntWord, Ref, Nothing as NothingWord}
use Rattle.heap_words.specs.Values.{IsPackable}
use Rattle.heap_rule.specs.declared.config.Config.{Config}
use Rattle.heap_rule.specs.declared.view.DomainView.{DomainView}
use Rattle.heap_rule.specs.Limits.{sizes_in}
use Rattle.heap_rule.specs.Layout.{heap_words}
use Rattle.heap_rule.specs.Places.{Place, Live, extent, IsPackableShape, Stands, Fits, Placed, IsNoBlock, Shows}
use Rattle.heap_rule.specs.Changes.{value_at}
use Rattle.heap_rule.specs.Rule.{Stood}
use Rattle.heap_rule.specs.Token.{IsAddress, Holds}
use Rattle.heap_rule.proofs.Sizes.{heap_small}

pub extent_large : (shape : Shape) → IsPackableShape shape → 3 ≤ extent shape
extent_large (PlainShape size tag) p = let h : 1 ≤ size = p.0 in omega arith
extent_large (RawShape size tag) p = let h : 1 ≤ size = p.0 in omega arith
extent_large (EpheShape keys) p = omega arith

-- a block's address leaves room for its head, its label and a value
pub address_of : (k : Config) (a : ℕ) (p : Place) → Fits k a p → IsAddress k a
address_of k a p f = let l : 1 ≤ a = f.low in let n : ℕ = extent p.shape in let e : 3 ≤ n = extent_large p.shape f.head in let w : ℕ = heap_words k in let h : a + n ≤ w + 1 = f.high in (l, let g : a + 2 ≤ w = omega arith in g)

module _ (k : Config) (limits : IsWithinLimits (sizes_in k)) (live : Live) (placed : Placed k live) where
  -- what stands for a value has a word
  pub packable : (x : words.Value) (v : Value) → Stands live x v → IsPackable x
  packable (IntWord z) (Int v) s = s.1
  packable (IntWord z) (Block l) s = absurd s
  packable (IntWord z) Nothing s = absurd s
  packable (Ref a) (Int v) s = absurd s
  packable (Ref a) (Block l) s = let i = address_of k a s.0 (placed.fits a s.0 s.1) in let w : ℕ = heap_words k in let b : w < 2 ^ 24 = heap_small k limits in let l : 1 ≤ a = i.0 in let h : a + 2 ≤ w = i.1 in (l, let g : a < 2 ^ 32 = omega arith in g)
  packable (Ref a) Nothing s = absurd s
  packable NothingWord (Int v) s = absurd s
  packable NothingWord (Block l) s = absurd s
  packable NothingWord Nothing s = tt

  inside : (x : words.Value) (v : Value) (a : ℕ) → Stands live x v → x ≡ Ref a → IsAddress k a
  inside (IntWord z) v a s e = absurd (let f : IntWord z ≡ Ref a = e in cc)
  inside (Ref b) (Int v) a s e = absurd s
  inside (Ref b) (Block l) a s e = let same : b ≡ a = cc in subst (IsAddress k) same (address_of k b s.0 (placed.fits b s.0 s.1))
  inside (Ref b) Nothing a s e = absurd s
  inside NothingWord v a s e = absurd (let f : NothingWord ≡ Ref a = e in cc)

  -- the registers of a domain that stands for the model's
  pub holds : (s : model.State) (x : DomainView) → Stood live s x → Holds k x.own.registers
  holds s x st = record {
    wide = st.wide;
    packable = λ r few. packable (value_at x.own.registers r) (get_or (domain_at s x.own.number).registers r Nothing) (st.each r few);
    inside = λ r a few e. inside (value_at x.own.registers r) (get_or (domain_at s x.own.number).registers r Nothing) a (st.each r few) e;
  }

-- what a register with an address stands for
pub stands_block : (live : Live) (a : ℕ) (v : Value) → Stands live (Ref a) v → (l : Label) × (p : Place) × (v ≡ Block l) × (live a ≡ Some p) × (p.label ≡ l)
stands_block live a (Int z) s = absurd s
stands_block live a (Block l) s = (l, s.0, refl, s.1, s.2)
stands_block live a Nothing s = absurd s

-- what is no address stands for no label
pub no_label : (live : Live) (x : words.Value) (v : Value) → IsNoBlock x → Stands live x v → label_of v ≡ None
no_label live (IntWord z) (Int v) n s = refl
no_label live (IntWord z) (Block l) n s = absurd s
no_label live (IntWord z) Nothing n s = absurd s
no_label live (Ref a) v n s = absurd n
no_label live NothingWord (Int v) n s = absurd s
no_label live NothingWord (Block l) n s = absurd s
no_label live NothingWord Nothing n s = refl

pub stands_nothing : (live : Live) (v : Value) → Stands live NothingWord v → v ≡ Nothing
stands_nothing live (Int z) s = absurd s
stands_nothing live (Block l) s = absurd s
stands_nothing live Nothing s = refl

pub not_nothing : (live : Live) (x : words.Value) (v : Value) → x ≢ NothingWord → Stands live x v → v ≢ Nothing
not_nothing live (IntWord z) v n s e = absurd (subst (Stands live (IntWord z)) e s)
not_nothing live (Ref a) v n s e = absurd (subst (Stands live (Ref a)) e s)
not_nothing live NothingWord v n s e = n refl

pub shows : (live : Live) (x : words.Value) (v : Value) → Stands live x v → Shows x v
shows live (IntWord z) (Int v) s = s.0
shows live (IntWord z) (Block l) s = absurd s
shows live (IntWord z) Nothing s = absurd s
shows live (Ref a) (Int v) s = absurd s
shows live (Ref a) (Block l) s = tt
shows live (Ref a) Nothing s = absurd s
shows live NothingWord (Int v) s = absurd s
shows live NothingWord (Block l) s = absurd s
shows live NothingWord Nothing s = tt

-- registers of a domain that stand for the model's, list against list
pub record AllStand (live : Live) (own : List words.Value) (theirs : List Value) : Type 0 where
  pub wide : length own ≡ 16
  pub long : length theirs ≡ 16
  pub each : (r : ℕ) → r < 16 → Stands live (value_at own r) (get_or theirs r Nothing)

-- one register gets a value that stands for what the model's gets
pub stand_set : (live : Live) (own : List words.Value) (theirs : List Value) (r : ℕ) (x : words.Value) (v : Value) → r < 16 → Stands live x v → AllStand live own theirs → AllStand live (set own r x) (set theirs r v)
stand_set live own theirs r x v few stands a = record {
  wide = length-set own r x ∙ a.wide;
  long = length-set theirs r v ∙ a.long;
  each = λ q low. dite (ℕ_discrete q r)
      (λ here. subst (λ (n : ℕ). Stands live (value_at (set own r x) n) (get_or (set theirs r v) n Nothing)) (sym here)
      (subst (λ (y : words.Value × Value). Stands live y.0 y.1) (λ i. (sym (get_or-set_same own r x NothingWord (let w = a.wide in omega arith)) i, sym (get_or-set_same theirs r v Nothing (let w = a.long in omega arith)) i)) stands))
      (λ other. subst (λ (y : words.Value × Value). Stands live y.0 y.1) (λ i. (sym (get_or-set_other own r q x NothingWord other) i, sym (get_or-set_other theirs r q v Nothing other) i)) (a.each q low));
}
