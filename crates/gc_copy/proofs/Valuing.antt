-- What the value of a root or of a copied block becomes.
use Rattle.std.proofs.Common.{◌≡◌, ℕ, Some, sym, ap, ◌∙◌, inl}
use Rattle.model_core.specs.Domains.{IsWithinLimits}
use Rattle.model_core.specs.declared.graph.Value as model
use Rattle.model_core.specs.declared.graph.Value.TheVariants.{Int as IntOf, Block, Nothing as NothingOf}
use Rattle.heap_words.specs.declared.value.Value.TheVariants.{Ref}
use Rattle.heap_rule.specs.declared.config.Config.{Config}
use Rattle.heap_rule.specs.declared.view.DomainView.{DomainView}
use Rattle.heap_rule.specs.Limits.{sizes_in}
use Rattle.heap_rule.specs.Places.{Place, Live, Stands, More}
use Rattle.heap_rule.specs.Standing.{IsInHeap}
use Rattle.step_promote.specs.Promotion.{Knows, HeadMay}
use Rattle.gc_copy.specs.Working.{SameBlock, Works, Claimed, Forwarded, StandsFor}
use Rattle.gc_copy.proofs.Meeting.{met_inside, old_small}

some_same : (p q : Place) → Some p ≡ Some q → p ≡ q
some_same p q e = cc

-- an address that stands for a value is that of a block that was met
pub met_ref : (live : Live) (a : ℕ) (held : model.Value) → Stands live (Ref a) held → (p : Place) × (live a ≡ Some p)
met_ref live a (IntOf z) s = absurd s
met_ref live a (Block l) s = (s.0, s.1)
met_ref live a NothingOf s = absurd s

pub ref_inside : (k : Config) (x : DomainView) (a : ℕ) → Works k x → StandsFor x (Ref a) → IsInHeap k a
ref_inside k x a w s = let m = met_ref (Knows x) a s.0 s.1 in met_inside k x a m.0 w.fit m.1

pub ref_may : (k : Config) (x : DomainView) (a : ℕ) → Works k x → StandsFor x (Ref a) → HeadMay x a
ref_may k x a w s = let m = met_ref (Knows x) a s.0 s.1 in record { stage = w.stage; from = inl (m.0, m.1) }

-- the address of the copy stands for the same
same_stands : (live live' : Live) (a c : ℕ) (held : model.Value) → More live live' → SameBlock live' a c → Stands live (Ref a) held → Stands live' (Ref c) held
same_stands live live' a c (IntOf z) more same s = absurd s
same_stands live live' a c NothingOf more same s = absurd s
same_stands live live' a c (Block l) more same s =
    let m = more a s.0 s.1 in
    let is : same.from ≡ m.place = some_same same.from m.place (sym same.here ∙ m.lives) in
    (same.to, same.there, same.label ∙ (ap (λ (p : Place). p.label) is ∙ (m.label ∙ s.2)))

pub ref_forwarded : (k : Config) (x y : DomainView) (a c : ℕ) → IsWithinLimits (sizes_in k) → Claimed k a x y c → Forwarded k (Ref a) x y (Ref c)
ref_forwarded k x y a c limits t = record {
  grown = t.grown;
  stands = λ held s. same_stands (Knows x) (Knows y) a c held t.grown.learns.more t.same s;
  packable = ((t.grown.works.fit c t.same.to t.same.there).low, old_small k c limits t.old);
  old = t.old;
}
