use Rattle.std.proofs.Common.{◌≡◌, ◌∙◌, ap, arith, ℕ, ◌<◌, List, [], ◌∷◌, ◌++◌, length, reverse, Some}
use Rattle.model_laws.specs.Reach.Ways.{Edges, follow}
use Rattle.model_laws.proofs.OfReach.Tracing.{field_before, seen_at, traced_back, traced_root}
use Rattle.model_laws.proofs.reach.seen.way_to.Goals as goal

pub returns-in-Register-clause-leads : goal.returns-in-Register-clause-leads
returns-in-Register-clause-leads c = λ f roots b traced at.
    traced_root f roots c.args.seen.now c.up.here _ b c.in-Register.register c.up.fields.items c.reverse.new.self.items traced c.up.invariant.inside c.in-Register.is c.reverse.ensures.items
    (c.up.invariant.leads f roots b _ traced at (seen_at c.args.seen.now c.up.here _ c.up.invariant.inside))

pub up-smaller : goal.up-smaller
up-smaller c = field_before c.args.seen.now c.up.here _ c.in-Field.block c.in-Field.index c.requires.ordered c.up.invariant.inside c.in-Field.is

pub up-preserved : goal.up-preserved
up-preserved c =
    let before : c.in-Field.block < c.up.here = field_before c.args.seen.now c.up.here _ c.in-Field.block c.in-Field.index c.requires.ordered c.up.invariant.inside c.in-Field.is in
    let n : ℕ = length c.args.seen.now in
    let inside : c.up.here < n = c.up.invariant.inside in record {
      inside = omega arith;
      leads = λ f roots a b traced at found.
          let more : c.push.new.self.items ≡ c.up.fields.items ++ c.in-Field.index ∷ [] = c.in_ok-push-in-Field.ensures.items in
          ap (λ (fields : List ℕ). follow f (Some b.label) (reverse fields)) more
          ∙ traced_back f roots c.args.seen.now c.up.here _ a b c.in-Field.block c.in-Field.index c.up.fields.items traced c.up.invariant.inside c.in-Field.is found
          (c.up.invariant.leads f roots a _ traced at (seen_at c.args.seen.now c.up.here _ c.up.invariant.inside));
    }
