use Rattle.std.proofs.Common.{ℕ, ◌≤◌, sym, subst}
use Rattle.heap_rule.proofs.Classes.{size_least, size_most}
use Rattle.step_pools.proofs.Sizes.{size_shifted}
use Rattle.step_pools.proofs.walking.class_size.Goals as goal

pub returns-clause-value : goal.returns-clause-value
returns-clause-value c = size_shifted c.args.class c.requires

pub returns-clause-some : goal.returns-clause-some
returns-clause-some c =
    (subst (λ (n : ℕ). 4 ≤ n) (sym (size_shifted c.args.class c.requires)) (size_least c.args.class c.requires), subst (λ (n : ℕ). n ≤ 4096) (sym (size_shifted c.args.class c.requires)) (size_most c.args.class c.requires))
