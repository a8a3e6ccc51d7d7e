use Rattle.std.proofs.Common.{ℕ, List, get_or, ap, ◌∙◌, subst}
use Rattle.heap_words.specs.Classes.Table.{IsLeastFor}
use Rattle.heap_words.specs.declared.classes.TheConstants.{SIZES}
use Rattle.heap_rule.specs.Places.{class_words}
use Rattle.step_run.proofs.OfYoung.ClassSizes.{least_is}
use Rattle.step_run.proofs.young.making.words_of_class.Goals as goal

pub returns : goal.returns
unfolding class_words
returns c = c.words_of.ensures ∙ (ap (λ (l : List ℕ). get_or l c.in-Some.class 0) c.heap_classes-classes.ensures
    ∙ least_is SIZES c.args.words c.in-Some.class (subst (λ (l : List ℕ). IsLeastFor l c.args.words c.in-Some.class) c.heap_classes-classes.ensures c.in-Some.ensures))
