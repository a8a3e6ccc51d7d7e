use Rattle.std.proofs.Common.{ℕ, List, get_or, ap, ◌∙◌}
use Rattle.heap_rule.proofs.Classes.{size_is}
use Rattle.gc_copy.proofs.Preparing.{spot_is}
use Rattle.gc_copy.proofs.places.spot_in.Goals as goal

pub returns : goal.returns
returns c = λ pool slot below is. spot_is c.args.class c.args.at c.words_of-size.result pool slot c.requires.class
    (c.words_of-size.ensures ∙ (ap (λ (l : List ℕ). get_or l c.args.class 0) c.heap_classes.ensures ∙ size_is c.args.class)) below is
