-- Where the marks change and the marks of the blocks that live don't, the words stand for the same blocks.
use Rattle.std.proofs.Common.{◌≡◌, ℕ, Bool, cond, IsTrue, List, Some, sym, ◌∙◌, subst}
use Rattle.model_core.specs.declared.label.Label.{Label}
use Rattle.model_core.specs.Graph.{Graph}
use Rattle.model_cycle.specs.Marks.{Marks}
use Rattle.heap_rule.specs.declared.config.Config.{Config}
use Rattle.heap_rule.specs.Layout.{at_address}
use Rattle.heap_rule.specs.Places.{Place, Live, Paint, HeadIs}
use Rattle.heap_rule.specs.Rule.{AllFound}

-- a label is marked in the one where it is in the other, and scanned where it was
pub record SameMark (m m' : Marks) (l : Label) : Type 0 where
  pub marked : m'.marked l ≡ m.marked l
  pub scanned : IsTrue (m.scanned l) → IsTrue (m'.scanned l)

pub same_mark : (m : Marks) (l : Label) → SameMark m m l
same_mark m l = record { marked = λ i. m.marked l; scanned = λ is. is }

pub repainted : (k : Config) (paint : Paint) (marks' : Marks) (live : Live) (graph : Graph) (words : List ℕ) → ((a : ℕ) (p : Place) → live a ≡ Some p → SameMark paint.marks marks' p.label) → AllFound k paint live graph words
    → AllFound k (record paint { marks = marks' }) live graph words
repainted k paint marks' live graph words same found a p lives =
    let f = found a p lives in
    let m = same a p lives in
    let h = f.head in record {
      node = f.node;
      there = f.there;
      shape = f.shape;
      head = record {
        scanned = h.scanned;
        packs = subst (λ (b : Bool). HeadIs p.forward p.shape (cond b paint.colours.marked paint.colours.unmarked) h.scanned (at_address k words a)) (sym m.marked) h.packs;
        tells = λ is seen. m.scanned (h.tells (sym m.marked ∙ is) seen);
      };
      blank = f.blank;
      label = f.label;
      values = f.values;
      old = f.old;
    }
