-- A word is written: what lies beside it stays.
use Rattle.heap_rule.proofs.EphemeronLemmas.{values_without}
use Rattle.std.proofs.Common.{◌≡◌, ◌≢◌, ℕ, ◌+◌, ◌<◌, ◌≤◌, List, length, get_or, set, Some, sym, refl, ap, ◌∙◌, subst, ⊎_elim, arith, get_or-set_other, lt_of_not-le}
use Rattle.std.proofs.lemmas.List.{length-map}
use mathlib.Core.Logic.{dite}
use native.Mathlib.Decide.{dec_le}
use Rattle.model_core.specs.declared.graph.Node.{Node}
use Rattle.model_core.specs.declared.graph.Node.TheVariants.{Plain, Raw, Ephe}
use Rattle.model_core.specs.Graph.{Graph, node_at}
use Rattle.model_core.specs.Commands.{key_value}
use Rattle.model_core.specs.Fronts.{shape_of}
use Rattle.heap_rule.specs.declared.config.Config.{Config}
use Rattle.heap_rule.specs.declared.view.DomainView.{DomainView}
use Rattle.heap_rule.specs.Layout.{before_heap, base_of}
use Rattle.heap_rule.specs.Places.{Place, Live, Paint, extent, values_of, Found, More, IsOldWord, without_keys}
use Rattle.heap_rule.specs.Rule.{Area, Making}
use Rattle.heap_rule.proofs.HeadLemmas.{head_at}
use Rattle.heap_rule.proofs.Lists.{got_below}
use Rattle.heap_rule.proofs.Sizes.{area_below}
use Rattle.heap_rule.proofs.Keeps.{stands_more}

pub extent_of : (n : Node) → extent (shape_of n) ≡ length (values_of n) + 2
extent_of (Plain tag fields) = refl
extent_of (Raw tag fields) = refl
extent_of (Ephe keys datum) = let l = length-map keys key_value in omega arith

-- a block that the word is none of, in a graph that has its node
pub found_beside : (k : Config) (paint : Paint) (live live' : Live) (graph graph' : Graph) (words : List ℕ) (at new b : ℕ) (q : Place) → More live live' → (f : Found k paint live graph words b q) → node_at graph' q.label ≡ Some f.node
    → ((z : ℕ) → z < extent q.shape → b + z ≢ at) → Found k paint live' graph' (set words (before_heap k + at) new) b q
found_beside k paint live live' graph graph' words at new b q more f there far =
    let e : ℕ = extent q.shape in
    let n : ℕ = length (values_of f.node) in
    let size : e ≡ n + 2 = ap extent (sym f.shape) ∙ extent_of f.node in
    let base : ℕ = before_heap k in
    let stays : (z : ℕ) → z < e → get_or (set words (base + at) new) (base + (b + z)) 0 ≡ get_or words (base + (b + z)) 0 = (λ z h. get_or-set_other words (base + at) (base + (b + z)) new 0 (λ same. far z h (omega arith))) in record {
      node = f.node;
      there = there;
      shape = f.shape;
      head = head_at paint q (ap (λ (i : ℕ). get_or (set words (base + at) new) (base + i) 0) (let g : b ≡ b + 0 = omega arith in g) ∙ (stays 0 (omega arith) ∙ ap (λ (i : ℕ). get_or words (base + i) 0) (let g : b + 0 ≡ b = omega arith in g))) f.head;
      blank = f.blank;
      label = stays 1 (omega arith) ∙ f.label;
      values = λ i v has got.
          let m : ℕ = length (values_of (without_keys (paint.emptied q.label) f.node)) in
          let same : m ≡ n = values_without (paint.emptied q.label) f.node in
          let under : i < m = got_below (values_of (without_keys (paint.emptied q.label) f.node)) i v got in
          let below : i < n = omega arith in
          let w = f.values i v has got in record {
            value = w.value;
            packs = ap (λ (j : ℕ). get_or (set words (base + at) new) (base + j) 0) (let g : b + 2 + i ≡ b + (2 + i) = omega arith in g)
                ∙ (stays (2 + i) (omega arith) ∙ (ap (λ (j : ℕ). get_or words (base + j) 0) (let g : b + (2 + i) ≡ b + 2 + i = omega arith in g) ∙ w.packs));
            stands = stands_more live live' w.value v more w.stands;
          };
      old = λ low i inside has none. subst (IsOldWord k) (sym (ap (λ (j : ℕ). get_or (set words (base + at) new) (base + j) 0) (let g : b + 2 + i ≡ b + (2 + i) = omega arith in g)
          ∙ (stays (2 + i) (omega arith) ∙ ap (λ (j : ℕ). get_or words (base + j) 0) (let g : b + (2 + i) ≡ b + 2 + i = omega arith in g)))) (f.old low i inside has none);
    }

-- the words of a block in the making stay where the written word isn't one of them
pub making_beside : (k : Config) (words : List ℕ) (at new : ℕ) (z : DomainView) → ((j : ℕ) → z.own.used + j + 1 < k.minor_words → base_of k z.own.number + z.own.used + 1 + j ≢ at) → Making k words z → Making k (set words (before_heap k + at) new) z
making_beside k words at new z far p = record {
  fits = p.fits;
  written = λ j w got. let y : ℕ = base_of k z.own.number + z.own.used + 1 + j in let base : ℕ = before_heap k in
      get_or-set_other words (base + at) (base + y) new 0 (λ same. far j (p.fits j w got) (let g : y ≡ at = omega arith in g)) ∙ p.written j w got;
}

-- a word of a live block is none of a block in the making
pub live_word_far : (k : Config) (live : Live) (a i : ℕ) (p : Place) (z : DomainView) → live a ≡ Some p → i < extent p.shape → Area k live z → (j : ℕ) → z.own.used + j + 1 < k.minor_words → base_of k z.own.number + z.own.used + 1 + j ≢ a + i
live_word_far k live a i p z lives inside area j fits same =
    let base : ℕ = base_of k z.own.number in
    let used : ℕ = z.own.used in
    let minor : ℕ = k.minor_words in
    let n : ℕ = extent p.shape in
    let e : base + used + 1 + j ≡ a + i = same in
    let f : used + j + 1 < minor = fits in
    let h : i < n = inside in
    ⊎_elim (λ (t : a + n ≤ base + used). omega arith) (λ (t : base + minor ≤ a). omega arith) (area.free a p lives)

-- a word of one domain's area is none of another's block in the making
pub area_word_far : (k : Config) (d : ℕ) (at : ℕ) (z : DomainView) → base_of k d ≤ at → at < base_of k d + k.minor_words → z.own.number ≢ d → (j : ℕ) → z.own.used + j + 1 < k.minor_words → base_of k z.own.number + z.own.used + 1 + j ≢ at
area_word_far k d at z low high other j fits same =
    let mine : ℕ = base_of k d in
    let base : ℕ = base_of k z.own.number in
    let n : ℕ = z.own.number in
    let used : ℕ = z.own.used in
    let minor : ℕ = k.minor_words in
    let l : mine ≤ at = low in let h : at < mine + minor = high in let e : base + used + 1 + j ≡ at = same in let f : used + j + 1 < minor = fits in
    dite (dec_le d n)
    (λ le. let g : mine + minor ≤ base = area_below k d n (let a : d ≤ n = le in let b : n ≢ d = other in omega arith) in omega arith)
    (λ gt. let g : base + minor ≤ mine = area_below k n d (lt_of_not-le gt) in omega arith)
