-- What a load of the colours asks and tells.
use Rattle.std.specs.Prelude.{◌≡◌, ℕ, Some}
use Rattle.heap_words.specs.declared.colours.Colours.{Colours}
use Rattle.heap_words.specs.ColourWords.{IsPermutation, colours_word}
use Rattle.heap_rule.specs.declared.config.Config.{Config}
use Rattle.heap_rule.specs.declared.view.DomainView.{DomainView}
use Rattle.heap_rule.specs.declared.view.Finalisers.{Finalisers}
use Rattle.heap_rule.specs.declared.view.Held.{Held}
use Rattle.heap_rule.specs.declared.view.Share.{Share}
use Rattle.heap_rule.specs.Finalisers.{held_at}
use Rattle.heap_rule.specs.Standing.{IsInHeap}

-- the domain with other knowledge of the phase
abbrev pub with_share : DomainView → Share → DomainView
with_share x share = record x { seen = record x.seen { share = share } }

-- it knows the colours
abbrev pub knowing_colours : DomainView → Colours → DomainView
knowing_colours x colours = with_share x (record x.seen.share { colours = Some colours })

-- the addresses in a domain's lists of finalisers lie in the heap
abbrev pub HeldInside : Config → Finalisers → Type 0
HeldInside k fs = (h : Held) (a : ℕ) → held_at fs h ≡ Some a → IsInHeap k a

-- the word has the meanings of the colours. That addresses lie in the heap is known at each step
pub record ColoursTold (k : Config) (x : DomainView) (found : ℕ) (y : DomainView) : Type 0 where
  pub colours : Colours
  pub meanings : IsPermutation colours
  pub word : found ≡ colours_word colours
  pub inside : HeldInside k x.own.finalisers
  pub view : y ≡ knowing_colours x colours
