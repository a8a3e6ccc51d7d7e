-- The end of a heap.
use Rattle.std.specs.Prelude.{◌≡◌, ℕ, List, [], ◌∷◌, ◌++◌}
use Rattle.atomic_table.specs.Table.{Me, Step}
use Rattle.model_core.specs.declared.entry.Entry.{Entry}
use Rattle.model_core.specs.declared.state.Sizes.{Sizes}
use Rattle.model_core.specs.History.{Legal}
use Rattle.model_core.specs.Fronts.{IsFrontOf}
use Rattle.heap_rule.specs.declared.config.Config.{Config}
use Rattle.heap_rule.specs.declared.view.DomainView.{DomainView}
use Rattle.heap_rule.specs.declared.view.View.{View}
use Rattle.heap_rule.specs.Limits.{sizes_in}
use Rattle.heap_rule.specs.Views.{AllDomains}
use Rattle.heap_rule.specs.Token.{Token, SharedHeap, IsIn}

-- the numbers and the one history of a heap that has ended
pub record EndedHeap : Type 0 where
  pub sizes : Sizes
  pub history : List Entry

-- the domain's front begins the history, which has no other entry of that domain
abbrev pub Begins : List Entry → DomainView → Type 0
Begins history x = IsFrontOf x.own.number history x.seen.front

-- a seat that sees the whole history, which is a legal one
pub record Learned (k : Config) (m m' : Me (Unit {0}) View) : Type 0 where
  pub seat : m' ≡ (record m.0 { history = m'.0.history }, m.1)
  pub legal : Legal (sizes_in k) m'.0.history
  pub fronts : AllDomains (Begins m'.0.history) m.0.domains

-- what the last step of a heap tells
abbrev pub learned : Step (Unit {0}) → Me (Unit {0}) View → ℕ → Me (Unit {0}) View → Type 0
learned _ m found m' = Learned m.0.config m m'

-- every token is one of the heap's
abbrev pub AllIn : SharedHeap → List Token → Type 0
AllIn h [] = Unit {0}
AllIn h (t ∷ ts) = IsIn t h × AllIn h ts

-- every token's front begins the history
abbrev pub AllBegin : List Entry → List Token → Type 0
AllBegin history [] = Unit {0}
AllBegin history (t ∷ ts) = Begins history t.view × AllBegin history ts

-- the views of the tokens, the last first
abbrev pub views_back : List Token → List DomainView
views_back [] = []
views_back (t ∷ ts) = views_back ts ++ t.view ∷ []
