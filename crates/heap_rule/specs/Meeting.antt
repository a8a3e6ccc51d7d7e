-- Domains that meet: they see one history, and stand in one pause.
use Rattle.std.specs.Prelude.{◌≡◌, ℕ, ◌+◌, ◌≤◌, List, [], ◌∷◌, length}
use Rattle.model_core.specs.declared.entry.Entry.{Entry}
use Rattle.model_core.specs.Fronts.{AreCalls, AreNotControls, unseen}
use Rattle.model_core.specs.History.{Legal}
use Rattle.heap_rule.specs.declared.config.Config.{Config}
use Rattle.heap_rule.specs.declared.view.DomainView.{DomainView}
use Rattle.heap_rule.specs.declared.phase.Kind.TheVariants.{Run}
use Rattle.heap_rule.specs.declared.phase.Stage.TheVariants.{In}
use Rattle.heap_rule.specs.Copies.{HasCopy}
use Rattle.heap_rule.specs.Ending.{Begins}
use Rattle.heap_rule.specs.Limits.{sizes_in}
use Rattle.heap_rule.specs.Phases.{Pause, Staged}
use Rattle.heap_rule.specs.Standing.{with_front}
use Rattle.heap_rule.specs.Token.{Token, views_of}
use Rattle.heap_rule.specs.Views.{AllDomains, SomeDomain}

-- a domain has arrived as often as the number of the phase, or once more
abbrev pub IsNear : Pause → DomainView → Type 0
IsNear pause x = (pause.phase ≤ x.own.arrivals) × (x.own.arrivals ≤ pause.phase + 1)

-- Two domains stand in one pause: each has arrived as often as the number of its phase or once more, and what each knows of the kinds of the phases is so
pub record InOnePause (x y : DomainView) : Type 0 where
  pub pause : Pause
  pub first : Staged pause x
  pub second : Staged pause y
  pub first_near : IsNear pause x
  pub second_near : IsNear pause y

-- where both know of a copy of one young block, it is the same copy
abbrev pub SameCopies : DomainView → DomainView → Type 0
SameCopies x y = (young c d : ℕ) → HasCopy x young c → HasCopy y young d → c ≡ d

-- these domains have seen this history
abbrev pub all_seeing : List Entry → List DomainView → List DomainView
all_seeing history [] = []
all_seeing history (x ∷ xs) = with_front x history ∷ all_seeing history xs

-- What the history has behind the front of a domain: no entry of its own, none of the collector while it runs, and for domain 0, which leads collections, nothing by which one begins, goes on or ends
pub record Trails (history : List Entry) (x : DomainView) : Type 0 where
  pub begins : Begins history x
  pub calls : x.seen.stage ≡ In Run → AreCalls (unseen history x.seen.front)
  pub led : x.own.number ≡ 0 → AreNotControls (unseen history x.seen.front)

-- a domain takes part in a meeting: the history goes on from its front, and it stands in the pause
pub record TakesPart (history : List Entry) (pause : Pause) (x : DomainView) : Type 0 where
  pub trails : Trails history x
  pub staged : Staged pause x
  pub near : IsNear pause x

-- These domains meet at this history and in this pause. Where they are all domains of the heap, one of them acts in the phase
pub record Meeting (k : Config) (history : List Entry) (pause : Pause) (xs : List DomainView) : Type 0 where
  pub legal : Legal (sizes_in k) history
  pub each : AllDomains (TakesPart history pause) xs
  pub copies : AllDomains (λ x. AllDomains (SameCopies x) xs) xs
  pub acts : length xs ≡ k.domains → SomeDomain (λ x. x.own.arrivals ≡ pause.phase) xs

-- a load at which the domains of a seat meet: all see the history, and nothing else changes
pub record Levels (k : Config) (xs : List DomainView) (found : ℕ) (ys : List DomainView) : Type 0 where
  pub history : List Entry
  pub pause : Pause
  pub meets : Meeting k history pause xs
  pub seen : ys ≡ all_seeing history xs

-- the token of a domain that has seen this history
abbrev pub seeing : Token → List Entry → Token
seeing t history = record t { view = with_front t.view history }

-- those of several
abbrev pub each_seeing : List Entry → List Token → List Token
each_seeing history [] = []
each_seeing history (t ∷ ts) = seeing t history ∷ each_seeing history ts

-- Two domains have met. Both see one history, which begins with the front of each
pub record Met (k : Config) (a b new_a new_b : Token) : Type 0 where
  pub history : List Entry
  pub legal : Legal (sizes_in k) history
  pub first : Trails history a.view
  pub second : Trails history b.view
  pub first_is : new_a ≡ seeing a history
  pub second_is : new_b ≡ seeing b history

-- all these domains have met
pub record MetAll (k : Config) (old new : List Token) : Type 0 where
  pub history : List Entry
  pub pause : Pause
  pub meets : Meeting k history pause (views_of old)
  pub seen : new ≡ each_seeing history old
