-- Ways and reachability.
use Rattle.std.specs.Prelude.{◌≡◌, ℕ, false, IsTrue, List, filter_map, take}
use Rattle.model_core.specs.declared.label.Label.{Label}
use Rattle.model_core.specs.declared.entry.Entry.{Entry}
use Rattle.model_core.specs.declared.state.Sizes.{Sizes}
use Rattle.model_core.specs.Domains.{domain_at, reach}
use Rattle.model_core.specs.Graph.{has_label, label_of}
use Rattle.model_core.specs.Reach.{is_reachable}
use Rattle.model_laws.specs.Reach.Asking.{IsUnled}
use Rattle.model_laws.specs.Reach.Exploring.{graph_of, roots_of}
use Rattle.model_laws.specs.Reach.Ways.{IsLedTo, IsNoEphemeron, refers}
use Rattle.model_laws.specs.Reach.Walks.{state_of}

-- a block to which a way leads is reachable
abbrev pub LedIsReached : Type 0
LedIsReached = (z : Sizes) (h : List Entry) (d : ℕ) (l : Label) → IsLedTo (refers (graph_of z h)) (roots_of z d h) l → IsTrue (has_label (reach (state_of z h)) l)

-- the blocks in registers 0 to 13 of a domain
abbrev pub searched : Sizes → ℕ → List Entry → List Label
searched z d h = filter_map label_of (take 14 (domain_at (state_of z h) d).registers)

-- a block to which no way leads isn't reachable from them, where no way leads to an ephemeron
abbrev pub UnledIsUnreached : Type 0
UnledIsUnreached = (z : Sizes) (h : List Entry) (d : ℕ) (l : Label) → IsUnled (graph_of z h) (roots_of z d h) l → ((m : Label) → IsLedTo (refers (graph_of z h)) (roots_of z d h) m → IsNoEphemeron (graph_of z h) m)
    → is_reachable (graph_of z h) (searched z d h) l ≡ false
