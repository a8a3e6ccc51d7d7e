-- The commands by which a search walks through a heap.
use Rattle.std.specs.Prelude.{◌≡◌, ◌≢◌, ℕ, ◌<◌, ◌≤◌, Some, None, Bool, true, false, ◌||◌, ◌&&◌, ◌==◌, not, IsTrue, List, ◌++◌}
use Rattle.std.specs.List.{list_all}
use Rattle.model_core.specs.declared.command.Command as model
use Rattle.model_core.specs.declared.command.Command.TheVariants.{Copy, Load}
use Rattle.model_core.specs.declared.entry.Entry.{Entry}
use Rattle.model_core.specs.declared.entry.Entry.TheVariants.{Command}
use Rattle.model_core.specs.declared.graph.Value.TheVariants.{Block as BlockValue}
use Rattle.model_core.specs.declared.label.Label.{Label}
use Rattle.model_core.specs.declared.reply.Reply.{Reply}
use Rattle.model_core.specs.declared.reply.Reply.TheVariants.{Block, BadIndex, BadType}
use Rattle.model_core.specs.declared.state.Sizes.{Sizes}
use Rattle.model_core.specs.declared.state.State.{State}
use Rattle.model_core.specs.Domains.{opening, register}
use Rattle.model_core.specs.Fronts.{is_call}
use Rattle.model_core.specs.Graph.{Graph}
use Rattle.model_core.specs.History.{state_after, is_entry_of}
use Rattle.model_laws.specs.Reach.Ways.{IsNoEphemeron, refers}

-- whether a register is one of the two in which a search has what it finds
abbrev pub is_hand : ℕ → Bool
is_hand r = r == 14 || r == 15

-- whether a command is one by which a search walks: it brings a block into such a register
abbrev pub is_walk : model.Command → Bool
is_walk (Copy dst src) = is_hand dst
is_walk (Load dst src index) = is_hand dst
is_walk _ = false

-- whether an entry is such a command of domain d
abbrev pub is_walk_of : ℕ → Entry → Bool
is_walk_of d (Command k c false) = k == d && is_walk c
is_walk_of d _ = false

-- whether an entry is one of another domain's
abbrev pub is_others : ℕ → Entry → Bool
is_others d e = is_call e && not (is_entry_of d e)

-- the front has grown by such commands of domain d, and by entries of other domains: no collection has come
pub record Walks (d : ℕ) (old new : List Entry) : Type 0 where
  pub rest : List Entry
  pub appends : new ≡ old ++ rest
  pub each : IsTrue (list_all (λ e. is_walk_of d e || is_others d e) rest)

-- a search walks on: it stays in the same domain of the same heap, with the same numbers
pub record WalksOn {M H : Type 0} (of : M → H) (z : M → Sizes) (d : M → ℕ) (front : M → List Entry) (old new : M) : Type 0 where
  pub home : of new ≡ of old
  pub sizes : z new ≡ z old
  pub number : d new ≡ d old
  pub walks : Walks (d old) (front old) (front new)

-- the front has grown by such commands of domain d alone: no other domain has made an entry, and no collection
pub record Walked (d : ℕ) (old new : List Entry) : Type 0 where
  pub rest : List Entry
  pub appends : new ≡ old ++ rest
  pub walks : IsTrue (list_all (is_walk_of d) rest)

-- the state that a history of a heap leaves
abbrev pub state_of : Sizes → List Entry → State
state_of z h = state_after (opening z) h

-- the graph of blocks is as it was, and so are the registers of domain d but for those two
pub record Still (z : Sizes) (d : ℕ) (old new : List Entry) : Type 0 where
  pub graph : (state_of z new).graph ≡ (state_of z old).graph
  pub registers : (r : ℕ) → r < 14 → register (state_of z new) d r ≡ register (state_of z old) d r

-- both are, where nobody else has made an entry
abbrev pub StaysAlone : Sizes → ℕ → List Entry → List Entry → Type 0
StaysAlone z d old new = Walked d old new → Still z d old new

-- what the reply to a load of a field of a block says of the graph
pub record Says (g : Graph) (l : Label) (i : ℕ) (r : Reply) : Type 0 where
  pub block : (m : Label) → r ≡ Block m → refers g l i ≡ Some m
  pub finds : (m : Label) → refers g l i ≡ Some m → r ≡ Block m
  pub past : r ≡ BadIndex → (j : ℕ) → i ≤ j → refers g l j ≡ None
  pub none : r ≡ BadType → (j : ℕ) → refers g l j ≡ None
  pub plain : r ≢ BadType → IsNoEphemeron g l

-- what a load of a field of the block in register 14 leaves
pub record Loaded (z : Sizes) (d : ℕ) (old new : List Entry) (dst i : ℕ) (r : Reply) : Type 0 where
  pub still : Still z d old new
  pub stays : dst ≡ 15 → register (state_of z new) d 14 ≡ register (state_of z old) d 14
  pub says : (l : Label) → register (state_of z old) d 14 ≡ BlockValue l → Says (state_of z old).graph l i r
  pub brings : (l m : Label) → register (state_of z old) d 14 ≡ BlockValue l → refers (state_of z old).graph l i ≡ Some m → register (state_of z new) d dst ≡ BlockValue m

-- what bringing the block in a register into register 14 leaves
pub record Copied (z : Sizes) (d : ℕ) (old new : List Entry) (src : ℕ) : Type 0 where
  pub still : Still z d old new
  pub brings : register (state_of z new) d 14 ≡ register (state_of z old) d src
