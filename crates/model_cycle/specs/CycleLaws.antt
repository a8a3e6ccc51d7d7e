-- The steps of a cycle in each phase, and the ways from one phase to the next: what a step has to show, and what then holds.
use Rattle.std.specs.Prelude.{◌≡◌, ℕ, suc, ◌<◌, Bool, false, not, ◌==◌, IsTrue, List, [], ◌∷◌, filter_map, length, slice_get, Option, Some}
use Rattle.std.specs.List.{list_all, list_any}
use Rattle.model_core.specs.declared.label.Label.{Label}
use Rattle.model_core.specs.declared.command.Command.TheVariants.{FullMajor}
use Rattle.model_core.specs.declared.entry.Entry.TheVariants.{Command, Cut, Queue, Seal, Wipe, Last, Collected, Done}
use Rattle.model_core.specs.declared.graph.Value.{Value}
use Rattle.model_core.specs.declared.graph.Node.TheVariants.{Ephe}
use Rattle.model_core.specs.declared.state.Finaliser.{Finaliser}
use Rattle.model_core.specs.declared.state.LastFinaliser.{LastFinaliser}
use Rattle.model_core.specs.declared.state.Mode.TheVariants.{Open, Sealed}
use Rattle.model_core.specs.declared.state.State.{State}
use Rattle.model_core.specs.Graph.{node_at}
use Rattle.model_core.specs.Reach.{HoldsRoots, IsClosedGraph}
use Rattle.model_core.specs.Domains.{domain_at, pending_label, queues, roots}
use Rattle.model_core.specs.Entries.{Allowed, next, is_some_and, is_rising}
use Rattle.model_cycle.specs.Marks.{darkened, with_scanned, FieldsMarked, KeysMarked, DataMarked, MayDarken}
use Rattle.model_cycle.specs.Shares.{OnePlaceEach, reset_shares, no_shares, at_domain, owing, following, settles, stored_changed, sees, arrives, AllArrived, AllOwned}
use Rattle.model_cycle.specs.Queueing.{RootsMarked}
use Rattle.model_cycle.specs.Taking.{LeadsToMarked}
use Rattle.model_cycle.specs.Cycle.{Cycle, Pass, First, Second, Roots, Mark, Rounds, Decide, Clean, Lasts, Sweep, IsUnderWay, InPhase, with_shares, with_marks}

-- domain d may darken the block l, which lies at place a in a pool of domain k: d has not arrived, the block is unmarked, and in a whole cycle there is a reason
pub record Darkens (n : ℕ) (s : State) (c : Cycle) (d k a : ℕ) (l : Label) : Type 0 where
  pub graph : IsClosedGraph s.graph (roots s (queues s))
  pub inside : d < n
  pub acts : c.shares.arrived d ≡ false
  pub owner_inside : k < n
  pub lives : c.layout.live a ≡ Some l
  pub owned : c.layout.owner a ≡ Some k
  pub unmarked : c.marks.marked l ≡ false
  pub may : IsTrue c.whole → MayDarken s.graph (roots s (queues s)) c.marks.marked l

-- a domain has seen all its places
abbrev pub SeesAll : Cycle → ℕ → Type 0
SeesAll c d = (a : ℕ) → c.layout.owner a ≡ Some d → IsTrue (c.shares.seen d a)

-- a domain may arrive in Mark: it follows nothing, and has seen all its places
pub record ArrivesMarking (c : Cycle) (d : ℕ) : Type 0 where
  pub settled : (a : ℕ) → c.shares.follows d a ≡ false
  pub all : SeesAll c d

-- a domain may arrive in Rounds: it owes nothing, and has seen all its places
pub record Arrives (c : Cycle) (d : ℕ) : Type 0 where
  pub paid : c.shares.owes d ≡ false
  pub all : SeesAll c d

-- the steps of Roots, Mark and Rounds
pub record DarkeningSteps : Type 0 where
  -- Roots: a root is darkened, and a domain arrives whose roots are marked
  pub roots_darkens : (n : ℕ) (s : State) (c : Cycle) → InPhase (Roots First) n s c → (d k a : ℕ) (l : Label) → Darkens n s c d k a l
      → InPhase (Roots First) n s (with_marks c (darkened c.marks l))
  pub roots_arrives : (n : ℕ) (s : State) (c : Cycle) → InPhase (Roots First) n s c → (d : ℕ) → RootsMarked s c.marks.marked d
      → InPhase (Roots First) n s (with_shares c (arrives c.shares d))
  -- in the second pass who darkens a root owes a store of the changed word, and makes it
  pub queued_darkens : (n : ℕ) (s : State) (c : Cycle) → InPhase (Roots Second) n s c → (d k a : ℕ) (l : Label) → Darkens n s c d k a l
      → InPhase (Roots Second) n s (with_shares (with_marks c (darkened c.marks l)) (owing c.shares d))
  pub queued_stores : (n : ℕ) (s : State) (c : Cycle) → InPhase (Roots Second) n s c → (d : ℕ)
      → InPhase (Roots Second) n s (with_shares c (stored_changed c.shares d))
  -- a domain arrives there once it owes nothing; of its roots only its queue has grown, so it suffices that this is marked
  pub queued_arrives : (n : ℕ) (s : State) (c : Cycle) → InPhase (Roots Second) n s c → (d : ℕ) → c.shares.owes d ≡ false
      → HoldsRoots (filter_map pending_label (domain_at s d).queue) c.marks.marked → InPhase (Roots Second) n s (with_shares c (arrives c.shares d))
  -- Mark: a domain darkens a block, in whosever pool it lies, and follows it
  pub mark_darkens : (pass : Pass) (n : ℕ) (s : State) (c : Cycle) → InPhase (Mark pass) n s c → OnePlaceEach c.layout → (d k a : ℕ) (l : Label) → Darkens n s c d k a l
      → InPhase (Mark pass) n s (with_shares (with_marks c (darkened c.marks l)) (following c.shares d a))
  -- it follows it no more where the block is scanned
  pub mark_settles : (pass : Pass) (n : ℕ) (s : State) (c : Cycle) → InPhase (Mark pass) n s c → (d a : ℕ)
      → ((l : Label) → c.layout.live a ≡ Some l → IsTrue (c.marks.marked l) → IsTrue (c.marks.scanned l)) → InPhase (Mark pass) n s (with_shares c (settles c.shares d a))
  -- it marks a block as scanned whose fields are marked
  pub mark_scans : (pass : Pass) (n : ℕ) (s : State) (c : Cycle) → InPhase (Mark pass) n s c → (l : Label) → FieldsMarked s.graph c.marks.marked l
      → InPhase (Mark pass) n s (with_marks c (with_scanned c.marks l))
  -- and in any of these phases a block is scanned at once that has no fields to follow
  pub roots_scans : (pass : Pass) (n : ℕ) (s : State) (c : Cycle) → InPhase (Roots pass) n s c → (l : Label) → FieldsMarked s.graph c.marks.marked l
      → InPhase (Roots pass) n s (with_marks c (with_scanned c.marks l))
  pub rounds_scans : (pass : Pass) (n : ℕ) (s : State) (c : Cycle) → InPhase (Rounds pass) n s c → (l : Label) → FieldsMarked s.graph c.marks.marked l
      → InPhase (Rounds pass) n s (with_marks c (with_scanned c.marks l))
  -- it stores the changed word, and follows nothing more
  pub mark_stores : (pass : Pass) (n : ℕ) (s : State) (c : Cycle) → InPhase (Mark pass) n s c → (d : ℕ) → InPhase (Mark pass) n s (with_shares c (stored_changed c.shares d))
  -- it finds no grey block at an own place
  pub mark_looks : (pass : Pass) (n : ℕ) (s : State) (c : Cycle) → InPhase (Mark pass) n s c → (d a : ℕ) → c.layout.owner a ≡ Some d
      → ((l : Label) → c.layout.live a ≡ Some l → IsTrue (c.marks.marked l) → IsTrue (c.marks.scanned l)) → InPhase (Mark pass) n s (with_shares c (sees c.shares d a))
  -- it arrives once it follows nothing and has seen all its places
  pub mark_arrives : (pass : Pass) (n : ℕ) (s : State) (c : Cycle) → InPhase (Mark pass) n s c → (d : ℕ) → ArrivesMarking c d
      → InPhase (Mark pass) n s (with_shares c (arrives c.shares d))
  -- Rounds: a domain darkens a block, and owes a store of the changed word
  pub rounds_darkens : (pass : Pass) (n : ℕ) (s : State) (c : Cycle) → InPhase (Rounds pass) n s c → (d k a : ℕ) (l : Label) → Darkens n s c d k a l
      → InPhase (Rounds pass) n s (with_shares (with_marks c (darkened c.marks l)) (owing c.shares d))
  -- it knows that a block is scanned, of which Rounds says nothing
  pub rounds_settles : (pass : Pass) (n : ℕ) (s : State) (c : Cycle) → InPhase (Rounds pass) n s c → (d a : ℕ)
      → InPhase (Rounds pass) n s (with_shares c (settles c.shares d a))
  pub rounds_stores : (pass : Pass) (n : ℕ) (s : State) (c : Cycle) → InPhase (Rounds pass) n s c → (d : ℕ)
      → InPhase (Rounds pass) n s (with_shares c (stored_changed c.shares d))
  -- it finds that an own ephemeron has marked data, if it and its full keys were marked before
  pub rounds_looks : (pass : Pass) (n : ℕ) (s : State) (c : Cycle) → InPhase (Rounds pass) n s c → (d a : ℕ) → c.layout.owner a ≡ Some d
      → ((l : Label) → c.layout.live a ≡ Some l → IsTrue (c.before l) → KeysMarked s.graph c.before l → DataMarked s.graph c.marks.marked l)
      → InPhase (Rounds pass) n s (with_shares c (sees c.shares d a))
  pub rounds_arrives : (pass : Pass) (n : ℕ) (s : State) (c : Cycle) → InPhase (Rounds pass) n s c → (d : ℕ) → Arrives c d
      → InPhase (Rounds pass) n s (with_shares c (arrives c.shares d))

-- the steps of Decide, Clean and Lasts
pub record TakingSteps : Type 0 where
  -- Decide: the value of the next registration is marked, or it is not and the Queue of it is allowed
  pub decide_keeps : (n : ℕ) (s : State) (c : Cycle) → InPhase Decide n s c → (d p : ℕ) (f : Finaliser) → c.left d ≡ suc p
      → slice_get (domain_at s d).finals p ≡ Some f → IsTrue (c.marks.marked f.label) → InPhase Decide n s (record c { left = at_domain c.left d p })
  pub decide_queues : (n : ℕ) (s : State) (c : Cycle) → InPhase Decide n s c → (d p : ℕ) (f : Finaliser) → c.left d ≡ suc p
      → slice_get (domain_at s d).finals p ≡ Some f → IsTrue (not (c.marks.marked f.label)) → d < length s.domains
      → Allowed s (Queue d (p ∷ [])) × InPhase Decide n (next s (Queue d (p ∷ []))) (record c { left = at_domain c.left d p })
  -- a domain arrives that has no registration left to look at
  pub decide_arrives : (n : ℕ) (s : State) (c : Cycle) → InPhase Decide n s c → (d : ℕ) → c.left d ≡ 0 → InPhase Decide n s (with_shares c (arrives c.shares d))
  -- Clean: the Wipe of unmarked keys is allowed; where these were all the unmarked ones, the full keys that stay are marked
  pub clean_wipes : (n : ℕ) (s : State) (c : Cycle) → InPhase Clean n s c → (l : Label) (places : List ℕ) (keys : List (Option Label)) (datum : Value)
      → node_at s.graph l ≡ Some (Ephe keys datum) → IsTrue (is_rising places)
      → IsTrue (list_all (λ p. is_some_and (is_some_and (λ k. not (c.marks.marked k))) (slice_get keys p)) places)
      → Allowed s (Wipe l places) × InPhase Clean n (next s (Wipe l places)) c
  pub clean_wiped : (n : ℕ) (s : State) (c : Cycle) → InPhase Clean n s c → (l : Label) (places : List ℕ) (keys : List (Option Label)) (datum : Value)
      → node_at s.graph l ≡ Some (Ephe keys datum) → IsTrue (is_rising places)
      → IsTrue (list_all (λ p. is_some_and (is_some_and (λ k. not (c.marks.marked k))) (slice_get keys p)) places)
      → ((p : ℕ) (k : Label) → slice_get keys p ≡ Some (Some k) → list_any (λ q. q == p) places ≡ false → IsTrue (c.marks.marked k))
      → KeysMarked (next s (Wipe l places)).graph c.marks.marked l
  -- a domain finds no unmarked key in an own marked ephemeron, and arrives once it has seen all its places
  pub clean_looks : (n : ℕ) (s : State) (c : Cycle) → InPhase Clean n s c → (d a : ℕ) → c.layout.owner a ≡ Some d
      → ((l : Label) → c.layout.live a ≡ Some l → IsTrue (c.marks.marked l) → KeysMarked s.graph c.marks.marked l) → InPhase Clean n s (with_shares c (sees c.shares d a))
  pub clean_arrives : (n : ℕ) (s : State) (c : Cycle) → InPhase Clean n s c → (d : ℕ) → SeesAll c d → InPhase Clean n s (with_shares c (arrives c.shares d))
  -- Lasts: the value of the next registration is marked, or it is not and the Last of it is allowed
  pub lasts_keeps : (n : ℕ) (s : State) (c : Cycle) → InPhase Lasts n s c → (d p : ℕ) (f : LastFinaliser) → c.left d ≡ suc p
      → slice_get (domain_at s d).lasts p ≡ Some f → IsTrue (c.marks.marked f.label) → InPhase Lasts n s (record c { left = at_domain c.left d p })
  pub lasts_queues : (n : ℕ) (s : State) (c : Cycle) → InPhase Lasts n s c → (d p : ℕ) (f : LastFinaliser) → c.left d ≡ suc p
      → slice_get (domain_at s d).lasts p ≡ Some f → IsTrue (not (c.marks.marked f.label)) → d < length s.domains
      → Allowed s (Last d p) × InPhase Lasts n (next s (Last d p)) (record c { left = at_domain c.left d p })
  pub lasts_arrives : (n : ℕ) (s : State) (c : Cycle) → InPhase Lasts n s c → (d : ℕ) → c.left d ≡ 0 → InPhase Lasts n s (with_shares c (arrives c.shares d))

-- the ways from one phase to the next
pub record PhaseSteps : Type 0 where
  -- a cycle begins, with nothing marked; or one goes on that was under way
  pub begins : (n : ℕ) (s : State) (c : Cycle) → s.mode ≡ Open → ((l : Label) → c.marks.marked l ≡ false) → InPhase (Roots First) n s (with_shares c no_shares)
  pub goes_on : (n : ℕ) (s : State) (c : Cycle) → c.whole ≡ false → s.mode ≡ Open → AllOwned n c.layout c.marks.marked → IsUnderWay s c.layout c.marks
      → (changed : Bool) → InPhase (Mark First) n s (with_shares c (reset_shares changed))
  -- to Mark: from Roots where all have arrived, and from Mark and Rounds at any time, though only what was changed asks for it
  pub roots_mark : (pass : Pass) (n : ℕ) (s : State) (c : Cycle) → n ≡ length s.domains → InPhase (Roots pass) n s c → AllArrived n c.shares
      → (changed : Bool) → InPhase (Mark pass) n s (with_shares c (reset_shares changed))
  pub mark_mark : (pass : Pass) (n : ℕ) (s : State) (c : Cycle) → InPhase (Mark pass) n s c
      → (changed : Bool) → InPhase (Mark pass) n s (with_shares c (reset_shares changed))
  pub rounds_mark : (pass : Pass) (n : ℕ) (s : State) (c : Cycle) → InPhase (Rounds pass) n s c
      → (changed : Bool) → InPhase (Mark pass) n s (with_shares c (reset_shares changed))
  -- to Rounds, where all have arrived and nothing was changed
  pub mark_rounds : (pass : Pass) (n : ℕ) (s : State) (c : Cycle) → InPhase (Mark pass) n s c → AllArrived n c.shares → c.shares.changed ≡ false
      → InPhase (Rounds pass) n s (record c { shares = no_shares; before = c.marks.marked })
  -- the Cut, to Decide, and from there to the second Roots
  pub rounds_decide : (n : ℕ) (s : State) (c : Cycle) → InPhase (Rounds First) n s c → AllArrived n c.shares → c.shares.changed ≡ false
      → Allowed s Cut × InPhase Decide n (next s Cut) (record c { shares = no_shares; left = λ d. length (domain_at s d).finals })
  pub decide_queued : (n : ℕ) (s : State) (c : Cycle) → n ≡ length s.domains → InPhase Decide n s c → AllArrived n c.shares
      → InPhase (Roots Second) n s (with_shares c no_shares)
  -- the Seal, to Clean, also at once where the queues keep nothing alive that was unmarked; and from there to Lasts
  pub queued_clean : (n : ℕ) (s : State) (c : Cycle) → n ≡ length s.domains → InPhase (Roots Second) n s c → AllArrived n c.shares → c.shares.changed ≡ false
      → Allowed s Seal × InPhase Clean n (next s Seal) (with_shares c no_shares)
  pub rounds_clean : (n : ℕ) (s : State) (c : Cycle) → InPhase (Rounds Second) n s c → AllArrived n c.shares → c.shares.changed ≡ false
      → Allowed s Seal × InPhase Clean n (next s Seal) (with_shares c no_shares)
  pub clean_lasts : (n : ℕ) (s : State) (c : Cycle) → InPhase Clean n s c → AllArrived n c.shares
      → InPhase Lasts n s (record c { shares = no_shares; left = λ d. length (domain_at s d).lasts })
  -- to Sweep: each reference leads to a marked block, and the colours may be exchanged
  pub lasts_sweep : (n : ℕ) (s : State) (c : Cycle) → n ≡ length s.domains → InPhase Lasts n s c → AllArrived n c.shares
      → LeadsToMarked s c.marks.marked × InPhase Sweep n s (with_shares c no_shares)
  -- the end of the collection: the Collected of a whole cycle, the answers to `full_major`, and the Done
  pub sweep_collected : (n : ℕ) (s : State) (c : Cycle) → IsTrue c.whole → s.mode ≡ Sealed → InPhase Sweep n s c → Allowed s Collected × InPhase Sweep n (next s Collected) c
  pub sweep_answers : (n : ℕ) (s : State) (c : Cycle) (d : ℕ) → InPhase Sweep n s c → InPhase Sweep n (next s (Command d FullMajor false)) c
  pub sweep_done : (n : ℕ) (s : State) (c : Cycle) → InPhase Sweep n s c → Allowed s Done
