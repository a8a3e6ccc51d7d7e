-- The fields of a block, read one by one.
use Rattle.std.proofs.Common.{◌≡◌, ◌≢◌, ◌∙◌, ℕ, ◌+◌, ◌<◌, ◌≤◌, ◌⊎◌, Bool, true, false, List, refl, ap, sym, subst, slice_get, inl, inr, ⊎_elim, Option, Some, None, arith}
use Rattle.std.proofs.lemmas.Option.{same_Some}
use Rattle.std.proofs.lemmas.Bool.{cases_lt}
use mathlib.Core.Logic.{dite}
use native.Mathlib.Decide.{ℕ_discrete}
use Rattle.model_core.specs.declared.entry.Entry.{Entry}
use Rattle.model_core.specs.declared.graph.Value.TheVariants.{Block as BlockValue}
use Rattle.model_core.specs.declared.label.Label.{Label}
use Rattle.model_core.specs.declared.reply.Reply.{Reply}
use Rattle.model_core.specs.declared.reply.Reply.TheVariants.{Block, BadType, BadIndex}
use Rattle.model_core.specs.declared.state.Sizes.{Sizes}
use Rattle.model_core.specs.Domains.{register}
use Rattle.model_core.specs.Graph.{Graph}
use Rattle.model_core.specs.History.{IsPrefix}
use Rattle.model_laws.specs.declared.reach.seen.Seen.{Seen}
use Rattle.model_laws.specs.declared.reach.seen.Origin.{Origin}
use Rattle.model_laws.specs.declared.reach.seen.Origin.TheVariants.{Field}
use Rattle.model_laws.specs.Reach.Exploring.{Adds, AllTraced, Extends, Has, IsTraced, Notes, Visited, graph_of}
use Rattle.model_laws.specs.Reach.Ways.{Edges, refers}
use Rattle.model_laws.specs.Reach.Walks.{Loaded, Says, Still, Walked, state_of}
use Rattle.model_laws.proofs.OfReach.Adding.{adds_extends, adds_has, adds_traced, notes_cases, extends_same, still_has, still_there}
use Rattle.model_laws.proofs.OfReach.Going.{loaded_at, still_same, still_trans}
use Rattle.model_laws.proofs.OfReach.WalkSteps.{walked_earlier, walked_later}

-- the fields before a place were read
pub record Noted (g : Graph) (l : Label) (old seen : List Seen) (index : ℕ) : Type 0 where
  pub traced : (f : Edges) (roots : ℕ → Option Label) → ((i : ℕ) → f l i ≡ refers g l i) → AllTraced f roots old → AllTraced f roots seen
  pub closed : (i : ℕ) (m : Label) → i < index → refers g l i ≡ Some m → Has seen m

-- and register 14 still holds the block
pub record Reading (z : Sizes) (d : ℕ) (first now : List Entry) (at : ℕ) (old seen : List Seen) (index : ℕ) : Type 0 where
  pub still : Still z d first now
  pub here : (b : Seen) → slice_get old at ≡ Some b → register (state_of z first) d 14 ≡ BlockValue b.label → register (state_of z now) d 14 ≡ BlockValue b.label
  pub noted : (b : Seen) → slice_get old at ≡ Some b → register (state_of z first) d 14 ≡ BlockValue b.label → Noted (graph_of z first) b.label old seen index

pub reading_begins : (z : Sizes) (d : ℕ) (first : List Entry) (at : ℕ) (old : List Seen) → Reading z d first first at old old 0
reading_begins z d first at old = record {
  still = still_same z d first;
  here = λ b found held. held;
  noted = λ b found held. record { traced = λ f roots same traced. traced; closed = λ i m few refer. absurd (omega arith) };
}

module _ (z z' : Sizes) (d d' : ℕ) (first now next : List Entry) (at : ℕ) (old seen : List Seen) (index : ℕ) (r : Reply) (same_z : z' ≡ z) (same_d : d' ≡ d) (grows : IsPrefix first now) (more : IsPrefix now next)
    (reading : Walked d first now → Reading z d first now at old seen index) (loaded : Walked d' now next → Loaded z' d' now next 15 index r) (walked : Walked d first next) where
  was : Reading z d first now at old seen index
  was = reading (walked_earlier d first now next grows more walked)

  step : Loaded z d now next 15 index r
  step = loaded_at z z' d d' now next 15 index r same_z same_d loaded (walked_later d first now next grows more walked)

  pub still_on : Still z d first next
  still_on = still_trans z d first now next was.still step.still

  here_on : (b : Seen) → slice_get old at ≡ Some b → register (state_of z first) d 14 ≡ BlockValue b.label → register (state_of z next) d 14 ≡ BlockValue b.label
  here_on b found held = step.stays refl ∙ was.here b found held

  says_on : (b : Seen) → slice_get old at ≡ Some b → register (state_of z first) d 14 ≡ BlockValue b.label → Says (graph_of z first) b.label index r
  says_on b found held = subst (λ (g : Graph). Says g b.label index r) was.still.graph (step.says b.label (was.here b found held))

  -- where the field refers to no block
  pub reads_on : ((m : Label) → r ≢ Block m) → Reading z d first next at old seen (index + 1)
  reads_on other = record {
    still = still_on;
    here = here_on;
    noted = λ b found held. let n = was.noted b found held in record {
      traced = n.traced;
      closed = λ i m few refer. dite (ℕ_discrete i index)
          (λ same. absurd (other m ((says_on b found held).finds m (ap (λ (j : ℕ). refers (graph_of z first) b.label j) (sym same) ∙ refer))))
          (λ differs. n.closed i m (omega arith) refer);
    };
  }

  -- where it refers to one, which is noted
  pub notes_on : (goes_on : Extends old seen) (m : Label) (new : List Seen) → r ≡ Block m → Adds seen new m (Field at index) → Reading z d first next at old new (index + 1)
  notes_on goes_on m new is adds = record {
    still = still_on;
    here = here_on;
    noted = λ b found held.
        let n = was.noted b found held in
        let refer : refers (graph_of z first) b.label index ≡ Some m = (says_on b found held).block m is in record {
          traced = λ f roots same traced. adds_traced seen new m (Field at index) adds f roots (n.traced f roots same traced) (b, still_there old seen goes_on at b found, same index ∙ refer);
          closed = λ i k few leads. dite (ℕ_discrete i index)
              (λ here. let both : m ≡ k = same_Some m k (sym refer ∙ (ap (λ (j : ℕ). refers (graph_of z first) b.label j) (sym here) ∙ leads)) in subst (Has new) both (adds_has seen new m (Field at index) adds))
              (λ differs. still_has seen new (adds_extends seen new m (Field at index) adds) k (n.closed i k (omega arith) leads));
        };
  }

  -- whichever it names
  pub notes_reply : (goes_on : Extends old seen) (new : List Seen) → Notes seen new r (Field at index) → Reading z d first next at old new (index + 1)
  notes_reply goes_on new notes = ⊎_elim
      (λ (t : (m : Label) × (r ≡ Block m) × Adds seen new m (Field at index)). notes_on goes_on t.0 new t.1 t.2)
      (λ (t : (new ≡ seen) × ((m : Label) → r ≢ Block m)). subst (λ (xs : List Seen). Reading z d first next at old xs (index + 1)) (sym t.0) (reads_on t.1))
      (notes_cases seen new r (Field at index) notes)

  -- past the last field
  pub visited_all : r ≡ BadIndex → (b : Seen) → slice_get old at ≡ Some b → register (state_of z first) d 14 ≡ BlockValue b.label → Visited (graph_of z first) at b.label old seen false
  visited_all is b found held =
      let n = was.noted b found held in
      let s = says_on b found held in record {
        traced = n.traced;
        closed = λ i m refer. ⊎_elim
            (λ (few : i < index). n.closed i m few refer)
            (λ (past : index ≤ i). let clash : None ≡ Some m = sym (s.past is i past) ∙ refer in cc)
            (cases_lt i index);
        plain = λ _. s.plain (λ other. let clash : BadIndex ≡ BadType = sym is ∙ other in cc);
      }

  -- an ephemeron
  pub visited_none : r ≡ BadType → (b : Seen) → slice_get old at ≡ Some b → register (state_of z first) d 14 ≡ BlockValue b.label → Visited (graph_of z first) at b.label old seen true
  visited_none is b found held =
      let n = was.noted b found held in
      let s = says_on b found held in record {
        traced = n.traced;
        closed = λ i m refer. let clash : None ≡ Some m = sym (s.none is i) ∙ refer in cc;
        plain = λ clash. cc;
      }
