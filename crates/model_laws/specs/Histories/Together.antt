-- Laws of what one collection takes together.
use Rattle.std.specs.Prelude.{◌≡◌, ◌≢◌, ℕ, false, List, [], ◌∷◌, ◌++◌, slice_get, IsTrue, Some}
use Rattle.model_core.specs.declared.label.Label.{Label}
use Rattle.model_core.specs.declared.entry.Entry.{Entry}
use Rattle.model_core.specs.declared.entry.Entry.TheVariants.{Seal, Done}
use Rattle.model_core.specs.declared.graph.Value.TheVariants.{Block}
use Rattle.model_core.specs.declared.state.Finaliser.{Finaliser}
use Rattle.model_core.specs.declared.state.LastFinaliser.{LastFinaliser}
use Rattle.model_core.specs.declared.state.Sizes.{Sizes}
use Rattle.model_core.specs.declared.state.State.{State}
use Rattle.model_core.specs.Graph.{has_label}
use Rattle.model_core.specs.Domains.{domain_at, queues, reach, opening}
use Rattle.model_core.specs.Entries.{queued_beyond}
use Rattle.model_core.specs.History.{state_after, Legal}
use Rattle.model_laws.specs.Histories.Cells.{Key, Datum, content}

-- all registrations of `finalise` of one block, by all domains, are queued by one collection: once it is sealed none is left that waits for a block of which it queued one
abbrev pub FinalsGoTogether : Type 0
FinalsGoTogether = (z : Sizes) (h : List Entry) (l : Label) → Legal z (h ++ Seal ∷ []) → let s = state_after (opening z) h in
    IsTrue (has_label (queued_beyond (queues s) s.cut) l)
    → (d p : ℕ) (f : Finaliser) → slice_get (domain_at s d).finals p ≡ Some f → f.label ≢ l

-- nothing that is left names a block, as far as one read of a weak key or of data goes
pub record IsTakenOut (s : State) (l : Label) : Type 0 where
  pub unreached : has_label (reach s) l ≡ false
  pub keys : (e : Label) (i : ℕ) → IsTrue (has_label (reach s) e) → content s.graph e (Key i) ≢ Block l
  pub datum : (e : Label) → IsTrue (has_label (reach s) e) → content s.graph e Datum ≢ Block l
  pub finals : (d p : ℕ) (f : Finaliser) → slice_get (domain_at s d).finals p ≡ Some f → f.label ≢ l
  pub lasts : (d p : ℕ) (f : LastFinaliser) → slice_get (domain_at s d).lasts p ≡ Some f → f.label ≢ l

-- where any collection ends, complete or not, a block of which it emptied a key or queued a `finalise_last` is unreachable, is neither a key nor the data of a reachable ephemeron, and has no registration left
abbrev pub TakenTogether : Type 0
TakenTogether = (z : Sizes) (h : List Entry) (l : Label) → Legal z (h ++ Done ∷ []) → let s = state_after (opening z) h in IsTrue (has_label s.taken l) → IsTakenOut s l
