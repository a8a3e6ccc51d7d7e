-- Whose the places of listed ephemerons are, and that an ephemeron at which a domain looks lives.
use Rattle.std.proofs.Common.{◌≡◌, ℕ, List, Some, sym, ap, ◌∙◌}
use Rattle.std.proofs.lemmas.Option.{none-some, same_Some}
use Rattle.model_core.specs.Graph.{Graph}
use Rattle.model_cycle.specs.Marks.{Marks}
use Rattle.heap_rule.specs.declared.config.Config.{Config}
use Rattle.heap_rule.specs.declared.view.Scan.{Scan}
use Rattle.heap_rule.specs.declared.view.Scan.TheVariants.{Idle, Reads, Holds, Keys, Key, Datum}
use Rattle.heap_rule.specs.Cycles.{Scans, owner_at}
use Rattle.heap_rule.specs.Ephemerons.{ephemeron_of}
use Rattle.heap_rule.specs.Places.{Live, Place}
use Rattle.heap_rule.specs.Pools.{OwnPlace, Pools, Tenancy}
use Rattle.step_marks.proofs.OfMarking.Layouts.{owner_of_place}

-- a place is one domain's
module _ (k : Config) (t : Tenancy) (words : List ℕ) (pools : Pools k t words) (a : ℕ) where
  owner_here : (d : ℕ) → OwnPlace t.holder a d → owner_at t.holder a ≡ Some d
  owner_here d o = ap (owner_at t.holder) o.begins ∙ owner_of_place t.holder o.pool d o.class o.slot (pools.owned_by o.pool d o.class o.owned_is).2 o.owned_is o.inside

  pub one_owner : (d e : ℕ) → OwnPlace t.holder a d → OwnPlace t.holder a e → d ≡ e
  one_owner d e o q = same_Some d e (sym (owner_here d o) ∙ owner_here e q)

pub looked_lives : (live : Live) (graph : Graph) (marks : Marks) (scan : Scan) → Scans live graph marks scan → (a : ℕ) → ephemeron_of scan ≡ Some a → (p : Place) × (live a ≡ Some p)
looked_lives live graph marks Idle f a e = absurd (none-some a e)
looked_lives live graph marks (Reads block done size head) f a e = absurd (none-some a e)
looked_lives live graph marks (Holds block done size head address) f a e = absurd (none-some a e)
looked_lives live graph marks (Keys block done count) f a e = (f.place, ap live (sym (same_Some block a e)) ∙ f.lives)
looked_lives live graph marks (Key block done count address) f a e = (f.reads.place, ap live (sym (same_Some block a e)) ∙ f.reads.lives)
looked_lives live graph marks (Datum block address) f a e = (f.place, ap live (sym (same_Some block a e)) ∙ f.lives)
