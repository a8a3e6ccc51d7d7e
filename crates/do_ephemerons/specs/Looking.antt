-- What becomes of a domain's view while it looks at its ephemerons in Rounds.
use Rattle.std.specs.Prelude.{◌≡◌, ℕ, ◌+◌, Bool, true, false, cond, IsTrue, ◌∷◌, Some}
use Rattle.heap_words.specs.declared.colours.Colours.{Colours}
use Rattle.heap_rule.specs.declared.phase.Kind.TheVariants.{Rounds}
use Rattle.heap_rule.specs.declared.phase.Stage.TheVariants.{In}
use Rattle.heap_rule.specs.declared.view.DomainView.{DomainView}
use Rattle.heap_rule.specs.declared.view.Scan.{Scan}
use Rattle.heap_rule.specs.declared.view.Scan.TheVariants.{Idle, Keys}
use Rattle.heap_rule.specs.declared.view.Share.{Share}
use Rattle.heap_rule.specs.Cycles.{seen_by}
use Rattle.step_marks.specs.Marking.Looks.{with_share}
use Rattle.step_ephemerons.specs.Looks.Rounding.{looked_through}

-- a domain is in Rounds, and knows the colours
pub record Darkening (colours : Colours) (x : DomainView) : Type 0 where
  pub stage : x.seen.stage ≡ In Rounds
  pub known : x.seen.share.colours ≡ Some colours

-- the next key is done
abbrev pub key_past : Scan → Scan
key_past (Keys block done count) = Keys block (done + 1) count
key_past other = other

-- a look at the next key: it is empty or its block is marked, and it is done; or else the look at the ephemeron has ended
abbrev pub after_key : Bool → Share → Share
after_key true share = record share { scan = key_past share.scan }
after_key false share = looked_through share

-- the look at an ephemeron has ended, and its place is seen
abbrev pub ended_at : ℕ → Share → Share
ended_at at share = record share { scan = Idle; places_seen = at ∷ share.places_seen }

-- a look at all keys of an ephemeron: all are done, or the look at the ephemeron has ended
abbrev pub after_keys : Bool → ℕ → ℕ → Share → Share
after_keys true at keys share = record share { scan = Keys at keys keys }
after_keys false at keys share = ended_at at share

-- the domain is through with an ephemeron. Where it has marked a block it owes a store of the changed word
pub record Through (at : ℕ) (won : Bool) (x y : DomainView) : Type 0 where
  pub view : y ≡ with_share x (record (ended_at at x.seen.share) { found_head = y.seen.share.found_head; marked = y.seen.share.marked; darkenings = y.seen.share.darkenings; owes = cond won true x.seen.share.owes; account = y.seen.share.account })

-- the domain with what it knows of blocks and of the places that it has seen, and what it owes for those that it has darkened, as another has it
abbrev pub with_looks : DomainView → DomainView → DomainView
with_looks x y = with_share x (record x.seen.share { found_head = y.seen.share.found_head; marked = y.seen.share.marked; darkenings = y.seen.share.darkenings; owes = y.seen.share.owes; account = y.seen.share.account; places_seen = y.seen.share.places_seen })

-- the domain has seen the place of each ephemeron of its list
abbrev pub SeesListed : DomainView → Type 0
SeesListed x = (a : ℕ) → IsTrue (seen_by x.own.ephemerons.items a) → IsTrue (seen_by x.seen.share.places_seen a)

-- what one has seen another has seen
abbrev pub SeesOn : DomainView → DomainView → Type 0
SeesOn x y = (a : ℕ) → IsTrue (seen_by x.seen.share.places_seen a) → IsTrue (seen_by y.seen.share.places_seen a)

-- the domain has looked at ephemerons, and nothing else has changed
pub record LookedAtEphemerons (x y : DomainView) : Type 0 where
  pub view : y ≡ with_looks x y
  pub before : SeesOn x y

-- it has looked at each one. Where it has marked a block it owes a store of the changed word
pub record SawEach (won : Bool) (x y : DomainView) : Type 0 where
  pub looked : LookedAtEphemerons x y
  pub owes : y.seen.share.owes ≡ cond won true x.seen.share.owes
  pub all : SeesListed y

-- the domain with what it knows of the colours, of blocks and of the places that it has seen, and with its account, as another has it
abbrev pub with_sights : DomainView → DomainView → DomainView
with_sights x y = with_share x (record x.seen.share { colours = y.seen.share.colours; found_head = y.seen.share.found_head; marked = y.seen.share.marked; darkenings = y.seen.share.darkenings; account = y.seen.share.account; places_seen = y.seen.share.places_seen })

-- the domain has been at each ephemeron of its list, and owes no store of the changed word. Nothing else has changed
pub record AllLooked (x y : DomainView) : Type 0 where
  pub view : y ≡ with_sights x y
  pub all : SeesListed y
