-- What a running domain comes to know of marks while it darkens blocks.
use Rattle.std.specs.Prelude.{◌≡◌, ℕ, ◌+◌, ◌≤◌, Bool, true, false, cond, List, [], ◌∷◌, Some}
use Rattle.heap_words.specs.declared.colours.Colours.{Colours}
use Rattle.heap_rule.specs.declared.config.Config.{Config}
use Rattle.heap_rule.specs.declared.phase.Kind.TheVariants.{Run}
use Rattle.heap_rule.specs.declared.phase.Stage.TheVariants.{In}
use Rattle.heap_rule.specs.declared.view.DomainView.{DomainView}
use Rattle.heap_rule.specs.declared.view.Known.{Known}
use Rattle.heap_rule.specs.declared.view.Known.TheVariants.{Darkened, Marked, Scanned, Vain}
use Rattle.heap_rule.specs.Beside.{IsKnown}
use Rattle.heap_rule.specs.Layout.{heap_words}
use Rattle.heap_rule.specs.Places.{IsOldAt}
use Rattle.heap_rule.specs.Standing.{FieldMay}
use Rattle.step_marks.specs.Marking.Looks.{with_share}
use Rattle.step_marks.specs.Beside.Marking.{Reason, StillFound, Warrants, weak_on}

-- the domain with what another knows of the colours, of the armed word and of blocks, and with what that owes
abbrev pub aware_as : DomainView → DomainView → DomainView
aware_as x y = with_share x (record x.seen.share { colours = y.seen.share.colours; armed = y.seen.share.armed; known = y.seen.share.known; weak = y.seen.share.weak })

-- a domain has come to know more of blocks, of the colours and of the armed word, and nothing else of it has changed but what it owes
pub record Learnt (x y : DomainView) : Type 0 where
  pub view : y ≡ aware_as x y
  pub grows : (f : Known) → IsKnown x.seen.share.known f → IsKnown y.seen.share.known f

-- a thing that a domain knows: it has scanned a block
abbrev pub tells_scan : Known → Bool
tells_scan (Scanned address) = true
tells_scan _ = false

-- it has looked at an address in vain
abbrev pub tells_vain : Known → Bool
tells_vain (Vain address) = true
tells_vain _ = false

-- it has darkened a block
abbrev pub tells_darkening : Known → Bool
tells_darkening (Darkened address) = true
tells_darkening _ = false

-- how many of the things that a domain knows are of a kind
abbrev pub times : (Known → Bool) → List Known → ℕ
times is [] = 0
times is (f ∷ fs) = cond (is f) (times is fs + 1) (times is fs)

-- how many blocks a domain has scanned, by what it knows
abbrev pub scanned_in : List Known → ℕ
scanned_in known = times tells_scan known

-- how often it has looked at an address in vain
abbrev pub vain_in : List Known → ℕ
vain_in known = times tells_vain known

-- how many blocks it has darkened
abbrev pub darkened_in : List Known → ℕ
darkened_in known = times tells_darkening known

-- a domain has gone to darken a block, and has darkened it or not
pub record CountsDarkening (won : Bool) (known after : List Known) : Type 0 where
  pub scanned : scanned_in after ≡ scanned_in known
  pub vain : vain_in after ≡ vain_in known
  pub darkened : darkened_in after ≡ darkened_in known + cond won 1 0

-- the block at an address is marked, and known to be darkened where this domain wins. Of the share nothing has changed but what is known, and what is owed for the reason
pub record DarkenedAt (at : ℕ) (reason : Reason) (wins : Bool) (x y : DomainView) : Type 0 where
  pub colours : y.seen.share.colours ≡ x.seen.share.colours
  pub armed : y.seen.share.armed ≡ x.seen.share.armed
  pub marked : IsKnown y.seen.share.known (Marked at)
  pub owes : y.seen.share.weak ≡ weak_on reason x.seen.share.weak
  pub won : wins ≡ true → IsKnown y.seen.share.known (Darkened at)
  pub counts : CountsDarkening wins x.seen.share.known y.seen.share.known
  pub found : StillFound x y

-- a running domain, which knows the colours and that a cycle goes on, has a reason to darken the block of the pools at an address
pub record DarkensBeside (k : Config) (colours : Colours) (at : ℕ) (reason : Reason) (x : DomainView) : Type 0 where
  pub runs : x.seen.stage ≡ In Run
  pub armed : x.seen.share.armed ≡ Some true
  pub known : x.seen.share.colours ≡ Some colours
  pub old : IsOldAt k at
  pub reason_is : Warrants x at reason

-- a running domain, which knows that a cycle goes on, has a reason to darken the block of the pools at an address
pub record OughtToDarken (k : Config) (at : ℕ) (reason : Reason) (x : DomainView) : Type 0 where
  pub runs : x.seen.stage ≡ In Run
  pub armed : x.seen.share.armed ≡ Some true
  pub old : IsOldAt k at
  pub reason_is : Warrants x at reason

-- the register holds the block, into whose field it may be stored, and the field lies in the heap
pub record MayOverwrite (k : Config) (x : DomainView) (block register field : ℕ) : Type 0 where
  pub may : FieldMay k x (block + 2 + field) register field
  pub of_block : may.address ≡ block
  pub inside : block + field + 2 ≤ heap_words k

-- which register holds the block that is stored into, and why the block is darkened to which its field refers
pub record Overwriting : Type 0 where
  pub register : ℕ
  pub reason : Reason
