-- The views of seats: what each knows of the history and of the domains that it stands for.
use Rattle.model_core.specs.Domains.{class_count}
use Rattle.std.specs.Prelude.{◌≡◌, ◌≢◌, ℕ, zero, suc, ◌+◌, ◌*◌, ◌/◌, ◌<◌, ◌⊎◌, List, [], ◌∷◌, ◌++◌, replicate, true, false, Option, Some, None}
use mathlib.Core.Option.{some}
use lib.ListN.{get_elem?}
use Rattle.atomic_table.specs.Table.{Me, Step}
use Rattle.model_core.specs.declared.entry.Entry.{Entry}
use Rattle.model_core.specs.History.{IsPrefix}
use Rattle.model_core.specs.Fronts.{AreNotControls, IsFrontOf, unseen}
use Rattle.heap_words.specs.declared.value.Value.TheVariants.{Ref, Nothing}
use Rattle.heap_rule.specs.declared.config.Config.{Config}
use Rattle.heap_rule.specs.declared.view.DomainView.{DomainView}
use Rattle.heap_rule.specs.declared.view.Finalisers.{Finalisers}
use Rattle.heap_rule.specs.declared.view.Hunt.TheVariants.{Rests}
use Rattle.heap_rule.specs.declared.view.Reaping.TheVariants.{Outside}
use Rattle.heap_rule.specs.declared.view.Scan.TheVariants.{Idle}
use Rattle.heap_rule.specs.declared.view.Share.{Share}
use Rattle.heap_rule.specs.declared.view.Spare.{Spare}
use Rattle.heap_rule.specs.declared.view.View.{View}
use Rattle.heap_rule.specs.declared.phase.Kind.TheVariants.{Run}
use Rattle.heap_rule.specs.Pools.{first_search}
use Rattle.heap_rule.specs.declared.phase.Progress.{Progress}
use Rattle.heap_rule.specs.declared.phase.Stage.TheVariants.{In}

-- the fact holds of each view, with its seat's number
abbrev pub EachView : (ℕ → View → Type 0) → List View → Type 0
EachView P views = (id : ℕ) (v : View) → get_elem? views id ≡ some v → P id v

-- the fact holds of each of these domains
abbrev pub AllDomains : (DomainView → Type 0) → List DomainView → Type 0
AllDomains P [] = Unit {0}
AllDomains P (x ∷ xs) = P x × AllDomains P xs

-- the fact holds of one of these domains
abbrev pub SomeDomain : (DomainView → Type 0) → List DomainView → Type 0
SomeDomain P [] = ⊥
SomeDomain P (x ∷ xs) = P x ⊎ SomeDomain P xs

-- the fact holds of each domain of each view
abbrev pub EachDomain : (DomainView → Type 0) → List View → Type 0
EachDomain P views = EachView (λ _ v. AllDomains P v.domains) views

-- no domain stands there twice
abbrev pub Distinct : List DomainView → Type 0
Distinct [] = Unit {0}
Distinct (x ∷ xs) = AllDomains (λ y. y.own.number ≢ x.own.number) xs × Distinct xs

-- History, of one domain: it is one of the heap's, this seat alone stands for it, and its front begins the history. Domain 0 alone leads collections, so it has seen where each began and ended
pub record IsSeated (k : Config) (log : List Entry) (seat : ℕ → ℕ) (id : ℕ) (x : DomainView) : Type 0 where
  pub inside : x.own.number < k.domains
  pub here : seat x.own.number ≡ id
  pub front : IsFrontOf x.own.number log x.seen.front
  pub led : x.own.number ≡ 0 → AreNotControls (unseen log x.seen.front)

-- History, of one seat
pub record Knows (k : Config) (log : List Entry) (seat : ℕ → ℕ) (id : ℕ) (v : View) : Type 0 where
  pub config : AllDomains (λ _. v.config ≡ k) v.domains
  pub history : IsPrefix v.history log
  pub domains : AllDomains (IsSeated k log seat id) v.domains
  pub distinct : Distinct v.domains

-- the view of a seat that stands for one domain
abbrev pub one : Config → List Entry → DomainView → View
one k h x = record { config = k; history = h; domains = x ∷ [] }

-- how many copies a domain can make in one collection, since a block has four words at least
abbrev pub pending_room : Config → ℕ
pending_room k = k.domains * k.minor_words / 4

-- before the first collection
abbrev pub no_collection : Progress
no_collection = record { cut = false; whole = true; unswept = false; armed = false }

-- what a domain knows of a phase in which it has done nothing
abbrev pub fresh_share : Share
fresh_share = record { colours = None; armed = None; known = []; weak = None; changed = None; blocks = None; words = None; rotated = false; owes = false; account = []; places_seen = []; found_head = None; scan = Idle; walk = record { pool = 0; slot = 0 }; own_pool = None; roots = []; marked = []; darkenings = 0; unmarked = 0; counted = []; counted_to = record { pool = 0; slot = 0 }; counted_words = 0; added_blocks = false; added_words = false; held = 0; vacant = 0; cleaning = None; kept = 0; waiting = []; progress = no_collection; reaping = Outside; swept = [] }

-- and of the next, of which it has forgotten the last
abbrev pub voided : Share → Share
voided share = record fresh_share { progress = share.progress; unmarked = share.unmarked }

-- the lists of a domain that has registered nothing
abbrev pub no_finalisers : ℕ → Finalisers
no_finalisers room = record { finals = record { items = []; room = room }; lasts = record { items = []; room = room }; queue = record { items = []; room = room } }

-- the free place of which a domain knows at the start: that behind the shared block's, which is domain 0's
abbrev pub first_spare : ℕ → Option Spare
first_spare zero = Some (record { pool = 0; class = 3; slot = 1 })
first_spare (suc d) = None

-- a domain at the start: register 0 holds the shared block, which is at the address 1, in pool 0
abbrev pub opening_view : Config → ℕ → DomainView
opening_view k d = record {
  own = record {
    number = d;
    registers = Ref 1 ∷ replicate 15 Nothing;
    used = 0;
    serial = 0;
    arrivals = 0;
    looked = replicate class_count first_search;
    remembered = record { items = []; room = k.minor_words };
    prepared = replicate class_count None;
    pending = record { items = []; room = pending_room k };
    ephemerons = record { items = []; room = k.ephes };
    finalisers = no_finalisers k.finals;
    swept = record { listed = 0; spot = record { pool = k.pools; slot = 0 }; top = 1 };
  };
  seen = record { front = []; made = []; stage = In Run; notes = []; hunt = Rests; free = []; spare = first_spare d; listing = None; copying = record { met = []; pending = []; copied = [] }; remembered = []; share = fresh_share };
}

-- n domains from d on
abbrev pub opening_views : Config → ℕ → ℕ → List DomainView
opening_views k d zero = []
opening_views k d (suc n) = opening_view k d ∷ opening_views k (d + 1) n

-- the view of the first seat, which stands for all domains
unfoldable pub first_view : Config → View
first_view k = record { config = k; history = []; domains = opening_views k 0 k.domains }

-- the domains behind the first
abbrev pub rest_of : List DomainView → List DomainView
rest_of [] = []
rest_of (x ∷ xs) = xs

-- the numbers of no heap
abbrev pub no_config : Config
no_config = record { domains = 0; minor_words = 0; pools = 0; finals = 0; ephes = 0 }

-- the domain of a seat that stands for one
abbrev pub domain_in : List DomainView → DomainView
domain_in [] = opening_view no_config 0
domain_in (x ∷ xs) = x

-- what a step of a seat that stands for one domain tells
abbrev pub Tells : (DomainView → ℕ → DomainView → Type 0) → Me (Unit {0}) View → ℕ → Me (Unit {0}) View → Type 0
Tells tells m found m' = tells (domain_in m.0.domains) found (domain_in m'.0.domains) × (m' ≡ (record m.0 { domains = domain_in m'.0.domains ∷ [] }, m.1))

-- the same of a step as the table has them
abbrev pub Plays : (DomainView → ℕ → DomainView → Type 0) → Step (Unit {0}) → Me (Unit {0}) View → ℕ → Me (Unit {0}) View → Type 0
Plays tells _ m found m' = Tells tells m found m'

-- the view of a seat that stands for these domains
abbrev pub several : Config → List Entry → List DomainView → View
several k h xs = record { config = k; history = h; domains = xs }

-- what a step of a seat that stands for several domains tells
abbrev pub TellsAll : (List DomainView → ℕ → List DomainView → Type 0) → Me (Unit {0}) View → ℕ → Me (Unit {0}) View → Type 0
TellsAll tells m found m' = tells m.0.domains found m'.0.domains × (m' ≡ (record m.0 { domains = m'.0.domains }, m.1))

-- the same of a step as the table has them
abbrev pub PlaysAll : (List DomainView → ℕ → List DomainView → Type 0) → Step (Unit {0}) → Me (Unit {0}) View → ℕ → Me (Unit {0}) View → Type 0
PlaysAll tells _ m found m' = TellsAll tells m found m'

-- how a view is cut: the new seat stands for the first domain
abbrev pub cut_left : View → View
cut_left v = record v { domains = rest_of v.domains }

abbrev pub cut_right : View → View
cut_right v = record v { domains = domain_in v.domains ∷ [] }

-- how two views are made one
abbrev pub joined : View → View → View
joined v w = record v { domains = v.domains ++ w.domains }

-- the view of a seat that was joined to another: it stands for no domain
abbrev pub spent : View
spent = record { config = no_config; history = []; domains = [] }
