-- The turns of a run keep it under way, and make only what may be made.
use Rattle.std.proofs.Common.{◌≡◌, ℕ, ◌<◌, ◌≤◌, Bool, true, false, List, [], ◌∷◌, fold, length, length-set, replicate, refl, sym, ap, ◌∙◌, subst, arith}
use Rattle.std.proofs.Math.ListN.{get_or-eq_default}
use Rattle.std.specs.Prelude.{Option, Some, None}
use Rattle.model_core.specs.declared.command.Command.{Command}
use Rattle.model_core.specs.declared.entry.Entry.{Entry}
use Rattle.model_core.specs.declared.entry.Entry.TheVariants.{Command as CommandOf, End, Cut, Queue, Seal, Wipe, Last as LastOf, Collected, Done, Ran}
use Rattle.model_core.specs.declared.graph.Node.{Node}
use Rattle.model_core.specs.declared.label.Label.{Label}
use Rattle.model_core.specs.declared.state.Pending.{Pending}
use Rattle.model_core.specs.declared.state.Pending.TheVariants.{Fin, Last}
use Rattle.model_core.specs.declared.state.DomainState.{DomainState}
use Rattle.model_core.specs.declared.state.Sizes.{Sizes}
use Rattle.model_core.specs.declared.state.State.{State}
use Rattle.model_core.specs.Domains.{IsShaped, IsWithinLimits, domain_at, no_domain, opening}
use Rattle.model_core.specs.Entries.{after_run, next, wiped, with_wiped}
use Rattle.model_core.specs.Graph.{node_at}
use Rattle.model_core.specs.History.{LegalFrom, state_after}
use Rattle.model_core.proofs.Histories.ShapeAfterLemmas.{shaped-history}
use Rattle.model_core.proofs.Histories.SizesLemmas.{sizes_after}
use Rattle.model_traces.specs.declared.schedules.items.Item.{Item}
use Rattle.model_traces.specs.declared.schedules.items.Item.TheVariants.{Turn, Collect}
use Rattle.model_traces.specs.Schedules.Scheduled.{Played, all_ended, begun, behind, complete, domains_of, left_of, next_entries, take_item, take_round, take_turn, turn_on, with_entries, with_next}
use Rattle.model_traces.specs.Scheduled.Runs.{IsPlainScript, IsPlayed, Nothing}
use Rattle.model_traces.proofs.OfScheduled.Turns.{collects, entries_played, item_played, makes, run_all, sections_plain, turn_played}
use Rattle.judge_plain.specs.Scheduled.UnderWay.{IsUnderWay}

-- there is a section for each domain
pub domain_count : (p : Played) → IsUnderWay p → length p.state.domains ≡ length p.left
domain_count p way =
    let shaped : IsShaped (state_after (opening way.sizes) p.history) = shaped-history way.sizes p.history way.limits in
    let same : (state_after (opening way.sizes) p.history).sizes ≡ way.sizes = sizes_after (opening way.sizes) p.history in
    ap (λ (s : State). length s.domains) way.played.state ∙ shaped.domain_count ∙ ap (λ (z : Sizes). z.domains) same ∙ sym way.sections

pub inside : (p : Played) (d : ℕ) → IsUnderWay p → d < length p.state.domains → d < length p.left
inside p d way below = let same = domain_count p way in omega (arith, same, below)

pub few_domains : (p : Played) → IsUnderWay p → length p.state.domains ≤ 8
few_domains p way = let same = domain_count p way in omega (arith, same, way.sections, way.limits.domains)

-- a run begins under way
pub begun_way : (z : Sizes) (script : List (List Command)) (p : Played) → IsWithinLimits z → length script ≡ z.domains → IsPlainScript script → p ≡ begun z script → IsUnderWay p
begun_way z script p limits sections plain is = rw is record {
  sizes = z;
  limits = limits;
  sections = sections;
  played = record { legal = tt; state = refl; mode = refl; plain = sections_plain z script plain };
}

-- turns keep a run under way
turn_sections : (p : Played) (d : ℕ) (b : Bool) → length (turn_on p d b).left ≡ length p.left
turn_sections p d true = refl
turn_sections p d false = length-set p.left d (behind (left_of p d))

pub turn_way : (p : Played) (d : ℕ) → IsUnderWay p → IsUnderWay (take_turn p d)
turn_way p d way = record {
  sizes = way.sizes;
  limits = way.limits;
  sections = turn_sections p d (domain_at p.state d).ended ∙ way.sections;
  played = turn_played way.sizes p d way.played;
}

pub collect_way : (p : Played) (b : Bool) → all_ended p.state ≡ b → IsUnderWay p → IsUnderWay (take_item p Collect)
collect_way p true is way = rw is way
collect_way p false is way = record {
  sizes = way.sizes;
  limits = way.limits;
  sections = rw is way.sections;
  played = item_played way.sizes p Collect way.played;
}

pub item_way : (p : Played) (i : Item) → IsUnderWay p → IsUnderWay (take_item p i)
item_way p (Turn d) way = turn_way p d way
item_way p Collect way = collect_way p (all_ended p.state) refl way

pub items_way : (items : List Item) (p q : Played) → IsUnderWay p → q ≡ fold take_item p items → IsUnderWay q
items_way [] p q way is = rw is way
items_way (i ∷ items) p q way is = items_way items (take_item p i) q (item_way p i way) is

pub turns_way : (ds : List ℕ) (p : Played) → IsUnderWay p → IsUnderWay (fold take_turn p ds)
turns_way [] p way = way
turns_way (d ∷ ds) p way = turns_way ds (take_turn p d) (turn_way p d way)

pub round_way : (p : Played) → IsUnderWay p → IsUnderWay (take_round p)
round_way p way = turns_way (domains_of p.state) p way

-- a complete collection that no command asks for may be made
pub collect_legal : (p : Played) → IsUnderWay p → LegalFrom p.state (complete p.state [])
collect_legal p way = collects way.sizes p [] way.played Nothing

-- a turn of a domain that isn't there, or has ended, makes nothing
pub turn_past : (p : Played) (d : ℕ) → length p.state.domains ≤ d → p ≡ take_turn p d
turn_past p d past = ap (turn_on p d) (sym (ap (λ (x : DomainState). x.ended) (get_or-eq_default p.state.domains no_domain past)))

pub turn_ended : (p : Played) (d : ℕ) → (domain_at p.state d).ended ≡ true → p ≡ take_turn p d
turn_ended p d ended = ap (turn_on p d) (sym ended)

-- else it runs its queue, and then its next command or its end
abbrev pub runs : Played → ℕ → List Entry
runs p d = replicate (length (domain_at p.state d).queue) (Ran d)

pub turn_running : (p : Played) (d : ℕ) → (domain_at p.state d).ended ≡ false → with_next (with_entries p (runs p d)) d ≡ take_turn p d
turn_running p d running = ap (turn_on p d) (sym running)

pub runs_legal : (p : Played) (d : ℕ) → IsUnderWay p → (domain_at p.state d).ended ≡ false → LegalFrom p.state (runs p d)
runs_legal p d way running = (run_all (domain_at p.state d).queue p.state d refl way.played.mode running).0

pub next_legal : (p q : Played) (d : ℕ) → IsUnderWay p → (domain_at p.state d).ended ≡ false → q ≡ with_entries p (runs p d) → LegalFrom q.state (next_entries q.state d (left_of q d))
next_legal p q d way running is =
    let ran = run_all (domain_at p.state d).queue p.state d refl way.played.mode running in
    let r : Played = with_entries p (runs p d) in
    let played : IsPlayed way.sizes r = entries_played way.sizes p (runs p d) way.played ran.0 ran.1.mode in
    subst (λ (t : Played). LegalFrom t.state (next_entries t.state d (left_of t d))) (sym is) (makes way.sizes r d (left_of r d) played ran.1 (played.plain d)).0
