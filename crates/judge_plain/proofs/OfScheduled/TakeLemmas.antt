-- What a complete collection takes, read off lists of labels.
use Rattle.std.proofs.Common.{◌≡◌, ℕ, ◌+◌, ◌&&◌, not, List, Option, Some, [], ◌∷◌, ◌++◌, map, filter, flat_map, reverse, ap, sym, ◌∙◌, append_assoc}
use Rattle.std.specs.List.{list_all, range_with_len}
use Rattle.std.proofs.lemmas.List.Elements.{filter-append}
use Rattle.std.proofs.lemmas.List.Concat.{flat_map-append}
use Rattle.model_core.specs.declared.label.Label.{Label}
use Rattle.model_core.specs.declared.graph.Value.{Value}
use Rattle.model_core.specs.declared.graph.Node.TheVariants.{Ephe}
use Rattle.model_core.specs.declared.state.State.{State}
use Rattle.model_core.specs.declared.entry.Entry.{Entry}
use Rattle.model_core.specs.declared.entry.Entry.TheVariants.{Last}
use Rattle.model_core.specs.Domains.{domain_at, queues, reach, roots, settled_reach, shared_label}
use Rattle.model_core.specs.Entries.{ephe_holds, is_some_and}
use Rattle.model_core.specs.Graph.{has_label, node_at}
use Rattle.model_core.specs.Reach.{reachable}
use Rattle.model_core.specs.WellFormed.{IsSound}
use Rattle.model_traces.specs.Schedules.Scheduled.{all_lasts, all_queued, all_wiped, dead_finals, gone_keys, gone_lasts, places_where, queuing, wiping}
use Rattle.judge_plain.specs.Scheduled.Wipes.{label_at, wipes_of}
use Rattle.judge_plain.proofs.OfScheduled.ListLemmas.{flat_map_more, map_more}

-- right behind the cut, what may be queued of `finalise` is not reached now
pub dead_is : (s : State) (d : ℕ) (live : List Label) → s.cut ≡ queues s → live ≡ reach s
    → places_where (λ f. not (has_label live f.label)) (domain_at s d).finals ≡ dead_finals s d
dead_is s d live cut is = ap (λ v. places_where (λ f. not (has_label v f.label)) (domain_at s d).finals) (is ∙ ap (λ q. reachable s.graph (roots s q)) (sym cut))

pub gone_is : (s : State) (d : ℕ) (settled : List Label) → settled ≡ settled_reach s (queues s)
    → places_where (λ f. not (has_label settled f.label) && list_all (λ x. not (ephe_holds f.label (node_at s.graph x))) settled) (domain_at s d).lasts ≡ gone_lasts s d
gone_is s d settled is = ap (λ v. places_where (λ f. not (has_label v f.label) && list_all (λ x. not (ephe_holds f.label (node_at s.graph x))) v) (domain_at s d).lasts) is

pub keys_are : (s : State) (settled : List Label) (keys : List (Option Label)) (datum : Value) → settled ≡ settled_reach s (queues s)
    → places_where (is_some_and (λ l. not (has_label settled l))) keys ≡ gone_keys s (Some (Ephe keys datum))
keys_are s settled keys datum is = ap (λ v. places_where (is_some_and (λ l. not (has_label v l))) keys) is

-- over all domains
pub all_queued_is : (s : State) → IsSound s → flat_map (λ d. queuing d (dead_finals s d)) (range_with_len 0 s.sizes.domains) ≡ all_queued s
all_queued_is s sound = ap (λ n. flat_map (λ d. queuing d (dead_finals s d)) (range_with_len 0 n)) (sym sound.shaped.domain_count)

pub all_lasts_is : (s : State) → IsSound s → flat_map (λ d. map (λ p. Last d p) (reverse (gone_lasts s d))) (range_with_len 0 s.sizes.domains) ≡ all_lasts s
all_lasts_is s sound = ap (λ n. flat_map (λ d. map (λ p. Last d p) (reverse (gone_lasts s d))) (range_with_len 0 n)) (sym sound.shaped.domain_count)

-- what is emptied of some blocks and of more
wipes_append : (s : State) (xs ys : List Label) → wipes_of s (xs ++ ys) ≡ wipes_of s xs ++ wipes_of s ys
wipes_append s xs ys =
    ap (flat_map (λ l. wiping l (gone_keys s (node_at s.graph l)))) (filter-append (has_label (reach s)) xs ys)
    ∙ flat_map-append (λ l. wiping l (gone_keys s (node_at s.graph l))) (filter (has_label (reach s)) xs) (filter (has_label (reach s)) ys)

pub wipes_more : (s : State) (old : List Entry) (d n : ℕ)
    → (old ++ wipes_of s (map (label_at d) (range_with_len 1 n))) ++ wipes_of s (label_at d (n + 1) ∷ []) ≡ old ++ wipes_of s (map (label_at d) (range_with_len 1 (n + 1)))
wipes_more s old d n =
    append_assoc old (wipes_of s (map (label_at d) (range_with_len 1 n))) (wipes_of s (label_at d (n + 1) ∷ []))
    ∙ ap (λ t. old ++ t) (sym (ap (wipes_of s) (map_more (label_at d) n) ∙ wipes_append s (map (label_at d) (range_with_len 1 n)) (label_at d (n + 1) ∷ [])))

-- the labels of the first domains
abbrev pub labels_upto : State → ℕ → List Label
labels_upto s n = shared_label ∷ flat_map (λ d. map (label_at d) (range_with_len 1 (domain_at s d).serial)) (range_with_len 0 n)

pub domain_more : (s : State) (d : ℕ) → wipes_of s (labels_upto s d) ++ wipes_of s (map (label_at d) (range_with_len 1 (domain_at s d).serial)) ≡ wipes_of s (labels_upto s (d + 1))
domain_more s d =
    sym (wipes_append s (labels_upto s d) (map (label_at d) (range_with_len 1 (domain_at s d).serial)))
    ∙ ap (λ t. wipes_of s (shared_label ∷ t)) (sym (flat_map_more (λ d. map (label_at d) (range_with_len 1 (domain_at s d).serial)) d))

pub all_wiped_is : (s : State) → IsSound s → wipes_of s (labels_upto s s.sizes.domains) ≡ all_wiped s
all_wiped_is s sound = ap (λ n. wipes_of s (labels_upto s n)) (sym sound.shaped.domain_count)
