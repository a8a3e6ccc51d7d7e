-- What is reached at the seal of a collection is what is reached at its end, and all of it names only what is reached.
use Rattle.std.proofs.Common.{◌≡◌, ℕ, zero, suc, Bool, true, false, cond, ◌&&◌, IsTrue, List, [], ◌∷◌, ◌++◌, map, filter_map, option_to_list, refl, sym, ap, ◌∙◌, subst, None, Some}
use Rattle.std.specs.Prelude.{Option, flat_map, slice_index_or}
use Rattle.std.specs.List.{list_all, list_any}
use Rattle.std.proofs.lemmas.Bool.{and_parts}
use Rattle.model_core.specs.declared.label.Label.{Label}
use Rattle.model_core.specs.declared.entry.Entry.{Entry}
use Rattle.model_core.specs.declared.entry.Entry.TheVariants.{Wipe, Last}
use Rattle.model_core.specs.declared.graph.Node.{Node}
use Rattle.model_core.specs.declared.graph.Node.TheVariants.{Plain, Raw, Ephe}
use Rattle.model_core.specs.declared.graph.Value.{Value}
use Rattle.model_core.specs.declared.graph.Value.TheVariants.{Int, Block, Nothing}
use Rattle.model_core.specs.declared.state.DomainState.{DomainState}
use Rattle.model_core.specs.declared.state.Sizes.{Sizes}
use Rattle.model_core.specs.declared.state.State.{State}
use Rattle.model_core.specs.Graph.{has_label, label_of, node_at, same_label}
use Rattle.model_core.specs.Domains.{domain_at, no_domain, opening, pending_label, queues, reach, roots, settled_roots, waiting}
use Rattle.model_core.specs.Reach.{edges_of, key_holds, reachable}
use Rattle.model_core.specs.Commands.{is_int_value}
use Rattle.model_core.specs.Entries.{CollectedAllowed, ephe_holds, has_live_keys, is_label, keys_at, next, with_last_queued}
use Rattle.model_core.specs.History.{LegalFrom, state_after}
use Rattle.model_core.specs.WellFormed.{names_of}
use Rattle.model_core.proofs.Collections.CollectionLemmas.{all_has}
use Rattle.model_core.proofs.Collections.CutLemmas.{part_same, roots_same}
use Rattle.model_core.proofs.Collections.WipeLemmas.{wipe_keeps_reachable}
use Rattle.model_core.proofs.Graphs.GraphLemmas.{same_label-true, same_label_refl}
use Rattle.model_core.proofs.Histories.FieldLemmas.{fields_law}
use Rattle.model_core.proofs.Histories.WellFormedLemmas.{reach_after}
use Rattle.model_core.proofs.Reach.ReachLemmas.{has-append_left, or_left, or_right}
use Rattle.std.specs.Option.{option_map_or}
use Rattle.model_traces.specs.Schedules.Sameness.{AllAlive, is_taking}
use Rattle.model_traces.proofs.OfSchedules.Alive.{all_both, all_first, all_second}
use Rattle.model_traces.proofs.OfSchedules.Holding.{in_finals, in_registers}
use Rattle.model_traces.proofs.OfSchedules.Keeping.{wiped_domains}

-- a list all of whose labels pass
pub all_from : (alive : Label → Bool) (ls : List Label) → ((l : Label) → IsTrue (has_label ls l) → IsTrue (alive l)) → AllAlive alive ls
all_from alive [] each = tt
all_from alive (l ∷ ls) each = (each l (or_left (same_label l l) (has_label ls l) (same_label_refl l)), all_from alive ls (λ m h. each m (or_right (same_label l m) (has_label ls m) h)))

-- the settled roots, by the domains
abbrev settled_by : List DomainState → List Label
settled_by xs = (flat_map in_registers xs ++ flat_map (filter_map pending_label) (map (λ x. x.queue) xs)) ++ flat_map in_finals xs

wiped_settled : (t : State) (l : Label) (places : List ℕ) → settled_roots (next t (Wipe l places)) (queues (next t (Wipe l places))) ≡ settled_roots t (queues t)
wiped_settled t l places = ap settled_by (wiped_domains t l places (node_at t.graph l) (keys_at places (node_at t.graph l)))

last_settled : (t : State) (e place : ℕ) → settled_roots (next t (Last e place)) (queues (next t (Last e place))) ≡ settled_roots t (queues t)
last_settled t e place =
    ap (λ a. a ++ waiting (next t (Last e place))) (roots_same t e place) ∙ ap (λ b. roots t (queues t) ++ b) (part_same in_finals t.domains e (with_last_queued (domain_at t e) place) refl)

-- what these roots reach stays, behind the seal
pub taken_reach : (rs : List Label) (t : State) (h : List Entry) → list_all is_taking h ≡ true → LegalFrom t h → ((x : Label) → IsTrue (has_label rs x) → IsTrue (has_label (settled_roots t (queues t)) x))
    → reachable (state_after t h).graph rs ≡ reachable t.graph rs
taken_reach rs t [] all legal sub = refl
taken_reach rs t (Wipe l places ∷ h) all legal sub =
    taken_reach rs (next t (Wipe l places)) h all legal.1 (λ x a. subst (λ ls. IsTrue (has_label ls x)) (sym (wiped_settled t l places)) (sub x a)) ∙ wipe_keeps_reachable t l places legal.0 rs sub
taken_reach rs t (Last e place ∷ h) all legal sub =
    taken_reach rs (next t (Last e place)) h all legal.1 (λ x a. subst (λ ls. IsTrue (has_label ls x)) (sym (last_settled t e place)) (sub x a))
taken_reach rs t (e ∷ h) all legal sub = cc

-- so do the roots
pub taken_settled : (t : State) (h : List Entry) → list_all is_taking h ≡ true → settled_roots (state_after t h) (queues (state_after t h)) ≡ settled_roots t (queues t)
taken_settled t [] all = refl
taken_settled t (Wipe l places ∷ h) all = taken_settled (next t (Wipe l places)) h all ∙ wiped_settled t l places
taken_settled t (Last e place ∷ h) all = taken_settled (next t (Last e place)) h all ∙ last_settled t e place
taken_settled t (e ∷ h) all = cc

abbrev rooted_by : List DomainState → List Label
rooted_by xs = flat_map in_registers xs ++ flat_map (filter_map pending_label) (map (λ x. x.queue) xs)

pub taken_roots : (t : State) (h : List Entry) → list_all is_taking h ≡ true → roots (state_after t h) (queues (state_after t h)) ≡ roots t (queues t)
taken_roots t [] all = refl
taken_roots t (Wipe l places ∷ h) all = taken_roots (next t (Wipe l places)) h all ∙ ap rooted_by (wiped_domains t l places (node_at t.graph l) (keys_at places (node_at t.graph l)))
taken_roots t (Last e place ∷ h) all = taken_roots (next t (Last e place)) h all ∙ roots_same t e place
taken_roots t (e ∷ h) all = cc

pub taken_registers : (t : State) (h : List Entry) → list_all is_taking h ≡ true → flat_map in_registers (state_after t h).domains ≡ flat_map in_registers t.domains
taken_registers t [] all = refl
taken_registers t (Wipe l places ∷ h) all = taken_registers (next t (Wipe l places)) h all ∙ ap (flat_map in_registers) (wiped_domains t l places (node_at t.graph l) (keys_at places (node_at t.graph l)))
taken_registers t (Last e place ∷ h) all = taken_registers (next t (Last e place)) h all ∙ part_same in_registers t.domains e (with_last_queued (domain_at t e) place) refl
taken_registers t (e ∷ h) all = cc

pub taken_reached : (t : State) (h : List Entry) → list_all is_taking h ≡ true → LegalFrom t h → reach (state_after t h) ≡ reach t
taken_reached t h all legal =
    ap (reachable (state_after t h).graph) (taken_roots t h all) ∙ taken_reach (roots t (queues t)) t h all legal (has-append_left (roots t (queues t)) (waiting t))

-- integers name nothing
ints_name : (alive : Label → Bool) (fields : List Value) → list_all is_int_value fields ≡ true → AllAlive alive (filter_map label_of fields)
ints_name alive [] e = tt
ints_name alive (Int z ∷ fields) e = ints_name alive fields e
ints_name alive (Block l ∷ fields) e = cc
ints_name alive (Nothing ∷ fields) e = cc

live_keys : (alive : Label → Bool) (keys : List (Option Label)) → list_all (key_holds alive) keys ≡ true → AllAlive alive (filter_map (λ k. k) keys)
live_keys alive [] e = tt
live_keys alive (None ∷ keys) e = live_keys alive keys e
live_keys alive (Some l ∷ keys) e = let parts = and_parts (alive l) (list_all (key_holds alive) keys) e in (parts.0, live_keys alive keys parts.1)

-- where a collection is complete what is reached names only what is reached
module _ (z : Sizes) (h : List Entry) (allowed : CollectedAllowed (state_after (opening z) h)) where
  pub reached_names : (l : Label) (n : Node) → IsTrue (has_label (reach (state_after (opening z) h)) l) → node_at (state_after (opening z) h).graph l ≡ Some n → AllAlive (has_label (reach (state_after (opening z) h))) (names_of n)
  reached_names l (Plain tag fields) a at =
      let s : State = state_after (opening z) h in
      all_from (has_label (reach s)) (filter_map label_of fields)
      (λ m b. (reach_after z h).closed l m a (subst (λ (o : Option Node). IsTrue (has_label (option_map_or (edges_of (has_label (reach s))) o []) m)) (sym at) b))
  reached_names l (Raw tag fields) a at = ints_name (has_label (reach (state_after (opening z) h))) fields (fields_law z h l (Raw tag fields) at)
  reached_names l (Ephe keys datum) a at =
      let s : State = state_after (opening z) h in
      let alive : Label → Bool = has_label (reach s) in
      let live : list_all (key_holds alive) keys ≡ true = sym (ap (has_live_keys s) at) ∙ all_has (λ x. has_live_keys s (node_at s.graph x)) (reach s) allowed.keys l a in
      let edges : edges_of alive (Ephe keys datum) ≡ option_to_list (label_of datum) = ap (λ b. cond b (option_to_list (label_of datum)) []) live in
      all_both alive (filter_map (λ k. k) keys) (option_to_list (label_of datum)) (live_keys alive keys live)
      (all_from alive (option_to_list (label_of datum)) (λ m b. (reach_after z h).closed l m a
      (subst (λ (o : Option Node). IsTrue (has_label (option_map_or (edges_of alive) o []) m)) (sym at) (subst (λ ls. IsTrue (has_label ls m)) (sym edges) b))))

-- an ephemeron whose names pass holds no label that doesn't
not_a_key : (alive : Label → Bool) (l : Label) (o : Option Label) → alive l ≡ false → AllAlive alive (option_to_list o) → is_label l o ≡ false
not_a_key alive l None dead a = refl
not_a_key alive l (Some k) dead a = go (same_label k l) refl
  where
    go : (b : Bool) → same_label k l ≡ b → b ≡ false
    go false e = refl
    go true e = let clash : true ≡ false = sym (subst (λ z. alive z ≡ true) (same_label-true k l e) a.0) ∙ dead in cc

no_key : (alive : Label → Bool) (l : Label) (keys : List (Option Label)) → alive l ≡ false → AllAlive alive (filter_map (λ k. k) keys) → list_any (is_label l) keys ≡ false
no_key alive l [] dead a = refl
no_key alive l (None ∷ keys) dead a = no_key alive l keys dead a
no_key alive l (Some k ∷ keys) dead a = rw (not_a_key alive l (Some k) dead (a.0, tt)) (no_key alive l keys dead a.1)

pub holds_none : (alive : Label → Bool) (l : Label) (keys : List (Option Label)) (datum : Value) → alive l ≡ false → AllAlive alive (names_of (Ephe keys datum)) → ephe_holds l (Some (Ephe keys datum)) ≡ false
holds_none alive l keys datum dead a =
    rw (no_key alive l keys dead (all_first alive (filter_map (λ k. k) keys) (option_to_list (label_of datum)) a))
    (not_a_key alive l (label_of datum) dead (all_second alive (filter_map (λ k. k) keys) (option_to_list (label_of datum)) a))

-- what all registrations of the heap pass those of one domain pass
pub waits_at : {A : Type 0} (parts : DomainState → List A) (test : A → Bool) (xs : List DomainState) (d : ℕ) → parts no_domain ≡ [] → list_all test (flat_map parts xs) ≡ true → list_all test (parts (slice_index_or xs d no_domain)) ≡ true
waits_at parts test [] d none all = ap (list_all test) none
waits_at parts test (x ∷ xs) zero none all = (split (parts x) (flat_map parts xs) all).0
  where
    split : (us bs : List _) → list_all test (us ++ bs) ≡ true → (list_all test us ≡ true) × (list_all test bs ≡ true)
    split [] bs e = (refl, e)
    split (a ∷ us) bs e = let p = and_parts (test a) (list_all test (us ++ bs)) e in let q = split us bs p.1 in (ap (λ b. b && list_all test us) p.0 ∙ q.0, q.1)
waits_at parts test (x ∷ xs) (suc d) none all = waits_at parts test xs d none (behind (parts x) (flat_map parts xs) all)
  where
    behind : (us bs : List _) → list_all test (us ++ bs) ≡ true → list_all test bs ≡ true
    behind [] bs e = e
    behind (a ∷ us) bs e = behind us bs (and_parts (test a) (list_all test (us ++ bs)) e).1
