-- Lasts, the rotation of the colours, and the entries that end a collection.
use Rattle.std.proofs.Common.{get_or, ◌≡◌, ◌⊎◌, inl, inr, ⊎_elim, ℕ, suc, ◌<◌, arith, Bool, true, false, not, IsTrue, List, [], ◌∷◌, ◌++◌, map, flat_map, filter_map, option_to_list, length, set, slice_get, Option, Some, None, refl, ap, ap₂, sym, ◌∙◌, subst}
use Rattle.std.specs.List.{cons_option, list_all, list_any}
use Rattle.model_core.specs.Domains.{no_domain, domain_at, pending_label, queues, roots, reach, waiting, is_reachable_with}
use Rattle.model_core.specs.declared.label.Label.{Label}
use Rattle.model_core.specs.declared.command.Command.TheVariants.{FullMajor}
use Rattle.model_core.specs.declared.entry.Entry.TheVariants.{Command as CommandOf, Last as LastOf, Collected}
use Rattle.model_core.specs.declared.graph.Value.{Value}
use Rattle.model_core.specs.declared.graph.Value.TheVariants.{Int, Block, Nothing}
use Rattle.model_core.specs.declared.graph.Node.{Node}
use Rattle.model_core.specs.declared.graph.Node.TheVariants.{Plain, Raw, Ephe}
use Rattle.model_core.specs.declared.state.DomainState.{DomainState}
use Rattle.model_core.specs.declared.state.LastFinaliser.{LastFinaliser}
use Rattle.model_core.specs.declared.state.Mode.TheVariants.{Sealed}
use Rattle.model_core.specs.declared.state.State.{State}
use Rattle.model_core.specs.Graph.{Graph, same_label, has_label, label_of, node_at}
use Rattle.model_core.specs.Reach.{reachable, is_reachable, HoldsRoots, IsClosedUnder}
use Rattle.model_core.specs.Entries.{with_last_queued, at_places, freshened, full_keys, ephe_holds, is_label, keys_are_live, has_live_keys, is_sealed, LastAllowed, CollectedAllowed, DoneAllowed, next}
use Rattle.model_core.proofs.Collections.CutLemmas.{pending_labels, part_same, roots_same}
use Rattle.model_core.proofs.Collections.CollectedLemmas.{reach_fresh}
use Rattle.model_core.proofs.Collections.MarkLemmas.{all_labels, last_unmarked, done_marked}
use Rattle.model_core.proofs.Graphs.ListLemmas.{set_cases_inside, flat_map-map}
use Rattle.model_core.proofs.Reach.ReachLemmas.{keys_all, not_true, or_cases, or_left, or_right, and_both, has-append_cases, has-append_left, has-append_right, reachable_least}
use Rattle.model_core.proofs.Graphs.GraphLemmas.{same_label-true, same_label_refl}
use Rattle.model_cycle.specs.Taking.{LeftLaw, last_labels, InClean, InLasts, IsLeft, LeadsToMarked}
use Rattle.model_cycle.specs.Marks.{fields_of, data_of, KeysMarked, IsWhole}
use Rattle.model_cycle.specs.Shares.{Layout, Shares, at_domain, AllArrived}
use Rattle.model_cycle.specs.Queueing.{WaitingReached}
use Rattle.model_cycle.proofs.DomainParts.{registers_of, part_all, part_has}
use Rattle.model_cycle.proofs.LookingBack.{LooksBack, looks_start, looks_end, place_below, looks_keeps, looks_takes}
use Rattle.model_cycle.proofs.Tracing.{marked_reach, held_fields, held_data, holds_more}
use Rattle.model_cycle.proofs.Cleaning.{part_mapped, roots_mapped_now, clean_end}

-- what an ephemeron holds is one of its keys or its data
key_names : (l : Label) (keys : List (Option Label)) → IsTrue (list_any (is_label l) keys) → IsTrue (has_label (filter_map (λ k. k) keys) l)
key_names l [] h = cc
key_names l (None ∷ keys) h = key_names l keys h
key_names l (Some k ∷ keys) h = ⊎_elim
    (λ here. or_left (same_label k l) (has_label (filter_map (λ k. k) keys) l) here)
    (λ later. or_right (same_label k l) (has_label (filter_map (λ k. k) keys) l) (key_names l keys later))
    (or_cases (same_label k l) (list_any (is_label l) keys) h)

datum_names : (l : Label) (datum : Value) → IsTrue (is_label l (label_of datum)) → IsTrue (has_label (option_to_list (label_of datum)) l)
datum_names l (Int z) h = cc
datum_names l (Block k) h = or_left (same_label k l) false h
datum_names l Nothing h = cc

ephe_names : (l : Label) (o : Option Node) → IsTrue (ephe_holds l o) → IsTrue (has_label (full_keys o) l) ⊎ IsTrue (has_label (data_of o) l)
ephe_names l None h = cc
ephe_names l (Some (Plain tag fields)) h = cc
ephe_names l (Some (Raw tag fields)) h = cc
ephe_names l (Some (Ephe keys datum)) h = ⊎_elim
    (λ a. inl (key_names l keys a))
    (λ b. inr (datum_names l datum b))
    (or_cases (list_any (is_label l) keys) (is_label l (label_of datum)) h)

-- all that a marked block refers to is marked, where the marked blocks are closed and no key of theirs is unmarked
module _ (g : Graph) (marked : Label → Bool) (closed : IsClosedUnder g marked) (keys : (l : Label) → IsTrue (marked l) → KeysMarked g marked l) where
  pub fields_left : (l : Label) → IsTrue (marked l) → HoldsRoots (fields_of (node_at g l)) marked
  fields_left l is = held_fields marked marked (node_at g l) (λ x h. closed l x is h)

  pub data_left : (l : Label) → IsTrue (marked l) → HoldsRoots (data_of (node_at g l)) marked
  data_left l is = held_data marked marked (node_at g l) (λ x h. closed l x is h) (keys l is)

  pub let_go : (l x : Label) → IsTrue (not (marked l)) → IsTrue (marked x) → IsTrue (not (ephe_holds l (node_at g x)))
  let_go l x un is = go (ephe_holds l (node_at g x)) (ephe_names l (node_at g x))
    where
      go : (b : Bool) → (IsTrue b → IsTrue (has_label (full_keys (node_at g x)) l) ⊎ IsTrue (has_label (data_of (node_at g x)) l)) → IsTrue (not b)
      go true held = absurd (not_true (marked l) un (⊎_elim (λ a. keys x is l a) (λ b. data_left x is l b) (held refl)))
      go false held = refl

-- Lasts begins where Clean has ended
pub lasts_start : (n : ℕ) (y : Layout) (s : State) (marked : Label → Bool) (w : Shares) → InClean n y s marked w → AllArrived n w
    → InLasts s marked (λ d. length (domain_at s d).lasts)
lasts_start n y s marked w i arrived = record {
  mode = i.mode;
  marks = i.marks;
  taken = i.taken;
  keys = clean_end n y s marked w i arrived;
  below = start.below;
  kept = start.kept;
}
  where
    start : LooksBack (λ (f : LastFinaliser). f.label) marked (λ d. (domain_at s d).lasts) (λ d. (domain_at s d).low) (λ d. length (domain_at s d).lasts)
    start = looks_start (λ (f : LastFinaliser). f.label) marked _ _ _ (λ d. let low = i.low d in omega (arith, low)) (λ d. omega arith)

one_last : (o : Option LastFinaliser) (f : LastFinaliser) → o ≡ Some f → (l : Label) → IsTrue (has_label (map (λ g. g.label) (cons_option o [])) l) → f.label ≡ l
one_last None f e l h = cc
one_last (Some g) f e l h = ⊎_elim
    (λ here. let same : g ≡ f = cc in ap (λ (z : LastFinaliser). z.label) (sym same) ∙ same_label-true g.label l here)
    (λ no. cc)
    (or_cases (same_label g.label l) false h)

module _ (s : State) (marked : Label → Bool) (left : ℕ → ℕ) (i : InLasts s marked left) where
  abbrev looks : LooksBack (λ (f : LastFinaliser). f.label) marked (λ d. (domain_at s d).lasts) (λ d. (domain_at s d).low) left
  looks = record { below = i.below; kept = i.kept }

  module _ (d p : ℕ) (f : LastFinaliser) (next_place : left d ≡ suc p) (at : slice_get (domain_at s d).lasts p ≡ Some f) where
    -- the domain looks at its next registration: its value is marked
    pub lasts_keeps : IsTrue (marked f.label) → InLasts s marked (at_domain left d p)
    lasts_keeps is =
        let on = looks_keeps (λ (g : LastFinaliser). g.label) marked _ _ left looks d p next_place f at is in
        record { mode = i.mode; marks = i.marks; taken = i.taken; keys = i.keys; below = on.below; kept = on.kept }

    -- or it is unmarked: the entry Last is allowed
    module _ (un : IsTrue (not (marked f.label))) where
      pub last_allowed : LastAllowed s d p
      last_allowed =
          let lt : p < (domain_at s d).low = place_below (λ (g : LastFinaliser). g.label) marked _ _ left looks d p next_place in
          last_unmarked s marked d p f i.mode lt at i.marks un (λ x is. let_go s.graph marked i.marks.closed i.keys f.label x un is)

      module _ (inside : d < length s.domains) where
        abbrev queued_domain : DomainState
        queued_domain = with_last_queued (domain_at s d) p

        waiting_same : waiting (next s (LastOf d p)) ≡ waiting s
        waiting_same = part_same (λ x. map (λ f. f.label) x.finals) s.domains d queued_domain refl

        pub lasts_queues : InLasts (next s (LastOf d p)) marked (at_domain left d p)
        lasts_queues = record {
          mode = i.mode;
          marks = record {
            roots = subst (λ z. HoldsRoots z marked) (sym (roots_same s d p)) i.marks.roots;
            waiting = subst (λ z. HoldsRoots z marked) (sym waiting_same) i.marks.waiting;
            closed = i.marks.closed;
          };
          taken = λ l h. ⊎_elim
              (λ old. i.taken l old)
              (λ new. subst (λ z. IsTrue (not (marked z))) (one_last (slice_get (domain_at s d).lasts p) f at l new) un)
              (has-append_cases s.taken (map (λ f. f.label) (at_places (p ∷ []) (domain_at s d).lasts)) l h);
          keys = i.keys;
          below = on.below;
          kept = on.kept;
        }
          where
            on : LooksBack (λ (g : LastFinaliser). g.label) marked (λ k. (get_or (set s.domains d queued_domain) k no_domain).lasts) (λ k. (get_or (set s.domains d queued_domain) k no_domain).low) (at_domain left d p)
            on = looks_takes (λ (g : LastFinaliser). g.label) marked _ _ left looks d p next_place _ _ (λ k. ⊎_elim
                (λ t. inl (t.0, ap (λ (x : DomainState). x.lasts) t.1, ap (λ (x : DomainState). x.low) t.1))
                (λ t. inr (t.0, ap (λ (x : DomainState). x.lasts) t.1, ap (λ (x : DomainState). x.low) t.1))
                (set_cases_inside s.domains d queued_domain no_domain k inside))

        -- a whole cycle stays so
        pub last_whole : IsWhole s.graph (roots s (queues s)) marked → IsWhole s.graph (roots (next s (LastOf d p)) (queues (next s (LastOf d p)))) marked
        last_whole whole = subst (λ z. IsWhole s.graph z marked) (sym (roots_same s d p)) whole

        pub last_waiting : WaitingReached s → WaitingReached (next s (LastOf d p))
        last_waiting reached l h = subst (λ z. IsTrue (is_reachable s.graph (z ++ flat_map (filter_map pending_label) s.cut) l))
            (sym (part_same (λ x. filter_map label_of x.registers) s.domains d queued_domain refl))
            (reached l (subst (λ z. IsTrue (has_label z l)) waiting_same h))

  -- where each domain has looked at all its registrations
  pub lasts_end : ((d : ℕ) → d < length s.domains → left d ≡ 0) → IsLeft s marked
  lasts_end all = record {
    marks = i.marks;
    taken = i.taken;
    keys = i.keys;
    lasts = part_all (λ x. map (λ f. f.label) x.lasts) s.domains marked
        (λ d lt. looks_end (λ (f : LastFinaliser). f.label) marked _ _ left looks d (all d lt));
  }

-- the rotation: each reference leads to a marked block
pub leads_to_marked : (s : State) (marked : Label → Bool) → IsLeft s marked → LeadsToMarked s marked
leads_to_marked s marked i = record {
  registers = λ d l h. i.marks.roots l (has-append_left (registers_of s) (pending_labels (queues s)) l (part_has (λ x. filter_map label_of x.registers) s.domains d refl l h));
  queue = λ d l h. i.marks.roots l (has-append_right (registers_of s) (pending_labels (queues s)) l
      (subst (λ z. IsTrue (has_label z l)) (sym (flat_map-map (filter_map pending_label) (λ (x : DomainState). x.queue) s.domains))
      (part_has (λ x. filter_map pending_label x.queue) s.domains d refl l h)));
  finals = λ d l h. i.marks.waiting l (part_has (λ x. map (λ f. f.label) x.finals) s.domains d refl l h);
  lasts = λ d l h. i.lasts l (part_has (λ x. map (λ f. f.label) x.lasts) s.domains d refl l h);
  fields = fields_left s.graph marked i.marks.closed i.keys;
  keys = i.keys;
  datum = data_left s.graph marked i.marks.closed i.keys;
}

-- the entry Done
pub done_left : (s : State) (marked : Label → Bool) → IsTrue (is_sealed s.mode) → IsLeft s marked → DoneAllowed s
done_left s marked mode i = done_marked s marked mode i.marks i.lasts (λ x k is h. i.keys x is k h) i.taken

-- the entry Collected, in a whole cycle
all_lasts : (test : Label → Bool) (xs : List LastFinaliser) → HoldsRoots (map (λ f. f.label) xs) test → IsTrue (list_all (λ f. test f.label) xs)
all_lasts test [] each = refl
all_lasts test (x ∷ xs) each = and_both (test x.label) (list_all (λ f. test f.label) xs)
    (each x.label (or_left (same_label x.label x.label) (has_label (map (λ f. f.label) xs) x.label) (same_label_refl x.label)))
    (all_lasts test xs (λ l h. each l (or_right (same_label x.label l) (has_label (map (λ f. f.label) xs) l) h)))

domains_lasts : (test : Label → Bool) (xs : List DomainState) → HoldsRoots (flat_map (λ x. map (λ f. f.label) x.lasts) xs) test
    → IsTrue (list_all (λ x. list_all (λ f. test f.label) x.lasts) xs)
domains_lasts test [] each = refl
domains_lasts test (x ∷ xs) each = and_both (list_all (λ f. test f.label) x.lasts) (list_all (λ y. list_all (λ f. test f.label) y.lasts) xs)
    (all_lasts test x.lasts (λ l h. each l (has-append_left (map (λ f. f.label) x.lasts) (flat_map (λ y. map (λ f. f.label) y.lasts) xs) l h)))
    (domains_lasts test xs (λ l h. each l (has-append_right (map (λ f. f.label) x.lasts) (flat_map (λ y. map (λ f. f.label) y.lasts) xs) l h)))

live_keys : (alive : Label → Bool) (o : Option Node) → HoldsRoots (full_keys o) alive → IsTrue (keys_are_live alive o)
live_keys alive None holds = refl
live_keys alive (Some (Plain tag fields)) holds = refl
live_keys alive (Some (Raw tag fields)) holds = refl
live_keys alive (Some (Ephe keys datum)) holds = keys_all alive keys holds

pub collected_left : (s : State) (marked : Label → Bool) → s.mode ≡ Sealed → IsLeft s marked → IsWhole s.graph (roots s (queues s)) marked → WaitingReached s → CollectedAllowed s
collected_left s marked mode i whole reached = record {
  mode = mode;
  keys = all_labels (λ l. has_live_keys s (node_at s.graph l)) (reach s) (λ l h. live_keys (has_label (reach s)) (node_at s.graph l)
      (holds_more marked (has_label (reach s)) whole (full_keys (node_at s.graph l))
      (i.keys l (reachable_least s.graph marked i.marks.closed (roots s (queues s)) i.marks.roots l h))));
  finals = all_labels (is_reachable_with s s.cut) (waiting s) reached;
  lasts = domains_lasts (has_label (reach s)) s.domains (holds_more marked (has_label (reach s)) whole (last_labels s) i.lasts);
}

-- Collected, and a `full_major` after it, leave what is left
pub left_collected : (s : State) (marked : Label → Bool) → IsLeft s marked → IsLeft (next s Collected) marked
left_collected s marked i = record {
  marks = record {
    roots = subst (λ z. HoldsRoots z marked) (sym (roots_mapped_now s freshened (λ x. refl) (λ x. refl))) i.marks.roots;
    waiting = subst (λ z. HoldsRoots z marked) (sym (part_mapped (λ x. map (λ f. f.label) x.finals) freshened (λ x. refl) s.domains)) i.marks.waiting;
    closed = i.marks.closed;
  };
  taken = i.taken;
  keys = i.keys;
  lasts = subst (λ z. HoldsRoots z marked) (sym (part_mapped (λ x. map (λ f. f.label) x.lasts) freshened (λ x. refl) s.domains)) i.lasts;
}

abbrev pub asked : State → ℕ → DomainState
asked s d = record (domain_at s d) { fresh = false; due = length (domain_at s d).queue }

pub asked_roots : (s : State) (d : ℕ) → roots (next s (CommandOf d FullMajor false)) (queues (next s (CommandOf d FullMajor false))) ≡ roots s (queues s)
asked_roots s d = ap₂ (λ a b. a ++ b) (part_same (λ x. filter_map label_of x.registers) s.domains d (asked s d) refl)
    (flat_map-map (filter_map pending_label) (λ (x : DomainState). x.queue) (set s.domains d (asked s d))
    ∙ part_same (λ x. filter_map pending_label x.queue) s.domains d (asked s d) refl
    ∙ sym (flat_map-map (filter_map pending_label) (λ (x : DomainState). x.queue) s.domains))

pub left_full_major : (s : State) (marked : Label → Bool) (d : ℕ) → IsLeft s marked → IsLeft (next s (CommandOf d FullMajor false)) marked
left_full_major s marked d i = record {
  marks = record {
    roots = subst (λ z. HoldsRoots z marked) (sym (asked_roots s d)) i.marks.roots;
    waiting = subst (λ z. HoldsRoots z marked) (sym (part_same (λ x. map (λ f. f.label) x.finals) s.domains d (asked s d) refl)) i.marks.waiting;
    closed = i.marks.closed;
  };
  taken = i.taken;
  keys = i.keys;
  lasts = subst (λ z. HoldsRoots z marked) (sym (part_same (λ x. map (λ f. f.label) x.lasts) s.domains d (asked s d) refl)) i.lasts;
}

-- where the cycle was whole, what is marked is what is reachable
left_reach : (s : State) (marked : Label → Bool) → IsLeft s marked → IsWhole s.graph (roots s (queues s)) marked
    → (l : Label) → marked l ≡ is_reachable s.graph (roots s (queues s)) l
left_reach s marked i = marked_reach s.graph (roots s (queues s)) marked i.marks.closed i.marks.roots

-- nor does a `full_major` change what is reachable
pub asked_reach : (s : State) (d : ℕ) → reach (next s (CommandOf d FullMajor false)) ≡ reach s
asked_reach s d = ap (reachable s.graph) (asked_roots s d)

pub left_law : LeftLaw
left_law = record {
  marked_reach = left_reach;
  leads = leads_to_marked;
  done = done_left;
  collected = collected_left;
  after_collected = left_collected;
  after_full_major = left_full_major;
  collected_reach = reach_fresh;
  full_major_reach = asked_reach;
}
