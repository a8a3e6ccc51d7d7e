-- The state behind the entries that make the hidden block, for each number of domains.
use Rattle.std.proofs.Common.{◌≡◌, ⊎_elim, ℕ, zero, suc, ◌<◌, ◌≤◌, Bool, true, false, cond, ◌&&◌, ◌||◌, IsTrue, pos, List, [], ◌∷◌, length, get_or, set, replicate, Some, None, refl, ap, sym, ◌∙◌, subst, arith, get_or-set_other}
use Rattle.std.specs.List.{list_all}
use Rattle.model_core.specs.declared.label.Label.{Label}
use Rattle.model_core.specs.declared.graph.Value.{Value}
use Rattle.model_core.specs.declared.graph.Value.TheVariants.{Int, Block, Nothing}
use Rattle.model_core.specs.declared.graph.Node.{Node}
use Rattle.model_core.specs.declared.graph.Node.TheVariants.{Plain}
use Rattle.model_core.specs.declared.state.DomainState.{DomainState}
use Rattle.model_core.specs.declared.state.Sizes.{Sizes}
use Rattle.model_core.specs.declared.state.State.{State}
use Rattle.model_core.specs.Graph.{Graph, same_label, node_at}
use Rattle.model_core.specs.Domains.{domain_at, no_domain, opening, shared_label, shared_node}
use Rattle.model_core.specs.Commands.{same_value}
use Rattle.model_core.specs.History.{state_after, Legal}
use Rattle.model_core.proofs.Graphs.GraphLemmas.{and_parts, same_label-true}
use Rattle.model_core.proofs.Reach.ReachLemmas.{or_cases}
use Rattle.model_core.proofs.Histories.NumberLemmas.{numbered_after, numbered_opening}
use Rattle.model_traces.specs.Spawns.Hidden.{hidden, hidden_label, hidden_fields, prelude}
use Rattle.model_traces.proofs.OfSpawns.Hiding.{is_other, node_hides, final_hides, pending_hides, DomainHides}
use Rattle.model_traces.proofs.OfSpawns.Slots.{IsKept, slot}

-- what a domain is then, as a test
abbrev is_begun : DomainState → Bool
is_begun x = list_all (is_other hidden_label) (set x.registers hidden Nothing)
    && (list_all (final_hides hidden_label) x.finals && (list_all (pending_hides hidden_label) x.queue && (x.ended || same_value (get_or x.registers hidden Nothing) (Block hidden_label))))

-- the blocks then
abbrev begun_graph : Graph
begun_graph = (shared_label, shared_node) ∷ (hidden_label, Plain 0 (replicate hidden_fields (Int (pos 0)))) ∷ []

pub record IsBegun (z : Sizes) : Type 0 where
  pub domains : IsTrue (list_all is_begun (state_after (opening z) (prelude z.domains)).domains)
  pub graph : (state_after (opening z) (prelude z.domains)).graph ≡ begun_graph
  pub size : length (state_after (opening z) (prelude z.domains)).domains ≡ z.domains

with_count : (z : Sizes) (n : ℕ) → z.domains ≡ n → z ≡ record z { domains = n }
with_count z n e = λ i. record z { domains = e i }

begun_at : (z : Sizes) (n : ℕ) → 1 ≤ n → n ≤ 8 → IsBegun (record z { domains = n })
begun_at z zero some few = absurd (omega arith)
begun_at z (suc zero) some few = record { domains = refl; graph = refl; size = refl }
begun_at z (suc (suc zero)) some few = record { domains = refl; graph = refl; size = refl }
begun_at z (suc (suc (suc zero))) some few = record { domains = refl; graph = refl; size = refl }
begun_at z (suc (suc (suc (suc zero)))) some few = record { domains = refl; graph = refl; size = refl }
begun_at z (suc (suc (suc (suc (suc zero))))) some few = record { domains = refl; graph = refl; size = refl }
begun_at z (suc (suc (suc (suc (suc (suc zero)))))) some few = record { domains = refl; graph = refl; size = refl }
begun_at z (suc (suc (suc (suc (suc (suc (suc zero))))))) some few = record { domains = refl; graph = refl; size = refl }
begun_at z (suc (suc (suc (suc (suc (suc (suc (suc zero)))))))) some few = record { domains = refl; graph = refl; size = refl }
begun_at z (suc (suc (suc (suc (suc (suc (suc (suc (suc n))))))))) some few = absurd (omega arith)

pub begun : (z : Sizes) → 1 ≤ z.domains → z.domains ≤ 8 → IsBegun z
begun z some few = subst (λ (y : Sizes). IsBegun y) (sym (with_count z z.domains refl)) (begun_at z z.domains some few)

-- the tests, as facts
each_domain : (test : DomainState → Bool) → IsTrue (test no_domain) → (xs : List DomainState) → IsTrue (list_all test xs) → (k : ℕ) → IsTrue (test (get_or xs k no_domain))
each_domain test none [] all k = none
each_domain test none (x ∷ xs) all zero = (and_parts (test x) (list_all test xs) all).0
each_domain test none (x ∷ xs) all (suc k) = each_domain test none xs (and_parts (test x) (list_all test xs) all).1 k

each_value : (test : Value → Bool) → IsTrue (test Nothing) → (xs : List Value) → IsTrue (list_all test xs) → (k : ℕ) → IsTrue (test (get_or xs k Nothing))
each_value test none [] all k = none
each_value test none (x ∷ xs) all zero = (and_parts (test x) (list_all test xs) all).0
each_value test none (x ∷ xs) all (suc k) = each_value test none xs (and_parts (test x) (list_all test xs) all).1 k

held_value : (v : Value) (l : Label) → IsTrue (same_value v (Block l)) → v ≡ Block l
held_value (Int z) l same = let clash : false ≡ true = same in cc
held_value Nothing l same = let clash : false ≡ true = same in cc
held_value (Block k) l same = ap (λ (x : Label). Block x) (same_label-true k l same)

domain_facts : (x : DomainState) → IsTrue (is_begun x) → DomainHides hidden_label x × (x.ended ≡ false → get_or x.registers hidden Nothing ≡ Block hidden_label)
domain_facts x is =
    let a = and_parts (list_all (is_other hidden_label) (set x.registers hidden Nothing)) _ is in
    let b = and_parts (list_all (final_hides hidden_label) x.finals) _ a.1 in
    let c = and_parts (list_all (pending_hides hidden_label) x.queue) _ b.1 in (
      record {
        registers = λ r other. subst (λ (v : Value). IsTrue (is_other hidden_label v)) (get_or-set_other x.registers hidden r Nothing Nothing other)
            (each_value (is_other hidden_label) refl (set x.registers hidden Nothing) a.0 r);
        finals = b.0;
        queue = c.0;
      },
      λ running. ⊎_elim
          (λ ended. absurd (let clash : true ≡ false = sym ended ∙ running in cc))
          (λ same. held_value (get_or x.registers hidden Nothing) hidden_label same)
          (or_cases x.ended (same_value (get_or x.registers hidden Nothing) (Block hidden_label)) c.1),
    )

node_facts : (l : Label) (n : Node) → node_at begun_graph l ≡ Some n → IsTrue (node_hides hidden_label n)
node_facts l n at = go (same_label shared_label l) (same_label hidden_label l) at
  where
    go : (a b : Bool) → cond a (Some shared_node) (cond b (Some (Plain 0 (replicate hidden_fields (Int (pos 0))))) None) ≡ Some n → IsTrue (node_hides hidden_label n)
    go true b e = let same : shared_node ≡ n = cc in subst (λ (m : Node). IsTrue (node_hides hidden_label m)) same refl
    go false true e = let same : Plain 0 (replicate hidden_fields (Int (pos 0))) ≡ n = cc in subst (λ (m : Node). IsTrue (node_hides hidden_label m)) same refl
    go false false e = cc

pub kept_begun : (z : Sizes) → 1 ≤ z.domains → z.domains ≤ 8 → Legal z (prelude z.domains) → IsKept (state_after (opening z) (prelude z.domains))
kept_begun z some few legal =
    let s : State = state_after (opening z) (prelude z.domains) in
    let is = begun z some few in
    record {
      hides = record {
        domains = λ d. (domain_facts (domain_at s d) (each_domain is_begun refl s.domains is.domains d)).0;
        nodes = λ l n at. node_facts l n (ap (λ (g : Graph). node_at g l) (sym is.graph) ∙ at);
      };
      numbered = numbered_after (opening z) (prelude z.domains) legal (numbered_opening z);
      fields = replicate hidden_fields (Int (pos 0));
      there = ap (λ (g : Graph). node_at g hidden_label) is.graph;
      size = refl;
      holds = λ d running. (domain_facts (domain_at s d) (each_domain is_begun refl s.domains is.domains d)).1 running;
    }

zeros : (n i : ℕ) → i < n → get_or (replicate n (Int (pos 0))) i Nothing ≡ Int (pos 0)
zeros zero i lt = absurd (omega arith)
zeros (suc n) zero lt = refl
zeros (suc n) (suc i) lt = zeros n i (omega arith)

-- each field of the block is 0 then
pub slot_begun : (z : Sizes) → 1 ≤ z.domains → z.domains ≤ 8 → (i : ℕ) → i < hidden_fields → slot (state_after (opening z) (prelude z.domains)) i ≡ Int (pos 0)
slot_begun z some few i lt =
    let is = begun z some few in
    ap (λ (g : Graph). slot (record (opening z) { graph = g }) i) is.graph ∙ zeros hidden_fields i lt
