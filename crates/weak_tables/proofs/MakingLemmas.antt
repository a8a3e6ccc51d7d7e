-- What `table_make` and `weak_make` leave.
use Rattle.std.proofs.Common.{◌≡◌, ◌⊎◌, inl, inr, ⊎_elim, ℕ, suc, ◌+◌, ◌<◌, true, false, IsTrue, List, [], ◌∷◌, ◌++◌, get_or, set, replicate, Option, Some, None, refl, ap, sym, ◌∙◌, subst, arith, length-append}
use Rattle.model_core.specs.declared.label.Label.{Label}
use Rattle.model_core.specs.declared.command.Command.TheVariants.{Alloc, Copy, Store, Ephe}
use Rattle.model_core.specs.declared.entry.Entry.{Entry}
use Rattle.model_core.specs.declared.reply.Reply.{Reply}
use Rattle.model_core.specs.declared.graph.Value.{Value}
use Rattle.model_core.specs.declared.graph.Value.TheVariants.{Block, Nothing}
use Rattle.model_core.specs.declared.graph.Node.{Node}
use Rattle.model_core.specs.declared.graph.Node.TheVariants.{Ephe as EpheNode}
use Rattle.model_core.specs.declared.state.Sizes.{Sizes}
use Rattle.model_core.specs.Domains.{IsWithinLimits}
use Rattle.model_core.specs.History.{Legal}
use Rattle.model_core.specs.declared.reply.Reply.TheVariants as reply
use Rattle.model_core.specs.Graph.{same_label, has_label, node_at}
use Rattle.model_core.proofs.Graphs.GraphLemmas.{same_label-true}
use Rattle.model_core.proofs.Reach.ReachLemmas.{or_cases, or_left}
use Rattle.weak_laws.specs.Tables.Performing.{Performed, After, registers_of}
use Rattle.weak_laws.specs.Tables.Stages.{Goes, Filling, graph_of}
use Rattle.weak_laws.proofs.OfTables.OnceLemmas.{lacks}
use Rattle.weak_laws.proofs.OfTables.ArrayMakeLemmas.{filling_begun, filling_kept, filling_stored, filling_ended}
use Rattle.weak_laws.proofs.OfTables.MakeLemmas.{table_empty}
use Rattle.weak_laws.proofs.OfTables.StepLemmas.{alloc_step, copy_step, ephe_step}
use Rattle.weak_laws.proofs.OfTables.StageLemmas.{goes_from, goes_on, goes_reading}
use Rattle.weak_tables.specs.Tables.{MakeAnswers}
use Rattle.weak_tables.specs.Held.{KeepsOthers, Cleared}
use Rattle.weak_tables.specs.Walks.{Filled}
use Rattle.weak_tables.specs.Arrays.{MakesArray, MakesNoArray}
use Rattle.weak_tables.proofs.SearchLemmas.{set_here, set_other, keeps_set, keeps_all, below_eight}
use Rattle.weak_tables.proofs.TakeLemmas.{cleared_goes, cleared_keeps, cleared_clean, same_registers}
use Rattle.weak_tables.proofs.PutLemmas.{new_earlier}

pub made_table : (z : Sizes) (limits : IsWithinLimits z) (old new : List Entry) (r : Reply) (dst : ℕ) → dst < 8 → Legal z old → Performed z old new (Alloc dst 0 64) r → MakeAnswers z old new dst r
made_table z limits old new r dst few legal p = ⊎_elim
    (λ full. inr (full.1, record { goes = goes_reading z old old new [] _ (goes_from z old [] legal) full.0; keeps = λ k. ap (λ (rs : List Value). get_or rs k Nothing) full.0.registers_are }))
    (λ made. inl (
      made.0,
      made.2,
      record {
        goes = goes_reading z old old new [] _ (goes_from z old [] legal) made.1;
        keeps = λ k other. set_other z limits old old new dst _ made.1.registers_are k other;
        holds = set_here z limits old old new dst _ made.1.registers_are (omega arith);
        fresh = made.3;
        table = table_empty (graph_of z new) made.0 0 made.4;
      },
    ))
    (alloc_step z limits old new r dst 0 64 p)

-- a weak array in the making
module _ (z : Sizes) (limits : IsWithinLimits z) (first : List Entry) (root : Label) where
  -- an ephemeron is refused
  pub filled_refused : (now f : List Entry) (r : Reply) (count left : ℕ) → Filled z first now root count left → Performed z now f (Ephe 9 1) r → r ≡ reply.Full → Goes z first f [] × KeepsOthers z first f
  filled_refused now f r count left x p full = ⊎_elim
      (λ no. (goes_reading z first now f [] _ x.goes no.0, same_registers z first now f x.keeps no.0.registers_are))
      (λ made. absurd (let clash : reply.Block made.0 ≡ reply.Full = sym made.2 ∙ full in cc))
      (ephe_step z limits now f r 9 p)

  -- or made and stored
  module _ (now f g : List Entry) (r s : Reply) (count left : ℕ) (x : Filled z first now root count (suc left)) (p : Performed z now f (Ephe 9 1) r) (room : r ≡ reply.Full → ⊥) (q : Performed z f g (Store 8 count 9) s) where
    made : (e : Label) × After z now f [] (set (registers_of z now) 9 (Block e)) × (r ≡ reply.Block e) × (node_at (graph_of z now) e ≡ None) × (node_at (graph_of z f) e ≡ Some (EpheNode (None ∷ []) Nothing))
    made = ⊎_elim (λ no. absurd (room no.1)) (λ one. one) (ephe_step z limits now f r 9 p)

    abbrev e : Label
    e = made.0

    apart : has_label (root ∷ x.made) e ≡ false
    apart = lacks (root ∷ x.made) e (λ h. ⊎_elim
        (λ same. let clash : ◌≡◌ {A = Option Node} None (Some _) = sym made.3 ∙ (ap (node_at (graph_of z now)) (sym (same_label-true root e same)) ∙ x.filling.node) in cc)
        (λ old. let clash : ◌≡◌ {A = Option Node} None (Some _) = sym made.3 ∙ x.filling.empty e old in cc)
        (or_cases (same_label root e) _ h))

    stored : After z f g (root ∷ []) (registers_of z f) × (s ≡ reply.Done) × Filling z first g root (x.made ++ e ∷ []) left
    stored = filling_stored z first root limits x.made left f g s e (filling_kept z first root x.made (suc left) now f _ x.filling made.1) made.4 apart (new_earlier z first now e x.goes.grows made.3)
        (set_other z limits first now f 9 _ made.1.registers_are 8 (λ same. absurd (omega arith)) ∙ x.held) (set_here z limits first now f 9 _ made.1.registers_are (omega arith))
        (subst (λ (n : ℕ). Performed z f g (Store 8 n 9) s) (sym x.count_is) q)

    root_new : (l : Label) → IsTrue (has_label (root ∷ []) l) → IsTrue (has_label [] l) ⊎ (node_at (graph_of z first) l ≡ None)
    root_new l mine = ⊎_elim
        (λ same. inr (x.filling.fresh l (or_left (same_label root l) _ same)))
        (λ no. absurd (let clash : false ≡ true = no in cc))
        (or_cases (same_label root l) false mine)

    pub filled_next : Filled z first g root (count + 1) left
    filled_next = record {
      goes = goes_on z first f g [] (root ∷ []) _ (goes_reading z first now f [] _ x.goes made.1) stored.0 root_new;
      keeps = same_registers z first f g (keeps_set z limits first now f 9 _ made.1.registers_are x.keeps (λ r a b c. b)) stored.0.registers_are;
      made = x.made ++ e ∷ [];
      count_is = length-append x.made (e ∷ []) ∙ ap (λ (n : ℕ). n + 1) x.count_is;
      filling = stored.2;
      held = ap (λ (rs : List Value). get_or rs 8 Nothing) stored.0.registers_are ∙ (set_other z limits first now f 9 _ made.1.registers_are 8 (λ same. absurd (omega arith)) ∙ x.held);
    }

module _ (z : Sizes) (limits : IsWithinLimits z) (old f : List Entry) (r : Reply) (count : ℕ) (legal : Legal z old) (p : Performed z old f (Alloc 8 0 count) r) where
  pub array_begun : (r ≡ reply.Full → ⊥) → (root : Label) × (r ≡ reply.Block root) × Filled z old f root 0 count
  array_begun room = ⊎_elim (λ no. absurd (room no.1)) (λ made. (
    made.0,
    made.2,
    record {
      goes = goes_reading z old old f [] _ (goes_from z old [] legal) made.1;
      keeps = keeps_set z limits old old f 8 _ made.1.registers_are (keeps_all z old) (λ r a b c. a);
      made = [];
      count_is = refl;
      filling = filling_begun z old made.0 f count made.3 made.4;
      held = set_here z limits old old f 8 _ made.1.registers_are (omega arith);
    },
  )) (alloc_step z limits old f r 8 0 count p)

  -- nothing was made
  pub no_array : (g new : List Entry) → Goes z old g [] → KeepsOthers z old g → Cleared z g new → MakesNoArray z old new
  no_array g new goes keeps c = record { goes = cleared_goes z limits g new c old [] goes; keeps = cleared_keeps z limits g new c old keeps; clean = cleared_clean z limits g new c }

  pub array_refused : (new : List Entry) → r ≡ reply.Full → Cleared z f new → MakesNoArray z old new
  array_refused new full c = ⊎_elim
      (λ no. no_array f new (goes_reading z old old f [] _ (goes_from z old [] legal) no.0) (same_registers z old old f (keeps_all z old) no.0.registers_are) c)
      (λ made. absurd (let clash : reply.Block made.0 ≡ reply.Full = sym made.2 ∙ full in cc))
      (alloc_step z limits old f r 8 0 count p)

  module _ (root : Label) (g h new : List Entry) (s : Reply) (dst : ℕ) (few : dst < 8) (x : Filled z old g root count 0) (q : Performed z g h (Copy dst 8) s) (c : Cleared z h new) where
    moved : After z g h [] (set (registers_of z g) dst (Block root)) × (s ≡ reply.Done)
    moved = copy_step z limits g h s dst 8 (Block root) x.held q

    filling_new : Filling z old new root x.made 0
    filling_new =
        filling_kept z old root x.made 0 c.second new _
        (filling_kept z old root x.made 0 c.first c.second _
        (filling_kept z old root x.made 0 h c.first _
        (filling_kept z old root x.made 0 g h _ x.filling moved.0) c.eight) c.nine) c.ten

    pub array_made : MakesArray z old new dst count root
    array_made =
        let ended = filling_ended z old new root x.made filling_new in record {
          goes = cleared_goes z limits h new c old [] (goes_reading z old g h [] _ x.goes moved.0);
          keeps = λ r a b d e. cleared_keeps z limits h new c h (keeps_all z h) r a b d ∙ (set_other z limits old g h dst _ moved.0.registers_are r e ∙ x.keeps r a b d);
          clean = cleared_clean z limits h new c;
          holds = below_eight z h new dst few (cleared_keeps z limits h new c h (keeps_all z h)) ∙ set_here z limits old g h dst _ moved.0.registers_are (omega arith);
          slots = x.made;
          fresh = x.filling.fresh;
          array = ended.0;
          empty = ended.1 ∙ ap (λ (n : ℕ). replicate n None) x.count_is;
          bare = λ l there. record { node = EpheNode (None ∷ []) Nothing; at = filling_new.empty l there; is = refl };
        }

pub filled_sizes : (z y : Sizes) (first now : List Entry) (root : Label) (count left : ℕ) → y ≡ z → Filled y first now root count left → Filled z first now root count left
filled_sizes z y first now root count left same x = subst (λ (w : Sizes). Filled w first now root count left) same x
