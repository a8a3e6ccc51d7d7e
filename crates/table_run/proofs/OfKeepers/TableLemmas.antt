-- What the calls on a table of buckets leave, as calls on what keeps bindings.
use Rattle.std.proofs.Common.{◌≡◌, inl, inr, ⊎_elim, ℕ, zero, suc, ◌+◌, ◌-◌, ◌<◌, ◌≤◌, false, true, List, [], flat_map, Option, Some, None, refl, ap, ◌∙◌, subst, arith}
use Rattle.model_core.specs.declared.label.Label.{Label}
use Rattle.model_core.specs.declared.entry.Entry.{Entry}
use Rattle.model_core.specs.declared.graph.Value.{Value}
use Rattle.model_core.specs.declared.graph.Value.TheVariants.{Int, Block, Nothing}
use Rattle.model_core.specs.declared.graph.Node.TheVariants.{Plain}
use Rattle.model_core.specs.declared.reply.Reply.{Reply}
use Rattle.model_core.specs.declared.state.Sizes.{Sizes}
use Rattle.model_core.specs.Graph.{Graph, has_label, same_label}
use Rattle.model_core.proofs.Graphs.GraphLemmas.{same_label-true}
use Rattle.model_core.proofs.Reach.ReachLemmas.{or_cases}
use Rattle.weak_laws.specs.Tables.Structures.{Cell, bindings, bucket_count, cell_labels, empty_chains, table_labels}
use Rattle.weak_laws.specs.Tables.Thinning.{WasOutside}
use Rattle.weak_laws.specs.Tables.Stages.{graph_of, held_in}
use Rattle.weak_laws.proofs.OfTables.ChangeLemmas.{changes_more}
use Rattle.weak_tables.specs.Held.{Has, IsClean, IsTidy, KeepsOthers, Reads}
use Rattle.weak_tables.specs.Tables as tables
use Rattle.weak_tables.proofs.TidyLemmas.{all_kept, tidy_lasts}
use Rattle.weak_maps.specs.Lists.Stretches.{IsSettled, KeepsLow}
use Rattle.table_text.specs.declared.version.Version.TheVariants.{One}
use Rattle.table_run.specs.Keepers.Keepers.{IsTidyTable}
use Rattle.table_run.specs.Keepers.Answers.{Counts, GetAnswers, MakeAnswers, PutAnswers, Stays, TakeAnswers}

-- registers from 8 on hold nothing after a call, if they held nothing
settled : (z : Sizes) (old new : List Entry) → ((r : ℕ) → 11 ≤ r → held_in z new r ≡ held_in z old r) → IsClean z new → IsSettled z old new
settled z old new keeps clean = record { high = λ r many none. go r (r - 8) (omega arith) none; calm = clean.calm }
  where
    go : (r n : ℕ) → r ≡ 8 + n → held_in z old r ≡ Nothing → held_in z new r ≡ Nothing
    go r zero is none = (let eight : r ≡ 8 = omega arith in ap (held_in z new) eight) ∙ clean.eight
    go r (suc zero) is none = (let nine : r ≡ 9 = omega arith in ap (held_in z new) nine) ∙ clean.nine
    go r (suc (suc zero)) is none = (let ten : r ≡ 10 = omega arith in ap (held_in z new) ten) ∙ clean.ten
    go r (suc (suc (suc n))) is none = keeps r (omega arith) ∙ none

high : (z : Sizes) (old new : List Entry) → KeepsOthers z old new → (r : ℕ) → 11 ≤ r → held_in z new r ≡ held_in z old r
high z old new keeps r many = keeps r (λ e. absurd (omega arith)) (λ e. absurd (omega arith)) (λ e. absurd (omega arith))

low : (z : Sizes) (old new : List Entry) → KeepsOthers z old new → KeepsLow z old new
low z old new keeps r few = keeps r (λ e. absurd (omega arith)) (λ e. absurd (omega arith)) (λ e. absurd (omega arith))

module _ (z : Sizes) (old new : List Entry) (root : Label) (chains : List (List Cell)) (x : IsTidyTable (graph_of z old) root chains) where
  -- a table of which no block was written
  read : Reads z old new root chains → IsTidyTable (graph_of z new) root chains
  read reads = record {
    table = reads.table;
    tidy = all_kept IsTidy tidy_lasts (WasOutside z old new) (graph_of z old) (graph_of z new) reads.goes.changes (table_labels root chains) x.tidy;
  }

  abbrev stays : Reads z old new root chains → KeepsOthers z old new → IsClean z new → Stays One z old new root chains
  stays reads keeps clean = record {
    writes = record {
      goes = record {
        legal = reads.goes.legal;
        grows = reads.goes.grows;
        changes = changes_more (WasOutside z old new) (WasOutside z old new) [] (table_labels root chains) (graph_of z old) (graph_of z new) (λ k w. w) (λ l none. absurd (let clash : false ≡ true = none in cc)) reads.goes.changes;
      };
      low = low z old new keeps;
      settled = settled z old new (high z old new keeps) clean;
      now = chains;
      keeper = read reads;
      labels = λ l there. inl there;
    };
    left = reads.thinned;
  }

  done : (k : Label) (datum : Value) (r : Reply) → tables.PutAnswers z old new root chains (Some k) datum r → (datum ≡ Nothing → ⊥) → PutAnswers One z old new root chains (Some k) datum r
  done k Nothing r answer some = absurd (some refl)
  done k (Int v) r (inl (is, g)) some = inl (
    is,
    record {
      writes = record { goes = g.goes; low = low z old new g.keeps; settled = settled z old new (high z old new g.keeps) g.clean; now = g.grown; keeper = record { table = g.table; tidy = g.tidy x.tidy }; labels = g.labels };
      left = g.left;
      bound = λ stays. g.bound;
    },
  )
  done k (Int v) r (inr (is, refused, clean)) some = inr (is, stays refused.reads refused.keeps clean)
  done k (Block l) r (inl (is, g)) some = inl (
    is,
    record {
      writes = record { goes = g.goes; low = low z old new g.keeps; settled = settled z old new (high z old new g.keeps) g.clean; now = g.grown; keeper = record { table = g.table; tidy = g.tidy x.tidy }; labels = g.labels };
      left = g.left;
      bound = λ stays. g.bound;
    },
  )
  done k (Block l) r (inr (is, refused, clean)) some = inr (is, stays refused.reads refused.keeps clean)

  pub table_put_answers : (o : Option Label) (datum : Value) (r : Reply) → tables.PutAnswers z old new root chains o datum r → PutAnswers One z old new root chains o datum r
  table_put_answers None datum r answer = answer
  table_put_answers (Some k) Nothing r answer = answer
  table_put_answers (Some k) (Int v) r answer = done k (Int v) r answer (λ is. cc)
  table_put_answers (Some k) (Block l) r answer = done k (Block l) r answer (λ is. cc)

  pub table_take_answers : (o : Option Label) (r : Reply) → tables.TakeAnswers z old new root chains o r → TakeAnswers One z old new root chains o r
  table_take_answers None r answer = answer
  table_take_answers (Some k) r (inl (is, t)) = inl (
    is,
    record {
      writes = record { goes = t.goes; low = low z old new t.keeps; settled = settled z old new (high z old new t.keeps) t.clean; now = chains; keeper = record { table = t.table; tidy = t.tidy x.tidy }; labels = λ l there. inl there };
      was = t.was;
      bound = t.bound;
      left = t.left;
      none = t.none;
    },
  )
  table_take_answers (Some k) r (inr (is, leaves, keeps, none)) = inr (is, record { stays = stays leaves.reads keeps leaves.clean; none = none })

  pub table_get_answers : (dst : ℕ) → dst < 8 → (o : Option Label) (r : Reply) → tables.GetAnswers z old new root chains dst o r → GetAnswers One z old new root chains dst o r
  table_get_answers dst few None r answer = answer
  table_get_answers dst few (Some k) r g = record {
    goes = g.reads.goes;
    keeps = λ i below other. g.keeps i (λ e. absurd (omega arith)) (λ e. absurd (omega arith)) (λ e. absurd (omega arith)) other;
    settled = settled z old new (λ i many. g.keeps i (λ e. absurd (omega arith)) (λ e. absurd (omega arith)) (λ e. absurd (omega arith)) (λ e. absurd (omega arith))) g.clean;
    front = g.front;
    since = g.since;
    behind = g.rest.goes;
    thinned = g.rest.thinned;
    found = g.found;
    bound = g.bound;
    answers = g.answers;
    holds = g.holds;
  }

  pub table_counts : (count : ℕ) → tables.Counts z old new root chains count → Counts One z old new root chains count
  table_counts count c = record {
    goes = c.leaves.reads.goes;
    low = low z old new c.keeps;
    settled = settled z old new (high z old new c.keeps) c.leaves.clean;
    front = c.front;
    before = c.before;
    behind = c.behind;
    number = c.number;
    many = c.many;
    few = c.few;
  }

none_bound : (g : Graph) (n : ℕ) → bindings g (empty_chains n) ≡ []
none_bound g zero = refl
none_bound g (suc n) = none_bound g n

pub table_make_answers : (z : Sizes) (old new : List Entry) (dst : ℕ) (r : Reply) → tables.MakeAnswers z old new dst r → MakeAnswers One z old new dst r
table_make_answers z old new dst r (inr (full, none)) = inr (full, record { goes = none.goes; keeps = none.keeps })
table_make_answers z old new dst r (inl (root, is, t)) = inl (
  root,
  is,
  record {
    goes = t.goes;
    keeps = t.keeps;
    holds = t.holds;
    fresh = t.fresh;
    shape = empty_chains bucket_count;
    keeper = record {
      table = t.table;
      tidy = λ l mine. ⊎_elim (λ same. subst (Has IsTidy (graph_of z new)) (same_label-true root l same) (record { node = Plain t.table.tag t.table.fields; at = t.table.node; is = tt })) (λ none. absurd (let clash : false ≡ true = none in cc))
          (or_cases (same_label root l) (has_label (flat_map cell_labels (empty_chains bucket_count)) l) mine);
    };
    empty = none_bound (graph_of z new) bucket_count;
  },
)
