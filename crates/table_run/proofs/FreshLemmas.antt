-- A label that no block has was the label of none before: the key that a line makes is none of an earlier state's.
use Rattle.std.proofs.Common.{◌≡◌, ℕ, Bool, true, false, cond, ◌||◌, IsTrue, List, [], ◌∷◌, Option, Some, None, refl, ap, sym, ◌∙◌, subst}
use Rattle.model_core.specs.declared.label.Label.{Label}
use Rattle.model_core.specs.declared.entry.Entry.{Entry}
use Rattle.model_core.specs.declared.graph.Node.{Node}
use Rattle.model_core.specs.declared.state.Sizes.{Sizes}
use Rattle.model_core.specs.declared.state.State.{State}
use Rattle.model_core.specs.Graph.{Graph, same_label, has_label, labels, node_at}
use Rattle.model_core.specs.Domains.{opening}
use Rattle.model_core.specs.Entries.{next}
use Rattle.model_core.specs.History.{IsPrefix, state_after}
use Rattle.model_core.proofs.Graphs.GraphStepLemmas.{labels_stay_law}
use Rattle.model_core.proofs.Histories.HistoryLemmas.{state_after-append}
use Rattle.model_core.proofs.Histories.NumberLemmas.{no_label, node_at-no_label}
use Rattle.weak_laws.specs.Tables.Thinning.{state_of}
use Rattle.weak_laws.specs.Tables.Stages.{graph_of}
use Rattle.weak_laws.proofs.OfTables.StageLemmas.{prefix_trans}
use Rattle.table_text.specs.declared.version.Version.{Version}
use Rattle.table_text.specs.declared.line.TableLine.{TableLine}
use Rattle.table_text.specs.declared.line.TableLine.TheVariants.{Key, Forget, Put, Get, Del, SetWeak, GetWeak, Count, FullMajor}
use Rattle.table_text.specs.declared.machine.reply.LineReply.{LineReply}
use Rattle.table_text.specs.declared.machine.reply.LineReply.TheVariants as reply
use Rattle.table_text.specs.Machine.Machine.{TableState, key_in}
use Rattle.table_run.specs.Standing.{Places}
use Rattle.table_run.specs.Running.{LineRuns, MakesNew, WasCounted}

-- no entry removes a label
pub labels_go_on : (s : State) (h : List Entry) (l : Label) → IsTrue (has_label (labels s.graph) l) → IsTrue (has_label (labels (state_after s h).graph) l)
labels_go_on s [] l there = there
labels_go_on s (e ∷ h) l there = labels_go_on (next s e) h l (labels_stay_law s e l there)

-- what is no block's label at one front was none's at an earlier one
pub unmade_before : (z : Sizes) (old new : List Entry) (l : Label) → IsPrefix old new → node_at (graph_of z new) l ≡ None → node_at (graph_of z old) l ≡ None
unmade_before z old new l grows none = node_at-no_label (graph_of z old) l (go (has_label (labels (graph_of z old)) l) refl)
  where
    there : state_of z new ≡ state_after (state_of z old) grows.rest
    there = ap (state_of z) grows.appends ∙ state_after-append (opening z) old grows.rest

    go : (b : Bool) → has_label (labels (graph_of z old)) l ≡ b → b ≡ false
    go true e = absurd
        (let later : IsTrue (has_label (labels (graph_of z new)) l) = subst (λ (s : State). IsTrue (has_label (labels s.graph) l)) (sym there) (labels_go_on (state_of z old) grows.rest l e) in
        let clash : true ≡ false = sym later ∙ no_label (graph_of z new) l none in cc)
    go false e = refl

pub makes_before : (z : Sizes) (old new : List Entry) (l : TableLine) (a : LineReply) (t : TableState) → IsPrefix old new → MakesNew z new l a t → MakesNew z old l a t
makes_before z old new (Key r) a t grows made = λ done. let m = made done in (m.0, m.1, unmade_before z old new m.0 grows m.2)
makes_before z old new (Forget r) a t grows made = tt
makes_before z old new (Put r v) a t grows made = tt
makes_before z old new (Get r) a t grows made = tt
makes_before z old new (Del r) a t grows made = tt
makes_before z old new (SetWeak i r) a t grows made = tt
makes_before z old new (GetWeak d i) a t grows made = tt
makes_before z old new Count a t grows made = tt
makes_before z old new FullMajor a t grows made = tt

-- a count on the way from one front is one on the way from an earlier front
pub counted_before : (version : Version) (z : Sizes) (p : Places) (old mid : List Entry) (l : TableLine) (a : LineReply) (new : List Entry) → IsPrefix old mid → WasCounted version z p mid l a new → WasCounted version z p old l a new
counted_before version z p old mid Count a new grows c = record { shape = c.shape; front = c.front; since = prefix_trans old mid c.front grows c.since; until = c.until; keeper = c.keeper; answers = c.answers }
counted_before version z p old mid (Key r) a new grows c = tt
counted_before version z p old mid (Forget r) a new grows c = tt
counted_before version z p old mid (Put r v) a new grows c = tt
counted_before version z p old mid (Get r) a new grows c = tt
counted_before version z p old mid (Del r) a new grows c = tt
counted_before version z p old mid (SetWeak i r) a new grows c = tt
counted_before version z p old mid (GetWeak d i) a new grows c = tt
counted_before version z p old mid FullMajor a new grows c = tt

-- a line that is answered `full` makes none
pub full_makes_none : (z : Sizes) (old : List Entry) (l : TableLine) (t : TableState) → MakesNew z old l reply.Full t
full_makes_none z old (Key r) t = λ done. cc
full_makes_none z old (Forget r) t = tt
full_makes_none z old (Put r v) t = tt
full_makes_none z old (Get r) t = tt
full_makes_none z old (Del r) t = tt
full_makes_none z old (SetWeak i r) t = tt
full_makes_none z old (GetWeak d i) t = tt
full_makes_none z old Count t = tt
full_makes_none z old FullMajor t = tt

-- a key that was lost doesn't come again: no block that was there at the line's old front, or before, is the key that it makes
pub no_lost_key_comes_again : (version : Version) (z : Sizes) (p : Places) (lines : List TableLine) (r : ℕ) (s : TableState) (old : List Entry) (t : TableState) (new : List Entry) (h : List Entry) (k : Label) (n : Node) → LineRuns version z p lines (Key r) s old reply.Done t new
    → IsPrefix h old → node_at (graph_of z h) k ≡ Some n → key_in t r ≡ Some k → ⊥
no_lost_key_comes_again version z p lines r s old t new h k n x grows there is =
    let m = x.fresh refl in
    let same : m.0 ≡ k = (let both : Some m.0 ≡ Some k = sym m.1 ∙ is in cc) in
    let none : node_at (graph_of z h) k ≡ None = subst (λ (l : Label). node_at (graph_of z h) l ≡ None) same (unmade_before z h old m.0 grows m.2) in
    let clash : ◌≡◌ {A = Option Node} None (Some n) = sym none ∙ there in cc
