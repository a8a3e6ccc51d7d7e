-- A bucket has at most one cell more than the most keys that were bound in it at a time: a put makes a cell only where each cell has a key.
use Rattle.std.proofs.Common.{◌≡◌, ◌≢◌, ◌⊎◌, inl, inr, ⊎_elim, ℕ, ◌+◌, ◌<◌, ◌≤◌, ◌%◌, false, true, IsTrue, List, [], ◌∷◌, length, get_or, set, Option, Some, None, refl, ap, sym, ◌∙◌, subst, arith, is_some, length-append, get_or-set_same, get_or-set_other}
use Rattle.std.proofs.lemmas.Bool.{cases_order}
use Rattle.std.specs.List.{list_all}
use Rattle.model_core.specs.declared.label.Label.{Label}
use Rattle.model_core.specs.declared.entry.Entry.{Entry}
use Rattle.model_core.specs.declared.graph.Node.{Node}
use Rattle.model_core.specs.declared.graph.Node.TheVariants.{Plain, Raw, Ephe}
use Rattle.model_core.specs.declared.state.Sizes.{Sizes}
use Rattle.model_core.specs.Graph.{Graph, node_at}
use Rattle.model_core.proofs.Reach.ReachLemmas.{and_left, and_right}
use Rattle.weak_laws.specs.Tables.Structures.{Cell, bucket_count, key_of, binding_of, chain_bindings, has_key, is_bucket_full, IsTable}
use Rattle.weak_laws.specs.Tables.Stages.{graph_of}
use Rattle.weak_laws.proofs.OfTables.StageLemmas.{prefix_trans}
use Rattle.weak_tables.specs.Walks.{Grows}
use Rattle.weak_tables.specs.Calls.{TableCall}
use Rattle.weak_tables.specs.Laws.{cells_in, bound_in, BucketsStaySmall}
use Rattle.weak_tables.proofs.SearchLemmas.{bucket_below}
use Rattle.weak_tables.proofs.FoundLemmas.{Did, DidNothing, LeftApart, DidPut, DidTake, did, laid, same_table, apart_table, call_grows, calls_grow}

-- a cell with a key binds it
one_bound : (o : Option Node) → IsTrue (is_some (key_of o)) → length (binding_of o) ≡ 1
one_bound None h = absurd (let clash : false ≡ true = h in cc)
one_bound (Some (Plain tag fields)) h = absurd (let clash : false ≡ true = h in cc)
one_bound (Some (Raw tag fields)) h = absurd (let clash : false ≡ true = h in cc)
one_bound (Some (Ephe [] datum)) h = absurd (let clash : false ≡ true = h in cc)
one_bound (Some (Ephe (None ∷ []) datum)) h = absurd (let clash : false ≡ true = h in cc)
one_bound (Some (Ephe (Some k ∷ []) datum)) h = refl
one_bound (Some (Ephe (key ∷ other ∷ keys) datum)) h = absurd (let clash : false ≡ true = h in cc)

-- so a bucket all of whose cells have keys binds as many
all_bound : (g : Graph) (cells : List Cell) → IsTrue (list_all (has_key g) cells) → length (chain_bindings g cells) ≡ length cells
all_bound g [] full = refl
all_bound g (c ∷ cells) full =
    let one = one_bound (node_at g c.ephe) (and_left (has_key g c) _ full) in
    let rest = all_bound g cells (and_right (has_key g c) _ full) in
    let both = length-append (binding_of (node_at g c.ephe)) (chain_bindings g cells) in
    omega (arith, one, rest, both)

-- a put makes at most one cell, where it may
put_small : (g : Graph) (k : Label) (chains grown : List (List Cell)) (i most : ℕ) → length chains ≡ bucket_count → Grows g k chains grown → (grown ≡ chains) ⊎ IsTrue (is_bucket_full g k chains) → bound_in g chains i ≤ most → cells_in chains i ≤ most + 1 → cells_in grown i ≤ most + 1
put_small g k chains grown i most count (inl same) spare few cells = subst (λ (css : List (List Cell)). cells_in css i ≤ most + 1) (sym same) cells
put_small g k chains grown i most count (inr more) (inl same) few cells = subst (λ (css : List (List Cell)). cells_in css i ≤ most + 1) (sym same) cells
put_small g k chains grown i most count (inr more) (inr full) few cells =
    subst (λ (css : List (List Cell)). cells_in css i ≤ most + 1) (sym more.more)
    (⊎_elim (λ same. here same) (λ order. there (⊎_elim (λ less. λ same. absurd (omega arith)) (λ less. λ same. absurd (omega arith)) order)) (cases_order i bucket))
  where
    bucket : ℕ
    bucket = k.serial % bucket_count

    longer : List (List Cell)
    longer = set chains bucket (more.cell ∷ get_or chains bucket [])

    here : i ≡ bucket → length (get_or longer i []) ≤ most + 1
    here same =
        let bound : length (chain_bindings g (get_or chains bucket [])) ≡ length (get_or chains bucket []) = all_bound g (get_or chains bucket []) full in
        let few_here : length (chain_bindings g (get_or chains bucket [])) ≤ most = subst (λ (n : ℕ). bound_in g chains n ≤ most) same few in
        let below : bucket < length chains = subst (λ (n : ℕ). bucket < n) (sym count) (bucket_below k.serial) in
        let now : length (get_or longer bucket []) ≡ length (get_or chains bucket []) + 1 = ap length (get_or-set_same chains bucket (more.cell ∷ get_or chains bucket []) [] below) ∙ (omega arith) in
        subst (λ (n : ℕ). length (get_or longer n []) ≤ most + 1) (sym same) (omega (arith, bound, few_here, now))

    there : i ≢ bucket → length (get_or longer i []) ≤ most + 1
    there other = subst (λ (cells : List Cell). length cells ≤ most + 1) (sym (get_or-set_other chains bucket i (more.cell ∷ get_or chains bucket []) [] other)) cells

-- a call keeps a bucket small
call_small : (z : Sizes) (root : Label) (c : TableCall) (old new : List Entry) (chains last : List (List Cell)) → IsTable (graph_of z old) root chains → IsTable (graph_of z new) root last → (i most : ℕ) → bound_in (graph_of z old) chains i ≤ most → cells_in chains i ≤ most + 1
    → Did z root c old chains new → cells_in last i ≤ most + 1
call_small z root c old new chains last was now i most few cells (DidNothing same) = laid z root c old new chains last was now (λ css. cells_in css i ≤ most + 1) chains (same_table z root c old new chains last was now same) cells
call_small z root c old new chains last was now i most few cells (LeftApart own goes apart) =
    laid z root c old new chains last was now (λ css. cells_in css i ≤ most + 1) chains (apart_table z root c old new chains last was now own goes apart) cells
call_small z root c old new chains last was now i most few cells (DidPut key w other x) =
    laid z root c old new chains last was now (λ css. cells_in css i ≤ most + 1) x.grown x.table (put_small (graph_of z old) key chains x.grown i most was.count x.cells x.spare few cells)
call_small z root c old new chains last was now i most few cells (DidTake key other x) = laid z root c old new chains last was now (λ css. cells_in css i ≤ most + 1) chains x.table cells

-- and so do calls
pub small_law : BucketsStaySmall
small_law z root [] old new chains last i most table (same, chains_same) few cells = subst (λ (css : List (List Cell)). cells_in css i ≤ most + 1) (sym chains_same) cells
small_law z root (c ∷ cs) old new chains last i most table (front, mid, runs, there, rest) few cells =
    let done = did z root old front chains c runs in
    let rest_grows = calls_grow z root cs front new mid last rest in
    let grows = call_grows z root c old front chains done in
    let here = call_small z root c old front chains mid table there i most (few old chains (call_grows z root c old old chains (DidNothing refl)) (prefix_trans old front new grows rest_grows) table) cells done in
    small_law z root cs front new mid last i most there rest (λ h now since until is. few h now (prefix_trans old front h grows since) until is) here
