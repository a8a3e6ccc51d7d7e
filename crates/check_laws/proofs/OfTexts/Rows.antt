-- Worked rows: a history in which a binding is found and a bucket stays small, and two runs of one text that differ in a count.
use Rattle.std.proofs.Common.{◌≡◌, ◌≢◌, ◌<◌, ◌≤◌, ◌%◌, ℕ, zero, suc, Bool, false, true, not, ◌&&◌, inl, inr, ⊎_elim, IsTrue, List, [], ◌∷◌, ◌++◌, take, drop, length, length-append, get_or, replicate, slice_get, slice_index_or, Option, pos, refl, ap, sym, ◌∙◌, subst, rules, arith, Some, None, append_assoc, take-append-drop}
use Rattle.std.proofs.lemmas.List.{get_or-replicate}
use Rattle.model_core.specs.declared.label.Label.{Label}
use Rattle.model_core.specs.declared.command.Command as declared_command
use Rattle.model_core.specs.declared.command.Command.TheVariants.{Forget, Alloc, Load, Store, Ephe, SetKey, GetKey, SetData}
use Rattle.model_core.specs.declared.entry.Entry.{Entry}
use Rattle.model_core.specs.declared.entry.Entry.TheVariants.{Command}
use Rattle.model_core.specs.declared.graph.Value.{Value}
use Rattle.model_core.specs.declared.graph.Value.TheVariants.{Int, Block, Nothing}
use Rattle.model_core.specs.declared.graph.Node.{Node}
use Rattle.model_core.specs.declared.graph.Node.TheVariants.{Plain, Raw, Ephe as Weak}
use Rattle.model_core.specs.declared.reply.Reply.{Reply}
use Rattle.model_core.specs.declared.reply.Reply.TheVariants as reply
use Rattle.model_core.specs.declared.reply.Applied.TheVariants.{Replied}
use Rattle.model_core.specs.declared.state.State.{State}
use Rattle.model_core.specs.Graph.{Graph, has_label, node_at, same_label}
use Rattle.model_core.specs.declared.state.Sizes.{Sizes}
use Rattle.model_core.specs.Domains.{IsWithinLimits, opening}
use Rattle.model_core.specs.Entries.{next, reply as reply_to}
use Rattle.model_core.specs.Reach.{reachable}
use Rattle.model_core.specs.History.{Legal, state_after}
use Rattle.model_core.proofs.Reach.ReachLemmas.{and_left, and_right, or_cases}
use Rattle.model_core.proofs.Graphs.GraphLemmas.{same_label-true}
use Rattle.weak_laws.specs.Tables.Structures.{Binding, Cell, IsTable, Links, binding_of, bindings, bucket_count, chain_bindings, datum_at, empty_chains, is_bucket, is_bucket_full, keys_of}
use Rattle.weak_laws.specs.Tables.Thinning.{WasOutside, state_of, taken_by}
use Rattle.weak_laws.specs.Tables.Performing.{Performed}
use Rattle.weak_laws.specs.Tables.Stages.{graph_of, held_in}
use Rattle.weak_laws.proofs.OfTables.MakeLemmas.{table_empty}
use Rattle.weak_laws.proofs.OfTables.ChangeLemmas.{emptied_same}
use Rattle.weak_laws.proofs.OfTables.StepLemmas.{legal_parts}
use Rattle.weak_laws.proofs.OfTables.UniqueLemmas.{layout_law}
use Rattle.weak_tables.specs.Laws.{bound_in, cells_in}
use Rattle.weak_tables.proofs.SmallLemmas.{small_law}
use Rattle.weak_tables.specs.Tables.{Gets, Puts, TakeAnswers, Takes}
use Rattle.weak_tables.specs.Calls.{AllSpare, CallsRun, TableCall, Put, Take}
use Rattle.weak_tables.specs.Walks.{CellAnswers, LinksCell, LooksUp}
use Rattle.weak_tables.proofs.SearchLemmas.{bucket_below, midst_begins, midst_found, midst_passed}
use Rattle.weak_tables.proofs.TakeLemmas.{all_cleared, took}
use Rattle.weak_tables.proofs.PutLemmas.{cell_linked, got_found, put_done, ready_grown}
use Rattle.weak_tables.proofs.FoundLemmas.{bindings_law, lookups_law, puts_law, takes_law}
use Rattle.table_text.specs.declared.version.Version.{Version}
use Rattle.table_text.specs.declared.line.TableLine.TheVariants.{Get as LookUp}
use Rattle.table_text.specs.declared.machine.reply.LineReply.{LineReply}
use Rattle.table_text.specs.declared.machine.reply.LineReply.TheVariants as machine
use Rattle.table_text.specs.Machine.Machine.{Effect, IsLost, IsNew, IsThere, KeepsKey, MachineRuns, MayGo, Shows, TableState, WithKey, opened}
use Rattle.check_laws.specs.Texts.Agreeing.{NoneRefused}
use Rattle.check_laws.specs.Texts.Worked.{block, chains, counting_lines, counting_replies, fields, idle_collection, sizes, worked}
use Rattle.check_laws.proofs.OfTexts.Alike.{may_same}
use Rattle.check_laws.proofs.OfTexts.Lines.{texts_law}
use Rattle.check_laws.proofs.OfTexts.Parting.{lone_held, stays}

-- the history is legal
worked_legal : Legal sizes worked
unfolding reachable
worked_legal = search rules

limits : IsWithinLimits sizes
limits = search rules

-- each front of the history is legal
front_legal : (n : ℕ) → Legal sizes (take n worked)
front_legal n = (legal_parts (opening sizes) (take n worked) (drop n worked) (subst (Legal sizes) (sym (take-append-drop n worked)) worked_legal)).0

-- the history grows by a command
step : (n : ℕ) (c : declared_command.Command) (r : Reply) → take (suc n) worked ≡ take n worked ++ [] ++ Command 0 c false ∷ [] → reply_to (state_of sizes (take n worked ++ [])) (Command 0 c false) ≡ Replied r → Performed sizes (take n worked) (take (suc n) worked) c r
step n c r appends replies = record { between = []; collector = refl; full = false; appends = appends; legal = front_legal (suc n); replies = replies }

-- the fronts before the first call, behind each put, behind the take and behind the look-up
abbrev start : List Entry
start = take 4 worked

abbrev one_put : List Entry
one_put = take 16 worked

abbrev both_put : List Entry
both_put = take 28 worked

abbrev second_out : List Entry
second_out = take 37 worked

abbrev answered : List Entry
answered = take 49 worked

abbrev root : Label
root = block 1

-- a `table_put` into a bucket without a cell
put_made : (k : Label) (kr : ℕ) → kr < 8 → (chains : List (List Cell)) (first : List Entry) → Legal sizes first → held_in sizes first 1 ≡ Block root → held_in sizes first kr ≡ Block k → held_in sizes first 4 ≡ Int (pos 7) → IsTable (graph_of sizes first) root chains
    → {f0 f1 f2 f3 f4 f5 f6 f7 f8 f9 f10 new : List Entry} {e n : Label} {a b c d r s t u v : Reply}
    → Performed sizes first f0 (Load 9 1 (k.serial % bucket_count)) (reply.Int (pos 0)) → Performed sizes f0 f1 (Ephe 8 1) (reply.Block e) → Performed sizes f1 f2 (Alloc 9 0 2) (reply.Block n)
    → Performed sizes f2 f3 (Store 9 0 8) a → Performed sizes f3 f4 (Load 10 1 (k.serial % bucket_count)) b → Performed sizes f4 f5 (Store 9 1 10) c → Performed sizes f5 f6 (Store 1 (k.serial % bucket_count) 9) d
    → Performed sizes f6 f7 (SetData 8 4) r → Performed sizes f7 f8 (SetKey 8 0 kr) s → Performed sizes f8 f9 (Forget 8) t → Performed sizes f9 f10 (Forget 9) u → Performed sizes f10 new (Forget 10) v
    → held_in sizes f0 1 ≡ Block root → Puts sizes first new root chains k (Int (pos 7))
put_made k kr few chains first legal held key item table load ephe node named head next linked datum set eight nine ten there =
    let below = bucket_below k.serial in
    let m = midst_begins sizes limits root chains k 1 kr (omega arith) few first table _ _ legal below held load in
    let missed = midst_passed sizes limits root chains k 1 kr (omega arith) few first table _ _ false 0 m (λ none. none) in
    let made : CellAnswers sizes _ _ true = (_, (λ full. cc), record { ephe = _; between = _; first = ephe; room = (λ full. cc); second = node }) in
    let links : LinksCell sizes _ _ 1 (k.serial % bucket_count) = record { named = _; read = _; followed = _; ephe_reply = _; head_reply = _; next_reply = _; linked_reply = _; ephe = named; head = head; next = next; linked = linked } in
    let ready = cell_linked sizes limits root chains k 1 (omega arith) _ load.legal below there missed.0.reads.table _ _ made missed.0.none links (is_bucket_full (graph_of sizes first) k chains) missed.1 in
    let grown = ready_grown sizes first _ _ root chains k _ missed.0 ready in
    put_done sizes limits root chains k (Int (pos 7)) (λ none. cc) kr 4 few (omega arith) first _ _ _ _ _ _ _ grown (λ all. all) key item datum set (all_cleared sizes limits _ _ _ _ _ _ _ eight nine ten)

begun_table : IsTable (graph_of sizes start) root (empty_chains bucket_count)
begun_table = table_empty (graph_of sizes start) root 0 refl

first_put : Puts sizes start one_put root (empty_chains bucket_count) (block 2) (Int (pos 7))
first_put =
    put_made (block 2) 2 (omega arith) (empty_chains bucket_count) start (front_legal 4) refl refl refl begun_table (step 4 _ _ refl refl) (step 5 _ _ refl refl) (step 6 _ _ refl refl) (step 7 _ _ refl refl) (step 8 _ _ refl refl)
    (step 9 _ _ refl refl) (step 10 _ _ refl refl) (step 11 _ _ refl refl) (step 12 _ _ refl refl) (step 13 _ _ refl refl) (step 14 _ _ refl refl) (step 15 _ _ refl refl) refl

second_put : Puts sizes one_put both_put root first_put.grown (block 3) (Int (pos 7))
second_put =
    put_made (block 3) 3 (omega arith) first_put.grown one_put (front_legal 16) refl refl refl first_put.table (step 16 _ _ refl refl) (step 17 _ _ refl refl) (step 18 _ _ refl refl) (step 19 _ _ refl refl) (step 20 _ _ refl refl)
    (step 21 _ _ refl refl) (step 22 _ _ refl refl) (step 23 _ _ refl refl) (step 24 _ _ refl refl) (step 25 _ _ refl refl) (step 26 _ _ refl refl) (step 27 _ _ refl refl) refl

-- the search of a key in the first cell of its bucket
cell_found : (k : Label) (kr : ℕ) → kr < 8 → (first : List Entry) → Legal sizes first → held_in sizes first kr ≡ Block k → {f0 f1 f2 f3 : List Entry} {n : Label} {r u : Reply}
    → Performed sizes first f0 (Load 9 1 (k.serial % bucket_count)) (reply.Block n) → Performed sizes f0 f1 (Load 10 9 0) r → Performed sizes f1 f2 (GetKey 10 10 0) (reply.Block k) → Performed sizes f2 f3 (Load 8 9 0) u → LooksUp sizes first f3 1 k true
cell_found k kr few first legal key load ephe got mine root chains held table =
    let m = midst_begins sizes limits root chains k 1 kr (omega arith) few first table _ _ legal (bucket_below k.serial) held load in
    midst_found sizes limits root chains k 1 kr (omega arith) few first table _ _ _ _ _ _ false 0 m tt key ephe got _ _ mine refl

take_answers : TakeAnswers sizes both_put second_out root second_put.grown (Some (block 3)) reply.Done
take_answers =
    took sizes limits root second_put.grown (block 3) 1 3 (omega arith) both_put (take 32 worked) refl refl second_put.table _ _ second_out _ _
    (cell_found (block 3) 3 (omega arith) both_put (front_legal 28) refl (step 28 _ _ refl refl) (step 29 _ _ refl refl) (step 30 _ _ refl refl) (step 31 _ _ refl refl))
    (step 32 _ _ refl refl) (step 33 _ _ refl refl) (all_cleared sizes limits _ _ _ _ _ _ _ (step 34 _ _ refl refl) (step 35 _ _ refl refl) (step 36 _ _ refl refl))

take_of : TakeAnswers sizes both_put second_out root second_put.grown (Some (block 3)) reply.Done → Takes sizes both_put second_out root second_put.grown (block 3)
take_of (inl x) = x.1
take_of (inr x) = absurd (let clash : reply.Done ≡ reply.Empty = x.0 in cc)

second_taken : Takes sizes both_put second_out root second_put.grown (block 3)
second_taken = take_of take_answers

-- the collection comes before the first command of the look-up
load_beside : Performed sizes second_out (take 42 worked) (Load 9 1 2) (reply.Block (block 5))
load_beside = record { between = idle_collection; collector = refl; full = false; appends = refl; legal = front_legal 42; replies = refl }

-- a look-up of the first key answers what was put
found : Gets sizes second_out answered root second_put.grown (block 2) 5 (reply.Int (pos 7))
found =
    got_found sizes limits root second_put.grown (block 2) 1 2 2 5 (omega arith) (omega arith) (omega arith) second_out (take 45 worked) refl refl second_taken.table _ answered _
    (cell_found (block 2) 2 (omega arith) second_out (front_legal 37) refl load_beside (step 42 _ _ refl refl) (step 43 _ _ refl refl) (step 44 _ _ refl refl))
    (step 45 _ _ refl refl) (all_cleared sizes limits _ _ _ _ _ _ _ (step 46 _ _ refl refl) (step 47 _ _ refl refl) (step 48 _ _ refl refl))

-- whether no entry takes a key
abbrev untaken : State → List Entry → Label → Bool
untaken s [] k = true
untaken s (e ∷ h) k = not (has_label (taken_by s e) k) && untaken (next s e) h k

not_both : (b : Bool) → IsTrue (not b) → IsTrue b → ⊥
not_both true none is = let clash : false ≡ true = none in cc
not_both false none is = let clash : false ≡ true = is in cc

never_taken : (s : State) (before : List Entry) (e : Entry) (rest : List Entry) (k : Label) → IsTrue (untaken s ((before ++ e ∷ []) ++ rest) k) → IsTrue (has_label (taken_by (state_after s before) e) k) → ⊥
never_taken s [] e rest k none taken = not_both (has_label (taken_by s e) k) (and_left (not (has_label (taken_by s e) k)) _ none) taken
never_taken s (b ∷ before) e rest k none taken = never_taken (next s b) before e rest k (and_right (not (has_label (taken_by s b) k)) _ none) taken

-- the first key is reached up to the end of the look-up
reached : (old new more : List Entry) → new ++ more ≡ answered → WasOutside sizes old new (block 2) → ⊥
reached old new more all was =
    let here : answered ≡ (was.front ++ was.entry ∷ []) ++ (was.through.rest ++ more) = sym all ∙ (ap (λ (h : List Entry). h ++ more) was.through.appends ∙ append_assoc (was.front ++ was.entry ∷ []) was.through.rest more) in
    never_taken (opening sizes) was.front was.entry (was.through.rest ++ more) (block 2) (subst (λ (h : List Entry). IsTrue (untaken (opening sizes) h (block 2))) here refl) was.taken

serials_differ : (m n : ℕ) → m < n → block m ≢ block n
serials_differ m n less same = let serials : m ≡ n = ap (λ (l : Label). l.serial) same in absurd (omega (arith, less, serials))

keys_differ : block 2 ≢ block 3
keys_differ same = serials_differ 2 3 (omega arith) same

-- so say the laws: the put and the take of the second key leave the first with its datum
put_keeps : datum_at (bindings (graph_of sizes both_put) second_put.grown) (block 2) ≡ datum_at (bindings (graph_of sizes one_put) first_put.grown) (block 2)
put_keeps = puts_law sizes one_put both_put root first_put.grown (block 3) (block 2) (Int (pos 7)) second_put keys_differ (reached one_put both_put (drop 28 answered) refl)

take_keeps : datum_at (bindings (graph_of sizes second_out) second_put.grown) (block 2) ≡ datum_at (bindings (graph_of sizes both_put) second_put.grown) (block 2)
take_keeps = takes_law sizes both_put second_out root second_put.grown (block 3) (block 2) second_taken keys_differ (reached both_put second_out (drop 37 answered) refl)

-- the look-up has no other answer, by what was bound as it began
looked_up : (r : Reply) → Gets sizes second_out answered root second_put.grown (block 2) 5 r → r ≡ reply.Int (pos 7)
looked_up r x = lookups_law sizes second_out answered root second_put.grown (block 2) 5 r (Int (pos 7)) x (take_keeps ∙ (put_keeps ∙ first_put.bound)) (reached second_out answered [] refl)

-- and by what was put before other calls
abbrev between : List TableCall
between = Put (Some (block 3)) (Int (pos 7)) reply.Done ∷ Take (Some (block 3)) reply.Done ∷ []

calls_run : CallsRun sizes root between one_put first_put.grown second_out second_put.grown
calls_run = (both_put, second_put.grown, inl (refl, second_put), second_put.table, (second_out, second_put.grown, take_answers, second_taken.table, (refl, refl)))

spared : AllSpare (block 2) between
spared = ((λ done is. keys_differ (let same : block 2 ≡ block 3 = cc in same)), ((λ done is. keys_differ (let same : block 2 ≡ block 3 = cc in same)), tt))

found_after_calls : (r : Reply) → Gets sizes second_out answered root second_put.grown (block 2) 5 r → r ≡ reply.Int (pos 7)
found_after_calls r x =
    bindings_law sizes root between start one_put second_out answered (empty_chains bucket_count) second_put.grown (block 2) (Int (pos 7)) 5 r first_put calls_run spared x
    (reached one_put answered [] refl)

-- what the fields hold leads to the chains
is_linked : (i : ℕ) → i < bucket_count → Links (graph_of sizes both_put) (get_or fields i Nothing) (get_or chains i [])
is_linked zero below = refl
is_linked (suc zero) below = refl
is_linked (suc (suc zero)) below = (refl, (Int (pos 0), record { tag = 0; node = refl; weak = refl }, refl))
is_linked (suc (suc (suc zero))) below = (refl, (Int (pos 0), record { tag = 0; node = refl; weak = refl }, refl))
is_linked (suc (suc (suc (suc i)))) below = subst (Links (graph_of sizes both_put) (get_or (replicate 60 (Int (pos 0))) i Nothing)) (sym (get_or-replicate 60 i [] [] (omega (arith, below)))) (get_or-replicate 60 i (Int (pos 0)) Nothing (omega (arith, below)))

is_bucket_at : (i : ℕ) → i < bucket_count → IsTrue (is_bucket i (chain_bindings (graph_of sizes both_put) (get_or chains i [])))
is_bucket_at zero below = refl
is_bucket_at (suc zero) below = refl
is_bucket_at (suc (suc zero)) below = refl
is_bucket_at (suc (suc (suc zero))) below = refl
is_bucket_at (suc (suc (suc (suc i)))) below = subst (λ (cs : List Cell). IsTrue (is_bucket (suc (suc (suc (suc i)))) (chain_bindings (graph_of sizes both_put) cs))) (sym (get_or-replicate 60 i [] [] (omega (arith, below)))) refl

-- the chains are those of the table
chains_are : second_put.grown ≡ chains
chains_are = layout_law (graph_of sizes both_put) root second_put.grown chains second_put.table
    (record { tag = 0; fields = fields; node = refl; size = refl; count = refl; linked = is_linked; once = refl; bucket = is_bucket_at })

-- where the laws end: the key is forgotten, and the binding goes; its cell stays
both_bound : bindings (graph_of sizes both_put) chains ≡ (block 2, Int (pos 7)) ∷ (block 3, Int (pos 7)) ∷ []
both_bound = refl

one_bound : bindings (graph_of sizes answered) chains ≡ (block 2, Int (pos 7)) ∷ []
one_bound = refl

none_bound : bindings (graph_of sizes worked) chains ≡ []
none_bound = refl

-- whether one cell at most hangs in a bucket
abbrev is_last : Option Node → Bool
is_last (Some (Plain tag (first ∷ Int v ∷ []))) = true
is_last _ = false

abbrev leads_to_one : Graph → Value → Bool
leads_to_one g (Block l) = is_last (node_at g l)
leads_to_one g _ = true

abbrev is_short : ℕ → Graph → Option Node → Bool
is_short i g (Some (Plain tag fields)) = leads_to_one g (get_or fields i Nothing)
is_short i g _ = true

one_cell : (g : Graph) (v : Value) (cells : List Cell) → IsTrue (leads_to_one g v) → Links g v cells → length cells ≤ 1
one_cell g v [] short links = omega arith
one_cell g v (c ∷ []) short links = omega arith
one_cell g v (c ∷ d ∷ cells) short (here, (rest, cell, (there, more))) =
    let node : node_at g c.node ≡ Some (Plain cell.tag (Block c.ephe ∷ Block d.node ∷ [])) = cell.node ∙ ap (λ (r : Value). Some (Plain cell.tag (Block c.ephe ∷ r ∷ []))) there in
    let clash : false ≡ true = sym (ap is_last node) ∙ subst (λ (x : Value). IsTrue (leads_to_one g x)) here short in absurd (cc)

few_bound : (o : Option Node) → length (binding_of o) ≤ 1
few_bound None = omega arith
few_bound (Some (Plain tag fields)) = omega arith
few_bound (Some (Raw tag fields)) = omega arith
few_bound (Some (Weak [] datum)) = omega arith
few_bound (Some (Weak (None ∷ []) datum)) = omega arith
few_bound (Some (Weak (Some k ∷ []) datum)) = omega arith
few_bound (Some (Weak (key ∷ other ∷ keys) datum)) = omega arith

-- then one key at most is bound in it
short_binds : (g : Graph) (i : ℕ) → i < bucket_count → IsTrue (is_short i g (node_at g root)) → (now : List (List Cell)) → IsTable g root now → bound_in g now i ≤ 1
short_binds g i below short now table = go (get_or now i []) (one_cell g (get_or table.fields i Nothing) (get_or now i []) (subst (λ (o : Option Node). IsTrue (is_short i g o)) table.node short) (table.linked i below))
  where
    go : (cells : List Cell) → length cells ≤ 1 → length (chain_bindings g cells) ≤ 1
    go [] few = omega arith
    go (c ∷ []) few =
        let one = few_bound (node_at g c.ephe) in
        let both = length-append (binding_of (node_at g c.ephe)) [] in omega (arith, one, both)
    go (c ∷ d ∷ cells) few = absurd (omega (arith, few))

-- at each front
abbrev short_all : ℕ → State → List Entry → Bool
short_all i s [] = is_short i s.graph (node_at s.graph root)
short_all i s (e ∷ h) = is_short i s.graph (node_at s.graph root) && short_all i (next s e) h

short_front : (i : ℕ) (s : State) (h rest : List Entry) → IsTrue (short_all i s (h ++ rest)) → IsTrue (is_short i (state_after s h).graph (node_at (state_after s h).graph root))
short_front i s [] [] short = short
short_front i s [] (e ∷ rest) short = and_left (is_short i s.graph (node_at s.graph root)) _ short
short_front i s (e ∷ h) rest short = short_front i (next s e) h rest (and_right (is_short i s.graph (node_at s.graph root)) _ short)

-- so the bucket of the first key has two cells at most
bucket_small : cells_in second_put.grown 2 ≤ 2
bucket_small =
    small_law sizes root (Put (Some (block 2)) (Int (pos 7)) reply.Done ∷ between) start second_out (empty_chains bucket_count) second_put.grown 2 1 begun_table (one_put, first_put.grown, inl (refl, first_put), first_put.table, calls_run)
    (λ front now since until table.
    let here : second_out ≡ front ++ until.rest = until.appends in
    short_binds (graph_of sizes front) 2 (omega arith) (short_front 2 (opening sizes) front until.rest (subst (λ (h : List Entry). IsTrue (short_all 2 (opening sizes) h)) here refl)) now table)
    (omega arith)

-- it has one, which stays though its key is gone
cell_stays : (cells_in chains 2 ≡ 1) × (bound_in (graph_of sizes answered) chains 2 ≡ 1) × (bound_in (graph_of sizes worked) chains 2 ≡ 0)
cell_stays = (refl, refl, refl)

-- The two runs of a text: a count finds the binding of a key that no register holds, or doesn't.
abbrev key : Label
key = block 20

abbrev lost : Label
lost = block 21

abbrev standing : Option Label → Option Label → List Binding → TableState
standing first second bound = record { registers = first ∷ second ∷ None ∷ None ∷ None ∷ []; bindings = bound; slots = replicate 16 None }

abbrev with_both : List Binding
with_both = (key, Int (pos 7)) ∷ (lost, Int (pos 8)) ∷ []

abbrev with_one : List Binding
with_one = (key, Int (pos 7)) ∷ []

abbrev before_count : List TableState
before_count = standing (Some key) None [] ∷ standing (Some key) (Some lost) [] ∷ standing (Some key) (Some lost) with_one ∷ standing (Some key) (Some lost) with_both ∷ standing (Some key) None with_both ∷ []

is_lost : IsLost (standing (Some key) None with_both) lost
is_lost (zero, at) = serials_differ 20 21 (omega arith) (let same : key ≡ lost = cc in same)
is_lost (suc i, at) = lone_held 4 lost i at

is_new : (first second : Option Label) (bound : List Binding) (k : Label) → ((i : ℕ) → slice_get (first ∷ second ∷ []) i ≡ Some (Some k) → ⊥) → has_label (keys_of bound) k ≡ false → IsNew (standing first second bound) k
is_new first second bound k apart unbound = record { lost = go; unbound = unbound; unset = λ h. lone_held 16 k h.0 h.1 }
  where
    go : IsLost (standing first second bound) k
    go (zero, at) = apart 0 at
    go (suc zero, at) = apart 1 at
    go (suc (suc i), at) = lone_held 3 k i at

none_there : (i : ℕ) → slice_get (None ∷ None ∷ []) i ≡ Some (Some key) → ⊥
none_there i at = lone_held 2 key i at

other_there : (i : ℕ) → slice_get (Some key ∷ None ∷ []) i ≡ Some (Some lost) → ⊥
other_there zero at = serials_differ 20 21 (omega arith) (let same : key ≡ lost = cc in same)
other_there (suc i) at = lone_held 1 lost i at

-- the lines before the count, and the count and the look-up behind it
counting_runs : (version : Version) (z : Sizes) (left : TableState) (n : ℕ) → MayGo (standing (Some key) None with_both) left → left.registers ≡ (Some key ∷ replicate 4 None) → datum_at left.bindings key ≡ Some (Int (pos 7)) → length left.bindings ≡ n
    → MachineRuns version z [] opened counting_lines (counting_replies n) (before_count ++ left ∷ left ∷ [])
counting_runs version z left n goes held bound many = (
  stays version z _ _ _ _ _ (refl, (key, is_new None None [] key none_there refl, refl)),
  (
    stays version z _ _ _ _ _ (refl, (lost, is_new (Some key) None [] lost other_there refl, refl)),
    (
      stays version z _ _ _ _ _ (refl, refl, refl, record { rest = refl; bound = refl }),
      (
        stays version z _ _ _ _ _ (refl, refl, refl, record { rest = refl; bound = refl }),
        (
          stays version z _ _ _ _ _ (refl, refl),
          (
            record { left = left; goes = goes; does = inl (record { goes = may_same left; number = n; answers = refl; most = omega (arith, many); least = omega (arith, many) }) },
            (stays version z _ _ _ _ _ (shows_seven left held bound), tt),
          ),
        ),
      ),
    ),
  ),
)
  where
    shows_seven : (s : TableState) → s.registers ≡ (Some key ∷ replicate 4 None) → datum_at s.bindings key ≡ Some (Int (pos 7)) → Effect s (LookUp 1) (machine.Number (pos 7)) s
    shows_seven s held bound =
        subst (λ (rs : List (Option Label)). WithKey (slice_index_or rs 0 None) s (machine.Number (pos 7)) s (λ k. Shows (datum_at s.bindings k) (machine.Number (pos 7)) × (s ≡ s))) (sym held)
        (subst (λ (o : Option Value). Shows o (machine.Number (pos 7))) (sym bound) refl, refl)

-- the collector takes the binding whose key no register holds
one_left : MayGo (standing (Some key) None with_both) (standing (Some key) None with_one)
one_left = record { registers = refl; bindings = inl ([], refl, inr (is_lost, refl)); slots = emptied_same (IsLost (standing (Some key) None with_both)) (replicate 16 None); together = together }
  where
    together : (k : Label) → IsThere (standing (Some key) None with_one) k → KeepsKey (standing (Some key) None with_both) (standing (Some key) None with_one) k
    together k (inr h) = absurd (lone_held 16 k h.0 h.1)
    together k (inl h) =
        let same : key ≡ k = ⊎_elim (same_label-true key k) (λ none. absurd (let clash : false ≡ true = none in cc)) (or_cases (same_label key k) false h) in
        record { datum = subst (λ (l : Label). datum_at with_one l ≡ datum_at with_both l) same refl; slots = λ i at. at }

-- the one run counts two bindings
counts_two : (version : Version) (z : Sizes) → MachineRuns version z [] opened counting_lines (counting_replies 2) (before_count ++ standing (Some key) None with_both ∷ standing (Some key) None with_both ∷ [])
counts_two version z = counting_runs version z (standing (Some key) None with_both) 2 (may_same _) refl refl refl

-- and the other counts one, since the binding of the forgotten key went
counts_one : (version : Version) (z : Sizes) → MachineRuns version z [] opened counting_lines (counting_replies 1) (before_count ++ standing (Some key) None with_one ∷ standing (Some key) None with_one ∷ [])
counts_one version z = counting_runs version z (standing (Some key) None with_one) 1 one_left refl refl refl

none_full : (n : ℕ) → NoneRefused (counting_replies n)
none_full n zero e = cc
none_full n (suc zero) e = cc
none_full n (suc (suc zero)) e = cc
none_full n (suc (suc (suc zero))) e = cc
none_full n (suc (suc (suc (suc zero)))) e = cc
none_full n (suc (suc (suc (suc (suc zero))))) e = cc
none_full n (suc (suc (suc (suc (suc (suc zero)))))) e = cc
none_full n (suc (suc (suc (suc (suc (suc (suc i))))))) e = cc

-- the number in a reply
abbrev number_in : LineReply → ℕ
number_in (machine.Counted n) = n
number_in _ = 0

-- none counts fewer, since but one key is in no register: so says the law of the two runs
counts_no_fewer : (version : Version) (z : Sizes) (n : ℕ) (vs : List TableState) → MachineRuns version z [] opened counting_lines (counting_replies n) vs → 1 ≤ n
counts_no_fewer version z n [] runs = absurd runs
counts_no_fewer version z n (a ∷ []) runs = absurd runs.1
counts_no_fewer version z n (a ∷ b ∷ []) runs = absurd runs.1.1
counts_no_fewer version z n (a ∷ b ∷ c ∷ []) runs = absurd runs.1.1.1
counts_no_fewer version z n (a ∷ b ∷ c ∷ d ∷ []) runs = absurd runs.1.1.1.1
counts_no_fewer version z n (a ∷ b ∷ c ∷ d ∷ e ∷ []) runs = absurd runs.1.1.1.1.1
counts_no_fewer version z n (a ∷ b ∷ c ∷ d ∷ e ∷ vs) runs =
    let together = texts_law version version z z counting_lines (counting_replies 2) (counting_replies n) (before_count ++ standing (Some key) None with_both ∷ standing (Some key) None with_both ∷ []) (a ∷ b ∷ c ∷ d ∷ e ∷ vs) (counts_two version z) runs (none_full 2) (none_full n) in
    let count = ((((together.1 tt).1 tt).1 tt).1 tt).1 tt in
    let two : 2 ≡ count.0.first = ap number_in count.0.first_is in
    let many : n ≡ count.0.second = ap number_in count.0.second_is in
    let few = count.0.first_few refl in omega (arith, two, many, few)
