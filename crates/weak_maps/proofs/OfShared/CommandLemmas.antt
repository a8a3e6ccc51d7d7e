-- Commands that do nothing to a map.
use Rattle.std.proofs.Common.{◌≡◌, ◌⊎◌, inl, inr, ⊎_elim, ℕ, Bool, true, false, cond, List, [], ◌∷◌, ◌++◌, length, Option, Some, None, ◌≤◌, refl, ap, sym, ◌∙◌, subst, arith, eq-eqb, length-append}
use Rattle.std.proofs.lemmas.List.{length-replicate}
use Rattle.std.proofs.lemmas.Option.{slice_get_past}
use Rattle.std.specs.Prelude.{option_and_then, option_map, slice_set, unwrap_or}
use Rattle.model_core.specs.declared.label.Label.{Label}
use Rattle.model_core.specs.declared.command.Command.{Command}
use Rattle.model_core.specs.declared.command.Command.TheVariants.{SetKey}
use Rattle.model_core.specs.declared.entry.Entry.{Entry}
use Rattle.model_core.specs.declared.entry.Entry.TheVariants.{Command as CommandOf, End, Cut, Queue, Seal, Wipe, Last as LastOf, Collected, Done, Ran}
use Rattle.model_core.specs.declared.graph.Node.{Node}
use Rattle.model_core.specs.declared.graph.Node.TheVariants.{Plain, Raw, Ephe}
use Rattle.model_core.specs.declared.graph.Value.{Value}
use Rattle.model_core.specs.declared.graph.Value.TheVariants.{Block}
use Rattle.model_core.specs.declared.reply.Reply.{Reply}
use Rattle.model_core.specs.declared.state.Pending.{Pending}
use Rattle.model_core.specs.declared.state.Pending.TheVariants.{Fin, Last}
use Rattle.model_core.specs.declared.state.Sizes.{Sizes}
use Rattle.model_core.specs.declared.state.State.{State}
use Rattle.model_core.specs.Graph.{Graph, block_at, node_at, with_node}
use Rattle.model_core.specs.Domains.{domain_at, label_in, opening_domain, with_block}
use Rattle.model_core.specs.Commands.{block_in, done_with, in_bounds, key_stored, outcome}
use Rattle.model_core.specs.Entries.{after_run, next}
use Rattle.model_core.specs.History.{IsPrefix, commands}
use Rattle.model_core.specs.Laws.{written_by}
use Rattle.model_core.proofs.Commands.FrameLemmas.{inside_running}
use Rattle.model_core.proofs.Histories.HistoryLemmas.{commands-append, commands-push}
use Rattle.model_core.proofs.Commands.MoveLemmas.{moved}
use Rattle.weak_laws.specs.Tables.Thinning.{state_of}
use Rattle.weak_laws.specs.Tables.Stages.{graph_of}
use Rattle.weak_laws.specs.Maps.Tries.{fields_of, is_leaf, IsMap, IsSlot}
use Rattle.weak_laws.specs.Maps.Calls.{PerformedBy}
use Rattle.weak_laws.specs.Maps.Steps.{RespectsMap}
use Rattle.weak_laws.proofs.OfMaps.FrontLemmas.{before_or_behind, last_or_before, prefix_same, walk_along}
use Rattle.weak_laws.proofs.OfMaps.OwnLemmas.{apart_respects, at_the_end, fresh_respects, leaf_stays, nothing_between, reading_respects, IsApart}
use Rattle.weak_laws.proofs.OfMaps.RespectLemmas.{allowed_at, count_next, graph_push, state_push}
use Rattle.weak_maps.specs.Walks.{OwnQuiet}
use Rattle.weak_maps.specs.Shared.Sharing.{AllGuarded, CommandsBesideAreGuarded, EndsAreGuarded, IsBesideMaps, IsGuarded, LaterKeysAreGuarded, OwnGuarded, SeatsShareTheMap}
use Rattle.weak_maps.proofs.OfShared.SharingLemmas.{quiet_entry_is_guarded}

-- what a command does to the graph: nothing, it writes the block that it is said to write, or it makes one
pub data Does (s : State) (d : ℕ) (c : Command) (h : Graph) : Type 0 where
  Reads : h ≡ s.graph → Does s d c h
  Writes : (l : Label) (old new : Node) → written_by s d c ≡ Some l → node_at s.graph l ≡ Some old → h ≡ with_node s.graph l new → Does s d c h
  Makes : (x : Label × Node) → h ≡ s.graph ++ x ∷ [] → Does s d c h

does : (s : State) (d : ℕ) (c : Command) → Does s d c (outcome s d c).state.graph
does s d c = moved (λ (t : State). Does s d c t.graph) s d c (record {
  same = Reads refl;
  held = λ r v named. Reads refl;
  written = λ l old new is at shape named full. Writes l old new is at refl;
  made = λ is dst n named full. Makes (_, n) refl;
  registered = λ is f named. Reads refl;
  registered_last = λ is f named. Reads refl;
})

-- a block that may stand in no map stands in none, and never stood there as a leaf
beside_now : (g : Graph) (l : Label) (n : Node) → node_at g l ≡ Some n → IsBesideMaps n → IsSlot g (Block l) → ⊥
beside_now g l n there beside (inl leaf) = by n beside (subst is_leaf there leaf)
  where
    by : (m : Node) → IsBesideMaps m → is_leaf (Some m) → ⊥
    by (Plain tag fields) out leaf = leaf
    by (Raw tag fields) fits leaf = leaf
    by (Ephe [] datum) fits leaf = leaf
    by (Ephe (key ∷ []) datum) out leaf = out
    by (Ephe (key ∷ other ∷ keys) datum) fits leaf = leaf
beside_now g l n there beside (inr (fields, plain)) = by n beside (sym (ap fields_of there) ∙ plain)
  where
    by : (m : Node) → IsBesideMaps m → fields_of (Some m) ≡ Some fields → ⊥
    by (Plain tag fs) out is = out
    by (Raw tag fs) fits is = cc
    by (Ephe keys datum) fits is = cc

beside_one : (n : Node) (key : Option Label) (datum : Value) → Some n ≡ Some (Ephe (key ∷ []) datum) → IsBesideMaps n → ⊥
beside_one n key datum is beside = let same : n ≡ Ephe (key ∷ []) datum = cc in subst IsBesideMaps same beside

apart : (z : Sizes) (root : Label) (front : List Entry) (l : Label) (n : Node) → IsMap (graph_of z front) root → node_at (graph_of z front) l ≡ Some n → IsBesideMaps n → IsApart z root front l
apart z root front l n map there beside = record {
  now = λ p at_p. beside_now (graph_of z front) l n there beside (map.slots p (Block l) at_p);
  never = λ former p before at_p leaf. let stayed = leaf_stays z former front l before leaf in beside_one n stayed.0 stayed.1 (sym there ∙ stayed.2) beside;
}

-- so an entry of such a command respects a map
beside_respects : (z : Sizes) (root : Label) (d : ℕ) (front : List Entry) (c : Command) → ((l : Label) (n : Node) → written_by (state_of z front) d c ≡ Some l → node_at (graph_of z front) l ≡ Some n → IsBesideMaps n) → IsMap (graph_of z front) root
    → (full : Bool) → RespectsMap z root front (CommandOf d c full)
beside_respects z root d front c beside map true = reading_respects z root front (CommandOf d c true) refl
beside_respects z root d front c beside map false = by (does (state_of z front) d c)
  where
    by : Does (state_of z front) d c (outcome (state_of z front) d c).state.graph → RespectsMap z root front (CommandOf d c false)
    by (Reads same) = reading_respects z root front (CommandOf d c false) same
    by (Writes l was now is at_l written) = apart_respects z root front (CommandOf d c false) l now (apart z root front l was map at_l (beside l was is at_l)) written
    by (Makes x made) = fresh_respects z root front (CommandOf d c false) map x made

-- to set a key behind the first writes an ephemeron of more keys than one, or nothing
later_key : (s : State) (index : ℕ) → 1 ≤ index → (item : Option Label) (block : Option (Label × Node)) → ((key_stored s index item block).state.graph ≡ s.graph) ⊎ ((l : Label) (n : Node) → block ≡ Some (l, n) → IsBesideMaps n)
later_key s index behind None block = inl refl
later_key s index behind (Some k) None = inl refl
later_key s index behind (Some k) (Some (x, Plain tag fields)) = inl refl
later_key s index behind (Some k) (Some (x, Raw tag fields)) = inl refl
later_key s index behind (Some k) (Some (x, Ephe [] datum)) = inl refl
later_key s index behind (Some k) (Some (x, Ephe (key ∷ []) datum)) =
    inl (ap (λ (o : Option (Option Label)). (in_bounds s o (λ _. done_with (with_block s x (Ephe (slice_set (key ∷ []) index (Some k)) datum)))).state.graph) (slice_get_past (key ∷ []) index behind))
later_key s index behind (Some k) (Some (x, Ephe (key ∷ other ∷ keys) datum)) = inr (λ l n is. subst IsBesideMaps (ap (λ (o : Option (Label × Node)). (unwrap_or o (x, Ephe (key ∷ other ∷ keys) datum)).1) is) tt)

pub later_key_respects : (z : Sizes) (root : Label) (d : ℕ) (front : List Entry) (ephe index item : ℕ) → 1 ≤ index → IsMap (graph_of z front) root → (full : Bool) → RespectsMap z root front (CommandOf d (SetKey ephe index item) full)
later_key_respects z root d front ephe index item behind map true = reading_respects z root front (CommandOf d (SetKey ephe index item) true) refl
later_key_respects z root d front ephe index item behind map false =
    let s : State = state_of z front in
    ⊎_elim (λ same. reading_respects z root front (CommandOf d (SetKey ephe index item) false) same)
    (λ beside. beside_respects z root d front (SetKey ephe index item) (λ l n is at_l. beside l n (ap (option_and_then (block_at s.graph)) is ∙ ap (option_map (λ m. (l, m))) at_l)) map false)
    (later_key s index behind (label_in s d item) (block_in s d ephe))

-- and is guarded, wherever the command's stretch began
guarded_command : (z : Sizes) (root : Label) (d : ℕ) (base old new : List Entry) (c : Command) (r : Reply) (p : PerformedBy z d old new c r) → (IsMap (graph_of z (old ++ p.between)) root → (full : Bool) → RespectsMap z root (old ++ p.between) (CommandOf d c full))
    → OwnGuarded z root base d old new
guarded_command z root d base old new c r p respects front e here since until own =
    let end = at_the_end z root d old new c r p front e since until own in
    let mid : List Entry = old ++ p.between in
    let entry : Entry = CommandOf d c p.full in
    subst (λ (w : List Entry × Entry). IsGuarded z root base w.0 w.1 d) (λ i. (sym end.0 i, sym end.1 i))
    (record {
      own = eq-eqb d d refl;
      first = mid;
      last = mid ++ entry ∷ [];
      behind = subst (IsPrefix base) end.0 here;
      since = prefix_same mid;
      until = prefix_same (mid ++ entry ∷ []);
      guards = λ before map placed f x a b mine others.
          ⊎_elim (λ early. absurd (nothing_between mid f x a early)) (λ is. subst (λ (w : List Entry × Entry). RespectsMap z root w.0 w.1) (λ i. (sym is.0 i, sym is.1 i)) (respects map p.full)) (last_or_before mid entry f x b);
    })

pub commands_beside_are_guarded : CommandsBesideAreGuarded
commands_beside_are_guarded z root d base old new c r p beside = guarded_command z root d base old new c r p (beside_respects z root d (old ++ p.between) c beside)

pub later_keys_are_guarded : LaterKeysAreGuarded
later_keys_are_guarded z root d base old new ephe index item r behind p = guarded_command z root d base old new (SetKey ephe index item) r p (later_key_respects z root d (old ++ p.between) ephe index item behind)

-- one entry that changes no block
quiet_entry : (z : Sizes) (d : ℕ) (front : List Entry) (e : Entry) → (next (state_of z front) e).graph ≡ graph_of z front → OwnQuiet z d front (front ++ e ∷ [])
quiet_entry z d front e same f x since until own =
    ⊎_elim (λ early. absurd (nothing_between front f x since early)) (λ is. subst (λ (w : List Entry × Entry). graph_of z (w.0 ++ w.1 ∷ []) ≡ graph_of z w.0) (λ i. (sym is.0 i, sym is.1 i)) (graph_push z front e ∙ same)) (last_or_before front e f x until)

-- the run of a finaliser changes no block
run_quiet : (s : State) (d : ℕ) (queue : List Pending) → (after_run s d queue).graph ≡ s.graph
run_quiet s d [] = refl
run_quiet s d (Fin number l r ∷ rest) = refl
run_quiet s d (Last number ∷ rest) = refl

pub ends_are_guarded : EndsAreGuarded
ends_are_guarded z root d base front behind = (
  quiet_entry_is_guarded z root d base front (front ++ End d ∷ []) (End d) behind (prefix_same (front ++ End d ∷ [])) (eq-eqb d d refl) (quiet_entry z d front (End d) refl),
  quiet_entry_is_guarded z root d base front (front ++ Ran d ∷ []) (Ran d) behind (prefix_same (front ++ Ran d ∷ [])) (eq-eqb d d refl) (quiet_entry z d front (Ran d) (run_quiet (state_of z front) d (domain_at (state_of z front) d).queue)),
)

-- how many domains there are at a front
count_at : (z : Sizes) (front : List Entry) → length (state_of z front).domains ≡ z.domains
count_at z front = walk_along (λ f. length (state_of z f).domains ≡ z.domains) [] front (record { rest = front; appends = refl }) (λ f e a b is. ap (λ (s : State). length s.domains) (state_push z f e) ∙ (count_next (state_of z f) e ∙ is)) (length-replicate z.domains opening_domain)

-- a command of a domain stands in no history behind a front, if the domain has no commands there
no_command_behind : (h fr front rest : List Entry) (d : ℕ) (c : Command) (full : Bool) → IsPrefix fr front → h ≡ (front ++ CommandOf d c full ∷ []) ++ rest → commands h d ≡ commands fr d → ⊥
no_command_behind h fr front rest d c full late whole same =
    let a : commands h d ≡ commands (front ++ CommandOf d c full ∷ []) d ++ commands rest d = ap (λ (y : List Entry). commands y d) whole ∙ commands-append (front ++ CommandOf d c full ∷ []) rest d in
    let b : commands (front ++ CommandOf d c full ∷ []) d ≡ commands front d ++ c ∷ [] = commands-push front (CommandOf d c full) d ∙ ap (λ (y : Bool). commands front d ++ cond y (c ∷ []) []) (eq-eqb d d refl) in
    let f : commands front d ≡ commands fr d ++ commands late.rest d = ap (λ (y : List Entry). commands y d) late.appends ∙ commands-append fr late.rest d in
    let la = ap length a in
    let lb = ap length b in
    let lf = ap length f in
    let ls = ap length same in
    let na = length-append (commands (front ++ CommandOf d c full ∷ []) d) (commands rest d) in
    let nb = length-append (commands front d) (c ∷ []) in
    let nf = length-append (commands fr d) (commands late.rest d) in
    omega (arith, la, lb, lf, ls, na, nb, nf)

pub seats_share_the_map : SeatsShareTheMap
seats_share_the_map z root base h legal grows map placed each = record { legal = legal; grows = grows; map = map; placed = placed; guarded = guarded }
  where
    command_at : (front : List Entry) (d : ℕ) (c : Command) (full : Bool) → IsPrefix base front → IsPrefix (front ++ CommandOf d c full ∷ []) h → IsGuarded z root base front (CommandOf d c full) d
    command_at front d c full since until =
        let allowed = allowed_at z front h (CommandOf d c full) legal until in
        let inside = inside_running (state_of z front).domains d allowed.running in
        let count = count_at z front in
        let seat = each d (omega (arith, inside, count)) in
        ⊎_elim (λ early. seat.3 front (CommandOf d c full) since (record { rest = front; appends = refl }) early (eq-eqb d d refl)) (λ late. absurd (no_command_behind h seat.0 front until.rest d c full late until.appends seat.2))
        (before_or_behind seat.0 h front (CommandOf d c full) seat.1 until)

    guarded : AllGuarded z root base h
    guarded front (CommandOf d c full) since until = inr (d, command_at front d c full since until)
    guarded front (End d) since until = inr (d, (ends_are_guarded z root d base front since).0)
    guarded front (Ran d) since until = inr (d, (ends_are_guarded z root d base front since).1)
    guarded front Cut since until = inl refl
    guarded front (Queue d places) since until = inl refl
    guarded front Seal since until = inl refl
    guarded front (Wipe l keys) since until = inl refl
    guarded front (LastOf d place) since until = inl refl
    guarded front Collected since until = inl refl
    guarded front Done since until = inl refl
