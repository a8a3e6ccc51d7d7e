-- A whole map is counted, and the registers between are emptied.
use Rattle.std.proofs.Common.{◌≡◌, ⊎_elim, ℕ, leb, true, false, ◌+◌, ◌<◌, ◌≤◌, List, [], length, take, flat_map, refl, ap, sym, ◌∙◌, arith}
use Rattle.std.proofs.lemmas.Bool.Decides.{leb_tells}
use Rattle.std.proofs.lemmas.List.{take_all}
use Rattle.model_core.specs.declared.command.Command.TheVariants.{Forget}
use Rattle.model_core.specs.declared.entry.Entry.{Entry}
use Rattle.model_core.specs.declared.graph.Value.{Value}
use Rattle.model_core.specs.declared.graph.Value.TheVariants.{Block, Nothing}
use Rattle.model_core.specs.declared.state.Sizes.{Sizes}
use Rattle.model_core.specs.Domains.{IsWithinLimits, domain_at}
use Rattle.model_core.specs.History.{IsPrefix, Legal}
use Rattle.weak_laws.specs.Tables.Thinning.{WasOutside, state_of}
use Rattle.weak_laws.specs.Tables.Stages.{Goes, graph_of, held_in}
use Rattle.weak_laws.proofs.OfTables.WalkLemmas.{thinned_length}
use Rattle.weak_laws.specs.Maps.Tries.{inside, root_width}
use Rattle.weak_laws.specs.Maps.Calls.{registers_after}
use Rattle.weak_laws.proofs.OfMaps.CallLemmas.{grows as step_grows}
use Rattle.weak_laws.proofs.OfMaps.FrontLemmas.{prefix_trans}
use Rattle.weak_maps.specs.Walks.{OwnQuiet}
use Rattle.weak_laws.specs.Lists.Lists.{bindings_below}
use Rattle.weak_laws.proofs.OfLists.ListLemmas.{below_plain, listed}
use Rattle.weak_maps.specs.Lists.Stretches.{Forgets, bound_in}
use Rattle.weak_maps.specs.Lists.Counts.{AtBlock, BlockCounted, CountsBlock, many_in, most_counted}
use Rattle.weak_maps.specs.Lists.Answers.{ListCountsAt}
use Rattle.weak_maps.proofs.OfLists.AloneLemmas.{legal_before, registers_many}
use Rattle.weak_maps.proofs.OfLists.CallLemmas.{last_quiet, low_kept, past_end, settled}
use Rattle.weak_maps.proofs.OfLists.CountLemmas.{plain_new, quiet_twice}
use Rattle.weak_maps.proofs.OfLists.DeclineLemmas.{HasMany, declines}
use Rattle.weak_maps.proofs.OfLists.FewLemmas.{few_bound}
use Rattle.weak_maps.proofs.OfLists.StretchLemmas.{quiet_goes, reads_list}
use Rattle.weak_maps.specs.Cleans.{EmptiedHigh}

-- the whole map
pub map_counted : (z : Sizes) (limits : IsWithinLimits z) (one : z.domains ≡ 1) (old mid last new : List Entry) (map count left : ℕ) → (domain_at (state_of z old) 0).serial + left ≡ 4294967295 → IsPrefix old mid → IsPrefix mid last
    → CountsBlock z old mid map 6 root_width count → EmptiedHigh z 0 mid last 16 → Forgets z 0 last new → ListCountsAt z old new map count
map_counted z limits one old mid last new map count left given g0 g1 counts forgot f root held listed_old = record {
  reads = reads_list z old new root goes listed_old;
  keeps = low_kept z limits one root old last new g01 listed_old f.reply f.performed (λ r small. forgot.low r small ∙ b.looks.low r small);
  settled = settled z limits one root old last new g01 listed_old f.reply f.performed emptied;
  front = many.front;
  before = many.before;
  behind = many.behind;
  number = many.many;
  many = most;
  few = least;
}
  where
    g01 : IsPrefix old last
    g01 = prefix_trans old mid last g0 g1

    g2 : IsPrefix last new
    g2 = step_grows z 0 last new (Forget 8) f.reply f.performed

    whole : IsPrefix old new
    whole = prefix_trans old last new g01 g2

    legal : Legal z new
    legal = f.performed.legal

    at_root : AtBlock z old root [] root map 6
    at_root = record { listed = listed_old; deep = refl; there = refl; fields = listed_old.map.own.0; plain = listed_old.map.own.1; held = held }

    b : BlockCounted z old mid listed_old.map.own.0 6 root_width count
    b = counts root [] root at_root

    behind_mid : OwnQuiet z 0 mid new
    behind_mid = quiet_twice z mid last new g2 forgot.quiet (last_quiet z limits one root old last new g01 listed_old f.reply f.performed)

    quiet : OwnQuiet z 0 old new
    quiet = quiet_twice z old mid new (prefix_trans mid last new g1 g2) b.looks.quiet behind_mid

    goes : Goes z old new []
    goes = quiet_goes z one old new whole legal quiet

    emptied : (r : ℕ) → 8 ≤ r → held_in z old r ≡ Nothing → held_in z last r ≡ Nothing
    emptied r high none = ⊎_elim (λ used. forgot.clean r high (let few = used.1 in omega (arith, few)))
        (λ more. let above : 15 < r = more.1 in let all = registers_many z one limits last in past_end (registers_after z 0 last) r (omega (arith, above, all))) (leb_tells r 15)

    -- a list has as many bindings as there are from all fields of the root on
    sum : (h : List Entry) → inside (graph_of z h) (Block root) ≡ inside (graph_of z old) (Block root) → length (bound_in z h root) ≡ many_in z h 6 listed_old.map.own.0 root_width
    sum h plain =
        let wide : length listed_old.map.own.0 ≡ root_width = listed_old.map.wide [] (Block root) listed_old.map.own.0 refl listed_old.map.own.1 in
        let all : take root_width listed_old.map.own.0 ≡ listed_old.map.own.0 = take_all root_width listed_old.map.own.0 (omega (arith, wide)) in
        ap length (listed (graph_of z h) root ∙ below_plain (graph_of z h) 6 (Block root) listed_old.map.own.0 (plain ∙ listed_old.map.own.1))
        ∙ sym (ap (λ (xs : List Value). length (flat_map (bindings_below (graph_of z h) 6) xs)) all)

    legal_mid : Legal z mid
    legal_mid = legal_before z mid new (prefix_trans mid last new g1 g2) legal

    most : count ≤ length (bound_in z old root)
    most = let start = sum old refl in let few = b.number.many in omega (arith, start, few)

    few_old : length (bound_in z old root) ≤ 4294967295
    few_old = let few = few_bound z old root one (legal_before z old new whole legal) listed_old in omega (arith, few, given)

    later : length (bound_in z new root) ≤ length (bound_in z mid root)
    later =
        let r = reads_list z old mid root (quiet_goes z one old mid g0 legal_mid b.looks.quiet) listed_old in
        let s = reads_list z mid new root (quiet_goes z one mid new (prefix_trans mid last new g1 g2) legal behind_mid) r.listed in
        thinned_length (WasOutside z mid new) (bound_in z mid root) (bound_in z new root) s.thinned

    least : length (bound_in z new root) ≤ count
    least = ⊎_elim full short (leb_tells most_counted count)
      where
        full : (leb most_counted count ≡ true) × (most_counted ≤ count) → length (bound_in z new root) ≤ count
        full is =
            let many = is.1 in
            let all = few_old in
            let thin = thinned_length (WasOutside z old new) (bound_in z old root) (bound_in z new root) (reads_list z old new root goes listed_old).thinned in
            omega (arith, many, all, thin)

        short : (leb most_counted count ≡ false) × (count < most_counted) → length (bound_in z new root) ≤ count
        short is =
            let few = b.number.few is.1 in
            let at_mid = sum mid (plain_new z one old mid g0 legal_mid b.looks.quiet root listed_old [] (Block root) refl) in
            let rest = later in
            omega (arith, few, at_mid, rest)

    many : HasMany z one root old new count
    many = declines z one root old new whole legal quiet listed_old count most least
