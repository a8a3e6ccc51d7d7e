-- A slot is taken out, command by command.
use Rattle.std.proofs.Common.{◌≡◌, ◌≢◌, ℕ, suc, ◌+◌, ◌<◌, List, [], ◌∷◌, ◌++◌, length, get_or, set, pos, Option, Some, ap, sym, ◌∙◌, subst, arith, add-one}
use Rattle.std.proofs.lemmas.Option.{slice_get-get_or}
use Rattle.model_core.specs.declared.label.Label.{Label}
use Rattle.model_core.specs.declared.command.Command.TheVariants.{Load, PutInt, Store}
use Rattle.model_core.specs.declared.entry.Entry.{Entry}
use Rattle.model_core.specs.declared.reply.Reply.{Reply}
use Rattle.model_core.specs.declared.graph.Value.{Value}
use Rattle.model_core.specs.declared.graph.Value.TheVariants.{Int, Nothing}
use Rattle.model_core.specs.declared.graph.Node.TheVariants.{Plain, Ephe}
use Rattle.model_core.specs.declared.state.Sizes.{Sizes}
use Rattle.model_core.specs.Graph.{Graph, node_at, with_node}
use Rattle.model_core.specs.Domains.{IsWithinLimits}
use Rattle.model_core.proofs.Graphs.GraphLemmas.{node_at-with_node_other, node_at-with_node_same}
use Rattle.weak_laws.specs.Tables.Stages.{graph_of}
use Rattle.weak_laws.specs.Maps.Calls.{PerformedBy, registers_after}
use Rattle.weak_laws.proofs.OfMaps.CallLemmas.{put_step, store_step}
use Rattle.weak_laws.proofs.OfMaps.FrontLemmas.{prefix_same}
use Rattle.weak_maps.specs.Beside.{held_by}
use Rattle.weak_maps.proofs.BesideLemmas.{same_held, set_here, set_other, sixteen}
use Rattle.weak_maps.proofs.GetLemmas.{grows_by}
use Rattle.weak_cache.specs.Caches.{OthersSpare}
use Rattle.weak_cache.specs.Passes.{Core, Keeping, KeepsBeside, cut_out, drawn}
use Rattle.weak_cache.proofs.CoreLemmas.{core_mid, core_own, core_quiet, spared_on, spared_quiet, spares_within}
use Rattle.weak_cache.proofs.ListLemmas.{draw_more, drawn_last, drawn_long, read_drawn}
use Rattle.weak_cache.proofs.MoveLemmas.{read_held, read_keeps, read_others, use_some}

module _ (z : Sizes) (limits : IsWithinLimits z) (d : ℕ) (first : List Entry) (c k : Label) (fs : List Value) where
  -- a value comes from register 10 into a field
  module _ (now new : List Entry) (r : Reply) (j : ℕ) (v : Value) (p : PerformedBy z d now new (Store 13 j 10) r) (spares : OthersSpare z c d first new) (gs : List Value) (x : Keeping z d first now c k fs gs) (small : j < length gs) (held : held_by z d now 10 ≡ v) (some : v ≢ Nothing) where
    abbrev mid : List Entry
    mid = now ++ p.between

    core_then : Core z first mid c k fs gs
    core_then = core_mid z c k d first now new (Store 13 j 10) r p spares x.core.grows 12 x.key fs gs x.core

    stored : (graph_of z new ≡ with_node (graph_of z mid) c (Plain core_then.tag (set gs j v))) × ((i : ℕ) → held_by z d new i ≡ held_by z d now i)
    stored =
        let all = store_step z d now new r 13 j 10 p c core_then.tag gs v (get_or gs j Nothing) x.cache core_then.block (slice_get-get_or gs j Nothing small) held some in
        (all.0, same_held z d now new all.1)

    block : node_at (graph_of z new) c ≡ Some (Plain core_then.tag (set gs j v))
    block = ap (λ (g : Graph). node_at g c) stored.0 ∙ node_at-with_node_same (graph_of z mid) c (Plain core_then.tag (set gs j v)) (Plain core_then.tag gs) core_then.block

    leaves : (m : Label) (o : Option Label) (w : Value) → node_at (graph_of z mid) m ≡ Some (Ephe (o ∷ []) w) → node_at (graph_of z new) m ≡ Some (Ephe (o ∷ []) w)
    leaves m o w node = ap (λ (g : Graph). node_at g m) stored.0
        ∙ (node_at-with_node_other (graph_of z mid) c m (Plain core_then.tag (set gs j v))
        (λ same. let clash : Some (Ephe (o ∷ []) w) ≡ Some (Plain core_then.tag gs) = sym node ∙ (ap (node_at (graph_of z mid)) same ∙ core_then.block) in cc) ∙ node)

    pub field_stored : Keeping z d first new c k fs (set gs j v)
    field_stored = record {
      core = core_own z c k d first now new (Store 13 j 10) r p spares x.core.grows 12 x.key (λ m o w stood node. leaves m o w node) fs gs (set gs j v) core_then.tag core_then block;
      key = stored.1 12 ∙ x.key;
      cache = stored.1 13 ∙ x.cache;
      spared = spared_on z c d first now new (Store 13 j 10) r p
          (λ m o there other. ap (λ (g : Graph). node_at g m) stored.0 ∙ node_at-with_node_other (graph_of z mid) c m (Plain core_then.tag (set gs j v)) other) x.spared;
    }

    pub store_low : KeepsBeside z d now new
    store_low i beside = stored.1 i

  -- the value of a field comes into the one before it
  module _ (now n0 new : List Entry) (r0 r1 : Reply) (i n j : ℕ) (p0 : PerformedBy z d now n0 (Load 10 13 (j + 1)) r0) (p1 : PerformedBy z d n0 new (Store 13 j 10) r1) (spares : OthersSpare z c d first new) (at : j ≡ i + n) (small : j + 1 < length fs) (x : Keeping z d first now c k fs (drawn i n fs)) where
    abbrev gs : List Value
    gs = drawn i n fs

    long : length gs ≡ length fs
    long = drawn_long i n fs

    early : OthersSpare z c d first n0
    early = spares_within z c d first new first n0 (prefix_same first) (grows_by z d n0 new (Store 13 j 10) r1 p1) spares

    inside : j + 1 < length gs
    inside = omega (arith, long, small)

    keeps : Keeping z d first n0 c k fs gs
    keeps = read_keeps z limits d first c k fs now n0 r0 10 (j + 1) (omega arith) (omega arith) p0 early gs x inside

    held : held_by z d n0 10 ≡ get_or fs (suc j) Nothing
    held = read_held z limits d first c k fs now n0 r0 10 (j + 1) (omega arith) (omega arith) p0 early gs x inside
        ∙ (ap (λ (m : ℕ). get_or gs m Nothing) (add-one j) ∙ read_drawn i n j fs at (omega (arith, small)))

    some : get_or fs (suc j) Nothing ≢ Nothing
    some = use_some z c k first n0 (get_or fs (suc j) Nothing) (keeps.core.uses (suc j) (omega (arith, small)))

    pub drew : Keeping z d first new c k fs (drawn i (n + 1) fs) × KeepsBeside z d now new
    drew = (
      subst (λ (ys : List Value). Keeping z d first new c k fs ys) (draw_more i n j fs at (omega (arith, small)) ∙ ap (λ (m : ℕ). drawn i m fs) (sym (add-one n)))
          (field_stored n0 new r1 j (get_or fs (suc j) Nothing) p1 spares gs keeps (omega (arith, long, small)) held some),
      (λ m beside. store_low n0 new r1 j (get_or fs (suc j) Nothing) p1 spares gs keeps (omega (arith, long, small)) held some m beside
          ∙ read_others z limits d first c k fs now n0 r0 10 (j + 1) (omega arith) (omega arith) p0 early gs x inside m beside.1),
    )

  -- and the last holds 0
  module _ (now n0 new : List Entry) (r0 r1 : Reply) (i n j : ℕ) (p0 : PerformedBy z d now n0 (PutInt 10 (pos 0)) r0) (p1 : PerformedBy z d n0 new (Store 13 j 10) r1) (spares : OthersSpare z c d first new) (at : j ≡ i + n) (last : suc j ≡ length fs) (x : Keeping z d first now c k fs (drawn i n fs)) where
    abbrev hs : List Value
    hs = drawn i n fs

    before : OthersSpare z c d first n0
    before = spares_within z c d first new first n0 (prefix_same first) (grows_by z d n0 new (Store 13 j 10) r1 p1) spares

    put : (graph_of z n0 ≡ graph_of z (now ++ p0.between)) × (registers_after z d n0 ≡ set (registers_after z d now) 10 (Int (pos 0)))
    put = let all = put_step z d now n0 r0 10 (pos 0) p0 in (all.0, all.1)

    others : (m : ℕ) → m ≢ 10 → held_by z d n0 m ≡ held_by z d now m
    others = set_other z d now n0 10 (Int (pos 0)) put.1

    zero_keeps : Keeping z d first n0 c k fs hs
    zero_keeps = record {
      core = core_quiet z c k d first now n0 (PutInt 10 (pos 0)) r0 p0 before x.core.grows 12 x.key put.0 fs hs x.core;
      key = others 12 (λ e. absurd (omega (arith, e))) ∙ x.key;
      cache = others 13 (λ e. absurd (omega (arith, e))) ∙ x.cache;
      spared = spared_quiet z c d first now n0 (PutInt 10 (pos 0)) r0 p0 put.0 x.spared;
    }

    zero_held : held_by z d n0 10 ≡ Int (pos 0)
    zero_held = set_here z d now n0 10 (Int (pos 0)) put.1 (sixteen z d now n0 (PutInt 10 (pos 0)) r0 p0 limits) (omega arith)

    inner : j < length hs
    inner = let all = drawn_long i n fs in omega (arith, all, last)

    pub cut : Keeping z d first new c k fs (cut_out i fs) × KeepsBeside z d now new
    cut = (
      subst (λ (ys : List Value). Keeping z d first new c k fs ys) (drawn_last i n j fs at last) (field_stored n0 new r1 j (Int (pos 0)) p1 spares hs zero_keeps inner zero_held (λ e. cc)),
      (λ m beside. store_low n0 new r1 j (Int (pos 0)) p1 spares hs zero_keeps inner zero_held (λ e. cc) m beside ∙ others m beside.1),
    )
