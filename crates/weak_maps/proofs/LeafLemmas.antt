-- A leaf in the making stays the domain's own while a walk goes on.
use Rattle.std.proofs.Common.{◌≡◌, ◌≢◌, ⊎_elim, ℕ, ◌<◌, ◌%◌, true, false, eq-eqb, List, [], ◌∷◌, ◌++◌, Some, refl, ap, sym, ◌∙◌, arith}
use Rattle.std.proofs.lemmas.List.{get_or_past}
use Rattle.model_core.specs.declared.label.Label.{Label}
use Rattle.model_core.specs.declared.command.Command.{Command}
use Rattle.model_core.specs.declared.command.Command.TheVariants.{Copy, Load, GetKey}
use Rattle.model_core.specs.declared.entry.Entry.{Entry}
use Rattle.model_core.specs.declared.entry.Entry.TheVariants.{Command as CommandOf}
use Rattle.model_core.specs.declared.reply.Reply.{Reply}
use Rattle.model_core.specs.declared.graph.Value.{Value}
use Rattle.model_core.specs.declared.graph.Value.TheVariants.{Block, Nothing}
use Rattle.model_core.specs.declared.graph.Node.TheVariants.{Ephe}
use Rattle.model_core.specs.declared.state.Sizes.{Sizes}
use Rattle.model_core.specs.Graph.{Graph, node_at}
use Rattle.model_core.specs.Domains.{IsWithinLimits}
use Rattle.model_core.specs.History.{IsPrefix}
use Rattle.weak_laws.specs.Tables.Stages.{graph_of}
use Rattle.weak_laws.specs.Maps.Tries.{node_width}
use Rattle.weak_laws.specs.Maps.Steps.{OthersRespect, WasUnreached}
use Rattle.weak_laws.specs.Maps.Calls.{PerformedBy, registers_after}
use Rattle.weak_laws.proofs.OfMaps.CallLemmas.{copy_step, from_middle}
use Rattle.weak_laws.proofs.OfMaps.FrontLemmas.{prefix_same, prefix_trans}
use Rattle.weak_laws.proofs.OfMaps.PrivateLemmas.{is_item}
use Rattle.weak_maps.specs.Commands.{IsBlock}
use Rattle.weak_maps.specs.Beside.{held_by}
use Rattle.weak_maps.specs.Walks.{Looking}
use Rattle.weak_maps.specs.Fields.{AtField, KeepsWalked}
use Rattle.weak_maps.specs.Puts.{OwnBlock}
use Rattle.weak_maps.proofs.BesideLemmas.{set_other, since_old, sixteen}
use Rattle.weak_maps.proofs.FieldLemmas.{field_key}
use Rattle.weak_maps.proofs.FreshLemmas.{held_not_outside, own_middle, own_on, thin_held}
use Rattle.weak_maps.proofs.GetLemmas.{grows_by}

module _ (z : Sizes) (limits : IsWithinLimits z) (root : Label) (d : ℕ) (first : List Entry) (k l : Label) (v : Value) where
  abbrev pub Own : List Entry → Type 0
  Own h = OwnBlock z d h root 10 l (Ephe (Some k ∷ []) v)

  -- over a command that hands no register's block on, within a stretch in which the call changes no block
  pub leaf_on : (now new last : List Entry) (c : Command) (r : Reply) (p : PerformedBy z d now new c r) → ((j : ℕ) → is_item c j ≡ false) → IsPrefix first now → IsPrefix new last → Looking z root d first last → (kr : ℕ) → held_by z d now kr ≡ Block k → held_by z d new 10 ≡ held_by z d now 10 → Own now → Own new
  leaf_on now new last c r p free since until looking kr key ten leaf =
      let mid : List Entry = now ++ p.between in
      let entry : Entry = CommandOf d c p.full in
      let quiet : graph_of z (mid ++ entry ∷ []) ≡ graph_of z mid = looking.quiet mid entry (prefix_trans first now mid since (since_old z d now new c r p)) (prefix_trans (mid ++ entry ∷ []) new last (from_middle z d now new c r p) until) (eq-eqb d d refl) in
      let same : graph_of z new ≡ graph_of z mid = ap (graph_of z) p.appends ∙ quiet in
      let there = own_middle z d root now new c r p 10 l (Ephe (Some k ∷ []) v) (λ o. thin_held (WasUnreached z now mid) k v o (held_not_outside z d now p.between k kr p.others key)) leaf in
      let count = sixteen z d now new c r p limits in
      let past : held_by z d now 16 ≡ Nothing = get_or_past (registers_after z d now) 16 Nothing (omega (arith, count)) in
      own_on z d root now new c r p 10 l (Ephe (Some k ∷ []) v) (Ephe (Some k ∷ []) v) 16 there (λ j is. let clash : false ≡ true = sym (free j) ∙ is in cc) (λ e. let clash : Nothing ≡ Block l = sym past ∙ e in cc) ten
      (ap (λ (g : Graph). node_at g l) same ∙ there.node)

  module _ (now n0 : List Entry) (r : Reply) (i rest : ℕ) (s : Reply) (kr : ℕ) (p : PerformedBy z d now n0 (GetKey 11 9 0) r) (respects : OthersRespect z root d first n0) (looking : Looking z root d first now)
      (x : AtField z d first now now root k i rest s) (is : IsBlock s) (key : held_by z d now kr ≡ Block k) (few : kr < 8) where
    read_keeps : Looking z root d first n0 × KeepsWalked z d now n0
    read_keeps = ⊎_elim (λ a. (a.1, a.2)) (λ b. (b.1, b.2)) (field_key z limits root d first k kr now n0 r i rest s p respects looking x is key)

    ten_read : held_by z d n0 10 ≡ held_by z d now 10
    ten_read = read_keeps.1 10 (λ e. absurd (omega (arith, e))) (λ e. absurd (omega (arith, e))) (λ e. absurd (omega (arith, e)))

    pub leaf_read : Own now → Own n0
    leaf_read leaf = leaf_on now n0 n0 (GetKey 11 9 0) r p (λ j. refl) looking.grows (prefix_same n0) read_keeps.0 kr key ten_read leaf

    -- and one block down
    pub leaf_down : (n1 new : List Entry) (r1 r2 : Reply) → PerformedBy z d n0 n1 (Copy 8 9) r1 → PerformedBy z d n1 new (Load 9 8 (rest % node_width)) r2 → Looking z root d first new → held_by z d new 10 ≡ held_by z d now 10 → Own now → Own new
    leaf_down n1 new r1 r2 p1 p2 looking2 ten leaf =
        let g0 = grows_by z d now n0 (GetKey 11 9 0) r p in
        let g1 = grows_by z d n0 n1 (Copy 8 9) r1 p1 in
        let g2 = grows_by z d n1 new (Load 9 8 (rest % node_width)) r2 p2 in
        let all = copy_step z d n0 n1 r1 8 9 p1 in
        let keeps : (j : ℕ) → j ≢ 8 → held_by z d n1 j ≡ held_by z d n0 j = set_other z d n0 n1 8 (held_by z d n0 9) all.1 in
        let key0 : held_by z d n0 kr ≡ Block k = read_keeps.1 kr (λ e. absurd (omega (arith, few, e))) (λ e. absurd (omega (arith, few, e))) (λ e. absurd (omega (arith, few, e))) ∙ key in
        let key1 : held_by z d n1 kr ≡ Block k = keeps kr (λ e. absurd (omega (arith, few, e))) ∙ key0 in
        let ten1 : held_by z d n1 10 ≡ held_by z d n0 10 = keeps 10 (λ e. absurd (omega (arith, e))) in
        let leaf1 = leaf_on n0 n1 new (Copy 8 9) r1 p1 (λ j. refl) read_keeps.0.grows g2 looking2 kr key0 ten1 (leaf_read leaf) in
        leaf_on n1 new new (Load 9 8 (rest % node_width)) r2 p2 (λ j. refl) (prefix_trans first n0 n1 read_keeps.0.grows g1) (prefix_same new) looking2 kr key1 (ten ∙ (sym ten_read ∙ sym ten1)) leaf1
