-- A block in the making is its maker's, command by command.
use Rattle.std.proofs.Common.{◌≡◌, ◌≢◌, ◌⊎◌, inl, inr, ⊎_elim, ℕ, ◌+◌, true, false, IsTrue, List, [], ◌∷◌, ◌++◌, get_or, option_to_list, Option, Some, None, refl, ap, sym, ◌∙◌, subst}
use Rattle.model_core.specs.declared.label.Label.{Label}
use Rattle.model_core.specs.declared.command.Command.{Command}
use Rattle.model_core.specs.declared.entry.Entry.{Entry}
use Rattle.model_core.specs.declared.entry.Entry.TheVariants.{Command as CommandOf}
use Rattle.model_core.specs.declared.reply.Reply.{Reply}
use Rattle.model_core.specs.declared.graph.Value.{Value}
use Rattle.model_core.specs.declared.graph.Value.TheVariants.{Block, Nothing}
use Rattle.model_core.specs.declared.graph.Node.{Node}
use Rattle.model_core.specs.declared.graph.Node.TheVariants.{Plain, Ephe}
use Rattle.model_core.specs.declared.state.Sizes.{Sizes}
use Rattle.model_core.specs.declared.state.State.{State}
use Rattle.model_core.specs.Graph.{Graph, same_label, labels, has_label, label_of, node_at, with_node}
use Rattle.model_core.specs.Domains.{domain_at, register, opening}
use Rattle.model_core.specs.Entries.{next}
use Rattle.model_core.specs.Fronts.{NoneOf}
use Rattle.model_core.specs.History.{IsPrefix, Legal, is_entry_of}
use Rattle.model_core.proofs.Commands.FrameLemmas.{keeps_next}
use Rattle.model_core.proofs.Graphs.GraphLemmas.{same_label_refl, node_at-append_new}
use Rattle.model_core.proofs.Graphs.NamedLemmas.{have_at, have_none}
use Rattle.model_core.proofs.Histories.FrontLemmas.{keeps_front}
use Rattle.model_core.proofs.Histories.NumberLemmas.{next_label-new, numbered_after, numbered_opening}
use Rattle.model_core.proofs.Histories.WellFormedLemmas.{wf_after, wf_opening}
use Rattle.model_core.proofs.Reach.ReachLemmas.{or_left}
use Rattle.weak_laws.specs.Tables.Thinning.{Thin, state_of}
use Rattle.weak_laws.specs.Tables.Stages.{graph_of}
use Rattle.weak_laws.proofs.OfTables.CollectorLemmas.{outside_unheld}
use Rattle.weak_laws.specs.Maps.Tries.{at, inside, fields_of, is_leaf, IsMap}
use Rattle.weak_laws.specs.Maps.Private.{IsPrivate}
use Rattle.weak_laws.specs.Maps.Steps.{OthersRespect, RespectsMap, WasUnreached}
use Rattle.weak_laws.specs.Maps.Calls.{Looks, PerformedBy}
use Rattle.weak_laws.specs.Maps.Within.{IsMadeBehind, OwnWithin, StepsWithin}
use Rattle.weak_laws.proofs.OfMaps.CallLemmas.{legal_middle, made, registers_kept}
use Rattle.weak_laws.proofs.OfMaps.FrontLemmas.{other_between, prefix_more, prefix_same, prefix_trans, walk_along}
use Rattle.weak_laws.proofs.OfMaps.MapLemmas.{map_stays}
use Rattle.weak_laws.proofs.OfMaps.OwnLemmas.{apart_respects, apart_untouched, fresh_respects, fresh_untouched, leaf_stays, looks_once, reading_respects, reading_untouched, untouched_keeps}
use Rattle.weak_laws.proofs.OfMaps.PrivateLemmas.{born, is_item, private_between, private_born, private_left, private_outside, private_own}
use Rattle.weak_laws.proofs.OfMaps.RespectLemmas.{state_push}
use Rattle.weak_laws.proofs.OfMaps.WithinLemmas.{none_before, within_apart, within_fresh, within_once, within_same}
use Rattle.weak_maps.specs.Beside.{held_by}
use Rattle.weak_maps.specs.Puts.{OwnBlock}
use Rattle.weak_maps.proofs.BesideLemmas.{left_is}
use Rattle.weak_maps.proofs.StayLemmas.{stays_middle}

-- a front of a history with one entry more is one of it, or all
snoc_prefix : (e : Entry) (a h rest : List Entry) → h ++ e ∷ [] ≡ a ++ rest → ((u : List Entry) × (h ≡ a ++ u)) ⊎ (a ≡ h ++ e ∷ [])
snoc_prefix e [] h rest is = inl (h, refl)
snoc_prefix e (x ∷ []) [] rest is = let same : e ≡ x = cc in inr (ap (λ (y : Entry). y ∷ []) (sym same))
snoc_prefix e (x ∷ y ∷ a) [] rest is = cc
snoc_prefix e (x ∷ a) (y ∷ h) rest is = go (snoc_prefix e a h rest (let tail : h ++ e ∷ [] ≡ a ++ rest = cc in tail))
  where
    head : y ≡ x
    head = cc

    go : ((u : List Entry) × (h ≡ a ++ u)) ⊎ (a ≡ h ++ e ∷ []) → ((u : List Entry) × (y ∷ h ≡ (x ∷ a) ++ u)) ⊎ (x ∷ a ≡ (y ∷ h) ++ e ∷ [])
    go (inl (u, same)) = inl (u, (λ i. head i ∷ same i))
    go (inr same) = inr (λ i. sym head i ∷ same i)

none_one : (d : ℕ) (e : Entry) → is_entry_of d e ≡ false → NoneOf d (e ∷ [])
none_one d e other = rw other refl

-- a register of the domain keeps what it holds while others go on
held_along : (z : Sizes) (d : ℕ) (now between front : List Entry) (r : ℕ) → NoneOf d between → IsPrefix now front → IsPrefix front (now ++ between) → held_by z d front r ≡ held_by z d now r
held_along z d now between front r none since until = walk_along (λ h. held_by z d h r ≡ held_by z d now r) now front since
    (λ f e a b same.
    let other = other_between d now between f e none a (prefix_trans (f ++ e ∷ []) front (now ++ between) b until) in
    ap (λ (t : State). register t d r) (state_push z f e) ∙ (ap (λ (rs : List Value). get_or rs r Nothing) (keeps_next (state_of z f) e d other).registers ∙ same)) refl

-- what a register holds all along isn't outside reach
pub held_not_outside : (z : Sizes) (d : ℕ) (now between : List Entry) (k : Label) (r : ℕ) → NoneOf d between → held_by z d now r ≡ Block k → WasUnreached z now (now ++ between) k → ⊥
held_not_outside z d now between k r none held w = outside_unheld (state_of z w.front) k w.outside d r (held_along z d now between w.front r none w.since w.until ∙ held)

-- no register holds the label of a domain's next block
held_not_born : (z : Sizes) (h : List Entry) → Legal z h → (d r : ℕ) → held_by z d h r ≢ Block (born (state_of z h) d)
held_not_born z h legal d r is =
    let s : State = state_of z h in
    let wf = wf_after (opening z) h (wf_opening z) in
    let named = have_at s.graph label_of (domain_at s d).registers r Nothing (wf.domains d).registers (have_none s.graph) in
    let l : Label = born s d in
    let there : IsTrue (has_label (labels s.graph) l) = named l (subst (λ (v : Value). IsTrue (has_label (option_to_list (label_of v)) l)) (sym is) (or_left (same_label l l) false (same_label_refl l))) in
    let clash : true ≡ false = sym there ∙ next_label-new s (numbered_after (opening z) h legal (numbered_opening z)) d in cc

-- what a block can't lose
pub thin_plain : (P : Label → Type 0) (tag : ℕ) (fields : List Value) (o : Option Node) → Thin P (Plain tag fields) o → o ≡ Some (Plain tag fields)
thin_plain P tag fields o is = is

pub thin_empty : (P : Label → Type 0) (datum : Value) (o : Option Node) → Thin P (Ephe (None ∷ []) datum) o → o ≡ Some (Ephe (None ∷ []) datum)
thin_empty P datum o (inl same) = same
thin_empty P datum o (inr (k, is, gone, left)) = cc

pub thin_held : (P : Label → Type 0) (k : Label) (datum : Value) (o : Option Node) → (P k → ⊥) → Thin P (Ephe (Some k ∷ []) datum) o → o ≡ Some (Ephe (Some k ∷ []) datum)
thin_held P k datum o stays (inl same) = same
thin_held P k datum o stays (inr (j, is, gone, left)) = absurd (stays (let same : k ≡ j = cc in subst P (sym same) gone))

module _ (z : Sizes) (d : ℕ) (root l : Label) where
  abbrev pub Never : List Entry → Type 0
  Never h = (former : List Entry) (p : List ℕ) → IsPrefix former h → at (inside (graph_of z former)) p (Block root) ≡ Some (Block l) → is_leaf (node_at (graph_of z former) l) → ⊥

  never_push : (h : List Entry) (e : Entry) → root ≢ l → Never h → IsPrivate (state_of z (h ++ e ∷ [])) d l → Never (h ++ e ∷ [])
  never_push h e apart never private former p before there leaf =
      ⊎_elim (λ early. never former p (record { rest = early.0; appends = early.1 }) there leaf)
      (λ same. private_outside z d l root (h ++ e ∷ []) private apart p (subst (λ (w : List Entry). at (inside (graph_of z w)) p (Block root) ≡ Some (Block l)) same there))
      (snoc_prefix e former h before.rest before.appends)

  never_between : (now between : List Entry) → NoneOf d between → root ≢ l → Never now → IsPrivate (state_of z now) d l → IsPrivate (state_of z (now ++ between)) d l × Never (now ++ between)
  never_between now between none apart never private = walk_along (λ h. IsPrivate (state_of z h) d l × Never h) now (now ++ between) (prefix_more now between)
      (λ f e a b q.
      let private_then = private_between z d l f (e ∷ []) (none_one d e (other_between d now between f e none a b)) q.0 in
      (private_then, never_push f e apart q.1 private_then)) (private, never)

module _ (z : Sizes) (d : ℕ) (root : Label) (now new : List Entry) (c : Command) (r : Reply) (p : PerformedBy z d now new c r) where
  abbrev mid : List Entry
  mid = now ++ p.between

  abbrev entry : Entry
  entry = CommandOf d c p.full

  -- up to a command of the domain
  pub own_middle : (i : ℕ) (l : Label) (n : Node) → ((o : Option Node) → Thin (WasUnreached z now mid) n o → o ≡ Some n) → OwnBlock z d now root i l n → OwnBlock z d mid root i l n
  own_middle i l n stays x =
      let both = never_between z d root l now p.between p.others x.apart x.never x.private in record {
        held = ap (λ (rs : List Value). get_or rs i Nothing) (registers_kept z d now new c r p) ∙ x.held;
        private = both.0;
        apart = x.apart;
        never = both.1;
        node = stays (node_at (graph_of z mid) l) (private_left z d l now p.between n p.others (legal_middle z d now new c r p) x.private x.node);
      }

  -- where it is private behind the command
  pub own_kept : (i : ℕ) (l : Label) (n n2 : Node) → OwnBlock z d mid root i l n → IsPrivate (state_of z new) d l → held_by z d new i ≡ held_by z d now i → node_at (graph_of z new) l ≡ Some n2 → OwnBlock z d new root i l n2
  own_kept i l n n2 x private same node = record {
    held = same ∙ (sym (ap (λ (rs : List Value). get_or rs i Nothing) (registers_kept z d now new c r p)) ∙ x.held);
    private = private;
    apart = x.apart;
    never = subst (λ (h : List Entry). Never z d root l h) (sym p.appends) (never_push z d root l mid entry x.apart x.never (subst (λ (h : List Entry). IsPrivate (state_of z h) d l) p.appends private));
    node = node;
  }

  -- a command that puts it nowhere
  pub own_on : (i : ℕ) (l : Label) (n n2 : Node) (item : ℕ) → OwnBlock z d mid root i l n → ((j : ℕ) → is_item c j ≡ true → j ≡ item) → held_by z d now item ≢ Block l → held_by z d new i ≡ held_by z d now i → node_at (graph_of z new) l ≡ Some n2 → OwnBlock z d new root i l n2
  own_on i l n n2 item x only other same node = own_kept i l n n2 x
      (subst (λ (s : State). IsPrivate s d l) (sym (left_is z d now new c r p))
      (private_own d l (state_of z mid) x.private c p.full item only (λ is. other (sym (ap (λ (rs : List Value). get_or rs item Nothing) (registers_kept z d now new c r p)) ∙ is)))) same node

  born_is : born (state_of z mid) d ≡ made z d now new c r p
  born_is = ap (λ (k : ℕ). record { domain = d; serial = k + 1 }) (keeps_front (opening z) d mid now (record { rest = p.between; appends = refl; others = p.others })).serial

  -- no register held a block that a command makes
  pub not_held_before : (j : ℕ) → held_by z d now j ≢ Block (made z d now new c r p)
  not_held_before j is = held_not_born z mid (legal_middle z d now new c r p) d j
      (ap (λ (rs : List Value). get_or rs j Nothing) (registers_kept z d now new c r p) ∙ (is ∙ ap Block (sym born_is)))

  -- a command that makes a block
  pub own_born : (i : ℕ) (n : Node) → ((j : ℕ) → is_item c j ≡ true → ⊥) → ((fields : List Value) × (inside (graph_of z mid) (Block root) ≡ Some fields)) → node_at (graph_of z mid) (made z d now new c r p) ≡ None → graph_of z new ≡ graph_of z mid ++ (made z d now new c r p, n) ∷ []
      → held_by z d new i ≡ Block (made z d now new c r p) → OwnBlock z d new root i (made z d now new c r p) n
  own_born i n none plain fresh grown held = record {
    held = held;
    private = private;
    apart = apart;
    never = never;
    node = ap (λ (g : Graph). node_at g (made z d now new c r p)) grown ∙ node_at-append_new (graph_of z mid) (made z d now new c r p) n fresh;
  }
    where
      l : Label
      l = made z d now new c r p

      private_mid : IsPrivate (state_of z mid) d l
      private_mid = subst (λ (x : Label). IsPrivate (state_of z mid) d x) born_is (private_born z mid (legal_middle z d now new c r p) d)

      private : IsPrivate (state_of z new) d l
      private = subst (λ (s : State). IsPrivate s d l) (sym (left_is z d now new c r p))
          (private_own d l (state_of z mid) private_mid c p.full 0 (λ j is. absurd (none j is))
          (subst (λ (x : Label). held_by z d mid 0 ≢ Block x) born_is (held_not_born z mid (legal_middle z d now new c r p) d 0)))

      before_none : Never z d root l mid
      before_none former q before there leaf = let is = leaf_stays z former mid l before leaf in let clash : None ≡ Some (Ephe (is.0 ∷ []) is.1) = sym fresh ∙ is.2 in cc

      apart : root ≢ l
      apart same = let clash : None ≡ Some plain.0 = sym (ap fields_of fresh) ∙ (ap (λ (x : Label). inside (graph_of z mid) (Block x)) (sym same) ∙ plain.1) in cc

      never : Never z d root l new
      never = subst (λ (h : List Entry). Never z d root l h) (sym p.appends) (never_push z d root l mid entry apart before_none (subst (λ (h : List Entry). IsPrivate (state_of z h) d l) p.appends private))

  -- what a command does to the map
  pub next_is : (g : Graph) → graph_of z new ≡ g → (next (state_of z mid) entry).graph ≡ g
  next_is g is = ap (λ (s : State). s.graph) (sym (left_is z d now new c r p)) ∙ is

  -- what it makes is made behind an earlier front
  pub made_behind : (first : List Entry) → IsPrefix first now → node_at (graph_of z mid) (made z d now new c r p) ≡ None → IsMadeBehind z d first (made z d now new c r p)
  made_behind first grows fresh = (refl, none_before z first mid (made z d now new c r p) (prefix_trans first now mid grows (prefix_more now p.between)) fresh)

  pub within_by : (first : List Entry) → StepsWithin (IsMadeBehind z d first) (graph_of z mid) (next (state_of z mid) entry).graph root → OwnWithin z root d first now new
  within_by first s = within_once z root d first now new c r p (subst (λ (t : State). StepsWithin (IsMadeBehind z d first) (graph_of z mid) t.graph root) (sym (left_is z d now new c r p)) s)

  module _ (respects : OthersRespect z root d now new) (map : IsMap (graph_of z now) root) where
    pub map_mid : IsMap (graph_of z mid) root
    map_mid = (stays_middle z root d now now new c r p respects (prefix_same now) map).map

    pub map_by : RespectsMap z root mid entry → IsMap (graph_of z new) root
    map_by own = subst (λ (s : State). IsMap s.graph root) (sym (left_is z d now new c r p)) (map_stays z.domains root (state_of z mid) entry map_mid own.step)

    -- it reads
    pub reads_on : graph_of z new ≡ graph_of z mid → Looks z root d now new × IsMap (graph_of z new) root × ((first : List Entry) → OwnWithin z root d first now new)
    reads_on same =
        let is = next_is (graph_of z mid) same in
        let own = reading_respects z root mid entry is in
        (looks_once z root d now new c r p own (untouched_keeps z root mid entry map_mid (reading_untouched (graph_of z mid) (next (state_of z mid) entry).graph root is)), map_by own, (λ first. within_once z root d first now new c r p (within_same (IsMadeBehind z d first) (graph_of z mid) (graph_of z new) root same)))

    -- it makes a block
    pub makes_on : (x : Label × Node) → graph_of z new ≡ graph_of z mid ++ x ∷ [] → Looks z root d now new × IsMap (graph_of z new) root × ((first : List Entry) → IsMadeBehind z d first x.0 → OwnWithin z root d first now new)
    makes_on x grown =
        let is = next_is (graph_of z mid ++ x ∷ []) grown in
        let own = fresh_respects z root mid entry map_mid x is in
        (looks_once z root d now new c r p own (untouched_keeps z root mid entry map_mid (fresh_untouched (graph_of z mid) (next (state_of z mid) entry).graph root map_mid x is)), map_by own, (λ first mine. within_once z root d first now new c r p (within_fresh (IsMadeBehind z d first) (graph_of z mid) (graph_of z new) root map_mid x mine grown)))

    -- it writes a block of the domain's own
    pub writes_on : (i : ℕ) (l : Label) (n n2 : Node) → OwnBlock z d mid root i l n → graph_of z new ≡ with_node (graph_of z mid) l n2 → Looks z root d now new × IsMap (graph_of z new) root × ((first : List Entry) → IsMadeBehind z d first l → OwnWithin z root d first now new)
    writes_on i l n n2 x written =
        let is = next_is (with_node (graph_of z mid) l n2) written in
        let now_apart : (q : List ℕ) → at (inside (graph_of z mid)) q (Block root) ≡ Some (Block l) → ⊥ = private_outside z d l root mid x.private x.apart in
        let own = apart_respects z root mid entry l n2 (record { now = now_apart; never = x.never }) is in
        (looks_once z root d now new c r p own (untouched_keeps z root mid entry map_mid (apart_untouched (graph_of z mid) (next (state_of z mid) entry).graph root l n2 now_apart is)), map_by own, (λ first mine. within_once z root d first now new c r p (within_apart (IsMadeBehind z d first) (graph_of z mid) (graph_of z new) root map_mid l n2 now_apart mine written)))
