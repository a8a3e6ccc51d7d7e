-- What the commands of the preparation leave: which commands they are, that they guard the map, and what the registers hold.
use Rattle.std.proofs.Common.{◌≡◌, ⊎_elim, ℕ, zero, suc, Bool, true, false, cond, List, [], ◌∷◌, ◌++◌, get_or, Option, Some, None, IsTrue, refl, ap, sym, ◌∙◌, subst, arith, rules, eq-eqb, append-nil, append_assoc}
use Rattle.std.specs.Prelude.{◌||◌, filter_map}
use Rattle.std.specs.List.{AllByRecursion}
use Rattle.std.specs.Option.{option_eq}
use Rattle.model_core.specs.declared.command.Command.{Command}
use Rattle.model_core.specs.declared.command.Command.TheVariants.{Alloc, SetKey}
use Rattle.model_core.specs.declared.entry.Entry.{Entry}
use Rattle.model_core.specs.declared.entry.Entry.TheVariants.{Command as CommandOf}
use Rattle.model_core.specs.declared.graph.Node.{Node}
use Rattle.model_core.specs.declared.graph.Value.{Value}
use Rattle.model_core.specs.declared.graph.Value.TheVariants.{Block, Int, Nothing}
use Rattle.model_core.specs.declared.label.Label.{Label}
use Rattle.model_core.specs.declared.reply.Reply.{Reply}
use Rattle.model_core.specs.declared.reply.Reply.TheVariants as reply
use Rattle.model_core.specs.declared.state.Sizes.{Sizes}
use Rattle.model_core.specs.declared.state.State.{State}
use Rattle.model_core.specs.Domains.{IsWithinLimits, domain_at, opening}
use Rattle.model_core.specs.Graph.{Graph, label_of, labels, has_label, node_at, same_label}
use Rattle.model_core.specs.History.{IsPrefix, commands}
use Rattle.model_core.specs.Laws.{written_by}
use Rattle.model_core.proofs.Graphs.GraphLemmas.{same_label_refl}
use Rattle.model_core.proofs.Histories.HistoryLemmas.{commands-append, commands-others, commands-push}
use Rattle.model_core.proofs.Histories.WellFormedLemmas.{wf_after, wf_opening}
use Rattle.model_core.proofs.Reach.ReachLemmas.{or_left, or_right}
use Rattle.weak_laws.specs.Maps.Calls.{PerformedBy}
use Rattle.weak_laws.specs.Maps.Tries.{IsInPlace, IsMap}
use Rattle.weak_laws.specs.Tables.Stages.{graph_of}
use Rattle.weak_laws.specs.Tables.Thinning.{state_of}
use Rattle.weak_laws.proofs.OfMaps.CallLemmas.{alloc_step, made}
use Rattle.weak_laws.proofs.OfMaps.FrontLemmas.{before_or_behind, prefix_same, prefix_trans}
use Rattle.weak_laws.proofs.OfMaps.OwnLemmas.{grew_along, nothing_between}
use Rattle.weak_maps.specs.Beside.{held_by}
use Rattle.weak_maps.specs.Returns.{MakesMap}
use Rattle.weak_maps.specs.Shared.Sharing.{OwnGuarded}
use Rattle.weak_maps.proofs.GetLemmas.{grows_by}
use Rattle.weak_maps.proofs.MakeLemmas.{made_map}
use Rattle.weak_maps.proofs.OfShared.CommandLemmas.{commands_beside_are_guarded, later_keys_are_guarded}
use Rattle.weak_maps.proofs.OfShared.SharingLemmas.{stretches_add}
use Rattle.table_sections.specs.Places.{Finds, HasSlots, HoldsPlaces, IsMadeAt, LaysOut, MakesEach, loading}
use Rattle.table_sections.specs.contracts.laying.PlacesPartialEq.TheImpl.{eq-value}
use Rattle.table_sections.specs.declared.laying.Places.{Places}
use Rattle.table_sections.proofs.RegisterLemmas.{set_key_keeps}

-- one command more
pub one_more : (z : Sizes) (d : ℕ) (old new : List Entry) (c : Command) (r : Reply) → PerformedBy z d old new c r → commands new d ≡ commands old d ++ c ∷ []
one_more z d old new c r p =
    let quiet : commands p.between d ≡ [] = commands-others p.between d p.others in
    let front : commands (old ++ p.between) d ≡ commands old d = commands-append old p.between d ∙ (ap (λ (t : List Command). commands old d ++ t) quiet ∙ append-nil (commands old d)) in
    ap (λ (h : List Entry). commands h d) p.appends
    ∙ (commands-push (old ++ p.between) (CommandOf d c p.full) d
    ∙ (ap (λ (b : Bool). commands (old ++ p.between) d ++ cond b (c ∷ []) []) (eq-eqb d d refl)
    ∙ ap (λ (t : List Command). t ++ c ∷ []) front))

pub each_more : (z : Sizes) (d : ℕ) (old : List Entry) (cs : List Command) (new : List Entry) → MakesEach z d old cs new → commands new d ≡ commands old d ++ cs
each_more z d old [] new x = ap (λ (h : List Entry). commands h d) x ∙ sym (append-nil (commands old d))
each_more z d old (c ∷ cs) new x =
    each_more z d x.0 cs new x.3
    ∙ (ap (λ (t : List Command). t ++ cs) (one_more z d old x.0 c x.1 x.2) ∙ append_assoc (commands old d) (c ∷ []) cs)

pub each_grows : (z : Sizes) (d : ℕ) (old : List Entry) (cs : List Command) (new : List Entry) → MakesEach z d old cs new → IsPrefix old new
each_grows z d old [] new x = subst (IsPrefix old) (sym x) (prefix_same old)
each_grows z d old (c ∷ cs) new x = prefix_trans old x.0 new (grows_by z d old x.0 c x.1 x.2) (each_grows z d x.0 cs new x.3)

-- a command that writes no block is guarded
pub reads_guarded : (z : Sizes) (root : Label) (d : ℕ) (base old new : List Entry) (c : Command) (r : Reply) → ((s : State) → written_by s d c ≡ None) → PerformedBy z d old new c r → OwnGuarded z root base d old new
reads_guarded z root d base old new c r none p =
    commands_beside_are_guarded z root d base old new c r p (λ l n is there. let clash : None ≡ Some l = sym (none (state_of z (old ++ p.between))) ∙ is in cc)

none_guarded : (z : Sizes) (root : Label) (d : ℕ) (base h : List Entry) → OwnGuarded z root base d h h
none_guarded z root d base h front e here since until own = absurd (nothing_between h front e since until)

pub each_guarded : (z : Sizes) (root : Label) (d : ℕ) (base old : List Entry) (cs : List Command) (new : List Entry) → AllByRecursion (λ (c : Command). (s : State) → written_by s d c ≡ None) cs → MakesEach z d old cs new → OwnGuarded z root base d old new
each_guarded z root d base old [] new all x = subst (OwnGuarded z root base d old) (sym x) (none_guarded z root d base old)
each_guarded z root d base old (c ∷ cs) new all x =
    stretches_add z root d base old x.0 new (each_grows z d x.0 cs new x.3) (reads_guarded z root d base old x.0 c x.1 all.0 x.2) (each_guarded z root d base x.0 cs new all.1 x.3)

-- whatever a domain did before the base is no matter
before_base : (z : Sizes) (root : Label) (d : ℕ) (base : List Entry) → OwnGuarded z root base d [] base
before_base z root d base front e here since until own = absurd (nothing_between base front e here until)

-- so the registers of what all share are kept where all are
pub places_kept : (z : Sizes) (p : Places) (d : ℕ) (old new : List Entry) → ((i : ℕ) → held_by z d new i ≡ held_by z d old i) → HoldsPlaces z p d old → HoldsPlaces z p d new
places_kept z p d old new same x = record { first = same 7 ∙ x.first; second = same 12 ∙ x.second; third = same 13 ∙ x.third; map = same 6 ∙ x.map }

-- the map that an allocation made, and its root
pub record MapAt (z : Sizes) (root : Label) (base : List Entry) : Type 0 where
  pub made : IsMadeAt z root base
  pub map : IsMap (graph_of z base) root
  pub placed : IsInPlace z.domains (graph_of z base) root

pub map_made : (z : Sizes) → IsWithinLimits z → (old base : List Entry) (l : Label) → PerformedBy z 0 old base (Alloc 6 0 512) (reply.Block l) → MapAt z l base
map_made z limits old base l p =
    ⊎_elim (λ refused. let clash : reply.Block l ≡ reply.Full = refused.1.2 in cc)
    (λ g. ⊎_elim (λ y. at y.0 y.1 y.2 g.0 g.1 g.2.2) (λ y. let clash : reply.Block l ≡ reply.Full = y.0 in cc) (made_map z limits 0 old base (reply.Block l) 6 (omega arith) p))
    (alloc_step z 0 old base (reply.Block l) 6 0 512 p)
  where
    front : List Entry
    front = old ++ p.between

    root : Label
    root = made z 0 old base (Alloc 6 0 512) (reply.Block l) p

    at : (m : Label) → reply.Block l ≡ reply.Block m → MakesMap z 0 old base 6 m → p.full ≡ false → node_at (graph_of z front) root ≡ None → reply.Block l ≡ reply.Block root → MapAt z l base
    at m is x done none same =
        let is_l : m ≡ l = cc in
        let same_l : root ≡ l = cc in
        subst (λ (k : Label). MapAt z k base) is_l (record {
          made = record {
            before = front;
            last = p.appends ∙ ap (λ (b : Bool). front ++ CommandOf 0 (Alloc 6 0 512) b ∷ []) done;
            fresh = subst (λ (k : Label). node_at (graph_of z front) k ≡ None) (same_l ∙ sym is_l) none;
            holds = x.holds;
            empty = x.empty;
          };
          map = x.map;
          placed = x.placed;
        })

-- what the first domain's preparation leaves
pub record FirstLaid (z : Sizes) (p : Places) (front : List Entry) : Type 0 where
  pub base : List Entry
  pub at : MapAt z p.map base
  pub grows : IsPrefix base front
  pub guarded : OwnGuarded z p.map base 0 [] front
  pub slots : HasSlots (graph_of z base) p
  pub reply : Reply
  pub shares : PerformedBy z 0 base front (SetKey 7 7 6) reply

pub first_laid : (z : Sizes) → IsWithinLimits z → (p : Places) (old new : List Entry) (x : LaysOut z 0 old new p) → HasSlots (graph_of z x.base) p → FirstLaid z p new
first_laid z limits p old new x slots =
    let l : Label = x.labels.3 in
    let at_l : MapAt z l x.base = map_made z limits x.before x.base l x.map in
    let last : new ≡ x.shared.0 = x.shared.3 in
    let set : PerformedBy z 0 x.base new (SetKey 7 7 6) x.shared.1 = subst (λ (h : List Entry). PerformedBy z 0 x.base h (SetKey 7 7 6) x.shared.1) (sym last) x.shared.2 in
    let kept : held_by z 0 new 6 ≡ held_by z 0 x.base 6 = set_key_keeps z 0 x.base new x.shared.1 7 7 6 set 6 in
    let both : Block p.map ≡ Block l = sym x.holds.map ∙ (kept ∙ at_l.made.holds) in
    let same : p.map ≡ l = cc in
    let grows : IsPrefix x.base new = grows_by z 0 x.base new (SetKey 7 7 6) x.shared.1 set in
    record {
      base = x.base;
      at = subst (λ (k : Label). MapAt z k x.base) (sym same) at_l;
      grows = grows;
      guarded = stretches_add z p.map 0 x.base [] x.base new grows (before_base z p.map 0 x.base) (later_keys_are_guarded z p.map 0 x.base x.base new 7 7 6 x.shared.1 (omega arith) set);
      slots = slots;
      reply = x.shared.1;
      shares = set;
    }

pub loaded_guarded : (z : Sizes) (root : Label) (d : ℕ) (base old new : List Entry) → MakesEach z d old loading new → OwnGuarded z root base d old new
loaded_guarded z root d base old new x = each_guarded z root d base old loading new ((λ s. refl), ((λ s. refl), ((λ s. refl), ((λ s. refl), tt)))) x

-- places that are found to be equal are the same
same_places : (a b : Places) → eq-value.it a b ≡ true → a ≡ b
same_places a b same = search rules

pub places_same : (o : Option Places) (p : Places) → option_eq eq-value.it o (Some p) ≡ true → o ≡ Some p
places_same None p is = let clash : false ≡ true = is in cc
places_same (Some q) p is = ap Some (same_places q p is)

-- what a domain found, at the numbers with which it began
pub found_by : (z now : Sizes) (d e : ℕ) (old mid new : List Entry) (cs : List Command) (p : Places) (o : Option Places) → now ≡ z → e ≡ d → new ≡ mid → cs ≡ loading → MakesEach z d old cs mid → ((q : Places) → o ≡ Some q → HoldsPlaces now q e mid) → o ≡ Some p → Finds z d old new p
found_by z now d e old mid new cs p o sizes domain front are makes holds is = record {
  loaded = subst (λ (w : List Command × List Entry). MakesEach z d old w.0 w.1) (λ i. (are i, sym front i)) makes;
  holds = subst (λ (w : Sizes × ℕ × List Entry). HoldsPlaces w.0 p w.1 w.2) (λ i. (sizes i, domain i, sym front i)) (holds p is);
}

-- some commands, at the numbers with which a call began
pub makes_at : (z now : Sizes) (d e : ℕ) (old : List Entry) (cs are : List Command) (new : List Entry) → now ≡ z → e ≡ d → cs ≡ are → MakesEach now e old cs new → MakesEach z d old are new
makes_at z now d e old cs are new sizes domain same x = subst (λ (w : Sizes × ℕ × List Command). MakesEach w.0 w.1 old w.2 new) (λ i. (sizes i, domain i, same i)) x

-- a label that a register holds has a node
in_registers : (vs : List Value) (r : ℕ) (m : Label) → get_or vs r Nothing ≡ Block m → IsTrue (has_label (filter_map label_of vs) m)
in_registers [] r m at = cc
in_registers (Block l ∷ vs) zero m at = let same : l ≡ m = cc in or_left (same_label l m) (has_label (filter_map label_of vs) m) (ap (λ (k : Label). same_label k m) same ∙ same_label_refl m)
in_registers (Int n ∷ vs) zero m at = cc
in_registers (Nothing ∷ vs) zero m at = cc
in_registers (Block l ∷ vs) (suc r) m at = or_right (same_label l m) (has_label (filter_map label_of vs) m) (in_registers vs r m at)
in_registers (Int n ∷ vs) (suc r) m at = in_registers vs r m at
in_registers (Nothing ∷ vs) (suc r) m at = in_registers vs r m at

labelled_node : (g : Graph) (l : Label) → IsTrue (has_label (labels g) l) → (n : Node) × (node_at g l ≡ Some n)
labelled_node [] l has = cc
labelled_node (e ∷ g) l has = go (same_label e.0 l) (labelled_node g l) has
  where
    go : (b : Bool) → (IsTrue (has_label (labels g) l) → (n : Node) × (node_at g l ≡ Some n)) → IsTrue (b || has_label (labels g) l) → (n : Node) × (cond b (Some e.1) (node_at g l) ≡ Some n)
    go true rest here = (e.1, refl)
    go false rest later = rest later

held_node : (z : Sizes) (d : ℕ) (h : List Entry) (r : ℕ) (m : Label) → held_by z d h r ≡ Block m → (n : Node) × (node_at (graph_of z h) m ≡ Some n)
held_node z d h r m held = labelled_node (graph_of z h) m (((wf_after (opening z) h (wf_opening z)).domains d).registers m (in_registers (domain_at (state_of z h) d).registers r m held))

-- a front at which a domain holds the map lies behind the base
pub behind_base : (z : Sizes) (root : Label) (base h old : List Entry) (d : ℕ) → IsMadeAt z root base → IsPrefix base h → IsPrefix old h → held_by z d old 6 ≡ Block root → IsPrefix base old
behind_base z root base h old d at base_h old_h held =
    let e : Entry = CommandOf 0 (Alloc 6 0 512) false in
    ⊎_elim (λ behind. subst (λ (b : List Entry). IsPrefix b old) (sym at.last) behind)
    (λ early.
    let here = held_node z d old 6 root held in
    let stays = grew_along z old at.before early root here.0 here.1 in
    let clash : None ≡ Some stays.0 = sym at.fresh ∙ stays.1 in cc)
    (before_or_behind old h at.before e old_h (subst (λ (b : List Entry). IsPrefix b h) at.last base_h))
