-- What `map_get` answers and leaves, command by command.
use Rattle.std.proofs.Common.{◌≡◌, ◌≢◌, ℕ, ◌<◌, true, List, ◌++◌, Option, Some, None, refl, ap, sym, ◌∙◌, subst, arith}
use Rattle.model_core.specs.declared.label.Label.{Label}
use Rattle.model_core.specs.declared.command.Command.{Command}
use Rattle.model_core.specs.declared.command.Command.TheVariants.{Forget, GetKey, GetData}
use Rattle.model_core.specs.declared.entry.Entry.{Entry}
use Rattle.model_core.specs.declared.reply.Reply.{Reply}
use Rattle.model_core.specs.declared.reply.Reply.TheVariants as reply
use Rattle.model_core.specs.declared.graph.Value.{Value}
use Rattle.model_core.specs.declared.graph.Value.TheVariants.{Int, Block, Nothing}
use Rattle.model_core.specs.declared.state.Sizes.{Sizes}
use Rattle.model_core.specs.Graph.{Graph}
use Rattle.model_core.specs.Domains.{IsWithinLimits}
use Rattle.model_core.specs.Commands.{shown, key_value}
use Rattle.model_core.specs.History.{IsPrefix}
use Rattle.weak_laws.specs.Tables.Stages.{graph_of}
use Rattle.weak_laws.proofs.OfTables.StageLemmas.{prefix_trans}
use Rattle.weak_laws.specs.Maps.Steps.{OthersRespect}
use Rattle.weak_laws.specs.Maps.Calls.{PerformedBy, bound_after, value_of}
use Rattle.weak_laws.proofs.OfMaps.CallLemmas.{forget_step, get_key_step, get_data_step}
use Rattle.weak_maps.specs.Beside.{held_by}
use Rattle.weak_maps.specs.Walks.{Emptied, HoldsLeaf, KeepsButEight, LeafTells, Looking, Meets, Met}
use Rattle.weak_maps.specs.Returns.{GetReturns}
use Rattle.weak_maps.proofs.BesideLemmas.{sixteen, set_here, set_other, since_old, until_new}
use Rattle.weak_maps.proofs.StayLemmas.{leaf_middle, looking_on, prefix_same, quiet_looks, respects_within}
use Rattle.weak_maps.proofs.KeyLemmas.{KeyTells, key_shown, leaf_key}

-- a register that shows a label holds it
pub shown_label : (v : Value) (k : Label) → shown v ≡ reply.Block k → v ≡ Block k
shown_label (Int i) k is = cc
shown_label (Block l) k is = let same : l ≡ k = cc in ap Block same
shown_label Nothing k is = cc

-- one that shows none is no label's
pub no_label : (z : Sizes) (d : ℕ) (old : List Entry) (root : Label) (dst : ℕ) (v : Value) → ((k : Label) → shown v ≡ reply.Block k → ⊥) → GetReturns z d old old root dst v reply.BadType
no_label z d old root dst (Int i) none = (refl, refl)
no_label z d old root dst (Block l) none = absurd (none l refl)
no_label z d old root dst Nothing none = (refl, refl)

-- a command has grown a history
pub grows_by : (z : Sizes) (d : ℕ) (old new : List Entry) (c : Command) (r : Reply) → PerformedBy z d old new c r → IsPrefix old new
grows_by z d old new c r p = prefix_trans old (old ++ p.between) new (since_old z d old new c r p) (until_new z d old new c r p)

module _ (z : Sizes) (limits : IsWithinLimits z) (root : Label) (d : ℕ) (old new : List Entry) (k : Label) (dst : ℕ) (few : dst < 8) (respects : OthersRespect z root d old new) where
  -- a register that isn't 8 nor the answer's
  abbrev Keeps : List Entry → Type 0
  Keeps now = (i : ℕ) → i ≢ 8 → i ≢ dst → held_by z d now i ≡ held_by z d old i

  up_to : (a : List Entry) → IsPrefix a new → OthersRespect z root d old a
  up_to a before = respects_within z root d old new old a (prefix_same old) before respects

  -- register 8 is emptied at the end
  ended : (now : List Entry) (r : Reply) → PerformedBy z d now new (Forget 8) r → Looking z root d old now → Keeps now → (answer : Reply) → shown (held_by z d now dst) ≡ answer → (datum : Option Value) → (front : List Entry) → IsPrefix old front → IsPrefix front now → bound_after z root front k ≡ datum
      → answer ≡ shown (value_of datum) → GetReturns z d old new root dst (Block k) answer
  ended now r p looking keeps answer holds datum front since until bound is =
      let all = forget_step z d now new r 8 p in
      let after = looking_on z root d old now new (Forget 8) r p all.0 respects looking in (
        (datum, record { looks = quiet_looks z root d old new after.quiet; front = front; since = since; until = prefix_trans front now new until (grows_by z d now new (Forget 8) r p); bound = bound }, is),
        record {
          map = after.map;
          quiet = after.quiet;
          holds = ap shown (set_other z d now new 8 Nothing all.1 dst (λ e. absurd (omega (arith, few, e)))) ∙ holds;
          clean = set_here z d now new 8 Nothing all.1 (sixteen z d now new (Forget 8) r p limits) (omega arith);
          keeps = λ i other apart. set_other z d now new 8 Nothing all.1 i other ∙ keeps i other apart;
        },
      )

  -- where the key isn't bound
  pub returns_none : (now : List Entry) → Looking z root d old now → Keeps now → (front : List Entry) → IsPrefix old front → IsPrefix front now → bound_after z root front k ≡ None → Emptied z d now new dst → GetReturns z d old new root dst (Block k) reply.Empty
  returns_none now looking keeps front since until bound x =
      let all = forget_step z d now x.between x.first dst x.empties in
      let grows = grows_by z d now x.between (Forget dst) x.first x.empties in
      let later = up_to x.between (grows_by z d x.between new (Forget 8) x.second x.clears) in
      ended x.between x.second x.clears (looking_on z root d old now x.between (Forget dst) x.first x.empties all.0 later looking)
      (λ i other apart. set_other z d now x.between dst Nothing all.1 i apart ∙ keeps i other apart)
      reply.Empty (ap shown (set_here z d now x.between dst Nothing all.1 (sixteen z d now x.between (Forget dst) x.first x.empties limits) (omega (arith, few)))) None front since (prefix_trans front now x.between until grows) bound refl

  -- a leaf that register 8 holds, once the answer's register has got its key
  pub key_read : (now n1 : List Entry) (r : Reply) (o : Option Value) (kr : ℕ) → PerformedBy z d now n1 (GetKey dst 8 0) r → IsPrefix n1 new → Looking z root d old now → held_by z d now kr ≡ Block k → Keeps now → HoldsLeaf z d now root k o 8
      → (key : Option Label) × Looking z root d old n1 × Keeps n1 × (held_by z d n1 dst ≡ key_value key) × (r ≡ shown (key_value key)) × KeyTells k o key × HoldsLeaf z d n1 root k o 8
  key_read now n1 r o kr p before looking key keeps x =
      let c = GetKey dst 8 0 in
      let later = up_to n1 before in
      let tells : LeafTells (graph_of z (now ++ p.between)) x.l k o = leaf_middle z root d old now n1 c r p later looking.grows k o kr x.l x.former x.p x.before x.there x.leaf key x.tells in
      let n = leaf_key k (graph_of z (now ++ p.between)) x.l o tells in
      let all = get_key_step z d now n1 r dst 8 p x.l n.0 n.1 x.held n.2 in (
        n.0,
        looking_on z root d old now n1 c r p all.0 later looking,
        (λ i other apart. set_other z d now n1 dst (key_value n.0) all.1 i apart ∙ keeps i other apart),
        set_here z d now n1 dst (key_value n.0) all.1 (sixteen z d now n1 c r p limits) (omega (arith, few)),
        all.2,
        n.3,
        record {
          l = x.l;
          held = set_other z d now n1 dst (key_value n.0) all.1 8 (λ e. absurd (omega (arith, few, e))) ∙ x.held;
          tells = subst (λ (g : Graph). LeafTells g x.l k o) (sym all.0) tells;
          former = x.former;
          before = prefix_trans x.former now n1 x.before (grows_by z d now n1 c r p);
          p = x.p;
          there = x.there;
          leaf = x.leaf;
        },
      )

  -- it is a leaf of another key
  pub returns_other : (now n1 : List Entry) (r : Reply) (o : Option Value) (kr : ℕ) → PerformedBy z d now n1 (GetKey dst 8 0) r → IsPrefix n1 new → KeepsButEight z d old now → held_by z d now kr ≡ Block k → Meets z d old now root k o → HoldsLeaf z d now root k o 8
      → (r ≡ reply.Block k → ⊥) → Emptied z d n1 new dst → GetReturns z d old new root dst (Block k) reply.Empty
  returns_other now n1 r None kr p before keeps key m x other e =
      let y = key_read now n1 r None kr p before m.looking key (λ i a b. keeps i a) x in
      returns_none n1 y.1 y.2 m.front m.since (prefix_trans m.front now n1 m.until (grows_by z d now n1 (GetKey dst 8 0) r p)) m.bound e
  returns_other now n1 r (Some datum) kr p before keeps key m x other e =
      let y = key_read now n1 r (Some datum) kr p before m.looking key (λ i a b. keeps i a) x in
      absurd (other (y.4 ∙ ap (λ (j : Option Label). shown (key_value j)) y.5))

  -- it is the leaf of the key
  pub returns_datum : (now n1 n2 : List Entry) (r r2 r3 : Reply) (o : Option Value) (kr : ℕ) → PerformedBy z d now n1 (GetKey dst 8 0) r → PerformedBy z d n1 n2 (GetData dst 8) r2 → PerformedBy z d n2 new (Forget 8) r3 → KeepsButEight z d old now → held_by z d now kr ≡ Block k
      → Meets z d old now root k o → HoldsLeaf z d now root k o 8 → r ≡ reply.Block k → GetReturns z d old new root dst (Block k) r2
  returns_datum now n1 n2 r r2 r3 None kr p p2 p3 keeps key m x is =
      let y = key_read now n1 r None kr p (prefix_trans n1 n2 new (grows_by z d n1 n2 (GetData dst 8) r2 p2) (grows_by z d n2 new (Forget 8) r3 p3)) m.looking key (λ i a b. keeps i a) x in
      absurd (y.5 (key_shown k y.0 (sym y.4 ∙ is)))
  returns_datum now n1 n2 r r2 r3 (Some datum) kr p p2 p3 keeps key m x is =
      let c = GetData dst 8 in
      let last = grows_by z d n2 new (Forget 8) r3 p3 in
      let second = grows_by z d n1 n2 c r2 p2 in
      let first = grows_by z d now n1 (GetKey dst 8 0) r p in
      let y = key_read now n1 r (Some datum) kr p (prefix_trans n1 n2 new second last) m.looking key (λ i a b. keeps i a) x in
      let held : held_by z d n1 dst ≡ Block k = y.3 ∙ ap key_value y.5 in
      let later = up_to n2 last in
      let leaf = y.6 in
      let tells : LeafTells (graph_of z (n1 ++ p2.between)) leaf.l k (Some datum) = leaf_middle z root d old n1 n2 c r2 p2 later y.1.grows k (Some datum) dst leaf.l leaf.former leaf.p leaf.before leaf.there leaf.leaf held leaf.tells in
      let all = get_data_step z d n1 n2 r2 dst 8 p2 leaf.l (Some k) datum leaf.held tells in
      ended n2 r3 p3 (looking_on z root d old n1 n2 c r2 p2 all.0 later y.1)
      (λ i other apart. set_other z d n1 n2 dst datum all.1 i apart ∙ y.2 i other apart)
      r2 (ap shown (set_here z d n1 n2 dst datum all.1 (sixteen z d n1 n2 c r2 p2 limits) (omega (arith, few))) ∙ sym all.2) (Some datum) m.front m.since
      (prefix_trans m.front now n2 m.until (prefix_trans now n1 n2 first second)) m.bound all.2

  -- so by what the walk to the key has met
  pub got_missed : (now : List Entry) → (OthersRespect z root d old now → Meets z d old now root k None) → Emptied z d now new dst → GetReturns z d old new root dst (Block k) reply.Empty
  got_missed now meets e =
      let m = meets (up_to now (prefix_trans now e.between new (grows_by z d now e.between (Forget dst) e.first e.empties) (grows_by z d e.between new (Forget 8) e.second e.clears))) in
      returns_none now m.looking (λ i a b. m.keeps i a) m.front m.since m.until m.bound e

  module _ (kr : ℕ) (few_key : kr < 8) (key : held_by z d old kr ≡ Block k) where
    still : (now : List Entry) → KeepsButEight z d old now → held_by z d now kr ≡ Block k
    still now keeps = keeps kr (λ e. absurd (omega (arith, few_key, e))) ∙ key

    pub got_other : (now n1 : List Entry) (r : Reply) → (OthersRespect z root d old now → Met z d old now root k true) → PerformedBy z d now n1 (GetKey dst 8 0) r → (r ≡ reply.Block k → ⊥) → Emptied z d n1 new dst → GetReturns z d old new root dst (Block k) reply.Empty
    got_other now n1 r met p other e =
        let last = prefix_trans n1 e.between new (grows_by z d n1 e.between (Forget dst) e.first e.empties) (grows_by z d e.between new (Forget 8) e.second e.clears) in
        let x = met (up_to now (prefix_trans now n1 new (grows_by z d now n1 (GetKey dst 8 0) r p) last)) in
        returns_other now n1 r x.0 kr p last x.1.keeps (still now x.1.keeps) x.1 x.2 other e

    pub got_datum : (now n1 n2 : List Entry) (r r2 r3 : Reply) → (OthersRespect z root d old now → Met z d old now root k true) → PerformedBy z d now n1 (GetKey dst 8 0) r → PerformedBy z d n1 n2 (GetData dst 8) r2 → PerformedBy z d n2 new (Forget 8) r3 → r ≡ reply.Block k
        → GetReturns z d old new root dst (Block k) r2
    got_datum now n1 n2 r r2 r3 met p p2 p3 is =
        let last = prefix_trans n1 n2 new (grows_by z d n1 n2 (GetData dst 8) r2 p2) (grows_by z d n2 new (Forget 8) r3 p3) in
        let x = met (up_to now (prefix_trans now n1 new (grows_by z d now n1 (GetKey dst 8 0) r p) last)) in
        returns_datum now n1 n2 r r2 r3 x.0 kr p p2 p3 x.1.keeps (still now x.1.keeps) x.1 x.2 is
