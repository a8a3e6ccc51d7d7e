-- The ephemerons of the slots, which the first domain makes and puts where all find them.
use Rattle.std.proofs.Common.{◌≡◌, ◌≢◌, ⊎_elim, ℕ, ◌+◌, ◌<◌, Bool, true, false, List, [], ◌∷◌, ◌++◌, set, replicate, slice_get, Option, Some, None, refl, ap, sym, ◌∙◌, subst, arith}
use Rattle.std.specs.Prelude.{slice_set}
use Rattle.model_core.specs.declared.command.Command.{Command}
use Rattle.model_core.specs.declared.command.Command.TheVariants.{Alloc, Ephe as NewEphe, SetKey, Store}
use Rattle.model_core.specs.declared.entry.Entry.{Entry}
use Rattle.model_core.specs.declared.entry.Entry.TheVariants.{Command as CommandOf}
use Rattle.model_core.specs.declared.graph.Node.{Node}
use Rattle.model_core.specs.declared.graph.Node.TheVariants.{Ephe, Plain, Raw}
use Rattle.model_core.specs.declared.graph.Value.{Value}
use Rattle.model_core.specs.declared.graph.Value.TheVariants.{Block, Int, Nothing}
use Rattle.model_core.specs.declared.label.Label.{Label}
use Rattle.model_core.specs.declared.reply.Applied.TheVariants.{Replied}
use Rattle.model_core.specs.declared.reply.Reply.{Reply}
use Rattle.model_core.specs.declared.reply.Reply.TheVariants as reply
use Rattle.model_core.specs.declared.state.Sizes.{Sizes}
use Rattle.model_core.specs.declared.state.State.{State}
use Rattle.model_core.specs.Commands.{block_in, in_bounds, stored, written_over}
use Rattle.model_core.specs.Domains.{IsWithinLimits, domain_at, register}
use Rattle.model_core.specs.Entries.{next, reply as reply_of}
use Rattle.model_core.specs.Graph.{Graph, node_at}
use Rattle.model_core.specs.History.{IsPrefix, Legal, LegalFrom}
use Rattle.model_core.proofs.Commands.FrameLemmas.{inside_running}
use Rattle.model_core.proofs.Commands.LeavesLemmas.{Leaves, leaves_allocation, new_label}
use Rattle.model_core.proofs.Graphs.GraphLemmas.{node_at-append_new}
use Rattle.model_core.proofs.Histories.NumberLemmas.{next_label_after}
use Rattle.weak_laws.specs.Maps.Calls.{PerformedBy, registers_after}
use Rattle.weak_laws.specs.Tables.Stages.{graph_of}
use Rattle.weak_laws.specs.Tables.Thinning.{state_of}
use Rattle.weak_laws.proofs.OfMaps.CallLemmas.{alloc_step, grows, registers_kept, to_middle}
use Rattle.weak_laws.proofs.OfMaps.FrontLemmas.{prefix_trans}
use Rattle.weak_maps.specs.Beside.{held_by}
use Rattle.weak_maps.proofs.BesideLemmas.{left_is, same_held, set_here, set_other, sixteen}
use Rattle.weak_maps.proofs.CountLemmas.{legal_both}
use Rattle.table_sections.specs.Places.{HasSlots, HoldsPlaces, LaysOut, MakesEach, publishing}
use Rattle.table_sections.specs.Slots.{IsEight, OnSlots}
use Rattle.table_sections.specs.declared.laying.Places.{Places}
use Rattle.table_sections.proofs.Laid.{each_grows}
use Rattle.table_sections.proofs.RegisterLemmas.{register_left, set_key_keeps}
use Rattle.table_sections.proofs.SlotLemmas.{eight_later, eight_on}

-- an ephemeron of eight keys that a domain has made: a register holds it, the others hold what they held, and there was no such block before
pub record MakesEight (z : Sizes) (d : ℕ) (old new : List Entry) (dst : ℕ) (l : Label) : Type 0 where
  pub block : IsEight (graph_of z new) l
  pub held : held_by z d new dst ≡ Block l
  pub keeps : (i : ℕ) → i ≢ dst → held_by z d new i ≡ held_by z d old i
  pub other : (x : Label) → IsEight (graph_of z old) x → x ≢ l

module _ (z : Sizes) (d : ℕ) (old new : List Entry) (dst : ℕ) (l : Label) (p : PerformedBy z d old new (NewEphe dst 8) (reply.Block l)) where
  abbrev c : Command
  c = NewEphe dst 8

  abbrev node : Node
  node = Ephe (replicate 8 None) Nothing

  abbrev front : List Entry
  front = old ++ p.between

  abbrev here : State
  here = state_of z front

  abbrev root : Label
  root = new_label here d

  done : p.full ≡ false
  done = by p.full refl
    where
      by : (b : Bool) → p.full ≡ b → b ≡ false
      by false is = refl
      by true is = let clash : Replied (reply.Block l) ≡ Replied reply.Full = sym p.replies ∙ ap (λ (b : Bool). reply_of here (CommandOf d c b)) is in cc

  legal : Legal z front × LegalFrom here (CommandOf d c p.full ∷ [])
  legal = legal_both z d old new c (reply.Block l) p

  leaves : Leaves here (CommandOf d c false) d (graph_of z front ++ (root, node) ∷ []) (set (domain_at here d).registers dst (Block root)) ((domain_at here d).serial + 1) (Replied (reply.Block root))
  leaves = leaves_allocation here d (inside_running here.domains d legal.1.0.running) c dst node refl

  after : state_of z new ≡ next here (CommandOf d c false)
  after = left_is z d old new c (reply.Block l) p ∙ ap (λ (b : Bool). next here (CommandOf d c b)) done

  same : l ≡ root
  same = let both : Replied (reply.Block l) ≡ Replied (reply.Block root) = sym p.replies ∙ (ap (λ (b : Bool). reply_of here (CommandOf d c b)) done ∙ leaves.replies) in cc

  fresh : node_at (graph_of z front) root ≡ None
  fresh = next_label_after z front legal.0 d

  registers_are : registers_after z d new ≡ set (registers_after z d old) dst (Block root)
  registers_are = ap (λ (s : State). (domain_at s d).registers) after ∙ (leaves.registers_are ∙ ap (λ (rs : List Value). set rs dst (Block root)) (registers_kept z d old new c (reply.Block l) p))

  eight_made : IsWithinLimits z → dst < 16 → MakesEight z d old new dst l
  eight_made limits few = subst (MakesEight z d old new dst) (sym same) (record {
    block = record {
      keys = replicate 8 None;
      datum = Nothing;
      node = ap (λ (s : State). node_at s.graph root) after ∙ (ap (λ (g : Graph). node_at g root) leaves.graph_is ∙ node_at-append_new (graph_of z front) root node fresh);
      eight = refl;
    };
    held = set_here z d old new dst (Block root) registers_are (sixteen z d old new c (reply.Block l) p limits) few;
    keeps = set_other z d old new dst (Block root) registers_are;
    other = λ x eight is.
        let there : IsEight (graph_of z front) x = eight_on z old front x (to_middle z d old new c (reply.Block l) p) eight in
        let clash : Some (Ephe there.keys there.datum) ≡ None = sym there.node ∙ (ap (node_at (graph_of z front)) is ∙ fresh) in
        cc;
  })

-- to store into a field writes no register
stored_keeps : (s : State) (d index : ℕ) (block : Option (Label × Node)) (v : Value) (i : ℕ) → register (stored s index block v).state d i ≡ register s d i
stored_keeps s d index None v i = refl
stored_keeps s d index (Some (l, Ephe keys datum)) v i = refl
stored_keeps s d index (Some (l, Plain tag fields)) Nothing i = refl
stored_keeps s d index (Some (l, Plain tag fields)) (Int n) i = by (slice_get fields index)
  where
    by : (o : Option Value) → register (in_bounds s o (written_over s l (Plain tag (slice_set fields index (Int n))))).state d i ≡ register s d i
    by None = refl
    by (Some x) = refl
stored_keeps s d index (Some (l, Plain tag fields)) (Block k) i = by (slice_get fields index)
  where
    by : (o : Option Value) → register (in_bounds s o (written_over s l (Plain tag (slice_set fields index (Block k))))).state d i ≡ register s d i
    by None = refl
    by (Some x) = refl
stored_keeps s d index (Some (l, Raw tag fields)) Nothing i = refl
stored_keeps s d index (Some (l, Raw tag fields)) (Block k) i = refl
stored_keeps s d index (Some (l, Raw tag fields)) (Int n) i = by (slice_get fields index)
  where
    by : (o : Option Value) → register (in_bounds s o (written_over s l (Raw tag (slice_set fields index (Int n))))).state d i ≡ register s d i
    by None = refl
    by (Some x) = refl

store_keeps : (z : Sizes) (d : ℕ) (old new : List Entry) (r : Reply) (block index item : ℕ) → PerformedBy z d old new (Store block index item) r → (i : ℕ) → held_by z d new i ≡ held_by z d old i
store_keeps z d old new r block index item p i =
    let s : State = state_of z (old ++ p.between) in
    register_left z d old new (Store block index item) r p refl i (stored_keeps s d index (block_in s d block) (register s d item) i)

published_keeps : (z : Sizes) (d : ℕ) (old new : List Entry) → MakesEach z d old publishing new → (i : ℕ) → held_by z d new i ≡ held_by z d old i
published_keeps z d old new (one, a, first, (two, b, second, (three, e, third, last))) i =
    ap (λ (h : List Entry). held_by z d h i) last ∙ (store_keeps z d two three e 0 2 13 third i ∙ (store_keeps z d one two b 0 1 12 second i ∙ store_keeps z d old one a 0 0 7 first i))

-- the allocation of the map keeps all registers but its own
alloc_keeps : (z : Sizes) (d : ℕ) (old new : List Entry) (r : Reply) (dst tag fields : ℕ) → PerformedBy z d old new (Alloc dst tag fields) r → (i : ℕ) → i ≢ dst → held_by z d new i ≡ held_by z d old i
alloc_keeps z d old new r dst tag fields p i other =
    ⊎_elim (λ refused. same_held z d old new refused.1.1 i) (λ granted. set_other z d old new dst _ granted.2.1 i other) (alloc_step z d old new r dst tag fields p)

-- two labels that a register holds are one
one_label : (v : Value) (k l : Label) → v ≡ Block k → v ≡ Block l → k ≡ l
one_label v k l first last = let both : Block k ≡ Block l = sym first ∙ last in cc

-- so the first domain's preparation lays out three ephemerons
module _ (z : Sizes) (limits : IsWithinLimits z) (p : Places) (d : ℕ) (old new : List Entry) (x : LaysOut z d old new p) where
  one : MakesEight z d old x.one 7 x.labels.0
  one = eight_made z d old x.one 7 x.labels.0 x.first limits (omega arith)

  two : MakesEight z d x.one x.two 12 x.labels.1
  two = eight_made z d x.one x.two 12 x.labels.1 x.second limits (omega arith)

  three : MakesEight z d x.two x.three 13 x.labels.2
  three = eight_made z d x.two x.three 13 x.labels.2 x.third limits (omega arith)

  share : PerformedBy z d x.base x.shared.0 (SetKey 7 7 6) x.shared.1
  share = x.shared.2

  behind_three : (i : ℕ) → i ≢ 6 → held_by z d new i ≡ held_by z d x.three i
  behind_three i other =
      ap (λ (h : List Entry). held_by z d h i) x.shared.3
      ∙ (set_key_keeps z d x.base x.shared.0 x.shared.1 7 7 6 share i ∙ (alloc_keeps z d x.before x.base (reply.Block x.labels.3) 6 0 512 x.map i other ∙ published_keeps z d x.three x.before x.published i))

  pub laid_keeps : (i : ℕ) → i ≢ 6 → i ≢ 7 → i ≢ 12 → i ≢ 13 → held_by z d new i ≡ held_by z d old i
  laid_keeps i six seven twelve thirteen = behind_three i six ∙ (three.keeps i thirteen ∙ (two.keeps i twelve ∙ one.keeps i seven))

  first_is : x.labels.0 ≡ p.first
  first_is = one_label (held_by z d new 7) x.labels.0 p.first
      (behind_three 7 (λ e. absurd (omega (arith, e))) ∙ (three.keeps 7 (λ e. absurd (omega (arith, e))) ∙ (two.keeps 7 (λ e. absurd (omega (arith, e))) ∙ one.held))) x.holds.first

  second_is : x.labels.1 ≡ p.second
  second_is = one_label (held_by z d new 12) x.labels.1 p.second (behind_three 12 (λ e. absurd (omega (arith, e))) ∙ (three.keeps 12 (λ e. absurd (omega (arith, e))) ∙ two.held)) x.holds.second

  third_is : x.labels.2 ≡ p.third
  third_is = one_label (held_by z d new 13) x.labels.2 p.third (behind_three 13 (λ e. absurd (omega (arith, e))) ∙ three.held) x.holds.third

  to_base : IsPrefix x.three x.base
  to_base = prefix_trans x.three x.before x.base (each_grows z d x.three publishing x.before x.published) (grows z d x.before x.base (Alloc 6 0 512) (reply.Block x.labels.3) x.map)

  two_three : IsPrefix x.two x.three
  two_three = grows z d x.two x.three (NewEphe 13 8) (reply.Block x.labels.2) x.third

  one_two : IsPrefix x.one x.two
  one_two = grows z d x.one x.two (NewEphe 12 8) (reply.Block x.labels.1) x.second

  abbrev Laid : Label → Label → Label → Type 0
  Laid a b c = HasSlots (graph_of z x.base) (record { first = a; second = b; third = c; map = p.map })

  pub slots_laid : HasSlots (graph_of z x.base) p
  slots_laid = subst (λ (w : Label × Label × Label). Laid w.0 w.1 w.2) (λ i. (first_is i, second_is i, third_is i)) (record {
    first = eight_on z x.three x.base x.labels.0 to_base (eight_on z x.two x.three x.labels.0 two_three (eight_on z x.one x.two x.labels.0 one_two one.block));
    second = eight_on z x.three x.base x.labels.1 to_base (eight_on z x.two x.three x.labels.1 two_three two.block);
    third = eight_on z x.three x.base x.labels.2 to_base three.block;
    one_two = two.other x.labels.0 one.block;
    one_three = three.other x.labels.0 (eight_on z x.one x.two x.labels.0 one_two one.block);
    two_three = three.other x.labels.1 two.block;
  })

-- and later the registers of each domain that hold them hold ephemerons of eight keys
pub on_slots : (z : Sizes) (p : Places) (d : ℕ) (base h : List Entry) → IsPrefix base h → HasSlots (graph_of z base) p → HoldsPlaces z p d h → OnSlots z d h
on_slots z p d base h grows laid holds = record {
  first = eight_later z d base h 7 p.first grows laid.first holds.first;
  second = eight_later z d base h 12 p.second grows laid.second holds.second;
  third = eight_later z d base h 13 p.third grows laid.third holds.third;
}
