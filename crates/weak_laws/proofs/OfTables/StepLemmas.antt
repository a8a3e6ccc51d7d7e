-- What each command does that tables and weak arrays are made of: what it answers, which registers it changes, and which block.
use Rattle.std.proofs.Common.{◌≡◌, ◌≢◌, ◌⊎◌, inl, inr, ⊎_elim, ℕ, ◌+◌, ◌<◌, ◌≤◌, Bool, true, false, List, [], ◌∷◌, ◌++◌, length, get_or, set, slice_get, ℤ, Option, Some, None, refl, ap, sym, ◌∙◌, subst, append_assoc}
use Rattle.model_core.specs.declared.label.Label.{Label}
use Rattle.model_core.specs.declared.command.Command.{Command}
use Rattle.model_core.specs.declared.command.Command.TheVariants.{PutInt, Copy, Forget, Alloc, Load, Store, Ephe as NewEphe, SetKey, UnsetKey, GetKey, CheckKey, SetData, UnsetData, GetData, FullMajor, Spawn, Argument, PutResult, Join}
use Rattle.model_core.specs.declared.entry.Entry.{Entry}
use Rattle.model_core.specs.declared.entry.Entry.TheVariants.{Command as CommandOf}
use Rattle.model_core.specs.declared.reply.Reply.{Reply}
use Rattle.model_core.specs.declared.reply.Reply.TheVariants.{Done, Block as BlockReply, BadType, BadIndex, Full}
use Rattle.model_core.specs.declared.reply.Applied.TheVariants.{Replied}
use Rattle.model_core.specs.declared.graph.Value.{Value}
use Rattle.model_core.specs.declared.graph.Value.TheVariants.{Int, Block, Nothing}
use Rattle.model_core.specs.declared.graph.Node.{Node}
use Rattle.model_core.specs.declared.graph.Node.TheVariants.{Plain, Ephe}
use Rattle.model_core.specs.declared.state.Mode.TheVariants.{Open}
use Rattle.model_core.specs.declared.state.Sizes.{Sizes}
use Rattle.model_core.specs.declared.state.State.{State}
use Rattle.model_core.specs.Graph.{Graph, label_of, same_label, node_at, with_node}
use Rattle.model_core.specs.Domains.{IsWithinLimits, domain_at, register, opening}
use Rattle.model_core.specs.Commands.{CommandAllowed, FitsMode, FullOnlyWhereAllowed, MayBeFull, is_allocation, shown, key_value, new_plain}
use Rattle.model_core.specs.Entries.{next, reply}
use Rattle.model_core.specs.History.{state_after, LegalFrom, Legal}
use Rattle.model_core.specs.Fronts.{NoneOf, KeepsDomain}
use Rattle.model_core.proofs.Commands.FrameLemmas.{inside_running}
use Rattle.model_core.proofs.Commands.MoveLemmas.{outcome-mode}
use Rattle.model_core.proofs.Commands.LeavesLemmas.{Leaves, new_label, leaves_put, leaves_load, leaves_load_past, leaves_copy, leaves_forget, leaves_store, leaves_store_nothing, leaves_full, leaves_allocation, leaves_alloc}
use Rattle.model_core.proofs.Graphs.GraphLemmas.{same_label_refl, node_at-with_node_same, node_at-append_new}
use Rattle.model_core.proofs.Histories.NumberLemmas.{next_label_after}
use Rattle.model_core.proofs.Histories.FrontLemmas.{keeps_front}
use Rattle.model_core.proofs.Histories.HistoryLemmas.{state_after-push}
use Rattle.model_core.proofs.Histories.ShapeAfterLemmas.{shaped-history}
use Rattle.model_core.proofs.Reach.ReachLemmas.{or_left, and_left, and_right, and_both, not_false}
use Rattle.weak_laws.specs.Tables.Thinning.{is_collector, AllCollector, state_of, Went, Thin, Changes}
use Rattle.weak_laws.specs.Tables.Performing.{Performed, After, Remains, registers_of}
use Rattle.weak_laws.proofs.OfTables.ChangeLemmas.{changes_same, changes_twice, changes_more, changes_write, changes_append}
use Rattle.weak_laws.proofs.OfTables.OutcomeLemmas.{full_reply, leaves_full_major, leaves_set_key_type, leaves_get_key, leaves_check_key, leaves_get_data, leaves_set_key, leaves_unset_key, leaves_set_data, leaves_unset_data}
use Rattle.weak_laws.proofs.OfTables.CollectorLemmas.{collector_other, stretch_thins}

-- each part of a legal history is legal where it stands
pub legal_parts : (s : State) (h k : List Entry) → LegalFrom s (h ++ k) → LegalFrom s h × LegalFrom (state_after s h) k
legal_parts s [] k legal = (tt, legal)
legal_parts s (e ∷ h) k legal = let rest = legal_parts (next s e) h k legal.1 in ((legal.0, rest.0), rest.1)

pub collector_none : (h : List Entry) (d : ℕ) → AllCollector h → NoneOf d h
collector_none [] d mine = refl
collector_none (e ∷ h) d mine = and_both _ _ (not_false _ (collector_other e d (and_left _ _ mine))) (collector_none h d (and_right (is_collector e) _ mine))

-- a command is answered while no collection is under way, but a `full_major`
abbrev pub is_major : Command → Bool
is_major FullMajor = true
is_major _ = false

fits_open : (s : State) (d : ℕ) (c : Command) → is_major c ≡ false → FitsMode s d c → s.mode ≡ Open
fits_open s d FullMajor other fits = cc
fits_open s d (Spawn section item) other fits = absurd fits
fits_open s d (Argument dst) other fits = absurd fits
fits_open s d (PutResult item) other fits = absurd fits
fits_open s d (Join dst section) other fits = absurd fits
fits_open s d c other fits = fits.0

command_mode : (s : State) (d : ℕ) (c : Command) (full : Bool) → (next s (CommandOf d c full)).mode ≡ s.mode
command_mode s d c true = refl
command_mode s d c false = outcome-mode s d c

module _ (z : Sizes) (limits : IsWithinLimits z) (old new : List Entry) (c : Command) (r : Reply) (p : Performed z old new c r) where
  abbrev front : List Entry
  front = old ++ p.between

  -- the state in which the command is made
  abbrev middle : State
  middle = state_of z front

  new_is : new ≡ front ++ CommandOf 0 c p.full ∷ []
  new_is = p.appends

  pub left_is : state_of z new ≡ next middle (CommandOf 0 c p.full)
  left_is = ap (state_of z) new_is ∙ state_after-push (opening z) front _

  whole_legal : LegalFrom (opening z) front × LegalFrom middle (CommandOf 0 c p.full ∷ [])
  whole_legal = legal_parts (opening z) front (CommandOf 0 c p.full ∷ []) (subst (Legal z) new_is p.legal)

  allowed : CommandAllowed middle 0 c p.full
  allowed = whole_legal.1.0

  -- so none is afterwards
  pub step_open : is_major c ≡ false → (state_of z new).mode ≡ Open
  step_open other = ap (λ (t : State). t.mode) left_is ∙ (command_mode middle 0 c p.full ∙ fits_open middle 0 c other allowed.fits)

  pub inside : 0 < length middle.domains
  inside = inside_running middle.domains 0 allowed.running

  sixteen : length (domain_at middle 0).registers ≡ 16
  sixteen = (shaped-history z front limits).register_count 0 inside

  pub kept : KeepsDomain (state_of z old) middle 0
  kept = keeps_front (opening z) 0 front old (record { rest = p.between; appends = refl; others = collector_none p.between 0 p.collector })

  until_new : (k : Label) → Went z old front k → Went z old new k
  until_new k went = record {
    was = record {
      front = went.was.front;
      since = went.was.since;
      until = record {
        rest = went.was.until.rest ++ CommandOf 0 c p.full ∷ [];
        appends = new_is ∙ (ap (λ (h : List Entry). h ++ CommandOf 0 c p.full ∷ []) went.was.until.appends ∙ append_assoc went.was.front went.was.until.rest _);
      };
      outside = went.was.outside;
      entry = went.was.entry;
      through = record {
        rest = went.was.through.rest ++ CommandOf 0 c p.full ∷ [];
        appends = new_is ∙ (ap (λ (h : List Entry). h ++ CommandOf 0 c p.full ∷ []) went.was.through.appends ∙ append_assoc (went.was.front ++ went.was.entry ∷ []) went.was.through.rest _);
      };
      taken = went.was.taken;
    };
    unheld = went.unheld;
  }

  pub thins : Changes (Went z old new) [] (state_of z old).graph middle.graph
  thins = changes_more (Went z old front) (Went z old new) [] [] _ _ until_new (λ l h. h)
      (stretch_thins z old p.between (legal_parts (opening z) old p.between whole_legal.0).1 p.collector)

  pub not_full : is_allocation c ≡ false → p.full ≡ false
  not_full none = go p.full refl
    where
      go : (b : Bool) → p.full ≡ b → b ≡ false
      go false e = refl
      go true e = let may : MayBeFull middle 0 c = subst (FullOnlyWhereAllowed middle 0 c) e allowed.full_fits in let clash : true ≡ false = sym may.allocates ∙ none in cc

  -- what the command leaves, where it isn't answered `full`
  module _ (g : Graph) (rs : List Value) (serial : ℕ) (a : Reply) (done : p.full ≡ false) (leaves : Leaves middle (CommandOf 0 c false) 0 g rs serial (Replied a)) where
    left_plain : state_of z new ≡ next middle (CommandOf 0 c false)
    left_plain = left_is ∙ ap (λ b. next middle (CommandOf 0 c b)) done

    graph_is : (state_of z new).graph ≡ g
    graph_is = ap (λ (t : State). t.graph) left_plain ∙ leaves.graph_is

    registers_are : registers_of z new ≡ rs
    registers_are = ap (λ (t : State). (domain_at t 0).registers) left_plain ∙ leaves.registers_are

    answers : r ≡ a
    answers =
        let same : Replied r ≡ Replied a = sym p.replies ∙ (ap (λ b. reply middle (CommandOf 0 c b)) done ∙ leaves.replies) in cc

    after : (own : List Label) → Changes (Went z old new) own middle.graph g → After z old new own rs
    after own changes = record {
      legal = p.legal;
      grows = record { rest = p.between ++ CommandOf 0 c p.full ∷ []; appends = p.appends ∙ append_assoc old p.between _ };
      changes = subst (λ (h : Graph). Changes (Went z old new) own (state_of z old).graph h) (sym graph_is)
          (changes_twice (Went z old new) own _ _ _ (changes_more (Went z old new) (Went z old new) [] own _ _ (λ k w. w) (λ l h. let clash : false ≡ true = h in cc) thins) changes);
      registers_are = registers_are;
    }

  -- what a register holds is what it held before the collector's entries
  held : (i : ℕ) → register middle 0 i ≡ register (state_of z old) 0 i
  held i = ap (λ (rs : List Value). get_or rs i Nothing) kept.registers

  -- a command that reads: no block is changed
  reads : (rs : List Value) (serial : ℕ) (a : Reply) → is_allocation c ≡ false → Leaves middle (CommandOf 0 c false) 0 middle.graph (rs) serial (Replied a)
      → After z old new [] rs × (r ≡ a) × ((state_of z new).graph ≡ middle.graph)
  reads rs serial a none leaves =
      let done = not_full none in
      (after _ rs serial a done leaves [] (changes_same (Went z old new) [] middle.graph), answers _ rs serial a done leaves, graph_is _ rs serial a done leaves)

  -- a command that writes one block
  writes : (l : Label) (was n : Node) (rs : List Value) (serial : ℕ) (a : Reply) → is_allocation c ≡ false → node_at middle.graph l ≡ Some was
      → Leaves middle (CommandOf 0 c false) 0 (with_node middle.graph l n) rs serial (Replied a) → After z old new (l ∷ []) rs × (r ≡ a) × (node_at (state_of z new).graph l ≡ Some n)
  writes l was n rs serial a none at leaves =
      let done = not_full none in (
        after _ rs serial a done leaves (l ∷ [])
            (changes_write (Went z old new) (l ∷ []) middle.graph middle.graph l n (or_left (same_label l l) false (same_label_refl l)) (changes_same (Went z old new) (l ∷ []) middle.graph)),
        answers _ rs serial a done leaves,
        ap (λ (g : Graph). node_at g l) (graph_is _ rs serial a done leaves) ∙ node_at-with_node_same middle.graph l n was at,
      )

  -- an allocation: it is refused and changes nothing, or makes a new block
  abbrev made : Label
  made = record { domain = 0; serial = (domain_at (state_of z old) 0).serial + 1 }

  makes : (dst : ℕ) (n : Node) → ((s : State) → 0 < length s.domains → Leaves s (CommandOf 0 c false) 0 (s.graph ++ (new_label s 0, n) ∷ []) (set (domain_at s 0).registers dst (Block (new_label s 0))) ((domain_at s 0).serial + 1) (Replied (BlockReply (new_label s 0))))
      → (After z old new [] (registers_of z old) × (r ≡ Full))
      ⊎ (After z old new [] (set (registers_of z old) dst (Block made)) × (r ≡ BlockReply made) × (node_at (state_of z old).graph made ≡ None) × (node_at (state_of z new).graph made ≡ Some n))
  makes dst n leaves = go p.full refl
    where
      same_made : new_label middle 0 ≡ made
      same_made = ap (λ (k : ℕ). record { domain = 0; serial = k + 1 }) kept.serial

      fresh : node_at middle.graph made ≡ None
      fresh = subst (λ (l : Label). node_at middle.graph l ≡ None) same_made (next_label_after z front whole_legal.0 0)

      refused : p.full ≡ true → After z old new [] (registers_of z old) × (r ≡ Full)
      refused e =
          let here : state_of z new ≡ next middle (CommandOf 0 c true) = left_is ∙ ap (λ b. next middle (CommandOf 0 c b)) e in
          let leaves = leaves_full middle 0 c in
          let same : Replied r ≡ Replied Full = sym p.replies ∙ ap (λ b. reply middle (CommandOf 0 c b)) e in (
            record {
              legal = p.legal;
              grows = record { rest = p.between ++ CommandOf 0 c p.full ∷ []; appends = p.appends ∙ append_assoc old p.between _ };
              changes = subst (λ (h : Graph). Changes (Went z old new) [] (state_of z old).graph h) (sym (ap (λ (t : State). t.graph) here ∙ leaves.graph_is)) thins;
              registers_are = ap (λ (t : State). (domain_at t 0).registers) here ∙ (leaves.registers_are ∙ kept.registers);
            },
            cc,
          )

      granted : p.full ≡ false → After z old new [] (set (registers_of z old) dst (Block made)) × (r ≡ BlockReply made) × (node_at (state_of z old).graph made ≡ None) × (node_at (state_of z new).graph made ≡ Some n)
      granted e =
          let x = leaves middle inside in (
            subst (λ (rs : List Value). After z old new [] rs) ((λ i. set (kept.registers i) dst (Block (same_made i))))
                (after _ _ _ _ e x [] (changes_append (Went z old new) [] middle.graph middle.graph _ (changes_same (Went z old new) [] middle.graph))),
            answers _ _ _ _ e x ∙ ap BlockReply same_made,
            next_label_after z old (legal_parts (opening z) old p.between whole_legal.0).0 0,
            ap (λ (g : Graph). node_at g made) (graph_is _ _ _ _ e x)
                ∙ subst (λ (l : Label). node_at (middle.graph ++ (l, n) ∷ []) made ≡ Some n) (sym same_made) (node_at-append_new middle.graph made n fresh),
          )

      go : (b : Bool) → p.full ≡ b → (After z old new [] (registers_of z old) × (r ≡ Full))
          ⊎ (After z old new [] (set (registers_of z old) dst (Block made)) × (r ≡ BlockReply made) × (node_at (state_of z old).graph made ≡ None) × (node_at (state_of z new).graph made ≡ Some n))
      go true e = inl (refused e)
      go false e = inr (granted e)

  -- an ephemeron of one key, when the command is made
  module _ (l : Label) (key : Option Label) (datum : Value) (at : node_at (state_of z old).graph l ≡ Some (Ephe (key ∷ []) datum)) where
    still : (w : Remains z old new key datum) × (node_at middle.graph l ≡ Some (Ephe (w.key_now ∷ []) w.datum_now))
    still = go (thins l _ at refl)
      where
        go : Thin (Went z old new) (Ephe (key ∷ []) datum) (node_at middle.graph l) → (w : Remains z old new key datum) × (node_at middle.graph l ≡ Some (Ephe (w.key_now ∷ []) w.datum_now))
        go (inl same) = (record { key_now = key; datum_now = datum; left = inl refl }, same)
        go (inr (k, is, gone, empty)) = (record { key_now = None; datum_now = Nothing; left = inr (k, is, gone, refl) }, empty)

module _ (z : Sizes) (limits : IsWithinLimits z) (old new : List Entry) (r : Reply) where
  abbrev before : State
  before = state_of z old

  pub load_step : (dst src i : ℕ) (l : Label) (tag : ℕ) (fields : List Value) (v : Value) → register before 0 src ≡ Block l → node_at before.graph l ≡ Some (Plain tag fields)
      → slice_get fields i ≡ Some v → Performed z old new (Load dst src i) r → After z old new [] (set (registers_of z old) dst v) × (r ≡ shown v)
  load_step dst src i l tag fields v holds at field p =
      let c = Load dst src i in
      let leaves = leaves_load (middle z limits old new c r p) 0 (inside z limits old new c r p) dst src i l tag fields v (held z limits old new c r p src ∙ holds) (thins z limits old new c r p l _ at refl) field in
      let all = reads z limits old new c r p _ _ _ refl leaves in
      (subst (λ (rs : List Value). After z old new [] (set rs dst v)) (kept z limits old new c r p).registers all.0, all.1)

  pub put_step : (dst : ℕ) (v : ℤ) → Performed z old new (PutInt dst v) r → After z old new [] (set (registers_of z old) dst (Int v)) × (r ≡ Done)
  put_step dst v p =
      let c = PutInt dst v in
      let leaves = leaves_put (middle z limits old new c r p) 0 (inside z limits old new c r p) dst v in
      let all = reads z limits old new c r p _ _ _ refl leaves in
      (subst (λ (rs : List Value). After z old new [] (set rs dst (Int v))) (kept z limits old new c r p).registers all.0, all.1)

  -- a complete collection, once the collector's entries are made
  pub full_major_step : (p : Performed z old new FullMajor r) → After z old new [] (registers_of z old) × ((state_of z new).graph ≡ (state_of z (old ++ p.between)).graph)
  full_major_step p =
      let c : Command = FullMajor in
      let leaves = leaves_full_major (middle z limits old new c r p) 0 in
      let all = reads z limits old new c r p _ _ _ refl leaves in
      (subst (λ (rs : List Value). After z old new [] rs) (kept z limits old new c r p).registers all.0, all.2)

  pub forget_step : (dst : ℕ) → Performed z old new (Forget dst) r → After z old new [] (set (registers_of z old) dst Nothing) × (r ≡ Done)
  forget_step dst p =
      let c = Forget dst in
      let leaves = leaves_forget (middle z limits old new c r p) 0 (inside z limits old new c r p) dst in
      let all = reads z limits old new c r p _ _ _ refl leaves in
      (subst (λ (rs : List Value). After z old new [] (set rs dst Nothing)) (kept z limits old new c r p).registers all.0, all.1)

  pub copy_step : (dst src : ℕ) (v : Value) → register before 0 src ≡ v → Performed z old new (Copy dst src) r → After z old new [] (set (registers_of z old) dst v) × (r ≡ Done)
  copy_step dst src v is p =
      let c = Copy dst src in
      let leaves = leaves_copy (middle z limits old new c r p) 0 (inside z limits old new c r p) dst src in
      let all = reads z limits old new c r p _ _ _ refl leaves in
      (subst (λ (rs : List Value). After z old new [] rs) (λ i. set ((kept z limits old new c r p).registers i) dst ((held z limits old new c r p src ∙ is) i)) all.0, all.1)

  pub store_step : (block i item : ℕ) (l : Label) (tag : ℕ) (fields : List Value) (v was : Value) → register before 0 block ≡ Block l → node_at before.graph l ≡ Some (Plain tag fields)
      → slice_get fields i ≡ Some was → register before 0 item ≡ v → v ≢ Nothing → Performed z old new (Store block i item) r
      → After z old new (l ∷ []) (registers_of z old) × (r ≡ Done) × (node_at (state_of z new).graph l ≡ Some (Plain tag (set fields i v)))
  store_step block i item l tag fields v was holds at field is some p =
      let c = Store block i item in
      let there = thins z limits old new c r p l _ at refl in
      let leaves = leaves_store (middle z limits old new c r p) 0 block i item l tag fields v was (held z limits old new c r p block ∙ holds) there field (held z limits old new c r p item ∙ is) some in
      let all = writes z limits old new c r p l _ _ _ _ _ refl there leaves in
      (subst (λ (rs : List Value). After z old new (l ∷ []) rs) (kept z limits old new c r p).registers all.0, all.1, all.2)

  pub alloc_step : (dst tag fields : ℕ) → Performed z old new (Alloc dst tag fields) r → (After z old new [] (registers_of z old) × (r ≡ Full))
      ⊎ ((l : Label) × After z old new [] (set (registers_of z old) dst (Block l)) × (r ≡ BlockReply l) × (node_at before.graph l ≡ None) × (node_at (state_of z new).graph l ≡ Some (new_plain tag fields)))
  alloc_step dst tag fields p =
      ⊎_elim (λ refused. inl refused) (λ granted. inr (_, granted.0, granted.1, granted.2, granted.3))
      (makes z limits old new (Alloc dst tag fields) r p dst (new_plain tag fields) (λ s inside. leaves_alloc s 0 inside dst tag fields))

  pub ephe_step : (dst : ℕ) → Performed z old new (NewEphe dst 1) r → (After z old new [] (registers_of z old) × (r ≡ Full))
      ⊎ ((l : Label) × After z old new [] (set (registers_of z old) dst (Block l)) × (r ≡ BlockReply l) × (node_at before.graph l ≡ None) × (node_at (state_of z new).graph l ≡ Some (Ephe (None ∷ []) Nothing)))
  ephe_step dst p =
      ⊎_elim (λ refused. inl refused) (λ granted. inr (_, granted.0, granted.1, granted.2, granted.3))
      (makes z limits old new (NewEphe dst 1) r p dst (Ephe (None ∷ []) Nothing) (λ s inside. leaves_allocation s 0 inside (NewEphe dst 1) dst (Ephe (None ∷ []) Nothing) refl))

  -- a load past the fields
  pub load_past_step : (dst src i : ℕ) (l : Label) (tag : ℕ) (fields : List Value) → register before 0 src ≡ Block l → node_at before.graph l ≡ Some (Plain tag fields)
      → length fields ≤ i → Performed z old new (Load dst src i) r → After z old new [] (registers_of z old) × (r ≡ BadIndex)
  load_past_step dst src i l tag fields holds at past p =
      let c = Load dst src i in
      let leaves = leaves_load_past (middle z limits old new c r p) 0 dst src i l tag fields (held z limits old new c r p src ∙ holds) (thins z limits old new c r p l _ at refl) past in
      let all = reads z limits old new c r p _ _ _ refl leaves in
      (subst (λ (rs : List Value). After z old new [] rs) (kept z limits old new c r p).registers all.0, all.1)

  -- no key is set where a register holds none
  pub set_key_type_step : (ephe item : ℕ) → label_of (register before 0 item) ≡ None → Performed z old new (SetKey ephe 0 item) r → After z old new [] (registers_of z old) × (r ≡ BadType)
  set_key_type_step ephe item none p =
      let c = SetKey ephe 0 item in
      let leaves = leaves_set_key_type (middle z limits old new c r p) 0 ephe item (ap label_of (held z limits old new c r p item) ∙ none) in
      let all = reads z limits old new c r p _ _ _ refl leaves in
      (subst (λ (rs : List Value). After z old new [] rs) (kept z limits old new c r p).registers all.0, all.1)

  -- nothing is stored where a register holds nothing
  pub store_nothing_step : (block i item : ℕ) → register before 0 item ≡ Nothing → Performed z old new (Store block i item) r → After z old new [] (registers_of z old) × (r ≡ BadType)
  store_nothing_step block i item nothing p =
      let c = Store block i item in
      let leaves = leaves_store_nothing (middle z limits old new c r p) 0 block i item (held z limits old new c r p item ∙ nothing) in
      let all = reads z limits old new c r p _ _ _ refl leaves in
      (subst (λ (rs : List Value). After z old new [] rs) (kept z limits old new c r p).registers all.0, all.1)

  module _ (ephe : ℕ) (l : Label) (key : Option Label) (datum : Value) (holds : register before 0 ephe ≡ Block l) (at : node_at before.graph l ≡ Some (Ephe (key ∷ []) datum)) where
    pub get_key_step : (dst : ℕ) → Performed z old new (GetKey dst ephe 0) r
        → (w : Remains z old new key datum) × After z old new [] (set (registers_of z old) dst (key_value w.key_now)) × (r ≡ shown (key_value w.key_now)) × (node_at (state_of z new).graph l ≡ Some (Ephe (w.key_now ∷ []) w.datum_now))
    get_key_step dst p =
        let c = GetKey dst ephe 0 in
        let w = still z limits old new c r p l key datum at in
        let leaves = leaves_get_key (middle z limits old new c r p) 0 ephe l w.0.key_now w.0.datum_now (held z limits old new c r p ephe ∙ holds) w.1 (inside z limits old new c r p) dst in
        let all = reads z limits old new c r p _ _ _ refl leaves in
        (w.0, subst (λ (rs : List Value). After z old new [] (set rs dst (key_value w.0.key_now))) (kept z limits old new c r p).registers all.0, all.1, ap (λ (g : Graph). node_at g l) all.2 ∙ w.1)

    pub check_key_step : Performed z old new (CheckKey ephe 0) r
        → (w : Remains z old new key datum) × After z old new [] (registers_of z old) × (r ≡ full_reply w.key_now) × (node_at (state_of z new).graph l ≡ Some (Ephe (w.key_now ∷ []) w.datum_now))
    check_key_step p =
        let c = CheckKey ephe 0 in
        let w = still z limits old new c r p l key datum at in
        let leaves = leaves_check_key (middle z limits old new c r p) 0 ephe l w.0.key_now w.0.datum_now (held z limits old new c r p ephe ∙ holds) w.1 in
        let all = reads z limits old new c r p _ _ _ refl leaves in
        (w.0, subst (λ (rs : List Value). After z old new [] rs) (kept z limits old new c r p).registers all.0, all.1, ap (λ (g : Graph). node_at g l) all.2 ∙ w.1)

    pub get_data_step : (dst : ℕ) → Performed z old new (GetData dst ephe) r
        → (w : Remains z old new key datum) × After z old new [] (set (registers_of z old) dst w.datum_now) × (r ≡ shown w.datum_now) × (node_at (state_of z new).graph l ≡ Some (Ephe (w.key_now ∷ []) w.datum_now))
    get_data_step dst p =
        let c = GetData dst ephe in
        let w = still z limits old new c r p l key datum at in
        let leaves = leaves_get_data (middle z limits old new c r p) 0 ephe l w.0.key_now w.0.datum_now (held z limits old new c r p ephe ∙ holds) w.1 (inside z limits old new c r p) dst in
        let all = reads z limits old new c r p _ _ _ refl leaves in
        (w.0, subst (λ (rs : List Value). After z old new [] (set rs dst w.0.datum_now)) (kept z limits old new c r p).registers all.0, all.1, ap (λ (g : Graph). node_at g l) all.2 ∙ w.1)

    pub set_key_step : (item : ℕ) (k : Label) → register before 0 item ≡ Block k → Performed z old new (SetKey ephe 0 item) r
        → (w : Remains z old new key datum) × After z old new (l ∷ []) (registers_of z old) × (r ≡ Done) × (node_at (state_of z new).graph l ≡ Some (Ephe (Some k ∷ []) w.datum_now))
    set_key_step item k is p =
        let c = SetKey ephe 0 item in
        let w = still z limits old new c r p l key datum at in
        let leaves = leaves_set_key (middle z limits old new c r p) 0 ephe l w.0.key_now w.0.datum_now (held z limits old new c r p ephe ∙ holds) w.1 item k (held z limits old new c r p item ∙ is) in
        let all = writes z limits old new c r p l _ _ _ _ _ refl w.1 leaves in
        (w.0, subst (λ (rs : List Value). After z old new (l ∷ []) rs) (kept z limits old new c r p).registers all.0, all.1, all.2)

    pub unset_key_step : Performed z old new (UnsetKey ephe 0) r
        → (w : Remains z old new key datum) × After z old new (l ∷ []) (registers_of z old) × (r ≡ Done) × (node_at (state_of z new).graph l ≡ Some (Ephe (None ∷ []) w.datum_now))
    unset_key_step p =
        let c = UnsetKey ephe 0 in
        let w = still z limits old new c r p l key datum at in
        let leaves = leaves_unset_key (middle z limits old new c r p) 0 ephe l w.0.key_now w.0.datum_now (held z limits old new c r p ephe ∙ holds) w.1 in
        let all = writes z limits old new c r p l _ _ _ _ _ refl w.1 leaves in
        (w.0, subst (λ (rs : List Value). After z old new (l ∷ []) rs) (kept z limits old new c r p).registers all.0, all.1, all.2)

    pub set_data_step : (item : ℕ) (v : Value) → register before 0 item ≡ v → v ≢ Nothing → Performed z old new (SetData ephe item) r
        → (w : Remains z old new key datum) × After z old new (l ∷ []) (registers_of z old) × (r ≡ Done) × (node_at (state_of z new).graph l ≡ Some (Ephe (w.key_now ∷ []) v))
    set_data_step item v is some p =
        let c = SetData ephe item in
        let w = still z limits old new c r p l key datum at in
        let leaves = leaves_set_data (middle z limits old new c r p) 0 ephe l w.0.key_now w.0.datum_now (held z limits old new c r p ephe ∙ holds) w.1 item v (held z limits old new c r p item ∙ is) some in
        let all = writes z limits old new c r p l _ _ _ _ _ refl w.1 leaves in
        (w.0, subst (λ (rs : List Value). After z old new (l ∷ []) rs) (kept z limits old new c r p).registers all.0, all.1, all.2)

    pub unset_data_step : Performed z old new (UnsetData ephe) r
        → (w : Remains z old new key datum) × After z old new (l ∷ []) (registers_of z old) × (r ≡ Done) × (node_at (state_of z new).graph l ≡ Some (Ephe (w.key_now ∷ []) Nothing))
    unset_data_step p =
        let c = UnsetData ephe in
        let w = still z limits old new c r p l key datum at in
        let leaves = leaves_unset_data (middle z limits old new c r p) 0 ephe l w.0.key_now w.0.datum_now (held z limits old new c r p ephe ∙ holds) w.1 in
        let all = writes z limits old new c r p l _ _ _ _ _ refl w.1 leaves in
        (w.0, subst (λ (rs : List Value). After z old new (l ∷ []) rs) (kept z limits old new c r p).registers all.0, all.1, all.2)
