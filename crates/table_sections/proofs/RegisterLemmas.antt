-- What a domain's registers hold after a command on a slot, and after a complete collection.
use Rattle.std.proofs.Common.{◌≡◌, ◌≢◌, ℕ, List, ◌++◌, get_or, slice_get, Bool, false, Option, Some, None, refl, ap, sym, ◌∙◌, get_or-set_other}
use Rattle.model_core.specs.declared.label.Label.{Label}
use Rattle.model_core.specs.declared.command.Command.{Command}
use Rattle.model_core.specs.declared.command.Command.TheVariants.{FullMajor, GetKey, Load, Poll, SetKey}
use Rattle.model_core.specs.declared.entry.Entry.{Entry}
use Rattle.model_core.specs.declared.entry.Entry.TheVariants.{Command as CommandOf}
use Rattle.model_core.specs.declared.graph.Node.{Node}
use Rattle.model_core.specs.declared.graph.Node.TheVariants.{Ephe, Plain, Raw}
use Rattle.model_core.specs.declared.graph.Value.{Value}
use Rattle.model_core.specs.declared.graph.Value.TheVariants.{Nothing}
use Rattle.model_core.specs.declared.reply.Reply.{Reply}
use Rattle.model_core.specs.declared.reply.Applied.TheVariants.{Replied}
use Rattle.model_core.specs.declared.state.DomainState.{DomainState}
use Rattle.model_core.specs.declared.state.Sizes.{Sizes}
use Rattle.model_core.specs.declared.state.State.{State}
use Rattle.model_core.specs.Commands.{at_ephe, block_in, in_bounds, is_allocation, loaded, key_set, key_stored, key_value, outcome, read_into}
use Rattle.model_core.specs.Domains.{domain_at, label_in, register}
use Rattle.model_core.specs.Entries.{next, reply as reply_of}
use Rattle.model_core.proofs.Commands.FrameLemmas.{part_set}
use Rattle.weak_laws.specs.Tables.Stages.{graph_of}
use Rattle.weak_laws.specs.Tables.Thinning.{state_of}
use Rattle.weak_laws.specs.Maps.Calls.{PerformedBy}
use Rattle.weak_laws.proofs.OfMaps.CallLemmas.{registers_kept}
use Rattle.weak_maps.specs.Beside.{held_by}
use Rattle.weak_maps.proofs.BesideLemmas.{left_is}
use Rattle.weak_maps.proofs.CountLemmas.{not_refused}

-- a command that is no allocation leaves the graph and the registers of its outcome, and is answered so
module _ (z : Sizes) (d : ℕ) (old new : List Entry) (c : Command) (r : Reply) (p : PerformedBy z d old new c r) (none : is_allocation c ≡ false) where
  abbrev pub here : State
  here = state_of z (old ++ p.between)

  after : state_of z new ≡ next here (CommandOf d c false)
  after = left_is z d old new c r p ∙ ap (λ (b : Bool). next here (CommandOf d c b)) (not_refused z d old new c r p none)

  pub graph_after : graph_of z new ≡ (outcome here d c).state.graph
  graph_after = ap (λ (t : State). t.graph) after

  pub register_after : (i : ℕ) → held_by z d new i ≡ register (outcome here d c).state d i
  register_after i = ap (λ (t : State). register t d i) after ∙ part_set (λ (x : DomainState). get_or x.registers i Nothing) (outcome here d c).state.domains d _ refl d

  pub register_before : (i : ℕ) → register here d i ≡ held_by z d old i
  register_before i = ap (λ (rs : List Value). get_or rs i Nothing) (registers_kept z d old new c r p)

  pub answer_after : r ≡ (outcome here d c).reply
  answer_after =
      let is : Replied r ≡ Replied (outcome here d c).reply = sym p.replies ∙ ap (λ (b : Bool). reply_of here (CommandOf d c b)) (not_refused z d old new c r p none) in
      cc

  -- so a register that the outcome leaves is as it was
  pub register_left : (i : ℕ) → register (outcome here d c).state d i ≡ register here d i → held_by z d new i ≡ held_by z d old i
  register_left i same = register_after i ∙ (same ∙ register_before i)

module _ (s : State) (d : ℕ) where
  -- to set a key writes no register
  key_stored_keeps : (index : ℕ) (item : Option Label) (block : Option (Label × Node)) (i : ℕ) → register (key_stored s index item block).state d i ≡ register s d i
  key_stored_keeps index None block i = refl
  key_stored_keeps index (Some k) None i = refl
  key_stored_keeps index (Some k) (Some (l, Plain tag fields)) i = refl
  key_stored_keeps index (Some k) (Some (l, Raw tag fields)) i = refl
  key_stored_keeps index (Some k) (Some (l, Ephe keys datum)) i = go (slice_get keys index) refl
    where
      go : (o : Option (Option Label)) → slice_get keys index ≡ o → register (key_set s index (Some k) l keys datum).state d i ≡ register s d i
      go None e = rw e refl
      go (Some key) e = rw e refl

  -- to read one writes the register of the answer alone
  read_keeps : (dst : ℕ) (v : Value) (i : ℕ) → i ≢ dst → register (read_into s d dst v).state d i ≡ register s d i
  read_keeps dst v i other = part_set (λ (x : DomainState). get_or x.registers i Nothing) s.domains d _ (get_or-set_other (domain_at s d).registers dst i v Nothing other) d

  key_read_keeps : (dst index : ℕ) (block : Option (Label × Node)) (i : ℕ) → i ≢ dst → register (at_ephe s block (λ l keys datum. in_bounds s (slice_get keys index) (λ k. read_into s d dst (key_value k)))).state d i ≡ register s d i
  key_read_keeps dst index None i other = refl
  key_read_keeps dst index (Some (l, Plain tag fields)) i other = refl
  key_read_keeps dst index (Some (l, Raw tag fields)) i other = refl
  key_read_keeps dst index (Some (l, Ephe keys datum)) i other = go (slice_get keys index)
    where
      go : (o : Option (Option Label)) → register (in_bounds s o (λ k. read_into s d dst (key_value k))).state d i ≡ register s d i
      go None = refl
      go (Some key) = read_keeps dst (key_value key) i other

  -- and so does to load a field
  in_field : (dst : ℕ) (o : Option Value) (i : ℕ) → i ≢ dst → register (in_bounds s o (read_into s d dst)).state d i ≡ register s d i
  in_field dst None i other = refl
  in_field dst (Some v) i other = read_keeps dst v i other

  loaded_keeps : (dst index : ℕ) (block : Option (Label × Node)) (i : ℕ) → i ≢ dst → register (loaded s d dst index block).state d i ≡ register s d i
  loaded_keeps dst index None i other = refl
  loaded_keeps dst index (Some (l, Ephe keys datum)) i other = refl
  loaded_keeps dst index (Some (l, Plain tag fields)) i other = in_field dst (slice_get fields index) i other
  loaded_keeps dst index (Some (l, Raw tag fields)) i other = in_field dst (slice_get fields index) i other

module _ (z : Sizes) (d : ℕ) (old new : List Entry) (r : Reply) where
  pub set_key_keeps : (ephe index item : ℕ) → PerformedBy z d old new (SetKey ephe index item) r → (i : ℕ) → held_by z d new i ≡ held_by z d old i
  set_key_keeps ephe index item p i =
      let s : State = state_of z (old ++ p.between) in
      register_left z d old new (SetKey ephe index item) r p refl i (key_stored_keeps s d index (label_in s d item) (block_in s d ephe) i)

  pub get_key_keeps : (dst ephe index : ℕ) → PerformedBy z d old new (GetKey dst ephe index) r → (i : ℕ) → i ≢ dst → held_by z d new i ≡ held_by z d old i
  get_key_keeps dst ephe index p i other =
      let s : State = state_of z (old ++ p.between) in
      register_left z d old new (GetKey dst ephe index) r p refl i (key_read_keeps s d dst index (block_in s d ephe) i other)

  pub load_keeps : (dst src index : ℕ) → PerformedBy z d old new (Load dst src index) r → (i : ℕ) → i ≢ dst → held_by z d new i ≡ held_by z d old i
  load_keeps dst src index p i other =
      let s : State = state_of z (old ++ p.between) in
      register_left z d old new (Load dst src index) r p refl i (loaded_keeps s d dst index (block_in s d src) i other)

  pub collect_keeps : PerformedBy z d old new FullMajor r → (i : ℕ) → held_by z d new i ≡ held_by z d old i
  collect_keeps p i = register_left z d old new FullMajor r p refl i refl

  pub poll_keeps : PerformedBy z d old new Poll r → (i : ℕ) → held_by z d new i ≡ held_by z d old i
  poll_keeps p i = register_left z d old new Poll r p refl i refl
