-- A command in states that are the same but for garbage: it answers the same, and leaves the same but for garbage.
use Rattle.std.proofs.Common.{◌≡◌, ℕ, ◌+◌, Bool, true, false, IsTrue, is_some, List, [], filter_map, option_to_list, pos, replicate, slice_get, Option, Some, None, refl, sym, subst}
use Rattle.std.specs.Prelude.{slice_set}
use Rattle.model_core.specs.declared.label.Label.{Label}
use Rattle.model_core.specs.declared.command.Command.{Command}
use Rattle.model_core.specs.declared.command.Command.TheVariants.{PutInt, Copy, Forget, Alloc, AllocMaj, Load, Store, Raw as NewRaw, Cas, Ephe as NewEphe, SetKey, UnsetKey, GetKey, CheckKey, SetData, UnsetData, GetData, CheckData, Finalise, FinaliseLast, Poll, Minor, Major, FullMajor, Spawn, Argument, PutResult, Join}
use Rattle.model_core.specs.declared.graph.Value.{Value}
use Rattle.model_core.specs.declared.graph.Value.TheVariants.{Int, Block, Nothing}
use Rattle.model_core.specs.declared.graph.Node.{Node}
use Rattle.model_core.specs.declared.graph.Node.TheVariants.{Plain, Raw, Ephe}
use Rattle.model_core.specs.declared.reply.Reply.{Reply}
use Rattle.model_core.specs.declared.reply.Reply.TheVariants.{Yes, No, Done, BadType, BadIndex}
use Rattle.model_core.specs.declared.state.State.{State}
use Rattle.model_core.specs.Graph.{label_of, node_at}
use Rattle.model_core.specs.Domains.{domain_at, label_in, register, with_block, with_register}
use Rattle.model_core.specs.Commands.{Outcome, at_ephe, at_field, block_in, datum_set, datum_stored, exchanged, finalised, finalised_last, in_bounds, is_full_value, key_set, key_stored, key_value, live_reply, loaded, new_plain, new_raw, only_replies, outcome, read_into, same_value, stored, tells, written_over, written_where}
use Rattle.model_core.specs.WellFormed.{names_of}
use Rattle.model_core.proofs.Commands.MoveLemmas.{held_block}
use Rattle.model_traces.specs.Schedules.Sameness.{AllAlive, IsSameBut}
use Rattle.model_traces.proofs.OfSchedules.Alive.{all_both, all_first, all_get, all_replicate, all_second, all_set}
use Rattle.model_traces.proofs.OfSchedules.Moving.{AreSame, allocates_same, final_same, held_register, last_same, put_same, same_block_in, same_label_in, same_register, write_same}

module _ (s t : State) (same : IsSameBut s t) (d : ℕ) where
  -- a block that a register holds
  record IsHeldBlock (l : Label) (n : Node) : Type 0 where
    passes : IsTrue (same.alive l)
    at : node_at s.graph l ≡ Some n
    names : AllAlive same.alive (names_of n)

  abbrev IsHeldIf : Option (Label × Node) → Type 0
  IsHeldIf b = (l : Label) (n : Node) → b ≡ Some (l, n) → IsHeldBlock l n

  held_here : (r : ℕ) → IsHeldIf (block_in s d r)
  held_here r l n e =
      let h = held_block s d r l n e in
      let passes : IsTrue (same.alive l) = (subst (λ (o : Option Label). AllAlive same.alive (option_to_list o)) h.label (held_register s t same d r)).0 in
      record { passes = passes; at = h.node; names = same.held.nodes l n passes h.node }

  abbrev Held : Value → Type 0
  Held v = AllAlive same.alive (option_to_list (label_of v))

  only : (r : Reply) → AreSame (only_replies s r) (only_replies t r)
  only r = record { replies = refl; states = same }

  reads : (dst : ℕ) (v : Value) → Held v → AreSame (read_into s d dst v) (read_into t d dst v)
  reads dst v a = record { replies = refl; states = put_same s t same d dst v a }

  says : (b : Bool) → AreSame (tells s b) (tells t b)
  says true = only Yes
  says false = only No

  bounds : {A : Type 0} (o : Option A) (f g : A → Outcome) → ((a : A) → o ≡ Some a → AreSame (f a) (g a)) → AreSame (in_bounds s o f) (in_bounds t o g)
  bounds None f g each = only BadIndex
  bounds (Some a) f g each = each a refl

  loads : (dst index : ℕ) (b : Option (Label × Node)) → IsHeldIf b → AreSame (loaded s d dst index b) (loaded t d dst index b)
  loads dst index None held = only BadType
  loads dst index (Some (l, Plain tag fields)) held =
      bounds (slice_get fields index) _ _ (λ v at. reads dst v (all_get same.alive label_of fields index v (held l (Plain tag fields) refl).names at))
  loads dst index (Some (l, Raw tag fields)) held =
      bounds (slice_get fields index) _ _ (λ v at. reads dst v (all_get same.alive label_of fields index v (held l (Raw tag fields) refl).names at))
  loads dst index (Some (l, Ephe keys datum)) held = only BadType

  written : (l : Label) (old new : Node) → IsHeldBlock l old → AllAlive same.alive (names_of new) → IsSameBut (with_block s l new) (with_block t l new)
  written l old new held names = write_same s t same l old new held.passes held.at names

  -- what is done with a field of a block
  fields_same : (index : ℕ) (b : Option (Label × Node)) (v : Value) (f g : Label → Node → Value → Outcome) → IsHeldIf b → Held v
      → ((l : Label) (new : Node) (was : Value) → IsSameBut (with_block s l new) (with_block t l new) → AreSame (f l new was) (g l new was))
      → AreSame (at_field s index b v f) (at_field t index b v g)
  fields_same index None v f g held a each = only BadType
  fields_same index (Some (l, Ephe keys datum)) v f g held a each = only BadType
  fields_same index (Some (l, Plain tag fields)) Nothing f g held a each = only BadType
  fields_same index (Some (l, Plain tag fields)) (Int z) f g held a each = bounds (slice_get fields index) _ _ (λ was at.
      each l (Plain tag (slice_set fields index (Int z))) was (written l (Plain tag fields) (Plain tag (slice_set fields index (Int z))) (held l (Plain tag fields) refl)
      (all_set same.alive label_of fields index (Int z) (held l (Plain tag fields) refl).names a)))
  fields_same index (Some (l, Plain tag fields)) (Block k) f g held a each = bounds (slice_get fields index) _ _ (λ was at.
      each l (Plain tag (slice_set fields index (Block k))) was (written l (Plain tag fields) (Plain tag (slice_set fields index (Block k))) (held l (Plain tag fields) refl)
      (all_set same.alive label_of fields index (Block k) (held l (Plain tag fields) refl).names a)))
  fields_same index (Some (l, Raw tag fields)) Nothing f g held a each = only BadType
  fields_same index (Some (l, Raw tag fields)) (Int z) f g held a each = bounds (slice_get fields index) _ _ (λ was at.
      each l (Raw tag (slice_set fields index (Int z))) was (written l (Raw tag fields) (Raw tag (slice_set fields index (Int z))) (held l (Raw tag fields) refl)
      (all_set same.alive label_of fields index (Int z) (held l (Raw tag fields) refl).names a)))
  fields_same index (Some (l, Raw tag fields)) (Block k) f g held a each = only BadType

  stores : (index : ℕ) (b : Option (Label × Node)) (v : Value) → IsHeldIf b → Held v → AreSame (stored s index b v) (stored t index b v)
  stores index b v held a = fields_same index b v (written_over s) (written_over t) held a (λ l new was w. record { replies = refl; states = w })

  where_same : (l : Label) (new : Node) (b : Bool) → IsSameBut (with_block s l new) (with_block t l new) → AreSame (written_where s l new b) (written_where t l new b)
  where_same l new true w = record { replies = refl; states = w }
  where_same l new false w = only No

  exchanges : (index : ℕ) (b : Option (Label × Node)) (expected v : Value) → IsHeldIf b → Held v → AreSame (exchanged s index b expected v) (exchanged t index b expected v)
  exchanges index b Nothing v held a = only BadType
  exchanges index b (Int z) v held a = fields_same index b v _ _ held a (λ l new was w. where_same l new (same_value was (Int z)) w)
  exchanges index b (Block k) v held a = fields_same index b v _ _ held a (λ l new was w. where_same l new (same_value was (Block k)) w)

  ephes_same : (b : Option (Label × Node)) (f g : Label → List (Option Label) → Value → Outcome) → IsHeldIf b
      → ((l : Label) (keys : List (Option Label)) (datum : Value) → IsHeldBlock l (Ephe keys datum) → AreSame (f l keys datum) (g l keys datum)) → AreSame (at_ephe s b f) (at_ephe t b g)
  ephes_same None f g held each = only BadType
  ephes_same (Some (l, Plain tag fields)) f g held each = only BadType
  ephes_same (Some (l, Raw tag fields)) f g held each = only BadType
  ephes_same (Some (l, Ephe keys datum)) f g held each = each l keys datum (held l (Ephe keys datum) refl)

  in_keys : (keys : List (Option Label)) (datum : Value) → AllAlive same.alive (names_of (Ephe keys datum)) → AllAlive same.alive (filter_map (λ k. k) keys)
  in_keys keys datum a = all_first same.alive (filter_map (λ k. k) keys) (option_to_list (label_of datum)) a

  in_datum : (keys : List (Option Label)) (datum : Value) → AllAlive same.alive (names_of (Ephe keys datum)) → Held datum
  in_datum keys datum a = all_second same.alive (filter_map (λ k. k) keys) (option_to_list (label_of datum)) a

  key_held : (k : Option Label) → AllAlive same.alive (option_to_list k) → Held (key_value k)
  key_held None a = tt
  key_held (Some l) a = a

  keys_set : (index : ℕ) (key : Option Label) (b : Option (Label × Node)) → IsHeldIf b → AllAlive same.alive (option_to_list key) → AreSame (at_ephe s b (key_set s index key)) (at_ephe t b (key_set t index key))
  keys_set index key b held a = ephes_same b _ _ held (λ l keys datum h. bounds (slice_get keys index) _ _ (λ k at. record {
    replies = refl;
    states = written l (Ephe keys datum) (Ephe (slice_set keys index key) datum) h
        (all_both same.alive (filter_map (λ x. x) (slice_set keys index key)) (option_to_list (label_of datum)) (all_set same.alive (λ x. x) keys index key (in_keys keys datum h.names) a) (in_datum keys datum h.names));
  }))

  keys_stored : (index : ℕ) (o : Option Label) (b : Option (Label × Node)) → IsHeldIf b → AllAlive same.alive (option_to_list o) → AreSame (key_stored s index o b) (key_stored t index o b)
  keys_stored index None b held a = only BadType
  keys_stored index (Some k) b held a = keys_set index (Some k) b held a

  data_set : (v : Value) (b : Option (Label × Node)) → IsHeldIf b → Held v → AreSame (at_ephe s b (datum_set s v)) (at_ephe t b (datum_set t v))
  data_set v b held a = ephes_same b _ _ held (λ l keys datum h. record {
    replies = refl;
    states = written l (Ephe keys datum) (Ephe keys v) h (all_both same.alive (filter_map (λ x. x) keys) (option_to_list (label_of v)) (in_keys keys datum h.names) a);
  })

  data_stored : (v : Value) (b : Option (Label × Node)) → IsHeldIf b → Held v → AreSame (datum_stored s b v) (datum_stored t b v)
  data_stored Nothing b held a = only BadType
  data_stored (Int z) b held a = data_set (Int z) b held a
  data_stored (Block k) b held a = data_set (Block k) b held a

  finals_same : (number dst : ℕ) (o : Option Label) → AllAlive same.alive (option_to_list o) → AreSame (finalised s d number dst o) (finalised t d number dst o)
  finals_same number dst None a = only BadType
  finals_same number dst (Some l) a = record { replies = refl; states = final_same s t same d (record { number = number; label = l; register = dst }) a.0 }

  lasts_same : (number : ℕ) (o : Option Label) → AreSame (finalised_last s d number o) (finalised_last t d number o)
  lasts_same number None = only BadType
  lasts_same number (Some l) = record { replies = refl; states = last_same s t same d (record { number = number; label = l }) }

  -- what the other state is asked is what this one is asked
  by_block : (r : ℕ) (x : Outcome) (f : Option (Label × Node) → Outcome) → AreSame x (f (block_in s d r)) → AreSame x (f (block_in t d r))
  by_block r x f a = subst (λ b. AreSame x (f b)) (sym (same_block_in s t same d r)) a

  by_register : (r : ℕ) (x : Outcome) (f : Value → Outcome) → AreSame x (f (register s d r)) → AreSame x (f (register t d r))
  by_register r x f a = subst (λ v. AreSame x (f v)) (sym (same_register s t same d r)) a

  by_label : (r : ℕ) (x : Outcome) (f : Option Label → Outcome) → AreSame x (f (label_in s d r)) → AreSame x (f (label_in t d r))
  by_label r x f a = subst (λ o. AreSame x (f o)) (sym (same_label_in s t same d r)) a

  held_value : (r : ℕ) → Held (register s d r)
  held_value r = held_register s t same d r

  module _ (new : node_at s.graph (record { domain = d; serial = (domain_at s d).serial + 1 }) ≡ None) (live : live_reply t ≡ live_reply s) where
    -- each command
    pub outcome_same : (c : Command) → AreSame (outcome s d c) (outcome t d c)
    outcome_same (PutInt dst value) = record { replies = refl; states = put_same s t same d dst (Int value) tt }
    outcome_same (Copy dst src) = by_register src _ (λ v. record { reply = Done; state = with_register t d dst v }) (record { replies = refl; states = put_same s t same d dst (register s d src) (held_value src) })
    outcome_same (Forget dst) = record { replies = refl; states = put_same s t same d dst Nothing tt }
    outcome_same (Alloc dst tag fields) = allocates_same s t same d dst (new_plain tag fields) new (all_replicate same.alive label_of fields (Int (pos 0)) refl)
    outcome_same (AllocMaj dst tag fields) = allocates_same s t same d dst (new_plain tag fields) new (all_replicate same.alive label_of fields (Int (pos 0)) refl)
    outcome_same (Load dst src index) = by_block src _ (loaded t d dst index) (loads dst index (block_in s d src) (held_here src))
    outcome_same (Store block index item) =
        by_block block _ (λ b. stored t index b (register t d item)) (by_register item _ (stored t index (block_in s d block)) (stores index (block_in s d block) (register s d item) (held_here block) (held_value item)))
    outcome_same (NewRaw dst tag fields) = allocates_same s t same d dst (new_raw tag fields) new (all_replicate same.alive label_of fields (Int (pos 0)) refl)
    outcome_same (Cas block index expected item) =
        by_block block _ (λ b. exchanged t index b (register t d expected) (register t d item)) (by_register expected _ (λ v. exchanged t index (block_in s d block) v (register t d item))
        (by_register item _ (exchanged t index (block_in s d block) (register s d expected)) (exchanges index (block_in s d block) (register s d expected) (register s d item) (held_here block) (held_value item))))
    outcome_same (NewEphe dst keys) =
        allocates_same s t same d dst (Ephe (replicate keys None) Nothing) new (all_both same.alive (filter_map (λ x. x) (replicate keys None)) [] (all_replicate same.alive (λ x. x) keys None refl) tt)
    outcome_same (SetKey ephe index item) =
        by_label item _ (λ o. key_stored t index o (block_in t d ephe)) (by_block ephe _ (key_stored t index (label_in s d item)) (keys_stored index (label_in s d item) (block_in s d ephe) (held_here ephe) (held_value item)))
    outcome_same (UnsetKey ephe index) = by_block ephe _ (λ b. at_ephe t b (key_set t index None)) (keys_set index None (block_in s d ephe) (held_here ephe) tt)
    outcome_same (GetKey dst ephe index) = by_block ephe _ (λ b. at_ephe t b (λ l keys datum. in_bounds t (slice_get keys index) (λ k. read_into t d dst (key_value k))))
        (ephes_same (block_in s d ephe) _ _ (held_here ephe) (λ l keys datum h. bounds (slice_get keys index) _ _ (λ k at. reads dst (key_value k) (key_held k (all_get same.alive (λ x. x) keys index k (in_keys keys datum h.names) at)))))
    outcome_same (CheckKey ephe index) = by_block ephe _ (λ b. at_ephe t b (λ l keys datum. in_bounds t (slice_get keys index) (λ k. tells t (is_some k))))
        (ephes_same (block_in s d ephe) _ _ (held_here ephe) (λ l keys datum h. bounds (slice_get keys index) _ _ (λ k at. says (is_some k))))
    outcome_same (SetData ephe item) =
        by_block ephe _ (λ b. datum_stored t b (register t d item)) (by_register item _ (datum_stored t (block_in s d ephe)) (data_stored (register s d item) (block_in s d ephe) (held_here ephe) (held_value item)))
    outcome_same (UnsetData ephe) = by_block ephe _ (λ b. at_ephe t b (datum_set t Nothing)) (data_set Nothing (block_in s d ephe) (held_here ephe) tt)
    outcome_same (GetData dst ephe) = by_block ephe _ (λ b. at_ephe t b (λ l keys datum. read_into t d dst datum)) (ephes_same (block_in s d ephe) _ _ (held_here ephe) (λ l keys datum h. reads dst datum (in_datum keys datum h.names)))
    outcome_same (CheckData ephe) = by_block ephe _ (λ b. at_ephe t b (λ l keys datum. tells t (is_full_value datum))) (ephes_same (block_in s d ephe) _ _ (held_here ephe) (λ l keys datum h. says (is_full_value datum)))
    outcome_same (Finalise item number dst) = by_label item _ (finalised t d number dst) (finals_same number dst (label_in s d item) (held_value item))
    outcome_same (FinaliseLast item number) = by_label item _ (finalised_last t d number) (lasts_same number (label_in s d item))
    outcome_same Poll = only Done
    outcome_same Minor = only Done
    outcome_same Major = only Done
    outcome_same FullMajor = record { replies = live; states = same }
    outcome_same (Spawn section item) = only Done
    outcome_same (Argument dst) = only Done
    outcome_same (PutResult item) = only Done
    outcome_same (Join dst section) = only Done
