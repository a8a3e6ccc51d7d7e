-- The lines of one command: each guards the map, and keeps what register 6 holds.
use Rattle.std.proofs.Common.{◌≡◌, ◌≢◌, ⊎_elim, ℕ, ◌<◌, List, ◌++◌, refl, ◌∙◌, arith}
use Rattle.model_core.specs.declared.command.Command.TheVariants.{Alloc, Forget, FullMajor, GetKey, SetKey}
use Rattle.model_core.specs.declared.entry.Entry.{Entry}
use Rattle.model_core.specs.declared.graph.Value.TheVariants.{Nothing}
use Rattle.model_core.specs.declared.reply.Reply.{Reply}
use Rattle.model_core.specs.declared.state.Sizes.{Sizes}
use Rattle.model_core.specs.Domains.{IsWithinLimits}
use Rattle.table_text.specs.declared.line.TableLine.TheVariants as line_of
use Rattle.table_text.specs.declared.machine.reply.LineReply.{LineReply}
use Rattle.table_text.specs.declared.machine.reply.LineReply.TheVariants as reply
use Rattle.table_text.specs.Machine.Said.{said}
use Rattle.weak_laws.specs.Maps.Calls.{PerformedBy}
use Rattle.weak_laws.proofs.OfMaps.CallLemmas.{alloc_step, forget_step, others_all, to_middle}
use Rattle.weak_laws.proofs.OfMaps.FrontLemmas.{prefix_same, prefix_trans}
use Rattle.weak_laws.proofs.OfMaps.OwnLemmas.{own_respects}
use Rattle.weak_laws.proofs.OfMaps.RespectLemmas.{map_after}
use Rattle.weak_maps.specs.Beside.{held_by}
use Rattle.weak_maps.specs.Walks.{OwnQuiet}
use Rattle.weak_maps.proofs.BesideLemmas.{same_held, set_other}
use Rattle.weak_maps.proofs.FreshLemmas.{makes_on, reads_on}
use Rattle.weak_maps.proofs.GetLemmas.{grows_by}
use Rattle.weak_maps.proofs.GuardLemmas.{guards_quiet, guards_since, quiet_by, quiet_forget, quiet_twice}
use Rattle.weak_maps.proofs.OfShared.CommandLemmas.{later_key_respects}
use Rattle.table_sections.specs.Lines.{IsKeyRegister, made_said}
use Rattle.table_sections.specs.Slots.{slot_ephe, slot_key}
use Rattle.table_sections.specs.Sections.{LineDone, SectionGuards}
use Rattle.table_sections.proofs.LineLemmas.{clean_kept, line_done}
use Rattle.table_sections.proofs.RegisterLemmas.{collect_keeps, get_key_keeps, set_key_keeps}
use Rattle.table_sections.proofs.SlotLemmas.{slot_gets, slot_sets}
use Rattle.table_sections.proofs.SpareLemmas.{spares_command, spares_quiet, spares_set}

-- a new key
module _ (z : Sizes) (d : ℕ) (old new : List Entry) (r : ℕ) (answer : Reply) (small : IsKeyRegister r) (p : PerformedBy z d old new (Alloc r 0 1) answer) where
  key_keeps : (i : ℕ) → i ≢ r → held_by z d new i ≡ held_by z d old i
  key_keeps i other = ⊎_elim (λ refused. same_held z d old new refused.1.1 i) (λ granted. set_other z d old new r _ granted.2.1 i other) (alloc_step z d old new answer r 0 1 p)

  key_guards : SectionGuards z d old new
  key_guards root on =
      guards_since z root d old old new (Alloc r 0 1) answer p (prefix_same old)
      (λ others. ⊎_elim (λ refused. (reads_on z d root old new (Alloc r 0 1) answer p others on.map refused.1.0).0.respects) (λ granted. (makes_on z d root old new (Alloc r 0 1) answer p others on.map _ granted.2.0).0.respects) (alloc_step z d old new answer r 0 1 p))

  pub key_done : (a : LineReply) → a ≡ made_said answer → LineDone z d old (line_of.Key r) a new
  key_done a is =
      line_done z d old new (line_of.Key r) a (grows_by z d old new (Alloc r 0 1) answer p) key_guards
      (record { reply = answer; performed = p; written = is }) (λ root on others. (tt, (λ i between beside other. key_keeps i other), spares_command z root d (line_of.Key r) old new (Alloc r 0 1) answer p (λ s. refl), clean_kept z d old new r small.1 key_keeps)) small.1

-- a register that holds nothing
module _ (z : Sizes) (d : ℕ) (old new : List Entry) (r : ℕ) (answer : Reply) (small : IsKeyRegister r) (p : PerformedBy z d old new (Forget r) answer) where
  pub forget_done : (a : LineReply) → a ≡ said answer → LineDone z d old (line_of.Forget r) a new
  forget_done a is =
      line_done z d old new (line_of.Forget r) a (grows_by z d old new (Forget r) answer p) (λ root on. guards_quiet z root d old old new (quiet_forget z d old new r answer p))
      (record { reply = answer; performed = p; written = is })
      (λ root on others. (tt, (λ i between beside other. set_other z d old new r Nothing (forget_step z d old new answer r p).1 i other), spares_command z root d (line_of.Forget r) old new (Forget r) answer p (λ s. refl), clean_kept z d old new r small.1 (set_other z d old new r Nothing (forget_step z d old new answer r p).1))) small.1

-- a slot that is set
module _ (z : Sizes) (d : ℕ) (old new : List Entry) (s r : ℕ) (few : s < 16) (answer : Reply) (p : PerformedBy z d old new (SetKey (slot_ephe s) (slot_key s) r) answer) where
  set_guards : SectionGuards z d old new
  set_guards root on =
      guards_since z root d old old new (SetKey (slot_ephe s) (slot_key s) r) answer p (prefix_same old)
      (λ others. own_respects z root d old new (SetKey (slot_ephe s) (slot_key s) r) answer p
      (later_key_respects z root d (old ++ p.between) (slot_ephe s) (slot_key s) r (omega arith)
      (map_after z root old (old ++ p.between) (to_middle z d old new (SetKey (slot_ephe s) (slot_key s) r) answer p) (others_all z d old new (SetKey (slot_ephe s) (slot_key s) r) answer p root others) on.map) p.full))

  pub set_done : (a : LineReply) → a ≡ said answer → LineDone z d old (line_of.SetWeak s r) a new
  set_done a is =
      line_done z d old new (line_of.SetWeak s r) a (grows_by z d old new (SetKey (slot_ephe s) (slot_key s) r) answer p) set_guards
      (record { reply = answer; performed = p; written = is })
      (λ root on others. ((λ slots. slot_sets z d old new s few slots r answer a p is (held_by z d old r) refl), (λ i between beside other. set_key_keeps z d old new answer (slot_ephe s) (slot_key s) r p i), spares_set z root d old new s r answer p, clean_kept z d old new 0 (omega arith) (λ i other. set_key_keeps z d old new answer (slot_ephe s) (slot_key s) r p i))) (omega arith)

-- a slot that is read
module _ (z : Sizes) (limits : IsWithinLimits z) (d : ℕ) (old new : List Entry) (r s : ℕ) (few : s < 16) (answer : Reply) (small : IsKeyRegister r) (p : PerformedBy z d old new (GetKey r (slot_ephe s) (slot_key s)) answer) where
  pub get_slot_done : (a : LineReply) → a ≡ said answer → LineDone z d old (line_of.GetWeak r s) a new
  get_slot_done a is =
      line_done z d old new (line_of.GetWeak r s) a (grows_by z d old new (GetKey r (slot_ephe s) (slot_key s)) answer p)
      (λ root on. guards_quiet z root d old old new (quiet_by z d old new (GetKey r (slot_ephe s) (slot_key s)) answer p (λ t. refl) refl))
      (record { reply = answer; performed = p; written = is })
      (λ root on others. ((λ slots. let high = small.1 in slot_gets z d old new s few slots r answer a limits (omega (arith, high)) p is), (λ i between beside other. get_key_keeps z d old new answer r (slot_ephe s) (slot_key s) p i other), spares_command z root d (line_of.GetWeak r s) old new (GetKey r (slot_ephe s) (slot_key s)) answer p (λ t. refl), clean_kept z d old new r small.1 (get_key_keeps z d old new answer r (slot_ephe s) (slot_key s) p))) small.1

-- a complete collection
module _ (z : Sizes) (d : ℕ) (old mid new : List Entry) (emptied live : Reply) (first : PerformedBy z d old mid (Forget 0) emptied) (last : PerformedBy z d mid new FullMajor live) where
  pub collect_done : (a : LineReply) → a ≡ reply.Done → LineDone z d old line_of.FullMajor a new
  collect_done a is =
      let later = grows_by z d mid new FullMajor live last in
      let kept : (i : ℕ) → i ≢ 0 → held_by z d new i ≡ held_by z d old i = λ i other. collect_keeps z d mid new live last i ∙ set_other z d old mid 0 Nothing (forget_step z d old mid emptied 0 first).1 i other in
      let quiet : OwnQuiet z d old new = quiet_twice z d old mid new later (quiet_forget z d old mid 0 emptied first) (quiet_by z d mid new FullMajor live last (λ t. refl) refl) in
      line_done z d old new line_of.FullMajor a (prefix_trans old mid new (grows_by z d old mid (Forget 0) emptied first) later)
      (λ root on. guards_quiet z root d old old new quiet)
      (record { front = mid; emptied = emptied; empties = first; live = live; collects = last; written = is })
      (λ root on others. (tt, (λ i between beside other. kept i between), spares_quiet z root d line_of.FullMajor old new quiet, clean_kept z d old new 0 (omega arith) kept)) (omega arith)
