-- How many labels a command gives out.
use Rattle.std.proofs.Common.{◌≡◌, ℕ, ◌+◌, ◌<◌, Bool, true, false, cond, List, length, replicate, None, ap, sym, subst, ◌∙◌, refl, arith, get_or-set_same}
use Rattle.model_core.specs.Counts.Counts.{labels_given}
use Rattle.model_core.specs.declared.command.Command.{Command}
use Rattle.model_core.specs.declared.command.Command.TheVariants.{Alloc, AllocMaj, Raw, Ephe}
use Rattle.model_core.specs.declared.entry.Entry.TheVariants.{Command as CommandOf}
use Rattle.model_core.specs.declared.graph.Node.{Node}
use Rattle.model_core.specs.declared.graph.Node.TheVariants.{Ephe as EpheNode}
use Rattle.model_core.specs.declared.graph.Value.TheVariants.{Nothing}
use Rattle.model_core.specs.declared.reply.Reply.{Reply}
use Rattle.model_core.specs.declared.reply.Reply.TheVariants.{Full}
use Rattle.model_core.specs.declared.reply.Applied.TheVariants.{Replied}
use Rattle.model_core.specs.declared.state.DomainState.{DomainState}
use Rattle.model_core.specs.declared.state.State.{State}
use Rattle.model_core.specs.Domains.{domain_at, with_domain, no_domain}
use Rattle.model_core.specs.Commands.{allocated, outcome, is_allocation, new_plain, new_raw}
use Rattle.model_core.specs.Entries.{next, reply}
use Rattle.model_core.proofs.Commands.FrameLemmas.{part_set}
use Rattle.model_core.proofs.Commands.LeavesLemmas.{leaves_full}
use Rattle.model_core.proofs.Commands.MoveLemmas.{moved}

-- the last serial that a domain has given out
abbrev pub serial_of : ℕ → State → ℕ
serial_of d s = (domain_at s d).serial

module _ (d : ℕ) where
  serial_allocated : (s : State) → d < length s.domains → (dst : ℕ) (n : Node) → serial_of d (allocated s d dst n).state ≡ serial_of d s + 1
  serial_allocated s below dst n =
      let x : DomainState = record (domain_at s d) { serial = serial_of d s + 1 } in
      let made : State = with_domain s d x in
      part_set (λ y. y.serial) made.domains d _ refl d ∙ ap (λ (y : DomainState). y.serial) (get_or-set_same s.domains d x no_domain below)

  serial_kept : (s : State) (x : DomainState) → x.serial ≡ serial_of d s → serial_of d (with_domain s d x) ≡ serial_of d s + 0
  serial_kept s x same = let e : serial_of d (with_domain s d x) ≡ serial_of d s = part_set (λ y. y.serial) s.domains d x same d in omega (arith, e)

  serial_same : (s : State) → serial_of d s ≡ serial_of d s + 0
  serial_same s = let n : ℕ = serial_of d s in omega arith

  serial_outcome : (s : State) → d < length s.domains → (c : Command) → serial_of d (outcome s d c).state ≡ serial_of d s + labels_given c (outcome s d c).reply
  serial_outcome s below (Alloc dst tag fields) = serial_allocated s below dst (new_plain tag fields)
  serial_outcome s below (AllocMaj dst tag fields) = serial_allocated s below dst (new_plain tag fields)
  serial_outcome s below (Raw dst tag fields) = serial_allocated s below dst (new_raw tag fields)
  serial_outcome s below (Ephe dst keys) = serial_allocated s below dst (EpheNode (replicate keys None) Nothing)
  serial_outcome s below c = moved (λ t. serial_of d t ≡ serial_of d s + 0) s d c (record {
    same = serial_same s;
    held = λ r v named. serial_kept s _ refl;
    written = λ l old new at found same named full. serial_same s;
    made = λ is dst n named full. cc;
    registered = λ is f named. serial_kept s _ refl;
    registered_last = λ is f named. serial_kept s _ refl;
  })

none_given : (b : Bool) → ◌≡◌ {A = ℕ} (cond b 0 0) 0
none_given true = refl
none_given false = refl

-- a command gives out a label exactly where it is an allocation that isn't answered `full`
pub serial_next : (d : ℕ) (s : State) → d < length s.domains → (c : Command) (full : Bool) (r : Reply) → reply s (CommandOf d c full) ≡ Replied r
    → serial_of d (next s (CommandOf d c full)) ≡ serial_of d s + labels_given c r
serial_next d s below c true r replies =
    let full : Full ≡ r = cc in
    let none : labels_given c r ≡ 0 = ap (labels_given c) (sym full) ∙ none_given (is_allocation c) in
    omega (arith, (leaves_full s d c).serial_is, none)
serial_next d s below c false r replies =
    let is : (outcome s d c).reply ≡ r = cc in
    part_set (λ y. y.serial) (outcome s d c).state.domains d _ refl d
    ∙ subst (λ (a : Reply). serial_of d (outcome s d c).state ≡ serial_of d s + labels_given c a) is (serial_outcome d s below c)
