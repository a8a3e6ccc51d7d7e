-- What an allocation of a put leaves, and one that is put off.
use Rattle.std.proofs.Common.{◌≡◌, ℕ, ◌+◌, ◌≤◌, Bool, true, cond, List, Option, Some, None, ⊎_elim, refl, ap, sym, ◌∙◌, subst, arith}
use Rattle.std.specs.Option.{IfSome}
use Rattle.model_core.specs.declared.command.Command.{Command}
use Rattle.model_core.specs.declared.command.Command.TheVariants.{Alloc, Ephe}
use Rattle.model_core.specs.declared.entry.Entry.{Entry}
use Rattle.model_core.specs.declared.reply.Reply.{Reply}
use Rattle.model_core.specs.declared.state.Sizes.{Sizes}
use Rattle.model_core.specs.Commands.{is_allocation}
use Rattle.model_core.specs.Counts.Counts.{ephemerons_of, labels_of}
use Rattle.model_core.proofs.OfCounts.Few.{ephemerons_few}
use Rattle.weak_laws.specs.Tables.Performing.{full_of, writes}
use Rattle.weak_laws.specs.Maps.Calls.{PerformedBy}
use Rattle.weak_laws.proofs.OfTables.StageLemmas.{prefix_trans}
use Rattle.weak_laws.proofs.OfMaps.CallLemmas.{alloc_step, ephe_step}
use Rattle.weak_maps.specs.Walks.{OwnQuiet}
use Rattle.weak_maps.proofs.BesideLemmas.{same_held, set_other}
use Rattle.weak_maps.proofs.CountLemmas.{gives_one, refuses_one, writes_one}
use Rattle.weak_maps.proofs.GetLemmas.{grows_by}
use Rattle.weak_direct.specs.Frames.{Allocates}
use Rattle.weak_direct.specs.Tries.{IsMake, KeepsBeside, Passes, Strides, TriedBy, ephemerons_by, labels_by}
use Rattle.weak_direct.proofs.StepLemmas.{off_passes, off_quiet}

pub passes_strides : (z : Sizes) (d : ℕ) (a b : List Entry) → Passes z d a b → Strides z d a b
passes_strides z d a b x = record { grows = x.grows; keeps = x.keeps; written = x.written }

pub strides_twice : (z : Sizes) (d : ℕ) (a b c : List Entry) → Strides z d a b → Strides z d b c → Strides z d a c
strides_twice z d a b c x y = record { grows = prefix_trans a b c x.grows y.grows; keeps = λ i beside. y.keeps i beside ∙ x.keeps i beside; written = y.written ∙ x.written }

pub strides_at : (z now : Sizes) (d e : ℕ) (a b : List Entry) → now ≡ z → e ≡ d → Strides now e a b → Strides z d a b
strides_at z now d e a b sizes domain x = subst (λ (w : Sizes × ℕ). Strides w.0 w.1 a b) (λ i. (sizes i, domain i)) x

make_allocates : (c : Command) → IsMake c → is_allocation c ≡ true
make_allocates (Ephe dst keys) make = refl
make_allocates (Alloc dst tag fields) make = refl
make_allocates _ make = absurd make

make_writes : (c : Command) → IsMake c → writes c ≡ 0
make_writes (Ephe dst keys) make = subst (λ (n : ℕ). writes (Ephe n keys) ≡ 0) (sym make.0) refl
make_writes (Alloc dst tag fields) make = subst (λ (n : ℕ). writes (Alloc n tag fields) ≡ 0) (sym make.0) refl
make_writes _ make = absurd make

module _ (z : Sizes) (d : ℕ) (old new : List Entry) where
  ephe_keeps : (r : Reply) → PerformedBy z d old new (Ephe 10 1) r → KeepsBeside z d old new
  ephe_keeps r p i beside = ⊎_elim (λ refused. same_held z d old new refused.1.1 i) (λ granted. set_other z d old new 10 _ granted.2.1 i beside.2) (ephe_step z d old new r 10 p)

  alloc_keeps : (r : Reply) → PerformedBy z d old new (Alloc 11 0 32) r → KeepsBeside z d old new
  alloc_keeps r p i beside = ⊎_elim (λ refused. same_held z d old new refused.1.1 i) (λ granted. set_other z d old new 11 _ granted.2.1 i beside.3) (alloc_step z d old new r 11 0 32 p)

  make_keeps : (c : Command) (r : Reply) → IsMake c → PerformedBy z d old new c r → KeepsBeside z d old new
  make_keeps (Ephe dst keys) r make p = ephe_keeps r (subst (λ (w : ℕ × ℕ). PerformedBy z d old new (Ephe w.0 w.1) r) (λ i. (make.0 i, make.1 i)) p)
  make_keeps (Alloc dst tag fields) r make p = alloc_keeps r (subst (λ (w : ℕ × ℕ × ℕ). PerformedBy z d old new (Alloc w.0 w.1 w.2) r) (λ i. (make.0 i, make.1 i, make.2 i)) p)
  make_keeps _ r make p = absurd make

  pub make_strides : (c : Command) (o : Option Reply) → IsMake c → TriedBy z d old new c o → Strides z d old new
  make_strides c None make f = passes_strides z d old new (off_passes z d old new f)
  make_strides c (Some r) make p = record {
    grows = grows_by z d old new c r p;
    keeps = make_keeps c r make p;
    written = let one = writes_one z d old new c r p in let none = make_writes c make in omega (arith, one, none);
  }

  pub make_stopped : (c : Command) (o : Option Reply) → TriedBy z d old new c o → o ≡ None → OwnQuiet z d old new
  make_stopped c None f none = off_quiet z d old new f
  make_stopped c (Some r) p none = cc

  pub make_lost : (c : Command) (o : Option Reply) → IsMake c → TriedBy z d old new c o → (was is : ℕ) → was ≡ is + labels_by c o → was ≤ is + 1
  make_lost c None make f was is same = omega (arith, same)
  make_lost c (Some r) make p was is same =
      let gives = gives_one z d old new c r p in
      let one : labels_of c ≡ 1 = ap (λ (b : Bool). cond b 1 0) (make_allocates c make) in
      omega (arith, same, gives, one)

pub make_room : (c : Command) (o : Option Reply) (was is : ℕ) → was ≤ is + ephemerons_by c o → was ≤ is + ephemerons_of c
make_room c None was is more = omega (arith, more)
make_room c (Some r) was is more = let few = ephemerons_few c r in omega (arith, more, few)

pub make_label : (c : Command) → IsMake c → (left : ℕ) → 1 ≤ left → labels_of c ≤ left
make_label c make left some = let one : labels_of c ≡ 1 = ap (λ (b : Bool). cond b 1 0) (make_allocates c make) in omega (arith, some, one)

pub make_made : {M : Type 0} (z : M → Sizes) (d : M → ℕ) (front : M → List Entry) (labels_left : M → ℕ) (old new : M) (c : Command) (o : Option Reply) → IsMake c → TriedBy (z old) (d old) (front old) (front new) c o → labels_left old ≡ labels_left new + labels_by c o
    → IfSome o (Allocates z d front labels_left old new c)
make_made z d front labels_left old new c None make f same = tt
make_made z d front labels_left old new c (Some r) make p same =
    let gives = gives_one (z old) (d old) (front old) (front new) c r p in
    let one : labels_of c ≡ 1 = ap (λ (b : Bool). cond b 1 0) (make_allocates c make) in record {
      labels = omega (arith, same, gives, one);
      refused = refuses_one (z old) (d old) (front old) (front new) c r p;
      performed = p;
    }
