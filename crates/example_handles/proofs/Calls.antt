-- What each call makes of the resources, by what the seat performed.
use Rattle.std.proofs.Common.{◌≡◌, ◌≢◌, ◌∙◌, ⊎_elim, ℕ, ◌+◌, ◌<◌, ◌≤◌, Bool, true, false, List, [], ◌∷◌, ◌++◌, length, refl, sym, ap, subst, append-nil, append_assoc, add-one, eq-eqb, length-append, get_or-set_same, arith}
use Rattle.std.specs.Prelude.{◌||◌, Option, Some, None, cond, drop, get_or, option_map, option_to_list, slice_get, take}
use Rattle.std.proofs.lemmas.List.{take-append-le, take_all}
use Rattle.std.proofs.lemmas.Option.{slice_get_within}
use Rattle.std.proofs.lemmas.List.Folds.{list_any-append}
use Rattle.model_core.specs.declared.command.Command as model
use Rattle.model_core.specs.declared.command.Command.TheVariants.{Alloc, FinaliseLast, FullMajor, Poll}
use Rattle.model_core.specs.declared.entry.Entry.{Entry}
use Rattle.model_core.specs.declared.entry.Entry.TheVariants.{Command}
use Rattle.model_core.specs.declared.graph.Value.{Value}
use Rattle.model_core.specs.declared.graph.Value.TheVariants.{Block, Nothing}
use Rattle.model_core.specs.declared.label.Label.{Label}
use Rattle.model_core.specs.declared.reply.Applied.TheVariants.{Replied}
use Rattle.model_core.specs.declared.reply.Reply.{Reply}
use Rattle.model_core.specs.declared.reply.Reply.TheVariants.{Block as BlockReply, Full}
use Rattle.model_core.specs.declared.state.Pending.{Pending}
use Rattle.model_core.specs.declared.state.Pending.TheVariants.{Last}
use Rattle.model_core.specs.declared.state.Sizes.{Sizes}
use Rattle.model_core.specs.declared.state.State.{State}
use Rattle.model_core.specs.Commands.{CommandAllowed, after_command, finalised_last}
use Rattle.model_core.specs.Domains.{IsWithinLimits, domain_at, label_in, opening}
use Rattle.model_core.specs.Entries.{next, reply}
use Rattle.model_core.specs.Graph.{label_of}
use Rattle.model_core.specs.History.{IsPrefix, Legal, LegalFrom, commands, state_after}
use Rattle.model_core.specs.Registrations.{all_registered, registered}
use Rattle.model_core.proofs.Commands.FrameLemmas.{inside_running}
use Rattle.model_core.proofs.Commands.LeavesLemmas.{leaves_alloc, new_label}
use Rattle.model_core.proofs.Histories.HistoryLemmas.{state_after-push}
use Rattle.model_core.proofs.Histories.ShapeAfterLemmas.{shaped-history}
use Rattle.heap_rule.specs.Limits.{sizes_in}
use Rattle.heap_rule.specs.Rule.{state_of}
use Rattle.model_core.specs.Counts.Counts.{blocks_of, labels_given}
use Rattle.run_turns.specs.Handed.{Finalised, PerformedOn}
use Rattle.run_turns.specs.Kept.{finalised}
use Rattle.run_turns.specs.Tries.{registrations_of}
use Rattle.run_turns.proofs.Adding.{finalised_tells, performed_tells}
use Rattle.run_turns.proofs.Handed.{performed_commands}
use Rattle.run_seats.specs.Seating.{GoesAlong, IsSameSeat, PerformsOn, SeatView, ran_since}
use Rattle.example_handles.specs.declared.resource.Resource.{Resource}
use Rattle.example_handles.specs.declared.resource.Resource.TheVariants.{Open, ClosedByFinaliser}
use Rattle.example_handles.specs.Handling.{Attends, HandleMade, HandlesView, HoldsLatest, IsHandles, IsLater, IsUnused, Makes, OpenWereHeld, Opens, Performs, Settles, latest, no_handles, numbered, parted, ran_by, registered_by, state_at}
use Rattle.example_handles.specs.Resources.{Settled, is_last, names}
use Rattle.example_handles.proofs.Held.{was_held}
use Rattle.example_handles.proofs.Histories.{HoldsSame, legal_parts, names_on, none_named, prefix_on, ran_by_then, registered_on, registered_performed, registers_none, registers_on, same_on, same_part}
use Rattle.example_handles.proofs.Settling.{closed_named, named_closed, pushed, settled_both, settled_since}

-- a seat that has gone on, whose resources are settled by what ran since and was taken
module _ (old : HandlesView) (got : SeatView) (ran : List Reply) (xs : List Resource) (kept : IsHandles old) (same : IsLater old.seat got) (grows : IsPrefix old.seat.front got.front)
    (both : (k : ℕ) → names (finalised (sizes_in old.seat.heap.config) got.front old.seat.number) k ≡ (names (ran_by old) k || names ran k))
    (count : length xs ≡ length old.resources) (s : Settled old.resources ran xs) where
  abbrev new : HandlesView
  new = parted old got xs

  ran_then : ran_by new ≡ finalised (sizes_in old.seat.heap.config) got.front old.seat.number
  ran_then = ap (λ (v : SeatView). finalised (sizes_in v.heap.config) v.front v.number) same

  pub stays_named : (k : ℕ) → names (ran_by old) k ≡ true → names (ran_by new) k ≡ true
  stays_named k is = ap (λ (rs : List Reply). names rs k) ran_then ∙ names_on (sizes_in old.seat.heap.config) old.seat.number old.seat.front got.front k grows is

  pub all_settled : Settled old.resources (ran_by new) xs
  all_settled = settled_since old.resources xs (ran_by old) ran (ran_by new) kept.closed (λ k. ap (λ (rs : List Reply). names rs k) ran_then ∙ both k) s

  pub settles : Settles old new
  settles = record { grows = grows; count = count; settled = all_settled }

  pub closed_then : (k : ℕ) → names (ran_by new) k ≡ true → slice_get xs k ≢ Some Open
  closed_then k = named_closed old.resources xs (ran_by new) k all_settled

  pub named_then : (k : ℕ) → slice_get xs k ≡ Some ClosedByFinaliser → names (ran_by new) k ≡ true
  named_then k = closed_named old.resources xs (ran_by new) k all_settled (λ is. stays_named k (kept.ran k is))

  pub limits_then : IsWithinLimits (sizes_in got.heap.config)
  limits_then = subst (λ (v : SeatView). IsWithinLimits (sizes_in v.heap.config)) (sym same) kept.limits

  pub registered_then : registered_by new ≡ all_registered old.seat.number (opening (sizes_in old.seat.heap.config)) got.front
  registered_then = ap (λ (v : SeatView). all_registered v.number (opening (sizes_in v.heap.config)) v.front) same

  pub still : all_registered old.seat.number (opening (sizes_in old.seat.heap.config)) got.front ≡ registered_by old → old.seat.finals ≤ got.finals → got.ran ≡ [] → IsHandles new
  still none finals taken = record {
    limits = limits_then;
    registered = registered_then ∙ (none ∙ (kept.registered ∙ ap numbered (sym count)));
    few = let f = kept.few in omega (arith, f, count);
    room = let f = kept.room in omega (arith, f, finals, count);
    closed = closed_then;
    ran = named_then;
    taken = taken;
  }

-- a seat that made no command
module _ (old : HandlesView) (got : SeatView) (xs : List Resource) (kept : IsHandles old) (a : Attends old.seat got old.resources xs) (count : length xs ≡ length old.resources) where
  grows_along : IsPrefix old.seat.front got.front
  grows_along = record { rest = a.along.finalised.rest; appends = a.along.finalised.appends }

  both_along : (k : ℕ) → names (finalised (sizes_in old.seat.heap.config) got.front old.seat.number) k ≡ (names (ran_by old) k || names a.along.ran k)
  both_along k =
      ap (λ (rs : List Reply). names rs k) (finalised_tells (sizes_in old.seat.heap.config) old.seat.number old.seat.front got.front a.along.ran a.along.finalised)
      ∙ list_any-append (is_last k) (ran_by old) a.along.ran

  pub settles_along : Settles old (parted old got xs)
  settles_along = settles old got a.along.ran xs kept a.same grows_along both_along count a.settled

  pub still_along : IsHandles (parted old got xs)
  still_along = still old got a.along.ran xs kept a.same grows_along both_along count a.settled
      (registered_on (sizes_in old.seat.heap.config) old.seat.number old.seat.front got.front a.along.ran a.along.finalised)
      (let more = a.along.finals in omega (arith, more)) a.along.taken

-- a seat that made no command has given out no label
pub along_later : (a b : SeatView) → b ≡ record a { front = b.front; room = b.room; finals = b.finals; stats = b.stats; ran = b.ran } → IsLater a b
along_later a b same = same ∙ (λ i. record a { front = b.front; labels = ap (λ (v : SeatView). v.labels) (sym same) i; room = b.room; finals = b.finals; stats = b.stats; ran = b.ran })

-- a seat of which what waited was taken
taken_later : (a b : SeatView) → b ≡ record a { ran = []; finals = b.finals } → IsLater a b
taken_later a b same = same ∙ (λ i. record a { front = ap (λ (v : SeatView). v.front) (sym same) i; labels = ap (λ (v : SeatView). v.labels) (sym same) i; room = ap (λ (v : SeatView). v.room) (sym same) i; finals = b.finals; stats = ap (λ (v : SeatView). v.stats) (sym same) i; ran = ap (λ (v : SeatView). v.ran) (sym same) i })

-- one call after the other
pub later_both : (a b c : SeatView) → IsLater a b → IsLater b c → IsLater a c
later_both a b c ab bc = bc ∙ ap (λ (v : SeatView). record v { front = c.front; labels = c.labels; room = c.room; finals = c.finals; stats = c.stats; ran = c.ran }) ab

-- a seat that attended, or rested, and then took what waits
none_before : (before now more : List Reply) → before ≡ [] → now ≡ before ++ more → now ≡ more
none_before before now more none is = is ∙ ap (λ (rs : List Reply). rs ++ more) none

pub attended : (old mid new : SeatView) (were are : List Resource) → old.ran ≡ [] → mid ≡ record old { front = mid.front; room = mid.room; finals = mid.finals; stats = mid.stats; ran = mid.ran } → GoesAlong old mid
    → new ≡ record mid { ran = []; finals = new.finals } → new.finals ≡ mid.finals + length mid.ran → Settled were mid.ran are → Attends old new were are
attended old mid new were are none same along taken finals settled =
    let told : mid.ran ≡ along.more = none_before old.ran mid.ran along.more none along.ran in
    let front : mid.front ≡ new.front = sym (ap (λ (v : SeatView). v.front) taken) in
    record {
      same = later_both old mid new (along_later old mid same) (taken_later mid new taken);
      along = record {
        ran = along.more;
        taken = ap (λ (v : SeatView). v.ran) taken;
        finalised = subst (λ (h : List Entry). Finalised (sizes_in old.heap.config) old.number old.front h along.more) front along.finalised;
        finals = finals ∙ (λ i. along.finals i + length (told i));
        commands_are = subst (λ (h : List Entry). commands h old.number ≡ commands old.front old.number) front along.commands_are;
      };
      settled = subst (λ (rs : List Reply). Settled were rs are) told settled;
    }

-- or made a command, and then took what waits
pub performed_closing : (old mid new : SeatView) (were are : List Resource) (c : model.Command) (r : Reply) → old.ran ≡ [] → IsSameSeat old mid → PerformsOn old mid c r → mid.labels ≡ old.labels + labels_given c r → old.finals ≤ mid.finals + registrations_of c
    → new ≡ record mid { ran = []; finals = new.finals } → new.finals ≡ mid.finals + length mid.ran → Settled were mid.ran are → Performs old new were are c r
performed_closing old mid new were are c r none same performs labels room taken finals settled =
    let told : mid.ran ≡ ran_since old mid = none_before old.ran mid.ran (ran_since old mid) none performs.waits in
    let front : mid.front ≡ new.front = sym (ap (λ (v : SeatView). v.front) taken) in
    record {
      same = later_both old mid new same (taken_later mid new taken);
      labels = ap (λ (v : SeatView). v.labels) taken ∙ labels;
      ran = ran_since old mid;
      taken = ap (λ (v : SeatView). v.ran) taken;
      finals = let count = ap (λ (rs : List Reply). length rs) told in omega (arith, finals, room, count);
      performed = subst (λ (h : List Entry). PerformedOn (sizes_in old.heap.config) old.number old.front h c (ran_since old mid) r) front performs.performed;
      settled = subst (λ (rs : List Reply). Settled were rs are) told settled;
    }

-- after a command that a seat performed
module _ (old : HandlesView) (got : SeatView) (xs : List Resource) (c : model.Command) (r : Reply) (kept : IsHandles old) (p : Performs old.seat got old.resources xs c r) where
  abbrev z : Sizes
  z = sizes_in old.seat.heap.config

  abbrev d : ℕ
  d = old.seat.number

  -- the state in which it was made
  abbrev before : State
  before = state_after (opening z) p.performed.before

  pub grows : IsPrefix old.seat.front got.front
  grows = record {
    rest = p.performed.finalised.rest ++ Command d c p.performed.full ∷ [];
    appends = p.performed.appends ∙ (ap (λ (h : List Entry). h ++ Command d c p.performed.full ∷ []) p.performed.finalised.appends ∙ append_assoc old.seat.front p.performed.finalised.rest (Command d c p.performed.full ∷ []));
  }

  pub both : (k : ℕ) → names (finalised z got.front d) k ≡ (names (ran_by old) k || names p.ran k)
  both k = ap (λ (rs : List Reply). names rs k) (performed_tells z d old.seat.front got.front c p.ran r p.performed) ∙ list_any-append (is_last k) (ran_by old) p.ran

  pub registers : (all : List Pending) → registered_by old ++ registered d before (Command d c p.performed.full) ≡ all → all_registered d (opening z) got.front ≡ all
  registers all is = registered_performed z d old.seat.front got.front c p.ran r p.performed ∙ is

  parts : LegalFrom (opening z) p.performed.before × LegalFrom before (Command d c p.performed.full ∷ [])
  parts = legal_parts (opening z) p.performed.before (Command d c p.performed.full ∷ []) (subst (Legal z) p.performed.appends p.performed.legal)

  pub legal_before : Legal z p.performed.before
  legal_before = parts.0

  pub allowed : CommandAllowed before d c p.performed.full
  allowed = parts.1.0

  pub left : state_of old.seat.heap.config got.front ≡ next before (Command d c p.performed.full)
  left = ap (state_after (opening z)) p.performed.appends ∙ state_after-push (opening z) p.performed.before (Command d c p.performed.full)

  pub made_are : commands got.front d ≡ commands old.seat.front d ++ c ∷ []
  made_are = performed_commands z d old.seat.front got.front c p.ran r p.performed

-- a command that registers no finaliser
module _ (old : HandlesView) (got : SeatView) (xs : List Resource) (c : model.Command) (r : Reply) (kept : IsHandles old) (p : Performs old.seat got old.resources xs c r) (quiet : registrations_of c ≡ 0)
    (count : length xs ≡ length old.resources) where
  pub settles_performed : Settles old (parted old got xs)
  settles_performed = settles old got p.ran xs kept p.same (grows old got xs c r kept p) (both old got xs c r kept p) count p.settled

  pub still_performed : IsHandles (parted old got xs)
  still_performed = still old got p.ran xs kept p.same (grows old got xs c r kept p) (both old got xs c r kept p) count p.settled
      (registers old got xs c r kept p (registered_by old) ((λ i. registered_by old ++ registers_none (d old got xs c r kept p) (before old got xs c r kept p) c p.performed.full quiet i) ∙ append-nil (registered_by old)))
      (let finals = p.finals in omega (arith, finals, quiet)) p.taken

-- an allocation that isn't refused
not_full : (d : ℕ) (s : State) (c : model.Command) (full : Bool) (r : Reply) → reply s (Command d c full) ≡ Replied r → r ≢ Full → full ≡ false
not_full d s c true r is room = absurd (room (let same : Replied Full ≡ Replied r = is in cc))
not_full d s c false r is room = refl

pub made : (old : HandlesView) (got : SeatView) (xs : List Resource) (dst : ℕ) (r : Reply) → IsHandles old → Performs old.seat got old.resources xs (Alloc dst 0 1) r → dst < 16 → r ≢ Full → Settles old (parted old got xs) → HandleMade old (parted old got xs) dst
made old got xs dst r kept p few room settled = record {
  made_are = made_are old got xs (Alloc dst 0 1) r kept p;
  labels = let given = p.labels in let one = ap blocks_of block in omega (arith, given, one);
  handle = subst (λ (v : SeatView). HoldsLatest (parted old v xs) dst) (sym p.same) handle;
  settles = settled;
}
  where
    number : ℕ
    number = old.seat.number

    s : State
    s = before old got xs (Alloc dst 0 1) r kept p

    after : State
    after = state_of old.seat.heap.config got.front

    is_made : p.performed.full ≡ false
    is_made = not_full number s (Alloc dst 0 1) p.performed.full r p.performed.replies room

    there : after ≡ next s (Command number (Alloc dst 0 1) false)
    there = left old got xs (Alloc dst 0 1) r kept p ∙ ap (λ (b : Bool). next s (Command number (Alloc dst 0 1) b)) is_made

    inside : number < length s.domains
    inside = inside_running s.domains number (allowed old got xs (Alloc dst 0 1) r kept p).running

    inside_registers : dst < length (domain_at s number).registers
    inside_registers = let sixteen = (shaped-history (sizes_in old.seat.heap.config) p.performed.before kept.limits).register_count number inside in omega (arith, sixteen, few)

    block : r ≡ BlockReply (new_label s number)
    block = let same : Replied r ≡ Replied (BlockReply (new_label s number)) = sym p.performed.replies ∙ (ap (λ (b : Bool). reply s (Command number (Alloc dst 0 1) b)) is_made ∙ (leaves_alloc s number inside dst 0 1).replies) in cc

    serial : (domain_at after number).serial ≡ (domain_at s number).serial + 1
    serial = ap (λ (t : State). (domain_at t number).serial) there ∙ (leaves_alloc s number inside dst 0 1).serial_is

    handle : get_or (domain_at after number).registers dst Nothing ≡ Block (record { domain = number; serial = (domain_at after number).serial })
    handle = ap (λ (t : State). get_or (domain_at t number).registers dst Nothing) there ∙ (ap (λ (rs : List Value). get_or rs dst Nothing) (leaves_alloc s number inside dst 0 1).registers_are
        ∙ (get_or-set_same (domain_at s number).registers dst (Block (new_label s number)) Nothing inside_registers ∙ ap (λ (n : ℕ). Block (record { domain = number; serial = n })) (sym serial)))

-- the registration of a finaliser
after_keeps : (d : ℕ) (t : State) → HoldsSame d t (after_command t d)
after_keeps d t = same_part d t _ refl refl

last_listed : (d : ℕ) (s : State) (n : ℕ) (o : Option Label) → HoldsSame d s (finalised_last s d n o).state
last_listed d s n None = record { registers = refl; serial = refl }
last_listed d s n (Some l) = same_part d s _ refl refl

last_keeps : (d : ℕ) (s : State) (dst n : ℕ) (full : Bool) → HoldsSame d s (next s (Command d (FinaliseLast dst n) full))
last_keeps d s dst n true = after_keeps d s
last_keeps d s dst n false = same_on d s _ _ (last_listed d s n (label_in s d dst)) (after_keeps d (finalised_last s d n (label_in s d dst)).state)

last_registers : (d : ℕ) (s : State) (dst n : ℕ) (full : Bool) (l : Label) → CommandAllowed s d (FinaliseLast dst n) full → label_in s d dst ≡ Some l → registered d s (Command d (FinaliseLast dst n) full) ≡ Last n ∷ []
last_registers d s dst n true l allowed is = absurd (let no = allowed.full_fits.allocates in cc)
last_registers d s dst n false l allowed is = (λ i. cond (eq-eqb d d refl i) (option_to_list (option_map (λ l. Last n) (is i))) [])

module _ (old : HandlesView) (got : SeatView) (others : List Resource) (dst : ℕ) (r : Reply) (kept : IsHandles old) (p : Performs old.seat got old.resources others (FinaliseLast dst (length old.resources)) r)
    (below : length old.resources < old.most) (held : HoldsLatest old dst) (count : length others ≡ length old.resources) where
  abbrev c : model.Command
  c = FinaliseLast dst (length old.resources)

  abbrev sizes : Sizes
  sizes = sizes_in old.seat.heap.config

  abbrev number : ℕ
  number = old.seat.number

  abbrev made_in : State
  made_in = before old got others c r kept p

  abbrev after : State
  after = state_of old.seat.heap.config got.front

  abbrev opened_view : HandlesView
  opened_view = parted old got (others ++ Open ∷ [])

  abbrev others_view : HandlesView
  others_view = parted old got others

  settled : Settled old.resources (ran_by others_view) others
  settled = all_settled old got p.ran others kept p.same (grows old got others c r kept p) (both old got others c r kept p) count p.settled

  -- by then the register still holds the handle
  by_then : HoldsSame number (state_at old) made_in
  by_then = subst (λ (h : List Entry). HoldsSame number (state_at old) (state_after (opening sizes) h)) (sym p.performed.finalised.appends)
      (registers_on sizes number (length old.resources) old.seat.front p.performed.finalised.rest (subst (Legal sizes) p.performed.finalised.appends (legal_before old got others c r kept p)) kept.registered p.performed.finalised.runs)

  there : label_in made_in number dst ≡ Some (latest old)
  there = ap (λ (rs : List Value). label_of (get_or rs dst Nothing)) by_then.registers ∙ ap label_of held

  in_the_end : HoldsSame number (state_at old) after
  in_the_end = same_on number (state_at old) made_in after by_then (subst (λ (t : State). HoldsSame number made_in t) (sym (left old got others c r kept p)) (last_keeps number made_in dst (length old.resources) p.performed.full))

  one_more : length (others ++ Open ∷ []) ≡ length old.resources + 1
  one_more = length-append others (Open ∷ []) ∙ ap (λ (k : ℕ). k + 1) count

  pub opened : Opens (c ∷ []) 0 old opened_view dst
  opened = record {
    grows = grows old got others c r kept p;
    made_are = made_are old got others c r kept p;
    labels = p.labels;
    handle = subst (λ (v : SeatView). HoldsLatest (parted old v (others ++ Open ∷ [])) dst) (sym p.same)
        (ap (λ (rs : List Value). get_or rs dst Nothing) in_the_end.registers ∙ (held ∙ ap (λ (n : ℕ). Block (record { domain = number; serial = n })) (sym in_the_end.serial)));
    others = others;
    settled = settled;
    resources = refl;
  }

  -- the new resource isn't named, since its finaliser wasn't registered before
  unnamed : (k : ℕ) → length old.resources ≤ k → names (ran_by others_view) k ≡ true → ⊥
  unnamed k far is =
      none_named sizes number p.performed.before (length old.resources) k (legal_before old got others c r kept p)
      (registered_on sizes number old.seat.front p.performed.before p.ran p.performed.finalised ∙ kept.registered) far
      (ap (λ (rs : List Reply). names rs k) (sym (ran_then old got p.ran others kept p.same (grows old got others c r kept p) (both old got others c r kept p) count p.settled ∙ ran_by_then sizes number old.seat.front got.front c p.ran r p.performed)) ∙ is)

  pub open_still : IsHandles opened_view
  open_still = record {
    limits = limits_then old got p.ran others kept p.same (grows old got others c r kept p) (both old got others c r kept p) count p.settled;
    registered = registered_then old got p.ran others kept p.same (grows old got others c r kept p) (both old got others c r kept p) count p.settled
        ∙ registers old got others c r kept p (numbered (length (others ++ Open ∷ [])))
        ((λ i. kept.registered i ++ last_registers number made_in dst (length old.resources) p.performed.full (latest old) (allowed old got others c r kept p) there i)
        ∙ ap numbered (sym (one_more ∙ add-one (length old.resources))));
    few = let more = one_more in omega (arith, more, below);
    room = let f = kept.room in let finals = p.finals in let more = one_more in omega (arith, f, finals, more);
    closed = λ k is held_open. ⊎_elim
        (λ old_one. closed_then old got p.ran others kept p.same (grows old got others c r kept p) (both old got others c r kept p) count p.settled k is old_one)
        (λ new_one. unnamed k (let same = new_one.0 in omega (arith, same, count)) is)
        (pushed others Open Open k held_open);
    ran = λ k is. ⊎_elim
        (λ old_one. named_then old got p.ran others kept p.same (grows old got others c r kept p) (both old got others c r kept p) count p.settled k old_one)
        (λ new_one. absurd (let same = new_one.1 in cc))
        (pushed others Open ClosedByFinaliser k is);
    taken = p.taken;
  }

-- what has run stays so
later_named : (mid new : HandlesView) → IsLater mid.seat new.seat → IsPrefix mid.seat.front new.seat.front → (k : ℕ) → names (ran_by mid) k ≡ true → names (ran_by new) k ≡ true
later_named mid new same grows k is =
    ap (λ (v : SeatView). names (finalised (sizes_in v.heap.config) v.front v.number) k) same ∙ names_on (sizes_in mid.seat.heap.config) mid.seat.number mid.seat.front new.seat.front k grows is

pub settles_both : (old mid new : HandlesView) → IsLater mid.seat new.seat → Settles old mid → Settles mid new → Settles old new
settles_both old mid new same a b = record {
  grows = prefix_on old.seat.front mid.seat.front new.seat.front a.grows b.grows;
  count = b.count ∙ a.count;
  settled = settled_both old.resources mid.resources new.resources (ran_by mid) (ran_by new) (later_named mid new same b.grows) a.settled b.settled;
}

-- the commands of both
both_made : (old mid new : HandlesView) (one two : List model.Command) → IsLater old.seat mid.seat → commands mid.seat.front old.seat.number ≡ commands old.seat.front old.seat.number ++ one
    → commands new.seat.front mid.seat.number ≡ commands mid.seat.front mid.seat.number ++ two → commands new.seat.front old.seat.number ≡ commands old.seat.front old.seat.number ++ (one ++ two)
both_made old mid new one two same a b =
    subst (λ (k : ℕ). commands new.seat.front k ≡ commands mid.seat.front k ++ two) (ap (λ (v : SeatView). v.number) same) b
    ∙ (ap (λ (cs : List model.Command). cs ++ two) a ∙ append_assoc (commands old.seat.front old.seat.number) one two)

pub makes_both : (old mid new : HandlesView) (one two : List model.Command) → IsLater old.seat mid.seat → IsLater mid.seat new.seat → Makes one old mid → Makes two mid new → Makes (one ++ two) old new
makes_both old mid new one two first then a b = record {
  made_are = both_made old mid new one two first a.made_are b.made_are;
  settles = settles_both old mid new then a.settles b.settles;
}

-- a handle, and then its finaliser
pub opens_both : (old mid new : HandlesView) (dst : ℕ) (last : model.Command) → IsLater old.seat mid.seat → IsLater mid.seat new.seat → HandleMade old mid dst → Opens (last ∷ []) 0 mid new dst → Opens (Alloc dst 0 1 ∷ last ∷ []) 1 old new dst
opens_both old mid new dst last first then a b = record {
  grows = prefix_on old.seat.front mid.seat.front new.seat.front a.settles.grows b.grows;
  made_are = both_made old mid new (Alloc dst 0 1 ∷ []) (last ∷ []) first a.made_are b.made_are;
  labels = let first = a.labels in let then = b.labels in omega (arith, first, then);
  handle = b.handle;
  others = b.others;
  settled = settled_both old.resources mid.resources b.others (ran_by mid) (ran_by new) (later_named mid new then b.grows) a.settles.settled b.settled;
  resources = b.resources;
}

-- what was performed, as the seat was before
pub performed_from : (old mid new : HandlesView) (c : model.Command) (ran : List Reply) (r : Reply) → IsLater old.seat mid.seat → PerformedOn (sizes_in mid.seat.heap.config) mid.seat.number mid.seat.front new.seat.front c ran r
    → PerformedOn (sizes_in old.seat.heap.config) old.seat.number mid.seat.front new.seat.front c ran r
performed_from old mid new c ran r same p = subst (λ (v : SeatView). PerformedOn (sizes_in v.heap.config) v.number mid.seat.front new.seat.front c ran r) same p

-- a complete collection, and then a poll
pub open_held : (old mid new : HandlesView) → IsLater old.seat mid.seat → IsLater mid.seat new.seat → (ran1 ran2 : List Reply) (r1 r2 : Reply) → PerformedOn (sizes_in old.seat.heap.config) old.seat.number old.seat.front mid.seat.front FullMajor ran1 r1
    → PerformedOn (sizes_in mid.seat.heap.config) mid.seat.number mid.seat.front new.seat.front Poll ran2 r2 → IsHandles new → OpenWereHeld old new
open_held old mid new first then ran1 ran2 r1 r2 p q kept k is =
    was_held (sizes_in old.seat.heap.config) old.seat.number k (length new.resources) old.seat.front mid.seat.front new.seat.front ran1 ran2 r1 r2 p (performed_from old mid new Poll ran2 r2 first q)
    (sym (ap (λ (v : SeatView). all_registered v.number (opening (sizes_in v.heap.config)) v.front) both) ∙ kept.registered)
    (slice_get_within new.resources k Open is)
    (sym (ap (λ (v : SeatView). names (finalised (sizes_in v.heap.config) v.front v.number) k) both) ∙ unnamed (names (ran_by new) k) refl)
  where
    both : IsLater old.seat new.seat
    both = later_both old.seat mid.seat new.seat first then

    unnamed : (b : Bool) → names (ran_by new) k ≡ b → b ≡ false
    unnamed true named = absurd (kept.closed k named is)
    unnamed false named = refl

-- a seat without a resource
pub none_kept : (most : ℕ) (s : SeatView) → IsUnused most s → IsHandles (no_handles most s)
none_kept most s unused = record {
  limits = unused.limits;
  registered = ap (all_registered s.number (opening (sizes_in s.heap.config))) unused.front;
  few = omega arith;
  room = let room = unused.room in omega (arith, room);
  closed = λ k is held. let no : None ≡ Some Open = held in cc;
  ran = λ k is. let no : None ≡ Some ClosedByFinaliser = is in cc;
  taken = unused.ran;
}

-- what a vector holds once its slice is another of its length
pub written : (n : ℕ) (xs ys : List Resource) → length xs ≡ n → take n (xs ++ ys) ≡ xs
written n xs ys same = subst (λ (k : ℕ). take k (xs ++ ys) ≡ xs) same (take-append-le (length xs) xs ys (omega arith) ∙ take_all (length xs) xs (omega arith))

-- a vector whose whole slice was changed as a seat tells
abbrev pub stored : ℕ → List Resource → List Resource → List Resource
stored n were are = take n (are ++ drop (length are) were)

pub record Changed (n : ℕ) (were are : List Resource) : Type 0 where
  pub items : stored n were are ≡ are
  pub count : length are ≡ length were

pub changed : {lent : List Resource} (n : ℕ) (were are : List Resource) → lent ≡ were → length lent ≡ n → length are ≡ length lent → Changed n were are
changed n were are is held many = record {
  items = written n are (drop (length are) were) (many ∙ held);
  count = many ∙ ap length is;
}
