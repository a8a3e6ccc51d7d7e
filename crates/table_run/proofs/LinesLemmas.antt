-- What each function of a line answers, from the clauses of the calls in it.
use Rattle.std.proofs.Common.{◌≡◌, inl, inr, ⊎_elim, ℕ, ◌+◌, ◌<◌, ◌≤◌, ℤ, List, [], ◌∷◌, ◌++◌, set, slice_get, Option, Some, None, refl, ap, sym, ◌∙◌, subst, arith}
use Rattle.model_core.specs.declared.label.Label.{Label}
use Rattle.model_core.specs.declared.command.Command.TheVariants.{PutInt, Copy, Forget, Alloc, FullMajor}
use Rattle.model_core.specs.declared.entry.Entry.{Entry}
use Rattle.model_core.specs.declared.reply.Reply.{Reply}
use Rattle.model_core.specs.declared.reply.Reply.TheVariants as given
use Rattle.model_core.specs.declared.graph.Value.{Value}
use Rattle.model_core.specs.declared.graph.Value.TheVariants.{Int, Block, Nothing}
use Rattle.model_core.specs.declared.state.Mode.TheVariants.{Open}
use Rattle.model_core.specs.declared.state.Sizes.{Sizes}
use Rattle.model_core.specs.Graph.{label_of}
use Rattle.model_core.specs.Domains.{IsWithinLimits, domain_at, opening}
use Rattle.model_core.specs.Registrations.{all_registered}
use Rattle.model_core.specs.Commands.{key_value, shown}
use Rattle.model_core.specs.History.{IsPrefix, Legal}
use Rattle.weak_laws.specs.Tables.Structures.{IsWeakArray, datum_at, slot_keys}
use Rattle.weak_laws.specs.Tables.Thinning.{Went, state_of}
use Rattle.weak_laws.proofs.OfTables.LawLemmas.{keys_emptied}
use Rattle.weak_tables.proofs.SearchLemmas.{set_here}
use Rattle.weak_laws.specs.Tables.Performing.{Performed, After, refusals, full_of, writings, registers_of}
use Rattle.weak_laws.specs.Tables.Stages.{graph_of, held_in}
use Rattle.weak_laws.proofs.OfTables.RefusalLemmas.{performed_refusals, performed_given}
use Rattle.weak_laws.proofs.OfTables.StepLemmas.{step_open, put_step, forget_step, alloc_step, copy_step, full_major_step}
use Rattle.weak_tables.specs.Held.{HoldsArray}
use Rattle.weak_tables.specs.Arrays.{SetAnswers, SlotAnswers}
use Rattle.weak_tables.proofs.SlotLemmas.{past_end, emptied_stays}
use Rattle.table_text.specs.declared.version.Version.{Version}
use Rattle.table_text.specs.declared.version.Version.TheVariants.{One, Two}
use Rattle.table_text.specs.declared.line.TableLine.{TableLine}
use Rattle.table_text.specs.declared.line.TableLine.TheVariants as line
use Rattle.table_text.specs.declared.machine.reply.LineReply.TheVariants as reply
use Rattle.table_text.specs.Machine.Machine.{AllGone, TableState, HasItsKey, MayGo, MayBeRefused, WithKey, Deletes, Binds, ReadsSlot, key_in, with_key, made_by, made_by_put, all_made}
use Rattle.table_run.specs.Keepers.Keepers.{HoldsKeeper}
use Rattle.table_run.specs.Keepers.Answers.{CountsAt, GetAnswers, GetsAt, PutAnswers, PutsAt, SweepAnswers, TakeAnswers, TakesAt}
use Rattle.table_run.proofs.OfKeepers.MapLemmas.{listed, map_stays}
use Rattle.table_run.specs.Standing.{Places, Stands, IsStanding}
use Rattle.table_text.specs.Machine.Said.{full_in, said}
use Rattle.table_run.specs.Running.{LineDone, HasGiven}
use Rattle.table_run.proofs.LineLemmas.{after_with, after_goes, after_goes_by, after_key, stands_zero, stands_reading, stands_set, forget_line, key_line, full_line}
use Rattle.table_run.proofs.RefusalLemmas.{used_up}
use Rattle.table_run.proofs.KeeperLemmas.{IsSwept, swept_as, swept_lasts}
use Rattle.table_run.proofs.MachineLemmas.{may_same}
use Rattle.table_run.proofs.OwnLemmas.{take_done, put_done, slot_done, stays_goes, stays_left, stays_stands}
use Rattle.table_run.proofs.CallLemmas.{held_key, nothing_done, left, read_goes, read_stands, read_line, get_line, count_line}
use Rattle.table_text.proofs.OfMachine.SaidLemmas.{said_full}
use Rattle.table_run.proofs.GoneLemmas.{left_held}
use Rattle.table_run.proofs.StandLemmas.{line_ends, line_later, others_clean, keeps_high, prefix_self}

-- a register holds what keeps the bindings, and one the weak array
pub standing_keeper : (version : Version) (z : Sizes) (h : List Entry) → IsStanding version z h → HoldsKeeper version z h 6
standing_keeper version z h x = record { root = x.places.keeper; shape = x.stands.shown.shape; held = x.stands.keeper_held; keeper = x.stands.shown.keeper }

pub standing_array : (version : Version) (z : Sizes) (h : List Entry) → IsStanding version z h → HoldsArray z h 7
standing_array version z h x = record { root = x.places.array; slots = x.places.slots; held = x.stands.array_held; array = x.stands.shown.array }

-- how many labels lines may make
pub made-append : (version : Version) (a : List TableLine) (l : TableLine) → all_made version (a ++ l ∷ []) ≡ all_made version a + made_by version l
made-append version [] l = omega arith
made-append version (x ∷ a) l = let rest = made-append version a l in omega (arith, rest)

-- `full` comes only where it may
pub may_refuse : (version : Version) (z : Sizes) (limits : IsWithinLimits z) (old new : List Entry) (left_old left_new : ℕ) (before : List TableLine) (l : TableLine) → z.domains ≡ 1 → Legal z new → IsPrefix old new → refusals old < refusals new → (domain_at (state_of z new) 0).serial + left_new ≡ 4294967295
    → left_old ≤ left_new + made_by version l → HasGiven version left_old before → (made_by version l ≡ 0 → ⊥) → (s : TableState) → HasItsKey s l → MayBeRefused version z (before ++ l ∷ []) l s
may_refuse version z limits old new left_old left_new before l one legal grows more serial labels given some s key =
    let used = used_up z limits old new one legal grows more in
    let sum = made-append version before l in
    record { allocates = some; key = key; kept = omega (arith, used, sum, serial, labels, given) }

module _ (version : Version) (z : Sizes) (limits : IsWithinLimits z) (old new : List Entry) where
  -- `key R`
  pub key_made : (r : ℕ) (rep : Reply) → 1 ≤ r → r ≤ 5 → Performed z old new (Alloc r 0 1) rep → (rep ≡ given.Full → ⊥) → (p : Places) (s : TableState) (lines : List TableLine) → Stands version z p s old → LineDone version z p lines (line.Key r) s old reply.Done new
  key_made r rep low high q room p s lines x =
      let count = performed_refusals z old new (Alloc r 0 1) rep q in
      ⊎_elim (λ no. absurd (room no.1))
      (λ made. key_line version z limits p s old new x lines r made.0 low high made.1 (step_open z limits old new (Alloc r 0 1) rep q refl) made.3 made.4 (count ∙ ap (λ (a : Reply). refusals old + full_of a) made.2 ∙ zero_more (refusals old)))
      (alloc_step z limits old new rep r 0 1 q)
    where
      zero_more : (n : ℕ) → n + 0 ≡ n
      zero_more n = omega arith

  pub key_refused : (r : ℕ) (rep : Reply) → Performed z old new (Alloc r 0 1) rep → rep ≡ given.Full → (p : Places) (s : TableState) (before : List TableLine) (left_old left_new : ℕ) → z.domains ≡ 1 → (domain_at (state_of z new) 0).serial + left_new ≡ 4294967295
      → left_old ≤ left_new + 1 → HasGiven version left_old before → Stands version z p s old → LineDone version z p (before ++ line.Key r ∷ []) (line.Key r) s old reply.Full new
  key_refused r rep q full p s before left_old left_new one serial labels given_few x =
      let count : refusals new ≡ refusals old + 1 = performed_refusals z old new (Alloc r 0 1) rep q ∙ ap (λ (a : Reply). refusals old + full_of a) full in
      ⊎_elim
      (λ no. full_line version z limits p s old new x (before ++ line.Key r ∷ []) (line.Key r) tt no.0 (step_open z limits old new (Alloc r 0 1) rep q refl)
      (may_refuse version z limits old new left_old left_new before (line.Key r) one no.0.legal no.0.grows (omega (arith, count)) serial labels given_few (λ none. absurd (omega (arith, none))) (after_with version z limits p s old new x _ no.0 s.registers) tt) count)
      (λ made. absurd (let clash : given.Block made.0 ≡ given.Full = sym made.2 ∙ full in cc))
      (alloc_step z limits old new rep r 0 1 q)

  -- `forget R`
  pub forgotten : (r : ℕ) (rep : Reply) → 1 ≤ r → r ≤ 5 → Performed z old new (Forget r) rep → (p : Places) (s : TableState) (lines : List TableLine) → Stands version z p s old → LineDone version z p lines (line.Forget r) s old reply.Done new
  forgotten r rep low high q p s lines x =
      let t = forget_step z limits old new rep r q in
      let count = performed_refusals z old new (Forget r) rep q in
      forget_line version z limits p s old new x lines r low high t.0 (step_open z limits old new (Forget r) rep q refl) (count ∙ (ap (λ (a : Reply). refusals old + full_of a) t.1 ∙ zero_more (refusals old)))
    where
      zero_more : (n : ℕ) → n + 0 ≡ n
      zero_more n = omega arith

  -- `get R`
  pub got : (r : ℕ) (rep : Reply) → 1 ≤ r → r ≤ 5 → writings new ≤ writings old + 0 → refusals new ≡ refusals old + full_of rep → GetsAt version z old new 0 6 r rep
      → (p : Places) (s : TableState) (lines : List TableLine) → Stands version z p s old → LineDone version z p lines (line.Get r) s old (said rep) new
  got r rep low high quiet count answer p s lines x =
      get_line version z limits p s old new x lines r rep (key_in s r) refl
      (subst (λ (o : Option Label). GetAnswers version z old new p.keeper x.shown.shape 0 o rep) (held_key version z p s old x r low high) (answer p.keeper x.shown.shape x.keeper_held x.shown.keeper)) (omega arith)
      (count ∙ ap (λ (n : ℕ). refusals old + n) (sym (said_full rep)))

  -- `del R`
  taken : (r : ℕ) (rep : Reply) → writings new ≡ writings old → refusals new ≡ refusals old + full_of rep → (p : Places) (s : TableState) (lines : List TableLine) (x : Stands version z p s old) (o : Option Label) → key_in s r ≡ o
      → TakeAnswers version z old new p.keeper x.shown.shape o rep → LineDone version z p lines (line.Del r) s old (said rep) new
  taken r rep quiet count p s lines x None key (bad, same) =
      nothing_done version z p s old new x lines (line.Del r) (said rep) (subst (λ (o : Option Label). WithKey o s (said rep) s (λ j. Deletes j s (said rep) s (datum_at s.bindings j))) (sym key) (ap said bad, refl)) tt tt
      (count ∙ ap (λ (n : ℕ). refusals old + n) (sym (said_full rep))) same
  taken r rep quiet count p s lines x (Some k) key (inl (done, t)) =
      let none : refusals new ≡ refusals old = (let e : refusals new ≡ refusals old + 0 = count ∙ ap (λ (a : Reply). refusals old + full_of a) done in omega (arith, e)) in
      subst (λ (a : Reply). LineDone version z p lines (line.Del r) s old (said a) new) (sym done)
      (take_done version z limits p s old new x (omega (arith, quiet)) (λ q high. t.writes.settled.high q high (x.others q high)) lines r k key t none)
  taken r rep quiet count p s lines x (Some k) key (inr (empty, m)) =
      let few : writings new ≤ writings old = omega (arith, quiet) in
      let others : (q : ℕ) → 8 ≤ q → held_in z new q ≡ Nothing = λ q high. m.stays.writes.settled.high q high (x.others q high) in
      let t = stays_left version z limits p s old new x few others m.stays in
      line_ends version z p lines (line.Del r) s old (said rep) t new
      (record {
        left = t;
        goes = stays_goes version z limits p s old new x few others m.stays;
        does = inl (subst (λ (o : Option Label). WithKey o t (said rep) t (λ j. Deletes j t (said rep) t (datum_at t.bindings j))) (sym key) (subst (λ (o : Option Value). Deletes k t (said rep) t o) (sym m.none) (ap said empty, refl)));
      })
      tt tt m.stays.writes.goes.grows (count ∙ ap (λ (n : ℕ). refusals old + n) (sym (said_full rep))) (stays_stands version z limits p s old new x few others m.stays)

  pub deleted : (r : ℕ) (rep : Reply) → 1 ≤ r → r ≤ 5 → writings new ≡ writings old → refusals new ≡ refusals old + full_of rep → TakesAt version z old new 6 r rep
      → (p : Places) (s : TableState) (lines : List TableLine) → Stands version z p s old → LineDone version z p lines (line.Del r) s old (said rep) new
  deleted r rep low high quiet count answer p s lines x =
      taken r rep quiet count p s lines x (key_in s r) refl (subst (λ (o : Option Label). TakeAnswers version z old new p.keeper x.shown.shape o rep) (held_key version z p s old x r low high) (answer p.keeper x.shown.shape x.keeper_held x.shown.keeper))

  -- `wset I R`
  slot_taken : (i r : ℕ) (rep : Reply) → i < 16 → writings new ≡ writings old → refusals new ≡ refusals old + full_of rep → (p : Places) (s : TableState) (lines : List TableLine) (x : Stands version z p s old) (e : Option Label) (o : Option Label) → slice_get p.slots i ≡ e → key_in s r ≡ o
      → SetAnswers z old new p.array p.slots i e o rep → LineDone version z p lines (line.SetWeak i r) s old (said rep) new
  slot_taken i r rep below quiet count p s lines x None o at key answer = absurd (let few = past_end p.slots i at in let sixteen = x.sixteen in omega (arith, few, sixteen, below))
  slot_taken i r rep below quiet count p s lines x (Some e) None at key (bad, spares, clean) =
      let few : writings new ≤ writings old = omega (arith, quiet) in
      let goes = spares.reads.goes in
      let t = left version z limits p s old new x goes few in
      read_line version z limits p s old new x goes few lines (line.SetWeak i r) (said rep)
      (subst (λ (o : Option Label). WithKey o t (said rep) t (λ k. (said rep ≡ reply.Done) × (t ≡ record t { slots = set t.slots i (Some k) }))) (sym key) (ap said bad, refl)) tt tt
      (count ∙ ap (λ (n : ℕ). refusals old + n) (sym (said_full rep))) (others_clean z old new x.others (keeps_high z old new spares.keeps) clean) clean.calm
  slot_taken i r rep below quiet count p s lines x (Some e) (Some k) at key (done, t) =
      let none : refusals new ≡ refusals old = (let e : refusals new ≡ refusals old + 0 = count ∙ ap (λ (a : Reply). refusals old + full_of a) done in omega (arith, e)) in
      subst (λ (a : Reply). LineDone version z p lines (line.SetWeak i r) s old (said a) new) (sym done)
      (slot_done version z limits p s old new x (omega (arith, quiet)) (others_clean z old new x.others (keeps_high z old new t.keeps) t.clean) lines i r k below key t none)

  pub slot_set : (i r : ℕ) (rep : Reply) → i < 16 → 1 ≤ r → r ≤ 5 → writings new ≡ writings old → refusals new ≡ refusals old + full_of rep
      → ((root : Label) (slots : List Label) → held_in z old 7 ≡ Block root → IsWeakArray (graph_of z old) root slots → SetAnswers z old new root slots i (slice_get slots i) (label_of (held_in z old r)) rep)
      → (p : Places) (s : TableState) (lines : List TableLine) → Stands version z p s old → LineDone version z p lines (line.SetWeak i r) s old (said rep) new
  slot_set i r rep below low high quiet count answer p s lines x =
      slot_taken i r rep below quiet count p s lines x (slice_get p.slots i) (key_in s r) refl refl
      (subst (λ (o : Option Label). SetAnswers z old new p.array p.slots i (slice_get p.slots i) o rep) (held_key version z p s old x r low high) (answer p.array p.slots x.array_held x.shown.array))

  -- `count`
  pub counted : (n : ℕ) → writings new ≡ writings old → refusals new ≡ refusals old → CountsAt version z old new 6 n → (p : Places) (s : TableState) (lines : List TableLine) → Stands version z p s old → LineDone version z p lines line.Count s old (reply.Counted n) new
  counted n quiet none answer p s lines x = count_line version z limits p s old new x lines n (answer p.keeper x.shown.shape x.keeper_held x.shown.keeper) quiet none

-- an integer in register 0
stands_put : (version : Version) (z : Sizes) (limits : IsWithinLimits z) (old mid : List Entry) (w : ℤ) (rep : Reply) → Performed z old mid (PutInt 0 w) rep → (p : Places) (s : TableState) → Stands version z p s old
    → (t : TableState) × MayGo s t × Stands version z p t mid × (t.registers ≡ s.registers) × (held_in z mid 0 ≡ Int w) × IsPrefix old mid × (refusals mid ≡ refusals old)
stands_put version z limits old mid w rep q p s x =
    let t = put_step z limits old mid rep 0 w q in
    let count : refusals mid ≡ refusals old + 0 = performed_refusals z old mid (PutInt 0 w) rep q ∙ ap (λ (a : Reply). refusals old + full_of a) t.1 in
    let y = stands_zero version z limits p s old mid x (Int w) t.0 in
    (after_with version z limits p s old mid x _ t.0 s.registers, after_goes version z limits p s old mid x _ t.0 s.registers y (step_open z limits old mid (PutInt 0 w) rep q refl), y, refl, set_here z limits old old mid 0 (Int w) t.0.registers_are (omega arith), t.0.grows, omega (arith, count))

-- a binding makes labels
put_makes : (version : Version) → made_by_put version ≡ 0 → ⊥
put_makes One none = cc
put_makes Two none = cc

module _ (version : Version) (z : Sizes) (limits : IsWithinLimits z) (mid new : List Entry) where
  -- `put R V`, once the value is in register 0
  bound : (r : ℕ) (w : ℤ) (rep : Reply) → writings new ≡ writings mid → refusals new ≡ refusals mid + full_of rep → (p : Places) (s : TableState) (before : List TableLine) (x : Stands version z p s mid) (left_old left_new : ℕ) → z.domains ≡ 1
      → (domain_at (state_of z new) 0).serial + left_new ≡ 4294967295 → left_old ≤ left_new + made_by_put version → HasGiven version left_old before → (o : Option Label) → key_in s r ≡ o → PutAnswers version z mid new p.keeper x.shown.shape o (Int w) rep
      → LineDone version z p (before ++ line.Put r w ∷ []) (line.Put r w) s mid (said rep) new
  bound r w rep quiet count p s before x left_old left_new one serial labels given_few None key (bad, same) =
      nothing_done version z p s mid new x _ (line.Put r w) (said rep)
      (subst (λ (o : Option Label). WithKey o s (said rep) s (λ k. (said rep ≡ reply.Done) × (s.registers ≡ s.registers) × (s.slots ≡ s.slots) × Binds k (Int w) s.bindings s.bindings)) (sym key) (ap said bad, refl)) tt tt
      (count ∙ ap (λ (n : ℕ). refusals mid + n) (sym (said_full rep))) same
  bound r w rep quiet count p s before x left_old left_new one serial labels given_few (Some k) key (inl (done, g)) =
      let none : refusals new ≡ refusals mid = (let e : refusals new ≡ refusals mid + 0 = count ∙ ap (λ (a : Reply). refusals mid + full_of a) done in omega (arith, e)) in
      subst (λ (a : Reply). LineDone version z p (before ++ line.Put r w ∷ []) (line.Put r w) s mid (said a) new) (sym done)
      (put_done version z limits p s mid new x (omega (arith, quiet)) (λ q high. g.writes.settled.high q high (x.others q high)) _ r w k key g none)
  bound r w rep quiet count p s before x left_old left_new one serial labels given_few (Some k) key (inr (full, stays)) =
      let more : refusals new ≡ refusals mid + 1 = count ∙ ap (λ (a : Reply). refusals mid + full_of a) full in
      let few : writings new ≤ writings mid = omega (arith, quiet) in
      let others : (q : ℕ) → 8 ≤ q → held_in z new q ≡ Nothing = λ q high. stays.writes.settled.high q high (x.others q high) in
      let t = stays_left version z limits p s mid new x few others stays in
      subst (λ (a : Reply). LineDone version z p (before ++ line.Put r w ∷ []) (line.Put r w) s mid (said a) new) (sym full)
      (line_ends version z p _ (line.Put r w) s mid reply.Full t new
      (record {
        left = t;
        goes = stays_goes version z limits p s mid new x few others stays;
        does = inr (refl, refl, may_refuse version z limits mid new left_old left_new before (line.Put r w) one stays.writes.goes.legal stays.writes.goes.grows (omega (arith, more)) serial labels given_few (put_makes version) t (k, key));
      })
      tt tt stays.writes.goes.grows more (stays_stands version z limits p s mid new x few others stays))

-- `put R V`
pub put_made : (version : Version) (z : Sizes) (limits : IsWithinLimits z) (old mid new : List Entry) (r : ℕ) (w : ℤ) (a rep : Reply) → 1 ≤ r → r ≤ 5 → Performed z old mid (PutInt 0 w) a → writings new ≡ writings mid → refusals new ≡ refusals mid + full_of rep
    → PutsAt version z mid new 6 r 0 rep → (p : Places) (s : TableState) (before : List TableLine) → Stands version z p s old → (left_old left_new : ℕ) → z.domains ≡ 1 → (domain_at (state_of z new) 0).serial + left_new ≡ 4294967295 → left_old ≤ left_new + made_by_put version → HasGiven version left_old before
    → LineDone version z p (before ++ line.Put r w ∷ []) (line.Put r w) s old (said rep) new
put_made version z limits old mid new r w a rep low high q quiet count answer p s before x left_old left_new one serial labels given_few =
    let t = stands_put version z limits old mid w a q p s x in
    let y : Stands version z p t.0 mid = t.2 in
    let answered = subst (λ (o : Option Label). PutAnswers version z mid new p.keeper y.shown.shape o (Int w) rep) (held_key version z p t.0 mid y r low high)
    (subst (λ (v : Value). PutAnswers version z mid new p.keeper y.shown.shape (label_of (held_in z mid r)) v rep) t.4 (answer p.keeper y.shown.shape y.keeper_held y.shown.keeper)) in
    line_later version z p _ (line.Put r w) s t.0 old mid (said rep) new t.1 t.5 t.6 (bound version z limits mid new r w rep quiet count p t.0 before y left_old left_new one serial labels given_few (key_in t.0 r) refl answered)

-- what keeps the bindings is held while an integer is put
pub standing_put : (version : Version) (z : Sizes) (limits : IsWithinLimits z) (old mid : List Entry) (w : ℤ) (a : Reply) → Performed z old mid (PutInt 0 w) a → IsStanding version z old → HoldsKeeper version z mid 6
standing_put version z limits old mid w a q x = let t = stands_put version z limits old mid w a q x.places x.state x.stands in standing_keeper version z mid (record { places = x.places; state = t.0; stands = t.2 })

-- `wget D I`
module _ (version : Version) (z : Sizes) (limits : IsWithinLimits z) (mid new : List Entry) (p : Places) (s : TableState) (x : Stands version z p s mid) (d i : ℕ) (key : Option Label) (held : held_in z mid 0 ≡ key_value key) (slot : slice_get s.slots i ≡ Some key) (low : 1 ≤ d) (high : d ≤ 5)
    (after : After z mid new [] (set (registers_of z mid) d (key_value key))) (calm : (state_of z new).mode ≡ Open) where
  abbrev here : TableState
  here = after_with version z limits p s mid new x _ after s.registers

  still : slice_get here.slots i ≡ Some key
  still = emptied_stays (Went z mid new) i (slot_keys (graph_of z mid) p.slots) (slot_keys (graph_of z new) p.slots) key
      (keys_emptied (Went z mid new) [] (graph_of z mid) (graph_of z new) after.changes p.slots (λ l h. refl) x.shown.array.weak) (λ k is went. went.unheld 0 0 (held ∙ ap key_value is))
      (ap (λ (ks : List (Option Label)). slice_get ks i) x.shown.slots_are ∙ slot)

  reads : ReadsSlot here (said (shown (key_value key))) (with_key here d key) d (Some key)
  reads = go key
    where
      go : (o : Option Label) → ReadsSlot here (said (shown (key_value o))) (with_key here d o) d (Some o)
      go None = (refl, refl)
      go (Some k) = (refl, refl)

  pub copied : (lines : List TableLine) → refusals new ≡ refusals mid → LineDone version z p lines (line.GetWeak d i) s mid (said (shown (key_value key))) new
  copied lines none =
      let y = stands_set version z limits p s mid new x d low high key after (λ k is. after_key version z limits p s mid new x _ after k (inr (inr (i, slot ∙ ap Some is)))) in
      line_ends version z p lines (line.GetWeak d i) s mid (said (shown (key_value key))) (with_key here d key) new
      (record { left = here; goes = after_goes version z limits p s mid new x _ after _ y calm; does = inl (subst (λ (o : Option (Option Label)). ReadsSlot here (said (shown (key_value key))) (with_key here d key) d o) (sym still) reads) })
      tt tt after.grows (none ∙ full_none key (refusals mid)) y
    where
      full_none : (o : Option Label) (n : ℕ) → n ≡ n + full_in (said (shown (key_value o)))
      full_none None n = omega arith
      full_none (Some k) n = omega arith

slot_read : (version : Version) (z : Sizes) (limits : IsWithinLimits z) (old mid new : List Entry) (d i : ℕ) (rep b : Reply) → i < 16 → 1 ≤ d → d ≤ 5 → writings mid ≤ writings old + 0 → refusals mid ≡ refusals old + full_of rep → Performed z mid new (Copy d 0) b
    → (p : Places) (s : TableState) (lines : List TableLine) (x : Stands version z p s old) → (e : Option Label) → slice_get p.slots i ≡ e → SlotAnswers z old mid p.array p.slots 0 i e rep → LineDone version z p lines (line.GetWeak d i) s old (said rep) new
slot_read version z limits old mid new d i rep b below low high quiet count q p s lines x None at answer = absurd (let few = past_end p.slots i at in let sixteen = x.sixteen in omega (arith, few, sixteen, below))
slot_read version z limits old mid new d i rep b below low high quiet count q p s lines x (Some e) at g =
    let few : writings mid ≤ writings old = omega (arith, quiet) in
    let goes = g.reads.goes in
    let t = left version z limits p s old mid x goes few in
    let others = others_clean z old mid x.others (λ q high. g.keeps q (λ e. absurd (omega arith)) (λ e. absurd (omega arith)) (λ e. absurd (omega arith)) (λ e. absurd (omega arith))) g.clean in
    let y : Stands version z p t mid = read_stands version z limits p s old mid x goes few others in
    let c = copy_step z limits mid new b d 0 (key_value g.key) g.holds q in
    let shows : full_of rep ≡ 0 = ap full_of g.answers ∙ none_full g.key in
    let first : refusals mid ≡ refusals old = omega (arith, count, shows) in
    let last : refusals new ≡ refusals mid + 0 = performed_refusals z mid new (Copy d 0) b q ∙ ap (λ (a : Reply). refusals mid + full_of a) c.1 in
    subst (λ (a : Reply). LineDone version z p lines (line.GetWeak d i) s old (said a) new) (sym g.answers)
    (line_later version z p lines (line.GetWeak d i) s t old mid (said (shown (key_value g.key))) new (read_goes version z limits p s old mid x goes few others g.clean.calm) goes.grows first
    (copied version z limits mid new p t y d i g.key g.holds g.still low high c.0 (step_open z limits mid new (Copy d 0) b q refl) lines (omega (arith, last))))
  where
    none_full : (o : Option Label) → full_of (shown (key_value o)) ≡ 0
    none_full None = refl
    none_full (Some k) = refl

pub slot_got : (version : Version) (z : Sizes) (limits : IsWithinLimits z) (old mid new : List Entry) (d i : ℕ) (rep b : Reply) → i < 16 → 1 ≤ d → d ≤ 5 → writings mid ≤ writings old + 0 → refusals mid ≡ refusals old + full_of rep → Performed z mid new (Copy d 0) b
    → ((root : Label) (slots : List Label) → held_in z old 7 ≡ Block root → IsWeakArray (graph_of z old) root slots → SlotAnswers z old mid root slots 0 i (slice_get slots i) rep)
    → (p : Places) (s : TableState) (lines : List TableLine) → Stands version z p s old → LineDone version z p lines (line.GetWeak d i) s old (said rep) new
slot_got version z limits old mid new d i rep b below low high quiet count q answer p s lines x =
    slot_read version z limits old mid new d i rep b below low high quiet count q p s lines x (slice_get p.slots i) refl (answer p.array p.slots x.array_held x.shown.array)

-- what keeps the bindings is held while register 0 is emptied
pub standing_forgot : (version : Version) (z : Sizes) (limits : IsWithinLimits z) (old mid : List Entry) (a : Reply) → Performed z old mid (Forget 0) a → IsStanding version z old → HoldsKeeper version z mid 6
standing_forgot version z limits old mid a q x =
    let t = forget_step z limits old mid a 0 q in
    standing_keeper version z mid (record { places = x.places; state = _; stands = stands_zero version z limits x.places x.state old mid x.stands Nothing t.0 })

-- register 0 is emptied, and then a map is swept
module _ (z : Sizes) (limits : IsWithinLimits z) (mid swept : List Entry) (p : Places) (t : TableState) where
  -- what a sweep leaves
  pub record AfterSweep (version : Version) : Type 0 where
    pub left : TableState
    pub goes : MayGo t left
    pub stands : Stands version z p left swept
    pub grows : IsPrefix mid swept
    pub calm : (state_of z swept).mode ≡ Open
    pub zero : held_in z swept 0 ≡ Nothing
    pub swept_is : IsSwept version stands.shown.shape (graph_of z swept) p.keeper

  pub after_sweep : (version : Version) → Stands version z p t mid → (state_of z mid).mode ≡ Open → held_in z mid 0 ≡ Nothing → writings swept ≡ writings mid → SweepAnswers version z mid swept 6 → AfterSweep version
  after_sweep One y calm zero quiet same = record {
    left = t;
    goes = may_same t;
    stands = subst (Stands One z p t) (sym same) y;
    grows = subst (IsPrefix mid) (sym same) (prefix_self mid);
    calm = ap (λ (h : List Entry). (state_of z h).mode) same ∙ calm;
    zero = ap (λ (h : List Entry). held_in z h 0) same ∙ zero;
    swept_is = tt;
  }
  after_sweep Two y calm zero quiet cleans =
      let c = cleans p.keeper y.keeper_held (listed z mid p.keeper y.shown.keeper) in
      let few : writings swept ≤ writings mid = omega (arith, quiet) in
      let w = map_stays z mid swept p.keeper y.shown.shape c.stays in
      let others : (q : ℕ) → 8 ≤ q → held_in z swept q ≡ Nothing = λ q high. c.stays.settled.high q high (y.others q high) in record {
        left = stays_left Two z limits p t mid swept y few others w;
        goes = stays_goes Two z limits p t mid swept y few others w;
        stands = stays_stands Two z limits p t mid swept y few others w;
        grows = c.stays.writes.goes.grows;
        calm = c.stays.settled.calm;
        zero = c.stays.keeps 0 (omega arith) ∙ zero;
        swept_is = c.tidy;
      }

-- a complete collection, where no datum is left without its key
collected : (version : Version) (z : Sizes) (limits : IsWithinLimits z) (mid new : List Entry) (b : Reply) → z.domains ≡ 1 → all_registered 0 (opening z) mid ≡ [] → Performed z mid new FullMajor b → (state_of z mid).mode ≡ Open → (p : Places) (t : TableState) (lines : List TableLine) (y : Stands version z p t mid)
    → held_in z mid 0 ≡ Nothing → IsSwept version y.shown.shape (graph_of z mid) p.keeper → LineDone version z p lines line.FullMajor t mid reply.Done new
collected version z limits mid new b one quiet w calm p t lines y zero swept =
    let second = full_major_step z limits mid new b w in
    let u = after_with version z limits p t mid new y _ second.0 t.registers in
    let given_none : full_of b ≡ 0 = performed_given z limits mid new FullMajor b w in
    let count = performed_refusals z mid new FullMajor b w in
    let last : Stands version z p u new = stands_reading version z limits p t mid new y second.0 in
    let still : IsSwept version last.shown.shape (graph_of z new) p.keeper = swept_as version y.shown.shape last.shown.shape (graph_of z new) p.keeper (swept_lasts (Went z mid new) (graph_of z mid) (graph_of z new) second.0.changes version y.shown.shape z.domains p.keeper y.shown.keeper swept) in
    let all_gone : AllGone u = left_held version z limits mid new b one quiet w calm p t u y zero last still refl second.1 in
    line_ends version z p lines line.FullMajor t mid reply.Done u new (record { left = u; goes = after_goes_by version z limits p t mid new y _ second.0 (λ k there. ⊎_elim (λ bound. all_gone.bindings k bound) (λ slot. all_gone.slots k slot) there); does = inl (refl, refl, all_gone) })
    tt tt second.0.grows (omega (arith, count, given_none)) last

-- `full_major`
pub gone : (version : Version) (z : Sizes) (limits : IsWithinLimits z) (old mid swept new : List Entry) (a b : Reply) → z.domains ≡ 1 → all_registered 0 (opening z) swept ≡ [] → Performed z old mid (Forget 0) a → SweepAnswers version z mid swept 6 → writings swept ≡ writings mid → refusals swept ≡ refusals mid
    → Performed z swept new FullMajor b → (p : Places) (s : TableState) (lines : List TableLine) → Stands version z p s old → LineDone version z p lines line.FullMajor s old reply.Done new
gone version z limits old mid swept new a b one quiet q sweeps written given w p s lines x =
    let first = forget_step z limits old mid a 0 q in
    let t = after_with version z limits p s old mid x _ first.0 s.registers in
    let y : Stands version z p t mid = stands_zero version z limits p s old mid x Nothing first.0 in
    let zero : held_in z mid 0 ≡ Nothing = set_here z limits old old mid 0 Nothing first.0.registers_are (omega arith) in
    let none : refusals mid ≡ refusals old + 0 = performed_refusals z old mid (Forget 0) a q ∙ ap (λ (r : Reply). refusals old + full_of r) first.1 in
    let k = after_sweep z limits mid swept p t version y (step_open z limits old mid (Forget 0) a q refl) zero written sweeps in
    line_later version z p lines line.FullMajor s t old mid reply.Done new (after_goes version z limits p s old mid x _ first.0 s.registers y (step_open z limits old mid (Forget 0) a q refl)) first.0.grows (omega (arith, none))
    (line_later version z p lines line.FullMajor t k.left mid swept reply.Done new k.goes k.grows given
    (collected version z limits swept new b one quiet w k.calm p k.left lines k.stands k.zero k.swept_is))
