-- What the clauses of a section refuse: where a clause holds a wrong outcome doesn't, whatever body met it.
use Rattle.std.proofs.Common.{◌≡◌, ◌≢◌, ⊎_elim, ℕ, suc, ◌+◌, ◌<◌, ◌≤◌, ℤ, true, List, [], ◌∷◌, ◌++◌, length, get_or, set, Option, Some, None, refl, ap, sym, ◌∙◌, subst, arith, get_or-set_same}
use Rattle.std.proofs.lemmas.Bool.Decides.{eqb_tells}
use Rattle.model_core.specs.declared.label.Label.{Label}
use Rattle.model_core.specs.declared.command.Command.TheVariants.{Alloc}
use Rattle.model_core.specs.declared.entry.Entry.{Entry}
use Rattle.model_core.specs.declared.graph.Node.TheVariants.{Ephe}
use Rattle.model_core.specs.declared.graph.Value.{Value}
use Rattle.model_core.specs.declared.graph.Value.TheVariants.{Block, Int, Nothing}
use Rattle.model_core.specs.declared.reply.Reply.{Reply}
use Rattle.model_core.specs.declared.reply.Reply.TheVariants as given
use Rattle.model_core.specs.declared.state.Sizes.{Sizes}
use Rattle.model_core.specs.Commands.{shown}
use Rattle.model_core.specs.Domains.{IsWithinLimits}
use Rattle.model_core.specs.Graph.{node_at}
use Rattle.model_core.specs.History.{IsPrefix, is_entry_of}
use Rattle.table_text.specs.declared.line.TableLine.{TableLine}
use Rattle.table_text.specs.declared.line.TableLine.TheVariants.{Forget, Get, Key, Put}
use Rattle.table_text.specs.declared.machine.reply.LineReply.{LineReply}
use Rattle.table_text.specs.declared.machine.reply.LineReply.TheVariants as reply
use Rattle.table_text.specs.Machine.Said.{full_in, said}
use Rattle.table_text.proofs.OfMachine.SaidLemmas.{said_full}
use Rattle.weak_laws.specs.Tables.Performing.{full_of}
use Rattle.weak_laws.specs.Tables.Stages.{graph_of}
use Rattle.weak_laws.specs.Maps.Calls.{GetAnswers, bound_after, value_of}
use Rattle.weak_laws.specs.Maps.Steps.{OthersLeave}
use Rattle.weak_laws.proofs.OfMaps.CallLemmas.{alloc_step, forget_step}
use Rattle.weak_maps.specs.Beside.{held_by, refusals_by}
use Rattle.weak_maps.specs.Crowds.{PutCounts, made_by}
use Rattle.weak_maps.proofs.BesideLemmas.{set_here, sixteen}
use Rattle.weak_maps.proofs.CountLemmas.{refuses_one}
use Rattle.table_sections.specs.Lines.{made_said}
use Rattle.table_sections.specs.Orders.{Keeps, Loses, Sets, SlotStep, SlotsGoInOrder, slot_held}
use Rattle.table_sections.specs.Slots.{IsEight, slot_ephe}
use Rattle.table_sections.specs.Together.{SectionStands}
use Rattle.table_sections.specs.declared.laying.Places.{Places}
use Rattle.table_sections.specs.Sections.{Answers, LineBeside, LineMakes, OfCall, PutMakes, PutsInteger, SectionRuns}
use Rattle.table_sections.proofs.OrderLemmas.{register_place}

-- a line that is answered `full` had its call answered so
full_call : (r : Reply) → reply.Full ≡ said r → full_of r ≡ 1
full_call r is = sym (ap full_in is ∙ said_full r)

-- a put isn't answered `full` where no command of it was refused and it made fewer than seven blocks
pub no_put_is_full_for_nothing : (z : Sizes) (d : ℕ) (old new : List Entry) → made_by z d new < made_by z d old + 7 → refusals_by d new ≡ refusals_by d old → PutMakes z d old new reply.Full → ⊥
no_put_is_full_for_nothing z d old new few same x = by x.reply (full_call x.reply x.written) x.counts
  where
    by : (r : Reply) → full_of r ≡ 1 → PutCounts (made_by z d new) (made_by z d old) (refusals_by d old) (refusals_by d new) r → ⊥
    by given.Full full counts = ⊎_elim (λ one. let more = one.0 in omega (arith, same, more)) (λ none. let all = none.1 in omega (arith, few, all)) counts
    by given.Done full counts = omega (arith, full)
    by given.BadType full counts = omega (arith, full)
    by r full counts = absurd counts

-- nor is it done where one was refused
pub no_refused_put_is_done : (z : Sizes) (d : ℕ) (old new : List Entry) → refusals_by d old < refusals_by d new → PutMakes z d old new reply.Done → ⊥
no_refused_put_is_done z d old new more x = by x.reply x.written x.counts
  where
    by : (r : Reply) → reply.Done ≡ said r → PutCounts (made_by z d new) (made_by z d old) (refusals_by d old) (refusals_by d new) r → ⊥
    by given.Done is counts = let same = counts.0 in omega (arith, more, same)
    by given.Full is counts = cc
    by given.BadType is counts = cc
    by r is counts = absurd counts

-- nor `full` where none was and no other domain uses the map
pub no_put_is_full_alone : (z : Sizes) (root : Label) (d : ℕ) (old new : List Entry) (r : ℕ) (v : ℤ) (k : Label) → held_by z d old r ≡ Block k → OthersLeave z root d old new → refusals_by d new ≡ refusals_by d old → LineBeside z root d old (Put r v) reply.Full new → ⊥
no_put_is_full_alone z root d old new r v k held leave same x =
    let answer : OfCall (PutsInteger z root d old new (Block k) v) reply.Full = subst (λ (w : Value). OfCall (PutsInteger z root d old new w v) reply.Full) held x.answers in
    let full = full_call answer.0 answer.2 in
    let is : answer.0 ≡ given.Full = ⊎_elim (λ done. let none = ap full_of done.0 in absurd (omega (arith, full, none))) (λ refused. refused.0) answer.1.0 in
    let one = (answer.1.1 is).alone leave in
    omega (arith, same, one)

-- a put sets no slot: no entry of it sets a key of an ephemeron of eight keys that there was to another
pub no_put_sets_a_slot : (z : Sizes) (root : Label) (d : ℕ) (old new : List Entry) (r : ℕ) (v : ℤ) (a : LineReply) → LineBeside z root d old (Put r v) a new → (l : Label) → IsEight (graph_of z old) l
    → (front : List Entry) (e : Entry) → IsPrefix old front → IsPrefix (front ++ e ∷ []) new → is_entry_of d e ≡ true → (now : IsEight (graph_of z front) l) (index : ℕ) (key : Option Label) → index < 8 → get_or now.keys index None ≢ key
    → node_at (graph_of z (front ++ e ∷ [])) l ≡ Some (Ephe (set now.keys index key) now.datum) → ⊥
no_put_sets_a_slot z root d old new r v a x l eight front e since until own now index key low other sets =
    ⊎_elim (λ same.
    let both : Some (Ephe (set now.keys index key) now.datum) ≡ Some (Ephe now.keys now.datum) = sym sets ∙ (same ∙ now.node) in
    let keys : set now.keys index key ≡ now.keys = cc in
    let eight_now = now.eight in
    other (ap (λ (ks : List (Option Label)). get_or ks index None) (sym keys) ∙ get_or-set_same now.keys index key None (omega (arith, eight_now, low)))) (λ wrong. wrong)
    (x.spares l eight front e since until own)

-- no line leaves a key in a register that calls use between
pub no_line_keeps_a_key : (z : Sizes) (root : Label) (d : ℕ) (old new : List Entry) (l : TableLine) (a : LineReply) (i : ℕ) (k : Label) → 8 ≤ i → i ≤ 11 → held_by z d old i ≡ Nothing → LineBeside z root d old l a new → held_by z d new i ≡ Block k → ⊥
no_line_keeps_a_key z root d old new l a i k low high none x keeps = let clash : Nothing ≡ Block k = sym (x.clean i low high none) ∙ keeps in cc

-- no slot loses a key that some domain's register holds: it holds it still, unless the entry sets the slot
pub no_held_key_leaves_its_slot : (z : Sizes) (p : Places) (base h : List Entry) → SlotsGoInOrder z p base h → (front : List Entry) (e : Entry) → IsPrefix base front → IsPrefix (front ++ e ∷ []) h
    → (s d r : ℕ) (k : Label) → s < 16 → slot_held z p front s ≡ Some (Some k) → held_by z d front r ≡ Block k → slot_held z p (front ++ e ∷ []) s ≡ Some None → ⊥
no_held_key_leaves_its_slot z p base h order front e since until s d r k few was held none = by (order front e since until)
  where
    stays : slot_held z p (front ++ e ∷ []) s ≡ slot_held z p front s → ⊥
    stays same = let clash : Some (Some k) ≡ Some None = sym was ∙ (sym same ∙ none) in cc

    by : SlotStep z p front e → ⊥
    by (Keeps same) = stays (same s few)
    by (Sets f t q j own low small given set others) =
        ⊎_elim (λ is. let clash : Some (Some j) ≡ Some None = sym set ∙ (ap (slot_held z p (front ++ e ∷ [])) is.1 ∙ none) in cc) (λ other. stays (others s few (λ is. other.1 (sym is)))) (eqb_tells t s)
    by (Loses lost) =
        ⊎_elim stays
        (λ gone. let both : Some (Some k) ≡ Some (Some gone.0) = sym was ∙ gone.1 in let same : k ≡ gone.0 = cc in gone.2 d r (held ∙ ap Block same))
        (lost s few)

-- no domain has slots of its own: where two domains' sections stand, a slot's register holds one ephemeron in both
pub no_domain_has_its_own_slots : (z : Sizes) (p : Places) (base h : List Entry) (d e : ℕ) (ls ms : List TableLine) (rs qs : List LineReply) → (x : SectionStands z p base h d ls rs) → (y : SectionStands z p base h e ms qs)
    → (s : ℕ) → s < 16 → held_by z d x.old (slot_ephe s) ≢ held_by z e y.old (slot_ephe s) → ⊥
no_domain_has_its_own_slots z p base h d e ls ms rs qs x y s few other = other (register_place z p d x.old x.holds s few ∙ sym (register_place z p e y.old y.holds s few))

-- a key is answered `full` exactly where its command was refused
pub no_key_is_full_for_nothing : (z : Sizes) (d : ℕ) (old new : List Entry) (r : ℕ) → Answers z d old new (Alloc r 0 1) made_said reply.Full → refusals_by d new ≡ refusals_by d old + 1
no_key_is_full_for_nothing z d old new r x =
    let refused = refuses_one z d old new (Alloc r 0 1) x.reply x.performed in
    let full = by x.reply x.written in
    omega (arith, refused, full)
  where
    by : (a : Reply) → reply.Full ≡ made_said a → full_of a ≡ 1
    by given.Full is = refl
    by _ is = cc

-- a lookup answers the integer that its key is bound to all the while, and not that it is bound to none
pub no_bound_key_is_missed : (z : Sizes) (root : Label) (d : ℕ) (old new : List Entry) (r : ℕ) (k : Label) (v : ℤ) (a : LineReply) → held_by z d old r ≡ Block k
    → ((front : List Entry) → IsPrefix old front → IsPrefix front new → bound_after z root front k ≡ Some (Int v)) → LineBeside z root d old (Get r) a new → a ≡ reply.Number v
no_bound_key_is_missed z root d old new r k v a held bound x =
    let answer : OfCall (GetAnswers z root d old new (Block k)) a = subst (λ (w : Value). OfCall (GetAnswers z root d old new w) a) held x.answers in
    let got = answer.1.1 in
    let datum : answer.1.0 ≡ Some (Int v) = sym got.bound ∙ bound got.front got.since got.until in
    answer.2 ∙ ap said (answer.1.2 ∙ ap (λ (o : Option Value). shown (value_of o)) datum)

-- no line is left out, and none is made twice
pub no_line_is_left_out : (z : Sizes) (d : ℕ) (old new : List Entry) (lines : List TableLine) (replies : List LineReply) → SectionRuns z d old lines replies new → length replies ≡ length lines
no_line_is_left_out z d old new [] [] runs = refl
no_line_is_left_out z d old new [] (a ∷ replies) runs = absurd runs
no_line_is_left_out z d old new (l ∷ lines) [] runs = absurd runs
no_line_is_left_out z d old new (l ∷ lines) (a ∷ replies) (mid, line, rest) = ap suc (no_line_is_left_out z d mid new lines replies rest)

-- nor are lines made in another order: what makes a key and forgets it isn't what forgets it and makes it
module _ (z : Sizes) (limits : IsWithinLimits z) (d : ℕ) (r : ℕ) (few : r < 16) where
  forgets : (old new : List Entry) (a : LineReply) → LineMakes z d old (Forget r) a new → held_by z d new r ≡ Nothing
  forgets old new a x = set_here z d old new r Nothing (forget_step z d old new x.reply r x.performed).1 (sixteen z d old new _ x.reply x.performed limits) few

  makes : (old new : List Entry) → LineMakes z d old (Key r) reply.Done new → held_by z d new r ≢ Nothing
  makes old new x none =
      ⊎_elim (λ refused. let clash : reply.Done ≡ reply.Full = x.written ∙ ap made_said refused.1.2 in absurd cc)
      (λ granted. let clash : Nothing ≡ Block _ = sym none ∙ set_here z d old new r _ granted.2.1 (sixteen z d old new _ x.reply x.performed limits) few in absurd cc) (alloc_step z d old new x.reply r 0 1 x.performed)

  pub no_other_order : (old new : List Entry) (a b c : LineReply) → SectionRuns z d old (Key r ∷ Forget r ∷ []) (a ∷ b ∷ []) new → SectionRuns z d old (Forget r ∷ Key r ∷ []) (c ∷ reply.Done ∷ []) new → ⊥
  no_other_order old new a b c one other =
      makes other.0 new (subst (LineMakes z d other.0 (Key r) reply.Done) (sym other.2.2) other.2.1.makes) (forgets one.0 new b (subst (LineMakes z d one.0 (Forget r) b) (sym one.2.2) one.2.1.makes))
