-- Exchanges of fields keep the rule.
use Rattle.std.proofs.Common.{◌≡◌, ◌≢◌, ℕ, ◌+◌, ◌*◌, ◌<◌, ◌==◌, Bool, true, false, IsTrue, eq-eqb, ne_eqb, List, get_or, set, length, Some, sym, refl, ap, ◌∙◌, subst, ⊎_elim, lt_of_not-le}
use Rattle.std.proofs.lemmas.Bool.{cases_Bool}
use Rattle.std.proofs.lemmas.Option.{same_Some}
use mathlib.Core.Logic.{dite}
use native.Mathlib.Decide.{ℕ_discrete, dec_le}
use mathlib.Core.Option.{some}
use lib.ListN.{get_elem?}
use prog.Atomic.{either}
use Rattle.atomic_table.specs.Table.{keeps}
use Rattle.model_core.specs.declared.command.Command.TheVariants.{Cas}
use Rattle.model_core.specs.declared.entry.Entry.{Entry}
use Rattle.model_core.specs.declared.entry.Entry.TheVariants.{Command}
use Rattle.model_core.specs.declared.label.Label.{Label}
use Rattle.model_core.specs.declared.reply.Applied.TheVariants.{Replied}
use Rattle.model_core.specs.declared.reply.Reply.TheVariants.{Yes, No}
use Rattle.model_core.specs.declared.graph.Value as graph_value
use Rattle.model_core.specs.declared.graph.Value.TheVariants.{Block, Nothing as NothingValue}
use Rattle.model_core.specs.declared.state.State as model
use Rattle.model_core.specs.Commands.{same_value}
use Rattle.model_core.specs.Domains.{domain_at, register}
use Rattle.model_core.proofs.Commands.LeavesLemmas.{leaves_cas_written, leaves_cas_kept}
use Rattle.heap_words.specs.declared.value.Value.{Value}
use Rattle.heap_words.specs.declared.value.Value.TheVariants.{Int as IntWord, Ref, Nothing}
use Rattle.heap_words.specs.Values.{value_word}
use Rattle.heap_words.proofs.WordLemmas.{value_word-injective}
use Rattle.model_cycle.specs.Cover.{field_at as old_field}
use Rattle.model_cycle.proofs.Beside.{beside_law}
use Rattle.heap_rule.specs.declared.change.Change.{Change}
use Rattle.heap_rule.specs.declared.config.Config.{Config}
use Rattle.heap_rule.specs.declared.phase.Kind.TheVariants.{Run}
use Rattle.heap_rule.specs.declared.phase.Stage.TheVariants.{In}
use Rattle.heap_rule.specs.declared.view.DomainView.{DomainView}
use Rattle.heap_rule.specs.declared.view.Known.{Known}
use Rattle.heap_rule.specs.declared.view.Known.TheVariants.{Marked}
use Rattle.heap_rule.specs.Beside.{AllKnown, IsKnown, IsUnaware}
use Rattle.heap_rule.specs.Changes.{value_at, changed}
use Rattle.heap_rule.specs.Layout.{at_address, before_heap}
use Rattle.heap_rule.specs.Places.{Place, Settled, Stands, IsOldAt}
use Rattle.heap_rule.specs.Raw.{MayStep}
use Rattle.heap_rule.specs.Rule.{state_of, Rule}
use Rattle.heap_rule.specs.Views.{one}
use Rattle.heap_rule.proofs.Advancing.{underway_here}
use Rattle.heap_rule.proofs.BesideLemmas.{known_among}
use Rattle.heap_rule.proofs.Blocks.{Field, block_same, field_at}
use Rattle.heap_rule.proofs.ChangeLemmas.{registers_of}
use Rattle.heap_rule.proofs.Entering.{entered_view, enters, may_begin, registers_stand}
use Rattle.heap_rule.proofs.Keeps.{Words, my_good, run_settled, unmoved, whole_here}
use Rattle.heap_rule.proofs.Lists.{got_below}
use Rattle.heap_rule.proofs.Values.{AllStand, not_nothing, packable, stands_block}
use Rattle.step_run.proofs.OfFields.Advances.{EntersPaid, paid_refused, paid_rule}
use Rattle.step_run.proofs.OfFields.StoreSteps.{Written, field_written, written_field}
use Rattle.step_run.proofs.OfFields.ValueSteps.{ValueStore, value_stored}
use Rattle.step_run.specs.Exchange.Exchanges.{ExchangeEntry, ExchangeMay, ExchangeTold}
use Rattle.step_run.proofs.OfExchange.SameValues.{one_value, one_word, same_values}

module _ (k : Config) (s : Words) (r : Rule k s) (id : ℕ) (hist : List Entry) (x : DomainView) (at : get_elem? s.views id ≡ some (one k hist x)) (a old new : ℕ) (remembers : Bool) (changes : List Change) (block i expected item : ℕ)
    (may : ExchangeMay k x a old new remembers changes x.own.number block i expected item) where
  open x use {own.{number as d}}
  open r.account use {live}

  abbrev now : model.State
  now = state_of k r.account.log

  settled : Settled live
  settled = run_settled k s r id hist x at may.acts.runs

  field : (f : Field k s r id hist x at block i) × (f.address ≡ may.target.address)
  field = field_at k s r id hist x at settled (whole_here k s r id hist x at Run tt may.acts.runs) a block i may.target

  abbrev f : Field k s r id hist x at block i
  f = field.0

  abbrev theirs : List graph_value.Value
  theirs = (domain_at now d).registers

  stand : AllStand live x.own.registers theirs
  stand = registers_stand k s r id hist x at may.acts

  -- what is expected, and what is to be stored
  abbrev we : Value
  we = value_at x.own.registers expected

  abbrev ve : graph_value.Value
  ve = register now d expected

  abbrev w : Value
  w = value_at x.own.registers item

  abbrev v : graph_value.Value
  v = register now d item

  expected_full : ve ≢ NothingValue
  expected_full = not_nothing live we ve may.expected_full (stand.each expected may.expects)

  o : Written live now f.place.label f.fields i v f.value
  o = written_field k s r id hist x at may.acts block i item may.target.size f may.from may.full may.suits

  at_is : a ≡ f.address + 2 + i
  at_is = may.target.field ∙ ap (λ (n : ℕ). n + 2 + i) (sym field.1)

  found_is : at_address k s.words a ≡ value_word f.stands.value
  found_is = ap (at_address k s.words) at_is ∙ f.stands.packs

  -- the word that was found is the one expected exactly where the field holds what is expected
  found_same : at_address k s.words a ≡ old → same_value f.value ve ≡ true
  found_same won =
      let same : f.stands.value ≡ we = value_word-injective f.stands.value we (packable k r.limits live r.whole.placed f.stands.value f.value f.stands.stands) (packable k r.limits live r.whole.placed we ve (stand.each expected may.expects)) (sym found_is ∙ (won ∙ may.old_is)) in
      one_value live we f.value ve may.expected_full (subst (λ (z : Value). Stands live z f.value) same f.stands.stands) (stand.each expected may.expects)

  found_else : at_address k s.words a ≢ old → same_value f.value ve ≡ false
  found_else lost = ⊎_elim
      (λ (e : same_value f.value ve ≡ true).
      let same : f.value ≡ ve = same_values f.value ve e in
      let one : f.stands.value ≡ we = one_word k live r.whole.placed settled f.stands.value we ve (subst (Stands live f.stands.value) same f.stands.stands) (stand.each expected may.expects) in
      absurd (lost (found_is ∙ (ap value_word one ∙ sym may.old_is))))
      (λ (e : same_value f.value ve ≡ false). e)
      (cases_Bool (same_value f.value ve))

  -- what the field referred to when the roots had been darkened is marked, where it is overwritten
  expected_marked : IsTrue r.account.cycling.armed → (y : Label) → ve ≡ Block y → IsTrue (r.account.cycling.paint.marks.marked y)
  expected_marked is y holds =
      of_word we refl
    where
      of_block : (b : ℕ) → we ≡ Ref b → IsTrue (r.account.cycling.paint.marks.marked y)
      of_block b e =
          let t = stands_block live b ve (subst (λ (z : Value). Stands live z ve) e (stand.each expected may.expects)) in
          let label : t.1.label ≡ y = block_same t.1.label y (ap Block t.4 ∙ (sym t.2 ∙ holds)) in
          let sharing = (my_good k s r id hist x at).sharing in
          subst (λ (l : Label). IsTrue (r.account.cycling.paint.marks.marked l)) label (dite (dec_le b (k.pools * 4096))
          (λ (low : IsOldAt k b). ⊎_elim
          (λ (none : x.seen.share.armed ≡ Some false). absurd (let clash : false ≡ true = (sharing.leading.armed false none).1 ∙ is in cc))
          (λ (known : (c : ℕ) → we ≡ Ref c → IsOldAt k c → IsKnown x.seen.share.known (Marked c)). ⊎_elim
          (λ (u : IsUnaware x.seen.share). absurd (subst (λ (l : List Known). IsKnown l (Marked b)) u.0 (known b e low)))
          (λ (u : (x.seen.stage ≡ In Run) × IsTrue r.account.cycling.armed × AllKnown k live r.account.tenancy.holder r.account.cycling.past.old r.account.cycling.paint.marks.marked s.words x.seen.share.known).
          let m = known_among k live r.account.tenancy.holder r.account.cycling.past.old r.account.cycling.paint.marks.marked s.words x.seen.share.known (Marked b) u.2 (known b e low) in
          let same : m.place ≡ t.1 = same_Some m.place t.1 (sym m.lives ∙ t.3) in
          subst (λ (p : Place). IsTrue (r.account.cycling.paint.marks.marked p.label)) same m.is_marked)
          sharing.running.knows)
          may.barrier)
          (λ high. (underway_here k s r id hist x at may.acts.runs is).young b t.1 t.3 (lt_of_not-le high)))

      of_word : (z : Value) → we ≡ z → IsTrue (r.account.cycling.paint.marks.marked y)
      of_word (Ref b) e = of_block b e
      of_word (IntWord n) e = absurd (subst (λ (u : graph_value.Value). Stands live (IntWord n) u) holds (subst (λ (z : Value). Stands live z ve) e (stand.each expected may.expects)))
      of_word Nothing e = absurd (may.expected_full e)

  -- what the exchange changes where it finds what is expected
  value_store : at_address k s.words a ≡ old → ValueStore k s r id hist x at a new remembers changes (Cas block i expected item) Yes
  unfolding field o
  value_store won = field_written k s r id hist x at may.acts a new remembers changes block i item may.target field may.from may.full may.suits (Cas block i expected item) Yes may.new_is may.exact may.same refl (may_begin k s r id hist x at may.acts) refl
      (λ is l y found held now_is same was. ⊎_elim
      (λ (marked : IsTrue (r.account.cycling.paint.marks.marked y)). marked)
      (λ (h : old_field now.graph l i ≡ Some (Block y)).
      let value : found ≡ Block y = same_Some found (Block y) (sym now_is ∙ h) in
      expected_marked is y (sym (same_values found ve same) ∙ value))
      (beside_law.reads r.account.cycling.past r.account.cycling.paint.marks now (underway_here k s r id hist x at may.acts.runs is).covered l y i was))
      (leaves_cas_written now d block i expected item ve refl expected_full f.place.label o.before o.after v f.value f.held o.there refl o.takes (found_same won))

  -- and where it doesn't, nothing changes
  kept : at_address k s.words a ≢ old → EntersPaid k s r id hist x at may.acts now.graph (Command d (Cas block i expected item) false) (changed Nothing changes x.own).registers (Replied No)
  kept lost = paid_refused k s r id hist x at may.acts (Cas block i expected item) refl (may_begin k s r id hist x at may.acts) (changed Nothing changes x.own).registers (Replied No)
      (subst (λ (l : List Value). AllStand live l theirs) (sym (ap registers_of may.same)) stand)
      (leaves_cas_kept now d block i expected item ve refl expected_full f.place.label o.before o.after v f.value f.held o.there refl o.takes (found_else lost))

exchanges : (k : Config) (x : DomainView) (word a old new : ℕ) (remembers : Bool) (changes : List Change) (block i expected item : ℕ) → word ≡ before_heap k + a → ExchangeMay k x a old new remembers changes x.own.number block i expected item
    → MayStep k x word (λ n. either (n == old) new n) (ExchangeTold k (Command x.own.number (Cas block i expected item) false) a old remembers changes)
exchanges k x word a old new remembers changes block i expected item place may fits slots id hist s r _ at _ =
    let e : Entry = Command x.own.number (Cas block i expected item) false in
    let found : ℕ = get_or s.words word 0 in
    let found_here : found ≡ at_address k s.words a = ap (λ (n : ℕ). get_or s.words n 0) place in dite (ℕ_discrete found old)
    (λ (won : found ≡ old).
    let t = value_stored k s r id hist x at a new remembers changes (Cas block i expected item) Yes may.acts (value_store k s r id hist x at a old new remembers changes block i expected item may (sym found_here ∙ won)) in
    let becomes : new ≡ either (found == old) new found = sym (ap (λ (b : Bool). either b new found) (eq-eqb found old won)) in (
      one k hist t.0,
      keeps,
      tt,
      subst (λ (n : ℕ × ℕ). Rule k record { words = set s.words n.0 n.1; homes = s.homes; views = set s.views id (one k hist t.0) }) (λ j. (sym place j, becomes j)) t.1,
      (record { won = λ _. t.2; lost = λ differ. absurd (differ won) }, refl),
    ))
    (λ (lost : found ≢ old).
    let o = kept k s r id hist x at a old new remembers changes block i expected item may (λ same. lost (found_here ∙ same)) in
    let regs : List Value = (changed Nothing changes x.own).registers in
    let y : DomainView = entered_view k s r id hist x at may.acts e regs in
    let stays : found ≡ either (found == old) new found = sym (ap (λ (b : Bool). either b new found) (ne_eqb found old lost)) in (
      one k hist y,
      keeps,
      tt,
      subst (λ (n : ℕ). Rule k record { words = set s.words word n; homes = s.homes; views = set s.views id (one k hist y) }) stays
          (unmoved k s word (set s.views id (one k hist y)) (paid_rule k s r id hist x at may.acts e regs (Replied No) o tt)),
      (record { won = λ same. absurd (lost same); lost = λ _. enters k s r id hist x at may.acts (state_of k r.account.log).graph e (Replied No) Nothing changes o.enters }, refl),
    ))

pub exchange_may : (k : Config) (word : ℕ) (x : DomainView) (a old new : ℕ) (remembers : Bool) (e : Entry) (changes : List Change) → word ≡ before_heap k + a → ExchangeEntry k x a old new remembers changes e
    → MayStep k x word (λ n. either (n == old) new n) (ExchangeTold k e a old remembers changes)
exchange_may k word x a old new remembers (Command j (Cas block i expected item) false) changes place may =
    subst (λ (n : ℕ). MayStep k x word (λ m. either (m == old) new m) (ExchangeTold k (Command n (Cas block i expected item) false) a old remembers changes)) (sym may.own)
    (exchanges k x word a old new remembers changes block i expected item place (subst (λ (n : ℕ). ExchangeMay k x a old new remembers changes n block i expected item) may.own may))
exchange_may k word x a old new remembers _ changes place may = absurd may
