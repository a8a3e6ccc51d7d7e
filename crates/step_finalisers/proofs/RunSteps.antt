-- The run of a finaliser keeps the rule.
use Rattle.std.proofs.Common.{◌≡◌, ◌≢◌, ℕ, ◌<◌, ne_eqb, List, [], ◌∷◌, ◌++◌, length, get_or, set, slice_get, Some, None, inl, sym, refl, ap, ◌∙◌, subst, arith, get_or-set_same, length-set}
use Rattle.std.specs.Prelude.{remove}
use mathlib.Core.Option.{some}
use lib.ListN.{get_elem?}
use Rattle.atomic_table.specs.Table.{keeps}
use Rattle.model_core.specs.declared.entry.Entry.{Entry}
use Rattle.model_core.specs.declared.entry.Entry.TheVariants.{Ran}
use Rattle.model_core.specs.declared.graph.Value as graph_value
use Rattle.model_core.specs.declared.graph.Value.TheVariants.{Block, Nothing as GraphNothing}
use Rattle.model_core.specs.declared.reply.Applied.{Applied}
use Rattle.model_core.specs.declared.reply.Applied.TheVariants.{Replied}
use Rattle.model_core.specs.declared.reply.Reply.TheVariants.{Fin as FinReply, Last as LastReply}
use Rattle.model_core.specs.declared.state.DomainState.{DomainState}
use Rattle.model_core.specs.declared.state.Pending.{Pending}
use Rattle.model_core.specs.declared.state.Pending.TheVariants.{Fin as FinPending, Last as LastPending}
use Rattle.model_core.specs.declared.state.State as model
use Rattle.model_core.specs.Domains.{domain_at, no_domain, register, with_domain, with_register, IsShaped}
use Rattle.model_core.specs.Entries.{after_run, next, run_reply, without_first}
use Rattle.model_core.proofs.Histories.ShapeAfterLemmas.{shaped-history}
use Rattle.model_cycle.specs.Beside.{Snapshot}
use Rattle.model_cycle.proofs.Beside.{beside_law}
use Rattle.heap_words.specs.declared.value.Value.{Value}
use Rattle.heap_words.specs.declared.value.Value.TheVariants.{Ref}
use Rattle.heap_rule.specs.declared.config.Config.{Config}
use Rattle.heap_rule.specs.declared.view.DomainView.{DomainView}
use Rattle.heap_rule.specs.declared.view.Finalisers.{Finalisers}
use Rattle.heap_rule.specs.declared.view.Waiting.{Waiting}
use Rattle.heap_rule.specs.declared.view.Waiting.TheVariants.{Fin, Last}
use Rattle.heap_rule.specs.Changes.{value_at}
use Rattle.heap_rule.specs.Finalisers.{Paired, StandsFinal, StandsLast, StandsWaiting}
use Rattle.heap_rule.specs.Limits.{sizes_in}
use Rattle.heap_rule.specs.Places.{Stands}
use Rattle.heap_rule.specs.Raw.{MayStep}
use Rattle.heap_rule.specs.Rule.{Rule, Stood, state_of}
use Rattle.heap_rule.specs.Token.{OwnFits}
use Rattle.heap_rule.specs.Views.{one}
use Rattle.heap_rule.proofs.FinaliserLemmas.{paired_get, paired_length}
use Rattle.heap_rule.proofs.Advancing.{Advance, advances_by, owes_nothing, underway_here}
use Rattle.heap_rule.proofs.Keeps.{Words, after_entry, more_same, my_good, unmoved}
use Rattle.heap_rule.proofs.Values.{AllStand, stand_set}
use Rattle.step_finalisers.specs.Running.{AnswersRun, HasRegister, RunMay, RunTold, ran_own, registers_after}
use Rattle.step_finalisers.proofs.WorkSteps.{Works, inside_state, now, now_open, running, worked, works_answers, works_holds, works_rule}

-- a queue with a first finaliser
head_of : {A : Type 0} (xs : List A) (x : A) → slice_get xs 0 ≡ Some x → (rest : List A) × (xs ≡ x ∷ rest)
head_of [] x e = cc
head_of (y ∷ ys) x e = let same : y ≡ x = cc in (ys, ap (λ z. z ∷ ys) same)

module _ (k : Config) (s : Words) (r : Rule k s) (id : ℕ) (hist : List Entry) (x : DomainView) (at : get_elem? s.views id ≡ some (one k hist x)) (first : Waiting) (may : RunMay k x first) (few : HasRegister first) where
  open x use {own.{number as d}}
  open r.account use {live}

  abbrev t : model.State
  t = now k s r id hist x at may.goes_on

  abbrev e : Entry
  e = Ran d

  inside : d < length t.domains
  inside = inside_state k s r id hist x at may.goes_on

  shaped : IsShaped t
  shaped = shaped-history (sizes_in k) r.account.log r.limits

  st : Stood live t x
  st = (my_good k s r id hist x at).stood

  registers_stand : AllStand live x.own.registers (domain_at t d).registers
  registers_stand = record { wide = st.wide; long = shaped.register_count d inside; each = st.each }

  abbrev fs : Finalisers
  fs = (ran_own first x.own).finalisers

  abbrev regs : List Value
  regs = registers_after first x.own.registers

  abbrev y : DomainView
  y = worked k s r id hist x at may.goes_on e regs fs

  -- a cycle beside running domains goes on: what the register gets the queue kept alive
  advance : Advance k s r id hist x at e None live
  advance =
      let goes = may.goes_on in
      let past : Snapshot = r.account.cycling.past in
      advances_by k s r id hist x at goes.runs e None live past.owed (more_same live) (λ is. (underway_here k s r id hist x at goes.runs is).young) (inl refl) (λ _ _ _. refl) (λ is q. owes_nothing k s r id hist x at goes.runs goes.paid is q)
      (λ is. beside_law.runs past r.account.cycling.paint.marks t (underway_here k s r id hist x at goes.runs is).covered d)

  -- what the run answers, and that its block is in its register
  pub record Outcome (answer : Applied) : Type 0 where
    pub works : Works k s r id hist x at may.goes_on e regs fs answer
    pub says : AnswersRun k first y answer
    pub due : (domain_at (state_of k (r.account.log ++ e ∷ [])) d).due ≡ length fs.queue.items

  -- the domain without its first finaliser, in whose place the rest owes
  module _ (p : Pending) (rest : List Pending) (queue_is : (domain_at t d).queue ≡ p ∷ rest) where
    abbrev u : DomainState
    u = without_first (domain_at t d) rest

    abbrev ran : model.State
    ran = with_domain t d u

    here : domain_at ran d ≡ u
    here = get_or-set_same t.domains d u no_domain inside

    after : next t e ≡ after_run t d (p ∷ rest)
    after = ap (after_run t d) queue_is

    rest_stands : Paired (StandsWaiting live) fs.queue.items rest
    rest_stands = tail x.own.finalisers.queue.items (domain_at t d).queue queue_is st.enrolled.queue
      where
        tail : (xs : List Waiting) (ys : List Pending) → ys ≡ p ∷ rest → Paired (StandsWaiting live) xs ys → Paired (StandsWaiting live) (remove xs 0) rest
        tail [] [] is q = cc
        tail [] (z ∷ ys) is q = absurd q
        tail (w ∷ xs) [] is q = absurd q
        tail (w ∷ xs) (z ∷ ys) is q = let same : ys ≡ rest = cc in subst (Paired (StandsWaiting live) xs) same q.1

    nonempty : (domain_at t d).queue ≢ []
    nonempty none = let clash : p ∷ rest ≡ [] = sym queue_is ∙ none in cc

    -- what the run leaves: the registers, and all else of the domain as it was
    module _ (v : DomainState) (final : model.State) (last_is : after_run t d (p ∷ rest) ≡ final) (domain_is : domain_at final d ≡ v) (serial : v.serial ≡ (domain_at t d).serial) (finals : v.finals ≡ (domain_at t d).finals) (lasts : v.lasts ≡ (domain_at t d).lasts) (queue : v.queue ≡ rest)
        (graph : final.graph ≡ t.graph) (mode : final.mode ≡ t.mode) (stands : AllStand live regs v.registers) (answer : Applied) (replies : run_reply (p ∷ rest) ≡ answer) where
      whole : next t e ≡ final
      whole = after ∙ last_is

      stood' : Stood live final y
      stood' = record {
        wide = stands.wide;
        each = λ q low. subst (λ (z : DomainState). Stands live (value_at regs q) (get_or z.registers q GraphNothing)) (sym domain_is) (stands.each q low);
        serial = st.serial ∙ (sym serial ∙ ap (λ (z : DomainState). z.serial) (sym domain_is));
        enrolled = record {
          finals = subst (Paired (StandsFinal live) fs.finals.items) (sym (ap (λ (z : DomainState). z.finals) domain_is ∙ finals)) st.enrolled.finals;
          lasts = subst (Paired (StandsLast live) fs.lasts.items) (sym (ap (λ (z : DomainState). z.lasts) domain_is ∙ lasts)) st.enrolled.lasts;
          queue = subst (Paired (StandsWaiting live) fs.queue.items) (sym (ap (λ (z : DomainState). z.queue) domain_is ∙ queue)) rest_stands;
        };
      }

      runs : Works k s r id hist x at may.goes_on e regs fs answer
      runs = record {
        alone = λ i other. ne_eqb d i (λ q. other (sym q));
        of_trace = tt;
        allowed = record { mode = now_open k s r id hist x at may.goes_on; running = running k s r id hist x at may.goes_on; queue = nonempty };
        is_open = ap (λ (z : model.State). z.mode) whole ∙ (mode ∙ now_open k s r id hist x at may.goes_on);
        graph = ap (λ (z : model.State). z.graph) whole ∙ graph;
        advance = advance;
        stood = subst (λ (z : model.State). Stood live z y) (sym whole) stood';
        replies = ap run_reply queue_is ∙ replies;
      }

  -- the state's queue has a first one too, that stands for it
  module _ (p : Pending) (stands : StandsWaiting live first p) (rest : List Pending) (queue_is : (domain_at t d).queue ≡ p ∷ rest) where
    outcome : (w : Waiting) (q : Pending) → first ≡ w → p ≡ q → StandsWaiting live w q → (answer : Applied) × Outcome answer
    outcome (Fin address number g) (FinPending m l h) is named fit =
        let same_first : first ≡ Fin address number g = is in
        let u : DomainState = without_first (domain_at t d) rest in
        let ran : model.State = with_domain t d u in
        let here : domain_at ran d ≡ u = get_or-set_same t.domains d u no_domain inside in
        let v : DomainState = record (domain_at ran d) { registers = set (domain_at ran d).registers h (Block l) } in
        let final : model.State = with_register ran d h (Block l) in
        let inside_ran : d < length ran.domains = subst (λ (n : ℕ). d < n) (sym (length-set t.domains d u)) inside in
        let domain_is : domain_at final d ≡ v = get_or-set_same ran.domains d v no_domain inside_ran in
        let low : g < 16 = subst HasRegister same_first few in
        let set_stands : AllStand live (set x.own.registers g (Ref address)) (set (domain_at t d).registers g (Block l)) = stand_set live x.own.registers (domain_at t d).registers g (Ref address) (Block l) low (fit.0.0, fit.0.1, fit.0.2) registers_stand in
        let stand : AllStand live regs v.registers = subst (λ (z : List Value × List graph_value.Value). AllStand live z.0 z.1)
        (λ i. (ap (λ (z : Waiting). registers_after z x.own.registers) (sym same_first) i, ((λ j. set (domain_at t d).registers (fit.2 j) (Block l)) ∙ ap (λ (z : DomainState). set z.registers h (Block l)) (sym here)) i)) set_stands in
        let queue' : (domain_at t d).queue ≡ FinPending m l h ∷ rest = queue_is ∙ ap (λ (z : Pending). z ∷ rest) named in
        let answer : Applied = Replied (FinReply m l) in
        let works = runs (FinPending m l h) rest queue' v final refl domain_is (ap (λ (z : DomainState). z.serial) here) (ap (λ (z : DomainState). z.finals) here) (ap (λ (z : DomainState). z.lasts) here) (ap (λ (z : DomainState). z.queue) here) refl refl stand answer refl in
        let wide : length (domain_at ran d).registers ≡ 16 = ap (λ (z : DomainState). length z.registers) here ∙ registers_stand.long in
        let same_register : g ≡ h = fit.2 in
        let holds_block : register final d h ≡ Block l = ap (λ (z : DomainState). get_or z.registers h GraphNothing) domain_is ∙ get_or-set_same (domain_at ran d).registers h (Block l) GraphNothing (let n : ℕ = length (domain_at ran d).registers in let w16 : n ≡ 16 = wide in let gl : g < 16 = low in let sr : g ≡ h = same_register in omega arith) in
        let state_is : state_of k (r.account.log ++ e ∷ []) ≡ final = after_entry k s r id hist x at e ∙ (ap (after_run t d) queue') in (
          answer,
          record {
            works = works;
            due = ap (λ (z : model.State). (domain_at z d).due) state_is ∙ (ap (λ (z : DomainState). z.due) domain_is ∙ (ap (λ (z : DomainState). z.due) here ∙ paired_length (StandsWaiting live) fs.queue.items rest (rest_stands (FinPending m l h) rest queue')));
            says = subst (λ (z : Waiting). AnswersRun k z y answer) (sym same_first)
                (l, ap (λ (z : ℕ). register (state_of k (r.account.log ++ e ∷ [])) d z) same_register ∙ (ap (λ (z : model.State). register z d h) state_is ∙ holds_block), ap (λ (n : ℕ). Replied (FinReply n l)) (sym fit.1));
          },
        )
    outcome (Fin address number g) (LastPending m) is named fit = absurd fit
    outcome (Last number) (FinPending m l h) is named fit = absurd fit
    outcome (Last number) (LastPending m) is named fit =
        let u : DomainState = without_first (domain_at t d) rest in
        let ran : model.State = with_domain t d u in
        let here : domain_at ran d ≡ u = get_or-set_same t.domains d u no_domain inside in
        let queue' : (domain_at t d).queue ≡ LastPending m ∷ rest = queue_is ∙ ap (λ (z : Pending). z ∷ rest) named in
        let stand : AllStand live regs u.registers = subst (λ (z : Waiting). AllStand live (registers_after z x.own.registers) u.registers) (sym is) registers_stand in
        let answer : Applied = Replied (LastReply m) in (
          answer,
          record {
            due = ap (λ (z : model.State). (domain_at z d).due) (after_entry k s r id hist x at e ∙ ap (after_run t d) queue') ∙ (ap (λ (z : DomainState). z.due) here ∙ paired_length (StandsWaiting live) fs.queue.items rest (rest_stands (LastPending m) rest queue'));
            works = runs (LastPending m) rest queue' u ran refl here refl refl refl refl refl refl stand answer refl;
            says = subst (λ (z : Waiting). AnswersRun k z y answer) (sym is) (ap (λ (n : ℕ). Replied (LastReply n)) (sym fit));
          },
        )

  pub ran_outcome : (answer : Applied) × Outcome answer
  ran_outcome =
      let q = paired_get (StandsWaiting live) x.own.finalisers.queue.items (domain_at t d).queue 0 first st.enrolled.queue may.is_first in
      let h = head_of (domain_at t d).queue q.0 q.1 in
      outcome q.0 q.2 h.0 h.1 first q.0 refl refl q.2

  pub ran_rule : Rule k record { words = s.words; homes = s.homes; views = set s.views id (one k hist y) }
  ran_rule = works_rule k s r id hist x at may.goes_on e regs fs ran_outcome.0 ran_outcome.1.works

  pub ran_told : RunTold k first x y
  ran_told = let o = ran_outcome in record {
    answer = o.0;
    answers = works_answers k s r id hist x at may.goes_on e regs fs o.0 o.1.works;
    says = o.1.says;
    view = refl;
    holds = works_holds k s r id hist x at may.goes_on e regs fs o.0 o.1.works;
    due = o.1.due;
  }

-- the register of the first finaliser is one
pub first_register : (k : Config) (x : DomainView) (first : Waiting) → OwnFits k x.own → slice_get x.own.finalisers.queue.items 0 ≡ Some first → HasRegister first
first_register k x (Fin a n g) fits is = fits.finalisers.queued_registers 0 a n g is
first_register k x (Last n) fits is = tt

pub run_may : (k : Config) (x : DomainView) (word : ℕ) (first : Waiting) → RunMay k x first → MayStep k x word (λ n. n) (λ z _ y. RunTold k first z y)
run_may k x word first may fits slots id hist s r _ at _ =
    let few = first_register k x first fits may.is_first in
    let y : DomainView = worked k s r id hist x at may.goes_on (Ran x.own.number) (registers_after first x.own.registers) (ran_own first x.own).finalisers in (
      one k hist y,
      keeps,
      tt,
      unmoved k s word (set s.views id (one k hist y)) (ran_rule k s r id hist x at first may few),
      (ran_told k s r id hist x at first may few, refl),
    )
