-- An own entry of a running domain that changes registers and lists of finalisers, and no word of the heap.
use Rattle.std.proofs.Common.{◌≡◌, ◌≢◌, ℕ, ◌<◌, false, List, [], ◌∷◌, ◌++◌, length, set, None, sym, refl, ap, ◌∙◌, subst}
use mathlib.Core.Option.{some}
use lib.ListN.{get_elem?}
use Rattle.model_core.specs.declared.entry.Entry.{Entry}
use Rattle.model_core.specs.declared.reply.Applied.{Applied}
use Rattle.model_core.specs.declared.state.Mode.TheVariants.{Open}
use Rattle.model_core.specs.declared.state.State as model
use Rattle.model_core.specs.Domains.{domain_at}
use Rattle.model_core.specs.Entries.{Allowed, next, reply}
use Rattle.model_core.specs.Fronts.{Answers}
use Rattle.model_core.specs.History.{is_entry_of}
use Rattle.model_core.proofs.Commands.FrameLemmas.{inside_running}
use Rattle.model_core.proofs.Histories.FrontLemmas.{answers_push}
use Rattle.heap_words.specs.declared.value.Value.{Value}
use Rattle.heap_rule.specs.declared.config.Config.{Config}
use Rattle.heap_rule.specs.declared.view.DomainView.{DomainView}
use Rattle.heap_rule.specs.declared.view.Finalisers.{Finalisers}
use Rattle.heap_rule.specs.Limits.{sizes_in}
use Rattle.heap_rule.specs.Rule.{Rule, Stood, state_of}
use Rattle.heap_rule.specs.Standing.{GoesOn, with_front, with_own}
use Rattle.heap_rule.specs.Token.{Holds}
use Rattle.heap_rule.specs.Views.{one}
use Rattle.heap_rule.proofs.Advancing.{Advance}
use Rattle.heap_rule.proofs.Keeps.{IsOfTrace, Words, legal_entry, mine, my_good, own, run_open}
use Rattle.heap_rule.proofs.Sharings.{with_weak}
use Rattle.heap_rule.proofs.Unwritten.{unwritten_rule}
use Rattle.heap_rule.proofs.Values.{holds}

module _ (k : Config) (s : Words) (r : Rule k s) (id : ℕ) (hist : List Entry) (x : DomainView) (at : get_elem? s.views id ≡ some (one k hist x)) (goes_on : GoesOn k x) where
  abbrev pub now : model.State
  now = state_of k r.account.log

  -- a domain that goes on hasn't ended in the state after the whole history, and is one of that state's
  pub running : (domain_at now x.own.number).ended ≡ false
  running = (own k s r id hist x at).ended ∙ goes_on.goes_on

  pub inside_state : x.own.number < length now.domains
  inside_state = inside_running now.domains x.own.number running

  pub now_open : now.mode ≡ Open
  now_open = run_open k s r id hist x at goes_on.runs

  -- the view behind the entry
  abbrev pub worked : Entry → List Value → Finalisers → DomainView
  worked e registers fs = with_front (with_own x (record x.own { registers = registers; finalisers = fs })) (r.account.log ++ e ∷ [])

  -- what it owes
  pub record Works (e : Entry) (registers : List Value) (fs : Finalisers) (answer : Applied) : Type 0 where
    pub alone : (d : ℕ) → d ≢ x.own.number → is_entry_of d e ≡ false
    pub of_trace : IsOfTrace e
    pub allowed : Allowed now e
    pub is_open : (next now e).mode ≡ Open
    pub graph : (next now e).graph ≡ now.graph
    pub stood : Stood r.account.live (next now e) (worked e registers fs)
    pub advance : Advance k s r id hist x at e None r.account.live
    pub replies : reply now e ≡ answer

  module _ (e : Entry) (registers : List Value) (fs : Finalisers) (answer : Applied) (o : Works e registers fs answer) where
    pub works_rule : Rule k record { words = s.words; homes = s.homes; views = set s.views id (one k hist (worked e registers fs)) }
    works_rule = unwritten_rule k s r id hist x at goes_on.runs e registers fs x.seen.share None (ap (with_weak x.seen.share) goes_on.paid) record { alone = o.alone; of_trace = o.of_trace; allowed = o.allowed; is_open = o.is_open; graph = o.graph; stood = o.stood; advance = o.advance }

    pub works_answers : Answers (sizes_in k) x.own.number x.seen.front (r.account.log ++ e ∷ []) e answer
    works_answers = answers_push (sizes_in k) x.own.number r.account.log x.seen.front e answer (mine k s r id hist x at).front (λ _. (my_good k s r id hist x at).still.1 goes_on.runs) (legal_entry k s r id hist x at e o.allowed) o.replies

    pub works_holds : Holds k registers
    works_holds = holds k r.limits r.account.live r.whole.placed (next now e) (worked e registers fs) o.stood
