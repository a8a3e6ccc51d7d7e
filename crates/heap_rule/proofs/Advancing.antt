-- How the entries of domains go on with a cycle beside running domains.
use Rattle.std.proofs.Common.{◌≡◌, ◌≢◌, ℕ, ◌*◌, ◌<◌, ◌⊎◌, Bool, true, false, IsTrue, List, Option, Some, None, sym, refl, ap, ◌∙◌, subst, inl, inr, ⊎_elim}
use mathlib.Core.Logic.{dite}
use native.Mathlib.Decide.{ℕ_discrete}
use mathlib.Core.Option.{some}
use lib.ListN.{get_elem?}
use Rattle.model_core.specs.declared.command.Command.{Command}
use Rattle.model_core.specs.declared.entry.Entry.{Entry}
use Rattle.model_core.specs.declared.entry.Entry.TheVariants.{Command as CommandOf}
use Rattle.model_core.specs.declared.label.Label.{Label}
use Rattle.model_core.specs.declared.state.State as model
use Rattle.model_core.specs.Domains.{domain_at, opening}
use Rattle.model_core.specs.Entries.{next}
use Rattle.model_core.specs.History.{is_entry_of}
use Rattle.model_core.specs.WellFormed.{IsNumbered}
use Rattle.model_core.proofs.Commands.FrameLemmas.{keeps_next}
use Rattle.model_core.proofs.Histories.NumberLemmas.{numbered_after, numbered_opening}
use Rattle.model_cycle.specs.Beside.{Snapshot, Later, WriteBarrier, owed_after}
use Rattle.model_cycle.proofs.Beside.{beside_law}
use Rattle.heap_rule.specs.declared.config.Config.{Config}
use Rattle.heap_rule.specs.declared.view.DomainView.{DomainView}
use Rattle.heap_rule.specs.declared.phase.Kind.TheVariants.{Run, Reset}
use Rattle.heap_rule.specs.declared.phase.Stage.TheVariants.{In}
use Rattle.heap_rule.specs.Beside.{IsPooled, Underway, is_weak}
use Rattle.heap_rule.specs.Limits.{sizes_in}
use Rattle.heap_rule.specs.Places.{Place, Live, More}
use Rattle.heap_rule.specs.Rule.{Rule}
use Rattle.heap_rule.specs.Views.{one}
use Rattle.heap_rule.proofs.FinaliserLemmas.{QueuesNothing, work_next}
use Rattle.heap_rule.proofs.Keeps.{Words, my_good, now, between_here, Advances}
use Rattle.heap_rule.proofs.Sharings.{kind_now}
use Rattle.heap_rule.proofs.Stages.{waits_in}

-- a block that lies in a pool lies there again
pub pooled_more : (k : Config) (live live' : Live) (l : Label) → More live live' → IsPooled k live l → IsPooled k live' l
pooled_more k live live' l more o = let m = more o.address o.place o.lives in record { address = o.address; place = m.place; lives = m.lives; old = o.old; label = m.label ∙ o.label }

armed_cases : (b : Bool) → IsTrue b ⊎ (b ≡ false)
armed_cases true = inl refl
armed_cases false = inr refl

module _ (k : Config) (s : Words) (r : Rule k s) (id : ℕ) (hist : List Entry) (x : DomainView) (at : get_elem? s.views id ≡ some (one k hist x)) where
  -- what is kept of the cycle after an entry
  pub record Advance (e : Entry) (weak : Option ℕ) (live' : Live) : Type 0 where
    pub past : Snapshot
    pub advances : Advances k s r id hist x at e weak live' past

  abbrev state : model.State
  state = now k s r id hist x at

  abbrev past0 : Snapshot
  past0 = r.account.cycling.past

  -- each block of a minor area counts as marked where it has come to live
  abbrev pub YoungMarked : Live → Type 0
  YoungMarked live' = (a : ℕ) (p : Place) → live' a ≡ Some p → k.pools * 4096 < a → IsTrue (r.account.cycling.paint.marks.marked p.label)

  pub numbered : IsNumbered state
  numbered = numbered_after (opening (sizes_in k)) r.account.log r.whole.legal (numbered_opening (sizes_in k))

  module _ (runs : x.seen.stage ≡ In Run) where
    pub kind_runs : r.account.cycling.kind ≡ Run
    kind_runs = kind_now k r.account.pause r.account.cycling x Run runs (my_good k s r id hist x at).staged r.whole.cycle.told

    -- what holds of the cycle that goes on
    pub underway_here : IsTrue r.account.cycling.armed → Underway k state r.account.live r.account.cycling.kind past0 r.account.cycling.paint.marks r.account.cycling.shares
    underway_here is = (between_here k s r id hist x at Run tt runs).beside is

    -- who runs hasn't arrived
    pub waits_here : r.account.cycling.shares.arrived x.own.number ≡ false
    waits_here = waits_in k s r id hist x at Run runs

    -- an entry after which the laws of the cycle hold, with what is then owed
    pub advances_by : (e : Entry) (weak : Option ℕ) (live' : Live) (owed : ℕ → ℕ → Bool) → More r.account.live live' → (IsTrue r.account.cycling.armed → YoungMarked live') → ((weak ≡ None) ⊎ IsTrue r.account.cycling.armed)
        → ((d q : ℕ) → d ≢ x.own.number → owed d q ≡ past0.owed d q) → (IsTrue r.account.cycling.armed → (q : ℕ) → owed x.own.number q ≡ is_weak weak q)
        → (IsTrue r.account.cycling.armed → Later past0 r.account.cycling.paint.marks (next state e) owed) → Advance e weak live'
    advances_by e weak live' owed more young unweak others own later = ⊎_elim
        (λ (is : IsTrue r.account.cycling.armed). let l = later is in record {
          past = record past0 { held = l.0; overwritten = l.1; owed = owed };
          advances = record {
            same_old = refl;
            owed_others = others;
            owed_own = own;
            unweak = unweak;
            underway = λ _ u. record {
              covered = l.2;
              young = young is;
              pooled = λ m new marked. pooled_more k r.account.live live' m more (u.pooled m new marked);
              settled = λ d q gone. dite (ℕ_discrete d x.own.number)
                  (λ (same : d ≡ x.own.number). absurd (let up : r.account.cycling.shares.arrived d ≡ true = (gone kind_runs).1 in let low : r.account.cycling.shares.arrived d ≡ false = ap r.account.cycling.shares.arrived same ∙ waits_here in let clash : false ≡ true = sym low ∙ up in cc))
                  (λ (other : d ≢ x.own.number). others d q other ∙ u.settled d q gone);
              rooted = λ (reset : r.account.cycling.kind ≡ Reset). absurd (let clash : Run ≡ Reset = sym kind_runs ∙ reset in cc);
            };
          };
        })
        (λ (none : r.account.cycling.armed ≡ false). record {
          past = past0;
          advances = record {
            same_old = refl;
            owed_others = λ d q other. refl;
            owed_own = λ is. absurd (let clash : false ≡ true = sym none ∙ is in cc);
            unweak = unweak;
            underway = λ is. absurd (let clash : false ≡ true = sym none ∙ is in cc);
          };
        })
        (armed_cases r.account.cycling.armed)

    module _ (paid : x.seen.share.weak ≡ None) where
      pub owes_nothing : IsTrue r.account.cycling.armed → (q : ℕ) → past0.owed x.own.number q ≡ false
      owes_nothing is q = (my_good k s r id hist x at).sharing.running.owes is q ∙ ap (λ (w : Option ℕ). is_weak w q) paid

      -- a command that is no weak read, and overwrites nothing that must be darkened first
      pub advances_command : (c : Command) (live' : Live) → owed_after past0.owed x.own.number c ≡ past0.owed → More r.account.live live' → (IsTrue r.account.cycling.armed → YoungMarked live')
          → (IsTrue r.account.cycling.armed → WriteBarrier past0 r.account.cycling.paint.marks state x.own.number c) → Advance (CommandOf x.own.number c false) None live'
      advances_command c live' quiet more young barrier = advances_by (CommandOf x.own.number c false) None live' past0.owed more young (inl refl) (λ d q other. refl) (λ is q. owes_nothing is q)
          (λ is. subst (λ (owed : ℕ → ℕ → Bool). Later past0 r.account.cycling.paint.marks (next state (CommandOf x.own.number c false)) owed) quiet
          (beside_law.commands past0 r.account.cycling.paint.marks state (underway_here is).covered numbered x.own.number c (owes_nothing is) (barrier is)))

      -- an own entry that changes neither graph nor registers nor queues
      pub advances_stays : (e : Entry) → ((d : ℕ) → d ≢ x.own.number → is_entry_of d e ≡ false) → QueuesNothing e → (next state e).graph ≡ state.graph → (domain_at (next state e) x.own.number).registers ≡ (domain_at state x.own.number).registers
          → (domain_at (next state e) x.own.number).queue ≡ (domain_at state x.own.number).queue → Advance e None r.account.live
      advances_stays e alone queues graph registers queue = advances_by e None r.account.live past0.owed (λ a p lives. record { place = p; lives = lives; label = refl; shape = refl }) (λ is. (underway_here is).young) (inl refl) (λ d q other. refl) (λ is q. owes_nothing is q)
          (λ is. (
            past0.held,
            past0.overwritten,
            beside_law.stays past0 r.account.cycling.paint.marks state (next state e) (underway_here is).covered graph
                (λ d. dite (ℕ_discrete d x.own.number) (λ (same : d ≡ x.own.number). subst (λ (n : ℕ). (domain_at (next state e) n).registers ≡ (domain_at state n).registers) (sym same) registers) (λ (other : d ≢ x.own.number). (keeps_next state e d (alone d other)).registers))
                (λ d. dite (ℕ_discrete d x.own.number) (λ (same : d ≡ x.own.number). subst (λ (n : ℕ). (domain_at (next state e) n).queue ≡ (domain_at state n).queue) (sym same) queue) (λ (other : d ≢ x.own.number). (work_next state e d (alone d other) queues).queue)),
          ))
