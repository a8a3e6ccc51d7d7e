-- How far the collection of a pause comes with each entry.
use Rattle.std.proofs.Common.{◌≡◌, ℕ, Bool, true, false, ◌&&◌, List, [], ◌∷◌, ◌++◌, refl, sym, ap, ◌∙◌, subst, inl, inr, ⊎_elim, append_assoc, append-nil, None, Some, Option}
use Rattle.std.specs.List.{list_all}
use Rattle.std.proofs.lemmas.List.Folds.{list_all-append}
use Rattle.model_core.specs.declared.label.Label.{Label}
use Rattle.model_core.specs.declared.command.Command.TheVariants.{FullMajor}
use Rattle.model_core.specs.declared.entry.Entry.{Entry}
use Rattle.model_core.specs.declared.entry.Entry.TheVariants.{Command as CommandOf, Cut, Queue, Seal, Wipe, Last, Collected, Done}
use Rattle.model_core.specs.declared.graph.Node.{Node}
use Rattle.model_core.specs.declared.state.Mode.TheVariants.{Open, Cut as CutMode, Sealed, Answer}
use Rattle.model_core.specs.declared.state.State.{State}
use Rattle.model_core.specs.Graph.{node_at}
use Rattle.model_core.specs.Entries.{next, wiped, with_wiped}
use Rattle.model_core.specs.History.{LegalFrom, state_after}
use Rattle.model_core.proofs.Histories.HistoryLemmas.{state_after-append}
use Rattle.model_traces.specs.Schedules.Sameness.{IsCollection, is_answer, is_queue, is_taking}
use Rattle.model_traces.proofs.OfSchedules.Collecting.{legal_parts}
use Rattle.text_script.specs.Schedule.Drive.Together.{Answers, Controls, Lead, LeadStep, Leads, Rests, is_quiet}
use Rattle.text_script.specs.Schedule.Drive.Pausing.{IsCollected, IsCut, IsSealed, Walked}

-- quiet entries leave the mode as it is
wiped_mode : (s : State) (l : Label) (o : Option Node) → (with_wiped s l o).mode ≡ s.mode
wiped_mode s l None = refl
wiped_mode s l (Some n) = refl

mode_next : (s : State) (e : Entry) → is_quiet e ≡ true → (next s e).mode ≡ s.mode
mode_next s (Queue d places) is = refl
mode_next s (Wipe l keys) is = wiped_mode s l (wiped keys (node_at s.graph l))
mode_next s (Last d place) is = refl
mode_next s e is = cc

-- and so do those that are queues, and those that take
queue_mode : (s : State) (q : List Entry) → list_all is_queue q ≡ true → (state_after s q).mode ≡ s.mode
queue_mode s [] all = refl
queue_mode s (Queue d places ∷ q) all = queue_mode (next s (Queue d places)) q all
queue_mode s (e ∷ q) all = cc

taking_mode : (s : State) (q : List Entry) → list_all is_taking q ≡ true → (state_after s q).mode ≡ s.mode
taking_mode s [] all = refl
taking_mode s (Wipe l keys ∷ q) all = taking_mode (next s (Wipe l keys)) q all ∙ mode_next s (Wipe l keys) refl
taking_mode s (Last d place ∷ q) all = taking_mode (next s (Last d place)) q all
taking_mode s (e ∷ q) all = cc

answer_mode : (s : State) (q : List Entry) → list_all is_answer q ≡ true → (state_after s q).mode ≡ s.mode
answer_mode s [] all = refl
answer_mode s (CommandOf d FullMajor false ∷ q) all = answer_mode (next s (CommandOf d FullMajor false)) q all
answer_mode s (e ∷ q) all = cc

-- where no collection has begun no quiet entry comes
pub open_none : (s : State) (q : List Entry) → s.mode ≡ Open → list_all is_quiet q ≡ true → LegalFrom s q → q ≡ []
open_none s [] mode all legal = refl
open_none s (Queue d places ∷ q) mode all legal = let clash : Open ≡ CutMode = sym mode ∙ legal.0.mode in cc
open_none s (Wipe l keys ∷ q) mode all legal = let clash : Open ≡ Sealed = sym mode ∙ legal.0.mode in cc
open_none s (Last d place ∷ q) mode all legal = let clash : Open ≡ Sealed = sym mode ∙ legal.0.mode in cc
open_none s (e ∷ q) mode all legal = cc

-- after the cut only registrations are queued
cut_queues : (s : State) (q : List Entry) → s.mode ≡ CutMode → list_all is_quiet q ≡ true → LegalFrom s q → list_all is_queue q ≡ true
cut_queues s [] mode all legal = refl
cut_queues s (Queue d places ∷ q) mode all legal = cut_queues (next s (Queue d places)) q mode all legal.1
cut_queues s (Wipe l keys ∷ q) mode all legal = let clash : CutMode ≡ Sealed = sym mode ∙ legal.0.mode in cc
cut_queues s (Last d place ∷ q) mode all legal = let clash : CutMode ≡ Sealed = sym mode ∙ legal.0.mode in cc
cut_queues s (e ∷ q) mode all legal = cc

-- once it is sealed keys are emptied and registrations of `finalise_last` queued
sealed_takes : (s : State) (q : List Entry) → s.mode ≡ Sealed → list_all is_quiet q ≡ true → LegalFrom s q → list_all is_taking q ≡ true
sealed_takes s [] mode all legal = refl
sealed_takes s (Queue d places ∷ q) mode all legal = let clash : Sealed ≡ CutMode = sym mode ∙ legal.0.mode in cc
sealed_takes s (Wipe l keys ∷ q) mode all legal = sealed_takes (next s (Wipe l keys)) q (mode_next s (Wipe l keys) refl ∙ mode) all legal.1
sealed_takes s (Last d place ∷ q) mode all legal = sealed_takes (next s (Last d place)) q mode all legal.1
sealed_takes s (e ∷ q) mode all legal = cc

-- while it is answered none comes
answer_none : (s : State) (q : List Entry) → s.mode ≡ Answer → list_all is_quiet q ≡ true → LegalFrom s q → q ≡ []
answer_none s [] mode all legal = refl
answer_none s (Queue d places ∷ q) mode all legal = let clash : Answer ≡ CutMode = sym mode ∙ legal.0.mode in cc
answer_none s (Wipe l keys ∷ q) mode all legal = let clash : Answer ≡ Sealed = sym mode ∙ legal.0.mode in cc
answer_none s (Last d place ∷ q) mode all legal = let clash : Answer ≡ Sealed = sym mode ∙ legal.0.mode in cc
answer_none s (e ∷ q) mode all legal = cc

-- the modes in which these parts leave a heap
cut_mode : (s : State) (c : List Entry) → IsCut c → (state_after s c).mode ≡ CutMode
cut_mode s c part = ap (λ k. (state_after s k).mode) part.is ∙ queue_mode (next s Cut) part.queued part.are_queues

sealed_mode : (s : State) (c : List Entry) → IsSealed c → (state_after s c).mode ≡ Sealed
sealed_mode s c part =
    ap (λ k. (state_after s k).mode) part.is ∙ ap (λ (v : State). v.mode) (state_after-append (next s Cut) part.queued (Seal ∷ part.taken))
    ∙ taking_mode (next (state_after (next s Cut) part.queued) Seal) part.taken part.are_taking

collected_mode : (s : State) (c answered : List Entry) → IsCollected c answered → (state_after s c).mode ≡ Answer
collected_mode s c answered part =
    ap (λ k. (state_after s k).mode) part.is ∙ ap (λ (v : State). v.mode) (state_after-append s (Cut ∷ part.queued ++ Seal ∷ part.taken) (Collected ∷ answered))
    ∙ answer_mode (next (state_after s (Cut ∷ part.queued ++ Seal ∷ part.taken)) Collected) answered part.are_answers

pub collection_mode : (s : State) (c answered : List Entry) → IsCollection c answered → (state_after s c).mode ≡ Open
collection_mode s c answered part =
    ap (λ k. (state_after s k).mode) part.is ∙ ap (λ (v : State). v.mode) (state_after-append s (Cut ∷ part.queued ++ Seal ∷ part.taken ++ Collected ∷ answered) (Done ∷ []))

-- the first of more entries is allowed where a part leaves the heap
behind : (s : State) (c more : List Entry) → LegalFrom s (c ++ more) → LegalFrom (state_after s c) more
behind s c more legal = (legal_parts s c more legal).1

-- quiet entries come
pub quiet_walks : (s : State) (b : Bool) (l : Lead) (c answered more : List Entry) → s.mode ≡ Open → list_all is_quiet more ≡ true → LegalFrom s (c ++ more) → Walked b l c answered → Walked b l (c ++ more) answered
quiet_walks s false Rests c answered more begun quiet legal w =
    (open_none s (c ++ more) begun (ap (λ k. list_all is_quiet (k ++ more)) w.0 ∙ quiet) legal, w.1)
quiet_walks s false (Leads false) c answered more begun quiet legal w =
    (open_none s (c ++ more) begun (ap (λ k. list_all is_quiet (k ++ more)) w.0 ∙ quiet) legal, w.1)
quiet_walks s true (Leads true) c answered more begun quiet legal w = (
  w.0,
  ⊎_elim (λ none. inl (open_none s (c ++ more) begun (ap (λ k. list_all is_quiet (k ++ more)) none ∙ quiet) legal))
      (λ later. inr (⊎_elim
      (λ (part : IsCut c). inl (record {
        queued = part.queued ++ more;
        are_queues = list_all-append is_queue part.queued more ∙ ap (λ b. b && list_all is_queue more) part.are_queues ∙ cut_queues (state_after s c) more (cut_mode s c part) quiet (behind s c more legal);
        is = ap (λ k. k ++ more) part.is;
      }))
      (λ (part : IsSealed c). inr (record {
        queued = part.queued;
        taken = part.taken ++ more;
        are_queues = part.are_queues;
        are_taking = list_all-append is_taking part.taken more ∙ ap (λ b. b && list_all is_taking more) part.are_taking ∙ sealed_takes (state_after s c) more (sealed_mode s c part) quiet (behind s c more legal);
        is = ap (λ k. k ++ more) part.is ∙ append_assoc (Cut ∷ part.queued) (Seal ∷ part.taken) more;
      }))
      later))
      w.1,
)
quiet_walks s true Answers c answered more begun quiet legal w =
    let none : more ≡ [] = answer_none (state_after s c) more (collected_mode s c answered w) quiet (behind s c more legal) in
    subst (λ k. IsCollected k answered) (sym (ap (λ k. c ++ k) none ∙ append-nil c)) w
quiet_walks s true Rests c answered more begun quiet legal w =
    let none : more ≡ [] = open_none (state_after s c) more (collection_mode s c answered w) quiet (behind s c more legal) in
    subst (λ k. IsCollection k answered) (sym (ap (λ k. c ++ k) none ∙ append-nil c)) w
quiet_walks s b l c answered more begun quiet legal w = absurd w

-- nothing comes
stay : (b : Bool) (l : Lead) (c answered more : List Entry) → more ≡ [] → Walked b l c answered → Walked b l (c ++ more) answered
stay b l c answered more none w = subst (λ k. Walked b l k answered) (sym (ap (λ k. c ++ k) none ∙ append-nil c)) w

-- domain 0 leads on
lead_walks : (s : State) (b : Bool) (l m : Lead) (c answered control : List Entry) → s.mode ≡ Open → LegalFrom s (c ++ control) → LeadStep l m control → Walked b l c answered → Walked b m (c ++ control) answered
lead_walks s false Rests Rests c answered control begun legal step w = stay false Rests c answered control step w
lead_walks s false (Leads false) (Leads false) c answered control begun legal step w = stay false (Leads false) c answered control step w
lead_walks s false (Leads false) Rests c answered control begun legal step w = stay false Rests c answered control step w
lead_walks s true (Leads true) (Leads true) c answered control begun legal step w =
    ⊎_elim (λ none. stay true (Leads true) c answered control none w)
    (⊎_elim
    (λ (cut : control ≡ Cut ∷ []).
    let mode : (state_after s c).mode ≡ Open = (subst (λ k. LegalFrom (state_after s c) k) cut (behind s c control legal)).0 in (
      w.0,
      ⊎_elim
          (λ none. inr (inl (record { queued = []; are_queues = refl; is = ap (λ k. k ++ control) none ∙ cut })))
          (λ later. ⊎_elim
          (λ (part : IsCut c). let clash : Open ≡ CutMode = sym mode ∙ cut_mode s c part in cc)
          (λ (part : IsSealed c). let clash : Open ≡ Sealed = sym mode ∙ sealed_mode s c part in cc)
          later)
          w.1,
    ))
    (λ (seal : control ≡ Seal ∷ []).
    let mode : (state_after s c).mode ≡ CutMode = (subst (λ k. LegalFrom (state_after s c) k) seal (behind s c control legal)).0.mode in (
      w.0,
      ⊎_elim
          (λ none. let clash : CutMode ≡ Open = sym mode ∙ ap (λ k. (state_after s k).mode) none ∙ begun in cc)
          (λ later. ⊎_elim
          (λ (part : IsCut c). inr (inr (record { queued = part.queued; taken = []; are_queues = part.are_queues; are_taking = refl; is = ap (λ k. k ++ control) part.is ∙ ap (λ k. Cut ∷ part.queued ++ k) seal })))
          (λ (part : IsSealed c). let clash : CutMode ≡ Sealed = sym mode ∙ sealed_mode s c part in cc)
          later)
          w.1,
    )))
    step
lead_walks s true (Leads true) Answers c answered control begun legal step w =
    let mode : (state_after s c).mode ≡ Sealed = (subst (λ k. LegalFrom (state_after s c) k) step (behind s c control legal)).0.mode in
    ⊎_elim
    (λ none. let clash : Sealed ≡ Open = sym mode ∙ ap (λ k. (state_after s k).mode) none ∙ begun in cc)
    (λ later. ⊎_elim
    (λ (part : IsCut c). let clash : Sealed ≡ CutMode = sym mode ∙ cut_mode s c part in cc)
    (λ (part : IsSealed c). record {
      queued = part.queued;
      taken = part.taken;
      are_queues = part.are_queues;
      are_taking = part.are_taking;
      are_answers = ap (λ k. list_all is_answer k) w.0;
      is = ap (λ k. k ++ control) part.is ∙ ap (λ k. Cut ∷ part.queued ++ Seal ∷ part.taken ++ k) (step ∙ ap (λ k. Collected ∷ k) (sym w.0));
    })
    later)
    w.1
lead_walks s true Answers Answers c answered control begun legal step w = stay true Answers c answered control step w
lead_walks s true Answers Rests c answered control begun legal step w = record {
  queued = w.queued;
  taken = w.taken;
  are_queues = w.are_queues;
  are_taking = w.are_taking;
  are_answers = w.are_answers;
  is = ap (λ k. k ++ control) w.is ∙ ap (λ k. Cut ∷ w.queued ++ Seal ∷ w.taken ++ Collected ∷ answered ++ k) step;
}
lead_walks s true Rests Rests c answered control begun legal step w = stay true Rests c answered control step w
lead_walks s false (Leads true) m c answered control begun legal step w = absurd w
lead_walks s false Answers m c answered control begun legal step w = absurd w
lead_walks s true (Leads false) m c answered control begun legal step w = absurd w
lead_walks s b l m c answered control begun legal step w = absurd step

pub control_walks : (s : State) (b : Bool) (d : ℕ) (l m : Lead) (c answered control : List Entry) → s.mode ≡ Open → LegalFrom s (c ++ control) → Controls d l m control → Walked b l c answered → Walked b m (c ++ control) answered
control_walks s b d l m c answered control begun legal step w =
    ⊎_elim (λ leads. lead_walks s b l m c answered control begun legal leads.1 w)
    (λ others. subst (λ k. Walked b k (c ++ control) answered) (sym others.1) (stay b l c answered control others.2 w))
    step

-- where a `full_major` is allowed
answer_at : (s : State) (d : ℕ) (c : List Entry) → LegalFrom s (c ++ CommandOf d FullMajor false ∷ []) → (state_after s c).mode ≡ Answer
answer_at s d c legal = (behind s c (CommandOf d FullMajor false ∷ []) legal).0.fits.0

-- a `full_major` is answered
pub answer_walks : (s : State) (b : Bool) (d : ℕ) (l : Lead) (c answered : List Entry) → s.mode ≡ Open → LegalFrom s (c ++ CommandOf d FullMajor false ∷ []) → Walked b l c answered → Walked b l (c ++ CommandOf d FullMajor false ∷ []) (answered ++ CommandOf d FullMajor false ∷ [])
answer_walks s false d Rests c answered begun legal w = let clash : Open ≡ Answer = sym begun ∙ ap (λ k. (state_after s k).mode) (sym w.0) ∙ answer_at s d c legal in cc
answer_walks s false d (Leads false) c answered begun legal w = let clash : Open ≡ Answer = sym begun ∙ ap (λ k. (state_after s k).mode) (sym w.0) ∙ answer_at s d c legal in cc
answer_walks s true d (Leads true) c answered begun legal w =
    ⊎_elim
    (λ none. let clash : Open ≡ Answer = sym begun ∙ ap (λ k. (state_after s k).mode) (sym none) ∙ answer_at s d c legal in cc)
    (λ later. ⊎_elim
    (λ (part : IsCut c). let clash : CutMode ≡ Answer = sym (cut_mode s c part) ∙ answer_at s d c legal in cc)
    (λ (part : IsSealed c). let clash : Sealed ≡ Answer = sym (sealed_mode s c part) ∙ answer_at s d c legal in cc)
    later)
    w.1
answer_walks s true d Answers c answered begun legal w =
    let one : List Entry = CommandOf d FullMajor false ∷ [] in
    record {
      queued = w.queued;
      taken = w.taken;
      are_queues = w.are_queues;
      are_taking = w.are_taking;
      are_answers = list_all-append is_answer answered one ∙ ap (λ b. b && true) w.are_answers;
      is = ap (λ k. k ++ one) w.is ∙ append_assoc (Cut ∷ w.queued ++ Seal ∷ w.taken) (Collected ∷ answered) one;
    }
answer_walks s true d Rests c answered begun legal w = let clash : Open ≡ Answer = sym (collection_mode s c answered w) ∙ answer_at s d c legal in cc
answer_walks s b d l c answered begun legal w = absurd w
