-- What the pass through a phase is of a run.
use Rattle.std.proofs.Common.{true≢false, ◌≡◌, ◌∙◌, ◌++◌, ◌∷◌, ◌&&◌, [], append_assoc, drop, not, ℕ, ◌<◌, Bool, false, List, Option, Some, None, length, refl, sym, ap, subst}
use Rattle.model_core.specs.declared.command.Command.TheVariants.{FullMajor}
use Rattle.model_core.specs.declared.entry.Entry.{Entry}
use Rattle.model_core.specs.declared.entry.Entry.TheVariants.{Command as CommandOf}
use Rattle.model_core.specs.declared.state.Mode.TheVariants.{Answer as AnswerMode}
use Rattle.model_core.specs.declared.reply.Reply.{Reply}
use Rattle.model_core.specs.declared.reply.Applied.TheVariants.{Replied}
use Rattle.model_core.specs.Domains.{domain_at, opening, reach}
use Rattle.model_core.specs.Fronts.{Answers, AreNotControls, IsFrontOf, is_control, unseen}
use Rattle.model_core.specs.History.{Legal}
use Rattle.model_core.proofs.Histories.FrontLemmas.{answers_after, keeps_front, unseen_rest}
use Rattle.model_core.specs.Controls.Led.{IsLed}
use Rattle.std.proofs.Math.Seq.{drop-append_seam}
use Rattle.std.proofs.lemmas.List.Folds.{list_all-append}
use Rattle.model_core.specs.declared.reply.Applied.{Applied}
use Rattle.model_core.specs.declared.state.Sizes.{Sizes}
use Rattle.heap_rule.specs.declared.config.Config.{Config}
use Rattle.heap_rule.specs.declared.phase.Kind.{Kind}
use Rattle.heap_rule.specs.declared.phase.Kind.TheVariants.{Run, Answer}
use Rattle.heap_rule.specs.declared.phase.Note.TheVariants.{Barrier}
use Rattle.heap_rule.specs.declared.phase.Stage.TheVariants.{In}
use Rattle.heap_rule.specs.declared.view.DomainView.{DomainView}
use Rattle.heap_rule.specs.Limits.{sizes_in}
use Rattle.heap_rule.specs.Phases.{Comes, IsEven}
use Rattle.heap_rule.specs.Rule.{state_of}
use Rattle.heap_rule.specs.Token.{Token, SharedHeap, IsIn}
use Rattle.heap_rule.specs.Standing.{noted, with_front}
use Rattle.gc_pause.specs.Phases.Sharing.{gave_back}
use Rattle.step_pauses.specs.Pauses.{kind_in, IsModeOf}
use Rattle.gc_mark.specs.Decks.{DeckCounts, StaysDeck}
use Rattle.gc_pause.specs.declared.phases.decider.Decider.{Decider}
use Rattle.gc_pause.specs.Stops.Looks.{PassedBarrier}
use Rattle.gc_pause.specs.declared.stops.answer.Look.{Look}
use Rattle.step_sweep.specs.Answering.{LiveBlocksTold}
use Rattle.heap_rule.specs.declared.phase.Progress.{Progress}
use Rattle.run_turns.specs.declared.passing.LookOutcome.TheVariants.{Answered}
use Rattle.run_turns.specs.Pausing.{HasLeft, IsCollected, KnowsProgress, ComesToAnswer, CountsAndAnswers, GivesBack, due_of}
use Rattle.run_turns.specs.LookOutcomes.{CameOf, PassAnswers}
use Rattle.run_turns.specs.Runs.{RunView, IsRun, IsBetween, Passes}
use Rattle.run_turns.proofs.Owing.{due_on}
use Rattle.run_turns.proofs.Moving.{moved_is_run, still_moves, view_moves}
use Rattle.run_turns.proofs.PauseLemmas.{before_else, fresh_on, ready_next, looked_quiet}
use Rattle.run_turns.proofs.LeavingLemmas.{passes_moves, passes_between, gives_moves, gives_between, waits_between}

-- a look found that the phase has begun in which a collection is answered
pub comes_to : (k : Config) (known : Kind) (x y : DomainView) → x.own.number < k.domains → HasLeft k known x → PassedBarrier k x y → y.seen.stage ≡ In Answer → IsEven x.own.arrivals → kind_in x.seen.stage ≡ known → Comes x.own.number (kind_in x.seen.stage) Answer → IsModeOf Answer (state_of k y.seen.front).mode → ComesToAnswer k x y
comes_to k known x y inside left p stage even is comes mode = record { passed = p; stage = stage; even = even; named = comes; ready = ready_next k known Answer x y inside left p even (subst (λ (l : Kind). Comes x.own.number l Answer) is comes) mode }

-- what domain 0 knows of control entries where its front grew before a call and by it
answered_led : (z : Sizes) (d : ℕ) (old mid new : List Entry) (e : Entry) (r : Applied) → IsFrontOf d mid old → IsLed d mid old → Answers z d mid new e r → IsLed d new mid → IsLed d new old
answered_led z d old mid new e r f earlier a later first =
    let tail : List Entry = a.between ++ e ∷ [] in
    let grew : new ≡ mid ++ tail = a.appends ∙ append_assoc mid a.between (e ∷ []) in
    let whole : new ≡ old ++ (f.rest ++ tail) = grew ∙ (ap (λ (h : List Entry). h ++ tail) f.appends ∙ append_assoc old f.rest tail) in
    let last : unseen new mid ≡ tail = ap (drop (length mid)) grew ∙ drop-append_seam mid tail in
    let behind : unseen new old ≡ f.rest ++ unseen new mid = ap (drop (length old)) whole ∙ (drop-append_seam old (f.rest ++ tail) ∙ ap (λ (h : List Entry). f.rest ++ h) (sym last)) in
    let past : AreNotControls f.rest = subst AreNotControls (unseen_rest d mid old f) (earlier first) in
    subst AreNotControls (sym behind) (list_all-append (λ x. not (is_control x)) f.rest (unseen new mid) ∙ λ i. past i && later first i)

-- what it then did
pub answers_pass : (decider : Decider) (k : Config) (x begun y : DomainView) (known : Kind) (live : Bool) (blocks : ℕ) (o : Option Reply) → ComesToAnswer k x begun → CountsAndAnswers k begun y live blocks o → PassAnswers k decider x y known live (Answered blocks o)
answers_pass decider k x begun y known live blocks None c counts =
    let counted : DomainView = counts.0 in
    let told = counts.1 in
    let a = counts.2 in
    let front : counted.seen.front ≡ y.seen.front = sym (ap (λ (v : DomainView). v.seen.front) a.1) in (
      a.0,
      record {
        begun = begun;
        comes = c;
        seen = subst (λ (f : List Entry). IsFrontOf begun.own.number f begun.seen.front) front told.seen;
        led = subst (λ (f : List Entry). IsLed begun.own.number f begun.seen.front) front told.led;
        legal = subst (λ (f : List Entry). Legal (sizes_in k) f) front told.legal;
        answers = subst (λ (f : List Entry). (state_of k f).mode ≡ AnswerMode) front told.answers;
        view = a.1 ∙ (ap (λ (v : DomainView). gave_back v y) told.view ∙ ap (λ (f : List Entry). gave_back (with_front begun f) y) front);
      },
      subst (λ (f : List Entry). blocks ≡ length (reach (state_of k f))) front told.counts,
    )
answers_pass decider k x begun y known live blocks (Some reply) c counts =
    let told = counts.1 in
    let a = counts.2 in
    let l = a.1.1 in
    let number : begun.own.number ≡ x.own.number = ap (λ (v : DomainView). v.own.number) c.passed.view in
    let same : counts.0.own.number ≡ begun.own.number = ap (λ (v : DomainView). v.own.number) told.view in
    let front : List Entry = a.1.0.seen.front in
    let answers : Answers (sizes_in k) begun.own.number begun.seen.front front (CommandOf begun.own.number FullMajor false) (Replied reply) =
    answers_after (sizes_in k) begun.own.number begun.seen.front counts.0.seen.front front (CommandOf begun.own.number FullMajor false) (Replied reply) told.seen (λ running. absurd (true≢false running))
    (subst (λ (d : ℕ). Answers (sizes_in k) d counts.0.seen.front front (CommandOf d FullMajor false) (Replied reply)) same l.answers) in (
      a.0,
      record {
        begun = begun;
        comes = c;
        emptied = c.ready.past.emptied (before_else c.ready.before Answer c.ready.follows (λ e. cc) (λ e. cc));
        blocks = blocks;
        words = l.words;
        reply_is = l.reply_is;
        front = front;
        answers = subst (λ (d : ℕ). Answers (sizes_in k) d begun.seen.front front (CommandOf d FullMajor false) (Replied reply)) number answers;
        led = subst (λ (d : ℕ). IsLed d front begun.seen.front) number (answered_led (sizes_in k) begun.own.number begun.seen.front counts.0.seen.front front (CommandOf begun.own.number FullMajor false) (Replied reply) told.seen told.led (subst (λ (d : ℕ). Answers (sizes_in k) d counts.0.seen.front front (CommandOf d FullMajor false) (Replied reply)) same l.answers) (subst (λ (d : ℕ). IsLed d front counts.0.seen.front) same l.led));
        view = a.1.2 ∙ (ap (λ (v : DomainView). gave_back v y) l.view ∙ ap (λ (v : DomainView). gave_back (with_front v front) y) told.view);
        due = subst (λ (v : DomainView). due_of k v ≡ length v.own.finalisers.queue.items) (sym a.1.2) l.due;
      },
    )

pub answers_came : (decider : Decider) (k : Config) (x begun y : DomainView) (known : Kind) (live : Bool) (blocks : ℕ) (o : Option Reply) (found : Look) → ComesToAnswer k x begun → CountsAndAnswers k begun y live blocks o → (says : PassAnswers k decider x y known live (Answered blocks o)) × CameOf k decider x y known live (Answered blocks o) says found begun
unfolding answers_pass
answers_came decider k x begun y known live blocks None found c counts = (answers_pass decider k x begun y known live blocks None c counts, refl)
answers_came decider k x begun y known live blocks (Some reply) found c counts = (answers_pass decider k x begun y known live blocks (Some reply) c counts, refl)

-- who goes on still does where the whole history is seen, and owes what it did
pub counts_goes_on : (k : Config) (x y : DomainView) (blocks : ℕ) → LiveBlocksTold k x blocks y → (domain_at (state_of k x.seen.front) x.own.number).ended ≡ false → (domain_at (state_of k y.seen.front) y.own.number).ended ≡ false
counts_goes_on k x y blocks told goes = subst (λ (d : ℕ). (domain_at (state_of k y.seen.front) d).ended ≡ false) (sym (ap (λ (v : DomainView). v.own.number) told.view)) ((keeps_front (opening (sizes_in k)) x.own.number y.seen.front x.seen.front told.seen).ended ∙ goes)

pub counts_paid : (k : Config) (x y : DomainView) (blocks : ℕ) → LiveBlocksTold k x blocks y → due_of k x ≡ 0 → due_of k y ≡ 0
counts_paid k x y blocks told paid = due_on k x y (ap (λ (v : DomainView). v.own.number) told.view) told.seen ∙ paid

-- who goes on still does after a look
pub look_goes_on : (k : Config) (x y : DomainView) → PassedBarrier k x y → (domain_at (state_of k x.seen.front) x.own.number).ended ≡ false → (domain_at (state_of k y.seen.front) y.own.number).ended ≡ false
look_goes_on k x y p goes = subst (λ (d : ℕ). (domain_at (state_of k y.seen.front) d).ended ≡ false) (sym (ap (λ (v : DomainView). v.own.number) p.view)) ((keeps_front (opening (sizes_in k)) x.own.number y.seen.front x.seen.front p.seen).ended ∙ goes)

-- and owes what it did
pub look_paid : (k : Config) (x y : DomainView) → PassedBarrier k x y → due_of k x ≡ 0 → due_of k y ≡ 0
look_paid k x y p paid = due_on k x y (ap (λ (v : DomainView). v.own.number) p.view) p.seen ∙ paid

-- the run stands between two turns
between_of : (r : RunView) (known : Kind) → IsRun r → r.left ≡ Some known → IsBetween (Some known) r.asked r.collected r.progress r.token
between_of r known is left = subst (λ (l : Option Kind). IsBetween l r.asked r.collected r.progress r.token) left is.between

pub arrived_is_run : (decider : Decider) (h : SharedHeap) (r : RunView) (new : Token) (last kind : Kind) (progress : Progress) (hints : DeckCounts) → StaysDeck r.hints hints → IsRun r → r.left ≡ Some last → IsIn r.token h → IsIn new h → Passes h.config decider r.token.view new.view last kind → KnowsProgress progress new.view → IsRun (record r { token = new; left = Some kind; progress = progress; hints = hints })
arrived_is_run decider h r new last kind progress hints stays is left was here p knows = moved_is_run r new (Some kind) r.asked r.collected progress hints is stays (passes_moves decider h r.token new last kind was here p) is.unasked (passes_between decider h r.token new last kind r.asked r.collected r.progress progress is.inside was here (between_of r last is left) p knows)

pub gives_is_run : (h : SharedHeap) (r : RunView) (new : Token) (collected : Bool) (progress : Progress) (hints : DeckCounts) → StaysDeck r.hints hints → IsRun r → IsIn r.token h → IsIn new h → GivesBack h.config r.token.view new.view → KnowsProgress progress new.view → IsRun (record r { token = new; left = Some Answer; collected = collected; progress = progress; hints = hints })
gives_is_run h r new collected progress hints stays is was here g knows = moved_is_run r new (Some Answer) r.asked collected progress hints is stays (gives_moves h r.token new was here g) is.unasked (gives_between h r.token new r.asked collected progress here is.between.quiet g knows)

pub waits_is_run : (h : SharedHeap) (r : RunView) (new : Token) (last : Kind) (b : ℕ) (progress : Progress) (hints : DeckCounts) → StaysDeck r.hints hints → IsRun r → r.left ≡ Some last → IsIn r.token h → IsIn new h → new.view ≡ noted r.token.view (Barrier b) → KnowsProgress progress new.view → IsRun (record r { token = new; left = Some last; progress = progress; hints = hints })
waits_is_run h r new last b progress hints stays is left was here says knows = moved_is_run r new (Some last) r.asked r.collected progress hints is stays (still_moves h r.token new _ was here says refl refl refl refl refl refl refl) is.unasked (waits_between h r.token new last r.asked r.collected r.progress progress b was here (between_of r last is left) says knows)

-- and the domain runs again after a pause
pub runs_is_run : (h : SharedHeap) (r : RunView) (new : Token) (progress : Progress) (hints : DeckCounts) → StaysDeck r.hints hints → IsRun r → IsIn r.token h → IsIn new h → PassedBarrier h.config r.token.view new.view → new.view.seen.stage ≡ In Run → IsEven r.token.view.own.arrivals → IsCollected h.config new.view → KnowsProgress progress new.view → IsRun (record r { token = new; left = None; progress = progress; hints = hints })
runs_is_run h r new progress hints stays is was here p stage even c knows = moved_is_run r new None r.asked r.collected progress hints is stays (view_moves h r.token new _ was here p.view refl refl refl refl refl refl p.seen) is.unasked record {
  stands = stage;
  quiet = looked_quiet h.config r.token.view new.view p is.between.quiet;
  even = λ _. subst IsEven (sym (ap (λ (x : DomainView). x.own.arrivals) p.view)) even;
  remembers = λ _. c.looked_through ∙ sym c.forgotten;
  emptied = λ _ _. c.emptied;
  has_left = λ known none. cc;
  fresh = λ e. subst (λ (k : Config). Rattle.run_turns.specs.Tries.IsFresh k new.view) (sym here.1)
      (fresh_on h.config r.token.view new.view (ap (λ (x : DomainView). x.own.number) p.view) p.seen (subst (λ (k : Config). Rattle.run_turns.specs.Tries.IsFresh k r.token.view) was.1 (is.between.fresh e)));
  knows = knows;
}
