-- What is left over in a domain changes by what it registers and runs, and by its end; so each registration leaves its list at most once, and runs at most once.
use Rattle.std.proofs.Common.{◌≡◌, ℕ, zero, suc, ◌+◌, ◌<◌, ◌≤◌, Bool, true, false, cond, IsTrue, List, [], ◌∷◌, ◌++◌, map, reverse, remove, take, replicate, slice_get, option_map, option_to_list, get_or, set, length, Option, Some, None, refl, ap, ◌∙◌, subst, arith, eqb, eqb-true, get_or-set_same, get_or-set_other}
use Rattle.model_core.specs.declared.label.Label.{Label}
use Rattle.model_core.specs.declared.command.Command.{Command}
use Rattle.model_core.specs.declared.command.Command.TheVariants.{Finalise, FinaliseLast}
use Rattle.model_core.specs.declared.entry.Entry.{Entry}
use Rattle.model_core.specs.declared.entry.Entry.TheVariants.{Command as CommandOf, End, Cut, Queue, Seal, Wipe, Last as LastOf, Collected, Done, Ran}
use Rattle.model_core.specs.declared.graph.Value.TheVariants.{Block}
use Rattle.model_core.specs.declared.graph.Node.{Node}
use Rattle.model_core.specs.declared.graph.Node.TheVariants.{Plain, Raw, Ephe}
use Rattle.model_core.specs.declared.state.Finaliser.{Finaliser}
use Rattle.model_core.specs.declared.state.LastFinaliser.{LastFinaliser}
use Rattle.model_core.specs.declared.state.Pending.{Pending}
use Rattle.model_core.specs.declared.state.Pending.TheVariants.{Fin, Last}
use Rattle.model_core.specs.declared.state.DomainState.{DomainState}
use Rattle.model_core.specs.declared.state.State.{State}
use Rattle.model_core.specs.Graph.{node_at}
use Rattle.model_core.specs.Domains.{domain_at, with_domain, with_register, no_domain, label_in, opening, opening_domain}
use Rattle.model_core.specs.Commands.{outcome, finalised, finalised_last, after_command}
use Rattle.model_core.specs.Entries.{is_rising, Allowed, queued_final, queued_last, at_places, without_places, with_queued, with_last_queued, with_finals_open, with_lasts_open, freshened, ended, wiped, with_wiped, without_first, after_run, next}
use Rattle.model_core.specs.History.{state_after, LegalFrom}
use Rattle.model_core.specs.Registrations.{registered_by, registered, ran, all_registered, all_ran, left_over, RegistrationsRunOnce}
use Rattle.model_core.proofs.Commands.FrameLemmas.{part_set, part_map, inside_running, not_same}
use Rattle.model_core.proofs.Histories.TallyLemmas.{one_place, tally, tally-append, tally-map, tally-cond, tally-remove, tally-without, tally_count, counted, increasing, changed_at, changed_less, mapped_less}
use Rattle.model_core.proofs.Commands.MoveLemmas.{registers_one}
use Rattle.model_core.proofs.Commands.DomainStepLemmas.{SameWork, work_outcome}

zero_either : (b : Bool) → ◌≡◌ {A = ℕ} (cond b 0 0) 0
zero_either true = refl
zero_either false = refl

-- a domain that changes
changed_eq : (V : DomainState → ℕ) (xs : List DomainState) (d : ℕ) (x : DomainState) (k less more : ℕ) → d < length xs → V x + less ≡ V (get_or xs d no_domain) + more
    → V (get_or (set xs d x) k no_domain) + cond (eqb d k) less 0 ≡ V (get_or xs k no_domain) + cond (eqb d k) more 0
changed_eq V xs d x k less more inside same = go (eqb d k) refl
  where
    go : (b : Bool) → eqb d k ≡ b → V (get_or (set xs d x) k no_domain) + cond b less 0 ≡ V (get_or xs k no_domain) + cond b more 0
    go true e =
        let own : V (get_or (set xs d x) d no_domain) ≡ V x = ap V (get_or-set_same xs d x no_domain inside) in
        let here : V (get_or (set xs d x) d no_domain) + less ≡ V (get_or xs d no_domain) + more = omega (arith, own, same) in
        subst (λ j. V (get_or (set xs d x) j no_domain) + less ≡ V (get_or xs j no_domain) + more) (eqb-true d k e) here
    go false e =
        let kept : V (get_or (set xs d x) k no_domain) ≡ V (get_or xs k no_domain) = ap V (get_or-set_other xs d k x no_domain (not_same d k e)) in
        omega (arith, kept)

-- whether an entry isn't the end of a domain
abbrev pub Outlives : ℕ → Entry → Type 0
Outlives k (End d) = eqb d k ≡ false
Outlives k _ = Unit {0}

module _ (f : Pending → ℕ) where
  -- what is left over in a domain
  abbrev pub W : DomainState → ℕ
  W x = tally f (left_over x)

  parts : (x : DomainState) → W x ≡ tally f (map queued_final x.finals) + tally f (map queued_last x.lasts) + tally f x.queue
  parts x =
      let outer = tally-append f (map queued_final x.finals ++ map queued_last x.lasts) x.queue in
      let inner = tally-append f (map queued_final x.finals) (map queued_last x.lasts) in
      omega (arith, outer, inner)

  same_work : (x y : DomainState) → SameWork x y → W y ≡ W x
  same_work x y same = λ i. tally f (map queued_final (same.finals i) ++ map queued_last (same.lasts i) ++ same.queue i)

  W-queued : (x : DomainState) (places : List ℕ) → IsTrue (is_rising places) → W (with_queued x places) ≡ W x
  W-queued x places rising =
      let moved : List Finaliser = at_places (reverse places) x.finals in
      let queue = tally-append f x.queue (map queued_final moved) in
      let kept = tally-without (λ y. f (queued_final y)) x.finals places (increasing places rising) in
      let a = tally-map f queued_final x.finals in
      let b = tally-map f queued_final (without_places places x.finals) in
      let c = tally-map f queued_final moved in
      omega (arith, parts x, parts (with_queued x places), queue, kept, a, b, c)

  W-last_queued : (x : DomainState) (place : ℕ) → W (with_last_queued x place) ≡ W x
  W-last_queued x place =
      let moved : List LastFinaliser = at_places (place ∷ []) x.lasts in
      let queue = tally-append f x.queue (map queued_last moved) in
      let kept = tally-remove (λ y. f (queued_last y)) x.lasts place in
      let a = tally-map f queued_last x.lasts in
      let b = tally-map f queued_last (remove x.lasts place) in
      let c = tally-map f queued_last moved in
      let one = one_place (λ y. f (queued_last y)) (slice_get x.lasts place) in
      omega (arith, parts x, parts (with_last_queued x place), queue, kept, a, b, c, one)

  W-first : (x : DomainState) (p : Pending) (rest : List Pending) → x.queue ≡ p ∷ rest → W (without_first x rest) + f p ≡ W x
  W-first x p rest e =
      let queue : tally f x.queue ≡ f p + tally f rest = ap (tally f) e in
      omega (arith, parts x, parts (without_first x rest), queue)

  W-final : (x : DomainState) (y : Finaliser) → W (record x { finals = x.finals ++ y ∷ [] }) ≡ W x + f (queued_final y)
  W-final x y =
      let more = tally-append (λ z. f (queued_final z)) x.finals (y ∷ []) in
      let a = tally-map f queued_final x.finals in
      let b = tally-map f queued_final (x.finals ++ y ∷ []) in
      omega (arith, parts x, parts (record x { finals = x.finals ++ y ∷ [] }), more, a, b)

  W-last : (x : DomainState) (y : LastFinaliser) → W (record x { lasts = x.lasts ++ y ∷ [] }) ≡ W x + f (queued_last y)
  W-last x y =
      let more = tally-append (λ z. f (queued_last z)) x.lasts (y ∷ []) in
      let a = tally-map f queued_last x.lasts in
      let b = tally-map f queued_last (x.lasts ++ y ∷ []) in
      omega (arith, parts x, parts (record x { lasts = x.lasts ++ y ∷ [] }), more, a, b)

  -- a domain's end
  W-ended : (x : DomainState) → W (ended x) ≤ W x
  W-ended x = omega (arith, parts x)

  -- what an entry leaves over, with what it runs, is what was left over, with what it registers
  abbrev pub Fits : ℕ → State → State → ℕ → ℕ → Type 0
  Fits k s t less more = W (domain_at t k) + less ≡ W (domain_at s k) + more

  module _ (s : State) (k : ℕ) where
    work_same : (d : ℕ) (c : Command) → registers_one c ≡ false → W (domain_at (outcome s d c).state k) ≡ W (domain_at s k)
    work_same d c other =
        let Same : List DomainState → Type 0 = λ xs. W (get_or xs k no_domain) ≡ W (get_or s.domains k no_domain) in
        work_outcome Same (λ xs j x same before. part_set W xs j x (same_work (get_or xs j no_domain) x same) k ∙ before) s refl d c other

    fits_after_command : (t : State) (d more : ℕ) → Fits k s t 0 more → Fits k s (after_command t d) 0 more
    fits_after_command t d more same =
        let kept : W (domain_at (after_command t d) k) ≡ W (domain_at t k) = part_set W t.domains d _ refl k in
        omega (arith, kept, same)

    fits_other : (d : ℕ) (c : Command) → registers_one c ≡ false → Fits k s (after_command (outcome s d c).state d) 0 (cond (eqb d k) 0 0)
    fits_other d c other = fits_after_command (outcome s d c).state d _ (omega (arith, work_same d c other, zero_either (eqb d k)))

    fits_finalised : (d number dst : ℕ) (l : Option Label) → d < length s.domains
        → Fits k s (finalised s d number dst l).state 0 (cond (eqb d k) (tally f (option_to_list (option_map (λ m. Fin number m dst) l))) 0)
    fits_finalised d number dst None inside = omega (arith, zero_either (eqb d k))
    fits_finalised d number dst (Some l) inside =
        let y : Finaliser = record { number = number; label = l; register = dst } in
        let one = W-final (domain_at s d) y in
        let none = zero_either (eqb d k) in
        let at = changed_eq W s.domains d (record (domain_at s d) { finals = (domain_at s d).finals ++ y ∷ [] }) k 0 (f (queued_final y) + 0) inside (omega (arith, one)) in
        omega (arith, at, none)

    fits_finalised_last : (d number : ℕ) (l : Option Label) → d < length s.domains
        → Fits k s (finalised_last s d number l).state 0 (cond (eqb d k) (tally f (option_to_list (option_map (λ m. Last number) l))) 0)
    fits_finalised_last d number None inside = omega (arith, zero_either (eqb d k))
    fits_finalised_last d number (Some l) inside =
        let y : LastFinaliser = record { number = number; label = l } in
        let one = W-last (domain_at s d) y in
        let none = zero_either (eqb d k) in
        let at = changed_eq W s.domains d (record (domain_at s d) { lasts = (domain_at s d).lasts ++ y ∷ [] }) k 0 (f (queued_last y) + 0) inside (omega (arith, one)) in
        omega (arith, at, none)

    fits_command : (d : ℕ) (c : Command) → d < length s.domains → Fits k s (after_command (outcome s d c).state d) 0 (cond (eqb d k) (tally f (registered_by s d c)) 0)
    fits_command d (Finalise item number dst) inside = fits_after_command (outcome s d (Finalise item number dst)).state d _ (fits_finalised d number dst (label_in s d item) inside)
    fits_command d (FinaliseLast item number) inside = fits_after_command (outcome s d (FinaliseLast item number)).state d _ (fits_finalised_last d number (label_in s d item) inside)
    fits_command d c inside = fits_other d c refl

    fits_ran : (d : ℕ) (queue : List Pending) → (domain_at s d).queue ≡ queue → d < length s.domains → Fits k s (after_run s d queue) (cond (eqb d k) (tally f (take 1 queue)) 0) 0
    fits_ran d [] e inside = omega (arith, zero_either (eqb d k))
    fits_ran d (Fin number l r ∷ rest) e inside =
        let x : DomainState = without_first (domain_at s d) rest in
        let first = W-first (domain_at s d) (Fin number l r) rest e in
        let at = changed_eq W s.domains d x k (f (Fin number l r) + 0) 0 inside (omega (arith, first)) in
        let none = zero_either (eqb d k) in
        let kept : W (domain_at (with_register (with_domain s d x) d r (Block l)) k) ≡ W (domain_at (with_domain s d x) k) =
        part_set W (with_domain s d x).domains d _ refl k in
        omega (arith, at, none, kept)
    fits_ran d (Last number ∷ rest) e inside =
        let first = W-first (domain_at s d) (Last number) rest e in
        let at = changed_eq W s.domains d (without_first (domain_at s d) rest) k (f (Last number) + 0) 0 inside (omega (arith, first)) in
        let none = zero_either (eqb d k) in
        omega (arith, at, none)

    fits_wiped : (l : Label) (places : List ℕ) (o : Option Node) → W (domain_at (with_wiped s l (wiped places o)) k) ≡ W (domain_at s k)
    fits_wiped l places None = refl
    fits_wiped l places (Some (Plain tag fields)) = refl
    fits_wiped l places (Some (Raw tag fields)) = refl
    fits_wiped l places (Some (Ephe keys datum)) = refl

    pub fits_next : (e : Entry) → Allowed s e → Outlives k e → Fits k s (next s e) (tally f (ran k s e)) (tally f (registered k s e))
    fits_next (CommandOf d c true) allowed other =
        let kept : W (domain_at (after_command s d) k) ≡ W (domain_at s k) = part_set W s.domains d _ refl k in
        omega (arith, kept)
    fits_next (CommandOf d c false) allowed other =
        omega (arith, fits_command d c (inside_running s.domains d allowed.running), tally-cond f (eqb d k) (registered_by s d c))
    fits_next (End d) allowed other =
        let kept : W (domain_at (next s (End d)) k) ≡ W (domain_at s k) = ap W (get_or-set_other s.domains d k (ended (domain_at s d)) no_domain (not_same d k other)) in
        omega (arith, kept)
    fits_next Cut allowed other = omega (arith, part_map W with_finals_open (λ x. refl) s.domains k)
    fits_next (Queue d places) allowed other = omega (arith, part_set W s.domains d (with_queued (domain_at s d) places) (W-queued (domain_at s d) places allowed.rising) k)
    fits_next Seal allowed other = omega (arith, part_map W with_lasts_open (λ x. refl) s.domains k)
    fits_next (Wipe l keys) allowed other = omega (arith, fits_wiped l keys (node_at s.graph l))
    fits_next (LastOf d place) allowed other = omega (arith, part_set W s.domains d (with_last_queued (domain_at s d) place) (W-last_queued (domain_at s d) place) k)
    fits_next Collected allowed other = omega (arith, part_map W freshened (λ x. refl) s.domains k)
    fits_next Done allowed other = omega arith
    fits_next (Ran d) allowed other =
        omega (arith, fits_ran d (domain_at s d).queue refl (inside_running s.domains d allowed.running), tally-cond f (eqb d k) (take 1 (domain_at s d).queue))

    -- no more than that is left over where domains end too
    fits_at_most : (e : Entry) → Allowed s e → W (domain_at (next s e) k) + tally f (ran k s e) ≤ W (domain_at s k) + tally f (registered k s e)
    fits_at_most (End d) allowed = omega (arith, changed_less W s.domains d (ended (domain_at s d)) (W-ended (domain_at s d)) k)
    fits_at_most (CommandOf d c full) allowed = omega (arith, fits_next (CommandOf d c full) allowed cc)
    fits_at_most Cut allowed = omega (arith, fits_next Cut allowed cc)
    fits_at_most (Queue d places) allowed = omega (arith, fits_next (Queue d places) allowed cc)
    fits_at_most Seal allowed = omega (arith, fits_next Seal allowed cc)
    fits_at_most (Wipe l keys) allowed = omega (arith, fits_next (Wipe l keys) allowed cc)
    fits_at_most (LastOf d place) allowed = omega (arith, fits_next (LastOf d place) allowed cc)
    fits_at_most Collected allowed = omega (arith, fits_next Collected allowed cc)
    fits_at_most Done allowed = omega (arith, fits_next Done allowed cc)
    fits_at_most (Ran d) allowed = omega (arith, fits_next (Ran d) allowed cc)

  fits_all : (s : State) (h : List Entry) (k : ℕ) → LegalFrom s h → W (domain_at (state_after s h) k) + tally f (all_ran k s h) ≤ W (domain_at s k) + tally f (all_registered k s h)
  fits_all s [] k legal = omega arith
  fits_all s (e ∷ h) k legal =
      let first = fits_at_most s k e legal.0 in
      let rest = fits_all (next s e) h k legal.1 in
      let runs = tally-append f (ran k s e) (all_ran k (next s e) h) in
      let made = tally-append f (registered k s e) (all_registered k (next s e) h) in
      omega (arith, first, rest, runs, made)

  pub none_at_start : (n k : ℕ) → W (get_or (replicate n opening_domain) k no_domain) ≡ 0
  none_at_start zero k = refl
  none_at_start (suc n) zero = refl
  none_at_start (suc n) (suc k) = none_at_start n k

pub registrations_law : RegistrationsRunOnce
registrations_law z h k test legal =
    let f : Pending → ℕ = counted test in
    let s : State = state_after (opening z) h in
    let all = fits_all f (opening z) h k legal in
    let none = none_at_start f z.domains k in
    let over = tally_count test (left_over (domain_at s k)) in
    let runs = tally_count test (all_ran k (opening z) h) in
    let made = tally_count test (all_registered k (opening z) h) in
    omega (arith, all, none, over, runs, made)
