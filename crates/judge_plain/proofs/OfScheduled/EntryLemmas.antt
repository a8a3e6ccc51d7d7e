-- Entries that are made one behind the other.
use Rattle.std.proofs.Common.{◌≡◌, ℕ, zero, suc, ◌+◌, ◌<◌, List, [], ◌∷◌, ◌++◌, length, take, get_or, refl, sym, ap, ◌∙◌, subst, arith, append_assoc}
use Rattle.std.specs.Prelude.{map, slice_set}
use Rattle.std.proofs.lemmas.List.{take_more}
use Rattle.model_core.specs.declared.command.Command.{Command}
use Rattle.model_core.specs.declared.command.Command.TheVariants.{FullMajor}
use Rattle.model_core.specs.declared.entry.Entry.{Entry}
use Rattle.model_core.specs.declared.entry.Entry.TheVariants.{Cut, Seal, Collected, Done}
use Rattle.model_core.specs.declared.state.DomainState.{DomainState}
use Rattle.model_core.specs.declared.state.State.{State}
use Rattle.model_core.specs.Domains.{queues}
use Rattle.model_core.specs.Entries.{Allowed, next, with_finals_open}
use Rattle.model_core.specs.History.{LegalFrom, state_after}
use Rattle.model_core.proofs.Histories.HistoryLemmas.{state_after-append}
use Rattle.model_traces.specs.Schedules.Scheduled.{Played, all_lasts, all_queued, all_wiped, behind, complete, left_of, next_entries, with_entries, with_next}

-- made in two parts
pub two_parts : (p : Played) (a b : List Entry) → with_entries (with_entries p a) b ≡ with_entries p (a ++ b)
two_parts p a b =
    ap (λ s. record p { state = s; history = (p.history ++ a) ++ b }) (sym (state_after-append p.state a b))
    ∙ ap (λ h. record p { state = state_after p.state (a ++ b); history = h }) (append_assoc p.history a b)

-- one more of them is made
pub one_more : (p : Played) (es : List Entry) (i : ℕ) (e : Entry) → i < length es → get_or es i e ≡ e → with_entries (with_entries p (take i es)) (e ∷ []) ≡ with_entries p (take (i + 1) es)
one_more p es i e below is = two_parts p (take i es) (e ∷ []) ∙ ap (with_entries p) (sym (take_more es i e below ∙ ap (λ x. take i es ++ x ∷ []) is))

-- each of legal entries is allowed where it stands
pub allowed_at : (s : State) (es : List Entry) (i : ℕ) (e : Entry) → i < length es → get_or es i e ≡ e → LegalFrom s es → Allowed (state_after s (take i es)) e
allowed_at s [] i e below is legal = absurd (omega (arith, below))
allowed_at s (x ∷ es) zero e below is legal = subst (Allowed s) is legal.0
allowed_at s (x ∷ es) (suc i) e below is legal = allowed_at (next s x) es i e (omega (arith, below)) is legal.1

-- legal entries in two parts
pub legal_parts : (s : State) (a b : List Entry) → LegalFrom s (a ++ b) → LegalFrom s a × LegalFrom (state_after s a) b
legal_parts s [] b legal = (tt, legal)
legal_parts s (e ∷ a) b legal = let rest = legal_parts (next s e) a b legal.1 in ((legal.0, rest.0), rest.1)

map-map : {A B C : Type 0} (f : B → C) (g : A → B) (xs : List A) → map f (map g xs) ≡ map (λ x. f (g x)) xs
map-map f g [] = refl
map-map f g (x ∷ xs) = ap (λ t. f (g x) ∷ t) (map-map f g xs)

-- right behind the cut the queues are those at the cut
pub cut_queues : (s : State) → (next s Cut).cut ≡ queues (next s Cut)
cut_queues s = sym (map-map (λ (x : DomainState). x.queue) with_finals_open s.domains)

-- what a command is made of doesn't depend on the commands behind it
pub next_alone : (s : State) (d : ℕ) (c : Command) (cs : List Command) → next_entries s d (c ∷ cs) ≡ next_entries s d (c ∷ [])
next_alone s d FullMajor cs = refl
next_alone s d _ cs = refl

-- a complete collection, stage by stage
module _ (s : State) where
  abbrev pub cut : State
  cut = next s Cut

  abbrev pub queued : State
  queued = state_after cut (all_queued cut)

  abbrev pub sealed : State
  sealed = next queued Seal

  abbrev pub wiped : State
  wiped = state_after sealed (all_wiped sealed)

  abbrev pub lasts : State
  lasts = state_after wiped (all_lasts wiped)

  pub record IsLegalCollection (answered : List Entry) : Type 0 where
    pub begins : Allowed s Cut
    pub queues : LegalFrom cut (all_queued cut)
    pub seals : Allowed queued Seal
    pub wipes : LegalFrom sealed (all_wiped sealed)
    pub takes : LegalFrom wiped (all_lasts wiped)
    pub collects : Allowed lasts Collected
    pub answers : LegalFrom (next lasts Collected) answered
    pub ends : Allowed (state_after (next lasts Collected) answered) Done

  pub stages : (answered : List Entry) → LegalFrom s (complete s answered) → IsLegalCollection answered
  stages answered legal =
      let q : List Entry = all_queued cut in
      let w : List Entry = all_wiped sealed in
      let l : List Entry = all_lasts wiped in
      let x1 : List Entry = Cut ∷ q in
      let x2 : List Entry = x1 ++ (Seal ∷ w) in
      let x3 : List Entry = x2 ++ l in
      let x4 : List Entry = x3 ++ (Collected ∷ answered) in
      let p4 = legal_parts s x4 (Done ∷ []) legal in
      let p3 = legal_parts s x3 (Collected ∷ answered) p4.0 in
      let p2 = legal_parts s x2 l p3.0 in
      let p1 = legal_parts s x1 (Seal ∷ w) p2.0 in
      let at2 : state_after s x2 ≡ wiped = state_after-append s x1 (Seal ∷ w) in
      let at3 : state_after s x3 ≡ lasts = state_after-append s x2 l ∙ ap (λ t. state_after t l) at2 in
      let at4 : state_after s x4 ≡ state_after (next lasts Collected) answered = state_after-append s x3 (Collected ∷ answered) ∙ ap (λ t. state_after t (Collected ∷ answered)) at3 in
      let last2 : LegalFrom wiped l = subst (λ t. LegalFrom t l) at2 p2.1 in
      let last3 : LegalFrom lasts (Collected ∷ answered) = subst (λ t. LegalFrom t (Collected ∷ answered)) at3 p3.1 in
      let last4 : LegalFrom (state_after (next lasts Collected) answered) (Done ∷ []) = subst (λ t. LegalFrom t (Done ∷ [])) at4 p4.1 in record {
        begins = p1.0.0;
        queues = p1.0.1;
        seals = p1.1.0;
        wipes = p1.1.1;
        takes = last2;
        collects = last3.0;
        answers = last3.1;
        ends = last4.0;
      }

-- made behind what is made
behind_made : (p r : Played) (x y : List Entry) → r ≡ with_entries p x → with_entries r y ≡ with_entries p (x ++ y)
behind_made p r x y is = ap (λ t. with_entries t y) is ∙ two_parts p x y

-- made in eight parts
pub all_parts : (p : Played) (q w l a : List Entry)
    → with_entries (with_entries (with_entries (with_entries (with_entries (with_entries (with_entries (with_entries p (Cut ∷ [])) q) (Seal ∷ [])) w) l) (Collected ∷ [])) a) (Done ∷ [])
    ≡ with_entries p (Cut ∷ q ++ Seal ∷ w ++ l ++ Collected ∷ a ++ Done ∷ [])
all_parts p q w l a =
    let r2 : Played = with_entries (with_entries p (Cut ∷ [])) q in
    let r4 : Played = with_entries (with_entries r2 (Seal ∷ [])) w in
    let r5 : Played = with_entries r4 l in
    let r7 : Played = with_entries (with_entries r5 (Collected ∷ [])) a in
    let x1 : List Entry = Cut ∷ q in
    let x2 : List Entry = x1 ++ (Seal ∷ w) in
    let x3 : List Entry = x2 ++ l in
    let x4 : List Entry = x3 ++ (Collected ∷ a) in
    let e2 : r2 ≡ with_entries p x1 = two_parts p (Cut ∷ []) q in
    let e4 : r4 ≡ with_entries p x2 = two_parts r2 (Seal ∷ []) w ∙ behind_made p r2 x1 (Seal ∷ w) e2 in
    let e5 : r5 ≡ with_entries p x3 = behind_made p r4 x2 l e4 in
    let e7 : r7 ≡ with_entries p x4 = two_parts r5 (Collected ∷ []) a ∙ behind_made p r5 x3 (Collected ∷ a) e5 in
    behind_made p r7 x4 (Done ∷ []) e7

-- the first of legal entries may be made, and then the others
pub first_allowed : (p : Played) (es rest : List Entry) (e : Entry) → es ≡ e ∷ rest → LegalFrom p.state es → Allowed p.state e
first_allowed p es rest e is legal = (subst (LegalFrom p.state) is legal).0

pub rest_made : (p q r : Played) (es rest : List Entry) (e : Entry) → es ≡ e ∷ rest → r ≡ with_entries q (e ∷ []) → with_entries q es ≡ p → LegalFrom q.state es → (with_entries r rest ≡ p) × LegalFrom r.state rest
rest_made p q r es rest e is made whole legal =
    (ap (λ t. with_entries t rest) made ∙ two_parts q (e ∷ []) rest ∙ ap (with_entries q) (sym is) ∙ whole, subst (λ (t : Played). LegalFrom t.state rest) (sym made) (subst (LegalFrom q.state) is legal).1)

-- the next command is made once the others are what is left
pub next_made : (p q r : Played) (d : ℕ) (c : Command) (cs : List Command) → left_of p d ≡ c ∷ cs → q ≡ record p { left = slice_set p.left d cs }
    → r ≡ with_entries q (next_entries q.state d (c ∷ [])) → r ≡ with_next p d
next_made p q r d c cs left is made =
    made ∙ ap (λ (t : Played). with_entries t (next_entries t.state d (c ∷ []))) is
    ∙ ap (λ (es : List Entry). record (with_entries p es) { left = slice_set p.left d cs }) (sym (next_alone p.state d c cs))
    ∙ ap (λ (l : List Command). record (with_entries p (next_entries p.state d l)) { left = slice_set p.left d (behind l) }) (sym left)
