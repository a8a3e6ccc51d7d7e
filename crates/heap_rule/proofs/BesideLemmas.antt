-- What steps keep of what a domain knows as it runs beside a cycle.
use Rattle.std.proofs.Common.{◌≡◌, ◌≢◌, ℕ, ◌⊎◌, Bool, false, IsTrue, List, [], ◌∷◌, Option, Some, None, sym, refl, ap, ◌∙◌, subst, inl, inr, ⊎_elim}
use Rattle.model_core.specs.declared.label.Label.{Label}
use Rattle.model_core.specs.declared.graph.Value.TheVariants.{Block}
use Rattle.model_core.specs.Graph.{Graph}
use Rattle.model_cycle.specs.Beside.{Snapshot}
use Rattle.model_cycle.specs.Cover.{field_at}
use Rattle.heap_rule.specs.declared.config.Config.{Config}
use Rattle.heap_rule.specs.declared.phase.Kind.TheVariants.{Run}
use Rattle.heap_rule.specs.declared.phase.Stage.{Stage}
use Rattle.heap_rule.specs.declared.phase.Stage.TheVariants.{In}
use Rattle.heap_rule.specs.declared.view.Known.{Known}
use Rattle.heap_rule.specs.declared.view.Known.TheVariants.{Pool, Marked, Found, Shape, Refers, Done, Darkened, Scanned, Vain}
use Rattle.heap_rule.specs.declared.view.Share.{Share}
use Rattle.heap_rule.specs.Beside.{IsMarkedBlock, HoldsKnown, AllKnown, IsKnown, IsPaid, IsUnaware, RunsBeside, is_weak}
use Rattle.heap_rule.specs.Layout.{at_address}
use Rattle.heap_rule.proofs.Sharings.{with_weak}
use Rattle.heap_rule.specs.Places.{Place, Live, More, IsHeadOf}
use Rattle.heap_rule.specs.Pools.{Holder, owned}

-- blocks live on, pools stay with their domains, what is marked stays so, and heads stay but where a block was marked
pub record Endures (k : Config) (live live' : Live) (holder holder' : ℕ → Holder) (marked marked' : Label → Bool) (words words' : List ℕ) : Type 0 where
  pub more : More live live'
  pub held : (q d c : ℕ) → holder q ≡ owned d c → holder' q ≡ owned d c
  pub stays : (l : Label) → IsTrue (marked l) → IsTrue (marked' l)
  pub heads : (a : ℕ) (p : Place) → live a ≡ Some p → (at_address k words' a ≡ at_address k words a) ⊎ IsTrue (marked' p.label)

-- where the words of the heap stay
pub endures_words : (k : Config) (live : Live) (holder : ℕ → Holder) (marked : Label → Bool) (words words' : List ℕ) → ((a : ℕ) → at_address k words' a ≡ at_address k words a) → Endures k live live holder holder marked marked words words'
endures_words k live holder marked words words' heap = record {
  more = λ a p e. record { place = p; lives = e; label = refl; shape = refl };
  held = λ q d c e. e;
  stays = λ l is. is;
  heads = λ a p e. inl (heap a);
}

module _ (k : Config) (live live' : Live) (holder holder' : ℕ → Holder) (old : Graph) (marked marked' : Label → Bool) (words words' : List ℕ) (o : Endures k live live' holder holder' marked marked' words words') where
  marked_on : (p q : Place) → q.label ≡ p.label → IsTrue (marked p.label) → IsTrue (marked' q.label)
  marked_on p q same is = subst (λ (l : Label). IsTrue (marked' l)) (sym same) (o.stays p.label is)

  block_on : (a : ℕ) → IsMarkedBlock live marked a → IsMarkedBlock live' marked' a
  block_on a h = let m = o.more a h.place h.lives in record { place = m.place; lives = m.lives; is_marked = marked_on h.place m.place m.label h.is_marked }

  -- what a domain knows is so still
  pub known_on : (f : Known) → HoldsKnown k live holder old marked words f → HoldsKnown k live' holder' old marked' words' f
  known_on (Pool pool class) h = (h.0, o.held pool h.0 class h.1)
  known_on (Marked address) h = block_on address h
  known_on (Darkened address) h = block_on address h
  known_on (Scanned address) h = block_on address h
  known_on (Vain address) h = h
  known_on (Found address word) h = let m = o.more address h.place h.lives in record {
    place = m.place;
    lives = m.lives;
    head = ⊎_elim (λ (e : at_address k words address ≡ word). ⊎_elim (λ (same : at_address k words' address ≡ at_address k words address). inl (same ∙ e)) (λ (is : IsTrue (marked' h.place.label)). inr (subst (λ (l : Label). IsTrue (marked' l)) (sym m.label) is)) (o.heads address h.place h.lives))
        (λ (is : IsTrue (marked h.place.label)). inr (marked_on h.place m.place m.label is)) h.head;
  }
  known_on (Shape address head) h = let m = o.more address h.place h.lives in record {
    place = m.place;
    lives = m.lives;
    is_marked = marked_on h.place m.place m.label h.is_marked;
    head = subst (λ z. IsHeadOf z head) (sym m.shape) h.head;
  }
  known_on (Refers block field address) h = let m = o.more block h.place h.lives in let n = o.more address h.target h.there in record {
    place = m.place;
    lives = m.lives;
    target = n.place;
    there = n.lives;
    held = λ x e. ⊎_elim (λ (is : IsTrue (marked x)). inl (o.stays x is)) (λ (same : x ≡ h.target.label). inr (same ∙ sym n.label)) (h.held x (ap (λ (l : Label). field_at old l field) (sym m.label) ∙ e));
  }
  known_on (Done block field) h = let m = o.more block h.place h.lives in record {
    place = m.place;
    lives = m.lives;
    reached = λ x e. o.stays x (h.reached x (ap (λ (l : Label). field_at old l field) (sym m.label) ∙ e));
  }

  pub all_known_on : (fs : List Known) → AllKnown k live holder old marked words fs → AllKnown k live' holder' old marked' words' fs
  all_known_on [] h = tt
  all_known_on (f ∷ fs) h = (known_on f h.0, all_known_on fs h.1)

-- what is among them holds
pub known_among : (k : Config) (live : Live) (holder : ℕ → Holder) (old : Graph) (marked : Label → Bool) (words : List ℕ) (fs : List Known) (f : Known) → AllKnown k live holder old marked words fs → IsKnown fs f → HoldsKnown k live holder old marked words f
known_among k live holder old marked words [] f all is = absurd is
known_among k live holder old marked words (g ∷ gs) f all is = ⊎_elim (λ (e : g ≡ f). subst (HoldsKnown k live holder old marked words) e all.0) (λ (m : IsKnown gs f). known_among k live holder old marked words gs f all.1 m) is

-- a domain that runs knows on
pub runs_on : (k : Config) (live live' : Live) (holder holder' : ℕ → Holder) (armed : Bool) (past past' : Snapshot) (marked marked' : Label → Bool) (words words' : List ℕ) (d : ℕ) (stage : Stage) (share : Share) → (stage ≡ In Run → Endures k live live' holder holder' marked marked' words words')
    → past'.old ≡ past.old → ((r : ℕ) → past'.owed d r ≡ past.owed d r) → RunsBeside k live holder armed past marked words d stage share → RunsBeside k live' holder' armed past' marked' words' d stage share
runs_on k live live' holder holder' armed past past' marked marked' words words' d stage share o same owed h = record {
  knows = ⊎_elim (λ (u : IsUnaware share). inl u) (λ (u : (stage ≡ In Run) × IsTrue armed × AllKnown k live holder past.old marked words share.known). inr (
    u.0,
    u.1,
    subst (λ (g : Graph). AllKnown k live' holder' g marked' words' share.known) (sym same) (all_known_on k live live' holder holder' past.old marked marked' words words' (o u.0) share.known u.2),
  )) h.knows;
  owes = λ is r. owed r ∙ h.owes is r;
}

-- and a domain that doesn't run knows nothing, as before
pub unaware_of : (k : Config) (live : Live) (holder : ℕ → Holder) (armed : Bool) (past : Snapshot) (marked : Label → Bool) (words : List ℕ) (d : ℕ) (stage : Stage) (share : Share) → stage ≢ In Run → RunsBeside k live holder armed past marked words d stage share → IsUnaware share
unaware_of k live holder armed past marked words d stage share paused h = ⊎_elim (λ (u : IsUnaware share). u) (λ (u : (stage ≡ In Run) × IsTrue armed × AllKnown k live holder past.old marked words share.known). absurd (paused u.0)) h.knows

pub runs_unaware : (k : Config) (live : Live) (holder : ℕ → Holder) (armed : Bool) (past : Snapshot) (marked : Label → Bool) (words : List ℕ) (d : ℕ) (stage : Stage) (share : Share) → IsUnaware share → (IsTrue armed → (r : ℕ) → past.owed d r ≡ false) → RunsBeside k live holder armed past marked words d stage share
runs_unaware k live holder armed past marked words d stage share u none = record {
  knows = inl u;
  owes = λ is r. none is r ∙ sym (ap (λ (w : Option ℕ). is_weak w r) u.1);
}

pub runs_as : (k : Config) (live : Live) (holder : ℕ → Holder) (armed : Bool) (past : Snapshot) (marked : Label → Bool) (words : List ℕ) (d d' : ℕ) (stage stage' : Stage) (share share' : Share) → d' ≡ d → stage' ≡ stage → share' ≡ share
    → RunsBeside k live holder armed past marked words d stage share → RunsBeside k live holder armed past marked words d' stage' share'
runs_as k live holder armed past marked words d d' stage stage' share share' number stands same h = subst (λ (z : ℕ × Stage × Share). RunsBeside k live holder armed past marked words z.0 z.1 z.2) (λ i. (sym number i, sym stands i, sym same i)) h

-- a domain that runs knows what it knew, where only what it owes the darkening of changes
pub knows_weak : (k : Config) (live : Live) (holder : ℕ → Holder) (armed : Bool) (past : Snapshot) (marked : Label → Bool) (words : List ℕ) (stage : Stage) (share : Share) (weak : Option ℕ) → stage ≡ In Run → (weak ≡ None) ⊎ IsTrue armed
    → (share.known ≡ []) ⊎ (IsTrue armed × AllKnown k live holder past.old marked words share.known)
    → IsUnaware (with_weak share weak) ⊎ ((stage ≡ In Run) × IsTrue armed × AllKnown k live holder past.old marked words share.known)
knows_weak k live holder armed past marked words stage share weak runs unweak h = ⊎_elim
    (λ (e : share.known ≡ []). ⊎_elim (λ (n : weak ≡ None). inl (e, n)) (λ (is : IsTrue armed). inr (runs, is, subst (AllKnown k live holder past.old marked words) (sym e) tt)) unweak)
    (λ (u : IsTrue armed × AllKnown k live holder past.old marked words share.known). inr (runs, u.0, u.1)) h

-- where a domain knows that a field is paid, what it referred to when the roots had been darkened is marked
pub paid_marks : (k : Config) (live : Live) (holder : ℕ → Holder) (old : Graph) (marked : Label → Bool) (words : List ℕ) (known : List Known) (b i : ℕ) (p : Place) → AllKnown k live holder old marked words known → IsPaid known b i → live b ≡ Some p → (x : Label) → field_at old p.label i ≡ Some (Block x) → IsTrue (marked x)
paid_marks k live holder old marked words known b i p all paid lives x e = ⊎_elim
    (λ (is : IsKnown known (Done b i)). let h = known_among k live holder old marked words known (Done b i) all is in h.reached x (ap (λ (l : Label). field_at old l i) (same_label_of b h.place h.lives refl) ∙ e))
    (λ (t : (a : ℕ) × IsKnown known (Refers b i a) × IsKnown known (Marked a)).
    let h = known_among k live holder old marked words known (Refers b i t.0) all t.1 in
    let m = known_among k live holder old marked words known (Marked t.0) all t.2 in ⊎_elim
    (λ (is : IsTrue (marked x)). is)
    (λ (same : x ≡ h.target.label). subst (λ (l : Label). IsTrue (marked l)) (sym (same ∙ ap (λ (q : Place). q.label) (place_same t.0 h.target m.place h.there m.lives))) m.is_marked)
    (h.held x (ap (λ (l : Label). field_at old l i) (same_label_of b h.place h.lives refl) ∙ e))) paid where
      place_same : (a : ℕ) (q q' : Place) → live a ≡ Some q → live a ≡ Some q' → q ≡ q'
      place_same a q q' e f = let g : Some q ≡ Some q' = sym e ∙ f in cc

      same_label_of : (a : ℕ) (q : Place) → live a ≡ Some q → a ≡ b → q.label ≡ p.label
      same_label_of a q e at = let g : live b ≡ Some q = subst (λ (n : ℕ). live n ≡ Some q) at e in ap (λ (z : Place). z.label) (place_same b q p g lives)
