-- What a deck counts while its own hints are taken.
use Rattle.std.proofs.Common.{◌≡◌, ◌∙◌, Bool, refl, ap}
use Rattle.gc_mark.specs.Decks.{DeckCounts, Missed, TakesOwn, Took, missed_at}

-- a deck with these counts of misses and of hints that were taken
same_but : (l n : DeckCounts) → n.number ≡ l.number → n.domains ≡ l.domains → n.pushes ≡ l.pushes → n.early ≡ l.early → n ≡ record l { misses = n.misses; taken = n.taken; is_dry = n.is_dry }
same_but l n number domains pushes early i = record { number = number i; domains = domains i; misses = n.misses; taken = n.taken; pushes = pushes i; is_dry = n.is_dry; early = early i }

pub takes_none : (l : DeckCounts) → TakesOwn l l
takes_none l = record { same = refl; others = λ d other. refl }

-- one more was taken
pub takes_took : (is_dry : Bool) (l m n : DeckCounts) → TakesOwn l m → Took is_dry m n → n.early ≡ m.early → TakesOwn l n
takes_took is_dry l m n w t early = record {
  same = same_but l n
      (ap (λ (c : DeckCounts). c.number) t.same ∙ ap (λ (c : DeckCounts). c.number) w.same)
      (ap (λ (c : DeckCounts). c.domains) t.same ∙ ap (λ (c : DeckCounts). c.domains) w.same)
      (ap (λ (c : DeckCounts). c.pushes) t.same ∙ ap (λ (c : DeckCounts). c.pushes) w.same)
      (early ∙ ap (λ (c : DeckCounts). c.early) w.same);
  others = λ d other. ap (λ (c : DeckCounts). missed_at c d) t.same ∙ w.others d other;
}

-- or none was found
pub takes_missed : (is_dry : Bool) (l m n : DeckCounts) → TakesOwn l m → Missed m.number is_dry m n → n.early ≡ m.early → TakesOwn l n
takes_missed is_dry l m n w t early = record {
  same = same_but l n
      (ap (λ (c : DeckCounts). c.number) t.same ∙ ap (λ (c : DeckCounts). c.number) w.same)
      (ap (λ (c : DeckCounts). c.domains) t.same ∙ ap (λ (c : DeckCounts). c.domains) w.same)
      (ap (λ (c : DeckCounts). c.pushes) t.same ∙ ap (λ (c : DeckCounts). c.pushes) w.same)
      (early ∙ ap (λ (c : DeckCounts). c.early) w.same);
  others = λ d other. t.others d (λ e. other (e ∙ ap (λ (c : DeckCounts). c.number) w.same)) ∙ w.others d other;
}
