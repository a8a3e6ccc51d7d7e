-- What the end of a heap makes of its seats.
use Rattle.std.specs.Prelude.{◌≡◌, ℕ, true, List, [], ◌∷◌, ◌++◌, length, IsTrue, refl}
use Rattle.std.proofs.Common.{◌∙◌, sym, ap, subst, append-nil, append_assoc}
use Rattle.std.specs.List.{list_any}
use Rattle.model_core.specs.declared.entry.Entry.{Entry}
use Rattle.model_core.specs.declared.reply.Reply.{Reply}
use Rattle.model_core.specs.declared.state.Sizes.{Sizes}
use Rattle.model_core.specs.History.{IsPrefix, commands, replies}
use Rattle.heap_rule.specs.Limits.{sizes_in}
use Rattle.heap_rule.specs.declared.config.Config.{Config}
use Rattle.heap_rule.specs.Token.{SharedHeap, IsIn, Token}
use Rattle.run_turns.specs.declared.supply.Supply.TheVariants.{Closed}
use Rattle.run_turns.specs.Kept.{finalised}
use Rattle.run_turns.specs.Runs.{AddsRan, RunView, is_end_of}
use Rattle.run_turns.proofs.Adding.{adds_nowhere, adds_on}
use Rattle.run_seats.specs.Seating.{SeatView, heap_of}
use Rattle.run_seats.specs.declared.closing.Closing.{Closing}

-- the history has of a seat's domain the commands that the seat had made, with the replies that it was given, each once and in order, then the replies of the finalisers that waited, and then the end of its trace
pub record Stops (z : Sizes) (history : List Entry) (s : SeatView) : Type 0 where
  pub front : IsPrefix s.front history
  pub commands_are : commands history s.number ≡ commands s.front s.number
  pub ran : List Reply
  pub replies_are : replies z history s.number ≡ replies z s.front s.number ++ ran
  pub ended : IsTrue (list_any (is_end_of s.number) history)

-- these are the replies of a seat's finalisers that ran and weren't taken: those that waited, and then those of the finalisers that ran since
pub record Tells (z : Sizes) (history : List Entry) (s : SeatView) (waited : List Reply) : Type 0 where
  pub more : List Reply
  pub waits : waited ≡ s.ran ++ more
  pub told : finalised z history s.number ≡ finalised z s.front s.number ++ more

abbrev pub TellsEach : Sizes → List Entry → List SeatView → List (List Reply) → Type 0
TellsEach z history [] [] = Unit {0}
TellsEach z history (s ∷ ss) (rs ∷ rss) = Tells z history s rs × TellsEach z history ss rss
TellsEach z history _ _ = ⊥

abbrev pub StopsEach : Sizes → List Entry → List SeatView → Type 0
StopsEach z history [] = Unit {0}
StopsEach z history (s ∷ ss) = Stops z history s × StopsEach z history ss

-- a run that gets no more command
pub record IsClosedIn (h : SharedHeap) (r : RunView) : Type 0 where
  pub here : IsIn r.token h
  pub closed : r.supply ≡ Closed
  pub done : r.next ≡ length r.commands

-- it has made no command since, and these replies are of its finalisers
pub record StaysClosed (old new : RunView) : Type 0 where
  pub config : new.token.config ≡ old.token.config
  pub number : new.token.view.own.number ≡ old.token.view.own.number
  pub front : IsPrefix old.token.view.seen.front new.token.view.seen.front
  pub commands_are : commands new.token.view.seen.front old.token.view.own.number ≡ commands old.token.view.seen.front old.token.view.own.number
  pub adds : AddsRan (sizes_in old.token.config) old new
  pub more : List Reply
  pub replies_are : replies (sizes_in old.token.config) new.token.view.seen.front old.token.view.own.number ≡ replies (sizes_in old.token.config) old.token.view.seen.front old.token.view.own.number ++ more

-- its trace has ended
abbrev pub IsOver : RunView → Type 0
IsOver r = r.ended ≡ true

abbrev pub token_of : Closing → Token
token_of t = t.run.token

-- what waits to be taken of it
abbrev pub ran_of : Closing → List Reply
ran_of t = t.run.ran

-- the run of a seat, which gets no more command
pub record IsClosedOf (s : SeatView) (r : RunView) : Type 0 where
  pub heap : heap_of r ≡ s.heap
  pub number : r.token.view.own.number ≡ s.number
  pub front : r.token.view.seen.front ≡ s.front
  pub ran : r.ran ≡ s.ran
  pub closed : r.supply ≡ Closed
  pub done : r.next ≡ length r.commands

abbrev pub AreClosedFrom : List SeatView → List Closing → Type 0
AreClosedFrom [] [] = Unit {0}
AreClosedFrom (s ∷ ss) (t ∷ ts) = IsClosedOf s t.run × AreClosedFrom ss ts
AreClosedFrom _ _ = ⊥

-- a run that wasn't turned
pub still_closed : (r : RunView) → StaysClosed r r
still_closed r = record { config = refl; number = refl; front = record { rest = []; appends = sym (append-nil r.token.view.seen.front) }; commands_are = refl; adds = adds_nowhere (sizes_in r.token.config) r; more = []; replies_are = sym (append-nil (replies (sizes_in r.token.config) r.token.view.seen.front r.token.view.own.number)) }

-- a run that stayed so twice
pub closed_on : (a b c : RunView) → StaysClosed a b → StaysClosed b c → StaysClosed a c
closed_on a b c p q = record {
  config = q.config ∙ p.config;
  number = q.number ∙ p.number;
  front = record { rest = p.front.rest ++ q.front.rest; appends = q.front.appends ∙ (ap (λ (xs : List Entry). xs ++ q.front.rest) p.front.appends ∙ append_assoc a.token.view.seen.front p.front.rest q.front.rest) };
  commands_are = subst (λ (n : ℕ). commands c.token.view.seen.front n ≡ commands b.token.view.seen.front n) p.number q.commands_are ∙ p.commands_are;
  adds = adds_on (sizes_in a.token.config) a b c p.adds (subst (λ (k : Config). AddsRan (sizes_in k) b c) p.config q.adds);
  more = p.more ++ q.more;
  replies_are =
      let d : ℕ = a.token.view.own.number in
      let z = sizes_in a.token.config in
      let later : replies z c.token.view.seen.front d ≡ replies z b.token.view.seen.front d ++ q.more = subst (λ (w : Config × ℕ). replies (sizes_in w.0) c.token.view.seen.front w.1 ≡ replies (sizes_in w.0) b.token.view.seen.front w.1 ++ q.more) (λ i. (p.config i, p.number i)) q.replies_are in
      later ∙ (ap (λ (rs : List Reply). rs ++ q.more) p.replies_are ∙ append_assoc (replies z a.token.view.seen.front d) p.more q.more);
}
