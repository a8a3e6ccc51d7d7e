-- A run whose domain moved in the phases, and made no entry.
use Rattle.std.proofs.Common.{◌≡◌, ◌∙◌, ℕ, ◌+◌, ◌<◌, ◌≤◌, Bool, true, false, List, [], ◌∷◌, ◌++◌, append-nil, refl, sym, ap, subst, Option, None, arith, drop, take, length}
use Rattle.std.specs.Prelude.{IsTrue, ◌||◌}
use Rattle.std.specs.List.{list_any}
use Rattle.model_core.specs.declared.entry.Entry.{Entry}
use Rattle.model_core.specs.Domains.{opening}
use Rattle.model_core.specs.History.{IsPrefix, state_after, commands}
use Rattle.model_core.specs.Fronts.{IsFrontOf}
use Rattle.model_core.proofs.Histories.HistoryLemmas.{commands-append, commands-others}
use Rattle.model_core.proofs.Histories.FrontLemmas.{front_whole, keeps_front}
use Rattle.heap_rule.specs.declared.config.Config.{Config}
use Rattle.heap_rule.specs.declared.phase.Kind.{Kind}
use Rattle.heap_rule.specs.declared.view.DomainView.{DomainView}
use Rattle.heap_rule.specs.Limits.{sizes_in}
use Rattle.heap_rule.specs.Token.{Token, SharedHeap, IsIn}
use Rattle.heap_rule.specs.declared.view.Hunt.TheVariants.{Rests}
use Rattle.heap_rule.specs.declared.view.Finalisers.{Finalisers}
use Rattle.step_finalisers.specs.Registering.{count_of}
use Rattle.heap_rule.specs.declared.phase.Progress.{Progress}
use Rattle.run_turns.specs.Pausing.{due_of}
use Rattle.gc_mark.specs.Decks.{DeckCounts, StaysDeck}
use Rattle.gc_mark.specs.Slices.{IsDeckOf}
use Rattle.run_turns.proofs.Kept.{kept_front}
use Rattle.run_turns.specs.Runs.{RunView, AreKept, HasLabels, IsRun, IsBetween, ephemerons_in, registrations_in, is_end_of, most_ran}
use Rattle.run_turns.specs.Sections.{IsInSection}
use Rattle.run_turns.specs.declared.place.Place.TheVariants.{Before}
use Rattle.run_turns.proofs.Owing.{due_on}
use Rattle.run_turns.proofs.Sectioning.{section_on}
use Rattle.run_turns.proofs.Supplying.{ends_as}
use Rattle.heap_words.specs.Remembered.Bounded.{Bounded}

-- the domain made no entry, has the labels, the block in the making and as many finalisers as it had, and room for as many ephemerons or more
pub record Moves (old new : Token) : Type 0 where
  pub config : new.config ≡ old.config
  pub number : new.view.own.number ≡ old.view.own.number
  pub serial : new.view.own.serial ≡ old.view.own.serial
  pub room : old.view.own.ephemerons.room ≤ new.view.own.ephemerons.room
  pub listed : count_of new.view.own.finalisers ≡ count_of old.view.own.finalisers
  pub made : new.view.seen.made ≡ old.view.seen.made
  pub hunt : old.view.seen.hunt ≡ Rests → new.view.seen.hunt ≡ Rests
  pub front : IsFrontOf old.view.own.number new.view.seen.front old.view.seen.front

any_append : (p : Entry → Bool) (xs ys : List Entry) → IsTrue (list_any p xs) → IsTrue (list_any p (xs ++ ys))
any_append p [] ys is = absurd (let clash : false ≡ true = is in cc)
any_append p (x ∷ xs) ys is = more (p x) (list_any p xs) (list_any p (xs ++ ys)) (any_append p xs ys) is
  where
    more : (a b c : Bool) → (IsTrue b → IsTrue c) → IsTrue (a || b) → IsTrue (a || c)
    more true b c f h = refl
    more false b c f h = f h

at_most : (a b c : ℕ) → a ≤ b → b ≤ c → a ≤ c
at_most a b c ab bc = omega arith

same_room : (a b : Bounded ℕ) → b ≡ a → a.room ≤ b.room
same_room a b is = let rooms : b.room ≡ a.room = ap (λ (l : Bounded ℕ). l.room) is in omega arith

-- the deck is still the domain's
pub deck_on : (r : RunView) (new : Token) (hints : DeckCounts) → new.view.own.number ≡ r.token.view.own.number → new.config ≡ r.token.config → StaysDeck r.hints hints → IsDeckOf r.token.config r.token.view r.hints → IsDeckOf new.config new.view hints
deck_on r new hints number config stays is = record { number = stays.number ∙ (is.number ∙ sym number); domains = stays.domains ∙ (is.domains ∙ ap (λ (c : Config). c.domains) (sym config)) }

pub moved_is_run : (r : RunView) (new : Token) (left : Option Kind) (asked : Option ℕ) (collected : Bool) (progress : Progress) (hints : DeckCounts) → IsRun r → StaysDeck r.hints hints → Moves r.token new → (r.place ≡ Before → asked ≡ None) → IsBetween left asked collected progress new → IsRun (record r { token = new; left = left; asked = asked; collected = collected; progress = progress; hints = hints })
moved_is_run r new left asked collected progress hints is stays m unasked between =
    let d : ℕ = r.token.view.own.number in
    let k : Config = r.token.config in
    let old : List Entry = r.token.view.seen.front in
    let rest : List Entry = m.front.rest in
    let made : commands new.view.seen.front d ≡ commands old d =
    ap (λ (h : List Entry). commands h d) m.front.appends ∙ commands-append old rest d ∙ ap (λ t. commands old d ++ t) (commands-others rest d m.front.others) ∙ append-nil (commands old d) in
    record {
      inside = subst (λ (z : ℕ × Config). z.0 < z.1.domains) (λ i. (sym m.number i, sym m.config i)) is.inside;
      made = ends_as r.supply (commands old d) (commands new.view.seen.front new.view.own.number) (take r.next r.commands) (ap (commands new.view.seen.front) m.number ∙ made) is.made;
      answered = subst (λ (w : Config × ℕ). AreKept r.supply (sizes_in w.0) new.view.seen.front w.1 r.replies r.ran) (λ i. (sym m.config i, sym m.number i)) (kept_front r.supply (sizes_in k) d new.view.seen.front old r.replies r.ran m.front is.answered);
      replied = subst (λ (n : ℕ). length r.replies + length r.ran + (n + registrations_in (drop r.next r.commands)) ≤ r.next + most_ran r.supply (registrations_in r.commands) r.spare) (sym m.listed) is.replied;
      within = is.within;
      few = is.few;
      fit = is.fit;
      room = at_most (ephemerons_in (drop r.next r.commands)) r.token.view.own.ephemerons.room new.view.own.ephemerons.room is.room m.room;
      enlists = subst (λ (z : ℕ × Config). z.0 + registrations_in (drop r.next r.commands) ≤ z.1.finals) (λ i. (sym m.listed i, sym m.config i)) is.enlists;
      idle = m.made ∙ is.idle;
      at_rest = m.hunt is.at_rest;
      goes_on = λ running. subst (λ (x : ℕ × Config). (Rattle.model_core.specs.Domains.domain_at (state_after (opening (sizes_in x.1)) new.view.seen.front) x.0).ended ≡ false) (λ i. (sym m.number i, sym m.config i))
          ((keeps_front (opening (sizes_in k)) d new.view.seen.front old m.front).ended ∙ is.goes_on running);
      owes = λ running. subst (λ (c : Config). due_of c new.view ≡ r.due) (sym m.config) (due_on k r.token.view new.view m.number m.front ∙ is.owes running);
      between = between;
      labels = subst (λ (n : ℕ). HasLabels r.supply n r.next r.commands) (sym m.serial) is.labels;
      deck = deck_on r new hints m.number m.config stays is.deck;
      done = is.done;
      over = λ ended. subst (λ (x : ℕ × List Entry). IsTrue (list_any (is_end_of x.0) x.1)) (λ i. (sym m.number i, sym m.front.appends i)) (any_append (is_end_of d) old rest (is.over ended));
      shut = is.shut;
      one = λ handed. let o = is.one handed in record { one = o.one; answered = o.answered };
      section = λ section. subst (λ (w : Config × ℕ). IsInSection w.0 w.1 new.view.seen.front r.place r.commands r.next r.replies) (λ i. (sym m.config i, sym m.number i))
          (section_on k d old new.view.seen.front r.place r.commands r.next r.replies m.front (is.section section));
      as_ever = is.as_ever;
      unasked = unasked;
      told = is.told;
      spares = is.spares ∙ ap (λ (c : Config). c.finals) (sym m.config);
    }

-- the whole token, by its view
pub token_is : (h : SharedHeap) (old new : Token) (view : DomainView) → IsIn old h → IsIn new h → new.view ≡ view → new ≡ record old { view = view }
token_is h old new view a b is = λ i. record { table = (b.0 ∙ sym a.0) i; config = (b.1 ∙ sym a.1) i; view = is i }

-- the domain moved to a view with the same number, labels, listed ephemerons, finalisers and block in the making
pub view_moves : (h : SharedHeap) (old new : Token) (y : DomainView) → IsIn old h → IsIn new h → new.view ≡ y → y.own.number ≡ old.view.own.number → y.own.serial ≡ old.view.own.serial → y.own.ephemerons ≡ old.view.own.ephemerons → y.own.finalisers ≡ old.view.own.finalisers → y.seen.made ≡ old.view.seen.made → y.seen.hunt ≡ old.view.seen.hunt
    → IsFrontOf old.view.own.number y.seen.front old.view.seen.front → Moves old new
view_moves h old new y a b is number serial listed enlisted made hunt front = record {
  config = b.1 ∙ sym a.1;
  number = ap (λ (z : DomainView). z.own.number) is ∙ number;
  serial = ap (λ (z : DomainView). z.own.serial) is ∙ serial;
  room = same_room old.view.own.ephemerons new.view.own.ephemerons (ap (λ (z : DomainView). z.own.ephemerons) is ∙ listed);
  listed = ap (λ (fs : Finalisers). count_of fs) (ap (λ (z : DomainView). z.own.finalisers) is ∙ enlisted);
  made = ap (λ (z : DomainView). z.seen.made) is ∙ made;
  hunt = λ at_rest. ap (λ (z : DomainView). z.seen.hunt) is ∙ (hunt ∙ at_rest);
  front = subst (λ (z : DomainView). IsFrontOf old.view.own.number z.seen.front old.view.seen.front) (sym is) front;
}

-- and has the same front
pub still_moves : (h : SharedHeap) (old new : Token) (y : DomainView) → IsIn old h → IsIn new h → new.view ≡ y → y.own.number ≡ old.view.own.number → y.own.serial ≡ old.view.own.serial → y.own.ephemerons ≡ old.view.own.ephemerons → y.own.finalisers ≡ old.view.own.finalisers → y.seen.made ≡ old.view.seen.made → y.seen.hunt ≡ old.view.seen.hunt
    → y.seen.front ≡ old.view.seen.front → Moves old new
still_moves h old new y a b is number serial listed enlisted made hunt front = view_moves h old new y a b is number serial listed enlisted made hunt (subst (λ (f : List Entry). IsFrontOf old.view.own.number f old.view.seen.front) (sym front) (front_whole old.view.own.number old.view.seen.front))

pub front_prefix : (d : ℕ) (new old : List Entry) → IsFrontOf d new old → IsPrefix old new
front_prefix d new old f = record { rest = f.rest; appends = f.appends }
