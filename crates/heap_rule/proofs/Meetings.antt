-- Domains at one seat meet: they see one history, and stand in one pause.
use Rattle.std.proofs.Common.{not, ◌≡◌, ◌≢◌, ℕ, ◌+◌, ◌≤◌, List, [], ◌∷◌, ◌++◌, Option, Some, None, set, sym, refl, ap, ◌∙◌, subst}
use mathlib.Core.Option.{some}
use lib.ListN.{get_elem?}
use Rattle.atomic_table.specs.Table.{Me, keeps}
use Rattle.model_core.specs.declared.entry.Entry.{Entry}
use Rattle.model_core.specs.Fronts.{is_control}
use Rattle.model_core.proofs.Histories.FrontLemmas.{front_whole, unseen_whole}
use Rattle.heap_rule.specs.declared.config.Config.{Config}
use Rattle.heap_rule.specs.declared.view.DomainView.{DomainView}
use Rattle.heap_rule.specs.declared.view.View.{View}
use Rattle.heap_rule.specs.Copies.{Owes}
use Rattle.heap_rule.specs.Places.{Place, Live}
use Rattle.heap_rule.specs.Raw.{MayLoadAll, LeavesAll, SameOwn}
use Rattle.heap_rule.specs.Rule.{Account, Rule, Good}
use Rattle.heap_rule.specs.Standing.{with_front}
use Rattle.heap_rule.specs.Token.{Token, SharedHeap, IsIn, views_of}
use Rattle.heap_rule.specs.Ending.{AllIn}
use Rattle.heap_rule.specs.Views.{AllDomains, Distinct, IsSeated, Knows, TellsAll, domain_in, joined, rest_of, several}
use Rattle.heap_rule.specs.Meeting.{IsNear, InOnePause, Levels, Meeting, Met, MetAll, SameCopies, TakesPart, all_seeing, each_seeing, seeing}
use Rattle.heap_rule.specs.Phases.{Agree}
use Rattle.heap_rule.proofs.Among.{acts_among}
use Rattle.heap_rule.proofs.Keeps.{Words, unmoved, whole_still}
use Rattle.heap_rule.proofs.Lists.{domains_map, domains_with}
use Rattle.heap_rule.proofs.PauseFacts.{agree}
use Rattle.heap_rule.proofs.Seats.{rewrites}

-- a domain has arrived as often as the number of the phase, or once more
near : (k : Config) (s : Words) (r : Rule k s) (id : ℕ) (x : DomainView) → IsSeated k r.account.log r.seat id x → Good k r.account s.words x → IsNear r.account.pause x
near k s r id x y g =
    let each = r.whole.phases.each x.own.number y.inside in
    (subst (λ n. r.account.pause.phase ≤ n) (sym g.staged.arrivals) each.0, subst (λ n. n ≤ r.account.pause.phase + 1) (sym g.staged.arrivals) each.1)

-- a head forwards to one copy
same_copies : (k : Config) (live : Live) (x y : DomainView) → Owes k live x → Owes k live y → SameCopies x y
same_copies k live x y o w young c d has has' = let u = o.copied young c has in let v = w.copied young d has' in one_copy c d (sym u.forwards ∙ (ap (λ (o : Option Place). forward_in o) (sym u.lives ∙ v.lives) ∙ v.forwards))
  where
    forward_in : Option Place → Option ℕ
    forward_in None = None
    forward_in (Some p) = p.forward

    one_copy : (c d : ℕ) → Some c ≡ Some d → c ≡ d
    one_copy c d e = cc

-- what the rule says of a domain doesn't depend on how much of the history it has seen
pub good_seeing : (k : Config) (all : Account) (words : List ℕ) (x : DomainView) → Good k all words x → Good k all words (with_front x all.log)
good_seeing k all words x g = record {
  stood = record { wide = g.stood.wide; each = g.stood.each; serial = g.stood.serial; enrolled = g.stood.enrolled };
  area = record { room = g.area.room; free = g.area.free; classes = g.area.classes };
  making = record { fits = g.making.fits; written = g.making.written };
  staged = record { arrivals = g.staged.arrivals; stage = g.staged.stage };
  still = whole_still all.log (with_front x all.log) refl;
  hunter = record {
    hunt = g.hunter.hunt;
    drawn_alone = g.hunter.drawn_alone;
    taken = g.hunter.taken;
    free = g.hunter.free;
    holds = g.hunter.holds;
    prepared = g.hunter.prepared;
    claims = g.hunter.claims;
    supply = g.hunter.supply;
    spare = g.hunter.spare;
  };
  resting = record { hunt = g.resting.hunt; free = g.resting.free; spare = g.resting.spare; lists = g.resting.lists };
  took_back = g.took_back;
  owes = record {
    quiet = g.owes.quiet;
    knows = g.owes.knows;
    copied = g.owes.copied;
    owed = λ i o at. let owed = g.owes.owed i o at in record { place = owed.place; lives = owed.lives; debt = owed.debt };
    once = g.owes.once;
    listed = g.owes.listed;
    recalled = g.owes.recalled;
    fields = g.owes.fields;
  };
  rooted = g.rooted;
  set_back = g.set_back;
  sharing = g.sharing;
  listed = g.listed;
  sweeps = g.sweeps;
}

pub all_good : (k : Config) (all : Account) (words : List ℕ) (xs : List DomainView) → AllDomains (Good k all words) xs → AllDomains (Good k all words) (all_seeing all.log xs)
all_good k all words [] g = tt
all_good k all words (x ∷ xs) g = (good_seeing k all words x g.0, all_good k all words xs g.1)

pub all_seated : (k : Config) (log : List Entry) (seat : ℕ → ℕ) (id : ℕ) (xs : List DomainView) → AllDomains (IsSeated k log seat id) xs → AllDomains (IsSeated k log seat id) (all_seeing log xs)
all_seated k log seat id [] a = tt
all_seated k log seat id (x ∷ xs) a = (record { inside = a.0.inside; here = a.0.here; front = front_whole x.own.number log; led = λ _. unseen_whole (λ e. not (is_control e)) log log refl }, all_seated k log seat id xs a.1)

all_config : (k : Config) (c : Config) (log : List Entry) (xs : List DomainView) → AllDomains (λ _. c ≡ k) xs → AllDomains (λ _. c ≡ k) (all_seeing log xs)
all_config k c log [] all = tt
all_config k c log (x ∷ xs) all = (all.0, all_config k c log xs all.1)

pub others_apart : (n : ℕ) (log : List Entry) (xs : List DomainView) → AllDomains (λ y. y.own.number ≢ n) xs → AllDomains (λ y. y.own.number ≢ n) (all_seeing log xs)
others_apart n log [] a = tt
others_apart n log (x ∷ xs) a = (a.0, others_apart n log xs a.1)

all_distinct : (log : List Entry) (xs : List DomainView) → Distinct xs → Distinct (all_seeing log xs)
all_distinct log [] d = tt
all_distinct log (x ∷ xs) d = (others_apart x.own.number log xs d.0, all_distinct log xs d.1)

-- what a seat knows whose domains have seen the whole history
pub knows_seeing : (k : Config) (log : List Entry) (seat : ℕ → ℕ) (id : ℕ) (v : View) → Knows k log seat id v → Knows k log seat id (record v { domains = all_seeing log v.domains })
knows_seeing k log seat id v mine = record {
  config = all_config k v.config log v.domains mine.config;
  history = mine.history;
  domains = all_seated k log seat id v.domains mine.domains;
  distinct = all_distinct log v.domains mine.distinct;
}

-- the domains of a seat meet at the whole history, in the pause of the rule
pub meeting : (k : Config) (s : Words) (r : Rule k s) (id : ℕ) (v : View) → get_elem? s.views id ≡ some v → Meeting k r.account.log r.account.pause v.domains
meeting k s r id v at =
    let good = r.good id v at in record {
      legal = r.whole.legal;
      each = domains_with (IsSeated k r.account.log r.seat id) (Good k r.account s.words) (TakesPart r.account.log r.account.pause) v.domains
          (λ x y g. record { trails = record { begins = y.front; calls = g.still.1; led = y.led }; staged = g.staged; near = near k s r id x y g }) (r.views id v at).domains good;
      copies = domains_map (Good k r.account s.words) (λ x. AllDomains (SameCopies x) v.domains) v.domains
          (λ x g. domains_map (Good k r.account s.words) (SameCopies x) v.domains (λ y h. same_copies k r.account.live x y g.owes h.owes) good) good;
      acts = acts_among k s r id v at;
    }

pub levels : (k : Config) (xs : List DomainView) (word : ℕ) → MayLoadAll k xs word (Levels k)
levels k xs word slots id hist s r _ at _ =
    let v = several k hist xs in
    let w : View = record v { domains = all_seeing r.account.log xs } in (
      w,
      keeps,
      tt,
      unmoved k s word (set s.views id w) (rewrites k s r id w (knows_seeing k r.account.log r.seat id v (r.views id v at)) (all_good k r.account s.words xs (r.good id v at))),
      (record { history = r.account.log; pause = r.account.pause; meets = meeting k s r id v at; seen = refl }, refl),
    )

-- the plain data stays
pub own_seeing : (history : List Entry) (xs : List DomainView) → SameOwn xs (all_seeing history xs)
own_seeing history [] = tt
own_seeing history (x ∷ xs) = (refl, own_seeing history xs)

pub levels_leaves : (k : Config) (xs : List DomainView) → LeavesAll xs (Levels k)
levels_leaves k xs found ys l = subst (SameOwn xs) (sym l.seen) (own_seeing l.history xs)

-- a token of the heap whose domain has seen this history
token_seeing : (h : SharedHeap) (history : List Entry) (t u : Token) → IsIn t h → IsIn u h → u.view ≡ with_front t.view history → u ≡ seeing t history
token_seeing h history t u was here view = let table = here.0 ∙ sym was.0 in let config = here.1 ∙ sym was.1 in λ i. record { table = table i; config = config i; view = view i }

pub tokens_seeing : (h : SharedHeap) (history : List Entry) (old new : List Token) → AllIn h old → AllIn h new → views_of new ≡ all_seeing history (views_of old) → new ≡ each_seeing history old
tokens_seeing h history [] [] was here seen = refl
tokens_seeing h history [] (y ∷ ys) was here seen = cc
tokens_seeing h history (x ∷ xs) [] was here seen = cc
tokens_seeing h history (x ∷ xs) (y ∷ ys) was here seen =
    let first = token_seeing h history x y was.0 here.0 (ap domain_in seen) in
    let rest = tokens_seeing h history xs ys was.1 here.1 (ap rest_of seen) in
    λ i. first i ∷ rest i

pub met_all : (k : Config) (h : SharedHeap) (old new : List Token) (found : ℕ) → AllIn h old → AllIn h new → Levels k (views_of old) found (views_of new) → MetAll k old new
met_all k h old new found was here l = record { history = l.history; pause = l.pause; meets = l.meets; seen = tokens_seeing h l.history old new was here l.seen }

-- two that have met agree, stand in one pause, and know of one copy of a block
pub two_agree : (k : Config) (x y : DomainView) (found : ℕ) (ys : List DomainView) → Levels k (x ∷ y ∷ []) found ys → Agree x.seen.stage y.seen.stage
two_agree k x y found ys l = agree l.pause x.own.number y.own.number x.own.arrivals y.own.arrivals x.seen.stage y.seen.stage l.meets.each.0.staged.stage l.meets.each.1.0.staged.stage

pub two_paused : (k : Config) (x y : DomainView) (found : ℕ) (ys : List DomainView) → Levels k (x ∷ y ∷ []) found ys → InOnePause x y
two_paused k x y found ys l = let first = l.meets.each.0 in let second = l.meets.each.1.0 in record { pause = l.pause; first = first.staged; second = second.staged; first_near = first.near; second_near = second.near }

pub two_copies : (k : Config) (x y : DomainView) (found : ℕ) (ys : List DomainView) → Levels k (x ∷ y ∷ []) found ys → SameCopies x x × SameCopies x y × SameCopies y y
two_copies k x y found ys l = let same = l.meets.copies in (same.0.0, same.0.1.0, same.1.0.1.0)

pub two_met : (k : Config) (h : SharedHeap) (a b new_a new_b : Token) (found : ℕ) → IsIn a h × IsIn b h → IsIn new_a h × IsIn new_b h → Levels k (a.view ∷ b.view ∷ []) found (new_a.view ∷ new_b.view ∷ []) → Met k a b new_a new_b
two_met k h a b new_a new_b found was here l = record {
  history = l.history;
  legal = l.meets.legal;
  first = l.meets.each.0.trails;
  second = l.meets.each.1.0.trails;
  first_is = token_seeing h l.history a new_a was.0 here.0 (ap domain_in l.seen);
  second_is = token_seeing h l.history b new_b was.1 here.1 (ap (λ (ys : List DomainView). domain_in (rest_of ys)) l.seen);
}

-- what the load tells of a seat to which another was joined, each of one domain
pub two_told : (k : Config) (a b m n : Me (Unit {0}) View) (x y : DomainView) (found : ℕ) → a.0.domains ≡ x ∷ [] → b.0.domains ≡ y ∷ [] → m ≡ (joined a.0 b.0, a.1) → TellsAll (Levels k) m found n → Levels k (x ∷ y ∷ []) found n.0.domains
two_told k a b m n x y found one two both told = subst (λ (xs : List DomainView). Levels k xs found n.0.domains) (ap (λ (u : Me (Unit {0}) View). u.0.domains) both ∙ (λ i. one i ++ two i)) told.0
