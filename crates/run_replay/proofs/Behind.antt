-- What the entries behind a front are, where the front and the history are parts of one another.
use Rattle.std.proofs.Common.{◌≡◌, ◌∙◌, ◌++◌, ◌&&◌, ℕ, Bool, List, [], IsTrue, append_assoc, append-nil, ap, drop, length, refl, sym, subst}
use Rattle.std.proofs.Math.Seq.{drop-append_seam}
use Rattle.std.proofs.lemmas.List.Folds.{list_all-append}
use Rattle.std.specs.List.{list_all}
use Rattle.model_core.specs.declared.entry.Entry.{Entry}
use Rattle.model_core.specs.Fronts.{NoneOf, IsFrontOf, unseen, is_call, is_control}
use Rattle.model_core.specs.History.{IsPrefix, is_entry_of}
use Rattle.model_core.proofs.Graphs.GraphLemmas.{and_parts}
use Rattle.model_core.proofs.Histories.FrontLemmas.{front_trans, front_whole, unseen_rest, unseen_whole}
use Rattle.heap_rule.specs.declared.view.DomainView.{DomainView}
use Rattle.heap_rule.specs.Meeting.{Trails}
use Rattle.heap_rule.specs.Standing.{with_front}
use Rattle.std.specs.Prelude.{not}

-- each entry of two lists passes a test
abbrev pub All : (Entry → Bool) → List Entry → Type 0
All p xs = IsTrue (list_all p xs)

pub all_parts : (p : Entry → Bool) (xs ys : List Entry) → All p (xs ++ ys) → All p xs × All p ys
all_parts p xs ys all = and_parts (list_all p xs) (list_all p ys) (sym (list_all-append p xs ys) ∙ all)

pub all_join : (p : Entry → Bool) (xs ys : List Entry) → All p xs → All p ys → All p (xs ++ ys)
all_join p xs ys a b = list_all-append p xs ys ∙ (λ i. a i && b i)

-- what stands behind a front
pub behind : (old rest new : List Entry) → new ≡ old ++ rest → unseen new old ≡ rest
behind old rest new is = ap (drop (length old)) is ∙ drop-append_seam old rest

-- of a history with a part between
module _ (p : Entry → Bool) (old mid new a b : List Entry) (first : mid ≡ old ++ a) (second : new ≡ mid ++ b) where
  whole : new ≡ old ++ (a ++ b)
  whole = second ∙ (ap (λ (h : List Entry). h ++ b) first ∙ append_assoc old a b)

  pub behind_parts : All p (unseen new old) → All p (unseen mid old) × All p b
  behind_parts all =
      let parts = all_parts p a b (subst (All p) (behind old (a ++ b) new whole) all) in
      (subst (All p) (sym (behind old a mid first)) parts.0, parts.1)

  pub behind_join : All p (unseen mid old) → All p (unseen new mid) → All p (unseen new old)
  behind_join x y = subst (All p) (sym (behind old (a ++ b) new whole)) (all_join p a b (subst (All p) (behind old a mid first) x) (subst (All p) (behind mid b new second) y))

-- a front of a domain, by the entries behind it
pub front_behind : (d : ℕ) (new old rest : List Entry) → new ≡ old ++ rest → NoneOf d (unseen new old) → IsFrontOf d new old
front_behind d new old rest is none = record { rest = rest; appends = is; others = subst (NoneOf d) (behind old rest new is) none }

pub none_behind : (d : ℕ) (new old : List Entry) → IsFrontOf d new old → NoneOf d (unseen new old)
none_behind d new old f = subst (NoneOf d) (sym (unseen_rest d new old f)) f.others

-- what a history has behind the front of a domain each part of it has that the front begins
pub trails_part : (new mid : List Entry) (x : DomainView) → IsPrefix x.seen.front mid → IsPrefix mid new → Trails new x → Trails mid x
trails_part new mid x p q t =
    let parts : (test : Entry → Bool) → All test (unseen new x.seen.front) → All test (unseen mid x.seen.front) × All test q.rest = λ test all. behind_parts test x.seen.front mid new p.rest q.rest p.appends q.appends all in record {
      begins = front_behind x.own.number mid x.seen.front p.rest p.appends (parts (λ e. not (is_entry_of x.own.number e)) (none_behind x.own.number new x.seen.front t.begins)).0;
      calls = λ runs. (parts is_call (t.calls runs)).0;
      led = λ first. (parts (λ e. not (is_control e)) (t.led first)).0;
    }

-- and what it has behind what the domain saw later it has behind what it saw before
pub trails_on : (new mid : List Entry) (x : DomainView) → Trails mid x → Trails new (with_front x mid) → Trails new x
trails_on new mid x t u =
    let join : (test : Entry → Bool) → All test (unseen mid x.seen.front) → All test (unseen new mid) → All test (unseen new x.seen.front) = λ test a b. behind_join test x.seen.front mid new t.begins.rest u.begins.rest t.begins.appends u.begins.appends a b in record {
      begins = front_trans x.own.number new mid x.seen.front u.begins t.begins;
      calls = λ runs. join is_call (t.calls runs) (u.calls runs);
      led = λ first. join (λ e. not (is_control e)) (t.led first) (u.led first);
    }

-- a domain that has seen the whole history
pub trails_whole : (x : DomainView) → Trails x.seen.front x
trails_whole x = record { begins = front_whole x.own.number x.seen.front; calls = λ _. unseen_whole is_call x.seen.front x.seen.front refl; led = λ _. unseen_whole (λ e. not (is_control e)) x.seen.front x.seen.front refl }

-- a part of itself
pub prefix_same : (a : List Entry) → IsPrefix a a
prefix_same a = record { rest = []; appends = sym (append-nil a) }
