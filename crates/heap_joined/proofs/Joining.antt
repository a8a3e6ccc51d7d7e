-- Domains that have met, of which the last is kept.
use Rattle.std.proofs.Common.{◌≡◌, ◌∙◌, ℕ, ◌<◌, List, [], ◌∷◌, ◌++◌, length, refl, sym, ap, subst, arith}
use Rattle.model_core.specs.declared.entry.Entry.{Entry}
use Rattle.model_core.specs.History.{Legal}
use Rattle.heap_rule.specs.declared.config.Config.{Config}
use Rattle.heap_rule.specs.Ending.{AllBegin, AllIn}
use Rattle.heap_rule.specs.Limits.{sizes_in}
use Rattle.heap_rule.specs.Meeting.{MetAll, TakesPart, each_seeing, seeing}
use Rattle.heap_rule.specs.Phases.{Pause}
use Rattle.heap_rule.specs.Token.{SharedHeap, Token, IsIn, views_of}
use Rattle.heap_rule.specs.Views.{AllDomains}
use Rattle.heap_rule.proofs.Ends.{popped}

-- the front of each begins the history
pub all_begin : (history : List Entry) (pause : Pause) (ts : List Token) → AllDomains (TakesPart history pause) (views_of ts) → AllBegin history ts
all_begin history pause [] each = tt
all_begin history pause (t ∷ ts) each = (each.0.trails.begins, all_begin history pause ts each.1)

-- the last of those that have seen the history
last_seeing : (history : List Entry) (old rest : List Token) (last : Token) → each_seeing history old ≡ rest ++ last ∷ [] → last.view.seen.front ≡ history
last_seeing history [] [] last is = absurd (let n = ap length is in omega (arith, n))
last_seeing history [] (r ∷ rest) last is = absurd (let n = ap length is in omega (arith, n))
last_seeing history (t ∷ ts) [] last is = let same : seeing t history ≡ last = cc in ap (λ (z : Token). z.view.seen.front) (sym same)
last_seeing history (t ∷ ts) (r ∷ rest) last is = last_seeing history ts rest last cc

pub front_of_last : (k : Config) (old new rest : List Token) (last : Token) → (m : MetAll k old new) → new ≡ rest ++ last ∷ [] → last.view.seen.front ≡ m.history
front_of_last k old new rest last m is = last_seeing m.history old rest last (sym m.seen ∙ is)

pub none_popped : (h : SharedHeap) (old new : List Token) (k : Config) → 0 < length old → MetAll k old new → length new ≡ 0 → ⊥
none_popped h [] new k some m none = omega (arith, some)
none_popped h (t ∷ ts) new k some m none = let n = ap length m.seen in omega (arith, n, none)

-- and it has all that the ended heap tells
pub legal_last : (h : SharedHeap) (old new rest : List Token) (last : Token) → AllIn h new → MetAll h.config old new → new ≡ rest ++ last ∷ [] → Legal (sizes_in last.config) last.view.seen.front
legal_last h old new rest last here m is =
    let config : last.config ≡ h.config = (popped h new rest last is here).1.1 in
    let front : last.view.seen.front ≡ m.history = front_of_last h.config old new rest last m is in
    subst (λ (w : Config × List Entry). Legal (sizes_in w.0) w.1) (λ i. (sym config i, sym front i)) m.meets.legal

pub begin_last : (h : SharedHeap) (old new rest : List Token) (last : Token) → MetAll h.config old new → new ≡ rest ++ last ∷ [] → AllBegin last.view.seen.front old
begin_last h old new rest last m is = subst (λ (l : List Entry). AllBegin l old) (sym (front_of_last h.config old new rest last m is)) (all_begin m.history m.pause old m.meets.each)
