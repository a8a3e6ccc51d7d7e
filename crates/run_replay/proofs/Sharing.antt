-- Which histories the runs may share, as one of them goes on, as they meet, and as all halt.
use Rattle.std.proofs.Common.{◌≡◌, ◌≢◌, ◌∙◌, ◌++◌, ◌∷◌, ◌<◌, ◌≤◌, ℕ, zero, suc, Bool, true, false, List, [], Option, Some, append_assoc, append-nil, ap, arith, IsTrue, length, not, refl, sym, subst}
use mathlib.Core.Logic.{dite}
use native.Mathlib.Decide.{ℕ_discrete, dec_le}
use Rattle.std.specs.List.{list_any}
use Rattle.std.specs.Prelude.{map, slice_get, slice_set}
use Rattle.model_core.specs.declared.entry.Entry.{Entry}
use Rattle.model_core.specs.declared.reply.Reply.{Reply}
use Rattle.model_core.specs.declared.state.Sizes.{Sizes}
use Rattle.model_core.specs.Domains.{domain_at, opening}
use Rattle.model_core.specs.Fronts.{AreNotControls, IsFrontOf, NoneOf, is_control, unseen}
use Rattle.model_core.specs.History.{IsPrefix, Legal, is_entry_of, replies, state_after}
use Rattle.heap_rule.specs.declared.config.Config.{Config}
use Rattle.heap_rule.specs.Limits.{sizes_in}
use Rattle.heap_rule.specs.Meeting.{Trails}
use Rattle.heap_rule.specs.Standing.{with_front}
use Rattle.run_turns.specs.declared.supply.Supply.{Supply}
use Rattle.run_turns.specs.declared.supply.Supply.TheVariants.{Listed}
use Rattle.run_turns.specs.Runs.{AreKept, RunView, is_end_of}
use Rattle.model_traces.proofs.OfSchedules.Collecting.{legal_parts}
use Rattle.text_script.specs.Schedule.Drive.Together.{Grows, IsShared, OneRun}
use Rattle.run_replay.specs.Gathered.{GatheredView, HasRun, IsGathered, IsHeld, MayShare, Steps, one_run, run_at, seen_in}
use Rattle.run_replay.specs.Leveled.{Leveled, SawAll}
use Rattle.run_replay.proofs.Behind.{All, all_join, all_parts, behind, behind_parts, none_behind, prefix_same, trails_on, trails_part, trails_whole}
use Rattle.run_replay.proofs.Histories.{ended_front, ended_in, none_beyond, quiet, replies_front}
use Rattle.run_replay.proofs.SlotLemmas.{inside as inside_of, one_there}
use Rattle.run_replay.proofs.Places.{set_else, set_here}

-- a history behind a part of it, in which each domain has seen no more: no entry there is a domain's, but for these domains
module _ (z : Sizes) (part rest h : List Entry) (goes : h ≡ part ++ rest) (legal : Legal z h) where
  -- a domain that has seen a part of the part, and has no entry behind it
  pub none_rest : (d : ℕ) (front : List Entry) → IsPrefix front part → NoneOf d (unseen h front) → NoneOf d rest
  none_rest d front p none = (behind_parts (λ e. not (is_entry_of d e)) front part h p.rest rest p.appends goes none).1

  pub controls_rest : (front : List Entry) → IsPrefix front part → AreNotControls (unseen h front) → AreNotControls rest
  controls_rest front p none = (behind_parts (λ e. not (is_control e)) front part h p.rest rest p.appends goes none).1

  -- a number that is no domain's
  pub none_over : (d : ℕ) → z.domains ≤ d → NoneOf d rest
  none_over d above = (all_parts (λ e. not (is_entry_of d e)) part rest (subst (NoneOf d) goes (none_beyond z h d above legal))).1

  pub legal_part : Legal z part
  legal_part = (legal_parts (opening z) part rest (subst (Legal z) goes legal)).0

-- one run went on, which had met all others
module _ (g : GatheredView) (mid : List (Option RunView)) (at : ℕ) (r s : RunView) (own : List Entry) (complete : Bool)
    (here : HasRun mid at r) (count : length mid ≡ g.heap.config.domains) (filled : (d : ℕ) → d < length mid → (q : RunView) × HasRun mid d q)
    (numbers : (d : ℕ) (q : RunView) → HasRun mid d q → q.token.view.own.number ≡ d) (number : s.token.view.own.number ≡ at)
    (below : (d : ℕ) (q : RunView) → HasRun mid d q → IsPrefix q.token.view.seen.front r.token.view.seen.front)
    (st : Steps at r.token.view.seen.front s.token.view.seen.front own) (h : List Entry) (ms : MayShare (record g { runs = slice_set mid at (Some s); complete = complete }) h) where
  abbrev z : Sizes
  z = sizes_in g.heap.config

  abbrev top : List Entry
  top = r.token.view.seen.front

  within : at < length mid
  within = inside_of mid at (Some r) here

  -- the others stand where they stood
  other : (d : ℕ) (q : RunView) → d ≢ at → HasRun mid d q → Trails h q.token.view
  other d q away is = ms.trails d q (set_else mid at d (Some s) away ∙ is)

  mine : Trails h s.token.view
  mine = ms.trails at s (set_here mid at (Some s) within)

  mine_front : IsFrontOf at h s.token.view.seen.front
  mine_front = subst (λ (d : ℕ). IsFrontOf d h s.token.view.seen.front) number mine.begins

  abbrev rest : List Entry
  rest = mine.begins.rest

  abbrev tail : List Entry
  tail = st.before ++ (own ++ (st.after ++ rest))

  goes : h ≡ top ++ tail
  goes = mine.begins.appends ∙ (ap (λ (l : List Entry). l ++ rest) st.appends ∙ (append_assoc top (st.before ++ (own ++ st.after)) rest
      ∙ ap (λ (l : List Entry). top ++ l) (append_assoc st.before (own ++ st.after) rest ∙ ap (λ (l : List Entry). st.before ++ l) (append_assoc own st.after rest))))

  -- of the tail that before and that behind the own entries
  two_parts : (p : Entry → Bool) → All p tail → All p st.before × All p (st.after ++ rest)
  two_parts p all =
      let a = all_parts p st.before (own ++ (st.after ++ rest)) all in
      (a.0, (all_parts p own (st.after ++ rest) a.1).1)

  none_two : (d : ℕ) → NoneOf d st.before × NoneOf d (st.after ++ rest)
  none_two d = dite (ℕ_discrete d at)
      (λ (same : d ≡ at). subst (λ (n : ℕ). NoneOf n st.before × NoneOf n (st.after ++ rest)) (sym same)
      (st.others_before, all_join (λ e. not (is_entry_of at e)) st.after rest st.others_after (subst (λ (n : ℕ). NoneOf n rest) number mine.begins.others)))
      (λ (away : d ≢ at). dite (dec_le (length mid) d)
      (λ (above : length mid ≤ d). two_parts (λ e. not (is_entry_of d e)) (none_over z top tail h goes ms.legal d (let n : ℕ = length mid in let k : ℕ = z.domains in let same : n ≡ k = count in let up : n ≤ d = above in omega arith)))
      (λ (inside : length mid ≤ d → ⊥). let q = filled d (let n : ℕ = length mid in let up : n ≤ d → ⊥ = inside in omega arith) in
      two_parts (λ e. not (is_entry_of d e)) (none_rest z top tail h goes ms.legal d q.0.token.view.seen.front (below d q.0 q.1)
      (subst (λ (n : ℕ). NoneOf n (unseen h q.0.token.view.seen.front)) (numbers d q.0 q.1) (none_behind q.0.token.view.own.number h q.0.token.view.seen.front (other d q.0 away q.1).begins)))))

  controls_two : AreNotControls st.before × AreNotControls (st.after ++ rest)
  controls_two = dite (ℕ_discrete at 0)
      (λ (first : at ≡ 0). (st.led_before first, all_join (λ e. not (is_control e)) st.after rest (st.led_after first) (subst AreNotControls (behind s.token.view.seen.front rest h mine.begins.appends) (mine.led (number ∙ first)))))
      (λ (away : at ≢ 0). let q = filled 0 (let n : ℕ = length mid in let i : at < n = within in omega arith) in
      two_parts (λ e. not (is_control e)) (controls_rest z top tail h goes ms.legal q.0.token.view.seen.front (below 0 q.0 q.1) ((other 0 q.0 (λ e. away (sym e)) q.1).led (numbers 0 q.0 q.1))))

  pub shares_on : MayShare (record g { runs = mid }) top × Grows top own h
  shares_on = (
    record {
      legal = legal_part z top tail h goes ms.legal;
      trails = λ d q is. dite (ℕ_discrete d at)
          (λ (same : d ≡ at). subst (λ (v : RunView). Trails top v.token.view) (one_there mid at r q here (subst (λ (n : ℕ). HasRun mid n q) same is)) (trails_whole r.token.view))
          (λ (away : d ≢ at). trails_part h top q.token.view (below d q is) (record { rest = tail; appends = goes }) (other d q away is));
    },
    record {
      before = st.before;
      after = st.after ++ rest;
      quiet_before = quiet st.before (λ d. (none_two d).0) controls_two.0;
      quiet_after = quiet (st.after ++ rest) (λ d. (none_two d).1) controls_two.1;
      appends = goes ∙ (sym (append_assoc top st.before (own ++ (st.after ++ rest))) ∙ sym (append_assoc (top ++ st.before) own (st.after ++ rest)));
    },
  )

-- the domains have met
pub leveled_shares : (g : GatheredView) (mid : List (Option RunView)) → Leveled g.runs mid → (h : List Entry) → MayShare (record g { runs = mid }) h → MayShare g h
leveled_shares g mid l h ms = record {
  legal = ms.legal;
  trails = λ d q is.
      let r = l.stay d (inside_of g.runs d (Some q) is) in
      let m = l.more d r.0 r.1 in
      let same : m.0 ≡ q = one_there g.runs d m.0 q m.1 is in
      let saw : SawAll l.history l.pause m.0 r.0 = m.2 in
      let later : Trails h (with_front m.0.token.view l.history) = subst (λ (v : RunView). Trails h v.token.view) saw.is (ms.trails d r.0 r.1) in
      subst (λ (v : RunView). Trails h v.token.view) same (trails_on h l.history m.0.token.view saw.part.trails later);
}

-- all have halted: each saw what it saw, and no more, and none makes an entry
module _ (g : GatheredView) (mid : List (Option RunView)) (r0 : RunView)
    (first : HasRun mid 0 r0) (number : r0.token.view.own.number ≡ 0) (count : length mid ≡ g.heap.config.domains) (filled : (d : ℕ) → d < length mid → (q : RunView) × HasRun mid d q)
    (numbers : (d : ℕ) (q : RunView) → HasRun mid d q → q.token.view.own.number ≡ d)
    (same_front : (d : ℕ) (q : RunView) → HasRun mid d q → q.token.view.seen.front ≡ r0.token.view.seen.front)
    (after : GatheredView) (config : after.heap.config ≡ g.heap.config) (still : (d : ℕ) (q : RunView) → HasRun mid d q → (s : RunView) × HasRun after.runs d s × (s.token.view.own.number ≡ q.token.view.own.number) × (s.token.view.seen.front ≡ q.token.view.seen.front))
    (h : List Entry) (ms : MayShare after h) where
  abbrev sizes : Sizes
  sizes = sizes_in g.heap.config

  abbrev seen0 : List Entry
  seen0 = r0.token.view.seen.front

  legal_h : Legal sizes h
  legal_h = subst (λ (k : Config). Legal (sizes_in k) h) config ms.legal

  -- what stands behind the front of each
  begins : (d : ℕ) (q : RunView) → HasRun mid d q → IsFrontOf d h q.token.view.seen.front
  begins d q is =
      let s = still d q is in
      let t : Trails h s.0.token.view = ms.trails d s.0 s.1 in
      subst (λ (p : ℕ × List Entry). IsFrontOf p.0 h p.1) (λ i. ((s.2 ∙ numbers d q is) i, s.3 i)) t.begins

  leads : AreNotControls (unseen h seen0)
  leads =
      let s = still 0 r0 first in
      subst (λ (f : List Entry). AreNotControls (unseen h f)) s.3 ((ms.trails 0 s.0 s.1).led (s.2 ∙ number))

  abbrev behind0 : List Entry
  behind0 = (begins 0 r0 first).rest

  goes0 : h ≡ seen0 ++ behind0
  goes0 = (begins 0 r0 first).appends

  none0 : (d : ℕ) → NoneOf d behind0
  none0 d = dite (dec_le (length mid) d)
      (λ (above : length mid ≤ d). none_over sizes seen0 behind0 h goes0 legal_h d (let n : ℕ = length mid in let k : ℕ = sizes.domains in let same : n ≡ k = count in let up : n ≤ d = above in omega arith))
      (λ (inside : length mid ≤ d → ⊥). let q = filled d (let n : ℕ = length mid in let up : n ≤ d → ⊥ = inside in omega arith) in
      none_rest sizes seen0 behind0 h goes0 legal_h d q.0.token.view.seen.front (subst (IsPrefix q.0.token.view.seen.front) (same_front d q.0 q.1) (prefix_same q.0.token.view.seen.front)) (none_behind d h q.0.token.view.seen.front (begins d q.0 q.1)))

  controls0 : AreNotControls behind0
  controls0 = subst AreNotControls (behind seen0 behind0 h goes0) leads

  pub halted_shares : MayShare (record g { runs = mid }) seen0 × Grows seen0 [] h
  halted_shares = (
    record {
      legal = legal_part sizes seen0 behind0 h goes0 legal_h;
      trails = λ d q is. subst (λ (f : List Entry). Trails f q.token.view) (same_front d q is) (trails_whole q.token.view);
    },
    record { before = []; after = behind0; quiet_before = refl; quiet_after = quiet behind0 none0 controls0; appends = goes0 ∙ ap (λ (l : List Entry). l ++ behind0) (sym (append-nil seen0) ∙ sym (append-nil (seen0 ++ []))) },
  )

-- what they say of themselves is true in each history that they may share
listed_is : (supply : Supply) (z : Sizes) (front : List Entry) (d : ℕ) (said ran : List Reply) → supply ≡ Listed → AreKept supply z front d said ran → replies z front d ≡ said
listed_is supply z front d said ran is kept = let listed : (replies z front d ≡ said) × (ran ≡ []) = subst (λ (s : Supply). AreKept s z front d said ran) is kept in listed.0

map_run : (runs : List (Option RunView)) (d : ℕ) (x : OneRun) (r : RunView) → HasRun runs d r → slice_get (map run_at runs) d ≡ Some x → x ≡ one_run r
map_run [] d x r is at = cc
map_run (o ∷ os) zero x r is at = let here : o ≡ Some r = cc in let there : run_at o ≡ x = cc in sym there ∙ ap run_at here
map_run (o ∷ os) (suc d) x r is at = map_run os d x r is at

map_within : (runs : List (Option RunView)) (d : ℕ) (x : OneRun) → slice_get (map run_at runs) d ≡ Some x → d < length runs
map_within [] d x at = cc
map_within (o ∷ os) zero x at = omega arith
map_within (o ∷ os) (suc d) x at = let within = map_within os d x at in omega arith

module _ (g : GatheredView) (all : IsGathered g) (h : List Entry) (ms : MayShare g h) where
  abbrev of_heap : Sizes
  of_heap = sizes_in g.heap.config

  module _ (d : ℕ) (r : RunView) (is : HasRun g.runs d r) where
    held : IsHeld g d r
    held = all.held d r is

    front : IsFrontOf d h r.token.view.seen.front
    front = subst (λ (n : ℕ). IsFrontOf n h r.token.view.seen.front) held.number (ms.trails d r is).begins

    config : r.token.config ≡ g.heap.config
    config = held.here.1

    replies_are : r.replies ≡ replies of_heap h d
    replies_are =
        sym (listed_is r.supply (sizes_in r.token.config) r.token.view.seen.front r.token.view.own.number r.replies r.ran held.listed held.is.answered)
        ∙ ((λ i. replies (sizes_in (config i)) r.token.view.seen.front (held.number i)) ∙ sym (replies_front of_heap d h r.token.view.seen.front front))

    ended_is : r.ended ≡ (domain_at (state_after (opening of_heap) h) d).ended
    ended_is = go r.ended refl where
      go : (b : Bool) → r.ended ≡ b → r.ended ≡ (domain_at (state_after (opening of_heap) h) d).ended
      go true over =
          let at_front : (domain_at (state_after (opening of_heap) r.token.view.seen.front) d).ended ≡ true =
          ended_in of_heap r.token.view.seen.front d (legal_part of_heap r.token.view.seen.front front.rest h front.appends ms.legal) (subst (λ (n : ℕ). IsTrue (list_any (is_end_of n) r.token.view.seen.front)) held.number (held.is.over over)) in
          over ∙ sym (ended_front of_heap d h r.token.view.seen.front front ∙ at_front)
      go false runs =
          let at_front : (domain_at (state_after (opening of_heap) r.token.view.seen.front) d).ended ≡ false =
          subst (λ (p : Config × ℕ). (domain_at (state_after (opening (sizes_in p.0)) r.token.view.seen.front) p.1).ended ≡ false) (λ i. (config i, held.number i)) (held.is.goes_on runs) in
          runs ∙ sym (ended_front of_heap d h r.token.view.seen.front front ∙ at_front)

  pub shared_is : IsShared (seen_in g) h
  shared_is = record {
    legal = ms.legal;
    replies = λ d x at. let r = all.filled d (map_within g.runs d x at) in ap (λ (o : OneRun). o.replies) (map_run g.runs d x r.0 r.1 at) ∙ replies_are d r.0 r.1;
    ended = λ d x at. let r = all.filled d (map_within g.runs d x at) in ap (λ (o : OneRun). o.ended) (map_run g.runs d x r.0 r.1 at) ∙ ended_is d r.0 r.1;
  }
