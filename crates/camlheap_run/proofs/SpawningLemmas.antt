-- The runs of a script with spawns, from the start of its heap to its end.
use Rattle.std.proofs.Math.Nat.{le-max_left, le-max_right}
use Rattle.std.proofs.Common.{◌≡◌, ◌≢◌, ℕ, zero, suc, ◌+◌, ◌<◌, ◌≤◌, Bool, true, false, List, [], ◌∷◌, ◌++◌, length, map, take, get_or, refl, sym, ap, ◌∙◌, subst, arith, Some, None}
use Rattle.std.specs.Prelude.{Option, IsTrue, flat_map, slice_get, slice_index_or}
use Rattle.std.specs.List.{list_any}
use Rattle.std.specs.Io.KnownBytes.{Appends}
use Rattle.std.proofs.lemmas.List.{take_all}
use Rattle.std.proofs.lemmas.Option.{none-some, same_Some, slice_get-get_or, slice_get_within}
use Rattle.model_core.specs.declared.command.Command.{Command}
use Rattle.model_core.specs.declared.entry.Entry.{Entry}
use Rattle.model_core.specs.declared.reply.Reply.{Reply}
use Rattle.model_core.specs.declared.state.Sizes.{Sizes}
use Rattle.model_core.specs.Domains.{IsWithinLimits, opening}
use Rattle.model_core.specs.Fronts.{IsFrontOf}
use Rattle.model_core.specs.History.{Legal, state_after}
use Rattle.model_core.specs.Output.{line, output, printed}
use Rattle.text_script.specs.declared.version.Version.{Version}
use Rattle.text_script.specs.declared.version.Version.TheVariants.{One, Two, Three}
use Rattle.text_script.specs.Forms.{version_number}
use Rattle.text_script.specs.Script.{Scripted}
use Rattle.text_script.specs.Spawning.{is_spawned}
use Rattle.text_script.specs.Spelling.{heading_text}
use Rattle.heap_rule.specs.declared.config.Config.{Config}
use Rattle.heap_rule.specs.Limits.{first_outside, sizes_in}
use Rattle.heap_rule.specs.Token.{Token, SharedHeap, IsIn}
use Rattle.heap_rule.proofs.Sizes.{within as within_limits}
use Rattle.heap_rule.specs.Ending.{EndedHeap, Begins}
use Rattle.gc_mark.specs.Decks.{DeckCounts, uncounted}
use Rattle.model_traces.specs.Spawns.Expansion.{IsScriptRun, IsSection, steps_from, AreFitting}
use Rattle.model_traces.specs.Spawns.Hidden.{prelude}
use Rattle.model_traces.specs.Spawns.Printed.{printed_replies, spawning_output, spawning_section_text}
use Rattle.model_traces.specs.Spawns.Joined.{IsJoined}
use Rattle.model_traces.specs.Spawns.Progress.{IsSoFar}
use Rattle.model_traces.proofs.OfSpawns.Progressing.{whole_spawned, whole_first}
use Rattle.do_spawn.specs.Opening.{IsOpened}
use Rattle.run_turns.specs.declared.place.Place.{Place}
use Rattle.run_turns.specs.declared.place.Place.TheVariants.{AsEver, Before, Within, Behind}
use Rattle.run_turns.specs.declared.supply.Supply.TheVariants.{Section}
use Rattle.run_turns.specs.Runs.{RunView, IsRun, ephemerons_in, first_place, is_end_of, registrations_in}
use Rattle.run_turns.specs.Sections.{AllFitIn, IsInSection, IsTold, is_spawned_at, place_in}
use Rattle.run_turns.proofs.Opened.{opened_begins}
use Rattle.text_script.specs.Spawned.Reads.{IsRead, HasMadeSection, AreTold as FrontsAreTold}
use Rattle.text_script.proofs.OfSpawned.Reading.{join, fronts}
use Rattle.camlheap_run.specs.declared.run.begin.Begun.{Begun}
use Rattle.camlheap_run.specs.declared.write.report.Report.TheVariants.{Replies}
use Rattle.camlheap_run.specs.Run.{IsRunOf, IsSpawningRunOf, is_run_of, output_of}
use Rattle.camlheap_run.specs.Running.{AreDriven, BeginsSection, DrivesToEnd, IsPastOf, IsSectioned, MayBeginSections, deck_of, most_of, sectioned_each, sectioned_with}
use Rattle.text_ends.specs.Writing.{AppendsFront}
use Rattle.camlheap_run.specs.Writing.{run_text}
use Rattle.camlheap_run.specs.Outcome.{WritesRunBy, WritesFrontOfRunBy}
use Rattle.camlheap_run.proofs.RunLemmas.{begins_at, each_from_all, ends_in, texts}

-- a run of a script of an older version, and of the third
pub older_run : (ver : Version) (z : Sizes) (script : List (List Command)) (ended : Option EndedHeap) (before after : Option (List ℕ)) → version_number ver ≢ 3 → WritesRunBy IsRunOf output z script ended before after
    → WritesRunBy (is_run_of ver) (output_of ver) z script ended before after
older_run One z script ended before after other w = w
older_run Two z script ended before after other w = w
older_run Three z script ended before after other w = absurd (other refl)

pub older_front : (ver : Version) (z : Sizes) (script : List (List Command)) (ended : Option EndedHeap) (before after : Option (List ℕ)) → version_number ver ≢ 3 → WritesFrontOfRunBy IsRunOf output z script ended before after
    → WritesFrontOfRunBy (is_run_of ver) (output_of ver) z script ended before after
older_front One z script ended before after other w = w
older_front Two z script ended before after other w = w
older_front Three z script ended before after other w = absurd (other refl)

pub third_run : (ver : Version) (z : Sizes) (script : List (List Command)) (ended : Option EndedHeap) (before after : Option (List ℕ)) → version_number ver ≡ 3 → WritesRunBy IsSpawningRunOf spawning_output z script ended before after
    → WritesRunBy (is_run_of ver) (output_of ver) z script ended before after
third_run One z script ended before after is w = absurd (omega arith)
third_run Two z script ended before after is w = absurd (omega arith)
third_run Three z script ended before after is w = w

pub third_front : (ver : Version) (z : Sizes) (script : List (List Command)) (ended : Option EndedHeap) (before after : Option (List ℕ)) → version_number ver ≡ 3 → WritesFrontOfRunBy IsSpawningRunOf spawning_output z script ended before after
    → WritesFrontOfRunBy (is_run_of ver) (output_of ver) z script ended before after
third_front One z script ended before after is w = absurd (omega arith)
third_front Two z script ended before after is w = absurd (omega arith)
third_front Three z script ended before after is w = w

-- what was opened is the heap's
opened_in : (h : SharedHeap) (d : ℕ) (t : Token) → IsOpened h d t → IsIn t h
opened_in h d t o = o.began.runs.here

opened_number : (h : SharedHeap) (d : ℕ) (t : Token) → IsOpened h d t → t.view.own.number ≡ d
opened_number h d t o = o.began.keeps.number

opened_config : (h : SharedHeap) (d : ℕ) (t : Token) → IsOpened h d t → t.config ≡ h.config
opened_config h d t o = (opened_in h d t o).1

-- each of the domains may begin its section
pub may_sections : (h : SharedHeap) (from : ℕ) (ts : List Token) (sections : List (List Command)) → length sections ≡ length ts → from + length ts ≤ h.config.domains → h.config.domains ≤ 8
    → ((i : ℕ) (t : Token) → slice_get ts i ≡ Some t → IsOpened h (from + i) t) → ((i : ℕ) → length (slice_index_or sections i []) ≤ 200000) → ((i : ℕ) → AllFitIn Section (slice_index_or sections i []))
    → ((i : ℕ) → AreFitting (from + i) (slice_index_or sections i [])) → most_of ephemerons_in sections ≤ h.config.ephes → most_of registrations_in sections ≤ h.config.finals → MayBeginSections ts sections
may_sections h from [] sections many few small opened short fit fitting ephemerons registrations = tt
may_sections h from (t ∷ ts) [] many few small opened short fit fitting ephemerons registrations = absurd (omega arith)
may_sections h from (t ∷ ts) (cs ∷ sections) many few small opened short fit fitting ephemerons registrations =
    let here : from + 0 ≡ from = omega arith in (
      opened_begins h from t cs (subst (λ (d : ℕ). IsOpened h d t) here (opened 0 t refl)) (omega arith) small (short 0) (fit 0) (subst (λ (d : ℕ). AreFitting d cs) here (fitting 0))
          (omega (arith, le-max_left (ephemerons_in cs) (most_of ephemerons_in sections), ephemerons)) (omega (arith, le-max_left (registrations_in cs) (most_of registrations_in sections), registrations)),
      may_sections h (from + 1) ts sections (omega (arith, many)) (omega arith) small
          (λ i s at. let on : from + suc i ≡ (from + 1) + i = omega arith in subst (λ (d : ℕ). IsOpened h d s) on (opened (suc i) s at)) (λ i. short (suc i)) (λ i. fit (suc i))
          (λ i. let on : from + suc i ≡ (from + 1) + i = omega arith in subst (λ (d : ℕ). AreFitting d (slice_index_or sections i [])) on (fitting (suc i)))
          (omega (arith, le-max_right (ephemerons_in cs) (most_of ephemerons_in sections), ephemerons)) (omega (arith, le-max_right (registrations_in cs) (most_of registrations_in sections), registrations)),
    )

-- the decks that are made are theirs
pub opened_decks : (h : SharedHeap) (from : ℕ) (ts : List Token) (decks : List DeckCounts) → length decks ≡ length ts → ((i : ℕ) (t : Token) → slice_get ts i ≡ Some t → IsOpened h (from + i) t)
    → ((i : ℕ) (d : DeckCounts) → i < length ts → slice_index_or decks i d ≡ uncounted (from + i) h.config.domains) → decks ≡ map deck_of ts
opened_decks h from [] [] many opened each = refl
opened_decks h from [] (x ∷ xs) many opened each = absurd (omega arith)
opened_decks h from (t ∷ ts) [] many opened each = absurd (omega arith)
opened_decks h from (t ∷ ts) (x ∷ xs) many opened each =
    let o = opened 0 t refl in
    let number : t.view.own.number ≡ from + 0 = opened_number h (from + 0) t o in
    let first : x ≡ deck_of t = each 0 x (omega arith) ∙ (λ i. uncounted (sym number i) (sym (opened_config h (from + 0) t o) i).domains) in
    let rest : xs ≡ map deck_of ts = opened_decks h (from + 1) ts xs (omega (arith, many))
    (λ i s at. let on : from + suc i ≡ (from + 1) + i = omega arith in subst (λ (d : ℕ). IsOpened h d s) on (opened (suc i) s at))
    (λ i d below. let on : from + suc i ≡ (from + 1) + i = omega arith in each (suc i) d (omega (arith, below)) ∙ ap (λ (j : ℕ). uncounted j h.config.domains) on) in
    (λ i. first i ∷ rest i)

-- the runs that are made of the sections
pub sections_count : (marks : List Bool) (ts : List Token) (sections : List (List Command)) → length sections ≡ length ts → length (sectioned_each marks ts sections) ≡ length ts
sections_count marks [] sections many = refl
sections_count marks (t ∷ ts) [] many = absurd (omega arith)
sections_count marks (t ∷ ts) (cs ∷ sections) many = ap suc (sections_count marks ts sections (omega (arith, many)))

-- where a list is made of two others, pair by pair, each of its items is made of a pair
each_at : {A B C : Type 0} (f : A → B → C) (d : B) (g : List A → List B → List C) → ((ss : List B) → g [] ss ≡ []) → ((t : A) (ts : List A) → g (t ∷ ts) [] ≡ []) → ((t : A) (ts : List A) (s : B) (ss : List B) → g (t ∷ ts) (s ∷ ss) ≡ f t s ∷ g ts ss)
    → (ts : List A) (ss : List B) (i : ℕ) (r : C) → slice_get (g ts ss) i ≡ Some r → (t : A) × (slice_get ts i ≡ Some t) × (r ≡ f t (slice_index_or ss i d))
each_at f d g none few step [] ss i r at = absurd (none-some r (ap (λ l. slice_get l i) (sym (none ss)) ∙ at))
each_at f d g none few step (t ∷ ts) [] i r at = absurd (none-some r (ap (λ l. slice_get l i) (sym (few t ts)) ∙ at))
each_at f d g none few step (t ∷ ts) (s ∷ ss) zero r at = (t, refl, sym (same_Some (f t s) r (ap (λ l. slice_get l 0) (sym (step t ts s ss)) ∙ at)))
each_at f d g none few step (t ∷ ts) (s ∷ ss) (suc i) r at = each_at f d g none few step ts ss i r (ap (λ l. slice_get l (suc i)) (sym (step t ts s ss)) ∙ at)

pub sections_at : (marks : List Bool) (ts : List Token) (sections : List (List Command)) (i : ℕ) (r : RunView) → slice_get (sectioned_each marks ts sections) i ≡ Some r
    → (t : Token) × (slice_get ts i ≡ Some t) × (r ≡ sectioned_with t (slice_index_or sections i []) (slice_index_or marks t.view.own.number false))
sections_at marks = each_at (λ t cs. sectioned_with t cs (slice_index_or marks t.view.own.number false)) [] (sectioned_each marks) (λ ss. refl) (λ t ts. refl) (λ t ts s ss. refl)

abbrev pub eight : List ℕ
eight = 0 ∷ 1 ∷ 2 ∷ 3 ∷ 4 ∷ 5 ∷ 6 ∷ 7 ∷ []

mark_at : (test : ℕ → Bool) (d : ℕ) → d < 8 → slice_index_or (map test eight) d false ≡ test d
mark_at test zero below = refl
mark_at test (suc zero) below = refl
mark_at test (suc (suc zero)) below = refl
mark_at test (suc (suc (suc zero))) below = refl
mark_at test (suc (suc (suc (suc zero)))) below = refl
mark_at test (suc (suc (suc (suc (suc zero))))) below = refl
mark_at test (suc (suc (suc (suc (suc (suc zero)))))) below = refl
mark_at test (suc (suc (suc (suc (suc (suc (suc zero))))))) below = refl
mark_at test (suc (suc (suc (suc (suc (suc (suc (suc d)))))))) below = absurd (omega arith)

pub begins_section : (h : SharedHeap) (script : List (List Command)) (marks : List Bool) (ts : List Token) (d : ℕ) (r : RunView) → marks ≡ map (is_spawned script) eight → h.config.domains ≤ 8 → length ts ≡ h.config.domains
    → ((i : ℕ) (t : Token) → slice_get ts i ≡ Some t → IsOpened h i t) → slice_get (sectioned_each marks ts script) d ≡ Some r → BeginsSection h script d r
begins_section h script marks ts d r marked small many opened at =
    let s = sections_at marks ts script d r at in
    let t = s.0 in
    let o = opened d t s.1 in
    let within : d < length ts = slice_get_within ts d t s.1 in
    let spawned : slice_index_or marks t.view.own.number false ≡ is_spawned script d =
    (λ i. slice_index_or (marked i) (opened_number h d t o i) false) ∙ mark_at (is_spawned script) d (omega arith) in
    record { token = t; opened = o; run = s.2 ∙ ap (sectioned_with t (slice_index_or script d [])) spawned }

-- the runs that have begun are the heap's
pub sectioned_here : (k : Config) (script : List (List Command)) (b : Begun) → IsSectioned k script b → (i : ℕ) (r : RunView) → slice_get b.runs.items i ≡ Some r → IsIn r.token b.heap
sectioned_here k script b begun i r at =
    let s = begun.each i r at in
    subst (λ (x : RunView). IsIn x.token b.heap) (sym s.run) (opened_in b.heap i s.token s.opened)

-- a section that is over was made whole
spawned_first : (b : Bool) → is_spawned_at (first_place b) ≡ b
spawned_first true = refl
spawned_first false = refl

whole_section : (d : ℕ) (spawned : Bool) (place : Place) (cs : List Command) (n : ℕ) (steps : _) → IsTold place → is_spawned_at place ≡ spawned → n ≡ length cs
    → IsSoFar d (is_spawned_at place) (place_in place) (take n cs) (slice_get cs n) steps → IsSection d spawned cs steps
whole_section d spawned AsEver cs n steps told is done so =
    let all : take n cs ≡ cs = ap (λ (m : ℕ). take m cs) done ∙ take_all (length cs) cs (omega arith) in
    let none : slice_get cs n ≡ None = ap (slice_get cs) done ∙ beyond cs in
    subst (λ (b : Bool). IsSection d b cs steps) is (whole_first d cs steps (subst (λ (o : Option Command). IsSoFar d false (place_in AsEver) cs o steps) none (subst (λ (xs : List Command). IsSoFar d false (place_in AsEver) xs (slice_get cs n) steps) all so)))
  where
    beyond : (xs : List Command) → slice_get xs (length xs) ≡ None
    beyond [] = refl
    beyond (x ∷ xs) = beyond xs
whole_section d spawned Behind cs n steps told is done so =
    let all : take n cs ≡ cs = ap (λ (m : ℕ). take m cs) done ∙ take_all (length cs) cs (omega arith) in
    subst (λ (b : Bool). IsSection d b cs steps) is (whole_spawned d cs (slice_get cs n) steps (subst (λ (xs : List Command). IsSoFar d true (place_in Behind) xs (slice_get cs n) steps) all so))
whole_section d spawned Before cs n steps told is done so = absurd told
whole_section d spawned Within cs n steps told is done so = absurd told

-- what a domain's run tells of the history
record Tells (z : Sizes) (script : List (List Command)) (history : List Entry) (d : ℕ) (q : RunView) : Type 0 where
  number : q.token.view.own.number ≡ d
  made : HasMadeSection z script history d q.token.view.seen.front
  ends : IsTrue (list_any (is_end_of d) history)
  printed : printed_replies z q.token.view.seen.front d ≡ q.replies

module _ (k : Config) (script : List (List Command)) (b : Begun) (new : List RunView) (past : EndedHeap) (begun : IsSectioned k script b) (driven : AreDriven b.heap b.runs.items new) (over : IsPastOf b.heap new past) where
  tells_run : (d : ℕ) (old q : RunView) → slice_get b.runs.items d ≡ Some old → slice_get new d ≡ Some q → Tells (sizes_in k) script past.history d q
  tells_run d old q was at =
      let s = begun.each d old was in
      let goes = driven.further d old q was at in
      let run : IsRun q = each_from_all IsRun new d q over.faithful at in
      let ended : q.ended ≡ true = driven.over d q at in
      let begins : Begins past.history q.token.view = begins_at past.history new d q over.fronts at in
      let config : q.token.config ≡ k = (driven.here d q at).1 ∙ begun.config in
      let number : q.token.view.own.number ≡ d = goes.number ∙ ap (λ (r : RunView). r.token.view.own.number) s.run ∙ opened_number b.heap d s.token s.opened in
      let supply : q.supply ≡ Section = goes.supply ∙ ap (λ (r : RunView). r.supply) s.run in
      let commands : q.commands ≡ slice_index_or script d [] = goes.commands ∙ ap (λ (r : RunView). r.commands) s.run in
      let spawned : is_spawned_at q.place ≡ is_spawned script d = goes.spawned ∙ ap (λ (r : RunView). is_spawned_at r.place) s.run ∙ spawned_first (is_spawned script d) in
      let within : IsInSection k d q.token.view.seen.front q.place q.commands q.next q.replies =
      subst (λ (w : Config × ℕ). IsInSection w.0 w.1 q.token.view.seen.front q.place q.commands q.next q.replies) (λ i. (config i, number i)) (run.section supply) in
      record {
        number = number;
        made = record {
          is_front = subst (λ (n : ℕ). IsFrontOf n past.history q.token.view.seen.front) number (record { rest = begins.rest; appends = begins.appends; others = begins.others });
          behind = within.behind;
          begins = within.begins;
          makes = subst (λ (cs : List Command). IsSection d (is_spawned script d) cs (steps_from (state_after (opening (sizes_in k)) (prelude k.domains)) within.behind d)) commands
              (whole_section d (is_spawned script d) q.place q.commands q.next _ (run.told ended) spawned (run.done ended) within.so_far);
        };
        ends = subst (λ (m : ℕ). IsTrue (list_any (is_end_of m) past.history)) number (ends_in past.history q.token begins (run.over ended));
        printed = within.printed;
      }

  -- each domain has its run
  tells_each : (d : ℕ) → d < k.domains → (q : RunView) × (slice_get new d ≡ Some q) × Tells (sizes_in k) script past.history d q
  tells_each d below =
      let inside : d < length b.runs.items = omega (arith, begun.count) in
      let long : d < length new = omega (arith, begun.count, driven.count) in
      some_run d inside long b.runs.items refl
    where
      some_run : (d : ℕ) → d < length b.runs.items → d < length new → (rs : List RunView) → b.runs.items ≡ rs → (q : RunView) × (slice_get new d ≡ Some q) × Tells (sizes_in k) script past.history d q
      some_run d inside long [] is = absurd (omega (arith, ap length is))
      some_run d inside long (r ∷ rs) is =
          let old : RunView = get_or b.runs.items d r in
          let q : RunView = get_or new d r in
          let was : slice_get b.runs.items d ≡ Some old = slice_get-get_or b.runs.items d r inside in
          let at : slice_get new d ≡ Some q = slice_get-get_or new d r long in
          (q, at, tells_run d old q was at)

  abbrev front_at : ℕ → List Entry
  front_at d = get_or (map (λ (r : RunView). r.token.view.seen.front) new) d []

  front_is : (d : ℕ) (q : RunView) → slice_get new d ≡ Some q → front_at d ≡ q.token.view.seen.front
  front_is d q at = at_of new d q at
    where
      at_of : (rs : List RunView) (d : ℕ) (q : RunView) → slice_get rs d ≡ Some q → get_or (map (λ (r : RunView). r.token.view.seen.front) rs) d [] ≡ q.token.view.seen.front
      at_of [] d q at = cc
      at_of (r ∷ rs) zero q at = let is : r ≡ q = cc in ap (λ (x : RunView). x.token.view.seen.front) is
      at_of (r ∷ rs) (suc d) q at = at_of rs d q at

  all_told : FrontsAreTold (sizes_in k) script past.history front_at
  all_told = fronts (sizes_in k) script past.history front_at (omega (arith, begun.some)) (λ d below.
      let t = tells_each d below in
      subst (HasMadeSection (sizes_in k) script past.history d) (sym (front_is d t.0 t.1)) t.2.made)

  sizes_are : past.sizes ≡ sizes_in k
  sizes_are = over.sizes ∙ ap sizes_in begun.config

  is_legal : Legal (sizes_in k) past.history
  is_legal = subst (λ (z : Sizes). Legal z past.history) sizes_are over.legal

  pub section_texts : spawning_output (sizes_in k) past.history ≡ flat_map (run_text Replies) new
  section_texts =
      let many : length new ≡ k.domains = driven.count ∙ begun.count in
      texts (spawning_section_text (sizes_in k) past.history) (run_text Replies) new 0 k.domains many (λ i q at.
      let below : i < length new = slice_get_within new i q at in
      let t = tells_each i (omega (arith, many)) in
      let is : t.0 ≡ q = let both : ◌≡◌ {A = Option RunView} (Some t.0) (Some q) = sym t.1 ∙ at in cc in
      let same : 0 + i ≡ i = omega arith in
      let answered : printed_replies (sizes_in k) past.history i ≡ t.0.replies = all_told.prints i (omega (arith, many)) ∙ ap (λ (f : List Entry). printed_replies (sizes_in k) f i) (front_is i t.0 t.1) ∙ t.2.printed in
      ap (spawning_section_text (sizes_in k) past.history) same
      ∙ ap (λ (rs : List Reply). line (heading_text i) ++ printed rs) answered ∙ ap (λ (m : ℕ). line (heading_text m) ++ printed t.0.replies) (sym t.2.number) ∙ ap (run_text Replies) is)

  pub spawning_run : IsWithinLimits (sizes_in k) → (whole : Scripted) → whole.sections ≡ script → IsRead k.domains whole → IsSpawningRunOf (sizes_in k) script past.history
  spawning_run limits whole same read = record {
    legal = is_legal;
    run = all_told.run;
    each_ends = λ d below. (tells_each d below).2.ends;
    joins = joined script same all_told.run;
  }
    where
      joined : (sections : List (List Command)) → whole.sections ≡ sections → (run : IsScriptRun (sizes_in k) sections past.history) → (section : ℕ) → section < k.domains → IsTrue (is_spawned sections section) → IsJoined (sizes_in k) sections section run.behind
      joined sections is = subst (λ (ss : List (List Command)). (run : IsScriptRun (sizes_in k) ss past.history) → (section : ℕ) → section < k.domains → IsTrue (is_spawned ss section) → IsJoined (sizes_in k) ss section run.behind) is
          (λ run section below spawned. join (sizes_in k) whole past.history limits read is_legal run section below spawned)

module _ (z : Sizes) (k : Config) (script : Scripted) (b : Begun) (ended : Option EndedHeap) (before after : Option (List ℕ)) (sizes : sizes_in k ≡ z) (outside : first_outside k ≡ None) (read : IsRead z.domains script) (begun : IsSectioned k script.sections b) where
  read_there : IsRead k.domains script
  read_there = subst (λ (y : Sizes). IsRead y.domains script) (sym sizes) read

  pub sections_run : DrivesToEnd b Replies ended (Appends before after) → WritesRunBy IsSpawningRunOf spawning_output z script.sections ended before after
  sections_run d = subst (λ (y : Sizes). WritesRunBy IsSpawningRunOf spawning_output y script.sections ended before after) sizes
      (record {
        ran = record {
          past = d.past;
          is_past = sym d.is_past;
          sizes = sizes_are k script.sections b d.new d.past begun d.driven d.over;
          run = spawning_run k script.sections b d.new d.past begun d.driven d.over (within_limits k outside) script refl read_there;
        };
        written = subst (Appends before after) (sym (section_texts k script.sections b d.new d.past begun d.driven d.over)) d.written;
      })

  pub sections_front : DrivesToEnd b Replies ended (AppendsFront before after) → WritesFrontOfRunBy IsSpawningRunOf spawning_output z script.sections ended before after
  sections_front d = subst (λ (y : Sizes). WritesFrontOfRunBy IsSpawningRunOf spawning_output y script.sections ended before after) sizes
      (record {
        ran = record {
          past = d.past;
          is_past = sym d.is_past;
          sizes = sizes_are k script.sections b d.new d.past begun d.driven d.over;
          run = spawning_run k script.sections b d.new d.past begun d.driven d.over (within_limits k outside) script refl read_there;
        };
        written = subst (AppendsFront before after) (sym (section_texts k script.sections b d.new d.past begun d.driven d.over)) d.written;
      })
