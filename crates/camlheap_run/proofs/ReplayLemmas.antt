-- A heap whose runs a schedule has driven to their ends.
use Rattle.std.proofs.Common.{◌≡◌, ◌≢◌, ℕ, zero, suc, ◌+◌, ◌*◌, ◌<◌, ◌≤◌, Bool, true, false, List, [], ◌∷◌, ◌++◌, drop, length, get_or, refl, sym, ap, ◌∙◌, subst, ⊎_elim, arith, Some, None}
use Rattle.std.specs.Prelude.{Option, flat_map, if◌then◌else◌, nat_le, not, slice_get, slice_index_or}
use Rattle.std.proofs.lemmas.Bool.{and_parts}
use Rattle.std.proofs.lemmas.Bool.Decides.{nat_tests}
use Rattle.model_core.specs.Domains.{first_outside, fits_domains, reserve}
use Rattle.std.specs.List.{AllByRecursion, list_all, range_with_len}
use Rattle.std.specs.Io.KnownBytes.{Appends}
use Rattle.std.proofs.lemmas.Option.{slice_get-get_or, slice_get_within}
use Rattle.model_core.specs.declared.command.Command.{Command}
use Rattle.model_core.specs.declared.reply.Reply.{Reply}
use Rattle.model_core.specs.declared.state.Sizes.{Sizes}
use Rattle.model_core.specs.History.{Legal, replies}
use Rattle.model_core.specs.Output.{line, output, printed, section_text}
use Rattle.text_script.specs.declared.version.Version.TheVariants.{Three}
use Rattle.text_script.specs.declared.fault.ScriptFault.{ScriptFault}
use Rattle.text_script.specs.declared.fault.ScriptFault.TheVariants.{Memory, TooLong}
use Rattle.text_script.specs.declared.version.Version.{Version}
use Rattle.text_script.specs.Faults.{first_fault}
use Rattle.text_script.specs.Spelling.{heading_text}
use Rattle.text_script.proofs.AnswerLemmas.{answered}
use Rattle.text_script.proofs.OnlyLemmas.{no_fault}
use Rattle.text_script.proofs.SpellsLemmas.{length-script}
use Rattle.heap_rule.specs.declared.config.Config.{Config}
use Rattle.heap_rule.specs.Limits.{sizes_in}
use Rattle.heap_rule.specs.Opening.{opening_token}
use Rattle.heap_rule.specs.Token.{SharedHeap}
use Rattle.heap_rule.specs.Ending.{EndedHeap}
use Rattle.run_turns.specs.Runs.{RunView, IsRun}
use Rattle.text_script.specs.Schedule.Drive.Following.{is_for}
use Rattle.model_traces.specs.declared.schedules.items.Item.{Item}
use Rattle.model_traces.specs.Schedules.Pools.{pools_of}
use Rattle.model_traces.specs.Schedules.Scheduled.{scheduled}
use Rattle.text_script.specs.declared.schedule.text.replay.ReplayFault.{ReplayFault}
use Rattle.text_script.specs.declared.schedule.text.replay.ReplayFault.TheVariants.{Memory as ReplayMemory, NotReplayable as NotReplayableOf, Schedule as ScheduleOf, Script as ScriptOf}
use Rattle.text_script.specs.Schedule.Text.Replays.{HasFault, IsTooLong, Replayed as ReplayedText, WrongScript}
use Rattle.run_replay.specs.Asking.{HasAmple}
use Rattle.run_replay.specs.Ends.{MayBeHeld}
use Rattle.run_replay.specs.Replayed.{IsUntouched, MayReplay, Replayed, commands_of}
use Rattle.camlheap_run.specs.declared.run.begin.Begun.{Begun}
use Rattle.camlheap_run.specs.declared.write.report.Report.TheVariants.{Replies}
use Rattle.camlheap_run.specs.Running.{IsBegun, IsHere, IsOver, IsPastOf, opened}
use Rattle.camlheap_run.specs.declared.status.Status.TheVariants.{Script}
use Rattle.camlheap_run.specs.Reading.{IsSpelled, IsSpelledReplay}
use Rattle.camlheap_run.proofs.SectionLemmas.{older_script}
use Rattle.text_script.specs.Forms.{version_number}
use Rattle.camlheap_run.specs.Replaying.{MayReplay as MayReplayOn, WritesFrontOfReplay, WritesReplay, fault_status}
use Rattle.text_ends.specs.Writing.{AppendsFront}
use Rattle.camlheap_run.specs.Writing.{run_text}
use Rattle.camlheap_run.proofs.BeginLemmas.{opened_at}
use Rattle.camlheap_run.proofs.RunLemmas.{AreTold, Told, all_from_each, begins_at, each_from_all, length-begun, printed_is, told_by, told_front, told_run}

-- the run of each domain, as it begins
first_at : (k : Config) (script : List (List Command)) (b : Begun) → IsBegun k script b → (d : ℕ) (r : RunView) → slice_get b.runs.items d ≡ Some r → opened script (opening_token b.heap.table k d) ≡ r
first_at k script b begun d r at =
    let many = length-begun k script b begun in
    let within : d < length b.runs.items = slice_get_within b.runs.items d r at in
    let own : slice_get b.runs.items d ≡ Some (opened script (opening_token b.heap.table k (0 + d))) = ap (λ (l : List RunView). slice_get l d) begun.runs ∙ opened_at b.heap k script 0 k.domains d (omega arith) in
    let same : 0 + d ≡ d = omega arith in
    let both : ◌≡◌ {A = Option RunView} (Some (opened script (opening_token b.heap.table k d))) (Some r) = ap (λ (n : ℕ). Some (opened script (opening_token b.heap.table k n))) (sym same) ∙ sym own ∙ at in cc

-- their commands are the sections
sections_at : (script : List (List Command)) (runs : List RunView) → ((d : ℕ) (r : RunView) → slice_get runs d ≡ Some r → r.commands ≡ slice_index_or script d []) → length script ≡ length runs → commands_of runs ≡ script
sections_at [] [] each many = refl
sections_at [] (r ∷ runs) each many = cc
sections_at (cs ∷ script) [] each many = cc
sections_at (cs ∷ script) (r ∷ runs) each many =
    ap (λ (c : List Command). c ∷ commands_of runs) (each 0 r refl) ∙ ap (λ (rest : List (List Command)). cs ∷ rest) (sections_at script runs (λ d q at. each (suc d) q at) (omega (arith, many)))

pub begun_sections : (k : Config) (script : List (List Command)) (b : Begun) → IsBegun k script b → length script ≡ k.domains → commands_of b.runs.items ≡ script
begun_sections k script b begun many =
    sections_at script b.runs.items (λ d r at. sym (ap (λ (q : RunView). q.commands) (first_at k script b begun d r at))) (many ∙ sym (length-begun k script b begun))

-- a script that can be replayed leaves more pools than it uses
pub leaves_ample : (z : Sizes) (k : Config) (r : ReplayedText) → MayReplayOn z → IsSpelledReplay z r → sizes_in k ≡ z → HasAmple k r.script.sections
leaves_ample z k r limits spelled sizes = record {
  few = subst (λ (y : Sizes). 2 * pools_of y.domains r.script.sections ≤ y.pools) (sym sizes) spelled.1.can.few;
  reserved = subst (λ (y : Sizes). 2 * reserve y + 2 ≤ y.pools) (sym sizes) limits.0.pools;
}

-- runs that have begun may be replayed
pub begun_may : (k : Config) (script : List (List Command)) (b : Begun) → IsBegun k script b → length script ≡ k.domains → HasAmple k script → MayReplay b.heap b.runs.items
begun_may k script b begun many ample = record {
  some = subst (λ (c : Config). 0 < c.domains) (sym begun.config) begun.some;
  gathers = record {
    count = length-begun k script b begun ∙ ap (λ (c : Config). c.domains) (sym begun.config);
    each = λ d r at. subst (λ (q : RunView). MayBeHeld b.heap d q) (first_at k script b begun d r at) (record { here = (refl, sym begun.config); number = refl; listed = refl; collected = refl; left = refl; asked = refl; armed = λ zeroth. refl; unswept = λ zeroth. refl });
    enough = subst (λ (w : Config × List (List Command)). HasAmple w.0 w.1) (λ i. (sym begun.config i, sym (begun_sections k script b begun many) i)) ample;
  };
  each = λ d r at. subst IsUntouched (first_at k script b begun d r at) (record { front = refl; arrivals = refl; asked = refl; next = refl });
}

-- the items are for these runs
pub items_for : (k : Config) (script : List (List Command)) (b : Begun) (domains : ℕ) (items : List Item) → IsBegun k script b → k.domains ≡ domains → list_all (is_for domains) items ≡ true → list_all (is_for (length b.runs.items)) items ≡ true
items_for k script b domains items begun same all = subst (λ n. list_all (is_for n) items ≡ true) (sym same ∙ sym (length-begun k script b begun)) all

-- what is known once the heap has ended
module _ (z : Sizes) (k : Config) (script : List (List Command)) (b : Begun) (items : List Item) (h : SharedHeap) (new : List RunView) (sizes : sizes_in k ≡ z) (begun : IsBegun k script b) (many : length script ≡ k.domains)
    (replayed : Replayed b.heap.config b.runs.items items h new) where
  pub all_played_here : AllByRecursion (IsHere h) new
  all_played_here = all_from_each (IsHere h) new (λ d r at. (replayed.each d r at).here)

  pub all_played_over : AllByRecursion IsOver new
  all_played_over = all_from_each IsOver new (λ d r at. (replayed.each d r at).over)

  pub played_count : length new ≡ k.domains
  played_count = replayed.count ∙ length-begun k script b begun

  config_sizes : sizes_in b.heap.config ≡ z
  config_sizes = ap sizes_in begun.config ∙ sizes

  end_sizes : sizes_in h.config ≡ z
  end_sizes = replayed.sizes ∙ config_sizes

  module _ (past : EndedHeap) (ended : IsPastOf h new past) where
    past_legal : Legal z past.history
    past_legal = subst (λ (y : Sizes). Legal y past.history) (ended.sizes ∙ end_sizes) ended.legal

    one_told : (d : ℕ) → d < z.domains → (q : RunView) × (slice_get new d ≡ Some q) × Told z script past.history d q
    one_told d below =
        let first : RunView = opened script (opening_token b.heap.table k d) in
        let domains : z.domains ≡ k.domains = ap (λ (y : Sizes). y.domains) (sym sizes) in
        let within : d < length new = subst (λ n. d < n) (domains ∙ sym played_count) below in
        let q : RunView = get_or new d first in
        let at : slice_get new d ≡ Some q = slice_get-get_or new d first within in
        let played = replayed.each d q at in (
          q,
          at,
          told_by z script d q past.history played.number played.listed (played.made ∙ ap (λ (cs : List (List Command)). slice_index_or cs d []) (begun_sections k script b begun many)) (ap sizes_in played.here.1 ∙ end_sizes) played.over
              (each_from_all IsRun new d q ended.faithful at) (begins_at past.history new d q ended.fronts at),
        )

    pub all_told : AreTold z script new past
    all_told = record { sizes = ended.sizes ∙ end_sizes; legal = past_legal; many = played_count ∙ ap (λ (y : Sizes). y.domains) sizes; each = one_told }

    -- it prints what the scheduled history prints
    same_replies : (d : ℕ) → d < z.domains → replies z past.history d ≡ replies z (scheduled z script items) d
    same_replies d below =
        let domains : z.domains ≡ k.domains = ap (λ (y : Sizes). y.domains) (sym sizes) in
        let answers = replayed.replies past.history (subst (λ (y : Sizes). Legal y past.history) (sym config_sizes) past_legal) (λ e r at. begins_at past.history new e r ended.fronts at) d (subst (λ n. d < n) (domains ∙ sym played_count) below) in
        ap (λ (y : Sizes). replies y past.history d) (sym config_sizes) ∙ answers ∙ ap (λ (y : Sizes). replies y (scheduled y (commands_of b.runs.items) items) d) config_sizes
        ∙ ap (λ (cs : List (List Command)). replies z (scheduled z cs items) d) (begun_sections k script b begun many)

    pub same_output : output z past.history ≡ output z (scheduled z script items)
    same_output = same_sections 0 z.domains (omega arith)
      where
        same_sections : (a n : ℕ) → a + n ≤ z.domains → flat_map (section_text z past.history) (range_with_len a n) ≡ flat_map (section_text z (scheduled z script items)) (range_with_len a n)
        same_sections a zero few = refl
        same_sections a (suc n) few =
            ap (λ (rs : List Reply). (line (heading_text a) ++ printed rs) ++ flat_map (section_text z past.history) (range_with_len (a + 1) n)) (same_replies a (omega (arith, few)))
            ∙ ap (λ (t : List ℕ). section_text z (scheduled z script items) a ++ t) (same_sections (a + 1) n (omega (arith, few)))

    -- what was written
    pub writes_replay : (version : Version) (shown : List RunView) (last : Option EndedHeap) (before after : Option (List ℕ)) → shown ≡ new → Some past ≡ last → Appends before after (flat_map (run_text Replies) shown)
        → WritesReplay z (record { items = items; script = record { version = version; sections = script } }) last before after
    writes_replay version shown last before after is same bytes = record {
      writes = told_run Replies z script new shown past last before after all_told is same bytes;
      scheduled = subst (λ (t : List ℕ). Appends before after t) (printed_is Replies z script new shown past all_told is ∙ same_output) bytes;
    }

    pub writes_replay_front : (version : Version) (shown : List RunView) (last : Option EndedHeap) (before after : Option (List ℕ)) → shown ≡ new → Some past ≡ last → AppendsFront before after (flat_map (run_text Replies) shown)
        → WritesFrontOfReplay z (record { items = items; script = record { version = version; sections = script } }) last before after
    writes_replay_front version shown last before after is same bytes = record {
      writes = told_front Replies z script new shown past last before after all_told is same bytes;
      scheduled = subst (λ (t : List ℕ). AppendsFront before after t) (printed_is Replies z script new shown past all_told is ∙ same_output) bytes;
    }

-- the first fault of a script is no want of memory
first_is_fault : (domains : ℕ) (bytes : List ℕ) (fault : ScriptFault) → domains < 4294967296 → first_fault Three domains bytes ≡ Some fault → fault ≢ Memory
first_is_fault domains bytes fault small first =
    ⊎_elim
    (λ spelled. let clash : None ≡ Some fault = sym (no_fault Three domains spelled.0 bytes small spelled.1) ∙ first in cc)
    (λ faulty. let same : Some faulty.0 ≡ Some fault = sym faulty.2 ∙ first in let is : faulty.0 ≡ fault = cc in subst (λ (f : ScriptFault). f ≢ Memory) is faulty.1)
    (answered Three domains bytes small)

pub script_fault_is : (domains pools : ℕ) (bytes : List ℕ) (fault : ScriptFault) → domains < 4294967296 → HasFault domains pools bytes (ScriptOf fault) → fault ≢ Memory
script_fault_is domains pools bytes fault small has =
    ⊎_elim
    (λ (long : IsTooLong bytes fault). λ same. let clash : TooLong (length bytes) ≡ Memory = sym long.is ∙ same in cc)
    (λ (wrong : WrongScript domains bytes fault). first_is_fault domains (drop wrong.place bytes) fault small wrong.first)
    has

-- a replay has a section for each domain
pub many_sections : (z : Sizes) (k : Config) (r : ReplayedText) → IsSpelledReplay z r → sizes_in k ≡ z → length r.script.sections ≡ k.domains
many_sections z k r spelled sizes = length-script Three z.domains r.script (drop spelled.1.place spelled.0) spelled.1.script ∙ ap (λ (y : Sizes). y.domains) (sym sizes)

-- what the status says of the fault
pub status_script : (fault : ReplayFault) (f : ScriptFault) → fault_status fault ≡ Script f → fault ≡ ScriptOf f
status_script (ScheduleOf l) f is = cc
status_script (ScriptOf g) f is = let same : g ≡ f = cc in ap ScriptOf same
status_script (NotReplayableOf why) f is = cc
status_script ReplayMemory f is = cc

-- there are few domains
first_fits : (b : Bool) (o : Option ℕ) → (if not b then Some 1 else o) ≡ None → b ≡ true
first_fits true o is = refl
first_fits false o is = cc

small_by_test : (n : ℕ) → nat_le n 8 ≡ true → n ≤ 8
small_by_test n is = grind (arith, nat_tests)

pub few_domains : (z : Sizes) → first_outside z ≡ None → z.domains ≤ 8
few_domains z limits = small_by_test z.domains (and_parts (nat_le 1 z.domains) (nat_le z.domains 8) (first_fits (fits_domains z) _ limits)).1

pub small_domains : (z : Sizes) → MayReplayOn z → z.domains < 4294967296
small_domains z may = let few = few_domains z may.0.limits in omega (arith, few)

-- a script that can be replayed is one without spawns
pub replayed_script : (z : Sizes) (k : Config) (r : ReplayedText) → IsSpelledReplay z r → sizes_in k ≡ z → IsSpelled k.domains r.script
replayed_script z k r spelled sizes =
    let no_spawns = spelled.1.can.no_spawns in
    let other : version_number r.script.version ≢ 3 = grind (arith, nat_tests, no_spawns) in
    subst (λ (d : ℕ). IsSpelled d r.script) (sym (ap (λ (y : Sizes). y.domains) sizes)) (older_script z.domains r.script (drop spelled.1.place spelled.0, spelled.1.script) other)
