-- Driven runs, and the history of the heap that they ran on.
use Rattle.std.proofs.Common.{◌≡◌, ℕ, zero, suc, ◌+◌, ◌<◌, Bool, true, false, List, [], ◌∷◌, ◌++◌, length, map, take, get_or, refl, sym, ap, ◌∙◌, subst, arith, append-nil, Some}
use Rattle.std.specs.Prelude.{Option, ◌||◌, IsTrue, flat_map, slice_get, slice_index_or, codes, decimal}
use Rattle.std.specs.List.{AllByRecursion, list_any, range_with_len}
use Rattle.std.specs.Io.KnownBytes.{Appends}
use Rattle.std.proofs.lemmas.List.{take_all}
use Rattle.std.proofs.lemmas.Option.{slice_get-get_or, slice_get_within}
use Rattle.model_core.specs.declared.command.Command.{Command}
use Rattle.model_core.specs.declared.entry.Entry.{Entry}
use Rattle.model_core.specs.declared.reply.Reply.{Reply}
use Rattle.model_core.specs.declared.state.Sizes.{Sizes}
use Rattle.model_core.specs.Domains.{opening}
use Rattle.model_core.specs.History.{Legal, commands, replies, replies_from, state_after}
use Rattle.model_core.specs.Output.{line, printed, ints_of, int_sum, section_text, summary_text}
use Rattle.model_core.proofs.Histories.HistoryLemmas.{commands-append, commands-others, replies_from-append, replies_from-others}
use Rattle.text_script.specs.Spelling.{heading_text}
use Rattle.heap_rule.specs.declared.config.Config.{Config}
use Rattle.heap_rule.specs.Limits.{sizes_in}
use Rattle.heap_rule.specs.Opening.{opening_token, opening_tokens}
use Rattle.heap_rule.specs.Token.{Token, SharedHeap, IsIn}
use Rattle.heap_rule.specs.Ending.{EndedHeap, AllIn, AllBegin, Begins}
use Rattle.run_turns.specs.declared.supply.Supply.{Supply}
use Rattle.run_turns.specs.declared.supply.Supply.TheVariants.{Listed}
use Rattle.run_turns.specs.Runs.{AreKept, RunView, EndsIn, GoesOn, IsRun, is_end_of}
use Rattle.camlheap_run.specs.declared.run.begin.Begun.{Begun}
use Rattle.camlheap_run.specs.declared.write.report.Report.{Report}
use Rattle.camlheap_run.specs.declared.write.report.Report.TheVariants.{Replies, Summary}
use Rattle.camlheap_run.specs.Running.{AreDriven, DrivesToEnd, IsBegun, IsHere, IsOver, IsPastOf, opened, token_of}
use Rattle.text_ends.specs.Writing.{AppendsFront}
use Rattle.camlheap_run.specs.Writing.{run_text, text_of}
use Rattle.camlheap_run.specs.Outcome.{HasRun, WritesRun, WritesFrontOfRun}
use Rattle.camlheap_run.proofs.BeginLemmas.{length-opened, opened_at}

pub all_in : (h : SharedHeap) (runs : List RunView) → AllByRecursion (IsHere h) runs → AllIn h (map token_of runs)
all_in h [] here = tt
all_in h (r ∷ runs) here = (here.0, all_in h runs here.1)

-- what holds at each place holds of each
pub all_from_each : {A : Type 0} (P : A → Type 0) (xs : List A) → ((i : ℕ) (x : A) → slice_get xs i ≡ Some x → P x) → AllByRecursion P xs
all_from_each P [] each = tt
all_from_each P (x ∷ xs) each = (each 0 x refl, all_from_each P xs (λ i y at. each (suc i) y at))

pub each_from_all : {A : Type 0} (P : A → Type 0) (xs : List A) (i : ℕ) (x : A) → AllByRecursion P xs → slice_get xs i ≡ Some x → P x
each_from_all P [] i x all at = cc
each_from_all P (y ∷ xs) zero x all at = let is : y ≡ x = cc in subst P is all.0
each_from_all P (y ∷ xs) (suc i) x all at = each_from_all P xs i x all.1 at

pub begins_at : (history : List Entry) (runs : List RunView) (i : ℕ) (r : RunView) → AllBegin history (map token_of runs) → slice_get runs i ≡ Some r → Begins history r.token.view
begins_at history [] i r all at = cc
begins_at history (q ∷ runs) zero r all at = let is : q ≡ r = cc in subst (λ (x : RunView). Begins history x.token.view) is all.0
begins_at history (q ∷ runs) (suc i) r all at = begins_at history runs i r all.1 at

pub all_here : (h : SharedHeap) (old new : List RunView) → AreDriven h old new → AllByRecursion (IsHere h) new
all_here h old new driven = all_from_each (IsHere h) new driven.here

pub all_over : (h : SharedHeap) (old new : List RunView) → AreDriven h old new → AllByRecursion IsOver new
all_over h old new driven = all_from_each IsOver new driven.over

-- runs that have begun are the heap's
pub begun_here : (k : Config) (script : List (List Command)) (b : Begun) → IsBegun k script b → (i : ℕ) (r : RunView) → slice_get b.runs.items i ≡ Some r → IsIn r.token b.heap
begun_here k script b begun i r at =
    let runs : List RunView = map (opened script) (opening_tokens b.heap.table k 0 k.domains) in
    let there : slice_get runs i ≡ Some r = ap (λ (l : List RunView). slice_get l i) (sym begun.runs) ∙ at in
    let many : length runs ≡ k.domains = length-opened b.heap k script 0 k.domains in
    let within : i < length runs = slice_get_within runs i r there in
    let own : slice_get runs i ≡ Some (opened script (opening_token b.heap.table k (0 + i))) = opened_at b.heap k script 0 k.domains i (omega arith) in
    let is : opened script (opening_token b.heap.table k (0 + i)) ≡ r =
    let both : ◌≡◌ {A = Option RunView} (Some (opened script (opening_token b.heap.table k (0 + i)))) (Some r) = sym own ∙ there in cc in
    subst (λ (x : RunView). IsIn x.token b.heap) is (refl, sym begun.config)

pub length-begun : (k : Config) (script : List (List Command)) (b : Begun) → IsBegun k script b → length b.runs.items ≡ k.domains
length-begun k script b begun = ap length begun.runs ∙ length-opened b.heap k script 0 k.domains

-- what is known once a heap has ended: how it began, that its runs were driven, and that the history begins with their fronts
pub record Ran (z : Sizes) (k : Config) (script : List (List Command)) (b : Begun) (new : List RunView) (past : EndedHeap) : Type 0 where
  pub sizes : sizes_in k ≡ z
  pub begun : IsBegun k script b
  pub driven : AreDriven b.heap b.runs.items new
  pub ended : IsPastOf b.heap new past

-- one domain's part of the history: that of its run
pub record Told (z : Sizes) (script : List (List Command)) (history : List Entry) (d : ℕ) (q : RunView) : Type 0 where
  pub number : q.token.view.own.number ≡ d
  pub made : commands history d ≡ slice_index_or script d []
  pub ends : IsTrue (list_any (is_end_of d) history)
  pub counted : length (commands history d) ≡ q.next
  pub answered : replies z history d ≡ q.replies

any_more : (a b c : Bool) → IsTrue (a || b) → (IsTrue b → IsTrue c) → IsTrue (a || c)
any_more true b c h f = refl
any_more false b c h f = f h

any_front : (p : Entry → Bool) (xs ys : List Entry) → IsTrue (list_any p xs) → IsTrue (list_any p (xs ++ ys))
any_front p [] ys h = cc
any_front p (x ∷ xs) ys h = any_more (p x) (list_any p xs) (list_any p (xs ++ ys)) h (any_front p xs ys)

-- the history has the commands of the front, and its replies
commands_of_front : (history : List Entry) (t : Token) → Begins history t.view → commands history t.view.own.number ≡ commands t.view.seen.front t.view.own.number
commands_of_front history t begins =
    let d : ℕ = t.view.own.number in
    let front : List Entry = t.view.seen.front in
    ap (λ (l : List Entry). commands l d) begins.appends ∙ commands-append front begins.rest d
    ∙ ap (λ (cs : List Command). commands front d ++ cs) (commands-others begins.rest d begins.others) ∙ append-nil (commands front d)

replies_of_front : (z : Sizes) (history : List Entry) (t : Token) → Begins history t.view → replies z history t.view.own.number ≡ replies z t.view.seen.front t.view.own.number
replies_of_front z history t begins =
    let d : ℕ = t.view.own.number in
    let front : List Entry = t.view.seen.front in
    ap (λ (l : List Entry). replies_from (opening z) l d) begins.appends ∙ replies_from-append (opening z) front begins.rest d
    ∙ ap (λ (rs : List Reply). replies_from (opening z) front d ++ rs) (replies_from-others (state_after (opening z) front) begins.rest d begins.others) ∙ append-nil (replies_from (opening z) front d)

pub ends_in : (history : List Entry) (t : Token) → Begins history t.view → IsTrue (list_any (is_end_of t.view.own.number) t.view.seen.front) → IsTrue (list_any (is_end_of t.view.own.number) history)
ends_in history t begins over =
    subst (λ (l : List Entry). IsTrue (list_any (is_end_of t.view.own.number) l)) (sym begins.appends) (any_front (is_end_of t.view.own.number) t.view.seen.front begins.rest over)

-- where all commands were listed nothing came before
whole_of : {A : Type 0} (s : Supply) (whole last : List A) → s ≡ Listed → EndsIn s whole last → whole ≡ last
whole_of s whole last listed ends = subst (λ (t : Supply). EndsIn t whole last) listed ends

-- where all commands were listed the replies are those of the domain
all_kept : (s : Supply) (z : Sizes) (front : List Entry) (d : ℕ) (said ran : List Reply) → s ≡ Listed → AreKept s z front d said ran → replies z front d ≡ said
all_kept s z front d said ran listed kept = let both : (replies z front d ≡ said) × (ran ≡ []) = subst (λ (t : Supply). AreKept t z front d said ran) listed kept in both.0

-- the run of domain d, which has ended with all commands of its section
pub told_by : (z : Sizes) (script : List (List Command)) (d : ℕ) (q : RunView) (history : List Entry) → q.token.view.own.number ≡ d → q.supply ≡ Listed → q.commands ≡ slice_index_or script d [] → sizes_in q.token.config ≡ z → q.ended ≡ true → IsRun q
    → Begins history q.token.view → Told z script history d q
told_by z script d q history number listed section sized ended run begins =
    let whole : take q.next q.commands ≡ q.commands = ap (λ (m : ℕ). take m q.commands) (run.done ended) ∙ take_all (length q.commands) q.commands (omega arith) in
    let all : commands history d ≡ q.commands = ap (commands history) (sym number) ∙ commands_of_front history q.token begins ∙ whole_of q.supply (commands q.token.view.seen.front q.token.view.own.number) (take q.next q.commands) listed run.made ∙ whole in
    record {
      number = number;
      made = all ∙ section;
      counted = ap length all ∙ sym (run.done ended);
      ends = subst (λ (m : ℕ). IsTrue (list_any (is_end_of m) history)) number (ends_in history q.token begins (run.over ended));
      answered = ap (λ (m : ℕ). replies z history m) (sym number) ∙ ap (λ (y : Sizes). replies y history q.token.view.own.number) (sym sized)
          ∙ replies_of_front (sizes_in q.token.config) history q.token begins ∙ all_kept q.supply (sizes_in q.token.config) q.token.view.seen.front q.token.view.own.number q.replies q.ran listed run.answered;
    }

told : (h : SharedHeap) (k : Config) (script : List (List Command)) (d : ℕ) (old q : RunView) (history : List Entry) → old ≡ opened script (opening_token h.table k d) → h.config ≡ k → IsIn q.token h → GoesOn old q → q.ended ≡ true → IsRun q
    → Begins history q.token.view → Told (sizes_in k) script history d q
told h k script d old q history is sized here goes ended run begins =
    told_by (sizes_in k) script d q history (goes.number ∙ ap (λ (r : RunView). r.token.view.own.number) is) (goes.supply ∙ ap (λ (r : RunView). r.supply) is) (goes.commands ∙ ap (λ (r : RunView). r.commands) is) (ap sizes_in (here.1 ∙ sized)) ended run begins

-- each domain has its run, which tells its part of the history
each_told : (z : Sizes) (k : Config) (script : List (List Command)) (b : Begun) (new : List RunView) (past : EndedHeap) → Ran z k script b new past → (d : ℕ) → d < k.domains
    → (q : RunView) × (slice_get new d ≡ Some q) × Told (sizes_in k) script past.history d q
each_told z k script b new past ran d below =
    let first : RunView = opened script (opening_token b.heap.table k (0 + d)) in
    let was : slice_get b.runs.items d ≡ Some first = ap (λ (l : List RunView). slice_get l d) ran.begun.runs ∙ opened_at b.heap k script 0 k.domains d below in
    let within : d < length new = subst (λ (n : ℕ). d < n) (sym ran.driven.count) (slice_get_within b.runs.items d first was) in
    let q : RunView = get_or new d first in
    let at : slice_get new d ≡ Some q = slice_get-get_or new d first within in
    let same : first ≡ opened script (opening_token b.heap.table k d) = let is : 0 + d ≡ d = omega arith in ap (λ (m : ℕ). opened script (opening_token b.heap.table k m)) is in (
      q,
      at,
      told b.heap k script d first q past.history same ran.begun.config (ran.driven.here d q at) (ran.driven.further d first q was at) (ran.driven.over d q at)
          (each_from_all IsRun new d q ran.ended.faithful at) (begins_at past.history new d q ran.ended.fronts at),
    )

-- what is known once a heap has ended with these runs: each tells its domain's part of the history
pub record AreTold (z : Sizes) (script : List (List Command)) (new : List RunView) (past : EndedHeap) : Type 0 where
  pub sizes : past.sizes ≡ z
  pub legal : Legal z past.history
  pub many : length new ≡ z.domains
  pub each : (d : ℕ) → d < z.domains → (q : RunView) × (slice_get new d ≡ Some q) × Told z script past.history d q

pub ran_told : (z : Sizes) (k : Config) (script : List (List Command)) (b : Begun) (new : List RunView) (past : EndedHeap) → Ran z k script b new past → AreTold z script new past
ran_told z k script b new past ran = subst (λ (y : Sizes). AreTold y script new past) ran.sizes
    (record {
      sizes = ran.ended.sizes ∙ ap sizes_in ran.begun.config;
      legal = subst (λ (y : Sizes). Legal y past.history) (ran.ended.sizes ∙ ap sizes_in ran.begun.config) ran.ended.legal;
      many = ran.driven.count ∙ length-begun k script b ran.begun;
      each = each_told z k script b new past ran;
    })

-- the texts of a range of domains are those of their runs
pub texts : (f : ℕ → List ℕ) (g : RunView → List ℕ) (runs : List RunView) (a n : ℕ) → length runs ≡ n → ((i : ℕ) (q : RunView) → slice_get runs i ≡ Some q → f (a + i) ≡ g q) → flat_map f (range_with_len a n) ≡ flat_map g runs
texts f g [] a zero long each = refl
texts f g [] a (suc n) long each = absurd (omega arith)
texts f g (q ∷ runs) a zero long each = absurd (omega arith)
texts f g (q ∷ runs) a (suc n) long each =
    let here : a ≡ a + 0 = omega arith in
    let first : f a ≡ g q = ap f here ∙ each 0 q refl in
    let shift : (i : ℕ) → (a + 1) + i ≡ a + suc i = λ i. omega arith in
    let rest : flat_map f (range_with_len (a + 1) n) ≡ flat_map g runs = texts f g runs (a + 1) n (omega arith) (λ i r at. ap f (shift i) ∙ each (suc i) r at) in
    ap (λ (l : List ℕ). l ++ flat_map f (range_with_len (a + 1) n)) first ∙ ap (λ (l : List ℕ). g q ++ l) rest

-- what a report has of domain d
abbrev domain_text : Report → Sizes → List Entry → ℕ → List ℕ
domain_text Replies z history d = section_text z history d
domain_text Summary z history d = summary_text z history d

by_domains : (report : Report) (z : Sizes) (history : List Entry) → text_of report z history ≡ flat_map (domain_text report z history) (range_with_len 0 z.domains)
by_domains Replies z history = refl
by_domains Summary z history = refl

-- the summary line by its figures
abbrev summary_line : ℕ → ℕ → List Reply → List ℕ
summary_line d made rs =
    line (codes "domain " ++ decimal d ++ codes " commands " ++ decimal made
    ++ codes " ints " ++ decimal (length (flat_map ints_of rs)) ++ codes " sum " ++ decimal (int_sum (flat_map ints_of rs)))

text_told : (report : Report) (z : Sizes) (script : List (List Command)) (history : List Entry) (d : ℕ) (q : RunView) → Told z script history d q → domain_text report z history d ≡ run_text report q
text_told Replies z script history d q t =
    ap (λ (rs : List Reply). line (heading_text d) ++ printed rs) t.answered ∙ ap (λ (m : ℕ). line (heading_text m) ++ printed q.replies) (sym t.number)
text_told Summary z script history d q t =
    ap (λ (rs : List Reply). summary_line d (length (commands history d)) rs) t.answered ∙ ap (λ (n : ℕ). summary_line d n q.replies) t.counted
    ∙ ap (λ (m : ℕ). summary_line m q.next q.replies) (sym t.number)

-- the report of the history are the texts of the runs
prints : (report : Report) (z : Sizes) (script : List (List Command)) (new : List RunView) (past : EndedHeap) → AreTold z script new past → text_of report z past.history ≡ flat_map (run_text report) new
prints report z script new past are =
    by_domains report z past.history ∙ texts (domain_text report z past.history) (run_text report) new 0 z.domains are.many (λ i q at.
    let below : i < length new = slice_get_within new i q at in
    let t = are.each i (subst (λ n. i < n) are.many below) in
    let is : t.0 ≡ q = let both : ◌≡◌ {A = Option RunView} (Some t.0) (Some q) = sym t.1 ∙ at in cc in
    let same : 0 + i ≡ i = omega arith in
    ap (domain_text report z past.history) same ∙ text_told report z script past.history i t.0 t.2 ∙ ap (run_text report) is)

has_run : (z : Sizes) (script : List (List Command)) (new : List RunView) (past : EndedHeap) (ended : Option EndedHeap) → AreTold z script new past → Some past ≡ ended → HasRun z script ended
has_run z script new past ended are is = record {
  past = past;
  is_past = sym is;
  sizes = are.sizes;
  run = record { legal = are.legal; each_command = λ d below. (are.each d below).2.made; each_ends = λ d below. (are.each d below).2.ends };
}

pub printed_is : (report : Report) (z : Sizes) (script : List (List Command)) (new shown : List RunView) (past : EndedHeap) → AreTold z script new past → shown ≡ new → flat_map (run_text report) shown ≡ text_of report z past.history
printed_is report z script new shown past are is = ap (flat_map (run_text report)) is ∙ sym (prints report z script new past are)

pub told_run : (report : Report) (z : Sizes) (script : List (List Command)) (new shown : List RunView) (past : EndedHeap) (ended : Option EndedHeap) (before after : Option (List ℕ))
    → AreTold z script new past → shown ≡ new → Some past ≡ ended → Appends before after (flat_map (run_text report) shown) → WritesRun (text_of report) z script ended before after
unfolding has_run
told_run report z script new shown past ended before after are is last bytes = record {
  ran = has_run z script new past ended are last;
  written = subst (λ (t : List ℕ). Appends before after t) (printed_is report z script new shown past are is) bytes;
}

pub told_front : (report : Report) (z : Sizes) (script : List (List Command)) (new shown : List RunView) (past : EndedHeap) (ended : Option EndedHeap) (before after : Option (List ℕ))
    → AreTold z script new past → shown ≡ new → Some past ≡ ended → AppendsFront before after (flat_map (run_text report) shown) → WritesFrontOfRun (text_of report) z script ended before after
unfolding has_run
told_front report z script new shown past ended before after are is last bytes = record {
  ran = has_run z script new past ended are last;
  written = subst (λ (t : List ℕ). AppendsFront before after t) (printed_is report z script new shown past are is) bytes;
}

pub writes_run : (report : Report) (z : Sizes) (k : Config) (script : List (List Command)) (b : Begun) (new shown : List RunView) (past : EndedHeap) (ended : Option EndedHeap) (before after : Option (List ℕ))
    → Ran z k script b new past → shown ≡ new → Some past ≡ ended → Appends before after (flat_map (run_text report) shown) → WritesRun (text_of report) z script ended before after
writes_run report z k script b new shown past ended before after ran is last bytes = told_run report z script new shown past ended before after (ran_told z k script b new past ran) is last bytes

pub writes_front : (report : Report) (z : Sizes) (k : Config) (script : List (List Command)) (b : Begun) (new shown : List RunView) (past : EndedHeap) (ended : Option EndedHeap) (before after : Option (List ℕ))
    → Ran z k script b new past → shown ≡ new → Some past ≡ ended → AppendsFront before after (flat_map (run_text report) shown) → WritesFrontOfRun (text_of report) z script ended before after
writes_front report z k script b new shown past ended before after ran is last bytes = told_front report z script new shown past ended before after (ran_told z k script b new past ran) is last bytes

-- runs of a script that was begun so, once they are at their ends
pub drives_run : (report : Report) (z : Sizes) (k : Config) (script : List (List Command)) (b : Begun) (ended : Option EndedHeap) (before after : Option (List ℕ)) → sizes_in k ≡ z → IsBegun k script b
    → DrivesToEnd b report ended (Appends before after) → WritesRun (text_of report) z script ended before after
drives_run report z k script b ended before after sizes begun d =
    writes_run report z k script b d.new d.new d.past ended before after (record { sizes = sizes; begun = begun; driven = d.driven; ended = d.over }) refl d.is_past d.written

pub drives_front : (report : Report) (z : Sizes) (k : Config) (script : List (List Command)) (b : Begun) (ended : Option EndedHeap) (before after : Option (List ℕ)) → sizes_in k ≡ z → IsBegun k script b
    → DrivesToEnd b report ended (AppendsFront before after) → WritesFrontOfRun (text_of report) z script ended before after
drives_front report z k script b ended before after sizes begun d =
    writes_front report z k script b d.new d.new d.past ended before after (record { sizes = sizes; begun = begun; driven = d.driven; ended = d.over }) refl d.is_past d.written
