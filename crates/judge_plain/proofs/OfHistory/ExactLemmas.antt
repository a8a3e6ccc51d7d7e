-- What isn't found: a history that isn't legal, a domain that does else, lines that aren't there.
use Rattle.std.proofs.Common.{◌≡◌, ◌≢◌, ℕ, zero, suc, ◌+◌, ◌-◌, ◌^◌, ◌<◌, ◌≤◌, Bool, IsTrue, List, [], ◌∷◌, ◌++◌, length, take, drop, get_or, flat_map, Option, Some, None, refl, ap, sym, ◌∙◌, subst, arith, append_assoc, append-nil, add-one, length-append, length-take-le, take-append-drop, drop-cons}
use Rattle.std.specs.Prelude.{slice_get, slice_index_or, MatchOption, IfNone}
use Rattle.std.specs.List.{range_with_len}
use Rattle.std.proofs.Math.Seq.{take-append_seam}
use Rattle.std.proofs.lemmas.List.{append_cancel_left, take_all}
use Rattle.std.proofs.lemmas.List.Concat.{flat_map-append}
use Rattle.model_core.specs.declared.command.Command.{Command}
use Rattle.model_core.specs.declared.entry.Entry.{Entry}
use Rattle.model_core.specs.declared.reply.Applied.{Applied}
use Rattle.model_core.specs.declared.reply.Reply.{Reply}
use Rattle.model_core.specs.declared.state.Sizes.{Sizes}
use Rattle.model_core.specs.declared.state.State.{State}
use Rattle.model_core.specs.Domains.{IsWithinLimits, opening}
use Rattle.model_core.specs.Entries.{Allowed, IsInRange, next}
use Rattle.model_core.specs.History.{Legal, LegalFrom, command_of, commands, state_after}
use Rattle.model_core.specs.Output.{line, output, printed, reply_text, section_text}
use Rattle.model_core.proofs.Histories.HistoryLemmas.{commands-append}
use Rattle.text_script.specs.Spelling.{heading_text}
use Rattle.judge_plain.specs.History.Steps.{Does, HasDone, HasPlayed, MakesAndEnds, answers, answers_from}
use Rattle.judge_plain.specs.History.Explains.{Explains, ExplainsFront}
use Rattle.judge_plain.proofs.OfHistory.RangeLemmas.{in_range}

-- where there is nothing, the first fact holds
pub if_none : {A : Type 0} (P : Type 0) (Q : A → Type 0) (r : Option A) → MatchOption r P Q → IfNone r P
if_none P Q None h = h
if_none P Q (Some x) h = tt

-- each entry of a legal history is allowed where it stands
allowed_at : (s : State) (h : List Entry) (i : ℕ) (e : Entry) → i < length h → get_or h i e ≡ e → LegalFrom s h → Allowed (state_after s (take i h)) e
allowed_at s [] i e below is legal = absurd (omega (arith, below))
allowed_at s (x ∷ h) zero e below is legal = subst (Allowed s) is legal.0
allowed_at s (x ∷ h) (suc i) e below is legal = allowed_at (next s x) h i e (omega (arith, below)) is legal.1

-- a history is refused only where it isn't legal
pub not_legal : (z : Sizes) (h : List Entry) (i : ℕ) (e : Entry) (s : State) (told : List Applied) → IsWithinLimits z → i < length h → get_or h i e ≡ e → HasPlayed z (take i h) s told
    → (Allowed s e → IsInRange s e → ⊥) → length h < 2 ^ 32 → Legal z h → ⊥
not_legal z h i e s told limits below is played refused few legal =
    let allowed : Allowed (state_after (opening z) (take i h)) e = allowed_at (opening z) h i e below is legal in
    let short : length (take i h) < 2 ^ 32 - 1 = let cut = length-take-le i h (omega (arith, below)) in omega (arith, cut, few, below) in
    let range = in_range z (take i h) e limits short allowed in
    refused (subst (λ (t : State). Allowed t e) (sym played.state) allowed) (subst (λ (t : State). IsInRange t e) (sym played.state) range)

-- each entry has an answer
answers-length : (s : State) (h : List Entry) → length (answers_from s h) ≡ length h
answers-length s [] = refl
answers-length s (e ∷ h) = ap suc (answers-length (next s e) h)

some_there : {A : Type 0} (xs : List A) (i : ℕ) → i < length xs → slice_get xs i ≡ None → ⊥
some_there [] i below none = absurd (omega (arith, below))
some_there (x ∷ xs) zero below none = cc
some_there (x ∷ xs) (suc i) below none = some_there xs i (omega (arith, below)) none

pub answer_there : (z : Sizes) (h : List Entry) (told : List Applied) (i : ℕ) (a : Option Applied) → told ≡ answers z h → i < length h → a ≡ slice_get told i → a ≡ None → ⊥
answer_there z h told i a are below is none =
    some_there told i (let same = ap length are ∙ answers-length (opening z) h in omega (arith, same, below)) (sym is ∙ none)

-- the commands of a history, around one entry
commands_at : (h : List Entry) (i : ℕ) (e : Entry) (d : ℕ) → i < length h → get_or h i e ≡ e → commands h d ≡ commands (take i h) d ++ (command_of d e ++ commands (drop (i + 1) h) d)
commands_at h i e d below is =
    ap (λ (k : List Entry). commands k d) (sym (take-append-drop i h)) ∙ commands-append (take i h) (drop i h) d
    ∙ ap (λ (k : List Entry). commands (take i h) d ++ commands k d) (drop-cons h i e below ∙ ap (λ (x : Entry). x ∷ drop (suc i) h) is)
    ∙ ap (λ (n : ℕ). commands (take i h) d ++ (command_of d e ++ commands (drop n h) d)) (sym (add-one i))

-- another command than the next
pub makes_other : (z : Sizes) (d : ℕ) (section : List Command) (h : List Entry) (i : ℕ) (e : Entry) (rs : List Reply) (made : ℕ) (ended : Bool) → i < length h → get_or h i e ≡ e
    → HasDone z d section (take i h) rs made ended → ((more : List Command) → take made section ++ (command_of d e ++ more) ≡ section → ⊥) → MakesAndEnds d section h → ⊥
makes_other z d section h i e rs made ended below is before other makes =
    other (commands (drop (i + 1) h) d)
    (ap (λ (cs : List Command). cs ++ (command_of d e ++ commands (drop (i + 1) h) d)) before.commands_are ∙ sym (commands_at h i e d below is) ∙ makes.commands_are)

-- no command is left
pub none_left : (section : List Command) (made : ℕ) (c : Command) (more : List Command) → length section ≤ made → take made section ++ (c ∷ more) ≡ section → ⊥
none_left section made c more all is =
    let longer : section ++ (c ∷ more) ≡ section = ap (λ (cs : List Command). cs ++ (c ∷ more)) (sym (take_all made section all)) ∙ is in
    let sizes = sym (length-append section (c ∷ more)) ∙ ap length longer in omega (arith, sizes)

-- the next command is another
pub next_differs : (section : List Command) (made : ℕ) (c n : Command) (more : List Command) → made < length section → get_or section made n ≡ n → c ≢ n → take made section ++ (c ∷ more) ≡ section → ⊥
next_differs section made c n more below at other is =
    let rest : c ∷ more ≡ n ∷ drop (suc made) section =
    append_cancel_left (take made section) (c ∷ more) (n ∷ drop (suc made) section)
    (is ∙ sym (take-append-drop made section) ∙ ap (λ (cs : List Command). take made section ++ cs) (drop-cons section made n below ∙ ap (λ (x : Command). x ∷ drop (suc made) section) at)) in
    other cc

-- all was read, and something is left to do
pub not_done : (z : Sizes) (d : ℕ) (section : List Command) (h : List Entry) (rs : List Reply) (made : ℕ) (ended : Bool) (n : ℕ) → length h ≤ n
    → HasDone z d section (take n h) rs made ended → (made ≡ length section → IsTrue ended → ⊥) → MakesAndEnds d section h → ⊥
not_done z d section h rs made ended n all read left makes =
    let there : HasDone z d section h rs made ended = subst (λ (k : List Entry). HasDone z d section k rs made ended) (take_all n h all) read in
    let whole : take made section ≡ section = there.commands_are ∙ makes.commands_are in
    let sizes = sym (length-take-le made section there.within) ∙ ap length whole in
    left sizes (subst IsTrue (sym there.ended_is) makes.ends)

-- the lines of the replies so far, and then that of the next
printed_at : (rs : List Reply) (i : ℕ) (r : Reply) → i < length rs → get_or rs i r ≡ r → printed rs ≡ printed (take i rs) ++ (line (reply_text r) ++ printed (drop (i + 1) rs))
printed_at rs i r below is =
    ap printed (sym (take-append-drop i rs)) ∙ flat_map-append (λ (x : Reply). line (reply_text x)) (take i rs) (drop i rs)
    ∙ ap (λ (xs : List Reply). printed (take i rs) ++ printed xs) (drop-cons rs i r below ∙ ap (λ (x : Reply). x ∷ drop (suc i) rs) is)
    ∙ ap (λ (n : ℕ). printed (take i rs) ++ (line (reply_text r) ++ printed (drop n rs))) (sym (add-one i))

pub not_printed : (bytes rest : List ℕ) (rs : List Reply) (i : ℕ) (r : Reply) → i < length rs → get_or rs i r ≡ r → bytes ≡ printed (take i rs) ++ rest → ((more : List ℕ) → rest ≢ line (reply_text r) ++ more)
    → (more : List ℕ) → bytes ≢ printed rs ++ more
not_printed bytes rest rs i r below at before other more is =
    let front = printed (take i rs) in
    let behind = printed (drop (i + 1) rs) in
    other (behind ++ more)
    (append_cancel_left front rest (line (reply_text r) ++ (behind ++ more))
    (sym before ∙ is ∙ ap (λ (t : List ℕ). t ++ more) (printed_at rs i r below at) ∙ append_assoc front (line (reply_text r) ++ behind) more
    ∙ ap (λ (t : List ℕ). front ++ t) (append_assoc (line (reply_text r)) behind more)))

-- a section isn't there where its heading isn't, or its replies aren't
pub no_heading : (bytes front behind : List ℕ) → ((more : List ℕ) → bytes ≢ front ++ more) → (more : List ℕ) → bytes ≢ (front ++ behind) ++ more
no_heading bytes front behind other more is = other (behind ++ more) (is ∙ append_assoc front behind more)

pub no_replies : (bytes rest front behind : List ℕ) → bytes ≡ front ++ rest → ((more : List ℕ) → rest ≢ behind ++ more) → (more : List ℕ) → bytes ≢ (front ++ behind) ++ more
no_replies bytes rest front behind before other more is =
    other more (append_cancel_left front rest (behind ++ more) (sym before ∙ is ∙ append_assoc front behind more))

-- a history that explains the bytes explains the sections that are left
text_at : (f : ℕ → List ℕ) (a n d : ℕ) → d < n → (more : List ℕ) × (flat_map f (range_with_len a n) ≡ flat_map f (range_with_len a d) ++ (f (a + d) ++ more))
text_at f a zero d below = absurd (omega (arith, below))
text_at f a (suc n) zero below = (flat_map f (range_with_len (a + 1) n), let here : a ≡ a + 0 = omega arith in ap (λ (k : ℕ). f k ++ flat_map f (range_with_len (a + 1) n)) here)
text_at f a (suc n) (suc d) below =
    let rest = text_at f (a + 1) n d (omega (arith, below)) in
    let here : a + 1 + d ≡ a + suc d = omega arith in (
      rest.0,
      ap (λ (t : List ℕ). f a ++ t) (rest.1 ∙ ap (λ (k : ℕ). flat_map f (range_with_len (a + 1) d) ++ (f k ++ rest.0)) here)
          ∙ sym (append_assoc (f a) (flat_map f (range_with_len (a + 1) d)) (f (a + suc d) ++ rest.0)),
    )

section_left : (z : Sizes) (sections : List (List Command)) (bytes : List ℕ) (h : List Entry) (d : ℕ) (rest : List ℕ) → d < z.domains → ExplainsFront z sections bytes h d rest → Explains z sections bytes h
    → (more : List ℕ) × (rest ≡ section_text z h d ++ more)
section_left z sections bytes h d rest below front explains =
    let there = text_at (section_text z h) 0 z.domains d below in (
      there.0,
      append_cancel_left (flat_map (section_text z h) (range_with_len 0 d)) rest (section_text z h d ++ there.0)
          (sym front.bytes_are ∙ sym explains.prints ∙ there.1 ∙ ap (λ (k : ℕ). flat_map (section_text z h) (range_with_len 0 d) ++ (section_text z h k ++ there.0)) (zero_plus d)),
    )
  where
    zero_plus : (k : ℕ) → 0 + k ≡ k
    zero_plus k = omega arith

-- so it does what the section says
pub explains_makes : (z : Sizes) (sections : List (List Command)) (bytes : List ℕ) (h : List Entry) (d : ℕ) (section : List Command) → d < z.domains → section ≡ slice_index_or sections d [] → Explains z sections bytes h → MakesAndEnds d section h
explains_makes z sections bytes h d section below is explains = record { commands_are = explains.run.each_command d below ∙ sym is; ends = explains.run.each_ends d below }

-- and its lines are there
pub explains_lines : (z : Sizes) (sections : List (List Command)) (bytes : List ℕ) (h : List Entry) (d : ℕ) (section : List Command) (rs : List Reply) (rest : List ℕ) → d < z.domains → ExplainsFront z sections bytes h d rest → Does z d section h rs
    → ((more : List ℕ) → rest ≢ (line (heading_text d) ++ printed rs) ++ more) → Explains z sections bytes h → ⊥
explains_lines z sections bytes h d section rs rest below front does other explains =
    let left = section_left z sections bytes h d rest below front explains in
    other left.0 (left.1 ∙ ap (λ (xs : List Reply). (line (heading_text d) ++ printed xs) ++ left.0) does.replies_are)

-- and nothing stands behind the last section
pub explains_whole : (z : Sizes) (sections : List (List Command)) (bytes : List ℕ) (h : List Entry) (n : ℕ) (rest : List ℕ) → n ≡ z.domains → ExplainsFront z sections bytes h n rest → Explains z sections bytes h → rest ≡ []
explains_whole z sections bytes h n rest whole front explains =
    let there : ExplainsFront z sections bytes h z.domains rest = subst (λ (k : ℕ). ExplainsFront z sections bytes h k rest) whole front in
    append_cancel_left (output z h) rest [] (sym there.bytes_are ∙ sym explains.prints ∙ sym (append-nil (output z h)))

pub none_holds : {A : Type 0} (P : Type 0) (r : Option A) → P → IfNone r P
none_holds P None h = h
none_holds P (Some x) h = tt

-- a line that was printed into the front of a room isn't there
pub no_line : {A : Type 0} (r : Option A) (bytes out text rest : List ℕ) (n : ℕ) → out ≡ text ++ rest → n ≡ length text → IfNone r ((more : List ℕ) → bytes ≢ take n out ++ more) → IfNone r ((more : List ℕ) → bytes ≢ text ++ more)
no_line r bytes out text rest n is size none =
    subst (λ (t : List ℕ). IfNone r ((more : List ℕ) → bytes ≢ t ++ more)) (ap (take n) is ∙ ap (λ (k : ℕ). take k (text ++ rest)) size ∙ take-append_seam text rest) none

pub section_none : {A : Type 0} (r : Option A) (bytes rest front behind : List ℕ) → bytes ≡ front ++ rest → IfNone r ((more : List ℕ) → rest ≢ behind ++ more) → IfNone r ((more : List ℕ) → bytes ≢ (front ++ behind) ++ more)
section_none None bytes rest front behind is none = no_replies bytes rest front behind is none
section_none (Some x) bytes rest front behind is none = tt
