-- What the domains of a history do, and that it is shown as it is where nothing is changed.
use Rattle.std.proofs.Common.{◌≡◌, ℕ, zero, suc, ◌+◌, ◌<◌, Bool, true, false, List, [], ◌∷◌, ◌++◌, map, flat_map, Option, Some, None, refl, ap, ap₂, sym, ◌∙◌, subst, arith}
use Rattle.std.specs.List.{range_with_len}
use Rattle.std.specs.Prelude.{cond, ◌==◌, slice_get, slice_index_or}
use Rattle.std.proofs.lemmas.List.FromFn.{get_or-map-range_with_len}
use Rattle.model_core.specs.declared.command.Command.{Command}
use Rattle.model_core.specs.declared.entry.Entry.{Entry}
use Rattle.model_core.specs.declared.entry.Entry.TheVariants.{Command as CommandOf, End, Cut, Queue, Seal, Wipe, Last, Collected, Done, Ran as RanOf}
use Rattle.model_core.specs.declared.reply.Applied.{Applied}
use Rattle.model_core.specs.declared.reply.Applied.TheVariants.{Replied, Silent}
use Rattle.model_core.specs.declared.reply.Reply.{Reply}
use Rattle.model_core.specs.declared.state.Sizes.{Sizes}
use Rattle.model_core.specs.declared.state.State.{State}
use Rattle.model_core.specs.Commands.{command_outcome}
use Rattle.model_core.specs.Domains.{domain_at, opening}
use Rattle.model_core.specs.Entries.{next, reply, run_reply}
use Rattle.model_core.specs.History.{command_of, commands, is_entry_of, replies, replies_from, reply_list}
use Rattle.model_core.specs.Output.{line, printed, section_text}
use Rattle.text_script.specs.Spelling.{heading_text}
use Rattle.judge_plain.specs.History.Explains.{Explains}
use Rattle.judge_plain.proofs.OfScheduled.ListLemmas.{flat_map_more}
use Rattle.judge_profiles.specs.declared.act.Act.{Act}
use Rattle.judge_profiles.specs.declared.act.Act.TheVariants.{Made, Ran}
use Rattle.judge_profiles.specs.declared.act.Change.{Change}
use Rattle.judge_profiles.specs.declared.act.Change.TheVariants.{Swap, Drop, Refuse}
use Rattle.judge_profiles.specs.declared.profile.Profile.{Profile}
use Rattle.judge_profiles.specs.declared.profile.Profile.TheVariants.{Strict}
use Rattle.judge_profiles.specs.Explains.{ExplainsUnder, Reads, own_lines, shown_lines}
use Rattle.judge_profiles.specs.Laws.{StrictLaw, WeakerLaw}
use Rattle.judge_profiles.specs.Shown.{changed, changed_all, commands_of, dropped, on_changed, replies_of, shown_of, swapped}

-- what a domain does in an entry, and in some entries, in order
abbrev ran_of : Applied → List Act
ran_of (Replied r) = Ran r ∷ []
ran_of Silent = []

abbrev act_of : ℕ → State → Entry → List Act
act_of d s (CommandOf k c full) = cond (k == d) (Made c (command_outcome s k c full).reply ∷ []) []
act_of d s (RanOf k) = cond (k == d) (ran_of (run_reply (domain_at s k).queue)) []
act_of d s _ = []

abbrev acts_from : State → List Entry → ℕ → List Act
acts_from s [] d = []
acts_from s (e ∷ h) d = act_of d s e ++ acts_from (next s e) h d

-- commands and replies of two lists
commands_both : (xs ys : List Act) → commands_of (xs ++ ys) ≡ commands_of xs ++ commands_of ys
commands_both [] ys = refl
commands_both (Made c r ∷ xs) ys = ap (λ (t : List Command). c ∷ t) (commands_both xs ys)
commands_both (Ran r ∷ xs) ys = commands_both xs ys

replies_both : (xs ys : List Act) → replies_of (xs ++ ys) ≡ replies_of xs ++ replies_of ys
replies_both [] ys = refl
replies_both (Made c r ∷ xs) ys = ap (λ (t : List Reply). r ∷ t) (replies_both xs ys)
replies_both (Ran r ∷ xs) ys = ap (λ (t : List Reply). r ∷ t) (replies_both xs ys)

-- the command of an entry
made_command : (b : Bool) (c : Command) (r : Reply) → commands_of (cond b (Made c r ∷ []) []) ≡ cond b (c ∷ []) []
made_command true c r = refl
made_command false c r = refl

no_command : (b : Bool) (a : Applied) → commands_of (cond b (ran_of a) []) ≡ []
no_command true (Replied r) = refl
no_command true Silent = refl
no_command false a = refl

command_step : (d : ℕ) (s : State) (e : Entry) → commands_of (act_of d s e) ≡ command_of d e
command_step d s (CommandOf k c full) = made_command (k == d) c (command_outcome s k c full).reply
command_step d s (RanOf k) = no_command (k == d) (run_reply (domain_at s k).queue)
command_step d s (End k) = refl
command_step d s Cut = refl
command_step d s (Queue k places) = refl
command_step d s Seal = refl
command_step d s (Wipe l keys) = refl
command_step d s (Last k place) = refl
command_step d s Collected = refl
command_step d s Done = refl

acts_commands : (s : State) (h : List Entry) (d : ℕ) → commands_of (acts_from s h d) ≡ commands h d
acts_commands s [] d = refl
acts_commands s (e ∷ h) d = commands_both (act_of d s e) (acts_from (next s e) h d) ∙ ap₂ (λ (x : List Command) (y : List Command). x ++ y) (command_step d s e) (acts_commands (next s e) h d)

-- the reply of an entry
made_reply : (b : Bool) (c : Command) (r : Reply) → replies_of (cond b (Made c r ∷ []) []) ≡ cond b (r ∷ []) []
made_reply true c r = refl
made_reply false c r = refl

ran_reply : (b : Bool) (a : Applied) → replies_of (cond b (ran_of a) []) ≡ cond b (reply_list a) []
ran_reply true (Replied r) = refl
ran_reply true Silent = refl
ran_reply false a = refl

abbrev no_replies : List Reply
no_replies = []

no_reply : (b : Bool) → no_replies ≡ cond b no_replies no_replies
no_reply true = refl
no_reply false = refl

reply_step : (d : ℕ) (s : State) (e : Entry) → replies_of (act_of d s e) ≡ cond (is_entry_of d e) (reply_list (reply s e)) []
reply_step d s (CommandOf k c full) = made_reply (k == d) c (command_outcome s k c full).reply
reply_step d s (RanOf k) = ran_reply (k == d) (run_reply (domain_at s k).queue)
reply_step d s (End k) = no_reply (k == d)
reply_step d s Cut = refl
reply_step d s (Queue k places) = refl
reply_step d s Seal = refl
reply_step d s (Wipe l keys) = refl
reply_step d s (Last k place) = refl
reply_step d s Collected = refl
reply_step d s Done = refl

acts_replies : (s : State) (h : List Entry) (d : ℕ) → replies_of (acts_from s h d) ≡ replies_from s h d
acts_replies s [] d = refl
acts_replies s (e ∷ h) d = replies_both (act_of d s e) (acts_from (next s e) h d) ∙ ap₂ (λ (x : List Reply) (y : List Reply). x ++ y) (reply_step d s e) (acts_replies (next s e) h d)

-- lists that are the same for each number below n
flat_same : (f g : ℕ → List ℕ) (n : ℕ) → ((d : ℕ) → d < n → f d ≡ g d) → flat_map f (range_with_len 0 n) ≡ flat_map g (range_with_len 0 n)
flat_same f g zero same = refl
flat_same f g (suc n) same =
    let is : suc n ≡ n + 1 = omega arith in
    ap (λ k. flat_map f (range_with_len 0 k)) is
    ∙ flat_map_more f n
    ∙ ap₂ (λ (x : List ℕ) (y : List ℕ). x ++ y) (flat_same f g n (λ d k. same d (omega (arith, k)))) (same n (omega arith))
    ∙ sym (flat_map_more g n)
    ∙ sym (ap (λ k. flat_map g (range_with_len 0 k)) is)

abbrev no_changes : List (List Change)
no_changes = []

none_at : (d : ℕ) → slice_index_or no_changes d [] ≡ []
none_at zero = refl
none_at (suc d) = refl

-- what is read without a change
reads_same : (p : Profile) (made : List Command) (acts : List Act) (changes : List Change) → changes ≡ [] → commands_of acts ≡ made → Reads p made made acts changes
reads_same p made acts changes none makes = subst (λ cs. Reads p made made acts cs) (sym none) (record { makes = makes; allowed = refl; shows = makes })

pub weaker : WeakerLaw
weaker p z sections bytes h e =
    let own : ℕ → List Act = acts_from (opening z) h in
    let acts = map own (range_with_len 0 z.domains) in
    let at : (d : ℕ) → d < z.domains → slice_index_or acts d [] ≡ own d = λ d k. get_or-map-range_with_len own 0 z.domains d d [] k (omega arith) in
    let made : (d : ℕ) → d < z.domains → commands_of (slice_index_or acts d []) ≡ slice_index_or sections d [] = λ d k. ap commands_of (at d k) ∙ acts_commands (opening z) h d ∙ e.run.each_command d k in
    let told : (d : ℕ) → d < z.domains → section_text z h d ≡ own_lines acts d = λ d k. ap (λ (rs : List Reply). line (heading_text d) ++ printed rs) (sym (ap replies_of (at d k) ∙ acts_replies (opening z) h d)) in
    let shown : (d : ℕ) → own_lines acts d ≡ shown_lines p acts [] d = λ d. ap (λ (cs : List Change). line (heading_text d) ++ printed (replies_of (shown_of p (slice_index_or acts d []) cs))) (sym (none_at d)) in
    record {
      made = sections;
      own = bytes;
      history = h;
      explains = e;
      acts = acts;
      changes = [];
      reads = record {
        reads = λ d k. reads_same p (slice_index_or sections d []) (slice_index_or acts d []) (slice_index_or [] d []) (none_at d) (made d k);
        own_is = sym e.prints ∙ flat_same (section_text z h) (own_lines acts) z.domains told;
        shown_is = sym e.prints ∙ flat_same (section_text z h) (shown_lines p acts []) z.domains (λ d k. told d k ∙ shown d);
      };
    }

-- the strict profile allows no change
swapped_none : (acts : List Act) (i : ℕ) (first second : Option Act) → swapped Strict acts i first second ≡ None
swapped_none acts i None second = refl
swapped_none acts i (Some first) None = refl
swapped_none acts i (Some first) (Some second) = refl

dropped_none : (acts : List Act) (i : ℕ) (act behind : Option Act) → dropped Strict acts i act behind ≡ None
dropped_none acts i None behind = refl
dropped_none acts i (Some act) behind = refl

changed_none : (acts : List Act) (one : Change) → changed Strict acts one ≡ None
changed_none acts (Swap i) = swapped_none acts i (slice_get acts i) (slice_get acts (i + 1))
changed_none acts (Drop i) = dropped_none acts i (slice_get acts i) (slice_get acts (i + 1))
changed_none acts (Refuse i c) = refl

pub strict : StrictLaw
strict acts shown [] is = cc
strict acts shown (one ∷ more) is =
    let none : None ≡ Some shown = sym (ap (λ o. on_changed o (λ behind. changed_all Strict behind more)) (changed_none acts one)) ∙ is in
    absurd (let clash : None ≡ Some shown = none in cc)
