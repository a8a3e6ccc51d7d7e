-- Bytes spell a replay, or have a first fault.
use Rattle.std.proofs.Common.{◌≡◌, ◌⊎◌, ℕ, zero, suc, ◌+◌, ◌-◌, ◌*◌, ◌<◌, ◌≤◌, ◌^◌, List, [], ◌∷◌, ◌++◌, drop, length, length-append, Bool, true, false, cond, None, Some, inl, inr, ⊎_elim, refl, sym, ap, ◌∙◌, arith}
use Rattle.std.specs.Prelude.{Option, codes, bytes_eq, nat_lt, ◌==◌, if◌then◌else◌}
use Rattle.std.specs.List.{slice_split}
use Rattle.std.proofs.lemmas.Bool.Decides.{nat_tests}
use Rattle.text_script.specs.declared.fault.ScriptFault.{ScriptFault}
use Rattle.text_script.specs.declared.fault.ScriptFault.TheVariants.{TooLong}
use Rattle.text_script.specs.declared.version.Version.TheVariants.{Three}
use Rattle.text_script.specs.Faults.{first_fault}
use Rattle.text_script.specs.Script.{Scripted}
use Rattle.text_script.specs.Spelling.{Spells as SpellsScript}
use Rattle.text_script.specs.Split.{split_at_mark}
use Rattle.text_script.proofs.AnswerLemmas.{answered}
use Rattle.text_script.proofs.ReadLemmas.{split_joined}
use Rattle.model_traces.specs.declared.schedules.items.Item.{Item}
use Rattle.text_script.specs.declared.schedule.text.replay.ReplayFault.{ReplayFault}
use Rattle.text_script.specs.declared.schedule.text.replay.ReplayFault.TheVariants.{Schedule, Script, NotReplayable}
use Rattle.text_script.specs.Schedule.Text.Faults.{first_wrong, item_of, wrong_from}
use Rattle.text_script.specs.Schedule.Text.Replayable.{CanReplay, has_major, has_spawns, pools_of, why_not}
use Rattle.text_script.specs.Schedule.Text.Replays.{HasFault, Replayed, SpellsReplay}
use Rattle.text_script.specs.Schedule.Text.Spelling.{Spells}
use Rattle.text_script.proofs.OfSchedule.OfText.ReadingLemmas.{ReadTo, all_read, item_taken, line_missing, line_wrong, no_line, other_first, right_first}

-- the bytes spell a schedule
abbrev IsSaid : ℕ → List ℕ → Type 0
IsSaid domains bytes = (r : List Item × ℕ) × Spells domains r.0 r.1 bytes

-- or a line behind the first is wrong
abbrev Goes : ℕ → List ℕ → List ℕ → Type 0
Goes domains bytes behind = IsSaid domains bytes ⊎ ((k : ℕ) × (wrong_from domains 0 (slice_split (λ b. b == 10) behind) ≡ Some k))

-- a rest is shorter
shorter : (rest text tail : List ℕ) → Some (text, tail) ≡ split_at_mark 10 rest → length tail < length rest
shorter rest text tail cutting = omega (arith, ap length (split_joined 10 rest (text, tail) (sym cutting)), length-append text (10 ∷ tail))

module _ (domains : ℕ) (bytes behind : List ℕ) (small : domains < 2 ^ 32) (items : List Item) (rest : List ℕ) (r : ReadTo domains bytes behind items rest)
    (more : (others : List Item) (tail : List ℕ) → length tail < length rest → ReadTo domains bytes behind others tail → Goes domains bytes behind) where
  by_item : (text tail : List ℕ) (next : Option Item) → Some (text, tail) ≡ split_at_mark 10 rest → bytes_eq text (codes "end") ≡ false → cond (nat_lt (length items) 200000) (item_of domains text) None ≡ next → Goes domains bytes behind
  by_item text tail None cutting other none = inr (length items + 2, line_wrong domains bytes behind items rest text tail r cutting other none)
  by_item text tail (Some i) cutting other said = more (items ++ i ∷ []) tail (shorter rest text tail cutting) (item_taken domains bytes behind items (items ++ i ∷ []) i rest text tail small r cutting other said refl)

  by_line : (text tail : List ℕ) (ends : Bool) → Some (text, tail) ≡ split_at_mark 10 rest → bytes_eq text (codes "end") ≡ ends → Goes domains bytes behind
  by_line text tail true cutting is = inl ((items, length bytes - length tail), all_read domains bytes behind items rest text tail r cutting is)
  by_line text tail false cutting other = by_item text tail _ cutting other refl

  by_cut : (cut : Option (List ℕ × List ℕ)) → cut ≡ split_at_mark 10 rest → Goes domains bytes behind
  by_cut None cutting = inr (length items + 2, line_missing domains bytes behind items rest r cutting)
  by_cut (Some (text, tail)) cutting = by_line text tail (bytes_eq text (codes "end")) cutting refl

-- the lines behind the first
goes_from : (fuel domains : ℕ) (bytes behind : List ℕ) (items : List Item) (rest : List ℕ) → domains < 2 ^ 32 → length rest < fuel → ReadTo domains bytes behind items rest → Goes domains bytes behind
goes_from zero domains bytes behind items rest small few r = absurd (omega (arith, few))
goes_from (suc fuel) domains bytes behind items rest small few r =
    by_cut domains bytes behind small items rest r
    (λ others tail less there. goes_from fuel domains bytes behind others tail small (omega (arith, few, less)) there)
    (split_at_mark 10 rest) refl

-- a schedule is spelled, or has a first wrong line
module _ (domains : ℕ) (bytes : List ℕ) (small : domains < 2 ^ 32) where
  abbrev Decided : Type 0
  Decided = IsSaid domains bytes ⊎ ((k : ℕ) × (first_wrong domains bytes ≡ Some k))

  by_first : (first behind : List ℕ) (is : Bool) → Some (first, behind) ≡ split_at_mark 10 bytes → bytes_eq first (codes "schedule 1") ≡ is → Decided
  by_first first behind false cutting other = inr (1, other_first domains bytes first behind cutting other)
  by_first first behind true cutting same =
      let begun = right_first domains bytes first behind cutting same in
      ⊎_elim (λ said. inl said) (λ wrong. inr (wrong.0, begun.1 ∙ wrong.1))
      (goes_from (suc (length behind)) domains bytes behind [] behind small (omega arith) record { spelled = begun.0; few = omega arith; for_domains = refl; wrong = refl })

  by_text : (cut : Option (List ℕ × List ℕ)) → cut ≡ split_at_mark 10 bytes → Decided
  by_text None cutting = inr (1, no_line domains bytes cutting)
  by_text (Some (first, behind)) cutting = by_first first behind (bytes_eq first (codes "schedule 1")) cutting refl

  decided : Decided
  decided = by_text (split_at_mark 10 bytes) refl

-- a script without a reason why not can be replayed
abbrev reason_by : Bool → Bool → Bool → Option ℕ
reason_by a b c = if a then Some 3 else if b then Some 1 else if c then Some 2 else None

no_reason : (a b c : Bool) → reason_by a b c ≡ None → (a ≡ false) × (b ≡ false) × (c ≡ false)
no_reason true b c e = cc
no_reason false true c e = cc
no_reason false false true e = cc
no_reason false false false e = (refl, refl, refl)

can_replay : (domains pools : ℕ) (script : Scripted) → why_not domains pools script ≡ None → CanReplay domains pools script
can_replay domains pools script none =
    let each = no_reason (has_spawns script) (has_major script.sections) (nat_lt pools (2 * pools_of domains script.sections)) none in
    let many = each.2 in
    record { no_spawns = each.0; no_major = each.1; few = grind (arith, nat_tests, many) }

-- bytes spell a replay, or have a first fault
module _ (domains pools : ℕ) (bytes : List ℕ) (small : domains < 2 ^ 32) where
  abbrev IsAnswered : Type 0
  IsAnswered = ((r : Replayed) × SpellsReplay domains pools r bytes) ⊎ ((fault : ReplayFault) × HasFault domains pools bytes fault)

  module _ (few : length bytes ≤ 16777216) (items : List Item) (place : ℕ) (schedule : Spells domains items place bytes) where
    by_reason : (script : Scripted) (why : Option ℕ) → SpellsScript Three domains script (drop place bytes) → why_not domains pools script ≡ why → IsAnswered
    by_reason script None spelled none =
        inl (record { items = items; script = script }, record { few = few; place = place; schedule = schedule; script = spelled; can = can_replay domains pools script none })
    by_reason script (Some why) spelled reason =
        inr (NotReplayable why, record { few = few; items = items; place = place; schedule = schedule; script = script; spelled = spelled; reason = reason })

    by_script : IsAnswered
    by_script = ⊎_elim
        (λ s. by_reason s.0 (why_not domains pools s.0) s.1 refl)
        (λ f. inr (Script f.0, inr record { few = few; items = items; place = place; schedule = schedule; first = f.2 }))
        (answered Three domains (drop place bytes) small)

  by_length : (many : Bool) → nat_lt 16777216 (length bytes) ≡ many → IsAnswered
  by_length true e = inr (Script (TooLong (length bytes)), inl record { many = grind (arith, nat_tests, e); is = refl })
  by_length false e =
      let few : length bytes ≤ 16777216 = grind (arith, nat_tests, e) in
      ⊎_elim (λ said. by_script few said.0.0 said.0.1 said.1) (λ wrong. inr (Schedule wrong.0, record { few = few; wrong = wrong.1 })) (decided domains bytes small)

pub replay_answered : (domains pools : ℕ) (bytes : List ℕ) → domains < 2 ^ 32 → ((r : Replayed) × SpellsReplay domains pools r bytes) ⊎ ((fault : ReplayFault) × HasFault domains pools bytes fault)
replay_answered domains pools bytes small = by_length domains pools bytes small (nat_lt 16777216 (length bytes)) refl
