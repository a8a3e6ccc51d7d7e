-- The sections of an output, one after the other.
use Rattle.std.proofs.Common.{◌≡◌, ℕ, zero, suc, ◌<◌, ◌+◌, List, [], ◌++◌, refl, ap, subst, sym, ◌∙◌, append_assoc, append-nil, zero-add, add-one, flat_map, IsTrue, arith}
use Rattle.std.specs.List.{list_any, range_with_len}
use Rattle.std.specs.Prelude.{slice_index_or, Option, Some, None, MatchOption, IfSome}
use borrow.Author.Count.{below_more}
use Rattle.model_core.specs.declared.command.Command.{Command}
use Rattle.model_core.specs.declared.entry.Entry.{Entry}
use Rattle.model_core.specs.declared.reply.Reply.{Reply}
use Rattle.model_core.specs.declared.state.Sizes.{Sizes}
use Rattle.model_core.specs.History.{Legal, commands}
use Rattle.model_core.specs.Output.{line, printed, section_text}
use Rattle.text_script.specs.Spelling.{heading_text}
use Rattle.judge_plain.specs.History.Steps.{is_end_of, Does}
use Rattle.judge_plain.specs.History.Explains.{Explains, ExplainsFront}
use Rattle.judge_plain.proofs.OfScheduled.ListLemmas.{flat_map_more}

-- where there is something, the second fact holds
pub if_some : {A : Type 0} (P : Type 0) (Q : A → Type 0) (r : Option A) → MatchOption r P Q → IfSome r Q
if_some P Q None h = tt
if_some P Q (Some x) h = h

-- no section yet
pub explains_nothing : (z : Sizes) (sections : List (List Command)) (bytes : List ℕ) (h : List Entry) → ExplainsFront z sections bytes h 0 bytes
explains_nothing z sections bytes h = record { each_command = λ d k. absurd (omega (arith, k)); each_ends = λ d k. absurd (omega (arith, k)); bytes_are = refl }

-- a fact of each number below n, and of n
below_or : (P : ℕ → Type 0) (n : ℕ) → ((k : ℕ) → k < n → P k) → P n → (k : ℕ) → k < n + 1 → P k
below_or P n below here = below_more P n below here

-- one more section
pub explains_more : (z : Sizes) (sections : List (List Command)) (bytes : List ℕ) (h : List Entry) (d : ℕ) (section : List Command) (rs : List Reply) (rest behind : List ℕ)
    → ExplainsFront z sections bytes h d rest
    → section ≡ slice_index_or sections d []
    → Does z d section h rs
    → rest ≡ (line (heading_text d) ++ printed rs) ++ behind
    → ExplainsFront z sections bytes h (d + 1) behind
explains_more z sections bytes h d section rs rest behind before is does reads =
    let P : ℕ → Type 0 = λ k. commands h k ≡ slice_index_or sections k [] in
    let Q : ℕ → Type 0 = λ k. IsTrue (list_any (is_end_of k) h) in
    let texts : rest ≡ section_text z h d ++ behind = reads ∙ ap (λ x. (line (heading_text d) ++ printed x) ++ behind) (sym does.replies_are) in
    record {
      each_command = below_or P d before.each_command (does.commands_are ∙ is);
      each_ends = below_or Q d before.each_ends does.ends;
      bytes_are = before.bytes_are
          ∙ ap (λ x. flat_map (section_text z h) (range_with_len 0 d) ++ x) texts
          ∙ sym (append_assoc (flat_map (section_text z h) (range_with_len 0 d)) (section_text z h d) behind)
          ∙ ap (λ x. x ++ behind) (sym (flat_map_more (section_text z h) d));
    }

-- all sections
pub explains_all : (z : Sizes) (sections : List (List Command)) (bytes : List ℕ) (h : List Entry) (n : ℕ) (rest : List ℕ)
    → Legal z h
    → n ≡ z.domains
    → ExplainsFront z sections bytes h n rest
    → rest ≡ []
    → Explains z sections bytes h
explains_all z sections bytes h n rest legal whole before none =
    let front : ExplainsFront z sections bytes h z.domains rest = subst (λ x. ExplainsFront z sections bytes h x rest) whole before in
    record {
      run = record { legal = legal; each_command = front.each_command; each_ends = front.each_ends };
      prints = sym (front.bytes_are ∙ ap (λ x. flat_map (section_text z h) (range_with_len 0 z.domains) ++ x) none ∙ append-nil (flat_map (section_text z h) (range_with_len 0 z.domains)));
    }
