use Rattle.std.proofs.Common.{◌≡◌, ◌+◌, ◌-◌, ◌∙◌, ℕ, List, Option, true, false, ap, sym, subst, length, take, drop, Some, IfOk, IfErr}
use Rattle.std.specs.Prelude.{bytes_eq, codes}
use Rattle.text_script.specs.Spawning.{place_in}
use Rattle.text_script.specs.declared.form.Word.{Word}
use Rattle.text_script.specs.declared.version.Version.{Version}
use Rattle.text_script.specs.Split.{first_text}
use Rattle.text_script.specs.Forms.{word_of}
use Rattle.text_script.specs.Faults.{LineShape, IsFaultUnlessMemory}
use Rattle.text_script.specs.Steps.{line_said, heading_said, row_said, fault_of_said, TakesSaid}
use Rattle.text_script.proofs.FrontLemmas.{drop_on, all_behind}
use Rattle.text_script.proofs.LineLemmas.{heading_line, row_line, other_line}
use Rattle.text_script.proofs.line.take_other.Goals as goal

-- the text at a place
first_is : (at : ℕ) (bytes text : List ℕ) → text ≡ first_text (take (length bytes - at) (drop at bytes)) → first_text (drop at bytes) ≡ text
first_is at bytes text e = sym (e ∙ ap first_text (all_behind at bytes))

is_heading : (c : goal.After-take_heading) → line_said c.args.grammar.now.version (drop c.args.at c.args.bytes.now) ≡ heading_said (drop (c.args.at + length c.first_text-text.result.now) c.args.bytes.now)
is_heading c =
    let word : bytes_eq c.first_text-text.result.now (codes "domain") ≡ true = sym (c.if-eq.ensures ∙ ap (bytes_eq c.first_text-text.result.now) c.as_slice.ensures) in
    heading_line c.args.grammar.now.version (drop c.args.at c.args.bytes.now) c.first_text-text.result.now (first_is c.args.at c.args.bytes.now c.first_text-text.result.now c.first_text-text.ensures) word
    ∙ ap heading_said (sym (drop_on c.args.at (length c.first_text-text.result.now) c.args.bytes.now))

-- the word of the version that was found at a place says its row
row_found : (ver : Version) (at : ℕ) (bytes text : List ℕ) (w : Word) → text ≡ first_text (take (length bytes - at) (drop at bytes)) → bytes_eq text (codes "domain") ≡ false → word_of ver text ≡ Some w
    → row_said w (drop (at + length text) bytes) ≡ line_said ver (drop at bytes)
row_found ver at bytes text w first other found =
    ap (row_said w) (drop_on at (length text) bytes) ∙ sym (row_line ver (drop at bytes) text w (first_is at bytes text first) other found)

pub returns-in-Some-clause-ok : goal.returns-in-Some-clause-ok
returns-in-Some-clause-ok c =
    subst (λ (s : Option (LineShape × List ℕ)). IfOk c.take_command.result (λ next. TakesSaid c.args.grammar.now.version c.args.grammar.now.domains s (drop next c.args.bytes.now) c.args.script.now.sections c.take_command.new.script.sections))
    (row_found c.args.grammar.now.version c.args.at c.args.bytes.now c.first_text-text.result.now c.in-Some.word c.first_text-text.ensures (sym (c.if-eq.ensures ∙ ap (bytes_eq c.first_text-text.result.now) c.as_slice.ensures)) (ap (λ v. word_of v c.first_text-text.result.now) (sym c.version.ensures) ∙ sym c.search_word.ensures ∙ c.in-Some.is)) c.take_command.ensures.ok

pub returns-in-Some-clause-fault : goal.returns-in-Some-clause-fault
returns-in-Some-clause-fault c =
    subst (λ (s : Option (LineShape × List ℕ)). IfErr c.take_command.result (λ e. IsFaultUnlessMemory e (fault_of_said c.args.grammar.now.version c.args.grammar.now.domains c.args.line (place_in c.args.script.now.sections) s)))
    (row_found c.args.grammar.now.version c.args.at c.args.bytes.now c.first_text-text.result.now c.in-Some.word c.first_text-text.ensures (sym (c.if-eq.ensures ∙ ap (bytes_eq c.first_text-text.result.now) c.as_slice.ensures)) (ap (λ v. word_of v c.first_text-text.result.now) (sym c.version.ensures) ∙ sym c.search_word.ensures ∙ c.in-Some.is)) c.take_command.ensures.fault

pub returns-then-eq-clause-ok : goal.returns-then-eq-clause-ok
returns-then-eq-clause-ok c =
    subst (λ (s : Option (LineShape × List ℕ)). IfOk c.take_heading.result (λ next. TakesSaid c.args.grammar.now.version c.args.grammar.now.domains s (drop next c.args.bytes.now) c.args.script.now.sections c.take_heading.new.script.sections)) (sym (is_heading c)) c.take_heading.ensures.ok

pub returns-then-eq-clause-fault : goal.returns-then-eq-clause-fault
returns-then-eq-clause-fault c =
    subst (λ (s : Option (LineShape × List ℕ)). IfErr c.take_heading.result (λ e. IsFaultUnlessMemory e (fault_of_said c.args.grammar.now.version c.args.grammar.now.domains c.args.line (place_in c.args.script.now.sections) s)))
    (sym (is_heading c)) c.take_heading.ensures.fault

pub returns-in-None-clause-fault : goal.returns-in-None-clause-fault
returns-in-None-clause-fault c =
    let other : bytes_eq c.first_text-text.result.now (codes "domain") ≡ false = sym (c.if-eq.ensures ∙ ap (bytes_eq c.first_text-text.result.now) c.as_slice.ensures) in
    ap (fault_of_said c.args.grammar.now.version c.args.grammar.now.domains c.args.line (place_in c.args.script.now.sections))
    (other_line c.args.grammar.now.version (drop c.args.at c.args.bytes.now) c.first_text-text.result.now (first_is c.args.at c.args.bytes.now c.first_text-text.result.now c.first_text-text.ensures) other (ap (λ v. word_of v c.first_text-text.result.now) (sym c.version.ensures) ∙ sym c.search_word.ensures ∙ c.in-None.is))
