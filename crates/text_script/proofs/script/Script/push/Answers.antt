use Rattle.std.proofs.Common.{◌++◌, ◌∷◌, [], ◌-◌, length, map, ap, sym, ◌∙◌, arith, sum_by}
use Rattle.std.proofs.lemmas.List.{length-map}
use Rattle.text_script.specs.Script.{Scripted, with_command}
use Rattle.text_script.proofs.ScriptLemmas.{set_same, set_last, total-with_last}
use Rattle.text_script.proofs.script.Script.push.Goals as goal

pub invariant_of-self : goal.invariant_of-self
invariant_of-self c =
    let sections = c.self.inside.sections.items in
    let counted = ap (λ (t : Scripted). length t.sections) c.self.view_is in
    let same = set_same (λ v. v.items) sections (c.len-last.result - 1) c.push.new.self c.index_mut.result.now (omega (arith, length-map sections (λ v. v.items), counted)) (c.in_err-push.ensures.items ∙ ap (λ v. v.items) c.index_mut.ensures.value) in
    c.self.invariant ∙ ap (sum_by length) (sym same)

pub invariant_of-self-2 : goal.invariant_of-self-2
invariant_of-self-2 c =
    let sections = c.self.inside.sections.items in
    let counted = ap (λ (t : Scripted). length t.sections) c.self.view_is in
    let added = set_last (λ v. v.items) sections (c.len-last.result - 1) c.push.new.self c.index_mut.result.now c.args.command (omega (arith, length-map sections (λ v. v.items), counted)) (c.in_ok-push.ensures.items ∙ ap (λ v. v.items ++ c.args.command ∷ []) c.index_mut.ensures.value) in
    let more = total-with_last (map (λ v. v.items) sections) c.args.command (omega (arith, counted)) in
    omega (arith, ap (sum_by length) added, more, c.self.invariant)

pub returns : goal.returns
returns c =
    let sections = c.self.inside.sections.items in
    let counted = ap (λ (t : Scripted). length t.sections) c.self.view_is in
    let added = set_last (λ v. v.items) sections (c.len-last.result - 1) c.push.new.self c.index_mut.result.now c.args.command (omega (arith, length-map sections (λ v. v.items), counted)) (c.in_ok-push.ensures.items ∙ ap (λ v. v.items ++ c.args.command ∷ []) c.index_mut.ensures.value)
    ∙ ap (λ (t : Scripted). with_command t.sections c.args.command) c.self.view_is in
    λ i. record { version = ap (λ (t : Scripted). t.version) c.self.view_is i; sections = added i }
