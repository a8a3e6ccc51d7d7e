use Rattle.std.proofs.Common.{◌≡◌, ℕ, List, ◌++◌, ap, ◌∙◌, string_bytes}
use Rattle.std.specs.Prelude.{codes}
use Rattle.heap_picture.specs.Fates.{fate_of, may_run}
use Rattle.heap_picture.specs.Text.{red, final_note, final_arrow}
use Rattle.heap_picture.proofs.Pushes.{joined, joined_ok}
use Rattle.heap_picture.proofs.registers.push_final.Goals as goal

pub returns : goal.returns
returns c =
    let f = c.args.f in
    let s0 = string_bytes c.args.out.now in
    let s1 = string_bytes c.push_final_note.new.out in
    let s2 = string_bytes c.push_final_arrow.new.out in
    let s3 = string_bytes c.push_text.new.out in
    let s4 = string_bytes c.push_red.new.out in
    let s5 = string_bytes c.push_text-2.new.out in
    let note : List ℕ = final_note c.args.place f in
    let arrow : List ℕ = final_arrow c.args.place f.label in
    let dotted : List ℕ = codes " [style=dotted" in
    let mark : List ℕ = red (may_run (fate_of c.args.fates.now f.label)) in
    let fate : c.may_run.result ≡ may_run (fate_of c.args.fates.now f.label) = c.may_run.ensures ∙ ap may_run c.fate.ensures in
    let marked : s4 ≡ s3 ++ mark = c.in_ok-push_red.ensures ∙ ap (λ t. s3 ++ red t) fate in
    let two = joined s0 s1 s2 note arrow c.in_ok-push_final_note.ensures c.in_ok-push_final_arrow.ensures in
    let three = joined s0 s2 s3 (note ++ arrow) dotted two c.in_ok-push_text.ensures in
    let four = joined s0 s3 s4 (note ++ arrow ++ dotted) mark three marked in
    joined_ok c.push_text-2.result s0 s4 s5 (note ++ arrow ++ dotted ++ mark) (codes "];\n") four c.push_text-2.ensures
