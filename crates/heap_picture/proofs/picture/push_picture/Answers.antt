use Rattle.std.proofs.Common.{◌≡◌, ℕ, List, ◌++◌, ap, ◌∙◌, flat_map, string_bytes}
use Rattle.std.specs.Prelude.{codes}
use Rattle.heap_picture.specs.Fates.{fate_of}
use Rattle.heap_picture.specs.Text.{hides_shared, domain_text, block_text, head_text}
use Rattle.heap_picture.proofs.Pushes.{joined, joined_ok}
use Rattle.heap_picture.proofs.picture.push_picture.Goals as goal

pub returns : goal.returns
returns c =
    let s0 = string_bytes c.args.out.now in
    let s1 = string_bytes c.push_text.new.out in
    let s2 = string_bytes c.push_domains.new.out in
    let s3 = string_bytes c.push_blocks.new.out in
    let s4 = string_bytes c.push_text-2.new.out in
    let s = c.args.state.now in
    let fate = fate_of c.args.fates.now in
    let domains : List ℕ = flat_map (domain_text (hides_shared s.graph) fate) s.domains in
    let blocks : List ℕ = flat_map (block_text fate) s.graph in
    let drawn : s2 ≡ s1 ++ domains = c.in_ok-push_domains.ensures ∙ ap (λ h. s1 ++ flat_map (domain_text h fate) s.domains) c.hides_shared.ensures in
    let two = joined s0 s1 s2 head_text domains c.in_ok-push_text.ensures drawn in
    let three = joined s0 s2 s3 (head_text ++ domains) blocks two c.in_ok-push_blocks.ensures in
    joined_ok c.push_text-2.result s0 s3 s4 (head_text ++ domains ++ blocks) (codes "}\n") three c.push_text-2.ensures
