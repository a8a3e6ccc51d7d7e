use Rattle.std.proofs.Common.{◌∙◌, ◌+◌, List, map, length, Vec, Global, Err, ap, sym, subst, arith}
use Rattle.std.proofs.lemmas.List.{length-map}
use Rattle.table_text.specs.declared.line.TableLine.{TableLine}
use Rattle.table_text.specs.declared.machine.reply.LineReply.{LineReply}
use Rattle.camlheap_run.specs.Tables.{AreSpelled, most_lines_of}
use Rattle.camlheap_run.proofs.SharingLemmas.{few_replies, sections_fit}
use Rattle.camlheap_run.proofs.table.shared.run_together.Goals as goal

pub run_sections-requires-clause-fits : goal.run_sections-requires-clause-fits
run_sections-requires-clause-fits g c κs within =
    let sections = map (λ (v : Vec TableLine Global). v.items) c.into_sections-sections.result.items in
    let text : AreSpelled c.args.sizes.now sections = subst (AreSpelled c.args.sizes.now) (sym c.into_sections-sections.ensures) c.requires.text in
    let shown = ap (λ (vs : List (Vec TableLine Global)). most_lines_of (map (λ v. v.items) vs) + 3) c.deref.ensures.value in
    sections_fit c.args.sizes.now c.config_of-config.result sections text c.config_of-config.ensures.sizes (c.config_of-config.ensures.room ∙ shown)

pub unreachable-requires : goal.unreachable-requires
unreachable-requires g c =
    let outside = (c.run_sections.ensures.outside c.in-Err-Config.field-0-0).0 (c.in-Err-Config.is ∙ ap Err c.in-Err-Config.field-0-is) in
    let none = c.config_of-config.ensures.limits in
    cc

pub write_sections-requires : goal.write_sections-requires
write_sections-requires g c =
    let sections = map (λ (v : Vec TableLine Global). v.items) c.into_sections-sections.result.items in
    let text : AreSpelled c.args.sizes.now sections = subst (AreSpelled c.args.sizes.now) (sym c.into_sections-sections.ensures) c.requires.text in
    let replies = map (λ (v : Vec LineReply Global). v.items) c.in-Ok.together.replies.items in
    let few = few_replies c.args.sizes.now c.in-Ok.together.ended.sizes sections replies c.in-Ok.together.ended.history c.requires.sizes text c.in-Ok.ensures.runs in
    let many = length-map c.in-Ok.together.replies.items (λ (v : Vec LineReply Global). v.items) in
    let shown = ap length c.deref-2.ensures.value in
    omega (arith, few, many, shown)
