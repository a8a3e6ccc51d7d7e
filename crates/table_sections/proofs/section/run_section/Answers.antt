use Rattle.std.proofs.Common.{◌≡◌, ◌∙◌, ◌++◌, ℕ, List, [], ◌∷◌, length, refl, sym, ap, subst, arith, rules, append-nil, append_assoc, length-append}
use Rattle.std.specs.List.{AllByRecursion}
use Rattle.std.specs.Vec.Iter.{into_iter_items}
use Rattle.model_core.specs.declared.entry.Entry.{Entry}
use Rattle.model_core.specs.declared.label.Label.{Label}
use Rattle.model_core.specs.declared.state.Sizes.{Sizes}
use Rattle.table_text.specs.declared.line.TableLine.{TableLine}
use Rattle.table_text.specs.declared.machine.reply.LineReply.{LineReply}
use Rattle.weak_laws.specs.Maps.Steps.{OthersRespect}
use Rattle.weak_laws.proofs.OfMaps.FrontLemmas.{prefix_same, prefix_trans}
use Rattle.weak_maps.proofs.FrameLemmas.{stays_same, stays_trans}
use Rattle.weak_maps.proofs.GuardLemmas.{guards_later, guards_same, guards_then, guards_twice}
use Rattle.weak_maps.proofs.StayLemmas.{respects_within}
use Rattle.table_sections.specs.Lines.{IsSharedLine}
use Rattle.table_sections.specs.Sections.{LineDone, SectionRuns}
use Rattle.table_sections.proofs.Jobs.{nothing_left}
use Rattle.table_sections.proofs.section.run_section.Goals as goal

pub lines-init : goal.lines-init
lines-init g c =
    let z : Sizes = g.M.Machine.sizes c.args.m.now in
    let d : ℕ = g.M.Machine.domain c.args.m.now in
    let old : List Entry = g.M.Machine.front c.args.m.now in
    let gives = c.into_iter-line-iterator.ensures.into_iter_gives in
    let all : List TableLine = into_iter_items c.into_iter-line-iterator.result in
    let many = ap (λ (ls : List TableLine). length ls) gives.0 in
    let labels = c.requires.spare.0 in
    let room = c.requires.spare.1 in record {
      stays = stays_same;
      grows = prefix_same old;
      fits = subst (AllByRecursion IsSharedLine) (sym gives.0) c.requires.fits;
      len = search rules;
      capacity = let wide = c.requires.room.1 in let none = ap (λ (rs : List LineReply). length rs) c.requires.room.0 in omega (arith, wide, none, many);
      spare = (omega (arith, labels, many), omega (arith, room, many));
      given = omega arith;
      taken = omega arith;
      guards = λ root on. guards_same z root d old old old refl;
      stands = λ root on others. on;
      runs = λ rest last runs. subst (λ (rs : List LineReply). SectionRuns z d old all (rs ++ rest) last) (sym c.requires.room.0) runs;
    }

pub run_line-reply-requires-clause-fits : goal.run_line-reply-requires-clause-fits
run_line-reply-requires-clause-fits g c = (subst (AllByRecursion IsSharedLine) c.in-Some.ensures.steps.0 c.lines.invariant.fits).0

pub run_line-reply-requires-clause-room : goal.run_line-reply-requires-clause-room
run_line-reply-requires-clause-room g c =
    let many = ap (λ (ls : List TableLine). length ls) c.in-Some.ensures.steps.0 in
    let labels = c.lines.invariant.spare.0 in
    let room = c.lines.invariant.spare.1 in
    (omega (arith, many, labels), omega (arith, many, room))

pub lines-preserved : goal.lines-preserved
lines-preserved g c =
    let z : Sizes = g.M.Machine.sizes c.args.m.now in
    let d : ℕ = g.M.Machine.domain c.args.m.now in
    let old : List Entry = g.M.Machine.front c.args.m.now in
    let now : List Entry = g.M.Machine.front c.lines.m in
    let new : List Entry = g.M.Machine.front c.run_line-reply.new.m in
    let l : TableLine = c.in-Some.line in
    let a : LineReply = c.run_line-reply.result in
    let all : List TableLine = into_iter_items c.into_iter-line-iterator.result in
    let steps = c.in-Some.ensures.steps in
    let s0 : g.M.Machine.sizes c.lines.m ≡ z = c.lines.invariant.stays.sizes in
    let o0 : g.M.Machine.domain c.lines.m ≡ d = c.lines.invariant.stays.domain in
    let done : LineDone z d now l a new = subst (λ (w : Sizes × ℕ). LineDone w.0 w.1 now l a new) (λ i. (s0 i, o0 i)) c.run_line-reply.ensures.done in
    let later = done.runs.grows in
    let since = c.lines.invariant.grows in
    let before : (root : Label) → OthersRespect z root d old new → OthersRespect z root d old now = λ root others. respects_within z root d old new old now (prefix_same old) later others in
    let old_replies : List LineReply = c.lines.replies.items in
    let pushed : c.push_reserved.new.self.items ≡ old_replies ++ a ∷ [] = c.push_reserved.ensures.items in
    let many = ap (λ (ls : List TableLine). length ls) steps.0 in
    let m0 = c.lines.invariant.len in
    let m1 = steps.1 in
    let c0 = c.lines.invariant.capacity in
    let c1 = c.push_reserved.ensures.capacity in
    let n1 = ap (λ (rs : List LineReply). length rs) pushed ∙ length-append old_replies (a ∷ []) in
    let l0 = c.lines.invariant.spare.0 in
    let r0 = c.lines.invariant.spare.1 in
    let l1 = c.run_line-reply.ensures.takes.0 in
    let r1 = c.run_line-reply.ensures.takes.1 in
    let given = c.lines.invariant.given in
    let taken = c.lines.invariant.taken in record {
      stays = stays_trans c.lines.invariant.stays c.run_line-reply.ensures.stays;
      grows = prefix_trans old now new since later;
      fits = (subst (AllByRecursion IsSharedLine) steps.0 c.lines.invariant.fits).1;
      len = omega (arith, m0, m1, many);
      capacity = omega (arith, c0, c1, n1, many);
      spare = (omega (arith, l0, l1, many), omega (arith, r0, r1, many));
      given = omega (arith, given, l1, many);
      taken = omega (arith, taken, r1, many);
      guards = λ root on.
          guards_twice z root d old old now new later (c.lines.invariant.guards root on)
          (guards_then z root d old now new (λ others. guards_later z root d old now now new since (done.guards root (c.lines.invariant.stands root on others))));
      stands = λ root on others. (done.runs.beside root (c.lines.invariant.stands root on (before root others)) (respects_within z root d old new now new since (prefix_same new) others)).after;
      runs = λ rest last runs.
          subst (λ (rs : List LineReply). SectionRuns z d old all rs last) (sym (ap (λ (rs : List LineReply). rs ++ rest) pushed ∙ append_assoc old_replies (a ∷ []) rest))
          (c.lines.invariant.runs (a ∷ rest) last (subst (λ (ls : List TableLine). SectionRuns z d now ls (a ∷ rest) last) (sym steps.0) (new, done.runs, runs)));
    }

pub returns-clause-done : goal.returns-clause-done
returns-clause-done g c =
    let z : Sizes = g.M.Machine.sizes c.args.m.now in
    let d : ℕ = g.M.Machine.domain c.args.m.now in
    let old : List Entry = g.M.Machine.front c.args.m.now in
    let now : List Entry = g.M.Machine.front c.lines.m in
    let none : into_iter_items c.lines.line-iterator ≡ [] = nothing_left (into_iter_items c.lines.line-iterator) (let before = c.lines.invariant.len in let over = c.in-None.ensures.steps.0 in omega (arith, before, over)) in record {
      grows = c.lines.invariant.grows;
      guards = c.lines.invariant.guards;
      runs =
          subst (λ (w : List TableLine × List LineReply). SectionRuns z d old w.0 w.1 now) (λ i. (c.into_iter-line-iterator.ensures.into_iter_gives.0 i, append-nil c.lines.replies.items i))
          (c.lines.invariant.runs [] now (subst (λ (ls : List TableLine). SectionRuns z d now ls [] now) (sym none) refl));
    }

pub returns-clause-takes : goal.returns-clause-takes
returns-clause-takes g c =
    let given = c.lines.invariant.given in
    let taken = c.lines.invariant.taken in
    let all = ap (λ (ls : List TableLine). length ls) c.into_iter-line-iterator.ensures.into_iter_gives.0 in
    (omega (arith, given, all), omega (arith, taken, all))
