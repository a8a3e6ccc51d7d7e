use Rattle.std.proofs.Common.{◌≡◌, ◌∙◌, ◌+◌, ◌≤◌, ℕ, List, [], ◌∷◌, ◌++◌, length, take, sym, subst, ap, arith, rules, length-append}
use Rattle.model_core.specs.declared.entry.Entry.{Entry}
use Rattle.model_core.specs.declared.state.Sizes.{Sizes}
use Rattle.model_core.specs.Domains.{domain_at}
use Rattle.weak_laws.specs.Tables.Thinning.{state_of}
use Rattle.table_text.specs.declared.version.Version.{Version}
use Rattle.table_text.specs.declared.line.TableLine.{TableLine}
use Rattle.table_text.specs.declared.machine.reply.LineReply.{LineReply}
use Rattle.table_text.specs.Machine.Machine.{all_made, made_by}
use Rattle.table_run.specs.Standing.{IsStanding}
use Rattle.table_run.specs.Running.{Begins, LineAnswers, HasGiven, RanTo, all_rooms}
use Rattle.table_run.proofs.TextLemmas.{opening_serial, ran_none, ran_line, ran_all, take_none, take_all, made_before, rooms_before, made_more, rooms_more}
use Rattle.table_run.proofs.text.run_text.Goals as goal

pub lines-init : goal.lines-init
lines-init g c =
    let z : Sizes = g.M.Machine.sizes c.args.m.now.machine in
    let now : List Entry = g.M.Machine.front c.prepare.new.m.machine in
    let left : ℕ = g.M.Machine.labels_left c.prepare.new.m.machine in
    let none : take 0 c.args.text.now.lines ≡ [] = take_none c.args.text.now.lines in
    let start : (domain_at (state_of z []) 0).serial + g.M.Machine.labels_left c.args.m.now.machine ≡ 4294967295 = subst (λ (h : List Entry). (domain_at (state_of z h) 0).serial + g.M.Machine.labels_left c.args.m.now.machine ≡ 4294967295) c.requires.empty c.shows_legal.ensures.labels in
    let zero = opening_serial z c.shows_legal.ensures.alone in
    let few = c.prepare.ensures.spends.labels in
    let given : HasGiven c.args.text.now.version left [] = omega (arith, start, zero, few) in
    let made : all_made c.args.text.now.version (take 0 c.args.text.now.lines) ≡ 0 = ap (all_made c.args.text.now.version) none in
    let rooms : all_rooms (take 0 c.args.text.now.lines) ≡ 0 = ap all_rooms none in
    let needed = c.requires.labels in
    let room = c.prepare.ensures.spends.room in
    let wanted = c.requires.ephemerons in
    record {
      same = c.prepare.ensures.spends.sizes;
      answered = ap length c.requires.none;
      capacity = search rules;
      ran = subst (λ (ls : List TableLine). RanTo c.args.text.now.version z ls c.args.room.items now) (sym none) (subst (λ (rs : List LineReply). RanTo c.args.text.now.version z [] rs now) (sym c.requires.none) (ran_none c.args.text.now.version z now (subst (λ (v : Version). Begins v z now) c.version-version.ensures c.prepare.ensures.begins)));
      given = subst (λ (ls : List TableLine). HasGiven c.args.text.now.version left ls) (sym none) given;
      labels = omega (arith, made, needed, few);
      room = omega (arith, rooms, wanted, room);
    }

pub run_line-requires-clause-labels : goal.run_line-requires-clause-labels
run_line-requires-clause-labels g c =
    let most = made_before c.args.text.now.version c.args.text.now.lines c.lines.i c.line.result c.line.ensures.line in
    let labels = c.lines.invariant.labels in
    subst (λ (v : Version). made_by v c.line.result ≤ g.M.Machine.labels_left c.lines.m.machine) (sym c.version-version.ensures) (omega (arith, most, labels))

pub run_line-requires-clause-room : goal.run_line-requires-clause-room
run_line-requires-clause-room g c =
    let most = rooms_before c.args.text.now.lines c.lines.i c.line.result c.line.ensures.line in
    let room = c.lines.invariant.room in
    omega (arith, most, room)

pub run_line-requires-clause-stands : goal.run_line-requires-clause-stands
run_line-requires-clause-stands g c =
    let x = c.lines.invariant.ran in
    subst (λ (v : Version). IsStanding v (g.M.Machine.sizes c.lines.m.machine) (g.M.Machine.front c.lines.m.machine)) (sym c.version-version.ensures)
    (subst (λ (y : Sizes). IsStanding c.args.text.now.version y (g.M.Machine.front c.lines.m.machine)) (sym c.lines.invariant.same) (record { places = x.runs.places; state = x.left; stands = x.stands }))

pub lines-preserved : goal.lines-preserved
lines-preserved g c =
    let z : Sizes = g.M.Machine.sizes c.args.m.now.machine in
    let all : List TableLine = c.args.text.now.lines in
    let now : List Entry = g.M.Machine.front c.lines.m.machine in
    let new : List Entry = g.M.Machine.front c.run_line.new.m.machine in
    let l : TableLine = c.line.result in
    let a : LineReply = c.run_line.result in
    let left : ℕ = g.M.Machine.labels_left c.lines.m.machine in
    let answers : LineAnswers c.args.text.now.version z left l now a new = subst (λ (y : Sizes). LineAnswers c.args.text.now.version y left l now a new) c.lines.invariant.same (subst (λ (v : Version). LineAnswers v (g.M.Machine.sizes c.lines.m.machine) left l now a new) c.version-version.ensures c.run_line.ensures.runs) in
    let ran : RanTo c.args.text.now.version z (take (c.lines.i + 1) all) (c.lines.replies.items ++ a ∷ []) new = ran_line c.args.text.now.version z all c.lines.i l c.lines.replies.items now new a left c.line.ensures.line c.lines.invariant.ran c.lines.invariant.given answers in
    let made = made_more c.args.text.now.version all c.lines.i l c.line.ensures.line in
    let rooms = rooms_more all c.lines.i l c.line.ensures.line in
    let given = c.lines.invariant.given in
    let labels = c.lines.invariant.labels in
    let room = c.lines.invariant.room in
    let l1 : left ≤ g.M.Machine.labels_left c.run_line.new.m.machine + made_by c.args.text.now.version l = subst (λ (v : Version). left ≤ g.M.Machine.labels_left c.run_line.new.m.machine + made_by v l) c.version-version.ensures c.run_line.ensures.spends.labels in
    let r1 = c.run_line.ensures.spends.room in
    let n0 = c.lines.invariant.answered in
    let n1 : length c.push_reserved.new.self.items ≡ length c.lines.replies.items + 1 = ap length c.push_reserved.ensures.items ∙ length-append c.lines.replies.items (a ∷ []) in
    record {
      same = c.run_line.ensures.spends.sizes ∙ c.lines.invariant.same;
      answered = omega (arith, n0, n1);
      capacity = c.push_reserved.ensures.capacity ∙ c.lines.invariant.capacity;
      ran = subst (λ (rs : List LineReply). RanTo c.args.text.now.version z (take (c.lines.i + 1) all) rs new) (sym c.push_reserved.ensures.items) ran;
      given = omega (arith, made, given, l1);
      labels = omega (arith, made, labels, l1);
      room = omega (arith, rooms, room, r1);
    }

pub returns-clause-runs : goal.returns-clause-runs
returns-clause-runs g c =
    let z : Sizes = g.M.Machine.sizes c.args.m.now.machine in
    let end : length c.args.text.now.lines ≤ c.lines.i = omega arith in
    ran_all c.args.text.now.version z (take c.lines.i c.args.text.now.lines) c.args.text.now.lines c.lines.replies.items (g.M.Machine.front c.lines.m.machine) (take_all c.args.text.now.lines c.lines.i end) c.lines.invariant.ran
