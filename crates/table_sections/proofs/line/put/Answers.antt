use Rattle.std.proofs.Common.{◌≡◌, ◌+◌, ◌∙◌, ℕ, ℤ, List, refl, sym, subst, arith}
use Rattle.model_core.specs.declared.command.Command.TheVariants.{PutInt}
use Rattle.model_core.specs.declared.entry.Entry.{Entry}
use Rattle.model_core.specs.declared.state.Sizes.{Sizes}
use Rattle.table_text.specs.declared.line.TableLine.TheVariants as line_of
use Rattle.table_text.specs.declared.machine.reply.LineReply.{LineReply}
use Rattle.weak_laws.specs.Maps.Calls.{PerformedBy}
use Rattle.weak_maps.specs.Beside.{refusals_by, writings_by}
use Rattle.weak_maps.specs.Crowds.{CrowdedAt, PutCounts, PutSpends, RefusedAlone, made_by}
use Rattle.weak_maps.specs.Guards.{PutGuards}
use Rattle.weak_maps.specs.Returns.{PutsAt}
use Rattle.table_sections.specs.Sections.{LineDone}
use Rattle.table_sections.proofs.LineLemmas.{key_of, value_held}
use Rattle.table_sections.proofs.CallLemmas.{none_made}
use Rattle.table_sections.proofs.PutLemmas.{put_counts, put_done, put_labels}
use Rattle.table_sections.proofs.line.put.Goals as goal

pub map_put-reply-requires-clause-labels : goal.map_put-reply-requires-clause-labels
map_put-reply-requires-clause-labels g c = let l = c.perform-value.ensures.spends.labels in let given = c.perform-value.ensures.spends.given in let all = c.requires.room.0 in omega (arith, l, given, all)

pub map_put-reply-requires-clause-room : goal.map_put-reply-requires-clause-room
map_put-reply-requires-clause-room g c = let r = c.perform-value.ensures.spends.room in let all = c.requires.room.1 in omega (arith, r, all)

pub returns-clause-takes : goal.returns-clause-takes
returns-clause-takes g c =
    let l = c.perform-value.ensures.spends.labels in
    let given = c.perform-value.ensures.spends.given in
    let few = put_labels _ _ _ _ _ c.map_put-reply.ensures.puts.counts in
    let r = c.perform-value.ensures.spends.room in
    let s = c.map_put-reply.ensures.puts.room in
    (omega (arith, l, given, few), omega (arith, r, s))

pub returns-clause-done : goal.returns-clause-done
returns-clause-done g c =
    let z : Sizes = g.M.Machine.sizes c.args.m.now in
    let d : ℕ = g.M.Machine.domain c.args.m.now in
    let old : List Entry = g.M.Machine.front c.args.m.now in
    let mid : List Entry = g.M.Machine.front c.perform-value.new.m in
    let new : List Entry = g.M.Machine.front c.map_put-reply.new.m in
    let r : ℕ = c.args.reg in
    let first = c.perform-value.ensures.spends in
    let x = c.map_put-reply.ensures in
    let s : g.M.Machine.sizes c.perform-value.new.m ≡ z = first.stays.sizes in
    let o : g.M.Machine.domain c.perform-value.new.m ≡ d = first.stays.domain in
    let performed : PerformedBy z d old mid (PutInt 0 c.args.value) c.perform-value.result = subst (λ (w : ℤ). PerformedBy z d old mid (PutInt 0 w) c.perform-value.result) (value_held r c.args.value c.requires.fits) c.perform-value.ensures.performed in
    let guards : PutGuards z d mid new 6 = subst (λ (w : Sizes × ℕ). PutGuards w.0 w.1 mid new 6) (λ i. (s i, o i)) x.guards in
    let puts : PutsAt z d mid new 6 r 0 c.map_put-reply.result = subst (λ (w : Sizes × ℕ). PutsAt w.0 w.1 mid new 6 r 0 c.map_put-reply.result) (λ i. (s i, o i)) x.answer in
    let crowded : CrowdedAt z d mid new 6 r c.map_put-reply.result = subst (λ (w : Sizes × ℕ). CrowdedAt w.0 w.1 mid new 6 r c.map_put-reply.result) (λ i. (s i, o i)) x.full.crowded in
    let alone : RefusedAlone z d mid new 6 r c.map_put-reply.result = subst (λ (w : Sizes × ℕ). RefusedAlone w.0 w.1 mid new 6 r c.map_put-reply.result) (λ i. (s i, o i)) x.full.alone in
    let spent : PutSpends d (g.M.Machine.labels_left c.perform-value.new.m) (g.M.Machine.labels_left c.map_put-reply.new.m) mid new c.map_put-reply.result = subst (λ (e : ℕ). PutSpends e (g.M.Machine.labels_left c.perform-value.new.m) (g.M.Machine.labels_left c.map_put-reply.new.m) mid new c.map_put-reply.result) o x.puts.counts in
    let given = first.given in
    let none = first.refused in
    let left = first.labels in
    let wrote = first.written in
    let writes = subst (λ (e : ℕ). writings_by e new ≡ writings_by e mid) o x.puts.written in
    let refused : refusals_by d mid ≡ refusals_by d old = omega (arith, given, none) in
    let middle : made_by z d mid + g.M.Machine.labels_left c.perform-value.new.m ≡ 4294967295 = subst (λ (w : Sizes × ℕ). made_by w.0 w.1 mid + g.M.Machine.labels_left c.perform-value.new.m ≡ 4294967295) (λ i. (s i, o i)) c.shows_legal-2.ensures.labels in
    let last : made_by z d new + g.M.Machine.labels_left c.map_put-reply.new.m ≡ 4294967295 = subst (λ (w : Sizes × ℕ). made_by w.0 w.1 new + g.M.Machine.labels_left c.map_put-reply.new.m ≡ 4294967295) (λ i. ((x.puts.stays.sizes ∙ s) i, (x.puts.stays.domain ∙ o) i)) c.shows_legal-3.ensures.labels in
    let made : made_by z d mid ≡ made_by z d old = none_made _ _ _ _ c.shows_legal.ensures.labels middle (omega (arith, left, given)) in
    let counts : PutCounts (made_by z d new) (made_by z d old) (refusals_by d old) (refusals_by d new) c.map_put-reply.result =
    subst (λ (w : ℕ × ℕ). PutCounts (made_by z d new) w.0 w.1 (refusals_by d new) c.map_put-reply.result) (λ i. (made i, refused i)) (put_counts _ _ _ _ _ _ c.map_put-reply.result middle last spent) in
    subst (λ (a : LineReply). LineDone z d old (line_of.Put r c.args.value) a new) (sym c.said.ensures)
    (put_done z c.shows_legal.ensures.limits d old mid new r c.args.value c.perform-value.result c.map_put-reply.result (key_of r c.args.value c.requires.fits) performed x.puts.grows made refused guards puts crowded alone
    (record { reply = c.map_put-reply.result; counts = counts; written = refl; spared = omega (arith, wrote, writes) }))
