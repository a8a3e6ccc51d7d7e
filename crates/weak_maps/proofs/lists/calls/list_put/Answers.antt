use Rattle.std.proofs.Common.{◌≡◌, ◌∙◌, ℕ, List, true, false, sym, ◌+◌}
use Rattle.model_core.specs.declared.entry.Entry.{Entry}
use Rattle.model_core.specs.declared.state.Sizes.{Sizes}
use Rattle.weak_maps.proofs.OfLists.MachineLemmas.{first_domain, forgets_at, legal_at, put_told, typed_put, put_counted}
use Rattle.weak_maps.proofs.FrameLemmas.{puts_then}
use Rattle.weak_maps.proofs.OfLists.FrameLemmas.{puts_alone}
use Rattle.weak_maps.proofs.MachineLemmas.{same_count}
use Rattle.weak_laws.specs.Tables.Performing.{full_of}
use Rattle.weak_maps.specs.Beside.{refusals_by}
use Rattle.weak_maps.proofs.lists.calls.list_put.Goals as goal

pub returns-then-is_other_kind-clause-puts : goal.returns-then-is_other_kind-clause-puts
returns-then-is_other_kind-clause-puts g c =
    let z : Sizes = g.M.Machine.sizes c.args.m.now in
    let d : ℕ = g.M.Machine.domain c.args.m.now in
    let old : List Entry = g.M.Machine.front c.args.m.now in
    let mid : List Entry = g.M.Machine.front c.map_put-reply.new.m in
    let put = c.map_put-reply.ensures.puts in
    let list = c.requires.list in
    let counted : refusals_by d mid ≡ refusals_by d old + full_of c.map_put-reply.result =
    put_counted z c.shows_legal.ensures.limits c.requires.alone d (first_domain z d c.requires.alone c.shows_legal.ensures.inside) old mid put.grows (legal_at z _ mid put.stays.sizes c.shows_legal-2.ensures.legal) list.root c.args.map c.args.key c.args.item _ _ c.map_put-reply.result list.held list.listed c.map_put-reply.ensures.answer
    (λ k there e respects leaves is. c.map_put-reply.ensures.full.alone list.root k there e list.listed.map list.listed.placed respects leaves is) put.counts in
    puts_alone c.requires.alone c.shows_legal.ensures.inside c.shows_legal.ensures.legal c.shows_legal-2.ensures.legal counted put

pub returns-clause-puts : goal.returns-clause-puts
returns-clause-puts g c =
    let z : Sizes = g.M.Machine.sizes c.args.m.now in
    let d : ℕ = g.M.Machine.domain c.args.m.now in
    let old : List Entry = g.M.Machine.front c.args.m.now in
    let mid : List Entry = g.M.Machine.front c.map_put-reply.new.m in
    let put = c.map_put-reply.ensures.puts in
    let list = c.requires.list in
    let counted : refusals_by d mid ≡ refusals_by d old + full_of c.map_put-reply.result =
    put_counted z c.shows_legal.ensures.limits c.requires.alone d (first_domain z d c.requires.alone c.shows_legal.ensures.inside) old mid put.grows (legal_at z _ mid put.stays.sizes c.shows_legal-2.ensures.legal) list.root c.args.map c.args.key c.args.item _ _ c.map_put-reply.result list.held list.listed c.map_put-reply.ensures.answer
    (λ k there e respects leaves is. c.map_put-reply.ensures.full.alone list.root k there e list.listed.map list.listed.placed respects leaves is) put.counts in
    puts_alone c.requires.alone c.shows_legal.ensures.inside c.shows_legal.ensures.legal c.shows_legal-3.ensures.legal (same_count refusals_by d _ mid (g.M.Machine.front c.settle.new.m) put.stays.domain c.settle.ensures.leaves.given ∙ counted) (puts_then put c.settle.ensures.leaves)

pub returns-then-is_other_kind-clause-answer : goal.returns-then-is_other_kind-clause-answer
returns-then-is_other_kind-clause-answer g c =
    typed_put (g.M.Machine.sizes c.args.m.now) c.shows_legal.ensures.limits c.requires.alone _ (first_domain (g.M.Machine.sizes c.args.m.now) _ c.requires.alone c.shows_legal.ensures.inside) _ _ c.map_put-reply.ensures.puts.grows (legal_at _ _ _ c.map_put-reply.ensures.puts.stays.sizes c.shows_legal-2.ensures.legal) c.args.map c.args.key c.args.item c.map_put-reply.result (c.is_other_kind.ensures.0 c.if-is_other_kind.true) c.map_put-reply.ensures.answer

pub returns-clause-answer : goal.returns-clause-answer
returns-clause-answer g c =
    put_told (g.M.Machine.sizes c.args.m.now) c.shows_legal.ensures.limits c.requires.alone _ (first_domain (g.M.Machine.sizes c.args.m.now) _ c.requires.alone c.shows_legal.ensures.inside) _ _ c.map_put-reply.ensures.puts.grows (legal_at _ _ _ c.map_put-reply.ensures.puts.stays.sizes c.shows_legal-2.ensures.legal) _ (forgets_at _ _ _ _ _ _ c.map_put-reply.ensures.puts.stays.sizes c.map_put-reply.ensures.puts.stays.domain c.settle.ensures.forgets) c.args.map c.args.key c.args.item c.map_put-reply.result (λ e. let clash : true ≡ false = sym (c.is_other_kind.ensures.1 e) ∙ c.if-is_other_kind.false in cc) c.map_put-reply.ensures.answer
