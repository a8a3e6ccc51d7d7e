use Rattle.std.proofs.Common.{◌∙◌, inl, inr, refl, ap, subst, sym, arith}
use Rattle.model_core.specs.Graph.{label_of}
use Rattle.run_session.specs.Sessions.{SessionView}
use Rattle.example_cache.specs.declared.cache.Inserted.{Inserted}
use Rattle.example_cache.specs.Caching.{CacheView, InsertAnswers, IsCache, KeepsRegisters, RoomAnswers, inserted_of, holds}
use Rattle.example_cache.proofs.Entries.{keeps_same}
use Rattle.example_cache.proofs.Calls.{cache_at, put_alone, room_says}
use Rattle.example_cache.proofs.cache.Cache.insert.Goals.{then-labels_left-lt1-via-then-labels_left-lt1, then-labels_left-lt1-via-else-labels_left-lt1+then-ephes_room-lt1}
use Rattle.example_cache.proofs.cache.Cache.insert.Goals as goal

pub invariant_of-self : goal.invariant_of-self
invariant_of-self g c =
    let says = put_alone c.self.inside.heap c.cache_put-reply.new.m c.self.inside.most c.session-2.result.now c.session-3.result.now c.self.invariant c.cache_put-reply.ensures.puts.stays.sizes c.cache_put-reply.ensures.puts.grows c.session-2.ensures c.session-3.ensures c.shows_legal.ensures.alone c.shows_legal-2.ensures.legal
    (holds (cache_at c.self.inside.heap c.self.inside.most) c.args.key) (holds (cache_at c.self.inside.heap c.self.inside.most) c.args.item) c.cache_put-reply.result (c.cache_put-reply.ensures.answer c.self.invariant.root c.self.invariant.held c.self.invariant.cache) in
    says.2

pub returns-clause-answers : goal.returns-clause-answers
returns-clause-answers g c =
    let says = put_alone c.self.inside.heap c.cache_put-reply.new.m c.self.inside.most c.session-2.result.now c.session-3.result.now c.self.invariant c.cache_put-reply.ensures.puts.stays.sizes c.cache_put-reply.ensures.puts.grows c.session-2.ensures c.session-3.ensures c.shows_legal.ensures.alone c.shows_legal-2.ensures.legal
    (holds (cache_at c.self.inside.heap c.self.inside.most) c.args.key) (holds (cache_at c.self.inside.heap c.self.inside.most) c.args.item) c.cache_put-reply.result (c.cache_put-reply.ensures.answer c.self.invariant.root c.self.invariant.held c.self.invariant.cache) in
    subst (λ (r : Inserted). InsertAnswers c.args.self.now (cache_at c.cache_put-reply.new.m c.self.inside.most) (label_of (holds c.args.self.now c.args.key)) (holds c.args.self.now c.args.item) r) (sym c.inserted_of.ensures) (subst (λ (v : CacheView). InsertAnswers v (cache_at c.cache_put-reply.new.m c.self.inside.most) (label_of (holds v c.args.key)) (holds v c.args.item) (inserted_of c.cache_put-reply.result)) c.self.view_is says.0)

pub returns-clause-registers : goal.returns-clause-registers
returns-clause-registers g c =
    let says = put_alone c.self.inside.heap c.cache_put-reply.new.m c.self.inside.most c.session-2.result.now c.session-3.result.now c.self.invariant c.cache_put-reply.ensures.puts.stays.sizes c.cache_put-reply.ensures.puts.grows c.session-2.ensures c.session-3.ensures c.shows_legal.ensures.alone c.shows_legal-2.ensures.legal
    (holds (cache_at c.self.inside.heap c.self.inside.most) c.args.key) (holds (cache_at c.self.inside.heap c.self.inside.most) c.args.item) c.cache_put-reply.result (c.cache_put-reply.ensures.answer c.self.invariant.root c.self.invariant.held c.self.invariant.cache) in
    subst (λ (v : CacheView). KeepsRegisters v (cache_at c.cache_put-reply.new.m c.self.inside.most) 7) c.self.view_is says.1

pub returns-then-labels_left-lt1-clause-answers : goal.returns-then-labels_left-lt1-clause-answers
returns-then-labels_left-lt1-clause-answers g c = keeps_same c.args.self.now c.args.self.now refl refl (subst IsCache c.self.view_is c.self.invariant) refl (label_of (holds c.args.self.now c.args.key))

pub returns-clause-room : goal.returns-clause-room
returns-clause-room g c =
    let new : CacheView = record { heap = c.cache_put-reply.new.m; most = c.self.inside.most } in
    let left = c.labels_left.ensures in
    let some = c.if-labels_left-lt1.false in
    let labels = ap (λ (s : SessionView). s.labels) c.session.ensures in
    let fits = c.if-ephes_room-lt1.false in
    let room = c.ephes_room.ensures in
    let rooms = ap (λ (s : SessionView). s.room) c.session-else-labels_left-lt1.ensures in
    subst (λ (r : Inserted). RoomAnswers c.args.self.now new r) (sym c.inserted_of.ensures)
    (subst (λ (v : CacheView). RoomAnswers v new (inserted_of c.cache_put-reply.result)) c.self.view_is
    (room_says (record { heap = c.self.inside.heap; most = c.self.inside.most }) new c.cache_put-reply.result _ _ (omega (arith, left, some, labels)) (omega (arith, fits, room, rooms)) c.cache_put-reply.ensures.puts.counts))

pub returns-then-labels_left-lt1-clause-room : goal.returns-then-labels_left-lt1-clause-room
returns-then-labels_left-lt1-clause-room g c =
    let heap = ap (λ (v : CacheView). v.heap) c.self.view_is in
    let labels = ap (λ (s : SessionView). s.labels) (c.session.ensures ∙ heap) in
    let left = c.labels_left.ensures in
    elim c.then-labels_left-lt1.branch [
      | then-labels_left-lt1-via-then-labels_left-lt1 w ↦ let none = w.if-labels_left-lt1.true in inl (omega (arith, labels, left, none))
      | then-labels_left-lt1-via-else-labels_left-lt1+then-ephes_room-lt1 w ↦
          let none = w.if-ephes_room-lt1.true in
          let room = w.ephes_room.ensures in
          let rooms = ap (λ (s : SessionView). s.room) (w.session-else-labels_left-lt1.ensures ∙ heap) in
          inr (inl (omega (arith, none, room, rooms)))
    ]
