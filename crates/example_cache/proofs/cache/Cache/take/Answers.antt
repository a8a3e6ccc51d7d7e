use Rattle.std.proofs.Common.{subst, sym, Option}
use Rattle.model_core.specs.Graph.{label_of}
use Rattle.model_core.specs.declared.reply.Reply.{Reply}
use Rattle.example_cache.specs.Caching.{CacheView, TakeAnswers, KeepsRegisters, entry_of, holds}
use Rattle.example_cache.proofs.Calls.{cache_at, take_alone}
use Rattle.example_cache.proofs.cache.Cache.take.Goals as goal

pub invariant_of-self : goal.invariant_of-self
invariant_of-self g c =
    let says = take_alone c.self.inside.heap c.cache_take-reply.new.m c.self.inside.most c.session.result.now c.session-2.result.now c.self.invariant c.cache_take-reply.ensures.reads.stays.sizes c.cache_take-reply.ensures.reads.grows c.session.ensures c.session-2.ensures c.shows_legal.ensures.alone c.shows_legal-2.ensures.legal
    c.args.dst c.requires.few.0 (holds (cache_at c.self.inside.heap c.self.inside.most) c.args.key) c.cache_take-reply.result (c.cache_take-reply.ensures.answer c.self.invariant.root c.self.invariant.held c.self.invariant.cache) in
    says.2

pub returns-clause-answers : goal.returns-clause-answers
returns-clause-answers g c =
    let says = take_alone c.self.inside.heap c.cache_take-reply.new.m c.self.inside.most c.session.result.now c.session-2.result.now c.self.invariant c.cache_take-reply.ensures.reads.stays.sizes c.cache_take-reply.ensures.reads.grows c.session.ensures c.session-2.ensures c.shows_legal.ensures.alone c.shows_legal-2.ensures.legal
    c.args.dst c.requires.few.0 (holds (cache_at c.self.inside.heap c.self.inside.most) c.args.key) c.cache_take-reply.result (c.cache_take-reply.ensures.answer c.self.invariant.root c.self.invariant.held c.self.invariant.cache) in
    subst (λ (r : Option Reply). TakeAnswers c.args.self.now (cache_at c.cache_take-reply.new.m c.self.inside.most) c.args.dst (label_of (holds c.args.self.now c.args.key)) r) (sym c.entry_of.ensures) (subst (λ (v : CacheView). TakeAnswers v (cache_at c.cache_take-reply.new.m c.self.inside.most) c.args.dst (label_of (holds v c.args.key)) (entry_of c.cache_take-reply.result)) c.self.view_is says.0)

pub returns-clause-registers : goal.returns-clause-registers
returns-clause-registers g c =
    let says = take_alone c.self.inside.heap c.cache_take-reply.new.m c.self.inside.most c.session.result.now c.session-2.result.now c.self.invariant c.cache_take-reply.ensures.reads.stays.sizes c.cache_take-reply.ensures.reads.grows c.session.ensures c.session-2.ensures c.shows_legal.ensures.alone c.shows_legal-2.ensures.legal
    c.args.dst c.requires.few.0 (holds (cache_at c.self.inside.heap c.self.inside.most) c.args.key) c.cache_take-reply.result (c.cache_take-reply.ensures.answer c.self.invariant.root c.self.invariant.held c.self.invariant.cache) in
    subst (λ (v : CacheView). KeepsRegisters v (cache_at c.cache_take-reply.new.m c.self.inside.most) c.args.dst) c.self.view_is says.1
