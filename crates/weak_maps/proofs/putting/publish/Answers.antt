use Rattle.std.proofs.Common.{◌≡◌, ℕ, Bool, List, true, false, refl}
use Rattle.model_core.specs.declared.entry.Entry.{Entry}
use Rattle.model_core.specs.declared.reply.Reply.TheVariants as reply
use Rattle.model_core.specs.declared.state.Sizes.{Sizes}
use Rattle.weak_maps.specs.Puts.{PublishesBy}
use Rattle.weak_maps.proofs.PublishLemmas.{publish_lost, publish_won}
use Rattle.weak_maps.proofs.putting.publish.Goals as goal

pub returns-clause-once : goal.returns-clause-once
returns-clause-once g c = (c.exchange-won.result, c.exchange-won.ensures.exchanged)

pub returns-clause-published : goal.returns-clause-published
returns-clause-published g c =
    let z : Sizes = g.M.Machine.sizes c.args.m.now in
    let d : ℕ = g.M.Machine.domain c.args.m.now in
    let old : List Entry = g.M.Machine.front c.args.m.now in
    let new : List Entry = g.M.Machine.front c.exchange-won.new.m in
    let p = c.exchange-won.ensures.exchanged in
    λ first front root k l v rest register shows key field binds leaf map respects.
    by_reply c.is_yes.result (λ b. PublishesBy z d first front old new root k c.args.index rest shows field l v b) (c.exchange-won.result ≡ reply.Yes) c.is_yes.ensures.0 c.is_yes.ensures.1
    (publish_won z c.shows_legal.ensures.limits root d first front k l v old new c.exchange-won.result c.args.index rest shows register p respects map field binds leaf key)
    (publish_lost z c.shows_legal.ensures.limits root d first front k l v old new c.exchange-won.result c.args.index rest shows register p respects map field binds leaf key)
  where
    by_reply : (b : Bool) (P : Bool → Type 0) (Q : Type 0) → (b ≡ true → Q) → (Q → b ≡ true) → (Q → P true) → ((Q → ⊥) → P false) → P b
    by_reply true P Q there back on_won on_lost = on_won (there refl)
    by_reply false P Q there back on_won on_lost = on_lost (λ q. let clash : false ≡ true = back q in cc)
