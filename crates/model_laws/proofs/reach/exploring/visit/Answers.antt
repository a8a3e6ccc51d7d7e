use Rattle.std.proofs.Common.{◌≡◌, ◌∙◌, ap, sym, ℕ, ◌<◌, List, refl, length}
use Rattle.model_core.specs.declared.entry.Entry.{Entry}
use Rattle.model_core.specs.declared.reply.Reply.{Reply}
use Rattle.model_core.specs.declared.reply.Reply.TheVariants.{BadIndex, BadType}
use Rattle.model_core.specs.declared.state.Sizes.{Sizes}
use Rattle.model_laws.specs.declared.reach.seen.Seen.{Seen}
use Rattle.model_laws.specs.declared.reach.seen.Origin.TheVariants.{Field}
use Rattle.model_laws.proofs.OfReach.WalkSteps.{walks_on, walks_prefix}
use Rattle.model_laws.proofs.OfReach.Adding.{extends_long, extends_trans, notes_extends, notes_once, notes_ordered}
use Rattle.model_laws.proofs.OfReach.Visiting.{notes_reply, still_on, visited_all, visited_none}
use Rattle.model_laws.proofs.reach.exploring.visit.Goals as goal

pub returns-in-BadIndex-clause-visited : goal.returns-in-BadIndex-clause-visited
returns-in-BadIndex-clause-visited g c =
    let i = c.fields.invariant in λ walked. (
      still_on _ _ _ _ _ _ _ c.args.at c.args.seen.now.items c.fields.seen.items c.fields.index c.in_ok-reply.reply i.on.sizes i.on.number (walks_prefix _ _ _ i.on.walks) (walks_prefix _ _ _ c.load.ensures.on.walks) i.reading c.in_ok-reply.ensures.loaded walked,
      visited_all _ _ _ _ _ _ _ c.args.at c.args.seen.now.items c.fields.seen.items c.fields.index c.in_ok-reply.reply i.on.sizes i.on.number (walks_prefix _ _ _ i.on.walks) (walks_prefix _ _ _ c.load.ensures.on.walks) i.reading c.in_ok-reply.ensures.loaded walked c.in-BadIndex.is,
    )

pub returns-in-BadType-clause-visited : goal.returns-in-BadType-clause-visited
returns-in-BadType-clause-visited g c =
    let i = c.fields.invariant in λ walked. (
      still_on _ _ _ _ _ _ _ c.args.at c.args.seen.now.items c.fields.seen.items c.fields.index c.in_ok-reply.reply i.on.sizes i.on.number (walks_prefix _ _ _ i.on.walks) (walks_prefix _ _ _ c.load.ensures.on.walks) i.reading c.in_ok-reply.ensures.loaded walked,
      visited_none _ _ _ _ _ _ _ c.args.at c.args.seen.now.items c.fields.seen.items c.fields.index c.in_ok-reply.reply i.on.sizes i.on.number (walks_prefix _ _ _ i.on.walks) (walks_prefix _ _ _ c.load.ensures.on.walks) i.reading c.in_ok-reply.ensures.loaded walked c.in-BadType.is,
    )

pub fields-preserved : goal.fields-preserved
fields-preserved g c =
    let z : Sizes = g.M.Walker.sizes c.args.m.now in
    let d : ℕ = g.M.Walker.number c.args.m.now in
    let first : List Entry = g.M.Walker.front c.args.m.now in
    let now : List Entry = g.M.Walker.front c.fields.m in
    let next : List Entry = g.M.Walker.front c.load.new.m in
    let old : List Seen = c.args.seen.now.items in
    let seen : List Seen = c.fields.seen.items in
    let new : List Seen = c.note.new.seen.items in
    let r : Reply = c.in_ok-reply.reply in
    let i = c.fields.invariant in
    let notes = c.in_ok-note-in_default.ensures in record {
      on = walks_on i.on c.load.ensures.on;
      ordered = notes_ordered seen new r (Field c.args.at c.fields.index) notes i.ordered (extends_long old seen i.goes_on c.args.at c.requires.inside);
      once = notes_once seen new r (Field c.args.at c.fields.index) notes i.once;
      goes_on = extends_trans old seen new i.goes_on (notes_extends seen new r (Field c.args.at c.fields.index) notes);
      reading = λ walked. notes_reply z _ d _ first now next c.args.at old seen c.fields.index r i.on.sizes i.on.number (walks_prefix d first now i.on.walks) (walks_prefix (g.M.Walker.number c.fields.m) now next c.load.ensures.on.walks) i.reading c.in_ok-reply.ensures.loaded walked i.goes_on new notes;
    }
