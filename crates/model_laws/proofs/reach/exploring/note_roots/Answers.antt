use Rattle.std.proofs.Common.{◌≡◌, ◌∙◌, ap, refl, subst, ℕ, ◌<◌, ◌≤◌, List, None, arith}
use Rattle.model_core.specs.declared.entry.Entry.{Entry}
use Rattle.model_core.specs.declared.graph.Value.{Value}
use Rattle.model_core.specs.declared.reply.Reply.{Reply}
use Rattle.model_core.specs.declared.state.Sizes.{Sizes}
use Rattle.model_core.specs.Commands.{shown}
use Rattle.model_core.specs.Domains.{register}
use Rattle.model_laws.specs.declared.reach.seen.Seen.{Seen}
use Rattle.model_laws.specs.declared.reach.seen.Origin.TheVariants.{Register}
use Rattle.model_laws.specs.Reach.Exploring.{Notes, graph_of, roots_of}
use Rattle.model_laws.specs.Reach.Ways.{Edges, refers_but}
use Rattle.model_laws.specs.Reach.Walks.{state_of}
use Rattle.model_laws.proofs.OfReach.Adding.{noted_root, notes_once, notes_ordered}
use Rattle.model_laws.proofs.reach.exploring.note_roots.Goals as goal

pub registers-preserved : goal.registers-preserved
registers-preserved g c =
    let z : Sizes = g.M.Walker.sizes c.args.m.now in
    let d : ℕ = g.M.Walker.number c.args.m.now in
    let first : List Entry = g.M.Walker.front c.args.m.now in
    let q : ℕ = c.registers.register in
    let old : List Seen = c.registers.seen.items in
    let new : List Seen = c.note.new.seen.items in
    let i = c.registers.invariant in
    let e = c.show-reply.ensures in
    let v : Value = register (state_of z first) d q in
    let reply : c.show-reply.result ≡ shown v = e.reply ∙ (ap (λ (y : Sizes). shown (register (state_of y (g.M.Walker.front c.registers.m)) (g.M.Walker.number c.registers.m) q)) i.sizes ∙ (ap (λ (k : ℕ). shown (register (state_of z (g.M.Walker.front c.registers.m)) k q)) i.number ∙ ap (λ (h : List Entry). shown (register (state_of z h) d q)) i.front)) in
    let notes : Notes old new (shown v) (Register q) = subst (λ (r : Reply). Notes old new r (Register q)) reply c.in_ok-note.ensures in
    let more = λ (f : Edges). noted_root f (roots_of z d first) old new q v refl notes (i.traced f) i.rooted in record {
      home = e.home ∙ i.home;
      sizes = e.sizes ∙ i.sizes;
      number = e.number ∙ i.number;
      front = e.front ∙ i.front;
      ordered = notes_ordered old new (shown v) (Register q) notes i.ordered c.registers-test.true;
      once = notes_once old new (shown v) (Register q) notes i.once;
      traced = λ f. (more f).0;
      rooted = (more (λ l i. None)).1;
    }

pub returns-clause-noted : goal.returns-clause-noted
returns-clause-noted g c = λ stop. record {
  traced = c.registers.invariant.traced (refers_but (graph_of (g.M.Walker.sizes c.args.m.now) (g.M.Walker.front c.args.m.now)) stop);
  rooted = λ r m few root. c.registers.invariant.rooted r m (let n : ℕ = c.registers.register in let over : 14 ≤ n = c.registers-test.false in omega arith) root;
  closed = λ j b none there i m refer. absurd (omega arith);
  plain = λ strong j b none there other. absurd (omega arith);
}
