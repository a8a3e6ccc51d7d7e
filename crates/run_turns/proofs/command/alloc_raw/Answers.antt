use Rattle.std.proofs.Common.{inr, subst}
use Rattle.std.proofs.lemmas.Result.{IfOk-weaker}
use Rattle.model_core.specs.declared.command.Command.{Command}
use Rattle.model_core.specs.declared.reply.Reply.TheVariants.{Block}
use Rattle.heap_rule.specs.Running.{Did}
use Rattle.do_alloc.proofs.OfYoung.Allocating.{raw_command}
use Rattle.run_turns.proofs.command.alloc_raw.Goals as goal

pub alloc_young-requires : goal.alloc_young-requires
alloc_young-requires c = let r = c.requires in record { runs = r.runs; dst = r.dst; tag = inr r.tag; fields = r.fields; serial = r.serial }

pub returns-clause-did : goal.returns-clause-did
returns-clause-did c = IfOk-weaker c.alloc_young.result _ _ (λ l m. subst (λ (made : Command). Did c.args.heap.now c.args.dom.now c.alloc_young.new.dom made (Block l)) (raw_command c.args.dst c.args.tag c.args.fields c.requires.tag.0) m.did) c.alloc_young.ensures.made

pub returns-clause-grows : goal.returns-clause-grows
returns-clause-grows c = IfOk-weaker c.alloc_young.result _ _ (λ l m. m.grows) c.alloc_young.ensures.made

pub returns-clause-room : goal.returns-clause-room
returns-clause-room c = IfOk-weaker c.alloc_young.result _ _ (λ l m. m.room) c.alloc_young.ensures.made

pub returns-clause-open : goal.returns-clause-open
returns-clause-open c = IfOk-weaker c.alloc_young.result _ _ (λ l m. m.opened) c.alloc_young.ensures.made
