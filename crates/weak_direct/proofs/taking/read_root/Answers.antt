use Rattle.std.proofs.Common.{List, refl}
use Rattle.std.proofs.lemmas.Option.{IfSome_then}
use Rattle.model_core.specs.declared.entry.Entry.{Entry}
use Rattle.weak_direct.proofs.FrameLemmas.{looks_on, looks_of, performed_on}
use Rattle.weak_direct.proofs.taking.read_root.Goals as goal

pub returns-in_err-_root-clause-looks : goal.returns-in_err-_root-clause-looks
returns-in_err-_root-clause-looks g c = looks_of c.step.ensures.goes (c.step.ensures.quiet (λ s. refl))

pub returns-clause-looks : goal.returns-clause-looks
returns-clause-looks g c = looks_on (looks_of c.step.ensures.goes (c.step.ensures.quiet (λ s. refl))) c.read_field.ensures.looks

pub returns-clause-read : goal.returns-clause-read
returns-clause-read g c = IfSome_then c.read_field.result c.read_field.ensures.read (λ r p. record { brought = g.M.Direct.front c.step.new.m; reply = c.in_ok-_root._root; root = c.in_ok-_root.ensures.performed; field = performed_on c.step.ensures.goes.keeps.stays p })
