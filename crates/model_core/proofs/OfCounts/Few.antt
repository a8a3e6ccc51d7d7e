-- A command gives out one label at most, and makes one ephemeron at most.
use Rattle.std.proofs.Common.{ℕ, ◌≤◌, Bool, true, false, cond, arith}
use Rattle.model_core.specs.declared.command.Command.{Command}
use Rattle.model_core.specs.declared.command.Command.TheVariants.{Ephe}
use Rattle.model_core.specs.declared.reply.Reply.{Reply}
use Rattle.model_core.specs.declared.reply.Reply.TheVariants.{Block}
use Rattle.model_core.specs.Commands.{is_allocation}
use Rattle.model_core.specs.Counts.Counts.{blocks_of, ephemerons_given, ephemerons_of, labels_given, labels_of}

one_where : (b : Bool) → cond b 1 0 ≤ 1
one_where true = omega arith
one_where false = omega arith

pub one_label : (c : Command) → labels_of c ≤ 1
one_label c = one_where (is_allocation c)

pub one_ephemeron : (c : Command) → ephemerons_of c ≤ 1
one_ephemeron (Ephe dst keys) = omega arith
one_ephemeron c = omega arith

one_block : (r : Reply) → blocks_of r ≤ 1
one_block (Block l) = omega arith
one_block r = omega arith

given_where : (b : Bool) (n : ℕ) → n ≤ 1 → cond b n 0 ≤ cond b 1 0
given_where true n few = few
given_where false n few = omega arith

-- and no more than that, by its reply
pub labels_few : (c : Command) (r : Reply) → labels_given c r ≤ labels_of c
labels_few c r = given_where (is_allocation c) (blocks_of r) (one_block r)

pub ephemerons_few : (c : Command) (r : Reply) → ephemerons_given c r ≤ ephemerons_of c
ephemerons_few (Ephe dst keys) r = one_block r
ephemerons_few c r = omega arith
