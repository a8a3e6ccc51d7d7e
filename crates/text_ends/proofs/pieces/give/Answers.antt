use Rattle.std.proofs.Common.{◌≡◌, take, drop, arith, length}
use Rattle.std.proofs.lemmas.Grind.{common_steps}
use Rattle.text_ends.proofs.FrontAndRest.{front_and_rest}
use Rattle.text_ends.proofs.pieces.give.Goals as goal

pub returns-clause-bytes : goal.returns-clause-bytes
returns-clause-bytes c =
    let copied : c.copy_from_slice.new.self ≡ take c.min-count.result (drop c.args.at c.args.bytes.now) = grind (arith, common_steps) in
    let len : length c.copy_from_slice.new.self ≡ c.min-count.result = grind (arith, common_steps) in
    front_and_rest c.args.bytes.now c.copy_from_slice.new.self _ c.args.at c.min-count.result copied len
