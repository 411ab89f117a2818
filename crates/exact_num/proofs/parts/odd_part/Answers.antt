use Rattle.std.proofs.Common.{arith, ◌<◌, ◌^◌}
use Rattle.exact_num.proofs.Halving.{odd_part_of}
use Rattle.exact_num.proofs.parts.odd_part.Goals as goal

pub returns : goal.returns
returns c =
    let short : c.args.n < 2 ^ 64 = omega arith in
    odd_part_of c.args.n c.requires short
