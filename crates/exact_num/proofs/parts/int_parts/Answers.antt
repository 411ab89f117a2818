use Rattle.std.proofs.Common.{rules, SFits, to_z-of_z}
use Rattle.std.specs.Int.{w128}
use Rattle.exact_num.proofs.Settled.{int_found}
use Rattle.exact_num.proofs.parts.int_parts.Goals as goal

pub returns-in-Some : goal.returns-in-Some
returns-in-Some c =
    let fn : SFits w128 c.args.n = search rules in
    let fm : SFits w128 c.in-Some.num = search rules in
    let h = c.in-Some.ensures.0 in
    let room = c.in-Some.ensures.1 in
    let found = int_found c.args.bound c.args.n c.in-Some.num (simp to_z-of_z at h) (simp to_z-of_z at room) c.requires in
    simp to_z-of_z found
