use Rattle.std.proofs.Common.{◌≡◌, map}
use Rattle.demo_files.specs.Generator.{indices, room_at}
use Rattle.demo_files.proofs.instance.rooms.Given as goal

abbrev pub invariant-loop-r : goal.invariant-loop-r
invariant-loop-r l = l.rooms ≡ map room_at (indices l.r)
