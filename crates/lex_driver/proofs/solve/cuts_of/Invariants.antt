use Rattle.std.proofs.Common.{◌≡◌, take}
use Rattle.lex_driver.proofs.solve.cuts_of.Given as goal

abbrev pub invariant-loop-cut : goal.invariant-loop-cut
invariant-loop-cut l = l.cuts ≡ take l.cut l.pool
