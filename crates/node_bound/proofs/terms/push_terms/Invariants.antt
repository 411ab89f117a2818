use Rattle.std.proofs.Common.{◌≡◌, ◌++◌, drop}
use Rattle.node_bound.specs.Terms.{terms_of}
use Rattle.node_bound.proofs.terms.push_terms.Given as goal

abbrev pub invariant-loop-i : goal.invariant-loop-i
invariant-loop-i l = l.terms ++ terms_of (drop l.i l.rows) (drop l.i l.times) ≡ l.initial.terms ++ terms_of l.rows l.times
