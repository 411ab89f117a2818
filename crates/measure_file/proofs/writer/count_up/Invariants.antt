use Rattle.std.proofs.Common.{◌≡◌, ◌≤◌, ◌^◌, drop}
use Rattle.measure_file.specs.Writing.{counted}
use Rattle.measure_file.proofs.writer.count_up.Given as goal

abbrev pub invariant-loop-row : goal.invariant-loop-row
invariant-loop-row l = record {
  same : counted l.found (drop l.row-index l.rows) ≡ counted l.count l.rows;
  few : l.found ≤ 2 ^ 32;
}
