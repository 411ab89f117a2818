use Rattle.std.proofs.Common.{◌≡◌, ◌<◌, ◌^◌, take, true}
use Rattle.std.specs.List.{list_all}
use Rattle.std.specs.Str.Parse.{digits_value}
use Rattle.input_core.specs.Lines.{is_digit}
use Rattle.input_core.proofs.lines.read_number.Given as goal

abbrev pub invariant-loop-b : goal.invariant-loop-b
invariant-loop-b l = record {
  value : l.number ≡ digits_value 10 (take l.b-index l.field);
  small : l.number < 10 ^ l.b-index;
  digits : list_all is_digit (take l.b-index l.field) ≡ true;
}
