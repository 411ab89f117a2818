use Rattle.std.proofs.Common.{◌≡◌, ◌<◌, ◌^◌, take, true}
use Rattle.std.specs.List.{list_all}
use Rattle.std.specs.Str.Parse.{digits_value}
use Rattle.cert_text.specs.Numbers.{is_digit}
use Rattle.cert_text.proofs.number.loose_value.Given as goal

abbrev pub invariant-loop-b : goal.invariant-loop-b
invariant-loop-b l = record {
  value : l.number ≡ digits_value 10 (take l.b-index l.field);
  small : l.number < 10 ^ l.b-index;
  digits : list_all is_digit (take l.b-index l.field) ≡ true;
}
