use Rattle.std.proofs.Common.{arith, sym, ◌∙◌, ◌≡◌, ◌<◌, ◌-◌, get_or}
use Rattle.input_core.proofs.LineLemmas.{digit_more, digit_small, number_more, digits_all}
use Rattle.std.proofs.Common.{take, ap}
use Rattle.std.specs.List.{list_all}
use Rattle.std.specs.Str.Parse.{digits_value}
use Rattle.std.proofs.lemmas.List.{take_all}
use Rattle.cert_text.specs.Numbers.{is_digit}
use Rattle.cert_text.proofs.NumberLaws.{digit_fits, below_all}
use Rattle.cert_text.proofs.number.loose_value.Goals as goal

pub overflow_mul-number : goal.overflow_mul-number
overflow_mul-number c = omega (arith, digit_fits c.loop-b.number 0 c.loop-b.b-index c.loop-b.invariant.small (omega arith) (omega arith))

pub overflow_add-number : goal.overflow_add-number
overflow_add-number c =
    let d = sym c.is_digit.ensures ∙ c.if-not-is_digit.false in
    let small : get_or c.args.field.now c.loop-b.b-index 0 - 48 < 10 = digit_small _ d in
    omega (arith, digit_fits c.loop-b.number (get_or c.args.field.now c.loop-b.b-index 0 - 48) c.loop-b.b-index c.loop-b.invariant.small (omega arith) small, c.from.ensures)

pub loop-b-preserved : goal.loop-b-preserved
loop-b-preserved c =
    let d = sym c.is_digit.ensures ∙ c.if-not-is_digit.false in
    let i = c.loop-b.b-index in
    let small : get_or c.args.field.now i 0 - 48 < 10 = digit_small _ d in
    let same = number_more c.args.field.now i c.loop-b.number c.loop-b-test.true d c.loop-b.invariant.value in
    record {
      value = rw c.from.ensures same;
      small = rw c.from.ensures (digit_more c.loop-b.number (get_or c.args.field.now i 0 - 48) i c.loop-b.invariant.small small);
      digits = digits_all c.args.field.now i c.loop-b-test.true c.loop-b.invariant.digits d;
    }

pub returns : goal.returns
returns c =
    let whole : take c.loop-b.b-index c.args.field.now ≡ c.args.field.now = take_all c.loop-b.b-index c.args.field.now (omega arith) in
    (c.loop-b.invariant.value ∙ ap (digits_value 10) whole, ap (list_all is_digit) (sym whole) ∙ c.loop-b.invariant.digits, below_all c.loop-b.number c.loop-b.b-index c.loop-b.invariant.small (omega arith))
