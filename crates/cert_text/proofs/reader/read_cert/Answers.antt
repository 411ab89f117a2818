use Rattle.std.proofs.Common.{arith}
use Rattle.cert_text.specs.Reading.{standing_of}
use Rattle.cert_text.specs.Text.{whole_lines, rest_of}
use Rattle.cert_text.proofs.TakeLaws.{stops_here, goes_on, ends_ok, ends_err}
use Rattle.cert_text.proofs.reader.read_cert.Goals as goal

pub returns-then-not-branch-clause-err : goal.returns-then-not-branch-clause-err
returns-then-not-branch-clause-err c =
    stops_here c.args.bytes.now (standing_of c.lines.reader) (standing_of c.take_bytes.new.self) c.lines.number c.in_ok-take_bytes.field-0 c.fault_at.result c.in-Some.line.now (whole_lines c.in-Some.after.now) (whole_lines c.lines.rest.now) (rest_of c.lines.rest.now)
    c.lines.invariant.read c.in-Some.ensures.0 c.in_ok-take_bytes.ensures.took c.if-not-branch.true c.fault_at.ensures

pub lines-preserved : goal.lines-preserved
lines-preserved c = record {
  read = goes_on c.args.bytes.now (standing_of c.lines.reader) (standing_of c.take_bytes.new.self) c.lines.number c.in_ok-take_bytes.field-0 c.in-Some.line.now (whole_lines c.lines.rest.now) (whole_lines c.in-Some.after.now) (rest_of c.lines.rest.now) (rest_of c.in-Some.after.now)
      c.lines.invariant.read c.in-Some.ensures.0 c.in-Some.ensures.1 c.in_ok-take_bytes.ensures.took c.if-not-branch.false;
  sound = c.in_ok-take_bytes.ensures.sound;
  few = omega (arith, c.lines.invariant.few, c.in_ok-take_bytes.ensures.few);
  within = omega (arith, c.lines.invariant.within, c.in-Some.ensures.2);
}

pub returns-clause-ok : goal.returns-clause-ok
returns-clause-ok c =
    ends_ok c.args.bytes.now c.lines.rest.now (standing_of c.lines.reader) c.lines.number c.finish.result c.lines.invariant.read c.in_default.ensures.0 c.in_default.ensures.1 c.finish.ensures

pub returns-clause-err : goal.returns-clause-err
returns-clause-err c =
    ends_err c.args.bytes.now c.lines.rest.now (standing_of c.lines.reader) c.lines.number c.finish.result c.lines.invariant.read c.in_default.ensures.0 c.in_default.ensures.1 c.finish.ensures
