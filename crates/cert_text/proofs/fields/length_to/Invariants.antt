use Rattle.std.proofs.Common.{◌≡◌, take, true}
use Rattle.cert_text.specs.Numbers.{lacks}
use Rattle.cert_text.proofs.fields.length_to.Given as goal

abbrev pub invariant-loop-i : goal.invariant-loop-i
invariant-loop-i l = lacks l.separator (take l.i l.bytes) ≡ true
