use Rattle.std.proofs.Common.{◌≡◌, ◌++◌, drop}
use Rattle.cert_text.proofs.forms.copied_cuts.Given as goal

abbrev pub invariant-loop-cut : goal.invariant-loop-cut
invariant-loop-cut l = l.copy ++ drop l.cut-index l.cuts ≡ l.cuts
