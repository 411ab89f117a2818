use Rattle.std.proofs.Common.{◌≡◌, length}
use Rattle.cert_text.specs.Spelling.{terms_of}
use Rattle.cert_text.proofs.ReadLaws.{behind}
use Rattle.cert_text.proofs.leaf_line.read_terms.Given as goal

abbrev pub invariant-loop-row : goal.invariant-loop-row
invariant-loop-row l = behind l.terms (terms_of l.fields) ≡ terms_of l.fn.fields

abbrev pub decreases-loop-row : goal.decreases-loop-row
decreases-loop-row l = length l.fields
