use Rattle.std.proofs.Common.{◌≡◌, ◌++◌, drop}
use Rattle.cert_text.specs.Spelling.{term_fields}
use Rattle.cert_text.specs.Writing.{blank_before}
use Rattle.cert_text.proofs.writer.write_terms.Given as goal

abbrev pub invariant-loop-term : goal.invariant-loop-term
invariant-loop-term l = l.bytes.items ++ (blank_before (term_fields (drop l.term-index l.terms))) ≡ l.fn.bytes.items ++ blank_before (term_fields l.terms)
