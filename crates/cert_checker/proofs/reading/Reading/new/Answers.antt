use Rattle.std.proofs.Common.{ap}
use Rattle.cert_text.specs.Sharing.{are_leaf_lines}
use Rattle.cert_checker.proofs.AtLaws.{at_begins}
use Rattle.cert_checker.proofs.reading.Reading.new.Goals as goal

pub returns-clause-at : goal.returns-clause-at
returns-clause-at c = λ f. at_begins f (record { named = c.new.result; progress = c.new-2.result }) c.new.ensures (c.new-2.ensures.stands f)

pub returns-clause-sound : goal.returns-clause-sound
returns-clause-sound c = λ f. record { progress = c.new-2.ensures.kept f; named = ap (λ n. are_leaf_lines n.lines) c.new.ensures }
