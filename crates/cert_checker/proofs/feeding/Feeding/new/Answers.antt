use Rattle.std.proofs.Common.{sym, subst, []}
use Rattle.cert_checker.specs.Feeding.{IsGoing}
use Rattle.cert_checker.proofs.FeedLaws.{fed_begins}
use Rattle.cert_checker.proofs.feeding.Feeding.new.Goals as goal

pub returns-clause-fed : goal.returns-clause-fed
returns-clause-fed c = λ f. subst (λ rest. IsGoing f c.new.result rest []) (sym c.new-2.ensures) (fed_begins f c.new.result (c.new.ensures.at f) c.new.ensures.line)

pub returns-clause-sound : goal.returns-clause-sound
returns-clause-sound c = λ f e. c.new.ensures.sound f
