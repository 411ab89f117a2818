use Rattle.duality.proofs.PricedLaws.{as_times, seven_times}
use Rattle.duality.proofs.sums.level_times.Goals as goal

pub returns : goal.returns
returns c =
    seven_times c.args.terms.now _ _ _ _ _ _ _ (as_times c.args.terms.now 1 c.times_of.result c.times_of.ensures.value c.times_of.ensures.small)
    (as_times c.args.terms.now 2 c.times_of-2.result c.times_of-2.ensures.value c.times_of-2.ensures.small)
    (as_times c.args.terms.now 3 c.times_of-3.result c.times_of-3.ensures.value c.times_of-3.ensures.small)
    (as_times c.args.terms.now 4 c.times_of-4.result c.times_of-4.ensures.value c.times_of-4.ensures.small)
    (as_times c.args.terms.now 5 c.times_of-5.result c.times_of-5.ensures.value c.times_of-5.ensures.small)
    (as_times c.args.terms.now 6 c.times_of-6.result c.times_of-6.ensures.value c.times_of-6.ensures.small)
    (as_times c.args.terms.now 7 c.times_of-7.result c.times_of-7.ensures.value c.times_of-7.ensures.small)
