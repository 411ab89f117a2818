use Rattle.std.proofs.Common.{length, drop, ◌+◌, ◌-◌, nat_lt}
use Rattle.meeting_patterns.specs.Pattern.{patterns_of}
use Rattle.packing_model.proofs.ListLemmas.{all_take, all_drop}
use Rattle.packing_model.proofs.cut.first_apart_by_pairs.Goals as goal

pub first_clear_of-requires-clause-others : goal.first_clear_of-requires-clause-others
first_clear_of-requires-clause-others c =
    let i = c.loop-i.i + 1 in
    let patterns = c.args.patterns.now in
    let count = length (patterns_of c.args.m.now) in
    all_take (λ p. nat_lt p count) (drop i patterns) (length patterns - i) (all_drop (λ p. nat_lt p count) patterns i c.requires)
