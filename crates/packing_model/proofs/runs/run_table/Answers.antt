use Rattle.std.proofs.Common.{◌≡◌, ◌<◌, ◌∙◌, arith, sym, ap, subst, length}
use Rattle.std.specs.List.{AllByRecursion}
use Rattle.numbers.specs.Sums.{member}
use Rattle.meeting_patterns.specs.Pattern.{pattern_at}
use Rattle.packing_model.specs.Keys.{keys_of}
use Rattle.packing_model.proofs.KeyLemmas.{keys_known}
use Rattle.packing_model.proofs.RunLemmas.{rows_low}
use Rattle.packing_model.proofs.runs.run_table.Goals as goal

pub put_rows-requires : goal.put_rows-requires
put_rows-requires c =
    let p = c.args.p.now in
    let s = c.args.s.now in
    let i = c.loop-i.i in
    let there : i < length s = omega (arith, c.loop-i-test.true, c.len-i-end.ensures.count) in
    let keys : c.deref.result.now ≡ keys_of p (pattern_at s i) = c.deref.ensures.value ∙ c.in_ok-put_keys.ensures ∙ ap (keys_of p) c.get.ensures in
    λ k h. omega (arith, c.requires.whole, keys_known p c.requires.problem (pattern_at s i) (c.requires.patterns.each i there) k (sym (ap (member k) keys) ∙ h))

pub add_runs-requires : goal.add_runs-requires
add_runs-requires c =
    subst (AllByRecursion (λ r. r < 4000)) (sym (c.deref-in-loop-i.ensures.value ∙ c.in_ok-put_rows.ensures)) (rows_low c.args.numbers.now c.deref.result.now c.requires.few)
