use Rattle.std.proofs.Common.{◌≡◌, ◌<◌, ◌∙◌, arith, sym, ap, length}
use Rattle.numbers.specs.Sums.{member, distinct}
use Rattle.meeting_patterns.specs.Pattern.{pattern_at}
use Rattle.packing_model.specs.Keys.{keys_of}
use Rattle.packing_model.proofs.KeyLemmas.{keys_known, keys-distinct}
use Rattle.packing_model.proofs.TableLemmas.{few_counted, having_step}
use Rattle.packing_model.proofs.rows.count_keys.Goals as goal

pub add_counts-requires-clause-known : goal.add_counts-requires-clause-known
add_counts-requires-clause-known c =
    let p = c.args.p.now in
    let s = c.args.s.now in
    let i = c.loop-i.i in
    let there : i < length s = omega (arith, c.loop-i-test.true, c.len-i-end.ensures.count) in
    let keys : c.deref.result.now ≡ keys_of p (pattern_at s i) = c.deref.ensures.value ∙ c.in_ok-put_keys.ensures ∙ ap (keys_of p) c.get.ensures in
    λ k h. omega (arith, c.loop-i.invariant.whole, keys_known p c.requires.problem (pattern_at s i) (c.requires.patterns.each i there) k (sym (ap (member k) keys) ∙ h))

pub add_counts-requires-clause-differ : goal.add_counts-requires-clause-differ
add_counts-requires-clause-differ c =
    let p = c.args.p.now in
    let s = c.args.s.now in
    let i = c.loop-i.i in
    let there : i < length s = omega (arith, c.loop-i-test.true, c.len-i-end.ensures.count) in
    ap distinct (c.deref.ensures.value ∙ c.in_ok-put_keys.ensures ∙ ap (keys_of p) c.get.ensures) ∙ keys-distinct p c.requires.problem (pattern_at s i) (c.requires.patterns.each i there)

pub add_counts-requires-clause-few : goal.add_counts-requires-clause-few
add_counts-requires-clause-few c = few_counted c.args.p.now c.args.s.now c.loop-i.i c.loop-i.counts.items c.loop-i.invariant (omega (arith, c.loop-i-test.true, c.len-i-end.ensures.count, c.len-i-end.ensures.few))

pub loop-i-preserved : goal.loop-i-preserved
loop-i-preserved c =
    let p = c.args.p.now in
    let s = c.args.s.now in
    let i = c.loop-i.i in
    let keys : c.deref.result.now ≡ keys_of p (pattern_at s i) = c.deref.ensures.value ∙ c.in_ok-put_keys.ensures ∙ ap (keys_of p) c.get.ensures in
    record {
      whole = c.add_counts.ensures.whole ∙ c.loop-i.invariant.whole;
      each = λ k l. having_step p s i k _ _ c.deref.result.now keys (c.loop-i.invariant.each k l) (c.add_counts.ensures.each k);
    }
