use Rattle.std.proofs.Common.{rules, arith, refl, ◌∙◌, sym, length, ◌<◌}
use Rattle.simplex_tableau.proofs.DenseLaws.{added_more, added_end, place-at}
use Rattle.simplex_tableau.proofs.dense.add_times.Goals as goal

pub loop-entry-init : goal.loop-entry-init
loop-entry-init g c = record { wides = refl; same = λ p l. refl }

pub bounds-x-place : goal.bounds-x-place
bounds-x-place g c =
    let k : c.entry-item.result.place < length c.args.x.now = place-at (length c.args.x.now) c.args.source.now c.loop-entry.entry-index c.entry-item.result c.requires (omega arith) c.entry-item.is in
    omega arith

pub bounds-x-place-in-loop-entry : goal.bounds-x-place-in-loop-entry
bounds-x-place-in-loop-entry g c =
    let k : c.entry-item.result.place < length c.args.x.now = place-at (length c.args.x.now) c.args.source.now c.loop-entry.entry-index c.entry-item.result c.requires (omega arith) c.entry-item.is in
    omega arith

pub offset_bounds-x-place : goal.offset_bounds-x-place
offset_bounds-x-place g c =
    let k : c.entry-item.result.place < length c.args.x.now = place-at (length c.args.x.now) c.args.source.now c.loop-entry.entry-index c.entry-item.result c.requires (omega arith) c.entry-item.is in
    let j : c.entry-item.result.place < length c.loop-entry.x = omega arith in
    search rules

pub offset_bounds-x-place-in-loop-entry : goal.offset_bounds-x-place-in-loop-entry
offset_bounds-x-place-in-loop-entry g c =
    let k : c.entry-item.result.place < length c.args.x.now = place-at (length c.args.x.now) c.args.source.now c.loop-entry.entry-index c.entry-item.result c.requires (omega arith) c.entry-item.is in
    let j : c.entry-item.result.place < length c.loop-entry.x = omega arith in
    search rules

pub loop-entry-preserved : goal.loop-entry-preserved
loop-entry-preserved g c =
    let value = g.A.Num.Fraction.value in
    let k : c.entry-item.result.place < length c.args.x.now = place-at (length c.args.x.now) c.args.source.now c.loop-entry.entry-index c.entry-item.result c.requires (omega arith) c.entry-item.is in
    record {
      wides = c.in_ok-sum.ensures.0 ∙ c.loop-entry.invariant.wides;
      same = added_more value c.args.x.now c.loop-entry.x (value c.args.factor) c.args.source.now c.loop-entry.entry-index c.entry-item.result c.index-x-place.result c.in_ok-sum.sum
          (omega arith) c.entry-item.is (omega arith) k c.index-x-place.is c.in_ok-sum.ensures.1 c.loop-entry.invariant.same;
    }

pub returns : goal.returns
returns g c = (
  c.loop-entry.invariant.wides,
  λ p l. sym (added_end g.A.Num.Fraction.value c.loop-entry.x (g.A.Num.Fraction.value c.args.factor) c.args.source.now c.loop-entry.entry-index p (omega arith)) ∙ c.loop-entry.invariant.same p l,
)
