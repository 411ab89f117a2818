use Rattle.std.proofs.Common.{arith, refl, ◌∙◌, sym, length, ◌<◌, ◌≡◌}
use Rattle.simplex_tableau.proofs.DenseLaws.{place-at}
use Rattle.simplex_tableau.specs.Inverse.{list_at}
use Rattle.simplex_tableau.proofs.InverseLaws.{list-get, turns_more, turns_end}
use Rattle.simplex_tableau.proofs.inverse.turn_columns.Goals as goal

pub loop-entry-init : goal.loop-entry-init
loop-entry-init g c = record { wides = refl; so_far = record { same_length = refl; sums = λ k p l. refl; rises = λ m h k. h } }

pub bounds-inverse-k : goal.bounds-inverse-k
bounds-inverse-k g c =
    let k : c.entry-item.result.place < length c.args.inverse.now = place-at (length c.args.inverse.now) c.args.row.now c.loop-entry.entry-index c.entry-item.result c.requires (omega arith) c.entry-item.is in
    omega arith

pub bounds-inverse-k-in-loop-entry : goal.bounds-inverse-k-in-loop-entry
bounds-inverse-k-in-loop-entry g c =
    let k : c.entry-item.result.place < length c.args.inverse.now = place-at (length c.args.inverse.now) c.args.row.now c.loop-entry.entry-index c.entry-item.result c.requires (omega arith) c.entry-item.is in
    omega arith

pub loop-entry-preserved : goal.loop-entry-preserved
loop-entry-preserved g c =
    let value = g.A.Num.Fraction.value in
    let k : c.entry-item.result.place < length c.args.inverse.now = place-at (length c.args.inverse.now) c.args.row.now c.loop-entry.entry-index c.entry-item.result c.requires (omega arith) c.entry-item.is in
    let here : list_at c.loop-entry.inverse c.entry-item.result.place ≡ c.as_slice.result.now = list-get c.loop-entry.inverse c.entry-item.result.place c.index-inverse-k.result (omega arith) c.index-inverse-k.is ∙ c.index-inverse-k.is ∙ sym c.as_slice.ensures in
    record {
      wides = c.in_ok-turned.ensures.0 ∙ c.loop-entry.invariant.wides;
      so_far = turns_more value c.args.inverse.now c.args.row.now c.args.less.now c.loop-entry.entry-index c.loop-entry.inverse c.entry-item.result c.as_slice.result.now c.in_ok-turned.turned
          (omega arith) c.entry-item.is k here c.in_ok-turned.ensures.1 c.loop-entry.invariant.so_far;
    }

pub returns : goal.returns
returns g c = (c.loop-entry.invariant.wides, turns_end g.A.Num.Fraction.value c.args.inverse.now c.args.row.now c.args.less.now c.loop-entry.entry-index c.loop-entry.inverse (omega arith) c.loop-entry.invariant.so_far)
