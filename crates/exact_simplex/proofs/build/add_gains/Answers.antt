use Rattle.std.proofs.Common.{◌∙◌, refl}
use Rattle.exact_simplex.proofs.BuildLemmas.{gains_more}
use Rattle.exact_simplex.proofs.build.add_gains.Goals as goal

pub loop-j-preserved : goal.loop-j-preserved
loop-j-preserved g c =
    let value = g.A.Num.Fraction.value in
    record {
      wides = c.in_ok-add_gain.ensures.0 ∙ c.loop-j.invariant.wides;
      so_far = gains_more value c.args.lists.now c.args.place c.args.gain.now c.loop-j.j _ c.loop-j.lists c.add_gain.new.lists refl c.in_ok-add_gain.ensures.1 c.loop-j.invariant.so_far;
    }
