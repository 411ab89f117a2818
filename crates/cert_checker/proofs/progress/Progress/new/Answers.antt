use Rattle.std.proofs.Common.{◌≡◌, arith, refl, subst, sym, length}
use Rattle.packing_model.specs.Built.{packing}
use Rattle.packing_model.specs.Cuts.{IsPoolOf}
use Rattle.cert_checker.proofs.PlaceLaws.{small_zeros, no_pool}
use Rattle.cert_checker.proofs.progress.Progress.new.Goals as goal

pub returns-clause-kept : goal.returns-clause-kept
returns-clause-kept c = λ f. record {
  counted = omega arith;
  wanted = omega arith;
  room = subst (λ cuts. length cuts ≡ 0) (sym c.new.ensures) refl;
  pool = subst (IsPoolOf (packing f)) (sym c.new.ensures) (no_pool f);
  six = refl;
  small = λ i l. small_zeros i;
  walk = c.new-2.ensures.walk (packing f);
}
