use Rattle.std.proofs.Common.{refl, sym, subst}
use Rattle.exact_num.specs.Ops.{inv_ℚ}
use Rattle.simplex_tableau.proofs.SignsLaws.{num_some}
use Rattle.simplex_tableau.specs.Inverse.{IsShared}
use Rattle.simplex_tableau.proofs.InverseLaws.{shared_one}
use Rattle.simplex_tableau.proofs.inverse.push_share.Goals as goal

pub div-requires : goal.div-requires
div-requires g c = num_some (g.A.Num.Fraction.value c.args.divisor) c.requires

pub returns-in_ok-push-in-Some : goal.returns-in_ok-push-in-Some
returns-in_ok-push-in-Some g c =
    let value = g.A.Num.Fraction.value in (
      c.in_ok-share-in-Some.ensures.kept,
      subst (λ f. IsShared value (inv_ℚ (value c.args.divisor)) c.args.place f c.args.row.now c.push.new.self) (sym c.in-Some.is)
          (shared_one value (inv_ℚ (value c.args.divisor)) c.args.place c.in-Some.number c.args.row.now c.push.new.self (record { place = c.args.place; number = c.in_ok-share-in-Some.share }) refl c.in_ok-share-in-Some.ensures.value c.in_ok-push-in-Some.ensures.ok),
    )
