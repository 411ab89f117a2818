use Rattle.std.proofs.Common.{arith, refl, ◌∙◌, length}
use Rattle.simplex_tableau.proofs.LeaveLaws.{searched_more, searched_end, scan_start}
use Rattle.simplex_tableau.proofs.leave.find_leaving.Goals as goal

pub loop-entry-init : goal.loop-entry-init
loop-entry-init g c = record {
  wides = refl;
  searched = record { found = tt; scanned = scan_start g.A.Num.Fraction.value (length c.args.tableau.now.point.items) c.args.made.now _ c.requires.rises };
}

pub loop-entry-preserved : goal.loop-entry-preserved
loop-entry-preserved g c =
    let size = length c.args.tableau.now.point.items in
    record {
      wides = c.in_ok-best.ensures.0 ∙ c.loop-entry.invariant.wides;
      searched = searched_more g.A.Num.Fraction.value size c.args.columns c.args.states.now c.args.tableau.now c.args.made.now c.loop-entry.entry-index c.loop-entry.best c.in_ok-best.best c.entry-item.result (omega arith) c.entry-item.is c.in_ok-best.ensures.1 c.loop-entry.invariant.searched;
    }

pub returns : goal.returns
returns g c = (
  c.loop-entry.invariant.wides,
  searched_end g.A.Num.Fraction.value (length c.args.tableau.now.point.items) c.args.columns c.args.states.now c.args.tableau.now c.args.made.now c.loop-entry.entry-index c.loop-entry.best (omega arith) c.loop-entry.invariant.searched,
)
