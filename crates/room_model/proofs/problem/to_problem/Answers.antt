use Rattle.std.proofs.Common.{◌≡◌, ◌≤◌, arith, length, subst, sym}
use Rattle.std.specs.Prelude.{IsTrue, None}
use Rattle.problem_core.specs.OfParts.{well_formed}
use Rattle.room_model.specs.Long.{long_fault}
use Rattle.room_model.proofs.LongLemmas.{none_found}
use Rattle.room_model.proofs.CountLemmas.{few_meetings}
use Rattle.room_model.proofs.WellFormedLaws.{well_formed_where}
use Rattle.room_model.proofs.problem.to_problem.Goals as goal

pub long_fault-requires-clause-few : goal.long_fault-requires-clause-few
long_fault-requires-clause-few c =
    let few : length c.as_slice.result.now ≤ 1000000 = subst (λ ms. length ms ≤ 1000000) (sym c.as_slice.ensures) (few_meetings c.args.instance.now c.args.times.now.meetings c.requires.instance c.requires.times) in
    omega (arith, few)

pub build-requires : goal.build-requires
build-requires c =
    let none : long_fault c.args.instance.now c.args.times.now c.args.measures.now ≡ None =
    none_found c.args.instance.now c.args.times.now c.args.measures.now c.in_ok-calendar.calendar c.as_slice.result.now c.in_ok-fault.field-0 c.in_ok-fault.ensures c.in_ok-calendar.ensures c.as_slice.ensures c.in-None.is in
    subst (λ p. IsTrue (well_formed p)) (sym c.in_ok-parts.ensures) (well_formed_where _ _ _ c.requires.instance c.requires.times c.requires.measures none)
