use Rattle.std.proofs.Common.{◌∙◌, ap, sym, subst}
use Rattle.std.proofs.lemmas.Result.{on_ok_weaker}
use Rattle.std.proofs.lemmas.Bool.{not-true, not-false}
use Rattle.duality.specs.Walk.{turn}
use Rattle.search_nodes.specs.Paths.{path_of, IsTurned}
use Rattle.search_nodes.proofs.PathLaws.{popped_inside, popped_outside, turn_inside, turn_outside}
use Rattle.search_nodes.proofs.walk.Walk.turn.Goals as goal

pub returns-then-not-side-clause-path : goal.returns-then-not-side-clause-path
returns-then-not-side-clause-path c =
    let side = c.in-Some.side in
    let turned = sym c.sides.invariant.turns ∙ turn_outside c.sides.self.path c.pop.new.self side c.in-Some.ensures (not-true side.inside c.if-not-side.true) in
    on_ok_weaker c.take.result (λ same. subst (λ o. IsTurned o (path_of c.take.new.self.path)) (sym turned) same) c.take.ensures.path

pub returns-then-not-side-clause-walk : goal.returns-then-not-side-clause-walk
returns-then-not-side-clause-walk c =
    let side = c.in-Some.side in
    on_ok_weaker c.take.result (λ takes k walk. takes k (popped_outside k c.sides.self.path c.pop.new.self c.sides.self.fixing c.sides.self.marks side c.in-Some.ensures (not-true side.inside c.if-not-side.true) (c.sides.invariant.walk k walk))) c.take.ensures.walk

pub sides-preserved : goal.sides-preserved
sides-preserved c =
    let side = c.in-Some.side in
    let inside = not-false side.inside c.if-not-side.false in
    record {
      turns = ap (λ sides. turn (path_of sides)) c.release.ensures.path ∙ sym (turn_inside c.sides.self.path c.pop.new.self side c.in-Some.ensures inside) ∙ c.sides.invariant.turns;
      walk = λ k walk. c.release.ensures.walk k (popped_inside k c.sides.self.path c.pop.new.self c.sides.self.fixing c.sides.self.marks side c.in-Some.ensures inside (c.sides.invariant.walk k walk));
    }
