use Rattle.std.proofs.Common.{arith, ◌∙◌, sym, inl, inr, ap, ◌*◌, ◌%◌}
use Rattle.std.proofs.Math.Nat.{mul_comm}
use Rattle.std.specs.Ordering.{nat_cmp}
use Rattle.exact_num.proofs.Turns.{other_whole, same_whole_parts, nat_cmp-zeros}
use Rattle.exact_num.proofs.parts.compare_parts.Goals as goal
use Rattle.exact_num.proofs.parts.compare_parts.Goals.{then-r-eq0-via-then-r-eq0, then-r-eq0-via-else-r-eq0+then-s-eq0}

pub returns-then-first-second : goal.returns-then-first-second
returns-then-first-second c = c.cmp.ensures ∙ other_whole c.turns.w c.turns.x c.turns.y c.turns.z c.turns.invariant.low c.turns.invariant.other c.if-first-second.true ∙ c.turns.invariant.same

pub returns-then-r-eq0 : goal.returns-then-r-eq0
returns-then-r-eq0 c =
    let w = c.turns.w in let x = c.turns.x in let y = c.turns.y in let z = c.turns.z in
    c.cmp-then-r-eq0.ensures
    ∙ nat_cmp-zeros (w % x) (y % z) x z
    (elim c.then-r-eq0.branch [ then-r-eq0-via-then-r-eq0 v ↦ inl v.if-r-eq0.true | then-r-eq0-via-else-r-eq0+then-s-eq0 v ↦ inr v.if-s-eq0.true ])
    c.turns.invariant.low c.turns.invariant.other
    ∙ sym (same_whole_parts w x y z c.turns.invariant.low c.turns.invariant.other c.if-first-second.false) ∙ c.turns.invariant.same

pub turns-preserved : goal.turns-preserved
turns-preserved c =
    let w = c.turns.w in let x = c.turns.x in let y = c.turns.y in let z = c.turns.z in
    record {
      same = ap (λ t. nat_cmp t (x * (y % z))) (mul_comm z (w % x)) ∙ ap (λ t. nat_cmp ((w % x) * z) t) (mul_comm x (y % z))
          ∙ sym (same_whole_parts w x y z c.turns.invariant.low c.turns.invariant.other c.if-first-second.false) ∙ c.turns.invariant.same;
      low = omega arith;
      other = omega arith;
    }
