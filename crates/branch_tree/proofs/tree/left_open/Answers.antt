use Rattle.std.proofs.Common.{◌≡◌, ◌++◌, ◌∙◌, List, [], arith, sym, ap, refl, suc, drop, append-nil, drop_of_length-le}
use Rattle.duality.specs.After.{open_ends}
use Rattle.search_nodes.specs.declared.walk.Side.{Side}
use Rattle.branch_tree.specs.Trees.{outside_count}
use Rattle.branch_tree.proofs.EndLaws.{ends_count, one_end}
use Rattle.branch_tree.proofs.tree.left_open.Goals as goal

pub returns : goal.returns
returns c =
    let items : List Side = c.as_slice-side-items.result.now in
    let path = c.args.growth.walk.path in
    let none : drop c.loop-side.side-index items ≡ [] = drop_of_length-le items (omega arith) in
    let whole = sym (append-nil c.loop-side.nodes) ∙ ap (λ (sides : List Side). c.loop-side.nodes ++ open_ends (outside_count sides)) (sym none) ∙ c.loop-side.invariant.ends in
    (whole ∙ ap (λ (sides : List Side). c.args.growth.nodes ++ open_ends (suc (outside_count sides))) c.as_slice-side-items.ensures ∙ ap (λ n. c.args.growth.nodes ++ open_ends n) (ends_count path), c.loop-side.invariant.held, refl)

pub loop-side-preserved : goal.loop-side-preserved
loop-side-preserved c = record {
  ends = one_end c.loop-side.nodes c.open_end.new.nodes _ c.as_slice-side-items.result.now c.loop-side.side-index _ c.loop-side-test.true c.in_ok-open_end.ensures c.loop-side.invariant.ends;
  held = c.loop-side.invariant.held;
}
