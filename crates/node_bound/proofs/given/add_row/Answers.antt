use Rattle.std.proofs.Common.{◌≡◌, ◌∙◌, ◌^◌, ap, sym, subst, arith, set, length, get_or, lit≤, lit<, [], ◌∷◌, true}
use Rattle.std.specs.Prelude.{ℤ, pos, ◌<◌, ◌+ℤ◌}
use Rattle.std.proofs.lemmas.Int.{ints}
use mir.Syntax.{w128}
use mir.Val.{to_z, of_z}
use Rattle.duality.specs.Sums.{IsWithin}
use Rattle.duality.proofs.PricedLaws.{plain_sum}
use Rattle.exact_simplex.specs.Task.{int_at}
use Rattle.node_bound.specs.Given.{Adds}
use Rattle.node_bound.specs.Places.{is_placed, place_of}
use Rattle.node_bound.proofs.GivenLaws.{adds_one}
use Rattle.node_bound.proofs.PlaceLaws.{place_is}
use Rattle.node_bound.proofs.given.add_row.Goals as goal

pub returns-then-has : goal.returns-then-has
returns-then-has c =
    let v = c.args.places.now in
    let old = c.args.sums.now in
    let placed : is_placed v c.args.row ≡ true = sym c.has.ensures ∙ c.if-has.true in
    let below = (place_is v c.requires.layout c.args.row placed).below in
    let inside : place_of v c.args.row < length old = omega (arith, below, c.requires.whole) in
    let there : c.place-place.result < length old = omega (arith, inside, c.place-place.ensures) in
    let was = get_or old c.place-place.result (pos 0) in
    let low = c.requires.low c.place-place.result there in
    let high = c.requires.high c.place-place.result there in
    let small : IsWithin (10 ^ 37) was = record { low = omega (arith, ints, low); high = omega (arith, ints, high) } in
    let part : IsWithin (10 ^ 24) c.args.amount = record { low = omega (arith, ints, c.requires.amount.low); high = omega (arith, ints, c.requires.amount.high) } in
    let sum : to_z w128 (of_z w128 c.plus.result) ≡ was +ℤ c.args.amount = plain_sum (10 ^ 37) (10 ^ 24) (10 ^ 38) was c.args.amount c.plus.result small part (lit≤ tt) (lit< tt) c.plus.ensures in
    let moved : to_z w128 (of_z w128 c.plus.result) ≡ int_at old (place_of v c.args.row) +ℤ c.args.amount = sum ∙ ap (λ i. get_or old i (pos 0) +ℤ c.args.amount) c.place-place.ensures in
    subst (λ i. Adds v c.args.amount (c.args.row ∷ []) [] old (set old i (to_z w128 (of_z w128 c.plus.result)))) (sym c.place-place.ensures)
    (adds_one v c.args.amount c.args.row old (to_z w128 (of_z w128 c.plus.result)) placed inside c.requires.amount moved)
