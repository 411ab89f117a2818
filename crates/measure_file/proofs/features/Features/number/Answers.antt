use Rattle.std.proofs.Common.{◌≡◌, ◌≤◌, sym, ◌∙◌, ap, arith, length, Some, Ok}
use Rattle.ctt_reader.specs.Names.{place_of}
use Rattle.measure_file.proofs.FeatureLemmas.{found, missing, number-found, number-new}
use Rattle.measure_file.proofs.features.Features.number.Goals as goal

pub returns-in-Some : goal.returns-in-Some
returns-in-Some c =
    let name = c.args.name.now in
    let same : c.self.inside.names ≡ c.args.self.now = c.self.invariant.0 ∙ c.self.view_is in
    let place : place_of name c.args.self.now ≡ Some c.in-Some.number = ap (place_of name) (sym same) ∙ sym c.find.ensures ∙ c.in-Some.is in
    let few : length c.args.self.now ≤ 100 = omega (arith, c.self.invariant.1, ap length c.self.view_is) in
    let known = number-found name c.args.self.now c.in-Some.number (found name c.args.self.now c.in-Some.number place) few in
    (known.0, sym known.1)

pub add-requires-clause-fresh : goal.add-requires-clause-fresh
add-requires-clause-fresh c =
    let name = c.args.name.now in
    let same : c.self.inside.names ≡ c.args.self.now = c.self.invariant.0 ∙ c.self.view_is in
    (missing name c.args.self.now (ap (place_of name) (sym same) ∙ sym c.find.ensures ∙ c.in_default.is)).unknown

pub returns : goal.returns
returns c =
    let name = c.args.name.now in
    let same : c.self.inside.names ≡ c.args.self.now = c.self.invariant.0 ∙ c.self.view_is in
    let count : c.len-number.result ≡ length c.args.self.now = c.len-number.ensures ∙ ap length c.self.view_is in
    let new = number-new name c.args.self.now (missing name c.args.self.now (ap (place_of name) (sym same) ∙ sym c.find.ensures ∙ c.in_default.is)) (omega (arith, count, c.if-number-ge-LIMIT.false)) in
    (new.0 ∙ ap Ok (sym count), c.in_ok-add.ensures ∙ sym new.1)
