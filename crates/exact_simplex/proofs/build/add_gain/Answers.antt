use Rattle.std.proofs.Common.{rules, refl, ◌∙◌, sym, ap, subst, get_or, set, SFits, to_z-of_z, ◌≡◌, [], neg_ℤ, ◌+ℤ◌, pos}
use Rattle.std.specs.Int.{w64, w128}
use Rattle.std.proofs.Math.IntN.{+ℤ_idl}
use Rattle.exact_num.specs.Ops.{neg_ℚ}
use Rattle.exact_num.specs.Whole.{int_ℚ, int_ℚ-neg}
use Rattle.simplex_tableau.proofs.InverseLaws.{get_or-any}
use Rattle.exact_simplex.specs.Build.{AddsEntry}
use Rattle.exact_simplex.proofs.BuildLaws.{adds_entry}
use Rattle.exact_simplex.proofs.build.add_gain.Goals as goal

pub returns : goal.returns
returns g c =
    let value = g.A.Num.Fraction.value in
    let xs = c.args.lists.now in
    let column = c.args.column in
    let fits : SFits w128 c.from.result = search rules in
    let short : SFits w64 c.args.gain.now = search rules in
    let back : SFits w128 (pos 0 +ℤ neg_ℤ c.from.result) = search rules in
    let h = c.in_ok-number.ensures.value in
    let k = c.from.ensures in
    let number : value c.in_ok-number.number ≡ int_ℚ (pos 0 +ℤ neg_ℤ c.from.result) = simp to_z-of_z at h in
    let same : c.from.result ≡ c.args.gain.now = simp to_z-of_z at k in (
      c.in_ok-number.ensures.kept,
      subst (λ l. AddsEntry value xs column c.args.place (neg_ℚ (int_ℚ c.args.gain.now)) (set xs column l)) (sym c.in_ok-push.ensures.ok)
          (adds_entry value xs column c.args.place (neg_ℚ (int_ℚ c.args.gain.now)) (get_or xs column c.index-lists-column.result) (record { place = c.args.place; number = c.in_ok-number.number }) c.requires refl
          (number ∙ ap int_ℚ (+ℤ_idl (neg_ℤ c.from.result)) ∙ int_ℚ-neg c.from.result ∙ ap (λ z. neg_ℚ (int_ℚ z)) same)
          (get_or-any xs column [] c.index-lists-column.result c.requires)),
    )
