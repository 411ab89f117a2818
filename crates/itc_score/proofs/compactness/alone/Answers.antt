use Rattle.std.proofs.Common.{ℕ, ◌≡◌, ◌+◌, List, arith, sym, ◌∙◌, ap, ap₂}
use Rattle.std.specs.Prelude.{◌==◌}
use Rattle.std.specs.List.{list_any}
use Rattle.std.proofs.lemmas.List.Sums.{sum_by_more}
use Rattle.ctt_reader.specs.declared.instance.Curriculum.{Curriculum}
use Rattle.itc_score.specs.Score.{is_member}
use Rattle.itc_score.specs.Places.{held_at, alone_among}
use Rattle.itc_score.proofs.compactness.alone.Goals as goal

pub loop-curriculum-preserved : goal.loop-curriculum-preserved
loop-curriculum-preserved c =
    let qs = c.args.curricula.now in
    let k = c.loop-curriculum.curriculum-index in
    let q = c.curriculum-item.result in
    let value : Curriculum → ℕ = λ x. alone_among (held_at (is_member x) c.args.held.now c.args.courses) in
    let here : c.in_ok-total.field-0 ≡ value q =
    c.in_ok-total.ensures.value ∙ ap (λ (ms : List ℕ). alone_among (held_at (λ x. list_any (λ m. m == x) ms) c.args.held.now c.args.courses)) c.as_slice.ensures in
    record {
      value = ap₂ (λ a b. a + b) c.loop-curriculum.invariant.value (here ∙ ap value c.curriculum-item.is) ∙ sym (sum_by_more value qs k q c.loop-curriculum-test.true);
      small = omega (arith, c.loop-curriculum.invariant.small, c.in_ok-total.ensures.small);
    }
