use Rattle.std.proofs.Common.{ℕ, ◌≡◌, ◌≢◌, ◌+◌, ◌-◌, ◌/◌, ◌<◌, sym, ap, ◌∙◌, arith, true, false, get_or, length, inl, inr}
use Rattle.std.proofs.lemmas.Int.{ints}
use Rattle.std.proofs.lemmas.Bool.{cases_order, cases_lt, cases_eq}
use Rattle.duality.specs.Sums.{row_before, same_row, no_term}
use Rattle.duality.proofs.PricedLaws.{times_of-at, times_of-none, small_at, rises_at, before-trans, before-apart, not_before, same_row-is}
use Rattle.duality.proofs.sums.times_of.Goals as goal

pub returns-then-is_same-clause-value : goal.returns-then-is_same-clause-value
returns-then-is_same-clause-value c =
    let terms = c.args.terms.now in
    let m = c.search.low + (c.search.high - c.search.low) / 2 in
    let l : m < length terms = omega arith in
    let small = small_at terms m c.requires.small l in
    let is : same_row c.args.row (get_or terms m no_term).row ≡ true = sym c.is_same.ensures ∙ c.if-is_same.true in
    let named : c.args.row ≡ (get_or terms m no_term).row = same_row-is c.args.row (get_or terms m no_term).row is in
    let others : (i : ℕ) → i < length terms → i ≢ m → same_row c.args.row (get_or terms i no_term).row ≡ false = λ i k ne.
    ap (λ r. same_row r (get_or terms i no_term).row) named
    ∙ elim (cases_order i m) [
      | inl same ↦ absurd (ne same)
      | inr apart ↦ elim apart [
        | inl before ↦ (before-apart (get_or terms i no_term).row (get_or terms m no_term).row (rises_at terms i m c.requires.rising before l)).1
        | inr after ↦ (before-apart (get_or terms m no_term).row (get_or terms i no_term).row (rises_at terms m i c.requires.rising after k)).0
      ]
    ] in
    omega (arith, ints, small.low, small.high, times_of-at terms c.args.row m l is others)

pub search-preserved-then-is_before : goal.search-preserved-then-is_before
search-preserved-then-is_before c =
    let terms = c.args.terms.now in
    let m = c.search.low + (c.search.high - c.search.low) / 2 in
    let l : m < length terms = omega arith in
    let here : row_before (get_or terms m no_term).row c.args.row ≡ true = sym c.is_before.ensures ∙ c.if-is_before.true in
    record {
      ordered = omega arith;
      within = omega arith;
      below = λ i k. elim (cases_eq i m) [
        | inl same ↦ ap (λ j. row_before (get_or terms j no_term).row c.args.row) same ∙ here
        | inr ne ↦ before-trans (get_or terms i no_term).row (get_or terms m no_term).row c.args.row (rises_at terms i m c.requires.rising (omega arith) l) here
      ];
      above = c.search.invariant.above;
    }

pub search-preserved : goal.search-preserved
search-preserved c =
    let terms = c.args.terms.now in
    let m = c.search.low + (c.search.high - c.search.low) / 2 in
    let l : m < length terms = omega arith in
    let here : row_before c.args.row (get_or terms m no_term).row ≡ true = not_before c.args.row (get_or terms m no_term).row (sym c.is_same.ensures ∙ c.if-is_same.false) (sym c.is_before.ensures ∙ c.if-is_before.false) in
    record {
      ordered = omega arith;
      within = omega arith;
      below = c.search.invariant.below;
      above = λ i h k. elim (cases_eq i m) [
        | inl same ↦ ap (λ j. row_before c.args.row (get_or terms j no_term).row) same ∙ here
        | inr ne ↦ before-trans c.args.row (get_or terms m no_term).row (get_or terms i no_term).row here (rises_at terms m i c.requires.rising (omega arith) k)
      ];
    }

pub returns-clause-value : goal.returns-clause-value
returns-clause-value c =
    let terms = c.args.terms.now in
    sym (times_of-none terms c.args.row (λ i l. elim (cases_lt i c.search.low) [
      | inl before ↦ (before-apart (get_or terms i no_term).row c.args.row (c.search.invariant.below i before)).1
      | inr after ↦ (before-apart c.args.row (get_or terms i no_term).row (c.search.invariant.above i (omega arith) l)).0
    ]))
