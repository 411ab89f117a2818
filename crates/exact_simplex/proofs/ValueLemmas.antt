-- The values of the columns are gathered place by place.
use Rattle.std.proofs.Common.{ℕ, ◌≡◌, ◌+◌, ◌<◌, ◌≤◌, sym, ◌∙◌, ap, ap₂, List, length, get_or, set, arith, replicate}
use Rattle.std.proofs.lemmas.List.{get_or-replicate, length-replicate}
use Rattle.std.proofs.Math.Decide.{ℕ_discrete}
use Rattle.exact_num.specs.Q.{ℚ}
use Rattle.exact_num.specs.Ops.{zero_ℚ, ◌+ℚ◌, +ℚ-zero}
use Rattle.exact_num.specs.Sums.{sum_ℚ-more}
use Rattle.simplex_tableau.specs.Sparse.{at_place}
use Rattle.simplex_tableau.proofs.SparseLaws.{at_place-same, at_place-other}
use Rattle.simplex_tableau.specs.Dense.{num}
use Rattle.simplex_tableau.proofs.DenseLaws.{num-get, num-set_same, num-set_other}
use Rattle.exact_simplex.specs.Values.{AddsValue, AreValuesTo}

-- a number added where its variable is a column
pub adds_value : {N : Type 0} (value : N → ℚ) (old : List N) (variable : ℕ) (x was sum : N) → variable < length old → was ≡ get_or old variable was → value sum ≡ value was +ℚ value x → AddsValue value old variable (value x) (set old variable sum)
adds_value value old variable x was sum l here plus = record {
  sums = λ v j.
      let go : Dec (v ≡ variable) → num value (set old variable sum) v ≡ num value old v +ℚ at_place variable (value x) v = elim [
        | yes e ↦
            ap (num value (set old variable sum)) e ∙ num-set_same value old variable sum l ∙ plus
            ∙ sym (ap₂ (λ a b. a +ℚ b) (ap (num value old) e ∙ num-get value old variable was l here) (ap (at_place variable (value x)) e ∙ at_place-same variable (value x)))
        | no ne ↦ num-set_other value old variable v sum ne ∙ sym (ap (λ b. num value old v +ℚ b) (at_place-other variable v (value x) (λ s. ne (sym s))) ∙ +ℚ-zero (num value old v))
      ] in
      go (ℕ_discrete v variable);
}

-- or left out where it is none
pub adds_nothing : {N : Type 0} (value : N → ℚ) (old : List N) (variable : ℕ) (x : ℚ) → length old ≤ variable → AddsValue value old variable x old
adds_nothing value old variable x l = record {
  sums = λ v j. sym (ap (λ b. num value old v +ℚ b) (at_place-other variable v x (λ s. absurd (omega arith))) ∙ +ℚ-zero (num value old v));
}

pub values_none : {N : Type 0} (value : N → ℚ) (columns : ℕ) (variables : List ℕ) (numbers values : List N) (zero : N) → value zero ≡ zero_ℚ → values ≡ replicate columns zero → AreValuesTo value columns variables numbers 0 values
values_none value columns variables numbers values zero is_zero all = record {
  one_each = ap length all ∙ length-replicate columns zero;
  same = λ v l. ap (λ xs. num value xs v) all ∙ num-get value (replicate columns zero) v zero (let e = length-replicate columns zero in omega arith) (sym (get_or-replicate columns v zero zero l)) ∙ is_zero;
}

pub values_more : {N : Type 0} (value : N → ℚ) (columns : ℕ) (variables : List ℕ) (numbers mid new : List N) (p variable : ℕ) (x : N) → p < length variables → p < length numbers → variable ≡ get_or variables p 0 → x ≡ get_or numbers p x
    → length new ≡ length mid → AddsValue value mid variable (value x) new → AreValuesTo value columns variables numbers p mid → AreValuesTo value columns variables numbers (p + 1) new
values_more value columns variables numbers mid new p variable x l k var_is x_is same_length added so = record {
  one_each = same_length ∙ so.one_each;
  same = λ v j.
      added.sums v (let e = so.one_each in omega arith) ∙ ap (λ a. a +ℚ at_place variable (value x) v) (so.same v j)
      ∙ sym (sum_ℚ-more (λ q. at_place (get_or variables q 0) (num value numbers q) v) p (at_place variable (value x) v)
      (ap₂ (λ a b. at_place a b v) var_is (sym (num-get value numbers p x k x_is))));
}
