-- Laws of specs/Start.
use Rattle.std.proofs.Common.{ℕ, ◌≡◌, ◌≢◌, ◌+◌, ◌<◌, sym, ◌∙◌, ap, ap₂, subst, List, get_or}
use Rattle.exact_num.specs.Q.{ℚ}
use Rattle.exact_num.specs.Ops.{zero_ℚ, one_ℚ, ◌*ℚ◌, *ℚ-one, *ℚ-zero, zero-*ℚ}
use Rattle.exact_num.specs.Sums.{sum_ℚ-one}
use Rattle.simplex_tableau.specs.Basis.{IsBasis}
use Rattle.exact_simplex.specs.Point.{HasSlacks}
use Rattle.simplex_tableau.specs.States.{Okay, state_of}
use Rattle.simplex_tableau.specs.Simplex.{IsFeasible}
use Rattle.simplex_tableau.proofs.SimplexLaws.{state_of-slack}
use Rattle.simplex_tableau.specs.declared.state.RowState.{RowState}
use Rattle.simplex_tableau.specs.declared.state.RowState.TheVariants as state
use Rattle.exact_simplex.specs.Start.{IsUnit}

module _ (size n : ℕ) (column : ℕ → ℕ → ℚ) (side : ℕ → ℚ) (basis : ℕ → ℕ) (inv : ℕ → ℕ → ℚ) (x : ℕ → ℚ)
    (slacks : HasSlacks size n column) (unit : IsUnit size inv) (at_own_place : (p : ℕ) → p < size → basis p ≡ n + p) (values : (p : ℕ) → p < size → x p ≡ side p) where
  there : (p k : ℕ) → p < size → k < size → p ≢ k → column (basis p) k ≡ zero_ℚ
  there p k l j s = ap (λ v. column v k) (at_own_place p l) ∙ slacks.other p k l j s

  here : (p : ℕ) → p < size → column (basis p) p ≡ one_ℚ
  here p l = ap (λ v. column v p) (at_own_place p l) ∙ slacks.same p l

  pub start_basis : IsBasis size column side basis inv x
  start_basis = record {
    right = record {
      same = λ k l. sum_ℚ-one (λ p. inv k p *ℚ column (basis p) k) k size l (λ p j s. ap (λ u. inv k p *ℚ u) (there p k j l s) ∙ *ℚ-zero (inv k p)) ∙ ap₂ (λ a b. a *ℚ b) (unit.same k l) (here k l) ∙ *ℚ-one one_ℚ;
      other = λ k i l j s. sum_ℚ-one (λ p. inv k p *ℚ column (basis p) i) k size l (λ p h u. ap (λ a. a *ℚ column (basis p) i) (unit.other k p l h (λ e. u (sym e))) ∙ zero-*ℚ (column (basis p) i)) ∙ ap (λ u. inv k k *ℚ u) (there k i l j s) ∙ *ℚ-zero (inv k k);
    };
    left = record {
      same = λ p l. sum_ℚ-one (λ k. inv k p *ℚ column (basis p) k) p size l (λ k j s. ap (λ u. inv k p *ℚ u) (there p k l j (λ e. s (sym e))) ∙ *ℚ-zero (inv k p)) ∙ ap₂ (λ a b. a *ℚ b) (unit.same p l) (here p l) ∙ *ℚ-one one_ℚ;
      other = λ p q l j s. sum_ℚ-one (λ k. inv k p *ℚ column (basis q) k) p size l (λ k h u. ap (λ a. a *ℚ column (basis q) k) (unit.other k p h l u) ∙ zero-*ℚ (column (basis q) k)) ∙ ap (λ u. inv p p *ℚ u) (there q p j l (λ e. s (sym e))) ∙ *ℚ-zero (inv p p);
    };
    point = λ k l. sum_ℚ-one (λ p. x p *ℚ column (basis p) k) k size l (λ p j s. ap (λ u. x p *ℚ u) (there p k j l s) ∙ *ℚ-zero (x p)) ∙ ap₂ (λ a b. a *ℚ b) (values k l) (here k l) ∙ *ℚ-one (side k);
  }

  pub start_feasible : (states : List RowState) → ((i : ℕ) → i < size → get_or states i state.Waiting ≡ state.Waiting) → IsFeasible size n states basis x
  start_feasible states wait = record {
    okay = λ p l. subst (λ s. Okay s (x p)) (sym (ap (state_of n states) (at_own_place p l) ∙ state_of-slack n states p ∙ wait p l)) tt;
    own_place = λ i l _. at_own_place i l;
  }
