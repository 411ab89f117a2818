-- The first basis is one: the slacks, each at the place of its row.
use Rattle.std.proofs.Common.{ℕ, ◌≡◌, ◌+◌, ◌<◌, ◌≤◌, ◌^◌, sym, ◌∙◌, ap, subst, inl, inr, ◌⊎◌, List, [], ◌∷◌, ◌++◌, length, length-append, get_or, arith, replicate}
use Rattle.std.proofs.lemmas.List.{get_or-replicate, get_or_past, length-replicate}
use Rattle.std.proofs.Math.Decide.{ℕ_discrete}
use Rattle.exact_num.specs.Q.{ℚ}
use Rattle.exact_num.specs.Ops.{one_ℚ}
use Rattle.exact_simplex.specs.declared.progress.Task.{Task}
use Rattle.exact_simplex.specs.declared.progress.Progress.{Progress}
use Rattle.simplex_tableau.specs.declared.state.RowState.TheVariants as state
use Rattle.simplex_tableau.specs.Sparse.{at, at_place, Rises}
use Rattle.simplex_tableau.proofs.SparseLaws.{at_place-same, at_place-other}
use Rattle.simplex_tableau.specs.Dense.{num}
use Rattle.simplex_tableau.specs.Inverse.{list_at}
use Rattle.exact_simplex.specs.Build.{HasUnits}
use Rattle.exact_simplex.specs.Point.{HasSlacks}
use Rattle.exact_simplex.specs.Start.{AreSlacks, Starts, IsUnit}
use Rattle.exact_simplex.proofs.StartLaws.{start_basis, start_feasible}
use Rattle.simplex_tableau.specs.Tableau.{basis_of, inverse_of, point_of}
use Rattle.exact_simplex.specs.Progress.{size_of, column_of, side_of}
use Rattle.simplex_tableau.proofs.ListLemmas.{get_or-end, get_or-front}
use Rattle.exact_simplex.proofs.BuildLemmas.{unit_number}

pub slacks_more : (first i : ℕ) (basis : List ℕ) (v : ℕ) → v ≡ first + i → AreSlacks first i basis → AreSlacks first (i + 1) (basis ++ v ∷ [])
slacks_more first i basis v is so = record {
  one_each = let e = so.one_each in let a = length-append basis (v ∷ []) in omega arith;
  slack = λ p l.
      let go : Dec (p ≡ i) → get_or (basis ++ v ∷ []) p 0 ≡ first + p = elim [
        | yes e ↦ ap (λ q. get_or (basis ++ v ∷ []) q 0) (e ∙ sym so.one_each) ∙ get_or-end basis v 0 ∙ is ∙ ap (λ q. first + q) (sym e)
        | no ne ↦ get_or-front basis v 0 p (let e = so.one_each in omega arith) ∙ so.slack p (omega arith)
      ] in
      go (ℕ_discrete p i);
}

lt_or_le : (a b : ℕ) → (a < b) ⊎ (b ≤ a)
lt_or_le a b = search (arith)

waiting_all : (n i : ℕ) → get_or (replicate n state.Waiting) i state.Waiting ≡ state.Waiting
waiting_all n i = elim (lt_or_le i n) [
  | inl l ↦ get_or-replicate n i state.Waiting state.Waiting l
  | inr l ↦ get_or_past (replicate n state.Waiting) i state.Waiting (let e = length-replicate n state.Waiting in omega arith)
]

pub starts_from : {N : Type 0} (value : N → ℚ) (task : Task N) (p : Progress N) (one : N) → size_of task ≤ 2 ^ 32 → HasSlacks (size_of task) task.columns (column_of value task)
    → value one ≡ one_ℚ → AreSlacks task.columns (size_of task) p.tableau.basis.items → HasUnits one (size_of task) [] p.tableau.inverse.items → p.tableau.point.items ≡ task.sides.items → length p.tableau.tie.items ≡ size_of task
    → p.states.items ≡ replicate (size_of task) state.Waiting → p.pivots ≡ 0 → Starts value task p
starts_from value task p one few slacks is_one basis units point tie states none = record {
  progress = record {
    shape = record {
      few = few;
      basis_length = basis.one_each;
      inverse_length = let e = units.count_is in omega arith;
      point_length = ap length point;
      tie_length = tie;
      rises = λ k l. subst (λ xs. Rises 0 (size_of task) xs) (sym (ap (list_at p.tableau.inverse.items) (from_zero k) ∙ units.unit k (let e = units.count_is in omega arith))) (omega arith, let e = units.count_is in omega arith, tt);
    };
    states_length = ap length states ∙ length-replicate (size_of task) state.Waiting;
    within = λ q l. subst (λ b. b < task.columns + size_of task) (sym (basis.slack q l)) (omega arith);
    basis = start_basis (size_of task) task.columns (column_of value task) (side_of value task) (basis_of p.tableau) (inverse_of value p.tableau) (point_of value p.tableau) slacks unit basis.slack (λ q l. ap (λ xs. num value xs q) point);
    feasible = start_feasible (size_of task) task.columns (column_of value task) (side_of value task) (basis_of p.tableau) (inverse_of value p.tableau) (point_of value p.tableau) slacks unit basis.slack (λ q l. ap (λ xs. num value xs q) point) p.states.items (λ i l. waits i);
  };
  waiting = waits;
  none = none;
}
  where
    from_zero : (k : ℕ) → k ≡ 0 + k
    from_zero k = omega arith

    unit_at : (k q : ℕ) → k < size_of task → inverse_of value p.tableau k q ≡ at_place k one_ℚ q
    unit_at k q l = ap (λ i. inverse_of value p.tableau i q) (from_zero k) ∙ ap (λ xs. at value xs q) (units.unit k l) ∙ unit_number value one k q is_one

    unit : IsUnit (size_of task) (inverse_of value p.tableau)
    unit = record {
      same = λ k l. unit_at k k l ∙ at_place-same k one_ℚ;
      other = λ k q l h ne. unit_at k q l ∙ at_place-other k q one_ℚ ne;
    }

    waits : (i : ℕ) → get_or p.states.items i state.Waiting ≡ state.Waiting
    waits i = ap (λ xs. get_or xs i state.Waiting) states ∙ waiting_all (size_of task) i
