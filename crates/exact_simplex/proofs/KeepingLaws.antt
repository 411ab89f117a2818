-- Laws of specs/Keeping.
use Rattle.std.proofs.Common.{ℕ, ◌≡◌, ◌+◌, ◌<◌, ◌≤◌, sym, ◌∙◌, ap, subst, arith, List, length, get_or, Bool, true, false, Option, Some, None}
use Rattle.exact_num.specs.Q.{ℚ}
use Rattle.exact_num.specs.Ops.{zero_ℚ, one_ℚ, neg_ℚ, ◌+ℚ◌, +ℚ-neg, +ℚ_cancel}
use Rattle.simplex_tableau.specs.Dense.{num}
use Rattle.simplex_tableau.specs.Pivot.{dot}
use Rattle.simplex_tableau.specs.declared.state.RowState.{RowState}
use Rattle.exact_simplex.specs.declared.drive.Driven.{Driven}
use Rattle.exact_simplex.specs.declared.drive.Driven.TheVariants as driven
use Rattle.exact_simplex.specs.declared.progress.Task.{Task}
use Rattle.exact_simplex.specs.declared.progress.Progress.{Progress}
use Rattle.exact_simplex.specs.declared.task.Lp.{Lp}
use Rattle.exact_simplex.specs.Answer.{AnswersBest, Concludes, ConcludesAfter}
use Rattle.exact_simplex.specs.declared.task.LpAnswer.{LpAnswer}
use Rattle.exact_simplex.specs.declared.task.LpAnswer.TheVariants as answer
use Rattle.exact_simplex.specs.Task.{pivot_limit}
use Rattle.exact_simplex.specs.Drive.{Keeps, IsThere, StepsTo}
use Rattle.exact_simplex.specs.Enter.{Accepts, Chooses, MayHelp}
use Rattle.exact_simplex.specs.Keeping.{IsDual, DrivesKept, StepsKept, kept_of}
use Rattle.exact_simplex.specs.Progress.{size_of, IsProgress}
use Rattle.exact_simplex.proofs.ForceLemmas.{point_is}

-- what was accepted, in the words of the caller
pub accepted_helps : {N : Type 0} (value : N → ℚ) (task : Task N) (states states' : List RowState) (y : List N) (up : Bool) (o : Option ℕ) (v : ℕ) → o ≡ Some v → states' ≡ states → Accepts value task states' y up o → MayHelp value task states y up v
accepted_helps value task states states' y up o v is same accepted = subst (λ s. MayHelp value task s y up v) same (subst (λ q. Accepts value task states' y up q) is accepted).1

pub accepted_below : {N : Type 0} (value : N → ℚ) (task : Task N) (states' : List RowState) (y : List N) (up : Bool) (o : Option ℕ) (v : ℕ) → o ≡ Some v → Accepts value task states' y up o → v < length task.lists.items
accepted_below value task states' y up o v is accepted = (subst (λ q. Accepts value task states' y up q) is accepted).0

pub chosen_helps : {N : Type 0} (value : N → ℚ) (task : Task N) (states states' : List RowState) (y : List N) (up : Bool) (o : Option ℕ) (v : ℕ) → o ≡ Some v → states' ≡ states → Chooses value task states' y up o → MayHelp value task states y up v
chosen_helps value task states states' y up o v is same chosen = subst (λ s. MayHelp value task s y up v) same (subst (λ q. Chooses value task states' y up q) is chosen).1

pub steps_kept : {N : Type 0} (value : N → ℚ) (task : Task N) (row : ℕ) (up : Bool) (limit : ℕ) (old new : Progress N) (y : List N) (steps steps' : ℕ) (o : Option (Driven N)) → StepsTo value task row up limit old new y steps steps' o → StepsKept value task row limit old new y steps steps' (kept_of o)
steps_kept value task row up limit old new y steps steps' None h = h
steps_kept value task row up limit old new y steps steps' (Some driven.Left) h = h
steps_kept value task row up limit old new y steps steps' (Some driven.Stuck) h = (h.0, h.1.0)
steps_kept value task row up limit old new y steps steps' (Some (driven.Unbounded _ _)) h = (h.0, h.1.0)
steps_kept value task row up limit old new y steps steps' (Some driven.Stalled) h = (h.0, h.1.0)

keeps_on : {N : Type 0} (value : N → ℚ) (task : Task N) (limit : ℕ) (a b c : Progress N) (steps mid steps' : ℕ) → Keeps value task limit a b steps mid → Keeps value task limit b c mid steps' → Keeps value task limit a c steps steps'
keeps_on value task limit a b c steps mid steps' keeps on = record {
  progress = on.progress;
  states = on.states ∙ keeps.states;
  counted = let x = keeps.counted in let y = on.counted in omega arith;
  within = on.within;
}

pub drives_on : {N : Type 0} (value : N → ℚ) (task : Task N) (row limit : ℕ) (a b c : Progress N) (steps mid steps' : ℕ) (y₀ y : List N) (left : Bool) → Keeps value task limit a b steps mid → IsThere value task row a b y₀
    → DrivesKept value task row limit b c y mid steps' left → DrivesKept value task row limit a c y steps steps' left
drives_on value task row limit a b c steps mid steps' y₀ y true keeps there h = (keeps_on value task limit a b c steps mid steps' keeps h.0, h.1)
drives_on value task row limit a b c steps mid steps' y₀ y false keeps there h = (keeps_on value task limit a b c steps mid steps' keeps h.0, record { same = h.1.same ∙ there.same; is_row = h.1.is_row })

same_by_difference : (a b : ℚ) → a +ℚ neg_ℚ b ≡ zero_ℚ → a ≡ b
same_by_difference a b h = +ℚ_cancel a b (neg_ℚ b) (h ∙ sym (+ℚ-neg b))

pub dual_is : {N : Type 0} (value : N → ℚ) (task : Task N) (p : Progress N) (gain : ℕ) (y sides : List N) (x : N) (given rest : ℚ) → IsProgress value task p → gain < size_of task → length y ≡ size_of task → num value y gain ≡ one_ℚ
    → sides ≡ task.sides.items → given ≡ dot (num value y) (num value sides) (length y) → x ≡ get_or p.tableau.point.items gain x → rest ≡ given +ℚ neg_ℚ (value x) → rest ≡ zero_ℚ → IsDual value task p gain y
dual_is value task p gain y sides x given rest is l one_each own sides_are given_is here rest_is none = record {
  one_each = one_each;
  own = own;
  total = sym (given_is ∙ ap (λ xs. dot (num value y) (num value xs) (length y)) sides_are ∙ ap (λ n. dot (num value y) (num value task.sides.items) n) one_each)
      ∙ same_by_difference given (value x) (sym rest_is ∙ none) ∙ sym (point_is value task gain p x is l here);
}

-- the rest of a call after a drive
pub concludes_on : {N : Type 0} (value : N → ℚ) (lp : Lp) (task : Task N) (limit : ℕ) (old new : Progress N) (steps mid steps' : ℕ) (a : LpAnswer) → Keeps value task limit old new steps mid → ConcludesAfter lp new.pivots mid steps' a → ConcludesAfter lp old.pivots steps steps' a
concludes_on value lp task limit old new steps mid steps' a keeps after = λ before e. after before (let c = keeps.counted in omega arith)

pub concludes_best : {N : Type 0} (value : N → ℚ) (lp : Lp) (task : Task N) (limit : ℕ) (old new : Progress N) (steps steps' : ℕ) (a : LpAnswer) → limit ≡ pivot_limit lp → Keeps value task limit old new steps steps' → AnswersBest lp a → ConcludesAfter lp old.pivots steps steps' a
concludes_best value lp task limit old new steps steps' (answer.Best x xden y yden) limit_is keeps is = λ before e. (is, let c = keeps.counted in let w = keeps.within in omega arith)
concludes_best value lp task limit old new steps steps' answer.Wide limit_is keeps is = absurd is
concludes_best value lp task limit old new steps steps' (answer.Empty _) limit_is keeps is = absurd is
concludes_best value lp task limit old new steps steps' (answer.Ray _) limit_is keeps is = absurd is
concludes_best value lp task limit old new steps steps' (answer.Stalled _) limit_is keeps is = absurd is
