-- Sums over the rows of runs.
use Rattle.std.proofs.Common.{ℕ, ◌≡◌, ◌+◌, ◌-◌, ◌<◌, arith, refl, ◌∙◌, ap, subst, zero, suc, List, ◌∷◌, ◌++◌, length, get_or, drop}
use Rattle.std.proofs.lemmas.List.{length-append, drop_more}
use Rattle.duality.specs.declared.row.Run.{Run}
use Rattle.duality.specs.declared.row.RowName.TheVariants.{Base}
use Rattle.duality.specs.Runs.{rows_from, rows_in, AreBelow}

pub length-from : (r n : ℕ) → length (rows_from r n) ≡ n
length-from r zero = refl
length-from r (suc n) = ap suc (length-from (r + 1) n)

-- one row of a run more
pub from_more : (r end : ℕ) → r < end → rows_from r (end - r) ≡ Base r ∷ rows_from (r + 1) (end - (r + 1))
from_more r end l = let e : end - r ≡ suc (end - (r + 1)) = omega arith in ap (rows_from r) e

abbrev pub no_run : Run
no_run = record { first = 0; count = 0 }

-- one run more
pub runs_more : (runs : List Run) (i : ℕ) → i < length runs → rows_in (drop i runs) ≡ rows_from (get_or runs i no_run).first (get_or runs i no_run).count ++ rows_in (drop (i + 1) runs)
runs_more runs i l = ap rows_in (drop_more runs i no_run l)

pub length-more : (runs : List Run) (i : ℕ) → i < length runs → length (rows_in (drop i runs)) ≡ (get_or runs i no_run).count + length (rows_in (drop (i + 1) runs))
length-more runs i l =
    let r = get_or runs i no_run in
    ap length (runs_more runs i l) ∙ length-append (rows_from r.first r.count) (rows_in (drop (i + 1) runs)) ∙ ap (λ n. n + length (rows_in (drop (i + 1) runs))) (length-from r.first r.count)

pub below_rest : (runs : List Run) (i : ℕ) → i < length runs → AreBelow 4000 (drop i runs) → AreBelow 4000 (drop (i + 1) runs)
below_rest runs i l h = (subst (AreBelow 4000) (drop_more runs i no_run l) h).1
