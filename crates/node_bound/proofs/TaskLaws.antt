-- The task of a node from its parts.
use Rattle.std.proofs.Common.{ℕ, ◌≡◌, ◌<◌, ◌≤◌, arith, refl, sym, ◌∙◌, ap, subst, zero, suc, Bool, true, false, List, [], ◌∷◌, ◌++◌, length, take, drop}
use Rattle.std.specs.Prelude.{ℤ, ◌^◌, map}
use Rattle.std.proofs.lemmas.List.{length-map, drop_all, append-nil}
use Rattle.duality.specs.declared.row.RowName.{RowName}
use Rattle.duality.specs.Packing.{Packing, Weights, Stage, Fixing}
use Rattle.duality.specs.Sums.{AreRowsOf}
use Rattle.exact_simplex.specs.declared.task.LpRow.{LpRow}
use Rattle.exact_simplex.specs.Task.{IsTask}
use Rattle.packing_model.specs.Nodes.{stage_of}
use Rattle.node_bound.specs.Tasks.{AreColumns, IsNodeTask}
use Rattle.node_bound.specs.Places.{IsLayout, AreOf, names_in, row_count}
use Rattle.node_bound.specs.Entries.{AreInRange, AreTaskRows}
use Rattle.node_bound.specs.declared.places.Places.{Places}
use Rattle.node_bound.proofs.PlaceLaws.{names_are, length-names}

-- the rows of a pattern do not depend on the level
pub rows_at_stage : (k : Packing) (s : Stage) (rows : List RowName) (p : ℕ) → AreRowsOf k (stage_of s.cuts) rows p → AreRowsOf k s rows p
rows_at_stage k s rows p h = record { differ = h.differ; base = h.base; cut = h.cut; level = h.level }

-- a list that was written back in place of one of its length
take_whole : {A : Type 0} (ys : List A) (n : ℕ) → length ys ≤ n → take n ys ≡ ys
take_whole [] zero l = refl
take_whole [] (suc n) l = refl
take_whole (y ∷ ys) zero l = absurd (omega (arith, l))
take_whole (y ∷ ys) (suc n) l = ap (λ zs. y ∷ zs) (take_whole ys n (omega (arith, l)))

pub written_back : {A : Type 0} (xs ys : List A) (n : ℕ) → length ys ≡ length xs → length xs ≤ n → take n (ys ++ drop (length ys) xs) ≡ ys
written_back xs ys n same l =
    ap (λ zs. take n (ys ++ zs)) (drop_all (length ys) xs (omega (arith, same))) ∙ ap (take n) (append-nil ys) ∙ take_whole ys n (omega (arith, same, l))

pub is_node_task : (k : Packing) (w : Weights) (s : Stage) (f : Fixing) (v : Places) (n : ℕ) (columns : List ℕ) (names : List RowName) (rows : List LpRow) (gain : List ℤ) → AreOf k w s v → n ≡ length columns → AreColumns k f columns → names ≡ names_in v
    → AreTaskRows k w s f names columns rows → gain ≡ map (w.weight s.level) columns
    → IsNodeTask k w s f (record { columns = columns; names = names; lead = v.lead; low = v.low; lp = record { columns = n; rows = rows; gain = gain } })
is_node_task k w s f v n columns names rows gain are count cols is_names is_rows is_gain = record {
  columns = cols;
  lead = omega (arith, are.layout.lead, are.base);
  low = omega (arith, are.layout.low, are.level);
  names = is_names ∙ names_are k w s v are;
  row_count = is_rows.one_each;
  column_count = count;
  gain = is_gain;
  kinds = is_rows.kinds;
  sides = is_rows.sides;
  cells = is_rows.numbers;
}

few_rows : (v : Places) → IsLayout v → row_count v < 2 ^ 32
few_rows v layout = few v layout v.has_floor refl
  where
    few : (v : Places) (layout : IsLayout v) (b : Bool) → v.has_floor ≡ b → row_count v < 2 ^ 32
    few v layout true e = rw e (omega (arith, layout.few_base, layout.few_cuts, layout.few_levels))
    few v layout false e = rw e (omega (arith, layout.few_base, layout.few_cuts, layout.few_levels))

pub is_task : (k : Packing) (w : Weights) (s : Stage) (f : Fixing) (v : Places) (n : ℕ) (columns : List ℕ) (names : List RowName) (rows : List LpRow) (gain : List ℤ) → AreOf k w s v → n ≡ length columns → names ≡ names_in v
    → AreTaskRows k w s f names columns rows → gain ≡ map (w.weight s.level) columns
    → IsTask (record { columns = n; rows = rows; gain = gain })
is_task k w s f v n columns names rows gain are count is_names is_rows is_gain = record {
  in_range = subst (λ m. AreInRange m rows) (sym count) is_rows.below;
  one_gain_each = ap length is_gain ∙ length-map columns (w.weight s.level) ∙ sym count;
  few = let a = is_rows.one_each in let b = ap length is_names in let r = length-names v are.layout in let l = few_rows v are.layout in omega (arith, a, b, r, l);
}
