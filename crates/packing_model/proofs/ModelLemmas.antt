-- What is built is a model.
use Rattle.std.proofs.Common.{ℕ, ◌≡◌, ◌+◌, ◌<◌, ◌≤◌, true, arith, refl, sym, ◌∙◌, subst, List, length}
use Rattle.std.specs.Prelude.{ℤ, nat_lt, Some, None}
use Rattle.std.proofs.lemmas.Bool.{le-ltb, cond-false}
use Rattle.problem_core.specs.Facts.{Facts}
use Rattle.problem_core.specs.Valid.{IsProblem}
use Rattle.problem_core.specs.declared.limit.LimitKind.TheVariants.{Patterns, Rows}
use Rattle.numbers.specs.Sums.{member}
use Rattle.meeting_patterns.specs.Pattern.{ArePatterns, patterns_of, pattern_at}
use Rattle.meeting_patterns.specs.declared.pattern.Pattern.{Pattern}
use Rattle.duality.specs.declared.row.Run.{Run}
use Rattle.packing_model.specs.declared.row.Row.{Row}
use Rattle.packing_model.specs.Rows.{base_rows}
use Rattle.packing_model.specs.Built.{packing, rows_of, model_limit, AreBaseRowsOf, AreBaseRunsOf}
use Rattle.packing_model.specs.Keys.{key_end, makes_row, AreNumbers, AreRuns, AreWeights, IsModel, rows_of_keys, runs_of}
use Rattle.packing_model.specs.Runs.{no_run}
use Rattle.packing_model.proofs.PlaceLemmas.{rows_are, rows_known, runs_placed}
use Rattle.packing_model.proofs.RunLemmas.{merged_rows, merged_below}

no_limit : (p : Facts) → length (patterns_of p) ≤ 200000 → length (rows_of p) ≤ 4000 → model_limit p ≡ None
no_limit p few short =
    cond-false (nat_lt 200000 (length (patterns_of p))) (Some (record { kind = Patterns; count = length (patterns_of p); limit = 200000 })) _ (le-ltb 200000 (length (patterns_of p)) few)
    ∙ cond-false (nat_lt 4000 (length (rows_of p))) (Some (record { kind = Rows; count = length (rows_of p); limit = 4000 })) None (le-ltb 4000 (length (rows_of p)) short)

-- the parts of a model, over a list of patterns
pub record AreParts (p : Facts) (s : List Pattern) (rows : List Row) (numbers : List ℕ) (table : List (List ℤ)) (runs : List Run) (starts : List ℕ) : Type 0 where
  pub few : length s ≤ 200000
  pub listed : ArePatterns p s
  pub rows_are : rows ≡ base_rows p s
  pub numbered : AreNumbers (makes_row p s) (key_end p) numbers
  pub short : length (base_rows p s) ≤ 4000
  pub weights_are : AreWeights p s (length s) table
  pub placed : AreRuns p numbers s (length s) (length s + 1) runs starts

runs_are : (p : Facts) → IsProblem p → (rows : List Row) (numbers : List ℕ) (table : List (List ℤ)) (runs : List Run) (starts : List ℕ) (i : ℕ) → AreParts p (patterns_of p) rows numbers table runs starts → i < length (patterns_of p)
    → AreBaseRunsOf (packing p) (runs_of p numbers (pattern_at (patterns_of p) i)) i
runs_are p is rows numbers table runs starts i parts l =
    let s = patterns_of p in
    let own = rows_of_keys p numbers (pattern_at s i) in
    let known : (r : ℕ) → member r own ≡ true → r < length (base_rows p s) = λ r h. rows_known p is s numbers i r parts.listed parts.numbered l h in
    record {
      rows = subst (λ xs. AreBaseRowsOf (packing p) xs i) (sym (merged_rows no_run own)) (rows_are p is s numbers i parts.listed parts.numbered parts.short l);
      known = merged_below (length (base_rows p s)) no_run own (omega arith) known;
      low = merged_below 4000 no_run own (omega arith) (λ r h. omega (arith, known r h, parts.short));
    }

model_of : (p : Facts) → IsProblem p → (rows : List Row) (numbers : List ℕ) (table : List (List ℤ)) (runs : List Run) (starts : List ℕ) → AreParts p (patterns_of p) rows numbers table runs starts → IsModel p (patterns_of p) rows table runs starts
model_of p is rows numbers table runs starts parts = record {
  patterns_are = refl;
  rows_are = parts.rows_are;
  limit = no_limit p parts.few parts.short;
  weights_are = parts.weights_are;
  all_starts = parts.placed.whole;
  runs_are = λ i l.
      let placed = runs_placed p numbers (patterns_of p) (length (patterns_of p)) runs starts i parts.placed l in
      record {
        order = placed.order;
        inside = placed.within;
        are = subst (λ own. AreBaseRunsOf (packing p) own i) (sym placed.part) (runs_are p is rows numbers table runs starts i parts l);
      };
}

pub model_is : (p : Facts) → IsProblem p → (s : List Pattern) (rows : List Row) (numbers : List ℕ) (table : List (List ℤ)) (runs : List Run) (starts : List ℕ) → s ≡ patterns_of p → AreParts p s rows numbers table runs starts → IsModel p s rows table runs starts
model_is p is s rows numbers table runs starts same =
    subst (λ x. AreParts p x rows numbers table runs starts → IsModel p x rows table runs starts) (sym same) (model_of p is rows numbers table runs starts)
