-- How the counts, numbers and rows by key grow, and what they are in the end.
use Rattle.std.proofs.Common.{ℕ, ◌≡◌, ◌+◌, ◌<◌, ◌≤◌, inl, inr, Bool, arith, ap, ap₂, sym, ◌∙◌, cond, List, [], ◌∷◌, ◌++◌, length, map}
use Rattle.std.specs.Prelude.{nat_le, slice_index}
use Rattle.std.proofs.lemmas.List.{length_push, get_or_append_left, get_or_push, get_or_past, length-map, map_push}
use Rattle.std.proofs.lemmas.Bool.{cases_eq, cases_lt, cases_Bool, cond-true, cond-false}
use Rattle.numbers.specs.Sums.{member}
use Rattle.problem_core.specs.Facts.{Facts}
use Rattle.problem_core.specs.Courses.{passing}
use Rattle.problem_core.specs.Passing.{passing-hit, passing-miss, passing-few, passing-same}
use Rattle.problem_core.specs.Valid.{IsProblem}
use Rattle.meeting_patterns.specs.Pattern.{ArePatterns, pattern_at}
use Rattle.meeting_patterns.specs.declared.pattern.Pattern.{Pattern}
use Rattle.packing_model.specs.declared.row.Row.{Row}
use Rattle.packing_model.specs.Rows.{base_rows}
use Rattle.packing_model.specs.Keys.{key_end, row_of, needed, keys_of, having, makes_row, counts_row, number_of, AreCounts, AreNumbers}
use Rattle.packing_model.proofs.BaseLemmas.{rows_listed}

-- ---- counts

pub few_counted : (p : Facts) (s : List Pattern) (n : ℕ) (counts : List ℕ) → AreCounts p s n counts → n ≤ 200000 → (k : ℕ) → slice_index counts k ≤ 200000
few_counted p s n counts are l k = elim (cases_lt k (key_end p)) [
  | inl less ↦ omega (arith, are.each k less, passing-few (λ i. member k (keys_of p (pattern_at s i))) n, l)
  | inr more ↦ let none : slice_index counts k ≡ 0 = get_or_past counts k 0 (omega (arith, are.whole, more)) in omega (arith, none)
]

-- one pattern more
pub having_step : (p : Facts) (s : List Pattern) (i k n m : ℕ) (keys : List ℕ) → keys ≡ keys_of p (pattern_at s i) → n ≡ having p s i k → m ≡ cond (member k keys) (n + 1) n → m ≡ having p s (i + 1) k
having_step p s i k n m keys same before h =
    let test = λ (j : ℕ). member k (keys_of p (pattern_at s j)) in
    let here : member k keys ≡ test i = ap (member k) same in
    elim (cases_Bool (test i)) [
      | inl hit ↦
          let more : having p s (i + 1) k ≡ having p s i k + 1 = ap length (passing-hit test i hit) ∙ length_push (passing test i) i in
          h ∙ cond-true (member k keys) (n + 1) n (here ∙ hit) ∙ ap (λ x. x + 1) before ∙ sym more
      | inr miss ↦ h ∙ cond-false (member k keys) (n + 1) n (here ∙ miss) ∙ before ∙ sym (ap length (passing-miss test i miss))
    ]

-- ---- numbers and rows

pub numbers_step : (test : ℕ → Bool) (n v : ℕ) (numbers next : List ℕ) → AreNumbers test n numbers → next ≡ numbers ++ v ∷ [] → v ≡ number_of test n → AreNumbers test (n + 1) next
numbers_step test n v numbers next are e is = record {
  whole = ap length e ∙ length_push numbers v ∙ ap (λ m. m + 1) are.whole;
  each = λ k l. elim (cases_eq k n) [
    | inl last ↦ ap (λ xs. slice_index xs k) e ∙ get_or_push numbers v 0 k (are.whole ∙ sym last) ∙ is ∙ ap (number_of test) (sym last)
    | inr before ↦
        let less : k < n = omega arith in
        ap (λ xs. slice_index xs k) e ∙ get_or_append_left numbers (v ∷ []) 0 k (omega (arith, are.whole, less)) ∙ are.each k less
  ];
}

pub number_is : (test : ℕ → Bool) (f : ℕ → Row) (n v : ℕ) (rows : List Row) → rows ≡ map f (passing test n) → v ≡ cond (test n) (length rows + 1) 0 → v ≡ number_of test n
number_is test f n v rows listed e = e ∙ ap (λ m. cond (test n) (m + 1) 0) (ap length listed ∙ length-map (passing test n) f)

pub rows_step : (test : ℕ → Bool) (f : ℕ → Row) (n : ℕ) (rows next : List Row) → rows ≡ map f (passing test n) → next ≡ cond (test n) (rows ++ f n ∷ []) rows → next ≡ map f (passing test (n + 1))
rows_step test f n rows next listed e = elim (cases_Bool (test n)) [
  | inl hit ↦ e ∙ cond-true (test n) (rows ++ f n ∷ []) rows hit ∙ ap (λ xs. xs ++ f n ∷ []) listed ∙ sym (map_push f (passing test n) n) ∙ ap (map f) (sym (passing-hit test n hit))
  | inr miss ↦ e ∙ cond-false (test n) (rows ++ f n ∷ []) rows miss ∙ listed ∙ ap (map f) (sym (passing-miss test n miss))
]

pub few_rows : (test : ℕ → Bool) (f : ℕ → Row) (n : ℕ) (rows : List Row) → rows ≡ map f (passing test n) → length rows ≤ n
few_rows test f n rows listed = omega (arith, ap length listed, length-map (passing test n) f, passing-few test n)

-- ---- in the end

same_tests : (p : Facts) (s : List Pattern) (counts : List ℕ) → AreCounts p s (length s) counts → (k : ℕ) → k < key_end p → counts_row p counts k ≡ makes_row p s k
same_tests p s counts are k l = ap (nat_le (needed p k)) (are.each k l)

pub rows_found : (p : Facts) → IsProblem p → (s : List Pattern) (counts : List ℕ) → ArePatterns p s → AreCounts p s (length s) counts → map (row_of p) (passing (counts_row p counts) (key_end p)) ≡ base_rows p s
rows_found p is s counts patterns are =
    ap (map (row_of p)) (passing-same (counts_row p counts) (makes_row p s) (key_end p) (same_tests p s counts are)) ∙ rows_listed p is s patterns.each

pub count_found : (p : Facts) → IsProblem p → (s : List Pattern) (counts : List ℕ) → ArePatterns p s → AreCounts p s (length s) counts → length (passing (counts_row p counts) (key_end p)) ≡ length (base_rows p s)
count_found p is s counts patterns are = sym (length-map (passing (counts_row p counts) (key_end p)) (row_of p)) ∙ ap length (rows_found p is s counts patterns are)

pub numbers_found : (p : Facts) (s : List Pattern) (counts numbers : List ℕ) → AreCounts p s (length s) counts → AreNumbers (counts_row p counts) (key_end p) numbers → AreNumbers (makes_row p s) (key_end p) numbers
numbers_found p s counts numbers are numbered = record {
  whole = numbered.whole;
  each = λ k l. numbered.each k l
      ∙ ap₂ (λ b m. cond b (m + 1) 0) (same_tests p s counts are k l)
      (ap length (passing-same (counts_row p counts) (makes_row p s) k (λ i m. same_tests p s counts are i (omega (arith, l, m)))));
}
