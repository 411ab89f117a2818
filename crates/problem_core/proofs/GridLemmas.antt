-- How the tables of a problem are filled.
use Rattle.std.proofs.Common.{ℕ, ◌≡◌, ◌+◌, ◌-◌, ◌*◌, ◌/◌, ◌%◌, ◌<◌, ◌≤◌, inl, inr, zero, suc, Bool, true, false, not, ◌&&◌, ◌||◌, refl, arith, ap, ap₂, sym, ◌∙◌, cond, List, [], ◌∷◌, ◌++◌, length, get_or, set, drop, replicate}
use Rattle.std.specs.Prelude.{ℤ, pos}
use Rattle.std.specs.List.{list_any, All}
use Rattle.std.proofs.lemmas.List.{drop_more, get_or_append_left, get_or_push, drop_all, length-replicate, get_or-replicate}
use Rattle.std.proofs.lemmas.Bool.{cases_eq, and_right}
use Rattle.std.proofs.lemmas.Nat.{mul-add-lt, div-mul-add, mod-mul-add}
use Rattle.std.proofs.Math.Nat.{mul_comm}
use Rattle.problem_core.specs.Facts.{is_pair}
use Rattle.problem_core.specs.Measures.{points_of}
use Rattle.problem_core.specs.Tables.{IsGrid}
use Rattle.problem_core.specs.Grids.{IsGrid-put, cell_there}

-- the list from the one before, as an element and the rest
pub drop_before : {X : Type 0} (xs : List X) (left : ℕ) (d : X) → 0 < left → left ≤ length xs → drop (left - 1) xs ≡ get_or xs (left - 1) d ∷ drop left xs
drop_before xs left d some l =
    let e : left - 1 + 1 ≡ left = omega arith in
    drop_more xs (left - 1) d (omega arith) ∙ ap (λ (n : ℕ). get_or xs (left - 1) d ∷ drop n xs) e

or_cond : (b c : Bool) → (b || c) ≡ cond b true c
or_cond true c = refl
or_cond false c = refl

and_cond : (a b c : Bool) → (a && not (b || c)) ≡ cond b false (a && not c)
and_cond a true c = and_right a false refl
and_cond a false c = refl

pub closed_step : (cells : List Bool) (rooms slots : ℕ) (xs : List (ℕ × ℕ)) (left : ℕ) → 0 < left → left ≤ length xs → All (λ x. (x.0 < rooms) × (x.1 < slots)) xs
    → IsGrid cells rooms slots (λ r s. list_any (is_pair r s) (drop left xs))
    → IsGrid (set cells ((get_or xs (left - 1) (0, 0)).0 * slots + (get_or xs (left - 1) (0, 0)).1) true) rooms slots (λ r s. list_any (is_pair r s) (drop (left - 1) xs))
closed_step cells rooms slots xs left some l all grid =
    let x = get_or xs (left - 1) (0, 0) in
    let known = all (left - 1) (0, 0) (omega arith) in
    IsGrid-put cells rooms slots (λ r s. list_any (is_pair r s) (drop left xs)) (λ r s. list_any (is_pair r s) (drop (left - 1) xs)) x.0 x.1 true grid known.0 known.1
    (λ r s _ _. ap (list_any (is_pair r s)) (drop_before xs left (0, 0) some l) ∙ or_cond (is_pair r s x) (list_any (is_pair r s) (drop left xs)))

pub denied_step : (base : ℕ → ℕ → Bool) (cells : List Bool) (courses rooms : ℕ) (xs : List (ℕ × ℕ)) (left : ℕ) → 0 < left → left ≤ length xs → All (λ x. (x.0 < courses) × (x.1 < rooms)) xs
    → IsGrid cells courses rooms (λ c r. base c r && not (list_any (is_pair c r) (drop left xs)))
    → IsGrid (set cells ((get_or xs (left - 1) (0, 0)).0 * rooms + (get_or xs (left - 1) (0, 0)).1) false) courses rooms (λ c r. base c r && not (list_any (is_pair c r) (drop (left - 1) xs)))
denied_step base cells courses rooms xs left some l all grid =
    let x = get_or xs (left - 1) (0, 0) in
    let known = all (left - 1) (0, 0) (omega arith) in
    IsGrid-put cells courses rooms (λ c r. base c r && not (list_any (is_pair c r) (drop left xs))) (λ c r. base c r && not (list_any (is_pair c r) (drop (left - 1) xs))) x.0 x.1 false grid known.0 known.1
    (λ c r _ _. ap (λ (ys : List (ℕ × ℕ)). base c r && not (list_any (is_pair c r) ys)) (drop_before xs left (0, 0) some l) ∙ and_cond (base c r) (is_pair c r x) (list_any (is_pair c r) (drop left xs)))

pub points_step : (cells : List ℤ) (courses rooms : ℕ) (xs : List (ℕ × ℕ × ℤ)) (left : ℕ) → 0 < left → left ≤ length xs → All (λ x. (x.0 < courses) × (x.1 < rooms)) xs
    → IsGrid cells courses rooms (λ c r. points_of c r (drop left xs))
    → IsGrid (set cells ((get_or xs (left - 1) (0, 0, pos 0)).0 * rooms + (get_or xs (left - 1) (0, 0, pos 0)).1) (get_or xs (left - 1) (0, 0, pos 0)).2) courses rooms (λ c r. points_of c r (drop (left - 1) xs))
points_step cells courses rooms xs left some l all grid =
    let x = get_or xs (left - 1) (0, 0, pos 0) in
    let known = all (left - 1) (0, 0, pos 0) (omega arith) in
    IsGrid-put cells courses rooms (λ c r. points_of c r (drop left xs)) (λ c r. points_of c r (drop (left - 1) xs)) x.0 x.1 x.2 grid known.0 known.1
    (λ c r _ _. ap (points_of c r) (drop_before xs left (0, 0, pos 0) some l))

-- a table of one value
pub IsGrid-replicated : {A : Type 0} (a : A) (rows columns n : ℕ) (cells : List A) (f : ℕ → ℕ → A) → cells ≡ replicate n a → n ≡ rows * columns → ((r c : ℕ) → f r c ≡ a) → IsGrid cells rows columns f
IsGrid-replicated a rows columns n cells f same e h = rw same (record {
  whole = length-replicate n a ∙ e;
  cell = λ r c d l m. get_or-replicate n (r * columns + c) a d (omega (arith, e, mul-add-lt r columns c rows l m, mul_comm rows columns)) ∙ sym (h r c);
})

-- a table that is filled cell by cell
pub more_cells : {A : Type 0} (cells : List A) (f : ℕ → A) (i : ℕ) (x : A) → length cells ≡ i → ((k : ℕ) (d : A) → k < i → get_or cells k d ≡ f k) → x ≡ f i
    → (k : ℕ) (d : A) → k < i + 1 → get_or (cells ++ x ∷ []) k d ≡ f k
more_cells cells f i x whole h here k d l = elim (cases_eq k i) [
  | inl same ↦ get_or_push cells x d k (omega arith) ∙ here ∙ ap f (sym same)
  | inr other ↦ get_or_append_left cells (x ∷ []) d k (omega arith) ∙ h k d (omega arith)
]

pub IsGrid-cells : {A : Type 0} (cells : List A) (rows columns : ℕ) (f : ℕ → ℕ → A) → length cells ≡ rows * columns
    → ((k : ℕ) (d : A) → k < rows * columns → get_or cells k d ≡ f (k / columns) (k % columns)) → IsGrid cells rows columns f
IsGrid-cells cells rows columns f whole h = record {
  whole = whole;
  cell = λ r c d l m.
      h (r * columns + c) d (omega (arith, mul-add-lt r columns c rows l m, mul_comm rows columns))
      ∙ ap₂ f (div-mul-add r columns c m) (mod-mul-add r columns c m);
}

pub some_columns : (i a b : ℕ) → i < a * b → 0 < b
some_columns i a zero l = absurd (omega (arith, mul_comm a 0))
some_columns i a (suc b) l = omega arith

-- the same of a list that is known to be the one of the parts
pub closed_put : (cells cells' : List Bool) (rooms slots : ℕ) (ys xs : List (ℕ × ℕ)) (left : ℕ) → ys ≡ xs → 0 < left → left ≤ length xs → All (λ x. (x.0 < rooms) × (x.1 < slots)) xs
    → cells' ≡ set cells ((get_or ys (left - 1) (0, 0)).0 * slots + (get_or ys (left - 1) (0, 0)).1) true
    → IsGrid cells rooms slots (λ r s. list_any (is_pair r s) (drop left xs)) → IsGrid cells' rooms slots (λ r s. list_any (is_pair r s) (drop (left - 1) xs))
closed_put cells cells' rooms slots ys xs left e some l all h grid = rw (h, e) (closed_step cells rooms slots xs left some l all grid)

pub denied_put : (base : ℕ → ℕ → Bool) (cells cells' : List Bool) (courses rooms w : ℕ) (ys xs : List (ℕ × ℕ)) (left : ℕ) → ys ≡ xs → w ≡ rooms → 0 < left → left ≤ length xs → All (λ x. (x.0 < courses) × (x.1 < rooms)) xs
    → cells' ≡ set cells ((get_or ys (left - 1) (0, 0)).0 * w + (get_or ys (left - 1) (0, 0)).1) false
    → IsGrid cells courses rooms (λ c r. base c r && not (list_any (is_pair c r) (drop left xs))) → IsGrid cells' courses rooms (λ c r. base c r && not (list_any (is_pair c r) (drop (left - 1) xs)))
denied_put base cells cells' courses rooms w ys xs left e same some l all h grid = rw (h, e, same) (denied_step base cells courses rooms xs left some l all grid)

pub points_put : (cells cells' : List ℤ) (courses rooms w : ℕ) (ys xs : List (ℕ × ℕ × ℤ)) (left : ℕ) (v : ℤ) → v ≡ (get_or xs (left - 1) (0, 0, pos 0)).2 → ys ≡ xs → w ≡ rooms → 0 < left → left ≤ length xs → All (λ x. (x.0 < courses) × (x.1 < rooms)) xs
    → cells' ≡ set cells ((get_or ys (left - 1) (0, 0, pos 0)).0 * w + (get_or ys (left - 1) (0, 0, pos 0)).1) v
    → IsGrid cells courses rooms (λ c r. points_of c r (drop left xs)) → IsGrid cells' courses rooms (λ c r. points_of c r (drop (left - 1) xs))
points_put cells cells' courses rooms w ys xs left v is e same some l all h grid = rw (h, e, same, is) (points_step cells courses rooms xs left some l all grid)

-- the list's element is within the table
pub pair_there : {A : Type 0} (cells : List A) (rows columns w : ℕ) (f : ℕ → ℕ → A) (ys xs : List (ℕ × ℕ)) (left : ℕ) → IsGrid cells rows columns f → ys ≡ xs → w ≡ columns → 0 < left → left ≤ length xs → All (λ x. (x.0 < rows) × (x.1 < columns)) xs
    → (get_or ys (left - 1) (0, 0)).0 * w + (get_or ys (left - 1) (0, 0)).1 < length cells
pair_there cells rows columns w f ys xs left grid e same some l all =
    let known = all (left - 1) (0, 0) (omega arith) in
    rw (e, same) (cell_there cells rows columns f (get_or xs (left - 1) (0, 0)).0 (get_or xs (left - 1) (0, 0)).1 grid known.0 known.1)

pub points_there : {A : Type 0} (cells : List A) (rows columns w : ℕ) (f : ℕ → ℕ → A) (ys xs : List (ℕ × ℕ × ℤ)) (left : ℕ) → IsGrid cells rows columns f → ys ≡ xs → w ≡ columns → 0 < left → left ≤ length xs → All (λ x. (x.0 < rows) × (x.1 < columns)) xs
    → (get_or ys (left - 1) (0, 0, pos 0)).0 * w + (get_or ys (left - 1) (0, 0, pos 0)).1 < length cells
points_there cells rows columns w f ys xs left grid e same some l all =
    let known = all (left - 1) (0, 0, pos 0) (omega arith) in
    rw (e, same) (cell_there cells rows columns f (get_or xs (left - 1) (0, 0, pos 0)).0 (get_or xs (left - 1) (0, 0, pos 0)).1 grid known.0 known.1)

-- before the first and after the last step
pub IsGrid-ended : {A X : Type 0} (cells : List A) (rows columns : ℕ) (xs : List X) (f : List X → ℕ → ℕ → A) (left : ℕ) → IsGrid cells rows columns (f (drop left xs)) → left ≤ 0 → IsGrid cells rows columns (f xs)
IsGrid-ended cells rows columns xs f zero grid l = grid
IsGrid-ended cells rows columns xs f (suc left) grid l = absurd (omega arith)

pub IsGrid-begun : {A X : Type 0} (cells : List A) (rows columns : ℕ) (ys xs : List X) (f : List X → ℕ → ℕ → A) → ys ≡ xs → IsGrid cells rows columns (f []) → IsGrid cells rows columns (f (drop (length ys) xs))
IsGrid-begun {A} {X} cells rows columns ys xs f e grid = rw (drop_all (length ys) xs (omega (arith, ap (length {A = X}) e))) grid
