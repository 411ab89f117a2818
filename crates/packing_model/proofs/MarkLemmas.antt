-- Marks of patterns and of base rows.
use Rattle.std.proofs.Common.{ℕ, ◌≡◌, ◌+◌, ◌-◌, ◌<◌, ◌≤◌, inl, inr, zero, suc, Bool, true, false, not, ◌&&◌, ◌||◌, refl, arith, ap, sym, ◌∙◌, List, [], ◌∷◌, length, get_or}
use Rattle.std.specs.Prelude.{◌==◌, nat_le, nat_lt, replicate, slice_index_or, slice_set}
use Rattle.std.specs.List.{list_all, list_any}
use Rattle.std.proofs.lemmas.Bool.{cases_eq, cases_lt, and_parts, and_from, or_left, or_right, or_cases, eq-eqb, eqb-true, ltb-true, lt-ltb, leb-true, le-leb, true≢false}
use Rattle.std.proofs.lemmas.List.{get_or-set_other, get_or_past, get_or-replicate, length-replicate}
use Rattle.numbers.specs.Sums.{member}
use Rattle.problem_core.specs.Facts.{Facts}
use Rattle.meeting_patterns.specs.Pattern.{patterns_of}
use Rattle.meeting_patterns.proofs.ListLemmas.{patterns_are}
use Rattle.duality.specs.declared.row.Run.{Run}
use Rattle.duality.specs.declared.row.RowName.TheVariants.{Base}
use Rattle.duality.specs.Packing.{Packing, Fixing as Fixed, is_free}
use Rattle.duality.specs.Runs.{rows_from, rows_in, AreBelow}
use Rattle.duality.specs.Sums.{member_row, AreInTable}
use Rattle.packing_model.specs.declared.fixing.Fixing.{Fixing}
use Rattle.packing_model.specs.Rows.{row_at}
use Rattle.packing_model.specs.Built.{packing, rows_of, AreBaseRunsOf}
use Rattle.packing_model.specs.Nodes.{fixed_of}
use Rattle.packing_model.specs.NodeMarks.{mark_at, OnlyMarks, in_run, in_runs, has_one_of, MeetsRuns}
use Rattle.packing_model.proofs.CutLemmas.{member_row-append}
use Rattle.packing_model.proofs.RunLemmas.{member_from}
use Rattle.packing_model.proofs.RowLemmas.{base_clash_any}

-- ---- members of a list

pub member_here : (xs : List ℕ) (i d : ℕ) → i < length xs → member (get_or xs i d) xs ≡ true
member_here [] i d l = absurd (omega arith)
member_here (x ∷ xs) zero d l = or_left (x == x) (member x xs) (eq-eqb x x refl)
member_here (x ∷ xs) (suc i) d l = or_right (x == get_or xs i d) (member (get_or xs i d) xs) (member_here xs i d (omega arith))

pub any_here : (test : ℕ → Bool) (xs : List ℕ) (i d : ℕ) → i < length xs → test (get_or xs i d) ≡ true → list_any test xs ≡ true
any_here test [] i d l h = absurd (omega arith)
any_here test (x ∷ xs) zero d l h = or_left (test x) (list_any test xs) h
any_here test (x ∷ xs) (suc i) d l h = or_right (test x) (list_any test xs) (any_here test xs i d (omega arith) h)

record IsOneOf (test : ℕ → Bool) (xs : List ℕ) : Type 0 where
  pub one : ℕ
  pub is : member one xs ≡ true
  pub passes : test one ≡ true

some_one : (test : ℕ → Bool) (xs : List ℕ) → list_any test xs ≡ true → IsOneOf test xs
some_one test [] h = absurd (true≢false (sym h))
some_one test (x ∷ xs) h = elim (or_cases (test x) (list_any test xs) h) [
  | inl here ↦ record { one = x; is = or_left (x == x) (member x xs) (eq-eqb x x refl); passes = here }
  | inr later ↦ let rest = some_one test xs later in record { one = rest.one; is = or_right (x == rest.one) (member rest.one xs) rest.is; passes = rest.passes }
]

any_member : (test : ℕ → Bool) (xs : List ℕ) (q : ℕ) → member q xs ≡ true → test q ≡ true → list_any test xs ≡ true
any_member test [] q h t = absurd (true≢false (sym h))
any_member test (x ∷ xs) q h t = elim (or_cases (x == q) (member q xs) h) [
  | inl here ↦ or_left (test x) (list_any test xs) (ap test (eqb-true x q here) ∙ t)
  | inr later ↦ or_right (test x) (list_any test xs) (any_member test xs q later t)
]

known_member : (n : ℕ) (xs : List ℕ) (q : ℕ) → list_all (λ p. nat_lt p n) xs ≡ true → member q xs ≡ true → q < n
known_member n [] q all h = absurd (true≢false (sym h))
known_member n (x ∷ xs) q all h =
    let parts = and_parts (nat_lt x n) (list_all (λ p. nat_lt p n) xs) all in
    elim (or_cases (x == q) (member q xs) h) [
      | inl here ↦ let same = eqb-true x q here in let low = ltb-true x n parts.0 in omega (arith, same, low)
      | inr later ↦ known_member n xs q parts.1 later
    ]

-- ---- marks

pub only_none : (test : ℕ → Bool) (marks : List Bool) → ((i : ℕ) → mark_at marks i ≡ false) → OnlyMarks test marks
only_none test marks none = record { each = λ i h. absurd (true≢false (sym h ∙ none i)) }

pub only_set : (test : ℕ → Bool) (marks : List Bool) (at : ℕ) → OnlyMarks test marks → test at ≡ true → OnlyMarks test (slice_set marks at true)
only_set test marks at only h = record {
  each = λ i marked. elim (cases_eq i at) [
    | inl here ↦ ap test here ∙ h
    | inr other ↦ only.each i (sym (get_or-set_other marks at i true false other) ∙ marked)
  ];
}

pub only_same : (marks : List Bool) (rows : ℕ → Bool) → OnlyMarks (λ r. mark_at marks r || rows r) marks
only_same marks rows = record { each = λ i h. or_left (mark_at marks i) (rows i) h }

-- marks that were there pass, and so do those that came
pub only_added : (test rows : ℕ → Bool) (old new : List Bool) → OnlyMarks test old → ((r : ℕ) → rows r ≡ true → test r ≡ true) → OnlyMarks (λ r. mark_at old r || rows r) new → OnlyMarks test new
only_added test rows old new only pass added = record {
  each = λ i h. elim (or_cases (mark_at old i) (rows i) (added.each i h)) [ inl before ↦ only.each i before | inr came ↦ pass i came ];
}

-- ---- rows of runs

pub in_run_at : (run : Run) (r : ℕ) → run.first ≤ r → r < run.first + run.count → in_run run r ≡ true
in_run_at run r l m = and_from (nat_le run.first r) (nat_lt r (run.first + run.count)) (le-leb run.first r l) (lt-ltb r (run.first + run.count) m)

from_run : (run : Run) (r : ℕ) → in_run run r ≡ true → member_row (Base r) (rows_from run.first run.count) ≡ true
from_run run r h =
    let parts = and_parts (nat_le run.first r) (nat_lt r (run.first + run.count)) h in
    let low = leb-true run.first r parts.0 in
    let high = ltb-true r (run.first + run.count) parts.1 in
    member_from r run.first run.count ∙ and_from (nat_le run.first r) (nat_lt (r - run.first) run.count) parts.0 (lt-ltb (r - run.first) run.count (omega (arith, low, high)))

-- a row of one of the runs
pub in_runs_at : (runs : List Run) (i : ℕ) (d : Run) (r : ℕ) → i < length runs → in_run (get_or runs i d) r ≡ true → in_runs runs r ≡ true
in_runs_at [] i d r l h = absurd (omega arith)
in_runs_at (run ∷ runs) zero d r l h =
    member_row-append (Base r) (rows_from run.first run.count) (rows_in runs)
    ∙ or_left (member_row (Base r) (rows_from run.first run.count)) (in_runs runs r) (from_run run r h)
in_runs_at (run ∷ runs) (suc i) d r l h =
    member_row-append (Base r) (rows_from run.first run.count) (rows_in runs)
    ∙ or_right (member_row (Base r) (rows_from run.first run.count)) (in_runs runs r) (in_runs_at runs i d r (omega arith) h)

pub run_below : (n : ℕ) (runs : List Run) (i : ℕ) (d : Run) → AreBelow n runs → i < length runs → (get_or runs i d).first + (get_or runs i d).count ≤ n
run_below n [] i d h l = absurd (omega arith)
run_below n (run ∷ runs) zero d h l = h.0
run_below n (run ∷ runs) (suc i) d h l = run_below n runs i d h.1 (omega arith)

-- rows of runs below a number are below it
pub in_runs_below : (n : ℕ) (runs : List Run) (r : ℕ) → AreBelow n runs → in_runs runs r ≡ true → r < n
in_runs_below n [] r h m = absurd (true≢false (sym m))
in_runs_below n (run ∷ runs) r h m =
    elim (or_cases (member_row (Base r) (rows_from run.first run.count)) (in_runs runs r) (sym (member_row-append (Base r) (rows_from run.first run.count) (rows_in runs)) ∙ m)) [
      | inl here ↦
          let parts = and_parts (nat_le run.first r) (nat_lt (r - run.first) run.count) (sym (member_from r run.first run.count) ∙ here) in
          let low = leb-true run.first r parts.0 in
          let high = ltb-true (r - run.first) run.count parts.1 in
          omega (arith, low, high, h.0)
      | inr later ↦ in_runs_below n runs r h.1 later
    ]

-- a pattern stands in the rows of its runs
pub stands_in_runs : (k : Packing) (runs : List Run) (p r : ℕ) → AreBaseRunsOf k runs p → in_runs runs r ≡ true → k.in_base r p ≡ true
stands_in_runs k runs p r are h = sym (are.rows.base r (in_runs_below k.base_len runs r are.known h)) ∙ h

-- ---- freedom by marks

not_free : (k : Packing) (f : Fixed) (p : ℕ) → list_any (k.clash p) f.one ≡ true → is_free k f p ≡ false
not_free k f p h = go (not (member p f.zero)) (not (member p f.one)) (list_any (k.clash p) f.one) h
  where
    go : (a b c : Bool) → c ≡ true → (a && (b && not c)) ≡ false
    go true true c h = ap not h
    go true false c h = refl
    go false b c h = refl

left_out_not_free : (k : Packing) (f : Fixed) (p : ℕ) → member p f.zero ≡ true → is_free k f p ≡ false
left_out_not_free k f p h = ap (λ b. not b && (not (member p f.one) && not (list_any (k.clash p) f.one))) h

taken_not_free : (k : Packing) (f : Fixed) (p : ℕ) → member p f.one ≡ true → is_free k f p ≡ false
taken_not_free k f p h = go (not (member p f.zero)) (member p f.one) (list_any (k.clash p) f.one) h
  where
    go : (a b c : Bool) → b ≡ true → (a && (not b && not c)) ≡ false
    go true b c h = ap (λ x. not x && not c) h
    go false b c h = refl

pub marked_left_out : (k : Packing) (fixing : Fixing) (p : ℕ) (marks : List Bool) → OnlyMarks (λ q. member q fixing.zero) marks → mark_at marks p ≡ true → is_free k (fixed_of fixing) p ≡ false
marked_left_out k fixing p marks only h = left_out_not_free k (fixed_of fixing) p (only.each p h)

-- a row of the pattern is filled by one that is taken
pub marked_row : (f : Facts) (fixing : Fixing) (runs : List Run) (p : ℕ) (filled : List Bool) → p < (packing f).count → list_all (λ q. nat_lt q (packing f).count) fixing.one ≡ true
    → AreBaseRunsOf (packing f) runs p → OnlyMarks (has_one_of (packing f) fixing.one) filled → MeetsRuns filled runs → is_free (packing f) (fixed_of fixing) p ≡ false
marked_row f fixing runs p filled l all are only meets =
    let k = packing f in
    let r = meets.row in
    let here : k.in_base r p ≡ true = stands_in_runs k runs p r are meets.within in
    let one = some_one (k.in_base r) fixing.one (only.each r meets.marked) in
    let q = one.one in
    elim (cases_eq p q) [
      | inl same ↦ taken_not_free k (fixed_of fixing) p (ap (λ x. member x fixing.one) same ∙ one.is)
      | inr other ↦ not_free k (fixed_of fixing) p (any_member (k.clash p) fixing.one q one.is (base_clash_any f (patterns_of f) (row_at (rows_of f) r) p q (patterns_are f) other l (known_member k.count fixing.one q all one.is) here one.passes))
    ]

-- a table of which nothing is marked
pub no_mark : (n k : ℕ) → slice_index_or (replicate n false) k false ≡ false
no_mark n k = elim (cases_lt k n) [ inl less ↦ get_or-replicate n k false false less | inr more ↦ get_or_past (replicate n false) k false (omega (arith, length-replicate n false, more)) ]

-- runs below a number end within a table that has one entry more
pub in_table : (n entries : ℕ) (runs : List Run) → entries ≡ n + 1 → AreBelow n runs → AreInTable entries runs
in_table n entries [] e h = tt
in_table n entries (run ∷ runs) e h = (omega (arith, e, h.0), in_table n entries runs e h.1)
