-- Tables of sets and of lengths, filled row after row.
use Rattle.std.proofs.Common.{ℕ, ◌≡◌, ◌≤◌, ◌<◌, ◌+◌, ◌*◌, ◌^◌, ◌%◌, Bool, true, false, cond, List, [], ◌∷◌, length, map, get_or, set, drop, refl, ap, sym, ◌∙◌, arith, zero, suc, inl, inr, ◌≢◌, get_or-set_other, get_or-set_same}
use Rattle.std.specs.Prelude.{◌⊎◌, ◌==◌, ◌&&◌, nat_lt, nat_le, bit_or}
use Rattle.std.specs.List.{list_all}
use Rattle.std.proofs.lemmas.Bool.{and_parts, cases_eq, eq-eqb, ne_eqb}
use Rattle.std.proofs.lemmas.Bool.Decides.{nat_tests}
use Rattle.std.proofs.lemmas.List.{length-set, drop_more, drop_all, get_or_default}
use Rattle.std.proofs.lemmas.Nat.{or_lt}
use Rattle.std.proofs.Math.Pow.{pow-lt}
use Rattle.std.proofs.Math.Nat.{mod-eq_of_lt}
use Rattle.problem_core.specs.Facts.{run_of}
use Rattle.measure_file.specs.Promised.{is_pair, is_length}
use Rattle.ctt_reader.specs.declared.instance.Instance.{Instance}
use Rattle.timed_solution.specs.declared.times.Meeting.{Meeting}
use Rattle.timed_solution.specs.Times.{is_meeting}
use Rattle.timed_solution.proofs.BackLemmas.{meeting_parts}
use Rattle.measure_file.specs.declared.measures.Measures.{Measures}
use Rattle.room_model.specs.Calendar.{IsCalendar}
use Rattle.room_model.specs.ProblemOf.{set_from, sets_of, length_from, length_of}

under : (k n : ℕ) → nat_lt k n ≡ true → k < n
under k n h = grind (arith, nat_tests, h)

at_most : (k n : ℕ) → nat_le k n ≡ true → k ≤ n
at_most k n h = grind (arith, nat_tests, h)

-- a list is what a function gives of the numbers from s on
pub listed_by : (xs : List ℕ) (f : ℕ → ℕ) (s : ℕ) → ((c : ℕ) → c < length xs → get_or xs c 0 ≡ f (s + c)) → xs ≡ map f (run_of s (length xs))
listed_by [] f s h = refl
listed_by (x ∷ xs) f s h =
    let here : x ≡ f s = h 0 (omega arith) ∙ (let e : s + 0 ≡ s = omega arith in ap f e) in
    let more : xs ≡ map f (run_of (s + 1) (length xs)) = listed_by xs f (s + 1) (λ c l. h (suc c) (omega arith) ∙ (let e : s + suc c ≡ s + 1 + c = omega arith in ap f e)) in
    let one : suc (length xs) ≡ length (x ∷ xs) = omega arith in
    ap (λ y. y ∷ xs) here ∙ ap (λ ys. f s ∷ ys) more ∙ ap (λ n. map f (run_of s n)) one

-- ---- sets

-- the sets of n numbers, of which the first k rows are taken in
pub record AreSets (n : ℕ) (pairs : List (ℕ × ℕ)) (k : ℕ) (sets : List ℕ) : Type 0 where
  pub count : length sets ≡ n
  pub rest : (c : ℕ) → c < n → set_from c (get_or sets c 0) (drop k pairs) ≡ set_from c 0 pairs

pub sets-more : (n features : ℕ) (pairs : List (ℕ × ℕ)) (k : ℕ) (sets : List ℕ) (x : ℕ × ℕ) (v : ℕ) → k < length pairs → get_or pairs k (0, 0) ≡ x → x.0 < n
    → v ≡ bit_or (get_or sets x.0 0) (2 ^ x.1) → AreSets n pairs k sets → AreSets n pairs (k + 1) (set sets x.0 v)
sets-more n features pairs k sets x v l is known e old = record {
  count = length-set sets x.0 v ∙ old.count;
  rest = λ c m. by_case c m (cases_eq x.0 c);
}
  where
    cut : drop k pairs ≡ x ∷ drop (k + 1) pairs
    cut = drop_more pairs k (0, 0) l ∙ ap (λ y. y ∷ drop (k + 1) pairs) is

    by_case : (c : ℕ) → c < n → (x.0 ≡ c) ⊎ (x.0 ≢ c) → set_from c (get_or (set sets x.0 v) c 0) (drop (k + 1) pairs) ≡ set_from c 0 pairs
    by_case c m (inl same) =
        let here : get_or (set sets x.0 v) c 0 ≡ v = ap (λ j. get_or (set sets x.0 v) j 0) (sym same) ∙ get_or-set_same sets x.0 v 0 (omega (arith, old.count)) in
        let grown : set_from c (get_or sets c 0) (x ∷ drop (k + 1) pairs) ≡ set_from c v (drop (k + 1) pairs) =
        ap (λ (b : Bool). set_from c (cond b (bit_or (get_or sets c 0) (2 ^ x.1)) (get_or sets c 0)) (drop (k + 1) pairs)) (eq-eqb x.0 c same)
        ∙ ap (λ s. set_from c s (drop (k + 1) pairs)) (ap (λ j. bit_or (get_or sets j 0) (2 ^ x.1)) (sym same) ∙ sym e) in
        ap (λ s. set_from c s (drop (k + 1) pairs)) here ∙ sym grown ∙ ap (set_from c (get_or sets c 0)) (sym cut) ∙ old.rest c m
    by_case c m (inr other) =
        let here : get_or (set sets x.0 v) c 0 ≡ get_or sets c 0 = get_or-set_other sets x.0 c v 0 (λ same. other (sym same)) in
        let kept : set_from c (get_or sets c 0) (x ∷ drop (k + 1) pairs) ≡ set_from c (get_or sets c 0) (drop (k + 1) pairs) =
        ap (λ (b : Bool). set_from c (cond b (bit_or (get_or sets c 0) (2 ^ x.1)) (get_or sets c 0)) (drop (k + 1) pairs)) (ne_eqb x.0 c other) in
        ap (λ s. set_from c s (drop (k + 1) pairs)) here ∙ sym kept ∙ ap (set_from c (get_or sets c 0)) (sym cut) ∙ old.rest c m

pub sets-whole : (n : ℕ) (pairs : List (ℕ × ℕ)) (k : ℕ) (sets : List ℕ) → length pairs ≤ k → AreSets n pairs k sets → sets ≡ sets_of n pairs
sets-whole n pairs k sets l are =
    listed_by sets (λ c. set_from c 0 pairs) 0 (λ c m. (let none : drop k pairs ≡ [] = drop_all k pairs l in ap (set_from c (get_or sets c 0)) (sym none) ∙ are.rest c (omega (arith, are.count)) ∙ (let e : c ≡ 0 + c = omega arith in ap (λ j. set_from j 0 pairs) e)))
    ∙ ap (λ m. map (λ c. set_from c 0 pairs) (run_of 0 m)) are.count

-- features are numbered below 100, so the sets fit
pub set-small : (n c start : ℕ) (pairs : List (ℕ × ℕ)) (features : ℕ) → features ≤ 100 → list_all (is_pair n features) pairs ≡ true → start < 2 ^ 100 → set_from c start pairs < 2 ^ 100
set-small n c start [] features few h s = s
set-small n c start (x ∷ pairs) features few h s =
    let p = and_parts (is_pair n features x) (list_all (is_pair n features) pairs) h in
    let f : x.1 < features = under x.1 features (and_parts (nat_lt x.0 n) (nat_lt x.1 features) p.0).1 in
    let bit : 2 ^ x.1 < 2 ^ 100 = pow-lt {i = x.1} {j = 100} (omega arith) in
    set-small n c (cond (x.0 == c) (bit_or start (2 ^ x.1)) start) pairs features few p.1 (chosen (x.0 == c) (or_lt 100 start (2 ^ x.1) s bit))
  where
    chosen : (b : Bool) → bit_or start (2 ^ x.1) < 2 ^ 100 → cond b (bit_or start (2 ^ x.1)) start < 2 ^ 100
    chosen true g = g
    chosen false g = s

-- a feature's bit
pub bit_of : (f features : ℕ) → features ≤ 100 → f < features → 1 * 2 ^ f % 2 ^ 128 ≡ 2 ^ f
bit_of f features few l =
    let one : 1 * 2 ^ f ≡ 2 ^ f = omega arith in
    ap (λ n. n % 2 ^ 128) one ∙ mod-eq_of_lt (pow-lt {i = f} {j = 128} (omega arith))

pub pair_at : (m n : ℕ) (pairs : List (ℕ × ℕ)) (k : ℕ) → k < length pairs → list_all (is_pair m n) pairs ≡ true → ((get_or pairs k (0, 0)).0 < m) × ((get_or pairs k (0, 0)).1 < n)
pair_at m n [] k l h = absurd (omega arith)
pair_at m n (x ∷ pairs) zero l h =
    let p = and_parts (nat_lt x.0 m) (nat_lt x.1 n) (and_parts (is_pair m n x) (list_all (is_pair m n) pairs) h).0 in
    (under x.0 m p.0, under x.1 n p.1)
pair_at m n (x ∷ pairs) (suc k) l h = pair_at m n pairs k (omega arith) (and_parts (is_pair m n x) (list_all (is_pair m n) pairs) h).1

-- the step of the code: the bit is added to the set that is there
pub sets-put : (n features : ℕ) (pairs : List (ℕ × ℕ)) (k : ℕ) (sets : List ℕ) (v : ℕ) → features ≤ 100 → list_all (is_pair n features) pairs ≡ true → k < length pairs → v ≡ get_or sets (get_or pairs k (0, 0)).0 v → AreSets n pairs k sets
    → AreSets n pairs (k + 1) (set sets (get_or pairs k (0, 0)).0 (bit_or v (1 * 2 ^ (get_or pairs k (0, 0)).1 % 2 ^ 128)))
sets-put n features pairs k sets v few h l read are =
    let x = get_or pairs k (0, 0) in
    let p = pair_at n features pairs k l h in
    let old : v ≡ get_or sets x.0 0 = read ∙ get_or_default sets x.0 v 0 (omega (arith, are.count, p.0)) in
    sets-more n features pairs k sets x (bit_or v (1 * 2 ^ x.1 % 2 ^ 128)) l refl p.0 (ap (λ y. bit_or y (1 * 2 ^ x.1 % 2 ^ 128)) old ∙ ap (bit_or (get_or sets x.0 0)) (bit_of x.1 features few p.1)) are

-- ---- lengths

pub record AreLengths (n : ℕ) (rows : List (ℕ × ℕ)) (k : ℕ) (lengths : List ℕ) : Type 0 where
  pub count : length lengths ≡ n
  pub rest : (c : ℕ) → c < n → length_from c (get_or lengths c 0) (drop k rows) ≡ length_from c 1 rows

pub lengths-more : (n : ℕ) (rows : List (ℕ × ℕ)) (k : ℕ) (lengths : List ℕ) (x : ℕ × ℕ) → k < length rows → get_or rows k (0, 0) ≡ x → x.0 < n → AreLengths n rows k lengths → AreLengths n rows (k + 1) (set lengths x.0 x.1)
lengths-more n rows k lengths x l is known old = record {
  count = length-set lengths x.0 x.1 ∙ old.count;
  rest = λ c m. by_case c m (cases_eq x.0 c);
}
  where
    cut : drop k rows ≡ x ∷ drop (k + 1) rows
    cut = drop_more rows k (0, 0) l ∙ ap (λ y. y ∷ drop (k + 1) rows) is

    by_case : (c : ℕ) → c < n → (x.0 ≡ c) ⊎ (x.0 ≢ c) → length_from c (get_or (set lengths x.0 x.1) c 0) (drop (k + 1) rows) ≡ length_from c 1 rows
    by_case c m (inl same) =
        let here : get_or (set lengths x.0 x.1) c 0 ≡ x.1 = ap (λ j. get_or (set lengths x.0 x.1) j 0) (sym same) ∙ get_or-set_same lengths x.0 x.1 0 (omega (arith, old.count)) in
        let grown : length_from c (get_or lengths c 0) (x ∷ drop (k + 1) rows) ≡ length_from c x.1 (drop (k + 1) rows) =
        ap (λ (b : Bool). length_from c (cond b x.1 (get_or lengths c 0)) (drop (k + 1) rows)) (eq-eqb x.0 c same) in
        ap (λ s. length_from c s (drop (k + 1) rows)) here ∙ sym grown ∙ ap (length_from c (get_or lengths c 0)) (sym cut) ∙ old.rest c m
    by_case c m (inr other) =
        let here : get_or (set lengths x.0 x.1) c 0 ≡ get_or lengths c 0 = get_or-set_other lengths x.0 c x.1 0 (λ same. other (sym same)) in
        let kept : length_from c (get_or lengths c 0) (x ∷ drop (k + 1) rows) ≡ length_from c (get_or lengths c 0) (drop (k + 1) rows) =
        ap (λ (b : Bool). length_from c (cond b x.1 (get_or lengths c 0)) (drop (k + 1) rows)) (ne_eqb x.0 c other) in
        ap (λ s. length_from c s (drop (k + 1) rows)) here ∙ sym kept ∙ ap (length_from c (get_or lengths c 0)) (sym cut) ∙ old.rest c m

pub lengths-whole : (n : ℕ) (rows : List (ℕ × ℕ)) (k : ℕ) (lengths : List ℕ) → length rows ≤ k → AreLengths n rows k lengths → (course : ℕ) (d : ℕ) → course < length lengths → get_or lengths course d ≡ length_from course 1 rows
lengths-whole n rows k lengths l are course d m =
    let none : drop k rows ≡ [] = drop_all k rows l in
    get_or_default lengths course d 0 m ∙ ap (length_from course (get_or lengths course 0)) (sym none) ∙ are.rest course (omega (arith, are.count))

-- a length is 1 to 48
pub record IsLength (n : ℕ) : Type 0 where
  pub some : 1 ≤ n
  pub short : n ≤ 48

pub length-fits : (courses c n : ℕ) (rows : List (ℕ × ℕ)) → list_all (is_length courses) rows ≡ true → IsLength n → IsLength (length_from c n rows)
length-fits courses c n [] h fits = fits
length-fits courses c n (x ∷ rows) h fits =
    let p = and_parts (is_length courses x) (list_all (is_length courses) rows) h in
    let s = and_parts (nat_lt x.0 courses && nat_le 1 x.1) (nat_le x.1 48) p.0 in
    let here : IsLength x.1 = record { some = at_most 1 x.1 (and_parts (nat_lt x.0 courses) (nat_le 1 x.1) s.0).1; short = at_most x.1 48 s.1 } in
    length-fits courses c (cond (x.0 == c) x.1 n) rows p.1 (chosen (x.0 == c) here)
  where
    chosen : (b : Bool) → IsLength x.1 → IsLength (cond b x.1 n)
    chosen true h = h
    chosen false h = fits

-- the length that is read for a meeting
pub length-read : (i : Instance) (m : Measures) (lengths : List ℕ) (x : Meeting) (v : ℕ) → IsCalendar i m lengths → is_meeting i x ≡ true → v ≡ get_or lengths x.course v → IsLength v
length-read i m lengths x v calendar known read =
    let there : x.course < length lengths = omega (arith, calendar.count, (meeting_parts i x known).course) in
    let is : v ≡ length_of m x.course = read ∙ calendar.each x.course v there in
    let fits = length-fits (length i.courses) x.course 1 m.lengths calendar.measures.lengths (record { some = omega arith; short = omega arith }) in
    record { some = omega (arith, is, fits.some); short = omega (arith, is, fits.short) }
