-- The names of a node's rows: they are there, and in a leaf they stand in order.
use Rattle.std.proofs.Common.{ℕ, ◌≡◌, ◌<◌, ◌≤◌, ◌+◌, ◌-◌, arith, refl, sym, ◌∙◌, ap, ap₂, subst, zero, suc, Bool, true, ◌&&◌, List, [], ◌∷◌, ◌++◌, length, take, drop, append_assoc}
use Rattle.std.specs.Prelude.{ℤ, nat_le, nat_lt, if◌then◌else◌, is_some, Option, Some, None}
use Rattle.std.specs.List.{list_all}
use Rattle.std.proofs.lemmas.Bool.{and_parts, and_from, le-leb, lt-ltb, ne_eqb}
use Rattle.std.proofs.lemmas.List.Folds.{list_all-append}
use Rattle.std.proofs.lemmas.List.{length-append}
use Rattle.std.proofs.Math.Seq.{take-append_seam, drop-append_seam}
use Rattle.duality.specs.declared.row.RowName.{RowName}
use Rattle.duality.specs.declared.row.RowName.TheVariants.{Base, Cut, Level}
use Rattle.duality.specs.Packing.{Packing, Weights, Stage, is_there, floor_level}
use Rattle.duality.specs.Sums.{row_before}
use Rattle.node_bound.specs.Tasks.{stretch, floor_names, names_of}
use Rattle.node_bound.specs.Multipliers.{others_of}
use Rattle.node_bound.proofs.TermLaws.{is_first, ascends}

-- ---- names one after the other

pub stretch_length : (name : ℕ → RowName) (from n : ℕ) → length (stretch name from n) ≡ n
stretch_length name from zero = refl
stretch_length name from (suc n) = omega (arith, stretch_length name (suc from) n)

stretch_join : (name : ℕ → RowName) (from m n : ℕ) → stretch name from m ++ stretch name (from + m) n ≡ stretch name from (m + n)
stretch_join name from zero n = let e : from + 0 ≡ from = omega arith in let d : 0 + n ≡ n = omega arith in rw (e, d) refl
stretch_join name from (suc m) n =
    let e : from + suc m ≡ suc from + m = omega arith in
    let d : suc m + n ≡ suc (m + n) = omega arith in
    rw (e, d) (ap (λ ns. name from ∷ ns) (stretch_join name (suc from) m n))

stretch_all : (test : RowName → Bool) (name : ℕ → RowName) (from n : ℕ) → ((i : ℕ) → from ≤ i → i < from + n → test (name i) ≡ true) → list_all test (stretch name from n) ≡ true
stretch_all test name from zero h = refl
stretch_all test name from (suc n) h = and_from (test (name from)) (list_all test (stretch name (suc from) n)) (h from (omega arith) (omega arith)) (stretch_all test name (suc from) n (λ i l m. h i (omega arith) (omega arith)))

stretch_up : (name : ℕ → RowName) (from n : ℕ) → ((i j : ℕ) → i < j → row_before (name i) (name j) ≡ true) → ascends (stretch name from n) ≡ true
stretch_up name from zero h = refl
stretch_up name from (suc n) h =
    and_from (is_first (name from) (stretch name (suc from) n)) (ascends (stretch name (suc from) n)) (stretch_all (row_before (name from)) name (suc from) n (λ i l m. h from i (omega arith))) (stretch_up name (suc from) n h)

first_append : (row : RowName) (xs ys : List RowName) → is_first row xs ≡ true → is_first row ys ≡ true → is_first row (xs ++ ys) ≡ true
first_append row xs ys a b = list_all-append (row_before row) xs ys ∙ and_from (is_first row xs) (is_first row ys) a b

up_append : (xs ys : List RowName) → ascends xs ≡ true → ascends ys ≡ true → list_all (λ x. is_first x ys) xs ≡ true → ascends (xs ++ ys) ≡ true
up_append [] ys a b all = b
up_append (x ∷ xs) ys a b all =
    let here = and_parts (is_first x xs) (ascends xs) a in
    let first = and_parts (is_first x ys) (list_all (λ z. is_first z ys) xs) all in
    and_from (is_first x (xs ++ ys)) (ascends (xs ++ ys)) (first_append x xs ys here.0 first.0) (up_append xs ys here.1 b first.1)

all_append : (test : RowName → Bool) (xs ys : List RowName) → list_all test xs ≡ true → list_all test ys ≡ true → list_all test (xs ++ ys) ≡ true
all_append test xs ys a b = list_all-append test xs ys ∙ and_from (list_all test xs) (list_all test ys) a b

floor_all : (test : RowName → Bool) (floor : Option ((ℕ → ℤ) × ℤ)) → test (Level floor_level) ≡ true → list_all test (floor_names floor) ≡ true
floor_all test None h = refl
floor_all test (Some f) h = and_from (test (Level floor_level)) true h refl

floor_up : (floor : Option ((ℕ → ℤ) × ℤ)) → ascends (floor_names floor) ≡ true
floor_up None = refl
floor_up (Some f) = refl

stretch_joined : (name : ℕ → RowName) (from m n next all : ℕ) → next ≡ from + m → m + n ≡ all → stretch name from m ++ stretch name next n ≡ stretch name from all
stretch_joined name from m n next all e f = ap (λ i. stretch name from m ++ stretch name i n) e ∙ stretch_join name from m n ∙ ap (stretch name from) f

taken_first : (n : ℕ) (xs ys whole : List RowName) → whole ≡ xs ++ ys → length xs ≡ n → take n whole ≡ xs
taken_first n xs ys whole is len = ap₂ take (sym len) is ∙ take-append_seam xs ys

dropped_first : (n : ℕ) (xs ys whole : List RowName) → whole ≡ xs ++ ys → length xs ≡ n → drop n whole ≡ ys
dropped_first n xs ys whole is len = ap₂ drop (sym len) is ∙ drop-append_seam xs ys

-- six runs, cut behind the first, the second and the fourth, where the second part goes behind the third
parted : (one two three four five six names : List RowName) (lead low others : ℕ) → names ≡ one ++ two ++ three ++ four ++ five ++ six → length one ≡ lead → length two ≡ low → length (three ++ four) ≡ others
    → take lead names ++ take others (drop low (drop lead names)) ++ take low (drop lead names) ++ drop others (drop low (drop lead names)) ≡ one ++ three ++ four ++ (two ++ five) ++ six
parted one two three four five six names lead low others is l1 l2 l3 =
    let whole : names ≡ one ++ (two ++ ((three ++ four) ++ (five ++ six))) =
    is ∙ append_assoc (one ++ two ++ three ++ four) five six ∙ ap (λ z. z ++ (five ++ six)) (append_assoc (one ++ two) three four) ∙ append_assoc (one ++ two) (three ++ four) (five ++ six) ∙ append_assoc one two ((three ++ four) ++ (five ++ six)) in
    let a : take lead names ≡ one = taken_first lead one (two ++ ((three ++ four) ++ (five ++ six))) names whole l1 in
    let r1 : drop lead names ≡ two ++ ((three ++ four) ++ (five ++ six)) = dropped_first lead one (two ++ ((three ++ four) ++ (five ++ six))) names whole l1 in
    let b : take low (drop lead names) ≡ two = taken_first low two ((three ++ four) ++ (five ++ six)) (drop lead names) r1 l2 in
    let r2 : drop low (drop lead names) ≡ (three ++ four) ++ (five ++ six) = dropped_first low two ((three ++ four) ++ (five ++ six)) (drop lead names) r1 l2 in
    let d : take others (drop low (drop lead names)) ≡ three ++ four = taken_first others (three ++ four) (five ++ six) (drop low (drop lead names)) r2 l3 in
    let e : drop others (drop low (drop lead names)) ≡ five ++ six = dropped_first others (three ++ four) (five ++ six) (drop low (drop lead names)) r2 l3 in
    ap₂ (λ x y. x ++ y) (ap₂ (λ x y. x ++ y) (ap₂ (λ x y. x ++ y) a d) b) e
    ∙ ap (λ z. z ++ two ++ (five ++ six)) (sym (append_assoc one three four))
    ∙ sym (append_assoc (one ++ three ++ four ++ two) five six)
    ∙ ap (λ z. z ++ six) (append_assoc (one ++ three ++ four) two five)

-- ---- the names of a node

level_there : (k : Packing) (w : Weights) (s : Stage) (j : ℕ) → s.level ≤ 7 → 1 ≤ j → j < s.level → is_there k w s (Level j) ≡ true
level_there k w s j few low high =
    ap (λ b. if b then is_some w.floor else nat_le 1 j && nat_lt j s.level) (ne_eqb j floor_level (λ e. absurd (omega arith)))
    ∙ and_from (nat_le 1 j) (nat_lt j s.level) (le-leb 1 j low) (lt-ltb j s.level high)

floor_there : (k : Packing) (w : Weights) (s : Stage) (floor : Option ((ℕ → ℤ) × ℤ)) → w.floor ≡ floor → list_all (is_there k w s) (floor_names floor) ≡ true
floor_there k w s None e = refl
floor_there k w s (Some f) e = and_from (is_there k w s (Level floor_level)) true (ap is_some e) refl

module _ (k : Packing) (w : Weights) (s : Stage) (lead low : ℕ) where
  pub names_there : s.level ≤ 7 → lead ≤ k.base_len → low ≤ s.level - 1 → list_all (is_there k w s) (names_of k w s lead low) ≡ true
  names_there few a b =
      let test : RowName → Bool = is_there k w s in
      let one = stretch Base 0 lead in
      let two = stretch Level 1 low in
      let three = stretch Base lead (k.base_len - lead) in
      let four = stretch Cut 0 (length s.cuts) in
      let five = stretch Level (low + 1) ((s.level - 1) - low) in
      let h1 : list_all test one ≡ true = stretch_all test Base 0 lead (λ i l m. lt-ltb i k.base_len (omega arith)) in
      let h2 : list_all test two ≡ true = stretch_all test Level 1 low (λ i l m. level_there k w s i few (omega arith) (omega arith)) in
      let h3 : list_all test three ≡ true = stretch_all test Base lead (k.base_len - lead) (λ i l m. lt-ltb i k.base_len (omega arith)) in
      let h4 : list_all test four ≡ true = stretch_all test Cut 0 (length s.cuts) (λ i l m. lt-ltb i (length s.cuts) (omega arith)) in
      let h5 : list_all test five ≡ true = stretch_all test Level (low + 1) ((s.level - 1) - low) (λ i l m. level_there k w s i few (omega arith) (omega arith)) in
      all_append test (one ++ two ++ three ++ four ++ five) (floor_names w.floor)
      (all_append test (one ++ two ++ three ++ four) five (all_append test (one ++ two ++ three) four (all_append test (one ++ two) three (all_append test one two h1 h2) h3) h4) h5)
      (floor_there k w s w.floor refl)

  leaf_up : s.level ≤ 7 → ascends (stretch Base 0 k.base_len ++ stretch Cut 0 (length s.cuts) ++ stretch Level 1 (s.level - 1) ++ floor_names w.floor) ≡ true
  leaf_up few =
      let base = stretch Base 0 k.base_len in
      let cuts = stretch Cut 0 (length s.cuts) in
      let levels = stretch Level 1 (s.level - 1) in
      let floor = floor_names w.floor in
      let up_base : ascends base ≡ true = stretch_up Base 0 k.base_len (λ i j l. lt-ltb i j l) in
      let up_cuts : ascends cuts ≡ true = stretch_up Cut 0 (length s.cuts) (λ i j l. lt-ltb i j l) in
      let up_levels : ascends levels ≡ true = stretch_up Level 1 (s.level - 1) (λ i j l. lt-ltb i j l) in
      let before_cuts : list_all (λ x. is_first x cuts) base ≡ true = stretch_all (λ x. is_first x cuts) Base 0 k.base_len (λ i l m. stretch_all (row_before (Base i)) Cut 0 (length s.cuts) (λ j g h. refl)) in
      let before_levels : list_all (λ x. is_first x levels) (base ++ cuts) ≡ true =
      all_append (λ x. is_first x levels) base cuts
      (stretch_all (λ x. is_first x levels) Base 0 k.base_len (λ i l m. stretch_all (row_before (Base i)) Level 1 (s.level - 1) (λ j g h. refl)))
      (stretch_all (λ x. is_first x levels) Cut 0 (length s.cuts) (λ i l m. stretch_all (row_before (Cut i)) Level 1 (s.level - 1) (λ j g h. refl))) in
      let before_floor : list_all (λ x. is_first x floor) (base ++ cuts ++ levels) ≡ true =
      all_append (λ x. is_first x floor) (base ++ cuts) levels
      (all_append (λ x. is_first x floor) base cuts
      (stretch_all (λ x. is_first x floor) Base 0 k.base_len (λ i l m. floor_all (row_before (Base i)) w.floor refl))
      (stretch_all (λ x. is_first x floor) Cut 0 (length s.cuts) (λ i l m. floor_all (row_before (Cut i)) w.floor refl)))
      (stretch_all (λ x. is_first x floor) Level 1 (s.level - 1) (λ i l m. floor_all (row_before (Level i)) w.floor (lt-ltb i floor_level (omega arith)))) in
      up_append (base ++ cuts ++ levels) floor (up_append (base ++ cuts) levels (up_append base cuts up_base up_cuts before_cuts) up_levels before_levels) (floor_up w.floor) before_floor

  pub leaf_names_up : s.level ≤ 7 → lead ≤ k.base_len → low ≤ s.level - 1 → (names : List RowName) → names ≡ names_of k w s lead low
      → ascends (take lead names ++ take (others_of k s lead) (drop low (drop lead names)) ++ take low (drop lead names) ++ drop (others_of k s lead) (drop low (drop lead names))) ≡ true
  leaf_names_up few a b names is =
      let one = stretch Base 0 lead in
      let two = stretch Level 1 low in
      let three = stretch Base lead (k.base_len - lead) in
      let four = stretch Cut 0 (length s.cuts) in
      let five = stretch Level (low + 1) ((s.level - 1) - low) in
      let six = floor_names w.floor in
      let others_length : length (three ++ four) ≡ others_of k s lead = length-append three four ∙ ap₂ (λ m n. m + n) (stretch_length Base lead (k.base_len - lead)) (stretch_length Cut 0 (length s.cuts)) in
      let parts = parted one two three four five six names lead low (others_of k s lead) is (stretch_length Base 0 lead) (stretch_length Level 1 low) others_length in
      let base : one ++ three ≡ stretch Base 0 k.base_len = stretch_joined Base 0 lead (k.base_len - lead) lead k.base_len (omega arith) (omega arith) in
      let levels : two ++ five ≡ stretch Level 1 (s.level - 1) = stretch_joined Level 1 low ((s.level - 1) - low) (low + 1) (s.level - 1) (omega arith) (omega arith) in
      subst (λ ns. ascends ns ≡ true) (sym (parts ∙ ap₂ (λ x y. x ++ four ++ y ++ six) base levels)) (leaf_up few)

  pub names_enough : lead ≤ k.base_len → low ≤ s.level - 1 → (names : List RowName) → names ≡ names_of k w s lead low → lead + low + others_of k s lead ≤ length names
  names_enough a b names is =
      let one = stretch Base 0 lead in
      let two = stretch Level 1 low in
      let three = stretch Base lead (k.base_len - lead) in
      let four = stretch Cut 0 (length s.cuts) in
      let five = stretch Level (low + 1) ((s.level - 1) - low) in
      let six = floor_names w.floor in
      omega (
        arith,
        ap length is,
        length-append (one ++ two ++ three ++ four ++ five) six,
        length-append (one ++ two ++ three ++ four) five,
        length-append (one ++ two ++ three) four,
        length-append (one ++ two) three,
        length-append one two,
        stretch_length Base 0 lead,
        stretch_length Level 1 low,
        stretch_length Base lead (k.base_len - lead),
        stretch_length Cut 0 (length s.cuts),
      )
