-- Written fields are read again: numbers, names, the numbers of named courses.
use Rattle.std.proofs.Common.{ℕ, ◌≡◌, ◌≤◌, ◌<◌, ◌+◌, ◌^◌, Bool, true, false, cond, not, List, [], ◌∷◌, length, map, get_or, refl, ap, ◌∙◌, arith, suc, zero}
use Rattle.std.specs.Prelude.{nat_le, nat_lt, Some, None, Ok, bytes_eq, decimal}
use Rattle.std.specs.List.{list_all, prefix_len}
use Rattle.std.proofs.lemmas.Bool.{and_parts, not-true, le-leb, lt-ltb, le-ltb}
use Rattle.std.proofs.lemmas.Bool.Decides.{nat_tests}
use Rattle.std.specs.Cmp.Lexicographic.{bytes_decides}
use Rattle.input_core.specs.Lines.{is_field, number_of}
use Rattle.input_core.specs.Fields.{name_of, number_in, number_below, within, below, or_fault}
use Rattle.input_core.specs.declared.faults.LineKind.TheVariants.{Number}
use Rattle.input_core.proofs.ChainLemmas.{bind-ok}
use Rattle.text_lines.proofs.ReadBack.{number_of-decimal}
use Rattle.ctt_reader.specs.Names.{has_name, place_of}
use Rattle.ctt_reader.specs.Promised.{is_name, are_different}
use Rattle.ctt_reader.proofs.EntryLemmas.{same_both_ways, or_parts}

pub same_bytes : (a : List ℕ) → bytes_eq a a ≡ true
same_bytes a = (bytes_decides a a).1 refl

pub number_in-back : (low high n : ℕ) → low ≤ n → n ≤ high → high < 10 ^ 9 → number_in low high (decimal n) ≡ Ok n
number_in-back low high n l h few =
    bind-ok (or_fault (number_of (decimal n)) Number) (within low high) n (ap (λ o. or_fault o Number) (number_of-decimal n (omega arith)))
    ∙ rw (le-leb low n l, le-leb n high h) refl

pub number_below-back : (limit n : ℕ) → n < limit → limit < 10 ^ 9 → number_below limit (decimal n) ≡ Ok n
number_below-back limit n l few =
    bind-ok (or_fault (number_of (decimal n)) Number) (below limit) n (ap (λ o. or_fault o Number) (number_of-decimal n (omega arith)))
    ∙ rw (lt-ltb n limit l) refl

pub at_most : (n high : ℕ) → nat_le n high ≡ true → n ≤ high
at_most n high h = grind (arith, nat_tests, h)

pub under : (n high : ℕ) → nat_lt n high ≡ true → n < high
under n high h = grind (arith, nat_tests, h)

pub name_of-back : (name : List ℕ) → is_name name ≡ true → name_of name ≡ Ok name
name_of-back name h =
    let short = at_most (length name) 64 (and_parts (is_field name) (nat_le (length name) 64) h).1 in
    rw (le-ltb 64 (length name) short) refl

pub name-is_field : (name : List ℕ) → is_name name ≡ true → is_field name ≡ true
name-is_field name h = (and_parts (is_field name) (nat_le (length name) 64) h).0

-- the names after one that differs from all of them
other-later : (name : List ℕ) (names : List (List ℕ)) (k : ℕ) (d : List ℕ) → has_name name names ≡ false → k < length names → bytes_eq (get_or names k d) name ≡ false
other-later name [] k d h l = absurd (omega arith)
other-later name (x ∷ names) zero d h l = same_both_ways name x (or_parts (bytes_eq name x) (has_name name names) h).0
other-later name (x ∷ names) (suc k) d h l = other-later name names k d (or_parts (bytes_eq name x) (has_name name names) h).1 (omega arith)

prefix-at : (names : List (List ℕ)) (k : ℕ) (d : List ℕ) → are_different names ≡ true → k < length names → prefix_len (λ y. not (bytes_eq (get_or names k d) y)) names ≡ k
prefix-at [] k d h l = absurd (omega arith)
prefix-at (x ∷ names) zero d h l = rw (same_bytes x) refl
prefix-at (x ∷ names) (suc k) d h l =
    let p = and_parts (not (has_name x names)) (are_different names) h in
    rw (other-later x names k d (not-true (has_name x names) p.0) (omega arith)) (rw (prefix-at names k d p.1 (omega arith)) (let next : 1 + k ≡ suc k = omega arith in next))

-- the place of a name among different ones
pub place_of-back : (names : List (List ℕ)) (k : ℕ) (d : List ℕ) → are_different names ≡ true → k < length names → place_of (get_or names k d) names ≡ Some k
place_of-back names k d h l = placed (prefix_len (λ y. not (bytes_eq (get_or names k d) y)) names) (prefix-at names k d h l)
  where
    placed : (n : ℕ) → n ≡ k → cond (nat_lt n (length names)) (Some n) None ≡ Some k
    placed n e = rw e (rw (lt-ltb k (length names) l) refl)

pub named-at : {A : Type 0} (name : A → List ℕ) (items : List A) (k : ℕ) (d : A) (e : List ℕ) → k < length items → get_or (map name items) k e ≡ name (get_or items k d)
named-at name [] k d e l = absurd (omega arith)
named-at name (x ∷ items) zero d e l = refl
named-at name (x ∷ items) (suc k) d e l = named-at name items k d e (omega arith)

pub passes-at : {A : Type 0} (test : A → Bool) (items : List A) (k : ℕ) (d : A) → list_all test items ≡ true → k < length items → test (get_or items k d) ≡ true
passes-at test [] k d h l = absurd (omega arith)
passes-at test (x ∷ items) zero d h l = (and_parts (test x) (list_all test items) h).0
passes-at test (x ∷ items) (suc k) d h l = passes-at test items k d (and_parts (test x) (list_all test items) h).1 (omega arith)
