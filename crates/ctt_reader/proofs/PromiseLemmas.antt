-- What an instance that was read keeps to, line after line.
use Rattle.std.proofs.Common.{ℕ, ◌≡◌, Bool, true, false, cond, List, [], ◌∷◌, length, refl, arith, subst}
use Rattle.std.specs.Prelude.{nat_le, nat_lt, Some, None, Ok, Err, bytes_eq, codes}
use Rattle.std.specs.List.{list_all, position_or_len}
use Rattle.std.proofs.lemmas.Bool.{and_parts}
use Rattle.std.proofs.lemmas.Bool.Decides.{nat_tests}
use Rattle.input_core.specs.Lines.{is_field}
use Rattle.input_core.specs.Fields.{name_of, number_in, or_fault}
use Rattle.input_core.specs.declared.faults.LineKind.TheVariants.{Fields}
use Rattle.input_core.proofs.ChainLemmas.{chained, if-ok, then-ok, or_fault-ok, both, number_in-ok, name_of-ok}
use Rattle.ctt_reader.specs.Names.{place_of, course_at}
use Rattle.ctt_reader.specs.Entries.{is_short, words_of, title_of, number_after}
use Rattle.ctt_reader.specs.Promised.{is_name}

short_is : (field : List ℕ) → nat_lt 64 (length field) ≡ false → nat_le (length field) 64 ≡ true
short_is field h = grind (arith, nat_tests, h)

pub named : (field name : List ℕ) → is_field field ≡ true → name_of field ≡ Ok name → is_name name ≡ true
named field name h e =
    let n = name_of-ok field name e in
    subst (λ (x : List ℕ). is_name x ≡ true) n.1 (both (is_field field) (nat_le (length field) 64) h (short_is field n.0))

-- a place among names is below their number
pub place_of-ok : (name : List ℕ) (names : List (List ℕ)) (k : ℕ) → place_of name names ≡ Some k → nat_lt k (length names) ≡ true
place_of-ok name names k e = placed (nat_lt (position_or_len (bytes_eq name) names) (length names)) (position_or_len (bytes_eq name) names) k refl e
  where
    placed : (t : Bool) (n m : ℕ) → nat_lt n (length names) ≡ t → cond t (Some n) None ≡ Some m → nat_lt m (length names) ≡ true
    placed true n m h e = let same : n ≡ m = cc in rw (← same) h
    placed false n m h e = cc

pub course_at-ok : (names : List (List ℕ)) (field : List ℕ) (k : ℕ) → course_at names field ≡ Ok k → nat_lt k (length names) ≡ true
course_at-ok names field k e =
    let c = chained (name_of field) (λ name. or_fault (place_of name names) _) k e in
    place_of-ok c.first names k (or_fault-ok (place_of c.first names) _ k c.rest)

all_short : (words : List (List ℕ)) → list_all is_field words ≡ true → list_all is_short words ≡ true → list_all is_name words ≡ true
all_short [] h s = refl
all_short (word ∷ words) h s =
    let p = and_parts (is_field word) (list_all is_field words) h in
    let q = and_parts (is_short word) (list_all is_short words) s in
    both (is_name word) (list_all is_name words) (both (is_field word) (is_short word) p.0 q.0) (all_short words p.1 q.1)

pub title-ok : (fields title : List (List ℕ)) → list_all is_field fields ≡ true → title_of fields ≡ Ok title → list_all is_name title ≡ true
title-ok [] title h e = cc
title-ok (first ∷ words) title h e =
    let p = and_parts (is_field first) (list_all is_field words) h in
    let t = then-ok (bytes_eq first (codes "Name:")) (words_of words) title _ e in
    let s = if-ok (list_all is_short words) words title _ t.1 in
    subst (λ (x : List (List ℕ)). list_all is_name x ≡ true) s.1 (all_short words p.1 s.0)

pub number_after-ok : (word : List ℕ) (low high : ℕ) (fields : List (List ℕ)) (n : ℕ) → number_after word low high fields ≡ Ok n → (nat_le low n ≡ true) × (nat_le n high ≡ true)
number_after-ok word low high [] n e = cc
number_after-ok word low high (first ∷ []) n e = let t = then-ok (bytes_eq first word) (Err Fields) n _ e in cc
number_after-ok word low high (first ∷ number ∷ []) n e = let t = then-ok (bytes_eq first word) (number_in low high number) n _ e in number_in-ok low high number n t.1
number_after-ok word low high (first ∷ number ∷ other ∷ fields) n e = let t = then-ok (bytes_eq first word) (Err Fields) n _ e in cc
