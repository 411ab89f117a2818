-- Names of a letter and a number.
use Rattle.std.proofs.Common.{ℕ, ◌≡◌, ◌<◌, ◌≤◌, ◌^◌, true, not, refl, arith, ap, List, [], ◌∷◌, length, map}
use Rattle.std.specs.Prelude.{decimal, bytes_eq, nat_le}
use Rattle.std.specs.List.{list_all}
use Rattle.std.specs.Cmp.Lexicographic.{bytes_decides}
use Rattle.std.proofs.lemmas.Bool.{and_parts, and_from, le-leb, ne_eqb, false_from_ne_true, not_from_false}
use Rattle.std.proofs.lemmas.Fmt.{length-decimal-le, decimal_injective}
use Rattle.std.proofs.lemmas.List.{append_cancel_left}
use Rattle.input_core.specs.Lines.{is_graphic, is_some_text, is_field}
use Rattle.text_lines.proofs.ReadBack.{decimal-is_field}
use Rattle.ctt_reader.specs.Names.{has_name}
use Rattle.ctt_reader.specs.Promised.{is_name, are_different}
use Rattle.measure_file.specs.Promised.{all_pairs}
use Rattle.demo_files.specs.Generator.{indices}
use Rattle.demo_files.proofs.IndexLemmas.{pairs-at, none-any}

pub numbered-is_name : (c i : ℕ) → is_graphic c ≡ true → i < 1000 → is_name (c ∷ decimal i) ≡ true
numbered-is_name c i graphic small =
    let fits : i < 2 ^ 64 = omega arith in
    let digits = and_parts (is_some_text (decimal i)) (list_all is_graphic (decimal i)) (decimal-is_field i fits) in
    let all : list_all is_graphic (c ∷ decimal i) ≡ true = and_from (is_graphic c) (list_all is_graphic (decimal i)) graphic digits.1 in
    let short : length (decimal i) ≤ 3 = length-decimal-le 3 i (omega arith) small fits in
    and_from (is_field (c ∷ decimal i)) (nat_le (length (c ∷ decimal i)) 64) (and_from (is_some_text (c ∷ decimal i)) (list_all is_graphic (c ∷ decimal i)) (ap not (ne_eqb (length (c ∷ decimal i)) 0 (λ e. absurd (omega arith)))) all) (le-leb (length (c ∷ decimal i)) 64 (omega (arith, short)))

numbered-differ : (c i j : ℕ) → i < j → j < 1000 → not (bytes_eq (c ∷ decimal i) (c ∷ decimal j)) ≡ true
numbered-differ c i j less small =
    not_from_false (bytes_eq (c ∷ decimal i) (c ∷ decimal j)) (false_from_ne_true (bytes_eq (c ∷ decimal i) (c ∷ decimal j)) (λ e.
    let digits : decimal i ≡ decimal j = append_cancel_left (c ∷ []) (decimal i) (decimal j) ((bytes_decides (c ∷ decimal i) (c ∷ decimal j)).0 e) in
    let same : i ≡ j = decimal_injective i j (omega arith) (omega arith) digits in
    absurd (omega arith)))

different-pairs : (names : List (List ℕ)) → all_pairs (λ x y. not (bytes_eq x y)) names ≡ true → are_different names ≡ true
different-pairs [] h = refl
different-pairs (x ∷ names) h =
    let p = and_parts (list_all (λ y. not (bytes_eq x y)) names) (all_pairs (λ y z. not (bytes_eq y z)) names) h in
    and_from (not (has_name x names)) (are_different names) (none-any (bytes_eq x) names p.0) (different-pairs names p.1)

pub numbered-different : (c n : ℕ) → n ≤ 1000 → are_different (map (λ i. c ∷ decimal i) (indices n)) ≡ true
numbered-different c n few =
    different-pairs (map (λ i. c ∷ decimal i) (indices n)) (pairs-at (λ x y. not (bytes_eq x y)) (λ i. c ∷ decimal i) n (λ i j l k. numbered-differ c i j l (omega arith)))
