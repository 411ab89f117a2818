-- Names that differ, one after the other.
use Rattle.std.proofs.Common.{ℕ, ◌≡◌, ◌<◌, ◌+◌, ◌++◌, true, false, not, List, [], ◌∷◌, length, drop, get_or, map, refl, ap, sym, ◌∙◌, add-one, drop-cons, append_assoc}
use Rattle.std.specs.Prelude.{bytes_eq}
use Rattle.std.proofs.lemmas.Bool.{and_parts, not-true}
use Rattle.ctt_reader.specs.Names.{has_name, with_name}
use Rattle.ctt_reader.specs.Promised.{are_different}
use Rattle.ctt_reader.proofs.EntryLemmas.{same_both_ways, or_parts}

middle_differs : (x y : List ℕ) (names rest : List (List ℕ)) → has_name y (names ++ x ∷ rest) ≡ false → bytes_eq y x ≡ false
middle_differs x y [] rest h = (or_parts (bytes_eq y x) (has_name y rest) h).0
middle_differs x y (name ∷ names) rest h = middle_differs x y names rest (or_parts (bytes_eq y name) _ h).1

-- a name after these is none of them, where all differ
pub new-among : (x : List ℕ) (names rest : List (List ℕ)) → are_different (names ++ x ∷ rest) ≡ true → has_name x names ≡ false
new-among x [] rest h = refl
new-among x (name ∷ names) rest h =
    let p = and_parts (not (has_name name (names ++ x ∷ rest))) (are_different (names ++ x ∷ rest)) h in
    let other : bytes_eq x name ≡ false = same_both_ways name x (middle_differs x name names rest (not-true (has_name name (names ++ x ∷ rest)) p.0)) in
    rw other (new-among x names rest p.1)

-- one more of the names of a list of items
pub names-more : {A : Type 0} (name : A → List ℕ) (items : List A) (i : ℕ) (item : A) (names new : List (List ℕ)) → i < length items → item ≡ get_or items i item
    → are_different (map name items) ≡ true → names ++ map name (drop i items) ≡ map name items → new ≡ with_name names (name item)
    → new ++ map name (drop (i + 1) items) ≡ map name items
names-more name items i item names new l is differ so_far add =
    let cut : drop i items ≡ item ∷ drop (i + 1) items = rw (add-one, drop-cons items i item, ← is) refl in
    let all : names ++ name item ∷ map name (drop (i + 1) items) ≡ map name items = ap (λ xs. names ++ map name xs) (sym cut) ∙ so_far in
    let fresh : has_name (name item) names ≡ false = new-among (name item) names (map name (drop (i + 1) items)) (ap are_different all ∙ differ) in
    let grown : new ≡ names ++ name item ∷ [] = add ∙ rw fresh refl in
    rw grown (append_assoc names (name item ∷ []) (map name (drop (i + 1) items)) ∙ all)
