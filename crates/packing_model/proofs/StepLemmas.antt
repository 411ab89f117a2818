-- Steps of the loops over keys.
use Rattle.std.proofs.Common.{ℕ, ◌≡◌, ◌+◌, ◌-◌, ◌<◌, zero, suc, inl, inr, true, false, not, ◌||◌, refl, arith, ap, ap₂, sym, ◌∙◌, cond, List, [], ◌∷◌, ◌++◌, length, get_or, set, map, take, append_assoc}
use Rattle.std.specs.Prelude.{◌==◌}
use Rattle.std.proofs.lemmas.List.{take_more, get_or-set_same, get_or-set_other}
use Rattle.std.proofs.lemmas.Bool.{cases_eq, and_parts, or_left, or_right, eq-eqb, ne_eqb, not-true, true≢false, cond-true, cond-false}
use Rattle.numbers.specs.Sums.{member, distinct}
use Rattle.problem_core.specs.Facts.{run_of}
use Rattle.packing_model.proofs.DistinctLemmas.{or_none, member-append}

-- one slot of a run more
pub run_step : (f : ℕ → ℕ) (xs next all : List ℕ) (s end k : ℕ) → s < end → next ≡ xs ++ k ∷ [] → k ≡ f s → xs ++ map f (run_of s (end - s)) ≡ all → next ++ map f (run_of (s + 1) (end - (s + 1))) ≡ all
run_step f xs next all s end k l e same h =
    let left : end - s ≡ suc (end - (s + 1)) = omega arith in
    let rest = map f (run_of (s + 1) (end - (s + 1))) in
    ap (λ ys. ys ++ rest) (e ∙ ap (λ i. xs ++ i ∷ []) same)
    ∙ append_assoc xs (f s ∷ []) rest
    ∙ sym (ap (λ n. xs ++ map f (run_of s n)) left)
    ∙ h

pub run_begin : (f : ℕ → ℕ) (xs slots : List ℕ) (s n : ℕ) → slots ≡ run_of s n → xs ++ map f (run_of s (s + n - s)) ≡ xs ++ map f slots
run_begin f xs slots s n e = let same : s + n - s ≡ n = omega arith in ap (λ m. xs ++ map f (run_of s m)) same ∙ sym (ap (λ ys. xs ++ map f ys) e)

-- an element stands in the list, and not before its place where all differ
pub member_at : (xs : List ℕ) (i : ℕ) → i < length xs → member (get_or xs i 0) xs ≡ true
member_at [] i l = absurd (omega (arith, l))
member_at (x ∷ xs) zero l = or_left (x == x) (member x xs) (eq-eqb x x refl)
member_at (x ∷ xs) (suc i) l = or_right (x == get_or xs i 0) (member (get_or xs i 0) xs) (member_at xs i (omega (arith, l)))

pub not_before : (xs : List ℕ) (i : ℕ) → i < length xs → distinct xs ≡ true → member (get_or xs i 0) (take i xs) ≡ false
not_before [] i l d = absurd (omega (arith, l))
not_before (x ∷ xs) zero l d = refl
not_before (x ∷ xs) (suc i) l d =
    let parts = and_parts (not (member x xs)) (distinct xs) d in
    let here : (x == get_or xs i 0) ≡ false = elim (cases_eq x (get_or xs i 0)) [
      | inl same ↦ absurd (true≢false (sym (member_at xs i (omega (arith, l))) ∙ ap (λ y. member y xs) (sym same) ∙ not-true (member x xs) parts.0))
      | inr differ ↦ ne_eqb x (get_or xs i 0) differ
    ] in
    let rest : member (get_or xs i 0) (take i xs) ≡ false = not_before xs i (omega (arith, l)) parts.1 in
    rw (here, rest) refl

-- one key counted more
pub count_step : (keys old now next : List ℕ) (i x n : ℕ) → i < length keys → x ≡ get_or keys i 0 → distinct keys ≡ true → x < length now → length old ≡ length now
    → next ≡ set now x (n + 1) → n ≡ get_or now x 0
    → ((k : ℕ) → get_or now k 0 ≡ cond (member k (take i keys)) (get_or old k 0 + 1) (get_or old k 0))
    → (k : ℕ) → get_or next k 0 ≡ cond (member k (take (i + 1) keys)) (get_or old k 0 + 1) (get_or old k 0)
count_step keys old now next i x n l is differ there same e read h k =
    let more : member k (take (i + 1) keys) ≡ (member k (take i keys) || (x == k)) =
    ap (member k) (take_more keys i 0 l) ∙ member-append k (take i keys) (get_or keys i 0 ∷ []) ∙ ap (λ b. member k (take i keys) || b) (or_none (get_or keys i 0 == k)) ∙ ap (λ y. member k (take i keys) || (y == k)) (sym is) in
    elim (cases_eq k x) [
      | inl one ↦
          let before : member k (take i keys) ≡ false = ap (λ y. member y (take i keys)) (one ∙ is) ∙ not_before keys i l differ in
          let hit : member k (take (i + 1) keys) ≡ true = more ∙ or_right (member k (take i keys)) (x == k) (eq-eqb x k (sym one)) in
          let was : get_or now x 0 ≡ get_or old k 0 = ap (λ y. get_or now y 0) (sym one) ∙ h k ∙ cond-false (member k (take i keys)) (get_or old k 0 + 1) (get_or old k 0) before in
          ap₂ (λ ys y. get_or ys y 0) e one ∙ get_or-set_same now x (n + 1) 0 there ∙ ap (λ m. m + 1) (read ∙ was) ∙ sym (cond-true (member k (take (i + 1) keys)) (get_or old k 0 + 1) (get_or old k 0) hit)
      | inr other ↦
          let same_test : member k (take (i + 1) keys) ≡ member k (take i keys) = more ∙ ap (λ b. member k (take i keys) || b) (ne_eqb x k (λ q. other (sym q))) ∙ or_none (member k (take i keys)) in
          ap (λ ys. get_or ys k 0) e ∙ get_or-set_other now x k (n + 1) 0 other ∙ h k ∙ ap (λ b. cond b (get_or old k 0 + 1) (get_or old k 0)) (sym same_test)
    ]
