-- Entries that list what each pattern has.
use Rattle.std.proofs.Common.{ℕ, ◌≡◌, ◌<◌, ◌≤◌, ◌+◌, arith, refl, sym, ◌∙◌, ap, subst, suc, add-one, true, false, List, [], ◌∷◌, ◌++◌, map, inl, inr}
use Rattle.std.specs.Prelude.{ℤ, pos, ◌≤ℤ◌, ◌<ℤ◌, ◌==◌, nat_lt, int_lt, int_le, if◌then◌else◌}
use Rattle.std.specs.List.{list_all}
use Rattle.std.specs.Ordering.{int_eq}
use Rattle.std.proofs.lemmas.Int.{ints}
use Rattle.std.proofs.lemmas.Bool.{and_parts, and_from, cases_Bool, cases_lt, ltb-true, lt-ltb, ne_eqb, eq-eqb}
use Rattle.std.proofs.lemmas.Bool.Decides.{Decides-int_eq}
use Rattle.std.proofs.lemmas.List.Folds.{list_all-append}
use Rattle.packing_model.specs.Rising.{rises_from, is_rising}
use Rattle.search_nodes.specs.Points.{entry_of, is_part}
use Rattle.node_bound.specs.Amounts.{IsListed, with_entry}

numbers : List (ℕ × ℤ) → List ℕ
numbers es = map (λ (e : ℕ × ℤ). e.0) es

-- ---- an entry behind all others

rises_more : (q p : ℕ) (v : ℤ) (es : List (ℕ × ℤ)) → q < p → list_all (λ (e : ℕ × ℤ). nat_lt e.0 p) es ≡ true → rises_from q (numbers es) ≡ true → rises_from q (numbers (es ++ (p, v) ∷ [])) ≡ true
unfolding numbers
rises_more q p v [] l b h = and_from (nat_lt q p) true (lt-ltb q p l) refl
rises_more q p v (e ∷ es) l b h =
    let below = and_parts (nat_lt e.0 p) (list_all (λ (y : ℕ × ℤ). nat_lt y.0 p) es) b in
    let parts = and_parts (nat_lt q e.0) (rises_from e.0 (numbers es)) h in
    and_from (nat_lt q e.0) (rises_from e.0 (numbers (es ++ (p, v) ∷ []))) parts.0 (rises_more e.0 p v es (ltb-true e.0 p below.0) below.1 parts.1)

rising_more : (p : ℕ) (v : ℤ) (es : List (ℕ × ℤ)) → list_all (λ (e : ℕ × ℤ). nat_lt e.0 p) es ≡ true → is_rising (numbers es) ≡ true → is_rising (numbers (es ++ (p, v) ∷ [])) ≡ true
unfolding numbers
rising_more p v [] b h = refl
rising_more p v (e ∷ es) b h =
    let below = and_parts (nat_lt e.0 p) (list_all (λ (y : ℕ × ℤ). nat_lt y.0 p) es) b in
    rises_more e.0 p v es (ltb-true e.0 p below.0) below.1 h

known_more : (es : List (ℕ × ℤ)) (n : ℕ) → list_all (λ (e : ℕ × ℤ). nat_lt e.0 n) es ≡ true → list_all (λ (e : ℕ × ℤ). nat_lt e.0 (suc n)) es ≡ true
known_more [] n h = refl
known_more (e ∷ es) n h =
    let parts = and_parts (nat_lt e.0 n) (list_all (λ (y : ℕ × ℤ). nat_lt y.0 n) es) h in
    and_from (nat_lt e.0 (suc n)) (list_all (λ (y : ℕ × ℤ). nat_lt y.0 (suc n)) es) (lt-ltb e.0 (suc n) (let l = ltb-true e.0 n parts.0 in omega arith)) (known_more es n parts.1)

-- none of them is at the number or behind it
nothing_from : (es : List (ℕ × ℤ)) (n p : ℕ) → n ≤ p → list_all (λ (e : ℕ × ℤ). nat_lt e.0 n) es ≡ true → entry_of es p ≡ pos 0
nothing_from [] n p l h = refl
nothing_from (e ∷ es) n p l h =
    let parts = and_parts (nat_lt e.0 n) (list_all (λ (y : ℕ × ℤ). nat_lt y.0 n) es) h in
    let below = ltb-true e.0 n parts.0 in
    rw (ne_eqb e.0 p (λ same. absurd (omega arith))) (nothing_from es n p l parts.1)

gives_old : (es : List (ℕ × ℤ)) (n p : ℕ) (v : ℤ) → p < n → entry_of (es ++ (n, v) ∷ []) p ≡ entry_of es p
gives_old [] n p v l = rw (ne_eqb n p (λ same. absurd (omega arith))) refl
gives_old (e ∷ es) n p v l = ap (λ x. if e.0 == p then e.1 else x) (gives_old es n p v l)

gives_new : (es : List (ℕ × ℤ)) (n : ℕ) (v : ℤ) → list_all (λ (e : ℕ × ℤ). nat_lt e.0 n) es ≡ true → entry_of (es ++ (n, v) ∷ []) n ≡ v
gives_new [] n v h = rw (eq-eqb n n refl) refl
gives_new (e ∷ es) n v h =
    let parts = and_parts (nat_lt e.0 n) (list_all (λ (y : ℕ × ℤ). nat_lt y.0 n) es) h in
    let below = ltb-true e.0 n parts.0 in
    rw (ne_eqb e.0 n (λ same. absurd (omega arith))) (gives_new es n v parts.1)

-- ---- step by step

pub none_listed : (amount : ℕ → ℤ) → IsListed amount 0 []
none_listed amount = record { rising = refl; known = refl; gives = λ p l. absurd (omega arith); parts = λ den h. refl }

at_end : {P : ℕ → Type 0} (n : ℕ) → ((p : ℕ) → p < n → P p) → P n → (p : ℕ) → p < suc n → P p
at_end {P} n h here p l = elim (cases_lt p n) [
  | inl below ↦ h p below
  | inr more ↦ let same : n ≡ p = omega arith in subst P same here
]

never : (z : ℤ) → int_eq z (pos 0) ≡ false → pos 0 ≤ℤ z → int_lt (pos 0) z ≡ false → ⊥
never z h l k = grind (arith, ints)

is_part_of : (den x : ℤ) (n : ℕ) → int_eq x (pos 0) ≡ false → pos 0 ≤ℤ x → x ≤ℤ den → is_part den (n, x) ≡ true
is_part_of den x n some low high = and_from (int_lt (pos 0) x) (int_le x den) (positive x some low) (le_true x den high)
  where
    le_true : (a b : ℤ) → a ≤ℤ b → int_le a b ≡ true
    le_true a b h = grind (arith, ints)

    lt_true : (a b : ℤ) → a <ℤ b → int_lt a b ≡ true
    lt_true a b h = grind (arith, ints)

    positive : (z : ℤ) → int_eq z (pos 0) ≡ false → pos 0 ≤ℤ z → int_lt (pos 0) z ≡ true
    positive z h l = elim (cases_Bool (int_lt (pos 0) z)) [
      | inl is ↦ is
      | inr not_more ↦ absurd (never z h l not_more)
    ]

pub listed_more : (amount : ℕ → ℤ) (n : ℕ) (es : List (ℕ × ℤ)) → IsListed amount n es → IsListed amount (n + 1) (with_entry n (amount n) es)
unfolding numbers
listed_more amount n es is = subst (λ m. IsListed amount m (with_entry n (amount n) es)) (sym (add-one n)) (elim (cases_Bool (int_eq (amount n) (pos 0))) [
  | inl none ↦ subst (IsListed amount (suc n)) (sym (ap (λ b. if b then es else es ++ (n, amount n) ∷ []) none)) (record {
    rising = is.rising;
    known = known_more es n is.known;
    gives = at_end n is.gives (nothing_from es n n (omega arith) is.known ∙ sym ((Decides-int_eq (amount n) (pos 0)).0 none));
    parts = λ den h. is.parts den (λ p l. h p (omega arith));
  })
  | inr some ↦ subst (IsListed amount (suc n)) (sym (ap (λ b. if b then es else es ++ (n, amount n) ∷ []) some)) (record {
    rising = rising_more n (amount n) es is.known is.rising;
    known = list_all-append (λ (e : ℕ × ℤ). nat_lt e.0 (suc n)) es ((n, amount n) ∷ []) ∙ and_from _ _ (known_more es n is.known) (and_from (nat_lt n (suc n)) true (lt-ltb n (suc n) (omega arith)) refl);
    gives = at_end n (λ p l. gives_old es n p (amount n) l ∙ is.gives p l) (gives_new es n (amount n) is.known);
    parts = λ den h. list_all-append (is_part den) es ((n, amount n) ∷ []) ∙ and_from _ _ (is.parts den (λ p l. h p (omega arith))) (and_from (is_part den (n, amount n)) true (is_part_of den (amount n) n some (h n (omega arith)).0 (h n (omega arith)).1) refl);
  })
])
