-- The sets of features say what the lines of the measures file list.
use Rattle.std.proofs.Common.{ℕ, ◌≡◌, ◌<◌, ◌+◌, ◌^◌, max, min, Bool, true, false, cond, not, List, [], ◌∷◌, length, map, get_or, refl, ap, ap₂, sym, ◌∙◌, arith, zero, suc, inl, inr, ◌≢◌}
use Rattle.std.specs.Prelude.{◌⊎◌, ◌==◌, ◌&&◌, ◌||◌, bit_and, bit_or}
use Rattle.std.specs.Int.{bit_at}
use Rattle.std.specs.List.{list_all, list_any}
use Rattle.std.proofs.lemmas.Bool.{and_parts, and_from, cases_eq, eq-eqb, ne_eqb}
use Rattle.std.proofs.lemmas.Bool.Decides.{nat_tests}
use Rattle.std.proofs.lemmas.Nat.Bits.{bit_at-zero, bit_at_and, bit_at_or, bit_at-pow_same, bit_at-pow_other, same_from_bits}
use Rattle.problem_core.specs.Facts.{is_pair, run_of}
use Rattle.room_model.specs.ProblemOf.{set_from, sets_of}
use Rattle.room_model.specs.Features.{has_needed, FeaturesAreListed}

-- 1 where the pair is listed, else 0
abbrev listed : ℕ → ℕ → List (ℕ × ℕ) → ℕ
listed k f pairs = cond (list_any (is_pair k f) pairs) 1 0

step_same : (b : Bool) (old : ℕ) → max (max old 1) (cond b 1 0) ≡ max old 1
step_same true old = omega arith
step_same false old = omega arith

set-bit : (k f : ℕ) (start : ℕ) (pairs : List (ℕ × ℕ)) → bit_at (set_from k start pairs) f ≡ max (bit_at start f) (listed k f pairs)
set-bit k f start [] = omega arith
set-bit k f start (x ∷ pairs) = elim (cases_eq x.0 k) [
  | inr other ↦
      ap (λ (b : Bool). bit_at (set_from k (cond b (bit_or start (2 ^ x.1)) start) pairs) f) (ne_eqb x.0 k other)
      ∙ set-bit k f start pairs
      ∙ ap (λ (b : Bool). max (bit_at start f) (cond ((b && (x.1 == f)) || list_any (is_pair k f) pairs) 1 0)) (sym (ne_eqb x.0 k other))
  | inl same ↦
      ap (λ (b : Bool). bit_at (set_from k (cond b (bit_or start (2 ^ x.1)) start) pairs) f) (eq-eqb x.0 k same)
      ∙ set-bit k f (bit_or start (2 ^ x.1)) pairs
      ∙ ap (λ n. max n (listed k f pairs)) (bit_at_or start (2 ^ x.1) f)
      ∙ by_feature (cases_eq x.1 f)
      ∙ ap (λ (b : Bool). max (bit_at start f) (cond ((b && (x.1 == f)) || list_any (is_pair k f) pairs) 1 0)) (sym (eq-eqb x.0 k same))
]
  where
    by_feature : (x.1 ≡ f) ⊎ (x.1 ≢ f) → max (max (bit_at start f) (bit_at (2 ^ x.1) f)) (listed k f pairs) ≡ max (bit_at start f) (cond ((x.1 == f) || list_any (is_pair k f) pairs) 1 0)
    by_feature (inl same) =
        let one : bit_at (2 ^ x.1) f ≡ 1 = ap (bit_at (2 ^ x.1)) (sym same) ∙ bit_at-pow_same x.1 in
        ap (λ n. max (max (bit_at start f) n) (listed k f pairs)) one ∙ step_same (list_any (is_pair k f) pairs) (bit_at start f)
        ∙ ap (λ (b : Bool). max (bit_at start f) (cond (b || list_any (is_pair k f) pairs) 1 0)) (sym (eq-eqb x.1 f same))
    by_feature (inr other) =
        let none : bit_at (2 ^ x.1) f ≡ 0 = bit_at-pow_other x.1 f (λ e. other (sym e)) in
        let old : max (bit_at start f) 0 ≡ bit_at start f = omega arith in
        ap (λ n. max (max (bit_at start f) n) (listed k f pairs)) none ∙ ap (λ n. max n (listed k f pairs)) old
        ∙ ap (λ (b : Bool). max (bit_at start f) (cond (b || list_any (is_pair k f) pairs) 1 0)) (sym (ne_eqb x.1 f other))

set-is : (k f : ℕ) (pairs : List (ℕ × ℕ)) → bit_at (set_from k 0 pairs) f ≡ listed k f pairs
set-is k f pairs = set-bit k f 0 pairs ∙ ap (λ n. max n (listed k f pairs)) (bit_at-zero f) ∙ (let none : max 0 (listed k f pairs) ≡ listed k f pairs = omega arith in none)

at_run : (g : ℕ → ℕ) (s n c : ℕ) → c < n → get_or (map g (run_of s n)) c 0 ≡ g (s + c)
at_run g s zero c l = absurd (omega arith)
at_run g s (suc n) zero l = let e : s ≡ s + 0 = omega arith in ap g e
at_run g s (suc n) (suc c) l = at_run g (s + 1) n c (omega arith) ∙ (let e : s + 1 + c ≡ s + suc c = omega arith in ap g e)

at_set : (n k : ℕ) (pairs : List (ℕ × ℕ)) → k < n → get_or (sets_of n pairs) k 0 ≡ set_from k 0 pairs
at_set n k pairs l = at_run (λ j. set_from j 0 pairs) 0 n k l ∙ (let e : 0 + k ≡ k = omega arith in ap (λ j. set_from j 0 pairs) e)

equal_of : (a b : ℕ) → (a == b) ≡ true → a ≡ b
equal_of a b h = grind (arith, nat_tests, h)

same_truth : (a b : Bool) → (a ≡ true → b ≡ true) → (b ≡ true → a ≡ true) → a ≡ b
same_truth true b f g = sym (f refl)
same_truth false true f g = g refl
same_truth false false f g = refl

or_true : (a b : Bool) → b ≡ true → (a || b) ≡ true
or_true true b l = refl
or_true false b l = l

-- a needed feature is had
had : (needs has : List (ℕ × ℕ)) (c r f : ℕ) → list_all (λ need. not (need.0 == c) || list_any (is_pair r need.1) has) needs ≡ true → list_any (is_pair c f) needs ≡ true → list_any (is_pair r f) has ≡ true
had [] has c r f h k = cc
had (x ∷ needs) has c r f h k =
    let p = and_parts (not (x.0 == c) || list_any (is_pair r x.1) has) (list_all (λ need. not (need.0 == c) || list_any (is_pair r need.1) has) needs) h in
    by_case (is_pair c f x) refl k (had needs has c r f p.1) p.0
  where
    by_case : (t : Bool) → is_pair c f x ≡ t → (t || list_any (is_pair c f) needs) ≡ true → (list_any (is_pair c f) needs ≡ true → list_any (is_pair r f) has ≡ true) → (not (x.0 == c) || list_any (is_pair r x.1) has) ≡ true
        → list_any (is_pair r f) has ≡ true
    by_case false e k later here = later k
    by_case true e k later here =
        let q = and_parts (x.0 == c) (x.1 == f) e in
        let course : (not (x.0 == c) || list_any (is_pair r x.1) has) ≡ list_any (is_pair r x.1) has = ap (λ b. not b || list_any (is_pair r x.1) has) q.0 in
        ap (λ g. list_any (is_pair r g) has) (sym (equal_of x.1 f q.1)) ∙ sym course ∙ here

-- each needed feature is had, where the needed bits are
each_had : (needs has all : List (ℕ × ℕ)) (c r : ℕ) → ((f : ℕ) → list_any (is_pair c f) all ≡ true → list_any (is_pair r f) has ≡ true) → ((x : ℕ × ℕ) → list_any (λ y. (y.0 == x.0) && (y.1 == x.1)) needs ≡ true → list_any (is_pair x.0 x.1) all ≡ true)
    → list_all (λ need. not (need.0 == c) || list_any (is_pair r need.1) has) needs ≡ true
each_had [] has all c r h within = refl
each_had (x ∷ needs) has all c r h within =
    let here : list_any (is_pair x.0 x.1) all ≡ true = within x (first x needs) in
    and_from (not (x.0 == c) || list_any (is_pair r x.1) has) (list_all (λ need. not (need.0 == c) || list_any (is_pair r need.1) has) needs) (by_course (cases_eq x.0 c) here)
    (each_had needs has all c r h (λ y l. within y (later x y needs l)))
  where
    first : (x : ℕ × ℕ) (needs : List (ℕ × ℕ)) → list_any (λ y. (y.0 == x.0) && (y.1 == x.1)) (x ∷ needs) ≡ true
    first x needs = rw (eq-eqb x.0 x.0 refl, eq-eqb x.1 x.1 refl) refl

    later : (x y : ℕ × ℕ) (needs : List (ℕ × ℕ)) → list_any (λ z. (z.0 == y.0) && (z.1 == y.1)) needs ≡ true → list_any (λ z. (z.0 == y.0) && (z.1 == y.1)) (x ∷ needs) ≡ true
    later x y needs l = or_true ((x.0 == y.0) && (x.1 == y.1)) (list_any (λ z. (z.0 == y.0) && (z.1 == y.1)) needs) l

    by_course : (x.0 ≡ c) ⊎ (x.0 ≢ c) → list_any (is_pair x.0 x.1) all ≡ true → (not (x.0 == c) || list_any (is_pair r x.1) has) ≡ true
    by_course (inr other) here = ap (λ b. not b || list_any (is_pair r x.1) has) (ne_eqb x.0 c other)
    by_course (inl same) here = ap (λ b. not b || list_any (is_pair r x.1) has) (eq-eqb x.0 c same) ∙ h x.1 (ap (λ k. list_any (is_pair k x.1) all) (sym same) ∙ here)

min_one : (a b : Bool) → (a ≡ true → b ≡ true) → min (cond {A = ℕ} a 1 0) (cond {A = ℕ} b 1 0) ≡ cond {A = ℕ} a 1 0
min_one true b f = ap (λ (t : Bool). min 1 (cond {A = ℕ} t 1 0)) (f refl)
min_one false true f = refl
min_one false false f = refl

one_where : (a b : Bool) → min (cond {A = ℕ} a 1 0) (cond {A = ℕ} b 1 0) ≡ cond {A = ℕ} a 1 0 → a ≡ true → b ≡ true
one_where true true e h = refl
one_where true false e h = absurd (omega arith)
one_where false b e h = cc

pub features_listed : FeaturesAreListed
features_listed i t m c r known room =
    let n = set_from c 0 m.needs in
    let h = set_from r 0 m.has in
    ap₂ (λ a b. bit_and a b == a) (at_set (length i.courses) c m.needs known) (at_set (length i.rooms) r m.has room)
    ∙ same_truth (bit_and n h == n) (has_needed m c r)
    (λ e. each_had m.needs m.has m.needs c r
    (λ f l. one_where (list_any (is_pair c f) m.needs) (list_any (is_pair r f) m.has)
    (ap₂ min (sym (set-is c f m.needs)) (sym (set-is r f m.has)) ∙ sym (bit_at_and n h f) ∙ ap (λ z. bit_at z f) (equal_of (bit_and n h) n e) ∙ set-is c f m.needs) l)
    (λ x l. l))
    (λ e. eq-eqb (bit_and n h) n (same_from_bits (bit_and n h) n
    (λ f. bit_at_and n h f ∙ ap₂ min (set-is c f m.needs) (set-is r f m.has) ∙ min_one (list_any (is_pair c f) m.needs) (list_any (is_pair r f) m.has) (had m.needs m.has c r f e) ∙ sym (set-is c f m.needs))))
