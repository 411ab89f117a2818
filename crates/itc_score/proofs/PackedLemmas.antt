-- Packed tables: what two rows have in common is counted in their bits.
use Rattle.std.proofs.Common.{inl, inr, ℕ, ◌≡◌, ◌+◌, ◌*◌, ◌^◌, ◌<◌, ◌≤◌, arith, refl, sym, ◌∙◌, ap, ap₂, zero, suc, Bool, true, false, cond, ◌&&◌, List, length, get_or, bit_and}
use mir.Val.{bool_byte}
use Rattle.std.specs.Prelude.{count_ones}
use Rattle.std.proofs.lemmas.Nat.{and_block, ones_cat, ones_le_self, zero_from_ones}
use Rattle.std.proofs.lemmas.Bool.{cases_eq}
use Rattle.std.proofs.Math.Nat.{pow-suc, pow-le-pow_right}
use Rattle.problem_core.specs.Tables.{IsGrid}
use Rattle.itc_score.specs.Sums.{sum_below, count_below}
use Rattle.itc_score.specs.Packed.{mask, word_of, word_at, IsPacked, bits_in_both}
use Rattle.itc_score.proofs.SumLemmas.{sum_below-same}

bit-small : (b : Bool) → cond b 1 0 < 2
bit-small true = omega arith
bit-small false = omega arith

pub byte-small : (b : Bool) → bool_byte b < 2
byte-small true = omega arith
byte-small false = omega arith

pub mask-small : (f : ℕ → Bool) (n : ℕ) → mask f n < 2 ^ n
mask-small f zero = omega arith
mask-small f (suc n) = omega (arith, mask-small f n, pow-suc 2 n, bit-small (f n))

pub pow-few : (k : ℕ) → k < 50 → 2 ^ k ≤ 1125899906842624
pow-few k l = let h : 2 ^ k ≤ 2 ^ 50 = pow-le-pow_right {n = 2} (omega arith) {i = k} {j = 50} (omega arith) in h

mask-same : (f g : ℕ → Bool) (n m : ℕ) → n ≤ m → ((k : ℕ) → k < m → f k ≡ g k) → mask f n ≡ mask g n
mask-same f g zero m l h = refl
mask-same f g (suc n) m l h = ap₂ (λ a b. 2 * a + cond b 1 0) (mask-same f g n m (omega arith) h) (h n (omega arith))

pub word-same : (f g : ℕ → Bool) → ((k : ℕ) → k < 50 → f k ≡ g k) → word_of f ≡ word_of g
unfolding word_of
word-same f g h = mask-same f g 50 50 (omega arith) h

no-ones : count_ones 0 ≡ 0
no-ones = omega (arith, ones_le_self 0)

one-one : count_ones 1 ≡ 1
one-one = elim (cases_eq (count_ones 1) 0) [
  | inl none ↦ let z : 1 ≡ 0 = zero_from_ones 1 none in absurd (omega (arith, z))
  | inr some ↦ let l = ones_le_self 1 in omega (arith, l, some)
]

one-both : (a b : Bool) → count_ones (bit_and (cond a 1 0) (cond b 1 0)) ≡ cond (a && b) 1 0
one-both true true = one-one
one-both true false = no-ones
one-both false true = no-ones
one-both false false = no-ones

one-small : (a b : Bool) → bit_and (cond a 1 0) (cond b 1 0) < 2 ^ 1
one-small true true = omega arith
one-small true false = omega arith
one-small false true = omega arith
one-small false false = omega arith

bit-one : (b : Bool) → cond b 1 0 < 2 ^ 1
bit-one true = omega arith
bit-one false = omega arith

twice : (n r : ℕ) → 2 * n + r ≡ n * 2 ^ 1 + r
twice n r = omega arith

pub ones-mask : (f g : ℕ → Bool) (n : ℕ) → count_ones (bit_and (mask f n) (mask g n)) ≡ count_below (λ k. f k && g k) n
ones-mask f g zero = no-ones
ones-mask f g (suc n) =
    ap₂ (λ a b. count_ones (bit_and a b)) (twice (mask f n) (cond (f n) 1 0)) (twice (mask g n) (cond (g n) 1 0))
    ∙ ap count_ones (and_block 1 (mask f n) (mask g n) (cond (f n) 1 0) (cond (g n) 1 0) (bit-one (f n)) (bit-one (g n)))
    ∙ ones_cat 1 (bit_and (mask f n) (mask g n)) (bit_and (cond (f n) 1 0) (cond (g n) 1 0)) (one-small (f n) (g n))
    ∙ ap₂ (λ a b. a + b) (ones-mask f g n) (one-both (f n) (g n))

ones-word-to : (n : ℕ) (f g : ℕ → Bool) → n ≡ 50 → count_ones (bit_and (word_of f) (word_of g)) ≡ count_below (λ k. f k && g k) n
unfolding word_of
ones-word-to n f g e = ap₂ (λ a b. count_ones (bit_and a b)) (ap (mask f) (sym e)) (ap (mask g) (sym e)) ∙ ones-mask f g n

-- ---- a sum block by block

sum-split : (f : ℕ → ℕ) (a b : ℕ) → sum_below f (a + b) ≡ sum_below f a + sum_below (λ k. f (a + k)) b
sum-split f a zero = let e : a + 0 ≡ a = omega arith in ap (sum_below f) e ∙ (let z : sum_below f a ≡ sum_below f a + 0 = omega arith in z)
sum-split f a (suc b) =
    let e : a + suc b ≡ suc (a + b) = omega arith in
    ap (sum_below f) e ∙ (let step = sum-split f a b in let z : sum_below f (a + b) + f (a + b) ≡ sum_below f a + (sum_below (λ k. f (a + k)) b + f (a + b)) = omega (arith, step) in z)

pub sum-blocks : (f : ℕ → ℕ) (m n : ℕ) → sum_below (λ j. sum_below (λ k. f (j * m + k)) m) n ≡ sum_below f (n * m)
sum-blocks f m zero = ap (sum_below f) (let e : 0 ≡ 0 * m = omega arith in e)
sum-blocks f m (suc n) =
    let e : n * m + m ≡ suc n * m = omega arith in
    ap (λ x. x + sum_below (λ k. f (n * m + k)) m) (sum-blocks f m n) ∙ sym (sum-split f (n * m) m) ∙ ap (sum_below f) e

-- ---- rows in common

pub rows-in-both : (words others : List ℕ) (rows rows' : ℕ) (f g : ℕ → ℕ → Bool) (r s n m : ℕ) → IsPacked words rows f → IsPacked others rows' g → r < rows → s < rows' → n ≡ 20 → m ≡ 50
    → bits_in_both words (r * 20) others (s * 20) n ≡ count_below (λ d. f r d && g s d) (n * m)
rows-in-both words others rows rows' f g r s n m packed packed' l l' e e' =
    sum_below-same (λ j. count_ones (bit_and (get_or words (r * 20 + j) 0) (get_or others (s * 20 + j) 0))) (λ j. sum_below (λ k. cond (f r (j * m + k) && g s (j * m + k)) 1 0) m) n
    (λ j b. ap₂ (λ x y. count_ones (bit_and x y)) (packed.word r j l (omega (arith, b, e))) (packed'.word s j l' (omega (arith, b, e)))
    ∙ ones-word-to m (λ k. f r (j * 50 + k)) (λ k. g s (j * 50 + k)) e'
    ∙ ap (λ w. sum_below (λ k. cond (f r (j * w + k) && g s (j * w + k)) 1 0) m) (sym e'))
    ∙ sum-blocks (λ d. cond (f r d && g s d) 1 0) m n

pub IsPacked-made : (cells : List Bool) (words : List ℕ) (rows : ℕ) (f : ℕ → ℕ → Bool) → IsGrid cells rows 1000 f → length words ≡ rows * 20
    → ((w d : ℕ) → w < rows * 20 → get_or words w d ≡ word_at cells (w * 50)) → IsPacked words rows f
IsPacked-made cells words rows f grid whole h = record {
  whole = whole;
  word = λ r j l m. h (r * 20 + j) 0 (omega (arith, l, m)) ∙ word-same (λ k. get_or cells ((r * 20 + j) * 50 + k) false) (λ k. f r (j * 50 + k))
      (λ k b. ap (λ x. get_or cells x false) (let e : (r * 20 + j) * 50 + k ≡ r * 1000 + (j * 50 + k) = omega arith in e) ∙ grid.cell r (j * 50 + k) false l (omega (arith, m, b)));
}

pub word-ended : (f : ℕ → Bool) (n w : ℕ) → n ≡ 50 → w ≡ mask f n → w ≡ word_of f
unfolding word_of
word-ended f n w e h = h ∙ ap (mask f) e
