-- Sums over the patterns of a point are sums over its entries.
use Rattle.std.proofs.Common.{ℕ, ◌≡◌, arith, refl, sym, ◌∙◌, ap, Bool, true, false, not, List, [], ◌∷◌, map, inl, inr}
use Rattle.std.specs.Prelude.{ℤ, pos, ◌+ℤ◌, ◌*ℤ◌, ◌==◌, nat_lt}
use Rattle.std.specs.List.{list_all}
use Rattle.std.proofs.lemmas.Int.{ints}
use Rattle.std.proofs.lemmas.Bool.{and_parts, cases_Bool, eqb-true, ltb-true, not-true, or_parts}
use Rattle.std.proofs.Math.IntN.{*ℤ-zero}
use Rattle.numbers.specs.Algebra.{*ℤ-+ℤ}
use Rattle.numbers.specs.Sums.{total, picked, member, distinct, sum_below, sum_below-same, sum_below-+ℤ, sum_below-one, sum_below-zero}
use Rattle.duality.specs.Packing.{Packing}
use Rattle.packing_model.specs.declared.point.Point.{Point}
use Rattle.packing_model.proofs.ListLemmas.{rising_distinct}
use Rattle.search_nodes.specs.Points.{entry_of, sum_at, IsPointOf}

numbers : List (ℕ × ℤ) → List ℕ
numbers es = map (λ (e : ℕ × ℤ). e.0) es

-- a pattern that is not listed has nothing
unlisted : (es : List (ℕ × ℤ)) (p : ℕ) → member p (numbers es) ≡ false → entry_of es p ≡ pos 0
unfolding numbers
unlisted [] p h = refl
unlisted (e ∷ es) p h = let parts = or_parts (e.0 == p) (member p (numbers es)) h in rw parts.0 (unlisted es p parts.1)

-- one entry, and what the others give
one_more : (es : List (ℕ × ℤ)) (e : ℕ × ℤ) (p : ℕ) → member e.0 (numbers es) ≡ false → entry_of (e ∷ es) p ≡ picked (e.0 == p) e.1 +ℤ entry_of es p
one_more es e p h = elim (cases_Bool (e.0 == p)) [
  | inl here ↦
      let none : entry_of es p ≡ pos 0 = ap (entry_of es) (sym (eqb-true e.0 p here)) ∙ unlisted es e.0 h in
      rw (here, none) (omega (arith, ints))
  | inr other ↦ rw other (omega (arith, ints))
]

times_sum : (f x y : ℤ) → f *ℤ (x +ℤ y) ≡ (f *ℤ x) +ℤ (f *ℤ y)
times_sum f x y = *ℤ-+ℤ f x y

picked_times : (b : Bool) (f x : ℤ) → f *ℤ picked b x ≡ picked b (f *ℤ x)
picked_times true f x = refl
picked_times false f x = *ℤ-zero f

sums : (f : ℕ → ℤ) (es : List (ℕ × ℤ)) (n : ℕ) → distinct (numbers es) ≡ true → list_all (λ (e : ℕ × ℤ). nat_lt e.0 n) es ≡ true → sum_below (λ p. f p *ℤ entry_of es p) n ≡ total (λ (e : ℕ × ℤ). f e.0 *ℤ e.1) es
unfolding numbers
sums f [] n d b = sum_below-zero (λ p. f p *ℤ pos 0) n (λ i l. *ℤ-zero (f i))
sums f (e ∷ es) n d b =
    let apart = and_parts (not (member e.0 (numbers es))) (distinct (numbers es)) d in
    let below = and_parts (nat_lt e.0 n) (list_all (λ (x : ℕ × ℤ). nat_lt x.0 n) es) b in
    let here : (p : ℕ) → f p *ℤ entry_of (e ∷ es) p ≡ picked (e.0 == p) (f p *ℤ e.1) +ℤ (f p *ℤ entry_of es p) = λ p.
    ap (λ x. f p *ℤ x) (one_more es e p (not-true (member e.0 (numbers es)) apart.0)) ∙ times_sum (f p) (picked (e.0 == p) e.1) (entry_of es p)
    ∙ ap (λ x. x +ℤ (f p *ℤ entry_of es p)) (picked_times (e.0 == p) (f p) e.1) in
    sum_below-same (λ p. f p *ℤ entry_of (e ∷ es) p) (λ p. picked (e.0 == p) (f p *ℤ e.1) +ℤ (f p *ℤ entry_of es p)) n (λ p l. here p)
    ∙ sum_below-+ℤ (λ p. picked (e.0 == p) (f p *ℤ e.1)) (λ p. f p *ℤ entry_of es p) n
    ∙ ap (λ x. x +ℤ sum_below (λ p. f p *ℤ entry_of es p) n) (sum_below-one (λ p. f p *ℤ e.1) e.0 n (ltb-true e.0 n below.0))
    ∙ ap (λ x. (f e.0 *ℤ e.1) +ℤ x) (sums f es n apart.1 below.1)

pub point_sums : (k : Packing) (x : Point) (f : ℕ → ℤ) → IsPointOf k x → sum_at k f x ≡ total (λ (e : ℕ × ℤ). f e.0 *ℤ e.1) x.entries
unfolding numbers
point_sums k x f is = sums f x.entries k.count (rising_distinct (numbers x.entries) is.rising) is.known
