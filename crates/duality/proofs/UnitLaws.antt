-- Each branch leaves a free pattern fewer in both of its parts, so there are few.
use Rattle.std.proofs.Common.{ℕ, ◌≡◌, ◌<◌, ◌≤◌, ◌+◌, ◌-◌, ◌^◌, arith, refl, sym, ◌∙◌, ap, zero, suc, Bool, true, false, not, ◌&&◌, List, [], ◌∷◌, ◌++◌, inl, inr}
use Rattle.std.specs.Prelude.{◌==◌, nat_lt}
use Rattle.std.specs.List.{list_any}
use Rattle.std.proofs.Math.Nat.{two-pow-succ}
use Rattle.std.proofs.lemmas.Nat.{pow_pos}
use Rattle.std.proofs.lemmas.Bool.{and_parts, and_from, or_right, or_parts, or_from, eq-eqb, true≢false, cases_eq, ltb-true, not-true, not_from_false}
use Rattle.std.proofs.lemmas.List.Folds.{list_any-append}
use Rattle.numbers.specs.Below.{any_below}
use Rattle.numbers.specs.Sums.{member}
use Rattle.numbers.proofs.CountLaws.{count_lt, count_all, some_counted}
use Rattle.duality.specs.declared.leaf.Node.{Node}
use Rattle.duality.specs.declared.leaf.Node.TheVariants.{Branch, Leaf as Closing, OpenEnd, Same}
use Rattle.duality.specs.Packing.{Packing, Weights, Stage, Fixing, is_free}
use Rattle.duality.specs.Tree.{with_zero, with_one, nothing_fixed, can_branch, ends_at}
use Rattle.duality.specs.After.{after, are_right}
use Rattle.duality.specs.Units.{free_count, branch_count, most_branches, most_units}

member_last : (p : ℕ) (ps : List ℕ) → member p (ps ++ (p ∷ [])) ≡ true
member_last p [] = rw (eq-eqb p p refl) refl
member_last p (q ∷ ps) = or_right (q == p) (member p (ps ++ (p ∷ []))) (member_last p ps)

member_more : (q p : ℕ) (ps : List ℕ) → member q (ps ++ (p ∷ [])) ≡ false → member q ps ≡ false
member_more q p [] h = refl
member_more q p (x ∷ ps) h =
    let parts = or_parts (x == q) (member q (ps ++ (p ∷ []))) h in
    or_from (x == q) (member q ps) parts.0 (member_more q p ps parts.1)

any_more : (test : ℕ → Bool) (p : ℕ) (ps : List ℕ) → list_any test (ps ++ (p ∷ [])) ≡ false → list_any test ps ≡ false
any_more test p ps h = (or_parts (list_any test ps) (list_any test (p ∷ [])) (sym (list_any-append test ps (p ∷ [])) ∙ h)).0

record IsClear (k : Packing) (f : Fixing) (q : ℕ) : Type 0 where
  pub zero : member q f.zero ≡ false
  pub one : member q f.one ≡ false
  pub clash : list_any (k.clash q) f.one ≡ false

clear_is : (k : Packing) (f : Fixing) (q : ℕ) → is_free k f q ≡ true → IsClear k f q
clear_is k f q h =
    let parts = and_parts (not (member q f.zero)) (not (member q f.one) && not (list_any (k.clash q) f.one)) h in
    let rest = and_parts (not (member q f.one)) (not (list_any (k.clash q) f.one)) parts.1 in
    record { zero = not-true _ parts.0; one = not-true _ rest.0; clash = not-true _ rest.1 }

clear_free : (k : Packing) (f : Fixing) (q : ℕ) → IsClear k f q → is_free k f q ≡ true
clear_free k f q h =
    and_from (not (member q f.zero)) _ (not_from_false _ h.zero) (and_from (not (member q f.one)) (not (list_any (k.clash q) f.one)) (not_from_false _ h.one) (not_from_false _ h.clash))

zero_less : (k : Packing) (f : Fixing) (p q : ℕ) → is_free k (with_zero p f) q ≡ true → is_free k f q ≡ true
zero_less k f p q h = let c = clear_is k (with_zero p f) q h in clear_free k f q (record { zero = member_more q p f.zero c.zero; one = c.one; clash = c.clash })

one_less : (k : Packing) (f : Fixing) (p q : ℕ) → is_free k (with_one p f) q ≡ true → is_free k f q ≡ true
one_less k f p q h = let c = clear_is k (with_one p f) q h in clear_free k f q (record { zero = c.zero; one = member_more q p f.one c.one; clash = any_more (k.clash q) p f.one c.clash })

zero_here : (k : Packing) (f : Fixing) (p : ℕ) → is_free k (with_zero p f) p ≡ false
zero_here k f p = rw (member_last p f.zero) refl

and_none : (a : Bool) → (a && false) ≡ false
and_none true = refl
and_none false = refl

one_here : (k : Packing) (f : Fixing) (p : ℕ) → is_free k (with_one p f) p ≡ false
one_here k f p = rw (member_last p f.one) (and_none _)

pub fewer_out : (k : Packing) (f : Fixing) (p : ℕ) → can_branch k f p ≡ true → free_count k (with_zero p f) < free_count k f
fewer_out k f p h =
    let parts = and_parts (nat_lt p k.count) (is_free k f p) h in
    count_lt (is_free k (with_zero p f)) (is_free k f) k.count p (zero_less k f p) (ltb-true p k.count parts.0) (zero_here k f p) parts.1

pub fewer_in : (k : Packing) (f : Fixing) (p : ℕ) → can_branch k f p ≡ true → free_count k (with_one p f) < free_count k f
fewer_in k f p h =
    let parts = and_parts (nat_lt p k.count) (is_free k f p) h in
    count_lt (is_free k (with_one p f)) (is_free k f) k.count p (one_less k f p) (ltb-true p k.count parts.0) (one_here k f p) parts.1

pow_up : (a b : ℕ) → a ≤ b → 2 ^ a ≤ 2 ^ b
pow_up a zero l = let e : a ≡ 0 = omega arith in rw e (omega arith)
pow_up a (suc b) l = elim (cases_eq a (suc b)) [
  | inl same ↦ rw same (omega arith)
  | inr ne ↦ omega (arith, pow_up a b (omega arith), two-pow-succ b)
]

pow_twice : (a b : ℕ) → a < b → 2 ^ a + 2 ^ a ≤ 2 ^ b
pow_twice a b l = omega (arith, two-pow-succ a, pow_up (suc a) b (omega arith))

branch_most : (x y m : ℕ) → x < m → y < m → (2 ^ x - 1) + (2 ^ y - 1) + 1 ≤ 2 ^ m - 1
branch_most x y m l n = omega (arith, pow_twice x m l, pow_twice y m n, pow_pos x, pow_pos y)

pub units_most : (k : Packing) (w : Weights) (s : Stage) (fs : List Fixing) (ns : List Node) → are_right k w s fs ns ≡ true → branch_count ns + most_units k (after fs ns) ≤ most_units k fs
units_most k w s fs [] e = omega arith
units_most k w s [] (n ∷ ns) e = absurd (true≢false (sym e))
units_most k w s (f ∷ fs) (Branch p ∷ ns) e =
    let parts = and_parts (can_branch k f p) (are_right k w s (with_zero p f ∷ with_one p f ∷ fs) ns) e in
    let rest = units_most k w s (with_zero p f ∷ with_one p f ∷ fs) ns parts.1 in
    let here = branch_most (free_count k (with_zero p f)) (free_count k (with_one p f)) (free_count k f) (fewer_out k f p parts.0) (fewer_in k f p parts.0) in
    omega (arith, rest, here)
units_most k w s (f ∷ fs) (Closing leaf ∷ ns) e =
    let parts = and_parts (ends_at k w s f leaf) (are_right k w s fs ns) e in
    omega (arith, units_most k w s fs ns parts.1)
units_most k w s (f ∷ fs) (OpenEnd ∷ ns) e = omega (arith, units_most k w s fs ns e)
units_most k w s (f ∷ fs) (Same leaf ∷ ns) e = absurd (true≢false (sym e))

pub root_free : (k : Packing) (f : Fixing) → f.zero ≡ [] → f.one ≡ [] → free_count k f ≡ k.count
root_free k f z o = count_all (is_free k f) k.count (λ q. rw (z, o) refl)

-- the branches of a level's tree
pub tree_most : (k : Packing) (w : Weights) (s : Stage) (ns : List Node) → are_right k w s (nothing_fixed ∷ []) ns ≡ true → branch_count ns ≤ 2 ^ k.count - 1
tree_most k w s ns e =
    let root : free_count k nothing_fixed ≡ k.count = root_free k nothing_fixed refl refl in
    let whole : most_units k (nothing_fixed ∷ []) ≡ (2 ^ k.count - 1) + 0 = ap (λ n. most_branches n + 0) root in
    omega (arith, units_most k w s (nothing_fixed ∷ []) ns e, whole)

-- where a pattern is free there may be a branch
pub free_some : (k : Packing) (f : Fixing) → any_below (is_free k f) k.count ≡ true → 1 ≤ 2 ^ free_count k f - 1
free_some k f h = omega (arith, pow_up 1 (free_count k f) (some_counted (is_free k f) k.count h))
