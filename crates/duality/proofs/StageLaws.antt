-- A leaf that closes still closes where the value rose and cuts were added.
use Rattle.std.proofs.Common.{ℕ, ◌≡◌, ◌<◌, ◌≤◌, arith, refl, sym, ◌∙◌, ap, ap₂, zero, suc, Bool, true, not, ◌&&◌, ◌||◌, List, [], ◌∷◌, length, get_or}
use Rattle.std.specs.Prelude.{ℤ, pos, ◌+ℤ◌, ◌*ℤ◌, ◌-ℤ◌, ◌≤ℤ◌, ◌<ℤ◌, int_le, int_lt, Option, Some, None}
use Rattle.std.specs.List.{list_all}
use Rattle.std.proofs.lemmas.Int.{ints}
use Rattle.std.proofs.lemmas.List.{length-take, get_or-take}
use Rattle.std.proofs.lemmas.Bool.{and_parts, and_from, ltb-true, lt-ltb}
use Rattle.std.proofs.Math.IntN.{zero-*ℤ}
use Rattle.numbers.specs.Algebra.{*ℤ-≤ℤ}
use Rattle.numbers.specs.Below.{any_below}
use Rattle.numbers.specs.Sums.{total, member}
use Rattle.duality.specs.declared.row.RowName.{RowName}
use Rattle.duality.specs.declared.row.RowName.TheVariants.{Base, Cut, Level}
use Rattle.duality.specs.declared.row.Term.{Term}
use Rattle.duality.specs.declared.leaf.Leaf.{Leaf}
use Rattle.duality.specs.Packing.{Packing, Weights, Stage, Fixing, cut_at, coefficient, right_side, level_side, is_there, has_sign, is_free, as_number}
use Rattle.duality.specs.Leaf.{priced, worth, reduced, term_fits, costs, left_side, is_under, closes}
use Rattle.duality.specs.Tree.{ends_at}
use Rattle.duality.specs.Stages.{IsUp, Rises}

le_true : (a b : ℤ) → int_le a b ≡ true → a ≤ℤ b
le_true a b h = grind (arith, ints)

lt_true : (a b : ℤ) → int_lt a b ≡ true → a <ℤ b
lt_true a b h = grind (arith, ints)

true_lt : (a b : ℤ) → a <ℤ b → int_lt a b ≡ true
true_lt a b h = grind (arith, ints)

more_cuts : (s t : Stage) → Rises s t → length s.cuts ≤ length t.cuts
more_cuts s t h = omega (arith, ap length h.kept, length-take (length s.cuts) t.cuts)

same_cut : (s t : Stage) → Rises s t → (c : ℕ) → c < length s.cuts → cut_at t c ≡ cut_at s c
same_cut s t h c l = sym (get_or-take (length s.cuts) t.cuts c [] l) ∙ ap (λ (cuts : List (List ℕ)). get_or cuts c []) h.kept

there_rises : (k : Packing) (w : Weights) (s t : Stage) → Rises s t → (r : RowName) → is_there k w s r ≡ true → is_there k w t r ≡ true
there_rises k w s t h (Base r) e = e
there_rises k w s t h (Cut c) e = lt-ltb c (length t.cuts) (omega (arith, more_cuts s t h, ltb-true c (length s.cuts) e))
there_rises k w s t h (Level j) e = rw h.level e

coefficient_rises : (k : Packing) (w : Weights) (s t : Stage) → Rises s t → (r : RowName) → is_there k w s r ≡ true → (p : ℕ) → coefficient k w t r p ≡ coefficient k w s r p
coefficient_rises k w s t h (Base r) e p = refl
coefficient_rises k w s t h (Cut c) e p = ap (λ ps. as_number (member p ps)) (same_cut s t h c (ltb-true c (length s.cuts) e))
coefficient_rises k w s t h (Level j) e p = refl

fits_rises : (k : Packing) (w : Weights) (s t : Stage) → Rises s t → (terms : List Term) → list_all (term_fits k w s) terms ≡ true → list_all (term_fits k w t) terms ≡ true
fits_rises k w s t h [] e = refl
fits_rises k w s t h (x ∷ terms) e =
    let parts = and_parts (term_fits k w s x) (list_all (term_fits k w s) terms) e in
    let here = and_parts (is_there k w s x.row) (has_sign x.row x.times) parts.0 in
    and_from (term_fits k w t x) (list_all (term_fits k w t) terms)
    (and_from (is_there k w t x.row) (has_sign x.row x.times) (there_rises k w s t h x.row here.0) here.1)
    (fits_rises k w s t h terms parts.1)

priced_rises : (k : Packing) (w : Weights) (s t : Stage) → Rises s t → (terms : List Term) → list_all (term_fits k w s) terms ≡ true → (p : ℕ) → priced k w t terms p ≡ priced k w s terms p
priced_rises k w s t h [] e p = refl
priced_rises k w s t h (x ∷ terms) e p =
    let parts = and_parts (term_fits k w s x) (list_all (term_fits k w s) terms) e in
    let here = and_parts (is_there k w s x.row) (has_sign x.row x.times) parts.0 in
    ap₂ (λ a b. (x.times *ℤ a) +ℤ b) (coefficient_rises k w s t h x.row here.0 p) (priced_rises k w s t h terms parts.1 p)

side_rises : (w : Weights) (s t : Stage) → Rises s t → (r : RowName) → right_side w t r ≡ right_side w s r
side_rises w s t h (Base r) = refl
side_rises w s t h (Cut c) = refl
side_rises w s t h (Level j) = ap (λ ts. level_side w ts j) h.targets

worth_rises : (w : Weights) (s t : Stage) → Rises s t → (terms : List Term) → worth w t terms ≡ worth w s terms
worth_rises w s t h [] = refl
worth_rises w s t h (x ∷ terms) = ap₂ (λ a b. (x.times *ℤ a) +ℤ b) (side_rises w s t h x.row) (worth_rises w s t h terms)

reduced_rises : (k : Packing) (w : Weights) (s t : Stage) → Rises s t → (leaf : Leaf) → list_all (term_fits k w s) leaf.terms ≡ true → (p : ℕ) → reduced k w t leaf p ≡ reduced k w s leaf p
reduced_rises k w s t h leaf e p = ap₂ (λ j c. (leaf.scale *ℤ w.weight j p) -ℤ c) h.level (priced_rises k w s t h leaf.terms e p)

total_rises : (k : Packing) (w : Weights) (s t : Stage) → Rises s t → (leaf : Leaf) → list_all (term_fits k w s) leaf.terms ≡ true → (ps : List ℕ) → total (reduced k w t leaf) ps ≡ total (reduced k w s leaf) ps
total_rises k w s t h leaf e [] = refl
total_rises k w s t h leaf e (p ∷ ps) = ap₂ (λ a b. a +ℤ b) (reduced_rises k w s t h leaf e p) (total_rises k w s t h leaf e ps)

any_same : (f g : ℕ → Bool) (n : ℕ) → ((i : ℕ) → f i ≡ g i) → any_below f n ≡ any_below g n
any_same f g zero h = refl
any_same f g (suc n) h = ap₂ (λ a b. a || b) (h n) (any_same f g n h)

-- a greater value asks for less
under_rises : (a b : Option ℤ) (scale left : ℤ) → IsUp a b → pos 0 ≤ℤ scale → is_under a scale left ≡ true → is_under b scale left ≡ true
under_rises None None scale left up k e = e
under_rises None (Some v) scale left up k e =
    let parts = and_parts (int_le scale (pos 0)) (int_lt left (pos 0)) e in
    let none : scale ≡ pos 0 = omega (arith, ints, le_true scale (pos 0) parts.0) in
    let zero_side : scale *ℤ (v +ℤ pos 1) ≡ pos 0 = ap (λ x. x *ℤ (v +ℤ pos 1)) none ∙ zero-*ℤ (v +ℤ pos 1) in
    true_lt left (scale *ℤ (v +ℤ pos 1)) (omega (arith, ints, zero_side, lt_true left (pos 0) parts.1))
under_rises (Some v) None scale left up k e = absurd up
under_rises (Some v) (Some x) scale left up k e =
    let more : (v +ℤ pos 1) ≤ℤ (x +ℤ pos 1) = omega (arith, ints) in
    true_lt left (scale *ℤ (x +ℤ pos 1)) (omega (arith, ints, *ℤ-≤ℤ scale (v +ℤ pos 1) (x +ℤ pos 1) k more, lt_true left (scale *ℤ (v +ℤ pos 1)) e))

pub ends_rise : (k : Packing) (w : Weights) (s t : Stage) → Rises s t → (f : Fixing) (leaf : Leaf) → ends_at k w s f leaf ≡ true → ends_at k w t f leaf ≡ true
ends_rise k w s t h f leaf e =
    let outer = and_parts (int_le (pos 0) leaf.scale) (closes k w s f leaf) e in
    let scaled = le_true (pos 0) leaf.scale outer.0 in
    let parts = and_parts (list_all (term_fits k w s) leaf.terms) (not (any_below (costs k w s f leaf) k.count) && is_under s.best leaf.scale (left_side k w s f leaf)) outer.1 in
    let later = and_parts (not (any_below (costs k w s f leaf) k.count)) (is_under s.best leaf.scale (left_side k w s f leaf)) parts.1 in
    let same_costs : any_below (costs k w t f leaf) k.count ≡ any_below (costs k w s f leaf) k.count =
    any_same (costs k w t f leaf) (costs k w s f leaf) k.count (λ p. ap (λ x. is_free k f p && int_lt (pos 0) x) (reduced_rises k w s t h leaf parts.0 p)) in
    let same_left : left_side k w t f leaf ≡ left_side k w s f leaf = ap₂ (λ a b. a +ℤ b) (worth_rises w s t h leaf.terms) (total_rises k w s t h leaf parts.0 f.one) in
    and_from (int_le (pos 0) leaf.scale) (closes k w t f leaf) outer.0
    (and_from (list_all (term_fits k w t) leaf.terms) (not (any_below (costs k w t f leaf) k.count) && is_under t.best leaf.scale (left_side k w t f leaf))
    (fits_rises k w s t h leaf.terms parts.0)
    (and_from (not (any_below (costs k w t f leaf) k.count)) (is_under t.best leaf.scale (left_side k w t f leaf))
    (ap not same_costs ∙ later.0)
    (ap (is_under t.best leaf.scale) same_left ∙ under_rises s.best t.best leaf.scale (left_side k w s f leaf) h.best scaled later.1)))
