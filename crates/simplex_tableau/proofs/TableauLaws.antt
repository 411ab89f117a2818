-- Laws of specs/Tableau.
use Rattle.std.proofs.Common.{ℕ, ◌≡◌, ◌≢◌, ◌<◌, sym, ◌∙◌, ap, ap₂, subst, List, length, get_or, set, [], ◌∷◌, refl, arith, get_or-set_same, get_or-set_other, length-set}
use Rattle.std.proofs.Common.{◌++◌, take, drop_of_length-le, append-nil, take_all, Vec, Global}
use Rattle.std.specs.Vec.{with_items}
use Rattle.exact_num.specs.Q.{ℚ}
use Rattle.exact_num.specs.Ops.{zero_ℚ, one_ℚ, neg_ℚ, inv_ℚ, ◌+ℚ◌, ◌*ℚ◌, *ℚ_assoc, *ℚ_comm, *ℚ-one, *ℚ-inv, neg-*ℚ, +ℚ-zero, *ℚ-zero, *ℚ_cancel, one-*ℚ}
use Rattle.simplex_tableau.specs.declared.sparse.Entry.{Entry}
use Rattle.simplex_tableau.specs.declared.basis.Tableau.{Tableau}
use Rattle.simplex_tableau.specs.Sparse.{at, at_place, Rises, Combined}
use Rattle.simplex_tableau.proofs.SparseLaws.{at_place-same, at_place-other}
use Rattle.simplex_tableau.specs.Dense.{num, Added}
use Rattle.simplex_tableau.specs.Inverse.{RowTimes, Turns}
use Rattle.simplex_tableau.specs.Pivot.{IsPivoted}
use Rattle.simplex_tableau.proofs.BasisLaws.{pivoted_by}
use Rattle.simplex_tableau.proofs.StatesLaws.{neg_neg, neg-some}
use Rattle.simplex_tableau.specs.Tableau.{HasShape, PivotsTo, inverse_of}

-- x / -d, times d, is -x
pub share_neg : (x d e u : ℚ) → d ≢ zero_ℚ → e ≡ neg_ℚ d → u ≡ x *ℚ inv_ℚ e → neg_ℚ u *ℚ d ≡ x
share_neg x d e u some is over =
    let some_e : e ≢ zero_ℚ = λ z. neg-some d some (sym is ∙ z) in
    let back : u *ℚ e ≡ x = ap (λ w. w *ℚ e) over ∙ *ℚ_assoc x (inv_ℚ e) e ∙ ap (λ w. x *ℚ w) (*ℚ_comm (inv_ℚ e) e ∙ *ℚ-inv e some_e) ∙ *ℚ-one x in
    neg-*ℚ u d ∙ ap neg_ℚ (*ℚ_comm u d) ∙ sym (neg-*ℚ d u) ∙ *ℚ_comm (neg_ℚ d) u ∙ ap (λ w. u *ℚ w) (sym is) ∙ back

-- made less the unit vector of the place
pub less_there : {N : Type 0} (value : N → ℚ) (made less : List (Entry N)) (e : Entry N) (minus : ℚ) → value e.number ≡ one_ℚ → Combined value made minus (e ∷ []) less
    → at value less e.place ≡ at value made e.place +ℚ minus
less_there value made less e minus one sum =
    sum.sums e.place ∙ ap (λ u. at value made e.place +ℚ minus *ℚ u) (+ℚ-zero (at_place e.place (value e.number) e.place) ∙ at_place-same e.place (value e.number) ∙ one) ∙ ap (λ u. at value made e.place +ℚ u) (*ℚ-one minus)

pub less_elsewhere : {N : Type 0} (value : N → ℚ) (made less : List (Entry N)) (e : Entry N) (minus : ℚ) → Combined value made minus (e ∷ []) less → (p : ℕ) → p ≢ e.place → at value less p ≡ at value made p
less_elsewhere value made less e minus sum p ne =
    sum.sums p ∙ ap (λ u. at value made p +ℚ minus *ℚ u) (+ℚ-zero (at_place e.place (value e.number) p) ∙ at_place-other e.place p (value e.number) (λ s. ne (sym s)))
    ∙ ap (λ u. at value made p +ℚ u) (*ℚ-zero minus) ∙ +ℚ-zero (at value made p)

-- a vector to which u times less was added, u being its number at the place over -d
pub turned : (size r : ℕ) (d d' x x' : ℕ → ℚ) (e u : ℚ) → r < size → d r ≢ zero_ℚ → e ≡ neg_ℚ (d r) → u ≡ x r *ℚ inv_ℚ e → d' r ≡ d r +ℚ neg_ℚ one_ℚ → ((p : ℕ) → p ≢ r → d' p ≡ d p)
    → ((p : ℕ) → p < size → x' p ≡ x p +ℚ u *ℚ d' p) → IsPivoted size r d x x' (neg_ℚ u)
turned size r d d' x x' e u l some is over at_r off moved =
    pivoted_by size r d d' x x' (neg_ℚ u) l at_r off (share_neg (x r) (d r) e u some is over)
    (λ p j. moved p j ∙ ap (λ w. x p +ℚ w *ℚ d' p) (sym (neg_neg u)))

-- the step by its name
pub step_named : (x d t : ℚ) → d ≢ zero_ℚ → t *ℚ d ≡ x → t ≡ x *ℚ inv_ℚ d
step_named x d t some share = *ℚ_cancel t (x *ℚ inv_ℚ d) d some
    (share ∙ sym (*ℚ_assoc x (inv_ℚ d) d ∙ ap (λ w. x *ℚ w) (*ℚ_comm (inv_ℚ d) d ∙ *ℚ-inv d some) ∙ *ℚ-one x))

times-minus : (a minus : ℚ) → minus ≡ neg_ℚ one_ℚ → a *ℚ minus ≡ neg_ℚ a
times-minus a minus e = ap (λ m. a *ℚ m) e ∙ *ℚ_comm a (neg_ℚ one_ℚ) ∙ neg-*ℚ one_ℚ a ∙ ap neg_ℚ (one-*ℚ a)

-- the parts of a pivot together
pub pivots_to : {N : Type 0} (value : N → ℚ) (size place entering : ℕ) (made : List (Entry N)) (old new : Tableau N) (row less : List (Entry N)) (number minus divisor : ℚ) (e : Entry N)
    → HasShape size old → place < size → number ≡ at value made place → number ≢ zero_ℚ → Rises 0 size made
    → e.place ≡ place → value e.number ≡ one_ℚ → minus ≡ neg_ℚ one_ℚ → divisor ≡ number *ℚ minus
    → Combined value made minus (e ∷ []) less
    → RowTimes value old.inverse.items place (inv_ℚ divisor) row
    → Added value old.point.items (num value old.point.items place *ℚ inv_ℚ divisor) less new.point.items
    → length new.point.items ≡ length old.point.items → length new.tie.items ≡ length old.tie.items
    → Turns value old.inverse.items row less new.inverse.items
    → new.basis.items ≡ set old.basis.items place entering
    → PivotsTo value size place entering made old new row
pivots_to value size place entering made old new row less number minus divisor e shape l number_is some_number made_rises here one minus_is divisor_is sum row_is moved point_length tie_length turned_is basis_is =
    let d = at value made in
    let some : d place ≢ zero_ℚ = λ z. some_number (number_is ∙ z) in
    let over : divisor ≡ neg_ℚ (d place) = divisor_is ∙ times-minus number minus minus_is ∙ ap neg_ℚ number_is in
    let at_r : at value less place ≡ d place +ℚ neg_ℚ one_ℚ
    = ap (at value less) (sym here) ∙ less_there value made less e minus one sum ∙ ap₂ (λ a b. a +ℚ b) (ap d here) minus_is in
    let off : (p : ℕ) → p ≢ place → at value less p ≡ d p = λ p ne. less_elsewhere value made less e minus sum p (λ s. ne (s ∙ here)) in
    let less_rises : Rises 0 size less = sum.rises size made_rises (omega arith, omega arith, tt) in
    let x = num value old.point.items in
    let u = x place *ℚ inv_ℚ divisor in
    let point : IsPivoted size place d x (num value new.point.items) (neg_ℚ u)
    = turned size place d (at value less) x (num value new.point.items) divisor u l some over refl at_r off (λ p j. moved p (let w = shape.point_length in omega arith)) in
    record {
      shape = record {
        few = shape.few;
        basis_length = ap length basis_is ∙ length-set old.basis.items place entering ∙ shape.basis_length;
        inverse_length = turned_is.same_length ∙ shape.inverse_length;
        point_length = point_length ∙ shape.point_length;
        tie_length = tie_length ∙ shape.tie_length;
        rises = turned_is.rises size shape.rises less_rises;
      };
      row_rises = subst (λ m. Rises 0 m row) shape.inverse_length row_is.rises;
      turns = λ k j.
          let w : k < length old.inverse.items = let v = shape.inverse_length in omega arith in
          turned size place d (at value less) (inverse_of value old k) (inverse_of value new k) divisor (at value row k) l some over (row_is.sums k w) at_r off (λ p i. turned_is.sums k p w);
      moves = subst (λ t. IsPivoted size place d x (num value new.point.items) t) (step_named (x place) (d place) (neg_ℚ u) some point.share) point;
      enters = ap (λ xs. get_or xs place 0) basis_is ∙ get_or-set_same old.basis.items place entering 0 (let v = shape.basis_length in omega arith);
      others = λ p j ne. ap (λ xs. get_or xs p 0) basis_is ∙ get_or-set_other old.basis.items place p entering 0 ne;
    }

pub divisor_some : (number minus divisor : ℚ) → number ≢ zero_ℚ → minus ≡ neg_ℚ one_ℚ → divisor ≡ number *ℚ minus → divisor ≢ zero_ℚ
divisor_some number minus divisor some is made z = neg-some number some (sym (made ∙ times-minus number minus is) ∙ z)

-- a list of the same length that was written over a Vec's elements
pub written : {X : Type 0} (v : Vec X Global) (ws : List X) → length ws ≡ length v.items → (with_items v ws).items ≡ ws
written v ws e =
    ap (λ xs. take v.len (ws ++ xs)) (drop_of_length-le v.items (omega arith)) ∙ ap (take v.len) (append-nil ws)
    ∙ take_all v.len ws (let k : v.len ≡ length v.items = v.ok.0 in omega arith)

pub added_from : {N : Type 0} (value : N → ℚ) (xs ys zs zs' : List N) (less less' : List (Entry N)) (place : ℕ) (u : ℚ) → xs ≡ ys → less' ≡ less → zs' ≡ zs
    → Added value xs (num value xs place *ℚ u) less' zs → Added value ys (num value ys place *ℚ u) less zs'
added_from value xs ys zs zs' less less' place u e f g so =
    subst (λ z. Added value ys (num value ys place *ℚ u) less z) (sym g) (subst (λ l. Added value ys (num value ys place *ℚ u) l zs) f (subst (λ x. Added value x (num value x place *ℚ u) less' zs) e so))

pub turns_from : {N : Type 0} (value : N → ℚ) (xs ys zs zs' : List (List (Entry N))) (row row' less less' : List (Entry N)) → xs ≡ ys → row' ≡ row → less' ≡ less → zs' ≡ zs
    → Turns value xs row' less' zs → Turns value ys row less zs'
turns_from value xs ys zs zs' row row' less less' e h f g so =
    subst (λ z. Turns value ys row less z) (sym g) (subst (λ l. Turns value ys row l zs) f (subst (λ r. Turns value ys r less' zs) h (subst (λ x. Turns value x row' less' zs) e so)))
