-- Laws of specs/Sparse.
use Rattle.std.proofs.Common.{ℕ, ◌≡◌, ◌+◌, ◌<◌, ◌≤◌, ◌≢◌, arith, refl, sym, ◌∙◌, ap, ap₂, List, [], ◌∷◌, ◌++◌, ◌==◌, if◌then◌else◌, Bool, true, false, length, drop, get_or, drop-cons, add-one, drop_of_length-le, subst, ◌-◌, take, take_all, length-drop, le_of_eq}
use Rattle.exact_num.specs.Q.{ℚ}
use Rattle.exact_num.specs.Ops.{zero_ℚ, ◌+ℚ◌, ◌*ℚ◌, +ℚ_assoc, +ℚ-zero, zero-+ℚ, +ℚ-last, *ℚ-+ℚ, *ℚ-zero}
use Rattle.exact_num.specs.Sums.{sum_ℚ, sum_ℚ-same, sum_ℚ-zero, sum_ℚ-add, sum_ℚ-one}
use Rattle.simplex_tableau.specs.declared.sparse.Entry.{Entry}
use Rattle.simplex_tableau.specs.Sparse.{Gathers, Moves, MovesUpTo, MovesWith, PlacesBelow, Puts, Rises, SoFar, at, at_place, dot_with, gathered}

-- ---- laws of at
pub at-append : {N : Type 0} (value : N → ℚ) (xs ys : List (Entry N)) (p : ℕ) → at value (xs ++ ys) p ≡ at value xs p +ℚ at value ys p
at-append value [] ys p = sym (zero-+ℚ (at value ys p))
at-append value (e ∷ xs) ys p = ap (λ z. at_place e.place (value e.number) p +ℚ z) (at-append value xs ys p) ∙ sym (+ℚ_assoc (at_place e.place (value e.number) p) (at value xs p) (at value ys p))

pub at-push : {N : Type 0} (value : N → ℚ) (xs : List (Entry N)) (e : Entry N) (p : ℕ) → at value (xs ++ e ∷ []) p ≡ at value xs p +ℚ at_place e.place (value e.number) p
at-push value xs e p = at-append value xs (e ∷ []) p ∙ ap (λ z. at value xs p +ℚ z) (+ℚ-zero (at_place e.place (value e.number) p))

pub at-drop : {N : Type 0} (value : N → ℚ) (xs : List (Entry N)) (i : ℕ) (e : Entry N) (p : ℕ) → i < length xs → e ≡ get_or xs i e → at value (drop i xs) p ≡ at_place e.place (value e.number) p +ℚ at value (drop (i + 1) xs) p
at-drop value xs i e p l is = rw (drop-cons xs i e, ← is, add-one) refl

pub at_place-add : (place : ℕ) (x y : ℚ) (p : ℕ) → at_place place (x +ℚ y) p ≡ at_place place x p +ℚ at_place place y p
at_place-add place x y p = both (place == p)
  where
    both : (b : Bool) → (if b then x +ℚ y else zero_ℚ) ≡ (if b then x else zero_ℚ) +ℚ (if b then y else zero_ℚ)
    both true = refl
    both false = sym (+ℚ-zero zero_ℚ)

pub at_place-scale : (c : ℚ) (place : ℕ) (x : ℚ) (p : ℕ) → at_place place (c *ℚ x) p ≡ c *ℚ at_place place x p
at_place-scale c place x p = both (place == p)
  where
    both : (b : Bool) → (if b then c *ℚ x else zero_ℚ) ≡ c *ℚ (if b then x else zero_ℚ)
    both true = refl
    both false = sym (*ℚ-zero c)

pub at_place-zero : (place p : ℕ) → at_place place zero_ℚ p ≡ zero_ℚ
at_place-zero place p = both (place == p)
  where
    both : (b : Bool) → (if b then zero_ℚ else zero_ℚ) ≡ zero_ℚ
    both true = refl
    both false = refl

pub at_place-same : (q : ℕ) (x : ℚ) → at_place q x q ≡ x
at_place-same q x = by_case (q == q) refl
  where
    by_case : (b : Bool) → (q == q) ≡ b → (if b then x else zero_ℚ) ≡ x
    by_case true e = refl
    by_case false e = absurd (grind arith)

pub at_place-other : (q p : ℕ) (x : ℚ) → q ≢ p → at_place q x p ≡ zero_ℚ
at_place-other q p x s = by_case (q == p) refl
  where
    by_case : (b : Bool) → (q == p) ≡ b → (if b then x else zero_ℚ) ≡ zero_ℚ
    by_case true e = absurd (grind arith)
    by_case false e = refl

-- ---- laws of the order of places
pub rises-from : {N : Type 0} (lo lo' hi : ℕ) (es : List (Entry N)) → lo' ≤ lo → Rises lo hi es → Rises lo' hi es
rises-from lo lo' hi [] l h = tt
rises-from lo lo' hi (e ∷ es) l h = (omega (arith, h.0), h.1, h.2)

pub rises-to : {N : Type 0} (lo hi hi' : ℕ) (es : List (Entry N)) → hi ≤ hi' → Rises lo hi es → Rises lo hi' es
rises-to lo hi hi' [] l h = tt
rises-to lo hi hi' (e ∷ es) l h = (h.0, omega (arith, h.1), rises-to (e.place + 1) hi hi' es l h.2)

pub rises-append : {N : Type 0} (lo mid hi : ℕ) (xs ys : List (Entry N)) → lo ≤ mid → mid ≤ hi → Rises lo mid xs → Rises mid hi ys → Rises lo hi (xs ++ ys)
rises-append lo mid hi [] ys l k h g = rises-from mid lo hi ys l g
rises-append lo mid hi (e ∷ xs) ys l k h g = (h.0, omega (arith, h.1), rises-append (e.place + 1) mid hi xs ys (omega (arith, h.1)) k h.2 g)

pub rises-push : {N : Type 0} (b : ℕ) (xs : List (Entry N)) (e : Entry N) → b ≤ e.place → Rises 0 b xs → Rises 0 (e.place + 1) (xs ++ e ∷ [])
rises-push b xs e l h = rises-append 0 b (e.place + 1) xs (e ∷ []) (omega arith) (omega arith) h (l, omega arith, tt)

-- the entry at i, and what comes after it
pub rises-next : {N : Type 0} (lo hi : ℕ) (es : List (Entry N)) (i : ℕ) (e : Entry N) → i < length es → e ≡ get_or es i e → Rises lo hi (drop i es) → (lo ≤ e.place) × (e.place < hi) × Rises (e.place + 1) hi (drop (i + 1) es)
rises-next lo hi es i e l is h =
    let split : drop i es ≡ e ∷ drop (i + 1) es = rw (drop-cons es i e, ← is, add-one) refl in
    subst (λ xs. Rises lo hi xs) split h

-- all that is left stands after a place
pub rises-later : {N : Type 0} (lo hi : ℕ) (es : List (Entry N)) (i : ℕ) (e : Entry N) (place : ℕ) → i < length es → e ≡ get_or es i e → place ≤ e.place → Rises lo hi (drop i es) → Rises place hi (drop i es)
rises-later lo hi es i e place l is k h =
    let split : drop i es ≡ e ∷ drop (i + 1) es = rw (drop-cons es i e, ← is, add-one) refl in
    subst (λ xs. Rises place hi xs) (sym split) (k, (subst (λ xs. Rises lo hi xs) split h).1, (subst (λ xs. Rises lo hi xs) split h).2)

pub rises-ended : {N : Type 0} (lo hi : ℕ) (es : List (Entry N)) (i : ℕ) → length es ≤ i → Rises lo hi (drop i es)
rises-ended lo hi es i l = subst (λ xs. Rises lo hi xs) (sym (drop_of_length-le es l)) tt

pub at-before : {N : Type 0} (value : N → ℚ) (lo hi : ℕ) (es : List (Entry N)) (p : ℕ) → p < lo → Rises lo hi es → at value es p ≡ zero_ℚ
at-before value lo hi [] p l h = refl
at-before value lo hi (e ∷ es) p l h =
    ap₂ (λ x y. x +ℚ y) (at_place-other e.place p (value e.number) (λ s. absurd (omega (arith, h.0)))) (at-before value (e.place + 1) hi es p (omega (arith, h.0)) h.2) ∙ +ℚ-zero zero_ℚ

pub places-below : {N : Type 0} (lo hi : ℕ) (es : List (Entry N)) → Rises lo hi es → PlacesBelow hi es
places-below lo hi [] h = tt
places-below lo hi (e ∷ es) h = (h.1, places-below (e.place + 1) hi es h.2)

-- the sum over all places is the sum over the entries
pub sum-at : {N : Type 0} (value : N → ℚ) (f : ℕ → ℚ) (es : List (Entry N)) (m : ℕ) → PlacesBelow m es → sum_ℚ (λ k. f k *ℚ at value es k) m ≡ dot_with value f es
sum-at value f [] m h = sum_ℚ-same (λ k. f k *ℚ zero_ℚ) (λ _. zero_ℚ) m (λ k _. *ℚ-zero (f k)) ∙ sum_ℚ-zero m
sum-at value f (e ∷ es) m h =
    let x = value e.number in
    sum_ℚ-same (λ k. f k *ℚ (at_place e.place x k +ℚ at value es k)) (λ k. f k *ℚ at_place e.place x k +ℚ f k *ℚ at value es k) m (λ k _. *ℚ-+ℚ (f k) (at_place e.place x k) (at value es k))
    ∙ sum_ℚ-add (λ k. f k *ℚ at_place e.place x k) (λ k. f k *ℚ at value es k) m
    ∙ ap₂ (λ y z. y +ℚ z)
    (sum_ℚ-one (λ k. f k *ℚ at_place e.place x k) e.place m h.0 (λ k _ s. ap (λ u. f k *ℚ u) (at_place-other e.place k x (λ q. s (sym q))) ∙ *ℚ-zero (f k)) ∙ ap (λ u. f e.place *ℚ u) (at_place-same e.place x))
    (sum-at value f es m h.1)

-- ---- steps of a merge
pub put_none : {N : Type 0} (value : N → ℚ) (out : List (Entry N)) (place : ℕ) (x : ℚ) → x ≡ zero_ℚ → Puts value out place x out
put_none value out place x e = record {
  sums = λ p. sym (ap (λ z. at value out p +ℚ at_place place z p) e ∙ ap (λ z. at value out p +ℚ z) (at_place-zero place p) ∙ +ℚ-zero (at value out p));
  rises = λ b h l. rises-to 0 b (place + 1) out (omega arith) h;
}

pub put_one : {N : Type 0} (value : N → ℚ) (out : List (Entry N)) (e : Entry N) → Puts value out e.place (value e.number) (out ++ e ∷ [])
put_one value out e = record {
  sums = λ p. at-push value out e p;
  rises = λ b h l. rises-push b out e l h;
}

pub moves_one : {N : Type 0} (value : N → ℚ) (target : List (Entry N)) (i : ℕ) (out : List (Entry N)) (place j : ℕ) (out' : List (Entry N)) (e : Entry N)
    → MovesUpTo value target i out place j out' → j < length target → e ≡ get_or target j e → e.place < place → MovesUpTo value target i out place (j + 1) (out' ++ e ∷ [])
moves_one value target i out place j out' e so l is k = record {
  within = omega arith;
  same = λ p.
      ap (λ z. z +ℚ at value (drop (j + 1) target) p) (at-push value out' e p) ∙ +ℚ_assoc (at value out' p) (at_place e.place (value e.number) p) (at value (drop (j + 1) target) p)
      ∙ ap (λ z. at value out' p +ℚ z) (sym (at-drop value target j e p l is)) ∙ so.same p;
  meet = λ b m h g.
      let was = so.meet b m h g in
      let next = rises-next was.between m target j e l is was.meet.rest_rises in
      record {
        between = e.place + 1;
        within = omega arith;
        meet = record { out_rises = rises-push was.between out' e next.0 was.meet.out_rises; rest_rises = next.2 };
      };
}

pub moves_end : {N : Type 0} (value : N → ℚ) (target : List (Entry N)) (i : ℕ) (out : List (Entry N)) (place j : ℕ) (out' : List (Entry N)) → MovesUpTo value target i out place j out'
    → length target ≤ j → Moves value target i out place j out'
moves_end value target i out place j out' so l = record {
  within = so.within;
  same = so.same;
  meet = λ b m h g.
      let was = so.meet b m h g in
      record { out_rises = rises-to 0 was.between place out' was.within was.meet.out_rises; rest_rises = rises-ended place m target j l };
}

pub moves_stop : {N : Type 0} (value : N → ℚ) (target : List (Entry N)) (i : ℕ) (out : List (Entry N)) (place j : ℕ) (out' : List (Entry N)) (e : Entry N) → MovesUpTo value target i out place j out'
    → j < length target → e ≡ get_or target j e → place ≤ e.place → Moves value target i out place j out'
moves_stop value target i out place j out' e so l is k = record {
  within = so.within;
  same = so.same;
  meet = λ b m h g.
      let was = so.meet b m h g in
      record { out_rises = rises-to 0 was.between place out' was.within was.meet.out_rises; rest_rises = rises-later was.between m target j e place l is k was.meet.rest_rises };
}

-- a new entry alone: the rest of target ends here, or its next entry stands elsewhere
pub gains_alone : {N : Type 0} (value : N → ℚ) (target : List (Entry N)) (i : ℕ) (out : List (Entry N)) (place : ℕ) (x : ℚ) (out' : List (Entry N)) → Puts value out place x out' → i ≤ length target
    → ((m : ℕ) → Rises place m (drop i target) → Rises (place + 1) m (drop i target)) → MovesWith value target i out place x out' i
gains_alone value target i out place x out' puts l later = record {
  within = l;
  same = λ p. ap (λ z. z +ℚ at value (drop i target) p) (puts.sums p) ∙ +ℚ-last (at value out p) (at_place place x p) (at value (drop i target) p);
  meet = λ m h. record { out_rises = puts.rises place h.out_rises (omega arith); rest_rises = later m h.rest_rises };
}

pub later_ended : {N : Type 0} (target : List (Entry N)) (i place : ℕ) → length target ≤ i → (m : ℕ) → Rises place m (drop i target) → Rises (place + 1) m (drop i target)
later_ended target i place l m h = rises-ended (place + 1) m target i l

pub later_other : {N : Type 0} (target : List (Entry N)) (i place : ℕ) (e : Entry N) → i < length target → e ≡ get_or target i e → e.place ≢ place → (m : ℕ) → Rises place m (drop i target) → Rises (place + 1) m (drop i target)
later_other target i place e l is s m h =
    let next = rises-next place m target i e l is h in
    rises-later place m target i e (place + 1) l is (let k : place ≤ e.place = next.0 in omega arith) h

-- a new entry added to the next one of the target
pub gains_sum : {N : Type 0} (value : N → ℚ) (target : List (Entry N)) (i : ℕ) (out : List (Entry N)) (place : ℕ) (x sum : ℚ) (out' : List (Entry N)) (e : Entry N) → i < length target → e ≡ get_or target i e → e.place ≡ place
    → sum ≡ value e.number +ℚ x → Puts value out place sum out' → MovesWith value target i out place x out' (i + 1)
gains_sum value target i out place x sum out' e l is here plus puts = record {
  within = omega arith;
  same = λ p.
      let a = at value out p in
      let b = at_place place x p in
      let c = at_place e.place (value e.number) p in
      let rest = at value (drop (i + 1) target) p in
      let both : at_place place sum p ≡ c +ℚ b =
      ap (λ z. at_place place z p) plus ∙ at_place-add place (value e.number) x p ∙ ap (λ q. at_place q (value e.number) p +ℚ b) (sym here) in
      ap (λ z. z +ℚ rest) (puts.sums p ∙ ap (λ z. a +ℚ z) both ∙ sym (+ℚ_assoc a c b)) ∙ +ℚ-last (a +ℚ c) b rest
      ∙ ap (λ z. z +ℚ b) (+ℚ_assoc a c rest ∙ ap (λ z. a +ℚ z) (sym (at-drop value target i e p l is)));
  meet = λ m h. record {
    out_rises = puts.rises place h.out_rises (omega arith);
    rest_rises = subst (λ q. Rises (q + 1) m (drop (i + 1) target)) here (rises-next place m target i e l is h.rest_rises).2;
  };
}

pub gathered_more : {N : Type 0} (value : N → ℚ) (out out₂ out₃ target : List (Entry N)) (i j j₂ : ℕ) (factor : ℚ) (source : List (Entry N)) (k : ℕ) (e : Entry N) (x : ℚ)
    → Moves value target i out e.place j out₂ → MovesWith value target j out₂ e.place x out₃ j₂
    → k < length source → e ≡ get_or source k e → x ≡ factor *ℚ value e.number
    → (p : ℕ) → gathered value out₃ target j₂ factor source (k + 1) p ≡ gathered value out target i factor source k p
gathered_more value out out₂ out₃ target i j j₂ factor source k e x m w l is times p =
    let y = at_place e.place (value e.number) p in
    let rest = at value (drop (k + 1) source) p in
    let base = at value out p +ℚ at value (drop i target) p in
    let one : at_place e.place x p ≡ factor *ℚ y = ap (λ z. at_place e.place z p) times ∙ at_place-scale factor e.place (value e.number) p in
    ap (λ z. z +ℚ factor *ℚ rest) (w.same p ∙ ap₂ (λ y z. y +ℚ z) (m.same p) one) ∙ +ℚ_assoc base (factor *ℚ y) (factor *ℚ rest)
    ∙ ap (λ z. base +ℚ z) (sym (*ℚ-+ℚ factor y rest) ∙ ap (λ z. factor *ℚ z) (sym (at-drop value source k e p l is)))

pub gathers_more : {N : Type 0} (value : N → ℚ) (m : ℕ) (out out₂ out₃ target : List (Entry N)) (i j j₂ : ℕ) (source : List (Entry N)) (k : ℕ) (e : Entry N) (x : ℚ)
    → Moves value target i out e.place j out₂ → MovesWith value target j out₂ e.place x out₃ j₂
    → k < length source → e ≡ get_or source k e → Gathers m out (drop i target) (drop k source) → Gathers m out₃ (drop j₂ target) (drop (k + 1) source)
gathers_more value m out out₂ out₃ target i j j₂ source k e x moved with_ l is so =
    let next = rises-next so.between m source k e l is so.more_rises in
    record {
      between = e.place + 1;
      within = let h : e.place < m = next.1 in omega arith;
      meet = with_.meet m (moved.meet so.between m next.0 so.meet);
      more_rises = next.2;
    }

pub gathers_start : {N : Type 0} (m : ℕ) (out target source : List (Entry N)) → out ≡ [] → Rises 0 m target → Rises 0 m source → Gathers m out target source
gathers_start m out target source e h k = record {
  between = 0;
  within = omega arith;
  meet = record { out_rises = subst (λ xs. Rises 0 0 xs) (sym e) tt; rest_rises = h };
  more_rises = k;
}

pub gathered_start : {N : Type 0} (value : N → ℚ) (out target : List (Entry N)) (factor : ℚ) (source : List (Entry N)) → out ≡ [] → (p : ℕ) → gathered value out target 0 factor source 0 p ≡ at value target p +ℚ factor *ℚ at value source p
gathered_start value out target factor source e p =
    ap (λ xs. (at value xs p +ℚ at value target p) +ℚ factor *ℚ at value source p) e ∙ ap (λ z. z +ℚ factor *ℚ at value source p) (zero-+ℚ (at value target p))

pub gathered_end : {N : Type 0} (value : N → ℚ) (out target : List (Entry N)) (i : ℕ) (factor : ℚ) (source : List (Entry N)) (k : ℕ) → length source ≤ k → (p : ℕ) → at value (out ++ drop i target) p ≡ gathered value out target i factor source k p
gathered_end value out target i factor source k l p =
    at-append value out (drop i target) p ∙ sym (+ℚ-zero (at value out p +ℚ at value (drop i target) p))
    ∙ ap (λ z. (at value out p +ℚ at value (drop i target) p) +ℚ z) (sym (*ℚ-zero factor) ∙ ap (λ xs. factor *ℚ at value xs p) (sym (drop_of_length-le source l)))

pub gathers_end : {N : Type 0} (m : ℕ) (out rest more : List (Entry N)) → Gathers m out rest more → Rises 0 m (out ++ rest)
gathers_end m out rest more so = rises-append 0 so.between m out rest (omega arith) so.within so.meet.out_rises so.meet.rest_rises

pub drop_whole : {N : Type 0} (xs : List N) (i : ℕ) → take (length xs - i) (drop i xs) ≡ drop i xs
drop_whole xs i = take_all (length xs - i) (drop i xs) (le_of_eq (length-drop i xs))

pub so_far_more : {N : Type 0} (value : N → ℚ) (es : List (Entry N)) (place k : ℕ) (e : Entry N) → k < length es → e ≡ get_or es k e → e.place ≢ place → SoFar value es place k → SoFar value es place (k + 1)
so_far_more value es place k e l is s so = record {
  same = sym (at-drop value es k e place l is ∙ ap (λ x. x +ℚ at value (drop (k + 1) es) place) (at_place-other e.place place (value e.number) s) ∙ zero-+ℚ (at value (drop (k + 1) es) place)) ∙ so.same;
  rises = λ m h. let next = rises-next 0 m es k e l is (so.rises m h) in rises-from (e.place + 1) 0 m (drop (k + 1) es) (omega arith) next.2;
}

pub so_far_found : {N : Type 0} (value : N → ℚ) (es : List (Entry N)) (place k : ℕ) (e : Entry N) → k < length es → e ≡ get_or es k e → e.place ≡ place → SoFar value es place k → (m : ℕ) → Rises 0 m es → at value es place ≡ value e.number
so_far_found value es place k e l is s so m h =
    let next = rises-next 0 m es k e l is (so.rises m h) in
    sym so.same ∙ at-drop value es k e place l is
    ∙ ap₂ (λ x y. x +ℚ y) (ap (λ q. at_place e.place (value e.number) q) (sym s) ∙ at_place-same e.place (value e.number))
    (ap (at value (drop (k + 1) es)) (sym s) ∙ at-before value (e.place + 1) m (drop (k + 1) es) e.place (omega arith) next.2) ∙ +ℚ-zero (value e.number)

pub so_far_none : {N : Type 0} (value : N → ℚ) (es : List (Entry N)) (place k : ℕ) → length es ≤ k → SoFar value es place k → at value es place ≡ zero_ℚ
so_far_none value es place k l so = sym so.same ∙ ap (λ xs. at value xs place) (drop_of_length-le es l)
