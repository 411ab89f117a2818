-- What is kept of the places and the cuts, from line to line.
use Rattle.std.proofs.Common.{ℕ, ◌≡◌, ◌<◌, ◌≤◌, ◌+◌, ◌-◌, arith, refl, sym, ◌∙◌, ap, subst, zero, suc, Bool, true, false, cond, [], ◌∷◌, inl, inr}
use Rattle.std.specs.Prelude.{pos, ◌^◌, ◌==◌, ◌⊎◌, nat_lt, Option, Some, None, slice_index_or}
use Rattle.std.proofs.lemmas.Bool.{and_parts, ne_eqb, lt-ltb, ltb-true, leb-true}
use Rattle.std.proofs.lemmas.Int.{ints}
use Rattle.std.proofs.lemmas.Option.{none-some}
use Rattle.duality.specs.declared.leaf.Node.TheVariants.{Branch, Leaf as Closing, OpenEnd, Same}
use Rattle.duality.specs.Sums.{IsWithin}
use Rattle.problem_core.specs.Facts.{Facts}
use Rattle.packing_model.specs.Built.{packing}
use Rattle.packing_model.specs.Cuts.{IsPoolOf}
use Rattle.cert_text.specs.declared.lines.CertLine.{CertLine}
use Rattle.cert_text.specs.declared.lines.CertLine.TheVariants as lines
use Rattle.cert_text.specs.declared.place.Place.{Place}
use Rattle.cert_text.specs.declared.place.Place.TheVariants as places
use Rattle.cert_text.specs.Spelling.{in_bounds}
use Rattle.cert_text.specs.Places.{follows, count_of, wanted_of, may_begin, cuts_left}
use Rattle.cert_checker.specs.Progresses.{HasRoom, RoomFor, cut_count}

within_zero : IsWithin (10 ^ 12) (pos 0)
within_zero = record { low = omega (arith, ints); high = omega (arith, ints) }

pub small_zeros : (i : ℕ) → IsWithin (10 ^ 12) (slice_index_or (pos 0 ∷ pos 0 ∷ pos 0 ∷ pos 0 ∷ pos 0 ∷ pos 0 ∷ []) i (pos 0))
small_zeros zero = within_zero
small_zeros (suc zero) = within_zero
small_zeros (suc (suc zero)) = within_zero
small_zeros (suc (suc (suc zero))) = within_zero
small_zeros (suc (suc (suc (suc zero)))) = within_zero
small_zeros (suc (suc (suc (suc (suc zero))))) = within_zero
small_zeros (suc (suc (suc (suc (suc (suc i)))))) = within_zero

pub record IsNext (q : Place) (line n : ℕ) : Type 0 where
  pub counted : count_of q < 7
  pub wanted : wanted_of q ≤ line
  pub room : HasRoom q n

abbrev NextOf : ℕ → ℕ → Option Place → Type 0
NextOf line n None = Unit {0}
NextOf line n (Some q) = IsNext q line n

next_if : (b : Bool) (q : Place) (line n : ℕ) → (b ≡ true → IsNext q line n) → NextOf line n (cond b (Some q) None)
next_if true q line n h = h refl
next_if false q line n h = tt

some_left : (k : ℕ) → Some (cuts_left (suc k)) ≡ Some (places.Cutting k)
some_left k = ap Some (rw (ne_eqb (suc k) 0 (λ e. absurd (omega arith))) (ap places.Cutting (omega arith)))

begun : (levels j : ℕ) → may_begin levels j ≡ true → levels < 6
begun levels j h = ltb-true levels 6 (and_parts (j == levels + 1) (nat_lt levels 6) h).1

loose_left : (levels k : ℕ) (seen end : Bool) → ◌≡◌ {A = Option Place} (Some (places.Loose levels k seen)) (cond (nat_lt 0 (suc k)) (Some (places.Loose levels (suc k - 1) seen)) (cond end (Some (places.After levels)) None))
loose_left levels k seen end = sym (rw (lt-ltb 0 (suc k) (omega arith)) (ap (λ n. Some (places.Loose levels n seen)) (omega arith)))

next : (p : Place) (l : CertLine) (line n m : ℕ) → in_bounds l ≡ true → count_of p < 7 → wanted_of p ≤ line → HasRoom p n → m ≤ n + cut_count l → NextOf (line + 1) m (follows p l)
next places.Head (lines.Head v) line n m b c w r k = record { counted = omega arith; wanted = omega arith; room = omega (arith, r, k) }
next places.Sizes (lines.Sizes x y) line n m b c w r k = record { counted = omega arith; wanted = omega arith; room = omega (arith, r, k) }
next places.Choice (lines.Choice es) line n m b c w r k = record { counted = omega arith; wanted = omega arith; room = omega (arith, r, k) }
next places.Values (lines.Values vs) line n m b c w r k = record { counted = omega arith; wanted = omega arith; room = omega (arith, r, k) }
next places.Cuts (lines.Cuts zero) line n m b c w r k = record { counted = omega arith; wanted = omega arith; room = tt }
next places.Cuts (lines.Cuts (suc j)) line n m b c w r k =
    let few : suc j ≤ 1000 = leb-true (suc j) 1000 b in
    subst (NextOf (line + 1) m) (sym (some_left j)) (record { counted = omega arith; wanted = omega arith; room = omega (arith, r, k, few) })
next (places.Cutting zero) (lines.Cut ps) line n m b c w r k = record { counted = omega arith; wanted = omega arith; room = tt }
next (places.Cutting (suc j)) (lines.Cut ps) line n m b c w r k = subst (NextOf (line + 1) m) (sym (some_left j)) (record { counted = omega arith; wanted = omega arith; room = omega (arith, r, k) })
next (places.Between levels) (lines.Level j) line n m b c w r k = next_if (may_begin levels j) (places.Inside levels 0) (line + 1) m (λ h. record { counted = omega (arith, c); wanted = omega arith; room = begun levels j h })
next (places.Between levels) (lines.Unfinished j) line n m b c w r k = next_if (may_begin levels j) (places.Loose levels 0 false) (line + 1) m (λ h. record { counted = omega (arith, c); wanted = omega arith; room = begun levels j h })
next (places.Between levels) (lines.End j) line n m b c w r k = next_if (j == levels) (places.Over levels) (line + 1) m (λ h. record { counted = c; wanted = omega arith; room = tt })
next (places.Inside levels wanted) (lines.Node (Branch p)) line n m b c w r k = record { counted = c; wanted = omega (arith, w); room = r }
next (places.Inside levels zero) (lines.Node (Closing leaf)) line n m b c w r k = record { counted = omega (arith, r); wanted = omega arith; room = tt }
next (places.Inside levels (suc j)) (lines.Node (Closing leaf)) line n m b c w r k =
    let back : ◌≡◌ {A = Option Place} (Some (places.Inside levels j)) (cond (suc j == 0) (Some (places.Between (levels + 1))) (Some (places.Inside levels (suc j - 1)))) = sym (rw (ne_eqb (suc j) 0 (λ e. absurd (omega arith))) (ap (λ i. Some (places.Inside levels i)) (omega arith))) in
    subst (NextOf (line + 1) m) back (record { counted = c; wanted = omega (arith, w); room = r })
next (places.Inside levels zero) (lines.Node (Same q)) line n m b c w r k = record { counted = omega (arith, r); wanted = omega arith; room = tt }
next (places.Inside levels (suc j)) (lines.Node (Same q)) line n m b c w r k =
    let back : ◌≡◌ {A = Option Place} (Some (places.Inside levels j)) (cond (suc j == 0) (Some (places.Between (levels + 1))) (Some (places.Inside levels (suc j - 1)))) = sym (rw (ne_eqb (suc j) 0 (λ e. absurd (omega arith))) (ap (λ i. Some (places.Inside levels i)) (omega arith))) in
    subst (NextOf (line + 1) m) back (record { counted = c; wanted = omega (arith, w); room = r })
next (places.Inside levels wanted) (lines.Node OpenEnd) line n m b c w r k = tt
next (places.Loose levels wanted seen) (lines.Node (Branch p)) line n m b c w r k = record { counted = c; wanted = omega (arith, w); room = r }
next (places.Loose levels zero true) (lines.Node (Closing leaf)) line n m b c w r k = record { counted = c; wanted = omega arith; room = tt }
next (places.Loose levels zero false) (lines.Node (Closing leaf)) line n m b c w r k = tt
next (places.Loose levels (suc j) seen) (lines.Node (Closing leaf)) line n m b c w r k = subst (NextOf (line + 1) m) (loose_left levels j seen seen) (record { counted = c; wanted = omega (arith, w); room = r })
next (places.Loose levels zero true) (lines.Node (Same q)) line n m b c w r k = record { counted = c; wanted = omega arith; room = tt }
next (places.Loose levels zero false) (lines.Node (Same q)) line n m b c w r k = tt
next (places.Loose levels (suc j) seen) (lines.Node (Same q)) line n m b c w r k = subst (NextOf (line + 1) m) (loose_left levels j seen seen) (record { counted = c; wanted = omega (arith, w); room = r })
next (places.Loose levels zero seen) (lines.Node OpenEnd) line n m b c w r k = record { counted = c; wanted = omega arith; room = tt }
next (places.Loose levels (suc j) seen) (lines.Node OpenEnd) line n m b c w r k = subst (NextOf (line + 1) m) (loose_left levels j true true) (record { counted = c; wanted = omega (arith, w); room = r })
next (places.After levels) (lines.End j) line n m b c w r k = next_if (j == levels) (places.Over levels) (line + 1) m (λ h. record { counted = c; wanted = omega arith; room = tt })
next p l line n m b c w r k = tt

pub next_place : (p : Place) (l : CertLine) (q : Place) (line n m : ℕ) → follows p l ≡ Some q → in_bounds l ≡ true → count_of p < 7 → wanted_of p ≤ line → HasRoom p n → m ≤ n + cut_count l → IsNext q (line + 1) m
next_place p l q line n m e b c w r k = subst (NextOf (line + 1) m) e (next p l line n m b c w r k)

-- a cut comes only where it is wanted
room : (p : Place) (l : CertLine) (n : ℕ) → HasRoom p n → (follows p l ≡ None) ⊎ RoomFor l n
room (places.Cutting wanted) (lines.Cut ps) n r = inr (omega (arith, r))
room p (lines.Cut ps) n r = inl refl
room p l n r = inr tt

pub room_for : (p : Place) (l : CertLine) (q : Place) (n : ℕ) → follows p l ≡ Some q → HasRoom p n → RoomFor l n
room_for p l q n e r = elim (room p l n r) [ inl none ↦ absurd (none-some q (sym none ∙ e)) | inr there ↦ there ]

pub no_pool : (f : Facts) → IsPoolOf (packing f) []
no_pool f = record { each = λ c l. absurd (omega arith) }
