-- The counts of a place keep their bounds from line to line.
use Rattle.std.proofs.Common.{ℕ, ◌≡◌, ◌<◌, ◌≤◌, ◌+◌, ◌-◌, arith, refl, sym, ap, subst, zero, suc, Bool, true, false, cond}
use Rattle.std.specs.Prelude.{◌==◌, nat_lt, Option, Some, None}
use Rattle.std.proofs.lemmas.Bool.{and_parts, ne_eqb, lt-ltb, ltb-true}
use Rattle.duality.specs.declared.leaf.Node.TheVariants.{Branch, Leaf as Closing, OpenEnd, Same}
use Rattle.cert_text.specs.declared.lines.CertLine.{CertLine}
use Rattle.cert_text.specs.declared.lines.CertLine.TheVariants as lines
use Rattle.cert_text.specs.declared.place.Place.{Place}
use Rattle.cert_text.specs.declared.place.Place.TheVariants as places
use Rattle.cert_text.specs.Places.{follows, count_of, wanted_of, may_begin, cuts_left}
use Rattle.cert_text.specs.Pieces.{InTree, IsSoundPlace}

abbrev NextOf : ℕ → Option Place → Type 0
NextOf line None = Unit {0}
NextOf line (Some q) = IsSoundPlace q line

next_if : (b : Bool) (q : Place) (line : ℕ) → (b ≡ true → IsSoundPlace q line) → NextOf line (cond b (Some q) None)
next_if true q line h = h refl
next_if false q line h = tt

some_left : (k : ℕ) → Some (cuts_left (suc k)) ≡ Some (places.Cutting k)
some_left k = ap Some (rw (ne_eqb (suc k) 0 (λ e. absurd (omega arith))) (ap places.Cutting (omega arith)))

begun : (levels j : ℕ) → may_begin levels j ≡ true → levels < 6
begun levels j h = ltb-true levels 6 (and_parts (j == levels + 1) (nat_lt levels 6) h).1

loose_left : (levels k : ℕ) (seen end : Bool) → ◌≡◌ {A = Option Place} (Some (places.Loose levels k seen)) (cond (nat_lt 0 (suc k)) (Some (places.Loose levels (suc k - 1) seen)) (cond end (Some (places.After levels)) None))
loose_left levels k seen end = sym (rw (lt-ltb 0 (suc k) (omega arith)) (ap (λ n. Some (places.Loose levels n seen)) (omega arith)))

next : (p : Place) (l : CertLine) (line : ℕ) → count_of p < 7 → wanted_of p ≤ line → InTree p → NextOf (line + 1) (follows p l)
next places.Head (lines.Head v) line c w r = record { counted = omega arith; wanted = omega arith; tree = tt }
next places.Sizes (lines.Sizes x y) line c w r = record { counted = omega arith; wanted = omega arith; tree = tt }
next places.Choice (lines.Choice es) line c w r = record { counted = omega arith; wanted = omega arith; tree = tt }
next places.Values (lines.Values vs) line c w r = record { counted = omega arith; wanted = omega arith; tree = tt }
next places.Cuts (lines.Cuts zero) line c w r = record { counted = omega arith; wanted = omega arith; tree = tt }
next places.Cuts (lines.Cuts (suc j)) line c w r =
    subst (NextOf (line + 1)) (sym (some_left j)) (record { counted = omega arith; wanted = omega arith; tree = tt })
next (places.Cutting zero) (lines.Cut ps) line c w r = record { counted = omega arith; wanted = omega arith; tree = tt }
next (places.Cutting (suc j)) (lines.Cut ps) line c w r = subst (NextOf (line + 1)) (sym (some_left j)) (record { counted = omega arith; wanted = omega arith; tree = tt })
next (places.Between levels) (lines.Level j) line c w r = next_if (may_begin levels j) (places.Inside levels 0) (line + 1) (λ h. record { counted = omega (arith, c); wanted = omega arith; tree = begun levels j h })
next (places.Between levels) (lines.Unfinished j) line c w r = next_if (may_begin levels j) (places.Loose levels 0 false) (line + 1) (λ h. record { counted = omega (arith, c); wanted = omega arith; tree = begun levels j h })
next (places.Between levels) (lines.End j) line c w r = next_if (j == levels) (places.Over levels) (line + 1) (λ h. record { counted = c; wanted = omega arith; tree = tt })
next (places.Inside levels wanted) (lines.Node (Branch p)) line c w r = record { counted = c; wanted = omega (arith, w); tree = r }
next (places.Inside levels zero) (lines.Node (Closing leaf)) line c w r = record { counted = omega (arith, r); wanted = omega arith; tree = tt }
next (places.Inside levels (suc j)) (lines.Node (Closing leaf)) line c w r =
    let back : ◌≡◌ {A = Option Place} (Some (places.Inside levels j)) (cond (suc j == 0) (Some (places.Between (levels + 1))) (Some (places.Inside levels (suc j - 1)))) = sym (rw (ne_eqb (suc j) 0 (λ e. absurd (omega arith))) (ap (λ i. Some (places.Inside levels i)) (omega arith))) in
    subst (NextOf (line + 1)) back (record { counted = c; wanted = omega (arith, w); tree = r })
next (places.Inside levels zero) (lines.Node (Same q)) line c w r = record { counted = omega (arith, r); wanted = omega arith; tree = tt }
next (places.Inside levels (suc j)) (lines.Node (Same q)) line c w r =
    let back : ◌≡◌ {A = Option Place} (Some (places.Inside levels j)) (cond (suc j == 0) (Some (places.Between (levels + 1))) (Some (places.Inside levels (suc j - 1)))) = sym (rw (ne_eqb (suc j) 0 (λ e. absurd (omega arith))) (ap (λ i. Some (places.Inside levels i)) (omega arith))) in
    subst (NextOf (line + 1)) back (record { counted = c; wanted = omega (arith, w); tree = r })
next (places.Inside levels wanted) (lines.Node OpenEnd) line c w r = tt
next (places.Loose levels wanted seen) (lines.Node (Branch p)) line c w r = record { counted = c; wanted = omega (arith, w); tree = r }
next (places.Loose levels zero true) (lines.Node (Closing leaf)) line c w r = record { counted = c; wanted = omega arith; tree = tt }
next (places.Loose levels zero false) (lines.Node (Closing leaf)) line c w r = tt
next (places.Loose levels (suc j) seen) (lines.Node (Closing leaf)) line c w r = subst (NextOf (line + 1)) (loose_left levels j seen seen) (record { counted = c; wanted = omega (arith, w); tree = r })
next (places.Loose levels zero true) (lines.Node (Same q)) line c w r = record { counted = c; wanted = omega arith; tree = tt }
next (places.Loose levels zero false) (lines.Node (Same q)) line c w r = tt
next (places.Loose levels (suc j) seen) (lines.Node (Same q)) line c w r = subst (NextOf (line + 1)) (loose_left levels j seen seen) (record { counted = c; wanted = omega (arith, w); tree = r })
next (places.Loose levels zero seen) (lines.Node OpenEnd) line c w r = record { counted = c; wanted = omega arith; tree = tt }
next (places.Loose levels (suc j) seen) (lines.Node OpenEnd) line c w r = subst (NextOf (line + 1)) (loose_left levels j true true) (record { counted = c; wanted = omega (arith, w); tree = r })
next (places.After levels) (lines.End j) line c w r = next_if (j == levels) (places.Over levels) (line + 1) (λ h. record { counted = c; wanted = omega arith; tree = tt })
next p l line c w r = tt

pub sound_behind : (p q : Place) (l : CertLine) (line : ℕ) → follows p l ≡ Some q → IsSoundPlace p line → IsSoundPlace q (line + 1)
sound_behind p q l line e sound = subst (NextOf (line + 1)) e (next p l line sound.counted sound.wanted sound.tree)
