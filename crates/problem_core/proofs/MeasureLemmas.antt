-- How large a measure of a legal choice may be: each event adds at most 48,000,000 in size.
use Rattle.std.proofs.Common.{ℕ, ◌≡◌, ◌+◌, ◌-◌, ◌*◌, ◌/◌, ◌<◌, ◌≤◌, zero, suc, inl, inr, Bool, true, false, not, arith, ap, refl, List, [], ◌∷◌, length, get_or}
use Rattle.std.specs.Prelude.{ℤ, pos, negsuc, ◌==◌, nat_le, if◌then◌else◌}
use Rattle.std.specs.List.{AllByRecursion, list_any}
use Rattle.std.proofs.lemmas.Int.{ints}
use Rattle.std.proofs.lemmas.Bool.{and_parts, cases_eq, cond_both, leb-true, ne_eqb}
use Rattle.std.proofs.lemmas.List.{length-map}
use Rattle.std.proofs.Math.Nat.{div-le_of_le-mul}
use Rattle.numbers.specs.Sums.{sum_below}
use Rattle.problem_core.specs.Facts.{Facts, Event, run_of, event_at, course_of, students_of, hours_of, capacity_of, has_features, seats, admits, is_denied, is_closed, suits}
use Rattle.problem_core.specs.Choice.{entry, IsLegal}
use Rattle.problem_core.specs.Measures.{per_mille, points_up_to, gain, gained, is_new_room, measure}
use Rattle.problem_core.specs.OfParts.{facts_of, event_of}
use Rattle.problem_core.specs.Kept.{AreKept, AreFit, IsWithin}
use Rattle.problem_core.specs.declared.parts.Parts.{Parts}
use Rattle.problem_core.proofs.KeptLemmas.{points_within}
use Rattle.problem_core.proofs.ValidLemmas.{event_at-parts, no_part}

length-run_of : (s n : ℕ) → length (run_of s n) ≡ n
length-run_of s zero = refl
length-run_of s (suc n) = ap suc (length-run_of (s + 1) n)

few_hours : (p : Parts) → AreFit p → (e : ℕ) → e < length p.events → hours_of (facts_of p) e ≤ 48
few_hours p fit e l =
    let x = get_or p.events e no_part in
    omega (arith, ap (λ (z : Event). length z.takes) (event_at-parts p e l), length-run_of x.slot x.length, (fit.events e no_part l).short)

few_students : (p : Parts) → AreFit p → (e : ℕ) → e < length p.events → students_of (facts_of p) e ≤ 1000000
few_students p fit e l =
    let known : course_of (facts_of p) e < length p.students = omega (arith, ap (λ (z : Event). z.course) (event_at-parts p e l), (fit.events e no_part l).known) in
    fit.students (course_of (facts_of p) e) 0 known

-- no more than a thousand times the whole
share_small : (part whole : ℕ) → part ≤ whole → per_mille part whole ≤ 1000
share_small part whole l = cond_both (whole == 0) 0 (1000 * part / whole) (λ n. n ≤ 1000) (λ _. omega arith) (λ _. div-le_of_le-mul whole (omega arith))

product_small : (a m b n : ℕ) → a ≤ m → b ≤ n → a * b ≤ m * n
product_small a m b n k l = grind arith

natural_within : (bound n : ℕ) → n ≤ bound → IsWithin (pos bound) (pos n)
natural_within bound n l = record { low = omega (arith, ints); high = omega (arith, ints) }

wider : (m n : ℕ) (z : ℤ) → m ≤ n → IsWithin (pos m) z → IsWithin (pos n) z
wider m n z l h = record { low = omega (arith, ints, h.low); high = omega (arith, ints, h.high) }

-- the points of one of the rows, or those before
rows_within : (x : ℕ) (before : ℤ) (rows : List (ℕ × ℤ)) → IsWithin (pos 1000000) before → AllByRecursion (λ row. IsWithin (pos 1000000) row.1) rows → IsWithin (pos 1000000) (points_up_to x before rows)
rows_within x before [] b h = b
rows_within x before (row ∷ rows) b h = rows_within x (if nat_le row.0 x then row.1 else before) rows (cond_both (nat_le row.0 x) row.1 before (IsWithin (pos 1000000)) (λ _. h.0) (λ _. b)) h.1

nothing_within : (bound : ℕ) → IsWithin (pos bound) (pos 0)
nothing_within bound = record { low = omega (arith, ints); high = omega (arith, ints) }

-- a room that suits an event seats its students
seated : (p : Facts) (e r : ℕ) → suits p e r ≡ true → students_of p e ≤ capacity_of p r
seated p e r h =
    let one = and_parts (admits p (course_of p e) r) (not (list_any (is_closed p r) (event_at p e).takes)) h in
    let two = and_parts (seats p (course_of p e) r) (not (is_denied p (course_of p e) r)) one.0 in
    leb-true (students_of p e) (capacity_of p r) (and_parts (nat_le (students_of p e) (capacity_of p r)) (has_features p (course_of p e) r) two.0).0

gain_small : (p : Parts) → AreFit p → (k e r : ℕ) → e < length p.events → suits (facts_of p) e r ≡ true → IsWithin (pos 48000000) (gain (facts_of p) k e r)
gain_small p fit k e r l suit =
    let q = facts_of p in
    let hours = few_hours p fit e l in
    let students = few_students p fit e l in
    let share = share_small (students_of q e) (capacity_of q r) (seated q e r suit) in
    let points = points_within (course_of q e) r p.prefer fit.points in
    let spare = rows_within (per_mille (capacity_of q r - students_of q e) (capacity_of q r)) (pos 0) p.robust (nothing_within 1000000) fit.rows in
    cond_both (k == 1) _ _ (IsWithin (pos 48000000)) (λ _. natural_within 48000000 (hours_of q e) (omega arith)) (λ _.
    cond_both (k == 2) _ _ (IsWithin (pos 48000000)) (λ _. natural_within 48000000 (hours_of q e * students_of q e) (omega (arith, product_small (hours_of q e) 48 (students_of q e) 1000000 hours students))) (λ _.
    cond_both (k == 3) _ _ (IsWithin (pos 48000000)) (λ _. natural_within 48000000 (hours_of q e * per_mille (students_of q e) (capacity_of q r)) (omega (arith, product_small (hours_of q e) 48 (per_mille (students_of q e) (capacity_of q r)) 1000 hours share))) (λ _.
    cond_both (k == 4) _ _ (IsWithin (pos 48000000)) (λ _. wider 1000000 48000000 _ (omega arith) points) (λ _. wider 1000000 48000000 _ (omega arith) spare))))

new_room_within : (b : Bool) → IsWithin (pos 48000000) (if b then negsuc 0 else pos 0)
new_room_within true = record { low = omega (arith, ints); high = omega (arith, ints) }
new_room_within false = nothing_within 48000000

gained_small : (p : Parts) → AreFit p → (k : ℕ) (a : List ℕ) → IsLegal (facts_of p) a → (e : ℕ) → e < length a → IsWithin (pos 48000000) (gained (facts_of p) k a e)
gained_small p fit k a legal e l = elim (cases_eq (entry a e) 0) [
  | inl none ↦ rw none (nothing_within 48000000)
  | inr some ↦
      let there : e < length p.events = omega (arith, legal.one_each, length-map p.events event_of) in
      rw (ne_eqb (entry a e) 0 some)
      (cond_both (k == 5) _ _ (IsWithin (pos 48000000)) (λ _. new_room_within (is_new_room (facts_of p) a e)) (λ _. gain_small p fit k e (entry a e - 1) there (legal.suitable e l some)))
]

sum_small : (f : ℕ → ℤ) (bound n : ℕ) → ((i : ℕ) → i < n → IsWithin (pos bound) (f i)) → IsWithin (pos (n * bound)) (sum_below f n)
sum_small f bound zero h = nothing_within (0 * bound)
sum_small f bound (suc n) h =
    let rest = sum_small f bound n (λ i l. h i (omega arith)) in
    let last = h n (omega arith) in
    let e : suc n * bound ≡ n * bound + bound = grind arith in
    record { low = omega (arith, ints, rest.low, last.low, e); high = omega (arith, ints, rest.high, last.high, e) }

pub measure_small : (p : Parts) → AreKept p → (k : ℕ) (a : List ℕ) → IsLegal (facts_of p) a → IsWithin (pos 192000000000) (measure (facts_of p) k a)
measure_small p kept k a legal =
    let few : length a ≤ 4000 = omega (arith, legal.one_each, length-map p.events event_of, kept.few_events) in
    wider (length a * 48000000) 192000000000 (measure (facts_of p) k a) (omega arith) (sum_small (gained (facts_of p) k a) 48000000 (length a) (gained_small p kept.fit k a legal))
