-- How many meetings there are at most.
use Rattle.std.proofs.Common.{ℕ, ◌≡◌, ◌≤◌, ◌<◌, ◌+◌, ◌*◌, true, cond, List, [], ◌∷◌, length, refl, arith, zero, suc, inl, inr}
use Rattle.std.specs.Prelude.{◌==◌}
use Rattle.std.specs.List.{list_all}
use Rattle.std.proofs.lemmas.Bool.{and_parts, cases_eq, eq-eqb, ne_eqb}
use Rattle.ctt_reader.specs.Promised.{IsInstance}
use Rattle.ctt_reader.specs.declared.instance.Instance.{Instance}
use Rattle.timed_solution.specs.Times.{AreTimes, is_meeting, held_of}
use Rattle.timed_solution.specs.declared.times.Meeting.{Meeting}
use Rattle.timed_solution.proofs.TimesLemmas.{lectures-few}
use Rattle.timed_solution.proofs.BackLemmas.{held-first, meeting_parts}

abbrev sum_to : (ℕ → ℕ) → ℕ → ℕ
sum_to f zero = 0
sum_to f (suc n) = sum_to f n + f n

sum_to-none : (n : ℕ) → sum_to (λ c. 0) n ≡ 0
sum_to-none zero = refl
sum_to-none (suc n) = omega (arith, sum_to-none n)

sum_to-same : (f g : ℕ → ℕ) (n : ℕ) → ((c : ℕ) → f c ≡ g c) → sum_to f n ≡ sum_to g n
sum_to-same f g zero h = refl
sum_to-same f g (suc n) h = omega (arith, sum_to-same f g n h, h n)

sum_to-plus : (f g : ℕ → ℕ) (n : ℕ) → sum_to (λ c. f c + g c) n ≡ sum_to f n + sum_to g n
sum_to-plus f g zero = omega arith
sum_to-plus f g (suc n) = omega (arith, sum_to-plus f g n)

sum_to-le : (f : ℕ → ℕ) (b n : ℕ) → ((c : ℕ) → f c ≤ b) → sum_to f n ≤ n * b
sum_to-le f b zero h = omega arith
sum_to-le f b (suc n) h = omega (arith, sum_to-le f b n h, h n)

-- one number below n is k
sum_to-past : (k n : ℕ) → n ≤ k → sum_to (λ c. cond (k == c) 1 0) n ≡ 0
sum_to-past k zero l = refl
sum_to-past k (suc n) l =
    let other : cond {A = ℕ} (k == n) 1 0 ≡ 0 = rw (ne_eqb k n (λ e. absurd (omega (arith, e, l)))) refl in
    omega (arith, sum_to-past k n (omega arith), other)

sum_to-one : (k n : ℕ) → k < n → sum_to (λ c. cond (k == c) 1 0) n ≡ 1
sum_to-one k zero l = absurd (omega arith)
sum_to-one k (suc n) l = elim (cases_eq k n) [
  | inl same ↦
      let here : cond {A = ℕ} (k == n) 1 0 ≡ 1 = rw (eq-eqb k n same) refl in
      omega (arith, sum_to-past k n (omega (arith, same)), here)
  | inr differ ↦
      let other : cond {A = ℕ} (k == n) 1 0 ≡ 0 = rw (ne_eqb k n differ) refl in
      omega (arith, sum_to-one k n (omega (arith, differ, l)), other)
]

-- the meetings of all courses are all meetings
all-held : (i : Instance) (meetings : List Meeting) → list_all (is_meeting i) meetings ≡ true → sum_to (λ c. held_of c meetings) (length i.courses) ≡ length meetings
all-held i [] h = sum_to-none (length i.courses)
all-held i (m ∷ meetings) h =
    let p = and_parts (is_meeting i m) (list_all (is_meeting i) meetings) h in
    let split : sum_to (λ c. held_of c (m ∷ meetings)) (length i.courses) ≡ sum_to (λ c. cond (m.course == c) 1 0 + held_of c meetings) (length i.courses) =
    sum_to-same (λ c. held_of c (m ∷ meetings)) (λ c. cond (m.course == c) 1 0 + held_of c meetings) (length i.courses) (λ c. held-first c m meetings) in
    let parts = sum_to-plus (λ c. cond (m.course == c) 1 0) (λ c. held_of c meetings) (length i.courses) in
    let one = sum_to-one m.course (length i.courses) (meeting_parts i m p.0).course in
    omega (arith, split, parts, one, all-held i meetings p.1)

pub few_meetings : (i : Instance) (meetings : List Meeting) → IsInstance i → AreTimes i meetings → length meetings ≤ 1000000
few_meetings i meetings is are =
    let all = all-held i meetings are.each in
    let each : sum_to (λ c. held_of c meetings) (length i.courses) ≤ length i.courses * 1000 =
    sum_to-le (λ c. held_of c meetings) 1000 (length i.courses) (λ c. (let l = lectures-few i.courses c is.courses in omega (arith, are.within c, l))) in
    omega (arith, all, each, is.few_courses)
