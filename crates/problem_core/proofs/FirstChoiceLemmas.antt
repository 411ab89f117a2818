-- The first choice is legal, and best in event hours where every event has a room.
use Rattle.std.proofs.Common.{ℕ, ◌≡◌, ◌≢◌, ◌+◌, ◌-◌, ◌<◌, inl, inr, true, false, not, arith, sym, ◌∙◌, List, length, take, get_or}
use Rattle.std.proofs.lemmas.List.{get_or-take}
use Rattle.std.specs.Prelude.{pos, ◌≤ℤ◌}
use Rattle.std.proofs.lemmas.Bool.{and_parts, and_cases, not-true, eq-eqb, ne_eqb, cond_both, true≢false}
use Rattle.std.specs.Prelude.{◌==◌}
use Rattle.std.proofs.lemmas.Int.{ints}
use Rattle.problem_core.specs.Facts.{Facts, suits, share_slot, hours_of}
use Rattle.problem_core.specs.Choice.{entry, IsLegal, holds}
use Rattle.problem_core.specs.Measures.{IsBest, gained}
use Rattle.problem_core.specs.FirstChoice.{IsFirstChoice, can_take}
use Rattle.numbers.specs.Below.{any_below, first_from}
use Rattle.numbers.specs.Below.{first_from_finds, none_below}
use Rattle.numbers.specs.Sums.{sum_below-le}

-- a room that suits and is free, apart
can_take_parts : (p : Facts) (a : List ℕ) (e r : ℕ) → can_take p a e r ≡ true → (suits p e r ≡ true) × (any_below (holds p a e (r + 1)) e ≡ false)
can_take_parts p a e r h = let parts = and_parts (suits p e r) (not (any_below (holds p a e (r + 1)) e)) h in (parts.0, not-true _ parts.1)

-- the room that an event got: it is there, and could be taken
pub found : (p : Facts) (a : List ℕ) (e : ℕ) → IsFirstChoice p a → e < length a → entry a e ≢ 0 → (can_take p (take e a) e (entry a e - 1) ≡ true) × (entry a e - 1 < length p.capacity)
found p a e first l some =
    let is : first_from (can_take p (take e a) e) 0 (length p.capacity) ≡ (entry a e - 1) + 1 = sym (first.lowest e l) ∙ omega arith in
    let got = first_from_finds (can_take p (take e a) e) 0 (length p.capacity) (entry a e - 1) is in
    (got.0, omega arith)

pub IsLegal-first_choice : (p : Facts) (a : List ℕ) → IsFirstChoice p a → IsLegal p a
IsLegal-first_choice p a first = record {
  one_each = first.one_each;
  known = λ e l some. (found p a e first l some).1;
  suitable = λ e l some. (can_take_parts p (take e a) e (entry a e - 1) (found p a e first l some).0).0;
  apart = λ e f l m some same.
      let got = found p a f first m (λ none. some (same ∙ none)) in
      let free = none_below (holds p (take f a) f ((entry a f - 1) + 1)) e f (can_take_parts p (take f a) f (entry a f - 1) got.0).1 l in
      let read : get_or (take f a) e 0 ≡ get_or a e 0 = get_or-take f a e 0 l in
      let here : entry (take f a) e ≡ (entry a f - 1) + 1 = read ∙ omega arith in
      elim (and_cases (entry (take f a) e == (entry a f - 1) + 1) (share_slot p e f) free)
      [ inl differs ↦ absurd (true≢false (sym (eq-eqb (entry (take f a) e) ((entry a f - 1) + 1) here) ∙ differs)) | inr apart ↦ apart ];
}

gained_one : (p : Facts) (a b : List ℕ) (e : ℕ) → entry a e ≢ 0 → gained p 1 b e ≤ℤ gained p 1 a e
gained_one p a b e some =
    rw (ne_eqb (entry a e) 0 some)
    (cond_both (entry b e == 0) (pos 0) (pos (hours_of p e)) (λ x. x ≤ℤ pos (hours_of p e)) (λ _. omega (arith, ints)) (λ _. omega (arith, ints)))

pub IsBest-first_choice : (p : Facts) (a : List ℕ) → IsFirstChoice p a → ((e : ℕ) → e < length a → entry a e ≢ 0) → IsBest p 1 a
IsBest-first_choice p a first all = record {
  legal = IsLegal-first_choice p a first;
  none_better = λ k low high b legal same.
      let one : k ≡ 1 = omega arith in
      let lens : length b ≡ length a = legal.one_each ∙ sym first.one_each in
      rw (one, lens) (sum_below-le (gained p 1 b) (gained p 1 a) (length a) (λ e l. gained_one p a b e (all e l)));
}
