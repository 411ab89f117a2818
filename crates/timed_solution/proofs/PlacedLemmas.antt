-- The table of the slots that are taken, and the counts.
use Rattle.std.proofs.Common.{ℕ, ◌≡◌, ◌≤◌, ◌<◌, ◌+◌, ◌*◌, ◌++◌, Bool, true, false, cond, List, [], ◌∷◌, length, get_or, refl, ap, sym, ◌∙◌, arith}
use Rattle.std.specs.Prelude.{◌&&◌, ◌||◌, ◌==◌, nat_lt, nat_le, slice_set}
use Rattle.std.specs.List.{list_all, list_any}
use Rattle.std.proofs.lemmas.Bool.{and_parts, eq-eqb, ne_eqb}
use Rattle.std.proofs.lemmas.Bool.Decides.{nat_tests}
use Rattle.std.proofs.lemmas.Grind.{get_or-set_at}
use Rattle.std.proofs.lemmas.List.{get_or_default}
use Rattle.std.proofs.Common.{get_or-set_other, length-set}
use Rattle.timed_solution.specs.Times.{same_time, held_of, is_meeting}
use Rattle.timed_solution.specs.Placed.{place, has_place, AreTables}
use Rattle.timed_solution.specs.declared.times.Meeting.{Meeting}
use Rattle.timed_solution.proofs.TimesLemmas.{any-more, held-more}
use Rattle.ctt_reader.proofs.EntryLemmas.{all-more}
use Rattle.ctt_reader.specs.Promised.{IsInstance}
use Rattle.ctt_reader.specs.declared.instance.Instance.{Instance}
use Rattle.input_core.proofs.ChainLemmas.{both}

record IsPlace (n : ℕ) (m : Meeting) : Type 0 where
  course : m.course < n
  day : m.day < 14
  period : m.period < 48

below : (k n : ℕ) → nat_lt k n ≡ true → k < n
below k n h = grind (arith, nat_tests, h)

equal_of : (a b : ℕ) → (a == b) ≡ true → a ≡ b
equal_of a b h = grind (arith, nat_tests, h)

place-is : (n : ℕ) (m : Meeting) → has_place n m ≡ true → IsPlace n m
place-is n m h =
    let a = and_parts (nat_lt m.course n && nat_lt m.day 14) (nat_lt m.period 48) h in
    let b = and_parts (nat_lt m.course n) (nat_lt m.day 14) a.0 in
    record { course = below m.course n b.0; day = below m.day 14 b.1; period = below m.period 48 a.1 }

-- different slots have different places
same_place : (n : ℕ) (m x : Meeting) → IsPlace n m → IsPlace n x → (place x == place m) ≡ same_time m x
same_place n m x hm hx =
    elim (same_time m x) as (λ t. same_time m x ≡ t → (place x == place m) ≡ t) [
      | true ↦ λ e.
          let a = and_parts (m.course == x.course) ((m.day == x.day) && (m.period == x.period)) e in
          let b = and_parts (m.day == x.day) (m.period == x.period) a.1 in
          let c : m.course ≡ x.course = equal_of m.course x.course a.0 in
          let d : m.day ≡ x.day = equal_of m.day x.day b.0 in
          let p : m.period ≡ x.period = equal_of m.period x.period b.1 in
          eq-eqb (place x) (place m) (omega (arith, c, d, p))
      | false ↦ λ e. ne_eqb (place x) (place m) (λ same.
          let c : m.course ≡ x.course = omega (arith, same, hm.day, hm.period, hx.day, hx.period) in
          let d : m.day ≡ x.day = omega (arith, same, c, hm.period, hx.period) in
          let p : m.period ≡ x.period = omega (arith, same, c, d) in
          let yes_same : same_time m x ≡ true = rw (eq-eqb m.course x.course c, eq-eqb m.day x.day d, eq-eqb m.period x.period p) refl in
          cc)
    ] refl

pub taken-at : (n : ℕ) (m : Meeting) (meetings : List Meeting) → has_place n m ≡ true → list_all (has_place n) meetings ≡ true → list_any (λ x. place x == place m) meetings ≡ list_any (same_time m) meetings
taken-at n m [] h all = refl
taken-at n m (x ∷ meetings) h all =
    let p = and_parts (has_place n x) (list_all (has_place n) meetings) all in
    rw (same_place n m x (place-is n m h) (place-is n x p.0)) (ap (λ t. same_time m x || t) (taken-at n m meetings h p.1))

pub place-small : (n : ℕ) (m : Meeting) → has_place n m ≡ true → place m < n * 672
place-small n m h = let p = place-is n m h in omega (arith, p.course, p.day, p.period)

or-true : (b : Bool) → (b || true) ≡ true
or-true true = refl
or-true false = refl

or-false : (b : Bool) → (b || false) ≡ b
or-false true = refl
or-false false = refl

marks-more : (taken : List Bool) (meetings : List Meeting) (m : Meeting) → place m < length taken → ((k : ℕ) → k < length taken → get_or taken k false ≡ list_any (λ x. place x == k) meetings)
    → (k : ℕ) → k < length taken → get_or (slice_set taken (place m) true) k false ≡ list_any (λ x. place x == k) (meetings ++ m ∷ [])
marks-more taken meetings m room old k l =
    elim (place m == k) as (λ t. (place m == k) ≡ t → get_or (slice_set taken (place m) true) k false ≡ (list_any (λ x. place x == k) meetings || t)) [
      | true ↦ λ e. get_or-set_at taken (place m) k true false (sym (equal_of (place m) k e)) room ∙ sym (or-true (list_any (λ x. place x == k) meetings))
      | false ↦ λ e. get_or-set_other taken (place m) k true false (λ same. let equal : (place m == k) ≡ true = eq-eqb (place m) k (sym same) in cc) ∙ old k l ∙ sym (or-false (list_any (λ x. place x == k) meetings))
    ] refl ∙ sym (any-more (λ x. place x == k) meetings m)

counts-more : (held : List ℕ) (meetings : List Meeting) (m : Meeting) (n : ℕ) → m.course < length held → n ≡ get_or held m.course 0 → ((c : ℕ) → c < length held → get_or held c 0 ≡ held_of c meetings)
    → (c : ℕ) → c < length held → get_or (slice_set held m.course (n + 1)) c 0 ≡ held_of c (meetings ++ m ∷ [])
counts-more held meetings m n room is old c l =
    elim (m.course == c) as (λ t. (m.course == c) ≡ t → get_or (slice_set held m.course (n + 1)) c 0 ≡ held_of c meetings + cond t 1 0) [
      | true ↦ λ e.
          let same : m.course ≡ c = equal_of m.course c e in
          let before : n ≡ held_of c meetings = is ∙ ap (λ k. get_or held k 0) same ∙ old c l in
          get_or-set_at held m.course c (n + 1) 0 (sym same) room ∙ ap (λ k. k + 1) before
      | false ↦ λ e.
          let kept : get_or (slice_set held m.course (n + 1)) c 0 ≡ get_or held c 0 = get_or-set_other held m.course c (n + 1) 0 (λ same. let equal : (m.course == c) ≡ true = eq-eqb m.course c (sym same) in cc) in
          omega (arith, kept, old c l)
    ] refl ∙ sym (held-more c meetings m)

pub AreTables-more : (meetings new : List Meeting) (taken : List Bool) (held : List ℕ) (m : Meeting) (n p : ℕ) → new ≡ meetings ++ m ∷ [] → p ≡ place m → n ≡ get_or held m.course n
    → has_place (length held) m ≡ true → AreTables meetings taken held → AreTables new (slice_set taken p true) (slice_set held m.course (n + 1))
AreTables-more meetings new taken held m n p grown at is h old =
    let same : length (slice_set held m.course (n + 1)) ≡ length held = length-set held m.course (n + 1) in
    let size : length (slice_set taken (place m) true) ≡ length taken = length-set taken (place m) true in
    let small = place-small (length held) m h in
    let course = (place-is (length held) m h).course in
    let count : n ≡ get_or held m.course 0 = is ∙ get_or_default held m.course n 0 course in
    rw (grown, at) (record {
      few = omega (arith, same, old.few);
      size = omega (arith, same, size, old.size);
      placed = rw same (all-more (has_place (length held)) meetings m old.placed h);
      marks = λ k l. marks-more taken meetings m (omega (arith, small, old.size)) old.marks k (omega (arith, l, size));
      counts = λ c l. counts-more held meetings m n course count old.counts c (omega (arith, l, same));
    })

pub place-known : (i : Instance) (m : Meeting) → IsInstance i → is_meeting i m ≡ true → has_place (length i.courses) m ≡ true
place-known i m good h =
    let a = and_parts (nat_lt m.course (length i.courses) && nat_le m.room (length i.rooms) && nat_lt m.day i.days) (nat_lt m.period i.periods) h in
    let b = and_parts (nat_lt m.course (length i.courses) && nat_le m.room (length i.rooms)) (nat_lt m.day i.days) a.0 in
    let c = and_parts (nat_lt m.course (length i.courses)) (nat_le m.room (length i.rooms)) b.0 in
    both (nat_lt m.course (length i.courses) && nat_lt m.day 14) (nat_lt m.period 48)
    (both (nat_lt m.course (length i.courses)) (nat_lt m.day 14) c.0 (wider m.day i.days 14 b.1 good.few_days)) (wider m.period i.periods 48 a.1 good.few_periods)
  where
    wider : (k n high : ℕ) → nat_lt k n ≡ true → n ≤ high → nat_lt k high ≡ true
    wider k n high h l = grind (arith, nat_tests, h, l)

pub taken-is : (meetings : List Meeting) (taken : List Bool) (held : List ℕ) (m : Meeting) (p : ℕ) (b : Bool) → AreTables meetings taken held → has_place (length held) m ≡ true → p ≡ place m → b ≡ get_or taken p b → b ≡ list_any (same_time m) meetings
taken-is meetings taken held m p b tables h at is =
    let small = place-small (length held) m h in
    let room : place m < length taken = omega (arith, small, tables.size) in
    is ∙ ap (λ k. get_or taken k b) at ∙ get_or_default taken (place m) b false room ∙ tables.marks (place m) room ∙ taken-at (length held) m meetings h tables.placed
