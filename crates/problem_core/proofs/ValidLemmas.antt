-- What every problem keeps makes it a problem.
use Rattle.std.proofs.Common.{ℕ, ◌≡◌, ◌+◌, ◌<◌, ◌≤◌, inl, inr, false, ◌&&◌, arith, ap, ap₂, sym, ◌∙◌, length, get_or}
use Rattle.std.specs.Prelude.{nat_lt, ◌==◌}
use Rattle.std.specs.List.{list_any}
use Rattle.std.proofs.lemmas.List.{get_or-map, length-map}
use Rattle.std.proofs.lemmas.Bool.Decides.{nat_tests}
use Rattle.problem_core.specs.Facts.{Event, run_of, event_at, no_event, course_of, share_slot}
use Rattle.problem_core.specs.OfParts.{facts_of, event_of}
use Rattle.problem_core.specs.Kept.{AreKept, AreFit, AreApart}
use Rattle.problem_core.specs.Valid.{IsRun, IsProblem}
use Rattle.problem_core.specs.declared.parts.Parts.{Parts}
use Rattle.problem_core.specs.declared.parts.EventPart.{EventPart}
use Rattle.problem_core.proofs.RunLemmas.{runs_meet}

abbrev pub no_part : EventPart
no_part = record { course = 0; slot = 0; length = 0 }

pub event_at-parts : (p : Parts) (e : ℕ) → e < length p.events → event_at (facts_of p) e ≡ event_of (get_or p.events e no_part)
event_at-parts p e l = get_or-map event_of p.events e no_part no_event l

before_apart : (a n b m : ℕ) → a + n ≤ b → (nat_lt a (b + m) && nat_lt b (a + n) && nat_lt 0 n && nat_lt 0 m) ≡ false
before_apart a n b m l = grind (arith, nat_tests)

after_apart : (a n b m : ℕ) → b + m ≤ a → (nat_lt a (b + m) && nat_lt b (a + n) && nat_lt 0 n && nat_lt 0 m) ≡ false
after_apart a n b m l = grind (arith, nat_tests)

no_slot : (x y : EventPart) → AreApart x y → x.course ≡ y.course → list_any (λ s. list_any (λ t. t == s) (run_of y.slot y.length)) (run_of x.slot x.length) ≡ false
no_slot x y apart same = elim (apart same).1 [
  | inl before ↦ runs_meet x.slot x.length y.slot y.length ∙ before_apart x.slot x.length y.slot y.length before
  | inr after ↦ runs_meet x.slot x.length y.slot y.length ∙ after_apart x.slot x.length y.slot y.length after
]

events_apart : (p : Parts) → AreFit p → (e f : ℕ) → e < f → f < length (facts_of p).events → course_of (facts_of p) e ≡ course_of (facts_of p) f → share_slot (facts_of p) e f ≡ false
events_apart p fit e f l m same =
    let whole = length-map p.events event_of in
    let first = event_at-parts p e (omega (arith, whole)) in
    let second = event_at-parts p f (omega (arith, whole)) in
    let x = get_or p.events e no_part in
    let y = get_or p.events f no_part in
    let courses : x.course ≡ y.course = sym (ap (λ (z : Event). z.course) first) ∙ same ∙ ap (λ (z : Event). z.course) second in
    ap₂ (λ (z w : Event). list_any (λ s. list_any (λ t. t == s) w.takes) z.takes) first second
    ∙ no_slot x y (fit.apart e f no_part l (omega (arith, whole))) courses

event_run : (p : Parts) → AreFit p → (e : ℕ) → e < length p.events → IsRun p.slots (event_at (facts_of p) e).takes
event_run p fit e l = record {
  first = (get_or p.events e no_part).slot;
  count = (get_or p.events e no_part).length;
  are = ap (λ (z : Event). z.takes) (event_at-parts p e l);
  within = (fit.events e no_part l).within;
}

pub IsProblem-kept : (p : Parts) → AreKept p → IsProblem (facts_of p)
IsProblem-kept p kept =
    let whole = length-map p.events event_of in
    record {
      few_courses = kept.fit.few_courses;
      few_rooms = kept.fit.few_rooms;
      few_slots = kept.fit.few_slots;
      few_events = omega (arith, whole, kept.few_events);
      few_of_course = kept.few_of_course;
      known = λ e l.
          let there : e < length p.events = omega (arith, whole) in
          omega (arith, ap (λ (z : Event). z.course) (event_at-parts p e there), (kept.fit.events e no_part there).known);
      runs = λ e l. event_run p kept.fit e (omega (arith, whole));
      apart = events_apart p kept.fit;
    }
