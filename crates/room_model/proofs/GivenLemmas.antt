-- The rooms that the times give are known, one a meeting.
use Rattle.std.proofs.Common.{ℕ, ◌≡◌, ◌≢◌, ◌<◌, ◌≤◌, ◌-◌, ◌∙◌, sym, arith, subst, List, [], ◌∷◌, length, map, get_or, refl, zero, suc}
use Rattle.std.proofs.lemmas.List.{length-map}
use Rattle.problem_core.specs.Choice.{IsChoice, entry}
use Rattle.problem_core.specs.OfParts.{event_of}
use Rattle.ctt_reader.specs.declared.instance.Instance.{Instance}
use Rattle.ctt_reader.specs.declared.instance.Room.{Room}
use Rattle.ctt_reader.proofs.FieldsBackLemmas.{passes-at}
use Rattle.timed_solution.specs.declared.times.Times.{Times}
use Rattle.timed_solution.specs.declared.times.Meeting.{Meeting}
use Rattle.timed_solution.specs.Times.{AreTimes, is_meeting}
use Rattle.timed_solution.proofs.BackLemmas.{meeting_parts}
use Rattle.measure_file.specs.declared.measures.Measures.{Measures}
use Rattle.room_model.specs.ProblemOf.{problem_of, given_rooms, event_part}

room_at : (meetings : List Meeting) (e : ℕ) (d : Meeting) → e < length meetings → get_or (map (λ (x : Meeting). x.room) meetings) e 0 ≡ (get_or meetings e d).room
room_at meetings e d l = named_at meetings e d l
  where
    named_at : (meetings : List Meeting) (e : ℕ) (d : Meeting) → e < length meetings → get_or (map (λ (x : Meeting). x.room) meetings) e 0 ≡ (get_or meetings e d).room
    named_at [] e d l = absurd (omega arith)
    named_at (x ∷ meetings) zero d l = refl
    named_at (x ∷ meetings) (suc e) d l = named_at meetings e d (omega arith)

below : (x n : ℕ) → x ≢ 0 → x ≤ n → x - 1 < n
below x n some l = omega arith

pub given_choice_of : (i : Instance) (t : Times) (m : Measures) → AreTimes i t.meetings → IsChoice (problem_of i t m) (given_rooms t)
given_choice_of i t m are =
    let none : Meeting = record { course = 0; room = 0; day = 0; period = 0 } in
    let count : length (given_rooms t) ≡ length t.meetings = length-map t.meetings (λ (x : Meeting). x.room) in
    let capacity : length (problem_of i t m).capacity ≡ length i.rooms = length-map i.rooms (λ (r : Room). r.capacity) in
    record {
      one_each = count ∙ sym (length-map (map (event_part i.periods m) t.meetings) event_of ∙ length-map t.meetings (event_part i.periods m));
      known = λ e l some.
          let there : e < length t.meetings = omega (arith, count) in
          let small : entry (given_rooms t) e ≤ length i.rooms =
          subst (λ x. x ≤ length i.rooms) (sym (room_at t.meetings e none there)) (meeting_parts i (get_or t.meetings e none) (passes-at (is_meeting i) t.meetings e none are.each there)).room in
          subst (λ n. entry (given_rooms t) e - 1 < n) (sym capacity) (below (entry (given_rooms t) e) (length i.rooms) some small);
    }
