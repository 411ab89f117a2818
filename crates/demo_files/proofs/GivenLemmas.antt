-- Times with the rooms that they give.
use Rattle.std.proofs.Common.{◌≡◌, true, ◌&&◌, refl, ap, List, [], ◌∷◌, length, map}
use Rattle.std.specs.Prelude.{nat_lt, nat_le}
use Rattle.std.specs.List.{list_all}
use Rattle.std.proofs.lemmas.Bool.{and_parts, and_from}
use Rattle.std.proofs.lemmas.List.{length-map}
use Rattle.ctt_reader.specs.declared.instance.Instance.{Instance}
use Rattle.timed_solution.specs.declared.times.Times.{Times}
use Rattle.timed_solution.specs.declared.times.Meeting.{Meeting}
use Rattle.timed_solution.specs.Times.{is_meeting}
use Rattle.timed_solution.specs.Writing.{with_rooms, is_entry}
use Rattle.room_model.specs.ProblemOf.{given_rooms}

room-known : (i : Instance) (m : Meeting) → is_meeting i m ≡ true → is_entry i m.room ≡ true
room-known i m h =
    let a = and_parts (nat_lt m.course (length i.courses) && nat_le m.room (length i.rooms) && nat_lt m.day i.days) (nat_lt m.period i.periods) h in
    let b = and_parts (nat_lt m.course (length i.courses) && nat_le m.room (length i.rooms)) (nat_lt m.day i.days) a.0 in
    (and_parts (nat_lt m.course (length i.courses)) (nat_le m.room (length i.rooms)) b.0).1

rooms-known : (i : Instance) (meetings : List Meeting) → list_all (is_meeting i) meetings ≡ true → list_all (is_entry i) (map (λ (x : Meeting). x.room) meetings) ≡ true
rooms-known i [] h = refl
rooms-known i (m ∷ meetings) h =
    let p = and_parts (is_meeting i m) (list_all (is_meeting i) meetings) h in
    and_from (is_entry i m.room) (list_all (is_entry i) (map (λ (x : Meeting). x.room) meetings)) (room-known i m p.0) (rooms-known i meetings p.1)

pub given_known : (i : Instance) (t : Times) → list_all (is_meeting i) t.meetings ≡ true → list_all (is_entry i) (given_rooms t) ≡ true
given_known i t h = rooms-known i t.meetings h

pub given_count : (t : Times) → length (given_rooms t) ≡ length t.meetings
given_count t = length-map t.meetings (λ (x : Meeting). x.room)

rooms-again : (meetings : List Meeting) → with_rooms meetings (map (λ (x : Meeting). x.room) meetings) ≡ meetings
rooms-again [] = refl
rooms-again (m ∷ meetings) = ap (λ rest. m ∷ rest) (rooms-again meetings)

pub given_again : (t : Times) → with_rooms t.meetings (given_rooms t) ≡ t.meetings
given_again t = rooms-again t.meetings
