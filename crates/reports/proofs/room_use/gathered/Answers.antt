use Rattle.std.proofs.Common.{◌≡◌, ◌<◌, ◌∙◌, ap, sym, subst, arith, List, length}
use Rattle.std.specs.List.{remove}
use Rattle.std.proofs.lemmas.List.Edits.{length-remove}
use Rattle.reports.specs.Groups.{EachIsOf, counted}
use Rattle.reports.specs.declared.session.Session.{Session}
use Rattle.reports.proofs.RoomLaws.{groups-are_of, counted-rooms_of, unroomed-is, room_use-is}
use Rattle.reports.proofs.room_use.gathered.Goals as goal

pub by_course-requires-clause-known : goal.by_course-requires-clause-known
by_course-requires-clause-known c =
    let i = c.args.instance.now in
    let groups = c.in_ok-groups.groups.items in
    let some : 0 < length groups = omega (arith, c.in_ok-groups.ensures.whole) in
    subst (λ n. EachIsOf n c.deref.result.now) (sym c.len.ensures)
    (subst (λ (gs : List (List Session)). EachIsOf (length i.courses) gs) (sym (c.deref.ensures.value ∙ c.remove-unroomed.ensures.items))
    (groups-are_of i c.args.sessions.now groups some c.requires.fit c.in_ok-groups.ensures.grouped))

pub returns : goal.returns
returns c =
    let i = c.args.instance.now in
    let xs = c.args.sessions.now in
    let groups = c.in_ok-groups.groups.items in
    let are = c.in_ok-groups.ensures.grouped in
    let some : 0 < length groups = omega (arith, c.in_ok-groups.ensures.whole) in
    let rooms : length (remove groups 0) ≡ length i.rooms = omega (arith, length-remove groups 0 some, c.in_ok-groups.ensures.whole, c.len-count.ensures) in
    room_use-is i xs (record { by_room = c.in_ok-by_room.by_room; by_course = c.in_ok-by_course.by_course; unroomed = c.remove-unroomed.result }) c.requires.fit
    c.in_ok-by_room.ensures.whole (c.in_ok-by_course.ensures.whole ∙ c.len.ensures) c.in_ok-by_room.ensures.each
    (λ k l.
    c.in_ok-by_course.ensures.each k (subst (λ n. k < n) (sym c.len.ensures) l)
    ∙ ap (λ (gs : List (List Session)). counted gs k (length gs)) (c.deref.ensures.value ∙ c.remove-unroomed.ensures.items)
    ∙ counted-rooms_of i xs groups k (length (remove groups 0)) some rooms are)
    (unroomed-is xs groups c.remove-unroomed.result some are c.remove-unroomed.ensures.value)
