use Rattle.std.proofs.Common.{ℕ, ◌≡◌, ◌++◌, ◌∙◌, ap, List, [], length}
use Rattle.std.specs.Prelude.{slice_index_or}
use Rattle.reports.specs.Lines.{value_lines}
use Rattle.reports.specs.Rooms.{each_below}
use Rattle.reports.specs.Report.{room_text, course_text, unroomed_text}
use Rattle.reports.specs.declared.session.Session.{Session}
use Rattle.reports.proofs.report.print.Goals as goal

pub returns : goal.returns
returns c =
    let i = c.args.instance.now in
    let u = c.args.found.now in
    let rooms : List (List Session) → List ℕ = λ gs. each_below (λ r. room_text i r (slice_index_or gs r [])) (length i.rooms) in
    let courses : List (List (ℕ × ℕ)) → List ℕ = λ gs. each_below (λ k. course_text i k (slice_index_or gs k [])) (length i.courses) in
    let b1 = c.push_rooms.new.text.items in
    let b2 = c.push_courses.new.text.items in
    let b3 = c.push_unroomed.new.text.items in
    let b4 = c.extend_from_slice.new.self.items in
    let l1 : List ℕ = rooms u.by_room.items in
    let l2 : List ℕ = courses u.by_course.items in
    let l3 : List ℕ = unroomed_text i u.unroomed in
    let l4 : List ℕ = value_lines c.args.values.now in
    let d1 : b1 ≡ l1 =
    c.in_ok-push_rooms.ensures ∙ ap (λ (gs : List (List Session)). c.new-text.result.items ++ rooms gs) c.deref.ensures.value ∙ ap (λ (b : List ℕ). b ++ rooms u.by_room.items) c.new-text.ensures.items in
    let e2 : b2 ≡ b1 ++ l2 = c.in_ok-push_courses.ensures ∙ ap (λ (gs : List (List (ℕ × ℕ))). c.push_rooms.new.text.items ++ courses gs) c.deref-2.ensures.value in
    let e3 : b3 ≡ b2 ++ l3 = c.in_ok-push_unroomed.ensures ∙ ap (λ (xs : List Session). c.push_courses.new.text.items ++ unroomed_text i xs) c.as_slice.ensures in
    let e4 : b4 ≡ b3 ++ l4 = c.in_ok-extend_from_slice.ensures.items ∙ ap (λ (xs : List ℕ). c.push_unroomed.new.text.items ++ xs) (c.deref-3.ensures.value ∙ c.in_ok-lines.ensures) in
    let d2 : b2 ≡ l1 ++ l2 = e2 ∙ ap (λ (b : List ℕ). b ++ l2) d1 in
    let d3 : b3 ≡ l1 ++ l2 ++ l3 = e3 ∙ ap (λ (b : List ℕ). b ++ l3) d2 in
    e4 ∙ ap (λ (b : List ℕ). b ++ l4) d3
