use Rattle.std.proofs.Common.{◌≡◌, ◌∙◌, [], ap, slice_index_or}
use Rattle.serde_json.specs.View.{view, members_view}
use Rattle.reports.specs.Json.{courses_data, rooms_data, sessions_data}
use Rattle.reports.proofs.JsonLaws.{four_members, same_report}
use Rattle.reports.proofs.json_line.report_value.Goals as goal

pub returns : goal.returns
returns c =
    let i = c.args.instance.now in
    c.from.ensures ∙ four_members (members_view c.new-members.result.entries) (members_view c.put.new.map.entries) (members_view c.put-2.new.map.entries) (members_view c.put-3.new.map.entries)
    (members_view c.put-4.new.map.entries) (view c.in_ok-courses.courses) (view c.in_ok-rooms.rooms) (view c.in_ok-unroomed.unroomed) (view c.in_ok-values.values)
    (ap members_view c.new-members.ensures.empty) c.in_ok-put.ensures.ok c.in_ok-put-2.ensures.ok c.in_ok-put-3.ensures.ok c.in_ok-put-4.ensures.ok
    ∙ same_report _ _ _ _ _ _ _ _
    (c.in_ok-courses.ensures ∙ ap (λ s. courses_data i (λ k. slice_index_or s k [])) c.as_slice.ensures.value)
    (c.in_ok-rooms.ensures ∙ ap (λ s. rooms_data i (λ k. slice_index_or s k [])) c.as_slice-2.ensures.value)
    (c.in_ok-unroomed.ensures ∙ ap (sessions_data i) c.as_slice-3.ensures) c.in_ok-values.ensures
