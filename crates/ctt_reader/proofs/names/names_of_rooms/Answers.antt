use Rattle.std.proofs.Common.{◌≡◌, sym, ◌∙◌, ap}
use Rattle.ctt_reader.specs.Entries.{room_names}
use Rattle.ctt_reader.specs.Names.{with_name}
use Rattle.ctt_reader.specs.Promised.{are_different}
use Rattle.ctt_reader.specs.declared.instance.Room.{Room}
use Rattle.ctt_reader.proofs.DifferentLemmas.{names-more}
use Rattle.ctt_reader.proofs.names.names_of_rooms.Goals as goal

pub loop-room-preserved : goal.loop-room-preserved
loop-room-preserved c =
    let items = c.as_slice-room-items.result.now in
    let same : items ≡ c.args.i.now.rooms = c.as_slice-room-items.ensures in
    names-more (λ (x : Room). x.name) items c.loop-room.room-index c.room-item.result c.loop-room.names c.add.new.self c.loop-room-test.true c.room-item.is (ap (λ xs. are_different (room_names xs)) same ∙ c.requires)
    (c.loop-room.invariant ∙ ap room_names (sym same)) (c.in_ok-add.ensures.names ∙ ap (with_name c.loop-room.names) c.as_bytes.ensures) ∙ ap room_names same
