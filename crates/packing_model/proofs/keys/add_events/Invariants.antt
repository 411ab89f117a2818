use Rattle.std.proofs.Common.{◌≡◌, ◌<◌, ◌++◌, length, drop}
use Rattle.std.specs.List.{flat_map, AllByRecursion}
use Rattle.packing_model.specs.Keys.{own_keys}
use Rattle.packing_model.proofs.keys.add_events.Given as goal

abbrev pub invariant-loop-event : goal.invariant-loop-event
invariant-loop-event l = record {
  rest : l.keys.items ++ flat_map (own_keys l.p l.x) (drop l.event-index l.events) ≡ l.fn.keys.items ++ flat_map (own_keys l.p l.x) l.events;
  known : AllByRecursion (λ e. e < length l.p.events) (drop l.event-index l.events);
}
