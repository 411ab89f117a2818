use Rattle.std.proofs.Common.{ℕ, List, [], ◌≡◌, false, subst, get_or}
use Rattle.std.specs.Prelude.{ℤ}
use Rattle.std.proofs.lemmas.List.Sorted.{All-permutation}
use Rattle.packing_model.specs.Built.{packing}
use Rattle.clique_cuts.specs.Separation.{KeepsPairs, KeepsTriples}
use Rattle.clique_cuts.specs.Search.{IsEntry, IsBroken, breaks_in}
use Rattle.clique_cuts.specs.declared.groups.Kind.TheVariants.{Room, Course}
use Rattle.clique_cuts.proofs.SearchLaws.{NoneBroken, entries_are, grouped_in, keeps_pairs, keeps_triples, on_none}
use Rattle.clique_cuts.proofs.broken.find_broken.Goals as goal

pub grouped-requires : goal.grouped-requires
grouped-requires c =
    let k = packing c.args.m.now in
    let x = c.args.point.now in
    All-permutation (IsEntry k x) x.entries c.args.entries.now c.requires.entries (entries_are k x c.requires.point)

pub grouped-requires-2 : goal.grouped-requires-2
grouped-requires-2 c =
    let k = packing c.args.m.now in
    let x = c.args.point.now in
    All-permutation (IsEntry k x) x.entries c.args.entries.now c.requires.entries (entries_are k x c.requires.point)

none : (c : goal.After-drop-rooms-2) → ((g : ℕ) → breaks_in (packing c.args.m.now) c.args.point.now.den (get_or c.deref-2.result.now g []) ≡ false) → NoneBroken c.args.m.now c.args.point.now c.in_ok-rooms.rooms.items c.in_ok-courses.courses.items
none c h =
    let p = c.args.m.now in
    let x = c.args.point.now in
    let entries = c.args.entries.now in
    record {
      point = c.requires.point;
      in_room = grouped_in p Room x entries c.in_ok-rooms.rooms.items c.requires.entries c.in_ok-rooms.ensures.grouped;
      in_course = grouped_in p Course x entries c.in_ok-courses.courses.items c.requires.entries c.in_ok-courses.ensures.grouped;
      no_room = λ g. subst (λ (gs : List (List (ℕ × ℤ))). breaks_in (packing p) x.den (get_or gs g []) ≡ false) c.deref.ensures.value (c.in_default.ensures g);
      no_course = λ g. subst (λ (gs : List (List (ℕ × ℤ))). breaks_in (packing p) x.den (get_or gs g []) ≡ false) c.deref-2.ensures.value (h g);
    }

pub returns-clause-pairs : goal.returns-clause-pairs
returns-clause-pairs c =
    let p = c.args.m.now in
    let x = c.args.point.now in
    on_none c.broken_among-2.result _ (KeepsPairs (packing p) x) (IsBroken (packing p) x) c.broken_among-2.ensures (λ h. keeps_pairs p x c.in_ok-rooms.rooms.items c.in_ok-courses.courses.items (none c h))

pub returns-clause-triples : goal.returns-clause-triples
returns-clause-triples c =
    let p = c.args.m.now in
    let x = c.args.point.now in
    on_none c.broken_among-2.result _ (KeepsTriples (packing p) x) (IsBroken (packing p) x) c.broken_among-2.ensures (λ h. keeps_triples p x c.in_ok-rooms.rooms.items c.in_ok-courses.courses.items (none c h))
