use Rattle.std.proofs.Common.{◌≡◌, ◌+◌, ◌*◌, ◌≤◌, cond, [], ◌∷◌, ◌++◌, get_or, take, arith, sym, ◌∙◌, ap, subst}
use Rattle.std.specs.Prelude.{◌==◌}
use Rattle.std.specs.List.{count_by}
use Rattle.std.proofs.lemmas.List.{take_more, length-take}
use Rattle.std.proofs.lemmas.List.Sums.{count_by-le-length}
use Rattle.timed_solution.specs.declared.times.Meeting.{Meeting}
use Rattle.problem_core.specs.Tables.{IsGrid}
use Rattle.ctt_reader.proofs.FieldsBackLemmas.{passes-at}
use Rattle.itc_score.specs.Places.{fits, place_of, is_in}
use Rattle.itc_score.specs.Sums.{count_pairs}
use Rattle.itc_score.specs.Score.{in_one_room}
use Rattle.itc_score.proofs.LineLemmas.{fit-is, place-small}
use Rattle.itc_score.proofs.TableLemmas.{all-take, at-most-one, occupancy-more, rooms-more}
use Rattle.itc_score.proofs.occupancy.room_pairs.Goals as goal

abbrev line : (c : goal.After-from-pairs) → Meeting
line c = get_or c.args.lines.now c.loop-k.k (record { course = 0; room = 0; day = 0; period = 0 })

pub loop-k-preserved : goal.loop-k-preserved
loop-k-preserved c =
    let lines = c.args.lines.now in
    let k = c.loop-k.k in
    let m = line c in
    let l = c.loop-k-test.true in
    let f = fit-is 1000 c.args.rooms m (passes-at (fits 1000 c.args.rooms) lines k _ c.requires.lines l) in
    let cell : get_or c.loop-k.counts (m.room * 700 + place_of m) 0 ≡ count_by (is_in m.room (place_of m)) (take k lines) = c.loop-k.invariant.grid.cell m.room (place_of m) 0 (omega (arith, f.room)) (place-small m.day m.period f.day f.period) in
    let here : c.from-pairs.result ≡ cond (m.room == 0) 0 (count_by (is_in m.room (place_of m)) (take k lines)) = c.from-pairs.ensures ∙ c.add_line.ensures.earlier ∙ ap (λ n. cond (m.room == 0) 0 n) cell in
    let more : take (k + 1) lines ≡ take k lines ++ m ∷ [] = take_more lines k _ l in
    let few : count_by (is_in m.room (place_of m)) (take k lines) ≤ 1000000 = omega (arith, count_by-le-length (is_in m.room (place_of m)) (take k lines), length-take k lines, l, c.requires.few) in
    let earlier = at-most-one (m.room == 0) c.from-pairs.result _ 1000000 here few in
    record {
      value = occupancy-more 1000 c.args.rooms (take k lines) m c.loop-k.pairs c.from-pairs.result (all-take (fits 1000 c.args.rooms) k lines c.requires.lines) f c.loop-k.invariant.value here ∙ sym (ap (λ xs. count_pairs in_one_room xs) more);
      small = omega (arith, c.loop-k.invariant.small, earlier);
      grid = subst (λ xs. IsGrid c.add_line.new.counts (c.args.rooms + 1) 700 (λ r p. count_by (is_in r p) xs)) (sym more)
          (subst (λ cells. IsGrid cells (c.args.rooms + 1) 700 (λ r p. count_by (is_in r p) (take k lines ++ m ∷ []))) (sym c.add_line.ensures.counted)
          (rooms-more c.loop-k.counts 1000 c.args.rooms (take k lines) m (get_or c.loop-k.counts (m.room * 700 + place_of m) 0) f cell c.loop-k.invariant.grid));
    }
