use Rattle.std.proofs.Common.{◌≡◌, ◌+◌, ◌*◌, length, get_or, arith, refl, sym, ◌∙◌, ap, ap₂}
use Rattle.std.specs.List.{list_any, count_by}
use Rattle.std.proofs.lemmas.List.Sums.{sum_by_more}
use Rattle.timed_solution.specs.declared.times.Meeting.{Meeting}
use Rattle.itc_score.specs.Score.{are_in_conflict}
use Rattle.ctt_reader.proofs.FieldsBackLemmas.{passes-at}
use Rattle.itc_score.specs.Places.{fits, place_of, is_at, known_related}
use Rattle.itc_score.specs.Packed.{bits_in_both}
use Rattle.itc_score.proofs.LineLemmas.{fit-is, conflicts-at, place-small}
use Rattle.itc_score.proofs.PackedLemmas.{rows-in-both}
use Rattle.itc_score.proofs.conflicts.clashing.Goals as goal

abbrev line : (c : goal.After-count_both-twice) → Meeting
line c = get_or c.args.lines.now c.loop-line.line-index (record { course = 0; room = 0; day = 0; period = 0 })

pub loop-line-preserved : goal.loop-line-preserved
loop-line-preserved c =
    let i = c.args.i.now in
    let lines = c.args.lines.now in
    let n = length i.courses in
    let m = line c in
    let l = c.loop-line-test.true in
    let f = fit-is n (length i.rooms) m (passes-at (fits n (length i.rooms)) lines c.loop-line.line-index _ c.requires.lines l) in
    let count : c.count_both-twice.result ≡ bits_in_both c.args.related.now (m.course * 20) c.args.busy.now (c.place.result * 20) 20 = c.count_both-twice.ensures.value in
    let here : c.count_both-twice.result ≡ count_by (are_in_conflict i m) lines =
    count ∙ ap (λ p. bits_in_both c.args.related.now (m.course * 20) c.args.busy.now (p * 20) 20) c.place.ensures
    ∙ rows-in-both c.args.related.now c.args.busy.now n 700 (known_related i) (λ p d. list_any (is_at d p) lines) m.course (place_of m) 20 50 c.requires.related c.requires.busy f.course (place-small m.day m.period f.day f.period) refl refl
    ∙ conflicts-at i (length i.rooms) lines m c.requires.instance.few_courses c.requires.lines c.requires.apart f 1000 refl in
    record {
      value = ap₂ (λ a b. a + b) c.loop-line.invariant.value here ∙ sym (sum_by_more (λ x. count_by (are_in_conflict i x) lines) lines c.loop-line.line-index (record { course = 0; room = 0; day = 0; period = 0 }) l);
      small = omega (arith, c.loop-line.invariant.small, c.count_both-twice.ensures.few);
    }
