use Rattle.std.proofs.Common.{ℕ, Bool, List, length, arith, sym, ◌∙◌, ap, subst}
use Rattle.std.specs.List.{list_any}
use Rattle.problem_core.specs.Tables.{IsGrid}
use Rattle.problem_core.specs.Facts.{is_pair}
use Rattle.problem_core.specs.Grids.{IsGrid-same}
use Rattle.itc_score.specs.Sums.{count_pairs}
use Rattle.itc_score.specs.Score.{are_in_conflict}
use Rattle.itc_score.specs.Packed.{IsPacked}
use Rattle.itc_score.specs.Places.{is_at, place_course, known_related}
use Rattle.ctt_reader.proofs.NameLemmas.{list_any-map}
use Rattle.itc_score.proofs.LineLemmas.{fits-more, places-known, conflicts-twice, halved}
use Rattle.itc_score.proofs.conflicts.conflicts.Goals as goal

pub place_courses-requires : goal.place_courses-requires
place_courses-requires c = fits-more (length c.args.i.now.courses) (length c.args.i.now.rooms) 1000 200 c.args.lines.now c.requires.instance.few_courses c.requires.instance.few_rooms c.requires.lines

pub marked-requires-clause-known : goal.marked-requires-clause-known
marked-requires-clause-known c =
    rw (c.as_slice.ensures.value, c.in_ok-pairs.ensures) (places-known 1000 (length c.args.i.now.rooms) c.args.lines.now (fits-more (length c.args.i.now.courses) (length c.args.i.now.rooms) 1000 (length c.args.i.now.rooms) c.args.lines.now c.requires.instance.few_courses (omega arith) c.requires.lines))

pub clashing-requires-clause-related : goal.clashing-requires-clause-related
clashing-requires-clause-related c =
    let i = c.args.i.now in
    let table = subst (λ (cells : List Bool). IsGrid cells (length i.courses) 1000 (known_related i)) (sym c.deref.ensures.value) c.in_ok-related.ensures in
    subst (λ n. IsPacked c.deref-3.result.now n (known_related i)) c.len-courses.ensures
    (subst (λ (words : List ℕ). IsPacked words c.len-courses.result (known_related i)) (sym c.deref-3.ensures.value)
    (c.in_ok-related_words.ensures (known_related i) (subst (λ n. IsGrid c.deref.result.now n 1000 (known_related i)) (sym c.len-courses.ensures) table)))

pub clashing-requires-clause-busy : goal.clashing-requires-clause-busy
clashing-requires-clause-busy c =
    let listed = c.as_slice.ensures.value ∙ c.in_ok-pairs.ensures in
    let table = IsGrid-same c.in_ok-busy.busy.items 700 1000 (λ p d. list_any (is_pair p d) c.as_slice.result.now) (λ p d. list_any (is_at d p) c.args.lines.now) c.in_ok-busy.ensures
    (λ p d _ _. ap (list_any (is_pair p d)) listed ∙ list_any-map (is_pair p d) place_course c.args.lines.now) in
    subst (λ (words : List ℕ). IsPacked words 700 (λ p d. list_any (is_at d p) c.args.lines.now)) (sym c.deref-4.ensures.value)
    (c.in_ok-busy_words.ensures (λ p d. list_any (is_at d p) c.args.lines.now) (subst (λ (cells : List Bool). IsGrid cells 700 1000 (λ p d. list_any (is_at d p) c.args.lines.now)) (sym c.deref-2.ensures.value) table))

pub returns : goal.returns
returns c = halved c.clashing.result (count_pairs (are_in_conflict c.args.i.now) c.args.lines.now) (c.clashing.ensures ∙ conflicts-twice c.args.i.now c.args.lines.now)
