use Rattle.std.proofs.Common.{◌≡◌, ◌+◌, ◌-◌, ◌*◌, false, get_or, arith, sym, ◌∙◌, ap, ap₂}
use Rattle.std.proofs.lemmas.List.{get_or_default}
use Rattle.ctt_reader.specs.declared.instance.Course.{Course}
use Rattle.ctt_reader.specs.Naming.{no_course}
use Rattle.itc_score.specs.Sums.{count_below}
use Rattle.itc_score.proofs.SumLemmas.{sum_below-more}
use Rattle.itc_score.proofs.LineLemmas.{course-small}
use Rattle.itc_score.proofs.sums.missing_days.Goals as goal

pub loop-k-preserved : goal.loop-k-preserved
loop-k-preserved c =
    let courses = c.args.courses.now in
    let k = c.loop-k.k in
    let l = c.loop-k-test.true in
    let here : get_or courses k c.index-courses-k.result ≡ get_or courses k no_course = get_or_default courses k c.index-courses-k.result no_course l in
    let days : c.from.result ≡ (get_or courses k no_course).min_days = c.from.ensures ∙ ap (λ (x : Course). x.min_days) here in
    let less : c.saturating_sub-total.result ≡ (get_or courses k no_course).min_days - count_below (λ d. get_or c.args.taught.now (k * 14 + d) false) c.args.days = c.saturating_sub-total.ensures ∙ ap₂ (λ a b. a - b) days c.count_true-held.ensures.value in
    let small = (course-small courses k l c.requires.courses).min_days in
    record {
      value = ap (λ n. n + c.saturating_sub-total.result) c.loop-k.invariant.value
          ∙ sym (sum_below-more (λ j. (get_or courses j no_course).min_days - count_below (λ d. get_or c.args.taught.now (j * 14 + d) false) c.args.days) k c.saturating_sub-total.result less);
      small = omega (arith, c.loop-k.invariant.small, less, small);
    }
