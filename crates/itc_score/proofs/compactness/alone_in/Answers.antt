use Rattle.std.proofs.Common.{ℕ, ◌≡◌, ◌≤◌, Bool, false, List, length, get_or, arith, ◌∙◌, ap}
use Rattle.std.specs.Prelude.{◌==◌}
use Rattle.std.specs.List.{list_any}
use Rattle.itc_score.specs.Places.{held_at}
use Rattle.itc_score.proofs.TableLemmas.{held-small, held-same, alone-same}
use Rattle.itc_score.proofs.compactness.alone_in.Goals as goal

pub count_alone-requires-clause-small : goal.count_alone-requires-clause-small
count_alone-requires-clause-small c = λ p l.
    let many : length c.deref.result.now ≤ 1000 = omega (arith, ap (λ (xs : List Bool). length xs) c.deref.ensures.value, c.in_ok-are_members.ensures.whole, c.requires.few) in
    rw (c.deref-2.ensures.value, c.add_members.ensures.counts p l) (held-small (λ k. get_or c.deref.result.now k false) c.args.held.now (length c.deref.result.now) p many)

pub returns-clause-value : goal.returns-clause-value
returns-clause-value c =
    let whole : length c.deref.result.now ≡ c.args.courses = ap (λ (xs : List Bool). length xs) c.deref.ensures.value ∙ c.in_ok-are_members.ensures.whole in
    c.count_alone.ensures.value ∙ alone-same (λ p. get_or c.deref-2.result.now p 0) (held_at (λ k. list_any (λ m. m == k) c.args.members.now) c.args.held.now c.args.courses)
    (λ p l. ap (λ (xs : List ℕ). get_or xs p 0) c.deref-2.ensures.value ∙ c.add_members.ensures.counts p l
    ∙ held-same (λ k. get_or c.deref.result.now k false) (λ k. list_any (λ m. m == k) c.args.members.now) c.args.held.now (length c.deref.result.now) c.args.courses p whole
    (λ k s. ap (λ (xs : List Bool). get_or xs k false) c.deref.ensures.value ∙ c.in_ok-are_members.ensures.flags k s))
