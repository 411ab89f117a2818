use Rattle.std.proofs.Common.{◌≡◌, ◌∙◌, ap, sym, false, true, not, ◌&&◌, length, inl, inr, arith}
use Rattle.std.proofs.lemmas.Bool.{and_parts, not-true, cases_Bool}
use Rattle.std.specs.List.{list_any}
use Rattle.numbers.specs.Sums.{member}
use Rattle.packing_model.specs.Built.{packing}
use Rattle.search_nodes.specs.Marks.{mark_at}
use Rattle.search_nodes.proofs.FixingLaws.{walk_fixing}
use Rattle.search_nodes.proofs.MarkLaws.{fixed_not_free, free_of, meets_clash, clear_of_all}
use Rattle.search_nodes.proofs.walk.Walk.is_free.Goals as goal

pub is_free-requires-clause-fixing : goal.is_free-requires-clause-fixing
is_free-requires-clause-fixing c = walk_fixing (packing c.args.model.now) c.args.self.now c.requires.walk

pub returns-then-not-is_unmarked : goal.returns-then-not-is_unmarked
returns-then-not-is_unmarked c =
    let marks = c.args.self.now.marks in
    let p = c.args.pattern in
    sym (fixed_not_free (packing c.args.model.now) c.args.self.now.fixing marks p c.requires.walk.marks (sym c.is_unmarked.ensures ∙ c.if-not-is_unmarked.true))

pub returns : goal.returns
returns c =
    let f = c.args.model.now in
    let k = packing f in
    let fixing = c.args.self.now.fixing in
    let marks = c.args.self.now.marks in
    let p = c.args.pattern in
    let runs = c.base_runs.result.now in
    let are = c.requires.walk.marks in
    let all = (walk_fixing k c.args.self.now c.requires.walk).one in
    let whole : marks.count ≡ length fixing.one = omega arith in
    let unmarked : (not (mark_at marks.left_out.items p) && not (mark_at marks.taken.items p)) ≡ true = sym c.is_unmarked.ensures ∙ c.if-not-is_unmarked.false in
    let parts = and_parts (not (mark_at marks.left_out.items p)) (not (mark_at marks.taken.items p)) unmarked in
    let taken = not-true (mark_at marks.taken.items p) parts.1 in
    let out : member p fixing.one ≡ false = sym (are.taken p) ∙ taken in
    let same : c.meets.result ≡ list_any (k.clash p) fixing.one = elim (cases_Bool c.meets.result) [
      | inl met ↦ met ∙ sym (meets_clash f fixing marks runs p c.requires.known all out c.base_runs.ensures are (c.meets.ensures.some met))
      | inr clear ↦ clear ∙ sym (clear_of_all f c.laws.ensures.problem fixing marks runs p c.requires.known all out whole c.base_runs.ensures are (c.meets.ensures.none clear))
    ] in
    ap not same ∙ sym (free_of k fixing marks p are (not-true (mark_at marks.left_out.items p) parts.0) taken)
