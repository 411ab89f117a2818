use Rattle.std.proofs.Common.{◌≡◌, ◌⊎◌, ◌<◌, [], arith, refl, subst, ◌∙◌, length}
use Rattle.std.specs.Prelude.{slice_index_or}
use Rattle.std.proofs.lemmas.List.{length-set, get_or_read_under}
use Rattle.packing_model.specs.NodeMarks.{in_run}
use Rattle.packing_model.specs.RowMembers.{bit_in}
use Rattle.packing_model.proofs.BitLemmas.{row_set}
use Rattle.packing_model.proofs.MarkLemmas.{in_run_at}
use Rattle.packing_model.proofs.members.add_to_run.Goals as goal

pub loop-row-preserved : goal.loop-row-preserved
loop-row-preserved c =
    let rows = c.loop-row.rows.items in
    let row = c.loop-row.row in
    let there : row < length rows = omega (arith, c.loop-row.invariant.whole, c.requires.known, c.loop-row-test.true) in
    let read : c.index_mut.result.now ≡ slice_index_or rows row [] = get_or_read_under rows row (length rows) c.index_mut.result.now [] c.index_mut.ensures.value there refl in
    record {
      whole = length-set rows row c.set_bit.new.bits ∙ c.loop-row.invariant.whole;
      each = row_set c.args.rows.now.items rows c.set_bit.new.bits row c.args.j (in_run c.args.run) there (in_run_at c.args.run row (omega arith) (omega arith))
          (λ i h. subst (λ w. (bit_in w i ≡ 1) ⊎ (i ≡ c.args.j)) read (c.set_bit.ensures i h)) c.loop-row.invariant.each;
    }
