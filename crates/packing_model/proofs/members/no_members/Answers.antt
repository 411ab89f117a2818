use Rattle.std.proofs.Common.{◌∙◌, [], arith, ap, length}
use Rattle.std.specs.Prelude.{replicate, slice_index_or}
use Rattle.std.proofs.lemmas.List.{length_push}
use Rattle.packing_model.specs.RowMembers.{bit_in}
use Rattle.packing_model.proofs.BitLemmas.{no_bit_of_none, rows_pushed, zero_words}
use Rattle.packing_model.proofs.members.no_members.Goals as goal

pub rows-init : goal.rows-init
rows-init c = record {
  few = omega (arith, ap length c.new-rows.ensures.items);
  none = λ r j. ap (λ rows. bit_in (slice_index_or rows r []) j) c.new-rows.ensures.items ∙ no_bit_of_none j;
}

pub rows-preserved : goal.rows-preserved
rows-preserved c = record {
  few = omega (arith, ap length c.in_ok-push.ensures.items, length_push c.rows.rows.items (replicate 16 0), c.rows-test.true, c.len.ensures);
  none = λ r j. ap (λ rows. bit_in (slice_index_or rows r []) j) c.in_ok-push.ensures.items ∙ rows_pushed c.rows.rows.items (replicate 16 0) (zero_words 16) c.rows.invariant.none r j;
}
