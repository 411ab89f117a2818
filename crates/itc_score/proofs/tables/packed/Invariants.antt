use Rattle.std.proofs.Common.{◌≡◌, ◌<◌, ◌*◌, ℕ, length, get_or}
use Rattle.itc_score.specs.Packed.{word_at}
use Rattle.itc_score.proofs.tables.packed.Given as goal

abbrev pub invariant-loop-w : goal.invariant-loop-w
invariant-loop-w l = record {
  whole : length l.words.items ≡ l.w;
  words : (w d : ℕ) → w < l.w → get_or l.words.items w d ≡ word_at l.cells (w * 50);
}
