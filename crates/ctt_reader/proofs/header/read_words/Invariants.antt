use Rattle.std.proofs.Common.{◌≡◌, ◌++◌, length}
use Rattle.std.specs.List.{list_all}
use Rattle.ctt_reader.specs.Entries.{is_short}
use Rattle.ctt_reader.proofs.header.read_words.Given as goal

abbrev pub invariant-loop-field : goal.invariant-loop-field
invariant-loop-field l = record {
  split : l.words ++ l.fields ≡ l.fn.fields;
  short : list_all is_short l.fields ≡ list_all is_short l.fn.fields;
}

abbrev pub decreases-loop-field : goal.decreases-loop-field
decreases-loop-field l = length l.fields
