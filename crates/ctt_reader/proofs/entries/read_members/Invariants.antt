use Rattle.std.proofs.Common.{◌≡◌, length}
use Rattle.ctt_reader.specs.Entries.{members_of}
use Rattle.ctt_reader.proofs.SectionLemmas.{after}
use Rattle.ctt_reader.proofs.entries.read_members.Given as goal

abbrev pub invariant-loop-field : goal.invariant-loop-field
invariant-loop-field l = after l.members (members_of l.courses l.fields) ≡ members_of l.courses l.fn.fields

abbrev pub decreases-loop-field : goal.decreases-loop-field
decreases-loop-field l = length l.fields
