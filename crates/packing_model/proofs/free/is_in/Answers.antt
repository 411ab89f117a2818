use Rattle.std.proofs.Common.{◌∙◌, ◌-◌, ap, sym}
use Rattle.std.specs.Prelude.{nat_lt, ◌&&◌}
use Rattle.std.proofs.lemmas.Bool.{le-leb, lt-leb}
use Rattle.packing_model.proofs.RunLemmas.{member_from}
use Rattle.packing_model.proofs.free.is_in.Goals as goal

pub returns-then-run-row : goal.returns-then-run-row
returns-then-run-row c =
    let run = c.args.run in
    sym (member_from c.args.row run.first run.count ∙ ap (λ b. b && nat_lt (c.args.row - run.first) run.count) (le-leb run.first c.args.row c.if-run-row.true))

pub returns-else-run-row : goal.returns-else-run-row
returns-else-run-row c =
    let run = c.args.run in
    lt-leb run.first c.args.row c.if-run-row.false
    ∙ sym (member_from c.args.row run.first run.count ∙ ap (λ b. b && nat_lt (c.args.row - run.first) run.count) (lt-leb run.first c.args.row c.if-run-row.false))
