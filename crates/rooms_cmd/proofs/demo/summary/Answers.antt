use Rattle.std.proofs.Common.{◌≡◌, ◌++◌, subst}
use Rattle.std.specs.Prelude.{IfOk}
use Rattle.reports.specs.Lines.{value_lines}
use Rattle.rooms_cmd.specs.Answers.{verified_line}
use Rattle.rooms_cmd.specs.Demonstrating.{counts_text}
use Rattle.rooms_cmd.proofs.demo.summary.Goals as goal

pub returns : goal.returns
returns c =
    let l = c.args.loaded.now in
    subst (λ n. IfOk c.with_levels.result (λ v. v.items ≡ counts_text c.args.courses l.instance l.times l.model ++ verified_line n ++ c.args.first.now ++ value_lines c.args.certificate.now.values)) c.in_ok-levels.ensures c.with_levels.ensures
