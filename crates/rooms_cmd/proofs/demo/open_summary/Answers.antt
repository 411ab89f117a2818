use Rattle.std.proofs.Common.{◌≡◌, ◌++◌, ◌∙◌, length, sym, subst}
use Rattle.std.specs.Prelude.{IfOk}
use Rattle.reports.specs.Lines.{value_lines}
use Rattle.rooms_cmd.specs.Answers.{open_line, verified_line}
use Rattle.rooms_cmd.specs.Demonstrating.{counts_text}
use Rattle.rooms_cmd.proofs.demo.open_summary.Goals as goal

pub returns : goal.returns
returns c =
    let l = c.args.loaded.now in
    let first : c.as_slice.result.now ≡ open_line c.args.level = c.as_slice.ensures.value ∙ c.in_ok-first.ensures in
    subst (λ x. IfOk c.summary.result (λ v. v.items ≡ counts_text c.args.courses l.instance l.times l.model ++ verified_line (length c.args.certificate.now.levels) ++ x ++ value_lines c.args.certificate.now.values)) first c.summary.ensures
