use Rattle.std.proofs.Common.{◌≡◌, ap, ◌∙◌}
use Rattle.std.specs.Prelude.{drop}
use Rattle.run_core.proofs.EndLaws.{run_ends, if_ok}
use Rattle.rooms_cmd.proofs.ExitLaws.{exit_of}
use Rattle.rooms_cmd.proofs.exit.exit_status.Goals as goal

pub returns-in-Ok-clause-runs : goal.returns-in-Ok-clause-runs
returns-in-Ok-clause-runs g c =
    let run = c.run.ensures in
    let words : c.without_name.result.now ≡ drop 1 c.in-Ok.all.items = c.without_name.ensures ∙ ap (drop 1) c.as_slice.ensures.value in
    if_ok c.args.arguments c.in-Ok.all _ c.in-Ok.is (exit_of _ _ _ _ _ _ words (record {
      status = c.run.result;
      is = c.number.ensures;
      ends = run_ends _ _ c.run.result run.done run.no run.usage run.open run.bad_input run.read_fault run.write_fault run.memory;
      kept = run.keeps;
      inputs = run.inputs;
      reads = run.no_read_failed;
      writes = run.no_write_failed;
      once = run.one_write;
    }))
