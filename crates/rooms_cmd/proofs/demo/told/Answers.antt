use Rattle.rooms_cmd.proofs.DemoLaws.{open_told}
use Rattle.rooms_cmd.proofs.demo.told.Goals as goal

pub returns-in_ok-open_summary-in-Open : goal.returns-in_ok-open_summary-in-Open
returns-in_ok-open_summary-in-Open c =
    let l = c.args.loaded.now in
    open_told c.args.courses l.instance l.times l.model c.args.solved.now c.in-Open.level c.in-Open.certificate c.in-Open.log c.in_ok-open_summary-in-Open.field-0.items c.in-Open.is c.requires c.in_ok-open_summary-in-Open.ensures
