use Rattle.std.proofs.Common.{◌∙◌, ap}
use Rattle.measure_file.specs.Grammar.{measures_of}
use Rattle.measure_file.proofs.RoundTrip.{read_back}
use Rattle.measure_file.proofs.writer.write_measures.Goals as goal

pub returns-clause-read_back : goal.returns-clause-read_back
returns-clause-read_back c =
    ap (measures_of c.args.i.now) c.in_ok-text.ensures ∙ read_back c.args.i.now c.args.m.now c.requires.instance c.requires.measures c.requires.numbered
