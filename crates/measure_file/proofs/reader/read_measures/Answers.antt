use Rattle.std.proofs.Common.{sym, ◌∙◌, ap}
use Rattle.std.specs.Prelude.{Ok}
use Rattle.input_core.specs.Rows.{unread}
use Rattle.measure_file.specs.Grammar.{file_of}
use Rattle.measure_file.proofs.MeasureLemmas.{measures_of-ok}
use Rattle.measure_file.proofs.reader.read_measures.Goals as goal

pub returns-clause-promised : goal.returns-clause-promised
returns-clause-promised c =
    measures_of-ok c.args.i.now c.args.bytes.now c.into_measures.result
    (ap (λ k. file_of k (unread c.args.bytes.now).rows) (sym c.in_ok-known.ensures.known) ∙ c.in_ok-listed.ensures ∙ ap Ok (sym c.into_measures.ensures))
