use Rattle.std.proofs.Common.{ℕ, List, ◌≤◌, sym, subst, length, ◌+◌}
use Rattle.std.specs.Prelude.{slice_index}
use Rattle.packing_model.specs.Keys.{AreRuns}
use Rattle.packing_model.proofs.ModelLemmas.{model_is}
use Rattle.packing_model.proofs.PlaceLemmas.{numbers_few}
use Rattle.packing_model.proofs.model.tables_of.Goals as goal

pub returns : goal.returns
returns c =
    let p = c.args.p.now in
    let s = c.args.s.now in
    model_is p c.requires.problem s c.in_ok-table.table.rows c.in_ok-table.table.numbers.items c.in_ok-weights.weights.items c.in_ok-placed.placed.runs.items c.in_ok-placed.placed.starts.items c.requires.are (record {
      few = c.requires.few;
      listed = c.requires.listed;
      rows_are = c.in_ok-table.ensures.0;
      numbered = c.in_ok-table.ensures.1;
      short = c.in_ok-table.ensures.2;
      weights_are = c.in_ok-weights.ensures;
      placed = subst (λ numbers. AreRuns p numbers s (length s) (length s + 1) c.in_ok-placed.placed.runs.items c.in_ok-placed.placed.starts.items) c.deref.ensures.value c.in_ok-placed.ensures;
    })

pub run_table-requires-clause-few : goal.run_table-requires-clause-few
run_table-requires-clause-few c =
    subst (λ (numbers : List ℕ). (k : ℕ) → slice_index numbers k ≤ 4000) (sym c.deref.ensures.value)
    (numbers_few c.args.p.now c.requires.problem c.args.s.now c.in_ok-table.table.numbers.items c.requires.listed c.in_ok-table.ensures.1 c.in_ok-table.ensures.2)
