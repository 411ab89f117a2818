-- From the answers of the steps to the answer of `measure`.
use Rattle.std.proofs.Common.{ℕ, List, [], ◌∷◌, arith}
use Rattle.std.specs.Prelude.{ℤ, pos}
use Rattle.std.specs.List.{AllByRecursion}
use Rattle.std.proofs.lemmas.Int.{ints}
use Rattle.problem_core.specs.Kept.{IsWithin}
use Rattle.ctt_reader.specs.declared.instance.Instance.{Instance}
use Rattle.timed_solution.specs.declared.times.Times.{Times}
use Rattle.measure_file.specs.declared.measures.Measures.{Measures}
use Rattle.run_core.specs.Outside.{Shelved}
use Rattle.run_core.specs.declared.status.ToolStatus.{ToolStatus}
use Rattle.run_core.specs.declared.status.ToolStatus.TheVariants.{Done, No, Usage, Open, BadInput, ReadFault, WriteFault, Memory}
use Rattle.tool_core.specs.Inputs.{AreGiven, HasProblem}
use Rattle.tool_core.specs.declared.inputs.Names.{Names}
use Rattle.rooms_cmd.specs.Measuring.{MeasureExplains}
use Rattle.rooms_cmd.specs.Steps.{RoomsExplain}

-- the given rooms answer
pub rooms_answer : (s : Shelved) (f : Names) (i : Instance) (t : Times) (m : Measures) (text : List ℕ) (status : ToolStatus) → AreGiven s.told f i t m → HasProblem i t m → RoomsExplain i t m text status → MeasureExplains s f text status
rooms_answer s f i t m text Done given p h = record { i = i; t = t; m = m; given = given; problem = p; legal = h.legal; is = h.is }
rooms_answer s f i t m text No given p h = record { i = i; t = t; m = m; given = given; problem = p; illegal = h.illegal; fault = h.fault; first = h.first; is = h.is }
rooms_answer s f i t m text Usage given p h = absurd h
rooms_answer s f i t m text Open given p h = absurd h
rooms_answer s f i t m text BadInput given p h = absurd h
rooms_answer s f i t m text ReadFault given p h = absurd h
rooms_answer s f i t m text WriteFault given p h = absurd h
rooms_answer s f i t m text Memory given p h = absurd h

-- the measures of a choice are small
pub small_values : (values : List ℤ) → AllByRecursion (IsWithin (pos 192000000000)) values → AllByRecursion (IsWithin (pos 1000000000000)) values
small_values [] h = tt
small_values (v ∷ values) h = (record { low = omega (arith, ints, h.0.low); high = omega (arith, ints, h.0.high) }, small_values values h.1)
