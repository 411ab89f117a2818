use Rattle.std.proofs.Common.{ap, ◌∙◌, sym, subst}
use Rattle.std.specs.Prelude.{Ok}
use Rattle.std.proofs.lemmas.Result.{IfOk-weaker}
use Rattle.ctt_reader.specs.declared.instance.Instance.{Instance}
use Rattle.ctt_reader.specs.Promised.{IsInstance}
use Rattle.timed_solution.specs.declared.times.Times.{Times}
use Rattle.timed_solution.specs.Times.{AreTimes}
use Rattle.measure_file.specs.declared.measures.Measures.{Measures}
use Rattle.measure_file.specs.Grammar.{measures_of as measures_in}
use Rattle.measure_file.specs.Promised.{AreMeasures}
use Rattle.demo_files.specs.Generator.{instance_of}
use Rattle.demo_files.proofs.texts.demo_texts.Goals as goal

pub texts_of-requires-clause-instance : goal.texts_of-requires-clause-instance
texts_of-requires-clause-instance c = subst (λ (i : Instance). IsInstance i) (sym c.in_ok-files.ensures.instance) (c.demo_laws.ensures.instance c.args.n c.requires.few)

pub texts_of-requires-clause-times : goal.texts_of-requires-clause-times
texts_of-requires-clause-times c =
    subst (λ (i : Instance). AreTimes i c.in_ok-files.files.1.meetings) (sym c.in_ok-files.ensures.instance)
    (subst (λ (t : Times). AreTimes (instance_of c.args.n) t.meetings) (sym c.in_ok-files.ensures.times) (c.demo_laws.ensures.times c.args.n))

pub texts_of-requires-clause-measures : goal.texts_of-requires-clause-measures
texts_of-requires-clause-measures c =
    subst (λ (i : Instance). AreMeasures i c.in_ok-files.files.2) (sym c.in_ok-files.ensures.instance)
    (subst (λ (m : Measures). AreMeasures (instance_of c.args.n) m) (sym c.in_ok-files.ensures.measures) (c.demo_laws.ensures.measures c.args.n))

pub returns-clause-measures : goal.returns-clause-measures
returns-clause-measures c = IfOk-weaker c.texts_of.result _ _ (λ t h.
    ap (λ (i : Instance). measures_in i t.measures.items) (sym c.in_ok-files.ensures.instance) ∙ h ∙ ap Ok c.in_ok-files.ensures.measures) c.texts_of.ensures.measures
