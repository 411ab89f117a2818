use Rattle.std.proofs.Common.{subst, sym}
use Rattle.std.proofs.lemmas.Result.{IfOk-weaker}
use Rattle.cert_checker.specs.Verdicts.{Means}
use Rattle.cert_checker.proofs.VerdictLaws.{verdict_means}
use Rattle.cert_checker.proofs.judge.check.Goals as goal

pub returns-clause-means : goal.returns-clause-means
returns-clause-means c =
    let f = c.args.model.now in
    let bytes = c.args.bytes.now in
    let means = verdict_means f bytes (record {
      read = c.text_laws.ensures.read bytes;
      spelled = c.text_laws.ensures.spelled bytes;
      faulty = c.text_laws.ensures.faulty bytes;
      one = c.text_laws.ensures.one bytes;
    }) (record {
      faultless = c.certificate_laws.ensures.faultless f;
      best = λ n d few valid. c.certificate_laws.ensures.best f n d (record { known = c.laws.ensures.problem.known }) few valid;
    }) in
    IfOk-weaker c.judge.result _ _ (λ v e. subst (Means f bytes) (sym e) means) c.judge.ensures
