use Rattle.std.proofs.Common.{subst, sym}
use Rattle.std.proofs.lemmas.Result.{IfOk-weaker}
use Rattle.cert_checker.specs.Verdicts.{Means}
use Rattle.cert_checker.proofs.VerdictLaws.{verdict_means}
use Rattle.cert_checker.proofs.judge.check_file.Goals as goal

pub returns-clause-verdict : goal.returns-clause-verdict
returns-clause-verdict g c =
    let f = c.args.model.now in
    IfOk-weaker c.judge_file.result _ _
    (λ v on.
    let bytes = on.bytes in
    let means = verdict_means f bytes (record {
      read = c.text_laws.ensures.read bytes;
      spelled = c.text_laws.ensures.spelled bytes;
      faulty = c.text_laws.ensures.faulty bytes;
      one = c.text_laws.ensures.one bytes;
    }) (record {
      faultless = c.certificate_laws.ensures.faultless f;
      best = λ n d few valid. c.certificate_laws.ensures.best f n d (record { known = c.laws.ensures.problem.known }) few valid;
    }) in
    record { bytes = bytes; whole = on.whole; exact = on.exact; means = subst (Means f bytes) (sym on.exact) means })
    c.judge_file.ensures.verdict
