use Rattle.std.proofs.Common.{subst}
use Rattle.std.proofs.lemmas.Result.{IfOk-weaker}
use Rattle.cert_text.specs.Text.{IsText}
use Rattle.cert_text.specs.Sharing.{share, plain}
use Rattle.rooms_cmd.proofs.recert.shared_text.Goals as goal

pub returns-in-Ok : goal.returns-in-Ok
returns-in-Ok c =
    IfOk-weaker c.unshared_first.result _ _ (λ v h. λ d text. subst (λ x. IsText v.items (share (plain x))) (c.text_laws.ensures.one c.args.bytes.now c.in-Ok.certificate d c.in-Ok.ensures.ok text) h) c.unshared_first.ensures
