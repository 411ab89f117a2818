use Rattle.std.proofs.Common.{◌≡◌, ◌∙◌, ◌≤◌, arith, ap, sym, subst, true, length, []}
use Rattle.std.proofs.lemmas.Result.{IfOk-weaker}
use Rattle.cert_text.specs.Grammar.{is_writable}
use Rattle.cert_text.specs.Sharing.{shared_trees, shared_last, lines_behind, last_lines, kept_lines}
use Rattle.cert_text.proofs.ShareLaws.{share_writable, with_trees_are}
use Rattle.cert_text.proofs.forms.share.Goals as goal

pub returns-clause-writable : goal.returns-clause-writable
returns-clause-writable c =
    let whole = c.args.c.now in
    let levels = c.in_ok-levels.ensures.trees ∙ ap (λ ks. shared_trees ks c.as_slice.result.now) c.new-lines.ensures ∙ ap (shared_trees []) c.as_slice.ensures in
    let lines = c.in_ok-levels.ensures.lines ∙ ap (λ ks. lines_behind ks c.as_slice.result.now) c.new-lines.ensures ∙ ap (lines_behind []) c.as_slice.ensures in
    let last = c.in_ok-unfinished.ensures.tree ∙ ap (λ ks. shared_last ks whole.unfinished) lines in
    let kept = c.in_ok-unfinished.ensures.lines ∙ ap (λ ks. last_lines ks whole.unfinished) lines in
    let count = c.len-few.ensures.count ∙ ap length kept in
    let few : length (kept_lines whole) ≤ 9223372036854775807 = omega (arith, c.len-few.ensures.small, count) in
    IfOk-weaker c.with_trees.result _ _ (λ d e. subst (λ x. is_writable x ≡ true) (sym (with_trees_are whole d 2 _ _ _ _ e levels last)) (share_writable whole c.requires few)) c.with_trees.ensures
