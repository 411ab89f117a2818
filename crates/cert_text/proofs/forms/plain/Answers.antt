use Rattle.std.proofs.Common.{◌≡◌, ◌∙◌, ap, sym, subst, map, true, []}
use Rattle.std.proofs.lemmas.Result.{IfOk-weaker}
use Rattle.cert_text.specs.Grammar.{is_writable}
use Rattle.cert_text.specs.Sharing.{plain_trees, plain_last, leaves_behind}
use Rattle.cert_text.proofs.ShareLaws.{plain_writable, with_trees_are}
use Rattle.cert_text.proofs.forms.plain.Goals as goal

pub returns-clause-writable : goal.returns-clause-writable
returns-clause-writable c =
    let whole = c.args.c.now in
    let levels = c.in_ok-levels.ensures.trees ∙ ap (λ ls. plain_trees (map (λ leaf. leaf.now) ls) c.as_slice.result.now) c.new-leaves.ensures ∙ ap (plain_trees []) c.as_slice.ensures in
    let leaves = c.in_ok-levels.ensures.leaves ∙ ap (λ ls. leaves_behind (map (λ leaf. leaf.now) ls) c.as_slice.result.now) c.new-leaves.ensures ∙ ap (leaves_behind []) c.as_slice.ensures in
    let last = c.in_ok-unfinished.ensures ∙ ap (λ ls. plain_last ls whole.unfinished) leaves in
    IfOk-weaker c.with_trees.result _ _ (λ d e. subst (λ x. is_writable x ≡ true) (sym (with_trees_are whole d 1 _ _ _ _ e levels last)) (plain_writable whole c.requires)) c.with_trees.ensures
