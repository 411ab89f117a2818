use Rattle.week_page.specs.Page.{head_text}
use Rattle.week_page.proofs.ListLemmas.{more}
use Rattle.week_page.proofs.head.push_head.Goals as goal

pub returns : goal.returns
unfolding head_text
returns c =
    more _ _ _ _ _ (more _ _ _ _ _ (more _ _ _ _ _ (more _ _ _ _ _ (more _ _ _ _ _ (more _ _ _ _ _ (c.in_ok-push_before_title.ensures) (c.in_ok-push_title.ensures)) (c.in_ok-extend_from_slice.ensures.items)) (c.in_ok-push_style.ensures)) (c.in_ok-extend_from_slice-2.ensures.items)) (c.in_ok-push_title-2.ensures)) (c.in_ok-extend_from_slice-3.ensures.items)
