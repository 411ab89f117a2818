use Rattle.std.proofs.Common.{ℕ, ◌≡◌, [], arith, refl, ap, subst, sym}
use Rattle.std.specs.Prelude.{None}
use Rattle.problem_core.specs.Facts.{Facts}
use Rattle.cert_text.specs.declared.lines.CertLine.TheVariants as lines
use Rattle.packing_model.specs.Built.{packing}
use Rattle.search_nodes.specs.Paths.{path_of, IsWalk}
use Rattle.search_nodes.specs.declared.walk.Walk.{Walk}
use Rattle.cert_checker.specs.declared.progress.Progress.{Progress}
use Rattle.cert_checker.specs.Progresses.{IsProgress, IsJudged}
use Rattle.cert_checker.proofs.progress.Progress.reason.Goals as goal

-- the walk of a level begins
begun : (f : Facts) (p : Progress) (w : Walk) (n : ℕ) → IsProgress f p → w.path ≡ [] → IsWalk (packing f) w
    → IsJudged f p (record { place = p.place; line = p.line; measures = p.measures; pool = p.pool; walk = w; fault = p.fault }) (lines.Level n) None
begun f p w n kept path walk = record {
  is = refl;
  kept = record { place = refl; line = refl; room = omega arith; pool = kept.pool; six = kept.six; small = kept.small; walk = walk };
  fault = refl;
  added = λ _. record { pool = refl; measures = refl; path = ap path_of path };
}

pub returns-in-Level : goal.returns-in-Level
returns-in-Level c =
    let p : Progress = c.args.self.now in
    let new : Progress = record { place = p.place; line = p.line; measures = p.measures; pool = p.pool; walk = c.new.result; fault = p.fault } in
    subst (λ l. IsJudged c.args.m.now p new l None) (sym c.in-Level.is)
    (begun c.args.m.now p c.new.result c.in-Level.field-0 c.requires.kept c.new.ensures.path (c.new.ensures.walk (packing c.args.m.now)))
