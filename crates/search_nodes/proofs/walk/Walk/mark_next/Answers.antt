use Rattle.std.proofs.Common.{◌≡◌, ◌<◌, ap, refl, arith, length, subst, sym}
use Rattle.std.specs.Prelude.{slice_index_or}
use Rattle.meeting_patterns.specs.Pattern.{patterns_of}
use Rattle.packing_model.specs.Built.{packing, AreBaseRunsOf}
use Rattle.packing_model.proofs.NodeLemmas.{known_at}
use Rattle.search_nodes.specs.Marks.{Fills, in_runs}
use Rattle.search_nodes.proofs.FixingLaws.{walk_fixing, walk_valid}
use Rattle.search_nodes.proofs.MarkLaws.{marks_filled}
use Rattle.search_nodes.proofs.walk.Walk.mark_next.Goals as goal

pub base_runs-runs-requires : goal.base_runs-runs-requires
base_runs-runs-requires c =
    let known = (walk_fixing (packing c.args.model.now) c.args.self.now c.requires.walk).one in
    subst (λ list. slice_index_or list c.args.self.now.marks.count 0 < length (patterns_of c.args.model.now)) (sym c.as_slice.ensures)
    (known_at (length (patterns_of c.args.model.now)) c.args.self.now.fixing.one c.args.self.now.marks.count known c.requires.some)

pub fill-requires-clause-known : goal.fill-requires-clause-known
fill-requires-clause-known c =
    let known = (walk_fixing (packing c.args.model.now) c.args.self.now c.requires.walk).one in
    let low : slice_index_or c.as_slice.result.now c.args.self.now.marks.count 0 < length (patterns_of c.args.model.now) =
    subst (λ list. slice_index_or list c.args.self.now.marks.count 0 < length (patterns_of c.args.model.now)) (sym c.as_slice.ensures)
    (known_at (length (patterns_of c.args.model.now)) c.args.self.now.fixing.one c.args.self.now.marks.count known c.requires.some) in
    omega (arith, low, c.patterns.ensures.few, ap length c.patterns.ensures.patterns)

pub returns-clause-walk : goal.returns-clause-walk
returns-clause-walk c =
    let list = c.args.self.now.fixing.one in
    let at = c.args.self.now.marks.count in
    let runs = c.base_runs-runs.result.now in
    let same : slice_index_or c.as_slice.result.now at 0 ≡ slice_index_or list at 0 = ap (λ l. slice_index_or l at 0) c.as_slice.ensures in
    let base : AreBaseRunsOf (packing c.args.model.now) runs (slice_index_or list at 0) = subst (AreBaseRunsOf (packing c.args.model.now) runs) same c.base_runs-runs.ensures in
    let fills : Fills (slice_index_or list at 0) (in_runs runs) c.args.self.now.marks.fillers.items c.fill.new.fillers.items = subst (λ p. Fills p (in_runs runs) c.args.self.now.marks.fillers.items c.fill.new.fillers.items) same c.in_ok-fill.ensures in
    record {
      fixing = c.requires.walk.fixing;
      valid = c.requires.walk.valid;
      marks = marks_filled c.args.model.now c.args.self.now.fixing c.args.self.now.marks _ runs c.requires.some (walk_valid c.args.model.now c.args.self.now c.requires.walk) base fills refl refl refl c.requires.walk.marks;
    }
