use Rattle.std.proofs.Common.{ℕ, ◌≡◌, ◌<◌, ◌≤◌, ◌∙◌, sym, ap, arith, length, true, false, Bool}
use Rattle.numbers.specs.Below.{first_from_yes, first_from_no}
use Rattle.duality.specs.Packing.{is_free}
use Rattle.meeting_patterns.specs.Pattern.{patterns_of}
use Rattle.packing_model.specs.Built.{packing}
use Rattle.packing_model.specs.Nodes.{fixed_of}
use Rattle.node_bound.proofs.FixedLaws.{none_at_end}
use Rattle.node_bound.proofs.free.lowest_free.Goals as goal

pub returns-then-is_free : goal.returns-then-is_free
returns-then-is_free c =
    let test : ℕ → Bool = is_free (packing c.args.model.now) (fixed_of c.args.fixing.now) in
    let count = length (patterns_of c.args.model.now) in
    let pattern = c.loop-pattern.pattern in
    let l : pattern < count = omega (arith, ap length c.patterns.ensures.patterns) in
    let hit : test pattern ≡ true = sym c.is_free.ensures ∙ c.if-is_free.true in
    c.loop-pattern.invariant ∙ first_from_yes test pattern count l hit

pub loop-pattern-preserved : goal.loop-pattern-preserved
loop-pattern-preserved c =
    let test : ℕ → Bool = is_free (packing c.args.model.now) (fixed_of c.args.fixing.now) in
    let count = length (patterns_of c.args.model.now) in
    let pattern = c.loop-pattern.pattern in
    let l : pattern < count = omega (arith, ap length c.patterns.ensures.patterns) in
    let miss : test pattern ≡ false = sym c.is_free.ensures ∙ c.if-is_free.false in
    c.loop-pattern.invariant ∙ first_from_no test pattern count l miss

pub returns : goal.returns
returns c =
    let test : ℕ → Bool = is_free (packing c.args.model.now) (fixed_of c.args.fixing.now) in
    let count = length (patterns_of c.args.model.now) in
    let end : count ≤ c.loop-pattern.pattern = omega (arith, ap length c.patterns.ensures.patterns) in
    none_at_end test count c.loop-pattern.pattern c.loop-pattern.invariant end
