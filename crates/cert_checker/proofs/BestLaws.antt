-- The choice of a valid certificate is best in its levels.
use Rattle.std.proofs.Common.{ℕ, ◌≡◌, ◌<◌, ◌≤◌, ◌-◌, arith, refl, sym, ◌∙◌, ap, subst, zero, suc, Bool, true, List, [], ◌∷◌, length, take, inl, inr}
use Rattle.std.specs.Prelude.{ℤ, pos, ◌≤ℤ◌, ◌==◌, slice_index_or, Some}
use Rattle.std.proofs.lemmas.Bool.{true≢false, or_cases, eqb-true, cases_order}
use Rattle.numbers.specs.Sums.{value, member}
use Rattle.problem_core.specs.Facts.{Facts}
use Rattle.problem_core.specs.Choice.{IsLegal}
use Rattle.problem_core.specs.Measures.{measure, measures, IsBest}
use Rattle.meeting_patterns.specs.Pattern.{patterns_of, pattern_at, clash, chooses}
use Rattle.duality.specs.declared.leaf.Node.{Node as SearchNode}
use Rattle.duality.specs.Packing.{Packing, Weights, Stage, AreCliques, IsPacking, Meets}
use Rattle.duality.specs.Leaf.{IsCapped}
use Rattle.duality.specs.Tree.{proves_level}
use Rattle.packing_model.specs.Rows.{in_cut}
use Rattle.packing_model.specs.Built.{packing, measured}
use Rattle.packing_model.specs.Closing.{HasTargets, choice_of}
use Rattle.cert_text.specs.declared.lines.Certificate.{Certificate}
use Rattle.cert_text.specs.Grammar.{opening_of}
use Rattle.cert_checker.specs.Faults.{stage_for, value_at}
use Rattle.cert_checker.specs.Verdicts.{IsClique, IsValidPlain, tree_at}
use Rattle.search_nodes.proofs.ClashLaws.{clash_back}

abbrev pub TreeCaps : Type 0
TreeCaps = (k : Packing) (w : Weights) (s : Stage) (nodes : List SearchNode) (has : ℕ → Bool)
    → AreCliques k s.cuts → proves_level k w s nodes ≡ true → IsPacking k has → Meets k w s has → IsCapped s.best (value has (w.weight s.level) k.count)

-- what the laws of the packing say at one problem
pub record PackingLaws (f : Facts) : Type 0 where
  pub cliques : (cuts : List (List ℕ))
      → ((c i j : ℕ) → c < length cuts → i < j → j < length (patterns_of f) → member i (in_cut cuts c) ≡ true → member j (in_cut cuts c) ≡ true → clash f (pattern_at (patterns_of f) i) (pattern_at (patterns_of f) j) ≡ true)
      → AreCliques (packing f) cuts
  pub packs : (a : List ℕ) → IsLegal f a → IsPacking (packing f) (λ i. chooses f a (pattern_at (patterns_of f) i))
  pub weighs : (a : List ℕ) → IsLegal f a → (k : ℕ) → value (λ i. chooses f a (pattern_at (patterns_of f) i)) ((measured f).weight k) (length (patterns_of f)) ≡ measure f k a

place : (i : ℕ) (ps : List ℕ) → member i ps ≡ true → (a : ℕ) × (a < length ps) × (slice_index_or ps a 0 ≡ i)
place i [] h = absurd (true≢false (sym h))
place i (p ∷ ps) h = elim (or_cases (p == i) (member i ps) h) [
  | inl here ↦ (0, omega arith, eqb-true p i here)
  | inr later ↦ let rest = place i ps later in (suc rest.0, omega (arith, rest.1), rest.2)
]

pub cut_pair : (f : Facts) (ps : List ℕ) (i j : ℕ) → IsClique (packing f) ps → i < j → member i ps ≡ true → member j ps ≡ true → clash f (pattern_at (patterns_of f) i) (pattern_at (patterns_of f) j) ≡ true
cut_pair f ps i j clique l hi hj =
    let a = place i ps hi in
    let b = place j ps hj in
    elim (cases_order a.0 b.0) [
      | inl same ↦ let equal : i ≡ j = sym a.2 ∙ ap (λ n. slice_index_or ps n 0) same ∙ b.2 in absurd (omega arith)
      | inr (inl before) ↦ subst (λ y. clash f (pattern_at (patterns_of f) i) (pattern_at (patterns_of f) y) ≡ true) b.2
          (subst (λ x. clash f (pattern_at (patterns_of f) x) (pattern_at (patterns_of f) (slice_index_or ps b.0 0)) ≡ true) a.2 (clique.clash a.0 b.0 before b.1))
      | inr (inr behind) ↦ clash_back f (pattern_at (patterns_of f) j) (pattern_at (patterns_of f) i)
          (subst (λ y. clash f (pattern_at (patterns_of f) j) (pattern_at (patterns_of f) y) ≡ true) a.2
          (subst (λ x. clash f (pattern_at (patterns_of f) x) (pattern_at (patterns_of f) (slice_index_or ps a.0 0)) ≡ true) b.2 (clique.clash b.0 a.0 behind a.1)))
    ]

pub at_take : (xs : List ℤ) (m i : ℕ) → i < m → slice_index_or (take m xs) i (pos 0) ≡ slice_index_or xs i (pos 0)
at_take xs zero i l = absurd (omega arith)
at_take [] (suc m) i l = refl
at_take (x ∷ xs) (suc m) zero l = refl
at_take (x ∷ xs) (suc m) (suc i) l = at_take xs m i (omega arith)

pub measure_at : (f : Facts) (a : List ℕ) (k : ℕ) → 1 ≤ k → k ≤ 6 → value_at (measures f a) k ≡ measure f k a
measure_at f a zero l m = absurd (omega arith)
measure_at f a (suc zero) l m = refl
measure_at f a (suc (suc zero)) l m = refl
measure_at f a (suc (suc (suc zero))) l m = refl
measure_at f a (suc (suc (suc (suc zero)))) l m = refl
measure_at f a (suc (suc (suc (suc (suc zero))))) l m = refl
measure_at f a (suc (suc (suc (suc (suc (suc zero)))))) l m = refl
measure_at f a (suc (suc (suc (suc (suc (suc (suc k))))))) l m = absurd (omega arith)

pub valid_best : TreeCaps → (f : Facts) → PackingLaws f → (n : ℕ) (c : Certificate) → n ≤ 6 → IsValidPlain f n c → IsBest f n c.choice
valid_best caps f laws n c few valid = record {
  legal = valid.legal;
  none_better = λ k l m b legal same.
      let o = opening_of c in
      let has : ℕ → Bool = λ i. chooses f b (pattern_at (patterns_of f) i) in
      let cliques = laws.cliques c.cuts (λ q i j lq lij ljs hi hj. cut_pair f (in_cut c.cuts q) i j (valid.cuts q lq) lij hi hj) in
      let at : (j : ℕ) → 1 ≤ j → j ≤ 6 → value_at c.values j ≡ measure f j c.choice = λ j lj mj. ap (λ vs. value_at vs j) valid.measured ∙ measure_at f c.choice j lj mj in
      let meets : Meets (packing f) (measured f) (stage_for o k) has = record {
        targets = λ j lj mj. laws.weighs b legal j ∙ same j lj mj ∙ sym (at j lj (omega arith)) ∙ sym (at_take c.values (k - 1) (j - 1) (omega arith));
        floor = refl;
      } in
      let capped = caps (packing f) (measured f) (stage_for o k) (tree_at c.levels (k - 1)).nodes has cliques (valid.trees k l m) (laws.packs b legal) meets in
      subst (λ x. x ≤ℤ measure f k c.choice) (laws.weighs b legal k) (subst (λ v. value has ((measured f).weight k) (length (patterns_of f)) ≤ℤ v) (at k l (omega arith)) capped);
}

-- a tree that proves its level caps every legal choice with the targets
pub tree_best : TreeCaps → (f : Facts) → PackingLaws f → (s : Stage) (v : ℤ) (nodes : List SearchNode) → AreCliques (packing f) s.cuts → s.best ≡ Some v → proves_level (packing f) (measured f) s nodes ≡ true
    → (b : List ℕ) → IsLegal f b → HasTargets f s.level s.targets b → measure f s.level b ≤ℤ v
tree_best caps f laws s v nodes cliques best proved b legal has =
    let weight : ℤ = value (choice_of f b) ((measured f).weight s.level) (length (patterns_of f)) in
    let meets : Meets (packing f) (measured f) s (choice_of f b) = record { targets = λ j l m. laws.weighs b legal j ∙ has.each j l m; floor = refl } in
    let capped : IsCapped s.best weight = caps (packing f) (measured f) s nodes (choice_of f b) cliques proved (laws.packs b legal) meets in
    subst (λ x. x ≤ℤ v) (laws.weighs b legal s.level) (subst (λ o. IsCapped o weight) best capped)
