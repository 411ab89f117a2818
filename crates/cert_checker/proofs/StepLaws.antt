-- A line adds its own fault to those before, and the number of the next line.
use Rattle.std.proofs.Common.{ℕ, ◌≡◌, ◌+◌, arith, refl, sym, ◌∙◌, ap, zero, suc, Bool, true, false, cond, List, [], ◌∷◌, ◌++◌, length, length-append}
use Rattle.std.specs.Prelude.{Option, Some, None, ◌==◌}
use Rattle.std.specs.Option.{option_or}
use Rattle.problem_core.specs.Facts.{Facts}
use Rattle.duality.specs.declared.leaf.Node.{Node as SearchNode}
use Rattle.duality.specs.declared.leaf.Node.TheVariants.{Branch, Leaf as Closing, OpenEnd, Same}
use Rattle.duality.specs.Packing.{Packing, Weights, Stage, Fixing}
use Rattle.duality.specs.Tree.{nothing_fixed}
use Rattle.cert_text.specs.declared.lines.Tree.{Tree}
use Rattle.cert_text.specs.declared.lines.CertLine.{CertLine}
use Rattle.cert_text.specs.declared.lines.CertLine.TheVariants as lines
use Rattle.cert_text.specs.Grammar.{State, Opening, with_cut, with_levels, tree_of, may_begin, step}
use Rattle.cert_text.specs.Grammar.State.{Begun, Headed, Sized, Chosen, Valued, Cutting, Between, Inside, Loose, After, Over}
use Rattle.packing_model.specs.Built.{packing, measured}
use Rattle.cert_checker.specs.declared.verdict.Found.{Found}
use Rattle.duality.specs.After.{after_node, after}
use Rattle.cert_checker.specs.Faults.{at_line, cut_reason, cuts_fault, node_reason, next_reason, tree_fault, valued_fault, opening_fault, stage_for, block_fault, levels_fault, between_fault, first_level_line}
use Rattle.cert_checker.specs.Progresses.{levels_size, fault_in, reason_at, IsNextLine}

or_none : {A : Type 0} (x : Option A) → option_or x None ≡ x
or_none None = refl
or_none (Some y) = refl

or_assoc : {A : Type 0} (x y z : Option A) → option_or (option_or x y) z ≡ option_or x (option_or y z)
or_assoc None y z = refl
or_assoc (Some a) y z = refl

cuts_more : (k : Packing) (cuts : List (List ℕ)) (line : ℕ) (ps : List ℕ) → cuts_fault k line (cuts ++ (ps ∷ [])) ≡ option_or (cuts_fault k line cuts) (at_line (length cuts + line) (cut_reason k ps))
cuts_more k [] line ps =
    let same : line ≡ length {A = List ℕ} [] + line = omega arith in
    or_none (at_line line (cut_reason k ps)) ∙ ap (λ n. at_line n (cut_reason k ps)) same
cuts_more k (qs ∷ cuts) line ps =
    let same : length cuts + (line + 1) ≡ length (qs ∷ cuts) + line = omega arith in
    ap (λ x. option_or (at_line line (cut_reason k qs)) x) (cuts_more k cuts (line + 1) ps ∙ ap (λ n. option_or (cuts_fault k (line + 1) cuts) (at_line n (cut_reason k ps))) same)
    ∙ sym (or_assoc (at_line line (cut_reason k qs)) (cuts_fault k (line + 1) cuts) (at_line (length (qs ∷ cuts) + line) (cut_reason k ps)))

pub tree_more : (k : Packing) (w : Weights) (s : Stage) (ns : List SearchNode) (line : ℕ) (fs : List Fixing) (n : SearchNode)
    → tree_fault k w s line fs (ns ++ (n ∷ [])) ≡ option_or (tree_fault k w s line fs ns) (at_line (line + length ns) (next_reason k w s (after fs ns) n))
tree_more k w s [] line [] n = refl
tree_more k w s [] line (f ∷ fs) n =
    let same : line ≡ line + 0 = omega arith in
    or_none (at_line line (node_reason k w s f n)) ∙ ap (λ m. at_line m (node_reason k w s f n)) same
tree_more k w s (m ∷ ns) line [] n = refl
tree_more k w s (m ∷ ns) line (f ∷ fs) n =
    let same : line + 1 + length ns ≡ line + length (m ∷ ns) = omega arith in
    let rest = after_node f fs m in
    ap (λ x. option_or (at_line line (node_reason k w s f m)) x) (tree_more k w s ns (line + 1) rest n ∙ ap (λ j. option_or (tree_fault k w s (line + 1) rest ns) (at_line j (next_reason k w s (after rest ns) n))) same)
    ∙ sym (or_assoc (at_line line (node_reason k w s f m)) (tree_fault k w s (line + 1) rest ns) (at_line (line + length (m ∷ ns)) (next_reason k w s (after rest ns) n)))

levels_more : (f : Facts) (o : Opening) (ts : List Tree) (line level : ℕ) (t : Tree)
    → levels_fault f o line level (ts ++ (t ∷ [])) ≡ option_or (levels_fault f o line level ts) (block_fault f o (line + levels_size ts + 1) (level + length ts) t.nodes)
levels_more f o [] line level t =
    let one : line + 1 ≡ line + 0 + 1 = omega arith in
    let two : level ≡ level + 0 = omega arith in
    or_none (block_fault f o (line + 1) level t.nodes) ∙ ap (λ n. block_fault f o n level t.nodes) one ∙ ap (λ j. block_fault f o (line + 0 + 1) j t.nodes) two
levels_more f o (u ∷ ts) line level t =
    let one : line + 1 + length u.nodes + levels_size ts + 1 ≡ line + levels_size (u ∷ ts) + 1 = omega arith in
    let two : level + 1 + length ts ≡ level + length (u ∷ ts) = omega arith in
    let here = block_fault f o (line + 1) level u.nodes in
    let rest = levels_fault f o (line + 1 + length u.nodes) (level + 1) ts in
    ap (λ x. option_or here x) (levels_more f o ts (line + 1 + length u.nodes) (level + 1) t
    ∙ ap (λ n. option_or rest (block_fault f o n (level + 1 + length ts) t.nodes)) one ∙ ap (λ j. option_or rest (block_fault f o (line + levels_size (u ∷ ts) + 1) j t.nodes)) two)
    ∙ sym (or_assoc here rest (block_fault f o (line + levels_size (u ∷ ts) + 1) (level + length (u ∷ ts)) t.nodes))

levels_size-more : (ts : List Tree) (t : Tree) → levels_size (ts ++ (t ∷ [])) ≡ levels_size ts + (length t.nodes + 1)
levels_size-more [] t = omega arith
levels_size-more (u ∷ ts) t = omega (arith, levels_size-more ts t)

-- a whole tree behind the levels
between_more : (f : Facts) (o : Opening) (ts : List Tree) (ns : List SearchNode) (n : SearchNode)
    → between_fault f o (ts ++ (tree_of (ns ++ (n ∷ [])) ∷ []))
    ≡ option_or (option_or (between_fault f o ts) (block_fault f o (first_level_line o + levels_size ts + 1) (1 + length ts) ns))
    (at_line (first_level_line o + levels_size ts + 1 + length ns) (next_reason (packing f) (measured f) (stage_for o (1 + length ts)) (after (nothing_fixed ∷ []) ns) n))
between_more f o ts ns n =
    let line = first_level_line o + levels_size ts + 1 in
    let before = levels_fault f o (first_level_line o) 1 ts in
    let block = block_fault f o line (1 + length ts) ns in
    let here = at_line (line + length ns) (next_reason (packing f) (measured f) (stage_for o (1 + length ts)) (after (nothing_fixed ∷ []) ns) n) in
    ap (λ x. option_or (opening_fault f o) x) (levels_more f o ts (first_level_line o) 1 (tree_of (ns ++ (n ∷ [])))
    ∙ ap (λ x. option_or before x) (tree_more (packing f) (measured f) (stage_for o (1 + length ts)) ns line (nothing_fixed ∷ []) n)
    ∙ sym (or_assoc before block here))
    ∙ sym (or_assoc (opening_fault f o) (option_or before block) here)
    ∙ ap (λ x. option_or x here) (sym (or_assoc (opening_fault f o) before block))

-- what a line adds, and the next line's number
pub record Adds (f : Facts) (s t : State) (l : CertLine) (line : ℕ) : Type 0 where
  pub fault : fault_in f t ≡ option_or (fault_in f s) (at_line line (reason_at f s l))
  pub next : IsNextLine t (line + 1)

abbrev pub AddsTo : Facts → State → CertLine → ℕ → Option State → Type 0
AddsTo f s l line None = Unit {0}
AddsTo f s l line (Some t) = Adds f s t l line

adds_if : (f : Facts) (s t : State) (l : CertLine) (line : ℕ) (b : Bool) → Adds f s t l line → AddsTo f s l line (cond b (Some t) None)
adds_if f s t l line true h = h
adds_if f s t l line false h = tt

no_reason : (x : Option Found) → x ≡ option_or x None
no_reason x = sym (or_none x)

inside_more : (f : Facts) (o : Opening) (ts : List Tree) (ns : List SearchNode) (n : SearchNode) (line : ℕ) → line ≡ first_level_line o + levels_size ts + 1 + length ns
    → option_or (between_fault f o ts) (block_fault f o (first_level_line o + levels_size ts + 1) (1 + length ts) (ns ++ (n ∷ [])))
    ≡ option_or (option_or (between_fault f o ts) (block_fault f o (first_level_line o + levels_size ts + 1) (1 + length ts) ns))
    (at_line line (next_reason (packing f) (measured f) (stage_for o (1 + length ts)) (after (nothing_fixed ∷ []) ns) n))
inside_more f o ts ns n line e =
    let start = first_level_line o + levels_size ts + 1 in
    let block = block_fault f o start (1 + length ts) ns in
    let reason = next_reason (packing f) (measured f) (stage_for o (1 + length ts)) (after (nothing_fixed ∷ []) ns) n in
    ap (λ x. option_or (between_fault f o ts) x) (tree_more (packing f) (measured f) (stage_for o (1 + length ts)) ns start (nothing_fixed ∷ []) n ∙ ap (λ m. option_or block (at_line m reason)) (sym e))
    ∙ sym (or_assoc (between_fault f o ts) block (at_line line reason))

pub step_adds : (f : Facts) (s : State) (l : CertLine) (line : ℕ) → IsNextLine s line → AddsTo f s l line (step s l)
step_adds f Begun (lines.Head v) line e = record { fault = refl; next = omega (arith, e) }
step_adds f (Headed v) (lines.Sizes p r) line e = record { fault = ap (λ n. at_line n (reason_at f (Headed v) (lines.Sizes p r))) (sym e); next = omega (arith, e) }
step_adds f (Sized v p r) (lines.Choice cs) line e = record { fault = ap (λ n. option_or (fault_in f (Sized v p r)) (at_line n (reason_at f (Sized v p r) (lines.Choice cs)))) (sym e); next = omega (arith, e) }
step_adds f (Chosen v p r cs) (lines.Values vs) line e = record { fault = ap (λ n. option_or (fault_in f (Chosen v p r cs)) (at_line n (reason_at f (Chosen v p r cs) (lines.Values vs)))) (sym e); next = omega (arith, e) }
step_adds f (Valued v p r cs vs) (lines.Cuts zero) line e = record { fault = or_none (option_or (valued_fault f p r cs vs) None); next = omega (arith, e) }
step_adds f (Valued v p r cs vs) (lines.Cuts (suc k)) line e = record { fault = refl; next = omega (arith, e) }
step_adds f (Cutting o zero) (lines.Cut ps) line e = record {
  fault = or_none (opening_fault f (with_cut ps o)) ∙ ap (λ x. option_or (valued_fault f o.patterns o.rows o.choice o.values) x) (cuts_more (packing f) o.cuts 6 ps)
      ∙ sym (or_assoc (valued_fault f o.patterns o.rows o.choice o.values) (cuts_fault (packing f) 6 o.cuts) (at_line (length o.cuts + 6) (cut_reason (packing f) ps)))
      ∙ ap (λ n. option_or (opening_fault f o) (at_line n (cut_reason (packing f) ps))) (sym e);
  next = omega (arith, e, length-append o.cuts (ps ∷ []));
}
step_adds f (Cutting o (suc k)) (lines.Cut ps) line e = record {
  fault = ap (λ x. option_or (valued_fault f o.patterns o.rows o.choice o.values) x) (cuts_more (packing f) o.cuts 6 ps)
      ∙ sym (or_assoc (valued_fault f o.patterns o.rows o.choice o.values) (cuts_fault (packing f) 6 o.cuts) (at_line (length o.cuts + 6) (cut_reason (packing f) ps)))
      ∙ ap (λ n. option_or (opening_fault f o) (at_line n (cut_reason (packing f) ps))) (sym e);
  next = omega (arith, e, length-append o.cuts (ps ∷ []));
}
step_adds f (Between o ts) (lines.Level j) line e = adds_if f (Between o ts) (Inside o ts [] 0) (lines.Level j) line (may_begin j ts) (record { fault = refl; next = omega (arith, e) })
step_adds f (Between o ts) (lines.Unfinished j) line e = adds_if f (Between o ts) (Loose o ts [] 0 false) (lines.Unfinished j) line (may_begin j ts) (record { fault = no_reason (between_fault f o ts); next = tt })
step_adds f (Between o ts) (lines.End j) line e = adds_if f (Between o ts) (Over (with_levels o ts None)) (lines.End j) line (j == length ts) (record { fault = no_reason (between_fault f o ts); next = tt })
step_adds f (Inside o ts ns k) (lines.Node (Branch p)) line e = record { fault = inside_more f o ts ns (Branch p) line e; next = omega (arith, e, length-append ns (Branch p ∷ [])) }
step_adds f (Inside o ts ns zero) (lines.Node (Closing leaf)) line e = record {
  fault = between_more f o ts ns (Closing leaf) ∙ ap (λ n. option_or (fault_in f (Inside o ts ns zero)) (at_line n (reason_at f (Inside o ts ns zero) (lines.Node (Closing leaf))))) (sym e);
  next = omega (arith, e, levels_size-more ts (tree_of (ns ++ (Closing leaf ∷ []))), length-append ns (Closing leaf ∷ []));
}
step_adds f (Inside o ts ns (suc k)) (lines.Node (Closing leaf)) line e = record { fault = inside_more f o ts ns (Closing leaf) line e; next = omega (arith, e, length-append ns (Closing leaf ∷ [])) }
step_adds f (Inside o ts ns zero) (lines.Node (Same q)) line e = record {
  fault = between_more f o ts ns (Same q) ∙ ap (λ n. option_or (fault_in f (Inside o ts ns zero)) (at_line n (reason_at f (Inside o ts ns zero) (lines.Node (Same q))))) (sym e);
  next = omega (arith, e, levels_size-more ts (tree_of (ns ++ (Same q ∷ []))), length-append ns (Same q ∷ []));
}
step_adds f (Inside o ts ns (suc k)) (lines.Node (Same q)) line e = record { fault = inside_more f o ts ns (Same q) line e; next = omega (arith, e, length-append ns (Same q ∷ [])) }
step_adds f (Loose o ts ns zero true) (lines.Node (Same q)) line e = record { fault = no_reason (between_fault f o ts); next = tt }
step_adds f (Loose o ts ns (suc k) seen) (lines.Node (Same q)) line e = record { fault = no_reason (between_fault f o ts); next = tt }
step_adds f (Loose o ts ns k seen) (lines.Node (Branch p)) line e = record { fault = no_reason (between_fault f o ts); next = tt }
step_adds f (Loose o ts ns zero true) (lines.Node (Closing leaf)) line e = record { fault = no_reason (between_fault f o ts); next = tt }
step_adds f (Loose o ts ns (suc k) seen) (lines.Node (Closing leaf)) line e = record { fault = no_reason (between_fault f o ts); next = tt }
step_adds f (Loose o ts ns zero seen) (lines.Node OpenEnd) line e = record { fault = no_reason (between_fault f o ts); next = tt }
step_adds f (Loose o ts ns (suc k) seen) (lines.Node OpenEnd) line e = record { fault = no_reason (between_fault f o ts); next = tt }
step_adds f (After o ts ns) (lines.End j) line e = adds_if f (After o ts ns) (Over (with_levels o ts (Some (tree_of ns)))) (lines.End j) line (j == length ts) (record { fault = no_reason (between_fault f o ts); next = tt })
step_adds f s l line e = tt
