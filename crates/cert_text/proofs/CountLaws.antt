-- A step by counts is the step of the text.
use Rattle.std.proofs.Common.{ℕ, ◌≡◌, ◌-◌, arith, refl, ap, zero, suc, Bool, true, false, cond, [], ◌∷◌, ◌++◌, length, length-append}
use Rattle.std.specs.Prelude.{Some, None, option_map, ◌==◌}
use Rattle.std.proofs.lemmas.Bool.{ne_eqb, lt-ltb}
use Rattle.duality.specs.declared.leaf.Node.TheVariants.{Branch, Leaf as Closing, OpenEnd, Same}
use Rattle.cert_text.specs.declared.lines.CertLine.{CertLine}
use Rattle.cert_text.specs.declared.lines.CertLine.TheVariants as lines
use Rattle.cert_text.specs.declared.place.Place.TheVariants.{Cutting, Between, Inside, Loose}
use Rattle.cert_text.specs.Grammar.{State, with_levels, tree_of, may_begin, step}
use Rattle.cert_text.specs.Grammar.State.{Begun as SBegun, Headed as SHeaded, Sized as SSized, Chosen as SChosen, Valued as SValued, Cutting as SCutting, Between as SBetween, Inside as SInside, Loose as SLoose, After as SAfter, Over as SOver}
use Rattle.cert_text.specs.Places.{follows, place_of}

if_place : (b : Bool) (s : State) → option_map place_of (cond b (Some s) None) ≡ cond b (Some (place_of s)) None
if_place true s = refl
if_place false s = refl

less : (k : ℕ) → k ≡ suc k - 1
less k = omega arith

pub step_counts : (s : State) (l : CertLine) → option_map place_of (step s l) ≡ follows (place_of s) l
step_counts SBegun (lines.Head v) = refl
step_counts (SHeaded v) (lines.Sizes p r) = refl
step_counts (SSized v p r) (lines.Choice es) = refl
step_counts (SChosen v p r cs) (lines.Values vs) = refl
step_counts (SValued v p r cs vs) (lines.Cuts zero) = refl
step_counts (SValued v p r cs vs) (lines.Cuts (suc k)) = rw (ne_eqb (suc k) 0 (λ e. absurd (omega arith))) (ap (λ n. Some (Cutting n)) (less k))
step_counts (SCutting o zero) (lines.Cut ps) = refl
step_counts (SCutting o (suc k)) (lines.Cut ps) = rw (ne_eqb (suc k) 0 (λ e. absurd (omega arith))) (ap (λ n. Some (Cutting n)) (less k))
step_counts (SBetween o ls) (lines.Level j) = if_place (may_begin j ls) (SInside o ls [] 0)
step_counts (SBetween o ls) (lines.Unfinished j) = if_place (may_begin j ls) (SLoose o ls [] 0 false)
step_counts (SBetween o ls) (lines.End j) = if_place (j == length ls) (SOver (with_levels o ls None))
step_counts (SInside o ls ns k) (lines.Node (Branch p)) = ap (λ n. Some (Inside (length ls) n)) (omega arith)
step_counts (SInside o ls ns zero) (lines.Node (Closing leaf)) = ap (λ n. Some (Between n)) (omega (arith, length-append ls (tree_of (ns ++ (Closing leaf ∷ [])) ∷ [])))
step_counts (SInside o ls ns (suc k)) (lines.Node (Closing leaf)) = rw (ne_eqb (suc k) 0 (λ e. absurd (omega arith))) (ap (λ n. Some (Inside (length ls) n)) (less k))
step_counts (SInside o ls ns zero) (lines.Node (Same q)) = ap (λ n. Some (Between n)) (omega (arith, length-append ls (tree_of (ns ++ (Same q ∷ [])) ∷ [])))
step_counts (SInside o ls ns (suc k)) (lines.Node (Same q)) = rw (ne_eqb (suc k) 0 (λ e. absurd (omega arith))) (ap (λ n. Some (Inside (length ls) n)) (less k))
step_counts (SInside o ls ns k) (lines.Node OpenEnd) = refl
step_counts (SLoose o ls ns k seen) (lines.Node (Branch p)) = ap (λ n. Some (Loose (length ls) n seen)) (omega arith)
step_counts (SLoose o ls ns zero true) (lines.Node (Closing leaf)) = refl
step_counts (SLoose o ls ns zero false) (lines.Node (Closing leaf)) = refl
step_counts (SLoose o ls ns (suc k) seen) (lines.Node (Closing leaf)) = rw (lt-ltb 0 (suc k) (omega arith)) (ap (λ n. Some (Loose (length ls) n seen)) (less k))
step_counts (SLoose o ls ns zero true) (lines.Node (Same q)) = refl
step_counts (SLoose o ls ns zero false) (lines.Node (Same q)) = refl
step_counts (SLoose o ls ns (suc k) seen) (lines.Node (Same q)) = rw (lt-ltb 0 (suc k) (omega arith)) (ap (λ n. Some (Loose (length ls) n seen)) (less k))
step_counts (SLoose o ls ns zero seen) (lines.Node OpenEnd) = refl
step_counts (SLoose o ls ns (suc k) seen) (lines.Node OpenEnd) = rw (lt-ltb 0 (suc k) (omega arith)) (ap (λ n. Some (Loose (length ls) n true)) (less k))
step_counts (SAfter o ls ns) (lines.End j) = if_place (j == length ls) (SOver (with_levels o ls (Some (tree_of ns))))
step_counts s l = refl
