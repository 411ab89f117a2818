-- Nodes of a search over the six measures are inside the bounds of a certificate's lines.
use Rattle.std.proofs.Common.{◌≡◌, ◌≤◌, ◌^◌, arith, refl, sym, ◌∙◌, zero, suc, true, false, not, ◌&&◌, List, [], ◌∷◌, map, length, inl, inr}
use Rattle.std.specs.Prelude.{ℤ, pos, negsuc, ◌==◌, nat_le, nat_lt, int_le, None}
use Rattle.std.specs.List.{list_all, list_any, All}
use Rattle.std.specs.Ordering.{int_eq}
use Rattle.std.proofs.lemmas.Bool.{and_parts, and_from, cases_Bool, le-leb, ltb-true, not_from_false, or_parts, true≢false}
use Rattle.duality.specs.declared.leaf.Leaf.{Leaf}
use Rattle.duality.specs.declared.leaf.Node.{Node}
use Rattle.duality.specs.declared.leaf.Node.TheVariants.{Branch, Leaf as Closing, OpenEnd, Same}
use Rattle.duality.specs.declared.row.RowName.{RowName}
use Rattle.duality.specs.declared.row.RowName.TheVariants.{Base, Cut, Level}
use Rattle.duality.specs.declared.row.Term.{Term}
use Rattle.duality.specs.Packing.{Packing, Weights, Stage, Fixing, is_there, has_sign, is_free}
use Rattle.duality.specs.Leaf.{closes, term_fits}
use Rattle.duality.specs.Sums.{is_small, are_small, rises}
use Rattle.duality.specs.Tree.{ends_at}
use Rattle.duality.specs.After.{after_node, is_right, are_right}
use Rattle.packing_model.proofs.NodeLemmas.{few_plain_terms}
use Rattle.search_nodes.specs.Leaves.{IsFineLeaf}
use Rattle.cert_text.specs.Spelling.{in_bounds, leaf_in_bounds, term_in_bounds, row_in_bounds, scale_in_bounds, is_zero}
use Rattle.cert_text.specs.declared.lines.CertLine.TheVariants.{Node as node_line}
use Rattle.branch_tree.specs.Growths.{IsFineNode}

-- few patterns, base rows and cuts, no floor, and a level of the six
pub record AreFew (k : Packing) (w : Weights) (s : Stage) : Type 0 where
  pub patterns : k.count ≤ 200000
  pub rows : k.base_len ≤ 4000
  pub cuts : length s.cuts ≤ 1000
  pub floor : w.floor ≡ None
  pub level : s.level ≤ 6

module _ (k : Packing) (w : Weights) (s : Stage) (few : AreFew k w s) where
  row_bounded : (r : RowName) → is_there k w s r ≡ true → row_in_bounds r ≡ true
  row_bounded (Base r) h = le-leb r 3999 (omega (arith, few.rows, ltb-true r k.base_len h))
  row_bounded (Cut c) h = le-leb c 999 (omega (arith, few.cuts, ltb-true c (length s.cuts) h))
  row_bounded (Level j) h = elim (cases_Bool (j == 7)) [
    | inl floor ↦ absurd (true≢false (sym h ∙ rw (floor, few.floor) refl))
    | inr level ↦
        let parts = and_parts (nat_le 1 j) (nat_lt j s.level) (sym (rw level refl) ∙ h) in
        and_from (nat_le 1 j) (nat_le j 5) parts.0 (le-leb j 5 (omega (arith, few.level, ltb-true j s.level parts.1)))
  ]

  not_zero : (z : ℤ) → int_eq z (pos 0) ≡ false → is_zero z ≡ false
  not_zero (pos zero) h = absurd (true≢false h)
  not_zero (pos (suc n)) h = refl
  not_zero (negsuc n) h = refl

  terms_bounded : (ts : List Term) → list_all (term_fits k w s) ts ≡ true → are_small ts ≡ true → list_any (λ (t : Term). int_eq t.times (pos 0)) ts ≡ false → list_all term_in_bounds ts ≡ true
  terms_bounded [] fits small zeros = refl
  terms_bounded (t ∷ ts) fits small zeros =
      let fit = and_parts (term_fits k w s t) (list_all (term_fits k w s) ts) fits in
      let size = and_parts (is_small (10 ^ 24) t.times) (are_small ts) small in
      let none = or_parts (int_eq t.times (pos 0)) (list_any (λ (u : Term). int_eq u.times (pos 0)) ts) zeros in
      let row = row_bounded t.row (and_parts (is_there k w s t.row) (has_sign t.row t.times) fit.0).0 in
      and_from (term_in_bounds t) (list_all term_in_bounds ts)
      (and_from (row_in_bounds t.row) (not (is_zero t.times) && is_small (10 ^ 24) t.times) row
      (and_from (not (is_zero t.times)) (is_small (10 ^ 24) t.times) (not_from_false (is_zero t.times) (not_zero t.times none.0)) size.0))
      (terms_bounded ts fit.1 size.1 none.1)

  all_there : (ts : List Term) → list_all (term_fits k w s) ts ≡ true → list_all (λ t. is_there k w s t.row) ts ≡ true
  all_there [] h = refl
  all_there (t ∷ ts) h =
      let parts = and_parts (term_fits k w s t) (list_all (term_fits k w s) ts) h in
      and_from (is_there k w s t.row) (list_all (λ u. is_there k w s u.row) ts) (and_parts (is_there k w s t.row) (has_sign t.row t.times) parts.0).0 (all_there ts parts.1)

  scale_bounded : (z : ℤ) → int_le (pos 0) z ≡ true → is_small (10 ^ 24) z ≡ true → scale_in_bounds z ≡ true
  scale_bounded (pos n) h small = small
  scale_bounded (negsuc n) h small = absurd (true≢false (sym h))

  leaf_bounded : (f : Fixing) (leaf : Leaf) → ends_at k w s f leaf ≡ true → IsFineLeaf leaf → leaf_in_bounds leaf ≡ true
  leaf_bounded f leaf ends fine =
      let outer = and_parts (int_le (pos 0) leaf.scale) (closes k w s f leaf) ends in
      let fits = (and_parts (list_all (term_fits k w s) leaf.terms) _ outer.1).0 in
      and_from (scale_in_bounds leaf.scale) _ (scale_bounded leaf.scale outer.0 fine.small_scale)
      (and_from (nat_le (length leaf.terms) 5005) _ (le-leb (length leaf.terms) 5005 (few_plain_terms k w s leaf.terms few.rows few.cuts few.floor few.level fine.rising (all_there leaf.terms fits)))
      (and_from (list_all term_in_bounds leaf.terms) (rises leaf.terms) (terms_bounded leaf.terms fits fine.small fine.no_zero) fine.rising))

  node_bounded : (f : Fixing) (n : Node) → is_right k w s f n ≡ true → IsFineNode n → in_bounds (node_line n) ≡ true
  node_bounded f (Branch p) right fine = le-leb p 199999 (omega (arith, few.patterns, ltb-true p k.count (and_parts (nat_lt p k.count) (is_free k f p) right).0))
  node_bounded f (Closing leaf) right fine = leaf_bounded f leaf right fine
  node_bounded f OpenEnd right fine = refl
  node_bounded f (Same leaf) right fine = absurd fine

  pub nodes_bounded : (fs : List Fixing) (ns : List Node) → are_right k w s fs ns ≡ true → All IsFineNode ns → list_all in_bounds (map node_line ns) ≡ true
  nodes_bounded fs [] right fine = refl
  nodes_bounded [] (n ∷ ns) right fine = absurd (true≢false (sym right))
  nodes_bounded (f ∷ fs) (n ∷ ns) right fine =
      let parts = and_parts (is_right k w s f n) (are_right k w s (after_node f fs n) ns) right in
      and_from (in_bounds (node_line n)) (list_all in_bounds (map node_line ns))
      (node_bounded f n parts.0 (fine 0 n (omega arith)))
      (nodes_bounded (after_node f fs n) ns parts.1 (λ i d l. fine (suc i) d (omega arith)))
