-- The certificate of what a search over the six measures found.
use Rattle.std.proofs.Common.{ℕ, ◌≡◌, ◌<◌, ◌≤◌, ◌+◌, ◌-◌, arith, refl, sym, ◌∙◌, ap, ap₂, subst, zero, suc, Bool, true, List, [], ◌∷◌, ◌++◌, length, take, inl, inr}
use Rattle.std.specs.Prelude.{ℤ, pos, Option, Some, None, if◌then◌else◌, slice_index_or}
use Rattle.std.specs.Option.{option_or}
use Rattle.std.proofs.lemmas.Bool.{cases_Bool, true≢false}
use Rattle.problem_core.specs.Facts.{Facts}
use Rattle.problem_core.specs.Choice.{IsLegal}
use Rattle.problem_core.specs.Measures.{measure, measures, IsBest}
use Rattle.duality.specs.declared.leaf.Leaf.{Leaf}
use Rattle.duality.specs.declared.leaf.Node.{Node}
use Rattle.duality.specs.declared.leaf.Node.TheVariants.{Branch, Leaf as Closing, OpenEnd, Same}
use Rattle.duality.specs.Packing.{Packing}
use Rattle.duality.specs.Tree.{proves_level}
use Rattle.duality.specs.Units.{branch_count}
use Rattle.packing_model.specs.Built.{packing, measured}
use Rattle.packing_model.specs.Cuts.{first_clear_of, pair_with, first_apart, IsCutOf}
use Rattle.packing_model.specs.Nodes.{stage_at}
use Rattle.search_nodes.specs.Choices.{weighs}
use Rattle.cert_text.specs.declared.lines.Tree.{Tree}
use Rattle.cert_text.specs.declared.lines.Certificate.{Certificate}
use Rattle.cert_text.specs.Sharing.{share, shared_nodes, shared_leaf, shared_trees, shared_last, lines_with, lines_after, lines_behind, leaf_text, place_of_line}
use Rattle.cert_checker.specs.Faults.{value_at}
use Rattle.cert_checker.specs.Verdicts.{IsClique, IsValidPlain, IsValid, tree_at}
use Rattle.cert_checker.proofs.BestLaws.{measure_at}
use Rattle.branch_tree.specs.Logs.{Moment, IsStopped, moment, moment_after}
use Rattle.lex_driver.specs.Searches.{nodes_at, branches_of, AreProved, IsSearch, Searches}
use Rattle.lex_driver.specs.Accounts.{Accounts, IsOpenAccount, Accounted}
use Rattle.lex_driver.specs.Solving.{found_of, branches_left, branches_in, IsCertificate, IsAccountOf, IsSharedOf, IsSolved, IsFoundSearch, Solves}
use Rattle.lex_driver.specs.declared.solve.Solved.{Solved}
use Rattle.lex_driver.specs.declared.solve.Solved.TheVariants.{Optimal, Open}
use Rattle.lex_driver.specs.declared.search.Search.{Search}

-- ---- cuts

none_or : {A : Type 0} (o u : Option A) → option_or o u ≡ None → (o ≡ None) × (u ≡ None)
none_or None u e = (refl, e)
none_or (Some x) u e = absurd (cc)

no_pair : (p : ℕ) (o : Option ℕ) → pair_with p o ≡ None → o ≡ None
no_pair p None e = refl
no_pair p (Some q) e = absurd (cc)

clear_first : (clash : ℕ → ℕ → Bool) (p q : ℕ) (qs : List ℕ) → first_clear_of clash p (q ∷ qs) ≡ None → (clash p q ≡ true) × (first_clear_of clash p qs ≡ None)
clear_first clash p q qs e = elim (cases_Bool (clash p q)) [
  | inl hit ↦ (hit, sym (ap (λ b. if b then first_clear_of clash p qs else Some q) hit) ∙ e)
  | inr miss ↦ absurd (cc (sym (ap (λ b. if b then first_clear_of clash p qs else Some q) miss) ∙ e))
]

clear_at : (clash : ℕ → ℕ → Bool) (p : ℕ) (qs : List ℕ) → first_clear_of clash p qs ≡ None → (j : ℕ) → j < length qs → clash p (slice_index_or qs j 0) ≡ true
clear_at clash p [] e j l = absurd (omega arith)
clear_at clash p (q ∷ qs) e zero l = (clear_first clash p q qs e).0
clear_at clash p (q ∷ qs) e (suc j) l = clear_at clash p qs (clear_first clash p q qs e).1 j (omega arith)

apart_at : (clash : ℕ → ℕ → Bool) (ps : List ℕ) → first_apart clash ps ≡ None → (i j : ℕ) → i < j → j < length ps → clash (slice_index_or ps i 0) (slice_index_or ps j 0) ≡ true
apart_at clash [] e i j l m = absurd (omega arith)
apart_at clash (p ∷ ps) e i zero l m = absurd (omega arith)
apart_at clash (p ∷ ps) e zero (suc j) l m = clear_at clash p ps (no_pair p (first_clear_of clash p ps) (none_or (pair_with p (first_clear_of clash p ps)) (first_apart clash ps) e).0) j (omega arith)
apart_at clash (p ∷ ps) e (suc i) (suc j) l m = apart_at clash ps (none_or (pair_with p (first_clear_of clash p ps)) (first_apart clash ps) e).1 i j (omega arith) (omega arith)

cut_clique : (k : Packing) (ps : List ℕ) → IsCutOf k ps → IsClique k ps
cut_clique k ps h = record { known = h.list.known; clash = apart_at k.clash ps h.clique }

-- ---- values

less_one : (j : ℕ) → (j + 1) - 1 ≡ j
less_one j = omega arith

one_more : (k : ℕ) → 1 ≤ k → (k - 1) + 1 ≡ k
one_more k l = omega arith

-- the values below a level are the first of the measures
same_first : (n : ℕ) (xs ys : List ℤ) → n ≤ length xs → n ≤ length ys → ((i : ℕ) → i < n → slice_index_or xs i (pos 0) ≡ slice_index_or ys i (pos 0)) → take n xs ≡ take n ys
same_first zero xs ys l m h = refl
same_first (suc n) [] ys l m h = absurd (omega arith)
same_first (suc n) (x ∷ xs) [] l m h = absurd (omega arith)
same_first (suc n) (x ∷ xs) (y ∷ ys) l m h = ap₂ (λ a b. a ∷ b) (h 0 (omega arith)) (same_first n xs ys (omega arith) (omega arith) (λ i q. h (suc i) (omega arith)))

take_all : (xs : List ℤ) → take (length xs) xs ≡ xs
take_all [] = refl
take_all (x ∷ xs) = ap (λ ys. x ∷ ys) (take_all xs)

-- one more value behind the first n
take_more : (n : ℕ) (xs : List ℤ) → n < length xs → take (n + 1) xs ≡ take n xs ++ (slice_index_or xs n (pos 0) ∷ [])
take_more zero [] l = absurd (omega arith)
take_more zero (x ∷ xs) l = refl
take_more (suc n) [] l = absurd (omega arith)
take_more (suc n) (x ∷ xs) l = let e : suc n + 1 ≡ suc (n + 1) = omega arith in rw e (ap (λ ys. x ∷ ys) (take_more n xs (omega arith)))

-- what a legal choice weighs in the measures
abbrev Weighs : Facts → Type 0
Weighs p = (j : ℕ) (b : List ℕ) → IsLegal p b → weighs p (measured p) j b ≡ measure p j b

module _ (p : Facts) (weigh : Weighs p) (trees : List Tree) (values : List ℤ) (cuts : List (List ℕ)) (a : List ℕ) (h : AreProved p (measured p) trees values cuts a) (few : length values ≤ 6) where
  value_is : (j : ℕ) → j < length values → slice_index_or values j (pos 0) ≡ slice_index_or (measures p a) j (pos 0)
  value_is j l =
      sym (h.held.targets_met (j + 1) (omega arith) (omega arith) ∙ ap (λ i. slice_index_or values i (pos 0)) (less_one j))
      ∙ weigh (j + 1) a h.held.legal ∙ sym (measure_at p a (j + 1) (omega arith) (omega arith)) ∙ ap (λ i. slice_index_or (measures p a) i (pos 0)) (less_one j)

  pub values_first : values ≡ take (length values) (measures p a)
  values_first = sym (take_all values) ∙ same_first (length values) values (measures p a) (omega arith) few value_is

  pub level_valid : (k : ℕ) → 1 ≤ k → k ≤ length values → proves_level (packing p) (measured p) (stage_at k (take (k - 1) (measures p a)) (Some (value_at (measures p a) k)) cuts) (tree_at trees (k - 1)).nodes ≡ true
  level_valid k low high =
      let proved = h.proved (k - 1) (omega arith) in
      let below : take (k - 1) values ≡ take (k - 1) (measures p a) = same_first (k - 1) values (measures p a) (omega arith) (omega arith) (λ i l. value_is i (omega arith)) in
      subst (λ j. proves_level (packing p) (measured p) (stage_at j (take (k - 1) (measures p a)) (Some (value_at (measures p a) k)) cuts) (nodes_at trees (k - 1)) ≡ true) (one_more k low)
      (subst (λ x. proves_level (packing p) (measured p) (stage_at ((k - 1) + 1) (take (k - 1) (measures p a)) (Some x) cuts) (nodes_at trees (k - 1)) ≡ true) (value_is (k - 1) (omega arith))
      (subst (λ xs. proves_level (packing p) (measured p) (stage_at ((k - 1) + 1) xs (Some (slice_index_or values (k - 1) (pos 0))) cuts) (nodes_at trees (k - 1)) ≡ true) below proved))

  pub found_valid : (unfinished : Option Tree) (n : ℕ) → length values ≡ n → IsValidPlain p n (found_of p trees a cuts unfinished)
  found_valid unfinished n e = record {
    finished = h.one_each ∙ e;
    patterns = refl;
    rows = refl;
    legal = h.held.legal;
    measured = refl;
    cuts = λ i l. cut_clique (packing p) (slice_index_or cuts i []) (h.pool.each i l);
    trees = λ k low high. level_valid k low (omega (arith, e, high));
  }

-- ---- shared leaves

leaf_branches : (leaf : Leaf) (o : Option ℕ) (ns : List Node) → branch_count (shared_leaf leaf o ∷ ns) ≡ branch_count ns
leaf_branches leaf None ns = refl
leaf_branches leaf (Some q) ns = refl

shared_branches : (ls : List (List ℕ)) (ns : List Node) → branch_count (shared_nodes ls ns) ≡ branch_count ns
shared_branches ls [] = refl
shared_branches ls (Branch p ∷ ns) = ap suc (shared_branches ls ns)
shared_branches ls (Closing leaf ∷ ns) =
    leaf_branches leaf (place_of_line (leaf_text leaf) ls) (shared_nodes (lines_with ls (Closing leaf)) ns) ∙ shared_branches (lines_with ls (Closing leaf)) ns
shared_branches ls (OpenEnd ∷ ns) = shared_branches ls ns
shared_branches ls (Same q ∷ ns) = shared_branches ls ns

trees_branches : (ls : List (List ℕ)) (ts : List Tree) → branches_of (shared_trees ls ts) ≡ branches_of ts
trees_branches ls [] = refl
trees_branches ls (t ∷ ts) = ap₂ (λ m n. m + n) (shared_branches ls t.nodes) (trees_branches (lines_after ls t.nodes) ts)

last_branches : (ls : List (List ℕ)) (o : Option Tree) → branches_left (shared_last ls o) ≡ branches_left o
last_branches ls None = refl
last_branches ls (Some t) = shared_branches ls t.nodes

pub share_branches : (c : Certificate) → branches_in (share c) ≡ branches_in c
share_branches c = ap₂ (λ m n. m + n) (trees_branches [] c.levels) (last_branches (lines_behind [] c.levels) c.unfinished)

-- ---- the whole

module _ (p : Facts) (weigh : Weighs p) (s : Search) (kept : IsSearch p (measured p) s) (few : length s.targets < 6) where
  count : length s.trees ≡ length s.targets
  count = kept.are.one_each

  -- what the choice weighs at the next level is its measure there
  next_value : weighs p (measured p) (length s.targets + 1) s.choice.entries ≡ value_at (measures p s.choice.entries) (length s.trees + 1)
  next_value =
      weigh (length s.targets + 1) s.choice.entries kept.are.held.legal
      ∙ sym (measure_at p s.choice.entries (length s.targets + 1) (omega arith) (omega (arith, few)))
      ∙ ap (λ n. value_at (measures p s.choice.entries) (n + 1)) (sym count)

  below : s.targets ≡ take ((length s.trees + 1) - 1) (measures p s.choice.entries)
  below =
      values_first p weigh s.trees s.targets s.pool s.choice.entries kept.are (omega (arith, few))
      ∙ ap (λ n. take n (measures p s.choice.entries)) (sym count ∙ sym (less_one (length s.trees)))

  values_are : s.targets ++ (weighs p (measured p) (length s.targets + 1) s.choice.entries ∷ []) ≡ take (length s.trees + 1) (measures p s.choice.entries)
  values_are =
      ap₂ (λ (xs : List ℤ) (x : ℤ). xs ++ (x ∷ [])) (below ∙ ap (λ n. take n (measures p s.choice.entries)) (less_one (length s.trees))) (next_value ∙ ap (λ i. slice_index_or (measures p s.choice.entries) i (pos 0)) (less_one (length s.trees)))
      ∙ sym (take_more (length s.trees) (measures p s.choice.entries) (omega (arith, few, count)))

  pub account_of : (tree : Tree) (m n : Moment) → IsOpenAccount p (measured p) s tree m n → IsAccountOf p (found_of p s.trees s.choice.entries s.pool (Some tree)) s.log m n
  account_of tree m n h = record {
    tree = tree;
    unfinished = refl;
    log_is = subst (λ vs. Accounts (packing p) (measured p) (s.trees ++ (tree ∷ [])) vs s.pool m n s.log.units s.log.cuts) values_are h.log;
    place = h.place;
    fixing = h.fixing;
    first = h.first;
    stopped =
        subst (λ k. IsStopped (packing p) (measured p) (stage_at k (take ((length s.trees + 1) - 1) (measures p s.choice.entries)) (Some (value_at (measures p s.choice.entries) (length s.trees + 1))) s.pool) h.fixing (moment_after m s.log.units) n) (ap (λ k. k + 1) (sym count))
        (subst (λ v. IsStopped (packing p) (measured p) (stage_at (length s.targets + 1) (take ((length s.trees + 1) - 1) (measures p s.choice.entries)) (Some v) s.pool) h.fixing (moment_after m s.log.units) n) next_value
        (subst (λ xs. IsStopped (packing p) (measured p) (stage_at (length s.targets + 1) xs (Some (weighs p (measured p) (length s.targets + 1) s.choice.entries)) s.pool) h.fixing (moment_after m s.log.units) n) below h.stopped));
  }

abbrev BestOf : Facts → Type 0
BestOf p = (n : ℕ) (c : Certificate) → n ≤ 6 → IsValid p n c → IsBest p n c.choice

module _ (p : Facts) (weigh : Weighs p) (best : BestOf p) where
  certificate_of : (s : Search) (unfinished : Option Tree) (n : ℕ) (c : Certificate) → IsSearch p (measured p) s → length s.targets ≡ n → n ≤ 6 → IsSharedOf p s.trees s.choice.entries s.pool unfinished c → IsCertificate p n c
  certificate_of s unfinished n c kept count few is =
      let valid : IsValid p n c = subst (IsValidPlain p n) (sym is.plain_is) (found_valid p weigh s.trees s.targets s.pool s.choice.entries kept.are (omega (arith, count, few)) unfinished n count) in
      record { version = ap (λ (x : Certificate). x.version) is.shared; writable = is.writable; valid = valid; best = best n c few valid }

  pub solves : (s : Search) (unfinished : Option Tree) (budget : ℕ) (m : Moment) (wides steps : ℕ) (solved : Solved) → Searches p (measured p) 6 budget (record { search = s; unfinished = unfinished })
      → Accounted p (measured p) s m (moment wides steps (length s.pool)) unfinished → IsSolved p s unfinished solved → Solves p budget m wides steps solved
  solves s None budget m wides steps (Optimal c) h a is =
      record {
        certificate = certificate_of s None 6 c h.kept h.ends.0 (omega arith) is.1;
        whole = ap (λ (x : Certificate). x.unfinished) is.1.shared;
        few = omega (arith, h.ends.1, ap branches_in is.1.shared, share_branches (found_of p s.trees s.choice.entries s.pool None));
      }
  solves s (Some tree) budget m wides steps (Optimal c) h a is = absurd (true≢false is.0)
  solves s None budget m wides steps (Open level c log) h a is = absurd (true≢false (sym is.0))
  solves s (Some tree) budget m wides steps (Open level c log) h a is =
      let found = found_of p s.trees s.choice.entries s.pool (Some tree) in
      let count : length s.targets ≡ level - 1 = omega (arith, is.2, h.kept.are.one_each) in
      record {
        low = omega (arith, is.2);
        high = omega (arith, is.2, h.kept.are.one_each, h.ends.0);
        certificate = certificate_of s (Some tree) (level - 1) c h.kept count (omega (arith, count, h.ends.0)) is.1;
        spent = ap branches_in is.1.shared ∙ share_branches found ∙ h.ends.1;
        fewer = h.ends.2;
        account = subst (λ x. IsAccountOf p x log m (moment wides steps (length c.cuts))) (sym is.1.plain_is)
            (subst (λ l. IsAccountOf p found l m (moment wides steps (length c.cuts))) (sym is.3)
            (subst (λ (x : Certificate). IsAccountOf p found s.log m (moment wides steps (length x.cuts))) (sym is.1.shared) (account_of p weigh s h.kept h.ends.0 tree m (moment wides steps (length s.pool)) a)));
      }

-- what a search of six levels leaves
pub found_search : (p : Facts) (budget : ℕ) (s : Search) (unfinished : Option Tree) → Searches p (measured p) 6 budget (record { search = s; unfinished = unfinished }) → IsFoundSearch p s unfinished
found_search p budget s None h = record { kept = h.kept; ends = h.ends.0 }
found_search p budget s (Some tree) h = record { kept = h.kept; ends = (h.ends.0, h.ends.3) }

-- one more cut behind the first n
pub take_cut : (n : ℕ) (xs : List (List ℕ)) → n < length xs → take (n + 1) xs ≡ take n xs ++ (slice_index_or xs n [] ∷ [])
take_cut zero [] l = absurd (omega arith)
take_cut zero (x ∷ xs) l = refl
take_cut (suc n) [] l = absurd (omega arith)
take_cut (suc n) (x ∷ xs) l = let e : suc n + 1 ≡ suc (n + 1) = omega arith in rw e (ap (λ ys. x ∷ ys) (take_cut n xs (omega arith)))
