-- A tree caps every choice; by its nodes in preorder it says the same.
use Rattle.std.proofs.Common.{ℕ, ◌≡◌, refl, sym, ◌∙◌, ap, Bool, true, false, not, ◌&&◌, List, [], ◌∷◌, ◌++◌, append_assoc, append-nil, ◌⊎◌, inl, inr}
use Rattle.std.specs.Prelude.{pos, nat_lt, int_le, ◌==◌, ◌||◌}
use Rattle.std.specs.List.{list_all, list_any}
use Rattle.std.proofs.lemmas.Bool.{and_parts, and_from, or_from, or_parts, not-true, not_from_false, eq-eqb, ne_eqb, true≢false, cases_Bool}
use Rattle.std.proofs.lemmas.List.Folds.{list_all-append, list_any-append}
use Rattle.numbers.specs.Sums.{value, member, distinct}
use Rattle.duality.specs.declared.leaf.Node.{Node}
use Rattle.duality.specs.declared.leaf.Node.TheVariants.{Branch, Leaf as Closing, OpenEnd, Same}
use Rattle.duality.specs.Packing.{Packing, Weights, Stage, Fixing, is_free, AreCliques, IsPacking, Meets, Follows, IsFixing}
use Rattle.duality.specs.Leaf.{closes, IsCapped}
use Rattle.duality.specs.Tree.{ProofTree, with_zero, with_one, can_branch, ends_at, proves, proves_all, preorder, nothing_fixed, proves_level}
use Rattle.duality.specs.Tree.ProofTree.{Fork, End, Open}
use Rattle.duality.proofs.LeafLaws.{leaf_caps, int_le-true}

abbrev AreFixings : Packing → List Fixing → Type 0
AreFixings k [] = Unit {0}
AreFixings k (f ∷ fs) = IsFixing k f × AreFixings k fs

abbrev FollowsSome : List Fixing → (ℕ → Bool) → Type 0
FollowsSome [] has = ⊥
FollowsSome (f ∷ fs) has = Follows f has ⊎ FollowsSome fs has

-- ---- lists with one more at their end

member-snoc : (p q : ℕ) (qs : List ℕ) → member p (qs ++ (q ∷ [])) ≡ ((q == p) || member p qs)
member-snoc p q [] = refl
member-snoc p q (x ∷ qs) = ap (λ b. (x == p) || b) (member-snoc p q qs) ∙ or_swap (x == p) (q == p) (member p qs)
  where
    or_swap : (a b c : Bool) → (a || (b || c)) ≡ (b || (a || c))
    or_swap true true c = refl
    or_swap true false c = refl
    or_swap false b c = refl

distinct-snoc : (q : ℕ) (qs : List ℕ) → member q qs ≡ false → distinct qs ≡ true → distinct (qs ++ (q ∷ [])) ≡ true
distinct-snoc q [] h d = refl
distinct-snoc q (x ∷ qs) h d =
    let parts = and_parts (not (member x qs)) (distinct qs) d in
    let apart = or_parts (x == q) (member q qs) h in
    let turned : (q == x) ≡ false = ne_eqb q x (λ e. true≢false (sym (eq-eqb x q (sym e)) ∙ apart.0)) in
    let fresh : member x (qs ++ (q ∷ [])) ≡ false = member-snoc x q qs ∙ or_from (q == x) (member x qs) turned (not-true (member x qs) parts.0) in
    and_from (not (member x (qs ++ (q ∷ [])))) (distinct (qs ++ (q ∷ []))) (not_from_false _ fresh) (distinct-snoc q qs apart.1 parts.1)

all-snoc : (test : ℕ → Bool) (q : ℕ) (qs : List ℕ) → list_all test qs ≡ true → test q ≡ true → list_all test (qs ++ (q ∷ [])) ≡ true
all-snoc test q qs all h = list_all-append test qs (q ∷ []) ∙ and_from (list_all test qs) (list_all test (q ∷ [])) all (and_from (test q) true h refl)

none-snoc : (test : ℕ → Bool) (q : ℕ) (qs : List ℕ) → list_any test qs ≡ false → test q ≡ false → list_any test (qs ++ (q ∷ [])) ≡ false
none-snoc test q qs none h = list_any-append test qs (q ∷ []) ∙ or_from (list_any test qs) (list_any test (q ∷ [])) none (or_from (test q) false h refl)

-- ---- fixings

fixes_one : (k : Packing) (f : Fixing) (p : ℕ) → IsFixing k f → can_branch k f p ≡ true → IsFixing k (with_one p f)
fixes_one k f p fixes can =
    let parts = and_parts (nat_lt p k.count) (is_free k f p) can in
    let free = and_parts (not (member p f.zero)) (not (member p f.one) && not (list_any (k.clash p) f.one)) parts.1 in
    let apart = and_parts (not (member p f.one)) (not (list_any (k.clash p) f.one)) free.1 in
    record {
      differ = distinct-snoc p f.one (not-true (member p f.one) apart.0) fixes.differ;
      known = all-snoc (λ q. nat_lt q k.count) p f.one fixes.known parts.0;
    }

-- each choice that follows a fixing follows one of the two below it
either_side : (f : Fixing) (p : ℕ) (has : ℕ → Bool) → Follows f has → Follows (with_zero p f) has ⊎ Follows (with_one p f) has
either_side f p has follows = elim (cases_Bool (has p)) [
  | inl h ↦ inr (record { one = all-snoc has p f.one follows.one h; zero = follows.zero })
  | inr h ↦ inl (record { one = follows.one; zero = none-snoc has p f.zero follows.zero h })
]

nodes_cap : (k : Packing) (w : Weights) (s : Stage) (has : ℕ → Bool) → AreCliques k s.cuts → IsPacking k has → Meets k w s has
    → (ns : List Node) (fs : List Fixing) → AreFixings k fs → proves_all k w s fs ns ≡ true → FollowsSome fs has → IsCapped s.best (value has (w.weight s.level) k.count)
nodes_cap k w s has cliques packs meets ns [] fixes proved some = absurd some
nodes_cap k w s has cliques packs meets [] (f ∷ fs) fixes proved some = absurd (true≢false (sym proved))
nodes_cap k w s has cliques packs meets (Branch p ∷ ns) (f ∷ fs) fixes proved some =
    let parts = and_parts (can_branch k f p) (proves_all k w s (with_zero p f ∷ with_one p f ∷ fs) ns) proved in
    let below : IsFixing k (with_zero p f) = record { differ = fixes.0.differ; known = fixes.0.known } in
    nodes_cap k w s has cliques packs meets ns (with_zero p f ∷ with_one p f ∷ fs) (below, (fixes_one k f p fixes.0 parts.0, fixes.1)) parts.1
    (elim some [
      | inl here ↦ elim (either_side f p has here) [ inl low ↦ inl low | inr high ↦ inr (inl high) ]
      | inr later ↦ inr (inr later)
    ])
nodes_cap k w s has cliques packs meets (Closing leaf ∷ ns) (f ∷ fs) fixes proved some =
    let parts = and_parts (ends_at k w s f leaf) (proves_all k w s fs ns) proved in
    let leaf_parts = and_parts (int_le (pos 0) leaf.scale) (closes k w s f leaf) parts.0 in
    elim some [
      | inl here ↦ leaf_caps k w s f leaf has cliques fixes.0 (int_le-true (pos 0) leaf.scale leaf_parts.0) leaf_parts.1 packs meets here
      | inr later ↦ nodes_cap k w s has cliques packs meets ns fs fixes.1 parts.1 later
    ]
nodes_cap k w s has cliques packs meets (OpenEnd ∷ ns) (f ∷ fs) fixes proved some = absurd (true≢false (sym proved))
nodes_cap k w s has cliques packs meets (Same leaf ∷ ns) (f ∷ fs) fixes proved some = absurd (true≢false (sym proved))

pub tree_caps : (k : Packing) (w : Weights) (s : Stage) (nodes : List Node) (has : ℕ → Bool)
    → AreCliques k s.cuts → proves_level k w s nodes ≡ true → IsPacking k has → Meets k w s has → IsCapped s.best (value has (w.weight s.level) k.count)
tree_caps k w s nodes has cliques proved packs meets =
    nodes_cap k w s has cliques packs meets nodes (nothing_fixed ∷ []) (record { differ = refl; known = refl }, tt) proved (inl (record { one = refl; zero = refl }))

and_assoc_3 : (a b c d : Bool) → (a && (b && (c && d))) ≡ ((a && (b && c)) && d)
and_assoc_3 false b c d = refl
and_assoc_3 true false c d = refl
and_assoc_3 true true c d = refl

-- by its nodes a tree proves what it proves, and then what follows has its turn
pub preorder_proves : (k : Packing) (w : Weights) (s : Stage) (t : ProofTree) (f : Fixing) (fs : List Fixing) (ns : List Node)
    → proves_all k w s (f ∷ fs) (preorder t ++ ns) ≡ (proves k w s f t && proves_all k w s fs ns)
preorder_proves k w s (Fork p low high) f fs ns =
    ap (λ ms. can_branch k f p && proves_all k w s (with_zero p f ∷ with_one p f ∷ fs) ms) (append_assoc (preorder low) (preorder high) ns)
    ∙ ap (λ b. can_branch k f p && b) (preorder_proves k w s low (with_zero p f) (with_one p f ∷ fs) (preorder high ++ ns))
    ∙ ap (λ b. can_branch k f p && (proves k w s (with_zero p f) low && b)) (preorder_proves k w s high (with_one p f) fs ns)
    ∙ and_assoc_3 (can_branch k f p) (proves k w s (with_zero p f) low) (proves k w s (with_one p f) high) (proves_all k w s fs ns)
preorder_proves k w s (End leaf) f fs ns = refl
preorder_proves k w s Open f fs ns = refl

and_true : (b : Bool) → (b && true) ≡ b
and_true true = refl
and_true false = refl

pub tree_in_preorder : (k : Packing) (w : Weights) (s : Stage) (t : ProofTree) → proves_level k w s (preorder t) ≡ proves k w s nothing_fixed t
tree_in_preorder k w s t =
    ap (proves_level k w s) (sym (append-nil (preorder t))) ∙ preorder_proves k w s t nothing_fixed [] [] ∙ and_true (proves k w s nothing_fixed t)
