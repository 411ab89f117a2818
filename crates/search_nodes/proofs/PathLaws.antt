-- A path grows and turns at its last branch.
use Rattle.std.proofs.Common.{ℕ, ◌≡◌, ◌-◌, arith, refl, sym, ◌∙◌, ap, Bool, true, false, not, ◌&&◌, List, [], ◌∷◌, ◌++◌, length, take}
use Rattle.std.specs.Prelude.{Some, min, nat_lt}
use Rattle.std.specs.List.{list_any}
use Rattle.std.proofs.lemmas.Bool.{and_parts, and_from, not-true}
use Rattle.std.proofs.lemmas.List.{length_push, take_at}
use Rattle.numbers.specs.Sums.{member}
use Rattle.duality.specs.Packing.{Packing, Fixing as Fixed, is_free}
use Rattle.duality.specs.Tree.{can_branch, with_zero}
use Rattle.duality.specs.Walk.{Step, step_at, fixing_of, turn}
use Rattle.packing_model.specs.Fixings.{without_last}
use Rattle.packing_model.specs.Nodes.{fixed_of}
use Rattle.search_nodes.specs.Marks.{SetsAt, AreMarks}
use Rattle.search_nodes.specs.Paths.{onto_path, path_of, is_path, IsWalk, IsOutside, IsInside}
use Rattle.search_nodes.specs.declared.marks.Marks.{Marks}
use Rattle.packing_model.specs.declared.fixing.Fixing.{Fixing}
use Rattle.search_nodes.specs.declared.walk.Side.{Side}
use Rattle.search_nodes.proofs.MarkLaws.{KeepsRows, marks_out, marks_taken, marks_released}

onto_more : (path : List Step) (sides : List Side) (b : Side) → onto_path path (sides ++ (b ∷ [])) ≡ step_at b.pattern b.inside ∷ onto_path path sides
onto_more path [] b = refl
onto_more path (a ∷ sides) b = onto_more (step_at a.pattern a.inside ∷ path) sides b

pub path_more : (sides : List Side) (p : ℕ) (inside : Bool) → path_of (sides ++ (record { pattern = p; inside = inside } ∷ [])) ≡ step_at p inside ∷ path_of sides
path_more sides p inside = onto_more [] sides (record { pattern = p; inside = inside })

pub path_last : (old new : List Side) (b : Side) → old ≡ new ++ (b ∷ []) → path_of old ≡ step_at b.pattern b.inside ∷ path_of new
path_last old new b e = ap path_of e ∙ onto_more [] new b

pub last_gone : (xs : List ℕ) (x : ℕ) → without_last (xs ++ (x ∷ [])) ≡ xs
last_gone xs x =
    let n : length (xs ++ x ∷ []) - 1 ≡ length xs = omega (arith, length_push xs x) in
    ap (λ m. take m (xs ++ x ∷ [])) n ∙ take_at xs (x ∷ []) (length xs) refl

same_fixed : (z y o n : List ℕ) → z ≡ y → o ≡ n → ◌≡◌ {A = Fixed} (record { zero = z; one = o }) (record { zero = y; one = n })
same_fixed z y o n e f = ap (λ x. record { zero = x; one = o }) e ∙ ap (λ x. record { zero = y; one = x }) f

pub walk_at : (k : Packing) (sides : List Side) (f : Fixing) (m : Marks) (path : List Step) → path_of sides ≡ path → fixed_of f ≡ fixing_of path → is_path k path ≡ true → AreMarks k f m → IsWalk k (record { path = sides; fixing = f; marks = m })
walk_at k sides f m path e fixing valid marks = record { fixing = fixing ∙ ap fixing_of (sym e); valid = ap (is_path k) e ∙ valid; marks = marks }

-- a pattern that may be a branch is neither left out nor taken
record IsNew (f : Fixed) (p : ℕ) : Type 0 where
  pub not_out : member p f.zero ≡ false
  pub not_in : member p f.one ≡ false

is_new : (k : Packing) (f : Fixed) (p : ℕ) → can_branch k f p ≡ true → IsNew f p
is_new k f p h =
    let parts = and_parts (nat_lt p k.count) (is_free k f p) h in
    let free = and_parts (not (member p f.zero)) (not (member p f.one) && not (list_any (k.clash p) f.one)) parts.1 in
    let rest = and_parts (not (member p f.one)) (not (list_any (k.clash p) f.one)) free.1 in
    record { not_out = not-true (member p f.zero) free.0; not_in = not-true (member p f.one) rest.0 }

pub branched : (k : Packing) (old new : List Side) (f g : Fixing) (m n : Marks) (p : ℕ) → path_of new ≡ step_at p false ∷ path_of old → g.zero ≡ f.zero ++ (p ∷ []) → g.one ≡ f.one
    → SetsAt false p true m.left_out.items n.left_out.items → n.taken.items ≡ m.taken.items → KeepsRows m n
    → IsWalk k (record { path = old; fixing = f; marks = m }) → can_branch k (fixing_of (path_of old)) p ≡ true → IsWalk k (record { path = new; fixing = g; marks = n })
branched k old new f g m n p e z o sets taken kept walk free =
    walk_at k new g n (step_at p false ∷ path_of old) e (same_fixed g.zero (f.zero ++ (p ∷ [])) g.one f.one z o ∙ ap (with_zero p) walk.fixing)
    (and_from (can_branch k (fixing_of (path_of old)) p) (is_path k (path_of old)) free walk.valid)
    (marks_out k f g m n p z o sets taken kept walk.marks)

pub taken : (k : Packing) (old new : List Side) (f g h : Fixing) (m n : Marks) (p : ℕ) → path_of new ≡ step_at p true ∷ path_of old → g.zero ≡ without_last f.zero → g.one ≡ f.one → h.one ≡ g.one ++ (p ∷ []) → h.zero ≡ g.zero
    → SetsAt false p false m.left_out.items n.left_out.items → SetsAt false p true m.taken.items n.taken.items → KeepsRows m n
    → IsOutside k p (record { path = old; fixing = f; marks = m }) → IsWalk k (record { path = new; fixing = h; marks = n })
taken k old new f g h m n p e gz go ho hz left came kept out =
    let fix = fixing_of (path_of old) in
    let before : f.zero ≡ fix.zero ++ (p ∷ []) = ap (λ (x : Fixed). x.zero) out.fixing in
    let zero : h.zero ≡ fix.zero = hz ∙ gz ∙ ap (λ (x : Fixed). without_last x.zero) out.fixing ∙ last_gone fix.zero p in
    let one : h.one ≡ fix.one ++ (p ∷ []) = ho ∙ ap (λ xs. xs ++ (p ∷ [])) (go ∙ ap (λ (x : Fixed). x.one) out.fixing) in
    walk_at k new h n (step_at p true ∷ path_of old) e (same_fixed h.zero fix.zero h.one (fix.one ++ (p ∷ [])) zero one)
    (and_from (can_branch k fix p) (is_path k (path_of old)) out.free out.valid)
    (marks_taken k f h m n p fix.zero before (is_new k fix p out.free).not_out zero (ho ∙ ap (λ xs. xs ++ (p ∷ [])) go) left came kept out.marks)

-- the pattern that was taken last is taken no longer
pub released : (k : Packing) (sides : List Side) (f g : Fixing) (m n : Marks) (p : ℕ) → g.one ≡ without_last f.one → g.zero ≡ f.zero
    → SetsAt false p false m.taken.items n.taken.items → n.left_out.items ≡ m.left_out.items → n.fillers.items ≡ m.fillers.items → n.count ≡ min m.count (length g.one)
    → IsInside k p (record { path = sides; fixing = f; marks = m }) → IsWalk k (record { path = sides; fixing = g; marks = n })
released k sides f g m n p go gz sets left fillers count inside =
    let fix = fixing_of (path_of sides) in
    let before : f.one ≡ fix.one ++ (p ∷ []) = ap (λ (x : Fixed). x.one) inside.fixing in
    let one : g.one ≡ fix.one = go ∙ ap (λ (x : Fixed). without_last x.one) inside.fixing ∙ last_gone fix.one p in
    let zero : g.zero ≡ fix.zero = gz ∙ ap (λ (x : Fixed). x.zero) inside.fixing in
    record {
      fixing = same_fixed g.zero fix.zero g.one fix.one zero one;
      valid = inside.valid;
      marks = marks_released k f g m n p fix.one before (is_new k fix p inside.free).not_in one gz sets left fillers count inside.marks;
    }

-- the last branch was on its second side
pub popped_inside : (k : Packing) (old new : List Side) (f : Fixing) (m : Marks) (b : Side) → old ≡ new ++ (b ∷ []) → b.inside ≡ true
    → IsWalk k (record { path = old; fixing = f; marks = m }) → IsInside k b.pattern (record { path = new; fixing = f; marks = m })
popped_inside k old new f m b e inside walk =
    let fix = fixing_of (path_of new) in
    let path : path_of old ≡ step_at b.pattern true ∷ path_of new = path_last old new b e ∙ ap (λ side. step_at b.pattern side ∷ path_of new) inside in
    let valid = and_parts (can_branch k fix b.pattern) (is_path k (path_of new)) (ap (is_path k) (sym path) ∙ walk.valid) in
    record { fixing = walk.fixing ∙ ap fixing_of path; free = valid.0; valid = valid.1; marks = walk.marks }

-- the last branch was on its first side
pub popped_outside : (k : Packing) (old new : List Side) (f : Fixing) (m : Marks) (b : Side) → old ≡ new ++ (b ∷ []) → b.inside ≡ false
    → IsWalk k (record { path = old; fixing = f; marks = m }) → IsOutside k b.pattern (record { path = new; fixing = f; marks = m })
popped_outside k old new f m b e inside walk =
    let fix = fixing_of (path_of new) in
    let path : path_of old ≡ step_at b.pattern false ∷ path_of new = path_last old new b e ∙ ap (λ side. step_at b.pattern side ∷ path_of new) inside in
    let valid = and_parts (can_branch k fix b.pattern) (is_path k (path_of new)) (ap (is_path k) (sym path) ∙ walk.valid) in
    record { fixing = walk.fixing ∙ ap fixing_of path; free = valid.0; valid = valid.1; marks = walk.marks }

pub turn_inside : (old new : List Side) (b : Side) → old ≡ new ++ (b ∷ []) → b.inside ≡ true → turn (path_of old) ≡ turn (path_of new)
turn_inside old new b e inside = ap turn (path_last old new b e ∙ ap (λ side. step_at b.pattern side ∷ path_of new) inside)

pub turn_outside : (old new : List Side) (b : Side) → old ≡ new ++ (b ∷ []) → b.inside ≡ false → turn (path_of old) ≡ Some (step_at b.pattern true ∷ path_of new)
turn_outside old new b e inside = ap turn (path_last old new b e ∙ ap (λ side. step_at b.pattern side ∷ path_of new) inside)
