-- The fixing of a path is valid: its patterns are the packing's, and those that are taken differ and do not clash.
use Rattle.std.proofs.Common.{ℕ, ◌≡◌, ◌<◌, arith, refl, sym, ◌∙◌, subst, zero, suc, Bool, true, false, not, ◌&&◌, List, [], ◌∷◌, ◌++◌, length, inl, inr, length-append}
use Rattle.std.specs.Prelude.{◌==◌, nat_lt, slice_index_or}
use Rattle.std.specs.List.{list_all, list_any}
use Rattle.std.proofs.lemmas.Bool.{and_parts, and_from, or_parts, cases_lt, eq-eqb, not-true, both_ways}
use Rattle.std.proofs.lemmas.List.{get_or_push, get_or_append_left}
use Rattle.std.proofs.lemmas.List.Folds.{list_all-append}
use Rattle.numbers.specs.Sums.{member}
use Rattle.problem_core.specs.Facts.{Facts}
use Rattle.meeting_patterns.specs.Pattern.{patterns_of, pattern_at}
use Rattle.duality.specs.Packing.{Packing, Fixing as Fixed, is_free}
use Rattle.duality.specs.Tree.{can_branch}
use Rattle.duality.specs.Walk.{Step, fixing_of}
use Rattle.packing_model.specs.Built.{packing}
use Rattle.packing_model.specs.Nodes.{IsFixingOf, IsValidFixing}
use Rattle.search_nodes.specs.Paths.{path_of, is_path, IsWalk}
use Rattle.search_nodes.specs.declared.walk.Walk.{Walk}
use Rattle.search_nodes.proofs.ClashLaws.{apart_back}

record IsSound (k : Packing) (f : Fixed) : Type 0 where
  pub zero : list_all (λ p. nat_lt p k.count) f.zero ≡ true
  pub one : list_all (λ p. nat_lt p k.count) f.one ≡ true
  pub differ : (i j : ℕ) → i < j → j < length f.one → slice_index_or f.one i 0 ≡ slice_index_or f.one j 0 → ⊥
  -- the later with the earlier
  pub apart : (i j : ℕ) → i < j → j < length f.one → k.clash (slice_index_or f.one j 0) (slice_index_or f.one i 0) ≡ false

known_more : (count p : ℕ) (ps : List ℕ) → list_all (λ q. nat_lt q count) ps ≡ true → nat_lt p count ≡ true → list_all (λ q. nat_lt q count) (ps ++ (p ∷ [])) ≡ true
known_more count p ps h l = list_all-append (λ q. nat_lt q count) ps (p ∷ []) ∙ and_from (list_all (λ q. nat_lt q count) ps) (nat_lt p count && true) h (and_from (nat_lt p count) true l refl)

not_there : (p : ℕ) (ps : List ℕ) (i : ℕ) → member p ps ≡ false → i < length ps → slice_index_or ps i 0 ≡ p → ⊥
not_there p [] i h l e = absurd (omega arith)
not_there p (q ∷ ps) zero h l e = both_ways (q == p) (or_parts (q == p) (member p ps) h).0 (eq-eqb q p e)
not_there p (q ∷ ps) (suc i) h l e = not_there p ps i (or_parts (q == p) (member p ps) h).1 (omega arith) e

none_at : (test : ℕ → Bool) (ps : List ℕ) (i : ℕ) → list_any test ps ≡ false → i < length ps → test (slice_index_or ps i 0) ≡ false
none_at test [] i h l = absurd (omega arith)
none_at test (p ∷ ps) zero h l = (or_parts (test p) (list_any test ps) h).0
none_at test (p ∷ ps) (suc i) h l = none_at test ps i (or_parts (test p) (list_any test ps) h).1 (omega arith)

record IsFree (k : Packing) (f : Fixed) (p : ℕ) : Type 0 where
  pub known : nat_lt p k.count ≡ true
  pub out : member p f.one ≡ false
  pub clear : list_any (k.clash p) f.one ≡ false

free_is : (k : Packing) (f : Fixed) (p : ℕ) → can_branch k f p ≡ true → IsFree k f p
free_is k f p h =
    let parts = and_parts (nat_lt p k.count) (is_free k f p) h in
    let free = and_parts (not (member p f.zero)) (not (member p f.one) && not (list_any (k.clash p) f.one)) parts.1 in
    let rest = and_parts (not (member p f.one)) (not (list_any (k.clash p) f.one)) free.1 in
    record { known = parts.0; out = not-true _ rest.0; clear = not-true _ rest.1 }

with_taken : (k : Packing) (f : Fixed) (p : ℕ) → IsSound k f → IsFree k f p → IsSound k (record { zero = f.zero; one = f.one ++ (p ∷ []) })
with_taken k f p sound free = record {
  zero = sound.zero;
  one = known_more k.count p f.one sound.one free.known;
  differ = λ i j l m e. elim (cases_lt j (length f.one)) [
    | inl before ↦ sound.differ i j l before (sym (get_or_append_left f.one (p ∷ []) 0 i (omega arith)) ∙ e ∙ get_or_append_left f.one (p ∷ []) 0 j before)
    | inr last ↦
        let at : length f.one ≡ j = omega (arith, length-append f.one (p ∷ [])) in
        not_there p f.one i free.out (omega arith) (sym (get_or_append_left f.one (p ∷ []) 0 i (omega arith)) ∙ e ∙ get_or_push f.one p 0 j at)
  ];
  apart = λ i j l m. elim (cases_lt j (length f.one)) [
    | inl before ↦
        subst (λ x. k.clash x (slice_index_or (f.one ++ (p ∷ [])) i 0) ≡ false) (sym (get_or_append_left f.one (p ∷ []) 0 j before))
        (subst (λ x. k.clash (slice_index_or f.one j 0) x ≡ false) (sym (get_or_append_left f.one (p ∷ []) 0 i (omega arith))) (sound.apart i j l before))
    | inr last ↦
        let at : length f.one ≡ j = omega (arith, length-append f.one (p ∷ [])) in
        subst (λ x. k.clash x (slice_index_or (f.one ++ (p ∷ [])) i 0) ≡ false) (sym (get_or_push f.one p 0 j at))
        (subst (λ x. k.clash p x ≡ false) (sym (get_or_append_left f.one (p ∷ []) 0 i (omega arith))) (none_at (k.clash p) f.one i free.clear (omega arith)))
  ];
}

with_left_out : (k : Packing) (f : Fixed) (p : ℕ) → IsSound k f → nat_lt p k.count ≡ true → IsSound k (record { zero = f.zero ++ (p ∷ []); one = f.one })
with_left_out k f p sound known = record { zero = known_more k.count p f.zero sound.zero known; one = sound.one; differ = sound.differ; apart = sound.apart }

path_sound : (k : Packing) (path : List Step) → is_path k path ≡ true → IsSound k (fixing_of path)
path_sound k [] h = record { zero = refl; one = refl; differ = λ i j l m e. absurd (omega arith); apart = λ i j l m. absurd (omega arith) }
path_sound k (b ∷ path) h =
    let parts = and_parts (can_branch k (fixing_of path) b.pattern) (is_path k path) h in
    go b.pattern b.inside (path_sound k path parts.1) (free_is k (fixing_of path) b.pattern parts.0)
  where
    go : (p : ℕ) (side : Bool) → IsSound k (fixing_of path) → IsFree k (fixing_of path) p → IsSound k (fixing_of (record { pattern = p; inside = side } ∷ path))
    go p true sound free = with_taken k (fixing_of path) p sound free
    go p false sound free = with_left_out k (fixing_of path) p sound free.known

pub walk_fixing : (k : Packing) (walk : Walk) → IsWalk k walk → IsFixingOf k walk.fixing
walk_fixing k walk h =
    let sound = subst (IsSound k) (sym h.fixing) (path_sound k (path_of walk.path) h.valid) in
    record { zero = sound.zero; one = sound.one }

pub walk_valid : (f : Facts) (walk : Walk) → IsWalk (packing f) walk → IsValidFixing (packing f) walk.fixing
walk_valid f walk h =
    let sound = subst (IsSound (packing f)) (sym h.fixing) (path_sound (packing f) (path_of walk.path) h.valid) in
    record {
      of_packing = record { zero = sound.zero; one = sound.one };
      differ = sound.differ;
      apart = λ i j l m. apart_back f (pattern_at (patterns_of f) (slice_index_or walk.fixing.one j 0)) (pattern_at (patterns_of f) (slice_index_or walk.fixing.one i 0)) (sound.apart i j l m);
    }
