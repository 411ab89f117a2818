-- What the measures that are read keep to, line after line.
use Rattle.std.proofs.Common.{ℕ, ℤ, pos, ◌≡◌, ◌≤◌, ◌+◌, ◌-◌, ◌++◌, Bool, true, false, cond, not, List, [], ◌∷◌, length, refl, ap, sym, ◌∙◌, arith, subst, suc, zero}
use Rattle.std.specs.Prelude.{◌&&◌, ◌==◌, nat_lt, nat_le, neg_ℤ, slice_get, slice_index, drop, Result, Ok, Err, bytes_eq}
use Rattle.std.specs.List.{list_all, list_any, position_or_len}
use Rattle.std.proofs.lemmas.Bool.{and_parts}
use Rattle.std.proofs.lemmas.Bool.Decides.{nat_tests}
use Rattle.std.proofs.lemmas.List.{length-map, length-append}
use Rattle.input_core.specs.Lines.{is_field}
use Rattle.input_core.specs.Rows.{unread, are_fields}
use Rattle.input_core.specs.Fields.{◌>>=◌, in_line, number_in, number_below, name_of, or_fault}
use Rattle.input_core.specs.declared.cursors.Row.{Row}
use Rattle.input_core.specs.declared.faults.LineFault.{LineFault}
use Rattle.input_core.specs.declared.faults.LineKind.TheVariants.{Repeated, TooMany, Order, UnknownRoom}
use Rattle.input_core.proofs.ChainLemmas.{chained, ok-same, if-ok, then-ok, unless-ok, in_line-ok, number_in-ok, number_below-ok, or_fault-ok, both}
use Rattle.input_core.proofs.RowLemmas.{unread-are}
use Rattle.ctt_reader.specs.Names.{course_at, room_at, place_of, has_name, with_name}
use Rattle.ctt_reader.specs.Promised.{is_name, are_different}
use Rattle.ctt_reader.specs.declared.instance.Course.{Course}
use Rattle.ctt_reader.specs.declared.instance.Instance.{Instance}
use Rattle.ctt_reader.specs.declared.instance.Room.{Room}
use Rattle.ctt_reader.proofs.PromiseLemmas.{named, place_of-ok, course_at-ok}
use Rattle.ctt_reader.proofs.EntryLemmas.{all-more, or_parts, different-more}
use Rattle.measure_file.specs.Grammar.{known_of, no_measures, version_of, word_of, two_fields, three_fields, points_of, room_feature, course_feature, course_room, closure_of, preference_of, threshold_of, length_of, feature_number, same_pair, with_preference, is_above, with_threshold, same_course, with_length, entry, line_of, lines_from, file_of, measures_of}
use Rattle.measure_file.specs.Promised.{is_pair, is_triple, is_points, is_preference, is_threshold, is_length, all_pairs, other_pair, rises, other_course, AreMeasures}
use Rattle.measure_file.specs.declared.measures.Measures.{Measures}
use Rattle.measure_file.specs.declared.words.FileVersion.{FileVersion}
use Rattle.measure_file.specs.declared.words.Word.{Word}
use Rattle.measure_file.specs.declared.words.Word.TheVariants.{Has, Need, Deny, Closed, Prefer, Robust, Length}
use Rattle.measure_file.proofs.FeatureLemmas.{placed, at_end}

-- the fields of a line
two_fields-ok : (fields : List (List ℕ)) (f : List ℕ × List ℕ) → two_fields fields ≡ Ok f → fields ≡ f.0 ∷ f.1 ∷ []
two_fields-ok [] f e = cc
two_fields-ok (a ∷ []) f e = cc
two_fields-ok (a ∷ b ∷ []) f e = ap (λ (p : List ℕ × List ℕ). p.0 ∷ p.1 ∷ []) (ok-same (a, b) f e)
two_fields-ok (a ∷ b ∷ c ∷ more) f e = cc

second-good : (fields : List (List ℕ)) (f : List ℕ × List ℕ) → list_all is_field fields ≡ true → two_fields fields ≡ Ok f → is_field f.1 ≡ true
second-good fields f h e =
    let good : list_all is_field (f.0 ∷ f.1 ∷ []) ≡ true = subst (λ (x : List (List ℕ)). list_all is_field x ≡ true) (two_fields-ok fields f e) h in
    (and_parts (is_field f.1) true (and_parts (is_field f.0) (is_field f.1 && true) good).1).0

room_at-ok : (names : List (List ℕ)) (field : List ℕ) (k : ℕ) → room_at names field ≡ Ok k → nat_lt k (length names) ≡ true
room_at-ok names field k e =
    let c = chained (name_of field) (λ name. or_fault (place_of name names) UnknownRoom) k e in
    place_of-ok c.first names k (or_fault-ok (place_of c.first names) UnknownRoom k c.rest)

room-known : (i : Instance) (field : List ℕ) (k : ℕ) → room_at (known_of i).rooms field ≡ Ok k → nat_lt k (length i.rooms) ≡ true
room-known i field k e = ap (nat_lt k) (sym (length-map i.rooms (λ (x : Room). x.name))) ∙ room_at-ok (known_of i).rooms field k e

course-known : (i : Instance) (field : List ℕ) (k : ℕ) → course_at (known_of i).courses field ≡ Ok k → nat_lt k (length i.courses) ≡ true
course-known i field k e = ap (nat_lt k) (sym (length-map i.courses (λ (x : Course). x.name))) ∙ course_at-ok (known_of i).courses field k e

three : (a b c : Bool) → a ≡ true → b ≡ true → c ≡ true → (a && b && c) ≡ true
three a b c p q r = rw (p, q, r) refl

-- points are at most a million in size
positive : (n : ℕ) → nat_le n 1000000 ≡ true → is_points (pos n) ≡ true
positive n h = not_over (nat_lt 1000000 n) (over n h)
  where
    over : (n : ℕ) → nat_le n 1000000 ≡ true → nat_lt 1000000 n ≡ false
    over n h = grind (arith, nat_tests, h)

    not_over : (t : Bool) → t ≡ false → not t ≡ true
    not_over t e = rw e refl

negative : (n : ℕ) → nat_le n 1000000 ≡ true → is_points (neg_ℤ (pos n)) ≡ true
negative zero h = refl
negative (suc n) h = not_under (nat_lt 999999 n) (under n h)
  where
    under : (n : ℕ) → nat_le (suc n) 1000000 ≡ true → nat_lt 999999 n ≡ false
    under n h = grind (arith, nat_tests, h)

    not_under : (t : Bool) → t ≡ false → (not t && true) ≡ true
    not_under t e = rw e refl

points_of-ok : (field : List ℕ) (z : ℤ) → points_of field ≡ Ok z → is_points z ≡ true
points_of-ok field z e = by_case (slice_index field 0 == 45) e
  where
    by_case : (t : Bool) → cond t (number_in 0 1000000 (drop 1 field) >>= λ n. Ok (neg_ℤ (pos n))) (number_in 0 1000000 field >>= λ n. Ok (pos n)) ≡ Ok z → is_points z ≡ true
    by_case true e =
        let n = chained (number_in 0 1000000 (drop 1 field)) (λ n. Ok (neg_ℤ (pos n))) z e in
        ap is_points (sym (ok-same (neg_ℤ (pos n.first)) z n.rest)) ∙ negative n.first (number_in-ok 0 1000000 (drop 1 field) n.first n.is).1
    by_case false e =
        let n = chained (number_in 0 1000000 field) (λ n. Ok (pos n)) z e in
        ap is_points (sym (ok-same (pos n.first) z n.rest)) ∙ positive n.first (number_in-ok 0 1000000 field n.first n.is).1

-- what each kind of line says
room_feature-ok : (i : Instance) (fields : List (List ℕ)) (x : ℕ × List ℕ) → list_all is_field fields ≡ true → room_feature (known_of i) fields ≡ Ok x → (nat_lt x.0 (length i.rooms) ≡ true) × (is_name x.1 ≡ true)
room_feature-ok i fields x h e =
    let f = chained (two_fields fields) _ x e in
    let r = chained (room_at (known_of i).rooms f.first.0) _ x f.rest in
    let n = chained (name_of f.first.1) _ x r.rest in
    let same = ok-same (r.first, n.first) x n.rest in
    subst (λ (y : ℕ × List ℕ). (nat_lt y.0 (length i.rooms) ≡ true) × (is_name y.1 ≡ true)) same (room-known i f.first.0 r.first r.is, named f.first.1 n.first (second-good fields f.first h f.is) n.is)

course_feature-ok : (i : Instance) (fields : List (List ℕ)) (x : ℕ × List ℕ) → list_all is_field fields ≡ true → course_feature (known_of i) fields ≡ Ok x → (nat_lt x.0 (length i.courses) ≡ true) × (is_name x.1 ≡ true)
course_feature-ok i fields x h e =
    let f = chained (two_fields fields) _ x e in
    let c = chained (course_at (known_of i).courses f.first.0) _ x f.rest in
    let n = chained (name_of f.first.1) _ x c.rest in
    let same = ok-same (c.first, n.first) x n.rest in
    subst (λ (y : ℕ × List ℕ). (nat_lt y.0 (length i.courses) ≡ true) × (is_name y.1 ≡ true)) same (course-known i f.first.0 c.first c.is, named f.first.1 n.first (second-good fields f.first h f.is) n.is)

course_room-ok : (i : Instance) (fields : List (List ℕ)) (x : ℕ × ℕ) → course_room (known_of i) fields ≡ Ok x → is_pair (length i.courses) (length i.rooms) x ≡ true
course_room-ok i fields x e =
    let f = chained (two_fields fields) _ x e in
    let c = chained (course_at (known_of i).courses f.first.0) _ x f.rest in
    let r = chained (room_at (known_of i).rooms f.first.1) _ x c.rest in
    subst (λ (y : ℕ × ℕ). is_pair (length i.courses) (length i.rooms) y ≡ true) (ok-same (c.first, r.first) x r.rest)
    (both (nat_lt c.first (length i.courses)) (nat_lt r.first (length i.rooms)) (course-known i f.first.0 c.first c.is) (room-known i f.first.1 r.first r.is))

closure_of-ok : (i : Instance) (fields : List (List ℕ)) (x : ℕ × ℕ × ℕ) → closure_of (known_of i) fields ≡ Ok x → is_triple (length i.rooms) i.days i.periods x ≡ true
closure_of-ok i fields x e =
    let f = chained (three_fields fields) _ x e in
    let r = chained (room_at (known_of i).rooms f.first.0) _ x f.rest in
    let d = chained (number_below i.days f.first.1) _ x r.rest in
    let p = chained (number_below i.periods f.first.2) _ x d.rest in
    subst (λ (y : ℕ × ℕ × ℕ). is_triple (length i.rooms) i.days i.periods y ≡ true) (ok-same (r.first, d.first, p.first) x p.rest)
    (three (nat_lt r.first (length i.rooms)) (nat_lt d.first i.days) (nat_lt p.first i.periods) (room-known i f.first.0 r.first r.is) (number_below-ok i.days f.first.1 d.first d.is) (number_below-ok i.periods f.first.2 p.first p.is))

pub preference_of-ok : (i : Instance) (fields : List (List ℕ)) (x : ℕ × ℕ × ℤ) → preference_of (known_of i) fields ≡ Ok x → is_preference (length i.courses) (length i.rooms) x ≡ true
preference_of-ok i fields x e =
    let f = chained (three_fields fields) _ x e in
    let c = chained (course_at (known_of i).courses f.first.0) _ x f.rest in
    let r = chained (room_at (known_of i).rooms f.first.1) _ x c.rest in
    let z = chained (points_of f.first.2) _ x r.rest in
    subst (λ (y : ℕ × ℕ × ℤ). is_preference (length i.courses) (length i.rooms) y ≡ true) (ok-same (c.first, r.first, z.first) x z.rest)
    (three (nat_lt c.first (length i.courses)) (nat_lt r.first (length i.rooms)) (is_points z.first) (course-known i f.first.0 c.first c.is) (room-known i f.first.1 r.first r.is) (points_of-ok f.first.2 z.first z.is))

threshold_of-ok : (fields : List (List ℕ)) (x : ℕ × ℤ) → threshold_of fields ≡ Ok x → is_threshold x ≡ true
threshold_of-ok fields x e =
    let f = chained (two_fields fields) _ x e in
    let t = chained (number_in 0 1000 f.first.0) _ x f.rest in
    let z = chained (points_of f.first.1) _ x t.rest in
    subst (λ (y : ℕ × ℤ). is_threshold y ≡ true) (ok-same (t.first, z.first) x z.rest)
    (both (nat_le t.first 1000) (is_points z.first) (number_in-ok 0 1000 f.first.0 t.first t.is).1 (points_of-ok f.first.1 z.first z.is))

pub length_of-ok : (i : Instance) (fields : List (List ℕ)) (x : ℕ × ℕ) → length_of (known_of i) fields ≡ Ok x → is_length (length i.courses) x ≡ true
length_of-ok i fields x e =
    let f = chained (two_fields fields) _ x e in
    let c = chained (course_at (known_of i).courses f.first.0) _ x f.rest in
    let n = chained (number_in 1 48 f.first.1) _ x c.rest in
    let within = number_in-ok 1 48 f.first.1 n.first n.is in
    subst (λ (y : ℕ × ℕ). is_length (length i.courses) y ≡ true) (ok-same (c.first, n.first) x n.rest)
    (three (nat_lt c.first (length i.courses)) (nat_le 1 n.first) (nat_le n.first 48) (course-known i f.first.0 c.first c.is) within.0 within.1)

-- every two elements of a list with one more
all_pairs-more : {A : Type 0} (test : A → A → Bool) (xs : List A) (y : A) → all_pairs test xs ≡ true → list_all (λ x. test x y) xs ≡ true → all_pairs test (xs ++ y ∷ []) ≡ true
all_pairs-more test [] y h e = refl
all_pairs-more test (x ∷ xs) y h e =
    let p = and_parts (list_all (test x) xs) (all_pairs test xs) h in
    let q = and_parts (test x y) (list_all (λ z. test z y) xs) e in
    both (list_all (test x) (xs ++ y ∷ [])) (all_pairs test (xs ++ y ∷ [])) (all-more (test x) xs y p.0 q.0) (all_pairs-more test xs y p.1 q.1)

others : {A : Type 0} (same : A → A → Bool) → ((x y : A) → same x y ≡ same y x) → (xs : List A) (y : A) → list_any (same y) xs ≡ false → list_all (λ x. not (same x y)) xs ≡ true
others same exchanged [] y h = refl
others same exchanged (x ∷ xs) y h =
    let p = or_parts (same y x) (list_any (same y) xs) h in
    both (not (same x y)) (list_all (λ z. not (same z y)) xs) (ap not (exchanged x y ∙ p.0)) (others same exchanged xs y p.1)

equal-sym : (a b : ℕ) → (a == b) ≡ (b == a)
equal-sym a b = grind (arith, nat_tests)

pub same_pair-sym : (x y : ℕ × ℕ × ℤ) → same_pair x y ≡ same_pair y x
same_pair-sym x y = rw (equal-sym x.0 y.0, equal-sym x.1 y.1) refl

pub same_course-sym : (x y : ℕ × ℕ) → same_course x y ≡ same_course y x
same_course-sym x y = equal-sym x.0 y.0

-- what is above the last threshold is above all
lower : (a b c : ℕ) → nat_lt a b ≡ true → nat_lt b c ≡ true → nat_lt a c ≡ true
lower a b c h k = grind (arith, nat_tests, h, k)

above_all : (rows : List (ℕ × ℤ)) (y : ℕ × ℤ) → all_pairs rises rows ≡ true → is_above (slice_get rows (length rows - 1)) y.0 ≡ true → list_all (λ x. rises x y) rows ≡ true
above_all [] y h e = refl
above_all (x ∷ []) y h e = both (rises x y) true e refl
above_all (x ∷ z ∷ rows) y h e =
    let p = and_parts (list_all (rises x) (z ∷ rows)) (all_pairs rises (z ∷ rows)) h in
    let next = (and_parts (rises x z) (list_all (rises x) rows) p.0).0 in
    let at : length (x ∷ z ∷ rows) - 1 ≡ suc (length (z ∷ rows) - 1) = omega arith in
    let last : is_above (slice_get (z ∷ rows) (length (z ∷ rows) - 1)) y.0 ≡ true = ap (λ k. is_above (slice_get (x ∷ z ∷ rows) k) y.0) (sym at) ∙ e in
    let rest = above_all (z ∷ rows) y p.1 last in
    both (rises x y) (list_all (λ w. rises w y) (z ∷ rows)) (lower x.0 z.0 y.0 next (and_parts (rises z y) (list_all (λ w. rises w y) rows) rest).0) rest

-- a feature that was numbered
record IsNumbered (features new : List (List ℕ)) (k : ℕ) : Type 0 where
  few : length new ≤ 100
  names : list_all is_name new ≡ true
  different : are_different new ≡ true
  wider : length features ≤ length new
  below : nat_lt k (length new) ≡ true

grown : (n : ℕ) → nat_lt n (n + 1) ≡ true
grown n = grind (arith, nat_tests)

room : (n : ℕ) → nat_lt n 100 ≡ true → n + 1 ≤ 100
room n h = grind (arith, nat_tests, h)

feature-ok : (features : List (List ℕ)) (name : List ℕ) (k : ℕ) → length features ≤ 100 → list_all is_name features ≡ true → are_different features ≡ true → is_name name ≡ true → feature_number features name ≡ Ok k → IsNumbered features (with_name features name) k
feature-ok features name k few names differ good e =
    let at = if-ok (nat_lt (position_or_len (bytes_eq name) features) 100) (position_or_len (bytes_eq name) features) k (TooMany 100) e in
    by_case (has_name name features) refl at.0 at.1
  where
    by_case : (t : Bool) → has_name name features ≡ t → nat_lt (position_or_len (bytes_eq name) features) 100 ≡ true → position_or_len (bytes_eq name) features ≡ k → IsNumbered features (cond t features (features ++ name ∷ [])) k
    by_case true h low at = record {
      few = few;
      names = names;
      different = differ;
      wider = omega arith;
      below = ap (λ n. nat_lt n (length features)) (sym at) ∙ placed (bytes_eq name) features ∙ h;
    }
    by_case false h low at =
        let place : position_or_len (bytes_eq name) features ≡ length features = at_end (bytes_eq name) features h in
        let longer : length (features ++ name ∷ []) ≡ length features + 1 = length-append features (name ∷ []) in
        let space : length features + 1 ≤ 100 = room (length features) (ap (λ n. nat_lt n 100) (sym place) ∙ low) in
        record {
          few = omega (arith, longer, space);
          names = all-more is_name features name names good;
          different = different-more features name differ h;
          wider = omega (arith, longer);
          below = rw (longer, ← at, place) (grown (length features));
        }

-- more features may be named
wider : (m n o : ℕ) (x : ℕ × ℕ) → n ≤ o → is_pair m n x ≡ true → is_pair m o x ≡ true
wider m n o x l h =
    let p = and_parts (nat_lt x.0 m) (nat_lt x.1 n) h in
    both (nat_lt x.0 m) (nat_lt x.1 o) p.0 (further x.1 n o p.1 l)
  where
    further : (k n o : ℕ) → nat_lt k n ≡ true → n ≤ o → nat_lt k o ≡ true
    further k n o h l = grind (arith, nat_tests, h, l)

all-wider : (m n o : ℕ) (xs : List (ℕ × ℕ)) → n ≤ o → list_all (is_pair m n) xs ≡ true → list_all (is_pair m o) xs ≡ true
all-wider m n o [] l h = refl
all-wider m n o (x ∷ xs) l h =
    let p = and_parts (is_pair m n x) (list_all (is_pair m n) xs) h in
    both (is_pair m o x) (list_all (is_pair m o) xs) (wider m n o x l p.0) (all-wider m n o xs l p.1)

has-ok : (i : Instance) (m n : Measures) (fields : List (List ℕ)) → list_all is_field fields ≡ true → AreMeasures i m → entry (known_of i) m Has fields ≡ Ok n → AreMeasures i n
has-ok i m n fields h old e =
    let x = chained (room_feature (known_of i) fields) _ n e in
    let k = chained (feature_number m.features x.first.1) _ n x.rest in
    let is = ok-same _ n k.rest in
    let good = room_feature-ok i fields x.first h x.is in
    let num = feature-ok m.features x.first.1 k.first old.few_features old.features old.different_features good.1 k.is in
    let new = with_name m.features x.first.1 in
    subst (λ (y : Measures). AreMeasures i y) is (record {
      few_features = num.few;
      features = num.names;
      different_features = num.different;
      has = all-more (is_pair (length i.rooms) (length new)) m.has (x.first.0, k.first) (all-wider (length i.rooms) (length m.features) (length new) m.has num.wider old.has) (both (nat_lt x.first.0 (length i.rooms)) (nat_lt k.first (length new)) good.0 num.below);
      needs = all-wider (length i.courses) (length m.features) (length new) m.needs num.wider old.needs;
      denied = old.denied;
      closed = old.closed;
      prefer = old.prefer;
      one_preference = old.one_preference;
      few_thresholds = old.few_thresholds;
      robust = old.robust;
      rising = old.rising;
      lengths = old.lengths;
      one_length = old.one_length;
    })

need-ok : (i : Instance) (m n : Measures) (fields : List (List ℕ)) → list_all is_field fields ≡ true → AreMeasures i m → entry (known_of i) m Need fields ≡ Ok n → AreMeasures i n
need-ok i m n fields h old e =
    let x = chained (course_feature (known_of i) fields) _ n e in
    let k = chained (feature_number m.features x.first.1) _ n x.rest in
    let is = ok-same _ n k.rest in
    let good = course_feature-ok i fields x.first h x.is in
    let num = feature-ok m.features x.first.1 k.first old.few_features old.features old.different_features good.1 k.is in
    let new = with_name m.features x.first.1 in
    subst (λ (y : Measures). AreMeasures i y) is (record {
      few_features = num.few;
      features = num.names;
      different_features = num.different;
      has = all-wider (length i.rooms) (length m.features) (length new) m.has num.wider old.has;
      needs = all-more (is_pair (length i.courses) (length new)) m.needs (x.first.0, k.first) (all-wider (length i.courses) (length m.features) (length new) m.needs num.wider old.needs) (both (nat_lt x.first.0 (length i.courses)) (nat_lt k.first (length new)) good.0 num.below);
      denied = old.denied;
      closed = old.closed;
      prefer = old.prefer;
      one_preference = old.one_preference;
      few_thresholds = old.few_thresholds;
      robust = old.robust;
      rising = old.rising;
      lengths = old.lengths;
      one_length = old.one_length;
    })

deny-ok : (i : Instance) (m n : Measures) (fields : List (List ℕ)) → list_all is_field fields ≡ true → AreMeasures i m → entry (known_of i) m Deny fields ≡ Ok n → AreMeasures i n
deny-ok i m n fields h old e =
    let x = chained (course_room (known_of i) fields) _ n e in
    let is = ok-same _ n x.rest in
    subst (λ (y : Measures). AreMeasures i y) is (record {
      few_features = old.few_features;
      features = old.features;
      different_features = old.different_features;
      has = old.has;
      needs = old.needs;
      denied = all-more (is_pair (length i.courses) (length i.rooms)) m.denied x.first old.denied (course_room-ok i fields x.first x.is);
      closed = old.closed;
      prefer = old.prefer;
      one_preference = old.one_preference;
      few_thresholds = old.few_thresholds;
      robust = old.robust;
      rising = old.rising;
      lengths = old.lengths;
      one_length = old.one_length;
    })

closed-ok : (i : Instance) (m n : Measures) (fields : List (List ℕ)) → list_all is_field fields ≡ true → AreMeasures i m → entry (known_of i) m Closed fields ≡ Ok n → AreMeasures i n
closed-ok i m n fields h old e =
    let x = chained (closure_of (known_of i) fields) _ n e in
    let is = ok-same _ n x.rest in
    subst (λ (y : Measures). AreMeasures i y) is (record {
      few_features = old.few_features;
      features = old.features;
      different_features = old.different_features;
      has = old.has;
      needs = old.needs;
      denied = old.denied;
      closed = all-more (is_triple (length i.rooms) i.days i.periods) m.closed x.first old.closed (closure_of-ok i fields x.first x.is);
      prefer = old.prefer;
      one_preference = old.one_preference;
      few_thresholds = old.few_thresholds;
      robust = old.robust;
      rising = old.rising;
      lengths = old.lengths;
      one_length = old.one_length;
    })

prefer-ok : (i : Instance) (m n : Measures) (fields : List (List ℕ)) → list_all is_field fields ≡ true → AreMeasures i m → entry (known_of i) m Prefer fields ≡ Ok n → AreMeasures i n
prefer-ok i m n fields h old e =
    let x = chained (preference_of (known_of i) fields) _ n e in
    let r = chained (with_preference m.prefer x.first) _ n x.rest in
    let t = unless-ok (list_any (same_pair x.first) m.prefer) (m.prefer ++ x.first ∷ []) r.first Repeated r.is in
    let is = ap (λ (rows : List (ℕ × ℕ × ℤ)). record m { prefer = rows }) t.1 ∙ ok-same (record m { prefer = r.first }) n r.rest in
    subst (λ (y : Measures). AreMeasures i y) is (record {
      few_features = old.few_features;
      features = old.features;
      different_features = old.different_features;
      has = old.has;
      needs = old.needs;
      denied = old.denied;
      closed = old.closed;
      prefer = all-more (is_preference (length i.courses) (length i.rooms)) m.prefer x.first old.prefer (preference_of-ok i fields x.first x.is);
      one_preference = all_pairs-more other_pair m.prefer x.first old.one_preference (others same_pair same_pair-sym m.prefer x.first t.0);
      few_thresholds = old.few_thresholds;
      robust = old.robust;
      rising = old.rising;
      lengths = old.lengths;
      one_length = old.one_length;
    })

robust-ok : (i : Instance) (m n : Measures) (fields : List (List ℕ)) → list_all is_field fields ≡ true → AreMeasures i m → entry (known_of i) m Robust fields ≡ Ok n → AreMeasures i n
robust-ok i m n fields h old e =
    let x = chained (threshold_of fields) _ n e in
    let r = chained (with_threshold m.robust x.first) _ n x.rest in
    let t = then-ok (nat_lt (length m.robust) 100) (cond (is_above (slice_get m.robust (length m.robust - 1)) x.first.0) (Ok (m.robust ++ x.first ∷ [])) (Err Order)) r.first (TooMany 100) r.is in
    let u = if-ok (is_above (slice_get m.robust (length m.robust - 1)) x.first.0) (m.robust ++ x.first ∷ []) r.first Order t.1 in
    let is = ap (λ (rows : List (ℕ × ℤ)). record m { robust = rows }) u.1 ∙ ok-same (record m { robust = r.first }) n r.rest in
    subst (λ (y : Measures). AreMeasures i y) is (record {
      few_features = old.few_features;
      features = old.features;
      different_features = old.different_features;
      has = old.has;
      needs = old.needs;
      denied = old.denied;
      closed = old.closed;
      prefer = old.prefer;
      one_preference = old.one_preference;
      few_thresholds = rw (length-append m.robust (x.first ∷ [])) (room (length m.robust) t.0);
      robust = all-more is_threshold m.robust x.first old.robust (threshold_of-ok fields x.first x.is);
      rising = all_pairs-more rises m.robust x.first old.rising (above_all m.robust x.first old.rising u.0);
      lengths = old.lengths;
      one_length = old.one_length;
    })

length-ok : (i : Instance) (m n : Measures) (fields : List (List ℕ)) → list_all is_field fields ≡ true → AreMeasures i m → entry (known_of i) m Length fields ≡ Ok n → AreMeasures i n
length-ok i m n fields h old e =
    let x = chained (length_of (known_of i) fields) _ n e in
    let r = chained (with_length m.lengths x.first) _ n x.rest in
    let t = unless-ok (list_any (same_course x.first) m.lengths) (m.lengths ++ x.first ∷ []) r.first Repeated r.is in
    let is = ap (λ (rows : List (ℕ × ℕ)). record m { lengths = rows }) t.1 ∙ ok-same (record m { lengths = r.first }) n r.rest in
    subst (λ (y : Measures). AreMeasures i y) is (record {
      few_features = old.few_features;
      features = old.features;
      different_features = old.different_features;
      has = old.has;
      needs = old.needs;
      denied = old.denied;
      closed = old.closed;
      prefer = old.prefer;
      one_preference = old.one_preference;
      few_thresholds = old.few_thresholds;
      robust = old.robust;
      rising = old.rising;
      lengths = all-more (is_length (length i.courses)) m.lengths x.first old.lengths (length_of-ok i fields x.first x.is);
      one_length = all_pairs-more other_course m.lengths x.first old.one_length (others same_course same_course-sym m.lengths x.first t.0);
    })

entry-ok : (i : Instance) (m n : Measures) (word : Word) (fields : List (List ℕ)) → list_all is_field fields ≡ true → AreMeasures i m → entry (known_of i) m word fields ≡ Ok n → AreMeasures i n
entry-ok i m n Has fields h old e = has-ok i m n fields h old e
entry-ok i m n Need fields h old e = need-ok i m n fields h old e
entry-ok i m n Deny fields h old e = deny-ok i m n fields h old e
entry-ok i m n Closed fields h old e = closed-ok i m n fields h old e
entry-ok i m n Prefer fields h old e = prefer-ok i m n fields h old e
entry-ok i m n Robust fields h old e = robust-ok i m n fields h old e
entry-ok i m n Length fields h old e = length-ok i m n fields h old e

line_of-ok : (i : Instance) (version : FileVersion) (m n : Measures) (fields : List (List ℕ)) → list_all is_field fields ≡ true → AreMeasures i m → line_of (known_of i) version m fields ≡ Ok n → AreMeasures i n
line_of-ok i version m n [] h old e = cc
line_of-ok i version m n (word ∷ fields) h old e =
    let w = chained (word_of version word) (λ w. entry (known_of i) m w fields) n e in
    entry-ok i m n w.first fields (and_parts (is_field word) (list_all is_field fields) h).1 old w.rest

lines_from-ok : (i : Instance) (version : FileVersion) (m n : Measures) (rows : List (Result Row LineFault)) → list_all are_fields rows ≡ true → AreMeasures i m → lines_from (known_of i) version m rows ≡ Ok n → AreMeasures i n
lines_from-ok i version m n [] h old e = subst (λ (y : Measures). AreMeasures i y) (ok-same m n e) old
lines_from-ok i version m n (Err fault ∷ rows) h old e = cc
lines_from-ok i version m n (Ok row ∷ rows) h old e =
    let p = and_parts (list_all is_field row.fields) (list_all are_fields rows) h in
    let k = chained (in_line row.line (line_of (known_of i) version m row.fields)) (λ x. lines_from (known_of i) version x rows) n e in
    lines_from-ok i version k.first n rows p.1 (line_of-ok i version m k.first row.fields p.0 old (in_line-ok row.line (line_of (known_of i) version m row.fields) k.first k.is)) k.rest

pub AreMeasures-none : (i : Instance) → AreMeasures i no_measures
AreMeasures-none i = record {
  few_features = omega arith;
  features = refl;
  different_features = refl;
  has = refl;
  needs = refl;
  denied = refl;
  closed = refl;
  prefer = refl;
  one_preference = refl;
  few_thresholds = omega arith;
  robust = refl;
  rising = refl;
  lengths = refl;
  one_length = refl;
}

file_of-ok : (i : Instance) (m : Measures) (rows : List (Result Row LineFault)) → list_all are_fields rows ≡ true → file_of (known_of i) rows ≡ Ok m → AreMeasures i m
file_of-ok i m [] h e = subst (λ (y : Measures). AreMeasures i y) (ok-same no_measures m e) (AreMeasures-none i)
file_of-ok i m (Err fault ∷ rows) h e = cc
file_of-ok i m (Ok row ∷ rows) h e =
    let k = chained (in_line row.line (version_of row.fields)) (λ version. lines_from (known_of i) version no_measures rows) m e in
    lines_from-ok i k.first no_measures m rows (and_parts (list_all is_field row.fields) (list_all are_fields rows) h).1 (AreMeasures-none i) k.rest

-- what is read keeps to what is promised
pub measures_of-ok : (i : Instance) (bytes : List ℕ) (m : Measures) → measures_of i bytes ≡ Ok m → AreMeasures i m
measures_of-ok i bytes m e = file_of-ok i m (unread bytes).rows (unread-are bytes) e
