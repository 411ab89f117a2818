-- The text that is written is read to the measures that it was written for.
use Rattle.std.proofs.Common.{ℕ, ℤ, ◌≡◌, ◌≤◌, ◌<◌, ◌+◌, ◌-◌, ◌++◌, Bool, true, false, cond, not, max, List, [], ◌∷◌, length, take, map, refl, ap, sym, ◌∙◌, arith, suc, append_assoc}
use Rattle.std.specs.Prelude.{◌&&◌, ◌==◌, nat_lt, nat_le, slice_get, Option, Some, None, Result, Ok, codes, decimal}
use Rattle.std.specs.Fmt.{signed_decimal}
use Rattle.std.specs.List.{list_all, list_any}
use Rattle.std.proofs.lemmas.Bool.{and_parts, not-true, ne_eqb}
use Rattle.std.proofs.lemmas.Bool.Decides.{nat_tests}
use Rattle.std.proofs.lemmas.List.{length-map, length-append, append-nil}
use Rattle.std.proofs.lemmas.List.Folds.{list_all-append}
use Rattle.std.proofs.Math.Seq.{take-length}
use Rattle.input_core.specs.Lines.{is_field}
use Rattle.input_core.specs.Rows.{Unread}
use Rattle.input_core.specs.Fields.{◌>>=◌, in_line, name_of, number_in, number_below}
use Rattle.input_core.proofs.ChainLemmas.{both}
use Rattle.text_lines.specs.Written.{written, rows_of}
use Rattle.text_lines.proofs.ReadBack.{unread-written, decimal-is_field}
use Rattle.ctt_reader.specs.Names.{course_at, room_at, with_name}
use Rattle.ctt_reader.specs.Entries.{course_names, room_names}
use Rattle.ctt_reader.specs.Promised.{is_name, are_different, IsInstance}
use Rattle.ctt_reader.specs.declared.instance.Course.{Course}
use Rattle.ctt_reader.specs.declared.instance.Instance.{Instance}
use Rattle.ctt_reader.specs.declared.instance.Room.{Room}
use Rattle.measure_file.specs.Grammar.{known_of, no_measures, version_of, entry, line_of, lines_from, file_of, measures_of, points_of, feature_number, same_pair, is_above, same_course}
use Rattle.measure_file.specs.Promised.{is_pair, is_triple, is_points, is_preference, is_threshold, is_length, all_pairs, other_pair, rises, other_course, AreMeasures}
use Rattle.measure_file.specs.Writing.{name_at, has_line, need_line, deny_line, closed_line, prefer_line, robust_line, length_line, version_line, entry_lines, lists_nothing, text_of, counted, ends_at, counts_to, AreNumberedAsWritten}
use Rattle.measure_file.specs.declared.known.Known.{Known}
use Rattle.measure_file.specs.declared.measures.Measures.{Measures}
use Rattle.measure_file.specs.declared.words.FileVersion.{FileVersion}
use Rattle.measure_file.specs.declared.words.FileVersion.TheVariants.{One, Two}
use Rattle.measure_file.specs.declared.words.Word.TheVariants.{Has, Need, Deny, Closed, Prefer, Robust, Length}
use Rattle.measure_file.proofs.MeasureLemmas.{same_pair-sym, same_course-sym}
use Rattle.measure_file.proofs.ReadBackLemmas.{all-map, at, name-is_field, name_of-name, course_at-name, room_at-name, number_in-decimal, number_below-decimal, points_of-signed_decimal, signed_decimal-is_field, courses-named, rooms-named, feature-named}

-- what the names and measures that are written keep to
record AreGood (i : Instance) (m : Measures) : Type 0 where
  measures : AreMeasures i m
  courses : list_all is_name (course_names i.courses) ≡ true
  rooms : list_all is_name (room_names i.rooms) ≡ true
  other_courses : are_different (course_names i.courses) ≡ true
  other_rooms : are_different (room_names i.rooms) ≡ true
  few_days : i.days ≤ 14
  few_periods : i.periods ≤ 48

under : (k n : ℕ) → nat_lt k n ≡ true → k < n
under k n h = grind (arith, nat_tests, h)

most : (k n : ℕ) → nat_le k n ≡ true → k ≤ n
most k n h = grind (arith, nat_tests, h)

course-under : (i : Instance) (k : ℕ) → nat_lt k (length i.courses) ≡ true → k < length (course_names i.courses)
course-under i k h = let l = under k (length i.courses) h in omega (arith, l, length-map i.courses (λ (c : Course). c.name))

room-under : (i : Instance) (k : ℕ) → nat_lt k (length i.rooms) ≡ true → k < length (room_names i.rooms)
room-under i k h = let l = under k (length i.rooms) h in omega (arith, l, length-map i.rooms (λ (r : Room). r.name))

-- a course, a room and a feature, by name
course-read : (i : Instance) (m : Measures) (k : ℕ) → AreGood i m → nat_lt k (length i.courses) ≡ true → course_at (course_names i.courses) (name_at (course_names i.courses) k) ≡ Ok k
course-read i m k g h = course_at-name (course_names i.courses) k g.courses g.other_courses (course-under i k h)

room-read : (i : Instance) (m : Measures) (k : ℕ) → AreGood i m → nat_lt k (length i.rooms) ≡ true → room_at (room_names i.rooms) (name_at (room_names i.rooms) k) ≡ Ok k
room-read i m k g h = room_at-name (room_names i.rooms) k g.rooms g.other_rooms (room-under i k h)

course-field : (i : Instance) (m : Measures) (k : ℕ) → AreGood i m → nat_lt k (length i.courses) ≡ true → is_field (name_at (course_names i.courses) k) ≡ true
course-field i m k g h = name-is_field (name_at (course_names i.courses) k) (at is_name (course_names i.courses) k [] g.courses (course-under i k h))

room-field : (i : Instance) (m : Measures) (k : ℕ) → AreGood i m → nat_lt k (length i.rooms) ≡ true → is_field (name_at (room_names i.rooms) k) ≡ true
room-field i m k g h = name-is_field (name_at (room_names i.rooms) k) (at is_name (room_names i.rooms) k [] g.rooms (room-under i k h))

feature-name : (i : Instance) (m : Measures) (k : ℕ) → AreGood i m → nat_lt k (length m.features) ≡ true → is_name (name_at m.features k) ≡ true
feature-name i m k g h = at is_name m.features k [] g.measures.features (under k (length m.features) h)

feature-field : (i : Instance) (m : Measures) (k : ℕ) → AreGood i m → nat_lt k (length m.features) ≡ true → is_field (name_at m.features k) ≡ true
feature-field i m k g h = name-is_field (name_at m.features k) (feature-name i m k g h)

-- two and three numbers of a row
two : (a b : Bool) → (a && b) ≡ true → (a ≡ true) × (b ≡ true)
two a b h = and_parts a b h

three : (a b c : Bool) → (a && b && c) ≡ true → (a ≡ true) × (b ≡ true) × (c ≡ true)
three a b c h = let p = and_parts (a && b) c h in let q = and_parts a b p.0 in (q.0, q.1, p.1)

fields-2 : (word a b : List ℕ) → is_field word ≡ true → is_field a ≡ true → is_field b ≡ true → list_all is_field (word ∷ a ∷ b ∷ []) ≡ true
fields-2 word a b p q r = rw (p, q, r) refl

fields-3 : (word a b c : List ℕ) → is_field word ≡ true → is_field a ≡ true → is_field b ≡ true → is_field c ≡ true → list_all is_field (word ∷ a ∷ b ∷ c ∷ []) ≡ true
fields-3 word a b c p q r s = rw (p, q, r, s) refl

number-field : (n high : ℕ) → nat_lt n high ≡ true → high ≤ 2000000 → is_field (decimal n) ≡ true
number-field n high h l = let k = under n high h in decimal-is_field n (omega (arith, k, l))

-- every written line consists of fields
has-fields : (i : Instance) (m : Measures) → AreGood i m → (x : ℕ × ℕ) → is_pair (length i.rooms) (length m.features) x ≡ true → list_all is_field (has_line (room_names i.rooms) m.features x) ≡ true
has-fields i m g x h =
    let p = two (nat_lt x.0 (length i.rooms)) (nat_lt x.1 (length m.features)) h in
    fields-2 (codes "has") (name_at (room_names i.rooms) x.0) (name_at m.features x.1) refl (room-field i m x.0 g p.0) (feature-field i m x.1 g p.1)

need-fields : (i : Instance) (m : Measures) → AreGood i m → (x : ℕ × ℕ) → is_pair (length i.courses) (length m.features) x ≡ true → list_all is_field (need_line (course_names i.courses) m.features x) ≡ true
need-fields i m g x h =
    let p = two (nat_lt x.0 (length i.courses)) (nat_lt x.1 (length m.features)) h in
    fields-2 (codes "need") (name_at (course_names i.courses) x.0) (name_at m.features x.1) refl (course-field i m x.0 g p.0) (feature-field i m x.1 g p.1)

deny-fields : (i : Instance) (m : Measures) → AreGood i m → (x : ℕ × ℕ) → is_pair (length i.courses) (length i.rooms) x ≡ true → list_all is_field (deny_line (course_names i.courses) (room_names i.rooms) x) ≡ true
deny-fields i m g x h =
    let p = two (nat_lt x.0 (length i.courses)) (nat_lt x.1 (length i.rooms)) h in
    fields-2 (codes "deny") (name_at (course_names i.courses) x.0) (name_at (room_names i.rooms) x.1) refl (course-field i m x.0 g p.0) (room-field i m x.1 g p.1)

closed-fields : (i : Instance) (m : Measures) → AreGood i m → (x : ℕ × ℕ × ℕ) → is_triple (length i.rooms) i.days i.periods x ≡ true → list_all is_field (closed_line (room_names i.rooms) x) ≡ true
closed-fields i m g x h =
    let p = three (nat_lt x.0 (length i.rooms)) (nat_lt x.1 i.days) (nat_lt x.2 i.periods) h in
    fields-3 (codes "closed") (name_at (room_names i.rooms) x.0) (decimal x.1) (decimal x.2) refl (room-field i m x.0 g p.0)
    (number-field x.1 i.days p.1 (omega (arith, g.few_days))) (number-field x.2 i.periods p.2 (omega (arith, g.few_periods)))

prefer-fields : (i : Instance) (m : Measures) → AreGood i m → (x : ℕ × ℕ × ℤ) → is_preference (length i.courses) (length i.rooms) x ≡ true → list_all is_field (prefer_line (course_names i.courses) (room_names i.rooms) x) ≡ true
prefer-fields i m g x h =
    let p = three (nat_lt x.0 (length i.courses)) (nat_lt x.1 (length i.rooms)) (is_points x.2) h in
    fields-3 (codes "prefer") (name_at (course_names i.courses) x.0) (name_at (room_names i.rooms) x.1) (signed_decimal x.2) refl (course-field i m x.0 g p.0) (room-field i m x.1 g p.1) (signed_decimal-is_field x.2 p.2)

thousand : (n : ℕ) → nat_le n 1000 ≡ true → nat_lt n 1001 ≡ true
thousand n h = grind (arith, nat_tests, h)

robust-fields : (x : ℕ × ℤ) → is_threshold x ≡ true → list_all is_field (robust_line x) ≡ true
robust-fields x h =
    let p = two (nat_le x.0 1000) (is_points x.1) h in
    fields-2 (codes "robust") (decimal x.0) (signed_decimal x.1) refl (number-field x.0 1001 (thousand x.0 p.0) (omega arith)) (signed_decimal-is_field x.1 p.1)

one_day : (n : ℕ) → nat_le n 48 ≡ true → nat_lt n 49 ≡ true
one_day n h = grind (arith, nat_tests, h)

length-fields : (i : Instance) (m : Measures) → AreGood i m → (x : ℕ × ℕ) → is_length (length i.courses) x ≡ true → list_all is_field (length_line (course_names i.courses) x) ≡ true
length-fields i m g x h =
    let p = three (nat_lt x.0 (length i.courses)) (nat_le 1 x.1) (nat_le x.1 48) h in
    fields-2 (codes "length") (name_at (course_names i.courses) x.0) (decimal x.1) refl (course-field i m x.0 g p.0) (number-field x.1 49 (one_day x.1 p.2) (omega arith))

all-append : (xs ys : List (List (List ℕ))) → list_all (list_all is_field) xs ≡ true → list_all (list_all is_field) ys ≡ true → list_all (list_all is_field) (xs ++ ys) ≡ true
all-append xs ys h k = list_all-append (list_all is_field) xs ys ∙ both (list_all (list_all is_field) xs) (list_all (list_all is_field) ys) h k

entries-are_fields : (i : Instance) (m : Measures) → AreGood i m → list_all (list_all is_field) (entry_lines (course_names i.courses) (room_names i.rooms) m) ≡ true
entries-are_fields i m g =
    let courses = course_names i.courses in
    let rooms = room_names i.rooms in
    all-append (map (has_line rooms m.features) m.has) _ (all-map (has_line rooms m.features) (list_all is_field) (is_pair (length i.rooms) (length m.features)) (has-fields i m g) m.has g.measures.has)
    (all-append (map (need_line courses m.features) m.needs) _ (all-map (need_line courses m.features) (list_all is_field) (is_pair (length i.courses) (length m.features)) (need-fields i m g) m.needs g.measures.needs)
    (all-append (map (deny_line courses rooms) m.denied) _ (all-map (deny_line courses rooms) (list_all is_field) (is_pair (length i.courses) (length i.rooms)) (deny-fields i m g) m.denied g.measures.denied)
    (all-append (map (closed_line rooms) m.closed) _ (all-map (closed_line rooms) (list_all is_field) (is_triple (length i.rooms) i.days i.periods) (closed-fields i m g) m.closed g.measures.closed)
    (all-append (map (prefer_line courses rooms) m.prefer) _ (all-map (prefer_line courses rooms) (list_all is_field) (is_preference (length i.courses) (length i.rooms)) (prefer-fields i m g) m.prefer g.measures.prefer)
    (all-append (map robust_line m.robust) _ (all-map robust_line (list_all is_field) is_threshold robust-fields m.robust g.measures.robust)
    (all-map (length_line courses) (list_all is_field) (is_length (length i.courses)) (length-fields i m g) m.lengths g.measures.lengths))))))

-- lines of one kind are read one after the other
read-rows : {A : Type 0} (known : Known) (v : FileVersion) (word : List ℕ) (args : A → List (List ℕ)) (put : List A → Measures) (whole : List A)
    → ((before : List A) (x : A) (after : List A) → before ++ x ∷ after ≡ whole → line_of known v (put before) (word ∷ args x) ≡ Ok (put (before ++ x ∷ [])))
    → (before rows : List A) (n : ℕ) (rest : List (List (List ℕ))) → before ++ rows ≡ whole
    → lines_from known v (put before) (rows_of n (map (λ x. word ∷ args x) rows ++ rest)) ≡ lines_from known v (put whole) (rows_of (n + length rows) rest)
read-rows known v word args put whole line before [] n rest e =
    let all : before ≡ whole = sym (append-nil before) ∙ e in
    let count : n ≡ n + 0 = omega arith in
    ap (λ xs. lines_from known v (put xs) (rows_of n rest)) all ∙ ap (λ k. lines_from known v (put whole) (rows_of k rest)) count
read-rows known v word args put whole line before (x ∷ rows) n rest e =
    let count : n + 1 + length rows ≡ n + length (x ∷ rows) = omega arith in
    ap (λ (r : Result Measures _). in_line n r >>= λ m. lines_from known v m (rows_of (n + 1) (map (λ x. word ∷ args x) rows ++ rest))) (line before x rows e)
    ∙ read-rows known v word args put whole line (before ++ x ∷ []) rows (n + 1) rest (append_assoc before (x ∷ []) rows ∙ e)
    ∙ ap (λ k. lines_from known v (put whole) (rows_of k rest)) count

middle : {A : Type 0} (test : A → Bool) (before : List A) (x : A) (after whole : List A) → before ++ x ∷ after ≡ whole → list_all test whole ≡ true → test x ≡ true
middle test before x after whole e h = go test before x after (ap (list_all test) e ∙ h)
  where
    go : {A : Type 0} (test : A → Bool) (before : List A) (x : A) (after : List A) → list_all test (before ++ x ∷ after) ≡ true → test x ≡ true
    go test [] x after h = (and_parts (test x) (list_all test after) h).0
    go test (y ∷ before) x after h = go test before x after (and_parts (test y) (list_all test (before ++ x ∷ after)) h).1

middle-pairs : {A : Type 0} (test : A → A → Bool) (before : List A) (x : A) (after whole : List A) → before ++ x ∷ after ≡ whole → all_pairs test whole ≡ true → list_all (λ y. test y x) before ≡ true
middle-pairs test before x after whole e h = go test before x after (ap (all_pairs test) e ∙ h)
  where
    go : {A : Type 0} (test : A → A → Bool) (before : List A) (x : A) (after : List A) → all_pairs test (before ++ x ∷ after) ≡ true → list_all (λ y. test y x) before ≡ true
    go test [] x after h = refl
    go test (y ∷ before) x after h =
        let p = and_parts (list_all (test y) (before ++ x ∷ after)) (all_pairs test (before ++ x ∷ after)) h in
        both (test y x) (list_all (λ z. test z x) before) (middle (test y) before x after (before ++ x ∷ after) refl p.0) (go test before x after p.1)

-- what is listed so far, while the lines of one kind are read; features are those that have appeared
abbrev seen : ℕ → List (ℕ × ℕ) → ℕ
seen n [] = n
seen n (x ∷ rows) = seen (max n (x.1 + 1)) rows

seen-more : (n : ℕ) (rows : List (ℕ × ℕ)) (x : ℕ × ℕ) → seen n (rows ++ x ∷ []) ≡ max (seen n rows) (x.1 + 1)
seen-more n [] x = refl
seen-more n (y ∷ rows) x = seen-more (max n (y.1 + 1)) rows x

seen-le : (n high m : ℕ) (rows : List (ℕ × ℕ)) → n ≤ high → list_all (is_pair m high) rows ≡ true → seen n rows ≤ high
seen-le n high m [] l h = l
seen-le n high m (x ∷ rows) l h =
    let p = and_parts (is_pair m high x) (list_all (is_pair m high) rows) h in
    let k = under x.1 high (two (nat_lt x.0 m) (nat_lt x.1 high) p.0).1 in
    seen-le (max n (x.1 + 1)) high m rows (omega (arith, l, k)) p.1

if-some : (t : Bool) (o : Option ℕ) (total : ℕ) → cond t o None ≡ Some total → (t ≡ true) × (o ≡ Some total)
if-some true o total e = (refl, e)
if-some false o total e = cc

counted-is : (n : ℕ) (rows : List (ℕ × ℕ)) (total : ℕ) → counted n rows ≡ Some total → seen n rows ≡ total
counted-is n [] total e = cc
counted-is n (x ∷ rows) total e = counted-is (max n (x.1 + 1)) rows total (if-some (nat_le x.1 n) (counted (max n (x.1 + 1)) rows) total e).1

counted-at : (n : ℕ) (before : List (ℕ × ℕ)) (x : ℕ × ℕ) (after : List (ℕ × ℕ)) (total : ℕ) → counted n (before ++ x ∷ after) ≡ Some total → x.1 ≤ seen n before
counted-at n [] x after total e = most x.1 n (if-some (nat_le x.1 n) (counted (max n (x.1 + 1)) after) total e).0
counted-at n (y ∷ before) x after total e = counted-at (max n (y.1 + 1)) before x after total (if-some (nat_le y.1 n) (counted (max n (y.1 + 1)) (before ++ x ∷ after)) total e).1

ends-ok : (o : Option ℕ) (total : ℕ) → ends_at o total ≡ true → o ≡ Some total
ends-ok None total e = cc
ends-ok (Some n) total e = ap Some (equal_of n total e)
  where
    equal_of : (a b : ℕ) → (a == b) ≡ true → a ≡ b
    equal_of a b h = grind (arith, nat_tests, h)

-- the counts of features after the two kinds of lines that name them
record IsCounted (m : Measures) : Type 0 where
  first : ℕ
  has : counted 0 m.has ≡ Some first
  needs : counted (seen 0 m.has) m.needs ≡ Some (length m.features)

counts-ok : (m : Measures) (o : Option ℕ) → counted 0 m.has ≡ o → counts_to o m.needs (length m.features) ≡ true → IsCounted m
counts-ok m None h e = cc
counts-ok m (Some n) h e = record { first = n; has = h; needs = ap (λ k. counted k m.needs) (counted-is 0 m.has n h) ∙ ends-ok (counted n m.needs) (length m.features) e }

front : {A : Type 0} (test : A → Bool) (before after whole : List A) → before ++ after ≡ whole → list_all test whole ≡ true → list_all test before ≡ true
front test before after whole e h = (and_parts (list_all test before) (list_all test after) (sym (list_all-append test before after) ∙ ap (list_all test) e ∙ h)).0

abbrev after_has : Measures → List (ℕ × ℕ) → Measures
after_has m rows = record { features = take (seen 0 rows) m.features; has = rows; needs = []; denied = []; closed = []; prefer = []; robust = []; lengths = [] }

abbrev after_needs : Measures → List (ℕ × ℕ) → Measures
after_needs m rows = record { features = take (seen (seen 0 m.has) rows) m.features; has = m.has; needs = rows; denied = []; closed = []; prefer = []; robust = []; lengths = [] }

abbrev after_denied : Measures → List (ℕ × ℕ) → Measures
after_denied m rows = record { features = m.features; has = m.has; needs = m.needs; denied = rows; closed = []; prefer = []; robust = []; lengths = [] }

abbrev after_closed : Measures → List (ℕ × ℕ × ℕ) → Measures
after_closed m rows = record { features = m.features; has = m.has; needs = m.needs; denied = m.denied; closed = rows; prefer = []; robust = []; lengths = [] }

abbrev after_prefer : Measures → List (ℕ × ℕ × ℤ) → Measures
after_prefer m rows = record { features = m.features; has = m.has; needs = m.needs; denied = m.denied; closed = m.closed; prefer = rows; robust = []; lengths = [] }

abbrev after_robust : Measures → List (ℕ × ℤ) → Measures
after_robust m rows = record { features = m.features; has = m.has; needs = m.needs; denied = m.denied; closed = m.closed; prefer = m.prefer; robust = rows; lengths = [] }

abbrev after_lengths : Measures → List (ℕ × ℕ) → Measures
after_lengths m rows = record { features = m.features; has = m.has; needs = m.needs; denied = m.denied; closed = m.closed; prefer = m.prefer; robust = m.robust; lengths = rows }

-- one line of each kind
has-step : (known : Known) (m : Measures) (a b : List ℕ) (r f : ℕ) → room_at known.rooms a ≡ Ok r → name_of b ≡ Ok b → feature_number m.features b ≡ Ok f
    → entry known m Has (a ∷ b ∷ []) ≡ Ok (record m { features = with_name m.features b; has = m.has ++ (r, f) ∷ [] })
has-step known m a b r f p q t = rw (p, q, t) refl

need-step : (known : Known) (m : Measures) (a b : List ℕ) (c f : ℕ) → course_at known.courses a ≡ Ok c → name_of b ≡ Ok b → feature_number m.features b ≡ Ok f
    → entry known m Need (a ∷ b ∷ []) ≡ Ok (record m { features = with_name m.features b; needs = m.needs ++ (c, f) ∷ [] })
need-step known m a b c f p q t = rw (p, q, t) refl

deny-step : (known : Known) (m : Measures) (a b : List ℕ) (c r : ℕ) → course_at known.courses a ≡ Ok c → room_at known.rooms b ≡ Ok r → entry known m Deny (a ∷ b ∷ []) ≡ Ok (record m { denied = m.denied ++ (c, r) ∷ [] })
deny-step known m a b c r p q = rw (p, q) refl

closed-step : (known : Known) (m : Measures) (a d p : List ℕ) (r day period : ℕ) → room_at known.rooms a ≡ Ok r → number_below known.days d ≡ Ok day → number_below known.periods p ≡ Ok period
    → entry known m Closed (a ∷ d ∷ p ∷ []) ≡ Ok (record m { closed = m.closed ++ (r, day, period) ∷ [] })
closed-step known m a d p r day period e f h = rw (e, f, h) refl

prefer-step : (known : Known) (m : Measures) (a b p : List ℕ) (c r : ℕ) (z : ℤ) → course_at known.courses a ≡ Ok c → room_at known.rooms b ≡ Ok r → points_of p ≡ Ok z → list_any (same_pair (c, r, z)) m.prefer ≡ false
    → entry known m Prefer (a ∷ b ∷ p ∷ []) ≡ Ok (record m { prefer = m.prefer ++ (c, r, z) ∷ [] })
prefer-step known m a b p c r z e f h new = rw (e, f, h, new) refl

robust-step : (known : Known) (m : Measures) (a p : List ℕ) (t : ℕ) (z : ℤ) → number_in 0 1000 a ≡ Ok t → points_of p ≡ Ok z → nat_lt (length m.robust) 100 ≡ true → is_above (slice_get m.robust (length m.robust - 1)) t ≡ true
    → entry known m Robust (a ∷ p ∷ []) ≡ Ok (record m { robust = m.robust ++ (t, z) ∷ [] })
robust-step known m a p t z e f few above = rw (e, f, few, above) refl

length-step : (known : Known) (m : Measures) (a p : List ℕ) (c n : ℕ) → course_at known.courses a ≡ Ok c → number_in 1 48 p ≡ Ok n → list_any (same_course (c, n)) m.lengths ≡ false
    → entry known m Length (a ∷ p ∷ []) ≡ Ok (record m { lengths = m.lengths ++ (c, n) ∷ [] })
length-step known m a p c n e f new = rw (e, f, new) refl

has-read : (i : Instance) (m : Measures) (v : FileVersion) → AreGood i m → IsCounted m → (before : List (ℕ × ℕ)) (x : ℕ × ℕ) (after : List (ℕ × ℕ)) → before ++ x ∷ after ≡ m.has
    → line_of (known_of i) v (after_has m before) (has_line (room_names i.rooms) m.features x) ≡ Ok (after_has m (before ++ x ∷ []))
has-read i m v g counts before x after e =
    let test = is_pair (length i.rooms) (length m.features) in
    let p = two (nat_lt x.0 (length i.rooms)) (nat_lt x.1 (length m.features)) (middle test before x after m.has e g.measures.has) in
    let s = seen 0 before in
    let low : s ≤ length m.features = seen-le 0 (length m.features) (length i.rooms) before (omega arith) (front test before (x ∷ after) m.has e g.measures.has) in
    let order : x.1 ≤ s = counted-at 0 before x after counts.first (ap (counted 0) e ∙ counts.has) in
    let f = feature-named m.features s x.1 g.measures.different_features g.measures.few_features low order (under x.1 (length m.features) p.1) in
    has-step (known_of i) (after_has m before) (name_at (room_names i.rooms) x.0) (name_at m.features x.1) x.0 x.1 (room-read i m x.0 g p.0) (name_of-name (name_at m.features x.1) (feature-name i m x.1 g p.1)) f.number
    ∙ ap (λ (fs : List (List ℕ)). Ok (record (after_has m (before ++ x ∷ [])) { features = fs })) (f.grown ∙ ap (λ k. take k m.features) (sym (seen-more 0 before x)))

need-read : (i : Instance) (m : Measures) (v : FileVersion) → AreGood i m → IsCounted m → (before : List (ℕ × ℕ)) (x : ℕ × ℕ) (after : List (ℕ × ℕ)) → before ++ x ∷ after ≡ m.needs
    → line_of (known_of i) v (after_needs m before) (need_line (course_names i.courses) m.features x) ≡ Ok (after_needs m (before ++ x ∷ []))
need-read i m v g counts before x after e =
    let test = is_pair (length i.courses) (length m.features) in
    let p = two (nat_lt x.0 (length i.courses)) (nat_lt x.1 (length m.features)) (middle test before x after m.needs e g.measures.needs) in
    let start = seen 0 m.has in
    let s = seen start before in
    let first : start ≤ length m.features = seen-le 0 (length m.features) (length i.rooms) m.has (omega arith) g.measures.has in
    let low : s ≤ length m.features = seen-le start (length m.features) (length i.courses) before first (front test before (x ∷ after) m.needs e g.measures.needs) in
    let order : x.1 ≤ s = counted-at start before x after (length m.features) (ap (counted start) e ∙ counts.needs) in
    let f = feature-named m.features s x.1 g.measures.different_features g.measures.few_features low order (under x.1 (length m.features) p.1) in
    need-step (known_of i) (after_needs m before) (name_at (course_names i.courses) x.0) (name_at m.features x.1) x.0 x.1 (course-read i m x.0 g p.0) (name_of-name (name_at m.features x.1) (feature-name i m x.1 g p.1)) f.number
    ∙ ap (λ (fs : List (List ℕ)). Ok (record (after_needs m (before ++ x ∷ [])) { features = fs })) (f.grown ∙ ap (λ k. take k m.features) (sym (seen-more start before x)))

deny-read : (i : Instance) (m : Measures) (v : FileVersion) → AreGood i m → (before : List (ℕ × ℕ)) (x : ℕ × ℕ) (after : List (ℕ × ℕ)) → before ++ x ∷ after ≡ m.denied
    → line_of (known_of i) v (after_denied m before) (deny_line (course_names i.courses) (room_names i.rooms) x) ≡ Ok (after_denied m (before ++ x ∷ []))
deny-read i m v g before x after e =
    let p = two (nat_lt x.0 (length i.courses)) (nat_lt x.1 (length i.rooms)) (middle (is_pair (length i.courses) (length i.rooms)) before x after m.denied e g.measures.denied) in
    deny-step (known_of i) (after_denied m before) (name_at (course_names i.courses) x.0) (name_at (room_names i.rooms) x.1) x.0 x.1 (course-read i m x.0 g p.0) (room-read i m x.1 g p.1)

closed-read : (i : Instance) (m : Measures) (v : FileVersion) → AreGood i m → (before : List (ℕ × ℕ × ℕ)) (x : ℕ × ℕ × ℕ) (after : List (ℕ × ℕ × ℕ)) → before ++ x ∷ after ≡ m.closed
    → line_of (known_of i) v (after_closed m before) (closed_line (room_names i.rooms) x) ≡ Ok (after_closed m (before ++ x ∷ []))
closed-read i m v g before x after e =
    let p = three (nat_lt x.0 (length i.rooms)) (nat_lt x.1 i.days) (nat_lt x.2 i.periods) (middle (is_triple (length i.rooms) i.days i.periods) before x after m.closed e g.measures.closed) in
    let day = under x.1 i.days p.1 in
    let period = under x.2 i.periods p.2 in
    closed-step (known_of i) (after_closed m before) (name_at (room_names i.rooms) x.0) (decimal x.1) (decimal x.2) x.0 x.1 x.2 (room-read i m x.0 g p.0)
    (number_below-decimal i.days x.1 p.1 (omega (arith, day, g.few_days))) (number_below-decimal i.periods x.2 p.2 (omega (arith, period, g.few_periods)))

none-same : {A : Type 0} (same : A → A → Bool) → ((x y : A) → same x y ≡ same y x) → (xs : List A) (x : A) → list_all (λ y. not (same y x)) xs ≡ true → list_any (same x) xs ≡ false
none-same same exchanged [] x h = refl
none-same same exchanged (y ∷ xs) x h =
    let p = and_parts (not (same y x)) (list_all (λ z. not (same z x)) xs) h in
    rw (exchanged x y, not-true (same y x) p.0) (none-same same exchanged xs x p.1)

prefer-read : (i : Instance) (m : Measures) (v : FileVersion) → AreGood i m → (before : List (ℕ × ℕ × ℤ)) (x : ℕ × ℕ × ℤ) (after : List (ℕ × ℕ × ℤ)) → before ++ x ∷ after ≡ m.prefer
    → line_of (known_of i) v (after_prefer m before) (prefer_line (course_names i.courses) (room_names i.rooms) x) ≡ Ok (after_prefer m (before ++ x ∷ []))
prefer-read i m v g before x after e =
    let p = three (nat_lt x.0 (length i.courses)) (nat_lt x.1 (length i.rooms)) (is_points x.2) (middle (is_preference (length i.courses) (length i.rooms)) before x after m.prefer e g.measures.prefer) in
    let new = none-same same_pair same_pair-sym before x (middle-pairs other_pair before x after m.prefer e g.measures.one_preference) in
    prefer-step (known_of i) (after_prefer m before) (name_at (course_names i.courses) x.0) (name_at (room_names i.rooms) x.1) (signed_decimal x.2) x.0 x.1 x.2 (course-read i m x.0 g p.0) (room-read i m x.1 g p.1)
    (points_of-signed_decimal x.2 p.2) new

above-last : (rows : List (ℕ × ℤ)) (y : ℕ × ℤ) → list_all (λ x. rises x y) rows ≡ true → is_above (slice_get rows (length rows - 1)) y.0 ≡ true
above-last [] y h = refl
above-last (x ∷ []) y h = (and_parts (rises x y) true h).0
above-last (x ∷ z ∷ rows) y h =
    let at : length (x ∷ z ∷ rows) - 1 ≡ suc (length (z ∷ rows) - 1) = omega arith in
    ap (λ k. is_above (slice_get (x ∷ z ∷ rows) k) y.0) at ∙ above-last (z ∷ rows) y (and_parts (rises x y) (list_all (λ w. rises w y) (z ∷ rows)) h).1

shorter : {A : Type 0} (before : List A) (x : A) (after whole : List A) (n : ℕ) → before ++ x ∷ after ≡ whole → length whole ≤ n → nat_lt (length before) n ≡ true
shorter before x after whole n e l = less (length before) n (let size = length-append before (x ∷ after) in let same : length (before ++ x ∷ after) ≡ length whole = ap length e in omega (arith, size, same, l))
  where
    less : (k n : ℕ) → k < n → nat_lt k n ≡ true
    less k n h = grind (arith, nat_tests, h)

from_zero : (n : ℕ) → nat_le 0 n ≡ true
from_zero n = grind (arith, nat_tests)

robust-read : (i : Instance) (m : Measures) (v : FileVersion) → AreGood i m → (before : List (ℕ × ℤ)) (x : ℕ × ℤ) (after : List (ℕ × ℤ)) → before ++ x ∷ after ≡ m.robust
    → line_of (known_of i) v (after_robust m before) (robust_line x) ≡ Ok (after_robust m (before ++ x ∷ []))
robust-read i m v g before x after e =
    let p = two (nat_le x.0 1000) (is_points x.1) (middle is_threshold before x after m.robust e g.measures.robust) in
    let above = above-last before x (middle-pairs rises before x after m.robust e g.measures.rising) in
    let low = most x.0 1000 p.0 in
    robust-step (known_of i) (after_robust m before) (decimal x.0) (signed_decimal x.1) x.0 x.1 (number_in-decimal 0 1000 x.0 (from_zero x.0) p.0 (omega (arith, low))) (points_of-signed_decimal x.1 p.1)
    (shorter before x after m.robust 100 e g.measures.few_thresholds) above

length-read : (i : Instance) (m : Measures) → AreGood i m → (before : List (ℕ × ℕ)) (x : ℕ × ℕ) (after : List (ℕ × ℕ)) → before ++ x ∷ after ≡ m.lengths
    → line_of (known_of i) Two (after_lengths m before) (length_line (course_names i.courses) x) ≡ Ok (after_lengths m (before ++ x ∷ []))
length-read i m g before x after e =
    let p = three (nat_lt x.0 (length i.courses)) (nat_le 1 x.1) (nat_le x.1 48) (middle (is_length (length i.courses)) before x after m.lengths e g.measures.lengths) in
    let new = none-same same_course same_course-sym before x (middle-pairs other_course before x after m.lengths e g.measures.one_length) in
    let low = most x.1 48 p.2 in
    length-step (known_of i) (after_lengths m before) (name_at (course_names i.courses) x.0) (decimal x.1) x.0 x.1 (course-read i m x.0 g p.0) (number_in-decimal 1 48 x.1 p.1 p.2 (omega (arith, low))) new

-- lines of lengths stand in files of version 2 alone
abbrev file_version : Measures → FileVersion
file_version m = cond (length m.lengths == 0) One Two

version-read : (m : Measures) → version_of (version_line m) ≡ Ok (file_version m)
version-read m = by_case (length m.lengths == 0)
  where
    by_case : (t : Bool) → version_of (codes "measures" ∷ cond t (codes "1") (codes "2") ∷ []) ≡ Ok (cond t One Two)
    by_case true = refl
    by_case false = refl

some-two : (m : Measures) (before : List (ℕ × ℕ)) (x : ℕ × ℕ) (after : List (ℕ × ℕ)) → before ++ x ∷ after ≡ m.lengths → Two ≡ file_version m
some-two m before x after e = ap (λ t. cond t One Two) (sym (ne_eqb (length m.lengths) 0 (λ none. let size = length-append before (x ∷ after) in let same : length (before ++ x ∷ after) ≡ length m.lengths = ap length e in absurd (omega (arith, size, same, none)))))

-- all entries are read one kind after the other
entries-read : (i : Instance) (m : Measures) → AreGood i m → IsCounted m → lines_from (known_of i) (file_version m) no_measures (rows_of 2 (entry_lines (course_names i.courses) (room_names i.rooms) m)) ≡ Ok m
entries-read i m g counts =
    let known = known_of i in
    let v = file_version m in
    let courses = course_names i.courses in
    let rooms = room_names i.rooms in
    let lengths = map (length_line courses) m.lengths in
    let robust = map robust_line m.robust ++ lengths in
    let prefer = map (prefer_line courses rooms) m.prefer ++ robust in
    let closed = map (closed_line rooms) m.closed ++ prefer in
    let denied = map (deny_line courses rooms) m.denied ++ closed in
    let needs = map (need_line courses m.features) m.needs ++ denied in
    let n1 = 2 + length m.has in
    let n2 = n1 + length m.needs in
    let n3 = n2 + length m.denied in
    let n4 = n3 + length m.closed in
    let n5 = n4 + length m.prefer in
    let n6 = n5 + length m.robust in
    let features : take (seen (seen 0 m.has) m.needs) m.features ≡ m.features = ap (λ k. take k m.features) (counted-is (seen 0 m.has) m.needs (length m.features) counts.needs) ∙ take-length m.features in
    read-rows known v (codes "has") (λ (x : ℕ × ℕ). name_at rooms x.0 ∷ name_at m.features x.1 ∷ []) (after_has m) m.has (has-read i m v g counts) [] m.has 2 needs refl
    ∙ read-rows known v (codes "need") (λ (x : ℕ × ℕ). name_at courses x.0 ∷ name_at m.features x.1 ∷ []) (after_needs m) m.needs (need-read i m v g counts) [] m.needs n1 denied refl
    ∙ ap (λ (fs : List (List ℕ)). lines_from known v (record (after_denied m []) { features = fs }) (rows_of n2 denied)) features
    ∙ read-rows known v (codes "deny") (λ (x : ℕ × ℕ). name_at courses x.0 ∷ name_at rooms x.1 ∷ []) (after_denied m) m.denied (deny-read i m v g) [] m.denied n2 closed refl
    ∙ read-rows known v (codes "closed") (λ (x : ℕ × ℕ × ℕ). name_at rooms x.0 ∷ decimal x.1 ∷ decimal x.2 ∷ []) (after_closed m) m.closed (closed-read i m v g) [] m.closed n3 prefer refl
    ∙ read-rows known v (codes "prefer") (λ (x : ℕ × ℕ × ℤ). name_at courses x.0 ∷ name_at rooms x.1 ∷ signed_decimal x.2 ∷ []) (after_prefer m) m.prefer (prefer-read i m v g) [] m.prefer n4 robust refl
    ∙ read-rows known v (codes "robust") (λ (x : ℕ × ℤ). decimal x.0 ∷ signed_decimal x.1 ∷ []) (after_robust m) m.robust (robust-read i m v g) [] m.robust n5 lengths refl
    ∙ ap (λ ls. lines_from known v (after_lengths m []) (rows_of n6 ls)) (sym (append-nil lengths))
    ∙ read-rows known v (codes "length") (λ (x : ℕ × ℕ). name_at courses x.0 ∷ decimal x.1 ∷ []) (after_lengths m) m.lengths
    (λ before x after e. ap (λ w. line_of known w (after_lengths m before) (length_line courses x)) (sym (some-two m before x after e)) ∙ length-read i m g before x after e) [] m.lengths n6 [] refl

-- where nothing is listed, no feature is either
none-of : {A : Type 0} (xs : List A) → (length xs == 0) ≡ true → xs ≡ []
none-of [] h = refl
none-of (x ∷ xs) h = absurd (let e = equal_of (length (x ∷ xs)) 0 h in omega (arith, e))
  where
    equal_of : (a b : ℕ) → (a == b) ≡ true → a ≡ b
    equal_of a b h = grind (arith, nat_tests, h)

zero-of : (n : ℕ) → Some 0 ≡ Some n → n ≡ 0
zero-of n e = cc

empty-of : {A : Type 0} (xs : List A) → length xs ≡ 0 → xs ≡ []
empty-of [] h = refl
empty-of (x ∷ xs) h = absurd (omega (arith, h))

all-none : (f : List (List ℕ)) (h n d : List (ℕ × ℕ)) (c : List (ℕ × ℕ × ℕ)) (p : List (ℕ × ℕ × ℤ)) (r : List (ℕ × ℤ)) (l : List (ℕ × ℕ)) → f ≡ [] → h ≡ [] → n ≡ [] → d ≡ [] → c ≡ [] → p ≡ [] → r ≡ [] → l ≡ []
    → no_measures ≡ record { features = f; has = h; needs = n; denied = d; closed = c; prefer = p; robust = r; lengths = l }
all-none f h n d c p r l ef eh en ed ec ep er el = rw (ef, eh, en, ed, ec, ep, er, el) refl

nothing-read : (m : Measures) → IsCounted m → lists_nothing m ≡ true → no_measures ≡ m
nothing-read m counts h =
    let a = and_parts ((length m.has == 0) && (length m.needs == 0) && (length m.denied == 0) && (length m.closed == 0) && (length m.prefer == 0) && (length m.robust == 0)) (length m.lengths == 0) h in
    let b = and_parts ((length m.has == 0) && (length m.needs == 0) && (length m.denied == 0) && (length m.closed == 0) && (length m.prefer == 0)) (length m.robust == 0) a.0 in
    let c = and_parts ((length m.has == 0) && (length m.needs == 0) && (length m.denied == 0) && (length m.closed == 0)) (length m.prefer == 0) b.0 in
    let d = and_parts ((length m.has == 0) && (length m.needs == 0) && (length m.denied == 0)) (length m.closed == 0) c.0 in
    let e = and_parts ((length m.has == 0) && (length m.needs == 0)) (length m.denied == 0) d.0 in
    let f = and_parts (length m.has == 0) (length m.needs == 0) e.0 in
    let has = none-of m.has f.0 in
    let needs = none-of m.needs f.1 in
    let count : Some 0 ≡ Some (length m.features) = ap (λ xs. counted (seen 0 xs) []) (sym has) ∙ ap (counted (seen 0 m.has)) (sym needs) ∙ counts.needs in
    all-none m.features m.has m.needs m.denied m.closed m.prefer m.robust m.lengths (empty-of m.features (zero-of (length m.features) count)) has needs (none-of m.denied e.1) (none-of m.closed d.1) (none-of m.prefer c.1) (none-of m.robust b.1) (none-of m.lengths a.1)

version-field : (m : Measures) → list_all is_field (version_line m) ≡ true
version-field m = by_case (length m.lengths == 0)
  where
    by_case : (t : Bool) → list_all is_field (codes "measures" ∷ cond t (codes "1") (codes "2") ∷ []) ≡ true
    by_case true = refl
    by_case false = refl

good-of : (i : Instance) (m : Measures) → IsInstance i → AreMeasures i m → AreGood i m
good-of i m instance measures = record {
  measures = measures;
  courses = courses-named i instance;
  rooms = rooms-named i instance;
  other_courses = instance.course_names;
  other_rooms = instance.room_names;
  few_days = instance.few_days;
  few_periods = instance.few_periods;
}

written-read : (i : Instance) (m : Measures) → AreGood i m → IsCounted m → measures_of i (written (version_line m ∷ entry_lines (course_names i.courses) (room_names i.rooms) m)) ≡ Ok m
written-read i m g counts =
    let lines = version_line m ∷ entry_lines (course_names i.courses) (room_names i.rooms) m in
    let fields = both (list_all is_field (version_line m)) (list_all (list_all is_field) (entry_lines (course_names i.courses) (room_names i.rooms) m)) (version-field m) (entries-are_fields i m g) in
    ap (λ (u : Unread). file_of (known_of i) u.rows) (unread-written lines fields)
    ∙ ap (λ (r : Result FileVersion _). in_line 1 r >>= λ v. lines_from (known_of i) v no_measures (rows_of 2 (entry_lines (course_names i.courses) (room_names i.rooms) m))) (version-read m)
    ∙ entries-read i m g counts

read_either : (i : Instance) (m : Measures) (t : Bool) → AreGood i m → IsCounted m → lists_nothing m ≡ t → measures_of i (written (cond t [] (version_line m ∷ entry_lines (course_names i.courses) (room_names i.rooms) m))) ≡ Ok m
read_either i m true g counts h = ap Ok (nothing-read m counts h)
read_either i m false g counts h = written-read i m g counts

-- reading what was written gives the measures back
pub read_back : (i : Instance) (m : Measures) → IsInstance i → AreMeasures i m → AreNumberedAsWritten m → measures_of i (text_of i m) ≡ Ok m
read_back i m instance measures numbered = read_either i m (lists_nothing m) (good-of i m instance measures) (counts-ok m (counted 0 m.has) refl numbered.order) refl
