-- What is written is read back.
use Rattle.std.proofs.Common.{ℕ, ℤ, pos, negsuc, ◌≡◌, ◌≤◌, ◌<◌, ◌+◌, ◌-◌, ◌^◌, ◌++◌, Bool, true, false, cond, not, max, List, [], ◌∷◌, length, take, drop, get_or, map, refl, ap, sym, ◌∙◌, arith, subst, suc, zero, append_assoc, add-one}
use Rattle.std.specs.Prelude.{◌&&◌, ◌||◌, ◌==◌, nat_lt, nat_le, int_lt, slice_get, slice_index, Option, Some, None, Result, Ok, Err, codes, decimal, bytes_eq}
use Rattle.std.specs.Fmt.{signed_decimal}
use Rattle.std.specs.List.{list_all, list_any, position_or_len}
use Rattle.std.specs.Cmp.Lexicographic.{bytes_decides}
use Rattle.std.proofs.lemmas.Bool.{and_parts, not-true, ne_eqb}
use Rattle.std.proofs.lemmas.Bool.Decides.{nat_tests}
use Rattle.std.proofs.lemmas.List.{length-take-le, get_or-take, take-append-drop, take_more}
use Rattle.input_core.specs.Lines.{is_field, is_graphic, is_some_text, is_digit, is_number, number_of}
use Rattle.input_core.specs.Fields.{◌>>=◌, name_of, number_in, number_below, within, below, or_fault}
use Rattle.input_core.specs.declared.faults.LineKind.TheVariants.{Number, UnknownCourse, UnknownRoom}
use Rattle.input_core.proofs.ChainLemmas.{both}
use Rattle.text_lines.proofs.ReadBack.{number_of-decimal, decimal-is_field}
use Rattle.ctt_reader.specs.Names.{course_at, room_at, place_of, has_name, with_name}
use Rattle.ctt_reader.specs.Entries.{course_names, room_names}
use Rattle.ctt_reader.specs.Promised.{is_name, are_different, is_course, is_room, IsInstance}
use Rattle.ctt_reader.specs.declared.instance.Course.{Course}
use Rattle.ctt_reader.specs.declared.instance.Instance.{Instance}
use Rattle.ctt_reader.specs.declared.instance.Room.{Room}
use Rattle.ctt_reader.proofs.EntryLemmas.{same_both_ways, or_parts}
use Rattle.ctt_reader.proofs.DifferentLemmas.{new-among}
use Rattle.measure_file.specs.Grammar.{points_of, feature_number}
use Rattle.measure_file.specs.Promised.{is_points}
use Rattle.measure_file.specs.Writing.{name_at}
use Rattle.measure_file.proofs.FeatureLemmas.{placed, at_end}

pub all-map : {A B : Type 0} (line : A → B) (passes : B → Bool) (test : A → Bool) → ((x : A) → test x ≡ true → passes (line x) ≡ true) → (xs : List A) → list_all test xs ≡ true → list_all passes (map line xs) ≡ true
all-map line passes test good [] h = refl
all-map line passes test good (x ∷ xs) h =
    let p = and_parts (test x) (list_all test xs) h in
    both (passes (line x)) (list_all passes (map line xs)) (good x p.0) (all-map line passes test good xs p.1)

pub at : {A : Type 0} (test : A → Bool) (xs : List A) (k : ℕ) (d : A) → list_all test xs ≡ true → k < length xs → test (get_or xs k d) ≡ true
at test [] k d h l = absurd (omega arith)
at test (x ∷ xs) zero d h l = (and_parts (test x) (list_all test xs) h).0
at test (x ∷ xs) (suc k) d h l = at test xs k d (and_parts (test x) (list_all test xs) h).1 (omega arith)

pub name-is_field : (name : List ℕ) → is_name name ≡ true → is_field name ≡ true
name-is_field name h = (and_parts (is_field name) (nat_le (length name) 64) h).0

short : (name : List ℕ) → is_name name ≡ true → nat_lt 64 (length name) ≡ false
short name h = less (length name) (and_parts (is_field name) (nat_le (length name) 64) h).1
  where
    less : (n : ℕ) → nat_le n 64 ≡ true → nat_lt 64 n ≡ false
    less n h = grind (arith, nat_tests, h)

pub name_of-name : (name : List ℕ) → is_name name ≡ true → name_of name ≡ Ok name
name_of-name name h = rw (short name h) refl

same : (a : List ℕ) → bytes_eq a a ≡ true
same a = (bytes_decides a a).1 refl

other : (x : List ℕ) (names : List (List ℕ)) (k : ℕ) → has_name x names ≡ false → k < length names → bytes_eq x (get_or names k []) ≡ false
other x [] k h l = absurd (omega arith)
other x (name ∷ names) zero h l = (or_parts (bytes_eq x name) (has_name x names) h).0
other x (name ∷ names) (suc k) h l = other x names k (or_parts (bytes_eq x name) (has_name x names) h).1 (omega arith)

-- a name is found where it stands
pub place-at : (names : List (List ℕ)) (k : ℕ) → are_different names ≡ true → k < length names → position_or_len (bytes_eq (get_or names k [])) names ≡ k
place-at [] k h l = absurd (omega arith)
place-at (name ∷ names) zero h l = rw (same name) refl
place-at (name ∷ names) (suc k) h l =
    let p = and_parts (not (has_name name names)) (are_different names) h in
    let differs : bytes_eq (get_or names k []) name ≡ false = same_both_ways name (get_or names k []) (other name names k (not-true (has_name name names) p.0) (omega arith)) in
    rw differs (omega (arith, place-at names k p.1 (omega arith)))

under : (k n : ℕ) → k < n → nat_lt k n ≡ true
under k n h = grind (arith, nat_tests, h)

place_of-name : (names : List (List ℕ)) (k : ℕ) → are_different names ≡ true → k < length names → place_of (name_at names k) names ≡ Some k
place_of-name names k h l = rw (place-at names k h l, under k (length names) l) refl

pub course_at-name : (names : List (List ℕ)) (k : ℕ) → list_all is_name names ≡ true → are_different names ≡ true → k < length names → course_at names (name_at names k) ≡ Ok k
course_at-name names k good h l =
    ap (λ r. r >>= λ name. or_fault (place_of name names) UnknownCourse) (name_of-name (name_at names k) (at is_name names k [] good l)) ∙ ap (λ p. or_fault p UnknownCourse) (place_of-name names k h l)

pub room_at-name : (names : List (List ℕ)) (k : ℕ) → list_all is_name names ≡ true → are_different names ≡ true → k < length names → room_at names (name_at names k) ≡ Ok k
room_at-name names k good h l =
    ap (λ r. r >>= λ name. or_fault (place_of name names) UnknownRoom) (name_of-name (name_at names k) (at is_name names k [] good l)) ∙ ap (λ p. or_fault p UnknownRoom) (place_of-name names k h l)

pub number_in-decimal : (low high n : ℕ) → nat_le low n ≡ true → nat_le n high ≡ true → n < 10 ^ 9 → number_in low high (decimal n) ≡ Ok n
number_in-decimal low high n l h small = ap (λ o. or_fault o Number >>= within low high) (number_of-decimal n small) ∙ rw (l, h) refl

pub number_below-decimal : (limit n : ℕ) → nat_lt n limit ≡ true → n < 10 ^ 9 → number_below limit (decimal n) ≡ Ok n
number_below-decimal limit n h small = ap (λ o. or_fault o Number >>= below limit) (number_of-decimal n small) ∙ rw h refl

-- a number does not begin with a minus sign
number-is : (field : List ℕ) (n : ℕ) → number_of field ≡ Some n → is_number field ≡ true
number-is field n e = by_case (is_number field) refl e
  where
    by_case : (t : Bool) → is_number field ≡ t → cond t (Some (Rattle.std.specs.Str.Parse.digits_value 10 field)) None ≡ Some n → is_number field ≡ true
    by_case true h e = h
    by_case false h e = cc

first-digit : (field : List ℕ) → is_number field ≡ true → (slice_index field 0 == 45) ≡ false
first-digit [] h = cc
first-digit (d ∷ ds) h =
    let p = and_parts (nat_le 1 (length (d ∷ ds)) && nat_le (length (d ∷ ds)) 9) (list_all is_digit (d ∷ ds)) h in
    plain d (and_parts (is_digit d) (list_all is_digit ds) p.1).0
  where
    plain : (d : ℕ) → is_digit d ≡ true → (d == 45) ≡ false
    plain d h = grind (arith, nat_tests, h)

at_most : (z : ℤ) → is_points z ≡ true → (n : ℕ) → (z ≡ pos n → nat_le n 1000000 ≡ true) × (z ≡ negsuc n → nat_le (suc n) 1000000 ≡ true)
at_most z h n = (
  λ e. low n (not-true (int_lt (pos 1000000) (pos n)) (and_parts (not (int_lt (pos n) (negsuc 999999))) (not (int_lt (pos 1000000) (pos n))) (ap is_points (sym e) ∙ h)).1),
  λ e. high n (not-true (int_lt (negsuc n) (negsuc 999999)) (and_parts (not (int_lt (negsuc n) (negsuc 999999))) (not (int_lt (pos 1000000) (negsuc n))) (ap is_points (sym e) ∙ h)).0),
)
  where
    low : (n : ℕ) → nat_lt 1000000 n ≡ false → nat_le n 1000000 ≡ true
    low n h = grind (arith, nat_tests, h)

    high : (n : ℕ) → nat_lt 999999 n ≡ false → nat_le (suc n) 1000000 ≡ true
    high n h = grind (arith, nat_tests, h)

small : (n : ℕ) → nat_le n 1000000 ≡ true → n < 10 ^ 9
small n h = bound n h
  where
    le : (n : ℕ) → nat_le n 1000000 ≡ true → n ≤ 1000000
    le n h = grind (arith, nat_tests, h)

    bound : (n : ℕ) → nat_le n 1000000 ≡ true → n < 10 ^ 9
    bound n h = omega (arith, le n h)

from_zero : (n : ℕ) → nat_le 0 n ≡ true
from_zero n = grind (arith, nat_tests)

pub points_of-signed_decimal : (z : ℤ) → is_points z ≡ true → points_of (signed_decimal z) ≡ Ok z
points_of-signed_decimal (pos n) h =
    let high = (at_most (pos n) h n).0 refl in
    let digits = number-is (decimal n) n (number_of-decimal n (small n high)) in
    rw (first-digit (decimal n) digits) (ap (λ r. r >>= λ k. Ok (pos k)) (number_in-decimal 0 1000000 n (from_zero n) high (small n high)))
points_of-signed_decimal (negsuc n) h =
    let high = (at_most (negsuc n) h n).1 refl in
    ap (λ r. r >>= λ k. Ok (Rattle.std.specs.Prelude.neg_ℤ (pos k))) (number_in-decimal 0 1000000 (suc n) (from_zero (suc n)) high (small (suc n) high))

wide : (n : ℕ) → nat_le n 1000000 ≡ true → n < 2 ^ 64
wide n h = let s = small n h in omega (arith, s)

signed : (ds : List ℕ) → is_field ds ≡ true → is_field (45 ∷ ds) ≡ true
signed ds h = both (is_some_text (45 ∷ ds)) (list_all is_graphic ds) (ap not (ne_eqb (length (45 ∷ ds)) 0 (λ e. absurd (omega arith)))) (and_parts (is_some_text ds) (list_all is_graphic ds) h).1

pub signed_decimal-is_field : (z : ℤ) → is_points z ≡ true → is_field (signed_decimal z) ≡ true
signed_decimal-is_field (pos n) h = decimal-is_field n (wide n ((at_most (pos n) h n).0 refl))
signed_decimal-is_field (negsuc n) h = signed (decimal (suc n)) (decimal-is_field (suc n) (wide (suc n) ((at_most (negsuc n) h n).1 refl)))

-- the names of an instance
course-name : (c : Course) → is_course c ≡ true → is_name c.name ≡ true
course-name c h =
    let p = and_parts (is_name c.name && is_name c.teacher && nat_le c.lectures 1000 && nat_le c.min_days 1000) (nat_le c.students 1000000) h in
    let q = and_parts (is_name c.name && is_name c.teacher && nat_le c.lectures 1000) (nat_le c.min_days 1000) p.0 in
    let r = and_parts (is_name c.name && is_name c.teacher) (nat_le c.lectures 1000) q.0 in
    (and_parts (is_name c.name) (is_name c.teacher) r.0).0

room-name : (r : Room) → is_room r ≡ true → is_name r.name ≡ true
room-name r h =
    let p = and_parts (is_name r.name && not (bytes_eq r.name (codes "-"))) (nat_le r.capacity 1000000) h in
    (and_parts (is_name r.name) (not (bytes_eq r.name (codes "-"))) p.0).0

pub courses-named : (i : Instance) → IsInstance i → list_all is_name (course_names i.courses) ≡ true
courses-named i h = all-map (λ (c : Course). c.name) is_name is_course course-name i.courses h.courses

pub rooms-named : (i : Instance) → IsInstance i → list_all is_name (room_names i.rooms) ≡ true
rooms-named i h = all-map (λ (r : Room). r.name) is_name is_room room-name i.rooms h.rooms

-- features up to a number
front-different : (names rest : List (List ℕ)) → are_different (names ++ rest) ≡ true → are_different names ≡ true
front-different [] rest h = refl
front-different (name ∷ names) rest h =
    let p = and_parts (not (has_name name (names ++ rest))) (are_different (names ++ rest)) h in
    both (not (has_name name names)) (are_different names) (ap not (fewer name names rest (not-true (has_name name (names ++ rest)) p.0))) (front-different names rest p.1)
  where
    fewer : (x : List ℕ) (names rest : List (List ℕ)) → has_name x (names ++ rest) ≡ false → has_name x names ≡ false
    fewer x [] rest h = refl
    fewer x (name ∷ names) rest h = let p = or_parts (bytes_eq x name) (has_name x (names ++ rest)) h in rw (p.0) (fewer x names rest p.1)

take-different : (names : List (List ℕ)) (k : ℕ) → are_different names ≡ true → are_different (take k names) ≡ true
take-different names k h = front-different (take k names) (drop k names) (ap are_different (take-append-drop k names) ∙ h)

drop-at : {A : Type 0} (xs : List A) (k : ℕ) (d : A) → k < length xs → drop k xs ≡ get_or xs k d ∷ drop (k + 1) xs
drop-at xs k d l = rw (add-one, Rattle.std.proofs.Common.drop-cons xs k d) refl

new-name : (names : List (List ℕ)) (k : ℕ) → are_different names ≡ true → k < length names → has_name (get_or names k []) (take k names) ≡ false
new-name names k h l =
    new-among (get_or names k []) (take k names) (drop (k + 1) names)
    (ap (λ xs. are_different (take k names ++ xs)) (sym (drop-at names k [] l)) ∙ ap are_different (take-append-drop k names) ∙ h)

-- a feature that has appeared, or the next one
pub record IsNamed (features : List (List ℕ)) (s f : ℕ) : Type 0 where
  pub number : feature_number (take s features) (name_at features f) ≡ Ok f
  pub grown : with_name (take s features) (name_at features f) ≡ take (max s (f + 1)) features

pub feature-named : (features : List (List ℕ)) (s f : ℕ) → are_different features ≡ true → length features ≤ 100 → s ≤ length features → f ≤ s → f < length features → IsNamed features s f
feature-named features s f h few l below known = by_case (nat_lt f s) refl
  where
    size : length (take s features) ≡ s
    size = length-take-le s features l

    less : (a b : ℕ) → nat_lt a b ≡ true → a < b
    less a b h = grind (arith, nat_tests, h)

    not_less : (a b : ℕ) → nat_lt a b ≡ false → b ≤ a
    not_less a b h = grind (arith, nat_tests, h)

    by_case : (t : Bool) → nat_lt f s ≡ t → IsNamed features s f
    by_case true e =
        let old : f < s = less f s e in
        let name : get_or (take s features) f [] ≡ get_or features f [] = get_or-take s features f [] old in
        let place : position_or_len (bytes_eq (name_at features f)) (take s features) ≡ f = ap (λ x. position_or_len (bytes_eq x) (take s features)) (sym name) ∙ place-at (take s features) f (take-different features s h) (omega (arith, size, old)) in
        let there : has_name (name_at features f) (take s features) ≡ true = sym (placed (bytes_eq (name_at features f)) (take s features)) ∙ rw (place, size) e in
        let most : max s (f + 1) ≡ s = omega (arith, old) in
        record { number = rw (place, under f 100 (omega (arith, known, few))) refl; grown = rw (there, most) refl }
    by_case false e =
        let next : f ≡ s = omega (arith, below, not_less f s e) in
        let new : has_name (name_at features f) (take s features) ≡ false = rw (← next) (new-name features f h known) in
        let place : position_or_len (bytes_eq (name_at features f)) (take s features) ≡ f = at_end (bytes_eq (name_at features f)) (take s features) new ∙ size ∙ sym next in
        let most : max s (f + 1) ≡ f + 1 = omega (arith, next) in
        record { number = rw (place, under f 100 (omega (arith, known, few))) refl; grown = rw (new, most, ← next) (sym (take_more features f [] known)) }
