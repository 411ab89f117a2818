-- What is written is read again.
use Rattle.std.proofs.Common.{ℕ, ◌≡◌, ◌≤◌, ◌<◌, ◌+◌, ◌-◌, ◌^◌, ◌++◌, Bool, true, false, not, List, [], ◌∷◌, length, map, refl, ap, ◌∙◌, arith, suc, zero}
use Rattle.std.specs.Prelude.{filter, ◌&&◌, ◌||◌, ◌==◌, nat_le, decimal, Some, slice_index}
use Rattle.std.specs.List.{list_all}
use Rattle.std.specs.Str.Parse.{digits_value}
use Rattle.std.proofs.lemmas.Bool.{and_parts, not-true, ne_eqb}
use Rattle.std.proofs.lemmas.Bool.Decides.{nat_tests}
use Rattle.std.proofs.lemmas.Fmt.{decimal_is_IsNumeral, length-decimal-le}
use Rattle.std.proofs.lemmas.List.{length-map}
use Rattle.std.specs.Str.Parse.{AllDigits}
use Rattle.std.specs.Char.{digit_value}
use Rattle.input_core.specs.Lines.{onto, is_feed, is_blank, is_graphic, is_allowed, is_some_text, is_field, is_digit, is_number, number_of, cut_at_blanks, without_return, lines_of, fields_of}
use Rattle.input_core.specs.Rows.{unread, rows_from, onto_rows}
use Rattle.input_core.proofs.ChainLemmas.{both}
use Rattle.input_core.proofs.WriteLemmas.{cut_before_blank, cut_before_feed}
use Rattle.text_lines.specs.Written.{joined, written, rows_of, unread_of}

plain : (b : ℕ) → is_graphic b ≡ true → not (is_blank b) ≡ true
plain b h = grind (arith, nat_tests, h)

no_feed : (b : ℕ) → is_graphic b ≡ true → not (is_feed b) ≡ true
no_feed b h = grind (arith, nat_tests, h)

or_true : (a b : Bool) → b ≡ true → (a || b) ≡ true
or_true true b h = refl
or_true false b h = h

allowed : (b : ℕ) → is_graphic b ≡ true → is_allowed b ≡ true
allowed b h = or_true (is_blank b) (is_graphic b) h

all_weaker : (p q : ℕ → Bool) → ((b : ℕ) → p b ≡ true → q b ≡ true) → (bs : List ℕ) → list_all p bs ≡ true → list_all q bs ≡ true
all_weaker p q weaker [] h = refl
all_weaker p q weaker (b ∷ bs) h = let t = and_parts (p b) (list_all p bs) h in both (q b) (list_all q bs) (weaker b t.0) (all_weaker p q weaker bs t.1)

all-append : (p : ℕ → Bool) (xs ys : List ℕ) → list_all p xs ≡ true → list_all p ys ≡ true → list_all p (xs ++ ys) ≡ true
all-append p [] ys h k = k
all-append p (x ∷ xs) ys h k = let t = and_parts (p x) (list_all p xs) h in both (p x) (list_all p (xs ++ ys)) t.0 (all-append p xs ys t.1 k)

graphic_of : (field : List ℕ) → is_field field ≡ true → list_all is_graphic field ≡ true
graphic_of field h = (and_parts (is_some_text field) (list_all is_graphic field) h).1

-- the end of a line
cut_at_end : (field : List ℕ) → list_all (λ b. not (is_blank b)) field ≡ true → cut_at_blanks field ≡ field ∷ []
cut_at_end [] h = refl
cut_at_end (b ∷ bs) h =
    let parts = and_parts (not (is_blank b)) (list_all (λ b. not (is_blank b)) bs) h in
    let p : is_blank b ≡ false = not-true (is_blank b) parts.0 in
    rw p (ap (onto b) (cut_at_end bs parts.1))

-- the fields of joined fields are those fields
pub fields_of-joined : (fields : List (List ℕ)) → list_all is_field fields ≡ true → fields_of (joined fields) ≡ fields
fields_of-joined [] h = refl
fields_of-joined (field ∷ []) h =
    let f = (and_parts (is_field field) true h).0 in
    let some = (and_parts (is_some_text field) (list_all is_graphic field) f).0 in
    ap (filter is_some_text) (cut_at_end field (all_weaker is_graphic (λ b. not (is_blank b)) plain field (graphic_of field f))) ∙ rw some refl
fields_of-joined (field ∷ other ∷ fields) h =
    let p = and_parts (is_field field) (list_all is_field (other ∷ fields)) h in
    let some = (and_parts (is_some_text field) (list_all is_graphic field) p.0).0 in
    ap (filter is_some_text) (cut_before_blank field (joined (other ∷ fields)) (all_weaker is_graphic (λ b. not (is_blank b)) plain field (graphic_of field p.0))) ∙ rw some (ap (λ fs. field ∷ fs) (fields_of-joined (other ∷ fields) p.1))

-- whatever holds of graphic bytes and of a blank holds of a line
joined_keeps : (q : ℕ → Bool) → ((b : ℕ) → is_graphic b ≡ true → q b ≡ true) → q 32 ≡ true → (fields : List (List ℕ)) → list_all is_field fields ≡ true → list_all q (joined fields) ≡ true
joined_keeps q weaker blank [] h = refl
joined_keeps q weaker blank (field ∷ []) h = all_weaker is_graphic q weaker field (graphic_of field (and_parts (is_field field) true h).0)
joined_keeps q weaker blank (field ∷ other ∷ fields) h =
    let p = and_parts (is_field field) (list_all is_field (other ∷ fields)) h in
    all-append q field (32 ∷ joined (other ∷ fields)) (all_weaker is_graphic q weaker field (graphic_of field p.0)) (both (q 32) (list_all q (joined (other ∷ fields))) blank (joined_keeps q weaker blank (other ∷ fields) p.1))

no_return : (b : ℕ) → is_graphic b ≡ true → not (b == 13) ≡ true
no_return b h = grind (arith, nat_tests, h)

-- a line without carriage returns is kept whole
last_kept : (line : List ℕ) (k : ℕ) → list_all (λ b. not (b == 13)) line ≡ true → (slice_index line k == 13) ≡ false
last_kept [] k h = refl
last_kept (b ∷ line) zero h = not-true (b == 13) (and_parts (not (b == 13)) (list_all (λ b. not (b == 13)) line) h).0
last_kept (b ∷ line) (suc k) h = last_kept line k (and_parts (not (b == 13)) (list_all (λ b. not (b == 13)) line) h).1

kept : (fields : List (List ℕ)) → list_all is_field fields ≡ true → without_return (joined fields) ≡ joined fields
kept fields h = rw (last_kept (joined fields) (length (joined fields) - 1) (joined_keeps (λ b. not (b == 13)) no_return refl fields h)) refl

-- the lines of a written text are its lines
pub lines_of-written : (lines : List (List (List ℕ))) → list_all (list_all is_field) lines ≡ true → lines_of (written lines) ≡ map joined lines
lines_of-written [] h = refl
lines_of-written (fields ∷ lines) h =
    let p = and_parts (list_all is_field fields) (list_all (list_all is_field) lines) h in
    ap (map without_return) (cut_before_feed (joined fields) (written lines) (joined_keeps (λ b. not (is_feed b)) no_feed refl fields p.0))
    ∙ rw (kept fields p.0) (ap (λ ls. joined fields ∷ ls) (lines_of-written lines p.1))

rows_from-joined : (n : ℕ) (lines : List (List (List ℕ))) → list_all (list_all is_field) lines ≡ true → rows_from n (map joined lines) ≡ rows_of n lines
rows_from-joined n [] h = refl
rows_from-joined n (fields ∷ lines) h =
    let p = and_parts (list_all is_field fields) (list_all (list_all is_field) lines) h in
    rw (joined_keeps is_allowed allowed refl fields p.0, fields_of-joined fields p.0) (ap (onto_rows n fields) (rows_from-joined (n + 1) lines p.1))

-- what is read of a written text are the fields of its lines
pub unread-written : (lines : List (List (List ℕ))) → list_all (list_all is_field) lines ≡ true → unread (written lines) ≡ unread_of lines
unread-written lines h = rw (lines_of-written lines h, rows_from-joined 1 lines h) (let e : 1 + length (map joined lines) ≡ length lines + 1 = omega (arith, length-map lines joined) in rw e refl)

digit_graphic : (b : ℕ) → is_digit b ≡ true → is_graphic b ≡ true
digit_graphic b h = grind (arith, nat_tests, h)

digit_one : (c : ℕ) → digit_value c < 10 → is_digit c ≡ true
digit_one c h = grind (arith, nat_tests, h)

all_digits : (ds : List ℕ) → AllDigits 10 ds → list_all is_digit ds ≡ true
all_digits [] h = refl
all_digits (c ∷ cs) h = both (is_digit c) (list_all is_digit cs) (digit_one c h.0) (all_digits cs h.1)

le_test : (a b : ℕ) → a ≤ b → nat_le a b ≡ true
le_test a b h = grind (arith, nat_tests, h)

number_from : (ds : List ℕ) (n : ℕ) → 0 < length ds → length ds ≤ 9 → list_all is_digit ds ≡ true → digits_value 10 ds ≡ n → number_of ds ≡ Some n
number_from ds n some short digits value =
    let test : is_number ds ≡ true = both (nat_le 1 (length ds) && nat_le (length ds) 9) (list_all is_digit ds) (both (nat_le 1 (length ds)) (nat_le (length ds) 9) (le_test 1 (length ds) (omega arith)) (le_test (length ds) 9 short)) digits in
    rw test (ap Some value)

-- a number below a thousand million is read as it was written
pub number_of-decimal : (n : ℕ) → n < 10 ^ 9 → number_of (decimal n) ≡ Some n
number_of-decimal n h =
    let fits : n < 2 ^ 64 = omega arith in
    let d = decimal_is_IsNumeral n fits in
    number_from (decimal n) n d.0.0 (length-decimal-le 9 n (omega arith) h fits) (all_digits (decimal n) d.0.1) d.1

field_from : (ds : List ℕ) → 0 < length ds → list_all is_digit ds ≡ true → is_field ds ≡ true
field_from ds some digits = both (is_some_text ds) (list_all is_graphic ds) (ap not (ne_eqb (length ds) 0 (λ e. absurd (omega arith)))) (all_weaker is_digit is_graphic digit_graphic ds digits)

pub decimal-is_field : (n : ℕ) → n < 2 ^ 64 → is_field (decimal n) ≡ true
decimal-is_field n fits = let d = decimal_is_IsNumeral n fits in field_from (decimal n) d.0.0 (all_digits (decimal n) d.0.1)
