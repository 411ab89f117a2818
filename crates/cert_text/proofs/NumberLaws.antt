-- Fields and numbers: what is read is spelled so, and what is written is read.
use Rattle.std.proofs.Common.{ℕ, ◌≡◌, ◌+◌, ◌*◌, ◌^◌, ◌%◌, ◌<◌, ◌≤◌, arith, lit<, take, drop, get_or, refl, sym, ◌∙◌, ap, zero, suc, Bool, true, false, cond, not, ◌&&◌, List, [], ◌∷◌, ◌++◌, map, length, inl, inr, length-append}
use Rattle.std.specs.Prelude.{◌==◌, nat_le, Option, Some, None, ℤ, pos, negsuc}
use Rattle.std.specs.List.{list_all}
use Rattle.std.proofs.lemmas.List.{take_all}
use Rattle.std.proofs.Math.Nat.{pow-le-pow_right}
use Rattle.std.specs.Str.{bytes_eq}
use Rattle.std.specs.Str.Parse.{digits_value}
use Rattle.std.specs.Fmt.{decimal, signed_decimal}
use Rattle.std.proofs.lemmas.Fmt.{decimal_is_IsNumeral_wide, length-decimal-le_wide, decimal_by_steps_wide}
use Rattle.std.proofs.lemmas.Slice.Eq.{bytes_eq-Decides}
use Rattle.std.proofs.lemmas.List.Folds.{list_all-append}
use Rattle.std.proofs.lemmas.Bool.{and_parts, and_from, not-true, not_from_false, eq-eqb, eqb-true, ne_eqb, cases_Bool, le-leb, leb-true}
use Rattle.std.proofs.lemmas.Option.{same_Some, none-some, cond_some}
use Rattle.duality.specs.Sums.{is_small}
use Rattle.cert_text.specs.Numbers.{onto, lacks, cut, joined, is_digit, is_natural, number_of, number_up_to, minus, plus, signed_of, opt_then, each_of}

-- ---- pieces

joined-onto : (sep b : ℕ) (fs : List (List ℕ)) → joined sep (onto b fs) ≡ b ∷ joined sep fs
joined-onto sep b [] = refl
joined-onto sep b (f ∷ []) = refl
joined-onto sep b (f ∷ (g ∷ fs)) = refl

joined-first : (sep : ℕ) (f : List ℕ) (bs : List ℕ) → joined sep (f ∷ cut sep bs) ≡ f ++ (sep ∷ joined sep (cut sep bs))
joined-first sep f [] = refl
joined-first sep f (b ∷ bs) = go (b == sep) (cut sep bs)
  where
    go : (t : Bool) (fs : List (List ℕ)) → joined sep (f ∷ cond t ([] ∷ fs) (onto b fs)) ≡ f ++ (sep ∷ joined sep (cond t ([] ∷ fs) (onto b fs)))
    go true fs = refl
    go false [] = refl
    go false (g ∷ fs) = refl

pub joined-cut : (sep : ℕ) (bs : List ℕ) → joined sep (cut sep bs) ≡ bs
joined-cut sep [] = refl
joined-cut sep (b ∷ bs) = elim (cases_Bool (b == sep)) [
  | inl between ↦ rw between (joined-first sep [] bs ∙ ap (λ x. sep ∷ x) (joined-cut sep bs) ∙ ap (λ c. c ∷ bs) (sym (eqb-true b sep between)))
  | inr plain ↦ rw plain (joined-onto sep b (cut sep bs) ∙ ap (λ x. b ∷ x) (joined-cut sep bs))
]

pub cut-whole : (sep : ℕ) (f : List ℕ) → lacks sep f ≡ true → cut sep f ≡ f ∷ []
cut-whole sep [] h = refl
cut-whole sep (b ∷ f) h =
    let parts = and_parts (not (b == sep)) (lacks sep f) h in
    rw (not-true (b == sep) parts.0) (ap (onto b) (cut-whole sep f parts.1))

pub cut-before : (sep : ℕ) (f rest : List ℕ) → lacks sep f ≡ true → cut sep (f ++ (sep ∷ rest)) ≡ f ∷ cut sep rest
cut-before sep [] rest h = rw (eq-eqb sep sep refl) refl
cut-before sep (b ∷ f) rest h =
    let parts = and_parts (not (b == sep)) (lacks sep f) h in
    rw (not-true (b == sep) parts.0) (ap (onto b) (cut-before sep f rest parts.1))

pub cut-joined : (sep : ℕ) (f : List ℕ) (fs : List (List ℕ)) → lacks sep f ≡ true → list_all (lacks sep) fs ≡ true → cut sep (joined sep (f ∷ fs)) ≡ f ∷ fs
cut-joined sep f [] h all = cut-whole sep f h
cut-joined sep f (g ∷ fs) h all =
    let parts = and_parts (lacks sep g) (list_all (lacks sep) fs) all in
    cut-before sep f (joined sep (g ∷ fs)) h ∙ ap (λ x. f ∷ x) (cut-joined sep g fs parts.0 parts.1)

-- ---- numbers

pub bytes_are : (xs ys : List ℕ) → bytes_eq xs ys ≡ true → xs ≡ ys
bytes_are xs ys h = (bytes_eq-Decides xs ys).0 h

bytes_same : (xs : List ℕ) → bytes_eq xs xs ≡ true
bytes_same xs = (bytes_eq-Decides xs xs).1 refl

all-append : (test : ℕ → Bool) (xs ys : List ℕ) → list_all test xs ≡ true → list_all test ys ≡ true → list_all test (xs ++ ys) ≡ true
all-append test xs ys p q = list_all-append test xs ys ∙ and_from (list_all test xs) (list_all test ys) p q

digit : (n : ℕ) → n < 10 → list_all is_digit ((48 + n) ∷ []) ≡ true
digit n l = and_from (is_digit (48 + n)) true (and_from (nat_le 48 (48 + n)) (nat_le (48 + n) 57) (le-leb 48 (48 + n) (omega arith)) (le-leb (48 + n) 57 (omega arith))) refl

pub decimal_digits : (n : ℕ) → n ≤ 10 ^ 24 → list_all is_digit (decimal n) ≡ true
decimal_digits n l = decimal_by_steps_wide (λ m ds. list_all is_digit ds ≡ true) digit
    (λ m ds big h. all-append is_digit ds ((48 + m % 10) ∷ []) h (digit (m % 10) (omega arith))) n (omega arith)

pub number_is : (bs : List ℕ) (n : ℕ) → number_of bs ≡ Some n → bs ≡ decimal n
number_is bs n h =
    let parts = cond_some (is_natural bs) (digits_value 10 bs) n h in
    let tests = and_parts (nat_le (length bs) 25) (list_all is_digit bs && bytes_eq bs (decimal (digits_value 10 bs))) parts.0 in
    let same = and_parts (list_all is_digit bs) (bytes_eq bs (decimal (digits_value 10 bs))) tests.1 in
    bytes_are bs (decimal (digits_value 10 bs)) same.1 ∙ ap decimal parts.1

pub number_reads : (n : ℕ) → n ≤ 10 ^ 24 → number_of (decimal n) ≡ Some n
number_reads n l =
    let value : digits_value 10 (decimal n) ≡ n = (decimal_is_IsNumeral_wide n (omega arith)).1 in
    let short : nat_le (length (decimal n)) 25 ≡ true = le-leb (length (decimal n)) 25 (length-decimal-le_wide 25 n (omega arith) (omega arith) (omega arith)) in
    rw (value, short, decimal_digits n l, bytes_same (decimal n)) refl

first_digit : (ds : List ℕ) (b : ℕ) (bs : List ℕ) → list_all is_digit ds ≡ true → ds ≡ b ∷ bs → b == 45 ≡ false
first_digit [] b bs h e = absurd (omega (arith, ap length e))
first_digit (d ∷ ds) b bs h e =
    let parts = and_parts (is_digit b) (list_all is_digit bs) (ap (list_all is_digit) (sym e) ∙ h) in
    let range = and_parts (nat_le 48 b) (nat_le b 57) parts.0 in
    ne_eqb b 45 (λ z. absurd (omega (arith, leb-true 48 b range.0)))

-- ---- what a step of reading gave

pub opt_then_is : {A B : Type 0} (o : Option A) (f : A → Option B) (y : B) → opt_then o f ≡ Some y → (x : A) × (o ≡ Some x) × (f x ≡ Some y)
opt_then_is None f y h = absurd (none-some y h)
opt_then_is (Some x) f y h = (x, refl, h)

pub up_to_is : (limit : ℕ) (bs : List ℕ) (n : ℕ) → number_up_to limit bs ≡ Some n → bs ≡ decimal n
up_to_is limit bs n h =
    let r = opt_then_is (number_of bs) (λ n. cond (nat_le n limit) (Some n) None) n h in
    let e = cond_some (nat_le r.0 limit) r.0 n r.2 in
    number_is bs r.0 r.1 ∙ ap decimal e.1

pub up_to_reads : (limit n : ℕ) → limit ≤ 10 ^ 24 → nat_le n limit ≡ true → number_up_to limit (decimal n) ≡ Some n
up_to_reads limit n l h = rw (number_reads n (omega (arith, leb-true n limit h)), h) refl

-- ---- whole numbers

minus_is : (o : Option ℕ) (z : ℤ) → minus o ≡ Some z → (n : ℕ) × (o ≡ Some (suc n)) × (z ≡ negsuc n)
minus_is None z h = absurd (none-some z h)
minus_is (Some zero) z h = absurd (none-some z h)
minus_is (Some (suc n)) z h = (n, refl, sym (same_Some (negsuc n) z h))

plus_is : (o : Option ℕ) (z : ℤ) → plus o ≡ Some z → (n : ℕ) × (o ≡ Some n) × (z ≡ pos n)
plus_is None z h = absurd (none-some z h)
plus_is (Some n) z h = (n, refl, sym (same_Some (pos n) z h))

pub signed_is : (bs : List ℕ) (z : ℤ) → signed_of bs ≡ Some z → bs ≡ signed_decimal z
signed_is [] z h = absurd (none-some z h)
signed_is (b ∷ bs) z h = go (b == 45) refl h
  where
    go : (t : Bool) → t ≡ (b == 45) → cond t (minus (number_of bs)) (plus (number_of (b ∷ bs))) ≡ Some z → b ∷ bs ≡ signed_decimal z
    go true e h =
        let r = minus_is (number_of bs) z h in
        rw r.2 (ap (λ c. c ∷ bs) (eqb-true b 45 (sym e)) ∙ ap (λ x. 45 ∷ x) (number_is bs (suc r.0) r.1))
    go false e h =
        let r = plus_is (number_of (b ∷ bs)) z h in
        rw r.2 (number_is (b ∷ bs) r.0 r.1)

decimal_some : (n : ℕ) → n ≤ 10 ^ 24 → 0 < length (decimal n)
decimal_some n l = decimal_by_steps_wide (λ m ds. 0 < length ds) (λ m h. omega arith) (λ m ds big h. omega (arith, length-append ds ((48 + m % 10) ∷ []))) n (omega arith)

signed_plain : (bs : List ℕ) (n : ℕ) → n ≤ 10 ^ 24 → list_all is_digit bs ≡ true → number_of bs ≡ Some n → signed_of bs ≡ Some (pos n)
signed_plain [] n l h e = absurd (omega (arith, decimal_some n l, ap length (number_is [] n e)))
signed_plain (b ∷ bs) n l h e = rw (first_digit (b ∷ bs) b bs h refl) (ap plus e)

pub signed_reads : (z : ℤ) → is_small (10 ^ 24) z ≡ true → signed_of (signed_decimal z) ≡ Some z
signed_reads (pos n) h = let l = leb-true n (10 ^ 24) h in signed_plain (decimal n) n l (decimal_digits n l) (number_reads n l)
signed_reads (negsuc n) h = let l = leb-true (suc n) (10 ^ 24) h in ap minus (number_reads (suc n) l)

-- ---- bytes that are neither a blank nor a line feed

abbrev pub is_plain : ℕ → Bool
is_plain b = not (b == 32) && not (b == 10)

abbrev pub plain : List ℕ → Bool
plain f = list_all is_plain f

pub plain_lacks_blank : (f : List ℕ) → plain f ≡ true → lacks 32 f ≡ true
plain_lacks_blank [] h = refl
plain_lacks_blank (b ∷ f) h =
    let parts = and_parts (is_plain b) (plain f) h in
    and_from (not (b == 32)) (lacks 32 f) (and_parts (not (b == 32)) (not (b == 10)) parts.0).0 (plain_lacks_blank f parts.1)

pub plain_lacks_feed : (f : List ℕ) → plain f ≡ true → lacks 10 f ≡ true
plain_lacks_feed [] h = refl
plain_lacks_feed (b ∷ f) h =
    let parts = and_parts (is_plain b) (plain f) h in
    and_from (not (b == 10)) (lacks 10 f) (and_parts (not (b == 32)) (not (b == 10)) parts.0).1 (plain_lacks_feed f parts.1)

pub all_lack_blank : (fs : List (List ℕ)) → list_all plain fs ≡ true → list_all (lacks 32) fs ≡ true
all_lack_blank [] h = refl
all_lack_blank (f ∷ fs) h =
    let parts = and_parts (plain f) (list_all plain fs) h in
    and_from (lacks 32 f) (list_all (lacks 32) fs) (plain_lacks_blank f parts.0) (all_lack_blank fs parts.1)

pub joined_lacks_feed : (fs : List (List ℕ)) → list_all plain fs ≡ true → lacks 10 (joined 32 fs) ≡ true
joined_lacks_feed [] h = refl
joined_lacks_feed (f ∷ []) h = plain_lacks_feed f (and_parts (plain f) true h).0
joined_lacks_feed (f ∷ (g ∷ fs)) h =
    let parts = and_parts (plain f) (list_all plain (g ∷ fs)) h in
    all-append (λ b. not (b == 10)) f (32 ∷ joined 32 (g ∷ fs)) (plain_lacks_feed f parts.0) (joined_lacks_feed (g ∷ fs) parts.1)

digits_plain : (ds : List ℕ) → list_all is_digit ds ≡ true → plain ds ≡ true
digits_plain [] h = refl
digits_plain (d ∷ ds) h =
    let parts = and_parts (is_digit d) (list_all is_digit ds) h in
    let range = and_parts (nat_le 48 d) (nat_le d 57) parts.0 in
    let low = leb-true 48 d range.0 in
    and_from (is_plain d) (plain ds)
    (and_from (not (d == 32)) (not (d == 10)) (not_from_false (d == 32) (ne_eqb d 32 (λ e. absurd (omega (arith, low))))) (not_from_false (d == 10) (ne_eqb d 10 (λ e. absurd (omega (arith, low))))))
    (digits_plain ds parts.1)

pub decimal_plain : (n : ℕ) → n ≤ 10 ^ 24 → plain (decimal n) ≡ true
decimal_plain n l = digits_plain (decimal n) (decimal_digits n l)

pub signed_plain_bytes : (z : ℤ) → is_small (10 ^ 24) z ≡ true → plain (signed_decimal z) ≡ true
signed_plain_bytes (pos n) h = decimal_plain n (leb-true n (10 ^ 24) h)
signed_plain_bytes (negsuc n) h = decimal_plain (suc n) (leb-true (suc n) (10 ^ 24) h)

-- ---- every field

pub each_is : {A : Type 0} (read : List ℕ → Option A) (write : A → List ℕ) → ((f : List ℕ) (x : A) → read f ≡ Some x → f ≡ write x) → (fs : List (List ℕ)) (xs : List A) → each_of read fs ≡ Some xs → fs ≡ map write xs
each_is read write same [] xs h = ap (map write) (same_Some [] xs h)
each_is read write same (f ∷ fs) xs h =
    let first = opt_then_is (read f) (λ x. opt_then (each_of read fs) (λ ys. Some (x ∷ ys))) xs h in
    let rest = opt_then_is (each_of read fs) (λ ys. Some (first.0 ∷ ys)) xs first.2 in
    ap (λ g. g ∷ fs) (same f first.0 first.1) ∙ ap (λ gs. write first.0 ∷ gs) (each_is read write same fs rest.0 rest.1) ∙ ap (map write) (same_Some (first.0 ∷ rest.0) xs rest.2)

pub each_reads : {A : Type 0} (read : List ℕ → Option A) (write : A → List ℕ) (test : A → Bool) → ((x : A) → test x ≡ true → read (write x) ≡ Some x) → (xs : List A) → list_all test xs ≡ true → each_of read (map write xs) ≡ Some xs
each_reads read write test reads [] h = refl
each_reads read write test reads (x ∷ xs) h =
    let parts = and_parts (test x) (list_all test xs) h in
    rw (reads x parts.0, each_reads read write test reads xs parts.1) refl

pub each_plain : {A : Type 0} (write : A → List ℕ) (test : A → Bool) → ((x : A) → test x ≡ true → plain (write x) ≡ true) → (xs : List A) → list_all test xs ≡ true → list_all plain (map write xs) ≡ true
each_plain write test is [] h = refl
each_plain write test is (x ∷ xs) h =
    let parts = and_parts (test x) (list_all test xs) h in
    and_from (plain (write x)) (list_all plain (map write xs)) (is x parts.0) (each_plain write test is xs parts.1)

pub all_weaker : {A : Type 0} (test weaker : A → Bool) → ((x : A) → test x ≡ true → weaker x ≡ true) → (xs : List A) → list_all test xs ≡ true → list_all weaker xs ≡ true
all_weaker test weaker follows [] h = refl
all_weaker test weaker follows (x ∷ xs) h =
    let parts = and_parts (test x) (list_all test xs) h in
    and_from (weaker x) (list_all weaker xs) (follows x parts.0) (all_weaker test weaker follows xs parts.1)

-- ---- the first piece

pub cut_all : (sep : ℕ) (bs : List ℕ) (n : ℕ) → n ≡ length bs → lacks sep (take n bs) ≡ true → cut sep bs ≡ bs ∷ []
cut_all sep bs n e h = cut-whole sep bs (ap (lacks sep) (sym (take_all n bs (omega arith))) ∙ h)

split_here : (bs : List ℕ) (n : ℕ) → n < length bs → bs ≡ take n bs ++ (get_or bs n 0 ∷ drop (n + 1) bs)
split_here [] n l = absurd (omega arith)
split_here (b ∷ bs) zero l = refl
split_here (b ∷ bs) (suc n) l = let e : suc n + 1 ≡ suc (n + 1) = omega arith in rw e (ap (λ x. b ∷ x) (split_here bs n (omega arith)))

pub split_at : (sep : ℕ) (bs : List ℕ) (n : ℕ) → n < length bs → get_or bs n 0 ≡ sep → bs ≡ take n bs ++ (sep ∷ drop (n + 1) bs)
split_at sep bs n l e = split_here bs n l ∙ ap (λ b. take n bs ++ (b ∷ drop (n + 1) bs)) e

pub cut_first : (sep : ℕ) (bs : List ℕ) (n : ℕ) → n < length bs → lacks sep (take n bs) ≡ true → get_or bs n 0 ≡ sep → cut sep bs ≡ take n bs ∷ cut sep (drop (n + 1) bs)
cut_first sep bs n l h e = ap (cut sep) (split_at sep bs n l e) ∙ cut-before sep (take n bs) (drop (n + 1) bs) h

-- ---- digits one after the other

ten : (i : ℕ) → i < 25 → 10 ^ i ≤ 10 ^ 24
ten i l = let h : i ≤ 24 = omega arith in pow-le-pow_right (lit< tt) h

pub digit_fits : (n d i : ℕ) → n < 10 ^ i → i < 25 → d < 10 → n * 10 + d < 2 ^ 128
digit_fits n d i h l e = omega (arith, ten i l)

pub below_all : (n i : ℕ) → n < 10 ^ i → i ≤ 25 → n < 10 ^ 25
below_all n i h l = let p : 10 ^ i ≤ 10 ^ 25 = pow-le-pow_right (lit< tt) l in omega arith
