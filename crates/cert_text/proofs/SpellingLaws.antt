-- Each line has one spelling, and the spelling is read.
use Rattle.std.proofs.Common.{ℕ, ◌≡◌, ◌^◌, ◌≤◌, arith, refl, sym, ◌∙◌, ap, suc, Bool, true, cond, not, ◌&&◌, List, [], ◌∷◌, map, length, inl, inr, subst}
use Rattle.std.specs.Prelude.{◌==◌, nat_le, Option, Some, None, ℤ, pos, negsuc, codes, option_map}
use Rattle.std.specs.List.{list_all}
use Rattle.std.specs.Str.{bytes_eq}
use Rattle.std.specs.Fmt.{decimal, signed_decimal}
use Rattle.std.proofs.lemmas.Bool.{and_parts, and_from, eq-eqb, eqb-true, true≢false, cases_Bool, cond_both, le-leb, leb-true}
use Rattle.std.proofs.lemmas.Option.{same_Some, none-some, cond_some}
use Rattle.duality.specs.declared.row.RowName.{RowName}
use Rattle.duality.specs.declared.row.RowName.TheVariants.{Base, Cut as CutRow, Level as LevelRow}
use Rattle.duality.specs.declared.row.Term.{Term}
use Rattle.duality.specs.declared.leaf.Leaf.{Leaf}
use Rattle.duality.specs.declared.leaf.Node.TheVariants.{Branch, Leaf as Closing, OpenEnd, Same}
use Rattle.duality.specs.Sums.{rises, is_small}
use Rattle.cert_text.specs.declared.lines.CertLine.{CertLine}
use Rattle.cert_text.specs.declared.lines.CertLine.TheVariants.{Head, Sizes, Choice, Values, Cuts, Cut, Level, Unfinished, Node, End}
use Rattle.cert_text.specs.Numbers.{lacks, cut, joined, opt_then, number_of, number_up_to, signed_of, each_of}
use Rattle.cert_text.specs.Spelling.{row_text, term_fields, leaf_fields, counted, fields_of, line_text, row_in_bounds, is_zero, term_in_bounds, leaf_in_bounds, in_bounds, is_rising, small_number, value_of, row_named, row_of, term_of, terms_of, counted_terms, leaf_of, only_number, pair_of, as_many, counted_of, six_of, values_of, leaf_number, open_line, node_line, level_line, first_line, line_in, line_of}
use Rattle.cert_text.proofs.NumberLaws.{joined-cut, cut-joined, bytes_are, number_is, number_reads, opt_then_is, up_to_is, up_to_reads, signed_is, signed_reads, plain, decimal_plain, signed_plain_bytes, plain_lacks_blank, all_lack_blank, joined_lacks_feed, each_is, each_reads, each_plain, all_weaker}

-- ---- small numbers

small_reads : (n : ℕ) → nat_le n 200000 ≡ true → small_number (decimal n) ≡ Some n
small_reads n h = up_to_reads 200000 n (omega arith) h

small_plain : (n : ℕ) → nat_le n 200000 ≡ true → plain (decimal n) ≡ true
small_plain n h = decimal_plain n (omega (arith, leb-true n 200000 h))

abbrev all_small : List ℕ → Bool
all_small ns = list_all (λ n. nat_le n 200000) ns

le_small : (m : ℕ) → m ≤ 200000 → (n : ℕ) → nat_le n m ≡ true → nat_le n 200000 ≡ true
le_small m l n h = le-leb n 200000 (omega (arith, leb-true n m h))

one_small : (m n : ℕ) → m ≤ 200000 → nat_le n m ≡ true → all_small (n ∷ []) ≡ true
one_small m n l h = and_from (nat_le n 200000) true (le_small m l n h) refl

counted_small : (m k : ℕ) (ns : List ℕ) → m ≤ 200000 → k ≤ 200000 → nat_le (length ns) m ≡ true → list_all (λ n. nat_le n k) ns ≡ true → all_small (length ns ∷ ns) ≡ true
counted_small m k ns l j count each = and_from (nat_le (length ns) 200000) (all_small ns) (le_small m l (length ns) count) (all_weaker (λ n. nat_le n k) (λ n. nat_le n 200000) (le_small k j) ns each)

numbers_read : (ns : List ℕ) → all_small ns ≡ true → each_of small_number (map decimal ns) ≡ Some ns
numbers_read ns h = each_reads small_number decimal (λ n. nat_le n 200000) small_reads ns h

only_reads : (m n : ℕ) → m ≤ 200000 → nat_le n m ≡ true → only_number (map decimal (n ∷ [])) ≡ Some n
only_reads m n l h = small_reads n (le_small m l n h)

counted_reads : (m k : ℕ) (ns : List ℕ) → m ≤ 200000 → k ≤ 200000 → nat_le (length ns) m ≡ true → list_all (λ n. nat_le n k) ns ≡ true → counted_of m (counted ns) ≡ Some ns
counted_reads m k ns l j count each =
    rw (up_to_reads m (length ns) (omega arith) count, numbers_read ns (all_weaker (λ n. nat_le n k) (λ n. nat_le n 200000) (le_small k j) ns each), eq-eqb (length ns) (length ns) refl) refl

-- ---- values and leaves

value_small : (z : ℤ) → is_small (10 ^ 12) z ≡ true → is_small (10 ^ 24) z ≡ true
value_small (pos n) h = le-leb n (10 ^ 24) (omega (arith, leb-true n (10 ^ 12) h))
value_small (negsuc n) h = le-leb (suc n) (10 ^ 24) (omega (arith, leb-true (suc n) (10 ^ 12) h))

value_reads : (z : ℤ) → is_small (10 ^ 12) z ≡ true → value_of (signed_decimal z) ≡ Some z
value_reads z h = rw (signed_reads z (value_small z h), h) refl

value_is : (f : List ℕ) (z : ℤ) → value_of f ≡ Some z → f ≡ signed_decimal z
value_is f z h =
    let r = opt_then_is (signed_of f) (λ z. cond (is_small (10 ^ 12) z) (Some z) None) z h in
    let e = cond_some (is_small (10 ^ 12) r.0) r.0 z r.2 in
    signed_is f r.0 r.1 ∙ ap signed_decimal e.1

row_small : (r : RowName) → row_in_bounds r ≡ true → row_of (row_text r) ≡ Some r
row_small (Base r) h = ap (row_named 98) (small_reads r (le_small 3999 (omega arith) r h))
row_small (CutRow c) h = ap (row_named 99) (small_reads c (le_small 999 (omega arith) c h))
row_small (LevelRow j) h = ap (row_named 108) (small_reads j (le_small 5 (omega arith) j (and_parts (nat_le 1 j) (nat_le j 5) h).1))

row_plain : (r : RowName) → row_in_bounds r ≡ true → plain (row_text r) ≡ true
row_plain (Base r) h = small_plain r (le_small 3999 (omega arith) r h)
row_plain (CutRow c) h = small_plain c (le_small 999 (omega arith) c h)
row_plain (LevelRow j) h = small_plain j (le_small 5 (omega arith) j (and_parts (nat_le 1 j) (nat_le j 5) h).1)

row_is : (f : List ℕ) (r : RowName) → row_of f ≡ Some r → f ≡ row_text r
row_is [] r h = absurd (none-some r h)
row_is (letter ∷ digits) r h = go (small_number digits) refl h
  where
    go : (o : Option ℕ) → o ≡ small_number digits → row_named letter o ≡ Some r → letter ∷ digits ≡ row_text r
    go None e h = absurd (none-some r h)
    go (Some n) e h =
        let spelt : digits ≡ decimal n = up_to_is 200000 digits n (sym e) in
        elim (cases_Bool (letter == 98)) [
          | inl b ↦
              let is : Base n ≡ r = same_Some (Base n) r (sym (ap (λ t. cond t (Some (Base n)) (cond (letter == 99) (Some (CutRow n)) (cond (letter == 108) (Some (LevelRow n)) None))) b) ∙ h) in
              ap (λ c. c ∷ digits) (eqb-true letter 98 b) ∙ ap (λ ds. 98 ∷ ds) spelt ∙ ap row_text is
          | inr not_b ↦
              let h2 : cond (letter == 99) (Some (CutRow n)) (cond (letter == 108) (Some (LevelRow n)) None) ≡ Some r = sym (ap (λ t. cond t (Some (Base n)) (cond (letter == 99) (Some (CutRow n)) (cond (letter == 108) (Some (LevelRow n)) None))) not_b) ∙ h in
              elim (cases_Bool (letter == 99)) [
                | inl c ↦
                    let is : CutRow n ≡ r = same_Some (CutRow n) r (sym (ap (λ t. cond t (Some (CutRow n)) (cond (letter == 108) (Some (LevelRow n)) None)) c) ∙ h2) in
                    ap (λ x. x ∷ digits) (eqb-true letter 99 c) ∙ ap (λ ds. 99 ∷ ds) spelt ∙ ap row_text is
                | inr not_c ↦
                    let h3 : cond (letter == 108) (Some (LevelRow n)) None ≡ Some r = sym (ap (λ t. cond t (Some (CutRow n)) (cond (letter == 108) (Some (LevelRow n)) None)) not_c) ∙ h2 in
                    let e3 = cond_some (letter == 108) (LevelRow n) r h3 in
                    ap (λ x. x ∷ digits) (eqb-true letter 108 e3.0) ∙ ap (λ ds. 108 ∷ ds) spelt ∙ ap row_text e3.1
              ]
        ]

terms_read : (ts : List Term) → list_all term_in_bounds ts ≡ true → terms_of (term_fields ts) ≡ Some ts
terms_read [] h = refl
terms_read (t ∷ ts) h =
    let parts = and_parts (term_in_bounds t) (list_all term_in_bounds ts) h in
    let here = and_parts (row_in_bounds t.row) (not (is_zero t.times) && is_small (10 ^ 24) t.times) parts.0 in
    let times = and_parts (not (is_zero t.times)) (is_small (10 ^ 24) t.times) here.1 in
    rw (row_small t.row here.0, signed_reads t.times times.1, terms_read ts parts.1) refl

terms_plain : (ts : List Term) → list_all term_in_bounds ts ≡ true → list_all plain (term_fields ts) ≡ true
terms_plain [] h = refl
terms_plain (t ∷ ts) h =
    let parts = and_parts (term_in_bounds t) (list_all term_in_bounds ts) h in
    let here = and_parts (row_in_bounds t.row) (not (is_zero t.times) && is_small (10 ^ 24) t.times) parts.0 in
    let times = and_parts (not (is_zero t.times)) (is_small (10 ^ 24) t.times) here.1 in
    and_from (plain (row_text t.row)) (plain (signed_decimal t.times) && list_all plain (term_fields ts)) (row_plain t.row here.0)
    (and_from (plain (signed_decimal t.times)) (list_all plain (term_fields ts)) (signed_plain_bytes t.times times.1) (terms_plain ts parts.1))

abbrev term_with : RowName → ℤ → Term
term_with row times = record { row = row; times = times }

terms_are : (fs : List (List ℕ)) (ts : List Term) → terms_of fs ≡ Some ts → fs ≡ term_fields ts
terms_are [] ts h = ap term_fields (same_Some [] ts h)
terms_are (r ∷ []) ts h = absurd (none-some ts h)
terms_are (r ∷ (m ∷ fs)) ts h =
    let t = opt_then_is (term_of r m) (λ u. opt_then (terms_of fs) (λ us. Some (u ∷ us))) ts h in
    let a = opt_then_is (row_of r) (λ row. opt_then (signed_of m) (λ times. Some (record { row = row; times = times }))) t.0 t.1 in
    let b = opt_then_is (signed_of m) (λ times. Some (record { row = a.0; times = times })) t.0 a.2 in
    let c = opt_then_is (terms_of fs) (λ us. Some (t.0 ∷ us)) ts t.2 in
    let whole : ◌≡◌ {A = Term} (record { row = a.0; times = b.0 }) t.0 = same_Some (term_with a.0 b.0) t.0 b.2 in
    ap (λ x. x ∷ (m ∷ fs)) (row_is r a.0 a.1)
    ∙ ap (λ x. row_text a.0 ∷ (x ∷ fs)) (signed_is m b.0 b.1)
    ∙ ap (λ x. row_text a.0 ∷ (signed_decimal b.0 ∷ x)) (terms_are fs c.0 c.1)
    ∙ ap (λ u. term_fields (u ∷ c.0)) whole
    ∙ ap term_fields (same_Some (t.0 ∷ c.0) ts c.2)

abbrev leaf_with : ℤ → List Term → Leaf
leaf_with d ts = record { scale = d; terms = ts }

leaf_read : (d : ℤ) (ts : List Term) → leaf_in_bounds (leaf_with d ts) ≡ true → leaf_of (leaf_fields (leaf_with d ts)) ≡ Some (leaf_with d ts)
leaf_read (negsuc n) ts h = absurd (true≢false (sym h))
leaf_read (pos n) ts h =
    let parts = and_parts (nat_le n (10 ^ 24)) (nat_le (length ts) 5005 && (list_all term_in_bounds ts && rises ts)) h in
    let count = and_parts (nat_le (length ts) 5005) (list_all term_in_bounds ts && rises ts) parts.1 in
    let each = and_parts (list_all term_in_bounds ts) (rises ts) count.1 in
    rw (number_reads n (leb-true n (10 ^ 24) parts.0), up_to_reads 5005 (length ts) (omega arith) count.0, terms_read ts each.0, eq-eqb (length ts) (length ts) refl) refl

-- ---- lines

pub line_reads : (l : CertLine) → in_bounds l ≡ true → line_in (fields_of l) ≡ Some l
line_reads (Head v) h = ap (option_map Head) (only_reads 2 v (omega arith) (and_parts (nat_le 1 v) (nat_le v 2) h).1)
line_reads (Sizes p r) h =
    let parts = and_parts (nat_le p 200000) (nat_le r 4000) h in
    rw (small_reads p parts.0, small_reads r (le_small 4000 (omega arith) r parts.1)) refl
line_reads (Choice es) h =
    let parts = and_parts (nat_le (length es) 4000) (list_all (λ entry. nat_le entry 200) es) h in
    ap (option_map Choice) (counted_reads 4000 200 es (omega arith) (omega arith) parts.0 parts.1)
line_reads (Values vs) h =
    let parts = and_parts (length vs == 6) (list_all (is_small (10 ^ 12)) vs) h in
    rw (each_reads value_of signed_decimal (is_small (10 ^ 12)) value_reads vs parts.1, parts.0) refl
line_reads (Cuts k) h = ap (option_map Cuts) (only_reads 1000 k (omega arith) h)
line_reads (Cut ps) h =
    let parts = and_parts (nat_le 2 (length ps)) (nat_le (length ps) 1000 && (list_all (λ p. nat_le p 199999) ps && is_rising ps)) h in
    let count = and_parts (nat_le (length ps) 1000) (list_all (λ p. nat_le p 199999) ps && is_rising ps) parts.1 in
    let each = and_parts (list_all (λ p. nat_le p 199999) ps) (is_rising ps) count.1 in
    ap (option_map Cut) (counted_reads 1000 199999 ps (omega arith) (omega arith) count.0 each.0)
line_reads (Level j) h = ap (option_map Level) (only_reads 6 j (omega arith) h)
line_reads (Unfinished j) h = ap (option_map Unfinished) (only_reads 6 j (omega arith) h)
line_reads (Node (Branch p)) h = ap (option_map (λ q. Node (Branch q))) (only_reads 199999 p (omega arith) h)
line_reads (Node (Closing leaf)) h = ap (option_map (λ x. Node (Closing x))) (leaf_read leaf.scale leaf.terms h)
line_reads (Node OpenEnd) h = refl
line_reads (Node (Same q)) h = ap (option_map (λ n. Node (Same n))) (up_to_reads 9223372036854775807 q (omega arith) h)
line_reads (End n) h = ap (option_map End) (only_reads 6 n (omega arith) h)

abbrev Spelt : List (List ℕ) → Option CertLine → Type 0
Spelt fs None = Unit {0}
Spelt fs (Some l) = fs ≡ fields_of l

-- what the fields behind a word make
made : {A : Type 0} (w : List ℕ) (make : A → CertLine) (write : A → List (List ℕ)) → ((x : A) → fields_of (make x) ≡ w ∷ write x) → (fs : List (List ℕ)) (o : Option A) → ((x : A) → o ≡ Some x → fs ≡ write x) → Spelt (w ∷ fs) (option_map make o)
made w make write same fs None is = tt
made w make write same fs (Some x) is = ap (λ gs. w ∷ gs) (is x refl) ∙ sym (same x)

only_is : (fs : List (List ℕ)) (n : ℕ) → only_number fs ≡ Some n → fs ≡ map decimal (n ∷ [])
only_is [] n h = absurd (none-some n h)
only_is (f ∷ []) n h = ap (λ g. g ∷ []) (up_to_is 200000 f n h)
only_is (f ∷ (g ∷ fs)) n h = absurd (none-some n h)

abbrev pair_fields : ℕ × ℕ → List (List ℕ)
pair_fields p = map decimal (p.0 ∷ (p.1 ∷ []))

pair_is : (fs : List (List ℕ)) (p : ℕ × ℕ) → pair_of fs ≡ Some p → fs ≡ pair_fields p
pair_is [] p h = absurd (none-some p h)
pair_is (f ∷ []) p h = absurd (none-some p h)
pair_is (f ∷ (g ∷ [])) p h =
    let a = opt_then_is (small_number f) (λ n. opt_then (small_number g) (λ m. Some (n, m))) p h in
    let b = opt_then_is (small_number g) (λ m. Some (a.0, m)) p a.2 in
    ap (λ x. x ∷ (g ∷ [])) (up_to_is 200000 f a.0 a.1) ∙ ap (λ x. decimal a.0 ∷ (x ∷ [])) (up_to_is 200000 g b.0 b.1) ∙ ap pair_fields (same_Some (a.0, b.0) p b.2)
pair_is (f ∷ (g ∷ (k ∷ fs))) p h = absurd (none-some p h)

counted_is : (limit : ℕ) (fs : List (List ℕ)) (ns : List ℕ) → counted_of limit fs ≡ Some ns → fs ≡ counted ns
counted_is limit [] ns h = absurd (none-some ns h)
counted_is limit (f ∷ fs) ns h = go (number_up_to limit f) (each_of small_number fs) refl refl h
  where
    go : (a : Option ℕ) (b : Option (List ℕ)) → a ≡ number_up_to limit f → b ≡ each_of small_number fs → as_many a b ≡ Some ns → f ∷ fs ≡ counted ns
    go None b p q h = absurd (none-some ns h)
    go (Some count) None p q h = absurd (none-some ns h)
    go (Some count) (Some ms) p q h =
        let e = cond_some (count == length ms) ms ns h in
        ap (λ x. x ∷ fs) (up_to_is limit f count (sym p) ∙ ap decimal (eqb-true count (length ms) e.0))
        ∙ ap (λ xs. decimal (length ms) ∷ xs) (each_is small_number decimal (up_to_is 200000) fs ms (sym q))
        ∙ ap counted e.1

values_are : (fs : List (List ℕ)) (vs : List ℤ) → values_of fs ≡ Some vs → fs ≡ map signed_decimal vs
values_are fs vs h = go (each_of value_of fs) refl h
  where
    go : (o : Option (List ℤ)) → o ≡ each_of value_of fs → six_of o ≡ Some vs → fs ≡ map signed_decimal vs
    go None p h = absurd (none-some vs h)
    go (Some us) p h = each_is value_of signed_decimal value_is fs us (sym p) ∙ ap (map signed_decimal) (cond_some (length us == 6) us vs h).1

leaf_is : (fs : List (List ℕ)) (leaf : Leaf) → leaf_of fs ≡ Some leaf → fs ≡ leaf_fields leaf
leaf_is [] leaf h = absurd (none-some leaf h)
leaf_is (d ∷ []) leaf h = absurd (none-some leaf h)
leaf_is (d ∷ (t ∷ fs)) leaf h =
    let a = opt_then_is (number_of d) (λ n. counted_terms (pos n) (number_up_to 5005 t) (terms_of fs)) leaf h in
    ap (λ x. x ∷ (t ∷ fs)) (number_is d a.0 a.1) ∙ go a.0 (number_up_to 5005 t) (terms_of fs) refl refl a.2
  where
    go : (n : ℕ) (a : Option ℕ) (b : Option (List Term)) → a ≡ number_up_to 5005 t → b ≡ terms_of fs → counted_terms (pos n) a b ≡ Some leaf → decimal n ∷ (t ∷ fs) ≡ leaf_fields leaf
    go n None b p q h = absurd (none-some leaf h)
    go n (Some count) None p q h = absurd (none-some leaf h)
    go n (Some count) (Some ts) p q h =
        let e = cond_some (count == length ts) (leaf_with (pos n) ts) leaf h in
        ap (λ x. decimal n ∷ (x ∷ fs)) (up_to_is 5005 t count (sym p) ∙ ap decimal (eqb-true count (length ts) e.0))
        ∙ ap (λ xs. decimal n ∷ (decimal (length ts) ∷ xs)) (terms_are fs ts (sym q))
        ∙ ap leaf_fields e.1

same_is : (fs : List (List ℕ)) (q : ℕ) → leaf_number fs ≡ Some q → fs ≡ map decimal (q ∷ [])
same_is [] q h = absurd (none-some q h)
same_is (f ∷ []) q h = ap (λ g. g ∷ []) (up_to_is 9223372036854775807 f q h)
same_is (f ∷ (g ∷ fs)) q h = absurd (none-some q h)

open_is : (fs : List (List ℕ)) → Spelt (codes "open" ∷ fs) (open_line fs)
open_is [] = refl
open_is (f ∷ fs) = tt

word : (w k : List ℕ) (fs : List (List ℕ)) (x y : Option CertLine) → Spelt (k ∷ fs) x → Spelt (w ∷ fs) y → Spelt (w ∷ fs) (cond (bytes_eq w k) x y)
word w k fs x y p q = cond_both (bytes_eq w k) x y (Spelt (w ∷ fs)) (λ e. subst (λ v. Spelt (v ∷ fs) x) (sym (bytes_are w k e)) p) (λ e. q)

one_line : (w : List ℕ) (make : ℕ → CertLine) → ((n : ℕ) → fields_of (make n) ≡ w ∷ map decimal (n ∷ [])) → (fs : List (List ℕ)) → Spelt (w ∷ fs) (option_map make (only_number fs))
one_line w make same fs = made w make (λ n. map decimal (n ∷ [])) same fs (only_number fs) (only_is fs)

many_line : (w : List ℕ) (make : List ℕ → CertLine) (limit : ℕ) → ((ns : List ℕ) → fields_of (make ns) ≡ w ∷ counted ns) → (fs : List (List ℕ)) → Spelt (w ∷ fs) (option_map make (counted_of limit fs))
many_line w make limit same fs = made w make counted same fs (counted_of limit fs) (counted_is limit fs)

node_is : (w : List ℕ) (fs : List (List ℕ)) (other : Option CertLine) → Spelt (w ∷ fs) other → Spelt (w ∷ fs) (node_line w fs other)
node_is w fs other h =
    word w (codes "branch") fs _ _ (one_line (codes "branch") (λ p. Node (Branch p)) (λ n. refl) fs)
    (word w (codes "leaf") fs _ _ (made (codes "leaf") (λ leaf. Node (Closing leaf)) leaf_fields (λ leaf. refl) fs (leaf_of fs) (leaf_is fs))
    (word w (codes "same") fs _ _ (made (codes "same") (λ q. Node (Same q)) (λ q. map decimal (q ∷ [])) (λ q. refl) fs (leaf_number fs) (same_is fs))
    (word w (codes "open") fs _ _ (open_is fs)
    (word w (codes "cut") fs _ _ (many_line (codes "cut") Cut 1000 (λ ns. refl) fs) h))))

level_is : (w : List ℕ) (fs : List (List ℕ)) (other : Option CertLine) → Spelt (w ∷ fs) other → Spelt (w ∷ fs) (level_line w fs other)
level_is w fs other h =
    word w (codes "level") fs _ _ (one_line (codes "level") Level (λ n. refl) fs)
    (word w (codes "unfinished") fs _ _ (one_line (codes "unfinished") Unfinished (λ n. refl) fs)
    (word w (codes "end") fs _ _ (one_line (codes "end") End (λ n. refl) fs)
    (word w (codes "cuts") fs _ _ (one_line (codes "cuts") Cuts (λ n. refl) fs) h)))

first_is : (w : List ℕ) (fs : List (List ℕ)) (other : Option CertLine) → Spelt (w ∷ fs) other → Spelt (w ∷ fs) (first_line w fs other)
first_is w fs other h =
    word w (codes "rooms-certificate") fs _ _ (one_line (codes "rooms-certificate") Head (λ n. refl) fs)
    (word w (codes "model") fs _ _ (made (codes "model") (λ p. Sizes p.0 p.1) pair_fields (λ p. refl) fs (pair_of fs) (pair_is fs))
    (word w (codes "choice") fs _ _ (many_line (codes "choice") Choice 4000 (λ ns. refl) fs)
    (word w (codes "values") fs _ _ (made (codes "values") Values (map signed_decimal) (λ vs. refl) fs (values_of fs) (values_are fs)) h)))

line_is : (fs : List (List ℕ)) → Spelt fs (line_in fs)
line_is [] = tt
line_is (w ∷ fs) = node_is w fs _ (level_is w fs _ (first_is w fs None tt))

-- a line that is read is spelled so, and is in its bounds
pub line_of-is : (bytes : List ℕ) (l : CertLine) → line_of bytes ≡ Some l → (bytes ≡ line_text l) × (in_bounds l ≡ true)
line_of-is bytes l h =
    let r = opt_then_is (line_in (cut 32 bytes)) (λ l. cond (in_bounds l) (Some l) None) l h in
    let e = cond_some (in_bounds r.0) r.0 l r.2 in
    let read : line_in (cut 32 bytes) ≡ Some l = r.1 ∙ ap Some e.1 in
    (sym (joined-cut 32 bytes) ∙ ap (joined 32) (subst (Spelt (cut 32 bytes)) read (line_is (cut 32 bytes))), ap in_bounds (sym e.1) ∙ e.0)

record IsLine (l : CertLine) : Type 0 where
  pub word : List ℕ
  pub rest : List (List ℕ)
  pub fields : fields_of l ≡ word ∷ rest
  pub first : plain word ≡ true
  pub others : list_all plain rest ≡ true

numbers_plain : (ns : List ℕ) → all_small ns ≡ true → list_all plain (map decimal ns) ≡ true
numbers_plain ns h = each_plain decimal (λ n. nat_le n 200000) small_plain ns h

is_line : (l : CertLine) → in_bounds l ≡ true → IsLine l
is_line (Head v) h = record { word = codes "rooms-certificate"; rest = map decimal (v ∷ []); fields = refl; first = refl; others = numbers_plain (v ∷ []) (one_small 2 v (omega arith) (and_parts (nat_le 1 v) (nat_le v 2) h).1) }
is_line (Sizes p r) h =
    let parts = and_parts (nat_le p 200000) (nat_le r 4000) h in
    record { word = codes "model"; rest = map decimal (p ∷ (r ∷ [])); fields = refl; first = refl; others = numbers_plain (p ∷ (r ∷ [])) (and_from (nat_le p 200000) (all_small (r ∷ [])) parts.0 (one_small 4000 r (omega arith) parts.1)) }
is_line (Choice es) h =
    let parts = and_parts (nat_le (length es) 4000) (list_all (λ entry. nat_le entry 200) es) h in
    record { word = codes "choice"; rest = counted es; fields = refl; first = refl; others = numbers_plain (length es ∷ es) (counted_small 4000 200 es (omega arith) (omega arith) parts.0 parts.1) }
is_line (Values vs) h =
    let parts = and_parts (length vs == 6) (list_all (is_small (10 ^ 12)) vs) h in
    record { word = codes "values"; rest = map signed_decimal vs; fields = refl; first = refl; others = each_plain signed_decimal (is_small (10 ^ 12)) (λ z small. signed_plain_bytes z (value_small z small)) vs parts.1 }
is_line (Cuts k) h = record { word = codes "cuts"; rest = map decimal (k ∷ []); fields = refl; first = refl; others = numbers_plain (k ∷ []) (one_small 1000 k (omega arith) h) }
is_line (Cut ps) h =
    let parts = and_parts (nat_le 2 (length ps)) (nat_le (length ps) 1000 && (list_all (λ p. nat_le p 199999) ps && is_rising ps)) h in
    let count = and_parts (nat_le (length ps) 1000) (list_all (λ p. nat_le p 199999) ps && is_rising ps) parts.1 in
    let each = and_parts (list_all (λ p. nat_le p 199999) ps) (is_rising ps) count.1 in
    record { word = codes "cut"; rest = counted ps; fields = refl; first = refl; others = numbers_plain (length ps ∷ ps) (counted_small 1000 199999 ps (omega arith) (omega arith) count.0 each.0) }
is_line (Level j) h = record { word = codes "level"; rest = map decimal (j ∷ []); fields = refl; first = refl; others = numbers_plain (j ∷ []) (one_small 6 j (omega arith) h) }
is_line (Unfinished j) h = record { word = codes "unfinished"; rest = map decimal (j ∷ []); fields = refl; first = refl; others = numbers_plain (j ∷ []) (one_small 6 j (omega arith) h) }
is_line (Node (Branch p)) h = record { word = codes "branch"; rest = map decimal (p ∷ []); fields = refl; first = refl; others = numbers_plain (p ∷ []) (one_small 199999 p (omega arith) h) }
is_line (Node (Closing leaf)) h = record { word = codes "leaf"; rest = leaf_fields leaf; fields = refl; first = refl; others = leaf_plain leaf.scale leaf.terms h }
  where
    leaf_plain : (d : ℤ) (ts : List Term) → leaf_in_bounds (leaf_with d ts) ≡ true → list_all plain (leaf_fields (leaf_with d ts)) ≡ true
    leaf_plain (negsuc n) ts h = absurd (true≢false (sym h))
    leaf_plain (pos n) ts h =
        let parts = and_parts (nat_le n (10 ^ 24)) (nat_le (length ts) 5005 && (list_all term_in_bounds ts && rises ts)) h in
        let count = and_parts (nat_le (length ts) 5005) (list_all term_in_bounds ts && rises ts) parts.1 in
        let each = and_parts (list_all term_in_bounds ts) (rises ts) count.1 in
        and_from (plain (decimal n)) (plain (decimal (length ts)) && list_all plain (term_fields ts)) (decimal_plain n (leb-true n (10 ^ 24) parts.0))
        (and_from (plain (decimal (length ts))) (list_all plain (term_fields ts)) (small_plain (length ts) (le_small 5005 (omega arith) (length ts) count.0)) (terms_plain ts each.0))
is_line (Node OpenEnd) h = record { word = codes "open"; rest = []; fields = refl; first = refl; others = refl }
is_line (Node (Same q)) h =
    let small : q ≤ 10 ^ 24 = omega (arith, leb-true q 9223372036854775807 h) in
    record { word = codes "same"; rest = map decimal (q ∷ []); fields = refl; first = refl; others = and_from (plain (decimal q)) true (decimal_plain q small) refl }
is_line (End n) h = record { word = codes "end"; rest = map decimal (n ∷ []); fields = refl; first = refl; others = numbers_plain (n ∷ []) (one_small 6 n (omega arith) h) }

-- and what is written is read
pub line_of-reads : (l : CertLine) → in_bounds l ≡ true → line_of (line_text l) ≡ Some l
line_of-reads l h =
    let is = is_line l h in
    let split : cut 32 (line_text l) ≡ fields_of l =
    ap (λ x. cut 32 (joined 32 x)) is.fields ∙ cut-joined 32 is.word is.rest (plain_lacks_blank is.word is.first) (all_lack_blank is.rest is.others) ∙ sym is.fields in
    ap (λ fs. opt_then (line_in fs) (λ l. cond (in_bounds l) (Some l) None)) split
    ∙ ap (λ o. opt_then o (λ l. cond (in_bounds l) (Some l) None)) (line_reads l h)
    ∙ ap (λ b. cond b (Some l) None) h

pub line_lacks_feed : (l : CertLine) → in_bounds l ≡ true → lacks 10 (line_text l) ≡ true
line_lacks_feed l h =
    let is = is_line l h in
    ap (λ x. lacks 10 (joined 32 x)) is.fields ∙ joined_lacks_feed (is.word ∷ is.rest) (and_from (plain is.word) (list_all plain is.rest) is.first is.others)
