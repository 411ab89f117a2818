-- No line inside its bounds is longer than the limit; so a line of which that much is kept is read as the line.
use Rattle.std.proofs.Common.{ℕ, ◌≡◌, ◌+◌, ◌*◌, ◌^◌, ◌<◌, ◌≤◌, arith, refl, sym, ◌∙◌, ap, subst, suc, zero, true, not, ◌&&◌, List, [], ◌∷◌, ◌++◌, map, length, length-append, take, inl, inr, cond}
use Rattle.std.specs.Prelude.{nat_le, ◌==◌, Option, Some, None, ℤ, pos, negsuc, Err}
use Rattle.std.specs.List.{list_all}
use Rattle.std.specs.Fmt.{decimal, signed_decimal}
use Rattle.std.proofs.lemmas.Bool.{and_parts, and_from, not-true, le-leb, leb-true, eqb-true, cases_lt, true≢false}
use Rattle.std.proofs.lemmas.List.{take_all, take-append-le}
use Rattle.std.proofs.lemmas.Fmt.{length-decimal-le_wide}
use Rattle.duality.specs.declared.row.RowName.{RowName}
use Rattle.duality.specs.declared.row.RowName.TheVariants.{Base, Cut as CutRow, Level as LevelRow}
use Rattle.duality.specs.declared.row.Term.{Term}
use Rattle.duality.specs.declared.leaf.Leaf.{Leaf}
use Rattle.duality.specs.declared.leaf.Node.TheVariants.{Branch, Leaf as Closing, OpenEnd, Same}
use Rattle.duality.specs.Sums.{rises, is_small}
use Rattle.cert_text.specs.declared.lines.CertLine.{CertLine}
use Rattle.cert_text.specs.declared.lines.CertLine.TheVariants.{Head, Sizes, Choice, Values, Cuts, Cut, Level, Unfinished, Node, End}
use Rattle.cert_text.specs.Numbers.{cut, onto, lacks, joined, opt_then}
use Rattle.cert_text.specs.Spelling.{row_text, term_fields, counted, fields_of, line_text, row_in_bounds, is_zero, scale_in_bounds, term_in_bounds, in_bounds, is_rising, line_of}
use Rattle.cert_text.specs.Text.{Standing, steps, takes, whole_lines, rest_of, pieces_before, last_of, read_from}
use Rattle.cert_text.specs.Kept.{IsKept}
use Rattle.cert_text.proofs.SpellingLaws.{line_of-is}
use Rattle.cert_text.proofs.TextLaws.{cut_some}

-- ---- lengths

-- the fields, each with one blank
abbrev width : List (List ℕ) → ℕ
width [] = 0
width (f ∷ fs) = length f + 1 + width fs

joined_width : (f : List ℕ) (fs : List (List ℕ)) → length (joined 32 (f ∷ fs)) + 1 ≡ width (f ∷ fs)
joined_width f [] = omega arith
joined_width f (g ∷ fs) = omega (arith, joined_width g fs, length-append f (32 ∷ joined 32 (g ∷ fs)))

decimal_short : (k n m : ℕ) → 0 < k → m < 10 ^ k → m < 10 ^ 64 → nat_le n m ≡ true → length (decimal n) ≤ k
decimal_short k n m some fits small h = length-decimal-le_wide k n some (omega (arith, leb-true n m h)) (omega (arith, leb-true n m h))

-- a number of at most 24 zeros and a sign
signed_short : (z : ℤ) → is_small (10 ^ 24) z ≡ true → length (signed_decimal z) ≤ 26
signed_short (pos n) h = omega (arith, decimal_short 25 n (10 ^ 24) (omega arith) (omega arith) (omega arith) h)
signed_short (negsuc n) h = omega (arith, decimal_short 25 (suc n) (10 ^ 24) (omega arith) (omega arith) (omega arith) h)

one_width : (n m : ℕ) → m < 10 ^ 19 → nat_le n m ≡ true → width (map decimal (n ∷ [])) ≤ 20
one_width n m fits h = omega (arith, decimal_short 19 n m (omega arith) fits (omega arith) h)

numbers_width : (ns : List ℕ) (m : ℕ) → m < 10 ^ 6 → list_all (λ n. nat_le n m) ns ≡ true → width (map decimal ns) ≤ length ns * 7
numbers_width [] m fits h = omega arith
numbers_width (n ∷ ns) m fits h =
    let parts = and_parts (nat_le n m) (list_all (λ k. nat_le k m) ns) h in
    omega (arith, decimal_short 6 n m (omega arith) fits (omega arith) parts.0, numbers_width ns m fits parts.1)

counted_width : (ns : List ℕ) (k m : ℕ) → k < 10 ^ 6 → m < 10 ^ 6 → nat_le (length ns) k ≡ true → list_all (λ n. nat_le n m) ns ≡ true → width (counted ns) ≤ 7 + length ns * 7
counted_width ns k m few fits count each = omega (arith, decimal_short 6 (length ns) k (omega arith) few (omega arith) count, numbers_width ns m fits each)

values_width : (vs : List ℤ) → list_all (is_small (10 ^ 12)) vs ≡ true → width (map signed_decimal vs) ≤ length vs * 27
values_width [] h = omega arith
values_width (v ∷ vs) h =
    let parts = and_parts (is_small (10 ^ 12) v) (list_all (is_small (10 ^ 12)) vs) h in
    omega (arith, signed_short v (small v parts.0), values_width vs parts.1)
  where
    small : (z : ℤ) → is_small (10 ^ 12) z ≡ true → is_small (10 ^ 24) z ≡ true
    small (pos n) e = le-leb n (10 ^ 24) (omega (arith, leb-true n (10 ^ 12) e))
    small (negsuc n) e = le-leb (suc n) (10 ^ 24) (omega (arith, leb-true (suc n) (10 ^ 12) e))

row_short : (r : RowName) → row_in_bounds r ≡ true → length (row_text r) ≤ 5
row_short (Base r) h = omega (arith, decimal_short 4 r 3999 (omega arith) (omega arith) (omega arith) h)
row_short (CutRow c) h = omega (arith, decimal_short 4 c 999 (omega arith) (omega arith) (omega arith) h)
row_short (LevelRow j) h = omega (arith, decimal_short 4 j 5 (omega arith) (omega arith) (omega arith) (and_parts (nat_le 1 j) (nat_le j 5) h).1)

terms_width : (ts : List Term) → list_all term_in_bounds ts ≡ true → width (term_fields ts) ≤ length ts * 33
terms_width [] h = omega arith
terms_width (t ∷ ts) h =
    let parts = and_parts (term_in_bounds t) (list_all term_in_bounds ts) h in
    let here = and_parts (row_in_bounds t.row) (not (is_zero t.times) && is_small (10 ^ 24) t.times) parts.0 in
    let times = and_parts (not (is_zero t.times)) (is_small (10 ^ 24) t.times) here.1 in
    omega (arith, row_short t.row here.0, signed_short t.times times.1, terms_width ts parts.1)

scale_short : (z : ℤ) → scale_in_bounds z ≡ true → length (signed_decimal z) ≤ 25
scale_short (pos n) h = decimal_short 25 n (10 ^ 24) (omega arith) (omega arith) (omega arith) h
scale_short (negsuc n) h = absurd (true≢false (sym h))

leaf_width : (leaf : Leaf) → in_bounds (Node (Closing leaf)) ≡ true → width (fields_of (Node (Closing leaf))) ≤ 165201
leaf_width leaf h =
    let ts = leaf.terms in
    let parts = and_parts (scale_in_bounds leaf.scale) (nat_le (length ts) 5005 && (list_all term_in_bounds ts && rises ts)) h in
    let count = and_parts (nat_le (length ts) 5005) (list_all term_in_bounds ts && rises ts) parts.1 in
    let each = and_parts (list_all term_in_bounds ts) (rises ts) count.1 in
    omega (arith, scale_short leaf.scale parts.0, decimal_short 4 (length ts) 5005 (omega arith) (omega arith) (omega arith) count.0, leb-true (length ts) 5005 count.0, terms_width ts each.0)

-- the fields of a line inside its bounds
line_width : (l : CertLine) → in_bounds l ≡ true → width (fields_of l) ≤ 165201
line_width (Head v) h = omega (arith, one_width v 2 (omega arith) (and_parts (nat_le 1 v) (nat_le v 2) h).1)
line_width (Sizes p r) h =
    let parts = and_parts (nat_le p 200000) (nat_le r 4000) h in
    omega (arith, one_width p 200000 (omega arith) parts.0, one_width r 4000 (omega arith) parts.1)
line_width (Choice es) h =
    let parts = and_parts (nat_le (length es) 4000) (list_all (λ entry. nat_le entry 200) es) h in
    omega (arith, counted_width es 4000 200 (omega arith) (omega arith) parts.0 parts.1, leb-true (length es) 4000 parts.0)
line_width (Values vs) h =
    let parts = and_parts (length vs == 6) (list_all (is_small (10 ^ 12)) vs) h in
    omega (arith, values_width vs parts.1, eqb-true (length vs) 6 parts.0)
line_width (Cuts k) h = omega (arith, one_width k 1000 (omega arith) h)
line_width (Cut ps) h =
    let parts = and_parts (nat_le 2 (length ps)) (nat_le (length ps) 1000 && (list_all (λ p. nat_le p 199999) ps && is_rising ps)) h in
    let count = and_parts (nat_le (length ps) 1000) (list_all (λ p. nat_le p 199999) ps && is_rising ps) parts.1 in
    let each = and_parts (list_all (λ p. nat_le p 199999) ps) (is_rising ps) count.1 in
    omega (arith, counted_width ps 1000 199999 (omega arith) (omega arith) count.0 each.0, leb-true (length ps) 1000 count.0)
line_width (Level j) h = omega (arith, one_width j 6 (omega arith) h)
line_width (Unfinished j) h = omega (arith, one_width j 6 (omega arith) h)
line_width (Node (Branch p)) h = omega (arith, one_width p 199999 (omega arith) h)
line_width (Node (Closing leaf)) h = leaf_width leaf h
line_width (Node OpenEnd) h = omega arith
line_width (Node (Same q)) h = omega (arith, one_width q 9223372036854775807 (omega arith) h)
line_width (End n) h = omega (arith, one_width n 6 (omega arith) h)

pub line_short : (l : CertLine) → in_bounds l ≡ true → length (line_text l) ≤ 165200
line_short l h = go (fields_of l) refl (line_width l h)
  where
    go : (fs : List (List ℕ)) → fields_of l ≡ fs → width (fields_of l) ≤ 165201 → length (line_text l) ≤ 165200
    go [] e w = subst (λ fs. length (joined 32 fs) ≤ 165200) (sym e) (omega arith)
    go (f ∷ fs) e w = subst (λ gs. length (joined 32 gs) ≤ 165200) (sym e) (omega (arith, joined_width f fs, ap width e))

-- ---- lines that are too long

pub long_line : (bytes : List ℕ) → 165200 < length bytes → line_of bytes ≡ None
long_line bytes long = go (line_of bytes) refl
  where
    go : (o : Option CertLine) → line_of bytes ≡ o → o ≡ None
    go None e = refl
    go (Some l) e =
        let is = line_of-is bytes l e in
        absurd (omega (arith, long, line_short l is.1, ap length is.0))

long_stops : (s : Standing) (line : List ℕ) → 165200 < length line → takes s line ≡ None
long_stops s line long = ap (λ o. opt_then o (steps s)) (long_line line long)

kept_whole : (line kept : List ℕ) → IsKept line kept → length line ≤ 165201 → kept ≡ line
kept_whole line kept is few = is.front ∙ take_all (length kept) line (omega (arith, is.size))

-- what is kept of a line is read as the line
pub kept_line : (line kept : List ℕ) → IsKept line kept → line_of kept ≡ line_of line
kept_line line kept is = elim (cases_lt 165200 (length line)) [
  | inl long ↦ long_line kept (omega (arith, is.size, long)) ∙ sym (long_line line long)
  | inr short ↦ ap line_of (kept_whole line kept is (omega (arith, short)))
]

pub kept_takes : (s : Standing) (line kept : List ℕ) → IsKept line kept → takes s kept ≡ takes s line
kept_takes s line kept is = ap (λ o. opt_then o (steps s)) (kept_line line kept is)

cut_behind : (line more f : List ℕ) (fs : List (List ℕ)) → lacks 10 line ≡ true → cut 10 more ≡ f ∷ fs → cut 10 (line ++ more) ≡ (line ++ f) ∷ fs
cut_behind [] more f fs h e = e
cut_behind (b ∷ line) more f fs h e =
    let parts = and_parts (not (b == 10)) (lacks 10 line) h in
    ap (λ t. cond t ([] ∷ cut 10 (line ++ more)) (onto b (cut 10 (line ++ more)))) (not-true (b == 10) parts.0) ∙ ap (onto b) (cut_behind line more f fs parts.1 e)

-- a first line that is too long is the faulty one
long_reads : (s : Standing) (n : ℕ) (bytes f : List ℕ) (fs : List (List ℕ)) → cut 10 bytes ≡ f ∷ fs → 165200 < length f → read_from s n (whole_lines bytes) (rest_of bytes) ≡ Err n
long_reads s n bytes [] fs e long = absurd (omega (arith, long))
long_reads s n bytes (b ∷ f) [] e long = ap (λ ps. read_from s n (pieces_before ps) (last_of ps)) e
long_reads s n bytes (b ∷ f) (g ∷ gs) e long =
    let lines = pieces_before (g ∷ gs) in
    let rest = last_of (g ∷ gs) in
    ap (λ ps. read_from s n (pieces_before ps) (last_of ps)) e ∙ ap (λ o. elim o [ None ↦ Err n | Some t ↦ read_from t (n + 1) lines rest ]) (long_stops s (b ∷ f) long)

long_first : (s : Standing) (n : ℕ) (line more : List ℕ) → lacks 10 line ≡ true → 165200 < length line → read_from s n (whole_lines (line ++ more)) (rest_of (line ++ more)) ≡ Err n
long_first s n line more lack long =
    let some = cut_some 10 more in
    long_reads s n (line ++ more) (line ++ some.0) some.1 (cut_behind line more some.0 some.1 lack some.2) (omega (arith, long, length-append line some.0))

front_lacks : (k : ℕ) (line : List ℕ) → lacks 10 line ≡ true → lacks 10 (take k line) ≡ true
front_lacks zero line h = refl
front_lacks (suc k) [] h = refl
front_lacks (suc k) (b ∷ line) h =
    let parts = and_parts (not (b == 10)) (lacks 10 line) h in
    and_from (not (b == 10)) (lacks 10 (take k line)) parts.0 (front_lacks k line parts.1)

pub kept_lacks : (line kept : List ℕ) → IsKept line kept → lacks 10 line ≡ true → lacks 10 kept ≡ true
kept_lacks line kept is lack = subst (λ bytes. lacks 10 bytes ≡ true) (sym is.front) (front_lacks (length kept) line lack)

-- and whatever follows, the bytes are read as behind the whole rest
pub kept_reads : (s : Standing) (n : ℕ) (rest kept more : List ℕ) → IsKept rest kept → lacks 10 rest ≡ true
    → read_from s n (whole_lines (kept ++ more)) (rest_of (kept ++ more)) ≡ read_from s n (whole_lines (rest ++ more)) (rest_of (rest ++ more))
kept_reads s n rest kept more is lack = elim (cases_lt 165200 (length rest)) [
  | inl long ↦ long_first s n kept more (kept_lacks rest kept is lack) (omega (arith, is.size, long)) ∙ sym (long_first s n rest more lack long)
  | inr short ↦ ap (λ x. read_from s n (whole_lines (x ++ more)) (rest_of (x ++ more))) (kept_whole rest kept is (omega (arith, short)))
]

-- bytes behind what is kept are read as behind the line
pub kept_more : (line kept more : List ℕ) → IsKept line kept → line_of (kept ++ more) ≡ line_of (line ++ more)
kept_more line kept more is = elim (cases_lt 165200 (length line)) [
  | inl long ↦ long_line (kept ++ more) (omega (arith, is.size, long, length-append kept more)) ∙ sym (long_line (line ++ more) (omega (arith, long, length-append line more)))
  | inr short ↦ ap (λ x. line_of (x ++ more)) (kept_whole line kept is (omega (arith, short)))
]

-- what is kept of what is kept
pub kept_then : (line kept more last : List ℕ) → IsKept line kept → IsKept (kept ++ more) last → IsKept (line ++ more) last
kept_then line kept more last is next = elim (cases_lt 165201 (length line)) [
  | inr short ↦ subst (λ x. IsKept (x ++ more) last) (kept_whole line kept is (omega (arith, short))) next
  | inl long ↦
      let full : length kept ≡ 165201 = omega (arith, is.size, long) in
      let size : length last ≡ 165201 = omega (arith, next.size, full, length-append kept more) in
      record {
        front =
            next.front ∙ take-append-le (length last) kept more (omega (arith, size, full)) ∙ take_all (length last) kept (omega (arith, size, full))
            ∙ is.front ∙ ap (λ n. take n line) (omega (arith, full, size)) ∙ sym (take-append-le (length last) line more (omega (arith, size, long)));
        size = omega (arith, size, long, length-append line more);
      }
]

pub kept_none : IsKept [] []
kept_none = record { front = refl; size = omega arith }
