-- Cutting bytes at line feeds and blanks.
use Rattle.std.proofs.Common.{ℕ, ◌≡◌, ◌≢◌, ◌+◌, ◌-◌, ◌*◌, ◌^◌, ◌<◌, ◌≤◌, Bool, true, false, cond, not, ◌⊎◌, subst, List, [], ◌∷◌, length, take, drop, get_or, map, refl, ap, sym, ◌∙◌, arith, suc, zero, inl, inr}
use Rattle.std.specs.Prelude.{filter}
use Rattle.std.specs.List.{prefix_len, list_all}
use Rattle.std.specs.Prelude.{IsAscii}
use Rattle.std.proofs.lemmas.List.{length-map}
use Rattle.std.specs.Char.{digit_value}
use Rattle.std.specs.Str.Parse.{digits_value}
use Rattle.std.proofs.lemmas.Int.Digits.{digits_value_more}
use Rattle.std.proofs.lemmas.Bool.Decides.{nat_tests}
use Rattle.std.proofs.lemmas.Grind.{common_steps}
use Rattle.std.proofs.Math.Nat.{pow-le-pow_right}
use Rattle.std.proofs.Common.{lit<}
use Rattle.std.proofs.lemmas.List.Folds.{length-prefix_len}
use Rattle.std.proofs.lemmas.Bool.{ne_eqb, cases_lt, and_parts, not-true, not-false}
use Rattle.std.proofs.lemmas.List.Sums.{prefix_len_passes, prefix_len_stops, prefix_len-drop_yes}
use Rattle.std.proofs.lemmas.List.{take-take, drop-drop, drop_all, get_or-drop}
use Rattle.std.proofs.Common.{min, length-drop}
use Rattle.std.proofs.lemmas.Grind.{pow_more}
use Rattle.input_core.specs.Lines.{onto, is_feed, cut_at_feeds, lines_of, without_return, is_blank, cut_at_blanks, fields_of, is_digit, is_some_text, is_allowed, is_graphic, IsNextLine, IsNextField}

-- a cut one byte further on
shift : {X : Type 0} (f : List ℕ → X) (b m : ℕ) (ys : List ℕ) → f (drop (m + 1) ys) ≡ f (drop ((1 + m) + 1) (b ∷ ys))
shift f b m ys = let e : (1 + m) + 1 ≡ suc (m + 1) = omega arith in rw e refl

front : (b m : ℕ) (ys : List ℕ) → b ∷ take m ys ≡ take (1 + m) (b ∷ ys)
front b m ys = let e : 1 + m ≡ suc m = omega arith in rw e refl

cut_one : (b : ℕ) (t : Bool) → let n : ℕ = cond {A = ℕ} (not t) 1 0 in cond t ([] ∷ []) ((b ∷ []) ∷ []) ≡ take n (b ∷ []) ∷ cut_at_feeds (drop (n + 1) (b ∷ []))
cut_one b true = refl
cut_one b false = refl

-- the first piece ends at the first line feed
pub cut_first : (b : ℕ) (bytes : List ℕ) → let n = prefix_len (λ x. not (is_feed x)) (b ∷ bytes) in
    cut_at_feeds (b ∷ bytes) ≡ take n (b ∷ bytes) ∷ cut_at_feeds (drop (n + 1) (b ∷ bytes))
cut_first b [] = cut_one b (is_feed b)
cut_first b (x ∷ xs) =
    let m = prefix_len (λ y. not (is_feed y)) (x ∷ xs) in
    let step : onto b (cut_at_feeds (x ∷ xs)) ≡ take (1 + m) (b ∷ x ∷ xs) ∷ cut_at_feeds (drop ((1 + m) + 1) (b ∷ x ∷ xs)) =
    ap (onto b) (cut_first x xs) ∙ ap (λ l. l ∷ cut_at_feeds (drop (m + 1) (x ∷ xs))) (front b m (x ∷ xs)) ∙ ap (λ l. take (1 + m) (b ∷ x ∷ xs) ∷ l) (shift cut_at_feeds b m (x ∷ xs)) in
    elim (is_feed b) as (λ t. let n = cond (not t) (1 + m) 0 in cond t ([] ∷ cut_at_feeds (x ∷ xs)) (onto b (cut_at_feeds (x ∷ xs))) ≡ take n (b ∷ x ∷ xs) ∷ cut_at_feeds (drop (n + 1) (b ∷ x ∷ xs))) [ true ↦ refl | false ↦ step ]

-- what stands after a blank
abbrev tail_pieces : List ℕ → List (List ℕ)
tail_pieces [] = []
tail_pieces (b ∷ bytes) = cut_at_blanks bytes

abbrev word : List ℕ → ℕ
word bytes = prefix_len (λ b. not (is_blank b)) bytes

further : {X : Type 0} (f : List ℕ → X) (b m : ℕ) (ys : List ℕ) → f (drop m ys) ≡ f (drop (1 + m) (b ∷ ys))
further f b m ys = let e : 1 + m ≡ suc m = omega arith in rw e refl

cut_word : (bytes : List ℕ) → cut_at_blanks bytes ≡ take (word bytes) bytes ∷ tail_pieces (drop (word bytes) bytes)
cut_word [] = refl
cut_word (b ∷ bytes) =
    let m = word bytes in
    let step : onto b (cut_at_blanks bytes) ≡ take (1 + m) (b ∷ bytes) ∷ tail_pieces (drop (1 + m) (b ∷ bytes)) =
    ap (onto b) (cut_word bytes) ∙ ap (λ l. l ∷ tail_pieces (drop m bytes)) (front b m bytes) ∙ ap (λ l. take (1 + m) (b ∷ bytes) ∷ l) (further tail_pieces b m bytes) in
    elim (is_blank b) as (λ t. let n = cond (not t) (1 + m) 0 in cond t ([] ∷ cut_at_blanks bytes) (onto b (cut_at_blanks bytes)) ≡ take n (b ∷ bytes) ∷ tail_pieces (drop n (b ∷ bytes))) [ true ↦ refl | false ↦ step ]

fields_rest : (bytes : List ℕ) → filter is_some_text (tail_pieces (drop (word bytes) bytes)) ≡ fields_of (drop (word bytes) bytes)
fields_rest [] = refl
fields_rest (b ∷ bytes) =
    let m = word bytes in
    let step : filter is_some_text (tail_pieces (drop (1 + m) (b ∷ bytes))) ≡ fields_of (drop (1 + m) (b ∷ bytes)) =
    sym (further (λ l. filter is_some_text (tail_pieces l)) b m bytes) ∙ fields_rest bytes ∙ further fields_of b m bytes in
    elim (is_blank b) as (λ t. t ≡ is_blank b → let n = cond (not t) (1 + m) 0 in filter is_some_text (tail_pieces (drop n (b ∷ bytes))) ≡ fields_of (drop n (b ∷ bytes)))
    [ true ↦ λ e. rw (← e) refl | false ↦ λ _. step ] refl

-- a field of at least one byte stands first
pub fields_first : (bytes : List ℕ) → 0 < word bytes → fields_of bytes ≡ take (word bytes) bytes ∷ fields_of (drop (word bytes) bytes)
fields_first bytes some =
    let len : length (take (word bytes) bytes) ≡ word bytes = length-prefix_len (λ b. not (is_blank b)) bytes in
    let differs : length (take (word bytes) bytes) ≢ 0 = λ e. absurd (omega arith) in
    let is : is_some_text (take (word bytes) bytes) ≡ true = ap not (ne_eqb _ 0 differs) in
    ap (filter is_some_text) (cut_word bytes) ∙ rw is (ap (λ l. take (word bytes) bytes ∷ l) (fields_rest bytes))

-- blanks at the front count for nothing
pub fields_skip : (bytes : List ℕ) → fields_of bytes ≡ fields_of (drop (prefix_len is_blank bytes) bytes)
fields_skip [] = refl
fields_skip (b ∷ bytes) =
    let m = prefix_len is_blank bytes in
    elim (is_blank b) as (λ t. t ≡ is_blank b → fields_of (b ∷ bytes) ≡ fields_of (drop (cond t (1 + m) 0) (b ∷ bytes)))
    [ true ↦ λ e. let gone : fields_of (b ∷ bytes) ≡ fields_of bytes = rw (← e) refl in gone ∙ fields_skip bytes ∙ further fields_of b m bytes | false ↦ λ _. refl ] refl

ten : (i : ℕ) → i < 9 → 10 ^ i ≤ 10 ^ 8
ten i l = let h : i ≤ 8 = omega arith in pow-le-pow_right (lit< tt) h

pub digit_fits : (n d i : ℕ) → n < 10 ^ i → i < 9 → d < 10 → n * 10 + d < 2 ^ 32
digit_fits n d i h l e = omega (arith, ten i l)

pub digit_more : (n d i : ℕ) → n < 10 ^ i → d < 10 → n * 10 + d < 10 ^ (i + 1)
digit_more n d i h e = rw pow_more (omega arith)

pub ruleset digit_steps = (digit_fits, digit_more)

line_first : (bytes : List ℕ) → 0 < length bytes → let n = prefix_len (λ x. not (is_feed x)) bytes in lines_of bytes ≡ without_return (take n bytes) ∷ lines_of (drop (n + 1) bytes)
line_first [] some = absurd (omega arith)
line_first (b ∷ bytes) some = ap (map without_return) (cut_first b bytes)

drop_to : (bytes : List ℕ) (m n : ℕ) → n ≡ min m (length bytes) → drop m bytes ≡ drop n bytes
drop_to bytes m n e = elim (cases_lt m (length bytes)) [
  | inl below ↦ let same : n ≡ m = omega arith in rw same refl
  | inr past ↦ let same : n ≡ length bytes = omega arith in drop_all m bytes past ∙ sym (drop_all n bytes (omega arith))
]

-- the bytes before the first line feed from a place on are none
feeds_later : (bytes : List ℕ) (at k : ℕ) → at ≤ k → k < at + prefix_len (λ x. not (is_feed x)) (drop at bytes) → is_feed (get_or bytes k 0) ≡ false
feeds_later bytes at k from before =
    let there : get_or (drop at bytes) (k - at) 0 ≡ get_or bytes k 0 = get_or-drop at bytes (k - at) 0 ∙ (let e : at + (k - at) ≡ k = omega arith in ap (λ i. get_or bytes i 0) e) in
    subst (λ b. is_feed b ≡ false) there
    (not-true (is_feed (get_or (drop at bytes) (k - at) 0)) (prefix_len_passes (λ x. not (is_feed x)) (drop at bytes) (k - at) 0 (omega arith)))

-- where there is a line feed from a place on, the first stands there
feed_there : (bytes : List ℕ) (at : ℕ) → prefix_len (λ x. not (is_feed x)) (drop at bytes) < length (drop at bytes) → is_feed (get_or bytes (at + prefix_len (λ x. not (is_feed x)) (drop at bytes)) 0) ≡ true
feed_there bytes at more =
    let n = prefix_len (λ x. not (is_feed x)) (drop at bytes) in
    subst (λ b. is_feed b ≡ true) (get_or-drop at bytes n 0) (not-false (is_feed (get_or (drop at bytes) n 0)) (prefix_len_stops (λ x. not (is_feed x)) (drop at bytes) 0 more))

-- the next line begins behind the first line feed, or at the end
feed_ends : (bytes : List ℕ) (at len next : ℕ) → len ≡ prefix_len (λ x. not (is_feed x)) (drop at bytes) → at ≤ length bytes → len ≤ length (drop at bytes) → next ≡ min (at + len + 1) (length bytes)
    → (next ≡ length bytes) ⊎ (is_feed (get_or bytes (next - 1) 0) ≡ true)
feed_ends bytes at len next is within fits ends =
    let room : length (drop at bytes) ≡ length bytes - at = length-drop at bytes in
    elim (cases_lt len (length (drop at bytes))) [
      | inl more ↦
          let e : next - 1 ≡ at + prefix_len (λ x. not (is_feed x)) (drop at bytes) = omega (arith, is, room, more, ends) in
          inr (subst (λ i. is_feed (get_or bytes i 0) ≡ true) (sym e) (feed_there bytes at (omega (arith, is, more))))
      | inr all ↦ inl (omega (arith, room, all, fits, ends))
    ]

pub IsNextLine-from : (bytes : List ℕ) (at len short next : ℕ) → at < length bytes → len ≡ prefix_len (λ x. not (is_feed x)) (drop at bytes)
    → len ≤ length (drop at bytes) → take short (take len (drop at bytes)) ≡ without_return (take len (drop at bytes)) → short ≤ len
    → next ≡ min (at + len + 1) (length bytes) → IsNextLine bytes at (at + short, next)
IsNextLine-from bytes at len short next more is fits same less ends =
    let room : length (drop at bytes) ≡ length bytes - at = length-drop at bytes in
    let first : lines_of (drop at bytes) ≡ without_return (take len (drop at bytes)) ∷ lines_of (drop (len + 1) (drop at bytes)) = rw is (line_first (drop at bytes) (omega arith)) in
    let cut : take short (drop at bytes) ≡ without_return (take len (drop at bytes)) = sym (take-take short len (drop at bytes) less) ∙ same in
    let on : drop (len + 1) (drop at bytes) ≡ drop next bytes = drop-drop (len + 1) at bytes ∙ (let e : at + (len + 1) ≡ (at + len) + 1 = omega arith in rw e (drop_to bytes (at + len + 1) next ends)) in
    record {
      ordered = omega arith;
      ends = omega arith;
      more = omega arith;
      within = omega arith;
      first = λ k from before. feeds_later bytes at k from (omega (arith, is, before, ends));
      feed = feed_ends bytes at len next is (omega arith) fits ends;
      line = let k : (at + short) - at ≡ short = omega arith in rw (k, cut, ← on) first;
    }

all_dropped : (n : ℕ) (line : List ℕ) → list_all is_allowed line ≡ true → list_all is_allowed (drop n line) ≡ true
all_dropped zero line h = h
all_dropped (suc n) [] h = refl
all_dropped (suc n) (b ∷ line) h = all_dropped n line (and_parts (is_allowed b) (list_all is_allowed line) h).1

graphic_one : (b : ℕ) → is_allowed b ≡ true → is_blank b ≡ false → is_graphic b ≡ true
graphic_one b allowed filled = rw filled at allowed

-- where every byte is allowed, those up to the first blank are graphic
graphic_word : (line : List ℕ) → list_all is_allowed line ≡ true → list_all is_graphic (take (word line) line) ≡ true
graphic_word [] h = refl
graphic_word (b ∷ line) h =
    let parts = and_parts (is_allowed b) (list_all is_allowed line) h in
    let step : is_graphic b ≡ true → list_all is_graphic (take (1 + word line) (b ∷ line)) ≡ true =
    λ g. rw (← front b (word line) line, g) (graphic_word line parts.1) in
    elim (is_blank b) as (λ t. is_blank b ≡ t → let n = cond (not t) (1 + word line) 0 in list_all is_graphic (take n (b ∷ line)) ≡ true)
    [ true ↦ λ _. refl | false ↦ λ e. step (graphic_one b parts.0 e) ] refl

pub IsNextField-from : (line : List ℕ) (at skipped len : ℕ) → at ≤ length line → skipped ≡ prefix_len is_blank (drop at line) → at + skipped < length line
    → len ≡ prefix_len (λ b. not (is_blank b)) (drop (at + skipped) line) → len ≤ length (drop (at + skipped) line) → list_all is_allowed line ≡ true → IsNextField line at (at + skipped, (at + skipped) + len)
IsNextField-from line at skipped len low is more long fits allowed =
    let rest = drop at line in
    let room : length rest ≡ length line - at = length-drop at line in
    let below : prefix_len is_blank rest < length rest = omega arith in
    let stops : is_blank (get_or rest skipped 0) ≡ false = rw is (prefix_len_stops is_blank rest 0 below) in
    let from : drop skipped rest ≡ drop (at + skipped) line = drop-drop skipped at line in
    let one : word (drop skipped rest) ≡ 1 + word (drop (skipped + 1) rest) = prefix_len-drop_yes (λ b. not (is_blank b)) rest skipped 0 (omega arith) (ap not stops) in
    let some : 0 < word (drop (at + skipped) line) = omega (arith, one, ap word from) in
    let past : fields_of rest ≡ fields_of (drop (at + skipped) line) = fields_skip rest ∙ rw (← is, from) refl in
    let first : fields_of (drop (at + skipped) line) ≡ take len (drop (at + skipped) line) ∷ fields_of (drop len (drop (at + skipped) line)) = rw long (fields_first (drop (at + skipped) line) some) in
    let end : drop len (drop (at + skipped) line) ≡ drop ((at + skipped) + len) line = drop-drop len (at + skipped) line in
    let width : ((at + skipped) + len) - (at + skipped) ≡ len = omega arith in
    let left : length (drop (at + skipped) line) ≡ length line - (at + skipped) = length-drop (at + skipped) line in
    record {
      begins = omega arith;
      some = omega (arith, long);
      graphic = rw (width, long) (graphic_word (drop (at + skipped) line) (all_dropped (at + skipped) line allowed));
      within = omega arith;
      field = rw (width, ← end) (past ∙ first);
    }

pub fields_none : (line : List ℕ) (at skipped : ℕ) → at ≤ length line → skipped ≡ prefix_len is_blank (drop at line) → at + skipped ≡ length line → fields_of (drop at line) ≡ []
fields_none line at skipped low is end =
    let all : drop skipped (drop at line) ≡ [] = drop-drop skipped at line ∙ drop_all (at + skipped) line (omega arith) in
    fields_skip (drop at line) ∙ rw (← is, all) refl

digit_is : (c : ℕ) → is_digit c ≡ true → digit_value c ≡ c - 48
digit_is c h = grind (arith, nat_tests, h)

pub digit_small : (c : ℕ) → is_digit c ≡ true → c - 48 < 10
digit_small c h = grind (arith, nat_tests, h)

pub number_more : (field : List ℕ) (i n : ℕ) → i < length field → is_digit (get_or field i 0) ≡ true → n ≡ digits_value 10 (take i field) → n * 10 + (get_or field i 0 - 48) ≡ digits_value 10 (take (i + 1) field)
number_more field i n l d e = omega (arith, digits_value_more 10 field i l, digit_is (get_or field i 0) d)

pub digits_all : (field : List ℕ) (i : ℕ) → i < length field → list_all is_digit (take i field) ≡ true → is_digit (get_or field i 0) ≡ true → list_all is_digit (take (i + 1) field) ≡ true
digits_all field i l all d = grind (arith, common_steps, all, d)

length-onto : (b : ℕ) (pieces : List (List ℕ)) → length (onto b pieces) ≤ length pieces + 1
length-onto b [] = omega arith
length-onto b (piece ∷ pieces) = omega arith

length-pieces : (bytes : List ℕ) → length (cut_at_feeds bytes) ≤ length bytes
length-pieces [] = omega arith
length-pieces (b ∷ bytes) =
    elim (is_feed b) as (λ t. length (cond t ([] ∷ cut_at_feeds bytes) (onto b (cut_at_feeds bytes))) ≤ length (b ∷ bytes))
    [ true ↦ omega (arith, length-pieces bytes) | false ↦ omega (arith, length-pieces bytes, length-onto b (cut_at_feeds bytes)) ]

-- there are no more lines than bytes
pub length-lines_of : (bytes : List ℕ) → length (lines_of bytes) ≤ length bytes
length-lines_of bytes = omega (arith, length-map (cut_at_feeds bytes) without_return, length-pieces bytes)

graphic_small : (b : ℕ) → is_graphic b ≡ true → b < 128
graphic_small b h = grind (arith, nat_tests, h)

pub graphic_ascii : (field : List ℕ) → list_all is_graphic field ≡ true → IsAscii field
graphic_ascii [] h i = omega arith
graphic_ascii (b ∷ field) h zero = graphic_small b (and_parts (is_graphic b) (list_all is_graphic field) h).0
graphic_ascii (b ∷ field) h (suc i) = graphic_ascii field (and_parts (is_graphic b) (list_all is_graphic field) h).1 i
