-- Bits of rows of words, one for each pattern of a list.
use Rattle.std.proofs.Common.{ℕ, ◌≡◌, ◌*◌, ◌/◌, ◌%◌, ◌^◌, ◌<◌, ◌⊎◌, inl, inr, zero, suc, Bool, true, refl, arith, ap, sym, ◌∙◌, List, [], ◌∷◌, ◌++◌, length}
use Rattle.std.specs.Prelude.{max, replicate, slice_index, slice_index_or, slice_set, bit_or}
use Rattle.std.specs.Int.{bit_at}
use Rattle.std.proofs.lemmas.Bool.{cases_eq, cases_lt}
use Rattle.std.proofs.lemmas.List.{get_or-set_same, get_or-set_other, get_or_past, get_or_push, get_or_append_left, get_or-replicate, length-replicate, length_push}
use Rattle.std.proofs.lemmas.Nat.Bits.{bit_at-zero, bit_at_or, bit_at_set_other, bit_at-lt}
use Rattle.std.specs.Prelude.{nat_lt}
use Rattle.std.specs.List.{list_all}
use mir.Syntax.{w64}
use Rattle.problem_core.specs.Facts.{Facts}
use Rattle.meeting_patterns.specs.Pattern.{patterns_of}
use Rattle.meeting_patterns.proofs.ListLemmas.{patterns_are}
use Rattle.duality.specs.Packing.{Packing}
use Rattle.duality.specs.declared.row.Run.{Run}
use Rattle.packing_model.specs.Built.{packing, rows_of, AreBaseRunsOf}
use Rattle.packing_model.specs.NodeMarks.{in_runs}
use Rattle.packing_model.specs.Rising.{is_rising}
use Rattle.packing_model.specs.Rows.{row_at}
use Rattle.packing_model.specs.RowMembers.{bit_in, AreMembers, MeetsMember}
use Rattle.packing_model.proofs.ListLemmas.{rising_above, rising_rest}
use Rattle.packing_model.proofs.MarkLemmas.{member_here, stands_in_runs, in_runs_below}
use Rattle.packing_model.proofs.NodeLemmas.{known_at}
use Rattle.packing_model.proofs.RowLemmas.{base_clash}

-- a number is its quotient and its remainder
same_parts : (i j : ℕ) → i / 64 ≡ j / 64 → i % 64 ≡ j % 64 → i ≡ j
same_parts i j q r = omega arith

one_of_two : (a b : ℕ) → a < 2 → b < 2 → max a b ≡ 1 → (a ≡ 1) ⊎ (b ≡ 1)
one_of_two a b l m h = elim (cases_eq a 1) [ inl one ↦ inl one | inr other ↦ inr (omega (arith, l, m, h, other)) ]

-- one bit set
pub bit_set : (words : List ℕ) (j word i : ℕ) → word ≡ bit_or (slice_index words (j / 64)) (1 * 2 ^ (j % 64) % 2 ^ 64) → j / 64 < length words → bit_in (slice_set words (j / 64) word) i ≡ 1 → (bit_in words i ≡ 1) ⊎ (i ≡ j)
bit_set words j word i is l h = elim (cases_eq (i / 64) (j / 64)) [
  | inl row ↦ elim (cases_eq (i % 64) (j % 64)) [
    | inl column ↦ inr (same_parts i j row column)
    | inr other ↦
        let here : slice_index (slice_set words (j / 64) word) (i / 64) ≡ word = ap (slice_index (slice_set words (j / 64) word)) row ∙ get_or-set_same words (j / 64) word 0 l in
        let same : bit_at word (i % 64) ≡ bit_at (slice_index words (i / 64)) (i % 64) =
        ap (λ w. bit_at w (i % 64)) is ∙ bit_at_set_other w64 (slice_index words (j / 64)) (j % 64) (omega arith) (i % 64) other ∙ ap (λ q. bit_at (slice_index words q) (i % 64)) (sym row) in
        inl (sym same ∙ sym (ap (λ w. bit_at w (i % 64)) here) ∙ h)
  ]
  | inr other ↦ inl (sym (ap (λ w. bit_at w (i % 64)) (get_or-set_other words (j / 64) (i / 64) word 0 other)) ∙ h)
]

-- the bits of one more word
pub word_joined : (old met bits : List ℕ) (w word : ℕ) → w < length met → word ≡ bit_or (slice_index met w) (slice_index bits w) → ((j : ℕ) → bit_in met j ≡ 1 → (bit_in old j ≡ 1) ⊎ (bit_in bits j ≡ 1))
    → (j : ℕ) → bit_in (slice_set met w word) j ≡ 1 → (bit_in old j ≡ 1) ⊎ (bit_in bits j ≡ 1)
word_joined old met bits w word l is before j h = elim (cases_eq (j / 64) w) [
  | inl here ↦
      let read : slice_index (slice_set met w word) (j / 64) ≡ word = ap (slice_index (slice_set met w word)) here ∙ get_or-set_same met w word 0 l in
      let both : max (bit_at (slice_index met w) (j % 64)) (bit_at (slice_index bits w) (j % 64)) ≡ 1 =
      sym (bit_at_or (slice_index met w) (slice_index bits w) (j % 64)) ∙ sym (ap (λ x. bit_at x (j % 64)) is) ∙ sym (ap (λ x. bit_at x (j % 64)) read) ∙ h in
      elim (one_of_two (bit_at (slice_index met w) (j % 64)) (bit_at (slice_index bits w) (j % 64)) (bit_at-lt (slice_index met w) (j % 64)) (bit_at-lt (slice_index bits w) (j % 64)) both) [
        | inl was ↦ before j (ap (λ q. bit_at (slice_index met q) (j % 64)) here ∙ was)
        | inr came ↦ inr (ap (λ q. bit_at (slice_index bits q) (j % 64)) here ∙ came)
      ]
  | inr other ↦ before j (sym (ap (λ x. bit_at x (j % 64)) (get_or-set_other met w (j / 64) word 0 other)) ∙ h)
]

-- no bit of a list of zeros, nor of the empty list, is set
zero_word : (words : List ℕ) (q : ℕ) → ((i : ℕ) → slice_index words i ≡ 0) → (j : ℕ) → bit_in words j ≡ 0
zero_word words q none j = ap (λ w. bit_at w (j % 64)) (none (j / 64)) ∙ bit_at-zero (j % 64)

pub no_bit : (words : List ℕ) → ((i : ℕ) → slice_index words i ≡ 0) → (j : ℕ) → bit_in words j ≡ 0
no_bit words none j = zero_word words 0 none j

pub no_bit_of_none : (j : ℕ) → bit_in [] j ≡ 0
no_bit_of_none j = no_bit [] (λ i. refl) j

pub zero_words : (n i : ℕ) → slice_index (replicate n 0) i ≡ 0
zero_words n i = elim (cases_lt i n) [ inl less ↦ get_or-replicate n i 0 0 less | inr more ↦ get_or_past (replicate n 0) i 0 (omega (arith, length-replicate {A = ℕ} n 0, more)) ]

-- one row of zeros more
pub rows_pushed : (rows : List (List ℕ)) (words : List ℕ) → ((i : ℕ) → slice_index words i ≡ 0) → ((r j : ℕ) → bit_in (slice_index_or rows r []) j ≡ 0) → (r j : ℕ) → bit_in (slice_index_or (rows ++ words ∷ []) r []) j ≡ 0
rows_pushed rows words none before r j = elim (cases_lt r (length rows)) [
  | inl less ↦ ap (λ x. bit_in x j) (get_or_append_left rows (words ∷ []) [] r less) ∙ before r j
  | inr more ↦ elim (cases_eq (length rows) r) [
    | inl last ↦ ap (λ x. bit_in x j) (get_or_push rows words [] r last) ∙ no_bit words none j
    | inr past ↦ ap (λ x. bit_in x j) (get_or_past (rows ++ words ∷ []) r [] (omega (arith, length_push rows words, more, past))) ∙ no_bit_of_none j
  ]
]

-- ---- rows of members

-- the bit of one row set
pub row_set : (old rows : List (List ℕ)) (words : List ℕ) (row j : ℕ) (inside : ℕ → Bool) → row < length rows → inside row ≡ true
    → ((i : ℕ) → bit_in words i ≡ 1 → (bit_in (slice_index_or rows row []) i ≡ 1) ⊎ (i ≡ j))
    → ((r i : ℕ) → bit_in (slice_index_or rows r []) i ≡ 1 → (bit_in (slice_index_or old r []) i ≡ 1) ⊎ ((i ≡ j) × (inside r ≡ true)))
    → (r i : ℕ) → bit_in (slice_index_or (slice_set rows row words) r []) i ≡ 1 → (bit_in (slice_index_or old r []) i ≡ 1) ⊎ ((i ≡ j) × (inside r ≡ true))
row_set old rows words row j inside l within set before r i h = elim (cases_eq r row) [
  | inl here ↦
      let read : slice_index_or (slice_set rows row words) r [] ≡ words = ap (λ x. slice_index_or (slice_set rows row words) x []) here ∙ get_or-set_same rows row words [] l in
      elim (set i (sym (ap (λ x. bit_in x i) read) ∙ h)) [
        | inl was ↦ before r i (ap (λ x. bit_in (slice_index_or rows x []) i) here ∙ was)
        | inr same ↦ inr (same, ap inside here ∙ within)
      ]
  | inr other ↦ before r i (sym (ap (λ x. bit_in x i) (get_or-set_other rows row r words [] other)) ∙ h)
]

-- the bits of one run more
pub rows_added : (old mid new : List (List ℕ)) (j : ℕ) (inside more : ℕ → Bool) → ((r : ℕ) → more r ≡ true → inside r ≡ true)
    → ((r i : ℕ) → bit_in (slice_index_or mid r []) i ≡ 1 → (bit_in (slice_index_or old r []) i ≡ 1) ⊎ ((i ≡ j) × (inside r ≡ true)))
    → ((r i : ℕ) → bit_in (slice_index_or new r []) i ≡ 1 → (bit_in (slice_index_or mid r []) i ≡ 1) ⊎ ((i ≡ j) × (more r ≡ true)))
    → (r i : ℕ) → bit_in (slice_index_or new r []) i ≡ 1 → (bit_in (slice_index_or old r []) i ≡ 1) ⊎ ((i ≡ j) × (inside r ≡ true))
rows_added old mid new j inside more whole before came r i h = elim (came r i h) [
  | inl was ↦ before r i was
  | inr new ↦ inr (new.0, whole r new.1)
]

-- the bits of a pattern more
pub members_more : (k : Packing) (patterns : List ℕ) (old new : List (List ℕ)) (runs : List Run) (j : ℕ) → j < length patterns → AreBaseRunsOf k runs (slice_index patterns j) → AreMembers k patterns old → length new ≡ length old
    → ((r i : ℕ) → bit_in (slice_index_or new r []) i ≡ 1 → (bit_in (slice_index_or old r []) i ≡ 1) ⊎ ((i ≡ j) × (in_runs runs r ≡ true))) → AreMembers k patterns new
members_more k patterns old new runs j l are members whole came = record {
  whole = whole ∙ members.whole;
  each = λ r i m h. elim (came r i h) [
    | inl was ↦ members.each r i m was
    | inr new ↦
        let stands : k.in_base r (slice_index patterns j) ≡ true = stands_in_runs k runs (slice_index patterns j) r are new.1 in
        (omega (arith, new.0, l), ap (λ x. k.in_base r (slice_index patterns x)) new.0 ∙ stands)
  ];
}

pub no_members_yet : (k : Packing) (patterns : List ℕ) (rows : List (List ℕ)) → length rows ≡ k.base_len → ((r j : ℕ) → bit_in (slice_index_or rows r []) j ≡ 0) → AreMembers k patterns rows
no_members_yet k patterns rows whole none = record { whole = whole; each = λ r j l h. absurd (omega (arith, none r j, h)) }

rising_at : (ps : List ℕ) (i j : ℕ) → is_rising ps ≡ true → i < j → j < length ps → slice_index ps i < slice_index ps j
rising_at [] i j h l m = absurd (omega arith)
rising_at (p ∷ ps) i zero h l m = absurd (omega arith)
rising_at (p ∷ ps) zero (suc j) h l m = rising_above p ps (slice_index ps j) h (member_here ps j 0 (omega arith))
rising_at (p ∷ ps) (suc i) (suc j) h l m = rising_at ps i j (rising_rest p ps h) (omega arith) (omega arith)

-- a bit that is met is of a pattern that clashes
pub met_clashes : (f : Facts) (patterns : List ℕ) (rows : List (List ℕ)) (runs : List Run) (i j : ℕ) → i < j → j < length patterns → is_rising patterns ≡ true → list_all (λ p. nat_lt p (packing f).count) patterns ≡ true
    → AreMembers (packing f) patterns rows → AreBaseRunsOf (packing f) runs (slice_index patterns i) → MeetsMember rows runs j → (packing f).clash (slice_index patterns i) (slice_index patterns j) ≡ true
met_clashes f patterns rows runs i j l m rising known members are meets =
    let k = packing f in
    let r = meets.row in
    let p = slice_index patterns i in
    let q = slice_index patterns j in
    let first : k.in_base r p ≡ true = stands_in_runs k runs p r are meets.within in
    let low = in_runs_below k.base_len runs r are.known meets.within in
    let second : k.in_base r q ≡ true = (members.each r j low meets.set).1 in
    let less : p < q = rising_at patterns i j rising l m in
    base_clash f (patterns_of f) (row_at (rows_of f) r) p q (patterns_are f) less (known_at k.count patterns j known m) first second
