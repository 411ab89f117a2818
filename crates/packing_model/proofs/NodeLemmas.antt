-- What holds at each node: the rows of a pattern, the number of terms, cliques and patterns that are taken.
use Rattle.std.proofs.Common.{ℕ, ◌≡◌, ◌+◌, ◌-◌, ◌^◌, ◌<◌, ◌≤◌, inl, inr, zero, suc, Bool, true, false, not, ◌&&◌, ◌||◌, refl, arith, ap, sym, ◌∙◌, List, [], ◌∷◌, ◌++◌, length, get_or, take, drop, subst}
use Rattle.std.specs.Prelude.{ℤ, pos, negsuc, ◌≤ℤ◌, ◌==◌, nat_lt, nat_le, if◌then◌else◌, Option, Some, None, is_some, slice_index_or, Result, Ok, Err, IfOk}
use Rattle.std.specs.List.{list_all, list_any}
use Rattle.std.specs.Option.{option_or}
use Rattle.std.proofs.lemmas.Bool.{cases_eq, cases_Bool, and_parts, and_from, and_right, or_cases, ltb-true, leb-true, le-ltb, eq-eqb, eqb-true, ne_eqb, true≢false, not_from_false, false_from_ne_true}
use Rattle.std.proofs.lemmas.List.{drop_more}
use Rattle.std.proofs.lemmas.Int.{ints}
use mir.Syntax.{w128}
use mir.Val.{to_z, of_z}
use Rattle.numbers.specs.Sums.{member, distinct, value}
use Rattle.duality.specs.declared.row.RowName.{RowName}
use Rattle.duality.specs.declared.row.RowName.TheVariants.{Base, Cut, Level}
use Rattle.duality.specs.declared.row.Term.{Term}
use Rattle.duality.specs.declared.leaf.LeafFault.{LeafFault}
use Rattle.duality.specs.declared.leaf.LeafFault.TheVariants.{Sign}
use Rattle.duality.specs.Leaf.{terms_fault}
use Rattle.duality.specs.Packing.{Packing, Weights, Stage, Fixing as Fixed, IsPacking, Meets, is_there, has_sign, floor_level}
use Rattle.packing_model.specs.Nodes.{ok_unless, stage_at}
use Rattle.packing_model.specs.Closing.{Caps, Empties, HasTargets, choice_of}
use Rattle.problem_core.specs.Facts.{Facts}
use Rattle.problem_core.specs.Measures.{measure}
use Rattle.meeting_patterns.specs.Pattern.{patterns_of}
use Rattle.duality.specs.Sums.{row_before, rises, rises_from, member_row, AreRowsOf, times_of, AreLevelTimes, AreOfLevels, HaveTargets, IsWithin, is_small, are_small, no_term}
use Rattle.packing_model.specs.Rising.{is_rising}
use Rattle.packing_model.specs.Cuts.{first_clear_of, pair_with, first_apart}
use Rattle.packing_model.specs.Built.{AreBaseRowsOf, packing, measured}
use Rattle.packing_model.specs.Pools.{AreCutRowsOf}
use Rattle.packing_model.proofs.ListLemmas.{rising_rest, rising_above}
use Rattle.packing_model.proofs.CutLemmas.{member_row-append, distinct_rows-append}

-- ---- the rows of a pattern are its base rows and its cuts

or_false : (a b : Bool) → b ≡ false → (a || b) ≡ a
or_false true b h = refl
or_false false b h = h

false_or : (a b : Bool) → a ≡ false → (a || b) ≡ b
false_or true b h = absurd (true≢false h)
false_or false b h = refl

pub rows_join : (k : Packing) (s : Stage) (base cuts : List RowName) (p : ℕ) → AreBaseRowsOf k base p → AreCutRowsOf s.cuts cuts p → AreRowsOf k s (base ++ cuts) p
rows_join k s base cuts p are_base are_cuts = record {
  differ = distinct_rows-append base cuts are_base.differ are_cuts.differ apart;
  base = λ r l. member_row-append (Base r) base cuts ∙ or_false (member_row (Base r) base) (member_row (Base r) cuts) (are_cuts.base r) ∙ are_base.base r l;
  cut = λ c l. member_row-append (Cut c) base cuts ∙ false_or (member_row (Cut c) base) (member_row (Cut c) cuts) (are_base.cut c) ∙ are_cuts.cut c l;
  level = λ j. member_row-append (Level j) base cuts ∙ false_or (member_row (Level j) base) (member_row (Level j) cuts) (are_base.level j) ∙ are_cuts.level j;
}
  where
    apart : (q : RowName) → member_row q base ≡ true → member_row q cuts ≡ false
    apart (Base r) h = are_cuts.base r
    apart (Cut c) h = absurd (true≢false (sym h ∙ are_base.cut c))
    apart (Level j) h = are_cuts.level j

-- ---- in strict order there are few terms

-- where a row stands among all rows that can be there
place : ℕ → ℕ → RowName → ℕ
place base cuts (Base r) = r
place base cuts (Cut c) = base + c
place base cuts (Level j) = base + cuts + (j - 1)

level_high : (k : Packing) (w : Weights) (s : Stage) (j : ℕ) → s.level ≤ 7 → is_there k w s (Level j) ≡ true → (1 ≤ j) × (j ≤ 7)
level_high k w s j few h = elim (cases_eq j floor_level) [
  | inl same ↦ (omega arith, omega arith)
  | inr ne ↦
      let range : (nat_le 1 j && nat_lt j s.level) ≡ true = sym (ap (λ b. if b then is_some w.floor else nat_le 1 j && nat_lt j s.level) (ne_eqb j floor_level ne)) ∙ h in
      let parts = and_parts (nat_le 1 j) (nat_lt j s.level) range in
      let low = leb-true 1 j parts.0 in
      let high = ltb-true j s.level parts.1 in
      (low, omega arith)
]

-- the numbers of the level rows that are there
abbrev LevelsUpTo : Packing → Weights → Stage → ℕ → Type 0
LevelsUpTo k w s top = (j : ℕ) → is_there k w s (Level j) ≡ true → (1 ≤ j) × (j ≤ top)

place_high : (k : Packing) (w : Weights) (s : Stage) (top : ℕ) (row : RowName) → LevelsUpTo k w s top → is_there k w s row ≡ true → place k.base_len (length s.cuts) row < k.base_len + length s.cuts + top
unfolding place
place_high k w s top (Base r) levels h = let l = ltb-true r k.base_len h in omega arith
place_high k w s top (Cut c) levels h = let l = ltb-true c (length s.cuts) h in omega arith
place_high k w s top (Level j) levels h = let l = levels j h in omega (arith, l.0, l.1)

place_rises : (k : Packing) (w : Weights) (s : Stage) (top : ℕ) (a b : RowName) → LevelsUpTo k w s top → row_before a b ≡ true → is_there k w s a ≡ true → is_there k w s b ≡ true → place k.base_len (length s.cuts) a < place k.base_len (length s.cuts) b
unfolding place
place_rises k w s top (Base a) (Base b) levels h p q = ltb-true a b h
place_rises k w s top (Base a) (Cut b) levels h p q = let l = ltb-true a k.base_len p in omega arith
place_rises k w s top (Base a) (Level b) levels h p q = let l = ltb-true a k.base_len p in omega arith
place_rises k w s top (Cut a) (Base b) levels h p q = absurd (true≢false (sym h))
place_rises k w s top (Cut a) (Cut b) levels h p q = let l = ltb-true a b h in omega arith
place_rises k w s top (Cut a) (Level b) levels h p q = let l = ltb-true a (length s.cuts) p in omega arith
place_rises k w s top (Level a) (Base b) levels h p q = absurd (true≢false (sym h))
place_rises k w s top (Level a) (Cut b) levels h p q = absurd (true≢false (sym h))
place_rises k w s top (Level a) (Level b) levels h p q = let l = ltb-true a b h in let m = levels a p in omega (arith, m.0)

few_from : (k : Packing) (w : Weights) (s : Stage) (top : ℕ) (row : RowName) (ts : List Term) → LevelsUpTo k w s top → is_there k w s row ≡ true → rises_from row ts ≡ true → list_all (λ t. is_there k w s t.row) ts ≡ true
    → place k.base_len (length s.cuts) row + length ts < k.base_len + length s.cuts + top
few_from k w s top row [] levels here rising there = omega (arith, place_high k w s top row levels here)
few_from k w s top row (t ∷ ts) levels here rising there =
    let order = and_parts (row_before row t.row) (rises_from t.row ts) rising in
    let parts = and_parts (is_there k w s t.row) (list_all (λ u. is_there k w s u.row) ts) there in
    let less = place_rises k w s top row t.row levels order.0 here parts.0 in
    let rest = few_from k w s top t.row ts levels parts.0 order.1 parts.1 in
    omega arith

few_rows : (k : Packing) (w : Weights) (s : Stage) (top : ℕ) (ts : List Term) → LevelsUpTo k w s top → rises ts ≡ true → list_all (λ t. is_there k w s t.row) ts ≡ true → length ts ≤ k.base_len + length s.cuts + top
few_rows k w s top [] levels rising there = omega arith
few_rows k w s top (t ∷ ts) levels rising there =
    let parts = and_parts (is_there k w s t.row) (list_all (λ u. is_there k w s u.row) ts) there in
    let rest = few_from k w s top t.row ts levels parts.0 rising parts.1 in
    omega arith

pub few_terms : (k : Packing) (w : Weights) (s : Stage) (ts : List Term) → k.base_len ≤ 4000 → length s.cuts ≤ 1000 → s.level ≤ 7 → rises ts ≡ true → list_all (λ t. is_there k w s t.row) ts ≡ true → length ts ≤ 5007
few_terms k w s ts base cuts few rising there = omega (arith, few_rows k w s 7 ts (λ j h. level_high k w s j few h) rising there)

-- without a floor the level rows are those of the levels below
level_below : (k : Packing) (w : Weights) (s : Stage) (j : ℕ) → w.floor ≡ None → s.level ≤ 6 → is_there k w s (Level j) ≡ true → (1 ≤ j) × (j ≤ 5)
level_below k w s j none few h = elim (cases_eq j floor_level) [
  | inl same ↦ absurd (true≢false (sym h ∙ ap (λ b. if b then is_some w.floor else nat_le 1 j && nat_lt j s.level) (eq-eqb j floor_level same) ∙ ap is_some none))
  | inr ne ↦
      let range : (nat_le 1 j && nat_lt j s.level) ≡ true = sym (ap (λ b. if b then is_some w.floor else nat_le 1 j && nat_lt j s.level) (ne_eqb j floor_level ne)) ∙ h in
      let parts = and_parts (nat_le 1 j) (nat_lt j s.level) range in
      let high = ltb-true j s.level parts.1 in
      (leb-true 1 j parts.0, omega arith)
]

pub few_plain_terms : (k : Packing) (w : Weights) (s : Stage) (ts : List Term) → k.base_len ≤ 4000 → length s.cuts ≤ 1000 → w.floor ≡ None → s.level ≤ 6 → rises ts ≡ true → list_all (λ t. is_there k w s t.row) ts ≡ true → length ts ≤ 5005
few_plain_terms k w s ts base cuts none few rising there = omega (arith, few_rows k w s 5 ts (λ j h. level_below k w s j none few h) rising there)

rises_from-take : (row : RowName) (ts : List Term) (i : ℕ) → rises_from row ts ≡ true → rises_from row (take i ts) ≡ true
rises_from-take row ts zero h = refl
rises_from-take row [] (suc i) h = refl
rises_from-take row (t ∷ ts) (suc i) h =
    let parts = and_parts (row_before row t.row) (rises_from t.row ts) h in
    and_from (row_before row t.row) (rises_from t.row (take i ts)) parts.0 (rises_from-take t.row ts i parts.1)

pub rises-take : (ts : List Term) (i : ℕ) → rises ts ≡ true → rises (take i ts) ≡ true
rises-take ts zero h = refl
rises-take [] (suc i) h = refl
rises-take (t ∷ ts) (suc i) h = rises_from-take t.row ts i h

-- ---- level rows that are not there

absent : (k : Packing) (w : Weights) (s : Stage) (i : ℕ) → i < 6 → s.level ≤ i + 1 → is_there k w s (Level (i + 1)) ≡ false
absent k w s i l high =
    ap (λ b. if b then is_some w.floor else nat_le 1 (i + 1) && nat_lt (i + 1) s.level) (ne_eqb (i + 1) floor_level (λ e. absurd (omega arith)))
    ∙ and_right (nat_le 1 (i + 1)) (nat_lt (i + 1) s.level) (le-ltb (i + 1) s.level high)

abbrev pub Absent : Type 0
Absent = (k : Packing) (w : Weights) (s : Stage) (terms : List Term) (j : ℕ) → list_all (λ t. is_there k w s t.row) terms ≡ true → is_there k w s (Level j) ≡ false → times_of terms (Level j) ≡ pos 0

pub of_levels : Absent → (k : Packing) (w : Weights) (s : Stage) (levels : ℕ) (terms : List Term) (times : List ℤ) → s.level ≤ levels → list_all (λ t. is_there k w s t.row) terms ≡ true → AreLevelTimes terms times → AreOfLevels levels times
of_levels law k w s levels terms times high there are = record { none = λ i l m. are.each i (omega arith) ∙ law k w s terms (i + 1) there (absent k w s i l (omega arith)) }

pub have_targets : Absent → (k : Packing) (w : Weights) (s : Stage) (terms : List Term) (times : List ℤ) → length s.targets + 1 ≡ s.level → ((i : ℕ) → i < length s.targets → IsWithin (10 ^ 12) (slice_index_or s.targets i (pos 0)))
    → list_all (λ t. is_there k w s t.row) terms ≡ true → AreLevelTimes terms times → HaveTargets times s.targets
have_targets law k w s terms times count small there are = record {
  some = λ i l m. are.each i (omega arith) ∙ law k w s terms (i + 1) there (absent k w s i l (omega arith));
  small = small;
}

-- ---- cuts are cliques

or_none : {A : Type 0} (a b : Option A) → option_or a b ≡ None → (a ≡ None) × (b ≡ None)
or_none None b h = (refl, h)
or_none (Some x) b h = absurd (cc)

pair_none : (p : ℕ) (a : Option ℕ) → pair_with p a ≡ None → a ≡ None
pair_none p None h = refl
pair_none p (Some q) h = absurd (cc)

clear_none : (clash : ℕ → ℕ → Bool) (p : ℕ) (qs : List ℕ) (j : ℕ) → first_clear_of clash p qs ≡ None → member j qs ≡ true → clash p j ≡ true
clear_none clash p [] j h m = absurd (true≢false (sym m))
clear_none clash p (q ∷ qs) j h m = elim (cases_Bool (clash p q)) [
  | inl hit ↦
      let rest : first_clear_of clash p qs ≡ None = sym (ap (λ b. if b then first_clear_of clash p qs else Some q) hit) ∙ h in
      elim (or_cases (q == j) (member j qs) m) [
        | inl same ↦ ap (clash p) (sym (eqb-true q j same)) ∙ hit
        | inr later ↦ clear_none clash p qs j rest later
      ]
  | inr miss ↦ let bad : Some q ≡ None = sym (ap (λ b. if b then first_clear_of clash p qs else Some q) miss) ∙ h in absurd (cc)
]

pub clique_pair : (clash : ℕ → ℕ → Bool) (ps : List ℕ) (i j : ℕ) → is_rising ps ≡ true → first_apart clash ps ≡ None → i < j → member i ps ≡ true → member j ps ≡ true → clash i j ≡ true
clique_pair clash [] i j rising none l mi mj = absurd (true≢false (sym mi))
clique_pair clash (p ∷ ps) i j rising none l mi mj =
    let parts = or_none (pair_with p (first_clear_of clash p ps)) (first_apart clash ps) none in
    elim (or_cases (p == i) (member i ps) mi) [
      | inl here ↦
          let same = eqb-true p i here in
          elim (or_cases (p == j) (member j ps) mj) [
            | inl also ↦ let twice = eqb-true p j also in absurd (omega arith)
            | inr later ↦ ap (λ x. clash x j) (sym same) ∙ clear_none clash p ps j (pair_none p (first_clear_of clash p ps) parts.0) later
          ]
      | inr after ↦ elim (or_cases (p == j) (member j ps) mj) [
        | inl here ↦
            let same = eqb-true p j here in
            let above = rising_above p ps i rising after in
            absurd (omega arith)
        | inr later ↦ clique_pair clash ps i j (rising_rest p ps rising) parts.1 l after later
      ]
    ]

-- ---- the patterns that are taken

member_at : (i : ℕ) (list : List ℕ) → member i list ≡ true → (j : ℕ) × (j < length list) × (get_or list j 0 ≡ i)
member_at i [] h = absurd (true≢false (sym h))
member_at i (q ∷ qs) h = elim (cases_eq q i) [
  | inl same ↦ (0, omega arith, same)
  | inr other ↦
      let rest = member_at i qs (sym (ap (λ b. b || member i qs) (ne_eqb q i other)) ∙ h) in
      (suc rest.0, omega (arith, rest.1), rest.2)
]

pub distinct_from : (list : List ℕ) → ((j k : ℕ) → j < k → k < length list → get_or list j 0 ≡ get_or list k 0 → ⊥) → distinct list ≡ true
distinct_from [] h = refl
distinct_from (q ∷ qs) h =
    let alone : member q qs ≡ false = false_from_ne_true (member q qs) (λ m. let at = member_at q qs m in h 0 (suc at.0) (omega arith) (omega (arith, at.1)) (sym at.2)) in
    and_from (not (member q qs)) (distinct qs) (not_from_false (member q qs) alone) (distinct_from qs (λ j k l m. h (suc j) (suc k) (omega arith) (omega arith)))

pub known_at : (n : ℕ) (list : List ℕ) (j : ℕ) → list_all (λ p. nat_lt p n) list ≡ true → j < length list → get_or list j 0 < n
known_at n [] j h l = absurd (omega arith)
known_at n (q ∷ qs) zero h l = ltb-true q n (and_parts (nat_lt q n) (list_all (λ p. nat_lt p n) qs) h).0
known_at n (q ∷ qs) (suc j) h l = known_at n qs j (and_parts (nat_lt q n) (list_all (λ p. nat_lt p n) qs) h).1 (omega arith)

-- ---- the first fault

pub sign_fault : (k : Packing) (w : Weights) (s : Stage) (ts : List Term) (i : ℕ) → i < length ts → is_there k w s (get_or ts i no_term).row ≡ true → has_sign (get_or ts i no_term).row (get_or ts i no_term).times ≡ false
    → terms_fault k w s i (drop i ts) ≡ Some (Sign i)
sign_fault k w s ts i l there sign = rw (drop_more ts i no_term l, there, sign) refl

small_plain : (z : ℤ) → is_small (10 ^ 24) z ≡ true → to_z w128 (of_z w128 z) ≡ z
small_plain (pos n) h = let l = leb-true n (10 ^ 24) h in omega (arith, ints, l)
small_plain (negsuc n) h = let l = leb-true (suc n) (10 ^ 24) h in omega (arith, ints, l)

pub term_plain : (ts : List Term) (i : ℕ) → are_small ts ≡ true → i < length ts → to_z w128 (of_z w128 (get_or ts i no_term).times) ≡ (get_or ts i no_term).times
term_plain [] i h l = absurd (omega arith)
term_plain (t ∷ ts) zero h l = small_plain t.times (and_parts (is_small (10 ^ 24) t.times) (are_small ts) h).0
term_plain (t ∷ ts) (suc i) h l = term_plain ts i (and_parts (is_small (10 ^ 24) t.times) (are_small ts) h).1 (omega arith)

pub none_means : (u : Unit {0}) (o : Option LeafFault) → Ok u ≡ ok_unless o → o ≡ None
none_means u None h = refl
none_means u (Some fault) h = absurd (cc)

pub ok_means : (r : Result (Unit {0}) LeafFault) (o : Option LeafFault) (P : Type 0) → r ≡ ok_unless o → (o ≡ None → P) → IfOk r (λ _. P)
ok_means (Ok u) o P h f = f (none_means u o h)
ok_means (Err e) o P h f = tt

pub none_joined : {A : Type 0} (a b d : Option A) → a ≡ None → b ≡ None → d ≡ None → option_or a (option_or b d) ≡ None
none_joined a b d p q r = rw (p, q) r

-- ---- what a leaf says of choices of rooms

pub capped : (made p : Facts) (level : ℕ) (targets : List ℤ) (shown best : ℤ) (cuts : List (List ℕ)) (f : Fixed) (b : List ℕ) → made ≡ p → shown ≡ best
    → Caps (packing p) (measured made) (stage_at level targets (Some shown) cuts) f → IsPacking (packing p) (choice_of p b) → ((j : ℕ) → value (choice_of p b) ((measured p).weight j) (length (patterns_of p)) ≡ measure p j b)
    → HasTargets p level targets b → list_all (choice_of p b) f.one ≡ true → list_any (choice_of p b) f.zero ≡ false → measure p level b ≤ℤ best
capped made p level targets shown best cuts f b same value_is caps packs sums has all_in none_out =
    let meets : Meets (packing p) (measured p) (stage_at level targets (Some best) cuts) (choice_of p b) = record { targets = λ j l m. sums j ∙ has.each j l m; floor = refl } in
    let moved : Caps (packing p) (measured p) (stage_at level targets (Some best) cuts) f =
    subst (λ v. Caps (packing p) (measured p) (stage_at level targets (Some v) cuts) f) value_is (subst (λ q. Caps (packing p) (measured q) (stage_at level targets (Some shown) cuts) f) same caps) in
    let at_most = moved (choice_of p b) packs meets (record { one = all_in; zero = none_out }) in
    subst (λ z. z ≤ℤ best) (sums level) at_most

pub emptied : (made p : Facts) (level : ℕ) (targets : List ℤ) (shown : ℤ) (cuts : List (List ℕ)) (f : Fixed) (b : List ℕ) → made ≡ p
    → Empties (packing p) (measured made) (stage_at level targets (Some shown) cuts) f → IsPacking (packing p) (choice_of p b) → ((j : ℕ) → value (choice_of p b) ((measured p).weight j) (length (patterns_of p)) ≡ measure p j b)
    → HasTargets p level targets b → list_all (choice_of p b) f.one ≡ true → list_any (choice_of p b) f.zero ≡ false → ⊥
emptied made p level targets shown cuts f b same empties packs sums has all_in none_out =
    let meets : Meets (packing p) (measured p) (stage_at level targets (Some shown) cuts) (choice_of p b) = record { targets = λ j l m. sums j ∙ has.each j l m; floor = refl } in
    let moved : Empties (packing p) (measured p) (stage_at level targets (Some shown) cuts) f = subst (λ q. Empties (packing p) (measured q) (stage_at level targets (Some shown) cuts) f) same empties in
    moved (choice_of p b) packs meets (record { one = all_in; zero = none_out })

pub weaker : {A E P Q : Type 0} (r : Result A E) → IfOk r (λ _. P) → (P → Q) → IfOk r (λ _. Q)
weaker (Ok a) h f = f h
weaker (Err e) h f = tt
