-- The search over groups of entries finds what is broken.
use Rattle.std.proofs.Common.{ℕ, ◌≡◌, ◌≢◌, ◌<◌, arith, refl, sym, ◌∙◌, ap, subst, zero, suc, Bool, true, false, not, ◌&&◌, ◌||◌, List, [], ◌∷◌, length, get_or, map, inl, inr, ◌+◌, ◌++◌, Option, Some, None}
use Rattle.std.specs.Prelude.{ℤ, pos, ◌+ℤ◌, ◌≤ℤ◌, ◌<ℤ◌, ◌⊎◌, ◌==◌, nat_lt, int_lt, int_le, MatchOption}
use Rattle.std.specs.List.{list_all, list_any, All, Contains}
use Rattle.std.specs.List.Sorted.{IsPermutation}
use Rattle.std.proofs.lemmas.Int.{ints}
use Rattle.std.proofs.lemmas.Bool.{and_parts, and_from, or_parts, or_cases, cases_Bool, cases_eq, ltb-true, ne_eqb, eq-eqb, eqb-true, true≢false, not-true}
use Rattle.std.proofs.lemmas.List.Folds.{list_any_at}
use Rattle.std.proofs.lemmas.List.Elements.{Contains-append_left, Contains-push, All-push}
use Rattle.std.proofs.lemmas.List.Sorted.{Contains-permutation}
use Rattle.numbers.specs.Sums.{member, distinct}
use Rattle.problem_core.specs.Facts.{Facts, course_of}
use Rattle.problem_core.specs.Courses.{is_of_course}
use Rattle.meeting_patterns.specs.Pattern.{within, clash, is_same, share_event, share_a_slot, pattern_at, patterns_of}
use Rattle.meeting_patterns.specs.declared.pattern.Pattern.{Pattern}
use Rattle.duality.specs.Packing.{Packing}
use Rattle.packing_model.specs.Built.{packing}
use Rattle.packing_model.specs.declared.point.Point.{Point}
use Rattle.packing_model.proofs.ListLemmas.{rising_distinct}
use Rattle.packing_model.proofs.RowLemmas.{first_event}
use Rattle.search_nodes.specs.Points.{entry_of, is_part, IsPointOf}
use Rattle.search_nodes.proofs.ClashLaws.{clash_back}
use Rattle.clique_cuts.specs.Separation.{KeepsPairs, KeepsTriples}
use Rattle.clique_cuts.specs.declared.broken.Broken.TheVariants.{Pair, Triple}
use Rattle.clique_cuts.specs.Search.{IsEntry, IsBroken, can_lead, two_exceed, three_exceed, can_follow, clashes_with_both, can_end, breaks_with, breaks_from, breaks_in, group_at, AreGrouped, AreEntries}
use Rattle.clique_cuts.specs.declared.groups.Kind.{Kind}
use Rattle.clique_cuts.specs.declared.groups.Kind.TheVariants.{Room, Course}

-- ---- patterns that clash have one room or one course

shares_course : (p : Facts) (x y : Pattern) → share_event p x y ≡ true → x.course ≡ y.course
shares_course p x y h =
    let e = first_event (λ g. within p x g && within p y g) (length p.events) h in
    let both = and_parts (within p x e.0) (within p y e.0) e.2 in
    let first = (and_parts (is_of_course p x.course e.0) _ both.0).0 in
    let second = (and_parts (is_of_course p y.course e.0) _ both.1).0 in
    sym (eqb-true (course_of p e.0) x.course first) ∙ eqb-true (course_of p e.0) y.course second

one_place : (p : Facts) (x y : Pattern) → clash p x y ≡ true → (x.room ≡ y.room) ⊎ (x.course ≡ y.course)
one_place p x y h =
    let outer = and_parts (not (is_same x y)) (share_event p x y || ((x.room == y.room) && (share_a_slot p x y || (x.course == y.course)))) h in
    elim (or_cases (share_event p x y) ((x.room == y.room) && (share_a_slot p x y || (x.course == y.course))) outer.1) [
      | inl event ↦ inr (shares_course p x y event)
      | inr room ↦ inl (eqb-true x.room y.room (and_parts (x.room == y.room) (share_a_slot p x y || (x.course == y.course)) room).0)
    ]

-- three that clash in pairs have one room, or they have one course
pub three_in_place : (p : Facts) (x y z : Pattern) → clash p x y ≡ true → clash p x z ≡ true → clash p y z ≡ true
    → ((x.room ≡ y.room) × (x.room ≡ z.room)) ⊎ ((x.course ≡ y.course) × (x.course ≡ z.course))
three_in_place p x y z xy xz yz = elim (one_place p x y xy) [
  | inl r ↦ elim (one_place p x z xz) [
    | inl s ↦ inl (r, s)
    | inr c ↦ elim (one_place p y z yz) [ inl t ↦ inl (r, r ∙ t) | inr d ↦ inr (c ∙ sym d, c) ]
  ]
  | inr c ↦ elim (one_place p x z xz) [
    | inr d ↦ inr (c, d)
    | inl s ↦ elim (one_place p y z yz) [ inl t ↦ inl (s ∙ sym t, s) | inr d ↦ inr (c, c ∙ d) ]
  ]
]

-- ---- entries of a point

numbers : List (ℕ × ℤ) → List ℕ
numbers es = map (λ (e : ℕ × ℤ). e.0) es

apart_at : (es : List (ℕ × ℤ)) (p i : ℕ) (d : ℕ × ℤ) → member p (numbers es) ≡ false → i < length es → p ≢ (get_or es i d).0
unfolding numbers
apart_at [] p i d m l = absurd (omega arith)
apart_at (e ∷ es) p zero d m l = λ same. true≢false (sym (eq-eqb e.0 p (sym same)) ∙ (or_parts (e.0 == p) (member p (numbers es)) m).0)
apart_at (e ∷ es) p (suc i) d m l = apart_at es p i d (or_parts (e.0 == p) (member p (numbers es)) m).1 (omega arith)

given_at : (es : List (ℕ × ℤ)) (i : ℕ) (d : ℕ × ℤ) → distinct (numbers es) ≡ true → i < length es → entry_of es (get_or es i d).0 ≡ (get_or es i d).1
unfolding numbers
given_at [] i d h l = absurd (omega arith)
given_at (e ∷ es) zero d h l = rw (eq-eqb e.0 e.0 refl) refl
given_at (e ∷ es) (suc i) d h l =
    let parts = and_parts (not (member e.0 (numbers es))) (distinct (numbers es)) h in
    let ne = apart_at es e.0 i d (not-true (member e.0 (numbers es)) parts.0) (omega arith) in
    rw (ne_eqb e.0 (get_or es i d).0 ne) (given_at es i d parts.1 (omega arith))

all_at : {A : Type 0} (test : A → Bool) (xs : List A) (i : ℕ) (d : A) → list_all test xs ≡ true → i < length xs → test (get_or xs i d) ≡ true
all_at test [] i d h l = absurd (omega arith)
all_at test (x ∷ xs) zero d h l = (and_parts (test x) (list_all test xs) h).0
all_at test (x ∷ xs) (suc i) d h l = all_at test xs i d (and_parts (test x) (list_all test xs) h).1 (omega arith)

pub lt_is : (a b : ℤ) → int_lt a b ≡ true → a <ℤ b
lt_is a b h = grind (arith, ints)

le_is : (a b : ℤ) → int_le a b ≡ true → a ≤ℤ b
le_is a b h = grind (arith, ints)

pub lt_not : (a b : ℤ) → int_lt a b ≡ false → b ≤ℤ a
lt_not a b h = grind (arith, ints)

le_not : (a b : ℤ) → int_le a b ≡ false → b <ℤ a
le_not a b h = grind (arith, ints)

pub lt_yes : (a b : ℤ) → a <ℤ b → int_lt a b ≡ true
lt_yes a b h = grind (arith, ints)

le_yes : (a b : ℤ) → a ≤ℤ b → int_le a b ≡ true
le_yes a b h = grind (arith, ints)

pub entries_are : (k : Packing) (x : Point) → IsPointOf k x → All (IsEntry k x) x.entries
unfolding numbers
entries_are k x is = λ i d l.
    let e = get_or x.entries i d in
    let part = and_parts (int_lt (pos 0) e.1) (int_le e.1 x.den) (all_at (is_part x.den) x.entries i d is.parts l) in
    record {
      known = ltb-true e.0 k.count (all_at (λ (y : ℕ × ℤ). nat_lt y.0 k.count) x.entries i d is.known l);
      given = given_at x.entries i d (rising_distinct (numbers x.entries) is.rising) l;
      size = record { positive = lt_is (pos 0) e.1 part.0; part = le_is e.1 x.den part.1 };
    }

-- a pattern has nothing, or it is listed with what it has
listed : (es : List (ℕ × ℤ)) (p : ℕ) → (entry_of es p ≡ pos 0) ⊎ Contains es (p, entry_of es p)
listed [] p = inl refl
listed ((q, v) ∷ es) p = elim (cases_Bool (q == p)) [
  | inl here ↦ let same : q ≡ p = eqb-true q p here in inr (0, omega arith, rw (here, same) refl)
  | inr other ↦ elim (listed es p) [
    | inl none ↦ inl (rw other none)
    | inr at ↦ inr (suc at.0, omega arith, rw other at.2)
  ]
]

-- ---- a group in which nothing is broken

none_at : {A : Type 0} (test : A → Bool) (xs : List A) (x : A) → list_any test xs ≡ false → Contains xs x → test x ≡ false
none_at test xs x none at = elim (cases_Bool (test x)) [
  | inl passes ↦ absurd (true≢false (sym (list_any_at test xs at.0 x at.1 (ap test at.2 ∙ passes)) ∙ none))
  | inr fails ↦ fails
]

or_no : (a b : Bool) → (a || b) ≡ true → a ≡ false → b ≡ true
or_no true b h k = absurd (true≢false k)
or_no false b h k = h

and_no : (a b : Bool) → (a && b) ≡ false → a ≡ true → b ≡ false
and_no true b h k = h
and_no false b h k = absurd (true≢false (sym k))

rest_none : (k : Packing) (den : ℤ) (g : List (ℕ × ℤ)) (a b : ℕ × ℤ) → breaks_in k den g ≡ false → Contains g a → Contains g b → can_lead den a ≡ true → can_follow k den a b ≡ true
    → (int_lt den (a.1 +ℤ b.1) ≡ false) × (list_any (can_end k den a b) g ≡ false)
rest_none k den g a b none ca cb lead follow =
    let from_a = and_no (can_lead den a) (list_any (breaks_with k den g a) g) (none_at (breaks_from k den g) g a none ca) lead in
    let with_b = and_no (can_follow k den a b) _ (none_at (breaks_with k den g a) g b from_a cb) follow in
    or_parts (int_lt den (a.1 +ℤ b.1)) (list_any (can_end k den a b) g) with_b

follows : (k : Packing) (den : ℤ) (a b : ℕ × ℤ) → k.clash a.0 b.0 ≡ true → b.1 ≤ℤ a.1 → den <ℤ (a.1 +ℤ (b.1 +ℤ b.1)) → (can_lead den a ≡ true) × (can_follow k den a b ≡ true)
follows k den a b clash less more = (
  lt_yes den (a.1 +ℤ (a.1 +ℤ a.1)) (omega (arith, ints)),
  and_from (int_le b.1 a.1) (three_exceed den a.1 b.1 b.1 && k.clash a.0 b.0) (le_yes b.1 a.1 less) (and_from (three_exceed den a.1 b.1 b.1) (k.clash a.0 b.0) (lt_yes den (a.1 +ℤ (b.1 +ℤ b.1)) more) clash),
)

two_keep : (k : Packing) (den : ℤ) (g : List (ℕ × ℤ)) (a b : ℕ × ℤ) → breaks_in k den g ≡ false → Contains g a → Contains g b → k.clash a.0 b.0 ≡ true → b.1 ≤ℤ a.1 → pos 0 <ℤ b.1 → (a.1 +ℤ b.1) ≤ℤ den
two_keep k den g a b none ca cb clash less positive = elim (cases_Bool (int_lt den (a.1 +ℤ b.1))) [
  | inr under ↦ lt_not den (a.1 +ℤ b.1) under
  | inl more ↦
      let over = lt_is den (a.1 +ℤ b.1) more in
      let f = follows k den a b clash less (omega (arith, ints)) in
      absurd (true≢false (sym more ∙ (rest_none k den g a b none ca cb f.0 f.1).0))
]

three_keep : (k : Packing) (den : ℤ) (g : List (ℕ × ℤ)) (a b c : ℕ × ℤ) → breaks_in k den g ≡ false → Contains g a → Contains g b → Contains g c
    → k.clash a.0 b.0 ≡ true → k.clash a.0 c.0 ≡ true → k.clash b.0 c.0 ≡ true → b.1 ≤ℤ a.1 → c.1 ≤ℤ b.1 → (a.1 +ℤ (b.1 +ℤ c.1)) ≤ℤ den
three_keep k den g a b c none ca cb cc' ab ac bc less least = elim (cases_Bool (int_lt den (a.1 +ℤ (b.1 +ℤ c.1)))) [
  | inr under ↦ lt_not den (a.1 +ℤ (b.1 +ℤ c.1)) under
  | inl more ↦
      let over = lt_is den (a.1 +ℤ (b.1 +ℤ c.1)) more in
      let f = follows k den a b ab less (omega (arith, ints)) in
      let ends = none_at (can_end k den a b) g c (rest_none k den g a b none ca cb f.0 f.1).1 cc' in
      let both = and_from (k.clash a.0 c.0) (k.clash b.0 c.0) ac bc in
      let third = and_from (three_exceed den a.1 b.1 c.1) (clashes_with_both k.clash a.0 b.0 c.0) more both in
      absurd (true≢false (sym (and_from (int_le c.1 b.1) (three_exceed den a.1 b.1 c.1 && clashes_with_both k.clash a.0 b.0 c.0) (le_yes c.1 b.1 least) third) ∙ ends))
]

le_or : (a b : ℤ) → (a ≤ℤ b) ⊎ (b ≤ℤ a)
le_or a b = elim (cases_Bool (int_le a b)) [
  | inl less ↦ inl (le_is a b less)
  | inr more ↦ let over = le_not a b more in inr (omega (arith, ints))
]

-- the same in any order
two_in : (k : Packing) (den : ℤ) (g : List (ℕ × ℤ)) (a b : ℕ × ℤ) → ((p q : ℕ) → k.clash p q ≡ true → k.clash q p ≡ true) → breaks_in k den g ≡ false → Contains g a → Contains g b
    → k.clash a.0 b.0 ≡ true → pos 0 <ℤ a.1 → pos 0 <ℤ b.1 → (a.1 +ℤ b.1) ≤ℤ den
two_in k den g a b back none ca cb ab pa pb = elim (le_or a.1 b.1) [
  | inr less ↦ two_keep k den g a b none ca cb ab less pb
  | inl less ↦ let sum = two_keep k den g b a none cb ca (back a.0 b.0 ab) less pa in omega (arith, ints)
]

three_in : (k : Packing) (den : ℤ) (g : List (ℕ × ℤ)) (a b c : ℕ × ℤ) → ((p q : ℕ) → k.clash p q ≡ true → k.clash q p ≡ true) → breaks_in k den g ≡ false → Contains g a → Contains g b → Contains g c
    → k.clash a.0 b.0 ≡ true → k.clash a.0 c.0 ≡ true → k.clash b.0 c.0 ≡ true → (a.1 +ℤ (b.1 +ℤ c.1)) ≤ℤ den
three_in k den g a b c back none ca cb cc' ab ac bc =
    let ba = back a.0 b.0 ab in
    let ca' = back a.0 c.0 ac in
    let cb' = back b.0 c.0 bc in
    elim (le_or a.1 b.1) [
      | inl l ↦ elim (le_or b.1 c.1) [
        | inl m ↦ let sum = three_keep k den g c b a none cc' cb ca cb' ca' ba m l in omega (arith, ints)
        | inr m ↦ elim (le_or a.1 c.1) [
          | inl n ↦ let sum = three_keep k den g b c a none cb cc' ca bc ba ca' m n in omega (arith, ints)
          | inr n ↦ let sum = three_keep k den g b a c none cb ca cc' ba bc ac l n in omega (arith, ints)
        ]
      ]
      | inr l ↦ elim (le_or a.1 c.1) [
        | inl n ↦ let sum = three_keep k den g c a b none cc' ca cb ca' cb' ab n l in omega (arith, ints)
        | inr n ↦ elim (le_or b.1 c.1) [
          | inl m ↦ let sum = three_keep k den g a c b none ca cc' cb ac ab cb' n m in omega (arith, ints)
          | inr m ↦ three_keep k den g a b c none ca cb cc' ab ac bc l m
        ]
      ]
    ]

-- ---- the groups of all entries

-- nothing is broken in a group by rooms or by courses
pub record NoneBroken (p : Facts) (x : Point) (rooms courses : List (List (ℕ × ℤ))) : Type 0 where
  pub point : IsPointOf (packing p) x
  pub in_room : (e : ℕ × ℤ) → Contains x.entries e → Contains (get_or rooms (group_at p Room e.0) []) e
  pub in_course : (e : ℕ × ℤ) → Contains x.entries e → Contains (get_or courses (group_at p Course e.0) []) e
  pub no_room : (g : ℕ) → breaks_in (packing p) x.den (get_or rooms g []) ≡ false
  pub no_course : (g : ℕ) → breaks_in (packing p) x.den (get_or courses g []) ≡ false

pub grouped_in : (p : Facts) (kind : Kind) (x : Point) (entries : List (ℕ × ℤ)) (groups : List (List (ℕ × ℤ))) → IsPermutation x.entries entries → AreGrouped p kind (length entries) entries groups
    → (e : ℕ × ℤ) → Contains x.entries e → Contains (get_or groups (group_at p kind e.0) []) e
grouped_in p kind x entries groups perm is e at =
    let there = Contains-permutation x.entries entries e perm at in
    subst (λ (y : ℕ × ℤ). Contains (get_or groups (group_at p kind y.0) []) y) there.2 (is.each there.0 e there.1)

back : (p : Facts) (i j : ℕ) → (packing p).clash i j ≡ true → (packing p).clash j i ≡ true
back p i j h = clash_back p (pattern_at (patterns_of p) i) (pattern_at (patterns_of p) j) h

pub nothing_negative : (k : Packing) (x : Point) → IsPointOf k x → (p : ℕ) → (pos 0 ≤ℤ entry_of x.entries p) × (entry_of x.entries p ≤ℤ x.den)
nothing_negative k x is p = elim (listed x.entries p) [
  | inl none ↦ (omega (arith, ints, none), omega (arith, ints, none, is.positive))
  | inr at ↦
      let e = entries_are k x is at.0 (p, entry_of x.entries p) at.1 in
      let same = ap (λ (y : ℕ × ℤ). y.1) at.2 in
      (omega (arith, ints, e.size.positive, same), omega (arith, ints, e.size.part, same))
]

some_of : (k : Packing) (x : Point) (p : ℕ) → IsPointOf k x → Contains x.entries (p, entry_of x.entries p) → pos 0 <ℤ entry_of x.entries p
some_of k x p is at =
    let e = entries_are k x is at.0 (p, entry_of x.entries p) at.1 in
    let same = ap (λ (y : ℕ × ℤ). y.1) at.2 in
    omega (arith, ints, e.size.positive, same)

moved : (groups : List (List (ℕ × ℤ))) (g h : ℕ) (e : ℕ × ℤ) → g ≡ h → Contains (get_or groups h []) e → Contains (get_or groups g []) e
moved groups g h e same at = subst (λ i. Contains (get_or groups i []) e) (sym same) at

pub keeps_pairs : (p : Facts) (x : Point) (rooms courses : List (List (ℕ × ℤ))) → NoneBroken p x rooms courses → KeepsPairs (packing p) x
keeps_pairs p x rooms courses is = λ i j li lj clash.
    let a : ℕ × ℤ = (i, entry_of x.entries i) in
    let b : ℕ × ℤ = (j, entry_of x.entries j) in
    let bound_i = nothing_negative (packing p) x is.point i in
    let bound_j = nothing_negative (packing p) x is.point j in
    elim (listed x.entries i) [
      | inl none ↦ omega (arith, ints, none, bound_j.1)
      | inr at_i ↦ elim (listed x.entries j) [
        | inl none ↦ omega (arith, ints, none, bound_i.1)
        | inr at_j ↦
            let pi = some_of (packing p) x i is.point at_i in
            let pj = some_of (packing p) x j is.point at_j in
            elim (one_place p (pattern_at (patterns_of p) i) (pattern_at (patterns_of p) j) clash) [
              | inl room ↦ two_in (packing p) x.den (get_or rooms (group_at p Room i) []) a b (back p) (is.no_room (group_at p Room i)) (is.in_room a at_i) (moved rooms _ (group_at p Room j) b room (is.in_room b at_j)) clash pi pj
              | inr course ↦ two_in (packing p) x.den (get_or courses (group_at p Course i) []) a b (back p) (is.no_course (group_at p Course i)) (is.in_course a at_i) (moved courses _ (group_at p Course j) b course (is.in_course b at_j)) clash pi pj
            ]
      ]
    ]

pub keeps_triples : (p : Facts) (x : Point) (rooms courses : List (List (ℕ × ℤ))) → NoneBroken p x rooms courses → KeepsTriples (packing p) x
keeps_triples p x rooms courses is = λ i j m li lj lm ij im jm.
    let a : ℕ × ℤ = (i, entry_of x.entries i) in
    let b : ℕ × ℤ = (j, entry_of x.entries j) in
    let c : ℕ × ℤ = (m, entry_of x.entries m) in
    let pair = keeps_pairs p x rooms courses is in
    elim (listed x.entries i) [
      | inl none ↦ omega (arith, ints, none, pair j m lj lm jm)
      | inr at_i ↦ elim (listed x.entries j) [
        | inl none ↦ omega (arith, ints, none, pair i m li lm im)
        | inr at_j ↦ elim (listed x.entries m) [
          | inl none ↦ omega (arith, ints, none, pair i j li lj ij)
          | inr at_m ↦ elim (three_in_place p (pattern_at (patterns_of p) i) (pattern_at (patterns_of p) j) (pattern_at (patterns_of p) m) ij im jm) [
            | inl room ↦ three_in (packing p) x.den (get_or rooms (group_at p Room i) []) a b c (back p) (is.no_room (group_at p Room i)) (is.in_room a at_i)
                (moved rooms _ (group_at p Room j) b room.0 (is.in_room b at_j)) (moved rooms _ (group_at p Room m) c room.1 (is.in_room c at_m)) ij im jm
            | inr course ↦ three_in (packing p) x.den (get_or courses (group_at p Course i) []) a b c (back p) (is.no_course (group_at p Course i)) (is.in_course a at_i)
                (moved courses _ (group_at p Course j) b course.0 (is.in_course b at_j)) (moved courses _ (group_at p Course m) c course.1 (is.in_course c at_m)) ij im jm
          ]
        ]
      ]
    ]

-- ---- what is found

pub broken_two : (k : Packing) (x : Point) (a b : ℕ × ℤ) → IsEntry k x a → IsEntry k x b → can_follow k x.den a b ≡ true → two_exceed x.den a.1 b.1 ≡ true → IsBroken k x (Pair a.0 b.0)
broken_two k x a b ea eb follow more =
    let outer = and_parts (int_le b.1 a.1) (three_exceed x.den a.1 b.1 b.1 && k.clash a.0 b.0) follow in
    let over = lt_is x.den (a.1 +ℤ b.1) more in
    (ea.known, eb.known, (and_parts (three_exceed x.den a.1 b.1 b.1) (k.clash a.0 b.0) outer.1).1, omega (arith, ints, ea.given, eb.given))

pub broken_three : (k : Packing) (x : Point) (a b c : ℕ × ℤ) → IsEntry k x a → IsEntry k x b → IsEntry k x c → k.clash a.0 b.0 ≡ true → can_end k x.den a b c ≡ true → IsBroken k x (Triple a.0 b.0 c.0)
broken_three k x a b c ea eb ec clash ends =
    let outer = and_parts (int_le c.1 b.1) (three_exceed x.den a.1 b.1 c.1 && clashes_with_both k.clash a.0 b.0 c.0) ends in
    let inner = and_parts (three_exceed x.den a.1 b.1 c.1) (clashes_with_both k.clash a.0 b.0 c.0) outer.1 in
    let both = and_parts (k.clash a.0 c.0) (k.clash b.0 c.0) inner.1 in
    let more = lt_is x.den (a.1 +ℤ (b.1 +ℤ c.1)) inner.0 in
    (ea.known, eb.known, ec.known, clash, both.0, both.1, omega (arith, ints, ea.given, eb.given, ec.given))

-- ---- making groups

pub any_default : {A : Type 0} (xs : List A) (i : ℕ) (d e : A) → i < length xs → get_or xs i d ≡ get_or xs i e
any_default [] i d e l = absurd (omega arith)
any_default (x ∷ xs) zero d e l = refl
any_default (x ∷ xs) (suc i) d e l = any_default xs i d e (omega arith)

-- one group has an entry more, and the others are as they were
pub record IsPut (at : ℕ) (e : ℕ × ℤ) (old new : List (List (ℕ × ℤ))) : Type 0 where
  pub here : get_or new at [] ≡ get_or old at [] ++ e ∷ []
  pub others : (g : ℕ) → g ≢ at → get_or new g [] ≡ get_or old g []

put_keeps : (at g : ℕ) (e y : ℕ × ℤ) (old new : List (List (ℕ × ℤ))) → IsPut at e old new → Contains (get_or old g []) y → Contains (get_or new g []) y
put_keeps at g e y old new put is = elim (cases_eq g at) [
  | inl same ↦ rw (same, put.here) (Contains-append_left (get_or old at []) (e ∷ []) y (subst (λ i. Contains (get_or old i []) y) same is))
  | inr other ↦ subst (λ (xs : List (ℕ × ℤ)). Contains xs y) (sym (put.others g other)) is
]

pub grouped_more : (p : Facts) (kind : Kind) (entries : List (ℕ × ℤ)) (old new : List (List (ℕ × ℤ))) (i at : ℕ) (d : ℕ × ℤ) → i < length entries → at ≡ group_at p kind (get_or entries i d).0 → IsPut at (get_or entries i d) old new
    → AreGrouped p kind i entries old → AreGrouped p kind (i + 1) entries new
grouped_more p kind entries old new i at d l is put before = record {
  each = λ j f m. elim (cases_eq j i) [
    | inr less ↦ put_keeps at (group_at p kind (get_or entries j f).0) (get_or entries i d) (get_or entries j f) old new put (before.each j f (omega arith))
    | inl same ↦
        let e : get_or entries j f ≡ get_or entries i d = ap (λ n. get_or entries n f) same ∙ any_default entries i f d l in
        let there : Contains (get_or new at []) (get_or entries i d) = subst (λ (xs : List (ℕ × ℤ)). Contains xs (get_or entries i d)) (sym put.here) (Contains-push (get_or old at []) (get_or entries i d)) in
        let place : Contains (get_or new (group_at p kind (get_or entries i d).0) []) (get_or entries i d) = subst (λ g. Contains (get_or new g []) (get_or entries i d)) is there in
        subst (λ (y : ℕ × ℤ). Contains (get_or new (group_at p kind y.0) []) y) (sym e) place
  ];
}

pub entries_more : (k : Packing) (x : Point) (at : ℕ) (e : ℕ × ℤ) (old new : List (List (ℕ × ℤ))) → IsEntry k x e → IsPut at e old new → AreEntries k x old → AreEntries k x new
entries_more k x at e old new is put before = λ g. elim (cases_eq g at) [
  | inl same ↦ subst (λ i. All (IsEntry k x) (get_or new i [])) (sym same) (subst (All (IsEntry k x)) (sym put.here) (All-push (IsEntry k x) (get_or old at []) e (before at) is))
  | inr other ↦ subst (All (IsEntry k x)) (sym (put.others g other)) (before g)
]

pub on_none : {A : Type 0} (r : Option A) (P Q : Type 0) (F : A → Type 0) → MatchOption r P F → (P → Q) → MatchOption r Q (λ _. Unit {0})
on_none None P Q F h f = f h
on_none (Some x) P Q F h f = tt
