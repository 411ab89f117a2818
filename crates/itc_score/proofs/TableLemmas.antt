-- Tables of rows, as they are filled.
use Rattle.std.proofs.Common.{ℕ, ◌≡◌, ◌+◌, ◌-◌, ◌*◌, ◌<◌, ◌≤◌, arith, refl, sym, ◌∙◌, ap, ap₂, zero, suc, Bool, true, false, not, cond, ◌&&◌, ◌||◌, List, [], ◌∷◌, ◌++◌, length, get_or, set, drop, take, inl, inr}
use Rattle.std.specs.Prelude.{◌==◌, nat_lt}
use Rattle.std.specs.List.{count_by, list_any, list_all}
use Rattle.std.proofs.lemmas.Bool.{and_parts, and_from, cases_Bool, eqb-true, ltb-true}
use Rattle.std.proofs.lemmas.List.{get_or-take, get_or-drop}
use Rattle.problem_core.specs.Tables.{IsGrid}
use Rattle.problem_core.specs.Grids.{IsGrid-put, IsGrid-same}
use Rattle.problem_core.proofs.GridLemmas.{drop_before}
use Rattle.ctt_reader.specs.declared.instance.Curriculum.{Curriculum}
use Rattle.ctt_reader.specs.Promised.{are_members, is_curriculum}
use Rattle.ctt_reader.proofs.FieldsBackLemmas.{passes-at}
use Rattle.timed_solution.specs.declared.times.Meeting.{Meeting}
use Rattle.itc_score.specs.Sums.{count_pairs}
use Rattle.itc_score.specs.Score.{is_member, has_room, in_one_slot, in_one_room, score_of}
use Rattle.itc_score.specs.declared.counts.ScoreCounts.{ScoreCounts}
use Rattle.ctt_reader.specs.declared.instance.Instance.{Instance}
use Rattle.itc_score.specs.Places.{place_of, fits, is_in, held_at, alone_up_to, alone_among}
use Rattle.itc_score.proofs.SumLemmas.{sum_below-same, sum_below-more, count-cons, count-push, count-same, pairs-push, sum_below-bound}
use Rattle.itc_score.proofs.LineLemmas.{IsFit, fit-is, same_place, place-small}

-- ---- members beside members

join-bits : (r e a f : Bool) → ((r && (e || a)) || f) ≡ cond (r && e) true ((r && a) || f)
join-bits true true a f = refl
join-bits true false a f = refl
join-bits false e a f = refl

pub join_one-step : (cells : List Bool) (n row : ℕ) (ms : List ℕ) (left : ℕ) (f : ℕ → ℕ → Bool) → 0 < left → left ≤ length ms → are_members n ms ≡ true → row < n
    → IsGrid cells n n (λ c d. ((row == c) && list_any (λ m. m == d) (drop left ms)) || f c d)
    → IsGrid (set cells (row * n + get_or ms (left - 1) 0) true) n n (λ c d. ((row == c) && list_any (λ m. m == d) (drop (left - 1) ms)) || f c d)
join_one-step cells n row ms left f some l known there grid =
    let x = get_or ms (left - 1) 0 in
    IsGrid-put cells n n (λ c d. ((row == c) && list_any (λ m. m == d) (drop left ms)) || f c d) (λ c d. ((row == c) && list_any (λ m. m == d) (drop (left - 1) ms)) || f c d) row x true grid there (ltb-true x n (passes-at (λ m. nat_lt m n) ms (left - 1) 0 known (omega arith)))
    (λ c d _ _. ap (λ (ys : List ℕ). ((row == c) && list_any (λ m. m == d) ys) || f c d) (drop_before ms left 0 some l) ∙ join-bits (row == c) (x == d) (list_any (λ m. m == d) (drop left ms)) (f c d))

join-rows : (r a b f : Bool) → ((r && b) || ((a && b) || f)) ≡ (((r || a) && b) || f)
join-rows true true true f = refl
join-rows true true false f = refl
join-rows true false true f = refl
join-rows true false false f = refl
join-rows false a b f = refl

pub join-step : (cells' : List Bool) (n : ℕ) (ms : List ℕ) (left : ℕ) (f : ℕ → ℕ → Bool) → 0 < left → left ≤ length ms
    → IsGrid cells' n n (λ c d. ((get_or ms (left - 1) 0 == c) && list_any (λ m. m == d) ms) || ((list_any (λ m. m == c) (drop left ms) && list_any (λ m. m == d) ms) || f c d))
    → IsGrid cells' n n (λ c d. (list_any (λ m. m == c) (drop (left - 1) ms) && list_any (λ m. m == d) ms) || f c d)
join-step cells' n ms left f some l grid =
    let x = get_or ms (left - 1) 0 in
    IsGrid-same cells' n n (λ c d. ((x == c) && list_any (λ m. m == d) ms) || ((list_any (λ m. m == c) (drop left ms) && list_any (λ m. m == d) ms) || f c d)) (λ c d. (list_any (λ m. m == c) (drop (left - 1) ms) && list_any (λ m. m == d) ms) || f c d) grid
    (λ c d _ _. join-rows (x == c) (list_any (λ m. m == c) (drop left ms)) (list_any (λ m. m == d) ms) (f c d) ∙ sym (ap (λ (ys : List ℕ). (list_any (λ m. m == c) ys && list_any (λ m. m == d) ms) || f c d) (drop_before ms left 0 some l)))

pub joined-step : (cells' : List Bool) (n : ℕ) (qs : List Curriculum) (left : ℕ) (q : Curriculum) → 0 < left → left ≤ length qs → q ≡ get_or qs (left - 1) q
    → IsGrid cells' n n (λ c d. (list_any (λ m. m == c) q.members && list_any (λ m. m == d) q.members) || list_any (λ x. is_member x c && is_member x d) (drop left qs))
    → IsGrid cells' n n (λ c d. list_any (λ x. is_member x c && is_member x d) (drop (left - 1) qs))
joined-step cells' n qs left q some l is grid =
    IsGrid-same cells' n n (λ c d. (is_member q c && is_member q d) || list_any (λ x. is_member x c && is_member x d) (drop left qs)) (λ c d. list_any (λ x. is_member x c && is_member x d) (drop (left - 1) qs)) grid
    (λ c d _ _. ap (λ (y : Curriculum). (is_member y c && is_member y d) || list_any (λ x. is_member x c && is_member x d) (drop left qs)) is ∙ sym (ap (list_any (λ x. is_member x c && is_member x d)) (drop_before qs left q some l)))

pub members-of : (n : ℕ) (q : Curriculum) → is_curriculum n q ≡ true → are_members n q.members ≡ true
members-of n q h = grind (arith, h)

-- ---- rooms

in-bits : (h r s : Bool) → (r ≡ true → h ≡ true) → (h && r && s) ≡ (r && s)
in-bits true r s f = refl
in-bits false true s f = ap (λ t. t && s) (f refl)
in-bits false false s f = refl

-- the lines before, in the room and slot of a line with a room
pub in-room : (k r : ℕ) (lines : List Meeting) (m : Meeting) → list_all (fits k r) lines ≡ true → IsFit k r m → (m.room == 0) ≡ false → count_by (λ y. in_one_room y m) lines ≡ count_by (is_in m.room (place_of m)) lines
in-room k r lines m all fm some = count-same (λ y. in_one_room y m) (is_in m.room (place_of m)) (fits k r) lines all
    (λ y h. in-bits (has_room y) (y.room == m.room) (in_one_slot y m) (λ e. ap (λ n. not (n == 0)) (eqb-true y.room m.room e) ∙ ap not some)
    ∙ ap (λ t. (y.room == m.room) && t) (sym (same_place y.day y.period m.day m.period (fit-is k r y h).period fm.period)))

none-bits : (z s : Bool) → (not z && z && s) ≡ false
none-bits true s = refl
none-bits false s = refl

pub in-none : (lines : List Meeting) (m : Meeting) → (m.room == 0) ≡ true → count_by (λ y. in_one_room y m) lines ≡ 0
in-none [] m none = refl
in-none (y ∷ lines) m none =
    let here : in_one_room y m ≡ false = ap (λ n. has_room y && (y.room == n) && in_one_slot y m) (eqb-true m.room 0 none) ∙ none-bits (y.room == 0) (in_one_slot y m) in
    let one : ◌≡◌ {A = ℕ} (cond (in_one_room y m) 1 0) 0 = ap (λ b. cond b 1 0) here in
    omega (arith, count-cons (λ x. in_one_room x m) y lines, one, in-none lines m none)

-- a line more
pub occupancy-more : (k r : ℕ) (lines : List Meeting) (m : Meeting) (pairs earlier : ℕ) → list_all (fits k r) lines ≡ true → IsFit k r m → pairs ≡ count_pairs in_one_room lines
    → earlier ≡ cond (m.room == 0) 0 (count_by (is_in m.room (place_of m)) lines) → pairs + earlier ≡ count_pairs in_one_room (lines ++ m ∷ [])
occupancy-more k r lines m pairs earlier all fm is here = elim (cases_Bool (m.room == 0)) [
  | inl none ↦
      let nothing : earlier ≡ 0 = here ∙ ap (λ t. cond t 0 (count_by (is_in m.room (place_of m)) lines)) none in
      omega (arith, pairs-push in_one_room lines m, in-none lines m none, is, nothing)
  | inr some ↦
      let found : earlier ≡ count_by (is_in m.room (place_of m)) lines = here ∙ ap (λ t. cond t 0 (count_by (is_in m.room (place_of m)) lines)) some in
      omega (arith, pairs-push in_one_room lines m, in-room k r lines m all fm some, is, found)
]

cell-more : (r p : ℕ) (lines : List Meeting) (m : Meeting) (earlier : ℕ) → earlier ≡ count_by (is_in m.room (place_of m)) lines
    → count_by (is_in r p) (lines ++ m ∷ []) ≡ cond ((m.room == r) && (place_of m == p)) (earlier + 1) (count_by (is_in r p) lines)
cell-more r p lines m earlier is = count-push (is_in r p) lines m ∙ elim (cases_Bool (is_in r p m)) [
  | inl here ↦
      let a = and_parts (m.room == r) (place_of m == p) here in
      let same : earlier ≡ count_by (is_in r p) lines = is ∙ ap₂ (λ s q. count_by (is_in s q) lines) (eqb-true m.room r a.0) (eqb-true (place_of m) p a.1) in
      rw here (omega (arith, same))
  | inr there ↦ rw there (let e : count_by (is_in r p) lines + 0 ≡ count_by (is_in r p) lines = omega arith in e)
]

pub rooms-more : (cells : List ℕ) (k rooms : ℕ) (lines : List Meeting) (m : Meeting) (earlier : ℕ) → IsFit k rooms m → earlier ≡ count_by (is_in m.room (place_of m)) lines
    → IsGrid cells (rooms + 1) 700 (λ r p. count_by (is_in r p) lines) → IsGrid (set cells (m.room * 700 + place_of m) (earlier + 1)) (rooms + 1) 700 (λ r p. count_by (is_in r p) (lines ++ m ∷ []))
rooms-more cells k rooms lines m earlier fm is grid =
    IsGrid-put cells (rooms + 1) 700 (λ r p. count_by (is_in r p) lines) (λ r p. count_by (is_in r p) (lines ++ m ∷ [])) m.room (place_of m) (earlier + 1) grid (omega (arith, fm.room)) (place-small m.day m.period fm.day fm.period)
    (λ r p _ _. cell-more r p lines m earlier is)

-- ---- rows

pub row-at : (cells : List Bool) (rows n : ℕ) (f : ℕ → ℕ → Bool) (r a b : ℕ) → IsGrid cells rows n f → r < rows → a ≡ r * n → b ≡ a + n → (k : ℕ) → k < n → get_or (take (b - a) (drop a cells)) k false ≡ f r k
row-at cells rows n f r a b grid l at_row end k m =
    get_or-take (b - a) (drop a cells) k false (omega (arith, end, m)) ∙ get_or-drop a cells k false ∙ ap (λ j. get_or cells (j + k) false) at_row ∙ grid.cell r k false l m

one-bit : (b : Bool) → cond b 1 0 ≤ 1
one-bit true = omega arith
one-bit false = omega arith

pub held-small : (is_in : ℕ → Bool) (held : List Bool) (courses p : ℕ) → courses ≤ 1000 → held_at is_in held courses p ≤ 1000
held-small is_in held courses p l = omega (arith, l, sum_below-bound (λ c. cond (is_in c && get_or held (c * 700 + p) false) 1 0) 1 courses (λ c m. one-bit (is_in c && get_or held (c * 700 + p) false)))

pub held-same : (f g : ℕ → Bool) (held : List Bool) (m n p : ℕ) → m ≡ n → ((c : ℕ) → c < n → f c ≡ g c) → held_at f held m p ≡ held_at g held n p
held-same f g held m n p same h =
    ap (λ k. held_at f held k p) same
    ∙ sum_below-same (λ c. cond (f c && get_or held (c * 700 + p) false) 1 0) (λ c. cond (g c && get_or held (c * 700 + p) false) 1 0) n (λ c l. ap (λ t. cond (t && get_or held (c * 700 + p) false) 1 0) (h c l))

alone-same-to : (n : ℕ) (f g : ℕ → ℕ) → n ≡ 698 → ((p : ℕ) → p < 700 → f p ≡ g p) → alone_up_to n f ≡ alone_up_to n g
alone-same-to n f g all h =
    sum_below-same (λ j. cond ((f j == 0) && (f (j + 2) == 0)) (f (j + 1)) 0) (λ j. cond ((g j == 0) && (g (j + 2) == 0)) (g (j + 1)) 0) n
    (λ j l. ap₂ (λ t m. cond t m 0) (ap₂ (λ a b. (a == 0) && (b == 0)) (h j (omega (arith, l, all))) (h (j + 2) (omega (arith, l, all)))) (h (j + 1) (omega (arith, l, all))))

pub alone-same : (f g : ℕ → ℕ) → ((p : ℕ) → p < 700 → f p ≡ g p) → alone_among f ≡ alone_among g
unfolding alone_among
alone-same f g h = alone-same-to 698 f g refl h

pub all-take : {X : Type 0} (p : X → Bool) (k : ℕ) (xs : List X) → list_all p xs ≡ true → list_all p (take k xs) ≡ true
all-take p zero xs all = refl
all-take p (suc k) [] all = refl
all-take p (suc k) (x ∷ xs) all =
    let a = and_parts (p x) (list_all p xs) all in
    and_from (p x) (list_all p (take k xs)) a.0 (all-take p k xs a.1)

pub at-most-one : (b : Bool) (earlier n most : ℕ) → earlier ≡ cond b 0 n → n ≤ most → earlier ≤ most
at-most-one true earlier n most e l = omega arith
at-most-one false earlier n most e l = omega arith

-- ---- the score

pub score-is : (i : Instance) (lines : List Meeting) (m u o x a c d k s : ℕ) → m ≡ (score_of i lines).missing → u ≡ (score_of i lines).unroomed → o ≡ (score_of i lines).occupancy → x ≡ (score_of i lines).conflicts → a ≡ (score_of i lines).availability
    → c ≡ (score_of i lines).capacity → d ≡ (score_of i lines).days → k ≡ (score_of i lines).compactness → s ≡ (score_of i lines).stability
    → ◌≡◌ {A = ScoreCounts} (record { missing = m; unroomed = u; occupancy = o; conflicts = x; availability = a; capacity = c; days = d; compactness = k; stability = s }) (score_of i lines)
score-is i lines m u o x a c d k s em eu eo ex ea ec ed ek es = rw (em, eu, eo, ex, ea, ec, ed, ek, es) refl

-- a course more, which is in or isn't
pub members-more : (f : ℕ → Bool) (held : List Bool) (c p old new : ℕ) → old ≡ held_at f held c p → f c ≡ true → new ≡ old + cond (get_or held (c * 700 + p) false) 1 0 → new ≡ held_at f held (c + 1) p
members-more f held c p old new is here more =
    let added : ◌≡◌ {A = ℕ} (cond (get_or held (c * 700 + p) false) 1 0) (cond (f c && get_or held (c * 700 + p) false) 1 0) = sym (ap (λ t. cond (t && get_or held (c * 700 + p) false) 1 0) here) in
    more ∙ ap₂ (λ a b. a + b) is added ∙ sym (sum_below-more (λ k. cond (f k && get_or held (k * 700 + p) false) 1 0) c _ refl)

pub members-same : (f : ℕ → Bool) (held : List Bool) (c p old : ℕ) → old ≡ held_at f held c p → f c ≡ false → old ≡ held_at f held (c + 1) p
members-same f held c p old is there =
    let added : ◌≡◌ {A = ℕ} (cond (f c && get_or held (c * 700 + p) false) 1 0) 0 = ap (λ t. cond (t && get_or held (c * 700 + p) false) 1 0) there in
    omega (arith, is, added, sum_below-more (λ k. cond (f k && get_or held (k * 700 + p) false) 1 0) c _ refl)
