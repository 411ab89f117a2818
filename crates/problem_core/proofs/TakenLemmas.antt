-- What the table of taken rooms says, and how it grows.
use Rattle.std.proofs.Common.{ℕ, ◌≡◌, ◌+◌, ◌-◌, ◌*◌, ◌<◌, ◌≤◌, inl, inr, zero, suc, Bool, true, false, not, ◌&&◌, ◌||◌, refl, arith, ap, ap₂, sym, ◌∙◌, cond, add-one, List, [], ◌∷◌, ◌++◌, length, get_or, set, take, subst}
use Rattle.std.specs.Prelude.{◌==◌, nat_le, nat_lt}
use Rattle.std.specs.List.{list_any}
use Rattle.std.proofs.lemmas.Bool.{cases_eq, ne_eqb}
use Rattle.std.proofs.lemmas.Bool.Decides.{nat_tests}
use Rattle.std.proofs.lemmas.List.{take_all, take-append-le, get_or_append_left, get_or_push, get_or-take, length-take-le}
use Rattle.std.proofs.lemmas.Nat.{mul-add-lt}
use Rattle.std.proofs.Math.Nat.{mul_comm}
use Rattle.std.proofs.Math.Seq.{take-suc}
use Rattle.numbers.specs.Below.{any_below, first_from}
use Rattle.problem_core.specs.Facts.{Facts, takes_slot, event_at, run_of, suits}
use Rattle.problem_core.specs.Choice.{entry, holds}
use Rattle.problem_core.specs.FirstChoice.{can_take}
use Rattle.problem_core.specs.Tables.{IsGrid}
use Rattle.problem_core.specs.Grids.{IsGrid-same, IsGrid-put}
use Rattle.problem_core.specs.Taken.{has_at, IsTaken}
use Rattle.problem_core.specs.SharedSlots.{share_slot-sym}
use Rattle.problem_core.proofs.RunLemmas.{run_of-has}

pub any_below-same : (f g : ℕ → Bool) (n : ℕ) → ((k : ℕ) → k < n → f k ≡ g k) → any_below f n ≡ any_below g n
any_below-same f g zero h = refl
any_below-same f g (suc n) h = ap₂ (λ x y. x || y) (h n (omega arith)) (any_below-same f g n (λ k l. h k (omega arith)))

any_same_on : (f g : ℕ → Bool) (m : ℕ) → ((t : ℕ) → t < m → f t ≡ g t) → (s n : ℕ) → s + n ≤ m → list_any f (run_of s n) ≡ list_any g (run_of s n)
any_same_on f g m h s zero l = refl
any_same_on f g m h s (suc n) l = ap₂ (λ x y. x || y) (h s (omega arith)) (any_same_on f g m h (s + 1) n (omega arith))

or_parts_swap : (a b c d : Bool) → ((a || b) || (c || d)) ≡ ((a || c) || (b || d))
or_parts_swap true b c d = refl
or_parts_swap false true true d = refl
or_parts_swap false true false d = refl
or_parts_swap false false true d = refl
or_parts_swap false false false d = refl

any_below-|| : (f g : ℕ → Bool) (n : ℕ) → any_below (λ k. f k || g k) n ≡ (any_below f n || any_below g n)
any_below-|| f g zero = refl
any_below-|| f g (suc n) = ap (λ x. (f n || g n) || x) (any_below-|| f g n) ∙ or_parts_swap (f n) (g n) (any_below f n) (any_below g n)

and_or : (a b c : Bool) → ((a && b) || (a && c)) ≡ (a && (b || c))
and_or true b c = refl
and_or false b c = refl

no_hits : (f : ℕ → Bool) (n : ℕ) → false ≡ any_below (λ k. f k && false) n
no_hits f zero = refl
no_hits f (suc n) = no_hits f n ∙ sym (ap (λ x. x || any_below (λ k. f k && false) n) (and_false (f n)))
  where
    and_false : (b : Bool) → (b && false) ≡ false
    and_false true = refl
    and_false false = refl

-- one of the slots is taken by one of the numbers, or one of the numbers takes one of the slots
any_exchanged : (f : ℕ → Bool) (g : ℕ → ℕ → Bool) (ts : List ℕ) (n : ℕ) → list_any (λ t. any_below (λ k. f k && g k t) n) ts ≡ any_below (λ k. f k && list_any (g k) ts) n
any_exchanged f g [] n = no_hits f n
any_exchanged f g (t ∷ ts) n =
    ap (λ x. any_below (λ k. f k && g k t) n || x) (any_exchanged f g ts n)
    ∙ sym (any_below-|| (λ k. f k && g k t) (λ k. f k && list_any (g k) ts) n)
    ∙ any_below-same (λ k. (f k && g k t) || (f k && list_any (g k) ts)) (λ k. f k && (g k t || list_any (g k) ts)) n (λ k l. and_or (f k) (g k t) (list_any (g k) ts))

-- the table tells whether the room can be taken
pub taken_tells : (p : Facts) (a : List ℕ) (e room slot count : ℕ) (taken : List Bool) → IsTaken p a e taken → room < length p.capacity → (event_at p e).takes ≡ run_of slot count → slot + count ≤ p.slots
    → (suits p e room && not (list_any (λ t. get_or taken (room * p.slots + t) false) (run_of slot count))) ≡ can_take p a e room
taken_tells p a e room slot count taken is l takes within =
    ap (λ x. suits p e room && not x)
    (any_same_on (λ t. get_or taken (room * p.slots + t) false) (λ t. any_below (has_at p a (room + 1) t) e) p.slots (λ t m. is.cell room t false l m) slot count within
    ∙ ap (list_any (λ t. any_below (has_at p a (room + 1) t) e)) (sym takes)
    ∙ any_exchanged (λ f. entry a f == room + 1) (takes_slot p) (event_at p e).takes e
    ∙ any_below-same (λ f. (entry a f == room + 1) && list_any (takes_slot p f) (event_at p e).takes) (holds p a e (room + 1)) e (λ f _. ap (λ x. (entry a f == room + 1) && x) (share_slot-sym p e f)))

any_below_last : (test : ℕ → Bool) (n : ℕ) → any_below test (n + 1) ≡ (test n || any_below test n)
any_below_last test n = rw add-one refl

more_taken : (p : Facts) (a : List ℕ) (e x r t : ℕ) → length a ≡ e → any_below (has_at p (a ++ x ∷ []) (r + 1) t) (e + 1) ≡ (((x == r + 1) && takes_slot p e t) || any_below (has_at p a (r + 1) t) e)
more_taken p a e x r t whole =
    any_below_last (has_at p (a ++ x ∷ []) (r + 1) t) e
    ∙ (ap₂ (λ y z. y || z) (ap (λ y. (y == r + 1) && takes_slot p e t) (get_or_push a x 0 e whole))
    (any_below-same (has_at p (a ++ x ∷ []) (r + 1) t) (has_at p a (r + 1) t) e (λ f l. ap (λ y. (y == r + 1) && takes_slot p f t) (get_or_append_left a (x ∷ []) 0 f (omega arith)))))

-- an event without a room takes nothing
pub none_taken : (p : Facts) (a : List ℕ) (e : ℕ) (taken : List Bool) → length a ≡ e → IsTaken p a e taken → IsTaken p (a ++ 0 ∷ []) (e + 1) taken
none_taken p a e taken whole is =
    IsGrid-same taken (length p.capacity) p.slots (λ r t. any_below (has_at p a (r + 1) t) e) (λ r t. any_below (has_at p (a ++ 0 ∷ []) (r + 1) t) (e + 1)) is
    (λ r t _ _. sym (more_taken p a e 0 r t whole ∙ ap (λ y. (y && takes_slot p e t) || any_below (has_at p a (r + 1) t) e) (ne_eqb 0 (r + 1) (λ z. absurd (omega arith)))))

same_test : (x r : ℕ) → 0 < x → (x - 1 == r) ≡ (x == r + 1)
same_test x r l = grind (arith, nat_tests)

-- an event with a room takes it in each of its slots
pub room_taken : (p : Facts) (a : List ℕ) (e x slot count : ℕ) (taken : List Bool) → length a ≡ e → 0 < x → (event_at p e).takes ≡ run_of slot count
    → IsGrid taken (length p.capacity) p.slots (λ r t. ((x - 1 == r) && (nat_le slot t && nat_lt t (slot + count))) || any_below (has_at p a (r + 1) t) e)
    → IsTaken p (a ++ x ∷ []) (e + 1) taken
room_taken p a e x slot count taken whole some takes is =
    IsGrid-same taken (length p.capacity) p.slots (λ r t. ((x - 1 == r) && (nat_le slot t && nat_lt t (slot + count))) || any_below (has_at p a (r + 1) t) e)
    (λ r t. any_below (has_at p (a ++ x ∷ []) (r + 1) t) (e + 1)) is
    (λ r t _ _. ap₂ (λ y z. (y && z) || any_below (has_at p a (r + 1) t) e) (same_test x r some) (sym (ap (list_any (λ s. s == t)) takes ∙ run_of-has slot count t))
    ∙ sym (more_taken p a e x r t whole))

grown : (b f : Bool) (from t i : ℕ) → from ≤ i → ((b && (nat_le from t && nat_lt t (i + 1))) || f) ≡ cond (b && (i == t)) true ((b && (nat_le from t && nat_lt t i)) || f)
grown false f from t i l = refl
grown true f from t i l = grind (arith, nat_tests)

pub mark_step : (cells cells' : List Bool) (rows columns row from i : ℕ) (f : ℕ → ℕ → Bool) → row < rows → i < columns → from ≤ i → cells' ≡ set cells (row * columns + i) true
    → IsGrid cells rows columns (λ r t. ((row == r) && (nat_le from t && nat_lt t i)) || f r t)
    → IsGrid cells' rows columns (λ r t. ((row == r) && (nat_le from t && nat_lt t (i + 1))) || f r t)
mark_step cells cells' rows columns row from i f l m k e grid = rw e (
    IsGrid-put cells rows columns (λ r t. ((row == r) && (nat_le from t && nat_lt t i)) || f r t) (λ r t. ((row == r) && (nat_le from t && nat_lt t (i + 1))) || f r t) row i true grid l m
    (λ r t _ _. grown (row == r) (f r t) from t i k))

pub mark_none : (cells : List Bool) (rows columns row from : ℕ) (f : ℕ → ℕ → Bool) → IsGrid cells rows columns f → IsGrid cells rows columns (λ r t. ((row == r) && (nat_le from t && nat_lt t from)) || f r t)
mark_none cells rows columns row from f grid = IsGrid-same cells rows columns f (λ r t. ((row == r) && (nat_le from t && nat_lt t from)) || f r t) grid (λ r t _ _. nothing (row == r) (f r t) t)
  where
    nothing : (b g : Bool) (t : ℕ) → g ≡ ((b && (nat_le from t && nat_lt t from)) || g)
    nothing false g t = refl
    nothing true g t = grind (arith, nat_tests)

pub where_suits : (result suits free can x : Bool) → result ≡ suits → result ≡ true → x ≡ free → (suits && free) ≡ can → x ≡ can
where_suits result suits free can x e h same tells = same ∙ sym (ap (λ b. b && free) (sym e ∙ h)) ∙ tells

-- the table after a room is marked, whatever the number of columns is called
pub marked : (p : Facts) (a b : List ℕ) (e x slot count w : ℕ) (old new : List Bool) → length a ≡ e → b ≡ a ++ x ∷ [] → 0 < x → x ≤ length p.capacity → (event_at p e).takes ≡ run_of slot count → w ≡ p.slots
    → ((rows : ℕ) (f : ℕ → ℕ → Bool) → x - 1 < rows → IsGrid old rows w f → IsGrid new rows w (λ r t. ((x - 1 == r) && (nat_le slot t && nat_lt t (slot + count))) || f r t))
    → IsTaken p a e old → IsTaken p b (e + 1) new
marked p a b e x slot count w old new whole is some few takes same marks taken =
    subst (λ ys. IsTaken p ys (e + 1) new) (sym is)
    (room_taken p a e x slot count new whole some takes
    (subst (λ n. IsGrid new (length p.capacity) n (λ r t. ((x - 1 == r) && (nat_le slot t && nat_lt t (slot + count))) || any_below (has_at p a (r + 1) t) e)) same
    (marks (length p.capacity) (λ r t. any_below (has_at p a (r + 1) t) e) (omega arith) (subst (λ n. IsGrid old (length p.capacity) n (λ r t. any_below (has_at p a (r + 1) t) e)) (sym same) taken))))

pub unmarked : (p : Facts) (a b : List ℕ) (e x : ℕ) (taken : List Bool) → length a ≡ e → b ≡ a ++ x ∷ [] → x ≡ 0 → IsTaken p a e taken → IsTaken p b (e + 1) taken
unmarked p a b e x taken whole is zero_x h = subst (λ ys. IsTaken p ys (e + 1) taken) (sym (is ∙ ap (λ y. a ++ y ∷ []) zero_x)) (none_taken p a e taken whole h)

-- the entries so far are by the rule, and so are they with one more
pub more_lowest : (p : Facts) (a b : List ℕ) (n x : ℕ) → length a ≡ n → b ≡ a ++ x ∷ [] → x ≡ first_from (can_take p a n) 0 (length p.capacity)
    → ((e : ℕ) → e < n → entry a e ≡ first_from (can_take p (take e a) e) 0 (length p.capacity))
    → (e : ℕ) → e < n + 1 → entry b e ≡ first_from (can_take p (take e b) e) 0 (length p.capacity)
more_lowest p a b n x whole is here h e l = rw is (elim (cases_eq e n) [
  | inl same ↦
      get_or_push a x 0 e (whole ∙ sym same)
      ∙ here
      ∙ ap₂ (λ (xs : List ℕ) m. first_from (can_take p xs m) 0 (length p.capacity)) (sym (take-append-le e a (x ∷ []) (omega arith) ∙ take_all e a (omega arith))) (sym same)
  | inr less ↦
      get_or_append_left a (x ∷ []) 0 e (omega arith)
      ∙ h e (omega arith)
      ∙ ap (λ (xs : List ℕ). first_from (can_take p xs e) 0 (length p.capacity)) (sym (take-append-le e a (x ∷ []) (omega arith)))
])

-- before the first event no room is taken
pub none_yet : (p : Facts) (a : List ℕ) (taken : List Bool) → length taken ≡ length p.capacity * p.slots → ((k : ℕ) (d : Bool) → k < length taken → get_or taken k d ≡ false) → IsTaken p a 0 taken
none_yet p a taken whole unmarked = record {
  whole = whole;
  cell = λ r t d l m. unmarked (r * p.slots + t) d (omega (arith, whole, mul-add-lt r p.slots t (length p.capacity) l m, mul_comm (length p.capacity) p.slots));
}

-- the entries of the events so far alone decide what is taken
taken_by_front : (p : Facts) (a b : List ℕ) (n : ℕ) (taken : List Bool) → ((f : ℕ) → f < n → entry a f ≡ entry b f) → IsTaken p a n taken → IsTaken p b n taken
taken_by_front p a b n taken same is =
    IsGrid-same taken (length p.capacity) p.slots (λ r t. any_below (has_at p a (r + 1) t) n) (λ r t. any_below (has_at p b (r + 1) t) n) is
    (λ r t _ _. any_below-same (has_at p a (r + 1) t) (has_at p b (r + 1) t) n (λ f l. ap (λ x. (x == r + 1) && takes_slot p f t) (same f l)))

-- an event more, of a list that has the entries of all events
pub taken_next : (p : Facts) (a : List ℕ) (n : ℕ) (old new : List Bool) → n < length a
    → ((b c : List ℕ) → IsTaken p b n old → c ≡ b ++ entry a n ∷ [] → length b ≡ n → IsTaken p c (n + 1) new)
    → IsTaken p a n old → IsTaken p a (n + 1) new
taken_next p a n old new l grows is =
    taken_by_front p (take (n + 1) a) a (n + 1) new (λ f m. get_or-take (n + 1) a f 0 m)
    (grows (take n a) (take (n + 1) a) (taken_by_front p a (take n a) n old (λ f m. sym (get_or-take n a f 0 m)) is) (ap (λ m. take m a) (add-one n) ∙ take-suc a n 0 l) (length-take-le n a (omega arith)))
