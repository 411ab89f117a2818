-- What the table of taken slots says, and how it grows.
use Rattle.std.proofs.Common.{ℕ, ◌≡◌, ◌+◌, ◌*◌, ◌<◌, ◌≤◌, ◌++◌, zero, suc, Bool, true, false, ◌&&◌, ◌||◌, refl, arith, ap, ap₂, sym, ◌∙◌, List, [], ◌∷◌, length, get_or, take, drop, subst}
use Rattle.std.specs.Prelude.{◌==◌, nat_le, nat_lt, Option, Some, None, position}
use Rattle.std.specs.List.{list_any, list_all}
use Rattle.std.proofs.lemmas.Bool.{and_parts, le-ltb}
use Rattle.std.proofs.lemmas.List.{drop_more, drop_all}
use Rattle.std.proofs.Math.Nat.{mul-le-mul_right}
use Rattle.std.proofs.Math.Seq.{take-suc}
use Rattle.problem_core.specs.Facts.{run_of}
use Rattle.problem_core.specs.SharedSlots.{any_any}
use Rattle.problem_core.specs.Tables.{IsGrid}
use Rattle.problem_core.specs.Grids.{IsGrid-same}
use Rattle.problem_core.specs.declared.parts.EventPart.{EventPart}
use Rattle.problem_core.proofs.RunLemmas.{run_of-has}
use Rattle.ctt_reader.specs.declared.instance.Instance.{Instance}
use Rattle.timed_solution.specs.declared.times.Meeting.{Meeting}
use Rattle.timed_solution.specs.Times.{is_meeting}
use Rattle.timed_solution.proofs.TimesLemmas.{any-more}
use Rattle.timed_solution.proofs.BackLemmas.{meeting_parts}
use Rattle.measure_file.specs.declared.measures.Measures.{Measures}
use Rattle.room_model.specs.ProblemOf.{length_of, event_part}
use Rattle.room_model.specs.Long.{takes_slot, overlaps, overlap_of, fault_after, unless_found, long_from}
use Rattle.room_model.specs.Taken.{has_slot, AreTaken}
use Rattle.room_model.specs.declared.long.LongFault.{LongFault}
use Rattle.room_model.proofs.LongLemmas.{none-placed}

any_same_on : (f g : ℕ → Bool) (m : ℕ) → ((t : ℕ) → t < m → f t ≡ g t) → (s n : ℕ) → s + n ≤ m → list_any f (run_of s n) ≡ list_any g (run_of s n)
any_same_on f g m h s zero l = refl
any_same_on f g m h s (suc n) l = ap₂ (λ x y. x || y) (h s (omega arith)) (any_same_on f g m h (s + 1) n (omega arith))

any_same : {X : Type 0} (f g : X → Bool) → ((x : X) → f x ≡ g x) → (xs : List X) → list_any f xs ≡ list_any g xs
any_same f g h [] = refl
any_same f g h (x ∷ xs) = ap₂ (λ a b. a || b) (h x) (any_same f g h xs)

any_none : {X : Type 0} (xs : List X) → list_any (λ (x : X). false) xs ≡ false
any_none [] = refl
any_none (x ∷ xs) = any_none xs

any_and : {X : Type 0} (b : Bool) (g : X → Bool) (xs : List X) → list_any (λ x. b && g x) xs ≡ (b && list_any g xs)
any_and true g xs = refl
any_and false g xs = any_none xs

-- the table tells whether an earlier meeting overlaps the event
pub taken_tells : (i : Instance) (m : Measures) (before : List Meeting) (taken : List Bool) (e : EventPart) (columns : ℕ) → AreTaken i m before taken → columns ≡ i.days * i.periods → e.course < length i.courses → e.slot + e.length ≤ i.days * i.periods
    → list_any (λ t. get_or taken (e.course * columns + t) false) (run_of e.slot e.length) ≡ list_any (λ y. overlaps e (event_part i.periods m y)) before
taken_tells i m before taken e columns are same known within =
    ap (λ n. list_any (λ t. get_or taken (e.course * n + t) false) (run_of e.slot e.length)) same
    ∙ any_same_on (λ t. get_or taken (e.course * (i.days * i.periods) + t) false) (λ t. list_any (has_slot i m e.course t) before) (i.days * i.periods) (λ t l. are.cell e.course t false known l) e.slot e.length within
    ∙ any_any (λ t y. has_slot i m e.course t y) (run_of e.slot e.length) before
    ∙ any_same (λ y. list_any (λ t. has_slot i m e.course t y) (run_of e.slot e.length)) (λ y. overlaps e (event_part i.periods m y)) (λ y. any_and (y.course == e.course) (takes_slot (event_part i.periods m y)) (run_of e.slot e.length)) before

slot_below : (d p n e periods : ℕ) → d < e → p + n ≤ periods → d * periods + p + n ≤ e * periods
slot_below d p n e periods l k =
    let more : (d + 1) * periods ≤ e * periods = mul-le-mul_right periods (omega arith) in
    omega (arith, more, k)

-- the slots of a meeting that does not pass its day are there
pub slots_within : (i : Instance) (m : Measures) (x : Meeting) → is_meeting i x ≡ true → x.period + length_of m x.course ≤ i.periods → (event_part i.periods m x).slot + (event_part i.periods m x).length ≤ i.days * i.periods
slots_within i m x h l = slot_below x.day x.period (length_of m x.course) i.days i.periods (meeting_parts i x h).day l

swap_or : (a b : Bool) → (a || b) ≡ (b || a)
swap_or true true = refl
swap_or true false = refl
swap_or false true = refl
swap_or false false = refl

-- the table with one more meeting
pub taken_more : (i : Instance) (m : Measures) (before : List Meeting) (x : Meeting) (e : EventPart) (new : List Bool) (columns : ℕ) → e ≡ event_part i.periods m x → columns ≡ i.days * i.periods
    → IsGrid new (length i.courses) columns (λ r t. ((e.course == r) && (nat_le e.slot t && nat_lt t (e.slot + e.length))) || list_any (has_slot i m r t) before)
    → AreTaken i m (before ++ x ∷ []) new
taken_more i m before x e new columns is same grid =
    let there = subst (λ n. IsGrid new (length i.courses) n (λ r t. ((e.course == r) && (nat_le e.slot t && nat_lt t (e.slot + e.length))) || list_any (has_slot i m r t) before)) same grid in
    IsGrid-same new (length i.courses) (i.days * i.periods) (λ r t. ((e.course == r) && (nat_le e.slot t && nat_lt t (e.slot + e.length))) || list_any (has_slot i m r t) before) (λ r t. list_any (has_slot i m r t) (before ++ x ∷ [])) there
    (λ r t _ _. ap (λ b. ((e.course == r) && b) || list_any (has_slot i m r t) before) (sym (run_of-has e.slot e.length t))
    ∙ ap (λ (f : EventPart). ((f.course == r) && takes_slot f t) || list_any (has_slot i m r t) before) is
    ∙ swap_or (has_slot i m r t x) (list_any (has_slot i m r t) before) ∙ sym (any-more (has_slot i m r t) before x))

-- ---- one meeting after the other

pub taken_one : (meetings : List Meeting) (k : ℕ) (d : Meeting) → k < length meetings → take (k + 1) meetings ≡ take k meetings ++ get_or meetings k d ∷ []
taken_one meetings k d l = (let e : k + 1 ≡ suc k = omega arith in ap (λ n. take n meetings) e) ∙ take-suc meetings k d l

pub all_taken : {A : Type 0} (test : A → Bool) (xs : List A) (k : ℕ) → list_all test xs ≡ true → list_all test (take k xs) ≡ true
all_taken test xs zero h = refl
all_taken test [] (suc k) h = refl
all_taken test (x ∷ xs) (suc k) h =
    let p = and_parts (test x) (list_all test xs) h in
    rw (p.0, all_taken test xs k p.1) refl

pub long-step : (i : Instance) (m : Measures) (meetings : List Meeting) (k : ℕ) (d : Meeting) → k < length meetings
    → long_from i m (take k meetings) (drop k meetings) ≡ unless_found (fault_after i m (take k meetings) (get_or meetings k d)) (long_from i m (take (k + 1) meetings) (drop (k + 1) meetings))
long-step i m meetings k d l =
    ap (long_from i m (take k meetings)) (drop_more meetings k d l)
    ∙ ap (λ before. unless_found (fault_after i m (take k meetings) (get_or meetings k d)) (long_from i m before (drop (k + 1) meetings))) (sym (taken_one meetings k d l))

pub long-end : (i : Instance) (m : Measures) (meetings : List Meeting) (k : ℕ) → length meetings ≤ k → long_from i m (take k meetings) (drop k meetings) ≡ None
long-end i m meetings k l = ap (long_from i m (take k meetings)) (drop_all k meetings l)

-- what is wrong with a meeting, by what the table says
pub fault_past : (i : Instance) (m : Measures) (before : List Meeting) (x : Meeting) → nat_lt i.periods (x.period + length_of m x.course) ≡ true → fault_after i m before x ≡ Some (LongFault.PastDay (length before))
fault_past i m before x h = rw h refl

pub fault_found : (i : Instance) (m : Measures) (before : List Meeting) (x : Meeting) → x.period + length_of m x.course ≤ i.periods
    → fault_after i m before x ≡ overlap_of (position (λ y. overlaps (event_part i.periods m x) (event_part i.periods m y)) before) (length before)
fault_found i m before x l = rw (le-ltb i.periods (x.period + length_of m x.course) l) refl

pub fault_none : (i : Instance) (m : Measures) (before : List Meeting) (x : Meeting) → x.period + length_of m x.course ≤ i.periods → list_any (λ y. overlaps (event_part i.periods m x) (event_part i.periods m y)) before ≡ false
    → fault_after i m before x ≡ None
fault_none i m before x l h = fault_found i m before x l ∙ ap (λ p. overlap_of p (length before)) (none-placed (λ y. overlaps (event_part i.periods m x) (event_part i.periods m y)) before h)

-- ---- the table is large enough

pub row_within : (i : Instance) (before : List Meeting) (m : Measures) (taken : List Bool) (row columns : ℕ) → AreTaken i m before taken → columns ≡ i.days * i.periods → row < length i.courses → row * columns + columns ≤ length taken
row_within i before m taken row columns are same known =
    let more : (row + 1) * columns ≤ length i.courses * columns = mul-le-mul_right columns (omega arith) in
    let whole : length taken ≡ length i.courses * columns = are.whole ∙ ap (λ n. length i.courses * n) (sym same) in
    omega (arith, more, whole)

pub ends_within : (i : Instance) (m : Measures) (x : Meeting) (e : EventPart) (periods columns : ℕ) → is_meeting i x ≡ true → e ≡ event_part i.periods m x → periods ≡ i.periods → columns ≡ i.days * i.periods → x.period + e.length ≤ periods
    → e.slot + e.length ≤ columns
ends_within i m x e periods columns h is same columns_are l =
    let ends : x.period + length_of m x.course ≤ i.periods = subst (λ (y : EventPart). x.period + y.length ≤ i.periods) is (omega (arith, l, same)) in
    rw (is, columns_are) (slots_within i m x h ends)

-- ---- what a step answers

ends_as : (i : Instance) (m : Measures) (x : Meeting) (e : EventPart) (periods : ℕ) → e ≡ event_part i.periods m x → periods ≡ i.periods → x.period + e.length ≤ periods → x.period + length_of m x.course ≤ i.periods
ends_as i m x e periods is same l = subst (λ (y : EventPart). x.period + y.length ≤ i.periods) is (omega (arith, l, same))

pub found_is : (i : Instance) (m : Measures) (before : List Meeting) (x : Meeting) (e : EventPart) (periods : ℕ) (found : Option ℕ) (result : Option LongFault) → e ≡ event_part i.periods m x → periods ≡ i.periods → x.period + e.length ≤ periods
    → found ≡ position (λ y. overlaps e (event_part i.periods m y)) before → result ≡ overlap_of found (length before) → result ≡ fault_after i m before x
found_is i m before x e periods found result is same l placed r =
    r ∙ ap (λ p. overlap_of p (length before)) (placed ∙ ap (λ (f : EventPart). position (λ y. overlaps f (event_part i.periods m y)) before) is) ∙ sym (fault_found i m before x (ends_as i m x e periods is same l))

pub none_is : (i : Instance) (m : Measures) (before : List Meeting) (x : Meeting) (taken : List Bool) (e : EventPart) (periods columns : ℕ) (told : Bool) → is_meeting i x ≡ true → e ≡ event_part i.periods m x → periods ≡ i.periods → columns ≡ i.days * i.periods
    → x.period + e.length ≤ periods → AreTaken i m before taken → told ≡ list_any (λ t. get_or taken (e.course * columns + t) false) (run_of e.slot e.length) → told ≡ false → None ≡ fault_after i m before x
none_is i m before x taken e periods columns told h is same whole l are tells no_mark =
    let ends = ends_as i m x e periods is same l in
    let within : e.slot + e.length ≤ i.days * i.periods = rw is (slots_within i m x h ends) in
    let known : e.course < length i.courses = rw is (meeting_parts i x h).course in
    let none : list_any (λ y. overlaps e (event_part i.periods m y)) before ≡ false = sym (taken_tells i m before taken e columns are whole known within) ∙ sym tells ∙ no_mark in
    sym (fault_none i m before x ends (ap (λ (f : EventPart). list_any (λ y. overlaps f (event_part i.periods m y)) before) (sym is) ∙ none))

pub row_there : (taken : List Bool) (rows row columns slots : ℕ) → length taken ≡ rows * slots → columns ≡ slots → row < rows → row * columns + columns ≤ length taken
row_there taken rows row columns slots whole same known =
    let more : (row + 1) * columns ≤ rows * columns = mul-le-mul_right columns (omega arith) in
    let all : length taken ≡ rows * columns = whole ∙ ap (λ n. rows * n) (sym same) in
    omega (arith, more, all)

pub meetings_step : (i : Instance) (m : Measures) (meetings : List Meeting) (k : ℕ) (d : Meeting) (result : Option LongFault) → k < length meetings → result ≡ fault_after i m (take k meetings) (get_or meetings k d) → result ≡ None
    → long_from i m (take (k + 1) meetings) (drop (k + 1) meetings) ≡ long_from i m (take k meetings) (drop k meetings)
meetings_step i m meetings k d result l is none = sym (long-step i m meetings k d l ∙ ap (λ f. unless_found f (long_from i m (take (k + 1) meetings) (drop (k + 1) meetings))) (sym is ∙ none))
