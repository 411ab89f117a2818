-- No meeting is at fault exactly where the problem exists.
use Rattle.std.proofs.Common.{ℕ, ◌≡◌, ◌<◌, ◌++◌, zero, suc, Bool, true, false, List, [], ◌∷◌, length, take, refl, sym, subst, arith, append_assoc, append-nil}
use Rattle.std.specs.Prelude.{◌==◌, ◌&&◌, None, slice_index_or}
use Rattle.std.specs.List.{list_any}
use Rattle.std.proofs.lemmas.Bool.{or_parts, or_from, eq-eqb, eqb-true, ltb-false, le-ltb}
use Rattle.std.proofs.lemmas.List.{get_or-take, length-take-le}
use Rattle.ctt_reader.specs.declared.instance.Instance.{Instance}
use Rattle.timed_solution.specs.declared.times.Times.{Times}
use Rattle.timed_solution.specs.declared.times.Meeting.{Meeting}
use Rattle.measure_file.specs.declared.measures.Measures.{Measures}
use Rattle.room_model.specs.ProblemOf.{event_part}
use Rattle.room_model.specs.Long.{overlaps, share_slot, fault_after, long_from, long_fault}
use Rattle.room_model.specs.Existence.{no_meeting, meeting_at, ProblemExists}
use Rattle.room_model.proofs.LongLemmas.{IsFree, none-first, free-where, none-placed}

-- ---- each meeting is free of faults after those before it

free_each : (i : Instance) (m : Measures) (before rest : List Meeting) → long_from i m before rest ≡ None → (e : ℕ) → e < length rest → IsFree i m (before ++ take e rest) (meeting_at rest e)
free_each i m before [] none e l = absurd (omega arith)
free_each i m before (x ∷ rest) none zero l =
    subst (λ b. IsFree i m b x) (sym (append-nil before)) (free-where i m before x (none-first (fault_after i m before x) (long_from i m (before ++ x ∷ []) rest) none).0)
free_each i m before (x ∷ rest) none (suc e) l =
    subst (λ b. IsFree i m b (meeting_at rest e)) (append_assoc before (x ∷ []) (take e rest))
    (free_each i m (before ++ x ∷ []) rest (none-first (fault_after i m before x) (long_from i m (before ++ x ∷ []) rest) none).1 e (omega arith))

faultless : (i : Instance) (m : Measures) (before : List Meeting) (x : Meeting) → IsFree i m before x → fault_after i m before x ≡ None
faultless i m before x free = rw (free.within, none-placed (λ y. overlaps (event_part i.periods m x) (event_part i.periods m y)) before free.apart) refl

none_each : (i : Instance) (m : Measures) (before rest : List Meeting) → ((e : ℕ) → e < length rest → IsFree i m (before ++ take e rest) (meeting_at rest e)) → long_from i m before rest ≡ None
none_each i m before [] free = refl
none_each i m before (x ∷ rest) free =
    let here : fault_after i m before x ≡ None = faultless i m before x (subst (λ b. IsFree i m b x) (append-nil before) (free 0 (omega arith))) in
    let later = none_each i m (before ++ x ∷ []) rest (λ e l. subst (λ b. IsFree i m b (meeting_at rest e)) (sym (append_assoc before (x ∷ []) (take e rest))) (free (suc e) (omega arith))) in
    rw here later

-- ---- the meetings before one, by number

any_none : {X : Type 0} (p : X → Bool) (xs : List X) (d : X) → ((k : ℕ) → k < length xs → p (slice_index_or xs k d) ≡ false) → list_any p xs ≡ false
any_none p [] d h = refl
any_none p (x ∷ xs) d h = or_from (p x) (list_any p xs) (h 0 (omega arith)) (any_none p xs d (λ k l. h (suc k) (omega arith)))

none_any : {X : Type 0} (p : X → Bool) (xs : List X) (d : X) → list_any p xs ≡ false → (k : ℕ) → k < length xs → p (slice_index_or xs k d) ≡ false
none_any p [] d h k l = absurd (omega arith)
none_any p (x ∷ xs) d h zero l = (or_parts (p x) (list_any p xs) h).0
none_any p (x ∷ xs) d h (suc k) l = none_any p xs d (or_parts (p x) (list_any p xs) h).1 k (omega arith)

apart_of : (i : Instance) (m : Measures) (x y : Meeting) → overlaps (event_part i.periods m x) (event_part i.periods m y) ≡ false → y.course ≡ x.course → share_slot (event_part i.periods m x) (event_part i.periods m y) ≡ false
apart_of i m x y h same = (let k : ((y.course == x.course) && share_slot (event_part i.periods m x) (event_part i.periods m y)) ≡ false = h in rw (eq-eqb y.course x.course same) at k)

overlap_of_none : (i : Instance) (m : Measures) (x y : Meeting) → (y.course ≡ x.course → share_slot (event_part i.periods m x) (event_part i.periods m y) ≡ false) → overlaps (event_part i.periods m x) (event_part i.periods m y) ≡ false
overlap_of_none i m x y h = by_case (y.course == x.course) refl
  where
    by_case : (t : Bool) → (y.course == x.course) ≡ t → overlaps (event_part i.periods m x) (event_part i.periods m y) ≡ false
    by_case false differ = rw differ refl
    by_case true same = rw (same, h (eqb-true y.course x.course same)) refl

pub exists_where : (i : Instance) (t : Times) (m : Measures) → long_fault i t m ≡ None → ProblemExists i t m
exists_where i t m none = record {
  within = λ e l. ltb-false i.periods _ (free_each i m [] t.meetings none e l).within;
  apart = λ e f before l same.
      let free = free_each i m [] t.meetings none f l in
      let p : Meeting → Bool = λ y. overlaps (event_part i.periods m (meeting_at t.meetings f)) (event_part i.periods m y) in
      let at : meeting_at (take f t.meetings) e ≡ meeting_at t.meetings e = get_or-take f t.meetings e no_meeting before in
      let fits : e < length (take f t.meetings) = omega (arith, length-take-le f t.meetings (omega (arith, l))) in
      apart_of i m (meeting_at t.meetings f) (meeting_at t.meetings e) (subst (λ y. p y ≡ false) at (none_any p (take f t.meetings) no_meeting free.apart e fits)) same;
}

pub none_where : (i : Instance) (t : Times) (m : Measures) → ProblemExists i t m → long_fault i t m ≡ None
none_where i t m exists = none_each i m [] t.meetings (λ f l. record {
  within = le-ltb i.periods _ (exists.within f l);
  apart =
      let x = meeting_at t.meetings f in
      let long : length (take f t.meetings) ≡ f = length-take-le f t.meetings (omega (arith, l)) in
      any_none (λ y. overlaps (event_part i.periods m x) (event_part i.periods m y)) (take f t.meetings) no_meeting (λ e le.
      let before : e < f = omega (arith, le, long) in
      let at : meeting_at (take f t.meetings) e ≡ meeting_at t.meetings e = get_or-take f t.meetings e no_meeting before in
      subst (λ y. overlaps (event_part i.periods m x) (event_part i.periods m y) ≡ false) (sym at)
      (overlap_of_none i m x (meeting_at t.meetings e) (exists.apart e f before l)));
})
