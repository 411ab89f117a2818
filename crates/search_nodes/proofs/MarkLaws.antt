-- Marks follow the fixing, and freedom is a look-up by them.
use Rattle.std.proofs.Common.{ℕ, ◌≡◌, ◌≢◌, ◌+◌, ◌-◌, ◌<◌, ◌≤◌, inl, inr, zero, suc, Bool, true, false, not, ◌&&◌, ◌||◌, refl, arith, ap, sym, ◌∙◌, List, [], ◌∷◌, ◌++◌, length, get_or, take}
use Rattle.std.specs.Prelude.{◌==◌, min, nat_le, nat_lt, slice_index_or, slice_set}
use Rattle.std.specs.List.{list_all, list_any}
use Rattle.std.proofs.lemmas.Bool.{cases_eq, cases_lt, cases_Bool, and_parts, and_from, or_left, or_right, or_cases, or_parts, eq-eqb, eqb-true, ne_eqb, ltb-true, lt-ltb, leb-true, le-leb, lt-leb, true≢false}
use Rattle.std.proofs.lemmas.List.{length_push, get_or-set_same, get_or-set_other, get_or_push, get_or_append_left, get_or_past, take_more}
use Rattle.numbers.specs.Below.{any_below_at}
use Rattle.numbers.specs.Sums.{member}
use Rattle.problem_core.specs.Facts.{Facts}
use Rattle.problem_core.specs.Valid.{IsProblem}
use Rattle.duality.specs.declared.row.Run.{Run}
use Rattle.duality.specs.declared.row.RowName.TheVariants.{Base}
use Rattle.duality.specs.Packing.{Packing, is_free}
use Rattle.duality.specs.Runs.{rows_from, rows_in, AreBelow}
use Rattle.duality.specs.Sums.{member_row}
use Rattle.packing_model.specs.declared.fixing.Fixing.{Fixing}
use Rattle.packing_model.specs.Built.{packing, AreBaseRunsOf}
use Rattle.packing_model.specs.Nodes.{IsValidFixing, fixed_of}
use Rattle.packing_model.proofs.CutLemmas.{member_row-append}
use Rattle.packing_model.proofs.DistinctLemmas.{member-append}
use Rattle.packing_model.proofs.NodeLemmas.{known_at}
use Rattle.packing_model.proofs.RowLemmas.{first_event}
use Rattle.packing_model.proofs.RunLemmas.{member_from}
use Rattle.search_nodes.specs.declared.marks.Marks.{Marks}
use Rattle.search_nodes.specs.Marks.{mark_at, filler_at, SetsAt, in_runs, Fills, is_taken, is_filled, AreMarks, MeetsRow}
use Rattle.search_nodes.proofs.RowLaws.{clash_shares, shares_clash}

-- ---- lists that read a filler past their end

pub filler_pushed : {A : Type 0} (list : List A) (filler : A) (i : ℕ) → slice_index_or (list ++ filler ∷ []) i filler ≡ slice_index_or list i filler
filler_pushed list filler i = elim (cases_lt i (length list)) [
  | inl less ↦ get_or_append_left list (filler ∷ []) filler i less
  | inr more ↦ elim (cases_eq (length list) i) [
    | inl last ↦ get_or_push list filler filler i last ∙ sym (get_or_past list i filler more)
    | inr past ↦ get_or_past (list ++ filler ∷ []) i filler (omega (arith, length_push list filler, more, past)) ∙ sym (get_or_past list i filler more)
  ]
]

pub sets_at : {A : Type 0} (filler : A) (at : ℕ) (value : A) (old longer : List A) → at < length longer → ((i : ℕ) → slice_index_or longer i filler ≡ slice_index_or old i filler) → SetsAt filler at value old (slice_set longer at value)
sets_at filler at value old longer l same = record {
  here = get_or-set_same longer at value filler l;
  others = λ i other. get_or-set_other longer at i value filler other ∙ same i;
}

pub cleared : (at : ℕ) (marks : List Bool) → length marks ≤ at → SetsAt false at false marks marks
cleared at marks more = record { here = get_or_past marks at false more; others = λ i other. refl }

-- ---- rows that a pattern fills

pub run_begun : (p first : ℕ) (old : List ℕ) → Fills p (λ r. nat_le first r && nat_lt r first) old old
run_begun p first old = record {
  filled = λ r h. let parts = and_parts (nat_le first r) (nat_lt r first) h in let low = leb-true first r parts.0 in let high = ltb-true r first parts.1 in absurd (omega (arith, low, high));
  others = λ r h. refl;
}

pub run_more : (p first row : ℕ) (old mid new : List ℕ) → first ≤ row → Fills p (λ r. nat_le first r && nat_lt r row) old mid → SetsAt 0 row (p + 1) mid new → Fills p (λ r. nat_le first r && nat_lt r (row + 1)) old new
run_more p first row old mid new l fills sets = record {
  filled = λ r h.
      let parts = and_parts (nat_le first r) (nat_lt r (row + 1)) h in
      let high = ltb-true r (row + 1) parts.1 in
      elim (cases_eq r row) [
        | inl here ↦ ap (filler_at new) here ∙ sets.here
        | inr other ↦ sets.others r other ∙ fills.filled r (and_from (nat_le first r) (nat_lt r row) parts.0 (lt-ltb r row (omega (arith, high, other))))
      ];
  others = λ r h. elim (cases_eq r row) [
    | inl here ↦
        let inside : (nat_le first r && nat_lt r (row + 1)) ≡ true = and_from (nat_le first r) (nat_lt r (row + 1)) (le-leb first r (omega (arith, here, l))) (lt-ltb r (row + 1) (omega (arith, here))) in
        absurd (true≢false (sym inside ∙ h))
    | inr other ↦ sets.others r other ∙ fills.others r (before r h)
  ];
}
  where
    before : (r : ℕ) → (nat_le first r && nat_lt r (row + 1)) ≡ false → (nat_le first r && nat_lt r row) ≡ false
    before r h = elim (cases_Bool (nat_le first r && nat_lt r row)) [
      | inl inside ↦
          let parts = and_parts (nat_le first r) (nat_lt r row) inside in
          let high = ltb-true r row parts.1 in
          let more : (nat_le first r && nat_lt r (row + 1)) ≡ true = and_from (nat_le first r) (nat_lt r (row + 1)) parts.0 (lt-ltb r (row + 1) (omega (arith, high))) in
          absurd (true≢false (sym more ∙ h))
      | inr outside ↦ outside
    ]

fills_both : (p : ℕ) (a b both : ℕ → Bool) (old mid new : List ℕ) → ((r : ℕ) → both r ≡ (a r || b r)) → Fills p a old mid → Fills p b mid new → Fills p both old new
fills_both p a b both old mid new is first second = record {
  filled = λ r h. elim (cases_Bool (b r)) [
    | inl hit ↦ second.filled r hit
    | inr miss ↦ second.others r miss ∙ first.filled r (left (a r) (b r) (sym (is r) ∙ h) miss)
  ];
  others = λ r h. let parts = or_parts (a r) (b r) (sym (is r) ∙ h) in second.others r parts.1 ∙ first.others r parts.0;
}
  where
    left : (x y : Bool) → (x || y) ≡ true → y ≡ false → x ≡ true
    left true y h e = refl
    left false y h e = absurd (true≢false (sym h ∙ e))

-- ---- the rows of runs

in_one : (run : Run) (r : ℕ) → member_row (Base r) (rows_from run.first run.count) ≡ (nat_le run.first r && nat_lt r (run.first + run.count))
in_one run r = member_from r run.first run.count ∙ elim (cases_lt r run.first) [
  | inl before ↦ ap (λ b. b && nat_lt (r - run.first) run.count) (lt-leb run.first r before) ∙ sym (ap (λ b. b && nat_lt r (run.first + run.count)) (lt-leb run.first r before))
  | inr after ↦ ap (λ b. nat_le run.first r && b) (elim (cases_lt r (run.first + run.count)) [
    | inl less ↦ lt-ltb (r - run.first) run.count (omega (arith, after, less)) ∙ sym (lt-ltb r (run.first + run.count) less)
    | inr more ↦ none (r - run.first) run.count (omega (arith, after, more)) ∙ sym (none r (run.first + run.count) more)
  ])
]
  where
    none : (m n : ℕ) → n ≤ m → nat_lt m n ≡ false
    none m n l = elim (cases_Bool (nat_lt m n)) [ inl less ↦ let h = ltb-true m n less in absurd (omega (arith, h, l)) | inr more ↦ more ]

or_group : (a b c : Bool) → (a || (b || c)) ≡ ((a || b) || c)
or_group true b c = refl
or_group false b c = refl

or_none : (a : Bool) → (a || false) ≡ a
or_none true = refl
or_none false = refl

in_runs_push : (runs : List Run) (run : Run) (r : ℕ) → in_runs (runs ++ run ∷ []) r ≡ (in_runs runs r || (nat_le run.first r && nat_lt r (run.first + run.count)))
in_runs_push [] run r = member_row-append (Base r) (rows_from run.first run.count) [] ∙ or_none (member_row (Base r) (rows_from run.first run.count)) ∙ in_one run r
in_runs_push (x ∷ xs) run r =
    member_row-append (Base r) (rows_from x.first x.count) (rows_in (xs ++ run ∷ []))
    ∙ ap (λ b. member_row (Base r) (rows_from x.first x.count) || b) (in_runs_push xs run r)
    ∙ or_group (member_row (Base r) (rows_from x.first x.count)) (in_runs xs r) (nat_le run.first r && nat_lt r (run.first + run.count))
    ∙ ap (λ b. b || (nat_le run.first r && nat_lt r (run.first + run.count))) (sym (member_row-append (Base r) (rows_from x.first x.count) (rows_in xs)))

pub in_runs_more : (runs : List Run) (i : ℕ) (d : Run) (r : ℕ) → i < length runs
    → in_runs (take (i + 1) runs) r ≡ (in_runs (take i runs) r || (nat_le (get_or runs i d).first r && nat_lt r ((get_or runs i d).first + (get_or runs i d).count)))
in_runs_more runs i d r l = ap (λ rs. in_runs rs r) (take_more runs i d l) ∙ in_runs_push (take i runs) (get_or runs i d) r

pub runs_more : (p : ℕ) (runs : List Run) (i : ℕ) (d : Run) (old mid new : List ℕ) → i < length runs → Fills p (in_runs (take i runs)) old mid
    → Fills p (λ r. nat_le (get_or runs i d).first r && nat_lt r ((get_or runs i d).first + (get_or runs i d).count)) mid new → Fills p (in_runs (take (i + 1) runs)) old new
runs_more p runs i d old mid new l first second =
    fills_both p (in_runs (take i runs)) (λ r. nat_le (get_or runs i d).first r && nat_lt r ((get_or runs i d).first + (get_or runs i d).count)) (in_runs (take (i + 1) runs)) old mid new (λ r. in_runs_more runs i d r l) first second

pub runs_begun : (p : ℕ) (old : List ℕ) → Fills p (in_runs []) old old
runs_begun p old = record { filled = λ r h. absurd (true≢false (sym h)); others = λ r h. refl }

abbrev pub no_run : Run
no_run = record { first = 0; count = 0 }

-- a test that fails on the rows of one run more
pub in_runs_later : (runs : List Run) (i : ℕ) (test : ℕ → Bool) → i < length runs → ((r : ℕ) → in_runs (take i runs) r ≡ true → test r ≡ false)
    → ((r : ℕ) → (get_or runs i no_run).first ≤ r → r < (get_or runs i no_run).first + (get_or runs i no_run).count → test r ≡ false) → (r : ℕ) → in_runs (take (i + 1) runs) r ≡ true → test r ≡ false
in_runs_later runs i test l before here r h =
    let run = get_or runs i no_run in
    elim (or_cases (in_runs (take i runs) r) (nat_le run.first r && nat_lt r (run.first + run.count)) (sym (in_runs_more runs i no_run r l) ∙ h)) [
      | inl early ↦ before r early
      | inr now ↦ let parts = and_parts (nat_le run.first r) (nat_lt r (run.first + run.count)) now in here r (leb-true run.first r parts.0) (ltb-true r (run.first + run.count) parts.1)
    ]

-- a row of one of the runs
pub in_runs_at : (runs : List Run) (i : ℕ) (d : Run) (r : ℕ) → i < length runs → (get_or runs i d).first ≤ r → r < (get_or runs i d).first + (get_or runs i d).count → in_runs runs r ≡ true
in_runs_at [] i d r l low high = absurd (omega arith)
in_runs_at (run ∷ runs) zero d r l low high =
    member_row-append (Base r) (rows_from run.first run.count) (rows_in runs)
    ∙ or_left (member_row (Base r) (rows_from run.first run.count)) (in_runs runs r) (in_one run r ∙ and_from (nat_le run.first r) (nat_lt r (run.first + run.count)) (le-leb run.first r low) (lt-ltb r (run.first + run.count) high))
in_runs_at (run ∷ runs) (suc i) d r l low high =
    member_row-append (Base r) (rows_from run.first run.count) (rows_in runs)
    ∙ or_right (member_row (Base r) (rows_from run.first run.count)) (in_runs runs r) (in_runs_at runs i d r (omega arith) low high)

pub run_low : (n : ℕ) (runs : List Run) (i : ℕ) (d : Run) → AreBelow n runs → i < length runs → (get_or runs i d).first + (get_or runs i d).count ≤ n
run_low n [] i d h l = absurd (omega arith)
run_low n (run ∷ runs) zero d h l = h.0
run_low n (run ∷ runs) (suc i) d h l = run_low n runs i d h.1 (omega arith)

in_runs_below : (n : ℕ) (runs : List Run) (r : ℕ) → AreBelow n runs → in_runs runs r ≡ true → r < n
in_runs_below n [] r h m = absurd (true≢false (sym m))
in_runs_below n (run ∷ runs) r h m =
    elim (or_cases (member_row (Base r) (rows_from run.first run.count)) (in_runs runs r) (sym (member_row-append (Base r) (rows_from run.first run.count) (rows_in runs)) ∙ m)) [
      | inl here ↦
          let parts = and_parts (nat_le run.first r) (nat_lt r (run.first + run.count)) (sym (in_one run r) ∙ here) in
          let high = ltb-true r (run.first + run.count) parts.1 in
          omega (arith, high, h.0)
      | inr later ↦ in_runs_below n runs r h.1 later
    ]

stands : (k : Packing) (runs : List Run) (p r : ℕ) → AreBaseRunsOf k runs p → in_runs runs r ≡ true → k.in_base r p ≡ true
stands k runs p r are h = sym (are.rows.base r (in_runs_below k.base_len runs r are.known h)) ∙ h

-- ---- the marks of a fixing that changes

member_last : (xs : List ℕ) (p : ℕ) → member p (xs ++ p ∷ []) ≡ true
member_last xs p = member-append p xs (p ∷ []) ∙ or_right (member p xs) ((p == p) || false) (or_left (p == p) false (eq-eqb p p refl))

member_other : (xs : List ℕ) (p q : ℕ) → q ≢ p → member q (xs ++ p ∷ []) ≡ member q xs
member_other xs p q other = member-append q xs (p ∷ []) ∙ ap (λ b. member q xs || (b || false)) (ne_eqb p q (λ e. other (sym e))) ∙ or_none (member q xs)

-- a mark more
marks_push : (p : ℕ) (xs ys : List ℕ) (old new : List Bool) → ys ≡ xs ++ (p ∷ []) → SetsAt false p true old new → ((q : ℕ) → mark_at old q ≡ member q xs) → (q : ℕ) → mark_at new q ≡ member q ys
marks_push p xs ys old new e sets are q = elim (cases_eq q p) [
  | inl here ↦ ap (mark_at new) here ∙ sets.here ∙ sym (ap (λ x. member x ys) here ∙ ap (member p) e ∙ member_last xs p)
  | inr other ↦ sets.others q other ∙ are q ∙ sym (ap (member q) e ∙ member_other xs p q other)
]

-- a mark less
marks_pop : (p : ℕ) (xs ys : List ℕ) (old new : List Bool) → xs ≡ ys ++ (p ∷ []) → member p ys ≡ false → SetsAt false p false old new → ((q : ℕ) → mark_at old q ≡ member q xs) → (q : ℕ) → mark_at new q ≡ member q ys
marks_pop p xs ys old new e out sets are q = elim (cases_eq q p) [
  | inl here ↦ ap (mark_at new) here ∙ sets.here ∙ sym (ap (λ x. member x ys) here ∙ out)
  | inr other ↦ sets.others q other ∙ are q ∙ ap (member q) e ∙ member_other ys p q other
]

-- the parts of marks that a step leaves alone
pub record KeepsRows (m n : Marks) : Type 0 where
  pub fillers : n.fillers.items ≡ m.fillers.items
  pub count : n.count ≡ m.count

pub no_marks : (k : Packing) (f : Fixing) (m : Marks) → f.zero ≡ [] → f.one ≡ [] → m.left_out.items ≡ [] → m.taken.items ≡ [] → m.fillers.items ≡ [] → m.count ≡ 0 → AreMarks k f m
no_marks k f m z o left taken fillers count = record {
  left_out = λ p. ap (λ x. mark_at x p) left ∙ sym (ap (member p) z);
  taken = λ p. ap (λ x. mark_at x p) taken ∙ sym (ap (member p) o);
  few = omega (arith, count);
  fillers = λ r q l h. let none : filler_at m.fillers.items r ≡ 0 = ap (λ x. filler_at x r) fillers in absurd (omega (arith, none, h));
  rows = λ i r l. absurd (omega (arith, l, count));
}

rows_kept : (k : Packing) (f g : Fixing) (m n : Marks) → n.fillers.items ≡ m.fillers.items → n.count ≤ m.count → n.count ≤ length f.one → ((i : ℕ) → i < n.count → slice_index_or g.one i 0 ≡ slice_index_or f.one i 0) → AreMarks k f m
    → (i r : ℕ) → i < n.count → r < k.base_len → k.in_base r (slice_index_or g.one i 0) ≡ true → filler_at n.fillers.items r ≡ slice_index_or g.one i 0 + 1
rows_kept k f g m n fillers less few same are i r l low h =
    ap (λ x. filler_at x r) fillers ∙ are.rows i r (omega (arith, l, less)) low (sym (ap (k.in_base r) (same i l)) ∙ h) ∙ sym (ap (λ x. x + 1) (same i l))

pub marks_out : (k : Packing) (f g : Fixing) (m n : Marks) (p : ℕ) → g.zero ≡ f.zero ++ (p ∷ []) → g.one ≡ f.one → SetsAt false p true m.left_out.items n.left_out.items → n.taken.items ≡ m.taken.items → KeepsRows m n → AreMarks k f m → AreMarks k g n
marks_out k f g m n p z o sets taken kept are = record {
  left_out = marks_push p f.zero g.zero m.left_out.items n.left_out.items z sets are.left_out;
  taken = λ q. ap (λ x. mark_at x q) taken ∙ are.taken q ∙ sym (ap (member q) o);
  few = omega (arith, kept.count, are.few, ap length o);
  fillers = λ r q l h. are.fillers r q l (sym (ap (λ x. filler_at x r) kept.fillers) ∙ h);
  rows = rows_kept k f g m n kept.fillers (omega (arith, kept.count)) (omega (arith, kept.count, are.few)) (λ i l. ap (λ x. slice_index_or x i 0) o) are;
}

pub marks_taken : (k : Packing) (f g : Fixing) (m n : Marks) (p : ℕ) (zeros : List ℕ) → f.zero ≡ zeros ++ (p ∷ []) → member p zeros ≡ false → g.zero ≡ zeros → g.one ≡ f.one ++ (p ∷ [])
    → SetsAt false p false m.left_out.items n.left_out.items → SetsAt false p true m.taken.items n.taken.items → KeepsRows m n → AreMarks k f m → AreMarks k g n
marks_taken k f g m n p zeros z out none o left taken kept are = record {
  left_out = λ q. marks_pop p f.zero zeros m.left_out.items n.left_out.items z out left are.left_out q ∙ sym (ap (member q) none);
  taken = marks_push p f.one g.one m.taken.items n.taken.items o taken are.taken;
  few = omega (arith, kept.count, are.few, ap length o, length_push f.one p);
  fillers = λ r q l h. are.fillers r q l (sym (ap (λ x. filler_at x r) kept.fillers) ∙ h);
  rows = rows_kept k f g m n kept.fillers (omega (arith, kept.count)) (omega (arith, kept.count, are.few))
      (λ i l. ap (λ x. slice_index_or x i 0) o ∙ get_or_append_left f.one (p ∷ []) 0 i (omega (arith, l, kept.count, are.few))) are;
}

pub marks_released : (k : Packing) (f g : Fixing) (m n : Marks) (p : ℕ) (ones : List ℕ) → f.one ≡ ones ++ (p ∷ []) → member p ones ≡ false → g.one ≡ ones → g.zero ≡ f.zero
    → SetsAt false p false m.taken.items n.taken.items → n.left_out.items ≡ m.left_out.items → n.fillers.items ≡ m.fillers.items → n.count ≡ min m.count (length g.one) → AreMarks k f m → AreMarks k g n
marks_released k f g m n p ones o out one z taken left fillers count are = record {
  left_out = λ q. ap (λ x. mark_at x q) left ∙ are.left_out q ∙ sym (ap (member q) z);
  taken = λ q. marks_pop p f.one ones m.taken.items n.taken.items o out taken are.taken q ∙ sym (ap (member q) one);
  few = omega (arith, count);
  fillers = λ r q l h. are.fillers r q l (sym (ap (λ x. filler_at x r) fillers) ∙ h);
  rows = rows_kept k f g m n fillers (omega (arith, count)) (omega (arith, count, are.few))
      (λ i l. ap (λ x. slice_index_or x i 0) one ∙ sym (ap (λ x. slice_index_or x i 0) o ∙ get_or_append_left ones (p ∷ []) 0 i (omega (arith, l, count, ap length one)))) are;
}

-- ---- the rows of one more pattern that is taken

pub marks_filled : (f : Facts) (fixing : Fixing) (m n : Marks) (runs : List Run) → m.count < length fixing.one → IsValidFixing (packing f) fixing → AreBaseRunsOf (packing f) runs (slice_index_or fixing.one m.count 0)
    → Fills (slice_index_or fixing.one m.count 0) (in_runs runs) m.fillers.items n.fillers.items → n.left_out.items ≡ m.left_out.items → n.taken.items ≡ m.taken.items → n.count ≡ m.count + 1
    → AreMarks (packing f) fixing m → AreMarks (packing f) fixing n
marks_filled f fixing m n runs l valid base fills left taken count are = record {
  left_out = λ q. ap (λ x. mark_at x q) left ∙ are.left_out q;
  taken = λ q. ap (λ x. mark_at x q) taken ∙ are.taken q;
  few = omega (arith, count, l);
  fillers = λ r s low h. elim (cases_Bool (in_runs runs r)) [
    | inl inside ↦ let filled = fills.filled r inside in let same : last ≡ s = omega (arith, filled, h) in sym (ap (k.in_base r) same) ∙ stands k runs last r base inside
    | inr outside ↦ are.fillers r s low (sym (fills.others r outside) ∙ h)
  ];
  rows = λ i r less low h. elim (cases_eq i m.count) [
    | inl here ↦
        let stood : k.in_base r last ≡ true = sym (ap (λ x. k.in_base r (slice_index_or fixing.one x 0)) here) ∙ h in
        fills.filled r (base.rows.base r low ∙ stood) ∙ sym (ap (λ x. slice_index_or fixing.one x 0 + 1) here)
    | inr other ↦
        let before : i < m.count = omega (arith, less, count, other) in
        elim (cases_Bool (in_runs runs r)) [
          | inl inside ↦ absurd (true≢false (sym (meet i r before low h (stands k runs last r base inside)) ∙ valid.apart i m.count before l))
          | inr outside ↦ fills.others r outside ∙ are.rows i r before low h
        ]
  ];
}
  where
    k : Packing
    k = packing f

    last : ℕ
    last = slice_index_or fixing.one m.count 0

    meet : (i r : ℕ) → i < m.count → r < k.base_len → k.in_base r (slice_index_or fixing.one i 0) ≡ true → k.in_base r last ≡ true → k.clash (slice_index_or fixing.one i 0) last ≡ true
    meet i r before low hi hl =
        shares_clash f (slice_index_or fixing.one i 0) last (known_at k.count fixing.one i valid.of_packing.one (omega (arith, before, l))) (known_at k.count fixing.one m.count valid.of_packing.one l) (valid.differ i m.count before l)
        (any_below_at (λ x. k.in_base x (slice_index_or fixing.one i 0) && k.in_base x last) r k.base_len low (and_from (k.in_base r (slice_index_or fixing.one i 0)) (k.in_base r last) hi hl))

-- ---- freedom by marks

record IsAt (test : ℕ → Bool) (xs : List ℕ) : Type 0 where
  pub place : ℕ
  pub there : place < length xs
  pub passes : test (slice_index_or xs place 0) ≡ true

some_at : (test : ℕ → Bool) (xs : List ℕ) → list_any test xs ≡ true → IsAt test xs
some_at test [] h = absurd (true≢false (sym h))
some_at test (x ∷ xs) h = elim (or_cases (test x) (list_any test xs) h) [
  | inl here ↦ record { place = 0; there = omega arith; passes = here }
  | inr later ↦ let rest = some_at test xs later in record { place = suc rest.place; there = omega (arith, rest.there); passes = rest.passes }
]

any_member : (test : ℕ → Bool) (xs : List ℕ) (q : ℕ) → member q xs ≡ true → test q ≡ true → list_any test xs ≡ true
any_member test [] q h t = absurd (true≢false (sym h))
any_member test (x ∷ xs) q h t = elim (or_cases (x == q) (member q xs) h) [
  | inl here ↦ or_left (test x) (list_any test xs) (ap test (eqb-true x q here) ∙ t)
  | inr later ↦ or_right (test x) (list_any test xs) (any_member test xs q later t)
]

member_here : (xs : List ℕ) (i : ℕ) → i < length xs → member (slice_index_or xs i 0) xs ≡ true
member_here [] i l = absurd (omega arith)
member_here (x ∷ xs) zero l = or_left (x == x) (member x xs) (eq-eqb x x refl)
member_here (x ∷ xs) (suc i) l = or_right (x == slice_index_or xs i 0) (member (slice_index_or xs i 0) xs) (member_here xs i (omega arith))

known_member : (n : ℕ) (xs : List ℕ) (q : ℕ) → list_all (λ p. nat_lt p n) xs ≡ true → member q xs ≡ true → q < n
known_member n [] q all h = absurd (true≢false (sym h))
known_member n (x ∷ xs) q all h =
    let parts = and_parts (nat_lt x n) (list_all (λ p. nat_lt p n) xs) all in
    elim (or_cases (x == q) (member q xs) h) [
      | inl here ↦ let same = eqb-true x q here in let low = ltb-true x n parts.0 in omega (arith, same, low)
      | inr later ↦ known_member n xs q parts.1 later
    ]

-- a row of the pattern is filled by one that is taken
pub meets_clash : (f : Facts) (fixing : Fixing) (m : Marks) (runs : List Run) (p : ℕ) → p < (packing f).count → list_all (λ q. nat_lt q (packing f).count) fixing.one ≡ true → member p fixing.one ≡ false
    → AreBaseRunsOf (packing f) runs p → AreMarks (packing f) fixing m → MeetsRow m runs → list_any ((packing f).clash p) fixing.one ≡ true
meets_clash f fixing m runs p l all out base are meets = go (filler_at m.fillers.items meets.row) refl
  where
    k : Packing
    k = packing f

    here : k.in_base meets.row p ≡ true
    here = stands k runs p meets.row base meets.in_run

    low : meets.row < k.base_len
    low = in_runs_below k.base_len runs meets.row base.known meets.in_run

    go : (x : ℕ) → x ≡ filler_at m.fillers.items meets.row → list_any (k.clash p) fixing.one ≡ true
    go zero e = absurd (true≢false (sym (ap (is_taken m.taken.items) e ∙ meets.filled)))
    go (suc q) e =
        let marked : mark_at m.taken.items q ≡ true = ap (is_taken m.taken.items) e ∙ meets.filled in
        let taken : member q fixing.one ≡ true = sym (are.taken q) ∙ marked in
        let also : k.in_base meets.row q ≡ true = are.fillers meets.row q low (omega (arith, e)) in
        let differ : p ≢ q = λ same. true≢false (sym (ap (λ x. member x fixing.one) same ∙ taken) ∙ out) in
        any_member (k.clash p) fixing.one q taken
        (shares_clash f p q l (known_member k.count fixing.one q all taken) differ
        (any_below_at (λ x. k.in_base x p && k.in_base x q) meets.row k.base_len low (and_from (k.in_base meets.row p) (k.in_base meets.row q) here also)))

-- no row of the pattern is filled
pub clear_of_all : (f : Facts) → IsProblem f → (fixing : Fixing) (m : Marks) (runs : List Run) (p : ℕ) → p < (packing f).count → list_all (λ q. nat_lt q (packing f).count) fixing.one ≡ true → member p fixing.one ≡ false
    → m.count ≡ length fixing.one → AreBaseRunsOf (packing f) runs p → AreMarks (packing f) fixing m → ((r : ℕ) → in_runs runs r ≡ true → is_filled m r ≡ false) → list_any ((packing f).clash p) fixing.one ≡ false
clear_of_all f is fixing m runs p l all out whole base are none = elim (cases_Bool (list_any (k.clash p) fixing.one)) [
  | inl some ↦ absurd (clashing (some_at (k.clash p) fixing.one some))
  | inr clear ↦ clear
]
  where
    k : Packing
    k = packing f

    clashing : IsAt (k.clash p) fixing.one → ⊥
    clashing at =
        let q = slice_index_or fixing.one at.place 0 in
        let taken : member q fixing.one ≡ true = member_here fixing.one at.place at.there in
        let differ : p ≢ q = λ same. true≢false (sym (ap (λ x. member x fixing.one) same ∙ taken) ∙ out) in
        let shared = clash_shares f is p q l (known_at k.count fixing.one at.place all at.there) differ at.passes in
        let r = first_event (λ x. k.in_base x p && k.in_base x q) k.base_len shared in
        let both = and_parts (k.in_base r.0 p) (k.in_base r.0 q) r.2 in
        let filler : filler_at m.fillers.items r.0 ≡ q + 1 = are.rows at.place r.0 (omega (arith, whole, at.there)) r.1 both.1 in
        let one_more : q + 1 ≡ suc q = omega arith in
        let filled : is_filled m r.0 ≡ true = ap (is_taken m.taken.items) (filler ∙ one_more) ∙ are.taken q ∙ taken in
        true≢false (sym filled ∙ none r.0 (base.rows.base r.0 r.1 ∙ both.0))

free_from : (a b c : Bool) → a ≡ false → b ≡ false → (not a && (not b && not c)) ≡ not c
free_from true b c x y = absurd (true≢false x)
free_from false true c x y = absurd (true≢false y)
free_from false false c x y = refl

-- neither left out nor taken: what is left is to clash with none
pub free_of : (k : Packing) (fixing : Fixing) (m : Marks) (p : ℕ) → AreMarks k fixing m → mark_at m.left_out.items p ≡ false → mark_at m.taken.items p ≡ false → is_free k (fixed_of fixing) p ≡ not (list_any (k.clash p) fixing.one)
free_of k fixing m p are left taken = free_from (member p fixing.zero) (member p fixing.one) (list_any (k.clash p) fixing.one) (sym (are.left_out p) ∙ left) (sym (are.taken p) ∙ taken)

not_both : (a b c : Bool) → (not a && not b) ≡ false → (not a && (not b && not c)) ≡ false
not_both true b c h = refl
not_both false true c h = refl
not_both false false c h = absurd (true≢false h)

pub fixed_not_free : (k : Packing) (fixing : Fixing) (m : Marks) (p : ℕ) → AreMarks k fixing m → (not (mark_at m.left_out.items p) && not (mark_at m.taken.items p)) ≡ false → is_free k (fixed_of fixing) p ≡ false
fixed_not_free k fixing m p are h =
    not_both (member p fixing.zero) (member p fixing.one) (list_any (k.clash p) fixing.one) (sym (ap (λ a. not a && not (mark_at m.taken.items p)) (are.left_out p) ∙ ap (λ b. not (member p fixing.zero) && not b) (are.taken p)) ∙ h)
