-- What an instance keeps to, section after section.
use Rattle.std.proofs.Common.{ℕ, ◌≡◌, ◌≤◌, ◌++◌, Bool, true, false, cond, List, [], ◌∷◌, length, refl, ap, sym, ◌∙◌, arith, subst, inl, inr}
use Rattle.std.specs.Prelude.{◌==◌, ◌⊎◌, nat_le, Result, Ok, Err, codes}
use Rattle.std.specs.List.{list_all}
use Rattle.std.proofs.lemmas.Bool.{and_parts}
use Rattle.std.proofs.lemmas.Bool.Decides.{nat_tests}
use Rattle.std.proofs.lemmas.List.{length-map}
use Rattle.input_core.specs.Lines.{is_field, is_alone}
use Rattle.input_core.specs.Rows.{Unread, are_fields, first_row, unread}
use Rattle.input_core.specs.Fields.{in_line}
use Rattle.input_core.specs.declared.cursors.Row.{Row}
use Rattle.input_core.specs.declared.faults.LineFault.{LineFault}
use Rattle.input_core.specs.declared.faults.LineKind.{LineKind}
use Rattle.input_core.proofs.ChainLemmas.{bind-ok, chained, ok-same, in_line-ok}
use Rattle.input_core.proofs.RowLemmas.{first_row-are, unread-are}
use Rattle.ctt_reader.specs.Entries.{title_of, number_after, only_word, course_after, course_names, room_after, curriculum_of, constraint_of}
use Rattle.ctt_reader.specs.Grammar.{line_as, sizes_of, section, courses_of, curricula_of, constraints_of, sections_of, end_of, ctt_of}
use Rattle.ctt_reader.specs.Promised.{AreFew, IsInstance, is_curriculum, is_constraint}
use Rattle.ctt_reader.specs.declared.header.Sizes.{Sizes}
use Rattle.ctt_reader.specs.declared.instance.Instance.{Instance}
use Rattle.ctt_reader.specs.declared.reader.Sections.{Sections}
use Rattle.ctt_reader.proofs.PromiseLemmas.{title-ok, number_after-ok}
use Rattle.ctt_reader.proofs.EntryLemmas.{AreCourses, AreRooms, all-more, course_after-ok, room_after-ok, curriculum_of-ok, constraint_of-ok}

-- a line that was read as one kind of line
record IsLine {A : Type 0} (read : List (List ℕ) → Result A LineKind) (x : A) (v : Unread) : Type 0 where
  fields : List (List ℕ)
  good : list_all is_field fields ≡ true
  is : read fields ≡ Ok x
  rest : list_all are_fields v.rows ≡ true

line_as-ok : {A : Type 0} (read : List (List ℕ) → Result A LineKind) (u : Unread) (x : A) (v : Unread) → list_all are_fields u.rows ≡ true → line_as read u ≡ Ok (x, v) → IsLine read x v
line_as-ok read u x v h e =
    let row = chained (first_row u) _ (x, v) e in
    let value = chained (in_line row.first.0.line (read row.first.0.fields)) _ (x, v) row.rest in
    let same = ok-same _ (x, v) value.rest in
    let are = first_row-are u row.first.0 row.first.1 h row.is in
    record {
      fields = row.first.0.fields;
      good = are.0;
      is = in_line-ok row.first.0.line (read row.first.0.fields) value.first value.is ∙ ap (λ p. Ok p.0) same;
      rest = subst (λ (w : Unread). list_all are_fields w.rows ≡ true) (ap (λ p. p.1) same) are.1;
    }

-- either the section ends, or it has one more entry
ends : {Y E : Type 0} (t full : Bool) (end y : Y) (few many : E) (more : Result Y E) → cond t (cond full (Ok end) (Err few)) (cond full (Err many) more) ≡ Ok y → ((full ≡ true) × (end ≡ y)) ⊎ (more ≡ Ok y)
ends true true end y few many more e = inl (refl, ok-same end y e)
ends true false end y few many more e = cc
ends false true end y few many more e = cc
ends false false end y few many more e = inr e

reached : (n wanted : ℕ) → (n == wanted) ≡ true → n ≡ wanted
reached n wanted h = grind (arith, nat_tests, h)

-- a section that was read: it keeps to what its entries keep to
record IsSection {A : Type 0} (Keeps : List A → Type 0) (wanted : ℕ) (xs : List A) (v : Unread) : Type 0 where
  kept : Keeps xs
  count : length xs ≡ wanted
  rest : list_all are_fields v.rows ≡ true

section-ok : {A : Type 0} (Keeps : List A → Type 0) (end : List ℕ) (wanted : ℕ) (entry : List A → List (List ℕ) → Result A LineKind) (past : ℕ)
    → ((before : List A) (x : A) (fields : List (List ℕ)) → list_all is_field fields ≡ true → entry before fields ≡ Ok x → Keeps before → Keeps (before ++ x ∷ []))
    → (rows : List (Result Row LineFault)) (before xs : List A) (v : Unread) → Keeps before → list_all are_fields rows ≡ true → section end wanted entry past before rows ≡ Ok (xs, v) → IsSection Keeps wanted xs v
section-ok Keeps end wanted entry past more [] before xs v k h e = cc
section-ok Keeps end wanted entry past more (Err fault ∷ rows) before xs v k h e = cc
section-ok Keeps end wanted entry past more (Ok row ∷ rows) before xs v k h e =
    let p = and_parts (list_all is_field row.fields) (list_all are_fields rows) h in
    elim (ends (is_alone end row.fields) (length before == wanted) (before, record { rows = rows; past = past }) (xs, v) _ _ _ e) [
      | inl q ↦ record {
        kept = subst Keeps (ap (λ r. r.0) q.1) k;
        count = sym (ap (λ r. length r.0) q.1) ∙ reached (length before) wanted q.0;
        rest = subst (λ (w : Unread). list_all are_fields w.rows ≡ true) (ap (λ r. r.1) q.1) p.1;
      }
      | inr q ↦
          let x = chained (in_line row.line (entry before row.fields)) _ (xs, v) q in
          section-ok Keeps end wanted entry past more rows (before ++ x.first ∷ []) xs v (more before x.first row.fields p.0 (in_line-ok row.line (entry before row.fields) x.first x.is) k) p.1 x.rest
    ]

at_most : (n high : ℕ) → nat_le n high ≡ true → n ≤ high
at_most n high h = grind (arith, nat_tests, h)

at_least : (low n : ℕ) → nat_le low n ≡ true → low ≤ n
at_least low n h = grind (arith, nat_tests, h)

record AreSizes (sizes : Sizes) (v : Unread) : Type 0 where
  few : AreFew sizes
  rest : list_all are_fields v.rows ≡ true

sizes-ok : (u : Unread) (sizes : Sizes) (v : Unread) → list_all are_fields u.rows ≡ true → sizes_of u ≡ Ok (sizes, v) → AreSizes sizes v
sizes-ok u sizes v h e =
    let a = chained (line_as (number_after (codes "Courses:") 0 1000) u) _ (sizes, v) e in
    let b = chained (line_as (number_after (codes "Rooms:") 0 200) a.first.1) _ (sizes, v) a.rest in
    let c = chained (line_as (number_after (codes "Days:") 1 14) b.first.1) _ (sizes, v) b.rest in
    let d = chained (line_as (number_after (codes "Periods_per_day:") 1 48) c.first.1) _ (sizes, v) c.rest in
    let f = chained (line_as (number_after (codes "Curricula:") 0 1000) d.first.1) _ (sizes, v) d.rest in
    let g = chained (line_as (number_after (codes "Constraints:") 0 100000) f.first.1) _ (sizes, v) f.rest in
    let same = ok-same _ (sizes, v) g.rest in
    let la = line_as-ok (number_after (codes "Courses:") 0 1000) u a.first.0 a.first.1 h a.is in
    let lb = line_as-ok (number_after (codes "Rooms:") 0 200) a.first.1 b.first.0 b.first.1 la.rest b.is in
    let lc = line_as-ok (number_after (codes "Days:") 1 14) b.first.1 c.first.0 c.first.1 lb.rest c.is in
    let ld = line_as-ok (number_after (codes "Periods_per_day:") 1 48) c.first.1 d.first.0 d.first.1 lc.rest d.is in
    let lf = line_as-ok (number_after (codes "Curricula:") 0 1000) d.first.1 f.first.0 f.first.1 ld.rest f.is in
    let lg = line_as-ok (number_after (codes "Constraints:") 0 100000) f.first.1 g.first.0 g.first.1 lf.rest g.is in
    let na = number_after-ok (codes "Courses:") 0 1000 la.fields a.first.0 la.is in
    let nb = number_after-ok (codes "Rooms:") 0 200 lb.fields b.first.0 lb.is in
    let nc = number_after-ok (codes "Days:") 1 14 lc.fields c.first.0 lc.is in
    let nd = number_after-ok (codes "Periods_per_day:") 1 48 ld.fields d.first.0 ld.is in
    let nf = number_after-ok (codes "Curricula:") 0 1000 lf.fields f.first.0 lf.is in
    let ng = number_after-ok (codes "Constraints:") 0 100000 lg.fields g.first.0 lg.is in
    subst (λ (p : Sizes × Unread). AreSizes p.0 p.1) same (record {
      few = record {
        courses = at_most a.first.0 1000 na.1;
        rooms = at_most b.first.0 200 nb.1;
        some_days = at_least 1 c.first.0 nc.0;
        days = at_most c.first.0 14 nc.1;
        some_periods = at_least 1 d.first.0 nd.0;
        periods = at_most d.first.0 48 nd.1;
        curricula = at_most f.first.0 1000 nf.1;
        constraints = at_most g.first.0 100000 ng.1;
      };
      rest = lg.rest;
    })

-- the sizes that a text gives are within the limits
pub sizes-few : (bytes : List ℕ) (start u v : Unread) (title : List (List ℕ)) (sizes : Sizes) → start ≡ unread bytes → line_as title_of start ≡ Ok (title, u) → sizes_of u ≡ Ok (sizes, v) → AreFew sizes
sizes-few bytes start u v title sizes s e f =
    let are : list_all are_fields start.rows ≡ true = subst (λ (w : Unread). list_all are_fields w.rows ≡ true) (sym s) (unread-are bytes) in
    (sizes-ok u sizes v (line_as-ok title_of start title u are e).rest f).few

-- the parts of a text that was read make the whole
pub whole : (bytes : List ℕ) (start u v w : Unread) (title : List (List ℕ)) (sizes : Sizes) (sections : Sections) (end : Unit {0}) → start ≡ unread bytes → line_as title_of start ≡ Ok (title, u)
    → sizes_of u ≡ Ok (sizes, v) → sections_of sizes v ≡ Ok (sections, w) → end_of w ≡ Ok end
    → ctt_of bytes ≡ Ok (record { title = title; courses = sections.courses; rooms = sections.rooms; days = sizes.days; periods = sizes.periods; curricula = sections.curricula; constraints = sections.constraints })
whole bytes start u v w title sizes sections end s a b c d =
    bind-ok _ _ _ (ap (line_as title_of) (sym s) ∙ a) ∙ bind-ok _ _ _ b ∙ bind-ok _ _ _ c ∙ bind-ok _ _ _ d

pub ctt_of-ok : (bytes : List ℕ) (i : Instance) → ctt_of bytes ≡ Ok i → IsInstance i
ctt_of-ok bytes i e =
    let title = chained (line_as title_of (unread bytes)) _ i e in
    let sizes = chained (sizes_of title.first.1) _ i title.rest in
    let sections = chained (sections_of sizes.first.0 sizes.first.1) _ i sizes.rest in
    let end = chained (end_of sections.first.1) _ i sections.rest in
    let same = ok-same _ i end.rest in
    let lt = line_as-ok title_of (unread bytes) title.first.0 title.first.1 (unread-are bytes) title.is in
    let ls = sizes-ok title.first.1 sizes.first.0 sizes.first.1 lt.rest sizes.is in
    let few = ls.few in
    let courses = chained (courses_of sizes.first.0.courses sizes.first.1) _ sections.first sections.is in
    let rooms = chained (section (codes "CURRICULA:") sizes.first.0.rooms room_after courses.first.1.past [] courses.first.1.rows) _ sections.first courses.rest in
    let names = course_names courses.first.0 in
    let curricula = chained (curricula_of names sizes.first.0.curricula rooms.first.1) _ sections.first rooms.rest in
    let constraints = chained (constraints_of names sizes.first.0 curricula.first.1) _ sections.first curricula.rest in
    let parts = ok-same _ sections.first constraints.rest in
    let start = chained (line_as (only_word (codes "COURSES:")) sizes.first.1) _ courses.first courses.is in
    let lw = line_as-ok (only_word (codes "COURSES:")) sizes.first.1 start.first.0 start.first.1 ls.rest start.is in
    let lc = section-ok AreCourses (codes "ROOMS:") sizes.first.0.courses course_after start.first.1.past (λ b x fs g r k. course_after-ok b x fs g r k) start.first.1.rows [] courses.first.0 courses.first.1
    (record { each = refl; different = refl }) lw.rest start.rest in
    let lr = section-ok AreRooms (codes "CURRICULA:") sizes.first.0.rooms room_after courses.first.1.past (λ b x fs g r k. room_after-ok b x fs g r k) courses.first.1.rows [] rooms.first.0 rooms.first.1
    (record { each = refl; different = refl }) lc.rest rooms.is in
    let lq = section-ok (λ xs. list_all (is_curriculum (length names)) xs ≡ true) (codes "UNAVAILABILITY_CONSTRAINTS:") sizes.first.0.curricula (λ before. curriculum_of names) rooms.first.1.past
    (λ b x fs g r k. all-more (is_curriculum (length names)) b x k (curriculum_of-ok names fs x g r)) rooms.first.1.rows [] curricula.first.0 curricula.first.1 refl lr.rest curricula.is in
    let lk = section-ok (λ xs. list_all (is_constraint (length names) sizes.first.0.days sizes.first.0.periods) xs ≡ true) (codes "END.") sizes.first.0.constraints (λ before. constraint_of names sizes.first.0.days sizes.first.0.periods) curricula.first.1.past
    (λ b x fs g r k. all-more (is_constraint (length names) sizes.first.0.days sizes.first.0.periods) b x k (constraint_of-ok names sizes.first.0.days sizes.first.0.periods fs x r)) curricula.first.1.rows [] constraints.first.0 constraints.first.1 refl lq.rest constraints.is in
    let count : length names ≡ length courses.first.0 = length-map courses.first.0 _ in
    let good : IsInstance (record { title = title.first.0; courses = courses.first.0; rooms = rooms.first.0; days = sizes.first.0.days; periods = sizes.first.0.periods; curricula = curricula.first.0; constraints = constraints.first.0 }) = record {
      few_courses = omega (arith, lc.count, few.courses);
      few_rooms = omega (arith, lr.count, few.rooms);
      some_days = few.some_days;
      few_days = few.days;
      some_periods = few.some_periods;
      few_periods = few.periods;
      few_curricula = omega (arith, lq.count, few.curricula);
      few_constraints = omega (arith, lk.count, few.constraints);
      title = title-ok lt.fields title.first.0 lt.good lt.is;
      courses = lc.kept.each;
      course_names = lc.kept.different;
      rooms = lr.kept.each;
      room_names = lr.kept.different;
      curricula = rw count at lq.kept;
      constraints = rw count at lk.kept;
    } in
    subst IsInstance same (subst (λ (s : Sections × Unread). IsInstance (record { title = title.first.0; courses = s.0.courses; rooms = s.0.rooms; days = sizes.first.0.days; periods = sizes.first.0.periods; curricula = s.0.curricula; constraints = s.0.constraints })) parts good)
