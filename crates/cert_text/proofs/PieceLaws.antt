-- Bytes in pieces are read as in one.
use Rattle.std.proofs.Common.{ℕ, ◌≡◌, ◌+◌, ◌<◌, refl, sym, ◌∙◌, ap, subst, true, ◌&&◌, List, [], ◌∷◌, ◌++◌, append_assoc, append-nil, length, length-append, map, arith}
use Rattle.std.specs.Prelude.{Option, Some, None, IfSome, Err, option_map}
use Rattle.std.specs.List.{list_all}
use Rattle.std.proofs.lemmas.Bool.{and_parts, and_from}
use Rattle.std.proofs.lemmas.Option.{same_Some, none-some}
use Rattle.std.proofs.lemmas.List.Folds.{list_all-append}
use Rattle.input_core.specs.declared.faults.LineKind.TheVariants as kinds
use Rattle.input_core.specs.declared.faults.TextFault.{TextFault}
use Rattle.input_core.specs.declared.faults.TextFault.TheVariants.{Line}
use Rattle.cert_text.specs.declared.lines.Certificate.{Certificate}
use Rattle.cert_text.specs.declared.lines.CertLine.{CertLine}
use Rattle.cert_text.specs.declared.named.Named.{Named}
use Rattle.cert_text.specs.declared.place.Place.{Place}
use Rattle.cert_text.specs.declared.place.Place.TheVariants as places
use Rattle.cert_text.specs.declared.pieces.Pieces.{Pieces}
use Rattle.cert_text.specs.Numbers.{lacks, cut, opt_then}
use Rattle.cert_text.specs.Spelling.{line_of, line_text, in_bounds}
use Rattle.cert_text.specs.Grammar.{State, step}
use Rattle.cert_text.specs.Grammar.State.{Begun, Headed, Sized, Chosen, Valued, Cutting, Between, Inside, Loose, After, Over}
use Rattle.cert_text.specs.Sharing.{named}
use Rattle.cert_text.specs.Places.{follows, place_of}
use Rattle.cert_text.specs.Text.{fed, Standing, begun, stands_at, steps, takes, pieces_before, last_of, whole_lines, rest_of, read_over, read_end, read_from, certificate_of}
use Rattle.cert_text.specs.Kept.{IsKept}
use Rattle.cert_text.specs.Pieces.{then_stands, run, KeepsStanding, IsPieces, TakesText, GivesLines, IsWholeFault, IsNoText, IsSomeText}
use Rattle.cert_text.proofs.NumberLaws.{cut-whole}
use Rattle.cert_text.proofs.SpellingLaws.{line_of-is}
use Rattle.cert_text.proofs.TextLaws.{bytes_split, whole_lack, cut_lacks, next_whole, fed-whole, run-append, read_ran, taken_begin, fault_is, text_is, map-append}
use Rattle.cert_text.proofs.CountLaws.{step_counts}
use Rattle.cert_text.proofs.LengthLaws.{kept_more, kept_then, kept_none}

-- ---- lines behind bytes

pub lacks-both : (xs ys : List ℕ) → lacks 10 xs ≡ true → lacks 10 ys ≡ true → lacks 10 (xs ++ ys) ≡ true
lacks-both xs ys h k = list_all-append _ xs ys ∙ and_from (lacks 10 xs) (lacks 10 ys) h k

-- the first whole line and what follows it
pub record IsNextLine (left line after : List ℕ) : Type 0 where
  pub split : left ≡ line ++ (10 ∷ after)
  pub inside : lacks 10 line ≡ true

pub next_is : (left line after : List ℕ) → whole_lines left ≡ line ∷ whole_lines after → rest_of left ≡ rest_of after → IsNextLine left line after
next_is left line after whole rest =
    let lacking = sym (ap (list_all (lacks 10)) whole) ∙ whole_lack left in
    record {
      split = bytes_split left ∙ ap (λ ls. fed ls ++ rest_of left) whole ∙ ap (λ r. fed (line ∷ whole_lines after) ++ r) rest
          ∙ append_assoc line (10 ∷ fed (whole_lines after)) (rest_of after) ∙ ap (λ xs. line ++ (10 ∷ xs)) (sym (bytes_split after));
      inside = (and_parts (lacks 10 line) (list_all (lacks 10) (whole_lines after)) lacking).0;
    }

-- bytes without a whole line
pub none_whole : (left : List ℕ) → whole_lines left ≡ [] → rest_of left ≡ left → lacks 10 left ≡ true
none_whole left whole rest = go (cut 10 left) refl whole rest (cut_lacks left)
  where
    go : (ps : List (List ℕ)) → cut 10 left ≡ ps → pieces_before ps ≡ [] → last_of ps ≡ left → list_all (lacks 10) ps ≡ true → lacks 10 left ≡ true
    go [] e w r h = ap (lacks 10) (sym r)
    go (p ∷ []) e w r h = ap (lacks 10) (sym r) ∙ (and_parts (lacks 10 p) true h).0
    go (p ∷ (q ∷ ps)) e w r h = absurd (cons-nil p (pieces_before (q ∷ ps)) w)
      where
        cons-nil : (x : List ℕ) (xs : List (List ℕ)) → x ∷ xs ≡ [] → ⊥
        cons-nil x xs e = absurd (let n : length (x ∷ xs) ≡ 0 = ap length e in omega arith)

last_lacks : (ps : List (List ℕ)) → list_all (lacks 10) ps ≡ true → lacks 10 (last_of ps) ≡ true
last_lacks [] h = refl
last_lacks (p ∷ []) h = (and_parts (lacks 10 p) true h).0
last_lacks (p ∷ (q ∷ ps)) h = last_lacks (q ∷ ps) (and_parts (lacks 10 p) (list_all (lacks 10) (q ∷ ps)) h).1

rest_lacks : (x : List ℕ) → lacks 10 (rest_of x) ≡ true
rest_lacks x = last_lacks (cut 10 x) (cut_lacks x)

behind : (x y : List ℕ) → (whole_lines (x ++ y) ≡ whole_lines x ++ whole_lines (rest_of x ++ y)) × (rest_of (x ++ y) ≡ rest_of (rest_of x ++ y))
behind x y =
    let split : x ++ y ≡ fed (whole_lines x) ++ (rest_of x ++ y) = ap (λ b. b ++ y) (bytes_split x) ∙ append_assoc (fed (whole_lines x)) (rest_of x) y in
    let both = fed-whole (whole_lines x) (rest_of x ++ y) (whole_lack x) in
    (ap whole_lines split ∙ both.0, ap rest_of split ∙ both.1)

line_behind : (x line after : List ℕ) → lacks 10 line ≡ true
    → (whole_lines (x ++ (line ++ (10 ∷ after))) ≡ whole_lines x ++ ((rest_of x ++ line) ∷ whole_lines after)) × (rest_of (x ++ (line ++ (10 ∷ after))) ≡ rest_of after)
line_behind x line after lack =
    let both = behind x (line ++ (10 ∷ after)) in
    let same : rest_of x ++ (line ++ (10 ∷ after)) ≡ (rest_of x ++ line) ++ (10 ∷ after) = sym (append_assoc (rest_of x) line (10 ∷ after)) in
    let next = next_whole (rest_of x ++ line) after (lacks-both (rest_of x) line (rest_lacks x) lack) in
    (both.0 ∙ ap (λ b. whole_lines x ++ whole_lines b) same ∙ ap (λ ls. whole_lines x ++ ls) next.0, both.1 ∙ ap rest_of same ∙ next.1)

rest_behind : (x left : List ℕ) → lacks 10 left ≡ true → (whole_lines (x ++ left) ≡ whole_lines x) × (rest_of (x ++ left) ≡ rest_of x ++ left)
rest_behind x left lack =
    let both = behind x left in
    let whole : cut 10 (rest_of x ++ left) ≡ (rest_of x ++ left) ∷ [] = cut-whole 10 (rest_of x ++ left) (lacks-both (rest_of x) left (rest_lacks x) lack) in
    (both.0 ∙ ap (λ ps. whole_lines x ++ pieces_before ps) whole ∙ append-nil (whole_lines x), both.1 ∙ ap last_of whole)

-- ---- reading

read_through : (ls ms : List (List ℕ)) (s t : Standing) (n : ℕ) (rest : List ℕ) → run s ls ≡ Some t → read_from s n (ls ++ ms) rest ≡ read_from t (n + length ls) ms rest
read_through [] ms s t n rest h = ap (λ u. read_from u n ms rest) (same_Some s t h) ∙ ap (λ m. read_from t m ms rest) (omega arith)
read_through (l ∷ ls) ms s t n rest h = go (takes s l) refl (λ u. read_through ls ms u t (n + 1) rest) h
  where
    go : (o : Option Standing) → takes s l ≡ o → ((u : Standing) → run u ls ≡ Some t → read_from u (n + 1) (ls ++ ms) rest ≡ read_from t (n + 1 + length ls) ms rest) → then_stands o (λ u. run u ls) ≡ Some t → read_from s n ((l ∷ ls) ++ ms) rest ≡ read_from t (n + length (l ∷ ls)) ms rest
    go None e later k = absurd (none-some t k)
    go (Some u) e later k =
        let count : n + 1 + length ls ≡ n + length (l ∷ ls) = omega arith in
        ap (λ o. elim o [ None ↦ Err n | Some v ↦ read_from v (n + 1) (ls ++ ms) rest ]) e ∙ later u k ∙ ap (λ m. read_from t m ms rest) count

-- a line is taken by its place and its names
none_stands : (s : Option State) → stands_at s None ≡ None
none_stands None = refl
none_stands (Some s) = refl

taken_steps : (p new : Pieces) (t : Standing) (l : CertLine) (q : Place) (k : Named) → KeepsStanding p t → follows p.place l ≡ Some q → named p.named l ≡ Some k → new.place ≡ q → new.named ≡ k
    → TakesText (steps t l) new (Some l)
taken_steps p new t l q k keeps may names place kept = go (step t.state l) refl
  where
    counts : option_map place_of (step t.state l) ≡ Some q
    counts = step_counts t.state l ∙ ap (λ r. follows r l) (sym keeps.place) ∙ may

    go : (o : Option State) → step t.state l ≡ o → TakesText (steps t l) new (Some l)
    go None e = absurd (none-some q (sym (ap (option_map place_of) e) ∙ counts))
    go (Some u) e =
        let names_at : named t.named l ≡ Some k = ap (λ n. named n l) (sym keeps.named) ∙ names in
        let at : steps t l ≡ Some (record { state = u; named = k }) = ap (λ o. stands_at o (named t.named l)) e ∙ ap (stands_at (Some u)) names_at in
        subst (λ o. TakesText o new (Some l)) (sym at) (record { place = place ∙ sym (same_Some (place_of u) q (sym (ap (option_map place_of) e) ∙ counts)); named = kept })

stopped_place : (p new : Pieces) (t : Standing) (l : CertLine) → KeepsStanding p t → follows p.place l ≡ None → TakesText (steps t l) new None
stopped_place p new t l keeps may = go (step t.state l) refl
  where
    counts : option_map place_of (step t.state l) ≡ None
    counts = step_counts t.state l ∙ ap (λ r. follows r l) (sym keeps.place) ∙ may

    go : (o : Option State) → step t.state l ≡ o → TakesText (steps t l) new None
    go None e = subst (λ o. TakesText (stands_at o (named t.named l)) new None) (sym e) tt
    go (Some u) e = absurd (none-some (place_of u) (sym counts ∙ ap (option_map place_of) e))

stopped_name : (p new : Pieces) (t : Standing) (l : CertLine) → KeepsStanding p t → named p.named l ≡ None → TakesText (steps t l) new None
stopped_name p new t l keeps names =
    let none : named t.named l ≡ None = ap (λ n. named n l) (sym keeps.named) ∙ names in
    subst (λ o. TakesText o new None) (sym (ap (stands_at (step t.state l)) none ∙ none_stands (step t.state l))) tt

-- by the bytes of the line
spelt : (t : Standing) (line : List ℕ) (l : CertLine) → line_of line ≡ Some l → takes t line ≡ steps t l
spelt t line l e = ap (λ o. opt_then o (steps t)) e

pub takes_line : (p new : Pieces) (t : Standing) (line : List ℕ) (l : CertLine) (q : Place) (k : Named) → line_of line ≡ Some l → KeepsStanding p t → follows p.place l ≡ Some q → named p.named l ≡ Some k → new.place ≡ q → new.named ≡ k
    → TakesText (takes t line) new (Some l)
takes_line p new t line l q k e keeps may names place kept = subst (λ o. TakesText o new (Some l)) (sym (spelt t line l e)) (taken_steps p new t l q k keeps may names place kept)

pub no_place : (p new : Pieces) (t : Standing) (line : List ℕ) (l : CertLine) → line_of line ≡ Some l → KeepsStanding p t → follows p.place l ≡ None → TakesText (takes t line) new None
no_place p new t line l e keeps may = subst (λ o. TakesText o new None) (sym (spelt t line l e)) (stopped_place p new t l keeps may)

pub no_name : (p new : Pieces) (t : Standing) (line : List ℕ) (l : CertLine) → line_of line ≡ Some l → KeepsStanding p t → named p.named l ≡ None → TakesText (takes t line) new None
no_name p new t line l e keeps names = subst (λ o. TakesText o new None) (sym (spelt t line l e)) (stopped_name p new t l keeps names)

pub no_line : (t : Standing) (line : List ℕ) (new : Pieces) → line_of line ≡ None → TakesText (takes t line) new None
no_line t line new e = subst (λ o. TakesText o new None) (sym (ap (λ o. opt_then o (steps t)) e)) tt

-- ---- pieces

pub pieces_begin : (p : Pieces) → p.place ≡ places.Head → p.named ≡ begun.named → p.rest ≡ [] → p.line ≡ 1 → IsPieces p []
pieces_begin p place names rest line = record {
  standing = begun;
  ran = refl;
  keeps = record { place = place; named = names };
  rest = subst (IsKept []) (sym rest) kept_none;
  line = line;
}

takes_kept : (t : Standing) (x kept line : List ℕ) → IsKept x kept → takes t (kept ++ line) ≡ takes t (x ++ line)
takes_kept t x kept line is = ap (λ o. opt_then o (steps t)) (kept_more x kept line is)

-- a whole line that was taken
pub pieces_on : (p new : Pieces) (x line : List ℕ) (l : CertLine) → IsPieces p x → lacks 10 line ≡ true → ((t : Standing) → KeepsStanding p t → TakesText (takes t (p.rest ++ line)) new (Some l))
    → new.rest ≡ [] → new.line ≡ p.line + 1 → IsPieces new (x ++ (line ++ (10 ∷ [])))
pieces_on p new x line l is lack took rest next = go (takes is.standing (p.rest ++ line)) refl (took is.standing is.keeps)
  where
    both : (whole_lines (x ++ (line ++ (10 ∷ []))) ≡ whole_lines x ++ ((rest_of x ++ line) ∷ [])) × (rest_of (x ++ (line ++ (10 ∷ []))) ≡ [])
    both = line_behind x line [] lack

    go : (o : Option Standing) → takes is.standing (p.rest ++ line) ≡ o → TakesText o new (Some l) → IsPieces new (x ++ (line ++ (10 ∷ [])))
    go None e t = absurd t
    go (Some s) e keeps = record {
      standing = s;
      ran =
          ap (run begun) both.0 ∙ run-append (whole_lines x) ((rest_of x ++ line) ∷ []) begun
          ∙ ap (λ o. then_stands o (λ u. run u ((rest_of x ++ line) ∷ []))) is.ran
          ∙ ap (λ o. then_stands o (λ u. Some u)) (sym (takes_kept is.standing (rest_of x) p.rest line is.rest) ∙ e);
      keeps = keeps;
      rest = subst (λ y. IsKept y new.rest) (sym both.1) (subst (IsKept []) (sym rest) kept_none);
      line = omega (arith, next, is.line, ap length both.0, length-append (whole_lines x) ((rest_of x ++ line) ∷ []));
    }

-- and what it adds to the lines
pub lines_on : (p : Pieces) (x line : List ℕ) (before : List (List ℕ)) (l : CertLine) (ls : List CertLine) → IsPieces p x → lacks 10 line ≡ true → line_of (p.rest ++ line) ≡ Some l
    → whole_lines x ≡ before ++ map line_text ls → whole_lines (x ++ (line ++ (10 ∷ []))) ≡ before ++ map line_text (ls ++ (l ∷ []))
lines_on p x line before l ls is lack spells so_far =
    let text : rest_of x ++ line ≡ line_text l = (line_of-is (rest_of x ++ line) l (sym (kept_more (rest_of x) p.rest line is.rest) ∙ spells)).0 in
    (line_behind x line [] lack).0 ∙ ap (λ ls'. ls' ++ ((rest_of x ++ line) ∷ [])) so_far ∙ append_assoc before (map line_text ls) ((rest_of x ++ line) ∷ [])
    ∙ ap (λ y. before ++ (map line_text ls ++ (y ∷ []))) text ∙ ap (λ ys. before ++ ys) (sym (map-append ls (l ∷ [])))

pub bounded_on : (p : Pieces) (line : List ℕ) (l : CertLine) (ls : List CertLine) → line_of (p.rest ++ line) ≡ Some l → list_all in_bounds ls ≡ true → list_all in_bounds (ls ++ (l ∷ [])) ≡ true
bounded_on p line l ls spells so_far =
    list_all-append in_bounds ls (l ∷ []) ∙ and_from (list_all in_bounds ls) (in_bounds l && true) so_far (and_from (in_bounds l) true (line_of-is (p.rest ++ line) l spells).1 refl)

-- a whole line that was not taken
pub pieces_stop : (p new : Pieces) (x line after : List ℕ) (n : ℕ) → IsPieces p x → lacks 10 line ≡ true → ((t : Standing) → KeepsStanding p t → TakesText (takes t (p.rest ++ line)) new None)
    → n ≡ p.line → IsWholeFault (x ++ (line ++ (10 ∷ after))) (Line (record { line = n; kind = kinds.Text }))
pieces_stop p new x line after n is lack took same = go (takes is.standing (p.rest ++ line)) refl (took is.standing is.keeps)
  where
    all : List ℕ
    all = x ++ (line ++ (10 ∷ after))

    both : (whole_lines all ≡ whole_lines x ++ ((rest_of x ++ line) ∷ whole_lines after)) × (rest_of all ≡ rest_of after)
    both = line_behind x line after lack

    go : (o : Option Standing) → takes is.standing (p.rest ++ line) ≡ o → TakesText o new None → IsWholeFault all (Line (record { line = n; kind = kinds.Text }))
    go (Some s) e t = absurd t
    go None e t =
        let m = 1 + length (whole_lines x) in
        let stops : takes is.standing (rest_of x ++ line) ≡ None = sym (takes_kept is.standing (rest_of x) p.rest line is.rest) ∙ e in
        let read : certificate_of all ≡ Err m =
        ap (λ ls. read_from begun 1 ls (rest_of all)) both.0 ∙ read_through (whole_lines x) ((rest_of x ++ line) ∷ whole_lines after) begun is.standing 1 (rest_of all) is.ran
        ∙ ap (λ o. elim o [ None ↦ Err m | Some v ↦ read_from v (m + 1) (whole_lines after) (rest_of all) ]) stops in
        let here : m ≡ n = omega (arith, same, is.line) in (
          record {
            faulty = fault_is all n (read ∙ ap (λ k. Err k) here);
            whole = omega (arith, here, ap length both.0, length-append (whole_lines x) ((rest_of x ++ line) ∷ whole_lines after));
          },
          refl,
        )

-- bytes that end no line
pub pieces_rest : (p new : Pieces) (x left : List ℕ) → IsPieces p x → lacks 10 left ≡ true → IsKept (p.rest ++ left) new.rest → new.place ≡ p.place → new.named ≡ p.named → new.line ≡ p.line → IsPieces new (x ++ left)
pieces_rest p new x left is lack kept place names line =
    let both = rest_behind x left lack in
    record {
      standing = is.standing;
      ran = ap (run begun) both.0 ∙ is.ran;
      keeps = record { place = place ∙ is.keeps.place; named = names ∙ is.keeps.named };
      rest = subst (λ y. IsKept y new.rest) (sym both.1) (kept_then (rest_of x) p.rest left new.rest is.rest kept);
      line = line ∙ is.line ∙ ap (λ ls. length ls + 1) (sym both.0);
    }

pub lines_rest : (x left : List ℕ) → lacks 10 left ≡ true → whole_lines (x ++ left) ≡ whole_lines x
lines_rest x left lack = (rest_behind x left lack).0

pub gives : (p : Pieces) (bytes all : List ℕ) (ls : List CertLine) → IsPieces p all → whole_lines all ≡ whole_lines bytes ++ map line_text ls → list_all in_bounds ls ≡ true → GivesLines bytes all ls
gives p bytes all ls is spells bounded = record { spelled = spells; bounded = bounded; begins = taken_begin (whole_lines all) is.standing is.ran }

-- ---- the end

read_last : (p : Pieces) (x : List ℕ) → (is : IsPieces p x) → certificate_of x ≡ read_end is.standing.state (1 + length (whole_lines x)) (rest_of x)
read_last p x is = read_ran (whole_lines x) begun is.standing 1 (rest_of x) is.ran

over_of : (s : State) (n levels : ℕ) → place_of s ≡ places.Over levels → (c : Certificate) × (s ≡ Over c)
over_of Begun n levels e = absurd (cc)
over_of (Headed v) n levels e = absurd (cc)
over_of (Sized v p r) n levels e = absurd (cc)
over_of (Chosen v p r cs) n levels e = absurd (cc)
over_of (Valued v p r cs vs) n levels e = absurd (cc)
over_of (Cutting o k) n levels e = absurd (cc)
over_of (Between o ls) n levels e = absurd (cc)
over_of (Inside o ls ns k) n levels e = absurd (cc)
over_of (Loose o ls ns k seen) n levels e = absurd (cc)
over_of (After o ls ns) n levels e = absurd (cc)
over_of (Over c) n levels e = (c, refl)

none_kept : (x kept : List ℕ) → IsKept x kept → kept ≡ [] → x ≡ []
none_kept [] kept is e = refl
none_kept (b ∷ bs) kept is e = absurd (omega (arith, is.size, ap length e))

pub ends_text : (p : Pieces) (x : List ℕ) (levels : ℕ) → IsPieces p x → p.rest ≡ [] → p.place ≡ places.Over levels → IsSomeText x
ends_text p x levels is rest place =
    let s = is.standing.state in
    let n = 1 + length (whole_lines x) in
    let over = over_of s n levels (sym is.keeps.place ∙ place) in
    record {
      certificate = over.0;
      text = text_is x over.0 (read_last p x is ∙ ap (read_end s n) (none_kept (rest_of x) p.rest is.rest rest) ∙ ap (λ t. read_over t n) over.1);
    }

no_text : (p : Pieces) (x : List ℕ) (n : ℕ) (fault : TextFault) → (is : IsPieces p x) → read_end is.standing.state (1 + length (whole_lines x)) (rest_of x) ≡ Err (1 + length (whole_lines x)) → fault ≡ Line (record { line = p.line; kind = kinds.Text }) → IsNoText x fault
no_text p x n fault is err e =
    let m = 1 + length (whole_lines x) in
    let here : m ≡ p.line = omega (arith, is.line) in
    subst (IsNoText x) (sym e) (fault_is x p.line (read_last p x is ∙ err ∙ ap (λ k. Err k) here), refl)

pub rest_no_text : (p : Pieces) (x : List ℕ) (fault : TextFault) → IsPieces p x → 0 < length p.rest → fault ≡ Line (record { line = p.line; kind = kinds.Text }) → IsNoText x fault
rest_no_text p x fault is some e = no_text p x 0 fault is (go (rest_of x) refl) e
  where
    m : ℕ
    m = 1 + length (whole_lines x)

    go : (r : List ℕ) → rest_of x ≡ r → read_end is.standing.state m (rest_of x) ≡ Err m
    go [] q = absurd (omega (arith, some, is.rest.size, ap length q))
    go (b ∷ bs) q = ap (read_end is.standing.state m) q

not_over : (s : State) (n : ℕ) → ((levels : ℕ) → place_of s ≡ places.Over levels → ⊥) → read_over s n ≡ Err n
not_over Begun n h = refl
not_over (Headed v) n h = refl
not_over (Sized v p r) n h = refl
not_over (Chosen v p r cs) n h = refl
not_over (Valued v p r cs vs) n h = refl
not_over (Cutting o k) n h = refl
not_over (Between o ls) n h = refl
not_over (Inside o ls ns k) n h = refl
not_over (Loose o ls ns k seen) n h = refl
not_over (After o ls ns) n h = refl
not_over (Over c) n h = absurd (h (length c.levels) refl)

pub place_no_text : (p : Pieces) (x : List ℕ) (fault : TextFault) → IsPieces p x → ((levels : ℕ) → p.place ≡ places.Over levels → ⊥) → fault ≡ Line (record { line = p.line; kind = kinds.Text }) → IsNoText x fault
place_no_text p x fault is closed e = no_text p x 0 fault is (go (rest_of x)) e
  where
    m : ℕ
    m = 1 + length (whole_lines x)

    go : (r : List ℕ) → read_end is.standing.state m r ≡ Err m
    go [] = not_over is.standing.state m (λ levels q. closed levels (is.keeps.place ∙ q))
    go (b ∷ bs) = refl

pub spelled_as : (x : List ℕ) (o : Option CertLine) (l : CertLine) → IfSome o (λ k. k ≡ l) → line_of x ≡ Some l → IfSome o (λ k. line_of x ≡ Some k)
spelled_as x None l same e = tt
spelled_as x (Some k) l same e = e ∙ ap Some (sym same)

pub none_from : {A : Type 0} (o : Option A) → ((x : A) → o ≡ Some x → ⊥) → o ≡ None
none_from None h = refl
none_from (Some x) h = absurd (h x refl)
