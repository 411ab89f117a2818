-- Bytes in pieces are read as in one.
use Rattle.std.proofs.Common.{ℕ, ◌≡◌, ◌+◌, refl, sym, ◌∙◌, ap, Bool, true, false, List, [], ◌∷◌, ◌++◌, append_assoc, append-nil, length, arith}
use Rattle.std.specs.Prelude.{Option, Some, None, Err}
use Rattle.std.specs.List.{list_all}
use Rattle.std.proofs.lemmas.Bool.{and_parts, and_from, true≢false}
use Rattle.std.proofs.lemmas.List.Folds.{list_all-append}
use Rattle.problem_core.specs.Facts.{Facts}
use Rattle.cert_text.specs.Numbers.{lacks, cut}
use Rattle.cert_text.specs.Text.{fed, Standing, begun, pieces_before, last_of, whole_lines, rest_of, takes, read_from, read_end, certificate_of}
use Rattle.cert_text.specs.Kept.{IsKept}
use Rattle.cert_text.proofs.LengthLaws.{kept_lacks, kept_reads}
use Rattle.cert_text.proofs.NumberLaws.{cut-whole}
use Rattle.cert_text.proofs.TextLaws.{next_whole, bytes_split, whole_lack, cut_lacks}
use Rattle.cert_checker.specs.declared.reading.Reading.{Reading}
use Rattle.cert_checker.specs.declared.verdict.Reason.TheVariants as reasons
use Rattle.cert_checker.specs.declared.verdict.Verdict.{Verdict}
use Rattle.cert_checker.specs.declared.verdict.Verdict.TheVariants.{Not}
use Rattle.cert_checker.specs.Verdicts.{verdict_of}
use Rattle.cert_checker.specs.Progresses.{IsAt, TakesLine}
use Rattle.cert_checker.specs.Feeding.{IsGoing, IsStopped}

lacks-both : (xs ys : List ℕ) → lacks 10 xs ≡ true → lacks 10 ys ≡ true → lacks 10 (xs ++ ys) ≡ true
lacks-both xs ys h k = list_all-append _ xs ys ∙ and_from (lacks 10 xs) (lacks 10 ys) h k

-- the first whole line and what follows it
pub record IsNextLine (left line after : List ℕ) : Type 0 where
  pub split : left ≡ line ++ (10 ∷ after)
  pub inside : lacks 10 line ≡ true

pub next_is : (left line after : List ℕ) → whole_lines left ≡ line ∷ whole_lines after → rest_of left ≡ rest_of after → IsNextLine left line after
next_is left line after whole rest =
    let lacking = sym (ap (list_all (lacks 10)) whole) ∙ whole_lack left in
    record {
      split = bytes_split left ∙ ap (λ ls. fed ls ++ rest_of left) whole ∙ ap (λ r. fed (line ∷ whole_lines after) ++ r) rest
          ∙ append_assoc line (10 ∷ fed (whole_lines after)) (rest_of after) ∙ ap (λ xs. line ++ (10 ∷ xs)) (sym (bytes_split after));
      inside = (and_parts (lacks 10 line) (list_all (lacks 10) (whole_lines after)) lacking).0;
    }

-- bytes without a whole line
pub none_whole : (left : List ℕ) → whole_lines left ≡ [] → rest_of left ≡ left → lacks 10 left ≡ true
none_whole left whole rest = go (cut 10 left) refl whole rest (cut_lacks left)
  where
    go : (ps : List (List ℕ)) → cut 10 left ≡ ps → pieces_before ps ≡ [] → last_of ps ≡ left → list_all (lacks 10) ps ≡ true → lacks 10 left ≡ true
    go [] e w r h = ap (lacks 10) (sym r)
    go (p ∷ []) e w r h = ap (lacks 10) (sym r) ∙ (and_parts (lacks 10 p) true h).0
    go (p ∷ (q ∷ ps)) e w r h = absurd (cons-nil p (pieces_before (q ∷ ps)) w)
      where
        cons-nil : (x : List ℕ) (xs : List (List ℕ)) → x ∷ xs ≡ [] → ⊥
        cons-nil x xs e = absurd (let n : length (x ∷ xs) ≡ 0 = ap length e in omega arith)

-- what is read behind a whole line that the rest begins
read_whole : (rest line more : List ℕ) (s : Standing) (n : ℕ) → lacks 10 rest ≡ true → lacks 10 line ≡ true
    → read_from s n (whole_lines (rest ++ (line ++ (10 ∷ more)))) (rest_of (rest ++ (line ++ (10 ∷ more)))) ≡ read_from s n ((rest ++ line) ∷ whole_lines more) (rest_of more)
read_whole rest line more s n h k =
    let same : rest ++ (line ++ (10 ∷ more)) ≡ (rest ++ line) ++ (10 ∷ more) = sym (append_assoc rest line (10 ∷ more)) in
    let next = next_whole (rest ++ line) more (lacks-both rest line h k) in
    ap (λ b. read_from s n (whole_lines b) (rest_of b)) same ∙ ap (λ ls. read_from s n ls (rest_of ((rest ++ line) ++ (10 ∷ more)))) next.0 ∙ ap (read_from s n ((rest ++ line) ∷ whole_lines more)) next.1

-- a whole line that was taken
pub fed_on : (f : Facts) (r new : Reading) (rest line bytes : List ℕ) (ok : Bool) → IsGoing f r rest bytes → lacks 10 line ≡ true
    → ((t : Standing) → IsAt f r t → TakesLine f (takes t (rest ++ line)) new ok) → ok ≡ true → new.progress.line ≡ r.progress.line + 1 → IsGoing f new [] (bytes ++ (line ++ (10 ∷ [])))
fed_on f r new rest line bytes ok going inside takes_it goes next = go (takes going.standing (rest ++ line)) refl (takes_it going.standing going.at)
  where
    go : (o : Option Standing) → takes going.standing (rest ++ line) ≡ o → TakesLine f o new ok → IsGoing f new [] (bytes ++ (line ++ (10 ∷ [])))
    go None e t = absurd (true≢false (sym goes ∙ t))
    go (Some s) e t = record {
      standing = s;
      at = t.1;
      inside = refl;
      read = λ more.
          ap (λ n. read_from s n (whole_lines more) (rest_of more)) next
          ∙ sym (ap (λ o. elim o [ None ↦ Err r.progress.line | Some u ↦ read_from u (r.progress.line + 1) (whole_lines more) (rest_of more) ]) e)
          ∙ sym (read_whole rest line more going.standing r.progress.line going.inside inside) ∙ going.read (line ++ (10 ∷ more))
          ∙ ap certificate_of (sym (append_assoc bytes (line ++ (10 ∷ [])) more ∙ ap (λ x. bytes ++ x) (append_assoc line (10 ∷ []) more)));
    }

-- a whole line that was not taken
pub fed_stops : (f : Facts) (r new : Reading) (rest line after bytes : List ℕ) (ok : Bool) → IsGoing f r rest bytes → lacks 10 line ≡ true
    → ((t : Standing) → IsAt f r t → TakesLine f (takes t (rest ++ line)) new ok) → ok ≡ false → IsStopped r.progress.line (bytes ++ (line ++ (10 ∷ after)))
fed_stops f r new rest line after bytes ok going inside takes_it stops = go (takes going.standing (rest ++ line)) refl (takes_it going.standing going.at)
  where
    go : (o : Option Standing) → takes going.standing (rest ++ line) ≡ o → TakesLine f o new ok → IsStopped r.progress.line (bytes ++ (line ++ (10 ∷ after)))
    go (Some s) e t = absurd (true≢false (sym t.0 ∙ stops))
    go None e t = λ more.
        ap certificate_of (append_assoc bytes (line ++ (10 ∷ after)) more ∙ ap (λ x. bytes ++ x) (append_assoc line (10 ∷ after) more))
        ∙ sym (going.read (line ++ (10 ∷ (after ++ more)))) ∙ read_whole rest line (after ++ more) going.standing r.progress.line going.inside inside
        ∙ ap (λ o. elim o [ None ↦ Err r.progress.line | Some u ↦ read_from u (r.progress.line + 1) (whole_lines (after ++ more)) (rest_of (after ++ more)) ]) e

-- bytes that end no line, of which as much is kept as tells how the line is read
pub fed_rest : (f : Facts) (r : Reading) (rest left kept bytes : List ℕ) → IsGoing f r rest bytes → lacks 10 left ≡ true → IsKept (rest ++ left) kept → IsGoing f r kept (bytes ++ left)
fed_rest f r rest left kept bytes going inside is =
    let s = going.standing in
    let n = r.progress.line in
    let lack = lacks-both rest left going.inside inside in
    record {
      standing = s;
      at = going.at;
      inside = kept_lacks (rest ++ left) kept is lack;
      read = λ more.
          kept_reads s n (rest ++ left) kept more is lack
          ∙ ap (λ b. read_from s n (whole_lines b) (rest_of b)) (append_assoc rest left more) ∙ going.read (left ++ more) ∙ ap certificate_of (sym (append_assoc bytes left more));
    }

pub fed_begins : (f : Facts) (r : Reading) → IsAt f r begun → r.progress.line ≡ 1 → IsGoing f r [] []
fed_begins f r at line = record { standing = begun; at = at; inside = refl; read = λ more. ap (λ n. read_from begun n (whole_lines more) (rest_of more)) line }

pub stopped_more : (n : ℕ) (bytes piece : List ℕ) → IsStopped n bytes → IsStopped n (bytes ++ piece)
stopped_more n bytes piece h = λ more. ap certificate_of (append_assoc bytes piece more) ∙ h (piece ++ more)

-- the verdict
pub fed_verdict : (f : Facts) (r : Reading) (rest bytes : List ℕ) (v : Verdict) → IsGoing f r rest bytes → ((t : Standing) → IsAt f r t → v ≡ verdict_of f (read_end t.state r.progress.line rest)) → v ≡ verdict_of f (certificate_of bytes)
fed_verdict f r rest bytes v going says =
    let whole : cut 10 rest ≡ rest ∷ [] = cut-whole 10 rest going.inside in
    let s = going.standing in
    let n = r.progress.line in
    let read : read_from s n (whole_lines rest) (rest_of rest) ≡ certificate_of bytes = sym (ap (λ b. read_from s n (whole_lines b) (rest_of b)) (append-nil rest)) ∙ going.read [] ∙ ap certificate_of (append-nil bytes) in
    says s going.at ∙ ap (verdict_of f) (sym (ap (λ ls. read_from s n ls rest) (ap pieces_before whole)) ∙ sym (ap (read_from s n (whole_lines rest)) (ap last_of whole)) ∙ read)

pub stopped_verdict : (f : Facts) (n : ℕ) (bytes : List ℕ) → IsStopped n bytes → Not n reasons.Text ≡ verdict_of f (certificate_of bytes)
stopped_verdict f n bytes h = sym (ap (verdict_of f) (sym (ap certificate_of (append-nil bytes)) ∙ h []))
