-- Bytes are read exactly where they are a text; for others the faulty line is the first that no text begins with.
use Rattle.std.proofs.Common.{ℕ, ◌≡◌, ◌+◌, ◌-◌, ◌<◌, ◌≤◌, arith, refl, sym, ◌∙◌, ap, zero, suc, Bool, true, false, cond, not, ◌&&◌, List, [], ◌∷◌, ◌++◌, append_assoc, append-nil, map, length, take, inl, inr, add-one}
use Rattle.std.specs.Prelude.{◌==◌, Option, Some, None, is_some, Result, Ok, Err}
use Rattle.std.specs.List.{list_all}
use Rattle.std.proofs.lemmas.Bool.{and_parts, and_from, cases_Bool, true≢false}
use Rattle.std.proofs.lemmas.Option.{same_Some, none-some}
use Rattle.std.proofs.lemmas.List.Folds.{list_all-append}
use Rattle.cert_text.specs.declared.lines.Certificate.{Certificate}
use Rattle.cert_text.specs.declared.lines.CertLine.{CertLine}
use Rattle.cert_text.specs.Numbers.{lacks, cut, onto, joined, opt_then}
use Rattle.cert_text.specs.Spelling.{line_of, line_text, in_bounds}
use Rattle.cert_text.specs.declared.named.Named.{Named}
use Rattle.cert_text.specs.Grammar.{State, lines_of, step, and_then, runs, is_shaped, is_named, is_writable}
use Rattle.cert_text.specs.Sharing.{none_named, named, names_then, all_named}
use Rattle.cert_text.specs.Grammar.State.{Begun, Headed, Sized, Chosen, Valued, Cutting, Between, Inside, Loose, After, Over}
use Rattle.cert_text.specs.Text.{fed, IsText, BeginsText, pieces_before, last_of, whole_lines, rest_of, IsFaultyLine, Standing, begun, stands_at, steps, takes, read_over, read_end, read_from, certificate_of}
use Rattle.cert_text.specs.Pieces.{then_stands, run}
use Rattle.cert_text.proofs.NumberLaws.{joined-cut, cut-before, opt_then_is}
use Rattle.cert_text.proofs.SpellingLaws.{line_of-is, line_of-reads, line_lacks_feed}
use Rattle.cert_text.proofs.GrammarLaws.{lines_are, lines_read, read_shaped, begins_lines, finish}

-- ---- lines of bytes

pub cut_some : (sep : ℕ) (bs : List ℕ) → (f : List ℕ) × (fs : List (List ℕ)) × (cut sep bs ≡ f ∷ fs)
cut_some sep [] = ([], [], refl)
cut_some sep (b ∷ bs) = go (b == sep) (cut sep bs)
  where
    go : (t : Bool) (cs : List (List ℕ)) → (f : List ℕ) × (fs : List (List ℕ)) × (cond t ([] ∷ cs) (onto b cs) ≡ f ∷ fs)
    go true cs = ([], cs, refl)
    go false [] = (b ∷ [], [], refl)
    go false (c ∷ cs) = (b ∷ c, cs, refl)

pub next_whole : (line rest : List ℕ) → lacks 10 line ≡ true → (whole_lines (line ++ (10 ∷ rest)) ≡ line ∷ whole_lines rest) × (rest_of (line ++ (10 ∷ rest)) ≡ rest_of rest)
next_whole line rest h =
    let some = cut_some 10 rest in
    let split : cut 10 (line ++ (10 ∷ rest)) ≡ line ∷ (some.0 ∷ some.1) = cut-before 10 line rest h ∙ ap (λ ps. line ∷ ps) some.2 in
    (ap pieces_before split ∙ ap (λ ps. line ∷ pieces_before ps) (sym some.2), ap last_of split ∙ ap last_of (sym some.2))

joined_fed : (p : List ℕ) (ps : List (List ℕ)) → joined 10 (p ∷ ps) ≡ fed (pieces_before (p ∷ ps)) ++ last_of (p ∷ ps)
joined_fed p [] = refl
joined_fed p (q ∷ ps) = ap (λ x. p ++ (10 ∷ x)) (joined_fed q ps) ∙ sym (append_assoc p (10 ∷ fed (pieces_before (q ∷ ps))) (last_of (q ∷ ps)))

-- the lines and the rest are all that there is
pub bytes_split : (bytes : List ℕ) → bytes ≡ fed (whole_lines bytes) ++ rest_of bytes
bytes_split bytes =
    let some = cut_some 10 bytes in
    sym (joined-cut 10 bytes) ∙ ap (joined 10) some.2 ∙ joined_fed some.0 some.1 ∙ ap (λ ps. fed (pieces_before ps) ++ last_of ps) (sym some.2)

pub fed-whole : (ls : List (List ℕ)) (rest : List ℕ) → list_all (lacks 10) ls ≡ true → (whole_lines (fed ls ++ rest) ≡ ls ++ whole_lines rest) × (rest_of (fed ls ++ rest) ≡ rest_of rest)
fed-whole [] rest h = (refl, refl)
fed-whole (l ∷ ls) rest h =
    let parts = and_parts (lacks 10 l) (list_all (lacks 10) ls) h in
    let same : fed (l ∷ ls) ++ rest ≡ l ++ (10 ∷ (fed ls ++ rest)) = append_assoc l (10 ∷ fed ls) rest in
    let here = next_whole l (fed ls ++ rest) parts.0 in
    let later = fed-whole ls rest parts.1 in
    (ap whole_lines same ∙ here.0 ∙ ap (λ x. l ∷ x) later.0, ap rest_of same ∙ here.1 ∙ later.1)

-- no whole line holds a line feed
lacks-onto : (b : ℕ) (cs : List (List ℕ)) → (b == 10) ≡ false → list_all (lacks 10) cs ≡ true → list_all (lacks 10) (onto b cs) ≡ true
lacks-onto b [] h all = and_from (lacks 10 (b ∷ [])) true (and_from (not (b == 10)) true (ap not h) refl) refl
lacks-onto b (c ∷ cs) h all =
    let parts = and_parts (lacks 10 c) (list_all (lacks 10) cs) all in
    and_from (lacks 10 (b ∷ c)) (list_all (lacks 10) cs) (and_from (not (b == 10)) (lacks 10 c) (ap not h) parts.0) parts.1

pub cut_lacks : (bs : List ℕ) → list_all (lacks 10) (cut 10 bs) ≡ true
cut_lacks [] = refl
cut_lacks (b ∷ bs) = elim (cases_Bool (b == 10)) [
  | inl feed ↦ rw feed (cut_lacks bs)
  | inr plain ↦ rw plain (lacks-onto b (cut 10 bs) plain (cut_lacks bs))
]

before_lacks : (ps : List (List ℕ)) → list_all (lacks 10) ps ≡ true → list_all (lacks 10) (pieces_before ps) ≡ true
before_lacks [] h = refl
before_lacks (p ∷ []) h = refl
before_lacks (p ∷ (q ∷ ps)) h =
    let parts = and_parts (lacks 10 p) (list_all (lacks 10) (q ∷ ps)) h in
    and_from (lacks 10 p) (list_all (lacks 10) (pieces_before (q ∷ ps))) parts.0 (before_lacks (q ∷ ps) parts.1)

pub whole_lack : (bytes : List ℕ) → list_all (lacks 10) (whole_lines bytes) ≡ true
whole_lack bytes = before_lacks (cut 10 bytes) (cut_lacks bytes)

take_lacks : (k : ℕ) (ls : List (List ℕ)) → list_all (lacks 10) ls ≡ true → list_all (lacks 10) (take k ls) ≡ true
take_lacks zero ls h = refl
take_lacks (suc k) [] h = refl
take_lacks (suc k) (l ∷ ls) h =
    let parts = and_parts (lacks 10 l) (list_all (lacks 10) ls) h in
    and_from (lacks 10 l) (list_all (lacks 10) (take k ls)) parts.0 (take_lacks k ls parts.1)

-- ---- lines that are taken one after the other

record AreTaken (s t : Standing) (texts : List (List ℕ)) : Type 0 where
  pub lines : List CertLine
  pub spelt : texts ≡ map line_text lines
  pub bounded : list_all in_bounds lines ≡ true
  pub ran : runs s.state lines ≡ Some t.state
  pub named : all_named s.named lines ≡ Some t.named

then_is : (o : Option Standing) (f : Standing → Option Standing) (t : Standing) → then_stands o f ≡ Some t → (u : Standing) × (o ≡ Some u) × (f u ≡ Some t)
then_is None f t h = absurd (none-some t h)
then_is (Some u) f t h = (u, refl, h)

-- both may come
stands_is : (o : Option State) (n : Option Named) (t : Standing) → stands_at o n ≡ Some t → (o ≡ Some t.state) × (n ≡ Some t.named)
stands_is None n t h = absurd (none-some t h)
stands_is (Some s) None t h = absurd (none-some t h)
stands_is (Some s) (Some k) t h = let same = same_Some (record { state = s; named = k }) t h in (ap (λ u. Some u.state) same, ap (λ u. Some u.named) same)

run_is : (texts : List (List ℕ)) (s t : Standing) → run s texts ≡ Some t → AreTaken s t texts
run_is [] s t h = let same = same_Some s t h in record { lines = []; spelt = refl; bounded = refl; ran = ap (λ u. Some u.state) same; named = ap (λ u. Some u.named) same }
run_is (l ∷ ls) s t h =
    let first = then_is (takes s l) (λ u. run u ls) t h in
    let line = opt_then_is (line_of l) (steps s) first.0 first.1 in
    let both = stands_is (step s.state line.0) (named s.named line.0) first.0 line.2 in
    let is = line_of-is l line.0 line.1 in
    let rest = run_is ls first.0 t first.2 in
    record {
      lines = line.0 ∷ rest.lines;
      spelt = ap (λ x. x ∷ ls) is.0 ∙ ap (λ xs. line_text line.0 ∷ xs) rest.spelt;
      bounded = and_from (in_bounds line.0) (list_all in_bounds rest.lines) is.1 rest.bounded;
      ran = ap (λ o. and_then o (λ u. runs u rest.lines)) both.0 ∙ rest.ran;
      named = ap (λ o. names_then o (λ u. all_named u rest.lines)) both.1 ∙ rest.named;
    }

and_then_is : (o : Option State) (f : State → Option State) (t : State) → and_then o f ≡ Some t → (u : State) × (o ≡ Some u) × (f u ≡ Some t)
and_then_is None f t h = absurd (none-some t h)
and_then_is (Some u) f t h = (u, refl, h)

names_then_is : (o : Option Named) (f : Named → Option Named) (t : Named) → names_then o f ≡ Some t → (u : Named) × (o ≡ Some u) × (f u ≡ Some t)
names_then_is None f t h = absurd (none-some t h)
names_then_is (Some u) f t h = (u, refl, h)

run_reads : (lines : List CertLine) (s t : Standing) → list_all in_bounds lines ≡ true → runs s.state lines ≡ Some t.state → all_named s.named lines ≡ Some t.named → run s (map line_text lines) ≡ Some t
run_reads [] s t h r n =
    let one = same_Some s.state t.state r in
    let two = same_Some s.named t.named n in
    ap (λ x. Some (standing x s.named)) one ∙ ap (λ x. Some (standing t.state x)) two
  where
    standing : State → Named → Standing
    standing x k = record { state = x; named = k }
run_reads (l ∷ lines) s t h r n =
    let parts = and_parts (in_bounds l) (list_all in_bounds lines) h in
    let first = and_then_is (step s.state l) (λ u. runs u lines) t.state r in
    let names = names_then_is (named s.named l) (λ u. all_named u lines) t.named n in
    let next : Standing = record { state = first.0; named = names.0 } in
    let here : takes s (line_text l) ≡ Some next =
    ap (λ o. opt_then o (steps s)) (line_of-reads l parts.0) ∙ ap (λ o. stands_at o (named s.named l)) first.1 ∙ ap (stands_at (Some first.0)) names.1 in
    ap (λ o. then_stands o (λ u. run u (map line_text lines))) here ∙ run_reads lines next t parts.1 first.2 names.2

lines_lack : (lines : List CertLine) → list_all in_bounds lines ≡ true → list_all (lacks 10) (map line_text lines) ≡ true
lines_lack [] h = refl
lines_lack (l ∷ lines) h =
    let parts = and_parts (in_bounds l) (list_all in_bounds lines) h in
    and_from (lacks 10 (line_text l)) (list_all (lacks 10) (map line_text lines)) (line_lacks_feed l parts.0) (lines_lack lines parts.1)

pub map-append : (xs ys : List CertLine) → map line_text (xs ++ ys) ≡ map line_text xs ++ map line_text ys
map-append [] ys = refl
map-append (x ∷ xs) ys = ap (λ ls. line_text x ∷ ls) (map-append xs ys)

pub fed-append : (xs ys : List (List ℕ)) → fed (xs ++ ys) ≡ fed xs ++ fed ys
fed-append [] ys = refl
fed-append (x ∷ xs) ys = ap (λ bs. x ++ (10 ∷ bs)) (fed-append xs ys) ∙ sym (append_assoc x (10 ∷ fed xs) (fed ys))

pub run-append : (xs ys : List (List ℕ)) (s : Standing) → run s (xs ++ ys) ≡ then_stands (run s xs) (λ t. run t ys)
run-append [] ys s = refl
run-append (x ∷ xs) ys s = go (takes s x) (run-append xs ys)
  where
    go : (o : Option Standing) → ((t : Standing) → run t (xs ++ ys) ≡ then_stands (run t xs) (λ t. run t ys)) → then_stands o (λ t. run t (xs ++ ys)) ≡ then_stands (then_stands o (λ t. run t xs)) (λ t. run t ys)
    go None rest = refl
    go (Some t) rest = rest t

-- ---- the reader

abbrev then_read : ℕ → List (List ℕ) → List ℕ → Option Standing → Result Certificate ℕ
then_read n lines rest o = elim o [ None ↦ Err n | Some t ↦ read_from t (n + 1) lines rest ]

pub read_ran : (ls : List (List ℕ)) (s t : Standing) (n : ℕ) (rest : List ℕ) → run s ls ≡ Some t → read_from s n ls rest ≡ read_end t.state (n + length ls) rest
read_ran [] s t n rest h = ap (λ u. read_end u.state n rest) (same_Some s t h) ∙ ap (λ m. read_end t.state m rest) (omega arith)
read_ran (l ∷ ls) s t n rest h =
    let first = then_is (takes s l) (λ u. run u ls) t h in
    let count : n + 1 + length ls ≡ n + length (l ∷ ls) = omega arith in
    ap (then_read n ls rest) first.1 ∙ read_ran ls first.0 t (n + 1) rest first.2 ∙ ap (λ m. read_end t.state m rest) count

ok≢err : (c : Certificate) (n : ℕ) → ◌≡◌ {A = Result Certificate ℕ} (Err n) (Ok c) → ⊥
ok≢err c n e = absurd (cc)

over_is : (s : State) (n : ℕ) (c : Certificate) → read_over s n ≡ Ok c → s ≡ Over c
over_is Begun n c h = absurd (ok≢err c n h)
over_is (Headed v) n c h = absurd (ok≢err c n h)
over_is (Sized v p r) n c h = absurd (ok≢err c n h)
over_is (Chosen v p r cs) n c h = absurd (ok≢err c n h)
over_is (Valued v p r cs vs) n c h = absurd (ok≢err c n h)
over_is (Cutting o k) n c h = absurd (ok≢err c n h)
over_is (Between o ls) n c h = absurd (ok≢err c n h)
over_is (Inside o ls ns k) n c h = absurd (ok≢err c n h)
over_is (Loose o ls ns k seen) n c h = absurd (ok≢err c n h)
over_is (After o ls ns) n c h = absurd (ok≢err c n h)
over_is (Over d) n c h = let same : d ≡ c = cc in ap Over same

record IsRead (s : Standing) (ls : List (List ℕ)) (rest : List ℕ) (c : Certificate) : Type 0 where
  pub end : Standing
  pub over : end.state ≡ Over c
  pub ran : run s ls ≡ Some end
  pub whole : rest ≡ []

read_is : (ls : List (List ℕ)) (s : Standing) (n : ℕ) (rest : List ℕ) (c : Certificate) → read_from s n ls rest ≡ Ok c → IsRead s ls rest c
read_is [] s n [] c h = record { end = s; over = over_is s.state n c h; ran = refl; whole = refl }
read_is [] s n (b ∷ bs) c h = absurd (ok≢err c n h)
read_is (l ∷ ls) s n rest c h = go (takes s l) refl (λ t. read_is ls t (n + 1) rest c) h
  where
    go : (o : Option Standing) → o ≡ takes s l → ((t : Standing) → read_from t (n + 1) ls rest ≡ Ok c → IsRead t ls rest c) → then_read n ls rest o ≡ Ok c → IsRead s (l ∷ ls) rest c
    go None e later h = absurd (ok≢err c n h)
    go (Some t) e later h =
        let read = later t h in
        record { end = read.end; over = read.over; ran = ap (λ o. then_stands o (λ u. run u ls)) (sym e) ∙ read.ran; whole = read.whole }

-- where the reader stops at line m: the lines before it are taken, and it is not
record StopsAt (s : Standing) (n m : ℕ) (ls : List (List ℕ)) : Type 0 where
  pub low : n ≤ m
  pub high : m ≤ n + length ls
  pub before : (k : ℕ) → n + k ≤ m → (t : Standing) × (run s (take k ls) ≡ Some t)
  pub here : m < n + length ls → run s (take (m - n + 1) ls) ≡ None

read_stops : (ls : List (List ℕ)) (s : Standing) (n m : ℕ) (rest : List ℕ) → read_from s n ls rest ≡ Err m → StopsAt s n m ls
read_stops [] s n m rest h =
    let same : n ≡ m = end_stops s.state rest h in
    record { low = omega arith; high = omega arith; before = λ k l. (s, take_none k); here = λ l. absurd (omega arith) }
  where
    take_none : (k : ℕ) → run s (take k []) ≡ Some s
    take_none zero = refl
    take_none (suc k) = refl

    over_stops : (t : State) → read_over t n ≡ Err m → n ≡ m
    over_stops Begun e = cc
    over_stops (Headed v) e = cc
    over_stops (Sized v p r) e = cc
    over_stops (Chosen v p r cs) e = cc
    over_stops (Valued v p r cs vs) e = cc
    over_stops (Cutting o k) e = cc
    over_stops (Between o us) e = cc
    over_stops (Inside o us ns k) e = cc
    over_stops (Loose o us ns k seen) e = cc
    over_stops (After o us ns) e = cc
    over_stops (Over c) e = absurd (cc)

    end_stops : (t : State) (bs : List ℕ) → read_end t n bs ≡ Err m → n ≡ m
    end_stops t [] e = over_stops t e
    end_stops t (b ∷ bs) e = cc
read_stops (l ∷ ls) s n m rest h = go (takes s l) refl (λ t. read_stops ls t (n + 1) m rest) h
  where
    go : (o : Option Standing) → o ≡ takes s l → ((t : Standing) → read_from t (n + 1) ls rest ≡ Err m → StopsAt t (n + 1) m ls) → then_read n ls rest o ≡ Err m → StopsAt s n m (l ∷ ls)
    go None e later h =
        let same : n ≡ m = cc in
        let first : (k : ℕ) → k ≡ 1 → run s (take k (l ∷ ls)) ≡ None = λ k is. rw is (ap (λ o. then_stands o (λ u. run u [])) (sym e)) in
        record { low = omega arith; high = omega arith; before = λ k j. only k (omega arith); here = λ j. first (m - n + 1) (omega arith) }
      where
        only : (k : ℕ) → k ≤ 0 → (t : Standing) × (run s (take k (l ∷ ls)) ≡ Some t)
        only zero j = (s, refl)
        only (suc k) j = absurd (omega arith)
    go (Some t) e later h =
        let stops = later t h in
        record { low = omega (arith, stops.low); high = omega (arith, stops.high); before = earlier stops; here = λ j. found stops (m - n) (omega (arith, stops.low)) j }
      where
        earlier : StopsAt t (n + 1) m ls → (k : ℕ) → n + k ≤ m → (u : Standing) × (run s (take k (l ∷ ls)) ≡ Some u)
        earlier stops zero j = (s, refl)
        earlier stops (suc k) j =
            let r = stops.before k (omega arith) in
            (r.0, ap (λ o. then_stands o (λ u. run u (take k ls))) (sym e) ∙ r.1)

        found : StopsAt t (n + 1) m ls → (d : ℕ) → d ≡ m - n → m < n + length (l ∷ ls) → run s (take (d + 1) (l ∷ ls)) ≡ None
        found stops d is j =
            let shift : d ≡ m - (n + 1) + 1 = omega (arith, stops.low) in
            ap (λ k. run s (take k (l ∷ ls))) (add-one d) ∙ ap (λ o. then_stands o (λ u. run u (take d ls))) (sym e) ∙ ap (λ k. run t (take k ls)) shift ∙ stops.here (omega arith)

-- ---- texts

pub record IsWritable (c : Certificate) : Type 0 where
  pub shaped : is_shaped c ≡ true
  pub end : Named
  pub named : all_named (none_named 0) (lines_of c) ≡ Some end
  pub bounded : list_all in_bounds (lines_of c) ≡ true

some_is : {A : Type 0} (o : Option A) → is_some o ≡ true → (x : A) × (o ≡ Some x)
some_is None h = absurd (true≢false (sym h))
some_is (Some x) h = (x, refl)

pub writable_is : (c : Certificate) → is_writable c ≡ true → IsWritable c
writable_is c h =
    let parts = and_parts (is_shaped c) (is_named c && list_all in_bounds (lines_of c)) h in
    let rest = and_parts (is_named c) (list_all in_bounds (lines_of c)) parts.1 in
    let named = some_is (all_named (none_named 0) (lines_of c)) rest.0 in
    record { shaped = parts.0; end = named.0; named = named.1; bounded = rest.1 }

pub writable_from : (c : Certificate) (end : Named) → is_shaped c ≡ true → all_named (none_named 0) (lines_of c) ≡ Some end → list_all in_bounds (lines_of c) ≡ true → is_writable c ≡ true
writable_from c end shaped named bounded = and_from (is_shaped c) (is_named c && list_all in_bounds (lines_of c)) shaped (and_from (is_named c) (list_all in_bounds (lines_of c)) (ap is_some named) bounded)

-- the text of a certificate inside the bounds is read as it
pub text_reads : (bytes : List ℕ) (c : Certificate) → IsText bytes c → certificate_of bytes ≡ Ok c
text_reads bytes c is =
    let parts = writable_is c is.bounded in
    let lines = map line_text (lines_of c) in
    let padded : bytes ≡ fed lines ++ [] = is.same ∙ sym (append-nil (fed lines)) in
    let split = fed-whole lines [] (lines_lack (lines_of c) parts.bounded) in
    let whole : whole_lines bytes ≡ lines = ap whole_lines padded ∙ split.0 ∙ append-nil lines in
    let rest : rest_of bytes ≡ [] = ap rest_of padded ∙ split.1 in
    let end : Standing = record { state = Over c; named = parts.end } in
    let ran : run begun lines ≡ Some end = run_reads (lines_of c) begun end parts.bounded (lines_read c parts.shaped) parts.named in
    ap (λ ls. read_from begun 1 ls (rest_of bytes)) whole ∙ ap (read_from begun 1 lines) rest ∙ read_ran lines begun end 1 [] ran

-- and what is read is the text of the certificate that was read
pub text_is : (bytes : List ℕ) (c : Certificate) → certificate_of bytes ≡ Ok c → IsText bytes c
text_is bytes c h =
    let read = read_is (whole_lines bytes) begun 1 (rest_of bytes) c h in
    let taken = run_is (whole_lines bytes) begun read.end read.ran in
    let ran : runs Begun taken.lines ≡ Some (Over c) = taken.ran ∙ ap Some read.over in
    let same : taken.lines ≡ lines_of c = lines_are taken.lines c ran in
    record {
      bounded = writable_from c read.end.named (read_shaped taken.lines c ran) (ap (all_named (none_named 0)) (sym same) ∙ taken.named) (ap (list_all in_bounds) (sym same) ∙ taken.bounded);
      same =
          bytes_split bytes ∙ ap (λ r. fed (whole_lines bytes) ++ r) read.whole ∙ append-nil (fed (whole_lines bytes))
          ∙ ap fed (taken.spelt ∙ ap (map line_text) same);
    }

-- lines that are taken begin a text
pub taken_begin : (texts : List (List ℕ)) (s : Standing) → run begun texts ≡ Some s → BeginsText (fed texts)
taken_begin texts s h =
    let taken = run_is texts begun s h in
    let end = begins_lines taken.lines s.state s.named taken.ran taken.named in
    let last = finish s.named s.state in
    let all = taken.lines ++ last in
    let same : all ≡ lines_of end.certificate = lines_are all end.certificate end.ran in
    record {
      rest = fed (map line_text last);
      certificate = end.certificate;
      text = record {
        bounded = writable_from end.certificate end.behind (read_shaped all end.certificate end.ran) (ap (all_named (none_named 0)) (sym same) ∙ end.named)
            (ap (list_all in_bounds) (sym same) ∙ list_all-append in_bounds taken.lines last ∙ and_from (list_all in_bounds taken.lines) (list_all in_bounds last) taken.bounded end.bounded);
        same =
            ap (λ x. fed x ++ fed (map line_text last)) taken.spelt
            ∙ sym (fed-append (map line_text taken.lines) (map line_text last))
            ∙ ap fed (sym (map-append taken.lines last))
            ∙ ap (λ x. fed (map line_text x)) same;
      };
    }

-- and lines that begin a text are taken
begun_taken : (texts : List (List ℕ)) → list_all (lacks 10) texts ≡ true → BeginsText (fed texts) → run begun texts ≡ None → ⊥
begun_taken texts lack begins none =
    let c = begins.certificate in
    let read = read_is (whole_lines (fed texts ++ begins.rest)) begun 1 (rest_of (fed texts ++ begins.rest)) c (text_reads (fed texts ++ begins.rest) c begins.text) in
    let split = fed-whole texts begins.rest lack in
    let ran : run begun (texts ++ whole_lines begins.rest) ≡ Some read.end = ap (run begun) (sym split.0) ∙ read.ran in
    none-some read.end (sym (run-append texts (whole_lines begins.rest) begun ∙ ap (λ o. then_stands o (λ t. run t (whole_lines begins.rest))) none) ∙ ran)

pub fault_is : (bytes : List ℕ) (n : ℕ) → certificate_of bytes ≡ Err n → IsFaultyLine bytes n
fault_is bytes n h =
    let ls = whole_lines bytes in
    let stops = read_stops ls begun 1 n (rest_of bytes) h in
    record {
      low = stops.low;
      high = omega (arith, stops.high);
      before = λ k l. let r = stops.before k (omega (arith, stops.low)) in taken_begin (take k ls) r.0 r.1;
      here = λ l begins.
          let count : n - 1 + 1 ≡ n = omega (arith, stops.low) in
          begun_taken (take n ls) (take_lacks n ls (whole_lack bytes)) begins (ap (λ k. run begun (take k ls)) (sym count) ∙ stops.here (omega arith));
      no_text = λ c is. ok≢err c n (sym h ∙ text_reads bytes c is);
    }

pub one_certificate : (bytes : List ℕ) (c d : Certificate) → IsText bytes c → IsText bytes d → c ≡ d
one_certificate bytes c d p q =
    let same : ◌≡◌ {A = Result Certificate ℕ} (Ok c) (Ok d) = sym (text_reads bytes c p) ∙ text_reads bytes d q in
    cc
