-- A step by counts, and what the line adds, are the step of the text.
use Rattle.std.proofs.Common.{ℕ, ◌≡◌, ◌+◌, ◌-◌, ◌<◌, ◌≤◌, arith, refl, sym, ◌∙◌, ap, zero, suc, Bool, true, false, cond, List, [], ◌∷◌, ◌++◌, length, subst, length-append, add-one}
use Rattle.std.specs.Prelude.{◌==◌, nat_lt, Option, Some, None, Result, Ok, Err, IfOk, IfErr, MatchResult}
use Rattle.std.proofs.lemmas.Bool.{and_parts, ne_eqb, lt-ltb, ltb-true, true≢false}
use Rattle.input_core.specs.declared.faults.LineKind.TheVariants as kinds
use Rattle.input_core.specs.declared.faults.TextFault.{TextFault}
use Rattle.input_core.specs.declared.faults.TextFault.TheVariants.{Line}
use Rattle.duality.specs.declared.leaf.Node.{Node as SearchNode}
use Rattle.duality.specs.declared.leaf.Node.TheVariants.{Branch, Leaf as Closing, OpenEnd, Same}
use Rattle.cert_text.specs.declared.lines.Tree.{Tree}
use Rattle.cert_text.specs.declared.lines.Certificate.{Certificate}
use Rattle.cert_text.specs.declared.lines.CertLine.{CertLine}
use Rattle.cert_text.specs.declared.lines.CertLine.TheVariants as lines
use Rattle.cert_text.specs.declared.place.Place.{Place}
use Rattle.cert_text.specs.declared.place.Place.TheVariants.{Head, Sizes, Choice, Values, Cuts, Cutting, Between, Inside, Loose, After, Over}
use Rattle.cert_text.specs.declared.reader.Reader.{Reader}
use Rattle.cert_text.specs.Grammar.{State, opening_of, with_levels, with_cut, tree_of, step, may_begin}
use Rattle.cert_text.specs.Grammar.State.{Between as SBetween, Inside as SInside, Loose as SLoose, Over as SOver, Cutting as SCutting}
use Rattle.cert_text.specs.Places.{follows, cuts_left}
use Rattle.cert_text.specs.declared.named.Named.{Named}
use Rattle.cert_text.specs.Sharing.{named, TookName}
use Rattle.cert_text.specs.Reading.{state_at, state_of, standing_of, nodes_of, IsSound, IsSoundReader, Took, IsTextFault}
use Rattle.cert_text.specs.Adding.{certificate_with, nodes_with}
use Rattle.cert_text.specs.Text.{IsText, whole_lines, rest_of, Standing, stands_at, steps, takes, read_end, read_from, certificate_of}
use Rattle.cert_text.proofs.TextLaws.{text_is, fault_is}

abbrev Tells : Option State → CertLine → Certificate → List SearchNode → Option Place → Type 0
Tells r line c ns None = r ≡ None
Tells r line c ns (Some q) = (r ≡ Some (state_at q (certificate_with line q c ns) (nodes_with line q ns))) × IsSound q (certificate_with line q c ns) (nodes_with line q ns)

tells_if : (b : Bool) (s : State) (line : CertLine) (c : Certificate) (ns : List SearchNode) (q : Place) → (b ≡ true → Tells (Some s) line c ns (Some q)) → Tells (cond b (Some s) None) line c ns (cond b (Some q) None)
tells_if true s line c ns q h = h refl
tells_if false s line c ns q h = refl

some_left : (k : ℕ) → Some (cuts_left (suc k)) ≡ Some (Cutting k)
some_left k = ap Some (rw (ne_eqb (suc k) 0 (λ e. absurd (omega arith))) (ap Cutting (omega arith)))

begun : (j : ℕ) (ls : List Tree) → may_begin j ls ≡ true → length ls < 6
begun j ls h = ltb-true (length ls) 6 (and_parts (j == length ls + 1) (nat_lt (length ls) 6) h).1

one_more : (ns : List SearchNode) (n : SearchNode) (k : ℕ) → k ≤ length ns → k + 1 ≤ length (ns ++ (n ∷ []))
one_more ns n k l = omega (arith, length-append ns (n ∷ []))

one_less : (ns : List SearchNode) (n : SearchNode) (k : ℕ) → suc k ≤ length ns → k ≤ length (ns ++ (n ∷ []))
one_less ns n k l = omega (arith, length-append ns (n ∷ []))

loose_left : (levels k : ℕ) (seen end : Bool) → ◌≡◌ {A = Option Place} (cond (nat_lt 0 (suc k)) (Some (Loose levels (suc k - 1) seen)) (cond end (Some (After levels)) None)) (Some (Loose levels k seen))
loose_left levels k seen end = rw (lt-ltb 0 (suc k) (omega arith)) (ap (λ n. Some (Loose levels n seen)) (omega arith))

took : (p : Place) (line : CertLine) (c : Certificate) (ns : List SearchNode) → IsSound p c ns → Tells (step (state_at p c ns) line) line c ns (follows p line)
took Head (lines.Head v) c ns h = (refl, record { counted = omega arith; wanted = omega arith; fits = record { cuts = h.fits.cuts; levels = h.fits.levels; unfinished = h.fits.unfinished } })
took Sizes (lines.Sizes p r) c ns h = (refl, record { counted = omega arith; wanted = omega arith; fits = record { cuts = h.fits.cuts; levels = h.fits.levels; unfinished = h.fits.unfinished } })
took Choice (lines.Choice es) c ns h = (refl, record { counted = omega arith; wanted = omega arith; fits = record { cuts = h.fits.cuts; levels = h.fits.levels; unfinished = h.fits.unfinished } })
took Values (lines.Values vs) c ns h = (refl, record { counted = omega arith; wanted = omega arith; fits = record { cuts = h.fits.cuts; levels = h.fits.levels; unfinished = h.fits.unfinished } })
took Cuts (lines.Cuts zero) c ns h = (
  ap (λ cs. Some (SBetween (record { version = c.version; patterns = c.patterns; rows = c.rows; choice = c.choice; values = c.values; cuts = cs }) [])) (sym h.fits.cuts) ∙ ap (λ ls. Some (SBetween (opening_of c) ls)) (sym h.fits.levels),
  record { counted = omega arith; wanted = omega arith; fits = record { count = sym (ap length h.fits.levels); unfinished = h.fits.unfinished } },
)
took Cuts (lines.Cuts (suc k)) c ns h =
    subst (Tells (step (state_at Cuts c ns) (lines.Cuts (suc k))) (lines.Cuts (suc k)) c ns) (sym (some_left k)) (
      ap (λ cs. Some (SCutting (record { version = c.version; patterns = c.patterns; rows = c.rows; choice = c.choice; values = c.values; cuts = cs }) k)) (sym h.fits.cuts),
      record { counted = omega arith; wanted = omega arith; fits = record { levels = h.fits.levels; unfinished = h.fits.unfinished } },
    )
took (Cutting zero) (lines.Cut ps) c ns h = (
  ap (λ ls. Some (SBetween (with_cut ps (opening_of c)) ls)) (sym h.fits.levels),
  record { counted = omega arith; wanted = omega arith; fits = record { count = sym (ap length h.fits.levels); unfinished = h.fits.unfinished } },
)
took (Cutting (suc k)) (lines.Cut ps) c ns h =
    subst (Tells (step (state_at (Cutting (suc k)) c ns) (lines.Cut ps)) (lines.Cut ps) c ns) (sym (some_left k))
    (refl, record { counted = omega arith; wanted = omega arith; fits = record { levels = h.fits.levels; unfinished = h.fits.unfinished } })
took (Between levels) (lines.Level j) c ns h =
    subst (λ n. Tells (step (state_at (Between levels) c ns) (lines.Level j)) (lines.Level j) c ns (follows (Between n) (lines.Level j))) (sym h.fits.count)
    (tells_if (may_begin j c.levels) (SInside (opening_of c) c.levels [] 0) (lines.Level j) c ns (Inside (length c.levels) 0) (λ e.
    let few = begun j c.levels e in
    (refl, record { counted = omega arith; wanted = omega arith; fits = record { count = refl; unfinished = h.fits.unfinished; few = few } })))
took (Between levels) (lines.Unfinished j) c ns h =
    subst (λ n. Tells (step (state_at (Between levels) c ns) (lines.Unfinished j)) (lines.Unfinished j) c ns (follows (Between n) (lines.Unfinished j))) (sym h.fits.count)
    (tells_if (may_begin j c.levels) (SLoose (opening_of c) c.levels [] 0 false) (lines.Unfinished j) c ns (Loose (length c.levels) 0 false) (λ e.
    let few = begun j c.levels e in
    (refl, record { counted = omega arith; wanted = omega arith; fits = record { count = refl; unfinished = h.fits.unfinished; few = few } })))
took (Between levels) (lines.End j) c ns h =
    let few : length c.levels < 7 = omega (arith, h.counted, h.fits.count) in
    subst (λ n. Tells (step (state_at (Between levels) c ns) (lines.End j)) (lines.End j) c ns (follows (Between n) (lines.End j))) (sym h.fits.count)
    (tells_if (j == length c.levels) (SOver (with_levels (opening_of c) c.levels None)) (lines.End j) c ns (Over (length c.levels)) (λ e.
    (ap (λ u. Some (SOver (with_levels (opening_of c) c.levels u))) (sym h.fits.unfinished), record { counted = few; wanted = omega arith; fits = tt })))
took (Inside levels wanted) (lines.Node (Branch p)) c ns h =
    let few = h.fits.few in (
      ap (λ k. Some (SInside (opening_of c) c.levels (ns ++ (Branch p ∷ [])) k)) (sym (add-one wanted)),
      record { counted = omega arith; wanted = one_more ns (Branch p) wanted h.wanted; fits = record { count = h.fits.count; unfinished = h.fits.unfinished; few = few } },
    )
took (Inside levels zero) (lines.Node (Closing leaf)) c ns h =
    let few = h.fits.few in
    let t = tree_of (ns ++ (Closing leaf ∷ [])) in
    (refl, record { counted = omega arith; wanted = omega arith; fits = record { count = omega (arith, h.fits.count, length-append c.levels (t ∷ [])); unfinished = h.fits.unfinished } })
took (Inside levels (suc k)) (lines.Node (Closing leaf)) c ns h =
    let few = h.fits.few in
    let back : ◌≡◌ {A = Option Place} (cond (suc k == 0) (Some (Between (levels + 1))) (Some (Inside levels (suc k - 1)))) (Some (Inside levels k)) = rw (ne_eqb (suc k) 0 (λ e. absurd (omega arith))) (ap (λ n. Some (Inside levels n)) (omega arith)) in
    subst (Tells (step (state_at (Inside levels (suc k)) c ns) (lines.Node (Closing leaf))) (lines.Node (Closing leaf)) c ns) (sym back)
    (refl, record { counted = omega arith; wanted = one_less ns (Closing leaf) k h.wanted; fits = record { count = h.fits.count; unfinished = h.fits.unfinished; few = few } })
took (Inside levels zero) (lines.Node (Same p)) c ns h =
    let few = h.fits.few in
    let t = tree_of (ns ++ (Same p ∷ [])) in
    (refl, record { counted = omega arith; wanted = omega arith; fits = record { count = omega (arith, h.fits.count, length-append c.levels (t ∷ [])); unfinished = h.fits.unfinished } })
took (Inside levels (suc k)) (lines.Node (Same p)) c ns h =
    let few = h.fits.few in
    let back : ◌≡◌ {A = Option Place} (cond (suc k == 0) (Some (Between (levels + 1))) (Some (Inside levels (suc k - 1)))) (Some (Inside levels k)) = rw (ne_eqb (suc k) 0 (λ e. absurd (omega arith))) (ap (λ n. Some (Inside levels n)) (omega arith)) in
    subst (Tells (step (state_at (Inside levels (suc k)) c ns) (lines.Node (Same p))) (lines.Node (Same p)) c ns) (sym back)
    (refl, record { counted = omega arith; wanted = one_less ns (Same p) k h.wanted; fits = record { count = h.fits.count; unfinished = h.fits.unfinished; few = few } })
took (Inside levels wanted) (lines.Node OpenEnd) c ns h = refl
took (Loose levels wanted seen) (lines.Node (Branch p)) c ns h =
    let few = h.fits.few in (
      ap (λ k. Some (SLoose (opening_of c) c.levels (ns ++ (Branch p ∷ [])) k seen)) (sym (add-one wanted)),
      record { counted = omega arith; wanted = one_more ns (Branch p) wanted h.wanted; fits = record { count = h.fits.count; unfinished = h.fits.unfinished; few = few } },
    )
took (Loose levels zero true) (lines.Node (Closing leaf)) c ns h =
    let few = h.fits.few in
    (refl, record { counted = omega arith; wanted = omega arith; fits = record { count = h.fits.count; unfinished = (tree_of (ns ++ (Closing leaf ∷ [])), refl) } })
took (Loose levels zero false) (lines.Node (Closing leaf)) c ns h = refl
took (Loose levels (suc k) seen) (lines.Node (Closing leaf)) c ns h =
    let few = h.fits.few in
    subst (Tells (step (state_at (Loose levels (suc k) seen) c ns) (lines.Node (Closing leaf))) (lines.Node (Closing leaf)) c ns) (sym (loose_left levels k seen seen))
    (refl, record { counted = omega arith; wanted = one_less ns (Closing leaf) k h.wanted; fits = record { count = h.fits.count; unfinished = h.fits.unfinished; few = few } })
took (Loose levels zero true) (lines.Node (Same p)) c ns h =
    let few = h.fits.few in
    (refl, record { counted = omega arith; wanted = omega arith; fits = record { count = h.fits.count; unfinished = (tree_of (ns ++ (Same p ∷ [])), refl) } })
took (Loose levels zero false) (lines.Node (Same p)) c ns h = refl
took (Loose levels (suc k) seen) (lines.Node (Same p)) c ns h =
    let few = h.fits.few in
    subst (Tells (step (state_at (Loose levels (suc k) seen) c ns) (lines.Node (Same p))) (lines.Node (Same p)) c ns) (sym (loose_left levels k seen seen))
    (refl, record { counted = omega arith; wanted = one_less ns (Same p) k h.wanted; fits = record { count = h.fits.count; unfinished = h.fits.unfinished; few = few } })
took (Loose levels zero seen) (lines.Node OpenEnd) c ns h =
    let few = h.fits.few in
    (refl, record { counted = omega arith; wanted = omega arith; fits = record { count = h.fits.count; unfinished = (tree_of (ns ++ (OpenEnd ∷ [])), refl) } })
took (Loose levels (suc k) seen) (lines.Node OpenEnd) c ns h =
    let few = h.fits.few in
    subst (Tells (step (state_at (Loose levels (suc k) seen) c ns) (lines.Node OpenEnd)) (lines.Node OpenEnd) c ns) (sym (open_left levels k))
    (refl, record { counted = omega arith; wanted = one_less ns OpenEnd k h.wanted; fits = record { count = h.fits.count; unfinished = h.fits.unfinished; few = few } })
  where
    open_left : (levels k : ℕ) → ◌≡◌ {A = Option Place} (cond (nat_lt 0 (suc k)) (Some (Loose levels (suc k - 1) true)) (Some (After levels))) (Some (Loose levels k true))
    open_left levels k = rw (lt-ltb 0 (suc k) (omega arith)) (ap (λ n. Some (Loose levels n true)) (omega arith))
took (After levels) (lines.End j) c ns h =
    let few : length c.levels < 7 = omega (arith, h.counted, h.fits.count) in
    let t = h.fits.unfinished.0 in
    let same : Some (tree_of (nodes_of c.unfinished)) ≡ c.unfinished = ap (λ u. Some (tree_of (nodes_of u))) h.fits.unfinished.1 ∙ sym h.fits.unfinished.1 in
    subst (λ n. Tells (step (state_at (After levels) c ns) (lines.End j)) (lines.End j) c ns (follows (After n) (lines.End j))) (sym h.fits.count)
    (tells_if (j == length c.levels) (SOver (with_levels (opening_of c) c.levels (Some (tree_of (nodes_of c.unfinished))))) (lines.End j) c ns (Over (length c.levels)) (λ e.
    (ap (λ u. Some (SOver (with_levels (opening_of c) c.levels u))) same, record { counted = few; wanted = omega arith; fits = tt })))
took p line c ns h = refl

-- the reader behind a line that was taken
pub took_line : (old new : Reader) (line : CertLine) (q : Place) (k : Named) → IsSoundReader old → follows old.place line ≡ Some q → named old.named line ≡ Some k
    → new.place ≡ q → new.certificate ≡ certificate_with line q old.certificate old.nodes → new.nodes ≡ nodes_with line q old.nodes → new.named ≡ k
    → Took (steps (standing_of old) line) (standing_of new) true × IsSoundReader new
took_line old new line q k sound may names place certificate nodes kept =
    let tells = subst (Tells (step (state_of old) line) line old.certificate old.nodes) may (took old.place line old.certificate old.nodes sound) in
    let same : state_of new ≡ state_at q (certificate_with line q old.certificate old.nodes) (nodes_with line q old.nodes) =
    ap (λ p. state_at p new.certificate new.nodes) place ∙ ap (λ c. state_at q c new.nodes) certificate ∙ ap (state_at q (certificate_with line q old.certificate old.nodes)) nodes in
    let both : steps (standing_of old) line ≡ Some (standing_of new) =
    ap (λ o. stands_at o (named old.named line)) (tells.0 ∙ ap Some (sym same)) ∙ ap (stands_at (Some (state_of new))) (names ∙ ap Some (sym kept)) in (
      subst (λ o. Took o (standing_of new) true) (sym both) (refl, refl),
      subst (λ p. IsSound p new.certificate new.nodes) (sym place) (subst (λ c. IsSound q c new.nodes) (sym certificate) (subst (λ ns. IsSound q (certificate_with line q old.certificate old.nodes) ns) (sym nodes) tells.1)),
    )

no_step : (o : Option State) (k : Option Named) → o ≡ None → stands_at o k ≡ None
no_step o k e = ap (λ x. stands_at x k) e

pub took_none : (old : Reader) (line : CertLine) → IsSoundReader old → follows old.place line ≡ None → steps (standing_of old) line ≡ None
took_none old line sound may = no_step (step (state_of old) line) (named old.named line) (subst (Tells (step (state_of old) line) line old.certificate old.nodes) may (took old.place line old.certificate old.nodes sound))

no_name : (o : Option State) → stands_at o None ≡ None
no_name None = refl
no_name (Some s) = refl

-- a line that names what may not be named
pub named_none : (old new : Reader) (line : CertLine) → named old.named line ≡ None → Took (steps (standing_of old) line) (standing_of new) false
named_none old new line h = subst (λ o. Took o (standing_of new) false) (sym (ap (stands_at (step (state_of old) line)) h ∙ no_name (step (state_of old) line))) refl

pub not_named : (o : Option Named) (k : Named) (ok : Bool) → TookName o k ok → ok ≡ false → o ≡ None
not_named None k ok h e = refl
not_named (Some n) k ok h e = absurd (true≢false (sym h.0 ∙ e))

is_named : (o : Option Named) (k : Named) (ok : Bool) → TookName o k ok → ok ≡ true → o ≡ Some k
is_named None k ok h e = absurd (true≢false (sym e ∙ h))
is_named (Some n) k ok h e = ap Some (sym h.1)

pub name_stops : (old new : Reader) (line : CertLine) (k : Named) (ok : Bool) → TookName (named old.named line) k ok → ok ≡ false → Took (steps (standing_of old) line) (standing_of new) false
name_stops old new line k ok h e = named_none old new line (not_named (named old.named line) k ok h e)

pub name_goes : (o : Option Named) (k : Named) (ok : Bool) → TookName o k ok → ok ≡ true → o ≡ Some k
name_goes o k ok h e = is_named o k ok h e

-- ---- the whole reader

abbrev fault_line : ℕ → TextFault
fault_line n = Line (record { line = n; kind = kinds.Text })

not_taken : (o : Option Standing) (s : Standing) (ok : Bool) → Took o s ok → ok ≡ false → o ≡ None
not_taken None s ok h e = refl
not_taken (Some t) s ok h e = absurd (true≢false (sym h.0 ∙ e))

faulty_at : (bytes : List ℕ) (n : ℕ) (e : TextFault) → certificate_of bytes ≡ Err n → e ≡ fault_line n → IsTextFault bytes e
faulty_at bytes n e h is = subst (IsTextFault bytes) (sym is) (fault_is bytes n h, refl)

-- a line that was not taken is the faulty one
pub stops_here : (bytes : List ℕ) (s t : Standing) (n : ℕ) (ok : Bool) (e : TextFault) (line : List ℕ) (more : List (List ℕ)) (here : List (List ℕ)) (rest : List ℕ)
    → read_from s n here rest ≡ certificate_of bytes → here ≡ line ∷ more → Took (takes s line) t ok → ok ≡ false → e ≡ fault_line n → IsTextFault bytes e
stops_here bytes s t n ok e line more here rest read split took_it no_line is =
    faulty_at bytes n e (sym read ∙ ap (λ ls. read_from s n ls rest) split ∙ ap (λ o. elim o [ None ↦ Err n | Some u ↦ read_from u (n + 1) more rest ]) (not_taken (takes s line) t ok took_it no_line)) is

-- behind the last whole line
at_end : (bytes rest : List ℕ) (s : Standing) (n : ℕ) → read_from s n (whole_lines rest) (rest_of rest) ≡ certificate_of bytes → whole_lines rest ≡ [] → rest_of rest ≡ rest → certificate_of bytes ≡ read_end s.state n rest
at_end bytes rest s n read none same = sym read ∙ ap (λ ls. read_from s n ls (rest_of rest)) none ∙ ap (read_end s.state n) same

pub ends_ok : (bytes rest : List ℕ) (s : Standing) (n : ℕ) (r : Result Certificate TextFault) → read_from s n (whole_lines rest) (rest_of rest) ≡ certificate_of bytes → whole_lines rest ≡ [] → rest_of rest ≡ rest → MatchResult r (λ c. read_end s.state n rest ≡ Ok c) (λ e. (read_end s.state n rest ≡ Err n) × (e ≡ Line (record { line = n; kind = kinds.Text }))) → IfOk r (IsText bytes)
ends_ok bytes rest s n (Ok c) read none same h = text_is bytes c (at_end bytes rest s n read none same ∙ h)
ends_ok bytes rest s n (Err e) read none same h = tt

pub ends_err : (bytes rest : List ℕ) (s : Standing) (n : ℕ) (r : Result Certificate TextFault) → read_from s n (whole_lines rest) (rest_of rest) ≡ certificate_of bytes → whole_lines rest ≡ [] → rest_of rest ≡ rest → MatchResult r (λ c. read_end s.state n rest ≡ Ok c) (λ e. (read_end s.state n rest ≡ Err n) × (e ≡ Line (record { line = n; kind = kinds.Text }))) → IfErr r (IsTextFault bytes)
ends_err bytes rest s n (Ok c) read none same h = tt
ends_err bytes rest s n (Err e) read none same h = faulty_at bytes n e (at_end bytes rest s n read none same ∙ h.0) h.1

is_taken : (o : Option Standing) (s : Standing) (ok : Bool) → Took o s ok → ok ≡ true → o ≡ Some s
is_taken None s ok h e = absurd (true≢false (sym e ∙ h))
is_taken (Some t) s ok h e = ap Some (sym h.1)

-- a line that was taken
pub goes_on : (bytes : List ℕ) (s t : Standing) (n : ℕ) (ok : Bool) (line : List ℕ) (here more : List (List ℕ)) (before rest : List ℕ)
    → read_from s n here before ≡ certificate_of bytes → here ≡ line ∷ more → before ≡ rest → Took (takes s line) t ok → ok ≡ true → read_from t (n + 1) more rest ≡ certificate_of bytes
goes_on bytes s t n ok line here more before rest read split same took_it goes =
    sym (ap (λ o. elim o [ None ↦ Err n | Some u ↦ read_from u (n + 1) more rest ]) (is_taken (takes s line) t ok took_it goes))
    ∙ sym (ap (λ r. read_from s n (line ∷ more) r) same) ∙ sym (ap (λ ls. read_from s n ls before) split) ∙ read
