-- The bytes of a certificate, and the first faulty line of other bytes.
use Rattle.std.specs.Prelude.{ℕ, ◌≡◌, ◌+◌, ◌<◌, ◌≤◌, true, Option, Some, None, Result, Ok, Err, List, [], ◌∷◌, ◌++◌, length, map, take}
use Rattle.cert_text.specs.declared.lines.Certificate.{Certificate}
use Rattle.cert_text.specs.declared.lines.CertLine.{CertLine}
use Rattle.cert_text.specs.Numbers.{cut, opt_then}
use Rattle.cert_text.specs.Spelling.{line_of, line_text}
use Rattle.cert_text.specs.Grammar.{State, lines_of, step, is_writable}
use Rattle.cert_text.specs.declared.named.Named.{Named}
use Rattle.cert_text.specs.Sharing.{none_named, named}
use Rattle.cert_text.specs.Grammar.State.{Begun, Headed, Sized, Chosen, Valued, Cutting, Between, Inside, Loose, After, Over}

-- lines, each with its line feed
abbrev pub fed : List (List ℕ) → List ℕ
fed [] = []
fed (l ∷ ls) = l ++ (10 ∷ fed ls)

-- the bytes that are written for a certificate
abbrev pub text_of : Certificate → List ℕ
text_of c = fed (map line_text (lines_of c))

-- the bytes are the text of a certificate inside the bounds
pub record IsText (bytes : List ℕ) (c : Certificate) : Type 0 where
  pub bounded : is_writable c ≡ true
  pub same : bytes ≡ text_of c

-- some text begins with the bytes
pub record BeginsText (bytes : List ℕ) : Type 0 where
  pub rest : List ℕ
  pub certificate : Certificate
  pub text : IsText (bytes ++ rest) certificate

-- ---- lines of bytes

abbrev pub pieces_before : List (List ℕ) → List (List ℕ)
pieces_before [] = []
pieces_before (p ∷ []) = []
pieces_before (p ∷ (q ∷ ps)) = p ∷ pieces_before (q ∷ ps)

abbrev pub last_of : List (List ℕ) → List ℕ
last_of [] = []
last_of (p ∷ []) = p
last_of (p ∷ (q ∷ ps)) = last_of (q ∷ ps)

-- the lines that end with a line feed
abbrev pub whole_lines : List ℕ → List (List ℕ)
whole_lines bytes = pieces_before (cut 10 bytes)

-- what stands behind the last line feed
abbrev pub rest_of : List ℕ → List ℕ
rest_of bytes = last_of (cut 10 bytes)

-- line n is the first that makes the bytes no text: the lines before it, with their line feeds, begin a
-- text, and with it they begin none; behind the last whole line it is the line that is not whole or missing
pub record IsFaultyLine (bytes : List ℕ) (n : ℕ) : Type 0 where
  pub low : 1 ≤ n
  pub high : n ≤ length (whole_lines bytes) + 1
  pub before : (k : ℕ) → k < n → BeginsText (fed (take k (whole_lines bytes)))
  pub here : n ≤ length (whole_lines bytes) → BeginsText (fed (take n (whole_lines bytes))) → ⊥
  pub no_text : (c : Certificate) → IsText bytes c → ⊥

-- ---- the reader

-- what was read, and the leaf lines that may be named
pub record Standing : Type 0 where
  pub state : State
  pub named : Named

abbrev pub begun : Standing
begun = record { state = Begun; named = none_named 0 }

abbrev pub stands_at : Option State → Option Named → Option Standing
stands_at None k = None
stands_at (Some s) None = None
stands_at (Some s) (Some k) = Some (record { state = s; named = k })

-- behind a line, where the line may come
abbrev pub steps : Standing → CertLine → Option Standing
steps s l = stands_at (step s.state l) (named s.named l)

abbrev pub takes : Standing → List ℕ → Option Standing
takes s line = opt_then (line_of line) (steps s)

abbrev pub read_over : State → ℕ → Result Certificate ℕ
read_over Begun n = Err n
read_over (Headed v) n = Err n
read_over (Sized v p r) n = Err n
read_over (Chosen v p r cs) n = Err n
read_over (Valued v p r cs vs) n = Err n
read_over (Cutting o k) n = Err n
read_over (Between o ls) n = Err n
read_over (Inside o ls ns k) n = Err n
read_over (Loose o ls ns k seen) n = Err n
read_over (After o ls ns) n = Err n
read_over (Over c) n = Ok c

abbrev pub read_end : State → ℕ → List ℕ → Result Certificate ℕ
read_end s n [] = read_over s n
read_end s n (b ∷ bs) = Err n

-- line by line from number n on, and then the rest: the certificate, or the number of the faulty line
abbrev pub read_from : Standing → ℕ → List (List ℕ) → List ℕ → Result Certificate ℕ
read_from s n [] rest = read_end s.state n rest
read_from s n (line ∷ lines) rest = elim (takes s line) [ None ↦ Err n | Some t ↦ read_from t (n + 1) lines rest ]

abbrev pub certificate_of : List ℕ → Result Certificate ℕ
certificate_of bytes = read_from begun 1 (whole_lines bytes) (rest_of bytes)
