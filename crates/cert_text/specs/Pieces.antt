-- What is kept between two pieces of a text, and the bytes that it stands for.
use Rattle.std.specs.Prelude.{ℕ, ◌≡◌, ◌<◌, ◌≤◌, ◌+◌, Option, Some, None, true, List, [], ◌∷◌, ◌++◌, length, map}
use Rattle.std.specs.List.{list_all}
use Rattle.input_core.specs.declared.faults.LineKind.TheVariants as kinds
use Rattle.input_core.specs.declared.faults.TextFault.{TextFault}
use Rattle.input_core.specs.declared.faults.TextFault.TheVariants.{Line, Memory}
use Rattle.cert_text.specs.declared.lines.Certificate.{Certificate}
use Rattle.cert_text.specs.declared.lines.CertLine.{CertLine}
use Rattle.cert_text.specs.declared.place.Place.{Place}
use Rattle.cert_text.specs.declared.place.Place.TheVariants.{Inside, Loose}
use Rattle.cert_text.specs.declared.pieces.Pieces.{Pieces}
use Rattle.cert_text.specs.Spelling.{line_text, in_bounds}
use Rattle.cert_text.specs.Places.{count_of, wanted_of, place_of}
use Rattle.cert_text.specs.Text.{IsText, BeginsText, IsFaultyLine, Standing, begun, takes, whole_lines, rest_of, fed}
use Rattle.cert_text.specs.Kept.{IsKept}

-- ---- lines that are taken one after the other

abbrev pub then_stands : Option Standing → (Standing → Option Standing) → Option Standing
then_stands None f = None
then_stands (Some s) f = f s

abbrev pub run : Standing → List (List ℕ) → Option Standing
run s [] = Some s
run s (l ∷ ls) = then_stands (takes s l) (λ t. run t ls)

-- ---- what is kept

-- in a tree there are fewer than six finished levels
abbrev pub InTree : Place → Type 0
InTree (Inside levels wanted) = levels < 6
InTree (Loose levels wanted seen) = levels < 6
InTree place = Unit {0}

-- behind n lines
pub record IsSoundPlace (p : Place) (n : ℕ) : Type 0 where
  pub counted : count_of p < 7
  pub wanted : wanted_of p ≤ n
  pub tree : InTree p

abbrev pub IsSoundPieces : Pieces → Type 0
IsSoundPieces p = IsSoundPlace p.place p.line

-- the place and the names of a standing
pub record KeepsStanding (p : Pieces) (t : Standing) : Type 0 where
  pub place : p.place ≡ place_of t.state
  pub named : p.named ≡ t.named

-- all whole lines of the bytes were taken, and of what follows them as much is kept as tells how it is read
pub record IsPieces (p : Pieces) (bytes : List ℕ) : Type 0 where
  pub standing : Standing
  pub ran : run begun (whole_lines bytes) ≡ Some standing
  pub keeps : KeepsStanding p standing
  pub rest : IsKept (rest_of bytes) p.rest
  pub line : p.line ≡ length (whole_lines bytes) + 1

-- a line that was taken or not, and what is kept behind it
abbrev pub TakesText : Option Standing → Pieces → Option CertLine → Type 0
TakesText None p None = Unit {0}
TakesText None p (Some l) = ⊥
TakesText (Some t) p None = ⊥
TakesText (Some t) p (Some l) = KeepsStanding p t

-- ---- what a reader gives

-- the lines that became whole behind the bytes, all of which may come
pub record GivesLines (bytes all : List ℕ) (lines : List CertLine) : Type 0 where
  pub spelled : whole_lines all ≡ whole_lines bytes ++ map line_text lines
  pub bounded : list_all in_bounds lines ≡ true
  pub begins : BeginsText (fed (whole_lines all))

-- the first faulty line, and it is whole
pub record IsFaultyWhole (bytes : List ℕ) (n : ℕ) : Type 0 where
  pub faulty : IsFaultyLine bytes n
  pub whole : n ≤ length (whole_lines bytes)

abbrev pub IsWholeFault : List ℕ → TextFault → Type 0
IsWholeFault bytes (Line f) = IsFaultyWhole bytes f.line × (f.kind ≡ kinds.Text)
IsWholeFault bytes Memory = Unit {0}

-- the fault of bytes that are no text; it is no want of memory
abbrev pub IsNoText : List ℕ → TextFault → Type 0
IsNoText bytes (Line f) = IsFaultyLine bytes f.line × (f.kind ≡ kinds.Text)
IsNoText bytes Memory = ⊥

pub record IsSomeText (bytes : List ℕ) : Type 0 where
  pub certificate : Certificate
  pub text : IsText bytes certificate

-- ---- the reader

pub record KeptText : Type 0 where
  pub pieces : Pieces
  pub taken : ℕ
  pub refused : Option TextFault

pub record IsSoundText (k : KeptText) : Type 0 where
  pub sound : k.refused ≡ None → IsSoundPieces k.pieces
  pub line : k.refused ≡ None → k.pieces.line ≤ k.taken + 1

-- the reader stands for the bytes: it did not refuse them
pub record StandsFor (k : KeptText) (bytes : List ℕ) : Type 0 where
  pub going : k.refused ≡ None
  pub pieces : IsPieces k.pieces bytes
  pub taken : k.taken ≡ length bytes
