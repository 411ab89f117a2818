-- What a reader keeps, as a state of the text; what read_cert answers.
use Rattle.std.specs.Prelude.{ℕ, ◌≡◌, ◌<◌, ◌≤◌, Option, Some, None, Bool, true, false, List, [], length}
use Rattle.input_core.specs.declared.faults.LineKind.TheVariants as kinds
use Rattle.input_core.specs.declared.faults.TextFault.{TextFault}
use Rattle.input_core.specs.declared.faults.TextFault.TheVariants.{Line, Memory}
use Rattle.duality.specs.declared.leaf.Node.{Node as SearchNode}
use Rattle.cert_text.specs.declared.lines.Tree.{Tree}
use Rattle.cert_text.specs.declared.lines.Certificate.{Certificate}
use Rattle.cert_text.specs.declared.place.Place.{Place}
use Rattle.cert_text.specs.declared.place.Place.TheVariants.{Head, Sizes, Choice, Values, Cuts, Cutting, Between, Inside, Loose, After, Over}
use Rattle.cert_text.specs.declared.reader.Reader.{Reader}
use Rattle.cert_text.specs.Grammar.{State, opening_of}
use Rattle.cert_text.specs.Grammar.State.{Begun as SBegun, Headed as SHeaded, Sized as SSized, Chosen as SChosen, Valued as SValued, Cutting as SCutting, Between as SBetween, Inside as SInside, Loose as SLoose, After as SAfter, Over as SOver}
use Rattle.cert_text.specs.Places.{count_of, wanted_of}
use Rattle.cert_text.specs.Text.{IsFaultyLine, Standing}

abbrev pub nodes_of : Option Tree → List SearchNode
nodes_of None = []
nodes_of (Some t) = t.nodes

abbrev pub state_at : Place → Certificate → List SearchNode → State
state_at Head c ns = SBegun
state_at Sizes c ns = SHeaded c.version
state_at Choice c ns = SSized c.version c.patterns c.rows
state_at Values c ns = SChosen c.version c.patterns c.rows c.choice
state_at Cuts c ns = SValued c.version c.patterns c.rows c.choice c.values
state_at (Cutting wanted) c ns = SCutting (opening_of c) wanted
state_at (Between levels) c ns = SBetween (opening_of c) c.levels
state_at (Inside levels wanted) c ns = SInside (opening_of c) c.levels ns wanted
state_at (Loose levels wanted seen) c ns = SLoose (opening_of c) c.levels ns wanted seen
state_at (After levels) c ns = SAfter (opening_of c) c.levels (nodes_of c.unfinished)
state_at (Over levels) c ns = SOver c

abbrev pub state_of : Reader → State
state_of r = state_at r.place r.certificate r.nodes

abbrev pub standing_of : Reader → Standing
standing_of r = record { state = state_of r; named = r.named }

-- no cuts and no levels yet
pub record IsBare (c : Certificate) : Type 0 where
  pub cuts : c.cuts ≡ []
  pub levels : c.levels ≡ []
  pub unfinished : c.unfinished ≡ None

pub record IsCut (c : Certificate) : Type 0 where
  pub levels : c.levels ≡ []
  pub unfinished : c.unfinished ≡ None

pub record IsCounted (levels : ℕ) (c : Certificate) : Type 0 where
  pub count : levels ≡ length c.levels
  pub unfinished : c.unfinished ≡ None

pub record IsInTree (levels : ℕ) (c : Certificate) : Type 0 where
  pub count : levels ≡ length c.levels
  pub unfinished : c.unfinished ≡ None
  pub few : levels < 6

pub record IsEnded (levels : ℕ) (c : Certificate) : Type 0 where
  pub count : levels ≡ length c.levels
  pub unfinished : (t : Tree) × (c.unfinished ≡ Some t)

abbrev pub Fits : Place → Certificate → Type 0
Fits Head c = IsBare c
Fits Sizes c = IsBare c
Fits Choice c = IsBare c
Fits Values c = IsBare c
Fits Cuts c = IsBare c
Fits (Cutting wanted) c = IsCut c
Fits (Between levels) c = IsCounted levels c
Fits (Inside levels wanted) c = IsInTree levels c
Fits (Loose levels wanted seen) c = IsInTree levels c
Fits (After levels) c = IsEnded levels c
Fits (Over levels) c = Unit {0}

-- the counts are those of what was read
pub record IsSound (p : Place) (c : Certificate) (ns : List SearchNode) : Type 0 where
  pub counted : count_of p < 7
  pub wanted : wanted_of p ≤ length ns
  pub fits : Fits p c

abbrev pub IsSoundReader : Reader → Type 0
IsSoundReader r = IsSound r.place r.certificate r.nodes

-- whether a line was taken, and what was read behind it
abbrev pub Took : Option Standing → Standing → Bool → Type 0
Took None s ok = ok ≡ false
Took (Some t) s ok = (ok ≡ true) × (s ≡ t)

-- the fault names the faulty line
abbrev pub IsTextFault : List ℕ → TextFault → Type 0
IsTextFault bytes (Line f) = IsFaultyLine bytes f.line × (f.kind ≡ kinds.Text)
IsTextFault bytes Memory = Unit {0}
