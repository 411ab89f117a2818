-- Which line may follow, by counts alone.
use Rattle.std.specs.Prelude.{ℕ, ◌+◌, ◌-◌, ◌==◌, ◌&&◌, Bool, true, false, nat_lt, if◌then◌else◌, Option, Some, None, length}
use Rattle.duality.specs.declared.leaf.Node.{Node as SearchNode}
use Rattle.duality.specs.declared.leaf.Node.TheVariants.{Branch, Leaf as Closing, OpenEnd, Same}
use Rattle.cert_text.specs.declared.lines.CertLine.{CertLine}
use Rattle.cert_text.specs.declared.lines.CertLine.TheVariants as lines
use Rattle.cert_text.specs.declared.place.Place.{Place}
use Rattle.cert_text.specs.declared.place.Place.TheVariants.{Head, Sizes, Choice, Values, Cuts, Cutting, Between, Inside, Loose, After, Over}
use Rattle.cert_text.specs.Grammar.{State}
use Rattle.cert_text.specs.Grammar.State.{Begun as SBegun, Headed as SHeaded, Sized as SSized, Chosen as SChosen, Valued as SValued, Cutting as SCutting, Between as SBetween, Inside as SInside, Loose as SLoose, After as SAfter, Over as SOver}

abbrev pub may_begin : ℕ → ℕ → Bool
may_begin levels j = (j == levels + 1) && nat_lt levels 6

abbrev pub cuts_left : ℕ → Place
cuts_left k = if k == 0 then Between 0 else Cutting (k - 1)

abbrev pub in_level : ℕ → ℕ → SearchNode → Option Place
in_level levels wanted (Branch p) = Some (Inside levels (wanted + 1))
in_level levels wanted (Closing leaf) = if wanted == 0 then Some (Between (levels + 1)) else Some (Inside levels (wanted - 1))
in_level levels wanted OpenEnd = None
in_level levels wanted (Same q) = if wanted == 0 then Some (Between (levels + 1)) else Some (Inside levels (wanted - 1))

abbrev pub close : ℕ → ℕ → Bool → Bool → Option Place
close levels wanted seen may_end = if nat_lt 0 wanted then Some (Loose levels (wanted - 1) seen) else (if may_end then Some (After levels) else None)

abbrev pub in_loose : ℕ → ℕ → Bool → SearchNode → Option Place
in_loose levels wanted seen (Branch p) = Some (Loose levels (wanted + 1) seen)
in_loose levels wanted seen (Closing leaf) = close levels wanted seen seen
in_loose levels wanted seen OpenEnd = close levels wanted true true
in_loose levels wanted seen (Same q) = close levels wanted seen seen

-- the place after a line, where the line may come
abbrev pub follows : Place → CertLine → Option Place
follows Head (lines.Head version) = Some Sizes
follows Sizes (lines.Sizes p r) = Some Choice
follows Choice (lines.Choice entries) = Some Values
follows Values (lines.Values vs) = Some Cuts
follows Cuts (lines.Cuts k) = Some (cuts_left k)
follows (Cutting wanted) (lines.Cut ps) = Some (cuts_left wanted)
follows (Between levels) (lines.Level j) = if may_begin levels j then Some (Inside levels 0) else None
follows (Between levels) (lines.Unfinished j) = if may_begin levels j then Some (Loose levels 0 false) else None
follows (Between levels) (lines.End j) = if j == levels then Some (Over levels) else None
follows (Inside levels wanted) (lines.Node n) = in_level levels wanted n
follows (Loose levels wanted seen) (lines.Node n) = in_loose levels wanted seen n
follows (After levels) (lines.End j) = if j == levels then Some (Over levels) else None
follows place line = None

abbrev pub wanted_of : Place → ℕ
wanted_of (Inside levels wanted) = wanted
wanted_of (Loose levels wanted seen) = wanted
wanted_of place = 0

abbrev pub count_of : Place → ℕ
count_of (Between levels) = levels
count_of (Inside levels wanted) = levels
count_of (Loose levels wanted seen) = levels
count_of (After levels) = levels
count_of (Over levels) = levels
count_of place = 0

-- the counts of a state
abbrev pub place_of : State → Place
place_of SBegun = Head
place_of (SHeaded v) = Sizes
place_of (SSized v p r) = Choice
place_of (SChosen v p r cs) = Values
place_of (SValued v p r cs vs) = Cuts
place_of (SCutting o k) = Cutting k
place_of (SBetween o ls) = Between (length ls)
place_of (SInside o ls ns k) = Inside (length ls) k
place_of (SLoose o ls ns k seen) = Loose (length ls) k seen
place_of (SAfter o ls ns) = After (length ls)
place_of (SOver c) = Over (length c.levels)
