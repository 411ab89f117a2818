-- What is printed.
use Rattle.std.specs.Prelude.{ℕ, List, ◌++◌, codes, decimal}
use Rattle.itc_score.specs.declared.counts.ScoreCounts.{ScoreCounts}
use Rattle.itc_score.specs.Score.{soft_total}

abbrev pub usage_text : List ℕ
usage_text = codes "usage:\nscore INSTANCE SOLUTION\n"

-- a name, its number, and a line feed
abbrev pub count_line : List ℕ → ℕ → List ℕ
count_line name count = name ++ codes " " ++ decimal count ++ codes "\n"

abbrev pub hard_lines : ScoreCounts → List ℕ
hard_lines s =
    count_line (codes "lectures missing") s.missing
    ++ count_line (codes "unroomed") s.unroomed
    ++ count_line (codes "room occupancy") s.occupancy
    ++ count_line (codes "conflicts") s.conflicts
    ++ count_line (codes "availability") s.availability

abbrev pub soft_lines : ScoreCounts → List ℕ
soft_lines s =
    count_line (codes "room capacity") s.capacity
    ++ count_line (codes "minimum working days") s.days
    ++ count_line (codes "curriculum compactness") s.compactness
    ++ count_line (codes "room stability") s.stability
    ++ count_line (codes "soft total") (soft_total s)

-- the ten lines of a score
abbrev pub score_text : ScoreCounts → List ℕ
score_text s = hard_lines s ++ soft_lines s
