-- The words of a command.
use Rattle.std.specs.Prelude.{ℕ, Bool, true, false, ◌≤◌, ◌==◌, ◌&&◌, not, List, [], ◌∷◌, Option, Some, None, codes, unwrap_or, option_map, if◌then◌else◌}
use Rattle.std.specs.Cmp.Lexicographic.{pointwise}
use Rattle.std.specs.Option.{option_map_or}
use Rattle.std.specs.Str.Parse.{digits_value, without_leading_plus}
use Rattle.clap.specs.Words.{Row, Text, first_of, one_of}
use Rattle.tool_core.specs.Inputs.{names}
use Rattle.tool_core.specs.declared.inputs.Names.{Names}
use Rattle.command_words.specs.Forms as forms
use Rattle.command_words.specs.Matching.{matches_on}
use Rattle.command_words.specs.declared.words.Command.{Command}
use Rattle.command_words.specs.declared.words.Command.TheVariants.{Solve, Check, Recert, Measure, Report, Demo}

abbrev pub is_word : List ℕ → List ℕ → Bool
is_word a b = pointwise (λ x y. x == y) a b

-- ---- the values of the matches

-- the word for an argument; empty where there is none, which no required argument lacks
abbrev pub text_in : Text → List Row → List ℕ
text_in id rows = unwrap_or (first_of id rows) []

abbrev pub names_in : List Row → Names
names_in rows = names (text_in (codes "instance") rows) (text_in (codes "times") rows) (text_in (codes "measures") rows)

-- the branches that may be made where the words don't say it
abbrev pub default_budget : ℕ
default_budget = 1000

-- the greatest budget
abbrev pub budget_limit : ℕ
budget_limit = 1000000

-- the number that a text of digits spells
abbrev pub number_of : Text → ℕ
number_of text = digits_value 10 (without_leading_plus text)

abbrev pub budget_in : List Row → ℕ
budget_in rows = option_map_or number_of (one_of (codes "budget") rows) default_budget

-- whether the report is asked for as JSON
abbrev pub json_in : List Row → Bool
json_in rows = option_map_or (λ word. is_word word (codes "true")) (first_of (codes "json") rows) false

-- the number of courses; 0 where there is none, which no command lacks
abbrev pub courses_in : List Row → ℕ
courses_in rows = option_map_or number_of (one_of (codes "n") rows) 0

-- ---- the command

abbrev pub solve_in : List Row → Command
solve_in rows = Solve (names_in rows) (text_in (codes "cert") rows) (budget_in rows)

abbrev pub check_in : List Row → Command
check_in rows = Check (names_in rows) (text_in (codes "cert") rows)

abbrev pub recert_in : List Row → Command
recert_in rows = Recert (names_in rows) (text_in (codes "cert") rows) (text_in (codes "new") rows)

abbrev pub measure_in : List Row → Command
measure_in rows = Measure (names_in rows)

abbrev pub report_in : List Row → Command
report_in rows = Report (names_in rows) (json_in rows)

abbrev pub demo_in : List Row → Command
demo_in rows = Demo (courses_in rows) (budget_in rows)

-- the command of a first word, where the simple command of that word takes the words after it
abbrev pub command_after : List ℕ → List Text → Option Command
command_after first words =
    if is_word first (codes "solve") then option_map solve_in (matches_on forms.solve words)
    else (if is_word first (codes "check") then option_map check_in (matches_on forms.check words)
    else (if is_word first (codes "recert") then option_map recert_in (matches_on forms.recert words)
    else (if is_word first (codes "measure") then option_map measure_in (matches_on forms.measure words)
    else (if is_word first (codes "report") then option_map report_in (matches_on forms.report words)
    else (if is_word first (codes "demo") then option_map demo_in (matches_on forms.demo words) else None)))))

abbrev pub named_command : List Text → Option Command
named_command [] = None
named_command (first ∷ words) = command_after first words

-- the name is none of the three
abbrev pub is_apart : List ℕ → Names → Bool
is_apart name f = not (is_word name f.instance) && (not (is_word name f.times) && not (is_word name f.measures))

-- the file that the command writes is none that it reads
abbrev pub writes_apart : Command → Bool
writes_apart (Solve f certificate budget) = is_apart certificate f
writes_apart (Check f certificate) = true
writes_apart (Recert f certificate new) = is_apart new f && not (is_word new certificate)
writes_apart (Measure f) = true
writes_apart (Report f json) = true
writes_apart (Demo courses budget) = true

abbrev pub where_apart : Option Command → Option Command
where_apart None = None
where_apart (Some c) = if writes_apart c then Some c else None

-- what the words ask for; none: they are no command, or it would write a file that it reads
unfoldable pub command : List Text → Option Command
command words = where_apart (named_command words)

-- the most courses of `demo`
abbrev pub course_limit : ℕ
course_limit = 300

-- the budget of the command is at most the greatest budget, and the number of courses is from 1 to the most
abbrev pub IsInRange : Command → Type 0
IsInRange (Solve f certificate budget) = budget ≤ budget_limit
IsInRange (Demo courses budget) = (1 ≤ courses) × (courses ≤ course_limit) × (budget ≤ budget_limit)
IsInRange command = Unit {0}
