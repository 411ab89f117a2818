-- The simple commands of the library `clap` that read the words after the first one.
use Rattle.std.specs.Prelude.{Some, true, codes}
use Rattle.clap.specs.Words.{App, Rule, Text, new_app, new_rule, with_rule}
use Rattle.clap.specs.Simple.{on_top}
use Rattle.clap.specs.declared.builder.action.ArgAction.TheVariants.{Set, SetTrue}
use Rattle.clap.specs.declared.builder.value_parser.ValueParser.TheVariants as parsers

-- a positional argument, which has to be given
abbrev pub named : Text → Rule
named id = record (new_rule id) { required = true }

-- `--budget` and its number
abbrev pub budget : Rule
budget = record (new_rule (codes "budget")) { long = Some (codes "budget"); parser = Some (parsers.Unsigned 0 1000000) }

-- `--json`, which takes no value
abbrev pub json : Rule
json = record (new_rule (codes "json")) { long = Some (codes "json"); action = Some SetTrue }

-- the number of courses, which has to be given
abbrev pub courses : Rule
courses = record (named (codes "n")) { action = Some Set; parser = Some (parsers.Unsigned 1 300) }

-- a command that is given its words without a program's name
abbrev pub bare : Text → App
bare name = on_top (λ s. record s { no_binary_name = true }) (new_app name)

-- a command that takes the three files
abbrev pub on_files : Text → App
on_files name = with_rule (with_rule (with_rule (bare name) (named (codes "instance"))) (named (codes "times"))) (named (codes "measures"))

-- a command that takes the three files and a certificate
abbrev pub on_certificate : Text → App
on_certificate name = with_rule (on_files name) (named (codes "cert"))

-- `solve INSTANCE TIMES MEASURES CERT [--budget N]`
unfoldable pub solve : App
solve = with_rule (on_certificate (codes "solve")) budget

-- `check INSTANCE TIMES MEASURES CERT`
unfoldable pub check : App
check = on_certificate (codes "check")

-- `recert INSTANCE TIMES MEASURES CERT NEW`
unfoldable pub recert : App
recert = with_rule (on_certificate (codes "recert")) (named (codes "new"))

-- `measure INSTANCE TIMES MEASURES`
unfoldable pub measure : App
measure = on_files (codes "measure")

-- `report INSTANCE TIMES MEASURES [--json]`
unfoldable pub report : App
report = with_rule (on_files (codes "report")) json

-- `demo N [--budget N]`
unfoldable pub demo : App
demo = with_rule (with_rule (bare (codes "demo")) courses) budget
