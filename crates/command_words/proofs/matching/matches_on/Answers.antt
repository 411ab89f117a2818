use Rattle.std.proofs.Common.{rules, ◌≡◌, []}
use Rattle.std.proofs.lemmas.Bool.{and_parts}
use Rattle.clap.specs.Words.{app_of, fault_of, found_of, kind_of, rows_of}
use Rattle.clap.specs.declared.error.kind.ErrorKind.TheVariants.{OutOfMemory}
use Rattle.run_core.specs.Expected.{words_of}
use Rattle.command_words.proofs.MatchingLaws.{taken, refused}
use Rattle.command_words.proofs.matching.matches_on.Goals as goal

pub returns-in-Ok-clause-exact : goal.returns-in-Ok-clause-exact
returns-in-Ok-clause-exact c =
    let form = app_of c.args.command in
    let words = words_of c.args.words.now in
    let none : fault_of form words ≡ [] = c.in-Ok.ensures.kinds c.requires in
    taken form words (rows_of (found_of c.in-Ok.matches)) none (c.in-Ok.ensures.matches (and_parts _ _ c.requires).0).0

pub returns-clause-exact : goal.returns-clause-exact
returns-clause-exact c =
    let other : kind_of c.in-Err.error ≡ OutOfMemory → ⊥ = search rules in
    refused (app_of c.args.command) (words_of c.args.words.now) c.in-Err.error (c.in-Err.ensures.kinds c.requires) other
