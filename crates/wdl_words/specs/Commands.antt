-- The commands, as clap reads them.
use Rattle.std.specs.Prelude.{true, List, [], ◌∷◌, Option, Some, None, codes}
use Rattle.clap.specs.Words.{App, Kinds, Row, Rule, Text, fault_of, matches_of, new_app, new_rule, with_rule}

-- `--NAME VALUE` or `--NAME=VALUE`, at most once
abbrev pub option_rule : Text → Rule
option_rule name = record (new_rule name) { long = Some name }

-- a word that has to stand
abbrev pub operand_rule : Text → Rule
operand_rule name = record (new_rule name) { required = true }

-- a command of one word
abbrev pub operand_app : Text → Text → App
operand_app command operand = with_rule (new_app command) (operand_rule operand)

abbrev pub run_app : App
run_app =
    with_rule (with_rule (with_rule (with_rule (with_rule (new_app (codes "run"))
    (option_rule (codes "inputs"))) (option_rule (codes "workers"))) (option_rule (codes "root")))
    (option_rule (codes "journal"))) (operand_rule (codes "file"))

abbrev pub cwl_app : App
cwl_app = with_rule (with_rule (new_app (codes "cwl")) (option_rule (codes "inputs"))) (operand_rule (codes "file"))

-- rows, where no kind of error comes
abbrev pub without_errors : Kinds → List Row → Option (List Row)
without_errors [] rows = Some rows
without_errors (kind ∷ more) rows = None

-- what clap finds of a simple command in the words, the first of which is the program's name, or none where it
-- refuses them
unfoldable pub found_in : App → List Text → Option (List Row)
found_in app words = without_errors (fault_of app words) (matches_of app words)
