-- Which text is asked for.
use Rattle.std.specs.Prelude.{ℕ, List, Option, Some, None}
use Rattle.wdl_words.specs.declared.wants.Command.{Command}
use Rattle.wdl_words.specs.declared.wants.Command.TheVariants as command
use Rattle.help_text.specs.declared.page.TheConstants.{BUNDLE, CHECK, CWL, EXPLAIN, HELP, INPUTS, LOAD, PROGRAM, RUN, VERSION}

-- the help of a command, or that of the program
abbrev pub help_of : Option Command → List ℕ
help_of None = PROGRAM.now
help_of (Some command.Run) = RUN.now
help_of (Some command.Check) = CHECK.now
help_of (Some command.Inputs) = INPUTS.now
help_of (Some command.Cwl) = CWL.now
help_of (Some command.Load) = LOAD.now
help_of (Some command.Bundle) = BUNDLE.now
help_of (Some command.Explain) = EXPLAIN.now
help_of (Some command.Help) = HELP.now

abbrev pub version_text : List ℕ
version_text = VERSION.now
