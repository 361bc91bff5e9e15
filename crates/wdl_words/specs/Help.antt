-- The words that ask for help or for the version.
use Rattle.std.specs.Prelude.{Bool, ◌||◌, List, [], ◌∷◌, Option, Some, None, option_map, if◌then◌else◌, codes}
use Rattle.std.specs.Str.{bytes_eq}
use Rattle.clap.specs.Words.{Text}
use Rattle.wdl_words.specs.declared.wants.Command.{Command}
use Rattle.wdl_words.specs.declared.wants.Command.TheVariants as command
use Rattle.wdl_words.specs.declared.wants.Wants.{Wants}
use Rattle.wdl_words.specs.declared.wants.Wants.TheVariants.{Help, Version}

-- the command of that name
abbrev pub command_named : Text → Option Command
command_named word =
    if bytes_eq word (codes "run") then Some command.Run
    else if bytes_eq word (codes "check") then Some command.Check
    else if bytes_eq word (codes "inputs") then Some command.Inputs
    else if bytes_eq word (codes "cwl") then Some command.Cwl
    else if bytes_eq word (codes "load") then Some command.Load
    else if bytes_eq word (codes "bundle") then Some command.Bundle
    else if bytes_eq word (codes "explain") then Some command.Explain
    else if bytes_eq word (codes "help") then Some command.Help
    else None

-- `--help` or `-h`
abbrev pub is_help_option : Text → Bool
is_help_option word = bytes_eq word (codes "--help") || bytes_eq word (codes "-h")

abbrev pub is_version_word : Text → Bool
is_version_word word = bytes_eq word (codes "version") || (bytes_eq word (codes "--version") || bytes_eq word (codes "-V"))

-- what one word asks for
abbrev pub by_one : Text → Option Wants
by_one word =
    if bytes_eq word (codes "help") || is_help_option word then Some (Help None)
    else if is_version_word word then Some Version else None

-- `COMMAND --help`, `COMMAND -h` or `help COMMAND`
abbrev pub by_two : Text → Text → Option Command
by_two first second =
    if is_help_option second then command_named first
    else if bytes_eq first (codes "help") then command_named second else None

-- what words ask for, of help and the version; none where they ask for something else
abbrev pub explained : List Text → Option Wants
explained [] = None
explained (word ∷ []) = by_one word
explained (first ∷ second ∷ []) = option_map (λ c. Help (Some c)) (by_two first second)
explained (first ∷ second ∷ third ∷ rest) = None
