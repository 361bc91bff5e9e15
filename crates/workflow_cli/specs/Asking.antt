-- What the words ask for, and what the program does then.
use Rattle.std.specs.Prelude.{◌≡◌, ◌≤◌, ◌⊎◌, ℕ, List, length, Option, Some, None, Result, Ok, Err, map, string_bytes, String, ⊤}
use Rattle.std.specs.declared.alloc.Global.{Global}
use Rattle.report_text.specs.declared.status.Status.{Status}
use Rattle.report_text.specs.declared.status.Status.TheVariants as status
use Rattle.wdl_words.specs.Words.{wants}
use Rattle.wdl_words.specs.declared.wants.Wants.{Wants}
use Rattle.wdl_words.specs.declared.wants.Wants.TheVariants.{Run, Check, Inputs, Cwl, Load, Bundle, Explain, Help, Version}
use Rattle.workflow_cli.specs.declared.asking.Command.{Command}
use Rattle.workflow_cli.specs.declared.asking.Page.{Page}
use Rattle.workflow_cli.specs.declared.asking.Page.TheVariants as page
use Rattle.workflow_cli.specs.declared.asking.Report.TheVariants as report
use Rattle.workflow_cli.specs.declared.asking.RunOptions.{RunOptions}
use Rattle.workflow_cli.specs.declared.asking.Command.TheVariants as command

abbrev pub Words : Type 0
Words = List (String Global)

-- what the words ask for, if they have a reading
unfoldable pub asked : Words → Option Wants
asked words = wants (map string_bytes words)

-- what is done then
abbrev pub command_of : Wants → Command
command_of (Run file inputs workers root journal) = command.Run file inputs (record { workers = workers; root = root; journal = journal; report = report.Outputs })
command_of (Check file) = command.Check file
command_of (Cwl file inputs) = command.Cwl file inputs
command_of (Inputs file) = command.Inputs file
command_of (Bundle file) = command.Bundle file
command_of (Help about) = command.Print (page.Help about)
command_of Version = command.Print page.Version
command_of (Explain code) = command.Print (page.Code code)
command_of (Load number) = command.Load number

-- the words ask for this
pub record IsCommand (words : Words) (c : Command) : Type 0 where
  pub wants : Wants
  pub asked : asked words ≡ Some wants
  pub is : command_of wants ≡ c

-- a run of the document at this path, with the inputs of that one, and these options
abbrev pub IsRunOf : Words → List ℕ → Option (List ℕ) → RunOptions → Type 0
IsRunOf words file inputs options = IsCommand words (command.Run file inputs options)

-- a check of the document at this path
abbrev pub IsCheckOf : Words → List ℕ → Type 0
IsCheckOf words file = IsCommand words (command.Check file)

-- the CWL document of the document at this path, or the CWL input object of the inputs at that one
abbrev pub IsCwlOf : Words → List ℕ → Option (List ℕ) → Type 0
IsCwlOf words file inputs = IsCommand words (command.Cwl file inputs)

-- the inputs of the document at this path, to be filled in
abbrev pub IsFormOf : Words → List ℕ → Type 0
IsFormOf words file = IsCommand words (command.Inputs file)

-- the main workflow of the document at this path as one document
abbrev pub IsBundleOf : Words → List ℕ → Type 0
IsBundleOf words file = IsCommand words (command.Bundle file)

-- a workflow of so many calls, which is made and run
abbrev pub IsLoadOf : Words → ℕ → Type 0
IsLoadOf words number = IsCommand words (command.Load number)

-- any such
abbrev pub IsLoad : Words → Type 0
IsLoad words = (number : ℕ) × IsLoadOf words number

-- help, the version, or what a number means
abbrev pub IsPrintOf : Words → Page → Type 0
IsPrintOf words page = IsCommand words (command.Print page)

-- the inputs that the document at this path has, or its bundle
abbrev pub IsForFlow : Words → List ℕ → Type 0
IsForFlow words file = IsFormOf words file ⊎ IsBundleOf words file

-- a run or a translation of the document at this path, the inputs that it has, or its bundle, for which it has a main workflow
abbrev pub IsForMain : Words → List ℕ → Option (List ℕ) → Type 0
IsForMain words file inputs =
    ((options : RunOptions) × IsRunOf words file inputs options) ⊎ (IsCwlOf words file inputs ⊎ ((inputs ≡ None) × IsForFlow words file))

-- the inputs at that path are read for it, and `{}` where none is named
abbrev pub IsForInputs : Words → List ℕ → Option (List ℕ) → Type 0
IsForInputs words file inputs = ((options : RunOptions) × IsRunOf words file inputs options) ⊎ ((path : List ℕ) × (inputs ≡ Some path) × IsCwlOf words file inputs)

-- a run that keeps its journal at this path
pub record IsJournal (words : Words) (path : List ℕ) : Type 0 where
  pub file : List ℕ
  pub inputs : Option (List ℕ)
  pub options : RunOptions
  pub asked : IsRunOf words file inputs options
  pub named : options.journal ≡ Some path

-- 1 to 64 workers, and a directory of at most 512 bytes; 1 to 10,000 calls
abbrev pub IsWithin : Command → Type 0
IsWithin (command.Run file inputs options) = (1 ≤ options.workers) × (options.workers ≤ 64) × (length options.root ≤ 512)
IsWithin (command.Load number) = (1 ≤ number) × (number ≤ 10000)
IsWithin _ = ⊤

-- why nothing is done
abbrev pub AskStops : Words → Status → Type 0
AskStops words status.Usage = asked words ≡ None
AskStops words status.NoMemory = ⊤
AskStops words s = ⊥

abbrev pub Asks : Words → Result Command Status → Type 0
Asks words (Ok c) = IsCommand words c
Asks words (Err s) = AskStops words s

-- ---- the reading

abbrev pub HasReading : Words → Result Wants Status → Type 0
HasReading words (Ok w) = asked words ≡ Some w
HasReading words (Err s) = AskStops words s
