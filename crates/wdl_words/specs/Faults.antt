-- What clap's errors come to, and how a result gives a reading.
use Rattle.std.specs.Prelude.{◌≡◌, List, Option, Some, None, Result, Ok, Err}
use Rattle.std.specs.Borrow.{Bor}
use Rattle.clap.specs.Words.{App, Text, found_of, rows_of}
use Rattle.clap.specs.declared.error.kind.ErrorKind.{ErrorKind}
use Rattle.clap.specs.declared.error.kind.ErrorKind.TheVariants.{OutOfMemory}
use Rattle.clap.specs.declared.parser.matches.ArgMatches.{ArgMatches}
use Rattle.wdl_words.specs.Commands.{found_in}
use Rattle.wdl_words.specs.declared.error.WordFault.{WordFault}
use Rattle.wdl_words.specs.declared.error.WordFault.TheVariants.{Usage, NoMemory}

abbrev pub fault_for : ErrorKind → WordFault
fault_for OutOfMemory = NoMemory
fault_for _ = Usage

-- `Usage` stands for a reading that is not there; want of memory says nothing
abbrev pub Misses : {T : Type 0} → Option T → WordFault → Type 0
Misses reading Usage = reading ≡ None
Misses reading NoMemory = Unit

abbrev pub Reads : {T : Type 0} → Option T → Result T WordFault → Type 0
Reads reading (Ok value) = reading ≡ Some value
Reads reading (Err fault) = Misses reading fault

abbrev pub FindsIn : App → List Text → Result ArgMatches WordFault → Type 0
FindsIn app words (Ok matches) = found_in app words ≡ Some (rows_of (found_of matches))
FindsIn app words (Err fault) = Misses (found_in app words) fault

-- the same of a text that is lent
abbrev pub ReadsText : Option Text → Result (Bor Text) WordFault → Type 0
ReadsText reading (Ok text) = reading ≡ Some text.now
ReadsText reading (Err fault) = Misses reading fault
