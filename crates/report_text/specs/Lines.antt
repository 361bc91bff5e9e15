-- The line of each status. The control characters of paths and names are escaped.
use Rattle.std.specs.Prelude.{ℕ, ◌<◌, List, [], ◌∷◌, ◌++◌, Option, Some, None, codes, decimal, length, slice_get, unwrap_or, ⊤}
use Rattle.wdl_base.specs.Places.{place_text}
use Rattle.wdl_base.specs.declared.fault.Why.{Why}
use Rattle.wdl_base.specs.declared.fault.Why.TheVariants as why
use Rattle.wdl_base.specs.declared.span.Span.{Span}
use Rattle.report_text.specs.declared.status.Status.{Status}
use Rattle.report_text.specs.declared.status.Status.TheVariants as status
use Rattle.report_text.specs.Words.{word_of, eval_text}
use Rattle.shown_text.specs.Shown.{shown}

-- a word behind a blank, and nothing for no word
abbrev pub behind_blank : List ℕ → List ℕ
behind_blank [] = []
behind_blank (b ∷ word) = codes " " ++ (b ∷ word)

-- a code and its word, where it has one
abbrev pub code_text : ℕ → List ℕ
code_text code = decimal code ++ behind_blank (word_of code)

-- the path of the document, and the bytes in it
abbrev pub span_text : List (List ℕ) → Span → List ℕ
span_text paths span = shown (unwrap_or (slice_get paths span.doc) []) ++ codes ":" ++ decimal span.start ++ codes ".." ++ decimal span.end

-- the name that failed is told of an expression alone
abbrev pub why_text : List ℕ → Why → List ℕ
why_text name (why.Code code) = codes " " ++ shown name ++ codes ": " ++ eval_text code
why_text name (why.Status number) = codes ": status " ++ decimal number

abbrev pub name_text : Option (List ℕ) → List ℕ
name_text None = []
name_text (Some name) = codes " " ++ shown name

-- the line of a status, with its newline; `paths` are the paths of the documents, by their numbers
abbrev pub line_of : Status → List (List ℕ) → List ℕ
line_of status.Ok paths = []
line_of (status.Failed fault) paths = codes "failed " ++ place_text fault.place ++ why_text fault.name fault.why ++ codes "\n"
line_of status.Usage paths = codes "usage: wdl run [--inputs FILE] [--workers N] [--root DIR] [--journal FILE] FILE | check FILE | inputs FILE | cwl [--inputs FILE] FILE | load N | bundle FILE\n"
line_of (status.Document code span) paths = span_text paths span ++ codes ": " ++ code_text code ++ codes "\n"
line_of (status.Inputs code name) paths = codes "inputs: " ++ code_text code ++ name_text name ++ codes "\n"
line_of (status.Read path) paths = codes "cannot read " ++ shown path ++ codes "\n"
line_of status.Write paths = codes "cannot write\n"
line_of status.NoMemory paths = codes "no memory\n"
line_of (status.NotInSubset rule span) paths = codes "not in the subset: " ++ decimal rule ++ codes " at " ++ span_text paths span ++ codes "\n"
line_of (status.Launch place) paths = codes "cannot launch " ++ place_text place ++ codes "\n"
line_of status.Keep paths = codes "journal fault\n"
line_of status.TooMany paths = codes "too many jobs\n"

-- each span's document has a path
abbrev pub HasPath : Status → List (List ℕ) → Type 0
HasPath (status.Document code span) paths = span.doc < length paths
HasPath (status.NotInSubset rule span) paths = span.doc < length paths
HasPath _ paths = ⊤
