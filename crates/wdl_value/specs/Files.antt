-- The files that a call's command left, as paths name them. Texts are bytes; 47 is a slash.
use Rattle.std.specs.Prelude.{ℕ, Bool, false, not, ◌&&◌, ◌||◌, ◌==◌, List, [], ◌∷◌, ◌++◌, length, take, Option, Some, None, option_and_then, Ok, Err, if◌then◌else◌, codes}
use Rattle.std.specs.List.{join_with_byte}
use Rattle.std.specs.Option.{unwrap_or}
use Rattle.std.specs.Str.{bytes_eq, is_utf8}
use Rattle.wdl_base.specs.Answers.{is_cut}
use Rattle.wdl_base.specs.declared.answer.Answer.{Answer}
use Rattle.wdl_base.specs.declared.body.Body.{Body}
use Rattle.wdl_base.specs.declared.body.Body.TheVariants.{Bytes, Long}
use Rattle.wdl_base.specs.declared.body.Seen.{Seen}
use Rattle.wdl_base.specs.declared.fault.EvalCode.TheVariants.{FileMissing, NotText, BodyLong}
use Rattle.wdl_value.specs.Outcome.{Outcome}
use Rattle.wdl_value.specs.Paths.{parts_of}
use Rattle.wdl_base.specs.Plain.{has_nul}

-- what follows a text at the front of another
abbrev pub stripped : List ℕ → List ℕ → Option (List ℕ)
stripped [] s = Some s
stripped (p ∷ ps) [] = None
stripped (p ∷ ps) (c ∷ cs) = if p == c then stripped ps cs else None

abbrev pub begins_at_root : List ℕ → Bool
begins_at_root [] = false
begins_at_root (c ∷ cs) = c == 47

-- ---- the name of a file, by the text of its path alone

-- a part that stays where it is
abbrev pub is_here : List ℕ → Bool
is_here part = bytes_eq part [] || bytes_eq part (codes ".")

abbrev pub is_up : List ℕ → Bool
is_up part = bytes_eq part (codes "..")

-- all parts but the last one, where there is one
abbrev pub but_last : List (List ℕ) → Option (List (List ℕ))
but_last [] = None
but_last (part ∷ parts) = Some (take (length parts) (part ∷ parts))

-- the parts of a name with one more: an empty part and `.` go, and `..` goes with the part before it
abbrev pub with_part : List (List ℕ) → List ℕ → Option (List (List ℕ))
with_part name part =
    if is_here part then Some name
    else (if is_up part then but_last name else Some (name ++ part ∷ []))

-- None where no part is before a `..`
abbrev pub with_parts : List (List ℕ) → List (List ℕ) → Option (List (List ℕ))
with_parts name [] = Some name
with_parts name (part ∷ parts) = option_and_then (λ more. with_parts more parts) (with_part name part)

abbrev pub name_of : List (List ℕ) → Option (List ℕ)
name_of [] = None
name_of (part ∷ parts) = Some (join_with_byte 47 (part ∷ parts))

-- the name of the file of a path below the directory of the job, unless the path leaves that directory or names it
abbrev pub relative_name : List ℕ → Option (List ℕ)
relative_name path =
    if begins_at_root path then None else option_and_then name_of (with_parts [] (parts_of path))

-- the same of a path that may begin with the directory of the job and a slash
abbrev pub local_name : List ℕ → List ℕ → Option (List ℕ)
local_name dir path = relative_name (unwrap_or (stripped (dir ++ 47 ∷ []) path) path)

-- ---- bodies

abbrev pub seen_body : List ℕ → List Seen → Option Body
seen_body name [] = None
seen_body name (file ∷ files) = if bytes_eq file.name name then Some file.body else seen_body name files

-- the two streams by their names, and the files that the command left
abbrev pub left_body : Answer → List ℕ → Option Body
left_body answer name =
    if bytes_eq name (codes "_stdout") then Some answer.out
    else (if bytes_eq name (codes "_stderr") then Some answer.err
    else seen_body name answer.files)

-- Where not all names were kept, a file that is not among them may be there, and nothing is kept of it.
abbrev pub or_cut : Answer → Option Body → Option Body
or_cut answer (Some body) = Some body
or_cut answer None = if is_cut answer.files then Some Long else None

-- Without an answer no file is there.
abbrev pub file_body : List ℕ → Option Answer → List ℕ → Option Body
file_body dir None path = None
file_body dir (Some answer) path = option_and_then (λ name. or_cut answer (left_body answer name)) (local_name dir path)

-- UTF-8 without NUL
abbrev pub bytes_text : List ℕ → Outcome (List ℕ)
bytes_text bytes = if is_utf8 bytes && not (has_nul bytes) then Ok bytes else Err NotText

abbrev pub body_text : Option Body → Outcome (List ℕ)
body_text None = Err FileMissing
body_text (Some Long) = Err BodyLong
body_text (Some (Bytes bytes)) = bytes_text bytes

-- the text of the file of a path
abbrev pub file_text : List ℕ → Option Answer → List ℕ → Outcome (List ℕ)
file_text dir answer path = body_text (file_body dir answer path)
