-- The values of the functions on paths (OpenWDL 1.1, "Standard Library"). Texts are bytes; 47 is a slash, 46 a point,
-- 42 a star and 63 a question mark.
use Rattle.std.specs.Prelude.{ℕ, ◌-◌, ◌==◌, Bool, true, false, ◌&&◌, ◌||◌, List, [], ◌∷◌, ◌++◌, length, take, drop, Option, Some, None, Ok, Err, if◌then◌else◌, codes}
use Rattle.std.specs.List.{slice_split, list_any}
use Rattle.std.specs.Str.{chars, bytes_eq}
use Rattle.wdl_base.specs.Answers.{is_cut}
use Rattle.wdl_base.specs.declared.answer.Answer.{Answer}
use Rattle.wdl_base.specs.declared.body.Seen.{Seen}
use Rattle.wdl_base.specs.declared.fault.EvalCode.TheVariants.{BodyLong}
use Rattle.wdl_value.specs.declared.value.Value.{Value}
use Rattle.wdl_value.specs.declared.value.Value.TheVariants as v
use Rattle.wdl_value.specs.Outcome.{Outcome}
use Rattle.wdl_value.specs.ValueText.{text_of}

-- ---- basename

-- what follows the last slash
abbrev pub base_name : List ℕ → List ℕ
base_name [] = []
base_name (c ∷ cs) = if list_any (λ b. b == 47) (c ∷ cs) then base_name cs else c ∷ cs

abbrev pub basename_of : Value → Outcome Value
basename_of path = Ok (v.Str (base_name (text_of path)))

-- without the ending, where it is there
abbrev pub without_ending : List ℕ → List ℕ → List ℕ
without_ending name ending = if bytes_eq ending (drop (length name - length ending) name) then take (length name - length ending) name else name

abbrev pub basename_without : Value → Value → Outcome Value
basename_without path ending = Ok (v.Str (without_ending (base_name (text_of path)) (text_of ending)))

-- ---- files of the job

abbrev pub in_directory : List ℕ → List ℕ → Value
in_directory dir name = v.File (dir ++ 47 ∷ name)

abbrev pub stdout_of : List ℕ → Outcome Value
stdout_of dir = Ok (in_directory dir (codes "_stdout"))

abbrev pub stderr_of : List ℕ → Outcome Value
stderr_of dir = Ok (in_directory dir (codes "_stderr"))

-- ---- glob, on characters

-- some end of the list passes
abbrev pub any_end : (List ℕ → Bool) → List ℕ → Bool
any_end test [] = test []
any_end test (c ∷ cs) = test (c ∷ cs) || any_end test cs

-- the pattern's character is this one, or stands for any
abbrev pub takes : ℕ → ℕ → Bool
takes p c = p == 63 || p == c

abbrev pub one_then : ℕ → (List ℕ → Bool) → List ℕ → Bool
one_then p test [] = false
one_then p test (c ∷ cs) = takes p c && test cs

-- a star is any run of characters, a question mark one character
abbrev pub wild : List ℕ → List ℕ → Bool
wild [] [] = true
wild [] (c ∷ cs) = false
wild (p ∷ ps) cs = if p == 42 then any_end (wild ps) cs else one_then p (wild ps) cs

-- without the stars at its front, each of which is an empty run
abbrev pub without_stars : List ℕ → List ℕ
without_stars [] = []
without_stars (p ∷ ps) = if p == 42 then without_stars ps else p ∷ ps

abbrev pub after_point : List ℕ → List ℕ → Bool
after_point [] name = false
after_point (p ∷ ps) name = p == 46 && wild ps name

-- A point that begins a part is matched by a point alone.
abbrev pub part_matches : List ℕ → List ℕ → Bool
part_matches pattern [] = wild pattern []
part_matches pattern (c ∷ cs) = if c == 46 then after_point (without_stars pattern) cs else wild pattern (c ∷ cs)

abbrev pub parts_match : List (List ℕ) → List (List ℕ) → Bool
parts_match [] [] = true
parts_match (p ∷ ps) (n ∷ ns) = part_matches p n && parts_match ps ns
parts_match ps ns = false

abbrev pub parts_of : List ℕ → List (List ℕ)
parts_of = slice_split (λ c. c == 47)

-- part by part between slashes
abbrev pub path_matches : List ℕ → List ℕ → Bool
path_matches pattern name = parts_match (parts_of pattern) (parts_of name)

-- the files that a pattern's characters match
abbrev pub matching : List ℕ → List ℕ → List Seen → List Value
matching dir pattern [] = []
matching dir pattern (file ∷ files) =
    if path_matches pattern (chars file.name) then in_directory dir file.name ∷ matching dir pattern files else matching dir pattern files

abbrev pub files_of : Option Answer → List Seen
files_of None = []
files_of (Some answer) = answer.files

abbrev pub lacks_names : Option Answer → Bool
lacks_names None = false
lacks_names (Some answer) = is_cut answer.files

-- the files that the command left, in byte order as an answer has them, where all names were kept
abbrev pub glob_of : List ℕ → Option Answer → Value → Outcome Value
glob_of dir answer pattern =
    if lacks_names answer then Err BodyLong else Ok (v.List (matching dir (chars (text_of pattern)) (files_of answer)))
