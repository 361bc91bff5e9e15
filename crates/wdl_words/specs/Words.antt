-- The reading of the words.
use Rattle.std.specs.Prelude.{ℕ, ◌≤◌, Bool, false, ◌==◌, ◌||◌, ◌&&◌, not, nat_le, nat_lt, List, [], ◌∷◌, length}
use Rattle.std.specs.Prelude.{Option, Some, None, option_map, option_and_then, if◌then◌else◌, codes}
use Rattle.std.specs.Option.{option_or}
use Rattle.std.specs.Str.{bytes_eq, all_ascii_digits}
use Rattle.std.specs.Str.Parse.{digits_value}
use Rattle.clap.specs.Words.{Row, Text, first_of}
use Rattle.wdl_base.specs.Plain.{has_nul}
use Rattle.wdl_words.specs.Commands.{cwl_app, found_in, operand_app, run_app}
use Rattle.wdl_words.specs.Help.{explained}
use Rattle.wdl_words.specs.declared.wants.Wants.{Wants}
use Rattle.wdl_words.specs.declared.wants.Wants.TheVariants.{Run, Check, Inputs, Cwl, Load, Bundle, Explain}

-- ---- values

-- one or more decimal digits without a sign
abbrev pub is_numeral : Text → Bool
is_numeral text = nat_lt 0 (length text) && all_ascii_digits text

abbrev pub number_within : ℕ → ℕ → Text → Option ℕ
number_within low high text =
    if is_numeral text && (nat_le low (digits_value 10 text) && nat_le (digits_value 10 text) high)
    then Some (digits_value 10 text) else None

abbrev pub is_file : Text → Bool
is_file text = nat_lt 0 (length text) && not (has_nul text)

abbrev pub file_of : Text → Option Text
file_of text = if is_file text then Some text else None

abbrev pub begins_with_slash : Text → Bool
begins_with_slash [] = false
begins_with_slash (b ∷ bs) = b == 47

abbrev pub is_directory : Text → Bool
is_directory text = begins_with_slash text && (nat_le (length text) 512 && not (has_nul text))

-- a byte before what is left of the rest
abbrev pub before_slashes : ℕ → Text → Text
before_slashes b [] = if b == 47 then [] else b ∷ []
before_slashes b (c ∷ cs) = b ∷ c ∷ cs

-- a text without the slashes at its end
abbrev pub without_slashes : Text → Text
without_slashes [] = []
without_slashes (b ∷ bs) = before_slashes b (without_slashes bs)

abbrev pub not_empty : Text → Option Text
not_empty [] = None
not_empty (b ∷ bs) = Some (b ∷ bs)

-- The slashes at the end go, and something is left.
abbrev pub directory_of : Text → Option Text
directory_of text = if is_directory text then not_empty (without_slashes text) else None

abbrev pub is_between : ℕ → ℕ → ℕ → Bool
is_between low high n = nat_le low n && nat_le n high

-- the codes of texts, imports and checks
abbrev pub is_text_code : ℕ → Bool
is_text_code n =
    is_between 101 107 n || (is_between 110 112 n || (is_between 120 123 n || (is_between 201 207 n || (is_between 301 312 n || is_between 320 330 n))))

-- those of inputs and of values, and the rules
abbrev pub is_later_code : ℕ → Bool
is_later_code n = is_between 401 407 n || (is_between 501 516 n || (is_between 601 613 n || is_between 620 622 n))

-- the number of a status, of a code or of a rule
abbrev pub is_code : ℕ → Bool
is_code n = is_between 0 11 n || (is_text_code n || is_later_code n)

abbrev pub coded : ℕ → Option ℕ
coded n = if is_code n then Some n else None

abbrev pub code_of : Text → Option ℕ
code_of text = option_and_then coded (number_within 0 622 text)

-- the value of an option, which may be left out
abbrev pub optional_file : Option Text → Option (Option Text)
optional_file None = Some None
optional_file (Some text) = option_map (λ file. Some file) (file_of text)

abbrev pub workers_of : Option Text → Option ℕ
workers_of None = Some 4
workers_of (Some text) = number_within 1 64 text

abbrev pub root_of : Option Text → Option Text
root_of None = Some (codes "/tmp/wdl-run")
root_of (Some text) = directory_of text

-- ---- commands

-- all of these values, if none is refused
abbrev pub run_with : Option Text → Option (Option Text) → Option ℕ → Option Text → Option (Option Text) → Option Wants
run_with (Some file) (Some inputs) (Some workers) (Some root) (Some journal) =
    Some (Run file inputs workers root journal)
run_with _ _ _ _ _ = None

abbrev pub run_of : List Row → Option Wants
run_of rows = run_with
    (option_and_then file_of (first_of (codes "file") rows))
    (optional_file (first_of (codes "inputs") rows))
    (workers_of (first_of (codes "workers") rows))
    (root_of (first_of (codes "root") rows))
    (optional_file (first_of (codes "journal") rows))

unfoldable pub run_in : List Text → Option Wants
run_in words = option_and_then run_of (found_in run_app words)

abbrev pub cwl_with : Option Text → Option (Option Text) → Option Wants
cwl_with (Some file) (Some inputs) = Some (Cwl file inputs)
cwl_with _ _ = None

abbrev pub cwl_of : List Row → Option Wants
cwl_of rows = cwl_with (option_and_then file_of (first_of (codes "file") rows)) (optional_file (first_of (codes "inputs") rows))

unfoldable pub cwl_in : List Text → Option Wants
cwl_in words = option_and_then cwl_of (found_in cwl_app words)

-- the one word of a command that has no option
abbrev pub operand_in : Text → Text → List Text → Option Text
operand_in command operand words =
    option_and_then (first_of operand) (found_in (operand_app command operand) words)

abbrev pub file_in : Text → List Text → Option Text
file_in command words = option_and_then file_of (operand_in command (codes "file") words)

abbrev pub load_in : List Text → Option ℕ
load_in words =
    option_and_then (number_within 1 10000) (operand_in (codes "load") (codes "number") words)

abbrev pub code_in : List Text → Option ℕ
code_in words = option_and_then code_of (operand_in (codes "explain") (codes "code") words)

-- by the word that names the command
abbrev pub wants_by : Text → List Text → Option Wants
wants_by command words =
    if bytes_eq command (codes "run") then run_in words
    else if bytes_eq command (codes "check") then option_map Check (file_in command words)
    else if bytes_eq command (codes "inputs") then option_map Inputs (file_in command words)
    else if bytes_eq command (codes "cwl") then cwl_in words
    else if bytes_eq command (codes "load") then option_map Load (load_in words)
    else if bytes_eq command (codes "bundle") then option_map Bundle (file_in command words)
    else if bytes_eq command (codes "explain") then option_map Explain (code_in words)
    else None

abbrev pub some_nul : List Text → Bool
some_nul [] = false
some_nul (word ∷ words) = has_nul word || some_nul words

abbrev pub named_by_first : List Text → Option Wants
named_by_first [] = None
named_by_first (command ∷ rest) = wants_by command (command ∷ rest)

-- help and the version, or what the first word names
unfoldable pub wants_of_plain : List Text → Option Wants
wants_of_plain words = option_or (explained words) (named_by_first words)

-- what the words ask for, or none where they have no reading
abbrev pub wants : List Text → Option Wants
wants words = if some_nul words then None else wants_of_plain words

-- 1 to 64 workers, a root of at most 512 bytes, 1 to 10,000 calls
abbrev pub IsWithinLimits : Wants → Type 0
IsWithinLimits (Run file inputs workers root journal) = (1 ≤ workers) × (workers ≤ 64) × (length root ≤ 512)
IsWithinLimits (Load number) = (1 ≤ number) × (number ≤ 10000)
IsWithinLimits _ = Unit {0}
