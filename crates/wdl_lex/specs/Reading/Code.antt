-- Reads a token outside strings and commands.
use Rattle.std.specs.Prelude.{◌≡◌, ℕ, ◌+◌, Bool, not, ◌&&◌, if◌then◌else◌, nat_lt, [], ◌∷◌, take, drop, Option, Some, None, Result, Ok, Err}
use Rattle.std.specs.List.{prefix_len}
use Rattle.wdl_ast.specs.declared.token.Kind.{Kind}
use Rattle.wdl_ast.specs.declared.token.Kind.TheVariants as kind
use Rattle.wdl_ast.specs.Spelled.Classes.{Bytes, is_letter, is_word_byte, is_digit_of, first}
use Rattle.wdl_ast.specs.Spelled.Marks.{single, double, triple}
use Rattle.wdl_ast.specs.Spelled.Code.{stands_alone, fits}
use Rattle.wdl_lex.specs.declared.fault.Flaw.{Flaw}
use Rattle.wdl_lex.specs.declared.fault.NoToken.{NoToken}
use Rattle.wdl_lex.specs.declared.fault.NoToken.TheVariants as stop
use Rattle.wdl_lex.specs.Limits.{is_short}
pub use Rattle.wdl_lex.specs.Faults.{flaw, char_len}
use Rattle.wdl_lex.specs.Reading.Numbers.{frac_len, int_at}

-- a token and its length
abbrev pub Found : Type 0
Found = Kind × ℕ

abbrev pub rest : Bytes → Bytes
rest [] = []
rest (b ∷ z) = z

abbrev pub or_else : Option Kind → ℕ → Option Found → Option Found
or_else (Some k) n other = Some (k, n)
or_else None n other = other

abbrev pub mark_at : Bool → Bool → Bytes → Option Found
mark_at awaits closes z =
    or_else (triple awaits (first z) (first (rest z)) (first (rest (rest z)))) 3
    (or_else (double (first z) (first (rest z))) 2 (or_else (single awaits closes (first z)) 1 None))

abbrev pub word_at : Bytes → Found
word_at z = let n = prefix_len is_word_byte z in (kind.Word (take n z), n)

-- the longest token at the front
unfoldable pub longest_at : Bool → Bool → Bytes → Option Found
longest_at awaits closes z =
    if is_letter (first z) then Some (word_at z)
    else (if nat_lt 0 (frac_len z) then Some (kind.Frac (take (frac_len z) z), frac_len z)
    else (if is_digit_of 10 (first z) then Some (int_at z) else mark_at awaits closes z))

abbrev pub checked : Bool → Bytes → Option Found → Result Found Flaw
checked limited z None = Err (flaw 102 0 (char_len (first z)))
checked limited z (Some t) =
    if not (stands_alone t.0 (drop t.1 z)) then Err (flaw 102 0 (t.1 + 1))
    else (if not (fits t.0) then Err (flaw 106 0 t.1)
    else (if limited && not (is_short t.0) then Err (flaw 107 0 t.1) else Ok t))

unfoldable pub code_token : Bool → Bool → Bool → Bytes → Result Found Flaw
code_token limited awaits closes z = checked limited z (longest_at awaits closes z)

abbrev pub flawed : ℕ → ℕ → NoToken
flawed c to = stop.Flaw (flaw c 0 to)

-- what a function that reads a token ensures: what reading gives, unless memory runs out
abbrev pub Fails : {A : Type 0} → Result A Flaw → NoToken → Type 0
Fails read stop.NoMemory = Unit {0}
Fails read (stop.Flaw f) = read ≡ Err f

abbrev pub Gives : {A : Type 0} → Result A Flaw → Result A NoToken → Type 0
Gives read (Ok x) = read ≡ Ok x
Gives read (Err e) = Fails read e
