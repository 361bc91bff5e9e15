-- Reads the tokens of a text, a token at a time.
pub mod Numbers
pub mod Code
pub mod Escapes
pub mod Chars
pub mod Gaps
use Rattle.std.specs.Prelude.{◌≡◌, ℕ, zero, suc, ◌+◌, ◌≤◌, Bool, false, if◌then◌else◌, List, [], ◌∷◌, ◌++◌, length, drop, Option, Some, None, Result, Ok, Err}
use Rattle.wdl_base.specs.declared.span.Span.{Span}
use Rattle.wdl_ast.specs.declared.token.Token.{Token}
use Rattle.wdl_ast.specs.Spelled.{Open, inside_of, inside, in_hole, after, is_command, unclosed, span_at, placed}
use Rattle.wdl_ast.specs.Spelled.Classes.{Bytes, is_end}
use Rattle.wdl_ast.specs.Spelled.Chars.{Inside}
use Rattle.wdl_lex.specs.declared.fault.Flaw.{Flaw}
use Rattle.wdl_lex.specs.declared.fault.NoToken.{NoToken}
use Rattle.wdl_lex.specs.declared.fault.NoToken.TheVariants as stop
use Rattle.wdl_lex.specs.declared.fault.LexFault.{LexFault}
use Rattle.wdl_lex.specs.declared.fault.LexFault.TheVariants as lex_fault
pub use Rattle.wdl_lex.specs.Faults.{open_code}
use Rattle.wdl_lex.specs.Reading.Code.{Found, code_token}
use Rattle.wdl_lex.specs.Reading.Chars.{text_token}
use Rattle.wdl_lex.specs.Reading.Gaps.{gap_in}

-- a code, and where in the document
abbrev pub Fault : Type 0
Fault = ℕ × Span

abbrev pub fault_at : ℕ → ℕ → Flaw → Fault
fault_at doc at f = (f.code, span_at doc (at + f.start) (at + f.end))

unfoldable pub located : {A : Type 0} → ℕ → ℕ → Result A Flaw → Result A Fault
located doc at (Ok x) = Ok x
located doc at (Err f) = Err (fault_at doc at f)

unfoldable pub and_then : {A B : Type 0} → Result A Fault → (A → Result B Fault) → Result B Fault
and_then (Ok x) f = f x
and_then (Err e) f = Err e

abbrev pub token_in : Bool → Option Inside → Bool → Bool → Bytes → Result Found Flaw
token_in limited None awaits closes z = code_token limited awaits closes z
token_in limited (Some i) awaits closes z = text_token i z

-- the token at the front
abbrev pub token : Bool → Bool → Open → Bytes → Result Found Flaw
token limited awaits opened z = token_in limited (inside opened) awaits (in_hole opened) z

abbrev pub gap : Open → Bytes → ℕ
gap opened z = gap_in (inside opened) z

-- the end of the text, with the innermost string or command that is open
abbrev pub ended : Option Token → Result (List Token) Fault
ended None = Ok []
ended (Some t) = Err (open_code (inside_of t.kind), t.span)

-- The first number bounds the tokens, and `at` is where the text stands. `limited` says that words have their limit.
module _ (limited : Bool) (doc : ℕ) where
  unfoldable pub lex_from : ℕ → ℕ → Bool → Open → Bytes → Result (List Token) Fault
  lex_from zero at awaits opened z = Err (102, span_at doc at at)
  lex_from (suc n) at awaits opened z =
      let g = gap opened z in
      let y = drop g z in
      if is_end y then ended (unclosed opened)
      else and_then (located doc (at + g) (token limited awaits opened y)) (λ t.
      and_then (lex_from n (at + g + t.1) (is_command t.0) (after opened (span_at doc (at + g) (at + g + t.1)) t.0) (drop t.1 y)) (λ ts.
      Ok (placed t.0 (span_at doc (at + g) (at + g + t.1)) ∷ ts)))

  unfoldable pub lex : Bytes → Result (List Token) Fault
  lex z = lex_from (suc (length z)) 0 false [] z

-- where a stop stands in the document, with the token at a place
abbrev pub stopped : ℕ → ℕ → NoToken → LexFault
stopped doc at stop.NoMemory = lex_fault.NoMemory
stopped doc at (stop.Flaw f) = lex_fault.Bad f.code (span_at doc (at + f.start) (at + f.end))

-- it ends at most 4 bytes past n bytes
abbrev pub IsNear : ℕ → NoToken → Type 0
IsNear n stop.NoMemory = Unit {0}
IsNear n (stop.Flaw f) = (f.start ≤ n) × (f.end ≤ n + 4)

-- what a function that reads ensures: what reading gives, unless memory runs out
abbrev pub Fails : {A : Type 0} → Result A Fault → LexFault → Type 0
Fails read lex_fault.NoMemory = Unit {0}
Fails read (lex_fault.Bad code span) = read ≡ Err (code, span)

abbrev pub Gives : {A : Type 0} → Result A Fault → Result A LexFault → Type 0
Gives read (Ok x) = read ≡ Ok x
Gives read (Err e) = Fails read e

abbrev pub with_front : List Token → Result (List Token) Fault → Result (List Token) Fault
with_front front read = and_then read (λ ts. Ok (front ++ ts))
