-- What `load` runs: the document of n calls, and the answers of its jobs.
use Rattle.std.specs.Prelude.{◌≡◌, ℕ, zero, suc, ◌+◌, ◌-◌, ◌/◌, ◌%◌, ◌<◌, List, [], ◌∷◌, ◌++◌, codes, decimal, length, map, ⊤}
use Rattle.std.specs.List.{concat, range_with_len}
use Rattle.wdl_base.specs.declared.answer.Answer.{Answer}
use Rattle.wdl_base.specs.declared.body.Body.TheVariants.{Bytes}
use Rattle.wdl_base.specs.declared.place.Segment.{Segment}
use Rattle.wdl_base.specs.declared.place.Segment.TheVariants.{Call}
use Rattle.wdl_port.specs.Table.{Gives}
use Rattle.wdl_port.specs.declared.table_row.TableRow.{TableRow}

-- ---- the values

-- the value of a call: 2 for call 0, and for call i + 1 that of call i / 2 and i + 1, mod 1000; the bound is at least i
abbrev pub value_within : ℕ → ℕ → ℕ
value_within zero bound = 2
value_within (suc i) zero = 2
value_within (suc i) (suc bound) = (value_within (i / 2) bound + (i + 1)) % 1000

unfoldable pub load_value : ℕ → ℕ
load_value i = value_within i i

-- The value of call 0 is 2. That of call i + 1 is the value of the call that it stands on, and i + 1, mod 1000.
pub record FollowRule : Type 0 where
  pub first : load_value 0 ≡ 2
  pub next : (i : ℕ) → load_value (i + 1) ≡ (load_value (i / 2) + (i + 1)) % 1000

-- ---- the document

-- the name of a call
abbrev pub call_name : ℕ → List ℕ
call_name i = codes "c" ++ decimal i

-- the lines in front of the calls but the first
abbrev pub head_lines : List ℕ
head_lines =
    codes "version 1.1\ntask step {\n  input { Int a Int b }\n  command <<<\n    echo $(( (~{a} + ~{b}) % 1000 ))\n  >>>\n  output { Int r = read_int(stdout()) }\n}\nworkflow load {\n  call step as c0 { input: a = 1, b = 1 }\n"

-- the first words of the line of a call
unfoldable pub call_words : ℕ → List ℕ
call_words i = codes "  call step as c" ++ decimal i ++ codes " { input: "

-- its arguments: the output of a call, and a number
unfoldable pub argument_words : ℕ → ℕ → List ℕ
argument_words p i = codes "a = c" ++ decimal p ++ codes ".r, b = " ++ decimal i ++ codes " }\n"

-- the line of call i, which is not the first
abbrev pub call_line : ℕ → List ℕ
call_line i = call_words i ++ argument_words ((i - 1) / 2) i

-- the lines behind the calls, of which this is the last
abbrev pub tail_lines : ℕ → List ℕ
tail_lines last = codes "  output { Int last = c" ++ decimal last ++ codes ".r }\n}\n"

-- the document of n calls
unfoldable pub load_text : ℕ → List ℕ
load_text n = head_lines ++ concat (map call_line (range_with_len 1 (n - 1))) ++ tail_lines (n - 1)

-- ---- the answers

-- the place of a call
abbrev pub load_place : ℕ → List Segment
load_place i = Call (call_name i) ∷ []

-- the answer of call i: its value in decimal and a newline on the standard output, and nothing else
pub record IsLoadAnswer (i : ℕ) (a : Answer) : Type 0 where
  pub status : a.status ≡ 0
  pub out : a.out ≡ Bytes (decimal (load_value i) ++ codes "\n")
  pub err : a.err ≡ Bytes []
  pub files : a.files ≡ []

pub record IsLoadRow (i : ℕ) (row : TableRow) : Type 0 where
  pub place : row.place ≡ load_place i
  pub attempt : row.attempt ≡ 0
  pub answer : IsLoadAnswer i row.answer

-- one row a call, from this one on
abbrev pub AreRowsFrom : ℕ → List TableRow → Type 0
AreRowsFrom i [] = ⊤
AreRowsFrom i (row ∷ rows) = IsLoadRow i row × AreRowsFrom (i + 1) rows

-- the rows of n calls, in their order
pub record AreLoadRows (n : ℕ) (rows : List TableRow) : Type 0 where
  pub count : length rows ≡ n
  pub each : AreRowsFrom 0 rows

-- the answer of one of n calls to the first attempt at its place
pub record LoadGives (n : ℕ) (place : List Segment) (attempt : ℕ) (a : Answer) : Type 0 where
  pub number : ℕ
  pub within : number < n
  pub at_place : place ≡ load_place number
  pub first : attempt ≡ 0
  pub answer : IsLoadAnswer number a

-- The rows of n calls, of which none is refused, give the answers of these calls and no other.
abbrev pub TableGives : Type 0
TableGives =
    (n : ℕ) (rows : List TableRow) → AreLoadRows n rows → (place : List Segment) (attempt : ℕ) (a : Answer) → Gives rows [] place attempt a
    → LoadGives n place attempt a
