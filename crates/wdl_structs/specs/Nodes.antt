-- A number for each name of each document, and which names are one struct.
use Rattle.std.specs.Prelude.{◌≡◌, ◌↔◌, ℕ, zero, suc, ◌+◌, ◌<◌, Bool, true, ◌&&◌, List, [], ◌∷◌, length, slice_index_or, if◌then◌else◌}
use Rattle.std.specs.List.{list_all}
use Rattle.std.specs.Str.{bytes_eq}
use Rattle.wdl_base.specs.Names.{is_among}
use Rattle.wdl_typed.specs.Lists.{are_distinct}
use Rattle.wdl_ast.specs.declared.document.Import.{Import}
use Rattle.wdl_library.specs.declared.doc.Doc.{Doc}
use Rattle.wdl_library.specs.declared.doc.Link.{Link}
use Rattle.wdl_library.specs.declared.doc.StructName.{StructName}
use Rattle.wdl_library.specs.Sections.{imports_of}
use Rattle.wdl_library.specs.Names.{given}
use Rattle.wdl_library.specs.Structs.{Labels, all_have, agrees_on}
use Rattle.wdl_structs.specs.Classes.{Marks, Follows, IsLow, parent, root}
use Rattle.wdl_structs.specs.Tables.{Names, NamesAt, names_of}

-- ---- numbers of names

-- the number of the first name of document k
abbrev pub start : List Names → ℕ → ℕ
start [] k = 0
start (t ∷ ts) zero = 0
start (t ∷ ts) (suc k) = length t + start ts k

-- where the names of each document begin, from a number on
abbrev pub starts_from : ℕ → List Names → List ℕ
starts_from x [] = []
starts_from x (t ∷ ts) = x ∷ starts_from (x + length t) ts

abbrev pub total : List Names → ℕ
total [] = 0
total (t ∷ ts) = length t + total ts

-- a class for each name
pub record AreNumbered (tables : List Names) (starts parents : List ℕ) : Type 0 where
  pub starts_are : starts ≡ starts_from 0 tables
  pub len : length parents ≡ total tables
  pub alone : (i : ℕ) → parent parents i ≡ i

-- ---- the marks of numbers as labels of names

-- the mark of a name of a list, whose first has the number x; an unknown name is marked with itself
abbrev pub label_from : Marks → ℕ → Names → List ℕ → List ℕ
label_from g x [] n = n
label_from g x (m ∷ ms) n = if bytes_eq m n then g x else label_from g (suc x) ms n

abbrev pub label_by : List Names → Marks → Labels
label_by tables g k n = label_from g (start tables k) (names_of tables k) n

-- the names that stand for names, whose first has the number x
abbrev pub stands_from : Marks → ℕ → Names → List StructName
stands_from g x [] = []
stands_from g x (n ∷ ns) = record { name = n; stands_for = g x } ∷ stands_from g (suc x) ns

-- ---- labels that agree along imports

-- the names that an import gives have the mark of the name for which it gives them
abbrev pub holds_groups : (List ℕ → List ℕ) → Marks → ℕ → List Names → Bool
holds_groups label g x [] = true
holds_groups label g x (group ∷ gs) = all_have label (g x) group && holds_groups label g (suc x) gs

abbrev pub import_by : Labels → NamesAt → ℕ → Import → Link → Bool
import_by label names k i l = agrees_on label k l.doc i.aliases (names l.doc)

abbrev pub along_by : Labels → NamesAt → ℕ → List Import → List Link → Bool
along_by label names k (i ∷ is) (l ∷ ls) = import_by label names k i l && along_by label names k is ls
along_by label names k is ls = true

abbrev pub from_by : Labels → NamesAt → ℕ → List Doc → Bool
from_by label names k [] = true
from_by label names k (d ∷ ds) = along_by label names k (imports_of d.document) d.imports && from_by label names (suc k) ds

-- ---- classes that are joined

abbrev pub Test : Type 0
Test = Marks → Bool

-- the classes are joined so that exactly the marks that pass the test follow them
pub record AreJoined (old new : List ℕ) (test : Test) : Type 0 where
  pub low : IsLow new
  pub len : length new ≡ length old
  pub follows : (g : Marks) → Follows new g ↔ (Follows old g × (test g ≡ true))

-- all of these are among those
abbrev pub all_among : Names → Names → Bool
all_among ns ms = list_all (λ m. is_among m ns) ms

abbrev pub groups_among : Names → List Names → Bool
groups_among ns gs = list_all (all_among ns) gs

-- what an import gives is among the names of the importing document
abbrev pub gives_among : NamesAt → ℕ → Import → Link → Bool
gives_among names k i l = all_among (names k) (given i.aliases (names l.doc))

-- the document of that number has these names, and each name of each document has a number
pub record IsAt (tables : List Names) (starts parents : List ℕ) (number : ℕ) (ns : Names) : Type 0 where
  pub starts_are : starts ≡ starts_from 0 tables
  pub len : length parents ≡ total tables
  pub low : IsLow parents
  pub within : number < length tables
  pub names : ns ≡ names_of tables number
  pub distinct : are_distinct ns ≡ true

-- names are one struct where they are in one class
pub record AreClasses (docs : List Doc) (tables : List Names) (starts parents : List ℕ) : Type 0 where
  pub starts_are : starts ≡ starts_from 0 tables
  pub len : length parents ≡ total tables
  pub low : IsLow parents
  pub follows : (g : Marks) → Follows parents g ↔ (from_by (label_by tables g) (names_of tables) 0 docs ≡ true)

-- ---- documents with the names that stand for theirs

abbrev pub all_stands : Marks → ℕ → List Names → List (List StructName)
all_stands g x [] = []
all_stands g x (t ∷ ts) = stands_from g x t ∷ all_stands g (x + length t) ts

abbrev pub with_structs : Doc → List StructName → Doc
with_structs d s = record d { structs = s }

abbrev pub with_stands : List Doc → List (List StructName) → List Doc
with_stands (d ∷ ds) (s ∷ ss) = with_structs d s ∷ with_stands ds ss
with_stands ds ss = []

-- the name of document 0 with the number of the class
unfoldable pub mark_of : Names → List ℕ → Marks
mark_of first parents x = slice_index_or first (root parents x) []

-- each class has a name of document 0
abbrev pub LeadFirst : Names → List ℕ → Type 0
LeadFirst first parents = (x : ℕ) → x < length parents → root parents x < length first
