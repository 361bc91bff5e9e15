-- Documents whose names are known.
use Rattle.std.specs.Prelude.{◌≡◌, ◌↔◌, ℕ, true, List, Result, Ok, Err}
use Rattle.std.specs.List.{list_all}
use Rattle.wdl_library.specs.declared.doc.Doc.{Doc}
use Rattle.wdl_library.specs.Links.{has_links, has_no_circle}
use Rattle.wdl_value.specs.declared.ty.Member.{Member}
use Rattle.wdl_value.specs.declared.ty.StructDef.{StructDef}
use Rattle.wdl_links.specs.declared.fault.LinkFault.{LinkFault}
use Rattle.wdl_links.specs.Circles.{AreReached}
use Rattle.wdl_structs.specs.Kept.{Kept, Has, KeepsFrom, DiffersFrom, KeepsAll, AreFull, AreDefs}
use Rattle.wdl_structs.specs.Nodes.{all_stands, with_stands, mark_of}
use Rattle.wdl_structs.specs.Tables.{Names, names_of, AreSeen, all_know}

-- documents with links, without struct names, and the names that each sees
pub record IsReady (docs : List Doc) (tables : List Names) : Type 0 where
  pub linked : list_all (has_links docs) docs ≡ true
  pub ends : has_no_circle docs ≡ true
  pub reached : AreReached docs
  pub seen : AreSeen docs tables
  pub known : all_know (names_of tables) docs ≡ true

-- the documents with the names of document 0 that stand for theirs
abbrev pub stood_by : List Doc → List Names → List ℕ → List Doc
stood_by docs tables parents = with_stands docs (all_stands (mark_of (names_of tables 0) parents) 0 tables)

-- the members of their sections, and no others, are kept
abbrev pub KeepsThem : List Doc → List Names → List ℕ → Kept → Type 0
KeepsThem docs tables parents kept = (j : ℕ) (x : List Member) → Has kept j x ↔ KeepsFrom parents tables 0 docs j x

-- each name of document 0 is that of a section
abbrev pub IsFull : List Doc → List Names → List ℕ → Type 0
IsFull docs tables parents = (kept : Kept) → KeepsThem docs tables parents kept → AreFull parents kept (names_of tables 0)

abbrev pub HasStructsBy : List Doc → List Names → List ℕ → Result (List StructDef) LinkFault → Type 0
HasStructsBy docs tables parents (Ok structs) = (kept : Kept) × KeepsThem docs tables parents kept × AreDefs parents kept 0 (names_of tables 0) structs
HasStructsBy docs tables parents (Err e) = KeepsAll (KeepsFrom parents tables 0 docs) (DiffersFrom parents tables 0 docs) (Err e)
