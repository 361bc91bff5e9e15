-- The uri and the namespace of an import.
use Rattle.std.specs.Prelude.{ℕ, ◌-◌, List, [], take, drop, length, Option, Some, None, if◌then◌else◌, codes}
use Rattle.std.specs.Str.{bytes_eq}
use Rattle.wdl_ast.specs.declared.leaf.Chars.{Chars}
use Rattle.wdl_ast.specs.declared.workflow.Renaming.{Renaming}
use Rattle.wdl_ast.specs.declared.document.Import.{Import}
use Rattle.wdl_paths.specs.Resolve.{file_name}

abbrev pub text_of : Option Chars → List ℕ
text_of None = []
text_of (Some c) = c.text

abbrev pub uri_of : Import → List ℕ
uri_of i = text_of i.uri.chars

-- a file's name without `.wdl`
abbrev pub stem : List ℕ → List ℕ
stem s = if bytes_eq (drop (length s - 4) s) (codes ".wdl") then take (length s - 4) s else s

abbrev pub name_or : Option Renaming → List ℕ → List ℕ
name_or None s = s
name_or (Some r) s = r.name.name

-- the name behind `as`, or else the file's name without `.wdl`
abbrev pub namespace_of : Import → List ℕ
namespace_of i = name_or i.namespace (stem (file_name (uri_of i)))
