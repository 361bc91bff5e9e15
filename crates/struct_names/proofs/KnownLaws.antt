-- The names under which a document knows structs, as code has them.
use Rattle.std.proofs.Common.{◌≡◌, ℕ, Bool, true, false, List, [], ◌∷◌, Option, Some, map, option_map, refl, ap, ◌∙◌}
use Rattle.std.specs.Prelude.{cond}
use Rattle.std.specs.List.{find}
use Rattle.std.specs.Str.{bytes_eq}
use Rattle.wdl_library.specs.declared.doc.Doc.{Doc}
use Rattle.wdl_library.specs.declared.doc.StructName.{StructName}
use Rattle.wdl_check_rules.specs.declared.local.Local.{Local}
use Rattle.wdl_check_rules.specs.Locals.{stands_for}
use Rattle.struct_names.specs.Known.{known, name_of, naming}

found : (name : List ℕ) (ls : List Local) → stands_for ls name ≡ naming (map name_of ls) name
found name [] = refl
found name (l ∷ ls) = by_test (bytes_eq l.name.now name) (found name ls)
  where
    by_test : (b : Bool) → stands_for ls name ≡ naming (map name_of ls) name
        → option_map (λ (m : Local). m.stands_for.now) (cond b (Some l) (find (λ (m : Local). bytes_eq m.name.now name) ls))
        ≡ option_map (λ (s : StructName). s.stands_for) (cond b (Some (name_of l)) (find (λ (s : StructName). bytes_eq s.name name) (map name_of ls)))
    by_test true e = refl
    by_test false e = e

naming_is : (ls : List Local) → stands_for ls ≡ naming (map name_of ls)
naming_is ls = λ i name. found name ls i

pub known_is : (d : Doc) (ls : List Local) → map name_of ls ≡ d.structs → record { doc = d; locals = stands_for ls } ≡ known d
known_is d ls e = ap (λ (n : List ℕ → Option (List ℕ)). record { doc = d; locals = n }) (naming_is ls ∙ ap naming e)
