-- What the first struct of a name gives.
use Rattle.std.proofs.Common.{◌≡◌, ℕ, Bool, true, false, cond, List, [], ◌∷◌, Option, None, Some, option_and_then, option_map, refl, ap, sym, ◌∙◌}
use Rattle.std.proofs.lemmas.Slice.Eq.{bytes_eq-Decides}
use Rattle.std.specs.List.{find}
use Rattle.std.specs.Str.{bytes_eq}
use Rattle.wdl_value.specs.declared.ty.StructDef.{StructDef}
use Rattle.wdl_value.specs.Fits.{members_of}
use Rattle.struct_members.proofs.FindLemmas.{members_of-find}
use Rattle.wdl_check_rules.specs.Locals.{Naming, struct_named}

some_is : (d e : StructDef) → Some d ≡ Some e → d ≡ e
some_is d e h = cc

found_name : (ds : List StructDef) (name : List ℕ) (d : StructDef) → find (λ (e : StructDef). bytes_eq e.name name) ds ≡ Some d → d.name ≡ name
found_name [] name d h = cc
found_name (e ∷ ds) name d h = by_test (bytes_eq e.name name) refl h (found_name ds name d)
  where
    by_test : (b : Bool) → bytes_eq e.name name ≡ b → cond b (Some e) (find (λ (x : StructDef). bytes_eq x.name name) ds) ≡ Some d
        → (find (λ (x : StructDef). bytes_eq x.name name) ds ≡ Some d → d.name ≡ name) → d.name ≡ name
    by_test true is h rest = ap (λ (x : StructDef). x.name) (sym (some_is e d h)) ∙ (bytes_eq-Decides e.name name).0 is
    by_test false is h rest = rest h

-- a struct that a name of a document stands for is the first of its name
pub named_members : (structs : List StructDef) (locals : Naming) (name : List ℕ) (d : StructDef)
    → struct_named structs locals name ≡ Some d → members_of structs d.name ≡ Some d.members
named_members structs locals name d h = by_name (locals name) h
  where
    by_name : (o : Option (List ℕ)) → option_and_then (λ known. find (λ (e : StructDef). bytes_eq e.name known) structs) o ≡ Some d → members_of structs d.name ≡ Some d.members
    by_name None h = cc
    by_name (Some known) h =
        ap (members_of structs) (found_name structs known d h) ∙ members_of-find structs known ∙ ap (option_map (λ (e : StructDef). e.members)) h
