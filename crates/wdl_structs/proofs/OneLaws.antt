-- Documents with their struct names have one list of structs.
use Rattle.std.proofs.Common.{◌≡◌, ℕ, ◌<◌, true, List, [], map, length, Option, Some, sym, ap, ◌∙◌}
use Rattle.wdl_base.specs.Names.{is_among}
use Rattle.wdl_typed.specs.Lists.{are_distinct}
use Rattle.wdl_value.specs.declared.ty.StructDef.{StructDef}
use Rattle.wdl_library.specs.declared.doc.Doc.{Doc}
use Rattle.wdl_library.specs.Links.{has_no_circle}
use Rattle.wdl_library.specs.Names.{names_in, structs_of, structs_at, names_at}
use Rattle.wdl_library.specs.Structs.{stand_in, stand_at, members_of, members_at, HasStructs}
use Rattle.wdl_structs.proofs.NameLaws.{among_place}
use Rattle.wdl_structs.proofs.StandLaws.{from_is}
use Rattle.wdl_structs.proofs.UniqueLaws.{seen_at, distinct_at, past, stand_at_place}
use Rattle.wdl_structs.proofs.StructLaws.{IsDeclared, is_declared, have_section, alike_at, defs_same}

module _ (docs : List Doc) (ends : has_no_circle docs ≡ true) (some : 0 < length docs) where
  -- the members of a name are those of a section, whatever the structs
  name_members : (structs : List StructDef) → HasStructs docs structs → (n : List ℕ) → is_among n (names_at docs 0) ≡ true → (d : IsDeclared docs (names_at docs) 0 n)
      → members_at structs n ≡ Some (members_of (stand_in d.doc.structs) d.section)
  name_members structs h n a d =
      let p = among_place n (names_at docs 0) a in
      let s = stand_at_place (structs_at docs 0) p.0 n (distinct_at docs 0 h.named) p.1 in
      let alike = alike_at structs (structs_at docs 0) p.0 s.0 h.alike s.1 in
      let stand : stand_at docs 0 n ≡ stand_in d.doc.structs d.section.name.name =
      d.same (stand_at docs) (sym (from_is (stand_at docs) docs 0 docs) ∙ h.agreeing) ∙ ap (λ (o : Option Doc). stand_in (structs_of o) d.section.name.name) d.at in
      ap (members_at structs) (sym s.2) ∙ alike ∙ ap (members_at structs) (sym s.3 ∙ stand) ∙ have_section structs docs d.number d.doc d.place d.section h.sections d.at d.there

  pub one_structs : (xs ys : List StructDef) → HasStructs docs xs → HasStructs docs ys → xs ≡ ys
  one_structs xs ys h k = defs_same xs ys (h.names ∙ sym k.names) (ap are_distinct h.names ∙ distinct_at docs 0 h.named) same
    where
      empty : (j : ℕ) → (j < length docs → ⊥) → names_at docs j ≡ []
      empty j g = ap (λ (o : Option Doc). names_in (structs_of o)) (past docs j g)

      same : (n : List ℕ) → is_among n (map (λ s. s.name) xs) ≡ true → members_at xs n ≡ members_at ys n
      same n a =
          let b : is_among n (names_at docs 0) ≡ true = ap (is_among n) (sym h.names) ∙ a in
          let d = is_declared docs (names_at docs) (λ j c at. seen_at docs j c h.named at) empty 0 n ends some b in
          name_members xs h n b d ∙ sym (name_members ys k n b d)
