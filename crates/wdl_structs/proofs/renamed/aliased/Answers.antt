use Rattle.std.proofs.Common.{◌≡◌, ◌++◌, ◌∷◌, [], Some, List, sym, ap, ◌∙◌, subst, take, slice_get, false}
use Rattle.std.proofs.lemmas.List.{take_more}
use Rattle.wdl_base.specs.Names.{is_among}
use Rattle.wdl_ast.specs.declared.document.Alias.{Alias}
use Rattle.wdl_structs.specs.declared.table.Entry.{Entry}
use Rattle.wdl_structs.specs.Tables.{named}
use Rattle.wdl_structs.proofs.TableLaws.{aliased_more, aliased_none}
use Rattle.wdl_structs.proofs.renamed.aliased.Goals as goal
use Rattle.wdl_structs.proofs.renamed.aliased.Goals.{in-Some+in_ok-copy+in_ok-add_to, in_default}

pub loop-alias-preserved : goal.loop-alias-preserved
loop-alias-preserved c =
    let l = c.loop-alias in
    let a = c.alias-item.result in
    let ns = named c.args.entries.now in
    let aliases = c.args.aliases.now in
    let done = take l.alias-index aliases in
    let more = ap (λ (x : Alias). done ++ x ∷ []) c.alias-item.is ∙ sym (take_more aliases l.alias-index a c.loop-alias-test.true) in
    elim c.match-place.branch [
      | in-Some+in_ok-copy+in_ok-add_to w ↦
          rw w.groups-is
          (aliased_more done _ a ns w.in-Some.at l.groups.items _ w.in_ok-copy.field-0 c.requires
          (subst (λ (es : List Entry). slice_get (named es) w.in-Some.at ≡ Some a.from.name) c.in_ok-index.ensures w.in-Some.ensures.some)
          l.invariant w.in_ok-add_to.ensures w.in_ok-copy.ensures more)
      | in_default w ↦
          rw w.groups-is
          (aliased_none done _ a ns l.groups.items (subst (λ (es : List Entry). is_among a.from.name (named es) ≡ false) c.in_ok-index.ensures w.in_default.ensures.none) l.invariant more)
    ]
