use Rattle.std.proofs.Common.{[], ap, sym, ◌∙◌, get_or, subst, ℕ, ◌<◌, length}
use Rattle.wdl_structs.specs.declared.table.Entry.{Entry}
use Rattle.wdl_structs.specs.Nodes.{mark_of}
use Rattle.wdl_structs.specs.Tables.{named}
use Rattle.wdl_structs.proofs.TableLaws.{name_read, named_length}
use Rattle.wdl_structs.proofs.struct_names.standing.Goals as goal

pub returns : goal.returns
unfolding mark_of
returns c =
    let es = c.args.first.now in
    let e = c.index-first-least.result in
    let k = c.least.result in
    let below : k < length es = subst (λ (n : ℕ). k < n) (named_length es) (subst (λ (n : ℕ). n < length (named es)) (sym c.least.ensures.root) (c.requires.lead c.args.number c.requires.within)) in
    ap (λ (x : Entry). x.name) (sym c.index-first-least.is) ∙ sym (name_read es k e below c.index-first-least.is) ∙ ap (λ (n : ℕ). get_or (named es) n []) c.least.ensures.root
