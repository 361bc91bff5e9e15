use Rattle.std.proofs.Common.{◌+◌, ap, drop, ◌∙◌, sym}
use Rattle.std.proofs.lemmas.Bool.{and_parts}
use Rattle.std.proofs.lemmas.List.{drop_all}
use Rattle.std.specs.Str.{bytes_eq}
use Rattle.wdl_base.specs.Names.{is_among}
use Rattle.wdl_library.specs.Structs.{all_have}
use Rattle.wdl_structs.specs.Classes.{Marks}
use Rattle.wdl_structs.specs.Tables.{Names, named}
use Rattle.wdl_structs.specs.Nodes.{label_from, all_among}
use Rattle.wdl_structs.proofs.NodeLaws.{joining_more, joining_done, joined_name}
use Rattle.wdl_structs.proofs.StepLaws.{next_item}
use Rattle.wdl_structs.proofs.identity.join_group.Goals as goal

pub loop-name-preserved : goal.loop-name-preserved
loop-name-preserved c =
    let l = c.loop-name in
    let x = c.args.start in
    let ns = named c.args.index.now in
    let from = c.args.from in
    let group = c.args.group.now in
    let n = c.name-item.result in
    let next = next_item group l.name-index n c.loop-name-test.true c.name-item.is in (
      joining_more c.args.parents.now l.parents c.join.new.parents (λ (g : Marks). all_have (label_from g x ns) (g from) group) (λ (g : Marks). all_have (label_from g x ns) (g from) (drop l.name-index group))
          (λ (g : Marks). bytes_eq (label_from g x ns n) (g from)) (λ (g : Marks). all_have (label_from g x ns) (g from) (drop (l.name-index + 1) group)) l.invariant.0
          (joined_name l.parents c.join.new.parents x ns n c.in-Some.at from c.requires.distinct c.in-Some.ensures.some c.join.ensures.low c.join.ensures.len c.join.ensures.joined)
          (λ (g : Marks). ap (all_have (label_from g x ns) (g from)) next),
      (and_parts (is_among n ns) (all_among ns (drop (l.name-index + 1) group)) (sym (ap (λ (ms : Names). all_among ns ms) next) ∙ l.invariant.1)).1,
    )

pub returns : goal.returns
returns c =
    let l = c.loop-name in
    let x = c.args.start in
    let ns = named c.args.index.now in
    let from = c.args.from in
    let group = c.args.group.now in
    joining_done c.args.parents.now l.parents (λ (g : Marks). all_have (label_from g x ns) (g from) group) (λ (g : Marks). all_have (label_from g x ns) (g from) (drop l.name-index group)) l.invariant.0
    (λ (g : Marks). ap (all_have (label_from g x ns) (g from)) (drop_all l.name-index group c.loop-name-test.false))
