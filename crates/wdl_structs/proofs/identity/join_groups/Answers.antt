use Rattle.std.proofs.Common.{◌+◌, List, ap, drop, ◌∙◌, sym}
use Rattle.std.proofs.lemmas.Bool.{and_parts}
use Rattle.std.proofs.lemmas.List.{drop_all}
use Rattle.wdl_library.specs.Structs.{all_have}
use Rattle.wdl_structs.specs.Classes.{Marks}
use Rattle.wdl_structs.specs.Tables.{Names, named}
use Rattle.wdl_structs.specs.Nodes.{label_from, holds_groups, all_among, groups_among}
use Rattle.wdl_structs.proofs.NodeLaws.{joining_more, joining_done, joined_as, holds_next}
use Rattle.wdl_structs.proofs.StepLaws.{next_item}
use Rattle.wdl_structs.proofs.identity.join_groups.Goals as goal

pub loop-at-preserved : goal.loop-at-preserved
loop-at-preserved c =
    let l = c.loop-at in
    let x = c.args.start in
    let ns = named c.args.index.now in
    let first = c.args.first in
    let groups = c.args.groups.now in
    let group = c.index-groups-at.result in
    let next = next_item groups l.at group c.loop-at-test.true c.index-groups-at.is in (
      joining_more c.args.parents.now l.parents c.join_group.new.parents (λ (g : Marks). holds_groups (label_from g x ns) g first groups)
          (λ (g : Marks). holds_groups (label_from g x ns) g (first + l.at) (drop l.at groups))
          (λ (g : Marks). all_have (label_from g x ns) (g (first + l.at)) group) (λ (g : Marks). holds_groups (label_from g x ns) g (first + (l.at + 1)) (drop (l.at + 1) groups)) l.invariant.0
          (joined_as l.parents c.join_group.new.parents (λ (g : Marks). all_have (label_from g x ns) (g (first + l.at)) c.as_slice.result.now) (λ (g : Marks). all_have (label_from g x ns) (g (first + l.at)) group)
          (λ (g : Marks). ap (all_have (label_from g x ns) (g (first + l.at))) c.as_slice.ensures) c.join_group.ensures)
          (λ (g : Marks). holds_next (λ (h : Marks). label_from h x ns) g first l.at group (drop l.at groups) (drop (l.at + 1) groups) next),
      (and_parts (all_among ns group) (groups_among ns (drop (l.at + 1) groups)) (sym (ap (λ (gs : List Names). groups_among ns gs) next) ∙ l.invariant.1)).1,
    )

pub returns : goal.returns
returns c =
    let l = c.loop-at in
    let x = c.args.start in
    let ns = named c.args.index.now in
    let first = c.args.first in
    let groups = c.args.groups.now in
    joining_done c.args.parents.now l.parents (λ (g : Marks). holds_groups (label_from g x ns) g first groups) (λ (g : Marks). holds_groups (label_from g x ns) g (first + l.at) (drop l.at groups)) l.invariant.0
    (λ (g : Marks). ap (holds_groups (label_from g x ns) g (first + l.at)) (drop_all l.at groups c.loop-at-test.false))
