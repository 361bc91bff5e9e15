use Rattle.std.proofs.Common.{◌≡◌, ◌+◌, [], Ok, List, ap, sym, subst, ◌∙◌, take, drop, map}
use Rattle.std.specs.List.{AllZip}
use Rattle.std.proofs.lemmas.Bool.{and_parts}
use Rattle.wdl_base.specs.Names.{is_among}
use Rattle.wdl_ast.specs.declared.document.Section.{Section}
use Rattle.wdl_library.specs.declared.doc.Link.{Link}
use Rattle.wdl_library.specs.Sections.{imports_in, imports_of}
use Rattle.wdl_links.specs.declared.want.Want.{Want}
use Rattle.wdl_links.specs.Wants.{wants_of}
use Rattle.wdl_sources.specs.Walks.{paths}
use Rattle.wdl_structs.proofs.StepLaws.{next_item}
use Rattle.wdl_imports.specs.LinksTo.{IsFor, all_among}
use Rattle.wdl_imports.proofs.LinkLaws.{links_for, links_more, taken_whole}
use Rattle.wdl_imports.proofs.link.links_of.Goals as goal

pub loop-want-preserved : goal.loop-want-preserved
loop-want-preserved c =
    let l = c.loop-want in
    let ps = paths c.args.sources.now in
    let ws = c.as_slice-want-items.result.now in
    let w = c.want-item.result in
    let i = l.want-index in
    let k = c.in_ok-link_of.field-0 in
    let next = next_item ws i w c.loop-want-test.true c.want-item.is in (
      subst (λ (ls : List Link). AllZip (IsFor ps) (take (i + 1) ws) ls) (sym c.in_ok-push.ensures.ok)
          (links_more ps ws l.links i w k c.loop-want-test.true c.want-item.is l.invariant.0 c.in_ok-link_of.ensures),
      (and_parts (is_among w.path ps) (all_among ps (map (λ x. x.path) (drop (i + 1) ws))) (sym (ap (λ (xs : List Want). all_among ps (map (λ x. x.path) xs)) next) ∙ l.invariant.1)).1,
    )

pub returns : goal.returns
returns c =
    let l = c.loop-want in
    let ps = paths c.args.sources.now in
    let s = c.args.source.now in
    let ws = c.as_slice-want-items.result.now in
    let e : wants_of s.path [] (imports_of s.document) ≡ Ok c.in-Ok.wants =
    ap (λ (ss : List Section). wants_of s.path [] (imports_in ss)) (sym c.as_slice.ensures) ∙ c.in-Ok.ensures in
    links_for ps s.path [] (imports_of s.document) c.in-Ok.wants l.links e
    (subst (λ (xs : List Want). AllZip (IsFor ps) xs l.links) (taken_whole ws l.want-index c.loop-want-test.false ∙ c.as_slice-want-items.ensures) l.invariant.0)
