use Rattle.std.proofs.Common.{◌+◌, ◌++◌, ◌∷◌, [], List, ap, sym, subst, ◌∙◌, take}
use Rattle.std.proofs.lemmas.List.{take_more}
use Rattle.wdl_library.specs.declared.doc.Link.{Link}
use Rattle.wdl_sources.specs.declared.source.Source.{Source}
use Rattle.wdl_sources.specs.Walks.{paths}
use Rattle.wdl_structs.proofs.StepLaws.{next_item}
use Rattle.wdl_imports.specs.LinksTo.{AllLinks, AreNamed}
use Rattle.wdl_imports.proofs.LinkLaws.{all_links_more}
use Rattle.wdl_imports.proofs.link.all_links.Goals as goal

pub loop-source-preserved : goal.loop-source-preserved
loop-source-preserved c =
    let l = c.loop-source in
    let ps = paths c.args.sources.now in
    let ss = c.as_slice-source-items.result.now in
    let s = c.source-item.result in
    let i = l.source-index in
    let ls = c.in_ok-links_of.field-0 in
    let front = take_more ss i s c.loop-source-test.true ∙ ap (λ (x : Source). take i ss ++ x ∷ []) (sym c.source-item.is) in
    let next = next_item ss i s c.loop-source-test.true c.source-item.is in (
      subst (λ (all : List (List Link)). AllLinks ps (take (i + 1) ss) all) (sym c.in_ok-push.ensures.ok)
          (subst (λ (xs : List Source). AllLinks ps xs (l.links ++ ls ∷ [])) (sym front) (all_links_more ps (take i ss) s l.links ls l.invariant.0 c.in_ok-links_of.ensures)),
      (subst (λ (xs : List Source). AreNamed ps xs) next l.invariant.1).1,
    )
