use Rattle.std.proofs.Common.{◌++◌, ◌∙◌, List, length, ap, sym, arith}
use Rattle.wdl_library.specs.declared.doc.Doc.{Doc}
use Rattle.wdl_sources.specs.declared.source.Source.{Source}
use Rattle.wdl_sources.specs.Walks.{paths}
use Rattle.wdl_imports.proofs.LinkLaws.{with_links, links_length, docs_done}
use Rattle.wdl_imports.proofs.link.docs_of.Goals as goal

pub loop-source-init : goal.loop-source-init
loop-source-init c =
    let ss = c.args.sources in
    let left = c.into_iter-source-iterator.result in
    let all = c.in_ok-links.links in
    let same = c.into_iter-source-iterator.ensures.into_iter_gives in (
      ap (λ (docs : List Doc). docs ++ with_links left all) c.new-docs.ensures ∙ ap (λ (xs : List Source). with_links xs all) same,
      links_length (paths ss) ss all c.in_ok-links.ensures ∙ ap (λ (xs : List Source). length xs) (sym same),
    )

pub returns : goal.returns
returns c =
    let l = c.loop-source in
    let none_left = ap (λ (xs : List Source). length xs) c.in-None.ensures.steps.0 in
    docs_done c.args.sources l.source-iterator c.in_ok-links.links l.links l.docs c.in_ok-links.ensures (omega (arith, none_left)) l.invariant.0
