use Rattle.std.proofs.Common.{◌<◌, false, sym, ap, ◌∙◌, length, arith}
use Rattle.std.proofs.lemmas.Option.{slice_get_within}
use Rattle.wdl_library.specs.Sections.{imports_in}
use Rattle.wdl_links.specs.Circles.{open_link}
use Rattle.wdl_links.proofs.CircleLemmas.{at_index, next_open, some_open}
use Rattle.wdl_links.proofs.circle.next_open.Goals as goal

pub unreachable-requires : goal.unreachable-requires
unreachable-requires c =
    let docs = c.args.docs.now in
    let marks = c.args.marks.now in
    let d = c.index-docs-at.result in
    let within = slice_get_within marks c.args.at false c.requires.here in
    let below : c.args.at < length docs = omega (arith, within, c.requires.marks.len) in
    some_open docs marks c.args.at d c.requires.marks (at_index docs c.args.at d below c.index-docs-at.is) c.requires.here
    (ap (λ s. open_link marks (imports_in s) d.imports) (sym c.as_slice.ensures)
    ∙ ap (open_link marks (imports_in c.as_slice.result.now)) (sym c.as_slice-2.ensures)
    ∙ sym c.open_link.ensures ∙ c.in-None.is)

pub returns : goal.returns
returns c =
    let docs = c.args.docs.now in
    let marks = c.args.marks.now in
    let d = c.index-docs-at.result in
    let within = slice_get_within marks c.args.at false c.requires.here in
    let below : c.args.at < length docs = omega (arith, within, c.requires.marks.len) in
    next_open docs marks c.args.at d c.in-Some.found c.requires.marks (at_index docs c.args.at d below c.index-docs-at.is)
    (ap (λ s. open_link marks (imports_in s) d.imports) (sym c.as_slice.ensures)
    ∙ ap (open_link marks (imports_in c.as_slice.result.now)) (sym c.as_slice-2.ensures)
    ∙ sym c.open_link.ensures ∙ c.in-Some.is)
