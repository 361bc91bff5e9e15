use Rattle.std.proofs.Common.{◌≡◌, drop}
use Rattle.wdl_library.specs.Sections.{imports_in}
use Rattle.wdl_links.specs.Circles.{open_link}
use Rattle.wdl_links.proofs.circle.open_link.Given as goal

abbrev pub invariant-loop-section : goal.invariant-loop-section
invariant-loop-section l = open_link l.marks (imports_in (drop l.section-index l.sections)) l.left ≡ open_link l.marks (imports_in l.sections) l.links
