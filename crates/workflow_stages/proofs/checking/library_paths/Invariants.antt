use Rattle.std.proofs.Common.{◌≡◌, map, take}
use Rattle.wdl_library.specs.declared.doc.Doc.{Doc}
use Rattle.workflow_stages.proofs.checking.library_paths.Given as goal

abbrev pub invariant-loop-doc : goal.invariant-loop-doc
invariant-loop-doc l = l.paths ≡ map (λ (d : Doc). d.path) (take l.doc-index l.doc-items)
