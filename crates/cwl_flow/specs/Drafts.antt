-- Drafts of statements at a library and at a depth to which workflows may still call workflows.
use Rattle.std.specs.Prelude.{ℕ, List, [], ◌++◌, Option, Some, None, map}
use Rattle.wdl_base.specs.declared.name.Key.{Key}
use Rattle.wdl_typed.specs.declared.checked.Checked.{Checked}
use Rattle.wdl_typed.specs.declared.flow.Statement.{Statement}
use Rattle.wdl_typed.specs.declared.task.TDecl.{TDecl}
use Rattle.wdl_typed.specs.Bodies.{Library, Signature, library}
use Rattle.cwl_image.specs.Image.{Draft, Targets, body_links, body_uses, draft, flow_image, image, keys_of, target_by, without}
use Rattle.cwl_model.specs.declared.process.Process.{Process}
use Rattle.cwl_flow.specs.declared.context.Context.{Context}

abbrev pub library_of : Checked → Library
library_of c = library c.structs c.tasks c.flows

-- the process of a workflow, where workflows call workflows to this depth
unfoldable pub flow_to : Library → ℕ → ℕ → Process
flow_to lib depth k = flow_image lib depth k

-- the process of each target
unfoldable pub targets_at : Library → ℕ → Targets
targets_at lib depth = target_by lib (flow_to lib depth)

abbrev pub targets_of : Context → Targets
targets_of c = targets_at (library_of c.checked.now) c.depth

abbrev pub draft_of : Context → Statement → Draft
draft_of c = draft (library_of c.checked.now) (targets_of c)

abbrev pub drafts_of : Context → List Statement → List Draft
drafts_of c = map (draft_of c)

-- the process of the main workflow, where there is one: the image of the library
unfoldable pub image_of : Library → Option ℕ → Option Process
image_of lib None = None
image_of lib (Some main) = Some (image lib main)

-- the outputs that a signature declares
abbrev pub declared_by : Option Signature → List TDecl
declared_by None = []
declared_by (Some s) = s.outputs

-- what the body of a block uses of what is outside, with repetitions
abbrev pub used_outside : List Key → List Draft → List Key
used_outside items ds = without (items ++ keys_of (body_links ds)) (body_uses ds)

abbrev pub uses_of : Draft → List Key
uses_of d = d.uses
