-- The outputs of a call, by what its target declares.
use Rattle.std.specs.Prelude.{◌≡◌, ℕ, List, Option, Some, None, map, refl}
use Rattle.wdl_typed.specs.Bodies.{Signature}
use Rattle.cwl_image.specs.Image.{call_output, signature_outputs}
use Rattle.cwl_flow.specs.Drafts.{declared_by}

pub outputs_are : (call : List ℕ) (s : Option Signature) → signature_outputs call s ≡ map (call_output call) (declared_by s)
outputs_are call None = refl
outputs_are call (Some s) = refl

pub ruleset declared = (outputs_are)
