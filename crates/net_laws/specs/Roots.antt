-- What a net grows of: a workflow of a checked form, to a depth that no path of calls passes.
use Rattle.std.specs.Prelude.{◌≡◌, ◌≤◌, ℕ, Bool, true, List, Option, Some, slice_get}
use Rattle.wdl_base.specs.declared.place.Segment.{Segment}
use Rattle.wdl_value.specs.declared.env.Bind.{Bind}
use Rattle.wdl_typed.specs.declared.flow.FlowDef.{FlowDef}
use Rattle.wdl_typed.specs.declared.flow.Statement.{out-Statement}
use Rattle.wdl_typed.specs.Bodies.{Library, body_nests, nests}
use Rattle.wdl_typed.specs.Kept.{is_checked}
use Rattle.net_laws.specs.Growing.{Form, all, each, one, takes, tells, whole}
use Rattle.net_laws.specs.Net.{Given}

-- At most that many blocks and calls stand on each path through what the form instantiates.
abbrev pub form_nests : List FlowDef → ℕ → Form → Bool
form_nests flows n (one x s g d) = nests flows n (out-Statement x)
form_nests flows n (all xs s g ds) = body_nests flows n xs
form_nests flows n (each xs s k item i ys qs) = body_nests flows n xs
form_nests flows n (takes given is s g) = true
form_nests flows n (tells ds s g) = true
form_nests flows n (whole f given place g ds) = body_nests flows n f.body

-- Each call of the form can run within the depth.
pub record IsCallable (lib : Library) (depth : ℕ) (f : Form) : Type 0 where
  pub most : ℕ
  pub within : most ≤ depth
  pub nests : form_nests lib.flows most f ≡ true

-- The form is a workflow of a checked form.
pub record IsRoot (lib : Library) (depth : ℕ) (f : Form) : Type 0 where
  pub main : Option ℕ
  pub checked : is_checked lib main ≡ true
  pub deep : 24 ≤ depth
  pub number : ℕ
  pub flow : FlowDef
  pub found : slice_get lib.flows number ≡ Some flow
  pub given : List Bind
  pub place : List Segment
  pub names : Given
  pub dones : List ℕ
  pub is : f ≡ whole flow given place names dones
