-- What a function value gives that makes the processes of workflows, which call workflows to a depth.
use Rattle.std.specs.Prelude.{◌≡◌, ℕ, ◌<◌, ◌^◌, IfOk, Result}
use Rattle.std.specs.declared.alloc.Global.{Global}
use denote.Ref.{Bor}
use Rattle.wdl_base.specs.declared.error.NoMemory.{NoMemory}
use Rattle.wdl_typed.specs.declared.checked.Checked.{Checked}
use Rattle.cwl_model.specs.declared.process.Process.{Process}
use Rattle.cwl_flow.specs.Drafts.{flow_to, library_of}

pub record Calls (checked : Checked) (depth : ℕ) (pre : Global → Bor Checked → ℕ → ℕ → Type 0)
    (post : Global → Bor Checked → ℕ → ℕ → Result Process NoMemory → Type 0) : Type 0 where
  pub callable : (alloc : Global) (library : Bor Checked) (k : ℕ) → pre alloc library depth k
  pub gives : (alloc : Global) (library : Bor Checked) (k : ℕ) (r : Result Process NoMemory) → k < 2 ^ 32 → library.now ≡ checked → post alloc library depth k r
      → IfOk r (λ p. p ≡ flow_to (library_of checked) depth k)
