-- Outputs, one after another.
use Rattle.std.proofs.Common.{◌≡◌, ℕ, ◌+◌, ◌≤◌, List, ◌++◌, drop, Ok}
use Rattle.wdl_base.specs.declared.answer.Answer.{Answer}
use Rattle.wdl_value.specs.declared.env.Bind.{Bind}
use Rattle.wdl_value.specs.Fits.{Structs}
use Rattle.wdl_typed.specs.declared.task.TDecl.{TDecl}
use Rattle.wdl_typed.specs.Requests.{Tried, outputs_met, tried}
use Rattle.wdl_task.specs.Readiness.{AreOutputsReady}

-- what is told, and what follows
abbrev pub behind : List Bind → Tried (List Bind) → Tried (List Bind)
behind told rest = tried rest (λ more. Ok (told ++ more))

module _ (structs : Structs) (dir : List ℕ) (answer : Answer) where
  abbrev met : List Bind → List TDecl → Tried (List Bind)
  met env ds = outputs_met structs dir answer env ds

  -- So many outputs are told; the names that are seen, what is told, and the steps.
  pub record OutputsLeft (decls : List TDecl) (start : List Bind) (begun : ℕ) (k : ℕ) (env told : List Bind) (steps : ℕ) : Type 0 where
    pub ready : AreOutputsReady structs dir answer (drop k decls) env
    pub value : behind told (met env (drop k decls)) ≡ met start decls
    pub counted : steps ≤ begun + k
