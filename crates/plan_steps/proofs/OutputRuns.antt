-- The outputs of a call, one after the other.
use Rattle.std.proofs.Common.{◌≡◌, ℕ, suc, Bool, true, false, List, [], ◌∷◌, ◌++◌, Ok, Err, length, ap, refl, sym, ◌∙◌, cond}
use Rattle.wdl_base.specs.declared.answer.Answer.{Answer}
use Rattle.wdl_value.specs.declared.env.Bind.{Bind}
use Rattle.wdl_value.specs.declared.value.Value.{Value}
use Rattle.wdl_value.specs.Fits.{Structs}
use Rattle.wdl_typed.specs.declared.task.TDecl.{TDecl}
use Rattle.wdl_typed.specs.declared.task.TaskDef.{TaskDef}
use Rattle.wdl_typed.specs.Requests.{Asked, Tried, bad_status, bind, is_success, named, output_met, outputs_met, tells, tried}

-- as many as there are outputs
met_count : (structs : Structs) (dir : List ℕ) (answer : Answer) (env : List Bind) (ds : List TDecl) (outs : List Bind) → outputs_met structs dir answer env ds ≡ Ok outs → length outs ≡ length ds
met_count structs dir answer env [] outs e = ap (λ (xs : List Bind). length xs) (sym (let same : [] ≡ outs = cc in same))
met_count structs dir answer env (d ∷ ds) outs e =
    by_value (λ x more g. met_count structs dir answer (env ++ bind d.name x ∷ []) ds more g) (named d.name (output_met structs dir answer env d)) e
  where
    by_rest : (x : Value) (o : Tried (List Bind)) → ((more : List Bind) → o ≡ Ok more → length more ≡ length ds) → tried o (λ more. Ok (bind d.name x ∷ more)) ≡ Ok outs → length outs ≡ suc (length ds)
    by_rest x (Err f) rest e = absurd (let no : ⊥ = cc in no)
    by_rest x (Ok more) rest e =
        let own : bind d.name x ∷ more ≡ outs = cc in
        ap (λ (xs : List Bind). length xs) (sym own) ∙ ap (λ n. suc n) (rest more refl)

    by_value : ((x : Value) (more : List Bind) → outputs_met structs dir answer (env ++ bind d.name x ∷ []) ds ≡ Ok more → length more ≡ length ds) → (o : Tried Value)
        → tried o (λ x. tried (outputs_met structs dir answer (env ++ bind d.name x ∷ []) ds) (λ more. Ok (bind d.name x ∷ more))) ≡ Ok outs → length outs ≡ suc (length ds)
    by_value rest (Err f) e = absurd (let no : ⊥ = cc in no)
    by_value rest (Ok x) e = by_rest x (outputs_met structs dir answer (env ++ bind d.name x ∷ []) ds) (rest x) e

pub told_count : (structs : Structs) (t : TaskDef) (a : Asked) (dir : List ℕ) (answer : Answer) (outs : List Bind) → tells structs t a dir answer ≡ Ok outs → length outs ≡ length t.outputs
told_count structs t a dir answer outs e = by_status (is_success a.codes answer.status) e
  where
    by_status : (b : Bool) → cond b (outputs_met structs dir answer a.env t.outputs) (Err (bad_status answer.status)) ≡ Ok outs → length outs ≡ length t.outputs
    by_status true e = met_count structs dir answer a.env t.outputs outs e
    by_status false e = absurd (let no : ⊥ = cc in no)
