-- Private declarations, one after another.
use Rattle.std.proofs.Common.{◌≡◌, ℕ, ◌+◌, ◌≤◌, ◌<◌, List, [], ◌∷◌, drop, length, get_or, Ok, Err, sym, ap, ◌∙◌, subst, refl, arith}
use Rattle.wdl_typed.specs.declared.task.TDecl.{TDecl}
use Rattle.wdl_typed.specs.Requests.{Laying, Prepared, Tried, named, placed_value, tried, with_private, with_privates}
use Rattle.wdl_task.specs.declared.fault.CallFault.{CallFault}
use Rattle.wdl_task.specs.Calls.{AreLaid}
use Rattle.wdl_task.specs.Readiness.{ArePrivatesReady}
use Rattle.wdl_task.specs.Tells.{Fails}
use Rattle.wdl_task.proofs.Loops.{cut, fails_tried}

-- a declaration, and those after it
pub privates_step : (d : TDecl) (ds : List TDecl) (p : Prepared) → with_privates (d ∷ ds) p ≡ tried (with_privates (d ∷ []) p) (with_privates ds)
privates_step d ds p = by_value (named d.name (placed_value p.env p.files d.value))
  where
    by_value : (r : Tried Laying) → tried r (λ l. with_privates ds (with_private d p l)) ≡ tried (tried r (λ l. Ok (with_private d p l))) (with_privates ds)
    by_value (Ok l) = refl
    by_value (Err e) = refl

-- So many declarations are taken; what is made, and the steps.
pub record PrivatesLeft (decls : List TDecl) (start : Prepared) (begun : ℕ) (k : ℕ) (made : Prepared) (steps : ℕ) : Type 0 where
  pub ready : ArePrivatesReady (drop k decls) made
  pub laid : AreLaid made.files
  pub value : with_privates (drop k decls) made ≡ with_privates decls start
  pub counted : steps ≤ begun + k

module _ (decls : List TDecl) (start : Prepared) (begun k : ℕ) (made : Prepared) (steps : ℕ) (d : TDecl) (at : d ≡ get_or decls k d) (below : k < length decls)
    (left : PrivatesLeft decls start begun k made steps) where
  abbrev later : List TDecl
  later = drop (k + 1) decls

  private_ready : ArePrivatesReady (d ∷ later) made
  private_ready = subst (λ (ds : List TDecl). ArePrivatesReady ds made) (cut decls k d at below) left.ready

  whole : tried (with_privates (d ∷ []) made) (with_privates later) ≡ with_privates decls start
  whole = sym (privates_step d later made) ∙ ap (λ (ds : List TDecl). with_privates ds made) (sym (cut decls k d at below)) ∙ left.value

  pub private_next : (more : Prepared) (now : ℕ) → with_privates (d ∷ []) made ≡ Ok more → AreLaid more.files → now ≤ steps + 1 → PrivatesLeft decls start begun (k + 1) more now
  private_next more now h laid n = record {
    ready = private_ready.1 more h;
    laid = laid;
    value = sym (ap (λ (o : Tried Prepared). tried o (with_privates later)) h) ∙ whole;
    counted = let before = left.counted in omega arith;
  }

  pub private_fails : (e : CallFault) → Fails (with_privates (d ∷ []) made) e → Fails (with_privates decls start) e
  private_fails e h = subst (λ (o : Tried Prepared). Fails o e) whole (fails_tried (with_privates (d ∷ []) made) (with_privates later) e h)
