-- Parts of a command, one after another.
use Rattle.std.proofs.Common.{◌≡◌, ℕ, ◌+◌, ◌≤◌, ◌<◌, List, [], ◌∷◌, ◌++◌, drop, length, get_or, Ok, Err, sym, ap, ◌∙◌, subst, refl, arith}
use Rattle.wdl_value.specs.declared.env.Bind.{Bind}
use Rattle.wdl_value.specs.declared.value.Value.{out-Value}
use Rattle.wdl_value.specs.Outcome.{Outcome, and_then}
use Rattle.wdl_stdlib.specs.declared.fault.EvalFault.{EvalFault}
use Rattle.wdl_typed.specs.declared.expr.TExpr.{TExpr}
use Rattle.wdl_typed.specs.declared.expr.TPart.{TPart}
use Rattle.wdl_typed.specs.declared.expr.TPart.TheVariants as part
use Rattle.wdl_typed.specs.Evaluation.{hole_text}
use Rattle.wdl_typed.specs.Requests.{Filled, Laying, filled, placed_value, settled_text}
use Rattle.wdl_task.specs.Calls.{AreLaid}
use Rattle.wdl_task.specs.Counts.{hole_count}
use Rattle.wdl_task.specs.Readiness.{AreHolesReady}
use Rattle.wdl_task.proofs.Loops.{Codes, codes_then, cut}

-- a part, and those after it
pub parts_step : (env : List Bind) (p : TPart TExpr) (ps : List (TPart TExpr)) (f : Filled) → filled env (p ∷ ps) f ≡ and_then (filled env (p ∷ []) f) (filled env ps)
parts_step env (part.Chars s) ps f = refl
parts_step env (part.Hole h) ps f = by_value (placed_value env f.files h.expr)
  where
    by_text : (l : Laying) (t : Outcome (List ℕ)) → and_then t (λ s. filled env ps (record { text = f.text ++ s; files = l.files }))
        ≡ and_then (and_then t (λ s. Ok (record { text = f.text ++ s; files = l.files }))) (filled env ps)
    by_text l (Ok s) = refl
    by_text l (Err c) = refl

    by_value : (r : Outcome Laying)
        → and_then r (λ l. and_then (settled_text (hole_text h.choice (out-Value l.value))) (λ s. filled env ps (record { text = f.text ++ s; files = l.files })))
        ≡ and_then (and_then r (λ l. and_then (settled_text (hole_text h.choice (out-Value l.value))) (λ s. Ok (record { text = f.text ++ s; files = l.files })))) (filled env ps)
    by_value (Ok l) = by_text l (settled_text (hole_text h.choice (out-Value l.value)))
    by_value (Err c) = refl

part_count : (p : TPart TExpr) (ps : List (TPart TExpr)) → hole_count (p ∷ ps) ≡ hole_count (p ∷ []) + hole_count ps
part_count (part.Chars s) ps = omega arith
part_count (part.Hole h) ps = omega arith

first_ready : (env : List Bind) (p : TPart TExpr) (ps : List (TPart TExpr)) (f : Filled) → AreHolesReady (p ∷ ps) env f → AreHolesReady (p ∷ []) env f
first_ready env (part.Chars s) ps f h = tt
first_ready env (part.Hole k) ps f h = (h.0, λ more e. tt)

rest_ready : (env : List Bind) (p : TPart TExpr) (ps : List (TPart TExpr)) (f more : Filled) → AreHolesReady (p ∷ ps) env f → filled env (p ∷ []) f ≡ Ok more → AreHolesReady ps env more
rest_ready env (part.Chars s) ps f more h e =
    let made : Filled = record { text = f.text ++ s; files = f.files } in
    let same : made ≡ more = cc in
    subst (λ (g : Filled). AreHolesReady ps env g) same h
rest_ready env (part.Hole k) ps f more h e = h.1 more e

-- So many parts are taken; what is filled in, and the steps.
pub record PartsLeft (env : List Bind) (parts : List (TPart TExpr)) (start : Filled) (begun : ℕ) (k : ℕ) (now : Filled) (steps : ℕ) : Type 0 where
  pub ready : AreHolesReady (drop k parts) env now
  pub laid : AreLaid now.files
  pub value : filled env (drop k parts) now ≡ filled env parts start
  pub counted : steps + hole_count (drop k parts) ≤ begun + hole_count parts

module _ (env : List Bind) (parts : List (TPart TExpr)) (start : Filled) (begun k : ℕ) (now : Filled) (steps : ℕ) (p : TPart TExpr) (at : p ≡ get_or parts k p) (below : k < length parts)
    (left : PartsLeft env parts start begun k now steps) where
  abbrev later : List (TPart TExpr)
  later = drop (k + 1) parts

  parts_ready : AreHolesReady (p ∷ later) env now
  parts_ready = subst (λ (ps : List (TPart TExpr)). AreHolesReady ps env now) (cut parts k p at below) left.ready

  pub part_ready : AreHolesReady (p ∷ []) env now
  part_ready = first_ready env p later now parts_ready

  whole : and_then (filled env (p ∷ []) now) (filled env later) ≡ filled env parts start
  whole = sym (parts_step env p later now) ∙ ap (λ (ps : List (TPart TExpr)). filled env ps now) (sym (cut parts k p at below)) ∙ left.value

  pub part_next : (more : Filled) (after : ℕ) → filled env (p ∷ []) now ≡ Ok more → AreLaid more.files → after ≤ steps + hole_count (p ∷ [])
      → PartsLeft env parts start begun (k + 1) more after
  part_next more after h laid n = record {
    ready = rest_ready env p later now more parts_ready h;
    laid = laid;
    value = sym (ap (λ (o : Outcome Filled). and_then o (filled env later)) h) ∙ whole;
    counted =
        let total : steps + hole_count (p ∷ later) ≤ begun + hole_count parts = subst (λ (ps : List (TPart TExpr)). steps + hole_count ps ≤ begun + hole_count parts) (cut parts k p at below) left.counted in
        let count = part_count p later in
        omega arith;
  }

  pub part_fails : (e : EvalFault) → Codes (filled env (p ∷ []) now) e → Codes (filled env parts start) e
  part_fails e h = subst (λ (o : Outcome Filled). Codes o e) whole (codes_then (filled env (p ∷ []) now) (filled env later) e h)
