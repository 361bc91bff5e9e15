-- The value of an expression before the command has run, and the call of a function that writes a file that it is.
use Rattle.std.proofs.Common.{◌≡◌, ℕ, Bool, true, false, cond, List, [], ◌∷◌, ◌++◌, length, map, Option, Some, None, Result, Ok, Err, sym, ap, ◌∙◌, subst, refl}
use Rattle.wdl_base.specs.declared.body.Laid.{Laid}
use Rattle.wdl_base.specs.declared.fault.EvalCode.TheVariants.{TooLarge}
use Rattle.wdl_value.specs.declared.casting.CastFault.{CastFault}
use Rattle.wdl_value.specs.declared.env.Bind.{Bind}
use Rattle.wdl_value.specs.declared.operator.Func.{Func}
use Rattle.wdl_value.specs.declared.ty.Ty.{Ty}
use Rattle.wdl_value.specs.declared.value.Value.{Value}
use Rattle.wdl_value.specs.declared.value.Value.TheVariants as v
use Rattle.wdl_value.specs.Cast.{cast}
use Rattle.wdl_value.specs.FunctionTypes.{writes}
use Rattle.wdl_value.specs.Outcome.{Outcome, and_then}
use Rattle.wdl_value.specs.Written.{written_name}
use Rattle.wdl_typed.specs.declared.expr.TExpr.{TExpr, TExpr-F, map-TExpr, roll-TExpr, ind-TExpr, fold-roll-TExpr}
use Rattle.wdl_typed.specs.declared.expr.TExpr.TheOpen as layer
use Rattle.wdl_typed.specs.Evaluation.{Met, from_cast, met, settled, then_, value_met, value_of, value_step}
use Rattle.wdl_typed.specs.Requests.{Placing, Writing, as_laying, before, cast_all, cast_last, first_of, lay, may_write, next_file, placed, placed_value, placing, placing_step, plain_of, writing_step}
use Rattle.wdl_task.specs.Calls.{Call, Naming, call_of, call_step, as_outcome, cast_name, cast_value, first_call, laid_value, name_step, named_value, with_file}
use Rattle.wdl_task.proofs.CallOut.{call_roll, with_call}
use Rattle.wdl_task.proofs.Fuse.{fused}
use Rattle.wdl_task.proofs.Fuse as fuse

-- ---- names under casts

cast_end : (ts : List Ty) (u : Ty) (r : Met Value) → cast_all (ts ++ u ∷ []) r ≡ then_ (cast_all ts r) (λ x. from_cast (cast x u))
cast_end [] u r = refl
cast_end (t ∷ ts) u r = cast_end ts u (then_ r (λ x. from_cast (cast x t)))

pub met_cast : (o : Outcome Value) (u : Ty) → then_ (met o) (λ x. from_cast (cast x u)) ≡ met (and_then o (λ x. cast_value x u))
met_cast (Err c) u = refl
met_cast (Ok x) u = by_cast (cast x u)
  where
    by_cast : (r : Result Value CastFault) → from_cast r ≡ met (as_outcome r)
    by_cast (Ok y) = refl
    by_cast (Err e) = refl

settled_met : (o : Outcome Value) → settled (met o) ≡ o
settled_met (Ok x) = refl
settled_met (Err c) = refl

pub name_roll : (y : TExpr-F TExpr) → cast_name (roll-TExpr y) ≡ name_step (map-TExpr TExpr Naming cast_name y)
name_roll y = fold-roll-TExpr Naming name_step y

module _ (env : List Bind) where
  -- ---- plain values

  abbrev Same : TExpr → Type 0
  Same e = plain_of (placing env e) ≡ value_met (before env) e

  pub plain_is_value : (e : TExpr) → (placing env e).plain ≡ value_met (before env) e
  plain_is_value = ind-TExpr Same (λ x y is. subst (λ (z : TExpr-F TExpr). Same (roll-TExpr z)) is (
      ap plain_of (fold-roll-TExpr Placing (placing_step (before env)) (fuse.plain (placing env) plain_of (value_met (before env)) y))
      ∙ ap (value_step (before env)) (fused (placing env) plain_of (value_met (before env)) y)
      ∙ sym (fold-roll-TExpr (Met Value) (value_step (before env)) (fuse.plain (placing env) plain_of (value_met (before env)) y))))

  pub write_roll : (y : TExpr-F TExpr) → (placing env (roll-TExpr y)).write ≡ writing_step (map-TExpr TExpr Placing (placing env) y)
  write_roll y = ap (λ (p : Placing). p.write) (fold-roll-TExpr Placing (placing_step (before env)) y)

  -- ---- calls

  -- the write is that of the call, with its casts
  abbrev Matches : Call → Naming → Option Writing → Type 0
  Matches k name None = ⊥
  Matches k name (Some w) = (w.func ≡ k.func) × (w.argument ≡ value_met (before env) k.argument) × ((n : List ℕ) → cast_all w.casts (Ok (v.File n)) ≡ met (name n))

  abbrev IsWrite : TExpr → Type 0
  IsWrite e = (k : Call) → call_of e ≡ Some k → Matches k (cast_name e) (placing env e).write

  abbrev Known : Type 0
  Known = (e : TExpr) × IsWrite e

  abbrev first : Known → TExpr
  first k = k.0

  abbrev plain : TExpr-F Known → TExpr-F TExpr
  plain = map-TExpr Known TExpr (λ (k : Known). k.0)

  abbrev named_file : Naming
  named_file n = Ok (v.File n)

  apply_write : (f : Func) (ks : List Known) (w : Bool) (k : Call) → cond w (first_call f (map with_call (map first ks))) None ≡ Some k
      → Matches k named_file (cond w (Some (record { func = f; argument = first_of (map plain_of (map (placing env) (map first ks))); casts = [] })) None)
  apply_write f ks false k h = absurd (cc)
  apply_write f [] true k h = absurd (cc)
  apply_write f (j ∷ ks) true k h =
      let made : Call = record { func = f; argument = j.0 } in
      let same : made ≡ k = cc in
      subst (λ (c : Call). Matches c named_file (Some (record { func = f; argument = (placing env j.0).plain; casts = [] }))) same (refl, plain_is_value j.0, λ n. refl)

  cast_write : (k : Call) (u : Ty) (name : Naming) (o : Option Writing) → Matches k name o → Matches k (λ n. and_then (name n) (λ x. cast_value x u)) (cast_last u o)
  cast_write k u name None m = m
  cast_write k u name (Some w) m = (
    m.0,
    m.1,
    λ n. cast_end w.casts u (Ok (v.File n)) ∙ ap (λ (r : Met Value). then_ r (λ x. from_cast (cast x u))) (m.2 n) ∙ met_cast (name n) u,
  )

  layer_write : (y : TExpr-F Known) (k : Call) → call_step (map-TExpr TExpr (TExpr × Option Call) with_call (plain y)) ≡ Some k
      → Matches k (name_step (map-TExpr TExpr Naming cast_name (plain y))) (writing_step (map-TExpr TExpr Placing (placing env) (plain y)))
  layer_write (layer.Apply f ks) k h = apply_write f ks (writes f) k h
  layer_write (layer.Cast j u) k h = cast_write k u (cast_name j.0) (placing env j.0).write (j.1 k h)
  layer_write y k h = absurd (cc)

  is_write : (e : TExpr) → IsWrite e
  is_write = ind-TExpr IsWrite (λ x y is. subst (λ (z : TExpr-F TExpr). IsWrite (roll-TExpr z)) is (λ k h.
      subst (λ (o : Option Writing). Matches k (cast_name (roll-TExpr (plain y))) o) (sym (write_roll (plain y)))
      (subst (λ (name : Naming). Matches k name (writing_step (map-TExpr TExpr Placing (placing env) (plain y)))) (sym (name_roll (plain y)))
      (layer_write y k (sym (call_roll (plain y)) ∙ h)))))

  laid_same : (files : List Laid) (e : TExpr) (k : Call) (x : Value) (o : Option Writing) → Matches k (cast_name e) o
      → (w : Writing) → o ≡ Some w → lay w files x ≡ and_then (with_file k.func x files) (named_value e (written_name (length files)))
  laid_same files e k x None m w is = absurd m
  laid_same files e k x (Some u) m w is =
      let same : u ≡ w = cc in
      subst (λ (z : Writing). lay z files x ≡ and_then (with_file k.func x files) (named_value e (written_name (length files)))) same (
      ap (λ f. cond (may_write f x (files ++ next_file f x files ∷ [])) (as_laying (files ++ next_file f x files ∷ []) (settled (cast_all u.casts (Ok (v.File name))))) (Err TooLarge)) m.0
      ∙ by_size (may_write k.func x (files ++ next_file k.func x files ∷ [])))
    where
      name : List ℕ
      name = written_name (length files)

      more : List Laid
      more = files ++ next_file k.func x files ∷ []

      by_size : (b : Bool) → cond b (as_laying more (settled (cast_all u.casts (Ok (v.File name))))) (Err TooLarge) ≡ and_then (cond b (Ok more) (Err TooLarge)) (named_value e name)
      by_size true = ap (λ (r : Met Value). as_laying more (settled r)) (m.2 name) ∙ ap (as_laying more) (settled_met (cast_name e name))
      by_size false = refl

  -- what an expression gives that is a call of a function that writes a file
  pub laid_is_placed : (files : List Laid) (e : TExpr) (k : Call) → call_of e ≡ Some k → laid_value env files e k ≡ placed_value env files e
  laid_is_placed files e k h = by_write (placing env e).write (is_write e k h)
    where
      by_value : (w : Writing) → Matches k (cast_name e) (Some w) → (r : Outcome Value)
          → and_then r (λ x. and_then (with_file k.func x files) (named_value e (written_name (length files)))) ≡ and_then r (lay w files)
      by_value w m (Ok x) = sym (laid_same files e k x (Some w) m w refl)
      by_value w m (Err c) = refl

      by_write : (o : Option Writing) → Matches k (cast_name e) o → laid_value env files e k ≡ placed files (placing env e).plain o
      by_write None m = absurd m
      by_write (Some w) m = by_value w m (value_of (before env) k.argument) ∙ ap (λ (r : Met Value). and_then (settled r) (lay w files)) (sym m.1)

  -- and one that is none
  pub plain_is_placed : (files : List Laid) (e : TExpr) → (placing env e).write ≡ None → as_laying files (value_of (before env) e) ≡ placed_value env files e
  plain_is_placed files e h =
      ap (λ (r : Met Value). as_laying files (settled r)) (sym (plain_is_value e)) ∙ ap (placed files (placing env e).plain) (sym h)
