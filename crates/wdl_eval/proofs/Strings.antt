-- Strings that have placeholders.
use Rattle.std.proofs.Common.{◌≡◌, ℕ, Bool, true, List, [], ◌∷◌, ◌++◌, map, Some, None, Ok, Err, sym, ap, ◌∙◌, subst}
use Rattle.std.proofs.lemmas.Bool.{and_parts}
use Rattle.wdl_base.specs.declared.name.Key.{Key}
use Rattle.wdl_value.specs.declared.ty.Ty.TheVariants as ty
use Rattle.wdl_value.specs.declared.value.Value.{Value, out-Value}
use Rattle.wdl_value.specs.declared.value.Value.TheVariants as v
use Rattle.wdl_value.proofs.FitsForms.{str_fits}
use Rattle.wdl_typed.specs.declared.expr.TExpr.{TExpr, TExpr-F, map-TExpr}
use Rattle.wdl_typed.specs.declared.expr.TExpr.TheOpen as layer
use Rattle.wdl_typed.specs.declared.expr.TPart.{TPart}
use Rattle.wdl_typed.specs.declared.expr.TPart.TheVariants as part
use Rattle.wdl_typed.specs.Evaluation.{Met, Setting, hole_text, node_step, strung, then_, value_met}
use Rattle.wdl_typed.specs.Scope.{names_of, names_step, part_names}
use Rattle.wdl_typed.specs.Typing.{Context, Typing, parts_typed, takes_some, type_of, type_step, when}
use Rattle.wdl_eval.specs.Laws.{IsMet}
use Rattle.wdl_eval.specs.Ready.{FitsNames}
use Rattle.wdl_eval.proofs.Known.{Known, plain}
use Rattle.wdl_eval.proofs.Names.{left_names, right_names}
use Rattle.wdl_eval.proofs.PartMaps.{part_of, parts_map}
use Rattle.wdl_eval.proofs.Steps.{Fine, Fits, at_type, bind, when_in}
use Rattle.wdl_eval.proofs.Texts.{Any, hole_fine}

module _ (c : Context) (s : Setting) where
  abbrev pub parts : List (TPart (Known c s)) → List (TPart TExpr)
  parts = map (part_of (λ (k : Known c s). k.0))

  abbrev names : List (TPart TExpr) → List Key
  names ps = part_names (map (part_of names_of) ps)

  abbrev typings : List (TPart TExpr) → List (TPart Typing)
  typings = map (part_of (type_of c))

  abbrev met_parts : List (TPart TExpr) → Met (List ℕ)
  met_parts ps = strung (map (part_of (value_met s)) ps)

  all_sound : (ks : List (TPart (Known c s))) → FitsNames c s.env (names (parts ks)) → parts_typed (typings (parts ks)) ≡ true → IsMet Any (met_parts (parts ks))
  all_sound [] g e = tt
  all_sound (part.Chars t ∷ ks) g e = bind Any Any (met_parts (parts ks)) (λ more. Ok (t ++ more)) (all_sound ks g e) (λ more j. tt)
  all_sound (part.Hole h ∷ ks) g e =
      let p = and_parts (takes_some h.choice (type_of c h.expr.0 true)) (parts_typed (typings (parts ks))) e in
      let text = hole_fine c.structs h.choice (type_of c h.expr.0 true) (value_met s h.expr.0) (h.expr.1 true (left_names c s.env (names_of h.expr.0) (names (parts ks)) g)) p.0 in
      then_sound (value_met s h.expr.0) (λ x. hole_text h.choice (out-Value x)) (met_parts (parts ks)) text (all_sound ks (right_names c s.env (names_of h.expr.0) (names (parts ks)) g) p.1)
    where
      then_sound : (r : Met Value) (f : Value → Met (List ℕ)) (rest : Met (List ℕ)) → IsMet Any (then_ r f) → IsMet Any rest → IsMet Any (then_ r (λ x. then_ (f x) (λ t. then_ rest (λ more. Ok (t ++ more)))))
      then_sound (Ok x) f rest h k = bind Any Any (f x) (λ t. then_ rest (λ more. Ok (t ++ more))) h (λ t i. bind Any Any rest (λ more. Ok (t ++ more)) k (λ more j. tt))
      then_sound (Err (Some e)) f rest h k = tt
      then_sound (Err None) f rest h k = h

  made_fine : (ks : List (TPart (Known c s))) → FitsNames c s.env (names (parts ks)) → Fine c.structs (when (parts_typed (typings (parts ks))) ty.Str) (then_ (met_parts (parts ks)) (λ t. Ok (v.Str t)))
  made_fine ks g w e =
      let q = when_in (parts_typed (typings (parts ks))) ty.Str w e in
      bind Any (Fits c.structs w) (met_parts (parts ks)) (λ t. Ok (v.Str t)) (all_sound ks g q.0) (λ t i. at_type c.structs (Ok (v.Str t)) q.1 (str_fits c.structs t))

  twice : (A : Type 0) (f : TExpr → A) (ks : List (TPart (Known c s))) → map-TExpr TExpr A f (plain c s (layer.Strung ks)) ≡ layer.Strung (map (part_of f) (parts ks))
  twice A f ks = ap (map-TExpr TExpr A f) (parts_map (λ (k : Known c s). k.0) ks) ∙ parts_map f (parts ks)

  pub string_fine : (ks : List (TPart (Known c s))) (placeholder : Bool) → FitsNames c s.env (names_step (map-TExpr TExpr (List Key) names_of (plain c s (layer.Strung ks))))
      → Fine c.structs (type_step c (map-TExpr TExpr Typing (type_of c) (plain c s (layer.Strung ks))) placeholder) (node_step s (map-TExpr TExpr (Met Value) (value_met s) (plain c s (layer.Strung ks))))
  string_fine ks placeholder g =
      subst (λ (z : TExpr-F Typing). Fine c.structs (type_step c z placeholder) (node_step s (map-TExpr TExpr (Met Value) (value_met s) (plain c s (layer.Strung ks))))) (sym (twice Typing (type_of c) ks))
      (subst (λ (z : TExpr-F (Met Value)). Fine c.structs (type_step c (layer.Strung (typings (parts ks))) placeholder) (node_step s z)) (sym (twice (Met Value) (value_met s) ks))
      (made_fine ks (subst (λ (z : TExpr-F (List Key)). FitsNames c s.env (names_step z)) (twice (List Key) names_of ks) g)))
