-- Soundness, by an induction whose step is one layer of the expression.
use Rattle.std.proofs.Common.{◌≡◌, ◌++◌, Bool, List, Some, sym, ap, ◌∙◌, subst}
use Rattle.wdl_base.specs.declared.name.Key.{Key}
use Rattle.wdl_value.specs.declared.value.Value.{Value}
use Rattle.wdl_typed.specs.declared.expr.TExpr.{TExpr, TExpr-F, map-TExpr, roll-TExpr, ind-TExpr, fold-roll-TExpr}
use Rattle.wdl_typed.specs.declared.expr.TExpr.TheOpen as layer
use Rattle.wdl_typed.specs.Evaluation.{Met, Setting, node_step, value_met, value_step}
use Rattle.wdl_typed.specs.Scope.{lookup, names_of, names_step, type_in}
use Rattle.wdl_typed.specs.Typing.{Context, Typing, type_of, type_step}
use Rattle.wdl_eval.specs.Laws.{IsSound, ValuesFit}
use Rattle.wdl_eval.specs.Ready.{FitsNames}
use Rattle.wdl_eval.proofs.Known.{Known, Sound, plain}
use Rattle.wdl_eval.proofs.Lists.{apply_fine, list_fine, pair_fine}
use Rattle.wdl_eval.proofs.Maps.{map_fine}
use Rattle.wdl_eval.proofs.Members.{struct_fine}
use Rattle.wdl_eval.proofs.Names.{among_one, left_names, right_names}
use Rattle.wdl_eval.proofs.Operators.{binary_fine, cast_fine, choose_fine, given_fine, literal_fine, neg_fine, not_fine}
use Rattle.wdl_eval.proofs.Indices.{at_fine, member_fine}
use Rattle.wdl_eval.proofs.Steps.{Fine, within_sound}
use Rattle.wdl_eval.proofs.Strings.{string_fine}

module _ (c : Context) (s : Setting) where
  abbrev layer_names : TExpr-F (Known c s) → List Key
  layer_names y = names_step (map-TExpr TExpr (List Key) names_of (plain c s y))

  abbrev layer_type : TExpr-F (Known c s) → Typing
  layer_type y = type_step c (map-TExpr TExpr Typing (type_of c) (plain c s y))

  abbrev layer_met : TExpr-F (Known c s) → Met Value
  layer_met y = node_step s (map-TExpr TExpr (Met Value) (value_met s) (plain c s y))

  layer_sound : (y : TExpr-F (Known c s)) (placeholder : Bool) → FitsNames c s.env (layer_names y) → Fine c.structs (layer_type y placeholder) (layer_met y)
  layer_sound (layer.Lit x) p g = literal_fine c.structs x
  layer_sound (layer.Get key) p g = given_fine c.structs (type_in c.names key) (lookup s.env key) (g key (among_one key))
  layer_sound (layer.Member a name) p g = member_fine c.structs (type_of c a.0 p) name (value_met s a.0) (a.1 p g)
  layer_sound (layer.At a b) p g = at_fine c.structs _ _ _ _ (a.1 p (left_names c s.env (names_of a.0) (names_of b.0) g)) (b.1 p (right_names c s.env (names_of a.0) (names_of b.0) g))
  layer_sound (layer.Not a) p g = not_fine c.structs (type_of c a.0 p) (value_met s a.0) (a.1 p g)
  layer_sound (layer.Neg a) p g = neg_fine c.structs (type_of c a.0 p) (value_met s a.0) (a.1 p g)
  layer_sound (layer.Binary o a b) p g = binary_fine c.structs o p _ _ _ _ (a.1 p (left_names c s.env (names_of a.0) (names_of b.0) g)) (b.1 p (right_names c s.env (names_of a.0) (names_of b.0) g))
  layer_sound (layer.Choose d a b) p g =
      let before = left_names c s.env (names_of d.0 ++ names_of a.0) (names_of b.0) g in
      choose_fine c.structs _ _ _ _ _ _ (d.1 p (left_names c s.env (names_of d.0) (names_of a.0) before))
      (a.1 p (right_names c s.env (names_of d.0) (names_of a.0) before)) (b.1 p (right_names c s.env (names_of d.0 ++ names_of a.0) (names_of b.0) g))
  layer_sound (layer.ListOf ks) p g = list_fine c s ks p g
  layer_sound (layer.MapOf ks) p g = map_fine c s ks p g
  layer_sound (layer.PairOf a b) p g = pair_fine c.structs _ _ _ _ (a.1 p (left_names c s.env (names_of a.0) (names_of b.0) g)) (b.1 p (right_names c s.env (names_of a.0) (names_of b.0) g))
  layer_sound (layer.StructOf name ks) p g = struct_fine c s name ks p g
  layer_sound (layer.Apply f ks) p g = apply_fine c s f ks p g
  layer_sound (layer.Strung ks) p g = string_fine c s ks p g
  layer_sound (layer.Cast a t) p g = cast_fine c.structs t (type_of c a.0 p) (value_met s a.0) (a.1 p g)

  pub sound : (e : TExpr) → Sound c s e
  sound = ind-TExpr (Sound c s) (λ x y is. subst (λ (z : TExpr-F TExpr). Sound c s (roll-TExpr z)) is (λ p g t h.
      let names = subst (λ (ks : List Key). FitsNames c s.env ks) (fold-roll-TExpr (List Key) names_step (plain c s y)) g in
      let typed : layer_type y p ≡ Some t = sym (ap (λ (f : Typing). f p) (fold-roll-TExpr Typing (type_step c) (plain c s y))) ∙ h in
      subst (λ (r : Met Value). IsSound c.structs t r) (sym (fold-roll-TExpr (Met Value) (value_step s) (plain c s y)))
      (within_sound c.structs t (layer_met y) (layer_sound y p names t typed))))

pub values_are_sound : ValuesFit
values_are_sound c placeholder s e t h g = sound c s e placeholder g t h
