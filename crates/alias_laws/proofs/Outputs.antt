-- The outputs of a workflow whose aliases are gone are those that it had.
use Rattle.std.proofs.Common.{◌≡◌, ℕ, Bool, true, cond, not, ◌&&◌, List, [], ◌∷◌, ◌++◌, append-nil, map, Option, Some, None, sym, ap, ◌∙◌, subst, refl}
use Rattle.std.specs.List.{list_all}
use Rattle.std.proofs.lemmas.Bool.{false≢true, and_from, and_parts}
use Rattle.wdl_base.specs.declared.name.Key.{Key}
use Rattle.wdl_base.specs.declared.place.Segment.{Segment}
use Rattle.wdl_value.specs.declared.ty.Ty.{Ty}
use Rattle.wdl_value.specs.declared.value.Value.{Value}
use Rattle.wdl_value.specs.Fits.{Structs}
use Rattle.wdl_value.specs.Outcome.{Outcome}
use Rattle.wdl_typed.specs.declared.scope.Bound.{Bound}
use Rattle.wdl_typed.specs.declared.task.TDecl.{TDecl}
use Rattle.wdl_typed.specs.Declarations.{bound, decl_names, decls_typed, in_body, plain_key}
use Rattle.wdl_typed.specs.Evaluation.{value_of}
use Rattle.wdl_typed.specs.Flow.{Ended, Flowing, Known, Sight, all_known, declaration, declared_as, env_of, known, named, nothing, outputs, seeing, together}
use Rattle.wdl_typed.specs.KnownTypes.{is_some, is_written}
use Rattle.wdl_typed.specs.Lists.{has_name}
use Rattle.wdl_typed.specs.Requests.{before}
use Rattle.wdl_typed.specs.Scope.{lookup, type_in}
use Rattle.wdl_typed.specs.Typing.{is_type}
use Rattle.wdl_names.specs.Fresh.{fresh}
use Rattle.wdl_swaps.specs.declared.swap.Swap.{Swap}
use Rattle.wdl_swaps.specs.Swaps.{swapped, swapped_decl}
use Rattle.flow_soundness.specs.Readiness.{Agrees, FitsSome}
use Rattle.flow_soundness.proofs.Fitting.{agrees_both, declaration_agrees}
use Rattle.flow_soundness.proofs.FlowSound.{Taken, not_true, one_apart, one_taken}
use Rattle.record_laws.proofs.Fine.{all_ok, names_ok}
use Rattle.alias_laws.proofs.FileLimits.{declaration_keeps}
use Rattle.alias_laws.proofs.Hiding.{hidden_by}
use Rattle.alias_laws.proofs.Names.{ok, ok_both}
use Rattle.alias_laws.proofs.SameSteps.{SameStep, same_step, same_together}
use Rattle.alias_laws.proofs.Sights.{Clean, Sees, known_same, sees_longer, value_same}
use Rattle.alias_laws.proofs.Small.{declaration_small, found_small}
use Rattle.flow_soundness.proofs.Fitting.{is_type-some}

module _ (structs : Structs) (bad : List ℕ → Bool) (declared : List (List ℕ)) (ss : List Swap) where
  abbrev hidden : Key → Bool
  hidden = hidden_by bad

  abbrev at : List Known → List Ended → List Segment → Sight
  at names calls place = record { names = names; calls = calls; place = place }

  -- one declaration
  decl_same : (bounds : List Bound) (old now : List Known) (calls : List Ended) (place : List Segment) (d : TDecl) → Sees hidden declared bounds ss old now → Clean hidden (swapped ss d.value)
      → declaration (at old calls place) d.name d.value ≡ declaration (at now calls place) d.name (swapped ss d.value)
  decl_same bounds old now calls place d sees clean =
      let as_before : Bool → Outcome Value → Flowing = λ b o. cond b (declared_as place d.name o) (named (known d.name None)) in
      ap (λ b. as_before b (value_of (before (env_of old)) d.value)) (known_same hidden declared bounds ss old now sees d.value clean)
      ∙ ap (as_before (all_known now (swapped ss d.value))) (value_same hidden declared bounds ss old now sees d.value clean)

  -- what is seen behind it
  decl_seen : (bounds : List Bound) (taken : List (List ℕ)) (old now : List Known) (calls : List Ended) (place : List Segment) (d : TDecl) → Sees hidden declared bounds ss old now → Agrees structs (bound d.name d.ty ∷ []) (declaration (at old calls place) d.name d.value).names
      → ((key : Key) (t : Ty) → type_in (bound d.name d.ty ∷ []) key ≡ Some t → type_in bounds key ≡ None)
      → Sees hidden declared (bounds ++ bound d.name d.ty ∷ []) ss (old ++ (declaration (at old calls place) d.name d.value).names) (now ++ (declaration (at old calls place) d.name d.value).names)
  decl_seen bounds taken old now calls place d sees agrees apart =
      let f : Flowing = declaration (at old calls place) d.name d.value in
      subst (λ (z : List Swap). Sees hidden declared (bounds ++ bound d.name d.ty ∷ []) z (old ++ f.names) (now ++ f.names)) (append-nil ss)
      (sees_longer hidden declared bounds (bound d.name d.ty ∷ []) ss [] old now f.names f.names sees (record { apart = λ key h. new_key f.names agrees key h; same = λ key shown. refl })
      (λ key x lone none h. found_small f.names (declaration_small (at old calls place) d.name d.value) key x h) (declaration_keeps (at old calls place) d.name d.value) tt)
    where
      new_key : (ks : List Known) → Agrees structs (bound d.name d.ty ∷ []) ks → (key : Key) → is_some (type_in bounds key) ≡ true → lookup (env_of ks) key ≡ None
      new_key ks fit key h = by_value (lookup (env_of ks) key) refl
        where
          by_type : (x : Value) (o : Option Ty) → type_in (bound d.name d.ty ∷ []) key ≡ o → FitsSome structs o x → ⊥
          by_type x None e f = f
          by_type x (Some t) e f = false≢true (sym (ap is_some (apart key t e)) ∙ h)

          by_value : (o : Option Value) → lookup (env_of ks) key ≡ o → o ≡ None
          by_value None e = refl
          by_value (Some x) e = absurd (by_type x (type_in (bound d.name d.ty ∷ []) key) refl (fit key x e))

  -- All outputs are the same: each is typed as it was and as it is now, and none of these names is gone.
  pub outputs_same : (ds : List TDecl) (bounds others : List Bound) (taken : List (List ℕ)) → decls_typed (in_body structs) structs bounds ds ≡ true → decls_typed (in_body structs) structs others (map (swapped_decl ss) ds) ≡ true
      → all_ok (ok bad) others → list_all (λ (n : List ℕ). not (bad n)) (decl_names ds) ≡ true → Taken structs bounds taken → fresh taken (decl_names ds) ≡ true
      → (old now : List Known) (calls : List Ended) (place : List Segment) → Agrees structs bounds old → Sees hidden declared bounds ss old now
      → SameStep hidden (outputs ds (at old calls place)) (outputs (map (swapped_decl ss) ds) (at now calls place))
  outputs_same [] bounds others taken typed again fine good inside new old now calls place agrees sees = same_step hidden nothing nothing refl
  outputs_same (d ∷ ds) bounds others taken typed again fine good inside new old now calls place agrees sees =
      let p = and_parts (is_written structs d.ty && is_type (in_body structs bounds d.value) d.ty) (decls_typed (in_body structs) structs (bounds ++ bound d.name d.ty ∷ []) ds) typed in
      let q = is_type-some (in_body structs bounds d.value) d.ty (and_parts (is_written structs d.ty) (is_type (in_body structs bounds d.value) d.ty) p.0).1 in
      let u =
      and_parts (is_written structs d.ty && is_type (in_body structs others (swapped ss d.value)) d.ty) (decls_typed (in_body structs) structs (others ++ bound d.name d.ty ∷ []) (map (swapped_decl ss) ds)) again in
      let w = is_type-some (in_body structs others (swapped ss d.value)) d.ty (and_parts (is_written structs d.ty) (is_type (in_body structs others (swapped ss d.value)) d.ty) u.0).1 in
      let clean : Clean hidden (swapped ss d.value) = names_ok (ok bad) structs others fine (swapped ss d.value) d.ty w in
      let g = and_parts (not (bad d.name)) (list_all (λ (n : List ℕ). not (bad n)) (decl_names ds)) good in
      let f = and_parts (not (has_name d.name taken)) (fresh (taken ++ d.name ∷ []) (decl_names ds)) new in
      let apart = one_apart structs bounds taken d.name d.ty inside (not_true structs (has_name d.name taken) f.0) in
      let made : Flowing = declaration (at old calls place) d.name d.value in
      let here = declaration_agrees structs bounds (at old calls place) d.name d.value d.ty q agrees in
      let rest = outputs_same ds (bounds ++ bound d.name d.ty ∷ []) (others ++ bound d.name d.ty ∷ []) (taken ++ d.name ∷ []) p.1 u.1
      (ok_both bad others (bound d.name d.ty ∷ []) fine (and_from (ok bad (plain_key d.name)) true g.0 refl)) g.1 (one_taken structs bounds taken d.name d.ty inside) f.1
      (old ++ made.names) (now ++ made.names) (calls ++ made.calls) place (agrees_both structs bounds (bound d.name d.ty ∷ []) old made.names agrees here apart)
      (decl_seen bounds taken old now calls place d sees here apart) in
      subst (λ (z : Flowing). SameStep hidden (together made (outputs ds (seeing (at old calls place) made))) (together z (outputs (map (swapped_decl ss) ds) (seeing (at now calls place) z)))) (decl_same bounds old now calls place d sees clean)
      (same_together hidden made (outputs ds (seeing (at old calls place) made)) made (outputs (map (swapped_decl ss) ds) (seeing (at now calls place) made)) (same_step hidden made made refl) rest)
