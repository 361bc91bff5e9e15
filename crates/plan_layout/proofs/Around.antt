-- In a checked form the inputs and outputs of workflows see all that they refer to.
use Rattle.std.proofs.Common.{◌≡◌, ℕ, true, false, ◌&&◌, List, [], ◌∷◌, ◌++◌, length, append_assoc, append-nil, Option, Some, None, sym, ap, ◌∙◌, subst, refl}
use Rattle.std.specs.List.{slice_get}
use Rattle.std.proofs.lemmas.Bool.{and_parts}
use Rattle.std.proofs.lemmas.List.{map-append}
use Rattle.wdl_base.specs.declared.name.Key.{Key}
use Rattle.wdl_value.specs.declared.ty.Ty.{Ty}
use Rattle.wdl_typed.specs.declared.expr.TExpr.{TExpr}
use Rattle.wdl_typed.specs.declared.flow.FlowDef.{FlowDef}
use Rattle.wdl_typed.specs.declared.flow.Statement.{Statement}
use Rattle.wdl_typed.specs.declared.scope.Bound.{Bound}
use Rattle.wdl_typed.specs.declared.task.TDecl.{TDecl}
use Rattle.wdl_typed.specs.declared.task.TInput.{TInput}
use Rattle.wdl_typed.specs.Bodies.{Library, Seen, all_declared, body_gives, declared}
use Rattle.wdl_typed.specs.Declarations.{bound, decl_names, decls_typed, default_typed, in_body, input_names, inputs_typed, plain_key}
use Rattle.wdl_typed.specs.Journal.{keys_distinct}
use Rattle.wdl_typed.specs.Kept.{flow_typed, inputs_seen, outputs_typed}
use Rattle.wdl_typed.specs.KnownTypes.{is_written}
use Rattle.wdl_typed.specs.Lists.{are_distinct}
use Rattle.wdl_typed.specs.Scope.{names_of}
use Rattle.wdl_typed.specs.Typing.{is_type}
use Rattle.flow_laws.proofs.Checked.{IsKept, OutputsDiffer, flow_kept, names_left, outputs_differ}
use Rattle.flow_laws.proofs.Owned.{Owned, owned_both, owned_nothing, owned_one}
use Rattle.net_laws.specs.Growing.{body_given}
use Rattle.plan_layout.specs.declared.layout.Need.{Need}
use Rattle.plan_layout.specs.Laid.{Stand, beginning, behind_all, behind_one, body_seen, with_inputs, with_plain}
use Rattle.plan_layout.specs.Sees.{DefaultSees, ExprSees, FlowSees, InputsSee, OutputsSee, spot_keys, with_outputs}
use Rattle.plan_layout.proofs.Bound.{names_bound, some_typed}
use Rattle.plan_layout.proofs.Given.{keys_of}
use Rattle.plan_layout.proofs.Typed.{Right, all_found, flow_right, flow_seen, flow_taken, rest_names, rest_right, rest_taken}
use Rattle.wdl_base.proofs.Options.{all_at}

-- ---- one more name

plain_more : (seen : List Need) (name : List ℕ) → spot_keys (with_plain seen name) ≡ spot_keys seen ++ plain_key name ∷ []
plain_more seen name = map-append (λ (n : Need). n.key) seen (record { key = plain_key name; level = 0; slot = length seen } ∷ [])

plain_owned : (taken : List (List ℕ)) (seen : List Need) (name : List ℕ) → Owned taken (spot_keys seen) → Owned (taken ++ name ∷ []) (spot_keys (with_plain seen name))
plain_owned taken seen name h =
    subst (λ (ks : List Key). Owned (taken ++ name ∷ []) ks) (sym (plain_more seen name)) (owned_both taken (name ∷ []) (spot_keys seen) (plain_key name ∷ []) h (owned_one name))

plain_bound : (seen : List Need) (names : List Bound) (name : List ℕ) (t : Ty) → spot_keys seen ≡ keys_of names → spot_keys (with_plain seen name) ≡ keys_of (names ++ bound name t ∷ [])
plain_bound seen names name t e = plain_more seen name ∙ ap (λ ks. ks ++ plain_key name ∷ []) e ∙ sym (map-append (λ (b : Bound). b.key) names (bound name t ∷ []))

module _ (lib : Library) where
  -- ---- inputs and outputs

  expr_sees : (seen : List Need) (names : List Bound) (taken rest : List (List ℕ)) (e : TExpr) (t : Ty) → spot_keys seen ≡ keys_of names → Owned taken (spot_keys seen) → are_distinct (taken ++ rest) ≡ true
      → is_type (in_body lib.structs names e) t ≡ true → ExprSees seen e
  expr_sees seen names taken rest e t same owned differ h =
      let u = some_typed (in_body lib.structs names e) t h in
      record {
        names = all_found seen names (names_of e) same (names_bound (record { structs = lib.structs; names = names; outputs = false }) e false u.0 u.1);
        distinct = owned.distinct (names_left taken rest differ);
      }

  inputs_see : (seen : List Need) (names : List Bound) (taken : List (List ℕ)) (is : List TInput) → spot_keys seen ≡ keys_of names → Owned taken (spot_keys seen) → are_distinct (taken ++ input_names is) ≡ true
      → inputs_typed lib.structs names is ≡ true → InputsSee seen is
  inputs_see seen names taken [] same owned differ h = tt
  inputs_see seen names taken (i ∷ is) same owned differ h =
      let p = and_parts (is_written lib.structs i.ty && default_typed lib.structs names i.ty i.value) (inputs_typed lib.structs (names ++ bound i.name i.ty ∷ []) is) h in
      let q = and_parts (is_written lib.structs i.ty) (default_typed lib.structs names i.ty i.value) p.0 in (
        default_sees i.value q.1,
        inputs_see (with_plain seen i.name) (names ++ bound i.name i.ty ∷ []) (taken ++ i.name ∷ []) is (plain_bound seen names i.name i.ty same) (plain_owned taken seen i.name owned)
            (ap are_distinct (append_assoc taken (i.name ∷ []) (input_names is)) ∙ differ) p.1,
      )
    where
      default_sees : (value : Option TExpr) → default_typed lib.structs names i.ty value ≡ true → DefaultSees seen value
      default_sees None t = tt
      default_sees (Some e) t = expr_sees seen names taken (input_names (i ∷ is)) e i.ty same owned differ t

  outputs_see : (seen : List Need) (names : List Bound) (taken : List (List ℕ)) (ds : List TDecl) → spot_keys seen ≡ keys_of names → Owned taken (spot_keys seen) → are_distinct (taken ++ decl_names ds) ≡ true
      → decls_typed (in_body lib.structs) lib.structs names ds ≡ true → OutputsSee seen ds × (keys_distinct (spot_keys (with_outputs seen ds)) ≡ true)
  outputs_see seen names taken [] same owned differ h = (tt, owned.distinct (names_left taken [] differ))
  outputs_see seen names taken (d ∷ ds) same owned differ h =
      let p = and_parts (is_written lib.structs d.ty && is_type (in_body lib.structs names d.value) d.ty) (decls_typed (in_body lib.structs) lib.structs (names ++ bound d.name d.ty ∷ []) ds) h in
      let q = and_parts (is_written lib.structs d.ty) (is_type (in_body lib.structs names d.value) d.ty) p.0 in
      let rest = outputs_see (with_plain seen d.name) (names ++ bound d.name d.ty ∷ []) (taken ++ d.name ∷ []) ds (plain_bound seen names d.name d.ty same) (plain_owned taken seen d.name owned)
      (ap are_distinct (append_assoc taken (d.name ∷ []) (decl_names ds)) ∙ differ) p.1 in
      ((expr_sees seen names taken (decl_names (d ∷ ds)) d.value d.ty same owned differ q.1, rest.0), rest.1)

  module _ (outputs : OutputsDiffer lib) where
    -- ---- behind a body

    nothing_given : (seen given : Seen) → body_gives lib [] seen ≡ Some given → given.names ≡ []
    nothing_given seen given h = let same : (let e : Seen = record { names = []; calls = [] } in e) ≡ given = cc in ap (λ (s : Seen). s.names) (sym same)

    names_behind : (ss : List Statement) (a : Stand) (r : Right lib outputs ss a.names a.calls) → spot_keys (behind_all lib ss a).names ≡ keys_of (r.seen.names ++ r.given.names)
    names_behind [] a r = r.names_are ∙ ap keys_of (sym (append-nil r.seen.names) ∙ ap (λ bs. r.seen.names ++ bs) (sym (nothing_given r.seen r.given r.typed)))
    names_behind (st ∷ ss) a r =
        names_behind ss (behind_one lib st a) (rest_right lib outputs st ss a r) ∙ ap keys_of (rest_names lib outputs st ss a r)

    owned_behind : (ss : List Statement) (a : Stand) (r : Right lib outputs ss a.names a.calls) → Owned (r.taken ++ all_declared ss) (spot_keys (behind_all lib ss a).names)
    owned_behind [] a r = subst (λ (ns : List (List ℕ)). Owned ns (spot_keys a.names)) (sym (append-nil r.taken)) r.owned
    owned_behind (st ∷ ss) a r =
        subst (λ (ns : List (List ℕ)). Owned ns (spot_keys (behind_all lib ss (behind_one lib st a)).names))
        (ap (λ ns. ns ++ all_declared ss) (rest_taken lib outputs st ss a r) ∙ append_assoc r.taken (declared st) (all_declared ss))
        (owned_behind ss (behind_one lib st a) (rest_right lib outputs st ss a r))

    -- ---- workflows

    decls : (f : FlowDef) (seen given : Seen) → seen ≡ inputs_seen f → body_gives lib f.body seen ≡ Some given → outputs_typed lib.structs f (body_gives lib f.body (inputs_seen f)) ≡ true
        → decls_typed (in_body lib.structs) lib.structs (seen.names ++ given.names) f.outputs ≡ true
    decls f seen given e typed h =
        ap (λ (x : Seen). decls_typed (in_body lib.structs) lib.structs (x.names ++ given.names) f.outputs) e
        ∙ ap (outputs_typed lib.structs f) (sym (ap (body_gives lib f.body) (sym e) ∙ typed)) ∙ h

    flow_sees : (f : FlowDef) → flow_typed lib f ≡ true → FlowSees lib f
    flow_sees f h =
        let r = flow_right lib outputs f h in
        let distinct = (flow_kept lib f h).distinct in
        let all = input_names f.inputs ++ all_declared f.body in
        let typed = and_parts _ (outputs_typed lib.structs f (body_gives lib f.body (inputs_seen f))) h in
        let start : Stand = beginning (with_inputs [] f.inputs) [] [] (body_given lib f.body) (length f.inputs) (length f.outputs) in
        let owned =
        subst (λ (ns : List (List ℕ)). Owned (ns ++ all_declared f.body) (spot_keys (body_seen lib f))) (flow_taken lib outputs f h) (owned_behind f.body start r) in
        let ends = outputs_see (body_seen lib f) (r.seen.names ++ r.given.names) all f.outputs (names_behind f.body start r) owned distinct
        (decls f r.seen r.given (flow_seen lib outputs f h) r.typed typed.1) in
        record {
          inputs = inputs_see [] [] [] f.inputs refl owned_nothing (names_left (input_names f.inputs) (all_declared f.body) (names_left all (decl_names f.outputs) distinct)) (and_parts _ (inputs_typed lib.structs [] f.inputs) typed.0).1;
          outputs = ends.0;
          distinct = ends.1;
        }

-- The inputs and outputs of a workflow of a checked form.
pub around_sees : (lib : Library) → IsKept lib → (k : ℕ) (f : FlowDef) → slice_get lib.flows k ≡ Some f → FlowSees lib f
around_sees lib h k f there = flow_sees lib (outputs_differ lib h) f (all_at (flow_typed lib) lib.flows k f h.flows there)
