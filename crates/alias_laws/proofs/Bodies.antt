-- Bodies without their aliases give what they gave, but for the names of the aliases.
use Rattle.std.proofs.Common.{◌≡◌, ℕ, ◌+◌, Bool, true, false, cond, not, List, [], ◌∷◌, ◌++◌, append-nil, codes, length, map, Option, Some, None, option_and_then, Ok, Err, sym, ap, ◌∙◌, subst, refl}
use Rattle.std.specs.List.{list_all}
use Rattle.std.proofs.lemmas.Bool.{false≢true, and_from, and_parts, not-true}
use Rattle.wdl_base.specs.declared.name.Key.{Key}
use Rattle.wdl_base.specs.declared.place.Segment.{Segment}
use Rattle.wdl_base.specs.declared.place.Segment.TheVariants as segment
use Rattle.wdl_value.specs.declared.ty.Ty.{Ty, Ty-F, out-Ty, roll-Ty, roll-out-Ty}
use Rattle.wdl_value.specs.declared.ty.Ty.TheOpen as type
use Rattle.wdl_value.specs.declared.ty.Ty.TheVariants as ty
use Rattle.wdl_value.specs.declared.value.Value.{Value}
use Rattle.wdl_value.specs.declared.value.Value.TheVariants as v
use Rattle.wdl_value.specs.Fits.{fits}
use Rattle.wdl_value.specs.Kinds.{is_bool}
use Rattle.wdl_value.specs.Limits.{is_within}
use Rattle.wdl_value.specs.Outcome.{Outcome}
use Rattle.wdl_value.specs.Parts.{bool_in, items_at, items_in}
use Rattle.wdl_value.specs.Tables.{Row}
use Rattle.wdl_value.proofs.FitsForms.{a_list, all_fit}
use Rattle.wdl_typed.specs.declared.expr.TExpr.{TExpr}
use Rattle.wdl_typed.specs.declared.flow.FlowDef.{FlowDef}
use Rattle.wdl_typed.specs.declared.flow.Statement.{Statement, Statement-F, fold-roll-Statement, fold-Statement, ind-Statement, map-Statement, roll-Statement}
use Rattle.wdl_typed.specs.declared.flow.Statement.TheOpen as layer
use Rattle.wdl_typed.specs.declared.flow.Statement.TheVariants as statement
use Rattle.wdl_typed.specs.declared.flow.TCall.{TCall}
use Rattle.wdl_typed.specs.declared.flow.TIf.{TIf}
use Rattle.wdl_typed.specs.declared.flow.TScatter.{TScatter}
use Rattle.wdl_typed.specs.declared.scope.Bound.{Bound}
use Rattle.wdl_typed.specs.declared.task.TDecl.{TDecl}
use Rattle.wdl_typed.specs.Bodies.{Giving, Library, Seen, all_declared, body_gives, body_step, declared, gives, if_over, items_differ, joined, optional, retyped, scatter_over as typed_over, signature, statement_step as typed_step, with_item}
use Rattle.wdl_typed.specs.Declarations.{bound, in_body, plain_key}
use Rattle.wdl_typed.specs.Evaluation.{value_of}
use Rattle.wdl_typed.specs.Flow as flow
use Rattle.wdl_typed.specs.Flow.{Callee, Ended, Flowing, Known as KnownName, Names, Part, Run, Runner, Sight, all_known, body_names, body_run, call_of, declaration, declared_as, each_item, env_of, if_run, in_turn, known, missing, named, nothing, run_of_part, scatter_run, scattered, signature_keys, statement_step, together}
use Rattle.wdl_typed.specs.Lists.{has_name}
use Rattle.wdl_typed.specs.Requests.{before}
use Rattle.wdl_typed.specs.Scope.{type_in}
use Rattle.flow_laws.specs.Laws.{run_with}
use Rattle.flow_laws.proofs.Keys.{key_itself}
use Rattle.wdl_swaps.specs.declared.chain.Chain.{Chain}
use Rattle.wdl_swaps.specs.declared.swap.Swap.{Swap}
use Rattle.wdl_swaps.specs.Swaps.{swapped, swapped_decl}
use Rattle.cwl_image.specs.Subset.{declared_by, declared_step}
use Rattle.leaf_image.specs.Inside.{Each, calls_in, calls_of, calls_step, exprs_in, exprs_of}
use Rattle.leaf_image.specs.Replaced.{with_flows}
use Rattle.leaf_image.proofs.Eaches.{each_by, each_left, each_right}
use Rattle.flow_soundness.specs.Readiness.{Agrees, IsLibrary, IsNew, are_among}
use Rattle.flow_soundness.proofs.Fitting.{agrees_both, agrees_one, value_fits}
use Rattle.flow_soundness.proofs.FlowSound.{one_apart}
use Rattle.flow_soundness.proofs.GivenKeys.{when_some}
use Rattle.flow_soundness.proofs.NewNames.{name_left, name_one, name_right}
use Rattle.flow_soundness.proofs.Newness.{given_apart, head_new, new_inside, tail_new}
use Rattle.cwl_laws.proofs.Literals.{items_within}
use Rattle.cwl_records.specs.Aliases.{Scene, Step, Walk, alias_of, alias_swap, decl_by, scatter_at, scatter_over, swapped_call, walk, walk_body, walk_step}
use Rattle.alias_laws.specs.Laws.{FilesKeepLimits}
use Rattle.alias_laws.proofs.Behind.{agrees_behind, form_new, new_key, typed_behind}
use Rattle.alias_laws.proofs.Calls.{CallHolds, CleanCall, call_same}
use Rattle.alias_laws.proofs.Dropped.{aliased}
use Rattle.alias_laws.proofs.FileLimits.{flows_keep, known_keeps, statement_keeps, within_keeps}
use Rattle.alias_laws.proofs.Hiding.{hidden_by}
use Rattle.alias_laws.proofs.Naming.{Gone, SameKeys, all_named, gone_first, gone_rest, seen_behind}
use Rattle.alias_laws.proofs.PlainNames.{declared_in, plain_declared}
use Rattle.alias_laws.proofs.SameSteps.{parts_append, AllSame, SameNames, SameStep, same_alone, same_counted, same_fault, same_gathered, same_giving, same_missing, same_step, same_together}
use Rattle.alias_laws.proofs.Sights.{Clean, item_behind, item_known, item_small, Sees, Stands, known_same, sees_alone, sees_grouped, sees_longer, value_same}
use Rattle.alias_laws.proofs.WalkLaws.{alias_parts, calls_one, declared_one, exprs_one, if_left, joined_append, scatter_left}
use Rattle.alias_laws.proofs.Within.{value_within}
use Rattle.wdl_base.proofs.Options.{then_parts}
use Rattle.flow_soundness.proofs.BlockReady.{none_new}

module _ (lib : Library) (flows : List FlowDef) (site : List ℕ) (table : List Row) (kept : IsLibrary lib) (limits : FilesKeepLimits lib site table) (depth : ℕ) (other : Callee)
    (declares strays : List (List ℕ)) (bad : List ℕ → Bool) (bad_declared : (n : List ℕ) → has_name n declares ≡ false → bad n ≡ false) where
  abbrev old_run : Run
  old_run = run_with lib site table

  abbrev new_run : Run
  new_run = run_with (with_flows lib flows) site table

  abbrev callee : Callee
  callee = flow.flow old_run depth

  abbrev scene : Scene
  scene = record { lib = lib; declared = declares; strays = strays }

  abbrev hidden : Key → Bool
  hidden = hidden_by bad

  abbrev left : Statement → Part
  left = fold-Statement Part (statement_step old_run callee)

  abbrev right : Statement → Part
  right = fold-Statement Part (statement_step new_run other)

  abbrev lefts : List Statement → List Runner
  lefts ss = map run_of_part (map left ss)

  abbrev rights : List Statement → List Runner
  rights ss = map run_of_part (map right ss)

  abbrev at : List KnownName → List Ended → List Segment → Sight
  at names calls place = record { names = names; calls = calls; place = place }

  abbrev pub HasCall : TCall → Type 0
  HasCall = CallHolds hidden old_run new_run callee other

  abbrev SeesBoth : List Bound → List Swap → List KnownName → List KnownName → Type 0
  SeesBoth = Sees hidden declares

  -- what is asked of the calls in statements, of what they declare, and of what is left of them
  pub record Asked (cs : List TCall) (names : List (List ℕ)) (remains : List Statement) : Type 0 where
    pub calls : Each HasCall cs
    pub exprs : Each (Clean hidden) (exprs_in remains)
    pub args : Each (CleanCall hidden) (calls_in remains)
    pub gone : Gone bad names remains

  -- what a statement gives, and what is given by what is left of it
  record Ran (bounds : List Bound) (added : List Swap) (old now : List KnownName) (f g : Flowing) : Type 0 where
    pub same : SameStep hidden f g
    pub added_stand : Each (Stands hidden bounds (env_of (old ++ f.names)) (env_of (now ++ g.names))) added

  -- the same of a body
  pub record BodyRan (bounds : List Bound) (ss : List Swap) (old now : List KnownName) (f g : Flowing) : Type 0 where
    pub same : SameStep hidden f g
    pub sees : SeesBoth bounds ss (old ++ f.names) (now ++ g.names)

  abbrev Runs : Statement → Type 0
  Runs st =
      (seen given : Seen) (names : List Bound) (ss : List Swap) (all taken : List (List ℕ)) → names ≡ seen.names → gives lib st seen ≡ Some given → IsNew all taken seen (st ∷ [])
      → Asked (calls_of st) (declared_in st) (walk scene st names ss).kept → are_among declares (declared_in st)
      → (old now : List KnownName) (calls : List Ended) (place : List Segment) → Agrees lib.structs seen.names old → SeesBoth seen.names ss old now
      → Ran (seen.names ++ given.names) (walk scene st names ss).added old now (run_of_part (left st) (at old calls place)) (in_turn (rights (walk scene st names ss).kept) (at now calls place))

  abbrev Known : Type 0
  Known = (st : Statement) × Runs st

  abbrev plain : Statement-F Known → Statement-F Statement
  plain = map-Statement Known Statement (λ (k : Known). k.0)

  abbrev firsts : List Known → List Statement
  firsts = map (λ (k : Known). k.0)

  -- ---- one statement and those behind it

  module _ (seen first : Seen) (st : Statement) (more : List Statement) (names : List Bound) (ss : List Swap) (all taken : List (List ℕ)) (typed : gives lib st seen ≡ Some first) (new : IsNew all taken seen (st ∷ more))
      (old now : List KnownName) (calls : List Ended) (place : List Segment) (agrees : Agrees lib.structs seen.names old) (sees : SeesBoth seen.names ss old now) where
    abbrev f : Flowing
    f = run_of_part (left st) (at old calls place)

    more_agrees : Agrees lib.structs (seen.names ++ first.names) (old ++ f.names)
    more_agrees = agrees_behind old_run kept depth seen first st more all taken typed new (at old calls place) agrees

    -- what they see
    more_seen : (added : List Swap) (g : Flowing) (inside : (n : List ℕ) → has_name n (declared_in st) ≡ true → has_name n declares ≡ true) → Ran (seen.names ++ first.names) added old now f g
        → SeesBoth (seen.names ++ first.names) (ss ++ added) (old ++ f.names) (now ++ g.names)
    more_seen added g inside ran =
        sees_longer hidden declares seen.names first.names ss added old now f.names g.names sees (record { apart = new_key old_run kept depth seen first st more all taken typed new (at old calls place) agrees; same = ran.same.names })
        (λ key x lone none h. let t = typed_behind old_run kept depth seen first st more all taken typed new (at old calls place) agrees key x h in absurd (false≢true (sym none ∙ inside key.first (plain_declared lib st seen first typed key t.0 lone t.1))))
        (statement_keeps old_run limits callee (λ k given at_. flows_keep old_run limits depth k given at_) st (at old calls place)) ran.added_stand

  -- ---- bodies

  abbrev pub BodyRuns : List Statement → Type 0
  BodyRuns body =
      (seen given : Seen) (names : List Bound) (ss : List Swap) (all taken : List (List ℕ)) → names ≡ seen.names → body_gives lib body seen ≡ Some given → IsNew all taken seen body
      → Asked (calls_in body) (declared_by body) (walk_body scene body names ss).kept → are_among declares (declared_by body)
      → (old now : List KnownName) (calls : List Ended) (place : List Segment) → Agrees lib.structs seen.names old → SeesBoth seen.names ss old now
      → BodyRan (seen.names ++ given.names) (ss ++ (walk_body scene body names ss).added) old now (in_turn (lefts body) (at old calls place)) (in_turn (rights (walk_body scene body names ss).kept) (at now calls place))

  body_ran : (ks : List Known) → BodyRuns (firsts ks)
  body_ran [] seen given names ss all taken same h new asked inside old now calls place agrees sees =
      let none : (let e : Seen = record { names = []; calls = [] } in e) ≡ given = cc in
      record {
        same = same_step hidden nothing nothing refl;
        sees = subst (λ (z : Seen). SeesBoth (seen.names ++ z.names) (ss ++ []) (old ++ []) (now ++ [])) none (sees_alone hidden declares seen.names ss old now sees);
      }
  body_ran (k ∷ ks) seen given names ss all taken same h new asked inside old now calls place agrees sees =
      let p = then_parts (λ one. option_and_then (λ rest. Some (joined one rest)) (body_gives lib (firsts ks) (joined seen one))) (gives lib k.0 seen) given h in
      let q = then_parts (λ rest. Some (joined p.0 rest)) (body_gives lib (firsts ks) (joined seen p.0)) given p.2 in
      let both : joined p.0 q.0 ≡ given = cc in
      let w : Step = walk scene k.0 names ss in
      let rest : Step = walk_body scene (firsts ks) (names ++ w.given) (ss ++ w.added) in
      let exprs = subst (Each (Clean hidden)) (joined_append exprs_of w.kept rest.kept) asked.exprs in
      let args = subst (Each (CleanCall hidden)) (joined_append calls_of w.kept rest.kept) asked.args in
      let f : Flowing = run_of_part (left k.0) (at old calls place) in
      let g : Flowing = in_turn (rights w.kept) (at now calls place) in
      let a : Ran (seen.names ++ p.0.names) w.added old now f g =
      k.1 seen p.0 names ss all taken same p.1 (head_new lib all taken seen k.0 (firsts ks) new) (record {
        calls = each_left HasCall (calls_of k.0) (calls_in (firsts ks)) asked.calls;
        exprs = each_left (Clean hidden) (exprs_in w.kept) (exprs_in rest.kept) exprs;
        args = each_left (CleanCall hidden) (calls_in w.kept) (calls_in rest.kept) args;
        gone = gone_first bad scene taken k.0 (firsts ks) new.declared_new names (names ++ w.given) ss (ss ++ w.added) asked.gone;
      }) (λ n h. inside n (name_left n (declared_in k.0) (declared_by (firsts ks)) h)) old now calls place agrees sees in
      let b : BodyRan ((seen.names ++ p.0.names) ++ q.0.names) ((ss ++ w.added) ++ rest.added) (old ++ f.names) (now ++ g.names) (in_turn (lefts (firsts ks)) (at (old ++ f.names) (calls ++ f.calls) place)) (in_turn (rights rest.kept) (at (now ++ g.names) (calls ++ f.calls) place)) =
      body_ran ks (joined seen p.0) q.0 (names ++ w.given) (ss ++ w.added) all (taken ++ declared k.0) (seen_behind old_run new_run callee other bad scene k.0 seen p.0 names ss same p.1) q.1 (tail_new lib all taken seen k.0 (firsts ks) p.0 p.1 new)
      (record {
        calls = each_right HasCall (calls_of k.0) (calls_in (firsts ks)) asked.calls;
        exprs = each_right (Clean hidden) (exprs_in w.kept) (exprs_in rest.kept) exprs;
        args = each_right (CleanCall hidden) (calls_in w.kept) (calls_in rest.kept) args;
        gone = gone_rest bad scene taken k.0 (firsts ks) new.declared_new names (names ++ w.given) ss (ss ++ w.added) asked.gone;
      }) (λ n h. inside n (name_right n (declared_in k.0) (declared_by (firsts ks)) h)) (old ++ f.names) (now ++ g.names) (calls ++ f.calls) place
      (more_agrees seen p.0 k.0 (firsts ks) names ss all taken p.1 new old now calls place agrees sees)
      (more_seen seen p.0 k.0 (firsts ks) names ss all taken p.1 new old now calls place agrees sees w.added g (λ n h. inside n (name_left n (declared_in k.0) (declared_by (firsts ks)) h)) a) in
      subst (λ (z : Seen). BodyRan (seen.names ++ z.names) (ss ++ (w.added ++ rest.added)) old now (together f (in_turn (lefts (firsts ks)) (at (old ++ f.names) (calls ++ f.calls) place))) (in_turn (rights (w.kept ++ rest.kept)) (at now calls place))) both
      (subst (BodyRan (seen.names ++ (p.0.names ++ q.0.names)) (ss ++ (w.added ++ rest.added)) old now (together f (in_turn (lefts (firsts ks)) (at (old ++ f.names) (calls ++ f.calls) place))))
      (sym (parts_append right w.kept rest.kept now calls place))
      (joined_ran (seen.names) p.0.names q.0.names ss w.added rest.added old now f g (in_turn (lefts (firsts ks)) (at (old ++ f.names) (calls ++ f.calls) place)) (λ cs. in_turn (rights rest.kept) (at (now ++ g.names) cs place)) calls a.same b))
    where
      joined_ran : (a b c : List Bound) (d e l : List Swap) (old now : List KnownName) (f g u : Flowing) (v : List Ended → Flowing) (calls : List Ended) → SameStep hidden f g
          → BodyRan ((a ++ b) ++ c) ((d ++ e) ++ l) (old ++ f.names) (now ++ g.names) u (v (calls ++ f.calls)) → BodyRan (a ++ (b ++ c)) (d ++ (e ++ l)) old now (together f u) (together g (v (calls ++ g.calls)))
      joined_ran a b c d e l old now f g u v calls one two =
          let w : Flowing = v (calls ++ g.calls) in
          let moved : BodyRan ((a ++ b) ++ c) ((d ++ e) ++ l) (old ++ f.names) (now ++ g.names) u w =
          subst (λ (cs : List Ended). BodyRan ((a ++ b) ++ c) ((d ++ e) ++ l) (old ++ f.names) (now ++ g.names) u (v (calls ++ cs))) one.calls two in
          record {
            same = same_together hidden f u g w one moved.same;
            sees = sees_grouped hidden declares a b c d e l old f.names u.names now g.names w.names moved.sees;
          }

  -- ---- a statement that is left as one

  -- it gives what its form gives
  one_right : (y : Statement-F Statement) (t : Statement) → roll-Statement y ≡ t → (f : Flowing) (now : List KnownName) (calls : List Ended) (place : List Segment)
      → SameStep hidden f (run_of_part (statement_step new_run other (map-Statement Statement Part right y)) (at now calls place)) → SameStep hidden f (in_turn (rights (t ∷ [])) (at now calls place))
  one_right y t e f now calls place h =
      subst (λ (p : Part). SameStep hidden f (together (run_of_part p (at now calls place)) nothing)) (sym (ap right (sym e) ∙ fold-roll-Statement Part (statement_step new_run other) y))
      (same_alone hidden f (run_of_part (statement_step new_run other (map-Statement Statement Part right y)) (at now calls place)) h)

  -- ---- declarations

  decl_ran : (d : TDecl) (seen given : Seen) (ss : List Swap) (all taken : List (List ℕ)) → typed_step lib (layer.Decl d) seen ≡ Some given → IsNew all taken seen (roll-Statement (layer.Decl d) ∷ []) → (o : Option Chain)
      → alias_of scene seen.names d.name (swapped ss d.value) ≡ o → Asked [] (d.name ∷ []) (decl_by (swapped_decl ss d) o).kept
      → (old now : List KnownName) (calls : List Ended) (place : List Segment) → Agrees lib.structs seen.names old → SeesBoth seen.names ss old now
      → Ran (seen.names ++ given.names) (decl_by (swapped_decl ss d) o).added old now (declaration (at old calls place) d.name d.value) (in_turn (rights (decl_by (swapped_decl ss d) o).kept) (at now calls place))
  decl_ran d seen given ss all taken h new None e asked old now calls place agrees sees =
      let clean = subst (Each (Clean hidden)) (exprs_one (layer.Decl (swapped_decl ss d)) (statement.Decl (swapped_decl ss d)) (statement.rolls-Decl (swapped_decl ss d))) asked.exprs in
      let as_before : Bool → Outcome Value → Flowing = λ b o. cond b (declared_as place d.name o) (named (known d.name None)) in
      let is_same : declaration (at old calls place) d.name d.value ≡ declaration (at now calls place) d.name (swapped ss d.value) =
      ap (λ b. as_before b (value_of (before (env_of old)) d.value)) (known_same hidden declares seen.names ss old now sees d.value clean.0)
      ∙ ap (as_before (all_known now (swapped ss d.value))) (value_same hidden declares seen.names ss old now sees d.value clean.0) in
      record {
        same = one_right (layer.Decl (swapped_decl ss d)) (statement.Decl (swapped_decl ss d)) (statement.rolls-Decl (swapped_decl ss d)) (declaration (at old calls place) d.name d.value) now calls place
            (same_step hidden (declaration (at old calls place) d.name d.value) (declaration (at now calls place) d.name (swapped ss d.value)) is_same);
        added_stand = tt;
      }
  decl_ran d seen given ss all taken h new (Some c) e asked old now calls place agrees sees =
      let p = alias_parts scene seen.names d.name (swapped ss d.value) c e in
      let t = when_some _ _ given h in
      let st : Statement = roll-Statement (layer.Decl d) in
      let gives_it : gives lib st seen ≡ Some given = ap (λ (g : Giving). g seen) (fold-roll-Statement Giving (typed_step lib) (layer.Decl d)) ∙ h in
      let own : type_in given.names (plain_key d.name) ≡ Some d.ty = ap (λ (s : Seen). type_in s.names (plain_key d.name)) (sym t.1) ∙ ap (λ b. cond b (Some d.ty) None) (key_itself (plain_key d.name)) in
      let fresh_key : type_in seen.names (plain_key d.name) ≡ None = given_apart lib all taken seen st [] given gives_it new (plain_key d.name) d.ty own in
      let dropped : bad d.name ≡ true = asked.gone d.name (name_one d.name) refl in
      let a = aliased lib.structs declares bad bad_declared seen.names ss old now sees agrees d.name d.ty d.value c fresh_key dropped p.0 p.1 calls place in
      record {
        same = a.same;
        added_stand = (subst (λ (s : Seen). Stands hidden (seen.names ++ s.names) (env_of (old ++ (declaration (at old calls place) d.name d.value).names)) (env_of (now ++ [])) (alias_swap d.name c)) t.1 a.stands, tt);
      }

  -- ---- calls

  call_ran : (c : TCall) (seen given : Seen) (ss : List Swap) → typed_step lib (layer.Call c) seen ≡ Some given → Asked (c ∷ []) [] (statement.Call (swapped_call ss c) ∷ [])
      → (old now : List KnownName) (calls : List Ended) (place : List Segment) → Agrees lib.structs seen.names old → SeesBoth seen.names ss old now
      → Ran (seen.names ++ given.names) [] old now (run_of_part (statement_step old_run callee (layer.Call c)) (at old calls place)) (in_turn (rights (statement.Call (swapped_call ss c) ∷ [])) (at now calls place))
  call_ran c seen given ss h asked old now calls place agrees sees =
      let now_call : TCall = swapped_call ss c in
      let clean = subst (Each (CleanCall hidden)) (calls_one (layer.Call now_call) (statement.Call now_call) (statement.rolls-Call now_call)) asked.args in
      let n : Names = record { keys = signature_keys c.name (signature lib c.target); calls = c.name ∷ [] } in
      let m : Names = record { keys = signature_keys c.name (signature (with_flows lib flows) c.target); calls = c.name ∷ [] } in
      let holds : HasCall c = asked.calls.0 in
      let same_names_ : n ≡ m = ap (λ (ks : List Key). let z : Names = record { keys = ks; calls = c.name ∷ [] } in z) holds.keys in
      record {
        same = one_right (layer.Call now_call) (statement.Call now_call) (statement.rolls-Call now_call) (call_of old_run callee n c (at old calls place)) now calls place
            (subst (λ (z : Names). SameStep hidden (call_of old_run callee n c (at old calls place)) (call_of new_run other z now_call (at now calls place))) same_names_
            (call_same hidden old_run new_run callee other c holds n seen given h declares ss old now sees agrees clean.0 calls place));
        added_stand = tt;
      }

  -- ---- blocks

  -- what is asked of the body in a block
  inner : (cs : List TCall) (names : List (List ℕ)) (t : Statement) (e : TExpr) (body : List Statement) → exprs_in (t ∷ []) ≡ e ∷ exprs_in body → calls_in (t ∷ []) ≡ calls_in body → all_declared (t ∷ []) ≡ all_declared body
      → Asked cs names (t ∷ []) → Clean hidden e × Asked cs names body
  inner cs names t e body es ca de asked =
      let p = subst (Each (Clean hidden)) es asked.exprs in (
        p.0,
        record { calls = asked.calls; exprs = p.1; args = subst (Each (CleanCall hidden)) ca asked.args; gone = λ n h out. asked.gone n h (ap (has_name n) de ∙ out) },
      )

  module _ (ks : List Known) (seen sb : Seen) (names : List Bound) (ss : List Swap) (all taken : List (List ℕ)) (item : List ℕ) (u : Ty) (same : names ≡ seen.names) (typed : body_gives lib (firsts ks) (with_item seen item u) ≡ Some sb)
      (new : IsNew (item ∷ all) (taken ++ item ∷ []) (with_item seen item u) (firsts ks)) (apart : (key : Key) (t : Ty) → type_in (bound item u ∷ []) key ≡ Some t → type_in seen.names key ≡ None)
      (inside : are_among declares (declared_by (firsts ks))) (old now : List KnownName) (calls : List Ended) (place : List Segment) (agrees : Agrees lib.structs seen.names old) (sees : SeesBoth seen.names ss old now) where
    abbrev remains : List Statement
    remains = (walk_body scene (firsts ks) (names ++ bound item u ∷ []) ss).kept

    abbrev with_it : Value → List KnownName
    with_it = item_known item

    item_seen : (x : Value) → is_within x ≡ true → SeesBoth (seen.names ++ bound item u ∷ []) ss (old ++ with_it x) (now ++ with_it x)
    item_seen x w =
        subst (λ (z : List Swap). SeesBoth (seen.names ++ bound item u ∷ []) z (old ++ with_it x) (now ++ with_it x)) (append-nil ss)
        (sees_longer hidden declares seen.names (bound item u ∷ []) ss [] old now (with_it x) (with_it x) sees (item_behind hidden seen.names item u x apart) (item_small item x w declares)
        (and_from (known_keeps (record { key = plain_key item; value = Some x })) true (within_keeps x w) refl) tt)

    item_agrees : (x : Value) → fits lib.structs x u ≡ true → Agrees lib.structs (seen.names ++ bound item u ∷ []) (old ++ with_it x)
    item_agrees x fit =
        agrees_both lib.structs seen.names (bound item u ∷ []) old (with_it x) agrees
        (agrees_one lib.structs (bound item u) (Some x) (λ y e. let is : x ≡ y = cc in subst (λ (z : Value). fits lib.structs z u ≡ true) is fit)) apart

    items_same : Asked (calls_in (firsts ks)) (declared_by (firsts ks)) remains → (k i : ℕ) (xs : List Value) → all_fit lib.structs xs u ≡ true → list_all is_within xs ≡ true
        → AllSame hidden (each_item (body_run (map left (firsts ks))) (at old calls place) k item i xs) (each_item (body_run (map right remains)) (at now calls place) k item i xs)
    items_same asked k i [] fit small = tt
    items_same asked k i (x ∷ xs) fit small =
        let p = and_parts (fits lib.structs x u) (all_fit lib.structs xs u) fit in
        let q = and_parts (is_within x) (list_all is_within xs) small in
        let there : List Segment = (place ++ segment.Scatter k ∷ []) ++ segment.Index i ∷ [] in
        let ran = body_ran ks (with_item seen item u) sb (names ++ bound item u ∷ []) ss (item ∷ all) (taken ++ item ∷ []) (ap (λ (ns : List Bound). ns ++ bound item u ∷ []) same) typed new asked inside (old ++ with_it x) (now ++ with_it x) calls there
        (item_agrees x p.0) (item_seen x q.0) in (
          same_counted hidden (in_turn (lefts (firsts ks)) (at (old ++ with_it x) calls there)) (in_turn (rights remains) (at (now ++ with_it x) calls there)) (length (map left (firsts ks))) (length (map right remains)) ran.same,
          items_same asked k (i + 1) xs p.1 q.1,
        )

    -- the names that are given out
    names_same : Asked (calls_in (firsts ks)) (declared_by (firsts ks)) remains → SameNames hidden (body_names (map left (firsts ks))) (body_names (map right remains))
    names_same asked =
        all_named old_run new_run callee other bad scene (firsts ks) (with_item seen item u) sb (names ++ bound item u ∷ []) ss (taken ++ item ∷ []) (ap (λ (ns : List Bound). ns ++ bound item u ∷ []) same) typed new.declared_new
        (each_by HasCall (SameKeys old_run new_run callee other bad scene) (λ c h. h.keys) (calls_in (firsts ks)) asked.calls) asked.gone

    scatter_same : Asked (calls_in (firsts ks)) (declared_by (firsts ks)) remains → (over : TExpr) (some : Bool) (k : ℕ) → in_body lib.structs seen.names over ≡ Some (ty.Array u some) → Clean hidden (swapped ss over)
        → SameStep hidden (scatter_run (body_names (map left (firsts ks))) (body_run (map left (firsts ks))) k item over (at old calls place))
        (scatter_run (body_names (map right remains)) (body_run (map right remains)) k item (swapped ss over) (at now calls place))
    scatter_same asked over some k array clean =
        let n : Names = body_names (map left (firsts ks)) in
        let m : Names = body_names (map right remains) in
        let made : Bool → Outcome Value → Flowing = λ b o. cond b (scattered m (body_run (map right remains)) (at now calls place) k item o) (missing m) in
        subst (SameStep hidden (scatter_run n (body_run (map left (firsts ks))) k item over (at old calls place)))
        (ap (λ b. made b (value_of (before (env_of old)) over)) (known_same hidden declares seen.names ss old now sees over clean) ∙ ap (made (all_known now (swapped ss over))) (value_same hidden declares seen.names ss old now sees over clean))
        (by_known n m (names_same asked) (all_known old over) refl)
      where
        by_value : (n m : Names) → SameNames hidden n m → all_known old over ≡ true → (o : Outcome Value) → value_of (before (env_of old)) over ≡ o
            → SameStep hidden (scattered n (body_run (map left (firsts ks))) (at old calls place) k item o) (scattered m (body_run (map right remains)) (at now calls place) k item o)
        by_value n m h known_ (Ok x) e =
            let l = a_list lib.structs x u some (value_fits lib.structs seen.names old over (ty.Array u some) x array agrees known_ e) in
            let items_are : items_in x ≡ l.0 = ap items_at l.2 in
            let small = items_within l.0 (ap is_within (sym l.1) ∙ value_within (env_of old) over x e) in
            subst (λ (xs : List Value). SameStep hidden (flow.gathered n (each_item (body_run (map left (firsts ks))) (at old calls place) k item 0 xs)) (flow.gathered m (each_item (body_run (map right remains)) (at now calls place) k item 0 xs))) (sym items_are)
            (same_gathered hidden n m (each_item (body_run (map left (firsts ks))) (at old calls place) k item 0 l.0) (each_item (body_run (map right remains)) (at now calls place) k item 0 l.0) h (items_same asked k 0 l.0 l.3 small))
        by_value n m h known_ (Err c) e = same_fault hidden (flow.fault_at (place ++ segment.Scatter k ∷ []) item c) (missing n) (missing m) (same_missing hidden n m h)

        by_known : (n m : Names) → SameNames hidden n m → (b : Bool) → all_known old over ≡ b
            → SameStep hidden (cond b (scattered n (body_run (map left (firsts ks))) (at old calls place) k item (value_of (before (env_of old)) over)) (missing n))
            (cond b (scattered m (body_run (map right remains)) (at now calls place) k item (value_of (before (env_of old)) over)) (missing m))
        by_known n m h true e = by_value n m h e (value_of (before (env_of old)) over) refl
        by_known n m h false e = same_missing hidden n m h

  if_same : (ks : List Known) (seen sb : Seen) (names : List Bound) (ss : List Swap) (all taken : List (List ℕ)) (k : ℕ) (c : TExpr) → names ≡ seen.names → body_gives lib (firsts ks) seen ≡ Some sb → IsNew all taken seen (firsts ks)
      → are_among declares (declared_by (firsts ks)) → Asked (calls_in (firsts ks)) (declared_by (firsts ks)) (walk_body scene (firsts ks) names ss).kept → Clean hidden (swapped ss c)
      → (old now : List KnownName) (calls : List Ended) (place : List Segment) → Agrees lib.structs seen.names old → SeesBoth seen.names ss old now
      → SameStep hidden (if_run (body_names (map left (firsts ks))) (body_run (map left (firsts ks))) k c (at old calls place))
      (if_run (body_names (map right (walk_body scene (firsts ks) names ss).kept)) (body_run (map right (walk_body scene (firsts ks) names ss).kept)) k (swapped ss c) (at now calls place))
  if_same ks seen sb names ss all taken k c same typed new inside asked clean old now calls place agrees sees =
      let made : Bool → Outcome Value → Flowing = λ b o. cond b (flow.conditional m (body_run (map right remains)) (at now calls place) k o) (missing m) in
      subst (SameStep hidden (if_run n (body_run (map left (firsts ks))) k c (at old calls place)))
      (ap (λ b. made b (value_of (before (env_of old)) c)) (known_same hidden declares seen.names ss old now sees c clean) ∙ ap (made (all_known now (swapped ss c))) (value_same hidden declares seen.names ss old now sees c clean))
      (by_known (all_known old c))
    where
      remains : List Statement
      remains = (walk_body scene (firsts ks) names ss).kept

      n : Names
      n = body_names (map left (firsts ks))

      m : Names
      m = body_names (map right remains)

      named_same : SameNames hidden n m
      named_same =
          all_named old_run new_run callee other bad scene (firsts ks) seen sb names ss taken same typed new.declared_new
          (each_by HasCall (SameKeys old_run new_run callee other bad scene) (λ c h. h.keys) (calls_in (firsts ks)) asked.calls) asked.gone

      by_test : (b : Bool) → SameStep hidden (flow.chosen n (body_run (map left (firsts ks))) (at old calls place) k b) (flow.chosen m (body_run (map right remains)) (at now calls place) k b)
      by_test true =
          let there : List Segment = place ++ segment.If k ∷ [] in
          let ran = body_ran ks seen sb names ss all taken same typed new asked inside old now calls there agrees sees in
          same_counted hidden (in_turn (lefts (firsts ks)) (at old calls there)) (in_turn (rights remains) (at now calls there)) (length (map left (firsts ks))) (length (map right remains)) ran.same
      by_test false = same_giving hidden v.Absent n m named_same

      by_value : (o : Outcome Value) → SameStep hidden (flow.conditional n (body_run (map left (firsts ks))) (at old calls place) k o) (flow.conditional m (body_run (map right remains)) (at now calls place) k o)
      by_value (Ok x) = by_test (bool_in x)
      by_value (Err e) = same_fault hidden (flow.fault_at (place ++ segment.If k ∷ []) (codes "if") e) (missing n) (missing m) (same_missing hidden n m named_same)

      by_known : (b : Bool) → SameStep hidden (cond b (flow.conditional n (body_run (map left (firsts ks))) (at old calls place) k (value_of (before (env_of old)) c)) (missing n))
          (cond b (flow.conditional m (body_run (map right remains)) (at now calls place) k (value_of (before (env_of old)) c)) (missing m))
      by_known true = by_value (value_of (before (env_of old)) c)
      by_known false = same_missing hidden n m named_same

  -- ---- form by form

  abbrev FormRuns : Statement-F Known → Type 0
  FormRuns y =
      (seen given : Seen) (ss : List Swap) (all taken : List (List ℕ)) → typed_step lib (map-Statement Statement Giving (gives lib) (plain y)) seen ≡ Some given → IsNew all taken seen (roll-Statement (plain y) ∷ [])
      → (let w : Step = walk_step scene (map-Statement Statement Walk (walk scene) (plain y)) seen.names ss in
      Asked (calls_step (map-Statement Statement (List TCall) calls_of (plain y))) (declared_step (map-Statement Statement (List (List ℕ)) declared_in (plain y))) w.kept
      → are_among declares (declared_step (map-Statement Statement (List (List ℕ)) declared_in (plain y)))
      → (old now : List KnownName) (calls : List Ended) (place : List Segment) → Agrees lib.structs seen.names old → SeesBoth seen.names ss old now
      → Ran (seen.names ++ given.names) w.added old now (run_of_part (statement_step old_run callee (map-Statement Statement Part left (plain y))) (at old calls place)) (in_turn (rights w.kept) (at now calls place)))

  scatter_form : (s : TScatter Known) → FormRuns (layer.Scatter s)
  scatter_form s seen given ss all taken h new asked inside old now calls place agrees sees =
      let p = then_parts (λ t. typed_over s.item (body_step (map (gives lib) (firsts s.body))) seen (out-Ty t)) (in_body lib.structs seen.names s.over) given h in
      by_type p.0 p.1 (out-Ty p.0) refl p.2
    where
      at_walk : TScatter Walk
      at_walk = record { number = s.number; item = s.item; over = s.over; body = map (walk scene) (firsts s.body); span = s.span }

      by_type : (t : Ty) → in_body lib.structs seen.names s.over ≡ Some t → (z : Ty-F Ty) → out-Ty t ≡ z → typed_over s.item (body_step (map (gives lib) (firsts s.body))) seen z ≡ Some given
          → (let w : Step = scatter_over at_walk seen.names ss (in_body lib.structs seen.names s.over) in
          Ran (seen.names ++ given.names) w.added old now (scatter_run (body_names (map left (firsts s.body))) (body_run (map left (firsts s.body))) s.number s.item s.over (at old calls place)) (in_turn (rights w.kept) (at now calls place)))
      by_type t typed (type.Array u some) e g =
          let array : t ≡ ty.Array u some = sym (roll-out-Ty t) ∙ ap roll-Ty e ∙ ty.rolls-Array u some in
          let q = then_parts (λ z. Some (retyped (λ w. ty.Array w some) z)) (body_step (map (gives lib) (firsts s.body)) (with_item seen s.item u)) given g in
          let walked : scatter_over at_walk seen.names ss (in_body lib.structs seen.names s.over) ≡ scatter_at at_walk seen.names ss (type.Array u some) = ap (scatter_over at_walk seen.names ss) typed ∙ ap (scatter_at at_walk seen.names ss) e in
          let left_body : List Statement = (walk_body scene (firsts s.body) (seen.names ++ bound s.item u ∷ []) ss).kept in
          let now_scatter : TScatter Statement = scatter_left ss s left_body in
          let f = form_new all taken seen (plain (layer.Scatter s)) new in
          let n = and_parts (not (has_name s.item all)) (items_differ (firsts s.body) (s.item ∷ all)) f.items_new in
          let out : has_name s.item all ≡ false = not-true (has_name s.item all) n.0 in
          let new_there = new_inside all taken seen s.item u (firsts s.body) out n.1 (none_new all taken seen (roll-Statement (plain (layer.Scatter s)) ∷ []) new) f.declared_all f.declared_new in
          let apart = one_apart lib.structs seen.names all s.item u (λ key v_ g_. new.taken_all key.first (new.seen_taken key v_ g_)) out in
          let asked_now : Asked (calls_in (firsts s.body)) (declared_by (firsts s.body)) (statement.Scatter now_scatter ∷ []) =
          subst (λ (w : Step). Asked (calls_in (firsts s.body)) (declared_by (firsts s.body)) w.kept) walked asked in
          let a = inner (calls_in (firsts s.body)) (declared_by (firsts s.body)) (statement.Scatter now_scatter) (swapped ss s.over) left_body (exprs_one (layer.Scatter now_scatter) (statement.Scatter now_scatter) (statement.rolls-Scatter now_scatter))
          (calls_one (layer.Scatter now_scatter) (statement.Scatter now_scatter) (statement.rolls-Scatter now_scatter)) (declared_one (layer.Scatter now_scatter) (statement.Scatter now_scatter) (statement.rolls-Scatter now_scatter)) asked_now in
          let run = scatter_run (body_names (map left (firsts s.body))) (body_run (map left (firsts s.body))) s.number s.item s.over (at old calls place) in
          subst (λ (w : Step). Ran (seen.names ++ given.names) w.added old now run (in_turn (rights w.kept) (at now calls place))) (sym walked) (record {
            same = one_right (layer.Scatter now_scatter) (statement.Scatter now_scatter) (statement.rolls-Scatter now_scatter) run now calls place
                (scatter_same s.body seen q.0 seen.names ss all taken s.item u refl q.1 new_there apart inside old now calls place agrees sees a.1 s.over some s.number (typed ∙ ap (λ (z : Ty). Some z) array) a.0);
            added_stand = tt;
          })
      by_type t typed z e g = absurd (cc)

  if_form : (i : TIf Known) → FormRuns (layer.If i)
  if_form i seen given ss all taken h new asked inside old now calls place agrees sees =
      let p = then_parts (if_over (body_step (map (gives lib) (firsts i.body))) seen) (in_body lib.structs seen.names i.cond) given h in
      by_test (is_bool p.0) p.2
    where
      by_test : (b : Bool) → cond b (option_and_then (λ g. Some (retyped optional g)) (body_step (map (gives lib) (firsts i.body)) seen)) None ≡ Some given
          → Ran (seen.names ++ given.names) [] old now (if_run (body_names (map left (firsts i.body))) (body_run (map left (firsts i.body))) i.number i.cond (at old calls place))
          (in_turn (rights (statement.If (if_left ss i (walk_body scene (firsts i.body) seen.names ss).kept) ∷ [])) (at now calls place))
      by_test true g =
          let q = then_parts (λ z. Some (retyped optional z)) (body_step (map (gives lib) (firsts i.body)) seen) given g in
          let left_body : List Statement = (walk_body scene (firsts i.body) seen.names ss).kept in
          let now_if : TIf Statement = if_left ss i left_body in
          let f = form_new all taken seen (plain (layer.If i)) new in
          let a = inner (calls_in (firsts i.body)) (declared_by (firsts i.body)) (statement.If now_if) (swapped ss i.cond) left_body (exprs_one (layer.If now_if) (statement.If now_if) (statement.rolls-If now_if))
          (calls_one (layer.If now_if) (statement.If now_if) (statement.rolls-If now_if)) (declared_one (layer.If now_if) (statement.If now_if) (statement.rolls-If now_if)) asked in
          let new_there : IsNew all taken seen (firsts i.body) =
          record { seen_taken = new.seen_taken; taken_all = new.taken_all; declared_all = f.declared_all; declared_new = f.declared_new; items_new = f.items_new } in
          let run = if_run (body_names (map left (firsts i.body))) (body_run (map left (firsts i.body))) i.number i.cond (at old calls place) in
          record {
            same = one_right (layer.If now_if) (statement.If now_if) (statement.rolls-If now_if) run now calls place
                (if_same i.body seen q.0 seen.names ss all taken i.number i.cond refl q.1 new_there inside a.1 a.0 old now calls place agrees sees);
            added_stand = tt;
          }
      by_test false g = absurd (cc)

  by_form : (y : Statement-F Known) → FormRuns y
  by_form (layer.Decl d) seen given ss all taken h new asked inside old now calls place agrees sees =
      decl_ran d seen given ss all taken h new (alias_of scene seen.names d.name (swapped ss d.value)) refl asked old now calls place agrees sees
  by_form (layer.Call c) seen given ss all taken h new asked inside old now calls place agrees sees = call_ran c seen given ss h asked old now calls place agrees sees
  by_form (layer.Scatter s) seen given ss all taken h new asked inside old now calls place agrees sees = scatter_form s seen given ss all taken h new asked inside old now calls place agrees sees
  by_form (layer.If i) seen given ss all taken h new asked inside old now calls place agrees sees = if_form i seen given ss all taken h new asked inside old now calls place agrees sees

  runs : (st : Statement) → Runs st
  runs = ind-Statement Runs (λ x y is. subst (λ (z : Statement-F Statement). Runs (roll-Statement z)) is (λ seen given names ss all taken same h new asked inside old now calls place agrees sees.
      let st : Statement = roll-Statement (plain y) in
      let old_part = fold-roll-Statement Part (statement_step old_run callee) (plain y) in
      let walked = fold-roll-Statement Walk (walk_step scene) (plain y) in
      let typed = sym (ap (λ (g : Giving). g seen) (fold-roll-Statement Giving (typed_step lib) (plain y))) ∙ h in
      let called = fold-roll-Statement (List TCall) calls_step (plain y) in
      let declares_ = fold-roll-Statement (List (List ℕ)) declared_step (plain y) in
      let at_form : Walk = walk_step scene (map-Statement Statement Walk (walk scene) (plain y)) in
      let step_is : walk scene st names ss ≡ at_form seen.names ss = ap (λ (w : Walk). w names ss) walked ∙ ap (λ (ns : List Bound). at_form ns ss) same in
      let asked_form : Asked (calls_step (map-Statement Statement (List TCall) calls_of (plain y))) (declared_step (map-Statement Statement (List (List ℕ)) declared_in (plain y))) (at_form seen.names ss).kept =
      subst (λ (cs : List TCall). Asked cs (declared_step (map-Statement Statement (List (List ℕ)) declared_in (plain y))) (at_form seen.names ss).kept) called
      (subst (λ (ns : List (List ℕ)). Asked (calls_of st) ns (at_form seen.names ss).kept) declares_ (subst (λ (w : Step). Asked (calls_of st) (declared_in st) w.kept) step_is asked)) in
      let run = run_of_part (statement_step old_run callee (map-Statement Statement Part left (plain y))) (at old calls place) in
      subst (λ (p : Part). Ran (seen.names ++ given.names) (walk scene st names ss).added old now (run_of_part p (at old calls place)) (in_turn (rights (walk scene st names ss).kept) (at now calls place))) (sym old_part)
      (subst (λ (w : Step). Ran (seen.names ++ given.names) w.added old now run (in_turn (rights w.kept) (at now calls place))) (sym step_is)
      (by_form y seen given ss all taken typed new asked_form (subst (are_among declares) declares_ inside) old now calls place agrees sees))))

  abbrev with_facts : List Statement → List Known
  with_facts [] = []
  with_facts (t ∷ body) = (t, runs t) ∷ with_facts body

  firsts_are : (body : List Statement) → firsts (with_facts body) ≡ body
  firsts_are [] = refl
  firsts_are (t ∷ body) = ap (λ (ts : List Statement). t ∷ ts) (firsts_are body)

  -- What the walk leaves of a body gives what the body gave.
  pub all_runs : (body : List Statement) → BodyRuns body
  all_runs body = subst BodyRuns (firsts_are body) (body_ran (with_facts body))
