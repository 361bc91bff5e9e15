-- A call with leaves in the places of struct inputs gives what the call gave.
use Rattle.std.proofs.Common.{◌≡◌, ℕ, Bool, true, false, cond, not, ◌&&◌, ◌||◌, List, [], ◌∷◌, map, Option, Some, None, Ok, Err, sym, ap, ◌∙◌, subst, refl}
use Rattle.std.specs.Str.{bytes_eq}
use Rattle.std.specs.Prelude.{is_none}
use Rattle.std.proofs.lemmas.Bool.{false≢true, and_parts}
use Rattle.wdl_base.specs.declared.fault.Fault.{Fault}
use Rattle.wdl_base.specs.declared.name.Key.{Key}
use Rattle.wdl_base.specs.declared.place.Segment.{Segment}
use Rattle.wdl_base.specs.declared.request.Request.{Request}
use Rattle.wdl_value.specs.declared.env.Bind.{Bind}
use Rattle.wdl_value.specs.declared.ty.Ty.{Ty, Ty-F, out-Ty}
use Rattle.wdl_value.specs.declared.ty.Ty.TheOpen as type
use Rattle.wdl_value.specs.declared.value.Value.{Value}
use Rattle.wdl_value.specs.Bare.{is_optional}
use Rattle.wdl_value.specs.Fits.{Structs}
use Rattle.wdl_value.specs.Outcome.{Outcome}
use Rattle.wdl_value.specs.Tables.{Row}
use Rattle.wdl_typed.specs.declared.expr.TExpr.{TExpr}
use Rattle.wdl_typed.specs.declared.expr.TField.{TField}
use Rattle.wdl_typed.specs.declared.flow.FlowDef.{FlowDef}
use Rattle.wdl_typed.specs.declared.task.TDecl.{TDecl}
use Rattle.wdl_typed.specs.declared.task.TInput.{TInput}
use Rattle.wdl_typed.specs.declared.task.TaskDef.{TaskDef}
use Rattle.wdl_typed.specs.Bodies.{Library, all_given, arg_names, is_required}
use Rattle.wdl_typed.specs.Declarations.{plain_key}
use Rattle.wdl_typed.specs.Evaluation.{value_of}
use Rattle.wdl_typed.specs.Flow.{Flowing, Known, Names, Run, arg_bind, args_met, flow_ended, is_clean, is_empty, named_arg, output_keys, output_of, task_called, value_in}
use Rattle.wdl_typed.specs.KnownTypes.{is_some}
use Rattle.wdl_typed.specs.Lists.{has_name}
use Rattle.wdl_typed.specs.Requests.{Successes, Tried, before, tried}
use Rattle.wdl_typed.specs.Scope.{lookup}
use Rattle.flow_laws.specs.Laws.{run_with}
use Rattle.leaf_image.specs.Inside.{Each}
use Rattle.leaf_image.specs.Leaves.{is_record, is_struct}
use Rattle.leaf_image.specs.Records.{is_record_of}
use Rattle.leaf_image.specs.Replaced.{with_flows}
use Rattle.wdl_swaps.specs.Swaps.{swapped_decl}
use Rattle.wdl_swaps.specs.declared.swap.Swap.{Swap}
use Rattle.record_laws.proofs.Giving.{Alike, members, none, plain}
use Rattle.record_laws.proofs.LeafNames.{name_is}
use Rattle.record_laws.proofs.Lookups.{plain_same}

-- ---- tasks

-- without struct inputs all arguments are the same
pub alike_same : (structs : Structs) {bs cs : List Bind} → Alike structs [] [] bs cs → cs ≡ bs
alike_same structs none = refl
alike_same structs (plain b own leaf rest) = ap (λ (xs : List Bind). b ∷ xs) (alike_same structs rest)
alike_same structs (members n x t r i f w rest) = absurd (false≢true r)

module _ (lib : Library) (flows : List FlowDef) (site : List ℕ) (table : List Row) where
  abbrev old : Run
  old = run_with lib site table

  abbrev new : Run
  new = run_with (with_flows lib flows) site table

  pub task_same : (n : Names) (place : List Segment) (call : List ℕ) (args : List Bind) (o : Option TaskDef) → task_called old n place call args o ≡ task_called new n place call args o
  task_same n place call args o = refl

-- ---- workflows

-- The two have the same values for these outputs, and the same of all else but names.
pub record SameFlow (ds : List TDecl) (f g : Flowing) : Type 0 where
  pub names : Each (λ (d : TDecl). value_in (plain_key d.name) f ≡ value_in (plain_key d.name) g) ds
  pub jobs : f.jobs ≡ g.jobs
  pub codes : f.codes ≡ g.codes
  pub faults : f.faults ≡ g.faults
  pub waits : f.waits ≡ g.waits
  pub count : f.count ≡ g.count

pub outputs_same : (call : List ℕ) (ss : List Swap) (f g : Flowing) (ds : List TDecl) → Each (λ (d : TDecl). value_in (plain_key d.name) f ≡ value_in (plain_key d.name) g) ds
    → map (output_of f.names call) ds ≡ map (output_of g.names call) (map (swapped_decl ss) ds)
outputs_same call ss f g [] h = refl
outputs_same call ss f g (d ∷ ds) h =
    let made : Option Value → Known = λ o. record { key = record { first = call; second = Some d.name }; value = o } in
    ap (λ (o : Option Value). made o ∷ map (output_of f.names call) ds) h.0
    ∙ ap (λ (ks : List Known). made (value_in (plain_key d.name) g) ∷ ks) (outputs_same call ss f g ds h.1)

pub ended_same : (call : List ℕ) (ss : List Swap) (ds : List TDecl) (f g : Flowing) → SameFlow ds f g → flow_ended call ds f ≡ flow_ended call (map (swapped_decl ss) ds) g
ended_same call ss ds f g h =
    let made : List Known → Flowing → Flowing = λ ks x. record { names = ks; calls = record { call = call; ended = is_clean x } ∷ []; jobs = x.jobs; codes = x.codes; faults = x.faults; waits = x.waits; count = x.count } in
    let keep : List Known = map (output_of g.names call) (map (swapped_decl ss) ds) in
    let part : List Request → List Successes → List Fault → List (List Segment) → ℕ → Flowing =
    λ jobs codes faults waits count. record { names = keep; calls = record { call = call; ended = is_empty faults && is_empty waits } ∷ []; jobs = jobs; codes = codes; faults = faults; waits = waits; count = count } in
    ap (λ (ks : List Known). made ks f) (outputs_same call ss f g ds h.names)
    ∙ ap (λ js. part js f.codes f.faults f.waits f.count) h.jobs
    ∙ ap (λ cs. part g.jobs cs f.faults f.waits f.count) h.codes
    ∙ ap (λ xs. part g.jobs g.codes xs f.waits f.count) h.faults
    ∙ ap (λ ws. part g.jobs g.codes g.faults ws f.count) h.waits
    ∙ ap (λ n. part g.jobs g.codes g.faults g.waits n) h.count

pub keys_same : (call : List ℕ) (ss : List Swap) (ds : List TDecl) → output_keys call ds ≡ output_keys call (map (swapped_decl ss) ds)
keys_same call ss [] = refl
keys_same call ss (d ∷ ds) = ap (λ (ks : List Key). record { first = call; second = Some d.name } ∷ ks) (keys_same call ss ds)

-- ---- struct inputs are given

struct_required : (t : Ty) → is_struct (out-Ty t) ≡ true → is_optional (out-Ty t) ≡ false
struct_required t h = by_type (out-Ty t) h
  where
    by_type : (z : Ty-F Ty) → is_struct z ≡ true → is_optional z ≡ false
    by_type (type.Struct s) h = refl
    by_type type.Bool h = refl
    by_type type.Int h = refl
    by_type type.Str h = refl
    by_type type.File h = refl
    by_type (type.Array a b) h = refl
    by_type (type.Map a b) h = refl
    by_type (type.Pair a b) h = refl
    by_type (type.Opt a) h = absurd (false≢true h)
    by_type type.Absent h = refl
    by_type type.Empty h = refl

pub record_required : (i : TInput) → is_record i ≡ true → is_required i ≡ true
record_required i h =
    let p = and_parts (is_none i.value) (is_struct (out-Ty i.ty)) h in
    by_parts i.value p.0 (is_optional (out-Ty i.ty)) (struct_required i.ty p.1)
  where
    by_parts : (o : Option TExpr) → is_none o ≡ true → (b : Bool) → b ≡ false → (not (is_some o) && not b) ≡ true
    by_parts None n false e = refl
    by_parts None n true e = absurd (false≢true (sym e))
    by_parts (Some x) n b e = absurd (false≢true n)

pub record_named : (is : List TInput) (names : List (List ℕ)) → all_given is names ≡ true → (n : List ℕ) → is_record_of is n ≡ true → has_name n names ≡ true
record_named [] names h n r = absurd (false≢true r)
record_named (i ∷ is) names h n r =
    let p = and_parts (not (is_required i) || has_name i.name names) (all_given is names) h in
    by_name (bytes_eq i.name n) refl r p.0 (record_named is names p.1 n)
  where
    by_need : (b : Bool) → b ≡ true → (not b || has_name i.name names) ≡ true → has_name i.name names ≡ true
    by_need true e h = h
    by_need false e h = absurd (false≢true e)

    by_name : (b : Bool) → bytes_eq i.name n ≡ b → cond b (is_record i) (is_record_of is n) ≡ true → (not (is_required i) || has_name i.name names) ≡ true → (is_record_of is n ≡ true → has_name n names ≡ true) → has_name n names ≡ true
    by_name true e r given rest = ap (λ m. has_name m names) (sym (name_is i.name n e)) ∙ by_need (is_required i) (record_required i r) given
    by_name false e r given rest = rest r

-- what is given by an argument
pub named_met : (env : List Bind) (as_ : List (TField TExpr)) (bs : List Bind) → args_met env as_ ≡ Ok bs → (n : List ℕ) → has_name n (arg_names as_) ≡ true → (x : Value) × (lookup bs (plain_key n) ≡ Some x)
named_met env [] bs e n h = absurd (false≢true h)
named_met env (a ∷ as_) bs e n h = by_value (λ more i. named_met env as_ more i n) (value_of (before env) a.value) e
  where
    found : (x : Value) (more : List Bind) → (b : Bool) → bytes_eq a.name n ≡ b → (b || has_name n (arg_names as_)) ≡ true → (has_name n (arg_names as_) ≡ true → (y : Value) × (lookup more (plain_key n) ≡ Some y))
        → (y : Value) × (lookup (arg_bind a.name x ∷ more) (plain_key n) ≡ Some y)
    found x more true i h rest = (x, ap (λ b. cond b (Some x) (lookup more (plain_key n))) (plain_same a.name n ∙ i))
    found x more false i h rest = let r = rest h in (r.0, ap (λ b. cond b (Some x) (lookup more (plain_key n))) (plain_same a.name n ∙ i) ∙ r.1)

    by_rest : (x : Value) (r : Tried (List Bind)) → args_met env as_ ≡ r → tried r (λ more. Ok (arg_bind a.name x ∷ more)) ≡ Ok bs
        → ((more : List Bind) → args_met env as_ ≡ Ok more → has_name n (arg_names as_) ≡ true → (y : Value) × (lookup more (plain_key n) ≡ Some y)) → (y : Value) × (lookup bs (plain_key n) ≡ Some y)
    by_rest x (Ok more) i e rest =
        let same : (arg_bind a.name x ∷ more) ≡ bs = cc in
        subst (λ (zs : List Bind). (y : Value) × (lookup zs (plain_key n) ≡ Some y)) same (found x more (bytes_eq a.name n) refl h (rest more i))
    by_rest x (Err f) i e rest = absurd (cc)

    by_value : ((more : List Bind) → args_met env as_ ≡ Ok more → has_name n (arg_names as_) ≡ true → (y : Value) × (lookup more (plain_key n) ≡ Some y))
        → (o : Outcome Value) → tried (named_arg a.name o) (λ x. tried (args_met env as_) (λ more. Ok (arg_bind a.name x ∷ more))) ≡ Ok bs → (y : Value) × (lookup bs (plain_key n) ≡ Some y)
    by_value rest (Ok x) e = by_rest x (args_met env as_) refl e rest
    by_value rest (Err c) e = absurd (cc)
