-- What the law asks of the statements of a body and of the references in them.
use Rattle.std.specs.Prelude.{◌≡◌, ℕ, Bool, true, false, List, [], ◌∷◌, ◌++◌, Option, Some, None, map, Contains, codes, decimal}
use Rattle.std.specs.Str.{bytes_eq}
use Rattle.wdl_base.specs.declared.name.Key.{Key}
use Rattle.wdl_base.specs.declared.place.Segment.TheVariants as segment
use Rattle.wdl_value.specs.declared.env.Bind.{Bind}
use Rattle.wdl_value.specs.declared.ty.Ty.{Ty}
use Rattle.wdl_value.specs.declared.ty.Ty.TheVariants as ty
use Rattle.wdl_value.specs.declared.value.Value.{Value}
use Rattle.wdl_value.specs.declared.value.Value.TheVariants as v
use Rattle.wdl_value.specs.Fits.{Structs, fits}
use Rattle.wdl_value.specs.Limits.{is_within, limited}
use Rattle.wdl_typed.specs.declared.expr.TExpr.{TExpr}
use Rattle.wdl_typed.specs.declared.expr.TField.{TField}
use Rattle.wdl_typed.specs.declared.scope.Bound.{Bound}
use Rattle.wdl_typed.specs.declared.flow.TCall.{TCall}
use Rattle.wdl_typed.specs.declared.task.TDecl.{TDecl}
use Rattle.wdl_typed.specs.declared.task.TInput.{TInput}
use Rattle.wdl_typed.specs.Bodies.{all_given, arg_names, input_type}
use Rattle.wdl_typed.specs.Declarations.{bound, decl_names, input_names, inputs_bound, plain_key}
use Rattle.wdl_typed.specs.Evaluation.{value_of}
use Rattle.wdl_typed.specs.Flow.{Flowing, Known, Names, Runner, all_known, env_of, is_clean, known}
use Rattle.wdl_typed.specs.Lists.{are_distinct, has_name}
use Rattle.wdl_typed.specs.Requests.{before}
use Rattle.wdl_typed.specs.Scope.{lookup, names_of, same_key, type_in}
use Rattle.cwl_model.specs.declared.process.Link.{Link}
use Rattle.cwl_model.specs.declared.process.Link.TheVariants as link
use Rattle.cwl_model.specs.declared.process.Wire.{Wire}
use Rattle.cwl_model.specs.declared.ty.CwlTy.TheVariants as cwl
use Rattle.cwl_model.specs.Ids.{segment_of}
use Rattle.cwl_model.specs.Laws.{Apart, is_of}
use Rattle.cwl_model.specs.Means.{Ground, Meaning, Named, has_type, is_complete, value_at}
use Rattle.cwl_image.specs.Image.{Draft, Linkage, Scope, body_links, body_steps, id_of, inner_scope, input_linkage, item_linkage, linkage_at, link_or, literal, outer_uses, reference, type_of}
use Rattle.cwl_laws.specs.Laws.{AllDiffer, AllNew, AllSimulate, FitsAt, KeysDiffer, all_running, jobs_of}

-- ---- references

-- An expression of the subset, where names are seen with these types: a reference of that type. It has the value of what it
-- refers to, within the limits.
pub record Reads (structs : Structs) (seen : List Bound) (e : TExpr) (key : Key) (t : Ty) : Type 0 where
  pub refers : reference e ≡ Some key
  pub known : (names : List Known) (x : Value) → lookup (env_of names) key ≡ Some x → all_known names e ≡ true
  pub value : (env : List Bind) (x : Value) → FitsAt structs seen key x → lookup env key ≡ Some x → value_of (before env) e ≡ limited x
  pub fit : (x : Value) → FitsAt structs seen key x → fits structs x t ≡ true
  pub typed : (x : Value) → FitsAt structs seen key x → has_type (type_of t) x ≡ true

-- ---- bodies

-- Each wire goes to what a reference is linked to.
abbrev pub WiresBy : Draft → Type 0
WiresBy d = (scope : Scope) (l : Link) → Contains (map (λ (w : Wire). w.source) (d.wires scope)) l → (key : Key) × (l ≡ link_or (linkage_at scope key))

abbrev pub AllWires : List Draft → Type 0
AllWires [] = Unit {0}
AllWires (d ∷ ds) = WiresBy d × AllWires ds

-- No two of these references have one id.
abbrev pub IdsDiffer : List Linkage → Type 0
IdsDiffer ls = (a b : Linkage) → Contains ls a → Contains ls b → bytes_eq (id_of a.key) (id_of b.key) ≡ true → a.key ≡ b.key

-- a body within a block, and what references are linked to in its flow: the flow's inputs alone
pub record IsInner (g : Ground) (structs : Structs) (seen : List Bound) (fs : List Runner) (ds : List Draft) (inner : Scope) : Type 0 where
  pub after : List Bound
  pub all : AllSimulate g structs seen inner fs ds after
  pub differ : AllDiffer ds
  pub wires : AllWires ds
  pub apart : Apart is_of (all_running g (body_steps ds inner))
  pub inputs : (l : Linkage) → Contains inner l → (i : List ℕ) × (l.link ≡ link.Input i)
  pub ids : IdsDiffer (body_links ds)
  pub found : (l : Linkage) → Contains (body_links ds) l → linkage_at (inner ++ body_links ds) l.key ≡ Some l

abbrev pub when_id : List ℕ
when_id = codes "_when"

-- a condition whose body's statements agree with their steps
pub record IsCondition (g : Ground) (structs : Structs) (seen : List Bound) (scope : Scope) (n : Names) (fs : List Runner) (k : ℕ) (e : TExpr) (key : Key) (ds : List Draft) : Type 0 where
  pub inner : IsInner g structs seen fs ds (inner_scope scope (outer_uses [] ds))
  pub used : (j : Key) → Contains (outer_uses [] ds) j → (l : Linkage) × (linkage_at scope j ≡ Some l)
  pub ids : (a b : Key) → Contains (outer_uses [] ds) a → Contains (outer_uses [] ds) b → bytes_eq (id_of a) (id_of b) ≡ true → a ≡ b
  pub apart : (a : Key) → Contains (outer_uses [] ds) a → bytes_eq when_id (id_of a) ≡ false
  pub reads : Reads structs seen e key ty.Bool
  pub source : (l : Linkage) × (linkage_at scope key ≡ Some l)
  pub place : segment_of (codes "if-" ++ decimal k) ≡ segment.If k
  pub keys : n.keys ≡ map (λ (l : Linkage). l.key) (body_links ds)

-- a scatter over an array of that type whose body's statements agree with their steps
pub record IsScatter (g : Ground) (structs : Structs) (seen : List Bound) (scope : Scope) (n : Names) (fs : List Runner) (k : ℕ) (item : List ℕ) (e : TExpr) (key : Key) (t : Ty) (some : Bool) (ds : List Draft) : Type 0 where
  pub inner : IsInner g structs (seen ++ bound item t ∷ []) fs ds (item_linkage scope item e ∷ inner_scope scope (outer_uses (plain_key item ∷ []) ds))
  pub used : (j : Key) → Contains (outer_uses (plain_key item ∷ []) ds) j → (l : Linkage) × (linkage_at scope j ≡ Some l)
  pub ids : (a b : Key) → Contains (outer_uses (plain_key item ∷ []) ds) a → Contains (outer_uses (plain_key item ∷ []) ds) b → bytes_eq (id_of a) (id_of b) ≡ true → a ≡ b
  pub apart : (a : Key) → Contains (outer_uses (plain_key item ∷ []) ds) a → bytes_eq item (id_of a) ≡ false
  pub differs : KeysDiffer (record { key = plain_key item; id = item; ty = cwl.Str } ∷ []) ds
  pub outs : (l : Linkage) → Contains (body_links ds) l → same_key (plain_key item) l.key ≡ false
  pub new : type_in seen (plain_key item) ≡ None
  pub reads : Reads structs seen e key (ty.Array t some)
  pub source : (l : Linkage) × (linkage_at scope key ≡ Some l)
  pub ty : (item_linkage scope item e).ty ≡ type_of t
  pub place : segment_of (codes "scatter-" ++ decimal k) ≡ segment.Scatter k
  pub keys : n.keys ≡ map (λ (l : Linkage). l.key) (body_links ds)

-- ---- inputs

-- A default is a literal of the input's type, which is not optional.
abbrev pub IsPreset : Structs → TInput → Option TExpr → Type 0
IsPreset structs i None = Unit {0}
IsPreset structs i (Some e) =
    (names_of e ≡ []) × ((env : List Bind) → value_of (before env) e ≡ limited (literal e)) × (fits structs (literal e) i.ty ≡ true) × (fits structs v.Absent i.ty ≡ false)

-- an input of a task or a workflow of the subset
pub record IsInput (structs : Structs) (i : TInput) : Type 0 where
  pub typed : (x : Value) → fits structs x i.ty ≡ true → has_type (type_of i.ty) x ≡ true
  pub preset : IsPreset structs i i.value

abbrev pub AreInputs : Structs → List TInput → Type 0
AreInputs structs [] = Unit {0}
AreInputs structs (i ∷ is) = IsInput structs i × AreInputs structs is

-- what is given for an input: a value that fits it, within the limits, or nothing where it has a default or is optional
pub record IsMet (structs : Structs) (object : List Named) (i : TInput) : Type 0 where
  pub given : (x : Value) → value_at object i.name ≡ Some x → (fits structs x i.ty ≡ true) × (is_within x ≡ true)
  pub left : value_at object i.name ≡ None → i.value ≡ None → fits structs v.Absent i.ty ≡ true

abbrev pub AreMet : Structs → List Named → List TInput → Type 0
AreMet structs object [] = Unit {0}
AreMet structs object (i ∷ is) = IsMet structs object i × AreMet structs object is

-- ---- calls

-- an argument: a reference to what the scope has, of the type of the input of that name
pub record IsArg (structs : Structs) (seen : List Bound) (scope : Scope) (inputs : List TInput) (a : TField TExpr) : Type 0 where
  pub key : Key
  pub ty : Ty
  pub reads : Reads structs seen a.value key ty
  pub source : (l : Linkage) × (linkage_at scope key ≡ Some l)
  pub input : input_type inputs a.name ≡ Some ty

abbrev pub AreArgs : Structs → List Bound → Scope → List TInput → List (TField TExpr) → Type 0
AreArgs structs seen scope inputs [] = Unit {0}
AreArgs structs seen scope inputs (a ∷ as_) = IsArg structs seen scope inputs a × AreArgs structs seen scope inputs as_

-- a call of a task or a workflow with these inputs
pub record IsCall (structs : Structs) (seen : List Bound) (scope : Scope) (is : List TInput) (c : TCall) : Type 0 where
  pub after : c.after ≡ []
  pub args : AreArgs structs seen scope is c.args
  pub args_differ : are_distinct (arg_names c.args) ≡ true
  pub args_given : all_given is (arg_names c.args) ≡ true
  pub inputs : AreInputs structs is
  pub inputs_differ : are_distinct (input_names is) ≡ true
  pub place : segment_of c.name ≡ segment.Call c.name

-- ---- workflows

-- an output is a reference to what the scope has, of its type
pub record IsOutput (structs : Structs) (seen : List Bound) (scope : Scope) (d : TDecl) : Type 0 where
  pub key : Key
  pub reads : Reads structs seen d.value key d.ty
  pub source : (l : Linkage) × (linkage_at scope key ≡ Some l)

abbrev pub AreOutputs : Structs → List Bound → Scope → List TDecl → Type 0
AreOutputs structs seen scope [] = Unit {0}
AreOutputs structs seen scope (d ∷ ds) = IsOutput structs seen scope d × AreOutputs structs seen scope ds

-- the inputs with these values
abbrev pub input_names_with : (TInput → Value) → List TInput → List Known
input_names_with value is = map (λ (i : TInput). known i.name (Some (value i))) is

-- a workflow whose statements agree with their steps
pub record IsWorkflow (g : Ground) (structs : Structs) (is : List TInput) (fs : List Runner) (ds : List Draft) (outs : List TDecl) : Type 0 where
  pub after : List Bound
  pub all : AllSimulate g structs (inputs_bound is) (map input_linkage is) fs ds after
  pub differ : AllDiffer ds
  pub wires : AllWires ds
  pub apart : Apart is_of (all_running g (body_steps ds (map input_linkage is)))
  pub new : (value : TInput → Value) → AllNew ds (input_names_with value is)
  pub inputs : AreInputs structs is
  pub inputs_differ : are_distinct (input_names is) ≡ true
  pub outputs : AreOutputs structs after (map input_linkage is ++ body_links ds) outs
  pub outputs_differ : are_distinct (decl_names outs) ≡ true
  pub outputs_new : (d : TDecl) → Contains outs d → has_name d.name (input_names is) ≡ false
  pub body_plain : (name : List ℕ) → linkage_at (body_links ds) (plain_key name) ≡ None

-- each output has one value in both, of its type, in their order
abbrev pub AreGiven : List TDecl → List Known → List Named → Type 0
AreGiven [] names [] = Unit {0}
AreGiven (d ∷ ds) names (n ∷ ns) =
    (n.id ≡ d.name) × (lookup (env_of names) (plain_key d.name) ≡ Some n.value) × (has_type (type_of d.ty) n.value ≡ true) × AreGiven ds names ns
AreGiven ds names ns = ⊥

-- The flow is clean exactly where the meaning is complete; then their jobs are the same, and so are their outputs.
pub record FlowsAgree (outs : List TDecl) (f : Flowing) (m : Meaning) : Type 0 where
  pub clean : is_clean f ≡ is_complete m
  pub jobs : is_clean f ≡ true → jobs_of f ≡ m.jobs
  pub outputs : is_clean f ≡ true → (ns : List Named) × (m.outputs ≡ Some ns) × AreGiven outs f.names ns
