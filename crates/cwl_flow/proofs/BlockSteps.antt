-- Blocks, calls and workflows, made part by part.
use Rattle.std.proofs.Common.{◌≡◌, ℕ, ◌-◌, List, [], ◌∷◌, ◌++◌, Result, Ok, Err, IfOk, length, take, drop, map, codes, sym, ap, ◌∙◌, refl, zero, suc, ◌<◌, true, Option, Some, None, slice_get, arith}
use Rattle.std.proofs.lemmas.Bool.{false≢true}
use Rattle.wdl_base.specs.declared.error.NoMemory.{NoMemory}
use Rattle.wdl_base.specs.declared.name.Key.{Key}
use Rattle.wdl_typed.specs.declared.expr.TExpr.{TExpr}
use Rattle.wdl_typed.specs.Declarations.{plain_key}
use Rattle.cwl_model.specs.declared.process.CwlStep.{CwlStep}
use Rattle.cwl_model.specs.declared.process.FlowOut.{FlowOut}
use Rattle.cwl_model.specs.declared.process.Mode.{Mode}
use Rattle.cwl_model.specs.declared.process.Mode.TheVariants as mode
use Rattle.cwl_model.specs.declared.process.Process.{Process}
use Rattle.cwl_model.specs.declared.process.Wire.{Wire}
use Rattle.cwl_model.specs.declared.tool.CwlIn.{CwlIn}
use Rattle.cwl_model.specs.declared.ty.CwlTy.{CwlTy}
use Rattle.cwl_image.specs.Image.{Draft, Scope, block_out, block_output, body_links, body_steps, flow_process, if_draft, inner_scope, input_of, item_linkage, list_type, null_type, out_id, outer_uses, outer_wire, reference, scatter_draft, step_of, when_input, wire_to, Targets, args_wired, call_draft, call_output, cwl_in, draft, draft_step, flow_at, flow_image, flow_of, flow_out, input_linkage, signature_outputs, target_by}
use Rattle.cwl_image.specs.Kept.{is_kept}
use Rattle.cwl_flow.specs.declared.blocks.Block.{Block}
use Rattle.cwl_flow.specs.declared.context.Context.{Context}
use Rattle.cwl_flow.specs.declared.links.Kind.TheVariants as kind
use Rattle.cwl_flow.specs.Blocks.{block_id, block_step, if_block, link_id, scatter_block}
use Rattle.cwl_flow.proofs.Walks.{behind}
use Rattle.wdl_typed.specs.declared.checked.Checked.{Checked}
use Rattle.wdl_typed.specs.declared.flow.FlowDef.{FlowDef}
use Rattle.wdl_typed.specs.declared.flow.Statement.{Statement, Statement-F, fold_out-Statement, map-Statement}
use Rattle.wdl_typed.specs.declared.flow.Statement.TheVariants as stmt
use Rattle.wdl_typed.specs.declared.flow.TIf.{TIf}
use Rattle.wdl_typed.specs.declared.flow.TScatter.{TScatter}
use Rattle.wdl_typed.specs.declared.flow.TCall.{TCall}
use Rattle.wdl_typed.specs.declared.task.TDecl.{TDecl}
use Rattle.wdl_typed.specs.Bodies.{Library, Signature, signature}
use Rattle.cwl_flow.specs.Drafts.{declared_by, draft_of, drafts_of, flow_to, image_of, library_of, targets_at, targets_of}

abbrev pub block_of : List ℕ → List Wire → List CwlIn → Scope → Mode → Block
block_of id wires inputs scope m = record { id = id; wires = wires; inputs = inputs; scope = scope; mode = m }

pub same_block : (id id' : List ℕ) (wires wires' : List Wire) (inputs inputs' : List CwlIn) (scope scope' : Scope) (m m' : Mode)
    → id ≡ id' → wires ≡ wires' → inputs ≡ inputs' → scope ≡ scope' → m ≡ m' → block_of id wires inputs scope m ≡ block_of id' wires' inputs' scope' m'
same_block id id' wires wires' inputs inputs' scope scope' m m' a b c d e =
    ap (λ x. block_of x wires inputs scope m) a
    ∙ ap (λ x. block_of id' x inputs scope m) b
    ∙ ap (λ x. block_of id' wires' x scope m) c
    ∙ ap (λ x. block_of id' wires' inputs' x m) d
    ∙ ap (λ x. block_of id' wires' inputs' scope' x) e

-- the block of a condition
pub if_made : (k : ℕ) (cond : TExpr) (ds : List Draft) (scope : Scope) (id when : List ℕ) (uses : List Key) (wires : List Wire) (inputs : List CwlIn) (inner : Scope)
    → uses ≡ outer_uses [] ds → when ≡ codes "_when" → wires ≡ wire_to scope when (reference cond) ++ map (outer_wire scope) uses → inner ≡ inner_scope scope uses
    → inputs ≡ when_input ∷ map input_of inner → id ≡ block_id kind.If k
    → block_of id wires inputs inner mode.When ≡ if_block k cond ds scope
if_made k cond ds scope id when uses wires inputs inner used is wired seen taken named =
    same_block id (block_id kind.If k) wires _ inputs _ inner _ mode.When mode.When named
    (wired ∙ ap (λ w. wire_to scope w (reference cond) ++ map (outer_wire scope) uses) is ∙ ap (λ us. wire_to scope (codes "_when") (reference cond) ++ map (outer_wire scope) us) used)
    (taken ∙ ap (λ s. when_input ∷ map input_of s) (seen ∙ ap (inner_scope scope) used))
    (seen ∙ ap (inner_scope scope) used)
    refl

-- the block of a scatter
pub scatter_made : (k : ℕ) (item : List ℕ) (over : TExpr) (ds : List Draft) (scope : Scope) (id named : List ℕ) (uses : List Key) (wires : List Wire) (inputs : List CwlIn) (inner : Scope)
    → uses ≡ outer_uses (plain_key item ∷ []) ds → wires ≡ wire_to scope item (reference over) ++ map (outer_wire scope) uses
    → inner ≡ item_linkage scope item over ∷ inner_scope scope uses → inputs ≡ map input_of inner → id ≡ block_id kind.Scatter k → named ≡ item
    → block_of id wires inputs inner (mode.Scatter named) ≡ scatter_block k item over ds scope
scatter_made k item over ds scope id named uses wires inputs inner used wired seen taken numbered scattered =
    same_block id (block_id kind.Scatter k) wires _ inputs _ inner _ (mode.Scatter named) (mode.Scatter item) numbered
    (wired ∙ ap (λ us. wire_to scope item (reference over) ++ map (outer_wire scope) us) used)
    (taken ∙ ap (map input_of) (seen ∙ ap (λ us. item_linkage scope item over ∷ inner_scope scope us) used))
    (seen ∙ ap (λ us. item_linkage scope item over ∷ inner_scope scope us) used)
    (ap mode.Scatter scattered)

abbrev pub step_with : Block → List (List ℕ) → Process → CwlStep Process
step_with b outs run = record { id = b.id; wires = b.wires; outs = outs; run = run; mode = b.mode }

-- the step of a block, by what its body makes
pub step_made : (b : Block) (ds : List Draft) (steps : List (CwlStep Process)) (scope slice : Scope) (n : ℕ) (outs : List (List ℕ)) (outputs : List FlowOut) (run : Process)
    → steps ≡ body_steps ds b.scope → scope ≡ b.scope ++ body_links ds → slice ≡ scope → n ≡ length b.scope
    → outs ≡ map link_id (take (length slice - n) (drop n slice)) → outputs ≡ map block_out (take (length slice - n) (drop n slice))
    → run ≡ flow_process b.inputs outputs steps → step_with b outs run ≡ block_step b ds
step_made b ds steps scope slice n outs outputs run walked seen sliced first named given runs =
    let links = behind b.scope (body_links ds) slice n first (sliced ∙ seen) in
    ap (λ ids. step_with b ids run) (named ∙ ap (map link_id) links)
    ∙ ap (step_with b (map link_id (body_links ds))) (runs ∙ ap (λ os. flow_process b.inputs os steps) (given ∙ ap (map block_out) links) ∙ ap (flow_process b.inputs (map block_out (body_links ds))) walked)

ids_are : (f : CwlTy → CwlTy) (ls : Scope) → map link_id ls ≡ map out_id (map (block_output f) ls)
ids_are f [] = refl
ids_are f (l ∷ ls) = ap (λ ids. link_id l ∷ ids) (ids_are f ls)

-- the step of a scatter is that of its block
scatter_is : (b : Block) (k : ℕ) (item : List ℕ) (over : TExpr) (ds : List Draft) (scope : Scope)
    → b ≡ scatter_block k item over ds scope → block_step b ds ≡ step_of (scatter_draft k item over ds) scope
scatter_is b k item over ds scope is =
    ap (λ c. block_step c ds) is ∙ ap (λ ids. step_with (scatter_block k item over ds scope) ids (block_step (scatter_block k item over ds scope) ds).run) (ids_are list_type (body_links ds))

-- the step of a condition is that of its block
if_is : (b : Block) (k : ℕ) (cond : TExpr) (ds : List Draft) (scope : Scope)
    → b ≡ if_block k cond ds scope → block_step b ds ≡ step_of (if_draft k cond ds) scope
if_is b k cond ds scope is =
    ap (λ c. block_step c ds) is ∙ ap (λ ids. step_with (if_block k cond ds scope) ids (block_step (if_block k cond ds scope) ds).run) (ids_are null_type (body_links ds))

-- what is one thing is another that is equal
pub is_as : {A : Type 0} (r : Result A NoMemory) (x y : A) → x ≡ y → IfOk r (λ z. z ≡ x) → IfOk r (λ z. z ≡ y)
is_as (Err e) x y same h = tt
is_as (Ok z) x y same h = h ∙ same

drafted_scatter : (c : Context) (st : Statement) (s : TScatter Statement) → st ≡ stmt.Scatter s → draft_of c st ≡ scatter_draft s.number s.item s.over (drafts_of c s.body)
drafted_scatter c st s is =
    ap (draft_of c) is
    ∙ fold_out-Statement Draft (draft_step (library_of c.checked.now) (targets_of c)) (stmt.Scatter s)
    ∙ ap (λ (y : Statement-F Statement). draft_step (library_of c.checked.now) (targets_of c) (map-Statement Statement Draft (draft_of c) y)) (stmt.outs-Scatter s)

drafted_if : (c : Context) (st : Statement) (i : TIf Statement) → st ≡ stmt.If i → draft_of c st ≡ if_draft i.number i.cond (drafts_of c i.body)
drafted_if c st i is =
    ap (draft_of c) is
    ∙ fold_out-Statement Draft (draft_step (library_of c.checked.now) (targets_of c)) (stmt.If i)
    ∙ ap (λ (y : Statement-F Statement). draft_step (library_of c.checked.now) (targets_of c) (map-Statement Statement Draft (draft_of c) y)) (stmt.outs-If i)

pub of_scatter : (c : Context) (st : Statement) (s : TScatter Statement) (r : Result (CwlStep Process) NoMemory) (b : Block) (body : List Statement) (scope : Scope)
    → st ≡ stmt.Scatter s → body ≡ s.body → b ≡ scatter_block s.number s.item s.over (drafts_of c s.body) scope
    → IfOk r (λ x. x ≡ block_step b (drafts_of c body)) → IfOk r (λ x. x ≡ step_of (draft_of c st) scope)
of_scatter c st s r b body scope is within before h =
    is_as r _ _
    (ap (λ ss. block_step b (drafts_of c ss)) within
    ∙ scatter_is b s.number s.item s.over (drafts_of c s.body) scope before
    ∙ sym (ap (λ d. step_of d scope) (drafted_scatter c st s is)))
    h

pub of_condition : (c : Context) (st : Statement) (i : TIf Statement) (r : Result (CwlStep Process) NoMemory) (b : Block) (body : List Statement) (scope : Scope)
    → st ≡ stmt.If i → body ≡ i.body → b ≡ if_block i.number i.cond (drafts_of c i.body) scope
    → IfOk r (λ x. x ≡ block_step b (drafts_of c body)) → IfOk r (λ x. x ≡ step_of (draft_of c st) scope)
of_condition c st i r b body scope is within before h =
    is_as r _ _
    (ap (λ ss. block_step b (drafts_of c ss)) within
    ∙ if_is b i.number i.cond (drafts_of c i.body) scope before
    ∙ sym (ap (λ d. step_of d scope) (drafted_if c st i is)))
    h

names_are : (call : List ℕ) (ds : List TDecl) → map (λ (d : TDecl). d.name) ds ≡ map out_id (map (call_output call) ds)
names_are call [] = refl
names_are call (d ∷ ds) = ap (λ ns. d.name ∷ ns) (names_are call ds)

outs_are : (call : List ℕ) (s : Option Signature) → map (λ (d : TDecl). d.name) (declared_by s) ≡ map out_id (signature_outputs call s)
outs_are call None = refl
outs_are call (Some s) = names_are call s.outputs

abbrev pub plain_step : List ℕ → List Wire → List (List ℕ) → Process → CwlStep Process
plain_step id wires outs run = record { id = id; wires = wires; outs = outs; run = run; mode = mode.Plain }

-- the step of a call
pub call_made : (lib : Library) (ts : Targets) (c : TCall) (scope : Scope) (id : List ℕ) (wires : List Wire) (outs : List (List ℕ)) (run : Process)
    → id ≡ c.name → wires ≡ args_wired c.args scope → outs ≡ map (λ (d : TDecl). d.name) (declared_by (signature lib c.target)) → run ≡ ts c.target
    → plain_step id wires outs run ≡ step_of (call_draft lib ts c) scope
call_made lib ts c scope id wires outs run named wired given runs =
    ap (λ x. plain_step x wires outs run) named
    ∙ ap (λ x. plain_step c.name x outs run) wired
    ∙ ap (λ x. plain_step c.name (args_wired c.args scope) x run) (given ∙ outs_are c.name (signature lib c.target))
    ∙ ap (plain_step c.name (args_wired c.args scope) (map out_id (signature_outputs c.name (signature lib c.target)))) runs

-- the process of a workflow
pub flow_made : (lib : Library) (ts : Targets) (f : FlowDef) (ins : List CwlIn) (start scope : Scope) (steps : List (CwlStep Process)) (outs : List FlowOut) (run : Process)
    → ins ≡ map cwl_in f.inputs → start ≡ map input_linkage f.inputs → steps ≡ body_steps (map (draft lib ts) f.body) start
    → scope ≡ start ++ body_links (map (draft lib ts) f.body) → outs ≡ map (flow_out scope) f.outputs → run ≡ flow_process ins outs steps → run ≡ flow_of lib ts f
flow_made lib ts f ins start scope steps outs run taken begun walked seen given runs =
    runs
    ∙ ap (λ x. flow_process x outs steps) taken
    ∙ ap (λ x. flow_process (map cwl_in f.inputs) x steps) (given ∙ ap (λ s. map (flow_out s) f.outputs) (seen ∙ ap (λ s. s ++ body_links (map (draft lib ts) f.body)) begun))
    ∙ ap (flow_process (map cwl_in f.inputs) (map (flow_out (map input_linkage f.inputs ++ body_links (map (draft lib ts) f.body))) f.outputs))
    (walked ∙ ap (body_steps (map (draft lib ts) f.body)) begun)

-- a workflow that is there
pub flow_here : (lib : Library) (depth k : ℕ) (f : FlowDef) → 0 < depth → slice_get lib.flows k ≡ Some f → flow_of lib (targets_at lib (depth - 1)) f ≡ flow_to lib depth k
unfolding targets_at flow_to
flow_here lib zero k f some there = absurd (omega (arith, some))
flow_here lib (suc d) k f some there =
    let e : suc d - 1 ≡ d = omega arith in
    ap (λ n. flow_of lib (target_by lib (flow_to lib n)) f) e ∙ sym (ap (flow_at lib (target_by lib (flow_to lib d))) there)

-- the main workflow, which a form of the subset has
pub has_main : (lib : Library) (main : Option ℕ) → main ≡ None → is_kept lib main ≡ true → ⊥
has_main lib None none kept = false≢true kept
has_main lib (Some m) none kept = cc

pub main_is : (checked here : Checked) (n k : ℕ) (r : Result Process NoMemory) → here ≡ checked → here.main ≡ Some k → n ≡ 25
    → IfOk r (λ p. p ≡ flow_to (library_of here) n k) → IfOk r (λ p. image_of (library_of checked) checked.main ≡ Some p)
unfolding flow_to image_of
main_is checked here n k (Err e) same main deep h = tt
main_is checked here n k (Ok p) same main deep h =
    ap (λ (c : Checked). image_of (library_of c) c.main) (sym same)
    ∙ ap (image_of (library_of here)) main
    ∙ sym (ap (λ d. Some (flow_image (library_of here) d k)) deep)
    ∙ sym (ap Some h)
