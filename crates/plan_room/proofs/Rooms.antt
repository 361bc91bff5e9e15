-- Bodies, blocks and workflows that are laid out have their cells.
use Rattle.std.proofs.Common.{◌≡◌, ◌<◌, ◌≤◌, ◌⊎◌, inl, inr, ℕ, ◌+◌, List, [], ◌∷◌, ◌++◌, All, length, length-append, Option, Some, None, slice_get, arith, ap, refl, subst, sym, ◌∙◌}
use Rattle.std.proofs.lemmas.List.Elements.{All-append, All-cons}
use Rattle.wdl_typed.specs.declared.expr.TExpr.{TExpr}
use Rattle.wdl_typed.specs.declared.flow.FlowDef.{FlowDef}
use Rattle.wdl_typed.specs.declared.flow.Statement.{Statement, Statement-F, out-Statement}
use Rattle.wdl_typed.specs.declared.flow.Statement.TheOpen as layer
use Rattle.wdl_typed.specs.declared.flow.Statement.TheVariants as stmt
use Rattle.wdl_typed.specs.declared.flow.TIf.{TIf}
use Rattle.wdl_typed.specs.declared.flow.TScatter.{TScatter}
use Rattle.wdl_typed.specs.declared.task.TDecl.{TDecl}
use Rattle.wdl_typed.specs.declared.task.TInput.{TInput}
use Rattle.wdl_typed.specs.Bodies.{Library}
use Rattle.wdl_typed.specs.Declarations.{plain_key}
use Rattle.wdl_typed.specs.Scope.{names_of}
use Rattle.net_laws.specs.Growing.{body_given}
use Rattle.plan_layout.specs.declared.layout.BodyLayout.{BodyLayout}
use Rattle.plan_layout.specs.declared.layout.FlowLayout.{FlowLayout}
use Rattle.plan_layout.specs.declared.layout.Need.{Need}
use Rattle.plan_layout.specs.declared.layout.StatementLayout.{StatementLayout}
use Rattle.plan_layout.specs.Laid.{HasRuns as IsRun, HasSlots, IsLaidAs, Laid, Stand, beginning, behind_all, body_seen, default_needs, input_needs, item_spot, laid_call, laid_decl, laid_if, laid_scatter, laid_whole, one, output_needs, whole, with_inputs, with_plain}
use Rattle.plan_layout.specs.Sees.{Sees}
use Rattle.plan_layout.specs.Spots.{needs_of}
use Rattle.plan_room.specs.Laws.{BlockFits, BlocksFit, BodiesFit, BodyFits, FlowsFit}
use Rattle.plan_room.specs.Reached.{AreReached, HasRoom, IsReached}
use Rattle.plan_room.specs.Room.{HasInner, HasRuns}
use Rattle.plan_room.proofs.Bounds.{LineFits, call_total, dones_grow, lines_fit, lines_reached, name_total, names_length, names_reached}
use Rattle.plan_room.proofs.Needs.{all_needed, none_all, own_reached, still_reached}

module _ (Fact : Statement → Stand → Type 0) (lib : Library) (flow : ℕ) (root : List Statement) (bodies : List BodyLayout) (ss : List Statement) (names calls : List Need) (path : List ℕ) (before after : ℕ) (b : BodyLayout)
    (runs : IsRun lib flow root ss names calls path before after b) where
  abbrev first_stand : Stand
  first_stand = beginning names calls path (body_given lib ss) before after

  -- the slots of a body, in order
  record Order : Type 0 where
    pub names_end : (behind_all lib ss first_stand).next_name ≡ before + length (body_given lib ss).keys
    pub calls_end : (behind_all lib ss first_stand).next_call ≡ before + length (body_given lib ss).keys + after + length (body_given lib ss).calls
    pub fits : before + length (body_given lib ss).keys + after + length (body_given lib ss).calls ≤ b.cells

  order : Order
  order =
      let e = runs.cells in
      let d = dones_grow lib ss first_stand in
      record { names_end = name_total lib ss first_stand; calls_end = call_total lib ss first_stand; fits = omega (arith, e, d) }

  names_within : (behind_all lib ss first_stand).next_name ≤ b.cells
  names_within = let e = order.names_end in let f = order.fits in omega (arith, e, f)

  calls_within : (behind_all lib ss first_stand).next_call ≤ b.cells
  calls_within = let e = order.calls_end in let f = order.fits in omega (arith, e, f)

  done_within : (l : StatementLayout) → LineFits (behind_all lib ss first_stand).next_name (behind_all lib ss first_stand).next_call (behind_all lib ss first_stand).next_done l → l.done < b.cells
  done_within l f = by_case f.done
    where
      by_case : (l.done < (behind_all lib ss first_stand).next_name) ⊎ ((l.done < (behind_all lib ss first_stand).next_call) ⊎ (l.done < (behind_all lib ss first_stand).next_done)) → l.done < b.cells
      by_case (inl k) = let n = names_within in omega (arith, k, n)
      by_case (inr (inl k)) = let n = calls_within in omega (arith, k, n)
      by_case (inr (inr k)) = let n = runs.cells in omega (arith, k, n)

  line_runs : (base count : ℕ) → base + b.cells ≤ count → (l : StatementLayout)
      → LineFits (behind_all lib ss first_stand).next_name (behind_all lib ss first_stand).next_call (behind_all lib ss first_stand).next_done l → HasRuns count base l
  line_runs base count e l f =
      let n = names_within in
      let c = calls_within in
      let i = f.names in
      let j = f.calls in
      let d = done_within l f in
      record { names = λ t. omega (arith, e, n, i); calls = λ t. omega (arith, e, c, j); done = omega (arith, e, d) }

  pub body_fits : All (LineFits (behind_all lib ss first_stand).next_name (behind_all lib ss first_stand).next_call (behind_all lib ss first_stand).next_done) b.statements → BodyFits b
  body_fits h = record { runs = λ base count e k d l. line_runs base count e _ (h k d l); dones = λ k d l. done_within _ (h k d l) }

  pub inner_fits : (l : StatementLayout) → l.names ≡ length (body_given lib ss).keys → l.calls ≡ length (body_given lib ss).calls → BodyFits b → HasInner l b
  inner_fits l e f fits =
      let o = order.fits in
      let i = runs.first_name in
      let j = runs.first_call in
      record { names = omega (arith, o, i, e); calls = omega (arith, o, j, f); dones = fits.dones }

  pub before_within : before ≤ b.cells
  before_within = let o = order.fits in omega (arith, o)

module _ (Fact : Statement → Stand → Type 0) (lib : Library) (flow : ℕ) (root : List Statement) (bodies : List BodyLayout) where
  pub fits_whole : {ss : List Statement} {names calls : List Need} {path : List ℕ} {before after : ℕ} {b : BodyLayout} → Laid Fact lib flow root bodies (whole ss names calls path before after b) → BodyFits b
  fits_whole (laid_whole ss names calls path before after b runs p) = body_fits Fact lib flow root bodies ss names calls path before after b runs (lines_fit Fact lib flow root bodies p)

  pub room_whole : {ss : List Statement} {names calls : List Need} {path : List ℕ} {before after : ℕ} {b : BodyLayout} → Laid Fact lib flow root bodies (whole ss names calls path before after b) → (count : ℕ) (outer : List ℕ)
      → length path ≡ length outer → ((first : ℕ) → count ≤ first → AreReached (first + b.cells) (outer ++ first ∷ []) names) → ((first : ℕ) → count ≤ first → AreReached (first + b.cells) (outer ++ first ∷ []) calls)
      → HasRoom count outer b
  room_whole (laid_whole ss names calls path before after b runs p) count outer e i j =
      record {
        reached = λ first l.
            lines_reached Fact lib flow root bodies b.cells first outer p e (names_within Fact lib flow root bodies ss names calls path before after b runs)
            (calls_within Fact lib flow root bodies ss names calls path before after b runs) (i first l) (j first l);
      }

  inner_whole : {ss : List Statement} {names calls : List Need} {path : List ℕ} {before after : ℕ} {b : BodyLayout} → Laid Fact lib flow root bodies (whole ss names calls path before after b) → (l : StatementLayout)
      → l.names ≡ length (body_given lib ss).keys → l.calls ≡ length (body_given lib ss).calls → HasInner l b
  inner_whole (laid_whole ss names calls path before after b runs p) l e f =
      inner_fits Fact lib flow root bodies ss names calls path before after b runs l e f (body_fits Fact lib flow root bodies ss names calls path before after b runs (lines_fit Fact lib flow root bodies p))

  first_whole : {ss : List Statement} {names calls : List Need} {path : List ℕ} {before after : ℕ} {b : BodyLayout} → Laid Fact lib flow root bodies (whole ss names calls path before after b) → b.first_name ≡ before
  first_whole (laid_whole ss names calls path before after b runs p) = runs.first_name

  cells_whole : {ss : List Statement} {names calls : List Need} {path : List ℕ} {before after : ℕ} {b : BodyLayout} → Laid Fact lib flow root bodies (whole ss names calls path before after b) → before ≤ b.cells
  cells_whole (laid_whole ss names calls path before after b runs p) = before_within Fact lib flow root bodies ss names calls path before after b runs

  outputs_whole : {ss : List Statement} {names calls : List Need} {path : List ℕ} {before after : ℕ} {b : BodyLayout} → Laid Fact lib flow root bodies (whole ss names calls path before after b)
      → before + length (body_given lib ss).keys + after ≤ b.cells
  outputs_whole (laid_whole ss names calls path before after b runs p) =
      let o = order Fact lib flow root bodies ss names calls path before after b runs in let f = o.fits in omega (arith, f)

  -- ---- blocks

  path_length : (path : List ℕ) (k : ℕ) (outer : List ℕ) → length outer ≡ length path + 1 → length (path ++ k ∷ []) ≡ length outer
  path_length path k outer e = let h = length-append path (k ∷ []) in omega (arith, e, h)

  scatter_fits : (x : TScatter Statement) (a : Stand) (l : StatementLayout) (b : BodyLayout) → HasSlots (body_given lib x.body) a a.next_done l → slice_get bodies l.inner ≡ Some b
      → Laid Fact lib flow root bodies (whole x.body (a.names ++ item_spot (a.path ++ a.index ∷ []) x.item ∷ []) a.calls (a.path ++ a.index ∷ []) 1 0 b) → (count : ℕ) (outer : List ℕ) → length outer ≡ length a.path + 1
      → AreReached count outer a.names → AreReached count outer a.calls → BlockFits bodies count outer l 1
  scatter_fits x a l b slots found p count outer e i j =
      record {
        inner = b;
        there = found;
        room = room_whole p count outer (path_length a.path a.index outer e)
            (λ first m. All-append (IsReached (first + b.cells) (outer ++ first ∷ [])) a.names (item_spot (a.path ++ a.index ∷ []) x.item ∷ []) (still_reached count b.cells first outer m a.names i)
            (All-cons (IsReached (first + b.cells) (outer ++ first ∷ [])) (item_spot (a.path ++ a.index ∷ []) x.item) [] (own_reached b.cells first outer (plain_key x.item) (length (a.path ++ a.index ∷ [])) 0 (path_length a.path a.index outer e) (cells_whole p)) (none_all _)))
            (λ first m. still_reached count b.cells first outer m a.calls j);
        within = inner_whole p l slots.names slots.calls;
        fits = fits_whole p;
        first = first_whole p;
        cells = cells_whole p;
      }

  if_fits : (x : TIf Statement) (a : Stand) (l : StatementLayout) (b : BodyLayout) → HasSlots (body_given lib x.body) a a.next_done l → slice_get bodies l.inner ≡ Some b
      → Laid Fact lib flow root bodies (whole x.body a.names a.calls (a.path ++ a.index ∷ []) 0 0 b) → (count : ℕ) (outer : List ℕ) → length outer ≡ length a.path + 1
      → AreReached count outer a.names → AreReached count outer a.calls → BlockFits bodies count outer l 0
  if_fits x a l b slots found p count outer e i j =
      record {
        inner = b;
        there = found;
        room = room_whole p count outer (path_length a.path a.index outer e) (λ first m. still_reached count b.cells first outer m a.names i) (λ first m. still_reached count b.cells first outer m a.calls j);
        within = inner_whole p l slots.names slots.calls;
        fits = fits_whole p;
        first = first_whole p;
        cells = omega arith;
      }

  -- ---- by the layer of the statement

  abbrev Blocks : ℕ → List ℕ → Stand → StatementLayout → Statement-F Statement → Type 0
  Blocks count outer a l (layer.Decl x) = Unit {0}
  Blocks count outer a l (layer.Call x) = Unit {0}
  Blocks count outer a l (layer.Scatter x) = BlockFits bodies count outer l 1
  Blocks count outer a l (layer.If x) = BlockFits bodies count outer l 0

  pub block_of : {x : Statement} {a : Stand} {l : StatementLayout} → Laid Fact lib flow root bodies (one x a l) → (count : ℕ) (outer : List ℕ) → length outer ≡ length a.path + 1 → AreReached count outer a.names
      → AreReached count outer a.calls → Blocks count outer a l (out-Statement x)
  block_of (laid_decl x a l slots needs) count outer e i j = subst (Blocks count outer a l) (sym (stmt.outs-Decl x)) tt
  block_of (laid_call x a l slots needs) count outer e i j = subst (Blocks count outer a l) (sym (stmt.outs-Call x)) tt
  block_of (laid_scatter x a l b slots needs found p) count outer e i j = subst (Blocks count outer a l) (sym (stmt.outs-Scatter x)) (scatter_fits x a l b slots found p count outer e i j)
  block_of (laid_if x a l b slots needs found p) count outer e i j = subst (Blocks count outer a l) (sym (stmt.outs-If x)) (if_fits x a l b slots found p count outer e i j)

pub bodies : BodiesFit
bodies =
    record {
      fit = λ lib flow root bs ss names calls path before after b p. fits_whole (Sees lib) lib flow root bs p;
      room = λ lib flow root bs ss names calls path before after b p count outer e i j. room_whole (Sees lib) lib flow root bs p count outer e i j;
    }

pub blocks : BlocksFit
blocks =
    record {
      scatter = λ lib flow root bs x a l p count outer e i j. subst (Blocks (Sees lib) lib flow root bs count outer a l) (stmt.outs-Scatter x) (block_of (Sees lib) lib flow root bs p count outer e i j);
      condition = λ lib flow root bs x a l p count outer e i j. subst (Blocks (Sees lib) lib flow root bs count outer a l) (stmt.outs-If x) (block_of (Sees lib) lib flow root bs p count outer e i j);
    }

-- ---- workflows

-- so many names of a workflow's own body, all at level 0
module _ (cells first : ℕ) where
  abbrev Here : List Need → Type 0
  Here = AreReached (first + cells) (first ∷ [])

  plain_here : (seen : List Need) (name : List ℕ) → length seen < cells → Here seen → Here (with_plain seen name)
  plain_here seen name l h =
      All-append (IsReached (first + cells) (first ∷ [])) seen (record { key = plain_key name; level = 0; slot = length seen } ∷ []) h
      (All-cons (IsReached (first + cells) (first ∷ [])) (record { key = plain_key name; level = 0; slot = length seen }) [] (own_reached cells first [] (plain_key name) 0 (length seen) refl l) (none_all _))

  plain_length : (seen : List Need) (name : List ℕ) → length (with_plain seen name) ≡ length seen + 1
  plain_length seen name = length-append seen (record { key = plain_key name; level = 0; slot = length seen } ∷ [])

  inputs_here : (is : List TInput) (seen : List Need) → length seen + length is ≤ cells → Here seen → Here (with_inputs seen is)
  inputs_here [] seen l h = h
  inputs_here (i ∷ is) seen l h = let e = plain_length seen i.name in inputs_here is (with_plain seen i.name) (omega (arith, e, l)) (plain_here seen i.name (omega (arith, l)) h)

  default_here : (seen : List Need) (o : Option TExpr) → Here seen → Here (default_needs seen o)
  default_here seen None h = none_all _
  default_here seen (Some e) h = all_needed (IsReached (first + cells) (first ∷ [])) seen (names_of e) h

  pub input_needs_here : (is : List TInput) (seen : List Need) → length seen + length is ≤ cells → Here seen → All Here (input_needs seen is)
  input_needs_here [] seen l h = none_all _
  input_needs_here (i ∷ is) seen l h =
      let e = plain_length seen i.name in
      All-cons Here (default_needs seen i.value) (input_needs (with_plain seen i.name) is) (default_here seen i.value h)
      (input_needs_here is (with_plain seen i.name) (omega (arith, e, l)) (plain_here seen i.name (omega (arith, l)) h))

  pub output_needs_here : (ds : List TDecl) (seen : List Need) → length seen + length ds ≤ cells → Here seen → All Here (output_needs seen ds)
  output_needs_here [] seen l h = none_all _
  output_needs_here (d ∷ ds) seen l h =
      let e = plain_length seen d.name in
      All-cons Here (needs_of seen (names_of d.value)) (output_needs (with_plain seen d.name) ds) (all_needed (IsReached (first + cells) (first ∷ [])) seen (names_of d.value) h)
      (output_needs_here ds (with_plain seen d.name) (omega (arith, e, l)) (plain_here seen d.name (omega (arith, l)) h))

inputs_length : (is : List TInput) (seen : List Need) → length (with_inputs seen is) ≡ length seen + length is
inputs_length [] seen = omega arith
inputs_length (i ∷ is) seen =
    let h = inputs_length is (with_plain seen i.name) in
    let e = length-append seen (record { key = plain_key i.name; level = 0; slot = length seen } ∷ []) in
    omega (arith, h, e)

input_needs_length : (is : List TInput) (seen : List Need) → length (input_needs seen is) ≡ length is
input_needs_length [] seen = refl
input_needs_length (i ∷ is) seen = let h = input_needs_length is (with_plain seen i.name) in omega (arith, h)

output_needs_length : (ds : List TDecl) (seen : List Need) → length (output_needs seen ds) ≡ length ds
output_needs_length [] seen = refl
output_needs_length (d ∷ ds) seen = let h = output_needs_length ds (with_plain seen d.name) in omega (arith, h)

module _ (lib : Library) (bodies_ : List BodyLayout) (k : ℕ) (f : FlowDef) (l : FlowLayout) (laid : IsLaidAs (Sees lib) lib bodies_ k f l) where
  inside : length f.inputs + length (body_given lib f.body).keys + length f.outputs ≤ laid.body.cells
  inside = outputs_whole (Sees lib) lib k f.body bodies_ laid.laid

  names_seen : (first : ℕ) → AreReached (first + laid.body.cells) (first ∷ []) (with_inputs [] f.inputs)
  names_seen first = inputs_here laid.body.cells first f.inputs [] (let i = inside in omega (arith, i)) (none_all _)

  seen_length : length (body_seen lib f) ≡ length f.inputs + length (body_given lib f.body).keys
  seen_length =
      let a = names_length lib f.body (beginning (with_inputs [] f.inputs) [] [] (body_given lib f.body) (length f.inputs) (length f.outputs)) in
      let b = inputs_length f.inputs [] in
      omega (arith, a, b)

  body_here : (first : ℕ) → AreReached (first + laid.body.cells) (first ∷ []) (body_seen lib f)
  body_here first =
      names_reached lib laid.body.cells first [] f.body (beginning (with_inputs [] f.inputs) [] [] (body_given lib f.body) (length f.inputs) (length f.outputs)) refl
      (let t = name_total lib f.body (beginning (with_inputs [] f.inputs) [] [] (body_given lib f.body) (length f.inputs) (length f.outputs)) in let i = inside in omega (arith, t, i)) (names_seen first)

pub flows : FlowsFit
flows lib bs k f l laid count = (
  record {
    room = room_whole (Sees lib) lib k f.body bs laid.laid count [] refl (λ first m. names_seen lib bs k f l laid first) (λ first m. none_all _);
    dones = (fits_whole (Sees lib) lib k f.body bs laid.laid).dones;
    given = ap length laid.inputs ∙ input_needs_length f.inputs [];
    told = ap length laid.outputs ∙ output_needs_length f.outputs (body_seen lib f);
    inputs = (let i = inside lib bs k f l laid in omega (arith, i));
    outputs = (let i = inside lib bs k f l laid in let e = laid.first_output in let s = seen_length lib bs k f l laid in omega (arith, i, e, s));
    inputs_reached = λ first m. subst (All (AreReached (first + laid.body.cells) (first ∷ []))) (sym laid.inputs)
        (input_needs_here laid.body.cells first f.inputs [] (let i = inside lib bs k f l laid in omega (arith, i)) (none_all _));
    outputs_reached = λ first m. subst (All (AreReached (first + laid.body.cells) (first ∷ []))) (sym laid.outputs)
        (output_needs_here laid.body.cells first f.outputs (body_seen lib f) (let i = inside lib bs k f l laid in let s = seen_length lib bs k f l laid in omega (arith, i, s)) (body_here lib bs k f l laid first));
  },
  fits_whole (Sees lib) lib k f.body bs laid.laid,
)
