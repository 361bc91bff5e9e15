-- What the layout of a block tells of its body.
use Rattle.std.proofs.Common.{◌≡◌, ℕ, List, [], ◌∷◌, ◌++◌, Some, slice_get, sym, subst}
use Rattle.wdl_typed.specs.declared.flow.Statement.{Statement, Statement-F, out-Statement}
use Rattle.wdl_typed.specs.declared.flow.Statement.TheOpen as layer
use Rattle.wdl_typed.specs.declared.flow.Statement.TheVariants as stmt
use Rattle.wdl_typed.specs.declared.flow.TCall.{TCall}
use Rattle.wdl_typed.specs.declared.flow.TIf.{TIf}
use Rattle.wdl_typed.specs.declared.flow.TScatter.{TScatter}
use Rattle.wdl_typed.specs.declared.task.TDecl.{TDecl}
use Rattle.wdl_typed.specs.Bodies.{Library}
use Rattle.wdl_typed.specs.Scope.{names_of}
use Rattle.net_laws.specs.Growing.{body_given}
use Rattle.net_laws.specs.Planned.{call_names}
use Rattle.net_laws.specs.Rules.{arg_keys}
use Rattle.plan_layout.specs.declared.layout.BodyLayout.{BodyLayout}
use Rattle.plan_layout.specs.declared.layout.Need.{Need}
use Rattle.plan_layout.specs.declared.layout.StatementLayout.{StatementLayout}
use Rattle.plan_layout.specs.Laid as laid
use Rattle.plan_layout.specs.Laid.{HasNeeds, HasRuns, HasSlots, Laid, Stand, beginning, item_spot, laid_call, laid_decl, laid_if, laid_next, laid_none, laid_scatter, laid_whole, one_name}
use Rattle.plan_layout.specs.Sees.{Sees}

module _ (lib : Library) (flow : ℕ) (root : List Statement) (bodies : List BodyLayout) where
  abbrev IsLaid : laid.Form → Type 0
  IsLaid f = Laid (Sees lib) lib flow root bodies f

  -- a body, with the runs of its slots
  pub record WholeLaid (ss : List Statement) (names calls : List Need) (path : List ℕ) (before after : ℕ) (b : BodyLayout) : Type 0 where
    pub runs : HasRuns lib flow root ss names calls path before after b
    pub statements : IsLaid (laid.all ss (beginning names calls path (body_given lib ss) before after) b.statements)

  pub record DeclLaid (x : TDecl) (a : Stand) (l : StatementLayout) : Type 0 where
    pub slots : HasSlots (one_name x.name) a a.next_name l
    pub needs : HasNeeds a (names_of x.value) [] l

  pub record CallLaid (x : TCall) (a : Stand) (l : StatementLayout) : Type 0 where
    pub slots : HasSlots (call_names lib x) a a.next_call l
    pub needs : HasNeeds a (arg_keys x.args) x.after l

  pub record ScatterLaid (x : TScatter Statement) (a : Stand) (l : StatementLayout) : Type 0 where
    pub inner : BodyLayout
    pub slots : HasSlots (body_given lib x.body) a a.next_done l
    pub needs : HasNeeds a (names_of x.over) [] l
    pub there : slice_get bodies l.inner ≡ Some inner
    pub body : WholeLaid x.body (a.names ++ item_spot (a.path ++ a.index ∷ []) x.item ∷ []) a.calls (a.path ++ a.index ∷ []) 1 0 inner

  pub record IfLaid (x : TIf Statement) (a : Stand) (l : StatementLayout) : Type 0 where
    pub inner : BodyLayout
    pub slots : HasSlots (body_given lib x.body) a a.next_done l
    pub needs : HasNeeds a (names_of x.cond) [] l
    pub there : slice_get bodies l.inner ≡ Some inner
    pub body : WholeLaid x.body a.names a.calls (a.path ++ a.index ∷ []) 0 0 inner

  abbrev Layer : Statement-F Statement → Stand → StatementLayout → Type 0
  Layer (layer.Decl x) a l = DeclLaid x a l
  Layer (layer.Call x) a l = CallLaid x a l
  Layer (layer.Scatter x) a l = ScatterLaid x a l
  Layer (layer.If x) a l = IfLaid x a l

  abbrev Says : laid.Form → Type 0
  Says (laid.one x a l) = Layer (out-Statement x) a l
  Says (laid.all ss a ls) = Unit {0}
  Says (laid.whole ss names calls path before after b) = WholeLaid ss names calls path before after b

  into : (x : Statement) (y : Statement-F Statement) (a : Stand) (l : StatementLayout) → out-Statement x ≡ y → Layer y a l → Layer (out-Statement x) a l
  into x y a l e h = subst (λ (z : Statement-F Statement). Layer z a l) (sym e) h

  inside : {f : laid.Form} → IsLaid f → Says f
  inside (laid_decl x a l slots needs) = into (stmt.Decl x) (layer.Decl x) a l (stmt.outs-Decl x) (record { slots = slots; needs = needs })
  inside (laid_call x a l slots needs) = into (stmt.Call x) (layer.Call x) a l (stmt.outs-Call x) (record { slots = slots; needs = needs })
  inside (laid_scatter x a l b slots needs there p) =
      into (stmt.Scatter x) (layer.Scatter x) a l (stmt.outs-Scatter x) (record { inner = b; slots = slots; needs = needs; there = there; body = inside p })
  inside (laid_if x a l b slots needs there p) = into (stmt.If x) (layer.If x) a l (stmt.outs-If x) (record { inner = b; slots = slots; needs = needs; there = there; body = inside p })
  inside (laid_none a) = tt
  inside (laid_next x xs a l ls sees p q) = tt
  inside (laid_whole ss names calls path before after b runs p) = record { runs = runs; statements = p }

  abbrev out : (x : Statement) (y : Statement-F Statement) (a : Stand) (l : StatementLayout) → out-Statement x ≡ y → IsLaid (laid.one x a l) → Layer y a l
  out x y a l e h = subst (λ (z : Statement-F Statement). Layer z a l) e (inside h)

  pub decl_laid : (x : TDecl) (a : Stand) (l : StatementLayout) → IsLaid (laid.one (stmt.Decl x) a l) → DeclLaid x a l
  decl_laid x a l h = out (stmt.Decl x) (layer.Decl x) a l (stmt.outs-Decl x) h

  pub call_laid : (x : TCall) (a : Stand) (l : StatementLayout) → IsLaid (laid.one (stmt.Call x) a l) → CallLaid x a l
  call_laid x a l h = out (stmt.Call x) (layer.Call x) a l (stmt.outs-Call x) h

  pub scatter_laid : (x : TScatter Statement) (a : Stand) (l : StatementLayout) → IsLaid (laid.one (stmt.Scatter x) a l) → ScatterLaid x a l
  scatter_laid x a l h = out (stmt.Scatter x) (layer.Scatter x) a l (stmt.outs-Scatter x) h

  pub if_laid : (x : TIf Statement) (a : Stand) (l : StatementLayout) → IsLaid (laid.one (stmt.If x) a l) → IfLaid x a l
  if_laid x a l h = out (stmt.If x) (layer.If x) a l (stmt.outs-If x) h

  pub whole_laid : (ss : List Statement) (names calls : List Need) (path : List ℕ) (before after : ℕ) (b : BodyLayout) → IsLaid (laid.whole ss names calls path before after b)
      → WholeLaid ss names calls path before after b
  whole_laid ss names calls path before after b h = inside h
