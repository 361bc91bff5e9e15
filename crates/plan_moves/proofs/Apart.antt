-- What tells the rules of steps apart.
use Rattle.std.proofs.Common.{◌≡◌, ℕ, ap}
use Rattle.wdl_typed.specs.declared.flow.Statement.{Statement, Statement-F, out-Statement}
use Rattle.wdl_typed.specs.declared.flow.Statement.TheOpen as layer
use Rattle.wdl_typed.specs.declared.flow.Statement.TheVariants as stmt
use Rattle.wdl_typed.specs.declared.flow.TCall.{TCall}
use Rattle.wdl_typed.specs.declared.flow.TIf.{TIf}
use Rattle.wdl_typed.specs.declared.flow.TScatter.{TScatter}
use Rattle.wdl_typed.specs.declared.task.TDecl.{TDecl}
use Rattle.net_laws.specs.Growing.{Rule, copies, declares, does, ends, gathers}
use Rattle.net_laws.specs.Net.{Given, Scope}

abbrev pub layer_kind : Statement-F Statement → ℕ
layer_kind (layer.Decl x) = 0
layer_kind (layer.Call x) = 1
layer_kind (layer.Scatter x) = 2
layer_kind (layer.If x) = 3

abbrev pub kind : Rule → ℕ
kind (does x s g d) = layer_kind (out-Statement x)
kind (declares name e s c) = 4
kind (gathers parts c) = 5
kind (ends parts c) = 6
kind (copies from c) = 7

pub decl_kind : (x : TDecl) (s : Scope) (g : Given) (d : ℕ) → kind (does (stmt.Decl x) s g d) ≡ 0
decl_kind x s g d = ap layer_kind (stmt.outs-Decl x)

pub call_kind : (x : TCall) (s : Scope) (g : Given) (d : ℕ) → kind (does (stmt.Call x) s g d) ≡ 1
call_kind x s g d = ap layer_kind (stmt.outs-Call x)

pub scatter_kind : (x : TScatter Statement) (s : Scope) (g : Given) (d : ℕ) → kind (does (stmt.Scatter x) s g d) ≡ 2
scatter_kind x s g d = ap layer_kind (stmt.outs-Scatter x)

pub if_kind : (x : TIf Statement) (s : Scope) (g : Given) (d : ℕ) → kind (does (stmt.If x) s g d) ≡ 3
if_kind x s g d = ap layer_kind (stmt.outs-If x)
