-- A statement with leaves in the places of struct inputs, form by form.
use Rattle.std.proofs.Common.{◌≡◌, map, ap, sym, ◌∙◌}
use Rattle.wdl_typed.specs.declared.flow.Statement.{Statement, Statement-F, fold-roll-Statement, map-Statement, roll-Statement}
use Rattle.wdl_typed.specs.declared.flow.Statement.TheOpen as layer
use Rattle.wdl_typed.specs.declared.flow.Statement.TheVariants as s
use Rattle.wdl_typed.specs.declared.flow.TCall.{TCall}
use Rattle.wdl_typed.specs.declared.flow.TIf.{TIf}
use Rattle.wdl_typed.specs.declared.flow.TScatter.{TScatter}
use Rattle.wdl_typed.specs.declared.task.TDecl.{TDecl}
use Rattle.wdl_swaps.specs.Swaps.{swapped, swapped_decl}
use Rattle.leaf_image.specs.Records.{Setting, expanded, expanded_call, expanded_step}

abbrev opened : (x : Setting) (y : Statement-F Statement) → expanded x (roll-Statement y) ≡ expanded_step x (map-Statement Statement Statement (expanded x) y)
unfolding expanded
opened x y = fold-roll-Statement Statement (expanded_step x) y

pub expanded_decl : (x : Setting) (d : TDecl) → expanded x (s.Decl d) ≡ s.Decl (swapped_decl x.own.swaps d)
expanded_decl x d = ap (expanded x) (sym (s.rolls-Decl d)) ∙ opened x (layer.Decl d)

pub expanded_calls : (x : Setting) (c : TCall) → expanded x (s.Call c) ≡ s.Call (expanded_call x c)
expanded_calls x c = ap (expanded x) (sym (s.rolls-Call c)) ∙ opened x (layer.Call c)

pub expanded_scatter : (x : Setting) (t : TScatter Statement)
    → expanded x (s.Scatter t) ≡ s.Scatter (record { number = t.number; item = t.item; over = swapped x.own.swaps t.over; body = map (expanded x) t.body; span = t.span })
expanded_scatter x t = ap (expanded x) (sym (s.rolls-Scatter t)) ∙ opened x (layer.Scatter t)

pub expanded_if : (x : Setting) (t : TIf Statement)
    → expanded x (s.If t) ≡ s.If (record { number = t.number; cond = swapped x.own.swaps t.cond; body = map (expanded x) t.body; span = t.span })
expanded_if x t = ap (expanded x) (sym (s.rolls-If t)) ∙ opened x (layer.If t)

-- what a proof of code about `expanded` uses
pub ruleset equations = (expanded_decl, expanded_calls, expanded_scatter, expanded_if)
