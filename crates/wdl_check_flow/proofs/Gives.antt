-- What typed statements give out, form by form and one behind the other.
use Rattle.std.proofs.Common.{◌≡◌, List, [], ◌∷◌, ◌++◌, Some, option_and_then, sym, ap, ◌∙◌}
use Rattle.std.proofs.lemmas.Option.{same_Some}
use Rattle.wdl_value.specs.declared.ty.Ty.{Ty, out-Ty}
use Rattle.wdl_typed.specs.declared.flow.Statement.{Statement, Statement-F, fold-roll-Statement, map-Statement, roll-Statement}
use Rattle.wdl_typed.specs.declared.flow.Statement.TheVariants as form
use Rattle.wdl_typed.specs.declared.flow.TCall.{TCall}
use Rattle.wdl_typed.specs.declared.flow.TIf.{TIf}
use Rattle.wdl_typed.specs.declared.flow.TScatter.{TScatter}
use Rattle.wdl_typed.specs.declared.task.TDecl.{TDecl}
use Rattle.wdl_typed.specs.Bodies.{Giving, Library, Seen, body_gives, call_step, decl_step, gives, if_over, joined, scatter_over, statement_step}
use Rattle.wdl_typed.specs.Declarations.{in_body}
use Rattle.wdl_check_flow.specs.Given.{nothing}
use Rattle.wdl_check_flow.proofs.SeenLaws.{joined-assoc, joined_nothing}
use Rattle.wdl_base.proofs.Options.{then_parts}

gives_at : (lib : Library) (s : Statement) (y : Statement-F Statement) (seen : Seen) → roll-Statement y ≡ s → gives lib s seen ≡ statement_step lib (map-Statement Statement Giving (gives lib) y) seen
gives_at lib s y seen is =
    ap (λ (x : Statement). gives lib x seen) (sym is) ∙ ap (λ (f : Giving). f seen) (fold-roll-Statement Giving (statement_step lib) y)

pub gives_decl : (lib : Library) (d : TDecl) (seen : Seen) → gives lib (form.Decl d) seen ≡ decl_step lib.structs d seen
gives_decl lib d seen = gives_at lib _ _ seen (form.rolls-Decl d)

pub gives_call : (lib : Library) (c : TCall) (seen : Seen) → gives lib (form.Call c) seen ≡ call_step lib c seen
gives_call lib c seen = gives_at lib _ _ seen (form.rolls-Call c)

pub gives_scatter : (lib : Library) (s : TScatter Statement) (seen : Seen) → gives lib (form.Scatter s) seen
    ≡ option_and_then (λ (t : Ty). scatter_over s.item (body_gives lib s.body) seen (out-Ty t)) (in_body lib.structs seen.names s.over)
gives_scatter lib s seen = gives_at lib _ _ seen (form.rolls-Scatter s)

pub gives_if : (lib : Library) (i : TIf Statement) (seen : Seen) → gives lib (form.If i) seen ≡ option_and_then (if_over (body_gives lib i.body) seen) (in_body lib.structs seen.names i.cond)
gives_if lib i seen = gives_at lib _ _ seen (form.rolls-If i)

-- one statement more
pub gives_pushed : (lib : Library) (xs : List Statement) (s : Statement) (seen given more : Seen)
    → body_gives lib xs seen ≡ Some given → gives lib s (joined seen given) ≡ Some more → body_gives lib (xs ++ s ∷ []) seen ≡ Some (joined given more)
gives_pushed lib [] s seen given more h g =
    let e : nothing ≡ given = same_Some nothing given h in
    ap (option_and_then (λ (f : Seen). Some (joined f nothing))) (ap (gives lib s) (sym (joined_nothing seen) ∙ ap (joined seen) e) ∙ g)
    ∙ ap Some (joined_nothing more ∙ ap (λ z. joined z more) e)
gives_pushed lib (x ∷ xs) s seen given more h g =
    let q = then_parts (λ (first : Seen). option_and_then (λ (rest : Seen). Some (joined first rest)) (body_gives lib xs (joined seen first))) (gives lib x seen) given h in
    let r = then_parts (λ (rest : Seen). Some (joined q.0 rest)) (body_gives lib xs (joined seen q.0)) given q.2 in
    let e : joined q.0 r.0 ≡ given = same_Some (joined q.0 r.0) given r.2 in
    let later = gives_pushed lib xs s (joined seen q.0) r.0 more r.1 (ap (gives lib s) (joined-assoc seen q.0 r.0 ∙ ap (joined seen) e) ∙ g) in
    ap (option_and_then (λ (first : Seen). option_and_then (λ (rest : Seen). Some (joined first rest)) (body_gives lib (xs ++ s ∷ []) (joined seen first)))) q.1
    ∙ ap (option_and_then (λ (rest : Seen). Some (joined q.0 rest))) later
    ∙ ap Some (sym (joined-assoc q.0 r.0 more) ∙ ap (λ z. joined z more) e)
