-- What well-typed statements give out has the names and calls of their layout.
use Rattle.std.proofs.Common.{◌≡◌, ℕ, Bool, true, false, cond, List, [], ◌∷◌, ◌++◌, map, Option, Some, None, option_and_then, sym, ap, ◌∙◌, subst, refl}
use Rattle.std.proofs.lemmas.List.{map-append}
use Rattle.wdl_base.specs.declared.name.Key.{Key}
use Rattle.wdl_value.specs.declared.ty.Ty.{Ty, Ty-F, out-Ty}
use Rattle.wdl_value.specs.declared.ty.Ty.TheVariants as ty
use Rattle.wdl_value.specs.declared.ty.Ty.TheOpen as type
use Rattle.wdl_value.specs.Kinds.{is_bool}
use Rattle.wdl_typed.specs.declared.flow.Statement.{Statement, Statement-F, fold_out-Statement, fold-roll-Statement, ind-Statement, map-Statement, out-Statement, roll-Statement}
use Rattle.wdl_typed.specs.declared.flow.Statement.TheOpen as layer
use Rattle.wdl_typed.specs.declared.scope.Bound.{Bound}
use Rattle.wdl_typed.specs.declared.task.TDecl.{TDecl}
use Rattle.wdl_typed.specs.Bodies.{Giving, Library, Seen, body_step, call_by, gives, if_over, joined, optional, output_bound, retyped, scatter_over, signature, statement_step, with_item}
use Rattle.wdl_typed.specs.Declarations.{in_body}
use Rattle.wdl_typed.specs.Flow as flow
use Rattle.wdl_typed.specs.Flow.{Callee, Names, Part, Run, names_of_part, nothing, output_keys, signature_keys}
use Rattle.flow_laws.specs.Laws.{run_with}
use Rattle.net_laws.specs.Growing.{body_given}
use Rattle.net_laws.specs.Planned.{part_of}
use Rattle.plan_layout.specs.Laid.{given_at}
use Rattle.wdl_base.proofs.Options.{then_parts}

abbrev pub keys_of : List Bound → List Key
keys_of = map (λ (b : Bound). b.key)

-- It has these names and calls.
pub record IsNamed (s : Seen) (n : Names) : Type 0 where
  pub keys : keys_of s.names ≡ n.keys
  pub calls : s.calls ≡ n.calls

when_same : (t : Bool) (a w : Seen) → (let o : Option Seen = cond t (Some a) None in o ≡ Some w) → a ≡ w
when_same true a w h = cc
when_same false a w h = absurd (cc)

outputs_keys : (call : List ℕ) (ds : List TDecl) → keys_of (map (output_bound call) ds) ≡ output_keys call ds
outputs_keys call [] = refl
outputs_keys call (d ∷ ds) = ap (λ ks. record { first = call; second = Some d.name } ∷ ks) (outputs_keys call ds)

retyped_keys : (f : Ty → Ty) (bs : List Bound) → keys_of (map (λ (b : Bound). record { key = b.key; ty = f b.ty }) bs) ≡ keys_of bs
retyped_keys f [] = refl
retyped_keys f (b ∷ bs) = ap (λ ks. b.key ∷ ks) (retyped_keys f bs)

module _ (lib : Library) where
  abbrev pub bare : Run
  bare = run_with lib [] []

  abbrev pub none : Callee
  none k given place = nothing

  -- the names that a statement gives out, whatever the table of answers
  abbrev pub name_of : Statement → Names
  name_of st = (part_of bare none st).names

  layer_name : (y : Statement-F Statement) → (flow.statement_step bare none (map-Statement Statement Part (part_of bare none) y)).names ≡ given_at lib y
  layer_name (layer.Decl d) = refl
  layer_name (layer.Call c) = refl
  layer_name (layer.Scatter b) = refl
  layer_name (layer.If b) = refl

  pub rolled_name : (y : Statement-F Statement) → name_of (roll-Statement y) ≡ given_at lib y
  rolled_name y = ap names_of_part (fold-roll-Statement Part (flow.statement_step bare none) y) ∙ layer_name y

  pub name_is : (st : Statement) → name_of st ≡ given_at lib (out-Statement st)
  name_is st = ap names_of_part (fold_out-Statement Part (flow.statement_step bare none) st) ∙ layer_name (out-Statement st)

  -- ---- statements

  abbrev Holds : Statement → Type 0
  Holds st = (seen first : Seen) → gives lib st seen ≡ Some first → IsNamed first (name_of st)

  abbrev Known : Type 0
  Known = (st : Statement) × Holds st

  abbrev plain : Statement-F Known → Statement-F Statement
  plain = map-Statement Known Statement (λ (k : Known). k.0)

  abbrev firsts : List Known → List Statement
  firsts = map (λ (k : Known). k.0)

  list_named : (ks : List Known) (seen given : Seen) → body_step (map (gives lib) (firsts ks)) seen ≡ Some given → IsNamed given (body_given lib (firsts ks))
  list_named [] seen given h = let same : (let e : Seen = record { names = []; calls = [] } in e) ≡ given = cc in subst (λ (s : Seen). IsNamed s (body_given lib [])) same (record { keys = refl; calls = refl })
  list_named (k ∷ ks) seen given h =
      let rest = body_given lib (firsts ks) in
      let p = then_parts (λ a. option_and_then (λ b. Some (joined a b)) (body_step (map (gives lib) (firsts ks)) (joined seen a))) (gives lib k.0 seen) given h in
      let q = then_parts (λ b. Some (joined p.0 b)) (body_step (map (gives lib) (firsts ks)) (joined seen p.0)) given p.2 in
      let same : joined p.0 q.0 ≡ given = cc in
      let here = k.1 seen p.0 p.1 in
      let there = list_named ks (joined seen p.0) q.0 q.1 in
      subst (λ (s : Seen). IsNamed s (body_given lib (firsts (k ∷ ks)))) same
      (record {
        keys = map-append (λ (x : Bound). x.key) p.0.names q.0.names ∙ ap (λ xs. xs ++ keys_of q.0.names) here.keys ∙ ap (λ xs. (name_of k.0).keys ++ xs) there.keys;
        calls = ap (λ cs. cs ++ q.0.calls) here.calls ∙ ap (λ cs. (name_of k.0).calls ++ cs) there.calls;
      })

  block_named : (f : Ty → Ty) (ks : List Known) (seen given s : Seen) → body_step (map (gives lib) (firsts ks)) seen ≡ Some s → retyped f s ≡ given → IsNamed given (body_given lib (firsts ks))
  block_named f ks seen given s h same =
      let p = list_named ks seen s h in
      subst (λ (z : Seen). IsNamed z (body_given lib (firsts ks))) same (record { keys = retyped_keys f s.names ∙ p.keys; calls = p.calls })

  scatter_named : (item : List ℕ) (ks : List Known) (seen given : Seen) (t : Ty-F Ty) → scatter_over item (body_step (map (gives lib) (firsts ks))) seen t ≡ Some given → IsNamed given (body_given lib (firsts ks))
  scatter_named item ks seen given (type.Array t some) h =
      let p = then_parts (λ s. Some (retyped (λ u. ty.Array u some) s)) (body_step (map (gives lib) (firsts ks)) (with_item seen item t)) given h in
      block_named (λ u. ty.Array u some) ks (with_item seen item t) given p.0 p.1 cc
  scatter_named item ks seen given t h = absurd (cc)

  if_named : (ks : List Known) (seen given : Seen) (t : Ty) → if_over (body_step (map (gives lib) (firsts ks))) seen t ≡ Some given → IsNamed given (body_given lib (firsts ks))
  if_named ks seen given t h = by_test (is_bool t) h
    where
      by_test : (b : Bool) → cond b (option_and_then (λ s. Some (retyped optional s)) (body_step (map (gives lib) (firsts ks)) seen)) None ≡ Some given → IsNamed given (body_given lib (firsts ks))
      by_test true j =
          let p = then_parts (λ s. Some (retyped optional s)) (body_step (map (gives lib) (firsts ks)) seen) given j in
          block_named optional ks seen given p.0 p.1 cc
      by_test false j = absurd (cc)

  layer_named : (y : Statement-F Known) (seen first : Seen) → statement_step lib (map-Statement Statement Giving (gives lib) (plain y)) seen ≡ Some first → IsNamed first (given_at lib (plain y))
  layer_named (layer.Decl d) seen first h = subst (λ (z : Seen). IsNamed z (given_at lib (layer.Decl d))) (when_same _ _ first h) (record { keys = refl; calls = refl })
  layer_named (layer.Call c) seen first h =
      let p = then_parts (call_by lib.structs c seen) (signature lib c.target) first h in
      subst (λ (z : Seen). IsNamed z (given_at lib (layer.Call c))) (when_same _ _ first p.2)
      (record { keys = outputs_keys c.name p.0.outputs ∙ sym (ap (signature_keys c.name) p.1); calls = refl })
  layer_named (layer.Scatter b) seen first h =
      let p = then_parts (λ t. scatter_over b.item (body_step (map (gives lib) (firsts b.body))) seen (out-Ty t)) (in_body lib.structs seen.names b.over) first h in
      scatter_named b.item b.body seen first (out-Ty p.0) p.2
  layer_named (layer.If b) seen first h =
      let p = then_parts (if_over (body_step (map (gives lib) (firsts b.body))) seen) (in_body lib.structs seen.names b.cond) first h in
      if_named b.body seen first p.0 p.2

  statement_named : (st : Statement) → Holds st
  statement_named = ind-Statement Holds (λ x y is. subst (λ (z : Statement-F Statement). Holds (roll-Statement z)) is (λ seen first h.
      subst (λ (n : Names). IsNamed first n) (sym (rolled_name (plain y)))
      (layer_named y seen first (sym (ap (λ (f : Giving). f seen) (fold-roll-Statement Giving (statement_step lib) (plain y))) ∙ h))))

  -- What a well-typed statement gives out has the names and the calls of its layout.
  pub gives_named : (st : Statement) (seen first : Seen) → gives lib st seen ≡ Some first → IsNamed first (given_at lib (out-Statement st))
  gives_named st seen first h = subst (λ (n : Names). IsNamed first n) (name_is st) (statement_named st seen first h)
