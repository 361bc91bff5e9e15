-- What well-typed statements give out has the keys that their flow gives out.
use Rattle.std.proofs.Common.{◌≡◌, ℕ, Bool, true, false, cond, List, [], ◌∷◌, ◌++◌, map, Option, Some, None, option_and_then, sym, ap, ◌∙◌, subst, refl}
use Rattle.std.proofs.lemmas.List.{map-append}
use Rattle.std.specs.List.{slice_get}
use Rattle.wdl_base.specs.declared.name.Key.{Key}
use Rattle.wdl_value.specs.declared.ty.Ty.{Ty, Ty-F, out-Ty}
use Rattle.wdl_value.specs.declared.ty.Ty.TheVariants as ty
use Rattle.wdl_value.specs.declared.ty.Ty.TheOpen as type
use Rattle.wdl_value.specs.Kinds.{is_bool}
use Rattle.wdl_typed.specs.declared.flow.FlowDef.{FlowDef}
use Rattle.wdl_typed.specs.declared.flow.Statement.{Statement, Statement-F, map-Statement, roll-Statement, ind-Statement, fold-roll-Statement}
use Rattle.wdl_typed.specs.declared.flow.Statement.TheOpen as layer
use Rattle.wdl_typed.specs.declared.flow.Target.{Target}
use Rattle.wdl_typed.specs.declared.flow.Target.TheVariants as target
use Rattle.wdl_typed.specs.declared.scope.Bound.{Bound}
use Rattle.wdl_typed.specs.declared.task.TDecl.{TDecl}
use Rattle.wdl_typed.specs.declared.task.TaskDef.{TaskDef}
use Rattle.wdl_typed.specs.Bodies.{Giving, Library, Seen, Signature, body_gives, body_step, call_by, flow_signature, gives, if_over, joined, optional, output_bound, retyped, scatter_over, signature, statement_step, task_signature, with_item}
use Rattle.wdl_typed.specs.Declarations.{in_body}
use Rattle.wdl_typed.specs.Flow.{Names, output_keys}
use Rattle.wdl_flow.specs.Given.{all_names, flow_outputs, names_in, names_step, outputs_of, task_outputs}
use Rattle.flow_soundness.proofs.NewNames.{keys_of}
use Rattle.wdl_base.proofs.Options.{then_parts}

pub when_some : {A : Type 0} (t : Bool) (a w : A) → (let o : Option A = cond t (Some a) None in o ≡ Some w) → (t ≡ true) × (a ≡ w)
when_some true a w h = (refl, cc)
when_some false a w h = absurd (cc)

pub signature_outputs : (lib : Library) (t : Target) (s : Signature) → signature lib t ≡ Some s → outputs_of lib.tasks lib.flows t ≡ s.outputs
signature_outputs lib (target.Task k) s h = by_task (slice_get lib.tasks k) h
  where
    by_task : (o : Option TaskDef) → option_and_then (λ t. Some (task_signature t)) o ≡ Some s → task_outputs o ≡ s.outputs
    by_task None h = absurd (cc)
    by_task (Some t) h = let same : task_signature t ≡ s = cc in ap (λ (z : Signature). z.outputs) same
signature_outputs lib (target.Flow k) s h = by_flow (slice_get lib.flows k) h
  where
    by_flow : (o : Option FlowDef) → option_and_then (λ f. Some (flow_signature f)) o ≡ Some s → flow_outputs o ≡ s.outputs
    by_flow None h = absurd (cc)
    by_flow (Some f) h = let same : flow_signature f ≡ s = cc in ap (λ (z : Signature). z.outputs) same

bound_keys : (call : List ℕ) (ds : List TDecl) → keys_of (map (output_bound call) ds) ≡ output_keys call ds
bound_keys call [] = refl
bound_keys call (d ∷ ds) = ap (λ ks. record { first = call; second = Some d.name } ∷ ks) (bound_keys call ds)

retyped_keys : (f : Ty → Ty) (bs : List Bound) → keys_of (map (λ (b : Bound). record { key = b.key; ty = f b.ty }) bs) ≡ keys_of bs
retyped_keys f [] = refl
retyped_keys f (b ∷ bs) = ap (λ ks. b.key ∷ ks) (retyped_keys f bs)

module _ (lib : Library) where
  abbrev pub given_names : Statement → Names
  given_names = names_in lib.tasks lib.flows

  abbrev Keys : Statement → Type 0
  Keys st = (seen given : Seen) → gives lib st seen ≡ Some given → keys_of given.names ≡ (given_names st).keys

  abbrev Kept : Type 0
  Kept = (st : Statement) × Keys st

  abbrev plain : Statement-F Kept → Statement-F Statement
  plain = map-Statement Kept Statement (λ (k : Kept). k.0)

  abbrev firsts : List Kept → List Statement
  firsts = map (λ (k : Kept). k.0)

  joined_keys : (first rest : Seen) (m n : List Key) → keys_of first.names ≡ m → keys_of rest.names ≡ n → keys_of (joined first rest).names ≡ m ++ n
  joined_keys first rest m n h k =
      map-append (λ (b : Bound). b.key) first.names rest.names ∙ ap (λ ks. ks ++ keys_of rest.names) h ∙ ap (λ ks. m ++ ks) k

  list_keys : (ks : List Kept) (seen given : Seen) → body_step (map (gives lib) (firsts ks)) seen ≡ Some given → keys_of given.names ≡ (all_names lib.tasks lib.flows (firsts ks)).keys
  list_keys [] seen given h = let same : (let e : Seen = record { names = []; calls = [] } in e) ≡ given = cc in ap (λ (s : Seen). keys_of s.names) (sym same)
  list_keys (k ∷ ks) seen given h =
      let p = then_parts (λ first. option_and_then (λ rest. Some (joined first rest)) (body_step (map (gives lib) (firsts ks)) (joined seen first))) (gives lib k.0 seen) given h in
      let q = then_parts (λ rest. Some (joined p.0 rest)) (body_step (map (gives lib) (firsts ks)) (joined seen p.0)) given p.2 in
      let same : joined p.0 q.0 ≡ given = cc in
      ap (λ (s : Seen). keys_of s.names) (sym same)
      ∙ joined_keys p.0 q.0 (given_names k.0).keys (all_names lib.tasks lib.flows (firsts ks)).keys (k.1 seen p.0 p.1) (list_keys ks (joined seen p.0) q.0 q.1)

  block_keys : (f : Ty → Ty) (ks : List Kept) (seen given s : Seen) → body_step (map (gives lib) (firsts ks)) seen ≡ Some s → retyped f s ≡ given
      → keys_of given.names ≡ (all_names lib.tasks lib.flows (firsts ks)).keys
  block_keys f ks seen given s h same = ap (λ (z : Seen). keys_of z.names) (sym same) ∙ retyped_keys f s.names ∙ list_keys ks seen s h

  scatter_keys : (item : List ℕ) (ks : List Kept) (seen given : Seen) (t : Ty-F Ty) → scatter_over item (body_step (map (gives lib) (firsts ks))) seen t ≡ Some given
      → keys_of given.names ≡ (all_names lib.tasks lib.flows (firsts ks)).keys
  scatter_keys item ks seen given (type.Array t some) h =
      let p = then_parts (λ s. Some (retyped (λ u. ty.Array u some) s)) (body_step (map (gives lib) (firsts ks)) (with_item seen item t)) given h in
      block_keys (λ u. ty.Array u some) ks (with_item seen item t) given p.0 p.1 cc
  scatter_keys item ks seen given t h = absurd (cc)

  if_keys : (ks : List Kept) (seen given : Seen) (t : Ty) → if_over (body_step (map (gives lib) (firsts ks))) seen t ≡ Some given
      → keys_of given.names ≡ (all_names lib.tasks lib.flows (firsts ks)).keys
  if_keys ks seen given t h = by_test (is_bool t) h
    where
      by_test : (b : Bool) → cond b (option_and_then (λ s. Some (retyped optional s)) (body_step (map (gives lib) (firsts ks)) seen)) None ≡ Some given
          → keys_of given.names ≡ (all_names lib.tasks lib.flows (firsts ks)).keys
      by_test true h =
          let p = then_parts (λ s. Some (retyped optional s)) (body_step (map (gives lib) (firsts ks)) seen) given h in
          block_keys optional ks seen given p.0 p.1 cc
      by_test false h = absurd (cc)

  layer_keys : (y : Statement-F Kept) (seen given : Seen) → statement_step lib (map-Statement Statement Giving (gives lib) (plain y)) seen ≡ Some given
      → keys_of given.names ≡ (names_step lib.tasks lib.flows (map-Statement Statement Names given_names (plain y))).keys
  layer_keys (layer.Decl d) seen given h =
      let p = when_some _ _ given h in ap (λ (s : Seen). keys_of s.names) (sym p.1)
  layer_keys (layer.Call c) seen given h =
      let p = then_parts (call_by lib.structs c seen) (signature lib c.target) given h in
      let q = when_some _ _ given p.2 in
      ap (λ (s : Seen). keys_of s.names) (sym q.1) ∙ bound_keys c.name p.0.outputs ∙ ap (output_keys c.name) (sym (signature_outputs lib c.target p.0 p.1))
  layer_keys (layer.Scatter s) seen given h =
      let p = then_parts (λ t. scatter_over s.item (body_step (map (gives lib) (firsts s.body))) seen (out-Ty t)) (in_body lib.structs seen.names s.over) given h in
      scatter_keys s.item s.body seen given (out-Ty p.0) p.2
  layer_keys (layer.If i) seen given h =
      let p = then_parts (if_over (body_step (map (gives lib) (firsts i.body))) seen) (in_body lib.structs seen.names i.cond) given h in
      if_keys i.body seen given p.0 p.2

  pub gives_keys : (st : Statement) → Keys st
  gives_keys = ind-Statement Keys (λ x y is. subst (λ (z : Statement-F Statement). Keys (roll-Statement z)) is (λ seen given h.
      layer_keys y seen given (sym (ap (λ (f : Giving). f seen) (fold-roll-Statement Giving (statement_step lib) (plain y))) ∙ h)
      ∙ sym (ap (λ (n : Names). n.keys) (fold-roll-Statement Names (names_step lib.tasks lib.flows) (plain y)))))

  pub all_gives_keys : (ss : List Statement) (seen given : Seen) → body_gives lib ss seen ≡ Some given → keys_of given.names ≡ (all_names lib.tasks lib.flows ss).keys
  all_gives_keys [] seen given h = let same : (let e : Seen = record { names = []; calls = [] } in e) ≡ given = cc in ap (λ (s : Seen). keys_of s.names) (sym same)
  all_gives_keys (st ∷ ss) seen given h =
      let p = then_parts (λ first. option_and_then (λ rest. Some (joined first rest)) (body_gives lib ss (joined seen first))) (gives lib st seen) given h in
      let q = then_parts (λ rest. Some (joined p.0 rest)) (body_gives lib ss (joined seen p.0)) given p.2 in
      let same : joined p.0 q.0 ≡ given = cc in
      ap (λ (s : Seen). keys_of s.names) (sym same)
      ∙ joined_keys p.0 q.0 (given_names st).keys (all_names lib.tasks lib.flows ss).keys (gives_keys st seen p.0 p.1) (all_gives_keys ss (joined seen p.0) q.0 q.1)
