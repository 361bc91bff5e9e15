-- The references that statements give out are outputs of calls, and the items in them have names of their own.
use Rattle.std.proofs.Common.{◌≡◌, ℕ, ◌⊎◌, inl, inr, Bool, true, false, not, List, [], ◌∷◌, map, Option, Some, None, Contains, sym, ap, ◌∙◌, subst, refl}
use Rattle.std.proofs.lemmas.Bool.{and_parts, not-true, or_parts}
use Rattle.std.specs.Str.{bytes_eq}
use Rattle.std.proofs.lemmas.List.Elements.{Contains-append_cases}
use Rattle.wdl_base.specs.declared.name.Key.{Key}
use Rattle.wdl_base.specs.Names.{is_name}
use Rattle.wdl_typed.specs.declared.flow.Statement.{Statement, Statement-F, fold-Statement, fold-roll-Statement, ind-Statement, map-Statement, roll-Statement}
use Rattle.wdl_typed.specs.declared.flow.Statement.TheOpen as layer
use Rattle.wdl_typed.specs.declared.task.TDecl.{TDecl}
use Rattle.wdl_typed.specs.Bodies.{Differing, Library, Signature, all_differ, arg_names, items_step, signature}
use Rattle.wdl_typed.specs.Declarations.{plain_key}
use Rattle.wdl_typed.specs.Lists.{has_name}
use Rattle.cwl_model.proofs.Rounds.{first_or_later, none_is}
use Rattle.cwl_model.specs.declared.ty.CwlTy.{CwlTy}
use Rattle.cwl_image.specs.Image.{Draft, Linkage, Output, Targets, block_output, body_items, body_links, call_output, draft, draft_step, linkage_of, links_of, list_type, null_type, signature_outputs}
use Rattle.cwl_image.specs.Named.{all_true, are_names, named_step, statement_named}
use Rattle.cwl_laws.proofs.Elements.{map_has}

-- a reference to an output of a call
pub record IsOutputKey (k : Key) : Type 0 where
  pub named : is_name k.first ≡ true
  pub output : List ℕ
  pub second : k.second ≡ Some output

call_keys : (call : List ℕ) → is_name call ≡ true → (o : Option Signature) (p : Output) → Contains (signature_outputs call o) p → IsOutputKey p.key
call_keys call n None p c = absurd (none_is p c)
call_keys call n (Some s) p c =
    let r = map_has TDecl Output (call_output call) s.outputs p c in
    subst (λ (z : Output). IsOutputKey z.key) r.2 (record { named = n; output = r.0.name; second = refl })

module _ (lib : Library) (processes : Targets) where
  -- ---- references

  abbrev Out : Statement → Type 0
  Out st = statement_named st ≡ true → (o : Output) → Contains (draft lib processes st).outs o → IsOutputKey o.key

  abbrev KnownOut : Type 0
  KnownOut = (st : Statement) × Out st

  abbrev plain_out : Statement-F KnownOut → Statement-F Statement
  plain_out = map-Statement KnownOut Statement (λ (k : KnownOut). k.0)

  abbrev firsts_out : List KnownOut → List Statement
  firsts_out = map (λ (k : KnownOut). k.0)

  links_out : (d : Draft) → ((o : Output) → Contains d.outs o → IsOutputKey o.key) → (l : Linkage) → Contains (links_of d) l → IsOutputKey l.key
  links_out d h l c =
      let r = map_has Output Linkage (linkage_of d.id) d.outs l c in
      subst (λ (z : Linkage). IsOutputKey z.key) r.2 (h r.0 r.1)

  body_out : (ks : List KnownOut) → all_true (map statement_named (firsts_out ks)) ≡ true → (l : Linkage) → Contains (body_links (map (draft lib processes) (firsts_out ks))) l → IsOutputKey l.key
  body_out [] n l c = absurd (none_is l c)
  body_out (k ∷ ks) n l c =
      let p = and_parts (statement_named k.0) (all_true (map statement_named (firsts_out ks))) n in
      by_case (λ d. body_out ks p.1 l d) (links_out (draft lib processes k.0) (k.1 p.0) l)
      (Contains-append_cases (links_of (draft lib processes k.0)) (body_links (map (draft lib processes) (firsts_out ks))) l c)
    where
      by_case : (Contains (body_links (map (draft lib processes) (firsts_out ks))) l → IsOutputKey l.key) → (Contains (links_of (draft lib processes k.0)) l → IsOutputKey l.key)
          → Contains (links_of (draft lib processes k.0)) l ⊎ Contains (body_links (map (draft lib processes) (firsts_out ks))) l → IsOutputKey l.key
      by_case rest here (inl d) = here d
      by_case rest here (inr d) = rest d

  block_out : (f : CwlTy → CwlTy) (ks : List KnownOut) → all_true (map statement_named (firsts_out ks)) ≡ true → (o : Output)
      → Contains (map (block_output f) (body_links (map (draft lib processes) (firsts_out ks)))) o → IsOutputKey o.key
  block_out f ks n o c =
      let r = map_has Linkage Output (block_output f) (body_links (map (draft lib processes) (firsts_out ks))) o c in
      subst (λ (z : Output). IsOutputKey z.key) r.2 (body_out ks n r.0 r.1)

  layer_out : (y : Statement-F KnownOut) → named_step (map-Statement Statement Bool statement_named (plain_out y)) ≡ true → (o : Output)
      → Contains (draft_step lib processes (map-Statement Statement Draft (draft lib processes) (plain_out y))).outs o → IsOutputKey o.key
  layer_out (layer.Decl d) n o c = absurd (none_is o c)
  layer_out (layer.Call c) n o d = call_keys c.name (and_parts (is_name c.name) (are_names (arg_names c.args)) n).0 (signature lib c.target) o d
  layer_out (layer.Scatter s) n o c = block_out list_type s.body (and_parts (is_name s.item) (all_true (map statement_named (firsts_out s.body))) n).1 o c
  layer_out (layer.If i) n o c = block_out null_type i.body n o c

  pub outs_are : (st : Statement) → Out st
  outs_are = ind-Statement Out (λ a y is. subst (λ (z : Statement-F Statement). Out (roll-Statement z)) is (λ n o c.
      layer_out y (sym (fold-roll-Statement Bool named_step (plain_out y)) ∙ n) o
      (subst (λ (d : Draft). Contains d.outs o) (fold-roll-Statement Draft (draft_step lib processes) (plain_out y)) c)))

  abbrev known_out : List Statement → List KnownOut
  known_out = map (λ (st : Statement). (st, outs_are st))

  firsts_known : (ss : List Statement) → firsts_out (known_out ss) ≡ ss
  firsts_known [] = refl
  firsts_known (st ∷ ss) = ap (λ (zs : List Statement). st ∷ zs) (firsts_known ss)

  -- Each reference of a body is to an output of a call.
  pub links_are : (ss : List Statement) → all_true (map statement_named ss) ≡ true → (l : Linkage) → Contains (body_links (map (draft lib processes) ss)) l → IsOutputKey l.key
  links_are ss =
      subst (λ (zs : List Statement). all_true (map statement_named zs) ≡ true → (l : Linkage) → Contains (body_links (map (draft lib processes) zs)) l → IsOutputKey l.key) (firsts_known ss)
      (body_out (known_out ss))

  -- ---- items

  abbrev Items : Statement → Type 0
  Items st = (all : List (List ℕ)) → fold-Statement Differing items_step st all ≡ true → (k : Key) → Contains (draft lib processes st).items k → has_name k.first all ≡ false

  abbrev KnownItems : Type 0
  KnownItems = (st : Statement) × Items st

  abbrev plain_items : Statement-F KnownItems → Statement-F Statement
  plain_items = map-Statement KnownItems Statement (λ (k : KnownItems). k.0)

  abbrev firsts_items : List KnownItems → List Statement
  firsts_items = map (λ (k : KnownItems). k.0)

  abbrev differ_of : Statement → Differing
  differ_of = fold-Statement Differing items_step

  body_items_new : (ks : List KnownItems) (all : List (List ℕ)) → all_differ (map differ_of (firsts_items ks)) all ≡ true → (k : Key) → Contains (body_items (map (draft lib processes) (firsts_items ks))) k
      → has_name k.first all ≡ false
  body_items_new [] all h k c = absurd (none_is k c)
  body_items_new (s ∷ ks) all h k c =
      let p = and_parts (differ_of s.0 all) (all_differ (map differ_of (firsts_items ks)) all) h in
      by_case (λ d. body_items_new ks all p.1 k d) (s.1 all p.0 k)
      (Contains-append_cases (draft lib processes s.0).items (body_items (map (draft lib processes) (firsts_items ks))) k c)
    where
      by_case : (Contains (body_items (map (draft lib processes) (firsts_items ks))) k → has_name k.first all ≡ false) → (Contains (draft lib processes s.0).items k → has_name k.first all ≡ false)
          → Contains (draft lib processes s.0).items k ⊎ Contains (body_items (map (draft lib processes) (firsts_items ks))) k → has_name k.first all ≡ false
      by_case rest here (inl d) = here d
      by_case rest here (inr d) = rest d

  layer_items : (y : Statement-F KnownItems) (all : List (List ℕ)) → items_step (map-Statement Statement Differing differ_of (plain_items y)) all ≡ true → (k : Key)
      → Contains (draft_step lib processes (map-Statement Statement Draft (draft lib processes) (plain_items y))).items k → has_name k.first all ≡ false
  layer_items (layer.Decl d) all h k c = absurd (none_is k c)
  layer_items (layer.Call c) all h k d = absurd (none_is k d)
  layer_items (layer.Scatter s) all h k c =
      let p = and_parts (not (has_name s.item all)) (all_differ (map differ_of (firsts_items s.body)) (s.item ∷ all)) h in
      by_case (not-true (has_name s.item all) p.0) (λ d. body_items_new s.body (s.item ∷ all) p.1 k d) (first_or_later (plain_key s.item) (body_items (map (draft lib processes) (firsts_items s.body))) k c)
    where
      by_case : has_name s.item all ≡ false → (Contains (body_items (map (draft lib processes) (firsts_items s.body))) k → has_name k.first (s.item ∷ all) ≡ false)
          → (plain_key s.item ≡ k) ⊎ Contains (body_items (map (draft lib processes) (firsts_items s.body))) k → has_name k.first all ≡ false
      by_case n rest (inl e) = ap (λ (z : Key). has_name z.first all) (sym e) ∙ n
      by_case n rest (inr d) = (or_parts (bytes_eq s.item k.first) (has_name k.first all) (rest d)).1
  layer_items (layer.If i) all h k c = body_items_new i.body all h k c

  -- No item in a statement has a name that is taken.
  pub items_new : (st : Statement) → Items st
  items_new = ind-Statement Items (λ a y is. subst (λ (z : Statement-F Statement). Items (roll-Statement z)) is (λ all h k c.
      layer_items y all (sym (ap (λ (d : Differing). d all) (fold-roll-Statement Differing items_step (plain_items y))) ∙ h) k
      (subst (λ (d : Draft). Contains d.items k) (fold-roll-Statement Draft (draft_step lib processes) (plain_items y)) c)))
