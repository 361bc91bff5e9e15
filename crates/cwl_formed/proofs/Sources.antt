-- The sources of the steps of a body of the subset.
use Rattle.std.proofs.Common.{◌≡◌, ℕ, ◌⊎◌, inl, inr, Bool, true, false, cond, ◌&&◌, List, [], ◌∷◌, ◌++◌, map, Option, Some, None, option_and_then, Contains, sym, ap, ◌∙◌, subst, refl}
use Rattle.std.proofs.lemmas.Bool.{false≢true, and_parts}
use Rattle.std.proofs.lemmas.List.Elements.{Contains-append_right}
use Rattle.std.proofs.lemmas.Option.{none-some}
use Rattle.wdl_base.specs.declared.name.Key.{Key}
use Rattle.wdl_base.specs.Names.{is_name}
use Rattle.wdl_value.specs.declared.ty.Ty.{Ty, Ty-F, out-Ty}
use Rattle.wdl_value.specs.declared.ty.Ty.TheOpen as type
use Rattle.wdl_value.specs.declared.ty.Ty.TheVariants as ty
use Rattle.wdl_value.specs.Kinds.{is_bool}
use Rattle.wdl_typed.specs.declared.flow.Statement.{Statement, Statement-F, fold-Statement, fold-roll-Statement, ind-Statement, map-Statement, roll-Statement}
use Rattle.wdl_typed.specs.declared.flow.Statement.TheOpen as layer
use Rattle.wdl_typed.specs.declared.flow.Target.{Target}
use Rattle.wdl_typed.specs.declared.flow.TIf.{TIf}
use Rattle.wdl_typed.specs.declared.flow.TScatter.{TScatter}
use Rattle.wdl_typed.specs.declared.scope.Bound.{Bound}
use Rattle.wdl_typed.specs.declared.task.TDecl.{TDecl}
use Rattle.wdl_typed.specs.Bodies.{Giving, Library, Seen, Signature, arg_names, body_gives, body_step, gives, if_over, joined, optional, retyped, scatter_over, signature, statement_step, with_item}
use Rattle.wdl_typed.specs.Declarations.{bound, decl_names, in_body, plain_key}
use Rattle.wdl_typed.specs.Scope.{same_key, type_in}
use Rattle.cwl_model.specs.declared.process.CwlStep.{CwlStep}
use Rattle.cwl_model.specs.declared.process.FlowOut.{FlowOut}
use Rattle.cwl_model.specs.declared.process.Process.{Process}
use Rattle.cwl_model.specs.declared.tool.CwlIn.{CwlIn}
use Rattle.cwl_model.specs.declared.ty.CwlTy.{CwlTy}
use Rattle.cwl_model.proofs.Rounds.{none_is}
use Rattle.cwl_image.specs.declared.broken.Broken.{Broken}
use Rattle.cwl_image.specs.Expressions.{are_allowed, is_simple}
use Rattle.cwl_image.specs.Image.{Draft, Linkage, Output, Scope, Targets, block_out, block_output, body_links, body_steps, body_uses, call_output, draft, draft_step, id_of, inner_linkage, inner_scope, input_of, item_linkage, keys_of, linkage_of, links_of, list_type, null_type, option_list, outer_uses, reference, signature_outputs, step_of, when_input, without}
use Rattle.cwl_image.specs.Named.{all_true, are_names, named_step, statement_named}
use Rattle.cwl_image.specs.Subset.{Walk, block_broken, body_walk, called_broken, called_step, scatter_at, scatter_over as scatter_walk, unless, walk, walk_body, walk_step}
use Rattle.cwl_laws.specs.Parts.{OutsTyped}
use Rattle.cwl_laws.proofs.Covers.{by_side, outer_in}
use Rattle.cwl_laws.proofs.Elements.{map_has, out_back}
use Rattle.cwl_laws.proofs.Splits.{split}
use Rattle.cwl_laws.proofs.Tools.{both_empty, rule_holds}
use Rattle.cwl_laws.proofs.Uses.{HasType, statement_wires, uses_typed}
use Rattle.cwl_emit.specs.Formed.{input_formed, lacks}
use Rattle.cwl_formed.specs.Plain.{input_plain}
use Rattle.cwl_formed.proofs.Lists.{all_at, either_side, first_or_rest, map_takes}
use Rattle.cwl_formed.proofs.Processes.{AreClear, Forms, IsClear, StepForms, flow_kept, step_kept}
use Rattle.cwl_formed.proofs.Slashes.{if_lacks, name_lacks, output_lacks, scatter_lacks}
use Rattle.wdl_base.proofs.Options.{then_parts}
use Rattle.wdl_flow.proofs.MarkLemmas.{same_key-true as key_same}

-- the ids of these names have no slash
abbrev pub Slashless : List Bound → Type 0
Slashless names = (k : Key) → HasType names k → lacks 47 (id_of k) ≡ true

-- the step of a statement
record Fine (d : Draft) : Type 0 where
  pub id : lacks 47 d.id ≡ true
  pub outs : (o : Output) → Contains d.outs o → lacks 47 (id_of o.key) ≡ true
  pub run : (scope : Scope) → AreClear scope → Forms (d.run scope)

abbrev LinkFine : Linkage → Type 0
LinkFine l = IsClear l.link × (lacks 47 (id_of l.key) ≡ true)

-- the steps of a body
pub record BodyFine (ds : List Draft) (scope : Scope) : Type 0 where
  pub steps : (s : CwlStep Process) → Contains (body_steps ds scope) s → StepForms s
  pub links : (l : Linkage) → Contains (body_links ds) l → IsClear l.link × (lacks 47 (id_of l.key) ≡ true)

links_fine : (d : Draft) → Fine d → (l : Linkage) → Contains (links_of d) l → LinkFine l
links_fine d f l c =
    let r = map_has Output Linkage (linkage_of d.id) d.outs l c in
    subst LinkFine r.2 (f.id, f.outs r.0 r.1)

known_then : (names bs : List Bound) (d : Draft) → OutsTyped d.outs bs → Fine d → Slashless names → Slashless (names ++ bs)
known_then names bs d outs f known k h = by_case (by_side names bs k h.0 h.1)
  where
    by_case : (type_in names k ≡ Some h.0) ⊎ ((type_in names k ≡ None) × (type_in bs k ≡ Some h.0)) → lacks 47 (id_of k) ≡ true
    by_case (inl q) = known k (h.0, q)
    by_case (inr q) = let r = out_back d.outs bs outs k (h.0, q.1) in subst (λ (z : Key). lacks 47 (id_of z) ≡ true) r.2 (f.outs r.0 r.1)

item_then : (names : List Bound) (item : List ℕ) (u : Ty) → is_name item ≡ true → Slashless names → Slashless (names ++ bound item u ∷ [])
item_then names item u word known k h = by_case (by_side names (bound item u ∷ []) k h.0 h.1)
  where
    by_test : (b : Bool) → same_key (plain_key item) k ≡ b → cond b (Some u) None ≡ Some h.0 → lacks 47 (id_of k) ≡ true
    by_test true e q = subst (λ (z : Key). lacks 47 (id_of z) ≡ true) (key_same (plain_key item) k e) (name_lacks item word)
    by_test false e q = absurd (none-some _ q)

    by_case : (type_in names k ≡ Some h.0) ⊎ ((type_in names k ≡ None) × (type_in (bound item u ∷ []) k ≡ Some h.0)) → lacks 47 (id_of k) ≡ true
    by_case (inl q) = known k (h.0, q)
    by_case (inr q) = by_test (same_key (plain_key item) k) refl q.1

call_outs : (call : List ℕ) (o : Option Signature) → is_name call ≡ true → ((s : Signature) → o ≡ Some s → are_names (decl_names s.outputs) ≡ true) → (z : Output) → Contains (signature_outputs call o) z → lacks 47 (id_of z.key) ≡ true
call_outs call None w names z c = absurd (none_is z c)
call_outs call (Some s) w names z c =
    let r = map_has TDecl Output (call_output call) s.outputs z c in
    subst (λ (y : Output). lacks 47 (id_of y.key) ≡ true) r.2
    (output_lacks call r.0.name w (all_at is_name (decl_names s.outputs) (names s refl) r.0.name (map_takes (λ (d : TDecl). d.name) s.outputs r.0 r.1)))

-- ---- blocks

input_same : (ls : Scope) (i : CwlIn) → Contains (map input_of ls) i → input_plain i ≡ true → input_formed i ≡ true
input_same ls i c = let r = map_has Linkage CwlIn input_of ls i c in subst (λ (z : CwlIn). input_plain z ≡ true → input_formed z ≡ true) r.2 (λ h. h)

outs_clear : (ls : Scope) → ((l : Linkage) → Contains ls l → LinkFine l) → (o : FlowOut) → Contains (map block_out ls) o → IsClear o.source
outs_clear ls fine o c = let r = map_has Linkage FlowOut block_out ls o c in subst (λ (z : FlowOut). IsClear z.source) r.2 (fine r.0 r.1).0

outs_lack : (f : CwlTy → CwlTy) (ls : Scope) → ((l : Linkage) → Contains ls l → LinkFine l) → (o : Output) → Contains (map (block_output f) ls) o → lacks 47 (id_of o.key) ≡ true
outs_lack f ls fine o c = let r = map_has Linkage Output (block_output f) ls o c in subst (λ (z : Output). lacks 47 (id_of z.key) ≡ true) r.2 (fine r.0 r.1).1

inner_clear : (scope : Scope) (us : List Key) → ((k : Key) → Contains us k → lacks 47 (id_of k) ≡ true) → AreClear (inner_scope scope us)
inner_clear scope us h l c = let r = map_has Key Linkage (inner_linkage scope) us l c in subst (λ (z : Linkage). IsClear z.link) r.2 (h r.0 r.1)

nothing_clear : AreClear []
nothing_clear l c = absurd (none_is l c)

-- ---- statements

module _ (lib : Library) (processes : Targets) (declared : List (List ℕ)) (targets : Target → List Broken) (made : (t : Target) → targets t ≡ [] → Forms (processes t))
    (outputs : (t : Target) (s : Signature) → signature lib t ≡ Some s → are_names (decl_names s.outputs) ≡ true) where
  abbrev called_of : Statement → List Broken
  called_of = fold-Statement (List Broken) (called_step targets)

  abbrev Holds : Statement → Type 0
  Holds st =
      (seen given : Seen) → gives lib st seen ≡ Some given → (walk lib declared st seen.names).broken ≡ [] → called_of st ≡ [] → statement_named st ≡ true → Slashless seen.names → Fine (draft lib processes st)

  abbrev KnownHolds : Type 0
  KnownHolds = (st : Statement) × Holds st

  abbrev plain : Statement-F KnownHolds → Statement-F Statement
  plain = map-Statement KnownHolds Statement (λ (k : KnownHolds). k.0)

  abbrev firsts : List KnownHolds → List Statement
  firsts = map (λ (k : KnownHolds). k.0)

  abbrev drafts : List KnownHolds → List Draft
  drafts ks = map (draft lib processes) (firsts ks)

  body_fine : (ks : List KnownHolds) (seen g : Seen) → body_gives lib (firsts ks) seen ≡ Some g → (walk_body lib declared (firsts ks) seen.names).broken ≡ [] → called_broken targets (firsts ks) ≡ []
      → all_true (map statement_named (firsts ks)) ≡ true → Slashless seen.names → (scope : Scope) → AreClear scope → BodyFine (drafts ks) scope
  body_fine [] seen g typed kept called named known scope clear = record { steps = λ s c. absurd (none_is s c); links = λ l c. absurd (none_is l c) }
  body_fine (k ∷ ks) seen g typed kept called named known scope clear =
      let d = draft lib processes k.0 in
      let s = split lib processes declared k.0 (firsts ks) seen g typed kept in
      let b = both_empty (called_of k.0) (called_broken targets (firsts ks)) called in
      let n = and_parts (statement_named k.0) (all_true (map statement_named (firsts ks))) named in
      let f = k.1 seen s.first s.typed s.kept b.0 n.0 known in
      let links = links_fine d f in
      let after = either_side (λ (l : Linkage). IsClear l.link) scope (links_of d) clear (λ l c. (links l c).0) in
      let rest = body_fine ks (joined seen s.first) s.rest s.more s.kept_more b.1 n.1 (known_then seen.names s.first.names d s.outs f known) (scope ++ links_of d) after in
      record {
        steps = first_or_rest StepForms (step_of d scope) (body_steps (drafts ks) (scope ++ links_of d)) (step_kept d scope (statement_wires lib processes declared k.0) clear (f.run scope clear)) rest.steps;
        links = either_side LinkFine (links_of d) (body_links (drafts ks)) links rest.links;
      }

  -- ---- scatters

  module _ (b : TScatter KnownHolds) (seen given : Seen) (kept : (walk_step lib declared (map-Statement Statement Walk (walk lib declared) (plain (layer.Scatter b))) seen.names).broken ≡ [])
      (called : called_broken targets (firsts b.body) ≡ []) (named : (is_name b.item && all_true (map statement_named (firsts b.body))) ≡ true) (known : Slashless seen.names)
      (used : (k : Key) → Contains (draft_step lib processes (map-Statement Statement Draft (draft lib processes) (plain (layer.Scatter b)))).uses k → HasType seen.names k) where
    abbrev Sd : List Draft
    Sd = drafts b.body

    scatter_body : (scope : Scope) → AreClear scope → (u : Ty) (g : Seen) → body_gives lib (firsts b.body) (with_item seen b.item u) ≡ Some g
        → (walk_body lib declared (firsts b.body) (seen.names ++ bound b.item u ∷ [])).broken ≡ [] → BodyFine Sd scope
    scatter_body scope clear u g inside walked =
        let n = and_parts (is_name b.item) (all_true (map statement_named (firsts b.body))) named in
        body_fine b.body (with_item seen b.item u) g inside walked called n.1 (item_then seen.names b.item u n.0 known) scope clear

    abbrev Inner : Scope → Scope
    Inner scope = item_linkage scope b.item b.over ∷ inner_scope scope (outer_uses (plain_key b.item ∷ []) (drafts b.body))

    inner_is_clear : (scope : Scope) → AreClear (Inner scope)
    inner_is_clear scope =
        first_or_rest (λ (l : Linkage). IsClear l.link) (item_linkage scope b.item b.over) (inner_scope scope (outer_uses (plain_key b.item ∷ []) Sd))
        (name_lacks b.item (and_parts (is_name b.item) (all_true (map statement_named (firsts b.body))) named).0)
        (inner_clear scope (outer_uses (plain_key b.item ∷ []) Sd) (λ k c. known k (used k
        (Contains-append_right (option_list (reference b.over)) (without (plain_key b.item ∷ keys_of (body_links Sd)) (body_uses Sd)) k (outer_in (plain_key b.item ∷ []) Sd k c)))))

    scatter_fine : (u : Ty) (g : Seen) → body_gives lib (firsts b.body) (with_item seen b.item u) ≡ Some g → (walk_body lib declared (firsts b.body) (seen.names ++ bound b.item u ∷ [])).broken ≡ []
        → Fine (draft_step lib processes (map-Statement Statement Draft (draft lib processes) (plain (layer.Scatter b))))
    scatter_fine u g inside walked =
        record {
          id = scatter_lacks b.number;
          outs = outs_lack list_type (body_links Sd) (scatter_body [] nothing_clear u g inside walked).links;
          run = λ scope clear.
              let body = scatter_body (Inner scope) (inner_is_clear scope) u g inside walked in
              flow_kept (map input_of (Inner scope)) (map block_out (body_links Sd)) (body_steps Sd (Inner scope)) (input_same (Inner scope)) (outs_clear (body_links Sd) body.links) body.steps;
        }

    scatter_holds : statement_step lib (map-Statement Statement Giving (gives lib) (plain (layer.Scatter b))) seen ≡ Some given
        → Fine (draft_step lib processes (map-Statement Statement Draft (draft lib processes) (plain (layer.Scatter b))))
    scatter_holds typed =
        let p = then_parts (λ t. scatter_over b.item (body_step (map (gives lib) (firsts b.body))) seen (out-Ty t)) (in_body lib.structs seen.names b.over) given typed in
        by_layer p.0 p.1 (out-Ty p.0) refl p.2
      where
        rules : (scatter_walk b.item (body_walk (map (walk lib declared) (firsts b.body))) seen.names (in_body lib.structs seen.names b.over)).broken ≡ []
        rules = (both_empty (block_broken lib.structs declared seen.names b.over b.span) (scatter_walk b.item (body_walk (map (walk lib declared) (firsts b.body))) seen.names (in_body lib.structs seen.names b.over)).broken kept).1

        by_layer : (t : Ty) → in_body lib.structs seen.names b.over ≡ Some t → (z : Ty-F Ty) → out-Ty t ≡ z → scatter_over b.item (body_step (map (gives lib) (firsts b.body))) seen z ≡ Some given
            → Fine (draft_step lib processes (map-Statement Statement Draft (draft lib processes) (plain (layer.Scatter b))))
        by_layer t is (type.Array u some) e h =
            let q = then_parts (λ s. Some (retyped (λ w. ty.Array w some) s)) (body_step (map (gives lib) (firsts b.body)) (with_item seen b.item u)) given h in
            scatter_fine u q.0 q.1
            (ap (λ w. (scatter_at b.item (body_walk (map (walk lib declared) (firsts b.body))) seen.names w).broken) (sym e)
            ∙ ap (λ o. (scatter_walk b.item (body_walk (map (walk lib declared) (firsts b.body))) seen.names o).broken) (sym is) ∙ rules)
        by_layer t is z e h = absurd (none-some _ h)

  -- ---- conditions

  module _ (b : TIf KnownHolds) (seen given : Seen) (kept : (walk_step lib declared (map-Statement Statement Walk (walk lib declared) (plain (layer.If b))) seen.names).broken ≡ [])
      (called : called_broken targets (firsts b.body) ≡ []) (named : all_true (map statement_named (firsts b.body)) ≡ true) (known : Slashless seen.names)
      (used : (k : Key) → Contains (draft_step lib processes (map-Statement Statement Draft (draft lib processes) (plain (layer.If b)))).uses k → HasType seen.names k) where
    abbrev Ds : List Draft
    Ds = drafts b.body

    abbrev Within : Scope → Scope
    Within scope = inner_scope scope (outer_uses [] (drafts b.body))

    within_clear : (scope : Scope) → AreClear (Within scope)
    within_clear scope =
        inner_clear scope (outer_uses [] Ds) (λ k c. known k (used k (Contains-append_right (option_list (reference b.cond)) (without (keys_of (body_links Ds)) (body_uses Ds)) k (outer_in [] Ds k c))))

    if_fine : (g : Seen) → body_gives lib (firsts b.body) seen ≡ Some g → Fine (draft_step lib processes (map-Statement Statement Draft (draft lib processes) (plain (layer.If b))))
    if_fine g inside =
        let walked = (both_empty (block_broken lib.structs declared seen.names b.cond b.span) (walk_body lib declared (firsts b.body) seen.names).broken kept).1 in
        let body = λ (scope : Scope) (clear : AreClear scope). body_fine b.body seen g inside walked called named known scope clear in
        record {
          id = if_lacks b.number;
          outs = outs_lack null_type (body_links Ds) (body [] nothing_clear).links;
          run = λ scope clear.
              let inner = body (Within scope) (within_clear scope) in
              flow_kept (when_input ∷ map input_of (Within scope)) (map block_out (body_links Ds)) (body_steps Ds (Within scope))
              (first_or_rest (λ (i : CwlIn). input_plain i ≡ true → input_formed i ≡ true) when_input (map input_of (Within scope)) (λ h. h) (input_same (Within scope))) (outs_clear (body_links Ds) inner.links) inner.steps;
        }

    if_holds : statement_step lib (map-Statement Statement Giving (gives lib) (plain (layer.If b))) seen ≡ Some given → Fine (draft_step lib processes (map-Statement Statement Draft (draft lib processes) (plain (layer.If b))))
    if_holds typed =
        let p = then_parts (if_over (body_step (map (gives lib) (firsts b.body))) seen) (in_body lib.structs seen.names b.cond) given typed in
        by_bool (is_bool p.0) p.2
      where
        by_bool : (w : Bool) → cond w (option_and_then (λ s. Some (retyped optional s)) (body_step (map (gives lib) (firsts b.body)) seen)) None ≡ Some given
            → Fine (draft_step lib processes (map-Statement Statement Draft (draft lib processes) (plain (layer.If b))))
        by_bool false h = absurd (none-some _ h)
        by_bool true h = let q = then_parts (λ s. Some (retyped optional s)) (body_step (map (gives lib) (firsts b.body)) seen) given h in if_fine q.0 q.1

  -- ---- each form

  layer_holds : (y : Statement-F KnownHolds) (seen given : Seen) → statement_step lib (map-Statement Statement Giving (gives lib) (plain y)) seen ≡ Some given
      → (walk_step lib declared (map-Statement Statement Walk (walk lib declared) (plain y)) seen.names).broken ≡ [] → called_step targets (map-Statement Statement (List Broken) called_of (plain y)) ≡ []
      → named_step (map-Statement Statement Bool statement_named (plain y)) ≡ true → Slashless seen.names
      → ((k : Key) → Contains (draft_step lib processes (map-Statement Statement Draft (draft lib processes) (plain y))).uses k → HasType seen.names k)
      → Fine (draft_step lib processes (map-Statement Statement Draft (draft lib processes) (plain y)))
  layer_holds (layer.Decl d) seen given h w c n known used =
      absurd (false≢true (rule_holds false 602 d.span (both_empty (unless (is_simple d.ty) 605 d.span ++ unless (are_allowed lib.structs seen.names d.value false) 606 d.span) (unless false 602 d.span) w).1))
  layer_holds (layer.Call c) seen given h w called n known used =
      let word = (and_parts (is_name c.name) (are_names (arg_names c.args)) n).0 in
      record { id = name_lacks c.name word; outs = call_outs c.name (signature lib c.target) word (outputs c.target); run = λ scope clear. made c.target called }
  layer_holds (layer.Scatter b) seen given h w c n known used = scatter_holds b seen given w c n known used h
  layer_holds (layer.If b) seen given h w c n known used = if_holds b seen given w c n known used h

  holds : (st : Statement) → Holds st
  holds = ind-Statement Holds (λ a y is. subst (λ (z : Statement-F Statement). Holds (roll-Statement z)) is (λ seen given h w c n known.
      let drawn = fold-roll-Statement Draft (draft_step lib processes) (plain y) in
      subst Fine (sym drawn)
      (layer_holds y seen given (sym (ap (λ (g : Giving). g seen) (fold-roll-Statement Giving (statement_step lib) (plain y))) ∙ h)
      (sym (ap (λ (g : Walk). (g seen.names).broken) (fold-roll-Statement Walk (walk_step lib declared) (plain y))) ∙ w) (sym (fold-roll-Statement (List Broken) (called_step targets) (plain y)) ∙ c)
      (sym (fold-roll-Statement Bool named_step (plain y)) ∙ n) known
      (λ k d. uses_typed lib processes declared (roll-Statement (plain y)) seen given h w k (subst (λ (z : Draft). Contains z.uses k) (sym drawn) d)))))

  firsts_known : (ss : List Statement) → firsts (map (λ (st : Statement). (st, holds st)) ss) ≡ ss
  firsts_known [] = refl
  firsts_known (st ∷ ss) = ap (λ (zs : List Statement). st ∷ zs) (firsts_known ss)

  abbrev BodyHolds : List Statement → Type 0
  BodyHolds ss =
      (seen g : Seen) → body_gives lib ss seen ≡ Some g → (walk_body lib declared ss seen.names).broken ≡ [] → called_broken targets ss ≡ [] → all_true (map statement_named ss) ≡ true
      → Slashless seen.names → (scope : Scope) → AreClear scope → BodyFine (map (draft lib processes) ss) scope

  -- The steps of a body that is well typed and keeps the rules.
  pub body_is_fine : (ss : List Statement) → BodyHolds ss
  body_is_fine ss = subst BodyHolds (firsts_known ss) (body_fine (map (λ (st : Statement). (st, holds st)) ss))
