-- Conditions and scatters of the subset, around statements that agree with their steps.
use Rattle.std.proofs.Common.{◌≡◌, ℕ, suc, ◌<◌, ◌≤◌, ◌^◌, ◌+◌, Bool, true, false, cond, not, List, [], ◌∷◌, ◌++◌, map, length, Option, Some, None, option_and_then, Contains, arith, sym, ap, ◌∙◌, subst, refl}
use Rattle.std.proofs.lemmas.Bool.{false≢true, and_parts, not-true, or_from, or_parts}
use Rattle.std.proofs.lemmas.List.Elements.{Contains-append_left, Contains-append_right}
use Rattle.std.proofs.lemmas.Option.{same_Some, none-some}
use Rattle.wdl_base.specs.declared.name.Key.{Key}
use Rattle.wdl_base.specs.declared.span.Span.{Span}
use Rattle.wdl_base.specs.Names.{is_name}
use Rattle.wdl_value.specs.declared.ty.Ty.{Ty, Ty-F, out-Ty, roll-Ty, roll-out-Ty}
use Rattle.wdl_value.specs.declared.ty.Ty.TheOpen as type
use Rattle.wdl_value.specs.declared.ty.Ty.TheVariants as ty
use Rattle.wdl_value.specs.Kinds.{is_bool}
use Rattle.wdl_typed.specs.declared.expr.TExpr.{TExpr}
use Rattle.wdl_typed.specs.declared.flow.Statement.{Statement, Statement-F, map-Statement}
use Rattle.wdl_typed.specs.declared.flow.Statement.TheOpen as layer
use Rattle.wdl_typed.specs.declared.flow.Target.{Target}
use Rattle.wdl_typed.specs.declared.flow.TIf.{TIf}
use Rattle.wdl_typed.specs.declared.flow.TScatter.{TScatter}
use Rattle.wdl_typed.specs.Bodies.{Seen, body_gives, body_nests, body_step, gives, if_over, items_differ, optional, retyped, scatter_over, with_item}
use Rattle.wdl_typed.specs.Declarations.{bound, in_body, plain_key}
use Rattle.wdl_typed.specs.Flow.{Callee, Part, Run, Runner, body_names, body_run, if_run, scatter_run}
use Rattle.wdl_typed.specs.Lists.{has_name}
use Rattle.wdl_typed.specs.Scope.{is_among, same_key, type_in}
use Rattle.flow_soundness.specs.Readiness.{IsNew}
use Rattle.flow_soundness.proofs.Newness.{new_inside}
use Rattle.flow_laws.proofs.Checked.{OutputsDiffer}
use Rattle.cwl_model.specs.declared.process.Process.{Process}
use Rattle.cwl_model.specs.declared.ty.CwlTy.TheVariants as cwl
use Rattle.cwl_model.proofs.Rounds.{first_is}
use Rattle.cwl_image.specs.declared.broken.Broken.{Broken}
use Rattle.cwl_image.specs.Expressions.{are_allowed, is_simple, is_source, refers}
use Rattle.cwl_image.specs.Image.{Draft, Scope, body_links, body_uses, if_draft, inner_scope, item_linkage, keys_of, option_list, outer_uses, reference, scatter_draft, type_of, without}
use Rattle.cwl_image.specs.Named.{all_true, statement_named}
use Rattle.cwl_image.specs.Subset.{block_broken, scatter_at, scatter_over as scatter_walk, body_walk, unless, walk, walk_body}
use Rattle.cwl_laws.specs.Laws.{Simulates}
use Rattle.cwl_laws.specs.Premises.{IsCondition, IsScatter}
use Rattle.cwl_laws.specs.Tools.{ground_of}
use Rattle.cwl_laws.proofs.Conditions.{if_simulates}
use Rattle.cwl_laws.proofs.Covers.{Covers, if_covers, if_within, inner_inputs, outer_in, outer_linked, outer_out, scatter_covers, scatter_inputs, scatter_within}
use Rattle.cwl_laws.proofs.Differ.{NoTypes, body_fresh, keys_differ, no_link}
use Rattle.cwl_laws.proofs.Elements.{none_right}
use Rattle.cwl_laws.proofs.Statements.{AllDone, BodyHere, IsSound, KnownDone, body_done, drafts, inner_is, keys_linked, part, processes, runs}
use Rattle.cwl_laws.proofs.Ids.{blocks_read, id_same, item_apart, when_apart}
use Rattle.cwl_laws.proofs.References.{reads_by}
use Rattle.cwl_laws.proofs.Scatters.{scatter_simulates}
use Rattle.cwl_laws.proofs.Stands.{AreSimple, AreWords, Layer, simple_then, words_then}
use Rattle.cwl_laws.proofs.Steps.{AreNumbered, are_numbered, number_itself}
use Rattle.cwl_laws.proofs.Uses.{HasType}
use Rattle.cwl_laws.proofs.Tools.{both_empty, rule_holds}
use Rattle.cwl_laws.proofs.Typings.{a_bool, array_simple, item_linked, item_simple, level_below, optional_simple, reference_simple, retyped_simple}
use Rattle.wdl_base.proofs.Options.{then_parts}
use Rattle.wdl_flow.proofs.MarkLemmas.{same_key-true as key_same}

lower : (n m d : ℕ) → n ≡ suc m → n ≤ d → m ≤ d
lower n m d e h = omega arith

fewer : (m : ℕ) → 1 + m < 2 ^ 32 → m < 2 ^ 32
fewer m h = omega arith

module _ (r : Run) (callee : Callee) (flows : ℕ → Process) (declared_in : List (List ℕ)) (targets : Target → List Broken) (differ : OutputsDiffer r.library)
    (sound : (st : Statement) → IsSound r callee st) (depth : ℕ) where
  abbrev Kept : Type 0
  Kept = KnownDone r callee flows declared_in targets differ sound depth

  abbrev pub plain : Statement-F Kept → Statement-F Statement
  plain = map-Statement Kept Statement (λ (k : Kept). k.0)

  abbrev pub firsts : List Kept → List Statement
  firsts = map (λ (k : Kept). k.0)

  abbrev Part_ : Statement → Part
  Part_ = part r callee flows declared_in targets differ sound

  abbrev Runs : List Statement → List Runner
  Runs = runs r callee flows declared_in targets differ sound

  abbrev Drafts : List Statement → List Draft
  Drafts = drafts r callee flows declared_in targets differ sound

  abbrev Here : Seen → Seen → Scope → List Statement → Type 0
  Here = AllDone r callee flows declared_in targets differ sound

  -- what a collection or a condition refers to
  block_key : (seen : Seen) (e : TExpr) (span : Span) → block_broken r.library.structs declared_in seen.names e span ≡ [] → (key : Key) × (reference e ≡ Some key) × (are_allowed r.library.structs seen.names e false ≡ true)
  block_key seen e span h =
      let p = both_empty (unless (refers r.library.structs declared_in seen.names e) 603 span) (unless (are_allowed r.library.structs seen.names e false) 606 span) h in
      let q = and_parts (is_source declared_in (reference e)) (are_allowed r.library.structs seen.names e false) (rule_holds (refers r.library.structs declared_in seen.names e) 603 span p.0) in
      by_key (reference e) refl q.0 q.1
    where
      by_key : (o : Option Key) → reference e ≡ o → is_source declared_in o ≡ true → are_allowed r.library.structs seen.names e false ≡ true
          → (key : Key) × (reference e ≡ Some key) × (are_allowed r.library.structs seen.names e false ≡ true)
      by_key None q s a = absurd (false≢true s)
      by_key (Some key) q s a = (key, q, a)

  -- ---- conditions

  module _ (b : TIf Kept) (n : ℕ) (all taken : List (List ℕ)) (seen first : Seen) (scope : Scope) (le : n ≤ depth)
      (l : Layer r.library (processes r callee flows declared_in targets differ sound) declared_in targets n all taken seen first scope (plain (layer.If b))) where
    abbrev Ds : List Draft
    Ds = Drafts (firsts b.body)

    abbrev Outer : List Key
    Outer = outer_uses [] (Drafts (firsts b.body))

    if_rules : (block_broken r.library.structs declared_in seen.names b.cond b.span ≡ []) × ((walk_body r.library declared_in (firsts b.body) seen.names).broken ≡ [])
    if_rules = both_empty (block_broken r.library.structs declared_in seen.names b.cond b.span) (walk_body r.library declared_in (firsts b.body) seen.names).broken l.kept

    if_level : (m : ℕ) × (n ≡ suc m) × (body_nests r.library.flows m (firsts b.body) ≡ true)
    if_level = level_below r.library.flows n (plain (layer.If b)) l.nested refl

    if_new : IsNew all taken seen (firsts b.body)
    if_new = record {
      seen_taken = l.seen_taken;
      taken_all = l.taken_all;
      declared_all = l.declared_all;
      declared_new = l.declared_new;
      items_new = l.items_new;
    }

    if_outer : (k : Key) → Contains (without (keys_of (body_links Ds)) (body_uses Ds)) k → HasType seen.names k
    if_outer k c = l.used k (Contains-append_right (option_list (reference b.cond)) (without (keys_of (body_links Ds)) (body_uses Ds)) k c)

    if_cover : Covers scope seen.names (without (keys_of (body_links Ds)) (body_uses Ds))
    if_cover k t c h = l.covers k t (Contains-append_right (option_list (reference b.cond)) (without (keys_of (body_links Ds)) (body_uses Ds)) k c) h

    if_word : (k : Key) → Contains Outer k → is_name k.first ≡ true
    if_word k c = let t = if_outer k (outer_in [] Ds k c) in l.words k t.0 t.1

    if_numbered : AreNumbered (firsts b.body)
    if_numbered = are_numbered (firsts b.body) l.inside (fewer _ l.few)

    module _ (sb : Seen) (typed : in_body r.library.structs seen.names b.cond ≡ Some ty.Bool) (inside : body_gives r.library (firsts b.body) seen ≡ Some sb) where
      if_fresh : NoTypes seen.names Ds
      if_fresh = body_fresh r.library (processes r callee flows declared_in targets differ sound) declared_in (firsts b.body) seen sb all taken inside if_rules.1 if_new

      if_body : BodyHere r callee flows declared_in targets differ sound if_level.0 all taken seen sb (inner_scope scope Outer) (firsts b.body)
      if_body = record {
        typed = inside;
        kept = if_rules.1;
        called = l.called;
        nested = if_level.2;
        new = if_new;
        named = l.named;
        counted = if_numbered.counted;
        simple = l.simple;
        words = l.words;
        covers = if_covers scope seen.names Ds if_fresh if_outer if_cover;
        within = if_within scope seen.names Ds if_fresh if_outer if_cover;
      }

      if_inside : Here seen sb (inner_scope scope Outer) (firsts b.body)
      if_inside = body_done r callee flows declared_in targets differ sound depth b.body if_level.0 all taken seen sb (inner_scope scope Outer) (lower n if_level.0 depth if_level.1 le) if_body

      if_is : (key : Key) → reference b.cond ≡ Some key → are_allowed r.library.structs seen.names b.cond false ≡ true
          → IsCondition (ground_of r) r.library.structs seen.names scope (body_names (map Part_ (firsts b.body))) (Runs (firsts b.body)) b.number b.cond key Ds
      if_is key refers allowed =
          let c = Contains-append_left (option_list (reference b.cond)) (without (keys_of (body_links Ds)) (body_uses Ds)) key (subst (λ o. Contains (option_list o) key) (sym refers) (first_is key [])) in
          let t = l.used key c in
          let k = l.covers key t.0 c t.1 in
          record {
            inner = inner_is r callee flows declared_in targets differ sound (firsts b.body) if_level.0 all taken seen sb (inner_scope scope Outer) if_body if_numbered if_inside (inner_inputs scope Outer);
            used = outer_linked scope seen.names Ds [] if_outer if_cover;
            ids = λ x y i j e. id_same x y (if_word x i) (if_word y j) e;
            apart = λ x i. when_apart x (if_word x i);
            reads = reads_by r.library.structs seen.names b.cond key ty.Bool refers typed allowed (l.simple key);
            source = (k.0, k.1);
            place = (blocks_read b.number (l.condition b.number (number_itself b.number))).1;
            keys = keys_linked r callee flows declared_in targets differ sound (firsts b.body) if_level.0 all taken seen sb (inner_scope scope Outer) if_body;
          }

    abbrev IfAgrees : Type 0
    IfAgrees =
        Simulates (ground_of r) r.library.structs seen.names scope (if_run (body_names (map Part_ (firsts b.body))) (body_run (map Part_ (firsts b.body))) b.number b.cond) (if_draft b.number b.cond Ds)
        × AreSimple first.names

    if_made : (sb : Seen) → in_body r.library.structs seen.names b.cond ≡ Some ty.Bool → body_gives r.library (firsts b.body) seen ≡ Some sb → retyped optional sb ≡ first → IfAgrees
    if_made sb typed inside same =
        let k = block_key seen b.cond b.span if_rules.0 in (
          if_simulates (ground_of r) r.library.structs seen.names scope (body_names (map Part_ (firsts b.body))) (Runs (firsts b.body)) (length (map Part_ (firsts b.body))) b.number b.cond k.0 Ds
              (if_is sb typed inside k.0 k.1 k.2),
          subst (λ (z : Seen). AreSimple z.names) same (retyped_simple optional optional_simple sb.names (if_inside sb typed inside).simple),
        )

    -- A condition agrees with its step.
    pub if_done : IfAgrees
    if_done =
        let p = then_parts (if_over (body_step (map (gives r.library) (firsts b.body))) seen) (in_body r.library.structs seen.names b.cond) first l.typed in
        by_bool p.0 p.1 (is_bool p.0) refl p.2
      where
        by_bool : (t : Ty) → in_body r.library.structs seen.names b.cond ≡ Some t → (w : Bool) → is_bool t ≡ w
            → cond w (option_and_then (λ s. Some (retyped optional s)) (body_step (map (gives r.library) (firsts b.body)) seen)) None ≡ Some first → IfAgrees
        by_bool t typed false e h = absurd (none-some _ h)
        by_bool t typed true e h =
            let q = then_parts (λ s. Some (retyped optional s)) (body_step (map (gives r.library) (firsts b.body)) seen) first h in
            if_made q.0 (typed ∙ ap Some (a_bool t e)) q.1 (same_Some _ _ q.2)

  -- ---- scatters

  module _ (b : TScatter Kept) (n : ℕ) (all taken : List (List ℕ)) (seen first : Seen) (scope : Scope) (le : n ≤ depth)
      (l : Layer r.library (processes r callee flows declared_in targets differ sound) declared_in targets n all taken seen first scope (plain (layer.Scatter b))) where
    abbrev Sd : List Draft
    Sd = Drafts (firsts b.body)

    abbrev Outside : List Key
    Outside = outer_uses (plain_key b.item ∷ []) (Drafts (firsts b.body))

    scatter_rules : (block_broken r.library.structs declared_in seen.names b.over b.span ≡ [])
        × ((scatter_walk b.item (body_walk (map (walk r.library declared_in) (firsts b.body))) seen.names (in_body r.library.structs seen.names b.over)).broken ≡ [])
    scatter_rules =
        both_empty (block_broken r.library.structs declared_in seen.names b.over b.span)
        (scatter_walk b.item (body_walk (map (walk r.library declared_in) (firsts b.body))) seen.names (in_body r.library.structs seen.names b.over)).broken l.kept

    scatter_level : (m : ℕ) × (n ≡ suc m) × (body_nests r.library.flows m (firsts b.body) ≡ true)
    scatter_level = level_below r.library.flows n (plain (layer.Scatter b)) l.nested refl

    scatter_named : (is_name b.item ≡ true) × (all_true (map statement_named (firsts b.body)) ≡ true)
    scatter_named = and_parts (is_name b.item) (all_true (map statement_named (firsts b.body))) l.named

    item_out : (has_name b.item all ≡ false) × (items_differ (firsts b.body) (b.item ∷ all) ≡ true)
    item_out =
        let p = and_parts (not (has_name b.item all)) (items_differ (firsts b.body) (b.item ∷ all)) l.items_new in
        (not-true (has_name b.item all) p.0, p.1)

    nothing_new : IsNew all taken seen []
    nothing_new = record {
      seen_taken = l.seen_taken;
      taken_all = l.taken_all;
      declared_all = λ name h. absurd (false≢true h);
      declared_new = refl;
      items_new = refl;
    }

    item_new : type_in seen.names (plain_key b.item) ≡ None
    item_new = by_type (type_in seen.names (plain_key b.item)) refl
      where
        by_type : (o : Option Ty) → type_in seen.names (plain_key b.item) ≡ o → type_in seen.names (plain_key b.item) ≡ None
        by_type None e = e
        by_type (Some w) e = absurd (false≢true (sym item_out.0 ∙ l.taken_all b.item (l.seen_taken (plain_key b.item) w e)))

    scatter_outer : (k : Key) → Contains (without (plain_key b.item ∷ keys_of (body_links Sd)) (body_uses Sd)) k → HasType seen.names k
    scatter_outer k c = l.used k (Contains-append_right (option_list (reference b.over)) (without (plain_key b.item ∷ keys_of (body_links Sd)) (body_uses Sd)) k c)

    scatter_cover : Covers scope seen.names (without (plain_key b.item ∷ keys_of (body_links Sd)) (body_uses Sd))
    scatter_cover k t c h = l.covers k t (Contains-append_right (option_list (reference b.over)) (without (plain_key b.item ∷ keys_of (body_links Sd)) (body_uses Sd)) k c) h

    scatter_word : (k : Key) → Contains Outside k → is_name k.first ≡ true
    scatter_word k c = let t = scatter_outer k (outer_in (plain_key b.item ∷ []) Sd k c) in l.words k t.0 t.1

    scatter_numbered : AreNumbered (firsts b.body)
    scatter_numbered = are_numbered (firsts b.body) l.inside (fewer _ l.few)

    one_type : (u : Ty) (k : Key) (w : Bool) → same_key (plain_key b.item) k ≡ w → type_in (bound b.item u ∷ []) k ≡ None → w ≡ false
    one_type u k false e h = refl
    one_type u k true e h = absurd (none-some _ (sym h ∙ ap (λ c. cond c (Some u) None) e))

    item_type : (u : Ty) (k : Key) (t : Ty) (w : Bool) → same_key (plain_key b.item) k ≡ w → type_in (bound b.item u ∷ []) k ≡ Some t → (plain_key b.item ≡ k) × (u ≡ t)
    item_type u k t true e h = (key_same (plain_key b.item) k e, same_Some _ _ (sym (ap (λ c. cond c (Some u) None) e) ∙ h))
    item_type u k t false e h = absurd (none-some _ (sym (ap (λ c. cond c (Some u) None) e) ∙ h))

    module _ (u : Ty) (some : Bool) (sb : Seen) (typed : in_body r.library.structs seen.names b.over ≡ Some (ty.Array u some)) (inside : body_gives r.library (firsts b.body) (with_item seen b.item u) ≡ Some sb)
        (kept : (walk_body r.library declared_in (firsts b.body) (seen.names ++ bound b.item u ∷ [])).broken ≡ []) (key : Key) (refers_ : reference b.over ≡ Some key)
        (allowed : are_allowed r.library.structs seen.names b.over false ≡ true) where
      abbrev Inner : Scope
      Inner = item_linkage scope b.item b.over ∷ inner_scope scope (outer_uses (plain_key b.item ∷ []) (Drafts (firsts b.body)))

      abbrev There : Seen
      There = with_item seen b.item u

      scatter_new : IsNew (b.item ∷ all) (taken ++ b.item ∷ []) (with_item seen b.item u) (firsts b.body)
      scatter_new = new_inside all taken seen b.item u (firsts b.body) item_out.0 item_out.1 nothing_new l.declared_all l.declared_new

      scatter_fresh : NoTypes (seen.names ++ bound b.item u ∷ []) Sd
      scatter_fresh = body_fresh r.library (processes r callee flows declared_in targets differ sound) declared_in (firsts b.body) There sb (b.item ∷ all) (taken ++ b.item ∷ []) inside kept scatter_new

      key_used : Contains (option_list (reference b.over) ++ without (plain_key b.item ∷ keys_of (body_links Sd)) (body_uses Sd)) key
      key_used =
          Contains-append_left (option_list (reference b.over)) (without (plain_key b.item ∷ keys_of (body_links Sd)) (body_uses Sd)) key
          (subst (λ o. Contains (option_list o) key) (sym refers_) (first_is key []))

      of_item : (item_linkage scope b.item b.over).ty ≡ type_of u
      of_item = item_linked r.library.structs scope seen.names b.item b.over key u some refers_ typed (λ t h. l.covers key t key_used h)

      item_is_simple : AreSimple (bound b.item u ∷ [])
      item_is_simple k t h =
          ap is_simple (sym (item_type u k t (same_key (plain_key b.item) k) refl h).1)
          ∙ item_simple u some (reference_simple r.library.structs seen.names b.over key (ty.Array u some) refers_ typed allowed l.simple)

      item_is_word : AreWords (bound b.item u ∷ [])
      item_is_word k t h = subst (λ (z : Key). is_name z.first ≡ true) (item_type u k t (same_key (plain_key b.item) k) refl h).0 scatter_named.0

      scatter_body : BodyHere r callee flows declared_in targets differ sound scatter_level.0 (b.item ∷ all) (taken ++ b.item ∷ []) There sb Inner (firsts b.body)
      scatter_body = record {
        typed = inside;
        kept = kept;
        called = l.called;
        nested = scatter_level.2;
        new = scatter_new;
        named = scatter_named.1;
        counted = scatter_numbered.counted;
        simple = simple_then seen.names (bound b.item u ∷ []) l.simple item_is_simple;
        words = words_then seen.names (bound b.item u ∷ []) l.words item_is_word;
        covers = scatter_covers scope seen.names Sd b.item b.over u item_new scatter_fresh scatter_outer scatter_cover of_item;
        within = scatter_within scope seen.names Sd b.item b.over u item_new scatter_fresh scatter_outer scatter_cover of_item;
      }

      scatter_inside : Here There sb Inner (firsts b.body)
      scatter_inside =
          body_done r callee flows declared_in targets differ sound depth b.body scatter_level.0 (b.item ∷ all) (taken ++ b.item ∷ []) There sb Inner (lower n scatter_level.0 depth scatter_level.1 le) scatter_body

      scatter_is : IsScatter (ground_of r) r.library.structs seen.names scope (body_names (map Part_ (firsts b.body))) (Runs (firsts b.body)) b.number b.item b.over key u some Sd
      scatter_is =
          let t = l.used key key_used in
          let k = l.covers key t.0 key_used t.1 in
          record {
            inner =
                inner_is r callee flows declared_in targets differ sound (firsts b.body) scatter_level.0 (b.item ∷ all) (taken ++ b.item ∷ []) There sb Inner scatter_body scatter_numbered scatter_inside
                (scatter_inputs scope seen.names Sd b.item b.over u item_new scatter_fresh scatter_outer scatter_cover of_item);
            used = outer_linked scope seen.names Sd (plain_key b.item ∷ []) scatter_outer scatter_cover;
            ids = λ x y i j e. id_same x y (scatter_word x i) (scatter_word y j) e;
            apart = λ x i.
                item_apart b.item x scatter_named.0 (scatter_word x i)
                (or_parts (same_key (plain_key b.item) x) (is_among x (keys_of (body_links Sd))) (outer_out (plain_key b.item ∷ []) Sd x i)).0;
            differs =
                keys_differ (record { key = plain_key b.item; id = b.item; ty = cwl.Str } ∷ []) (seen.names ++ bound b.item u ∷ [])
                (λ x h. or_from (same_key (plain_key b.item) x) false (one_type u x (same_key (plain_key b.item) x) refl (none_right seen.names (bound b.item u ∷ []) x h)) refl) Sd scatter_fresh;
            outs = λ m c. one_type u m.key (same_key (plain_key b.item) m.key) refl (none_right seen.names (bound b.item u ∷ []) m.key (no_link (seen.names ++ bound b.item u ∷ []) Sd scatter_fresh m c));
            new = item_new;
            reads = reads_by r.library.structs seen.names b.over key (ty.Array u some) refers_ typed allowed (l.simple key);
            source = (k.0, k.1);
            ty = of_item;
            place = (blocks_read b.number (l.scatter b.number (number_itself b.number))).0;
            keys = keys_linked r callee flows declared_in targets differ sound (firsts b.body) scatter_level.0 (b.item ∷ all) (taken ++ b.item ∷ []) There sb Inner scatter_body;
          }

    abbrev ScatterAgrees : Type 0
    ScatterAgrees =
        Simulates (ground_of r) r.library.structs seen.names scope (scatter_run (body_names (map Part_ (firsts b.body))) (body_run (map Part_ (firsts b.body))) b.number b.item b.over) (scatter_draft b.number b.item b.over Sd)
        × AreSimple first.names

    scatter_made : (u : Ty) (some : Bool) (sb : Seen) → in_body r.library.structs seen.names b.over ≡ Some (ty.Array u some) → body_gives r.library (firsts b.body) (with_item seen b.item u) ≡ Some sb
        → retyped (λ t. ty.Array t some) sb ≡ first → (walk_body r.library declared_in (firsts b.body) (seen.names ++ bound b.item u ∷ [])).broken ≡ [] → ScatterAgrees
    scatter_made u some sb typed inside same kept =
        let k = block_key seen b.over b.span scatter_rules.0 in (
          scatter_simulates (ground_of r) r.library.structs seen.names scope (body_names (map Part_ (firsts b.body))) (Runs (firsts b.body)) (length (map Part_ (firsts b.body))) b.number b.item b.over k.0 u some Sd
              (scatter_is u some sb typed inside kept k.0 k.1 k.2),
          subst (λ (z : Seen). AreSimple z.names) same
              (retyped_simple (λ t. ty.Array t some) (λ t h. array_simple t some h) sb.names (scatter_inside u some sb typed inside kept k.0 k.1 k.2).simple),
        )

    -- A scatter agrees with its step.
    pub scatter_done : ScatterAgrees
    scatter_done =
        let p = then_parts (λ t. scatter_over b.item (body_step (map (gives r.library) (firsts b.body))) seen (out-Ty t)) (in_body r.library.structs seen.names b.over) first l.typed in
        by_layer p.0 p.1 (out-Ty p.0) refl p.2
      where
        by_layer : (t : Ty) → in_body r.library.structs seen.names b.over ≡ Some t → (z : Ty-F Ty) → out-Ty t ≡ z → scatter_over b.item (body_step (map (gives r.library) (firsts b.body))) seen z ≡ Some first → ScatterAgrees
        by_layer t typed (type.Array u some) e h =
            let q = then_parts (λ s. Some (retyped (λ w. ty.Array w some) s)) (body_step (map (gives r.library) (firsts b.body)) (with_item seen b.item u)) first h in
            let array : t ≡ ty.Array u some = sym (roll-out-Ty t) ∙ ap roll-Ty e ∙ ty.rolls-Array u some in
            let walked : (scatter_at b.item (body_walk (map (walk r.library declared_in) (firsts b.body))) seen.names (type.Array u some)).broken ≡ [] =
            ap (λ w. (scatter_at b.item (body_walk (map (walk r.library declared_in) (firsts b.body))) seen.names w).broken) (sym e)
            ∙ ap (λ o. (scatter_walk b.item (body_walk (map (walk r.library declared_in) (firsts b.body))) seen.names o).broken) (sym typed) ∙ scatter_rules.1 in
            scatter_made u some q.0 (typed ∙ ap Some array) q.1 (same_Some _ _ q.2) walked
        by_layer t typed z e h = absurd (none-some _ h)
