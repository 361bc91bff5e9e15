-- What the walk over statements gives out and leaves.
use Rattle.std.proofs.Common.{◌≡◌, ℕ, Bool, true, false, cond, ◌||◌, List, [], ◌∷◌, ◌++◌, append-nil, append_assoc, map, Option, Some, None, option_and_then, sym, ap, ◌∙◌, subst, refl}
use Rattle.std.specs.Str.{bytes_eq}
use Rattle.std.proofs.lemmas.Bool.{false≢true}
use Rattle.wdl_value.specs.declared.ty.Ty.{Ty, Ty-F, out-Ty}
use Rattle.wdl_value.specs.declared.ty.Ty.TheOpen as type
use Rattle.wdl_value.specs.declared.ty.Ty.TheVariants as ty
use Rattle.wdl_value.specs.Kinds.{is_bool}
use Rattle.wdl_typed.specs.declared.expr.TExpr.{TExpr}
use Rattle.wdl_typed.specs.declared.flow.Statement.{Statement, Statement-F, fold-roll-Statement, ind-Statement, map-Statement, roll-Statement}
use Rattle.wdl_typed.specs.declared.flow.Statement.TheOpen as layer
use Rattle.wdl_typed.specs.declared.flow.Statement.TheVariants as statement
use Rattle.wdl_typed.specs.declared.flow.TCall.{TCall}
use Rattle.wdl_typed.specs.declared.flow.TIf.{TIf}
use Rattle.wdl_typed.specs.declared.flow.TScatter.{TScatter}
use Rattle.wdl_typed.specs.declared.scope.Bound.{Bound}
use Rattle.wdl_typed.specs.declared.task.TDecl.{TDecl}
use Rattle.wdl_typed.specs.Bodies.{Giving, Seen, all_declared, append_all as all_names, body_gives, body_step, call_by, declared, gives, if_over, joined, names_step, optional, retyped, scatter_over as typed_over, signature, statement_step, with_item}
use Rattle.wdl_typed.specs.Declarations.{bound, in_body}
use Rattle.wdl_typed.specs.Lists.{has_name}
use Rattle.cwl_image.specs.Subset.{outputs_bound}
use Rattle.wdl_swaps.specs.declared.chain.Chain.{Chain}
use Rattle.wdl_swaps.specs.declared.swap.Swap.{Swap}
use Rattle.wdl_swaps.specs.Chains.{chain_of}
use Rattle.wdl_swaps.specs.Swaps.{swapped, swapped_decl}
use Rattle.leaf_image.specs.Inside.{append_all, calls_in, calls_of, calls_step, exprs_in, exprs_of, exprs_step}
use Rattle.leaf_image.specs.Leaves.{items_in, items_of, items_step}
use Rattle.flow_soundness.proofs.GivenKeys.{when_some}
use Rattle.flow_soundness.proofs.NewNames.{name_left, name_right}
use Rattle.flow_soundness.proofs.Newness.{name_split}
use Rattle.cwl_records.specs.Aliases.{Scene, Step, Walk, alias_of, decl_by, is_source, scatter_at, scatter_over, scatter_with, source_of, swapped_call, walk, walk_body, walk_step}
use Rattle.wdl_base.proofs.Options.{then_parts}

-- ---- lists of statements

pub joined_append : {A : Type 0} (f : Statement → List A) (ss ts : List Statement) → append_all (map f (ss ++ ts)) ≡ append_all (map f ss) ++ append_all (map f ts)
joined_append f [] ts = refl
joined_append f (s ∷ ss) ts = ap (λ xs. f s ++ xs) (joined_append f ss ts) ∙ sym (append_assoc (f s) (append_all (map f ss)) (append_all (map f ts)))

pub names_append : (f : Statement → List (List ℕ)) (ss ts : List Statement) → all_names (map f (ss ++ ts)) ≡ all_names (map f ss) ++ all_names (map f ts)
names_append f [] ts = refl
names_append f (s ∷ ss) ts = ap (λ xs. f s ++ xs) (names_append f ss ts) ∙ sym (append_assoc (f s) (all_names (map f ss)) (all_names (map f ts)))

-- what stands in one statement
pub declared_one : (y : Statement-F Statement) (st : Statement) → roll-Statement y ≡ st → all_declared (st ∷ []) ≡ names_step (map-Statement Statement (List (List ℕ)) declared y)
declared_one y st e = append-nil (declared st) ∙ ap declared (sym e) ∙ fold-roll-Statement (List (List ℕ)) names_step y

pub items_one : (y : Statement-F Statement) (st : Statement) → roll-Statement y ≡ st → items_of (st ∷ []) ≡ items_step (map-Statement Statement (List (List ℕ)) items_in y)
items_one y st e = append-nil (items_in st) ∙ ap items_in (sym e) ∙ fold-roll-Statement (List (List ℕ)) items_step y

pub exprs_one : (y : Statement-F Statement) (st : Statement) → roll-Statement y ≡ st → exprs_in (st ∷ []) ≡ exprs_step (map-Statement Statement (List TExpr) exprs_of y)
exprs_one y st e = append-nil (exprs_of st) ∙ ap exprs_of (sym e) ∙ fold-roll-Statement (List TExpr) exprs_step y

pub calls_one : (y : Statement-F Statement) (st : Statement) → roll-Statement y ≡ st → calls_in (st ∷ []) ≡ calls_step (map-Statement Statement (List TCall) calls_of y)
calls_one y st e = append-nil (calls_of st) ∙ ap calls_of (sym e) ∙ fold-roll-Statement (List TCall) calls_step y

-- what an alias is
pub alias_parts : (scene : Scene) (names : List Bound) (name : List ℕ) (a : TExpr) (c : Chain) → alias_of scene names name a ≡ Some c → (chain_of a ≡ Some c) × (is_source scene.lib.structs scene.declared names c ≡ true)
alias_parts scene names name a c h = by_stray (has_name name scene.strays) h
  where
    by_source : (d : Chain) (b : Bool) → is_source scene.lib.structs scene.declared names d ≡ b → (let o : Option Chain = cond b (Some d) None in o ≡ Some c) → chain_of a ≡ Some d
        → (chain_of a ≡ Some c) × (is_source scene.lib.structs scene.declared names c ≡ true)
    by_source d true e h i = let same : d ≡ c = cc in (i ∙ ap (λ (z : Chain). Some z) same, ap (is_source scene.lib.structs scene.declared names) (sym same) ∙ e)
    by_source d false e h i = absurd (cc)

    by_chain : (o : Option Chain) → chain_of a ≡ o → source_of scene.lib.structs scene.declared names o ≡ Some c → (chain_of a ≡ Some c) × (is_source scene.lib.structs scene.declared names c ≡ true)
    by_chain None e h = absurd (cc)
    by_chain (Some d) e h = by_source d (is_source scene.lib.structs scene.declared names d) refl h e

    by_stray : (b : Bool) → cond b None (source_of scene.lib.structs scene.declared names (chain_of a)) ≡ Some c → (chain_of a ≡ Some c) × (is_source scene.lib.structs scene.declared names c ≡ true)
    by_stray true h = absurd (cc)
    by_stray false h = by_chain (chain_of a) refl h

-- a scatter and a condition that are left
abbrev pub scatter_left : {S : Type 0} → List Swap → TScatter S → List Statement → TScatter Statement
scatter_left swaps s body = record { number = s.number; item = s.item; over = swapped swaps s.over; body = body; span = s.span }

abbrev pub if_left : {S : Type 0} → List Swap → TIf S → List Statement → TIf Statement
if_left swaps i body = record { number = i.number; cond = swapped swaps i.cond; body = body; span = i.span }

module _ (scene : Scene) where
  -- ---- what is given out

  abbrev Gives : Statement → Type 0
  Gives st = (seen given : Seen) (swaps : List Swap) → gives scene.lib st seen ≡ Some given → (walk scene st seen.names swaps).given ≡ given.names

  abbrev Giver : Type 0
  Giver = (st : Statement) × Gives st

  abbrev giver_plain : Statement-F Giver → Statement-F Statement
  giver_plain = map-Statement Giver Statement (λ (k : Giver). k.0)

  abbrev givers : List Giver → List Statement
  givers = map (λ (k : Giver). k.0)

  body_given : (ks : List Giver) (seen given : Seen) (swaps : List Swap) → body_gives scene.lib (givers ks) seen ≡ Some given → (walk_body scene (givers ks) seen.names swaps).given ≡ given.names
  body_given [] seen given swaps h = let same : (let e : Seen = record { names = []; calls = [] } in e) ≡ given = cc in ap (λ (s : Seen). s.names) same
  body_given (k ∷ ks) seen given swaps h =
      let p = then_parts (λ first. option_and_then (λ rest. Some (joined first rest)) (body_gives scene.lib (givers ks) (joined seen first))) (gives scene.lib k.0 seen) given h in
      let q = then_parts (λ rest. Some (joined p.0 rest)) (body_gives scene.lib (givers ks) (joined seen p.0)) given p.2 in
      let same : joined p.0 q.0 ≡ given = cc in
      let more : List Swap = swaps ++ (walk scene k.0 seen.names swaps).added in
      ap (λ (ns : List Bound). ns ++ (walk_body scene (givers ks) (seen.names ++ ns) more).given) (k.1 seen p.0 swaps p.1)
      ∙ ap (λ (ns : List Bound). p.0.names ++ ns) (body_given ks (joined seen p.0) q.0 more q.1) ∙ ap (λ (s : Seen). s.names) same

  decl_given : (d : TDecl) (o : Option Chain) → (decl_by d o).given ≡ bound d.name d.ty ∷ []
  decl_given d None = refl
  decl_given d (Some c) = refl

  layer_given : (y : Statement-F Giver) (seen given : Seen) (swaps : List Swap) → statement_step scene.lib (map-Statement Statement Giving (gives scene.lib) (giver_plain y)) seen ≡ Some given
      → (walk_step scene (map-Statement Statement Walk (walk scene) (giver_plain y)) seen.names swaps).given ≡ given.names
  layer_given (layer.Decl d) seen given swaps h =
      let p = when_some _ _ given h in
      decl_given (swapped_decl swaps d) (alias_of scene seen.names d.name (swapped swaps d.value)) ∙ ap (λ (s : Seen). s.names) p.1
  layer_given (layer.Call c) seen given swaps h =
      let p = then_parts (call_by scene.lib.structs c seen) (signature scene.lib c.target) given h in
      let q = when_some _ _ given p.2 in
      ap (outputs_bound c.name) p.1 ∙ ap (λ (s : Seen). s.names) q.1
  layer_given (layer.Scatter s) seen given swaps h =
      let p = then_parts (λ t. typed_over s.item (body_step (map (gives scene.lib) (givers s.body))) seen (out-Ty t)) (in_body scene.lib.structs seen.names s.over) given h in
      ap (λ (o : Option Ty). (scatter_over at_walk seen.names swaps o).given) p.1 ∙ by_type (out-Ty p.0) p.2
    where
      at_walk : TScatter Walk
      at_walk = record { number = s.number; item = s.item; over = s.over; body = map (walk scene) (givers s.body); span = s.span }

      by_type : (z : Ty-F Ty) → typed_over s.item (body_step (map (gives scene.lib) (givers s.body))) seen z ≡ Some given → (scatter_at at_walk seen.names swaps z).given ≡ given.names
      by_type (type.Array u some) h =
          let q = then_parts (λ g. Some (retyped (λ w. ty.Array w some) g)) (body_step (map (gives scene.lib) (givers s.body)) (with_item seen s.item u)) given h in
          let same : retyped (λ w. ty.Array w some) q.0 ≡ given = cc in
          ap (map (λ (b : Bound). record { key = b.key; ty = ty.Array b.ty some })) (body_given s.body (with_item seen s.item u) q.0 swaps q.1) ∙ ap (λ (s : Seen). s.names) same
      by_type z h = absurd (cc)
  layer_given (layer.If i) seen given swaps h =
      let p = then_parts (if_over (body_step (map (gives scene.lib) (givers i.body))) seen) (in_body scene.lib.structs seen.names i.cond) given h in
      by_test (is_bool p.0) p.2
    where
      by_test : (b : Bool) → cond b (option_and_then (λ g. Some (retyped optional g)) (body_step (map (gives scene.lib) (givers i.body)) seen)) None ≡ Some given
          → map (λ (b : Bound). record { key = b.key; ty = optional b.ty }) (walk_body scene (givers i.body) seen.names swaps).given ≡ given.names
      by_test true h =
          let q = then_parts (λ g. Some (retyped optional g)) (body_step (map (gives scene.lib) (givers i.body)) seen) given h in
          let same : retyped optional q.0 ≡ given = cc in
          ap (map (λ (b : Bound). record { key = b.key; ty = optional b.ty })) (body_given i.body seen q.0 swaps q.1) ∙ ap (λ (s : Seen). s.names) same
      by_test false h = absurd (cc)

  -- The walk gives out what the statement does.
  pub walk_given : (st : Statement) → Gives st
  walk_given = ind-Statement Gives (λ x y is. subst (λ (z : Statement-F Statement). Gives (roll-Statement z)) is (λ seen given swaps h.
      ap (λ (w : Walk). (w seen.names swaps).given) (fold-roll-Statement Walk (walk_step scene) (giver_plain y))
      ∙ layer_given y seen given swaps (sym (ap (λ (g : Giving). g seen) (fold-roll-Statement Giving (statement_step scene.lib) (giver_plain y))) ∙ h)))

  -- ---- what is left

  abbrev Within : List (List ℕ) → List (List ℕ) → Type 0
  Within ns ms = (n : List ℕ) → has_name n ns ≡ true → has_name n ms ≡ true

  -- no other names are declared in what is left, and no other items stand in it
  pub record Left (ns ms : List (List ℕ)) (kept : List Statement) : Type 0 where
    pub names : Within (all_declared kept) ns
    pub items : Within (items_of kept) ms

  abbrev Leaves : Statement → Type 0
  Leaves st = (names : List Bound) (swaps : List Swap) → Left (declared st) (items_in st) (walk scene st names swaps).kept

  abbrev Leaver : Type 0
  Leaver = (st : Statement) × Leaves st

  abbrev leaver_plain : Statement-F Leaver → Statement-F Statement
  leaver_plain = map-Statement Leaver Statement (λ (k : Leaver). k.0)

  abbrev leavers : List Leaver → List Statement
  leavers = map (λ (k : Leaver). k.0)

  both_within : (as_ bs cs ds es : List (List ℕ)) → es ≡ as_ ++ bs → Within as_ cs → Within bs ds → Within es (cs ++ ds)
  both_within as_ bs cs ds es e f g n h = by_side (name_split n as_ bs (ap (has_name n) (sym e) ∙ h))
    where
      by_side : (b : Bool) × (has_name n (cond b as_ bs) ≡ true) → has_name n (cs ++ ds) ≡ true
      by_side (true, k) = name_left n cs ds (f n k)
      by_side (false, k) = name_right n cs ds (g n k)

  nothing_left : (ns ms : List (List ℕ)) → Left ns ms []
  nothing_left ns ms = record { names = λ n h. absurd (false≢true h); items = λ n h. absurd (false≢true h) }

  body_left : (ks : List Leaver) (names : List Bound) (swaps : List Swap) → Left (all_declared (leavers ks)) (items_of (leavers ks)) (walk_body scene (leavers ks) names swaps).kept
  body_left [] names swaps = nothing_left [] []
  body_left (k ∷ ks) names swaps =
      let w : Step = walk scene k.0 names swaps in
      let rest : List Statement = (walk_body scene (leavers ks) (names ++ w.given) (swaps ++ w.added)).kept in
      let a = k.1 names swaps in
      let b = body_left ks (names ++ w.given) (swaps ++ w.added) in
      record {
        names = both_within (all_declared w.kept) (all_declared rest) (declared k.0) (all_declared (leavers ks)) (all_declared (w.kept ++ rest)) (names_append declared w.kept rest) a.names b.names;
        items = both_within (items_of w.kept) (items_of rest) (items_in k.0) (items_of (leavers ks)) (items_of (w.kept ++ rest)) (names_append items_in w.kept rest) a.items b.items;
      }

  decl_left : (d : TDecl) (o : Option Chain) → Left (d.name ∷ []) [] (decl_by d o).kept
  decl_left d None = record {
    names = λ n h. ap (has_name n) (sym (declared_one (layer.Decl d) (statement.Decl d) (statement.rolls-Decl d))) ∙ h;
    items = λ n h. ap (has_name n) (sym (items_one (layer.Decl d) (statement.Decl d) (statement.rolls-Decl d))) ∙ h;
  }
  decl_left d (Some c) = nothing_left (d.name ∷ []) []

  call_left : (c : TCall) → Left (c.name ∷ []) [] (statement.Call c ∷ [])
  call_left c = record {
    names = λ n h. ap (has_name n) (sym (declared_one (layer.Call c) (statement.Call c) (statement.rolls-Call c))) ∙ h;
    items = λ n h. ap (has_name n) (sym (items_one (layer.Call c) (statement.Call c) (statement.rolls-Call c))) ∙ h;
  }

  scatter_of_left : (s : TScatter Statement) (ns ms : List (List ℕ)) → Left ns ms s.body → Left ns (s.item ∷ ms) (statement.Scatter s ∷ [])
  scatter_of_left s ns ms l = record {
    names = λ n h. l.names n (ap (has_name n) (sym (declared_one (layer.Scatter s) (statement.Scatter s) (statement.rolls-Scatter s))) ∙ h);
    items = λ n h. first n (bytes_eq s.item n) (ap (has_name n) (sym (items_one (layer.Scatter s) (statement.Scatter s) (statement.rolls-Scatter s))) ∙ h);
  }
    where
      first : (n : List ℕ) (b : Bool) → (b || has_name n (items_of s.body)) ≡ true → (b || has_name n ms) ≡ true
      first n true h = refl
      first n false h = l.items n h

  if_of_left : (i : TIf Statement) (ns ms : List (List ℕ)) → Left ns ms i.body → Left ns ms (statement.If i ∷ [])
  if_of_left i ns ms l = record {
    names = λ n h. l.names n (ap (has_name n) (sym (declared_one (layer.If i) (statement.If i) (statement.rolls-If i))) ∙ h);
    items = λ n h. l.items n (ap (has_name n) (sym (items_one (layer.If i) (statement.If i) (statement.rolls-If i))) ∙ h);
  }

  layer_left : (y : Statement-F Leaver) (names : List Bound) (swaps : List Swap)
      → Left (names_step (map-Statement Statement (List (List ℕ)) declared (leaver_plain y))) (items_step (map-Statement Statement (List (List ℕ)) items_in (leaver_plain y)))
      (walk_step scene (map-Statement Statement Walk (walk scene) (leaver_plain y)) names swaps).kept
  layer_left (layer.Decl d) names swaps = decl_left (swapped_decl swaps d) (alias_of scene names d.name (swapped swaps d.value))
  layer_left (layer.Call c) names swaps = call_left (swapped_call swaps c)
  layer_left (layer.Scatter s) names swaps = by_some (in_body scene.lib.structs names s.over)
    where
      at_walk : TScatter Walk
      at_walk = record { number = s.number; item = s.item; over = s.over; body = map (walk scene) (leavers s.body); span = s.span }

      none_left : Left (all_declared (leavers s.body)) (s.item ∷ items_of (leavers s.body)) (scatter_with swaps at_walk [] ∷ [])
      none_left = scatter_of_left (scatter_left swaps s []) (all_declared (leavers s.body)) (items_of (leavers s.body)) (nothing_left (all_declared (leavers s.body)) (items_of (leavers s.body)))

      by_type : (z : Ty-F Ty) → Left (all_declared (leavers s.body)) (s.item ∷ items_of (leavers s.body)) (scatter_at at_walk names swaps z).kept
      by_type (type.Array t some) =
          scatter_of_left (scatter_left swaps s (walk_body scene (leavers s.body) (names ++ bound s.item t ∷ []) swaps).kept) (all_declared (leavers s.body)) (items_of (leavers s.body))
          (body_left s.body (names ++ bound s.item t ∷ []) swaps)
      by_type z = none_left

      by_some : (o : Option Ty) → Left (all_declared (leavers s.body)) (s.item ∷ items_of (leavers s.body)) (scatter_over at_walk names swaps o).kept
      by_some None = none_left
      by_some (Some t) = by_type (out-Ty t)
  layer_left (layer.If i) names swaps =
      if_of_left (if_left swaps i (walk_body scene (leavers i.body) names swaps).kept) (all_declared (leavers i.body)) (items_of (leavers i.body)) (body_left i.body names swaps)

  pub statement_left : (st : Statement) → Leaves st
  statement_left = ind-Statement Leaves (λ x y is. subst (λ (z : Statement-F Statement). Leaves (roll-Statement z)) is (λ names swaps.
      subst (λ (w : Walk). Left (declared (roll-Statement (leaver_plain y))) (items_in (roll-Statement (leaver_plain y))) (w names swaps).kept) (sym (fold-roll-Statement Walk (walk_step scene) (leaver_plain y)))
      (subst (λ (ns : List (List ℕ)). Left ns (items_in (roll-Statement (leaver_plain y))) (walk_step scene (map-Statement Statement Walk (walk scene) (leaver_plain y)) names swaps).kept)
      (sym (fold-roll-Statement (List (List ℕ)) names_step (leaver_plain y)))
      (subst (λ (ms : List (List ℕ)). Left (names_step (map-Statement Statement (List (List ℕ)) declared (leaver_plain y))) ms (walk_step scene (map-Statement Statement Walk (walk scene) (leaver_plain y)) names swaps).kept)
      (sym (fold-roll-Statement (List (List ℕ)) items_step (leaver_plain y))) (layer_left y names swaps)))))

  abbrev with_facts : List Statement → List Leaver
  with_facts [] = []
  with_facts (t ∷ ss) = (t, statement_left t) ∷ with_facts ss

  leavers_are : (ss : List Statement) → leavers (with_facts ss) ≡ ss
  leavers_are [] = refl
  leavers_are (t ∷ ss) = ap (λ (ts : List Statement). t ∷ ts) (leavers_are ss)

  -- What the walk leaves declares no other names, and has no other items.
  pub walk_left : (ss : List Statement) (names : List Bound) (swaps : List Swap) → Left (all_declared ss) (items_of ss) (walk_body scene ss names swaps).kept
  walk_left ss names swaps =
      subst (λ (ts : List Statement). Left (all_declared ts) (items_of ts) (walk_body scene ts names swaps).kept) (leavers_are ss) (body_left (with_facts ss) names swaps)
