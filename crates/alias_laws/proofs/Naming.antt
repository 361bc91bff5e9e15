-- The names that a body gives out are those that it gave, but for hidden ones.
use Rattle.std.proofs.Common.{◌≡◌, ℕ, Bool, true, false, cond, List, [], ◌∷◌, ◌++◌, append_assoc, map, Option, Some, None, option_and_then, sym, ap, ◌∙◌, subst, refl}
use Rattle.std.specs.Str.{bytes_eq}
use Rattle.std.proofs.lemmas.Bool.{and_parts, false≢true, false_from_ne_true, or_from, or_parts}
use Rattle.std.proofs.lemmas.List.{map-append}
use Rattle.wdl_base.specs.declared.name.Key.{Key}
use Rattle.wdl_value.specs.declared.ty.Ty.{Ty, Ty-F, out-Ty}
use Rattle.wdl_value.specs.declared.ty.Ty.TheOpen as type
use Rattle.wdl_value.specs.declared.ty.Ty.TheVariants as ty
use Rattle.wdl_value.specs.Kinds.{is_bool}
use Rattle.wdl_typed.specs.declared.flow.Statement.{Statement, Statement-F, fold-roll-Statement, fold-Statement, ind-Statement, map-Statement, roll-Statement}
use Rattle.wdl_typed.specs.declared.flow.Statement.TheOpen as layer
use Rattle.wdl_typed.specs.declared.flow.Statement.TheVariants as statement
use Rattle.wdl_typed.specs.declared.flow.TCall.{TCall}
use Rattle.wdl_typed.specs.declared.flow.TIf.{TIf}
use Rattle.wdl_typed.specs.declared.flow.TScatter.{TScatter}
use Rattle.wdl_typed.specs.declared.scope.Bound.{Bound}
use Rattle.wdl_typed.specs.declared.task.TDecl.{TDecl}
use Rattle.wdl_typed.specs.Bodies.{Giving, Seen, all_declared, body_gives, body_step, declared, gives, if_over, joined, names_step, optional, retyped, scatter_over as typed_over, signature, statement_step as typed_step, with_item}
use Rattle.wdl_typed.specs.Declarations.{bound, in_body, plain_key}
use Rattle.wdl_typed.specs.Flow.{Callee, Names, Part, Run, all_given, body_names, names_of_part, signature_keys, statement_step}
use Rattle.wdl_typed.specs.Lists.{has_name}
use Rattle.wdl_typed.specs.Scope.{same_key}
use Rattle.wdl_names.specs.Fresh.{fresh}
use Rattle.wdl_names.proofs.FreshLemmas.{fresh-append}
use Rattle.cwl_image.specs.Subset.{declared_by, declared_step}
use Rattle.wdl_swaps.specs.declared.chain.Chain.{Chain}
use Rattle.wdl_swaps.specs.declared.swap.Swap.{Swap}
use Rattle.wdl_swaps.specs.Swaps.{swapped, swapped_decl}
use Rattle.leaf_image.specs.Inside.{Each, calls_in, calls_of, calls_step}
use Rattle.leaf_image.proofs.Eaches.{each_left, each_right}
use Rattle.flow_soundness.proofs.Newness.{name_split}
use Rattle.flow_soundness.proofs.NewNames.{fresh_apart, name_left, name_one, name_right}
use Rattle.record_laws.proofs.Lookups.{keys_apart}
use Rattle.cwl_records.specs.Aliases.{Scene, Step, Walk, alias_of, decl_by, scatter_at, scatter_over, scatter_with, swapped_call, walk, walk_body, walk_step}
use Rattle.alias_laws.proofs.Hiding.{hidden_by}
use Rattle.alias_laws.proofs.PlainNames.{declared_in}
use Rattle.alias_laws.proofs.SameSteps.{SameNames, names_alone, names_both, same_names}
use Rattle.alias_laws.proofs.WalkLaws.{declared_one, if_left, names_append, scatter_left, statement_left, walk_given, walk_left}
use Rattle.wdl_base.proofs.Options.{then_parts}

-- ---- names that are gone

module _ (bad : List ℕ → Bool) where
  -- What these declare and what is left does not declare is bad.
  abbrev pub Gone : List (List ℕ) → List Statement → Type 0
  Gone names left = (n : List ℕ) → has_name n names ≡ true → has_name n (all_declared left) ≡ false → bad n ≡ true

-- declarations are among all names
abbrev DeclaresAmong : Statement → Type 0
DeclaresAmong st = (n : List ℕ) → has_name n (declared_in st) ≡ true → has_name n (declared st) ≡ true

abbrev Amongst : Type 0
Amongst = (st : Statement) × DeclaresAmong st

abbrev amongst_plain : Statement-F Amongst → Statement-F Statement
amongst_plain = map-Statement Amongst Statement (λ (k : Amongst). k.0)

abbrev amongst_firsts : List Amongst → List Statement
amongst_firsts = map (λ (k : Amongst). k.0)

list_among : (ks : List Amongst) (n : List ℕ) → has_name n (declared_by (amongst_firsts ks)) ≡ true → has_name n (all_declared (amongst_firsts ks)) ≡ true
list_among [] n h = h
list_among (k ∷ ks) n h = by_side (name_split n (declared_in k.0) (declared_by (amongst_firsts ks)) h) (list_among ks n)
  where
    by_side : (b : Bool) × (has_name n (cond b (declared_in k.0) (declared_by (amongst_firsts ks))) ≡ true) → (has_name n (declared_by (amongst_firsts ks)) ≡ true → has_name n (all_declared (amongst_firsts ks)) ≡ true)
        → has_name n (declared k.0 ++ all_declared (amongst_firsts ks)) ≡ true
    by_side (true, g) rest = name_left n (declared k.0) (all_declared (amongst_firsts ks)) (k.1 n g)
    by_side (false, g) rest = name_right n (declared k.0) (all_declared (amongst_firsts ks)) (rest g)

layer_among : (y : Statement-F Amongst) (n : List ℕ) → has_name n (declared_step (map-Statement Statement (List (List ℕ)) declared_in (amongst_plain y))) ≡ true
    → has_name n (names_step (map-Statement Statement (List (List ℕ)) declared (amongst_plain y))) ≡ true
layer_among (layer.Decl d) n h = h
layer_among (layer.Call c) n h = absurd (false≢true h)
layer_among (layer.Scatter s) n h = list_among s.body n h
layer_among (layer.If i) n h = list_among i.body n h

pub declares_among : (st : Statement) → DeclaresAmong st
declares_among = ind-Statement DeclaresAmong (λ x y is. subst (λ (z : Statement-F Statement). DeclaresAmong (roll-Statement z)) is (λ n h.
    ap (has_name n) (fold-roll-Statement (List (List ℕ)) names_step (amongst_plain y))
    ∙ layer_among y n (sym (ap (has_name n) (fold-roll-Statement (List (List ℕ)) declared_step (amongst_plain y))) ∙ h)))

pub all_among_declared : (ss : List Statement) (n : List ℕ) → has_name n (declared_by ss) ≡ true → has_name n (all_declared ss) ≡ true
all_among_declared [] n h = h
all_among_declared (st ∷ ss) n h = by_side (name_split n (declared_in st) (declared_by ss) h) (all_among_declared ss n)
  where
    by_side : (b : Bool) × (has_name n (cond b (declared_in st) (declared_by ss)) ≡ true) → (has_name n (declared_by ss) ≡ true → has_name n (all_declared ss) ≡ true) → has_name n (declared st ++ all_declared ss) ≡ true
    by_side (true, g) rest = name_left n (declared st) (all_declared ss) (declares_among st n g)
    by_side (false, g) rest = name_right n (declared st) (all_declared ss) (rest g)

-- neither of two lists has the name
neither : (n : List ℕ) (ns ms : List (List ℕ)) → has_name n ns ≡ false → (has_name n ms ≡ true → ⊥) → has_name n (ns ++ ms) ≡ false
neither n [] ms h f = false_from_ne_true (has_name n ms) f
neither n (m ∷ ns) ms h f =
    let p = or_parts (bytes_eq m n) (has_name n ns) h in
    or_from (bytes_eq m n) (has_name n (ns ++ ms)) p.0 (neither n ns ms p.1 f)

module _ (bad : List ℕ → Bool) (scene : Scene) (taken : List (List ℕ)) (st : Statement) (ss : List Statement) (new : fresh taken (declared st ++ all_declared ss) ≡ true) where
  parts : (fresh taken (declared st) ≡ true) × (fresh (taken ++ declared st) (all_declared ss) ≡ true)
  parts = and_parts (fresh taken (declared st)) (fresh (taken ++ declared st) (all_declared ss)) (sym (fresh-append taken (declared st) (all_declared ss)) ∙ new)

  -- no name is declared by the first one and by those behind it
  pub once : (n : List ℕ) → has_name n (declared st) ≡ true → has_name n (all_declared ss) ≡ true → ⊥
  once n h j = fresh_apart n (taken ++ declared st) (all_declared ss) parts.1 j (name_right n taken (declared st) h)

  pub gone_first : (names more : List Bound) (swaps also : List Swap) → Gone bad (declared_in st ++ declared_by ss) ((walk scene st names swaps).kept ++ (walk_body scene ss more also).kept)
      → Gone bad (declared_in st) (walk scene st names swaps).kept
  gone_first names more swaps also g n h out =
      let kept : List Statement = (walk scene st names swaps).kept in
      let rest : List Statement = (walk_body scene ss more also).kept in
      g n (name_left n (declared_in st) (declared_by ss) h)
      (ap (has_name n) (names_append declared kept rest) ∙ neither n (all_declared kept) (all_declared rest) out (λ k. once n (declares_among st n h) ((walk_left scene ss more also).names n k)))

  pub gone_rest : (names more : List Bound) (swaps also : List Swap) → Gone bad (declared_in st ++ declared_by ss) ((walk scene st names swaps).kept ++ (walk_body scene ss more also).kept)
      → Gone bad (declared_by ss) (walk_body scene ss more also).kept
  gone_rest names more swaps also g n h out =
      let kept : List Statement = (walk scene st names swaps).kept in
      let rest : List Statement = (walk_body scene ss more also).kept in
      g n (name_right n (declared_in st) (declared_by ss) h)
      (ap (has_name n) (names_append declared kept rest)
      ∙ neither n (all_declared kept) (all_declared rest) (false_from_ne_true (has_name n (all_declared kept)) (λ k. once n ((statement_left scene st names swaps).names n k) (all_among_declared ss n h))) (λ k. false≢true (sym out ∙ k)))

-- ---- what is given out

module _ (r q : Run) (callee other : Callee) (bad : List ℕ → Bool) (scene : Scene) where
  abbrev hidden : Key → Bool
  hidden = hidden_by bad

  abbrev left : Statement → Part
  left = fold-Statement Part (statement_step r callee)

  abbrev right : Statement → Part
  right = fold-Statement Part (statement_step q other)

  -- a call gives out what it did
  abbrev pub SameKeys : TCall → Type 0
  SameKeys c = signature_keys c.name (signature r.library c.target) ≡ signature_keys c.name (signature q.library c.target)

  abbrev Named : Statement → Type 0
  Named st = (seen given : Seen) (names : List Bound) (swaps : List Swap) (taken : List (List ℕ)) → names ≡ seen.names → gives scene.lib st seen ≡ Some given → fresh taken (declared st) ≡ true → Each SameKeys (calls_of st) → Gone bad (declared_in st) (walk scene st names swaps).kept
      → SameNames hidden (left st).names (body_names (map right (walk scene st names swaps).kept))

  abbrev Known : Type 0
  Known = (st : Statement) × Named st

  abbrev plain : Statement-F Known → Statement-F Statement
  plain = map-Statement Known Statement (λ (k : Known). k.0)

  abbrev firsts : List Known → List Statement
  firsts = map (λ (k : Known). k.0)

  given_append : (ps qs : List Names) → all_given (ps ++ qs) ≡ record { keys = (all_given ps).keys ++ (all_given qs).keys; calls = (all_given ps).calls ++ (all_given qs).calls }
  given_append [] qs = refl
  given_append (p ∷ ps) qs =
      ap (λ (n : Names). let m : Names = record { keys = p.keys ++ n.keys; calls = p.calls ++ n.calls } in m) (given_append ps qs)
      ∙ ap (λ (ks : List Key). let m : Names = record { keys = ks; calls = p.calls ++ ((all_given ps).calls ++ (all_given qs).calls) } in m) (sym (append_assoc p.keys (all_given ps).keys (all_given qs).keys))
      ∙ ap (λ (cs : List (List ℕ)). let m : Names = record { keys = (p.keys ++ (all_given ps).keys) ++ (all_given qs).keys; calls = cs } in m) (sym (append_assoc p.calls (all_given ps).calls (all_given qs).calls))

  -- what is seen behind a statement
  pub seen_behind : (st : Statement) (seen first : Seen) (names : List Bound) (swaps : List Swap) → names ≡ seen.names → gives scene.lib st seen ≡ Some first
      → names ++ (walk scene st names swaps).given ≡ seen.names ++ first.names
  seen_behind st seen first names swaps e h =
      ap (λ (ns : List Bound). ns ++ (walk scene st ns swaps).given) e ∙ ap (λ (gs : List Bound). seen.names ++ gs) (walk_given scene st seen first swaps h)

  body_named : (ks : List Known) (seen given : Seen) (names : List Bound) (swaps : List Swap) (taken : List (List ℕ)) → names ≡ seen.names → body_gives scene.lib (firsts ks) seen ≡ Some given → fresh taken (all_declared (firsts ks)) ≡ true → Each SameKeys (calls_in (firsts ks))
      → Gone bad (declared_by (firsts ks)) (walk_body scene (firsts ks) names swaps).kept → SameNames hidden (body_names (map left (firsts ks))) (body_names (map right (walk_body scene (firsts ks) names swaps).kept))
  body_named [] seen given names swaps taken same h new calls gone = same_names hidden (all_given []) (all_given []) refl
  body_named (k ∷ ks) seen given names swaps taken same h new calls gone =
      let u = then_parts (λ first. option_and_then (λ rest. Some (joined first rest)) (body_gives scene.lib (firsts ks) (joined seen first))) (gives scene.lib k.0 seen) given h in
      let v = then_parts (λ rest. Some (joined u.0 rest)) (body_gives scene.lib (firsts ks) (joined seen u.0)) given u.2 in
      let w : Step = walk scene k.0 names swaps in
      let rest : Step = walk_body scene (firsts ks) (names ++ w.given) (swaps ++ w.added) in
      let p = parts bad scene taken k.0 (firsts ks) new in
      let a = k.1 seen u.0 names swaps taken same u.1 p.0 (each_left SameKeys (calls_of k.0) (calls_in (firsts ks)) calls) (gone_first bad scene taken k.0 (firsts ks) new names (names ++ w.given) swaps (swaps ++ w.added) gone) in
      let b = body_named ks (joined seen u.0) v.0 (names ++ w.given) (swaps ++ w.added) (taken ++ declared k.0) (seen_behind k.0 seen u.0 names swaps same u.1) v.1 p.1 (each_right SameKeys (calls_of k.0) (calls_in (firsts ks)) calls)
      (gone_rest bad scene taken k.0 (firsts ks) new names (names ++ w.given) swaps (swaps ++ w.added) gone) in
      subst (SameNames hidden (body_names (map left (firsts (k ∷ ks)))))
      (sym (ap (λ (ps : List Part). body_names ps) (map-append right w.kept rest.kept) ∙ ap all_given (map-append names_of_part (map right w.kept) (map right rest.kept))
      ∙ given_append (map names_of_part (map right w.kept)) (map names_of_part (map right rest.kept))))
      (names_both hidden (left k.0).names (body_names (map left (firsts ks))) (body_names (map right w.kept)) (body_names (map right rest.kept)) a b)

  -- one statement that is left, by what it gives out
  one_named : (n : Names) (y : Statement-F Statement) (t : Statement) → roll-Statement y ≡ t → SameNames hidden n (statement_step q other (map-Statement Statement Part right y)).names → SameNames hidden n (body_names (map right (t ∷ [])))
  one_named n y t e h =
      subst (λ (p : Part). SameNames hidden n (all_given (p.names ∷ []))) (sym (ap right (sym e) ∙ fold-roll-Statement Part (statement_step q other) y))
      (names_alone hidden n (statement_step q other (map-Statement Statement Part right y)).names h)

  decl_named : (d : TDecl) (o : Option Chain) → Gone bad (d.name ∷ []) (decl_by d o).kept → SameNames hidden (record { keys = plain_key d.name ∷ []; calls = [] }) (body_names (map right (decl_by d o).kept))
  decl_named d None gone =
      one_named (record { keys = plain_key d.name ∷ []; calls = [] }) (layer.Decl d) (statement.Decl d) (statement.rolls-Decl d)
      (same_names hidden (record { keys = plain_key d.name ∷ []; calls = [] }) (record { keys = plain_key d.name ∷ []; calls = [] }) refl)
  decl_named d (Some c) gone =
      let dropped : bad d.name ≡ true = gone d.name (name_one d.name) refl in
      record { keys = λ key shown. or_from (same_key (plain_key d.name) key) false (keys_apart hidden (plain_key d.name) key dropped shown) refl; calls = refl }

  layer_named : (y : Statement-F Known) (seen given : Seen) (names : List Bound) (swaps : List Swap) (taken : List (List ℕ)) → names ≡ seen.names
      → typed_step scene.lib (map-Statement Statement Giving (gives scene.lib) (plain y)) seen ≡ Some given → fresh taken (names_step (map-Statement Statement (List (List ℕ)) declared (plain y))) ≡ true
      → Each SameKeys (calls_step (map-Statement Statement (List TCall) calls_of (plain y)))
      → Gone bad (declared_step (map-Statement Statement (List (List ℕ)) declared_in (plain y))) (walk_step scene (map-Statement Statement Walk (walk scene) (plain y)) names swaps).kept
      → SameNames hidden (statement_step r callee (map-Statement Statement Part left (plain y))).names (body_names (map right (walk_step scene (map-Statement Statement Walk (walk scene) (plain y)) names swaps).kept))
  layer_named (layer.Decl d) seen given names swaps taken same h new calls gone = decl_named (swapped_decl swaps d) (alias_of scene names d.name (swapped swaps d.value)) gone
  layer_named (layer.Call c) seen given names swaps taken same h new calls gone =
      one_named (record { keys = signature_keys c.name (signature r.library c.target); calls = c.name ∷ [] }) (layer.Call (swapped_call swaps c)) (statement.Call (swapped_call swaps c)) (statement.rolls-Call (swapped_call swaps c))
      (same_names hidden (record { keys = signature_keys c.name (signature r.library c.target); calls = c.name ∷ [] }) (record { keys = signature_keys c.name (signature q.library c.target); calls = c.name ∷ [] })
      (ap (λ (ks : List Key). let m : Names = record { keys = ks; calls = c.name ∷ [] } in m) calls.0))
  layer_named (layer.Scatter s) seen given names swaps taken same h new calls gone =
      let p = then_parts (λ t. typed_over s.item (body_step (map (gives scene.lib) (firsts s.body))) seen (out-Ty t)) (in_body scene.lib.structs seen.names s.over) given h in
      subst Goal (sym (ap (λ (ns : List Bound). scatter_over at_walk names swaps (in_body scene.lib.structs ns s.over)) same ∙ ap (scatter_over at_walk names swaps) p.1)) (by_type (out-Ty p.0) p.2) gone
    where
      at_walk : TScatter Walk
      at_walk = record { number = s.number; item = s.item; over = s.over; body = map (walk scene) (firsts s.body); span = s.span }

      with_body : (kept : List Statement) → Gone bad (declared_by (firsts s.body)) (scatter_with swaps at_walk kept ∷ []) → (Gone bad (declared_by (firsts s.body)) kept → SameNames hidden (body_names (map left (firsts s.body))) (body_names (map right kept)))
          → SameNames hidden (body_names (map left (firsts s.body))) (body_names (map right (scatter_with swaps at_walk kept ∷ [])))
      with_body kept g f =
          let t : TScatter Statement = scatter_left swaps s kept in
          one_named (body_names (map left (firsts s.body))) (layer.Scatter t) (statement.Scatter t) (statement.rolls-Scatter t)
          (f (λ n h out. g n h (ap (has_name n) (declared_one (layer.Scatter t) (statement.Scatter t) (statement.rolls-Scatter t)) ∙ out)))

      Goal : Step → Type 0
      Goal w = Gone bad (declared_by (firsts s.body)) w.kept → SameNames hidden (body_names (map left (firsts s.body))) (body_names (map right w.kept))

      by_type : (z : Ty-F Ty) → typed_over s.item (body_step (map (gives scene.lib) (firsts s.body))) seen z ≡ Some given → Goal (scatter_at at_walk names swaps z)
      by_type (type.Array t some) h g =
          let q = then_parts (λ z. Some (retyped (λ w. ty.Array w some) z)) (body_step (map (gives scene.lib) (firsts s.body)) (with_item seen s.item t)) given h in
          with_body (walk_body scene (firsts s.body) (names ++ bound s.item t ∷ []) swaps).kept g
          (body_named s.body (with_item seen s.item t) q.0 (names ++ bound s.item t ∷ []) swaps taken (ap (λ (ns : List Bound). ns ++ bound s.item t ∷ []) same) q.1 new calls)
      by_type z h g = absurd (cc)
  layer_named (layer.If i) seen given names swaps taken same h new calls gone =
      let t : TIf Statement = if_left swaps i (walk_body scene (firsts i.body) names swaps).kept in
      let p = then_parts (if_over (body_step (map (gives scene.lib) (firsts i.body))) seen) (in_body scene.lib.structs seen.names i.cond) given h in
      one_named (body_names (map left (firsts i.body))) (layer.If t) (statement.If t) (statement.rolls-If t)
      (by_test (is_bool p.0) p.2 (λ n h out. gone n h (ap (has_name n) (declared_one (layer.If t) (statement.If t) (statement.rolls-If t)) ∙ out)))
    where
      by_test : (b : Bool) → cond b (option_and_then (λ g. Some (retyped optional g)) (body_step (map (gives scene.lib) (firsts i.body)) seen)) None ≡ Some given
          → Gone bad (declared_by (firsts i.body)) (walk_body scene (firsts i.body) names swaps).kept
          → SameNames hidden (body_names (map left (firsts i.body))) (body_names (map right (walk_body scene (firsts i.body) names swaps).kept))
      by_test true h g =
          let q = then_parts (λ g. Some (retyped optional g)) (body_step (map (gives scene.lib) (firsts i.body)) seen) given h in
          body_named i.body seen q.0 names swaps taken same q.1 new calls g
      by_test false h g = absurd (cc)

  named : (st : Statement) → Named st
  named = ind-Statement Named (λ x y is. subst (λ (z : Statement-F Statement). Named (roll-Statement z)) is (λ seen given names swaps taken same h new calls gone.
      let walked = fold-roll-Statement Walk (walk_step scene) (plain y) in
      let typed = sym (ap (λ (g : Giving). g seen) (fold-roll-Statement Giving (typed_step scene.lib) (plain y))) ∙ h in
      let old = fold-roll-Statement Part (statement_step r callee) (plain y) in
      subst (λ (p : Part). SameNames hidden p.names (body_names (map right (walk scene (roll-Statement (plain y)) names swaps).kept))) (sym old)
      (subst (λ (w : Walk). SameNames hidden (statement_step r callee (map-Statement Statement Part left (plain y))).names (body_names (map right (w names swaps).kept))) (sym walked)
      (layer_named y seen given names swaps taken same typed (sym (ap (fresh taken) (fold-roll-Statement (List (List ℕ)) names_step (plain y))) ∙ new)
      (subst (Each SameKeys) (fold-roll-Statement (List TCall) calls_step (plain y)) calls)
      (λ n h out. gone n (ap (has_name n) (fold-roll-Statement (List (List ℕ)) declared_step (plain y)) ∙ h) (ap (λ (w : Walk). has_name n (all_declared (w names swaps).kept)) walked ∙ out))))))

  abbrev with_facts : List Statement → List Known
  with_facts [] = []
  with_facts (t ∷ ss) = (t, named t) ∷ with_facts ss

  firsts_are : (ss : List Statement) → firsts (with_facts ss) ≡ ss
  firsts_are [] = refl
  firsts_are (t ∷ ss) = ap (λ (ts : List Statement). t ∷ ts) (firsts_are ss)

  abbrev AllNamed : List Statement → Type 0
  AllNamed ss =
      (seen given : Seen) (names : List Bound) (swaps : List Swap) (taken : List (List ℕ)) → names ≡ seen.names → body_gives scene.lib ss seen ≡ Some given → fresh taken (all_declared ss) ≡ true → Each SameKeys (calls_in ss)
      → Gone bad (declared_by ss) (walk_body scene ss names swaps).kept → SameNames hidden (body_names (map left ss)) (body_names (map right (walk_body scene ss names swaps).kept))

  -- What the walk leaves of a body gives out the names that the body did, but for hidden ones.
  pub all_named : (ss : List Statement) → AllNamed ss
  all_named ss = subst AllNamed (firsts_are ss) (body_named (with_facts ss))
