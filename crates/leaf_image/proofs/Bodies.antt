-- Bodies with leaves in the places of struct inputs, statement by statement.
use Rattle.std.proofs.Common.{◌≡◌, Bool, true, List, [], ◌∷◌, ◌++◌, length, map, suc, refl, ap, sym, ◌∙◌, subst}
use Rattle.std.specs.List.{list_all}
use Rattle.std.proofs.lemmas.Bool.{and_parts}
use Rattle.std.proofs.lemmas.List.Folds.{list_all-append}
use Rattle.wdl_base.specs.declared.name.Key.{Key}
use Rattle.wdl_typed.specs.declared.expr.TExpr.{TExpr}
use Rattle.wdl_typed.specs.declared.flow.Statement.{Statement, Statement-F, fold-roll-Statement, fold-Statement, ind-Statement, map-Statement, roll-Statement}
use Rattle.wdl_typed.specs.declared.flow.Statement.TheOpen as layer
use Rattle.wdl_typed.specs.declared.flow.Statement.TheVariants as s
use Rattle.wdl_typed.specs.declared.flow.TCall.{TCall}
use Rattle.wdl_typed.specs.declared.flow.TIf.{TIf}
use Rattle.wdl_typed.specs.declared.flow.TScatter.{TScatter}
use Rattle.wdl_typed.specs.declared.task.TDecl.{TDecl}
use Rattle.wdl_typed.specs.Bodies.{signature}
use Rattle.wdl_typed.specs.Declarations.{plain_key}
use Rattle.wdl_typed.specs.Flow.{Callee, Known as KnownName, Names, Part, Run, all_given, body_names, body_run, call_of, declaration, env_of, if_run, in_turn, names_of_part, part, run_of_part, scatter_run, signature_keys, statement_step, with_count}
use Rattle.wdl_swaps.specs.Agreement.{Agrees, PlacesFound, is_fine}
use Rattle.wdl_swaps.specs.Swaps.{swapped, swapped_decl}
use Rattle.leaf_image.specs.Records.{Setting, expanded, expanded_call}
use Rattle.leaf_image.proofs.ExpandLaws.{expanded_calls, expanded_decl, expanded_if, expanded_scatter}
use Rattle.leaf_image.specs.Agreement.{BodiesAgree, CallAgrees, RunsAgree, sight}
use Rattle.leaf_image.specs.Inside.{Each, calls_in, calls_of, calls_step, exprs_in, exprs_of, exprs_step}
use Rattle.leaf_image.proofs.Eaches.{each_left, each_right}
use Rattle.leaf_image.proofs.Runs.{AllAgree, declaration_agrees, if_agrees, scatter_agrees, turns_agree}

module _ (r q : Run) (callee other : Callee) (x : Setting) (old now : List KnownName) (seen gone : Key → Bool)
    (values : (rest : List KnownName) → Agrees x.own.swaps (env_of (old ++ rest)) (env_of (now ++ rest)) seen gone)
    (places : (rest : List KnownName) → PlacesFound x.own.swaps (env_of (old ++ rest)) (env_of (now ++ rest))) where
  abbrev fine : TExpr → Bool
  fine = is_fine x.own.swaps seen gone

  abbrev CallSame : TCall → Type 0
  CallSame = CallAgrees r q callee other x old now

  -- what is asked of expressions and of calls
  abbrev Asked : List TExpr → List TCall → Type 0
  Asked es cs = (list_all fine es ≡ true) × Each CallSame cs

  abbrev left : Statement → Part
  left = fold-Statement Part (statement_step r callee)

  abbrev right : Statement → Part
  right = fold-Statement Part (statement_step q other)

  abbrev Same : Part → Part → Type 0
  Same a b = (a.names ≡ b.names) × RunsAgree old now a.run b.run

  abbrev Holds : Statement → Type 0
  Holds st = Asked (exprs_of st) (calls_of st) → Same (left st) (right (expanded x st))

  abbrev Known : Type 0
  Known = (st : Statement) × Holds st

  abbrev first : Known → Statement
  first k = k.0

  abbrev firsts : List Known → List Statement
  firsts = map first

  abbrev plain : Statement-F Known → Statement-F Statement
  plain = map-Statement Known Statement first

  -- ---- the parts of forms

  opened_left : (y : Statement-F Statement) → left (roll-Statement y) ≡ statement_step r callee (map-Statement Statement Part left y)
  opened_left y = fold-roll-Statement Part (statement_step r callee) y

  opened_right : (y : Statement-F Statement) → right (roll-Statement y) ≡ statement_step q other (map-Statement Statement Part right y)
  opened_right y = fold-roll-Statement Part (statement_step q other) y

  opened_asked : (y : Statement-F Statement) → Asked (exprs_of (roll-Statement y)) (calls_of (roll-Statement y))
      → Asked (exprs_step (map-Statement Statement (List TExpr) exprs_of y)) (calls_step (map-Statement Statement (List TCall) calls_of y))
  opened_asked y h =
      subst (λ (cs : List TCall). Asked (exprs_step (map-Statement Statement (List TExpr) exprs_of y)) cs) (fold-roll-Statement (List TCall) calls_step y)
      (subst (λ (es : List TExpr). Asked es (calls_of (roll-Statement y))) (fold-roll-Statement (List TExpr) exprs_step y) h)

  moved : (a b c d : Part) → a ≡ c → b ≡ d → Same c d → Same a b
  moved a b c d e f h = subst (λ (z : Part). Same z b) (sym e) (subst (λ (z : Part). Same c z) (sym f) h)

  -- ---- bodies

  abbrev lefts : List Known → List Part
  lefts ks = map left (firsts ks)

  abbrev rights : List Known → List Part
  rights ks = map right (map (expanded x) (firsts ks))

  abbrev AllAsked : List Known → Type 0
  AllAsked ks = Asked (exprs_in (firsts ks)) (calls_in (firsts ks))

  one_asked : (k : Known) (ks : List Known) → AllAsked (k ∷ ks) → Asked (exprs_of k.0) (calls_of k.0)
  one_asked k ks h = (
    (and_parts (list_all fine (exprs_of k.0)) (list_all fine (exprs_in (firsts ks))) (sym (list_all-append fine (exprs_of k.0) (exprs_in (firsts ks))) ∙ h.0)).0,
    each_left CallSame (calls_of k.0) (calls_in (firsts ks)) h.1,
  )

  more_asked : (k : Known) (ks : List Known) → AllAsked (k ∷ ks) → AllAsked ks
  more_asked k ks h = (
    (and_parts (list_all fine (exprs_of k.0)) (list_all fine (exprs_in (firsts ks))) (sym (list_all-append fine (exprs_of k.0) (exprs_in (firsts ks))) ∙ h.0)).1,
    each_right CallSame (calls_of k.0) (calls_in (firsts ks)) h.1,
  )

  all_names : (ks : List Known) → AllAsked ks → map names_of_part (lefts ks) ≡ map names_of_part (rights ks)
  all_names [] h = refl
  all_names (k ∷ ks) h =
      ap (λ (n : Names). n ∷ map names_of_part (lefts ks)) (k.1 (one_asked k ks h)).0
      ∙ ap (λ (ns : List Names). names_of_part (right (expanded x k.0)) ∷ ns) (all_names ks (more_asked k ks h))

  all_runs : (ks : List Known) → AllAsked ks → AllAgree old now (map run_of_part (lefts ks)) (map run_of_part (rights ks))
  all_runs [] h = tt
  all_runs (k ∷ ks) h = ((k.1 (one_asked k ks h)).1, all_runs ks (more_asked k ks h))

  as_many : (ks : List Known) → length (lefts ks) ≡ length (rights ks)
  as_many [] = refl
  as_many (k ∷ ks) = ap suc (as_many ks)

  names_same : (ks : List Known) → AllAsked ks → body_names (lefts ks) ≡ body_names (rights ks)
  names_same ks h = ap all_given (all_names ks h)

  runs_same : (ks : List Known) → AllAsked ks → RunsAgree old now (body_run (lefts ks)) (body_run (rights ks))
  runs_same ks h rest ended place =
      ap (λ n. with_count n (in_turn (map run_of_part (lefts ks)) (sight old rest ended place))) (as_many ks)
      ∙ ap (with_count (length (rights ks))) (turns_agree old now (map run_of_part (lefts ks)) (map run_of_part (rights ks)) (all_runs ks h) rest ended place)

  -- ---- form by form

  decl_same : (d : TDecl) → Holds (s.Decl d)
  decl_same d h =
      moved (left (s.Decl d)) (right (expanded x (s.Decl d)))
      (part (record { keys = plain_key d.name ∷ []; calls = [] }) (λ t. declaration t d.name d.value))
      (part (record { keys = plain_key d.name ∷ []; calls = [] }) (λ t. declaration t d.name (swapped x.own.swaps d.value)))
      (ap left (sym (s.rolls-Decl d)) ∙ opened_left (layer.Decl d))
      (ap right (expanded_decl x d ∙ sym (s.rolls-Decl (swapped_decl x.own.swaps d))) ∙ opened_right (layer.Decl (swapped_decl x.own.swaps d))) (
        refl,
        declaration_agrees old now x.own.swaps seen gone values places d.name d.value
            (and_parts (fine d.value) true (opened_asked (layer.Decl d) (subst (λ (z : Statement). Asked (exprs_of z) (calls_of z)) (sym (s.rolls-Decl d)) h)).0).0,
      )

  abbrev names_given : Run → TCall → Names
  names_given run c = record { keys = signature_keys c.name (signature run.library c.target); calls = c.name ∷ [] }

  call_same : (c : TCall) → Holds (s.Call c)
  call_same c h =
      let here : CallSame c = (opened_asked (layer.Call c) (subst (λ (z : Statement). Asked (exprs_of z) (calls_of z)) (sym (s.rolls-Call c)) h)).1.0 in
      let n : names_given r c ≡ names_given q c = ap (λ ks. record { keys = ks; calls = c.name ∷ [] }) here.keys in
      moved (left (s.Call c)) (right (expanded x (s.Call c)))
      (part (names_given r c) (call_of r callee (names_given r c) c))
      (part (names_given q c) (call_of q other (names_given q c) (expanded_call x c)))
      (ap left (sym (s.rolls-Call c)) ∙ opened_left (layer.Call c))
      (ap right (expanded_calls x c ∙ sym (s.rolls-Call (expanded_call x c))) ∙ opened_right (layer.Call (expanded_call x c))) (
        n,
        λ rest ended place. here.runs (names_given r c) rest ended place
            ∙ ap (λ (m : Names). call_of q other m (expanded_call x c) (sight now rest ended place)) n,
      )

  abbrev scatter_of : TScatter Known → TScatter Statement
  scatter_of t = record { number = t.number; item = t.item; over = t.over; body = firsts t.body; span = t.span }

  abbrev scatter_now : TScatter Known → TScatter Statement
  scatter_now t = record { number = t.number; item = t.item; over = swapped x.own.swaps t.over; body = map (expanded x) (firsts t.body); span = t.span }

  scatter_same : (t : TScatter Known) → Holds (s.Scatter (scatter_of t))
  scatter_same t h =
      let a = opened_asked (layer.Scatter (scatter_of t)) (subst (λ (z : Statement). Asked (exprs_of z) (calls_of z)) (sym (s.rolls-Scatter (scatter_of t))) h) in
      let p = and_parts (fine t.over) (list_all fine (exprs_in (firsts t.body))) a.0 in
      let b : AllAsked t.body = (p.1, a.1) in
      let n : body_names (lefts t.body) ≡ body_names (rights t.body) = names_same t.body b in
      moved (left (s.Scatter (scatter_of t))) (right (expanded x (s.Scatter (scatter_of t))))
      (part (body_names (lefts t.body)) (scatter_run (body_names (lefts t.body)) (body_run (lefts t.body)) t.number t.item t.over))
      (part (body_names (rights t.body)) (scatter_run (body_names (rights t.body)) (body_run (rights t.body)) t.number t.item (swapped x.own.swaps t.over)))
      (ap left (sym (s.rolls-Scatter (scatter_of t))) ∙ opened_left (layer.Scatter (scatter_of t)))
      (ap right (expanded_scatter x (scatter_of t) ∙ sym (s.rolls-Scatter (scatter_now t))) ∙ opened_right (layer.Scatter (scatter_now t))) (
        n,
        λ rest ended place.
            scatter_agrees old now x.own.swaps seen gone values places (body_names (lefts t.body)) (body_run (lefts t.body)) (body_run (rights t.body)) t.number t.item t.over
            p.0 (runs_same t.body b) rest ended place
            ∙ ap (λ (m : Names). scatter_run m (body_run (rights t.body)) t.number t.item (swapped x.own.swaps t.over) (sight now rest ended place)) n,
      )

  abbrev if_of : TIf Known → TIf Statement
  if_of t = record { number = t.number; cond = t.cond; body = firsts t.body; span = t.span }

  abbrev if_now : TIf Known → TIf Statement
  if_now t = record { number = t.number; cond = swapped x.own.swaps t.cond; body = map (expanded x) (firsts t.body); span = t.span }

  if_same : (t : TIf Known) → Holds (s.If (if_of t))
  if_same t h =
      let a = opened_asked (layer.If (if_of t)) (subst (λ (z : Statement). Asked (exprs_of z) (calls_of z)) (sym (s.rolls-If (if_of t))) h) in
      let p = and_parts (fine t.cond) (list_all fine (exprs_in (firsts t.body))) a.0 in
      let b : AllAsked t.body = (p.1, a.1) in
      let n : body_names (lefts t.body) ≡ body_names (rights t.body) = names_same t.body b in
      moved (left (s.If (if_of t))) (right (expanded x (s.If (if_of t))))
      (part (body_names (lefts t.body)) (if_run (body_names (lefts t.body)) (body_run (lefts t.body)) t.number t.cond))
      (part (body_names (rights t.body)) (if_run (body_names (rights t.body)) (body_run (rights t.body)) t.number (swapped x.own.swaps t.cond)))
      (ap left (sym (s.rolls-If (if_of t))) ∙ opened_left (layer.If (if_of t)))
      (ap right (expanded_if x (if_of t) ∙ sym (s.rolls-If (if_now t))) ∙ opened_right (layer.If (if_now t))) (
        n,
        λ rest ended place.
            if_agrees old now x.own.swaps seen gone values places (body_names (lefts t.body)) (body_run (lefts t.body)) (body_run (rights t.body)) t.number t.cond
            p.0 (runs_same t.body b) rest ended place
            ∙ ap (λ (m : Names). if_run m (body_run (rights t.body)) t.number (swapped x.own.swaps t.cond) (sight now rest ended place)) n,
      )

  by_layer : (y : Statement-F Known) → Holds (roll-Statement (plain y))
  by_layer (layer.Decl d) = subst Holds (sym (s.rolls-Decl d)) (decl_same d)
  by_layer (layer.Call c) = subst Holds (sym (s.rolls-Call c)) (call_same c)
  by_layer (layer.Scatter t) = subst Holds (sym (s.rolls-Scatter (scatter_of t))) (scatter_same t)
  by_layer (layer.If t) = subst Holds (sym (s.rolls-If (if_of t))) (if_same t)

  same : (st : Statement) → Holds st
  same = ind-Statement Holds (λ l y is. subst (λ (z : Statement-F Statement). Holds (roll-Statement z)) is (by_layer y))

  abbrev with_facts : (ss : List Statement) → List Known
  with_facts [] = []
  with_facts (t ∷ ss) = (t, same t) ∷ with_facts ss

  firsts_are : (ss : List Statement) → firsts (with_facts ss) ≡ ss
  firsts_are [] = refl
  firsts_are (t ∷ ss) = ap (λ (ts : List Statement). t ∷ ts) (firsts_are ss)

  pub body_same : (ss : List Statement) → Asked (exprs_in ss) (calls_in ss)
      → RunsAgree old now (body_run (map left ss)) (body_run (map right (map (expanded x) ss)))
  body_same ss h =
      let e : firsts (with_facts ss) ≡ ss = firsts_are ss in
      subst (λ (ts : List Statement). RunsAgree old now (body_run (map left ts)) (body_run (map right (map (expanded x) ts)))) e
      (runs_same (with_facts ss) (subst (λ (ts : List Statement). Asked (exprs_in ts) (calls_in ts)) (sym e) h))

pub bodies_agree : BodiesAgree
bodies_agree r q callee other x old now seen gone ss p = body_same r q callee other x old now seen gone p.values p.places ss (p.fine, p.calls)
