-- A call that was asked stands among the calls at its place, and no other one does.
use Rattle.std.proofs.Common.{◌≡◌, ◌<◌, ℕ, zero, suc, ◌+◌, Bool, true, cond, ◌⊎◌, inl, inr, List, [], ◌∷◌, ◌++◌, Contains, arith, ap, subst, sym, ◌∙◌}
use Rattle.std.proofs.lemmas.Bool.{cases_eq, ne_eqb, true≢false}
use Rattle.std.proofs.lemmas.List.Elements.{Contains-append_left, Contains-append_right}
use Rattle.wdl_base.specs.declared.place.Segment.{Segment}
use Rattle.wdl_base.specs.declared.place.Segment.TheVariants as segment
use Rattle.wdl_value.specs.Tables.{Row}
use Rattle.wdl_typed.specs.declared.expr.TExpr.{TExpr}
use Rattle.wdl_typed.specs.declared.flow.Statement.TheVariants as stmt
use Rattle.wdl_typed.specs.declared.flow.TCall.{TCall}
use Rattle.wdl_typed.specs.Bodies.{Library}
use Rattle.net_laws.specs.Askers.{Asker, askers}
use Rattle.net_laws.specs.Growing.{Declared, Form, Growing, IsLeft, Rule, State, absent_input, declares, default_input, does, each_scatter, failed_if, failed_scatter, false_if, flow_whole, given_input, item_next, left_call, left_decl, left_if, left_scatter, next, no_input, no_item, no_output, none_left, output_next, run_call, told_call, told_decl, true_if}
use Rattle.net_laws.specs.Moving.{at_step, declared_at, hit}
use Rattle.net_laws.specs.Net.{Given, Scope}
use Rattle.net_laws.specs.Roots.{IsRoot}
use Rattle.net_laws.proofs.Places.{one_at_a_place, root_apart}

pub is_hit : (t u : ℕ) → 0 < hit t 1 u → u ≡ t
is_hit t u h = go (cases_eq u t)
  where
    go : (u ≡ t) ⊎ (u ≡ t → ⊥) → u ≡ t
    go (inl e) = e
    go (inr n) = let z : hit t 1 u ≡ 0 = ap (λ (b : Bool). cond b 1 0) (ne_eqb u t n) in absurd (omega (arith, h, z))

pub some_of : (a b : ℕ) → 0 < a + b → (0 < a) ⊎ (0 < b)
some_of zero b h = inr (omega (arith, h))
some_of (suc a) b h = inl (omega arith)

module _ (lib : Library) (site : List ℕ) (table : List Row) (desc : ℕ → Rule → Type 0) (st : State) (t : ℕ) (place : List Segment) (taken : st.taken t ≡ true)
    (at : (x : TCall) (s : Scope) (g : Given) (d : ℕ) → desc t (does (stmt.Call x) s g d) → s.place ++ segment.Call x.name ∷ [] ≡ place) where
  abbrev asking : {depth : ℕ} {f : Form} → Growing lib site table desc st depth f → List Asker
  asking p = askers lib site table desc st p

  abbrev hits : {depth : ℕ} {f : Form} → Growing lib site table desc st depth f → ℕ
  hits p = at_step lib site table desc st t 1 p

  abbrev Here : List Asker → Type 0
  Here qs = Contains qs (record { step = t; place = place })

  not_left : {A : Type 0} (u : ℕ) (r : Rule) → IsLeft lib site table desc st u r → 0 < hit t 1 u → A
  not_left u r l h = absurd (true≢false (sym taken ∙ ap st.taken (sym (is_hit t u h)) ∙ l.left))

  not_declared : {A : Type 0} (name : List ℕ) (e : TExpr) (s : Scope) (c : ℕ) (d : Declared lib site table desc st name e s c) → 0 < declared_at lib site table desc st t 1 name e s c d → A
  not_declared name e s c (u, n, inl p) h = not_left u (declares name e s c) p.0 h
  not_declared name e s c (u, n, inr p) h = absurd (omega (arith, h))

  left_here : (qs rs : List Asker) → Here qs → Here (qs ++ rs)
  left_here qs rs c = Contains-append_left qs rs _ c

  right_here : (qs rs : List Asker) → Here rs → Here (qs ++ rs)
  right_here qs rs c = Contains-append_right qs rs _ c

  either_here : (qs rs : List Asker) (m n : ℕ) → (0 < m → Here qs) → (0 < n → Here rs) → (0 < m) ⊎ (0 < n) → Here (qs ++ rs)
  either_here qs rs m n f g (inl h) = left_here qs rs (f h)
  either_here qs rs m n f g (inr h) = right_here qs rs (g h)

  told_here : (u : ℕ) (x : TCall) (s : Scope) (g : Given) (d : ℕ) → desc u (does (stmt.Call x) s g d) → u ≡ t → Here (record { step = u; place = s.place ++ segment.Call x.name ∷ [] } ∷ [])
  told_here u x s g d r e = (
    0,
    omega arith,
    ap (λ (n : ℕ). (let q : Asker = record { step = n; place = s.place ++ segment.Call x.name ∷ [] } in q)) e
        ∙ ap (λ (p : List Segment). (let q : Asker = record { step = t; place = p } in q)) (at x s g d (subst (λ (n : ℕ). desc n (does (stmt.Call x) s g d)) e r)),
  )

  pub asker_there : {depth : ℕ} {f : Form} (p : Growing lib site table desc st depth f) → 0 < hits p → Here (asking p)
  asker_there (none_left depth s) h = absurd (omega (arith, h))
  asker_there (next depth x xs s g h_ d ds p q) h = either_here (asking p) (asking q) (hits p) (hits q) (asker_there p) (asker_there q) (some_of (hits p) (hits q) h)
  asker_there (left_decl depth x s c u left n k) h = not_left u _ left h
  asker_there (left_call depth x s g d u left n is ends k) h = not_left u _ left h
  asker_there (left_scatter depth x s g d u left n outside k) h = not_left u _ left h
  asker_there (left_if depth x s g d u left n outside k) h = not_left u _ left h
  asker_there (told_decl depth x s c u w done n set own follows) h = absurd (omega (arith, h))
  asker_there (told_call depth x s g d u w done n set is ends own plain follows) h = told_here u x s g d done.rule (is_hit t u h)
  asker_there (run_call depth x s g h_ d u ds done n set k is f found args met names ends distinct p copied ended) h = asker_there p h
  asker_there (failed_scatter depth x s g d u c done n set e outside k) h = absurd (omega (arith, h))
  asker_there (each_scatter depth x s g d u y qs done n set e outside p names calls ended) h = asker_there p h
  asker_there (failed_if depth x s g d u c done n set e outside k) h = absurd (omega (arith, h))
  asker_there (false_if depth x s g d u y done n set e off outside own same finished) h = absurd (omega (arith, h))
  asker_there (true_if depth x s g h_ d u ds y done n set e on outside p names calls ended) h = asker_there p h
  asker_there (no_item depth xs s k item i) h = absurd (omega (arith, h))
  asker_there (item_next depth xs s k item i cell y ys g ds qs is p q) h = either_here (asking p) (asking q) (hits p) (hits q) (asker_there p) (asker_there q) (some_of (hits p) (hits q) h)
  asker_there (no_input depth given s) h = absurd (omega (arith, h))
  asker_there (given_input depth given i is s h_ c y e found p) h = asker_there p h
  asker_there (absent_input depth given i is s h_ c e lacking found p) h = asker_there p h
  asker_there (default_input depth given i is s h_ c e lacking some d p) h = go (some_of _ (hits p) h) (asker_there p)
    where
      go : (0 < declared_at lib site table desc st t 1 i.name e s c d) ⊎ (0 < hits p) → (0 < hits p → Here (asking p)) → Here (asking p)
      go (inl l) rest = not_declared i.name e s c d l
      go (inr l) rest = rest l
  asker_there (no_output depth s) h = absurd (omega (arith, h))
  asker_there (output_next depth x xs s h_ c d p) h = go (some_of _ (hits p) h) (asker_there p)
    where
      go : (0 < declared_at lib site table desc st t 1 x.name x.value s c d) ⊎ (0 < hits p) → (0 < hits p → Here (asking p)) → Here (asking p)
      go (inl l) rest = not_declared x.name x.value s c d l
      go (inr l) rest = rest l
  asker_there (flow_whole depth f given place_ i b o ds p q r) h = go (some_of (hits p) (hits q + hits r) h) (asker_there p) (asker_there q) (asker_there r)
    where
      later : (0 < hits q) ⊎ (0 < hits r) → (0 < hits q → Here (asking q)) → (0 < hits r → Here (asking r)) → Here (asking p ++ asking q ++ asking r)
      later (inl l) g j = left_here (asking p ++ asking q) (asking r) (right_here (asking p) (asking q) (g l))
      later (inr l) g j = right_here (asking p ++ asking q) (asking r) (j l)

      go : (0 < hits p) ⊎ (0 < hits q + hits r) → (0 < hits p → Here (asking p)) → (0 < hits q → Here (asking q)) → (0 < hits r → Here (asking r)) → Here (asking p ++ asking q ++ asking r)
      go (inl l) f_ g j = left_here (asking p ++ asking q) (asking r) (left_here (asking p) (asking q) (f_ l))
      go (inr l) f_ g j = later (some_of (hits q) (hits r) l) g j

  -- No other call has its place.
  pub others_elsewhere : (depth : ℕ) (f : Form) → IsRoot lib depth f → (p : Growing lib site table desc st depth f) → 0 < hits p → (q : Asker) → Contains (asking p) q → (q.step ≡ t → ⊥) → q.place ≡ place → ⊥
  others_elsewhere depth f r p h q c n e =
      n (ap (λ (x : Asker). x.step) (one_at_a_place (asking p) (root_apart lib site table desc st depth f r p) q (record { step = t; place = place }) c (asker_there p h) e))
