-- The calls of what grows, whether they were asked or not: their steps and places.
use Rattle.std.proofs.Common.{◌≡◌, ◌<◌, ℕ, ◌+◌, Bool, true, false, ◌⊎◌, inl, inr, List, [], ◌∷◌, ◌++◌, Contains, arith, ap, refl, subst, sym, ◌∙◌}
use Rattle.std.proofs.lemmas.Bool.{false≢true}
use Rattle.std.proofs.lemmas.List.Elements.{Contains-append_left, Contains-append_right}
use Rattle.wdl_base.specs.declared.place.Segment.{Segment}
use Rattle.wdl_base.specs.declared.place.Segment.TheVariants as segment
use Rattle.wdl_value.specs.Tables.{Row}
use Rattle.wdl_typed.specs.declared.expr.TExpr.{TExpr}
use Rattle.wdl_typed.specs.declared.flow.Statement.{Statement, Statement-F, out-Statement}
use Rattle.wdl_typed.specs.declared.flow.Statement.TheOpen as layer
use Rattle.wdl_typed.specs.declared.flow.Statement.TheVariants as stmt
use Rattle.wdl_typed.specs.declared.flow.TCall.{TCall}
use Rattle.wdl_typed.specs.Bodies.{Library}
use Rattle.net_laws.specs.Askers.{Asker}
use Rattle.net_laws.specs.Growing.{Declared, Form, Growing, Rule, State, absent_input, copies, declares, default_input, does, each_scatter, ends, failed_if, failed_scatter, false_if, flow_whole, gathers, given_input, item_next, left_call, left_decl, left_if, left_scatter, next, no_input, no_item, no_output, none_left, output_next, run_call, told_call, told_decl, true_if}
use Rattle.net_laws.specs.Moving.{at_step, declared_at, hit}
use Rattle.net_laws.specs.Net.{Given, Scope}
use Rattle.net_laws.proofs.Asking.{is_hit, some_of}

module _ (lib : Library) (site : List ℕ) (table : List Row) (desc : ℕ → Rule → Type 0) (st : State) where
  abbrev pub callers : {depth : ℕ} {f : Form} → Growing lib site table desc st depth f → List Asker
  callers (none_left depth s) = []
  callers (next depth x xs s g h d ds p q) = callers p ++ callers q
  callers (left_decl depth x s c t left n k) = []
  callers (left_call depth x s g d t left n is at k) = record { step = t; place = s.place ++ segment.Call x.name ∷ [] } ∷ []
  callers (left_scatter depth x s g d t left n outside k) = []
  callers (left_if depth x s g d t left n outside k) = []
  callers (told_decl depth x s c t w taken n set own follows) = []
  callers (told_call depth x s g d t w taken n set is at own plain follows) = record { step = t; place = s.place ++ segment.Call x.name ∷ [] } ∷ []
  callers (run_call depth x s g h d t ds taken n set k is f found args met names at distinct p copied ended) = callers p
  callers (failed_scatter depth x s g d t c taken n set e outside k) = []
  callers (each_scatter depth x s g d t y qs taken n set e outside p names calls ended) = callers p
  callers (failed_if depth x s g d t c taken n set e outside k) = []
  callers (false_if depth x s g d t y taken n set e off outside own same done) = []
  callers (true_if depth x s g h d t ds y taken n set e on outside p names calls ended) = callers p
  callers (no_item depth xs s k item i) = []
  callers (item_next depth xs s k item i cell y ys g ds qs is p q) = callers p ++ callers q
  callers (no_input depth given s) = []
  callers (given_input depth given i is s h c y e found p) = callers p
  callers (absent_input depth given i is s h c e lacking found p) = callers p
  callers (default_input depth given i is s h c e lacking some d p) = callers p
  callers (no_output depth s) = []
  callers (output_next depth x xs s h c d p) = callers p
  callers (flow_whole depth f given place i b o ds p q r) = callers p ++ callers q ++ callers r

abbrev is_call : Statement-F Statement → Bool
is_call (layer.Call x) = true
is_call y = false

abbrev calls : Rule → Bool
calls (does x s g d) = is_call (out-Statement x)
calls (declares name e s c) = false
calls (gathers parts c) = false
calls (ends parts c) = false
calls (copies from c) = false

abbrev layer_place : Statement-F Statement → Scope → List Segment
layer_place (layer.Call x) s = s.place ++ segment.Call x.name ∷ []
layer_place y s = []

abbrev rule_place : Rule → List Segment
rule_place (does x s g d) = layer_place (out-Statement x) s
rule_place (declares name e s c) = []
rule_place (gathers parts c) = []
rule_place (ends parts c) = []
rule_place (copies from c) = []

call_place : (x : Statement) (y : TCall) (s : Scope) (g : Given) (d : ℕ) → out-Statement x ≡ layer.Call y → rule_place (does x s g d) ≡ s.place ++ segment.Call y.name ∷ []
call_place x y s g d e = ap (λ (z : Statement-F Statement). layer_place z s) e

-- The step of a call stands among the calls, where it is left and where it was asked.
module _ (lib : Library) (site : List ℕ) (table : List Row) (desc : ℕ → Rule → Type 0) (st : State) (t : ℕ) (own : Statement) (call : TCall) (is_own : out-Statement own ≡ layer.Call call) (scope : Scope)
    (given : Given) (end : ℕ) (same : (q : Rule) → desc t q → q ≡ does own scope given end) where
  abbrev calling : {depth : ℕ} {f : Form} → Growing lib site table desc st depth f → List Asker
  calling p = callers lib site table desc st p

  abbrev hits : {depth : ℕ} {f : Form} → Growing lib site table desc st depth f → ℕ
  hits p = at_step lib site table desc st t 1 p

  abbrev place : List Segment
  place = scope.place ++ segment.Call call.name ∷ []

  abbrev Here : List Asker → Type 0
  Here qs = Contains qs (record { step = t; place = place })

  own_rule : (u : ℕ) (q : Rule) → desc u q → u ≡ t → q ≡ does own scope given end
  own_rule u q h e = same q (subst (λ (n : ℕ). desc n q) e h)

  not_left : {A : Type 0} (u : ℕ) (r : Rule) → calls r ≡ false → desc u r → 0 < hit t 1 u → A
  not_left u r n l h =
      absurd (false≢true (sym n ∙ ap calls (own_rule u r l (is_hit t u h)) ∙ ap is_call is_own))

  not_layer : {A : Type 0} (u : ℕ) (x : Statement) (y : Statement-F Statement) (s : Scope) (g : Given) (d : ℕ) → out-Statement x ≡ y → is_call y ≡ false → desc u (does x s g d) → 0 < hit t 1 u → A
  not_layer u x y s g d e n l h = not_left u (does x s g d) (ap is_call e ∙ n) l h

  not_declared : {A : Type 0} (name : List ℕ) (e : TExpr) (s : Scope) (c : ℕ) (d : Declared lib site table desc st name e s c) → 0 < declared_at lib site table desc st t 1 name e s c d → A
  not_declared name e s c (u, n, inl p) h = not_left u (declares name e s c) refl p.0.rule h
  not_declared name e s c (u, n, inr p) h = absurd (omega (arith, h))

  left_here : (qs rs : List Asker) → Here qs → Here (qs ++ rs)
  left_here qs rs c = Contains-append_left qs rs _ c

  right_here : (qs rs : List Asker) → Here rs → Here (qs ++ rs)
  right_here qs rs c = Contains-append_right qs rs _ c

  either_here : (qs rs : List Asker) (m n : ℕ) → (0 < m → Here qs) → (0 < n → Here rs) → (0 < m) ⊎ (0 < n) → Here (qs ++ rs)
  either_here qs rs m n f g (inl h) = left_here qs rs (f h)
  either_here qs rs m n f g (inr h) = right_here qs rs (g h)

  told_here : (u : ℕ) (x : TCall) (s : Scope) (g : Given) (d : ℕ) → desc u (does (stmt.Call x) s g d) → u ≡ t → Here (record { step = u; place = s.place ++ segment.Call x.name ∷ [] } ∷ [])
  told_here u x s g d r e = (
    0,
    omega arith,
    ap (λ (n : ℕ). (let q : Asker = record { step = n; place = s.place ++ segment.Call x.name ∷ [] } in q)) e
        ∙ ap (λ (p : List Segment). (let q : Asker = record { step = t; place = p } in q))
        (sym (call_place (stmt.Call x) x s g d (stmt.outs-Call x)) ∙ ap rule_place (own_rule u (does (stmt.Call x) s g d) r e) ∙ call_place own call scope given end is_own),
  )

  pub caller_there : {depth : ℕ} {f : Form} (p : Growing lib site table desc st depth f) → 0 < hits p → Here (calling p)
  caller_there (none_left depth s) h = absurd (omega (arith, h))
  caller_there (next depth x xs s g h_ d ds p q) h = either_here (calling p) (calling q) (hits p) (hits q) (caller_there p) (caller_there q) (some_of (hits p) (hits q) h)
  caller_there (left_decl depth x s c u left n k) h = not_layer u (stmt.Decl x) (layer.Decl x) s _ c (stmt.outs-Decl x) refl left.rule h
  caller_there (left_call depth x s g d u left n is at k) h = told_here u x s g d left.rule (is_hit t u h)
  caller_there (left_scatter depth x s g d u left n outside k) h = not_layer u (stmt.Scatter x) (layer.Scatter x) s g d (stmt.outs-Scatter x) refl left.rule h
  caller_there (left_if depth x s g d u left n outside k) h = not_layer u (stmt.If x) (layer.If x) s g d (stmt.outs-If x) refl left.rule h
  caller_there (told_decl depth x s c u w done n set own follows) h = absurd (omega (arith, h))
  caller_there (told_call depth x s g d u w done n set is at own plain follows) h = told_here u x s g d done.rule (is_hit t u h)
  caller_there (run_call depth x s g h_ d u ds done n set k is f found args met names at distinct p copied ended) h = caller_there p h
  caller_there (failed_scatter depth x s g d u c done n set e outside k) h = absurd (omega (arith, h))
  caller_there (each_scatter depth x s g d u y qs done n set e outside p names calls ended) h = caller_there p h
  caller_there (failed_if depth x s g d u c done n set e outside k) h = absurd (omega (arith, h))
  caller_there (false_if depth x s g d u y done n set e off outside own same finished) h = absurd (omega (arith, h))
  caller_there (true_if depth x s g h_ d u ds y done n set e on outside p names calls ended) h = caller_there p h
  caller_there (no_item depth xs s k item i) h = absurd (omega (arith, h))
  caller_there (item_next depth xs s k item i cell y ys g ds qs is p q) h = either_here (calling p) (calling q) (hits p) (hits q) (caller_there p) (caller_there q) (some_of (hits p) (hits q) h)
  caller_there (no_input depth given s) h = absurd (omega (arith, h))
  caller_there (given_input depth given i is s h_ c y e found p) h = caller_there p h
  caller_there (absent_input depth given i is s h_ c e lacking found p) h = caller_there p h
  caller_there (default_input depth given i is s h_ c e lacking some d p) h = go (some_of _ (hits p) h) (caller_there p)
    where
      go : (0 < declared_at lib site table desc st t 1 i.name e s c d) ⊎ (0 < hits p) → (0 < hits p → Here (calling p)) → Here (calling p)
      go (inl l) rest = not_declared i.name e s c d l
      go (inr l) rest = rest l
  caller_there (no_output depth s) h = absurd (omega (arith, h))
  caller_there (output_next depth x xs s h_ c d p) h = go (some_of _ (hits p) h) (caller_there p)
    where
      go : (0 < declared_at lib site table desc st t 1 x.name x.value s c d) ⊎ (0 < hits p) → (0 < hits p → Here (calling p)) → Here (calling p)
      go (inl l) rest = not_declared x.name x.value s c d l
      go (inr l) rest = rest l
  caller_there (flow_whole depth f given place_ i b o ds p q r) h = go (some_of (hits p) (hits q + hits r) h) (caller_there p) (caller_there q) (caller_there r)
    where
      later : (0 < hits q) ⊎ (0 < hits r) → (0 < hits q → Here (calling q)) → (0 < hits r → Here (calling r)) → Here (calling p ++ calling q ++ calling r)
      later (inl l) g j = left_here (calling p ++ calling q) (calling r) (right_here (calling p) (calling q) (g l))
      later (inr l) g j = right_here (calling p ++ calling q) (calling r) (j l)

      go : (0 < hits p) ⊎ (0 < hits q + hits r) → (0 < hits p → Here (calling p)) → (0 < hits q → Here (calling q)) → (0 < hits r → Here (calling r)) → Here (calling p ++ calling q ++ calling r)
      go (inl l) f_ g j = left_here (calling p ++ calling q) (calling r) (left_here (calling p) (calling q) (f_ l))
      go (inr l) f_ g j = later (some_of (hits q) (hits r) l) g j
