-- Calls have places that differ, whether they were asked or not: the places of two statements of a body begin with different segments.
use Rattle.std.proofs.Common.{ℕ, List, [], ◌∷◌, ◌++◌, arith, ap, refl, subst, sym, ◌∙◌}
use Rattle.wdl_base.specs.declared.place.Segment.TheVariants as segment
use Rattle.wdl_value.specs.Tables.{Row}
use Rattle.wdl_typed.specs.declared.flow.Statement.TheOpen as layer
use Rattle.wdl_typed.specs.declared.flow.Statement.TheVariants as stmt
use Rattle.wdl_typed.specs.declared.flow.TCall.{TCall}
use Rattle.wdl_typed.specs.Bodies.{Library}
use Rattle.flow_laws.proofs.Checked.{IsKept, flow_at_kept, kept}
use Rattle.flow_laws.proofs.Elements.{none_within, only_one}
use Rattle.flow_laws.proofs.Signs.{heads, heads_all}
use Rattle.net_laws.specs.Askers.{Asker}
use Rattle.net_laws.specs.Growing.{Form, Growing, Rule, State, absent_input, default_input, each_scatter, failed_if, failed_scatter, false_if, flow_whole, given_input, item_next, left_call, left_decl, left_if, left_scatter, next, no_input, no_item, no_output, none_left, output_next, run_call, told_call, told_decl, true_if}
use Rattle.net_laws.specs.Net.{Scope}
use Rattle.net_laws.specs.Roots.{IsRoot}
use Rattle.net_laws.proofs.Places.{AllApart, Differ, first_differs, rest_differs, heads_of_layer, scatter_differs, if_differs, flow_differs, heads_apart, Spread, Spreads, nobody, spread_deeper, spread_same, spread_both, items_below, items_both, nil_right, apart_of}
use Rattle.plan_may.proofs.Callers.{callers}

-- ---- what grows

module _ (lib : Library) (kept_ : IsKept lib) (site : List ℕ) (table : List Row) (desc : ℕ → Rule → Type 0) (st : State) where
  abbrev asking : {depth : ℕ} {f : Form} → Growing lib site table desc st depth f → List Asker
  asking p = callers lib site table desc st p

  -- ---- statements

  call_spread : (x : TCall) (s : Scope) (t : ℕ) → Spread s.place (heads (stmt.Call x)) (record { step = t; place = s.place ++ segment.Call x.name ∷ [] } ∷ [])
  call_spread x s t =
      spread_same s.place (segment.Call x.name ∷ []) (heads (stmt.Call x)) (record { step = t; place = s.place ++ segment.Call x.name ∷ [] } ∷ []) (sym (heads_of_layer (stmt.Call x) (layer.Call x) (stmt.outs-Call x)))
      (record {
        under = λ q c. (segment.Call x.name, [], (0, omega arith, refl), ap (λ (r : Asker). r.place) (sym (only_one c)));
        apart = (λ r c. absurd (none_within r c), tt);
      })

  spread : {depth : ℕ} {f : Form} (p : Growing lib site table desc st depth f) → Differ f → Spreads f (asking p)
  spread (none_left depth s) d = nobody s.place []
  spread (next depth x xs s g h d ds p q) e =
      spread_both s.place (heads x) (heads_all xs) (asking p) (asking q) (heads_apart x xs e) (spread p (first_differs x xs e)) (spread q (rest_differs x xs e))
  spread (left_decl depth x s c t left n k) e = nobody s.place _
  spread (left_call depth x s g d t left n is ends k) e = call_spread x s t
  spread (left_scatter depth x s g d t left n outside k) e = nobody s.place _
  spread (left_if depth x s g d t left n outside k) e = nobody s.place _
  spread (told_decl depth x s c t w taken n set own follows) e = nobody s.place _
  spread (told_call depth x s g d t w taken n set is ends own plain follows) e = call_spread x s t
  spread (run_call depth x s g h d t ds taken n set k is f found args met names ends distinct p copied ended) e =
      spread_same s.place (segment.Call x.name ∷ []) (heads (stmt.Call x)) (asking p) (sym (heads_of_layer (stmt.Call x) (layer.Call x) (stmt.outs-Call x)))
      (spread_deeper s.place (segment.Call x.name) (heads_all f.body) (asking p) (spread p (flow_differs f (flow_at_kept lib kept_ k f found))))
  spread (failed_scatter depth x s g d t c taken n set e outside k) i = nobody s.place _
  spread (each_scatter depth x s g d t y qs taken n set e outside p names calls ended) i =
      spread_same s.place (segment.Scatter x.number ∷ []) (heads (stmt.Scatter x)) (asking p) (sym (heads_of_layer (stmt.Scatter x) (layer.Scatter x) (stmt.outs-Scatter x)))
      (items_below s.place x.number 0 (asking p) (spread p (scatter_differs x i)))
  spread (failed_if depth x s g d t c taken n set e outside k) i = nobody s.place _
  spread (false_if depth x s g d t y taken n set e off outside own same done) i = nobody s.place _
  spread (true_if depth x s g h d t ds y taken n set e on outside p names calls ended) i =
      spread_same s.place (segment.If x.number ∷ []) (heads (stmt.If x)) (asking p) (sym (heads_of_layer (stmt.If x) (layer.If x) (stmt.outs-If x)))
      (spread_deeper s.place (segment.If x.number) (heads_all x.body) (asking p) (spread p (if_differs x i)))
  spread (no_item depth xs s k item i) e = record { under = λ q c. absurd (none_within q c); apart = tt }
  spread (item_next depth xs s k item i cell y ys g ds qs is p q) e = items_both s.place k i (heads_all xs) (asking p) (asking q) (spread p e) (spread q e)
  spread (no_input depth given s) e = refl
  spread (given_input depth given i is s h c y e found p) j = spread p tt
  spread (absent_input depth given i is s h c e lacking found p) j = spread p tt
  spread (default_input depth given i is s h c e lacking some d p) j = spread p tt
  spread (no_output depth s) e = refl
  spread (output_next depth x xs s h c d p) e = spread p tt
  spread (flow_whole depth f given place i b o ds p q r) e =
      subst (Spread place (heads_all f.body)) (sym (ap (λ (qs : List Asker). (qs ++ asking q) ++ asking r) (spread p tt) ∙ ap (λ (qs : List Asker). asking q ++ qs) (spread r tt) ∙ nil_right (asking q))) (spread q e)

-- In what grows of a checked form, calls at one place are one, those that were not asked too.
pub callers_apart : (lib : Library) (site : List ℕ) (table : List Row) (desc : ℕ → Rule → Type 0) (st : State) (depth : ℕ) (f : Form) → IsRoot lib depth f → (p : Growing lib site table desc st depth f)
    → AllApart (callers lib site table desc st p)
callers_apart lib site table desc st depth f r p =
    let k = kept lib r.main r.checked in
    apart_of f (callers lib site table desc st p) (spread lib k site table desc st p (subst Differ (sym r.is) (flow_differs r.flow (flow_at_kept lib k r.number r.flow r.found))))
