-- The calls that were asked have places that differ: what two statements of a body ask begins with different segments.
use Rattle.std.proofs.Common.{◌≡◌, ◌≤◌, ℕ, ◌+◌, true, ◌&&◌, ◌⊎◌, inl, inr, List, [], ◌∷◌, ◌++◌, append_assoc, Contains, length, map, arith, ap, refl, subst, sym, ◌∙◌}
use Rattle.std.specs.List.{list_all}
use Rattle.std.proofs.lemmas.Bool.{and_parts, or_left}
use Rattle.std.proofs.lemmas.Bool.Decides.{Decides-eqb}
use Rattle.std.proofs.lemmas.List.{append_cancel_left}
use Rattle.std.proofs.lemmas.List.Elements.{Contains-append_cases, Contains-append_left, Contains-append_right}
use Rattle.std.proofs.lemmas.Slice.Eq.{bytes_eq-Decides}
use Rattle.wdl_base.specs.declared.place.Segment.{Segment}
use Rattle.wdl_base.specs.declared.place.Segment.TheVariants as segment
use Rattle.wdl_value.specs.Tables.{Row}
use Rattle.wdl_typed.specs.declared.flow.FlowDef.{FlowDef}
use Rattle.wdl_typed.specs.declared.flow.Statement.{Statement, Statement-F, fold-Statement, fold_out-Statement, map-Statement, out-Statement}
use Rattle.wdl_typed.specs.declared.flow.Statement.TheOpen as layer
use Rattle.wdl_typed.specs.declared.flow.Statement.TheVariants as stmt
use Rattle.wdl_typed.specs.declared.flow.TCall.{TCall}
use Rattle.wdl_typed.specs.declared.flow.TIf.{TIf}
use Rattle.wdl_typed.specs.declared.flow.TScatter.{TScatter}
use Rattle.wdl_typed.specs.Bodies.{Library, Numbered, all_declared, append_numbers, body_numbered, declared, names_step, numbered_step}
use Rattle.wdl_typed.specs.Declarations.{decl_names, input_names}
use Rattle.wdl_typed.specs.Lists.{are_below, are_counted, are_distinct, numbers_differ}
use Rattle.flow_laws.proofs.Checked.{IsFlow, IsKept, flow_at_kept, kept, names_left, names_right}
use Rattle.flow_laws.proofs.Elements.{first_or_later, none_within, only_one}
use Rattle.flow_laws.proofs.Signs.{Apart, Signed, heads, heads_all, heads_step, numbers_right, signed_apart, signed_left, signed_right}
use Rattle.net_laws.specs.Askers.{Asker, askers}
use Rattle.net_laws.specs.Growing.{Form, Growing, Rule, State, absent_input, all, default_input, each, each_scatter, failed_if, failed_scatter, false_if, flow_whole, given_input, item_next, left_call, left_decl, left_if, left_scatter, next, no_input, no_item, no_output, none_left, one, output_next, run_call, takes, tells, told_call, told_decl, true_if, whole}
use Rattle.net_laws.specs.Net.{Scope}
use Rattle.net_laws.specs.Roots.{IsRoot}
use Rattle.flow_laws.proofs.Differing.{first_segment as first_same}

-- ---- lists of calls

abbrev pub AllApart : List Asker → Type 0
AllApart [] = Unit {0}
AllApart (q ∷ qs) = ((r : Asker) → Contains qs r → r.place ≡ q.place → ⊥) × AllApart qs

-- Two calls at one place are one call.
pub one_at_a_place : (qs : List Asker) → AllApart qs → (q r : Asker) → Contains qs q → Contains qs r → q.place ≡ r.place → q ≡ r
one_at_a_place [] a q r c d e = absurd (none_within q c)
one_at_a_place (p ∷ qs) a q r c d e = by_case (one_at_a_place qs a.1 q r) (first_or_later p qs q c) (first_or_later p qs r d)
  where
    by_case : (Contains qs q → Contains qs r → q.place ≡ r.place → q ≡ r) → (p ≡ q) ⊎ Contains qs q → (p ≡ r) ⊎ Contains qs r → q ≡ r
    by_case later (inl i) (inl j) = sym i ∙ j
    by_case later (inl i) (inr j) = absurd (a.0 r j (sym e ∙ ap (λ (x : Asker). x.place) (sym i)))
    by_case later (inr i) (inl j) = absurd (a.0 q i (e ∙ ap (λ (x : Asker). x.place) (sym j)))
    by_case later (inr i) (inr j) = later i j e

both_apart : (qs rs : List Asker) → AllApart qs → AllApart rs → ((q r : Asker) → Contains qs q → Contains rs r → q.place ≡ r.place → ⊥) → AllApart (qs ++ rs)
both_apart [] rs a b cross = b
both_apart (q ∷ qs) rs a b cross = (
  λ r c e. by_case r e (Contains-append_cases qs rs r c),
  both_apart qs rs a.1 b (λ p r c. cross p r (Contains-append_right (q ∷ []) qs p c)),
)
  where
    by_case : (r : Asker) → r.place ≡ q.place → Contains qs r ⊎ Contains rs r → ⊥
    by_case r e (inl c) = a.0 r c e
    by_case r e (inr c) = cross q r (0, omega arith, refl) c (sym e)

-- ---- statements

abbrev pub numbered : Statement → Numbered
numbered = fold-Statement Numbered numbered_step

abbrev pub scatters : List Numbered → List ℕ
scatters ns = append_numbers (map (λ (n : Numbered). n.scatter) ns)

abbrev pub conditions : List Numbered → List ℕ
conditions ns = append_numbers (map (λ (n : Numbered). n.condition) ns)

-- The names and numbers of the statements differ, and those of the bodies in them.
pub record Differs (xs : List Statement) : Type 0 where
  pub names : are_distinct (all_declared xs) ≡ true
  pub scatters : numbers_differ (scatters (map numbered xs)) ≡ true
  pub conditions : numbers_differ (conditions (map numbered xs)) ≡ true
  pub inside : list_all (λ (n : Numbered). n.inside) (map numbered xs) ≡ true

pub record OneDiffers (x : Statement) : Type 0 where
  pub names : are_distinct (declared x) ≡ true
  pub inside : (numbered x).inside ≡ true

abbrev pub Differ : Form → Type 0
Differ (one x s g d) = OneDiffers x
Differ (all xs s g ds) = Differs xs
Differ (each xs s k item i ys qs) = Differs xs
Differ (takes given is s g) = Unit {0}
Differ (tells ds s g) = Unit {0}
Differ (whole f given place g ds) = Differs f.body

pub first_differs : (x : Statement) (xs : List Statement) → Differs (x ∷ xs) → OneDiffers x
first_differs x xs h =
    record {
      names = names_left (declared x) (all_declared xs) h.names;
      inside = (and_parts (numbered x).inside (list_all (λ (n : Numbered). n.inside) (map numbered xs)) h.inside).0;
    }

pub rest_differs : (x : Statement) (xs : List Statement) → Differs (x ∷ xs) → Differs xs
rest_differs x xs h =
    record {
      names = names_right (declared x) (all_declared xs) h.names;
      scatters = numbers_right (numbered x).scatter (scatters (map numbered xs)) h.scatters;
      conditions = numbers_right (numbered x).condition (conditions (map numbered xs)) h.conditions;
      inside = (and_parts (numbered x).inside (list_all (λ (n : Numbered). n.inside) (map numbered xs)) h.inside).1;
    }

body_differs : (xs : List Statement) → are_distinct (all_declared xs) ≡ true → body_numbered (map numbered xs) ≡ true → Differs xs
body_differs xs a n =
    let ns = map numbered xs in
    let p = and_parts (are_counted (scatters ns) && are_counted (conditions ns)) (list_all (λ (y : Numbered). y.inside) ns) n in
    let q = and_parts (are_counted (scatters ns)) (are_counted (conditions ns)) p.0 in
    record {
      names = a;
      scatters = (and_parts (are_below (length (scatters ns)) (scatters ns)) (numbers_differ (scatters ns)) q.0).1;
      conditions = (and_parts (are_below (length (conditions ns)) (conditions ns)) (numbers_differ (conditions ns)) q.1).1;
      inside = p.1;
    }

names_of_layer : (x : Statement) (y : Statement-F Statement) → out-Statement x ≡ y → declared x ≡ names_step (map-Statement Statement (List (List ℕ)) declared y)
names_of_layer x y e = fold_out-Statement (List (List ℕ)) names_step x ∙ ap (λ (z : Statement-F Statement). names_step (map-Statement Statement (List (List ℕ)) declared z)) e

numbers_of_layer : (x : Statement) (y : Statement-F Statement) → out-Statement x ≡ y → numbered x ≡ numbered_step (map-Statement Statement Numbered numbered y)
numbers_of_layer x y e = fold_out-Statement Numbered numbered_step x ∙ ap (λ (z : Statement-F Statement). numbered_step (map-Statement Statement Numbered numbered z)) e

pub heads_of_layer : (x : Statement) (y : Statement-F Statement) → out-Statement x ≡ y → heads x ≡ heads_step (map-Statement Statement (List Segment) heads y)
heads_of_layer x y e = fold_out-Statement (List Segment) heads_step x ∙ ap (λ (z : Statement-F Statement). heads_step (map-Statement Statement (List Segment) heads z)) e

pub scatter_differs : (x : TScatter Statement) → OneDiffers (stmt.Scatter x) → Differs x.body
scatter_differs x h =
    body_differs x.body (ap are_distinct (sym (names_of_layer (stmt.Scatter x) (layer.Scatter x) (stmt.outs-Scatter x))) ∙ h.names)
    (ap (λ (n : Numbered). n.inside) (sym (numbers_of_layer (stmt.Scatter x) (layer.Scatter x) (stmt.outs-Scatter x))) ∙ h.inside)

pub if_differs : (x : TIf Statement) → OneDiffers (stmt.If x) → Differs x.body
if_differs x h =
    body_differs x.body (ap are_distinct (sym (names_of_layer (stmt.If x) (layer.If x) (stmt.outs-If x))) ∙ h.names)
    (ap (λ (n : Numbered). n.inside) (sym (numbers_of_layer (stmt.If x) (layer.If x) (stmt.outs-If x))) ∙ h.inside)

pub flow_differs : (f : FlowDef) → IsFlow f → Differs f.body
flow_differs f h =
    body_differs f.body (names_right (input_names f.inputs) (all_declared f.body) (names_left (input_names f.inputs ++ all_declared f.body) (decl_names f.outputs) h.distinct)) h.numbered

-- ---- what begins the places

signs : (x : Statement) (h : Segment) → Contains (heads x) h → Signed (declared x) (numbered x).scatter (numbered x).condition h
signs x h c = by_layer (out-Statement x) refl
  where
    by_layer : (y : Statement-F Statement) → out-Statement x ≡ y → Signed (declared x) (numbered x).scatter (numbered x).condition h
    by_layer (layer.Decl d) e = absurd (none_within h (subst (λ (hs : List Segment). Contains hs h) (heads_of_layer x (layer.Decl d) e) c))
    by_layer (layer.Call d) e =
        subst (λ (ns : List (List ℕ)). Signed ns (numbered x).scatter (numbered x).condition h) (sym (names_of_layer x (layer.Call d) e))
        (subst (Signed (d.name ∷ []) (numbered x).scatter (numbered x).condition) (only_one (subst (λ (hs : List Segment). Contains hs h) (heads_of_layer x (layer.Call d) e) c))
        (or_left _ _ ((bytes_eq-Decides d.name d.name).1 refl)))
    by_layer (layer.Scatter b) e =
        subst (λ (n : Numbered). Signed (declared x) n.scatter n.condition h) (sym (numbers_of_layer x (layer.Scatter b) e))
        (subst (Signed (declared x) (b.number ∷ []) []) (only_one (subst (λ (hs : List Segment). Contains hs h) (heads_of_layer x (layer.Scatter b) e) c))
        (or_left _ _ ((Decides-eqb b.number b.number).1 refl)))
    by_layer (layer.If b) e =
        subst (λ (n : Numbered). Signed (declared x) n.scatter n.condition h) (sym (numbers_of_layer x (layer.If b) e))
        (subst (Signed (declared x) [] (b.number ∷ [])) (only_one (subst (λ (hs : List Segment). Contains hs h) (heads_of_layer x (layer.If b) e) c))
        (or_left _ _ ((Decides-eqb b.number b.number).1 refl)))

all_signs : (xs : List Statement) (h : Segment) → Contains (heads_all xs) h → Signed (all_declared xs) (scatters (map numbered xs)) (conditions (map numbered xs)) h
all_signs [] h c = absurd (none_within h c)
all_signs (x ∷ xs) h c = by_case (all_signs xs h) (Contains-append_cases (heads x) (heads_all xs) h c)
  where
    by_case : (Contains (heads_all xs) h → Signed (all_declared xs) (scatters (map numbered xs)) (conditions (map numbered xs)) h) → Contains (heads x) h ⊎ Contains (heads_all xs) h
        → Signed (declared x ++ all_declared xs) ((numbered x).scatter ++ scatters (map numbered xs)) ((numbered x).condition ++ conditions (map numbered xs)) h
    by_case rest (inl d) = signed_left (declared x) (all_declared xs) (numbered x).scatter (scatters (map numbered xs)) (numbered x).condition (conditions (map numbered xs)) h (signs x h d)
    by_case rest (inr d) = signed_right (declared x) (all_declared xs) (numbered x).scatter (scatters (map numbered xs)) (numbered x).condition (conditions (map numbered xs)) h (rest d)

pub heads_apart : (x : Statement) (xs : List Statement) → Differs (x ∷ xs) → Apart (heads x) (heads_all xs)
heads_apart x xs d h i j =
    signed_apart (declared x) (all_declared xs) (numbered x).scatter (scatters (map numbered xs)) (numbered x).condition (conditions (map numbered xs)) d.names d.scatters d.conditions h (signs x h i) (all_signs xs h j)

-- ---- places

-- The place is this one and further segments, of which the first is one of these.
abbrev pub Below : List Segment → List Segment → List Segment → Type 0
Below place hs q = (h : Segment) × (rest : List Segment) × Contains hs h × (q ≡ place ++ h ∷ rest)

-- the same of an item of a scatter from this one on
abbrev pub BelowItem : List Segment → ℕ → ℕ → List Segment → Type 0
BelowItem place k i q = (j : ℕ) × (i ≤ j) × (rest : List Segment) × (q ≡ place ++ segment.Scatter k ∷ segment.Index j ∷ rest)

pub record Spread (place hs : List Segment) (qs : List Asker) : Type 0 where
  pub under : (q : Asker) → Contains qs q → Below place hs q.place
  pub apart : AllApart qs

pub record SpreadItems (place : List Segment) (k i : ℕ) (qs : List Asker) : Type 0 where
  pub under : (q : Asker) → Contains qs q → BelowItem place k i q.place
  pub apart : AllApart qs

abbrev pub Spreads : Form → List Asker → Type 0
Spreads (one x s g d) qs = Spread s.place (heads x) qs
Spreads (all xs s g ds) qs = Spread s.place (heads_all xs) qs
Spreads (each xs s k item i ys is) qs = SpreadItems s.place k i qs
Spreads (takes given is s g) qs = qs ≡ []
Spreads (tells ds s g) qs = qs ≡ []
Spreads (whole f given place g ds) qs = Spread place (heads_all f.body) qs

pub nobody : (place hs : List Segment) → Spread place hs []
nobody place hs = record { under = λ q c. absurd (none_within q c); apart = tt }

one_after : (place : List Segment) (h : Segment) (rest : List Segment) → (place ++ h ∷ []) ++ rest ≡ place ++ h ∷ rest
one_after place h rest = append_assoc place (h ∷ []) rest

-- What is below a place that has one segment more is below this one.
deeper : (place : List Segment) (g : Segment) (hs qs : List Segment) → Below (place ++ g ∷ []) hs qs → Below place (g ∷ []) qs
deeper place g hs qs b = (g, b.0 ∷ b.1, (0, omega arith, refl), b.3 ∙ one_after place g (b.0 ∷ b.1))

pub spread_deeper : (place : List Segment) (g : Segment) (hs : List Segment) (qs : List Asker) → Spread (place ++ g ∷ []) hs qs → Spread place (g ∷ []) qs
spread_deeper place g hs qs s = record { under = λ q c. deeper place g hs q.place (s.under q c); apart = s.apart }

pub spread_same : (place hs gs : List Segment) (qs : List Asker) → hs ≡ gs → Spread place hs qs → Spread place gs qs
spread_same place hs gs qs e s = subst (λ (is : List Segment). Spread place is qs) e s

pub spread_both : (place hs gs : List Segment) (qs rs : List Asker) → Apart hs gs → Spread place hs qs → Spread place gs rs → Spread place (hs ++ gs) (qs ++ rs)
spread_both place hs gs qs rs away a b =
    record {
      under = λ q c. by_case q (Contains-append_cases qs rs q c);
      apart = both_apart qs rs a.apart b.apart (λ q r c d e.
          let x = a.under q c in
          let y = b.under r d in
          away x.0 x.2 (subst (Contains gs) (sym (first_same place x.0 y.0 x.1 y.1 (sym x.3 ∙ e ∙ y.3))) y.2));
    }
  where
    by_case : (q : Asker) → Contains qs q ⊎ Contains rs q → Below place (hs ++ gs) q.place
    by_case q (inl c) = let x = a.under q c in (x.0, x.1, Contains-append_left hs gs x.0 x.2, x.3)
    by_case q (inr c) = let x = b.under q c in (x.0, x.1, Contains-append_right hs gs x.0 x.2, x.3)

-- ---- items

pub items_below : (place : List Segment) (k i : ℕ) (qs : List Asker) → SpreadItems place k i qs → Spread place (segment.Scatter k ∷ []) qs
items_below place k i qs s =
    record { under = λ q c. (let b = s.under q c in (segment.Scatter k, segment.Index b.0 ∷ b.2, (0, omega arith, refl), b.3)); apart = s.apart }

item_same : (place : List Segment) (k i j : ℕ) (r s : List Segment) → place ++ segment.Scatter k ∷ segment.Index i ∷ r ≡ place ++ segment.Scatter k ∷ segment.Index j ∷ s → i ≡ j
item_same place k i j r s e =
    let f : segment.Scatter k ∷ segment.Index i ∷ r ≡ segment.Scatter k ∷ segment.Index j ∷ s = append_cancel_left place (segment.Scatter k ∷ segment.Index i ∷ r) (segment.Scatter k ∷ segment.Index j ∷ s) e in cc

at_item : (place : List Segment) (k i : ℕ) (hs q : List Segment) → Below ((place ++ segment.Scatter k ∷ []) ++ segment.Index i ∷ []) hs q → (rest : List Segment) × (q ≡ place ++ segment.Scatter k ∷ segment.Index i ∷ rest)
at_item place k i hs q b = (
  b.0 ∷ b.1,
  b.3 ∙ one_after (place ++ segment.Scatter k ∷ []) (segment.Index i) (b.0 ∷ b.1) ∙ one_after place (segment.Scatter k) (segment.Index i ∷ b.0 ∷ b.1),
)

pub items_both : (place : List Segment) (k i : ℕ) (hs : List Segment) (qs rs : List Asker) → Spread ((place ++ segment.Scatter k ∷ []) ++ segment.Index i ∷ []) hs qs → SpreadItems place k (i + 1) rs → SpreadItems place k i (qs ++ rs)
items_both place k i hs qs rs a b =
    record {
      under = λ q c. by_case q (Contains-append_cases qs rs q c);
      apart = both_apart qs rs a.apart b.apart (λ q r c d e.
          let x = at_item place k i hs q.place (a.under q c) in
          let y = b.under r d in
          let same : i ≡ y.0 = item_same place k i y.0 x.0 y.2 (sym x.1 ∙ e ∙ y.3) in
          let later : i + 1 ≤ y.0 = y.1 in
          omega (arith, same, later));
    }
  where
    by_case : (q : Asker) → Contains qs q ⊎ Contains rs q → BelowItem place k i q.place
    by_case q (inl c) = let x = at_item place k i hs q.place (a.under q c) in (i, omega arith, x.0, x.1)
    by_case q (inr c) = let y = b.under q c in (y.0, (let later : i + 1 ≤ y.0 = y.1 in omega (arith, later)), y.2, y.3)

-- ---- what grows

pub nil_right : (qs : List Asker) → qs ++ [] ≡ qs
nil_right [] = refl
nil_right (q ∷ qs) = ap (λ (rs : List Asker). q ∷ rs) (nil_right qs)

module _ (lib : Library) (kept_ : IsKept lib) (site : List ℕ) (table : List Row) (desc : ℕ → Rule → Type 0) (st : State) where
  abbrev asking : {depth : ℕ} {f : Form} → Growing lib site table desc st depth f → List Asker
  asking p = askers lib site table desc st p

  -- ---- statements

  call_spread : (x : TCall) (s : Scope) (t : ℕ) → Spread s.place (heads (stmt.Call x)) (record { step = t; place = s.place ++ segment.Call x.name ∷ [] } ∷ [])
  call_spread x s t =
      spread_same s.place (segment.Call x.name ∷ []) (heads (stmt.Call x)) (record { step = t; place = s.place ++ segment.Call x.name ∷ [] } ∷ []) (sym (heads_of_layer (stmt.Call x) (layer.Call x) (stmt.outs-Call x)))
      (record {
        under = λ q c. (segment.Call x.name, [], (0, omega arith, refl), ap (λ (r : Asker). r.place) (sym (only_one c)));
        apart = (λ r c. absurd (none_within r c), tt);
      })

  spread : {depth : ℕ} {f : Form} (p : Growing lib site table desc st depth f) → Differ f → Spreads f (asking p)
  spread (none_left depth s) d = nobody s.place []
  spread (next depth x xs s g h d ds p q) e =
      spread_both s.place (heads x) (heads_all xs) (asking p) (asking q) (heads_apart x xs e) (spread p (first_differs x xs e)) (spread q (rest_differs x xs e))
  spread (left_decl depth x s c t left n k) e = nobody s.place _
  spread (left_call depth x s g d t left n is ends k) e = nobody s.place _
  spread (left_scatter depth x s g d t left n outside k) e = nobody s.place _
  spread (left_if depth x s g d t left n outside k) e = nobody s.place _
  spread (told_decl depth x s c t w taken n set own follows) e = nobody s.place _
  spread (told_call depth x s g d t w taken n set is ends own plain follows) e = call_spread x s t
  spread (run_call depth x s g h d t ds taken n set k is f found args met names ends distinct p copied ended) e =
      spread_same s.place (segment.Call x.name ∷ []) (heads (stmt.Call x)) (asking p) (sym (heads_of_layer (stmt.Call x) (layer.Call x) (stmt.outs-Call x)))
      (spread_deeper s.place (segment.Call x.name) (heads_all f.body) (asking p) (spread p (flow_differs f (flow_at_kept lib kept_ k f found))))
  spread (failed_scatter depth x s g d t c taken n set e outside k) i = nobody s.place _
  spread (each_scatter depth x s g d t y qs taken n set e outside p names calls ended) i =
      spread_same s.place (segment.Scatter x.number ∷ []) (heads (stmt.Scatter x)) (asking p) (sym (heads_of_layer (stmt.Scatter x) (layer.Scatter x) (stmt.outs-Scatter x)))
      (items_below s.place x.number 0 (asking p) (spread p (scatter_differs x i)))
  spread (failed_if depth x s g d t c taken n set e outside k) i = nobody s.place _
  spread (false_if depth x s g d t y taken n set e off outside own same done) i = nobody s.place _
  spread (true_if depth x s g h d t ds y taken n set e on outside p names calls ended) i =
      spread_same s.place (segment.If x.number ∷ []) (heads (stmt.If x)) (asking p) (sym (heads_of_layer (stmt.If x) (layer.If x) (stmt.outs-If x)))
      (spread_deeper s.place (segment.If x.number) (heads_all x.body) (asking p) (spread p (if_differs x i)))
  spread (no_item depth xs s k item i) e = record { under = λ q c. absurd (none_within q c); apart = tt }
  spread (item_next depth xs s k item i cell y ys g ds qs is p q) e = items_both s.place k i (heads_all xs) (asking p) (asking q) (spread p e) (spread q e)
  spread (no_input depth given s) e = refl
  spread (given_input depth given i is s h c y e found p) j = spread p tt
  spread (absent_input depth given i is s h c e lacking found p) j = spread p tt
  spread (default_input depth given i is s h c e lacking some d p) j = spread p tt
  spread (no_output depth s) e = refl
  spread (output_next depth x xs s h c d p) e = spread p tt
  spread (flow_whole depth f given place i b o ds p q r) e =
      subst (Spread place (heads_all f.body)) (sym (ap (λ (qs : List Asker). (qs ++ asking q) ++ asking r) (spread p tt) ∙ ap (λ (qs : List Asker). asking q ++ qs) (spread r tt) ∙ nil_right (asking q))) (spread q e)

pub apart_of : (f : Form) (qs : List Asker) → Spreads f qs → AllApart qs
apart_of (one x s g d) qs h = h.apart
apart_of (all xs s g ds) qs h = h.apart
apart_of (each xs s k item i ys is) qs h = h.apart
apart_of (takes given is s g) qs h = subst AllApart (sym h) tt
apart_of (tells ds s g) qs h = subst AllApart (sym h) tt
apart_of (whole f given place g ds) qs h = h.apart

-- In what grows of a checked form, calls at one place are one.
pub root_apart : (lib : Library) (site : List ℕ) (table : List Row) (desc : ℕ → Rule → Type 0) (st : State) (depth : ℕ) (f : Form) → IsRoot lib depth f → (p : Growing lib site table desc st depth f)
    → AllApart (askers lib site table desc st p)
root_apart lib site table desc st depth f r p =
    let k = kept lib r.main r.checked in
    apart_of f (askers lib site table desc st p) (spread lib k site table desc st p (subst Differ (sym r.is) (flow_differs r.flow (flow_at_kept lib k r.number r.flow r.found))))
