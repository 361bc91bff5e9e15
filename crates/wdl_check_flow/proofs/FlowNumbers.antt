-- The blocks of each kind in a body that is typed are numbered from 0 on.
use Rattle.std.proofs.Common.{◌≡◌, ℕ, ◌&&◌, true, List, [], ◌∷◌, ◌++◌, Some, length, map, arith, refl, ap, sym, ◌∙◌}
use Rattle.std.specs.List.{list_all, range_with_len}
use Rattle.std.proofs.lemmas.Bool.{and_from}
use Rattle.wdl_ast.specs.declared.workflow.Statement.{Statement as Written, Statement-F, out-Statement, out-roll-Statement, roll-Statement}
use Rattle.wdl_ast.specs.declared.workflow.Statement.TheOpen as layer
use Rattle.wdl_ast.specs.declared.workflow.Workflow.{Workflow}
use Rattle.wdl_typed.specs.declared.flow.Statement.{Statement, Statement-F as Typed-F, fold-Statement as fold, fold-roll-Statement as fold-roll, map-Statement as map-typed, roll-Statement as roll}
use Rattle.wdl_typed.specs.declared.flow.Statement.TheOpen as open_
use Rattle.wdl_typed.specs.declared.flow.Statement.TheVariants as form
use Rattle.wdl_typed.specs.declared.task.TInput.{TInput}
use Rattle.wdl_typed.specs.Bodies.{Numbered, append_numbers, is_numbered, numbered_step}
use Rattle.wdl_typed.specs.Kept.{sum_of}
use Rattle.wdl_typed.specs.Lists.{are_counted}
use Rattle.wdl_typed.specs.Order.{picked}
use Rattle.wdl_check_flow.specs.declared.flow.FlowRest.{FlowRest}
use Rattle.wdl_check_flow.specs.declared.numbers.Counts.{Counts}
use Rattle.wdl_check_flow.specs.Bodies.{condition, scatter}
use Rattle.wdl_check_flow.specs.Flows.{inputs_seen, rest_typed}
use Rattle.wdl_check_flow.specs.Numbers.{counted, number_at, numbers_after, numbers_of}
use Rattle.wdl_check_flow.specs.Sections.{statements_of}
use Rattle.wdl_check_flow.specs.Targets.{Place}
use Rattle.wdl_check_flow.proofs.Counted.{counted_as, weight}
use Rattle.wdl_check_flow.proofs.FlowGives.{rested}
use Rattle.wdl_check_flow.proofs.FlowShape.{BodyOf, Fits, Forms, Pairs, body_sum, labelled, statements_fit}
use Rattle.wdl_check_flow.proofs.ListLaws.{map-map}
use Rattle.wdl_check_flow.proofs.Orders.{sum-append}

data Kind : Type 0 where
  Scatters : Kind
  Conditions : Kind

abbrev numbers : Statement → Numbered
numbers = fold Numbered numbered_step

abbrev of_kind : Kind → Numbered → List ℕ
of_kind Scatters n = n.scatter
of_kind Conditions n = n.condition

-- the number of a block of the kind
abbrev label : {A : Type 0} → Kind → Statement-F A → ℕ → List ℕ
label Scatters (layer.Scatter s) n = n ∷ []
label Conditions (layer.Conditional i) n = n ∷ []
label k y n = []

abbrev label_of : Kind → ℕ × Written → List ℕ
label_of k l = label k (out-Statement l.1) l.0

-- ---- statements

-- what is typed has the number if it is a block, and its bodies are numbered
record HasNumber (s : Written) (number : ℕ) (x : Statement) : Type 0 where
  scatter : (numbers x).scatter ≡ label Scatters (out-Statement s) number
  condition : (numbers x).condition ≡ label Conditions (out-Statement s) number
  inside : (numbers x).inside ≡ true

number_of : (k : Kind) (s : Written) (number : ℕ) (x : Statement) → HasNumber s number x → of_kind k (numbers x) ≡ label k (out-Statement s) number
number_of Scatters s number x h = h.scatter
number_of Conditions s number x h = h.condition

numbers_at : (x : Statement) (z : Typed-F Statement) → roll z ≡ x → numbers x ≡ numbered_step (map-typed Statement Numbered numbers z)
numbers_at x z is = ap numbers (sym is) ∙ fold-roll Numbered numbered_step z

has_number_by : (y : Statement-F Written) (number : ℕ) (x : Statement) (n : Numbered) → numbers x ≡ n
    → n.scatter ≡ label Scatters y number → n.condition ≡ label Conditions y number → n.inside ≡ true → HasNumber (roll-Statement y) number x
has_number_by y number x n is s c i = record {
  scatter = ap (λ (m : Numbered). m.scatter) is ∙ s ∙ ap (λ (z : Statement-F Written). label Scatters z number) (sym (out-roll-Statement y));
  condition = ap (λ (m : Numbered). m.condition) is ∙ c ∙ ap (λ (z : Statement-F Written). label Conditions z number) (sym (out-roll-Statement y));
  inside = ap (λ (m : Numbered). m.inside) is ∙ i;
}

-- ---- numbers in the order of the text

abbrev begin : Kind → Counts → ℕ
begin Scatters c = c.scatters
begin Conditions c = c.conditions

abbrev none : Counts
none = record { scatters = 0; conditions = 0 }

begin_none : (k : Kind) → begin k none ≡ 0
begin_none Scatters = refl
begin_none Conditions = refl

label_first : (k : Kind) (y : Statement-F Written) (c : Counts) (rest : List ℕ) → rest ≡ range_with_len (begin k (counted y c)) (length rest)
    → label k y (number_at y c) ++ rest ≡ range_with_len (begin k c) (length (label k y (number_at y c) ++ rest))
label_first Scatters (layer.Declaration d) c rest h = h
label_first Scatters (layer.Call l) c rest h = h
label_first Scatters (layer.Scatter s) c rest h = ap (λ ns. c.scatters ∷ ns) h
label_first Scatters (layer.Conditional i) c rest h = h
label_first Conditions (layer.Declaration d) c rest h = h
label_first Conditions (layer.Call l) c rest h = h
label_first Conditions (layer.Scatter s) c rest h = h
label_first Conditions (layer.Conditional i) c rest h = ap (λ ns. c.conditions ∷ ns) h

abbrev labels_after : Kind → Counts → List Written → List ℕ
labels_after k c ws = append_numbers (map (label_of k) (labelled (numbers_after c ws) ws))

labels_range : (k : Kind) (c : Counts) (ws : List Written) → labels_after k c ws ≡ range_with_len (begin k c) (length (labels_after k c ws))
labels_range k c [] = refl
labels_range k c (w ∷ ws) =
    label_first k (out-Statement w) c (labels_after k (counted (out-Statement w) c) ws) (labels_range k (counted (out-Statement w) c) ws)

-- ---- numbers in the order of a body

appended_weight : (w : ℕ → ℕ) (lists : List (List ℕ)) → weight w (append_numbers lists) ≡ sum_of (map (weight w) lists)
appended_weight w [] = refl
appended_weight w (ns ∷ lists) = omega (arith, sum-append w ns (append_numbers lists), appended_weight w lists)

numbers_weight : (k : Kind) (w : ℕ → ℕ) (ls : List (ℕ × Written)) (ss : List Statement) → Pairs (Fits HasNumber) ls ss
    → weight w (append_numbers (map (of_kind k) (map numbers ss))) ≡ sum_of (map (λ (l : ℕ × Written). weight w (label_of k l)) ls)
numbers_weight k w [] [] ps = refl
numbers_weight k w [] (s ∷ ss) ps = absurd ps
numbers_weight k w (l ∷ ls) [] ps = absurd ps
numbers_weight k w (l ∷ ls) (s ∷ ss) ps =
    omega (
      arith,
      sum-append w (of_kind k (numbers s)) (append_numbers (map (of_kind k) (map numbers ss))),
      ap (weight w) (number_of k l.1 l.0 s ps.0),
      numbers_weight k w ls ss ps.1,
    )

all_inside : (ls : List (ℕ × Written)) (ss : List Statement) → Pairs (Fits HasNumber) ls ss → list_all (λ (n : Numbered). n.inside) (map numbers ss) ≡ true
all_inside [] [] ps = refl
all_inside [] (s ∷ ss) ps = absurd ps
all_inside (l ∷ ls) [] ps = absurd ps
all_inside (l ∷ ls) (s ∷ ss) ps = and_from (numbers s).inside (list_all (λ (n : Numbered). n.inside) (map numbers ss)) ps.0.inside (all_inside ls ss ps.1)

kind_counted : (k : Kind) (ws : List Written) (ss : List Statement) → BodyOf HasNumber ws ss → are_counted (append_numbers (map (of_kind k) (map numbers ss))) ≡ true
kind_counted k ws ss b =
    let ls : List (ℕ × Written) = labelled (numbers_of ws) ws in
    counted_as (append_numbers (map (of_kind k) (map numbers ss))) (length (labels_after k none ws)) (λ w.
    let f : ℕ × Written → ℕ = λ l. weight w (label_of k l) in
    numbers_weight k w (picked ls b.positions) ss b.pairs
    ∙ body_sum HasNumber ws ss b f
    ∙ sym (ap sum_of (map-map (label_of k) (weight w) ls))
    ∙ sym (appended_weight w (map (label_of k) ls))
    ∙ ap (weight w) (labels_range k none ws ∙ ap (λ a. range_with_len a (length (labels_after k none ws))) (begin_none k)))

body_counted : (ws : List Written) (ss : List Statement) → BodyOf HasNumber ws ss → is_numbered ss ≡ true
body_counted ws ss b =
    let scatters = are_counted (append_numbers (map (of_kind Scatters) (map numbers ss))) in
    let conditions = are_counted (append_numbers (map (of_kind Conditions) (map numbers ss))) in
    let inside = list_all (λ (n : Numbered). n.inside) (map numbers ss) in
    and_from (scatters && conditions) inside
    (and_from scatters conditions (kind_counted Scatters ws ss b) (kind_counted Conditions ws ss b))
    (all_inside (picked (labelled (numbers_of ws) ws) b.positions) ss b.pairs)

forms : Forms HasNumber
forms = record {
  declaration = λ d number t e. has_number_by (layer.Declaration d) number (form.Decl t) _ (numbers_at (form.Decl t) (open_.Decl t) (form.rolls-Decl t)) refl refl refl;
  call = λ c number t e. has_number_by (layer.Call c) number (form.Call t) _ (numbers_at (form.Call t) (open_.Call t) (form.rolls-Call t)) refl refl refl;
  scatter = λ s number span over body b. has_number_by (layer.Scatter s) number (scatter number s.item.name span over body) _
      (numbers_at (scatter number s.item.name span over body) _ (form.rolls-Scatter _)) refl refl (body_counted s.body body b);
  conditional = λ i number span test body b. has_number_by (layer.Conditional i) number (condition number span test body) _
      (numbers_at (condition number span test body) _ (form.rolls-If _)) refl refl (body_counted i.body body b);
}

pub blocks_numbered : (p : Place) (is : List TInput) (f : Workflow) (r : FlowRest) → (rest_typed p is f).typed ≡ Some r → is_numbered r.body ≡ true
blocks_numbered p is f r h =
    let s = rested p is f r h in
    body_counted (statements_of f.elements) r.body
    (statements_fit p HasNumber forms (statements_of f.elements) (inputs_seen is) (record { statements = r.body; given = s.given }) s.body)
