-- The statements of a body, one after the other.
use Rattle.std.proofs.Common.{◌≡◌, ℕ, zero, suc, ◌+◌, ◌<◌, List, [], ◌∷◌, ◌++◌, Some, None, length, get_or, drop, map, slice_get, ◌≤◌, Ok, Err, refl, sym, ap, ◌∙◌, subst}
use Rattle.std.proofs.Math.ListN.{drop_of_length-le}
use Rattle.wdl_ast.specs.declared.workflow.Statement.{Statement as Written}
use Rattle.wdl_typed.specs.declared.flow.Statement.{Statement}
use Rattle.wdl_typed.specs.Bodies.{Seen, joined}
use Rattle.wdl_typed.specs.Order.{picked}
use Rattle.wdl_check_rules.specs.declared.fault.CheckFault.{CheckFault}
use Rattle.wdl_check_types.specs.Outcome.{Answers, Outcome, then_}
use Rattle.wdl_check_types.specs.Places.{statement_span}
use Rattle.wdl_check_types.proofs.OutcomeLaws.{then_err, then_ok}
use Rattle.wdl_check_order.specs.Needs.{statement_needing}
use Rattle.wdl_check_order.specs.Ordered.{ordered}
use Rattle.wdl_check_decls.proofs.ListLaws.{Leads, leads_done, leads_err, leads_on, leads_same, picked_none, picked_some}
use Rattle.wdl_check_flow.specs.Bodies.{Numbered, Typed_body, behind, numbered, statement_typed, statements_typed, with_typing, writtens}
use Rattle.wdl_check_flow.specs.Calls.{Stated}
use Rattle.wdl_check_flow.specs.Given.{nothing}
use Rattle.wdl_check_flow.specs.Numbers.{numbers_of}
use Rattle.wdl_check_flow.specs.Stating.{States, StatesBody}
use Rattle.wdl_check_flow.specs.Targets.{Place}
use Rattle.wdl_check_flow.proofs.ListLaws.{map-map}
use Rattle.wdl_check_flow.proofs.SeenLaws.{joined-assoc, joined_nothing}
use Rattle.wdl_check_rules.proofs.MemberLaws.{at_front as drop_item}

pub written_parts : (p : Place) (ss : List Written) → writtens (map (with_typing p) ss) ≡ ss
written_parts p [] = refl
written_parts p (s ∷ ss) = ap (λ (xs : List Written). s ∷ xs) (written_parts p ss)

-- ---- a statement at its position, with its number

pub no_statement : (p : Place) (ns : List ℕ) (ss : List Written) (i : ℕ) → slice_get ss i ≡ None → slice_get (numbered ns (map (with_typing p) ss)) i ≡ None
no_statement p [] ss i e = refl
no_statement p (n ∷ ns) [] i e = refl
no_statement p (n ∷ ns) (s ∷ ss) zero e = cc
no_statement p (n ∷ ns) (s ∷ ss) (suc i) e = no_statement p ns ss i e

pub no_number : (p : Place) (ns : List ℕ) (ss : List Written) (i : ℕ) → slice_get ns i ≡ None → slice_get (numbered ns (map (with_typing p) ss)) i ≡ None
no_number p [] ss i e = refl
no_number p (n ∷ ns) [] i e = refl
no_number p (n ∷ ns) (s ∷ ss) zero e = cc
no_number p (n ∷ ns) (s ∷ ss) (suc i) e = no_number p ns ss i e

abbrev pub numbered_at : Place → ℕ → Written → Numbered
numbered_at p n s = record { number = n; check = statement_typed p s }

pub statement_at : (p : Place) (ns : List ℕ) (ss : List Written) (i n : ℕ) (s : Written) → slice_get ns i ≡ Some n → slice_get ss i ≡ Some s
    → slice_get (numbered ns (map (with_typing p) ss)) i ≡ Some (numbered_at p n s)
statement_at p [] ss i n s e f = cc
statement_at p (m ∷ ns) [] i n s e f = cc
statement_at p (m ∷ ns) (t ∷ ss) zero n s e f = cc
statement_at p (m ∷ ns) (t ∷ ss) (suc i) n s e f = statement_at p ns ss i n s e f

-- ---- one step

abbrev pub Goes : Seen → List Statement → Seen → List Numbered → Outcome Typed_body → Type 0
Goes seen before given rest whole = Leads (behind seen before given rest) whole

pub nothing_at : (seen : Seen) (before : List Statement) (given : Seen) (all : List Numbered) (ps : List ℕ) (i p : ℕ) (whole : Outcome Typed_body)
    → i < length ps → p ≡ get_or ps i p → slice_get all p ≡ None
    → Goes seen before given (picked all (drop i ps)) whole → Goes seen before given (picked all (drop (i + 1) ps)) whole
nothing_at seen before given all ps i p whole within is none goes =
    subst (λ (rest : List Numbered). Goes seen before given rest whole) (ap (picked all) (drop_item ps i p within is) ∙ picked_none all p (drop (i + 1) ps) none) goes

pub one_at : (seen : Seen) (before : List Statement) (given : Seen) (all : List Numbered) (ps : List ℕ) (i p : ℕ) (whole : Outcome Typed_body) (n : Numbered)
    → i < length ps → p ≡ get_or ps i p → slice_get all p ≡ Some n
    → Goes seen before given (picked all (drop i ps)) whole → Goes seen before given (n ∷ picked all (drop (i + 1) ps)) whole
one_at seen before given all ps i p whole n within is some goes =
    subst (λ (rest : List Numbered). Goes seen before given rest whole) (ap (picked all) (drop_item ps i p within is) ∙ picked_some all p (drop (i + 1) ps) n some) goes

pub next_at : (seen : Seen) (before : List Statement) (given : Seen) (n : Numbered) (rest : List Numbered) (whole : Outcome Typed_body) (s : Stated)
    → (n.check n.number (joined seen given)).typed ≡ Some s
    → Goes seen before given (n ∷ rest) whole → Goes seen (before ++ s.statement ∷ []) (joined given s.given) rest whole
next_at seen before given n rest whole s e goes =
    leads_on (n.check n.number (joined seen given)) (λ (s : Stated). behind seen (before ++ s.statement ∷ []) (joined given s.given) rest) whole s e goes

-- ---- the loop over a body

abbrev pub in_order : Place → List Written → List ℕ → Seen → List ℕ → Outcome Typed_body
in_order p ss ns seen ps = behind seen [] nothing (picked (numbered ns (map (with_typing p) ss)) ps)

-- the statements before a place in the order were typed, and what they give is seen
abbrev pub Runs : Place → List Written → List ℕ → List ℕ → Seen → ℕ → Seen → List Statement → Outcome Typed_body → Type 0
Runs p ss ns ps start i now_seen before whole =
    (given : Seen) × (now_seen ≡ joined start given) × Goes start before given (picked (numbered ns (map (with_typing p) ss)) (drop i ps)) whole

module _ (p : Place) (ss : List Written) (ns ps : List ℕ) (start : Seen) (whole : Outcome Typed_body) where
  abbrev all : List Numbered
  all = numbered ns (map (with_typing p) ss)

  pub runs_start : (before : List Statement) → before ≡ [] → whole ≡ in_order p ss ns start ps → Runs p ss ns ps start 0 start before whole
  runs_start before none is =
      subst (λ (xs : List Statement). Runs p ss ns ps start 0 start xs whole) (sym none)
      (nothing, sym (joined_nothing start), subst (λ (w : Outcome Typed_body). Leads (behind start [] nothing (picked all ps)) w) (sym is) (leads_same (behind start [] nothing (picked all ps))))

  pub runs_past_statement : (i q : ℕ) (seen : Seen) (before : List Statement) → i < length ps → q ≡ get_or ps i q → slice_get ss q ≡ None
      → Runs p ss ns ps start i seen before whole → Runs p ss ns ps start (i + 1) seen before whole
  runs_past_statement i q seen before within is none runs =
      (runs.0, runs.1, nothing_at start before runs.0 all ps i q whole within is (no_statement p ns ss q none) runs.2)

  pub runs_past_number : (i q : ℕ) (seen : Seen) (before : List Statement) → i < length ps → q ≡ get_or ps i q → slice_get ns q ≡ None
      → Runs p ss ns ps start i seen before whole → Runs p ss ns ps start (i + 1) seen before whole
  runs_past_number i q seen before within is none runs =
      (runs.0, runs.1, nothing_at start before runs.0 all ps i q whole within is (no_number p ns ss q none) runs.2)

  module _ (i q n : ℕ) (s : Written) (seen : Seen) (before : List Statement) (within : i < length ps) (is : q ≡ get_or ps i q)
      (found : slice_get ss q ≡ Some s) (number : slice_get ns q ≡ Some n) (runs : Runs p ss ns ps start i seen before whole) where
    here : Goes start before runs.0 (numbered_at p n s ∷ picked all (drop (i + 1) ps)) whole
    here = one_at start before runs.0 all ps i q whole (numbered_at p n s) within is (statement_at p ns ss q n s number found) runs.2

    pub runs_on : (after : Seen) (more : List Statement) (x : Statement) → States (statement_typed p s n seen) seen after (Ok x) → more ≡ before ++ x ∷ []
        → Runs p ss ns ps start (i + 1) after more whole
    unfolding here
    runs_on after more x states pushed = (
      joined runs.0 states.0,
      states.2 ∙ ap (λ (z : Seen). joined z states.0) runs.1 ∙ joined-assoc start runs.0 states.0,
      subst (λ (xs : List Statement). Goes start xs (joined runs.0 states.0) (picked all (drop (i + 1) ps)) whole) (sym pushed)
          (next_at start before runs.0 (numbered_at p n s) (picked all (drop (i + 1) ps)) whole (record { statement = x; given = states.0 })
          (ap (λ (z : Seen). (statement_typed p s n z).typed) (sym runs.1) ∙ states.1) here),
    )

    pub runs_out : (e : CheckFault) → Answers (statement_typed p s n seen) (Err e) → Answers whole (Err e)
    unfolding here
    runs_out e h =
        leads_err (statement_typed p s n (joined start runs.0)) (λ (x : Stated). behind start (before ++ x.statement ∷ []) (joined runs.0 x.given) (picked all (drop (i + 1) ps))) whole e
        (subst (λ (z : Seen). Answers (statement_typed p s n z) (Err e)) runs.1 h) here

  pub runs_end : (i : ℕ) (seen : Seen) (before : List Statement) → length ps ≤ i → Runs p ss ns ps start i seen before whole
      → (given : Seen) × (whole.typed ≡ Some (record { statements = before; given = given })) × (seen ≡ joined start given)
  runs_end i seen before past runs = (
    runs.0,
    leads_done (record { statements = before; given = runs.0 }) whole
        (subst (λ (rest : List ℕ). Goes start before runs.0 (picked all rest) whole) (drop_of_length-le ps past) runs.2),
    runs.1,
  )

-- ---- the whole body

pub statements_are : (p : Place) (ss : List Written) (seen : Seen) → statements_typed p ss seen
    ≡ then_ (ordered (map statement_needing ss) (map statement_span ss)) (in_order p ss (numbers_of ss) seen)
statements_are p ss seen =
    ap (λ (ws : List Written). then_ (ordered (map statement_needing ws) (map statement_span ws)) (λ ps. behind seen [] nothing (picked (numbered (numbers_of ws) (map (with_typing p) ss)) ps)))
    (written_parts p ss)

-- the references to statements have the statements' order
pub order_is : {A : Type 0} (statement : A → Written) (xs : List A)
    → ordered (map statement_needing (map statement xs)) (map statement_span (map statement xs)) ≡ ordered (map (λ (x : A). statement_needing (statement x)) xs) (map (λ (x : A). statement_span (statement x)) xs)
order_is statement xs =
    ap (λ ns. ordered ns (map statement_span (map statement xs))) (map-map statement statement_needing xs)
    ∙ ap (ordered (map (λ x. statement_needing (statement x)) xs)) (map-map statement statement_span xs)

pub body_unordered : (p : Place) (ss : List Written) (seen after : Seen) (e : CheckFault)
    → Answers (ordered (map statement_needing ss) (map statement_span ss)) (Err e) → StatesBody (statements_typed p ss seen) seen after (Err e)
body_unordered p ss seen after e h =
    subst (λ (o : Outcome Typed_body). Answers o (Err e)) (sym (statements_are p ss seen)) (then_err (ordered (map statement_needing ss) (map statement_span ss)) (in_order p ss (numbers_of ss) seen) e h)

pub body_out : (p : Place) (ss : List Written) (ns ps : List ℕ) (seen after : Seen) (e : CheckFault) → ns ≡ numbers_of ss
    → (ordered (map statement_needing ss) (map statement_span ss)).typed ≡ Some ps → Answers (in_order p ss ns seen ps) (Err e) → StatesBody (statements_typed p ss seen) seen after (Err e)
body_out p ss ns ps seen after e is o h =
    subst (λ (o : Outcome Typed_body). Answers o (Err e)) (sym (statements_are p ss seen))
    (then_ok (ordered (map statement_needing ss) (map statement_span ss)) (in_order p ss (numbers_of ss) seen) ps (Err e) o (subst (λ ms. Answers (in_order p ss ms seen ps) (Err e)) is h))

pub body_stated : (p : Place) (ss : List Written) (ns ps : List ℕ) (seen after : Seen) (xs : List Statement) → ns ≡ numbers_of ss
    → (ordered (map statement_needing ss) (map statement_span ss)).typed ≡ Some ps
    → (given : Seen) × ((in_order p ss ns seen ps).typed ≡ Some (record { statements = xs; given = given })) × (after ≡ joined seen given)
    → StatesBody (statements_typed p ss seen) seen after (Ok xs)
body_stated p ss ns ps seen after xs is o h = (
  h.0,
  ap (λ (o : Outcome Typed_body). o.typed) (statements_are p ss seen)
      ∙ then_ok (ordered (map statement_needing ss) (map statement_span ss)) (in_order p ss (numbers_of ss) seen) ps (Ok (record { statements = xs; given = h.0 })) o
      (ap (λ ms. (in_order p ss ms seen ps).typed) (sym is) ∙ h.1),
  h.2,
)
