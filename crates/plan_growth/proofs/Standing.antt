-- What holds of the steps of a body that is entered.
use Rattle.std.proofs.Common.{◌≡◌, ℕ, suc, ◌+◌, ◌<◌, List, [], ◌∷◌, ◌++◌, All, map, append_assoc, append-nil, length, Some, slice_get, arith, sym, ap, ◌∙◌, refl}
use Rattle.std.proofs.lemmas.List.{length-append}
use Rattle.std.proofs.lemmas.List.Elements.{All-append, All-cons, All-nil}
use Rattle.wdl_base.specs.declared.name.Key.{Key}
use Rattle.wdl_base.specs.declared.place.Segment.{Segment}
use Rattle.wdl_typed.specs.declared.flow.FlowDef.{FlowDef}
use Rattle.wdl_typed.specs.declared.flow.Statement.{Statement, out-Statement}
use Rattle.wdl_typed.specs.Bodies.{Library}
use Rattle.wdl_typed.specs.Flow.{Names}
use Rattle.wdl_typed.specs.Scope.{names_of}
use Rattle.step_net.specs.Views.{Wants}
use Rattle.value_net.specs.Nets.{view_of, with_step}
use Rattle.net_laws.specs.Growing as net
use Rattle.net_laws.specs.Growing.{body_given, does, mark_cell, slot_cell}
use Rattle.net_laws.specs.Rules.{arg_keys}
use Rattle.plan_moves.specs.Sheets.{Sheet}
use Rattle.plan_layout.specs.declared.layout.BodyLayout.{BodyLayout}
use Rattle.plan_layout.specs.declared.layout.Layout.{Layout}
use Rattle.plan_layout.specs.declared.layout.StatementLayout.{StatementLayout}
use Rattle.plan_layout.specs.Laid as laid
use Rattle.plan_layout.specs.Laid.{HasNeeds, Laid, Stand, behind_one, given_at, laid_call, laid_decl, laid_if, laid_next, laid_none, laid_scatter, laid_whole}
use Rattle.plan_layout.specs.Paths.{body_at}
use Rattle.plan_layout.specs.Sees.{Sees}
use Rattle.plan_layout.specs.Spots.{plain_keys, spots_from}
use Rattle.plan_layout.proofs.Given.{name_is}
use Rattle.plan_growth.specs.declared.instance.Instance.{Instance}
use Rattle.plan_growth.specs.declared.rule.Rule.{Rule}
use Rattle.plan_growth.specs.declared.rule.Rule.TheVariants as rule
use Rattle.plan_growth.specs.Begun.{AllSit, IsFree, Sits, base_at, given_of, scope_at}
use Rattle.plan_growth.specs.Entering.{Sown, cells_of, with_statements}
use Rattle.plan_growth.specs.Meaning.{AreThere, Fits, IsInstance}
use Rattle.plan_growth.specs.News.{AllStand, New, new_code, new_means, new_wants, statement_news, with_news}
use Rattle.plan_growth.proofs.Sitting.{body_rules, wants_of}
use Rattle.plan_growth.proofs.There.{calls_there, names_there, step_below, there_both}

-- ---- names of statements

pub given_keys : (lib : Library) (x : Statement) (xs : List Statement) → length (body_given lib (x ∷ xs)).keys ≡ length (given_at lib (out-Statement x)).keys + length (body_given lib xs).keys
given_keys lib x xs =
    ap (λ (n : Names). length (n.keys ++ (body_given lib xs).keys)) (name_is lib x) ∙ length-append (given_at lib (out-Statement x)).keys (body_given lib xs).keys

pub given_calls : (lib : Library) (x : Statement) (xs : List Statement) → length (body_given lib (x ∷ xs)).calls ≡ length (given_at lib (out-Statement x)).calls + length (body_given lib xs).calls
given_calls lib x xs =
    ap (λ (n : Names). length (n.calls ++ (body_given lib xs).calls)) (name_is lib x) ∙ length-append (given_at lib (out-Statement x)).calls (body_given lib xs).calls

-- ---- steps one after the other

pub news_none : (v : Sown) → v ≡ with_news v []
news_none v = ap (λ (rs : List Rule). view_of v.values rs v.steps) (sym (append-nil v.rules)) ∙ ap (λ (ws : List Wants). view_of v.values (v.rules ++ []) ws) (sym (append-nil v.steps))

pub news_next : (v : Sown) (n : New) (ns : List New) → with_news (with_step v n.code n.needs) ns ≡ with_news v (n ∷ ns)
news_next v n ns =
    ap (λ (rs : List Rule). view_of v.values rs ((v.steps ++ new_wants n ∷ []) ++ map new_wants ns)) (append_assoc v.rules (n.code ∷ []) (map new_code ns))
    ∙ ap (λ (ws : List Wants). view_of v.values (v.rules ++ n.code ∷ map new_code ns) ws) (append_assoc v.steps (new_wants n ∷ []) (map new_wants ns))

module _ (lib : Library) (i : ℕ) (bases : List ℕ) (place : List Segment) where
  abbrev Added : laid.Form → Type 0
  Added (laid.one x a l) = Unit {0}
  Added (laid.all ss a ls) = (k : ℕ) (v : Sown) → with_statements i bases k ls v ≡ with_news v (statement_news lib i bases place k ss a ls)
  Added (laid.whole ss names calls path before after body) = Unit {0}

  abbrev Lined : laid.Form → Type 0
  Lined (laid.one x a l) = Unit {0}
  Lined (laid.all ss a ls) = (k : ℕ) → map new_wants (statement_news lib i bases place k ss a ls) ≡ map (wants_of bases) ls
  Lined (laid.whole ss names calls path before after body) = Unit {0}

  pub news_rules : (k : ℕ) (ss : List Statement) (a : Stand) (ls : List StatementLayout) → map new_means (statement_news lib i bases place k ss a ls) ≡ body_rules lib bases place ss a ls
  news_rules k [] a ls = refl
  news_rules k (x ∷ xs) a [] = refl
  news_rules k (x ∷ xs) a (l ∷ ls) =
      ap (λ (rs : List net.Rule). does x (scope_at bases a place) (given_of lib bases a x) (base_at bases a + l.done) ∷ rs) (news_rules (k + 1) xs (behind_one lib x a) ls)

  module _ (flow : ℕ) (root : List Statement) (bodies : List BodyLayout) where
    pub statements_added : {f : laid.Form} → Laid (Sees lib) lib flow root bodies f → Added f
    statements_added (laid_decl x a l slots needs) = tt
    statements_added (laid_call x a l slots needs) = tt
    statements_added (laid_scatter x a l body slots needs there p) = tt
    statements_added (laid_if x a l body slots needs there p) = tt
    statements_added (laid_none a) = λ k v. news_none v
    statements_added (laid_next x xs a l ls sees p q) = λ k v.
        statements_added q (k + 1) (with_step v (rule.Statement i k) (cells_of bases l.needs l.after))
        ∙ news_next v (record { code = rule.Statement i k; needs = cells_of bases l.needs l.after; means = does x (scope_at bases a place) (given_of lib bases a x) (base_at bases a + l.done) })
        (statement_news lib i bases place (k + 1) xs (behind_one lib x a) ls)
    statements_added (laid_whole ss names calls path before after body runs p) = tt

    pub news_steps : {f : laid.Form} → Laid (Sees lib) lib flow root bodies f → Lined f
    news_steps (laid_decl x a l slots needs) = tt
    news_steps (laid_call x a l slots needs) = tt
    news_steps (laid_scatter x a l body slots needs there p) = tt
    news_steps (laid_if x a l body slots needs there p) = tt
    news_steps (laid_none a) = λ k. refl
    news_steps (laid_next x xs a l ls sees p q) = λ k. ap (λ (ws : List Wants). wants_of bases l ∷ ws) (news_steps q (k + 1))
    news_steps (laid_whole ss names calls path before after body runs p) = tt

    abbrev Counted : laid.Form → Type 0
    Counted (laid.one x a l) = Unit {0}
    Counted (laid.all ss a ls) = (k : ℕ) → length (statement_news lib i bases place k ss a ls) ≡ length ss
    Counted (laid.whole ss names calls path before after body) = Unit {0}

    pub news_length : {f : laid.Form} → Laid (Sees lib) lib flow root bodies f → Counted f
    news_length (laid_decl x a l slots needs) = tt
    news_length (laid_call x a l slots needs) = tt
    news_length (laid_scatter x a l body slots needs there p) = tt
    news_length (laid_if x a l body slots needs there p) = tt
    news_length (laid_none a) = λ k. refl
    news_length (laid_next x xs a l ls sees p q) = λ k. let rest = news_length q (k + 1) in omega (arith, rest)
    news_length (laid_whole ss names calls path before after body runs p) = tt

    abbrev AsMany : laid.Form → Type 0
    AsMany (laid.one x a l) = Unit {0}
    AsMany (laid.all ss a ls) = length ls ≡ length ss
    AsMany (laid.whole ss names calls path before after body) = Unit {0}

    -- Each statement has a line of the layout.
    pub lines_length : {f : laid.Form} → Laid (Sees lib) lib flow root bodies f → AsMany f
    lines_length (laid_decl x a l slots needs) = tt
    lines_length (laid_call x a l slots needs) = tt
    lines_length (laid_scatter x a l body slots needs there p) = tt
    lines_length (laid_if x a l body slots needs there p) = tt
    lines_length (laid_none a) = refl
    lines_length (laid_next x xs a l ls sees p q) = let rest = lines_length q in omega (arith, rest)
    lines_length (laid_whole ss names calls path before after body runs p) = tt

-- ---- what holds of each

module _ (lib : Library) (layout : Layout) (is : List Instance) (b : Sheet) (owners : List ℕ) (i : ℕ) (instance : Instance) (body : BodyLayout) (flow : FlowDef) (ofi : IsInstance lib layout is i instance body flow) where
  abbrev bases : List ℕ
  bases = instance.bases

  abbrev place : List Segment
  place = instance.place

  abbrev size : ℕ
  size = length b.values

  abbrev Within : Stand → StatementLayout → Type 0
  Within a l = AreThere bases size a.names → AreThere bases size a.calls → All (λ (c : ℕ). c < size) (cells_of bases l.needs l.after)

  within_by : (a : Stand) (l : StatementLayout) (keys : List Key) (calls : List (List ℕ)) → HasNeeds a keys calls l → Within a l
  within_by a l keys calls n h j = step_below bases size a.names a.calls h j keys (plain_keys calls) l.needs l.after n.needs n.after

  abbrev AllAt : ℕ → List Statement → List StatementLayout → Type 0
  AllAt k ss ls =
      ((j : ℕ) (x : Statement) → slice_get ss j ≡ Some x → slice_get (body_at flow.body body.path) (k + j) ≡ Some x)
      × ((j : ℕ) (l : StatementLayout) → slice_get ls j ≡ Some l → slice_get body.statements (k + j) ≡ Some l)

  abbrev Says : laid.Form → Type 0
  Says (laid.one x a l) = Within a l
  Says (laid.all ss a ls) =
      (t k : ℕ) → AllSit b owners lib bases place t ss a ls → AreThere bases size a.names → AreThere bases size a.calls → length bases ≡ length a.path + 1 → AllAt k ss ls → Fits (body_given lib ss) a
      → AllStand lib layout is b owners t (statement_news lib i bases place k ss a ls)
  Says (laid.whole ss names calls path before after c) = Unit {0}

  own_cells : (t : ℕ) (x : Statement) (a : Stand) (l : StatementLayout) → Sits b owners t x (scope_at bases a place) (given_of lib bases a x) (base_at bases a + l.done) (cells_of bases l.needs l.after)
      → All (IsFree b owners t) (map slot_cell (given_of lib bases a x).names ++ (map mark_cell (given_of lib bases a x).calls ++ (base_at bases a + l.done) ∷ []))
  own_cells t x a l h =
      All-append (IsFree b owners t) (map slot_cell (given_of lib bases a x).names) (map mark_cell (given_of lib bases a x).calls ++ (base_at bases a + l.done) ∷ []) h.names
      (All-append (IsFree b owners t) (map mark_cell (given_of lib bases a x).calls) ((base_at bases a + l.done) ∷ []) h.calls
      (All-cons (IsFree b owners t) (base_at bases a + l.done) [] h.done (All-nil (IsFree b owners t))))

  at_first : {A : Type 0} (xs : List A) (x : A) (ys : List A) (k : ℕ) → ((j : ℕ) (y : A) → slice_get (x ∷ xs) j ≡ Some y → slice_get ys (k + j) ≡ Some y) → slice_get ys k ≡ Some x
  at_first xs x ys k h = ap (slice_get ys) (omega arith) ∙ h 0 x refl

  at_rest : {A : Type 0} (xs : List A) (x : A) (ys : List A) (k : ℕ) → ((j : ℕ) (y : A) → slice_get (x ∷ xs) j ≡ Some y → slice_get ys (k + j) ≡ Some y)
      → (j : ℕ) (y : A) → slice_get xs j ≡ Some y → slice_get ys (k + 1 + j) ≡ Some y
  at_rest xs x ys k h j y e = ap (slice_get ys) (omega arith) ∙ h (suc j) y e

  stands_next : (x : Statement) (xs : List Statement) (a : Stand) (l : StatementLayout) (ls : List StatementLayout) → Sees lib x a → Laid (Sees lib) lib body.flow flow.body layout.bodies (laid.one x a l) → Within a l
      → Says (laid.all xs (behind_one lib x a) ls) → Says (laid.all (x ∷ xs) a (l ∷ ls))
  stands_next x xs a l ls sees p within rest t k sit names calls depth at fits =
      let low : length a.path < length bases = omega (arith, depth) in
      let keys = given_keys lib x xs in
      let called = given_calls lib x xs in
      let left = fits.0 in
      let right = fits.1 in (
        record {
          means =
              record {
                instance = instance;
                body = body;
                flow = flow;
                of_instance = ofi;
                statement = x;
                statement_there = at_first xs x (body_at flow.body body.path) k at.0;
                line = l;
                line_there = at_first ls l body.statements k at.1;
                cells_are = refl;
                stand = a;
                sees = sees;
                laid = p;
                depth = depth;
                names = names;
                calls = calls;
                fits = (omega (arith, keys, left), omega (arith, called, right));
                means = refl;
              };
          free = λ e. own_cells t x a l sit.0;
          within = within names calls;
        },
        rest (t + 1) (k + 1) sit.1
            (there_both bases size a.names (spots_from (length a.path) a.next_name (given_at lib (out-Statement x)).keys) names
            (names_there b owners bases t (length a.path) low a.next_name (given_at lib (out-Statement x)).keys sit.0.names))
            (there_both bases size a.calls (spots_from (length a.path) a.next_call (plain_keys (given_at lib (out-Statement x)).calls)) calls
            (calls_there b owners bases t (length a.path) low a.next_call (plain_keys (given_at lib (out-Statement x)).calls) sit.0.calls))
            depth (at_rest xs x (body_at flow.body body.path) k at.0, at_rest ls l body.statements k at.1) (omega (arith, keys, left), omega (arith, called, right)),
      )

  pub statements_stand : {f : laid.Form} → Laid (Sees lib) lib body.flow flow.body layout.bodies f → Says f
  statements_stand (laid_decl x a l slots needs) = within_by a l (names_of x.value) [] needs
  statements_stand (laid_call x a l slots needs) = within_by a l (arg_keys x.args) x.after needs
  statements_stand (laid_scatter x a l inner slots needs there p) = within_by a l (names_of x.over) [] needs
  statements_stand (laid_if x a l inner slots needs there p) = within_by a l (names_of x.cond) [] needs
  statements_stand (laid_none a) = λ t k sit names calls depth at fits. tt
  statements_stand (laid_next x xs a l ls sees p q) = stands_next x xs a l ls sees p (statements_stand p) (statements_stand q)
  statements_stand (laid_whole ss names calls path before after c runs p) = tt
