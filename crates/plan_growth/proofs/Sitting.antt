-- The steps of a body that is entered: what each is to do, what it needs, and the cells that are its own.
use Rattle.std.proofs.Common.{◌≡◌, ℕ, suc, ◌+◌, ◌<◌, false, List, [], ◌∷◌, ◌++◌, All, map, length, replicate, Some, slice_get, arith, sym, ap, ◌∙◌, subst, refl}
use Rattle.std.proofs.lemmas.List.{length-append, length-replicate}
use Rattle.std.proofs.lemmas.List.Elements.{All-cons, All-nil}
use Rattle.wdl_base.specs.declared.name.Key.{Key}
use Rattle.wdl_base.specs.declared.place.Segment.{Segment}
use Rattle.wdl_typed.specs.declared.flow.Statement.{Statement, Statement-F, out-Statement}
use Rattle.wdl_typed.specs.declared.flow.Statement.TheOpen as layer
use Rattle.wdl_typed.specs.declared.flow.Statement.TheVariants as stmt
use Rattle.wdl_typed.specs.Bodies.{Library}
use Rattle.wdl_typed.specs.Flow.{Names}
use Rattle.step_net.specs.Views.{Wants}
use Rattle.net_laws.specs.Growing.{Rule, body_given, does, mark_cell, slot_cell}
use Rattle.plan_moves.specs.Sheets.{Sheet}
use Rattle.plan_layout.specs.declared.layout.BodyLayout.{BodyLayout}
use Rattle.plan_layout.specs.declared.layout.StatementLayout.{StatementLayout}
use Rattle.plan_layout.specs.Cells.{marks_at, slots_at}
use Rattle.plan_layout.specs.Laid as laid
use Rattle.plan_layout.specs.Laid.{Laid, Stand, behind_all, behind_one, blocks_at, given_at, laid_call, laid_decl, laid_if, laid_next, laid_none, laid_scatter, laid_whole}
use Rattle.plan_layout.specs.Sees.{Sees}
use Rattle.plan_layout.specs.Spots.{plain_keys, spots_from}
use Rattle.plan_layout.proofs.Given.{name_is}
use Rattle.plan_growth.specs.Begun.{AllSit, IsFree, Sits, base_at, given_of, scope_at}
use Rattle.plan_growth.specs.Entering.{cells_of}
use Rattle.plan_growth.proofs.Lists.{get_at, get_copy, get_left}

-- ---- the steps of statements, and the owners of their cells

-- what the steps of statements are to do
abbrev pub body_rules : Library → List ℕ → List Segment → List Statement → Stand → List StatementLayout → List Rule
body_rules lib bases place [] a ls = []
body_rules lib bases place (x ∷ xs) a [] = []
body_rules lib bases place (x ∷ xs) a (l ∷ ls) =
    does x (scope_at bases a place) (given_of lib bases a x) (base_at bases a + l.done) ∷ body_rules lib bases place xs (behind_one lib x a) ls

abbrev pub wants_of : List ℕ → StatementLayout → Wants
wants_of bases l = record { needs = cells_of bases l.needs l.after; is_taken = false }

module _ (lib : Library) where
  abbrev pub names_at : Statement → Names
  names_at x = given_at lib (out-Statement x)

  -- of each name that statements give out, from this step on, the step that may set it; the same of calls, and of what is done
  abbrev pub name_owners : ℕ → List Statement → List ℕ
  name_owners t [] = []
  name_owners t (x ∷ xs) = replicate (length (names_at x).keys) t ++ name_owners (t + 1) xs

  abbrev pub call_owners : ℕ → List Statement → List ℕ
  call_owners t [] = []
  call_owners t (x ∷ xs) = replicate (length (names_at x).calls) t ++ call_owners (t + 1) xs

  abbrev pub done_owners : ℕ → List Statement → List ℕ
  done_owners t [] = []
  done_owners t (x ∷ xs) = replicate (blocks_at (out-Statement x)) t ++ done_owners (t + 1) xs

  both_lengths : {A : Type 0} (n t : ℕ) (ks ls : List A) (os : List ℕ) → length ks ≡ n → length os ≡ length ls → length (replicate n t ++ os) ≡ length (ks ++ ls)
  both_lengths n t ks ls os e f =
      let a = length-append (replicate n t) os in
      let b = length-append ks ls in
      let c = length-replicate n t in
      omega (arith, a, b, c, e, f)

  pub names_count : (t : ℕ) (ss : List Statement) → length (name_owners t ss) ≡ length (body_given lib ss).keys
  names_count t [] = refl
  names_count t (x ∷ xs) =
      both_lengths (length (names_at x).keys) t (names_at x).keys (body_given lib xs).keys (name_owners (t + 1) xs) refl (names_count (t + 1) xs)
      ∙ ap (λ (n : Names). length (n.keys ++ (body_given lib xs).keys)) (sym (name_is lib x))

  pub calls_count : (t : ℕ) (ss : List Statement) → length (call_owners t ss) ≡ length (body_given lib ss).calls
  calls_count t [] = refl
  calls_count t (x ∷ xs) =
      both_lengths (length (names_at x).calls) t (names_at x).calls (body_given lib xs).calls (call_owners (t + 1) xs) refl (calls_count (t + 1) xs)
      ∙ ap (λ (n : Names). length (n.calls ++ (body_given lib xs).calls)) (sym (name_is lib x))

  pub dones_count : (t : ℕ) (ss : List Statement) (a : Stand) → (behind_all lib ss a).next_done ≡ a.next_done + length (done_owners t ss)
  dones_count t [] a = omega arith
  dones_count t (x ∷ xs) a =
      let rest = dones_count (t + 1) xs (behind_one lib x a) in
      let both = length-append (replicate (blocks_at (out-Statement x)) t) (done_owners (t + 1) xs) in
      let own = length-replicate (blocks_at (out-Statement x)) t in
      omega (arith, rest, both, own)

-- ---- one statement

module _ (lib : Library) (b : Sheet) (owners bases : List ℕ) (place : List Segment) where
  abbrev Free : ℕ → ℕ → Type 0
  Free t c = IsFree b owners t c

  -- the cells of a run, from a slot on, are the step's
  abbrev RunFree : ℕ → Stand → ℕ → ℕ → Type 0
  RunFree t a first count = (j : ℕ) → j < count → Free t (base_at bases a + (first + j))

  free_at : (t c d : ℕ) → c ≡ d → Free t d → Free t c
  free_at t c d e h = subst (Free t) (sym e) h

  run_later : (t : ℕ) (a : Stand) (first count : ℕ) → RunFree t a first (suc count) → RunFree t a (first + 1) count
  run_later t a first count h j lt = free_at t (base_at bases a + (first + 1 + j)) (base_at bases a + (first + suc j)) (omega arith) (h (suc j) (omega (arith, lt)))

  names_free : (t : ℕ) (a : Stand) (first : ℕ) (ks : List Key) → RunFree t a first (length ks) → All (Free t) (map slot_cell (slots_at bases (spots_from (length a.path) first ks)))
  names_free t a first [] h = All-nil (Free t)
  names_free t a first (k ∷ ks) h =
      All-cons (Free t) (base_at bases a + first) (map slot_cell (slots_at bases (spots_from (length a.path) (first + 1) ks)))
      (free_at t (base_at bases a + first) (base_at bases a + (first + 0)) (omega arith) (h 0 (omega arith)))
      (names_free t a (first + 1) ks (run_later t a first (length ks) h))

  calls_free : (t : ℕ) (a : Stand) (first : ℕ) (cs : List (List ℕ)) → RunFree t a first (length cs) → All (Free t) (map mark_cell (marks_at bases (spots_from (length a.path) first (plain_keys cs))))
  calls_free t a first [] h = All-nil (Free t)
  calls_free t a first (c ∷ cs) h =
      All-cons (Free t) (base_at bases a + first) (map mark_cell (marks_at bases (spots_from (length a.path) (first + 1) (plain_keys cs))))
      (free_at t (base_at bases a + first) (base_at bases a + (first + 0)) (omega arith) (h 0 (omega arith)))
      (calls_free t a (first + 1) cs (run_later t a first (length cs) h))

  -- where a statement is to be found, and its cells
  pub record IsPut (t : ℕ) (x : Statement) (a : Stand) (l : StatementLayout) : Type 0 where
    pub rule : slice_get b.rules t ≡ Some (does x (scope_at bases a place) (given_of lib bases a x) (base_at bases a + l.done))
    pub step : slice_get b.steps t ≡ Some (wants_of bases l)
    pub names : RunFree t a a.next_name (length (names_at lib x).keys)
    pub calls : RunFree t a a.next_call (length (names_at lib x).calls)
    pub dones : RunFree t a a.next_done (blocks_at (out-Statement x))

  abbrev DoneFree : Statement → Stand → StatementLayout → Type 0
  DoneFree x a l = (t : ℕ) → IsPut t x a l → Free t (base_at bases a + l.done)

  first_free : (t : ℕ) (a : Stand) (done first count : ℕ) → done ≡ first → count ≡ 1 → RunFree t a first count → Free t (base_at bases a + done)
  first_free t a done first count e n h = free_at t (base_at bases a + done) (base_at bases a + (first + 0)) (omega (arith, e)) (h 0 (omega (arith, n)))

  pub sits : (t : ℕ) (x : Statement) (a : Stand) (l : StatementLayout) → IsPut t x a l → DoneFree x a l
      → Sits b owners t x (scope_at bases a place) (given_of lib bases a x) (base_at bases a + l.done) (cells_of bases l.needs l.after)
  sits t x a l p done =
      record {
        rule = p.rule;
        step = p.step;
        names = names_free t a a.next_name (names_at lib x).keys p.names;
        calls = calls_free t a a.next_call (names_at lib x).calls p.calls;
        done = done t p;
      }

  -- ---- statements one after the other

  -- the cells of a run are those of these steps
  abbrev pub Owned : Stand → ℕ → List ℕ → Type 0
  Owned a first os = (j u : ℕ) → slice_get os j ≡ Some u → Free u (base_at bases a + (first + j))

  -- where statements are to be found, from this step on, and their cells
  pub record ArePut (t : ℕ) (ss : List Statement) (a : Stand) (ls : List StatementLayout) : Type 0 where
    pub rules : (j : ℕ) (r : Rule) → slice_get (body_rules lib bases place ss a ls) j ≡ Some r → slice_get b.rules (t + j) ≡ Some r
    pub steps : (j : ℕ) (w : Wants) → slice_get (map (wants_of bases) ls) j ≡ Some w → slice_get b.steps (t + j) ≡ Some w
    pub names : Owned a a.next_name (name_owners lib t ss)
    pub calls : Owned a a.next_call (call_owners lib t ss)
    pub dones : Owned a a.next_done (done_owners lib t ss)

  own_run : (t : ℕ) (a : Stand) (first n : ℕ) (os : List ℕ) → Owned a first (replicate n t ++ os) → RunFree t a first n
  own_run t a first n os h j lt = h j t (get_left (replicate n t) os j t (get_copy n j t lt))

  later_runs : (t : ℕ) (a : Stand) (first n : ℕ) (os : List ℕ) (next : Stand) → base_at bases next ≡ base_at bases a → Owned a first (replicate n t ++ os) → Owned next (first + n) os
  later_runs t a first n os next same h j u is =
      let size = length-replicate n t in
      free_at u (base_at bases next + (first + n + j)) (base_at bases a + (first + (n + j))) (omega (arith, same))
      (h (n + j) u (get_at (replicate n t) os j (n + j) (omega (arith, size)) ∙ is))

  put_first : (t : ℕ) (x : Statement) (xs : List Statement) (a : Stand) (l : StatementLayout) (ls : List StatementLayout) → ArePut t (x ∷ xs) a (l ∷ ls) → IsPut t x a l
  put_first t x xs a l ls p =
      record {
        rule = ap (slice_get b.rules) (omega arith) ∙ p.rules 0 (does x (scope_at bases a place) (given_of lib bases a x) (base_at bases a + l.done)) refl;
        step = ap (slice_get b.steps) (omega arith) ∙ p.steps 0 (wants_of bases l) refl;
        names = own_run t a a.next_name (length (names_at lib x).keys) (name_owners lib (t + 1) xs) p.names;
        calls = own_run t a a.next_call (length (names_at lib x).calls) (call_owners lib (t + 1) xs) p.calls;
        dones = own_run t a a.next_done (blocks_at (out-Statement x)) (done_owners lib (t + 1) xs) p.dones;
      }

  put_rest : (t : ℕ) (x : Statement) (xs : List Statement) (a : Stand) (l : StatementLayout) (ls : List StatementLayout) → ArePut t (x ∷ xs) a (l ∷ ls) → ArePut (t + 1) xs (behind_one lib x a) ls
  put_rest t x xs a l ls p =
      record {
        rules = λ j r is. ap (slice_get b.rules) (omega arith) ∙ p.rules (suc j) r is;
        steps = λ j w is. ap (slice_get b.steps) (omega arith) ∙ p.steps (suc j) w is;
        names = later_runs t a a.next_name (length (names_at lib x).keys) (name_owners lib (t + 1) xs) (behind_one lib x a) refl p.names;
        calls = later_runs t a a.next_call (length (names_at lib x).calls) (call_owners lib (t + 1) xs) (behind_one lib x a) refl p.calls;
        dones = later_runs t a a.next_done (blocks_at (out-Statement x)) (done_owners lib (t + 1) xs) (behind_one lib x a) refl p.dones;
      }

  abbrev Says : laid.Form → Type 0
  Says (laid.one x a l) = DoneFree x a l
  Says (laid.all ss a ls) = (t : ℕ) → ArePut t ss a ls → AllSit b owners lib bases place t ss a ls
  Says (laid.whole ss names calls path before after body) = Unit {0}

  count_is : (x : Statement) (y : Statement-F Statement) (count : Statement-F Statement → ℕ) → out-Statement x ≡ y → count y ≡ 1 → count (out-Statement x) ≡ 1
  count_is x y count e h = ap count e ∙ h

  module _ (flow : ℕ) (root : List Statement) (bodies : List BodyLayout) where
    pub all_sit : {f : laid.Form} → Laid (Sees lib) lib flow root bodies f → Says f
    all_sit (laid_decl x a l slots needs) = λ t p.
        first_free t a l.done a.next_name (length (names_at lib (stmt.Decl x)).keys) slots.done_is
        (count_is (stmt.Decl x) (layer.Decl x) (λ (y : Statement-F Statement). length (given_at lib y).keys) (stmt.outs-Decl x) refl) p.names
    all_sit (laid_call x a l slots needs) = λ t p.
        first_free t a l.done a.next_call (length (names_at lib (stmt.Call x)).calls) slots.done_is
        (count_is (stmt.Call x) (layer.Call x) (λ (y : Statement-F Statement). length (given_at lib y).calls) (stmt.outs-Call x) refl) p.calls
    all_sit (laid_scatter x a l body slots needs there p) = λ t q.
        first_free t a l.done a.next_done (blocks_at (out-Statement (stmt.Scatter x))) slots.done_is (count_is (stmt.Scatter x) (layer.Scatter x) blocks_at (stmt.outs-Scatter x) refl) q.dones
    all_sit (laid_if x a l body slots needs there p) = λ t q.
        first_free t a l.done a.next_done (blocks_at (out-Statement (stmt.If x))) slots.done_is (count_is (stmt.If x) (layer.If x) blocks_at (stmt.outs-If x) refl) q.dones
    all_sit (laid_none a) = λ t p. tt
    all_sit (laid_next x xs a l ls sees p q) = λ t put. (sits t x a l (put_first t x xs a l ls put) (all_sit p), all_sit q (t + 1) (put_rest t x xs a l ls put))
    all_sit (laid_whole ss names calls path before after body runs p) = tt
