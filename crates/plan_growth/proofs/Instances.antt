-- An instance of a body, as it stands after it was entered.
use Rattle.std.proofs.Common.{◌≡◌, ℕ, ◌+◌, ◌<◌, ◌≤◌, List, ◌++◌, map, length, replicate, Option, Some, None, slice_get, arith, ap, ◌∙◌}
use Rattle.std.proofs.lemmas.List.{length-append}
use Rattle.std.proofs.lemmas.Option.{slice_get_within}
use Rattle.wdl_base.specs.declared.place.Segment.{Segment}
use Rattle.wdl_value.specs.declared.value.Value.{Value}
use Rattle.wdl_typed.specs.declared.flow.Statement.{Statement}
use Rattle.wdl_typed.specs.Bodies.{Library}
use Rattle.step_net.specs.Views.{Wants}
use Rattle.value_net.specs.Nets.{view_of}
use Rattle.net_laws.specs.Growing.{Rule, body_given}
use Rattle.plan_moves.specs.Sheets.{Sheet}
use Rattle.plan_layout.specs.declared.layout.Need.{Need}
use Rattle.plan_layout.specs.declared.layout.StatementLayout.{StatementLayout}
use Rattle.plan_layout.specs.Laid.{Stand, beginning, behind_all}
use Rattle.plan_growth.specs.Begun.{IsFree, base_at}
use Rattle.plan_growth.proofs.Lists.{get_at, get_copy, get_left, get_right}
use Rattle.plan_growth.proofs.Sitting.{ArePut, body_rules, call_owners, calls_count, done_owners, dones_count, name_owners, names_count, wants_of}

-- What is at a place of the one list is there in the other.
abbrev pub Kept : {A : Type 0} → List A → List A → Type 0
Kept {A} xs ys = (i : ℕ) (x : A) → slice_get xs i ≡ Some x → slice_get ys i ≡ Some x

-- the owners of an instance's cells: those before the names of its statements and behind them, and those of its statements
abbrev pub instance_owners : Library → List ℕ → List ℕ → ℕ → List Statement → List ℕ
instance_owners lib befores afters t ss = befores ++ (name_owners lib t ss ++ (afters ++ (call_owners lib t ss ++ done_owners lib t ss)))

module _ (lib : Library) (befores afters : List ℕ) (t : ℕ) (ss : List Statement) where
  pub owners_count : (names calls : List Need) (path : List ℕ)
      → (behind_all lib ss (beginning names calls path (body_given lib ss) (length befores) (length afters))).next_done ≡ length (instance_owners lib befores afters t ss)
  owners_count names calls path =
      let end = dones_count lib t ss (beginning names calls path (body_given lib ss) (length befores) (length afters)) in
      let a = length-append befores (name_owners lib t ss ++ (afters ++ (call_owners lib t ss ++ done_owners lib t ss))) in
      let b = length-append (name_owners lib t ss) (afters ++ (call_owners lib t ss ++ done_owners lib t ss)) in
      let c = length-append afters (call_owners lib t ss ++ done_owners lib t ss) in
      let d = length-append (call_owners lib t ss) (done_owners lib t ss) in
      let n = names_count lib t ss in
      let m = calls_count lib t ss in
      omega (arith, end, a, b, c, d, n, m)

-- the steps of an instance and its cells, where no step of it was taken
pub record IsEntered (lib : Library) (b : Sheet) (owners bases : List ℕ) (place : List Segment) (befores afters : List ℕ) (base t : ℕ) (ss : List Statement) (a : Stand) (ls : List StatementLayout) : Type 0 where
  pub rules : (j : ℕ) (r : Rule) → slice_get (body_rules lib bases place ss a ls) j ≡ Some r → slice_get b.rules (t + j) ≡ Some r
  pub steps : (j : ℕ) (w : Wants) → slice_get (map (wants_of bases) ls) j ≡ Some w → slice_get b.steps (t + j) ≡ Some w
  pub owned : (j u : ℕ) → slice_get (instance_owners lib befores afters t ss) j ≡ Some u → slice_get owners (base + j) ≡ Some u
  pub unset : (j : ℕ) → length befores ≤ j → j < length (instance_owners lib befores afters t ss) → slice_get b.values (base + j) ≡ Some None

module _ (lib : Library) (b : Sheet) (owners bases : List ℕ) (place : List Segment) (befores afters : List ℕ) (base t : ℕ) (ss : List Statement) (ls : List StatementLayout) (names calls : List Need) (path : List ℕ) where
  abbrev stand : Stand
  stand = beginning names calls path (body_given lib ss) (length befores) (length afters)

  module _ (h : IsEntered lib b owners bases place befores afters base t ss stand ls) (same : base_at bases stand ≡ base) where
    slot_free : (s u c : ℕ) → slice_get (instance_owners lib befores afters t ss) s ≡ Some u → length befores ≤ s → c ≡ base + s → IsFree b owners u c
    slot_free s u c is le e =
        let at = h.owned s u is in
        let unset = h.unset s le (slice_get_within (instance_owners lib befores afters t ss) s u is) in
        (ap (slice_get owners) e ∙ at, ap (slice_get b.values) e ∙ unset)

    -- The statements of the instance are where its layout says.
    pub put : ArePut lib b owners bases place t ss stand ls
    put =
        record {
          rules = h.rules;
          steps = h.steps;
          names = λ j u is.
              slot_free (length befores + j) u (base_at bases stand + (length befores + j))
              (get_right befores (name_owners lib t ss ++ (afters ++ (call_owners lib t ss ++ done_owners lib t ss))) j
              ∙ get_left (name_owners lib t ss) (afters ++ (call_owners lib t ss ++ done_owners lib t ss)) j u is)
              (omega arith) (omega (arith, same));
          calls = λ j u is.
              let n = names_count lib t ss in
              slot_free (length befores + (length (name_owners lib t ss) + (length afters + j))) u (base_at bases stand + (stand.next_call + j))
              (get_right befores (name_owners lib t ss ++ (afters ++ (call_owners lib t ss ++ done_owners lib t ss))) (length (name_owners lib t ss) + (length afters + j))
              ∙ get_right (name_owners lib t ss) (afters ++ (call_owners lib t ss ++ done_owners lib t ss)) (length afters + j)
              ∙ get_right afters (call_owners lib t ss ++ done_owners lib t ss) j
              ∙ get_left (call_owners lib t ss) (done_owners lib t ss) j u is)
              (omega arith) (omega (arith, same, n));
          dones = λ j u is.
              let n = names_count lib t ss in
              let m = calls_count lib t ss in
              slot_free (length befores + (length (name_owners lib t ss) + (length afters + (length (call_owners lib t ss) + j)))) u (base_at bases stand + (stand.next_done + j))
              (get_right befores (name_owners lib t ss ++ (afters ++ (call_owners lib t ss ++ done_owners lib t ss))) (length (name_owners lib t ss) + (length afters + (length (call_owners lib t ss) + j)))
              ∙ get_right (name_owners lib t ss) (afters ++ (call_owners lib t ss ++ done_owners lib t ss)) (length afters + (length (call_owners lib t ss) + j))
              ∙ get_right afters (call_owners lib t ss ++ done_owners lib t ss) (length (call_owners lib t ss) + j)
              ∙ get_right (call_owners lib t ss) (done_owners lib t ss) j
              ∙ is)
              (omega arith) (omega (arith, same, n, m));
        }

-- ---- what is added later leaves it

pub record Extends (a : Sheet) (mine : List ℕ) (b : Sheet) (theirs : List ℕ) : Type 0 where
  pub rules : Kept a.rules b.rules
  pub steps : Kept a.steps b.steps
  pub owners : Kept mine theirs
  pub values : Kept a.values b.values

pub extends_twice : (a b c : Sheet) (mine theirs last : List ℕ) → Extends a mine b theirs → Extends b theirs c last → Extends a mine c last
extends_twice a b c mine theirs last p q =
    record {
      rules = λ i x h. q.rules i x (p.rules i x h);
      steps = λ i x h. q.steps i x (p.steps i x h);
      owners = λ i x h. q.owners i x (p.owners i x h);
      values = λ i x h. q.values i x (p.values i x h);
    }

pub entered_later : (lib : Library) (a b : Sheet) (mine theirs bases : List ℕ) (place : List Segment) (befores afters : List ℕ) (base t : ℕ) (ss : List Statement) (s : Stand) (ls : List StatementLayout)
    → Extends a mine b theirs → IsEntered lib a mine bases place befores afters base t ss s ls → IsEntered lib b theirs bases place befores afters base t ss s ls
entered_later lib a b mine theirs bases place befores afters base t ss s ls e h =
    record {
      rules = λ j r is. e.rules (t + j) r (h.rules j r is);
      steps = λ j w is. e.steps (t + j) w (h.steps j w is);
      owned = λ j u is. e.owners (base + j) u (h.owned j u is);
      unset = λ j le lt. e.values (base + j) None (h.unset j le lt);
    }

-- ---- an instance behind all others

module _ (lib : Library) (values : List (Option Value)) (rules : List Rule) (steps : List Wants) (owners bases : List ℕ) (place : List Segment) (befores afters : List ℕ) (ss : List Statement) (a : Stand)
    (ls : List StatementLayout) where
  abbrev first : ℕ
  first = length steps

  abbrev size : ℕ
  size = length (instance_owners lib befores afters first ss)

  abbrev pub entered_sheet : Sheet
  entered_sheet = view_of (values ++ replicate size None) (rules ++ body_rules lib bases place ss a ls) (steps ++ map (wants_of bases) ls)

  abbrev pub entered_owners : List ℕ
  entered_owners = owners ++ instance_owners lib befores afters first ss

  pub enters : length rules ≡ length steps → length owners ≡ length values → IsEntered lib entered_sheet entered_owners bases place befores afters (length values) first ss a ls
  enters even same =
      record {
        rules = λ j r is. get_at rules (body_rules lib bases place ss a ls) j (first + j) (omega (arith, even)) ∙ is;
        steps = λ j w is. get_right steps (map (wants_of bases) ls) j ∙ is;
        owned = λ j u is. get_at owners (instance_owners lib befores afters first ss) j (length values + j) (omega (arith, same)) ∙ is;
        unset = λ j le lt. get_right values (replicate size None) j ∙ get_copy size j None lt;
      }

  pub enters_behind : Extends (view_of values rules steps) owners entered_sheet entered_owners
  enters_behind =
      record {
        rules = λ i x h. get_left rules (body_rules lib bases place ss a ls) i x h;
        steps = λ i x h. get_left steps (map (wants_of bases) ls) i x h;
        owners = λ i x h. get_left owners (instance_owners lib befores afters first ss) i x h;
        values = λ i x h. get_left values (replicate size None) i x h;
      }
