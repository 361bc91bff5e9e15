-- The scopes of a workflow's own body: behind its inputs, behind its statements, behind its outputs; and the cells that say what is done.
use Rattle.std.proofs.Common.{◌≡◌, ℕ, zero, suc, ◌+◌, ◌<◌, List, [], ◌∷◌, ◌++◌, map, append_assoc, append-nil, length, arith, sym, ap, ◌∙◌, refl}
use Rattle.std.proofs.lemmas.List.{length-append}
use Rattle.wdl_base.specs.declared.name.Key.{Key}
use Rattle.wdl_base.specs.declared.place.Segment.{Segment}
use Rattle.wdl_value.specs.Tables.{Row}
use Rattle.wdl_typed.specs.declared.flow.Statement.{Statement, out-Statement}
use Rattle.wdl_typed.specs.declared.task.TDecl.{TDecl}
use Rattle.wdl_typed.specs.declared.task.TInput.{TInput}
use Rattle.wdl_typed.specs.Bodies.{Library}
use Rattle.wdl_typed.specs.Declarations.{plain_key}
use Rattle.net_laws.specs.Growing.{body_given, only, slot_cell}
use Rattle.net_laws.specs.Net.{Given, Mark, Scope, Slot, beyond, both_given}
use Rattle.plan_moves.specs.Sheets.{Sheet}
use Rattle.plan_layout.specs.declared.layout.Need.{Need}
use Rattle.plan_layout.specs.declared.layout.StatementLayout.{StatementLayout}
use Rattle.plan_layout.specs.Laid.{Stand, behind_all, behind_one, given_at, with_inputs, with_plain}
use Rattle.plan_layout.specs.Sees.{with_outputs}
use Rattle.plan_layout.specs.Spots.{spots_from}
use Rattle.plan_growth.specs.Begun.{AllSit, all_given, given_of, scope_at}
use Rattle.plan_growth.specs.Entering.{cells_from}
use Rattle.plan_growth.specs.Meaning.{AreThere}
use Rattle.plan_growth.proofs.Begins.{scope_behind}
use Rattle.plan_growth.proofs.Standing.{given_keys}
use Rattle.plan_growth.proofs.There.{names_there, there_both}
use Rattle.plan_growth.proofs.Told.{inputs_given, outputs_given, scope_next, told_scope}

-- Two parts one after the other are one.
pub beyond_both : (s : Scope) (g h : Given) → beyond (beyond s g) h ≡ beyond s (both_given g h)
beyond_both s g h =
    ap (λ (ns : List Slot). record { names = ns; calls = (s.calls ++ g.calls) ++ h.calls; place = s.place }) (append_assoc s.names g.names h.names)
    ∙ ap (λ (ms : List Mark). record { names = s.names ++ (g.names ++ h.names); calls = ms; place = s.place }) (append_assoc s.calls g.calls h.calls)

pub beyond_nothing : (s : Scope) (g : Given) → g.names ≡ [] → g.calls ≡ [] → beyond s g ≡ s
beyond_nothing s g e f =
    ap (λ (ns : List Slot). record { names = s.names ++ ns; calls = s.calls ++ g.calls; place = s.place }) e
    ∙ ap (λ (ns : List Slot). record { names = ns; calls = s.calls ++ g.calls; place = s.place }) (append-nil s.names)
    ∙ ap (λ (ms : List Mark). record { names = s.names; calls = s.calls ++ ms; place = s.place }) f
    ∙ ap (λ (ms : List Mark). record { names = s.names; calls = ms; place = s.place }) (append-nil s.calls)

module _ (base : ℕ) (place : List Segment) (calls : List Mark) where
  pub inputs_scope : (is : List TInput) (seen : List Need) (k : ℕ) → k ≡ length seen → told_scope base place calls (with_inputs seen is) ≡ beyond (told_scope base place calls seen) (inputs_given base k is)
  inputs_scope [] seen k e = sym (beyond_nothing (told_scope base place calls seen) (inputs_given base k []) refl refl)
  inputs_scope (i ∷ is) seen k e =
      let more = length-append seen (record { key = plain_key i.name; level = 0; slot = length seen } ∷ []) in
      inputs_scope is (with_plain seen i.name) (k + 1) (omega (arith, e, more))
      ∙ ap (λ (s : Scope). beyond s (inputs_given base (k + 1) is)) (scope_next base place calls seen i.name (base + k) (omega (arith, e)))
      ∙ beyond_both (told_scope base place calls seen) (only i.name (base + k)) (inputs_given base (k + 1) is)

  pub outputs_scope : (ds : List TDecl) (seen : List Need) (k : ℕ) → k ≡ length seen → told_scope base place calls (with_outputs seen ds) ≡ beyond (told_scope base place calls seen) (outputs_given base k ds)
  outputs_scope [] seen k e = sym (beyond_nothing (told_scope base place calls seen) (outputs_given base k []) refl refl)
  outputs_scope (d ∷ ds) seen k e =
      let more = length-append seen (record { key = plain_key d.name; level = 0; slot = length seen } ∷ []) in
      outputs_scope ds (with_plain seen d.name) (k + 1) (omega (arith, e, more))
      ∙ ap (λ (s : Scope). beyond s (outputs_given base (k + 1) ds)) (scope_next base place calls seen d.name (base + k) (omega (arith, e)))
      ∙ beyond_both (told_scope base place calls seen) (only d.name (base + k)) (outputs_given base (k + 1) ds)

pub inputs_count : (is : List TInput) (seen : List Need) → length (with_inputs seen is) ≡ length seen + length is
inputs_count [] seen = omega arith
inputs_count (i ∷ is) seen =
    let more = length-append seen (record { key = plain_key i.name; level = 0; slot = length seen } ∷ []) in
    let rest = inputs_count is (with_plain seen i.name) in
    omega (arith, more, rest)

module _ (lib : Library) where
  spots_count : (level first : ℕ) (ks : List Key) → length (spots_from level first ks) ≡ length ks
  spots_count level first [] = refl
  spots_count level first (k ∷ ks) = let rest = spots_count level (first + 1) ks in omega (arith, rest)

  pub behind_count : (ss : List Statement) (a : Stand) → length (behind_all lib ss a).names ≡ length a.names + length (body_given lib ss).keys
  behind_count [] a = omega arith
  behind_count (x ∷ xs) a =
      let rest = behind_count xs (behind_one lib x a) in
      let both = length-append a.names (spots_from (length a.path) a.next_name (given_at lib (out-Statement x)).keys) in
      let own = spots_count (length a.path) a.next_name (given_at lib (out-Statement x)).keys in
      let keys = given_keys lib x xs in
      omega (arith, rest, both, own, keys)

  module _ (site : List ℕ) (rows : List Row) (b : Sheet) (owners bases : List ℕ) (place : List Segment) where
    pub body_scope : (ss : List Statement) (a : Stand) → scope_at bases (behind_all lib ss a) place ≡ beyond (scope_at bases a place) (all_given lib bases a ss)
    body_scope [] a = sym (beyond_nothing (scope_at bases a place) (all_given lib bases a []) refl refl)
    body_scope (x ∷ xs) a =
        body_scope xs (behind_one lib x a)
        ∙ ap (λ (s : Scope). beyond s (all_given lib bases (behind_one lib x a) xs)) (scope_behind lib site rows b owners bases place x a)
        ∙ beyond_both (scope_at bases a place) (given_of lib bases a x) (all_given lib bases (behind_one lib x a) xs)

    pub behind_there : (t : ℕ) (ss : List Statement) (a : Stand) (ls : List StatementLayout) → AllSit b owners lib bases place t ss a ls → length a.path < length bases → AreThere bases (length b.values) a.names
        → AreThere bases (length b.values) (behind_all lib ss a).names
    behind_there t [] a ls sit low there = there
    behind_there t (x ∷ xs) a [] sit low there = absurd sit
    behind_there t (x ∷ xs) a (l ∷ ls) sit low there =
        behind_there (t + 1) xs (behind_one lib x a) ls sit.1 low
        (there_both bases (length b.values) a.names (spots_from (length a.path) a.next_name (given_at lib (out-Statement x)).keys) there
        (names_there b owners bases t (length a.path) low a.next_name (given_at lib (out-Statement x)).keys sit.0.names))

-- ---- what says that all is done

cells_first : (c n : ℕ) → cells_from c (suc n) ≡ c ∷ cells_from (c + 1) n
cells_first c zero = let z : c + 0 ≡ c = omega arith in ap (λ (d : ℕ). d ∷ []) z
cells_first c (suc n) =
    let z : c + suc n ≡ c + 1 + n = omega arith in
    ap (λ (cs : List ℕ). cs ++ (c + suc n) ∷ []) (cells_first c n) ∙ ap (λ (d : ℕ). (c ∷ cells_from (c + 1) n) ++ d ∷ []) z

pub inputs_cells : (base k c : ℕ) (is : List TInput) → c ≡ base + k → map slot_cell (inputs_given base k is).names ≡ cells_from c (length is)
inputs_cells base k c [] e = refl
inputs_cells base k c (i ∷ is) e =
    ap (λ (cs : List ℕ). (base + k) ∷ cs) (inputs_cells base (k + 1) (c + 1) is (omega (arith, e))) ∙ ap (λ (d : ℕ). d ∷ cells_from (c + 1) (length is)) (sym e) ∙ sym (cells_first c (length is))

pub outputs_cells : (base k c : ℕ) (ds : List TDecl) → c ≡ base + k → map slot_cell (outputs_given base k ds).names ≡ cells_from c (length ds)
outputs_cells base k c [] e = refl
outputs_cells base k c (d ∷ ds) e =
    ap (λ (cs : List ℕ). (base + k) ∷ cs) (outputs_cells base (k + 1) (c + 1) ds (omega (arith, e))) ∙ ap (λ (x : ℕ). x ∷ cells_from (c + 1) (length ds)) (sym e) ∙ sym (cells_first c (length ds))
