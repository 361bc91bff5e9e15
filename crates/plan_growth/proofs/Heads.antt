-- What the expression of a step comes to, over cells that are all set.
use Rattle.std.proofs.Common.{◌≡◌, ℕ, Bool, true, cond, List, [], ◌∷◌, ◌++◌, map, is_some, Option, Some, None, slice_get, sym, ap, ◌∙◌, subst, refl}
use Rattle.std.specs.List.{list_all}
use Rattle.std.proofs.lemmas.Bool.{and_from, and_parts, false≢true}
use Rattle.wdl_base.specs.declared.name.Key.{Key}
use Rattle.wdl_base.specs.declared.place.Segment.{Segment}
use Rattle.wdl_value.specs.declared.value.Value.{Value}
use Rattle.wdl_value.specs.Outcome.{Outcome}
use Rattle.wdl_typed.specs.declared.expr.TExpr.{TExpr}
use Rattle.wdl_typed.specs.Evaluation.{value_of}
use Rattle.wdl_typed.specs.Flow.{Known, env_of}
use Rattle.wdl_typed.specs.KnownTypes as known
use Rattle.wdl_typed.specs.Requests.{before}
use Rattle.wdl_typed.specs.Scope.{is_among, names_of}
use Rattle.value_net.specs.Nets as values
use Rattle.value_net.specs.Nets.{joined, value_at}
use Rattle.net_laws.specs.Net.{Cells, Slot, known_in, slot_keys}
use Rattle.net_laws.specs.Rules.{Needs, head}
use Rattle.net_laws.proofs.Sets.{all_known_set, slots_set}
use Rattle.plan_moves.specs.Laws.{HasHead}
use Rattle.plan_moves.specs.Sheets.{Sheet}
use Rattle.plan_layout.specs.declared.layout.Need.{Need}
use Rattle.plan_layout.specs.Cells.{cell_at, slots_at}
use Rattle.plan_layout.specs.Laid.{Stand}
use Rattle.plan_layout.specs.Sees.{AllSeen}
use Rattle.plan_layout.specs.Spots.{needs_of}
use Rattle.plan_growth.specs.Begun.{scope_at}
use Rattle.plan_growth.proofs.Seen.{needs_here}

pub same_some : (o : Option Value) → is_some o ≡ known.is_some o
same_some None = refl
same_some (Some x) = refl

-- The names of a step that is ready have values.
pub needs_set : (vs : List (Option Value)) (bases : List ℕ) (ns : List Need) (more : List ℕ) → values.are_set vs (map (cell_at bases) ns ++ more) ≡ true → slots_set (value_at vs) (slots_at bases ns) ≡ true
needs_set vs bases [] more h = refl
needs_set vs bases (n ∷ ns) more h =
    let p = and_parts (values.is_set vs (cell_at bases n)) (values.are_set vs (map (cell_at bases) ns ++ more)) h in
    and_from (known.is_some (value_at vs (cell_at bases n))) (slots_set (value_at vs) (slots_at bases ns)) (sym (same_some (value_at vs (cell_at bases n))) ∙ p.0) (needs_set vs bases ns more p.1)

-- Cells that are set are so later.
pub known_same : (a b : Cells) (ss : List Slot) → slots_set a ss ≡ true → ((c : ℕ) → known.is_some (a c) ≡ true → b c ≡ a c) → map (known_in b) ss ≡ map (known_in a) ss
known_same a b [] h kept = refl
known_same a b (s ∷ ss) h kept =
    let p = and_parts (known.is_some (a s.cell)) (slots_set a ss) h in
    ap (λ (o : Option Value). record { key = s.key; value = o } ∷ map (known_in b) ss) (kept s.cell p.0)
    ∙ ap (λ (ks : List Known). record { key = s.key; value = a s.cell } ∷ ks) (known_same a b ss p.1 kept)

pub set_same : (a b : Cells) (ss : List Slot) → slots_set a ss ≡ true → ((c : ℕ) → known.is_some (a c) ≡ true → b c ≡ a c) → slots_set b ss ≡ true
set_same a b [] h kept = refl
set_same a b (s ∷ ss) h kept =
    let p = and_parts (known.is_some (a s.cell)) (slots_set a ss) h in
    and_from (known.is_some (b s.cell)) (slots_set b ss) (ap known.is_some (kept s.cell p.0) ∙ p.0) (set_same a b ss p.1 kept)

pub head_of : (cells : Cells) (ss : List Slot) (e : TExpr) → slots_set cells ss ≡ true → list_all (λ (k : Key). is_among k (slot_keys ss)) (names_of e) ≡ true
    → head cells ss e ≡ Some (value_of (before (env_of (map (known_in cells) ss))) e)
head_of cells ss e h all =
    ap (λ (b : Bool). let o : Option (Outcome Value) = cond b (Some (value_of (before (env_of (map (known_in cells) ss))) e)) None in o) (all_known_set cells ss h (names_of e) all)

-- What is set stays so.
pub values_kept : (vs ws : List (Option Value)) → ((c : ℕ) (x : Value) → slice_get vs c ≡ Some (Some x) → slice_get ws c ≡ Some (Some x)) → (c : ℕ) → known.is_some (value_at vs c) ≡ true → value_at ws c ≡ value_at vs c
values_kept vs ws kept c h = by_value (slice_get vs c) refl h
  where
    by_value : (o : Option (Option Value)) → slice_get vs c ≡ o → known.is_some (joined o) ≡ true → value_at ws c ≡ joined o
    by_value None e i = absurd (false≢true i)
    by_value (Some None) e i = absurd (false≢true i)
    by_value (Some (Some x)) e i = ap joined (kept c x e)

-- The value of an expression over what its step needs, as the laws of moves want it.
module _ (vs : List (Option Value)) (bases : List ℕ) (a : Stand) (place : List Segment) (e : TExpr) (needs : List Need) (are : needs ≡ needs_of a.names (names_of e)) (all_seen : AllSeen a.names (names_of e)) (more : List ℕ)
    (ready : values.are_set vs (map (cell_at bases) needs ++ more) ≡ true) where
  pub needs_are : Needs (scope_at bases a place) (names_of e) (slots_at bases needs)
  needs_are = subst (λ (ns : List Need). Needs (scope_at bases a place) (names_of e) (slots_at bases ns)) (sym are) (needs_here bases a place (names_of e) all_seen)

  pub has_head : (b : Sheet) → ((c : ℕ) (x : Value) → slice_get vs c ≡ Some (Some x) → slice_get b.values c ≡ Some (Some x)) → (o : Outcome Value)
      → value_of (before (env_of (map (known_in (value_at vs)) (slots_at bases needs)))) e ≡ o → HasHead b (scope_at bases a place) e o
  has_head b kept o is =
      let set = needs_set vs bases needs more ready in
      let same = values_kept vs b.values kept in
      record {
        slots = slots_at bases needs;
        needs = needs_are;
        value =
            head_of (value_at b.values) (slots_at bases needs) e (set_same (value_at vs) (value_at b.values) (slots_at bases needs) set same) needs_are.all
            ∙ ap (λ (ks : List Known). Some (value_of (before (env_of ks)) e)) (known_same (value_at vs) (value_at b.values) (slots_at bases needs) set same)
            ∙ ap (λ (r : Outcome Value). Some r) is;
      }
