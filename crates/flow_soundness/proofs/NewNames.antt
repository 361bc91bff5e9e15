-- The names that statements give out, and those that they declare.
use Rattle.std.proofs.Common.{◌≡◌, ℕ, Bool, true, false, cond, not, ◌||◌, List, [], ◌∷◌, ◌++◌, map, Option, Some, None, sym, ap, ◌∙◌, subst, refl}
use Rattle.std.specs.Str.{bytes_eq}
use Rattle.std.proofs.lemmas.Bool.{false≢true, and_from, and_parts, or_left, or_right}
use Rattle.std.proofs.lemmas.Slice.Eq.{bytes_eq-Decides}
use Rattle.wdl_base.specs.declared.name.Key.{Key}
use Rattle.wdl_value.specs.declared.ty.Ty.{Ty}
use Rattle.wdl_typed.specs.declared.flow.FlowDef.{FlowDef}
use Rattle.wdl_typed.specs.declared.flow.Statement.{Statement, Statement-F, map-Statement, roll-Statement, ind-Statement, fold-roll-Statement}
use Rattle.wdl_typed.specs.declared.flow.Statement.TheOpen as layer
use Rattle.wdl_typed.specs.declared.scope.Bound.{Bound}
use Rattle.wdl_typed.specs.declared.task.TDecl.{TDecl}
use Rattle.wdl_typed.specs.declared.task.TaskDef.{TaskDef}
use Rattle.wdl_typed.specs.Bodies.{all_declared, append_all, declared, names_step}
use Rattle.wdl_typed.specs.Declarations.{plain_key}
use Rattle.wdl_typed.specs.Flow.{Names, output_keys}
use Rattle.wdl_typed.specs.Lists.{has_name}
use Rattle.wdl_typed.specs.Scope.{is_among, same_key, same_second, type_in}
use Rattle.wdl_names.specs.Fresh.{fresh}
use Rattle.wdl_flow.specs.Given.{all_names, names_in, names_step as given_step, outputs_of}

-- ---- keys and types

second_same : (s : Option (List ℕ)) → same_second s s ≡ true
second_same (Some s) = (bytes_eq-Decides s s).1 refl
second_same None = refl

pub same_key-refl : (key : Key) → same_key key key ≡ true
same_key-refl key = and_from (bytes_eq key.first key.first) (same_second key.second key.second) ((bytes_eq-Decides key.first key.first).1 refl) (second_same key.second)

abbrev pub keys_of : List Bound → List Key
keys_of = map (λ (b : Bound). b.key)

pub type_among : (bs : List Bound) (key : Key) (t : Ty) → type_in bs key ≡ Some t → is_among key (keys_of bs) ≡ true
type_among [] key t h = absurd (cc)
type_among (b ∷ bs) key t h = by_test (same_key b.key key) h (type_among bs key t)
  where
    by_test : (s : Bool) → cond s (Some b.ty) (type_in bs key) ≡ Some t → (type_in bs key ≡ Some t → is_among key (keys_of bs) ≡ true) → (s || is_among key (keys_of bs)) ≡ true
    by_test true h rest = refl
    by_test false h rest = rest h

pub among_type : (bs : List Bound) (key : Key) → is_among key (keys_of bs) ≡ true → (t : Ty) × (type_in bs key ≡ Some t)
among_type [] key h = absurd (false≢true h)
among_type (b ∷ bs) key h = by_test (same_key b.key key) h (among_type bs key)
  where
    by_test : (s : Bool) → (s || is_among key (keys_of bs)) ≡ true → (is_among key (keys_of bs) ≡ true → (t : Ty) × (type_in bs key ≡ Some t)) → (t : Ty) × (cond s (Some b.ty) (type_in bs key) ≡ Some t)
    by_test true h rest = (b.ty, refl)
    by_test false h rest = rest h

pub among_split : (key : Key) (xs ys : List Key) → is_among key (xs ++ ys) ≡ true → (b : Bool) × (is_among key (cond b xs ys) ≡ true)
among_split key [] ys h = (false, h)
among_split key (x ∷ xs) ys h = by_test (same_key x key) refl h (among_split key xs ys)
  where
    by_rest : (p : (b : Bool) × (is_among key (cond b xs ys) ≡ true)) → (b : Bool) × (is_among key (cond b (x ∷ xs) ys) ≡ true)
    by_rest (true, h) = (true, or_right (same_key x key) (is_among key xs) h)
    by_rest (false, h) = (false, h)

    by_test : (s : Bool) → same_key x key ≡ s → (s || is_among key (xs ++ ys)) ≡ true → (is_among key (xs ++ ys) ≡ true → (b : Bool) × (is_among key (cond b xs ys) ≡ true))
        → (b : Bool) × (is_among key (cond b (x ∷ xs) ys) ≡ true)
    by_test true e h rest = (true, or_left (same_key x key) (is_among key xs) e)
    by_test false e h rest = by_rest (rest h)

-- ---- names among others

pub name_left : (n : List ℕ) (xs ys : List (List ℕ)) → has_name n xs ≡ true → has_name n (xs ++ ys) ≡ true
name_left n [] ys h = absurd (false≢true h)
name_left n (x ∷ xs) ys h = either (bytes_eq x n) (has_name n xs) (has_name n (xs ++ ys)) (name_left n xs ys) h
  where
    either : (b c d : Bool) → (c ≡ true → d ≡ true) → (b || c) ≡ true → (b || d) ≡ true
    either true c d f h = refl
    either false c d f h = f h

pub name_right : (n : List ℕ) (xs ys : List (List ℕ)) → has_name n ys ≡ true → has_name n (xs ++ ys) ≡ true
name_right n [] ys h = h
name_right n (x ∷ xs) ys h = or_right (bytes_eq x n) (has_name n (xs ++ ys)) (name_right n xs ys h)

pub name_one : (n : List ℕ) → has_name n (n ∷ []) ≡ true
name_one n = or_left (bytes_eq n n) false ((bytes_eq-Decides n n).1 refl)

-- what is new is not among those before
pub fresh_apart : (n : List ℕ) (ts ns : List (List ℕ)) → fresh ts ns ≡ true → has_name n ns ≡ true → has_name n ts ≡ true → ⊥
fresh_apart n ts [] f h k = false≢true h
fresh_apart n ts (m ∷ ms) f h k =
    let p = and_parts (not (has_name m ts)) (fresh (ts ++ m ∷ []) ms) f in
    by_test (bytes_eq m n) refl h p.0 (λ g. fresh_apart n (ts ++ m ∷ []) ms p.1 g (name_left n ts (m ∷ []) k))
  where
    by_test : (b : Bool) → bytes_eq m n ≡ b → (b || has_name n ms) ≡ true → not (has_name m ts) ≡ true → (has_name n ms ≡ true → ⊥) → ⊥
    by_test true e h own rest =
        let same = (bytes_eq-Decides m n).0 e in
        false≢true (ap not (sym (ap (λ z. has_name z ts) same ∙ k)) ∙ own)
    by_test false e h own rest = rest h

-- ---- keys of what is given out

key_first : (call : List ℕ) (o : Option (List ℕ)) (key : Key) → same_key (record { first = call; second = o }) key ≡ true → bytes_eq call key.first ≡ true
key_first call o key h = (and_parts (bytes_eq call key.first) (same_second o key.second) h).0

outputs_first : (call : List ℕ) (ds : List TDecl) (key : Key) → is_among key (output_keys call ds) ≡ true → has_name key.first (call ∷ []) ≡ true
outputs_first call [] key h = absurd (false≢true h)
outputs_first call (d ∷ ds) key h = by_test (same_key (record { first = call; second = Some d.name }) key) refl h (outputs_first call ds key)
  where
    by_test : (b : Bool) → same_key (record { first = call; second = Some d.name }) key ≡ b → (b || is_among key (output_keys call ds)) ≡ true
        → (is_among key (output_keys call ds) ≡ true → has_name key.first (call ∷ []) ≡ true) → has_name key.first (call ∷ []) ≡ true
    by_test true e h rest = or_left (bytes_eq call key.first) false (key_first call (Some d.name) key e)
    by_test false e h rest = rest h

module _ (tasks : List TaskDef) (flows : List FlowDef) where
  -- The first name of a key that is given out is declared.
  abbrev Declares : Statement → Type 0
  Declares st = (key : Key) → is_among key (names_in tasks flows st).keys ≡ true → has_name key.first (declared st) ≡ true

  abbrev Kept : Type 0
  Kept = (st : Statement) × Declares st

  abbrev plain : Statement-F Kept → Statement-F Statement
  plain = map-Statement Kept Statement (λ (k : Kept). k.0)

  abbrev firsts : List Kept → List Statement
  firsts = map (λ (k : Kept). k.0)

  list_declares : (ks : List Kept) (key : Key) → is_among key (all_names tasks flows (firsts ks)).keys ≡ true → has_name key.first (append_all (map declared (firsts ks))) ≡ true
  list_declares [] key h = absurd (false≢true h)
  list_declares (k ∷ ks) key h = by_side (among_split key (names_in tasks flows k.0).keys (all_names tasks flows (firsts ks)).keys h) (list_declares ks key)
    where
      by_side : (b : Bool) × (is_among key (cond b (names_in tasks flows k.0).keys (all_names tasks flows (firsts ks)).keys) ≡ true)
          → (is_among key (all_names tasks flows (firsts ks)).keys ≡ true → has_name key.first (append_all (map declared (firsts ks))) ≡ true)
          → has_name key.first (declared k.0 ++ append_all (map declared (firsts ks))) ≡ true
      by_side (true, g) rest = name_left key.first (declared k.0) (append_all (map declared (firsts ks))) (k.1 key g)
      by_side (false, g) rest = name_right key.first (declared k.0) (append_all (map declared (firsts ks))) (rest g)

  layer_declares : (y : Statement-F Kept) (key : Key) → is_among key (given_step tasks flows (map-Statement Statement Names (names_in tasks flows) (plain y))).keys ≡ true
      → has_name key.first (names_step (map-Statement Statement (List (List ℕ)) declared (plain y))) ≡ true
  layer_declares (layer.Decl d) key h = by_test (same_key (plain_key d.name) key) refl h
    where
      by_test : (b : Bool) → same_key (plain_key d.name) key ≡ b → (b || false) ≡ true → has_name key.first (d.name ∷ []) ≡ true
      by_test true e h = or_left (bytes_eq d.name key.first) false (key_first d.name None key e)
      by_test false e h = absurd (false≢true h)
  layer_declares (layer.Call c) key h = outputs_first c.name (outputs_of tasks flows c.target) key h
  layer_declares (layer.Scatter s) key h = list_declares s.body key h
  layer_declares (layer.If i) key h = list_declares i.body key h

  pub keys_declared : (st : Statement) → Declares st
  keys_declared = ind-Statement Declares (λ x y is. subst (λ (z : Statement-F Statement). Declares (roll-Statement z)) is (λ key h.
      ap (λ (ns : List (List ℕ)). has_name key.first ns) (fold-roll-Statement (List (List ℕ)) names_step (plain y))
      ∙ layer_declares y key (sym (ap (λ (n : Names). is_among key n.keys) (fold-roll-Statement Names (given_step tasks flows) (plain y))) ∙ h)))

  pub all_keys_declared : (ss : List Statement) (key : Key) → is_among key (all_names tasks flows ss).keys ≡ true → has_name key.first (all_declared ss) ≡ true
  all_keys_declared [] key h = absurd (false≢true h)
  all_keys_declared (st ∷ ss) key h = by_side (among_split key (names_in tasks flows st).keys (all_names tasks flows ss).keys h) (all_keys_declared ss key)
    where
      by_side : (b : Bool) × (is_among key (cond b (names_in tasks flows st).keys (all_names tasks flows ss).keys) ≡ true)
          → (is_among key (all_names tasks flows ss).keys ≡ true → has_name key.first (all_declared ss) ≡ true) → has_name key.first (declared st ++ all_declared ss) ≡ true
      by_side (true, g) rest = name_left key.first (declared st) (all_declared ss) (keys_declared st key g)
      by_side (false, g) rest = name_right key.first (declared st) (all_declared ss) (rest g)
