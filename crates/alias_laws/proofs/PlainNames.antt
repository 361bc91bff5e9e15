-- A name without an output behind it that statements give out is one that they declare by a declaration.
use Rattle.std.proofs.Common.{◌≡◌, ℕ, Bool, true, false, cond, ◌&&◌, ◌||◌, List, [], ◌∷◌, ◌++◌, map, Option, Some, None, sym, ap, ◌∙◌, subst, refl}
use Rattle.std.specs.Prelude.{is_none}
use Rattle.std.specs.Str.{bytes_eq}
use Rattle.std.proofs.lemmas.Bool.{false≢true, or_left}
use Rattle.std.proofs.lemmas.Slice.Eq.{bytes_eq-Decides}
use Rattle.wdl_base.specs.declared.name.Key.{Key}
use Rattle.wdl_value.specs.declared.ty.Ty.{Ty}
use Rattle.wdl_typed.specs.declared.flow.FlowDef.{FlowDef}
use Rattle.wdl_typed.specs.declared.flow.Statement.{Statement, Statement-F, fold-Statement, fold-roll-Statement, ind-Statement, map-Statement, roll-Statement}
use Rattle.wdl_typed.specs.declared.flow.Statement.TheOpen as layer
use Rattle.wdl_typed.specs.declared.task.TDecl.{TDecl}
use Rattle.wdl_typed.specs.declared.task.TaskDef.{TaskDef}
use Rattle.wdl_typed.specs.Bodies.{Library, Seen, gives}
use Rattle.wdl_typed.specs.Declarations.{plain_key}
use Rattle.wdl_typed.specs.Flow.{Names, output_keys}
use Rattle.wdl_typed.specs.Lists.{has_name}
use Rattle.wdl_typed.specs.Scope.{is_among, same_key, same_second, type_in}
use Rattle.wdl_flow.specs.Given.{all_names, names_in, names_step, outputs_of}
use Rattle.cwl_image.specs.Subset.{declared_by, declared_step}
use Rattle.flow_laws.proofs.Keys.{key_same}
use Rattle.flow_soundness.proofs.GivenKeys.{gives_keys}
use Rattle.flow_soundness.proofs.NewNames.{among_split, name_left, name_right, type_among}

-- what a statement, and the bodies in it, declare
abbrev pub declared_in : Statement → List (List ℕ)
declared_in = fold-Statement (List (List ℕ)) declared_step

pub none_is : {A : Type 0} (o : Option A) → is_none o ≡ true → o ≡ None
none_is None h = refl
none_is (Some a) h = absurd (false≢true h)

no_output : (call : List ℕ) (ds : List TDecl) (key : Key) → key.second ≡ None → is_among key (output_keys call ds) ≡ true → ⊥
no_output call [] key e h = false≢true h
no_output call (d ∷ ds) key e h = by_rest (no_output call ds key e) (bytes_eq call key.first) (same_second (Some d.name) key.second) (ap (same_second (Some d.name)) e) h
  where
    by_rest : (is_among key (output_keys call ds) ≡ true → ⊥) → (a b : Bool) → b ≡ false → (a && b || is_among key (output_keys call ds)) ≡ true → ⊥
    by_rest rest a true e h = false≢true (sym e)
    by_rest rest true false e h = rest h
    by_rest rest false false e h = rest h

module _ (tasks : List TaskDef) (flows : List FlowDef) where
  abbrev Declares : Statement → Type 0
  Declares st = (key : Key) → is_none key.second ≡ true → is_among key (names_in tasks flows st).keys ≡ true → has_name key.first (declared_in st) ≡ true

  abbrev Kept : Type 0
  Kept = (st : Statement) × Declares st

  abbrev plain : Statement-F Kept → Statement-F Statement
  plain = map-Statement Kept Statement (λ (k : Kept). k.0)

  abbrev firsts : List Kept → List Statement
  firsts = map (λ (k : Kept). k.0)

  list_declares : (ks : List Kept) (key : Key) → is_none key.second ≡ true → is_among key (all_names tasks flows (firsts ks)).keys ≡ true → has_name key.first (declared_by (firsts ks)) ≡ true
  list_declares [] key e h = absurd (false≢true h)
  list_declares (k ∷ ks) key e h = by_side (among_split key (names_in tasks flows k.0).keys (all_names tasks flows (firsts ks)).keys h) (list_declares ks key e)
    where
      by_side : (b : Bool) × (is_among key (cond b (names_in tasks flows k.0).keys (all_names tasks flows (firsts ks)).keys) ≡ true)
          → (is_among key (all_names tasks flows (firsts ks)).keys ≡ true → has_name key.first (declared_by (firsts ks)) ≡ true)
          → has_name key.first (declared_in k.0 ++ declared_by (firsts ks)) ≡ true
      by_side (true, g) rest = name_left key.first (declared_in k.0) (declared_by (firsts ks)) (k.1 key e g)
      by_side (false, g) rest = name_right key.first (declared_in k.0) (declared_by (firsts ks)) (rest g)

  layer_declares : (y : Statement-F Kept) (key : Key) → is_none key.second ≡ true → is_among key (names_step tasks flows (map-Statement Statement Names (names_in tasks flows) (plain y))).keys ≡ true
      → has_name key.first (declared_step (map-Statement Statement (List (List ℕ)) declared_in (plain y))) ≡ true
  layer_declares (layer.Decl d) key e h = by_test (same_key (plain_key d.name) key) refl h
    where
      by_test : (b : Bool) → same_key (plain_key d.name) key ≡ b → (b || false) ≡ true → has_name key.first (d.name ∷ []) ≡ true
      by_test true i h = or_left (bytes_eq d.name key.first) false ((bytes_eq-Decides d.name key.first).1 (ap (λ (k : Key). k.first) (key_same (plain_key d.name) key i)))
      by_test false i h = absurd (false≢true h)
  layer_declares (layer.Call c) key e h = absurd (no_output c.name (outputs_of tasks flows c.target) key (none_is key.second e) h)
  layer_declares (layer.Scatter s) key e h = list_declares s.body key e h
  layer_declares (layer.If i) key e h = list_declares i.body key e h

  plain_among : (st : Statement) → Declares st
  plain_among = ind-Statement Declares (λ x y is. subst (λ (z : Statement-F Statement). Declares (roll-Statement z)) is (λ key e h.
      ap (λ (ns : List (List ℕ)). has_name key.first ns) (fold-roll-Statement (List (List ℕ)) declared_step (plain y))
      ∙ layer_declares y key e (sym (ap (λ (n : Names). is_among key n.keys) (fold-roll-Statement Names (names_step tasks flows) (plain y))) ∙ h)))

-- A plain name of what a statement gives out is one of its declarations.
pub plain_declared : (lib : Library) (st : Statement) (seen given : Seen) → gives lib st seen ≡ Some given → (key : Key) (t : Ty) → is_none key.second ≡ true → type_in given.names key ≡ Some t
    → has_name key.first (declared_in st) ≡ true
plain_declared lib st seen given g key t e h = plain_among lib.tasks lib.flows st key e (ap (is_among key) (sym (gives_keys lib st seen given g)) ∙ type_among given.names key t h)
