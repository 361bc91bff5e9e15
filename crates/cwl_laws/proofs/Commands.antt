-- The command of a task and that of its tool.
use Rattle.std.proofs.Common.{◌≡◌, ℕ, ◌==◌, nat_le, Bool, true, false, cond, not, ◌&&◌, ◌||◌, List, [], ◌∷◌, ◌++◌, append_assoc, append-nil, length, map, Option, Some, None, option_and_then, Ok, Err, Contains, sym, ap, ◌∙◌, subst, refl}
use Rattle.std.specs.List.{list_all, list_any}
use Rattle.std.specs.Str.{bytes_eq}
use Rattle.std.proofs.lemmas.Bool.{false≢true, and_parts}
use Rattle.std.proofs.lemmas.Slice.Eq.{bytes_eq-Decides}
use Rattle.std.proofs.lemmas.Option.{none-some, same_Some}
use Rattle.std.proofs.Math.Bool.{and_assoc}
use Rattle.wdl_base.specs.declared.fault.EvalCode.TheVariants.{TooLarge}
use Rattle.wdl_base.specs.declared.name.Key.{Key}
use Rattle.wdl_value.specs.declared.env.Bind.{Bind}
use Rattle.wdl_value.specs.declared.ty.Ty.{Ty, Ty-F, fold-roll-Ty, map-Ty, out-Ty, roll-Ty, roll-out-Ty}
use Rattle.wdl_value.specs.declared.ty.Ty.TheOpen as type
use Rattle.wdl_value.specs.declared.ty.Ty.TheVariants as ty
use Rattle.wdl_value.specs.declared.value.Value.{Value, Value-F, out-Value}
use Rattle.wdl_value.specs.declared.value.Value.TheOpen as value
use Rattle.wdl_value.specs.declared.value.Value.TheVariants as v
use Rattle.wdl_value.specs.Fits.{Structs, fits}
use Rattle.wdl_value.specs.Kinds.{bool_at, file_at, int_at, is_scalar, str_at}
use Rattle.wdl_value.specs.Limits.{limited}
use Rattle.wdl_value.specs.Outcome.{and_then}
use Rattle.wdl_value.specs.ValueText.{text_at}
use Rattle.wdl_value.proofs.FitsForms.{a_bool, a_file, a_str, an_int}
use Rattle.wdl_typed.specs.declared.expr.Choice.{Choice}
use Rattle.wdl_typed.specs.declared.expr.Choice.TheVariants as choice
use Rattle.wdl_typed.specs.declared.expr.TExpr.{TExpr, fold-roll-TExpr}
use Rattle.wdl_typed.specs.declared.expr.TExpr.TheOpen as layer
use Rattle.wdl_typed.specs.declared.expr.TExpr.TheVariants as e
use Rattle.wdl_typed.specs.declared.expr.THole.{THole}
use Rattle.wdl_typed.specs.declared.expr.TPart.{TPart}
use Rattle.wdl_typed.specs.declared.expr.TPart.TheVariants as part
use Rattle.wdl_typed.specs.declared.scope.Bound.{Bound}
use Rattle.wdl_typed.specs.declared.task.TInput.{TInput}
use Rattle.wdl_typed.specs.Declarations.{command_typed, context, hole_type, inputs_bound, output_context, plain_key, type_in_place}
use Rattle.wdl_typed.specs.Evaluation.{Met, hole_text, settled, value_met, value_step}
use Rattle.wdl_typed.specs.Requests.{Filled, Placing as Placed, as_laying, before, cast_last, command_met, command_within, filled, placed, placed_value, placing, placing_step, settled_text}
use Rattle.wdl_typed.specs.Scope.{lookup, same_key, type_in}
use Rattle.wdl_typed.specs.Typing.{takes_some}
use Rattle.cwl_model.specs.declared.tool.CwlIn.{CwlIn}
use Rattle.cwl_model.specs.declared.tool.Piece.{Piece}
use Rattle.cwl_model.specs.declared.tool.Piece.TheVariants as piece
use Rattle.cwl_model.specs.declared.ty.CwlTy.{CwlTy, CwlTy-F, out-CwlTy}
use Rattle.cwl_model.specs.declared.ty.CwlTy.TheOpen as cwl_layer
use Rattle.cwl_model.specs.declared.ty.CwlTy.TheVariants as cwl
use Rattle.cwl_model.specs.Means as means
use Rattle.cwl_model.specs.Means.{Named, all_taken, command_of, is_blank_piece, is_reference, piece_text, pieces_text, plain_text, references, value_at}
use Rattle.cwl_model.proofs.Rounds.{first_is, later_is}
use Rattle.cwl_image.specs.Expressions.{are_allowed, is_simple, simple_step}
use Rattle.cwl_image.specs.Image.{argument, chars_before, cwl_in, hole_by, hole_piece, is_file, reference, type_at, type_of, type_step}
use Rattle.cwl_image.specs.Subset.{are_input_holes, command_marks, is_blank, is_command, is_dark, is_input_hole, is_plain_choice, is_scalar_name, is_verbatim, some_scalar}
use Rattle.cwl_laws.specs.Tools.{CommandsAgree, IsBound, input_value}
use Rattle.cwl_laws.proofs.References.{Cast, allowed_is, allowed_same, place_is, refers_under, settled_met, type_same, under, under_casts}
use Rattle.wdl_flow.proofs.MarkLemmas.{same_key-true as key_same}

-- ---- blanks

or_turned : (a b c : Bool) → (a || b || c) ≡ (a || c || b)
or_turned true b c = refl
or_turned false true true = refl
or_turned false true false = refl
or_turned false false true = refl
or_turned false false false = refl

blank_same : (c : ℕ) → means.is_blank c ≡ is_blank c
blank_same c = or_turned (c == 32 || c == 9) (c == 13) (c == 10)

all_append : (f : ℕ → Bool) (s t : List ℕ) → list_all f (s ++ t) ≡ (list_all f s && list_all f t)
all_append f [] t = refl
all_append f (c ∷ s) t = ap (λ b. f c && b) (all_append f s t) ∙ sym (and_assoc (f c) (list_all f s) (list_all f t))

blank_before : (s : List ℕ) (ps : List Piece) → list_all is_blank_piece (chars_before s ps) ≡ (list_all means.is_blank s && list_all is_blank_piece ps)
blank_before [] ps = refl
blank_before (c ∷ s) [] = refl
blank_before (c ∷ s) (piece.Chars t ∷ ps) =
    ap (λ b. b && list_all is_blank_piece ps) (all_append means.is_blank (c ∷ s) t) ∙ and_assoc (list_all means.is_blank (c ∷ s)) (list_all means.is_blank t) (list_all is_blank_piece ps)
blank_before (c ∷ s) (piece.Input n ∷ ps) = refl
blank_before (c ∷ s) (piece.InputPath n ∷ ps) = refl

dark_chars : (s : List ℕ) (ms : List (Option ℕ)) → not (list_any is_dark (map (λ (c : ℕ). Some c) s ++ ms)) ≡ (list_all means.is_blank s && not (list_any is_dark ms))
dark_chars [] ms = refl
dark_chars (c ∷ s) ms =
    turned (is_blank c) (list_any is_dark (map (λ (c : ℕ). Some c) s ++ ms))
    ∙ ap (λ b. b && not (list_any is_dark (map (λ (c : ℕ). Some c) s ++ ms))) (sym (blank_same c))
    ∙ ap (λ b. means.is_blank c && b) (dark_chars s ms)
    ∙ sym (and_assoc (means.is_blank c) (list_all means.is_blank s) (not (list_any is_dark ms)))
  where
    turned : (a b : Bool) → not (not a || b) ≡ (a && not b)
    turned true b = refl
    turned false b = refl

hole_blank : (ins : List CwlIn) (o : Option Key) (ps : List Piece) → list_all is_blank_piece (hole_piece ins o ++ ps) ≡ list_all is_blank_piece ps
hole_blank ins None ps = refl
hole_blank ins (Some k) ps = by_type (type_at ins k.first)
  where
    by_file : (t : CwlTy) (b : Bool) → (is_blank_piece (cond b (piece.InputPath k.first) (piece.Input k.first)) && list_all is_blank_piece ps) ≡ list_all is_blank_piece ps
    by_file t true = refl
    by_file t false = refl

    by_type : (o : Option CwlTy) → (is_blank_piece (hole_by k.first o) && list_all is_blank_piece ps) ≡ list_all is_blank_piece ps
    by_type None = refl
    by_type (Some t) = by_file t (is_file (out-CwlTy t))

blanks_are : (ins : List CwlIn) (parts : List (TPart TExpr)) → list_all is_blank_piece (argument ins parts) ≡ not (list_any is_dark (command_marks parts))
blanks_are ins [] = refl
blanks_are ins (part.Chars s ∷ parts) =
    blank_before s (argument ins parts) ∙ ap (λ b. list_all means.is_blank s && b) (blanks_are ins parts) ∙ sym (dark_chars s (command_marks parts))
blanks_are ins (part.Hole h ∷ parts) = hole_blank ins (reference h.expr) (argument ins parts) ∙ blanks_are ins parts

-- The argument is no reference alone.
no_reference : (ins : List CwlIn) (parts : List (TPart TExpr)) → is_command parts ≡ true → is_reference (argument ins parts) ≡ false
no_reference ins parts h =
    let p = and_parts (list_any is_dark (command_marks parts)) (is_verbatim (command_marks parts)) h in
    ap (λ b. (references (argument ins parts) == 1) && b) (blanks_are ins parts ∙ ap not p.0) ∙ and_false (references (argument ins parts) == 1)
  where
    and_false : (b : Bool) → (b && false) ≡ false
    and_false true = refl
    and_false false = refl

-- ---- characters

text_before : (env : List Named) (s : List ℕ) (ps : List Piece) (t : List ℕ) → pieces_text env ps ≡ Some t → pieces_text env (chars_before s ps) ≡ Some (s ++ t)
text_before env [] ps t h = h
text_before env (c ∷ s) [] t h = ap (option_and_then (λ u. Some ((c ∷ s) ++ u))) h
text_before env (c ∷ s) (piece.Chars u ∷ ps) t h = by_rest (pieces_text env ps) h
  where
    by_rest : (o : Option (List ℕ)) → option_and_then (λ w. Some (u ++ w)) o ≡ Some t → option_and_then (λ w. Some (((c ∷ s) ++ u) ++ w)) o ≡ Some ((c ∷ s) ++ t)
    by_rest None h = absurd (none-some _ h)
    by_rest (Some w) h = ap Some (append_assoc (c ∷ s) u w ∙ ap (λ z. (c ∷ s) ++ z) (same_Some _ _ h))
text_before env (c ∷ s) (piece.Input n ∷ ps) t h = ap (option_and_then (λ u. Some ((c ∷ s) ++ u))) h
text_before env (c ∷ s) (piece.InputPath n ∷ ps) t h = ap (option_and_then (λ u. Some ((c ∷ s) ++ u))) h

-- ---- types of placeholders

at_roll : (t : Ty) (z : Ty-F Ty) → out-Ty t ≡ z → t ≡ roll-Ty z
at_roll t z e = sym (roll-out-Ty t) ∙ ap roll-Ty e

scalar_simple : (t : Ty) → is_scalar t ≡ true → is_simple t ≡ true
scalar_simple t h = by_layer (out-Ty t) refl h
  where
    by_layer : (z : Ty-F Ty) → out-Ty t ≡ z → (bool_at z || int_at z || (str_at z || file_at z)) ≡ true → is_simple t ≡ true
    by_layer type.Bool e h = ap is_simple (at_roll t type.Bool e) ∙ fold-roll-Ty Bool simple_step type.Bool
    by_layer type.Int e h = ap is_simple (at_roll t type.Int e) ∙ fold-roll-Ty Bool simple_step type.Int
    by_layer type.Str e h = ap is_simple (at_roll t type.Str e) ∙ fold-roll-Ty Bool simple_step type.Str
    by_layer type.File e h = ap is_simple (at_roll t type.File e) ∙ fold-roll-Ty Bool simple_step type.File
    by_layer z e h = absurd (false≢true h)

-- the text of a value that fits, in a command and as a piece
abbrev Written : Ty → Value → List ℕ → List Named → Type 0
Written t x name env =
    (s : List ℕ) × (hole_text choice.Plain (out-Value x) ≡ Ok s) × (piece_text env (hole_by name (Some (type_of t))) ≡ Some s)

written : (structs : Structs) (t : Ty) (x : Value) (name : List ℕ) (env : List Named) → is_scalar t ≡ true → fits structs x t ≡ true → value_at env name ≡ Some x → Written t x name env
written structs t x name env h f at = by_layer (out-Ty t) refl h
  where
    piece_is : (u : CwlTy) (z : CwlTy-F CwlTy) → type_of t ≡ u → out-CwlTy u ≡ z → hole_by name (Some (type_of t)) ≡ cond (is_file z) (piece.InputPath name) (piece.Input name)
    piece_is u z e o = ap (λ w. hole_by name (Some w)) e ∙ ap (λ w. cond (is_file w) (piece.InputPath name) (piece.Input name)) o

    of_type : (z : Ty-F Ty) → out-Ty t ≡ z → type_of t ≡ type_step (map-Ty Ty CwlTy type_of z)
    of_type z e = ap type_of (at_roll t z e) ∙ fold-roll-Ty CwlTy type_step z

    plain_is : (l : Value-F Value) → out-Value x ≡ l → piece_text env (piece.Input name) ≡ plain_text l
    plain_is l e = ap (option_and_then (λ y. plain_text (out-Value y))) at ∙ ap plain_text e

    by_layer : (z : Ty-F Ty) → out-Ty t ≡ z → (bool_at z || int_at z || (str_at z || file_at z)) ≡ true → Written t x name env
    by_layer type.Bool e h =
        let p = a_bool structs x (subst (λ w. fits structs x w ≡ true) (at_roll t type.Bool e ∙ ty.rolls-Bool) f) in
        let o = ap out-Value p.1 ∙ v.outs-Bool p.0 in
        (text_at {A = Value} (value.Bool p.0), ap (hole_text choice.Plain) o, ap (piece_text env) (piece_is cwl.Bool cwl_layer.Bool (of_type type.Bool e) cwl.outs-Bool) ∙ plain_is (value.Bool p.0) o)
    by_layer type.Int e h =
        let p = an_int structs x (subst (λ w. fits structs x w ≡ true) (at_roll t type.Int e ∙ ty.rolls-Int) f) in
        let o = ap out-Value p.1 ∙ v.outs-Int p.0 in
        (text_at {A = Value} (value.Int p.0), ap (hole_text choice.Plain) o, ap (piece_text env) (piece_is cwl.Long cwl_layer.Long (of_type type.Int e) cwl.outs-Long) ∙ plain_is (value.Int p.0) o)
    by_layer type.Str e h =
        let p = a_str structs x (subst (λ w. fits structs x w ≡ true) (at_roll t type.Str e ∙ ty.rolls-Str) f) in
        let o = ap out-Value p.1 ∙ v.outs-Str p.0 in
        (p.0, ap (hole_text choice.Plain) o, ap (piece_text env) (piece_is cwl.Str cwl_layer.Str (of_type type.Str e) cwl.outs-Str) ∙ plain_is (value.Str p.0) o)
    by_layer type.File e h =
        let p = a_file structs x (subst (λ w. fits structs x w ≡ true) (at_roll t type.File e ∙ ty.rolls-File) f) in
        let o = ap out-Value p.1 ∙ v.outs-File p.0 in (
          p.0,
          ap (hole_text choice.Plain) o,
          ap (piece_text env) (piece_is cwl.File cwl_layer.File (of_type type.File e) cwl.outs-File)
              ∙ ap (option_and_then (λ y. means.path_text (out-Value y))) at ∙ ap means.path_text o,
        )
    by_layer z e h = absurd (false≢true h)

-- ---- placeholders

writes_none : (env : List Bind) (key : Key) (ts : List Ty) → (placing env (under key ts)).write ≡ None
writes_none env key [] = ap (λ x. (placing env x).write) (sym (e.rolls-Get key)) ∙ ap (λ (q : Placed). q.write) (fold-roll-TExpr Placed (placing_step (before env)) (layer.Get key))
writes_none env key (t ∷ ts) =
    ap (λ x. (placing env x).write) (sym (e.rolls-Cast (under key ts) t))
    ∙ ap (λ (q : Placed). q.write) (fold-roll-TExpr Placed (placing_step (before env)) (layer.Cast (under key ts) t))
    ∙ ap (cast_last t) (writes_none env key ts)

plain_is_met : (env : List Bind) (key : Key) (ts : List Ty) → (placing env (under key ts)).plain ≡ value_met (before env) (under key ts)
plain_is_met env key [] =
    ap (λ x. (placing env x).plain) (sym (e.rolls-Get key)) ∙ ap (λ (q : Placed). q.plain) (fold-roll-TExpr Placed (placing_step (before env)) (layer.Get key))
    ∙ sym (fold-roll-TExpr (Met Value) (value_step (before env)) (layer.Get key)) ∙ ap (value_met (before env)) (e.rolls-Get key)
plain_is_met env key (t ∷ ts) =
    ap (λ x. (placing env x).plain) (sym (e.rolls-Cast (under key ts) t))
    ∙ ap (λ (q : Placed). q.plain) (fold-roll-TExpr Placed (placing_step (before env)) (layer.Cast (under key ts) t))
    ∙ ap (λ r. value_step (before env) (layer.Cast r t)) (plain_is_met env key ts)
    ∙ sym (fold-roll-TExpr (Met Value) (value_step (before env)) (layer.Cast (under key ts) t))
    ∙ ap (value_met (before env)) (e.rolls-Cast (under key ts) t)

-- the input of a key, with its type and its value
abbrev IsInputAt : List Named → List TInput → List TInput → Key → Ty → Type 0
IsInputAt object all is k u =
    (i : TInput) × (Contains all i) × (plain_key i.name ≡ k) × (i.ty ≡ u) × (type_at (map cwl_in is) k.first ≡ Some (type_of u)) × (value_at (all_taken object (map cwl_in is)) k.first ≡ Some (input_value object i))

input_at : (object : List Named) (all is : List TInput) → ((i : TInput) → Contains is i → Contains all i) → (k : Key) (u : Ty) → type_in (inputs_bound is) k ≡ Some u → IsInputAt object all is k u
input_at object all [] within k u h = absurd (none-some _ h)
input_at object all (i ∷ is) within k u h = by_test (λ q. input_at object all is (λ j c. within j (later_is i is j c)) k u q) (same_key (plain_key i.name) k) refl h
  where
    by_test : (type_in (inputs_bound is) k ≡ Some u → IsInputAt object all is k u) → (b : Bool) → same_key (plain_key i.name) k ≡ b → cond b (Some i.ty) (type_in (inputs_bound is) k) ≡ Some u → IsInputAt object all (i ∷ is) k u
    by_test rest true s q =
        let same = key_same (plain_key i.name) k s in
        let found = ap (λ (j : Key). bytes_eq i.name j.first) (sym same) ∙ (bytes_eq-Decides i.name i.name).1 refl in (
          i,
          within i (first_is i is),
          same,
          same_Some _ _ q,
          ap (λ b. cond b (Some (type_of i.ty)) (type_at (map cwl_in is) k.first)) found ∙ ap (λ t. Some (type_of t)) (same_Some _ _ q),
          ap (λ b. cond b (Some (input_value object i)) (value_at (all_taken object (map cwl_in is)) k.first)) found,
        )
    by_test rest false s q =
        let r = rest q in
        let apart = not_first r.0 r.2 (bytes_eq i.name k.first) refl in (
          r.0,
          r.1,
          r.2,
          r.3,
          ap (λ b. cond b (Some (type_of i.ty)) (type_at (map cwl_in is) k.first)) apart ∙ r.4,
          ap (λ b. cond b (Some (input_value object i)) (value_at (all_taken object (map cwl_in is)) k.first)) apart ∙ r.5,
        )
      where
        not_first : (j : TInput) → plain_key j.name ≡ k → (b : Bool) → bytes_eq i.name k.first ≡ b → b ≡ false
        not_first j e false f = refl
        not_first j e true f =
            absurd (false≢true (sym s ∙ ap (same_key (plain_key i.name)) (sym e) ∙ and_true (bytes_eq i.name j.name) ∙ ap (λ (m : Key). bytes_eq i.name m.first) e ∙ f))
          where
            and_true : (b : Bool) → (b && true) ≡ b
            and_true true = refl
            and_true false = refl

module _ (structs : Structs) (names more : List Bound) (inputs : List TInput) (object : List Named) (env : List Bind)
    (seen : (key : Key) (u : Ty) → type_in (inputs_bound inputs) key ≡ Some u → (type_in names key ≡ Some u) × (type_in more key ≡ Some u))
    (are : (i : TInput) → Contains inputs i → IsBound structs object env i) where
  abbrev Taken : List Named
  Taken = all_taken object (map cwl_in inputs)

  -- what a placeholder gives
  abbrev Gives : THole TExpr → Type 0
  Gives h =
      (s : List ℕ) × (x : Value) × (placed_value env [] h.expr ≡ Ok (record { value = x; files = [] })) × (settled_text (hole_text h.choice (out-Value x)) ≡ Ok s)
      × ((ps : List Piece) → pieces_text Taken (hole_piece (map cwl_in inputs) (reference h.expr) ++ ps) ≡ option_and_then (λ t. Some (s ++ t)) (pieces_text Taken ps))

  plain_hole : (c : Choice) → is_plain_choice c ≡ true → c ≡ choice.Plain
  plain_hole choice.Plain h = refl
  plain_hole c h = absurd (false≢true h)

  hole_gives : (h : THole TExpr) → is_input_hole structs more (inputs_bound inputs) h ≡ true → takes_some h.choice (hole_type structs names h.choice h.expr) ≡ true → Gives h
  hole_gives h is typed =
      let p = and_parts (is_plain_choice h.choice && is_scalar_name (inputs_bound inputs) (reference h.expr)) (are_allowed structs more h.expr true) is in
      let q = and_parts (is_plain_choice h.choice) (is_scalar_name (inputs_bound inputs) (reference h.expr)) p.0 in
      by_key (plain_hole h.choice q.0) (reference h.expr) refl q.1 p.1
    where
      by_form : h.choice ≡ choice.Plain → (key : Key) → reference h.expr ≡ Some key → (u : Ty) → type_in (inputs_bound inputs) key ≡ Some u → is_scalar u ≡ true → are_allowed structs more h.expr true ≡ true
          → (ts : List Ty) → h.expr ≡ under key ts → Gives h
      by_form plain key refers u t scalar allowed ts form =
          by_type (type_in_place (context structs names) h.expr true) refl (sym (ap (λ c. takes_some c (hole_type structs names c h.expr)) plain) ∙ typed)
        where
          at : IsInputAt object inputs inputs key u
          at = input_at object inputs inputs (λ i c. c) key u t

          x : Value
          x = input_value object at.0

          is_bound : IsBound structs object env at.0
          is_bound = are at.0 at.1

          bound : lookup env key ≡ Some x
          bound = ap (lookup env) (sym at.2) ∙ is_bound.bound

          ok : fits structs x u ≡ true
          ok = ap (fits structs x) (sym at.3) ∙ is_bound.fit

          text : Written u x key.first Taken
          text = written structs u x key.first Taken scalar ok at.5

          by_type : (o : Option Ty) → type_in_place (context structs names) h.expr true ≡ o → takes_some choice.Plain o ≡ true → Gives h
          by_type None e k = absurd (false≢true k)
          by_type (Some w) e k = (text.0, x, value, ap (λ c. settled_text (hole_text c (out-Value x))) plain ∙ ap settled_text text.1, pieces)
            where
              chain : Cast structs (inputs_bound inputs) key x (u, t, ok) (scalar_simple u scalar) ts w
              chain =
                  under_casts structs (inputs_bound inputs) key x (u, t, ok) (scalar_simple u scalar) ts w
                  (type_same key ts (inputs_bound inputs) names (t ∙ sym (seen key u t).0) ∙ sym (place_is (context structs names) true key ts) ∙ ap (λ z. type_in_place (context structs names) z true) (sym form) ∙ e)
                  (allowed_same key ts (inputs_bound inputs) more (t ∙ sym (seen key u t).1) ∙ sym (allowed_is (output_context structs more) true key ts) ∙ ap (λ z. are_allowed structs more z true) (sym form) ∙ allowed)

              value : placed_value env [] h.expr ≡ Ok (record { value = x; files = [] })
              value =
                  ap (placed_value env []) form
                  ∙ ap (placed [] (placing env (under key ts)).plain) (writes_none env key ts)
                  ∙ ap (λ m. as_laying [] (settled m)) (plain_is_met env key ts ∙ chain.met (before env) bound)
                  ∙ ap (as_laying []) (settled_met (limited x))
                  ∙ ap (λ b. as_laying [] (cond b (Ok x) (Err TooLarge))) is_bound.within

              pieces : (ps : List Piece) → pieces_text Taken (hole_piece (map cwl_in inputs) (reference h.expr) ++ ps) ≡ option_and_then (λ t. Some (text.0 ++ t)) (pieces_text Taken ps)
              pieces ps =
                  ap (λ o. pieces_text Taken (hole_piece (map cwl_in inputs) o ++ ps)) refers
                  ∙ ap (λ o. pieces_text Taken (hole_by key.first o ∷ ps)) at.4
                  ∙ ap (option_and_then (λ s. option_and_then (λ t. Some (s ++ t)) (pieces_text Taken ps))) text.2

      by_key : h.choice ≡ choice.Plain → (o : Option Key) → reference h.expr ≡ o → is_scalar_name (inputs_bound inputs) o ≡ true → are_allowed structs more h.expr true ≡ true → Gives h
      by_key plain None e s allowed = absurd (false≢true s)
      by_key plain (Some key) e s allowed = by_scalar (type_in (inputs_bound inputs) key) refl s
        where
          by_scalar : (o : Option Ty) → type_in (inputs_bound inputs) key ≡ o → some_scalar o ≡ true → Gives h
          by_scalar None t s = absurd (false≢true s)
          by_scalar (Some u) t s = let r = refers_under h.expr key e in by_form plain key e u t s allowed r.0 r.1

  abbrev start : List ℕ → Filled
  start a = record { text = a; files = [] }

  abbrev Fills : List (TPart TExpr) → Type 0
  Fills parts = (whole : List ℕ) × ((a : List ℕ) → filled env parts (start a) ≡ Ok (start (a ++ whole))) × (pieces_text Taken (argument (map cwl_in inputs) parts) ≡ Some whole)

  parts_fill : (parts : List (TPart TExpr)) → are_input_holes structs more (inputs_bound inputs) parts ≡ true → command_typed structs names parts ≡ true → Fills parts
  parts_fill [] h t = ([], (λ a. ap (λ s. Ok (start s)) (sym (append-nil a))), refl)
  parts_fill (part.Chars s ∷ parts) h t =
      let r = parts_fill parts h t in
      (s ++ r.0, (λ a. r.1 (a ++ s) ∙ ap (λ w. Ok (start w)) (append_assoc a s r.0)), text_before Taken s (argument (map cwl_in inputs) parts) r.0 r.2)
  parts_fill (part.Hole h ∷ parts) is t =
      let p = and_parts (is_input_hole structs more (inputs_bound inputs) h) (are_input_holes structs more (inputs_bound inputs) parts) is in
      let q = and_parts (takes_some h.choice (hole_type structs names h.choice h.expr)) (command_typed structs names parts) t in
      let g = hole_gives h p.0 q.0 in
      let r = parts_fill parts p.1 q.1 in (
        g.0 ++ r.0,
        (λ a.
            ap (λ o. and_then o (λ l. and_then (settled_text (hole_text h.choice (out-Value l.value))) (λ s. filled env parts (record { text = a ++ s; files = l.files })))) g.2
            ∙ ap (λ o. and_then o (λ s. filled env parts (record { text = a ++ s; files = [] }))) g.3
            ∙ r.1 (a ++ g.0) ∙ ap (λ w. Ok (start w)) (append_assoc a g.0 r.0)),
        g.4 (argument (map cwl_in inputs) parts) ∙ ap (option_and_then (λ t. Some (g.0 ++ t))) r.2,
      )

  -- The command is the same text in both, or past its limit in both.
  pub commands_agree : (parts : List (TPart TExpr)) → are_input_holes structs more (inputs_bound inputs) parts ≡ true → command_typed structs names parts ≡ true → is_command parts ≡ true
      → CommandsAgree (command_met env parts []) (command_of (argument (map cwl_in inputs) parts) Taken)
  commands_agree parts holes typed command =
      let r = parts_fill parts holes typed in
      subst (λ o. CommandsAgree (and_then o command_within) (command_of (argument (map cwl_in inputs) parts) Taken)) (sym (r.1 []))
      (subst (λ b. CommandsAgree (command_within (start r.0)) (cond b None (means.within (pieces_text Taken (argument (map cwl_in inputs) parts))))) (sym (no_reference (map cwl_in inputs) parts command))
      (subst (λ o. CommandsAgree (command_within (start r.0)) (means.within o)) (sym r.2) (by_limit r.0 (nat_le (length r.0) 65536))))
    where
      by_limit : (s : List ℕ) (b : Bool) → CommandsAgree (cond b (Ok (start s)) (Err TooLarge)) (cond b (Some s) None)
      by_limit s true = refl
      by_limit s false = tt
