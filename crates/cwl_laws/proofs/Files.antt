-- What the outputs of a task of the subset are: its standard output, or a file by its name.
use Rattle.std.proofs.Common.{◌≡◌, ℕ, ◌==◌, nat_le, Bool, true, false, cond, not, ◌&&◌, ◌||◌, List, [], ◌∷◌, ◌++◌, append_assoc, append-nil, Some, None, option_and_then, Ok, Err, codes, sym, ap, ◌∙◌, subst, refl}
use Rattle.std.specs.List.{list_any, onto_first}
use Rattle.std.specs.Option.{unwrap_or}
use Rattle.std.specs.Str.{bytes_eq}
use Rattle.std.proofs.lemmas.Bool.{false≢true, and_from, and_parts, or_parts}
use Rattle.std.proofs.lemmas.Slice.Eq.{bytes_eq-Decides}
use Rattle.wdl_base.specs.Answers.{is_cut}
use Rattle.wdl_base.specs.declared.answer.Answer.{Answer}
use Rattle.wdl_base.specs.declared.body.Seen.{Seen}
use Rattle.wdl_base.specs.declared.fault.EvalCode.TheVariants.{BodyLong, FileMissing, TooLarge}
use Rattle.wdl_base.specs.declared.place.Segment.{Segment}
use Rattle.wdl_base.specs.Places.{place_text}
use Rattle.wdl_value.specs.declared.env.Bind.{Bind}
use Rattle.wdl_value.specs.declared.operator.Func.TheVariants as func
use Rattle.wdl_value.specs.declared.ty.Ty.{out-Ty}
use Rattle.wdl_value.specs.declared.ty.Ty.TheVariants as ty
use Rattle.wdl_value.specs.declared.value.Value.{Value, fold-roll-Value, map-Value}
use Rattle.wdl_value.specs.declared.value.Value.TheVariants as v
use Rattle.wdl_value.specs.declared.value.Value.TheOpen as value
use Rattle.wdl_value.specs.Bare.{bare, is_optional}
use Rattle.wdl_value.specs.Cast.{Caster, cast, cast_at}
use Rattle.wdl_value.specs.CastOut.{cast_out}
use Rattle.wdl_value.specs.Files.{begins_at_root, but_last, is_here, is_up, left_body, local_name, name_of, relative_name, seen_body, stripped, with_parts}
use Rattle.wdl_value.specs.Paths.{parts_of}
use Rattle.wdl_value.specs.Fits.{Structs}
use Rattle.wdl_value.specs.Limits.{is_short, is_within, limited, short_step}
use Rattle.wdl_value.specs.Outcome.{Outcome, and_then}
use Rattle.wdl_value.specs.Size.{size, size_step}
use Rattle.wdl_typed.specs.declared.expr.TExpr.{fold-roll-TExpr}
use Rattle.wdl_typed.specs.declared.expr.TExpr.TheVariants as e
use Rattle.wdl_typed.specs.declared.expr.TExpr.TheOpen as layer
use Rattle.wdl_typed.specs.Evaluation.{Met, Setting, from_cast, met, settled, then_, value_met, value_of, value_step}
use Rattle.wdl_typed.specs.KnownTypes.{is_some}
use Rattle.wdl_typed.specs.Requests.{Lander, after, is_outside, job_dir, land_at, landed, landed_file, named_file, unlisted_file}
use Rattle.cwl_model.specs.declared.tool.Origin.TheVariants as origin
use Rattle.cwl_model.specs.Means.{Ground, file_at, has_file, job_path}
use Rattle.cwl_laws.specs.Tools.{SameValue}

-- ---- numbers

pub number_itself : (n : ℕ) → (n == n) ≡ true
number_itself n = (and_parts (n == n) true ((bytes_eq-Decides (n ∷ []) (n ∷ [])).1 refl)).0

pub number_same : (m n : ℕ) → (m == n) ≡ true → m ≡ n
number_same m n h = heads ((bytes_eq-Decides (m ∷ []) (n ∷ [])).0 (and_from (m == n) true h refl))
  where
    heads : m ∷ [] ≡ n ∷ [] → m ≡ n
    heads e = cc

-- ---- paths

stripped_front : (ps rest : List ℕ) → stripped ps (ps ++ rest) ≡ Some rest
stripped_front [] rest = refl
stripped_front (p ∷ ps) rest = ap (λ b. cond b (stripped ps (ps ++ rest)) None) (same p) ∙ stripped_front ps rest
  where
    same : (n : ℕ) → (n == n) ≡ true
    same n = number_itself n

pub job_path_is : (g : Ground) (place : List Segment) (name : List ℕ) → job_dir g.site place 0 ++ 47 ∷ name ≡ job_path g place name
job_path_is g place name =
    append_assoc g.site (47 ∷ (place_text place ++ [])) (47 ∷ name)
    ∙ ap (λ z. g.site ++ 47 ∷ (z ++ 47 ∷ name)) (append-nil (place_text place))

-- ---- landing

landed_is : (structs : Structs) (dir : List ℕ) (answer : Answer) (path : List ℕ) → landed structs dir answer (v.File path) ty.File ≡ landed_file dir answer path false
landed_is structs dir answer path =
    ap (λ x. landed structs dir answer x ty.File) (sym (v.rolls-File path))
    ∙ ap (λ (f : Lander). f ty.File) (fold-roll-Value Lander (λ x t. land_at structs dir answer x (is_optional (out-Ty t)) (out-Ty (bare t))) (value.File path))
    ∙ ap (landed_file dir answer path) (ap is_optional ty.outs-File)

at_limit : (x : Value) → is_within x ≡ true → limited x ≡ Ok x
at_limit x h = ap (λ b. cond b (Ok x) (Err TooLarge)) h

-- ---- the standard output

abbrev Stdout : List ℕ → Value
Stdout dir = v.File (dir ++ 47 ∷ codes "_stdout")

pub stdout_value : (env : List Bind) (dir : List ℕ) (answer : Answer) → is_within (Stdout dir) ≡ true → value_of (after env dir answer) (e.Apply func.Stdout []) ≡ Ok (Stdout dir)
stdout_value env dir answer h =
    ap (value_of (after env dir answer)) (sym (e.rolls-Apply func.Stdout []))
    ∙ ap settled (fold-roll-TExpr (Met Value) (value_step (after env dir answer)) (layer.Apply func.Stdout []))
    ∙ ap (λ (o : Outcome Value). settled (then_ (met o) (λ x. met (limited x)))) (at_limit (Stdout dir) h)
    ∙ ap (λ (o : Outcome Value). settled (met o)) (at_limit (Stdout dir) h)

stdout_landed : (structs : Structs) (dir : List ℕ) (answer : Answer) → landed structs dir answer (Stdout dir) ty.File ≡ Ok (Stdout dir)
stdout_landed structs dir answer =
    landed_is structs dir answer (dir ++ 47 ∷ codes "_stdout")
    ∙ ap (λ b. cond b (Ok (Stdout dir)) (named_file dir answer false (local_name dir (dir ++ 47 ∷ codes "_stdout")))) inside
    ∙ ap (named_file dir answer false) local
  where
    front : stripped (dir ++ 47 ∷ []) (dir ++ 47 ∷ codes "_stdout") ≡ Some (codes "_stdout")
    front = ap (stripped (dir ++ 47 ∷ [])) (sym (append_assoc dir (47 ∷ []) (codes "_stdout"))) ∙ stripped_front (dir ++ 47 ∷ []) (codes "_stdout")

    and_false : (b : Bool) → (b && false) ≡ false
    and_false true = refl
    and_false false = refl

    inside : is_outside dir (dir ++ 47 ∷ codes "_stdout") ≡ false
    inside = ap (λ o. begins_at_root (dir ++ 47 ∷ codes "_stdout") && not (is_some o)) front ∙ and_false (begins_at_root (dir ++ 47 ∷ codes "_stdout"))

    local : local_name dir (dir ++ 47 ∷ codes "_stdout") ≡ Some (codes "_stdout")
    local = ap (λ o. relative_name (unwrap_or o (dir ++ 47 ∷ codes "_stdout"))) front

past_limit : (x : Value) → is_within x ≡ false → limited x ≡ Err TooLarge
past_limit x h = ap (λ b. cond b (Ok x) (Err TooLarge)) h

stdout_past : (env : List Bind) (dir : List ℕ) (answer : Answer) → is_within (Stdout dir) ≡ false → value_of (after env dir answer) (e.Apply func.Stdout []) ≡ Err TooLarge
stdout_past env dir answer h =
    ap (value_of (after env dir answer)) (sym (e.rolls-Apply func.Stdout []))
    ∙ ap settled (fold-roll-TExpr (Met Value) (value_step (after env dir answer)) (layer.Apply func.Stdout []))
    ∙ ap (λ (o : Outcome Value). settled (then_ (met o) (λ x. met (limited x)))) (past_limit (Stdout dir) h)

-- The standard output is the file of that name in the job's directory, within the limits.
pub stdout_met : (structs : Structs) (g : Ground) (place : List Segment) (answer : Answer) (env : List Bind)
    → SameValue (and_then (value_of (after env (job_dir g.site place 0) answer) (e.Apply func.Stdout [])) (λ x. landed structs (job_dir g.site place 0) answer x ty.File)) (file_at g place answer origin.Stdout)
stdout_met structs g place answer env = by_limit (is_within (v.File (job_path g place (codes "_stdout")))) refl
  where
    same : is_within (Stdout (job_dir g.site place 0)) ≡ is_within (v.File (job_path g place (codes "_stdout")))
    same = ap (λ p. is_within (v.File p)) (job_path_is g place (codes "_stdout"))

    by_limit : (b : Bool) → is_within (v.File (job_path g place (codes "_stdout"))) ≡ b
        → SameValue (and_then (value_of (after env (job_dir g.site place 0) answer) (e.Apply func.Stdout [])) (λ x. landed structs (job_dir g.site place 0) answer x ty.File)) (cond b (Some (v.File (job_path g place (codes "_stdout")))) None)
    by_limit true h =
        subst (λ (o : Outcome Value). SameValue o (Some (v.File (job_path g place (codes "_stdout")))))
        (sym (ap (λ o. and_then o (λ x. landed structs (job_dir g.site place 0) answer x ty.File)) (stdout_value env (job_dir g.site place 0) answer (same ∙ h)) ∙ stdout_landed structs (job_dir g.site place 0) answer))
        (ap v.File (job_path_is g place (codes "_stdout")))
    by_limit false h =
        subst (λ (o : Outcome Value). SameValue o None)
        (sym (ap (λ o. and_then o (λ x. landed structs (job_dir g.site place 0) answer x ty.File)) (stdout_past env (job_dir g.site place 0) answer (same ∙ h)))) tt

-- ---- a file by its name

abbrev pub has_slash : List ℕ → Bool
has_slash name = list_any (λ c. c == 47) name

not_front : (ps name : List ℕ) → has_slash name ≡ false → stripped (ps ++ 47 ∷ []) name ≡ None
not_front [] [] h = refl
not_front [] (c ∷ cs) h = ap (λ b. cond b (stripped [] cs) None) (turned c (or_parts (c == 47) (has_slash cs) h).0)
  where
    turned : (c : ℕ) → (c == 47) ≡ false → (47 == c) ≡ false
    turned c h = by_number (47 == c) refl
      where
        by_number : (b : Bool) → (47 == c) ≡ b → b ≡ false
        by_number false k = refl
        by_number true k = absurd (false≢true (sym h ∙ ap (λ m. m == 47) (sym (number_same 47 c k)) ∙ number_itself 47))
not_front (p ∷ ps) [] h = refl
not_front (p ∷ ps) (c ∷ cs) h = by_test (not_front ps cs (or_parts (c == 47) (has_slash cs) h).1) (p == c)
  where
    by_test : stripped (ps ++ 47 ∷ []) cs ≡ None → (b : Bool) → cond b (stripped (ps ++ 47 ∷ []) cs) None ≡ None
    by_test rest true = rest
    by_test rest false = refl

no_root : (name : List ℕ) → has_slash name ≡ false → begins_at_root name ≡ false
no_root [] h = refl
no_root (c ∷ cs) h = (or_parts (c == 47) (has_slash cs) h).0

one_part : (name : List ℕ) → has_slash name ≡ false → parts_of name ≡ name ∷ []
one_part [] h = refl
one_part (c ∷ cs) h =
    let p = or_parts (c == 47) (has_slash cs) h in
    ap (λ b. cond b ([] ∷ parts_of cs) (onto_first c (parts_of cs))) p.0 ∙ ap (onto_first c) (one_part cs p.1)

flat_name : (name : List ℕ) → has_slash name ≡ false → is_here name ≡ false → is_up name ≡ false → relative_name name ≡ Some name
flat_name name flat here up =
    ap (λ b. cond b None (option_and_then name_of (with_parts [] (parts_of name)))) (no_root name flat)
    ∙ ap (λ ps. option_and_then name_of (with_parts [] ps)) (one_part name flat)
    ∙ ap (λ b. option_and_then name_of (option_and_then (λ more. with_parts more []) (cond b (Some []) (cond (is_up name) (but_last []) (Some (name ∷ [])))))) here
    ∙ ap (λ b. option_and_then name_of (option_and_then (λ more. with_parts more []) (cond b None (Some (name ∷ []))))) up

seen_has : (files : List Seen) (name : List ℕ) → is_some (seen_body name files) ≡ has_file files name
seen_has [] name = refl
seen_has (f ∷ files) name = by_test (seen_has files name) (bytes_eq f.name name)
  where
    by_test : is_some (seen_body name files) ≡ has_file files name → (b : Bool) → is_some (cond b (Some f.body) (seen_body name files)) ≡ (b || has_file files name)
    by_test rest true = refl
    by_test rest false = rest

-- a name of a file: no slash, neither empty nor `.` nor `..`, and none of the two streams
pub record IsFileName (name : List ℕ) : Type 0 where
  pub flat : has_slash name ≡ false
  pub here : is_here name ≡ false
  pub up : is_up name ≡ false
  pub out : bytes_eq name (codes "_stdout") ≡ false
  pub err : bytes_eq name (codes "_stderr") ≡ false

-- A text and the file of that name are both within the limits, or both past them.
path_within : (name : List ℕ) → is_within (v.File name) ≡ is_within (v.Str name)
path_within name =
    ap (λ n. nat_le n 4194304 && is_short (v.File name)) (ap size (sym (v.rolls-File name)) ∙ fold-roll-Value ℕ size_step (value.File name) ∙ sym (ap size (sym (v.rolls-Str name)) ∙ fold-roll-Value ℕ size_step (value.Str name)))
    ∙ ap (λ b. nat_le (size (v.Str name)) 4194304 && b) (ap is_short (sym (v.rolls-File name)) ∙ fold-roll-Value Bool short_step (value.File name) ∙ sym (ap is_short (sym (v.rolls-Str name)) ∙ fold-roll-Value Bool short_step (value.Str name)))

glob_value : (env : List Bind) (dir : List ℕ) (answer : Answer) (name : List ℕ) → value_of (after env dir answer) (e.Cast (e.Lit (v.Str name)) ty.File) ≡ cond (is_within (v.Str name)) (Ok (v.File name)) (Err TooLarge)
glob_value env dir answer name =
    ap (value_of s) (sym (e.rolls-Cast (e.Lit (v.Str name)) ty.File))
    ∙ ap settled (fold-roll-TExpr (Met Value) (value_step s) (layer.Cast (e.Lit (v.Str name)) ty.File))
    ∙ ap (λ (r : Met Value). settled (value_step s (layer.Cast r ty.File))) literal
    ∙ by_limit (is_within (v.Str name)) refl
  where
    s : Setting
    s = after env dir answer

    literal : value_met (after env dir answer) (e.Lit (v.Str name)) ≡ met (limited (v.Str name))
    literal = ap (value_met (after env dir answer)) (sym (e.rolls-Lit (v.Str name))) ∙ fold-roll-TExpr (Met Value) (value_step (after env dir answer)) (layer.Lit (v.Str name))

    casted : cast (v.Str name) ty.File ≡ Ok (v.File name)
    casted =
        cast_out (v.Str name) ty.File
        ∙ ap (λ y. cast_at (v.Str name) (map-Value Value Caster cast y) (out-Ty (bare ty.File))) (v.outs-Str name)
        ∙ ap (cast_at (v.Str name) (value.Str name)) ty.outs-File

    by_limit : (b : Bool) → is_within (v.Str name) ≡ b → settled (value_step s (layer.Cast (met (cond b (Ok (v.Str name)) (Err TooLarge))) ty.File)) ≡ cond b (Ok (v.File name)) (Err TooLarge)
    by_limit true h =
        ap (λ r. settled (then_ (from_cast r) (λ x. met (limited x)))) casted
        ∙ ap (λ (o : Outcome Value). settled (met o)) (at_limit (v.File name) (path_within name ∙ h))
    by_limit false h = refl

glob_landed : (structs : Structs) (dir : List ℕ) (answer : Answer) (name : List ℕ) → IsFileName name
    → landed structs dir answer (v.File name) ty.File ≡ cond (has_file answer.files name) (Ok (v.File (dir ++ 47 ∷ name))) (unlisted_file answer false)
glob_landed structs dir answer name h =
    landed_is structs dir answer name
    ∙ ap (λ b. cond (b && not (is_some (stripped (dir ++ 47 ∷ []) name))) (Ok (v.File name)) (named_file dir answer false (local_name dir name))) (no_root name h.flat)
    ∙ ap (named_file dir answer false) local
    ∙ ap (λ b. cond b (Ok (v.File (dir ++ 47 ∷ name))) (unlisted_file answer false)) left
  where
    local : local_name dir name ≡ Some name
    local = ap (λ o. relative_name (unwrap_or o name)) (not_front dir name h.flat) ∙ flat_name name h.flat h.here h.up

    left : is_some (left_body answer name) ≡ has_file answer.files name
    left =
        ap (λ b. is_some (cond b (Some answer.out) (cond (bytes_eq name (codes "_stderr")) (Some answer.err) (seen_body name answer.files)))) h.out
        ∙ ap (λ b. is_some (cond b (Some answer.err) (seen_body name answer.files))) h.err
        ∙ seen_has answer.files name

-- A file by its name is the file of that name in the job's directory, where its name was kept.
pub glob_met : (structs : Structs) (g : Ground) (place : List Segment) (answer : Answer) (env : List Bind) (name : List ℕ) → IsFileName name
    → SameValue (and_then (value_of (after env (job_dir g.site place 0) answer) (e.Cast (e.Lit (v.Str name)) ty.File)) (λ x. landed structs (job_dir g.site place 0) answer x ty.File)) (file_at g place answer (origin.Glob name))
glob_met structs g place answer env name h =
    subst (λ (o : Outcome Value). SameValue (and_then o (λ x. landed structs (job_dir g.site place 0) answer x ty.File)) (file_at g place answer (origin.Glob name)))
    (sym (glob_value env (job_dir g.site place 0) answer name)) (by_limit (is_within (v.Str name)))
  where
    unlisted : (b : Bool) → SameValue (cond b (Err BodyLong) (Err FileMissing)) None
    unlisted true = tt
    unlisted false = tt

    by_test : (b : Bool)
        → SameValue (cond b (Ok (v.File (job_dir g.site place 0 ++ 47 ∷ name))) (unlisted_file answer false))
        (cond b (Some (v.File (job_path g place name))) None)
    by_test true = ap v.File (job_path_is g place name)
    by_test false = unlisted (is_cut answer.files)

    by_limit : (b : Bool) → SameValue (and_then (cond b (Ok (v.File name)) (Err TooLarge)) (λ x. landed structs (job_dir g.site place 0) answer x ty.File)) (cond (b && has_file answer.files name) (Some (v.File (job_path g place name))) None)
    by_limit true =
        subst (λ (o : Outcome Value). SameValue o (cond (has_file answer.files name) (Some (v.File (job_path g place name))) None)) (sym (glob_landed structs (job_dir g.site place 0) answer name h)) (by_test (has_file answer.files name))
    by_limit false = tt
