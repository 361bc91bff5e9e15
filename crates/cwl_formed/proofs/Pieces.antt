-- The argument of a tool is made of joined pieces.
use Rattle.std.proofs.Common.{◌≡◌, ℕ, ◌==◌, Bool, true, false, cond, not, ◌&&◌, ◌||◌, List, [], ◌∷◌, ◌++◌, map, Option, Some, None, sym, ap, ◌∙◌, refl}
use Rattle.std.proofs.lemmas.Bool.{false≢true, and_from, and_parts, or_from, or_parts, not-true}
use Rattle.std.specs.List.{list_all}
use Rattle.wdl_base.specs.declared.name.Key.{Key}
use Rattle.wdl_base.specs.Names.{is_name}
use Rattle.wdl_base.specs.Plain.{has_nul}
use Rattle.wdl_value.specs.declared.ty.Ty.{Ty}
use Rattle.wdl_value.specs.Fits.{Structs}
use Rattle.wdl_typed.specs.declared.expr.TExpr.{TExpr}
use Rattle.wdl_typed.specs.declared.expr.TPart.{TPart}
use Rattle.wdl_typed.specs.declared.expr.TPart.TheVariants as part
use Rattle.wdl_typed.specs.declared.scope.Bound.{Bound}
use Rattle.wdl_typed.specs.Scope.{type_in}
use Rattle.cwl_model.specs.declared.tool.CwlIn.{CwlIn}
use Rattle.cwl_model.specs.declared.tool.Piece.{Piece}
use Rattle.cwl_model.specs.declared.tool.Piece.TheVariants as piece
use Rattle.cwl_model.specs.declared.ty.CwlTy.{CwlTy, out-CwlTy}
use Rattle.cwl_model.specs.Fields.{are_pieces, are_plain, begins_with, begins_with_chars, is_piece, is_refused, opens}
use Rattle.cwl_image.specs.Expressions.{are_allowed}
use Rattle.cwl_image.specs.Image.{argument, chars_before, hole_by, hole_piece, is_file, reference, type_at}
use Rattle.cwl_image.specs.Subset.{are_input_holes, command_marks, is_input_hole, is_plain_choice, is_scalar_name, is_verbatim, opens as marks_open, some_scalar}
use Rattle.cwl_emit.specs.Formed.{is_plain}
use Rattle.cwl_formed.specs.Plain.{piece_plain}

abbrev shown : List ℕ → List (Option ℕ)
shown s = map (λ (c : ℕ). Some c) s

-- the characters that pieces begin with
abbrev front : List Piece → List ℕ
front [] = []
front (piece.Chars s ∷ ps) = s
front (piece.Input name ∷ ps) = []
front (piece.InputPath name ∷ ps) = []

-- ---- characters

-- characters of a command that stand for themselves, with what follows them
plain_front : (s : List ℕ) (ms : List (Option ℕ)) → is_verbatim (shown s ++ ms) ≡ true → has_nul s ≡ false → are_plain s ≡ true
plain_front [] ms h n = refl
plain_front (c ∷ s) ms h n =
    let p = and_parts (not (c == 92) && not (c == 36 && marks_open (shown s ++ ms))) (is_verbatim (shown s ++ ms)) h in
    let q = and_parts (not (c == 92)) (not (c == 36 && marks_open (shown s ++ ms))) p.0 in
    let m = or_parts (c == 0) (has_nul s) n in
    let r = by_next s q.1 in
    and_from (not (is_refused c s) && not (opens c s)) (are_plain s)
    (and_from (not (is_refused c s)) (not (opens c s)) (ap not (or_from (c == 0 || c == 92) (c == 36 && begins_with 123 s) (or_from (c == 0) (c == 92) m.0 (not-true (c == 92) q.0)) r.0)) (ap not r.1))
    (plain_front s ms p.1 m.1)
  where
    none : (b : Bool) → (b && false) ≡ false
    none true = refl
    none false = refl

    parted : (a f g : Bool) → not (a && (f || g)) ≡ true → ((a && g) ≡ false) × ((a && f) ≡ false)
    parted false f g h = (refl, refl)
    parted true false false h = (refl, refl)
    parted true true g h = absurd (false≢true h)
    parted true false true h = absurd (false≢true h)

    by_next : (t : List ℕ) → not (c == 36 && marks_open (shown t ++ ms)) ≡ true → ((c == 36 && begins_with 123 t) ≡ false) × ((c == 36 && begins_with 40 t) ≡ false)
    by_next [] h = (none (c == 36), none (c == 36))
    by_next (d ∷ t) h = parted (c == 36) (d == 40) (d == 123) h

verbatim_behind : (s : List ℕ) (ms : List (Option ℕ)) → is_verbatim (shown s ++ ms) ≡ true → is_verbatim ms ≡ true
verbatim_behind [] ms h = h
verbatim_behind (c ∷ s) ms h =
    verbatim_behind s ms (and_parts (not (c == 92) && not (c == 36 && marks_open (shown s ++ ms))) (is_verbatim (shown s ++ ms)) h).1

nul_behind : (s t : List ℕ) → has_nul (s ++ t) ≡ false → has_nul t ≡ false
nul_behind [] t h = h
nul_behind (c ∷ s) t h = nul_behind s t (or_parts (c == 0) (has_nul (s ++ t)) h).1

shown_both : (s t : List ℕ) (ms : List (Option ℕ)) → shown (s ++ t) ++ ms ≡ shown s ++ (shown t ++ ms)
shown_both [] t ms = refl
shown_both (c ∷ s) t ms = ap (λ ns. Some c ∷ ns) (shown_both s t ms)

-- ---- parts of a command

-- The pieces are joined, and the marks begin with the characters that they begin with.
abbrev Joined : List Piece → List (Option ℕ) → Type 0
Joined ps ms = (rest : List (Option ℕ)) × (ms ≡ shown (front ps) ++ rest) × (are_pieces ps ≡ true)

chars_joined : (s : List ℕ) (ps : List Piece) (ms : List (Option ℕ)) → is_verbatim (shown s ++ ms) ≡ true → list_all piece_plain (chars_before s ps) ≡ true → Joined ps ms → Joined (chars_before s ps) (shown s ++ ms)
chars_joined [] ps ms v n j = j
chars_joined (c ∷ s) [] ms v n j =
    let p = and_parts (is_plain (c ∷ s)) true n in
    (ms, refl, and_from (is_piece (piece.Chars (c ∷ s)) && true) true (and_from (are_plain (c ∷ s)) true (plain_front (c ∷ s) ms v (not-true (has_nul (c ∷ s)) p.0)) refl) refl)
chars_joined (c ∷ s) (piece.Chars t ∷ ps) ms v n j =
    let p = and_parts (is_plain ((c ∷ s) ++ t)) (list_all piece_plain ps) n in
    let q = and_parts (is_piece (piece.Chars t) && not (begins_with_chars ps)) (are_pieces ps) j.2 in
    let r = and_parts (is_piece (piece.Chars t)) (not (begins_with_chars ps)) q.0 in
    let same : shown (c ∷ s) ++ ms ≡ shown ((c ∷ s) ++ t) ++ j.0 = ap (λ ns. shown (c ∷ s) ++ ns) j.1 ∙ sym (shown_both (c ∷ s) t j.0) in
    let whole = plain_front ((c ∷ s) ++ t) j.0 (ap is_verbatim (sym same) ∙ v) (not-true (has_nul ((c ∷ s) ++ t)) p.0) in
    (j.0, same, and_from (are_plain ((c ∷ s) ++ t) && not (begins_with_chars ps)) (are_pieces ps) (and_from (are_plain ((c ∷ s) ++ t)) (not (begins_with_chars ps)) whole r.1) q.1)
chars_joined (c ∷ s) (piece.Input m ∷ ps) ms v n j =
    let p = and_parts (is_plain (c ∷ s)) (list_all piece_plain (piece.Input m ∷ ps)) n in
    (ms, refl, and_from (are_plain (c ∷ s) && true) (are_pieces (piece.Input m ∷ ps)) (and_from (are_plain (c ∷ s)) true (plain_front (c ∷ s) ms v (not-true (has_nul (c ∷ s)) p.0)) refl) j.2)
chars_joined (c ∷ s) (piece.InputPath m ∷ ps) ms v n j =
    let p = and_parts (is_plain (c ∷ s)) (list_all piece_plain (piece.InputPath m ∷ ps)) n in
    (ms, refl, and_from (are_plain (c ∷ s) && true) (are_pieces (piece.InputPath m ∷ ps)) (and_from (are_plain (c ∷ s)) true (plain_front (c ∷ s) ms v (not-true (has_nul (c ∷ s)) p.0)) refl) j.2)

-- the pieces behind characters hold no NUL either
plain_behind : (s : List ℕ) (ps : List Piece) → list_all piece_plain (chars_before s ps) ≡ true → list_all piece_plain ps ≡ true
plain_behind [] ps h = h
plain_behind (c ∷ s) [] h = refl
plain_behind (c ∷ s) (piece.Chars t ∷ ps) h =
    let p = and_parts (is_plain ((c ∷ s) ++ t)) (list_all piece_plain ps) h in
    and_from (is_plain t) (list_all piece_plain ps) (ap not (nul_behind (c ∷ s) t (not-true (has_nul ((c ∷ s) ++ t)) p.0))) p.1
plain_behind (c ∷ s) (piece.Input m ∷ ps) h = (and_parts (is_plain (c ∷ s)) (list_all piece_plain (piece.Input m ∷ ps)) h).1
plain_behind (c ∷ s) (piece.InputPath m ∷ ps) h = (and_parts (is_plain (c ∷ s)) (list_all piece_plain (piece.InputPath m ∷ ps)) h).1

hole_joined : (name : List ℕ) (o : Option CwlTy) (ps : List Piece) (ms : List (Option ℕ)) → is_name name ≡ true → Joined ps ms → Joined (hole_by name o ∷ ps) (None ∷ ms)
hole_joined name None ps ms w j = (None ∷ ms, refl, and_from (is_name name && true) (are_pieces ps) (and_from (is_name name) true w refl) j.2)
hole_joined name (Some t) ps ms w j = by_file (is_file (out-CwlTy t))
  where
    by_file : (b : Bool) → Joined (cond b (piece.InputPath name) (piece.Input name) ∷ ps) (None ∷ ms)
    by_file true = (None ∷ ms, refl, and_from (is_name name && true) (are_pieces ps) (and_from (is_name name) true w refl) j.2)
    by_file false = (None ∷ ms, refl, and_from (is_name name && true) (are_pieces ps) (and_from (is_name name) true w refl) j.2)

module _ (structs : Structs) (names inputs : List Bound) (ins : List CwlIn) (words : (k : Key) (t : Ty) → type_in inputs k ≡ Some t → is_name k.first ≡ true) where
  parts_joined : (parts : List (TPart TExpr)) → is_verbatim (command_marks parts) ≡ true → are_input_holes structs names inputs parts ≡ true → list_all piece_plain (argument ins parts) ≡ true
      → Joined (argument ins parts) (command_marks parts)
  parts_joined [] v h n = ([], refl, refl)
  parts_joined (part.Chars s ∷ parts) v h n =
      chars_joined s (argument ins parts) (command_marks parts) v n
      (parts_joined parts (verbatim_behind s (command_marks parts) v) h (plain_behind s (argument ins parts) n))
  parts_joined (part.Hole x ∷ parts) v h n =
      let p = and_parts (is_input_hole structs names inputs x) (are_input_holes structs names inputs parts) h in
      let q = and_parts (is_plain_choice x.choice && is_scalar_name inputs (reference x.expr)) (are_allowed structs names x.expr true) p.0 in
      by_key (reference x.expr) (and_parts (is_plain_choice x.choice) (is_scalar_name inputs (reference x.expr)) q.0).1 n (λ m. parts_joined parts v p.1 m)
    where
      by_type : (k : Key) (o : Option Ty) → type_in inputs k ≡ o → some_scalar o ≡ true → is_name k.first ≡ true
      by_type k None e s = absurd (false≢true s)
      by_type k (Some t) e s = words k t e

      by_key : (o : Option Key) → is_scalar_name inputs o ≡ true → list_all piece_plain (hole_piece ins o ++ argument ins parts) ≡ true → (list_all piece_plain (argument ins parts) ≡ true → Joined (argument ins parts) (command_marks parts))
          → Joined (hole_piece ins o ++ argument ins parts) (None ∷ command_marks parts)
      by_key None s m rest = absurd (false≢true s)
      by_key (Some k) s m rest =
          hole_joined k.first (type_at ins k.first) (argument ins parts) (command_marks parts) (by_type k (type_in inputs k) refl s)
          (rest (and_parts (piece_plain (hole_by k.first (type_at ins k.first))) (list_all piece_plain (argument ins parts)) m).1)

  -- The pieces of a command of the subset are those of their text.
  pub argument_joined : (parts : List (TPart TExpr)) → is_verbatim (command_marks parts) ≡ true → are_input_holes structs names inputs parts ≡ true → list_all piece_plain (argument ins parts) ≡ true
      → are_pieces (argument ins parts) ≡ true
  argument_joined parts v h n = (parts_joined parts v h n).2
