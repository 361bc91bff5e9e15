-- Names of files.
use Rattle.std.proofs.Common.{◌≡◌, ◌≢◌, ℕ, ◌-◌, List, [], ◌∷◌, ◌++◌, ◌+◌, ◌<◌, take, drop, length, get_or, refl, sym, ap, ◌∙◌, codes, append_assoc, Ok, Err}
use Rattle.std.proofs.lemmas.Bool.{cond-false, false_from_ne_true}
use Rattle.std.proofs.lemmas.List.{take-append-drop, drop_more}
use Rattle.std.proofs.lemmas.Slice.Eq.{bytes_eq-Decides}
use Rattle.std.specs.Str.{bytes_eq}
use Rattle.wdl_ast.specs.declared.document.Import.{Import}
use Rattle.wdl_ast.specs.declared.document.Section.{Section}
use Rattle.wdl_ast.specs.declared.document.Section.TheVariants as section
use Rattle.wdl_library.specs.Imports.{stem}
use Rattle.wdl_library.specs.Sections.{imports_in}
use Rattle.wdl_links.specs.declared.want.Want.{Want}
use Rattle.wdl_links.specs.Wants.{Outcome, and_then, want_of, wants_of}

-- a name that does not end in `.wdl`
pub stem-other : (s : List ℕ) → ((front : List ℕ) → s ≢ front ++ codes ".wdl") → s ≡ stem s
stem-other s h =
    sym (cond-false (bytes_eq (drop (length s - 4) s) (codes ".wdl")) _ _
    (false_from_ne_true _ (λ e. h (take (length s - 4) s)
    (sym (take-append-drop (length s - 4) s) ∙ ap (λ x. take (length s - 4) s ++ x) ((bytes_eq-Decides (drop (length s - 4) s) (codes ".wdl")).0 e)))))

shift : (o : Outcome (List Want)) (done : List Want) (w : Want)
    → and_then o (λ rest. Ok ((done ++ w ∷ []) ++ rest)) ≡ and_then (and_then o (λ ws. Ok (w ∷ ws))) (λ rest. Ok (done ++ rest))
shift (Ok ws) done w = ap Ok (append_assoc done (w ∷ []) ws)
shift (Err e) done w = refl

-- one more import
pub one_more : (base : List ℕ) (taken more : List (List ℕ)) (i : Import) (is : List Import) (done : List Want) (w : Want) (all : Outcome (List Want))
    → want_of base taken i ≡ Ok w → more ≡ taken ++ w.namespace ∷ []
    → and_then (wants_of base taken (i ∷ is)) (λ rest. Ok (done ++ rest)) ≡ all
    → and_then (wants_of base more is) (λ rest. Ok ((done ++ w ∷ []) ++ rest)) ≡ all
one_more base taken more i is done w all e k h =
    ap (λ (t : List (List ℕ)). and_then (wants_of base t is) (λ rest. Ok ((done ++ w ∷ []) ++ rest))) k
    ∙ shift (wants_of base (taken ++ w.namespace ∷ []) is) done w
    ∙ ap (λ (o : Outcome Want). and_then (and_then o (λ w. and_then (wants_of base (taken ++ w.namespace ∷ []) is) (λ ws. Ok (w ∷ ws)))) (λ rest. Ok (done ++ rest))) (sym e)
    ∙ h

pub next_section : (ss : List Section) (k : ℕ) (x : Section) (i : Import) → k < length ss → x ≡ get_or ss k x → x ≡ section.Import i
    → imports_in (drop k ss) ≡ i ∷ imports_in (drop (k + 1) ss)
next_section ss k x i below at is =
    ap imports_in (drop_more ss k x below ∙ ap (λ z. z ∷ drop (k + 1) ss) (sym at ∙ is))
