-- The rows of the calls.
use Rattle.std.proofs.Common.{◌≡◌, ℕ, ◌+◌, ◌≤◌, Bool, true, false, ◌&&◌, ◌==◌, List, [], ◌∷◌, ◌++◌, length, length-append, Some, nat_le, ap, sym, subst, ◌∙◌, refl, arith, eqb-true}
use Rattle.std.proofs.lemmas.Bool.{and_parts}
use Rattle.std.proofs.lemmas.Bool.Decides.{nat_tests}
use Rattle.wdl_base.specs.Answers.{is_answer}
use Rattle.wdl_base.specs.Same.{same_place}
use Rattle.wdl_base.specs.declared.answer.Answer.{Answer}
use Rattle.wdl_base.specs.declared.body.Body.TheVariants.{Bytes}
use Rattle.wdl_base.specs.declared.body.Seen.{Seen}
use Rattle.wdl_base.specs.declared.place.Segment.{Segment}
use Rattle.wdl_port.specs.Table.{answer_of}
use Rattle.wdl_port.specs.declared.table_row.TableRow.{TableRow}
use Rattle.wdl_port.proofs.PlaceLemmas.{one_place}
use Rattle.wdl_load.specs.Loads.{AreLoadRows, AreRowsFrom, IsLoadAnswer, IsLoadRow, LoadGives, TableGives}

is_within : (limit : ℕ) (n : ℕ) → n ≤ limit → nat_le n limit ≡ true
is_within limit n h = grind (arith, nat_tests)

-- an answer with a short standard output and nothing else keeps its limits
pub keeps_limits : (out err : List ℕ) (files : List Seen) → length out ≤ 65536 → err ≡ [] → files ≡ [] → is_answer (Bytes out) (Bytes err) files ≡ true
keeps_limits out err files h e f =
    ap (λ x. is_answer (Bytes out) (Bytes x) files) e ∙ ap (λ x. is_answer (Bytes out) (Bytes []) x) f ∙ rw (is_within 65536 (length out) h) refl

-- one row more
pub one_more : (k n : ℕ) (rows : List TableRow) (row : TableRow) → AreRowsFrom k rows → k + length rows ≡ n → IsLoadRow n row → AreRowsFrom k (rows ++ row ∷ [])
one_more k n [] row h e r = let same : n ≡ k = omega arith in (subst (λ m. IsLoadRow m row) same r, tt)
one_more k n (first ∷ rows) row h e r = (h.0, one_more (k + 1) n rows row h.1 (omega arith) r)

-- the rows of one call more
pub more_rows : (n : ℕ) (rows more : List TableRow) (row : TableRow) → more ≡ rows ++ row ∷ [] → AreLoadRows n rows → IsLoadRow n row → AreLoadRows (n + 1) more
more_rows n rows more row e h r =
    let long = length-append rows (row ∷ []) in
    let k = h.count in
    subst (AreLoadRows (n + 1)) (sym e) (record { count = omega (arith, long, k); each = one_more 0 n rows row h.each (omega arith) r })

-- the row that answers
module _ (n : ℕ) (place : List Segment) (attempt : ℕ) (a : Answer) where
  here : (k : ℕ) (row : TableRow) (rows : List TableRow) → k + length (row ∷ rows) ≡ n → IsLoadRow k row → answer_of (row ∷ rows) place attempt ≡ Some a
      → same_place row.place place && (row.attempt == attempt) ≡ true → LoadGives n place attempt a
  here k row rows e h g t =
      let p = and_parts (same_place row.place place) (row.attempt == attempt) t in
      let same : row.answer ≡ a = grind (arith, t, g) in
      record {
        number = k;
        within = omega arith;
        at_place = sym (one_place row.place place p.0) ∙ h.place;
        first = sym (eqb-true row.attempt attempt p.1) ∙ h.attempt;
        answer = subst (IsLoadAnswer k) same h.answer;
      }

  gives_from : (k : ℕ) (rows : List TableRow) → k + length rows ≡ n → AreRowsFrom k rows → answer_of rows place attempt ≡ Some a → LoadGives n place attempt a
  gives_from k [] e h g = cc
  gives_from k (row ∷ rows) e h g =
      by_test (same_place row.place place && (row.attempt == attempt)) refl (λ x. gives_from (k + 1) rows (omega arith) h.1 x)
    where
      by_test : (b : Bool) → same_place row.place place && (row.attempt == attempt) ≡ b → (answer_of rows place attempt ≡ Some a → LoadGives n place attempt a)
          → LoadGives n place attempt a
      by_test true t more = here k row rows e h.0 g t
      by_test false t more = more (grind (arith, t, g))

pub table_gives : TableGives
table_gives n rows h place attempt a g = gives_from n place attempt a 0 rows (omega (arith, h.count)) h.each g.1
