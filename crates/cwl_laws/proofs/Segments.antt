-- What the ids of steps read as.
use Rattle.std.proofs.Common.{◌≡◌, ℕ, ◌<◌, ◌^◌, ◌==◌, Bool, true, false, cond, List, [], ◌∷◌, ◌++◌, None, codes, decimal, arith, sym, ap, ◌∙◌, refl}
use Rattle.std.specs.List.{list_any}
use Rattle.std.proofs.lemmas.Bool.{false≢true, or_parts}
use Rattle.std.proofs.lemmas.Fmt.{decimal_is_IsNumeral}
use Rattle.wdl_base.specs.declared.place.Segment.TheVariants as segment
use Rattle.cwl_model.specs.Ids.{behind, block_or_call, if_or_call, segment_of}
use Rattle.cwl_laws.proofs.Files.{number_itself, number_same}

pub scatter_reads : (k : ℕ) → k < 2 ^ 32 → segment_of (codes "scatter-" ++ decimal k) ≡ segment.Scatter k
unfolding segment_of
scatter_reads k h = ap (λ n. segment.Scatter n) (decimal_is_IsNumeral k (omega arith)).1

pub if_reads : (k : ℕ) → k < 2 ^ 32 → segment_of (codes "if-" ++ decimal k) ≡ segment.If k
unfolding segment_of
if_reads k h = ap (λ n. segment.If n) (decimal_is_IsNumeral k (omega arith)).1

abbrev pub has_dash : List ℕ → Bool
has_dash name = list_any (λ c. c == 45) name

not_behind : (ps name : List ℕ) → has_dash name ≡ false → behind (ps ++ 45 ∷ []) name ≡ None
not_behind [] [] h = refl
not_behind [] (c ∷ cs) h = ap (λ b. cond b (behind [] cs) None) (turned c (or_parts (c == 45) (has_dash cs) h).0)
  where
    turned : (c : ℕ) → (c == 45) ≡ false → (45 == c) ≡ false
    turned c h = by_number (45 == c) refl
      where
        by_number : (b : Bool) → (45 == c) ≡ b → b ≡ false
        by_number false k = refl
        by_number true k = absurd (false≢true (sym h ∙ ap (λ m. m == 45) (sym (number_same 45 c k)) ∙ number_itself 45))
not_behind (p ∷ ps) [] h = refl
not_behind (p ∷ ps) (c ∷ cs) h = by_test (not_behind ps cs (or_parts (c == 45) (has_dash cs) h).1) (p == c)
  where
    by_test : behind (ps ++ 45 ∷ []) cs ≡ None → (b : Bool) → cond b (behind (ps ++ 45 ∷ []) cs) None ≡ None
    by_test rest true = rest
    by_test rest false = refl

-- A name, which has no dash, is that of a call.
pub call_reads : (name : List ℕ) → has_dash name ≡ false → segment_of name ≡ segment.Call name
unfolding segment_of
call_reads name h = ap (block_or_call name) (not_behind (codes "scatter") name h) ∙ ap (if_or_call name) (not_behind (codes "if") name h)
