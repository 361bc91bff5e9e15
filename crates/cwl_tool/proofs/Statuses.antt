-- Numbers that are gathered from a range, one by one.
use Rattle.std.proofs.Common.{◌≡◌, ℕ, suc, ◌+◌, ◌-◌, ◌<◌, ℤ, Bool, if◌then◌else◌, List, [], ◌∷◌, ◌++◌, append_assoc, sym, ap, ◌∙◌, arith}
use Rattle.std.specs.List.{range_with_len}
use Rattle.cwl_image.specs.Image.{among, is_code}

range_here : (n k : ℕ) → n < k → range_with_len n (k - n) ≡ n ∷ range_with_len (n + 1) (k - (n + 1))
range_here n k l =
    let e : k - n ≡ suc (k - (n + 1)) = omega arith in
    ap (range_with_len n) e

pub one_more : (n k : ℕ) (xs ys all : List ℕ) → n < k → ys ≡ xs ++ n ∷ [] → xs ++ range_with_len n (k - n) ≡ all → ys ++ range_with_len (n + 1) (k - (n + 1)) ≡ all
one_more n k xs ys all l pushed h =
    ap (λ zs. zs ++ range_with_len (n + 1) (k - (n + 1))) pushed
    ∙ append_assoc xs (n ∷ []) (range_with_len (n + 1) (k - (n + 1)))
    ∙ ap (λ zs. xs ++ zs) (sym (range_here n k l))
    ∙ h

pub one_among : (zs : List ℤ) (n k : ℕ) (b : Bool) (xs ys all : List ℕ) → n < k → b ≡ is_code zs n → ys ≡ xs ++ (if b then n ∷ [] else [])
    → xs ++ among zs (range_with_len n (k - n)) ≡ all → ys ++ among zs (range_with_len (n + 1) (k - (n + 1))) ≡ all
one_among zs n k b xs ys all l is added h =
    ap (λ ws. ws ++ among zs (range_with_len (n + 1) (k - (n + 1)))) added
    ∙ append_assoc xs (if b then n ∷ [] else []) (among zs (range_with_len (n + 1) (k - (n + 1))))
    ∙ ap (λ (t : Bool). xs ++ ((if t then n ∷ [] else []) ++ among zs (range_with_len (n + 1) (k - (n + 1))))) is
    ∙ ap (λ ws. xs ++ among zs ws) (sym (range_here n k l))
    ∙ h
