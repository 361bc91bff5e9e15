-- The marks at the front of a text.
use Rattle.std.proofs.Common.{◌≡◌, ℕ, ◌≤◌, Bool, true, false, not, cond, ◌&&◌, ◌||◌, ◌==◌, ◌⊎◌, inl, inr, List, [], ◌∷◌, ◌++◌, length, Option, Some, None, Ok, refl, ap, sym, ◌∙◌, arith}
use Rattle.std.proofs.lemmas.Bool.{and_parts, and_from, eqb-true, not-true}
use Rattle.std.specs.List.{list_all}
use Rattle.wdl_ast.specs.declared.token.Fence.TheVariants.{Brace, Angle}
use Rattle.wdl_ast.specs.declared.token.Mark.TheVariants as mark
use Rattle.wdl_ast.specs.declared.token.Kind.{Kind}
use Rattle.wdl_ast.specs.declared.token.Kind.TheVariants as kind
use Rattle.wdl_ast.specs.Spelled.Classes.{Bytes, is_blank, is_letter, is_digit_of, first}
use Rattle.wdl_ast.specs.Spelled.Marks.{singles, doubles, single_in, double_in, single, double, triple, mark_of}
use Rattle.wdl_lex.specs.Reading.Code.{Found, rest, or_else, mark_at, checked}
use Rattle.wdl_lex.proofs.Digits.{is_plain, are_plain}
use Rattle.wdl_lex.proofs.Lists.{chosen}

-- ---- a class of bytes that no mark has

abbrev pub Avoids : (ℕ → Bool) → Type 0
Avoids p = (list_all (λ (e : ℕ × Kind). not (p e.0)) singles ≡ true) × (list_all (λ (e : ℕ × ℕ × Kind). not (p e.0) && not (p e.1)) doubles ≡ true)

in_singles : (p : ℕ → Bool) (es : List (ℕ × Kind)) (b : ℕ) (k : Kind) → list_all (λ (e : ℕ × Kind). not (p e.0)) es ≡ true → single_in es b ≡ Some k → p b ≡ false
in_singles p [] b k h q = cc
in_singles p (e ∷ es) b k h q = go (λ r. in_singles p es b k (and_parts (not (p e.0)) (list_all (λ (e : ℕ × Kind). not (p e.0)) es) h).1 r) (chosen (b == e.0) _ _ _ q)
  where
    go : (single_in es b ≡ Some k → p b ≡ false) → ((b == e.0) ≡ true) × (Some e.1 ≡ Some k) ⊎ (((b == e.0) ≡ false) × (single_in es b ≡ Some k)) → p b ≡ false
    go more (inl r) = ap p (eqb-true b e.0 r.0) ∙ not-true (p e.0) (and_parts (not (p e.0)) (list_all (λ (e : ℕ × Kind). not (p e.0)) es) h).0
    go more (inr r) = more r.1

in_doubles : (p : ℕ → Bool) (es : List (ℕ × ℕ × Kind)) (b c : ℕ) (k : Kind) → list_all (λ (e : ℕ × ℕ × Kind). not (p e.0) && not (p e.1)) es ≡ true → double_in es b c ≡ Some k → (p b ≡ false) × (p c ≡ false)
in_doubles p [] b c k h q = cc
in_doubles p (e ∷ es) b c k h q = go (λ r. in_doubles p es b c k (and_parts (not (p e.0) && not (p e.1)) (list_all (λ (e : ℕ × ℕ × Kind). not (p e.0) && not (p e.1)) es) h).1 r) (chosen (b == e.0 && c == e.1) _ _ _ q)
  where
    here : (not (p e.0) && not (p e.1)) ≡ true
    here = (and_parts (not (p e.0) && not (p e.1)) (list_all (λ (e : ℕ × ℕ × Kind). not (p e.0) && not (p e.1)) es) h).0

    go : (double_in es b c ≡ Some k → (p b ≡ false) × (p c ≡ false)) → ((b == e.0 && c == e.1) ≡ true) × (Some e.2 ≡ Some k) ⊎ (((b == e.0 && c == e.1) ≡ false) × (double_in es b c ≡ Some k)) → (p b ≡ false) × (p c ≡ false)
    go more (inl r) =
        let t = and_parts (b == e.0) (c == e.1) r.0 in
        let n = and_parts (not (p e.0)) (not (p e.1)) here in
        (ap p (eqb-true b e.0 t.0) ∙ not-true (p e.0) n.0, ap p (eqb-true c e.1 t.1) ∙ not-true (p e.1) n.1)
    go more (inr r) = more r.1

single_avoids : (p : ℕ → Bool) (awaits closes : Bool) (b : ℕ) (k : Kind) → Avoids p → single awaits closes b ≡ Some k → p b ≡ false
unfolding single
single_avoids p awaits closes b k h q = braced (chosen (b == 123 && awaits) _ _ _ q)
  where
    ended : ((b == 125 && closes) ≡ true) × (Some kind.HoleClose ≡ Some k) ⊎ (((b == 125 && closes) ≡ false) × (single_in singles b ≡ Some k)) → p b ≡ false
    ended (inl r) = ap p (eqb-true b 125 (and_parts (b == 125) closes r.0).0) ∙ in_singles p singles 125 (kind.Mark mark.CloseBrace) h.0 refl
    ended (inr r) = in_singles p singles b k h.0 r.1

    braced : ((b == 123 && awaits) ≡ true) × (Some (kind.CommandOpen Brace) ≡ Some k) ⊎ (((b == 123 && awaits) ≡ false) × (cond (b == 125 && closes) (Some kind.HoleClose) (single_in singles b) ≡ Some k)) → p b ≡ false
    braced (inl r) = ap p (eqb-true b 123 (and_parts (b == 123) awaits r.0).0) ∙ in_singles p singles 123 (kind.Mark mark.OpenBrace) h.0 refl
    braced (inr r) = ended (chosen (b == 125 && closes) _ _ _ r.1)

double_avoids : (p : ℕ → Bool) (b c : ℕ) (k : Kind) → Avoids p → double b c ≡ Some k → (p b ≡ false) × (p c ≡ false)
unfolding double
double_avoids p b c k h q = in_doubles p doubles b c k h.1 q

triple_is : (awaits : Bool) (b c d : ℕ) (k : Kind) → triple awaits b c d ≡ Some k → (b ≡ 60) × (c ≡ 60) × (d ≡ 60)
unfolding triple
triple_is awaits b c d k q = go (chosen (b == 60 && (c == 60 && (d == 60 && awaits))) _ _ _ q)
  where
    go : ((b == 60 && (c == 60 && (d == 60 && awaits))) ≡ true) × (Some (kind.CommandOpen Angle) ≡ Some k) ⊎ (((b == 60 && (c == 60 && (d == 60 && awaits))) ≡ false) × (None ≡ Some k)) → (b ≡ 60) × (c ≡ 60) × (d ≡ 60)
    go (inl r) =
        let t = and_parts (b == 60) (c == 60 && (d == 60 && awaits)) r.0 in
        let u = and_parts (c == 60) (d == 60 && awaits) t.1 in
        (eqb-true b 60 t.0, eqb-true c 60 u.0, eqb-true d 60 (and_parts (d == 60) awaits u.1).0)
    go (inr r) = (let e = r.1 in let n : ⊥ = cc in absurd n)

triple_avoids : (p : ℕ → Bool) (awaits : Bool) (b c d : ℕ) (k : Kind) → Avoids p → triple awaits b c d ≡ Some k → (p b ≡ false) × (p c ≡ false) × (p d ≡ false)
triple_avoids p awaits b c d k h q =
    let t = triple_is awaits b c d k q in
    let n = in_singles p singles 60 (kind.Mark mark.Less) h.0 refl in
    (ap p t.0 ∙ n, ap p t.1 ∙ n, ap p t.2 ∙ n)

-- the first byte of a mark
pub mark_first : (p : ℕ → Bool) (awaits closes : Bool) (v : Bytes) (k : Kind) → Avoids p → mark_of awaits closes v ≡ Some k → (b : ℕ) × (w : Bytes) × (v ≡ b ∷ w) × (p b ≡ false)
mark_first p awaits closes [] k h q = cc
mark_first p awaits closes (b ∷ []) k h q = (b, [], refl, single_avoids p awaits closes b k h q)
mark_first p awaits closes (b ∷ c ∷ []) k h q = (b, c ∷ [], refl, (double_avoids p b c k h q).0)
mark_first p awaits closes (b ∷ c ∷ d ∷ []) k h q = (b, c ∷ d ∷ [], refl, (triple_avoids p awaits b c d k h q).0)
mark_first p awaits closes (b ∷ c ∷ d ∷ e ∷ w) k h q = cc

abbrev odd : ℕ → Bool
odd b = not (is_plain b)

odd_plain : (b : ℕ) → odd b ≡ false → is_plain b ≡ true
odd_plain b h = go (is_plain b) h
  where
    go : (t : Bool) → not t ≡ false → t ≡ true
    go true h = refl
    go false h = cc

pub mark_plain : (awaits closes : Bool) (v : Bytes) (k : Kind) → mark_of awaits closes v ≡ Some k → are_plain v ≡ true
mark_plain awaits closes [] k q = cc
mark_plain awaits closes (b ∷ []) k q = and_from (is_plain b) true (odd_plain b (single_avoids odd awaits closes b k (refl, refl) q)) refl
mark_plain awaits closes (b ∷ c ∷ []) k q =
    let t = double_avoids odd b c k (refl, refl) q in
    and_from (is_plain b) _ (odd_plain b t.0) (and_from (is_plain c) true (odd_plain c t.1) refl)
mark_plain awaits closes (b ∷ c ∷ d ∷ []) k q =
    let t = triple_avoids odd awaits b c d k (refl, refl) q in
    and_from (is_plain b) _ (odd_plain b t.0) (and_from (is_plain c) _ (odd_plain c t.1) (and_from (is_plain d) true (odd_plain d t.2) refl))
mark_plain awaits closes (b ∷ c ∷ d ∷ e ∷ w) k q = cc

pub no_letter : Avoids is_letter
unfolding is_letter
no_letter = (refl, refl)

pub no_digit : Avoids (is_digit_of 10)
unfolding is_digit_of
no_digit = (refl, refl)

pub no_blank : Avoids (λ b. is_blank b || b == 35)
no_blank = (refl, refl)

-- ---- at the end of a text

abbrev is_nul : ℕ → Bool
is_nul b = b == 0

option_cases : {X : Type 0} (o : Option X) → (o ≡ None) ⊎ ((x : X) × (o ≡ Some x))
option_cases None = inl refl
option_cases (Some x) = inr (x, refl)

no_triple : (awaits : Bool) (b c : ℕ) → triple awaits b c 0 ≡ None
no_triple awaits b c = go (option_cases (triple awaits b c 0))
  where
    go : (triple awaits b c 0 ≡ None) ⊎ ((k : Kind) × (triple awaits b c 0 ≡ Some k)) → triple awaits b c 0 ≡ None
    go (inl e) = e
    go (inr (k, e)) = let t = triple_is awaits b c 0 k e in absurd (omega (arith, t.2))

no_double : (b : ℕ) → double b 0 ≡ None
no_double b = go (option_cases (double b 0))
  where
    go : (double b 0 ≡ None) ⊎ ((k : Kind) × (double b 0 ≡ Some k)) → double b 0 ≡ None
    go (inl e) = e
    go (inr (k, e)) = let t = double_avoids is_nul b 0 k (refl, refl) e in (let f = t.1 in let n : ⊥ = cc in absurd n)

no_single : (awaits closes : Bool) → single awaits closes 0 ≡ None
unfolding single
no_single awaits closes = refl

-- ---- each mark is found, or a longer one

abbrev pub Most : Option Found → ℕ → Type 0
Most o n = (k : Kind) × (m : ℕ) × (o ≡ Some (k, m)) × (n ≤ m)

pub mark_least : (awaits closes : Bool) (v more : Bytes) (k : Kind) → mark_of awaits closes v ≡ Some k → Most (mark_at awaits closes (v ++ more)) (length v)
mark_least awaits closes [] more k q = cc
mark_least awaits closes (b ∷ []) more k q = go (triple awaits b (first more) (first (rest more))) (double b (first more)) (single awaits closes b) q
  where
    go : (o3 o2 o1 : Option Kind) → o1 ≡ Some k → Most (or_else o3 3 (or_else o2 2 (or_else o1 1 None))) 1
    go (Some j) o2 o1 q = (j, 3, refl, omega arith)
    go None (Some j) o1 q = (j, 2, refl, omega arith)
    go None None o1 q = (k, 1, ap (λ o. or_else o 1 None) q, omega arith)
mark_least awaits closes (b ∷ c ∷ []) more k q = go (triple awaits b c (first more)) (double b c) q
  where
    go : (o3 o2 : Option Kind) → o2 ≡ Some k → Most (or_else o3 3 (or_else o2 2 (or_else (single awaits closes b) 1 None))) 2
    go (Some j) o2 q = (j, 3, refl, omega arith)
    go None o2 q = (k, 2, ap (λ o. or_else o 2 (or_else (single awaits closes b) 1 None)) q, omega arith)
mark_least awaits closes (b ∷ c ∷ d ∷ []) more k q = (k, 3, ap (λ o. or_else o 3 (or_else (double b c) 2 (or_else (single awaits closes b) 1 None))) q, omega arith)
mark_least awaits closes (b ∷ c ∷ d ∷ e ∷ w) more k q = cc

pub mark_exact : (awaits closes : Bool) (v : Bytes) (k : Kind) → mark_of awaits closes v ≡ Some k → mark_at awaits closes v ≡ Some (k, length v)
mark_exact awaits closes [] k q = cc
mark_exact awaits closes (b ∷ []) k q =
    ap (λ o. or_else o 3 (or_else (double b 0) 2 (or_else (single awaits closes b) 1 None))) (no_triple awaits b 0)
    ∙ ap (λ o. or_else o 2 (or_else (single awaits closes b) 1 None)) (no_double b) ∙ ap (λ o. or_else o 1 None) q
mark_exact awaits closes (b ∷ c ∷ []) k q =
    ap (λ o. or_else o 3 (or_else (double b c) 2 (or_else (single awaits closes b) 1 None))) (no_triple awaits b c) ∙ ap (λ o. or_else o 2 (or_else (single awaits closes b) 1 None)) q
mark_exact awaits closes (b ∷ c ∷ d ∷ []) k q = ap (λ o. or_else o 3 (or_else (double b c) 2 (or_else (single awaits closes b) 1 None))) q
mark_exact awaits closes (b ∷ c ∷ d ∷ e ∷ w) k q = cc

abbrev HasMark : Bool → Bool → Bytes → Kind → ℕ → Type 0
HasMark awaits closes z k n = (w : Bytes) × (rest_ : Bytes) × (z ≡ w ++ rest_) × (length w ≡ n) × (mark_of awaits closes w ≡ Some k)

pub same_some : (x y : Found) → Some x ≡ Some y → (x.0 ≡ y.0) × (x.1 ≡ y.1)
same_some x y h = let e : x ≡ y = cc in (ap (λ (t : Found). t.0) e, ap (λ (t : Found). t.1) e)

pub mark_sound : (awaits closes : Bool) (z : Bytes) (k : Kind) (n : ℕ) → mark_at awaits closes z ≡ Some (k, n) → HasMark awaits closes z k n
mark_sound awaits closes z k n h = three z (triple awaits (first z) (first (rest z)) (first (rest (rest z)))) refl h
  where
    one : (z : Bytes) (o : Option Kind) → single awaits closes (first z) ≡ o → or_else o 1 None ≡ Some (k, n) → HasMark awaits closes z k n
    one z None e h = cc
    one [] (Some j) e h = (let f = sym (no_single awaits closes) ∙ e in let n : ⊥ = cc in absurd n)
    one (b ∷ z) (Some j) e h = let s = same_some (j, 1) (k, n) h in (b ∷ [], z, refl, s.1, e ∙ ap (λ x. Some x) s.0)

    two : (z : Bytes) (o : Option Kind) → double (first z) (first (rest z)) ≡ o → or_else o 2 (or_else (single awaits closes (first z)) 1 None) ≡ Some (k, n) → HasMark awaits closes z k n
    two z None e h = one z (single awaits closes (first z)) refl h
    two [] (Some j) e h = (let f = sym (no_double 0) ∙ e in let n : ⊥ = cc in absurd n)
    two (b ∷ []) (Some j) e h = (let f = sym (no_double b) ∙ e in let n : ⊥ = cc in absurd n)
    two (b ∷ c ∷ z) (Some j) e h = let s = same_some (j, 2) (k, n) h in (b ∷ c ∷ [], z, refl, s.1, e ∙ ap (λ x. Some x) s.0)

    three : (z : Bytes) (o : Option Kind) → triple awaits (first z) (first (rest z)) (first (rest (rest z))) ≡ o → or_else o 3 (or_else (double (first z) (first (rest z))) 2 (or_else (single awaits closes (first z)) 1 None)) ≡ Some (k, n) → HasMark awaits closes z k n
    three z None e h = two z (double (first z) (first (rest z))) refl h
    three [] (Some j) e h = (let f = sym (no_triple awaits 0 0) ∙ e in let n : ⊥ = cc in absurd n)
    three (b ∷ []) (Some j) e h = (let f = sym (no_triple awaits b 0) ∙ e in let n : ⊥ = cc in absurd n)
    three (b ∷ c ∷ []) (Some j) e h = (let f = sym (no_triple awaits b c) ∙ e in let n : ⊥ = cc in absurd n)
    three (b ∷ c ∷ d ∷ z) (Some j) e h = let s = same_some (j, 3) (k, n) h in (b ∷ c ∷ d ∷ [], z, refl, s.1, e ∙ ap (λ x. Some x) s.0)

-- a mark that begins with a point is the point
pub point_mark : (awaits closes : Bool) (w : Bytes) (k : Kind) → mark_of awaits closes (46 ∷ w) ≡ Some k → w ≡ []
unfolding double triple
point_mark awaits closes [] k q = refl
point_mark awaits closes (c ∷ []) k q = cc
point_mark awaits closes (c ∷ d ∷ []) k q = cc
point_mark awaits closes (c ∷ d ∷ e ∷ w) k q = cc

-- ---- a mark is neither a word nor a number

abbrev is_bare : Kind → Bool
is_bare (kind.Word w) = false
is_bare (kind.Int n) = false
is_bare (kind.Frac w) = false
is_bare _ = true

bare_single : (es : List (ℕ × Kind)) (b : ℕ) (k : Kind) → list_all (λ (e : ℕ × Kind). is_bare e.1) es ≡ true → single_in es b ≡ Some k → is_bare k ≡ true
bare_single [] b k h q = cc
bare_single (e ∷ es) b k h q = go (λ r. bare_single es b k (and_parts (is_bare e.1) (list_all (λ (e : ℕ × Kind). is_bare e.1) es) h).1 r) (chosen (b == e.0) _ _ _ q)
  where
    go : (single_in es b ≡ Some k → is_bare k ≡ true) → ((b == e.0) ≡ true) × (Some e.1 ≡ Some k) ⊎ (((b == e.0) ≡ false) × (single_in es b ≡ Some k)) → is_bare k ≡ true
    go more (inl r) = (let f : e.1 ≡ k = (let g = r.1 in cc) in ap is_bare (sym f) ∙ (and_parts (is_bare e.1) (list_all (λ (e : ℕ × Kind). is_bare e.1) es) h).0)
    go more (inr r) = more r.1

bare_double : (es : List (ℕ × ℕ × Kind)) (b c : ℕ) (k : Kind) → list_all (λ (e : ℕ × ℕ × Kind). is_bare e.2) es ≡ true → double_in es b c ≡ Some k → is_bare k ≡ true
bare_double [] b c k h q = cc
bare_double (e ∷ es) b c k h q = go (λ r. bare_double es b c k (and_parts (is_bare e.2) (list_all (λ (e : ℕ × ℕ × Kind). is_bare e.2) es) h).1 r) (chosen (b == e.0 && c == e.1) _ _ _ q)
  where
    go : (double_in es b c ≡ Some k → is_bare k ≡ true) → ((b == e.0 && c == e.1) ≡ true) × (Some e.2 ≡ Some k) ⊎ (((b == e.0 && c == e.1) ≡ false) × (double_in es b c ≡ Some k)) → is_bare k ≡ true
    go more (inl r) = (let f : e.2 ≡ k = (let g = r.1 in cc) in ap is_bare (sym f) ∙ (and_parts (is_bare e.2) (list_all (λ (e : ℕ × ℕ × Kind). is_bare e.2) es) h).0)
    go more (inr r) = more r.1

mark_bare : (awaits closes : Bool) (w : Bytes) (k : Kind) → mark_of awaits closes w ≡ Some k → is_bare k ≡ true
unfolding single double triple
mark_bare awaits closes [] k q = cc
mark_bare awaits closes (b ∷ []) k q = braced (chosen (b == 123 && awaits) _ _ _ q)
  where
    ended : ((b == 125 && closes) ≡ true) × (Some kind.HoleClose ≡ Some k) ⊎ (((b == 125 && closes) ≡ false) × (single_in singles b ≡ Some k)) → is_bare k ≡ true
    ended (inl r) = (let f : kind.HoleClose ≡ k = (let g = r.1 in cc) in ap is_bare (sym f))
    ended (inr r) = bare_single singles b k refl r.1

    braced : ((b == 123 && awaits) ≡ true) × (Some (kind.CommandOpen Brace) ≡ Some k) ⊎ (((b == 123 && awaits) ≡ false) × (cond (b == 125 && closes) (Some kind.HoleClose) (single_in singles b) ≡ Some k)) → is_bare k ≡ true
    braced (inl r) = (let f : kind.CommandOpen Brace ≡ k = (let g = r.1 in cc) in ap is_bare (sym f))
    braced (inr r) = ended (chosen (b == 125 && closes) _ _ _ r.1)
mark_bare awaits closes (b ∷ c ∷ []) k q = bare_double doubles b c k refl q
mark_bare awaits closes (b ∷ c ∷ d ∷ []) k q = go (chosen (b == 60 && (c == 60 && (d == 60 && awaits))) _ _ _ q)
  where
    go : ((b == 60 && (c == 60 && (d == 60 && awaits))) ≡ true) × (Some (kind.CommandOpen Angle) ≡ Some k) ⊎ (((b == 60 && (c == 60 && (d == 60 && awaits))) ≡ false) × (None ≡ Some k)) → is_bare k ≡ true
    go (inl r) = (let f : kind.CommandOpen Angle ≡ k = (let g = r.1 in cc) in ap is_bare (sym f))
    go (inr r) = (let e = r.1 in let n : ⊥ = cc in absurd n)
mark_bare awaits closes (b ∷ c ∷ d ∷ e ∷ w) k q = cc

checked_bare : (k : Kind) → is_bare k ≡ true → (z : Bytes) (n : ℕ) → checked true z (Some (k, n)) ≡ Ok (k, n)
checked_bare (kind.Word w) h z n = cc
checked_bare (kind.Int i) h z n = cc
checked_bare (kind.Frac w) h z n = cc
checked_bare (kind.Mark m) h z n = refl
checked_bare (kind.StrOpen q) h z n = refl
checked_bare kind.StrClose h z n = refl
checked_bare (kind.Chars w) h z n = refl
checked_bare (kind.HoleOpen m) h z n = refl
checked_bare kind.HoleClose h z n = refl
checked_bare (kind.CommandOpen f) h z n = refl
checked_bare kind.CommandClose h z n = refl

pub mark_checked : (awaits closes : Bool) (z : Bytes) (k : Kind) (n : ℕ) → mark_at awaits closes z ≡ Some (k, n) → checked true z (mark_at awaits closes z) ≡ Ok (k, n)
mark_checked awaits closes z k n h = let t = mark_sound awaits closes z k n h in ap (checked true z) h ∙ checked_bare k (mark_bare awaits closes t.0 k t.4) z n
