-- The names of files.
use Rattle.std.proofs.Common.{◌≡◌, ℕ, zero, suc, ◌==◌, Bool, true, false, cond, List, [], ◌∷◌, ◌++◌, length, take, Option, Some, None, Bor, refl, sym, ap, subst, ◌∙◌, option_and_then, append-nil}
use Rattle.std.specs.List.{flat_map, join_by, join_with_byte}
use Rattle.std.proofs.lemmas.Bool.{or_from, or_parts, true≢false}
use Rattle.std.proofs.lemmas.List.Concat.{flat_map-cons}
use Rattle.wdl_base.specs.Plain.{has_nul}
use Rattle.wdl_base.proofs.PlainLemmas.{has_nul-append}
use Rattle.wdl_value.specs.Files.{but_last, is_here, is_up, name_of, stripped, with_part, with_parts}
use Rattle.wdl_stdlib.specs.PathParts.{EachPlain, texts}

-- ---- paths without NUL

pub stripped_plain : (p s : List ℕ) → has_nul s ≡ false → (r : List ℕ) → stripped p s ≡ Some r → has_nul r ≡ false
stripped_plain [] s h r e = let same : s ≡ r = cc in let own = h in cc
stripped_plain (p ∷ ps) [] h r e = absurd (cc)
stripped_plain (p ∷ ps) (c ∷ cs) h r e = by_test (p == c) e (stripped_plain ps cs (or_parts (c == 0) (has_nul cs) h).1 r)
  where
    by_test : (b : Bool) → cond b (stripped ps cs) None ≡ Some r → (stripped ps cs ≡ Some r → has_nul r ≡ false) → has_nul r ≡ false
    by_test true e rest = rest e
    by_test false e rest = absurd (cc)

-- ---- parts without NUL

append_plain : (name : List (List ℕ)) (part : List ℕ) → EachPlain name → has_nul part ≡ false → EachPlain (name ++ part ∷ [])
append_plain [] part h k = (k, tt)
append_plain (x ∷ name) part h k = (h.0, append_plain name part h.1 k)

take_plain : (n : ℕ) (name : List (List ℕ)) → EachPlain name → EachPlain (take n name)
take_plain zero name h = tt
take_plain (suc n) [] h = tt
take_plain (suc n) (x ∷ name) h = (h.0, take_plain n name h.1)

but_last_plain : (name left : List (List ℕ)) → EachPlain name → but_last name ≡ Some left → EachPlain left
but_last_plain [] left h e = absurd (cc)
but_last_plain (x ∷ name) left h e =
    let same : take (length name) (x ∷ name) ≡ left = cc in
    subst EachPlain same (take_plain (length name) (x ∷ name) h)

part_plain : (name : List (List ℕ)) (part : List ℕ) (left : List (List ℕ)) → EachPlain name → has_nul part ≡ false
    → with_part name part ≡ Some left → EachPlain left
part_plain name part left h k = by_tests (is_here part) (is_up part)
  where
    by_tests : (here up : Bool) → cond here (Some name) (cond up (but_last name) (Some (name ++ part ∷ []))) ≡ Some left → EachPlain left
    by_tests true up e = let same : name ≡ left = cc in subst EachPlain same h
    by_tests false true e = but_last_plain name left h e
    by_tests false false e = let same : name ++ part ∷ [] ≡ left = cc in subst EachPlain same (append_plain name part h k)

pub parts_plain : (parts name left : List (List ℕ)) → EachPlain name → EachPlain parts → with_parts name parts ≡ Some left → EachPlain left
parts_plain [] name left h k e = let same : name ≡ left = cc in subst EachPlain same h
parts_plain (part ∷ parts) name left h k e =
    by_step (with_part name part) refl (λ more plain f. parts_plain parts more left plain k.1 f) e
  where
    by_step : (o : Option (List (List ℕ))) → with_part name part ≡ o
        → ((more : List (List ℕ)) → EachPlain more → with_parts more parts ≡ Some left → EachPlain left)
        → option_and_then (λ more. with_parts more parts) o ≡ Some left → EachPlain left
    by_step None is rest f = absurd (cc)
    by_step (Some more) is rest f = rest more (part_plain name part more h k.0 is) f

-- ---- joined parts

-- the parts with a slash before each
led : List (List ℕ) → List ℕ
led [] = []
led (part ∷ parts) = 47 ∷ (part ++ led parts)

led_is : (parts : List (Bor (List ℕ))) → flat_map (λ (p : Bor (List ℕ)). 47 ∷ p.now) parts ≡ led (texts parts)
unfolding led
led_is [] = refl
led_is (p ∷ parts) =
    flat_map-cons (λ (q : Bor (List ℕ)). 47 ∷ q.now) p parts ∙ ap (λ l. 47 ∷ (p.now ++ l)) (led_is parts)

join_led : (part : List ℕ) (parts : List (List ℕ)) → join_with_byte 47 (part ∷ parts) ≡ part ++ led parts
unfolding led
join_led part [] = sym (append-nil part)
join_led part (next ∷ parts) = ap (λ rest. part ++ 47 ∷ rest) (join_led next parts)

joined_is : (p : Bor (List ℕ)) (parts : List (Bor (List ℕ)))
    → join_by (λ (q : Bor (List ℕ)). q.now) (47 ∷ []) (p ∷ parts) ≡ join_with_byte 47 (texts (p ∷ parts))
joined_is p parts = ap (λ l. p.now ++ l) (led_is parts) ∙ sym (join_led p.now (texts parts))

led_plain : (parts : List (List ℕ)) → EachPlain parts → has_nul (led parts) ≡ false
unfolding led
led_plain [] h = refl
led_plain (part ∷ parts) h = or_from (47 == 0) (has_nul (part ++ led parts)) refl (has_nul-append part (led parts) h.0 (led_plain parts h.1))

joined_plain : (part : List ℕ) (parts : List (List ℕ)) → EachPlain (part ∷ parts) → has_nul (join_with_byte 47 (part ∷ parts)) ≡ false
joined_plain part parts h = ap has_nul (join_led part parts) ∙ has_nul-append part (led parts) h.0 (led_plain parts h.1)

pub join_plain : (parts : List (Bor (List ℕ))) → (length parts == 0) ≡ false → EachPlain (texts parts)
    → has_nul (join_by (λ (q : Bor (List ℕ)). q.now) (47 ∷ []) parts) ≡ false
join_plain [] some h = absurd (true≢false some)
join_plain (p ∷ parts) some h = ap has_nul (joined_is p parts) ∙ joined_plain p.now (texts parts) h

pub join_named : (parts : List (Bor (List ℕ))) → (length parts == 0) ≡ false
    → Some (join_by (λ (q : Bor (List ℕ)). q.now) (47 ∷ []) parts) ≡ name_of (texts parts)
join_named [] some = absurd (true≢false some)
join_named (p ∷ parts) some = ap (λ (t : List ℕ). Some t) (joined_is p parts)
