-- Fronts of lists.
use Rattle.std.proofs.Common.{◌≡◌, ℕ, ◌+◌, ◌<◌, Bool, true, false, cond, ◌&&◌, ◌⊎◌, inl, inr, [], ◌∷◌, ◌++◌, length, take, drop, refl, ap, sym, ◌∙◌, arith}
use Rattle.std.proofs.lemmas.Bool.{and_parts, cond-true, cond-false}
use Rattle.std.proofs.lemmas.List.{take_at, drop_at}
use Rattle.std.specs.List.{list_all, prefix_len}
use Rattle.wdl_ast.specs.Spelled.Classes.{Bytes, is_end}

pub chosen : {X : Type 0} (b : Bool) (x y z : X) → cond b x y ≡ z → ((b ≡ true) × (x ≡ z)) ⊎ ((b ≡ false) × (y ≡ z))
chosen true x y z e = inl (refl, e)
chosen false x y z e = inr (refl, e)

pub clash : {X : Type 0} (b : Bool) → b ≡ true → b ≡ false → X
clash {X} b h k = let n : true ≡ false = sym h ∙ k in let z : ⊥ = cc in absurd z

pub same_head : (b c : ℕ) (y z : Bytes) → b ∷ y ≡ c ∷ z → (b ≡ c) × (y ≡ z)
same_head b c y z h = (let e : b ≡ c = cc in e, let e : y ≡ z = cc in e)

-- nothing of the class stands at the front
abbrev pub StopsAt : (ℕ → Bool) → Bytes → Type 0
StopsAt p [] = Unit {0}
StopsAt p (b ∷ z) = p b ≡ false

-- how a text falls apart behind its longest front of a class
pub front_of : (p : ℕ → Bool) (z : Bytes) → (w : Bytes) × (rest : Bytes) × (z ≡ w ++ rest) × (length w ≡ prefix_len p z) × (list_all p w ≡ true) × StopsAt p rest
front_of p [] = ([], [], refl, refl, refl, tt)
front_of p (b ∷ z) = go (p b) refl (front_of p z)
  where
    go : (t : Bool) → p b ≡ t → ((w : Bytes) × (rest : Bytes) × (z ≡ w ++ rest) × (length w ≡ prefix_len p z) × (list_all p w ≡ true) × StopsAt p rest)
        → (w : Bytes) × (rest : Bytes) × (b ∷ z ≡ w ++ rest) × (length w ≡ prefix_len p (b ∷ z)) × (list_all p w ≡ true) × StopsAt p rest
    go true h f = (b ∷ f.0, f.1, ap (λ y. b ∷ y) f.2, (let e : length (b ∷ f.0) ≡ 1 + prefix_len p z = omega (arith, f.3) in e ∙ sym (cond-true (p b) (1 + prefix_len p z) 0 h)), ap (λ t. t && list_all p f.0) h ∙ f.4, f.5)
    go false h f = ([], b ∷ z, refl, sym (cond-false (p b) (1 + prefix_len p z) 0 h), refl, h)

-- a front of a class, and then more of it
pub front_more : (p : ℕ → Bool) (w rest : Bytes) → list_all p w ≡ true → prefix_len p (w ++ rest) ≡ length w + prefix_len p rest
front_more p [] rest h = (let e : prefix_len p rest ≡ 0 + prefix_len p rest = omega arith in e)
front_more p (b ∷ w) rest h =
    let q = and_parts (p b) (list_all p w) h in
    cond-true (p b) _ _ q.0 ∙ ap (λ n. 1 + n) (front_more p w rest q.1) ∙ (let e : 1 + (length w + prefix_len p rest) ≡ length (b ∷ w) + prefix_len p rest = omega arith in e)

pub front_stops : (p : ℕ → Bool) (z : Bytes) → StopsAt p z → prefix_len p z ≡ 0
front_stops p [] s = refl
front_stops p (b ∷ z) s = cond-false (p b) _ _ s

pub front_exact : (p : ℕ → Bool) (w rest : Bytes) → list_all p w ≡ true → StopsAt p rest → prefix_len p (w ++ rest) ≡ length w
front_exact p w rest h s = front_more p w rest h ∙ ap (λ n. length w + n) (front_stops p rest s) ∙ (let e : length w + 0 ≡ length w = omega arith in e)

pub front_whole : (p : ℕ → Bool) (w : Bytes) → list_all p w ≡ true → prefix_len p w ≡ length w
front_whole p [] h = refl
front_whole p (b ∷ w) h =
    let q = and_parts (p b) (list_all p w) h in
    cond-true (p b) _ _ q.0 ∙ ap (λ n. 1 + n) (front_whole p w q.1) ∙ (let e : 1 + length w ≡ length (b ∷ w) = omega arith in e)

-- w is the front of length n, and rest follows it
pub cut : (z w rest : Bytes) (n : ℕ) → z ≡ w ++ rest → length w ≡ n → take n z ≡ w
cut z w rest n h e = ap (take n) h ∙ take_at w rest n e

pub left : (z w rest : Bytes) (n : ℕ) → z ≡ w ++ rest → length w ≡ n → drop n z ≡ rest
left z w rest n h e = ap (drop n) h ∙ drop_at w rest n e

-- two fronts of one text and of one length are one
pub same_front : (v w x y : Bytes) → v ++ x ≡ w ++ y → length v ≡ length w → (v ≡ w) × (x ≡ y)
same_front v w x y h e = (sym (take_at v x (length w) e) ∙ ap (take (length w)) h ∙ take_at w y (length w) refl, sym (drop_at v x (length w) e) ∙ ap (drop (length w)) h ∙ drop_at w y (length w) refl)

pub nonempty_length : (a b : Bytes) → is_end (a ++ b) ≡ false → 0 < length a + length b
nonempty_length [] [] h = cc
nonempty_length [] (b ∷ z) h = omega arith
nonempty_length (a ∷ y) z h = omega arith
