-- A set of lent texts, which grows by one.
use Rattle.std.proofs.Common.{◌≡◌, ℕ, Bool, true, false, ◌||◌, List, [], ◌∷◌, Ordering, Less, Equal, Greater, Bor, nat_cmp, is_eq, bytes_eq, refl, sym, ap, ◌∙◌}
use Rattle.std.proofs.lemmas.Map.Text.{is_eq-slice_cmp}
use Rattle.std.proofs.lemmas.Slice.Eq.{bytes_eq-Decides}
use Rattle.std.specs.BTreeMap.{is_at}
use Rattle.std.specs.BTreeSet.{insert_key}
use Rattle.std.specs.Cmp.Lexicographic.{slice_cmp}
use Rattle.std.specs.List.{list_any}
use Rattle.std.specs.Ordering.{match_ordering}

abbrev pub Key : Type 0
Key = Bor (List ℕ)

abbrev pub key_cmp : Key → Key → Ordering
key_cmp x y = slice_cmp nat_cmp x.now y.now

abbrev pub is_key : List ℕ → Key → Bool
is_key q = is_at (λ k. slice_cmp nat_cmp q k.now)

abbrev pub any_key : List ℕ → List Key → Bool
any_key q = list_any (is_key q)

again : (a b c : Bool) → a ≡ b → b || c ≡ a || (b || c)
again true true c e = refl
again false false c e = refl
again true false c e = cc
again false true c e = cc

swap : (a b c : Bool) → b || (a || c) ≡ a || (b || c)
swap true true c = refl
swap true false c = refl
swap false true c = refl
swap false false c = refl

first : (q : List ℕ) (k : Key) (b : Bool) → is_key q k || b ≡ bytes_eq q k.now || b
first q k b = ap (λ a. a || b) (is_eq-slice_cmp q k.now)

pub any_key-insert : (q : List ℕ) (k : Key) (ks : List Key) → any_key q (insert_key key_cmp ks k) ≡ bytes_eq q k.now || any_key q ks
any_key-insert q k [] = first q k false
any_key-insert q k (x ∷ xs) = by_order (key_cmp k x) refl (any_key-insert q k xs)
  where
    by_order : (o : Ordering) → key_cmp k x ≡ o → any_key q (insert_key key_cmp xs k) ≡ bytes_eq q k.now || any_key q xs
        → any_key q (match_ordering o (k ∷ x ∷ xs) (x ∷ xs) (x ∷ insert_key key_cmp xs k)) ≡ bytes_eq q k.now || (is_key q x || any_key q xs)
    by_order Less is rest = first q k (is_key q x || any_key q xs)
    by_order Equal is rest =
        let same : k.now ≡ x.now = (bytes_eq-Decides k.now x.now).0 (sym (is_eq-slice_cmp k.now x.now) ∙ ap is_eq is) in
        again (bytes_eq q k.now) (is_key q x) (any_key q xs) (ap (bytes_eq q) same ∙ sym (is_eq-slice_cmp q x.now))
    by_order Greater is rest = ap (λ b. is_key q x || b) rest ∙ swap (bytes_eq q k.now) (is_key q x) (any_key q xs)
