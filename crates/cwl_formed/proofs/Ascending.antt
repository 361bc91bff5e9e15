-- Codes of success are ascending bytes.
use Rattle.std.proofs.Common.{◌≡◌, ◌≤◌, ◌<◌, ℕ, zero, suc, ◌+◌, nat_le, nat_lt, ℤ, Bool, true, false, cond, ◌&&◌, List, [], ◌∷◌, ◌++◌, map, Some, arith, refl}
use Rattle.std.proofs.lemmas.Bool.{and_from, and_parts, le-leb, leb-true, lt-ltb}
use Rattle.std.specs.List.{list_all, range_with_len}
use Rattle.wdl_typed.specs.declared.task.TCodes.{TCodes}
use Rattle.wdl_typed.specs.declared.task.TCodes.TheVariants as status
use Rattle.wdl_value.specs.Parts.{int_in, items_in}
use Rattle.cwl_image.specs.Image.{among, codes_of, is_code, literal}
use Rattle.cwl_emit.specs.Formed.{codes_formed, is_byte}
use Rattle.cwl_emit.specs.Reading.{are_ascending}

-- ascending from this number on
abbrev rises : ℕ → List ℕ → Bool
rises a [] = true
rises a (n ∷ ns) = nat_le a n && rises (suc n) ns

rises_lower : (a b : ℕ) (ns : List ℕ) → a ≤ b → rises b ns ≡ true → rises a ns ≡ true
rises_lower a b [] l h = refl
rises_lower a b (n ∷ ns) l h =
    let p = and_parts (nat_le b n) (rises (suc n) ns) h in
    and_from (nat_le a n) (rises (suc n) ns) (le-leb a n (least a b n l (leb-true b n p.0))) p.1
  where
    least : (a b n : ℕ) → a ≤ b → b ≤ n → a ≤ n
    least a b n h l = omega arith

rises_ascending : (a : ℕ) (ns : List ℕ) → rises a ns ≡ true → are_ascending ns ≡ true
rises_ascending a [] h = refl
rises_ascending a (m ∷ []) h = refl
rises_ascending a (m ∷ n ∷ ns) h =
    let p = and_parts (nat_le a m) (rises (suc m) (n ∷ ns)) h in
    let q = and_parts (nat_le (suc m) n) (rises (suc n) ns) p.1 in
    and_from (nat_lt m n) (are_ascending (n ∷ ns)) (lt-ltb m n (above m n (leb-true (suc m) n q.0))) (rises_ascending (suc m) (n ∷ ns) p.1)
  where
    above : (m n : ℕ) → suc m ≤ n → m < n
    above m n h = omega arith

range_rises : (a k : ℕ) → rises a (range_with_len a k) ≡ true
range_rises a zero = refl
range_rises a (suc k) =
    and_from (nat_le a a) (rises (suc a) (range_with_len (a + 1) k)) (le-leb a a (itself a)) (rises_lower (suc a) (a + 1) (range_with_len (a + 1) k) (same a) (range_rises (a + 1) k))
  where
    itself : (a : ℕ) → a ≤ a
    itself a = omega arith

    same : (a : ℕ) → suc a ≤ a + 1
    same a = omega arith

range_bytes : (a k : ℕ) → a + k ≤ 256 → list_all is_byte (range_with_len a k) ≡ true
range_bytes a zero l = refl
range_bytes a (suc k) l = and_from (is_byte a) (list_all is_byte (range_with_len (a + 1) k)) (lt-ltb a 256 (first a k l)) (range_bytes (a + 1) k (rest a k l))
  where
    first : (a k : ℕ) → a + suc k ≤ 256 → a < 256
    first a k l = omega arith

    rest : (a k : ℕ) → a + suc k ≤ 256 → (a + 1) + k ≤ 256
    rest a k l = omega arith

among_rises : (zs : List ℤ) (a : ℕ) (ns : List ℕ) → rises a ns ≡ true → rises a (among zs ns) ≡ true
among_rises zs a [] h = refl
among_rises zs a (n ∷ ns) h =
    let p = and_parts (nat_le a n) (rises (suc n) ns) h in
    by_test (is_code zs n) p.0 (among_rises zs (suc n) ns p.1) (lower a n (leb-true a n p.0))
  where
    lower : (a n : ℕ) → a ≤ n → a ≤ suc n
    lower a n l = omega arith

    by_test : (b : Bool) → nat_le a n ≡ true → rises (suc n) (among zs ns) ≡ true → a ≤ suc n → rises a (cond b (n ∷ []) [] ++ among zs ns) ≡ true
    by_test true h r l = and_from (nat_le a n) (rises (suc n) (among zs ns)) h r
    by_test false h r l = rises_lower a (suc n) (among zs ns) l r

among_bytes : (zs : List ℤ) (ns : List ℕ) → list_all is_byte ns ≡ true → list_all is_byte (among zs ns) ≡ true
among_bytes zs [] h = refl
among_bytes zs (n ∷ ns) h = let p = and_parts (is_byte n) (list_all is_byte ns) h in by_test (is_code zs n) p.0 (among_bytes zs ns p.1)
  where
    by_test : (b : Bool) → is_byte n ≡ true → list_all is_byte (among zs ns) ≡ true → list_all is_byte (cond b (n ∷ []) [] ++ among zs ns) ≡ true
    by_test true h r = and_from (is_byte n) (list_all is_byte (among zs ns)) h r
    by_test false h r = r

both : (a : ℕ) (ns : List ℕ) → list_all is_byte ns ≡ true → rises a ns ≡ true → codes_formed (Some ns) ≡ true
both a ns h r = and_from (list_all is_byte ns) (are_ascending ns) h (rises_ascending a ns r)

some_kept : (zs : List ℤ) (a k : ℕ) → a + k ≤ 256 → codes_formed (Some (among zs (range_with_len a k))) ≡ true
some_kept zs a k l = both a (among zs (range_with_len a k)) (among_bytes zs (range_with_len a k) (range_bytes a k l)) (among_rises zs a (range_with_len a k) (range_rises a k))

all_kept : (a k : ℕ) → a + k ≤ 256 → codes_formed (Some (range_with_len a k)) ≡ true
all_kept a k l = both a (range_with_len a k) (range_bytes a k l) (range_rises a k)

-- The codes of a tool are ascending bytes.
pub codes_kept : (cs : TCodes) → codes_formed (codes_of cs) ≡ true
codes_kept status.Zero = refl
codes_kept status.Any = all_kept 0 256 (omega arith)
codes_kept (status.One x) = some_kept (int_in (literal x) ∷ []) 0 256 (omega arith)
codes_kept (status.Many x) = some_kept (map int_in (items_in (literal x))) 0 256 (omega arith)
