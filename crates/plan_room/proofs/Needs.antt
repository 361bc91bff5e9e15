-- Needs that are reached.
use Rattle.std.proofs.Common.{◌≡◌, ◌<◌, ◌≤◌, ℕ, zero, suc, ◌+◌, Bool, true, false, cond, List, [], ◌∷◌, ◌++◌, All, length, length-append, get_or, Some, arith, ap, refl, ◌∙◌}
use Rattle.std.proofs.lemmas.List.Elements.{All-append, All-cons}
use Rattle.wdl_base.specs.declared.name.Key.{Key}
use Rattle.wdl_typed.specs.KnownTypes.{is_some}
use Rattle.wdl_typed.specs.Order.{option_list}
use Rattle.wdl_typed.specs.Scope.{same_key}
use Rattle.plan_layout.specs.declared.layout.Need.{Need}
use Rattle.plan_layout.specs.Spots.{find_spot, needs_of, pick, picks, spots_from}
use Rattle.plan_room.specs.Laws.{NeedsFit}
use Rattle.plan_room.specs.Reached.{AreReached, IsReached}

pub none_all : {A : Type 0} (P : A → Type 0) → All P []
none_all P k d l = absurd (omega (arith, l))

pub head_of : {A : Type 0} (P : A → Type 0) (x : A) (xs : List A) → All P (x ∷ xs) → P x
head_of P x xs h = h 0 x (omega arith)

pub tail_of : {A : Type 0} (P : A → Type 0) (x : A) (xs : List A) → All P (x ∷ xs) → All P xs
tail_of P x xs h k d l = h (suc k) d (omega (arith, l))

module _ (P : Need → Type 0) where
  found : (seen : List Need) → All P seen → (key : Key) → All P (option_list (find_spot seen key))
  found [] h key = none_all P
  found (s ∷ ss) h key = by_key (same_key s.key key) (found ss (tail_of P s ss h) key)
    where
      by_key : (b : Bool) → All P (option_list (find_spot ss key)) → All P (option_list (cond b (Some s) (find_spot ss key)))
      by_key true rest = All-cons P s [] (head_of P s ss h) (none_all P)
      by_key false rest = rest

  picked : (seen needs : List Need) → All P seen → All P needs → (key : Key) → All P (pick seen needs key)
  picked seen needs h j key = by_test (is_some (find_spot needs key))
    where
      by_test : (b : Bool) → All P (cond b needs (needs ++ option_list (find_spot seen key)))
      by_test true = j
      by_test false = All-append P needs (option_list (find_spot seen key)) j (found seen h key)

  all_picked : (seen needs : List Need) → All P seen → All P needs → (keys : List Key) → All P (picks seen needs keys)
  all_picked seen needs h j [] = j
  all_picked seen needs h j (key ∷ keys) = all_picked seen (pick seen needs key) h (picked seen needs h j key) keys

  pub all_needed : (seen : List Need) (keys : List Key) → All P seen → All P (needs_of seen keys)
  all_needed seen keys h = all_picked seen [] h (none_all P) keys

pub needs : NeedsFit
needs count bases seen keys h = all_needed (IsReached count bases) seen keys h

-- ---- a body inside others

pub last_base : (outer : List ℕ) (first : ℕ) → get_or (outer ++ first ∷ []) (length outer) 0 ≡ first
last_base [] first = refl
last_base (o ∷ os) first = last_base os first

outer_base : (outer : List ℕ) (first k : ℕ) → k < length outer → get_or (outer ++ first ∷ []) k 0 ≡ get_or outer k 0
outer_base [] first k l = absurd (omega (arith, l))
outer_base (o ∷ os) first zero l = refl
outer_base (o ∷ os) first (suc k) l = outer_base os first k (omega (arith, l))

-- What is reached outside is reached within.
pub still_reached : (count cells first : ℕ) (outer : List ℕ) → count ≤ first → (seen : List Need) → AreReached count outer seen → AreReached (first + cells) (outer ++ first ∷ []) seen
still_reached count cells first outer l [] h = none_all (IsReached (first + cells) (outer ++ first ∷ []))
still_reached count cells first outer l (n ∷ ns) h =
    All-cons (IsReached (first + cells) (outer ++ first ∷ [])) n ns (here (head_of (IsReached count outer) n ns h)) (still_reached count cells first outer l ns (tail_of (IsReached count outer) n ns h))
  where
    here : IsReached count outer n → IsReached (first + cells) (outer ++ first ∷ []) n
    here r =
        record {
          level = (let e = length-append outer (first ∷ []) in let m = r.level in omega (arith, e, m));
          cell = (let e = outer_base outer first n.level r.level in let m = r.cell in omega (arith, e, m, l));
        }

-- A name of the body itself is reached.
pub own_reached : (cells first : ℕ) (outer : List ℕ) (key : Key) (level slot : ℕ) → level ≡ length outer → slot < cells → IsReached (first + cells) (outer ++ first ∷ []) (record { key = key; level = level; slot = slot })
own_reached cells first outer key level slot e l =
    record {
      level = (let h = length-append outer (first ∷ []) in omega (arith, e, h));
      cell = (let h = ap (λ (k : ℕ). get_or (outer ++ first ∷ []) k 0) e ∙ last_base outer first in omega (arith, h, l));
    }

pub spots_reached : (cells first : ℕ) (outer : List ℕ) (level slot : ℕ) (keys : List Key) → level ≡ length outer → slot + length keys ≤ cells → AreReached (first + cells) (outer ++ first ∷ []) (spots_from level slot keys)
spots_reached cells first outer level slot [] e l = none_all (IsReached (first + cells) (outer ++ first ∷ []))
spots_reached cells first outer level slot (k ∷ ks) e l =
    All-cons (IsReached (first + cells) (outer ++ first ∷ [])) (record { key = k; level = level; slot = slot }) (spots_from level (slot + 1) ks) (own_reached cells first outer k level slot e (omega (arith, l)))
    (spots_reached cells first outer level (slot + 1) ks e (omega (arith, l)))
