-- The segments with which the places of a statement begin: each has a name or a number that the statement gives, so those of two
-- statements of one body differ.
use Rattle.std.proofs.Common.{◌≡◌, ℕ, true, false, not, ◌||◌, ◌==◌, ◌⊎◌, inl, inr, List, [], ◌∷◌, ◌++◌, Contains, sym, ap, ◌∙◌, refl}
use Rattle.std.proofs.lemmas.Bool.{false≢true, and_parts, not-true, or_cases, or_left, or_parts, or_right}
use Rattle.std.proofs.lemmas.Bool.Decides.{Decides-eqb}
use Rattle.std.proofs.Math.Bool.{or_assoc}
use Rattle.wdl_base.specs.declared.place.Segment.{Segment}
use Rattle.wdl_base.specs.declared.place.Segment.TheVariants as segment
use Rattle.wdl_typed.specs.declared.flow.Statement.{Statement, Statement-F, fold-Statement}
use Rattle.wdl_typed.specs.declared.flow.Statement.TheOpen as layer
use Rattle.wdl_typed.specs.Lists.{are_distinct, has_name, has_number, numbers_differ}
use Rattle.flow_laws.proofs.Owned.{has_either, shared_by_none}

-- ---- numbers that differ

number_either : (k : ℕ) (ns ms : List ℕ) → has_number k (ns ++ ms) ≡ (has_number k ns || has_number k ms)
number_either k [] ms = refl
number_either k (n ∷ ns) ms = ap (λ b. n == k || b) (number_either k ns ms) ∙ sym (or_assoc (n == k) (has_number k ns) (has_number k ms))

number_shared_by_none : (ns ms : List ℕ) → numbers_differ (ns ++ ms) ≡ true → (k : ℕ) → has_number k ns ≡ true → has_number k ms ≡ true → ⊥
number_shared_by_none [] ms h k i j = false≢true i
number_shared_by_none (n ∷ ns) ms h k i j =
    let p = and_parts (not (has_number n (ns ++ ms))) (numbers_differ (ns ++ ms)) h in
    by_case (number_shared_by_none ns ms p.1 k) (sym (number_either n ns ms) ∙ not-true (has_number n (ns ++ ms)) p.0) (or_cases (n == k) (has_number k ns) i)
  where
    by_case : (has_number k ns ≡ true → has_number k ms ≡ true → ⊥) → has_number n ns || has_number n ms ≡ false → (n == k ≡ true) ⊎ (has_number k ns ≡ true) → ⊥
    by_case rest apart (inl e) = false≢true (sym (or_parts (has_number n ns) (has_number n ms) apart).1 ∙ ap (λ x. has_number x ms) ((Decides-eqb n k).0 e) ∙ j)
    by_case rest apart (inr e) = rest e j

pub numbers_right : (ns ms : List ℕ) → numbers_differ (ns ++ ms) ≡ true → numbers_differ ms ≡ true
numbers_right [] ms h = h
numbers_right (n ∷ ns) ms h = numbers_right ns ms (and_parts (not (has_number n (ns ++ ms))) (numbers_differ (ns ++ ms)) h).1

-- ---- segments

-- No segment begins both.
abbrev pub Apart : List Segment → List Segment → Type 0
Apart hs gs = (h : Segment) → Contains hs h → Contains gs h → ⊥

-- A segment is of a name, of the number of a scatter or of that of a condition.
abbrev pub Signed : List (List ℕ) → List ℕ → List ℕ → Segment → Type 0
Signed ns ks ms (segment.Call n) = has_name n ns ≡ true
Signed ns ks ms (segment.Scatter k) = has_number k ks ≡ true
Signed ns ks ms (segment.If k) = has_number k ms ≡ true
Signed ns ks ms (segment.Index i) = ⊥

module _ (ns ms : List (List ℕ)) (ks ls js is : List ℕ) where
  pub signed_left : (h : Segment) → Signed ns ks js h → Signed (ns ++ ms) (ks ++ ls) (js ++ is) h
  signed_left (segment.Call n) e = has_either n ns ms ∙ or_left (has_name n ns) (has_name n ms) e
  signed_left (segment.Scatter k) e = number_either k ks ls ∙ or_left (has_number k ks) (has_number k ls) e
  signed_left (segment.If k) e = number_either k js is ∙ or_left (has_number k js) (has_number k is) e
  signed_left (segment.Index i) e = e

  pub signed_right : (h : Segment) → Signed ms ls is h → Signed (ns ++ ms) (ks ++ ls) (js ++ is) h
  signed_right (segment.Call n) e = has_either n ns ms ∙ or_right (has_name n ns) (has_name n ms) e
  signed_right (segment.Scatter k) e = number_either k ks ls ∙ or_right (has_number k ks) (has_number k ls) e
  signed_right (segment.If k) e = number_either k js is ∙ or_right (has_number k js) (has_number k is) e
  signed_right (segment.Index i) e = e

  pub signed_apart : are_distinct (ns ++ ms) ≡ true → numbers_differ (ks ++ ls) ≡ true → numbers_differ (js ++ is) ≡ true → (h : Segment) → Signed ns ks js h → Signed ms ls is h → ⊥
  signed_apart a b c (segment.Call n) e f = false≢true (sym (shared_by_none ns ms a n e) ∙ f)
  signed_apart a b c (segment.Scatter k) e f = number_shared_by_none ks ls b k e f
  signed_apart a b c (segment.If k) e f = number_shared_by_none js is c k e f
  signed_apart a b c (segment.Index i) e f = e

-- ---- statements

abbrev pub heads_step : Statement-F (List Segment) → List Segment
heads_step (layer.Decl d) = []
heads_step (layer.Call c) = segment.Call c.name ∷ []
heads_step (layer.Scatter s) = segment.Scatter s.number ∷ []
heads_step (layer.If i) = segment.If i.number ∷ []

-- the first segments of the places of a statement's jobs
abbrev pub heads : Statement → List Segment
heads = fold-Statement (List Segment) heads_step

abbrev pub heads_all : List Statement → List Segment
heads_all [] = []
heads_all (s ∷ ss) = heads s ++ heads_all ss
