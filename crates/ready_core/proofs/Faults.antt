-- The tests of faults and of jobs are equality, and what is counted alike by every test holds the same elements.
use Rattle.std.proofs.Common.{◌≡◌, ◌≤◌, ℕ, ℤ, pos, negsuc, Bool, true, false, ◌&&◌, ◌==◌, List, [], ◌∷◌, Contains, count_by, arith, sym, ap, ◌∙◌, subst, refl}
use Rattle.std.specs.Str.{bytes_eq}
use Rattle.std.proofs.lemmas.Bool.{false≢true, and_from, and_parts}
use Rattle.std.proofs.lemmas.Bool.Decides.{Decides-eqb}
use Rattle.std.proofs.lemmas.Slice.Eq.{bytes_eq-Decides}
use denote.Enum.Bare.{sameb, same_true, true_same}
use Rattle.wdl_base.specs.contracts.fault.EvalCode.{the_type}
use Rattle.wdl_base.specs.declared.fault.Fault.{Fault}
use Rattle.wdl_base.specs.declared.fault.Why.{Why}
use Rattle.wdl_base.specs.declared.fault.Why.TheVariants.{Code, Status}
use Rattle.wdl_base.specs.declared.place.Segment.{Segment}
use Rattle.wdl_base.specs.declared.request.Request.{Request}
use Rattle.wdl_base.specs.Same.{same_place, same_request}
use Rattle.flow_laws.proofs.SameRequests.{place_itself, place_same, request_itself, request_same}
use Rattle.ready_core.specs.Rows.{TakenJob}
use Rattle.ready_core.proofs.Counting.{counts, found}

-- ---- what is counted alike

module _ {A : Type 0} (same : A → A → Bool) (itself : (x : A) → same x x ≡ true) (equal : (x y : A) → same x y ≡ true → x ≡ y) where
  within : (xs ys : List A) → ((is : A → Bool) → count_by is xs ≤ count_by is ys) → (x : A) → Contains xs x → Contains ys x
  within xs ys h x c =
      let q = found (same x) ys (omega (arith, h (same x), counts (same x) xs x c (itself x))) in
      subst (Contains ys) (sym (equal x q.0 q.2)) q.1

-- ---- faults

abbrev same_why : Why → Why → Bool
same_why (Code a) (Code b) = sameb the_type a b
same_why (Status m) (Status n) = m == n
same_why _ _ = false

why_same : (a b : Why) → same_why a b ≡ true → a ≡ b
why_same (Code a) (Code b) h = ap Code (same_true the_type tt a b h)
why_same (Status m) (Status n) h = ap Status ((Decides-eqb m n).0 h)
why_same a b h = absurd (false≢true h)

why_itself : (a : Why) → same_why a a ≡ true
why_itself (Code a) = true_same the_type a a refl
why_itself (Status n) = (Decides-eqb n n).1 refl

abbrev same_fault : Fault → Fault → Bool
same_fault a b = same_place a.place b.place && (bytes_eq a.name b.name && same_why a.why b.why)

fault_same : (a b : Fault) → same_fault a b ≡ true → a ≡ b
fault_same a b h =
    let p = and_parts (same_place a.place b.place) (bytes_eq a.name b.name && same_why a.why b.why) h in
    let q = and_parts (bytes_eq a.name b.name) (same_why a.why b.why) p.1 in
    ap (λ (x : List Segment). record { place = x; name = a.name; why = a.why }) (place_same a.place b.place p.0)
    ∙ ap (λ (x : List ℕ). record { place = b.place; name = x; why = a.why }) ((bytes_eq-Decides a.name b.name).0 q.0)
    ∙ ap (λ (x : Why). record { place = b.place; name = b.name; why = x }) (why_same a.why b.why q.1)

fault_itself : (a : Fault) → same_fault a a ≡ true
fault_itself a =
    and_from (same_place a.place a.place) (bytes_eq a.name a.name && same_why a.why a.why) (place_itself a.place)
    (and_from (bytes_eq a.name a.name) (same_why a.why a.why) ((bytes_eq-Decides a.name a.name).1 refl) (why_itself a.why))

pub faults_within : (xs ys : List Fault) → ((is : Fault → Bool) → count_by is xs ≤ count_by is ys) → (x : Fault) → Contains xs x → Contains ys x
faults_within = within same_fault fault_itself fault_same

-- ---- jobs

abbrev same_int : ℤ → ℤ → Bool
same_int (pos m) (pos n) = m == n
same_int (negsuc m) (negsuc n) = m == n
same_int _ _ = false

int_same : (a b : ℤ) → same_int a b ≡ true → a ≡ b
int_same (pos m) (pos n) h = ap pos ((Decides-eqb m n).0 h)
int_same (negsuc m) (negsuc n) h = ap negsuc ((Decides-eqb m n).0 h)
int_same a b h = absurd (false≢true h)

int_itself : (a : ℤ) → same_int a a ≡ true
int_itself (pos n) = (Decides-eqb n n).1 refl
int_itself (negsuc n) = (Decides-eqb n n).1 refl

abbrev same_ints : List ℤ → List ℤ → Bool
same_ints [] [] = true
same_ints (a ∷ as_) (b ∷ bs) = same_int a b && same_ints as_ bs
same_ints _ _ = false

ints_same : (as_ bs : List ℤ) → same_ints as_ bs ≡ true → as_ ≡ bs
ints_same [] [] h = refl
ints_same (a ∷ as_) (b ∷ bs) h =
    let p = and_parts (same_int a b) (same_ints as_ bs) h in
    ap (λ x. x ∷ as_) (int_same a b p.0) ∙ ap (λ x. b ∷ x) (ints_same as_ bs p.1)
ints_same as_ bs h = absurd (false≢true h)

ints_itself : (as_ : List ℤ) → same_ints as_ as_ ≡ true
ints_itself [] = refl
ints_itself (a ∷ as_) = and_from (same_int a a) (same_ints as_ as_) (int_itself a) (ints_itself as_)

abbrev same_bool : Bool → Bool → Bool
same_bool true true = true
same_bool false false = true
same_bool _ _ = false

bool_same : (a b : Bool) → same_bool a b ≡ true → a ≡ b
bool_same true true h = refl
bool_same false false h = refl
bool_same a b h = absurd (false≢true h)

bool_itself : (a : Bool) → same_bool a a ≡ true
bool_itself true = refl
bool_itself false = refl

abbrev same_job : TakenJob → TakenJob → Bool
same_job a b = same_request a.request b.request && (same_bool a.codes.any b.codes.any && same_ints a.codes.only b.codes.only)

job_same : (a b : TakenJob) → same_job a b ≡ true → a ≡ b
job_same a b h =
    let p = and_parts (same_request a.request b.request) (same_bool a.codes.any b.codes.any && same_ints a.codes.only b.codes.only) h in
    let q = and_parts (same_bool a.codes.any b.codes.any) (same_ints a.codes.only b.codes.only) p.1 in
    ap (λ (x : Request). record { request = x; codes = a.codes }) (request_same a.request b.request p.0)
    ∙ ap (λ (x : Bool). record { request = b.request; codes = record { any = x; only = a.codes.only } }) (bool_same a.codes.any b.codes.any q.0)
    ∙ ap (λ (x : List ℤ). record { request = b.request; codes = record { any = b.codes.any; only = x } }) (ints_same a.codes.only b.codes.only q.1)

job_itself : (a : TakenJob) → same_job a a ≡ true
job_itself a =
    and_from (same_request a.request a.request) (same_bool a.codes.any a.codes.any && same_ints a.codes.only a.codes.only) (request_itself a.request)
    (and_from (same_bool a.codes.any a.codes.any) (same_ints a.codes.only a.codes.only) (bool_itself a.codes.any) (ints_itself a.codes.only))

pub jobs_within : (xs ys : List TakenJob) → ((is : TakenJob → Bool) → count_by is xs ≤ count_by is ys) → (x : TakenJob) → Contains xs x → Contains ys x
jobs_within = within same_job job_itself job_same
