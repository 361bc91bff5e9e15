-- Jobs of which no place and attempt was taken twice are no more than the flow has.
use Rattle.std.proofs.Common.{◌≡◌, ◌≤◌, ℕ, true, cond, ◌⊎◌, inl, inr, List, [], ◌∷◌, ◌++◌, Contains, count_by, length, length-append, arith, sym, ap, subst, refl}
use Rattle.std.proofs.lemmas.List.{length-map}
use Rattle.std.proofs.lemmas.List.Elements.{Contains-append_cases, Contains-append_left, Contains-append_right}
use Rattle.wdl_base.specs.declared.request.Request.{Request}
use Rattle.flow_laws.specs.Below.{IsWithin}
use Rattle.flow_laws.proofs.Elements.{contains_first, contains_later, first_or_later, none_within}
use Rattle.flow_laws.proofs.JobLists.{job_at}
use Rattle.ready_core.specs.Cores.{is_taking, requests}
use Rattle.ready_core.specs.Inside.{AreTakenOnce}
use Rattle.ready_core.specs.Rows.{TakenJob}
use Rattle.ready_core.proofs.Counting.{count_cons, counts}
use Rattle.flow_laws.proofs.Done.{split_at}

-- ---- lists in which no element stands twice

abbrev Once : {A : Type 0} → List A → Type 0
Once [] = Unit {0}
Once (x ∷ xs) = (Contains xs x → ⊥) × Once xs

-- Each of the first list is in the second one, which is no shorter.
no_shorter : {A : Type 0} (xs ys : List A) → Once xs → IsWithin xs ys → length xs ≤ length ys
no_shorter [] ys h w = omega arith
no_shorter (x ∷ xs) ys h w =
    let p = split_at ys x (w x (contains_first x xs)) in
    let fewer = no_shorter xs (p.0 ++ p.1) h.1 (λ y c. left_out y c p.0 p.1 p.2) in
    omega (arith, fewer, ap length p.2, length-append p.0 (x ∷ p.1), length-append p.0 p.1)
  where
    left_out : (y : _) → Contains xs y → (as_ bs : List _) → ys ≡ as_ ++ x ∷ bs → Contains (as_ ++ bs) y
    left_out y c as_ bs e = by_case (Contains-append_cases as_ (x ∷ bs) y (subst (λ zs. Contains zs y) e (w y (contains_later x xs y c))))
      where
        behind : (x ≡ y) ⊎ Contains bs y → Contains (as_ ++ bs) y
        behind (inl same) = absurd (h.0 (subst (Contains xs) (sym same) c))
        behind (inr d) = Contains-append_right as_ bs y d

        by_case : Contains as_ y ⊎ Contains (x ∷ bs) y → Contains (as_ ++ bs) y
        by_case (inl d) = Contains-append_left as_ bs y d
        by_case (inr d) = behind (first_or_later x bs y d)

-- ---- requests of jobs

pub requested : (js : List TakenJob) (r : Request) → Contains (requests js) r → (j : TakenJob) × Contains js j × (j.request ≡ r)
requested [] r c = absurd (none_within r c)
requested (k ∷ js) r c = by_case (requested js r) (first_or_later k.request (requests js) r c)
  where
    by_case : (Contains (requests js) r → (j : TakenJob) × Contains js j × (j.request ≡ r)) → (k.request ≡ r) ⊎ Contains (requests js) r → (j : TakenJob) × Contains (k ∷ js) j × (j.request ≡ r)
    by_case rest (inl same) = (k, contains_first k js, same)
    by_case rest (inr d) = let p = rest d in (p.0, contains_later k js p.0 p.1, p.2)

pub request_in : (js : List TakenJob) (j : TakenJob) → Contains js j → Contains (requests js) j.request
request_in [] j c = absurd (none_within j c)
request_in (k ∷ js) j c = by_case (request_in js j) (first_or_later k js j c)
  where
    by_case : (Contains js j → Contains (requests js) j.request) → (k ≡ j) ⊎ Contains js j → Contains (requests (k ∷ js)) j.request
    by_case rest (inl same) = subst (λ (x : TakenJob). Contains (requests (k ∷ js)) x.request) same (contains_first k.request (requests js))
    by_case rest (inr d) = contains_later k.request (requests js) j.request (rest d)

pub taking_itself : (j : TakenJob) (r : Request) → j.request ≡ r → is_taking r j ≡ true
taking_itself j r e = job_at j.request r.place r.attempt (ap (λ (x : Request). x.place) e) (ap (λ (x : Request). x.attempt) e)

requests_once : (js : List TakenJob) → ((r : Request) → count_by (is_taking r) js ≤ 1) → Once (requests js)
requests_once [] h = tt
requests_once (j ∷ js) h = (
  λ c. let q = requested js j.request c in
      omega (
        arith,
        h j.request,
        count_cons (is_taking j.request) j js,
        ap (λ b. cond {A = ℕ} b 1 0) (taking_itself j j.request refl),
        counts (is_taking j.request) js q.0 q.1 (taking_itself q.0 j.request q.2),
      ),
  requests_once js (λ r. omega (arith, h r, count_cons (is_taking r) j js)),
)

pub no_more_taken : (jobs : List Request) (js : List TakenJob) → AreTakenOnce js → ((j : TakenJob) → Contains js j → Contains jobs j.request) → length js ≤ length jobs
unfolding AreTakenOnce
no_more_taken jobs js once among =
    let fewer = no_shorter (requests js) jobs (requests_once js once) (λ x c. let p = requested js x c in subst (Contains jobs) p.2 (among p.0 p.1)) in
    omega (arith, fewer, length-map js (λ (j : TakenJob). j.request))
