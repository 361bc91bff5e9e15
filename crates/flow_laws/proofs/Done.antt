-- Where the flow over a fed journal is clean, its jobs are the requests of the entries.
use Rattle.std.proofs.Common.{◌≡◌, ◌≤◌, true, not, ◌⊎◌, inl, inr, List, [], ◌∷◌, ◌++◌, map, Contains, Option, Some, None, is_some, length, length-append, arith, sym, ap, ◌∙◌, subst, refl}
use Rattle.std.proofs.lemmas.Bool.{false≢true, and_parts, not-true, or_left, or_right}
use Rattle.std.proofs.lemmas.List.{length-map}
use Rattle.std.proofs.lemmas.List.Elements.{Contains-append_cases, Contains-append_left, Contains-append_right}
use Rattle.wdl_base.specs.declared.answer.Answer.{Answer}
use Rattle.wdl_base.specs.declared.entry.Entry.{Entry}
use Rattle.wdl_base.specs.declared.place.Segment.{Segment}
use Rattle.wdl_base.specs.declared.request.Request.{Request}
use Rattle.wdl_value.specs.Tables.{Row, answer_at, has_row, is_at, is_journal, row_of, table}
use Rattle.wdl_typed.specs.Flow.{Flowing, is_clean, is_empty}
use Rattle.wdl_typed.specs.Journal.{flow_over}
use Rattle.flow_laws.specs.Below.{IsWithin}
use Rattle.flow_laws.specs.Jobs.{has_job, jobs_differ}
use Rattle.flow_laws.specs.Laws.{CleanAreDone, IsAnswered, IsDone, is_answered}
use Rattle.flow_laws.proofs.Fed.{fed_are_jobs, fed_are_journals}
use Rattle.flow_laws.proofs.FlowJobs.{flow_jobs_answered, flow_jobs_differ}
use Rattle.flow_laws.proofs.JobLists.{has_the_job, one_job}
use Rattle.flow_laws.proofs.Rows.{at_itself, entry_found}
use Rattle.flow_laws.proofs.Elements.{contains_first, contains_later, first_or_later, none_within}

-- ---- answers of a clean flow

none_waits : (w : List (List Segment)) (q : List Segment) → is_empty w ≡ true → Contains w q → ⊥
none_waits [] q e c = none_within q c
none_waits (v ∷ w) q e c = false≢true e

-- A job of a clean flow has an answer.
pub clean_answer : (rows : List Row) (f : Flowing) → IsAnswered rows f → is_clean f ≡ true → (x : Request) → Contains f.jobs x → (a : Answer) × (answer_at rows x.place x.attempt ≡ Some a)
clean_answer rows f answered clean x c = by_case (answered.jobs x c)
  where
    by_option : (o : Option Answer) → is_some o ≡ true → (a : Answer) × (o ≡ Some a)
    by_option (Some a) h = (a, refl)
    by_option None h = absurd (false≢true h)

    by_case : (is_answered rows x ≡ true) ⊎ Contains f.waits x.place → (a : Answer) × (answer_at rows x.place x.attempt ≡ Some a)
    by_case (inl h) = by_option (answer_at rows x.place x.attempt) h
    by_case (inr w) = absurd (none_waits f.waits x.place (and_parts (is_empty f.faults) (is_empty f.waits) clean).1 w)

-- ---- lists in which no element stands twice

abbrev Once : {A : Type 0} → List A → Type 0
Once [] = Unit {0}
Once (x ∷ xs) = (Contains xs x → ⊥) × Once xs

pub split_at : {A : Type 0} (xs : List A) (x : A) → Contains xs x → (as_ : List A) × (bs : List A) × (xs ≡ as_ ++ x ∷ bs)
split_at [] x c = absurd (none_within x c)
split_at (y ∷ xs) x c = by_case (split_at xs x) (first_or_later y xs x c)
  where
    by_case : (Contains xs x → (as_ : List _) × (bs : List _) × (xs ≡ as_ ++ x ∷ bs)) → (y ≡ x) ⊎ Contains xs x → (as_ : List _) × (bs : List _) × (y ∷ xs ≡ as_ ++ x ∷ bs)
    by_case rest (inl same) = ([], xs, ap (λ z. z ∷ xs) same)
    by_case rest (inr d) = let p = rest d in (y ∷ p.0, p.1, ap (λ zs. y ∷ zs) p.2)

-- Each of the first list is in the second one, which is no shorter.
no_shorter : {A : Type 0} (xs ys : List A) → Once xs → IsWithin xs ys → length xs ≤ length ys
no_shorter [] ys h w = omega arith
no_shorter (x ∷ xs) ys h w =
    let p = split_at ys x (w x (contains_first x xs)) in
    let fewer = no_shorter xs (p.0 ++ p.1) h.1 (λ y c. left_out y c p.0 p.1 p.2) in
    omega (arith, fewer, ap length p.2, length-append p.0 (x ∷ p.1), length-append p.0 p.1)
  where
    left_out : (y : _) → Contains xs y → (as_ bs : List _) → ys ≡ as_ ++ x ∷ bs → Contains (as_ ++ bs) y
    left_out y c as_ bs e = by_case (Contains-append_cases as_ (x ∷ bs) y (subst (λ zs. Contains zs y) e (w y (contains_later x xs y c))))
      where
        behind : (x ≡ y) ⊎ Contains bs y → Contains (as_ ++ bs) y
        behind (inl same) = absurd (h.0 (subst (Contains xs) (sym same) c))
        behind (inr d) = Contains-append_right as_ bs y d

        by_case : Contains as_ y ⊎ Contains (x ∷ bs) y → Contains (as_ ++ bs) y
        by_case (inl d) = Contains-append_left as_ bs y d
        by_case (inr d) = behind (first_or_later x bs y d)

jobs_once : (rs : List Request) → jobs_differ rs ≡ true → Once rs
jobs_once [] h = tt
jobs_once (r ∷ rs) h =
    let p = and_parts (not (has_job rs r.place r.attempt)) (jobs_differ rs) h in
    (λ c. false≢true (sym (not-true (has_job rs r.place r.attempt) p.0) ∙ has_the_job rs r c r.place r.attempt refl refl), jobs_once rs p.1)

-- ---- the requests of a journal

abbrev requests : List Entry → List Request
requests = map (λ (e : Entry). e.request)

requested : (j : List Entry) (x : Request) → Contains (requests j) x → (e : Entry) × Contains j e × (e.request ≡ x)
requested [] x c = absurd (none_within x c)
requested (e ∷ j) x c = by_case (requested j x) (first_or_later e.request (requests j) x c)
  where
    by_case : (Contains (requests j) x → (d : Entry) × Contains j d × (d.request ≡ x)) → (e.request ≡ x) ⊎ Contains (requests j) x → (d : Entry) × Contains (e ∷ j) d × (d.request ≡ x)
    by_case rest (inl same) = (e, contains_first e j, same)
    by_case rest (inr d) = let p = rest d in (p.0, contains_later e j p.0 p.1, p.2)

request_of : (j : List Entry) (e : Entry) → Contains j e → Contains (requests j) e.request
request_of [] e c = absurd (none_within e c)
request_of (d ∷ j) e c = by_case (request_of j e) (first_or_later d j e c)
  where
    by_case : (Contains j e → Contains (requests j) e.request) → (d ≡ e) ⊎ Contains j e → Contains (requests (d ∷ j)) e.request
    by_case rest (inl same) = subst (λ (x : Entry). Contains (requests (d ∷ j)) x.request) same (contains_first d.request (requests j))
    by_case rest (inr i) = contains_later d.request (requests j) e.request (rest i)

row_there : (j : List Entry) (r : Request) → Contains (requests j) r → has_row (table j) r.place r.attempt ≡ true
row_there [] r c = absurd (none_within r c)
row_there (e ∷ j) r c = by_case (row_there j r) (first_or_later e.request (requests j) r c)
  where
    by_case : (Contains (requests j) r → has_row (table j) r.place r.attempt ≡ true) → (e.request ≡ r) ⊎ Contains (requests j) r → has_row (table (e ∷ j)) r.place r.attempt ≡ true
    by_case rest (inl same) =
        subst (λ (x : Request). has_row (table (e ∷ j)) x.place x.attempt ≡ true) same
        (or_left (is_at e.request.place e.request.attempt (row_of e)) (has_row (table j) e.request.place e.request.attempt) (at_itself (row_of e)))
    by_case rest (inr d) = or_right (is_at r.place r.attempt (row_of e)) (has_row (table j) r.place r.attempt) (rest d)

requests_once : (j : List Entry) → is_journal j ≡ true → Once (requests j)
requests_once [] h = tt
requests_once (e ∷ j) h =
    let p = and_parts (not (has_row (table j) e.request.place e.request.attempt)) (is_journal j) h in
    (λ c. false≢true (sym (not-true (has_row (table j) e.request.place e.request.attempt) p.0) ∙ row_there j e.request c), requests_once j p.1)

-- Jobs that are the requests of a journal's entries are as many.
counted : (jobs : List Request) (j : List Entry) → jobs_differ jobs ≡ true → is_journal j ≡ true → ((x : Request) → Contains jobs x → (e : Entry) × Contains j e × (e.request ≡ x))
    → ((e : Entry) → Contains j e → Contains jobs e.request) → length jobs ≡ length j
counted jobs j differ once entries asked =
    let forth = no_shorter jobs (requests j) (jobs_once jobs differ) (λ x c. let p = entries x c in subst (Contains (requests j)) p.2 (request_of j p.0 p.1)) in
    let back = no_shorter (requests j) jobs (requests_once j once) (λ x c. let p = requested j x c in subst (Contains jobs) p.2 (asked p.0 p.1)) in
    omega (arith, forth, back, length-map j (λ (e : Entry). e.request))

-- the entry of each job of a clean flow
entry_of : (j : List Entry) (f : Flowing) → IsAnswered (table j) f → jobs_differ f.jobs ≡ true → ((e : Entry) → Contains j e → Contains f.jobs e.request) → is_clean f ≡ true
    → (x : Request) → Contains f.jobs x → (e : Entry) × Contains j e × (e.request ≡ x)
entry_of j f answered differ asked clean x c =
    let a = clean_answer (table j) f answered clean x c in
    let d = entry_found j x.place x.attempt a.0 a.1 in
    (d.0, d.1, one_job f.jobs differ d.0.request x (asked d.0 d.1) c d.2 d.3)

done : (j : List Entry) (f : Flowing) → IsAnswered (table j) f → jobs_differ f.jobs ≡ true → ((e : Entry) → Contains j e → Contains f.jobs e.request) → is_journal j ≡ true → is_clean f ≡ true → IsDone j f
done j f answered differ asked once clean =
    let entries = entry_of j f answered differ asked clean in
    record { entries = entries; count = counted f.jobs j differ once entries asked }

pub clean_are_done : CleanAreDone
clean_are_done lib checked h main given site journal fed clean =
    done journal (flow_over lib main given site journal) (flow_jobs_answered lib checked h site (table journal) 25 main given []) (flow_jobs_differ lib checked h site (table journal) 25 main given [])
    (fed_are_jobs lib checked h main given site journal fed) (fed_are_journals lib main given site journal fed) clean
