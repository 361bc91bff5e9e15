-- Journals whose entries were asked for: as they grow, what was asked for is still asked for.
use Rattle.std.proofs.Common.{◌≡◌, ℕ, true, not, ◌&&◌, ◌⊎◌, inl, inr, List, [], ◌∷◌, ◌++◌, Contains, append_assoc, append-nil, sym, ap, ◌∙◌, subst, refl}
use Rattle.std.specs.List.{list_all, list_any}
use Rattle.std.proofs.lemmas.Bool.{false≢true, and_from, and_parts, not-true, not_from_false, or_cases, or_left, or_right}
use Rattle.std.proofs.Math.Bool.{and_assoc}
use Rattle.wdl_base.specs.declared.entry.Entry.{Entry}
use Rattle.wdl_base.specs.declared.request.Request.{Request}
use Rattle.wdl_base.specs.Same.{same_request}
use Rattle.wdl_value.specs.declared.env.Bind.{Bind}
use Rattle.wdl_value.specs.Tables.{has_row, is_journal, table}
use Rattle.wdl_typed.specs.Bodies.{Library}
use Rattle.wdl_typed.specs.Flow.{Flowing}
use Rattle.wdl_typed.specs.Journal.{fed, fed_after, flow_over, is_asked}
use Rattle.flow_laws.specs.Below.{IsBelow}
use Rattle.flow_laws.specs.Laws.{FedAreJobs, FedAreJournals, FedByMany, FedByOne, JournalsGrow}
use Rattle.flow_laws.proofs.Longer.{longer_tables}
use Rattle.flow_laws.proofs.Rows.{answers_stay, journal_middle, journal_push}
use Rattle.flow_laws.proofs.SameRequests.{request_itself, request_same}
use Rattle.flow_laws.proofs.Elements.{contains_first, contains_later, first_or_later, none_within}

pub journals_grow : JournalsGrow
journals_grow lib checked h main given site journal more = longer_tables lib checked h site (table journal) (table (journal ++ more)) (answers_stay journal more) 25 main given []

-- ---- what is asked for

pub asked_job : (r : Request) (rs : List Request) → list_any (same_request r) rs ≡ true → Contains rs r
asked_job r [] h = absurd (false≢true h)
asked_job r (x ∷ rs) h = by_case (asked_job r rs) (or_cases (same_request r x) (list_any (same_request r) rs) h)
  where
    by_case : (list_any (same_request r) rs ≡ true → Contains rs r) → (same_request r x ≡ true) ⊎ (list_any (same_request r) rs ≡ true) → Contains (x ∷ rs) r
    by_case rest (inl e) = subst (Contains (x ∷ rs)) (sym (request_same r x e)) (contains_first x rs)
    by_case rest (inr e) = contains_later x rs r (rest e)

pub job_asked : (r : Request) (rs : List Request) → Contains rs r → list_any (same_request r) rs ≡ true
job_asked r [] c = absurd (none_within r c)
job_asked r (x ∷ rs) c = by_case (job_asked r rs) (first_or_later x rs r c)
  where
    by_case : (Contains rs r → list_any (same_request r) rs ≡ true) → (x ≡ r) ⊎ Contains rs r → list_any (same_request r) (x ∷ rs) ≡ true
    by_case rest (inl same) = or_left (same_request r x) (list_any (same_request r) rs) (ap (same_request r) same ∙ request_itself r)
    by_case rest (inr d) = or_right (same_request r x) (list_any (same_request r) rs) (rest d)

-- ---- one list of entries behind another one

pub fed_append : (over : List Entry → Flowing) (done xs ys : List Entry) → fed_after over done (xs ++ ys) ≡ (fed_after over done xs && fed_after over (done ++ xs) ys)
fed_append over done [] ys = ap (λ (d : List Entry). fed_after over d ys) (sym (append-nil done))
fed_append over done (e ∷ xs) ys =
    ap (λ b. is_asked e.request (over done) && not (has_row (table done) e.request.place e.request.attempt) && b)
    (fed_append over (done ++ e ∷ []) xs ys ∙ ap (λ (d : List Entry). fed_after over (done ++ e ∷ []) xs && fed_after over d ys) (append_assoc done (e ∷ []) xs))
    ∙ sym (and_assoc (is_asked e.request (over done) && not (has_row (table done) e.request.place e.request.attempt)) (fed_after over (done ++ e ∷ []) xs) (fed_after over (done ++ e ∷ xs) ys))

journal_after : (over : List Entry → Flowing) (done es : List Entry) → fed_after over done es ≡ true → is_journal done ≡ true → is_journal (done ++ es) ≡ true
journal_after over done [] h j = ap is_journal (append-nil done) ∙ j
journal_after over done (e ∷ es) h j =
    let p = and_parts (is_asked e.request (over done) && not (has_row (table done) e.request.place e.request.attempt)) (fed_after over (done ++ e ∷ []) es) h in
    let q = and_parts (is_asked e.request (over done)) (not (has_row (table done) e.request.place e.request.attempt)) p.0 in
    ap is_journal (sym (append_assoc done (e ∷ []) es))
    ∙ journal_after over (done ++ e ∷ []) es p.1 (journal_push done e j (not-true (has_row (table done) e.request.place e.request.attempt) q.1))

pub fed_are_journals : FedAreJournals
fed_are_journals lib main given site journal h = journal_after (flow_over lib main given site) [] journal h refl

pub fed_by_one : FedByOne
fed_by_one lib main given site journal e h asked free =
    fed_append (flow_over lib main given site) [] journal (e ∷ [])
    ∙ and_from (fed lib main given site journal) (fed_after (flow_over lib main given site) journal (e ∷ [])) h
    (and_from (is_asked e.request (flow_over lib main given site journal) && not (has_row (table journal) e.request.place e.request.attempt)) true
    (and_from (is_asked e.request (flow_over lib main given site journal)) (not (has_row (table journal) e.request.place e.request.attempt)) asked (not_from_false (has_row (table journal) e.request.place e.request.attempt) free)) refl)

-- ---- jobs of a flow whose journal grows

module _ (lib : Library) (main : ℕ) (given : List Bind) (site : List ℕ) (grow : (journal more : List Entry) → IsBelow (flow_over lib main given site journal) (flow_over lib main given site (journal ++ more))) where
  abbrev over : List Entry → Flowing
  over = flow_over lib main given site

  jobs_after : (done es : List Entry) → fed_after over done es ≡ true → (e : Entry) → Contains es e → Contains (over (done ++ es)).jobs e.request
  jobs_after done [] h e c = absurd (none_within e c)
  jobs_after done (d ∷ es) h e c =
      let p = and_parts (is_asked d.request (over done) && not (has_row (table done) d.request.place d.request.attempt)) (fed_after over (done ++ d ∷ []) es) h in
      let q = and_parts (is_asked d.request (over done)) (not (has_row (table done) d.request.place d.request.attempt)) p.0 in
      by_case (asked_job d.request (over done).jobs q.0) (jobs_after (done ++ d ∷ []) es p.1 e) (first_or_later d es e c)
    where
      by_case : Contains (over done).jobs d.request → (Contains es e → Contains (over ((done ++ d ∷ []) ++ es)).jobs e.request) → (d ≡ e) ⊎ Contains es e → Contains (over (done ++ d ∷ es)).jobs e.request
      by_case job rest (inl same) = (grow done (d ∷ es)).jobs e.request (subst (λ (x : Entry). Contains (over done).jobs x.request) same job)
      by_case job rest (inr i) = subst (λ (j : List Entry). Contains (over j).jobs e.request) (append_assoc done (d ∷ []) es) (rest i)

  -- Each is a job of the flow over the journal, and so of that over the journal with the entries before it.
  many_after : (journal done es : List Entry) → list_all (λ (e : Entry). is_asked e.request (over journal)) es ≡ true → is_journal ((journal ++ done) ++ es) ≡ true → fed_after over (journal ++ done) es ≡ true
  many_after journal done [] h j = refl
  many_after journal done (e ∷ es) h j =
      let p = and_parts (is_asked e.request (over journal)) (list_all (λ (x : Entry). is_asked x.request (over journal)) es) h in
      let asked = job_asked e.request (over (journal ++ done)).jobs ((grow journal done).jobs e.request (asked_job e.request (over journal).jobs p.0)) in
      let free = journal_middle (journal ++ done) e es j in
      let moved : (journal ++ done) ++ e ∷ [] ≡ journal ++ (done ++ e ∷ []) = append_assoc journal done (e ∷ []) in
      let all : is_journal ((journal ++ (done ++ e ∷ [])) ++ es) ≡ true = ap (λ (x : List Entry). is_journal (x ++ es)) (sym moved) ∙ ap is_journal (append_assoc (journal ++ done) (e ∷ []) es) ∙ j in
      and_from (is_asked e.request (over (journal ++ done)) && not (has_row (table (journal ++ done)) e.request.place e.request.attempt)) (fed_after over ((journal ++ done) ++ e ∷ []) es)
      (and_from (is_asked e.request (over (journal ++ done))) (not (has_row (table (journal ++ done)) e.request.place e.request.attempt)) asked (not_from_false (has_row (table (journal ++ done)) e.request.place e.request.attempt) free))
      (ap (λ (x : List Entry). fed_after over x es) moved ∙ many_after journal (done ++ e ∷ []) es p.1 all)

pub fed_are_jobs : FedAreJobs
fed_are_jobs lib checked h main given site journal fed e c = jobs_after lib main given site (journals_grow lib checked h main given site) [] journal fed e c

pub fed_by_many : FedByMany
fed_by_many lib checked h main given site journal more j asked distinct =
    let same = append-nil journal in
    let all = many_after lib main given site (journals_grow lib checked h main given site) journal [] more asked (ap (λ (x : List Entry). is_journal (x ++ more)) same ∙ distinct) in
    fed_append (flow_over lib main given site) [] journal more
    ∙ and_from (fed lib main given site journal) (fed_after (flow_over lib main given site) journal more) j (ap (λ (x : List Entry). fed_after (flow_over lib main given site) x more) (sym same) ∙ all)
