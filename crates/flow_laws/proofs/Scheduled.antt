-- Two fed journals whose answers agree: where the flow over one is clean, each entry of the other one is found in it.
use Rattle.std.proofs.Common.{◌≡◌, ℕ, true, not, ◌&&◌, ◌⊎◌, inl, inr, List, [], ◌∷◌, ◌++◌, Contains, Some, append_assoc, append-nil, sym, ap, ◌∙◌, subst, refl}
use Rattle.std.proofs.lemmas.Bool.{false≢true, and_parts}
use Rattle.wdl_base.specs.declared.answer.Answer.{Answer}
use Rattle.wdl_base.specs.declared.entry.Entry.{Entry}
use Rattle.wdl_base.specs.declared.place.Segment.{Segment}
use Rattle.wdl_base.specs.declared.request.Request.{Request}
use Rattle.wdl_value.specs.declared.env.Bind.{Bind}
use Rattle.wdl_value.specs.Tables.{answer_at, has_row, table}
use Rattle.wdl_typed.specs.Bodies.{Library}
use Rattle.wdl_typed.specs.Flow.{Flowing, is_clean, is_empty}
use Rattle.wdl_typed.specs.Journal.{fed_after, flow_over, is_asked}
use Rattle.flow_laws.specs.Below.{AnswersStay, IsBelow, IsWithin}
use Rattle.flow_laws.specs.Laws.{AnswersAgree, IsAnswered, Schedules}
use Rattle.flow_laws.proofs.Done.{clean_answer}
use Rattle.flow_laws.proofs.Fed.{asked_job, fed_are_jobs}
use Rattle.flow_laws.proofs.FlowJobs.{flow_jobs_answered, flow_jobs_differ}
use Rattle.flow_laws.proofs.JobLists.{one_job}
use Rattle.flow_laws.proofs.Longer.{longer_tables}
use Rattle.flow_laws.proofs.Rows.{entry_found, last_answer}
use Rattle.flow_laws.proofs.Elements.{contains_first, contains_later, none_within}

nothing_within : {A : Type 0} (xs ys : List A) → IsWithin xs ys → is_empty ys ≡ true → xs ≡ []
nothing_within [] ys h e = refl
nothing_within (x ∷ xs) [] h e = absurd (none_within x (h x (contains_first x xs)))
nothing_within (x ∷ xs) (y ∷ ys) h e = absurd (false≢true e)

module _ (lib : Library) (main : ℕ) (given : List Bind) (site : List ℕ) (j : List Entry) where
  abbrev over : List Entry → Flowing
  over = flow_over lib main given site

  module _ (clean : is_clean (over j) ≡ true)
      (longer : (i : List Entry) → AnswersStay (table i) (table j) → IsBelow (over i) (over j))
      (answered : IsAnswered (table j) (over j))
      (entries : (e : Entry) → Contains j e → Contains (over j).jobs e.request)
      (one : (x y : Request) → Contains (over j).jobs x → Contains (over j).jobs y → x.place ≡ y.place → x.attempt ≡ y.attempt → x ≡ y) where
    -- A job of the clean flow has the answer of an entry for that job.
    same_answer : (e : Entry) → ((d : Entry) → Contains j d → d.request ≡ e.request → d.answer ≡ e.answer) → Contains (over j).jobs e.request → answer_at (table j) e.request.place e.request.attempt ≡ Some e.answer
    same_answer e agree c =
        let a = clean_answer (table j) (over j) answered clean e.request c in
        let d = entry_found j e.request.place e.request.attempt a.0 a.1 in
        let request : d.0.request ≡ e.request = one d.0.request e.request (entries d.0 d.1) c d.2 d.3 in
        a.1 ∙ ap Some (sym d.4 ∙ agree d.0 d.1 request)

    pub found_after : (done es : List Entry) → fed_after over done es ≡ true → AnswersAgree j es → AnswersStay (table done) (table j) → AnswersStay (table (done ++ es)) (table j)
    found_after done [] h agree stay = subst (λ (x : List Entry). AnswersStay (table x) (table j)) (sym (append-nil done)) stay
    found_after done (e ∷ es) h agree stay =
        let p = and_parts (is_asked e.request (over done) && not (has_row (table done) e.request.place e.request.attempt)) (fed_after over (done ++ e ∷ []) es) h in
        let q = and_parts (is_asked e.request (over done)) (not (has_row (table done) e.request.place e.request.attempt)) p.0 in
        let job = (longer done stay).jobs e.request (asked_job e.request (over done).jobs q.0) in
        let here = same_answer e (λ d c same. agree d e c (contains_first e es) same) job in
        subst (λ (x : List Entry). AnswersStay (table x) (table j)) (append_assoc done (e ∷ []) es)
        (found_after (done ++ e ∷ []) es p.1 (λ d f c i same. agree d f c (contains_later e es f i) same) (λ place attempt x a. by_case here place attempt x (last_answer done e place attempt x a)))
      where
        by_case : answer_at (table j) e.request.place e.request.attempt ≡ Some e.answer → (place : List Segment) (attempt : ℕ) (x : Answer)
            → (answer_at (table done) place attempt ≡ Some x) ⊎ ((e.request.place ≡ place) × (e.request.attempt ≡ attempt) × (e.answer ≡ x)) → answer_at (table j) place attempt ≡ Some x
        by_case here place attempt x (inl a) = stay place attempt x a
        by_case here place attempt x (inr b) =
            ap (λ (p : List Segment). answer_at (table j) p attempt) (sym b.0) ∙ ap (answer_at (table j) e.request.place) (sym b.1) ∙ here ∙ ap Some b.2

pub schedules : Schedules
schedules lib checked h main given site j k fed_j fed_k agree clean =
    let over = flow_over lib main given site in
    let longer : (i : List Entry) → AnswersStay (table i) (table j) → IsBelow (over i) (over j) = λ i stay. longer_tables lib checked h site (table i) (table j) stay 25 main given [] in
    let answered = flow_jobs_answered lib checked h site (table j) 25 main given [] in
    let differ = flow_jobs_differ lib checked h site (table j) 25 main given [] in
    let stay = found_after lib main given site j clean longer answered (fed_are_jobs lib checked h main given site j fed_j) (one_job (over j).jobs differ) [] k fed_k agree (λ place attempt x e. cc) in
    let below = longer k stay in
    record {
      below = below;
      no_fault = nothing_within (over k).faults (over j).faults below.faults (and_parts (is_empty (over j).faults) (is_empty (over j).waits) clean).0;
      same = below.clean;
    }
