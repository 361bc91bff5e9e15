-- Rows of tables, and entries of journals, by place and attempt.
use Rattle.std.proofs.Common.{◌≡◌, ℕ, Bool, true, false, cond, not, ◌||◌, ◌==◌, ◌⊎◌, inl, inr, List, [], ◌∷◌, ◌++◌, Contains, Some, None, sym, ap, ◌∙◌, subst, refl}
use Rattle.std.proofs.lemmas.Bool.{false≢true, and_from, and_parts, false_from_ne_true, not-true, not_from_false, or_from, or_left, or_parts, or_right}
use Rattle.std.proofs.lemmas.Bool.Decides.{Decides-eqb}
use Rattle.std.proofs.Math.Bool.{or_assoc}
use Rattle.wdl_base.specs.declared.answer.Answer.{Answer}
use Rattle.wdl_base.specs.declared.entry.Entry.{Entry}
use Rattle.wdl_base.specs.declared.place.Segment.{Segment}
use Rattle.wdl_base.specs.Same.{same_place}
use Rattle.wdl_value.specs.Tables.{Row, answer_at, has_row, is_at, is_journal, is_table, row_of, table}
use Rattle.flow_laws.specs.Below.{AnswersStay}
use Rattle.flow_laws.specs.Laws.{LongerRows}
use Rattle.flow_laws.proofs.SameRequests.{place_itself, place_same}
use Rattle.flow_laws.proofs.Elements.{contains_first, contains_later, first_or_later, none_within}

-- ---- one row

pub at_same : (place : List Segment) (attempt : ℕ) (r : Row) → is_at place attempt r ≡ true → (r.place ≡ place) × (r.attempt ≡ attempt)
at_same place attempt r h = let p = and_parts (same_place r.place place) (r.attempt == attempt) h in (place_same r.place place p.0, (Decides-eqb r.attempt attempt).0 p.1)

pub at_itself : (r : Row) → is_at r.place r.attempt r ≡ true
at_itself r = and_from (same_place r.place r.place) (r.attempt == r.attempt) (place_itself r.place) ((Decides-eqb r.attempt r.attempt).1 refl)

pub at_turned : (r s : Row) → is_at r.place r.attempt s ≡ true → is_at s.place s.attempt r ≡ true
at_turned r s h =
    let p = at_same r.place r.attempt s h in
    and_from (same_place r.place s.place) (r.attempt == s.attempt) (ap (same_place r.place) p.0 ∙ place_itself r.place) ((Decides-eqb r.attempt s.attempt).1 (sym p.1))

-- ---- rows

pub has_the_row : (rs : List Row) (r : Row) → Contains rs r → (place : List Segment) (attempt : ℕ) → is_at place attempt r ≡ true → has_row rs place attempt ≡ true
has_the_row [] r c place attempt e = absurd (none_within r c)
has_the_row (s ∷ rs) r c place attempt e = by_case (λ d. has_the_row rs r d place attempt e) (first_or_later s rs r c)
  where
    by_case : (Contains rs r → has_row rs place attempt ≡ true) → (s ≡ r) ⊎ Contains rs r → has_row (s ∷ rs) place attempt ≡ true
    by_case rest (inl same) = or_left (is_at place attempt s) (has_row rs place attempt) (ap (is_at place attempt) same ∙ e)
    by_case rest (inr d) = or_right (is_at place attempt s) (has_row rs place attempt) (rest d)

-- a row's answer, where no two rows have one place and attempt
answer_of : (rs : List Row) → is_table rs ≡ true → (r : Row) → Contains rs r → answer_at rs r.place r.attempt ≡ Some r.answer
answer_of [] h r c = absurd (none_within r c)
answer_of (s ∷ rs) h r c =
    let p = and_parts (not (has_row rs s.place s.attempt)) (is_table rs) h in
    by_case (not-true (has_row rs s.place s.attempt) p.0) (answer_of rs p.1 r) (first_or_later s rs r c)
  where
    by_case : has_row rs s.place s.attempt ≡ false → (Contains rs r → answer_at rs r.place r.attempt ≡ Some r.answer) → (s ≡ r) ⊎ Contains rs r → answer_at (s ∷ rs) r.place r.attempt ≡ Some r.answer
    by_case n rest (inl same) = subst (λ (t : Row). answer_at (s ∷ rs) t.place t.attempt ≡ Some t.answer) same (ap (λ b. cond b (Some s.answer) (answer_at rs s.place s.attempt)) (at_itself s))
    by_case n rest (inr d) =
        let other : is_at r.place r.attempt s ≡ false = false_from_ne_true (is_at r.place r.attempt s) (λ e. false≢true (sym n ∙ has_the_row rs r d s.place s.attempt (at_turned r s e))) in
        ap (λ b. cond b (Some s.answer) (answer_at rs r.place r.attempt)) other ∙ rest d

-- the row of an answer
row_found : (rs : List Row) (place : List Segment) (attempt : ℕ) (x : Answer) → answer_at rs place attempt ≡ Some x → (r : Row) × Contains rs r × (r.place ≡ place) × (r.attempt ≡ attempt) × (r.answer ≡ x)
row_found [] place attempt x h = cc
row_found (s ∷ rs) place attempt x h = by_test (row_found rs place attempt x) (is_at place attempt s) refl h
  where
    by_test : (answer_at rs place attempt ≡ Some x → (r : Row) × Contains rs r × (r.place ≡ place) × (r.attempt ≡ attempt) × (r.answer ≡ x)) → (b : Bool) → is_at place attempt s ≡ b
        → cond b (Some s.answer) (answer_at rs place attempt) ≡ Some x → (r : Row) × Contains (s ∷ rs) r × (r.place ≡ place) × (r.attempt ≡ attempt) × (r.answer ≡ x)
    by_test rest true e f = let p = at_same place attempt s e in let same : s.answer ≡ x = cc in (s, contains_first s rs, p.0, p.1, same)
    by_test rest false e f = let q = rest f in (q.0, contains_later s rs q.0 q.1, q.2, q.3, q.4)

pub longer_rows : LongerRows
longer_rows a b h within place attempt x e =
    let q = row_found a place attempt x e in
    ap (λ (p : List Segment). answer_at b p attempt) (sym q.2) ∙ ap (answer_at b q.0.place) (sym q.3) ∙ answer_of b h q.0 (within q.0 q.1) ∙ ap Some q.4

-- ---- journals

-- Entries behind a journal change no answer.
pub answers_stay : (done more : List Entry) → AnswersStay (table done) (table (done ++ more))
answers_stay [] more place attempt x h = cc
answers_stay (e ∷ done) more place attempt x h = by_test (answers_stay done more place attempt x) (is_at place attempt (row_of e)) h
  where
    by_test : (answer_at (table done) place attempt ≡ Some x → answer_at (table (done ++ more)) place attempt ≡ Some x) → (b : Bool)
        → cond b (Some e.answer) (answer_at (table done) place attempt) ≡ Some x → cond b (Some e.answer) (answer_at (table (done ++ more)) place attempt) ≡ Some x
    by_test rest true f = f
    by_test rest false f = rest f

-- the entry of an answer
pub entry_found : (j : List Entry) (place : List Segment) (attempt : ℕ) (x : Answer) → answer_at (table j) place attempt ≡ Some x
    → (d : Entry) × Contains j d × (d.request.place ≡ place) × (d.request.attempt ≡ attempt) × (d.answer ≡ x)
entry_found [] place attempt x h = cc
entry_found (e ∷ j) place attempt x h = by_test (entry_found j place attempt x) (is_at place attempt (row_of e)) refl h
  where
    by_test : (answer_at (table j) place attempt ≡ Some x → (d : Entry) × Contains j d × (d.request.place ≡ place) × (d.request.attempt ≡ attempt) × (d.answer ≡ x))
        → (b : Bool) → is_at place attempt (row_of e) ≡ b → cond b (Some e.answer) (answer_at (table j) place attempt) ≡ Some x
        → (d : Entry) × Contains (e ∷ j) d × (d.request.place ≡ place) × (d.request.attempt ≡ attempt) × (d.answer ≡ x)
    by_test rest true i f = let p = at_same place attempt (row_of e) i in let same : e.answer ≡ x = cc in (e, contains_first e j, p.0, p.1, same)
    by_test rest false i f = let q = rest f in (q.0, contains_later e j q.0 q.1, q.2, q.3, q.4)

-- An answer is one of the entries before the last one, or that of the last one.
pub last_answer : (done : List Entry) (e : Entry) (place : List Segment) (attempt : ℕ) (x : Answer) → answer_at (table (done ++ e ∷ [])) place attempt ≡ Some x
    → (answer_at (table done) place attempt ≡ Some x) ⊎ ((e.request.place ≡ place) × (e.request.attempt ≡ attempt) × (e.answer ≡ x))
last_answer [] e place attempt x h = by_test (is_at place attempt (row_of e)) refl h
  where
    by_test : (b : Bool) → is_at place attempt (row_of e) ≡ b → cond b (Some e.answer) None ≡ Some x → (answer_at [] place attempt ≡ Some x) ⊎ ((e.request.place ≡ place) × (e.request.attempt ≡ attempt) × (e.answer ≡ x))
    by_test true i f = let p = at_same place attempt (row_of e) i in let same : e.answer ≡ x = cc in inr (p.0, p.1, same)
    by_test false i f = cc
last_answer (d ∷ done) e place attempt x h = by_test (last_answer done e place attempt x) (is_at place attempt (row_of d)) h
  where
    by_test : (answer_at (table (done ++ e ∷ [])) place attempt ≡ Some x → (answer_at (table done) place attempt ≡ Some x) ⊎ ((e.request.place ≡ place) × (e.request.attempt ≡ attempt) × (e.answer ≡ x)))
        → (b : Bool) → cond b (Some d.answer) (answer_at (table (done ++ e ∷ [])) place attempt) ≡ Some x
        → (cond b (Some d.answer) (answer_at (table done) place attempt) ≡ Some x) ⊎ ((e.request.place ≡ place) × (e.request.attempt ≡ attempt) × (e.answer ≡ x))
    by_test rest true f = inl f
    by_test rest false f = rest f

has_entry : (done more : List Entry) (place : List Segment) (attempt : ℕ) → has_row (table (done ++ more)) place attempt ≡ (has_row (table done) place attempt || has_row (table more) place attempt)
has_entry [] more place attempt = refl
has_entry (e ∷ done) more place attempt =
    ap (λ b. is_at place attempt (row_of e) || b) (has_entry done more place attempt) ∙ sym (or_assoc (is_at place attempt (row_of e)) (has_row (table done) place attempt) (has_row (table more) place attempt))

-- an entry more, of a new place and attempt
pub journal_push : (done : List Entry) (e : Entry) → is_journal done ≡ true → has_row (table done) e.request.place e.request.attempt ≡ false → is_journal (done ++ e ∷ []) ≡ true
journal_push [] e h n = refl
journal_push (d ∷ done) e h n =
    let p = and_parts (not (has_row (table done) d.request.place d.request.attempt)) (is_journal done) h in
    let q = or_parts (is_at e.request.place e.request.attempt (row_of d)) (has_row (table done) e.request.place e.request.attempt) n in
    let turned : is_at d.request.place d.request.attempt (row_of e) ≡ false = false_from_ne_true (is_at d.request.place d.request.attempt (row_of e)) (λ i. false≢true (sym q.0 ∙ at_turned (row_of d) (row_of e) i)) in
    let apart = has_entry done (e ∷ []) d.request.place d.request.attempt
    ∙ or_from (has_row (table done) d.request.place d.request.attempt) (is_at d.request.place d.request.attempt (row_of e) || false) (not-true (has_row (table done) d.request.place d.request.attempt) p.0)
    (or_from (is_at d.request.place d.request.attempt (row_of e)) false turned refl) in
    and_from (not (has_row (table (done ++ e ∷ [])) d.request.place d.request.attempt)) (is_journal (done ++ e ∷ [])) (not_from_false (has_row (table (done ++ e ∷ [])) d.request.place d.request.attempt) apart)
    (journal_push done e p.1 q.1)

-- an entry of a journal, and those before it
pub journal_middle : (done : List Entry) (e : Entry) (more : List Entry) → is_journal (done ++ e ∷ more) ≡ true → has_row (table done) e.request.place e.request.attempt ≡ false
journal_middle [] e more h = refl
journal_middle (d ∷ done) e more h =
    let p = and_parts (not (has_row (table (done ++ e ∷ more)) d.request.place d.request.attempt)) (is_journal (done ++ e ∷ more)) h in
    let apart = sym (has_entry done (e ∷ more) d.request.place d.request.attempt) ∙ not-true (has_row (table (done ++ e ∷ more)) d.request.place d.request.attempt) p.0 in
    let q = or_parts (has_row (table done) d.request.place d.request.attempt) (is_at d.request.place d.request.attempt (row_of e) || has_row (table more) d.request.place d.request.attempt) apart in
    let here = (or_parts (is_at d.request.place d.request.attempt (row_of e)) (has_row (table more) d.request.place d.request.attempt) q.1).0 in
    or_from (is_at e.request.place e.request.attempt (row_of d)) (has_row (table done) e.request.place e.request.attempt)
    (false_from_ne_true (is_at e.request.place e.request.attempt (row_of d)) (λ i. false≢true (sym here ∙ at_turned (row_of e) (row_of d) i)))
    (journal_middle done e more p.1)
