-- One walk: what is read first of the documents of a path is read first of all of them.
use Rattle.std.proofs.Common.{◌≡◌, ℕ, suc, ◌<◌, ◌≤◌, List, [], ◌∷◌, ◌++◌, length, Ok, Err, refl, sym, ap, ◌∙◌, subst, arith, inl, inr, append_assoc, append-nil, length-append}
use Rattle.wdl_base.specs.declared.span.Span.{Span}
use Rattle.wdl_ast.specs.declared.document.Document.{Document}
use Rattle.wdl_ast.specs.declared.token.Token.{Token}
use Rattle.wdl_library.specs.Sections.{imports_of}
use Rattle.wdl_lex.proofs.Final.{one_list}
use Rattle.wdl_parse_doc.specs.Contract.{Written}
use Rattle.wdl_parse_doc.proofs.ParseLaws.{one_document}
use Rattle.wdl_links.specs.declared.want.Want.{Want}
use Rattle.wdl_links.specs.declared.fault.LinkFault.TheVariants as fault
use Rattle.wdl_links.specs.Wants.{Outcome, wants_of}
use Rattle.wdl_sources.specs.declared.source.Source.{Source}
use Rattle.wdl_sources.specs.declared.walk.Step.{Step}
use Rattle.wdl_sources.specs.Reading.{IsRead}
use Rattle.wdl_sources.specs.Walks.{Files, paths, unread, steps_from, first_step, IsStep, Walk, IsWhole, HasStopped, IsStopped, most_documents}

-- ---- one document

pub one_read : (number : ℕ) (bytes : List ℕ) (d e : Document) → IsRead number bytes d → IsRead number bytes e → d ≡ e
one_read number bytes d e h k =
    one_document k.tokens d e (subst (λ (ts : List Token). Written ts d) (one_list number bytes h.tokens k.tokens h.spelled k.spelled) h.written) k.written

pub same_source : (s t : Source) → s.path ≡ t.path → s.document ≡ t.document → s ≡ t
same_source s t p q = λ i. record { path = p i; document = q i }

abbrev done : List Want → Outcome (List Want)
done x = Ok x

ok_same : (v w : List Want) → done v ≡ done w → v ≡ w
ok_same v w e = cc

-- ---- one step

module _ (files : Files) where
  pub one_step : (read : List (List ℕ)) (waiting : List Step) (s t : Source) (next later : List Step)
      → IsStep files read waiting s next → IsStep files read waiting t later → (s ≡ t) × (next ≡ later)
  one_step read waiting s t next later h k = (same, then_)
    where
      firsts : (h.step ≡ k.step) × (h.behind ≡ k.behind)
      firsts = heads h.step k.step h.behind k.behind (sym h.first ∙ k.first)
        where
          heads : (a b : Step) (xs ys : List Step) → a ∷ xs ≡ b ∷ ys → (a ≡ b) × (xs ≡ ys)
          heads a b xs ys e = ((cc), (cc))

      path : s.path ≡ t.path
      path = h.path ∙ ap (λ (w : Step). w.path) firsts.0 ∙ sym k.path

      document : s.document ≡ t.document
      document = one_read (length read) (files t.path) s.document t.document
          (subst (λ p. IsRead (length read) (files p) s.document) path h.is_read) k.is_read

      same : s ≡ t
      same = same_source s t path document

      wants : h.wants ≡ k.wants
      wants = ok_same h.wants k.wants (sym h.imports ∙ ap (λ (x : Source). wants_of x.path [] (imports_of x.document)) same ∙ k.imports)

      then_ : next ≡ later
      then_ = h.then_ ∙ ap (λ p. steps_from p h.wants ++ h.behind) path ∙ ap (λ w. steps_from t.path w ++ h.behind) wants ∙ ap (λ b. steps_from t.path k.wants ++ b) firsts.1 ∙ sym k.then_

  none_left : (a : Step) (xs : List Step) → [] ≡ a ∷ xs → ⊥
  none_left a xs e = cc

  -- ---- one walk

  pub one_walk : (read : List (List ℕ)) (waiting : List Step) (ss ts : List Source) (rest more : List Step) → Walk files read waiting ss rest → Walk files read waiting ts more
      → unread (read ++ paths ss) rest ≡ [] → unread (read ++ paths ts) more ≡ [] → ss ≡ ts
  one_walk read waiting [] [] rest more v w h k = refl
  one_walk read waiting [] (t ∷ ts) rest more v w h k =
      absurd (none_left w.1.step w.1.behind (sym h ∙ ap (λ r. unread r rest) (append-nil read) ∙ ap (unread read) v ∙ w.1.first))
  one_walk read waiting (s ∷ ss) [] rest more v w h k =
      absurd (none_left v.1.step v.1.behind (sym k ∙ ap (λ r. unread r more) (append-nil read) ∙ ap (unread read) w ∙ v.1.first))
  one_walk read waiting (s ∷ ss) (t ∷ ts) rest more v w h k =
      let one = one_step read waiting s t v.0 w.0 v.1 w.1 in
      let others : ss ≡ ts = one_walk (read ++ s.path ∷ []) v.0 ss ts rest more v.2
      (subst (λ (x : Source). Walk files (read ++ x.path ∷ []) v.0 ts more) (sym one.0) (subst (λ (n : List Step). Walk files (read ++ t.path ∷ []) n ts more) (sym one.1) w.2))
      (ap (λ r. unread r rest) (append_assoc read (s.path ∷ []) (paths ss)) ∙ h)
      (ap (λ r. unread r more) (append_assoc read (s.path ∷ []) (paths ts) ∙ ap (λ (x : Source). read ++ x.path ∷ paths ts) one.0) ∙ k) in
      λ i. one.0 i ∷ others i

  -- what is read first and then one more
  pub Longer : List (List ℕ) → List Source → List Source → List Step → Type 0
  Longer read ss ts rest = (t : Source) × (more : List Source) × (next : List Step) × (ts ≡ ss ++ t ∷ more) × IsStep files (read ++ paths ss) rest t next

  pub one_front : (read : List (List ℕ)) (waiting : List Step) (ss ts : List Source) (rest last : List Step) (step : Step) (behind : List Step)
      → Walk files read waiting ss rest → Walk files read waiting ts last
      → unread (read ++ paths ss) rest ≡ step ∷ behind → unread (read ++ paths ts) last ≡ [] → Longer read ss ts rest
  unfolding Longer
  one_front read waiting [] [] rest last step behind v w h k =
      absurd (none_left step behind (sym k ∙ ap (λ r. unread (read ++ []) r) (w ∙ sym v) ∙ h))
  one_front read waiting [] (t ∷ ts) rest last step behind v w h k = (
    t,
    ts,
    w.0,
    refl,
    subst (λ (r : List (List ℕ)). IsStep files r rest t w.0) (sym (append-nil read)) (subst (λ (ws : List Step). IsStep files read ws t w.0) (sym v) w.1),
  )
  one_front read waiting (s ∷ ss) [] rest last step behind v w h k =
      absurd (none_left v.1.step v.1.behind (sym k ∙ ap (λ r. unread r last) (append-nil read) ∙ ap (unread read) w ∙ v.1.first))
  one_front read waiting (s ∷ ss) (t ∷ ts) rest last step behind v w h k =
      let one = one_step read waiting s t v.0 w.0 v.1 w.1 in
      let r = one_front (read ++ s.path ∷ []) v.0 ss ts rest last step behind v.2
      (subst (λ (x : Source). Walk files (read ++ x.path ∷ []) v.0 ts last) (sym one.0) (subst (λ (n : List Step). Walk files (read ++ t.path ∷ []) n ts last) (sym one.1) w.2))
      (ap (λ r. unread r rest) (append_assoc read (s.path ∷ []) (paths ss)) ∙ h)
      (ap (λ r. unread r last) (append_assoc read (s.path ∷ []) (paths ts) ∙ ap (λ (x : Source). read ++ x.path ∷ paths ts) one.0) ∙ k) in (
        r.0,
        r.1,
        r.2,
        λ i. sym one.0 i ∷ r.3 i,
        subst (λ (q : List (List ℕ)). IsStep files q rest r.0 r.2) (append_assoc read (s.path ∷ []) (paths ss)) r.4,
      )

  -- ---- all documents of a path

  pub one_whole : (root : List ℕ) (ss ts : List Source) → IsWhole files root ss → IsWhole files root ts → ss ≡ ts
  one_whole root ss ts h k = one_walk [] (first_step root ∷ []) ss ts h.rest k.rest h.front k.front h.whole k.whole

  longer_length : (read : List (List ℕ)) (ss ts : List Source) (rest : List Step) → Longer read ss ts rest → length ss < length ts
  unfolding Longer
  longer_length read ss ts rest l = let e = ap length l.3 ∙ length-append ss (l.0 ∷ l.1) in omega (arith, e)

  -- the next step of what stopped is that of the longer walk
  same_next : (read : List (List ℕ)) (rest : List Step) (s : Source) (next : List Step) (step : Step) (behind : List Step)
      → IsStep files read rest s next → unread read rest ≡ step ∷ behind → s.path ≡ step.path
  same_next read rest s next step behind h k = h.path ∙ ap (λ (w : Step). w.path) (head h.step step h.behind behind (sym h.first ∙ k))
    where
      head : (a b : Step) (xs ys : List Step) → a ∷ xs ≡ b ∷ ys → a ≡ b
      head a b xs ys e = cc

  length-paths : (ss : List Source) → length (paths ss) ≡ length ss
  length-paths [] = refl
  length-paths (s ∷ ss) = ap suc (length-paths ss)

  ok_bad : (ws : List Want) (code : ℕ) (s : Span) → done ws ≡ Err (fault.Bad code s) → ⊥
  ok_bad ws code s e = cc

  -- where reading stopped there are no documents that are all of them and few enough
  pub stopped_short : (root : List ℕ) (code : ℕ) (p : List ℕ) (s : Span) (ts : List Source) → HasStopped files root code p s → IsWhole files root ts → length ts ≤ most_documents → ⊥
  unfolding Longer
  stopped_short root code p s ts h w few = on h.stopped
    where
      longer : Longer [] h.sources ts h.waiting
      longer = one_front [] (first_step root ∷ []) h.sources ts h.waiting w.rest h.step h.behind h.front w.front h.first w.whole

      t : Source
      t = longer.0

      path : t.path ≡ h.step.path
      path = same_next (paths h.sources) h.waiting t longer.2 h.step h.behind longer.4 h.first

      read : p ≡ h.step.path → IsRead (length h.sources) (files p) t.document
      read i = subst (λ (q : List ℕ). IsRead (length h.sources) (files q) t.document) (path ∙ sym i)
          (subst (λ (n : ℕ). IsRead n (files t.path) t.document) (length-paths h.sources) longer.4.is_read)

      on : IsStopped files (length h.sources) h.step code p s → ⊥
      on (inl many) = let l = longer_length [] h.sources ts h.waiting longer in let m = many.1 in omega (arith, l, few, m)
      on (inr (i, inl text)) = text.1 t.document (read i)
      on (inr (i, inr import)) =
          let same : import.document ≡ t.document = one_read (length h.sources) (files p) import.document t.document import.is_read (read i) in
          ok_bad longer.4.wants code s
          (sym longer.4.imports ∙ ap (λ (q : List ℕ). wants_of q [] (imports_of t.document)) (path ∙ sym i)
          ∙ ap (λ (d : Document). wants_of p [] (imports_of d)) (sym same) ∙ import.refused)
