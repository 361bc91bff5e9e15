-- Documents in the order in which they are read.
use Rattle.std.proofs.Common.{◌≡◌, ℕ, suc, Bool, true, false, List, [], ◌∷◌, ◌++◌, length, reverse, refl, sym, ap, ◌∙◌, subst, inl, inr, append_assoc, append-nil, Option, Some, None, take, if◌then◌else◌}
use Rattle.std.proofs.lemmas.Bool.{cond-true, cond-false, or_parts}
use Rattle.std.proofs.lemmas.List.{reverse-append, map-append}
use Rattle.std.proofs.lemmas.Slice.Eq.{bytes_eq-Decides}
use Rattle.std.specs.Str.{bytes_eq}
use Rattle.wdl_base.specs.declared.span.Span.{Span}
use Rattle.wdl_base.specs.Names.{is_among}
use Rattle.wdl_port.specs.Files.{IsFile, read_limit}
use Rattle.wdl_links.specs.declared.want.Want.{Want}
use Rattle.wdl_sources.specs.declared.source.Source.{Source}
use Rattle.wdl_sources.specs.declared.walk.Step.{Step}
use Rattle.wdl_sources.specs.Reading.{IsRead, IsTextFault}
use Rattle.wdl_sources.specs.Walks.{Files, AreFiles, paths, step_of, steps_from, first_step, IsStep, Walk, IsFront, IsStopped, IsTaken, IsUntaken, HasRead, HasWhole, HasReached, IsBad}

-- one want more on the stack
pub put_one : (base : List ℕ) (left more : List Want) (w : Want) (waiting : List Step) (s : Step) → more ≡ left ++ w ∷ [] → s ≡ step_of base w
    → steps_from base left ++ reverse (waiting ++ s ∷ []) ≡ steps_from base more ++ reverse waiting
put_one base left more w waiting s e k =
    ap (λ r. steps_from base left ++ r) (reverse-append waiting (s ∷ []))
    ∙ ap (λ (x : Step). steps_from base left ++ (x ∷ reverse waiting)) k
    ∙ sym (append_assoc (steps_from base left) (step_of base w ∷ []) (reverse waiting))
    ∙ ap (λ l. l ++ reverse waiting) (sym (map-append (step_of base) left (w ∷ [])))
    ∙ ap (λ l. steps_from base l ++ reverse waiting) (sym e)

-- ---- a document more

pub walk_more : (files : Files) (read : List (List ℕ)) (waiting : List Step) (ss : List Source) (rest : List Step) (s : Source) (next : List Step)
    → Walk files read waiting ss rest → IsStep files (read ++ paths ss) rest s next → Walk files read waiting (ss ++ s ∷ []) next
walk_more files read waiting [] rest s next w step = (
  next,
  subst (λ (l : List (List ℕ)). IsStep files l waiting s next) (append-nil read) (subst (λ (l : List Step). IsStep files (read ++ []) l s next) w step),
  refl,
)
walk_more files read waiting (x ∷ xs) rest s next w step = (
  w.0,
  w.1,
  walk_more files (read ++ x.path ∷ []) w.0 xs rest s next w.2
      (subst (λ (l : List (List ℕ)). IsStep files l rest s next) (sym (append_assoc read (x.path ∷ []) (paths xs))) step),
)

-- ---- the bytes at a path that was not read

pub with_bytes : Files → List ℕ → List ℕ → Files
with_bytes files p bytes q = if bytes_eq q p then bytes else files q

other_bytes : (files : Files) (p bytes q : List ℕ) → bytes_eq q p ≡ false → with_bytes files p bytes q ≡ files q
unfolding with_bytes
other_bytes files p bytes q h = cond-false (bytes_eq q p) _ _ h

pub same_bytes : (files : Files) (p bytes : List ℕ) → with_bytes files p bytes p ≡ bytes
unfolding with_bytes
same_bytes files p bytes = cond-true (bytes_eq p p) _ _ ((bytes_eq-Decides p p).1 refl)

pub told_bytes : (tells : List ℕ → Option (List ℕ)) (files : Files) (p bytes : List ℕ) → AreFiles tells files → IsFile (tells p) bytes → AreFiles tells (with_bytes files p bytes)
told_bytes tells files p bytes h k q = on (bytes_eq q p) refl
  where
    on : (b : Bool) → bytes_eq q p ≡ b → IsFile (tells q) (with_bytes files p bytes q)
    on true e = let i : q ≡ p = (bytes_eq-Decides q p).0 e in
        subst (λ (x : List ℕ). IsFile (tells x) (with_bytes files p bytes x)) (sym i)
        (subst (λ (x : List ℕ). IsFile (tells p) x) (sym (same_bytes files p bytes)) k)
    on false e = subst (λ (x : List ℕ). IsFile (tells q) x) (sym (other_bytes files p bytes q e)) (h q)

walk_other : (files : Files) (p bytes : List ℕ) (read : List (List ℕ)) (waiting : List Step) (ss : List Source) (rest : List Step)
    → is_among p (paths ss) ≡ false → Walk files read waiting ss rest → Walk (with_bytes files p bytes) read waiting ss rest
walk_other files p bytes read waiting [] rest h w = w
walk_other files p bytes read waiting (s ∷ ss) rest h w =
    let k = or_parts (bytes_eq s.path p) (is_among p (paths ss)) h in
    let step = w.1 in (
      w.0,
      record {
        step = step.step;
        behind = step.behind;
        wants = step.wants;
        first = step.first;
        path = step.path;
        is_read = subst (λ (b : List ℕ). IsRead (length read) b s.document) (sym (other_bytes files p bytes s.path k.0)) step.is_read;
        imports = step.imports;
        then_ = step.then_;
      },
      walk_other files p bytes (read ++ s.path ∷ []) w.0 ss rest k.1 w.2,
    )

length-paths : (ss : List Source) → length (paths ss) ≡ length ss
length-paths [] = refl
length-paths (s ∷ ss) = ap suc (length-paths ss)

-- ---- the documents that were read so far

module _ (tells : List ℕ → Option (List ℕ)) (root : List ℕ) where
  told_or : Option (List ℕ) → List ℕ
  told_or None = []
  told_or (Some all) = take read_limit all

  pub has_first : HasRead tells root [] (first_step root ∷ [])
  unfolding told_or
  has_first = record {
    files = λ p. told_or (tells p);
    told = λ p all e. ap told_or e;
    rest = first_step root ∷ [];
    front = refl;
    same = refl;
  }

  pub has_skipped : (sources : List Source) (step : Step) (waiting : List Step) → HasRead tells root sources (step ∷ waiting)
      → is_among step.path (paths sources) ≡ true → HasRead tells root sources waiting
  has_skipped sources step waiting h e = record {
    files = h.files;
    told = h.told;
    rest = h.rest;
    front = h.front;
    same = h.same ∙ cond-true (is_among step.path (paths sources)) _ _ e;
  }

  pub has_more : (sources new : List Source) (step : Step) (waiting next : List Step) → HasRead tells root sources (step ∷ waiting)
      → is_among step.path (paths sources) ≡ false → IsTaken (tells step.path) step sources new waiting next → HasRead tells root new next
  has_more sources new step waiting next h e t =
      let files = with_bytes h.files step.path t.bytes in
      let at : files t.source.path ≡ t.bytes = ap files t.path ∙ same_bytes h.files step.path t.bytes in
      let front : IsFront files root (sources ++ t.source ∷ []) next =
      walk_more files [] (first_step root ∷ []) sources h.rest t.source next
      (walk_other h.files step.path t.bytes [] (first_step root ∷ []) sources h.rest e h.front)
      (record {
        step = step;
        behind = waiting;
        wants = t.wants;
        first = h.same ∙ cond-false (is_among step.path (paths sources)) _ _ e;
        path = t.path;
        is_read = subst (λ (n : ℕ). IsRead n (files t.source.path) t.source.document) (sym (length-paths sources))
            (subst (λ (b : List ℕ). IsRead (length sources) b t.source.document) (sym at) t.is_read);
        imports = t.imports;
        then_ = t.then_;
      }) in
      record {
        files = files;
        told = told_bytes tells h.files step.path t.bytes h.told t.file;
        rest = next;
        front = subst (λ (ss : List Source). IsFront files root ss next) (sym t.sources) front;
        same = refl;
      }

  pub has_whole : (sources : List Source) → HasRead tells root sources [] → HasWhole tells root sources
  has_whole sources h = record { files = h.files; told = h.told; whole = record { rest = h.rest; front = h.front; whole = h.same } }

  pub has_reached : (sources : List Source) (step : Step) (waiting : List Step) (p : List ℕ) → HasRead tells root sources (step ∷ waiting)
      → is_among step.path (paths sources) ≡ false → p ≡ step.path → HasReached tells root p
  has_reached sources step waiting p h e at = record {
    files = h.files;
    told = h.told;
    reached = record {
      sources = sources;
      waiting = h.rest;
      step = step;
      behind = waiting;
      front = h.front;
      first = h.same ∙ cond-false (is_among step.path (paths sources)) _ _ e;
      at_step = at;
    };
  }

  pub has_stopped : (sources : List Source) (step : Step) (waiting : List Step) (code : ℕ) (p : List ℕ) (s : Span) → HasRead tells root sources (step ∷ waiting)
      → is_among step.path (paths sources) ≡ false → IsUntaken (tells step.path) step (length sources) code p s → IsBad tells root code p s
  has_stopped sources step waiting code p s h e t =
      let files = with_bytes h.files step.path t.bytes in
      record {
        files = files;
        told = told_bytes tells h.files step.path t.bytes h.told t.file;
        stopped = record {
          sources = sources;
          waiting = h.rest;
          step = step;
          behind = waiting;
          front = walk_other h.files step.path t.bytes [] (first_step root ∷ []) sources h.rest e h.front;
          first = h.same ∙ cond-false (is_among step.path (paths sources)) _ _ e;
          stopped = at_bytes h.files step (length sources) code p s t.bytes t.stopped;
        };
      }
    where
      at_bytes : (files : Files) (step : Step) (number code : ℕ) (p : List ℕ) (s : Span) (bytes : List ℕ) → IsStopped (λ q. bytes) number step code p s
          → IsStopped (with_bytes files step.path bytes) number step code p s
      at_bytes files step number code p s bytes (inl many) = inl many
      at_bytes files step number code p s bytes (inr (i, inl text)) =
          let at : with_bytes files step.path bytes p ≡ bytes = ap (with_bytes files step.path bytes) i ∙ same_bytes files step.path bytes in
          inr (i, inl (subst (λ (b : List ℕ). IsTextFault number b code s) (sym at) text))
      at_bytes files step number code p s bytes (inr (i, inr import)) =
          let at : with_bytes files step.path bytes p ≡ bytes = ap (with_bytes files step.path bytes) i ∙ same_bytes files step.path bytes in
          inr (i, inr (record { document = import.document; is_read = subst (λ (b : List ℕ). IsRead number b import.document) (sym at) import.is_read; refused = import.refused }))
