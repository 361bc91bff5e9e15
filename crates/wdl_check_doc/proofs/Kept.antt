-- What a typed library keeps: by what is true of its typed tasks and workflows.
use Rattle.std.proofs.Common.{◌≡◌, inl, inr, ℕ, zero, suc, ◌+◌, Bool, true, false, ◌||◌, cond, List, [], ◌∷◌, ◌++◌, Option, Some, None, map, slice_get, refl, sym, ap, subst, ◌∙◌, arith}
use Rattle.std.specs.Str.{bytes_eq}
use Rattle.std.proofs.lemmas.Bool.{and_from, false≢true, not_from_false, or_from, or_left, or_right}
use Rattle.std.proofs.lemmas.Slice.Eq.{bytes_eq-Decides}
use Rattle.wdl_base.specs.declared.span.Span.{Span}
use Rattle.wdl_value.specs.Fits.{Structs}
use Rattle.wdl_value.specs.declared.ty.Ty.{Ty}
use Rattle.wdl_ast.specs.declared.document.StructMember.{StructMember}
use Rattle.wdl_ast.specs.declared.document.StructSection.{StructSection}
use Rattle.wdl_ast.specs.declared.leaf.Ident.{Ident}
use Rattle.wdl_typed.specs.KnownTypes.{are_written, is_shallow, is_written}
use Rattle.wdl_typed.specs.Lists.{are_distinct, has_name}
use Rattle.wdl_library.specs.declared.doc.Doc.{Doc}
use Rattle.wdl_library.specs.Links.{has_no_circle}
use Rattle.wdl_library.specs.Sections.{sections_of}
use Rattle.wdl_library.specs.Structs.{HasStructs, member_of, stand_in}
use Rattle.wdl_check_types.specs.Laws.{AreKnown, WrittenTypes}
use Rattle.wdl_check_types.specs.Outcome.{Outcome, done, refused}
use Rattle.wdl_check_types.specs.Written.{written}
use Rattle.wdl_check_decls.specs.Names.{first_repeated}
use Rattle.wdl_check_task.specs.Tasks.{unless_repeated}
use Rattle.wdl_check_doc.specs.Outcomes.{all}
use Rattle.struct_names.specs.Known.{naming}
use Rattle.wdl_check_doc.specs.Parts.{Part, part, parts_from}
use Rattle.wdl_check_doc.specs.Structs.{member_typed, section_nests, section_typed, sections_nest, sections_typed, struct_name, structs_typed}
use Rattle.wdl_check_doc.proofs.Origins.{In}
use Rattle.wdl_check_doc.proofs.StructLaws.{AreFine, names_known, naming_stands}
use Rattle.wdl_check_doc.proofs.Typed.{Have}
use Rattle.wdl_check_doc.proofs.Types.{type_is}
use Rattle.wdl_base.proofs.Options.{then_parts}
use Rattle.wdl_check_task.proofs.Distinct.{is_same}

-- ---- names of a list

abbrev pub words : List Ident → List (List ℕ)
words = map (λ (n : Ident). n.name)

has_last : (n : List ℕ) (before : List (List ℕ)) → has_name n (before ++ n ∷ []) ≡ true
has_last n [] = or_left (bytes_eq n n) false ((bytes_eq-Decides n n).1 refl)
has_last n (m ∷ ms) = or_right (bytes_eq m n) (has_name n (ms ++ n ∷ [])) (has_last n ms)

has_more : (n m : List ℕ) (before : List (List ℕ)) → has_name n before ≡ true → has_name n (before ++ m ∷ []) ≡ true
has_more n m [] h = absurd (false≢true h)
has_more n m (x ∷ xs) h = by_test (λ k. has_more n m xs k) (bytes_eq x n) h
  where
    by_test : (has_name n xs ≡ true → has_name n (xs ++ m ∷ []) ≡ true) → (b : Bool) → (b || has_name n xs) ≡ true → (b || has_name n (xs ++ m ∷ [])) ≡ true
    by_test more true h = refl
    by_test more false h = more h

-- nothing is repeated: no name stands before, and the rest repeats nothing
first_fresh : (before : List (List ℕ)) (n : Ident) (ns : List Ident) → first_repeated before (n ∷ ns) ≡ None
    → (has_name n.name before ≡ false) × (first_repeated (before ++ n.name ∷ []) ns ≡ None)
first_fresh before n ns h = by_test (has_name n.name before) h
  where
    by_test : (b : Bool) → cond b (Some n.span) (first_repeated (before ++ n.name ∷ []) ns) ≡ None → (b ≡ false) × (first_repeated (before ++ n.name ∷ []) ns ≡ None)
    by_test true h = cc
    by_test false h = (refl, h)

lacks : (before : List (List ℕ)) (ns : List Ident) (x : List ℕ) → first_repeated before ns ≡ None → has_name x before ≡ true → has_name x (words ns) ≡ false
lacks before [] x h k = refl
lacks before (n ∷ ns) x h k =
    let f = first_fresh before n ns h in
    or_from _ _ (by_test f.0 (bytes_eq n.name x) refl) (lacks (before ++ n.name ∷ []) ns x f.1 (has_more x n.name before k))
  where
    by_test : has_name n.name before ≡ false → (b : Bool) → bytes_eq n.name x ≡ b → b ≡ false
    by_test fresh true e = absurd (false≢true (sym fresh ∙ ap (λ (y : List ℕ). has_name y before) (is_same n.name x e) ∙ k))
    by_test fresh false e = refl

pub differ : (before : List (List ℕ)) (ns : List Ident) → first_repeated before ns ≡ None → are_distinct (words ns) ≡ true
differ before [] h = refl
differ before (n ∷ ns) h =
    let f = first_fresh before n ns h in
    and_from _ _ (not_from_false _ (lacks (before ++ n.name ∷ []) ns n.name f.1 (has_last n.name before))) (differ (before ++ n.name ∷ []) ns f.1)

-- ---- checks of lists

pub all_have : {A : Type 0} (f : A → Outcome (Unit {0})) (as_ : List A) → (all f as_).typed ≡ Some tt → Have (λ (a : A). (f a).typed ≡ Some tt) as_
all_have f [] h = tt
all_have f (a ∷ as_) h =
    let s = then_parts (λ (u : Unit {0}). (all f as_).typed) (f a).typed tt h in
    (s.1, all_have f as_ s.2)

pub have_in : {A : Type 0} (P : A → Type 0) (as_ : List A) (a : A) → Have P as_ → In a as_ → P a
have_in P [] a h i = absurd i
have_in P (x ∷ xs) a h (inl e) = subst P (sym e) h.0
have_in P (x ∷ xs) a h (inr i) = have_in P xs a h.1 i

pub part_at : (P : Part → Type 0) (k : ℕ) (ds : List Doc) (i : ℕ) (d : Doc) → Have P (parts_from k ds) → slice_get ds i ≡ Some d → P (part (k + i) d)
part_at P k [] i d h e = cc
part_at P k (x ∷ xs) zero d h e =
    let same : x ≡ d = cc in
    let here : k ≡ k + 0 = omega arith in
    subst (λ (m : ℕ). P (part m d)) here (subst (λ (y : Doc). P (part k y)) same h.0)
part_at P k (x ∷ xs) (suc i) d h e =
    let there : k + 1 + i ≡ k + suc i = omega arith in
    subst (λ (m : ℕ). P (part m d)) there (part_at P (k + 1) xs i d h.1 e)

pub have_parts : (P : Part → Type 0) (k : ℕ) (ds : List Doc) → ((i : ℕ) (d : Doc) → slice_get ds i ≡ Some d → P (part (k + i) d)) → Have P (parts_from k ds)
have_parts P k [] h = tt
have_parts P k (x ∷ xs) h =
    let here : k + 0 ≡ k = omega arith in
    (subst (λ (m : ℕ). P (part m x)) here (h 0 x refl), have_parts P (k + 1) xs (λ i d e. let there : k + suc i ≡ k + 1 + i = omega arith in subst (λ (m : ℕ). P (part m d)) there (h (suc i) d e)))

-- ---- struct sections

unless_none : (o : Option Span) (w : Outcome (Unit {0})) → (unless_repeated o w).typed ≡ Some tt → (o ≡ None) × (w.typed ≡ Some tt)
unless_none None w h = (refl, h)
unless_none (Some s) w h = cc

member_words : (ms : List StructMember) → map (λ (m : StructMember). m.name.name) ms ≡ words (map (λ (m : StructMember). m.name) ms)
member_words [] = refl
member_words (m ∷ ms) = ap (λ (ns : List (List ℕ)). m.name.name ∷ ns) (member_words ms)

module _ (written_types : WrittenTypes) (docs : List Doc) (structs : Structs) (has : HasStructs docs structs) (circle : has_no_circle docs ≡ true) where
  abbrev known : (k : ℕ) (d : Doc) → slice_get docs k ≡ Some d → AreKnown structs (naming d.structs)
  known = names_known docs structs circle has.named has.agreeing has.sections

  members_written : (k : ℕ) (d : Doc) → slice_get docs k ≡ Some d → (ms : List StructMember) → Have (λ (m : StructMember). (member_typed (naming d.structs) m).typed ≡ Some tt) ms
      → are_written structs (map (member_of (stand_in d.structs)) ms) ≡ true
  members_written k d e [] h = refl
  members_written k d e (m ∷ ms) h =
      let s = then_parts (λ (t : Ty). Some tt) (written (naming d.structs) m.ty).typed tt h.0 in
      let is = type_is (stand_in d.structs) (naming d.structs) (λ n x g. (naming_stands d.structs n x g).0) m.ty s.0 s.1 in
      and_from _ _ (ap (is_written structs) (sym is) ∙ written_types structs (naming d.structs) m.ty s.0 (known k d e) s.1) (members_written k d e ms h.1)

  section_shallow : (d : Doc) (s : StructSection) → (section_nests structs (naming d.structs) s).typed ≡ Some tt → is_shallow 32 structs (struct_name (naming d.structs) s) ≡ true
  section_shallow d s h = by_test (is_shallow 32 structs (struct_name (naming d.structs) s)) h
    where
      by_test : (b : Bool) → (cond b (done {A = Unit {0}} tt) (refused {A = Unit {0}} 330 s.name.span)).typed ≡ Some tt → b ≡ true
      by_test true h = refl
      by_test false h = cc

  pub sections_fine : (structs_typed structs (parts_from 0 docs)).typed ≡ Some tt → AreFine structs docs
  sections_fine h k d s e i =
      let p = then_parts (λ (u : Unit {0}). (all (sections_nest structs) (parts_from 0 docs)).typed) (all sections_typed (parts_from 0 docs)).typed tt h in
      let a = part_at _ 0 docs k d (all_have sections_typed (parts_from 0 docs) p.1) e in
      let b = part_at _ 0 docs k d (all_have (sections_nest structs) (parts_from 0 docs) p.2) e in
      let one = have_in _ (sections_of d.document) s (all_have (section_typed (naming d.structs)) (sections_of d.document) a) i in
      let two = have_in _ (sections_of d.document) s (all_have (section_nests structs (naming d.structs)) (sections_of d.document) b) i in
      let q = unless_none (first_repeated [] (map (λ (m : StructMember). m.name) s.members)) (all (member_typed (naming d.structs)) s.members) one in
      record {
        distinct = ap are_distinct (member_words s.members) ∙ differ [] (map (λ (m : StructMember). m.name) s.members) q.0;
        written = members_written k d e s.members (all_have (member_typed (naming d.structs)) s.members q.1);
        shallow = section_shallow d s two;
      }
