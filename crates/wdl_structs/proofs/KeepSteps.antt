-- Steps of the loops that keep members.
use Rattle.std.proofs.Common.{◌≡◌, ◌⊎◌, ℕ, zero, suc, ◌+◌, ◌<◌, ◌≤◌, true, List, [], ◌∷◌, ◌++◌, map, length, get_or, take, drop, slice_get, Option, Some, Result, Ok, Err, refl, sym, ap, ◌∙◌, subst, arith, inl, inr}
use Rattle.std.proofs.lemmas.Bool.{and_parts}
use Rattle.std.proofs.lemmas.List.{drop_more, take_more}
use Rattle.wdl_base.specs.declared.span.Span.{Span}
use Rattle.wdl_base.specs.Names.{is_among}
use Rattle.wdl_value.specs.declared.ty.Member.{Member}
use Rattle.wdl_value.specs.declared.ty.StructDef.{StructDef}
use Rattle.wdl_ast.specs.declared.document.Section.{Section}
use Rattle.wdl_ast.specs.declared.document.Section.TheVariants as section
use Rattle.wdl_ast.specs.declared.document.StructSection.{StructSection}
use Rattle.wdl_library.specs.declared.doc.Doc.{Doc}
use Rattle.wdl_library.specs.declared.doc.StructName.{StructName}
use Rattle.wdl_library.specs.Names.{names_in, names_at, structs_of}
use Rattle.wdl_library.specs.Sections.{structs_in, sections_of}
use Rattle.wdl_library.specs.Structs.{stand_in}
use Rattle.wdl_links.specs.declared.fault.LinkFault.{LinkFault}
use Rattle.wdl_structs.specs.declared.table.Entry.{Entry}
use Rattle.wdl_structs.specs.Classes.{root}
use Rattle.wdl_structs.specs.Tables.{Names, NamesAt, named, names_of}
use Rattle.wdl_structs.specs.Nodes.{start, all_among}
use Rattle.wdl_links.specs.declared.fault.LinkFault.TheVariants as fault
use Rattle.wdl_structs.specs.Kept.{Kept, Has, Keeps, KeepsFrom, DiffersIn, DiffersFrom, KeepsMore, KeepsAll, AreDefs}
use Rattle.wdl_structs.proofs.KeptLaws.{IsKeeping, keeping_more, keeping_fault}
use Rattle.wdl_structs.proofs.StepLaws.{next_item}

pub next_struct : (ss : List Section) (k : ℕ) (x : Section) (t : StructSection) → k < length ss → x ≡ get_or ss k x → x ≡ section.Struct t
    → structs_in (drop k ss) ≡ t ∷ structs_in (drop (k + 1) ss)
next_struct ss k x t below at is = ap structs_in (drop_more ss k x below ∙ ap (λ z. z ∷ drop (k + 1) ss) (sym at ∙ is))

module _ (parents : List ℕ) (x : ℕ) (ns : Names) (stand : List ℕ → List ℕ) where
  abbrev keeps : List StructSection → ℕ → List Member → Type 0
  keeps ts j ms = Keeps parents x ns stand ts j ms

  abbrev differs : List StructSection → Span → ℕ → List Member → Type 0
  differs ts s j ms = DiffersIn parents x ns stand ts s j ms

  pub sections_more : (old now new : Kept) (all : List StructSection) (ss : List Section) (k : ℕ) (y : Section) (t : StructSection) → k < length ss → y ≡ get_or ss k y → y ≡ section.Struct t
      → IsKeeping old now (keeps all) (keeps (structs_in (drop k ss))) (differs all) (differs (structs_in (drop k ss)))
      → KeepsMore now new (keeps (t ∷ [])) (differs (t ∷ [])) (Ok tt)
      → IsKeeping old new (keeps all) (keeps (structs_in (drop (k + 1) ss))) (differs all) (differs (structs_in (drop (k + 1) ss)))
  sections_more old now new all ss k y t below at is h m =
      let e = next_struct ss k y t below at is in
      keeping_more old now new (keeps all) (keeps (structs_in (drop k ss))) (keeps (t ∷ [])) (keeps (structs_in (drop (k + 1) ss))) (differs all) (differs (structs_in (drop k ss))) (differs (structs_in (drop (k + 1) ss)))
      h m.0 m.1 (λ j ms. (λ z. there j ms (subst (λ (ts : List StructSection). keeps ts j ms) e z), λ z. subst (λ (ts : List StructSection). keeps ts j ms) (sym e) (back j ms z)))
      (λ s j ms z. subst (λ (ts : List StructSection). differs ts s j ms) (sym e) (inr z))
    where
      there : (j : ℕ) (ms : List Member) → keeps (t ∷ structs_in (drop (k + 1) ss)) j ms → keeps (t ∷ []) j ms ⊎ keeps (structs_in (drop (k + 1) ss)) j ms
      there j ms (inl z) = inl (inl z)
      there j ms (inr z) = inr z

      back : (j : ℕ) (ms : List Member) → keeps (t ∷ []) j ms ⊎ keeps (structs_in (drop (k + 1) ss)) j ms → keeps (t ∷ structs_in (drop (k + 1) ss)) j ms
      back j ms (inl (inl z)) = inl z
      back j ms (inl (inr z)) = absurd z
      back j ms (inr z) = inr z

  pub sections_fault : (old now new last : Kept) (all : List StructSection) (ss : List Section) (k : ℕ) (y : Section) (t : StructSection) (f : LinkFault) → k < length ss → y ≡ get_or ss k y → y ≡ section.Struct t
      → IsKeeping old now (keeps all) (keeps (structs_in (drop k ss))) (differs all) (differs (structs_in (drop k ss)))
      → KeepsMore now new (keeps (t ∷ [])) (differs (t ∷ [])) (Err f) → KeepsMore old last (keeps all) (differs all) (Err f)
  sections_fault old now new last all ss k y t f below at is h m =
      let e = next_struct ss k y t below at is in
      keeping_fault old now new (keeps all) (keeps (structs_in (drop k ss))) (keeps (t ∷ [])) (differs all) (differs (structs_in (drop k ss))) (differs (t ∷ [])) f h m
      (λ j ms z. subst (λ (ts : List StructSection). keeps ts j ms) (sym e) (one j ms z)) (λ s j ms z. subst (λ (ts : List StructSection). differs ts s j ms) (sym e) (wrong s j ms z)) last
    where
      one : (j : ℕ) (ms : List Member) → keeps (t ∷ []) j ms → keeps (t ∷ structs_in (drop (k + 1) ss)) j ms
      one j ms (inl z) = inl z
      one j ms (inr z) = absurd z

      wrong : (s : Span) (j : ℕ) (ms : List Member) → differs (t ∷ []) s j ms → differs (t ∷ structs_in (drop (k + 1) ss)) s j ms
      wrong s j ms (inl z) = inl z
      wrong s j ms (inr z) = absurd z

pub own_next : (ns : Names) (ss : List Section) (k : ℕ) (y : Section) (t : StructSection) → k < length ss → y ≡ get_or ss k y → y ≡ section.Struct t
    → all_among ns (map (λ s. s.name.name) (structs_in (drop k ss))) ≡ true
    → (is_among t.name.name ns ≡ true) × (all_among ns (map (λ s. s.name.name) (structs_in (drop (k + 1) ss))) ≡ true)
own_next ns ss k y t below at is h =
    and_parts (is_among t.name.name ns) (all_among ns (map (λ s. s.name.name) (structs_in (drop (k + 1) ss))))
    (sym (ap (λ (ts : List StructSection). all_among ns (map (λ s. s.name.name) ts)) (next_struct ss k y t below at is)) ∙ h)

-- ---- documents

module _ (parents : List ℕ) (tables : List Names) where
  abbrev all_keep : ℕ → List Doc → ℕ → List Member → Type 0
  all_keep k ds j ms = KeepsFrom parents tables k ds j ms

  abbrev all_differ : ℕ → List Doc → Span → ℕ → List Member → Type 0
  all_differ k ds s j ms = DiffersFrom parents tables k ds s j ms

  abbrev doc_keeps : ℕ → Doc → ℕ → List Member → Type 0
  doc_keeps k d j ms = Keeps parents (start tables k) (names_of tables k) (stand_in d.structs) (sections_of d.document) j ms

  abbrev doc_differs : ℕ → Doc → Span → ℕ → List Member → Type 0
  doc_differs k d s j ms = DiffersIn parents (start tables k) (names_of tables k) (stand_in d.structs) (sections_of d.document) s j ms

  later_is : (k : ℕ) (ds : List Doc) (j : ℕ) (ms : List Member) → all_keep (suc k) ds j ms → all_keep (k + 1) ds j ms
  later_is k ds j ms z = let e : suc k ≡ k + 1 = omega arith in subst (λ n. all_keep n ds j ms) e z

  later_back : (k : ℕ) (ds : List Doc) (j : ℕ) (ms : List Member) → all_keep (k + 1) ds j ms → all_keep (suc k) ds j ms
  later_back k ds j ms z = let e : k + 1 ≡ suc k = omega arith in subst (λ n. all_keep n ds j ms) e z

  pub docs_more : (old now new : Kept) (all : List Doc) (k : ℕ) (d : Doc) → k < length all → d ≡ get_or all k d
      → IsKeeping old now (all_keep 0 all) (all_keep k (drop k all)) (all_differ 0 all) (all_differ k (drop k all))
      → KeepsMore now new (doc_keeps k d) (doc_differs k d) (Ok tt)
      → IsKeeping old new (all_keep 0 all) (all_keep (k + 1) (drop (k + 1) all)) (all_differ 0 all) (all_differ (k + 1) (drop (k + 1) all))
  docs_more old now new all k d below at h m =
      let e = next_item all k d below at in
      keeping_more old now new (all_keep 0 all) (all_keep k (drop k all)) (doc_keeps k d) (all_keep (k + 1) (drop (k + 1) all)) (all_differ 0 all) (all_differ k (drop k all)) (all_differ (k + 1) (drop (k + 1) all))
      h m.0 m.1 (λ j ms. (λ z. there j ms (subst (λ (ds : List Doc). all_keep k ds j ms) e z), λ z. subst (λ (ds : List Doc). all_keep k ds j ms) (sym e) (back j ms z)))
      (λ s j ms z. subst (λ (ds : List Doc). all_differ k ds s j ms) (sym e) (inr (moved s j ms z)))
    where
      there : (j : ℕ) (ms : List Member) → all_keep k (d ∷ drop (k + 1) all) j ms → doc_keeps k d j ms ⊎ all_keep (k + 1) (drop (k + 1) all) j ms
      there j ms (inl z) = inl z
      there j ms (inr z) = inr (later_is k (drop (k + 1) all) j ms z)

      back : (j : ℕ) (ms : List Member) → doc_keeps k d j ms ⊎ all_keep (k + 1) (drop (k + 1) all) j ms → all_keep k (d ∷ drop (k + 1) all) j ms
      back j ms (inl z) = inl z
      back j ms (inr z) = inr (later_back k (drop (k + 1) all) j ms z)

      moved : (s : Span) (j : ℕ) (ms : List Member) → all_differ (k + 1) (drop (k + 1) all) s j ms → all_differ (suc k) (drop (k + 1) all) s j ms
      moved s j ms z = let e : k + 1 ≡ suc k = omega arith in subst (λ n. all_differ n (drop (k + 1) all) s j ms) e z

  pub docs_fault : (old now new last : Kept) (all : List Doc) (k : ℕ) (d : Doc) (f : LinkFault) → k < length all → d ≡ get_or all k d
      → IsKeeping old now (all_keep 0 all) (all_keep k (drop k all)) (all_differ 0 all) (all_differ k (drop k all))
      → KeepsMore now new (doc_keeps k d) (doc_differs k d) (Err f) → KeepsMore old last (all_keep 0 all) (all_differ 0 all) (Err f)
  docs_fault old now new last all k d f below at h m =
      let e = next_item all k d below at in
      keeping_fault old now new (all_keep 0 all) (all_keep k (drop k all)) (doc_keeps k d) (all_differ 0 all) (all_differ k (drop k all)) (doc_differs k d) f h m
      (λ j ms z. subst (λ (ds : List Doc). all_keep k ds j ms) (sym e) (inl z)) (λ s j ms z. subst (λ (ds : List Doc). all_differ k ds s j ms) (sym e) (inl z)) last

-- ---- structs

pub defs_more : (parents : List ℕ) (kept : Kept) (x : ℕ) (ns : Names) (ds : List StructDef) (n : List ℕ) (d : StructDef) → AreDefs parents kept x ns ds → d.name ≡ n → Has kept (root parents (x + length ns)) d.members
    → AreDefs parents kept x (ns ++ n ∷ []) (ds ++ d ∷ [])
defs_more parents kept x [] [] n d a e h = let z : x + 0 ≡ x = omega arith in (e, subst (λ y. Has kept (root parents y) d.members) z h, tt)
defs_more parents kept x [] (c ∷ ds) n d a e h = absurd a
defs_more parents kept x (m ∷ ns) [] n d a e h = absurd a
defs_more parents kept x (m ∷ ns) (c ∷ ds) n d a e h =
    let z : x + suc (length ns) ≡ suc x + length ns = omega arith in
    (a.0, a.1, defs_more parents kept (suc x) ns ds n d a.2 e (subst (λ y. Has kept (root parents y) d.members) z h))

pub named_take : (es : List Entry) (k : ℕ) (e : Entry) → k < length es → e ≡ get_or es k e → named (take (k + 1) es) ≡ named (take k es) ++ e.name ∷ []
named_take es k e below at = ap named (take_more es k e below ∙ ap (λ x. take k es ++ x ∷ []) (sym at)) ∙ push (take k es)
  where
    push : (xs : List Entry) → named (xs ++ e ∷ []) ≡ named xs ++ e.name ∷ []
    push [] = refl
    push (x ∷ xs) = ap (λ r. x.name ∷ r) (push xs)

pub take_length : (es : List Entry) (k : ℕ) → k ≤ length es → length (named (take k es)) ≡ k
take_length [] zero h = refl
take_length [] (suc k) h = absurd (omega (arith, h))
take_length (e ∷ es) zero h = refl
take_length (e ∷ es) (suc k) h = ap suc (take_length es k (omega (arith, h)))

-- ---- the words of a document

pub keeps_sections : (parents : List ℕ) (x : ℕ) (old new : Kept) (names structs : List StructName) (ss sections : List Section) (r : Result (Unit {0}) LinkFault) → names ≡ structs → ss ≡ sections
    → KeepsMore old new (Keeps parents x (names_in names) (stand_in names) (structs_in ss)) (DiffersIn parents x (names_in names) (stand_in names) (structs_in ss)) r
    → KeepsMore old new (Keeps parents x (names_in structs) (stand_in structs) (structs_in sections)) (DiffersIn parents x (names_in structs) (stand_in structs) (structs_in sections)) r
keeps_sections parents x old new names structs ss sections r e f h =
    subst (λ (z : List Section). KeepsMore old new (Keeps parents x (names_in structs) (stand_in structs) (structs_in z)) (DiffersIn parents x (names_in structs) (stand_in structs) (structs_in z)) r) f
    (subst (λ (z : List StructName). KeepsMore old new (Keeps parents x (names_in z) (stand_in z) (structs_in ss)) (DiffersIn parents x (names_in z) (stand_in z) (structs_in ss)) r) e h)

pub keeps_doc : (parents : List ℕ) (x y : ℕ) (old new : Kept) (ns ms : Names) (d : Doc) (r : Result (Unit {0}) LinkFault) → x ≡ y → ns ≡ ms
    → KeepsMore old new (Keeps parents x ns (stand_in d.structs) (sections_of d.document)) (DiffersIn parents x ns (stand_in d.structs) (sections_of d.document)) r
    → KeepsMore old new (Keeps parents y ms (stand_in d.structs) (sections_of d.document)) (DiffersIn parents y ms (stand_in d.structs) (sections_of d.document)) r
keeps_doc parents x y old new ns ms d r e f h =
    subst (λ (z : Names). KeepsMore old new (Keeps parents y z (stand_in d.structs) (sections_of d.document)) (DiffersIn parents y z (stand_in d.structs) (sections_of d.document)) r) f
    (subst (λ z. KeepsMore old new (Keeps parents z ns (stand_in d.structs) (sections_of d.document)) (DiffersIn parents z ns (stand_in d.structs) (sections_of d.document)) r) e h)

pub start_next : (tables : List Names) (k : ℕ) → start tables (k + 1) ≡ start tables k + length (names_of tables k)
start_next [] k = refl
start_next (t ∷ ts) zero = on ts
  where
    on : (ts : List Names) → start (t ∷ ts) (0 + 1) ≡ 0 + length t
    on ts = let z = zero_ ts in omega (arith, z)
      where
        zero_ : (us : List Names) → start us 0 ≡ 0
        zero_ [] = refl
        zero_ (u ∷ us) = refl
start_next (t ∷ ts) (suc k) =
    let e : suc k + 1 ≡ suc (k + 1) = omega arith in
    let r = start_next ts k in
    ap (start (t ∷ ts)) e ∙ omega (arith, r)

-- ---- all documents

pub all_done : (old new : Kept) (keeps : ℕ → List Member → Type 0) (differs : Span → ℕ → List Member → Type 0) → ((j : ℕ) (x : List Member) → Has old j x → ⊥) → KeepsMore old new keeps differs (Ok tt)
    → KeepsAll keeps differs (Ok new)
all_done old new keeps differs none m j x = (λ h. there ((m.1 j x).0 h), λ h. (m.1 j x).1 (inr h))
  where
    there : Has old j x ⊎ keeps j x → keeps j x
    there (inl h) = absurd (none j x h)
    there (inr h) = h

pub all_fault : (old new : Kept) (keeps : ℕ → List Member → Type 0) (differs : Span → ℕ → List Member → Type 0) (e : LinkFault) → ((j : ℕ) (x : List Member) → Has old j x → ⊥)
    → KeepsMore old new keeps differs (Err e) → KeepsAll keeps differs (Err e)
all_fault old new keeps differs (fault.Bad code s) none m = (m.0, (m.1.0, m.1.1, there m.1.2, m.1.3))
  where
    there : Has old m.1.0 m.1.1 ⊎ keeps m.1.0 m.1.1 → keeps m.1.0 m.1.1
    there (inl h) = absurd (none m.1.0 m.1.1 h)
    there (inr h) = h
all_fault old new keeps differs fault.NoMemory none m = tt

pub names_doc : (docs : List Doc) (names : NamesAt) (k : ℕ) (d : Doc) → names_at docs ≡ names → slice_get docs k ≡ Some d → names_in d.structs ≡ names k
names_doc docs names k d e at = sym (ap (λ (o : Option Doc). names_in (structs_of o)) at) ∙ ap (λ (f : NamesAt). f k) e

pub skip_section : (ss : List Section) (k : ℕ) (x : Section) → k < length ss → x ≡ get_or ss k x → structs_in (x ∷ drop (k + 1) ss) ≡ structs_in (drop (k + 1) ss)
    → structs_in (drop (k + 1) ss) ≡ structs_in (drop k ss)
skip_section ss k x below at e = sym e ∙ ap (λ y. structs_in (y ∷ drop (k + 1) ss)) at ∙ sym (ap structs_in (drop_more ss k x below))

pub skipped : (parents : List ℕ) (x : ℕ) (ns : Names) (stand : List ℕ → List ℕ) (old now : Kept) (all ts us : List StructSection) → ts ≡ us
    → IsKeeping old now (Keeps parents x ns stand all) (Keeps parents x ns stand us) (DiffersIn parents x ns stand all) (DiffersIn parents x ns stand us) × (all_among ns (map (λ s. s.name.name) us) ≡ true)
    → IsKeeping old now (Keeps parents x ns stand all) (Keeps parents x ns stand ts) (DiffersIn parents x ns stand all) (DiffersIn parents x ns stand ts) × (all_among ns (map (λ s. s.name.name) ts) ≡ true)
skipped parents x ns stand old now all ts us e h =
    subst (λ (zs : List StructSection). IsKeeping old now (Keeps parents x ns stand all) (Keeps parents x ns stand zs) (DiffersIn parents x ns stand all) (DiffersIn parents x ns stand zs)
    × (all_among ns (map (λ s. s.name.name) zs) ≡ true)) (sym e) h

pub names_length : (ss : List StructName) → length (names_in ss) ≡ length ss
names_length [] = refl
names_length (s ∷ ss) = let r = names_length ss in omega (arith, r)
