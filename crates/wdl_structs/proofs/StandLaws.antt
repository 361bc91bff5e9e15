-- The names that stand for structs, by classes.
use Rattle.std.proofs.Common.{◌≡◌, ◌⊎◌, ℕ, zero, suc, ◌+◌, Bool, true, false, not, ◌&&◌, ◌||◌, List, [], ◌∷◌, ◌++◌, map, length, refl, sym, ap, ◌∙◌, arith, inl, inr}
use Rattle.std.specs.Prelude.{if◌then◌else◌, filter}
use Rattle.std.specs.Str.{bytes_eq}
use Rattle.std.proofs.lemmas.Bool.{true≢false, false≢true, and_parts, and_from, or_left, or_right, or_cases, cases_Bool}
use Rattle.std.proofs.lemmas.Slice.Eq.{bytes_eq-Decides}
use Rattle.wdl_base.specs.Names.{is_among}
use Rattle.wdl_ast.specs.declared.document.Alias.{Alias}
use Rattle.wdl_ast.specs.declared.document.Import.{Import}
use Rattle.wdl_library.specs.declared.doc.Doc.{Doc}
use Rattle.wdl_library.specs.declared.doc.Link.{Link}
use Rattle.wdl_library.specs.declared.doc.StructName.{StructName}
use Rattle.wdl_library.specs.Sections.{imports_of}
use Rattle.wdl_library.specs.Names.{names_eq, once, given, given_for, own_names, names_in, structs_at, names_at, imported, are_known, imports_are_known}
use Rattle.wdl_library.specs.Structs.{Labels, all_have, agrees_on, agrees_along, agrees_from, stand_in}
use Rattle.wdl_structs.specs.Classes.{Marks}
use Rattle.wdl_structs.specs.Faults.{bare, AreSameDocs}
use Rattle.wdl_structs.specs.Tables.{Names, NamesAt, names_of, imported_by, seen_by, knows_by}
use Rattle.wdl_structs.specs.Nodes.{start, label_from, stands_from, import_by, along_by, from_by, all_among, all_stands, with_stands}
use Rattle.wdl_structs.proofs.NameLaws.{eq_itself, among_append}
use Rattle.wdl_structs.proofs.NodeLaws.{all_both}

-- ---- names with those that stand for them

pub stands_names : (g : Marks) (x : ℕ) (ns : Names) → names_in (stands_from g x ns) ≡ ns
stands_names g x [] = refl
stands_names g x (n ∷ ns) = ap (λ r. n ∷ r) (stands_names g (suc x) ns)

pub stands_label : (g : Marks) (x : ℕ) (ns : Names) (n : List ℕ) → stand_in (stands_from g x ns) n ≡ label_from g x ns n
stands_label g x [] n = refl
stands_label g x (m ∷ ms) n = ap (λ r. if bytes_eq m n then g x else r) (stands_label g (suc x) ms n)

-- ---- documents with names

pub stands_length : (g : Marks) (x : ℕ) (tables : List Names) → length (all_stands g x tables) ≡ length tables
stands_length g x [] = refl
stands_length g x (t ∷ ts) = ap suc (stands_length g (x + length t) ts)

pub with_bare : (docs : List Doc) (ss : List (List StructName)) → length ss ≡ length docs → map bare docs ≡ map bare (with_stands docs ss)
with_bare [] [] h = refl
with_bare [] (s ∷ ss) h = refl
with_bare (d ∷ ds) [] h = absurd (omega (arith, h))
with_bare (d ∷ ds) (s ∷ ss) h = ap (λ r. bare d ∷ r) (with_bare ds ss (omega (arith, h)))

pub structs_with : (g : Marks) (x : ℕ) (docs : List Doc) (tables : List Names) (k : ℕ) → length tables ≡ length docs
    → structs_at (with_stands docs (all_stands g x tables)) k ≡ stands_from g (x + start tables k) (names_of tables k)
structs_with g x [] [] k h = refl
structs_with g x [] (t ∷ ts) k h = absurd (omega (arith, h))
structs_with g x (d ∷ ds) [] k h = absurd (omega (arith, h))
structs_with g x (d ∷ ds) (t ∷ ts) zero h = let e : x ≡ x + 0 = omega arith in ap (λ y. stands_from g y t) e
structs_with g x (d ∷ ds) (t ∷ ts) (suc k) h =
    let e : x + length t + start ts k ≡ x + (length t + start ts k) = omega arith in
    structs_with g (x + length t) ds ts k (omega (arith, h)) ∙ ap (λ y. stands_from g y (names_of ts k)) e

-- ---- documents that differ in their names alone

pub bare_along : (label : Labels) (names : NamesAt) (k : ℕ) (docs others : List Doc) → AreSameDocs docs others → from_by label names k docs ≡ from_by label names k others
bare_along label names k [] [] h = refl
bare_along label names k [] (e ∷ es) h = absurd (none_left h)
  where
    none_left : [] ≡ bare e ∷ map bare es → ⊥
    none_left q = cc
bare_along label names k (d ∷ ds) [] h = absurd (none_left h)
  where
    none_left : bare d ∷ map bare ds ≡ [] → ⊥
    none_left q = cc
bare_along label names k (d ∷ ds) (e ∷ es) h =
    let p = heads h in
    ap (λ (x : Doc). along_by label names k (imports_of x.document) x.imports && from_by label names (suc k) ds) p.0
    ∙ ap (λ b. along_by label names k (imports_of e.document) e.imports && b) (bare_along label names (suc k) ds es p.1)
  where
    heads : bare d ∷ map bare ds ≡ bare e ∷ map bare es → (bare d ≡ bare e) × (map bare ds ≡ map bare es)
    heads q = ((cc), (cc))

-- the words over documents are those over their names
pub along_is : (label : Labels) (docs : List Doc) (k : ℕ) (is : List Import) (ls : List Link) → agrees_along label docs k is ls ≡ along_by label (names_at docs) k is ls
along_is label docs k [] ls = refl
along_is label docs k (i ∷ is) [] = refl
along_is label docs k (i ∷ is) (l ∷ ls) = ap (λ b. agrees_on label k l.doc i.aliases (names_at docs l.doc) && b) (along_is label docs k is ls)

pub from_is : (label : Labels) (docs : List Doc) (k : ℕ) (ds : List Doc) → agrees_from label docs k ds ≡ from_by label (names_at docs) k ds
from_is label docs k [] = refl
from_is label docs k (d ∷ ds) =
    ap (λ b. b && agrees_from label docs (suc k) ds) (along_is label docs k (imports_of d.document) d.imports)
    ∙ ap (λ b. along_by label (names_at docs) k (imports_of d.document) d.imports && b) (from_is label docs (suc k) ds)

pub imported_is : (docs : List Doc) (is : List Import) (ls : List Link) → imported docs is ls ≡ imported_by (names_at docs) is ls
imported_is docs [] ls = refl
imported_is docs (i ∷ is) [] = refl
imported_is docs (i ∷ is) (l ∷ ls) = ap (λ r. given i.aliases (names_at docs l.doc) ++ r) (imported_is docs is ls)

pub known_is : (docs : List Doc) (is : List Import) (ls : List Link) → imports_are_known docs is ls ≡ knows_by (names_at docs) is ls
known_is docs [] ls = refl
known_is docs (i ∷ is) [] = refl
known_is docs (i ∷ is) (l ∷ ls) = ap (λ b. are_known (names_at docs l.doc) i.aliases && b) (known_is docs is ls)

pub names_eq-refl : (ns : Names) → names_eq ns ns ≡ true
names_eq-refl [] = refl
names_eq-refl (n ∷ ns) = and_from (bytes_eq n n) (names_eq ns ns) (eq_itself n) (names_eq-refl ns)

pub names_eq-true : (ns ms : Names) → names_eq ns ms ≡ true → ns ≡ ms
names_eq-true [] [] h = refl
names_eq-true [] (m ∷ ms) h = absurd (false≢true h)
names_eq-true (n ∷ ns) [] h = absurd (false≢true h)
names_eq-true (n ∷ ns) (m ∷ ms) h =
    let p = and_parts (bytes_eq n m) (names_eq ns ms) h in
    let e = (bytes_eq-Decides n m).0 p.0 in
    let r = names_eq-true ns ms p.1 in
    λ i. e i ∷ r i

-- ---- labels that are equal on the names of the documents

agrees_same : (f h : Labels) (k j : ℕ) (aliases : List Alias) (ns all : Names) → ((n : List ℕ) → is_among n ns ≡ true → f j n ≡ h j n)
    → ((m : List ℕ) → is_among m all ≡ true → f k m ≡ h k m) → all_among all (given aliases ns) ≡ true → agrees_on f k j aliases ns ≡ agrees_on h k j aliases ns
agrees_same f h k j aliases [] all there here a = refl
agrees_same f h k j aliases (n ∷ ns) all there here a =
    let p = all_both all (given_for aliases n) (given aliases ns) a in
    ap (λ x. all_have (f k) x (given_for aliases n) && agrees_on f k j aliases ns) (there n (or_left (bytes_eq n n) (is_among n ns) (eq_itself n)))
    ∙ ap (λ b. b && agrees_on f k j aliases ns) (have (h j n) (given_for aliases n) p.0)
    ∙ ap (λ b. all_have (h k) (h j n) (given_for aliases n) && b) (agrees_same f h k j aliases ns all (λ m q. there m (or_right (bytes_eq n m) (is_among m ns) q)) here p.1)
  where
    have : (x : List ℕ) (ms : Names) → all_among all ms ≡ true → all_have (f k) x ms ≡ all_have (h k) x ms
    have x [] q = refl
    have x (m ∷ ms) q =
        let r = and_parts (is_among m all) (all_among all ms) q in
        ap (λ y. bytes_eq y x && all_have (f k) x ms) (here m r.0) ∙ ap (λ b. bytes_eq (h k m) x && b) (have x ms r.1)

pub along_same : (f h : Labels) (names : NamesAt) (k : ℕ) (is : List Import) (ls : List Link) → ((j : ℕ) (n : List ℕ) → is_among n (names j) ≡ true → f j n ≡ h j n)
    → all_among (names k) (imported_by names is ls) ≡ true → along_by f names k is ls ≡ along_by h names k is ls
along_same f h names k [] ls same a = refl
along_same f h names k (i ∷ is) [] same a = refl
along_same f h names k (i ∷ is) (l ∷ ls) same a =
    let p = all_both (names k) (given i.aliases (names l.doc)) (imported_by names is ls) a in
    ap (λ b. b && along_by f names k is ls) (agrees_same f h k l.doc i.aliases (names l.doc) (names k) (same l.doc) (same k) p.0)
    ∙ ap (λ b. import_by h names k i l && b) (along_same f h names k is ls same p.1)

-- the documents from a number on give their names
abbrev pub AreGiven : NamesAt → ℕ → List Doc → Type 0
AreGiven names k [] = Unit {0}
AreGiven names k (d ∷ ds) = (all_among (names k) (imported_by names (imports_of d.document) d.imports) ≡ true) × AreGiven names (suc k) ds

pub from_same : (f h : Labels) (names : NamesAt) (k : ℕ) (ds : List Doc) → ((j : ℕ) (n : List ℕ) → is_among n (names j) ≡ true → f j n ≡ h j n)
    → AreGiven names k ds → from_by f names k ds ≡ from_by h names k ds
from_same f h names k [] same a = refl
from_same f h names k (d ∷ ds) same a =
    ap (λ b. b && from_by f names (suc k) ds) (along_same f h names k (imports_of d.document) d.imports same a.0)
    ∙ ap (λ b. along_by h names k (imports_of d.document) d.imports && b) (from_same f h names (suc k) ds same a.1)

-- ---- what is seen

among_without : (n m : List ℕ) (ks : Names) → bytes_eq m n ≡ false → is_among n ks ≡ true → is_among n (filter (λ k. not (bytes_eq k m)) ks) ≡ true
among_without n m [] e p = p
among_without n m (k ∷ ks) e p = test (λ q. among_without n m ks e q) (bytes_eq k m) refl
  where
    rest : bytes_eq k m ≡ true → (bytes_eq k n ≡ true) ⊎ (bytes_eq k n ≡ false) → is_among n ks ≡ true
    rest i (inl t) = absurd (true≢false (sym t ∙ ap (λ x. bytes_eq x n) ((bytes_eq-Decides k m).0 i) ∙ e))
    rest i (inr f) = sym (ap (λ c. c || is_among n ks) f) ∙ p

    test : (is_among n ks ≡ true → is_among n (filter (λ k. not (bytes_eq k m)) ks) ≡ true) → (c : Bool) → bytes_eq k m ≡ c
        → is_among n (if not c then k ∷ filter (λ k. not (bytes_eq k m)) ks else filter (λ k. not (bytes_eq k m)) ks) ≡ true
    test more true i = more (rest i (cases_Bool (bytes_eq k n)))
    test more false i = elim (or_cases (bytes_eq k n) (is_among n ks) p) as (λ c. is_among n (k ∷ filter (λ k. not (bytes_eq k m)) ks) ≡ true) [
      | inl t ↦ or_left (bytes_eq k n) (is_among n (filter (λ k. not (bytes_eq k m)) ks)) t
      | inr t ↦ or_right (bytes_eq k n) (is_among n (filter (λ k. not (bytes_eq k m)) ks)) (more t)
    ]

among_once : (n : List ℕ) (ns : Names) → is_among n ns ≡ true → is_among n (once ns) ≡ true
among_once n [] h = h
among_once n (m ∷ ms) h = on (λ q. among_once n ms q) (bytes_eq m n) refl h
  where
    on : (is_among n ms ≡ true → is_among n (once ms) ≡ true) → (b : Bool) → bytes_eq m n ≡ b → b || is_among n ms ≡ true → is_among n (once (m ∷ ms)) ≡ true
    on more true e q = or_left (bytes_eq m n) (is_among n (filter (λ k. not (bytes_eq k m)) (once ms))) e
    on more false e q = or_right (bytes_eq m n) (is_among n (filter (λ k. not (bytes_eq k m)) (once ms))) (among_without n m (once ms) e (more q))

all_once : (ns ms : Names) → ((m : List ℕ) → is_among m ms ≡ true → is_among m ns ≡ true) → all_among (once ns) ms ≡ true
all_once ns [] h = refl
all_once ns (m ∷ ms) h =
    and_from (is_among m (once ns)) (all_among (once ns) ms) (among_once m ns (h m (or_left (bytes_eq m m) (is_among m ms) (eq_itself m))))
    (all_once ns ms (λ n q. h n (or_right (bytes_eq m n) (is_among n ms) q)))

-- what a document imports, and what it declares, is among what it sees
pub seen_imported : (names : NamesAt) (d : Doc) → all_among (seen_by names d) (imported_by names (imports_of d.document) d.imports) ≡ true
seen_imported names d = all_once (own_names d ++ imported_by names (imports_of d.document) d.imports) (imported_by names (imports_of d.document) d.imports)
    (λ m q. among_append m (own_names d) (imported_by names (imports_of d.document) d.imports) ∙ or_right (is_among m (own_names d)) (is_among m (imported_by names (imports_of d.document) d.imports)) q)

pub seen_own : (names : NamesAt) (d : Doc) → all_among (seen_by names d) (own_names d) ≡ true
seen_own names d = all_once (own_names d ++ imported_by names (imports_of d.document) d.imports) (own_names d)
    (λ m q. among_append m (own_names d) (imported_by names (imports_of d.document) d.imports) ∙ or_left (is_among m (own_names d)) (is_among m (imported_by names (imports_of d.document) d.imports)) q)
