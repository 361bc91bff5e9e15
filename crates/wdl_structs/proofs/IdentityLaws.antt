-- Names in one class are one struct.
use Rattle.std.proofs.Common.{◌≡◌, ◌⊎◌, ℕ, zero, suc, ◌+◌, ◌-◌, ◌<◌, ◌≤◌, Bool, true, false, ◌&&◌, ◌||◌, List, [], ◌∷◌, ◌++◌, map, length, get_or, slice_get, Option, Some, refl, sym, ap, ◌∙◌, subst, arith, inl, inr}
use Rattle.std.specs.Prelude.{if◌then◌else◌, nat_lt, Contains}
use Rattle.std.specs.List.{list_all}
use Rattle.std.specs.Str.{bytes_eq}
use Rattle.std.proofs.lemmas.Bool.{true≢false, false≢true, and_parts, and_from, or_left, or_right, cond-true, cond-false, cases_lt, cases_eq, lt-ltb, le-ltb, cases_Bool}
use Rattle.std.proofs.lemmas.Slice.Eq.{bytes_eq-Decides}
use Rattle.std.proofs.lemmas.Option.{same_Some, none-some}
use Rattle.wdl_base.specs.Names.{is_among}
use Rattle.wdl_typed.specs.Lists.{are_distinct}
use Rattle.wdl_ast.specs.declared.document.Alias.{Alias}
use Rattle.wdl_ast.specs.declared.document.Import.{Import}
use Rattle.wdl_library.specs.declared.doc.Doc.{Doc}
use Rattle.wdl_library.specs.declared.doc.Link.{Link}
use Rattle.wdl_library.specs.Imports.{uri_of, namespace_of}
use Rattle.wdl_library.specs.Sections.{imports_of}
use Rattle.wdl_library.specs.Links.{is_at, are_links, has_links, links_in, links_at}
use Rattle.wdl_library.specs.Names.{names_eq, once, or_itself, aliases_for, given, given_for, own_names, names_in, structs_at, names_at, imported, has_names}
use Rattle.wdl_library.specs.Structs.{Labels, all_have, agrees_on, agrees, IsSameStruct, stand_in, stand_at, are_first}
use Rattle.wdl_paths.specs.Resolve.{resolve}
use Rattle.wdl_structs.specs.Classes.{root, Marks, Follows}
use Rattle.wdl_links.specs.Circles.{AreReached}
use Rattle.wdl_structs.specs.Faults.{bare}
use Rattle.wdl_structs.specs.Tables.{Names, NamesAt, names_or, names_of, with_name, with_names, imported_by, seen_by, AreSeen}
use Rattle.wdl_structs.specs.Nodes.{start, total, label_from, label_by, stands_from, import_by, along_by, from_by, all_among, AreClasses, all_stands, with_stands, mark_of, LeadFirst}
use Rattle.wdl_structs.proofs.ClassLaws.{root_low, root_top, root_itself, root_follows, by_roots}
use Rattle.wdl_structs.proofs.NameLaws.{among_at, among_place, distinct_with, with_once}
use Rattle.wdl_structs.proofs.NodeLaws.{label_at, all_both, no_names}
use Rattle.wdl_structs.proofs.SeenLaws.{get_within}
use Rattle.wdl_structs.proofs.StandLaws.{stands_names, stands_label, stands_length, with_bare, structs_with, bare_along, from_is, imported_is, names_eq-refl, AreGiven, from_same, seen_imported}
use Rattle.wdl_base.proofs.Options.{item_there, all_at}

-- ---- distinct names

with_distinct : (acc ns : Names) → are_distinct acc ≡ true → are_distinct (with_names acc ns) ≡ true
with_distinct acc [] d = d
with_distinct acc (n ∷ ns) d = with_distinct (with_name acc n) ns (distinct_with acc n d)

pub distinct_once : (ns : Names) → are_distinct (once ns) ≡ true
distinct_once ns = ap are_distinct (sym (with_once ns)) ∙ with_distinct [] ns refl

pub some_or : {A : Type 0} (xs : List A) (k : ℕ) → (k < length xs) ⊎ (k < length xs → ⊥)
some_or xs k = elim (cases_lt k (length xs)) as (λ c. (k < length xs) ⊎ (k < length xs → ⊥)) [ inl l ↦ inl l | inr g ↦ inr (λ l. omega (arith, l, g)) ]

pub tables_distinct : (docs : List Doc) (tables : List Names) → AreSeen docs tables → (k : ℕ) → are_distinct (names_of tables k) ≡ true
tables_distinct docs tables s k = elim (some_or tables k) as (λ c. are_distinct (names_of tables k) ≡ true) [
  | inl l ↦ let d = item_there docs k (subst (λ n. k < n) s.0 l) in ap are_distinct (s.1 k d.0 d.1) ∙ distinct_once (own_names d.0 ++ imported_by (names_of tables) (imports_of d.0.document) d.0.imports)
  | inr g ↦ ap are_distinct (no_names tables k g)
]

-- ---- what documents give

pub given_from : (names : NamesAt) (k : ℕ) (ds : List Doc) → ((j : ℕ) (d : Doc) → slice_get ds j ≡ Some d → names (k + j) ≡ seen_by names d) → AreGiven names k ds
given_from names k [] h = tt
given_from names k (d ∷ ds) h =
    let e : k ≡ k + 0 = omega arith in (
      ap (λ ns. all_among ns (imported_by names (imports_of d.document) d.imports)) (ap names e ∙ h 0 d refl) ∙ seen_imported names d,
      given_from names (suc k) ds (λ j c at. ap names (moved j) ∙ h (suc j) c at),
    )
  where
    moved : (j : ℕ) → suc k + j ≡ k + suc j
    moved j = omega arith

pub are_given : (docs : List Doc) (tables : List Names) → AreSeen docs tables → AreGiven (names_of tables) 0 docs
are_given docs tables s = given_from (names_of tables) 0 docs (λ j d at. ap (names_of tables) (same j) ∙ s.1 j d at)
  where
    same : (j : ℕ) → 0 + j ≡ j
    same j = omega arith

given_at : (names : NamesAt) (k j : ℕ) (ds : List Doc) (d : Doc) → AreGiven names k ds → slice_get ds j ≡ Some d → all_among (names (k + j)) (imported_by names (imports_of d.document) d.imports) ≡ true
given_at names k j [] d a h = absurd (none-some d h)
given_at names k zero (c ∷ ds) d a h =
    let e : k + 0 ≡ k = omega arith in
    ap (λ m. all_among (names m) (imported_by names (imports_of d.document) d.imports)) e ∙ subst (λ (x : Doc). all_among (names k) (imported_by names (imports_of x.document) x.imports) ≡ true) (same_Some c d h) a.0
given_at names k (suc j) (c ∷ ds) d a h =
    let e : k + suc j ≡ suc k + j = omega arith in
    ap (λ m. all_among (names m) (imported_by names (imports_of d.document) d.imports)) e ∙ given_at names (suc k) j ds d a.1 h

-- what one import gives
pub given_by : (names : NamesAt) (ns : Names) (is : List Import) (ls : List Link) (q : ℕ) (i : Import) (l : Link) → all_among ns (imported_by names is ls) ≡ true
    → slice_get is q ≡ Some i → slice_get ls q ≡ Some l → all_among ns (given i.aliases (names l.doc)) ≡ true
given_by names ns [] ls q i l a h k = absurd (none-some i h)
given_by names ns (x ∷ is) [] q i l a h k = absurd (none-some l k)
given_by names ns (x ∷ is) (y ∷ ls) zero i l a h k =
    subst (λ (z : Link). all_among ns (given i.aliases (names z.doc)) ≡ true) (same_Some y l k)
    (subst (λ (z : Import). all_among ns (given z.aliases (names y.doc)) ≡ true) (same_Some x i h) (all_both ns (given x.aliases (names y.doc)) (imported_by names is ls) a).0)
given_by names ns (x ∷ is) (y ∷ ls) (suc q) i l a h k = given_by names ns is ls q i l (all_both ns (given x.aliases (names y.doc)) (imported_by names is ls) a).1 h k

-- ---- one import of labels that agree

pub along_at : (label : Labels) (names : NamesAt) (k q : ℕ) (is : List Import) (ls : List Link) (i : Import) (l : Link) → along_by label names k is ls ≡ true
    → slice_get is q ≡ Some i → slice_get ls q ≡ Some l → import_by label names k i l ≡ true
along_at label names k q [] ls i l a h g = absurd (none-some i h)
along_at label names k q (x ∷ is) [] i l a h g = absurd (none-some l g)
along_at label names k zero (x ∷ is) (y ∷ ls) i l a h g =
    subst (λ (z : Link). import_by label names k i z ≡ true) (same_Some y l g)
    (subst (λ (z : Import). import_by label names k z y ≡ true) (same_Some x i h) (and_parts (import_by label names k x y) (along_by label names k is ls) a).0)
along_at label names k (suc q) (x ∷ is) (y ∷ ls) i l a h g = along_at label names k q is ls i l (and_parts (import_by label names k x y) (along_by label names k is ls) a).1 h g

pub from_at : (label : Labels) (names : NamesAt) (k j : ℕ) (ds : List Doc) (d : Doc) → from_by label names k ds ≡ true → slice_get ds j ≡ Some d
    → along_by label names (k + j) (imports_of d.document) d.imports ≡ true
from_at label names k j [] d a h = absurd (none-some d h)
from_at label names k zero (c ∷ ds) d a h =
    let e : k + 0 ≡ k = omega arith in
    ap (λ m. along_by label names m (imports_of d.document) d.imports) e
    ∙ subst (λ (x : Doc). along_by label names k (imports_of x.document) x.imports ≡ true) (same_Some c d h) (and_parts (along_by label names k (imports_of c.document) c.imports) (from_by label names (suc k) ds) a).0
from_at label names k (suc j) (c ∷ ds) d a h =
    let e : k + suc j ≡ suc k + j = omega arith in
    ap (λ m. along_by label names m (imports_of d.document) d.imports) e
    ∙ from_at label names (suc k) j ds d (and_parts (along_by label names k (imports_of c.document) c.imports) (from_by label names (suc k) ds) a).1 h

pub agrees_at : (label : Labels) (k j : ℕ) (aliases : List Alias) (ns : Names) (n : List ℕ) → agrees_on label k j aliases ns ≡ true → is_among n ns ≡ true
    → all_have (label k) (label j n) (given_for aliases n) ≡ true
agrees_at label k j aliases ns n a h = let p = among_place n ns h in at ns p.0 a p.1
  where
    at : (ns : Names) (p : ℕ) → agrees_on label k j aliases ns ≡ true → slice_get ns p ≡ Some n → all_have (label k) (label j n) (given_for aliases n) ≡ true
    at [] p a h = absurd (none-some n h)
    at (m ∷ ms) zero a h = subst (λ x. all_have (label k) (label j x) (given_for aliases x) ≡ true) (same_Some m n h) (and_parts (all_have (label k) (label j m) (given_for aliases m)) (agrees_on label k j aliases ms) a).0
    at (m ∷ ms) (suc p) a h = at ms p (and_parts (all_have (label k) (label j m) (given_for aliases m)) (agrees_on label k j aliases ms) a).1 h

-- an import gives each name some name
pub given_some : (aliases : List Alias) (n : List ℕ) → (m : List ℕ) × (ms : Names) × (given_for aliases n ≡ m ∷ ms)
given_some aliases n = on (aliases_for aliases n)
  where
    on : (xs : Names) → (m : List ℕ) × (ms : Names) × (or_itself n xs ≡ m ∷ ms)
    on [] = (n, [], refl)
    on (x ∷ xs) = (x, xs, refl)

given_among : (aliases : List Alias) (all ns : Names) (n m : List ℕ) (ms : Names) → all_among all (given aliases ns) ≡ true → is_among n ns ≡ true → given_for aliases n ≡ m ∷ ms → is_among m all ≡ true
given_among aliases all ns n m ms a h e = let p = among_place n ns h in at ns p.0 a p.1
  where
    at : (ns : Names) (p : ℕ) → all_among all (given aliases ns) ≡ true → slice_get ns p ≡ Some n → is_among m all ≡ true
    at [] p a h = absurd (none-some n h)
    at (x ∷ xs) zero a h =
        let q = (all_both all (given_for aliases x) (given aliases xs) a).0 in
        (and_parts (is_among m all) (all_among all ms) (subst (λ (y : Names). all_among all y ≡ true) (ap (given_for aliases) (same_Some x n h) ∙ e) q)).0
    at (x ∷ xs) (suc p) a h = at xs p (all_both all (given_for aliases x) (given aliases xs) a).1 h

-- the import of a link
pub import_there : (docs : List Doc) (base : List ℕ) (is : List Import) (ls : List Link) (q : ℕ) (l : Link) → are_links docs base is ls ≡ true → slice_get ls q ≡ Some l
    → (i : Import) × (slice_get is q ≡ Some i)
import_there docs base [] [] q l a h = absurd (none-some l h)
import_there docs base [] (y ∷ ls) q l a h = absurd (false≢true a)
import_there docs base (i ∷ is) [] q l a h = absurd (none-some l h)
import_there docs base (i ∷ is) (y ∷ ls) zero l a h = (i, refl)
import_there docs base (i ∷ is) (y ∷ ls) (suc q) l a h =
    import_there docs base is ls q l (and_parts (bytes_eq y.namespace (namespace_of i) && is_at (slice_get docs y.doc) (resolve base (uri_of i))) (are_links docs base is ls) a).1 h

pub contained : {A : Type 0} (xs : List A) (x : A) → Contains xs x → (q : ℕ) × (slice_get xs q ≡ Some x)
contained xs x c = (c.0, at xs c.0 c.1 c.2)
  where
    at : {A : Type 0} (ys : List A) {y : A} (q : ℕ) → q < length ys → get_or ys q y ≡ y → slice_get ys q ≡ Some y
    at [] q b e = absurd (omega arith)
    at (z ∷ zs) zero b e = ap Some e
    at (z ∷ zs) (suc q) b e = at zs q (omega arith) e

-- A name of a document, where a document before it imports that: the importing document gives it the same label.
pub record IsGiven (docs : List Doc) (names : NamesAt) (k : ℕ) (n : List ℕ) : Type 0 where
  pub number : ℕ
  pub before : number < k
  pub name : List ℕ
  pub there : is_among name (names number) ≡ true
  pub same : (label : Labels) → from_by label names 0 docs ≡ true → label number name ≡ label k n

pub is_given : (docs : List Doc) (names : NamesAt) (k : ℕ) (n : List ℕ) → list_all (has_links docs) docs ≡ true → AreReached docs → AreGiven names 0 docs
    → 0 < k → k < length docs → is_among n (names k) ≡ true → IsGiven docs names k n
is_given docs names k n linked reached a some within h = record {
  number = j;
  before = r.1;
  name = m;
  there = given_among i.aliases (names j) (names l.doc) n m g.1 all (subst (λ x. is_among n (names x) ≡ true) (sym r.2.2) h) g.2;
  same = same;
}
  where
    r : (j : ℕ) × (j < k) × ((l : Link) × Contains (links_at docs j) l × (l.doc ≡ k))
    r = reached k some within

    j : ℕ
    j = r.0

    l : Link
    l = r.2.0

    d : (d : Doc) × (slice_get docs j ≡ Some d)
    d = item_there docs j (omega (arith, r.1, within))

    q : (q : ℕ) × (slice_get d.0.imports q ≡ Some l)
    q = contained d.0.imports l (subst (λ (o : Option Doc). Contains (links_in o) l) d.1 r.2.1)

    found : (i : Import) × (slice_get (imports_of d.0.document) q.0 ≡ Some i)
    found = import_there docs d.0.path (imports_of d.0.document) d.0.imports q.0 l (all_at (has_links docs) docs j d.0 linked d.1) q.1

    i : Import
    i = found.0

    g : (m : List ℕ) × (ms : Names) × (given_for i.aliases n ≡ m ∷ ms)
    g = given_some i.aliases n

    m : List ℕ
    m = g.0

    zero_ : 0 + j ≡ j
    zero_ = omega arith

    all : all_among (names j) (given i.aliases (names l.doc)) ≡ true
    all = given_by names (names j) (imports_of d.0.document) d.0.imports q.0 i l (ap (λ x. all_among (names x) (imported_by names (imports_of d.0.document) d.0.imports)) (sym zero_) ∙ given_at names 0 j docs d.0 a d.1) found.1 q.1

    same : (label : Labels) → from_by label names 0 docs ≡ true → label j m ≡ label k n
    same label f =
        let along : along_by label names j (imports_of d.0.document) d.0.imports ≡ true = ap (λ x. along_by label names x (imports_of d.0.document) d.0.imports) (sym zero_) ∙ from_at label names 0 j docs d.0 f d.1 in
        let one = along_at label names j q.0 (imports_of d.0.document) d.0.imports i l along found.1 q.1 in
        let have = agrees_at label j l.doc i.aliases (names l.doc) n one (subst (λ x. is_among n (names x) ≡ true) (sym r.2.2) h) in
        let head = (and_parts (bytes_eq (label j m) (label l.doc n)) (all_have (label j) (label l.doc n) g.1) (subst (λ (xs : Names). all_have (label j) (label l.doc n) xs ≡ true) g.2 have)).0 in
        (bytes_eq-Decides (label j m) (label l.doc n)).0 head ∙ ap (λ x. label x n) r.2.2

-- each name is that of one of document 0
pub record IsFirst (docs : List Doc) (names : NamesAt) (k : ℕ) (n : List ℕ) : Type 0 where
  pub name : List ℕ
  pub there : is_among name (names 0) ≡ true
  pub same : (label : Labels) → from_by label names 0 docs ≡ true → label 0 name ≡ label k n

module _ (docs : List Doc) (names : NamesAt) (linked : list_all (has_links docs) docs ≡ true) (reached : AreReached docs) (a : AreGiven names 0 docs) where
  first_below : (m k : ℕ) (n : List ℕ) → k < m → k < length docs → is_among n (names k) ≡ true → IsFirst docs names k n
  first_below zero k n b w h = absurd (omega arith)
  first_below (suc m) zero n b w h = record { name = n; there = h; same = λ label f. refl }
  first_below (suc m) (suc k) n b w h =
      let s = is_given docs names (suc k) n linked reached a (omega arith) w h in
      let below = s.before in
      let r = first_below m s.number s.name (omega (arith, below, b)) (omega (arith, below, w)) s.there in
      record { name = r.name; there = r.there; same = λ label f. r.same label f ∙ s.same label f }

  pub is_first : (k : ℕ) (n : List ℕ) → k < length docs → is_among n (names k) ≡ true → IsFirst docs names k n
  is_first k n w h = first_below (suc k) k n (omega arith) w h

-- ---- labels by numbers

decode : List Names → Labels → ℕ → Marks
decode [] label k x = []
decode (t ∷ ts) label k x = if nat_lt x (length t) then label k (get_or t x []) else decode ts label (suc k) (x - length t)

pub get_get : (ns : Names) (p : ℕ) (n d : List ℕ) → slice_get ns p ≡ Some n → get_or ns p d ≡ n
get_get [] p n d h = absurd (none-some n h)
get_get (m ∷ ns) zero n d h = same_Some m n h
get_get (m ∷ ns) (suc p) n d h = get_get ns p n d h

pub get_below : (ns : Names) (p : ℕ) (n : List ℕ) → slice_get ns p ≡ Some n → p < length ns
get_below ns p n h = get_within ns p (λ e. none-some n (sym e ∙ h))

decode_at : (tables : List Names) (label : Labels) (k j p : ℕ) (n : List ℕ) → slice_get (names_of tables j) p ≡ Some n → decode tables label k (start tables j + p) ≡ label (k + j) n
unfolding decode
decode_at [] label k j p n h = absurd (none-some n h)
decode_at (t ∷ ts) label k zero p n h =
    let e : 0 + p ≡ p = omega arith in
    let z : k ≡ k + 0 = omega arith in
    ap (decode (t ∷ ts) label k) e ∙ cond-true (nat_lt p (length t)) _ _ (lt-ltb p (length t) (get_below t p n h)) ∙ ap (label k) (get_get t p n [] h) ∙ ap (λ m. label m n) z
decode_at (t ∷ ts) label k (suc j) p n h =
    let e : length t + start ts j + p - length t ≡ start ts j + p = omega arith in
    let z : suc k + j ≡ k + suc j = omega arith in
    cond-false (nat_lt (length t + start ts j + p) (length t)) _ _ (le-ltb (length t + start ts j + p) (length t) (omega arith))
    ∙ ap (decode ts label (suc k)) e ∙ decode_at ts label (suc k) j p n h ∙ ap (λ m. label m n) z

pub start_zero : (tables : List Names) → start tables 0 ≡ 0
start_zero [] = refl
start_zero (t ∷ ts) = refl

pub label_unknown : (g : Marks) (x : ℕ) (ns : Names) (n : List ℕ) → is_among n ns ≡ false → label_from g x ns n ≡ n
label_unknown g x [] n h = refl
label_unknown g x (m ∷ ms) n h = on (label_unknown g (suc x) ms n) (bytes_eq m n) h
  where
    on : (is_among n ms ≡ false → label_from g (suc x) ms n ≡ n) → (b : Bool) → b || is_among n ms ≡ false → (if b then g x else label_from g (suc x) ms n) ≡ n
    on more true q = absurd (true≢false q)
    on more false q = more q

-- a number is that of a name
numbered : (tables : List Names) (x : ℕ) → x < total tables → (k : ℕ) × (p : ℕ) × (n : List ℕ) × (k < length tables) × (slice_get (names_of tables k) p ≡ Some n) × (x ≡ start tables k + p)
numbered [] x h = absurd (omega arith)
numbered (t ∷ ts) x h = elim (cases_lt x (length t)) as (λ c. (k : ℕ) × (p : ℕ) × (n : List ℕ) × (k < length (t ∷ ts)) × (slice_get (names_of (t ∷ ts) k) p ≡ Some n) × (x ≡ start (t ∷ ts) k + p)) [
  | inl l ↦ let n = item_there t x l in let e : x ≡ 0 + x = omega arith in (0, x, n.0, omega arith, n.1, e)
  | inr g ↦
      let r = numbered ts (x - length t) (omega (arith, g, h)) in
      let e = r.5 in
      (suc r.0, r.1, r.2, omega (arith, r.3), r.4, omega (arith, e, g))
]

-- the structs of documents by their tables
pub structs_are : (g : Marks) (docs : List Doc) (tables : List Names) (k : ℕ) → length tables ≡ length docs
    → structs_at (with_stands docs (all_stands g 0 tables)) k ≡ stands_from g (start tables k) (names_of tables k)
structs_are g docs tables k h =
    let e : 0 + start tables k ≡ start tables k = omega arith in structs_with g 0 docs tables k h ∙ ap (λ x. stands_from g x (names_of tables k)) e

pub names_with : (g : Marks) (docs : List Doc) (tables : List Names) → length tables ≡ length docs → names_at (with_stands docs (all_stands g 0 tables)) ≡ names_of tables
names_with g docs tables h = let r = (λ (k : ℕ). ap names_in (structs_are g docs tables k h) ∙ stands_names g (start tables k) (names_of tables k)) in λ i k. r k i

-- documents whose tables are what they see have the names that they see
pub all_seen : (names : NamesAt) (whole : List Doc) → names_at whole ≡ names → (g : Marks) (x : ℕ) (ds : List Doc) (ts : List Names) → length ts ≡ length ds
    → ((j : ℕ) (d : Doc) → slice_get ds j ≡ Some d → names_or (slice_get ts j) ≡ seen_by names d) → list_all (has_names whole) (with_stands ds (all_stands g x ts)) ≡ true
all_seen names whole e g x [] ts l h = refl
all_seen names whole e g x (d ∷ ds) [] l h = absurd (omega (arith, l))
all_seen names whole e g x (d ∷ ds) (t ∷ ts) l h =
    let same : names_in (stands_from g x t) ≡ once (own_names d ++ imported whole (imports_of d.document) d.imports) =
    stands_names g x t ∙ h 0 d refl ∙ ap (λ (f : NamesAt). seen_by f d) (sym e) ∙ ap (λ r. once (own_names d ++ r)) (sym (imported_is whole (imports_of d.document) d.imports)) in
    and_from (names_eq (names_in (stands_from g x t)) (once (own_names d ++ imported whole (imports_of d.document) d.imports))) (list_all (has_names whole) (with_stands ds (all_stands g (x + length t) ts)))
    (ap (names_eq (names_in (stands_from g x t))) (sym same) ∙ names_eq-refl (names_in (stands_from g x t)))
    (all_seen names whole e g (x + length t) ds ts (omega (arith, l)) (λ j c at. h (suc j) c at))

module _ (docs : List Doc) (tables : List Names) (starts parents : List ℕ) (linked : list_all (has_links docs) docs ≡ true) (reached : AreReached docs) (s : AreSeen docs tables)
    (c : AreClasses docs tables starts parents) where
  names : NamesAt
  names = names_of tables

  -- what has a number has the mark of that
  label_is : (g : Marks) (k p : ℕ) (n : List ℕ) → slice_get (names_of tables k) p ≡ Some n → label_by tables g k n ≡ g (start tables k + p)
  label_is g k p n h = label_at g (start tables k) (names_of tables k) n p (tables_distinct docs tables s k) h

  -- labels that agree, by numbers
  follows_label : (label : Labels) → from_by label (names_of tables) 0 docs ≡ true → Follows parents (decode tables label 0)
  follows_label label f = (c.follows (decode tables label 0)).1 (from_same (label_by tables (decode tables label 0)) label (names_of tables) 0 docs known (are_given docs tables s) ∙ f)
    where
      known : (j : ℕ) (n : List ℕ) → is_among n (names_of tables j) ≡ true → label_by tables (decode tables label 0) j n ≡ label j n
      known j n h = let p = among_place n (names_of tables j) h in
          label_is (decode tables label 0) j p.0 n p.1 ∙ decode_at tables label 0 j p.0 n p.1 ∙ ap (λ m. label m n) (same j)
        where
          same : (j : ℕ) → 0 + j ≡ j
          same j = omega arith

  -- names in one class have one label
  pub one_class : (label : Labels) (j k p q : ℕ) (n m : List ℕ) → from_by label (names_of tables) 0 docs ≡ true → slice_get (names_of tables j) p ≡ Some n → slice_get (names_of tables k) q ≡ Some m
      → root parents (start tables j + p) ≡ root parents (start tables k + q) → label j n ≡ label k m
  one_class label j k p q n m f h i e =
      let g = follows_label label f in
      sym (at j p n h) ∙ sym (root_follows parents (decode tables label 0) (start tables j + p) g) ∙ ap (decode tables label 0) e ∙ root_follows parents (decode tables label 0) (start tables k + q) g ∙ at k q m i
    where
      at : (j p : ℕ) (n : List ℕ) → slice_get (names_of tables j) p ≡ Some n → decode tables label 0 (start tables j + p) ≡ label j n
      at j p n h = decode_at tables label 0 j p n h ∙ ap (λ m. label m n) (same j)
        where
          same : (j : ℕ) → 0 + j ≡ j
          same j = omega arith

  roots : Marks
  roots x = root parents x ∷ []

  roots_agree : from_by (label_by tables roots) (names_of tables) 0 docs ≡ true
  unfolding roots
  roots_agree = (c.follows roots).0 (by_roots parents (λ r. r ∷ []) c.low)

  -- each class has a name of document 0
  pub lead_first : LeadFirst (names_of tables 0) parents
  unfolding roots
  lead_first x within =
      let at = numbered tables x (subst (λ n. x < n) c.len within) in
      let k = at.0 in let p = at.1 in let n = at.2 in
      let f = is_first docs (names_of tables) linked reached (are_given docs tables s) k n (subst (λ m. k < m) s.0 at.3) (among_at n (names_of tables k) p at.4) in
      let q = among_place f.name (names_of tables 0) f.there in
      let e : (root parents (start tables 0 + q.0) ∷ []) ≡ (root parents (start tables k + p) ∷ []) =
      sym (label_is roots 0 q.0 f.name q.1) ∙ f.same (label_by tables roots) roots_agree ∙ label_is roots k p n at.4 in
      let low = root_low parents (start tables 0 + q.0) c.low in
      let below = get_below (names_of tables 0) q.0 f.name q.1 in
      let z = start_zero tables in
      let same : root parents (start tables 0 + q.0) ≡ root parents x = head _ _ e ∙ ap (root parents) (sym at.5) in
      omega (arith, low, below, z, same)
    where
      head : (a b : ℕ) → a ∷ [] ≡ b ∷ [] → a ≡ b
      head a b e = cc

  abbrev pub mark : Marks
  mark = mark_of (names_of tables 0) parents

  pub named : List Doc
  named = with_stands docs (all_stands (mark_of (names_of tables 0) parents) 0 tables)

  pub named_is : named ≡ with_stands docs (all_stands (mark_of (names_of tables 0) parents) 0 tables)
  unfolding named
  named_is = refl

  pub structs_named : (k : ℕ) → structs_at named k ≡ stands_from mark (start tables k) (names_of tables k)
  unfolding named
  structs_named k = let e : 0 + start tables k ≡ start tables k = omega arith in structs_with mark 0 docs tables k s.0 ∙ ap (λ x. stands_from mark x (names_of tables k)) e

  pub names_named : names_at named ≡ names_of tables
  names_named = let h = (λ (k : ℕ). ap names_in (structs_named k) ∙ stands_names mark (start tables k) (names_of tables k)) in λ i k. h k i

  pub stand_named : stand_at named ≡ label_by tables mark
  stand_named = let h = (λ (k : ℕ) (n : List ℕ). ap (λ ss. stand_in ss n) (structs_named k) ∙ stands_label mark (start tables k) (names_of tables k) n) in λ i k n. h k n i

  pub bare_named : map bare docs ≡ map bare named
  unfolding named
  bare_named = with_bare docs (all_stands (mark_of (names_of tables 0) parents) 0 tables) (stands_length (mark_of (names_of tables 0) parents) 0 tables ∙ s.0)

  pub agrees_named : (label : Labels) → agrees label named ≡ from_by label (names_of tables) 0 docs
  agrees_named label = from_is label named 0 named ∙ ap (λ (f : NamesAt). from_by label f 0 named) names_named ∙ sym (bare_along label (names_of tables) 0 docs named bare_named)

  pub agreeing : agrees (stand_at named) named ≡ true
  unfolding mark_of
  agreeing = agrees_named (stand_at named) ∙ ap (λ (l : Labels). from_by l (names_of tables) 0 docs) stand_named
      ∙ (c.follows mark).0 (by_roots parents (λ r. get_or (names_of tables 0) r []) c.low)

  first_from : (before : Names) (x : ℕ) (ns : Names) → ((r : ℕ) → r < x → is_among (get_or (names_of tables 0) r []) before ≡ true)
      → ((p : ℕ) (n : List ℕ) → slice_get ns p ≡ Some n → get_or (names_of tables 0) (x + p) [] ≡ n) → are_first before (stands_from mark x ns) ≡ true
  unfolding mark_of
  first_from before x [] b h = refl
  first_from before x (n ∷ ns) b h =
      let low = root_low parents x c.low in
      let e : x + 0 ≡ x = omega arith in
      let here : get_or (names_of tables 0) x [] ≡ n = ap (λ y. get_or (names_of tables 0) y []) (sym e) ∙ h 0 n refl in
      and_from (is_among (mark x) (n ∷ before)) (are_first (n ∷ before) (stands_from mark (suc x) ns)) (
      elim (cases_eq (root parents x) x) as (λ z. is_among (mark x) (n ∷ before) ≡ true) [
        | inl i ↦ or_left (bytes_eq n (mark x)) (is_among (mark x) before) ((bytes_eq-Decides n (mark x)).1 (sym (ap (λ y. get_or (names_of tables 0) y []) i ∙ here)))
        | inr ne ↦ or_right (bytes_eq n (mark x)) (is_among (mark x) before) (b (root parents x) (under (root parents x) x low ne))
      ]
      ) (first_from (n ∷ before) (suc x) ns
      (λ r l. elim (cases_eq r x) as (λ z. is_among (get_or (names_of tables 0) r []) (n ∷ before) ≡ true) [
        | inl i ↦ or_left (bytes_eq n (get_or (names_of tables 0) r [])) (is_among (get_or (names_of tables 0) r []) before)
            ((bytes_eq-Decides n (get_or (names_of tables 0) r [])).1 (sym (ap (λ y. get_or (names_of tables 0) y []) i ∙ here)))
        | inr ne ↦ or_right (bytes_eq n (get_or (names_of tables 0) r [])) (is_among (get_or (names_of tables 0) r []) before) (b r (less r x l ne))
      ]) (λ p m at. ap (λ y. get_or (names_of tables 0) y []) (moved p) ∙ h (suc p) m at))
    where
      under : (r x : ℕ) → r ≤ x → (r ≡ x → ⊥) → r < x
      under r x l ne = omega (arith, l, ne)

      less : (r x : ℕ) → r < suc x → (r ≡ x → ⊥) → r < x
      less r x l ne = omega (arith, l, ne)

      moved : (p : ℕ) → suc x + p ≡ x + suc p
      moved p = omega arith

  pub first_named : are_first [] (structs_at named 0) ≡ true
  first_named = ap (are_first []) (structs_named 0 ∙ ap (λ x. stands_from mark x (names_of tables 0)) (start_zero tables))
      ∙ first_from [] 0 (names_of tables 0) (λ r l. absurd (no l)) (λ p n at. ap (λ y. get_or (names_of tables 0) y []) (same p) ∙ get_get (names_of tables 0) p n [] at)
    where
      no : {r : ℕ} → r < 0 → ⊥
      no l = omega (arith, l)

      same : (p : ℕ) → 0 + p ≡ p
      same p = omega arith

  pub joined_named : (n : List ℕ) → IsSameStruct named 0 n 0 (stand_at named 0 n)
  unfolding mark_of
  joined_named n label f = elim (cases_Bool (is_among n (names_of tables 0))) as (λ z. label 0 n ≡ label 0 (stand_at named 0 n)) [
    | inl h ↦
        let p = among_place n (names_of tables 0) h in
        let z : start tables 0 + p.0 ≡ p.0 = ap (λ x. x + p.0) (start_zero tables) ∙ zero_ p.0 in
        let low = root_low parents p.0 c.low in
        let below = get_below (names_of tables 0) p.0 n p.1 in
        let m = item_there (names_of tables 0) (root parents p.0) (omega (arith, low, below)) in
        let stand : stand_at named 0 n ≡ m.0 = ap (λ (l : Labels). l 0 n) stand_named ∙ label_is mark 0 p.0 n p.1 ∙ ap mark z ∙ get_get (names_of tables 0) (root parents p.0) m.0 [] m.1 in
        let top : root parents (root parents p.0) ≡ root parents p.0 = root_itself parents (root parents p.0) (root_top parents p.0 c.low) in
        let y : start tables 0 + root parents p.0 ≡ root parents p.0 = ap (λ x. x + root parents p.0) (start_zero tables) ∙ zero_ (root parents p.0) in
        one_class label 0 0 p.0 (root parents p.0) n m.0 (sym (agrees_named label) ∙ f) p.1 m.1 (ap (root parents) z ∙ sym top ∙ ap (root parents) (sym y)) ∙ ap (label 0) (sym stand)
    | inr h ↦ ap (label 0) (sym (ap (λ (l : Labels). l 0 n) stand_named ∙ label_unknown mark (start tables 0) (names_of tables 0) n h))
  ]
    where
      zero_ : (x : ℕ) → 0 + x ≡ x
      zero_ x = omega arith

  -- each document has the names that it sees
  pub seen_named : list_all (has_names named) named ≡ true
  unfolding named
  seen_named = all_seen (names_of tables) named names_named (mark_of (names_of tables 0) parents) 0 docs tables s.0 s.1
