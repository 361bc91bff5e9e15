-- Classes of names that are joined along imports.
use Rattle.std.proofs.Common.{◌≡◌, ◌↔◌, ℕ, zero, suc, ◌+◌, ◌<◌, ◌≤◌, true, false, not, ◌&&◌, List, [], ◌∷◌, ◌++◌, length, take, drop, get_or, slice_get, Some, refl, sym, ap, ◌∙◌, arith}
use Rattle.std.specs.Prelude.{OnOk, Result, Ok, Err}
use Rattle.std.specs.Str.{bytes_eq}
use Rattle.std.proofs.lemmas.Bool.{true≢false, and_parts, and_from, not-true, cond-true, cond-false, false_from_ne_true}
use Rattle.std.proofs.lemmas.Slice.Eq.{bytes_eq-Decides}
use Rattle.std.proofs.lemmas.Option.{same_Some, none-some}
use Rattle.wdl_base.specs.Names.{is_among}
use Rattle.wdl_typed.specs.Lists.{has_name, are_distinct}
use Rattle.wdl_ast.specs.declared.document.Alias.{Alias}
use Rattle.wdl_ast.specs.declared.document.Import.{Import}
use Rattle.wdl_library.specs.declared.doc.Doc.{Doc}
use Rattle.wdl_library.specs.declared.doc.Link.{Link}
use Rattle.wdl_library.specs.Sections.{imports_of}
use Rattle.wdl_library.specs.Names.{given, given_for}
use Rattle.wdl_library.specs.Structs.{Labels, all_have, agrees_on}
use Rattle.wdl_structs.specs.Classes.{parent, Marks, Follows, IsLow, IsJoined}
use Rattle.wdl_structs.specs.Tables.{Names, NamesAt, names_of, groups}
use Rattle.wdl_structs.specs.Nodes.{start, starts_from, total, AreNumbered, label_from, label_by, holds_groups, import_by, along_by, from_by, AreClasses, Test, AreJoined, all_among, groups_among}
use Rattle.wdl_structs.proofs.NameLaws.{among_at, same_among}

-- ---- classes that are joined one after another

pub record IsJoining (old ps : List ℕ) (test rest : Test) : Type 0 where
  pub low : IsLow ps
  pub len : length ps ≡ length old
  pub follows : (g : Marks) → (Follows ps g × (rest g ≡ true)) ↔ (Follows old g × (test g ≡ true))

pub joining_none : (old : List ℕ) (test : Test) → IsLow old → IsJoining old old test test
joining_none old test low = record { low = low; len = refl; follows = λ g. (λ x. x, λ x. x) }

pub joining_more : (old ps new : List ℕ) (test rest one later : Test) → IsJoining old ps test rest → AreJoined ps new one → ((g : Marks) → rest g ≡ (one g && later g)) → IsJoining old new test later
joining_more old ps new test rest one later j s e = record {
  low = s.low;
  len = s.len ∙ j.len;
  follows = λ g. (
    λ h. let f = (s.follows g).0 h.0 in (j.follows g).0 (f.0, e g ∙ and_from (one g) (later g) f.1 h.1),
    λ h. let r = (j.follows g).1 h in let p = and_parts (one g) (later g) (sym (e g) ∙ r.1) in ((s.follows g).1 (r.0, p.0), p.1),
  );
}

pub joining_done : (old ps : List ℕ) (test rest : Test) → IsJoining old ps test rest → ((g : Marks) → rest g ≡ true) → AreJoined old ps test
joining_done old ps test rest j e = record {
  low = j.low;
  len = j.len;
  follows = λ g. (λ f. (j.follows g).0 (f, e g), λ h. ((j.follows g).1 h).0);
}

pub joined_nothing : (old : List ℕ) (test : Test) → IsLow old → ((g : Marks) → test g ≡ true) → AreJoined old old test
joined_nothing old test low e = joining_done old old test test (joining_none old test low) e

pub joined_as : (old new : List ℕ) (test other : Test) → ((g : Marks) → test g ≡ other g) → AreJoined old new test → AreJoined old new other
joined_as old new test other e j = record {
  low = j.low;
  len = j.len;
  follows = λ g. (λ f. let r = (j.follows g).0 f in (r.0, sym (e g) ∙ r.1), λ h. (j.follows g).1 (h.0, e g ∙ h.1));
}

-- ---- marks of names

pub label_at : (g : Marks) (x : ℕ) (ns : Names) (n : List ℕ) (p : ℕ) → are_distinct ns ≡ true → slice_get ns p ≡ Some n → label_from g x ns n ≡ g (x + p)
label_at g x [] n p d h = absurd (none-some n h)
label_at g x (m ∷ ms) n zero d h =
    let e : x ≡ x + 0 = omega arith in
    cond-true (bytes_eq m n) _ _ ((bytes_eq-Decides m n).1 (same_Some m n h)) ∙ ap g e
label_at g x (m ∷ ms) n (suc p) d h =
    let q = and_parts (not (has_name m ms)) (are_distinct ms) d in
    let e : suc x + p ≡ x + suc p = omega arith in
    cond-false (bytes_eq m n) _ _ (false_from_ne_true (bytes_eq m n) (λ t. apart (not-true (has_name m ms) q.0) ((bytes_eq-Decides m n).0 t)))
    ∙ label_at g (suc x) ms n p q.1 h ∙ ap g e
  where
    apart : has_name m ms ≡ false → m ≡ n → ⊥
    apart f i = true≢false (sym (among_at n ms p h) ∙ ap (λ y. is_among y ms) (sym i) ∙ sym (same_among m ms) ∙ f)

-- one name more of a group
pub joined_name : (ps new : List ℕ) (x : ℕ) (ns : Names) (n : List ℕ) (p from : ℕ) → are_distinct ns ≡ true → slice_get ns p ≡ Some n
    → IsLow new → length new ≡ length ps → IsJoined ps new from (x + p) → AreJoined ps new (λ h. bytes_eq (label_from h x ns n) (h from))
joined_name ps new x ns n p from d at low len j = record {
  low = low;
  len = len;
  follows = λ h. (
    λ f. let r = (j h).0 f in (r.0, (bytes_eq-Decides (label_from h x ns n) (h from)).1 (label_at h x ns n p d at ∙ sym r.1)),
    λ r. (j h).1 (r.0, sym ((bytes_eq-Decides (label_from h x ns n) (h from)).0 r.1) ∙ label_at h x ns n p d at),
  );
}

-- ---- where names begin

pub starts_at : (x : ℕ) (tables : List Names) (k : ℕ) → k < length tables → slice_get (starts_from x tables) k ≡ Some (x + start tables k)
starts_at x [] k h = absurd (omega arith)
starts_at x (t ∷ ts) zero h = let e : x ≡ x + 0 = omega arith in ap Some e
starts_at x (t ∷ ts) (suc k) h = let e : x + length t + start ts k ≡ x + (length t + start ts k) = omega arith in starts_at (x + length t) ts k (omega arith) ∙ ap Some e

pub starts_length : (x : ℕ) (tables : List Names) → length (starts_from x tables) ≡ length tables
starts_length x [] = refl
starts_length x (t ∷ ts) = ap suc (starts_length (x + length t) ts)

pub room_at : (tables : List Names) (k : ℕ) → k < length tables → start tables k + length (names_of tables k) ≤ total tables
room_at [] k h = absurd (omega arith)
room_at (t ∷ ts) zero h = omega arith
room_at (t ∷ ts) (suc k) h = let r = room_at ts k (omega arith) in omega (arith, r)

pub no_names : (tables : List Names) (k : ℕ) → (k < length tables → ⊥) → names_of tables k ≡ []
no_names [] k h = refl
no_names (t ∷ ts) zero h = absurd (h (omega arith))
no_names (t ∷ ts) (suc k) h = no_names ts k (λ b. h (more b))
  where
    more : k < length ts → suc k < length (t ∷ ts)
    more b = omega (arith, b)

-- ---- what an import gives

all_append : (ns ms ks : Names) → all_among ns (ms ++ ks) ≡ true → (all_among ns ms ≡ true) × (all_among ns ks ≡ true)
all_append ns [] ks h = (refl, h)
all_append ns (m ∷ ms) ks h =
    let p = and_parts (is_among m ns) (all_among ns (ms ++ ks)) h in
    let r = all_append ns ms ks p.1 in
    (and_from (is_among m ns) (all_among ns ms) p.0 r.0, r.1)

pub all_both : (ns ms ks : Names) → all_among ns (ms ++ ks) ≡ true → (all_among ns ms ≡ true) × (all_among ns ks ≡ true)
all_both = all_append

pub groups_given : (ns ms : Names) (aliases : List Alias) → all_among ns (given aliases ms) ≡ true → groups_among ns (groups aliases ms) ≡ true
groups_given ns [] aliases h = refl
groups_given ns (m ∷ ms) aliases h =
    let p = all_append ns (given_for aliases m) (given aliases ms) h in
    and_from (all_among ns (given_for aliases m)) (groups_among ns (groups aliases ms)) p.0 (groups_given ns ms aliases p.1)

pub groups_agree : (label : Labels) (g : Marks) (k j x : ℕ) (aliases : List Alias) (ns : Names)
    → ((p : ℕ) (n : List ℕ) → slice_get ns p ≡ Some n → label j n ≡ g (x + p)) → holds_groups (label k) g x (groups aliases ns) ≡ agrees_on label k j aliases ns
groups_agree label g k j x aliases [] h = refl
groups_agree label g k j x aliases (n ∷ ns) h =
    let e : x + 0 ≡ x = omega arith in
    ap (λ y. all_have (label k) y (given_for aliases n) && holds_groups (label k) g (suc x) (groups aliases ns)) (sym (h 0 n refl ∙ ap g e))
    ∙ ap (λ b. all_have (label k) (label j n) (given_for aliases n) && b) (groups_agree label g k j (suc x) aliases ns (λ p m at. h (suc p) m at ∙ ap g (moved p)))
  where
    moved : (p : ℕ) → x + suc p ≡ suc x + p
    moved p = omega arith

pub import_joined : (tables : List Names) (g : Marks) (k : ℕ) (i : Import) (l : Link) → are_distinct (names_of tables l.doc) ≡ true
    → holds_groups (label_by tables g k) g (start tables l.doc) (groups i.aliases (names_of tables l.doc)) ≡ import_by (label_by tables g) (names_of tables) k i l
import_joined tables g k i l d = groups_agree (label_by tables g) g k l.doc (start tables l.doc) i.aliases (names_of tables l.doc)
    (λ p n at. label_at g (start tables l.doc) (names_of tables l.doc) n p d at)

pub holds_next : (label : Marks → List ℕ → List ℕ) (g : Marks) (first at : ℕ) (group : Names) (gs later : List Names) → gs ≡ group ∷ later
    → holds_groups (label g) g (first + at) gs ≡ (all_have (label g) (g (first + at)) group && holds_groups (label g) g (first + (at + 1)) later)
holds_next label g first at group gs later e =
    let n : suc (first + at) ≡ first + (at + 1) = omega arith in
    ap (holds_groups (label g) g (first + at)) e ∙ ap (λ m. all_have (label g) (g (first + at)) group && holds_groups (label g) g m later) n

pub import_nothing : (tables : List Names) (g : Marks) (k : ℕ) (i : Import) (l : Link) → length tables ≤ l.doc → import_by (label_by tables g) (names_of tables) k i l ≡ true
import_nothing tables g k i l h = ap (agrees_on (label_by tables g) k l.doc i.aliases) (no_names tables l.doc (λ b. omega (arith, b, h)))

pub groups_length : (aliases : List Alias) (ns : Names) → length (groups aliases ns) ≡ length ns
groups_length aliases [] = refl
groups_length aliases (n ∷ ns) = ap suc (groups_length aliases ns)

pub start_read : (tables : List Names) (starts : List ℕ) (k : ℕ) → starts ≡ starts_from 0 tables → k < length tables → get_or starts k 0 ≡ start tables k
start_read tables starts k e h = read starts k (0 + start tables k) (ap (λ (s : List ℕ). slice_get s k) e ∙ starts_at 0 tables k h) ∙ zero_ (start tables k)
  where
    zero_ : (n : ℕ) → 0 + n ≡ n
    zero_ n = omega arith

    read : (xs : List ℕ) (k x : ℕ) → slice_get xs k ≡ Some x → get_or xs k 0 ≡ x
    read [] k x h = absurd (none-some x h)
    read (y ∷ ys) zero x h = same_Some y x h
    read (y ∷ ys) (suc k) x h = read ys k x h

pub import_is : (tables : List Names) (g : Marks) (k : ℕ) (i : Import) (l : Link) (x first : ℕ) (ns : Names) (gs : List Names) → are_distinct (names_of tables l.doc) ≡ true
    → x ≡ start tables k → ns ≡ names_of tables k → first ≡ start tables l.doc → gs ≡ groups i.aliases (names_of tables l.doc)
    → holds_groups (label_from g x ns) g first gs ≡ import_by (label_by tables g) (names_of tables) k i l
import_is tables g k i l x first ns gs d a b c e =
    ap (λ y. holds_groups (label_from g y ns) g first gs) a ∙ ap (λ (y : Names). holds_groups (label_from g (start tables k) y) g first gs) b
    ∙ ap (λ y. holds_groups (label_by tables g k) g y gs) c ∙ ap (holds_groups (label_by tables g k) g (start tables l.doc)) e ∙ import_joined tables g k i l d

pub along_none : (label : Labels) (names : NamesAt) (k : ℕ) (is : List Import) (ls : List Link) → length ls < 1 → along_by label names k is ls ≡ true
along_none label names k [] ls h = refl
along_none label names k (i ∷ is) [] h = refl
along_none label names k (i ∷ is) (l ∷ ls) h = absurd (omega (arith, h))

pub classes_are : (docs : List Doc) (tables : List Names) (starts old new : List ℕ) → AreNumbered tables starts old
    → AreJoined old new (λ g. from_by (label_by tables g) (names_of tables) 0 docs) → AreClasses docs tables starts new
classes_are docs tables starts old new n j = record {
  starts_are = n.starts_are;
  len = j.len ∙ n.len;
  low = j.low;
  follows = λ g. (λ f. ((j.follows g).0 f).1, λ t. (j.follows g).1 ((λ i. ap g (n.alone i)), t));
}

pub alone_low : (ps : List ℕ) → ((i : ℕ) → parent ps i ≡ i) → IsLow ps
alone_low ps h i = let e = h i in omega (arith, e)

take_all : (xs : List ℕ) (n : ℕ) → n ≡ length xs → take n xs ≡ xs
take_all [] zero e = refl
take_all [] (suc n) e = absurd (omega (arith, e))
take_all (x ∷ xs) zero e = absurd (omega (arith, e))
take_all (x ∷ xs) (suc n) e = ap (λ r. x ∷ r) (take_all xs n (omega (arith, e)))

drop_none : (xs : List ℕ) (n : ℕ) → length xs ≤ n → drop n xs ≡ []
drop_none [] zero e = refl
drop_none [] (suc n) e = refl
drop_none (x ∷ xs) zero e = absurd (omega (arith, e))
drop_none (x ∷ xs) (suc n) e = drop_none xs n (omega (arith, e))

append_none : (xs : List ℕ) → xs ++ [] ≡ xs
append_none [] = refl
append_none (x ∷ xs) = ap (λ r. x ∷ r) (append_none xs)

-- what a whole slice leaves in its list
pub put_back : (old new : List ℕ) (n : ℕ) → length new ≡ length old → n ≡ length old → take n (new ++ drop (length new) old) ≡ new
put_back old new n e k =
    ap (λ (r : List ℕ). take n (new ++ r)) (drop_none old (length new) (omega (arith, e))) ∙ ap (take n) (append_none new) ∙ take_all new n (k ∙ sym e)

pub joined_ok : {E : Type 0} (r : Result (Unit {0}) E) (old new : List ℕ) (test other : Test) → ((g : Marks) → test g ≡ other g) → OnOk r (AreJoined old new test) → OnOk r (AreJoined old new other)
joined_ok (Ok u) old new test other e j = joined_as old new test other e j
joined_ok (Err f) old new test other e j = tt

pub from_next : (label : Marks → Labels) (names : NamesAt) (g : Marks) (k : ℕ) (all later : List Doc) (d : Doc) → all ≡ d ∷ later
    → from_by (label g) names k all ≡ (along_by (label g) names k (imports_of d.document) d.imports && from_by (label g) names (k + 1) later)
from_next label names g k all later d e =
    let n : suc k ≡ k + 1 = omega arith in
    ap (from_by (label g) names k) e ∙ ap (λ m. along_by (label g) names k (imports_of d.document) d.imports && from_by (label g) names m later) n

pub first_room : (tables : List Names) → length (names_of tables 0) ≤ total tables
first_room [] = omega arith
first_room (t ∷ ts) = omega arith
