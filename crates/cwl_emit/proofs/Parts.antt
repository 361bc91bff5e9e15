-- Each part that JSON stands for is written as that JSON, with members in byte order and no floats.
use Rattle.std.proofs.Common.{◌≡◌, ℕ, Bool, true, false, ◌&&◌, List, [], ◌∷◌, map, Option, Some, option_map, bytes_eq, refl, ap, ◌∙◌, subst}
use Rattle.std.proofs.lemmas.Bool.{false≢true, and_parts, and_from, or_from}
use Rattle.std.proofs.lemmas.Slice.Eq.{bytes_eq-Decides}
use Rattle.std.proofs.lemmas.Option.{same_Some}
use Rattle.serde_json.specs.Data.{Data, string, array, object, Items, no_items, item, Members, no_members, member}
use Rattle.serde_json.specs.View.{items_of}
use Rattle.serde_json.specs.Written.{has_float, items_have_float, members_have_float}
use Rattle.wdl_base.specs.Plain.{has_nul}
use Rattle.json_values.specs.Ordered.{is_ordered, items_ordered, members_ordered, is_first}
use Rattle.cwl_emit.specs.Reading.{plain, text_of, is_text, all_of, list_of, has_names, with2, with3, with4, with5}
use Rattle.cwl_emit.specs.Writing.{list}
use Rattle.wdl_base.proofs.Options.{map_parts, then_parts, refused_parts}

-- ---- answers that came

pub record Two {A B R : Type 0} (f : A → B → R) (a : Option A) (b : Option B) (r : R) : Type 0 where
  pub x : A
  pub y : B
  pub first : a ≡ Some x
  pub second : b ≡ Some y
  pub made : f x y ≡ r

pub of_two : {A B R : Type 0} (f : A → B → R) (a : Option A) (b : Option B) (r : R) → with2 f a b ≡ Some r → Two f a b r
of_two f a b r h =
    let p = then_parts (λ x. option_map (f x) b) a r h in
    let q = map_parts (f p.0) b r p.2 in
    record { x = p.0; y = q.0; first = p.1; second = q.1; made = q.2 }

pub record Three {A B C R : Type 0} (f : A → B → C → R) (a : Option A) (b : Option B) (c : Option C) (r : R) : Type 0 where
  pub x : A
  pub first : a ≡ Some x
  pub rest : Two (f x) b c r

pub of_three : {A B C R : Type 0} (f : A → B → C → R) (a : Option A) (b : Option B) (c : Option C) (r : R) → with3 f a b c ≡ Some r → Three f a b c r
of_three f a b c r h = let p = then_parts (λ x. with2 (f x) b c) a r h in record { x = p.0; first = p.1; rest = of_two (f p.0) b c r p.2 }

pub record Four {A B C D R : Type 0} (f : A → B → C → D → R) (a : Option A) (b : Option B) (c : Option C) (d : Option D) (r : R) : Type 0 where
  pub x : A
  pub first : a ≡ Some x
  pub rest : Three (f x) b c d r

pub of_four : {A B C D R : Type 0} (f : A → B → C → D → R) (a : Option A) (b : Option B) (c : Option C) (d : Option D) (r : R) → with4 f a b c d ≡ Some r → Four f a b c d r
of_four f a b c d r h = let p = then_parts (λ x. with3 (f x) b c d) a r h in record { x = p.0; first = p.1; rest = of_three (f p.0) b c d r p.2 }

pub record Five {A B C D E R : Type 0} (f : A → B → C → D → E → R) (a : Option A) (b : Option B) (c : Option C) (d : Option D) (e : Option E) (r : R) : Type 0 where
  pub x : A
  pub first : a ≡ Some x
  pub rest : Four (f x) b c d e r

pub of_five : {A B C D E R : Type 0} (f : A → B → C → D → E → R) (a : Option A) (b : Option B) (c : Option C) (d : Option D) (e : Option E) (r : R) → with5 f a b c d e ≡ Some r → Five f a b c d e r
of_five f a b c d e r h = let p = then_parts (λ x. with4 (f x) b c d e) a r h in record { x = p.0; first = p.1; rest = of_four (f p.0) b c d e r p.2 }

-- ---- JSON that is what is written

-- the one is the other, which is in byte order and has no floats
pub record Is (d e : Data) : Type 0 where
  pub same : d ≡ e
  pub ordered : is_ordered e ≡ true
  pub exact : has_float e ≡ false

pub record ItemsAre (ds es : Items) : Type 0 where
  pub same : ds ≡ es
  pub ordered : items_ordered es ≡ true
  pub exact : items_have_float es ≡ false

abbrev pub values_ordered : Members → Bool
values_ordered no_members = true
values_ordered (member k d ms) = is_ordered d && values_ordered ms

abbrev pub names_ordered : Members → Bool
names_ordered no_members = true
names_ordered (member k d ms) = is_first k ms && names_ordered ms

pub record MembersAre (ms ns : Members) : Type 0 where
  pub same : ms ≡ ns
  pub ordered : values_ordered ns ≡ true
  pub exact : members_have_float ns ≡ false

pub no_item : ItemsAre no_items no_items
no_item = record { same = refl; ordered = refl; exact = refl }

pub item_is : (d e : Data) (ds es : Items) → Is d e → ItemsAre ds es → ItemsAre (item d ds) (item e es)
item_is d e ds es a b = record {
  same = ap (λ x. item x ds) a.same ∙ ap (item e) b.same;
  ordered = and_from (is_ordered e) (items_ordered es) a.ordered b.ordered;
  exact = or_from (has_float e) (items_have_float es) a.exact b.exact;
}

pub array_is : (ds es : Items) → ItemsAre ds es → Is (array ds) (array es)
array_is ds es a = record { same = ap array a.same; ordered = a.ordered; exact = a.exact }

pub no_member : MembersAre no_members no_members
no_member = record { same = refl; ordered = refl; exact = refl }

pub member_is : (k : List ℕ) (d e : Data) (ms ns : Members) → Is d e → MembersAre ms ns → MembersAre (member k d ms) (member k e ns)
member_is k d e ms ns a b = record {
  same = ap (λ x. member k x ms) a.same ∙ ap (member k e) b.same;
  ordered = and_from (is_ordered e) (values_ordered ns) a.ordered b.ordered;
  exact = or_from (has_float e) (members_have_float ns) a.exact b.exact;
}

ordered_members : (ms : Members) → names_ordered ms ≡ true → values_ordered ms ≡ true → members_ordered ms ≡ true
ordered_members no_members h k = refl
ordered_members (member n d ms) h k =
    let p = and_parts (is_first n ms) (names_ordered ms) h in
    let q = and_parts (is_ordered d) (values_ordered ms) k in
    and_from (is_first n ms && is_ordered d) (members_ordered ms) (and_from (is_first n ms) (is_ordered d) p.0 q.0) (ordered_members ms p.1 q.1)

pub object_is : (ms ns : Members) → MembersAre ms ns → names_ordered ns ≡ true → Is (object ms) (object ns)
object_is ms ns a h = record { same = ap object a.same; ordered = ordered_members ns h a.ordered; exact = a.exact }

-- ---- texts and lists

pub plain_is : (s t : List ℕ) → plain s ≡ Some t → s ≡ t
plain_is s t h = same_Some s t (refused_parts (has_nul s) (Some s) t h).1

pub string_is : (s t : List ℕ) → s ≡ t → Is (string s) (string t)
string_is s t h = record { same = ap string h; ordered = refl; exact = refl }

pub text_is : (d : Data) (s : List ℕ) → text_of d ≡ Some s → Is d (string s)
text_is (string t) s h = string_is t s (plain_is t s h)
text_is d s h = cc

pub word_is : (word : List ℕ) (d : Data) → is_text word d ≡ true → Is d (string word)
word_is word (string s) h = string_is s word ((bytes_eq-Decides s word).0 h)
word_is word d h = absurd (false≢true h)

pub all_are : {A : Type 0} (f : Data → Option A) (w : A → Data) → ((d : Data) (x : A) → f d ≡ Some x → Is d (w x)) → (ds : Items) (xs : List A) → all_of f ds ≡ Some xs → ItemsAre ds (items_of (map w xs))
all_are f w each no_items xs h = subst (λ ys. ItemsAre no_items (items_of (map w ys))) (same_Some [] xs h) no_item
all_are f w each (item d ds) xs h =
    let p = then_parts (λ x. option_map (λ ys. x ∷ ys) (all_of f ds)) (f d) xs h in
    let q = map_parts (λ ys. p.0 ∷ ys) (all_of f ds) xs p.2 in
    subst (λ ys. ItemsAre (item d ds) (items_of (map w ys))) q.2 (item_is d (w p.0) ds (items_of (map w q.0)) (each d p.0 p.1) (all_are f w each ds q.0 q.1))

pub list_is : {A : Type 0} (f : Data → Option A) (w : A → Data) → ((d : Data) (x : A) → f d ≡ Some x → Is d (w x)) → (d : Data) (xs : List A) → list_of f d ≡ Some xs → Is d (list w xs)
list_is f w each (array ds) xs h = array_is ds (items_of (map w xs)) (all_are f w each ds xs h)
list_is f w each d xs h = cc

-- ---- the members of an object

abbrev pub Shape : List (List ℕ) → Members → Type 0
Shape [] ms = ms ≡ no_members
Shape (n ∷ ns) ms = (d : Data) × (rest : Members) × (ms ≡ member n d rest) × Shape ns rest

pub shape_of : (ns : List (List ℕ)) (ms : Members) → has_names ns ms ≡ true → Shape ns ms
shape_of [] no_members h = refl
shape_of [] (member k d ms) h = absurd (false≢true h)
shape_of (n ∷ ns) no_members h = absurd (false≢true h)
shape_of (n ∷ ns) (member k d ms) h =
    let p = and_parts (bytes_eq k n) (has_names ns ms) h in
    (d, ms, ap (λ x. member x d ms) ((bytes_eq-Decides k n).0 p.0), shape_of ns ms p.1)

abbrev pub built : (ns : List (List ℕ)) (ms : Members) → Shape ns ms → Members
built [] ms s = no_members
built (n ∷ ns) ms s = member n s.0 (built ns s.1 s.3)

pub shape_is : (ns : List (List ℕ)) (ms : Members) (s : Shape ns ms) → ms ≡ built ns ms s
shape_is [] ms s = s
shape_is (n ∷ ns) ms s = s.2 ∙ ap (member n s.0) (shape_is ns s.1 s.3)
