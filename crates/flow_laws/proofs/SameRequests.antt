-- The tests of places and of requests are equality.
use Rattle.std.proofs.Common.{◌≡◌, ℕ, Bool, true, false, ◌&&◌, ◌==◌, List, [], ◌∷◌, ap, ◌∙◌, sym, refl}
use Rattle.std.specs.Str.{bytes_eq}
use Rattle.std.proofs.lemmas.Bool.{false≢true, and_from, and_parts}
use Rattle.std.proofs.lemmas.Bool.Decides.{Decides-eqb}
use Rattle.std.proofs.lemmas.Slice.Eq.{bytes_eq-Decides}
use Rattle.wdl_base.specs.declared.body.Laid.{Laid}
use Rattle.wdl_base.specs.declared.place.Segment.{Segment}
use Rattle.wdl_base.specs.declared.place.Segment.TheVariants.{Call, Scatter, If, Index}
use Rattle.wdl_base.specs.declared.request.Attribute.{Attribute}
use Rattle.wdl_base.specs.declared.request.Request.{Request}
use Rattle.wdl_base.specs.Same.{same_attributes, same_bool, same_laid, same_place, same_request, same_segment, same_texts}
use Rattle.wdl_value.proofs.SameTypeLemmas.{same_bool-refl, same_bool-true}

-- ---- texts

text_same : (a b : List ℕ) → bytes_eq a b ≡ true → a ≡ b
text_same a b h = (bytes_eq-Decides a b).0 h

text_itself : (a : List ℕ) → bytes_eq a a ≡ true
text_itself a = (bytes_eq-Decides a a).1 refl

-- ---- lists

-- a test of lists that tests item by item
record IsItemwise {A : Type 0} (test : A → A → Bool) (tests : List A → List A → Bool) : Type 0 where
  ended : tests [] [] ≡ true
  longer : (b : A) (bs : List A) → tests [] (b ∷ bs) ≡ false
  shorter : (a : A) (as_ : List A) → tests (a ∷ as_) [] ≡ false
  next : (a b : A) (as_ bs : List A) → tests (a ∷ as_) (b ∷ bs) ≡ (test a b && tests as_ bs)

module _ {A : Type 0} (test : A → A → Bool) (tests : List A → List A → Bool) (h : IsItemwise test tests) where
  list_same : ((a b : A) → test a b ≡ true → a ≡ b) → (as_ bs : List A) → tests as_ bs ≡ true → as_ ≡ bs
  list_same same [] [] e = refl
  list_same same [] (b ∷ bs) e = absurd (false≢true (sym (h.longer b bs) ∙ e))
  list_same same (a ∷ as_) [] e = absurd (false≢true (sym (h.shorter a as_) ∙ e))
  list_same same (a ∷ as_) (b ∷ bs) e =
      let p = and_parts (test a b) (tests as_ bs) (sym (h.next a b as_ bs) ∙ e) in
      ap (λ x. x ∷ as_) (same a b p.0) ∙ ap (λ x. b ∷ x) (list_same same as_ bs p.1)

  list_itself : ((a : A) → test a a ≡ true) → (as_ : List A) → tests as_ as_ ≡ true
  list_itself itself [] = h.ended
  list_itself itself (a ∷ as_) = h.next a a as_ as_ ∙ and_from (test a a) (tests as_ as_) (itself a) (list_itself itself as_)

-- ---- places

segment_same : (a b : Segment) → same_segment a b ≡ true → a ≡ b
segment_same (Call a) (Call b) h = ap Call (text_same a b h)
segment_same (Scatter a) (Scatter b) h = ap Scatter ((Decides-eqb a b).0 h)
segment_same (If a) (If b) h = ap If ((Decides-eqb a b).0 h)
segment_same (Index a) (Index b) h = ap Index ((Decides-eqb a b).0 h)
segment_same a b h = absurd (false≢true h)

segment_itself : (a : Segment) → same_segment a a ≡ true
segment_itself (Call a) = text_itself a
segment_itself (Scatter a) = (Decides-eqb a a).1 refl
segment_itself (If a) = (Decides-eqb a a).1 refl
segment_itself (Index a) = (Decides-eqb a a).1 refl

places : IsItemwise same_segment same_place
places = record { ended = refl; longer = λ b bs. refl; shorter = λ a as_. refl; next = λ a b as_ bs. refl }

pub place_same : (p q : List Segment) → same_place p q ≡ true → p ≡ q
place_same p q h = list_same same_segment same_place places segment_same p q h

pub place_itself : (p : List Segment) → same_place p p ≡ true
place_itself p = list_itself same_segment same_place places segment_itself p

-- ---- files that are laid down, attributes and inputs

abbrev same_file : Laid → Laid → Bool
same_file a b = bytes_eq a.name b.name && bytes_eq a.body b.body

file_same : (a b : Laid) → same_file a b ≡ true → a ≡ b
file_same a b h =
    let p = and_parts (bytes_eq a.name b.name) (bytes_eq a.body b.body) h in
    ap (λ (x : List ℕ). record { name = x; body = a.body }) (text_same a.name b.name p.0)
    ∙ ap (λ (x : List ℕ). record { name = b.name; body = x }) (text_same a.body b.body p.1)

file_itself : (a : Laid) → same_file a a ≡ true
file_itself a = and_from (bytes_eq a.name a.name) (bytes_eq a.body a.body) (text_itself a.name) (text_itself a.body)

files : IsItemwise same_file same_laid
files = record { ended = refl; longer = λ b bs. refl; shorter = λ a as_. refl; next = λ a b as_ bs. refl }

abbrev same_attribute : Attribute → Attribute → Bool
same_attribute a b = bytes_eq a.name b.name && bytes_eq a.value b.value

attribute_same : (a b : Attribute) → same_attribute a b ≡ true → a ≡ b
attribute_same a b h =
    let p = and_parts (bytes_eq a.name b.name) (bytes_eq a.value b.value) h in
    ap (λ (x : List ℕ). record { name = x; value = a.value }) (text_same a.name b.name p.0)
    ∙ ap (λ (x : List ℕ). record { name = b.name; value = x }) (text_same a.value b.value p.1)

attribute_itself : (a : Attribute) → same_attribute a a ≡ true
attribute_itself a = and_from (bytes_eq a.name a.name) (bytes_eq a.value a.value) (text_itself a.name) (text_itself a.value)

attributes : IsItemwise same_attribute same_attributes
attributes = record { ended = refl; longer = λ b bs. refl; shorter = λ a as_. refl; next = λ a b as_ bs. refl }

texts : IsItemwise bytes_eq same_texts
texts = record { ended = refl; longer = λ b bs. refl; shorter = λ a as_. refl; next = λ a b as_ bs. refl }

-- ---- requests

-- the members that were compared so far
module _ (a b : Request) where
  abbrev by_place : Bool
  by_place = same_place a.place b.place

  abbrev by_attempt : Bool
  by_attempt = by_place && (a.attempt == b.attempt)

  abbrev by_dir : Bool
  by_dir = by_attempt && bytes_eq a.dir b.dir

  abbrev by_command : Bool
  by_command = by_dir && bytes_eq a.command b.command

  abbrev by_files : Bool
  by_files = by_command && same_laid a.files b.files

  abbrev by_attributes : Bool
  by_attributes = by_files && same_attributes a.attributes b.attributes

  abbrev by_inputs : Bool
  by_inputs = by_attributes && same_texts a.inputs b.inputs

abbrev made : List Segment → ℕ → List ℕ → List ℕ → List Laid → List Attribute → List (List ℕ) → Bool → Request
made p n d c f s i r =
    record { place = p; attempt = n; dir = d; command = c; files = f; attributes = s; inputs = i; reads = r }

pub request_same : (a b : Request) → same_request a b ≡ true → a ≡ b
request_same a b h =
    let r = and_parts (by_inputs a b) (same_bool a.reads b.reads) h in
    let i = and_parts (by_attributes a b) (same_texts a.inputs b.inputs) r.0 in
    let s = and_parts (by_files a b) (same_attributes a.attributes b.attributes) i.0 in
    let f = and_parts (by_command a b) (same_laid a.files b.files) s.0 in
    let c = and_parts (by_dir a b) (bytes_eq a.command b.command) f.0 in
    let d = and_parts (by_attempt a b) (bytes_eq a.dir b.dir) c.0 in
    let n = and_parts (by_place a b) (a.attempt == b.attempt) d.0 in
    ap (λ x. made x a.attempt a.dir a.command a.files a.attributes a.inputs a.reads) (place_same a.place b.place n.0)
    ∙ ap (λ x. made b.place x a.dir a.command a.files a.attributes a.inputs a.reads) ((Decides-eqb a.attempt b.attempt).0 n.1)
    ∙ ap (λ x. made b.place b.attempt x a.command a.files a.attributes a.inputs a.reads) (text_same a.dir b.dir d.1)
    ∙ ap (λ x. made b.place b.attempt b.dir x a.files a.attributes a.inputs a.reads) (text_same a.command b.command c.1)
    ∙ ap (λ x. made b.place b.attempt b.dir b.command x a.attributes a.inputs a.reads)
    (list_same same_file same_laid files file_same a.files b.files f.1)
    ∙ ap (λ x. made b.place b.attempt b.dir b.command b.files x a.inputs a.reads)
    (list_same same_attribute same_attributes attributes attribute_same a.attributes b.attributes s.1)
    ∙ ap (λ x. made b.place b.attempt b.dir b.command b.files b.attributes x a.reads)
    (list_same bytes_eq same_texts texts text_same a.inputs b.inputs i.1)
    ∙ ap (made b.place b.attempt b.dir b.command b.files b.attributes b.inputs) (same_bool-true a.reads b.reads r.1)

pub request_itself : (a : Request) → same_request a a ≡ true
request_itself a =
    and_from (by_inputs a a) (same_bool a.reads a.reads)
    (and_from (by_attributes a a) (same_texts a.inputs a.inputs)
    (and_from (by_files a a) (same_attributes a.attributes a.attributes)
    (and_from (by_command a a) (same_laid a.files a.files)
    (and_from (by_dir a a) (bytes_eq a.command a.command)
    (and_from (by_attempt a a) (bytes_eq a.dir a.dir)
    (and_from (by_place a a) (a.attempt == a.attempt) (place_itself a.place) ((Decides-eqb a.attempt a.attempt).1 refl))
    (text_itself a.dir))
    (text_itself a.command))
    (list_itself same_file same_laid files file_itself a.files))
    (list_itself same_attribute same_attributes attributes attribute_itself a.attributes))
    (list_itself bytes_eq same_texts texts text_itself a.inputs))
    (same_bool-refl a.reads)
