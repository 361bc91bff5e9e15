-- Members that are kept.
use Rattle.std.proofs.Common.{◌≡◌, ◌≢◌, ◌↔◌, ◌⊎◌, ℕ, ◌+◌, ◌<◌, Bool, true, false, List, [], ◌∷◌, length, set, slice_get, Some, Result, Ok, Err, refl, sym, ap, ◌∙◌, subst, inl, inr}
use Rattle.std.specs.Prelude.{IfOk}
use Rattle.std.proofs.lemmas.List.{length-set}
use Rattle.std.specs.Str.{bytes_eq}
use Rattle.std.proofs.lemmas.Bool.{true≢false, false≢true, and_parts, and_from, cases_eq}
use Rattle.std.proofs.lemmas.Slice.Eq.{bytes_eq-Decides}
use Rattle.std.proofs.lemmas.Option.{same_Some}
use Rattle.wdl_base.specs.declared.span.Span.{Span}
use Rattle.wdl_typed.specs.Lists.{are_distinct}
use Rattle.wdl_value.specs.declared.ty.Member.{Member}
use Rattle.wdl_value.specs.SameType.{same_type}
use Rattle.wdl_value.proofs.SameTypeLemmas.{same_type-true, same_type-refl}
use Rattle.wdl_ast.specs.declared.document.StructSection.{StructSection}
use Rattle.wdl_library.specs.Structs.{members_of}
use Rattle.wdl_links.specs.declared.fault.LinkFault.{LinkFault}
use Rattle.wdl_links.specs.declared.fault.LinkFault.TheVariants as fault
use Rattle.wdl_structs.specs.Classes.{root}
use Rattle.wdl_structs.specs.Members.{same_member, same_members}
use Rattle.wdl_structs.specs.Tables.{Names}
use Rattle.wdl_structs.specs.Kept.{Kept, Has, IsKept, Keeps, DiffersIn, KeepsMore}
use Rattle.wdl_structs.proofs.NameLaws.{one_place}
use Rattle.wdl_structs.proofs.SeenLaws.{get_set_same, get_set_other}

-- ---- equal members

pub members-true : (ms ns : List Member) → same_members ms ns ≡ true → ms ≡ ns
members-true [] [] h = refl
members-true [] (n ∷ ns) h = absurd (false≢true h)
members-true (m ∷ ms) [] h = absurd (false≢true h)
members-true (m ∷ ms) (n ∷ ns) h =
    let p = and_parts (same_member m n) (same_members ms ns) h in
    let q = and_parts (bytes_eq m.name n.name) (same_type m.ty n.ty) p.0 in
    let name = (bytes_eq-Decides m.name n.name).0 q.0 in
    let ty = same_type-true m.ty n.ty q.1 in
    let rest = members-true ms ns p.1 in
    λ i. record { name = name i; ty = ty i } ∷ rest i

pub members-refl : (ms : List Member) → same_members ms ms ≡ true
members-refl [] = refl
members-refl (m ∷ ms) =
    and_from (same_member m m) (same_members ms ms) (and_from (bytes_eq m.name m.name) (same_type m.ty m.ty) ((bytes_eq-Decides m.name m.name).1 refl) (same_type-refl m.ty)) (members-refl ms)

pub members-differ : (ms ns : List Member) → same_members ms ns ≡ false → ms ≢ ns
members-differ ms ns h e = true≢false (sym (members-refl ms) ∙ ap (same_members ms) e ∙ h)

-- ---- one place

pub has_one : (kept : Kept) (j : ℕ) (x y : List Member) → Has kept j x → Has kept j y → x ≡ y
has_one kept j x y h k = same_Some x y (same_Some (Some x) (Some y) (sym h ∙ k))

pub kept_set : (old : Kept) (at : ℕ) (ms : List Member) → at < length old → ((x : List Member) → Has old at x → ⊥) → (j : ℕ) (x : List Member)
    → Has (set old at (Some ms)) j x ↔ (Has old j x ⊎ ((j ≡ at) × (x ≡ ms)))
kept_set old at ms within none j x = elim (cases_eq j at) as (λ c. Has (set old at (Some ms)) j x ↔ (Has old j x ⊎ ((j ≡ at) × (x ≡ ms)))) [
  | inl e ↦
      let here : slice_get (set old at (Some ms)) j ≡ Some (Some ms) = ap (slice_get (set old at (Some ms))) e ∙ get_set_same old at (Some ms) within in (
        λ h. inr (e, sym (same_Some ms x (same_Some (Some ms) (Some x) (sym here ∙ h)))),
        λ h. back here h e,
      )
  | inr ne ↦
      let there : slice_get (set old at (Some ms)) j ≡ slice_get old j = get_set_other old at j (Some ms) ne in (
        λ h. inl (sym there ∙ h),
        λ h. other there h ne,
      )
]
  where
    back : slice_get (set old at (Some ms)) j ≡ Some (Some ms) → Has old j x ⊎ ((j ≡ at) × (x ≡ ms)) → j ≡ at → Has (set old at (Some ms)) j x
    back here (inl h) e = absurd (none x (ap (slice_get old) (sym e) ∙ h))
    back here (inr h) e = here ∙ ap (λ y. Some (Some y)) (sym h.1)

    other : slice_get (set old at (Some ms)) j ≡ slice_get old j → Has old j x ⊎ ((j ≡ at) × (x ≡ ms)) → (j ≡ at → ⊥) → Has (set old at (Some ms)) j x
    other there (inl h) ne = there ∙ h
    other there (inr h) ne = absurd (ne h.0)

pub kept_same : (old : Kept) (at : ℕ) (ms others : List Member) → Has old at others → others ≡ ms → (j : ℕ) (x : List Member) → Has old j x ↔ (Has old j x ⊎ ((j ≡ at) × (x ≡ ms)))
kept_same old at ms others h e j x = (λ k. inl k, back)
  where
    back : Has old j x ⊎ ((j ≡ at) × (x ≡ ms)) → Has old j x
    back (inl k) = k
    back (inr k) = ap (slice_get old) k.0 ∙ h ∙ ap (λ y. Some (Some y)) (e ∙ sym k.1)

-- ---- one section

module _ (parents : List ℕ) (x : ℕ) (ns : Names) (stand : List ℕ → List ℕ) (t : StructSection) (p at : ℕ) (ms : List Member) where
  pub kept_section : (old new : Kept) → are_distinct ns ≡ true → slice_get ns p ≡ Some t.name.name → at ≡ root parents (x + p) → ms ≡ members_of stand t → IsKept old at ms new true
      → KeepsMore old new (Keeps parents x ns stand (t ∷ [])) (DiffersIn parents x ns stand (t ∷ [])) (Ok tt)
  kept_section old new d place lead is k = (k.0, λ j y. (λ h. there j y ((k.1 j y).0 h), λ h. (k.1 j y).1 (back j y h)))
    where
      there : (j : ℕ) (y : List Member) → Has old j y ⊎ ((j ≡ at) × (y ≡ ms)) → Has old j y ⊎ Keeps parents x ns stand (t ∷ []) j y
      there j y (inl h) = inl h
      there j y (inr h) = inr (inl ((p, place, h.0 ∙ lead), h.1 ∙ is))

      back : (j : ℕ) (y : List Member) → Has old j y ⊎ Keeps parents x ns stand (t ∷ []) j y → Has old j y ⊎ ((j ≡ at) × (y ≡ ms))
      back j y (inl h) = inl h
      back j y (inr (inl h)) = inr (h.0.2 ∙ ap (λ q. root parents (x + q)) (one_place ns t.name.name h.0.0 p d h.0.1 place) ∙ sym lead, h.1 ∙ sym is)
      back j y (inr (inr h)) = absurd h

  pub differing_section : (old new : Kept) (s : Span) → slice_get ns p ≡ Some t.name.name → at ≡ root parents (x + p) → ms ≡ members_of stand t → IsKept old at ms new false → s ≡ t.name.span
      → KeepsMore old new (Keeps parents x ns stand (t ∷ [])) (DiffersIn parents x ns stand (t ∷ [])) (Err (fault.Bad 204 s))
  differing_section old new s place lead is k e = (refl, (at, k.0, inl k.1, inl ((p, place, lead), (λ q. k.2 (q ∙ sym is)), e)))

-- ---- one after another

pub record IsKeeping (old now : Kept) (keeps left : ℕ → List Member → Type 0) (differs rest : Span → ℕ → List Member → Type 0) : Type 0 where
  pub len : length now ≡ length old
  pub has : (j : ℕ) (x : List Member) → (Has now j x ⊎ left j x) ↔ (Has old j x ⊎ keeps j x)
  pub more : (s : Span) (j : ℕ) (x : List Member) → rest s j x → differs s j x

pub keeping_none : (old : Kept) (keeps : ℕ → List Member → Type 0) (differs : Span → ℕ → List Member → Type 0) → IsKeeping old old keeps keeps differs differs
keeping_none old keeps differs = record { len = refl; has = λ j x. (λ h. h, λ h. h); more = λ s j x h. h }

pub keeping_more : (old now new : Kept) (keeps left one later : ℕ → List Member → Type 0) (differs rest last : Span → ℕ → List Member → Type 0)
    → IsKeeping old now keeps left differs rest → length new ≡ length now → ((j : ℕ) (x : List Member) → Has new j x ↔ (Has now j x ⊎ one j x))
    → ((j : ℕ) (x : List Member) → left j x ↔ (one j x ⊎ later j x)) → ((s : Span) (j : ℕ) (x : List Member) → last s j x → rest s j x)
    → IsKeeping old new keeps later differs last
keeping_more old now new keeps left one later differs rest last k l h split d = record {
  len = l ∙ k.len;
  has = λ j x. (λ z. (k.has j x).0 (there j x z), λ z. back j x ((k.has j x).1 z));
  more = λ s j x z. k.more s j x (d s j x z);
}
  where
    there : (j : ℕ) (x : List Member) → Has new j x ⊎ later j x → Has now j x ⊎ left j x
    there j x (inl z) = join ((h j x).0 z)
      where
        join : Has now j x ⊎ one j x → Has now j x ⊎ left j x
        join (inl y) = inl y
        join (inr y) = inr ((split j x).1 (inl y))
    there j x (inr z) = inr ((split j x).1 (inr z))

    back : (j : ℕ) (x : List Member) → Has now j x ⊎ left j x → Has new j x ⊎ later j x
    back j x (inl z) = inl ((h j x).1 (inl z))
    back j x (inr z) = part ((split j x).0 z)
      where
        part : one j x ⊎ later j x → Has new j x ⊎ later j x
        part (inl y) = inl ((h j x).1 (inr y))
        part (inr y) = inr y

pub keeping_done : (old now : Kept) (keeps left : ℕ → List Member → Type 0) (differs rest : Span → ℕ → List Member → Type 0)
    → IsKeeping old now keeps left differs rest → ((j : ℕ) (x : List Member) → left j x → ⊥) → KeepsMore old now keeps differs (Ok tt)
keeping_done old now keeps left differs rest k none = (k.len, λ j x. (λ z. (k.has j x).0 (inl z), λ z. last j x ((k.has j x).1 z)))
  where
    last : (j : ℕ) (x : List Member) → Has now j x ⊎ left j x → Has now j x
    last j x (inl z) = z
    last j x (inr z) = absurd (none j x z)

pub keeping_fault : (old now new : Kept) (keeps left one : ℕ → List Member → Type 0) (differs rest wrong : Span → ℕ → List Member → Type 0) (e : LinkFault)
    → IsKeeping old now keeps left differs rest → KeepsMore now new one wrong (Err e) → ((j : ℕ) (x : List Member) → one j x → left j x)
    → ((s : Span) (j : ℕ) (x : List Member) → wrong s j x → rest s j x) → (last : Kept) → KeepsMore old last keeps differs (Err e)
keeping_fault old now new keeps left one differs rest wrong (fault.Bad code s) k f o w last = (f.0, (f.1.0, f.1.1, (k.has f.1.0 f.1.1).0 (part f.1.2), k.more s f.1.0 f.1.1 (w s f.1.0 f.1.1 f.1.3)))
  where
    part : Has now f.1.0 f.1.1 ⊎ one f.1.0 f.1.1 → Has now f.1.0 f.1.1 ⊎ left f.1.0 f.1.1
    part (inl z) = inl z
    part (inr z) = inr (o f.1.0 f.1.1 z)
keeping_fault old now new keeps left one differs rest wrong fault.NoMemory k f o w last = tt

-- ---- members that are there

pub kept_found : (old : Kept) (at : ℕ) (ms others : List Member) (b : Bool) → Has old at others → b ≡ same_members others ms → IsKept old at ms old b
kept_found old at ms others true h e = (refl, kept_same old at ms others h (members-true others ms (sym e)))
kept_found old at ms others false h e = (others, h, members-differ others ms (sym e))

pub if_ok : {A E : Type 0} (r : Result A E) (x y : A) → x ≡ y → IfOk r (λ a. a ≡ x) → IfOk r (λ a. a ≡ y)
if_ok (Ok a) x y e h = h ∙ e
if_ok (Err f) x y e h = tt

pub kept_new : (old new : Kept) (at : ℕ) (ms : List Member) → at < length old → ((x : List Member) → Has old at x → ⊥) → new ≡ set old at (Some ms) → IsKept old at ms new true
kept_new old new at ms within none e =
    subst (λ (k : Kept). IsKept old at ms k true) (sym e) (length-set old at (Some ms), kept_set old at ms within none)
