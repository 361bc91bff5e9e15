-- Searches by keys, calls and places may begin where their marks first stand.
use Rattle.std.proofs.Common.{◌≡◌, ℕ, true, false, cond, ◌==◌, List, ◌∷◌, Option, Some, None, drop, ap, refl, ◌∙◌}
use Rattle.std.specs.Str.{bytes_eq}
use Rattle.std.proofs.lemmas.Slice.Eq.{bytes_eq-Decides}
use Rattle.wdl_base.specs.declared.entry.Entry.{Entry}
use Rattle.wdl_base.specs.declared.name.Key.{Key}
use Rattle.wdl_base.specs.declared.place.Segment.{Segment}
use Rattle.wdl_value.specs.declared.value.Value.{Value}
use Rattle.wdl_value.specs.Tables.{answer_at, is_at, row_of, table}
use Rattle.wdl_typed.specs.Flow.{has_ended}
use Rattle.wdl_typed.specs.Scope.{lookup, same_key}
use Rattle.wdl_names.specs.Marks.{first_place}
use Rattle.wdl_flow.specs.Marks.{entry_mark, entry_marks, place_mark}
use Rattle.wdl_flow.proofs.MarkLemmas.{entry_marks_agree, same_key-true}
use Rattle.wdl_flow.proofs.Skip.{apart, skip}
use Rattle.wdl_plain.specs.declared.known.Ended.{Ended}
use Rattle.wdl_plain.specs.declared.known.Known.{Known}
use Rattle.wdl_plain.specs.SightMarks.{call_mark, call_marks, key_mark, known_mark, known_marks, name_mark}
use Rattle.wdl_plain.specs.Views.{endeds_of, env_in}

name_marks_agree : (a b : List ℕ) → bytes_eq a b ≡ true → name_mark a ≡ name_mark b
name_marks_agree a b h = ap name_mark ((bytes_eq-Decides a b).0 h)

-- a name without a value has another mark than the one that is sought, and is skipped in any case
known_skips : (key : Key) (k : Known) (ks : List Known) → (known_mark k == key_mark key true) ≡ false → lookup (env_in (k ∷ ks)) key ≡ lookup (env_in ks) key
known_skips key k ks differ = by_value k.value refl
  where
    by_value : (o : Option Value) → k.value ≡ o → lookup (env_in (k ∷ ks)) key ≡ lookup (env_in ks) key
    by_value None e = ap (λ (o : Option Value). lookup (env_in (record { key = k.key; value = o } ∷ ks)) key) e
    by_value (Some x) e =
        let same_mark : same_key k.key key ≡ true → known_mark k ≡ key_mark key true =
        λ h. ap (λ (o : Option Value). known_mark (record { key = k.key; value = o })) e ∙ ap (λ j. key_mark j true) (same_key-true k.key key h) in
        ap (λ (o : Option Value). lookup (env_in (record { key = k.key; value = o } ∷ ks)) key) e
        ∙ ap (λ t. cond t (Some x) (lookup (env_in ks) key)) (apart (same_key k.key key) _ _ same_mark differ)

pub lookup-skip : (key : Key) (ks : List Known) → lookup (env_in (drop (first_place (key_mark key true) (known_marks ks)) ks)) key ≡ lookup (env_in ks) key
lookup-skip key = skip (λ ks. lookup (env_in ks) key) known_mark (key_mark key true) (known_skips key)

pub has_ended-skip : (name : List ℕ) (es : List Ended)
    → has_ended (endeds_of (drop (first_place (name_mark name) (call_marks es)) es)) name ≡ has_ended (endeds_of es) name
has_ended-skip name = skip (λ es. has_ended (endeds_of es) name) call_mark (name_mark name) (λ e es differ.
    let own = apart (bytes_eq e.call name) _ _ (name_marks_agree e.call name) differ in
    ap (λ t. cond t e.ended (has_ended (endeds_of es) name)) own)

pub answer_at-skip : (place : List Segment) (attempt : ℕ) (es : List Entry)
    → answer_at (table (drop (first_place (place_mark attempt place) (entry_marks es)) es)) place attempt ≡ answer_at (table es) place attempt
answer_at-skip place attempt = skip (λ es. answer_at (table es) place attempt) entry_mark (place_mark attempt place) (λ e es differ.
    let own = apart (is_at place attempt (row_of e)) _ _ (entry_marks_agree place attempt e) differ in
    ap (λ t. cond t (Some e.answer) (answer_at (table es) place attempt)) own)
