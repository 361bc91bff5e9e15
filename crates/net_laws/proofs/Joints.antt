-- Where no step is ready, a joint has what its parts have.
use Rattle.std.proofs.Common.{◌≡◌, ℕ, true, false, ◌&&◌, inl, inr, List, [], ◌∷◌, map, Option, Some, None, option_and_then, sym, ap, ◌∙◌, refl}
use Rattle.std.specs.List.{list_all}
use Rattle.std.proofs.lemmas.Bool.{both_ways, true≢false}
use Rattle.wdl_value.specs.declared.value.Value.{Value}
use Rattle.wdl_value.specs.declared.value.Value.TheVariants as v
use Rattle.wdl_value.specs.Tables.{Row}
use Rattle.wdl_typed.specs.Bodies.{Library}
use Rattle.wdl_typed.specs.Flow.{all_values}
use Rattle.wdl_typed.specs.KnownTypes.{is_some}
use Rattle.net_laws.specs.Net.{Cells}
use Rattle.net_laws.specs.Growing.{AllStuck, Copied, Ending, Gathered, IsLeft, Rule, State, are_set, copies, ends, gathers, is_set}
use Rattle.net_laws.proofs.Sets.{and_true, none_of}

-- A list of cells that are not all set has no values.
pub no_values : (cells : Cells) (cs : List ℕ) → list_all (λ c. is_some (cells c)) cs ≡ false → all_values (map cells cs) ≡ None
no_values cells [] h = absurd (true≢false h)
no_values cells (c ∷ cs) h = go (cells c) h (no_values cells cs)
  where
    go : (o : Option Value) → is_some o && list_all (λ d. is_some (cells d)) cs ≡ false → (list_all (λ d. is_some (cells d)) cs ≡ false → all_values (map cells cs) ≡ None)
        → option_and_then (λ (x : Value). option_and_then (λ (xs : List Value). Some (x ∷ xs)) (all_values (map cells cs))) o ≡ None
    go None e rest = refl
    go (Some x) e rest = ap (option_and_then (λ (xs : List Value). Some (x ∷ xs))) (rest e)

module _ (lib : Library) (site : List ℕ) (table : List Row) (desc : ℕ → Rule → Type 0) (st : State) where
  module _ (stuck : AllStuck lib site table desc st) where
    waits : (u : ℕ) (r : Rule) (parts : List ℕ) → IsLeft lib site table desc st u r → st.needs u ≡ parts → are_set st parts ≡ false
    waits u r parts left e = ap (are_set st) (sym e) ∙ stuck u r left

    pub ending_is : (parts : List ℕ) (c : ℕ) → Ending lib site table desc st parts c → is_set st c ≡ are_set st parts
    ending_is parts c (u, inl w) = ap is_some w.keeps.1 ∙ sym (waits u (ends parts c) parts w.left w.needs)
    ending_is parts c (u, inr w) = w.ended ∙ sym w.set

    pub copied_is : (from c : ℕ) → Copied lib site table desc st from c → st.cells c ≡ st.cells from
    copied_is from c (u, inl w) = w.keeps.1 ∙ sym (none_of (st.cells from) (sym (and_true (is_set st from)) ∙ waits u (copies from c) (from ∷ []) w.left w.needs))
    copied_is from c (u, inr w) = w.same

    pub gathered_is : (parts : List ℕ) (c : ℕ) → Gathered lib site table desc st parts c → st.cells c ≡ option_and_then (λ (xs : List Value). Some (v.List xs)) (all_values (map st.cells parts))
    gathered_is parts c (u, inl w) =
        w.keeps.1 ∙ sym (ap (option_and_then (λ (xs : List Value). Some (v.List xs))) (no_values st.cells parts (waits u (gathers parts c) parts w.left w.needs)))
    gathered_is parts c (u, inr w) = w.value ∙ sym (ap (option_and_then (λ (xs : List Value). Some (v.List xs))) w.set)

    pub gathered_set : (parts : List ℕ) (c : ℕ) → Gathered lib site table desc st parts c → are_set st parts ≡ true → is_set st c ≡ true
    gathered_set parts c (u, inl w) h = absurd (both_ways (are_set st parts) (waits u (gathers parts c) parts w.left w.needs) h)
    gathered_set parts c (u, inr w) h = ap is_some w.value
