-- The limits of what words ask for.
use Rattle.std.proofs.Common.{◌≡◌, ◌≤◌, ◌&&◌, ◌||◌, ℕ, Bool, true, false, subst, not, cond, nat_le, List, [], ◌∷◌, length, Option, Some, None, codes, refl, arith}
use Rattle.std.specs.Prelude.{option_and_then, option_map}
use Rattle.std.specs.Option.{option_or}
use Rattle.std.specs.Str.{bytes_eq}
use Rattle.std.specs.Str.Parse.{digits_value}
use Rattle.std.proofs.lemmas.Bool.Decides.{nat_tests}
use Rattle.clap.specs.Words.{Row, Text, first_of}
use Rattle.wdl_base.specs.Plain.{has_nul}
use Rattle.wdl_words.specs.Commands.{cwl_app, found_in, run_app}
use Rattle.wdl_words.specs.Help.{by_one, by_two, explained, is_help_option, is_version_word}
use Rattle.wdl_words.specs.Words.{IsWithinLimits, begins_with_slash, code_in, cwl_in, cwl_of, cwl_with, directory_of, file_in, file_of, is_numeral, load_in, named_by_first, not_empty, number_within, operand_in, optional_file, root_of, run_in, run_of, run_with, some_nul, wants, wants_by, wants_of_plain, without_slashes, workers_of}
use Rattle.wdl_words.proofs.Slashes.{slashes_short}
use Rattle.wdl_words.specs.declared.wants.Wants.{Wants}
use Rattle.wdl_words.specs.declared.wants.Wants.TheVariants.{Run, Check, Inputs, Cwl, Load, Bundle, Explain, Help, Version}

and_then_some : {A B : Type 0} (f : A → Option B) (o : Option A) (b : B) → option_and_then f o ≡ Some b
    → (a : A) × (o ≡ Some a) × (f a ≡ Some b)
and_then_some f None b h = cc
and_then_some f (Some a) b h = (a, refl, h)

mapped : {A : Type 0} (make : A → Wants) (o : Option A) (asked : Wants) → ((a : A) → o ≡ Some a → IsWithinLimits (make a))
    → option_map make o ≡ Some asked → IsWithinLimits asked
mapped make None asked fits h = cc
mapped make (Some a) asked fits h = let same : make a ≡ asked = cc in subst IsWithinLimits same (fits a refl)

number_limits : (low high : ℕ) (text : Text) (n : ℕ) → number_within low high text ≡ Some n → (low ≤ n) × (n ≤ high)
number_limits low high text n h =
    go (is_numeral text) (nat_le low (digits_value 10 text)) (nat_le (digits_value 10 text) high) refl refl h
  where
    go : (a b c : Bool) → nat_le low (digits_value 10 text) ≡ b → nat_le (digits_value 10 text) high ≡ c
        → cond (a && (b && c)) (Some (digits_value 10 text)) None ≡ Some n → (low ≤ n) × (n ≤ high)
    go true true true above below found =
        let same : digits_value 10 text ≡ n = cc in
        (grind (arith, nat_tests), grind (arith, nat_tests))
    go true true false above below found = cc
    go true false c above below found = cc
    go false b c above below found = cc

workers_limits : (o : Option Text) (n : ℕ) → workers_of o ≡ Some n → (1 ≤ n) × (n ≤ 64)
workers_limits None n h = let four : 4 ≡ n = cc in (omega arith, omega arith)
workers_limits (Some text) n h = number_limits 1 64 text n h

directory_limits : (text root : Text) → directory_of text ≡ Some root → length root ≤ 512
directory_limits text root h = go (begins_with_slash text) (nat_le (length text) 512) refl h
  where
    go : (a b : Bool) → nat_le (length text) 512 ≡ b
        → cond (a && (b && not (has_nul text))) (not_empty (without_slashes text)) None ≡ Some root → length root ≤ 512
    go false b short found = cc
    go true false short found = cc
    go true true short found = last (not (has_nul text)) found
      where
        left : (s : Text) → length s ≤ length text → not_empty s ≡ Some root → length root ≤ 512
        left [] low given = cc
        left (b ∷ s) low given =
            let same : b ∷ s ≡ root = cc in
            let few : length text ≤ 512 = grind (arith, nat_tests) in
            rw (← same) (omega (arith, low, few))

        last : (c : Bool) → cond c (not_empty (without_slashes text)) None ≡ Some root → length root ≤ 512
        last false given = cc
        last true given = left (without_slashes text) (slashes_short text) given

root_limits : (o : Option Text) (root : Text) → root_of o ≡ Some root → length root ≤ 512
root_limits None root h = let same : codes "/tmp/wdl-run" ≡ root = cc in rw (← same) (omega arith)
root_limits (Some text) root h = directory_limits text root h

run_limits : (file : Option Text) (inputs : Option (Option Text)) (workers : Option ℕ) (root : Option Text)
    (journal : Option (Option Text)) (asked : Wants) → ((n : ℕ) → workers ≡ Some n → (1 ≤ n) × (n ≤ 64))
    → ((r : Text) → root ≡ Some r → length r ≤ 512) → run_with file inputs workers root journal ≡ Some asked → IsWithinLimits asked
run_limits (Some file) (Some inputs) (Some workers) (Some root) (Some journal) asked count short h =
    let some : Run file inputs workers root journal ≡ asked = cc in
    let n = count workers refl in
    let kept : (1 ≤ workers) × (workers ≤ 64) × (length root ≤ 512) = (n.0, n.1, short root refl) in
    subst IsWithinLimits some kept
run_limits None inputs workers root journal asked count short h = cc
run_limits (Some file) None workers root journal asked count short h = cc
run_limits (Some file) (Some inputs) None root journal asked count short h = cc
run_limits (Some file) (Some inputs) (Some workers) None journal asked count short h = cc
run_limits (Some file) (Some inputs) (Some workers) (Some root) None asked count short h = cc

rows_limits : (rows : List Row) (asked : Wants) → run_of rows ≡ Some asked → IsWithinLimits asked
rows_limits rows asked h = run_limits
    (option_and_then file_of (first_of (codes "file") rows)) (optional_file (first_of (codes "inputs") rows))
    (workers_of (first_of (codes "workers") rows)) (root_of (first_of (codes "root") rows))
    (optional_file (first_of (codes "journal") rows)) asked
    (workers_limits (first_of (codes "workers") rows)) (root_limits (first_of (codes "root") rows)) h

cwl_limits : (rows : List Row) (asked : Wants) → cwl_of rows ≡ Some asked → IsWithinLimits asked
cwl_limits rows asked h = go (option_and_then file_of (first_of (codes "file") rows)) (optional_file (first_of (codes "inputs") rows)) h
  where
    go : (file : Option Text) (inputs : Option (Option Text)) → cwl_with file inputs ≡ Some asked → IsWithinLimits asked
    go (Some file) (Some inputs) found = let some : Cwl file inputs ≡ asked = cc in subst IsWithinLimits some tt
    go (Some file) None found = cc
    go None inputs found = cc

load_limits : (words : List Text) (n : ℕ) → load_in words ≡ Some n → (1 ≤ n) × (n ≤ 10000)
load_limits words n h =
    let text = and_then_some (number_within 1 10000) (operand_in (codes "load") (codes "number") words) n h in
    number_limits 1 10000 text.0 n text.2

by_command : (command : Text) (words : List Text) (asked : Wants) → wants_by command words ≡ Some asked → IsWithinLimits asked
unfolding run_in cwl_in
by_command command words asked h =
    go (bytes_eq command (codes "run")) (bytes_eq command (codes "check")) (bytes_eq command (codes "inputs")) (bytes_eq command (codes "cwl"))
    (bytes_eq command (codes "load")) (bytes_eq command (codes "bundle")) (bytes_eq command (codes "explain")) h
  where
    go : (a b i c d e f : Bool) → cond a (run_in words) (cond b (option_map Check (file_in command words))
        (cond i (option_map Inputs (file_in command words)) (cond c (cwl_in words) (cond d (option_map Load (load_in words))
        (cond e (option_map Bundle (file_in command words)) (cond f (option_map Explain (code_in words)) None)))))) ≡ Some asked → IsWithinLimits asked
    go true b i c d e f found =
        let rows = and_then_some run_of (found_in run_app words) asked found in
        rows_limits rows.0 asked rows.2
    go false true i c d e f found = mapped Check (file_in command words) asked (λ file given. tt) found
    go false false true c d e f found = mapped Inputs (file_in command words) asked (λ file given. tt) found
    go false false false true d e f found =
        let rows = and_then_some cwl_of (found_in cwl_app words) asked found in
        cwl_limits rows.0 asked rows.2
    go false false false false true e f found = mapped Load (load_in words) asked (load_limits words) found
    go false false false false false true f found = mapped Bundle (file_in command words) asked (λ file given. tt) found
    go false false false false false false true found = mapped Explain (code_in words) asked (λ code given. tt) found
    go false false false false false false false found = cc

first_limits : (words : List Text) (asked : Wants) → named_by_first words ≡ Some asked → IsWithinLimits asked
first_limits [] asked h = cc
first_limits (command ∷ rest) asked h = by_command command (command ∷ rest) asked h

one_limits : (word : Text) (asked : Wants) → by_one word ≡ Some asked → IsWithinLimits asked
one_limits word asked h = go (bytes_eq word (codes "help") || is_help_option word) (is_version_word word) h
  where
    go : (a b : Bool) → cond a (Some (Help None)) (cond b (Some Version) None) ≡ Some asked → IsWithinLimits asked
    go true b found = let same : Help None ≡ asked = cc in subst IsWithinLimits same tt
    go false true found = let same : Version ≡ asked = cc in subst IsWithinLimits same tt
    go false false found = cc

explained_limits : (words : List Text) (asked : Wants) → explained words ≡ Some asked → IsWithinLimits asked
explained_limits [] asked h = cc
explained_limits (word ∷ []) asked h = one_limits word asked h
explained_limits (first ∷ second ∷ []) asked h = mapped (λ c. Help (Some c)) (by_two first second) asked (λ c given. tt) h
explained_limits (first ∷ second ∷ third ∷ rest) asked h = cc

-- what words ask for is within the limits
pub wants_within : (words : List Text) (asked : Wants) → wants words ≡ Some asked → IsWithinLimits asked
unfolding wants_of_plain
wants_within words asked h = go (some_nul words) h
  where
    either : (o : Option Wants) → ((w : Wants) → o ≡ Some w → IsWithinLimits w) → option_or o (named_by_first words) ≡ Some asked → IsWithinLimits asked
    either None fits found = first_limits words asked found
    either (Some w) fits found = fits asked found

    go : (b : Bool) → cond b None (option_or (explained words) (named_by_first words)) ≡ Some asked → IsWithinLimits asked
    go true found = cc
    go false found = either (explained words) (explained_limits words) found
