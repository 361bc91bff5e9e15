-- Data that is written in one way, without NUL, and read back.
use Rattle.std.proofs.Common.{◌≡◌, ℕ, suc, ◌^◌, ◌<◌, ◌≤◌, Bool, false, List, [], ◌∷◌, map, Option, Some, option_map, option_and_then, refl, sym, ap, ◌∙◌, append-nil, arith}
use Rattle.json.specs.Json as json
use Rattle.json.specs.Token.{Token}
use Rattle.json.specs.Tree as tree
use Rattle.json.proofs.Printed.Decimals.{IsNumber-decimal}
use Rattle.json.proofs.Printed.Tokens.{tokens-print}
use Rattle.json.proofs.Printed.Trees.{value-json_tokens, ArePrintable-json_tokens}
use Rattle.serde_json.specs.Data.{Data, null, boolean, number, unsigned, string, object, Members, no_members, member, put}
use Rattle.serde_json.specs.Read.{read, max_depth, of_json, of_items, of_members}
use Rattle.serde_json.specs.View.{items_of}
use Rattle.serde_json.specs.Written.{outline, items_outline, members_outline, items_have_float, members_have_float, compact_text}
use Rattle.serde_json.proofs.Numbers.{number_of-decimal}
use Rattle.serde_json.proofs.Texts.{print-outline}
use Rattle.run_keeper.specs.RowText.{list_data}
use Rattle.run_keeper.specs.Written.{IsWritten}
use Rattle.json_laws.proofs.Texts.{text_nul}

-- it is read back, and nests at most n deep
pub record IsRead (n : ℕ) (d : Data) : Type 0 where
  pub numbers : tree.HasNumbers (outline d)
  pub same : of_json (outline d) ≡ Some d
  pub shallow : tree.depth (outline d) ≤ n

abbrev whole : Option (json.Json × List Token) → Option Data
whole o = option_and_then of_json (option_and_then (λ p. json.if_last p.0 p.1) o)

pub read_back : (n : ℕ) (d : Data) → n ≤ max_depth → IsRead n d → read (compact_text d) ≡ Some d
read_back n d within r =
    let ts = tree.json_tokens (outline d) in
    ap read (sym (print-outline d))
    ∙ ap whole
    (ap (json.value max_depth) (tokens-print ts (ArePrintable-json_tokens (outline d) r.numbers) ∙ sym (append-nil ts))
    ∙ value-json_tokens (outline d) max_depth [] (let shallow = r.shallow in omega (arith, shallow)))
    ∙ r.same

pub string_written : (s : List ℕ) → IsWritten (string s)
string_written s = record { exact = refl; no_nul = text_nul (string s) }

pub number_written : (n : ℕ) → IsWritten (number (unsigned n))
number_written n = record { exact = refl; no_nul = text_nul (number (unsigned n)) }

pub boolean_written : (b : Bool) → IsWritten (boolean b)
boolean_written b = record { exact = refl; no_nul = text_nul (boolean b) }

pub null_written : IsWritten null
null_written = record { exact = refl; no_nul = refl }

pub string_read : (n : ℕ) (s : List ℕ) → IsRead n (string s)
string_read n s = record { numbers = tt; same = refl; shallow = omega arith }

pub null_read : (n : ℕ) → IsRead n null
null_read n = record { numbers = tt; same = refl; shallow = omega arith }

pub boolean_read : (n : ℕ) (b : Bool) → IsRead n (boolean b)
boolean_read n b = record { numbers = tt; same = refl; shallow = omega arith }

pub number_read : (m n : ℕ) → n < 2 ^ 64 → IsRead m (number (unsigned n))
number_read m n h = record { numbers = IsNumber-decimal n h; same = rw (number_of-decimal n h) refl; shallow = omega arith }

-- ---- lists

items_exact : {T : Type 0} (f : T → Data) → ((x : T) → IsWritten (f x)) → (xs : List T) → items_have_float (items_of (map f xs)) ≡ false
items_exact f each [] = refl
items_exact f each (x ∷ xs) = rw ((each x).exact) (items_exact f each xs)

pub list_written : {T : Type 0} (f : T → Data) → ((x : T) → IsWritten (f x)) → (xs : List T) → IsWritten (list_data f xs)
list_written f each xs = record { exact = items_exact f each xs; no_nul = text_nul (list_data f xs) }

items_numbers : {T : Type 0} (f : T → Data) (n : ℕ) → ((x : T) → IsRead n (f x)) → (xs : List T) → tree.ItemsHaveNumbers (items_outline (items_of (map f xs)))
items_numbers f n each [] = tt
items_numbers f n each (x ∷ xs) = ((each x).numbers, items_numbers f n each xs)

items_same : {T : Type 0} (f : T → Data) (n : ℕ) → ((x : T) → IsRead n (f x)) → (xs : List T) → of_items (items_outline (items_of (map f xs))) ≡ Some (items_of (map f xs))
items_same f n each [] = refl
items_same f n each (x ∷ xs) = rw ((each x).same, items_same f n each xs) refl

items_shallow : {T : Type 0} (f : T → Data) (n : ℕ) → ((x : T) → IsRead n (f x)) → (xs : List T) → tree.items_depth (items_outline (items_of (map f xs))) ≤ n
items_shallow f n each [] = omega arith
items_shallow f n each (x ∷ xs) = let first = (each x).shallow in let rest = items_shallow f n each xs in omega (arith, first, rest)

pub list_read : {T : Type 0} (f : T → Data) (n : ℕ) → ((x : T) → IsRead n (f x)) → (xs : List T) → IsRead (suc n) (list_data f xs)
list_read f n each xs = record {
  numbers = items_numbers f n each xs;
  same = rw (items_same f n each xs) refl;
  shallow = let below = items_shallow f n each xs in omega (arith, below);
}

-- ---- objects

pub record MembersWritten (ms : Members) : Type 0 where
  pub exact : members_have_float ms ≡ false

pub none_written : MembersWritten no_members
none_written = record { exact = refl }

pub member_written : (k : List ℕ) {d : Data} {ms : Members} → IsWritten d → MembersWritten ms → MembersWritten (member k d ms)
member_written k w more = record { exact = rw w.exact more.exact }

pub object_written : {ms : Members} → MembersWritten ms → IsWritten (object ms)
object_written {ms} w = record { exact = w.exact; no_nul = text_nul (object ms) }

-- the members put into others, one after another
abbrev pub put_all : Members → Members → Members
put_all no_members found = found
put_all (member k d ms) found = put_all ms (put k d found)

pub record MembersRead (n : ℕ) (ms : Members) : Type 0 where
  pub numbers : tree.MembersHaveNumbers (members_outline ms)
  pub same : (found : Members) → of_members (members_outline ms) found ≡ Some (put_all ms found)
  pub shallow : tree.members_depth (members_outline ms) ≤ n

pub none_read : (n : ℕ) → MembersRead n no_members
none_read n = record { numbers = tt; same = λ found. refl; shallow = omega arith }

pub member_read : (k : List ℕ) {n : ℕ} {d : Data} {ms : Members} → IsRead n d → MembersRead n ms → MembersRead n (member k d ms)
member_read k {n} {d} {ms} r more = record {
  numbers = (r.numbers, more.numbers);
  same = λ found. rw r.same (more.same (put k d found));
  shallow = let first = r.shallow in let rest = more.shallow in omega (arith, first, rest);
}

pub object_read : {n : ℕ} {ms : Members} → MembersRead n ms → put_all ms no_members ≡ ms → IsRead (suc n) (object ms)
object_read {n} {ms} r own = record {
  numbers = r.numbers;
  same = ap (option_map object) (r.same no_members) ∙ ap (λ m. Some (object m)) own;
  shallow = let below = r.shallow in omega (arith, below);
}
