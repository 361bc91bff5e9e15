-- The limits of a text and of its tokens.
use Rattle.std.specs.Prelude.{◌≡◌, ℕ, ◌≤◌, Bool, true, List, length, nat_le}
use Rattle.std.specs.List.{list_all}
use Rattle.wdl_ast.specs.declared.token.Kind.{Kind}
use Rattle.wdl_ast.specs.declared.token.Kind.TheVariants as kind
use Rattle.wdl_ast.specs.declared.token.Token.{Token}
use Rattle.wdl_ast.specs.Spelled.Classes.{Bytes}

-- the bytes of a document, and those of a word
abbrev pub max_document : ℕ
max_document = 1048576

abbrev pub max_word : ℕ
max_word = 128

abbrev pub is_short : Kind → Bool
is_short (kind.Word w) = nat_le (length w) max_word
is_short _ = true

abbrev pub are_short : List Token → Bool
are_short ts = list_all (λ t. is_short t.kind) ts

pub record IsWithinLimits (bytes : Bytes) (tokens : List Token) : Type 0 where
  pub document : length bytes ≤ max_document
  pub words : are_short tokens ≡ true
