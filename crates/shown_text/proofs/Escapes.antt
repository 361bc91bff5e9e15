-- What an escape yields.
use Rattle.std.proofs.Common.{◌≡◌, ℕ, List, subst, rules}
use Rattle.std.proofs.lemmas.Iterator.{YieldsList}
use Rattle.std.proofs.lemmas.Iterator.Consumers.{YieldsList-from_shown}
use Rattle.std.specs.Char.Iter.{escape_rest, escape_steps}

-- the characters that are left of it
pub from_escape : {s : _} (cs : List ℕ) → escape_rest s ≡ cs → YieldsList escape_steps (λ x. x) s cs
from_escape {s} cs e =
    subst (λ ys. YieldsList escape_steps (λ x. x) s ys) e
    (YieldsList-from_shown escape_steps (λ x. x) escape_rest (λ s t h. search rules) (λ s x t h. search rules) s)
