-- What statements give out, one after another, and what blocks do.
use Rattle.std.proofs.Common.{◌≡◌, ℕ, List, ◌∷◌, ◌++◌, Option, Some, None, option_map, option_and_then, sym, ap, ◌∙◌, refl, append_assoc}
use Rattle.wdl_typed.specs.declared.flow.Statement.{Statement}
use Rattle.wdl_typed.specs.declared.scope.Bound.{Bound}
use Rattle.wdl_typed.specs.Bodies.{Library, Seen, body_gives, gives, joined}

abbrev pub seen_of : List Bound → List (List ℕ) → Seen
seen_of names calls = record { names = names; calls = calls }

pub joined-assoc : (s t u : Seen) → joined (joined s t) u ≡ joined s (joined t u)
joined-assoc s t u =
    ap (λ ns. seen_of ns ((s.calls ++ t.calls) ++ u.calls)) (append_assoc s.names t.names u.names)
    ∙ ap (seen_of (s.names ++ (t.names ++ u.names))) (append_assoc s.calls t.calls u.calls)

-- the first statement of a body, and the others after it
pub body_gives-next : (lib : Library) (s : Statement) (ss : List Statement) (seen given more : Seen) → gives lib s seen ≡ Some more
    → option_map (joined given) (body_gives lib (s ∷ ss) seen) ≡ option_map (joined (joined given more)) (body_gives lib ss (joined seen more))
body_gives-next lib s ss seen given more is =
    ap (λ o. option_map (joined given) (option_and_then (λ f. option_and_then (λ rest. Some (joined f rest)) (body_gives lib ss (joined seen f))) o)) is
    ∙ by_rest (body_gives lib ss (joined seen more))
  where
    by_rest : (o : Option Seen) → option_map (joined given) (option_and_then (λ rest. Some (joined more rest)) o) ≡ option_map (joined (joined given more)) o
    by_rest None = refl
    by_rest (Some rest) = ap Some (sym (joined-assoc given more rest))

-- a statement of a body, what it gives out, and the statements after it
pub body_goes : (lib : Library) (s : Statement) (ss ds : List Statement) (start before after given more all : Seen) (whole : Option Seen)
    → ds ≡ s ∷ ss → gives lib s before ≡ Some more → after ≡ joined before more → all ≡ joined given more
    → before ≡ joined start given → option_map (joined given) (body_gives lib ds before) ≡ whole
    → (after ≡ joined start all) × (option_map (joined all) (body_gives lib ss after) ≡ whole)
body_goes lib s ss ds start before after given more all whole next is entered added seen rest = (
  entered ∙ ap (λ z. joined z more) seen ∙ joined-assoc start given more ∙ ap (joined start) (sym added),
  ap (λ z. option_map (joined z) (body_gives lib ss after)) added
      ∙ ap (λ z. option_map (joined (joined given more)) (body_gives lib ss z)) entered
      ∙ sym (body_gives-next lib s ss before given more is)
      ∙ sym (ap (λ z. option_map (joined given) (body_gives lib z before)) next)
      ∙ rest,
)
