-- The names of the parts of an expression are among its names.
use Rattle.std.proofs.Common.{◌≡◌, Bool, true, false, ◌||◌, List, [], ◌∷◌, ◌++◌, Option, Some, None, refl}
use Rattle.std.specs.Str.{bytes_eq}
use Rattle.std.proofs.lemmas.Bool.{false≢true, or_left, or_right, and_from}
use Rattle.std.proofs.lemmas.Slice.Eq.{bytes_eq-Decides}
use Rattle.wdl_base.specs.declared.name.Key.{Key}
use Rattle.wdl_value.specs.declared.env.Bind.{Bind}
use Rattle.wdl_typed.specs.Scope.{is_among, same_key, same_second}
use Rattle.wdl_typed.specs.Typing.{Context}
use Rattle.wdl_eval.specs.Ready.{FitsNames}

pub either : (b c d : Bool) → (c ≡ true → d ≡ true) → (b || c) ≡ true → (b || d) ≡ true
either true c d f h = refl
either false c d f h = f h

pub among_left : (key : Key) (xs ys : List Key) → is_among key xs ≡ true → is_among key (xs ++ ys) ≡ true
among_left key [] ys h = absurd (false≢true h)
among_left key (x ∷ xs) ys h = either (same_key x key) (is_among key xs) (is_among key (xs ++ ys)) (among_left key xs ys) h

pub among_right : (key : Key) (xs ys : List Key) → is_among key ys ≡ true → is_among key (xs ++ ys) ≡ true
among_right key [] ys h = h
among_right key (x ∷ xs) ys h = or_right (same_key x key) (is_among key (xs ++ ys)) (among_right key xs ys h)

module _ (c : Context) (env : List Bind) where
  pub left_names : (xs ys : List Key) → FitsNames c env (xs ++ ys) → FitsNames c env xs
  left_names xs ys g key h = g key (among_left key xs ys h)

  pub right_names : (xs ys : List Key) → FitsNames c env (xs ++ ys) → FitsNames c env ys
  right_names xs ys g key h = g key (among_right key xs ys h)

same_bytes : (s : _) → bytes_eq s s ≡ true
same_bytes s = (bytes_eq-Decides s s).1 refl

second_same : (s : Option _) → same_second s s ≡ true
second_same (Some s) = same_bytes s
second_same None = refl

pub among_one : (key : Key) → is_among key (key ∷ []) ≡ true
among_one key = or_left (same_key key key) false (and_from (bytes_eq key.first key.first) (same_second key.second key.second) (same_bytes key.first) (second_same key.second))
