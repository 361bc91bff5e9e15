-- What is open as the reading of a text knows it, and as the writing does, which counts no braces.
use Rattle.std.proofs.Common.{◌≡◌, Bool, true, false, cond, ◌||◌, List, [], ◌∷◌, Option, Some, None, refl, ap, sym, ◌∙◌}
use Rattle.std.specs.Prelude.{is_some}
use Rattle.wdl_ast.specs.declared.token.Kind.{Kind}
use Rattle.wdl_ast.specs.declared.token.Kind.TheVariants as kind
use Rattle.wdl_ast.specs.Spelled.{inside_at, is_hole, is_open_brace}
use Rattle.wdl_ast.specs.Spelled.Chars.{Inside, string, command}
use Rattle.wdl_print.specs.declared.inside.Open.{Open}
use Rattle.wdl_print.specs.declared.inside.Open.TheVariants as open_
use Rattle.wdl_print.specs.TokenText.{after, closed, innermost}
use Rattle.print_laws.proofs.Stack.{Stack, top, below, in_hole, in_brace, Brace, opening, closing, other, brace_of, brace, behind_brace, behind}

abbrev pub place_of : Kind → Option Open
place_of (kind.StrOpen q) = Some (open_.Quoted q)
place_of (kind.CommandOpen f) = Some (open_.Command f)
place_of (kind.HoleOpen m) = Some open_.Placeholder
place_of k = None

abbrev pub push : Option Open → List Open → List Open
push None os = os
push (Some o) os = o ∷ os

abbrev pub places : Stack → List Open
places [] = []
places (k ∷ st) = push (place_of k) (places st)

abbrev pub inside_place : Option Open → Option Inside
inside_place (Some (open_.Quoted q)) = Some (string q)
inside_place (Some (open_.Command f)) = Some (command f)
inside_place (Some open_.Placeholder) = None
inside_place None = None

-- ---- braces stand in placeholders alone

abbrev pub may_stand : Kind → Stack → Bool
may_stand (kind.StrOpen q) st = true
may_stand (kind.CommandOpen f) st = true
may_stand (kind.HoleOpen m) st = true
may_stand (kind.Mark m) st = in_hole st || in_brace st
may_stand k st = false

abbrev pub Sound : Stack → Type 0
Sound [] = Unit {0}
Sound (k ∷ st) = (may_stand k st ≡ true) × Sound st

outside : (o : Option Kind) → (is_hole o || is_open_brace o) ≡ true → inside_at o ≡ None
outside None h = refl
outside (Some (kind.StrOpen q)) h = cc
outside (Some (kind.CommandOpen f)) h = cc
outside (Some (kind.HoleOpen m)) h = refl
outside (Some (kind.Mark m)) h = refl
outside (Some kind.StrClose) h = refl
outside (Some kind.CommandClose) h = refl
outside (Some kind.HoleClose) h = refl
outside (Some (kind.Word w)) h = refl
outside (Some (kind.Int n)) h = refl
outside (Some (kind.Frac w)) h = refl
outside (Some (kind.Chars w)) h = refl

pub same_inside : (st : Stack) → Sound st → inside_at (top st) ≡ inside_place (innermost (places st))
same_inside [] h = refl
same_inside (kind.StrOpen q ∷ st) h = refl
same_inside (kind.CommandOpen f ∷ st) h = refl
same_inside (kind.HoleOpen m ∷ st) h = refl
same_inside (kind.Mark m ∷ st) (h, more) = sym (outside (top st) h) ∙ same_inside st more
same_inside (kind.StrClose ∷ st) (h, more) = cc
same_inside (kind.CommandClose ∷ st) (h, more) = cc
same_inside (kind.HoleClose ∷ st) (h, more) = cc
same_inside (kind.Word w ∷ st) (h, more) = cc
same_inside (kind.Int n ∷ st) (h, more) = cc
same_inside (kind.Frac w ∷ st) (h, more) = cc
same_inside (kind.Chars w ∷ st) (h, more) = cc

below_sound : (st : Stack) → Sound st → Sound (below st)
below_sound [] h = tt
below_sound (k ∷ st) h = h.1

brace_sound : (b : Brace) (st : Stack) → Sound st → Sound (behind_brace b st)
brace_sound opening st h = go (in_hole st) refl (in_brace st) refl
  where
    go : (x : Bool) → in_hole st ≡ x → (y : Bool) → in_brace st ≡ y → Sound (cond x (brace ∷ st) (cond y (brace ∷ st) st))
    go true e y f = (ap (λ t. t || in_brace st) e, h)
    go false e true f = (ap (λ t. t || in_brace st) e ∙ f, h)
    go false e false f = h
brace_sound closing st h = go (in_brace st)
  where
    go : (y : Bool) → Sound (cond y (below st) st)
    go true = below_sound st h
    go false = h
brace_sound other st h = h

pub behind_sound : (st : Stack) (k : Kind) → Sound st → Sound (behind st k)
behind_sound st (kind.StrOpen q) h = (refl, h)
behind_sound st (kind.CommandOpen f) h = (refl, h)
behind_sound st (kind.HoleOpen m) h = (refl, h)
behind_sound st kind.StrClose h = below_sound st h
behind_sound st kind.CommandClose h = below_sound st h
behind_sound st kind.HoleClose h = below_sound st h
behind_sound st (kind.Mark m) h = brace_sound (brace_of m) st h
behind_sound st (kind.Word w) h = h
behind_sound st (kind.Int n) h = h
behind_sound st (kind.Frac w) h = h
behind_sound st (kind.Chars w) h = h

-- ---- what is open behind a token

abbrev pub has_place : Option Kind → Bool
has_place None = false
has_place (Some k) = is_some (place_of k)

-- what closes has something to close
abbrev pub MayClose : Stack → Kind → Type 0
MayClose st kind.StrClose = has_place (top st) ≡ true
MayClose st kind.CommandClose = has_place (top st) ≡ true
MayClose st kind.HoleClose = has_place (top st) ≡ true
MayClose st k = Unit {0}

below_places : (st : Stack) → has_place (top st) ≡ true → places (below st) ≡ closed (places st)
below_places [] h = refl
below_places (k ∷ st) h = go (place_of k) h
  where
    go : (o : Option Open) → is_some o ≡ true → places st ≡ closed (push o (places st))
    go None h = cc
    go (Some o) h = refl

below_brace : (st : Stack) → in_brace st ≡ true → places (below st) ≡ places st
below_brace [] h = refl
below_brace (kind.Mark m ∷ st) h = refl
below_brace (kind.StrOpen q ∷ st) h = cc
below_brace (kind.CommandOpen f ∷ st) h = cc
below_brace (kind.HoleOpen m ∷ st) h = cc
below_brace (kind.StrClose ∷ st) h = refl
below_brace (kind.CommandClose ∷ st) h = refl
below_brace (kind.HoleClose ∷ st) h = refl
below_brace (kind.Word w ∷ st) h = refl
below_brace (kind.Int n ∷ st) h = refl
below_brace (kind.Frac w ∷ st) h = refl
below_brace (kind.Chars w ∷ st) h = refl

brace_places : (b : Brace) (st : Stack) → places (behind_brace b st) ≡ places st
brace_places opening st = go (in_hole st) (in_brace st)
  where
    go : (x y : Bool) → places (cond x (brace ∷ st) (cond y (brace ∷ st) st)) ≡ places st
    go true y = refl
    go false true = refl
    go false false = refl
brace_places closing st = go (in_brace st) refl
  where
    go : (y : Bool) → in_brace st ≡ y → places (cond y (below st) st) ≡ places st
    go true e = below_brace st e
    go false e = refl
brace_places other st = refl

pub behind_places : (st : Stack) (k : Kind) → MayClose st k → places (behind st k) ≡ after (places st) k
behind_places st (kind.StrOpen q) h = refl
behind_places st (kind.CommandOpen f) h = refl
behind_places st (kind.HoleOpen m) h = refl
behind_places st kind.StrClose h = below_places st h
behind_places st kind.CommandClose h = below_places st h
behind_places st kind.HoleClose h = below_places st h
behind_places st (kind.Mark m) h = brace_places (brace_of m) st
behind_places st (kind.Word w) h = refl
behind_places st (kind.Int n) h = refl
behind_places st (kind.Frac w) h = refl
behind_places st (kind.Chars w) h = refl

-- a string, a command or a placeholder is open where one of these is innermost
pub inside_has : (o : Option Kind) (i : Inside) → inside_at o ≡ Some i → has_place o ≡ true
inside_has None i e = cc
inside_has (Some (kind.StrOpen q)) i e = refl
inside_has (Some (kind.CommandOpen f)) i e = refl
inside_has (Some (kind.HoleOpen m)) i e = cc
inside_has (Some (kind.Mark m)) i e = cc
inside_has (Some kind.StrClose) i e = cc
inside_has (Some kind.CommandClose) i e = cc
inside_has (Some kind.HoleClose) i e = cc
inside_has (Some (kind.Word w)) i e = cc
inside_has (Some (kind.Int n)) i e = cc
inside_has (Some (kind.Frac w)) i e = cc
inside_has (Some (kind.Chars w)) i e = cc

pub hole_has : (o : Option Kind) → is_hole o ≡ true → has_place o ≡ true
hole_has None e = cc
hole_has (Some (kind.StrOpen q)) e = refl
hole_has (Some (kind.CommandOpen f)) e = refl
hole_has (Some (kind.HoleOpen m)) e = refl
hole_has (Some (kind.Mark m)) e = cc
hole_has (Some kind.StrClose) e = cc
hole_has (Some kind.CommandClose) e = cc
hole_has (Some kind.HoleClose) e = cc
hole_has (Some (kind.Word w)) e = cc
hole_has (Some (kind.Int n)) e = cc
hole_has (Some (kind.Frac w)) e = cc
hole_has (Some (kind.Chars w)) e = cc
