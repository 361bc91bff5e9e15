-- Lists that commas separate, read and written.
use Rattle.std.proofs.Common.{◌≡◌, ℕ, zero, suc, max, ◌<◌, true, false, cond, List, [], ◌∷◌, ◌++◌, length, Option, Some, None, Ok, refl, ap, sym, ◌∙◌, subst, append_assoc, length-append, arith}
use Rattle.std.proofs.lemmas.List.{append-nil}
use Rattle.wdl_base.specs.declared.span.Span.{Span}
use Rattle.wdl_ast.specs.declared.token.Mark.{Mark}
use Rattle.wdl_ast.specs.declared.token.Mark.TheVariants as mark
use Rattle.wdl_ast.specs.declared.token.Kind.TheVariants as kind
use Rattle.wdl_ast.specs.declared.token.Token.{Token}
use Rattle.wdl_ast.specs.declared.leaf.ListItem.{ListItem}
use Rattle.wdl_ast.specs.Words.{Words, marked, comma, items_words}
use Rattle.token_reading.specs.declared.fault.Fault.{Fault}
use Rattle.token_reading.specs.declared.tall.Tall.{Tall}
use Rattle.token_reading.specs.declared.tall.Closed.{Closed}
use Rattle.token_reading.specs.Outcome.{Parser, is_mark, eat, tall}
use Rattle.wdl_parse_expr.specs.Grammar.{CommaFits, Listed}
use Rattle.wdl_parse_expr.specs.Reading.{list_item, closed, list_from, list_of, ended}
use Rattle.wdl_parse_expr.specs.Contract.{goes_on, continues}
use Rattle.token_reading.proofs.Steps.{ate, then_is, found_some, found_none, cond_false}
use Rattle.token_reading.proofs.Says.{AnyFault, Says, Takes, Sound, carry, says_then, says_found}

module _ {E : Type 0} (P : ℕ → E → Type 0) (w : E → Words) (one : Parser (Tall E)) (close : Mark) where
  abbrev pub OfElement : Tall E → Type 0
  OfElement x = P x.depth x.tree

  abbrev pub element_words : Tall E → Words
  element_words x = w x.tree

  -- ---- what is read is a list

  -- the elements that were added to those before
  abbrev pub Added : List (ListItem E) → ℕ → Words → Closed E → Words → Type 0
  Added all i ts c r = (new : List (ListItem E)) × (c.items ≡ all ++ new) × (ts ≡ items_words w new ++ marked close c.closing ∷ r) × Listed P new i c.inside

  nothing_more : (all : List (ListItem E)) (i : ℕ) (c : Span) (ts r : Words) → ts ≡ marked close c ∷ r → Added all i ts (closed all i c) r
  nothing_more all i c ts r e = ([], sym (append-nil all), e, refl)

  the_last : (all : List (ListItem E)) (i a : ℕ) (x : E) (c : Span) (ts rest r : Words) → P a x → ts ≡ w x ++ rest → rest ≡ marked close c ∷ r → Added all i ts (closed (all ++ list_item x None ∷ []) (max i a) c) r
  the_last all i a x c ts rest r p e f = (list_item x None ∷ [], refl, e ∙ ap (λ z. w x ++ z) f ∙ sym (simp (append_assoc, append-nil)), (a, p, refl, refl))

  one_before : (all : List (ListItem E)) (i a : ℕ) (x : E) (m : Span) (ts rest more : Words) (c : Closed E) (r : Words) → P a x → ts ≡ w x ++ rest → rest ≡ marked mark.Comma m ∷ more
      → Added (all ++ list_item x (Some m) ∷ []) (max i a) more c r → Added all i ts c r
  one_before all i a x m ts rest more c r p e f g =
      (list_item x (Some m) ∷ g.0, g.1 ∙ append_assoc all (list_item x (Some m) ∷ []) g.0, e ∙ ap (λ z. w x ++ z) (f ∙ ap (λ z. marked mark.Comma m ∷ z) g.2) ∙ sym (simp append_assoc), (a, p, tt, g.3))

  -- C is said of faults; At says before which tokens an element may stand
  module _ (C : Fault → Type 0) (At : Words → Type 0) (sound : (ts : Words) → At ts → Says C (Takes OfElement element_words ts) (one ts))
      (more : (x : Tall E) (m : Span) (ts rest : Words) → OfElement x → At ts → ts ≡ (w x.tree ++ marked mark.Comma m ∷ []) ++ rest → At rest) where
    list_says : (n : ℕ) (all : List (ListItem E)) (i : ℕ) (ts : Words) → At ts → Says C (Added all i ts) (list_from one close n all i ts)
    unfolding list_from ended
    list_says zero all i ts here = tt
    list_says (suc n) all i ts here =
        says_found C (Added all i ts) (eat close ts) _ _ (λ c h. nothing_more all i c.0 ts c.1 (ate close ts c h)) (λ _.
        says_then C (Takes OfElement element_words ts) (Added all i ts) (one ts) _ (sound ts here) (λ x rest t.
        says_found C (Added all i ts) (eat mark.Comma rest) _ _
        (λ m h.
        let text : ts ≡ (w x.tree ++ marked mark.Comma m.0 ∷ []) ++ m.1 = t.0 ∙ ap (λ z. w x.tree ++ z) (ate mark.Comma rest m h) ∙ sym (append_assoc (w x.tree) (marked mark.Comma m.0 ∷ []) m.1) in
        carry C (Added (all ++ list_item x.tree (Some m.0) ∷ []) (max i x.depth) m.1) (Added all i ts) _
        (λ c r g. one_before all i x.depth x.tree m.0 ts rest m.1 c r t.1 t.0 (ate mark.Comma rest m h) g)
        (list_says n (all ++ list_item x.tree (Some m.0) ∷ []) (max i x.depth) m.1 (more x m.0 ts m.1 t.1 here text)))
        (λ _. says_found C (Added all i ts) (eat close rest) _ _ (λ c h. the_last all i x.depth x.tree c.0 ts rest c.1 t.1 t.0 (ate close rest c h)) (λ _. tt))))

  -- what a whole list says
  abbrev pub IsList : Words → Closed E → Words → Type 0
  IsList ts c r = (ts ≡ items_words w c.items ++ marked close c.closing ∷ r) × Listed P c.items 0 c.inside

  whole : (ts : Words) (c : Closed E) (r : Words) → Added [] 0 ts c r → IsList ts c r
  whole ts c r g = (g.2 ∙ ap (λ z. items_words w z ++ marked close c.closing ∷ r) (sym g.1), subst (λ z. Listed P z 0 c.inside) (sym g.1) g.3)

  pub list_sound : (C : Fault → Type 0) (At : Words → Type 0) → ((ts : Words) → At ts → Says C (Takes OfElement element_words ts) (one ts))
      → ((x : Tall E) (m : Span) (ts rest : Words) → OfElement x → At ts → ts ≡ (w x.tree ++ marked mark.Comma m ∷ []) ++ rest → At rest) → (ts : Words) → At ts → Says C (IsList ts) (list_of one close ts)
  list_sound C At sound more ts here = carry C (Added [] 0 ts) (IsList ts) (list_of one close ts) (λ c r g. whole ts c r g) (list_says C At sound more (length ts) [] 0 ts here)

  -- whatever faults there are
  pub list_takes : Sound OfElement element_words one → (ts : Words) → Says AnyFault (IsList ts) (list_of one close ts)
  list_takes sound ts = list_sound AnyFault (λ _. Unit {0}) (λ ts _. sound ts) (λ x m ts rest p here e. tt) ts tt

  -- ---- a list is read

  -- each element is read exactly, and does not begin with the closing mark
  abbrev pub IsExact : Type 0
  IsExact = (n : ℕ) (x : E) → P n x → (tail : Words) → continues 6 tail ≡ false → one (w x ++ tail) ≡ Ok (tall x n, tail)

  abbrev pub StartsApart : Type 0
  StartsApart = (n : ℕ) (x : E) → P n x → (t : Token) × (more : Words) × (w x ≡ t ∷ more) × (is_mark close t.kind ≡ false)

  -- a mark that ends lists
  abbrev pub IsCloser : Type 0
  IsCloser = (is_mark close (kind.Mark close) ≡ true) × (goes_on 6 (kind.Mark close) ≡ false) × (is_mark mark.Comma (kind.Mark close) ≡ false)

  module _ (exact : IsExact) (apart : StartsApart) (closer : IsCloser) where
    sees_close : (c : Span) (rest : Words) → eat close (marked close c ∷ rest) ≡ Some (c, rest)
    sees_close c rest = ap (λ b. cond b (Some (c, rest)) None) closer.0

    no_close : (n : ℕ) (x : E) (p : P n x) (tail : Words) → eat close (w x ++ tail) ≡ None
    no_close n x p tail = let s = apart n x p in ap (λ z. eat close (z ++ tail)) s.2 ∙ cond_false (is_mark close s.0.kind) _ _ s.3

    no_comma : (c : Span) (rest : Words) → eat mark.Comma (marked close c ∷ rest) ≡ None
    no_comma c rest = cond_false (is_mark mark.Comma (kind.Mark close)) _ _ closer.2

    with_comma : (n : ℕ) (all : List (ListItem E)) (i a : ℕ) (x : E) (m : Span) (more : List (ListItem E)) (z : Words) (got : Closed E) (r : Words) → P a x
        → list_from one close n (all ++ list_item x (Some m) ∷ []) (max i a) (items_words w more ++ z) ≡ Ok (got, r)
        → list_from one close (suc n) all i (items_words w (list_item x (Some m) ∷ more) ++ z) ≡ Ok (got, r)
    unfolding list_from
    with_comma n all i a x m more z got r p next =
        let tail : Words = marked mark.Comma m ∷ (items_words w more ++ z) in
        let text : items_words w (list_item x (Some m) ∷ more) ++ z ≡ w x ++ tail = simp append_assoc in
        ap (list_from one close (suc n) all i) text
        ∙ found_none (eat close (w x ++ tail)) _ _ (no_close a x p tail)
        ∙ then_is (one (w x ++ tail)) _ (tall x a, tail) (exact a x p tail refl)
        ∙ found_some (eat mark.Comma tail) _ _ (m, items_words w more ++ z) refl
        ∙ next

    without_comma : (n : ℕ) (all : List (ListItem E)) (i a : ℕ) (x : E) (c : Span) (rest : Words) → P a x
        → list_from one close (suc n) all i (items_words w (list_item x None ∷ []) ++ marked close c ∷ rest) ≡ Ok (closed (all ++ list_item x None ∷ []) (max i a) c, rest)
    unfolding list_from ended
    without_comma n all i a x c rest p =
        let tail : Words = marked close c ∷ rest in
        let text : items_words w (list_item x None ∷ []) ++ tail ≡ w x ++ tail = simp append-nil in
        ap (list_from one close (suc n) all i) text
        ∙ found_none (eat close (w x ++ tail)) _ _ (no_close a x p tail)
        ∙ then_is (one (w x ++ tail)) _ (tall x a, tail) (exact a x p tail closer.1)
        ∙ found_none (eat mark.Comma tail) _ _ (no_comma c rest)
        ∙ found_some (eat close tail) _ _ (c, rest) (sees_close c rest)

    by_comma : (n : ℕ) (all : List (ListItem E)) (i a : ℕ) (x : E) (m : Option Span) (more : List (ListItem E)) (d : ℕ) (c : Span) (rest : Words) → P a x → CommaFits m more → Listed P more (max i a) d
        → list_from one close n (all ++ list_item x m ∷ []) (max i a) (items_words w more ++ marked close c ∷ rest) ≡ Ok (closed ((all ++ list_item x m ∷ []) ++ more) d c, rest)
        → list_from one close (suc n) all i (items_words w (list_item x m ∷ more) ++ marked close c ∷ rest) ≡ Ok (closed (all ++ list_item x m ∷ more) d c, rest)
    by_comma n all i a x (Some m) more d c rest p fits l next =
        with_comma n all i a x m more (marked close c ∷ rest) (closed ((all ++ list_item x (Some m) ∷ []) ++ more) d c) rest p next ∙ ap (λ z. Ok (closed z d c, rest)) (append_assoc all (list_item x (Some m) ∷ []) more)
    by_comma n all i a x None more d c rest p fits l next =
        let e : d ≡ max i a = subst (λ z. Listed P z (max i a) d) fits l in
        subst (λ z. list_from one close (suc n) all i (items_words w (list_item x None ∷ z) ++ marked close c ∷ rest) ≡ Ok (closed (all ++ list_item x None ∷ z) d c, rest)) (sym fits)
        (without_comma n all i a x c rest p ∙ ap (λ z. Ok (closed (all ++ list_item x None ∷ []) z c, rest)) (sym e))

    one_or_more : (n : ℕ) (x : E) (p : P n x) → 0 < length (w x)
    one_or_more n x p = let s = apart n x p in let h : length (w x) ≡ length (s.0 ∷ s.1) = ap length s.2 in omega (arith, h)

    pub list_full : (n : ℕ) (all its : List (ListItem E)) (i d : ℕ) (c : Span) (rest : Words) → Listed P its i d → length (items_words w its) < n
        → list_from one close n all i (items_words w its ++ marked close c ∷ rest) ≡ Ok (closed (all ++ its) d c, rest)
    unfolding list_from
    list_full zero all its i d c rest l fits = absurd (omega arith)
    list_full (suc n) all [] i d c rest l fits = found_some (eat close (marked close c ∷ rest)) _ _ (c, rest) (sees_close c rest) ∙ ap (λ z. Ok (closed z i c, rest)) (sym (append-nil all)) ∙ ap (λ z. Ok (closed (all ++ []) z c, rest)) (sym l)
    list_full (suc n) all (x ∷ more) i d c rest l fits =
        let some = one_or_more l.0 x.item l.1 in
        let shorter : length (items_words w more) < n = omega (arith, length-append (w x.item ++ comma x.comma) (items_words w more), length-append (w x.item) (comma x.comma)) in
        by_comma n all i l.0 x.item x.comma more d c rest l.1 l.2 l.3 (list_full n (all ++ list_item x.item x.comma ∷ []) more (max i l.0) d c rest l.3 shorter)

    -- a whole list up to its closing mark
    pub list_is : (its : List (ListItem E)) (d : ℕ) (c : Span) (rest : Words) → Listed P its 0 d → list_of one close (items_words w its ++ marked close c ∷ rest) ≡ Ok (closed its d c, rest)
    list_is its d c rest l = list_full (length (items_words w its ++ marked close c ∷ rest)) [] its 0 d c rest l (omega (arith, length-append (items_words w its) (marked close c ∷ rest)))
