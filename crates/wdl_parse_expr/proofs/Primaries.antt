-- Literals, names, calls, strings and what stands in brackets: what is in the grammar is read, or more than that.
use Rattle.std.proofs.Common.{◌≡◌, ℕ, zero, suc, ◌<◌, ◌≤◌, max, Bool, true, false, not, ◌⊎◌, inl, inr, List, [], ◌∷◌, ◌++◌, length, Option, Some, None, Ok, Err, refl, ap, sym, ◌∙◌, append_assoc, length-append, arith, codes}
use Rattle.std.proofs.lemmas.List.{append-nil}
use Rattle.wdl_base.specs.declared.span.Span.{Span}
use Rattle.wdl_base.specs.Names.{is_name}
use Rattle.wdl_ast.specs.declared.token.Mark.{Mark}
use Rattle.wdl_ast.specs.declared.token.Mark.TheVariants as mark
use Rattle.wdl_ast.specs.declared.token.Quote.{Quote}
use Rattle.wdl_ast.specs.declared.token.Kind.{Kind}
use Rattle.wdl_ast.specs.declared.token.Kind.TheVariants as kind
use Rattle.wdl_ast.specs.declared.token.Token.{Token}
use Rattle.wdl_ast.specs.declared.leaf.Ident.{Ident}
use Rattle.wdl_ast.specs.declared.leaf.ListItem.{ListItem}
use Rattle.wdl_ast.specs.declared.string.Placeholder.{Placeholder}
use Rattle.wdl_ast.specs.declared.string.StringPart.{StringPart}
use Rattle.wdl_ast.specs.declared.string.StringPart.TheVariants as part
use Rattle.wdl_ast.specs.declared.expr.MapEntry.{MapEntry}
use Rattle.wdl_ast.specs.declared.expr.MemberEntry.{MemberEntry}
use Rattle.wdl_ast.specs.declared.expr.Expr.{Expr}
use Rattle.wdl_ast.specs.declared.expr.Expr.TheVariants as e
use Rattle.wdl_ast.specs.Words.{Words, at, marked, keyword, ident, entry_words, member_words, items_words, options_words, part_words, parts_words, words}
use Rattle.wdl_ast.proofs.WordLaws.{words_true, words_false, words_none, words_int, words_str, words_name, words_call, words_group, words_pair, words_list, words_map, words_struct}
use Rattle.token_reading.specs.declared.fault.Refusal.TheVariants.{Missing, Bad}
use Rattle.token_reading.specs.declared.tall.Tall.{Tall}
use Rattle.token_reading.specs.declared.tall.Closed.{Closed}
use Rattle.token_reading.specs.declared.tall.Rule.{Rule}
use Rattle.token_reading.specs.declared.tall.Rule.TheVariants as rule
use Rattle.token_reading.specs.Outcome.{Outcome, Parser, is_mark, is_hole_close, is_str_close, eat_if, eat, ident_at, tall, grown}
use Rattle.token_reading.specs.Forms.{left_out}
use Rattle.wdl_parse_expr.specs.Grammar as g
use Rattle.wdl_parse_expr.specs.Grammar.{ends_bare, Listed, IsEntry, IsMember, Parts, IsPrimary, Tree}
use Rattle.wdl_parse_expr.specs.Reading as r
use Rattle.wdl_parse_expr.specs.Reading.{list_of}
use Rattle.token_reading.specs.Strings.{option_start}
use Rattle.wdl_parse_expr.specs.Contract.{goes_on, continues}
use Rattle.token_reading.proofs.Steps.{ate, sees_ident, cond_true, cond_false, then_is, attempt_is, attempt_bad, attempt_missing, found_some, found_none, grown_is}
use Rattle.token_reading.proofs.Says.{AnyFault, said}
use Rattle.wdl_parse_expr.proofs.Lists.{IsList, list_takes, list_is}
use Rattle.token_reading.proofs.Strings.{options_full}
use Rattle.wdl_parse_expr.proofs.Sound.{IsSound, member_takes}
use Rattle.wdl_parse_expr.proofs.Begins.{begins, no_assign, calm, Begins, Starts, closer_begins, true_reserved, false_reserved, none_reserved}
use Rattle.wdl_parse_expr.proofs.Goes.{Longer, AtMost, IsFull, longer_along, at_most_grown, exact, calls}

module _ (depth : ℕ) (inner : Rule → Parser (Tall Expr)) (sound : IsSound (Tree depth) inner) (full : IsFull (Tree depth) inner) (starts : (k : Rule) (n : ℕ) → Starts (Tree depth k n)) where
  abbrev In : Rule → ℕ → Expr → Type 0
  In = Tree depth

  pub inner_exact : (n : ℕ) (x : Expr) → In rule.Expr n x → (tail : Words) → continues 6 tail ≡ false → inner rule.Expr (words x ++ tail) ≡ Ok (tall x n, tail)
  inner_exact n x i tail stops = exact 6 _ (tall x n) tail stops (full rule.Expr n x i tail)

  -- ---- elements of lists

  entry_exact : (n : ℕ) (m : MapEntry Expr) → IsEntry In n m → (tail : Words) → continues 6 tail ≡ false → r.entry inner (entry_words words m ++ tail) ≡ Ok (tall m n, tail)
  unfolding r.entry
  entry_exact n m p tail stops =
      let mid : Words = words m.value ++ tail in
      let text : entry_words words m ++ tail ≡ words m.key ++ marked mark.Colon m.colon ∷ mid = simp append_assoc in
      ap (r.entry inner) text
      ∙ then_is (inner rule.Expr (words m.key ++ marked mark.Colon m.colon ∷ mid)) _ (tall m.key p.0, marked mark.Colon m.colon ∷ mid) (inner_exact p.0 m.key p.2 (marked mark.Colon m.colon ∷ mid) refl)
      ∙ found_some (eat mark.Colon (marked mark.Colon m.colon ∷ mid)) _ _ (m.colon, mid) refl
      ∙ then_is (inner rule.Expr mid) _ (tall m.value p.1, tail) (inner_exact p.1 m.value p.3 tail stops)
      ∙ ap (λ z. Ok (tall m z, tail)) (sym p.4)

  member_exact : (n : ℕ) (m : MemberEntry Expr) → IsMember In n m → (tail : Words) → continues 6 tail ≡ false → r.member inner (member_words words m ++ tail) ≡ Ok (tall m n, tail)
  unfolding r.member
  member_exact n m p tail stops =
      let mid : Words = words m.value ++ tail in
      found_some (ident_at (ident m.name ∷ marked mark.Colon m.colon ∷ mid)) _ _ (m.name, marked mark.Colon m.colon ∷ mid) (sees_ident m.name (marked mark.Colon m.colon ∷ mid) p.0)
      ∙ found_some (eat mark.Colon (marked mark.Colon m.colon ∷ mid)) _ _ (m.colon, mid) refl
      ∙ then_is (inner rule.Expr mid) _ (tall m.value n, tail) (inner_exact n m.value p.1 tail stops)

  items_apart : (close : Mark) → begins (kind.Mark close) ≡ false → (n : ℕ) (x : Expr) → In rule.Expr n x → (t : Token) × (more : Words) × (words x ≡ t ∷ more) × (is_mark close t.kind ≡ false)
  items_apart close c n x i = let s = starts rule.Expr n x i in (s.0, s.1, s.2, closer_begins close c s.0.kind s.3)

  entry_apart : (n : ℕ) (m : MapEntry Expr) → IsEntry In n m → (t : Token) × (more : Words) × (entry_words words m ≡ t ∷ more) × (is_mark mark.CloseBrace t.kind ≡ false)
  entry_apart n m p = let s = items_apart mark.CloseBrace refl p.0 m.key p.2 in (s.0, s.1 ++ marked mark.Colon m.colon ∷ words m.value, ap (λ z. z ++ marked mark.Colon m.colon ∷ words m.value) s.2, s.3)

  member_apart : (n : ℕ) (m : MemberEntry Expr) → IsMember In n m → (t : Token) × (more : Words) × (member_words words m ≡ t ∷ more) × (is_mark mark.CloseBrace t.kind ≡ false)
  member_apart n m p = (ident m.name, marked mark.Colon m.colon ∷ words m.value, refl, refl)

  items_is : (close : Mark) → begins (kind.Mark close) ≡ false → (is_mark close (kind.Mark close) ≡ true) × (goes_on 6 (kind.Mark close) ≡ false) × (is_mark mark.Comma (kind.Mark close) ≡ false)
      → (its : List (ListItem Expr)) (d : ℕ) (c : Span) (rest : Words) → Listed (In rule.Expr) its 0 d → list_of (inner rule.Expr) close (items_words words its ++ marked close c ∷ rest) ≡ Ok (record { items = its; inside = d; closing = c }, rest)
  items_is close apart closer its d c rest l = list_is (In rule.Expr) words (inner rule.Expr) close inner_exact (items_apart close apart) closer its d c rest l

  -- ---- parts of a string

  no_option : (ws tail : Words) → Begins ws → (t : Token) (rest : Words) → tail ≡ t ∷ rest → is_mark mark.Assign t.kind ≡ false → option_start (ws ++ tail) ≡ None
  no_option ws tail b t rest h q = ap (λ z. option_start (z ++ tail)) b.2 ∙ behind b.0.kind b.0.span b.1 b.4
    where
      second : (more : Words) → no_assign more ≡ true → eat mark.Assign (more ++ tail) ≡ None
      second [] p = ap (eat mark.Assign) h ∙ cond_false (is_mark mark.Assign t.kind) _ _ q
      second (u ∷ more) p = cond_false (is_mark mark.Assign u.kind) _ _ (flip (is_mark mark.Assign u.kind) p)
        where
          flip : (b : Bool) → not b ≡ true → b ≡ false
          flip false p = refl
          flip true p = cc

      behind : (k : Kind) (s : Span) (more : Words) → calm k more ≡ true → option_start (at k s ∷ (more ++ tail)) ≡ None
      behind (kind.Word w) s more p = found_none (eat mark.Assign (more ++ tail)) _ _ (second more p)
      behind _ s more p = refl

  hole_full : (h : Placeholder Expr) (n : ℕ) → In rule.Expr n h.expr → (z : Words) → r.hole inner h.mark h.opening (options_words h.options ++ (words h.expr ++ at kind.HoleClose h.closing ∷ z)) ≡ Ok (tall (part.Placeholder h) n, z)
  unfolding r.hole
  hole_full h n i z =
      let tail : Words = at kind.HoleClose h.closing ∷ z in
      let s = starts rule.Expr n h.expr i in
      then_is _ _ (h.options, words h.expr ++ tail) (options_full h.options (words h.expr ++ tail) (no_option (words h.expr) tail s (at kind.HoleClose h.closing) z refl refl))
      ∙ then_is (inner rule.Expr (words h.expr ++ tail)) _ (tall h.expr n, tail) (inner_exact n h.expr i tail refl)
      ∙ found_some (eat_if is_hole_close tail) _ _ (h.closing, z) refl

  hole_part : (h : Placeholder Expr) (n : ℕ) → In rule.Expr n h.expr → (z : Words) → r.part_at inner (part_words words (part.Placeholder h) ++ z) ≡ Ok (Some (tall (part.Placeholder h) n), z)
  hole_part h n i z =
      let rest : Words = options_words h.options ++ (words h.expr ++ at kind.HoleClose h.closing ∷ z) in
      let text : part_words words (part.Placeholder h) ++ z ≡ at (kind.HoleOpen h.mark) h.opening ∷ rest = simp append_assoc in
      ap (r.part_at inner) text ∙ then_is (r.hole inner h.mark h.opening rest) _ (tall (part.Placeholder h) n, z) (hole_full h n i z)

  -- the mark that ends the parts is none of them
  abbrev Ends : Token → Type 0
  Ends t = (rest : Words) → r.part_at inner (t ∷ rest) ≡ Ok (None, t ∷ rest)

  parts_full : (turns : ℕ) (all ps : List (StringPart Expr)) (i n : ℕ) (t : Token) (rest : Words) → Ends t → Parts In ps i n → length (parts_words words ps) < turns
      → r.parts_from inner turns all i (parts_words words ps ++ t ∷ rest) ≡ Ok (tall (all ++ ps) n, t ∷ rest)
  unfolding r.parts_from
  parts_full zero all ps i n t rest ends p fits = absurd (omega arith)
  parts_full (suc turns) all [] i n t rest ends p fits = then_is (r.part_at inner (t ∷ rest)) _ (None, t ∷ rest) (ends rest) ∙ ap (λ z. Ok (tall z i, t ∷ rest)) (sym (append-nil all)) ∙ ap (λ z. Ok (tall (all ++ []) z, t ∷ rest)) (sym p)
  parts_full (suc turns) all (part.Chars c ∷ more) i n t rest ends p fits =
      let same : max i 0 ≡ i = grind arith in
      then_is (r.part_at inner (parts_words words (part.Chars c ∷ more) ++ t ∷ rest)) _ (Some (tall (part.Chars c) 0), parts_words words more ++ t ∷ rest) refl
      ∙ ap (λ z. r.parts_from inner turns (all ++ part.Chars c ∷ []) z (parts_words words more ++ t ∷ rest)) same
      ∙ parts_full turns (all ++ part.Chars c ∷ []) more i n t rest ends p (omega arith) ∙ ap (λ z. Ok (tall z n, t ∷ rest)) (append_assoc all (part.Chars c ∷ []) more)
  parts_full (suc turns) all (part.Placeholder h ∷ more) i n t rest ends p fits =
      let tail : Words = parts_words words more ++ t ∷ rest in
      let shorter : length (parts_words words more) < turns = omega (arith, length-append (part_words words (part.Placeholder h)) (parts_words words more)) in
      ap (r.parts_from inner (suc turns) all i) (append_assoc (part_words words (part.Placeholder h)) (parts_words words more) (t ∷ rest))
      ∙ then_is (r.part_at inner (part_words words (part.Placeholder h) ++ tail)) _ (Some (tall (part.Placeholder h) p.0), tail) (hole_part h p.0 p.1 tail)
      ∙ parts_full turns (all ++ part.Placeholder h ∷ []) more (max i p.0) n t rest ends p.2 shorter ∙ ap (λ z. Ok (tall z n, t ∷ rest)) (append_assoc all (part.Placeholder h ∷ []) more)

  -- all parts up to the end of their string or command
  pub parts_is : (ps : List (StringPart Expr)) (n : ℕ) (t : Token) (rest : Words) → Ends t → Parts In ps 0 n → r.parts inner (parts_words words ps ++ t ∷ rest) ≡ Ok (tall ps n, t ∷ rest)
  parts_is ps n t rest ends p = parts_full (length (parts_words words ps ++ t ∷ rest)) [] ps 0 n t rest ends p (omega (arith, length-append (parts_words words ps) (t ∷ rest)))

  -- ---- primaries

  abbrev Names : Ident → Words → Type 0
  Names n tail = (r.named depth inner n tail ≡ Ok (tall (e.Name n) 1, tail)) ⊎ ((calls tail ≡ true) × Longer (r.named depth inner n tail) tail)

  -- a node behind the brackets at the head of the tail
  bracketed : (tail mid after : Words) (s : Span) (i : ℕ) (x : Expr) (o : Outcome (Tall Expr)) → o ≡ grown depth s 0 i x after → length after < length tail → Longer o tail
  bracketed tail mid after s i x o h less = go (at_most_grown depth s 0 i x after)
    where
      go : AtMost (grown depth s 0 i x after) after → Longer o tail
      go (inl d) = inl (d.0, h ∙ d.1)
      go (inr y) = inr (y.0, h ∙ y.1, omega (arith, y.2, less))

  abbrev Args : Ident → Span → Words → Words → Type 0
  Args n o rest tail = (r.arguments depth inner n o rest tail ≡ Ok (tall (e.Name n) 1, tail)) ⊎ Longer (r.arguments depth inner n o rest tail) tail

  args_bare : (n : Ident) (o : Span) (rest tail : Words) (l : Closed Expr × Words) → tail ≡ marked mark.OpenParen o ∷ rest → list_of (inner rule.Expr) mark.CloseParen rest ≡ Ok l → (b : Bool) → ends_bare l.0.items ≡ b → Args n o rest tail
  unfolding r.arguments
  args_bare n o rest tail l h got true q =
      let takes = said AnyFault (IsList (In rule.Expr) words (inner rule.Expr) mark.CloseParen rest) _ l (list_takes (In rule.Expr) words (inner rule.Expr) mark.CloseParen (sound rule.Expr) rest) got in
      let less : length l.1 < length tail = omega (arith, ap length h, ap length takes.0, length-append (items_words words l.0.items) (marked mark.CloseParen l.0.closing ∷ l.1)) in
      inr (bracketed tail rest l.1 o l.0.inside (e.Call n o l.0.items l.0.closing) _ (attempt_is (list_of (inner rule.Expr) mark.CloseParen rest) _ _ l got ∙ cond_true (ends_bare l.0.items) _ _ q) less)
  args_bare n o rest tail l h got false q = inl (attempt_is (list_of (inner rule.Expr) mark.CloseParen rest) _ _ l got ∙ cond_false (ends_bare l.0.items) _ _ q)

  args_by : (n : Ident) (o : Span) (rest tail : Words) → tail ≡ marked mark.OpenParen o ∷ rest → (l : Outcome (Closed Expr)) → list_of (inner rule.Expr) mark.CloseParen rest ≡ l → Args n o rest tail
  unfolding r.arguments
  args_by n o rest tail h (Ok l) q = args_bare n o rest tail l h q (ends_bare l.0.items) refl
  args_by n o rest tail h (Err Missing) q = inl (attempt_missing (list_of (inner rule.Expr) mark.CloseParen rest) _ _ q)
  args_by n o rest tail h (Err (Bad f)) q = inr (inl (f, attempt_bad (list_of (inner rule.Expr) mark.CloseParen rest) _ _ f q))

  name_paren : (n : Ident) (o : Span) (rest tail : Words) → tail ≡ marked mark.OpenParen o ∷ rest → r.named depth inner n tail ≡ r.call depth inner n o rest tail → (c : Option ℕ) → left_out n.name ≡ c → Names n tail
  unfolding r.call
  name_paren n o rest tail h start (Some c) q = inr (ap calls h, inl (_, start ∙ ap (λ z. r.call_by depth inner z n o rest tail) q))
  name_paren n o rest tail h start None q = go (args_by n o rest tail h (list_of (inner rule.Expr) mark.CloseParen rest) refl)
    where
      along : r.named depth inner n tail ≡ r.arguments depth inner n o rest tail
      along = start ∙ ap (λ z. r.call_by depth inner z n o rest tail) q

      go : Args n o rest tail → Names n tail
      go (inl s) = inl (along ∙ s)
      go (inr l) = inr (ap calls h, longer_along _ _ tail along l)

  name_brace : (n : Ident) (o : Span) (rest tail : Words) → tail ≡ marked mark.OpenBrace o ∷ rest → r.named depth inner n tail ≡ r.struct_literal depth inner n o rest tail
      → (l : Outcome (Closed (MemberEntry Expr))) → list_of (r.member inner) mark.CloseBrace rest ≡ l → Names n tail
  unfolding r.struct_literal
  name_brace n o rest tail h start (Ok l) q =
      let takes = said AnyFault (IsList (IsMember In) (member_words words) (r.member inner) mark.CloseBrace rest) _ l (list_takes (IsMember In) (member_words words) (r.member inner) mark.CloseBrace (member_takes depth inner sound) rest) q in
      let less : length l.1 < length tail = omega (arith, ap length h, ap length takes.0, length-append (items_words (member_words words) l.0.items) (marked mark.CloseBrace l.0.closing ∷ l.1)) in
      inr (ap calls h, bracketed tail rest l.1 o l.0.inside (e.Struct n o l.0.items l.0.closing) _ (start ∙ attempt_is (list_of (r.member inner) mark.CloseBrace rest) _ _ l q) less)
  name_brace n o rest tail h start (Err Missing) q = inl (start ∙ attempt_missing (list_of (r.member inner) mark.CloseBrace rest) _ _ q)
  name_brace n o rest tail h start (Err (Bad f)) q = inr (ap calls h, inl (f, start ∙ attempt_bad (list_of (r.member inner) mark.CloseBrace rest) _ _ f q))

  name_alone : (n : Ident) (tail : Words) → eat mark.OpenParen tail ≡ None → (o : Option (Span × Words)) → eat mark.OpenBrace tail ≡ o → Names n tail
  unfolding r.named
  name_alone n tail p None q = inl (found_none (eat mark.OpenParen tail) _ _ p ∙ found_none (eat mark.OpenBrace tail) _ _ q)
  name_alone n tail p (Some o) q = name_brace n o.0 o.1 tail (ate mark.OpenBrace tail o q) (found_none (eat mark.OpenParen tail) _ _ p ∙ found_some (eat mark.OpenBrace tail) _ _ o q) (list_of (r.member inner) mark.CloseBrace o.1) refl

  name_by : (n : Ident) (tail : Words) (o : Option (Span × Words)) → eat mark.OpenParen tail ≡ o → Names n tail
  unfolding r.named
  name_by n tail None q = name_alone n tail q (eat mark.OpenBrace tail) refl
  name_by n tail (Some o) q = name_paren n o.0 o.1 tail (ate mark.OpenParen tail o q) (found_some (eat mark.OpenParen tail) _ _ o q) (left_out n.name) refl

  call_full : (n : Ident) (o : Span) (its : List (ListItem Expr)) (c : Span) (d : ℕ) (z : Words) → left_out n.name ≡ None → Listed (In rule.Expr) its 0 d → ends_bare its ≡ true → suc d ≤ suc depth
      → r.named depth inner n (marked mark.OpenParen o ∷ (items_words words its ++ marked mark.CloseParen c ∷ z)) ≡ Ok (tall (e.Call n o its c) (suc d), z)
  unfolding r.named r.call r.arguments
  call_full n o its c d z out l bare fits =
      let rest : Words = items_words words its ++ marked mark.CloseParen c ∷ z in
      let tail : Words = marked mark.OpenParen o ∷ rest in
      found_some (eat mark.OpenParen tail) _ _ (o, rest) refl
      ∙ ap (λ k. r.call_by depth inner k n o rest tail) out
      ∙ attempt_is (list_of (inner rule.Expr) mark.CloseParen rest) _ _ (record { items = its; inside = d; closing = c }, z) (items_is mark.CloseParen refl (refl, refl, refl) its d c z l)
      ∙ cond_true (ends_bare its) _ _ bare
      ∙ grown_is depth o d (e.Call n o its c) z fits

  struct_full : (n : Ident) (o : Span) (ms : List (ListItem (MemberEntry Expr))) (c : Span) (d : ℕ) (z : Words) → Listed (IsMember In) ms 0 d → suc d ≤ suc depth
      → r.named depth inner n (marked mark.OpenBrace o ∷ (items_words (member_words words) ms ++ marked mark.CloseBrace c ∷ z)) ≡ Ok (tall (e.Struct n o ms c) (suc d), z)
  unfolding r.named r.struct_literal
  struct_full n o ms c d z l fits =
      let rest : Words = items_words (member_words words) ms ++ marked mark.CloseBrace c ∷ z in
      let tail : Words = marked mark.OpenBrace o ∷ rest in
      found_none (eat mark.OpenParen tail) _ _ refl
      ∙ found_some (eat mark.OpenBrace tail) _ _ (o, rest) refl
      ∙ attempt_is (list_of (r.member inner) mark.CloseBrace rest) _ _ (record { items = ms; inside = d; closing = c }, z) (list_is (IsMember In) (member_words words) (r.member inner) mark.CloseBrace member_exact member_apart (refl, refl, refl) ms d c z l)
      ∙ grown_is depth o d (e.Struct n o ms c) z fits

  group_full : (o : Span) (x : Expr) (c : Span) (n : ℕ) (z : Words) → In rule.Expr n x → suc n ≤ suc depth → r.paren depth inner o (words x ++ marked mark.CloseParen c ∷ z) ≡ Ok (tall (e.Group o x c) (suc n), z)
  unfolding r.paren
  group_full o x c n z i fits =
      let tail : Words = marked mark.CloseParen c ∷ z in
      then_is (inner rule.Expr (words x ++ tail)) _ (tall x n, tail) (inner_exact n x i tail refl)
      ∙ found_some (eat mark.CloseParen tail) _ _ (c, z) refl
      ∙ grown_is depth o n (e.Group o x c) z fits

  pair_full : (o : Span) (l : Expr) (k : Span) (x : Expr) (c : Span) (a b : ℕ) (z : Words) → In rule.Expr a l → In rule.Expr b x → suc (max a b) ≤ suc depth
      → r.paren depth inner o (words l ++ marked mark.Comma k ∷ (words x ++ marked mark.CloseParen c ∷ z)) ≡ Ok (tall (e.Pair o l k x c) (suc (max a b)), z)
  unfolding r.paren r.pair_end
  pair_full o l k x c a b z i j fits =
      let last : Words = marked mark.CloseParen c ∷ z in
      let tail : Words = marked mark.Comma k ∷ (words x ++ last) in
      then_is (inner rule.Expr (words l ++ tail)) _ (tall l a, tail) (inner_exact a l i tail refl)
      ∙ found_none (eat mark.CloseParen tail) _ _ refl
      ∙ found_some (eat mark.Comma tail) _ _ (k, words x ++ last) refl
      ∙ then_is (inner rule.Expr (words x ++ last)) _ (tall x b, last) (inner_exact b x j last refl)
      ∙ found_some (eat mark.CloseParen last) _ _ (c, z) refl
      ∙ grown_is depth o (max a b) (e.Pair o l k x c) z fits

  list_full : (o : Span) (its : List (ListItem Expr)) (c : Span) (n : ℕ) (z : Words) → Listed (In rule.Expr) its 0 n → suc n ≤ suc depth
      → r.list depth inner o (items_words words its ++ marked mark.CloseBracket c ∷ z) ≡ Ok (tall (e.List o its c) (suc n), z)
  unfolding r.list
  list_full o its c n z l fits = then_is _ _ (record { items = its; inside = n; closing = c }, z) (items_is mark.CloseBracket refl (refl, refl, refl) its n c z l) ∙ grown_is depth o n (e.List o its c) z fits

  map_full : (o : Span) (es : List (ListItem (MapEntry Expr))) (c : Span) (n : ℕ) (z : Words) → Listed (IsEntry In) es 0 n → suc n ≤ suc depth
      → r.map_literal depth inner o (items_words (entry_words words) es ++ marked mark.CloseBrace c ∷ z) ≡ Ok (tall (e.Map o es c) (suc n), z)
  unfolding r.map_literal
  map_full o es c n z l fits =
      then_is _ _ (record { items = es; inside = n; closing = c }, z) (list_is (IsEntry In) (entry_words words) (r.entry inner) mark.CloseBrace entry_exact entry_apart (refl, refl, refl) es n c z l)
      ∙ grown_is depth o n (e.Map o es c) z fits

  text_full : (q : Quote) (o : Span) (ps : List (StringPart Expr)) (c : Span) (n : ℕ) (z : Words) → Parts In ps 0 n → suc n ≤ suc depth
      → r.text depth inner q o (parts_words words ps ++ at kind.StrClose c ∷ z) ≡ Ok (tall (e.Str (record { quote = q; opening = o; parts = ps; closing = c })) (suc n), z)
  unfolding r.text
  text_full q o ps c n z p fits =
      then_is _ _ (tall ps n, at kind.StrClose c ∷ z) (parts_is ps n (at kind.StrClose c) z (λ rest. refl) p)
      ∙ found_some (eat_if is_str_close (at kind.StrClose c ∷ z)) _ _ (c, z) refl
      ∙ grown_is depth o n (e.Str (record { quote = q; opening = o; parts = ps; closing = c })) z fits

  -- a name is read as one
  worded_name : (n : Ident) (ts : Words) → is_name n.name ≡ true → r.primary depth inner (ident n ∷ ts) ≡ r.named depth inner n ts
  unfolding r.primary r.worded
  worded_name n ts h = cond_true (is_name n.name) _ _ h

  abbrev pub Primaries : ℕ → Expr → Words → Type 0
  Primaries n x tail = (r.primary depth inner (words x ++ tail) ≡ Ok (tall x n, tail)) ⊎ ((calls tail ≡ true) × Longer (r.primary depth inner (words x ++ tail)) tail)

  literal_true : (s : Span) (tail : Words) → r.primary depth inner (keyword (codes "true") s ∷ tail) ≡ Ok (tall (e.True s) 1, tail)
  unfolding r.primary r.worded r.literal
  literal_true s tail = cond_false (is_name (codes "true")) _ _ true_reserved

  literal_false : (s : Span) (tail : Words) → r.primary depth inner (keyword (codes "false") s ∷ tail) ≡ Ok (tall (e.False s) 1, tail)
  unfolding r.primary r.worded r.literal
  literal_false s tail = cond_false (is_name (codes "false")) _ _ false_reserved

  literal_none : (s : Span) (tail : Words) → r.primary depth inner (keyword (codes "None") s ∷ tail) ≡ Ok (tall (e.None s) 1, tail)
  unfolding r.primary r.worded r.literal
  literal_none s tail = cond_false (is_name (codes "None")) _ _ none_reserved

  pub primary_full : (n : ℕ) (x : Expr) → IsPrimary In n x → n ≤ suc depth → (tail : Words) → Primaries n x tail
  unfolding r.primary
  primary_full n x (g.yes_ s) fits tail = inl (ap (λ w. r.primary depth inner (w ++ tail)) (words_true s) ∙ literal_true s tail)
  primary_full n x (g.no_ s) fits tail = inl (ap (λ w. r.primary depth inner (w ++ tail)) (words_false s) ∙ literal_false s tail)
  primary_full n x (g.none s) fits tail = inl (ap (λ w. r.primary depth inner (w ++ tail)) (words_none s) ∙ literal_none s tail)
  primary_full n x (g.int v s) fits tail = inl (ap (λ w. r.primary depth inner (w ++ tail)) (words_int v s))
  primary_full n x (g.name k named) fits tail =
      let text : r.primary depth inner (words (e.Name k) ++ tail) ≡ r.named depth inner k tail = ap (λ w. r.primary depth inner (w ++ tail)) (words_name k) ∙ worded_name k tail named in
      go text (name_by k tail (eat mark.OpenParen tail) refl)
    where
      go : r.primary depth inner (words (e.Name k) ++ tail) ≡ r.named depth inner k tail → Names k tail → Primaries 1 (e.Name k) tail
      go q (inl h) = inl (q ∙ h)
      go q (inr h) = inr (h.0, longer_along _ _ tail q h.1)
  primary_full n x (g.call k o its c d named out l bare) fits tail =
      let text : words (e.Call k o its c) ++ tail ≡ ident k ∷ marked mark.OpenParen o ∷ (items_words words its ++ marked mark.CloseParen c ∷ tail) = simp (words_call, append_assoc) in
      inl (ap (r.primary depth inner) text ∙ worded_name k _ named ∙ call_full k o its c d tail out l bare fits)
  primary_full n x (g.group o y c d i) fits tail =
      let text : words (e.Group o y c) ++ tail ≡ marked mark.OpenParen o ∷ (words y ++ marked mark.CloseParen c ∷ tail) = simp (words_group, append_assoc) in
      inl (ap (r.primary depth inner) text ∙ group_full o y c d tail i fits)
  primary_full n x (g.pair o l k y c a b i j) fits tail =
      let text : words (e.Pair o l k y c) ++ tail ≡ marked mark.OpenParen o ∷ (words l ++ marked mark.Comma k ∷ (words y ++ marked mark.CloseParen c ∷ tail)) = simp (words_pair, append_assoc) in
      inl (ap (r.primary depth inner) text ∙ pair_full o l k y c a b tail i j fits)
  primary_full n x (g.list o its c d l) fits tail =
      let text : words (e.List o its c) ++ tail ≡ marked mark.OpenBracket o ∷ (items_words words its ++ marked mark.CloseBracket c ∷ tail) = simp (words_list, append_assoc) in
      inl (ap (r.primary depth inner) text ∙ list_full o its c d tail l fits)
  primary_full n x (g.map o es c d l) fits tail =
      let text : words (e.Map o es c) ++ tail ≡ marked mark.OpenBrace o ∷ (items_words (entry_words words) es ++ marked mark.CloseBrace c ∷ tail) = simp (words_map, append_assoc) in
      inl (ap (r.primary depth inner) text ∙ map_full o es c d tail l fits)
  primary_full n x (g.struct_ k o ms c d named l) fits tail =
      let text : words (e.Struct k o ms c) ++ tail ≡ ident k ∷ marked mark.OpenBrace o ∷ (items_words (member_words words) ms ++ marked mark.CloseBrace c ∷ tail) = simp (words_struct, append_assoc) in
      inl (ap (r.primary depth inner) text ∙ worded_name k _ named ∙ struct_full k o ms c d tail l fits)
  primary_full n x (g.str q o ps c d p) fits tail =
      let text : words (e.Str (record { quote = q; opening = o; parts = ps; closing = c })) ++ tail ≡ at (kind.StrOpen q) o ∷ (parts_words words ps ++ at kind.StrClose c ∷ tail) = simp (words_str, append_assoc) in
      inl (ap (r.primary depth inner) text ∙ text_full q o ps c d tail p fits)
