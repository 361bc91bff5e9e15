-- Members and indices, link after link: what is in the grammar is read, or more than that.
use Rattle.std.proofs.Common.{◌≡◌, ℕ, zero, suc, ◌+◌, ◌<◌, ◌≤◌, max, Bool, true, false, cond, not, ◌⊎◌, inl, inr, [], ◌∷◌, ◌++◌, length, Option, Some, None, Ok, Err, refl, ap, sym, ◌∙◌, append_assoc, length-append, arith, nat_le, codes}
use Rattle.std.proofs.Math.Nat.{le-max_left}
use Rattle.std.proofs.lemmas.Bool.Decides.{nat_tests}
use Rattle.std.specs.Str.{bytes_eq}
use Rattle.wdl_base.specs.declared.span.Span.{Span}
use Rattle.wdl_base.specs.Names.{is_name}
use Rattle.wdl_ast.specs.declared.token.Mark.TheVariants as mark
use Rattle.wdl_ast.specs.declared.token.Kind.{Kind}
use Rattle.wdl_ast.specs.declared.token.Kind.TheVariants as kind
use Rattle.wdl_ast.specs.declared.token.Token.{Token}
use Rattle.wdl_ast.specs.declared.leaf.Ident.{Ident}
use Rattle.wdl_ast.specs.declared.expr.Expr.{Expr}
use Rattle.wdl_ast.specs.declared.expr.Expr.TheVariants as e
use Rattle.wdl_ast.specs.Words.{Words, at, marked, ident, words}
use Rattle.wdl_ast.proofs.WordLaws.{words_member, words_index, words_true, words_false, words_none, words_int, words_str, words_name, words_call, words_group, words_pair, words_list, words_map, words_struct}
use Rattle.token_reading.specs.declared.fault.Refusal.TheVariants.{Missing, Bad}
use Rattle.token_reading.specs.declared.tall.Tall.{Tall}
use Rattle.token_reading.specs.declared.tall.Chain.{Chain}
use Rattle.token_reading.specs.declared.tall.Rule.{Rule}
use Rattle.token_reading.specs.declared.tall.Rule.TheVariants as rule
use Rattle.token_reading.specs.Outcome.{Outcome, Parser, is_mark, is_word, eat, ident_at, tall, bad, linked}
use Rattle.wdl_parse_expr.specs.Grammar as g
use Rattle.token_reading.specs.Operators.{unary_at}
use Rattle.wdl_parse_expr.specs.Grammar.{IsPrimary, IsPost, Tree}
use Rattle.wdl_parse_expr.specs.Reading as r
use Rattle.wdl_parse_expr.specs.Reading.{chained, Step, step, turns}
use Rattle.wdl_parse_expr.specs.Contract.{continues}
use Rattle.token_reading.proofs.Steps.{ate, ate_ident, sees_ident, cond_true, then_is, then_bad, attempt_is, attempt_bad, attempt_missing, found_some, found_none}
use Rattle.token_reading.proofs.Says.{AnyFault, Takes, said}
use Rattle.wdl_parse_expr.proofs.Sound.{IsSound, tall_words}
use Rattle.wdl_parse_expr.proofs.Begins.{begins, calm, calm_before, Begins, Starts, name_not, if_reserved}
use Rattle.wdl_parse_expr.proofs.Goes.{Hard, Longer, AtMost, Reaches, IsFull, longer_along, longer_then, calls, calls_go}
use Rattle.wdl_parse_expr.proofs.Primaries.{Primaries, primary_full, inner_exact}

-- so many links over parts of that depth
abbrev pub chain : ℕ → ℕ → Expr → Chain
chain m i x = record { left = tall x (m + i); links = m; inside = i }

pub first_chain : (n : ℕ) (x : Expr) → chained (tall x n) ≡ chain 0 n x
first_chain n x = let same : n ≡ 0 + n = omega arith in ap (λ d. record { left = tall x d; links = 0; inside = n }) same

-- ---- link after link

-- stops where it is, or goes on
abbrev pub Goes : ℕ → Outcome (Tall Expr) → Chain → Words → Type 0
Goes k o c ts = (o ≡ Ok (c.left, ts)) ⊎ ((continues k ts ≡ true) × Longer o ts)

pub goes_at_most : (k : ℕ) (o : Outcome (Tall Expr)) (c : Chain) (ts : Words) → Goes k o c ts → AtMost o ts
goes_at_most k o c ts (inl h) = inr ((c.left, ts), h, omega arith)
goes_at_most k o c ts (inr (h, inl d)) = inl d
goes_at_most k o c ts (inr (h, inr x)) = inr (x.0, x.1, omega (arith, x.2))

-- a step takes a link, or is refused for good
abbrev pub Linked : Step → Words → Type 0
Linked o ts = Hard o ⊎ ((x : Chain × Words) × (o ≡ Ok (Some x.0, x.1)) × (length x.1 < length ts))

abbrev pub Stepped : ℕ → Step → Words → Type 0
Stepped k o ts = (o ≡ Ok (None, ts)) ⊎ ((continues k ts ≡ true) × Linked o ts)

pub linked_along : (o : Step) (depth : ℕ) (s : Span) (links inside : ℕ) (x : Expr) (rest ts : Words) → o ≡ step (linked depth s links inside x rest) → length rest < length ts → Linked o ts
unfolding linked
linked_along o depth s links inside x rest ts h less = go (nat_le (links + inside) depth) h
  where
    go : (b : Bool) → o ≡ step (cond b (Ok (record { left = tall x (suc (links + inside)); links = suc links; inside = inside }, rest)) (bad 111 s)) → Linked o ts
    go true q = inr ((record { left = tall x (suc (links + inside)); links = suc links; inside = inside }, rest), q, less)
    go false q = inl (_, q)

pub linked_is : (depth m i : ℕ) (s : Span) (x : Expr) (rest : Words) → suc m + i ≤ suc depth → step (linked depth s m i x rest) ≡ Ok (Some (chain (suc m) i x), rest)
unfolding linked
linked_is depth m i s x rest fits =
    let same : suc (m + i) ≡ suc m + i = omega arith in
    ap step (cond_true (nat_le (m + i) depth) _ _ (grind (arith, nat_tests))) ∙ ap (λ n. Ok (Some (record { left = tall x n; links = suc m; inside = i }), rest)) same

pub turns_goes : (k : ℕ) (next : Chain → Words → Step) → ((c : Chain) (ts : Words) → Stepped k (next c ts) ts) → (n : ℕ) (c : Chain) (ts : Words) → Goes k (turns next n c ts) c ts
unfolding turns
turns_goes k next steps zero c ts = inl refl
turns_goes k next steps (suc n) c ts = go (λ x r. turns_goes k next steps n x r) (steps c ts)
  where
    after : (x : Chain × Words) → next c ts ≡ Ok (Some x.0, x.1) → length x.1 < length ts → AtMost (turns next n x.0 x.1) x.1 → Longer (turns next (suc n) c ts) ts
    after x h less (inl d) = inl (d.0, then_is (next c ts) _ (Some x.0, x.1) h ∙ d.1)
    after x h less (inr y) = inr (y.0, then_is (next c ts) _ (Some x.0, x.1) h ∙ y.1, omega (arith, y.2, less))

    go : ((x : Chain) (r : Words) → Goes k (turns next n x r) x r) → Stepped k (next c ts) ts → Goes k (turns next (suc n) c ts) c ts
    go more (inl h) = inl (then_is (next c ts) _ (None, ts) h)
    go more (inr (q, inl d)) = inr (q, inl (d.0, then_bad (next c ts) _ d.0 d.1))
    go more (inr (q, inr x)) = inr (q, after x.0 x.1 x.2 (goes_at_most k _ x.0.0 x.0.1 (more x.0.0 x.0.1)))

-- Reading comes to where this much of a chain was read, with turns enough for what is left; or it goes on, where `on` says that it may.
abbrev pub Upto : (Words → Bool) → Parser (Tall Expr) → (Chain → Words → Step) → ℕ → ℕ → Expr → Words → Type 0
Upto on reads next m i x tail = ((n : ℕ) × (length tail ≤ n) × (reads (words x ++ tail) ≡ turns next n (chain m i x) tail)) ⊎ ((on tail ≡ true) × Longer (reads (words x ++ tail)) tail)

-- one more link
upto_step : (on : Words → Bool) (reads : Parser (Tall Expr)) (next : Chain → Words → Step) (m i p j : ℕ) (x y : Expr) (mid tail : Words) → Upto on reads next m i x mid → on mid ≡ false
    → words y ++ tail ≡ words x ++ mid → next (chain m i x) mid ≡ Ok (Some (chain p j y), tail) → length tail < length mid → Upto on reads next p j y tail
unfolding turns
upto_step on reads next m i p j x y mid tail (inl (zero, fits, h)) stops text link less = absurd (omega arith)
upto_step on reads next m i p j x y mid tail (inl (suc n, fits, h)) stops text link less = inl (n, omega arith, ap reads text ∙ h ∙ then_is (next (chain m i x) mid) _ (Some (chain p j y), tail) link)
upto_step on reads next m i p j x y mid tail (inr h) stops text link less = (let n : true ≡ false = sym h.0 ∙ stops in let z : ⊥ = cc in absurd z)

-- The steps go on as rule k does, and the whole as rule j.
pub upto_reaches : (k j : ℕ) (on : Words → Bool) (reads : Parser (Tall Expr)) (next : Chain → Words → Step) → ((c : Chain) (ts : Words) → Stepped k (next c ts) ts) → ((ts : Words) → continues k ts ≡ true → continues j ts ≡ true)
    → ((ts : Words) → on ts ≡ true → continues j ts ≡ true) → (m i : ℕ) (x : Expr) (tail : Words) → Upto on reads next m i x tail → Reaches j (reads (words x ++ tail)) (tall x (m + i)) tail
upto_reaches k j on reads next steps wider goes m i x tail (inl (n, fits, h)) = after (turns_goes k next steps n (chain m i x) tail)
  where
    after : Goes k (turns next n (chain m i x) tail) (chain m i x) tail → Reaches j (reads (words x ++ tail)) (tall x (m + i)) tail
    after (inl s) = inl (h ∙ s)
    after (inr (c, l)) = inr (wider tail c, longer_along _ _ tail h l)
upto_reaches k j on reads next steps wider goes m i x tail (inr (c, l)) = inr (goes tail c, l)

-- ---- how operands begin

abbrev pub is_operand : Kind → Bool
is_operand (kind.Word w) = not (bytes_eq w (codes "if"))
is_operand (kind.Int n) = true
is_operand (kind.StrOpen q) = true
is_operand (kind.Mark mark.OpenParen) = true
is_operand (kind.Mark mark.OpenBracket) = true
is_operand (kind.Mark mark.OpenBrace) = true
is_operand _ = false

pub no_sign : (k : Kind) (s : Span) (ts : Words) → is_operand k ≡ true → unary_at (at k s ∷ ts) ≡ None
no_sign (kind.Mark mark.OpenParen) s ts h = refl
no_sign (kind.Mark mark.OpenBracket) s ts h = refl
no_sign (kind.Mark mark.OpenBrace) s ts h = refl
no_sign (kind.Mark _) s ts h = cc
no_sign _ s ts h = refl

pub no_if : (k : Kind) → is_operand k ≡ true → is_word (codes "if") k ≡ false
no_if (kind.Word w) h = flip (bytes_eq w (codes "if")) h
  where
    flip : (b : Bool) → not b ≡ true → b ≡ false
    flip false p = refl
    flip true p = cc
no_if _ h = refl

operand_begins : (k : Kind) → is_operand k ≡ true → begins k ≡ true
operand_begins (kind.Word w) h = refl
operand_begins (kind.Int n) h = refl
operand_begins (kind.StrOpen q) h = refl
operand_begins (kind.Mark mark.OpenParen) h = refl
operand_begins (kind.Mark mark.OpenBracket) h = refl
operand_begins (kind.Mark mark.OpenBrace) h = refl
operand_begins (kind.Mark _) h = cc
operand_begins _ h = cc

module _ (depth : ℕ) (inner : Rule → Parser (Tall Expr)) (sound : IsSound (Tree depth) inner) (full : IsFull (Tree depth) inner) (starts : (k : Rule) (n : ℕ) → Starts (Tree depth k n)) where
  abbrev In : Rule → ℕ → Expr → Type 0
  In = Tree depth

  -- ---- members and indices

  member_goes : (c : Chain) (ts : Words) (dot : Span × Words) → eat mark.Dot ts ≡ Some dot → (n : Option (Ident × Words)) → ident_at dot.1 ≡ n → Stepped 0 (r.suffix depth inner c ts) ts
  unfolding r.suffix
  member_goes c ts dot h None q = inl (found_some (eat mark.Dot ts) _ _ dot h ∙ found_none (ident_at dot.1) _ _ q)
  member_goes c ts dot h (Some n) q =
      let e1 = ate mark.Dot ts dot h in
      let e2 = (ate_ident dot.1 n q).0 in
      let less : length n.1 < length ts = omega (arith, ap length e1, ap length e2) in
      inr (ap (continues 0) e1, linked_along _ depth dot.0 c.links c.inside (e.Member c.left.tree dot.0 n.0) n.1 ts (found_some (eat mark.Dot ts) _ _ dot h ∙ found_some (ident_at dot.1) _ _ n q) less)

  index_closed : (c : Chain) (ts : Words) (o : Span × Words) → eat mark.Dot ts ≡ None → eat mark.OpenBracket ts ≡ Some o → (i : Tall Expr × Words) → inner rule.Expr o.1 ≡ Ok i
      → (k : Option (Span × Words)) → eat mark.CloseBracket i.1 ≡ k → Stepped 0 (r.suffix depth inner c ts) ts
  unfolding r.suffix
  index_closed c ts o d h i got None q = inl (found_none (eat mark.Dot ts) _ _ d ∙ found_some (eat mark.OpenBracket ts) _ _ o h ∙ attempt_is (inner rule.Expr o.1) _ _ i got ∙ found_none (eat mark.CloseBracket i.1) _ _ q)
  index_closed c ts o d h i got (Some k) q =
      let e1 = ate mark.OpenBracket ts o h in
      let e2 = (said AnyFault (Takes (λ t. In rule.Expr t.depth t.tree) tall_words o.1) _ i (sound rule.Expr o.1) got).0 in
      let e3 = ate mark.CloseBracket i.1 k q in
      let less : length k.1 < length ts = omega (arith, ap length e1, ap length e2, ap length e3, length-append (words i.0.tree) i.1) in
      inr (
        ap (continues 0) e1,
        linked_along _ depth o.0 c.links (max c.inside i.0.depth) (e.Index c.left.tree o.0 i.0.tree k.0) k.1 ts
            (found_none (eat mark.Dot ts) _ _ d ∙ found_some (eat mark.OpenBracket ts) _ _ o h ∙ attempt_is (inner rule.Expr o.1) _ _ i got ∙ found_some (eat mark.CloseBracket i.1) _ _ k q) less,
      )

  index_goes : (c : Chain) (ts : Words) (o : Span × Words) → eat mark.Dot ts ≡ None → eat mark.OpenBracket ts ≡ Some o → (i : Outcome (Tall Expr)) → inner rule.Expr o.1 ≡ i → Stepped 0 (r.suffix depth inner c ts) ts
  unfolding r.suffix
  index_goes c ts o d h (Ok i) q = index_closed c ts o d h i q (eat mark.CloseBracket i.1) refl
  index_goes c ts o d h (Err Missing) q = inl (found_none (eat mark.Dot ts) _ _ d ∙ found_some (eat mark.OpenBracket ts) _ _ o h ∙ attempt_missing (inner rule.Expr o.1) _ _ q)
  index_goes c ts o d h (Err (Bad f)) q = inr (ap (continues 0) (ate mark.OpenBracket ts o h), inl (f, found_none (eat mark.Dot ts) _ _ d ∙ found_some (eat mark.OpenBracket ts) _ _ o h ∙ attempt_bad (inner rule.Expr o.1) _ _ f q))

  bracket_goes : (c : Chain) (ts : Words) → eat mark.Dot ts ≡ None → (o : Option (Span × Words)) → eat mark.OpenBracket ts ≡ o → Stepped 0 (r.suffix depth inner c ts) ts
  unfolding r.suffix
  bracket_goes c ts d None q = inl (found_none (eat mark.Dot ts) _ _ d ∙ found_none (eat mark.OpenBracket ts) _ _ q)
  bracket_goes c ts d (Some o) q = index_goes c ts o d q (inner rule.Expr o.1) refl

  dot_goes : (c : Chain) (ts : Words) (o : Option (Span × Words)) → eat mark.Dot ts ≡ o → Stepped 0 (r.suffix depth inner c ts) ts
  dot_goes c ts None q = bracket_goes c ts q (eat mark.OpenBracket ts) refl
  dot_goes c ts (Some dot) q = member_goes c ts dot q (ident_at dot.1) refl

  suffix_goes : (c : Chain) (ts : Words) → Stepped 0 (r.suffix depth inner c ts) ts
  suffix_goes c ts = dot_goes c ts (eat mark.Dot ts) refl

  abbrev Posts : ℕ → ℕ → Expr → Words → Type 0
  Posts = Upto calls (r.post depth inner) (r.suffix depth inner)

  post_first : (n : ℕ) (x : Expr) (tail : Words) → Primaries depth inner sound full starts n x tail → Posts 0 n x tail
  unfolding r.post
  post_first n x tail (inl h) = inl (length tail, omega arith, then_is (r.primary depth inner (words x ++ tail)) _ (tall x n, tail) h ∙ ap (λ z. turns (r.suffix depth inner) (length tail) z tail) (first_chain n x))
  post_first n x tail (inr h) = inr (h.0, longer_then (r.primary depth inner (words x ++ tail)) _ tail h.1 (λ y rest. goes_at_most 0 _ (chained y) rest (turns_goes 0 (r.suffix depth inner) suffix_goes (length rest) (chained y) rest)))

  member_step : (m i : ℕ) (x : Expr) (dot : Span) (n : Ident) (tail : Words) → is_name n.name ≡ true → suc m + i ≤ suc depth
      → r.suffix depth inner (chain m i x) (marked mark.Dot dot ∷ ident n ∷ tail) ≡ Ok (Some (chain (suc m) i (e.Member x dot n)), tail)
  unfolding r.suffix
  member_step m i x dot n tail named fits =
      found_some (eat mark.Dot (marked mark.Dot dot ∷ ident n ∷ tail)) _ _ (dot, ident n ∷ tail) refl ∙ found_some (ident_at (ident n ∷ tail)) _ _ (n, tail) (sees_ident n tail named)
      ∙ linked_is depth m i dot (e.Member x dot n) tail fits

  index_step : (m i a : ℕ) (x : Expr) (o : Span) (y : Expr) (c : Span) (tail : Words) → In rule.Expr a y → suc m + max i a ≤ suc depth
      → r.suffix depth inner (chain m i x) (marked mark.OpenBracket o ∷ (words y ++ marked mark.CloseBracket c ∷ tail)) ≡ Ok (Some (chain (suc m) (max i a) (e.Index x o y c)), tail)
  unfolding r.suffix
  index_step m i a x o y c tail p fits =
      let mid : Words = words y ++ marked mark.CloseBracket c ∷ tail in
      found_none (eat mark.Dot (marked mark.OpenBracket o ∷ mid)) _ _ refl ∙ found_some (eat mark.OpenBracket (marked mark.OpenBracket o ∷ mid)) _ _ (o, mid) refl
      ∙ attempt_is (inner rule.Expr mid) _ _ (tall y a, marked mark.CloseBracket c ∷ tail) (inner_exact depth inner sound full starts a y p (marked mark.CloseBracket c ∷ tail) refl)
      ∙ found_some (eat mark.CloseBracket (marked mark.CloseBracket c ∷ tail)) _ _ (c, tail) refl
      ∙ linked_is depth m (max i a) o (e.Index x o y c) tail fits

  post_by : (m i : ℕ) (x : Expr) → IsPost In m i x → m + i ≤ suc depth → (tail : Words) → Posts m i x tail
  post_by m i x (g.primary n y q) fits tail = post_first n y tail (primary_full depth inner sound full starts n y q (omega (arith, fits)) tail)
  post_by m i x (g.member p j y dot n named q) fits tail =
      upto_step calls (r.post depth inner) (r.suffix depth inner) p j (suc p) j y (e.Member y dot n) (marked mark.Dot dot ∷ ident n ∷ tail) tail (post_by p j y q (omega (arith, fits)) (marked mark.Dot dot ∷ ident n ∷ tail)) refl
      (simp (words_member, append_assoc)) (member_step p j y dot n tail named fits) (omega arith)
  post_by m i x (g.index p j a y o z c q within) fits tail =
      let mid : Words = marked mark.OpenBracket o ∷ (words z ++ marked mark.CloseBracket c ∷ tail) in
      upto_step calls (r.post depth inner) (r.suffix depth inner) p j (suc p) (max j a) y (e.Index y o z c) mid tail (post_by p j y q (omega (arith, fits, le-max_left j a)) mid) refl
      (simp (words_index, append_assoc)) (index_step p j a y o z c tail within fits) (omega (arith, length-append (words z) (marked mark.CloseBracket c ∷ tail)))

  pub post_full : (m i : ℕ) (x : Expr) → IsPost In m i x → m + i ≤ suc depth → (tail : Words) → Reaches 0 (r.post depth inner (words x ++ tail)) (tall x (m + i)) tail
  post_full m i x q fits tail = upto_reaches 0 0 calls (r.post depth inner) (r.suffix depth inner) suffix_goes (λ ts h. h) calls_go m i x tail (post_by m i x q fits tail)

  -- ---- how a primary with members and indices begins

  abbrev pub Posted : Words → Type 0
  Posted ws = (t : Token) × (more : Words) × (ws ≡ t ∷ more) × (is_operand t.kind ≡ true) × (calm t.kind more ≡ true)

  primary_start : (n : ℕ) (x : Expr) → IsPrimary In n x → Posted (words x)
  primary_start n x (g.yes_ s) = (_, _, words_true s, refl, refl)
  primary_start n x (g.no_ s) = (_, _, words_false s, refl, refl)
  primary_start n x (g.none s) = (_, _, words_none s, refl, refl)
  primary_start n x (g.int v s) = (_, _, words_int v s, refl, refl)
  primary_start n x (g.str q o ps c d p) = (_, _, words_str (record { quote = q; opening = o; parts = ps; closing = c }), refl, refl)
  primary_start n x (g.name k named) = (_, _, words_name k, ap not (name_not k.name (codes "if") named if_reserved), refl)
  primary_start n x (g.call k o its c d named out l bare) = (_, _, words_call k o its c, ap not (name_not k.name (codes "if") named if_reserved), refl)
  primary_start n x (g.group o y c d i) = (_, _, words_group o y c, refl, refl)
  primary_start n x (g.pair o l k y c a b i j) = (_, _, words_pair o l k y c, refl, refl)
  primary_start n x (g.list o its c d l) = (_, _, words_list o its c, refl, refl)
  primary_start n x (g.map o es c d l) = (_, _, words_map o es c, refl, refl)
  primary_start n x (g.struct_ k o ms c d named l) = (_, _, words_struct k o ms c, ap not (name_not k.name (codes "if") named if_reserved), refl)

  posted_before : (ws vs : Words) (t : Token) (rest : Words) → vs ≡ ws ++ t ∷ rest → is_mark mark.Assign t.kind ≡ false → Posted ws → Posted vs
  posted_before ws vs t rest h q s = (s.0, s.1 ++ t ∷ rest, h ∙ ap (λ z. z ++ t ∷ rest) s.2, s.3, calm_before s.0.kind s.1 t rest s.4 q)

  pub post_start : (m i : ℕ) (x : Expr) → IsPost In m i x → Posted (words x)
  post_start m i x (g.primary n y q) = primary_start n y q
  post_start m i x (g.member p j y dot n named q) = posted_before (words y) _ (marked mark.Dot dot) (ident n ∷ []) (words_member y dot n) refl (post_start p j y q)
  post_start m i x (g.index p j a y o z c q within) = posted_before (words y) _ (marked mark.OpenBracket o) (words z ++ marked mark.CloseBracket c ∷ []) (words_index y o z c) refl (post_start p j y q)

  pub posted_begins : (ws : Words) → Posted ws → Begins ws
  posted_begins ws s = (s.0, s.1, s.2, operand_begins s.0.kind s.3, s.4)
