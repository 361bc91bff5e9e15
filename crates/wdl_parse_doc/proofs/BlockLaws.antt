-- Blocks in one another, read turn by turn and written.
use Rattle.std.proofs.Common.{◌≡◌, ℕ, zero, suc, ◌<◌, ◌≤◌, List, [], ◌∷◌, ◌++◌, length, Option, Some, None, Ok, refl, ap, sym, ◌∙◌, subst, append_assoc, length-append, arith}
use Rattle.std.proofs.lemmas.List.{append-nil}
use Rattle.wdl_base.specs.declared.span.Span.{Span}
use Rattle.wdl_ast.specs.declared.token.Mark.TheVariants as mark
use Rattle.wdl_ast.specs.declared.workflow.Statement.{Statement}
use Rattle.wdl_ast.specs.declared.workflow.Statement.TheVariants as st
use Rattle.wdl_ast.specs.Words.{Words, marked}
use Rattle.wdl_ast.specs.DocumentWords.{each, statement_words}
use Rattle.token_reading.specs.Outcome.{then_, eat, one_more}
use Rattle.token_reading.proofs.Steps.{ate, then_is, found_some, found_none}
use Rattle.token_reading.proofs.Says.{Says, Takes, carry, says_then, says_found}
use Rattle.wdl_parse_parts.specs.declared.heads.BlockHead.{BlockHead}
use Rattle.wdl_parse_parts.specs.declared.heads.BlockHead.TheVariants as head
use Rattle.wdl_parse_doc.specs.declared.block.OpenBlock.{OpenBlock}
use Rattle.wdl_parse_doc.specs.declared.block.Block.{Block}
use Rattle.wdl_parse_doc.specs.declared.block.Turn.{Turn}
use Rattle.wdl_parse_doc.specs.declared.block.Turn.TheVariants as turn
use Rattle.wdl_parse_doc.specs.Context as ctx
use Rattle.wdl_parse_doc.specs.Context.{Stands}
use Rattle.wdl_parse_doc.specs.Grammar as g
use Rattle.wdl_parse_parts.specs.Grammar.{Each}
use Rattle.wdl_parse_doc.specs.Grammar.{AreStatements, IsStatement}
use Rattle.wdl_parse_doc.specs.Reading.Blocks as r
use Rattle.wdl_parse_parts.specs.Reading.Heads as heads
use Rattle.wdl_parse_parts.specs.Reading.Heads.{closed}
use Rattle.wdl_parse_doc.specs.Reading.Blocks.{closing, block_of, after_turn, turns_from}
use Rattle.wdl_parse_doc.proofs.Formats.{Doc, SoundAt, Format, starts_some, at_once}
use Rattle.wdl_parse_doc.proofs.CallLaws.{Quiet, brace_quiet}
use Rattle.wdl_parse_doc.proofs.StatementLaws.{head_words, IsHead, HeadOf, head_sound, head_full, closed_words, closed_is, head_stands, each_stands, Simple, simple_sound, call_simple, declaration_simple, statements_quiet}

-- ---- what was read of the blocks that are open

before : List OpenBlock → Words
before [] = []
before (o ∷ below) = before below ++ (head_words o.head ++ each statement_words o.before)

abbrev block_words : Block → Words
block_words b = before b.around ++ (head_words b.head ++ each statement_words b.body)

abbrev IsOpen : OpenBlock → Type 0
IsOpen o = IsHead o.head × AreStatements o.before

abbrev IsBlock : Block → Type 0
IsBlock b = Each IsOpen b.around × IsHead b.head × AreStatements b.body

abbrev TurnOf : Words → Turn → Words → Type 0
TurnOf all (turn.Done s) rest = (all ≡ statement_words s ++ rest) × IsStatement s
TurnOf all (turn.Going b) rest = (all ≡ block_words b ++ rest) × IsBlock b

each_more : (xs : List Statement) (x : Statement) → each statement_words (xs ++ x ∷ []) ≡ each statement_words xs ++ statement_words x
each_more [] x = append-nil (statement_words x)
each_more (y ∷ xs) x = ap (λ z. statement_words y ++ z) (each_more xs x) ∙ sym (append_assoc (statement_words y) (each statement_words xs) (statement_words x))

are_more : (xs : List Statement) → AreStatements xs → (ys : List Statement) → AreStatements ys → AreStatements (xs ++ ys)
are_more xs g.none ys q = q
are_more xs (g.declaration d more p m) ys q = g.declaration d (more ++ ys) p (are_more more m ys q)
are_more xs (g.call c more p m) ys q = g.call c (more ++ ys) p (are_more more m ys q)
are_more xs (g.scatter s more p x b m) ys q = g.scatter s (more ++ ys) p x b (are_more more m ys q)
are_more xs (g.conditional s more x b m) ys q = g.conditional s (more ++ ys) x b (are_more more m ys q)

-- one more statement behind those of a block
added : (all front : Words) (h : BlockHead) (xs : List Statement) (s : Statement) (rest : Words) → all ≡ (front ++ (head_words h ++ each statement_words xs)) ++ (statement_words s ++ rest)
    → all ≡ (front ++ (head_words h ++ each statement_words (xs ++ s ∷ []))) ++ rest
added all front h xs s rest e = e ∙ text ∙ ap (λ z. (front ++ (head_words h ++ z)) ++ rest) (sym (each_more xs s))
  where
    text : (front ++ (head_words h ++ each statement_words xs)) ++ (statement_words s ++ rest) ≡ (front ++ (head_words h ++ (each statement_words xs ++ statement_words s))) ++ rest
    text = simp append_assoc

closing_says : (all : Words) (around : List OpenBlock) (s : Statement) (rest : Words) → all ≡ before around ++ (statement_words s ++ rest) → Each IsOpen around → IsStatement s → TurnOf all (closing around s) rest
unfolding before
closing_says all [] s rest e p q = (e, q)
closing_says all (o ∷ below) s rest e p q = (added all (before below) o.head o.before s rest e, (p.1, p.0.0, are_more o.before p.0.1 (s ∷ []) q))

-- the block that is closed
closed_text : (all : Words) (b : Block) (c : Span) (ts rest : Words) → all ≡ block_words b ++ ts → ts ≡ marked mark.CloseBrace c ∷ rest → all ≡ before b.around ++ (statement_words (closed b.head b.body c) ++ rest)
closed_text all b c ts rest e h = e ∙ ap (λ z. block_words b ++ z) h ∙ text ∙ ap (λ z. before b.around ++ (z ++ rest)) (sym (closed_words b.head b.body c))
  where
    text : block_words b ++ marked mark.CloseBrace c ∷ rest ≡ before b.around ++ ((head_words b.head ++ (each statement_words b.body ++ marked mark.CloseBrace c ∷ [])) ++ rest)
    text = simp append_assoc

opened_stands : (front : Words) (h : BlockHead) (xs : List Statement) → IsHead h → AreStatements xs → Stands ctx.a_statement front → Stands ctx.a_statement (front ++ (head_words h ++ each statement_words xs))
opened_stands front h xs p q here = subst (Stands ctx.a_statement) (append_assoc front (head_words h) (each statement_words xs)) (each_stands xs q (front ++ head_words h) (head_stands front h p here))

before_stands : (around : List OpenBlock) → Each IsOpen around → (front : Words) → Stands ctx.a_statement front → Stands ctx.a_statement (front ++ before around)
unfolding before
before_stands [] p front here = at_once (Stands ctx.a_statement) front here
before_stands (o ∷ below) p front here =
    subst (Stands ctx.a_statement) (append_assoc front (before below) (head_words o.head ++ each statement_words o.before)) (opened_stands (front ++ before below) o.head o.before p.0.0 p.0.1 (before_stands below p.1 front here))

-- behind what was read of the blocks that are open a statement stands
block_stands : (front : Words) (b : Block) → IsBlock b → Stands ctx.a_statement front → Stands ctx.a_statement (front ++ block_words b)
block_stands front b p here =
    subst (Stands ctx.a_statement) (append_assoc front (before b.around) (head_words b.head ++ each statement_words b.body)) (opened_stands (front ++ before b.around) b.head b.body p.1 p.2 (before_stands b.around p.0 front here))

opening_then : (doc front all : Words) → doc ≡ front ++ all → Stands ctx.a_statement front → (b : Block) (ts : Words) (x : Option BlockHead) (rest : Words) → all ≡ block_words b ++ ts → IsBlock b → HeadOf ts x rest
    → Says (Doc doc) (TurnOf all) (one_more x (λ h. Ok (r.opened b h, rest)) (then_ (r.simple rest) (λ s more. Ok (r.longer b s, more))))
unfolding before r.opened r.longer
opening_then doc front all eq here b ts (Some h) rest e p t = (e ∙ ap (λ z. block_words b ++ z) t.0 ∙ sym (append_assoc (block_words b) (head_words h) rest) ∙ ap (λ z. (block_words b ++ z) ++ rest) (sym (append-nil (head_words h))), (((p.1, p.2), p.0), t.1, g.none))
opening_then doc front all eq here b ts None rest e p t = says_then (Doc doc) (Takes IsStatement statement_words rest) (TurnOf all) (r.simple rest) _ (simple_sound doc (front ++ block_words b) rest (eq ∙ ap (λ z. front ++ z) (e ∙ ap (λ z. block_words b ++ z) t.0) ∙ sym (append_assoc front (block_words b) rest)) (block_stands front b p here))
    (λ s more q. (added all (before b.around) b.head b.body s more (e ∙ ap (λ z. block_words b ++ z) (t.0 ∙ q.0)), (p.0, p.1, are_more b.body p.2 (s ∷ []) q.1)))

turn_sound : (doc front all : Words) → doc ≡ front ++ all → Stands ctx.a_statement front → (b : Block) (ts : Words) → all ≡ block_words b ++ ts → IsBlock b → Says (Doc doc) (TurnOf all) (r.turn_at b ts)
unfolding r.turn_at r.opening r.ended
turn_sound doc front all eq here b ts e p =
    says_found (Doc doc) (TurnOf all) (eat mark.CloseBrace ts) _ _
    (λ c h. closing_says all b.around (closed b.head b.body c.0) c.1 (closed_text all b c.0 ts c.1 e (ate mark.CloseBrace ts c h)) p.0 (closed_is b.head b.body c.0 [] p.1 p.2 g.none))
    (λ _. says_then (Doc doc) (HeadOf ts) (TurnOf all) (heads.head_at ts) _ (head_sound doc (front ++ block_words b) ts (eq ∙ ap (λ z. front ++ z) e ∙ sym (append_assoc front (block_words b) ts)) (block_stands front b p here)) (λ x rest t. opening_then doc front all eq here b ts x rest e p t))

-- a turn, and those behind it
turned_says : (n : ℕ) (doc all : Words) → ((b : Block) (ts : Words) → all ≡ block_words b ++ ts → IsBlock b → Says (Doc doc) (Takes IsStatement statement_words all) (turns_from n b ts))
    → (x : Turn) (rest : Words) → TurnOf all x rest → Says (Doc doc) (Takes IsStatement statement_words all) (after_turn x (λ b. turns_from n b rest) rest)
turned_says n doc all more (turn.Done s) rest t = t
turned_says n doc all more (turn.Going b) rest t = more b rest t.0 t.1

turns_sound : (n : ℕ) (doc front all : Words) → doc ≡ front ++ all → Stands ctx.a_statement front → (b : Block) (ts : Words) → all ≡ block_words b ++ ts → IsBlock b → Says (Doc doc) (Takes IsStatement statement_words all) (turns_from n b ts)
unfolding turns_from
turns_sound zero doc front all eq here b ts e p = tt
turns_sound (suc n) doc front all eq here b ts e p = says_then (Doc doc) (TurnOf all) (Takes IsStatement statement_words all) (r.turn_at b ts) _ (turn_sound doc front all eq here b ts e p) (turned_says n doc all (turns_sound n doc front all eq here))

block_sound : (h : BlockHead) (doc front all : Words) → doc ≡ front ++ all → Stands ctx.a_statement front → (ts : Words) → all ≡ head_words h ++ ts → IsHead h → Says (Doc doc) (Takes IsStatement statement_words all) (r.block_at h ts)
unfolding r.block_at before
block_sound h doc front all eq here ts e p = turns_sound (length ts) doc front all eq here (block_of [] h []) ts (e ∙ ap (λ z. z ++ ts) (sym (append-nil (head_words h)))) (tt, p, g.none)

pub statement_sound : SoundAt (Stands ctx.a_statement) IsStatement statement_words r.statement
unfolding r.statement
statement_sound doc front ts eq here = says_then (Doc doc) (HeadOf ts) (Takes IsStatement statement_words ts) (heads.head_at ts) _ (head_sound doc front ts eq here) go
  where
    go : (x : Option BlockHead) (rest : Words) → HeadOf ts x rest → Says (Doc doc) (Takes IsStatement statement_words ts) (one_more x (λ h. r.block_at h rest) (r.simple rest))
    go (Some h) rest t = block_sound h doc front ts eq here rest t.0 t.1
    go None rest t = carry (Doc doc) (Takes IsStatement statement_words rest) (Takes IsStatement statement_words ts) (r.simple rest) (λ s more q. (t.0 ∙ q.0, q.1)) (simple_sound doc front rest (eq ∙ ap (λ z. front ++ z) t.0) here)

-- ---- statements are read, turn by turn

-- with enough turns these statements are read behind others of a block, and enough turns are left
abbrev Runs : List Statement → Type 0
Runs xs = (around : List OpenBlock) (h : BlockHead) (body : List Statement) (tail : Words) → Quiet tail → (n : ℕ) → length (each statement_words xs ++ tail) ≤ n
    → (m : ℕ) × (length tail ≤ m) × (turns_from n (block_of around h body) (each statement_words xs ++ tail) ≡ turns_from m (block_of around h (body ++ xs)) tail)

-- one turn
turned : (n : ℕ) (b c : Block) (ts rest : Words) → r.turn_at b ts ≡ Ok (turn.Going c, rest) → turns_from (suc n) b ts ≡ turns_from n c rest
unfolding turns_from
turned n b c ts rest h = then_is (r.turn_at b ts) _ (turn.Going c, rest) h

simple_turn : (around : List OpenBlock) (h : BlockHead) (body : List Statement) (s : Statement) (rest : Words) → Simple s rest
    → r.turn_at (block_of around h body) (statement_words s ++ rest) ≡ Ok (turn.Going (block_of around h (body ++ s ∷ [])), rest)
unfolding r.turn_at r.opening r.longer
simple_turn around h body s rest k =
    found_none (eat mark.CloseBrace (statement_words s ++ rest)) _ _ k.goes_on
    ∙ then_is (heads.head_at (statement_words s ++ rest)) _ (None, statement_words s ++ rest) k.headless
    ∙ then_is (r.simple (statement_words s ++ rest)) _ (s, rest) k.read

run_none : Runs []
run_none around h body tail q n fits = (n, fits, ap (λ z. turns_from n (block_of around h z) tail) (sym (append-nil body)))

run_simple : (s : Statement) (more : List Statement) → ((rest : Words) → Quiet rest → Simple s rest) → AreStatements more → Runs more → Runs (s ∷ more)
run_simple s more k p run around h body tail q zero fits =
    absurd (omega (arith, fits, (k (each statement_words more ++ tail) (statements_quiet more p tail q)).some, length-append (statement_words s ++ each statement_words more) tail, length-append (statement_words s) (each statement_words more)))
run_simple s more k p run around h body tail q (suc n) fits =
    let rest : Words = each statement_words more ++ tail in
    let simple = k rest (statements_quiet more p tail q) in
    let text : (statement_words s ++ each statement_words more) ++ tail ≡ statement_words s ++ rest = append_assoc (statement_words s) (each statement_words more) tail in
    let whole : length (statement_words s ++ (each statement_words more ++ tail)) ≤ suc n = subst (λ z. length z ≤ suc n) text fits in
    let shorter : length (each statement_words more ++ tail) ≤ n = omega (arith, whole, length-append (statement_words s) (each statement_words more ++ tail), simple.some) in
    let later = run around h (body ++ s ∷ []) tail q n shorter in (
      later.0,
      later.1,
      ap (turns_from (suc n) (block_of around h body)) text
          ∙ turned n (block_of around h body) (block_of around h (body ++ s ∷ [])) (statement_words s ++ rest) rest (simple_turn around h body s rest simple)
          ∙ later.2 ∙ ap (λ z. turns_from later.0 (block_of around h z) tail) (append_assoc body (s ∷ []) more),
    )

-- the turn that opens a block, and the one that ends it
open_turn : (around : List OpenBlock) (h i : BlockHead) (body : List Statement) (rest : Words) → IsHead i
    → r.turn_at (block_of around h body) (head_words i ++ rest) ≡ Ok (turn.Going (block_of (record { head = h; before = body } ∷ around) i []), rest)
unfolding r.turn_at r.opening r.opened
open_turn around h (head.Scatter i) body rest p =
    found_none (eat mark.CloseBrace (head_words (head.Scatter i) ++ rest)) _ _ refl
    ∙ then_is (heads.head_at (head_words (head.Scatter i) ++ rest)) _ (Some (head.Scatter i), rest) (head_full (head.Scatter i) p rest)
open_turn around h (head.Conditional i) body rest p =
    found_none (eat mark.CloseBrace (head_words (head.Conditional i) ++ rest)) _ _ refl
    ∙ then_is (heads.head_at (head_words (head.Conditional i) ++ rest)) _ (Some (head.Conditional i), rest) (head_full (head.Conditional i) p rest)

end_turn : (b : Block) (c : Span) (rest : Words) → r.turn_at b (marked mark.CloseBrace c ∷ rest) ≡ Ok (closing b.around (closed b.head b.body c), rest)
unfolding r.turn_at r.ended
end_turn b c rest = found_some (eat mark.CloseBrace (marked mark.CloseBrace c ∷ rest)) _ _ (c, rest) refl

head_some : (h : BlockHead) → 0 < length (head_words h)
head_some (head.Scatter h) = omega arith
head_some (head.Conditional h) = omega arith

run_block : (i : BlockHead) → IsHead i → (xs : List Statement) (c : Span) (more : List Statement) → Runs xs → Runs more → Runs (closed i xs c ∷ more)
run_block i p xs c more inside behind around h body tail q n fits = go n total
  where
    last : Words
    last = each statement_words more ++ tail

    end : Words
    end = marked mark.CloseBrace c ∷ last

    text : each statement_words (closed i xs c ∷ more) ++ tail ≡ head_words i ++ (each statement_words xs ++ end)
    text = ap (λ z. (z ++ each statement_words more) ++ tail) (closed_words i xs c) ∙ simp append_assoc

    total : length (head_words i ++ (each statement_words xs ++ end)) ≤ n
    total = subst (λ z. length z ≤ n) text fits

    outer : List OpenBlock
    outer = record { head = h; before = body } ∷ around

    close : (n : ℕ) → length end ≤ n → (m : ℕ) × (length tail ≤ m) × (turns_from n (block_of outer i xs) end ≡ turns_from m (block_of around h (body ++ closed i xs c ∷ more)) tail)
    close zero fits = absurd (omega (arith, fits, starts_some end last (marked mark.CloseBrace c) refl))
    close (suc n) fits =
        let one_less : length end ≡ suc (length last) = refl in
        let shorter : length last ≤ n = omega (arith, fits, one_less) in
        let later = behind around h (body ++ closed i xs c ∷ []) tail q n shorter in (
          later.0,
          later.1,
          turned n (block_of outer i xs) (block_of around h (body ++ closed i xs c ∷ [])) end last (end_turn (block_of outer i xs) c last)
              ∙ later.2 ∙ ap (λ z. turns_from later.0 (block_of around h z) tail) (append_assoc body (closed i xs c ∷ []) more),
        )

    go : (n : ℕ) → length (head_words i ++ (each statement_words xs ++ end)) ≤ n
        → (m : ℕ) × (length tail ≤ m) × (turns_from n (block_of around h body) (each statement_words (closed i xs c ∷ more) ++ tail) ≡ turns_from m (block_of around h (body ++ closed i xs c ∷ more)) tail)
    go zero fits = absurd (omega (arith, fits, head_some i, length-append (head_words i) (each statement_words xs ++ end)))
    go (suc n) fits =
        let shorter : length (each statement_words xs ++ end) ≤ n = omega (arith, fits, head_some i, length-append (head_words i) (each statement_words xs ++ end)) in
        let rest : Words = each statement_words xs ++ end in
        let inner = inside outer i [] end (brace_quiet c last) n shorter in
        let after = close inner.0 inner.1 in (
          after.0,
          after.1,
          ap (turns_from (suc n) (block_of around h body)) text
              ∙ turned n (block_of around h body) (block_of outer i []) (head_words i ++ rest) rest (open_turn around h i body rest p)
              ∙ inner.2 ∙ after.2,
        )

pub run : (xs : List Statement) → AreStatements xs → Runs xs
run xs g.none = run_none
run xs (g.declaration d more p m) = run_simple (st.Declaration d) more (λ rest q. declaration_simple d p rest q) m (run more m)
run xs (g.call c more p m) = run_simple (st.Call c) more (λ rest q. call_simple c p rest q) m (run more m)
run xs (g.scatter s more p x b m) =
    run_block (head.Scatter (record { keyword = s.keyword; opening_paren = s.opening_paren; item = s.item; in_word = s.in_word; over = s.over; closing_paren = s.closing_paren; opening = s.opening })) (p, x) s.body s.closing more (run s.body b) (run more m)
run xs (g.conditional s more x b m) =
    run_block (head.Conditional (record { keyword = s.keyword; opening_paren = s.opening_paren; condition = s.condition; closing_paren = s.closing_paren; opening = s.opening })) x s.body s.closing more (run s.body b) (run more m)

-- ---- a whole statement

ended : (h : BlockHead) (xs : List Statement) (c : Span) (tail : Words) (m : ℕ) → length (marked mark.CloseBrace c ∷ tail) ≤ m → turns_from m (block_of [] h xs) (marked mark.CloseBrace c ∷ tail) ≡ Ok (closed h xs c, tail)
unfolding turns_from
ended h xs c tail zero fits = absurd (omega (arith, fits, starts_some (marked mark.CloseBrace c ∷ tail) tail (marked mark.CloseBrace c) refl))
ended h xs c tail (suc m) fits = then_is (r.turn_at (block_of [] h xs) (marked mark.CloseBrace c ∷ tail)) _ (turn.Done (closed h xs c), tail) (end_turn (block_of [] h xs) c tail)

no_more : (n : ℕ) → n ≤ n
no_more n = omega arith

block_full : (h : BlockHead) → IsHead h → (xs : List Statement) → AreStatements xs → (c : Span) (tail : Words) → r.statement (statement_words (closed h xs c) ++ tail) ≡ Ok (closed h xs c, tail)
unfolding r.statement r.block_at
block_full h p xs q c tail =
    let end : Words = marked mark.CloseBrace c ∷ tail in
    let rest : Words = each statement_words xs ++ end in
    let text : statement_words (closed h xs c) ++ tail ≡ head_words h ++ rest = ap (λ z. z ++ tail) (closed_words h xs c) ∙ simp append_assoc in
    let inside = run xs q [] h [] end (brace_quiet c tail) (length rest) (no_more (length rest)) in
    ap r.statement text
    ∙ then_is (heads.head_at (head_words h ++ rest)) _ (Some h, rest) (head_full h p rest)
    ∙ inside.2 ∙ ended h xs c tail inside.0 inside.1

simple_full : (s : Statement) (tail : Words) → Simple s tail → r.statement (statement_words s ++ tail) ≡ Ok (s, tail)
unfolding r.statement
simple_full s tail k = then_is (heads.head_at (statement_words s ++ tail)) _ (None, statement_words s ++ tail) k.headless ∙ k.read

pub statement_full : (s : Statement) → IsStatement s → (tail : Words) → Quiet tail → r.statement (statement_words s ++ tail) ≡ Ok (s, tail)
statement_full s (g.declaration d more p m) tail q = simple_full (st.Declaration d) tail (declaration_simple d p tail q)
statement_full s (g.call c more p m) tail q = simple_full (st.Call c) tail (call_simple c p tail q)
statement_full s (g.scatter x more p e b m) tail q =
    block_full (head.Scatter (record { keyword = x.keyword; opening_paren = x.opening_paren; item = x.item; in_word = x.in_word; over = x.over; closing_paren = x.closing_paren; opening = x.opening })) (p, e) x.body b x.closing tail
statement_full s (g.conditional x more e b m) tail q =
    block_full (head.Conditional (record { keyword = x.keyword; opening_paren = x.opening_paren; condition = x.condition; closing_paren = x.closing_paren; opening = x.opening })) e x.body b x.closing tail

abbrev pub a_statement : Format Statement
a_statement = record { is = IsStatement; words = statement_words; read = r.statement; before = Quiet; stands = Stands ctx.a_statement; sound = statement_sound; full = statement_full }
