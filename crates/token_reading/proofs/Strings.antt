-- Plain strings and the options of placeholders, read and written.
use Rattle.std.proofs.Common.{◌≡◌, ℕ, Bool, true, false, cond, List, [], ◌∷◌, ◌++◌, Option, Some, None, Ok, refl, ap, sym, ◌∙◌, subst, append_assoc, codes}
use Rattle.std.proofs.lemmas.Slice.Eq.{bytes_eq-Decides}
use Rattle.std.specs.Str.{bytes_eq}
use Rattle.wdl_base.specs.declared.span.Span.{Span}
use Rattle.wdl_ast.specs.declared.token.Mark.TheVariants as mark
use Rattle.wdl_ast.specs.declared.token.Quote.{Quote}
use Rattle.wdl_ast.specs.declared.token.Kind.{Kind}
use Rattle.wdl_ast.specs.declared.token.Kind.TheVariants as kind
use Rattle.wdl_ast.specs.declared.leaf.Chars.{Chars}
use Rattle.wdl_ast.specs.declared.leaf.PlainString.{PlainString}
use Rattle.wdl_ast.specs.declared.string.PlaceholderOption.{PlaceholderOption}
use Rattle.wdl_ast.specs.declared.string.PlaceholderOptions.{PlaceholderOptions}
use Rattle.wdl_ast.specs.declared.string.PlaceholderOptions.TheVariants as options
use Rattle.wdl_ast.specs.Words.{Words, at, marked, keyword, chars_words, plain_words, option_words, options_words}
use Rattle.token_reading.specs.declared.operator.OptionWord.{OptionWord}
use Rattle.token_reading.specs.declared.operator.OptionWord.TheVariants as word
use Rattle.token_reading.specs.declared.fault.Fault.{Fault}
use Rattle.token_reading.specs.Outcome.{Parser, found, is_str_close, eat_if, eat}
use Rattle.token_reading.specs.Strings.{quote_of, quote_at, chars_of, chars_at, plain_end, plain, option_word, option_from, option_start, option_end, same_option, other_option, options_by, options_at}
use Rattle.token_reading.proofs.Steps.{ate, ate_str_close, then_is, found_some, found_none, cond_true}
use Rattle.token_reading.proofs.Says.{Says, Takes, carry, says_then, says_found, says_cond}

abbrev Any : {A : Type 0} → A → Type 0
Any x = Unit {0}

-- ---- plain strings

quote_from : (k : Kind) (s : Span) (ts : Words) (x : (Quote × Span) × Words) → quote_of k s ts ≡ Some x → at k s ∷ ts ≡ at (kind.StrOpen x.0.0) x.0.1 ∷ x.1
quote_from (kind.StrOpen q) s ts x h = let f : ((q, s), ts) ≡ x = cc in ap (λ (y : (Quote × Span) × Words). at (kind.StrOpen y.0.0) y.0.1 ∷ y.1) f
quote_from _ s ts x h = cc

pub ate_quote : (ts : Words) (x : (Quote × Span) × Words) → quote_at ts ≡ Some x → ts ≡ at (kind.StrOpen x.0.0) x.0.1 ∷ x.1
ate_quote [] x h = cc
ate_quote (t ∷ ts) x h = quote_from t.kind t.span ts x h

chars_from : (k : Kind) (s : Span) (ts : Words) → at k s ∷ ts ≡ chars_words (chars_of k s ts).0 ++ (chars_of k s ts).1
chars_from (kind.Chars w) s ts = refl
chars_from _ s ts = refl

pub ate_chars : (ts : Words) → ts ≡ chars_words (chars_at ts).0 ++ (chars_at ts).1
ate_chars [] = refl
ate_chars (t ∷ ts) = chars_from t.kind t.span ts

-- a reader whose every fault is a C, whatever C is: it has none
abbrev pub Quiet : {A : Type 0} → (A → Type 0) → (A → Words) → Parser A → Type 1
Quiet P w p = (C : Fault → Type 0) (ts : Words) → Says C (Takes P w ts) (p ts)

pub plain_sound : Quiet {A = PlainString} Any plain_words plain
unfolding plain
plain_sound C ts = says_found C (Takes Any plain_words ts) (quote_at ts) _ _
    (λ q h. says_found C (Takes Any plain_words ts) (eat_if is_str_close (chars_at q.1).1) _ _
    (λ c g. (ate_quote ts q h ∙ ap (λ z. at (kind.StrOpen q.0.0) q.0.1 ∷ z) (ate_chars q.1 ∙ ap (λ z. chars_words (chars_at q.1).0 ++ z) (ate_str_close (chars_at q.1).1 c g) ∙ sym (simp append_assoc)), tt)) (λ _. tt))
    (λ _. tt)

sees_chars : (c : Option Chars) (s : Span) (rest : Words) → chars_at (chars_words c ++ at kind.StrClose s ∷ rest) ≡ (c, at kind.StrClose s ∷ rest)
sees_chars (Some c) s rest = refl
sees_chars None s rest = refl

pub plain_full : (p : PlainString) (tail : Words) → plain (plain_words p ++ tail) ≡ Ok (p, tail)
unfolding plain
plain_full p tail =
    let rest : Words = chars_words p.chars ++ at kind.StrClose p.closing ∷ tail in
    let text : plain_words p ++ tail ≡ at (kind.StrOpen p.quote) p.opening ∷ rest = simp append_assoc in
    ap plain text
    ∙ found_some (quote_at (at (kind.StrOpen p.quote) p.opening ∷ rest)) _ _ ((p.quote, p.opening), rest) refl
    ∙ ap (λ (z : Option Chars × Words). plain_end (p.quote, p.opening) z.0 z.1) (sees_chars p.chars p.closing tail)
    ∙ found_some (eat_if is_str_close (at kind.StrClose p.closing ∷ tail)) _ _ (p.closing, tail) refl

-- ---- options

-- the spelling of an option's word
abbrev spelled : OptionWord → List ℕ → Type 0
spelled word.Sep w = w ≡ codes "sep"
spelled word.Default w = w ≡ codes "default"
spelled word.True w = w ≡ codes "true"
spelled word.False w = w ≡ codes "false"
spelled word.Other w = Unit {0}

option_spelled : (w : List ℕ) → spelled (option_word w) w
option_spelled w = by_sep (bytes_eq w (codes "sep")) refl
  where
    by_false : (b : Bool) → bytes_eq w (codes "false") ≡ b → spelled (cond b word.False word.Other) w
    by_false true h = (bytes_eq-Decides w (codes "false")).0 h
    by_false false h = tt

    by_true : (b : Bool) → bytes_eq w (codes "true") ≡ b → spelled (cond b word.True (cond (bytes_eq w (codes "false")) word.False word.Other)) w
    by_true true h = (bytes_eq-Decides w (codes "true")).0 h
    by_true false h = by_false (bytes_eq w (codes "false")) refl

    by_default : (b : Bool) → bytes_eq w (codes "default") ≡ b → spelled (cond b word.Default (cond (bytes_eq w (codes "true")) word.True (cond (bytes_eq w (codes "false")) word.False word.Other))) w
    by_default true h = (bytes_eq-Decides w (codes "default")).0 h
    by_default false h = by_true (bytes_eq w (codes "true")) refl

    by_sep : (b : Bool) → bytes_eq w (codes "sep") ≡ b → spelled (cond b word.Sep (cond (bytes_eq w (codes "default")) word.Default (cond (bytes_eq w (codes "true")) word.True (cond (bytes_eq w (codes "false")) word.False word.Other)))) w
    by_sep true h = (bytes_eq-Decides w (codes "sep")).0 h
    by_sep false h = by_default (bytes_eq w (codes "default")) refl

-- the word and the mark that an option begins with
abbrev Begun : OptionWord × (Span × Span) → Words → Words → Type 0
Begun o ts rest = (w : List ℕ) × (ts ≡ keyword w o.1.0 ∷ marked mark.Assign o.1.1 ∷ rest) × spelled o.0 w

begun_from : (w : List ℕ) (s : Span) (ts : Words) (a : Option (Span × Words)) → eat mark.Assign ts ≡ a → (x : (OptionWord × (Span × Span)) × Words)
    → found a (λ c rest. Some ((option_word w, (s, c)), rest)) None ≡ Some x → Begun x.0 (keyword w s ∷ ts) x.1
unfolding found
begun_from w s ts (Some c) q x h =
    let f : ((option_word w, (s, c.0)), c.1) ≡ x = cc in
    subst (λ (y : (OptionWord × (Span × Span)) × Words). Begun y.0 (keyword w s ∷ ts) y.1) f (w, ap (λ z. keyword w s ∷ z) (ate mark.Assign ts c q), option_spelled w)
begun_from w s ts None q x h = cc

begun_by : (k : Kind) (s : Span) (ts : Words) (x : (OptionWord × (Span × Span)) × Words) → option_from k s ts ≡ Some x → Begun x.0 (at k s ∷ ts) x.1
begun_by (kind.Word w) s ts x h = begun_from w s ts (eat mark.Assign ts) refl x h
begun_by _ s ts x h = cc

begun : (ts : Words) (x : (OptionWord × (Span × Span)) × Words) → option_start ts ≡ Some x → Begun x.0 ts x.1
begun [] x h = cc
begun (t ∷ ts) x h = begun_by t.kind t.span ts x h

abbrev OptionOf : List ℕ → Span × Span → Words → PlaceholderOption → Words → Type 0
OptionOf w s ts o r = keyword w s.0 ∷ marked mark.Assign s.1 ∷ ts ≡ option_words w o ++ r

end_sound : (C : Fault → Type 0) (w : List ℕ) (s : Span × Span) (ts : Words) → Says C (OptionOf w s ts) (option_end s ts)
unfolding option_end
end_sound C w s ts = says_then C (Takes Any plain_words ts) (OptionOf w s ts) (plain ts) _ (plain_sound C ts) (λ v r t. ap (λ z. keyword w s.0 ∷ marked mark.Assign s.1 ∷ z) t.0)

abbrev OtherOf : OptionWord → Words → PlaceholderOption → Words → Type 0
OtherOf w ts o r = (v : List ℕ) × (ts ≡ option_words v o ++ r) × spelled w v

same_spelled : (a b : OptionWord) (w : List ℕ) → same_option a b ≡ true → spelled a w → spelled b w
same_spelled word.True word.True w h s = s
same_spelled word.False word.False w h s = s
same_spelled _ _ w h s = cc

other_sound : (C : Fault → Type 0) (w : OptionWord) (ts : Words) → Says C (OtherOf w ts) (other_option w ts)
unfolding other_option
other_sound C w ts = says_found C (OtherOf w ts) (option_start ts) _ _
    (λ o h. let b = begun ts o h in says_cond C (OtherOf w ts) (same_option o.0.0 w) _ _
    (λ q. carry C (OptionOf b.0 o.0.1 o.1) (OtherOf w ts) (option_end o.0.1 o.1) (λ x r e. (b.0, b.1 ∙ e, same_spelled o.0.0 w b.0 q b.2)) (end_sound C b.0 o.0.1 o.1)) (λ _. tt))
    (λ _. tt)

abbrev OptionsOf : Words → PlaceholderOptions → Words → Type 0
OptionsOf = Takes Any options_words

by_sound : (C : Fault → Type 0) (w : OptionWord) (s : Span × Span) (v : List ℕ) (ts rest : Words) → ts ≡ keyword v s.0 ∷ marked mark.Assign s.1 ∷ rest → spelled w v → Says C (OptionsOf ts) (options_by w s rest)
by_sound C word.Sep s v ts rest e q = says_then C (OptionOf v s rest) (OptionsOf ts) _ _ (end_sound C v s rest) (λ o r f. (e ∙ f ∙ ap (λ z. option_words z o ++ r) q, tt))
by_sound C word.Default s v ts rest e q = says_then C (OptionOf v s rest) (OptionsOf ts) _ _ (end_sound C v s rest) (λ o r f. (e ∙ f ∙ ap (λ z. option_words z o ++ r) q, tt))
by_sound C word.True s v ts rest e q = says_then C (OptionOf v s rest) (OptionsOf ts) _ _ (end_sound C v s rest) (λ o r f.
    let text : ts ≡ option_words (codes "true") o ++ r = e ∙ f ∙ ap (λ z. option_words z o ++ r) q in
    says_then C (OtherOf word.False r) (OptionsOf ts) _ _ (other_sound C word.False r) (λ p more g.
    (text ∙ ap (λ z. option_words (codes "true") o ++ z) (g.1 ∙ ap (λ z. option_words z p ++ more) g.2) ∙ sym (append_assoc (option_words (codes "true") o) (option_words (codes "false") p) more), tt)))
by_sound C word.False s v ts rest e q = says_then C (OptionOf v s rest) (OptionsOf ts) _ _ (end_sound C v s rest) (λ o r f.
    let text : ts ≡ option_words (codes "false") o ++ r = e ∙ f ∙ ap (λ z. option_words z o ++ r) q in
    says_then C (OtherOf word.True r) (OptionsOf ts) _ _ (other_sound C word.True r) (λ p more g.
    (text ∙ ap (λ z. option_words (codes "false") o ++ z) (g.1 ∙ ap (λ z. option_words z p ++ more) g.2) ∙ sym (append_assoc (option_words (codes "false") o) (option_words (codes "true") p) more), tt)))
by_sound C word.Other s v ts rest e q = tt

pub options_sound : Quiet {A = PlaceholderOptions} Any options_words options_at
unfolding options_at
options_sound C ts = says_found C (OptionsOf ts) (option_start ts) _ _ (λ o h. let b = begun ts o h in by_sound C o.0.0 o.0.1 b.0 ts o.1 b.1 b.2) (λ _. (refl, tt))

-- ---- options are read

sees_start : (w : List ℕ) (o : PlaceholderOption) (rest : Words) → option_start (option_words w o ++ rest) ≡ Some ((option_word w, (o.word, o.assign)), plain_words o.value ++ rest)
sees_start w o rest = found_some (eat mark.Assign (marked mark.Assign o.assign ∷ (plain_words o.value ++ rest))) _ _ (o.assign, plain_words o.value ++ rest) refl

end_full : (o : PlaceholderOption) (rest : Words) → option_end (o.word, o.assign) (plain_words o.value ++ rest) ≡ Ok (o, rest)
unfolding option_end
end_full o rest = then_is (plain (plain_words o.value ++ rest)) _ (o.value, rest) (plain_full o.value rest)

other_full : (w : List ℕ) (v : OptionWord) (o : PlaceholderOption) (rest : Words) → same_option (option_word w) v ≡ true → other_option v (option_words w o ++ rest) ≡ Ok (o, rest)
unfolding other_option
other_full w v o rest h =
    found_some (option_start (option_words w o ++ rest)) _ _ ((option_word w, (o.word, o.assign)), plain_words o.value ++ rest) (sees_start w o rest)
    ∙ cond_true (same_option (option_word w) v) _ _ h ∙ end_full o rest

-- behind the options stands no word before `=`
pub options_full : (os : PlaceholderOptions) (rest : Words) → option_start rest ≡ None → options_at (options_words os ++ rest) ≡ Ok (os, rest)
unfolding options_at
options_full options.Plain rest h = found_none (option_start rest) _ _ h
options_full (options.Sep o) rest h =
    found_some (option_start (option_words (codes "sep") o ++ rest)) _ _ ((word.Sep, (o.word, o.assign)), plain_words o.value ++ rest) (sees_start (codes "sep") o rest)
    ∙ then_is (option_end (o.word, o.assign) (plain_words o.value ++ rest)) _ (o, rest) (end_full o rest)
options_full (options.Default o) rest h =
    found_some (option_start (option_words (codes "default") o ++ rest)) _ _ ((word.Default, (o.word, o.assign)), plain_words o.value ++ rest) (sees_start (codes "default") o rest)
    ∙ then_is (option_end (o.word, o.assign) (plain_words o.value ++ rest)) _ (o, rest) (end_full o rest)
options_full (options.TrueFalse o p) rest h =
    let more : Words = option_words (codes "false") p ++ rest in
    ap options_at (append_assoc (option_words (codes "true") o) (option_words (codes "false") p) rest)
    ∙ found_some (option_start (option_words (codes "true") o ++ more)) _ _ ((word.True, (o.word, o.assign)), plain_words o.value ++ more) (sees_start (codes "true") o more)
    ∙ then_is (option_end (o.word, o.assign) (plain_words o.value ++ more)) _ (o, more) (end_full o more)
    ∙ then_is (other_option word.False more) _ (p, rest) (other_full (codes "false") word.False p rest refl)
options_full (options.FalseTrue o p) rest h =
    let more : Words = option_words (codes "true") p ++ rest in
    ap options_at (append_assoc (option_words (codes "false") o) (option_words (codes "true") p) rest)
    ∙ found_some (option_start (option_words (codes "false") o ++ more)) _ _ ((word.False, (o.word, o.assign)), plain_words o.value ++ more) (sees_start (codes "false") o more)
    ∙ then_is (option_end (o.word, o.assign) (plain_words o.value ++ more)) _ (o, more) (end_full o more)
    ∙ then_is (other_option word.True more) _ (p, rest) (other_full (codes "true") word.True p rest refl)
