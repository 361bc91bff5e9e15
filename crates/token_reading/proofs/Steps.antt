-- What each step of reading gives.
use Rattle.std.proofs.Common.{◌≡◌, ℕ, suc, ◌+◌, ◌≤◌, Bool, true, false, cond, ◌⊎◌, inl, inr, List, [], ◌∷◌, Option, Some, None, Ok, Err, refl, ap, sym, ◌∙◌, rules, arith, nat_le}
use Rattle.std.proofs.lemmas.Bool.Decides.{nat_tests}
use Rattle.std.proofs.lemmas.Slice.Eq.{bytes_eq-Decides}
use denote.Enum.Bare.{same_true}
use Rattle.wdl_base.specs.declared.span.Span.{Span}
use Rattle.wdl_base.specs.Names.{is_name}
use Rattle.wdl_ast.specs.contracts.token.Mark.{the_type}
use Rattle.wdl_ast.specs.declared.token.Mark.{Mark}
use Rattle.wdl_ast.specs.declared.token.Kind.{Kind}
use Rattle.wdl_ast.specs.declared.token.Kind.TheVariants as kind
use Rattle.wdl_ast.specs.declared.leaf.Ident.{Ident}
use Rattle.wdl_ast.specs.Words.{Words, at, marked, keyword, ident}
use Rattle.token_reading.specs.declared.fault.Fault.{Fault}
use Rattle.token_reading.specs.declared.fault.Refusal.TheVariants.{Missing, Bad}
use Rattle.token_reading.specs.Outcome.{Outcome, Parser, then_, attempt, found, is_mark, is_word, is_hole_close, is_str_close, eat_if, eat, eat_word, ident_of, ident_at, tall, grown}

-- ---- tests

pub chosen : {X : Type 0} (b : Bool) (x y z : X) → cond b x y ≡ z → ((b ≡ true) × (x ≡ z)) ⊎ ((b ≡ false) × (y ≡ z))
chosen true x y z h = inl (refl, h)
chosen false x y z h = inr (refl, h)

pub cond_true : {X : Type 0} (b : Bool) (x y : X) → b ≡ true → cond b x y ≡ x
cond_true b x y h = ap (λ c. cond c x y) h

pub cond_false : {X : Type 0} (b : Bool) (x y : X) → b ≡ false → cond b x y ≡ y
cond_false b x y h = ap (λ c. cond c x y) h

-- ---- what a step gives

pub then_is : {A B : Type 0} (o : Outcome A) (f : A → Parser B) (x : A × Words) → o ≡ Ok x → then_ o f ≡ f x.0 x.1
unfolding then_
then_is o f x h = ap (λ o. then_ o f) h

pub then_bad : {A B : Type 0} (o : Outcome A) (f : A → Parser B) (b : Fault) → o ≡ Err (Bad b) → then_ o f ≡ Err (Bad b)
unfolding then_
then_bad o f b h = ap (λ o. then_ o f) h

pub attempt_is : {A B : Type 0} (o : Outcome A) (f : A → Parser B) (other : Outcome B) (x : A × Words) → o ≡ Ok x → attempt o f other ≡ f x.0 x.1
unfolding attempt
attempt_is o f other x h = ap (λ o. attempt o f other) h

pub attempt_bad : {A B : Type 0} (o : Outcome A) (f : A → Parser B) (other : Outcome B) (b : Fault) → o ≡ Err (Bad b) → attempt o f other ≡ Err (Bad b)
unfolding attempt
attempt_bad o f other b h = ap (λ o. attempt o f other) h

pub attempt_missing : {A B : Type 0} (o : Outcome A) (f : A → Parser B) (other : Outcome B) → o ≡ Err Missing → attempt o f other ≡ other
unfolding attempt
attempt_missing o f other h = ap (λ o. attempt o f other) h

pub found_some : {A B : Type 0} (o : Option (A × Words)) (f : A → Words → B) (other : B) (x : A × Words) → o ≡ Some x → found o f other ≡ f x.0 x.1
unfolding found
found_some o f other x h = ap (λ o. found o f other) h

pub found_none : {A B : Type 0} (o : Option (A × Words)) (f : A → Words → B) (other : B) → o ≡ None → found o f other ≡ other
unfolding found
found_none o f other h = ap (λ o. found o f other) h

pub grown_is : {A : Type 0} (depth : ℕ) (s : Span) (inside : ℕ) (x : A) (ts : Words) → suc inside ≤ suc depth → grown depth s 0 inside x ts ≡ Ok (tall x (suc inside), ts)
unfolding grown
grown_is depth s inside x ts fits =
    let same : 0 + inside ≡ inside = omega arith in
    let holds : nat_le (0 + inside) depth ≡ true = grind (arith, nat_tests) in
    cond_true (nat_le (0 + inside) depth) _ _ holds ∙ ap (λ n. Ok (tall x (suc n), ts)) same

-- ---- what was read

abbrev pub done : {A : Type 0} → A × Words → Outcome A
done x = Ok x

pub same : {A : Type 0} (x y : A × Words) → done x ≡ done y → (x.0 ≡ y.0) × (x.1 ≡ y.1)
same {A} x y e = let f : x ≡ y = cc in (ap (λ (z : A × Words). z.0) f, ap (λ (z : A × Words). z.1) f)

pub eaten : (test : Kind → Bool) (ts : Words) (x : Span × Words) → eat_if test ts ≡ Some x → (k : Kind) × (test k ≡ true) × (ts ≡ at k x.0 ∷ x.1)
eaten test [] x e = cc
eaten test (t ∷ ts) x e = elim (chosen (test t.kind) _ _ _ e) [ inl p ↦ (t.kind, p.0, (let f : (t.span, ts) ≡ x = cc in ap (λ (y : Span × Words). at t.kind y.0 ∷ y.1) f)) | inr p ↦ (let n : ⊥ = cc in absurd n) ]

pub marks : (m : Mark) (k : Kind) → is_mark m k ≡ true → k ≡ kind.Mark m
marks m (kind.Mark k) e = ap kind.Mark (same_true the_type (search rules) k m e)
marks m _ e = cc

pub ate : (m : Mark) (ts : Words) (x : Span × Words) → eat m ts ≡ Some x → ts ≡ marked m x.0 ∷ x.1
ate m ts x e = let found = eaten (is_mark m) ts x e in found.2 ∙ ap (λ k. at k x.0 ∷ x.1) (marks m found.0 found.1)

pub word_is : (w : List ℕ) (k : Kind) → is_word w k ≡ true → k ≡ kind.Word w
word_is w (kind.Word v) e = ap kind.Word ((bytes_eq-Decides v w).0 e)
word_is w _ e = cc

pub ate_word : (w : List ℕ) (ts : Words) (x : Span × Words) → eat_word w ts ≡ Some x → ts ≡ keyword w x.0 ∷ x.1
ate_word w ts x e = let found = eaten (is_word w) ts x e in found.2 ∙ ap (λ k. at k x.0 ∷ x.1) (word_is w found.0 found.1)

closes : (k : Kind) → is_hole_close k ≡ true → k ≡ kind.HoleClose
closes kind.HoleClose e = refl
closes _ e = cc

pub ate_hole_close : (ts : Words) (x : Span × Words) → eat_if is_hole_close ts ≡ Some x → ts ≡ at kind.HoleClose x.0 ∷ x.1
ate_hole_close ts x e = let found = eaten is_hole_close ts x e in found.2 ∙ ap (λ k. at k x.0 ∷ x.1) (closes found.0 found.1)

ends : (k : Kind) → is_str_close k ≡ true → k ≡ kind.StrClose
ends kind.StrClose e = refl
ends _ e = cc

pub ate_str_close : (ts : Words) (x : Span × Words) → eat_if is_str_close ts ≡ Some x → ts ≡ at kind.StrClose x.0 ∷ x.1
ate_str_close ts x e = let found = eaten is_str_close ts x e in found.2 ∙ ap (λ k. at k x.0 ∷ x.1) (ends found.0 found.1)

ident_from : (k : Kind) (s : Span) (ts : Words) (x : Ident × Words) → ident_of k s ts ≡ Some x → (at k s ∷ ts ≡ ident x.0 ∷ x.1) × (is_name x.0.name ≡ true)
ident_from (kind.Word w) s ts x e = elim (chosen (is_name w) _ _ _ e) [
  | inl p ↦ (let f : (record { name = w; span = s }, ts) ≡ x = cc in (ap (λ (y : Ident × Words). ident y.0 ∷ y.1) f, ap (λ (y : Ident × Words). is_name y.0.name) (sym f) ∙ p.0))
  | inr p ↦ (let n : ⊥ = cc in absurd n)
]
ident_from _ s ts x e = cc

pub ate_ident : (ts : Words) (x : Ident × Words) → ident_at ts ≡ Some x → (ts ≡ ident x.0 ∷ x.1) × (is_name x.0.name ≡ true)
ate_ident [] x e = cc
ate_ident (t ∷ ts) x e = ident_from t.kind t.span ts x e

pub sees_ident : (n : Ident) (ts : Words) → is_name n.name ≡ true → ident_at (ident n ∷ ts) ≡ Some (n, ts)
sees_ident n ts h = cond_true (is_name n.name) _ _ h
