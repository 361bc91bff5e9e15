-- The statuses of success of a task and of its tool.
use Rattle.std.proofs.Common.{arith, ◌≡◌, ◌≤◌, ◌<◌, ◌⊎◌, inl, inr, ℕ, zero, suc, ◌+◌, ◌==◌, nat_le, ℤ, pos, negsuc, Bool, true, false, cond, ◌&&◌, ◌||◌, List, [], ◌∷◌, ◌++◌, length, map, Option, Some, None, Ok, Err, sym, ap, ◌∙◌, subst, refl}
use Rattle.std.specs.List.{list_all, list_any, range_with_len}
use Rattle.std.proofs.lemmas.Bool.{false≢true, and_from, and_parts, le-leb, leb-true}
use Rattle.std.proofs.lemmas.Bool.Decides.{leb_tells}
use Rattle.wdl_base.specs.declared.fault.EvalCode.TheVariants.{TooLarge}
use Rattle.wdl_value.specs.declared.env.Bind.{Bind}
use Rattle.wdl_value.specs.declared.ty.Ty.{Ty, fold-roll-Ty}
use Rattle.wdl_value.specs.declared.ty.Ty.TheOpen as type
use Rattle.wdl_value.specs.declared.ty.Ty.TheVariants as ty
use Rattle.wdl_value.specs.declared.value.Value.{Value, fold-roll-Value}
use Rattle.wdl_value.specs.declared.value.Value.TheOpen as value
use Rattle.wdl_value.specs.declared.value.Value.TheVariants as v
use Rattle.wdl_value.specs.Fits.{Structs}
use Rattle.wdl_value.specs.Limits.{all_short, is_short, is_within, limited, short_step}
use Rattle.wdl_value.specs.Outcome.{and_then}
use Rattle.wdl_value.specs.Parts.{int_in, items_in}
use Rattle.wdl_value.specs.Size.{size, size_step, sum_of}
use Rattle.wdl_typed.specs.declared.expr.TExpr.{TExpr, TExpr-F, fold-roll-TExpr, ind-TExpr, map-TExpr, roll-TExpr}
use Rattle.wdl_typed.specs.declared.expr.TExpr.TheOpen as layer
use Rattle.wdl_typed.specs.declared.scope.Bound.{Bound}
use Rattle.wdl_typed.specs.declared.task.TCodes.{TCodes}
use Rattle.wdl_typed.specs.declared.task.TCodes.TheVariants as status
use Rattle.wdl_typed.specs.declared.task.TaskDef.{TaskDef}
use Rattle.wdl_typed.specs.Declarations.{codes_typed, context, in_body, output_context}
use Rattle.wdl_typed.specs.Evaluation.{settled, value_of}
use Rattle.wdl_typed.specs.KnownTypes.{is_some}
use Rattle.wdl_typed.specs.Requests.{any_status, before, codes_met, is_among, is_success, only_these, zero_alone}
use Rattle.cwl_model.specs.Means as means
use Rattle.cwl_image.specs.declared.literal.Literal.{Literal}
use Rattle.cwl_image.specs.Expressions.{are_allowed, is_simple, is_zero, literal_of, literal_step as kind_step, simple_step}
use Rattle.cwl_image.specs.Image.{among, codes_of, is_code, literal, literal_step, tool_of}
use Rattle.cwl_image.specs.Subset.{are_codes, codes_allowed}
use Rattle.cwl_laws.specs.Tools.{CodesAgree}
use Rattle.cwl_laws.proofs.Files.{number_itself, number_same}
use Rattle.cwl_laws.proofs.Literals.{int_within, literal_is, number_is}
use Rattle.cwl_laws.proofs.References.{settled_met}
use Rattle.flow_soundness.proofs.Fitting.{is_type-some as typed_as}

-- ---- lists of statuses

turned : (m n : ℕ) → (m == n) ≡ (n == m)
turned m n = by_test (m == n) (n == m) refl refl
  where
    by_test : (a b : Bool) → (m == n) ≡ a → (n == m) ≡ b → a ≡ b
    by_test true true e h = refl
    by_test false false e h = refl
    by_test true false e h = absurd (false≢true (sym h ∙ ap (λ k. k == m) (sym (number_same m n e)) ∙ number_itself m))
    by_test false true e h = absurd (false≢true (sym e ∙ ap (λ k. k == n) (sym (number_same n m h)) ∙ number_itself n))

-- a number of the list is a status of success
among_is : (zs : List ℤ) (ns : List ℕ) (n : ℕ) → means.is_code n (among zs ns) ≡ (is_code zs n && means.is_code n ns)
among_is zs [] n = sym (and_false (is_code zs n))
  where
    and_false : (b : Bool) → (b && false) ≡ false
    and_false true = refl
    and_false false = refl
among_is zs (m ∷ ns) n = by_test (is_code zs m) refl (m == n) refl (among_is zs ns n)
  where
    here : (m == n) ≡ true → is_code zs m ≡ is_code zs n
    here e = ap (is_code zs) (number_same m n e)

    by_test : (b : Bool) → is_code zs m ≡ b → (c : Bool) → (m == n) ≡ c → means.is_code n (among zs ns) ≡ (is_code zs n && means.is_code n ns)
        → means.is_code n (cond b (m ∷ []) [] ++ among zs ns) ≡ (is_code zs n && (m == n || means.is_code n ns))
    by_test true e true f rest = ap (λ c. c || means.is_code n (among zs ns)) f ∙ sym (ap (λ b. b && (m == n || means.is_code n ns)) (sym (here f) ∙ e) ∙ ap (λ c. c || means.is_code n ns) f)
    by_test true e false f rest = ap (λ c. c || means.is_code n (among zs ns)) f ∙ rest ∙ ap (λ c. is_code zs n && (c || means.is_code n ns)) (sym f)
    by_test false e true f rest = rest ∙ ap (λ b. b && means.is_code n ns) (sym (here f) ∙ e) ∙ sym (ap (λ b. b && (m == n || means.is_code n ns)) (sym (here f) ∙ e))
    by_test false e false f rest = rest ∙ ap (λ c. is_code zs n && (c || means.is_code n ns)) (sym f)

in_range : (a k n : ℕ) → a ≤ n → n < a + k → means.is_code n (range_with_len a k) ≡ true
in_range a zero n h l = absurd (none a n h l)
  where
    none : (a n : ℕ) → a ≤ n → n < a + 0 → ⊥
    none a n h l = omega arith
in_range a (suc k) n h l = by_test (λ m. in_range (a + 1) k n m (shifted a k n l)) (a == n) refl
  where
    not_first : (a == n) ≡ false → a + 1 ≤ n
    not_first e = by_order (leb_tells (a + 1) n)
      where
        same : (a n : ℕ) → a ≤ n → n < a + 1 → a ≡ n
        same a n h l = omega arith

        by_order : ((nat_le (a + 1) n ≡ true) × (a + 1 ≤ n)) ⊎ ((nat_le (a + 1) n ≡ false) × (n < a + 1)) → a + 1 ≤ n
        by_order (inl m) = m.1
        by_order (inr m) = absurd (false≢true (sym e ∙ ap (λ k. k == n) (same a n h m.1) ∙ number_itself n))

    shifted : (a k n : ℕ) → n < a + suc k → n < (a + 1) + k
    shifted a k n l = omega arith

    by_test : (a + 1 ≤ n → means.is_code n (range_with_len (a + 1) k) ≡ true) → (b : Bool) → (a == n) ≡ b → (b || means.is_code n (range_with_len (a + 1) k)) ≡ true
    by_test rest true e = refl
    by_test rest false e = rest (not_first e)

all_statuses : (n : ℕ) → n < 256 → means.is_code n (range_with_len 0 256) ≡ true
all_statuses n l = in_range 0 256 n (at_least n) l
  where
    at_least : (n : ℕ) → 0 ≤ n
    at_least n = omega arith

codes_same : (zs : List ℤ) (n : ℕ) → is_among n zs ≡ is_code zs n
codes_same [] n = refl
codes_same (pos m ∷ zs) n = ap (λ b. m == n || b) (codes_same zs n)
codes_same (negsuc m ∷ zs) n = codes_same zs n

these_same : (zs : List ℤ) (n : ℕ) → n < 256 → is_success (only_these zs) n ≡ means.is_success (Some (among zs (range_with_len 0 256))) n
these_same zs n l =
    codes_same zs n ∙ sym (and_true (is_code zs n)) ∙ ap (λ b. is_code zs n && b) (sym (all_statuses n l)) ∙ sym (among_is zs (range_with_len 0 256) n)
  where
    and_true : (b : Bool) → (b && true) ≡ b
    and_true true = refl
    and_true false = refl

-- ---- literals that are codes

some_number : (o : Option ℤ) → is_some o ≡ true → (n : ℤ) × (o ≡ Some n)
some_number None h = absurd (false≢true h)
some_number (Some n) h = (n, refl)

zero_number : (o : Option ℤ) → is_zero o ≡ true → (n : ℤ) × (o ≡ Some n)
zero_number None h = absurd (false≢true h)
zero_number (Some n) h = (n, refl)

-- a list of numbers within the limits
abbrev AreCodes : TExpr → Type 0
AreCodes x = (literal_of x).are_codes ≡ true → ((literal_of x).is_literal ≡ true) × (is_within (literal x) ≡ true)

abbrev KnownCodes : Type 0
KnownCodes = (x : TExpr) × AreCodes x

abbrev plain : TExpr-F KnownCodes → TExpr-F TExpr
plain = map-TExpr KnownCodes TExpr (λ (k : KnownCodes). k.0)

abbrev firsts : List KnownCodes → List TExpr
firsts = map (λ (k : KnownCodes). k.0)

each_number : (ks : List KnownCodes) → list_all (λ (l : Literal). is_some l.number) (map literal_of (firsts ks)) ≡ true
    → (list_all (λ (l : Literal). l.is_literal) (map literal_of (firsts ks)) ≡ true) × (sum_of (map size (map literal (firsts ks))) ≡ length (map literal_of (firsts ks)))
    × (all_short (map is_short (map literal (firsts ks))) ≡ true) × (length (map is_short (map literal (firsts ks))) ≡ length (map literal_of (firsts ks)))
each_number [] h = (refl, refl, refl, refl)
each_number (k ∷ ks) h =
    let p = and_parts (is_some (literal_of k.0).number) (list_all (λ (l : Literal). is_some l.number) (map literal_of (firsts ks))) h in
    let n = some_number (literal_of k.0).number p.0 in
    let x = number_is k.0 n.0 n.1 in
    let r = each_number ks p.1 in (
      and_from (literal_of k.0).is_literal (list_all (λ (l : Literal). l.is_literal) (map literal_of (firsts ks))) x.1 r.0,
      ap (λ m. m + sum_of (map size (map literal (firsts ks)))) (ap size x.0 ∙ int_size n.0) ∙ ap (λ m. 1 + m) r.1 ∙ one_more (length (map literal_of (firsts ks))),
      and_from (is_short (literal k.0)) (all_short (map is_short (map literal (firsts ks)))) (ap is_short x.0 ∙ int_short n.0) r.2,
      ap (λ m. suc m) r.3,
    )
  where
    int_size : (n : ℤ) → size (v.Int n) ≡ 1
    int_size n = ap size (sym (v.rolls-Int n)) ∙ fold-roll-Value ℕ size_step (value.Int n)

    int_short : (n : ℤ) → is_short (v.Int n) ≡ true
    int_short n = ap is_short (sym (v.rolls-Int n)) ∙ fold-roll-Value Bool short_step (value.Int n)

    one_more : (n : ℕ) → 1 + n ≡ suc n
    one_more n = omega arith

layer_codes : (y : TExpr-F KnownCodes) → (kind_step (map-TExpr TExpr Literal literal_of (plain y))).are_codes ≡ true
    → ((kind_step (map-TExpr TExpr Literal literal_of (plain y))).is_literal ≡ true) × (is_within (literal_step (map-TExpr TExpr Value literal (plain y))) ≡ true)
layer_codes (layer.ListOf ks) h =
    let p = and_parts (nat_le (length (map literal_of (firsts ks))) 256 && list_all (λ (l : Literal). is_some l.number) (map literal_of (firsts ks))) (list_any (λ (l : Literal). is_zero l.number) (map literal_of (firsts ks))) h in
    let q = and_parts (nat_le (length (map literal_of (firsts ks))) 256) (list_all (λ (l : Literal). is_some l.number) (map literal_of (firsts ks))) p.0 in
    let r = each_number ks q.1 in
    let few = leb-true (length (map literal_of (firsts ks))) 256 q.0 in
    (r.0, within (map literal (firsts ks)) (length (map literal_of (firsts ks))) few r.1 r.2 r.3)
  where
    within : (xs : List Value) (n : ℕ) → n ≤ 256 → sum_of (map size xs) ≡ n → all_short (map is_short xs) ≡ true → length (map is_short xs) ≡ n → is_within (v.List xs) ≡ true
    within xs n few s h l =
        and_from (nat_le (size (v.List xs)) 4194304) (is_short (v.List xs))
        (ap (λ m. nat_le m 4194304) (ap size (sym (v.rolls-List xs)) ∙ fold-roll-Value ℕ size_step (value.List xs)) ∙ le-leb (1 + sum_of (map size xs)) 4194304 (small (sum_of (map size xs)) n s few))
        (ap is_short (sym (v.rolls-List xs)) ∙ fold-roll-Value Bool short_step (value.List xs)
        ∙ and_from (nat_le (length (map is_short xs)) 100000) (all_short (map is_short xs)) (le-leb (length (map is_short xs)) 100000 (short (length (map is_short xs)) n l few)) h)
      where
        small : (a n : ℕ) → a ≡ n → n ≤ 256 → 1 + a ≤ 4194304
        small a n e h = omega arith

        short : (a n : ℕ) → a ≡ n → n ≤ 256 → a ≤ 100000
        short a n e h = omega arith
layer_codes (layer.Cast k t) h = k.1 h
layer_codes y h = absurd (false≢true h)

codes_are : (x : TExpr) → AreCodes x
codes_are = ind-TExpr AreCodes (λ a y is. subst (λ (z : TExpr-F TExpr). AreCodes (roll-TExpr z)) is (λ h.
    let kind = fold-roll-TExpr Literal kind_step (plain y) in
    let r = layer_codes y (sym (ap (λ (l : Literal). l.are_codes) kind) ∙ h) in
    (ap (λ (l : Literal). l.is_literal) kind ∙ r.0, ap is_within (fold-roll-TExpr Value literal_step (plain y)) ∙ r.1)))

-- ---- the law

module _ (structs : Structs) (names more : List Bound) where
  -- a literal within the limits that is of a type of the subset
  literal_met : (x : TExpr) (t : Ty) (env : List Bind) → (literal_of x).is_literal ≡ true → are_allowed structs more x false ≡ true → in_body structs names x ≡ Some t → is_simple t ≡ true
      → is_within (literal x) ≡ true → value_of (before env) x ≡ Ok (literal x)
  literal_met x t env l a h s w =
      ap settled ((literal_is structs x (output_context structs more) (context structs names) false false t l a h s).met (before env)) ∙ settled_met (limited (literal x))
      ∙ ap (λ b. cond b (Ok (literal x)) (Err TooLarge)) w

  int_simple : is_simple ty.Int ≡ true
  int_simple = ap is_simple (sym ty.rolls-Int) ∙ fold-roll-Ty Bool simple_step type.Int

  -- The statuses of success are the same.
  pub codes_agree : (t : TaskDef) → codes_typed structs names t.codes ≡ true → codes_allowed structs more t.codes ≡ true → are_codes t.codes ≡ true → (env : List Bind) → CodesAgree t (tool_of t) env
  codes_agree t h a c env = by_codes t.codes refl h a c
    where
      by_codes : (cs : TCodes) → t.codes ≡ cs → codes_typed structs names cs ≡ true → codes_allowed structs more cs ≡ true → are_codes cs ≡ true → CodesAgree t (tool_of t) env
      by_codes status.Zero e h a c =
          record { successes = zero_alone; met = ap (codes_met env) e; same = λ n l. ap (λ b. b || false) (turned 0 n) ∙ or_false (n == 0) ∙ ap (λ cs. means.is_success (codes_of cs) n) (sym e) }
        where
          or_false : (b : Bool) → (b || false) ≡ b
          or_false true = refl
          or_false false = refl
      by_codes status.Any e h a c =
          record { successes = any_status; met = ap (codes_met env) e; same = λ n l. sym (all_statuses n l) ∙ ap (λ cs. means.is_success (codes_of cs) n) (sym e) }
      by_codes (status.One x) e h a c =
          let n = zero_number (literal_of x).number c in
          let k = number_is x n.0 n.1 in
          record {
            successes = only_these (int_in (literal x) ∷ []);
            met =
                ap (codes_met env) e
                ∙ ap (λ o. and_then o (λ y. Ok (only_these (int_in y ∷ [])))) (literal_met x ty.Int env k.1 a (typed_as (in_body structs names x) ty.Int h) int_simple (ap is_within k.0 ∙ int_within n.0));
            same = λ m l. these_same (int_in (literal x) ∷ []) m l ∙ ap (λ cs. means.is_success (codes_of cs) m) (sym e);
          }
      by_codes (status.Many x) e h a c =
          let k = codes_are x c in
          record {
            successes = only_these (map int_in (items_in (literal x)));
            met =
                ap (codes_met env) e
                ∙ ap (λ o. and_then o (λ y. Ok (only_these (map int_in (items_in y)))))
                (literal_met x (ty.Array ty.Int false) env k.0 a (typed_as (in_body structs names x) (ty.Array ty.Int false) h)
                (ap is_simple (sym (ty.rolls-Array ty.Int false)) ∙ fold-roll-Ty Bool simple_step (type.Array ty.Int false) ∙ int_simple) k.1);
            same = λ m l. these_same (map int_in (items_in (literal x))) m l ∙ ap (λ cs. means.is_success (codes_of cs) m) (sym e);
          }
