-- Types, read and written.
use Rattle.std.proofs.Common.{◌≡◌, ℕ, zero, suc, ◌+◌, ◌<◌, ◌≤◌, Bool, true, false, ◌||◌, ◌⊎◌, inl, inr, List, [], ◌∷◌, ◌++◌, length, Option, Some, None, Ok, refl, ap, sym, ◌∙◌, subst, append_assoc, length-append, arith, codes}
use Rattle.std.proofs.lemmas.List.{append-nil}
use Rattle.std.proofs.lemmas.Slice.Eq.{bytes_eq-Decides}
use Rattle.std.specs.Str.{bytes_eq}
use Rattle.wdl_base.specs.declared.span.Span.{Span}
use Rattle.wdl_base.specs.Names.{is_name, reserved_words}
use Rattle.wdl_ast.specs.declared.token.Mark.{Mark}
use Rattle.wdl_ast.specs.declared.token.Mark.TheVariants as mark
use Rattle.wdl_ast.specs.declared.token.Kind.{Kind}
use Rattle.wdl_ast.specs.declared.token.Kind.TheVariants as kind
use Rattle.wdl_ast.specs.declared.type_tree.BaseType.{BaseType}
use Rattle.wdl_ast.specs.declared.type_tree.BaseType.TheVariants as base
use Rattle.wdl_ast.specs.declared.type_tree.TypeTree.{TypeTree}
use Rattle.wdl_ast.specs.Words.{Words, at, marked, mark_words, keyword, base_words, questions_words, type_words}
use Rattle.wdl_ast.proofs.WordLaws.{words_type}
use Rattle.token_reading.specs.declared.fault.Fault.{Fault}
use Rattle.token_reading.specs.declared.type_reader.Two.{Two}
use Rattle.token_reading.specs.Outcome.{Outcome, Parser, found, too_deep, is_mark, eat}
use Rattle.token_reading.specs.Forms.{type_form}
use Rattle.wdl_parse_expr.specs.Context as ctx
use Rattle.wdl_parse_expr.specs.Context.{OpenType, Points, TypeCause}
use Rattle.token_reading.specs.TypeGrammar as g
use Rattle.token_reading.specs.TypeGrammar.{type_tree, IsBase, IsTypeOver, TypeWithin, max_type_depth}
use Rattle.token_reading.specs.TypeReading as r
use Rattle.token_reading.specs.TypeReading.{optional, questions_from, questions, type_at}
use Rattle.wdl_parse_expr.specs.Contract.{is_type_mark, type_continues}
use Rattle.token_reading.proofs.Steps.{ate, cond_true, cond_false, then_is, found_some, found_none}
use Rattle.token_reading.proofs.Says.{fault, AnyFault, Says, Takes, Sound, says_then, says_found, says_cond}

-- ---- marks that may be absent

optional_some : (m : Mark) (ts : Words) (x : Span × Words) → eat m ts ≡ Some x → optional m ts ≡ (Some x.0, x.1)
unfolding optional
optional_some m ts x h = found_some (eat m ts) _ _ x h

optional_none : (m : Mark) (ts : Words) → eat m ts ≡ None → optional m ts ≡ (None, ts)
unfolding optional
optional_none m ts h = found_none (eat m ts) _ _ h

optional_sound : (m : Mark) (ts : Words) → ts ≡ mark_words m (optional m ts).0 ++ (optional m ts).1
optional_sound m ts = go (eat m ts) refl
  where
    go : (x : Option (Span × Words)) → eat m ts ≡ x → ts ≡ mark_words m (optional m ts).0 ++ (optional m ts).1
    go (Some x) q = subst (λ (z : Option Span × Words). ts ≡ mark_words m z.0 ++ z.1) (sym (optional_some m ts x q)) (ate m ts x q)
    go None q = subst (λ (z : Option Span × Words). ts ≡ mark_words m z.0 ++ z.1) (sym (optional_none m ts q)) refl

-- the `?` that were added to those before
abbrev Asked : List Span → Words → List Span × Words → Type 0
Asked all ts x = (new : List Span) × (x.0 ≡ all ++ new) × (ts ≡ questions_words new ++ x.1)

questions_says : (n : ℕ) (all : List Span) (ts : Words) → Asked all ts (questions_from n all ts)
unfolding questions_from
questions_says zero all ts = ([], sym (append-nil all), refl)
questions_says (suc n) all ts = go (λ some rest. questions_says n some rest) (eat mark.Question ts) refl
  where
    go : ((some : List Span) (rest : Words) → Asked some rest (questions_from n some rest)) → (x : Option (Span × Words)) → eat mark.Question ts ≡ x → Asked all ts (questions_from (suc n) all ts)
    go next (Some x) q =
        let more = next (all ++ x.0 ∷ []) x.1 in
        subst (Asked all ts) (sym (found_some (eat mark.Question ts) _ _ x q)) (x.0 ∷ more.0, more.1 ∙ append_assoc all (x.0 ∷ []) more.0, ate mark.Question ts x q ∙ ap (λ z. marked mark.Question x.0 ∷ z) more.2)
    go next None q = subst (Asked all ts) (sym (found_none (eat mark.Question ts) _ _ q)) ([], sym (append-nil all), refl)

questions_sound : (ts : Words) → ts ≡ questions_words (questions ts).0 ++ (questions ts).1
questions_sound ts = let a = questions_says (length ts) [] ts in a.2 ∙ ap (λ z. questions_words z ++ (questions ts).1) (sym a.1)

-- ---- what is read is a type

float_form : (w : List ℕ) → bytes_eq w (codes "Float") ≡ true → type_form 120 (kind.Word w) ≡ true
float_form w h = ap (λ z. z || false) h

object_form : (w : List ℕ) → bytes_eq w (codes "Object") ≡ true → type_form 121 (kind.Word w) ≡ true
object_form w h = h

-- Of all the tokens those that are read stand at the end, in a type whose root is where Root says. C is what is said of a fault.
module _ (Root : Words → Type 0) (tokens : Words) (C : Fault → Type 0) (blame : (f : Fault) → Points (TypeCause Root f.code) tokens f.span → C f) where
  -- a type of at most that depth stands before these tokens
  abbrev pub Spot : ℕ → Words → Type 0
  Spot d ts = (front : Words) × (n : ℕ) × (tokens ≡ front ++ ts) × OpenType Root n front × (n + d ≡ max_type_depth)

  moved : (d : ℕ) (ts before rest : Words) → Spot (suc d) ts → ts ≡ before ++ rest → ((n : ℕ) (ws : Words) → OpenType Root n ws → OpenType Root (suc n) (ws ++ before)) → Spot d rest
  moved d ts before rest s e f = (s.0 ++ before, suc s.1, s.2 ∙ ap (λ z. s.0 ++ z) e ∙ sym (append_assoc s.0 before rest), f s.1 s.0 s.3, omega (arith, s.4))

  left_out_at : (c : ℕ) (k : Kind) (s : Span) (rest : Words) (d : ℕ) → Spot d (at k s ∷ rest) → type_form c k ≡ true → C (fault c s)
  left_out_at c k s rest d here h = blame (fault c s) (here.0, at k s, rest, here.2, refl, inr (here.1, here.3, h))

  deep_sound : (ts : Words) → Spot 0 ts → Says C (Takes (TypeWithin 0) type_words ts) (too_deep ts)
  deep_sound [] here = tt
  deep_sound (t ∷ ts) here = let full : here.1 ≡ max_type_depth = omega (arith, here.4) in
      blame (fault 111 t.span) (here.0, t, ts, here.2, refl, inl (refl, subst (λ n. OpenType Root n here.0) full here.3))

  module _ (depth : ℕ) (inner : Parser TypeTree) (sound : (ts : Words) → Spot depth ts → Says C (Takes (TypeWithin depth) type_words ts) (inner ts)) where
    abbrev In : TypeTree → Type 0
    In = TypeWithin depth

    abbrev BaseOf : Words → BaseType TypeTree → Words → Type 0
    BaseOf = Takes (IsBase In) (base_words type_words)

    abbrev Inside : Words → TypeTree → Words → Type 0
    Inside = Takes In type_words

    array_sound : (w : Span) (ts : Words) → Spot (suc depth) (keyword (codes "Array") w ∷ ts) → Says C (BaseOf (keyword (codes "Array") w ∷ ts)) (r.array inner w ts)
    unfolding r.array
    array_sound w ts here =
        let all : Words = keyword (codes "Array") w ∷ ts in
        says_found C (BaseOf all) (eat mark.OpenBracket ts) _ _ (λ o h.
        let open_ : all ≡ (keyword (codes "Array") w ∷ marked mark.OpenBracket o.0 ∷ []) ++ o.1 = ap (λ z. keyword (codes "Array") w ∷ z) (ate mark.OpenBracket ts o h) in
        says_then C (Inside o.1) (BaseOf all) (inner o.1) _ (sound o.1 (moved depth all (keyword (codes "Array") w ∷ marked mark.OpenBracket o.0 ∷ []) o.1 here open_ (λ n ws p. ctx.array n ws w o.0 p))) (λ t more a.
        says_found C (BaseOf all) (eat mark.CloseBracket more) _ _ (λ c q. (
          open_ ∙ ap (λ z. keyword (codes "Array") w ∷ marked mark.OpenBracket o.0 ∷ z) (a.0 ∙ ap (λ z. type_words t ++ z) (ate mark.CloseBracket more c q ∙ ap (λ z. marked mark.CloseBracket c.0 ∷ z) (optional_sound mark.Plus c.1))) ∙ sym (simp append_assoc),
          g.array w o.0 t c.0 (optional mark.Plus c.1).0 a.1,
        ))
        (λ _. tt))) (λ _. tt)

    -- two types in brackets
    abbrev TwoOf : Words → Two TypeTree → Words → Type 0
    TwoOf ts t rest = (ts ≡ marked mark.OpenBracket t.opening ∷ (type_words t.left ++ marked mark.Comma t.comma ∷ (type_words t.right ++ marked mark.CloseBracket t.closing ∷ rest))) × In t.left × In t.right

    two_sound : (ts : Words) → ((o : Span) (rest : Words) → ts ≡ (marked mark.OpenBracket o ∷ []) ++ rest → Spot depth rest)
        → ((o : Span) (l : TypeTree) (m : Span) (rest : Words) → In l → ts ≡ (marked mark.OpenBracket o ∷ (type_words l ++ marked mark.Comma m ∷ [])) ++ rest → Spot depth rest) → Says C (TwoOf ts) (r.two inner ts)
    unfolding r.two
    two_sound ts at_left at_right =
        says_found C (TwoOf ts) (eat mark.OpenBracket ts) _ _ (λ o h.
        let first : ts ≡ (marked mark.OpenBracket o.0 ∷ []) ++ o.1 = ate mark.OpenBracket ts o h in
        says_then C (Inside o.1) (TwoOf ts) (inner o.1) _ (sound o.1 (at_left o.0 o.1 first)) (λ l more a.
        says_found C (TwoOf ts) (eat mark.Comma more) _ _ (λ m q.
        let front : Words = marked mark.OpenBracket o.0 ∷ (type_words l ++ marked mark.Comma m.0 ∷ []) in
        let second : ts ≡ front ++ m.1 = first ∙ ap (λ z. marked mark.OpenBracket o.0 ∷ z) (a.0 ∙ ap (λ z. type_words l ++ z) (ate mark.Comma more m q) ∙ sym (append_assoc (type_words l) (marked mark.Comma m.0 ∷ []) m.1)) in
        says_then C (Inside m.1) (TwoOf ts) (inner m.1) _ (sound m.1 (at_right o.0 l m.0 m.1 a.1 second)) (λ x last b.
        says_found C (TwoOf ts) (eat mark.CloseBracket last) _ _ (λ c p.
        (second ∙ ap (λ z. front ++ z) (b.0 ∙ ap (λ z. type_words x ++ z) (ate mark.CloseBracket last c p)) ∙ simp append_assoc, a.1, b.1))
        (λ _. tt))) (λ _. tt))) (λ _. tt)

    map_sound : (w : Span) (ts : Words) → Spot (suc depth) (keyword (codes "Map") w ∷ ts) → Says C (BaseOf (keyword (codes "Map") w ∷ ts)) (r.map_type inner w ts)
    map_sound w ts here =
        let all : Words = keyword (codes "Map") w ∷ ts in
        let two = two_sound ts
        (λ o rest e. moved depth all (keyword (codes "Map") w ∷ marked mark.OpenBracket o ∷ []) rest here (ap (λ z. keyword (codes "Map") w ∷ z) e) (λ n ws p. ctx.map_key n ws w o p))
        (λ o l m rest q e. moved depth all (keyword (codes "Map") w ∷ marked mark.OpenBracket o ∷ (type_words l ++ marked mark.Comma m ∷ [])) rest here (ap (λ z. keyword (codes "Map") w ∷ z) e) (λ n ws p. ctx.map_value n ws w o depth l m q p)) in
        says_then C (TwoOf ts) (BaseOf all) (r.two inner ts) _ two
        (λ t rest a. (ap (λ z. keyword (codes "Map") w ∷ z) a.0 ∙ sym (simp append_assoc), g.map w t.opening t.left t.comma t.right t.closing a.1 a.2))

    pair_sound : (w : Span) (ts : Words) → Spot (suc depth) (keyword (codes "Pair") w ∷ ts) → Says C (BaseOf (keyword (codes "Pair") w ∷ ts)) (r.pair_type inner w ts)
    pair_sound w ts here =
        let all : Words = keyword (codes "Pair") w ∷ ts in
        let two = two_sound ts
        (λ o rest e. moved depth all (keyword (codes "Pair") w ∷ marked mark.OpenBracket o ∷ []) rest here (ap (λ z. keyword (codes "Pair") w ∷ z) e) (λ n ws p. ctx.pair_left n ws w o p))
        (λ o l m rest q e. moved depth all (keyword (codes "Pair") w ∷ marked mark.OpenBracket o ∷ (type_words l ++ marked mark.Comma m ∷ [])) rest here (ap (λ z. keyword (codes "Pair") w ∷ z) e) (λ n ws p. ctx.pair_right n ws w o depth l m q p)) in
        says_then C (TwoOf ts) (BaseOf all) (r.two inner ts) _ two
        (λ t rest a. (ap (λ z. keyword (codes "Pair") w ∷ z) a.0 ∙ sym (simp append_assoc), g.pair w t.opening t.left t.comma t.right t.closing a.1 a.2))

    reserved_sound : (w : List ℕ) (s : Span) (ts : Words) → Spot (suc depth) (keyword w s ∷ ts) → Says C (BaseOf (keyword w s ∷ ts)) (r.reserved inner w s ts)
    unfolding r.reserved
    reserved_sound w s ts here =
        let all : Words = keyword w s ∷ ts in
        let R : BaseType TypeTree → Words → Type 0 = BaseOf all in
        let is : (v : List ℕ) → bytes_eq w v ≡ true → w ≡ v = λ v h. (bytes_eq-Decides w v).0 h in
        says_cond C R (bytes_eq w (codes "Boolean")) _ _ (λ h. (ap (λ z. keyword z s ∷ ts) (is (codes "Boolean") h), g.boolean s)) (λ _.
        says_cond C R (bytes_eq w (codes "Int")) _ _ (λ h. (ap (λ z. keyword z s ∷ ts) (is (codes "Int") h), g.int s)) (λ _.
        says_cond C R (bytes_eq w (codes "String")) _ _ (λ h. (ap (λ z. keyword z s ∷ ts) (is (codes "String") h), g.str s)) (λ _.
        says_cond C R (bytes_eq w (codes "File")) _ _ (λ h. (ap (λ z. keyword z s ∷ ts) (is (codes "File") h), g.file s)) (λ _.
        says_cond C R (bytes_eq w (codes "Array")) _ _ (λ h. subst (λ z. Says C (BaseOf (keyword z s ∷ ts)) (r.array inner s ts)) (sym (is (codes "Array") h)) (array_sound s ts (subst (λ z. Spot (suc depth) (keyword z s ∷ ts)) (is (codes "Array") h) here))) (λ _.
        says_cond C R (bytes_eq w (codes "Map")) _ _ (λ h. subst (λ z. Says C (BaseOf (keyword z s ∷ ts)) (r.map_type inner s ts)) (sym (is (codes "Map") h)) (map_sound s ts (subst (λ z. Spot (suc depth) (keyword z s ∷ ts)) (is (codes "Map") h) here))) (λ _.
        says_cond C R (bytes_eq w (codes "Pair")) _ _ (λ h. subst (λ z. Says C (BaseOf (keyword z s ∷ ts)) (r.pair_type inner s ts)) (sym (is (codes "Pair") h)) (pair_sound s ts (subst (λ z. Spot (suc depth) (keyword z s ∷ ts)) (is (codes "Pair") h) here))) (λ _.
        says_cond C R (bytes_eq w (codes "Float")) _ _ (λ h. left_out_at 120 (kind.Word w) s ts (suc depth) here (float_form w h)) (λ _.
        says_cond C R (bytes_eq w (codes "Object")) _ _ (λ h. left_out_at 121 (kind.Word w) s ts (suc depth) here (object_form w h)) (λ _. tt)))))))))

    base_from : (k : Kind) (s : Span) (ts : Words) → Spot (suc depth) (at k s ∷ ts) → Says C (BaseOf (at k s ∷ ts)) (r.base_of inner k s ts)
    unfolding r.named_base
    base_from (kind.Word w) s ts here = says_cond C (BaseOf (keyword w s ∷ ts)) (is_name w) _ _ (λ h. (refl, g.named (record { name = w; span = s }) h)) (λ _. reserved_sound w s ts here)
    base_from _ s ts here = tt

    base_sound : (ts : Words) → Spot (suc depth) ts → Says C (BaseOf ts) (r.base_at inner ts)
    unfolding r.base_at
    base_sound [] here = tt
    base_sound (t ∷ ts) here = base_from t.kind t.span ts here

    type_over_sound : (ts : Words) → Spot (suc depth) ts → Says C (Takes (IsTypeOver In) type_words ts) (r.type_over inner ts)
    unfolding r.type_over
    type_over_sound ts here = says_then C (BaseOf ts) (Takes (IsTypeOver In) type_words ts) (r.base_at inner ts) _ (base_sound ts here) (λ b rest a. (
      a.0 ∙ ap (λ z. base_words type_words b ++ z) (questions_sound rest) ∙ sym (append_assoc (base_words type_words b) (questions_words (questions rest).0) (questions rest).1) ∙ ap (λ z. z ++ (questions rest).1) (sym (words_type b (questions rest).0)),
      g.type_ b (questions rest).0 a.1,
    ))

  pub type_sound : (d : ℕ) (ts : Words) → Spot d ts → Says C (Takes (TypeWithin d) type_words ts) (type_at d ts)
  unfolding type_at
  type_sound zero = deep_sound
  type_sound (suc d) = type_over_sound d (type_at d) (type_sound d)

-- whatever faults there are
pub type_takes : Sound (TypeWithin max_type_depth) type_words (type_at max_type_depth)
type_takes ts = type_sound (λ _. Unit {0}) ts AnyFault (λ f b. tt) max_type_depth ts ([], 0, refl, ctx.type_root [] tt, refl)

-- ---- a type is read

-- goes past the tail
abbrev pub Past : {A : Type 0} → Outcome A → Words → Type 0
Past {A} o tail = (x : A × Words) × (o ≡ Ok x) × (length x.1 < length tail)

-- reads this much up to this tail, or more
abbrev pub ReachesType : {A : Type 0} → Outcome A → A → Words → Type 0
ReachesType o x tail = (o ≡ Ok (x, tail)) ⊎ ((type_continues tail ≡ true) × Past o tail)

abbrev pub IsTypeFull : (TypeTree → Type 0) → Parser TypeTree → Type 0
IsTypeFull In inner = (t : TypeTree) → In t → (tail : Words) → ReachesType (inner (type_words t ++ tail)) t tail

pub type_exact : (o : Outcome TypeTree) (t : TypeTree) (tail : Words) → type_continues tail ≡ false → ReachesType o t tail → o ≡ Ok (t, tail)
type_exact o t tail stops (inl h) = h
type_exact o t tail stops (inr h) = (let n : true ≡ false = sym h.0 ∙ stops in let z : ⊥ = cc in absurd z)

-- the `?` are read, and those behind them
questions_full : (n : ℕ) (all qs : List Span) (tail : Words) → length qs ≤ n → ((questions_from n all (questions_words qs ++ tail) ≡ (all ++ qs, tail)) ⊎ ((type_continues tail ≡ true) × (length (questions_from n all (questions_words qs ++ tail)).1 < length tail)))
unfolding questions_from found
questions_full zero all [] tail fits = inl (ap (λ z. (z, tail)) (sym (append-nil all)))
questions_full zero all (s ∷ qs) tail fits = absurd (omega arith)
questions_full (suc n) all [] tail fits = go (eat mark.Question tail) refl
  where
    go : (x : Option (Span × Words)) → eat mark.Question tail ≡ x → ((questions_from (suc n) all tail ≡ (all ++ [], tail)) ⊎ ((type_continues tail ≡ true) × (length (questions_from (suc n) all tail).1 < length tail)))
    go None q = inl (found_none (eat mark.Question tail) _ _ q ∙ ap (λ z. (z, tail)) (sym (append-nil all)))
    go (Some x) q =
        let text = ate mark.Question tail x q in
        let said = questions_says n (all ++ x.0 ∷ []) x.1 in
        let same : questions_from (suc n) all tail ≡ questions_from n (all ++ x.0 ∷ []) x.1 = found_some (eat mark.Question tail) _ _ x q in
        inr (ap type_continues text, subst (λ (z : List Span × Words). length z.1 < length tail) (sym same) (omega (arith, ap length text, ap length said.2, length-append (questions_words said.0) (questions_from n (all ++ x.0 ∷ []) x.1).1)))
questions_full (suc n) all (s ∷ qs) tail fits = go (questions_full n (all ++ s ∷ []) qs tail (omega arith))
  where
    go : ((questions_from n (all ++ s ∷ []) (questions_words qs ++ tail) ≡ ((all ++ s ∷ []) ++ qs, tail)) ⊎ ((type_continues tail ≡ true) × (length (questions_from n (all ++ s ∷ []) (questions_words qs ++ tail)).1 < length tail)))
        → ((questions_from (suc n) all (questions_words (s ∷ qs) ++ tail) ≡ (all ++ s ∷ qs, tail)) ⊎ ((type_continues tail ≡ true) × (length (questions_from (suc n) all (questions_words (s ∷ qs) ++ tail)).1 < length tail)))
    go (inl h) = inl (h ∙ ap (λ z. (z, tail)) (append_assoc all (s ∷ []) qs))
    go (inr h) = inr h

questions_length : (qs : List Span) → length (questions_words qs) ≡ length qs
questions_length [] = refl
questions_length (s ∷ qs) = ap suc (questions_length qs)

array_reserved : is_name (codes "Array") ≡ false
unfolding reserved_words
array_reserved = refl

map_reserved : is_name (codes "Map") ≡ false
unfolding reserved_words
map_reserved = refl

pair_reserved : is_name (codes "Pair") ≡ false
unfolding reserved_words
pair_reserved = refl

boolean_reserved : is_name (codes "Boolean") ≡ false
unfolding reserved_words
boolean_reserved = refl

int_reserved : is_name (codes "Int") ≡ false
unfolding reserved_words
int_reserved = refl

string_reserved : is_name (codes "String") ≡ false
unfolding reserved_words
string_reserved = refl

file_reserved : is_name (codes "File") ≡ false
unfolding reserved_words
file_reserved = refl

-- whether a `+` comes next
abbrev plus_next : Words → Bool
plus_next [] = false
plus_next (t ∷ ts) = is_mark mark.Plus t.kind

plus_continues : (ts : Words) → plus_next ts ≡ true → type_continues ts ≡ true
plus_continues [] h = cc
plus_continues (t ∷ ts) h = go t.kind h
  where
    go : (k : Kind) → is_mark mark.Plus k ≡ true → is_type_mark k ≡ true
    go (kind.Mark mark.Plus) q = refl
    go (kind.Mark _) q = cc
    go _ q = cc

module _ (In : TypeTree → Type 0) (inner : Parser TypeTree) (full : IsTypeFull In inner) where
  inner_is : (t : TypeTree) → In t → (tail : Words) → type_continues tail ≡ false → inner (type_words t ++ tail) ≡ Ok (t, tail)
  inner_is t i tail stops = type_exact (inner (type_words t ++ tail)) t tail stops (full t i tail)

  abbrev Bases : BaseType TypeTree → Words → Type 0
  Bases b tail = (r.base_at inner (base_words type_words b ++ tail) ≡ Ok (b, tail)) ⊎ ((plus_next tail ≡ true) × Past (r.base_at inner (base_words type_words b ++ tail)) tail)

  -- a reserved word is none of the names
  by_word : (v : List ℕ) (s : Span) (ts : Words) → is_name v ≡ false → r.base_at inner (keyword v s ∷ ts) ≡ r.reserved inner v s ts
  unfolding r.base_at r.named_base
  by_word v s ts h = cond_false (is_name v) _ _ h

  two_is : (o : Span) (l : TypeTree) (m : Span) (x : TypeTree) (c : Span) (z : Words) → In l → In x
      → r.two inner (marked mark.OpenBracket o ∷ (type_words l ++ marked mark.Comma m ∷ (type_words x ++ marked mark.CloseBracket c ∷ z))) ≡ Ok (record { opening = o; left = l; comma = m; right = x; closing = c }, z)
  unfolding r.two
  two_is o l m x c z i j =
      let last : Words = marked mark.CloseBracket c ∷ z in
      let mid : Words = marked mark.Comma m ∷ (type_words x ++ last) in
      found_some (eat mark.OpenBracket (marked mark.OpenBracket o ∷ (type_words l ++ mid))) _ _ (o, type_words l ++ mid) refl
      ∙ then_is (inner (type_words l ++ mid)) _ (l, mid) (inner_is l i mid refl)
      ∙ found_some (eat mark.Comma mid) _ _ (m, type_words x ++ last) refl
      ∙ then_is (inner (type_words x ++ last)) _ (x, last) (inner_is x j last refl)
      ∙ found_some (eat mark.CloseBracket last) _ _ (c, z) refl

  array_is : (w o : Span) (t : TypeTree) (c : Span) (z : Words) → In t → r.array inner w (marked mark.OpenBracket o ∷ (type_words t ++ marked mark.CloseBracket c ∷ z)) ≡ Ok (base.Array w o t c (optional mark.Plus z).0, (optional mark.Plus z).1)
  unfolding r.array
  array_is w o t c z i =
      let last : Words = marked mark.CloseBracket c ∷ z in
      found_some (eat mark.OpenBracket (marked mark.OpenBracket o ∷ (type_words t ++ last))) _ _ (o, type_words t ++ last) refl
      ∙ then_is (inner (type_words t ++ last)) _ (t, last) (inner_is t i last refl)
      ∙ found_some (eat mark.CloseBracket last) _ _ (c, z) refl

  array_reads : (w o : Span) (t : TypeTree) (c : Span) (z : Words) → In t → r.base_at inner (keyword (codes "Array") w ∷ marked mark.OpenBracket o ∷ (type_words t ++ marked mark.CloseBracket c ∷ z)) ≡ Ok (base.Array w o t c (optional mark.Plus z).0, (optional mark.Plus z).1)
  unfolding r.reserved
  array_reads w o t c z i = by_word (codes "Array") w (marked mark.OpenBracket o ∷ (type_words t ++ marked mark.CloseBracket c ∷ z)) array_reserved ∙ array_is w o t c z i

  bare_array : (w o : Span) (t : TypeTree) (c : Span) (tail : Words) → In t → (x : Option (Span × Words)) → eat mark.Plus tail ≡ x → Bases (base.Array w o t c None) tail
  bare_array w o t c tail i None q =
      let text : base_words type_words (base.Array w o t c None) ++ tail ≡ keyword (codes "Array") w ∷ marked mark.OpenBracket o ∷ (type_words t ++ marked mark.CloseBracket c ∷ tail) = simp append_assoc in
      inl (ap (r.base_at inner) text ∙ array_reads w o t c tail i ∙ ap (λ (z : Option Span × Words). Ok (base.Array w o t c z.0, z.1)) (optional_none mark.Plus tail q))
  bare_array w o t c tail i (Some x) q =
      let text : base_words type_words (base.Array w o t c None) ++ tail ≡ keyword (codes "Array") w ∷ marked mark.OpenBracket o ∷ (type_words t ++ marked mark.CloseBracket c ∷ tail) = simp append_assoc in
      let e1 = ate mark.Plus tail x q in
      inr (ap plus_next e1, ((base.Array w o t c (Some x.0), x.1), ap (r.base_at inner) text ∙ array_reads w o t c tail i ∙ ap (λ (z : Option Span × Words). Ok (base.Array w o t c z.0, z.1)) (optional_some mark.Plus tail x q), omega (arith, ap length e1)))

  array_full : (w o : Span) (t : TypeTree) (c : Span) (p : Option Span) (tail : Words) → In t → Bases (base.Array w o t c p) tail
  array_full w o t c None tail i = bare_array w o t c tail i (eat mark.Plus tail) refl
  array_full w o t c (Some p) tail i =
      let rest : Words = marked mark.Plus p ∷ tail in
      let text : base_words type_words (base.Array w o t c (Some p)) ++ tail ≡ keyword (codes "Array") w ∷ marked mark.OpenBracket o ∷ (type_words t ++ marked mark.CloseBracket c ∷ rest) = simp append_assoc in
      inl (ap (r.base_at inner) text ∙ array_reads w o t c rest i ∙ ap (λ (z : Option Span × Words). Ok (base.Array w o t c z.0, z.1)) (optional_some mark.Plus rest (p, tail) refl))

  map_full : (w o : Span) (k : TypeTree) (m : Span) (v : TypeTree) (c : Span) (tail : Words) → In k → In v → Bases (base.Map w o k m v c) tail
  unfolding r.reserved
  map_full w o k m v c tail i j =
      let rest : Words = marked mark.OpenBracket o ∷ (type_words k ++ marked mark.Comma m ∷ (type_words v ++ marked mark.CloseBracket c ∷ tail)) in
      let text : base_words type_words (base.Map w o k m v c) ++ tail ≡ keyword (codes "Map") w ∷ rest = simp append_assoc in
      inl (ap (r.base_at inner) text ∙ by_word (codes "Map") w rest map_reserved ∙ then_is (r.two inner rest) _ (record { opening = o; left = k; comma = m; right = v; closing = c }, tail) (two_is o k m v c tail i j))

  pair_full : (w o : Span) (l : TypeTree) (m : Span) (x : TypeTree) (c : Span) (tail : Words) → In l → In x → Bases (base.Pair w o l m x c) tail
  unfolding r.reserved
  pair_full w o l m x c tail i j =
      let rest : Words = marked mark.OpenBracket o ∷ (type_words l ++ marked mark.Comma m ∷ (type_words x ++ marked mark.CloseBracket c ∷ tail)) in
      let text : base_words type_words (base.Pair w o l m x c) ++ tail ≡ keyword (codes "Pair") w ∷ rest = simp append_assoc in
      inl (ap (r.base_at inner) text ∙ by_word (codes "Pair") w rest pair_reserved ∙ then_is (r.two inner rest) _ (record { opening = o; left = l; comma = m; right = x; closing = c }, tail) (two_is o l m x c tail i j))

  base_full : (b : BaseType TypeTree) → IsBase In b → (tail : Words) → Bases b tail
  unfolding r.reserved r.base_at r.named_base
  base_full b (g.boolean s) tail = inl (by_word (codes "Boolean") s tail boolean_reserved)
  base_full b (g.int s) tail = inl (by_word (codes "Int") s tail int_reserved)
  base_full b (g.str s) tail = inl (by_word (codes "String") s tail string_reserved)
  base_full b (g.file s) tail = inl (by_word (codes "File") s tail file_reserved)
  base_full b (g.named n h) tail = inl (cond_true (is_name n.name) _ _ h)
  base_full b (g.array w o t c p i) tail = array_full w o t c p tail i
  base_full b (g.map w o k m v c i j) tail = map_full w o k m v c tail i j
  base_full b (g.pair w o l m x c i j) tail = pair_full w o l m x c tail i j

  -- with the `?` behind it
  with_questions : (b : BaseType TypeTree) (qs : List Span) (tail : Words) → r.base_at inner (base_words type_words b ++ (questions_words qs ++ tail)) ≡ Ok (b, questions_words qs ++ tail) → ReachesType (r.type_over inner (type_words (type_tree b qs) ++ tail)) (type_tree b qs) tail
  unfolding r.type_over
  with_questions b qs tail h = go (questions_full (length mid) [] qs tail (omega (arith, length-append (questions_words qs) tail, questions_length qs)))
    where
      mid : Words
      mid = questions_words qs ++ tail

      start : r.type_over inner (type_words (type_tree b qs) ++ tail) ≡ Ok (type_tree b (questions mid).0, (questions mid).1)
      start = ap (λ z. r.type_over inner (z ++ tail)) (words_type b qs) ∙ ap (r.type_over inner) (append_assoc (base_words type_words b) (questions_words qs) tail) ∙ then_is (r.base_at inner (base_words type_words b ++ mid)) _ (b, mid) h

      go : ((questions mid ≡ ([] ++ qs, tail)) ⊎ ((type_continues tail ≡ true) × (length (questions mid).1 < length tail))) → ReachesType (r.type_over inner (type_words (type_tree b qs) ++ tail)) (type_tree b qs) tail
      go (inl q) = inl (start ∙ ap (λ (z : List Span × Words). Ok (type_tree b z.0, z.1)) q)
      go (inr (c, less)) = inr (c, ((type_tree b (questions mid).0, (questions mid).1), start, less))

  -- a `+` behind an array without one
  past_plus : (b : BaseType TypeTree) (tail : Words) → plus_next tail ≡ true → Past (r.base_at inner (base_words type_words b ++ tail)) tail → ReachesType (r.type_over inner (type_words (type_tree b []) ++ tail)) (type_tree b []) tail
  unfolding r.type_over
  past_plus b tail plus x =
      let said = questions_says (length x.0.1) [] x.0.1 in
      let text : type_words (type_tree b []) ++ tail ≡ base_words type_words b ++ tail = ap (λ z. z ++ tail) (words_type b [] ∙ append-nil (base_words type_words b)) in
      inr (
        plus_continues tail plus,
        (
          (type_tree x.0.0 (questions x.0.1).0, (questions x.0.1).1),
          ap (r.type_over inner) text ∙ then_is (r.base_at inner (base_words type_words b ++ tail)) _ x.0 x.1,
          omega (arith, x.2, ap length said.2, length-append (questions_words said.0) (questions x.0.1).1),
        ),
      )

  pub type_over_full : IsTypeFull (IsTypeOver In) (r.type_over inner)
  type_over_full t (g.type_ b qs p) tail = by_questions qs (base_full b p (questions_words qs ++ tail))
    where
      by_questions : (qs : List Span) → Bases b (questions_words qs ++ tail) → ReachesType (r.type_over inner (type_words (type_tree b qs) ++ tail)) (type_tree b qs) tail
      by_questions qs (inl h) = with_questions b qs tail h
      by_questions [] (inr (plus, x)) = past_plus b tail plus x
      by_questions (s ∷ qs) (inr (plus, x)) = cc

pub type_full : (d : ℕ) → IsTypeFull (TypeWithin d) (type_at d)
unfolding type_at
type_full zero t p tail = absurd p
type_full (suc d) t p tail = type_over_full (TypeWithin d) (type_at d) (type_full d) t p tail
