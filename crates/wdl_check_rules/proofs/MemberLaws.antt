-- What is given under each name, and which names are listed, in a list with one more at its end.
use Rattle.std.proofs.Common.{◌≡◌, ◌&&◌, ◌||◌, not, ℕ, ◌+◌, ◌<◌, Bool, true, false, List, [], ◌∷◌, ◌++◌, Option, Some, None, take, drop, length, get_or, suc, Ok, Err, append_assoc, add-one, drop-cons, refl, ap, sym, ◌∙◌, if◌then◌else◌, cond}
use Rattle.std.proofs.Math.Seq.{take-suc}
use Rattle.wdl_base.specs.declared.span.Span.{Span}
use Rattle.wdl_ast.specs.declared.expr.Expr.{Expr}
use Rattle.wdl_ast.specs.declared.expr.MemberEntry.{MemberEntry}
use Rattle.wdl_ast.specs.declared.leaf.ListItem.{ListItem}
use Rattle.wdl_typed.specs.declared.expr.TExpr.{TExpr}
use Rattle.wdl_typed.specs.declared.expr.TField.{TField}
use Rattle.wdl_check_rules.specs.declared.fault.CheckFault.{CheckFault}
use Rattle.wdl_check_rules.specs.Checked.{Checked, then_, first_stray, value_checked, fields_checked}
use Rattle.wdl_check_rules.specs.Typed.{idents}
use Rattle.std.specs.Str.{bytes_eq}
use Rattle.wdl_value.specs.declared.ty.Member.{Member}
use Rattle.wdl_ast.specs.declared.leaf.Ident.{Ident}
use Rattle.wdl_check_rules.specs.declared.literal_members.MemberValue.{MemberValue}
use Rattle.wdl_check_rules.specs.Members.{is_member, is_listed, is_stray, GivenAt, given_of, without, field}
use Rattle.wdl_check_rules.specs.Rules.{or_else}

-- a name more among those found, or still to come
pub name_moved : (b c d : Bool) → (cond b true c || d) ≡ (c || (b || d))
name_moved true true d = refl
name_moved true false d = refl
name_moved false true d = refl
name_moved false false d = refl

-- a name less among those left
pub name_taken : (b m l : Bool) → cond b false (m && not l) ≡ (m && not (l || b))
name_taken true true true = refl
name_taken true true false = refl
name_taken true false l = refl
name_taken false true true = refl
name_taken false true false = refl
name_taken false false l = refl

pub listed_more : (ns : List Ident) (n : Ident) (q : List ℕ) → is_listed (ns ++ n ∷ []) q ≡ (is_listed ns q || bytes_eq n.name q)
listed_more [] n q = by_test (bytes_eq n.name q)
  where
    by_test : (b : Bool) → (b || false) ≡ b
    by_test true = refl
    by_test false = refl
listed_more (m ∷ ns) n q = by_head (bytes_eq m.name q) (listed_more ns n q)
  where
    by_head : (b : Bool) → is_listed (ns ++ n ∷ []) q ≡ (is_listed ns q || bytes_eq n.name q) → (b || is_listed (ns ++ n ∷ []) q) ≡ ((b || is_listed ns q) || bytes_eq n.name q)
    by_head true h = refl
    by_head false h = h

-- a name is left where it is no stray
pub left_or_stray : (m l : Bool) → (not m || l) ≡ not (m && not l)
left_or_stray true true = refl
left_or_stray true false = refl
left_or_stray false l = refl

given_more : (gs : List MemberValue) (g : MemberValue) (q : List ℕ) → given_of (gs ++ g ∷ []) q ≡ or_else (given_of gs q) (if bytes_eq g.name q then Some g else None)
given_more [] g q = refl
given_more (f ∷ gs) g q = by_head (bytes_eq f.name q) (given_more gs g q)
  where
    by_head : (b : Bool) → given_of (gs ++ g ∷ []) q ≡ or_else (given_of gs q) (if bytes_eq g.name q then Some g else None) → (if b then Some f else given_of (gs ++ g ∷ []) q) ≡ or_else (if b then Some f else given_of gs q) (if bytes_eq g.name q then Some g else None)
    by_head true h = refl
    by_head false h = h

-- the last one goes into a map over those behind it
pub last_given : (gs : List MemberValue) (g : MemberValue) (q : List ℕ) (later : Option MemberValue) → or_else (given_of gs q) (cond (bytes_eq g.name q) (Some g) later) ≡ or_else (given_of (gs ++ g ∷ []) q) later
last_given gs g q later = by_parts (given_of gs q) (bytes_eq g.name q) (given_more gs g q)
  where
    by_parts : (o : Option MemberValue) (b : Bool) → given_of (gs ++ g ∷ []) q ≡ or_else o (if b then Some g else None) → or_else o (cond b (Some g) later) ≡ or_else (given_of (gs ++ g ∷ []) q) later
    by_parts (Some f) b h = cc
    by_parts None true h = cc
    by_parts None false h = cc

-- ---- a loop over a list: the element at hand

pub at_front : {A : Type 0} (xs : List A) (i : ℕ) (x : A) → i < length xs → x ≡ get_or xs i x → drop i xs ≡ x ∷ drop (i + 1) xs
at_front {A} xs i x within is = rw (add-one, drop-cons xs i x within) (ap (λ (y : A). y ∷ drop (suc i) xs) (sym is))

pub at_end : {A : Type 0} (xs : List A) (i : ℕ) (x : A) → i < length xs → x ≡ get_or xs i x → take (i + 1) xs ≡ take i xs ++ x ∷ []
at_end {A} xs i x within is = rw (add-one, take-suc xs i x within) (ap (λ (y : A). take i xs ++ y ∷ []) (sym is))

pub member_found : (ms : List Member) (i : ℕ) (m : Member) (q : List ℕ) (old new : Bool) → i < length ms → m ≡ get_or ms i m → new ≡ cond (bytes_eq m.name q) true old → (old || is_member (drop i ms) q) ≡ is_member ms q → (new || is_member (drop (i + 1) ms) q) ≡ is_member ms q
member_found ms i m q old new within is put h =
    ap (λ (b : Bool). b || is_member (drop (i + 1) ms) q) put ∙ name_moved (bytes_eq m.name q) old (is_member (drop (i + 1) ms) q)
    ∙ ap (λ (xs : List Member). old || is_member xs q) (sym (at_front ms i m within is)) ∙ h

abbrev Entries : Type 0
Entries = List (ListItem (MemberEntry Expr))

idents_more : (es : Entries) (e : ListItem (MemberEntry Expr)) → idents (es ++ e ∷ []) ≡ idents es ++ e.item.name ∷ []
idents_more [] e = refl
idents_more (f ∷ es) e = ap (λ (ns : List Ident). f.item.name ∷ ns) (idents_more es e)

pub idents_end : (es : Entries) (i : ℕ) (e : ListItem (MemberEntry Expr)) → i < length es → e ≡ get_or es i e → idents (take (i + 1) es) ≡ idents (take i es) ++ e.item.name ∷ []
idents_end es i e within is = ap (λ (xs : Entries). idents xs) (at_end es i e within is) ∙ idents_more (take i es) e

pub idents_front : (es : Entries) (i : ℕ) (e : ListItem (MemberEntry Expr)) → i < length es → e ≡ get_or es i e → idents (drop i es) ≡ e.item.name ∷ idents (drop (i + 1) es)
idents_front es i e within is = ap (λ (xs : Entries). idents xs) (at_front es i e within is)

stray_is : (ms : List Member) (before : List Ident) (name : List ℕ) (left b : Bool) → left ≡ (is_member ms name && not (is_listed before name)) → left ≡ b → is_stray ms before name ≡ not b
stray_is ms before name left b has is = left_or_stray (is_member ms name) (is_listed before name) ∙ ap not (sym has ∙ is)

pub stray_found : (ms : List Member) (before rest : List Ident) (n : Ident) (t : Option Span) (left : Bool) → left ≡ (is_member ms n.name && not (is_listed before n.name)) → left ≡ false → first_stray ms before (n ∷ rest) ≡ t → Some n.span ≡ t
stray_found ms before rest n t left has is h =
    sym (ap (λ (b : Bool). if b then Some n.span else first_stray ms (before ++ n ∷ []) rest) (stray_is ms before n.name left false has is)) ∙ h

pub stray_passed : (ms : List Member) (before rest : List Ident) (n : Ident) (t : Option Span) (left : Bool) → left ≡ (is_member ms n.name && not (is_listed before n.name)) → left ≡ true → first_stray ms before (n ∷ rest) ≡ t → first_stray ms (before ++ n ∷ []) rest ≡ t
stray_passed ms before rest n t left has is h =
    sym (ap (λ (b : Bool). if b then Some n.span else first_stray ms (before ++ n ∷ []) rest) (stray_is ms before n.name left true has is)) ∙ h

pub left_less : (ms : List Member) (before : List Ident) (n : Ident) (q : List ℕ) (old new : Bool) → new ≡ cond (bytes_eq n.name q) false old → old ≡ (is_member ms q && not (is_listed before q)) → new ≡ (is_member ms q && not (is_listed (before ++ n ∷ []) q))
left_less ms before n q old new put h =
    put ∙ ap (cond (bytes_eq n.name q) false) h ∙ name_taken (bytes_eq n.name q) (is_member ms q) (is_listed before q)
    ∙ ap (λ (b : Bool). is_member ms q && not b) (sym (listed_more before n q))

-- ---- the members of a literal, one after the other

abbrev Fields : Type 0
Fields = List (TField TExpr)

then_more : (done : Fields) (x : TField TExpr) (r : Checked Fields) → then_ r (λ fs. Ok ((done ++ x ∷ []) ++ fs)) ≡ then_ (then_ r (λ fs. Ok (x ∷ fs))) (λ fs. Ok (done ++ fs))
then_more done x (Ok fs) = ap Ok (append_assoc done (x ∷ []) fs)
then_more done x (Err e) = refl

cond_without : (gs : GivenAt) (name q : List ℕ) → cond (bytes_eq name q) None (gs q) ≡ without gs name q
cond_without gs name q = by_test (bytes_eq name q)
  where
    by_test : (b : Bool) → cond b None (gs q) ≡ (if b then None else gs q)
    by_test true = refl
    by_test false = refl

pub field_passed : (span : Span) (ms : List Member) (i : ℕ) (m : Member) (f g : GivenAt) (e : TExpr) (done : Fields) (t : Checked Fields) → i < length ms → m ≡ get_or ms i m → value_checked span m.ty (f m.name) ≡ Ok e → ((q : List ℕ) → g q ≡ cond (bytes_eq m.name q) None (f q)) → then_ (fields_checked span (drop i ms) f) (λ fs. Ok (done ++ fs)) ≡ t → then_ (fields_checked span (drop (i + 1) ms) g) (λ fs. Ok ((done ++ field m.name e ∷ []) ++ fs)) ≡ t
field_passed span ms i m f g e done t within is value left h =
    let rest = drop (i + 1) ms in
    let same : g ≡ without f m.name = λ j q. (left q ∙ cond_without f m.name q) j in
    ap (λ (z : GivenAt). then_ (fields_checked span rest z) (λ fs. Ok ((done ++ field m.name e ∷ []) ++ fs))) same
    ∙ then_more done (field m.name e) (fields_checked span rest (without f m.name))
    ∙ ap (λ (z : Checked TExpr). then_ (then_ z (λ e. then_ (fields_checked span rest (without f m.name)) (λ fs. Ok (field m.name e ∷ fs)))) (λ fs. Ok (done ++ fs))) (sym value)
    ∙ ap (λ (xs : List Member). then_ (fields_checked span xs f) (λ fs. Ok (done ++ fs))) (sym (at_front ms i m within is)) ∙ h

pub field_stopped : (span : Span) (ms : List Member) (i : ℕ) (m : Member) (f : GivenAt) (e : CheckFault) (done : Fields) (t : Checked Fields) → i < length ms → m ≡ get_or ms i m → value_checked span m.ty (f m.name) ≡ Err e → then_ (fields_checked span (drop i ms) f) (λ fs. Ok (done ++ fs)) ≡ t → t ≡ Err e
field_stopped span ms i m f e done t within is value h =
    let rest = drop (i + 1) ms in
    sym h ∙ ap (λ (xs : List Member). then_ (fields_checked span xs f) (λ fs. Ok (done ++ fs))) (at_front ms i m within is)
    ∙ ap (λ (z : Checked TExpr). then_ (then_ z (λ e. then_ (fields_checked span rest (without f m.name)) (λ fs. Ok (field m.name e ∷ fs)))) (λ fs. Ok (done ++ fs))) value

pub given_alike : (span : Span) (ms : List Member) (f g : GivenAt) → ((q : List ℕ) → f q ≡ g q) → fields_checked span ms f ≡ fields_checked span ms g
given_alike span ms f g h =
    let same : f ≡ g = λ j q. h q j in
    ap (fields_checked span ms) same
