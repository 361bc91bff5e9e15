-- Expressions that are chains: they are what the chain says, of the type of its path.
use Rattle.std.proofs.Common.{◌≡◌, ℕ, Bool, true, List, [], ◌∷◌, ◌++◌, Option, Some, None, option_and_then, Ok, Err, sym, ap, ◌∙◌, subst, refl}
use Rattle.std.proofs.lemmas.Bool.{false≢true}
use Rattle.std.proofs.lemmas.List.{map-append}
use Rattle.std.proofs.lemmas.Option.{same_Some}
use Rattle.wdl_base.specs.declared.name.Key.{Key}
use Rattle.wdl_value.specs.declared.ty.Ty.{Ty}
use Rattle.wdl_value.specs.declared.value.Value.{Value, out-Value}
use Rattle.wdl_typed.specs.declared.expr.TExpr.{TExpr, TExpr-F, fold-roll-TExpr, ind-TExpr, map-TExpr, roll-TExpr}
use Rattle.wdl_typed.specs.declared.expr.TExpr.TheOpen as layer
use Rattle.wdl_typed.specs.declared.expr.TExpr.TheVariants as e
use Rattle.wdl_typed.specs.Evaluation.{Met, member_at, then_}
use Rattle.wdl_typed.specs.Typing.{Context, Typing, member_type, type_of, type_step}
use Rattle.wdl_swaps.specs.declared.chain.Chain.{Chain}
use Rattle.wdl_swaps.specs.declared.chain.Hop.{Hop}
use Rattle.wdl_swaps.specs.declared.chain.Hop.TheVariants as hop
use Rattle.wdl_swaps.specs.Chains.{along, behind, chain, chain_of, chain_step, expr_of, hopped}
use Rattle.wdl_swaps.proofs.Chained.{along_more}
use Rattle.leaf_image.specs.Records.{is_path, member_hops}
use Rattle.record_laws.specs.Given.{along_path}
use Rattle.record_laws.proofs.Paths.{path_type}

-- ---- what an expression is that is a chain

abbrev IsChain : TExpr → Type 0
IsChain a = (c : Chain) → chain_of a ≡ Some c → a ≡ expr_of c

abbrev Known : Type 0
Known = (a : TExpr) × IsChain a

abbrev first : Known → TExpr
first k = k.0

further : (a : TExpr) (h : Hop) → IsChain a → (o : Option Chain) → chain_of a ≡ o → (c : Chain) → behind h o ≡ Some c → hopped a h ≡ expr_of c
further a h is None at c j = absurd (cc)
further a h is (Some b) at c j =
    let same : chain b.key (b.hops ++ h ∷ []) ≡ c = same_Some _ _ j in
    ap (λ (x : TExpr). hopped x h) (is b at) ∙ sym (along_more (e.Get b.key) b.hops h) ∙ ap expr_of same

chain_layer : (y : TExpr-F Known) (c : Chain) → chain_step (map-TExpr TExpr (Option Chain) chain_of (map-TExpr Known TExpr first y)) ≡ Some c → roll-TExpr (map-TExpr Known TExpr first y) ≡ expr_of c
chain_layer (layer.Get key) c h = let same : chain key [] ≡ c = same_Some _ _ h in e.rolls-Get key ∙ ap expr_of same
chain_layer (layer.Member k name) c h = e.rolls-Member k.0 name ∙ further k.0 (hop.Member name) k.1 (chain_of k.0) refl c h
chain_layer (layer.Cast k t) c h = e.rolls-Cast k.0 t ∙ further k.0 (hop.Cast t) k.1 (chain_of k.0) refl c h
chain_layer (layer.Lit x) c h = absurd (cc)
chain_layer (layer.At j k) c h = absurd (cc)
chain_layer (layer.Not k) c h = absurd (cc)
chain_layer (layer.Neg k) c h = absurd (cc)
chain_layer (layer.Binary o j k) c h = absurd (cc)
chain_layer (layer.Choose i j k) c h = absurd (cc)
chain_layer (layer.ListOf ks) c h = absurd (cc)
chain_layer (layer.MapOf ks) c h = absurd (cc)
chain_layer (layer.PairOf j k) c h = absurd (cc)
chain_layer (layer.StructOf name ks) c h = absurd (cc)
chain_layer (layer.Apply f ks) c h = absurd (cc)
chain_layer (layer.Strung ks) c h = absurd (cc)

pub is_chain : (a : TExpr) → IsChain a
is_chain = ind-TExpr IsChain (λ x y is. subst (λ (z : TExpr-F TExpr). IsChain (roll-TExpr z)) is (λ c h.
    chain_layer y c (sym (fold-roll-TExpr (Option Chain) chain_step (map-TExpr Known TExpr first y)) ∙ h)))

-- ---- paths

pub path_of : (hops : List Hop) → is_path hops ≡ true → (path : List (List ℕ)) × (hops ≡ member_hops path)
path_of [] h = ([], refl)
path_of (hop.Cast t ∷ hs) h = absurd (false≢true h)
path_of (hop.Member n ∷ hs) h = let p = path_of hs h in (n ∷ p.0, ap (λ (xs : List Hop). hop.Member n ∷ xs) p.1)

pub path_more : (path rest : List (List ℕ)) (x : Value) → along_path (path ++ rest) x ≡ then_ (along_path path x) (along_path rest)
path_more [] rest x = refl
path_more (m ∷ path) rest x = by_met (member_at m (out-Value x)) (path_more path rest)
  where
    by_met : (r : Met Value) → ((y : Value) → along_path (path ++ rest) y ≡ then_ (along_path path y) (along_path rest))
        → then_ r (along_path (path ++ rest)) ≡ then_ (then_ r (along_path path)) (along_path rest)
    by_met (Ok y) more = more y
    by_met (Err c) more = refl

pub hops_more : (path rest : List (List ℕ)) → member_hops (path ++ rest) ≡ member_hops path ++ member_hops rest
hops_more path rest = map-append hop.Member path rest

-- ---- types

type_get : (c : Context) (key : Key) (p : Bool) → type_of c (e.Get key) p ≡ type_step c (layer.Get key) p
type_get c key p = ap (λ (a : TExpr). type_of c a p) (sym (e.rolls-Get key)) ∙ ap (λ (f : Typing). f p) (fold-roll-TExpr Typing (type_step c) (layer.Get key))

type_member : (c : Context) (a : TExpr) (name : List ℕ) (p : Bool) → type_of c (e.Member a name) p ≡ option_and_then (member_type c.structs name) (type_of c a p)
type_member c a name p = ap (λ (b : TExpr). type_of c b p) (sym (e.rolls-Member a name)) ∙ ap (λ (f : Typing). f p) (fold-roll-TExpr Typing (type_step c) (layer.Member a name))

type_along : (c : Context) (p : Bool) (path : List (List ℕ)) (a : TExpr) → type_of c (along a (member_hops path)) p ≡ option_and_then (path_type c.structs path) (type_of c a p)
type_along c p [] a = itself (type_of c a p)
  where
    itself : (o : Option Ty) → o ≡ option_and_then (path_type c.structs []) o
    itself None = refl
    itself (Some t) = refl
type_along c p (m ∷ path) a =
    type_along c p path (e.Member a m) ∙ ap (option_and_then (path_type c.structs path)) (type_member c a m p) ∙ both (type_of c a p)
  where
    both : (o : Option Ty) → option_and_then (path_type c.structs path) (option_and_then (member_type c.structs m) o) ≡ option_and_then (path_type c.structs (m ∷ path)) o
    both None = refl
    both (Some t) = refl

-- the type of a path from a reference
pub path_typed : (c : Context) (p : Bool) (key : Key) (path : List (List ℕ)) (t u : Ty) → type_step c (layer.Get key) p ≡ Some t → type_of c (along (e.Get key) (member_hops path)) p ≡ Some u
    → path_type c.structs path t ≡ Some u
path_typed c p key path t u at h = ap (option_and_then (path_type c.structs path)) (sym (type_get c key p ∙ at)) ∙ sym (type_along c p path (e.Get key)) ∙ h
