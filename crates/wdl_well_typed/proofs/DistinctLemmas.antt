-- Names that are added one list after another.
use Rattle.std.proofs.Common.{◌≡◌, ℕ, Bool, true, false, ◌&&◌, List, [], ◌∷◌, ◌++◌, sym, ap, ◌∙◌, append_assoc}
use Rattle.wdl_typed.specs.declared.flow.Statement.{Statement}
use Rattle.wdl_typed.specs.Bodies.{all_declared, declared}
use Rattle.wdl_typed.specs.Lists.{are_distinct}
use Rattle.wdl_names.specs.Fresh.{fresh}
use Rattle.wdl_names.proofs.FreshLemmas.{fresh-append, fresh-distinct}

distinct-fresh : (ts ns : List (List ℕ)) → ts ≡ [] → fresh ts ns ≡ are_distinct ns
distinct-fresh ts ns none = ap (λ us. fresh us ns) none ∙ fresh-distinct ns

-- one list, and a test of its names
pub names_stop : (ts ns : List (List ℕ)) (b more : Bool) → ts ≡ [] → b ≡ fresh ts ns → b ≡ false → false ≡ (are_distinct ns && more)
names_stop ts ns b more none is stop = ap (λ t. t && more) (sym stop ∙ is ∙ distinct-fresh ts ns none)

pub names_go : (ts us ns : List (List ℕ)) (b r : Bool) (test : List (List ℕ) → Bool) → ts ≡ [] → b ≡ fresh ts ns → b ≡ true → us ≡ ts ++ ns → r ≡ test us
    → r ≡ (are_distinct ns && test ns)
names_go ts us ns b r test none is go added gives =
    gives ∙ ap test (added ∙ ap (λ ws. ws ++ ns) none) ∙ ap (λ t. t && test ns) (sym go ∙ is ∙ distinct-fresh ts ns none)

-- three lists, each added to those before
distinct-parts : (a b c : List (List ℕ)) → are_distinct (a ++ b ++ c) ≡ ((fresh [] a && fresh a b) && fresh (a ++ b) c)
distinct-parts a b c = sym (fresh-distinct (a ++ b ++ c)) ∙ fresh-append [] (a ++ b) c ∙ ap (λ t. t && fresh (a ++ b) c) (fresh-append [] a b)

pub first_stop : (a b c w : List (List ℕ)) (m : Bool) → w ≡ [] → m ≡ fresh w a → m ≡ false → false ≡ are_distinct (a ++ b ++ c)
first_stop a b c w m none is stop =
    ap (λ t. (t && fresh a b) && fresh (a ++ b) c) (sym stop ∙ is ∙ ap (λ ws. fresh ws a) none) ∙ sym (distinct-parts a b c)

pub second_stop : (a b c w v : List (List ℕ)) (m n : Bool) → w ≡ [] → m ≡ fresh w a → m ≡ true → v ≡ w ++ a → n ≡ fresh v b → n ≡ false → false ≡ are_distinct (a ++ b ++ c)
second_stop a b c w v m n none is go added new stop =
    ap (λ t. t && fresh (a ++ b) c) (sym stop ∙ new ∙ ap (λ ws. fresh ws b) (added ∙ ap (λ ws. ws ++ a) none))
    ∙ ap (λ t. (t && fresh a b) && fresh (a ++ b) c) (sym go ∙ is ∙ ap (λ ws. fresh ws a) none)
    ∙ sym (distinct-parts a b c)

pub third_is : (a b c w v u : List (List ℕ)) (m n : Bool) → w ≡ [] → m ≡ fresh w a → m ≡ true → v ≡ w ++ a → n ≡ fresh v b → n ≡ true → u ≡ v ++ b
    → fresh u c ≡ are_distinct (a ++ b ++ c)
third_is a b c w v u m n none is go added new on more =
    ap (λ ws. fresh ws c) (more ∙ ap (λ ws. ws ++ b) (added ∙ ap (λ ws. ws ++ a) none))
    ∙ ap (λ t. t && fresh (a ++ b) c) (sym on ∙ new ∙ ap (λ ws. fresh ws b) (added ∙ ap (λ ws. ws ++ a) none))
    ∙ ap (λ t. (t && fresh a b) && fresh (a ++ b) c) (sym go ∙ is ∙ ap (λ ws. fresh ws a) none)
    ∙ sym (distinct-parts a b c)

pub all_added : (a b c w v u t : List (List ℕ)) → w ≡ [] → v ≡ w ++ a → u ≡ v ++ b → t ≡ u ++ c → t ≡ a ++ b ++ c
all_added a b c w v u t none one two three = three ∙ ap (λ ws. ws ++ c) (two ∙ ap (λ ws. ws ++ b) (one ∙ ap (λ ws. ws ++ a) none))

-- a statement, and those after it
pub declared_stop : (words : List (List ℕ)) (s : Statement) (ss ds : List Statement) (b all : Bool) → ds ≡ s ∷ ss → b ≡ fresh words (declared s) → b ≡ false
    → fresh words (all_declared ds) ≡ all → false ≡ all
declared_stop words s ss ds b all next is stop rest =
    ap (λ t. t && fresh (words ++ declared s) (all_declared ss)) (sym stop ∙ is)
    ∙ sym (fresh-append words (declared s) (all_declared ss))
    ∙ sym (ap (λ es. fresh words (all_declared es)) next)
    ∙ rest

pub declared_go : (words more : List (List ℕ)) (s : Statement) (ss ds : List Statement) (b all : Bool) (names : List (List ℕ)) → ds ≡ s ∷ ss → b ≡ fresh words (declared s) → b ≡ true
    → more ≡ words ++ declared s → words ++ all_declared ds ≡ names → fresh words (all_declared ds) ≡ all
    → (more ++ all_declared ss ≡ names) × (fresh more (all_declared ss) ≡ all)
declared_go words more s ss ds b all names next is go added whole rest = (
  ap (λ ws. ws ++ all_declared ss) added
      ∙ append_assoc words (declared s) (all_declared ss)
      ∙ sym (ap (λ es. words ++ all_declared es) next)
      ∙ whole,
  ap (λ ws. fresh ws (all_declared ss)) added
      ∙ ap (λ t. t && fresh (words ++ declared s) (all_declared ss)) (sym go ∙ is)
      ∙ sym (fresh-append words (declared s) (all_declared ss))
      ∙ sym (ap (λ es. fresh words (all_declared es)) next)
      ∙ rest,
)
