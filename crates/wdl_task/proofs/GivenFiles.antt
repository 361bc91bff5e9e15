-- The paths of files, each at its first place, by a set of those that were seen.
use Rattle.std.proofs.Common.{◌≡◌, ℕ, ◌+◌, ◌<◌, ◌≤◌, Bool, true, false, not, cond, ◌||◌, List, [], ◌∷◌, ◌++◌, length, drop, map, get_or, bytes_eq, refl, sym, ap, ◌∙◌, append_assoc}
use Rattle.std.specs.BTreeSet.{insert_key}
use Rattle.std.specs.Cmp.Lexicographic.{nat_list_eq_equiv}
use Rattle.std.proofs.Math.Bool.{or-false}
use Rattle.std.proofs.lemmas.Bool.{not-false, not-true}
use Rattle.std.proofs.lemmas.List.{drop_all}
use Rattle.std.proofs.lemmas.List.Folds.{list_any-append}
use Rattle.wdl_base.specs.declared.body.Laid.{Laid}
use Rattle.wdl_value.specs.FilePaths.{Paths}
use Rattle.wdl_value.specs.declared.env.Bind.{Bind}
use Rattle.wdl_typed.specs.declared.task.TDecl.{TDecl}
use Rattle.wdl_typed.specs.declared.task.TInput.{TInput}
use Rattle.wdl_typed.specs.Declarations.{decl_names, input_names, plain_key}
use Rattle.wdl_typed.specs.Requests.{is_laid, is_listed, paths_at, value_paths, with_paths}
use Rattle.wdl_typed.specs.Scope.{lookup}
use Rattle.wdl_names.proofs.KeySets.{Key, any_key, any_key-insert, key_cmp}
use Rattle.wdl_task.proofs.Loops.{cut}

grown : (q p : List ℕ) (key : Key) (old new : List Key) → key.now ≡ p → new ≡ insert_key key_cmp old key → any_key q new ≡ (bytes_eq p q || any_key q old)
grown q p key old new is h =
    ap (any_key q) h
    ∙ any_key-insert q key old
    ∙ ap (λ b. b || any_key q old) (ap (bytes_eq q) is ∙ nat_list_eq_equiv.symm q p)

-- ---- the names of the files that are laid down

moved : (a b c : Bool) → ((a || b) || c) ≡ (b || (a || c))
moved true true c = refl
moved true false c = refl
moved false true c = refl
moved false false c = refl

pub name_added : (q : List ℕ) (files : List Laid) (i : ℕ) (f : Laid) (key : Key) (old new : List Key) → i < length files → f ≡ get_or files i f → key.now ≡ f.name
    → new ≡ insert_key key_cmp old key → (any_key q new || is_laid (drop (i + 1) files) q) ≡ (any_key q old || is_laid (drop i files) q)
name_added q files i f key old new below at is h =
    ap (λ b. b || is_laid (drop (i + 1) files) q) (grown q f.name key old new is h)
    ∙ moved (bytes_eq f.name q) (any_key q old) (is_laid (drop (i + 1) files) q)
    ∙ sym (ap (λ fs. any_key q old || is_laid fs q) (cut files i f at below))

-- ---- paths

shifted : (a b c : Bool) → (c || (a || b)) ≡ (a || (b || (c || false)))
shifted true b c = or_true c
  where
    or_true : (c : Bool) → (c || true) ≡ true
    or_true true = refl
    or_true false = refl
shifted false true true = refl
shifted false true false = refl
shifted false false true = refl
shifted false false false = refl

-- The set has the names of the files, and the paths that are done.
abbrev Knows : List Laid → List Key → Paths → Type 0
Knows files seen done = (q : List ℕ) → any_key q seen ≡ (is_laid files q || is_listed done q)

-- So many paths are taken.
pub record Distinct (files : List Laid) (paths seen : List Key) (done : Paths) (k : ℕ) : Type 0 where
  pub knows : Knows files seen done
  pub left : with_paths files done (map (λ p. p.now) (drop k paths)) ≡ with_paths files [] (map (λ p. p.now) paths)

pub none_distinct : (files : List Laid) (paths seen : List Key) → ((q : List ℕ) → any_key q seen ≡ is_laid files q) → Distinct files paths seen [] 0
none_distinct files paths seen h = record { knows = λ q. h q ∙ sym (or-false (is_laid files q)); left = refl }

module _ (files : List Laid) (paths seen : List Key) (done : Paths) (k : ℕ) (p : Key) (at : p ≡ get_or paths k p) (below : k < length paths) (now : Distinct files paths seen done k) where
  abbrev rest : Paths
  rest = map (λ p. p.now) (drop (k + 1) paths)

  next : (b : Bool) → any_key p.now seen ≡ b → with_paths files (cond b done (done ++ p.now ∷ [])) rest ≡ with_paths files [] (map (λ p. p.now) paths)
  next b h =
      ap (λ c. with_paths files (cond c done (done ++ p.now ∷ [])) rest) (sym h ∙ now.knows p.now)
      ∙ sym (ap (λ (ps : List Key). with_paths files done (map (λ p. p.now) ps)) (cut paths k p at below))
      ∙ now.left

  module _ (key : Key) (is : key.now ≡ p.now) (fresh : Bool) (tried : fresh ≡ not (any_key key.now seen)) where
    key_is : any_key p.now seen ≡ any_key key.now seen
    key_is = ap (λ q. any_key q seen) (sym is)

    pub known_path : (more : List Key) (later : Paths) → fresh ≡ false → more ≡ seen → later ≡ done → Distinct files paths more later (k + 1)
    known_path more later h same kept = record {
      knows = λ q. ap (any_key q) same ∙ now.knows q ∙ ap (λ d. is_laid files q || is_listed d q) (sym kept);
      left = ap (λ d. with_paths files d rest) kept ∙ next true (key_is ∙ not-false _ (sym tried ∙ h));
    }

    pub new_path : (more : List Key) (later : Paths) (x : List ℕ) → fresh ≡ true → more ≡ insert_key key_cmp seen key → later ≡ done ++ x ∷ [] → x ≡ p.now
        → Distinct files paths more later (k + 1)
    new_path more later x h added grew copied =
        let longer : later ≡ done ++ p.now ∷ [] = grew ∙ ap (λ y. done ++ y ∷ []) copied in
        record {
          knows = λ q.
              grown q p.now key seen more is added
              ∙ ap (λ b. bytes_eq p.now q || b) (now.knows q)
              ∙ shifted (is_laid files q) (is_listed done q) (bytes_eq p.now q)
              ∙ ap (λ b. is_laid files q || b) (sym (list_any-append (λ y. bytes_eq y q) done (p.now ∷ [])))
              ∙ ap (λ d. is_laid files q || is_listed d q) (sym longer);
          left = ap (λ d. with_paths files d rest) longer ∙ next false (key_is ∙ not-true _ (sym tried ∙ h));
        }

pub all_taken : (files : List Laid) (paths seen : List Key) (done : Paths) (k : ℕ) → Distinct files paths seen done k → length paths ≤ k → done ≡ with_paths files [] (map (λ p. p.now) paths)
all_taken files paths seen done k d over = sym (ap (λ (ps : List Key). with_paths files done (map (λ p. p.now) ps)) (drop_all k paths over)) ∙ d.left

-- ---- the paths at names

paths_append : (env : List Bind) (xs ys : List (List ℕ)) → paths_at env (xs ++ ys) ≡ paths_at env xs ++ paths_at env ys
paths_append env [] ys = refl
paths_append env (x ∷ xs) ys =
    let here : Paths = value_paths (lookup env (plain_key x)) in
    ap (λ ps. here ++ ps) (paths_append env xs ys) ∙ sym (append_assoc here (paths_at env xs) (paths_at env ys))

pub both_paths : (env binds : List Bind) (is us : List TInput) (ds vs : List TDecl) (none one two : Paths) → binds ≡ env → us ≡ is → vs ≡ ds → none ≡ []
    → one ≡ none ++ paths_at binds (input_names us) → two ≡ one ++ paths_at binds (decl_names vs) → two ≡ paths_at env (input_names is ++ decl_names ds)
both_paths env binds is us ds vs none one two same inputs privates empty first second =
    second
    ∙ ap (λ ps. ps ++ paths_at binds (decl_names vs)) (first ∙ ap (λ ps. ps ++ paths_at binds (input_names us)) empty)
    ∙ sym (paths_append binds (input_names us) (decl_names vs))
    ∙ ap (λ e. paths_at e (input_names us ++ decl_names vs)) same
    ∙ ap (λ xs. paths_at env (input_names xs ++ decl_names vs)) inputs
    ∙ ap (λ ys. paths_at env (input_names is ++ decl_names ys)) privates
