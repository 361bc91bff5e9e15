-- What is kept of the segments of a path.
use Rattle.std.proofs.Common.{◌≡◌, ℕ, Bool, true, false, ◌&&◌, not, suc, ◌<◌, ◌-◌, length, slice_get, arith, Option, Some, None, IsSome, Result, Ok, Err, IfOk, List, [], ◌∷◌, ◌++◌, refl, sym, ap, ◌∙◌, subst, append_assoc, append-nil, codes}
use Rattle.std.proofs.lemmas.Bool.{false≢true, cond-true, cond-false, and_parts, and_from, not-true, or_from, or_parts}
use Rattle.std.proofs.lemmas.Slice.Eq.{bytes_eq-Decides}
use Rattle.std.specs.Option.{option_to_list}
use denote.Ref.{Bor}
use Rattle.wdl_base.specs.Plain.{has_nul}
use Rattle.wdl_paths.specs.Resolve.{is_here, is_up, is_folder, settle, settled, has_slash, segments, folder, file_name, joined, path_from}
use Rattle.wdl_paths.specs.Keeping.{Segments, texts, any_nul, is_settled, ends_folder, Keeps, KeepsFolder, Follows}
use Rattle.wdl_paths.proofs.Slashes.{segments-cut, segments-alone, folder-cut, folder-alone, folder-file_name, has_slash-file_name, has_nul-parts}

pub settled-append : (xs a b : Segments) → settled a ≡ settled b → settled (xs ++ a) ≡ settled (xs ++ b)
settled-append [] a b e = e
settled-append (x ∷ xs) a b e = ap (settle x) (settled-append xs a b e)

any_nul-push : (xs : Segments) (s : List ℕ) → any_nul xs ≡ false → has_nul s ≡ false → any_nul (xs ++ s ∷ []) ≡ false
any_nul-push [] s h k = or_from (has_nul s) false k refl
any_nul-push (x ∷ xs) s h k =
    let p = or_parts (has_nul x) (any_nul xs) h in
    or_from (has_nul x) (any_nul (xs ++ s ∷ [])) p.0 (any_nul-push xs s p.1 k)

any_nul-front : (xs : Segments) (s : List ℕ) → any_nul (xs ++ s ∷ []) ≡ false → any_nul xs ≡ false
any_nul-front [] s h = refl
any_nul-front (x ∷ xs) s h =
    let p = or_parts (has_nul x) (any_nul (xs ++ s ∷ [])) h in
    or_from (has_nul x) (any_nul xs) p.0 (any_nul-front xs s p.1)

-- ---- a segment `.`

pub keeps_here : (xs : Segments) (s : List ℕ) → is_here s ≡ true → Keeps xs s xs
keeps_here xs s h = record {
  same = λ k rest. settled-append xs rest (s ∷ rest) (sym (cond-true (is_here s) _ _ h));
  settles = λ k. k;
  plain = λ k n. k;
}

-- ---- a segment that stays

and_false : (b : Bool) → b && false ≡ false
and_false true = refl
and_false false = refl

swap_and : (a b : Bool) → a && b ≡ false → b && a ≡ false
swap_and true true h = h
swap_and true false h = refl
swap_and false true h = refl
swap_and false false h = refl

is_settled-push : (xs : Segments) (s : List ℕ) → is_settled xs ≡ true → is_here s ≡ false → is_up s && ends_folder xs ≡ false → is_settled (xs ++ s ∷ []) ≡ true
is_settled-push [] s h k n =
    and_from (not (is_here s) && not (is_folder s && false)) true
    (and_from (not (is_here s)) (not (is_folder s && false)) (ap not k) (ap not (and_false (is_folder s)))) refl
is_settled-push (x ∷ []) s h k n =
    let p = and_parts (not (is_here x) && not (is_folder x && false)) true h in
    let q = and_parts (not (is_here x)) (not (is_folder x && false)) p.0 in
    and_from (not (is_here x) && not (is_folder x && is_up s)) (is_settled (s ∷ []))
    (and_from (not (is_here x)) (not (is_folder x && is_up s)) q.0 (ap not (swap_and (is_up s) (is_folder x) n)))
    (is_settled-push [] s refl k (and_false (is_up s)))
is_settled-push (x ∷ y ∷ ys) s h k n =
    let p = and_parts (not (is_here x) && not (is_folder x && is_up y)) (is_settled (y ∷ ys)) h in
    and_from (not (is_here x) && not (is_folder x && is_up y)) (is_settled (y ∷ (ys ++ s ∷ []))) p.0 (is_settled-push (y ∷ ys) s p.1 k n)

pub keeps_more : (xs : Segments) (s : List ℕ) → is_here s ≡ false → is_up s && ends_folder xs ≡ false → Keeps xs s (xs ++ s ∷ [])
keeps_more xs s h n = record {
  same = λ k rest. ap settled (append_assoc xs (s ∷ []) rest);
  settles = λ k. is_settled-push xs s k h n;
  plain = λ k p. any_nul-push xs s k p;
}

-- ---- a segment `..` behind a folder

is_settled-front : (xs : Segments) (s : List ℕ) → is_settled (xs ++ s ∷ []) ≡ true → (is_settled xs ≡ true) × (is_here s ≡ false)
is_settled-front [] s h =
    let p = and_parts (not (is_here s) && not (is_folder s && false)) true h in
    (refl, not-true (is_here s) (and_parts (not (is_here s)) (not (is_folder s && false)) p.0).0)
is_settled-front (x ∷ []) s h =
    let p = and_parts (not (is_here x) && not (is_folder x && is_up s)) (is_settled (s ∷ [])) h in
    let q = and_parts (not (is_here x)) (not (is_folder x && is_up s)) p.0 in (
      and_from (not (is_here x) && not (is_folder x && false)) true (and_from (not (is_here x)) (not (is_folder x && false)) q.0 (ap not (and_false (is_folder x)))) refl,
      (is_settled-front [] s p.1).1,
    )
is_settled-front (x ∷ y ∷ ys) s h =
    let p = and_parts (not (is_here x) && not (is_folder x && is_up y)) (is_settled (y ∷ (ys ++ s ∷ []))) h in
    let q = is_settled-front (y ∷ ys) s p.1 in
    (and_from (not (is_here x) && not (is_folder x && is_up y)) (is_settled (y ∷ ys)) p.0 q.0, q.1)

ends_folder-push : (xs : Segments) (s : List ℕ) → ends_folder (xs ++ s ∷ []) ≡ is_folder s
ends_folder-push [] s = refl
ends_folder-push (x ∷ []) s = refl
ends_folder-push (x ∷ y ∷ ys) s = ends_folder-push (y ∷ ys) s

goes_up : (last : List ℕ) (rest : Segments) → is_here last ≡ false → is_folder last ≡ true → settled (last ∷ codes ".." ∷ rest) ≡ settled rest
goes_up last rest h f =
    cond-false (is_here last) _ _ h ∙ cond-true (is_folder last && true) _ _ (and_from (is_folder last) true f refl)

pub keeps_front : (xs : Segments) (last s : List ℕ) → is_folder last ≡ true → is_up s ≡ true → Keeps (xs ++ last ∷ []) s xs
keeps_front xs last s f u =
    let e : s ≡ codes ".." = (bytes_eq-Decides s (codes "..")).0 u in
    record {
      same = λ k rest.
          let h = (is_settled-front xs last k).1 in
          settled-append xs rest (last ∷ s ∷ rest) (sym (ap (λ x. settled (last ∷ x ∷ rest)) e ∙ goes_up last rest h f))
          ∙ ap settled (sym (append_assoc xs (last ∷ []) (s ∷ rest)));
      settles = λ k. (is_settled-front xs last k).0;
      plain = λ k n. any_nul-front xs last k;
    }

pub pops : (xs : Segments) (last s : List ℕ) → ends_folder (xs ++ last ∷ []) ≡ true → is_up s ≡ true → Keeps (xs ++ last ∷ []) s xs
pops xs last s f u = keeps_front xs last s (sym (ends_folder-push xs last) ∙ f) u

texts-push : (xs : List (Bor (List ℕ))) (x : Bor (List ℕ)) → texts (xs ++ x ∷ []) ≡ texts xs ++ x.now ∷ []
texts-push [] x = refl
texts-push (y ∷ ys) x = ap (λ l. y.now ∷ l) (texts-push ys x)

pub pushes : (xs : List (Bor (List ℕ))) (x : Bor (List ℕ)) → is_here x.now ≡ false → is_up x.now && ends_folder (texts xs) ≡ false
    → Keeps (texts xs) x.now (texts (xs ++ x ∷ []))
pushes xs x h n = subst (Keeps (texts xs) x.now) (sym (texts-push xs x)) (keeps_more (texts xs) x.now h n)

pub pops_last : (old new : List (Bor (List ℕ))) (r : Option (Bor (List ℕ))) (s : List ℕ) → old ≡ new ++ option_to_list r
    → is_up s && ends_folder (texts old) ≡ true → (0 < length old → IsSome r) → Keeps (texts old) s (texts new)
pops_last [] new None s e h n = absurd (false≢true (sym (and_false (is_up s)) ∙ h))
pops_last (x ∷ xs) new None s e h n = absurd (false≢true (n (omega arith)))
pops_last old new (Some x) s e h n =
    let p = and_parts (is_up s) (ends_folder (texts old)) h in
    let k = ap texts e ∙ texts-push new x in
    subst (λ l. Keeps l s (texts new)) (sym k) (pops (texts new) x.now s (ap ends_folder (sym k) ∙ p.1) p.0)

pub ends_at : (xs : List (Bor (List ℕ))) (x : Bor (List ℕ)) → Some x ≡ slice_get xs (length xs - 1) → is_folder x.now ≡ ends_folder (texts xs)
ends_at [] x e = absurd (none_some x (sym e))
  where
    none_some : (x : Bor (List ℕ)) → None ≡ Some x → ⊥
    none_some x e = cc
ends_at (y ∷ []) x e = let k : x ≡ y = cc in ap (λ (b : Bor (List ℕ)). is_folder b.now) k
ends_at (y ∷ z ∷ zs) x e =
    let i : length (y ∷ z ∷ zs) - 1 ≡ suc (length zs) = omega arith in
    let j : length zs ≡ length (z ∷ zs) - 1 = omega arith in
    ends_at (z ∷ zs) x (e ∙ ap (slice_get (y ∷ z ∷ zs)) i ∙ ap (slice_get (z ∷ zs)) j)

-- ---- a text up to its last slash

pub follows_none : (old : List (Bor (List ℕ))) (text : List ℕ) → Follows old text old text
follows_none old text = record { same = λ k more. refl; settles = λ k. k; plain = λ k n. k; left = λ n. n }

pub follows_more : (old : List (Bor (List ℕ))) (text : List ℕ) (kept : List (Bor (List ℕ))) (rest segment more : List ℕ) (new : List (Bor (List ℕ)))
    → Follows old text kept rest → rest ≡ segment ++ (47 ∷ more) → has_slash segment ≡ false → Keeps (texts kept) segment (texts new) → Follows old text new more
follows_more old text kept rest segment more new f e n k = record {
  same = λ h all.
      k.same (f.settles h) (segments (folder more ++ all))
      ∙ ap (λ x. settled (texts kept ++ x)) (sym (
      ap (λ x. segments (folder x ++ all)) e
      ∙ ap (λ x. segments (x ++ all)) (folder-cut segment more)
      ∙ ap segments (append_assoc segment (47 ∷ folder more) all)
      ∙ segments-cut segment (folder more ++ all) n))
      ∙ f.same h all;
  settles = λ h. k.settles (f.settles h);
  plain = λ h p. k.plain (f.plain h p) (has_nul-parts segment (47 ∷ more) (subst (λ x. has_nul x ≡ false) e (f.left p))).0;
  left = λ p. let q = (has_nul-parts segment (47 ∷ more) (subst (λ x. has_nul x ≡ false) e (f.left p))).1 in q;
}

pub follows_all : (old : List (Bor (List ℕ))) (text : List ℕ) (kept : List (Bor (List ℕ))) (rest : List ℕ)
    → Follows old text kept rest → has_slash rest ≡ false → KeepsFolder (texts old) text (texts kept)
follows_all old text kept rest f n = record {
  same = λ h more. ap (λ x. settled (texts kept ++ segments (x ++ more))) (sym (folder-alone rest n)) ∙ f.same h more;
  settles = f.settles;
  plain = f.plain;
}

-- ---- a whole path

settled-itself : (xs : Segments) → is_settled xs ≡ true → settled xs ≡ xs
settled-itself [] h = refl
settled-itself (x ∷ []) h =
    let p = and_parts (not (is_here x) && not (is_folder x && false)) true h in
    let q = and_parts (not (is_here x)) (not (is_folder x && false)) p.0 in
    cond-false (is_here x) _ _ (not-true (is_here x) q.0) ∙ cond-false (is_folder x && false) _ _ (and_false (is_folder x))
settled-itself (x ∷ y ∷ ys) h =
    let p = and_parts (not (is_here x) && not (is_folder x && is_up y)) (is_settled (y ∷ ys)) h in
    let q = and_parts (not (is_here x)) (not (is_folder x && is_up y)) p.0 in
    ap (settle x) (settled-itself (y ∷ ys) p.1)
    ∙ cond-false (is_here x) _ _ (not-true (is_here x) q.0)
    ∙ cond-false (is_folder x && is_up y) _ _ (not-true (is_folder x && is_up y) q.1)

settles_to : (base uri : List ℕ) (k1 k2 k3 : Segments)
    → KeepsFolder [] base k1 → KeepsFolder k1 uri k2 → Keeps k2 (file_name uri) k3 → k3 ≡ settled (segments (folder base ++ uri))
settles_to base uri k1 k2 k3 a b c =
    let s1 = a.settles refl in
    let s2 = b.settles s1 in
    sym (settled-itself k3 (c.settles s2))
    ∙ ap settled (sym (append-nil k3))
    ∙ c.same s2 []
    ∙ ap (λ x. settled (k2 ++ x)) (sym (segments-alone (file_name uri) (has_slash-file_name uri)))
    ∙ b.same s1 (file_name uri)
    ∙ ap (λ x. settled (k1 ++ segments x)) (folder-file_name uri)
    ∙ a.same refl uri

stays_plain : (base uri : List ℕ) (k1 k2 k3 : Segments)
    → KeepsFolder [] base k1 → KeepsFolder k1 uri k2 → Keeps k2 (file_name uri) k3 → has_nul base ≡ false → has_nul uri ≡ false → any_nul k3 ≡ false
stays_plain base uri k1 k2 k3 a b c p q =
    let n : has_nul (folder uri ++ file_name uri) ≡ false = subst (λ x. has_nul x ≡ false) (sym (folder-file_name uri)) q in
    c.plain (b.plain (a.plain refl p) q) (has_nul-parts (folder uri) (file_name uri) n).1

-- what is kept of two paths: none at first, then of the first, of the second up to its last slash, and of what is behind it
pub record KeepsAll (base uri name : List ℕ) (k0 k1 k2 k3 : List (Bor (List ℕ))) : Type 0 where
  pub none : k0 ≡ []
  pub first : KeepsFolder (texts k0) base (texts k1)
  pub second : KeepsFolder (texts k1) uri (texts k2)
  pub named : name ≡ file_name uri
  pub last : Keeps (texts k2) name (texts k3)

pub path_kept : (base uri name : List ℕ) (k0 k1 k2 k3 : List (Bor (List ℕ))) → KeepsAll base uri name k0 k1 k2 k3
    → texts k3 ≡ settled (segments (folder base ++ uri))
path_kept base uri name k0 k1 k2 k3 h =
    settles_to base uri (texts k1) (texts k2) (texts k3) (subst (λ (k : Segments). KeepsFolder k base (texts k1)) (ap texts h.none) h.first) h.second
    (subst (λ (n : List ℕ). Keeps (texts k2) n (texts k3)) h.named h.last)

pub path_plain : (base uri name : List ℕ) (k0 k1 k2 k3 : List (Bor (List ℕ))) → KeepsAll base uri name k0 k1 k2 k3
    → has_nul base ≡ false → has_nul uri ≡ false → any_nul (texts k3) ≡ false
path_plain base uri name k0 k1 k2 k3 h =
    stays_plain base uri (texts k1) (texts k2) (texts k3) (subst (λ (k : Segments). KeepsFolder k base (texts k1)) (ap texts h.none) h.first) h.second
    (subst (λ (n : List ℕ). Keeps (texts k2) n (texts k3)) h.named h.last)

pub path_joined : {E : Type 0} (base uri : List ℕ) (k : List (Bor (List ℕ))) (r : Result (List ℕ) E) → texts k ≡ settled (segments (folder base ++ uri))
    → IfOk r (λ t. t ≡ joined (texts k)) → IfOk r (λ t. t ≡ path_from base uri)
path_joined base uri k (Ok t) e h = h ∙ ap joined e
path_joined base uri k (Err x) e h = h
