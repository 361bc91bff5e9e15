-- Steps that are added behind the others.
use Rattle.std.proofs.Common.{◌≡◌, ℕ, zero, suc, ◌+◌, ◌<◌, ◌≤◌, ◌⊎◌, inl, inr, Bool, cond, List, [], ◌∷◌, ◌++◌, map, append_assoc, length, Some, slice_get, arith, sym, ap, ◌∙◌, subst, refl}
use Rattle.std.proofs.lemmas.Bool.{eq-eqb}
use Rattle.std.proofs.lemmas.List.{length-append, map-append}
use Rattle.wdl_typed.specs.Bodies.{Library}
use Rattle.step_net.specs.Views.{Wants}
use Rattle.value_net.specs.Nets.{view_of, with_step}
use Rattle.net_laws.specs.Growing as net
use Rattle.net_laws.specs.Moving.{hit}
use Rattle.plan_moves.specs.Sheets.{Sheet}
use Rattle.plan_layout.specs.declared.layout.Layout.{Layout}
use Rattle.plan_growth.specs.declared.instance.Instance.{Instance}
use Rattle.plan_growth.specs.declared.rule.Rule.{Rule}
use Rattle.plan_growth.specs.Begun.{hits}
use Rattle.plan_growth.specs.Entering.{Sown}
use Rattle.plan_growth.specs.News.{AllStand, New, Stands, new_code, new_means, new_wants, with_news}
use Rattle.plan_growth.proofs.Lists.{get_at, get_left, get_split}
use Rattle.plan_moves.proofs.Kept.{hit_other as miss}

-- ---- one list of steps behind another

behind_mapped : {A : Type 0} (f : New → A) (xs : List A) (ns ms : List New) → (xs ++ map f ns) ++ map f ms ≡ xs ++ map f (ns ++ ms)
behind_mapped f xs ns ms = append_assoc xs (map f ns) (map f ms) ∙ ap (λ ys. xs ++ ys) (sym (map-append f ns ms))

pub lists_both : {A : Type 0} (f : New → A) (xs now then : List A) (ns ms : List New) → then ≡ xs ++ map f ns → now ≡ then ++ map f ms → now ≡ xs ++ map f (ns ++ ms)
lists_both f xs now then ns ms e h = h ∙ ap (λ ys. ys ++ map f ms) e ∙ behind_mapped f xs ns ms

pub rules_both : (rs : List net.Rule) (ns ms : List New) → (rs ++ map new_means ns) ++ map new_means ms ≡ rs ++ map new_means (ns ++ ms)
rules_both rs ns ms = behind_mapped new_means rs ns ms

pub news_both : (v : Sown) (ns ms : List New) → with_news (with_news v ns) ms ≡ with_news v (ns ++ ms)
news_both v ns ms =
    ap (λ (rs : List Rule). view_of v.values rs ((v.steps ++ map new_wants ns) ++ map new_wants ms)) (behind_mapped new_code v.rules ns ms)
    ∙ ap (λ (ws : List Wants). view_of v.values (v.rules ++ map new_code (ns ++ ms)) ws) (behind_mapped new_wants v.steps ns ms)

-- a step behind those that were added
pub news_last : (v : Sown) (ns : List New) (n : New) → with_step (with_news v ns) n.code n.needs ≡ with_news v (ns ++ n ∷ [])
news_last v ns n = news_both v ns (n ∷ [])

-- ---- the steps that a number makes

abbrev pub news_by : (ℕ → New) → ℕ → List New
news_by f zero = []
news_by f (suc n) = news_by f n ++ f n ∷ []

pub news_by_length : (f : ℕ → New) (n : ℕ) → length (news_by f n) ≡ n
news_by_length f zero = refl
news_by_length f (suc n) =
    let a = length-append (news_by f n) (f n ∷ []) in
    let e = news_by_length f n in
    omega (arith, a, e)

pub last : (i m : ℕ) → i < suc m → (i < m) ⊎ (i ≡ m)
last zero zero h = inr refl
last zero (suc m) h = inl (omega arith)
last (suc i) zero h = absurd (omega (arith, h))
last (suc i) (suc m) h = on (last i m (omega (arith, h)))
  where
    on : (i < m) ⊎ (i ≡ m) → (suc i < suc m) ⊎ (suc i ≡ suc m)
    on (inl l) = inl (omega (arith, l))
    on (inr e) = inr (omega (arith, e))

pub news_by_get : (f : ℕ → New) (n j : ℕ) → j < n → slice_get (news_by f n) j ≡ Some (f j)
news_by_get f zero j lt = absurd (omega (arith, lt))
news_by_get f (suc n) j lt = by_case (last j n lt) (news_by_get f n j)
  where
    by_case : (j < n) ⊎ (j ≡ n) → (j < n → slice_get (news_by f n) j ≡ Some (f j)) → slice_get (news_by f n ++ f n ∷ []) j ≡ Some (f j)
    by_case (inl l) rest = get_left (news_by f n) (f n ∷ []) j (f j) (rest l)
    by_case (inr e) rest =
        let size = news_by_length f n in
        get_at (news_by f n) (f n ∷ []) 0 j (omega (arith, size, e)) ∙ ap (λ (i : ℕ). Some (f i)) (sym e)

-- each is made of a number
pub news_by_of : (f : ℕ → New) (n j : ℕ) (x : New) → slice_get (news_by f n) j ≡ Some x → (i : ℕ) × (x ≡ f i)
news_by_of f zero j x h = absurd (let e : ⊥ = cc in e)
news_by_of f (suc n) j x h = by_case (get_split (news_by f n) (f n ∷ []) j x h) (news_by_of f n j x)
  where
    by_case : (slice_get (news_by f n) j ≡ Some x) ⊎ ((i : ℕ) × (j ≡ length (news_by f n) + i) × (slice_get (f n ∷ []) i ≡ Some x)) → (slice_get (news_by f n) j ≡ Some x → (i : ℕ) × (x ≡ f i)) → (i : ℕ) × (x ≡ f i)
    by_case (inl e) rest = rest e
    by_case (inr (zero, e, is)) rest = (n, let same : x ≡ f n = cc in same)
    by_case (inr (suc i, e, is)) rest = absurd (let z : ⊥ = cc in z)

-- ---- where an added step is to be found

mapped_get : {A : Type 0} (f : New → A) (ns : List New) (j : ℕ) (n : New) → slice_get ns j ≡ Some n → slice_get (map f ns) j ≡ Some (f n)
mapped_get f [] j n h = absurd (let e : ⊥ = cc in e)
mapped_get f (m ∷ ms) zero n h = let same : m ≡ n = cc in ap (λ (x : New). Some (f x)) same
mapped_get f (m ∷ ms) (suc j) n h = mapped_get f ms j n h

pub rule_at : (rs : List net.Rule) (ns : List New) (j u : ℕ) (n : New) → u ≡ length rs + j → slice_get ns j ≡ Some n → slice_get (rs ++ map new_means ns) u ≡ Some n.means
rule_at rs ns j u n e h = get_at rs (map new_means ns) j u e ∙ mapped_get new_means ns j n h

pub code_at : (rs : List Rule) (ns : List New) (j u : ℕ) (n : New) → u ≡ length rs + j → slice_get ns j ≡ Some n → slice_get (rs ++ map new_code ns) u ≡ Some n.code
code_at rs ns j u n e h = get_at rs (map new_code ns) j u e ∙ mapped_get new_code ns j n h

pub step_at : (ws : List Wants) (ns : List New) (j u : ℕ) (n : New) → u ≡ length ws + j → slice_get ns j ≡ Some n → slice_get (ws ++ map new_wants ns) u ≡ Some (new_wants n)
step_at ws ns j u n e h = get_at ws (map new_wants ns) j u e ∙ mapped_get new_wants ns j n h

-- ---- what holds of each

module _ (lib : Library) (layout : Layout) (is : List Instance) (b : Sheet) (owners : List ℕ) where
  abbrev AllHere : ℕ → List New → Type 0
  AllHere = AllStand lib layout is b owners

  pub stand_both : (u w : ℕ) (ns ms : List New) → w ≡ u + length ns → AllHere u ns → AllHere w ms → AllHere u (ns ++ ms)
  stand_both u w [] ms e h j = let same : w ≡ u = omega (arith, e) in subst (λ (x : ℕ). AllHere x ms) same j
  stand_both u w (n ∷ ns) ms e h j = (h.0, stand_both (u + 1) w ns ms (omega (arith, e)) h.1 j)

  pub stand_by : (f : ℕ → New) (u n : ℕ) → ((j : ℕ) → j < n → Stands lib layout is b owners (u + j) (f j).code (new_wants (f j)) (f j).means) → AllHere u (news_by f n)
  stand_by f u zero h = tt
  stand_by f u (suc n) h =
      let size = news_by_length f n in
      stand_both u (u + n) (news_by f n) (f n ∷ []) (omega (arith, size)) (stand_by f u n (λ j lt. h j (omega (arith, lt)))) (h n (omega arith), tt)

  pub stand_get : (u : ℕ) (ns : List New) → AllHere u ns → (j : ℕ) (n : New) → slice_get ns j ≡ Some n → Stands lib layout is b owners (u + j) n.code (new_wants n) n.means
  stand_get u [] h j n e = absurd (let f : ⊥ = cc in f)
  stand_get u (m ∷ ms) h zero n e =
      let same : m ≡ n = cc in
      let first : u ≡ u + 0 = omega arith in
      subst (λ (x : New). Stands lib layout is b owners (u + 0) x.code (new_wants x) x.means) same (subst (λ (w : ℕ). Stands lib layout is b owners w m.code (new_wants m) m.means) first h.0)
  stand_get u (m ∷ ms) h (suc j) n e =
      let next : u + 1 + j ≡ u + suc j = omega arith in
      subst (λ (w : ℕ). Stands lib layout is b owners w n.code (new_wants n) n.means) next (stand_get (u + 1) ms h.1 j n e)

-- ---- leaves

pub hits_length : {A B : Type 0} (v k t : ℕ) (xs : List A) (ys : List B) → length xs ≡ length ys → hits v k t xs ≡ hits v k t ys
hits_length v k t [] [] e = refl
hits_length v k t [] (y ∷ ys) e = absurd (omega (arith, e))
hits_length v k t (x ∷ xs) [] e = absurd (omega (arith, e))
hits_length v k t (x ∷ xs) (y ∷ ys) e = ap (λ (n : ℕ). hit v k t + n) (hits_length v k (t + 1) xs ys (omega (arith, e)))

pub hits_both : {A : Type 0} (v k t u : ℕ) (xs ys : List A) → u ≡ t + length xs → hits v k t (xs ++ ys) ≡ hits v k t xs + hits v k u ys
hits_both v k t u [] ys e = let same : t ≡ u = omega (arith, e) in ap (λ (n : ℕ). hits v k n ys) same ∙ omega arith
hits_both v k t u (x ∷ xs) ys e = let rest = hits_both v k (t + 1) u xs ys (omega (arith, e)) in omega (arith, rest)

-- Steps before these and behind them have none.
pub hits_before : {A : Type 0} (v k t : ℕ) (xs : List A) → v < t → hits v k t xs ≡ 0
hits_before v k t [] lt = refl
hits_before v k t (x ∷ xs) lt =
    let own = miss v k t (λ e. omega (arith, e, lt)) in
    let rest = hits_before v k (t + 1) xs (omega (arith, lt)) in
    omega (arith, own, rest)

pub hits_behind : {A : Type 0} (v k t : ℕ) (xs : List A) → t + length xs ≤ v → hits v k t xs ≡ 0
hits_behind v k t [] le = refl
hits_behind v k t (x ∷ xs) le =
    let own = miss v k t (λ e. omega (arith, e, le)) in
    let rest = hits_behind v k (t + 1) xs (omega (arith, le)) in
    omega (arith, own, rest)

pub apart : (m n : ℕ) → (m ≡ n) ⊎ (m ≡ n → ⊥)
apart zero zero = inl refl
apart zero (suc n) = inr (λ e. omega (arith, e))
apart (suc m) zero = inr (λ e. omega (arith, e))
apart (suc m) (suc n) = on (apart m n)
  where
    on : (m ≡ n) ⊎ (m ≡ n → ⊥) → (suc m ≡ suc n) ⊎ (suc m ≡ suc n → ⊥)
    on (inl e) = inl (omega (arith, e))
    on (inr f) = inr (λ e. f (omega (arith, e)))

later : (m n : ℕ) → n ≤ m → (m ≡ n → ⊥) → n + 1 ≤ m
later zero zero l g = absurd (g refl)
later zero (suc n) l g = absurd (omega (arith, l))
later (suc m) zero l g = omega arith
later (suc m) (suc n) l g = let h = later m n (omega (arith, l)) (λ e. g (omega (arith, e))) in omega (arith, h)

pub hits_one : {A : Type 0} (v k t : ℕ) (xs : List A) → t ≤ v → v < t + length xs → hits v k t xs ≡ k
hits_one v k t [] le lt = absurd (omega (arith, le, lt))
hits_one v k t (x ∷ xs) le lt = by_case (apart v t) (λ more. hits_one v k (t + 1) xs more (omega (arith, lt)))
  where
    by_case : (v ≡ t) ⊎ (v ≡ t → ⊥) → (t + 1 ≤ v → hits v k (t + 1) xs ≡ k) → hit v k t + hits v k (t + 1) xs ≡ k
    by_case (inl e) on =
        let own : hit v k t ≡ k = ap (λ (b : Bool). cond b k 0) (eq-eqb t v (sym e)) in
        let rest = hits_before v k (t + 1) xs (omega (arith, e)) in
        omega (arith, own, rest)
    by_case (inr f) on =
        let own = miss v k t f in
        let rest = on (later v t le f) in
        omega (arith, own, rest)
