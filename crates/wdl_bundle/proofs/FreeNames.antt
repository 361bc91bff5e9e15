-- The least number that makes a name free, one number after the other.
use Rattle.std.proofs.Common.{◌≡◌, ℕ, suc, ◌+◌, ◌-◌, ◌<◌, ◌≤◌, true, false, List, length, cond, ap, ◌∙◌, arith}
use Rattle.wdl_typed.specs.Lists.{has_name}
use Rattle.wdl_bundle.specs.TaskNames.{Name, free_from, numbered, task_name}

one_more : (count n : ℕ) → n < count → count - n ≡ suc (count - (n + 1))
one_more count n h = omega arith

step : (taken : List Name) (doc number n : ℕ) → n < length taken
    → free_from (length taken - n) taken doc number n
    ≡ cond (has_name (numbered doc number n) taken) (free_from (length taken - (n + 1)) taken doc number (n + 1)) (numbered doc number n)
step taken doc number n h = ap (λ (k : ℕ). free_from k taken doc number n) (one_more (length taken) n h)

pub goes_on : (taken : List Name) (doc number n : ℕ) → n < length taken → has_name (numbered doc number n) taken ≡ true
    → free_from (length taken - n) taken doc number n ≡ free_from (length taken - (n + 1)) taken doc number (n + 1)
goes_on taken doc number n h e =
    step taken doc number n h ∙ ap (λ b. cond b (free_from (length taken - (n + 1)) taken doc number (n + 1)) (numbered doc number n)) e

pub ends_here : (taken : List Name) (doc number n : ℕ) → n < length taken → has_name (numbered doc number n) taken ≡ false
    → free_from (length taken - n) taken doc number n ≡ numbered doc number n
ends_here taken doc number n h e =
    step taken doc number n h ∙ ap (λ b. cond b (free_from (length taken - (n + 1)) taken doc number (n + 1)) (numbered doc number n)) e

none : (count n : ℕ) → count ≤ n → count - n ≡ 0
none count n h = omega arith

pub runs_out : (taken : List Name) (doc number n : ℕ) → length taken ≤ n → free_from (length taken - n) taken doc number n ≡ task_name doc number
runs_out taken doc number n h = ap (λ (k : ℕ). free_from k taken doc number n) (none (length taken) n h)
