use Rattle.std.proofs.Common.{◌<◌, ℕ, length, sym, subst, refl, ◌∙◌, arith}
use Rattle.plan_steps.proofs.Asks.{calls_kept, moved_there, removed_else, removed_then}
use Rattle.plan_steps.proofs.Lists.{read_at}
use Rattle.plan_steps.proofs.asking.Asking.remove.Goals as goal

pub swap_remove-prepared-requires : goal.swap_remove-prepared-requires
swap_remove-prepared-requires c = subst (λ (n : ℕ). c.args.waited < n) (c.requires.sound.pairs ∙ sym c.args.self.now.ready.ok.0) c.requires.within

pub index_mut-requires : goal.index_mut-requires
index_mut-requires c =
    let q = c.args.self.now in
    let less : c.args.waited < length c.swap_remove.new.self.items = omega (arith, c.if-waited-len.true, c.len.ensures, c.swap_remove.new.self.ok.0) in
    subst (λ (n : ℕ). c.index-moved.result.now < n) (sym q.asked.ok.0)
    (moved_there q.ready.items c.swap_remove-prepared.new.self.items q.owners.items c.swap_remove.new.self.items q.asked.items q.marks c.requires.sound c.args.waited c.swap_remove.result c.swap_remove-prepared.result
    c.swap_remove-prepared.ensures.items c.swap_remove.ensures.items c.requires.within c.index-moved.result.now less c.index-moved.ensures)

pub returns-then-waited-len-clause-sound : goal.returns-then-waited-len-clause-sound
returns-then-waited-len-clause-sound c =
    let q = c.args.self.now in
    let less : c.args.waited < length c.swap_remove.new.self.items = omega (arith, c.if-waited-len.true, c.len.ensures, c.swap_remove.new.self.ok.0) in
    removed_then q.ready.items c.swap_remove-prepared.new.self.items q.owners.items c.swap_remove.new.self.items q.asked.items q.marks c.requires.sound c.args.waited c.swap_remove.result c.swap_remove-prepared.result
    c.swap_remove-prepared.ensures.items c.swap_remove.ensures.items c.requires.within c.index-moved.result.now c.index_mut.result.now
    (record { place = c.index_mut.result.now.place; step = c.index_mut.result.now.step; last = c.index_mut.result.now.last; waits_at = c.args.waited }) less c.index-moved.ensures c.index_mut.ensures.value refl refl

pub returns-then-waited-len-clause-taken : goal.returns-then-waited-len-clause-taken
returns-then-waited-len-clause-taken c =
    let q = c.args.self.now in
    read_at q.ready.items c.args.waited c.swap_remove-prepared.result c.swap_remove-prepared.result (subst (λ (n : ℕ). c.args.waited < n) c.requires.sound.pairs c.requires.within) c.swap_remove-prepared.ensures.value

pub returns-then-waited-len-clause-calls : goal.returns-then-waited-len-clause-calls
returns-then-waited-len-clause-calls c =
    let q = c.args.self.now in
    let less : c.args.waited < length c.swap_remove.new.self.items = omega (arith, c.if-waited-len.true, c.len.ensures, c.swap_remove.new.self.ok.0) in
    calls_kept q.asked.items c.index-moved.result.now c.index_mut.result.now
    (record { place = c.index_mut.result.now.place; step = c.index_mut.result.now.step; last = c.index_mut.result.now.last; waits_at = c.args.waited })
    (moved_there q.ready.items c.swap_remove-prepared.new.self.items q.owners.items c.swap_remove.new.self.items q.asked.items q.marks c.requires.sound c.args.waited c.swap_remove.result c.swap_remove-prepared.result
    c.swap_remove-prepared.ensures.items c.swap_remove.ensures.items c.requires.within c.index-moved.result.now less c.index-moved.ensures) c.index_mut.ensures.value refl

pub returns-else-waited-len-clause-sound : goal.returns-else-waited-len-clause-sound
returns-else-waited-len-clause-sound c =
    let q = c.args.self.now in
    removed_else q.ready.items c.swap_remove-prepared.new.self.items q.owners.items c.swap_remove.new.self.items q.asked.items q.marks c.requires.sound c.args.waited c.swap_remove.result c.swap_remove-prepared.result
    c.swap_remove-prepared.ensures.items c.swap_remove.ensures.items c.requires.within (omega (arith, c.if-waited-len.false, c.len.ensures, c.swap_remove.ensures.len, q.owners.ok.0))

pub returns-else-waited-len-clause-taken : goal.returns-else-waited-len-clause-taken
returns-else-waited-len-clause-taken c =
    let q = c.args.self.now in
    read_at q.ready.items c.args.waited c.swap_remove-prepared.result c.swap_remove-prepared.result (subst (λ (n : ℕ). c.args.waited < n) c.requires.sound.pairs c.requires.within) c.swap_remove-prepared.ensures.value
