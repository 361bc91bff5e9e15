-- What is there, is there among more cells.
use Rattle.std.proofs.Common.{◌≡◌, ◌≤◌, ℕ, List, subst, sym, arith}
use Rattle.plan_layout.specs.declared.layout.BodyLayout.{BodyLayout}
use Rattle.plan_layout.specs.declared.layout.StatementLayout.{StatementLayout}
use Rattle.plan_room.specs.Reached.{HasRoom}
use Rattle.plan_room.specs.Room.{HasRuns}

pub runs_later : (m n base at : ℕ) (l : StatementLayout) → at ≡ base → m ≤ n → HasRuns m base l → HasRuns n at l
runs_later m n base at l same less h =
    subst (λ (b : ℕ). HasRuns n b l) (sym same) (record { names = λ some. let b = h.names some in omega (arith, b, less); calls = λ some. let b = h.calls some in omega (arith, b, less); done = omega (arith, h.done, less) })

pub room_later : (m n : ℕ) (outer : List ℕ) (layout : BodyLayout) → m ≤ n → HasRoom m outer layout → HasRoom n outer layout
room_later m n outer layout less h = record { reached = λ first le. h.reached first (omega (arith, le, less)) }
