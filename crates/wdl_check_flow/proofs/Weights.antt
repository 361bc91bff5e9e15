-- What is typed of the statements of a body weighs no more than they do, where this holds of each of them.
use Rattle.std.proofs.Common.{◌≡◌, ℕ, ◌≤◌, List, [], ◌∷◌, map, arith, refl}
use Rattle.wdl_ast.specs.declared.workflow.Statement.{Statement as Written, out-Statement}
use Rattle.wdl_typed.specs.declared.flow.Statement.{Statement}
use Rattle.wdl_typed.specs.Kept.{sum_of}
use Rattle.wdl_typed.specs.Order.{picked}
use Rattle.wdl_check_flow.specs.declared.numbers.Counts.{Counts}
use Rattle.wdl_check_flow.specs.Numbers.{counted, numbers_after, numbers_of}
use Rattle.wdl_check_flow.proofs.FlowShape.{BodyOf, Fits, Pairs, Relation, body_sum, labelled}

module _ (count : Statement → ℕ) (long : Written → ℕ) where
  abbrev pub Weighs : Relation
  Weighs s number x = count x ≤ long s

  abbrev long_of : ℕ × Written → ℕ
  long_of l = long l.1

  pairs_weigh : (ls : List (ℕ × Written)) (ss : List Statement) → Pairs (Fits Weighs) ls ss → sum_of (map count ss) ≤ sum_of (map long_of ls)
  pairs_weigh [] [] ps = omega arith
  pairs_weigh [] (s ∷ ss) ps = absurd ps
  pairs_weigh (l ∷ ls) [] ps = absurd ps
  pairs_weigh (l ∷ ls) (s ∷ ss) ps = omega (arith, ps.0, pairs_weigh ls ss ps.1)

  labelled_weigh : (c : Counts) (ws : List Written) → sum_of (map long_of (labelled (numbers_after c ws) ws)) ≡ sum_of (map long ws)
  labelled_weigh c [] = refl
  labelled_weigh c (w ∷ ws) = omega (arith, labelled_weigh (counted (out-Statement w) c) ws)

  pub body_weighs : (ws : List Written) (ss : List Statement) → BodyOf Weighs ws ss → sum_of (map count ss) ≤ sum_of (map long ws)
  body_weighs ws ss b =
      omega (
        arith,
        pairs_weigh (picked (labelled (numbers_of ws) ws) b.positions) ss b.pairs,
        body_sum Weighs ws ss b long_of,
        labelled_weigh (record { scatters = 0; conditions = 0 }) ws,
      )
