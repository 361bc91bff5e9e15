-- Steps that are added, and what holds of each step of a plan.
use Rattle.std.specs.Prelude.{◌≡◌, ℕ, ◌+◌, ◌<◌, false, List, [], ◌∷◌, ◌++◌, All, length, map}
use Rattle.wdl_base.specs.declared.place.Segment.{Segment}
use Rattle.wdl_typed.specs.declared.flow.Statement.{Statement}
use Rattle.wdl_typed.specs.Bodies.{Library}
use Rattle.step_net.specs.Views.{Wants}
use Rattle.value_net.specs.Nets.{view_of}
use Rattle.net_laws.specs.Growing as net
use Rattle.net_laws.specs.Growing.{does}
use Rattle.plan_moves.specs.Sheets.{Sheet}
use Rattle.plan_layout.specs.declared.layout.Layout.{Layout}
use Rattle.plan_layout.specs.declared.layout.StatementLayout.{StatementLayout}
use Rattle.plan_layout.specs.Laid.{Stand, behind_one}
use Rattle.plan_growth.specs.declared.instance.Instance.{Instance}
use Rattle.plan_growth.specs.declared.rule.Rule.{Rule}
use Rattle.plan_growth.specs.declared.rule.Rule.TheVariants as rule
use Rattle.plan_growth.specs.Begun.{IsFree, base_at, given_of, scope_at}
use Rattle.plan_growth.specs.Entering.{Sown, cells_of}
use Rattle.plan_growth.specs.Meaning.{Means, rule_cells}

-- a step that is added: its rule, the cells that it needs, and what the rule means
pub record New : Type 0 where
  pub code : Rule
  pub needs : List ℕ
  pub means : net.Rule

abbrev pub new_code : New → Rule
new_code n = n.code

abbrev pub new_means : New → net.Rule
new_means n = n.means

abbrev pub left_wants : List ℕ → Wants
left_wants needs = record { needs = needs; is_taken = false }

abbrev pub new_wants : New → Wants
new_wants n = left_wants n.needs

abbrev pub with_news : Sown → List New → Sown
with_news v ns = view_of v.values (v.rules ++ map new_code ns) (v.steps ++ map new_wants ns)

-- the steps of statements, the first of which has this number in its body
abbrev pub statement_news : Library → ℕ → List ℕ → List Segment → ℕ → List Statement → Stand → List StatementLayout → List New
statement_news lib i bases place k [] a ls = []
statement_news lib i bases place k (x ∷ xs) a [] = []
statement_news lib i bases place k (x ∷ xs) a (l ∷ ls) =
    record {
      code = rule.Statement i k;
      needs = cells_of bases l.needs l.after;
      means = does x (scope_at bases a place) (given_of lib bases a x) (base_at bases a + l.done);
    }
    ∷ statement_news lib i bases place (k + 1) xs (behind_one lib x a) ls

module _ (lib : Library) (layout : Layout) (is : List Instance) (b : Sheet) (owners : List ℕ) where
  -- What a step's rule means, its cells where it was not taken, and that all that it needs are cells.
  pub record Stands (u : ℕ) (r : Rule) (w : Wants) (m : net.Rule) : Type 0 where
    pub means : Means lib layout is (length b.values) r w.needs m
    pub free : w.is_taken ≡ false → All (IsFree b owners u) (rule_cells m)
    pub within : All (λ (c : ℕ). c < length b.values) w.needs

  -- the same of steps that were added, from this one on
  abbrev pub AllStand : ℕ → List New → Type 0
  AllStand u [] = Unit {0}
  AllStand u (n ∷ ns) = Stands u n.code (new_wants n) n.means × AllStand (u + 1) ns
