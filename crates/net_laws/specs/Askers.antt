-- The calls of what grows that were asked, or whose arguments failed: their steps and places.
use Rattle.std.specs.Prelude.{ℕ, List, [], ◌∷◌, ◌++◌}
use Rattle.wdl_base.specs.declared.place.Segment.{Segment}
use Rattle.wdl_base.specs.declared.place.Segment.TheVariants as segment
use Rattle.wdl_value.specs.Tables.{Row}
use Rattle.wdl_typed.specs.Bodies.{Library}
use Rattle.net_laws.specs.Growing.{Form, Growing, Rule, State, absent_input, default_input, each_scatter, failed_if, failed_scatter, false_if, flow_whole, given_input, item_next, left_call, left_decl, left_if, left_scatter, next, no_input, no_item, no_output, none_left, output_next, run_call, told_call, told_decl, true_if}

pub record Asker : Type 0 where
  pub step : ℕ
  pub place : List Segment

module _ (lib : Library) (site : List ℕ) (table : List Row) (desc : ℕ → Rule → Type 0) (st : State) where
  abbrev pub askers : {depth : ℕ} {f : Form} → Growing lib site table desc st depth f → List Asker
  askers (none_left depth s) = []
  askers (next depth x xs s g h d ds p q) = askers p ++ askers q
  askers (left_decl depth x s c t left n k) = []
  askers (left_call depth x s g d t left n is ends k) = []
  askers (left_scatter depth x s g d t left n outside k) = []
  askers (left_if depth x s g d t left n outside k) = []
  askers (told_decl depth x s c t w taken n set own follows) = []
  askers (told_call depth x s g d t w taken n set is ends own plain follows) = record { step = t; place = s.place ++ segment.Call x.name ∷ [] } ∷ []
  askers (run_call depth x s g h d t ds taken n set k is f found args met names ends distinct p copied ended) = askers p
  askers (failed_scatter depth x s g d t c taken n set e outside k) = []
  askers (each_scatter depth x s g d t y qs taken n set e outside p names calls ended) = askers p
  askers (failed_if depth x s g d t c taken n set e outside k) = []
  askers (false_if depth x s g d t y taken n set e off outside own same done) = []
  askers (true_if depth x s g h d t ds y taken n set e on outside p names calls ended) = askers p
  askers (no_item depth xs s k item i) = []
  askers (item_next depth xs s k item i cell y ys g ds qs is p q) = askers p ++ askers q
  askers (no_input depth given s) = []
  askers (given_input depth given i is s h c y e found p) = askers p
  askers (absent_input depth given i is s h c e lacking found p) = askers p
  askers (default_input depth given i is s h c e lacking some d p) = askers p
  askers (no_output depth s) = []
  askers (output_next depth x xs s h c d p) = askers p
  askers (flow_whole depth f given place i b o ds p q r) = askers p ++ askers q ++ askers r
