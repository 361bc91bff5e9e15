-- JSON whose objects have their members in byte order, as those of a text that was read have.
use Rattle.std.specs.Prelude.{ℕ, Bool, true, ◌&&◌, List}
use Rattle.std.specs.Cmp.Lexicographic.{slice_cmp}
use Rattle.std.specs.Ordering.{is_lt, nat_cmp}
use Rattle.serde_json.specs.Data.{Data, null, boolean, number, string, array, object, Items, no_items, item, Members, no_members, member}

abbrev pub is_before : List ℕ → List ℕ → Bool
is_before k l = is_lt (slice_cmp nat_cmp k l)

-- the name stands before all of these members
abbrev pub is_first : List ℕ → Members → Bool
is_first k no_members = true
is_first k (member l d ms) = is_before k l && is_first k ms

-- the names ascend, each standing once
abbrev mutual
  pub is_ordered : Data → Bool
  is_ordered null = true
  is_ordered (boolean b) = true
  is_ordered (number n) = true
  is_ordered (string s) = true
  is_ordered (array ds) = items_ordered ds
  is_ordered (object ms) = members_ordered ms

  pub items_ordered : Items → Bool
  items_ordered no_items = true
  items_ordered (item d ds) = is_ordered d && items_ordered ds

  pub members_ordered : Members → Bool
  members_ordered no_members = true
  members_ordered (member k d ms) = is_first k ms && is_ordered d && members_ordered ms
