-- The last part of each row is known, and all rows have the parts that are read.
use Rattle.std.specs.Prelude.{◌≡◌, Bool, true, ◌&&◌, length, nat_eq}
use Rattle.jr_tree.specs.Rows.{Rows}
use Rattle.jr_tree.specs.Tree.{IsTree}
use Rattle.jr_plain.specs.Search.{all_below}
use Rattle.jr_assign.specs.Changes.{Facts}
use Rattle.jr_assign.specs.Assigned.{has_parts, has_last}

abbrev pub are_last : Rows → Facts → Bool
are_last p f = nat_eq (length f) (length p) && all_below (length p) (has_last p f)

abbrev pub have_parts : Rows → Facts → Bool
have_parts p f = all_below (length p) (has_parts p f)

-- both, of rows that are a tree
pub record IsWhole (p : Rows) (f : Facts) : Type 0 where
  pub tree : IsTree p
  pub lasts : are_last p f ≡ true
  pub parts : have_parts p f ≡ true
