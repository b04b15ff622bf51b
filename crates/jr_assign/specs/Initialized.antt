-- A local whose declarator has an initializer is assigned wherever it is in scope, but in the later groups of a switch (JLS 6.3, 14.4, 16.2.4, 16.2.9, 16.2.12).
use Rattle.std.specs.Prelude.{ℕ, ◌+◌, Bool, true, false, not, ◌&&◌, if◌then◌else◌, length, Option, Some, None, is_none, nat_eq, nat_lt, slice_set}
use Rattle.jr_tree.specs.declared.label.Label.{Label}
use Rattle.jr_tree.specs.declared.label.Label.TheVariants as is
use Rattle.jr_tree.specs.Rows.{Rows, label, parent, end, previous}
use Rattle.jr_plain.specs.Search.{all_below}
use Rattle.jr_assign.specs.declared.scope.Reads.{Reads}
use Rattle.jr_assign.specs.Changes.{Facts, fact, member_in}
use Rattle.jr_assign.specs.Assigned.{first, is_row}
use Rattle.jr_assign.specs.Judged.{Verdicts}

-- ---- siblings

-- before a row stands the sibling that ends there, or its parent
abbrev pub is_linked : Rows → ℕ → Bool
is_linked p n = if nat_lt (parent p n) (previous p n) then nat_eq (end p (previous p n)) n && nat_eq (parent p (previous p n)) (parent p n) else not (nat_lt (parent p n + 1) n)

abbrev pub are_linked : Rows → Bool
are_linked p = all_below (length p) (is_linked p)

-- ---- a local v, its declaration, and what that stands right in

abbrev pub is_local : Label → Bool
is_local (is.Local is_final dims) = true
is_local _ = false

-- the declarator assigns it
abbrev pub is_initialized : Rows → Facts → ℕ → Bool
is_initialized p f v = is_local (label p v) && (is_none (fact f v).truth && is_row (fact f v).assigned v)

abbrev pub declares : Label → Bool
declares is.Locals = true
declares is.ForLocals = true
declares _ = false

abbrev pub is_declaration : Rows → Facts → ℕ → Bool
is_declaration p f d = declares (label p d) && is_none (fact f d).truth

-- a block, a group of a switch, or a `for` whose header begins with the declaration d
abbrev pub holds_in : Label → ℕ → ℕ → Bool
holds_in is.Block b d = true
holds_in is.Group b d = true
holds_in (is.For has_first has_condition) b d = has_first && nat_eq d (first b)
holds_in _ b d = false

abbrev pub block : Rows → ℕ → ℕ
block p v = parent p (parent p v)

-- it is the scope of such a local
abbrev pub has_scope : Rows → Facts → ℕ → Bool
has_scope p f v = is_initialized p f v && (is_declaration p f (parent p v) && (holds_in (label p (block p v)) (block p v) (parent p v) && (nat_lt (parent p v) v && nat_lt (block p v) (parent p v))))

-- the row n stands in it, behind the declarator
abbrev pub is_in_scope : Rows → ℕ → ℕ → Bool
is_in_scope p v n = not (nat_lt n (end p v)) && nat_lt n (end p (block p v))

-- all of the scope stands in the member at the root
abbrev pub is_in_member : Rows → ℕ → ℕ → Bool
is_in_member p root v = nat_lt root (parent p v) && not (nat_lt (end p root) (end p (block p v)))

abbrev pub is_assigned : Rows → Facts → ℕ → ℕ → ℕ → Bool
is_assigned p f root v n = has_scope p f v && (is_in_scope p v n && is_in_member p root v)

-- ---- in code

abbrev pub is_sure : Reads → ℕ → ℕ → Bool
is_sure c v n = c.are_linked && is_assigned c.rows.now c.facts.now (member_in c.members.now n) v n

abbrev pub noted_by : Reads → Option ℕ → ℕ → Verdicts → Verdicts
noted_by c None n all = all
noted_by c (Some v) n all = if is_sure c v n then slice_set all n (Some true) else all

abbrev pub noted_at : Reads → ℕ → Verdicts → Verdicts
noted_at c n all = noted_by c (fact c.facts.now n).read n all
