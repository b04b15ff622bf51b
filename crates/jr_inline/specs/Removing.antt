-- What goes with a local that is inlined (JLS 14.4, 14.11, 14.14.1).
use Rattle.std.specs.Prelude.{ℕ, Bool, true, false, ◌&&◌, if◌then◌else◌, Option, Some, None, nat_eq, nat_le, nat_lt}
use Rattle.jr_tree.specs.declared.label.Label.{Label}
use Rattle.jr_tree.specs.declared.label.Label.TheVariants as is
use Rattle.jr_tree.specs.Rows.{Rows, label, parent, previous}
use Rattle.jr_shapes.specs.Parts.{end_of}
use Rattle.jr_marks.specs.declared.marks.Marks.{Marks}
use Rattle.jr_text.specs.Spans.{own_span, tokens_span}
use Rattle.jr_change.specs.declared.change.RowRange.{RowRange}
use Rattle.jr_inline.specs.declared.local.Local.{Local}
use Rattle.jr_inline.specs.declared.removal.Joined.{Joined}
use Rattle.jr_inline.specs.declared.removal.Removal.{Removal}
use Rattle.jr_inline.specs.Inlinable.{is_group, is_local}

-- ---- declarators

-- the declarators before and behind that of the local in its declaration
abbrev pub declarator_before : Rows → Local → Option ℕ
declarator_before p local = let before = previous p local.declarator in if is_local p before then Some before else None

abbrev pub declarator_behind : Rows → Local → Option ℕ
declarator_behind p local = let behind = end_of p local.declarator in if nat_lt behind (end_of p local.statement) then Some behind else None

-- a row and all below it
abbrev pub rows_at : Rows → ℕ → RowRange
rows_at p n = record { first = n; end = end_of p n }

-- from the end of the declarator before to its own end
abbrev pub last_removal : Marks → Local → ℕ → Removal
last_removal m local before = record {
  span = record { start = (tokens_span m before).end; end = (tokens_span m local.declarator).end };
  rows = rows_at m.rows.now local.declarator;
}

-- from its name to that of the next one
abbrev pub first_removal : Marks → Local → ℕ → Removal
first_removal m local behind = record {
  span = record { start = (tokens_span m local.declarator).start; end = (own_span m behind).start };
  rows = rows_at m.rows.now local.declarator;
}

-- the declaration from its first token to its last
abbrev pub whole_removal : Marks → Local → Removal
whole_removal m local = record { span = tokens_span m local.statement; rows = rows_at m.rows.now local.statement }

abbrev pub removal_by : Marks → Local → Option ℕ → Option ℕ → Removal
removal_by m local (Some before) behind = last_removal m local before
removal_by m local None (Some behind) = first_removal m local behind
removal_by m local None None = whole_removal m local

-- the bytes and the rows that go: of several declarators that of the local alone, with a comma, and else the declaration
abbrev pub removal_of : Marks → Local → Removal
removal_of m local = removal_by m local (declarator_before m.rows.now local) (declarator_behind m.rows.now local)

abbrev pub is_gone : RowRange → ℕ → Bool
is_gone r n = nat_le r.first n && nat_lt n r.end

-- ---- groups of a switch

abbrev pub is_switch_label_by : Label → Bool
is_switch_label_by is.Case = true
is_switch_label_by is.Default = true
is_switch_label_by _ = false

abbrev pub is_switch_label : Rows → ℕ → Bool
is_switch_label p n = is_switch_label_by (label p n)

-- a row right below a group that is its only statement: it stands behind its labels, and ends where it ends
abbrev pub is_only_statement : Rows → ℕ → ℕ → Bool
is_only_statement p group n = is_switch_label p (previous p n) && nat_eq (end_of p n) (end_of p group)

abbrev pub is_emptied : Rows → ℕ → ℕ → Bool
is_emptied p group n = is_group p group && is_only_statement p group n

-- another group of the same switch
abbrev pub is_next_group : Rows → ℕ → ℕ → Bool
is_next_group p group next = is_group p next && nat_eq (parent p next) (parent p group)

abbrev pub joined_at : Rows → ℕ → ℕ → ℕ → Option Joined
joined_at p group next n = if is_emptied p group n && is_next_group p group next then Some (record { first = group; next = next }) else None

-- the groups that become one where these rows go: their statement is the only one of a group, and another group follows
abbrev pub joined_by : Rows → RowRange → Option Joined
joined_by p r = joined_at p (parent p r.first) (end_of p (parent p r.first)) r.first
