-- The binding of a program, from its rows alone.
use Rattle.std.specs.Prelude.{if◌then◌else◌, Option, Some, None}
use Rattle.jr_tree.specs.Rows.{Rows}
use Rattle.jr_defs.specs.Referents.{Table, entries}
use Rattle.jr_headers.specs.Growing.{header_table, has_settled_headers}
use Rattle.jr_binding.specs.Bound.{bound}

-- what is computed from the table of headers
abbrev pub the_binding : Rows → Table
the_binding p = bound p (entries (header_table p))

-- the binding, where headers are settled
abbrev pub binding_of : Rows → Option Table
binding_of p = if has_settled_headers p then Some (the_binding p) else None
