-- What the spellings say of rows: which spelling each has, what is cast, and which are written with the row over them.
use Rattle.std.specs.Prelude.{ℕ, ◌+◌, Bool, true, false, List, [], ◌∷◌, length, Option, Some, None, slice_set, slice_index_or, replicate, if◌then◌else◌, nat_lt}
use Rattle.jr_tree.specs.Rows.{Rows}
use Rattle.jr_defs.specs.Referents.{Table}
use Rattle.jr_shapes.specs.declared.spelling.Shape.{Shape}
use Rattle.jr_shapes.specs.declared.spelling.Shape.TheVariants as shape
use Rattle.jr_shapes.specs.declared.spelling.Spelling.{Spelling}
use Rattle.jr_shapes.specs.declared.spelling.TypeName.{TypeName}
use Rattle.jr_shapes.specs.Parts.{parts, receiver_of}
use Rattle.jr_shapes.specs.Arguments.{first_argument, argument_after}
use Rattle.jr_runs.specs.declared.marking.Marking.{Marking}
use Rattle.jr_runs.specs.declared.item.Front.{Front}
use Rattle.jr_runs.specs.declared.item.Front.TheVariants as front

pub record Marks : Type 0 where
  -- the number of the spelling of each row
  pub chosen : List (Option ℕ)
  pub fronts : List Front
  pub dropped : List Bool

abbrev pub seen : Marking → Marks
seen m = record { chosen = m.chosen.items; fronts = m.fronts.items; dropped = m.dropped.items }

abbrev pub chosen_at : Marks → ℕ → Option ℕ
chosen_at m n = slice_index_or m.chosen n None

abbrev pub front_at : Marks → ℕ → Front
front_at m n = slice_index_or m.fronts n front.Nothing

abbrev pub is_dropped : Marks → ℕ → Bool
is_dropped m n = slice_index_or m.dropped n false

-- nothing is said of so many rows
abbrev pub no_marks : ℕ → Marks
no_marks count = record { chosen = replicate count None; fronts = replicate count front.Nothing; dropped = replicate count false }

abbrev pub with_dropped : List ℕ → List Bool → List Bool
with_dropped [] dropped = dropped
with_dropped (n ∷ rest) dropped = with_dropped rest (slice_set dropped n true)

abbrev pub with_receiver_at : Shape → ℕ → Option ℕ → List Front → List Front
with_receiver_at (shape.Cast suffix) i (Some e) fronts = slice_set fronts e (front.Receiver suffix i)
with_receiver_at _ i e fronts = fronts

-- the casts of arguments, from one on
abbrev pub with_casts : Rows → ℕ → Option ℕ → List TypeName → List Front → List Front
with_casts p n next [] fronts = fronts
with_casts p n None (ty ∷ rest) fronts = fronts
with_casts p n (Some a) (ty ∷ rest) fronts = with_casts p n (argument_after p n a) rest (slice_set fronts a (front.Argument ty))

-- a spelling is that of its row; the qualifiers behind the row are written with it; it casts the receiver, and the arguments
abbrev pub marked : Rows → Table → ℕ → Spelling → Marks → Marks
marked p t i s m = if nat_lt s.row (length p)
    then (record {
      chosen = slice_set m.chosen s.row (Some i);
      fronts = with_casts p s.row (first_argument p s.row) s.casts.items (with_receiver_at s.shape i (receiver_of p t s.row) m.fronts);
      dropped = with_dropped (parts p t s.row) m.dropped;
    })
    else m

abbrev pub marks_from : Rows → Table → ℕ → List Spelling → Marks → Marks
marks_from p t i [] m = m
marks_from p t i (s ∷ rest) m = marks_from p t (i + 1) rest (marked p t i s m)

abbrev pub marks : Rows → Table → List Spelling → Marks
marks p t c = marks_from p t 0 c (no_marks (length p))
