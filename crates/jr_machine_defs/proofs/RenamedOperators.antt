-- Strings and operators under a renaming.
use Rattle.std.proofs.Common.{◌≡◌, refl, ap, ◌∙◌, List, map, Option, Some, None}
use Rattle.std.specs.Option.{option_map, option_and_then}
use Rattle.std.specs.Prelude.{slice_get}
use Rattle.std.proofs.lemmas.Option.{slice_get-map}
use Rattle.jr_base.specs.declared.ids.DeclId.{DeclId}
use Rattle.jr_core.specs.declared.operators.BinaryOp.{BinaryOp}
use Rattle.jr_core.specs.declared.operators.BinaryOp.TheVariants as op
use Rattle.jr_machine_defs.specs.declared.value.Value.{Value}
use Rattle.jr_machine_defs.specs.declared.value.Value.TheVariants as v
use Rattle.jr_machine_defs.specs.declared.heap.Cell.{Cell}
use Rattle.jr_machine_defs.specs.declared.heap.Cell.TheVariants as cell
use Rattle.jr_machine_defs.specs.declared.number.Number.{Number}
use Rattle.jr_machine_defs.specs.Strings.{cell_units, units_of, shown, joined}
use Rattle.jr_machine_defs.specs.Operators.{number_of, on_references, on_others, on_any, binary, cast_back, compound}
use Rattle.jr_machine_defs.specs.Renamed.{renamed_cell}

module _ (f : DeclId → DeclId) where
  cell_units_renamed : (any : Option Cell) → option_and_then cell_units (option_map (renamed_cell f) any) ≡ option_and_then cell_units any
  cell_units_renamed None = refl
  cell_units_renamed (Some (cell.Object class outer fields)) = refl
  cell_units_renamed (Some (cell.Array item items)) = refl
  cell_units_renamed (Some (cell.Text units)) = refl

  pub units_of_renamed : (heap : List Cell) (value : Value) → units_of (map (renamed_cell f) heap) value ≡ units_of heap value
  units_of_renamed heap (v.Ref at) = ap (option_and_then cell_units) (slice_get-map (renamed_cell f) heap at) ∙ cell_units_renamed (slice_get heap at)
  units_of_renamed heap value = refl

  pub shown_renamed : (heap : List Cell) (value : Value) → shown (map (renamed_cell f) heap) value ≡ shown heap value
  shown_renamed heap (v.Ref at) = units_of_renamed heap (v.Ref at)
  shown_renamed heap value = refl

  on_references_renamed : (heap : List Cell) (o : BinaryOp) (a b : Value) → on_references (map (renamed_cell f) heap) o a b ≡ on_references heap o a b
  on_references_renamed heap op.Add a b = ap (λ x. joined x (shown (map (renamed_cell f) heap) b)) (shown_renamed heap a) ∙ ap (joined (shown heap a)) (shown_renamed heap b)
  on_references_renamed heap o a b = refl

  on_others_renamed : (heap : List Cell) (o : BinaryOp) (a b : Value) → on_others (map (renamed_cell f) heap) o a b ≡ on_others heap o a b
  on_others_renamed heap o (v.Bool a) (v.Bool b) = refl
  on_others_renamed heap o a b = on_references_renamed heap o a b

  on_any_renamed : (heap : List Cell) (o : BinaryOp) (x y : Option Number) (a b : Value) → on_any (map (renamed_cell f) heap) o x y a b ≡ on_any heap o x y a b
  on_any_renamed heap o (Some x) (Some y) a b = refl
  on_any_renamed heap o None y a b = on_others_renamed heap o a b
  on_any_renamed heap o (Some x) None a b = on_others_renamed heap o a b

  pub binary_renamed : (heap : List Cell) (o : BinaryOp) (a b : Value) → binary (map (renamed_cell f) heap) o a b ≡ binary heap o a b
  binary_renamed heap o a b = on_any_renamed heap o (number_of a) (number_of b) a b

  pub compound_renamed : (heap : List Cell) (o : BinaryOp) (old value : Value) → compound (map (renamed_cell f) heap) o old value ≡ compound heap o old value
  compound_renamed heap o old value = ap (cast_back old) (binary_renamed heap o old value)
