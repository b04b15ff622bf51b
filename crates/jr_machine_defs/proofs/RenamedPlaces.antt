-- Fields and components of arrays under a renaming.
use Rattle.std.proofs.Common.{◌≡◌, refl, sym, ap, ◌∙◌, ℕ, List, map, length, Option, Some, None}
use Rattle.std.specs.Option.{option_map}
use Rattle.std.specs.Prelude.{slice_get, unwrap_or, ℤ}
use Rattle.std.proofs.lemmas.List.{map-set}
use Rattle.std.proofs.lemmas.Option.{slice_get-map}
use Rattle.jr_base.specs.declared.ids.DeclId.{DeclId}
use Rattle.jr_base.specs.Mirror as t
use Rattle.jr_core.specs.Mirror as m
use Rattle.jr_core.specs.Mirror.{Code, Core, Body}
use Rattle.jr_machine_defs.specs.declared.value.Value.{Value}
use Rattle.jr_machine_defs.specs.declared.value.Value.TheVariants as v
use Rattle.jr_machine_defs.specs.declared.slots.Slot.{Slot}
use Rattle.jr_machine_defs.specs.declared.heap.Cell.{Cell}
use Rattle.jr_machine_defs.specs.declared.heap.Cell.TheVariants as cell
use Rattle.jr_machine_defs.specs.declared.outcome.Fault.TheVariants as fault
use Rattle.jr_machine_defs.specs.declared.outcome.Outcome.TheVariants as o
use Rattle.jr_machine_defs.specs.declared.outcome.Placed.{Placed}
use Rattle.jr_machine_defs.specs.declared.outcome.Placed.TheVariants as pl
use Rattle.jr_machine_defs.specs.declared.state.State.{State}
use Rattle.jr_machine_defs.specs.Values.{value_of, default_of}
use Rattle.jr_machine_defs.specs.Classes.{body_in}
use Rattle.jr_machine_defs.specs.Places.{static_value, field_of_cell, field_of, with_field_set, stored, set_field, place_in, item_of_cell, item_of, fits_item, fitting, place_of, item_place, with_item_set, placed, set_item, without_receiver, set_static, store_field, store, value_read, read_field, read_item, read_old_field, read_old_item, read_old, length_of_cell, length_of}
use Rattle.jr_machine_defs.specs.States.{Next, with_heap, push_value, settled, with_outcome}
use Rattle.jr_machine_defs.specs.Renamed.{IsRenaming, renamed_type, renamed_ty, renamed_code, renamed_any_code, renamed_body, renamed_core, renamed_slot, renamed_cell, renamed_state}
use Rattle.jr_machine_defs.proofs.RenamedValues.{value_of_renamed, assigned_renamed, default_renamed}
use Rattle.jr_machine_defs.proofs.RenamedClasses.{body_in_renamed, is_instance_renamed}
use Rattle.jr_machine_defs.proofs.RenamedStates.{Alike, goes, stops, along, if_on, one_alike, two_alike, local_set, raises_renamed, outcome_same, settles}

abbrev with_statics : List Slot → State → State
with_statics statics s = record s { statics = statics }

pub without_receiver_alike : {f : DeclId → DeclId} (on : m.AnyCode) (s : State) (g h : State → Next)
    → ((s : State) → Alike f (g (renamed_state f s)) (h s)) → Alike f (without_receiver (renamed_any_code f on) (renamed_state f s) g) (without_receiver on s h)
without_receiver_alike m.no_code s g h e = e s
without_receiver_alike (m.a_code on) s g h e = one_alike s.frame.values s (λ receiver s. g s) (λ receiver s. h s) (λ receiver s. e s)

module _ (f : DeclId → DeclId) (p : IsRenaming f) where
  cell_at : (heap : List Cell) (at : ℕ) → slice_get (map (renamed_cell f) heap) at ≡ option_map (renamed_cell f) (slice_get heap at)
  cell_at heap at = slice_get-map (renamed_cell f) heap at

  -- ---- fields

  static_value_renamed : (b : Body) (statics : List Slot) (field : DeclId) → static_value (renamed_body f b) (map (renamed_slot f) statics) (f field) ≡ static_value b statics field
  static_value_renamed b statics field =
      ap (λ x. unwrap_or x (default_of (renamed_ty f b.ty))) (value_of_renamed f p statics field) ∙ ap (unwrap_or (value_of statics field)) (default_renamed f p b.ty)

  field_of_cell_renamed : (b : Body) (field : DeclId) (any : Option Cell) → field_of_cell (renamed_body f b) (f field) (option_map (renamed_cell f) any) ≡ field_of_cell b field any
  field_of_cell_renamed b field (Some (cell.Object class outer fields)) = ap o.Gives (static_value_renamed b fields field)
  field_of_cell_renamed b field (Some (cell.Array item items)) = refl
  field_of_cell_renamed b field (Some (cell.Text units)) = refl
  field_of_cell_renamed b field None = refl

  field_of_renamed : (b : Body) (field : DeclId) (heap : List Cell) (value : Value)
      → field_of (renamed_body f b) (f field) (map (renamed_cell f) heap) value ≡ field_of b field heap value
  field_of_renamed b field heap (v.Ref place) = ap (field_of_cell (renamed_body f b) (f field)) (cell_at heap place) ∙ field_of_cell_renamed b field (slice_get heap place)
  field_of_renamed b field heap value = refl

  with_field_set_renamed : (field : DeclId) (value : Value) (any : Option Cell)
      → with_field_set (f field) value (option_map (renamed_cell f) any) ≡ option_map (renamed_cell f) (with_field_set field value any)
  with_field_set_renamed field value (Some (cell.Object class outer fields)) = ap (λ x. Some (cell.Object (renamed_type f class) outer x)) (assigned_renamed f p fields field value)
  with_field_set_renamed field value (Some (cell.Array item items)) = refl
  with_field_set_renamed field value (Some (cell.Text units)) = refl
  with_field_set_renamed field value None = refl

  stored_alike : (at : ℕ) (outcome : Value) (s : State) (any : Option Cell) → Alike f (stored at outcome (renamed_state f s) (option_map (renamed_cell f) any)) (stored at outcome s any)
  stored_alike at outcome s None = stops
  stored_alike at outcome s (Some c) = goes (ap (λ x. push_value outcome (with_heap x (renamed_state f s))) (sym (map-set (renamed_cell f) s.heap at c)))

  -- a cell of the heap is changed
  changed : (at : ℕ) (outcome : Value) (s : State) (change other : Option Cell → Option Cell)
      → ((any : Option Cell) → other (option_map (renamed_cell f) any) ≡ option_map (renamed_cell f) (change any))
      → Alike f (stored at outcome (renamed_state f s) (other (slice_get (map (renamed_cell f) s.heap) at))) (stored at outcome s (change (slice_get s.heap at)))
  changed at outcome s change other e =
      along (ap (stored at outcome (renamed_state f s)) (ap other (cell_at s.heap at) ∙ e (slice_get s.heap at))) (stored_alike at outcome s (change (slice_get s.heap at)))

  set_field_alike : (field : DeclId) (value outcome object : Value) (s : State) → Alike f (set_field (f field) value outcome object (renamed_state f s)) (set_field field value outcome object s)
  set_field_alike field value outcome v.Null s = goes (raises_renamed f p fault.NullPointer s)
  set_field_alike field value outcome (v.Ref place) s = changed place outcome s (with_field_set field value) (with_field_set (f field) value) (with_field_set_renamed field value)
  set_field_alike field value outcome object s = stops

  -- ---- components

  item_of_cell_renamed : (any : Option Cell) (index : ℤ) → item_of_cell (option_map (renamed_cell f) any) index ≡ item_of_cell any index
  item_of_cell_renamed (Some (cell.Array item items)) index = refl
  item_of_cell_renamed (Some (cell.Object class outer fields)) index = refl
  item_of_cell_renamed (Some (cell.Text units)) index = refl
  item_of_cell_renamed None index = refl

  item_of_renamed : (heap : List Cell) (array index : Value) → item_of (map (renamed_cell f) heap) array index ≡ item_of heap array index
  item_of_renamed heap (v.Ref place) (v.Int index) = ap (λ c. item_of_cell c index) (cell_at heap place) ∙ item_of_cell_renamed (slice_get heap place) index
  item_of_renamed heap array index = refl

  fits_item_renamed : (core : Core) (heap : List Cell) (item : t.Ty) (value : Value)
      → fits_item (renamed_core f core) (map (renamed_cell f) heap) (renamed_ty f item) value ≡ fits_item core heap item value
  fits_item_renamed core heap item (v.Ref place) = is_instance_renamed f p core heap (v.Ref place) item
  fits_item_renamed core heap item (v.Text units) = is_instance_renamed f p core heap (v.Text units) item
  fits_item_renamed core heap item value = refl

  place_of_renamed : (core : Core) (heap : List Cell) (item : t.Ty) (any : Option ℕ) (value : Value)
      → place_of (renamed_core f core) (map (renamed_cell f) heap) (renamed_ty f item) any value ≡ place_of core heap item any value
  place_of_renamed core heap item None value = refl
  place_of_renamed core heap item (Some i) value = ap (λ b. fitting b i) (fits_item_renamed core heap item value)

  item_place_renamed : (core : Core) (heap : List Cell) (any : Option Cell) (index : ℤ) (value : Value)
      → item_place (renamed_core f core) (map (renamed_cell f) heap) (option_map (renamed_cell f) any) index value ≡ item_place core heap any index value
  item_place_renamed core heap (Some (cell.Array item items)) index value = place_of_renamed core heap item (place_in (length items) index) value
  item_place_renamed core heap (Some (cell.Object class outer fields)) index value = refl
  item_place_renamed core heap (Some (cell.Text units)) index value = refl
  item_place_renamed core heap None index value = refl

  with_item_set_renamed : (i : ℕ) (value : Value) (any : Option Cell) → with_item_set i value (option_map (renamed_cell f) any) ≡ option_map (renamed_cell f) (with_item_set i value any)
  with_item_set_renamed i value (Some (cell.Array item items)) = refl
  with_item_set_renamed i value (Some (cell.Object class outer fields)) = refl
  with_item_set_renamed i value (Some (cell.Text units)) = refl
  with_item_set_renamed i value None = refl

  placed_alike : (where_to : Placed) (array : ℕ) (value outcome : Value) (s : State) → Alike f (placed where_to array value outcome (renamed_state f s)) (placed where_to array value outcome s)
  placed_alike (pl.At i) array value outcome s = changed array outcome s (with_item_set i value) (with_item_set i value) (with_item_set_renamed i value)
  placed_alike (pl.Throws x) array value outcome s = goes (raises_renamed f p x s)
  placed_alike pl.Unfit array value outcome s = stops

  set_item_alike : (core : Core) (array index value outcome : Value) (s : State)
      → Alike f (set_item (renamed_core f core) array index value outcome (renamed_state f s)) (set_item core array index value outcome s)
  set_item_alike core v.Null (v.Int index) value outcome s = goes (raises_renamed f p fault.NullPointer s)
  set_item_alike core (v.Ref array) (v.Int index) value outcome s =
      along (ap (λ x. placed x array value outcome (renamed_state f s))
      (ap (λ c. item_place (renamed_core f core) (map (renamed_cell f) s.heap) c index value) (cell_at s.heap array) ∙ item_place_renamed core s.heap (slice_get s.heap array) index value))
      (placed_alike (item_place core s.heap (slice_get s.heap array) index value) array value outcome s)
  set_item_alike core array index value outcome s = stops

  -- ---- targets

  set_static_alike : (field : DeclId) (value outcome : Value) (s : State) → Alike f (set_static (f field) value outcome (renamed_state f s)) (set_static field value outcome s)
  set_static_alike field value outcome s = goes (ap (λ x. push_value outcome (with_statics x (renamed_state f s))) (assigned_renamed f p s.statics field value))

  store_field_alike : (any : Option Body) (on : m.AnyCode) (field : DeclId) (value outcome : Value) (s : State)
      → Alike f (store_field (option_map (renamed_body f) any) (renamed_any_code f on) (f field) value outcome (renamed_state f s)) (store_field any on field value outcome s)
  store_field_alike None on field value outcome s = stops
  store_field_alike (Some b) on field value outcome s =
      if_on b.is_static (without_receiver_alike on s (set_static (f field) value outcome) (set_static field value outcome) (set_static_alike field value outcome))
      (one_alike s.frame.values s (set_field (f field) value outcome) (set_field field value outcome) (set_field_alike field value outcome))

  pub store_alike : (core : Core) (target : Code) (value outcome : Value) (s : State)
      → Alike f (store (renamed_core f core) (renamed_code f target) value outcome (renamed_state f s)) (store core target value outcome s)
  store_alike core (m.Var local) value outcome s = goes (ap (push_value outcome) (local_set f p local value s))
  store_alike core (m.FieldAt on field) value outcome s =
      along (ap (λ b. store_field b (renamed_any_code f on) (f field) value outcome (renamed_state f s)) (body_in_renamed f p core field)) (store_field_alike (body_in core field) on field value outcome s)
  store_alike core (m.Index array at) value outcome s =
      two_alike s.frame.values s (λ array index s. set_item (renamed_core f core) array index value outcome s) (λ array index s. set_item core array index value outcome s)
      (λ array index s. set_item_alike core array index value outcome s)
  store_alike core target value outcome s = stops

  -- ---- reading

  pub read_field_alike : (any : Option Body) (on : m.AnyCode) (field : DeclId) (s : State)
      → Alike f (read_field (option_map (renamed_body f) any) (renamed_any_code f on) (f field) (renamed_state f s)) (read_field any on field s)
  read_field_alike None on field s = stops
  read_field_alike (Some b) on field s =
      if_on b.is_static
      (without_receiver_alike on s (λ s. Some (push_value (value_read b.constant (static_value (renamed_body f b) s.statics (f field))) s))
      (λ s. Some (push_value (value_read b.constant (static_value b s.statics field)) s))
      (λ s. goes (ap (λ x. push_value (value_read b.constant x) (renamed_state f s)) (static_value_renamed b s.statics field))))
      (one_alike s.frame.values s
      (λ object s. with_outcome (field_of (renamed_body f b) (f field) s.heap object) s (λ stored s. Some (push_value (value_read b.constant stored) s)))
      (λ object s. with_outcome (field_of b field s.heap object) s (λ stored s. Some (push_value (value_read b.constant stored) s)))
      (λ object s. outcome_same f p (field_of b field s.heap object) s (λ stored s. Some (push_value (value_read b.constant stored) s)) (λ stored s. Some (push_value (value_read b.constant stored) s))
      (field_of_renamed b field s.heap object) (λ stored s. goes refl)))

  pub read_item_alike : (s : State) → Alike f (read_item (renamed_state f s)) (read_item s)
  read_item_alike s =
      two_alike s.frame.values s (λ array index s. settled (item_of s.heap array index) s) (λ array index s. settled (item_of s.heap array index) s)
      (λ array index s. settles f p (item_of s.heap array index) s (item_of_renamed s.heap array index))

  read_old_field_alike : (any : Option Body) (field : DeclId) (s : State)
      → Alike f (read_old_field (option_map (renamed_body f) any) (f field) (renamed_state f s)) (read_old_field any field s)
  read_old_field_alike None field s = stops
  read_old_field_alike (Some b) field s =
      if_on b.is_static (goes (ap (λ x. push_value x (renamed_state f s)) (static_value_renamed b s.statics field)))
      (one_alike s.frame.values s
      (λ object s. with_outcome (field_of (renamed_body f b) (f field) s.heap object) s (λ value s. Some (push_value value (push_value object s))))
      (λ object s. with_outcome (field_of b field s.heap object) s (λ value s. Some (push_value value (push_value object s))))
      (λ object s. outcome_same f p (field_of b field s.heap object) s (λ value s. Some (push_value value (push_value object s))) (λ value s. Some (push_value value (push_value object s)))
      (field_of_renamed b field s.heap object) (λ value s. goes refl)))

  read_old_item_alike : (s : State) → Alike f (read_old_item (renamed_state f s)) (read_old_item s)
  read_old_item_alike s =
      two_alike s.frame.values s
      (λ array index s. with_outcome (item_of s.heap array index) s (λ value s. Some (push_value value (push_value index (push_value array s)))))
      (λ array index s. with_outcome (item_of s.heap array index) s (λ value s. Some (push_value value (push_value index (push_value array s)))))
      (λ array index s. outcome_same f p (item_of s.heap array index) s
      (λ value s. Some (push_value value (push_value index (push_value array s)))) (λ value s. Some (push_value value (push_value index (push_value array s))))
      (item_of_renamed s.heap array index) (λ value s. goes refl))

  pub read_old_alike : (core : Core) (target : Code) (s : State) → Alike f (read_old (renamed_core f core) (renamed_code f target) (renamed_state f s)) (read_old core target s)
  read_old_alike core (m.FieldAt on field) s =
      along (ap (λ b. read_old_field b (f field) (renamed_state f s)) (body_in_renamed f p core field)) (read_old_field_alike (body_in core field) field s)
  read_old_alike core (m.Index array at) s = read_old_item_alike s
  read_old_alike core target s = stops

  length_of_cell_renamed : (any : Option Cell) → length_of_cell (option_map (renamed_cell f) any) ≡ length_of_cell any
  length_of_cell_renamed (Some (cell.Array item items)) = refl
  length_of_cell_renamed (Some (cell.Object class outer fields)) = refl
  length_of_cell_renamed (Some (cell.Text units)) = refl
  length_of_cell_renamed None = refl

  pub length_of_renamed : (heap : List Cell) (value : Value) → length_of (map (renamed_cell f) heap) value ≡ length_of heap value
  length_of_renamed heap (v.Ref place) = ap length_of_cell (cell_at heap place) ∙ length_of_cell_renamed (slice_get heap place)
  length_of_renamed heap value = refl
