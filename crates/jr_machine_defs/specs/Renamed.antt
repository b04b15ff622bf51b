-- The renaming of a core and of a state by a map of declarations.
use Rattle.std.specs.Prelude.{◌≡◌, ℕ, suc, ◌+◌, unwrap_or, List, [], ◌∷◌, map, Some}
use Rattle.std.specs.Option.{option_map}
use Rattle.jr_base.specs.declared.ids.DeclId.{DeclId}
use Rattle.jr_base.specs.declared.ids.TypeId.{TypeId}
use Rattle.jr_base.specs.Faithful.{IsOneToOne}
use Rattle.jr_base.specs.Mirror as t
use Rattle.jr_core.specs.declared.bodies.Class.{Class}
use Rattle.jr_core.specs.Mirror as m
use Rattle.jr_core.specs.Mirror.{Code, Codes, Core, Body}
use Rattle.jr_machine_defs.specs.declared.slots.Slot.{Slot}
use Rattle.jr_machine_defs.specs.declared.heap.Cell.{Cell}
use Rattle.jr_machine_defs.specs.declared.heap.Cell.TheVariants as cell
use Rattle.jr_machine_defs.specs.declared.outcome.Fault.{Fault}
use Rattle.jr_machine_defs.specs.declared.work.Exit.{Exit}
use Rattle.jr_machine_defs.specs.declared.work.Exit.TheVariants as exit
use Rattle.jr_machine_defs.specs.declared.work.Work.{Work}
use Rattle.jr_machine_defs.specs.declared.work.Work.TheVariants as w
use Rattle.jr_machine_defs.specs.declared.state.Purpose.{Purpose}
use Rattle.jr_machine_defs.specs.declared.state.Purpose.TheVariants as purpose
use Rattle.jr_machine_defs.specs.declared.state.Frame.{Frame}
use Rattle.jr_machine_defs.specs.declared.state.RunEnd.{RunEnd}
use Rattle.jr_machine_defs.specs.declared.state.RunEnd.TheVariants as ends
use Rattle.jr_machine_defs.specs.declared.state.Ran.{Ran}
use Rattle.jr_machine_defs.specs.declared.state.State.{State}
use Rattle.jr_machine_defs.specs.Prelude.{object_class, string_class, fault_class, to_string_method, length_method, char_at_method, equals_method, print_method}
use Rattle.jr_machine_defs.specs.Classes.{found_among}
use Rattle.jr_machine_defs.specs.States.{Next}

-- a declaration of the prelude that the machine knows by itself
pub data IsOwn : DeclId → Type 0 where
  object : IsOwn object_class.0
  string : IsOwn string_class.0
  exception : (x : Fault) → IsOwn (fault_class x).0
  to_string : IsOwn to_string_method
  string_length : IsOwn length_method
  char_at : IsOwn char_at_method
  equals : IsOwn equals_method
  prints : IsOwn print_method

-- a map by which programs may be renamed: different declarations stay different, and those that the machine knows by itself stay as they are
pub record IsRenaming (f : DeclId → DeclId) : Type 0 where
  pub one_to_one : IsOneToOne f
  pub keeps_own : (d : DeclId) → IsOwn d → f d ≡ d

-- ---- types

abbrev pub renamed_type : (DeclId → DeclId) → TypeId → TypeId
renamed_type f id = record { 0 = f id.0 }

abbrev pub renamed_ty : (DeclId → DeclId) → t.Ty → t.Ty
renamed_ty f t.Boolean = t.Boolean
renamed_ty f t.Byte = t.Byte
renamed_ty f t.Short = t.Short
renamed_ty f t.Char = t.Char
renamed_ty f t.Int = t.Int
renamed_ty f t.Long = t.Long
renamed_ty f t.Null = t.Null
renamed_ty f t.Void = t.Void
renamed_ty f (t.Class class) = t.Class (renamed_type f class)
renamed_ty f (t.Array item) = t.Array (renamed_ty f item)

-- ---- code

abbrev mutual
  pub renamed_code : (DeclId → DeclId) → Code → Code
  renamed_code f (m.Assign target op value) = m.Assign (renamed_code f target) op (renamed_code f value)
  renamed_code f (m.Cond cond first second) = m.Cond (renamed_code f cond) (renamed_code f first) (renamed_code f second)
  renamed_code f (m.AndAlso left right) = m.AndAlso (renamed_code f left) (renamed_code f right)
  renamed_code f (m.OrElse left right) = m.OrElse (renamed_code f left) (renamed_code f right)
  renamed_code f (m.Binary left op right) = m.Binary (renamed_code f left) op (renamed_code f right)
  renamed_code f (m.IsA value ty) = m.IsA (renamed_code f value) (renamed_ty f ty)
  renamed_code f (m.Unary op value) = m.Unary op (renamed_code f value)
  renamed_code f (m.Cast ty value) = m.Cast (renamed_ty f ty) (renamed_code f value)
  renamed_code f (m.PreStep op target) = m.PreStep op (renamed_code f target)
  renamed_code f (m.PostStep target op) = m.PostStep (renamed_code f target) op
  renamed_code f (m.Lit value) = m.Lit value
  renamed_code f (m.This class) = m.This (renamed_type f class)
  renamed_code f (m.Var local) = m.Var (f local)
  renamed_code f (m.FieldAt on field) = m.FieldAt (renamed_any_code f on) (f field)
  renamed_code f (m.Length array) = m.Length (renamed_code f array)
  renamed_code f (m.Index array at) = m.Index (renamed_code f array) (renamed_code f at)
  renamed_code f (m.Call receiver is_super method args) = m.Call (renamed_any_code f receiver) is_super (f method) (renamed_codes f args)
  renamed_code f (m.New outer ctor args) = m.New (renamed_any_code f outer) (f ctor) (renamed_codes f args)
  renamed_code f (m.NewArray ty dims init) = m.NewArray (renamed_ty f ty) (renamed_codes f dims) (renamed_any_codes f init)
  renamed_code f (m.Show value) = m.Show (renamed_code f value)
  renamed_code f (m.Nest stmts) = m.Nest (renamed_codes f stmts)
  renamed_code f (m.Local local init) = m.Local (f local) (renamed_any_code f init)
  renamed_code f m.Skip = m.Skip
  renamed_code f (m.Do body cond) = m.Do (renamed_code f body) (renamed_code f cond)
  renamed_code f (m.While cond body) = m.While (renamed_code f cond) (renamed_code f body)
  renamed_code f (m.If cond first second) = m.If (renamed_code f cond) (renamed_code f first) (renamed_any_code f second)
  renamed_code f (m.Eval value) = m.Eval (renamed_code f value)
  renamed_code f (m.For first cond update body) = m.For (renamed_codes f first) (renamed_any_code f cond) (renamed_codes f update) (renamed_code f body)
  renamed_code f (m.Switch value gs) = m.Switch (renamed_code f value) (renamed_groups f gs)
  renamed_code f (m.Labeled label body) = m.Labeled (f label) (renamed_code f body)
  renamed_code f (m.Break label) = m.Break (option_map f label)
  renamed_code f (m.Continue label) = m.Continue (option_map f label)
  renamed_code f (m.Return value) = m.Return (renamed_any_code f value)
  renamed_code f (m.Throw value) = m.Throw (renamed_code f value)
  renamed_code f (m.Try body ks last) = m.Try (renamed_codes f body) (renamed_catches f ks) (renamed_any_codes f last)
  renamed_code f (m.CtorCall is_super ctor args) = m.CtorCall is_super (f ctor) (renamed_codes f args)

  pub renamed_codes : (DeclId → DeclId) → Codes → Codes
  renamed_codes f m.no_codes = m.no_codes
  renamed_codes f (m.more_codes c all) = m.more_codes (renamed_code f c) (renamed_codes f all)

  pub renamed_any_code : (DeclId → DeclId) → m.AnyCode → m.AnyCode
  renamed_any_code f m.no_code = m.no_code
  renamed_any_code f (m.a_code c) = m.a_code (renamed_code f c)

  pub renamed_any_codes : (DeclId → DeclId) → m.AnyCodes → m.AnyCodes
  renamed_any_codes f m.no_list = m.no_list
  renamed_any_codes f (m.a_list all) = m.a_list (renamed_codes f all)

  pub renamed_group : (DeclId → DeclId) → m.Group → m.Group
  renamed_group f (m.GroupOf labels stmts) = m.GroupOf labels (renamed_codes f stmts)

  pub renamed_groups : (DeclId → DeclId) → m.Groups → m.Groups
  renamed_groups f m.no_groups = m.no_groups
  renamed_groups f (m.more_groups g all) = m.more_groups (renamed_group f g) (renamed_groups f all)

  pub renamed_catch : (DeclId → DeclId) → m.Catch → m.Catch
  renamed_catch f (m.CatchOf class param body) = m.CatchOf (renamed_type f class) (f param) (renamed_codes f body)

  pub renamed_catches : (DeclId → DeclId) → m.Catches → m.Catches
  renamed_catches f m.no_catches = m.no_catches
  renamed_catches f (m.more_catches c all) = m.more_catches (renamed_catch f c) (renamed_catches f all)

-- ---- cores

abbrev pub renamed_pair : (DeclId → DeclId) → DeclId × DeclId → DeclId × DeclId
renamed_pair f pair = (f pair.0, f pair.1)

abbrev pub renamed_class : (DeclId → DeclId) → Class → Class
renamed_class f c = record {
  id = renamed_type f c.id;
  parent = option_map (renamed_type f) c.parent;
  faces = map (renamed_type f) c.faces;
  outer = option_map (renamed_type f) c.outer;
  members = map f c.members;
  found = map (renamed_pair f) c.found;
}

abbrev pub renamed_body : (DeclId → DeclId) → Body → Body
renamed_body f b = record {
  decl = f b.decl;
  class = renamed_type f b.class;
  is_static = b.is_static;
  is_native = b.is_native;
  ty = renamed_ty f b.ty;
  constant = b.constant;
  params = map f b.params;
  code = renamed_codes f b.code;
}

abbrev pub renamed_core : (DeclId → DeclId) → Core → Core
renamed_core f core = record { classes = map (renamed_class f) core.classes; bodies = map (renamed_body f) core.bodies }

-- ---- states; a value names no declaration

abbrev pub renamed_slot : (DeclId → DeclId) → Slot → Slot
renamed_slot f slot = record { key = f slot.key; value = slot.value }

abbrev pub renamed_cell : (DeclId → DeclId) → Cell → Cell
renamed_cell f (cell.Object class outer fields) = cell.Object (renamed_type f class) outer (map (renamed_slot f) fields)
renamed_cell f (cell.Array item items) = cell.Array (renamed_ty f item) items
renamed_cell f (cell.Text units) = cell.Text units

abbrev pub renamed_exit : (DeclId → DeclId) → Exit → Exit
renamed_exit f (exit.Throw value) = exit.Throw value
renamed_exit f (exit.Break label) = exit.Break (option_map f label)
renamed_exit f (exit.Continue label) = exit.Continue (option_map f label)
renamed_exit f (exit.Return value) = exit.Return value

abbrev pub renamed_work : (DeclId → DeclId) → Work → Work
renamed_work f (w.Eval code) = w.Eval (renamed_code f code)
renamed_work f (w.Finish code) = w.Finish (renamed_code f code)
renamed_work f (w.Target target) = w.Target (renamed_code f target)
renamed_work f w.Nothing = w.Nothing
renamed_work f (w.OldValue target) = w.OldValue (renamed_code f target)
renamed_work f (w.ReadOld target) = w.ReadOld (renamed_code f target)
renamed_work f (w.AfterBody loop) = w.AfterBody (renamed_code f loop)
renamed_work f w.Breakable = w.Breakable
renamed_work f (w.Finally code) = w.Finally (renamed_code f code)
renamed_work f (w.Begin class) = w.Begin (renamed_type f class)
renamed_work f (w.Exiting leaving) = w.Exiting (renamed_exit f leaving)

abbrev pub renamed_purpose : (DeclId → DeclId) → Purpose → Purpose
renamed_purpose f purpose.Method = purpose.Method
renamed_purpose f purpose.Constructor = purpose.Constructor
renamed_purpose f (purpose.Initializer class) = purpose.Initializer (renamed_type f class)

abbrev pub renamed_frame : (DeclId → DeclId) → Frame → Frame
renamed_frame f frame = record {
  purpose = renamed_purpose f frame.purpose;
  class = renamed_type f frame.class;
  this = frame.this;
  locals = map (renamed_slot f) frame.locals;
  work = map (renamed_work f) frame.work;
  values = frame.values;
}

abbrev pub renamed_end : (DeclId → DeclId) → RunEnd → RunEnd
renamed_end f ends.Running = ends.Running
renamed_end f ends.Ended = ends.Ended
renamed_end f (ends.Uncaught class) = ends.Uncaught (renamed_type f class)
renamed_end f (ends.InitFailed class) = ends.InitFailed (renamed_type f class)
renamed_end f (ends.Native method) = ends.Native (f method)

abbrev pub renamed_state : (DeclId → DeclId) → State → State
renamed_state f s = record {
  heap = map (renamed_cell f) s.heap;
  statics = map (renamed_slot f) s.statics;
  begun = map (renamed_type f) s.begun;
  frame = renamed_frame f s.frame;
  callers = map (renamed_frame f) s.callers;
  printed = s.printed;
  end = renamed_end f s.end;
}

abbrev pub renamed_next : (DeclId → DeclId) → Next → Next
renamed_next f next = option_map (renamed_state f) next

abbrev pub renamed_ran : (DeclId → DeclId) → Ran → Ran
renamed_ran f ran = record ran { end = renamed_end f ran.end }

-- ---- renamings by a table

-- more than the part of each copy in the table
abbrev pub part_above : List (DeclId × DeclId) → ℕ
part_above [] = 0
part_above (pair ∷ all) = pair.1.part + suc (part_above all)

-- the declaration, as another one that no table up to this part has for a copy
abbrev pub apart : ℕ → DeclId → DeclId
apart part d = record d { part = d.part + part }

-- a declaration goes to its copy in the table, and all others go apart
abbrev pub by_table : List (DeclId × DeclId) → DeclId → DeclId
by_table pairs d = unwrap_or (found_among pairs d) (apart (part_above pairs) d)

-- a table of declarations and their copies: no two have one copy, and those that the machine knows by itself are their own copies
pub record IsTable (pairs : List (DeclId × DeclId)) : Type 0 where
  pub one_to_one : (a b copy : DeclId) → found_among pairs a ≡ Some copy → found_among pairs b ≡ Some copy → a ≡ b
  pub has_own : (d : DeclId) → IsOwn d → found_among pairs d ≡ Some d
