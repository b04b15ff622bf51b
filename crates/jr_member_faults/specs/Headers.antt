-- The superinterfaces that headers name, under the type and the superinterface (JLS 8.1.5, 9.1.3).
use Rattle.std.specs.Prelude.{◌≡◌, ℕ, Bool, false, ◌||◌, List, length, Option, Some, None, is_some}
use Rattle.jr_tree.specs.Rows.{Rows, label, parent}
use Rattle.jr_defs.specs.Referents.{Table}
use Rattle.jr_plain.specs.Declarations.{is_class, is_interface}
use Rattle.jr_plain.specs.Modifiers.{is_final, is_inner}
use Rattle.jr_places.specs.declared.chains.Entry.{Entry}
use Rattle.jr_places.specs.Chains.{last_under}
use Rattle.jr_supers.specs.declared.supers.HeaderPlace.{HeaderPlace}
use Rattle.jr_supers.specs.declared.supers.HeaderPlace.TheVariants as header
use Rattle.jr_supers.specs.Direct.{header_place}
use Rattle.jr_supers.specs.Tabled.{declared}
use Rattle.jr_members.specs.Keys.{entry_for, entries_of}

-- what a row adds that names the type as a superinterface
abbrev pub entry_by : Rows → ℕ → Option HeaderPlace → Option ℕ → Option Entry
entry_by p n (Some header.Superinterface) (Some over) = Some (entry_for (parent p n) over n)
entry_by p n _ _ = None

abbrev pub superinterface_entry : Rows → Table → ℕ → Option Entry
superinterface_entry p t n = entry_by p n (header_place (label p n)) (declared (t n))

-- what the first n rows add
abbrev pub AreHeadersTo : Rows → Table → ℕ → List Entry → Type 0
AreHeadersTo p t n all = all ≡ entries_of (superinterface_entry p t) n

-- something stands under the key
abbrev pub is_listed : List Entry → ℕ → ℕ → Bool
is_listed all first second = is_some (last_under all first second (length all))

-- the type that a row names may not be its supertype, where these superinterfaces are named before
abbrev pub is_wrong : Rows → List Entry → ℕ → Option HeaderPlace → Option ℕ → Bool
is_wrong p all n (Some header.Superclass) (Some over) = is_final p over || (is_interface p over || is_inner p over)
is_wrong p all n (Some header.Superinterface) (Some over) = is_class p over || is_listed all (parent p n) over
is_wrong p all n _ _ = false
