-- The report of a run: what was printed, and how the run ended.
use Rattle.std.specs.Prelude.{ℕ, ◌+◌, ◌<◌, ◌^◌, Bool, not, ◌&&◌, [], ◌∷◌, ◌++◌, length, Option, codes}
use Rattle.std.specs.Option.{option_map_or}
use Rattle.jr_base.specs.declared.ids.DeclId.{DeclId}
use Rattle.jr_base.specs.declared.text.Text.{Text}
use Rattle.jr_tree.specs.declared.label.Role.TheVariants as role
use Rattle.jr_tree.specs.Rows.{Rows, name, role_at}
use Rattle.jr_plain.specs.Enclosing.{declaring_type}
use Rattle.jr_plain.specs.Same.{same_role}
use Rattle.jr_plain.specs.Search.{first_below}
use Rattle.jr_members.specs.Sources.{ArePlaced}
use Rattle.jr_codes.specs.declared.source.Source.{Source}
use Rattle.jr_codes.specs.Reads.{rows_of}
use Rattle.jr_machine_defs.specs.declared.state.Ran.{Ran}
use Rattle.jr_machine_defs.specs.declared.state.RunEnd.{RunEnd}
use Rattle.jr_machine_defs.specs.declared.state.RunEnd.TheVariants as ends
use Rattle.jr_machine_defs.specs.Values.{same_decl}
use Rattle.jr_run.specs.Names.{canonical_name}
use Rattle.jr_run.specs.Texts.{lines, utf8_text}

-- the row declares something, and a core knows it by this number
abbrev pub is_known_by : Rows → (ℕ → DeclId) → DeclId → ℕ → Bool
is_known_by p decl d n = not (same_role (role_at p n) role.Nothing) && same_decl (decl n) d

-- the row of a declaration
abbrev pub row_of : Rows → (ℕ → DeclId) → DeclId → Option ℕ
row_of p decl d = first_below (length p) (λ n. is_known_by p decl d n)

-- the canonical name of a type (JLS 6.7)
abbrev pub type_text : Rows → (ℕ → DeclId) → DeclId → Text
type_text p decl d = option_map_or (canonical_name p) (row_of p decl d) []

-- the canonical name of the type that declares a member, a dot, and the name of the member
abbrev pub declaring_name : Rows → ℕ → Text
declaring_name p m = option_map_or (canonical_name p) (declaring_type p m) []

abbrev pub member_name : Rows → ℕ → Text
member_name p m = declaring_name p m ++ 46 ∷ name p m

abbrev pub member_text : Rows → (ℕ → DeclId) → DeclId → Text
member_text p decl d = option_map_or (member_name p) (row_of p decl d) []

-- how the run ended
abbrev pub end_text : Rows → (ℕ → DeclId) → RunEnd → Text
end_text p decl ends.Running = codes "-- running"
end_text p decl ends.Ended = codes "-- ended"
end_text p decl (ends.Uncaught class) = codes "-- uncaught " ++ type_text p decl class.0
end_text p decl (ends.InitFailed class) = codes "-- init failed " ++ type_text p decl class.0
end_text p decl (ends.Native method) = codes "-- native " ++ member_text p decl method

-- what was printed, and in a line of its own how the run ended
abbrev pub report_text : Rows → (ℕ → DeclId) → Ran → Text
report_text p decl ran = lines (utf8_text ran.printed) ++ (end_text p decl ran.end ++ 10 ∷ [])

-- the places of the rows are known, and the rows can be counted
pub record IsPlacedSource (s : Source) : Type 0 where
  pub placed : ArePlaced (rows_of s) s.view.now.sight.world.under.places.now
  pub few : length (rows_of s) + 3 < 2 ^ 32
