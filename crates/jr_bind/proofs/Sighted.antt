-- A table whose members and imports are made of it is seen as a whole.
use Rattle.std.proofs.Common.{◌≡◌, refl, sym, subst, ℕ, ◌+◌, ◌<◌, ◌^◌, length, Option, Some, List, Result, Ok, Err, IfOk}
use Rattle.jr_tree.specs.Rows.{Rows}
use Rattle.jr_defs.specs.Binding.{IsFirstOnCycle}
use Rattle.jr_defs.specs.Supertypes.{Above}
use Rattle.jr_plain.specs.Search.{Finds}
use Rattle.jr_places.specs.declared.chains.Entry.{Entry}
use Rattle.jr_supers.specs.Supers.{IsWellHeaded, HasNoCycle, AreSupersOf}
use Rattle.jr_supers.specs.Tabled.{IsSized}
use Rattle.jr_members.specs.declared.members.Members.{Members}
use Rattle.jr_members.specs.Sources.{ArePlaced, AreSeen}
use Rattle.jr_members.specs.Worlds.{AreMembersOf}
use Rattle.jr_lookup.specs.declared.imports.Imports.{Imports}
use Rattle.jr_lookup.specs.declared.simple.Sight.{Sight}
use Rattle.jr_lookup.specs.Imports.{AreImports}
use Rattle.jr_headed.specs.Founded.{AreWell}
use Rattle.jr_bind.specs.Confirmed.{rows_of, table_of, IsProgramOf}
use Rattle.jr_bind.specs.Edges.{IsWhole, AreConfirmed}
use Rattle.jr_bind.specs.Exact.{IsProgramIn}
use Rattle.jr_bind.specs.Rounds.{IsFirstOnRound, AreEdges}
use Rattle.jr_bind.proofs.Confirmed.{program_in, locals_placed}
use Rattle.jr_bind.proofs.Whole.{program_formed}
use Rattle.jr_bind.proofs.Joined as joined
use Rattle.jr_bind.proofs.FirstOnCycle as cycle

module _ (sight : Sight) (members : Members) (imports : Imports) (members_is : sight.world.members.now ≡ members) (imports_is : sight.imports.now ≡ imports) where
  abbrev p : Rows
  p = rows_of sight

  pub whole : IsProgramOf p sight.world.under.places.now sight.scopes.now → AreWell p → length p + 3 < 2 ^ 32 → HasNoCycle p (table_of sight) → (IsWellHeaded p → AreSupersOf p (table_of sight) sight.world.supers.now)
      → (IsSized p → AreSeen p (table_of sight) sight.world.under.places.now sight.world.supers.now → AreMembersOf p (table_of sight) sight.world.supers.now members)
      → (ArePlaced p sight.world.under.places.now → AreImports p (table_of sight) imports) → IsWhole sight
  whole of well few acyclic supers_are members_are imports_are =
      let program : IsProgramIn p sight.world.under.places.now = program_in p sight.world.under.places.now sight.scopes.now of well in
      let seen : AreSeen p (table_of sight) sight.world.under.places.now sight.world.supers.now = record { placed = program.placed; above = supers_are program.well } in record {
        sight_is = record {
          few = well.sized.few;
          world = record {
            seen = seen;
            members_are = subst (λ all. AreMembersOf p (table_of sight) sight.world.supers.now all) (sym members_is) (members_are program.sized seen);
            class = λ o object interface. acyclic o (Above.object interface object);
          };
          scopes = of.scopes_are program.placed;
          tops = of.tops_are program.placed;
          imports = subst (λ all. AreImports p (table_of sight) all) (sym imports_is) (imports_are program.placed);
          seen = record { same = λ i is. refl };
          lang = of.lang;
        };
        placed = locals_placed p sight.world.under.places.now sight.scopes.now of well;
        formed = program_formed p sight.world.under.places.now program;
        few = few;
      }

module _ (sight : Sight) (whole : IsWhole sight) (rank : ℕ → ℕ) (edges : List Entry) (are : AreConfirmed (rows_of sight) (table_of sight) rank edges) where
  pub first_found : (first : ℕ) → (AreEdges edges (length (rows_of sight)) → Finds (Some first) (IsFirstOnRound edges)) → IsFirstOnCycle (rows_of sight) first
  first_found first finds =
      let confirmed = joined.confirmed (rows_of sight) whole.formed (table_of sight) rank edges are in
      let header = joined.header_edges (rows_of sight) whole.formed (table_of sight) rank edges are in
      cycle.first_is (rows_of sight) whole.formed (table_of sight) rank confirmed edges header first
      (finds (cycle.edges_below (rows_of sight) whole.formed (table_of sight) rank confirmed edges header))
