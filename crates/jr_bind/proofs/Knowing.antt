-- What is known of rows is what lookup asks, and stays so where names of types do.
use Rattle.std.proofs.Common.{◌≡◌, sym, ◌∙◌, ap, subst, ℕ, ◌+◌, ◌<◌, List, length, Option}
use Rattle.jr_tree.specs.Rows.{Rows}
use Rattle.jr_defs.specs.declared.referent.RowType.{RowType}
use Rattle.jr_defs.specs.Referents.{Table, entries}
use Rattle.jr_defs.specs.Imports.{SingleImport}
use Rattle.jr_defs.specs.Formed.{NamesTypeFirst, IsFormed}
use Rattle.jr_defs.proofs.TypesAgree.{SameTypes, turned_types}
use Rattle.jr_places.specs.declared.places.Places.{Places}
use Rattle.jr_supers.specs.declared.subtypes.Supers.{Supers}
use Rattle.jr_members.specs.declared.members.Members.{Members}
use Rattle.jr_plain.specs.Types.{type_of_declared}
use Rattle.jr_lookup.specs.declared.imports.Imports.{Imports}
use Rattle.jr_lookup.specs.declared.scopes.Scopes.{Scopes}
use Rattle.jr_lookup.specs.declared.simple.Sight.{Sight}
use Rattle.jr_lookup.specs.Behind.{CanLook}
use Rattle.jr_lookup.specs.Calls.{CanSee}
use Rattle.jr_lookup.specs.Imports.{IsBrought, AreImports}
use Rattle.jr_lookup.specs.Sights.{IsSight}
use Rattle.jr_bind.specs.Looked.{AreKnown, AreTypedBehind}
use Rattle.jr_bind.proofs.Carrying.{seen_over, members_over}

-- ---- what lookup asks

module _ (t : Table) (sight : Sight) (n : ℕ) (known : AreKnown sight.world.under.rows.now t sight.world.under.places.now sight.scopes.now sight.world.supers.now sight.world.members.now sight.imports.now)
    (inside : n < length sight.world.under.rows.now) (same : (m : ℕ) → entries sight.world.under.table.now m ≡ t m) where
  sight_is : IsSight t sight
  sight_is = record {
    few = known.lookable.sized.few;
    world = record { seen = known.seen; members_are = known.members_are; class = known.class };
    scopes = known.scopes_are;
    tops = known.tops;
    imports = known.imports_are;
    seen = record { same = λ i import. same (i + 1) };
    lang = known.lookable.lang;
  }

  pub can_see : CanSee t sight n
  can_see = record { sight_is = sight_is; placed = known.lookable.locals; inside = inside; same = same (n + 1) }

  pub can_look : (types : List (Option RowType)) → AreTypedBehind sight.world.under.rows.now t types n → CanLook t sight types n
  can_look types behind = record {
    sight_is = sight_is;
    placed = known.lookable.locals;
    can = record {
      bare = known.lookable.bare;
      results = record { sized = known.lookable.sized; same = λ m callable. ap (λ u. type_of_declared sight.world.under.rows.now u m) (λ i k. same k i) };
    };
    refers = behind.refers;
    few = known.lookable.few;
    inside = inside;
    seen = λ m lt. same m;
    typed = behind.typed;
  }

-- ---- where names of types stay

single_over : (p : Rows) (t u : Table) → IsFormed p → SameTypes p t u → (unit d : ℕ) → SingleImport p t unit d → SingleImport p u unit d
single_over p t u formed types unit d h = record {
  import = h.import;
  is_import = h.is_import;
  names = record {
    level = h.names.level;
    refers = sym (types.at (h.import + 1) (formed.first_name h.import (subst NamesTypeFirst (sym h.is_import.import) NamesTypeFirst.import))) ∙ h.names.refers;
    type = h.names.type;
  };
  foreign = h.foreign;
}

brought_over : (p : Rows) (t u : Table) → IsFormed p → SameTypes p t u → (unit x d : ℕ) → IsBrought p t unit x d → IsBrought p u unit x d
brought_over p t u formed types unit x d h = record { brings = single_over p t u formed types unit d h.brings; named = h.named }

pub imports_over : (p : Rows) (t u : Table) → IsFormed p → SameTypes p t u → (imports : Imports) → AreImports p t imports → AreImports p u imports
imports_over p t u formed types imports h = record {
  each = λ unit x d. (λ e. brought_over p t u formed types unit x d ((h.each unit x d).0 e), λ k. (h.each unit x d).1 (brought_over p u t formed (turned_types p t u types) unit x d k));
}

pub known_over : (p : Rows) (t u : Table) → IsFormed p → SameTypes p t u → (places : Places) (scopes : Scopes) (supers : Supers) (members : Members) (imports : Imports) → AreKnown p t places scopes supers members imports
    → AreKnown p u places scopes supers members imports
known_over p t u formed types places scopes supers members imports h = record {
  lookable = h.lookable;
  seen = seen_over p formed t u types places supers h.seen;
  members_are = members_over p formed t u types supers members h.members_are;
  class = h.class;
  scopes_are = h.scopes_are;
  tops = h.tops;
  imports_are = imports_over p t u formed types imports h.imports_are;
}
