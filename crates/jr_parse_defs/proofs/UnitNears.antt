-- Imports and units are read the same whatever stands behind, and with more levels.
use Rattle.std.proofs.Common.{◌≡◌, ℕ, zero, suc, ◌≤◌, List, [], ◌∷◌, ◌++◌, length, Some, None, Ok, Err, refl, arith}
use Rattle.jr_base.specs.declared.text.Text.{Text}
use Rattle.jr_base.specs.declared.kind.Kind.{Kind}
use Rattle.jr_base.specs.declared.kind.Kind.TheVariants as kind
use Rattle.jr_base.specs.declared.kind.Symbol.TheVariants as y
use Rattle.jr_base.specs.declared.kind.Keyword.TheVariants as k
use Rattle.jr_tree.specs.declared.tree.Import.{Import}
use Rattle.jr_tree.specs.declared.tree.Import.TheVariants as import
use Rattle.jr_tree.specs.Shape.{IsShapedImport}
use Rattle.jr_tree.specs.Mirror.Decls as d
use Rattle.jr_parse_laws.specs.declared.fault.Fault.TheVariants.{NoTree}
use Rattle.jr_parse_laws.specs.Parsers.{Parser, pure, expect, ◌>>=◌, ◌>>◌}
use Rattle.jr_parse_laws.proofs.Outcomes.{no_first, one_first}
use Rattle.jr_parse_starts.specs.Starts.{next_is}
use Rattle.jr_parse_expr.specs.Names.{name_of}
use Rattle.jr_parse_expr.proofs.Locals.{Kept, Local, here, along, at_token}
use Rattle.jr_parse_defs.specs.Begins.{starts_decl, is_import}
use Rattle.jr_parse_defs.specs.Decls as reader
use Rattle.jr_parse_defs.specs.Writing.{write_import, write_decl}
use Rattle.jr_parse_defs.proofs.Lists.{shortens_by}
use Rattle.jr_parse_defs.proofs.Imports as imports
use Rattle.jr_parse_defs.proofs.Nears.{Near, then, gives, symbol, word, ident, skips, if_word, several}
use Rattle.jr_parse_defs.proofs.PartNears.{name_near}
use Rattle.jr_parse_defs.proofs.DeclNears.{modifiers_near, both_near}

-- ---- imports: as many turns as there are tokens are enough

imported_enough : (m n : ℕ) (before : List Text) (last : Text) (ts : List Kind) → length ts ≤ m → length ts ≤ n → reader.imported_from m before last ts ≡ reader.imported_from n before last ts
imported_enough zero zero before last ts l r = refl
imported_enough zero (suc n) before last [] l r = refl
imported_enough zero (suc n) before last (token ∷ ts) l r = absurd (omega arith)
imported_enough (suc m) zero before last [] l r = refl
imported_enough (suc m) zero before last (token ∷ ts) l r = absurd (omega arith)
imported_enough (suc m) (suc n) before last [] l r = refl
imported_enough (suc m) (suc n) before last (kind.Sym y.Dot ∷ []) l r = refl
imported_enough (suc m) (suc n) before last (kind.Sym y.Dot ∷ kind.Ident part ∷ ts) l r = imported_enough m n (before ++ last ∷ []) part ts (omega arith) (omega arith)
imported_enough (suc m) (suc n) before last (kind.Sym y.Dot ∷ kind.Sym y.Star ∷ ts) l r = refl
imported_enough (suc m) (suc n) before last (kind.Sym y.Dot ∷ token ∷ ts) l r = refl
imported_enough (suc m) (suc n) before last (token ∷ ts) l r = refl

static_enough : (m n : ℕ) (before : List Text) (last : Text) (ts : List Kind) → length ts ≤ m → length ts ≤ n → reader.static_from m before last ts ≡ reader.static_from n before last ts
static_enough zero zero before last ts l r = refl
static_enough zero (suc n) [] last [] l r = refl
static_enough zero (suc n) (part ∷ before) last [] l r = refl
static_enough zero (suc n) before last (token ∷ ts) l r = absurd (omega arith)
static_enough (suc m) zero [] last [] l r = refl
static_enough (suc m) zero (part ∷ before) last [] l r = refl
static_enough (suc m) zero before last (token ∷ ts) l r = absurd (omega arith)
static_enough (suc m) (suc n) [] last [] l r = refl
static_enough (suc m) (suc n) (part ∷ before) last [] l r = refl
static_enough (suc m) (suc n) before last (kind.Sym y.Dot ∷ []) l r = refl
static_enough (suc m) (suc n) before last (kind.Sym y.Dot ∷ kind.Ident part ∷ ts) l r = static_enough m n (before ++ last ∷ []) part ts (omega arith) (omega arith)
static_enough (suc m) (suc n) before last (kind.Sym y.Dot ∷ token ∷ ts) l r = refl
static_enough (suc m) (suc n) [] last (token ∷ ts) l r = refl
static_enough (suc m) (suc n) (part ∷ before) last (token ∷ ts) l r = refl

module _ (room other : ℕ) (le : room ≤ other) where
  abbrev imported : List Text → Text → Parser Import
  imported before last us = reader.imported_from (length us) before last us

  star_near : (before : List Text) (last : Text) → Near room other le (expect y.Semicolon >> pure (import.OnDemand (name_of (before ++ last ∷ [])))) (expect y.Semicolon >> pure (import.OnDemand (name_of (before ++ last ∷ []))))
  star_near before last = then (symbol y.Semicolon) (λ u. gives (import.OnDemand (name_of (before ++ last ∷ []))))

  -- behind a dot
  abbrev dotted : List Text → Text → Parser Import
  dotted before last us = imported before last (kind.Sym y.Dot ∷ us)

  imported_kept : (turns : ℕ) (before : List Text) (last : Text) (ts : List Kind) → length ts ≤ turns → Kept room other le (imported before last) ts (reader.imported_from turns before last ts)
  imported_kept zero before last [] l = λ wider. here room other le (imported before last) (λ w. Err (NoTree, w)) [] (λ w e. let n = no_first w e in rw n refl)
  imported_kept zero before last (token ∷ ts) l = absurd (omega arith)
  imported_kept (suc turns) before last [] l = λ wider. here room other le (imported before last) (λ w. Err (NoTree, w)) [] (λ w e. let n = no_first w e in rw n refl)
  imported_kept (suc turns) before last (kind.Sym y.Dot ∷ []) l = λ wider. record { front = kind.Sym y.Dot ∷ []; split = refl; again = λ w e. let n = no_first w e in rw n refl }
  imported_kept (suc turns) before last (kind.Sym y.Dot ∷ kind.Ident part ∷ ts) l =
      along room other le (dotted before last) (imported before last) (kind.Sym y.Dot) (kind.Ident part ∷ ts) (reader.imported_from turns (before ++ last ∷ []) part ts) (λ us. refl)
      (along room other le (imported (before ++ last ∷ []) part) (dotted before last) (kind.Ident part) ts (reader.imported_from turns (before ++ last ∷ []) part ts)
      (λ us. imported_enough (suc (length us)) (length us) (before ++ last ∷ []) part us (omega arith) (omega arith)) (imported_kept turns (before ++ last ∷ []) part ts (omega arith)))
  imported_kept (suc turns) before last (kind.Sym y.Dot ∷ kind.Sym y.Star ∷ ts) l =
      let end = expect y.Semicolon >> pure (import.OnDemand (name_of (before ++ last ∷ []))) in
      along room other le (dotted before last) (imported before last) (kind.Sym y.Dot) (kind.Sym y.Star ∷ ts) (end ts) (λ us. refl)
      (along room other le end (dotted before last) (kind.Sym y.Star) ts (end ts) (λ us. refl) ((star_near before last).kept ts))
  imported_kept (suc turns) before last (kind.Sym y.Dot ∷ token ∷ ts) l = λ wider. record {
    front = kind.Sym y.Dot ∷ [];
    split = refl;
    again = λ w e. let v = one_first token w e in rw v.1 refl;
  }
  imported_kept (suc turns) before last (kind.Sym y.Semicolon ∷ ts) l = record { front = kind.Sym y.Semicolon ∷ []; split = refl; again = λ w e. refl }
  imported_kept (suc turns) before last (token ∷ ts) l = λ wider. at_token room other le (imported before last) NoTree token ts (λ us. refl)

  abbrev static : List Text → Text → Parser Import
  static before last us = reader.static_from (length us) before last us

  abbrev static_dotted : List Text → Text → Parser Import
  static_dotted before last us = static before last (kind.Sym y.Dot ∷ us)

  end_near : (part : Text) (before : List Text) (last : Text) → Near room other le (expect y.Semicolon >> pure (import.StaticSingle (name_of (part ∷ before)) last)) (expect y.Semicolon >> pure (import.StaticSingle (name_of (part ∷ before)) last))
  end_near part before last = then (symbol y.Semicolon) (λ u. gives (import.StaticSingle (name_of (part ∷ before)) last))

  static_kept : (turns : ℕ) (before : List Text) (last : Text) (ts : List Kind) → length ts ≤ turns → Kept room other le (static before last) ts (reader.static_from turns before last ts)
  static_kept zero before last [] l = λ wider. here room other le (static before last) (λ w. Err (NoTree, w)) [] (λ w e. let n = no_first w e in rw n refl)
  static_kept zero before last (token ∷ ts) l = absurd (omega arith)
  static_kept (suc turns) [] last [] l = λ wider. here room other le (static [] last) (λ w. Err (NoTree, w)) [] (λ w e. let n = no_first w e in rw n refl)
  static_kept (suc turns) (part ∷ before) last [] l = λ wider. here room other le (static (part ∷ before) last) (λ w. Err (NoTree, w)) [] (λ w e. let n = no_first w e in rw n refl)
  static_kept (suc turns) before last (kind.Sym y.Dot ∷ []) l = λ wider. record { front = kind.Sym y.Dot ∷ []; split = refl; again = λ w e. let n = no_first w e in rw n refl }
  static_kept (suc turns) before last (kind.Sym y.Dot ∷ kind.Ident part ∷ ts) l =
      along room other le (static_dotted before last) (static before last) (kind.Sym y.Dot) (kind.Ident part ∷ ts) (reader.static_from turns (before ++ last ∷ []) part ts) (λ us. refl)
      (along room other le (static (before ++ last ∷ []) part) (static_dotted before last) (kind.Ident part) ts (reader.static_from turns (before ++ last ∷ []) part ts)
      (λ us. static_enough (suc (length us)) (length us) (before ++ last ∷ []) part us (omega arith) (omega arith)) (static_kept turns (before ++ last ∷ []) part ts (omega arith)))
  static_kept (suc turns) before last (kind.Sym y.Dot ∷ token ∷ ts) l = λ wider. record {
    front = kind.Sym y.Dot ∷ [];
    split = refl;
    again = λ w e. let v = one_first token w e in rw v.1 refl;
  }
  static_kept (suc turns) (part ∷ before) last (kind.Sym y.Semicolon ∷ ts) l = record { front = kind.Sym y.Semicolon ∷ []; split = refl; again = λ w e. refl }
  static_kept (suc turns) [] last (token ∷ ts) l = λ wider. at_token room other le (static [] last) NoTree token ts (λ us. refl)
  static_kept (suc turns) (part ∷ before) last (token ∷ ts) l = λ wider. at_token room other le (static (part ∷ before) last) NoTree token ts (λ us. refl)

  imported_near : (head : Text) → Near room other le (imported [] head) (imported [] head)
  imported_near head = record { kept = λ ts. imported_kept (length ts) [] head ts (omega arith) }

  static_near : (head : Text) → Near room other le (static [] head) (static [] head)
  static_near head = record { kept = λ ts. static_kept (length ts) [] head ts (omega arith) }

  import_near : Near room other le reader.import_decl reader.import_decl
  unfolding reader.import_decl
  import_near = then (word k.Import) (λ u. if_word k.Static (skips (then ident static_near)) (then ident imported_near))

  -- ---- units

  package_near : Near room other le reader.package_decl reader.package_decl
  package_near = if_word k.Package (skips (then (name_near room other le) (λ n. then (symbol y.Semicolon) (λ u. gives (Some (reader.package_of n)))))) (gives None)

  ended_near : (u : d.CompilationUnit) → Near room other le (reader.ended u) (reader.ended u)
  ended_near u = record { kept = go } where
    go : Local room other le (reader.ended u) (reader.ended u)
    go [] = here room other le (reader.ended u) (λ w. Ok (u, w)) [] (λ w e. let n = no_first w e in rw n refl)
    go (token ∷ ts) = λ wider. at_token room other le (reader.ended u) NoTree token ts (λ us. refl)

  pub decl_near : Near room other le (reader.modifiers >>= reader.decl room) (reader.modifiers >>= reader.decl other)
  decl_near = then (modifiers_near room other le) (both_near room other le).decl

  pub unit_near : Near room other le (reader.unit room) (reader.unit other)
  unfolding reader.unit
  unit_near =
      let short = shortens_by IsShapedImport write_import reader.import_decl imports.import_sound imports.import_longer in
      then package_near (λ p. then (several (next_is is_import) refl short short import_near) (λ all. then
      (several starts_decl refl (shortens_by (imports.Fits room) write_decl (reader.modifiers >>= reader.decl room) (imports.decl_item room) (imports.decl_longer room))
      (shortens_by (imports.Fits other) write_decl (reader.modifiers >>= reader.decl other) (imports.decl_item other) (imports.decl_longer other)) decl_near)
      (λ types. ended_near (d.UnitOf p all types))))
