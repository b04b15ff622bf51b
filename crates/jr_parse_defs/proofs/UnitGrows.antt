-- Where reading a unit stops, what stands before begins one.
use Rattle.std.proofs.Common.{◌≡◌, ℕ, zero, suc, ◌≤◌, List, [], ◌∷◌, ◌++◌, length, Option, Some, Err, refl, sym, ap, subst, arith}
use Rattle.std.specs.Prelude.{IfSome}
use Rattle.std.specs.List.{AllByRecursion}
use Rattle.jr_base.specs.declared.text.Text.{Text}
use Rattle.jr_base.specs.declared.kind.Kind.{Kind}
use Rattle.jr_base.specs.declared.kind.Kind.TheVariants as kind
use Rattle.jr_base.specs.declared.kind.Symbol.TheVariants as y
use Rattle.jr_base.specs.declared.kind.Keyword.TheVariants as k
use Rattle.jr_tree.specs.declared.tree.PackageDecl.{PackageDecl}
use Rattle.jr_tree.specs.declared.tree.Import.{Import}
use Rattle.jr_tree.specs.declared.tree.Import.TheVariants as import
use Rattle.jr_tree.specs.Words.{package_tokens, import_tokens}
use Rattle.jr_tree.specs.Shape.{IsShapedDecl, IsShapedPackage, IsShapedImport, IsShapedUnit}
use Rattle.jr_tree.specs.Depth.{deepest, decl_depth, unit_depth}
use Rattle.jr_tree.specs.Tokens.{decl_tokens}
use Rattle.jr_tree.specs.Mirror.Decls as d
use Rattle.jr_parse_laws.specs.declared.fault.Fault.{Fault}
use Rattle.jr_parse_laws.specs.declared.fault.Fault.TheVariants.{NoTree}
use Rattle.jr_parse_laws.specs.Parsers.{many, ◌>>=◌}
use Rattle.jr_parse_laws.proofs.Outcomes.{ok_err, err_is}
use Rattle.jr_parse_laws.proofs.Stops.{Leading, leading_nothing}
use Rattle.jr_parse_starts.specs.Starts.{next_is}
use Rattle.jr_parse_expr.specs.Names.{name_of}
use Rattle.jr_parse_expr.specs.Writing.{write_all}
use Rattle.jr_parse_expr.proofs.NameReads.{name_sound, has_parts, all_append}
use Rattle.jr_parse_expr.proofs.NameGrowths.{leading_name}
use Rattle.jr_parse_expr.proofs.Growths.{Growing, leading_tokens, leading_then}
use Rattle.jr_parse_defs.specs.Begins.{starts_decl, is_import}
use Rattle.jr_parse_defs.specs.Decls as reader
use Rattle.jr_parse_defs.specs.Writing.{write_some, write_many, write_decl, write_package, write_import, write_imports, write_unit}
use Rattle.jr_parse_defs.proofs.Written.{decl_written, import_written, package_written}
use Rattle.jr_parse_defs.proofs.Lists.{list_sound, asunder}
use Rattle.jr_parse_defs.proofs.Imports as imports
use Rattle.jr_parse_defs.proofs.Imports.{package_sound}
use Rattle.jr_parse_defs.proofs.Grows.{Low, part, gone, on, word_on, ident_on, ends_with, at_word, many_grow, one_of, leading_many, shaped_append, flat, flat_list}
use Rattle.jr_parse_defs.proofs.Starters.{leading_some, leading_names, leading_word, leading_symbol}
use Rattle.jr_parse_defs.proofs.DeclGrows.{a_name_grow, decl_grow}

leading_package : (p : PackageDecl) → Leading (write_package p)
leading_package p = leading_tokens (write_package p) (package_tokens p) (package_written p)

leading_import : (i : Import) → Leading (write_import i)
leading_import i = leading_tokens (write_import i) (import_tokens i) (import_written i)

leading_decl : (t : d.TypeDecl) → Leading (write_decl t)
leading_decl t = leading_tokens (write_decl t) (decl_tokens t) (decl_written t)

abbrev semi : List Kind → List Kind
semi z = kind.Sym y.Semicolon ∷ z

-- ---- imports

module _ (room : ℕ) where
  abbrev AnImport : List Kind → Fault × List Kind → Type 0
  AnImport ts stop = Growing (Low IsShapedImport flat) write_import room ts stop

  abbrev from : List Text → Text → List Kind → List Kind
  from before final ts = kind.Word k.Import ∷ write_all (before ++ final ∷ []) ts

  leading_from : (before : List Text) (final : Text) → Leading (from before final)
  leading_from before final = leading_then (leading_word k.Import) (leading_names (before ++ final ∷ []))

  -- nothing that goes on with the name, and nothing that may stand behind its dot
  name_gone : (before : List Text) (final : Text) {ts : List Kind} {stop : Fault × List Kind} → (NoTree, ts) ≡ stop → AnImport (from before final ts) stop
  name_gone before final e = gone e (leading_from before final) (import.Single (name_of (before ++ final ∷ []))) semi (λ z. refl) (has_parts before final) (omega arith)

  dot_gone : (before : List Text) (final : Text) {ts : List Kind} {stop : Fault × List Kind} → (NoTree, ts) ≡ stop → AnImport (from before final (kind.Sym y.Dot ∷ ts)) stop
  dot_gone before final e =
      gone e (leading_then (leading_from before final) (leading_symbol y.Dot)) (import.Single (name_of ((before ++ final ∷ []) ++ [] ∷ []))) (λ z. kind.Ident [] ∷ semi z) (λ z. ap (λ ts. kind.Word k.Import ∷ ts) (all_append before final ([] ∷ []) (semi z)))
      (has_parts (before ++ final ∷ []) []) (omega arith)

  from_grow : (turns : ℕ) (before : List Text) (final : Text) (ts : List Kind) (stop : Fault × List Kind) → length ts ≤ turns → reader.imported_from turns before final ts ≡ Err stop → AnImport (from before final ts) stop
  from_grow zero before final [] stop l h = name_gone before final (err_is h)
  from_grow zero before final (token ∷ ts) stop l h = absurd (omega arith)
  from_grow (suc turns) before final [] stop l h = name_gone before final (err_is h)
  from_grow (suc turns) before final (kind.Sym y.Dot ∷ []) stop l h = dot_gone before final (err_is h)
  from_grow (suc turns) before final (kind.Sym y.Dot ∷ kind.Ident part ∷ ts) stop l h =
      subst (λ ts. AnImport (kind.Word k.Import ∷ ts) stop) (all_append before final (part ∷ []) ts) (from_grow turns (before ++ final ∷ []) part ts stop (omega arith) h)
  from_grow (suc turns) before final (kind.Sym y.Dot ∷ kind.Sym y.Star ∷ ts) stop l h =
      gone (ends_with y.Semicolon ts h (λ u us next. ok_err next)) (leading_then (leading_from before final) (leading_then (leading_symbol y.Dot) (leading_symbol y.Star))) (import.OnDemand (name_of (before ++ final ∷ []))) semi (λ z. refl)
      (has_parts before final) (omega arith)
  from_grow (suc turns) before final (kind.Sym y.Dot ∷ token ∷ ts) stop l h = dot_gone before final (err_is h)
  from_grow (suc turns) before final (kind.Sym y.Semicolon ∷ ts) stop l h = absurd (ok_err h)
  from_grow (suc turns) before final (token ∷ ts) stop l h = name_gone before final (err_is h)

  abbrev static_from : List Text → Text → List Kind → List Kind
  static_from before final ts = kind.Word k.Import ∷ kind.Word k.Static ∷ write_all (before ++ final ∷ []) ts

  leading_static : (before : List Text) (final : Text) → Leading (static_from before final)
  leading_static before final = leading_then (leading_word k.Import) (leading_then (leading_word k.Static) (leading_names (before ++ final ∷ [])))

  static_gone : (before : List Text) (final : Text) {ts : List Kind} {stop : Fault × List Kind} → (NoTree, ts) ≡ stop → AnImport (static_from before final ts) stop
  static_gone before final e =
      gone e (leading_static before final) (import.StaticSingle (name_of (before ++ final ∷ [])) []) (λ z. kind.Sym y.Dot ∷ kind.Ident [] ∷ semi z) (λ z. refl) (has_parts before final) (omega arith)

  member_gone : (before : List Text) (final : Text) {ts : List Kind} {stop : Fault × List Kind} → (NoTree, ts) ≡ stop → AnImport (static_from before final (kind.Sym y.Dot ∷ ts)) stop
  member_gone before final e =
      gone e (leading_then (leading_static before final) (leading_symbol y.Dot)) (import.StaticSingle (name_of (before ++ final ∷ [])) []) (λ z. kind.Ident [] ∷ semi z) (λ z. refl) (has_parts before final) (omega arith)

  static_grow : (turns : ℕ) (before : List Text) (final : Text) (ts : List Kind) (stop : Fault × List Kind) → length ts ≤ turns → reader.static_from turns before final ts ≡ Err stop → AnImport (static_from before final ts) stop
  static_grow zero before final [] stop l h = static_gone before final (err_is h)
  static_grow zero before final (token ∷ ts) stop l h = absurd (omega arith)
  static_grow (suc turns) [] final [] stop l h = static_gone [] final (err_is h)
  static_grow (suc turns) (part ∷ before) final [] stop l h = static_gone (part ∷ before) final (err_is h)
  static_grow (suc turns) before final (kind.Sym y.Dot ∷ []) stop l h = member_gone before final (err_is h)
  static_grow (suc turns) before final (kind.Sym y.Dot ∷ kind.Ident part ∷ ts) stop l h =
      subst (λ ts. AnImport (kind.Word k.Import ∷ kind.Word k.Static ∷ ts) stop) (all_append before final (part ∷ []) ts) (static_grow turns (before ++ final ∷ []) part ts stop (omega arith) h)
  static_grow (suc turns) before final (kind.Sym y.Dot ∷ token ∷ ts) stop l h = member_gone before final (err_is h)
  static_grow (suc turns) (part ∷ before) final (kind.Sym y.Semicolon ∷ ts) stop l h = absurd (ok_err h)
  static_grow (suc turns) [] final (token ∷ ts) stop l h = static_gone [] final (err_is h)
  static_grow (suc turns) (part ∷ before) final (token ∷ ts) stop l h = static_gone (part ∷ before) final (err_is h)

  import_grow : (ts : List Kind) (stop : Fault × List Kind) → reader.import_decl ts ≡ Err stop → AnImport ts stop
  unfolding reader.import_decl
  import_grow ts stop h =
      let a = name_of ([] ∷ []) in
      word_on k.Import ts (λ ts. AnImport ts stop) h
      (λ g. gone g leading_nothing (import.Single a) (λ z. kind.Word k.Import ∷ kind.Ident [] ∷ semi z) (λ z. refl) refl (omega arith))
      (λ u us next. at_word k.Static us (λ us. AnImport (kind.Word k.Import ∷ us) stop) next
      (λ vs g. ident_on vs (λ vs. AnImport (kind.Word k.Import ∷ kind.Word k.Static ∷ vs) stop) g
      (λ i. gone i (leading_then (leading_word k.Import) (leading_word k.Static)) (import.StaticSingle a []) (λ z. kind.Ident [] ∷ kind.Sym y.Dot ∷ kind.Ident [] ∷ semi z) (λ z. refl) refl (omega arith))
      (λ n ws i. static_grow (length ws) [] n ws stop (omega arith) i))
      (λ f g. ident_on us (λ us. AnImport (kind.Word k.Import ∷ us) stop) g
      (λ i. gone i (leading_word k.Import) (import.Single a) (λ z. kind.Ident [] ∷ semi z) (λ z. refl) refl (omega arith))
      (λ n ws i. from_grow (length ws) [] n ws stop (omega arith) i)))

  -- ---- units

  abbrev AUnit : List Kind → Fault × List Kind → Type 0
  AUnit ts stop = Growing (Low IsShapedUnit unit_depth) write_unit room ts stop

  package_grow : (ts : List Kind) (stop : Fault × List Kind) → reader.package_decl ts ≡ Err stop → AUnit ts stop
  package_grow ts stop h =
      at_word k.Package ts (λ ts. AUnit ts stop) h
      (λ us g. on g (λ e. part (leading_word k.Package) (λ n. d.UnitOf (Some (reader.package_of n)) [] []) semi (λ n z. refl) (λ n is. (is, tt, tt)) (λ n l. omega arith) (a_name_grow room us stop e))
      (λ n vs e next.
      let found = name_sound us (n, vs) e in
      subst (λ us. AUnit (kind.Word k.Package ∷ us) stop) (sym found.1)
      (gone (ends_with y.Semicolon vs next (λ u us next. ok_err next)) (leading_then (leading_word k.Package) (leading_name n)) (d.UnitOf (Some (reader.package_of n)) [] []) semi (λ z. refl) (found.0, tt, tt) (omega arith))))
      (λ f g. absurd (ok_err g))

  imports_grow : (p : Option PackageDecl) → IfSome p IsShapedPackage → (ts : List Kind) (stop : Fault × List Kind) → many (next_is is_import) reader.import_decl ts ≡ Err stop → AUnit (write_some write_package p ts) stop
  imports_grow p is ts stop h =
      part (leading_some write_package leading_package p) (λ all. d.UnitOf p all []) (λ z. z) (λ all z. refl) (λ all are. (is, are, tt)) (λ all l. omega arith)
      (many_grow flat (next_is is_import) reader.import_decl refl IsShapedImport write_import imports.import_sound imports.import_longer room leading_import (shaped_append (λ i is. is)) (λ all are. flat_list room all) ts stop h
      (λ us starts e. one_of {Shape = IsShapedImport} (λ i is. (is, tt)) (import_grow us stop e)))

  types_grow : 1 ≤ room → (p : Option PackageDecl) (all : List Import) → IfSome p IsShapedPackage → AllByRecursion IsShapedImport all → (ts : List Kind) (stop : Fault × List Kind)
      → many starts_decl (reader.modifiers >>= reader.decl room) ts ≡ Err stop → AUnit (write_some write_package p (write_imports all ts)) stop
  types_grow some p all is are ts stop h =
      part (leading_then (leading_some write_package leading_package p) (leading_many write_import leading_import all)) (λ types. d.UnitOf p all types) (λ z. z) (λ types z. refl) (λ types types_are. (is, are, types_are)) (λ types l. l)
      (many_grow decl_depth starts_decl (reader.modifiers >>= reader.decl room) refl (imports.Fits room) write_decl (imports.decl_item room) (imports.decl_longer room) room leading_decl (shaped_append (λ t is. is.0))
      (λ all are. (asunder IsShapedDecl decl_depth room all are).1) ts stop h (λ us starts e. one_of {Shape = IsShapedDecl} (λ t is. (is, tt)) (decl_grow room some us stop e)))

  ended_grow : (p : Option PackageDecl) (all : List Import) (types : List d.TypeDecl) → IfSome p IsShapedPackage → AllByRecursion IsShapedImport all → AllByRecursion IsShapedDecl types → deepest decl_depth types ≤ room → (ts : List Kind) (stop : Fault × List Kind)
      → reader.ended (d.UnitOf p all types) ts ≡ Err stop → AUnit (write_some write_package p (write_imports all (write_many write_decl types ts))) stop
  ended_grow p all types is are types_are low [] stop h = absurd (ok_err h)
  ended_grow p all types is are types_are low (token ∷ ts) stop h =
      gone (err_is h) (leading_then (leading_some write_package leading_package p) (leading_then (leading_many write_import leading_import all) (leading_many write_decl leading_decl types))) (d.UnitOf p all types) (λ z. z) (λ z. refl) (is, are, types_are) low

  pub unit_grow : 1 ≤ room → (ts : List Kind) (stop : Fault × List Kind) → reader.unit room ts ≡ Err stop → AUnit ts stop
  unfolding reader.unit
  unit_grow some ts stop h =
      on h (λ e. package_grow ts stop e)
      (λ p us e next.
      let declared = package_sound ts (p, us) e in
      subst (λ ts. AUnit ts stop) (sym declared.1)
      (on next (λ e. imports_grow p declared.0 us stop e)
      (λ all vs e next.
      let found = list_sound (next_is is_import) reader.import_decl refl IsShapedImport write_import imports.import_sound imports.import_longer us (all, vs) e in
      subst (λ us. AUnit (write_some write_package p us) stop) (sym found.written)
      (on next (λ e. types_grow some p all declared.0 found.are vs stop e)
      (λ types ws e next.
      let decls = list_sound starts_decl (reader.modifiers >>= reader.decl room) refl (imports.Fits room) write_decl (imports.decl_item room) (imports.decl_longer room) vs (types, ws) e in
      let both = asunder IsShapedDecl decl_depth room types decls.are in
      subst (λ vs. AUnit (write_some write_package p (write_imports all vs)) stop) (sym decls.written) (ended_grow p all types declared.0 found.are both.0 both.1 ws stop next))))))
