-- Reading imports and whole units is exact in both directions.
use Rattle.std.proofs.Common.{◌≡◌, ℕ, zero, suc, ◌≤◌, true, false, not, List, [], ◌∷◌, ◌++◌, length, Option, Some, None, Ok, refl, sym, ap, ◌∙◌, subst, inl, inr, append_assoc, append-nil, arith}
use Rattle.std.specs.Prelude.{IfSome}
use Rattle.std.specs.List.{AllByRecursion}
use Rattle.jr_base.specs.declared.text.Text.{Text}
use Rattle.jr_base.specs.declared.kind.Kind.{Kind}
use Rattle.jr_base.specs.declared.kind.Kind.TheVariants as kind
use Rattle.jr_base.specs.declared.kind.Symbol.TheVariants as y
use Rattle.jr_base.specs.declared.kind.Keyword.TheVariants as k
use Rattle.jr_tree.specs.declared.tree.PackageDecl.{PackageDecl}
use Rattle.jr_tree.specs.declared.tree.Import.{Import}
use Rattle.jr_tree.specs.declared.tree.Import.TheVariants as import
use Rattle.jr_tree.specs.Shape.{is_empty, IsShapedDecl, IsShapedPackage, IsShapedImport, IsShapedUnit}
use Rattle.jr_tree.specs.Depth.{deepest, decl_depth, unit_depth}
use Rattle.jr_tree.specs.Tokens.{decl_tokens, unit_tokens}
use Rattle.jr_tree.specs.Words.{import_tokens}
use Rattle.jr_tree.specs.Mirror.Decls as d
use Rattle.jr_parse_laws.specs.Parsers.{first, is_at, is_at_word, identifier, many, ◌>>=◌}
use Rattle.jr_parse_laws.proofs.Outcomes.{bind_ok, chosen, ok_is, err_ok}
use Rattle.jr_parse_laws.proofs.Exact.{identifier_token}
use Rattle.jr_parse_starts.specs.Starts.{next_is}
use Rattle.jr_parse_expr.specs.Names.{name_of, name}
use Rattle.jr_parse_expr.specs.Writing.{write_parts, write_all, write_name}
use Rattle.jr_parse_expr.proofs.NameReads.{name_read, name_sound, has_parts, parts_append, all_append}
use Rattle.jr_parse_defs.specs.Begins.{starts_decl, is_import}
use Rattle.jr_parse_defs.specs.Decls as reader
use Rattle.jr_parse_defs.specs.Writing.{write_some, write_decl, write_decls, write_package, write_import, write_imports, write_unit}
use Rattle.jr_parse_defs.specs.Laws.{IsUnitRead, IsUnitComplete, IsUnitSound}
use Rattle.jr_parse_defs.proofs.Written.{decl_written, import_written, unit_written}
use Rattle.jr_parse_defs.proofs.Tokens.{eats, eats_word, skipped, skipped_word}
use Rattle.jr_parse_defs.proofs.Lists.{together, asunder, Sound, list_read, list_sound}
use Rattle.jr_parse_defs.proofs.Blocks.{longer_first}
use Rattle.jr_parse_defs.proofs.Units.{longer_starts, decl_starts, decls_complete, decls_sound}

abbrev semi : List Kind → List Kind
semi rest = kind.Sym y.Semicolon ∷ rest

-- ---- imports that are not static

parts_longer : (all : List Text) (ts : List Kind) → length ts ≤ length (write_parts all ts)
parts_longer [] ts = omega arith
parts_longer (part ∷ all) ts = let l = parts_longer all ts in omega arith

single_read : (turns : ℕ) (before : List Text) (last : Text) (all : List Text) (rest : List Kind) → length (write_parts all (semi rest)) ≤ turns
    → reader.imported_from turns before last (write_parts all (semi rest)) ≡ Ok (import.Single (name_of (before ++ last ∷ all)), rest)
single_read zero before last all rest l = absurd (let p = parts_longer all (semi rest) in omega arith)
single_read (suc turns) before last [] rest l = refl
single_read (suc turns) before last (part ∷ all) rest l =
    single_read turns (before ++ last ∷ []) part all rest (omega arith) ∙ ap (λ all. Ok (import.Single (name_of all), rest)) (append_assoc before (last ∷ []) (part ∷ all))

abbrev star : List Kind → List Kind
star rest = kind.Sym y.Dot ∷ kind.Sym y.Star ∷ semi rest

demand_read : (turns : ℕ) (before : List Text) (last : Text) (all : List Text) (rest : List Kind) → length (write_parts all (star rest)) ≤ turns
    → reader.imported_from turns before last (write_parts all (star rest)) ≡ Ok (import.OnDemand (name_of (before ++ last ∷ all)), rest)
demand_read zero before last all rest l = absurd (let p = parts_longer all (star rest) in omega arith)
demand_read (suc turns) before last [] rest l = refl
demand_read (suc turns) before last (part ∷ all) rest l =
    demand_read turns (before ++ last ∷ []) part all rest (omega arith) ∙ ap (λ all. Ok (import.OnDemand (name_of all), rest)) (append_assoc before (last ∷ []) (part ∷ all))

pub record ImportFound (front : List Kind → List Kind) (ts : List Kind) (r : Import × List Kind) : Type 0 where
  pub shaped : IsShapedImport r.0
  pub written : kind.Word k.Import ∷ front ts ≡ write_import r.0 r.1

from_sound : (turns : ℕ) (before : List Text) (last : Text) (ts : List Kind) (r : Import × List Kind) → reader.imported_from turns before last ts ≡ Ok r → ImportFound (write_all (before ++ last ∷ [])) ts r
from_sound zero before last ts r h = absurd (err_ok h)
from_sound (suc turns) before last [] r h = absurd (err_ok h)
from_sound (suc turns) before last (kind.Sym y.Dot ∷ []) r h = absurd (err_ok h)
from_sound (suc turns) before last (kind.Sym y.Dot ∷ kind.Ident n ∷ ts) r h =
    let found = from_sound turns (before ++ last ∷ []) n ts r h in
    record { shaped = found.shaped; written = ap (λ us. kind.Word k.Import ∷ us) (sym (all_append before last (n ∷ []) ts)) ∙ found.written }
from_sound (suc turns) before last (kind.Sym y.Dot ∷ kind.Sym y.Star ∷ ts) r h =
    let e = eats y.Semicolon ts _ r h in
    subst (ImportFound (write_all (before ++ last ∷ [])) (kind.Sym y.Dot ∷ kind.Sym y.Star ∷ ts)) (ok_is e.more)
    (record { shaped = has_parts before last; written = ap (λ us. kind.Word k.Import ∷ write_all (before ++ last ∷ []) (kind.Sym y.Dot ∷ kind.Sym y.Star ∷ us)) e.written })
from_sound (suc turns) before last (kind.Sym y.Dot ∷ token ∷ ts) r h = absurd (err_ok h)
from_sound (suc turns) before last (kind.Sym y.Semicolon ∷ ts) r h =
    subst (ImportFound (write_all (before ++ last ∷ [])) (semi ts)) (ok_is h) (record { shaped = has_parts before last; written = refl })
from_sound (suc turns) before last (token ∷ ts) r h = absurd (err_ok h)

-- ---- static imports

abbrev member_end : Text → List Kind → List Kind
member_end member rest = kind.Sym y.Dot ∷ kind.Ident member ∷ semi rest

static_last : (turns : ℕ) (before : List Text) (last member : Text) (rest : List Kind) → 1 ≤ turns → reader.static_from turns (before ++ last ∷ []) member (semi rest) ≡ Ok (import.StaticSingle (name_of (before ++ last ∷ [])) member, rest)
static_last zero before last member rest l = absurd (omega arith)
static_last (suc turns) [] last member rest l = refl
static_last (suc turns) (part ∷ before) last member rest l = refl

static_read : (turns : ℕ) (before : List Text) (last : Text) (all : List Text) (member : Text) (rest : List Kind) → length (write_parts all (member_end member rest)) ≤ turns
    → reader.static_from turns before last (write_parts all (member_end member rest)) ≡ Ok (import.StaticSingle (name_of (before ++ last ∷ all)) member, rest)
static_read zero before last all member rest l = absurd (let p = parts_longer all (member_end member rest) in omega arith)
static_read (suc turns) before last [] member rest l = static_last turns before last member rest (omega arith)
static_read (suc turns) before last (part ∷ all) member rest l =
    static_read turns (before ++ last ∷ []) part all member rest (omega arith) ∙ ap (λ all. Ok (import.StaticSingle (name_of all) member, rest)) (append_assoc before (last ∷ []) (part ∷ all))

abbrev static_front : List Text → Text → List Kind → List Kind
static_front before last ts = kind.Word k.Static ∷ write_all (before ++ last ∷ []) ts

static_sound : (turns : ℕ) (before : List Text) (last : Text) (ts : List Kind) (r : Import × List Kind) → reader.static_from turns before last ts ≡ Ok r → ImportFound (static_front before last) ts r
static_sound zero before last ts r h = absurd (err_ok h)
static_sound (suc turns) [] last ts r h =
    elim (chosen (is_at y.Dot ts) _ _ _ h) [
      | inl t ↦
          (let u = skipped y.Dot _ ts r t.0 t.1 in
          let n = bind_ok (identifier u.0) _ r u.2 in
          let found = static_sound turns (last ∷ []) n.0.0 n.0.1 r n.2 in
          record { shaped = found.shaped; written = ap (λ us. kind.Word k.Import ∷ static_front [] last us) (u.1 ∙ ap (λ us. kind.Sym y.Dot ∷ us) (identifier_token.took u.0 n.0 n.1)) ∙ found.written })
      | inr t ↦ absurd (err_ok t.1)
    ]
static_sound (suc turns) (part ∷ before) last ts r h =
    elim (chosen (is_at y.Dot ts) _ _ _ h) [
      | inl t ↦
          (let u = skipped y.Dot _ ts r t.0 t.1 in
          let n = bind_ok (identifier u.0) _ r u.2 in
          let found = static_sound turns ((part ∷ before) ++ last ∷ []) n.0.0 n.0.1 r n.2 in
          record {
            shaped = found.shaped;
            written = ap (λ us. kind.Word k.Import ∷ static_front (part ∷ before) last us) (u.1 ∙ ap (λ us. kind.Sym y.Dot ∷ us) (identifier_token.took u.0 n.0 n.1))
                ∙ ap (λ us. kind.Word k.Import ∷ kind.Word k.Static ∷ us) (sym (all_append (part ∷ before) last (n.0.0 ∷ []) n.0.1)) ∙ found.written;
          })
      | inr t ↦
          (let e = eats y.Semicolon ts _ r t.1 in
          subst (ImportFound (static_front (part ∷ before) last) ts) (ok_is e.more)
          (record {
            shaped = refl;
            written = ap (λ us. kind.Word k.Import ∷ static_front (part ∷ before) last us) e.written ∙ ap (λ us. kind.Word k.Import ∷ kind.Word k.Static ∷ kind.Ident part ∷ us) (parts_append before (last ∷ []) (semi e.rest));
          }))
    ]

-- ---- one import

single_name : (all : List Text) (rest : List Kind) → not (is_empty all) ≡ true → reader.import_decl (kind.Word k.Import ∷ write_all all (semi rest)) ≡ Ok (import.Single (name_of all), rest)
unfolding reader.import_decl
single_name [] rest some = absurd (cc)
single_name (head ∷ all) rest some = single_read (length (write_parts all (semi rest))) [] head all rest (omega arith)

demand_name : (all : List Text) (rest : List Kind) → not (is_empty all) ≡ true → reader.import_decl (kind.Word k.Import ∷ write_all all (star rest)) ≡ Ok (import.OnDemand (name_of all), rest)
unfolding reader.import_decl
demand_name [] rest some = absurd (cc)
demand_name (head ∷ all) rest some = demand_read (length (write_parts all (star rest))) [] head all rest (omega arith)

static_name : (all : List Text) (member : Text) (rest : List Kind) → not (is_empty all) ≡ true → reader.import_decl (kind.Word k.Import ∷ kind.Word k.Static ∷ write_all all (member_end member rest)) ≡ Ok (import.StaticSingle (name_of all) member, rest)
unfolding reader.import_decl
static_name [] member rest some = absurd (cc)
static_name (head ∷ all) member rest some = static_read (length (write_parts all (member_end member rest))) [] head all member rest (omega arith)

import_read : (i : Import) (rest : List Kind) → IsShapedImport i → reader.import_decl (write_import i rest) ≡ Ok (i, rest)
import_read (import.Single n) rest h = single_name n.parts rest h
import_read (import.OnDemand n) rest h = demand_name n.parts rest h
import_read (import.StaticSingle n member) rest h = static_name n.parts member rest h

pub import_sound : Sound IsShapedImport write_import reader.import_decl
unfolding reader.import_decl
import_sound ts r h =
    let w = eats_word k.Import ts _ r h in
    elim (chosen (is_at_word k.Static w.rest) _ _ _ w.more) [
      | inl t ↦
          (let u = skipped_word k.Static _ w.rest r t.0 t.1 in
          let n = bind_ok (identifier u.0) _ r u.2 in
          let found = static_sound (length n.0.1) [] n.0.0 n.0.1 r n.2 in
          (found.shaped, w.written ∙ ap (λ us. kind.Word k.Import ∷ us) (u.1 ∙ ap (λ us. kind.Word k.Static ∷ us) (identifier_token.took u.0 n.0 n.1)) ∙ found.written))
      | inr t ↦
          (let n = bind_ok (identifier w.rest) _ r t.1 in
          let found = from_sound (length n.0.1) [] n.0.0 n.0.1 r n.2 in
          (found.shaped, w.written ∙ ap (λ us. kind.Word k.Import ∷ us) (identifier_token.took w.rest n.0 n.1) ∙ found.written))
    ]

pub import_longer : (i : Import) (rest : List Kind) → IsShapedImport i → suc (length rest) ≤ length (write_import i rest)
import_longer (import.Single n) rest h = let i = import.Single n in longer_first (import_tokens i) rest (write_import i rest) (kind.Word k.Import) (import_written i rest) refl
import_longer (import.OnDemand n) rest h = let i = import.OnDemand n in longer_first (import_tokens i) rest (write_import i rest) (kind.Word k.Import) (import_written i rest) refl
import_longer (import.StaticSingle n member) rest h = let i = import.StaticSingle n member in longer_first (import_tokens i) rest (write_import i rest) (kind.Word k.Import) (import_written i rest) refl

import_starts : (i : Import) (rest : List Kind) → IsShapedImport i → next_is is_import (first (write_import i rest)) ≡ true
import_starts (import.Single n) rest h = refl
import_starts (import.OnDemand n) rest h = refl
import_starts (import.StaticSingle n member) rest h = refl

-- ---- what stands first

decl_no_import : (o : Option Kind) → starts_decl o ≡ true → next_is is_import o ≡ false
decl_no_import None h = refl
decl_no_import (Some (kind.Word k.Import)) h = absurd (cc)
decl_no_import (Some token) h = refl

decls_no_import : (ts : List d.TypeDecl) → next_is is_import (first (write_decls ts [])) ≡ false
decls_no_import [] = refl
decls_no_import (t ∷ ts) = decl_no_import _ (decl_starts t (write_decls ts []))

decl_no_package : (ts : List Kind) → starts_decl (first ts) ≡ true → is_at_word k.Package ts ≡ false
decl_no_package [] h = refl
decl_no_package (kind.Word k.Package ∷ ts) h = absurd (cc)
decl_no_package (token ∷ ts) h = refl

rest_no_package : (all : List Import) (ts : List d.TypeDecl) → is_at_word k.Package (write_imports all (write_decls ts [])) ≡ false
rest_no_package (import.Single n ∷ all) ts = refl
rest_no_package (import.OnDemand n ∷ all) ts = refl
rest_no_package (import.StaticSingle n member ∷ all) ts = refl
rest_no_package [] [] = refl
rest_no_package [] (t ∷ ts) = decl_no_package _ (decl_starts t (write_decls ts []))

package_read : (p : Option PackageDecl) (rest : List Kind) → IfSome p IsShapedPackage → is_at_word k.Package rest ≡ false → reader.package_decl (write_some write_package p rest) ≡ Ok (p, rest)
package_read None rest h none = rw none refl
package_read (Some p) rest h none = rw (name_read p.name (semi rest) h refl) refl

pub package_sound : (ts : List Kind) (r : Option PackageDecl × List Kind) → reader.package_decl ts ≡ Ok r → IfSome r.0 IsShapedPackage × (ts ≡ write_some write_package r.0 r.1)
package_sound ts r h =
    elim (chosen (is_at_word k.Package ts) _ _ _ h) [
      | inl t ↦
          (let u = skipped_word k.Package _ ts r t.0 t.1 in
          let n = bind_ok (name u.0) _ r u.2 in
          let found = name_sound u.0 n.0 n.1 in
          let e = eats y.Semicolon n.0.1 _ r n.2 in
          subst (λ (r : Option PackageDecl × List Kind). IfSome r.0 IsShapedPackage × (ts ≡ write_some write_package r.0 r.1)) (ok_is e.more)
          (found.0, u.1 ∙ ap (λ us. kind.Word k.Package ∷ us) (found.1 ∙ ap (write_name n.0.0) e.written)))
      | inr t ↦ subst (λ (r : Option PackageDecl × List Kind). IfSome r.0 IsShapedPackage × (ts ≡ write_some write_package r.0 r.1)) (ok_is t.1) (tt, refl)
    ]

-- ---- declarations of a unit

abbrev pub Fits : ℕ → d.TypeDecl → Type 0
Fits room t = IsShapedDecl t × (decl_depth t ≤ room)

pub decl_item : (room : ℕ) → Sound (Fits room) write_decl (reader.modifiers >>= reader.decl room)
decl_item room ts r h = let found = decls_sound room ts r h in ((found.shaped, found.low), found.written)

pub decl_longer : (room : ℕ) (t : d.TypeDecl) (rest : List Kind) → Fits room t → suc (length rest) ≤ length (write_decl t rest)
decl_longer room t rest is = longer_starts starts_decl (decl_tokens t) rest (write_decl t []) (write_decl t rest) refl (decl_written t []) (decl_starts t []) (decl_written t rest)

decls_read : (room : ℕ) (ts : List d.TypeDecl) → AllByRecursion IsShapedDecl ts → deepest decl_depth ts ≤ room → many starts_decl (reader.modifiers >>= reader.decl room) (write_decls ts []) ≡ Ok (ts, [])
decls_read room ts h low =
    list_read starts_decl (reader.modifiers >>= reader.decl room) refl (Fits room) write_decl (decl_item room) (decl_longer room) (λ o. Unit {0}) (λ o h. tt) (λ t rest is. decl_starts t rest)
    (λ t rest is h. decls_complete room t rest is.0 is.1) ts [] (together IsShapedDecl decl_depth room ts h low) refl tt

imports_read : (all : List Import) (ts : List d.TypeDecl) → AllByRecursion IsShapedImport all → many (next_is is_import) reader.import_decl (write_imports all (write_decls ts [])) ≡ Ok (all, write_decls ts [])
imports_read all ts are =
    list_read (next_is is_import) reader.import_decl refl IsShapedImport write_import import_sound import_longer (λ o. Unit {0}) (λ o h. tt) import_starts (λ i rest is h. import_read i rest is) all (write_decls ts []) are
    (decls_no_import ts) tt

-- ---- units

unit_read : (room : ℕ) (u : d.CompilationUnit) → IsShapedUnit u → unit_depth u ≤ room → reader.unit room (write_unit u []) ≡ Ok (u, [])
unfolding reader.unit
unit_read room (d.UnitOf p all ts) h low =
    rw (
      package_read p (write_imports all (write_decls ts [])) h.0 (rest_no_package all ts),
      imports_read all ts h.1,
      decls_read room ts h.2 low,
    ) refl

pub written_whole : (u : d.CompilationUnit) → write_unit u [] ≡ unit_tokens u
written_whole u = unit_written u [] ∙ append-nil (unit_tokens u)

pub units_complete : IsUnitComplete
units_complete room u h low = ap (reader.unit room) (sym (written_whole u)) ∙ unit_read room u h low

ended_sound : (u : d.CompilationUnit) (ts : List Kind) (r : d.CompilationUnit × List Kind) → reader.ended u ts ≡ Ok r → (ts ≡ []) × ((u, []) ≡ r)
ended_sound u [] r h = (refl, ok_is h)
ended_sound u (token ∷ ts) r h = absurd (err_ok h)

pub units_sound : IsUnitSound
unfolding reader.unit
units_sound room ts r h =
    let p = bind_ok (reader.package_decl ts) _ r h in
    let declared = package_sound ts p.0 p.1 in
    let i = bind_ok (many (next_is is_import) reader.import_decl p.0.1) _ r p.2 in
    let imports = list_sound (next_is is_import) reader.import_decl refl IsShapedImport write_import import_sound import_longer p.0.1 i.0 i.1 in
    let t = bind_ok (many starts_decl (reader.modifiers >>= reader.decl room) i.0.1) _ r i.2 in
    let types = list_sound starts_decl (reader.modifiers >>= reader.decl room) refl (Fits room) write_decl (decl_item room) (decl_longer room) i.0.1 t.0 t.1 in
    let both = asunder IsShapedDecl decl_depth room t.0.0 types.are in
    let u = d.UnitOf p.0.0 i.0.0 t.0.0 in
    let e = ended_sound u t.0.1 r t.2 in
    let written : ts ≡ write_unit u [] = declared.1 ∙ ap (write_some write_package p.0.0) (imports.written ∙ ap (write_imports i.0.0) (types.written ∙ ap (write_decls t.0.0) e.0)) in
    subst (IsUnitRead room ts) e.1
    (record { shaped = (declared.0, imports.are, both.0); low = both.1; written = written ∙ written_whole u; ended = refl })
