-- What the loops over modifiers, names, parameters, imports, members and declarations keep.
use Rattle.std.proofs.Common.{◌≡◌, ℕ, ◌<◌, true, false, List, [], ◌∷◌, ◌++◌, drop, length, map, Option, Some, None, Ok, Err, refl, sym, ap, ◌∙◌, length-append, arith}
use Rattle.std.proofs.lemmas.List.{map-append, length-map}
use Rattle.jr_base.specs.declared.kind.Kind.{Kind}
use Rattle.jr_base.specs.declared.kind.Symbol.{Symbol}
use Rattle.jr_base.specs.declared.token.Token.{Token}
use Rattle.jr_tree.specs.declared.tree.Modifier.{Modifier}
use Rattle.jr_tree.specs.Words.{name_tokens, param_tokens}
use Rattle.jr_parse_laws.specs.declared.cursor.Cursor.{Cursor}
use Rattle.jr_parse_laws.specs.declared.fault.Fault.{Fault}
use Rattle.jr_parse_laws.specs.Parsers.{Outcome, Parser, first, is_at, kinds, many, with_front, Fails, ◌>>=◌}
use Rattle.jr_parse_laws.proofs.Outcomes.{err_ok, ok_is}
use Rattle.jr_parse_laws.proofs.Lists.{Shortens, front_more, front_fails, front_done}
use Rattle.jr_parse_laws.proofs.Turns.{Keeps}
use Rattle.jr_parse_expr.specs.Exprs.{next_token}
use Rattle.jr_parse_expr.specs.Names.{name}
use Rattle.jr_parse_expr.specs.Writing.{write_name}
use Rattle.jr_parse_expr.proofs.Written.{name_written}
use Rattle.jr_parse_expr.proofs.NameReads.{name_sound}
use Rattle.jr_parse_defs.specs.Begins.{some, modifier_kind, starts_modifier}
use Rattle.jr_parse_defs.specs.Stmts.{param}
use Rattle.jr_parse_defs.specs.Decls.{modifier_by, modifiers, import_decl, member, decl}
use Rattle.jr_parse_defs.specs.Writing.{write_param, write_import, write_member, write_decl}
use Rattle.jr_parse_defs.proofs.Written.{param_written}
use Rattle.jr_parse_defs.proofs.Variables.{param_sound}
use Rattle.jr_parse_defs.proofs.Lists.{shortens_by}
use Rattle.jr_parse_defs.proofs.Units as units
use Rattle.jr_parse_defs.proofs.Imports as imports
use Rattle.jr_tree.specs.Shape.{IsShapedImport}
use Rattle.jr_parse.specs.Begun.{modifier_at}

-- ---- nothing before

pub front_nothing : {A : Type 0} (o : Outcome (List A)) → o ≡ with_front [] o
front_nothing (Ok p) = refl
front_nothing (Err e) = refl

-- ---- nearer to the end of the tokens

pub fewer_tokens : (old new : Cursor) → length (kinds new) < length (kinds old) → length new.rest.now < length old.rest.now
fewer_tokens old new h =
    let a = length-map old.rest.now (λ (t : Token). t.kind) in
    let b = length-map new.rest.now (λ (t : Token). t.kind) in
    omega arith

pub behind_one : (s : Symbol) (ts : List Kind) → is_at s ts ≡ true → length (drop 1 ts) < length ts
behind_one s [] h = absurd (cc)
behind_one s (k ∷ ts) h = omega arith

keeps_by : {A : Type 0} (p : Parser A) (write : A → List Kind → List Kind) (tokens : A → List Kind) → ((a : A) (rest : List Kind) → write a rest ≡ tokens a ++ rest)
    → ((ts : List Kind) (r : A × List Kind) → p ts ≡ Ok r → ts ≡ write r.0 r.1) → Keeps p
keeps_by p write tokens written sound ts a rest h =
    let e = ap (λ (l : List Kind). length l) (sound ts (a, rest) h ∙ written a rest) in
    let l = length-append (tokens a) rest in
    omega arith

pub name_keeps : Keeps name
name_keeps = keeps_by name write_name name_tokens name_written (λ ts r h. (name_sound ts r h).1)

pub param_keeps : Keeps param
param_keeps = keeps_by param write_param param_tokens param_written (λ ts r h. (param_sound ts r h).1)

pub item_shorter : {A : Type 0} (p : Parser A) → Keeps p → (s : Symbol) (ts : List Kind) (a : A) (rest : List Kind) → is_at s ts ≡ true → p (drop 1 ts) ≡ Ok (a, rest) → length rest < length ts
item_shorter p keeps s ts a rest h r = let one = behind_one s ts h in let other = keeps (drop 1 ts) a rest r in omega arith

-- ---- modifiers

abbrev one : Parser Modifier
one = next_token (λ token. modifier_by (modifier_kind token) token)

by_shorter : (o : Option Modifier) (token : Kind) (ts : List Kind) (m : Modifier) (rest : List Kind) → modifier_by o token ts ≡ Ok (m, rest) → length rest < length (token ∷ ts)
by_shorter None token ts m rest h = absurd (err_ok h)
by_shorter (Some found) token ts m rest h = let e = ap (λ (r : Modifier × List Kind). length r.1) (ok_is h) in omega arith

one_shortens : Shortens one
one_shortens [] m rest h = absurd (err_ok h)
one_shortens (token ∷ ts) m rest h = by_shorter (modifier_kind token) token ts m rest h

modifier_starts : (ts : List Kind) (m : Modifier) → modifier_at ts ≡ Some m → starts_modifier (first ts) ≡ true
modifier_starts [] m h = absurd (cc)
modifier_starts (token ∷ ts) m h = ap some h

modifier_over : (ts : List Kind) → modifier_at ts ≡ None → starts_modifier (first ts) ≡ false
modifier_over [] h = refl
modifier_over (token ∷ ts) h = ap some h

one_reads : (ts : List Kind) (m : Modifier) → modifier_at ts ≡ Some m → one ts ≡ Ok (m, drop 1 ts)
one_reads [] m h = absurd (cc)
one_reads (token ∷ ts) m h = ap (λ o. modifier_by o token ts) h

pub modifiers_more : (front : List Modifier) (ts : List Kind) (m : Modifier) → modifier_at ts ≡ Some m → with_front front (modifiers ts) ≡ with_front (front ++ m ∷ []) (modifiers (drop 1 ts))
unfolding modifiers
modifiers_more front ts m h = front_more starts_modifier one refl one_shortens front ts m (drop 1 ts) (modifier_starts ts m h) (one_reads ts m h)

pub modifiers_done : (front : List Modifier) (ts : List Kind) → modifier_at ts ≡ None → with_front front (modifiers ts) ≡ Ok (front, ts)
unfolding modifiers
modifiers_done front ts h = front_done starts_modifier one front ts (modifier_over ts h)

pub modifier_shorter : (ts : List Kind) (m : Modifier) → modifier_at ts ≡ Some m → length (drop 1 ts) < length ts
modifier_shorter ts m h = one_shortens ts m (drop 1 ts) (one_reads ts m h)

-- ---- items as long as one begins, seen as plain data

module _ {A B : Type 0} (view : B → A) (starts : Option Kind → _) (item : Parser A) (silent : starts None ≡ false) (shortens : Shortens item) where
  pub items_more : (front : List B) (ts : List Kind) (b : B) (rest : List Kind) → starts (first ts) ≡ true → item ts ≡ Ok (view b, rest)
      → with_front (map view front) (many starts item ts) ≡ with_front (map view (front ++ b ∷ [])) (many starts item rest)
  items_more front ts b rest h e =
      front_more starts item silent shortens (map view front) ts (view b) rest h e ∙ ap (λ (all : List A). with_front all (many starts item rest)) (sym (map-append view front (b ∷ [])))

  pub items_fail : (front : List B) (ts : List Kind) (f : Fault) (new : List Kind) → starts (first ts) ≡ true → Fails (item ts) f new → Fails (with_front (map view front) (many starts item ts)) f new
  items_fail front ts f new h e = front_fails starts item silent shortens (map view front) ts f new h e

  pub items_done : (front : List B) (ts : List Kind) → starts (first ts) ≡ false → with_front (map view front) (many starts item ts) ≡ Ok (map view front, ts)
  items_done front ts h = front_done starts item (map view front) ts h

pub import_shortens : Shortens import_decl
import_shortens = shortens_by IsShapedImport write_import import_decl imports.import_sound imports.import_longer

pub member_shortens : (room : ℕ) → Shortens (member room)
member_shortens room =
    shortens_by (units.Fits room) write_member (member room) (λ ts r h. let found = units.members_are_sound room ts r h in ((found.shaped, found.low), found.written)) (units.member_longer room)

pub decl_shortens : (room : ℕ) → Shortens (modifiers >>= decl room)
decl_shortens room = shortens_by (imports.Fits room) write_decl (modifiers >>= decl room) (imports.decl_item room) (imports.decl_longer room)
