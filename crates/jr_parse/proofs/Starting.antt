-- The readers of members and declarations by how they begin are those by the token, at each number of levels.
use Rattle.std.proofs.Common.{◌≡◌, ℕ, suc, ◌-◌, ◌<◌, Bool, true, false, cond, List, [], ◌∷◌, Option, refl, sym, ap, ◌∙◌, subst, arith}
use Rattle.jr_base.specs.declared.kind.Kind.{Kind}
use Rattle.jr_base.specs.declared.kind.Kind.TheVariants as kind
use Rattle.jr_base.specs.declared.kind.Symbol.TheVariants as y
use Rattle.jr_base.specs.declared.kind.Keyword.TheVariants as k
use Rattle.jr_tree.specs.declared.tree.Modifier.{Modifier}
use Rattle.jr_tree.specs.declared.tree.Modifier.TheVariants as modifier
use Rattle.jr_tree.specs.Mirror.Decls as d
use Rattle.jr_parse_laws.specs.declared.fault.Fault.{Fault}
use Rattle.jr_parse_laws.specs.declared.fault.Fault.TheVariants.{NoTree, TooDeep}
use Rattle.jr_parse_laws.specs.Parsers.{Parser, Fails, and_then, deep, refuse, first}
use Rattle.jr_parse_laws.proofs.Outcomes.{and_then_alike}
use Rattle.jr_parse_starts.specs.Starts.{no_level}
use Rattle.jr_parse_defs.specs.Begins.{starts_member, starts_decl}
use Rattle.jr_parse_defs.specs.Decls as spec
use Rattle.jr_parse.specs.Begun as begun

-- ---- declarations of types

module _ (room : ℕ) (inner : Parser d.Member) where
  decl_by : (mods : List Modifier) (token : Kind) (ts : List Kind) → spec.type_decl_by room inner mods token ts ≡ begun.new_decl room inner mods (token ∷ ts)
  decl_by [] (kind.Word k.Class) ts = refl
  decl_by [] (kind.Word k.Interface) ts = refl
  decl_by [] (kind.Word w) ts = refl
  decl_by [] (kind.Sym y.Semicolon) ts = refl
  decl_by [] (kind.Sym s) ts = refl
  decl_by [] token ts = refl
  decl_by (m ∷ mods) (kind.Word k.Class) ts = refl
  decl_by (m ∷ mods) (kind.Word k.Interface) ts = refl
  decl_by (m ∷ mods) (kind.Word w) ts = refl
  decl_by (m ∷ mods) (kind.Sym y.Semicolon) ts = refl
  decl_by (m ∷ mods) (kind.Sym s) ts = refl
  decl_by (m ∷ mods) token ts = refl

  decl_begins : (mods : List Modifier) (ts : List Kind) → spec.type_decl room inner mods ts ≡ begun.new_decl room inner mods ts
  unfolding spec.type_decl
  decl_begins mods [] = refl
  decl_begins mods (token ∷ ts) = decl_by mods token ts

-- ---- members

module _ (room : ℕ) (nested : List Modifier → Parser d.TypeDecl) where
  braced_is : (mods : List Modifier) (ts : List Kind) → spec.braced room nested mods ts ≡ begun.braced room nested mods ts
  braced_is [] ts = refl
  braced_is (modifier.Static ∷ []) ts = refl
  braced_is (modifier.Static ∷ m ∷ mods) ts = refl
  braced_is (m ∷ mods) ts = refl

  member_by : (mods : List Modifier) (token : Kind) (ts : List Kind) → spec.member_by room nested mods token (token ∷ ts) ≡ begun.new_member room nested mods (token ∷ ts)
  member_by [] (kind.Ident head) ts = refl
  member_by [] (kind.Sym y.OpenBrace) ts = refl
  member_by [] (kind.Sym y.Semicolon) ts = refl
  member_by [] (kind.Sym s) ts = refl
  member_by [] (kind.Word k.Class) ts = refl
  member_by [] (kind.Word k.Interface) ts = refl
  member_by [] (kind.Word k.Void) ts = refl
  member_by [] (kind.Word k.Boolean) ts = refl
  member_by [] (kind.Word k.Byte) ts = refl
  member_by [] (kind.Word k.Short) ts = refl
  member_by [] (kind.Word k.Char) ts = refl
  member_by [] (kind.Word k.Int) ts = refl
  member_by [] (kind.Word k.Long) ts = refl
  member_by [] (kind.Word w) ts = refl
  member_by [] token ts = refl
  member_by (m ∷ mods) (kind.Ident head) ts = refl
  member_by (m ∷ mods) (kind.Sym y.OpenBrace) ts = braced_is (m ∷ mods) (kind.Sym y.OpenBrace ∷ ts)
  member_by (m ∷ mods) (kind.Sym y.Semicolon) ts = refl
  member_by (m ∷ mods) (kind.Sym s) ts = refl
  member_by (m ∷ mods) (kind.Word k.Class) ts = refl
  member_by (m ∷ mods) (kind.Word k.Interface) ts = refl
  member_by (m ∷ mods) (kind.Word k.Void) ts = refl
  member_by (m ∷ mods) (kind.Word k.Boolean) ts = refl
  member_by (m ∷ mods) (kind.Word k.Byte) ts = refl
  member_by (m ∷ mods) (kind.Word k.Short) ts = refl
  member_by (m ∷ mods) (kind.Word k.Char) ts = refl
  member_by (m ∷ mods) (kind.Word k.Int) ts = refl
  member_by (m ∷ mods) (kind.Word k.Long) ts = refl
  member_by (m ∷ mods) (kind.Word w) ts = refl
  member_by (m ∷ mods) token ts = refl

  member_begins : (mods : List Modifier) (ts : List Kind) → spec.after_modifiers room nested mods ts ≡ begun.new_member room nested mods ts
  member_begins mods [] = refl
  member_begins mods (token ∷ ts) = member_by mods token ts

-- ---- of at most so many levels

one_less : (room : ℕ) → 0 < room → room ≡ suc (room - 1)
one_less room h = omega arith

pub decl_lowest : (room : ℕ) (mods : List Modifier) (ts : List Kind) → room ≡ 0 → spec.decl room mods ts ≡ no_level starts_decl ts
unfolding spec.decl
decl_lowest room mods ts h = ap (λ n. spec.decl n mods ts) h

pub decl_below : (room : ℕ) (mods : List Modifier) (ts : List Kind) → 0 < room → spec.decl room mods ts ≡ begun.new_decl (room - 1) (spec.member (room - 1)) mods ts
unfolding spec.decl
decl_below room mods ts h = ap (λ n. spec.decl n mods ts) (one_less room h) ∙ decl_begins (room - 1) (spec.member (room - 1)) mods ts

pub member_lowest : (room : ℕ) (ts : List Kind) → room ≡ 0 → spec.member room ts ≡ no_level starts_member ts
unfolding spec.member
member_lowest room ts h = ap (λ n. spec.member n ts) h

pub member_below : (room : ℕ) (ts : List Kind) → 0 < room → spec.member room ts ≡ and_then (spec.modifiers ts) (begun.new_member (room - 1) (spec.decl (room - 1)))
unfolding spec.member spec.member_of
member_below room ts h =
    ap (λ n. spec.member n ts) (one_less room h)
    ∙ and_then_alike (spec.modifiers ts) (spec.after_modifiers (room - 1) (spec.decl (room - 1))) (begun.new_member (room - 1) (spec.decl (room - 1))) (member_begins (room - 1) (spec.decl (room - 1)))

-- ---- where no level is left

fails_by : (A : Type 0) (b : Bool) (ts : List Kind) (f : Fault) → f ≡ cond b TooDeep NoTree → Fails {A = A} (cond b (deep ts) (refuse ts)) f ts
fails_by A true ts f h = subst (λ (f : Fault). Fails {A = A} (deep ts) f ts) (sym h) refl
fails_by A false ts f h = subst (λ (f : Fault). Fails {A = A} (refuse ts) f ts) (sym h) refl

pub lowest_fails : (A : Type 0) (starts : Option Kind → Bool) (ts : List Kind) (f : Fault) → f ≡ cond (starts (first ts)) TooDeep NoTree → Fails {A = A} (no_level starts ts) f ts
lowest_fails A starts ts f h = fails_by A (starts (first ts)) ts f h
