-- Reading declarations of types and units is exact in both directions.
use Rattle.std.proofs.Common.{◌≡◌, ℕ, zero, suc, ◌≤◌, Bool, true, false, not, List, [], ◌∷◌, ◌++◌, length, Option, None, Ok, refl, sym, ap, ◌∙◌, subst, length-append, arith}
use Rattle.std.specs.Prelude.{IfSome}
use Rattle.std.specs.List.{AllByRecursion}
use Rattle.jr_base.specs.declared.text.Text.{Text}
use Rattle.jr_base.specs.declared.kind.Kind.{Kind}
use Rattle.jr_base.specs.declared.kind.Kind.TheVariants as kind
use Rattle.jr_base.specs.declared.kind.Symbol.TheVariants as y
use Rattle.jr_base.specs.declared.kind.Keyword.TheVariants as k
use Rattle.jr_tree.specs.declared.tree.Name.{Name}
use Rattle.jr_tree.specs.declared.tree.Base.{Base}
use Rattle.jr_tree.specs.declared.tree.Base.TheVariants as base
use Rattle.jr_tree.specs.declared.tree.TypeUse.{TypeUse}
use Rattle.jr_tree.specs.declared.tree.Primitive.TheVariants as primitive
use Rattle.jr_tree.specs.declared.tree.Modifier.{Modifier}
use Rattle.jr_tree.specs.declared.tree.Modifier.TheVariants as modifier
use Rattle.jr_tree.specs.declared.tree.ResultType.TheVariants as outcome
use Rattle.jr_tree.specs.Shape.{is_empty, IsName, IsBase, IsTypeUse, IsShapedMember, AreShapedMembers, IsShapedDecl}
use Rattle.jr_tree.specs.Depth.{member_depth, members_depth, decl_depth}
use Rattle.jr_tree.specs.Tokens.{member_tokens}
use Rattle.jr_tree.specs.Mirror.Stmts as s
use Rattle.jr_tree.specs.Mirror.Decls as d
use Rattle.jr_parse_laws.specs.Parsers.{Parser, and_then, first, is_at_word, begins_with, identifier, many}
use Rattle.jr_parse_laws.proofs.Outcomes.{bind_ok, ok_is, err_ok}
use Rattle.jr_parse_laws.proofs.Exact.{identifier_token}
use Rattle.jr_parse_expr.specs.Writing.{write_all, write_base, write_brackets, write_type}
use Rattle.jr_parse_expr.proofs.ExprReads.{no_level_err}
use Rattle.jr_parse_defs.specs.Begins.{starts_member, starts_decl}
use Rattle.jr_parse_defs.specs.Decls as reader
use Rattle.jr_parse_defs.specs.Writing.{write_many, write_modifiers, write_parent, write_names_after, write_block, write_member, write_members, write_decl}
use Rattle.jr_parse_defs.specs.Laws.{IsMemberRead, IsMemberComplete, IsMemberSound, IsDeclComplete, IsDeclSound}
use Rattle.jr_parse_defs.proofs.Written.{member_written}
use Rattle.jr_parse_defs.proofs.Tokens.{eats}
use Rattle.jr_parse_defs.proofs.Lists.{Sound, list_read, list_sound}
use Rattle.jr_parse_defs.proofs.Modifiers.{modifiers_read, modifiers_sound, names_after_read, names_after_sound, parent_read, parent_sound}
use Rattle.jr_parse_defs.proofs.Members.{modifiers_of, write_bare, bare, bare_plain, decl_depth_pos, DeclFound, ReadsDecl, member_read, member_sound}

-- ---- what begins a member or a declaration

first_some : (starts : Option Kind → Bool) (tokens : List Kind) → starts None ≡ false → starts (first (tokens ++ [])) ≡ true → 1 ≤ length tokens
first_some starts [] silent h = absurd (let g : starts None ≡ true = h in cc)
first_some starts (t ∷ tokens) silent h = omega arith

-- what is written takes a token
pub longer_starts : (starts : Option Kind → Bool) (tokens rest nothing ts : List Kind) → starts None ≡ false → nothing ≡ tokens ++ [] → starts (first nothing) ≡ true → ts ≡ tokens ++ rest → suc (length rest) ≤ length ts
longer_starts starts tokens rest nothing ts silent same h written =
    let one = first_some starts tokens silent (subst (λ ts. starts (first ts) ≡ true) same h) in
    rw (written, length-append) (omega arith)

member_modifiers : (ms : List Modifier) (ts : List Kind) → starts_member (first ts) ≡ true → starts_member (first (write_modifiers ms ts)) ≡ true
member_modifiers [] ts h = h
member_modifiers (modifier.Public ∷ ms) ts h = refl
member_modifiers (modifier.Protected ∷ ms) ts h = refl
member_modifiers (modifier.Private ∷ ms) ts h = refl
member_modifiers (modifier.Abstract ∷ ms) ts h = refl
member_modifiers (modifier.Static ∷ ms) ts h = refl
member_modifiers (modifier.Final ∷ ms) ts h = refl
member_modifiers (modifier.Native ∷ ms) ts h = refl

decl_modifiers : (ms : List Modifier) (ts : List Kind) → starts_decl (first ts) ≡ true → starts_decl (first (write_modifiers ms ts)) ≡ true
decl_modifiers [] ts h = h
decl_modifiers (modifier.Public ∷ ms) ts h = refl
decl_modifiers (modifier.Protected ∷ ms) ts h = refl
decl_modifiers (modifier.Private ∷ ms) ts h = refl
decl_modifiers (modifier.Abstract ∷ ms) ts h = refl
decl_modifiers (modifier.Static ∷ ms) ts h = refl
decl_modifiers (modifier.Final ∷ ms) ts h = refl
decl_modifiers (modifier.Native ∷ ms) ts h = refl

type_member : (t : TypeUse) (ts : List Kind) → IsTypeUse t → starts_member (first (write_type t ts)) ≡ true
type_member t ts is = of_base t.base is where
  of_name : (all : List Text) (us : List Kind) → not (is_empty all) ≡ true → starts_member (first (write_all all us)) ≡ true
  of_name [] us h = absurd (cc)
  of_name (part ∷ all) us h = refl

  of_base : (b : Base) → IsBase b → starts_member (first (write_base b (write_brackets t.dims ts))) ≡ true
  of_base (base.Named n) h = of_name n.parts (write_brackets t.dims ts) h
  of_base (base.Primitive primitive.Boolean) h = refl
  of_base (base.Primitive primitive.Byte) h = refl
  of_base (base.Primitive primitive.Short) h = refl
  of_base (base.Primitive primitive.Char) h = refl
  of_base (base.Primitive primitive.Int) h = refl
  of_base (base.Primitive primitive.Long) h = refl

block_member : (b : s.Block) (rest : List Kind) → starts_member (first (write_block b rest)) ≡ true
block_member (s.BlockOf all) rest = refl

pub decl_starts : (t : d.TypeDecl) (rest : List Kind) → starts_decl (first (write_decl t rest)) ≡ true
decl_starts (d.Class mods n parent faces body) rest = decl_modifiers mods _ refl
decl_starts (d.Interface mods n faces body) rest = decl_modifiers mods _ refl
decl_starts d.Empty rest = refl

member_starts : (m : d.Member) (rest : List Kind) → IsShapedMember m → starts_member (first (write_member m rest)) ≡ true
member_starts (d.Field mods t ds) rest h = member_modifiers mods _ (type_member t _ h.0)
member_starts (d.Method mods outcome.Void n ps thrown b) rest h = member_modifiers mods _ refl
member_starts (d.Method mods (outcome.Of t) n ps thrown b) rest h = member_modifiers mods _ (type_member t _ h.0)
member_starts (d.Constructor mods n ps thrown b) rest h = member_modifiers mods _ refl
member_starts (d.Init true b) rest h = refl
member_starts (d.Init false b) rest h = block_member b rest
member_starts (d.Nested (d.Class mods n parent faces body)) rest h = member_modifiers mods _ refl
member_starts (d.Nested (d.Interface mods n faces body)) rest h = member_modifiers mods _ refl
member_starts (d.Nested d.Empty) rest h = refl

-- ---- members in braces

pub record ReadsMember (room : ℕ) (inner : Parser d.Member) : Type 0 where
  pub complete : (m : d.Member) (rest : List Kind) → IsShapedMember m → member_depth m ≤ room → inner (write_member m rest) ≡ Ok (m, rest)
  pub sound : (ts : List Kind) (r : d.Member × List Kind) → inner ts ≡ Ok r → IsMemberRead room ts r

abbrev listed : d.Members → List d.Member
listed d.no_members = []
listed (d.more_members m all) = m ∷ listed all

members_listed : (all : d.Members) → d.members (listed all) ≡ all
members_listed d.no_members = refl
members_listed (d.more_members m all) = ap (d.more_members m) (members_listed all)

many_members : (all : d.Members) (rest : List Kind) → write_members all rest ≡ write_many write_member (listed all) rest
many_members d.no_members rest = refl
many_members (d.more_members m all) rest = ap (write_member m) (many_members all rest)

pub members_many : (all : List d.Member) (rest : List Kind) → write_many write_member all rest ≡ write_members (d.members all) rest
members_many [] rest = refl
members_many (m ∷ all) rest = ap (write_member m) (members_many all rest)

abbrev pub Fits : ℕ → d.Member → Type 0
Fits room m = IsShapedMember m × (member_depth m ≤ room)

members_fit : (room : ℕ) (all : d.Members) → AreShapedMembers all → members_depth all ≤ room → AllByRecursion (Fits room) (listed all)
members_fit room d.no_members h low = tt
members_fit room (d.more_members m all) h low = ((h.0, omega arith), members_fit room all h.1 (omega arith))

fit_members : (room : ℕ) (all : List d.Member) → AllByRecursion (Fits room) all → AreShapedMembers (d.members all) × (members_depth (d.members all) ≤ room)
fit_members room [] h = (tt, omega arith)
fit_members room (m ∷ all) h =
    let more = fit_members room all h.1 in
    let low : member_depth m ≤ room = h.0.1 in
    let others : members_depth (d.members all) ≤ room = more.1 in
    ((h.0.0, more.0), omega arith)

pub member_longer : (room : ℕ) (m : d.Member) (rest : List Kind) → Fits room m → suc (length rest) ≤ length (write_member m rest)
member_longer room m rest is = longer_starts starts_member (member_tokens m) rest (write_member m []) (write_member m rest) refl (member_written m []) (member_starts m [] is.0) (member_written m rest)

module _ (room : ℕ) (inner : Parser d.Member) (reads : ReadsMember room inner) where
  pub item : Sound (Fits room) write_member inner
  item ts r h = let found = reads.sound ts r h in ((found.shaped, found.low), found.written)

  members_read : (all : d.Members) (rest : List Kind) → AreShapedMembers all → members_depth all ≤ room → reader.members room inner (kind.Sym y.OpenBrace ∷ write_members all (kind.Sym y.CloseBrace ∷ rest)) ≡ Ok (all, rest)
  members_read all rest h low =
      let ts = kind.Sym y.CloseBrace ∷ rest in
      let read = ap (many starts_member inner) (many_members all ts)
      ∙ list_read starts_member inner refl (Fits room) write_member item (member_longer room) (λ o. Unit {0}) (λ o h. tt) (λ m rest is. member_starts m rest is.0) (λ m rest is h. reads.complete m rest is.0 is.1)
      (listed all) ts (members_fit room all h low) refl tt in
      rw read (ap (λ all. Ok (all, rest)) (members_listed all))

  pub record MembersFound (ts : List Kind) (r : d.Members × List Kind) : Type 0 where
    pub shaped : AreShapedMembers r.0
    pub low : members_depth r.0 ≤ room
    pub written : ts ≡ kind.Sym y.OpenBrace ∷ write_members r.0 (kind.Sym y.CloseBrace ∷ r.1)

  pub members_sound : (ts : List Kind) (r : d.Members × List Kind) → reader.members room inner ts ≡ Ok r → MembersFound ts r
  members_sound ts r h =
      let a = eats y.OpenBrace ts _ r h in
      let all = bind_ok (many starts_member inner a.rest) _ r a.more in
      let found = list_sound starts_member inner refl (Fits room) write_member item (member_longer room) a.rest all.0 all.1 in
      let fit = fit_members room all.0.0 found.are in
      let b = eats y.CloseBrace all.0.1 _ r all.2 in
      subst (MembersFound ts) (ok_is b.more)
      (record {
        shaped = fit.0;
        low = fit.1;
        written = a.written ∙ ap (λ us. kind.Sym y.OpenBrace ∷ us) (found.written ∙ members_many all.0.0 all.0.1 ∙ ap (write_members (d.members all.0.0)) b.written);
      })

  -- ---- declarations of types

  after_parent : (faces : List Name) (ts : List Kind) → (begins_with y.Dot (first (write_names_after k.Implements faces (kind.Sym y.OpenBrace ∷ ts))) ≡ false) × (is_at_word k.Extends (write_names_after k.Implements faces (kind.Sym y.OpenBrace ∷ ts)) ≡ false)
  after_parent [] ts = (refl, refl)
  after_parent (n ∷ ns) ts = (refl, refl)

  class_read : (mods : List Modifier) (n : Text) (parent : Option Name) (faces : List Name) (all : d.Members) (rest : List Kind) → IfSome parent IsName → AllByRecursion IsName faces → AreShapedMembers all → members_depth all ≤ room
      → reader.class_decl room inner mods (kind.Ident n ∷ write_parent parent (write_names_after k.Implements faces (kind.Sym y.OpenBrace ∷ write_members all (kind.Sym y.CloseBrace ∷ rest)))) ≡ Ok (d.Class mods n parent faces all, rest)
  unfolding reader.class_decl
  class_read mods n parent faces all rest is are h low =
      let ts = write_members all (kind.Sym y.CloseBrace ∷ rest) in
      let e = after_parent faces ts in
      rw (
        parent_read parent (write_names_after k.Implements faces (kind.Sym y.OpenBrace ∷ ts)) is e.0 e.1,
        names_after_read k.Implements faces (kind.Sym y.OpenBrace ∷ ts) are (record { no_dot = refl; no_comma = refl }) refl refl,
        members_read all rest h low,
      ) refl

  interface_read : (mods : List Modifier) (n : Text) (faces : List Name) (all : d.Members) (rest : List Kind) → AllByRecursion IsName faces → AreShapedMembers all → members_depth all ≤ room
      → reader.interface_decl room inner mods (kind.Ident n ∷ write_names_after k.Extends faces (kind.Sym y.OpenBrace ∷ write_members all (kind.Sym y.CloseBrace ∷ rest))) ≡ Ok (d.Interface mods n faces all, rest)
  unfolding reader.interface_decl
  interface_read mods n faces all rest are h low =
      rw (
        names_after_read k.Extends faces (kind.Sym y.OpenBrace ∷ write_members all (kind.Sym y.CloseBrace ∷ rest)) are (record { no_dot = refl; no_comma = refl }) refl refl,
        members_read all rest h low,
      ) refl

  level_read : (t : d.TypeDecl) (rest : List Kind) → IsShapedDecl t → decl_depth t ≤ suc room → reader.type_decl room inner (modifiers_of t) (write_bare t rest) ≡ Ok (t, rest)
  unfolding reader.type_decl
  level_read (d.Class mods n parent faces all) rest h low = class_read mods n parent faces all rest h.0 h.1 h.2 (omega arith)
  level_read (d.Interface mods n faces all) rest h low = interface_read mods n faces all rest h.0 h.1 (omega arith)
  level_read d.Empty rest h low = refl

  class_sound : (mods : List Modifier) (ts : List Kind) (r : d.TypeDecl × List Kind) → reader.class_decl room inner mods ts ≡ Ok r → DeclFound (suc room) mods (kind.Word k.Class ∷ ts) r
  unfolding reader.class_decl
  class_sound mods ts r h =
      let n = bind_ok (identifier ts) _ r h in
      let p = bind_ok (reader.parent n.0.1) _ r n.2 in
      let above = parent_sound n.0.1 p.0 p.1 in
      let f = bind_ok (reader.names_after k.Implements p.0.1) _ r p.2 in
      let faces = names_after_sound k.Implements p.0.1 f.0 f.1 in
      let all = bind_ok (reader.members room inner f.0.1) _ r f.2 in
      let found = members_sound f.0.1 all.0 all.1 in
      let low = found.low in
      subst (DeclFound (suc room) mods (kind.Word k.Class ∷ ts)) (ok_is all.2)
      (record {
        shaped = (above.0, faces.are, found.shaped);
        low = omega arith;
        own = refl;
        written = ap (λ us. kind.Word k.Class ∷ us)
            (identifier_token.took ts n.0 n.1 ∙ ap (λ us. kind.Ident n.0.0 ∷ us) (above.1 ∙ ap (write_parent p.0.0) (faces.written ∙ ap (write_names_after k.Implements f.0.0) found.written)));
      })

  interface_sound : (mods : List Modifier) (ts : List Kind) (r : d.TypeDecl × List Kind) → reader.interface_decl room inner mods ts ≡ Ok r → DeclFound (suc room) mods (kind.Word k.Interface ∷ ts) r
  unfolding reader.interface_decl
  interface_sound mods ts r h =
      let n = bind_ok (identifier ts) _ r h in
      let f = bind_ok (reader.names_after k.Extends n.0.1) _ r n.2 in
      let faces = names_after_sound k.Extends n.0.1 f.0 f.1 in
      let all = bind_ok (reader.members room inner f.0.1) _ r f.2 in
      let found = members_sound f.0.1 all.0 all.1 in
      let low = found.low in
      subst (DeclFound (suc room) mods (kind.Word k.Interface ∷ ts)) (ok_is all.2)
      (record {
        shaped = (faces.are, found.shaped);
        low = omega arith;
        own = refl;
        written = ap (λ us. kind.Word k.Interface ∷ us) (identifier_token.took ts n.0 n.1 ∙ ap (λ us. kind.Ident n.0.0 ∷ us) (faces.written ∙ ap (write_names_after k.Extends f.0.0) found.written));
      })

  level_sound : (mods : List Modifier) (ts : List Kind) (r : d.TypeDecl × List Kind) → reader.type_decl room inner mods ts ≡ Ok r → DeclFound (suc room) mods ts r
  unfolding reader.type_decl
  level_sound mods [] r h = absurd (err_ok h)
  level_sound mods (kind.Word k.Class ∷ ts) r h = class_sound mods ts r h
  level_sound mods (kind.Word k.Interface ∷ ts) r h = interface_sound mods ts r h
  level_sound [] (kind.Sym y.Semicolon ∷ ts) r h = subst (DeclFound (suc room) [] (kind.Sym y.Semicolon ∷ ts)) (ok_is h) (record { shaped = tt; low = omega arith; own = refl; written = refl })
  level_sound (m ∷ mods) (kind.Sym y.Semicolon ∷ ts) r h = absurd (err_ok h)
  level_sound mods (token ∷ ts) r h = absurd (err_ok h)

-- ---- at each number of levels

member_depth_pos : (m : d.Member) → 1 ≤ member_depth m
member_depth_pos (d.Nested t) = omega arith
member_depth_pos m = omega arith

pub record ReadsBoth (room : ℕ) : Type 0 where
  pub member : ReadsMember room (reader.member room)
  pub decl : ReadsDecl room (reader.decl room)

pub both_read : (room : ℕ) → ReadsBoth room
unfolding reader.member reader.decl
both_read zero = record {
  member = record {
    complete = λ m rest h low. absurd (let p = member_depth_pos m in omega arith);
    sound = λ ts r h. absurd (no_level_err starts_member ts r h);
  };
  decl = record {
    complete = λ t rest h low. absurd (let p = decl_depth_pos t in omega arith);
    sound = λ mods ts r h. absurd (no_level_err starts_decl ts r h);
  };
}
both_read (suc room) =
    let before = both_read room in
    record {
      member = record {
        complete = λ m rest h low. member_read room (reader.decl room) before.decl m rest h low;
        sound = λ ts r h. member_sound room (reader.decl room) before.decl ts r h;
      };
      decl = record {
        complete = λ t rest h low. level_read room (reader.member room) before.member t rest h low;
        sound = λ mods ts r h. level_sound room (reader.member room) before.member mods ts r h;
      };
    }

pub members_complete : IsMemberComplete
members_complete room m rest h low = (both_read room).member.complete m rest h low

pub members_are_sound : IsMemberSound
members_are_sound room ts read h = (both_read room).member.sound ts read h

pub decls_complete : IsDeclComplete
decls_complete room t rest h low =
    ap (λ ts. and_then (reader.modifiers ts) (reader.decl room)) (bare t rest) ∙ rw (modifiers_read (modifiers_of t) (write_bare t rest) (bare_plain t rest)) ((both_read room).decl.complete t rest h low)

pub decls_sound : IsDeclSound
decls_sound room ts read h =
    let ms = bind_ok (reader.modifiers ts) (reader.decl room) read h in
    let front = modifiers_sound ts ms.0 ms.1 in
    let found = (both_read room).decl.sound ms.0.0 ms.0.1 read ms.2 in
    record {
      shaped = found.shaped;
      low = found.low;
      written = front.written ∙ ap (λ mods. write_modifiers mods ms.0.1) found.own ∙ ap (write_modifiers (modifiers_of read.0)) found.written ∙ sym (bare read.0 read.1);
    }
