-- Reading members is exact in both directions.
use Rattle.std.proofs.Common.{◌≡◌, ℕ, zero, suc, ◌≤◌, Bool, true, false, not, List, [], ◌∷◌, Option, Some, None, Ok, refl, sym, ap, ◌∙◌, subst, inl, inr, le-ltb, arith}
use Rattle.std.specs.Prelude.{IfSome}
use Rattle.std.specs.List.{AllByRecursion}
use Rattle.std.specs.Option.{option_map_or}
use Rattle.jr_base.specs.declared.text.Text.{Text}
use Rattle.jr_base.specs.declared.kind.Kind.{Kind}
use Rattle.jr_base.specs.declared.kind.Kind.TheVariants as kind
use Rattle.jr_base.specs.declared.kind.Symbol.TheVariants as y
use Rattle.jr_base.specs.declared.kind.Keyword.TheVariants as k
use Rattle.jr_tree.specs.declared.tree.Name.{Name}
use Rattle.jr_tree.specs.declared.tree.Base.{Base}
use Rattle.jr_tree.specs.declared.tree.Base.TheVariants as base
use Rattle.jr_tree.specs.declared.tree.TypeUse.{TypeUse}
use Rattle.jr_tree.specs.declared.tree.Param.{Param}
use Rattle.jr_tree.specs.declared.tree.Primitive.{Primitive}
use Rattle.jr_tree.specs.declared.tree.Primitive.TheVariants as primitive
use Rattle.jr_tree.specs.declared.tree.Modifier.{Modifier}
use Rattle.jr_tree.specs.declared.tree.Modifier.TheVariants as modifier
use Rattle.jr_tree.specs.declared.tree.ResultType.{ResultType}
use Rattle.jr_tree.specs.declared.tree.ResultType.TheVariants as outcome
use Rattle.jr_tree.specs.Shape.{is_empty, IsName, IsBase, IsTypeUse, IsShapedParam, IsShapedResult, IsShapedBlock, IsShapedCtorBody, IsShapedDecl, IsShapedMember}
use Rattle.jr_tree.specs.Depth.{block_depth, decl_depth, member_depth}
use Rattle.jr_tree.specs.Mirror.Exprs as x
use Rattle.jr_tree.specs.Mirror.Stmts as s
use Rattle.jr_tree.specs.Mirror.Decls as d
use Rattle.jr_parse_laws.specs.Parsers.{Parser, Outcome, and_then, first, is_at, is_at_word, begins_with, identifier}
use Rattle.jr_parse_laws.proofs.Outcomes.{bind_ok, chosen, ok_is, err_ok}
use Rattle.jr_parse_laws.proofs.Exact.{identifier_token}
use Rattle.jr_parse_expr.specs.Names.{type_of, dims, name_of, name_after, primitive_kind, type_use}
use Rattle.jr_parse_expr.specs.Writing.{write_parts, write_all, write_name, write_base, write_brackets, write_type}
use Rattle.jr_parse_expr.proofs.NameReads.{name_after_read, name_sound, dims_read, dims_sound, type_sound}
use Rattle.jr_parse_defs.specs.Begins.{starts_modifier}
use Rattle.jr_parse_defs.specs.Stmts.{body, ctor_body, declarators_after}
use Rattle.jr_parse_defs.specs.Decls as reader
use Rattle.jr_parse_defs.specs.Writing.{write_if, write_assigned, write_later, write_declarators, write_block, write_modifiers, write_params, write_names_after, write_parent, write_result, write_body, write_decl, write_member, write_members}
use Rattle.jr_parse_defs.specs.Laws.{IsMemberRead}
use Rattle.jr_parse_defs.proofs.Tokens.{eats, skipped, within_sound}
use Rattle.jr_parse_defs.proofs.Variables.{AreVariables, declarators_after_read, declarators_after_sound, type_before}
use Rattle.jr_parse_defs.proofs.Bodies.{bodies_complete, bodies_sound, ctors_complete, ctors_sound}
use Rattle.jr_parse_defs.proofs.Modifiers.{modifiers_read, modifiers_sound, Ended, names_after_read, names_after_sound, params_read, params_sound}

-- ---- a declaration of a type behind its modifiers

abbrev pub modifiers_of : d.TypeDecl → List Modifier
modifiers_of (d.Class mods name parent faces body) = mods
modifiers_of (d.Interface mods name faces body) = mods
modifiers_of d.Empty = []

abbrev pub write_bare : d.TypeDecl → List Kind → List Kind
write_bare (d.Class mods name parent faces body) rest =
    kind.Word k.Class ∷ kind.Ident name ∷ write_parent parent (write_names_after k.Implements faces (kind.Sym y.OpenBrace ∷ write_members body (kind.Sym y.CloseBrace ∷ rest)))
write_bare (d.Interface mods name faces body) rest = kind.Word k.Interface ∷ kind.Ident name ∷ write_names_after k.Extends faces (kind.Sym y.OpenBrace ∷ write_members body (kind.Sym y.CloseBrace ∷ rest))
write_bare d.Empty rest = kind.Sym y.Semicolon ∷ rest

pub bare : (t : d.TypeDecl) (rest : List Kind) → write_decl t rest ≡ write_modifiers (modifiers_of t) (write_bare t rest)
bare (d.Class mods name parent faces body) rest = refl
bare (d.Interface mods name faces body) rest = refl
bare d.Empty rest = refl

pub bare_plain : (t : d.TypeDecl) (rest : List Kind) → starts_modifier (first (write_bare t rest)) ≡ false
bare_plain (d.Class mods name parent faces body) rest = refl
bare_plain (d.Interface mods name faces body) rest = refl
bare_plain d.Empty rest = refl

pub decl_depth_pos : (t : d.TypeDecl) → 1 ≤ decl_depth t
decl_depth_pos d.Empty = omega arith
decl_depth_pos t = omega arith

pub record DeclFound (room : ℕ) (mods : List Modifier) (ts : List Kind) (r : d.TypeDecl × List Kind) : Type 0 where
  pub shaped : IsShapedDecl r.0
  pub low : decl_depth r.0 ≤ room
  pub own : mods ≡ modifiers_of r.0
  pub written : ts ≡ write_bare r.0 r.1

pub record ReadsDecl (room : ℕ) (nested : List Modifier → Parser d.TypeDecl) : Type 0 where
  pub complete : (t : d.TypeDecl) (rest : List Kind) → IsShapedDecl t → decl_depth t ≤ room → nested (modifiers_of t) (write_bare t rest) ≡ Ok (t, rest)
  pub sound : (mods : List Modifier) (ts : List Kind) (r : d.TypeDecl × List Kind) → nested mods ts ≡ Ok r → DeclFound room mods ts r

-- ---- members

pub static_is : (room : ℕ) (nested : List Modifier → Parser d.TypeDecl) (mods : List Modifier) → reader.is_static room nested mods ≡ true → mods ≡ modifier.Static ∷ []
static_is room nested (modifier.Static ∷ []) h = refl
static_is room nested mods h = absurd (cc)

module _ (room : ℕ) (nested : List Modifier → Parser d.TypeDecl) (reads : ReadsDecl room nested) where
  abbrev Read : List Kind → d.Member × List Kind → Type 0
  Read = IsMemberRead (suc room)

  -- ---- what is written is read

  body_read : (b : Option s.Block) (rest : List Kind) → IfSome b IsShapedBlock → option_map_or block_depth b 0 ≤ room → reader.method_body room nested (write_body b rest) ≡ Ok (b, rest)
  body_read None rest h low = refl
  body_read (Some (s.BlockOf all)) rest h low = rw (bodies_complete room (s.BlockOf all) rest h low) refl

  ended_body : (b : Option s.Block) (rest : List Kind) → Ended (first (write_body b rest)) × (is_at_word k.Throws (write_body b rest) ≡ false)
  ended_body None rest = (record { no_dot = refl; no_comma = refl }, refl)
  ended_body (Some (s.BlockOf all)) rest = (record { no_dot = refl; no_comma = refl }, refl)

  ended_block : (b : s.Block) (rest : List Kind) → Ended (first (write_block b rest)) × (is_at_word k.Throws (write_block b rest) ≡ false)
  ended_block (s.BlockOf all) rest = (record { no_dot = refl; no_comma = refl }, refl)

  method_read : (mods : List Modifier) (gives : ResultType) (n : Text) (ps : List Param) (thrown : List Name) (b : Option s.Block) (rest : List Kind) → AllByRecursion IsShapedParam ps → AllByRecursion IsName thrown
      → IfSome b IsShapedBlock → option_map_or block_depth b 0 ≤ room
      → reader.method room nested mods gives n (write_params ps (write_names_after k.Throws thrown (write_body b rest))) ≡ Ok (d.Method mods gives n ps thrown b, rest)
  unfolding reader.method
  method_read mods gives n ps thrown b rest params names h low =
      let e = ended_body b rest in
      rw (
        params_read ps (write_names_after k.Throws thrown (write_body b rest)) params,
        names_after_read k.Throws thrown (write_body b rest) names e.0 e.1 refl,
        body_read b rest h low,
      ) refl

  constructor_read : (mods : List Modifier) (n : Text) (ps : List Param) (thrown : List Name) (b : s.Block) (rest : List Kind) → AllByRecursion IsShapedParam ps → AllByRecursion IsName thrown → IsShapedCtorBody b → block_depth b ≤ room
      → reader.constructor room nested mods n (write_params ps (write_names_after k.Throws thrown (write_block b rest))) ≡ Ok (d.Constructor mods n ps thrown b, rest)
  unfolding reader.constructor
  constructor_read mods n ps thrown b rest params names h low =
      let e = ended_block b rest in
      rw (
        params_read ps (write_names_after k.Throws thrown (write_block b rest)) params,
        names_after_read k.Throws thrown (write_block b rest) names e.0 e.1 refl,
        ctors_complete room b rest h low,
      ) refl

  params_at : (ps : List Param) (rest : List Kind) → is_at y.OpenParen (write_params ps rest) ≡ true
  params_at [] rest = refl
  params_at (p ∷ ps) rest = refl

  variable_at : (p : ℕ) (i : Option x.Init) (ds : List s.Declarator) (rest : List Kind) → is_at y.OpenParen (write_brackets p (write_assigned i (write_later ds (kind.Sym y.Semicolon ∷ rest)))) ≡ false
  variable_at (suc p) i ds rest = refl
  variable_at zero (Some i) ds rest = refl
  variable_at zero None [] rest = refl
  variable_at zero None (v ∷ ds) rest = refl

  field_typed : (mods : List Modifier) (t : TypeUse) (n : Text) (p : ℕ) (i : Option x.Init) (ds : List s.Declarator) (rest : List Kind) → AreVariables room (s.DeclaratorOf n p i ∷ ds)
      → reader.typed room nested mods t (kind.Ident n ∷ write_brackets p (write_assigned i (write_later ds (kind.Sym y.Semicolon ∷ rest)))) ≡ Ok (d.Field mods t (s.DeclaratorOf n p i ∷ ds), rest)
  unfolding reader.typed reader.field
  field_typed mods t n p i ds rest are = rw (variable_at p i ds rest, declarators_after_read room n p i ds rest are) refl

  method_typed : (mods : List Modifier) (t : TypeUse) (n : Text) (ps : List Param) (thrown : List Name) (b : Option s.Block) (rest : List Kind) → AllByRecursion IsShapedParam ps → AllByRecursion IsName thrown
      → IfSome b IsShapedBlock → option_map_or block_depth b 0 ≤ room
      → reader.typed room nested mods t (kind.Ident n ∷ write_params ps (write_names_after k.Throws thrown (write_body b rest))) ≡ Ok (d.Method mods (outcome.Of t) n ps thrown b, rest)
  unfolding reader.typed
  method_typed mods t n ps thrown b rest params names h low =
      rw (params_at ps (write_names_after k.Throws thrown (write_body b rest))) (method_read mods (outcome.Of t) n ps thrown b rest params names h low)

  -- a type and a name
  named_at : (all : List Text) (pairs : ℕ) (v : Text) (us : List Kind) → is_at y.OpenParen (write_parts all (write_brackets pairs (kind.Ident v ∷ us))) ≡ false
  named_at [] zero v us = refl
  named_at [] (suc pairs) v us = refl
  named_at (part ∷ all) pairs v us = refl

  no_dot : (pairs : ℕ) (v : Text) (us : List Kind) → begins_with y.Dot (first (write_brackets pairs (kind.Ident v ∷ us))) ≡ false
  no_dot zero v us = refl
  no_dot (suc pairs) v us = refl

  identified_read : (mods : List Modifier) (head : Text) (all : List Text) (pairs : ℕ) (v : Text) (us : List Kind) (o : Outcome d.Member) → reader.typed room nested mods (type_of (base.Named (name_of (head ∷ all))) pairs) (kind.Ident v ∷ us) ≡ o
      → reader.identified room nested mods head (write_parts all (write_brackets pairs (kind.Ident v ∷ us))) ≡ o
  unfolding reader.identified
  identified_read mods head all pairs v us o h =
      rw (named_at all pairs v us, name_after_read head all (write_brackets pairs (kind.Ident v ∷ us)) (no_dot pairs v us), dims_read pairs (kind.Ident v ∷ us) refl) h

  named_read : (mods : List Modifier) (all : List Text) (pairs : ℕ) (v : Text) (us : List Kind) (o : Outcome d.Member) → not (is_empty all) ≡ true
      → reader.typed room nested mods (type_of (base.Named (name_of all)) pairs) (kind.Ident v ∷ us) ≡ o → reader.after_modifiers room nested mods (write_all all (write_brackets pairs (kind.Ident v ∷ us))) ≡ o
  named_read mods [] pairs v us o some h = absurd (cc)
  named_read mods (head ∷ all) pairs v us o some h = identified_read mods head all pairs v us o h

  primitive_read : (mods : List Modifier) (p : Primitive) (pairs : ℕ) (v : Text) (us : List Kind) (o : Outcome d.Member) → and_then (type_use (write_type (type_of (base.Primitive p) pairs) (kind.Ident v ∷ us))) (reader.typed room nested mods) ≡ o
      → reader.after_modifiers room nested mods (write_type (type_of (base.Primitive p) pairs) (kind.Ident v ∷ us)) ≡ o
  primitive_read mods primitive.Boolean pairs v us o h = h
  primitive_read mods primitive.Byte pairs v us o h = h
  primitive_read mods primitive.Short pairs v us o h = h
  primitive_read mods primitive.Char pairs v us o h = h
  primitive_read mods primitive.Int pairs v us o h = h
  primitive_read mods primitive.Long pairs v us o h = h

  type_read : (mods : List Modifier) (b : Base) (pairs : ℕ) (v : Text) (us : List Kind) (o : Outcome d.Member) → IsBase b → reader.typed room nested mods (type_of b pairs) (kind.Ident v ∷ us) ≡ o
      → reader.after_modifiers room nested mods (write_type (type_of b pairs) (kind.Ident v ∷ us)) ≡ o
  type_read mods (base.Named n) pairs v us o is h = named_read mods n.parts pairs v us o is h
  type_read mods (base.Primitive p) pairs v us o is h = primitive_read mods p pairs v us o (rw (type_before (type_of (base.Primitive p) pairs) v us tt) h)

  type_plain : (t : TypeUse) (ts : List Kind) → IsTypeUse t → starts_modifier (first (write_type t ts)) ≡ false
  type_plain t ts is = of_base t.base is where
    of_name : (all : List Text) (us : List Kind) → not (is_empty all) ≡ true → starts_modifier (first (write_all all us)) ≡ false
    of_name [] us h = absurd (cc)
    of_name (part ∷ all) us h = refl

    of_base : (b : Base) → IsBase b → starts_modifier (first (write_base b (write_brackets t.dims ts))) ≡ false
    of_base (base.Named n) h = of_name n.parts (write_brackets t.dims ts) h
    of_base (base.Primitive primitive.Boolean) h = refl
    of_base (base.Primitive primitive.Byte) h = refl
    of_base (base.Primitive primitive.Short) h = refl
    of_base (base.Primitive primitive.Char) h = refl
    of_base (base.Primitive primitive.Int) h = refl
    of_base (base.Primitive primitive.Long) h = refl

  behind : (mods : List Modifier) (ts : List Kind) (o : Outcome d.Member) → starts_modifier (first ts) ≡ false → reader.after_modifiers room nested mods ts ≡ o → reader.member_of room nested (write_modifiers mods ts) ≡ o
  unfolding reader.member_of
  behind mods ts o plain h = rw (modifiers_read mods ts plain) h

  block_plain : (b : s.Block) (rest : List Kind) → starts_modifier (first (write_block b rest)) ≡ false
  block_plain (s.BlockOf all) rest = refl

  init_read : (b : Bool) (block : s.Block) (rest : List Kind) → IsShapedBlock block → block_depth block ≤ room → reader.member_of room nested (write_if b (kind.Word k.Static) (write_block block rest)) ≡ Ok (d.Init b block, rest)
  init_read true (s.BlockOf all) rest h low = behind (modifier.Static ∷ []) (write_block (s.BlockOf all) rest) _ refl (rw (bodies_complete room (s.BlockOf all) rest h low) refl)
  init_read false (s.BlockOf all) rest h low = behind [] (write_block (s.BlockOf all) rest) _ refl (rw (bodies_complete room (s.BlockOf all) rest h low) refl)

  nested_read : (t : d.TypeDecl) (rest : List Kind) → IsShapedDecl t → decl_depth t ≤ room → reader.after_modifiers room nested (modifiers_of t) (write_bare t rest) ≡ Ok (d.Nested t, rest)
  nested_read (d.Class mods name parent faces all) rest h low =
      let t = d.Class mods name parent faces all in rw (le-ltb room 1 (let p = decl_depth_pos t in omega arith), reads.complete t rest h low) refl
  nested_read (d.Interface mods name faces all) rest h low =
      let t = d.Interface mods name faces all in rw (le-ltb room 1 (let p = decl_depth_pos t in omega arith), reads.complete t rest h low) refl
  nested_read d.Empty rest h low = rw (le-ltb room 1 (omega arith), reads.complete d.Empty rest h low) refl

  constructor_at : (mods : List Modifier) (n : Text) (ts : List Kind) (o : Outcome d.Member) → is_at y.OpenParen ts ≡ true → reader.constructor room nested mods n ts ≡ o
      → reader.after_modifiers room nested mods (kind.Ident n ∷ ts) ≡ o
  unfolding reader.identified
  constructor_at mods n ts o h g = rw h g

  pub member_read : (m : d.Member) (rest : List Kind) → IsShapedMember m → member_depth m ≤ suc room → reader.member_of room nested (write_member m rest) ≡ Ok (m, rest)
  member_read (d.Field mods t []) rest h low = absurd (let e = h.1 in cc)
  member_read (d.Field mods t (s.DeclaratorOf n p i ∷ ds)) rest h low =
      behind mods _ _ (type_plain t _ h.0) (type_read mods t.base t.dims n _ _ h.0 (field_typed mods t n p i ds rest (h.1, h.2, omega arith)))
  member_read (d.Method mods outcome.Void n ps thrown b) rest h low = behind mods _ _ refl (method_read mods outcome.Void n ps thrown b rest h.1 h.2 h.3 (omega arith))
  member_read (d.Method mods (outcome.Of t) n ps thrown b) rest h low =
      behind mods _ _ (type_plain t _ h.0) (type_read mods t.base t.dims n _ _ h.0 (method_typed mods t n ps thrown b rest h.1 h.2 h.3 (omega arith)))
  member_read (d.Constructor mods n ps thrown b) rest h low =
      behind mods _ _ refl (constructor_at mods n _ _ (params_at ps (write_names_after k.Throws thrown (write_block b rest))) (constructor_read mods n ps thrown b rest h.0 h.1 h.2 (omega arith)))
  member_read (d.Init b block) rest h low = init_read b block rest h (omega arith)
  member_read (d.Nested t) rest h low =
      ap (reader.member_of room nested) (bare t rest) ∙ behind (modifiers_of t) (write_bare t rest) _ (bare_plain t rest) (nested_read t rest h (omega arith))

  -- ---- what is read is written

  record BodyFound (ts : List Kind) (r : Option s.Block × List Kind) : Type 0 where
    shaped : IfSome r.0 IsShapedBlock
    low : option_map_or block_depth r.0 0 ≤ room
    written : ts ≡ write_body r.0 r.1

  body_sound : (ts : List Kind) (r : Option s.Block × List Kind) → reader.method_body room nested ts ≡ Ok r → BodyFound ts r
  body_sound ts r h =
      elim (chosen (is_at y.Semicolon ts) _ _ _ h) [
        | inl t ↦
            (let u = skipped y.Semicolon _ ts r t.0 t.1 in
            subst (BodyFound ts) (ok_is u.2) (record { shaped = tt; low = omega arith; written = u.1 }))
        | inr t ↦
            (let b = bind_ok (body room ts) _ r t.1 in
            let found = bodies_sound room ts b.0 b.1 in
            subst (BodyFound ts) (ok_is b.2) (record { shaped = found.shaped; low = found.low; written = found.written }))
      ]

  method_sound : (mods : List Modifier) (gives : ResultType) (n : Text) (ts : List Kind) (r : d.Member × List Kind) → IsShapedResult gives → reader.method room nested mods gives n ts ≡ Ok r
      → Read (write_modifiers mods (write_result gives (kind.Ident n ∷ ts))) r
  unfolding reader.method
  method_sound mods gives n ts r is h =
      let p = bind_ok (reader.params ts) _ r h in
      let params = params_sound ts p.0 p.1 in
      let t = bind_ok (reader.names_after k.Throws p.0.1) _ r p.2 in
      let thrown = names_after_sound k.Throws p.0.1 t.0 t.1 in
      let b = bind_ok (reader.method_body room nested t.0.1) _ r t.2 in
      let found = body_sound t.0.1 b.0 b.1 in
      let low = found.low in
      subst (Read (write_modifiers mods (write_result gives (kind.Ident n ∷ ts)))) (ok_is b.2)
      (record {
        shaped = (is, params.0, thrown.are, found.shaped);
        low = omega arith;
        written = ap (λ us. write_modifiers mods (write_result gives (kind.Ident n ∷ us))) (params.1 ∙ ap (write_params p.0.0) (thrown.written ∙ ap (write_names_after k.Throws t.0.0) found.written));
      })

  constructor_sound : (mods : List Modifier) (n : Text) (ts : List Kind) (r : d.Member × List Kind) → reader.constructor room nested mods n ts ≡ Ok r → Read (write_modifiers mods (kind.Ident n ∷ ts)) r
  unfolding reader.constructor
  constructor_sound mods n ts r h =
      let p = bind_ok (reader.params ts) _ r h in
      let params = params_sound ts p.0 p.1 in
      let t = bind_ok (reader.names_after k.Throws p.0.1) _ r p.2 in
      let thrown = names_after_sound k.Throws p.0.1 t.0 t.1 in
      let b = bind_ok (ctor_body room t.0.1) _ r t.2 in
      let found = ctors_sound room t.0.1 b.0 b.1 in
      let low = found.low in
      subst (Read (write_modifiers mods (kind.Ident n ∷ ts))) (ok_is b.2)
      (record {
        shaped = (params.0, thrown.are, found.shaped);
        low = omega arith;
        written = ap (λ us. write_modifiers mods (kind.Ident n ∷ us)) (params.1 ∙ ap (write_params p.0.0) (thrown.written ∙ ap (write_names_after k.Throws t.0.0) found.written));
      })

  field_sound : (mods : List Modifier) (t : TypeUse) (n : Text) (ts : List Kind) (r : d.Member × List Kind) → IsTypeUse t → reader.field room nested mods t n ts ≡ Ok r
      → Read (write_modifiers mods (write_type t (kind.Ident n ∷ ts))) r
  unfolding reader.field
  field_sound mods t n ts r is h =
      let ds = bind_ok (declarators_after room n ts) _ r h in
      let found = declarators_after_sound room n ts ds.0 ds.1 in
      let e = eats y.Semicolon ds.0.1 _ r ds.2 in
      let low = found.are.2 in
      subst (Read (write_modifiers mods (write_type t (kind.Ident n ∷ ts)))) (ok_is e.more)
      (record {
        shaped = (is, found.are.0, found.are.1);
        low = omega arith;
        written = ap (λ us. write_modifiers mods (write_type t us)) (found.written ∙ ap (write_declarators ds.0.0) e.written);
      })

  typed_sound : (mods : List Modifier) (t : TypeUse) (ts : List Kind) (r : d.Member × List Kind) → IsTypeUse t → reader.typed room nested mods t ts ≡ Ok r → Read (write_modifiers mods (write_type t ts)) r
  unfolding reader.typed
  typed_sound mods t ts r is h =
      let n = bind_ok (identifier ts) _ r h in
      subst (λ ts. Read (write_modifiers mods (write_type t ts)) r) (sym (identifier_token.took ts n.0 n.1))
      (elim (chosen (is_at y.OpenParen n.0.1) _ _ _ n.2) [
        | inl u ↦ method_sound mods (outcome.Of t) n.0.0 n.0.1 r is u.1
        | inr u ↦ field_sound mods t n.0.0 n.0.1 r is u.1
      ])

  identified_sound : (mods : List Modifier) (head : Text) (ts : List Kind) (r : d.Member × List Kind) → reader.identified room nested mods head ts ≡ Ok r → Read (write_modifiers mods (kind.Ident head ∷ ts)) r
  unfolding reader.identified
  identified_sound mods head ts r h =
      elim (chosen (is_at y.OpenParen ts) _ _ _ h) [
        | inl t ↦ constructor_sound mods head ts r t.1
        | inr t ↦
            (let n = bind_ok (name_after head ts) _ r t.1 in
            let found = name_sound (kind.Ident head ∷ ts) n.0 n.1 in
            let p = bind_ok (dims n.0.1) _ r n.2 in
            let pairs = dims_sound n.0.1 p.0 p.1 in
            subst (λ ts. Read (write_modifiers mods ts) r) (sym (found.1 ∙ ap (write_name n.0.0) pairs.0)) (typed_sound mods (type_of (base.Named n.0.0) p.0.0) p.0.1 r found.0 p.2))
      ]

  init_sound : (b : Bool) (ts : List Kind) (r : d.Member × List Kind) → reader.initializer_block room nested b ts ≡ Ok r → Read (write_if b (kind.Word k.Static) ts) r
  init_sound b ts r h =
      let a = bind_ok (body room ts) _ r h in
      let found = bodies_sound room ts a.0 a.1 in
      let low = found.low in
      subst (Read (write_if b (kind.Word k.Static) ts)) (ok_is a.2) (record { shaped = found.shaped; low = omega arith; written = ap (write_if b (kind.Word k.Static)) found.written })

  braced_sound : (mods : List Modifier) (ts : List Kind) (r : d.Member × List Kind) → reader.braced room nested mods ts ≡ Ok r → Read (write_modifiers mods ts) r
  braced_sound [] ts r h = init_sound false ts r h
  braced_sound (m ∷ mods) ts r h =
      elim (chosen (reader.is_static room nested (m ∷ mods)) _ _ _ h) [
        | inl t ↦ subst (λ mods. Read (write_modifiers mods ts) r) (sym (static_is room nested (m ∷ mods) t.0)) (init_sound true ts r t.1)
        | inr t ↦ absurd (err_ok t.1)
      ]

  nested_sound : (mods : List Modifier) (token : Kind) (ts : List Kind) (r : d.Member × List Kind) → reader.nested_decl room nested mods (token ∷ ts) ≡ Ok r → Read (write_modifiers mods (token ∷ ts)) r
  nested_sound mods token ts r h =
      let t = bind_ok (nested mods (token ∷ ts)) _ r (within_sound room 1 _ _ r h) in
      let found = reads.sound mods (token ∷ ts) t.0 t.1 in
      let low = found.low in
      subst (Read (write_modifiers mods (token ∷ ts))) (ok_is t.2)
      (record { shaped = found.shaped; low = omega arith; written = ap (λ mods. write_modifiers mods (token ∷ ts)) found.own ∙ ap (write_modifiers (modifiers_of t.0.0)) found.written ∙ sym (bare t.0.0 t.0.1) })

  void_sound : (mods : List Modifier) (ts : List Kind) (r : d.Member × List Kind) → and_then (identifier ts) (reader.method room nested mods outcome.Void) ≡ Ok r → Read (write_modifiers mods (kind.Word k.Void ∷ ts)) r
  void_sound mods ts r h =
      let n = bind_ok (identifier ts) (reader.method room nested mods outcome.Void) r h in
      subst (λ ts. Read (write_modifiers mods (kind.Word k.Void ∷ ts)) r) (sym (identifier_token.took ts n.0 n.1)) (method_sound mods outcome.Void n.0.0 n.0.1 r tt n.2)

  member_type_sound : (mods : List Modifier) (o : Option Primitive) (token : Kind) (ts : List Kind) (r : d.Member × List Kind) → reader.member_type room nested mods o token ts ≡ Ok r → Read (write_modifiers mods ts) r
  member_type_sound mods None token ts r h = absurd (err_ok h)
  member_type_sound mods (Some p) token ts r h =
      let t = bind_ok (type_use ts) (reader.typed room nested mods) r h in
      let found = type_sound ts t.0 t.1 in
      subst (λ ts. Read (write_modifiers mods ts) r) (sym found.written) (typed_sound mods t.0.0 t.0.1 r found.is t.2)

  behind_sound : (mods : List Modifier) (ts : List Kind) (r : d.Member × List Kind) → reader.after_modifiers room nested mods ts ≡ Ok r → Read (write_modifiers mods ts) r
  behind_sound mods [] r h = absurd (err_ok h)
  behind_sound mods (kind.Sym y.OpenBrace ∷ ts) r h = braced_sound mods (kind.Sym y.OpenBrace ∷ ts) r h
  behind_sound [] (kind.Sym y.Semicolon ∷ ts) r h = nested_sound [] (kind.Sym y.Semicolon) ts r h
  behind_sound (m ∷ mods) (kind.Sym y.Semicolon ∷ ts) r h = absurd (err_ok h)
  behind_sound mods (kind.Word k.Class ∷ ts) r h = nested_sound mods (kind.Word k.Class) ts r h
  behind_sound mods (kind.Word k.Interface ∷ ts) r h = nested_sound mods (kind.Word k.Interface) ts r h
  behind_sound mods (kind.Word k.Void ∷ ts) r h = void_sound mods ts r h
  behind_sound mods (kind.Ident head ∷ ts) r h = identified_sound mods head ts r h
  behind_sound mods (token ∷ ts) r h = member_type_sound mods (primitive_kind token) token (token ∷ ts) r h

  pub member_sound : (ts : List Kind) (r : d.Member × List Kind) → reader.member_of room nested ts ≡ Ok r → Read ts r
  unfolding reader.member_of
  member_sound ts r h =
      let ms = bind_ok (reader.modifiers ts) (reader.after_modifiers room nested) r h in
      let found = modifiers_sound ts ms.0 ms.1 in
      subst (λ ts. Read ts r) (sym found.written) (behind_sound ms.0.0 ms.0.1 r ms.2)
