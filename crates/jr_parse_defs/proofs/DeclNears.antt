-- Members and declarations of types are read the same whatever stands behind, and with more levels.
use Rattle.std.proofs.Common.{◌≡◌, ℕ, zero, suc, ◌≤◌, Bool, true, false, ◌||◌, List, [], ◌∷◌, Option, Some, None, Err, refl, ap, ◌∙◌, arith}
use Rattle.std.proofs.lemmas.Bool.{or_parts}
use Rattle.jr_base.specs.declared.text.Text.{Text}
use Rattle.jr_base.specs.declared.kind.Kind.{Kind}
use Rattle.jr_base.specs.declared.kind.Kind.TheVariants as kind
use Rattle.jr_base.specs.declared.kind.Symbol.TheVariants as y
use Rattle.jr_base.specs.declared.kind.Keyword.{Keyword}
use Rattle.jr_base.specs.declared.kind.Keyword.TheVariants as k
use Rattle.jr_tree.specs.declared.tree.Base.TheVariants as base
use Rattle.jr_tree.specs.declared.tree.TypeUse.{TypeUse}
use Rattle.jr_tree.specs.declared.tree.Primitive.{Primitive}
use Rattle.jr_tree.specs.declared.tree.Modifier.{Modifier}
use Rattle.jr_tree.specs.declared.tree.ResultType.{ResultType}
use Rattle.jr_tree.specs.declared.tree.ResultType.TheVariants as outcome
use Rattle.jr_tree.specs.Shape.{IsName, IsShapedParam}
use Rattle.jr_tree.specs.Mirror.Decls as d
use Rattle.jr_parse_laws.specs.declared.fault.Fault.TheVariants.{NoTree}
use Rattle.jr_parse_laws.specs.Parsers.{Parser, and_then, first, pure, identifier, after_comma, ◌>>=◌}
use Rattle.jr_parse_laws.proofs.Lists.{many_over}
use Rattle.jr_parse_starts.specs.Starts.{no_level, over}
use Rattle.jr_parse_expr.specs.Names.{type_of, primitive_of, primitive_kind, name}
use Rattle.jr_parse_expr.specs.Exprs.{next_token, skipping}
use Rattle.jr_parse_expr.specs.Writing.{write_name}
use Rattle.jr_parse_expr.proofs.Locals.{Kept, at_token}
use Rattle.jr_parse_expr.proofs.AllLocals.{none_kept_by}
use Rattle.jr_parse_defs.specs.Begins.{some, modifier_kind, starts_modifier, begins_decl, starts_decl, starts_member, starts_param}
use Rattle.jr_parse_defs.specs.Stmts.{param}
use Rattle.jr_parse_defs.specs.Decls as reader
use Rattle.jr_parse_defs.specs.Writing.{write_after, write_param, write_modifier, write_member}
use Rattle.jr_parse_defs.proofs.Lists.{shortens_by}
use Rattle.jr_parse_defs.proofs.Modifiers as modifiers
use Rattle.jr_parse_defs.proofs.Units as units
use Rattle.jr_parse_defs.proofs.Units.{ReadsMember, both_read}
use Rattle.jr_parse_defs.proofs.Nears.{Near, then, gives, refuses, symbol, ident, skips, if_at, if_word, if_so, if_levels, told, by_token, by_next, same_as, passed, several, with_commas, any_with_commas}
use Rattle.jr_parse_defs.proofs.PartNears.{name_near, name_after_near, dims_near, type_near, declarators_after_near, param_near}
use Rattle.jr_parse_defs.proofs.StmtNears.{body_near, raise}
use Rattle.jr_parse_defs.proofs.BodyNears.{ctor_near}

module _ (room other : ℕ) (le : room ≤ other) where
  -- ---- modifiers and lists of names

  modifier_kept : (token : Kind) (o : Option Modifier) (ts : List Kind) → modifier_kind token ≡ o → Kept room other le modifiers.one (token ∷ ts) (reader.modifier_by o token ts)
  modifier_kept token None ts h = λ wider. at_token room other le modifiers.one NoTree token ts (λ us. ap (λ o. reader.modifier_by o token us) h)
  modifier_kept token (Some m) ts h = record { front = token ∷ []; split = refl; again = λ w e. ap (λ o. reader.modifier_by o token w) h }

  modifier_near : Near room other le modifiers.one modifiers.one
  modifier_near = by_next (λ token. reader.modifier_by (modifier_kind token) token) (λ token. reader.modifier_by (modifier_kind token) token) (λ token ts. modifier_kept token (modifier_kind token) ts refl)

  pub modifiers_near : Near room other le reader.modifiers reader.modifiers
  unfolding reader.modifiers
  modifiers_near =
      several starts_modifier refl (shortens_by modifiers.Fine write_modifier modifiers.one modifiers.one_sound modifiers.one_longer) (shortens_by modifiers.Fine write_modifier modifiers.one modifiers.one_sound modifiers.one_longer) modifier_near

  names_near : (w : Keyword) → Near room other le (reader.names_after w) (reader.names_after w)
  names_near w =
      let short = shortens_by IsName (write_after write_name) (after_comma name) modifiers.later_name_sound modifiers.later_name_longer in
      if_word w (skips (with_commas short short (name_near room other le))) (gives [])

  parent_near : Near room other le reader.parent reader.parent
  parent_near = if_word k.Extends (skips (then (name_near room other le) (λ n. gives (Some n)))) (gives None)

  params_near : Near room other le reader.params reader.params
  params_near =
      let short = shortens_by IsShapedParam (write_after write_param) (after_comma param) modifiers.later_param_sound modifiers.later_param_longer in
      then (symbol y.OpenParen) (λ u. then (any_with_commas starts_param short short (param_near room other le)) (λ all. then (symbol y.CloseParen) (λ v. gives all)))

  -- ---- declarations of types

  module _ (inner inner' : Parser d.Member) (reads : ReadsMember room inner) (reads' : ReadsMember other inner') (near : Near room other le inner inner') where
    members_near : Near room other le (reader.members room inner) (reader.members other inner')
    members_near =
        then (symbol y.OpenBrace) (λ u. then
        (several starts_member refl (shortens_by (units.Fits room) write_member inner (units.item room inner reads) (units.member_longer room))
        (shortens_by (units.Fits other) write_member inner' (units.item other inner' reads') (units.member_longer other)) near)
        (λ all. then (symbol y.CloseBrace) (λ v. gives (d.members all))))

    class_near : (mods : List Modifier) → Near room other le (reader.class_decl room inner mods) (reader.class_decl other inner' mods)
    unfolding reader.class_decl
    class_near mods = then ident (λ n. then parent_near (λ above. then (names_near k.Implements) (λ faces. then members_near (λ all. gives (d.Class mods n above faces all)))))

    interface_near : (mods : List Modifier) → Near room other le (reader.interface_decl room inner mods) (reader.interface_decl other inner' mods)
    unfolding reader.interface_decl
    interface_near mods = then ident (λ n. then (names_near k.Extends) (λ faces. then members_near (λ all. gives (d.Interface mods n faces all))))

    empty_near : Near room other le (pure d.Empty) (pure d.Empty)
    empty_near = gives d.Empty

    type_kept : (mods : List Modifier) (token : Kind) (ts : List Kind) → Kept room other le (next_token (reader.type_decl_by other inner' mods)) (token ∷ ts) (reader.type_decl_by room inner mods token ts)
    type_kept mods (kind.Word k.Class) ts = passed (reader.class_decl room inner mods) (reader.class_decl other inner' mods) (next_token (reader.type_decl_by other inner' mods)) (kind.Word k.Class) ts (λ us. refl) (class_near mods)
    type_kept mods (kind.Word k.Interface) ts =
        passed (reader.interface_decl room inner mods) (reader.interface_decl other inner' mods) (next_token (reader.type_decl_by other inner' mods)) (kind.Word k.Interface) ts (λ us. refl) (interface_near mods)
    type_kept [] (kind.Sym y.Semicolon) ts = passed (pure d.Empty) (pure d.Empty) (next_token (reader.type_decl_by other inner' [])) (kind.Sym y.Semicolon) ts (λ us. refl) empty_near
    type_kept [] token ts = λ wider. at_token room other le (next_token (reader.type_decl_by other inner' [])) NoTree token ts (λ us. refl)
    type_kept (m ∷ mods) token ts = λ wider. at_token room other le (next_token (reader.type_decl_by other inner' (m ∷ mods))) NoTree token ts (λ us. refl)

    type_decl_near : (mods : List Modifier) → Near room other le (reader.type_decl room inner mods) (reader.type_decl other inner' mods)
    unfolding reader.type_decl
    type_decl_near mods = by_next (reader.type_decl_by room inner mods) (reader.type_decl_by other inner' mods) (type_kept mods)

  -- ---- members

  module _ (nested nested' : List Modifier → Parser d.TypeDecl) (near : (mods : List Modifier) → Near room other le (nested mods) (nested' mods)) where
    method_body_near : Near room other le (reader.method_body room nested) (reader.method_body other nested')
    method_body_near = if_at y.Semicolon (skips (gives None)) (then (body_near room other le) (λ b. gives (Some b)))

    method_near : (mods : List Modifier) (gives' : ResultType) (n : Text) → Near room other le (reader.method room nested mods gives' n) (reader.method other nested' mods gives' n)
    unfolding reader.method
    method_near mods result n = then params_near (λ ps. then (names_near k.Throws) (λ thrown. then method_body_near (λ b. gives (d.Method mods result n ps thrown b))))

    constructor_near : (mods : List Modifier) (n : Text) → Near room other le (reader.constructor room nested mods n) (reader.constructor other nested' mods n)
    unfolding reader.constructor
    constructor_near mods n = then params_near (λ ps. then (names_near k.Throws) (λ thrown. then (ctor_near room other le) (λ b. gives (d.Constructor mods n ps thrown b))))

    field_near : (mods : List Modifier) (ty : TypeUse) (n : Text) → Near room other le (reader.field room nested mods ty n) (reader.field other nested' mods ty n)
    unfolding reader.field
    field_near mods ty n = then (declarators_after_near room other le n) (λ ds. then (symbol y.Semicolon) (λ u. gives (d.Field mods ty ds)))

    typed_near : (mods : List Modifier) (ty : TypeUse) → Near room other le (reader.typed room nested mods ty) (reader.typed other nested' mods ty)
    unfolding reader.typed
    typed_near mods ty = then ident (λ n. if_at y.OpenParen (method_near mods (outcome.Of ty) n) (field_near mods ty n))

    identified_near : (mods : List Modifier) (head : Text) → Near room other le (reader.identified room nested mods head) (reader.identified other nested' mods head)
    unfolding reader.identified
    identified_near mods head =
        if_at y.OpenParen (constructor_near mods head) (then (name_after_near room other le head) (λ n. then (dims_near room other le) (λ pairs. typed_near mods (type_of (base.Named n) pairs))))

    init_near : (b : Bool) → Near room other le (reader.initializer_block room nested b) (reader.initializer_block other nested' b)
    init_near b = then (body_near room other le) (λ body. gives (d.Init b body))

    braced_near : (mods : List Modifier) → Near room other le (reader.braced room nested mods) (reader.braced other nested' mods)
    braced_near [] = init_near false
    braced_near (m ∷ mods) = if_so (reader.is_static room nested (m ∷ mods)) (init_near true) refuses

    member_type_near : (mods : List Modifier) (o : Option Primitive) (token : Kind) → Near room other le (reader.member_type room nested mods o token) (reader.member_type other nested' mods o token)
    member_type_near mods None token = refuses
    member_type_near mods (Some p) token = then (type_near room other le) (typed_near mods)

    void_near : (mods : List Modifier) → Near room other le (skipping (identifier >>= reader.method room nested mods outcome.Void)) (skipping (identifier >>= reader.method other nested' mods outcome.Void))
    void_near mods = skips (then ident (method_near mods outcome.Void))

    abbrev one_nested : (List Modifier → Parser d.TypeDecl) → List Modifier → Parser d.Member
    one_nested f mods = f mods >>= (λ t. pure (d.Nested t))

    told_nested : (r : ℕ) (f : List Modifier → Parser d.TypeDecl) (mods : List Modifier) (ts : List Kind) → told (λ token. over 1 r (one_nested f mods)) ts ≡ reader.nested_decl r f mods ts
    told_nested r f mods [] = refl
    told_nested r f mods (token ∷ ts) = refl

    one_nested_near : (mods : List Modifier) → Near room other le (over 1 room (one_nested nested mods)) (over 1 other (one_nested nested' mods))
    one_nested_near mods = if_levels 1 (then (near mods) (λ t. gives (d.Nested t)))

    nested_near : (mods : List Modifier) → Near room other le (reader.nested_decl room nested mods) (reader.nested_decl other nested' mods)
    nested_near mods =
        same_as (told (λ token. over 1 room (one_nested nested mods))) (reader.nested_decl room nested mods) (told (λ token. over 1 other (one_nested nested' mods))) (reader.nested_decl other nested' mods)
        (told_nested room nested mods) (told_nested other nested' mods)
        (by_token (λ token. over 1 room (one_nested nested mods)) (λ token. over 1 other (one_nested nested' mods)) (λ token ts. (one_nested_near mods).kept (token ∷ ts)))

    member_kept : (mods : List Modifier) (token : Kind) (ts : List Kind) → Kept room other le (reader.member_by other nested' mods token) (token ∷ ts) (reader.member_by room nested mods token (token ∷ ts))
    member_kept mods (kind.Sym y.OpenBrace) ts = (braced_near mods).kept (kind.Sym y.OpenBrace ∷ ts)
    member_kept [] (kind.Sym y.Semicolon) ts = (nested_near []).kept (kind.Sym y.Semicolon ∷ ts)
    member_kept mods (kind.Word k.Class) ts = (nested_near mods).kept (kind.Word k.Class ∷ ts)
    member_kept mods (kind.Word k.Interface) ts = (nested_near mods).kept (kind.Word k.Interface ∷ ts)
    member_kept mods (kind.Word k.Void) ts = (void_near mods).kept (kind.Word k.Void ∷ ts)
    member_kept mods (kind.Ident head) ts = (skips (identified_near mods head)).kept (kind.Ident head ∷ ts)
    member_kept [] token ts = (member_type_near [] (primitive_kind token) token).kept (token ∷ ts)
    member_kept (m ∷ mods) token ts = (member_type_near (m ∷ mods) (primitive_kind token) token).kept (token ∷ ts)

    told_member : (r : ℕ) (f : List Modifier → Parser d.TypeDecl) (mods : List Modifier) (ts : List Kind) → told (reader.member_by r f mods) ts ≡ reader.after_modifiers r f mods ts
    told_member r f mods [] = refl
    told_member r f mods (token ∷ ts) = refl

    after_near : (mods : List Modifier) → Near room other le (reader.after_modifiers room nested mods) (reader.after_modifiers other nested' mods)
    after_near mods =
        same_as (told (reader.member_by room nested mods)) (reader.after_modifiers room nested mods) (told (reader.member_by other nested' mods)) (reader.after_modifiers other nested' mods)
        (told_member room nested mods) (told_member other nested' mods) (by_token (reader.member_by room nested mods) (reader.member_by other nested' mods) (member_kept mods))

    member_of_near : Near room other le (reader.member_of room nested) (reader.member_of other nested')
    unfolding reader.member_of
    member_of_near = then modifiers_near after_near

-- ---- of any number of levels

decl_zero : (mods : List Modifier) (ts : List Kind) → reader.decl zero mods ts ≡ no_level starts_decl ts
unfolding reader.decl
decl_zero mods ts = refl

decl_refused : (room : ℕ) (mods : List Modifier) (ts : List Kind) → starts_decl (first ts) ≡ false → reader.decl room mods ts ≡ Err (NoTree, ts)
unfolding reader.decl reader.type_decl
decl_refused zero mods ts h = rw h refl
decl_refused (suc room) mods [] h = refl
decl_refused (suc room) mods (kind.Word k.Class ∷ ts) h = absurd (cc)
decl_refused (suc room) mods (kind.Word k.Interface ∷ ts) h = absurd (cc)
decl_refused (suc room) mods (kind.Sym y.Semicolon ∷ ts) h = absurd (cc)
decl_refused (suc room) [] (token ∷ ts) h = refl
decl_refused (suc room) (m ∷ mods) (token ∷ ts) h = refl

member_zero : (ts : List Kind) → reader.member zero ts ≡ no_level starts_member ts
unfolding reader.member
member_zero ts = refl

module _ (room : ℕ) where
  abbrev nested_here : List Modifier → Parser d.TypeDecl
  nested_here = reader.decl room

  type_refused : (o : Option Primitive) (token : Kind) (ts : List Kind) → some o ≡ false → reader.member_type room nested_here [] o token (token ∷ ts) ≡ Err (NoTree, token ∷ ts)
  type_refused None token ts h = refl
  type_refused (Some p) token ts h = absurd (cc)

  plain_first : (token : Kind) → starts_member (Some token) ≡ false → starts_modifier (Some token) ≡ false
  plain_first (kind.Sym y.OpenBrace) h = refl
  plain_first (kind.Ident n) h = refl
  plain_first (kind.Word k.Void) h = refl
  plain_first (kind.Word k.Class) h = refl
  plain_first (kind.Word k.Interface) h = refl
  plain_first (kind.Word w) h = word_first w h where
    word_first : (w : Keyword) → (some (primitive_of w) || begins_decl (kind.Word w)) ≡ false → starts_modifier (Some (kind.Word w)) ≡ false
    word_first k.Class h = refl
    word_first k.Interface h = refl
    word_first w h = (or_parts (some (primitive_of w)) (begins_decl (kind.Word w)) h).1
  plain_first token h = refl

  by_refused : (token : Kind) (ts : List Kind) → starts_member (Some token) ≡ false → reader.after_modifiers room nested_here [] (token ∷ ts) ≡ Err (NoTree, token ∷ ts)
  by_refused (kind.Sym y.OpenBrace) ts h = absurd (cc)
  by_refused (kind.Sym y.Semicolon) ts h = absurd (cc)
  by_refused (kind.Word k.Class) ts h = absurd (cc)
  by_refused (kind.Word k.Interface) ts h = absurd (cc)
  by_refused (kind.Word k.Void) ts h = absurd (cc)
  by_refused (kind.Ident head) ts h = absurd (cc)
  by_refused (kind.Word w) ts h = type_refused (primitive_of w) (kind.Word w) ts (or_parts (some (primitive_of w)) (begins_decl (kind.Word w)) h).0
  by_refused token ts h = refl

  at_refused : (ts : List Kind) → starts_member (first ts) ≡ false → reader.member_of room nested_here ts ≡ Err (NoTree, ts)
  unfolding reader.member_of reader.modifiers
  at_refused [] h = ap (λ o. and_then o (reader.after_modifiers room nested_here)) (many_over starts_modifier modifiers.one [] refl)
  at_refused (token ∷ ts) h =
      ap (λ o. and_then o (reader.after_modifiers room nested_here)) (many_over starts_modifier modifiers.one (token ∷ ts) (plain_first token h)) ∙ by_refused token ts h

member_refused : (room : ℕ) (ts : List Kind) → starts_member (first ts) ≡ false → reader.member room ts ≡ Err (NoTree, ts)
unfolding reader.member
member_refused zero ts h = rw h refl
member_refused (suc room) ts h = at_refused room ts h

pub record NearBoth (room other : ℕ) (le : room ≤ other) : Type 0 where
  pub member : Near room other le (reader.member room) (reader.member other)
  pub decl : (mods : List Modifier) → Near room other le (reader.decl room mods) (reader.decl other mods)

pub both_near : (room other : ℕ) (le : room ≤ other) → NearBoth room other le
unfolding reader.member reader.decl
both_near zero other le = record {
  member = record {
    kept = λ ts. none_kept_by other le starts_member reader.member ts (starts_member (first ts)) refl member_zero (member_refused other);
  };
  decl = λ mods. record {
    kept = λ ts. none_kept_by other le starts_decl (λ n. reader.decl n mods) ts (starts_decl (first ts)) refl (decl_zero mods) (decl_refused other mods);
  };
}
both_near (suc room) zero le = absurd (omega arith)
both_near (suc room) (suc other) le =
    let low : room ≤ other = omega arith in
    let before = both_near room other low in
    let one = both_read room in
    let two = both_read other in
    record {
      member = raise room other low le (member_of_near room other low (reader.decl room) (reader.decl other) before.decl);
      decl = λ mods. raise room other low le (type_decl_near room other low (reader.member room) (reader.member other) one.member two.member before.member mods);
    }
